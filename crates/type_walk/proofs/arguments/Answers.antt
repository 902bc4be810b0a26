-- `type_walk::arguments` meets its contract. The types that wait are the first of those that `found_all` finds, and the words from the offset on are those of the others. Assumes nothing.
use native.Mathlib.Omega.{arith}
use mathlib.Core.Path.{◌∙◌}
use Rattle.answers.proofs.Passed.{passed}
use Rattle.words.specs.Next.{said_word}
use Rattle.type_walk.proofs.ManyLaws.{keeps_first, keeps_same, keeps-few, keeps-can, keeps-full, keeps-long, keeps-there, keeps-refused, keeps-more, keeps-last}
use Rattle.type_walk.proofs.arguments.Goals as goal

pub overflow_sub-i-end : goal.overflow_sub-i-end
overflow_sub-i-end c = c.requires.can.walk.walkable.scope.places.most

pub loop-i-init : goal.loop-i-init
loop-i-init c = λ C. keeps_first _ _ _ _ _ _ _ C

pub overflow_add-top : goal.overflow_add-top
overflow_add-top c = omega (arith, keeps-few _ _ _ _ _ _ _ c.requires _ _ _ (c.loop-i.invariant c.requires))

pub type_from-requires : goal.type_from-requires
type_from-requires c = keeps-can _ _ _ _ _ _ _ c.requires _ _ _ (c.loop-i.invariant c.requires)

pub shape_of-work-in_err-t : goal.shape_of-work-in_err-t
shape_of-work-in_err-t c = c.type_from.ensures.walked.same ∙ keeps_same _ _ _ _ _ _ _ c.requires _ _ _ (c.loop-i.invariant c.requires)

pub returns-in_err-t : goal.returns-in_err-t
returns-in_err-t c = rw (passed c.from_residual.result c.from_residual.ensures.1) (keeps-refused _ _ _ _ _ _ _ c.requires _ _ _ (c.loop-i.invariant c.requires) (omega (arith, c.loop-i-test.true)) _ _ c.type_from.ensures _ c.in_err-t.was)

pub overflow_add-top-in-loop-i : goal.overflow_add-top-in-loop-i
overflow_add-top-in-loop-i c = omega (arith, keeps-few _ _ _ _ _ _ _ c.requires _ _ _ (c.loop-i.invariant c.requires))

pub bind-requires : goal.bind-requires
bind-requires c = (omega (arith, c.loop-i-test.true), (keeps-long _ _ _ _ _ _ _ c.requires _ _ _ (c.loop-i.invariant c.requires) (omega (arith, c.loop-i-test.true)) _ _ c.type_from.ensures, (omega arith, omega (arith, c.from.ensures, (keeps-there _ _ _ _ _ _ _ c.requires _ _ _ (c.loop-i.invariant c.requires) (omega (arith, c.loop-i-test.true)) _ _ c.type_from.ensures _ c.in_ok-t.was).1))))

pub word_at-c-requires : goal.word_at-c-requires
word_at-c-requires c = (keeps-there _ _ _ _ _ _ _ c.requires _ _ _ (c.loop-i.invariant c.requires) (omega (arith, c.loop-i-test.true)) _ _ c.type_from.ensures _ c.in_ok-t.was).0

pub overflow_add-result : goal.overflow_add-result
overflow_add-result c = omega (arith, keeps-few _ _ _ _ _ _ _ c.requires _ _ _ (c.loop-i.invariant c.requires))

pub shape_of-work-then-c-ne-COMMA : goal.shape_of-work-then-c-ne-COMMA
shape_of-work-then-c-ne-COMMA c = (keeps-last _ _ _ _ _ _ _ c.requires _ _ _ (c.loop-i.invariant c.requires) (omega (arith, c.loop-i-test.true)) _ _ c.type_from.ensures _ _ c.in_ok-t.was c.from.ensures _ c.bind.ensures (said_word c.word_at-c.result) c.word_at-c.ensures c.if-c-ne-COMMA.true).walked.same

pub returns-then-c-ne-COMMA : goal.returns-then-c-ne-COMMA
returns-then-c-ne-COMMA c = keeps-last _ _ _ _ _ _ _ c.requires _ _ _ (c.loop-i.invariant c.requires) (omega (arith, c.loop-i-test.true)) _ _ c.type_from.ensures _ _ c.in_ok-t.was c.from.ensures _ c.bind.ensures (said_word c.word_at-c.result) c.word_at-c.ensures c.if-c-ne-COMMA.true

pub loop-i-preserved : goal.loop-i-preserved
loop-i-preserved c = λ C. keeps-more _ _ _ _ _ _ _ C _ _ _ (c.loop-i.invariant C) (omega (arith, c.loop-i-test.true)) _ _ c.type_from.ensures _ _ c.in_ok-t.was c.from.ensures _ c.bind.ensures (said_word c.word_at-c.result) c.word_at-c.ensures c.if-c-ne-COMMA.false

pub shape_of-work : goal.shape_of-work
shape_of-work c = keeps_same _ _ _ _ _ _ _ c.requires _ _ _ (c.loop-i.invariant c.requires)

pub returns : goal.returns
returns c = rw c.at.ensures (keeps-full _ _ _ _ _ _ _ c.requires _ _ _ (c.loop-i.invariant c.requires) (omega (arith, c.loop-i-test.false)))
