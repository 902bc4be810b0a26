-- The invariant: so many names were read, and what stands at the offset decides. The measure is how many words are left. Assumes nothing.
use Rattle.std.proofs.lemmas.Result.{err_from_is_err_and}
use borrow.Author.Rules.{rules}
use Rattle.term_parts.proofs.NameLaws.{going_none, going-refused, going-low, going-inside, going_done, going_more, no_comma, listed_by_one, one_of_head}
use Rattle.grammar.proofs.EndLaws.{is_yes, is_no}
use Rattle.notation_calculus.specs.Grammar.{behind, list_from}
use Rattle.notation_machine.specs.Lists.{head_at}
use Rattle.notation_calculus.specs.Words.{comma}
use mathlib.Core.Bool.{not}
use mathlib.Core.Path.{refl, subst, ap}
use Rattle.words.specs.Next.{said_word}
use native.Mathlib.Omega.{arith}
use Rattle.term_parts.specs.Names.{HeadSays}
use Rattle.term_parts.proofs.names.count_listed.Goals as goal

pub loop-x-init : goal.loop-x-init
loop-x-init c = going_none head_at behind (list_from head_at) no_comma listed_by_one c.args.text.now c.args.at c.requires

pub head_at-requires : goal.head_at-requires
head_at-requires c = c.loop-x.invariant.lexed

pub returns-in_err-x : goal.returns-in_err-x
returns-in_err-x c =
    let p = err_from_is_err_and c.from_residual.result c.from_residual.ensures.1 in
    rw (p.1, p.2) (going-refused head_at behind (list_from head_at) no_comma listed_by_one c.args.text.now c.args.at c.loop-x.p c.loop-x.count c.loop-x.invariant _ (subst (HeadSays c.args.text.now c.loop-x.p) c.in_err-x.was c.head_at.ensures))

pub overflow_add-count : goal.overflow_add-count
overflow_add-count c =
    let X = one_of_head _ _ _ (subst (HeadSays c.args.text.now c.loop-x.p) c.in_ok-x.was c.head_at.ensures) in
    let l = going-low head_at behind (list_from head_at) no_comma listed_by_one c.args.text.now c.args.at c.loop-x.p c.loop-x.count c.loop-x.invariant c.in_ok-x.x X in
    let g = going-inside head_at behind (list_from head_at) no_comma listed_by_one c.args.text.now c.args.at c.loop-x.p c.loop-x.count c.loop-x.invariant c.in_ok-x.x X in
    search rules

pub word_at-c-requires : goal.word_at-c-requires
word_at-c-requires c = let X = one_of_head _ _ _ (subst (HeadSays c.args.text.now c.loop-x.p) c.in_ok-x.was c.head_at.ensures) in X.further.lexed

pub returns-then-c-ne-COMMA : goal.returns-then-c-ne-COMMA
returns-then-c-ne-COMMA c =
    let X = one_of_head _ _ _ (subst (HeadSays c.args.text.now c.loop-x.p) c.in_ok-x.was c.head_at.ensures) in
    going_done head_at behind (list_from head_at) no_comma listed_by_one c.args.text.now c.args.at c.loop-x.p c.loop-x.count c.loop-x.invariant c.in_ok-x.x X (ap not (is_no c.args.text.now c.in_ok-x.x.end (said_word c.word_at-c.result) c.word_at-c.ensures comma c.if-c-ne-COMMA.true)) _ refl

pub loop-x-smaller : goal.loop-x-smaller
loop-x-smaller c =
    let X = one_of_head _ _ _ (subst (HeadSays c.args.text.now c.loop-x.p) c.in_ok-x.was c.head_at.ensures) in
    let o = c.word_at-c.ensures.onward (λ z. omega (arith, c.if-c-ne-COMMA.false)) in
    omega (arith, X.further.fewer, o.fewer)

pub loop-x-preserved : goal.loop-x-preserved
loop-x-preserved c =
    let X = one_of_head _ _ _ (subst (HeadSays c.args.text.now c.loop-x.p) c.in_ok-x.was c.head_at.ensures) in
    let o = c.word_at-c.ensures.onward (λ z. omega (arith, c.if-c-ne-COMMA.false)) in
    going_more head_at behind (list_from head_at) no_comma listed_by_one c.args.text.now c.args.at c.loop-x.p c.loop-x.count c.loop-x.invariant c.in_ok-x.x X (ap not (is_yes c.args.text.now c.in_ok-x.x.end (said_word c.word_at-c.result) c.word_at-c.ensures comma c.if-c-ne-COMMA.false)) c.word_at-c.result.end o.rest (omega (arith, o.fewer)) (omega (arith, o.past)) o.lexed _ refl
