-- `scopes::numbers_given` meets its contract. The invariant: the values that were given stand in the scope, and the numbers that are left go
-- on from them. Assumes nothing.
use Prim.Native.Nat.{ℕ, ◌+◌}
use mathlib.Core.Path.{sym, subst}
use mathlib.Core.List.{List}
use native.Mathlib.Omega.{arith}
use Rattle.words.specs.Next.{said_word}
use Rattle.words.specs.Lexed.{from}
use Rattle.clauses.specs.Numbers.{NumberThere}
use Rattle.clauses.proofs.NumberLaws.{behind_on}
use Rattle.scopes.proofs.GivenLaws.{Giving, giving-known, giving-done, number-next, giving-full, giving-bad, giving-small, giving-more}
use Rattle.clauses.proofs.ItemLaws.{passed}
use Rattle.scopes.proofs.arguments.numbers_given.Goals as goal

pub returns-then-top-i-gt-MOST_ENTRIES : goal.returns-then-top-i-gt-MOST_ENTRIES
returns-then-top-i-gt-MOST_ENTRIES c = rw c.at.ensures (giving-full c.args.text.now c.args.work.now c.args.f c.args.start c.args.n c.args.name c.args.top c.requires c.loop-i.work c.loop-i.i c.loop-i.p c.loop-i.invariant c.loop-i-test.true c.if-top-i-gt-MOST_ENTRIES.true)

pub value_at-v-requires : goal.value_at-v-requires
value_at-v-requires c = (((behind_on c.args.text.now c.loop-i.p (said_word c.word_at-w.result) c.word_at-w.ensures (number-next c.args.text.now c.args.work.now c.args.f c.args.start c.args.n c.args.name c.args.top c.requires c.loop-i.work c.loop-i.i c.loop-i.p c.loop-i.invariant c.loop-i-test.true))).lexed, (subst NumberThere ((behind_on c.args.text.now c.loop-i.p (said_word c.word_at-w.result) c.word_at-w.ensures (number-next c.args.text.now c.args.work.now c.args.f c.args.start c.args.n c.args.name c.args.top c.requires c.loop-i.work c.loop-i.i c.loop-i.p c.loop-i.invariant c.loop-i-test.true))).rest (number-next c.args.text.now c.args.work.now c.args.f c.args.start c.args.n c.args.name c.args.top c.requires c.loop-i.work c.loop-i.i c.loop-i.p c.loop-i.invariant c.loop-i-test.true), giving-known c.args.text.now c.args.work.now c.args.f c.args.start c.args.n c.args.name c.args.top c.requires c.loop-i.work c.loop-i.i c.loop-i.p c.loop-i.invariant))

pub returns-in_err-v : goal.returns-in_err-v
returns-in_err-v c = let same = passed c.from_residual.result c.from_residual.ensures.1 in rw same (giving-bad c.args.text.now c.args.work.now c.args.f c.args.start c.args.n c.args.name c.args.top c.requires c.loop-i.work c.loop-i.i c.loop-i.p c.loop-i.invariant c.loop-i-test.true c.if-top-i-gt-MOST_ENTRIES.false (from c.args.text.now c.word_at-w.result.end) ((behind_on c.args.text.now c.loop-i.p (said_word c.word_at-w.result) c.word_at-w.ensures (number-next c.args.text.now c.args.work.now c.args.f c.args.start c.args.n c.args.name c.args.top c.requires c.loop-i.work c.loop-i.i c.loop-i.p c.loop-i.invariant c.loop-i-test.true))).rest c.value_at-v.result c.value_at-v.ensures _ c.in_err-v.was)

pub bind-requires : goal.bind-requires
bind-requires c = (omega (arith, c.if-top-i-gt-MOST_ENTRIES.false), ((giving-known c.args.text.now c.args.work.now c.args.f c.args.start c.args.n c.args.name c.args.top c.requires c.loop-i.work c.loop-i.i c.loop-i.p c.loop-i.invariant).places.room, (omega arith, omega (arith, giving-small c.args.text.now c.args.work.now c.args.f c.args.start c.args.n c.args.name c.args.top c.requires c.loop-i.work c.loop-i.i c.loop-i.p c.loop-i.invariant c.loop-i-test.true c.if-top-i-gt-MOST_ENTRIES.false (from c.args.text.now c.word_at-w.result.end) ((behind_on c.args.text.now c.loop-i.p (said_word c.word_at-w.result) c.word_at-w.ensures (number-next c.args.text.now c.args.work.now c.args.f c.args.start c.args.n c.args.name c.args.top c.requires c.loop-i.work c.loop-i.i c.loop-i.p c.loop-i.invariant c.loop-i-test.true))).rest c.value_at-v.result c.value_at-v.ensures _ c.in_ok-v.was))))

pub loop-i-preserved : goal.loop-i-preserved
loop-i-preserved c = subst (λ (l : List ℕ). Giving c.args.text.now c.args.work.now c.args.f c.args.start c.args.n c.args.name c.args.top l (c.loop-i.i + 1) c.value_at-v.result.end) (sym c.bind.ensures) (giving-more c.args.text.now c.args.work.now c.args.f c.args.start c.args.n c.args.name c.args.top c.requires c.loop-i.work c.loop-i.i c.loop-i.p c.loop-i.invariant c.loop-i-test.true c.if-top-i-gt-MOST_ENTRIES.false (from c.args.text.now c.word_at-w.result.end) ((behind_on c.args.text.now c.loop-i.p (said_word c.word_at-w.result) c.word_at-w.ensures (number-next c.args.text.now c.args.work.now c.args.f c.args.start c.args.n c.args.name c.args.top c.requires c.loop-i.work c.loop-i.i c.loop-i.p c.loop-i.invariant c.loop-i-test.true))).rest c.value_at-v.result c.value_at-v.ensures _ c.in_ok-v.was)

pub returns : goal.returns
returns c = giving-done c.args.text.now c.args.work.now c.args.f c.args.start c.args.n c.args.name c.args.top c.requires c.loop-i.work c.loop-i.i c.loop-i.p c.loop-i.invariant c.loop-i-test.false
