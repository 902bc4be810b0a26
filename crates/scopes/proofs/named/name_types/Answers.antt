-- `scopes::name_types` meets its contract. The invariant: the entries that were named and the names that are left are the scope's types. Assumes nothing.
use Prim.Native.Nat.{ℕ, ◌+◌}
use mathlib.Core.Path.{sym, subst}
use mathlib.Core.List.{List}
use native.Mathlib.Omega.{arith}
use Rattle.words.specs.Next.{said_word}
use Rattle.scopes.proofs.NamedLaws.{naming_room, NamingTypes, types-done, bracket-on, name_inside, types_more}
use Rattle.scopes.proofs.named.name_types.Goals as goal

pub word_at-w-requires : goal.word_at-w-requires
word_at-w-requires c = (bracket-on c.args.text.now c.args.work.now c.args.at c.args.n c.args.first c.requires.1 c.loop-i.work c.loop-i.i c.loop-i.p c.loop-i.invariant c.loop-i-test.true (said_word c.word_at-b.result) c.word_at-b.ensures).lexed

pub value_of-v-requires : goal.value_of-v-requires
value_of-v-requires c = (omega (arith, c.requires.1.few), (naming_room c.args.text.now c.args.work.now c.args.first c.args.n c.requires.1 _ c.loop-i.work c.loop-i.i _ c.loop-i.invariant.naming))

pub bind-requires : goal.bind-requires
bind-requires c = (omega (arith, c.requires.1.few), ((naming_room c.args.text.now c.args.work.now c.args.first c.args.n c.requires.1 _ c.loop-i.work c.loop-i.i _ c.loop-i.invariant.naming), (omega (arith, c.requires.1.short, name_inside c.args.text.now c.args.work.now c.args.at c.args.n c.args.first c.requires.1 c.loop-i.work c.loop-i.i c.loop-i.p c.loop-i.invariant c.loop-i-test.true (said_word c.word_at-b.result) c.word_at-b.ensures (said_word c.word_at-w.result) c.word_at-w.ensures), c.value_of-v.ensures.1)))

pub loop-i-preserved : goal.loop-i-preserved
loop-i-preserved c = subst (λ (l : List ℕ). NamingTypes c.args.text.now c.args.work.now c.args.at c.args.n c.args.first l (c.loop-i.i + 1) c.word_at-w.result.end) (sym c.bind.ensures) (types_more c.args.text.now c.args.work.now c.args.at c.args.n c.args.first c.requires.1 c.loop-i.work c.loop-i.i c.loop-i.p c.loop-i.invariant c.loop-i-test.true (said_word c.word_at-b.result) c.word_at-b.ensures (said_word c.word_at-w.result) c.word_at-w.ensures c.value_of-v.result c.value_of-v.ensures.0)

pub returns : goal.returns
returns c = types-done c.args.text.now c.args.work.now c.args.at c.args.n c.args.first c.requires.1 c.loop-i.work c.loop-i.i c.loop-i.p c.loop-i.invariant c.loop-i-test.false
