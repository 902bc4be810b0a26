-- `scopes::name_numbers` meets its contract. The invariant: the entries that were named and the numbers that are left are the scope's numbers. Assumes nothing.
use Prim.Native.Nat.{ℕ, ◌+◌}
use mathlib.Core.Path.{sym, subst}
use mathlib.Core.List.{List}
use native.Mathlib.Omega.{arith}
use Rattle.scopes.proofs.NamedLaws.{naming_room, NamingNumbers, numbers-done, place-there, numbers_more, value_small}
use Rattle.scopes.proofs.named.name_numbers.Goals as goal

pub value_of-v-requires : goal.value_of-v-requires
value_of-v-requires c = (omega (arith, c.requires.1.few), (naming_room c.args.text.now c.args.work.now c.args.first c.args.n c.requires.1 _ c.loop-i.work c.loop-i.i _ c.loop-i.invariant.naming))

pub bind-requires : goal.bind-requires
bind-requires c = (omega (arith, c.requires.1.few), ((naming_room c.args.text.now c.args.work.now c.args.first c.args.n c.requires.1 _ c.loop-i.work c.loop-i.i _ c.loop-i.invariant.naming), (omega (arith, c.requires.1.short, place-there c.args.text.now c.args.work.now c.args.at c.args.n c.args.first c.requires.1 c.loop-i.work c.loop-i.i c.loop-i.p c.loop-i.invariant c.loop-i-test.true c.number_behind-k.result c.number_behind-k.ensures c.value_of-v.result c.value_of-v.ensures.0 c.place_for-place.result c.place_for-place.ensures c.value_for-value.result c.value_for-value.ensures), value_small c.number_behind-k.result.named c.value_of-v.result c.number_behind-k.result.plus c.value_for-value.result c.value_for-value.ensures c.value_of-v.ensures.1)))

pub loop-i-preserved : goal.loop-i-preserved
loop-i-preserved c = subst (λ (l : List ℕ). NamingNumbers c.args.text.now c.args.work.now c.args.at c.args.n c.args.first l (c.loop-i.i + 1) c.number_behind-k.result.end) (sym c.bind.ensures) (numbers_more c.args.text.now c.args.work.now c.args.at c.args.n c.args.first c.requires.1 c.loop-i.work c.loop-i.i c.loop-i.p c.loop-i.invariant c.loop-i-test.true c.number_behind-k.result c.number_behind-k.ensures c.value_of-v.result c.value_of-v.ensures.0 c.place_for-place.result c.place_for-place.ensures c.value_for-value.result c.value_for-value.ensures)

pub returns : goal.returns
returns c = numbers-done c.args.text.now c.args.work.now c.args.at c.args.n c.args.first c.requires.1 c.loop-i.work c.loop-i.i c.loop-i.p c.loop-i.invariant c.loop-i-test.false
