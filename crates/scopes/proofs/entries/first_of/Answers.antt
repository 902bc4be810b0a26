-- `scopes::first_of` meets its contract. The invariant: the entries that are left decide. Assumes nothing.
use Prim.Native.Nat.{ℕ, ◌≤◌}
use mathlib.Core.Path.{sym, subst, ◌∙◌}
use lib.ListN.{length}
use Rattle.scopes.proofs.EntryLaws.{first_found, first_more, first-all}
use Rattle.scopes.proofs.entries.first_of.Goals as goal

pub is_name-requires : goal.is_name-requires
is_name-requires c =
    let l = c.loop-e in
    (c.requires.1.1, (subst (λ (p : ℕ). p ≤ length c.args.text.now) (sym c.place_of-p.ensures) (c.requires.0.inside l.e l.invariant.low c.loop-e-test.true), c.long_of-long.ensures))

pub returns-then-is_name : goal.returns-then-is_name
returns-then-is_name c =
    let l = c.loop-e in
    let p = c.place_of-p in
    first_found c.args.text.now c.args.work.now c.args.name c.args.from c.args.to l.e l.invariant c.loop-e-test.true p.result p.ensures (sym c.is_name.ensures ∙ c.if-is_name.true)

pub loop-e-preserved : goal.loop-e-preserved
loop-e-preserved c =
    let l = c.loop-e in
    let p = c.place_of-p in
    first_more c.args.text.now c.args.work.now c.args.name c.args.from c.args.to l.e l.invariant c.loop-e-test.true p.result p.ensures (sym c.is_name.ensures ∙ c.if-is_name.false)

pub returns : goal.returns
returns c =
    let l = c.loop-e in
    first-all c.args.text.now c.args.work.now c.args.name c.args.from c.args.to l.e l.invariant c.loop-e-test.false
