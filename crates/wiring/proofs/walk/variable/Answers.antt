-- `wiring::variable` meets its contract: its binder's two numbers say what is shown. Assumes nothing.
use native.Mathlib.Omega.{arith}
use Prim.Native.Nat.{ℕ, ◌+◌, ◌*◌, ◌-◌}
use mathlib.Core.Path.{◌≡◌, refl, ap}
use Rattle.memory.specs.Map.{binders_at}
use Rattle.wiring.specs.Asks.{slot}
use Rattle.wiring.proofs.LeafLaws.{var_scope, var-room, var-named, var-showable, var-leaves}
use Rattle.wiring.proofs.walk.variable.Goals as goal

pub overflow_sub-k : goal.overflow_sub-k
overflow_sub-k c =
    let p = c.requires in
    let h = var_scope p.0 p.1 p.2 in
    omega arith

pub overflow_sub-k-2 : goal.overflow_sub-k-2
overflow_sub-k-2 c =
    let p = c.requires in
    let h = var_scope p.0 p.1 p.2 in
    omega (arith, c.wide.ensures)

pub overflow_cast-ty : goal.overflow_cast-ty
overflow_cast-ty c =
    let p = c.requires in
    let e = c.wide.ensures in
    let h = var-room p.0 p.1 p.2 (binders_at + 2 * (c.args.st.scope - 1 - c.wide.result)) (ap (λ (x : ℕ). binders_at + slot c.args.st.scope x) e) in
    omega arith

pub show-requires : goal.show-requires
show-requires c =
    let p = c.requires in
    let e = c.wide.ensures in
    var-showable p.0 p.1 p.2 (binders_at + 2 * (c.args.st.scope - 1 - c.wide.result)) (ap (λ (x : ℕ). binders_at + slot c.args.st.scope x) e) _ refl

pub returns : goal.returns
returns c =
    λ q.
    let p = c.requires in
    let e = c.wide.ensures in
    let k = binders_at + 2 * (c.args.st.scope - 1 - c.wide.result) in
    let ek : k ≡ binders_at + slot c.args.st.scope c.args.node.first = ap (λ (x : ℕ). binders_at + slot c.args.st.scope x) e in
    var-leaves q p.1 p.2 k ek _ refl c.size_of-len.result c.size_of-len.ensures _ (c.show.ensures (var-named q p.1 p.2 k ek))
