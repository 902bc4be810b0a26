-- Each part of a typed term's netlist is one of the seven. Assumes nothing.
use mathlib.Core.Bool.{Bool, false}
use mathlib.Core.List.{List, [], ◌∷◌, ◌++◌}
use Prim.Native.Nat.{ℕ, ◌+◌, ◌*◌}
use Rattle.calculus.specs.Types.{Ty, size, Table, tree}
use Rattle.calculus.specs.Terms.{Edition, Term, fun, app, lfun, lapp, pair, proj, fix, name}
use Rattle.calculus.specs.Net.{Bound, Made, points, turns, left_of, binder, first_half, second_half, whole_of, make}
use Rattle.calculus.specs.Rules.{Ctx, Typed, Var, LVar, →I, →E, ⊸I, ⊸E, ×I, ×E, Fix, Con, ×E'}
use Rattle.calculus.specs.Record.{All}
use Rattle.calculus.specs.NetRead.{Known}
use Rattle.circuit_theorems.proofs.Lists.{all_append}

points-known : (bs : List Bool) (n : ℕ) → All Known (points bs n)
points-known [] n = tt
points-known (b ∷ bs) n = (tt, points-known bs (n + 2))

-- a function's or a fixed point's points, then its body; or one subterm, then the other
behind : (τ : Ty) (n : ℕ) (x : Made) → All Known x.elements → All Known (points (turns false τ) n ++ x.elements)
behind τ n x p = all_append Known (points (turns false τ) n) x.elements (points-known (turns false τ) n) p

both : (x y : Made) → All Known x.elements → All Known y.elements → All Known (x.elements ++ y.elements)
both x y p q = all_append Known x.elements y.elements p q

pub made-known : {E : Edition} {Θ : Table} {Γ : Ctx} {e : Term} {τ : Ty} → Typed E Θ Γ e τ → (env : List Bound) (n : ℕ) → All Known (make Θ e env n).elements
made-known (Var i) env n = tt
made-known (LVar i) env n = tt
made-known {Θ = Θ} {e = fun t e} (→I w s d) env n =
    let θ = left_of (tree Θ t) in
    behind θ n (make Θ e (binder θ n ∷ env) (n + 2 * size θ)) (made-known d (binder θ n ∷ env) (n + 2 * size θ))
made-known {Θ = Θ} {e = app f a} (→E s sh d c) env n =
    let x = make Θ f env n in
    both x (make Θ a env x.next) (made-known d env n) (made-known c env x.next)
made-known {Θ = Θ} {e = lfun t e} (⊸I w s d) env n =
    let κ = left_of (tree Θ t) in
    behind κ n (make Θ e (binder κ n ∷ env) (n + 2 * size κ)) (made-known d (binder κ n ∷ env) (n + 2 * size κ))
made-known {Θ = Θ} {e = lapp f a} (⊸E s ar d c) env n =
    let x = make Θ f env n in
    both x (make Θ a env x.next) (made-known d env n) (made-known c env x.next)
made-known {Θ = Θ} {e = pair t a b} (×I s w p q d c) env n =
    let x = make Θ a env n in
    both x (make Θ b env x.next) (made-known d env n) (made-known c env x.next)
made-known {Θ = Θ} {e = proj a e} (×E s p q d c) env n =
    let x = make Θ a env n in
    let bound = second_half x ∷ first_half x ∷ env in
    both x (make Θ e bound x.next) (made-known d env n) (made-known c bound x.next)
made-known {Θ = Θ} {e = fix t e} (Fix w s d) env n =
    let θ = tree Θ t in
    behind θ n (make Θ e (binder θ n ∷ env) (n + 2 * size θ)) (made-known d (binder θ n ∷ env) (n + 2 * size θ))
made-known (Con h w l) env n = (h, tt)
made-known {Θ = Θ} {e = name a e} (×E' i s sh d c) env n =
    let x = make Θ a env n in
    both x (make Θ e (whole_of x ∷ env) x.next) (made-known d env n) (made-known c (whole_of x ∷ env) x.next)
