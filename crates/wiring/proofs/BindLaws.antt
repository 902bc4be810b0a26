-- Binders on a stack that grows: the old ones stand, and a new one is the nearest. Assumes nothing.
use Prim.Native.Nat.{ℕ, zero, suc, ◌+◌, ◌*◌, ◌≤◌, ◌<◌}
use mathlib.Core.Path.{◌≡◌, sym, ap, ◌∙◌}
use mathlib.Core.Logic.{inl, inr, ⊎_elim}
use mathlib.Core.List.{List, [], ◌∷◌, ◌++◌}
use native.Mathlib.Omega.{arith}
use lib.ListN.{length, get_or, take, drop, length-append, length-drop, get_or-append}
use lib.Seq.{take-append-le, drop-append-le, get_or-append-add}
use Rattle.calculus.specs.Types.{Table, tree, size}
use Rattle.calculus.specs.Net.{Bound, unbound}
use Rattle.memory.specs.Map.{region}
use Rattle.wiring.specs.Asks.{OfStack, BoundAt, slot, Binds}

region-append : (xs ys : List ℕ) (h n : ℕ) → h + n ≤ length xs → region (xs ++ ys) h n ≡ region xs h n
region-append xs ys h n l =
    ap (take n) (drop-append-le h xs ys (omega arith)) ∙ take-append-le n (drop h xs) ys (rw length-drop (omega arith))

pub bound_grows : {Θ : Table} {stack : List ℕ} {t place : ℕ} {b : Bound} (xs : List ℕ) → BoundAt Θ stack t place b → BoundAt Θ (stack ++ xs) t place b
bound_grows {Θ} {stack} {t} {place} {b} xs B = record { named = B.named; type = B.type; side = ⊎_elim inl (λ p. inr (stacked p)) B.side }
  where
    stacked : OfStack stack (tree Θ t) place b.side → OfStack (stack ++ xs) (tree Θ t) place b.side
    stacked p = record {
      height = p.height;
      place_is = p.place_is;
      below = omega (arith, p.below, length-append stack xs);
      shown = p.shown ∙ sym (region-append stack xs p.height (size (tree Θ t)) p.below);
    }

pub binds_grow : {Θ : Table} {stack binders : List ℕ} {scope : ℕ} {env : List Bound} (xs : List ℕ) → Binds Θ stack binders scope env → Binds Θ (stack ++ xs) binders scope env
binds_grow xs B = record { count = B.count; all = B.all; each = λ i h. bound_grows xs (B.each i h) }

pub binds_push : {Θ : Table} {stack : List ℕ} (binders : List ℕ) {scope : ℕ} {env : List Bound} → Binds Θ stack binders scope env
    → (t place : ℕ) (b : Bound) → BoundAt Θ stack t place b → Binds Θ stack (binders ++ t ∷ place ∷ []) (scope + 1) (b ∷ env)
binds_push {Θ} {stack} binders {scope} {env} B t place b N = record {
  count = omega (arith, length-append binders (t ∷ place ∷ []), B.count);
  all = omega (arith, B.all);
  each = each;
}
  where
    ends : (k v : ℕ) (h : length binders ≡ 2 * scope) → get_or (binders ++ t ∷ place ∷ []) (2 * scope + k) 0 ≡ get_or (t ∷ place ∷ []) k 0
    ends k v h = rw (← h) (get_or-append-add binders (t ∷ place ∷ []) k 0)

    each : (i : ℕ) → i < scope + 1 → BoundAt Θ stack (get_or (binders ++ t ∷ place ∷ []) (slot (scope + 1) i) 0) (get_or (binders ++ t ∷ place ∷ []) (slot (scope + 1) i + 1) 0) (get_or (b ∷ env) i unbound)
    each zero h =
        let e₀ : slot (scope + 1) 0 ≡ 2 * scope + 0 = omega arith in
        let e₁ : slot (scope + 1) 0 + 1 ≡ 2 * scope + 1 = omega arith in
        rw (e₁, e₀, ends 0 t B.count, ends 1 t B.count) N
    each (suc i) h =
        let e : slot (scope + 1) (suc i) ≡ slot scope i = omega arith in
        rw (e, get_or-append binders (t ∷ place ∷ []) 0 (slot scope i) (omega (arith, B.count)), get_or-append binders (t ∷ place ∷ []) 0 (slot scope i + 1) (omega (arith, B.count))) (B.each i (omega arith))
