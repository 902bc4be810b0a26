-- Costs, by rows and as Making has them. Assumes nothing.
use Prim.Native.Nat.{ℕ, ◌+◌, ◌-◌, ◌/◌, ◌≤◌, ◌<◌}
use mathlib.Core.Path.{◌≡◌, refl, sym, ap, ◌∙◌}
use mathlib.Core.Bool.{Bool, true, false}
use mathlib.Core.List.{List}
use native.Mathlib.Omega.{arith}
use lib.ListN.{get_or, set}
use borrow.Author.Tests.{le-leb, lt-leb}
use Rattle.notation_calculus.specs.Trees.{Clause}
use Rattle.notation_calculus.specs.Grammar.{place}
use Rattle.notation_calculus.specs.Making.{cost_of, most_puts}
use Rattle.words.specs.Lexed.{from}
use Rattle.making_memory.specs.Map.{put_count_at}
use Rattle.clauses.specs.declared.rows.Row.{Row}
use Rattle.clauses.specs.Rows.{RowOf}
use Rattle.scopes.specs.Puts.{row_cost, PutCounted}

-- the cost of a row is that of its clause
pub cost_is : (text : List ℕ) (C : Clause) (r : Row) → RowOf text C r → cost_of C ≡ row_cost text r
unfolding row_cost
cost_is text C r R = ap (λ (e : ℕ). 1 + (e - C.head.place) / 32) R.end ∙ ap (λ (e : ℕ). 1 + (place (from text r.end) - e) / 32) R.name_place

-- .. where a word begins behind the clause
module _ (text : List ℕ) (r : Row) (start : ℕ) (s : start ≡ place (from text r.end)) where
  pub cost_none : start < r.name → 1 ≡ row_cost text r
  unfolding row_cost
  cost_none h = let z : start - r.name ≡ 0 = omega arith in sym (ap (λ (e : ℕ). 1 + (e - r.name) / 32) (sym s) ∙ ap (λ (e : ℕ). 1 + e / 32) z)

  pub cost_some : 1 + (start - r.name) / 32 ≡ row_cost text r
  unfolding row_cost
  cost_some = ap (λ (e : ℕ). 1 + (e - r.name) / 32) s

true_not : {C : Type 0} → ◌≡◌ {A = Bool} true false → C
true_not e = let z : ◌≡◌ {A = ℕ} 0 1 = cc in absurd (omega arith)

module _ (w : List ℕ) (cost : ℕ) where
  pub put_full : most_puts < get_or w put_count_at 0 + cost → PutCounted w cost w false
  put_full h = record { judged = sym (lt-leb (get_or w put_count_at 0 + cost) most_puts h); counted = λ e. true_not (sym e); same = λ _. refl }

  pub put-counted : (n : ℕ) → n ≡ get_or w put_count_at 0 → n + cost ≤ most_puts → PutCounted w cost (set w put_count_at (n + cost)) true
  put-counted n e h = record { judged = sym (le-leb (get_or w put_count_at 0 + cost) most_puts (omega arith)); counted = λ _. ap (λ (k : ℕ). set w put_count_at (k + cost)) e; same = λ q. true_not q }
