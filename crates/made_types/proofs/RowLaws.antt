-- A row, one bit after the other. Assumes nothing.
use Prim.Native.Nat.{ℕ, suc, ◌+◌, ◌-◌, ◌<◌, ◌≤◌}
use mathlib.Core.Path.{◌≡◌, refl, sym, ap, subst, ◌∙◌}
use mathlib.Core.List.{List}
use native.Mathlib.Omega.{arith}
use lib.ListN.{length, get_or}
use Rattle.std.proofs.Common.{Result, Ok, Err}
use Rattle.answers.specs.declared.Refusal.{Refusal}
use Rattle.calculus.specs.Answer.{Answer, good, refused, ◌>>=◌}
use Rattle.calculus.specs.Types.{rec02}
use Rattle.notation_calculus.specs.Making.{State, Found, listed, more_bits}
use Rattle.making_memory.specs.Map.{type_count_at, making_size}
use Rattle.made_types.specs.Held.{HoldsState, TypesOnly}
use Rattle.made_types.specs.declared.Kind.{Kind}
use Rattle.made_types.specs.Listing.{Listable, FoundIn, SmallType, ListedSays, RowSays}
use Rattle.made_types.proofs.ListLaws.{types_same, types_on}

abbrev bit : State → Found
bit σ = record { type = 0; state = σ }

-- the memory holds a type t and its state, left of which so many bits are still to come in the answer m
record Comes (w : List ℕ) (t place left : ℕ) (m : Answer Found) : Type 0 where
  row : Found
  is : m ≡ more_bits place left row
  type : t ≡ row.type
  known : t < length row.state.table
  holds : HoldsState w row.state

-- the row up to here, whatever state the memory held
pub record RowTo (w₀ : List ℕ) (more place : ℕ) (w : List ℕ) (t i : ℕ) : Type 0 where
  pub only : TypesOnly w₀ w
  pub small : t < 256
  says : (σ : State) → HoldsState w₀ σ → Comes w t place (more - i) (more_bits place more (bit σ))

module _ (w₀ : List ℕ) (more place : ℕ) where
  pub row_first : RowTo w₀ more place w₀ 0 0
  row_first =
      let e : more ≡ more - 0 = omega arith in
      record {
        only = types_same w₀;
        small = omega arith;
        says = λ σ H. record { row = bit σ; is = ap (λ (n : ℕ). more_bits place n (bit σ)) e; type = refl; known = H.types.some; holds = H };
      }

  module _ (w : List ℕ) (t i : ℕ) (R : RowTo w₀ more place w t i) where
    pub row-can : making_size ≤ length w₀ → get_or w₀ type_count_at 0 ≤ 256 → Listable w (record { kind = Kind.Product; left = 0; right = t })
    row-can room few = record { room = omega (arith, R.only.same); count = R.only.few few; form = omega arith; left = omega arith; right = R.small }

    pub row_done : more ≤ i → RowSays w₀ more place (Ok t) w
    row_done h =
        let e : more - i ≡ 0 = omega arith in
        record {
          only = R.only;
          small = R.small;
          says = λ σ H. let A = R.says σ H in subst (FoundIn w (Ok t)) (sym (A.is ∙ ap (λ (n : ℕ). more_bits place n A.row) e)) (A.type, (A.known, A.holds));
        }

    module _ (h : i < more) (x : Result ℕ Refusal) (w' : List ℕ) (L : ListedSays w (record { kind = Kind.Product; left = 0; right = t }) place x w') where
      -- what is answered, where what is listed next is known
      listed_next : (m₀ : Answer Found) (A : Comes w t place (more - i) m₀) (m : Answer Found) → listed A.row.state (rec02 0 t) place ≡ m → m₀ ≡ (m >>= λ y. more_bits place (more - (i + 1)) y)
      listed_next m₀ A m e =
          let n : more - i ≡ suc (more - (i + 1)) = omega arith in
          A.is ∙ ap (λ (k : ℕ). more_bits place k A.row) n ∙ ap (λ (u : ℕ). listed A.row.state (rec02 0 u) place >>= λ y. more_bits place (more - (i + 1)) y) (sym A.type) ∙ ap (λ (a : Answer Found). a >>= λ y. more_bits place (more - (i + 1)) y) e

      said : (m₀ : Answer Found) (A : Comes w t place (more - i) m₀) → FoundIn w' x (listed A.row.state (rec02 0 t) place)
      said m₀ A = L.says A.row.state A.holds (A.holds.types.some, A.known)

      next-by : (u : ℕ) (m₀ : Answer Found) (A : Comes w t place (more - i) m₀) (m : Answer Found) → listed A.row.state (rec02 0 t) place ≡ m → FoundIn w' (Ok u) m → Comes w' u place (more - (i + 1)) m₀
      next-by u m₀ A (good y) e (p, (k, H)) = record { row = y; is = listed_next m₀ A (good y) e; type = p; known = k; holds = H }
      next-by u m₀ A (refused why) e f = absurd f

      pub row_next : (u : ℕ) → x ≡ Ok u → RowTo w₀ more place w' u (i + 1)
      row_next u e = record {
        only = types_on w₀ w w' R.only L.only;
        small = subst SmallType e L.small;
        says = λ σ H. let A = R.says σ H in next-by u _ A (listed A.row.state (rec02 0 t) place) refl (subst (λ (y : Result ℕ Refusal). FoundIn w' y (listed A.row.state (rec02 0 t) place)) e (said _ A));
      }

      refused-by : (q : Refusal) (m₀ : Answer Found) (A : Comes w t place (more - i) m₀) (m : Answer Found) → listed A.row.state (rec02 0 t) place ≡ m → FoundIn w' (Err q) m → FoundIn w' (Err q) m₀
      refused-by q m₀ A (good y) e f = absurd f
      refused-by q m₀ A (refused why) e f = subst (FoundIn w' (Err q)) (sym (listed_next m₀ A (refused why) e)) f

      pub row-refused : (q : Refusal) → x ≡ Err q → RowSays w₀ more place (Err q) w'
      row-refused q e = record {
        only = types_on w₀ w w' R.only L.only;
        small = tt;
        says = λ σ H. let A = R.says σ H in refused-by q _ A (listed A.row.state (rec02 0 t) place) refl (subst (λ (y : Result ℕ Refusal). FoundIn w' y (listed A.row.state (rec02 0 t) place)) e (said _ A));
      }
