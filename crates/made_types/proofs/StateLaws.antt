-- The state at the beginning, and a state that is gone back to. Assumes nothing.
use Prim.Native.Nat.{ℕ, zero, suc, ◌+◌, ◌*◌, ◌≤◌, ◌<◌}
use mathlib.Core.Path.{◌≡◌, refl, ap, ◌∙◌}
use mathlib.Core.List.{List, [], ◌∷◌}
use native.Mathlib.Omega.{arith}
use lib.ListN.{length, get_or, set, length-set, length-append, get_or-append}
use lib.Seq.{get_or-set_same, get_or-set_other}
use Rattle.calculus.specs.Types.{size, rec01, Table, rec_at, tree}
use Rattle.sheet_theorems.proofs.TableRead.{tree_prefix}
use Rattle.notation_calculus.specs.Making.{State}
use Rattle.notation_theorems.proofs.TermsMean.{start_ready}
use Rattle.making_memory.specs.Map.{types_at, type_count_at, node_count_at, put_count_at, making_size}
use Rattle.made_types.specs.Held.{kind_number, left_number, right_number, kind_in, left_in_lem, right_in, bits_in_lem, HoldsTypes, HoldsState}
use Rattle.made_types.specs.States.{Begun, Beginning, Forgot}
use Rattle.made_types.proofs.Growth.{stored, stored-length, stored-count, stored_at, stored-above}

-- ---- the beginning

-- of one type, what holds at 0 holds below 1
only_first : (P : ℕ → Type 0) → P 0 → (t : ℕ) → t < 1 → P t
only_first P p zero h = p
only_first P p (suc t) h = absurd (omega arith)

abbrev begun_from : List ℕ → List ℕ
begun_from w = set (set (stored w 0 1 0 0 1) node_count_at 0) put_count_at 0

module _ (w : List ℕ) (room : making_size ≤ length w) where
  kept : (i : ℕ) → (i ≡ node_count_at → ⊥) → (i ≡ put_count_at → ⊥) → get_or (begun_from w) i 0 ≡ get_or (stored w 0 1 0 0 1) i 0
  kept i n p = get_or-set_other (set (stored w 0 1 0 0 1) node_count_at 0) put_count_at i 0 0 p ∙ get_or-set_other (stored w 0 1 0 0 1) node_count_at i 0 0 n

  begun-length : length (begun_from w) ≡ length w
  begun-length = length-set (set (stored w 0 1 0 0 1) node_count_at 0) put_count_at 0 ∙ length-set (stored w 0 1 0 0 1) node_count_at 0 ∙ stored-length w 0 1 0 0 1 room (omega arith)

  number : (j : ℕ) → j < 4 → get_or (begun_from w) (types_at + 4 * 0 + j) 0 ≡ get_or (1 ∷ 0 ∷ 0 ∷ 1 ∷ []) j 0
  number j h = kept (types_at + 4 * 0 + j) (λ e. omega arith) (λ e. omega arith) ∙ stored_at w 0 1 0 0 1 room (omega arith) j h

  begun-types : HoldsTypes (begun_from w) (rec01 ∷ [])
  begun-types = record {
    room = rw begun-length room;
    count = kept type_count_at (λ e. omega arith) (λ e. omega arith) ∙ stored-count w 0 1 0 0 1 room (omega arith);
    kinds = only_first (λ (t : ℕ). kind_in (begun_from w) t ≡ kind_number (rec_at (rec01 ∷ []) t)) (number 0 (omega arith));
    lefts = only_first (λ (t : ℕ). left_in_lem (begun_from w) t ≡ left_number (rec_at (rec01 ∷ []) t)) (number 1 (omega arith));
    rights = only_first (λ (t : ℕ). right_in (begun_from w) t ≡ right_number (rec_at (rec01 ∷ []) t)) (number 2 (omega arith));
    sizes = only_first (λ (t : ℕ). bits_in_lem (begun_from w) t ≡ size (tree (rec01 ∷ []) t)) (number 3 (omega arith));
    ok = start_ready.ok;
    one = refl;
    some = start_ready.some;
  }

  pub begun : Begun w (begun_from w)
  begun =
      let inner : List ℕ = set (stored w 0 1 0 0 1) node_count_at 0 in
      let l₀ = stored-length w 0 1 0 0 1 room (omega arith) in
      let l₁ = length-set (stored w 0 1 0 0 1) node_count_at 0 in
      record {
        same = begun-length;
        holds = record {
          types = begun-types;
          nodes = get_or-set_other inner put_count_at node_count_at 0 0 (λ e. omega arith) ∙ get_or-set_same (stored w 0 1 0 0 1) node_count_at 0 0 (omega arith);
          few = omega arith;
          puts = get_or-set_same inner put_count_at 0 0 (omega arith);
        };
        above = λ i h t n p. kept i n p ∙ stored-above w 0 1 0 0 1 room (omega arith) i (omega arith) t;
      }

-- ---- going back

module _ (w : List ℕ) (types nodes : ℕ) (room : making_size ≤ length w) where
  abbrev back : List ℕ
  back = set (set w type_count_at types) node_count_at nodes

  back-other : (i : ℕ) → (i ≡ type_count_at → ⊥) → (i ≡ node_count_at → ⊥) → get_or back i 0 ≡ get_or w i 0
  back-other i t n = get_or-set_other (set w type_count_at types) node_count_at i nodes 0 n ∙ get_or-set_other w type_count_at i types 0 t

  back-length : length back ≡ length w
  back-length = length-set (set w type_count_at types) node_count_at nodes ∙ length-set w type_count_at types

  -- what holds of the types of the longer table holds of the first ones
  module _ (σ : State) (Θ : Table) (H : HoldsState w σ) (B : Beginning Θ σ.table) where
    below : (t : ℕ) → t < length Θ → t < length σ.table
    below t h = omega (arith, ap (λ (l : Table). length l) B.joined, length-append Θ B.more)

    same-rec : (t : ℕ) → t < length Θ → rec_at σ.table t ≡ rec_at Θ t
    same-rec t h = ap (λ (l : Table). rec_at l t) B.joined ∙ get_or-append Θ B.more rec01 t h

    same-tree : (t : ℕ) → t < length Θ → tree σ.table t ≡ tree Θ t
    same-tree t h = ap (λ (l : Table). tree l t) B.joined ∙ tree_prefix Θ B.more t h

    low : (t : ℕ) → t < length Θ → t < 256
    low t h = let f = H.types.ok.few in omega (arith, below t h)

    back-types : types ≡ length Θ → HoldsTypes back Θ
    back-types e = record {
      room = rw back-length room;
      count = get_or-set_other (set w type_count_at types) node_count_at type_count_at nodes 0 (λ d. omega arith) ∙ get_or-set_same w type_count_at types 0 (omega arith) ∙ e;
      kinds = λ t h. back-other (types_at + 4 * t) (λ d. omega (arith, low t h)) (λ d. omega (arith, low t h)) ∙ H.types.kinds t (below t h) ∙ ap kind_number (same-rec t h);
      lefts = λ t h. back-other (types_at + 4 * t + 1) (λ d. omega (arith, low t h)) (λ d. omega (arith, low t h)) ∙ H.types.lefts t (below t h) ∙ ap left_number (same-rec t h);
      rights = λ t h. back-other (types_at + 4 * t + 2) (λ d. omega (arith, low t h)) (λ d. omega (arith, low t h)) ∙ H.types.rights t (below t h) ∙ ap right_number (same-rec t h);
      sizes = λ t h. back-other (types_at + 4 * t + 3) (λ d. omega (arith, low t h)) (λ d. omega (arith, low t h)) ∙ H.types.sizes t (below t h) ∙ ap size (same-tree t h);
      ok = B.ok;
      one = B.one;
      some = B.some;
    }

  pub forgot : Forgot w types nodes back
  forgot = record {
    same = back-length;
    other = back-other;
    holds = λ σ Θ H B e h.
        let f = H.few in
        let l = length-set w type_count_at types in
        record {
          types = back-types σ Θ H B e;
          nodes = get_or-set_same (set w type_count_at types) node_count_at nodes 0 (omega arith);
          few = omega arith;
          puts = back-other put_count_at (λ d. omega arith) (λ d. omega arith) ∙ H.puts;
        };
  }
