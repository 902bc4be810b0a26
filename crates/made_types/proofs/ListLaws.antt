-- Each way out of `listed` is the definition's. Assumes nothing.
use Prim.Native.Nat.{ℕ, ◌+◌, ◌<◌, ◌≤◌}
use mathlib.Core.Path.{◌≡◌, refl, sym, ◌∙◌}
use mathlib.Core.Bool.{true, false}
use mathlib.Core.List.{List, [], ◌∷◌, ◌++◌}
use native.Mathlib.Omega.{arith}
use lib.ListN.{length, get_or}
use borrow.Author.Tests.{le-leb, lt-leb, lt-ltb, le-ltb}
use Rattle.std.proofs.Common.{Ok, Err}
use Rattle.answers.specs.declared.Reason.{Reason}
use Rattle.answers.specs.Refusals.{refusal_at}
use Rattle.calculus.specs.Answer.{good, refuse}
use Rattle.calculus.specs.Types.{size, TyRec, Table, ty_of, tys_from, tree}
use Rattle.calculus.specs.Read.{formed, repeated}
use Rattle.sheet_theorems.specs.Laid.{Below}
use Rattle.notation_calculus.specs.Making.{State, Found, with_type, number_in, listed}
use Rattle.notation_theorems.proofs.Answering.{on_good}
use Rattle.notation_theorems.proofs.Growing.{Ready, Listed, listed-holds}
use Rattle.making_memory.specs.Map.{type_count_at, node_count_at, put_count_at}
use Rattle.made_types.specs.Held.{kind_number, left_number, right_number, bits_in_lem, HoldsTypes, HoldsState, TypesOnly}
use Rattle.made_types.specs.Listing.{kind_byte, rec_of_kind, record_of_lem, formed_in, Searched, Listable, ListedSays}
use Rattle.made_types.specs.declared.Record.{Record}
use Rattle.made_types.proofs.Sorts.{by_form, kind_known, ready_of, formed_in_lem}
use Rattle.made_types.proofs.Finding.{found_old, found_new}
use Rattle.made_types.proofs.Growth.{stored, stored_only, stored-above, holds-stored}

-- ---- the definition, way by way

module _ (σ : State) (q : TyRec) (at : ℕ) where
  abbrev Θ : Table
  Θ = σ.table

  is-old : repeated Θ q ≡ true → listed σ q at ≡ good (record { type = number_in Θ 0 q; state = σ })
  unfolding listed
  is-old r = rw r

  is-bad : repeated Θ q ≡ false → formed Θ q ≡ false → listed σ q at ≡ refuse 35 at
  unfolding listed
  is-bad r f = rw (r, f)

  is-big : repeated Θ q ≡ false → formed Θ q ≡ true → 128 < size (ty_of (tys_from [] Θ) q) → listed σ q at ≡ refuse 34 at
  unfolding listed
  is-big r f s = rw (r, f, lt-leb (size (ty_of (tys_from [] Θ) q)) 128 s)

  is-full : repeated Θ q ≡ false → formed Θ q ≡ true → size (ty_of (tys_from [] Θ) q) ≤ 128 → 256 ≤ length Θ → listed σ q at ≡ refuse 34 at
  unfolding listed
  is-full r f s h = rw (r, f, le-leb (size (ty_of (tys_from [] Θ) q)) 128 s, le-ltb (length Θ) 256 h)

  is-new : repeated Θ q ≡ false → formed Θ q ≡ true → size (ty_of (tys_from [] Θ) q) ≤ 128 → length Θ < 256 → listed σ q at ≡ good (record { type = length Θ; state = with_type σ q })
  unfolding listed
  is-new r f s h = rw (r, f, le-leb (size (ty_of (tys_from [] Θ) q)) 128 s, lt-ltb (length Θ) 256 h)

-- ---- the numbers of a record

kind_of_form : (k a b : ℕ) → 2 ≤ k → k ≤ 4 → (kind_number (rec_of_kind k a b) ≡ k) × ((left_number (rec_of_kind k a b) ≡ a) × (right_number (rec_of_kind k a b) ≡ b))
kind_of_form k a b low high = by_form (λ (n : ℕ). (kind_number (rec_of_kind n a b) ≡ n) × ((left_number (rec_of_kind n a b) ≡ a) × (right_number (rec_of_kind n a b) ≡ b))) (refl, (refl, refl)) (refl, (refl, refl)) (refl, (refl, refl)) k low high

-- the sides of a form are below what both numbers are below
sides-below : (n k a b : ℕ) → 2 ≤ k → k ≤ 4 → Below n (rec_of_kind k a b) → (a < n) × (b < n)
sides-below n k a b low high = by_form (λ (m : ℕ). Below n (rec_of_kind m a b) → (a < n) × (b < n)) (λ h. h) (λ h. h) (λ h. h) k low high

size_of_form : (Θ : Table) (k a b : ℕ) → 2 ≤ k → k ≤ 4 → size (ty_of (tys_from [] Θ) (rec_of_kind k a b)) ≡ size (tree Θ a) + size (tree Θ b)
size_of_form Θ k a b low high = by_form (λ (n : ℕ). size (ty_of (tys_from [] Θ) (rec_of_kind n a b)) ≡ size (tree Θ a) + size (tree Θ b)) refl refl refl k low high

bits_in : (w : List ℕ) (Θ : Table) (r : Record) → HoldsTypes w Θ → Listable w r → Below (length Θ) (record_of_lem r) → bits_in_lem w r.left + bits_in_lem w r.right ≡ size (ty_of (tys_from [] Θ) (record_of_lem r))
bits_in w Θ r H L B =
    let (a, b) = sides-below (length Θ) (kind_byte r.kind) r.left r.right L.form (kind_known r.kind) B in
    rw (H.sizes r.left a, H.sizes r.right b) (sym (size_of_form Θ (kind_byte r.kind) r.left r.right L.form (kind_known r.kind)))

-- ---- the memory

pub types_same : (w : List ℕ) → TypesOnly w w
types_same w = record { same = refl; below = λ i h. refl; above = λ i h n. refl; more = omega arith; few = λ h. h }

pub types_on : (u v w : List ℕ) → TypesOnly u v → TypesOnly v w → TypesOnly u w
types_on u v w a b =
    let m = a.more in
    let n = b.more in
    record {
      same = b.same ∙ a.same;
      below = λ i h. b.below i h ∙ a.below i h;
      above = λ i h d. b.above i h d ∙ a.above i h d;
      more = omega arith;
      few = λ h. b.few (a.few h);
    }

module _ (w : List ℕ) (r : Record) (place : ℕ) (k : ℕ) (L : Listable w r) (S : Searched w r k) where
  pub says_old : k < get_or w type_count_at 0 → ListedSays w r place (Ok k) w
  says_old h = record {
    only = types_same w;
    small = let c = L.count in omega arith;
    says = λ σ H B.
        let l : k < length σ.table = let c = H.types.count in omega arith in
        let (n, t) = found_old w σ.table r k H.types L S l in
        rw (is-old σ (record_of_lem r) place t) (sym n, (l, H));
  }

  -- the facts of a record that does not stand there
  abbrev New : State → Type 0
  New σ = (k ≡ length σ.table) × (repeated σ.table (record_of_lem r) ≡ false)

  new-one : get_or w type_count_at 0 ≤ k → (σ : State) → HoldsState w σ → Below (length σ.table) (record_of_lem r) → New σ
  new-one h σ H B = found_new w σ.table r k H.types L S (sides-below (length σ.table) (kind_byte r.kind) r.left r.right L.form (kind_known r.kind) B).1 (let c = H.types.count in omega arith)

  formed-one : (σ : State) → HoldsState w σ → Below (length σ.table) (record_of_lem r) → formed_in w r ≡ formed σ.table (record_of_lem r)
  formed-one σ H B = formed_in_lem w σ.table H.types (kind_byte r.kind) r.left r.right L.form (kind_known r.kind) B

  pub says_bad : get_or w type_count_at 0 ≤ k → formed_in w r ≡ false → ListedSays w r place (Err (refusal_at Reason.WrongSide place)) w
  says_bad h f = record {
    only = types_same w;
    small = tt;
    says = λ σ H B. rw (is-bad σ (record_of_lem r) place (new-one h σ H B).1 (sym (formed-one σ H B) ∙ f)) refl;
  }

  pub says_big : get_or w type_count_at 0 ≤ k → formed_in w r ≡ true → 128 < bits_in_lem w r.left + bits_in_lem w r.right → ListedSays w r place (Err (refusal_at Reason.TextLimit place)) w
  says_big h f s = record {
    only = types_same w;
    small = tt;
    says = λ σ H B. rw (is-big σ (record_of_lem r) place (new-one h σ H B).1 (sym (formed-one σ H B) ∙ f) (omega (arith, bits_in w σ.table r H.types L B))) refl;
  }

  module _ (h : get_or w type_count_at 0 ≤ k) (f : formed_in w r ≡ true) (s : bits_in_lem w r.left + bits_in_lem w r.right ≤ 128) where
    pub says-full : 256 ≤ k → ListedSays w r place (Err (refusal_at Reason.TextLimit place)) w
    says-full m = record {
      only = types_same w;
      small = tt;
      says = λ σ H B. rw (is-full σ (record_of_lem r) place (new-one h σ H B).1 (sym (formed-one σ H B) ∙ f) (omega (arith, bits_in w σ.table r H.types L B)) (omega (arith, (new-one h σ H B).0))) refl;
    }

    new-state : (σ : State) → HoldsState w σ → Below (length σ.table) (record_of_lem r) → k < 256 → Ready (σ.table ++ record_of_lem r ∷ []) → HoldsState (stored w k (kind_byte r.kind) r.left r.right (bits_in_lem w r.left + bits_in_lem w r.right)) (with_type σ (record_of_lem r))
    new-state σ H B m R =
        let (e, n) = new-one h σ H B in
        let (a, (b, c)) = kind_of_form (kind_byte r.kind) r.left r.right L.form (kind_known r.kind) in
        let bits : ℕ = bits_in_lem w r.left + bits_in_lem w r.right in
        let above = stored-above w k (kind_byte r.kind) r.left r.right bits L.room m in
        record {
          types = holds-stored w σ.table (record_of_lem r) k (kind_byte r.kind) r.left r.right bits H.types e a b c m R (bits_in w σ.table r H.types L B);
          nodes = above node_count_at (omega arith) (λ z. omega arith) ∙ H.nodes;
          few = H.few;
          puts = above put_count_at (omega arith) (λ z. omega arith) ∙ H.puts;
        }

    pub says-new : k < 256 → ListedSays w r place (Ok k) (stored w k (kind_byte r.kind) r.left r.right (bits_in_lem w r.left + bits_in_lem w r.right))
    says-new m = record {
      only = stored_only w k (kind_byte r.kind) r.left r.right (bits_in_lem w r.left + bits_in_lem w r.right) L.room m h;
      small = m;
      says = λ σ H B.
          let (e, n) = new-one h σ H B in
          let x : Found = record { type = length σ.table; state = with_type σ (record_of_lem r) } in
          let g : listed σ (record_of_lem r) place ≡ good x = is-new σ (record_of_lem r) place n (sym (formed-one σ H B) ∙ f) (omega (arith, bits_in w σ.table r H.types L B)) (omega arith) in
          let i = on_good (Listed σ (record_of_lem r)) (listed σ (record_of_lem r) place) x (listed-holds σ (record_of_lem r) place (ready_of H.types) B) g in
          rw g (e, (rw e i.2, new-state σ H B m i.0));
    }
