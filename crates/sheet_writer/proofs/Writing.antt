-- A term's bytes and places are written: its record, and its subterms behind it. Assumes nothing.
use Prim.Native.Nat.{ℕ, ◌+◌, ◌≤◌, ◌<◌}
use mathlib.Core.Path.{◌≡◌, sym, ap, subst, ◌∙◌}
use mathlib.Core.List.{List, ◌∷◌, ◌++◌, append_assoc}
use native.Mathlib.Omega.{arith}
use native.Mathlib.Numerals.{add-one}
use lib.ListN.{length, set, length-append, length-set}
use lib.Seq.{sets}
use Rattle.laws.proofs.Regions.{written-more}
use Rattle.calculus.specs.Write.{term_bytes}
use Rattle.calculus.specs.Record.{All}
use Rattle.sheet_writer.specs.Bytes.{node_kind_in, node_left_in, node_right_in, node_record, node_place_in, subterm_count, RecordLow}
use Rattle.sheet_writer.specs.Wrote.{TermFits, TermWrote}
use Rattle.sheet_writer.specs.declared.Span.{Span}
use Rattle.sheet_writer.proofs.Views.{view_leaf, view_one, view-two, view_first, view-root, all-front, all_back, record_low}

abbrev Low : List ℕ → Type 0
Low xs = All (λ (b : ℕ). b < 256) xs

-- ---- there is room

module _ (w : List ℕ) (k at count room roomPlaces : ℕ) (F : TermFits w k at count room roomPlaces) where
  -- for the node itself
  pub own-fits : RecordLow w k × ((at + length (node_record w k) ≤ room) × (count < roomPlaces))
  own-fits =
      let v = view-root F.stands in
      let f = F.fits in
      let p = F.fits_places in (
        record_low w k (all-front (λ (b : ℕ). b < 256) (node_record w k) v.behind (subst Low v.bytes F.bytes)),
        (omega (arith, ap length v.bytes, length-append (node_record w k) v.behind), omega (arith, ap length v.places)),
      )

  -- for its first subterm behind it
  pub first_fits : (subterm_count (node_kind_in w k) ≡ 0 → ⊥) → (left next room' roomPlaces' : ℕ) → left ≡ node_left_in w k → next ≡ at + length (node_record w k) → room' ≡ room → roomPlaces' ≡ roomPlaces → (left < k) × TermFits w left next (count + 1) room' roomPlaces'
  first_fits c left next room' roomPlaces' e n r q =
      let v = view_first F.stands c in
      let b = v.below in
      let l = F.low in
      let f = F.fits in
      let p = F.fits_places in
      rw e (
        b,
        record {
          size = F.size;
          low = omega arith;
          term = v.sub;
          places = v.rest;
          stands = v.stands;
          fits = omega (arith, ap length v.bytes, length-append (node_record w k) (term_bytes v.sub ++ v.behind), length-append (term_bytes v.sub) v.behind);
          fits_places = omega (arith, ap length v.places, length-append v.rest v.more);
          bytes = all-front (λ (b : ℕ). b < 256) (term_bytes v.sub) v.behind (all_back (λ (b : ℕ). b < 256) (node_record w k) (term_bytes v.sub ++ v.behind) (subst Low v.bytes F.bytes));
        },
      )

  -- for its second one behind the first
  pub second_fits :
      (subterm_count (node_kind_in w k) ≡ 0 → ⊥) → (subterm_count (node_kind_in w k) ≡ 1 → ⊥) → (left right next room' roomPlaces' : ℕ) → left ≡ node_left_in w k → right ≡ node_right_in w k → next ≡ at + length (node_record w k)
      → (out places : List ℕ) (a : Span) (out' places' : List ℕ) → TermWrote w left next (count + 1) out places a out' places' → room' ≡ room → roomPlaces' ≡ roomPlaces
      → (right < k) × TermFits w right a.bytes a.nodes room' roomPlaces'
  second_fits c d left right next room' roomPlaces' e g n out places a out' places' W r q =
      let v = view-two F.stands c d in
      let b = v.below_too in
      let l = F.low in
      let f = F.fits in
      let p = F.fits_places in
      let m = W.says v.first v.rest (rw e v.stands) in
      rw g (
        b,
        record {
          size = F.size;
          low = omega arith;
          term = v.second;
          places = v.more;
          stands = v.stands_too;
          fits = omega (arith, m.0, ap length v.bytes, length-append (node_record w k) (term_bytes v.first ++ term_bytes v.second), length-append (term_bytes v.first) (term_bytes v.second));
          fits_places = omega (arith, m.1.0, ap length v.places, length-append v.rest v.more);
          bytes = all_back (λ (b : ℕ). b < 256) (term_bytes v.first) (term_bytes v.second) (all_back (λ (b : ℕ). b < 256) (node_record w k) (term_bytes v.first ++ term_bytes v.second) (subst Low v.bytes F.bytes));
        },
      )

-- ---- it is written

module _ (w : List ℕ) (k at count : ℕ) (out places : List ℕ) (next place : ℕ) (out₁ : List ℕ) (n : next ≡ at + length (node_record w k)) (o : out₁ ≡ sets out at (node_record w k)) (p : place ≡ node_place_in w k) (same : length out₁ ≡ length out) where
  pub wrote_leaf : subterm_count (node_kind_in w k) ≡ 0 → TermWrote w k at count out places (record { bytes = next; nodes = count + 1 }) out₁ (set places count place)
  wrote_leaf c = record {
    same = same;
    same_places = length-set places count place;
    says = λ e ps t.
        let v = view_leaf t c in
        (n ∙ ap (λ (x : List ℕ). at + length x) (sym v.bytes), (omega (arith, ap length v.places), (o ∙ ap (sets out at) (sym v.bytes), ap (λ (x : ℕ). set places count x) p ∙ ap (sets places count) (sym v.places))));
  }

  -- places behind the first
  behind-first : (qs : List ℕ) → sets (set places count place) (count + 1) qs ≡ sets places count (node_place_in w k ∷ qs)
  behind-first qs = rw (add-one, p)

  module _ (left : ℕ) (l : left ≡ node_left_in w k) (a : Span) (out₂ places₂ : List ℕ) (A : TermWrote w left next (count + 1) out₁ (set places count place) a out₂ places₂) where
    pub wrote_one : subterm_count (node_kind_in w k) ≡ 1 → TermWrote w k at count out places a out₂ places₂
    wrote_one c = record {
      same = A.same ∙ same;
      same_places = A.same_places ∙ length-set places count place;
      says = λ e ps t.
          let v = view_one t c in
          let m = A.says v.sub v.rest (rw l v.stands) in (
            omega (arith, m.0, ap length v.bytes, length-append (node_record w k) (term_bytes v.sub)),
            (
              omega (arith, m.1.0, ap length v.places),
              (
                m.1.1.0 ∙ ap (λ (x : List ℕ). sets x next (term_bytes v.sub)) o ∙ written-more out (node_record w k) (term_bytes v.sub) at next n ∙ ap (sets out at) (sym v.bytes),
                m.1.1.1 ∙ behind-first v.rest ∙ ap (sets places count) (sym v.places),
              ),
            ),
          );
    }

    pub wrote-two :
        (subterm_count (node_kind_in w k) ≡ 0 → ⊥) → (subterm_count (node_kind_in w k) ≡ 1 → ⊥) → (right : ℕ) → right ≡ node_right_in w k → (b : Span) (out₃ places₃ : List ℕ)
        → TermWrote w right a.bytes a.nodes out₂ places₂ b out₃ places₃ → TermWrote w k at count out places b out₃ places₃
    wrote-two c d right r b out₃ places₃ B = record {
      same = B.same ∙ A.same ∙ same;
      same_places = B.same_places ∙ A.same_places ∙ length-set places count place;
      says = λ e ps t.
          let v = view-two t c d in
          let m = A.says v.first v.rest (rw l v.stands) in
          let i = B.says v.second v.more (rw r v.stands_too) in
          let rec : List ℕ = node_record w k in
          let f : List ℕ = term_bytes v.first in
          let s : List ℕ = term_bytes v.second in
          let z : a.bytes ≡ at + length (rec ++ f) = omega (arith, m.0, length-append rec f) in
          let y : a.nodes ≡ count + length (node_place_in w k ∷ v.rest) = let x = m.1.0 in omega arith in (
            omega (arith, i.0, m.0, ap length v.bytes, length-append rec (f ++ s), length-append f s),
            (
              omega (arith, i.1.0, m.1.0, ap length v.places, length-append v.rest v.more),
              (
                i.1.1.0 ∙ ap (λ (x : List ℕ). sets x a.bytes s) (m.1.1.0 ∙ ap (λ (x : List ℕ). sets x next f) o ∙ written-more out rec f at next n) ∙ written-more out (rec ++ f) s at a.bytes z ∙ ap (sets out at) (append_assoc rec f s ∙ sym v.bytes),
                i.1.1.1 ∙ ap (λ (x : List ℕ). sets x a.nodes v.more) (m.1.1.1 ∙ behind-first v.rest) ∙ written-more places (node_place_in w k ∷ v.rest) v.more count a.nodes y ∙ ap (sets places count) (sym v.places),
              ),
            ),
          );
    }
