-- The sheet is measured, refused or written as the definition says. Assumes nothing.
use Prim.Native.Nat.{ℕ, ◌+◌, ◌≤◌, ◌<◌}
use mathlib.Core.Path.{◌≡◌, refl, ap, ◌∙◌}
use mathlib.Core.Bool.{Bool, true, false, cond}
use mathlib.Core.List.{List, [], ◌∷◌, ◌++◌, append_assoc}
use native.Mathlib.Omega.{arith}
use lib.Dec.{eqb}
use lib.ListN.{length, get_or, length-append}
use lib.Seq.{sets}
use borrow.Author.Tests.{le-leb, lt-leb, eq-eqb}
use Rattle.std.proofs.Common.{Ok, Err}
use Rattle.answers.specs.declared.Reason.{Reason}
use Rattle.answers.specs.Refusals.{refusal_at}
use Rattle.laws.proofs.Regions.{written-more, sets-front}
use Rattle.calculus.specs.Answer.{good, refuse}
use Rattle.calculus.specs.Types.{Table}
use Rattle.calculus.specs.Terms.{Edition, first, second, is_second, opening, Term}
use Rattle.calculus.specs.Write.{term_bytes, table_bytes, record_bytes, sheet_bytes}
use Rattle.making_memory.specs.Map.{second_at_lem, type_count_at}
use Rattle.made_types.specs.Held.{HoldsTypes}
use Rattle.made_nodes.specs.Nodes.{TermIn}
use Rattle.made_nodes.specs.Forms.{EditionIn}
use Rattle.sheet_writer.specs.Bytes.{opening_in, types_bytes, TypesFit}
use Rattle.sheet_writer.specs.Wrote.{Measures, TermFits, TermWrote, SheetStands, sheet_answer, SheetWrote}
use Rattle.sheet_writer.specs.declared.Span.{Span}
use Rattle.sheet_writer.proofs.TypeRecords.{types_are, types-low}

-- ---- the answers

module _ (E : Edition) (Θ : Table) (e : Term) (ps : List ℕ) (room roomPlaces : ℕ) where
  pub answer-short : room < length (sheet_bytes E Θ e) → sheet_answer E Θ e ps room roomPlaces ≡ refuse 17 (length (sheet_bytes E Θ e))
  unfolding sheet_answer
  answer-short h = rw (lt-leb (length (sheet_bytes E Θ e)) room h)

  pub answer-few : length (sheet_bytes E Θ e) ≤ room → roomPlaces < length ps → sheet_answer E Θ e ps room roomPlaces ≡ refuse 37 (length ps)
  unfolding sheet_answer
  answer-few h l = rw (le-leb (length (sheet_bytes E Θ e)) room h, lt-leb (length ps) roomPlaces l)

  pub answer_good : length (sheet_bytes E Θ e) ≤ room → length ps ≤ roomPlaces → sheet_answer E Θ e ps room roomPlaces ≡ good (record { bytes = sheet_bytes E Θ e; places = ps })
  unfolding sheet_answer
  answer_good h l = rw (le-leb (length (sheet_bytes E Θ e)) room h, le-leb (length ps) roomPlaces l)

-- ---- the bytes

opening-is : (E : Edition) (b : Bool) → b ≡ is_second E → cond b (0x31 ∷ []) [] ≡ opening E
opening-is first b e = rw e
opening-is second b e = rw e

bytes_are : (w : List ℕ) (E : Edition) (Θ : Table) (e : Term) (n : ℕ) → EditionIn w E → HoldsTypes w Θ → n ≡ get_or w type_count_at 0 → opening_in w ++ (types_bytes w n ++ term_bytes e) ≡ sheet_bytes E Θ e
unfolding sheet_bytes record_bytes
bytes_are w E Θ e n d H c =
    let m : n ≡ length Θ = c ∙ H.count in
    let t : types_bytes w n ≡ table_bytes Θ = ap (types_bytes w) m ∙ types_are w Θ H in
    rw (opening-is E (eqb (get_or w second_at_lem 0) 1) d, t)

module _ (w : List ℕ) (root n : ℕ) (out places : List ℕ) (c : n ≡ get_or w type_count_at 0) (m : Span) (M : Measures w root m) (bytes : ℕ) (b : bytes ≡ length (opening_in w) + length (types_bytes w n) + m.bytes) where
  -- the length of the sheet
  long : (E : Edition) (Θ : Table) (e : Term) (ps : List ℕ) → EditionIn w E → HoldsTypes w Θ → TermIn w root e ps → (bytes ≡ length (sheet_bytes E Θ e)) × (m.nodes ≡ length ps)
  long E Θ e ps d H t =
      let s = M.says e ps t in
      (omega (arith, s.0, ap length (bytes_are w E Θ e n d H c), length-append (opening_in w) (types_bytes w n ++ term_bytes e), length-append (types_bytes w n) (term_bytes e)), s.1)

  pub sheet-short : length out < bytes → SheetWrote w root out places (Err (refusal_at Reason.ShortOutput bytes)) out places
  sheet-short h = record {
    says = λ E Θ e ps d H t.
        let l = (long E Θ e ps d H t).0 in
        let a = answer-short E Θ e ps (length out) (length places) (omega arith) in
        rw (a, l) (record { said = refl; left = refl; left_places = refl });
  }

  pub sheet-few : bytes ≤ length out → length places < m.nodes → SheetWrote w root out places (Err (refusal_at Reason.ShortPlaces m.nodes)) out places
  sheet-few h g = record {
    says = λ E Θ e ps d H t.
        let l = long E Θ e ps d H t in
        let l₀ = l.0 in
        let l₁ = l.1 in
        let a = answer-few E Θ e ps (length out) (length places) (omega arith) (omega arith) in
        rw (a, l₁) (record { said = refl; left = refl; left_places = refl });
  }

  module _ (h : bytes ≤ length out) (g : m.nodes ≤ length places) where
    pub opening-fits : length (opening_in w) ≤ length out
    opening-fits = omega arith

    pub types-fit : (S : SheetStands w root) (room from : ℕ) → room ≡ length out → from ≡ length (opening_in w) → TypesFit w n from room
    types-fit S room from r f =
        let k = S.types.count in
        let few = S.types.ok.few in
        record { size = S.types.room; few = omega arith; low = λ t l. types-low w S.table S.types t (omega arith); fits = omega arith }

    pub term_fits : (S : SheetStands w root) (room roomPlaces from at : ℕ) → room ≡ length out → roomPlaces ≡ length places → from ≡ length (opening_in w) → at ≡ from + length (types_bytes w n) → TermFits w root at 0 room roomPlaces
    term_fits S room roomPlaces from at r q f a =
        let s = M.says S.term.term S.term.places S.term.stands in
        record {
          size = S.term.size;
          low = S.term.low;
          term = S.term.term;
          places = S.term.places;
          stands = S.term.stands;
          fits = omega (arith, s.0);
          fits_places = omega (arith, s.1);
          bytes = S.bytes;
        }

    pub sheet-written :
        (out₁ out₂ out₃ places₃ : List ℕ) (from at : ℕ) (r : Span) → from ≡ length (opening_in w) → out₁ ≡ sets out 0 (opening_in w) → at ≡ from + length (types_bytes w n) → out₂ ≡ sets out₁ from (types_bytes w n)
        → TermWrote w root at 0 out₂ places r out₃ places₃ → SheetWrote w root out places (Ok bytes) out₃ places₃
    sheet-written out₁ out₂ out₃ places₃ from at r f o₁ a o₂ W = record {
      says = λ E Θ e ps d H t.
          let l = long E Θ e ps d H t in
          let l₀ = l.0 in
          let l₁ = l.1 in
          let ans = answer_good E Θ e ps (length out) (length places) (omega arith) (omega arith) in
          let s = W.says e ps t in
          let os : List ℕ = opening_in w in
          let ts : List ℕ = types_bytes w n in
          let z : from ≡ 0 + length os = omega arith in
          let y : at ≡ 0 + length (os ++ ts) = omega (arith, length-append os ts) in
          let two : out₂ ≡ sets out 0 (os ++ ts) = o₂ ∙ ap (λ (x : List ℕ). sets x from ts) o₁ ∙ written-more out os ts 0 from z in
          let all : out₃ ≡ sets out 0 (os ++ ts ++ term_bytes e) = s.1.1.0 ∙ ap (λ (x : List ℕ). sets x at (term_bytes e)) two ∙ written-more out (os ++ ts) (term_bytes e) 0 at y in
          let whole : os ++ ts ++ term_bytes e ≡ sheet_bytes E Θ e = append_assoc os ts (term_bytes e) ∙ bytes_are w E Θ e n d H c in
          rw ans (record {
            said = ap good l₀;
            left = all ∙ ap (sets out 0) whole ∙ sets-front (sheet_bytes E Θ e) out (omega arith);
            left_places = s.1.1.1 ∙ sets-front ps places (omega arith);
          });
    }

-- ---- the opening's length

pub opening_one : (w : List ℕ) → get_or w second_at_lem 0 ≡ 1 → length (opening_in w) ≡ 1
opening_one w e = rw (eq-eqb (get_or w second_at_lem 0) 1 e)

pub opening_most : (w : List ℕ) → length (opening_in w) ≤ 1
opening_most w = by (eqb (get_or w second_at_lem 0) 1)
  where
    by : (b : Bool) → length {A = ℕ} (cond b (0x31 ∷ []) []) ≤ 1
    by true = omega arith
    by false = omega arith
