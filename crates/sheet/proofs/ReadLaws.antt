-- What `read_records` and `read_sheet` say, by the facts that a reader finds one after the other. Assumes nothing.
use Prim.Native.Nat.{ℕ, ◌+◌, ◌-◌, ◌≤◌, ◌<◌}
use mathlib.Core.Path.{◌≡◌, refl, sym, ap, ◌∙◌}
use mathlib.Core.Bool.{Bool, true, false, cond, false≢true}
use mathlib.Core.List.{List, [], ◌∷◌}
use native.Mathlib.Omega.{arith}
use borrow.Author.Tests.{le-leb, lt-leb, eq-eqb, ne_eqb}
use lib.Dec.{eqb}
use lib.ListN.{length, get_or, take, drop, length-append, length-drop}
use lib.Seq.{take-length}
use Rattle.calculus.specs.Answer.{Refusal, Answer, good, refused, ◌>>=◌, refuse, need}
use Rattle.calculus.proofs.Answers.{refused≢good, good-inj, refused-inj}
use Rattle.calculus.specs.Types.{Table}
use Rattle.calculus.specs.Terms.{Edition, first, second, is_second, opening, nodes}
use Rattle.calculus.specs.Read.{Got, read_types, read_term, Sheet, read_records, edition_of, records_of, read_sheet}
use Rattle.calculus.specs.Write.{table_bytes}
use Rattle.sheet_theorems.proofs.Tables.{empty-ok}
use Rattle.sheet_theorems.proofs.Laying.{types-listed, termed, opens}
use Rattle.sheet_theorems.proofs.Judging.{of_refused}
use Rattle.sheet_theorems.proofs.Places.{records-places}
use Rattle.std.specs.declared.result.Result.{Result}
use Rattle.std.specs.declared.result.Result.TheVariants.{Ok, Err}
use Rattle.answers.specs.declared.Refusal.{Refusal as Why}
use Rattle.answers.specs.Refusals.{said_why}
use Rattle.records.specs.Told.{sizes_of}
use Rattle.sheet.specs.Said.{TypesSaid, all_types, types_of, due_of, types_in, End, end, spanned, ended_of}
use Rattle.sheet.specs.Sheets.{ReadSaid, said_reading, whole_sheet, reading_of}
use Rattle.sheet.specs.declared.Reading.{Reading}
use Rattle.records.specs.Editions.{edition_by}
use Rattle.records.specs.Record.{record_at}
use Rattle.records.specs.declared.Record.{Record}
use Rattle.sheet.proofs.HeadLaws.{term_refused}

-- ---- behind the types

module _ (size types start : ℕ) (sizes : List ℕ) where
  pub ended_refused : (a : Answer End) {why : Refusal} → refused why ≡ a → refused why ≡ ended_of a size types start sizes
  unfolding ended_of
  ended_refused a e = rw (← e)

  pub ended_here : (a : Answer End) (at n : ℕ) → end at n ≡ a → at ≡ size → whole_sheet types n start sizes ≡ ended_of a size types start sizes
  unfolding ended_of
  ended_here a at n e h = rw (← e, eq-eqb at size h)

  pub ended-more : (a : Answer End) (at n : ℕ) → end at n ≡ a → ¬ (at ≡ size) → refuse 9 at ≡ ended_of a size types start sizes
  unfolding ended_of
  ended-more a at n e h = rw (← e, ne_eqb at size h)

sheet-end : (E : Edition) (t : Bool) (Θ : Table) (g : Got) (start : ℕ) → g.count ≡ nodes g.term → start ≡ length (table_bytes Θ)
    → cond t (whole_sheet (length Θ) g.count start (sizes_of Θ)) (refuse 9 g.next) ≡ reading_of (need t 9 g.next >>= λ _. good (record { edition = E; table = Θ; term = g.term }))
unfolding reading_of
sheet-end E true Θ g start c e = rw (c, e)
sheet-end E false Θ g start c e = refl

-- ---- the records

module _ (E : Edition) (s : List ℕ) where
  types_refused_lem : (m : Answer (Table × ℕ)) (why : Refusal) → read_types 256 s [] 0 ≡ m → refused why ≡ types_of (m >>= λ q. due_of (record_at true s q.1) q)
      → refused why ≡ reading_of (read_records E s)
  unfolding types_of reading_of read_records
  types_refused_lem (refused that) why e h = simp e (ap refused (refused-inj h))
  types_refused_lem (good q) why e h = due (record_at true s q.1) refl h
    where
      due : (r : Result Record Why) → record_at true s q.1 ≡ r → refused why ≡ types_of (due_of r q) → refused why ≡ reading_of (read_records E s)
      due (Ok r) g h = absurd (refused≢good h)
      due (Err that) g h = simp (e, term_refused E 64 s (length q.0) q.1 0 g) (ap refused (refused-inj h))

  pub read_types_bad : (why : Refusal) → refused why ≡ types_of (types_in s) → refused why ≡ reading_of (read_records E s)
  unfolding types_in
  read_types_bad why h = types_refused_lem (read_types 256 s [] 0) why refl h

  -- the term, behind a table that ends at an offset
  term_read : (Θ : Table) (start : ℕ) (m : Answer Got) → read_types 256 s [] 0 ≡ good (Θ, start) → read_term E 64 s (length Θ) start 0 ≡ m
      → ended_of (spanned m) (length s) (length Θ) start (sizes_of Θ) ≡ reading_of (read_records E s)
  unfolding spanned ended_of reading_of read_records
  term_read Θ start (refused why) e f = simp (e, f)
  term_read Θ start (good g) e f =
      let l = types-listed s 256 [] 0 (Θ, start) (omega arith) (record { ok = empty-ok; end = refl; bytes = refl }) e in
      let t = termed E Θ s 64 start 0 g f in
      simp (e, f) (sheet-end E (eqb g.next (length s)) Θ g start (omega (arith, t.count)) l.end)

  types-good : (m : Answer (Table × ℕ)) (count start : ℕ) (sizes : List ℕ) → read_types 256 s [] 0 ≡ m → all_types count start sizes ≡ types_of (m >>= λ q. due_of (record_at true s q.1) q)
      → ended_of (spanned (read_term E 64 s count start 0)) (length s) count start sizes ≡ reading_of (read_records E s)
  unfolding types_of
  types-good (refused why) count start sizes e h = absurd (refused≢good (sym h))
  types-good (good q) count start sizes e h = due (record_at true s q.1) h
    where
      goes : all_types count start sizes ≡ types_of (good q) → ended_of (spanned (read_term E 64 s count start 0)) (length s) count start sizes ≡ reading_of (read_records E s)
      goes h =
          let f = good-inj h in
          let a : count ≡ length q.0 = ap (λ (c : TypesSaid). c.count) f in
          let b : start ≡ q.1 = ap (λ (c : TypesSaid). c.end) f in
          let z : sizes ≡ sizes_of q.0 = ap (λ (c : TypesSaid). c.sizes) f in
          rw (a, b, z) (term_read q.0 q.1 _ e refl)

      due : (r : Result Record Why) → all_types count start sizes ≡ types_of (due_of r q) → ended_of (spanned (read_term E 64 s count start 0)) (length s) count start sizes ≡ reading_of (read_records E s)
      due (Ok r) h = goes h
      due (Err why) h = absurd (refused≢good (sym h))

  pub read_types_good : (count start : ℕ) (sizes : List ℕ) → all_types count start sizes ≡ types_of (types_in s)
      → ended_of (spanned (read_term E 64 s count start 0)) (length s) count start sizes ≡ reading_of (read_records E s)
  unfolding types_in
  read_types_good count start sizes h = types-good (read_types 256 s [] 0) count start sizes refl h

-- ---- the edition

pub edition_by_lem : (E : Edition) → edition_by (is_second E) ≡ E
edition_by_lem first = refl
edition_by_lem second = refl

-- no byte is no 31
pub second_none : (s : List ℕ) → length s ≡ 0 → false ≡ is_second (edition_of s)
unfolding edition_of
second_none [] e = refl
second_none (x ∷ s) e = absurd (omega arith)

second_by : (b : Bool) → b ≡ is_second (cond b second first)
second_by true = refl
second_by false = refl

pub second-first : (s : List ℕ) → eqb (get_or s 0 0) 0x31 ≡ is_second (edition_of s)
unfolding edition_of
second-first s = second_by (eqb (get_or s 0 0) 0x31)

pub opening_one : (E : Edition) → is_second E ≡ true → 1 ≡ length (opening E)
opening_one first e = absurd (false≢true e)
opening_one second e = refl

pub opening-none : (E : Edition) → is_second E ≡ false → 0 ≡ length (opening E)
opening-none first e = refl
opening-none second e = absurd (false≢true (sym e))

opening_most : (E : Edition) → length (opening E) ≤ 1
opening_most first = omega arith
opening_most second = omega arith

pub opening_small : (s : List ℕ) → length (opening (edition_of s)) ≤ 1
opening_small s = opening_most (edition_of s)

pub opening-within : (s : List ℕ) → length (opening (edition_of s)) ≤ length s
opening-within s = omega (arith, ap length (opens s), length-append (opening (edition_of s)) (records_of s))

pub take_rest : (n : ℕ) (s : List ℕ) → take (length s - n) (drop n s) ≡ drop n s
take_rest n s = rw (← length-drop n s) (take-length (drop n s))

-- ---- the sheet

module _ (s : List ℕ) where
  pub read-long : 16384 < length s → refuse 2 0 ≡ reading_of (read_sheet s)
  unfolding reading_of read_sheet
  read-long h = simp (lt-leb (length s) 16384 h)

  module _ (short : length s ≤ 16384) where
    offset_good : (m : Answer Sheet) {r : ReadSaid} → read_records (edition_of s) (records_of s) ≡ m → good r ≡ reading_of m → good r ≡ reading_of (read_sheet s)
    unfolding reading_of read_sheet
    offset_good (good σ) e h = simp (le-leb (length s) 16384 short, e) h
    offset_good (refused why) e h = absurd (refused≢good (sym h))

    offset-bad : (m : Answer Sheet) {why : Refusal} → read_records (edition_of s) (records_of s) ≡ m → refused why ≡ reading_of m
        → (m ≡ refused why) × (refused (record { number = why.number; place = length (opening (edition_of s)) + why.place; wanted = why.wanted; found = why.found }) ≡ reading_of (read_sheet s))
    unfolding reading_of read_sheet
    offset-bad (good σ) e h = absurd (refused≢good h)
    offset-bad (refused that) {why} e h =
        let f : why ≡ that = refused-inj h in
        (ap refused (sym f), simp (le-leb (length s) 16384 short, e) (ap (λ (why : Refusal). refused (record { number = why.number; place = length (opening (edition_of s)) + why.place; wanted = why.wanted; found = why.found })) f))

    -- the records as they were read, of the edition that was told
    module _ (r : Result Reading Why) {b : Bool} {rs : List ℕ} (tells : b ≡ is_second (edition_of s)) (behind : rs ≡ records_of s) (said : said_reading r ≡ reading_of (read_records (edition_by b) rs)) where
      records-said : said_reading r ≡ reading_of (read_records (edition_of s) (records_of s))
      records-said = rw (← edition_by_lem (edition_of s), ← tells, ← behind) said

      pub read-good : {q : Reading} → r ≡ Ok q → said_reading (Ok q) ≡ reading_of (read_sheet s)
      read-good v = offset_good _ refl (ap said_reading (sym v) ∙ records-said)

      module _ {why : Why} (v : r ≡ Err why) where
        pub read-bad : refused (record { number = (said_why why).number; place = length (opening (edition_of s)) + why.place; wanted = why.wanted; found = why.found }) ≡ reading_of (read_sheet s)
        read-bad = (offset-bad _ refl (ap said_reading (sym v) ∙ records-said)).1

        pub read-within : why.place ≤ 16384
        read-within =
            let o = of_refused _ (said_why why) (records-places (edition_of s) (records_of s)) (offset-bad _ refl (ap said_reading (sym v) ∙ records-said)).0 in
            omega (arith, o.within, ap length (opens s), length-append (opening (edition_of s)) (records_of s))
