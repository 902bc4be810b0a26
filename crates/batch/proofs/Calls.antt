-- A call over sheets laid end to end, sheet by sheet: results, output and working memory are those of the sheets' own calls, and demand 3
-- holds of each accepted sheet alone (document 02, L10). Assumes nothing.
use Prim.Native.Nat.{ℕ, zero, suc, ◌+◌, ◌≤◌, ◌<◌}
use mathlib.Core.Path.{◌≡◌, refl, sym, ap, ap₂, subst, ◌∙◌}
use mathlib.Core.Logic.{◌↔◌}
use mathlib.Core.List.{List, [], ◌∷◌, ◌++◌, map}
use native.Mathlib.Omega.{arith}
use lib.ListN.{length, get_or, take, drop, length-map, take-append-drop, get_or-append}
use lib.Seq.{length-take-le, take_at, drop_at, drop-append_seam, drop-append-add, drop-drop}
use native.Mathlib.Decide.{dec_lt}
use borrow.Author.Tests.{eq-eqb, ne_eqb}
use Rattle.calculus.specs.Answer.{Answer, good, refused, refuse}
use Rattle.calculus.proofs.Answers.{refused≢good}
use Rattle.calculus.specs.Translate.{zeroed, work_of, Call, said_of, out_of}
use Rattle.export_calculus.specs.CardCall.{Wished, card_answer, card_call, wished_call}
use Rattle.memory.proofs.Zeroed.{zeroed-length, zeroed-same, zeroed-later}
use Rattle.answers.specs.Word.{packed}
use Rattle.translator.proofs.Keeping.{work_small, work_large}
use Rattle.translation_calculus.specs.Demands.{Circuit}
use Rattle.translation.proofs.CardCall.{card_accepted}
use Rattle.translation.proofs.Demands.{demand_3}
use Rattle.batch_calculus.specs.Batch.{used_by, CallsMade, one_by_one, sum, Batch, of_row, batch_call}
use Rattle.batch_calculus.specs.Promise.{sheet_at, call_at, AsCalls, EachCircuit}
use Rattle.batch.proofs.RowLaws.{used_within}
use Rattle.batch.proofs.BatchLaws.{no_room, no_sum, fitting}

-- ---- one call

-- past the bytes that a call used, its output is as it was
rest_in : (a : Answer (List ℕ)) (out : List ℕ) → drop (used_by (said_of a)) (out_of a out) ≡ drop (used_by (said_of a)) out
rest_in (good bytes) out = drop-append_seam bytes (drop (length bytes) out)
rest_in (refused why) out = refl

rest_stays : (w : Wished) (s out work : List ℕ) → drop (used_by (wished_call w s out work).said) (wished_call w s out work).out ≡ drop (used_by (wished_call w s out work).said) out
unfolding card_call
rest_stays w s out work = rest_in (card_answer w.card (length work) w.wish s (length out)) out

-- of the working memory a call looks at its length alone, and cleared memory has the same
leaves_work : (w : Wished) (s out work : List ℕ) → (wished_call w s out work).work ≡ work_of work
unfolding card_call
leaves_work w s out work = refl

by_size : (work : List ℕ) (F : List ℕ → Type 0) → (length work < 32768 → F work) → (32768 ≤ length work → F work) → F work
by_size work F f g = elim (dec_lt (length work) 32768) [ yes h ↦ f h | no h ↦ g (omega arith) ]

work_length : (work : List ℕ) → length (work_of work) ≡ length work
work_length work = by_size work (λ m. length (work_of m) ≡ length m) (λ h. ap length (work_small work h)) (λ h. ap length (work_large work h) ∙ zeroed-length 32768 work h)

work_twice : (work : List ℕ) → work_of (work_of work) ≡ work_of work
work_twice work =
    by_size work (λ m. work_of (work_of m) ≡ work_of m) (λ h. ap work_of (work_small work h))
    (λ h. work_large (work_of work) (omega (arith, work_length work)) ∙ ap (zeroed 32768) (work_large work h) ∙ zeroed-same 32768 (zeroed 32768 work) work (zeroed-later 32768 work) ∙ sym (work_large work h))

said-again : (w : Wished) (s out work : List ℕ) → (wished_call w s out (work_of work)).said ≡ (wished_call w s out work).said
unfolding card_call
said-again w s out work = ap (λ (n : ℕ). said_of (card_answer w.card n w.wish s (length out))) (work_length work)

out_again : (w : Wished) (s out work : List ℕ) → (wished_call w s out (work_of work)).out ≡ (wished_call w s out work).out
unfolding card_call
out_again w s out work = ap (λ (n : ℕ). out_of (card_answer w.card n w.wish s (length out)) out) (work_length work)

-- ---- a row of them

-- what the promise says of a row
record RowCalls (w : Wished) (s lengths out work : List ℕ) (r : CallsMade) : Type 0 where
  used : ℕ → ℕ
  none_used : used 0 ≡ 0
  next_used : (i : ℕ) → i < length lengths → used (suc i) ≡ used i + used_by (call_at w s lengths out work (used i) i).said
  all_used : r.used ≡ used (length lengths)
  count : length r.said ≡ length lengths
  result : (i : ℕ) → i < length lengths → get_or (map packed r.said) i 0 ≡ packed (call_at w s lengths out work (used i) i).said
  bytes : (i : ℕ) → i < length lengths
      → let c = call_at w s lengths out work (used i) i in take (used_by c.said) (drop (used i) r.out) ≡ take (used_by c.said) c.out
  later_bytes : drop (used (length lengths)) r.out ≡ drop (used (length lengths)) out

-- before the first sheet nothing is used, before a later one what the first used and what the sheets between did
abbrev used_from : ℕ → (ℕ → ℕ) → ℕ → ℕ
used_from j f zero = 0
used_from j f (suc i) = j + f i

module _ (w : Wished) (s : List ℕ) (n : ℕ) (ns out work : List ℕ) where
  abbrev first : Call
  first = wished_call w (take n s) out work

  abbrev j : ℕ
  j = used_by first.said

  abbrev rest : CallsMade
  rest = one_by_one w (drop n s) ns (drop j first.out) first.work

  same-sheet : (i : ℕ) → sheet_at (drop n s) ns i ≡ sheet_at s (n ∷ ns) (suc i)
  same-sheet i = ap (take (get_or ns i 0)) (drop-drop (sum (take i ns)) n s)

  same-room : (u : ℕ) → drop u (drop j first.out) ≡ drop (j + u) out
  same-room u = ap (drop u) (rest_stays w (take n s) out work) ∙ drop-drop u j out

  -- a later sheet's call, seen from the second sheet on and from the first
  same-said : (i u : ℕ) → (call_at w (drop n s) ns (drop j first.out) first.work u i).said ≡ (call_at w s (n ∷ ns) out work (j + u) (suc i)).said
  same-said i u =
      ap₂ (λ (x y : List ℕ). (wished_call w x y first.work).said) (same-sheet i) (same-room u)
      ∙ ap (λ (x : List ℕ). (wished_call w (sheet_at s (n ∷ ns) (suc i)) (drop (j + u) out) x).said) (leaves_work w (take n s) out work)
      ∙ said-again w (sheet_at s (n ∷ ns) (suc i)) (drop (j + u) out) work

  same_out : (i u : ℕ) → (call_at w (drop n s) ns (drop j first.out) first.work u i).out ≡ (call_at w s (n ∷ ns) out work (j + u) (suc i)).out
  same_out i u =
      ap₂ (λ (x y : List ℕ). (wished_call w x y first.work).out) (same-sheet i) (same-room u)
      ∙ ap (λ (x : List ℕ). (wished_call w (sheet_at s (n ∷ ns) (suc i)) (drop (j + u) out) x).out) (leaves_work w (take n s) out work)
      ∙ out_again w (sheet_at s (n ∷ ns) (suc i)) (drop (j + u) out) work

  front_length : length (take j first.out) ≡ j
  front_length = length-take-le j first.out (used_within w (take n s) out work)

  past-front : (u : ℕ) → drop (j + u) (take j first.out ++ rest.out) ≡ drop u rest.out
  past-front u = ap (λ (k : ℕ). drop (k + u) (take j first.out ++ rest.out)) (sym front_length) ∙ drop-append-add (take j first.out) rest.out u

  module _ (h : RowCalls w (drop n s) ns (drop j first.out) first.work rest) where
    abbrev used : ℕ → ℕ
    used = used_from j h.used

    next_used : (i : ℕ) → i < suc (length ns) → used (suc i) ≡ used i + used_by (call_at w s (n ∷ ns) out work (used i) i).said
    next_used zero l = omega (arith, h.none_used)
    next_used (suc i) l = omega (arith, h.next_used i (omega arith), ap used_by (same-said i (h.used i)))

    result : (i : ℕ) → i < suc (length ns) → get_or (map packed (first.said ∷ rest.said)) i 0 ≡ packed (call_at w s (n ∷ ns) out work (used i) i).said
    result zero l = refl
    result (suc i) l = h.result i (omega arith) ∙ ap packed (same-said i (h.used i))

    bytes : (i : ℕ) → i < suc (length ns)
        → let c = call_at w s (n ∷ ns) out work (used i) i in take (used_by c.said) (drop (used i) (take j first.out ++ rest.out)) ≡ take (used_by c.said) c.out
    bytes zero l = take_at (take j first.out) rest.out j front_length
    bytes (suc i) l =
        ap (take (used_by (call_at w s (n ∷ ns) out work (j + h.used i) (suc i)).said)) (past-front (h.used i))
        ∙ ap (λ (k : ℕ). take k (drop (h.used i) rest.out)) (sym (ap used_by (same-said i (h.used i))))
        ∙ h.bytes i (omega arith)
        ∙ ap₂ (λ (k : ℕ) (x : List ℕ). take k x) (ap used_by (same-said i (h.used i))) (same_out i (h.used i))

    row_cons : RowCalls w s (n ∷ ns) out work (record { said = first.said ∷ rest.said; used = j + rest.used; out = take j first.out ++ rest.out; work = rest.work })
    row_cons = record {
      used = used;
      none_used = refl;
      next_used = next_used;
      all_used = ap (λ (k : ℕ). j + k) h.all_used;
      count = ap suc h.count;
      result = result;
      bytes = bytes;
      later_bytes = past-front (h.used (length ns)) ∙ h.later_bytes ∙ same-room (h.used (length ns));
    }

row-calls : (w : Wished) (s lengths out work : List ℕ) → RowCalls w s lengths out work (one_by_one w s lengths out work)
row-calls w s [] out work = record {
  used = λ _. 0;
  none_used = refl;
  next_used = λ i h. absurd (omega arith);
  all_used = refl;
  count = refl;
  result = λ i h. absurd (omega arith);
  bytes = λ i h. absurd (omega arith);
  later_bytes = refl;
}
row-calls w s (n ∷ ns) out work = row_cons w s n ns out work (row-calls w (drop n s) ns _ _)

-- ---- the working memory

again_work : (w : Wished) (s lengths out m work : List ℕ) → m ≡ work_of work → (one_by_one w s lengths out m).work ≡ work_of work
again_work w s [] out m work e = e
again_work w s (n ∷ ns) out m work e = again_work w (drop n s) ns _ _ work (leaves_work w (take n s) out m ∙ ap work_of e ∙ work_twice work)

row_work : (w : Wished) (s lengths out work : List ℕ) → 0 < length lengths → (one_by_one w s lengths out work).work ≡ work_of work
row_work w s [] out work h = absurd (omega arith)
row_work w s (n ∷ ns) out work h = again_work w (drop n s) ns _ _ work (leaves_work w (take n s) out work)

-- ---- 24: where the results have no room, or the lengths do not add up, and nowhere else

module _ (w : Wished) (s lengths out results work : List ℕ) where
  abbrev Fitting : Type 0
  Fitting = (length lengths ≤ length results) × (sum lengths ≡ length s)

  misfits : (Fitting → ⊥) → batch_call w s lengths out results work ≡ record { said = refuse 24 0; out = out; results = results; work = work }
  misfits f =
      elim (dec_lt (length results) (length lengths)) [
        | yes h ↦ no_room w s lengths out results work h
        | no h ↦ let r : length lengths ≤ length results = omega arith in no_sum w s lengths out results work r (ne_eqb (sum lengths) (length s) (λ e. f (r, e)))
      ]

  fits_not : (p : ℕ) → (batch_call w s lengths out results work).said ≡ refuse 24 p → Fitting → ⊥
  fits_not p e (room, adds) = refused≢good (sym e ∙ ap (λ (b : Batch). b.said) (fitting w s lengths out results work room (eq-eqb (sum lengths) (length s) adds)))

  pub batch_24 : (((length lengths ≤ length results) × (sum lengths ≡ length s)) → ⊥) ↔ (batch_call w s lengths out results work ≡ record { said = refuse 24 0; out = out; results = results; work = work })
  batch_24 = (misfits, λ e. fits_not 0 (ap (λ (b : Batch). b.said) e))

-- ---- the call

module _ (w : Wished) (s lengths out results work : List ℕ) (room : length lengths ≤ length results) (adds : sum lengths ≡ length s) where
  abbrev r : CallsMade
  r = one_by_one w s lengths out work

  is_of_row : batch_call w s lengths out results work ≡ of_row results r
  is_of_row = fitting w s lengths out results work room (eq-eqb (sum lengths) (length s) adds)

  words : length (map packed r.said) ≡ length lengths
  words = length-map r.said packed ∙ (row-calls w s lengths out work).count

  as_row : AsCalls w s lengths out results work (of_row results r)
  as_row =
      let c = row-calls w s lengths out work in
      record {
        used = c.used;
        none_used = c.none_used;
        next_used = c.next_used;
        all_used = ap good c.all_used;
        result = λ i h. get_or-append (map packed r.said) (drop (length r.said) results) 0 i (subst (λ (k : ℕ). i < k) (sym words) h) ∙ c.result i h;
        later_results = drop_at (map packed r.said) (drop (length r.said) results) (length lengths) words ∙ ap (λ (k : ℕ). drop k results) c.count;
        bytes = c.bytes;
        later_bytes = c.later_bytes;
        memory = row_work w s lengths out work;
        no_sheets = λ e. ap (λ (l : List ℕ). (one_by_one w s l out work).work) e;
      }

  -- the call equals calls made one by one: result by result, byte by byte
  pub batch_calls : AsCalls w s lengths out results work (batch_call w s lengths out results work)
  batch_calls = subst (AsCalls w s lengths out results work) (sym is_of_row) as_row

  -- demand 3 holds for each accepted sheet alone
  pub batch_circuits : EachCircuit w s lengths out work batch_calls.used (batch_call w s lengths out results work)
  batch_circuits = record {
    circuit = λ i n h e.
        let u = batch_calls.used i in
        let c = call_at w s lengths out work u i in
        let a = card_accepted w.card w.wish (sheet_at s lengths i) (drop u out) work n e in
        let d : Circuit w.wish (sheet_at s lengths i) (drop u out) n c.out = subst (λ (x : Call). (x.said ≡ good n) → Circuit w.wish (sheet_at s lengths i) (drop u out) n x.out) (sym a) ((demand_3 w.wish (sheet_at s lengths i) (drop u out) work).circuit n) e in
        let k : used_by c.said ≡ n = ap used_by e in
        let b = subst (λ (m : ℕ). take m (drop u (batch_call w s lengths out results work).out) ≡ take m c.out) k (batch_calls.bytes i h) in
        let f = subst (λ (m : ℕ). drop m c.out ≡ drop m (drop u out)) k (rest_stays w (sheet_at s lengths i) (drop u out) work) in
        subst (Circuit w.wish (sheet_at s lengths i) (drop u out) n) (sym (take-append-drop n c.out) ∙ ap₂ (λ (x y : List ℕ). x ++ y) (sym b) f) d;
  }
