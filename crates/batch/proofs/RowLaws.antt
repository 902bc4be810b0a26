-- Calls made one by one, from some sheet on: what is left of them and what stands already make the whole. Assumes nothing.
use Prim.Native.Nat.{ℕ, suc, ◌+◌, ◌-◌, ◌≤◌, ◌<◌}
use mathlib.Core.Path.{◌≡◌, refl, sym, ap, ap₂, subst, subst⁻¹, ◌∙◌}
use mathlib.Core.List.{List, [], ◌∷◌, ◌++◌, map, append_assoc, append-nil}
use native.Mathlib.Omega.{arith}
use native.Mathlib.Numerals.{add-one}
use lib.ListN.{length, get_or, take, drop, set, length-append, length-set, length-drop, take-append-drop}
use lib.Seq.{take_all, length-take-le, drop-length, take-append-add, drop-append-add, drop-drop, take-suc-set, drop-set-lt}
use Rattle.calculus.specs.Answer.{Answer, good, refused}
use Rattle.calculus.specs.Translate.{Call, said_of, out_of}
use Rattle.export_calculus.specs.CardCall.{Wished, card_answer, card_call, wished_call}
use Rattle.answers.specs.Word.{packed}
use Rattle.std.specs.declared.result.Result.TheVariants.{Ok}
use Rattle.laws.proofs.Regions.{drop_past}
use Rattle.translator.proofs.SaidLaws.{written_in}
use Rattle.sheet_theorems.proofs.Judging.{Judged, value, refusal}
use Rattle.translation.proofs.Places.{CallPlace, CallCount, call-places}
use Rattle.translation.proofs.CardCall.{card_accepted}
use Rattle.batch_calculus.specs.Batch.{used_by, CallsMade, one_by_one, sum, Batch, of_row}
use Rattle.batch.specs.Left.{OneLeft, left}
use Rattle.batch.proofs.SumLaws.{drop_at_place, sum_drop}

-- a call uses no more than its output
used_in : (a : Answer (List ℕ)) (out : List ℕ) → used_by (said_of a) ≤ length (out_of a out)
used_in (good bytes) out = written_in (good bytes) (length bytes) out _ refl refl
used_in (refused why) out = omega arith

pub used_within : (w : Wished) (s out work : List ℕ) → used_by (wished_call w s out work).said ≤ length (wished_call w s out work).out
unfolding card_call
used_within w s out work = used_in (card_answer w.card (length work) w.wish s (length out)) out

judged_room : (s : List ℕ) (room : ℕ) {a : Answer ℕ} → Judged (CallPlace s room) (CallCount room) a → used_by a ≤ room
judged_room s room (value h) = h.1
judged_room s room (refusal h) = omega arith

pub used_room : (w : Wished) (s out work : List ℕ) → used_by (wished_call w s out work).said ≤ length out
used_room w s out work = by (wished_call w s out work).said refl
  where
    by : (a : Answer ℕ) → (wished_call w s out work).said ≡ a → used_by a ≤ length out
    by (refused why) e = omega arith
    by (good n) e =
        let h = card_accepted w.card w.wish s out work n e in
        subst (λ (a : Answer ℕ). used_by a ≤ length out) (sym (ap (λ (c : Call). c.said) h) ∙ e) (judged_room s (length out) (call-places w.wish s out work))

same_batch : {a a' : Answer ℕ} {o o' r r' w w' : List ℕ} → a ≡ a' → o ≡ o' → r ≡ r' → w ≡ w'
    → ◌≡◌ {A = Batch} (record { said = a; out = o; results = r; work = w }) (record { said = a'; out = o'; results = r'; work = w' })
same_batch {a' = a'} {o' = o'} {r = r} {w = w} e f g h =
    ap₂ (λ (x : Answer ℕ) (y : List ℕ). record { said = x; out = y; results = r; work = w }) e f
    ∙ ap₂ (λ (x y : List ℕ). record { said = a'; out = o'; results = x; work = y }) g h

-- behind `used` bytes of the output and k results, the row of the sheets that are left
abbrev pub of_rest : ℕ → ℕ → List ℕ → List ℕ → CallsMade → Batch
of_rest used k out results r = record {
  said = good (used + r.used);
  out = take used out ++ r.out;
  results = take k results ++ (map packed r.said ++ drop (length r.said) (drop k results));
  work = r.work;
}

-- one sheet more
module _ (used k : ℕ) (out results o : List ℕ) (a : Answer ℕ) (j : ℕ) (room : used ≤ length out) (place : k < length results) (r : CallsMade) where
  more-out : take (used + j) (take used out ++ o) ≡ take used out ++ take j o
  more-out = ap (λ (n : ℕ). take (n + j) (take used out ++ o)) (sym (length-take-le used out room)) ∙ take-append-add (take used out) o j

  later_results : (n : ℕ) → drop n (drop (k + 1) (set results k (packed a))) ≡ drop (suc n) (drop k results)
  later_results n =
      let e : suc k + n ≡ k + suc n = omega arith in
      ap (λ (m : ℕ). drop n (drop m (set results k (packed a)))) (add-one k) ∙ ap (drop n) (drop-set-lt (suc k) results k (packed a) (omega arith))
      ∙ drop-drop n (suc k) results ∙ ap (λ (m : ℕ). drop m results) e ∙ sym (drop-drop (suc n) k results)

  more-results : (ws : List ℕ) (n : ℕ) → take k results ++ (packed a ∷ (ws ++ drop (suc n) (drop k results))) ≡ take (k + 1) (set results k (packed a)) ++ (ws ++ drop n (drop (k + 1) (set results k (packed a))))
  more-results ws n =
      sym (append_assoc (take k results) (packed a ∷ []) (ws ++ drop (suc n) (drop k results)))
      ∙ ap₂ (λ (x y : List ℕ). x ++ (ws ++ y)) (sym (ap (λ (m : ℕ). take m (set results k (packed a))) (add-one k) ∙ take-suc-set results k (packed a) place)) (sym (later_results n))

  pub row_more : of_rest used k out results (record { said = a ∷ r.said; used = j + r.used; out = take j o ++ r.out; work = r.work })
      ≡ of_rest (used + j) (k + 1) (take used out ++ o) (set results k (packed a)) r
  row_more =
      let e : used + (j + r.used) ≡ used + j + r.used = omega arith in
      same_batch
      (ap good e)
      (sym (append_assoc (take used out) (take j o) r.out) ∙ ap (λ (x : List ℕ). x ++ r.out) (sym more-out))
      (more-results (map packed r.said) (length r.said))
      refl

-- the first k sheets are done: they began at `at` together, used so much of the output, and what is left makes the whole
pub record RowsGoing (w : Wished) (s lengths out₀ results₀ work₀ out results work : List ℕ) (at used k : ℕ) : Type 0 where
  pub here : k ≤ length lengths
  pub bytes : at + sum (drop k lengths) ≡ length s
  pub room : used ≤ length out
  pub places : length lengths ≤ length results
  pub whole : of_rest used k out results (one_by_one w (drop at s) (drop k lengths) (drop used out) work) ≡ of_row results₀ (one_by_one w s lengths out₀ work₀)

pub going_start : (w : Wished) (s lengths out results work : List ℕ) → sum lengths ≡ length s → length lengths ≤ length results → RowsGoing w s lengths out results work out results work 0 0 0
going_start w s lengths out results work e h =
    let n : 0 + (one_by_one w s lengths out work).used ≡ (one_by_one w s lengths out work).used = omega arith in
    record { here = omega arith; bytes = omega (arith, e); room = omega arith; places = h; whole = same_batch (ap good n) refl refl refl }

module _ {w : Wished} {s lengths out₀ results₀ work₀ out results work : List ℕ} {at used k : ℕ} (g : RowsGoing w s lengths out₀ results₀ work₀ out results work at used k) (more : k < length lengths) where
  abbrev size : ℕ
  size = get_or lengths k 0

  abbrev c : Call
  c = wished_call w (take size (drop at s)) (drop used out) work

  abbrev j : ℕ
  j = used_by c.said

  pub within : at + size ≤ length s
  within = omega (arith, g.bytes, sum_drop lengths k more)

  out-length : length (take used out ++ c.out) ≡ used + length c.out
  out-length = length-append (take used out) c.out ∙ ap (λ (n : ℕ). n + length c.out) (length-take-le used out g.room)

  rest-here : one_by_one w (drop at s) (drop k lengths) (drop used out) work
      ≡ (let r = one_by_one w (drop size (drop at s)) (drop (k + 1) lengths) (drop j c.out) c.work in
      record { said = c.said ∷ r.said; used = j + r.used; out = take j c.out ++ r.out; work = r.work })
  rest-here = ap (λ (l : List ℕ). one_by_one w (drop at s) l (drop used out) work) (drop_at_place lengths k more)

  rest-next : one_by_one w (drop size (drop at s)) (drop (k + 1) lengths) (drop j c.out) c.work
      ≡ one_by_one w (drop (at + size) s) (drop (k + 1) lengths) (drop (used + j) (take used out ++ c.out)) c.work
  rest-next = ap₂ (λ (x y : List ℕ). one_by_one w x (drop (k + 1) lengths) y c.work) (drop-drop size at s)
      (sym (ap (λ (n : ℕ). drop (n + j) (take used out ++ c.out)) (sym (length-take-le used out g.room)) ∙ drop-append-add (take used out) c.out j))

  pub going_more : RowsGoing w s lengths out₀ results₀ work₀ (take used out ++ c.out) (set results k (packed c.said)) c.work (at + size) (used + j) (k + 1)
  going_more = record {
    here = omega arith;
    bytes = omega (arith, g.bytes, sum_drop lengths k more);
    room = omega (arith, out-length, used_within w (take size (drop at s)) (drop used out) work);
    places = omega (arith, length-set results k (packed c.said), g.places);
    whole = ap (of_rest (used + j) (k + 1) (take used out ++ c.out) (set results k (packed c.said))) (sym rest-next)
        ∙ sym (row_more used k out results c.out c.said j g.room (omega (arith, g.places)) (one_by_one w (drop size (drop at s)) (drop (k + 1) lengths) (drop j c.out) c.work))
        ∙ ap (of_rest used k out results) (sym rest-here) ∙ g.whole;
  }

  -- as the code has it: a sheet from offset to offset, and the rest of the output, put back
  module _ (n r : ℕ) (o results' work' : List ℕ) (is : n ≡ size)
      (L : OneLeft r k o results results' work' (wished_call w (take (at + n - at) (drop at s)) (take (length out - used) (drop used out)) work)) where
    same-call : wished_call w (take (at + n - at) (drop at s)) (take (length out - used) (drop used out)) work ≡ c
    same-call =
        let e : at + n - at ≡ size = omega (arith, is) in
        ap₂ (λ (x y : List ℕ). wished_call w x y work) (ap (λ (m : ℕ). take m (drop at s)) e) (take_all (length out - used) (drop used out) (omega (arith, length-drop used out)))

    pub used-fits : used + r ≤ length out
    used-fits = omega (arith, L.used ∙ ap (λ (x : Call). used_by x.said) same-call, used_room w (take size (drop at s)) (drop used out) work, length-drop used out, g.room)

    put_back : take used out ++ (o ++ drop (length out - used) (drop used out)) ≡ take used out ++ c.out
    put_back =
        ap (λ (x : List ℕ). take used out ++ x)
        (ap (λ (x : List ℕ). o ++ x) (drop_past (drop used out) (length out - used) (omega (arith, length-drop used out))) ∙ append-nil o ∙ L.wrote ∙ ap (λ (x : Call). x.out) same-call)

    pub going-part : RowsGoing w s lengths out₀ results₀ work₀ (take used out ++ (o ++ drop (length out - used) (drop used out))) results' work' (at + n) (used + r) (k + 1)
    going-part =
        subst⁻¹ (λ (x : List ℕ). RowsGoing w s lengths out₀ results₀ work₀ x results' work' (at + n) (used + r) (k + 1)) put_back
        (subst⁻¹ (λ (x : List ℕ). RowsGoing w s lengths out₀ results₀ work₀ (take used out ++ c.out) x work' (at + n) (used + r) (k + 1)) (L.result ∙ ap (λ (x : Call). set results k (packed x.said)) same-call)
        (subst⁻¹ (λ (x : List ℕ). RowsGoing w s lengths out₀ results₀ work₀ (take used out ++ c.out) (set results k (packed c.said)) x (at + n) (used + r) (k + 1)) (L.kept ∙ ap (λ (x : Call). x.work) same-call)
        (subst⁻¹ (λ (x : ℕ). RowsGoing w s lengths out₀ results₀ work₀ (take used out ++ c.out) (set results k (packed c.said)) c.work (at + x) (used + r) (k + 1)) is
        (subst⁻¹ (λ (x : ℕ). RowsGoing w s lengths out₀ results₀ work₀ (take used out ++ c.out) (set results k (packed c.said)) c.work (at + size) (used + x) (k + 1)) (L.used ∙ ap (λ (x : Call). used_by x.said) same-call)
        going_more))))

pub going_end : {w : Wished} {s lengths out₀ results₀ work₀ out results work : List ℕ} {at used k : ℕ} → RowsGoing w s lengths out₀ results₀ work₀ out results work at used k → k ≡ length lengths
    → left (Ok used) out results work ≡ of_row results₀ (one_by_one w s lengths out₀ work₀)
going_end {w} {s} {lengths} {out = out} {results = results} {work = work} {at = at} {used = used} {k = k} g e =
    let n : used ≡ used + 0 = omega arith in
    same_batch (ap good n) (sym (take-append-drop used out)) (sym (take-append-drop k results)) refl
    ∙ ap (λ (l : List ℕ). of_rest used k out results (one_by_one w (drop at s) l (drop used out) work)) (sym (ap (λ (n : ℕ). drop n lengths) e ∙ drop-length lengths))
    ∙ g.whole
