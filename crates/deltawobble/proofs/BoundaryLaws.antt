-- The number that a call answers tells what it said; a node's stretch fits its half of one. Assumes nothing.
use Prim.Native.Nat.{ℕ, ◌+◌, ◌≤◌, ◌<◌}
use mathlib.Core.Path.{◌≡◌, refl, sym, ap, ◌∙◌}
use mathlib.Core.Logic.{⊎_elim}
use mathlib.Core.Bool.{Bool, true, false}
use mathlib.Core.List.{List}
use native.Mathlib.Omega.{arith}
use native.Mathlib.Decide.{dec_lt, dec_le}
use lib.Dec.{leb}
use lib.ListN.{length, drop, length-drop}
use lib.Seq.{length-take-le}
use Rattle.calculus.specs.Answer.{Answer, good, refused, need, ◌>>=◌}
use Rattle.calculus.specs.Terms.{nodes}
use Rattle.calculus.specs.Read.{Sheet, read_sheet}
use Rattle.calculus.specs.Stretch.{stretch_of, cut}
use Rattle.calculus.specs.Translate.{Wish, Call}
use Rattle.sheet_theorems.proofs.Laying.{opened}
use Rattle.sheet_theorems.proofs.StretchHolds.{stretch-holds, stretch-past, stretch_refused}
use Rattle.sheet_theorems.proofs.Judging.{Judged, value, refusal, Any}
use Rattle.sheet.proofs.StretchLaws.{stretch-within}
use Rattle.answers.specs.Word.{packed, FitsWord}
use Rattle.translator.specs.Said.{said_answer, called}
use Rattle.std.specs.Prelude.{Result, Ok, Err}
use Rattle.answers.specs.declared.Refusal.{Refusal}
use Rattle.translator.proofs.Places.{names_small}
use Rattle.answers.proofs.WordLaws.{word_tells}
use Rattle.export_calculus.specs.CardCall.{card_call}
use Rattle.export_calculus.specs.Verilog.{verilog_call}
use Rattle.verilog.proofs.Places.{verilog_places, verilog_fits}
use Rattle.translation.proofs.Places.{CallPlace, CallCount, ProfilePlace, CardPlace, card_places}
use Rattle.batch_calculus.specs.Batch.{Batch}
use Rattle.batch.specs.Left.{left}
use Rattle.trace_calculus.specs.Lanes.{LanesCall}
use Rattle.trace.specs.Said.{lanes_called}
use Rattle.foreign_calculus.specs.Foreign.{Bytes, check, Checked, check_call}
use Rattle.foreign_theorems.proofs.Places.{CheckPlace, check-places}
use Rattle.back_calculus.specs.Returned.{back_call}
use Rattle.back.proofs.Places.{back-places, back_fits}
use Rattle.foreign.specs.Walk.{said_check, called_check as checked}
use Rattle.deltawobble.specs.Boundary.{Packs, PacksBatch, checked_value, PacksCheck, PacksLanes, PacksNever, PacksMake}
use Rattle.never_calculus.specs.Search.{NeverCall}
use Rattle.notation_calculus.specs.Make.{MakeCall, make_call}
use Rattle.notation_theorems.specs.MakePlace.{MakeCallPlace, no_memory, in_text, no_room, no_places, MakeCount}
use Rattle.notation_theorems.proofs.MakePlaces.{place-few}
use Rattle.notation_theorems.proofs.CallPlaces.{make-call_places}
use Rattle.maker.specs.Made.{called_make}
use Rattle.never.specs.Told.{called_never}

-- ---- a call

-- an answer, packed, with what it leaves, is what the definition says
pub answer_packs : (r : Result ℕ Refusal) (o w : List ℕ) (c : Call) → called r o w ≡ c → Packs (packed (said_answer r)) o w c
answer_packs r o w c e = record {
  said = ap (λ (x : Call). packed x.said) e;
  wrote = ap (λ (x : Call). x.out) e;
  kept = ap (λ (x : Call). x.work) e;
}

pub make_packs : (r : Result ℕ Refusal) (o p w : List ℕ) (c : MakeCall) → called_make r o p w ≡ c → PacksMake (packed (said_answer r)) o p w c
make_packs r o p w c e = record {
  said = ap (λ (x : MakeCall). packed x.said) e;
  wrote = ap (λ (x : MakeCall). x.out) e;
  told = ap (λ (x : MakeCall). x.places) e;
  kept = ap (λ (x : MakeCall). x.work) e;
}

pub never_packs : (r : Result ℕ Refusal) (o w t q : List ℕ) (c : NeverCall) → called_never r o w t q ≡ c → PacksNever (packed (said_answer r)) o w t q c
never_packs r o w t q c e = record {
  packs = answer_packs r o w c.call (ap (λ (x : NeverCall). x.call) e);
  left_trail = ap (λ (x : NeverCall). x.trail) e;
  left_queue = ap (λ (x : NeverCall). x.queue) e;
}

pub batch_packs : (r : Result ℕ Refusal) (o p w : List ℕ) (b : Batch) → left r o p w ≡ b → PacksBatch (packed (said_answer r)) o p w b
batch_packs r o p w b e = record {
  said = ap (λ (x : Batch). packed x.said) e;
  wrote = ap (λ (x : Batch). x.out) e;
  stored = ap (λ (x : Batch). x.results) e;
  kept = ap (λ (x : Batch). x.work) e;
}

pub lanes_packs : (r : Result ℕ Refusal) (o s w : List ℕ) (c : LanesCall) → lanes_called r o s w ≡ c → PacksLanes (packed (said_answer r)) o s w c
lanes_packs r o s w c e = record {
  said = ap (λ (x : LanesCall). packed x.said) e;
  wrote = ap (λ (x : LanesCall). x.out) e;
  left = ap (λ (x : LanesCall). x.state) e;
  kept = ap (λ (x : LanesCall). x.work) e;
}

-- a verdict, as an answer that every call can give
abbrev pub verdict_answer : Result (Unit {0}) Refusal → Result ℕ Refusal
verdict_answer (Ok done) = Ok 0
verdict_answer (Err r) = Err r

same-value : (v : Result (Unit {0}) Refusal) → said_answer (verdict_answer v) ≡ checked_value (said_check v)
same-value (Ok done) = refl
same-value (Err r) = refl

pub check_packs : (v : Result (Unit {0}) Refusal) (w : List ℕ) (c : Checked) (a : Result ℕ Refusal) → checked v w ≡ c → verdict_answer v ≡ a → PacksCheck (packed (said_answer a)) w c
check_packs v w c a e f = record {
  said = ap (λ (x : Result ℕ Refusal). packed (said_answer x)) (sym f) ∙ ap packed (same-value v) ∙ ap (λ (x : Checked). packed (checked_value x.said)) e;
  kept = ap (λ (x : Checked). x.work) e;
}

fits : (s : List ℕ) (room : ℕ) {a : Answer ℕ} → Judged (CardPlace s room) (CallCount room) a → FitsWord a
fits s room (value h) = omega (arith, h.0)
fits s room (refusal {why} h) =
    ⊎_elim
    (λ (o : CallPlace s room why). let (w, f) = names_small s why o.names in (o.from, omega (arith, o.to), omega (arith, o.few), omega arith, omega arith))
    (λ (o : ProfilePlace why). (omega (arith, o.from), omega (arith, o.to), omega (arith, o.low), omega (arith, o.plain.0), omega (arith, o.plain.1)))
    h

-- the number tells what a call said, with the card's profile or without: two that answer the same number said the same
pub packed_tells : (card card' : Bool) (b b' : Wish) (s s' out out' work work' : List ℕ)
    → packed (card_call card b s out work).said ≡ packed (card_call card' b' s' out' work').said → (card_call card b s out work).said ≡ (card_call card' b' s' out' work').said
packed_tells card card' b b' s s' out out' work work' e = word_tells _ _ (fits s (length out) (card_places card b s out work)) (fits s' (length out') (card_places card' b' s' out' work')) e

-- .. of a netlist shorter than 2^32 bytes too, whose offsets then fit: back to a sheet, and checked
pub back_tells : (lean lean' : Bool) (s s' out out' work work' : List ℕ) → Bytes s → Bytes s' → length s < 4294967296 → length s' < 4294967296
    → packed (back_call lean s out work).said ≡ packed (back_call lean' s' out' work').said → (back_call lean s out work).said ≡ (back_call lean' s' out' work').said
back_tells lean lean' s s' out out' work work' b b' h h' e =
    word_tells _ _ (back_fits s (length out) h (back-places lean s out work b)) (back_fits s' (length out') h' (back-places lean' s' out' work' b')) e

check-fits : (s : List ℕ) → length s < 4294967296 → {a : Answer (Unit {0})} → Judged (CheckPlace s) Any a → FitsWord (checked_value a)
check-fits s short (value h) = omega arith
check-fits s short (refusal {why} o) =
    let low : why.place < 4294967296 = elim (dec_le why.number 22) [ yes h ↦ omega (arith, o.offset h) | no h ↦ omega (arith, o.input (omega (arith, o.to))) ] in
    (omega (arith, o.from), omega (arith, o.to), low, omega (arith, o.plain.0), omega (arith, o.plain.1))

check_call_fits : (lean : Bool) (s work : List ℕ) → length s < 4294967296 → FitsWord (checked_value (check_call lean s work).said)
unfolding check_call
check_call_fits lean s work h = by (leb 32768 (length work))
  where
    by : (t : Bool) → FitsWord (checked_value (need t 1 0 >>= λ _. check lean s))
    by false = (omega arith, omega arith, omega arith, omega arith, omega arith)
    by true = check-fits s h (check-places lean s)

pub check_tells : (lean lean' : Bool) (s s' work work' : List ℕ) → length s < 4294967296 → length s' < 4294967296
    → packed (checked_value (check_call lean s work).said) ≡ packed (checked_value (check_call lean' s' work').said) → checked_value (check_call lean s work).said ≡ checked_value (check_call lean' s' work').said
check_tells lean lean' s s' work work' h h' e = word_tells _ _ (check_call_fits lean s work h) (check_call_fits lean' s' work' h') e

pub verilog_tells : (s s' out out' work work' : List ℕ) → packed (verilog_call s out work).said ≡ packed (verilog_call s' out' work').said → (verilog_call s out work).said ≡ (verilog_call s' out' work').said
verilog_tells s s' out out' work work' e = word_tells _ _ (verilog_fits s (length out) (verilog_places s out work)) (verilog_fits s' (length out') (verilog_places s' out' work')) e

make-fits : (text : List ℕ) (room roomPlaces : ℕ) {a : Answer ℕ} → Judged (MakeCallPlace text room roomPlaces) (MakeCount room) a → FitsWord a
make-fits text room roomPlaces (value h) = omega (arith, h.0)
make-fits text room roomPlaces (refusal no_memory) = (omega arith, omega arith, omega arith, omega arith, omega arith)
make-fits text room roomPlaces (refusal (in_text {why} h)) = (omega (arith, h.from), omega (arith, h.to), omega (arith, place-few text why h), omega (arith, h.plain.0), omega (arith, h.plain.1))
make-fits text room roomPlaces (refusal (no_room m l)) = (omega arith, omega arith, omega arith, omega arith, omega arith)
make-fits text room roomPlaces (refusal (no_places m l)) = (omega arith, omega arith, omega arith, omega arith, omega arith)

-- .. of every text, however long
pub make_tells : (text text' out out' places places' work work' : List ℕ)
    → packed (make_call text out places work).said ≡ packed (make_call text' out' places' work').said → (make_call text out places work).said ≡ (make_call text' out' places' work').said
make_tells text text' out out' places places' work work' e = word_tells _ _ (make-fits text (length out) (length places) (make-call_places text out places work)) (make-fits text' (length out') (length places') (make-call_places text' out' places' work')) e

-- ---- a stretch

stretch_in_lem : (s : List ℕ) (k : ℕ) (a : Answer Sheet) → read_sheet s ≡ a → (stretch_of s k).start + (stretch_of s k).size ≤ 16384
stretch_in_lem s k (refused why) e = rw (stretch_refused s why k e) (omega arith)
stretch_in_lem s k (good σ) e =
    elim (dec_lt k (nodes σ.term)) [
      | yes h ↦ omega (arith, (stretch-holds s σ k e h).within, (opened s σ e).short)
      | no h ↦ rw (stretch-past s σ k e (omega arith)) (omega arith)
    ]

-- where a stretch begins and its length are at most 16,384
pub stretch-fits : (s : List ℕ) (k : ℕ) → (stretch_of s k).start + (stretch_of s k).size ≤ 16384
stretch-fits s k = stretch_in_lem s k (read_sheet s) refl

-- the part of the sheet that a stretch names has its length
pub part_length : (s : List ℕ) (k : ℕ) → length (cut s (stretch_of s k)) ≡ (stretch_of s k).size
part_length s k =
    let w = stretch-within s k in
    length-take-le (stretch_of s k).size (drop (stretch_of s k).start s) (rw (length-drop (stretch_of s k).start s) (omega (arith, w)))
