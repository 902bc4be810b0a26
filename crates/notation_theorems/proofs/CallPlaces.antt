-- What a call of `make` says: the length of the sheet, or a refusal with its place. Assumes nothing.
use Prim.Native.Nat.{ℕ, ◌≤◌}
use mathlib.Core.Path.{◌≡◌}
use mathlib.Core.List.{List}
use native.Mathlib.Omega.{arith}
use borrow.Author.Tests.{leb-false}
use lib.Dec.{leb, leb→le}
use lib.ListN.{length}
use Rattle.calculus.specs.Answer.{Refusal, Answer, good, numbered}
use Rattle.sheet_theorems.proofs.Judging.{Judged, value, refusal, of_bind, of_require, weaker}
use Rattle.sheet_theorems.proofs.SheetRead.{TermLimits, read-written, sheet-short}
use Rattle.notation_calculus.specs.Make.{Placed, make, bytes_of, Written, make_answer, said_make, make_call}
use Rattle.notation_theorems.specs.MakePlace.{MakeCallPlace, no_memory, in_text, no_room, no_places, MakeCount}
use Rattle.notation_theorems.proofs.Reading.{make-reads, places_of}
use Rattle.notation_theorems.proofs.MakePlaces.{make-places}

-- ---- how long a sheet is

limits : (text : List ℕ) (p : Placed) → make text ≡ good p → TermLimits p.sheet.edition p.sheet.table p.sheet.term
limits text p e = ((read-written (bytes_of p.sheet) p.sheet).0 (make-reads text p e)).1

pub bytes-few : (text : List ℕ) (p : Placed) → make text ≡ good p → length (bytes_of p.sheet) ≤ 6913
bytes-few text p e = sheet-short p.sheet.edition p.sheet.table p.sheet.term (limits text p e).table.few (limits text p e).few

pub places-few : (text : List ℕ) (p : Placed) → make text ≡ good p → length p.places ≤ 2048
places-few text p e = omega (arith, places_of text p e, (limits text p e).few)

-- ---- the call

answer-places : (memory : ℕ) (text : List ℕ) (room roomPlaces : ℕ) → Judged (MakeCallPlace text room roomPlaces) (λ (w : Written). MakeCount room (length w.bytes)) (make_answer memory text room roomPlaces)
unfolding make_answer
answer-places memory text room roomPlaces =
    of_require (leb 32768 memory) (numbered 1 0) _ (λ _. no_memory) λ _.
    of_bind (make text) _ (weaker (λ (why : Refusal) h. in_text h) (make-places text)) λ m e _.
    of_require (leb (length (bytes_of m.sheet)) room) (numbered 17 (length (bytes_of m.sheet))) _ (λ f. no_room (leb-false (length (bytes_of m.sheet)) room f) (bytes-few text m e)) λ t.
    of_require (leb (length m.places) roomPlaces) (numbered 37 (length m.places)) _ (λ f. no_places (leb-false (length m.places) roomPlaces f) (places-few text m e)) λ _.
    value (bytes-few text m e, leb→le (length (bytes_of m.sheet)) room t)

said-count : {P : Refusal → Type 0} (room : ℕ) {a : Answer Written} → Judged P (λ (w : Written). MakeCount room (length w.bytes)) a → Judged P (MakeCount room) (said_make a)
said-count room (value h) = value h
said-count room (refusal h) = refusal h

pub make-call_places : (text out places work : List ℕ) → Judged (MakeCallPlace text (length out) (length places)) (MakeCount (length out)) (make_call text out places work).said
unfolding make_call
make-call_places text out places work = said-count (length out) (answer-places (length work) text (length out) (length places))
