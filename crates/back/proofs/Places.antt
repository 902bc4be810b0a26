-- The numbers of the refusals that a call from a netlist back to a sheet answers, and where each stands. Assumes nothing.
use Prim.Native.Nat.{ℕ, ◌+◌, ◌<◌, ◌≤◌}
use mathlib.Core.Path.{◌≡◌, refl, sym, ap, subst, ◌∙◌}
use mathlib.Core.Logic.{◌⊎◌, inl, inr, ⊎_elim}
use mathlib.Core.Bool.{Bool}
use mathlib.Core.List.{List, [], ◌∷◌, ◌++◌}
use native.Mathlib.Omega.{arith}
use native.Mathlib.Decide.{dec_le}
use lib.Dec.{T, leb, leb→le}
use lib.ListN.{length, length-append}
use borrow.Author.Tests.{leb-false}
use Rattle.calculus.specs.Answer.{Refusal, Answer, good, numbered, need, ◌>>=◌}
use Rattle.calculus.proofs.Answers.{good-inj}
use Rattle.calculus.specs.Net.{Element, point, part, Net, element_bytes, wire_bytes, pin_bytes, net_bytes}
use Rattle.calculus.specs.NetRead.{read_net}
use Rattle.calculus.specs.Translate.{said_of}
use Rattle.sheet_theorems.proofs.Judging.{Judged, value, refusal, Any, of_bind, of_require, weaker}
use Rattle.foreign_calculus.specs.Foreign.{Bytes, Accepts, check}
use Rattle.foreign_theorems.proofs.Exact.{check-exact}
use Rattle.foreign_theorems.proofs.Places.{CheckPlace, check-places}
use Rattle.back_calculus.specs.Back.{gates, open_ins, back_sheet}
use Rattle.back_calculus.specs.Promises.{Returns}
use Rattle.back_calculus.specs.Returned.{no_point, within, returned, back_answer, back_call}
use Rattle.back_theorems.proofs.Main.{accepts-read, returns_of}
use Rattle.answers.specs.Word.{FitsWord}
use Rattle.back.specs.Gates.{net_here, AcceptedNet, Limited}
use Rattle.back.proofs.GateLaws.{here-is}
use Rattle.back.proofs.SheetLaws.{sheet_enough}

-- a refusal of a call with an output of so many bytes: its place is an offset of the netlist, an input, or a length
pub record BackPlace (s : List ℕ) (room : ℕ) (why : Refusal) : Type 0 where
  pub from : 1 ≤ why.number
  pub to : why.number ≤ 26
  pub low : (why.place < length s) ⊎ (why.place < 8192)
  -- the length needed
  pub more : why.number ≡ 17 → room < why.place
  pub plain : (why.wanted ≡ 0) × (why.found ≡ 0)

abbrev pub SheetCount : ℕ → ℕ → Type 0
SheetCount room n = (n ≤ 393) × (n ≤ room)

module _ (s : List ℕ) (room : ℕ) where
  -- a refusal that is not 17
  of_other : (number place : ℕ) → 1 ≤ number → number ≤ 26 → (number ≡ 17 → ⊥) → (place < length s) ⊎ (place < 8192) → BackPlace s room (numbered number place)
  of_other number place f t d l = record { from = f; to = t; low = l; more = λ e. absurd (d e); plain = (refl, refl) }

  of-check : (why : Refusal) → CheckPlace s why → BackPlace s room why
  of-check why o = record {
    from = omega (arith, o.from);
    to = omega (arith, o.to);
    low = elim (dec_le why.number 22) [ yes h ↦ inl (o.offset h) | no h ↦ inr (o.input (omega (arith, o.to))) ];
    more = λ e. absurd (omega (arith, o.from));
    plain = o.plain;
  }

  -- 25 stands at one of the elements, which come first
  point-places : (es : List Element) (at : ℕ) → at + length (element_bytes es) ≤ length s → Judged (BackPlace s room) Any (no_point es at)
  point-places [] at h = value tt
  point-places (point i ∷ es) at h = refusal (of_other 25 at (omega arith) (omega arith) (λ e. omega arith) (inl (omega arith)))
  point-places (part p i ∷ es) at h = point-places es (at + 4) (omega arith)

elements_within : (lean : Bool) (s : List ℕ) (a : Accepts lean s) → 0 + length (element_bytes a.net.elements) ≤ length s
unfolding net_bytes
elements_within lean s a =
    omega (arith, ap length a.bytes, length-append (element_bytes a.net.elements) (wire_bytes a.net.wires ++ pin_bytes a.net.pins))

limited_of : (s : List ℕ) (a : AcceptedNet s) → Returns a.accepts.net → Limited s (length (net_here s).elements) (open_ins (gates (net_here s)))
limited_of s a r =
    let here : Returns (net_here s) = subst Returns (sym (here-is s a)) r in
    record { of = record { accepted = a; parts = here.parts; count = refl }; some = here.some; most = here.most; undriven = refl; few = here.inputs }

module _ (lean : Bool) (s : List ℕ) (room : ℕ) (a : Accepts lean s) (m : Net) (e : a.net ≡ m) where
  sheet-few : no_point m.elements 0 ≡ good tt → T (within m) → length (back_sheet m) ≤ 393
  sheet-few h t =
      let n : AcceptedNet s = record { told = lean; accepts = a } in
      let r : Returns a.net = returns_of lean s a (subst (λ (x : Net). no_point x.elements 0 ≡ good tt) (sym e) h) (subst (λ (x : Net). T (within x)) (sym e) t) in
      subst (λ (x : Net). length (back_sheet x) ≤ 393) (here-is s n ∙ e) (sheet_enough s _ _ (limited_of s n r))

  net-places : Judged (BackPlace s room) (λ sheet. length sheet ≤ 393) (no_point m.elements 0 >>= λ _. need (within m) 26 0 >>= λ _. good (back_sheet m))
  net-places =
      of_bind (no_point m.elements 0) _ (point-places s room m.elements 0 (subst (λ (x : Net). 0 + length (element_bytes x.elements) ≤ length s) e (elements_within lean s a))) λ _ h _.
      of_require (within m) (numbered 26 0) _ (λ _. of_other s room 26 0 (omega arith) (omega arith) (λ q. omega arith) (inr (omega arith))) λ t.
      value (sheet-few h t)

module _ (lean : Bool) (s : List ℕ) (b : Bytes s) (room : ℕ) where
  returned-places : Judged (BackPlace s room) (λ sheet. length sheet ≤ 393) (returned lean s)
  unfolding returned
  returned-places =
      of_bind (check lean s) _ (weaker (of-check s room) (check-places lean s)) λ _ h _.
      let a = (check-exact lean s b).0 h in
      of_bind (read_net s) _ (subst (λ (x : Answer Net). Judged (BackPlace s room) Any x) (sym (accepts-read lean s a)) (value tt)) λ m q _.
      net-places lean s room a m (good-inj (sym (accepts-read lean s a) ∙ q))

  answer-places : (memory : ℕ) → Judged (BackPlace s room) (λ sheet. SheetCount room (length sheet)) (back_answer memory lean s room)
  unfolding back_answer
  answer-places memory =
      of_require (leb 32768 memory) (numbered 1 0) _ (λ _. of_other s room 1 0 (omega arith) (omega arith) (λ q. omega arith) (inr (omega arith))) λ _.
      of_bind (returned lean s) _ returned-places λ sheet _ few.
      of_require (leb (length sheet) room) (numbered 17 (length sheet)) _ (λ f. record { from = omega arith; to = omega arith; low = inr (omega arith); more = λ _. leb-false (length sheet) room f; plain = (refl, refl) }) λ w.
      value (few, leb→le (length sheet) room w)

said-count : {P : Refusal → Type 0} (room : ℕ) {a : Answer (List ℕ)} → Judged P (λ sheet. SheetCount room (length sheet)) a → Judged P (SheetCount room) (said_of a)
said-count room (value h) = value h
said-count room (refusal h) = refusal h

-- what a call says: the length of the sheet written, within the output, or a refusal with its place
pub back-places : (lean : Bool) (s out work : List ℕ) → Bytes s → Judged (BackPlace s (length out)) (SheetCount (length out)) (back_call lean s out work).said
unfolding back_call
back-places lean s out work b = said-count (length out) (answer-places lean s b (length out) (length work))

-- of a netlist shorter than 2^32 bytes each part fits its bits
pub back_fits : (s : List ℕ) (room : ℕ) → length s < 4294967296 → {a : Answer ℕ} → Judged (BackPlace s room) (SheetCount room) a → FitsWord a
back_fits s room short (value h) = omega (arith, h.0)
back_fits s room short (refusal {why} h) =
    (h.from, omega (arith, h.to), ⊎_elim (λ l. omega arith) (λ l. omega arith) h.low, omega (arith, h.plain.0), omega (arith, h.plain.1))
