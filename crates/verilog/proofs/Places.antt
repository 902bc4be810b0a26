-- The numbers of the refusals that the call answers, and where each stands. Assumes nothing.
use Prim.Native.Nat.{ℕ, ◌≤◌, ◌<◌}
use mathlib.Core.Path.{◌≡◌, refl, sym, subst}
use mathlib.Core.List.{List}
use native.Mathlib.Omega.{arith}
use lib.Dec.{leb, leb→le}
use lib.ListN.{length}
use borrow.Author.Tests.{leb-false}
use Rattle.calculus.specs.Answer.{Refusal, Answer, good, refused, numbered}
use Rattle.calculus.specs.Net.{Net}
use Rattle.calculus.specs.Lean.{lean}
use Rattle.calculus.specs.Translate.{full, said_of}
use Rattle.circuit_theorems.proofs.Main.{formed-lean}
use Rattle.export_calculus.specs.Card.{need_all, no_ring, input_place}
use Rattle.export_calculus.specs.Verilog.{module_text, exported, export, verilog_call}
use Rattle.export_theorems.proofs.CardLaws.{ring_refused}
use Rattle.export_theorems.proofs.Verilog.{ring_low, verilog_enough}
use Rattle.sheet_theorems.proofs.Judging.{Judged, value, refusal, Any, of_bind, of_require, weaker}
use Rattle.answers.specs.Word.{FitsWord}
use Rattle.translator.proofs.Places.{TypesNamed, no_names, names_small, full-places}

-- a refusal of a call with an output of so many bytes
pub record VerilogPlace (s : List ℕ) (room : ℕ) (why : Refusal) : Type 0 where
  pub from : 1 ≤ why.number
  pub to : why.number ≤ 18
  pub few : why.place ≤ 395400
  -- the length needed
  pub more : why.number ≡ 17 → room < why.place
  pub names : TypesNamed s why

-- what is written
abbrev pub ModuleCount : ℕ → ℕ → Type 0
ModuleCount room n = (n ≤ 395400) × (n ≤ room)

-- a refusal that is neither 12 nor 17
plain-place : (s : List ℕ) (room number place : ℕ) → 1 ≤ number → number ≤ 18 → (number ≡ 12 → ⊥) → (number ≡ 17 → ⊥) → place ≤ 395400 → VerilogPlace s room (numbered number place)
plain-place s room number place f t d u l = record { from = f; to = t; few = l; more = λ e. absurd (u e); names = no_names s (numbered number place) d (refl, refl) }

ring_place : (s : List ℕ) (room : ℕ) (m : Net) → full s ≡ good m → (a : Answer (Unit {0})) → need_all (no_ring (lean m).pins) 18 input_place (lean m).elements ≡ a → Judged (VerilogPlace s room) Any a
ring_place s room m e (good tt) q = value tt
ring_place s room m e (refused why) q =
    let r = ring_refused (lean m) (formed-lean s m e) 18 why q in
    let l = ring_low s m e r.at r.point-there in
    refusal (subst (VerilogPlace s room) (sym r.said) (plain-place s room 18 r.at (omega arith) (omega arith) (λ e. absurd (omega arith)) (λ e. absurd (omega arith)) (omega arith)))

export-places : (memory : ℕ) (s : List ℕ) (room : ℕ) → Judged (VerilogPlace s room) (λ bytes. ModuleCount room (length bytes)) (export memory s room)
unfolding export exported
export-places memory s room =
    of_require (leb 32768 memory) (numbered 1 0) _ (λ _. plain-place s room 1 0 (omega arith) (omega arith) (λ e. absurd (omega arith)) (λ e. absurd (omega arith)) (omega arith)) λ _.
    of_bind (full s) _ (weaker (λ why o. record { from = omega (arith, o.from); to = omega (arith, o.to); few = omega (arith, o.few); more = λ e. absurd (omega (arith, o.to)); names = o.names }) (full-places s)) λ m e _.
    of_bind (need_all (no_ring (lean m).pins) 18 input_place (lean m).elements) _ (ring_place s room m e (need_all (no_ring (lean m).pins) 18 input_place (lean m).elements) refl) λ _ _ _.
    let n = length (module_text (lean m)) in
    let enough : n ≤ 395400 = verilog_enough s m e in
    of_require (leb n room) (numbered 17 n) _ (λ f. record { from = omega arith; to = omega arith; few = enough; more = λ _. leb-false n room f; names = no_names s (numbered 17 n) (λ e. absurd (omega arith)) (refl, refl) }) λ w.
    value (enough, leb→le n room w)

said-places : (s : List ℕ) (room : ℕ) {a : Answer (List ℕ)} → Judged (VerilogPlace s room) (λ bytes. ModuleCount room (length bytes)) a → Judged (VerilogPlace s room) (ModuleCount room) (said_of a)
said-places s room (value h) = value h
said-places s room (refusal h) = refusal h

-- what the call says: the number of bytes written, within the output, or a refusal from 1 to 18 with its place
pub verilog_places : (s out work : List ℕ) → Judged (VerilogPlace s (length out)) (ModuleCount (length out)) (verilog_call s out work).said
unfolding verilog_call
verilog_places s out work = said-places s (length out) (export-places (length work) s (length out))

-- .. and it fits the bits of one number
pub verilog_fits : (s : List ℕ) (room : ℕ) {a : Answer ℕ} → Judged (VerilogPlace s room) (ModuleCount room) a → FitsWord a
verilog_fits s room (value h) = omega (arith, h.0)
verilog_fits s room (refusal {why} h) = let (w, f) = names_small s why h.names in (h.from, omega (arith, h.to), omega (arith, h.few), omega arith, omega arith)
