-- What is answered where a ring point is kept, where the text does not fit the output, and where it does. Assumes nothing.
use Prim.Native.Nat.{ℕ, ◌+◌, ◌≤◌, ◌<◌}
use mathlib.Core.Path.{◌≡◌, refl, sym, ap, subst}
use mathlib.Core.List.{List}
use native.Mathlib.Omega.{arith}
use lib.ListN.{length}
use Rattle.calculus.specs.Answer.{Answer, refuse}
use Rattle.calculus.specs.Net.{Net}
use Rattle.calculus.specs.Lean.{lean}
use Rattle.calculus.specs.Translate.{said_of, out_of}
use Rattle.export_calculus.specs.Verilog.{module_text, exported}
use Rattle.lean.specs.Layout.{lean_in, LeanReady}
use Rattle.lines.specs.Wrote.{WroteText}
use Rattle.card.specs.Rings.{lowest_from}
use Rattle.card.proofs.RingLaws.{lowest-answer}
use Rattle.translator.specs.Said.{in_room, AnswerSays}
use Rattle.std.specs.Prelude.{Option, Some, None}
use Rattle.std.specs.declared.result.Result.TheVariants.{Ok, Err}
use Rattle.answers.specs.declared.Reason.{Reason}
use Rattle.answers.specs.Refusals.{refusal_at}
use Rattle.translator.proofs.SaidLaws.{says_short, says_fits}
use Rattle.verilog.specs.InMemory.{lean_exported}

-- of the full netlist and of the lean one the same is said
pub exported-lean : (m : Net) (room : ℕ) → lean_exported (lean m) room ≡ exported m room
unfolding lean_exported exported
exported-lean m room = refl

module _ (w : List ℕ) (end p : ℕ) (q : LeanReady w end p) (ring : Option ℕ) (is : ring ≡ lowest_from w end 0) (o : List ℕ) where
  abbrev m : Net
  m = lean_in w end p

  abbrev text : List ℕ
  text = module_text m

  ringed : (place : ℕ) → ring ≡ Some place → lean_exported m (length o) ≡ refuse 18 place
  unfolding lean_exported
  ringed place h = rw (lowest-answer w end p q 18, ← is, h)

  free : ring ≡ None → lean_exported m (length o) ≡ in_room text (length o)
  unfolding lean_exported in_room
  free h = rw (lowest-answer w end p q 18, ← is, h)

  pub ring_says : (place : ℕ) → ring ≡ Some place → AnswerSays (Err (refusal_at Reason.VerilogRing place)) o o (lean_exported m (length o))
  ring_says place h = let f = ringed place h in record { said = sym (ap said_of f); wrote = sym (ap (λ (a : Answer (List ℕ)). out_of a o) f) }

  module _ (none : ring ≡ None) where
    pub short-says : (n : ℕ) → n ≡ 0 + length text → length o < n → AnswerSays (Err (refusal_at Reason.ShortOutput n)) o o (lean_exported m (length o))
    short-says n g h = subst (AnswerSays (Err (refusal_at Reason.ShortOutput n)) o o) (sym (free none)) (says_short text o n (omega arith) h)

    pub module-says : {n : ℕ} {after : List ℕ} → length text ≤ length o → WroteText o 0 text after n → AnswerSays (Ok n) o after (lean_exported m (length o))
    module-says {n} {after} h g =
        let a = g.offset in subst (AnswerSays (Ok n) o after) (sym (free none)) (says_fits text o n after h (omega arith) g.bytes)
