-- The call with the card's profile (document 02, L12): after 16 and before 17. Assumes nothing.
use Rattle.std.specs.Prelude.{ℕ, Bool, List, leb, length}
use Rattle.calculus.specs.Answer.{Answer, good, ◌>>=◌, need}
use Rattle.calculus.specs.Makers.{makers_of}
use Rattle.calculus.specs.Translate.{full, Wish, asked_bytes, said_of, out_of, work_of, Call}
use Rattle.export_calculus.specs.Card.{on_card}

-- the bytes that a call writes, or its refusal: 1, then 2 to 16, then, where the check is asked for, 27 to 29, then 17
unfoldable pub card_answer : Bool → ℕ → Wish → List ℕ → ℕ → Answer (List ℕ)
card_answer card memory w s room = do
  _ ← need (leb 32768 memory) 1 0
  m ← full s
  _ ← on_card card s m
  let bytes = asked_bytes w m (makers_of s) in do
    _ ← need (leb (length bytes) room) 17 (length bytes)
    good bytes

-- without the check it is `call` (theorem `card_unasked`), and with it where the profile passes (`card_passes`)
unfoldable pub card_call : Bool → Wish → List ℕ → List ℕ → List ℕ → Call
card_call card w s out work =
    let a = card_answer card (length work) w s (length out) in
    record { said = said_of a; out = out_of a out; work = work_of work }

-- all that a caller wishes: which netlist, and the card's profile checked or not
pub record Wished : Type 0 where
  pub card : Bool
  pub wish : Wish

abbrev pub wished_call : Wished → List ℕ → List ℕ → List ℕ → Call
wished_call w = card_call w.card w.wish
