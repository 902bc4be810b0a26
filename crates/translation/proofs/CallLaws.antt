-- What a call answers, by what its stages found. Assumes nothing.
use Prim.Native.Nat.{ℕ}
use mathlib.Core.Path.{◌≡◌, refl, ap}
use mathlib.Core.Bool.{Bool, true, false}
use mathlib.Core.List.{List}
use lib.Dec.{leb}
use lib.ListN.{length}
use Rattle.calculus.specs.Answer.{Answer, good, ◌>>=◌}
use Rattle.calculus.specs.Net.{Net}
use Rattle.calculus.specs.Makers.{makers_of, written}
use Rattle.calculus.specs.Translate.{full, Wish, asked, asked_makers, asked_bytes}
use Rattle.export_calculus.specs.Card.{on_card}
use Rattle.export_calculus.specs.CardCall.{card_answer}
use Rattle.translator.specs.Made.{lent}
use Rattle.translator.specs.Said.{in_room, AnswerSays}
use Rattle.translator.proofs.Lent.{need-first}
use Rattle.std.specs.declared.result.Result.{Result}
use Rattle.answers.specs.declared.Refusal.{Refusal}

-- a call's answer is that of the netlist, once there is a full one
pub answer-lent : (card : Bool) (memory : ℕ) (b : Wish) (s : List ℕ) (room : ℕ) → card_answer card memory b s room ≡ (lent memory s >>= λ m. on_card card s m >>= λ _. in_room (asked_bytes b m (makers_of s)) room)
unfolding card_answer lent in_room
answer-lent card memory b s room = need-first (leb 32768 memory) (full s) (λ m. on_card card s m >>= λ _. in_room (asked_bytes b m (makers_of s)) room)

-- plain bytes name no nodes
named-bytes : (w : Wish) (m : Net) (ks js : List ℕ) → (w.plain ≡ false → ks ≡ js) → asked_bytes w m ks ≡ asked_bytes w m js
named-bytes w m ks js n = by w.plain n
  where
    by : (plain : Bool) → (plain ≡ false → ks ≡ js) → written plain (asked w.lean m) (asked_makers w.lean m ks) ≡ written plain (asked w.lean m) (asked_makers w.lean m js)
    by true n = refl
    by false n = ap (λ (l : List ℕ). written false (asked w.lean m) (asked_makers w.lean m l)) (n refl)

module _ (card : Bool) (b : Wish) (s out : List ℕ) (memory : ℕ) where
  -- a netlist that was written is the one asked for
  pub net_says : (r : Result ℕ Refusal) (after : List ℕ) (m : Net) (ks : List ℕ) → good m ≡ lent memory s → (b.plain ≡ false → ks ≡ makers_of s) → (a : Answer (Unit {0})) → a ≡ on_card card s m
      → AnswerSays r out after (a >>= λ _. in_room (asked_bytes b m ks) (length out))
      → AnswerSays r out after (card_answer card memory b s (length out))
  net_says r after m ks e n a q h = rw (answer-lent card memory b s (length out), ← e, ← q, ← named-bytes b m ks (makers_of s) n) h
