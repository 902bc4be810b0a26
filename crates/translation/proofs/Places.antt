-- The numbers of the refusals that a call answers, and where each stands; which two types clash. Assumes nothing.
use Prim.Native.Nat.{ℕ, ◌+◌, ◌≤◌, ◌<◌}
use mathlib.Core.Path.{◌≡◌, refl}
use mathlib.Core.Logic.{◌⊎◌, inl, inr}
use mathlib.Core.Bool.{Bool, true, false}
use mathlib.Core.List.{List, ◌∷◌, []}
use native.Mathlib.Omega.{arith}
use lib.Dec.{leb, leb→le}
use lib.ListN.{length}
use borrow.Author.Tests.{leb-false}
use Rattle.calculus.specs.Answer.{Refusal, Answer, good, refused, ◌>>=◌, numbered, need}
use Rattle.calculus.specs.Types.{Ty}
use Rattle.calculus.specs.Terms.{part_at}
use Rattle.calculus.specs.Read.{Sheet, read_sheet}
use Rattle.calculus.specs.Net.{Element, point, part, Net}
use Rattle.calculus.specs.Lean.{lean}
use Rattle.calculus.specs.Record.{Among, here, there}
use Rattle.calculus.specs.Translate.{full, Wish, asked_bytes, answer, said_of, call}
use Rattle.calculus.specs.Makers.{makers_of, lean_makers}
use Rattle.circuit_theorems.specs.Formed.{Rising}
use Rattle.circuit_theorems.proofs.Terminals.{rising-end}
use Rattle.circuit_theorems.proofs.Forming.{lean-formed, lean-end}
use Rattle.circuit_theorems.proofs.Main.{formed}
use Rattle.circuit_theorems.proofs.Bounds.{length_enough, lean_shorter}
use Rattle.circuit_theorems.proofs.NodeBytes.{length_enough-nodes, lean_shorter-nodes}
use Rattle.export_calculus.specs.Card.{output_place, on_card}
use Rattle.export_calculus.specs.CardCall.{card_answer, card_call}
use Rattle.export_theorems.specs.Broken.{Broken, root_type_lem, ring, unread}
use Rattle.export_theorems.proofs.Card.{root_of_lem, card_refused}
use Rattle.sheet_theorems.proofs.Judging.{Judged, value, refusal, Any, of_bind, of_require, weaker, of_refused}
use Rattle.translator.proofs.Places.{TypesNamed, no_names, names_small, EarlyPlace, full-places}

-- a refusal of a call with an output of so many bytes
pub record CallPlace (s : List ℕ) (room : ℕ) (why : Refusal) : Type 0 where
  pub from : 1 ≤ why.number
  pub to : why.number ≤ 17
  pub few : why.place ≤ 57728
  -- the length needed
  pub more : why.number ≡ 17 → room < why.place
  pub names : TypesNamed s why

-- what is written
abbrev pub CallBytes : ℕ → List ℕ → Type 0
CallBytes room bytes = (length bytes ≤ 57728) × (length bytes ≤ room)

abbrev pub CallCount : ℕ → ℕ → Type 0
CallCount room n = (n ≤ 57728) × (n ≤ room)

asked_enough : (lean plain : Bool) (s : List ℕ) (m : Net) (ks : List ℕ) → full s ≡ good m → length (asked_bytes (record { lean = lean; plain = plain }) m ks) ≤ 57728
asked_enough false true s m ks e = omega (arith, length_enough s m e)
asked_enough true true s m ks e = omega (arith, length_enough s m e, lean_shorter s m e)
asked_enough false false s m ks e = length_enough-nodes s m e ks
asked_enough true false s m ks e = omega (arith, length_enough-nodes s m e ks, lean_shorter-nodes s m e (lean_makers m ks) ks)

no_memory : (s : List ℕ) (room : ℕ) → CallPlace s room (numbered 1 0)
no_memory s room = record { from = omega arith; to = omega arith; few = omega arith; more = λ e. absurd (omega arith); names = no_names s (numbered 1 0) (λ e. absurd (omega arith)) (refl, refl) }

early_place : (s : List ℕ) (room : ℕ) (why : Refusal) → EarlyPlace s why → CallPlace s room why
early_place s room why o = record { from = omega (arith, o.from); to = omega (arith, o.to); few = omega (arith, o.few); more = λ e. absurd (omega (arith, o.to)); names = o.names }

bytes-places : (b : Wish) (s : List ℕ) (m : Net) (room : ℕ) → full s ≡ good m
    → let bytes = asked_bytes b m (makers_of s) in Judged (CallPlace s room) (CallBytes room) (need (leb (length bytes) room) 17 (length bytes) >>= λ _. good bytes)
bytes-places b s m room e =
    let n = length (asked_bytes b m (makers_of s)) in
    let enough : n ≤ 57728 = asked_enough b.lean b.plain s m (makers_of s) e in
    of_require (leb n room) (numbered 17 n) _ (λ f. record { from = omega arith; to = omega arith; few = enough; more = λ _. leb-false n room f; names = no_names s (numbered 17 n) (λ e. absurd (omega arith)) (refl, refl) }) λ w.
    value (enough, leb→le n room w)

pub answer-places : (memory : ℕ) (b : Wish) (s : List ℕ) (room : ℕ) → Judged (CallPlace s room) (CallBytes room) (answer memory b s room)
unfolding answer
answer-places memory b s room =
    of_require (leb 32768 memory) (numbered 1 0) _ (λ _. no_memory s room) λ _.
    of_bind (full s) _ (weaker (early_place s room) (full-places s)) λ m e _.
    bytes-places b s m room e

said-places : {P : Refusal → Type 0} (room : ℕ) {a : Answer (List ℕ)} → Judged P (CallBytes room) a → Judged P (CallCount room) (said_of a)
said-places room (value h) = value h
said-places room (refusal h) = refusal h

-- what a call says: the number of bytes written, within the output, or a refusal from 1 to 17 with its place
pub call-places : (b : Wish) (s out work : List ℕ) → Judged (CallPlace s (length out)) (CallCount (length out)) (call b s out work).said
unfolding call
call-places b s out work = said-places (length out) (answer-places (length work) b s (length out))

-- ---- with the card's profile

-- a refusal of the profile: 27 of the whole, 28 and 29 at a terminal; none names types
pub record ProfilePlace (why : Refusal) : Type 0 where
  pub from : 27 ≤ why.number
  pub to : why.number ≤ 29
  pub low : why.place < 8192
  pub whole : why.number ≡ 27 → why.place ≡ 0
  pub plain : (why.wanted ≡ 0) × (why.found ≡ 0)

abbrev pub CardPlace : List ℕ → ℕ → Refusal → Type 0
CardPlace s room why = CallPlace s room why ⊎ ProfilePlace why

-- each element's output is below the end
output-below : (es : List Element) (n e : ℕ) (x : Element) → Rising es n e → Among x es → output_place x < e
output-below [] n e x r x4 = elim x4 [ ]
output-below (point i ∷ es) n e x r here = omega (arith, rising-end es (i + 2) e r.1)
output-below (part p i ∷ es) n e x r here = omega (arith, rising-end es (i + (part_at p).inputs + 1) e r.1)
output-below (point i ∷ es) n e x r (there h) = output-below es (i + 2) e x r.1 h
output-below (part p i ∷ es) n e x r (there h) = output-below es (i + (part_at p).inputs + 1) e x r.1 h

module _ (s : List ℕ) (room : ℕ) (m : Net) (e : full s ≡ good m) where
  lean-low : (x : Element) → Among x (lean m).elements → output_place x < 8192
  lean-low x h =
      let f = formed s m e in
      let l = lean-formed m f.net in
      omega (arith, output-below (lean m).elements 0 l.end x l.rising h, lean-end m f.net, f.few)

  broken-place : (τ : Ty) (why : Refusal) → Broken τ (lean m) why → ProfilePlace why
  broken-place τ why (root_type_lem f) = record { from = omega arith; to = omega arith; low = omega arith; whole = λ _. refl; plain = (refl, refl) }
  broken-place τ why (ring {i = i} c k h) = record { from = omega arith; to = omega arith; low = omega (arith, lean-low (point i) k.kept); whole = λ q. absurd (omega arith); plain = (refl, refl) }
  broken-place τ why (unread {o = o} c n u h) =
      record { from = omega arith; to = omega arith; low = omega (arith, lean-low (part u.part_number u.first) u.made, u.output); whole = λ q. absurd (omega arith); plain = (refl, refl) }

  profile-places : (card : Bool) → Judged (CardPlace s room) Any (on_card card s m)
  profile-places false = value tt
  profile-places true = by (on_card true s m) refl
    where
      by : (a : Answer (Unit {0})) → on_card true s m ≡ a → Judged (CardPlace s room) Any a
      by (good tt) q = value tt
      by (refused why) q = refusal (inr (broken-place (root_of_lem s m e).type why (card_refused s m e why q)))

pub card_answer_places : (card : Bool) (memory : ℕ) (b : Wish) (s : List ℕ) (room : ℕ) → Judged (CardPlace s room) (CallBytes room) (card_answer card memory b s room)
unfolding card_answer
card_answer_places card memory b s room =
    of_require (leb 32768 memory) (numbered 1 0) _ (λ _. inl (no_memory s room)) λ _.
    of_bind (full s) _ (weaker (λ why o. inl (early_place s room why o)) (full-places s)) λ m e _.
    of_bind (on_card card s m) _ (profile-places s room m e card) λ _ _ _.
    weaker (λ why o. inl o) (bytes-places b s m room e)

-- what a call says that may check the profile: as without, or a refusal from 27 to 29 with its place
pub card_places : (card : Bool) (b : Wish) (s out work : List ℕ) → Judged (CardPlace s (length out)) (CallCount (length out)) (card_call card b s out work).said
unfolding card_call
card_places card b s out work = said-places (length out) (card_answer_places card (length work) b s (length out))

-- ---- which two types clash

module _ (b : Wish) (s out work : List ℕ) (why : Refusal) (said : (call b s out work).said ≡ refused why) where
  call-names : TypesNamed s why
  call-names = (of_refused _ why (call-places b s out work) said).names

  pub call_small : (why.wanted ≤ 256) × (why.found ≤ 256)
  call_small = names_small s why call-names

  -- 12: the type wanted and the one found differ
  pub clash_differs : why.number ≡ 12 → ¬ (why.wanted ≡ why.found)
  clash_differs e = (call-names.clash e).2.differs

  -- .. the one found is a type of the sheet's table, and the one wanted is one, or 256
  pub clash-names : why.number ≡ 12 → (σ : Sheet) × (read_sheet s ≡ good σ) × (why.found < length σ.table) × ((why.wanted < length σ.table) ⊎ (why.wanted ≡ 256))
  clash-names e = let (σ, r, c) = call-names.clash e in (σ, r, c.found_in, c.wanted_in)

  -- every other refusal names none
  pub other-names : ¬ (why.number ≡ 12) → (why.wanted ≡ 0) × (why.found ≡ 0)
  other-names d = call-names.other d
