-- Terms that wait in the working memory, four numbers each: elements of a tuple before the comma behind them, and pairs that are taken apart
-- for a name. Assumes nothing.
use Rattle.std.specs.Prelude.{ℕ, ◌+◌, ◌*◌, ◌≤◌, ◌<◌, ◌≡◌, List, [], ◌∷◌, length, get_or, Result}
use Rattle.std.proofs.lemmas.List.Edits.{sets}
use Rattle.answers.specs.declared.Refusal.{Refusal}
use Rattle.calculus.specs.Answer.{Answer}
use Rattle.notation_calculus.specs.Making.{Made}
use Rattle.notation_machine.specs.TermMachine.{Element, Taken, pairs_of, projections}
use Rattle.making_memory.specs.Map.{halves_at, making_size}
use Rattle.made_types.specs.Held.{HoldsState}
use Rattle.made_nodes.specs.Held.{TermHeld, MadeIn, SmallMade, MadeOnly, Workable}
use Rattle.made_nodes.specs.Forms.{PairSays, ProjectionSays}
use Rattle.made_nodes.specs.declared.Sub.{Sub}
use Rattle.walks.specs.Walked.{TermsWalked}
use Rattle.term_parts.specs.declared.halves.Half.{Half}
use Rattle.term_parts.specs.declared.joined.Joint.{Joint}

abbrev pub most_halves : ℕ
most_halves = 2048

abbrev pub half_in : List ℕ → ℕ → Half
half_in w i = record { node = get_or w (halves_at + 4 * i) 0; ty = get_or w (halves_at + 4 * i + 1) 0; deep = get_or w (halves_at + 4 * i + 2) 0; place = get_or w (halves_at + 4 * i + 3) 0 }

abbrev pub sub_of : Half → Sub
sub_of h = record { node = h.node; ty = h.ty; deep = h.deep }

-- the memory after half i is put
abbrev pub with_half : List ℕ → ℕ → Half → List ℕ
with_half w i h = sets w (halves_at + 4 * i) (h.node ∷ h.ty ∷ h.deep ∷ h.place ∷ [])

-- there is room for half i
abbrev pub InHalves : List ℕ → ℕ → Type 0
InHalves w i = (making_size ≤ length w) × (i < most_halves)

-- ---- what waits

-- terms that wait with a place each, from a half on: the first of the list is the topmost half
abbrev pub HalvesIn : {A : Type 0} → (A → Made) → (A → ℕ) → List ℕ → ℕ → List A → Type 0
HalvesIn made place w from [] = Unit {0}
HalvesIn made place w from (a ∷ as') = ((half_in w (from + length as')).place ≡ place a) × (TermHeld w (sub_of (half_in w (from + length as'))) (made a)) × HalvesIn made place w from as'

-- the elements of a tuple, the last first
abbrev pub ElementsIn : List ℕ → ℕ → List Element → Type 0
ElementsIn w from before = HalvesIn (λ (a : Element). a.made) (λ (a : Element). a.comma) w from before

-- pairs that are taken apart, the innermost first
abbrev pub TakenIn : List ℕ → ℕ → List Taken → Type 0
TakenIn w from ps = HalvesIn (λ (p : Taken). p.pair) (λ (p : Taken). p.place) w from ps

-- ---- what is written: types, nodes behind those that there were, entries from `top` on, halves from `waiting` on

pub record PartsOnly (top waiting : ℕ) (w w' : List ℕ) : Type 0 where
  pub walked : TermsWalked 0 top w w'
  pub halves : (j : ℕ) → halves_at ≤ j → j < halves_at + 4 * waiting → get_or w' j 0 ≡ get_or w j 0

-- ---- what waits is joined to a term, from the topmost half on

-- so many halves from one on, whose types are numbers of types
pub record CanJoin (w : List ℕ) (from count : ℕ) (e : Sub) : Type 0 where
  pub workable : Workable w
  pub few : from + count ≤ most_halves
  pub types : (i : ℕ) → i < count → (half_in w (from + i)).ty < 256
  pub type : e.ty < 256

pub record JoinSays {A : Type 0} (made : A → Made) (place : A → ℕ) (join : List A → Made → Answer Made) (w : List ℕ) (from count : ℕ) (e : Sub) (r : Result Sub Refusal) (w' : List ℕ) : Type 0 where
  pub only : MadeOnly w w'
  pub small : SmallMade r
  pub says : (as' : List A) (m : Made) → length as' ≡ count → HalvesIn made place w from as' → HoldsState w m.state → TermHeld w e m → MadeIn w' r (join as' m)

abbrev pub PairsSay : List ℕ → ℕ → ℕ → Sub → Result Sub Refusal → List ℕ → Type 0
PairsSay w from count e r w' = JoinSays (λ (a : Element). a.made) (λ (a : Element). a.comma) pairs_of w from count e r w'

abbrev pub ProjectionsSay : List ℕ → ℕ → ℕ → Sub → Result Sub Refusal → List ℕ → Type 0
ProjectionsSay w from count e r w' = JoinSays (λ (p : Taken). p.pair) (λ (p : Taken). p.place) projections w from count e r w'

-- by what joins them: one of them, and all
abbrev pub OneJoined : Joint → List ℕ → ℕ → Sub → Sub → Result Sub Refusal → List ℕ → Type 0
OneJoined Joint.Pair w place a f r w' = PairSays w place a f r w'
OneJoined Joint.Projection w place a f r w' = ProjectionSays w place a f r w'

abbrev pub JoinedSay : Joint → List ℕ → ℕ → ℕ → Sub → Result Sub Refusal → List ℕ → Type 0
JoinedSay Joint.Pair w from count e r w' = PairsSay w from count e r w'
JoinedSay Joint.Projection w from count e r w' = ProjectionsSay w from count e r w'
