-- A term that was made, as the code hands it on: the number of its root, its type, its depth. Assumes nothing.
use Rattle.std.specs.Prelude.{ℕ, ◌*◌, ◌≤◌, ◌<◌, ◌≡◌, List, Result, Ok, Err, length, get_or}
use Rattle.answers.specs.declared.Refusal.{Refusal}
use Rattle.answers.specs.Refusals.{said_why}
use Rattle.calculus.specs.Answer.{Answer, good, refused}
use Rattle.notation_calculus.specs.Making.{Made}
use Rattle.making_memory.specs.Map.{types_at, type_count_at, node_count_at, making_size}
use Rattle.made_types.specs.Held.{HoldsState}
use Rattle.made_nodes.specs.Nodes.{TermIn}
use Rattle.made_nodes.specs.declared.Sub.{Sub}

-- the memory holds the term, its places, its type and its depth
pub record TermHeld (w : List ℕ) (s : Sub) (m : Made) : Type 0 where
  pub term : TermIn w s.node m.term m.places
  pub lower : s.node < get_or w node_count_at 0
  pub few : s.node < 2048
  pub type : s.ty ≡ m.type
  pub known : s.ty < get_or w type_count_at 0
  pub deep : s.deep ≡ m.deep

-- the answer is the definition's, and the memory holds what it made
abbrev pub MadeIn : List ℕ → Result Sub Refusal → Answer Made → Type 0
MadeIn w (Ok s) (good m) = HoldsState w m.state × TermHeld w s m
MadeIn w (Ok s) (refused why) = ⊥
MadeIn w (Err e) (good m) = ⊥
MadeIn w (Err e) (refused why) = why ≡ said_why e

-- the type of an answer is a number that can stand in the memory
abbrev pub SmallMade : Result Sub Refusal → Type 0
SmallMade (Ok s) = s.ty < 256
SmallMade (Err e) = Unit {0}

-- nodes and types are written behind those that there were, and nothing else
pub record MadeOnly (w w' : List ℕ) : Type 0 where
  pub same : length w' ≡ length w
  pub nodes : (i : ℕ) → i < types_at → i < 5 * get_or w node_count_at 0 → get_or w' i 0 ≡ get_or w i 0
  pub above : (i : ℕ) → 11264 ≤ i → (i ≡ type_count_at → ⊥) → (i ≡ node_count_at → ⊥) → get_or w' i 0 ≡ get_or w i 0
  pub more_types : get_or w type_count_at 0 ≤ get_or w' type_count_at 0
  pub few_types : get_or w type_count_at 0 ≤ 256 → get_or w' type_count_at 0 ≤ 256
  pub more_nodes : get_or w node_count_at 0 ≤ get_or w' node_count_at 0

-- the memory is as large as it has to be, with no more types than there may be
pub record Workable (w : List ℕ) : Type 0 where
  pub room : making_size ≤ length w
  pub few : get_or w type_count_at 0 ≤ 256
