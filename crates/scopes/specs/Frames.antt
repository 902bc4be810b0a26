-- What a definition knows, as four numbers of the working memory; a scope of Making in the memory. Assumes nothing.
use Rattle.std.specs.Prelude.{ℕ, ◌+◌, ◌*◌, ◌-◌, ◌≤◌, ◌≡◌, List, length, get_or}
use Rattle.notation_calculus.specs.Making.{Scope, entries}
use Rattle.making_memory.specs.Map.{frames_at}
use Rattle.scopes.specs.declared.frames.Frame.{Frame}
use Rattle.scopes.specs.Entries.{entries_back, named_from, Places}

abbrev pub frame_in : List ℕ → ℕ → Frame
frame_in work f = record {
  seen = get_or work (frames_at + 4 * f) 0;
  types = get_or work (frames_at + 4 * f + 1) 0;
  numbers = get_or work (frames_at + 4 * f + 2) 0;
  variables = get_or work (frames_at + 4 * f + 3) 0;
}

-- a definition's parameters: types in order, then numbers in order, of which those that are only a number have no name
pub record HoldsParameters (text work : List ℕ) (f : Frame) (S : Scope) : Type 0 where
  pub seen : f.seen ≡ S.seen
  pub types_first : f.types ≤ f.numbers
  pub numbers_next : f.numbers ≤ f.variables
  pub types : named_from text work f.types (f.numbers - f.types) ≡ S.types
  pub numbers : named_from text work f.numbers (f.variables - f.numbers) ≡ S.numbers

-- a scope, by a frame and by how many entries there are: the variables stand behind those under them, the nearest last
pub record HoldsScope (text work : List ℕ) (frame top : ℕ) (S : Scope) : Type 0 where
  pub places : Places text work 0 top
  pub parameters : HoldsParameters text work (frame_in work frame) S
  pub under : (frame_in work frame).variables ≤ S.under
  pub variables : entries_back text work S.under (length S.variables) ≡ S.variables
  pub entries : entries S ≡ top
