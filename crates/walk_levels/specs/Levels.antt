-- The levels of a walk as they stand in the working memory: eight numbers each, and three of its scope. Assumes nothing.
use Rattle.std.specs.Prelude.{ℕ, ◌+◌, ◌*◌, ◌≤◌, ◌<◌, List, [], ◌∷◌, length, get_or}
use Rattle.std.proofs.lemmas.List.Edits.{sets}
use Rattle.making_memory.specs.Map.{levels_at, making_size}
use Rattle.walk_levels.specs.declared.Level.{Level}
use Rattle.walk_levels.specs.declared.Around.{Around}

abbrev pub scopes_at : ℕ
scopes_at = 32400

-- there is room for level m
abbrev pub InLevels : List ℕ → ℕ → Type 0
InLevels w m = (making_size ≤ length w) × (m < 82)

abbrev pub level_in : List ℕ → ℕ → Level
level_in w m = record {
  form = get_or w (levels_at + 8 * m) 0;
  flag = get_or w (levels_at + 8 * m + 1) 0;
  place = get_or w (levels_at + 8 * m + 2) 0;
  count = get_or w (levels_at + 8 * m + 3) 0;
  node = get_or w (levels_at + 8 * m + 4) 0;
  ty = get_or w (levels_at + 8 * m + 5) 0;
  deep = get_or w (levels_at + 8 * m + 6) 0;
  next = get_or w (levels_at + 8 * m + 7) 0;
}

abbrev pub scope_in : List ℕ → ℕ → Around
scope_in w m = record { frame = get_or w (scopes_at + 4 * m) 0; top = get_or w (scopes_at + 4 * m + 1) 0; waiting = get_or w (scopes_at + 4 * m + 2) 0 }

-- ---- stored

abbrev pub level_numbers : Level → List ℕ
level_numbers l = l.form ∷ l.flag ∷ l.place ∷ l.count ∷ l.node ∷ l.ty ∷ l.deep ∷ l.next ∷ []

abbrev pub scope_numbers : Around → List ℕ
scope_numbers s = s.frame ∷ s.top ∷ s.waiting ∷ []

-- level m with its scope
abbrev pub pushed : List ℕ → ℕ → Level → Around → List ℕ
pushed w m l s = sets (sets w (levels_at + 8 * m) (level_numbers l)) (scopes_at + 4 * m) (scope_numbers s)
