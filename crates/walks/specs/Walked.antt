-- What a walk leaves in the working memory as it was. Assumes nothing.
use Rattle.std.specs.Prelude.{ℕ, ◌+◌, ◌*◌, ◌≤◌, ◌<◌, ◌≡◌, List, length, get_or}
use Rattle.making_memory.specs.Map.{types_at, scope_at, halves_at, clauses_at, frames_at, type_count_at, node_count_at, put_count_at, levels_at}
use Rattle.walk_levels.specs.Levels.{scopes_at}

-- a walk over types, with at most m levels: it writes types, entries from `top` on, the frames below m, the levels up to m, and the counts of
-- types and of what was put in
pub record TypesWalked (m top : ℕ) (w w' : List ℕ) : Type 0 where
  pub same : length w' ≡ length w
  pub nodes : (j : ℕ) → j < types_at → get_or w' j 0 ≡ get_or w j 0
  pub entries : (j : ℕ) → scope_at ≤ j → j < scope_at + 2 * top → get_or w' j 0 ≡ get_or w j 0
  pub middle : (j : ℕ) → halves_at ≤ j → j < frames_at → get_or w' j 0 ≡ get_or w j 0
  pub frames : (j : ℕ) → frames_at + 4 * m ≤ j → j < type_count_at → get_or w' j 0 ≡ get_or w j 0
  pub counts : (j : ℕ) → type_count_at < j → j < levels_at → ¬ (j ≡ put_count_at) → get_or w' j 0 ≡ get_or w j 0
  pub levels : (j : ℕ) → levels_at + 8 * m + 8 ≤ j → j < scopes_at → get_or w' j 0 ≡ get_or w j 0
  pub scopes : (j : ℕ) → scopes_at + 4 * m + 4 ≤ j → get_or w' j 0 ≡ get_or w j 0
  pub more_types : get_or w type_count_at 0 ≤ get_or w' type_count_at 0
  pub few_types : get_or w type_count_at 0 ≤ 256 → get_or w' type_count_at 0 ≤ 256

-- .. over terms: nodes behind those that there were, and elements of tuples, too
pub record TermsWalked (m top : ℕ) (w w' : List ℕ) : Type 0 where
  pub same : length w' ≡ length w
  pub nodes : (j : ℕ) → j < types_at → j < 5 * get_or w node_count_at 0 → get_or w' j 0 ≡ get_or w j 0
  pub entries : (j : ℕ) → scope_at ≤ j → j < scope_at + 2 * top → get_or w' j 0 ≡ get_or w j 0
  pub clauses : (j : ℕ) → clauses_at ≤ j → j < frames_at → get_or w' j 0 ≡ get_or w j 0
  pub frames : (j : ℕ) → frames_at + 4 * m ≤ j → j < type_count_at → get_or w' j 0 ≡ get_or w j 0
  pub counts : (j : ℕ) → type_count_at < j → j < levels_at → ¬ (j ≡ node_count_at) → ¬ (j ≡ put_count_at) → get_or w' j 0 ≡ get_or w j 0
  pub levels : (j : ℕ) → levels_at + 8 * m + 8 ≤ j → j < scopes_at → get_or w' j 0 ≡ get_or w j 0
  pub scopes : (j : ℕ) → scopes_at + 4 * m + 4 ≤ j → get_or w' j 0 ≡ get_or w j 0
  pub more_types : get_or w type_count_at 0 ≤ get_or w' type_count_at 0
  pub few_types : get_or w type_count_at 0 ≤ 256 → get_or w' type_count_at 0 ≤ 256
  pub more_nodes : get_or w node_count_at 0 ≤ get_or w' node_count_at 0
