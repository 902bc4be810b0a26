-- A level that is stored with its scope is read back, and nothing outside it changes. Assumes nothing.
use Prim.Native.Nat.{ℕ, zero, suc, ◌+◌, ◌*◌, ◌≤◌, ◌<◌}
use mathlib.Core.Path.{◌≡◌, ap, ◌∙◌}
use mathlib.Core.List.{List, [], ◌∷◌}
use native.Mathlib.Omega.{arith}
use lib.ListN.{length, get_or, set, length-set}
use lib.Seq.{sets, length-sets, get_or-set_same}
use Rattle.laws.proofs.Regions.{sets_outside, sets-before}
use Rattle.making_memory.specs.Map.{scope_at, levels_at, making_size}
use Rattle.walk_levels.specs.declared.Level.{Level}
use Rattle.walk_levels.specs.declared.Around.{Around}
use Rattle.walk_levels.specs.Levels.{scopes_at, level_in, scope_in, level_numbers, scope_numbers, pushed}
use Rattle.walk_levels.proofs.Keeping.{Outside}

-- each number of a run is read back
pub sets-at : (vs w : List ℕ) (i j : ℕ) → j < length vs → i + length vs ≤ length w → get_or (sets w i vs) (i + j) 0 ≡ get_or vs j 0
sets-at [] w i j h l = absurd (omega arith)
sets-at (v ∷ vs) w i zero h l =
    let e : i + 0 ≡ i = omega arith in
    ap (λ (k : ℕ). get_or (sets (set w i v) (suc i) vs) k 0) e ∙ sets-before vs (set w i v) (suc i) i 0 (omega arith) ∙ get_or-set_same w i v 0 (omega arith)
sets-at (v ∷ vs) w i (suc j) h l =
    let e : i + suc j ≡ suc i + j = omega arith in
    ap (λ (k : ℕ). get_or (sets (set w i v) (suc i) vs) k 0) e ∙ sets-at vs (set w i v) (suc i) j (omega arith) (omega (arith, length-set w i v))

module _ (w : List ℕ) (m : ℕ) (l : Level) (s : Around) (room : making_size ≤ length w) (few : m < 82) where
  abbrev first : List ℕ
  first = sets w (levels_at + 8 * m) (level_numbers l)

  long : making_size ≤ length first
  long = omega (arith, length-sets w (levels_at + 8 * m) (level_numbers l))

  level-number : (j : ℕ) → j < 8 → get_or (pushed w m l s) (levels_at + 8 * m + j) 0 ≡ get_or (level_numbers l) j 0
  level-number j h = sets-before (scope_numbers s) first (scopes_at + 4 * m) (levels_at + 8 * m + j) 0 (omega arith) ∙ sets-at (level_numbers l) w (levels_at + 8 * m) j h (omega arith)

  level-first : get_or (pushed w m l s) (levels_at + 8 * m) 0 ≡ l.form
  level-first = let e : levels_at + 8 * m ≡ levels_at + 8 * m + 0 = omega arith in ap (λ (k : ℕ). get_or (pushed w m l s) k 0) e ∙ level-number 0 (omega arith)

  pub pushed_level : level_in (pushed w m l s) m ≡ l
  pushed_level = rw (level-first, level-number 1 (omega arith), level-number 2 (omega arith), level-number 3 (omega arith), level-number 4 (omega arith), level-number 5 (omega arith), level-number 6 (omega arith), level-number 7 (omega arith))

  scope-number : (j : ℕ) → j < 3 → get_or (pushed w m l s) (scopes_at + 4 * m + j) 0 ≡ get_or (scope_numbers s) j 0
  scope-number j h = sets-at (scope_numbers s) first (scopes_at + 4 * m) j h (omega (arith, long))

  scope-first : get_or (pushed w m l s) (scopes_at + 4 * m) 0 ≡ s.frame
  scope-first = let e : scopes_at + 4 * m ≡ scopes_at + 4 * m + 0 = omega arith in ap (λ (k : ℕ). get_or (pushed w m l s) k 0) e ∙ scope-number 0 (omega arith)

  pub pushed_scope : scope_in (pushed w m l s) m ≡ s
  pushed_scope = rw (scope-first, scope-number 1 (omega arith), scope-number 2 (omega arith))

  -- below the levels nothing changes
  pub pushed-below : (i : ℕ) → i < levels_at → get_or (pushed w m l s) i 0 ≡ get_or w i 0
  pushed-below i h = sets-before (scope_numbers s) first (scopes_at + 4 * m) i 0 (omega arith) ∙ sets-before (level_numbers l) w (levels_at + 8 * m) i 0 (omega arith)

  -- the levels above it stay
  pub pushed_outside : (top : ℕ) → top ≤ 1024 → Outside w (pushed w m l s) m top
  pushed_outside top h = record {
    levels = λ i a b. sets-before (scope_numbers s) first (scopes_at + 4 * m) i 0 (omega arith) ∙ sets_outside (level_numbers l) w (levels_at + 8 * m) i 0 (λ q. omega arith) (omega arith);
    scopes = λ i a b. sets_outside (scope_numbers s) first (scopes_at + 4 * m) i 0 (λ q. omega arith) (omega arith) ∙ sets_outside (level_numbers l) w (levels_at + 8 * m) i 0 (λ q. omega arith) (omega arith);
    values = λ e a. pushed-below (scope_at + 2 * e + 1) (omega arith);
  }
