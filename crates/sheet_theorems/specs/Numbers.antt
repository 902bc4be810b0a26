-- The type numbers of the binders in scope. Assumes nothing.
use Rattle.std.specs.Prelude.{ℕ, ◌<◌, [], ◌∷◌}
use Rattle.calculus.specs.Walk.{shared, linear, Stack}

-- each names one of the first l types
abbrev pub Numbers : Stack → ℕ → Type 0
Numbers [] l = Unit {0}
Numbers (shared t ∷ st) l = (t < l) × Numbers st l
Numbers (linear t u ∷ st) l = (t < l) × Numbers st l
