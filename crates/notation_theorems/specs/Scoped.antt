-- A term whose variables are all bound in it or by k binders around it; with none around it, a closed term. Assumes nothing.
use Rattle.std.specs.Prelude.{ℕ, suc, ◌<◌}
use Rattle.calculus.specs.Terms.{Term, var, lvar, fun, app, lfun, lapp, pair, proj, fix, con, name}

abbrev pub Scoped : ℕ → Term → Type 0
Scoped k (var i) = i < k
Scoped k (lvar i) = i < k
Scoped k (fun t e) = Scoped (suc k) e
Scoped k (app f a) = Scoped k f × Scoped k a
Scoped k (lfun t e) = Scoped (suc k) e
Scoped k (lapp f a) = Scoped k f × Scoped k a
Scoped k (pair t a b) = Scoped k a × Scoped k b
Scoped k (proj a e) = Scoped k a × Scoped (suc (suc k)) e
Scoped k (fix t e) = Scoped (suc k) e
Scoped k (con p t) = Unit {0}
Scoped k (name a e) = Scoped k a × Scoped (suc k) e
