-- The record of a term's first node, where the term stands at an offset (document 01, "The sheet"). Assumes nothing.
use Rattle.std.specs.Prelude.{ℕ, ◌+◌}
use Rattle.calculus.specs.Terms.{Term, var, lvar, fun, app, lfun, lapp, pair, proj, fix, con, name}
use Rattle.records.specs.declared.Rule.{Rule}
use Rattle.records.specs.declared.Rule.TheVariants as rule
use Rattle.records.specs.declared.Node.{Node}

-- a record of rule u with bytes x and y
abbrev pub node : Rule → ℕ → ℕ → ℕ → ℕ → Node
node u x y subterms next = record { rule = u; first = x; second = y; subterms = subterms; next = next }

abbrev pub node_of : Term → ℕ → Node
node_of (var i) at = node rule.Variable i 0 0 (at + 1 + 1)
node_of (lvar i) at = node rule.LinearVariable i 0 0 (at + 1 + 1)
node_of (fun t e) at = node rule.Function t 0 1 (at + 1 + 1)
node_of (app f a) at = node rule.Application 0 0 2 (at + 1 + 0)
node_of (lfun t e) at = node rule.LinearFunction t 0 1 (at + 1 + 1)
node_of (lapp f a) at = node rule.LinearApplication 0 0 2 (at + 1 + 0)
node_of (pair t a b) at = node rule.Pair t 0 2 (at + 1 + 1)
node_of (proj a e) at = node rule.Projection 0 0 2 (at + 1 + 0)
node_of (fix t e) at = node rule.FixedPoint t 0 1 (at + 1 + 1)
node_of (con p t) at = node rule.Constant p t 0 (at + 1 + 2)
node_of (name a e) at = node rule.Naming 0 0 2 (at + 1 + 0)
