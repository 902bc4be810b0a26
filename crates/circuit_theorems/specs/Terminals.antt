-- How many terminals a term makes (document 01, refusal 16), counted without making them, and when a terminal stands in a list. Assumes
-- nothing.
use Rattle.std.specs.Prelude.{ℕ, ◌+◌, ◌*◌, Bool, false, ◌||◌, List, [], ◌∷◌, eqb}
use Rattle.calculus.specs.Types.{size, Table, tree}
use Rattle.calculus.specs.Terms.{Term, var, lvar, fun, app, lfun, lapp, pair, proj, fix, con, name, part_at}
use Rattle.calculus.specs.Net.{left_of}

abbrev pub terminal_count : Table → Term → ℕ
terminal_count Θ (var i) = 0
terminal_count Θ (lvar i) = 0
terminal_count Θ (fun t e) = 2 * size (left_of (tree Θ t)) + terminal_count Θ e
terminal_count Θ (app f a) = terminal_count Θ f + terminal_count Θ a
terminal_count Θ (lfun t e) = 2 * size (left_of (tree Θ t)) + terminal_count Θ e
terminal_count Θ (lapp f a) = terminal_count Θ f + terminal_count Θ a
terminal_count Θ (pair t a b) = terminal_count Θ a + terminal_count Θ b
terminal_count Θ (proj a e) = terminal_count Θ a + terminal_count Θ e
terminal_count Θ (fix t e) = 2 * size (tree Θ t) + terminal_count Θ e
terminal_count Θ (con p t) = (part_at p).inputs + 1
terminal_count Θ (name a e) = terminal_count Θ a + terminal_count Θ e

-- terminal x stands in a list
abbrev pub has : List ℕ → ℕ → Bool
has [] x = false
has (y ∷ ys) x = eqb y x || has ys x
