-- How many steps the machine of terms may still take: each word is passed once, each level is left once, and each definition that is put in
-- costs at least one of `most_puts` and has at most `most` words. Assumes nothing.
use Rattle.std.specs.Prelude.{ℕ, ◌+◌, ◌*◌, ◌-◌, List, [], ◌∷◌, length}
use Rattle.notation_calculus.specs.Making.{most_puts}
use Rattle.notation_machine.specs.Lists.{list_count}
use Rattle.notation_machine.specs.TermMachine.{TermWish, of_function, of_fix, value_of_name, value_of_names, under_name, under_names, element, of_definition, TermLevel, Terming, wanted_term, came_term, applying}

-- the steps of all definitions that may still be put in
unfoldable pub term_put_steps : ℕ → ℕ → ℕ
term_put_steps most puts = (most_puts - puts) * (3 * most + 3)

-- the body of a `let` comes behind its value, each list in a list has a level and a variable, and behind the body of a definition the words of the level go on
abbrev pub term_wish_steps : TermWish → ℕ
term_wish_steps (of_function xs t) = 0
term_wish_steps (of_fix x t) = 0
term_wish_steps (value_of_name at x) = 2
term_wish_steps (value_of_names at xs us) = 2 + 3 * list_count us
term_wish_steps (under_name x v) = 0
term_wish_steps (under_names ps) = 0
term_wish_steps (element s before) = 0
term_wish_steps (of_definition s us) = 3 * length us

abbrev pub term_level_steps : List TermLevel → ℕ
term_level_steps [] = 0
term_level_steps (l ∷ K) = 2 + term_wish_steps l.wish + term_level_steps K

abbrev pub term_steps : ℕ → Terming → ℕ
term_steps most (wanted_term more S σ ws K) = 1 + 3 * length ws + term_level_steps K + term_put_steps most σ.puts
term_steps most (came_term more m ws K) = 3 * length ws + term_level_steps K + term_put_steps most m.state.puts
term_steps most (applying more S at f ws K) = 1 + 3 * length ws + term_level_steps K + term_put_steps most f.state.puts

-- a level waits, or a term is wanted or goes on
abbrev pub TermGoing : Terming → Type 0
TermGoing (wanted_term more S σ ws K) = Unit {0}
TermGoing (came_term more m ws []) = ⊥
TermGoing (came_term more m ws (l ∷ K)) = Unit {0}
TermGoing (applying more S at f ws K) = Unit {0}
