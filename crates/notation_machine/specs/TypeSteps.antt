-- How many steps the machine of types may still take: each word is passed once, each level is left once, and each definition that is put in
-- costs at least one of `most_puts` and has at most `most` words. Assumes nothing.
use Rattle.std.specs.Prelude.{ℕ, ◌+◌, ◌*◌, ◌-◌, ◌≤◌, List, [], ◌∷◌, length}
use Rattle.notation_calculus.specs.Words.{Word}
use Rattle.notation_calculus.specs.Making.{most_puts}
use Rattle.notation_machine.specs.TypeMachine.{Wish, enclosed, argument, body, other, TypeLevel, Typing, wanted, came}

-- the steps of all definitions that may still be put in
unfoldable pub put_steps : ℕ → ℕ → ℕ
put_steps most puts = (most_puts - puts) * (2 * most + 2)

-- behind the body of a definition the words of the level go on
abbrev pub wish_steps : Wish → ℕ
wish_steps enclosed = 0
wish_steps (argument x given) = 0
wish_steps (body us) = 2 * length us
wish_steps (other f at t) = 0

abbrev pub level_steps : List TypeLevel → ℕ
level_steps [] = 0
level_steps (l ∷ K) = 1 + wish_steps l.wish + level_steps K

abbrev pub type_steps : ℕ → Typing → ℕ
type_steps most (wanted more tight S σ ws K) = 1 + 2 * length ws + level_steps K + put_steps most σ.puts
type_steps most (came more x ws K) = 2 * length ws + level_steps K + put_steps most x.state.puts

-- no definition's body, with all words behind it, has more words
abbrev pub AllShort : ℕ → List (List Word) → Type 0
AllShort most [] = Unit {0}
AllShort most (ws ∷ bodies) = (length ws ≤ most) × AllShort most bodies

-- a level waits, or a type is wanted
abbrev pub Going : Typing → Type 0
Going (wanted more tight S σ ws K) = Unit {0}
Going (came more x ws []) = ⊥
Going (came more x ws (l ∷ K)) = Unit {0}
