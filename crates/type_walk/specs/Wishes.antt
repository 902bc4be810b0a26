-- What a level that waits is said to wait for, by its form. Assumes nothing.
use Rattle.std.specs.Prelude.{ℕ, ◌≡◌}
use Rattle.made_types.specs.declared.Kind.{Kind}
use Rattle.type_walk.specs.declared.levels.Side.{Side}
use Rattle.type_walk.specs.declared.levels.Wish.{Wish}

-- the form of a level that waits for the other side of a sign
abbrev pub number_said : Side → ℕ
number_said Side.Product = 3
number_said Side.Arrow = 4
number_said Side.Linear = 5

-- the kind of the type that a sign makes of its two sides
abbrev pub kind_said : Side → Kind
kind_said Side.Product = Kind.Product
kind_said Side.Arrow = Kind.Arrow
kind_said Side.Linear = Kind.Linear

abbrev pub WishIs : ℕ → Wish → Type 0
WishIs form Wish.Inside = form ≡ 0
WishIs form Wish.Body = form ≡ 1
WishIs form Wish.Argument = form ≡ 2
WishIs form (Wish.Other side) = form ≡ number_said side
