-- The line of one element, wire, pin or refusal, by its numbers; names that stay shut. Assumes nothing.
use Rattle.std.specs.Prelude.{ℕ, [], ◌∷◌}
use Rattle.calculus.specs.Answer.{refuse}
use Rattle.calculus.specs.Net.{point, part, wire_of, out}
use Rattle.calculus.specs.Listing.{Text, element_line, wire_line, pin_lines, listing_of}

unfoldable pub point_line : ℕ → Text
point_line i = element_line (point i)

unfoldable pub part_line : ℕ → ℕ → Text
part_line p i = element_line (part p i)

unfoldable pub wired_line : ℕ → ℕ → Text
wired_line from to = wire_line (wire_of from to)

-- a pin's line has its terminal's number, of whichever kind that is
unfoldable pub pin_line : ℕ → Text
pin_line n = pin_lines (out n ∷ [])

unfoldable pub refused_line : ℕ → ℕ → Text
refused_line number place = listing_of (refuse number place)
