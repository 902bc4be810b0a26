-- An answer as one number of 64 bits, for callers in C. Assumes nothing.
use Rattle.std.specs.Prelude.{ℕ, ◌+◌, ◌*◌, ◌≤◌, ◌<◌, min}
use Rattle.calculus.specs.Answer.{Answer, good, refused}

-- a in the upper 32 bits, b in the lower ones
abbrev pub upper_lower : ℕ → ℕ → ℕ
upper_lower a b = a * 4294967296 + b

-- the number of bytes written; or a refusal: bits 0 to 31 its place, 32 to 39 its number, 40 to 51 the type number wanted, 52 to 63 the
-- one found; what is larger than its bits hold shows as the largest number that they do
abbrev pub packed : Answer ℕ → ℕ
packed (good n) = min n 4294967295
packed (refused why) = upper_lower why.number (min why.place 4294967295) + (min why.wanted 4095 * 1099511627776 + min why.found 4095 * 4503599627370496)

-- each part fits its bits, and a refusal has a number
abbrev pub FitsWord : Answer ℕ → Type 0
FitsWord (good n) = n < 4294967296
FitsWord (refused why) = (1 ≤ why.number) × (why.number < 256) × (why.place < 4294967296) × (why.wanted < 4096) × (why.found < 4096)
