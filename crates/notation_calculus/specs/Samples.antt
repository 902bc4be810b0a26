-- Texts with known results: their sheets' bytes, or the refusal. Assumes nothing.
use Rattle.std.specs.Prelude.{ℕ, List, [], ◌∷◌}
use Prim.Native.String.{String}
use Rattle.calculus.specs.Answer.{Answer, good, refuse, ◌>>=◌}
use Rattle.notation_calculus.specs.Words.{ascii}
use Rattle.notation_calculus.specs.Make.{make, bytes_of, Written, make_answer}

-- a text, and the sheet's bytes or the refusal
pub record Row : Type 0 where
  pub text : List ℕ
  pub result : Answer (List ℕ)

abbrev pub makes : String → List ℕ → Row
makes s bytes = record { text = ascii s; result = good bytes }

abbrev pub refuses : String → ℕ → ℕ → Row
refuses s number place = record { text = ascii s; result = refuse number place }

unfoldable pub made_of : Row → Answer (List ℕ)
made_of r = do
  m ← make r.text
  good (bytes_of m.sheet)

-- ---- the notation as it was

-- P1
abbrev pub M1 : Row
M1 = makes "table 1\nmain = zero" (0x01 ∷ 0x1A ∷ 0x00 ∷ 0x00 ∷ [])

-- P3
abbrev pub M2 : Row
M2 = makes "table 1, 1 -> 1, (1 -> 1) -o 1\nmain = (fun f : 1 -> 1. f zero) reg" (0x01 ∷ 0x03 ∷ 0x00 ∷ 0x00 ∷ 0x04 ∷ 0x01 ∷ 0x00 ∷ 0x16 ∷ 0x15 ∷ 0x02 ∷ 0x14 ∷ 0x12 ∷ 0x00 ∷ 0x1A ∷ 0x00 ∷ 0x00 ∷ 0x1A ∷ 0x01 ∷ 0x01 ∷ [])

-- several names share a type, and a comment stands between words
abbrev pub M3 : Row
M3 = makes "table 1, 1 -> 1, 1 -> 1 -> 1\nmain = fun x y : 1. -- a comment\n  and x y" (0x01 ∷ 0x03 ∷ 0x00 ∷ 0x00 ∷ 0x03 ∷ 0x00 ∷ 0x01 ∷ 0x13 ∷ 0x02 ∷ 0x13 ∷ 0x01 ∷ 0x14 ∷ 0x14 ∷ 0x1A ∷ 0x02 ∷ 0x02 ∷ 0x11 ∷ 0x01 ∷ 0x11 ∷ 0x00 ∷ [])

-- a name for a stretch of circuit, in the first edition a function applied
abbrev pub M4 : Row
M4 = makes "table 1, 1 -> 1, 1 -> 1 -> 1\nmain = fun x : 1. let y = inv x in and y y" (0x01 ∷ 0x03 ∷ 0x00 ∷ 0x00 ∷ 0x03 ∷ 0x00 ∷ 0x01 ∷ 0x13 ∷ 0x01 ∷ 0x14 ∷ 0x13 ∷ 0x01 ∷ 0x14 ∷ 0x14 ∷ 0x1A ∷ 0x02 ∷ 0x02 ∷ 0x11 ∷ 0x00 ∷ 0x11 ∷ 0x00 ∷ 0x14 ∷ 0x1A ∷ 0x05 ∷ 0x01 ∷ 0x11 ∷ 0x00 ∷ [])

-- .. in the second edition 1B
abbrev pub M5 : Row
M5 = makes "edition 2\ntable 1, 1 -> 1, 1 * 1, 1 * 1 -> 1\nmain = fun x : 1. let y = inv x in and (y, y)" (0x31 ∷ 0x01 ∷ 0x03 ∷ 0x00 ∷ 0x00 ∷ 0x02 ∷ 0x00 ∷ 0x00 ∷ 0x03 ∷ 0x02 ∷ 0x00 ∷ 0x13 ∷ 0x01 ∷ 0x1B ∷ 0x14 ∷ 0x1A ∷ 0x05 ∷ 0x01 ∷ 0x11 ∷ 0x00 ∷ 0x14 ∷ 0x1A ∷ 0x02 ∷ 0x03 ∷ 0x17 ∷ 0x02 ∷ 0x11 ∷ 0x00 ∷ 0x11 ∷ 0x00 ∷ [])

-- .. and for a circuit a linear function applied
abbrev pub M6 : Row
M6 = makes "edition 2\ntable 1, 1 -> 1, (1 -> 1) -o 1\nmain = let f = reg in f zero" (0x31 ∷ 0x01 ∷ 0x03 ∷ 0x00 ∷ 0x00 ∷ 0x04 ∷ 0x01 ∷ 0x00 ∷ 0x16 ∷ 0x15 ∷ 0x02 ∷ 0x14 ∷ 0x12 ∷ 0x00 ∷ 0x1A ∷ 0x00 ∷ 0x00 ∷ 0x1A ∷ 0x01 ∷ 0x01 ∷ [])

-- a pair of three taken apart
abbrev pub M7 : Row
M7 = makes "table 1, 1 * 1, 1 * 1 * 1, 1 * 1 * 1 -> 1 * 1 * 1\nmain = fun p : 1 * 1 * 1. let (x, y, z) = p in (z, y, x)" (0x01 ∷ 0x02 ∷ 0x00 ∷ 0x00 ∷ 0x02 ∷ 0x00 ∷ 0x01 ∷ 0x03 ∷ 0x02 ∷ 0x02 ∷ 0x13 ∷ 0x03 ∷ 0x18 ∷ 0x11 ∷ 0x00 ∷ 0x18 ∷ 0x11 ∷ 0x00 ∷ 0x17 ∷ 0x02 ∷ 0x11 ∷ 0x00 ∷ 0x17 ∷ 0x01 ∷ 0x11 ∷ 0x01 ∷ 0x11 ∷ 0x03 ∷ [])

-- a definition put in, under variables of the same names
abbrev pub M8 : Row
M8 = makes "edition 2\ntable 1, 1 -> 1, 1 -> 1 -> 1, 1 * 1, 1 * 1 -> 1\nsticky = fun set : 1. fix s : 1. or (set, reg s)\nmain = fun s : 1. fun y : 1. sticky (xor (s, y))" (0x31 ∷ 0x01 ∷ 0x03 ∷ 0x00 ∷ 0x00 ∷ 0x03 ∷ 0x00 ∷ 0x01 ∷ 0x02 ∷ 0x00 ∷ 0x00 ∷ 0x03 ∷ 0x03 ∷ 0x00 ∷ 0x13 ∷ 0x02 ∷ 0x13 ∷ 0x01 ∷ 0x14 ∷ 0x13 ∷ 0x01 ∷ 0x19 ∷ 0x00 ∷ 0x14 ∷ 0x1A ∷ 0x03 ∷ 0x04 ∷ 0x17 ∷ 0x03 ∷ 0x11 ∷ 0x01 ∷ 0x14 ∷ 0x1A ∷ 0x01 ∷ 0x01 ∷ 0x11 ∷ 0x00 ∷ 0x14 ∷ 0x1A ∷ 0x04 ∷ 0x04 ∷ 0x17 ∷ 0x03 ∷ 0x11 ∷ 0x01 ∷ 0x11 ∷ 0x00 ∷ [])

-- types that do not fit become a sheet
abbrev pub M9 : Row
M9 = makes "table 1, 1 -> 1\nmain = fun x : 1. x x" (0x01 ∷ 0x03 ∷ 0x00 ∷ 0x00 ∷ 0x13 ∷ 0x01 ∷ 0x14 ∷ 0x11 ∷ 0x00 ∷ 0x11 ∷ 0x00 ∷ [])

-- a type's name
abbrev pub M11 : Row
M11 = makes "table 1, 1 * 1, 1 * 1 -> 1 * 1, (1 * 1 -> 1 * 1) -o 1 * 1 -> 1 * 1\ntype w = 1 * 1\nmain = fun p : w -> w. p" (0x01 ∷ 0x02 ∷ 0x00 ∷ 0x00 ∷ 0x03 ∷ 0x01 ∷ 0x01 ∷ 0x04 ∷ 0x02 ∷ 0x02 ∷ 0x15 ∷ 0x03 ∷ 0x12 ∷ 0x00 ∷ [])

-- definitions that `main` does not reach leave nothing in the sheet; those with parameters are not made
abbrev pub M12 : Row
M12 = makes "table 1\nlater = inv\nodd[a] = frist\neven{n} = frist\nmain = zero" (0x01 ∷ 0x1A ∷ 0x00 ∷ 0x00 ∷ [])

-- bits in a row, nested to the right
abbrev pub M14 : Row
M14 = makes "main = fun x : 1^3. x" (0x01 ∷ 0x02 ∷ 0x00 ∷ 0x00 ∷ 0x02 ∷ 0x00 ∷ 0x01 ∷ 0x03 ∷ 0x02 ∷ 0x02 ∷ 0x13 ∷ 0x03 ∷ 0x11 ∷ 0x00 ∷ [])

-- .. one of them is a bit
abbrev pub M15 : Row
M15 = makes "main = fun x : 1 ^ 01. x" (0x01 ∷ 0x03 ∷ 0x00 ∷ 0x00 ∷ 0x13 ∷ 0x01 ∷ 0x11 ∷ 0x00 ∷ [])

-- .. a row binds closer than a product
abbrev pub M16 : Row
M16 = makes "main = fun x : 1^2 * 1. x" (0x01 ∷ 0x02 ∷ 0x00 ∷ 0x00 ∷ 0x02 ∷ 0x01 ∷ 0x00 ∷ 0x03 ∷ 0x02 ∷ 0x02 ∷ 0x13 ∷ 0x03 ∷ 0x11 ∷ 0x00 ∷ [])

-- a function of a pair that is taken apart
abbrev pub M17 : Row
M17 = makes "main = fun (a, b) : 1 * 1. a" (0x01 ∷ 0x02 ∷ 0x00 ∷ 0x00 ∷ 0x03 ∷ 0x01 ∷ 0x00 ∷ 0x13 ∷ 0x02 ∷ 0x18 ∷ 0x11 ∷ 0x00 ∷ 0x11 ∷ 0x01 ∷ [])

-- .. is a function, and a pair taken apart in its body
abbrev pub M18 : Row
M18 = makes "main = fun p : 1 * 1. let (a, b) = p in a" (0x01 ∷ 0x02 ∷ 0x00 ∷ 0x00 ∷ 0x03 ∷ 0x01 ∷ 0x00 ∷ 0x13 ∷ 0x02 ∷ 0x18 ∷ 0x11 ∷ 0x00 ∷ 0x11 ∷ 0x01 ∷ [])

-- .. with three names
abbrev pub M19 : Row
M19 = makes "main = fun (a, b, c) : 1^3. (c, a)" (0x01 ∷ 0x02 ∷ 0x00 ∷ 0x00 ∷ 0x02 ∷ 0x00 ∷ 0x01 ∷ 0x03 ∷ 0x02 ∷ 0x01 ∷ 0x13 ∷ 0x03 ∷ 0x18 ∷ 0x11 ∷ 0x00 ∷ 0x18 ∷ 0x11 ∷ 0x00 ∷ 0x17 ∷ 0x01 ∷ 0x11 ∷ 0x00 ∷ 0x11 ∷ 0x03 ∷ [])

-- .. and of a circuit, which is no pair
abbrev pub M20 : Row
M20 = makes "main = fun (a, b) : 1 -> 1. a" (0x01 ∷ 0x03 ∷ 0x00 ∷ 0x00 ∷ 0x04 ∷ 0x01 ∷ 0x00 ∷ 0x15 ∷ 0x02 ∷ 0x18 ∷ 0x12 ∷ 0x00 ∷ 0x11 ∷ 0x01 ∷ [])

-- a list in a list
abbrev pub M22 : Row
M22 = makes "main = fun p : (1 * 1) * 1. let ((a, b), c) = p in (c, a)" (0x01 ∷ 0x02 ∷ 0x00 ∷ 0x00 ∷ 0x02 ∷ 0x01 ∷ 0x00 ∷ 0x03 ∷ 0x02 ∷ 0x01 ∷ 0x13 ∷ 0x03 ∷ 0x18 ∷ 0x11 ∷ 0x00 ∷ 0x18 ∷ 0x11 ∷ 0x01 ∷ 0x17 ∷ 0x01 ∷ 0x11 ∷ 0x02 ∷ 0x11 ∷ 0x01 ∷ [])

-- .. is taken apart in the body of the list around it
abbrev pub M23 : Row
M23 = makes "main = fun p : (1 * 1) * 1. let (q, c) = p in let (a, b) = q in (c, a)" (0x01 ∷ 0x02 ∷ 0x00 ∷ 0x00 ∷ 0x02 ∷ 0x01 ∷ 0x00 ∷ 0x03 ∷ 0x02 ∷ 0x01 ∷ 0x13 ∷ 0x03 ∷ 0x18 ∷ 0x11 ∷ 0x00 ∷ 0x18 ∷ 0x11 ∷ 0x01 ∷ 0x17 ∷ 0x01 ∷ 0x11 ∷ 0x02 ∷ 0x11 ∷ 0x01 ∷ [])

-- .. between two names, behind the rest of the pair
abbrev pub M24 : Row
M24 = makes "main = fun p : 1 * (1 * 1) * 1. let (a, (b, c), d) = p in (a, c)" (0x01 ∷ 0x02 ∷ 0x00 ∷ 0x00 ∷ 0x02 ∷ 0x01 ∷ 0x00 ∷ 0x02 ∷ 0x00 ∷ 0x02 ∷ 0x03 ∷ 0x03 ∷ 0x01 ∷ 0x13 ∷ 0x04 ∷ 0x18 ∷ 0x11 ∷ 0x00 ∷ 0x18 ∷ 0x11 ∷ 0x00 ∷ 0x18 ∷ 0x11 ∷ 0x01 ∷ 0x17 ∷ 0x01 ∷ 0x11 ∷ 0x05 ∷ 0x11 ∷ 0x00 ∷ [])

abbrev pub M25 : Row
M25 = makes "main = fun p : 1 * (1 * 1) * 1. let (a, q, d) = p in let (b, c) = q in (a, c)" (0x01 ∷ 0x02 ∷ 0x00 ∷ 0x00 ∷ 0x02 ∷ 0x01 ∷ 0x00 ∷ 0x02 ∷ 0x00 ∷ 0x02 ∷ 0x03 ∷ 0x03 ∷ 0x01 ∷ 0x13 ∷ 0x04 ∷ 0x18 ∷ 0x11 ∷ 0x00 ∷ 0x18 ∷ 0x11 ∷ 0x00 ∷ 0x18 ∷ 0x11 ∷ 0x01 ∷ 0x17 ∷ 0x01 ∷ 0x11 ∷ 0x05 ∷ 0x11 ∷ 0x00 ∷ [])

-- two lists in a list, the first one first
abbrev pub M26 : Row
M26 = makes "main = fun ((a, b), (c, d)) : (1 * 1) * 1 * 1. (b, c)" (0x01 ∷ 0x02 ∷ 0x00 ∷ 0x00 ∷ 0x02 ∷ 0x01 ∷ 0x01 ∷ 0x03 ∷ 0x02 ∷ 0x01 ∷ 0x13 ∷ 0x03 ∷ 0x18 ∷ 0x11 ∷ 0x00 ∷ 0x18 ∷ 0x11 ∷ 0x01 ∷ 0x18 ∷ 0x11 ∷ 0x02 ∷ 0x17 ∷ 0x01 ∷ 0x11 ∷ 0x02 ∷ 0x11 ∷ 0x01 ∷ [])

abbrev pub M27 : Row
M27 = makes "main = fun p : (1 * 1) * 1 * 1. let (q, r) = p in let (a, b) = q in let (c, d) = r in (b, c)" (0x01 ∷ 0x02 ∷ 0x00 ∷ 0x00 ∷ 0x02 ∷ 0x01 ∷ 0x01 ∷ 0x03 ∷ 0x02 ∷ 0x01 ∷ 0x13 ∷ 0x03 ∷ 0x18 ∷ 0x11 ∷ 0x00 ∷ 0x18 ∷ 0x11 ∷ 0x01 ∷ 0x18 ∷ 0x11 ∷ 0x02 ∷ 0x17 ∷ 0x01 ∷ 0x11 ∷ 0x02 ∷ 0x11 ∷ 0x01 ∷ [])

-- .. with a name that nobody reads, twice
abbrev pub M28 : Row
M28 = makes "main = fun ((_, a), (_, b)) : (1 * 1) * 1 * 1. (a, b)" (0x01 ∷ 0x02 ∷ 0x00 ∷ 0x00 ∷ 0x02 ∷ 0x01 ∷ 0x01 ∷ 0x03 ∷ 0x02 ∷ 0x01 ∷ 0x13 ∷ 0x03 ∷ 0x18 ∷ 0x11 ∷ 0x00 ∷ 0x18 ∷ 0x11 ∷ 0x01 ∷ 0x18 ∷ 0x11 ∷ 0x02 ∷ 0x17 ∷ 0x01 ∷ 0x11 ∷ 0x02 ∷ 0x11 ∷ 0x00 ∷ [])

abbrev pub M29 : Row
M29 = makes "main = fun p : (1 * 1) * 1 * 1. let (q, r) = p in let (_, a) = q in let (_, b) = r in (a, b)" (0x01 ∷ 0x02 ∷ 0x00 ∷ 0x00 ∷ 0x02 ∷ 0x01 ∷ 0x01 ∷ 0x03 ∷ 0x02 ∷ 0x01 ∷ 0x13 ∷ 0x03 ∷ 0x18 ∷ 0x11 ∷ 0x00 ∷ 0x18 ∷ 0x11 ∷ 0x01 ∷ 0x18 ∷ 0x11 ∷ 0x02 ∷ 0x17 ∷ 0x01 ∷ 0x11 ∷ 0x02 ∷ 0x11 ∷ 0x00 ∷ [])

-- three lists in one another
abbrev pub M30 : Row
M30 = makes "main = fun p : ((1 * 1) * 1) * 1. let (((a, b), c), d) = p in (b, d)" (0x01 ∷ 0x02 ∷ 0x00 ∷ 0x00 ∷ 0x02 ∷ 0x01 ∷ 0x00 ∷ 0x02 ∷ 0x02 ∷ 0x00 ∷ 0x03 ∷ 0x03 ∷ 0x01 ∷ 0x13 ∷ 0x04 ∷ 0x18 ∷ 0x11 ∷ 0x00 ∷ 0x18 ∷ 0x11 ∷ 0x01 ∷ 0x18 ∷ 0x11 ∷ 0x01 ∷ 0x17 ∷ 0x01 ∷ 0x11 ∷ 0x00 ∷ 0x11 ∷ 0x04 ∷ [])

abbrev pub M31 : Row
M31 = makes "main = fun p : ((1 * 1) * 1) * 1. let (q, d) = p in let (r, c) = q in let (a, b) = r in (b, d)" (0x01 ∷ 0x02 ∷ 0x00 ∷ 0x00 ∷ 0x02 ∷ 0x01 ∷ 0x00 ∷ 0x02 ∷ 0x02 ∷ 0x00 ∷ 0x03 ∷ 0x03 ∷ 0x01 ∷ 0x13 ∷ 0x04 ∷ 0x18 ∷ 0x11 ∷ 0x00 ∷ 0x18 ∷ 0x11 ∷ 0x01 ∷ 0x18 ∷ 0x11 ∷ 0x01 ∷ 0x17 ∷ 0x01 ∷ 0x11 ∷ 0x00 ∷ 0x11 ∷ 0x04 ∷ [])

-- all lists in the order in which their parentheses stand
abbrev pub M32 : Row
M32 = makes "main = fun ((a, (b, c)), (d, e)) : (1 * 1 * 1) * 1 * 1. (c, e)" (0x01 ∷ 0x02 ∷ 0x00 ∷ 0x00 ∷ 0x02 ∷ 0x00 ∷ 0x01 ∷ 0x02 ∷ 0x02 ∷ 0x01 ∷ 0x03 ∷ 0x03 ∷ 0x01 ∷ 0x13 ∷ 0x04 ∷ 0x18 ∷ 0x11 ∷ 0x00 ∷ 0x18 ∷ 0x11 ∷ 0x01 ∷ 0x18 ∷ 0x11 ∷ 0x00 ∷ 0x18 ∷ 0x11 ∷ 0x04 ∷ 0x17 ∷ 0x01 ∷ 0x11 ∷ 0x02 ∷ 0x11 ∷ 0x00 ∷ [])

abbrev pub M33 : Row
M33 = makes "main = fun p : (1 * 1 * 1) * 1 * 1. let (q, r) = p in let (a, s) = q in let (b, c) = s in let (d, e) = r in (c, e)" (0x01 ∷ 0x02 ∷ 0x00 ∷ 0x00 ∷ 0x02 ∷ 0x00 ∷ 0x01 ∷ 0x02 ∷ 0x02 ∷ 0x01 ∷ 0x03 ∷ 0x03 ∷ 0x01 ∷ 0x13 ∷ 0x04 ∷ 0x18 ∷ 0x11 ∷ 0x00 ∷ 0x18 ∷ 0x11 ∷ 0x01 ∷ 0x18 ∷ 0x11 ∷ 0x00 ∷ 0x18 ∷ 0x11 ∷ 0x04 ∷ 0x17 ∷ 0x01 ∷ 0x11 ∷ 0x02 ∷ 0x11 ∷ 0x00 ∷ [])

-- of two variables of one name the one of the later list is meant
abbrev pub M34 : Row
M34 = makes "main = fun p : (1 * 1) * 1. let ((a, b), a) = p in a" (0x01 ∷ 0x02 ∷ 0x00 ∷ 0x00 ∷ 0x02 ∷ 0x01 ∷ 0x00 ∷ 0x03 ∷ 0x02 ∷ 0x00 ∷ 0x13 ∷ 0x03 ∷ 0x18 ∷ 0x11 ∷ 0x00 ∷ 0x18 ∷ 0x11 ∷ 0x01 ∷ 0x11 ∷ 0x01 ∷ [])

abbrev pub M35 : Row
M35 = makes "main = fun p : (1 * 1) * 1. let (q, a) = p in let (a, b) = q in a" (0x01 ∷ 0x02 ∷ 0x00 ∷ 0x00 ∷ 0x02 ∷ 0x01 ∷ 0x00 ∷ 0x03 ∷ 0x02 ∷ 0x00 ∷ 0x13 ∷ 0x03 ∷ 0x18 ∷ 0x11 ∷ 0x00 ∷ 0x18 ∷ 0x11 ∷ 0x01 ∷ 0x11 ∷ 0x01 ∷ [])

-- ---- definitions with parameters

-- of two clauses that fit the first is meant
abbrev pub G5 : Row
G5 = makes "table 1\nf{0} = zero\nf{n} = one\nmain = f{0}" (0x01 ∷ 0x1A ∷ 0x00 ∷ 0x00 ∷ [])

-- sixteen definitions, one within the other
abbrev pub G1 : Row
G1 = makes "table 1, 1 -> 1\ndelay{0} = fun x : 1. x\ndelay{n + 1} = fun x : 1. reg (delay{n} x)\nmain = delay{16}" (0x01 ∷ 0x03 ∷ 0x00 ∷ 0x00 ∷ 0x13 ∷ 0x01 ∷ 0x14 ∷ 0x1A ∷ 0x01 ∷ 0x01 ∷ 0x14 ∷ 0x13 ∷ 0x01 ∷ 0x14 ∷ 0x1A ∷ 0x01 ∷ 0x01 ∷ 0x14 ∷ 0x13 ∷ 0x01 ∷ 0x14 ∷ 0x1A ∷ 0x01 ∷ 0x01 ∷ 0x14 ∷ 0x13 ∷ 0x01 ∷ 0x14 ∷ 0x1A ∷ 0x01 ∷ 0x01 ∷ 0x14 ∷ 0x13 ∷ 0x01 ∷ 0x14 ∷ 0x1A ∷ 0x01 ∷ 0x01 ∷ 0x14 ∷ 0x13 ∷ 0x01 ∷ 0x14 ∷ 0x1A ∷ 0x01 ∷ 0x01 ∷ 0x14 ∷ 0x13 ∷ 0x01 ∷ 0x14 ∷ 0x1A ∷ 0x01 ∷ 0x01 ∷ 0x14 ∷ 0x13 ∷ 0x01 ∷ 0x14 ∷ 0x1A ∷ 0x01 ∷ 0x01 ∷ 0x14 ∷ 0x13 ∷ 0x01 ∷ 0x14 ∷ 0x1A ∷ 0x01 ∷ 0x01 ∷ 0x14 ∷ 0x13 ∷ 0x01 ∷ 0x14 ∷ 0x1A ∷ 0x01 ∷ 0x01 ∷ 0x14 ∷ 0x13 ∷ 0x01 ∷ 0x14 ∷ 0x1A ∷ 0x01 ∷ 0x01 ∷ 0x14 ∷ 0x13 ∷ 0x01 ∷ 0x14 ∷ 0x1A ∷ 0x01 ∷ 0x01 ∷ 0x14 ∷ 0x13 ∷ 0x01 ∷ 0x14 ∷ 0x1A ∷ 0x01 ∷ 0x01 ∷ 0x14 ∷ 0x13 ∷ 0x01 ∷ 0x14 ∷ 0x1A ∷ 0x01 ∷ 0x01 ∷ 0x14 ∷ 0x13 ∷ 0x01 ∷ 0x14 ∷ 0x1A ∷ 0x01 ∷ 0x01 ∷ 0x14 ∷ 0x13 ∷ 0x01 ∷ 0x14 ∷ 0x1A ∷ 0x01 ∷ 0x01 ∷ 0x14 ∷ 0x13 ∷ 0x01 ∷ 0x11 ∷ 0x00 ∷ 0x11 ∷ 0x00 ∷ 0x11 ∷ 0x00 ∷ 0x11 ∷ 0x00 ∷ 0x11 ∷ 0x00 ∷ 0x11 ∷ 0x00 ∷ 0x11 ∷ 0x00 ∷ 0x11 ∷ 0x00 ∷ 0x11 ∷ 0x00 ∷ 0x11 ∷ 0x00 ∷ 0x11 ∷ 0x00 ∷ 0x11 ∷ 0x00 ∷ 0x11 ∷ 0x00 ∷ 0x11 ∷ 0x00 ∷ 0x11 ∷ 0x00 ∷ 0x11 ∷ 0x00 ∷ 0x11 ∷ 0x00 ∷ [])

-- a type for each size, and a definition for all types
abbrev pub G2 : Row
G2 = makes "edition 2\ntable 1, 1 * 1, 1 * 1 -> 1, (1 * 1) * 1 * 1, (1 * 1) * 1 * 1 -> 1 * 1, (1 * 1 -> 1) -o (1 * 1) * 1 * 1 -> 1 * 1, (1 * 1 -> 1) -o (1 * 1 -> 1) -o (1 * 1) * 1 * 1 -> 1 * 1\ntype row{0} = 1\ntype row{n + 1} = row{n} * row{n}\ntwo[a, b] = fun f g : a -> b. fun p : a * a. let (x, y) = p in (f x, g y)\nmain = two[row{1}, row{0}] and or" (0x31 ∷ 0x01 ∷ 0x02 ∷ 0x00 ∷ 0x00 ∷ 0x03 ∷ 0x01 ∷ 0x00 ∷ 0x02 ∷ 0x01 ∷ 0x01 ∷ 0x03 ∷ 0x03 ∷ 0x01 ∷ 0x04 ∷ 0x02 ∷ 0x04 ∷ 0x04 ∷ 0x02 ∷ 0x05 ∷ 0x16 ∷ 0x16 ∷ 0x15 ∷ 0x06 ∷ 0x15 ∷ 0x05 ∷ 0x13 ∷ 0x04 ∷ 0x18 ∷ 0x11 ∷ 0x00 ∷ 0x17 ∷ 0x01 ∷ 0x14 ∷ 0x12 ∷ 0x04 ∷ 0x11 ∷ 0x01 ∷ 0x14 ∷ 0x12 ∷ 0x03 ∷ 0x11 ∷ 0x00 ∷ 0x1A ∷ 0x02 ∷ 0x02 ∷ 0x1A ∷ 0x03 ∷ 0x02 ∷ [])

-- a row for each number, and its products listed once
abbrev pub G6 : Row
G6 = makes "type bus{n} = 1^n + 1\nmain = fun x : bus{1} * 1^2. x" (0x01 ∷ 0x02 ∷ 0x00 ∷ 0x00 ∷ 0x02 ∷ 0x01 ∷ 0x01 ∷ 0x03 ∷ 0x02 ∷ 0x02 ∷ 0x13 ∷ 0x03 ∷ 0x11 ∷ 0x00 ∷ [])

-- ---- one of each refusal, or more

-- no word begins with this byte
abbrev pub R1 : Row
R1 = refuses "main = zero ?" 31 12

-- .. nor is this a number
abbrev pub R2 : Row
R2 = refuses "main = 2nd" 31 7

-- another word is due
abbrev pub R3 : Row
R3 = refuses "main = fun x 1. x" 32 13

-- a part's name cannot be bound
abbrev pub R4 : Row
R4 = refuses "main = fun reg : 1. zero" 32 11

-- a function as an argument stands in parentheses
abbrev pub R5 : Row
R5 = refuses "main = inv fun x : 1. x" 32 11

-- one name is no pair
abbrev pub R6 : Row
R6 = refuses "main = let (x) = zero in x" 32 13

-- the edition stands first
abbrev pub R7 : Row
R7 = refuses "main = zero edition 2" 32 12

-- there are two editions
abbrev pub R8 : Row
R8 = refuses "edition 3 main = zero" 32 8

-- a parenthesis that is not closed
abbrev pub R9 : Row
R9 = refuses "main = (zero" 32 12

-- not defined
abbrev pub R10 : Row
R10 = refuses "main = fun x : 1. inv (frist x)" 33 23

-- defined below
abbrev pub R11 : Row
R11 = refuses "main = f\nf = zero" 33 7

-- a definition knows none of the variables where it is named
abbrev pub R12 : Row
R12 = refuses "f{n} = x\nmain = fun x : 1. f{0}" 33 7

-- no clause fits this number
abbrev pub R13 : Row
R13 = refuses "f{0} = zero\nmain = f{1}" 33 19

-- another number of parameters
abbrev pub R14 : Row
R14 = refuses "f[a] = fun x : a. x\nmain = f" 33 27

-- a number's name
abbrev pub R15 : Row
R15 = refuses "f{n} = zero\nmain = f{n}" 33 21

-- a type's name
abbrev pub R16 : Row
R16 = refuses "main = fun x : bit. x" 33 15

-- no main
abbrev pub R17 : Row
R17 = refuses "f = zero\n" 33 9

-- a clause below, of another name
abbrev pub R28 : Row
R28 = refuses "f{n} = g\ng = zero\nmain = f{0}" 33 7

-- a definition that names itself for ever
abbrev pub R18 : Row
R18 = refuses "f{n} = f{n}\nmain = f{0}" 34 7

-- a number above 255
abbrev pub R19 : Row
R19 = refuses "main = f{256}" 34 9

-- a product of circuits
abbrev pub R23 : Row
R23 = refuses "main = fun p : (1 -> 1) * 1. p" 35 24

-- a sharable arrow from a circuit
abbrev pub R24 : Row
R24 = refuses "main = fun p : (1 -> 1) -> 1. p" 35 24

-- a linear arrow from a bit
abbrev pub R25 : Row
R25 = refuses "main = fun p : 1 -o 1. p" 35 17

-- a name defined twice
abbrev pub R26 : Row
R26 = refuses "f = zero\nf = one\nmain = f" 36 9

-- a clause that would never fit
abbrev pub R27 : Row
R27 = refuses "f{n} = zero\nf{n + 1} = one\nmain = f{0}" 36 12

-- a definition that `main` does not reach
abbrev pub R31 : Row
R31 = refuses "f = frist\nmain = zero" 33 4

-- .. nor this type
abbrev pub R32 : Row
R32 = refuses "type t = 1 -o 1\nmain = zero" 35 11

-- they are judged in the order of the text, behind the lines `table` and before `main`
abbrev pub R33 : Row
R33 = refuses "main = frist\nf = fun x : 1. second\ntype t = third" 33 28

abbrev pub R34 : Row
R34 = refuses "f = frist\ntable t\nmain = zero" 33 16

-- how many bits stand in a row
abbrev pub R38 : Row
R38 = refuses "main = fun x : 1^. x" 32 17

-- only bits stand in a row
abbrev pub R39 : Row
R39 = refuses "main = fun x : (1 * 1)^2. x" 32 22

-- zero bits are no type
abbrev pub R40 : Row
R40 = refuses "main = fun x : 1^0. x" 33 17

-- a number's name in a row
abbrev pub R41 : Row
R41 = refuses "main = fun x : 1^n. x" 33 17

-- .. and a sum above 255
abbrev pub R42 : Row
R42 = refuses "f{n} = fun x : 1^n + 255. x\nmain = f{1}" 34 17

-- a function of one name in parentheses
abbrev pub R44 : Row
R44 = refuses "main = fun (a) : 1. a" 32 13

-- no names stand beside a list
abbrev pub R45 : Row
R45 = refuses "main = fun (a, b) c : 1 * 1. a" 32 18

-- .. nor before it
abbrev pub R46 : Row
R46 = refuses "main = fun c (a, b) : 1 * 1. a" 32 13

-- a list of no names
abbrev pub R47 : Row
R47 = refuses "main = fun () : 1. zero" 32 12

-- .. and a list in a list that has one name
abbrev pub R48 : Row
R48 = refuses "main = fun (a, (b)) : 1^3. a" 32 17

-- one list alone is no list of two
abbrev pub R50 : Row
R50 = refuses "main = fun ((a, b)) : 1 * 1. a" 32 18

-- a list of one name, before others
abbrev pub R51 : Row
R51 = refuses "main = let ((a), b) = zero in a" 32 14

-- a list of no names in a list
abbrev pub R52 : Row
R52 = refuses "main = fun (a, ()) : 1 * 1. a" 32 16

-- a list that is not closed, though the one in it is
abbrev pub R53 : Row
R53 = refuses "main = let ((a, b), c" 32 21

-- a number in a list
abbrev pub R54 : Row
R54 = refuses "main = fun (a, (b, 1)) : 1^3. a" 32 19

-- a part in a list
abbrev pub R55 : Row
R55 = refuses "main = let ((reg, b), c) = zero in b" 32 13

-- no comma between two lists
abbrev pub R56 : Row
R56 = refuses "main = fun ((a, b) (c, d)) : 1^4. a" 32 19

-- no name of the text means the variable that is taken apart
abbrev pub R57 : Row
R57 = refuses "main = fun ((a, b), c) : (1 * 1) * 1. p" 33 38

-- the notation as it was
unfoldable pub samples : List Row
samples = M1 ∷ M2 ∷ M3 ∷ M4 ∷ M5 ∷ M6 ∷ M7 ∷ M8 ∷ M9 ∷ M11 ∷ M12 ∷ M14 ∷ M15 ∷ M16 ∷ M17 ∷ M18 ∷ M19 ∷ M20 ∷ M22 ∷ M23 ∷ M24 ∷ M25 ∷ M26 ∷ M27 ∷ M28 ∷ M29 ∷ M30 ∷ M31 ∷ M32 ∷ M33 ∷ M34 ∷ M35 ∷ []

-- definitions with parameters
unfoldable pub generics : List Row
generics = G1 ∷ G2 ∷ G5 ∷ G6 ∷ []

-- refusals
unfoldable pub refusals : List Row
refusals = R1 ∷ R2 ∷ R3 ∷ R4 ∷ R5 ∷ R6 ∷ R7 ∷ R8 ∷ R9 ∷ R10 ∷ R11 ∷ R12 ∷ R13 ∷ R14 ∷ R15 ∷ R16 ∷ R17 ∷ R28 ∷ R18 ∷ R19 ∷ R23 ∷ R24 ∷ R25 ∷ R26 ∷ R27 ∷ R31 ∷ R32 ∷ R33 ∷ R34 ∷ R38 ∷ R39 ∷ R40 ∷ R41 ∷ R42 ∷ R44 ∷ R45 ∷ R46 ∷ R47 ∷ R48 ∷ R50 ∷ R51 ∷ R52 ∷ R53 ∷ R54 ∷ R55 ∷ R56 ∷ R57 ∷ []

-- ---- the call's own refusals: the working memory, the room for bytes and for places

abbrev zero_text : List ℕ
zero_text = ascii "main = zero"

-- the places of a function, its body's application, the part and the variable
abbrev inv_text : List ℕ
inv_text = ascii "main = fun x : 1. inv x"

-- .. of a function whose variable is taken apart, the projection, the variable and the body
abbrev pair_text : List ℕ
pair_text = ascii "main = fun (a, b) : 1 * 1. a"

-- .. and where a list stands in the list: a function, a projection and its variable, a projection and its variable, and the body
abbrev list_text : List ℕ
list_text = ascii "main = fun ((a, b), c) : (1 * 1) * 1. a"

unfoldable pub calls : List (Answer Written)
calls = make_answer 32767 zero_text 4 1 ∷ make_answer 32768 zero_text 3 1 ∷ make_answer 32768 zero_text 4 0 ∷ make_answer 32768 zero_text 4 1 ∷ make_answer 32768 inv_text 99 99 ∷ make_answer 32768 pair_text 99 99 ∷ make_answer 32768 list_text 99 99 ∷ []

unfoldable pub call_results : List (Answer Written)
call_results = refuse 1 0 ∷ refuse 17 4 ∷ refuse 37 1 ∷ good (record { bytes = 0x01 ∷ 0x1A ∷ 0x00 ∷ 0x00 ∷ []; places = 7 ∷ [] }) ∷ good (record { bytes = 0x01 ∷ 0x03 ∷ 0x00 ∷ 0x00 ∷ 0x13 ∷ 0x01 ∷ 0x14 ∷ 0x1A ∷ 0x05 ∷ 0x01 ∷ 0x11 ∷ 0x00 ∷ []; places = 11 ∷ 18 ∷ 18 ∷ 22 ∷ [] }) ∷ good (record { bytes = 0x01 ∷ 0x02 ∷ 0x00 ∷ 0x00 ∷ 0x03 ∷ 0x01 ∷ 0x00 ∷ 0x13 ∷ 0x02 ∷ 0x18 ∷ 0x11 ∷ 0x00 ∷ 0x11 ∷ 0x01 ∷ []; places = 11 ∷ 12 ∷ 11 ∷ 27 ∷ [] }) ∷ good (record { bytes = 0x01 ∷ 0x02 ∷ 0x00 ∷ 0x00 ∷ 0x02 ∷ 0x01 ∷ 0x00 ∷ 0x03 ∷ 0x02 ∷ 0x00 ∷ 0x13 ∷ 0x03 ∷ 0x18 ∷ 0x11 ∷ 0x00 ∷ 0x18 ∷ 0x11 ∷ 0x01 ∷ 0x11 ∷ 0x01 ∷ []; places = 11 ∷ 12 ∷ 11 ∷ 13 ∷ 12 ∷ 38 ∷ [] }) ∷ []
