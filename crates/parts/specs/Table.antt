-- The table of parts, as its entries say it, and as documents 01 and 02 (L7) have it. Assumes nothing.
use Rattle.std.specs.Prelude.{ℕ, zero, suc, ◌-◌, Bool, true, false, cond, Option, Some, None, List, [], ◌++◌, ltb, length, get_or, replicate}
use Rattle.calculus.specs.Types.{Ty, bit, prod, arrow}
use Rattle.calculus.specs.Terms.{first, second, parts, part_at}
use Rattle.calculus.specs.Listing.{names}
use Rattle.parts.specs.declared.Part.{Part}

-- so many arrows from the single bit
abbrev pub shape_ty : ℕ → Ty
shape_ty zero = bit
shape_ty (suc n) = arrow bit (shape_ty n)

-- the type in the second edition of a part that takes a pair or does not
abbrev pub later_ty : ℕ → Bool → Ty
later_ty n true = arrow (prod bit bit) bit
later_ty n false = shape_ty n

-- a part's terminals and its type in each edition
pub record PartEntry : Type 0 where
  pub inputs : ℕ
  pub outputs : ℕ
  pub in_first : Ty
  pub in_second : Ty

abbrev pub said_part : Part → PartEntry
said_part q = record { inputs = q.inputs; outputs = q.outputs; in_first = shape_ty q.shape; in_second = later_ty q.shape q.paired }

abbrev pub said_named : Option Part → Option PartEntry
said_named (Some q) = Some (said_part q)
said_named None = None

-- each part has one output
abbrev pub entry_of : ℕ → PartEntry
entry_of p = record { inputs = (part_at p).inputs; outputs = 1; in_first = (part_at p).type first; in_second = (part_at p).type second }

-- the part of a number, or no part
unfoldable pub named : ℕ → Option PartEntry
named p = cond (ltb p (length parts)) (Some (entry_of p)) None

-- the letters of a part's name; none where there is no such part
abbrev pub name_at : ℕ → List ℕ
name_at p = get_or names p []

-- letters, and zeros behind them up to four
abbrev pub padded : List ℕ → List ℕ
padded letters = letters ++ replicate (4 - length letters) 0
