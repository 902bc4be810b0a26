-- What stands at an offset of a netlist's bytes: the length of its record, and its line. Assumes nothing.
use Rattle.std.specs.Prelude.{ℕ, zero, suc, ◌+◌, cond, List, [], ◌++◌, eqb, leb, length, get_or}
use Rattle.calculus.specs.NetRead.{two_at}
use Rattle.calculus.specs.Listing.{Text}
use Rattle.lines.specs.OneLine.{point_line, part_line, wired_line, pin_line}

-- the length of a record of kind k; none where the kind is unknown
abbrev pub record_size : ℕ → ℕ
record_size k = cond (eqb k 0x21) 3 (cond (eqb k 0x22) 4 (cond (eqb k 0x23) 5 (cond (eqb k 0x24) 3 0)))

-- the length of the record at an offset; 0 where none stands whole
unfoldable pub size_at : List ℕ → ℕ → ℕ
size_at s at = let n = record_size (get_or s at 0) in cond (leb (at + n) (length s)) n 0

abbrev pub text_of : ℕ → List ℕ → ℕ → Text
text_of k s at =
    cond (eqb k 0x21) (point_line (two_at s (at + 1)))
    (cond (eqb k 0x22) (part_line (get_or s (at + 1) 0) (two_at s (at + 2)))
    (cond (eqb k 0x23) (wired_line (two_at s (at + 1)) (two_at s (at + 3))) (cond (eqb k 0x24) (pin_line (two_at s (at + 1))) [])))

-- its line; nothing where none stands whole
unfoldable pub line_at : List ℕ → ℕ → Text
line_at s at = cond (eqb (size_at s at) 0) [] (text_of (get_or s at 0) s at)

-- the lines of k records, one behind the other
abbrev pub lines_from : ℕ → List ℕ → ℕ → Text
lines_from zero s at = []
lines_from (suc k) s at = line_at s at ++ lines_from k s (at + size_at s at)
