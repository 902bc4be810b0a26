-- A record lies within its netlist, and its line takes at most 80 bytes. Assumes nothing.
use mathlib.Core.Path.{◌≡◌}
use mathlib.Core.Bool.{Bool, true, false, cond}
use mathlib.Core.List.{List, [], ◌∷◌}
use Prim.Native.Nat.{ℕ, ◌+◌, ◌≤◌}
use native.Mathlib.Omega.{arith}
use lib.Dec.{eqb}
use lib.ListN.{length, get_or, length-append}
use Rattle.calculus.specs.Terms.{part_at}
use Rattle.calculus.specs.Listing.{Text, line, names}
use Rattle.circuit_theorems.proofs.Counts.{part-inputs}
use Rattle.lines.specs.Figure.{figure, figures}
use Rattle.lines.specs.OneLine.{point_line, part_line, wired_line, pin_line, refused_line}
use Rattle.lines.specs.InBytes.{size_at, text_of, line_at}
use Rattle.lines.proofs.Decimal.{figure-few, figures-few}
use Rattle.lines.proofs.Standing.{size-whole, size_room}
use Rattle.lines.proofs.Texts.{point_text, part-text, wire-text, pin_text, refused_text_lem, name-short}

pub within : (s : List ℕ) (at : ℕ) → (size_at s at ≡ 0 → ⊥) → at + size_at s at ≤ length s
within s at some = let r = size_room s at some in rw (← size-whole s at r) r

-- ---- the length of a line

line-length : (fields : Text) → length (line fields) ≡ length fields + 1
line-length fields = length-append fields (10 ∷ [])

point_short : (i : ℕ) → length (point_line i) ≤ 80
point_short i = let k = figures-few 2 i in rw (← point_text i) (omega (arith, line-length (figures 2 i)))

part-short : (p i : ℕ) → length (part_line p i) ≤ 80
part-short p i =
    let f = figures ((part_at p).inputs + 1) i in
    let k = figures-few ((part_at p).inputs + 1) i in
    let n = part-inputs p in
    rw (← part-text p i) (omega (arith, length-append (get_or names p []) (line f), line-length f, name-short p))

wire-short : (from to : ℕ) → length (wired_line from to) ≤ 80
wire-short from to =
    let k = figures-few 1 to in
    rw (← wire-text from to) (omega (arith, length-append (figure from) (line (figures 1 to)), line-length (figures 1 to), figure-few from))

pin_short : (n : ℕ) → length (pin_line n) ≤ 80
pin_short n = let k = figures-few 1 n in rw (← pin_text n) (omega (arith, line-length (figures 1 n)))

pub refused_short : (number place : ℕ) → length (refused_line number place) ≤ 80
refused_short number place =
    rw (← refused_text_lem number place)
    (omega (arith, length-append (figure number) (line (32 ∷ figure place)), line-length (32 ∷ figure place), figure-few number, figure-few place))

-- both of two texts are short, so either is
either : (b : Bool) (x y : Text) → length x ≤ 80 → length y ≤ 80 → length (cond b x y) ≤ 80
either true x y h k = h
either false x y h k = k

text-short : (k : ℕ) (s : List ℕ) (at : ℕ) → length (text_of k s at) ≤ 80
text-short k s at =
    either (eqb k 0x21) _ _ (point_short _)
    (either (eqb k 0x22) _ _ (part-short _ _) (either (eqb k 0x23) _ _ (wire-short _ _) (either (eqb k 0x24) _ [] (pin_short _) (omega arith))))

pub short : (s : List ℕ) (at : ℕ) → length (line_at s at) ≤ 80
unfolding line_at
short s at = either (eqb (size_at s at) 0) [] (text_of (get_or s at 0) s at) (omega arith) (text-short (get_or s at 0) s at)
