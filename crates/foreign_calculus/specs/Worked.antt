-- Netlists from outside whose answers were worked out by hand from document 02, L8: told to be full, and told to be lean. Assumes nothing.
use Rattle.std.specs.Prelude.{ℕ, true, false, cond, List, [], ◌∷◌, ◌++◌}
use Prim.Native.String.{String}
use Rattle.calculus.specs.Texts.{hex, all_bytes}
use Rattle.calculus.specs.Answer.{Answer, good, refuse}
use Rattle.foreign_calculus.specs.Foreign.{check}

-- a netlist's bytes, and the two answers
pub record WorkedRow : Type 0 where
  pub net : List ℕ
  pub full : Answer (Unit {0})
  pub lean : Answer (Unit {0})

abbrev row : String → Answer (Unit {0}) → Answer (Unit {0}) → WorkedRow
row s a b = record { net = hex s; full = a; lean = b }

-- both the same
abbrev both : String → Answer (Unit {0}) → WorkedRow
both s a = row s a a

abbrev accepted : Answer (Unit {0})
accepted = good tt

-- ---- the rows

-- an empty netlist; P4's full one; P6's lean one; an output that is two pins
abbrev taken : List WorkedRow
taken =
    both "" accepted
    ∷ both "21 00 00 23 01 00 00 00 24 01 00" accepted
    ∷ row "22 02 02 00 22 00 05 00 22 01 06 00 23 05 00 02 00 23 07 00 03 00 23 04 00 06 00 24 04 00" (refuse 22 0) accepted
    ∷ both "22 00 00 00 24 00 00 24 00 00" accepted
    ∷ []

-- 21: cut short, unknown (the kinds of L6 too), an eighth part; an element behind a wire, a wire behind a pin, and 21 before 22
abbrev broken : List WorkedRow
broken =
    both "21" (refuse 21 0)
    ∷ both "21 00" (refuse 21 0)
    ∷ both "22 00 00 00 23 00 00 01" (refuse 21 4)
    ∷ both "00" (refuse 21 0)
    ∷ both "25 00 00 00 00" (refuse 21 0)
    ∷ both "22 07 00 00" (refuse 21 0)
    ∷ both "21 00 00 23 01 00 00 00 21 02 00" (refuse 21 8)
    ∷ both "21 00 00 24 00 00 23 01 00 00 00" (refuse 21 6)
    ∷ both "21 00 00 24 00 00 22 00 00 00" (refuse 21 6)
    ∷ []

-- 22: a gap, an overlap, terminals 8,191 and above; a wire before any element, from an input, to an output; a pin that names nothing
abbrev misnumbered : List WorkedRow
misnumbered =
    row "21 01 00" (refuse 22 0) (refuse 23 1)
    ∷ both "21 00 00 21 01 00" (refuse 22 3)
    ∷ row "22 00 FF 1F" (refuse 22 0) accepted
    ∷ both "22 00 00 20" (refuse 22 0)
    ∷ both "21 FF 1F" (refuse 22 0)
    ∷ both "21 FF FF" (refuse 22 0)
    ∷ both "23 00 00 00 00" (refuse 22 0)
    ∷ both "21 00 00 23 00 00 00 00" (refuse 22 3)
    ∷ both "21 00 00 23 01 00 01 00" (refuse 22 3)
    ∷ both "21 00 00 23 01 00 02 00" (refuse 22 3)
    ∷ both "21 00 00 24 02 00" (refuse 22 3)
    ∷ []

-- 23: no driver, two wires, a wire and a pin, two pins; the lowest of two, and the higher where the lower has one
abbrev undriven : List WorkedRow
undriven =
    both "21 00 00" (refuse 23 0)
    ∷ both "21 00 00 23 01 00 00 00 23 01 00 00 00" (refuse 23 0)
    ∷ both "21 00 00 23 01 00 00 00 24 00 00" (refuse 23 0)
    ∷ both "21 00 00 24 00 00 24 00 00" (refuse 23 0)
    ∷ both "21 00 00 21 02 00" (refuse 23 0)
    ∷ both "21 00 00 21 02 00 24 00 00" (refuse 23 2)
    ∷ []

unfoldable pub worked_nets : List WorkedRow
worked_nets = taken ++ (broken ++ (misnumbered ++ undriven))

-- ---- the edges, where being told lean makes no difference

-- accepted
unfoldable pub taken_edges : List WorkedRow
taken_edges =
    both "" accepted
    ∷ both "22 00 00 00 24 00 00" accepted
    ∷ both "21 00 00 24 00 00 24 01 00" accepted
    ∷ both "21 00 00 21 02 00 22 00 04 00 22 01 05 00 23 04 00 00 00 23 01 00 05 00 23 06 00 02 00 24 03 00" accepted
    ∷ both "21 00 00 23 01 00 00 00 24 01 00" accepted
    ∷ both "21 00 00 21 02 00 23 03 00 00 00 23 01 00 02 00 24 03 00 24 01 00" accepted
    ∷ both "22 00 00 00" accepted
    ∷ both "21 00 00 23 01 00 00 00" accepted
    ∷ both "22 00 00 00 22 01 01 00 22 02 03 00 22 03 06 00 22 04 09 00 22 05 0C 00 22 06 0E 00 23 00 00 01 00 23 00 00 03 00 23 00 00 04 00 23 00 00 06 00 23 00 00 07 00 23 00 00 09 00 23 00 00 0A 00 23 00 00 0C 00" accepted
    ∷ both "22 02 00 00 23 02 00 01 00 23 02 00 00 00" accepted
    ∷ both "22 00 00 00 24 00 00 24 00 00" accepted
    ∷ both "22 02 00 00 24 01 00 24 00 00" accepted
    ∷ []

-- 21: broken, unknown or misplaced
unfoldable pub broken_edges : List WorkedRow
broken_edges =
    both "00" (refuse 21 0)
    ∷ both "01" (refuse 21 0)
    ∷ both "20 00 00" (refuse 21 0)
    ∷ both "FF" (refuse 21 0)
    ∷ both "25 00 00 00 00" (refuse 21 0)
    ∷ both "26 00 00 00 00 00" (refuse 21 0)
    ∷ both "27" (refuse 21 0)
    ∷ both "31 22 00 00 00" (refuse 21 0)
    ∷ both "22 00 00 00 25 01 00 00 00" (refuse 21 4)
    ∷ both "21 00 00 23 01 00 00 00 26 00 02 00 00 00" (refuse 21 8)
    ∷ both "22 00 00 00 24 00 00 00" (refuse 21 7)
    ∷ both "21" (refuse 21 0)
    ∷ both "21 00" (refuse 21 0)
    ∷ both "22" (refuse 21 0)
    ∷ both "22 00" (refuse 21 0)
    ∷ both "22 00 00" (refuse 21 0)
    ∷ both "22 05 00 00 23" (refuse 21 4)
    ∷ both "22 05 00 00 23 01 00 00" (refuse 21 4)
    ∷ both "22 00 00 00 24" (refuse 21 4)
    ∷ both "22 00 00 00 24 00" (refuse 21 4)
    ∷ both "22 00 00 00 22 00 00" (refuse 21 4)
    ∷ both "22 09" (refuse 21 0)
    ∷ both "22 05 00 00 23 01 00 00 00 22 00 02 00" (refuse 21 9)
    ∷ both "22 05 00 00 23 01 00 00 00 21 02 00" (refuse 21 9)
    ∷ both "22 00 00 00 24 00 00 22 00 01 00" (refuse 21 7)
    ∷ both "22 05 00 00 24 01 00 23 01 00 00 00" (refuse 21 7)
    ∷ both "22 07 00 00" (refuse 21 0)
    ∷ both "22 FF 00 00" (refuse 21 0)
    ∷ both "22 00 00 00 22 07 00 00" (refuse 21 4)
    ∷ both "22 07 FF FF" (refuse 21 0)
    ∷ both "22 00 00 00 24 00 00 23 09 00 09 00" (refuse 21 7)
    ∷ both "22 00 00 00 24 00 00 22 00 00 00" (refuse 21 7)
    ∷ both "22 00 00 00 FF 22 00 00 00" (refuse 21 4)
    ∷ both "21 00 00 FF" (refuse 21 3)
    ∷ []

-- 22: numbering and direction
unfoldable pub misnumbered_edges : List WorkedRow
misnumbered_edges =
    both "22 00 00 00 22 00 00 00 FF" (refuse 22 4)
    ∷ both "22 00 00 00 23 00 00 00 00 24 09 00" (refuse 22 4)
    ∷ both "22 00 00 00 24 09 00 24" (refuse 22 4)
    ∷ both "22 00 00 00 22 00 00 00" (refuse 22 4)
    ∷ both "22 05 00 00 21 01 00" (refuse 22 4)
    ∷ both "21 00 00 22 00 01 00" (refuse 22 3)
    ∷ both "22 00 00 00 22 00 01 00 22 00 00 00" (refuse 22 8)
    ∷ both "22 05 00 00 23 00 00 00 00" (refuse 22 4)
    ∷ both "22 05 00 00 23 01 00 01 00" (refuse 22 4)
    ∷ both "22 05 00 00 23 00 00 01 00" (refuse 22 4)
    ∷ both "22 05 00 00 23 02 00 00 00" (refuse 22 4)
    ∷ both "22 00 00 00 23 00 00 01 00" (refuse 22 4)
    ∷ both "23 00 00 01 00" (refuse 22 0)
    ∷ both "22 05 00 00 23 FF FF 00 00" (refuse 22 4)
    ∷ both "22 05 00 00 23 01 00 FF FF" (refuse 22 4)
    ∷ both "22 05 00 00 23 01 00 00 20" (refuse 22 4)
    ∷ both "22 02 00 00 23 02 00 00 00 23 01 00 01 00" (refuse 22 9)
    ∷ both "22 00 00 00 24 01 00" (refuse 22 4)
    ∷ both "24 00 00" (refuse 22 0)
    ∷ both "22 00 00 00 24 FF FF" (refuse 22 4)
    ∷ both "22 00 00 00 24 00 20" (refuse 22 4)
    ∷ both "22 05 00 00 24 00 01" (refuse 22 4)
    ∷ both "21 00 00 24 09 00" (refuse 22 3)
    ∷ []

-- 23: the lowest input without exactly one wire or pin
unfoldable pub undriven_edges : List WorkedRow
undriven_edges =
    both "21 00 00" (refuse 23 0)
    ∷ both "22 02 00 00 24 00 00" (refuse 23 1)
    ∷ both "22 02 00 00 24 01 00" (refuse 23 0)
    ∷ both "21 00 00 23 01 00 00 00 24 00 00" (refuse 23 0)
    ∷ both "21 00 00 23 01 00 00 00 23 01 00 00 00" (refuse 23 0)
    ∷ both "21 00 00 24 00 00 24 00 00" (refuse 23 0)
    ∷ both "22 05 00 00 22 00 02 00 23 01 00 00 00 23 02 00 00 00" (refuse 23 0)
    ∷ both "22 02 00 00 21 03 00 24 01 00" (refuse 23 0)
    ∷ both "22 02 00 00 23 02 00 01 00 24 01 00" (refuse 23 0)
    ∷ both "21 00 00 21 02 00 24 00 00" (refuse 23 2)
    ∷ []

-- ---- what the check says; a row whose text is broken has no netlist

abbrev pub checks : WorkedRow → WorkedRow
checks r = cond (all_bytes r.net) (record { net = r.net; full = check false r.net; lean = check true r.net }) (both "" accepted)
