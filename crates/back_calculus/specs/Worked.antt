-- Netlists whose sheets or refusals were worked out by hand from document 02, L11, for a program of its own (second/src/edges_back.rs).
-- Assumes nothing.
use Rattle.std.specs.Prelude.{ℕ, Bool, true, false, cond, List, [], ◌∷◌, ◌++◌}
use Prim.Native.String.{String}
use Rattle.calculus.specs.Texts.{hex, all_bytes}
use Rattle.calculus.specs.Answer.{Answer, good, refuse}
use Rattle.back_calculus.specs.Returned.{returned}

-- a netlist's bytes, whether it is called lean, and the answer
pub record BackRow : Type 0 where
  pub net : List ℕ
  pub lean : Bool
  pub sheet : Answer (List ℕ)

abbrev row : String → Bool → Answer (List ℕ) → BackRow
row s lean a = record { net = hex s; lean = lean; sheet = a }

-- 01, 03 00 00, 03 00 01, the types that follow, and the term
abbrev sheet : String → String → Answer (List ℕ)
sheet types term = good (hex "01 03 00 00 03 00 01" ++ (hex types ++ hex term))

abbrev came : List BackRow
came =
    row "22 00 00 00" false (sheet "" "19 00 1A 00 00")  -- zero
    ∷ row "22 06 00 00 24 00 00 24 00 00" false (sheet "" "19 00 1A 06 00")  -- one, shown twice
    ∷ row "22 05 00 00 24 00 00 24 01 00" false (sheet "" "13 01 19 00 14 1A 05 01 11 01")  -- inv of a pin
    ∷ row "22 01 00 00 23 01 00 00 00" false (sheet "" "19 00 14 1A 01 01 11 00")  -- reg of itself
    ∷ row "22 02 00 00 24 01 00 24 00 00" false (sheet "" "13 02 13 01 19 00 14 14 1A 02 02 11 02 11 01")  -- and of two pins
    ∷ row "22 03 00 00 23 02 00 01 00 24 00 00" false (sheet "" "13 01 19 00 14 14 1A 03 02 11 01 11 00")  -- or of a pin and itself
    ∷ row "22 04 00 00 23 02 00 00 00 24 01 00" false (sheet "" "13 01 19 00 14 14 1A 04 02 11 00 11 01")  -- xor of itself and a pin
    ∷ row "22 04 00 00 23 02 00 01 00 23 02 00 00 00" false (sheet "" "19 00 14 14 1A 04 02 11 00 11 00")  -- xor of itself twice
    ∷ row "22 00 00 00 22 05 01 00 23 00 00 01 00" false (sheet "02 00 00" "19 03 18 11 00 17 03 1A 00 00 14 1A 05 01 11 01")  -- inv of zero
    ∷ row "22 05 00 00 22 00 02 00 23 02 00 00 00" false (sheet "02 00 00" "19 03 18 11 00 17 03 14 1A 05 01 11 00 1A 00 00")  -- inv of what follows it
    ∷ row "22 05 00 00 22 05 02 00 23 03 00 00 00 23 01 00 02 00" false (sheet "02 00 00" "19 03 18 11 00 17 03 14 1A 05 01 11 00 14 1A 05 01 11 01")  -- two inverters round
    ∷ row "22 05 00 00 22 02 02 00 24 03 00 24 00 00 24 02 00" false (sheet "02 00 00 03 00 03 03 00 04 03 00 05" "13 06 13 05 13 04 19 03 18 11 00 17 03 14 1A 05 01 11 05 14 14 1A 02 02 11 04 11 03")  -- inv and and, both open
    ∷ row "22 04 00 00 22 01 03 00 22 05 05 00 23 02 00 03 00 23 04 00 01 00 23 04 00 05 00 24 00 00" false (sheet "02 00 00 02 00 03 03 00 04" "13 05 19 04 18 11 00 18 11 00 17 04 14 14 1A 04 02 11 05 11 01 17 03 14 1A 01 01 11 03 14 1A 05 01 11 01")  -- xor, reg and inv
    ∷ row "22 00 00 00 22 06 01 00 22 06 02 00 22 00 03 00" false (sheet "02 00 00 02 00 03 02 00 04" "19 05 18 11 00 18 11 00 18 11 00 17 05 1A 00 00 17 04 1A 06 00 17 03 1A 06 00 1A 00 00")  -- four zeros and ones
    ∷ []

abbrev refused_rows : List BackRow
refused_rows =
    row "" false (refuse 26 0)  -- nothing
    ∷ row "" true (refuse 26 0)  -- nothing, lean
    ∷ row "22 00 00 00 22 00 01 00 22 00 02 00 22 00 03 00 22 00 04 00 22 00 05 00 22 00 06 00 22 00 07 00 22 00 08 00 22 00 09 00 22 00 0A 00 22 00 0B 00 22 00 0C 00 22 00 0D 00 22 00 0E 00 22 00 0F 00 22 00 10 00" false (refuse 26 0)  -- seventeen parts
    ∷ row "21 00 00 24 00 00" false (refuse 25 0)  -- one point
    ∷ row "22 00 00 00 21 01 00 23 00 00 01 00" false (refuse 25 4)  -- a point behind a part
    ∷ row "22 00 00 00 21 01 00 21 03 00 23 00 00 01 00 23 00 00 03 00" false (refuse 25 4)  -- the first of two points
    ∷ row "21 00 00 23 01 00 00 00" true (refuse 25 0)  -- a point in a ring
    ∷ row "25 00 00 00 00 24 00 00" false (refuse 21 0)  -- kind 25
    ∷ row "22 09 00 00" false (refuse 21 0)  -- a part of no number
    ∷ row "22 00 00 00 22 00 02 00" false (refuse 22 4)  -- a gap
    ∷ row "22 05 00 00" false (refuse 23 0)  -- no driver
    ∷ row "22 05 00 00 23 01 00 00 00 24 00 00" false (refuse 23 0)  -- two drivers
    ∷ row "21 00 00 FF" false (refuse 21 3)  -- 21 before 25
    ∷ row "21 00 00" false (refuse 23 0)  -- 23 before 25
    ∷ row "22 00 00 00 22 00 01 00 22 00 02 00 22 00 03 00 22 00 04 00 22 00 05 00 22 00 06 00 22 00 07 00 22 00 08 00 22 00 09 00 22 00 0A 00 22 00 0B 00 22 00 0C 00 22 00 0D 00 22 00 0E 00 22 00 0F 00 21 10 00 24 10 00" false (refuse 25 64)  -- 25 before 26: sixteen zeros and a point
    ∷ row "22 05 07 00 22 00 FF 1F 23 FF 1F 07 00 24 FF 1F" true (sheet "02 00 00" "19 03 18 11 00 17 03 14 1A 05 01 11 00 1A 00 00")  -- parts far apart
    ∷ row "22 05 07 00 22 00 FF 1F 23 FF 1F 07 00 24 FF 1F" false (refuse 22 0)  -- .. and not called lean
    ∷ []

unfoldable pub worked_back : List BackRow
worked_back = came ++ refused_rows

-- what the definition answers; a row whose text is broken has no netlist
abbrev pub back_answers : BackRow → BackRow
back_answers r = cond (all_bytes r.net) (record { net = r.net; lean = r.lean; sheet = returned r.lean r.net }) (row "" false (refuse 0 0))
