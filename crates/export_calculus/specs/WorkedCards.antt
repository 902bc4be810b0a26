-- Sheets with the answer of the card's profile (document 02, L12), worked out by hand. Assumes nothing.
use Rattle.std.specs.Prelude.{ℕ, true, cond, List, [], ◌∷◌}
use Prim.Native.String.{String}
use Rattle.calculus.specs.Texts.{hex, all_bytes}
use Rattle.calculus.specs.Answer.{Answer, good, refuse, ◌>>=◌}
use Rattle.calculus.specs.Translate.{full}
use Rattle.export_calculus.specs.Card.{on_card}

-- a sheet, and what the profile says of it
pub record CardRow : Type 0 where
  pub sheet : List ℕ
  pub result : Answer (Unit {0})

abbrev meets : String → CardRow
meets text = record { sheet = hex text; result = good tt }

abbrev breaks : String → ℕ → ℕ → CardRow
breaks text number place = record { sheet = hex text; result = refuse number place }

-- the profile is met
unfoldable pub meets_profile : List CardRow
meets_profile =
    meets "01 1A 06 00"
    ∷ meets "01 02 00 00 17 01 1A 00 00 1A 06 00"
    ∷ meets "01 03 00 00 1A 05 01"
    ∷ meets "01 03 00 00 03 00 01 1A 04 02"
    ∷ meets "31 01 02 00 00 03 01 00 1A 04 02"
    ∷ meets "01 02 00 00 03 00 01 13 02 17 01 11 00 11 00"
    ∷ meets "01 03 00 00 04 01 00 16 15 02 14 12 00 1A 00 00 1A 01 01"
    ∷ meets "01 03 00 00 04 01 00 1A 00 00"
    ∷ meets "01 03 00 00 19 00 14 1A 05 01 11 00"
    ∷ meets "01 03 00 00 19 00 14 1A 01 01 11 00"
    ∷ meets "01 03 00 00 14 13 01 1A 00 00 19 00 14 1A 01 01 11 00"
    ∷ meets "01 02 00 00 03 00 01 14 13 02 17 01 11 00 11 00 1A 00 00"
    ∷ meets "01 03 00 00 13 01 1A 06 00"
    ∷ []

-- 27: the root's type is no chain of sharable arrows that ends in a sharable type, before 28 and 29
unfoldable pub other_roots : List CardRow
other_roots =
    breaks "01 03 00 00 04 01 01 15 02 12 00" 27 0
    ∷ breaks "01 03 00 00 04 01 00 15 02 14 12 00 1A 00 00" 27 0
    ∷ breaks "01 03 00 00 04 01 00 03 00 02 13 03 15 02 14 12 00 11 01" 27 0
    ∷ breaks "01 03 00 00 04 01 01 15 02 13 01 14 12 01 11 00" 27 0
    ∷ breaks "01 03 00 00 04 01 00 15 02 14 13 01 14 12 01 1A 00 00 19 00 11 00" 27 0
    ∷ breaks "01 03 00 00 04 01 00 15 02 14 13 01 14 12 01 1A 00 00 1A 06 00" 27 0
    ∷ []

-- 28: a kept ring point, at the lowest such input, before 29
unfoldable pub kept_rings : List CardRow
kept_rings =
    breaks "01 19 00 11 00" 28 0
    ∷ breaks "01 03 00 00 19 00 14 13 01 11 00 11 00" 28 0
    ∷ breaks "01 03 00 00 14 13 01 11 00 19 00 11 00" 28 2
    ∷ breaks "01 02 00 00 17 01 1A 00 00 19 00 11 00" 28 1
    ∷ breaks "01 03 00 00 14 13 01 1A 00 00 19 00 11 00" 28 3
    ∷ breaks "01 02 00 00 17 01 19 00 11 00 19 00 11 00" 28 0
    ∷ breaks "01 03 00 00 14 1A 05 01 19 00 11 00" 28 2
    ∷ breaks "01 03 00 00 02 00 00 18 17 02 1A 06 00 19 00 11 00 1A 00 00" 28 1
    ∷ []

-- 29: an unread output, at the lowest such terminal
unfoldable pub unread_outputs : List CardRow
unread_outputs =
    breaks "01 03 00 00 14 13 01 1A 00 00 1A 06 00" 29 3
    ∷ breaks "01 03 00 00 14 13 01 14 13 01 1A 00 00 1A 06 00 1A 06 00" 29 5
    ∷ breaks "01 03 00 00 03 00 01 14 13 01 1A 00 00 14 14 1A 02 02 1A 06 00 1A 06 00" 29 5
    ∷ breaks "01 03 00 00 14 13 01 1A 00 00 14 1A 05 01 1A 06 00" 29 4
    ∷ breaks "01 02 00 00 03 00 00 18 17 01 1A 00 00 14 1A 05 02 1A 06 00 11 01" 29 2
    ∷ breaks "01 02 00 00 03 01 00 14 13 02 1A 00 00 17 01 1A 06 00 1A 06 00" 29 5
    ∷ breaks "31 01 1B 1A 00 00 1A 06 00" 29 0
    ∷ []

-- a row whose text is broken has no sheet
abbrev pub profiled_row : CardRow → CardRow
profiled_row r = cond (all_bytes r.sheet) (record { sheet = r.sheet; result = full r.sheet >>= λ m. on_card true r.sheet m }) (meets "")
