-- Refusals of reading and of typing (document 01, "Numbers of the refusals"), each a sheet whose number and place were worked out by hand.
-- Assumes nothing.
use Rattle.std.specs.Prelude.{ℕ, cond, List, [], ◌∷◌, ◌++◌}
use Prim.Native.String.{String}
use Rattle.calculus.specs.Texts.{hex, all_bytes}
use Rattle.calculus.specs.Answer.{Answer, good, refused}
use Rattle.calculus.specs.Net.{Net}
use Rattle.calculus.specs.Translate.{full}

-- a sheet, and its refusal's number and place
pub record RefusalRow : Type 0 where
  pub sheet : List ℕ
  pub number : ℕ
  pub place : ℕ

abbrev pub row_of : List ℕ → ℕ → ℕ → RefusalRow
row_of s number place = record { sheet = s; number = number; place = place }

abbrev row : String → ℕ → ℕ → RefusalRow
row text number place = row_of (hex text) number place

-- 0: 1; 1: 1 × 1; 2: 1 → 1; 3: 1 → (1 → 1); 4: (1 → 1) ⊸ 1; 5: (1 → 1) ⊸ (1 → 1); 6: (1 → 1) ⊸ ((1 → 1) ⊸ 1); 7: (1 × 1) → 1;
-- 8: ((1 → 1) ⊸ 1) ⊸ 1; 9: (1 → 1) ⊸ (1 × 1); 10: 1 → (1 × 1); 11: (1 × 1) → (1 × 1)
abbrev twelve_types : List ℕ
twelve_types = hex "01 02 00 00 03 00 00 03 00 02 04 02 00 04 02 02 04 02 04 03 01 00 04 04 00 04 02 01 03 00 01 03 01 01"

-- a term over these types
abbrev over : String → ℕ → ℕ → RefusalRow
over text number place = row_of (twelve_types ++ hex text) number place

-- what the definitions say of a row's sheet; 0 and 0 where it is accepted. A row whose text is broken is no row: it has no sheet
abbrev said : List ℕ → Answer Net → RefusalRow
said s (good m) = row_of s 0 0
said s (refused why) = row_of s why.number why.place

abbrev pub refusal_of : RefusalRow → RefusalRow
refusal_of r = cond (all_bytes r.sheet) (said r.sheet (full r.sheet)) (row_of [] 0 0)

-- 3: cut short, or unfinished at the end
unfoldable pub ends_early : List RefusalRow
ends_early =
    row "" 3 0
    ∷ row "01" 3 1
    ∷ row "01 02 00 00" 3 4
    ∷ row "14" 3 1
    ∷ row "14 11 00" 3 3
    ∷ row "16" 3 1
    ∷ row "16 11 00" 3 3
    ∷ row "18" 3 1
    ∷ row "18 11 00" 3 3
    ∷ row "01 13 00" 3 3
    ∷ row "01 15 00" 3 3
    ∷ row "01 17 00" 3 3
    ∷ row "01 17 00 11 00" 3 5
    ∷ row "01 19 00" 3 3
    ∷ row "01 03 00 00 13 01" 3 6
    ∷ row "14 14 11 00 11 00" 3 6
    ∷ row "14 11 00 14 11 00" 3 6
    ∷ row "02" 3 0
    ∷ row "02 00" 3 0
    ∷ row "03" 3 0
    ∷ row "03 00" 3 0
    ∷ row "04" 3 0
    ∷ row "04 00" 3 0
    ∷ row "01 02" 3 1
    ∷ row "01 02 09" 3 1
    ∷ row "01 03 00" 3 1
    ∷ row "01 04 00" 3 1
    ∷ row "11" 3 0
    ∷ row "12" 3 0
    ∷ row "13" 3 0
    ∷ row "15" 3 0
    ∷ row "17" 3 0
    ∷ row "19" 3 0
    ∷ row "1A" 3 0
    ∷ row "1A 00" 3 0
    ∷ row "01 1A 00" 3 1
    ∷ row "14 11 00 1A FF" 3 3
    ∷ row "14 14 11" 3 2
    ∷ []

-- 4: a kind that is unknown here
unfoldable pub unknown_kinds : List RefusalRow
unknown_kinds =
    row "00" 4 0
    ∷ row "05" 4 0
    ∷ row "0F" 4 0
    ∷ row "10" 4 0
    ∷ row "1B" 4 0
    ∷ row "21" 4 0
    ∷ row "FF" 4 0
    ∷ row "01 00" 4 1
    ∷ row "01 05" 4 1
    ∷ row "01 91" 4 1
    ∷ row "14 01" 4 1
    ∷ row "14 02" 4 1
    ∷ row "14 03 00 00" 4 1
    ∷ row "14 04" 4 1
    ∷ row "16 01" 4 1
    ∷ row "18 01" 4 1
    ∷ row "01 13 00 01" 4 3
    ∷ row "01 19 00 02" 4 3
    ∷ row "14 11 00 01" 4 3
    ∷ row "14 11 00 1B" 4 3
    ∷ row "18 11 00 04 00 00" 4 3
    ∷ row "01 17 00 11 00 03" 4 5
    ∷ row "80 00 00" 4 0
    ∷ []

-- 5: no earlier type
unfoldable pub no_earlier_type : List RefusalRow
no_earlier_type =
    row "02 00 00" 5 0
    ∷ row "03 00 00" 5 0
    ∷ row "04 00 00" 5 0
    ∷ row "01 02 01 00" 5 1
    ∷ row "01 02 00 01" 5 1
    ∷ row "01 03 01 00" 5 1
    ∷ row "01 03 00 01" 5 1
    ∷ row "01 04 01 00" 5 1
    ∷ row "01 04 00 01" 5 1
    ∷ row "01 02 FF 00" 5 1
    ∷ row "01 03 00 00 02 01 02" 5 4
    ∷ row "13 00 11 00" 5 0
    ∷ row "15 00 11 00" 5 0
    ∷ row "17 00 11 00 11 00" 5 0
    ∷ row "19 00 11 00" 5 0
    ∷ row "1A 00 00" 5 0
    ∷ row "01 13 01 11 00" 5 1
    ∷ row "01 15 01 12 00" 5 1
    ∷ row "01 17 01 11 00 11 00" 5 1
    ∷ row "01 19 01 11 00" 5 1
    ∷ row "01 1A 00 01" 5 1
    ∷ row "01 1A 09 01" 5 1
    ∷ row "01 1A 07 FF" 5 1
    ∷ row "01 14 1A 00 01 05" 5 2
    ∷ row "01 13 05" 5 1
    ∷ row "01 19 01 05" 5 1
    ∷ row "01 14 11 09 19 80 11 00" 5 4
    ∷ []

-- 6: against the table's left or right rule
unfoldable pub against_the_table : List RefusalRow
against_the_table =
    row "01 04 00 00" 6 1
    ∷ row "01 03 00 00 02 01 00" 6 4
    ∷ row "01 03 00 00 02 00 01" 6 4
    ∷ row "01 03 00 00 02 01 01" 6 4
    ∷ row "01 03 00 00 03 01 00" 6 4
    ∷ row "01 03 00 00 03 01 01" 6 4
    ∷ row "01 02 00 00 04 01 00" 6 4
    ∷ row "01 03 00 00 04 00 01" 6 4
    ∷ row "01 03 00 00 04 01 01 03 02 00" 6 7
    ∷ row "01 03 00 00 04 01 00 02 02 00" 6 7
    ∷ []

-- 7: the same type record as an earlier one
unfoldable pub same_as_earlier : List RefusalRow
same_as_earlier =
    row "01 01" 7 1
    ∷ row "01 01 11" 7 1
    ∷ row "01 02 00 00 02 00 00" 7 4
    ∷ row "01 02 00 00 01" 7 4
    ∷ row "01 03 00 00 03 00 00" 7 4
    ∷ row "01 03 00 00 04 01 00 04 01 00" 7 7
    ∷ row "01 02 00 00 02 00 01 02 01 00 02 00 01 05" 7 10
    ∷ []

-- 9: bytes after the term
unfoldable pub bytes_after_lem : List RefusalRow
bytes_after_lem =
    row "01 1A 00 00 00" 9 4
    ∷ row "01 1A 00 00 01" 9 4
    ∷ row "11 00 11 00" 9 2
    ∷ row "11 00 FF" 9 2
    ∷ row "01 03 00 00 13 01 11 00 1A 00 00" 9 8
    ∷ row "14 11 00 11 00 14" 9 5
    ∷ row "12 00 03" 9 2
    ∷ []

-- 10: a binder number not in scope, in every position
unfoldable pub not_in_scope : List RefusalRow
not_in_scope =
    row "11 00" 10 0
    ∷ row "12 00" 10 0
    ∷ row "01 02 00 00 03 00 00 11 00" 10 0
    ∷ row "14 11 00 11 00" 10 1
    ∷ row "01 02 00 00 02 00 01 02 01 00 02 01 01 11 FF" 10 0
    ∷ row "01 03 00 00 03 00 01 04 01 00 04 02 01 03 00 04 12 07" 10 0
    ∷ over "11 00" 10 0
    ∷ over "12 00" 10 0
    ∷ over "11 FF" 10 0
    ∷ over "13 02 11 01" 10 1
    ∷ over "13 02 12 01" 10 1
    ∷ over "15 04 11 01" 10 1
    ∷ over "15 04 12 01" 10 1
    ∷ over "19 00 11 01" 10 1
    ∷ over "19 00 12 80" 10 1
    ∷ over "14 11 00 1A 00 00" 10 1
    ∷ over "14 1A 01 02 11 00" 10 2
    ∷ over "16 12 00 1A 01 02" 10 1
    ∷ over "16 15 04 14 12 00 1A 00 00 12 00" 10 5
    ∷ over "17 01 11 00 1A 00 00" 10 1
    ∷ over "17 01 1A 00 00 11 00" 10 2
    ∷ over "18 11 00 1A 00 00" 10 1
    ∷ over "18 17 01 1A 00 00 1A 00 00 11 02" 10 4
    ∷ over "18 17 01 1A 00 00 1A 00 00 12 02" 10 4
    ∷ over "14 13 02 11 00 11 00" 10 3
    ∷ over "17 01 19 00 11 00 11 00" 10 3
    ∷ over "14 13 02 18 17 01 11 00 11 00 11 01 11 00" 10 7
    ∷ over "13 02 18 17 01 11 00 11 00 11 03" 10 5
    ∷ over "13 02 11 09" 10 1
    ∷ over "14 1A 00 00 11 00" 10 2
    ∷ over "16 1A 01 02 12 00" 10 2
    ∷ over "17 01 1A 01 02 11 00" 10 2
    ∷ over "18 11 09 11 09" 10 1
    ∷ []

-- 11: a variable of the other sort, used or not
unfoldable pub other_sort : List RefusalRow
other_sort =
    over "13 02 12 00" 11 1
    ∷ over "19 00 12 00" 11 1
    ∷ over "19 01 12 00" 11 1
    ∷ over "15 04 11 00" 11 1
    ∷ over "15 05 11 00" 11 1
    ∷ over "15 04 14 11 00 1A 00 00" 11 2
    ∷ over "15 04 14 12 00 11 00" 11 3
    ∷ over "18 17 01 1A 00 00 1A 00 00 12 00" 11 4
    ∷ over "18 17 01 1A 00 00 1A 00 00 12 01" 11 4
    ∷ over "15 05 13 02 14 12 00 11 00" 11 3
    ∷ over "15 04 19 00 14 12 00 11 00" 11 3
    ∷ over "15 05 13 02 14 12 01 11 01" 11 4
    ∷ over "15 06 15 04 14 11 00 14 12 01 1A 00 00" 11 3
    ∷ over "15 08 14 11 00 1A 05 02" 11 2
    ∷ over "15 04 19 00 14 12 00 14 12 01 11 00" 11 3
    ∷ []

-- 12: on entering, before what stands inside; on leaving; of applications and pairs after both subterms
unfoldable pub do_not_fit : List RefusalRow
do_not_fit =
    over "13 00 11 00" 12 0
    ∷ over "13 01 11 00" 12 0
    ∷ over "13 04 11 00" 12 0
    ∷ over "13 05 12 00" 12 0
    ∷ over "15 00 12 00" 12 0
    ∷ over "15 01 12 00" 12 0
    ∷ over "15 02 12 00" 12 0
    ∷ over "15 03 12 00" 12 0
    ∷ over "17 00 1A 00 00 1A 00 00" 12 0
    ∷ over "17 02 1A 00 00 1A 00 00" 12 0
    ∷ over "17 04 1A 01 02 1A 00 00" 12 0
    ∷ over "19 02 11 00" 12 0
    ∷ over "19 03 1A 02 03" 12 0
    ∷ over "19 04 11 00" 12 0
    ∷ over "13 00 11 09" 12 0
    ∷ over "15 02 12 09" 12 0
    ∷ over "17 02 11 09 11 09" 12 0
    ∷ over "19 02 11 05" 12 0
    ∷ over "15 04 13 00 12 00" 12 1
    ∷ over "1A 00 02" 12 0
    ∷ over "1A 00 01" 12 0
    ∷ over "1A 01 00" 12 0
    ∷ over "1A 01 03" 12 0
    ∷ over "1A 01 05" 12 0
    ∷ over "1A 01 07" 12 0
    ∷ over "1A 01 0A" 12 0
    ∷ over "1A 02 02" 12 0
    ∷ over "1A 02 00" 12 0
    ∷ over "1A 02 05" 12 0
    ∷ over "1A 03 04" 12 0
    ∷ over "1A 04 01" 12 0
    ∷ over "1A 05 03" 12 0
    ∷ over "1A 05 00" 12 0
    ∷ over "1A 06 02" 12 0
    ∷ over "1A 06 01" 12 0
    ∷ over "1A 02 06" 12 0
    ∷ over "13 02 1A 00 02" 12 1
    ∷ over "13 02 1A 01 02" 12 0
    ∷ over "13 02 17 01 11 00 11 00" 12 0
    ∷ over "13 03 11 00" 12 0
    ∷ over "15 04 12 00" 12 0
    ∷ over "15 05 14 12 00 1A 00 00" 12 0
    ∷ over "19 00 1A 01 02" 12 0
    ∷ over "19 01 1A 00 00" 12 0
    ∷ over "19 00 17 01 11 00 11 00" 12 0
    ∷ over "13 02 13 00 11 00" 12 1
    ∷ over "19 00 19 01 1A 00 00" 12 1
    ∷ over "14 1A 00 00 1A 00 00" 12 0
    ∷ over "14 1A 01 02 1A 01 02" 12 0
    ∷ over "14 1A 02 03 17 01 1A 00 00 1A 00 00" 12 0
    ∷ over "16 1A 01 02 1A 00 00" 12 0
    ∷ over "14 15 04 14 12 00 1A 00 00 1A 01 02" 12 0
    ∷ over "16 15 04 14 12 00 1A 00 00 1A 00 00" 12 0
    ∷ over "16 15 04 14 12 00 1A 00 00 1A 02 03" 12 0
    ∷ over "16 1A 00 00 1A 01 02" 12 0
    ∷ over "14 14 1A 00 00 1A 00 00 11 00" 12 1
    ∷ over "14 1A 00 00 14 1A 00 00 1A 00 00" 12 2
    ∷ over "14 14 14 1A 02 03 1A 00 00 1A 00 00 1A 00 00" 12 0
    ∷ over "14 17 01 1A 00 00 1A 00 00 1A 00 00" 12 0
    ∷ over "15 04 16 12 00 1A 00 00" 12 1
    ∷ over "15 08 14 12 00 1A 05 02" 12 1
    ∷ over "17 01 1A 01 02 1A 00 00" 12 0
    ∷ over "17 01 1A 00 00 1A 01 02" 12 0
    ∷ over "17 01 17 01 1A 00 00 1A 00 00 1A 00 00" 12 0
    ∷ over "17 01 1A 01 02 17 01 1A 01 02 1A 00 00" 12 2
    ∷ over "18 1A 00 00 11 00" 12 0
    ∷ over "18 1A 00 00 11 09" 12 0
    ∷ over "18 1A 01 02 1A 07 00" 12 0
    ∷ over "18 18 1A 00 00 11 00 11 00" 12 1
    ∷ over "15 04 18 12 00 12 02" 12 1
    ∷ over "18 17 01 1A 00 00 1A 00 00 18 11 00 11 09" 12 4
    ∷ over "13 02 18 11 00 1A 07 00" 12 1
    ∷ over "15 04 18 12 00 12 00" 12 1
    ∷ over "15 06 15 04 12 00" 12 1
    ∷ over "15 04 13 02 1A 01 02" 12 1
    ∷ over "15 04 15 04 12 00" 12 1
    ∷ []

-- 13: used again, at the node of that use
unfoldable pub used_again : List RefusalRow
used_again =
    over "15 04 14 12 00 12 00" 13 3
    ∷ over "15 04 14 12 00 14 12 00 1A 00 00" 13 4
    ∷ over "15 09 17 01 14 12 00 1A 00 00 14 12 00 1A 00 00" 13 6
    ∷ over "15 04 18 17 01 14 12 00 1A 00 00 1A 00 00 14 12 02 11 00" 13 8
    ∷ over "15 08 16 12 00 15 04 16 12 01 12 00" 13 5
    ∷ over "15 06 15 04 14 12 01 14 12 00 14 12 01 1A 00 00" 13 7
    ∷ over "15 04 14 14 1A 02 03 14 12 00 1A 00 00 14 12 00 1A 00 00" 13 8
    ∷ over "15 05 13 02 14 12 01 14 12 01 11 00" 13 5
    ∷ over "15 04 19 00 14 12 01 14 12 01 11 00" 13 5
    ∷ over "15 04 16 12 00 12 00" 13 3
    ∷ over "15 04 14 12 00 12 00" 13 3
    ∷ over "15 04 17 01 12 00 12 00" 13 3
    ∷ over "15 04 14 1A 00 00 14 12 00 12 00" 13 5
    ∷ []

-- 14: unused, at the node of its function, before 12
unfoldable pub unused_linear : List RefusalRow
unused_linear =
    over "15 04 1A 00 00" 14 0
    ∷ over "15 05 1A 01 02" 14 0
    ∷ over "15 04 1A 01 02" 14 0
    ∷ over "15 04 13 02 11 00" 14 0
    ∷ over "15 06 15 04 1A 00 00" 14 1
    ∷ over "15 06 15 04 14 12 01 1A 00 00" 14 1
    ∷ over "15 06 15 04 14 12 00 1A 00 00" 14 0
    ∷ over "15 06 15 04 12 01" 14 1
    ∷ over "15 08 15 04 1A 00 00" 14 1
    ∷ over "16 15 04 1A 00 00 1A 07 00" 14 1
    ∷ over "14 1A 00 00 15 04 1A 00 00" 14 2
    ∷ over "17 01 15 04 1A 00 00 1A 00 00" 14 1
    ∷ over "15 04 14 13 02 11 00 1A 00 00" 14 0
    ∷ over "13 02 15 04 1A 00 00" 14 1
    ∷ over "18 15 04 1A 00 00 11 00" 14 1
    ∷ []

-- 15: an unknown part, before 12
unfoldable pub unknown_parts : List RefusalRow
unknown_parts =
    row "01 03 00 00 04 01 01 04 02 01 04 01 02 04 02 02 1A 07 00" 15 0
    ∷ over "1A 07 00" 15 0
    ∷ over "1A 07 02" 15 0
    ∷ over "1A 08 03" 15 0
    ∷ over "1A FF 00" 15 0
    ∷ over "1A 80 0B" 15 0
    ∷ over "13 02 1A 07 00" 15 1
    ∷ over "14 1A 07 02 1A 08 00" 15 1
    ∷ over "14 1A 01 02 1A 08 00" 15 2
    ∷ over "17 01 1A 00 00 1A 07 00" 15 2
    ∷ over "18 1A 07 01 11 00" 15 1
    ∷ over "19 00 1A 10 00" 15 1
    ∷ over "15 04 1A 07 00" 15 1
    ∷ over "18 17 01 1A 00 00 1A 00 00 1A 07 00" 15 4
    ∷ over "16 1A 07 04 11 00" 15 1
    ∷ over "14 1A 00 00 1A 07 00" 15 2
    ∷ over "17 01 1A 01 02 1A 07 00" 15 2
    ∷ over "15 04 1A 07 00" 15 1
    ∷ []
