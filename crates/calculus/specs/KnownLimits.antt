-- Rows at the limits (document 01, "Numbers of the refusals": 2, 8 and 16): whole sheets, built where they are long, and single records with
-- so many types or nodes before them. Worked out by hand. Assumes nothing.
use Rattle.std.specs.Prelude.{ℕ, zero, suc, List, [], ◌∷◌, ◌++◌, replicate}
use Prim.Native.String.{String}
use Rattle.calculus.specs.Texts.{hex}
use Rattle.calculus.specs.Answer.{Answer, good, refuse}
use Rattle.calculus.specs.Types.{Table}
use Rattle.calculus.specs.Terms.{first}
use Rattle.calculus.specs.Read.{NodeKind, k14, k19, read_types, head_at}
use Rattle.calculus.specs.KnownRefusals.{RefusalRow, row_of}

-- n times the same bytes
abbrev times : ℕ → String → List ℕ
times zero text = []
times (suc n) text = hex text ++ times n text

-- 1, and products of two equal halves: the n-th type has 2 to the n single bits
abbrev doubled : List ℕ
doubled = hex "01 02 00 00 02 01 01 02 02 02 02 03 03 02 04 04 02 05 05 02 06 06"

-- 2: 16,385 bytes, and with one byte less 9; 8: a product of 129 single bits; a term at depth 65, and with one level less none;
-- 16: 33 fixed points of 256 terminals each, and with one less none
unfoldable pub at_limits : List RefusalRow
at_limits =
    row_of (hex "01 1A 00 00" ++ replicate 16381 0) 2 0
    ∷ row_of (hex "01 1A 00 00" ++ replicate 16380 0) 9 4
    ∷ row_of (doubled ++ hex "02 07 00 1A 00 00") 8 22
    ∷ row_of (doubled ++ hex "1A 00 00") 0 0
    ∷ row_of (hex "01" ++ times 64 "19 00" ++ hex "11 00") 8 129
    ∷ row_of (hex "01" ++ times 63 "19 00" ++ hex "11 00") 0 0
    ∷ row_of (doubled ++ times 33 "19 07" ++ hex "11 00") 16 0
    ∷ row_of (doubled ++ times 32 "19 07" ++ hex "11 00") 0 0
    ∷ []

-- a node's record with so many levels left, types and nodes before it, and what is read of it
pub record HeadRow : Type 0 where
  pub more : ℕ
  pub bytes : List ℕ
  pub types : ℕ
  pub count : ℕ
  pub read : Answer NodeKind

abbrev head_row : ℕ → String → ℕ → ℕ → Answer NodeKind → HeadRow
head_row more text types count a = record { more = more; bytes = hex text; types = types; count = count; read = a }

abbrev pub head_read : HeadRow → HeadRow
head_read r = record { more = r.more; bytes = r.bytes; types = r.types; count = r.count; read = head_at first r.more r.bytes r.types 0 r.count }

-- the 2,048th node, and the 2,049th (8), though a record is due (3), the kind is unknown (4) or the body is cut (3); depth 65 (8), though the
-- body is cut (3), and before the type number (5)
unfoldable pub heads : List HeadRow
heads =
    head_row 1 "14" 0 2047 (good k14)
    ∷ head_row 1 "14" 0 2048 (refuse 8 0)
    ∷ head_row 1 "" 0 2048 (refuse 3 0)
    ∷ head_row 1 "05" 0 2048 (refuse 4 0)
    ∷ head_row 1 "13" 1 2048 (refuse 3 0)
    ∷ head_row 1 "1A 00" 1 2048 (refuse 3 0)
    ∷ head_row 1 "19 01" 2 0 (good k19)
    ∷ head_row 1 "19 02" 2 0 (refuse 5 0)
    ∷ head_row 1 "19 02" 2 2048 (refuse 8 0)
    ∷ head_row 0 "19 02" 2 0 (refuse 8 0)
    ∷ head_row 0 "19" 2 0 (refuse 3 0)
    ∷ []

-- type records where one more may come, and where none may: the 257th is 8, but 3 where its body is cut; a node ends the types
abbrev pub last_types : List (Answer (Table × ℕ))
last_types = read_types 1 (hex "01 02 00 00") [] 0 ∷ read_types 0 (hex "02 00 00") [] 0 ∷ read_types 0 (hex "02 00") [] 0 ∷ read_types 0 (hex "1A 00 00") [] 0 ∷ []

abbrev pub last_types_read : List (Answer (Table × ℕ))
last_types_read = refuse 8 1 ∷ refuse 8 0 ∷ refuse 3 0 ∷ good ([], 0) ∷ []
