-- Batches worked out by hand from document 02, L10. Assumes nothing.
use Rattle.std.specs.Prelude.{ℕ, Bool, true, false, ◌&&◌, List, [], ◌∷◌, replicate}
use Prim.Native.String.{String}
use Rattle.calculus.specs.Texts.{hex, all_bytes}
use Rattle.calculus.specs.Answer.{Answer, good, refuse}
use Rattle.export_calculus.specs.CardCall.{Wished}
use Rattle.batch_calculus.specs.Batch.{Batch, batch_call}

-- sheets laid end to end and their lengths, the output and the results lent; what is said, and what stands in both afterwards
pub record BatchRow : Type 0 where
  pub sheets : List ℕ
  pub lengths : List ℕ
  pub out : List ℕ
  pub results : List ℕ
  pub said : Answer ℕ
  pub out_after : List ℕ
  pub results_after : List ℕ
  pub whole : Bool

abbrev row : String → List ℕ → String → List ℕ → Answer ℕ → String → List ℕ → BatchRow
row s ns o rs a o' rs' = record { sheets = hex s; lengths = ns; out = hex o; results = rs; said = a; out_after = hex o'; results_after = rs'; whole = true }

-- the lean netlist in plain kinds, without the card's profile
abbrev lean_plain : Wished
lean_plain = record { card = false; wish = record { lean = true; plain = true } }

-- P1 (4 bytes, a netlist of 7), P2 (8 bytes, a netlist of 9) and P9 (12 bytes, refused 14 at node 0):
-- each has the output that the earlier ones left unused, and bytes and results past the last stay;
-- a refused sheet uses none;
-- 17 for P2 (9 needed, 8 there) uses none, and keeps P1 after it from nothing;
-- no sheet; lengths that add up to a byte less or more, and too little room for the results: 24, and nothing changes
unfoldable pub worked_batches : List BatchRow
worked_batches =
    row "01 1A 00 00 01 03 00 00 13 01 11 00" (4 ∷ 8 ∷ []) "AA AA AA AA AA AA AA AA AA AA AA AA AA AA AA AA AA" (5 ∷ 5 ∷ 5 ∷ []) (good 16)
    "22 00 00 00 24 00 00 21 00 00 24 00 00 24 01 00 AA" (7 ∷ 9 ∷ 5 ∷ [])
    ∷ row "01 03 00 00 04 01 00 15 02 1A 00 00 01 1A 00 00" (12 ∷ 4 ∷ []) "AA AA AA AA AA AA AA" (5 ∷ 5 ∷ []) (good 7) "22 00 00 00 24 00 00" (0x0000000E00000000 ∷ 7 ∷ [])
    ∷ row "01 03 00 00 13 01 11 00 01 1A 00 00" (8 ∷ 4 ∷ []) "AA AA AA AA AA AA AA AA" (5 ∷ 5 ∷ []) (good 7) "22 00 00 00 24 00 00 AA" (0x0000001100000009 ∷ 7 ∷ [])
    ∷ row "" [] "AA" (5 ∷ []) (good 0) "AA" (5 ∷ [])
    ∷ row "01 1A 00 00" (3 ∷ []) "AA" (5 ∷ []) (refuse 24 0) "AA" (5 ∷ [])
    ∷ row "01 1A 00 00" (4 ∷ 1 ∷ []) "AA" (5 ∷ 5 ∷ []) (refuse 24 0) "AA" (5 ∷ 5 ∷ [])
    ∷ row "01 1A 00 00" (4 ∷ []) "AA AA AA AA AA AA AA" [] (refuse 24 0) "AA AA AA AA AA AA AA" []
    ∷ []

abbrev leaves : BatchRow → Batch → BatchRow
leaves r b = record {
  sheets = r.sheets;
  lengths = r.lengths;
  out = r.out;
  results = r.results;
  said = b.said;
  out_after = b.out;
  results_after = b.results;
  whole = all_bytes r.sheets && all_bytes r.out;
}

-- what the definition leaves; the texts are no broken ones
abbrev pub batched : BatchRow → BatchRow
batched r = leaves r (batch_call lean_plain r.sheets r.lengths r.out r.results (replicate 32768 0))
