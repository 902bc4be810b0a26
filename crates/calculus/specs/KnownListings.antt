-- Sheets with their listings, up to 150 bytes: the stored examples, each worked out by hand or by the second program. Assumes nothing.
use Rattle.std.specs.Prelude.{ℕ, cond, List, [], ◌∷◌}
use Prim.Native.String.{String}
use Rattle.calculus.specs.Texts.{ascii, hex, all_bytes}
use Rattle.calculus.specs.Listing.{Text, listing}

-- a sheet, and what the listing program prints for it
pub record ListingRow : Type 0 where
  pub sheet : List ℕ
  pub text : Text

abbrev row : String → String → ListingRow
row sheet text = record { sheet = hex sheet; text = ascii text }

-- a row whose text is broken has no sheet
abbrev pub listing_row : ListingRow → ListingRow
listing_row r = cond (all_bytes r.sheet) (record { sheet = r.sheet; text = listing r.sheet }) (row "" "")

unfoldable pub known_listings : List ListingRow
known_listings =
    row "01 1A 00 00" "full\npart zero 0\npin 0\nlean\npart zero 0\npin 0\nend\n"  -- P1
    ∷ row "" "refused 3 0\n"  -- P10
    ∷ row "01 14 1A 00 00 1A 00 00" "refused 12 0\n"  -- P11
    ∷ row "01 03 00 00 13 01 11 00" "full\npoint 0 1\npin 0\npin 1\nlean\npoint 0 1\npin 0\npin 1\nend\n"  -- P2
    ∷ row "01 03 00 00 04 01 00 16 15 02 14 12 00 1A 00 00 1A 01 01" "full\npoint 0 1\npoint 2 3\npart zero 4\npart reg 5 6\nwire 4 0\nwire 1 5\nwire 6 2\npin 3\nlean\npart zero 4\npart reg 5 6\nwire 4 5\npin 6\nend\n"  -- P3
    ∷ row "01 19 00 11 00" "full\npoint 0 1\nwire 1 0\npin 1\nlean\npoint 0 1\nwire 1 0\npin 1\nend\n"  -- P4
    ∷ row "01 03 00 00 03 00 01 13 01 14 14 1A 02 02 11 00 11 00" "full\npoint 0 1\npart and 2 3 4\nwire 1 2\nwire 1 3\npin 0\npin 4\nlean\npoint 0 1\npart and 2 3 4\nwire 1 2\nwire 1 3\npin 0\npin 4\nend\n"  -- P5
    ∷ row "01 03 00 00 03 00 01 19 00 14 14 1A 02 02 1A 00 00 14 1A 01 01 11 00" "full\npoint 0 1\npart and 2 3 4\npart zero 5\npart reg 6 7\nwire 5 2\nwire 1 6\nwire 7 3\nwire 4 0\npin 4\nlean\npart and 2 3 4\npart zero 5\npart reg 6 7\nwire 5 2\nwire 7 3\nwire 4 6\npin 4\nend\n"  -- P6
    ∷ row "01 02 00 00 19 01 18 11 00 17 01 11 00 11 01" "full\npoint 0 1\npoint 2 3\nwire 3 0\nwire 1 2\npin 3\npin 1\nlean\npoint 0 1\nwire 1 0\npin 1\npin 1\nend\n"  -- P7
    ∷ row "01 03 00 00 04 01 00 15 02 14 12 00 14 12 00 1A 00 00" "refused 13 4\n"  -- P8
    ∷ row "01 03 00 00 04 01 00 15 02 1A 00 00" "refused 14 0\n"  -- P9
    ∷ row "01 03 00 00 04 01 01 04 01 02 15 03 15 02 13 01 14 12 01 14 12 02 11 00" "full\npoint 0 1\npoint 2 3\npoint 4 5\npoint 6 7\npoint 8 9\nwire 9 0\nwire 3 4\npin 1\npin 2\npin 5\npin 6\npin 8\npin 7\nlean\npoint 2 3\npoint 6 7\npoint 8 9\npin 9\npin 2\npin 3\npin 6\npin 8\npin 7\nend\n"  -- chain-open
    ∷ []

unfoldable pub more_listings : List ListingRow
more_listings =
    row "01 03 00 00 04 01 01 04 01 02 16 16 15 03 15 02 13 01 14 12 01 14 12 02 11 00 1A 01 01 1A 05 01" "full\npoint 0 1\npoint 2 3\npoint 4 5\npoint 6 7\npoint 8 9\npart reg 10 11\npart inv 12 13\nwire 9 0\nwire 3 4\nwire 1 10\nwire 11 2\nwire 5 12\nwire 13 6\npin 8\npin 7\nlean\npoint 8 9\npart reg 10 11\npart inv 12 13\nwire 9 10\nwire 11 12\npin 8\npin 13\nend\n"  -- chain-two
    ∷ row "31 01 02 00 00 03 00 01 03 00 02 03 00 00 03 01 00 13 03 13 02 19 01 18 11 00 1B 14 1A 01 04 11 00 1B 14 1A 04 05 17 01 11 05 11 04 17 01 14 1A 03 05 17 01 14 1A 01 04 11 03 14 1A 02 05 17 01 14 1A 05 04 11 01 14 1A 02 05 17 01 11 00 11 06 14 1A 03 05 17 01 11 01 11 00" "full\npoint 0 1\npoint 2 3\npoint 4 5\npoint 6 7\npart reg 8 9\npart xor 10 11 12\npart or 13 14 15\npart reg 16 17\npart and 18 19 20\npart inv 21 22\npart and 23 24 25\npart or 26 27 28\nwire 7 8\nwire 1 10\nwire 3 11\nwire 5 16\nwire 9 21\nwire 12 23\nwire 1 24\nwire 22 18\nwire 25 19\nwire 17 13\nwire 20 14\nwire 9 26\nwire 12 27\nwire 15 4\nwire 28 6\npin 0\npin 2\npin 15\npin 28\nlean\npoint 0 1\npoint 2 3\npart reg 8 9\npart xor 10 11 12\npart or 13 14 15\npart reg 16 17\npart and 18 19 20\npart inv 21 22\npart and 23 24 25\npart or 26 27 28\nwire 28 8\nwire 1 10\nwire 3 11\nwire 17 13\nwire 20 14\nwire 15 16\nwire 22 18\nwire 25 19\nwire 9 21\nwire 12 23\nwire 1 24\nwire 9 26\nwire 12 27\npin 0\npin 2\npin 15\npin 28\nend\n"  -- comparator-divergence-second
    ∷ row "01 02 00 00 03 00 01 03 00 02 03 00 00 03 00 04 13 03 13 02 19 01 18 11 00 14 13 02 14 13 02 17 01 14 14 1A 03 05 14 1A 01 04 11 03 14 14 1A 02 05 14 1A 05 04 11 01 14 14 1A 02 05 11 00 11 06 14 14 1A 03 05 11 01 11 00 14 14 1A 04 05 11 05 11 04 14 1A 01 04 11 00" "full\npoint 0 1\npoint 2 3\npoint 4 5\npoint 6 7\npoint 8 9\npoint 10 11\npart or 12 13 14\npart reg 15 16\npart and 17 18 19\npart inv 20 21\npart and 22 23 24\npart or 25 26 27\npart xor 28 29 30\npart reg 31 32\nwire 5 15\nwire 16 12\nwire 9 20\nwire 21 17\nwire 11 22\nwire 1 23\nwire 24 18\nwire 19 13\nwire 9 25\nwire 11 26\nwire 1 28\nwire 3 29\nwire 30 10\nwire 7 31\nwire 32 8\nwire 14 4\nwire 27 6\npin 0\npin 2\npin 14\npin 27\nlean\npoint 0 1\npoint 2 3\npart or 12 13 14\npart reg 15 16\npart and 17 18 19\npart inv 20 21\npart and 22 23 24\npart or 25 26 27\npart xor 28 29 30\npart reg 31 32\nwire 16 12\nwire 19 13\nwire 14 15\nwire 21 17\nwire 24 18\nwire 32 20\nwire 30 22\nwire 1 23\nwire 32 25\nwire 30 26\nwire 1 28\nwire 3 29\nwire 27 31\npin 0\npin 2\npin 14\npin 27\nend\n"  -- comparator-divergence
    ∷ row "01 02 00 00 03 00 01 03 00 02 03 00 00 03 00 04 13 03 13 02 19 01 18 11 00 14 13 02 14 13 02 14 13 02 17 01 14 14 1A 03 05 14 1A 01 04 11 04 14 14 1A 02 05 14 1A 05 04 11 02 14 14 1A 02 05 11 01 11 07 14 14 1A 03 05 11 02 11 01 14 14 1A 03 05 11 01 11 00 14 14 1A 04 05 11 05 11 04 14 1A 01 04 11 00" "full\npoint 0 1\npoint 2 3\npoint 4 5\npoint 6 7\npoint 8 9\npoint 10 11\npoint 12 13\npart or 14 15 16\npart reg 17 18\npart and 19 20 21\npart inv 22 23\npart and 24 25 26\npart or 27 28 29\npart or 30 31 32\npart xor 33 34 35\npart reg 36 37\nwire 5 17\nwire 18 14\nwire 9 22\nwire 23 19\nwire 11 24\nwire 1 25\nwire 26 20\nwire 21 15\nwire 9 27\nwire 11 28\nwire 9 30\nwire 11 31\nwire 32 12\nwire 1 33\nwire 3 34\nwire 35 10\nwire 7 36\nwire 37 8\nwire 16 4\nwire 29 6\npin 0\npin 2\npin 16\npin 29\nlean\npoint 0 1\npoint 2 3\npart or 14 15 16\npart reg 17 18\npart and 19 20 21\npart inv 22 23\npart and 24 25 26\npart or 27 28 29\npart or 30 31 32\npart xor 33 34 35\npart reg 36 37\nwire 18 14\nwire 21 15\nwire 16 17\nwire 23 19\nwire 26 20\nwire 37 22\nwire 35 24\nwire 1 25\nwire 37 27\nwire 35 28\nwire 37 30\nwire 35 31\nwire 1 33\nwire 3 34\nwire 29 36\npin 0\npin 2\npin 16\npin 29\nend\n"  -- comparator-unread
    ∷ row "01 03 00 00 03 00 01 13 02 13 01 14 14 1A 02 02 11 02 11 01" "refused 10 5\n"  -- fault-binder
    ∷ row "01 1A 00 00 1A 06 00" "refused 9 4\n"  -- fault-bytes-after
    ∷ row "01 03 00 00 04 01 00 16 15 02 14 12 00 1A 00 00 1A 01" "refused 3 16\n"  -- fault-cut
    ∷ row "01 03 00 00 13 01 03 00 01 14 14 1A 02 02 11 00 11 00" "refused 4 6\n"  -- fault-kind
    ∷ row "01 04 00 00 15 01 12 00" "refused 6 1\n"  -- fault-left-side
    ∷ row "01 03 00 00 04 01 00 14 15 02 14 12 00 1A 00 00 1A 01 01" "refused 12 0\n"  -- fault-linear-application
    ∷ row "01 03 00 00 03 00 01 13 01 14 14 1A 02 02 1A 05 01 11 00" "refused 12 2\n"  -- fault-misfit
    ∷ row "01 03 00 00 13 01 14 14 1A 02 01 11 00 11 00" "refused 12 3\n"  -- fault-nowhere
    ∷ []

unfoldable pub larger_listings : List ListingRow
larger_listings =
    row "01 03 00 00 03 00 01 13 02 13 01 14 14 1A 07 02 11 01 11 00" "refused 15 4\n"  -- fault-part
    ∷ row "01 03 00 00 02 00 00 03 00 00 13 03 11 00" "refused 7 7\n"  -- fault-repeated-type
    ∷ row "01 02 00 00 02 01 01 02 02 02 02 03 03 02 04 04 02 05 05 02 06 06 02 07 00 1A 00 00" "refused 8 22\n"  -- fault-size
    ∷ row "01 03 00 00 04 01 01 15 02 13 01 14 11 01 11 00" "refused 11 3\n"  -- fault-sort
    ∷ row "01 02 00 00 02 01 01 02 02 02 02 03 03 02 04 04 02 05 05 02 06 06 19 07 19 07 19 07 19 07 19 07 19 07 19 07 19 07 19 07 19 07 19 07 19 07 19 07 19 07 19 07 19 07 19 07 19 07 19 07 19 07 19 07 19 07 19 07 19 07 19 07 19 07 19 07 19 07 19 07 19 07 19 07 19 07 19 07 11 00" "refused 16 0\n"  -- fault-terminals
    ∷ row "01 03 00 02 03 00 00 13 01 1A 05 02" "refused 5 1\n"  -- fault-type-number
    ∷ row "01 03 00 00 13 01 14 1A 05 01" "refused 3 10\n"  -- fault-unfinished
    ∷ row "01 03 00 00 04 01 01 04 01 02 15 03 15 02 13 01 14 12 02 11 00" "refused 14 1\n"  -- fault-unused
    ∷ row "01 03 00 00 04 01 01 15 02 13 01 14 12 01 14 12 01 11 00" "refused 13 5\n"  -- fault-used-again
    ∷ row "31 01 02 00 00 03 00 01 03 00 02 03 00 03 03 01 00 13 04 13 03 13 02 1B 14 1A 04 05 17 01 11 02 11 01 1B 14 1A 04 05 17 01 11 00 11 01 1B 14 1A 03 05 17 01 14 1A 02 05 17 01 11 04 11 03 14 1A 02 05 17 01 11 01 11 02 17 01 11 01 11 00" "full\npoint 0 1\npoint 2 3\npoint 4 5\npart xor 6 7 8\npart xor 9 10 11\npart or 12 13 14\npart and 15 16 17\npart and 18 19 20\nwire 1 6\nwire 3 7\nwire 8 9\nwire 5 10\nwire 1 15\nwire 3 16\nwire 8 18\nwire 5 19\nwire 17 12\nwire 20 13\npin 0\npin 2\npin 4\npin 11\npin 14\nlean\npoint 0 1\npoint 2 3\npoint 4 5\npart xor 6 7 8\npart xor 9 10 11\npart or 12 13 14\npart and 15 16 17\npart and 18 19 20\nwire 1 6\nwire 3 7\nwire 8 9\nwire 5 10\nwire 17 12\nwire 20 13\nwire 1 15\nwire 3 16\nwire 8 18\nwire 5 19\npin 0\npin 2\npin 4\npin 11\npin 14\nend\n"  -- full-adder-second
    ∷ row "01 02 00 00 03 00 01 03 00 02 03 00 03 03 00 00 03 00 05 13 04 13 03 13 02 14 13 02 14 13 02 14 13 02 17 01 11 01 11 00 14 14 1A 03 06 14 14 1A 02 06 11 04 11 03 14 14 1A 02 06 11 01 11 02 14 14 1A 04 06 11 00 11 01 14 14 1A 04 06 11 02 11 01" "full\npoint 0 1\npoint 2 3\npoint 4 5\npoint 6 7\npoint 8 9\npoint 10 11\npart or 12 13 14\npart and 15 16 17\npart and 18 19 20\npart xor 21 22 23\npart xor 24 25 26\nwire 1 15\nwire 3 16\nwire 17 12\nwire 7 18\nwire 5 19\nwire 20 13\nwire 14 10\nwire 7 21\nwire 5 22\nwire 23 8\nwire 1 24\nwire 3 25\nwire 26 6\npin 0\npin 2\npin 4\npin 9\npin 11\nlean\npoint 0 1\npoint 2 3\npoint 4 5\npart or 12 13 14\npart and 15 16 17\npart and 18 19 20\npart xor 21 22 23\npart xor 24 25 26\nwire 17 12\nwire 20 13\nwire 1 15\nwire 3 16\nwire 26 18\nwire 5 19\nwire 26 21\nwire 5 22\nwire 1 24\nwire 3 25\npin 0\npin 2\npin 4\npin 23\npin 14\nend\n"  -- full-adder
    ∷ row "01 03 00 00 03 00 01 14 13 01 14 14 1A 02 02 11 00 11 00 1A 00 00" "full\npoint 0 1\npart and 2 3 4\npart zero 5\nwire 1 2\nwire 1 3\nwire 5 0\npin 4\nlean\npart and 2 3 4\npart zero 5\nwire 5 2\nwire 5 3\npin 4\nend\n"  -- paper-and-shared
    ∷ []

unfoldable pub last_listings : List ListingRow
last_listings =
    row "01 03 00 00 03 00 01 14 14 1A 02 02 1A 00 00 1A 00 00" "full\npart and 0 1 2\npart zero 3\npart zero 4\nwire 3 0\nwire 4 1\npin 2\nlean\npart and 0 1 2\npart zero 3\npart zero 4\nwire 3 0\nwire 4 1\npin 2\nend\n"  -- paper-and-zero-zero
    ∷ row "01 03 00 00 03 00 01 19 00 14 14 1A 02 02 1A 00 00 14 1A 01 01 11 00" "full\npoint 0 1\npart and 2 3 4\npart zero 5\npart reg 6 7\nwire 5 2\nwire 1 6\nwire 7 3\nwire 4 0\npin 4\nlean\npart and 2 3 4\npart zero 5\npart reg 6 7\nwire 5 2\nwire 7 3\nwire 4 6\npin 4\nend\n"  -- paper-feedback
    ∷ row "01 03 00 00 13 01 11 00" "full\npoint 0 1\npin 0\npin 1\nlean\npoint 0 1\npin 0\npin 1\nend\n"  -- paper-identity
    ∷ row "01 03 00 00 04 01 01 15 02 12 00" "full\npoint 0 1\npoint 2 3\npin 1\npin 2\npin 0\npin 3\nlean\npoint 0 1\npoint 2 3\npin 1\npin 2\npin 0\npin 3\nend\n"  -- paper-linear-identity
    ∷ row "01 03 00 00 04 01 00 16 15 02 14 12 00 1A 00 00 1A 01 01" "full\npoint 0 1\npoint 2 3\npart zero 4\npart reg 5 6\nwire 4 0\nwire 1 5\nwire 6 2\npin 3\nlean\npart zero 4\npart reg 5 6\nwire 4 5\npin 6\nend\n"  -- paper-linear-zero
    ∷ row "01 02 00 00 03 00 01 03 00 00 03 00 03 18 14 13 02 17 01 11 00 11 00 1A 00 00 14 14 1A 02 04 11 01 11 00" "full\npoint 0 1\npart zero 2\npart and 3 4 5\nwire 2 0\nwire 1 3\nwire 1 4\npin 5\nlean\npart zero 2\npart and 3 4 5\nwire 2 3\nwire 2 4\npin 5\nend\n"  -- paper-projection
    ∷ row "01 02 00 00 03 00 01 13 02 17 01 11 00 11 00" "full\npoint 0 1\npin 0\npin 1\npin 1\nlean\npoint 0 1\npin 0\npin 1\npin 1\nend\n"  -- paper-replicate
    ∷ row "31 01 03 00 00 03 00 01 02 00 00 03 00 03 03 00 04 03 00 05 03 03 00 13 02 13 01 18 19 03 18 11 00 14 14 14 13 06 13 05 13 04 1B 14 1A 04 07 17 03 11 02 11 01 17 03 14 1A 04 07 17 03 11 00 11 01 14 1A 03 07 17 03 14 1A 02 07 17 03 11 03 11 02 14 1A 02 07 17 03 11 00 11 01 11 04 11 03 14 1A 01 01 11 00 11 01" "full\npoint 0 1\npoint 2 3\npoint 4 5\npoint 6 7\npoint 8 9\npoint 10 11\npoint 12 13\npart xor 14 15 16\npart xor 17 18 19\npart or 20 21 22\npart and 23 24 25\npart and 26 27 28\npart reg 29 30\nwire 9 14\nwire 11 15\nwire 16 17\nwire 13 18\nwire 9 23\nwire 11 24\nwire 16 26\nwire 13 27\nwire 25 20\nwire 28 21\nwire 1 8\nwire 3 10\nwire 7 29\nwire 30 12\nwire 19 4\nwire 22 6\npin 0\npin 2\npin 19\nlean\npoint 0 1\npoint 2 3\npart xor 14 15 16\npart xor 17 18 19\npart or 20 21 22\npart and 23 24 25\npart and 26 27 28\npart reg 29 30\nwire 1 14\nwire 3 15\nwire 16 17\nwire 30 18\nwire 25 20\nwire 28 21\nwire 1 23\nwire 3 24\nwire 16 26\nwire 30 27\nwire 22 29\npin 0\npin 2\npin 19\nend\n"  -- serial-adder
    ∷ row "01 02 00 00 02 00 01 02 00 02 02 00 03 02 00 04 02 00 05 02 00 06 03 00 07 03 00 00 03 00 09 13 08 19 07 18 11 00 18 11 00 18 11 00 18 11 00 18 11 00 18 11 00 18 11 00 17 07 14 1A 01 09 14 14 1A 03 0A 11 0F 14 14 1A 04 0A 11 00 14 14 1A 04 0A 11 03 14 14 1A 04 0A 11 05 11 07 17 06 14 1A 01 09 11 0D 17 05 14 1A 01 09 11 0B 17 04 14 1A 01 09 11 09 17 03 14 1A 01 09 11 07 17 02 14 1A 01 09 11 05 17 01 14 1A 01 09 11 03 14 1A 01 09 11 01" "full\npoint 0 1\npoint 2 3\npoint 4 5\npoint 6 7\npoint 8 9\npoint 10 11\npoint 12 13\npoint 14 15\npoint 16 17\npart reg 18 19\npart or 20 21 22\npart xor 23 24 25\npart xor 26 27 28\npart xor 29 30 31\npart reg 32 33\npart reg 34 35\npart reg 36 37\npart reg 38 39\npart reg 40 41\npart reg 42 43\npart reg 44 45\nwire 1 20\nwire 17 23\nwire 13 26\nwire 11 29\nwire 9 30\nwire 31 27\nwire 28 24\nwire 25 21\nwire 22 18\nwire 3 32\nwire 5 34\nwire 7 36\nwire 9 38\nwire 11 40\nwire 13 42\nwire 15 44\nwire 19 2\nwire 33 4\nwire 35 6\nwire 37 8\nwire 39 10\nwire 41 12\nwire 43 14\nwire 45 16\npin 0\npin 19\npin 33\npin 35\npin 37\npin 39\npin 41\npin 43\npin 45\nlean\npoint 0 1\npart reg 18 19\npart or 20 21 22\npart xor 23 24 25\npart xor 26 27 28\npart xor 29 30 31\npart reg 32 33\npart reg 34 35\npart reg 36 37\npart reg 38 39\npart reg 40 41\npart reg 42 43\npart reg 44 45\nwire 22 18\nwire 1 20\nwire 25 21\nwire 45 23\nwire 28 24\nwire 41 26\nwire 31 27\nwire 39 29\nwire 37 30\nwire 19 32\nwire 33 34\nwire 35 36\nwire 37 38\nwire 39 40\nwire 41 42\nwire 43 44\npin 0\npin 19\npin 33\npin 35\npin 37\npin 39\npin 41\npin 43\npin 45\nend\n"  -- shift-register-8
    ∷ row "31 01 03 00 00 03 00 01 02 00 00 03 03 00 13 02 13 01 14 13 01 19 00 14 1A 03 04 17 03 11 01 14 1A 01 01 11 00 14 1A 04 04 17 03 11 01 11 00" "full\npoint 0 1\npoint 2 3\npoint 4 5\npoint 6 7\npart or 8 9 10\npart reg 11 12\npart xor 13 14 15\nwire 7 11\nwire 5 8\nwire 12 9\nwire 10 6\nwire 1 13\nwire 3 14\nwire 15 4\npin 0\npin 2\npin 10\nlean\npoint 0 1\npoint 2 3\npart or 8 9 10\npart reg 11 12\npart xor 13 14 15\nwire 15 8\nwire 12 9\nwire 10 11\nwire 1 13\nwire 3 14\npin 0\npin 2\npin 10\nend\n"  -- sticky
    ∷ []
