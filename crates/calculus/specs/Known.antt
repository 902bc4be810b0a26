-- The sheets with known results, P1 to P11 (document 01), in one table; some of the second edition and some that clash in two more: a
-- call's answers on each. Assumes nothing.
use Rattle.std.specs.Prelude.{ℕ, Bool, true, false, List, [], ◌∷◌, map, length}
use Prim.Native.String.{String}
use Rattle.calculus.specs.Texts.{ascii, hex, all_bytes}
use Rattle.calculus.specs.Answer.{Answer, good, refused, ◌>>=◌, refuse, clash, a_form}
use Rattle.calculus.specs.Net.{Net, Interface, inp, out, Element, point, part, Wire}
use Rattle.calculus.specs.Lean.{lean}
use Rattle.calculus.specs.Makers.{drop_nodes}
use Rattle.calculus.specs.NetRead.{read_net}
use Rattle.calculus.specs.Translate.{full, Wish, answer}
use Rattle.calculus.specs.Listing.{Text, listing}

infix 80 ◌⟶◌
abbrev ◌⟶◌ : ℕ → ℕ → Wire
o ⟶ i = record { from = o; to = i }

abbrev net : List Element → List Wire → Interface → Net
net es ws ps = record { elements = es; wires = ws; pins = ps }

-- both netlists, and their bytes, plain and with nodes (document 02, L6)
pub record Both : Type 0 where
  pub full : Net
  pub full_bytes : List ℕ
  pub full_nodes : List ℕ
  pub lean : Net
  pub lean_bytes : List ℕ
  pub lean_nodes : List ℕ

-- a sheet, with its two netlists or its refusal, and its listing where document 01 writes it out
pub record Row : Type 0 where
  pub sheet : List ℕ
  pub result : Answer Both
  pub texts : List Text

abbrev row : String → Net → String → String → Net → String → String → Row
row s f fb fn l lb ln = record {
  sheet = hex s;
  result = good (record { full = f; full_bytes = hex fb; full_nodes = hex fn; lean = l; lean_bytes = hex lb; lean_nodes = hex ln });
  texts = [];
}

abbrev refusal : String → ℕ → ℕ → Row
refusal s number place = record { sheet = hex s; result = refuse number place; texts = [] }

-- refusal 12, with the type wanted and the one found (document 02, L3)
abbrev misfits : String → ℕ → ℕ → ℕ → Row
misfits s node wanted found = record { sheet = hex s; result = refused (clash node wanted found); texts = [] }

abbrev with_text : Row → Text → Row
with_text r text = record { sheet = r.sheet; result = r.result; texts = text ∷ [] }

abbrev pub P1 : Row
P1 =
    row "01 1A 00 00"
    (net (part 0 0 ∷ []) [] (out 0 ∷ []))
    "22 00 00 00 24 00 00"
    "26 00 00 00 00 00 24 00 00"
    (net (part 0 0 ∷ []) [] (out 0 ∷ []))
    "22 00 00 00 24 00 00"
    "26 00 00 00 00 00 24 00 00"

abbrev pub net_p2 : Net
net_p2 = net (point 0 ∷ []) [] (inp 0 ∷ out 1 ∷ [])

abbrev pub P2 : Row
P2 =
    row "01 03 00 00 13 01 11 00"
    net_p2
    "21 00 00 24 00 00 24 01 00"
    "25 00 00 00 00 24 00 00 24 01 00"
    net_p2
    "21 00 00 24 00 00 24 01 00"
    "25 00 00 00 00 24 00 00 24 01 00"

-- P3's listing, whole
abbrev listing_p3 : Text
listing_p3 = ascii "full\npoint 0 1\npoint 2 3\npart zero 4\npart reg 5 6\nwire 4 0\nwire 1 5\nwire 6 2\npin 3\nlean\npart zero 4\npart reg 5 6\nwire 4 5\npin 6\nend\n"

abbrev pub P3 : Row
P3 =
    with_text (row "01 03 00 00 04 01 00 16 15 02 14 12 00 1A 00 00 1A 01 01"
    (net (point 0 ∷ point 2 ∷ part 0 4 ∷ part 1 5 ∷ []) (4 ⟶ 0 ∷ 1 ⟶ 5 ∷ 6 ⟶ 2 ∷ []) (out 3 ∷ []))
    "21 00 00 21 02 00 22 00 04 00 22 01 05 00 23 04 00 00 00 23 01 00 05 00 23 06 00 02 00 24 03 00"
    "25 00 00 01 00 25 02 00 01 00 26 00 04 00 04 00 26 01 05 00 05 00 23 04 00 00 00 23 01 00 05 00 23 06 00 02 00 24 03 00"
    (net (part 0 4 ∷ part 1 5 ∷ []) (4 ⟶ 5 ∷ []) (out 6 ∷ []))
    "22 00 04 00 22 01 05 00 23 04 00 05 00 24 06 00"
    "26 00 04 00 04 00 26 01 05 00 05 00 23 04 00 05 00 24 06 00")
    listing_p3

abbrev pub P4 : Row
P4 =
    row "01 19 00 11 00"
    (net (point 0 ∷ []) (1 ⟶ 0 ∷ []) (out 1 ∷ []))
    "21 00 00 23 01 00 00 00 24 01 00"
    "25 00 00 00 00 23 01 00 00 00 24 01 00"
    (net (point 0 ∷ []) (1 ⟶ 0 ∷ []) (out 1 ∷ []))
    "21 00 00 23 01 00 00 00 24 01 00"
    "25 00 00 00 00 23 01 00 00 00 24 01 00"

abbrev pub P5 : Row
P5 =
    row "01 03 00 00 03 00 01 13 01 14 14 1A 02 02 11 00 11 00"
    (net (point 0 ∷ part 2 2 ∷ []) (1 ⟶ 2 ∷ 1 ⟶ 3 ∷ []) (inp 0 ∷ out 4 ∷ []))
    "21 00 00 22 02 02 00 23 01 00 02 00 23 01 00 03 00 24 00 00 24 04 00"
    "25 00 00 00 00 26 02 02 00 03 00 23 01 00 02 00 23 01 00 03 00 24 00 00 24 04 00"
    (net (point 0 ∷ part 2 2 ∷ []) (1 ⟶ 2 ∷ 1 ⟶ 3 ∷ []) (inp 0 ∷ out 4 ∷ []))
    "21 00 00 22 02 02 00 23 01 00 02 00 23 01 00 03 00 24 00 00 24 04 00"
    "25 00 00 00 00 26 02 02 00 03 00 23 01 00 02 00 23 01 00 03 00 24 00 00 24 04 00"

abbrev pub full_p6 : Net
full_p6 = net (point 0 ∷ part 2 2 ∷ part 0 5 ∷ part 1 6 ∷ []) (5 ⟶ 2 ∷ 1 ⟶ 6 ∷ 7 ⟶ 3 ∷ 4 ⟶ 0 ∷ []) (out 4 ∷ [])

abbrev pub P6 : Row
P6 =
    row "01 03 00 00 03 00 01 19 00 14 14 1A 02 02 1A 00 00 14 1A 01 01 11 00"
    full_p6
    "21 00 00 22 02 02 00 22 00 05 00 22 01 06 00 23 05 00 02 00 23 01 00 06 00 23 07 00 03 00 23 04 00 00 00 24 04 00"
    "25 00 00 00 00 26 02 02 00 03 00 26 00 05 00 04 00 26 01 06 00 06 00 23 05 00 02 00 23 01 00 06 00 23 07 00 03 00 23 04 00 00 00 24 04 00"
    (net (part 2 2 ∷ part 0 5 ∷ part 1 6 ∷ []) (5 ⟶ 2 ∷ 7 ⟶ 3 ∷ 4 ⟶ 6 ∷ []) (out 4 ∷ []))
    "22 02 02 00 22 00 05 00 22 01 06 00 23 05 00 02 00 23 07 00 03 00 23 04 00 06 00 24 04 00"
    "26 02 02 00 03 00 26 00 05 00 04 00 26 01 06 00 06 00 23 05 00 02 00 23 07 00 03 00 23 04 00 06 00 24 04 00"

abbrev pub P7 : Row
P7 =
    row "01 02 00 00 19 01 18 11 00 17 01 11 00 11 01"
    (net (point 0 ∷ point 2 ∷ []) (3 ⟶ 0 ∷ 1 ⟶ 2 ∷ []) (out 3 ∷ out 1 ∷ []))
    "21 00 00 21 02 00 23 03 00 00 00 23 01 00 02 00 24 03 00 24 01 00"
    "25 00 00 00 00 25 02 00 00 00 23 03 00 00 00 23 01 00 02 00 24 03 00 24 01 00"
    (net (point 0 ∷ []) (1 ⟶ 0 ∷ []) (out 1 ∷ out 1 ∷ []))
    "21 00 00 23 01 00 00 00 24 01 00 24 01 00"
    "25 00 00 00 00 23 01 00 00 00 24 01 00 24 01 00"

abbrev pub P8 : Row
P8 =
    refusal "01 03 00 00 04 01 00 15 02 14 12 00 14 12 00 1A 00 00" 13 4

abbrev pub P9 : Row
P9 =
    refusal "01 03 00 00 04 01 00 15 02 1A 00 00" 14 0

abbrev pub P10 : Row
P10 =
    refusal "" 3 0

abbrev pub P11 : Row
P11 =
    misfits "01 14 1A 00 00 1A 00 00" 0 a_form 0

unfoldable pub table : List Row
table = P1 ∷ P2 ∷ P3 ∷ P4 ∷ P5 ∷ P6 ∷ P7 ∷ P8 ∷ P9 ∷ P10 ∷ P11 ∷ []

-- ---- the two editions (document 02, L7)

-- P2 in the second edition
abbrev pub S1 : Row
S1 =
    row "31 01 03 00 00 13 01 11 00"
    (net (point 0 ∷ []) [] (inp 0 ∷ out 1 ∷ []))
    "21 00 00 24 00 00 24 01 00"
    "25 00 00 00 00 24 00 00 24 01 00"
    (net (point 0 ∷ []) [] (inp 0 ∷ out 1 ∷ []))
    "21 00 00 24 00 00 24 01 00"
    "25 00 00 00 00 24 00 00 24 01 00"

-- a gate that takes a pair: terminals as before
abbrev pub S2 : Row
S2 =
    row "31 01 02 00 00 03 01 00 1A 02 02"
    (net (part 2 0 ∷ []) [] (inp 0 ∷ inp 1 ∷ out 2 ∷ []))
    "22 02 00 00 24 00 00 24 01 00 24 02 00"
    "26 02 00 00 00 00 24 00 00 24 01 00 24 02 00"
    (net (part 2 0 ∷ []) [] (inp 0 ∷ inp 1 ∷ out 2 ∷ []))
    "22 02 00 00 24 00 00 24 01 00 24 02 00"
    "26 02 00 00 00 00 24 00 00 24 01 00 24 02 00"

-- document 000, section 5.2: proj zero of x in and (x, x), without a point
abbrev pub S3 : Row
S3 =
    row "31 01 02 00 00 03 01 00 1B 1A 00 00 14 1A 02 02 17 01 11 00 11 00"
    (net (part 0 0 ∷ part 2 1 ∷ []) (0 ⟶ 1 ∷ 0 ⟶ 2 ∷ []) (out 3 ∷ []))
    "22 00 00 00 22 02 01 00 23 00 00 01 00 23 00 00 02 00 24 03 00"
    "26 00 00 00 01 00 26 02 01 00 03 00 23 00 00 01 00 23 00 00 02 00 24 03 00"
    (net (part 0 0 ∷ part 2 1 ∷ []) (0 ⟶ 1 ∷ 0 ⟶ 2 ∷ []) (out 3 ∷ []))
    "22 00 00 00 22 02 01 00 23 00 00 01 00 23 00 00 02 00 24 03 00"
    "26 00 00 00 01 00 26 02 01 00 03 00 23 00 00 01 00 23 00 00 02 00 24 03 00"

-- it binds one variable, and the nearest is counted 0
abbrev pub S4 : Row
S4 =
    row "31 01 1B 1A 00 00 1B 1A 06 00 11 01"
    (net (part 0 0 ∷ part 6 1 ∷ []) [] (out 0 ∷ []))
    "22 00 00 00 22 06 01 00 24 00 00"
    "26 00 00 00 01 00 26 06 01 00 03 00 24 00 00"
    (net (part 0 0 ∷ part 6 1 ∷ []) [] (out 0 ∷ []))
    "22 00 00 00 22 06 01 00 24 00 00"
    "26 00 00 00 01 00 26 06 01 00 03 00 24 00 00"

-- its first subterm is not sharable: 12 at the new node
abbrev pub S5 : Row
S5 =
    misfits "31 01 03 00 00 1B 1A 01 01 1A 00 00" 0 a_form 1

-- .. before its body, whose variable is out of scope
abbrev pub S6 : Row
S6 =
    misfits "31 01 03 00 00 13 01 1B 1A 01 01 11 02" 1 a_form 1

-- gates of the other edition: 12
abbrev pub S7 : Row
S7 =
    misfits "31 01 03 00 00 03 00 01 1A 02 02" 0 a_form 2

abbrev pub S8 : Row
S8 =
    misfits "01 02 00 00 03 01 00 1A 02 02" 0 a_form 2

-- 1B in the first edition: 4
abbrev pub S9 : Row
S9 =
    refusal "01 1B 1A 00 00 11 00" 4 1

-- 31 anywhere but first: 4 where a record is due, 9 behind the term
abbrev pub S10 : Row
S10 =
    refusal "01 31 1A 00 00" 4 1

abbrev pub S11 : Row
S11 =
    refusal "31 31 01 1A 00 00" 4 1

abbrev pub S12 : Row
S12 =
    refusal "31 01 1A 00 00 31" 9 5

-- 31 alone: the term is unfinished at the end
abbrev pub S13 : Row
S13 =
    refusal "31" 3 1

unfoldable pub editions : List Row
editions = S1 ∷ S2 ∷ S3 ∷ S4 ∷ S5 ∷ S6 ∷ S7 ∷ S8 ∷ S9 ∷ S10 ∷ S11 ∷ S12 ∷ S13 ∷ []

-- ---- which two types clash (document 02, L3)

-- a function's body
abbrev pub T1 : Row
T1 = misfits "01 03 00 00 13 01 1A 01 01" 0 0 1

-- a linear function's body, of its own arrow's type
abbrev pub T2 : Row
T2 = misfits "01 03 00 00 04 01 00 15 02 12 00" 0 0 1

-- a function's written type is no arrow
abbrev pub T3 : Row
T3 = misfits "01 13 00 11 00" 0 a_form 0

-- a fixed point's body
abbrev pub T4 : Row
T4 = misfits "01 03 00 00 19 00 1A 01 01" 0 0 1

-- a fixed point's written type is not sharable
abbrev pub T5 : Row
T5 = misfits "01 03 00 00 19 01 11 00" 0 a_form 1

-- an argument of another type than the arrow's left side
abbrev pub T6 : Row
T6 = misfits "01 03 00 00 14 1A 01 01 1A 01 01" 0 0 1

-- an arrow of the other sort
abbrev pub T7 : Row
T7 = misfits "01 03 00 00 16 1A 01 01 1A 00 00" 0 a_form 1

-- a pair of which both halves differ: the first is named
abbrev pub T8 : Row
T8 = misfits "01 02 00 00 02 01 00 17 02 1A 00 00 17 01 1A 00 00 1A 00 00" 0 1 0

-- a pair's second half
abbrev pub T9 : Row
T9 = misfits "01 02 00 00 02 01 00 17 02 17 01 1A 00 00 1A 00 00 17 01 1A 00 00 1A 00 00" 0 0 1

-- a projection of a bit
abbrev pub T10 : Row
T10 = misfits "01 18 1A 00 00 11 00" 0 a_form 0

-- a constant whose type stands in the sheet
abbrev pub T11 : Row
T11 = misfits "01 03 00 00 1A 01 00" 0 1 0

-- a constant whose type stands nowhere in it
abbrev pub T12 : Row
T12 = misfits "01 1A 01 00" 0 a_form 0

-- a linear function's written type is a sharable arrow
abbrev pub T13 : Row
T13 = misfits "01 03 00 00 15 01 11 00" 0 a_form 1

-- P3 with a bit in the register's place: a linear function's argument of another type than the arrow's left side
abbrev pub T14 : Row
T14 = misfits "01 03 00 00 04 01 00 16 15 02 14 12 00 1A 00 00 1A 00 00" 0 1 0

-- a pair's written type is no product
abbrev pub T15 : Row
T15 = misfits "01 17 00 1A 00 00 1A 00 00" 0 a_form 0

-- 14 with a linear arrow: the form is judged before the argument, which does not fit either
abbrev pub T16 : Row
T16 = misfits "01 03 00 00 04 01 00 14 15 02 14 12 00 1A 00 00 1A 00 00" 0 a_form 2

unfoldable pub clashes : List Row
clashes = T1 ∷ T2 ∷ T3 ∷ T4 ∷ T5 ∷ T6 ∷ T7 ∷ T8 ∷ T9 ∷ T10 ∷ T11 ∷ T12 ∷ T13 ∷ T14 ∷ T15 ∷ T16 ∷ []

-- ---- what the definitions answer

-- the two netlists, plain and with nodes
abbrev pub full_plain : Wish
full_plain = record { lean = false; plain = true }

abbrev pub lean_plain : Wish
lean_plain = record { lean = true; plain = true }

abbrev full_nodes : Wish
full_nodes = record { lean = false; plain = false }

abbrev lean_nodes : Wish
lean_nodes = record { lean = true; plain = false }

-- a call with enough memory and room
abbrev bytes_of : Wish → List ℕ → Answer (List ℕ)
bytes_of w s = answer 32768 w s 57728

unfoldable pub netlists_of : List ℕ → Answer Both
netlists_of s = do
  m ← full s
  f ← bytes_of full_plain s
  fn ← bytes_of full_nodes s
  l ← bytes_of lean_plain s
  ln ← bytes_of lean_nodes s
  good (record { full = m; full_bytes = f; full_nodes = fn; lean = lean m; lean_bytes = l; lean_nodes = ln })

-- the answers of calls that lack something: memory of 32,767 numbers (1), and room one byte short (17), for each wish
pub record Lacking : Type 0 where
  pub memory : Answer (List ℕ)
  pub full_room : Answer (List ℕ)
  pub full_nodes_room : Answer (List ℕ)
  pub lean_room : Answer (List ℕ)
  pub lean_nodes_room : Answer (List ℕ)

abbrev short : List ℕ → ℕ
short [] = 0
short (b ∷ bs) = length bs

unfoldable pub lacking : List ℕ → Answer Both → Lacking
lacking s (good b) = record {
  memory = answer 32767 full_nodes s 57728;
  full_room = answer 32768 full_plain s (short b.full_bytes);
  full_nodes_room = answer 32768 full_nodes s (short b.full_nodes);
  lean_room = answer 32768 lean_plain s (short b.lean_bytes);
  lean_nodes_room = answer 32768 lean_nodes s (short b.lean_nodes);
}
lacking s (refused why) = record {
  memory = answer 32767 full_nodes s 0;
  full_room = answer 32768 full_plain s 0;
  full_nodes_room = answer 32768 full_nodes s 0;
  lean_room = answer 32768 lean_plain s 0;
  lean_nodes_room = answer 32768 lean_nodes s 0;
}

-- 1 before all else; 17 with the length needed, after all else
unfoldable pub lacks : Answer Both → Lacking
lacks (good b) = record {
  memory = refuse 1 0;
  full_room = refuse 17 (length b.full_bytes);
  full_nodes_room = refuse 17 (length b.full_nodes);
  lean_room = refuse 17 (length b.lean_bytes);
  lean_nodes_room = refuse 17 (length b.lean_nodes);
}
lacks (refused why) = record { memory = refuse 1 0; full_room = refused why; full_nodes_room = refused why; lean_room = refused why; lean_nodes_room = refused why }

-- both netlists, as their bytes tell them
abbrev pub reads : Answer Both → List (Answer Net)
reads (good b) = read_net b.full_bytes ∷ read_net b.lean_bytes ∷ []
reads (refused why) = []

abbrev pub nets : Answer Both → List (Answer Net)
nets (good b) = good b.full ∷ good b.lean ∷ []
nets (refused why) = []

-- the bytes with nodes, without their nodes: the plain bytes
abbrev pub dropped : Answer Both → List (List ℕ)
dropped (good b) = drop_nodes b.full_nodes ∷ drop_nodes b.lean_nodes ∷ []
dropped (refused why) = []

abbrev pub plains : Answer Both → List (List ℕ)
plains (good b) = b.full_bytes ∷ b.lean_bytes ∷ []
plains (refused why) = []

-- a row, as the definitions answer and as the documents have it; its text is no broken one
abbrev pub answers : Row → Bool × Answer Both × Lacking × List (Answer Net) × List (List ℕ) × List Text
answers r = (all_bytes r.sheet, netlists_of r.sheet, lacking r.sheet r.result, reads r.result, dropped r.result, map (λ _. listing r.sheet) r.texts)

abbrev pub expected : Row → Bool × Answer Both × Lacking × List (Answer Net) × List (List ℕ) × List Text
expected r = (true, r.result, lacks r.result, nets r.result, plains r.result, r.texts)
