-- P3 with its argument put in, an argument that goes under a binder, and a sheet that gets too deep. Assumes nothing.
use Prim.Native.Nat.{ℕ, zero, suc, ◌+◌}
use mathlib.Core.Path.{◌≡◌, refl}
use mathlib.Core.List.{List, [], ◌∷◌}
use native.Mathlib.Omega.{arith}
use Rattle.calculus.specs.Texts.{hex}
use Rattle.calculus.specs.Answer.{good}
use Rattle.calculus.specs.Types.{Table, rec01, rec03, rec04}
use Rattle.calculus.specs.Terms.{first}
use Rattle.calculus.specs.Read.{read_sheet, read_records, edition_of, records_of, read_types, read_term, head_at}
use Rattle.calculus.specs.Write.{record_bytes, sheet_bytes}
use Rattle.sheet_theorems.specs.Laid.{depth}
use Rattle.calculus.specs.Net.{Net, out, Element, point, part, Wire, make, net_of}
use Rattle.calculus.specs.Translate.{full}
use Rattle.linear_theorems.specs.Marked.{Marked, mvar, mlvar, mfun, mapp, mlfun, mlapp, mcon, plain, marks, ByNode}
use Rattle.linear_theorems.specs.PutIn.{put_here, in_fun}
use Rattle.linear_theorems.specs.Harmless.{Rewritten, Readable, Harmless}
use Rattle.linear_theorems.proofs.Main.{limits, harmless_34}

-- 1, the arrow from 1 to 1, and the linear arrow from that to 1
abbrev types : Table
types = rec01 ∷ rec03 0 0 ∷ rec04 1 0 ∷ []

-- ---- P3

abbrev P3 : List ℕ
P3 = hex "01 03 00 00 04 01 00 16 15 02 14 12 00 1A 00 00 1A 01 01"

-- the register put in for the variable: it is applied to the zero
abbrev P3-put : List ℕ
P3-put = hex "01 03 00 00 04 01 00 14 1A 01 01 1A 00 00"

-- the zero is node 4 of P3 and the register node 5
pub p3 : Rewritten P3 P3-put
unfolding read_sheet read_records edition_of records_of read_types read_term head_at record_bytes sheet_bytes
p3 = record {
  table = types;
  before = mlapp (mlfun 2 (mapp (mlvar 0) (mcon 0 0 4))) (mcon 1 1 5);
  after = mapp (mcon 1 1 5) (mcon 0 0 4);
  reads = refl;
  marked = ((tt, refl), refl);
  puts = put_here;
  writes = refl;
}

abbrev net : List Element → List Wire → ℕ → Net
net es ws o = record { elements = es; wires = ws; pins = out o ∷ [] }

abbrev wire : ℕ → ℕ → Wire
wire o i = record { from = o; to = i }

abbrev p3-net : Net
p3-net = net (point 0 ∷ point 2 ∷ part 0 4 ∷ part 1 5 ∷ []) (wire 4 0 ∷ wire 1 5 ∷ wire 6 2 ∷ []) 3

pub p3-harmless : Harmless p3 p3-net
unfolding full read_sheet read_records edition_of records_of read_types read_term head_at p3
p3-harmless = harmless_34 p3 p3-net refl (omega arith)

-- the register is made first now, and the points are gone
pub p3-put : (full P3-put ≡ good (net (part 1 0 ∷ part 0 2 ∷ []) (wire 2 0 ∷ []) 1)) × (marks p3.before ≡ 4 ∷ 5 ∷ []) × (marks p3.after ≡ 5 ∷ 4 ∷ [])
unfolding full read_sheet read_records edition_of records_of read_types read_term head_at p3
p3-put = (refl, refl, refl)

-- ---- binder numbers

-- λ x. (λ f. λ y. x and (f y)) (and x): in the body x is 2, in the argument 0
abbrev scoped : List ℕ
scoped =
    0x01 ∷ 0x03 ∷ 0x00 ∷ 0x00 ∷ 0x03 ∷ 0x00 ∷ 0x01 ∷ 0x04 ∷ 0x01 ∷ 0x01
    ∷ 0x13 ∷ 0x02 ∷ 0x16 ∷ 0x15 ∷ 0x03 ∷ 0x13 ∷ 0x01 ∷ 0x14 ∷ 0x14 ∷ 0x1A ∷ 0x02 ∷ 0x02 ∷ 0x11 ∷ 0x02 ∷ 0x14 ∷ 0x12 ∷ 0x01 ∷ 0x11 ∷ 0x00
    ∷ 0x14 ∷ 0x1A ∷ 0x02 ∷ 0x02 ∷ 0x11 ∷ 0x00 ∷ []

-- λ x. λ y. x and (and x y): both are 1
abbrev scoped-put : List ℕ
scoped-put =
    0x01 ∷ 0x03 ∷ 0x00 ∷ 0x00 ∷ 0x03 ∷ 0x00 ∷ 0x01 ∷ 0x04 ∷ 0x01 ∷ 0x01
    ∷ 0x13 ∷ 0x02 ∷ 0x13 ∷ 0x01 ∷ 0x14 ∷ 0x14 ∷ 0x1A ∷ 0x02 ∷ 0x02 ∷ 0x11 ∷ 0x01 ∷ 0x14 ∷ 0x14 ∷ 0x1A ∷ 0x02 ∷ 0x02 ∷ 0x11 ∷ 0x01 ∷ 0x11 ∷ 0x00 ∷ []

pub numbers : Rewritten scoped scoped-put
unfolding read_sheet read_records edition_of records_of read_types read_term head_at record_bytes sheet_bytes
numbers = record {
  table = rec01 ∷ rec03 0 0 ∷ rec03 0 1 ∷ rec04 1 1 ∷ [];
  before = mfun 2 (mlapp (mlfun 3 (mfun 1 (mapp (mapp (mcon 2 2 6) (mvar 2)) (mapp (mlvar 1) (mvar 0))))) (mapp (mcon 2 2 12) (mvar 0)));
  after = mfun 2 (mfun 1 (mapp (mapp (mcon 2 2 6) (mvar 1)) (mapp (mapp (mcon 2 2 12) (mvar 1)) (mvar 0))));
  reads = refl;
  marked = (((refl, tt), (tt, tt)), (refl, tt));
  puts = in_fun put_here;
  writes = refl;
}

-- ---- depth

-- k inverters around a term, from node n on
abbrev inverted : ℕ → ℕ → (ℕ → Marked) → Marked
inverted zero n e = e n
inverted (suc k) n e = mapp (mcon 5 1 (n + 1)) (inverted k (n + 1 + 1) e)

inverted-nodes : (k n : ℕ) (e : ℕ → Marked) → ((n : ℕ) → ByNode (e n) n) → ByNode (inverted k n e) n
inverted-nodes zero n e h = h n
inverted-nodes (suc k) n e h = (refl, inverted-nodes k (n + 1 + 1) e h)

-- a body that has its variable 33 deep, and an argument of depth 34
abbrev body : Marked
body = inverted 31 2 (λ n. mapp (mlvar 0) (mcon 0 0 (n + 1 + 1)))

abbrev argument : Marked
argument = mfun 1 (inverted 32 68 (λ n. mvar 0))

abbrev deep-before : Marked
deep-before = mlapp (mlfun 2 body) argument

abbrev deep-after : Marked
deep-after = inverted 31 2 (λ n. mapp argument (mcon 0 0 (n + 1 + 1)))

pub deep : Rewritten (sheet_bytes first types (plain deep-before)) (sheet_bytes first types (plain deep-after))
unfolding read_sheet read_records edition_of records_of read_types read_term head_at record_bytes sheet_bytes
deep = record {
  table = types;
  before = deep-before;
  after = deep-after;
  reads = refl;
  marked = (inverted-nodes 31 2 (λ n. mapp (mlvar 0) (mcon 0 0 (n + 1 + 1))) (λ n. (tt, refl)), inverted-nodes 32 68 (λ n. mvar 0) (λ n. tt));
  puts = put_here;
  writes = refl;
}

-- 35 deep, and accepted
pub deep-accepted : (depth (plain deep-before) ≡ 35) × (full (sheet_bytes first types (plain deep-before)) ≡ good (net_of (make types (plain deep-before) [] 0)))
unfolding full read_sheet read_records edition_of records_of read_types read_term head_at record_bytes sheet_bytes
deep-accepted = (refl, refl)

-- with the argument put in it is 66 deep and can't be read: of `harmless_34` the 34 is the most that can be said
pub deep-breaks : (depth (plain deep-after) ≡ 66) × (Readable (sheet_bytes first types (plain deep-after)) → ⊥)
unfolding deep
deep-breaks = (refl, (λ x. let h = (limits deep (net_of (make types (plain deep-before) [] 0)) deep-accepted.1).readable.0 x in omega arith))
