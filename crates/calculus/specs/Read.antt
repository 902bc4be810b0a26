-- The reader of sheets (document 01, "The sheet"; refusals 2 to 9, in the order given there), of both editions (document 02, L7). Assumes
-- nothing.
use Rattle.std.specs.Prelude.{ℕ, zero, suc, ◌+◌, Bool, true, false, not, ◌&&◌, ◌||◌, cond, List, [], ◌∷◌, ◌++◌, leb, ltb, eqb, length, get_or, drop}
use Rattle.calculus.specs.Answer.{Answer, good, refused, ◌>>=◌, refuse, need}
use Rattle.calculus.specs.Types.{size, sharable, is_arrow, TyRec, rec01, rec02, rec03, rec04, rec_eq, Table, ty_of, tys_from, tree}
use Rattle.calculus.specs.Terms.{Edition, first, second, is_second, opening, Term, var, lvar, fun, app, lfun, lapp, pair, proj, fix, con, name}

-- ---- kinds

pub data TypeKind : Type 0 where
  k01 k02 k03 k04 : TypeKind

pub data NodeKind : Type 0 where
  k11 k12 k13 k14 k15 k16 k17 k18 k19 k1A k1B : NodeKind

pub data Kind : Type 0 where
  unknown : Kind
  type : TypeKind → Kind
  node : NodeKind → Kind

-- by the kind byte, eight a row; 31 is no kind of a record
abbrev pub kinds : List Kind
kinds =
    unknown ∷ type k01 ∷ type k02 ∷ type k03 ∷ type k04 ∷ unknown ∷ unknown ∷ unknown  -- 00 to 07
    ∷ unknown ∷ unknown ∷ unknown ∷ unknown ∷ unknown ∷ unknown ∷ unknown ∷ unknown  -- 08 to 0F
    ∷ unknown ∷ node k11 ∷ node k12 ∷ node k13 ∷ node k14 ∷ node k15 ∷ node k16 ∷ node k17  -- 10 to 17
    ∷ node k18 ∷ node k19 ∷ node k1A ∷ node k1B  -- 18 to 1B
    ∷ []

abbrev pub kind_of : ℕ → Kind
kind_of b = get_or kinds b unknown

-- the nodes that an edition knows: 1B stands in the second alone
abbrev pub knows : Edition → NodeKind → Bool
knows E k11 = true
knows E k12 = true
knows E k13 = true
knows E k14 = true
knows E k15 = true
knows E k16 = true
knows E k17 = true
knows E k18 = true
knows E k19 = true
knows E k1A = true
knows E k1B = is_second E

abbrev pub type_body : TypeKind → ℕ
type_body k01 = 0
type_body k02 = 2
type_body k03 = 2
type_body k04 = 2

abbrev pub node_body : NodeKind → ℕ
node_body k11 = 1
node_body k12 = 1
node_body k13 = 1
node_body k14 = 0
node_body k15 = 1
node_body k16 = 0
node_body k17 = 1
node_body k18 = 0
node_body k19 = 1
node_body k1A = 2
node_body k1B = 0

abbrev pub byte : List ℕ → ℕ → ℕ
byte s i = get_or s i 0

-- ---- type records

abbrev pub type_rec : TypeKind → ℕ → ℕ → TyRec
type_rec k01 a b = rec01
type_rec k02 a b = rec02 a b
type_rec k03 a b = rec03 a b
type_rec k04 a b = rec04 a b

-- both type numbers name earlier types
abbrev pub known : Table → TyRec → Bool
known Θ rec01 = true
known Θ (rec02 a b) = ltb a (length Θ) && ltb b (length Θ)
known Θ (rec03 a b) = ltb a (length Θ) && ltb b (length Θ)
known Θ (rec04 a b) = ltb a (length Θ) && ltb b (length Θ)

-- the table's left and right rule
abbrev pub formed : Table → TyRec → Bool
formed Θ rec01 = true
formed Θ (rec02 a b) = sharable (tree Θ a) && sharable (tree Θ b)
formed Θ (rec03 a b) = sharable (tree Θ a)
formed Θ (rec04 a b) = is_arrow (tree Θ a)

abbrev pub repeated : Table → TyRec → Bool
repeated [] r = false
repeated (q ∷ Θ) r = rec_eq q r || repeated Θ r

abbrev pub check_type : Table → TyRec → ℕ → Answer (Unit {0})
check_type Θ r at = do
  _ ← need (known Θ r) 5 at
  _ ← need (formed Θ r) 6 at
  _ ← need (not (repeated Θ r)) 7 at
  need (leb (size (ty_of (tys_from [] Θ) r)) 128) 8 at

-- the record of kind k at an offset: body, count; `more` is how many types there may still be, then the rest
abbrev pub type_at : Kind → ℕ → List ℕ → Table → ℕ → (Table → ℕ → Answer (Table × ℕ)) → Answer (Table × ℕ)
type_at unknown more s Θ at go = good (Θ, at)
type_at (node k) more s Θ at go = good (Θ, at)
type_at (type k) more s Θ at go = do
  _ ← need (leb (at + 1 + type_body k) (length s)) 3 at
  _ ← need (ltb 0 more) 8 at
  _ ← check_type Θ (type_rec k (byte s (at + 1)) (byte s (at + 2))) at
  go (Θ ++ type_rec k (byte s (at + 1)) (byte s (at + 2)) ∷ []) (at + 1 + type_body k)

-- the first byte that isn't 01 to 04 ends them. With none left `type_at` refuses a type record itself (8), and the last argument is never
-- reached
unfoldable pub read_types : ℕ → List ℕ → Table → ℕ → Answer (Table × ℕ)
read_types zero s Θ at = type_at (kind_of (byte s at)) zero s Θ at (λ Φ next. refuse 8 at)
read_types (suc more) s Θ at = type_at (kind_of (byte s at)) (suc more) s Θ at (λ Φ next. read_types more s Φ next)

-- ---- the term

-- a term, the offset behind it, and the number of nodes so far
pub record Got : Type 0 where
  pub term : Term
  pub next : ℕ
  pub count : ℕ

abbrev pub got : Term → ℕ → ℕ → Answer Got
got e next count = good (record { term = e; next = next; count = count })

-- where in the body of a node a type number stands; 0 where there is none
abbrev pub node_typed : NodeKind → ℕ
node_typed k11 = 0
node_typed k12 = 0
node_typed k13 = 1
node_typed k14 = 0
node_typed k15 = 1
node_typed k16 = 0
node_typed k17 = 1
node_typed k18 = 0
node_typed k19 = 1
node_typed k1A = 2
node_typed k1B = 0

abbrev pub node_kind : Kind → ℕ → Answer NodeKind
node_kind unknown at = refuse 4 at
node_kind (type k) at = refuse 4 at
node_kind (node k) at = good k

-- the node's record at an offset: record due, kind, body, count, depth, type number; `more` is how many levels of depth there may still be
unfoldable pub head_at : Edition → ℕ → List ℕ → ℕ → ℕ → ℕ → Answer NodeKind
head_at E more s types at n = do
  _ ← need (ltb at (length s)) 3 at
  k ← node_kind (kind_of (byte s at)) at
  _ ← need (knows E k) 4 at
  _ ← need (leb (at + 1 + node_body k) (length s)) 3 at
  _ ← need (ltb n 2048) 8 at
  _ ← need (ltb 0 more) 8 at
  _ ← need (eqb (node_typed k) 0 || ltb (byte s (at + node_typed k)) types) 5 at
  good k

-- the node of a record with bytes x and y behind the kind; `go` reads a subterm at an offset, with so many nodes before it
abbrev pub node_of_kind : NodeKind → ℕ → ℕ → ℕ → ℕ → (ℕ → ℕ → Answer Got) → Answer Got
node_of_kind k11 x y next n go = got (var x) next n
node_of_kind k12 x y next n go = got (lvar x) next n
node_of_kind k13 x y next n go = do
  e ← go next n
  got (fun x e.term) e.next e.count
node_of_kind k14 x y next n go = do
  f ← go next n
  a ← go f.next f.count
  got (app f.term a.term) a.next a.count
node_of_kind k15 x y next n go = do
  e ← go next n
  got (lfun x e.term) e.next e.count
node_of_kind k16 x y next n go = do
  f ← go next n
  a ← go f.next f.count
  got (lapp f.term a.term) a.next a.count
node_of_kind k17 x y next n go = do
  a ← go next n
  b ← go a.next a.count
  got (pair x a.term b.term) b.next b.count
node_of_kind k18 x y next n go = do
  a ← go next n
  e ← go a.next a.count
  got (proj a.term e.term) e.next e.count
node_of_kind k19 x y next n go = do
  e ← go next n
  got (fix x e.term) e.next e.count
node_of_kind k1A x y next n go = got (con x y) next n
node_of_kind k1B x y next n go = do
  a ← go next n
  e ← go a.next a.count
  got (name a.term e.term) e.next e.count

-- the term at an offset, with n nodes before it. At depth 65 `head_at` refuses by itself (3, 4 or 8), and the last line is never reached
unfoldable pub read_term : Edition → ℕ → List ℕ → ℕ → ℕ → ℕ → Answer Got
read_term E zero s types at n = do
  k ← head_at E zero s types at n
  refuse 8 at
read_term E (suc more) s types at n = do
  k ← head_at E (suc more) s types at n
  node_of_kind k (byte s (at + 1)) (byte s (at + 2)) (at + 1 + node_body k) (n + 1) (λ next count. read_term E more s types next count)

-- ---- the sheet

pub record Sheet : Type 0 where
  pub edition : Edition
  pub table : Table
  pub term : Term

-- the records of a sheet: types, then the term, and nothing behind it
unfoldable pub read_records : Edition → List ℕ → Answer Sheet
read_records E s = do
  types ← read_types 256 s [] 0
  e ← read_term E 64 s (length types.0) types.1 0
  _ ← need (eqb e.next (length s)) 9 e.next
  good (record { edition = E; table = types.0; term = e.term })

-- the first byte tells the edition, and the records stand behind its opening
unfoldable pub edition_of : List ℕ → Edition
edition_of s = cond (eqb (byte s 0) 0x31) second first

unfoldable pub records_of : List ℕ → List ℕ
records_of s = drop (length (opening (edition_of s))) s

-- with n bytes before the records, offsets are n more
abbrev pub offset_by : {A : Type 0} → ℕ → Answer A → Answer A
offset_by n (good a) = good a
offset_by n (refused why) = refused (record { number = why.number; place = n + why.place; wanted = why.wanted; found = why.found })

unfoldable pub read_sheet : List ℕ → Answer Sheet
read_sheet s = do
  _ ← need (leb (length s) 16384) 2 0
  offset_by (length (opening (edition_of s))) (read_records (edition_of s) (records_of s))
