-- The refusals 2 to 9, one sentence of document 01 ("Numbers of the refusals") and document 02 (L7) after the other, with no reader: all
-- records before the place are in order, and the record there breaks a rule, the first one in the order given. Assumes nothing.
use Rattle.std.specs.Prelude.{ℕ, ◌+◌, ◌<◌, ◌≤◌, ◌≡◌, List, [], ◌∷◌, ◌++◌, T, length, replicate}
use Rattle.calculus.specs.Answer.{Refusal, numbered}
use Rattle.calculus.specs.Types.{size, TyRec, Table, rec_at, ty_of, tys_from}
use Rattle.calculus.specs.Terms.{Edition, first, second}
use Rattle.calculus.specs.Read.{TypeKind, NodeKind, k11, k12, k13, k14, k15, k16, k17, k18, k19, k1A, k1B, type, node, kind_of, knows, type_body, node_body, node_typed, byte, type_rec, formed}
use Rattle.sheet_theorems.specs.Laid.{Below}

-- ---- the rules of a record

pub data ReadRule : Type 0 where
  by-due by_kind by-body by_count by-depth by-numbers by_form by-repeat by_size : ReadRule

-- "then records in byte order, each by kind, body, count (8), depth (8), type numbers (5), form (6), repeat (7), size (8), so far as they
-- apply". Before the kind: that there is a record where one is due
abbrev pub rule_order : List ReadRule
rule_order = by-due ∷ by_kind ∷ by-body ∷ by_count ∷ by-depth ∷ by-numbers ∷ by_form ∷ by-repeat ∷ by_size ∷ []

-- the number of the refusal
abbrev pub rule_number : ReadRule → ℕ
rule_number by-due = 3
rule_number by_kind = 4
rule_number by-body = 3
rule_number by_count = 8
rule_number by-depth = 8
rule_number by-numbers = 5
rule_number by_form = 6
rule_number by-repeat = 7
rule_number by_size = 8

-- the first broken rule of a list
pub data FirstBroken (Broken : ReadRule → Type 0) : List ReadRule → ReadRule → Type 0 where
  this_rule : {r : ReadRule} {rs : List ReadRule} → Broken r → FirstBroken Broken (r ∷ rs) r
  later_rule : {q r : ReadRule} {rs : List ReadRule} → ¬ Broken q → FirstBroken Broken rs r → FirstBroken Broken (q ∷ rs) r

-- a record in order breaks none
abbrev pub KeepsRules : (ReadRule → Type 0) → Type 0
KeepsRules Broken = (r : ReadRule) → ¬ Broken r

-- ---- a type record of kind k at an offset, behind the types Θ

abbrev pub type_here : List ℕ → ℕ → TypeKind → TyRec
type_here s at k = type_rec k (byte s (at + 1)) (byte s (at + 2))

pub data TypeBroken (s : List ℕ) (Θ : Table) (at : ℕ) (k : TypeKind) : ReadRule → Type 0 where
  -- 3: "body cut short", at the "offset of that record"
  type_cut : length s < at + 1 + type_body k → TypeBroken s Θ at k by-body
  -- 8: "257th type"
  too_many_types : 256 ≤ length Θ → TypeBroken s Θ at k by_count
  -- 5: "type number that names no earlier type"
  no_earlier_type_lem : ¬ Below (length Θ) (type_here s at k) → TypeBroken s Θ at k by-numbers
  -- 6: "type against the table's left or right rule"
  against_the_table_lem : ¬ T (formed Θ (type_here s at k)) → TypeBroken s Θ at k by_form
  -- 7: "same type record as an earlier one"
  same_as_earlier_lem : {n : ℕ} → n < length Θ → rec_at Θ n ≡ type_here s at k → TypeBroken s Θ at k by-repeat
  -- 8: "type of size over 128"
  too_large : 128 < size (ty_of (tys_from [] Θ) (type_here s at k)) → TypeBroken s Θ at k by_size

-- ---- a node's record at an offset, due at depth d, behind the types Θ and n nodes

pub data NodeBroken (E : Edition) (s : List ℕ) (Θ : Table) (at n d : ℕ) : ReadRule → Type 0 where
  -- 3: "the term unfinished at the end", at "the sheet's length where a record was due"
  unfinished : at ≡ length s → NodeBroken E s Θ at n d by-due
  -- 4: "kind unknown here (01 to 04 inside the term too)"; "1B in them stays refusal 4", them being first_edition sheets; "4 for 31
  -- anywhere but first"
  unknown_kind : ((k : NodeKind) → kind_of (byte s at) ≡ node k → ¬ T (knows E k)) → NodeBroken E s Θ at n d by_kind
  -- 3: "body cut short", at the "offset of that record"
  node_cut : {k : NodeKind} → kind_of (byte s at) ≡ node k → length s < at + 1 + node_body k → NodeBroken E s Θ at n d by-body
  -- 8: "2,049th node"
  too_many_nodes : 2048 ≤ n → NodeBroken E s Θ at n d by_count
  -- 8: "depth 65"
  too_deep : 65 ≤ d → NodeBroken E s Θ at n d by-depth
  -- 5: "type number that names no earlier type"
  no_such_type : {k : NodeKind} → kind_of (byte s at) ≡ node k → ¬ (node_typed k ≡ 0) → length Θ ≤ byte s (at + node_typed k) → NodeBroken E s Θ at n d by-numbers

-- ---- all records before an offset are in order

-- "Type records come first": the bytes before the offset are those of Θ
pub data TypesRead (s : List ℕ) : Table → ℕ → Type 0 where
  no_type_yet : TypesRead s [] 0
  type_read :
      {Θ : Table} {at : ℕ} {k : TypeKind}
      → TypesRead s Θ at
      → kind_of (byte s at) ≡ type k
      → KeepsRules (TypeBroken s Θ at k)
      → TypesRead s (Θ ++ type_here s at k ∷ []) (at + 1 + type_body k)

-- the column "Subterms" of the table of kinds
abbrev pub subterms_of : NodeKind → ℕ
subterms_of k11 = 0
subterms_of k12 = 0
subterms_of k13 = 1
subterms_of k14 = 2
subterms_of k15 = 1
subterms_of k16 = 2
subterms_of k17 = 2
subterms_of k18 = 2
subterms_of k19 = 1
subterms_of k1A = 0
subterms_of k1B = 2

-- then n nodes; the last argument has the depths of the subterms that are still due, the next one first
pub data NodesRead (E : Edition) (s : List ℕ) (Θ : Table) : ℕ → ℕ → List ℕ → Type 0 where
  -- "the first byte that isn't 01 to 04 ends them. Then comes one term"; "The root has depth 1". (At the sheet's end `byte` is 0)
  types_end_lem :
      {at : ℕ}
      → TypesRead s Θ at
      → ((k : TypeKind) → ¬ (kind_of (byte s at) ≡ type k))
      → NodesRead E s Θ at 0 (1 ∷ [])
  -- "in prefix order: a node's record, then its subterms' records"
  node_read :
      {at n d : ℕ} {k : NodeKind} {due : List ℕ}
      → NodesRead E s Θ at n (d ∷ due)
      → kind_of (byte s at) ≡ node k
      → KeepsRules (NodeBroken E s Θ at n d)
      → NodesRead E s Θ (at + 1 + node_body k) (n + 1) (replicate (subterms_of k) (d + 1) ++ due)

-- ---- the refusals: number and offset, in the records of an edition

pub data BadRecord (E : Edition) (s : List ℕ) : ℕ → ℕ → Type 0 where
  bad_type :
      {Θ : Table} {at : ℕ} {k : TypeKind} {rule : ReadRule}
      → TypesRead s Θ at
      → kind_of (byte s at) ≡ type k
      → FirstBroken (TypeBroken s Θ at k) rule_order rule
      → BadRecord E s (rule_number rule) at
  bad_node :
      {Θ : Table} {at n d : ℕ} {due : List ℕ} {rule : ReadRule}
      → NodesRead E s Θ at n (d ∷ due)
      → FirstBroken (NodeBroken E s Θ at n d) rule_order rule
      → BadRecord E s (rule_number rule) at
  -- "then 9": "bytes after the term", at the "offset of the first"
  bytes_after :
      {Θ : Table} {at n : ℕ}
      → NodesRead E s Θ at n []
      → at < length s
      → BadRecord E s 9 at

pub data Unreadable (s : List ℕ) : Refusal → Type 0 where
  -- 2: "sheet over 16,384 bytes", at 0
  too_long :
      16384 < length s
      → Unreadable s (numbered 2 0)
  -- all bytes of a first_edition sheet are records
  in_first :
      {number at : ℕ}
      → length s ≤ 16384
      → ¬ (byte s 0 ≡ 0x31)
      → BadRecord first s number at
      → Unreadable s (numbered number at)
  -- "A second_edition sheet starts with kind 31, no body": its records r stand one byte on
  in_second :
      {number at : ℕ} {r : List ℕ}
      → length s ≤ 16384
      → s ≡ 0x31 ∷ r
      → BadRecord second r number at
      → Unreadable s (numbered number (1 + at))
