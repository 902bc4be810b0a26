-- What the answers on type records, nodes' records and terms say, in the terms of the definitions: one case for each variant. Assumes nothing.
use Rattle.std.specs.Prelude.{ℕ, ◌+◌, Bool, true, false, not, cond, Result, Ok, Err, List, [], ltb, leb, eqb, length}
use Rattle.calculus.specs.Answer.{Answer, good, refused, ◌>>=◌, refuse, need}
use Rattle.calculus.specs.Types.{Table}
use Rattle.calculus.specs.Terms.{Edition}
use Rattle.calculus.specs.Read.{NodeKind, k11, k12, k13, k14, k15, k16, k17, k18, k19, k1A, k1B, node_body, read_types, head_at, Got}
use Rattle.records.specs.Told.{sizes_of}
use Rattle.sheet.specs.Sheets.{ReadSaid, whole_sheet}
use Rattle.answers.specs.declared.Refusal.{Refusal}
use Rattle.answers.specs.Refusals.{said_why}
use Rattle.sheet.specs.declared.types.Types.{Types}
use Rattle.sheet.specs.declared.term.Head.{Head}
use Rattle.sheet.specs.declared.term.Span.{Span}
use Rattle.records.specs.declared.Rule.{Rule}
use Rattle.records.specs.declared.Rule.TheVariants as rule
use Rattle.records.specs.declared.Node.{Node}
use Rattle.records.specs.declared.Record.{Record}
use Rattle.records.specs.Record.{record_at}
use Rattle.records.specs.Editions.{known_rule}

-- ---- the type records

-- their number, the offset past them, and the sizes of the types
pub record TypesSaid : Type 0 where
  pub count : ℕ
  pub end : ℕ
  pub sizes : List ℕ

abbrev pub all_types : ℕ → ℕ → List ℕ → Answer TypesSaid
all_types n at sizes = good (record { count = n; end = at; sizes = sizes })

abbrev pub said_types : Result Types Refusal → Answer TypesSaid
said_types (Ok t) = all_types t.count t.end t.sizes
said_types (Err why) = refused (said_why why)

unfoldable pub types_of : Answer (Table × ℕ) → Answer TypesSaid
types_of (good r) = all_types (length r.0) r.1 (sizes_of r.0)
types_of (refused why) = refused why

-- behind the types a node's record is due
abbrev pub due_of : Result Record Refusal → Table × ℕ → Answer (Table × ℕ)
due_of (Ok r) q = good q
due_of (Err why) q = refused (said_why why)

unfoldable pub types_in : List ℕ → Answer (Table × ℕ)
types_in s = read_types 256 s [] 0 >>= λ q. due_of (record_at true s q.1) q

-- ---- a node's record

-- the number of subterms
abbrev pub node_subs : NodeKind → ℕ
node_subs k11 = 0
node_subs k12 = 0
node_subs k13 = 1
node_subs k14 = 2
node_subs k15 = 1
node_subs k16 = 2
node_subs k17 = 2
node_subs k18 = 2
node_subs k19 = 1
node_subs k1A = 0
node_subs k1B = 2

-- where the next record is due, and the number of subterms
pub record HeadSaid : Type 0 where
  pub next : ℕ
  pub subterms : ℕ

abbrev pub opens_at : ℕ → ℕ → Answer HeadSaid
opens_at next n = good (record { next = next; subterms = n })

abbrev pub said_head : Result Head Refusal → Answer HeadSaid
said_head (Ok h) = opens_at h.next h.subterms
said_head (Err why) = refused (said_why why)

abbrev pub headed : ℕ → Answer NodeKind → Answer HeadSaid
headed at (good k) = opens_at (at + 1 + node_body k) (node_subs k)
headed at (refused why) = refused why

unfoldable pub opens : Edition → ℕ → List ℕ → ℕ → ℕ → ℕ → Answer HeadSaid
opens E more s types at n = headed at (head_at E more s types at n)

-- a type number that the record holds names no type
abbrev pub mistyped : Rule → ℕ → ℕ → ℕ → Bool
mistyped rule.Variable x y types = false
mistyped rule.LinearVariable x y types = false
mistyped rule.Function x y types = leb types x
mistyped rule.Application x y types = false
mistyped rule.LinearFunction x y types = leb types x
mistyped rule.LinearApplication x y types = false
mistyped rule.Pair x y types = leb types x
mistyped rule.Projection x y types = false
mistyped rule.FixedPoint x y types = leb types x
mistyped rule.Constant x y types = leb types y
mistyped rule.Naming x y types = false

-- a whole record: a kind that the edition knows, count, depth, type number
unfoldable pub limits_of_lem : Edition → Node → ℕ → ℕ → ℕ → ℕ → Answer HeadSaid
limits_of_lem E r at n more types = do
  _ ← need (known_rule E r.rule) 4 at
  _ ← need (ltb n 2048) 8 at
  _ ← need (ltb 0 more) 8 at
  _ ← need (not (mistyped r.rule r.first r.second types)) 5 at
  opens_at r.next r.subterms

-- ---- a term

-- where the next record is due, and the number of nodes so far
pub record End : Type 0 where
  pub at : ℕ
  pub count : ℕ

abbrev pub end : ℕ → ℕ → Answer End
end a c = good (record { at = a; count = c })

abbrev pub said_span : Result Span Refusal → Answer End
said_span (Ok s) = end s.next s.nodes
said_span (Err why) = refused (said_why why)

unfoldable pub spanned : Answer Got → Answer End
spanned (good g) = end g.next g.count
spanned (refused why) = refused why

-- ---- the sheet behind its types

-- behind the types: the term's end is the sheet's
unfoldable pub ended_of : Answer End → ℕ → ℕ → ℕ → List ℕ → Answer ReadSaid
ended_of (good e) size types start sizes = cond (eqb e.at size) (whole_sheet types e.count start sizes) (refuse 9 e.at)
ended_of (refused why) size types start sizes = refused why
