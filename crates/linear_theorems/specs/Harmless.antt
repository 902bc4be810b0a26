-- Linear functions are only a way of writing (document 02, L13): what is said of a sheet and of the sheet with an argument put in. Both are
-- byte strings, and "accepted" is `full`'s answer. Assumes nothing.
use Rattle.std.specs.Prelude.{ℕ, ◌+◌, ◌*◌, ◌<◌, ◌≤◌, ◌≡◌, ◌↔◌, List, [], length}
use Rattle.calculus.specs.Answer.{good}
use Rattle.calculus.specs.Types.{size, Table, tree}
use Rattle.calculus.specs.Terms.{first, nodes}
use Rattle.calculus.specs.Read.{Sheet, read_sheet}
use Rattle.calculus.specs.Write.{sheet_bytes}
use Rattle.sheet_theorems.specs.Laid.{depth}
use Rattle.calculus.specs.Net.{Net, left_of, make}
use Rattle.calculus.specs.Lean.{lean}
use Rattle.calculus.specs.Record.{Bits, Law, All}
use Rattle.calculus.specs.Translate.{full}
use Rattle.linear_theorems.specs.Marked.{Marked, plain, marks, ByNode, times, Seen, ByMarks}
use Rattle.linear_theorems.specs.PutIn.{PutIn}

-- the sheet s, of the first edition, is read as a term that has a linear function applied to an argument; s' is the sheet with the
-- argument put in, of the same types. Constants are marked by their nodes in s
pub record Rewritten (s s' : List ℕ) : Type 0 where
  pub table : Table
  pub before : Marked
  pub after : Marked
  pub reads : read_sheet s ≡ good (record { edition = first; table = table; term = plain before })
  pub marked : ByNode before 0
  pub puts : PutIn before after
  pub writes : s' ≡ sheet_bytes first table (plain after)

-- s' is within the limits: it can be read. That it makes at most 8,192 terminals need not be asked, since it makes no more than s
abbrev pub Readable : List ℕ → Type 0
Readable s' = (σ : Sheet) × (read_sheet s' ≡ good σ)

-- a number that a byte can hold
abbrev pub Byte : ℕ → Type 0
Byte b = b < 256

-- of an accepted s with the full netlist m, where s' can be read
pub record Harmless {s s' : List ℕ} (r : Rewritten s s') (m : Net) : Type 1 where
  -- s' is a string of bytes and is accepted too
  pub bytes : All Byte s'
  pub net : Net
  pub accepted : full s' ≡ good net
  -- a mark names at most one constant of s, and that is one constant of s'
  pub constants : (k : ℕ) → (times k (marks r.before) ≤ 1) × (times k (marks r.before) ≡ times k (marks r.after))
  -- the possible records on pins and parts are the same, parts matched by the constant that made them, over any law of the parts and for
  -- any number of ticks
  pub records : (law : Law) (n : ℕ) (γ : Bits) (ρ : Seen) → ByMarks law m (marks r.before) n γ ρ ↔ ByMarks law net (marks r.after) n γ ρ
  -- so are those of the lean netlists
  pub lean_records : (law : Law) (n : ℕ) (γ : Bits) (ρ : Seen) → ByMarks law (lean m) (marks r.before) n γ ρ ↔ ByMarks law (lean net) (marks r.after) n γ ρ

-- of an accepted s: the types are the same, the term is smaller, and only its depth can grow
pub record Limits {s s' : List ℕ} (r : Rewritten s s') : Type 0 where
  -- an application, a function and a variable are gone
  pub fewer_nodes : nodes (plain r.before) ≡ nodes (plain r.after) + 3
  pub fewer_bytes : length s ≡ length s' + 5
  -- and the function's points, t its type number
  pub fewer_terminals : (t : ℕ) × ((make r.table (plain r.before) [] 0).next ≡ (make r.table (plain r.after) [] 0).next + 2 * size (left_of (tree r.table t)))
  pub deeper : depth (plain r.after) + 4 ≤ 2 * depth (plain r.before)
  -- so depth is the one limit that can break
  pub readable : Readable s' ↔ (depth (plain r.after) ≤ 64)
