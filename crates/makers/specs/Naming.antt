-- What a term's records say of the elements that its nodes make, and what naming them asks for. Assumes nothing.
use Rattle.std.specs.Prelude.{ℕ, ◌≤◌, ◌<◌, ◌≡◌, cond, List, length, get_or, eqb}
use Rattle.calculus.specs.Types.{size, Table, rec_at, tree}
use Rattle.calculus.specs.Terms.{Edition, Term, nodes}
use Rattle.calculus.specs.Makers.{makers}
use Rattle.sheet_theorems.specs.Laid.{TableOk, Stands, Ranged}
use Rattle.records.specs.Forms.{rec_in}
use Rattle.records.specs.Rules.{is_constant}
use Rattle.records.specs.TypeNumbers.{bound_in}
use Rattle.records.specs.declared.Node.{Node}
use Rattle.memory.specs.Map.{memory_size}

-- how many elements one record makes: a constant its part, a function or a fixed point a point for each single bit of the bound type
unfoldable pub elements_made : List ℕ → List ℕ → Node → ℕ
elements_made s sizes node = cond (is_constant node.rule) 1 (cond (eqb node.subterms 1) (get_or sizes (bound_in s node) 0) 0)

-- a term of so many nodes stands in the records of a sheet, whose table of types and their sizes are at hand; it makes at most 5,120
-- elements, and there is room for their makers
pub record Nameable (s sizes w : List ℕ) (from count : ℕ) : Type 0 where
  pub edition : Edition
  pub table : Table
  pub ok : TableOk table
  pub records : (t : ℕ) → t < length table → rec_in s t ≡ rec_at table t
  pub sized : (t : ℕ) → t < length table → get_or sizes t 0 ≡ size (tree table t)
  pub all : length sizes ≡ 256
  pub term : Term
  pub stands : Stands s from term
  pub ranged : Ranged edition table term
  pub nodes_are : count ≡ nodes term
  pub few : count ≤ 2048
  pub elements : length (makers table term 0) ≤ 5120
  pub memory : memory_size ≤ length w
