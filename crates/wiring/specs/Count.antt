-- Counting terminals before anything is made: node by node, in record order. Assumes nothing.
use Rattle.std.specs.Prelude.{ℕ, ◌+◌, ◌*◌, ◌≤◌, ◌≡◌, cond, List, [], ◌∷◌, ◌++◌, get_or, drop, eqb}
use Rattle.calculus.specs.Types.{Table}
use Rattle.calculus.specs.Terms.{Edition, Term, nodes, part_at}
use Rattle.calculus.specs.Write.{term_bytes}
use Rattle.sheet_theorems.specs.Laid.{Stands, Ranged}
use Rattle.calculus.specs.Record.{All}
use Rattle.circuit_theorems.specs.Terminals.{terminal_count}
use Rattle.records.specs.declared.Node.{Node}
use Rattle.records.specs.Rules.{is_constant}
use Rattle.records.specs.TypeNumbers.{bound_in}
use Rattle.wiring.specs.Sides.{Knows}

-- the terminals that one record makes
unfoldable pub own_in : List ℕ → List ℕ → Node → ℕ
own_in s sizes node =
    cond (is_constant node.rule) ((part_at node.first).inputs + 1) (cond (eqb node.subterms 1) (2 * get_or sizes (bound_in s node) 0) 0)

-- a term that stands in a read sheet, with its number of nodes
pub record Counting (s sizes : List ℕ) (at count : ℕ) : Type 0 where
  pub edition : Edition
  pub table : Table
  pub knows : Knows s sizes table
  pub term : Term
  pub stands : Stands s at term
  pub ranged : Ranged edition table term
  pub nodes_are : count ≡ nodes term
  pub few : count ≤ 2048

-- ---- terms in a row

abbrev pub row_bytes : List Term → List ℕ
row_bytes [] = []
row_bytes (e ∷ es) = term_bytes e ++ row_bytes es

abbrev pub row_nodes : List Term → ℕ
row_nodes [] = 0
row_nodes (e ∷ es) = nodes e + row_nodes es

abbrev pub row_terminals : Table → List Term → ℕ
row_terminals Θ [] = 0
row_terminals Θ (e ∷ es) = terminal_count Θ e + row_terminals Θ es

-- what is left to count: a row of terms stands at the offset
pub record RowLeft (E : Edition) (Θ : Table) (s : List ℕ) (whole : Term) (at left total : ℕ) : Type 0 where
  pub row : List Term
  pub rest : List ℕ
  pub here : drop at s ≡ row_bytes row ++ rest
  pub ranged : All (Ranged E Θ) row
  pub count : left ≡ row_nodes row
  pub sum : total + row_terminals Θ row ≡ terminal_count Θ whole
