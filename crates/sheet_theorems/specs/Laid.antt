-- How a sheet that is read lies in its bytes behind the opening: the table's records, then the term's, within the limits. Assumes nothing.
use Rattle.std.specs.Prelude.{ℕ, suc, ◌+◌, ◌≤◌, ◌<◌, max, ◌≡◌, List, ◌++◌, length, drop, T}
use Rattle.calculus.specs.Types.{Ty, bit, prod, arrow, lolli, size, sharable, is_arrow, TyRec, rec01, rec02, rec03, rec04, Table, rec_at, tree}
use Rattle.calculus.specs.Terms.{Edition, second, Term, var, lvar, fun, app, lfun, lapp, pair, proj, fix, con, name, nodes}
use Rattle.calculus.specs.Read.{Sheet}
use Rattle.calculus.specs.Write.{term_bytes, record_bytes}

-- ---- the table

-- a number's type is what its record says, and keeps the left and right rule
abbrev pub Agrees : Table → TyRec → Ty → Type 0
Agrees Θ rec01 τ = τ ≡ bit
Agrees Θ (rec02 a b) τ = (τ ≡ prod (tree Θ a) (tree Θ b)) × T (sharable (tree Θ a)) × T (sharable (tree Θ b))
Agrees Θ (rec03 a b) τ = (τ ≡ arrow (tree Θ a) (tree Θ b)) × T (sharable (tree Θ a))
Agrees Θ (rec04 a b) τ = (τ ≡ lolli (tree Θ a) (tree Θ b)) × T (is_arrow (tree Θ a))

-- both type numbers of a record are below n
abbrev pub Below : ℕ → TyRec → Type 0
Below n rec01 = Unit {0}
Below n (rec02 a b) = (a < n) × (b < n)
Below n (rec03 a b) = (a < n) × (b < n)
Below n (rec04 a b) = (a < n) × (b < n)

-- a table that the reader accepts: records refer to earlier ones, and no two numbers stand for one type
pub record TableOk (Θ : Table) : Type 0 where
  pub agrees : (n : ℕ) → Agrees Θ (rec_at Θ n) (tree Θ n)
  pub earlier : (n : ℕ) → n < length Θ → Below n (rec_at Θ n)
  pub distinct : (a b : ℕ) → a < length Θ → b < length Θ → tree Θ a ≡ tree Θ b → a ≡ b
  pub few : length Θ ≤ 256
  pub small : (n : ℕ) → size (tree Θ n) ≤ 128

-- ---- the term

-- the term stands at an offset, with `rest` behind it
pub record Stands (s : List ℕ) (at : ℕ) (e : Term) : Type 0 where
  pub rest : List ℕ
  pub here : drop at s ≡ term_bytes e ++ rest

-- the depth of a term: the root has depth 1
abbrev pub depth : Term → ℕ
depth (var i) = 1
depth (lvar i) = 1
depth (fun t e) = suc (depth e)
depth (app f a) = suc (max (depth f) (depth a))
depth (lfun t e) = suc (depth e)
depth (lapp f a) = suc (max (depth f) (depth a))
depth (pair t a b) = suc (max (depth a) (depth b))
depth (proj a e) = suc (max (depth a) (depth e))
depth (fix t e) = suc (depth e)
depth (con p t) = 1
depth (name a e) = suc (max (depth a) (depth e))

-- each written type number names a type, and 1B stands in the second edition alone
abbrev pub Ranged : Edition → Table → Term → Type 0
Ranged E Θ (var i) = Unit {0}
Ranged E Θ (lvar i) = Unit {0}
Ranged E Θ (fun t e) = (t < length Θ) × Ranged E Θ e
Ranged E Θ (app f a) = Ranged E Θ f × Ranged E Θ a
Ranged E Θ (lfun t e) = (t < length Θ) × Ranged E Θ e
Ranged E Θ (lapp f a) = Ranged E Θ f × Ranged E Θ a
Ranged E Θ (pair t a b) = (t < length Θ) × Ranged E Θ a × Ranged E Θ b
Ranged E Θ (proj a e) = Ranged E Θ a × Ranged E Θ e
Ranged E Θ (fix t e) = (t < length Θ) × Ranged E Θ e
Ranged E Θ (con p t) = t < length Θ
Ranged E Θ (name a e) = (E ≡ second) × Ranged E Θ a × Ranged E Θ e

pub record Laid (s : List ℕ) (σ : Sheet) : Type 0 where
  pub bytes : s ≡ record_bytes σ.table σ.term
  pub short : length s ≤ 16384
  pub table : TableOk σ.table
  pub ranged : Ranged σ.edition σ.table σ.term
  pub deep : depth σ.term ≤ 64
  pub few : nodes σ.term ≤ 2048
