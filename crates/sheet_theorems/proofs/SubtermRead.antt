-- The subterms of a term within the limits are within them, so each node of a sheet that is read can be read by itself. Assumes nothing.
use Prim.Native.Nat.{ℕ, zero, suc, ◌+◌, ◌≤◌, ◌<◌, max}
use mathlib.Core.Path.{◌≡◌}
use mathlib.Core.List.{List, [], ◌∷◌, ◌++◌}
use native.Mathlib.Omega.{arith}
use native.Mathlib.Nat.{not-suc-le-zero, le_of_suc-le-suc, le-max_left, le-max_right}
use lib.ListN.{length, get_or}
use Rattle.calculus.specs.Answer.{good}
use Rattle.calculus.specs.Types.{Table}
use Rattle.calculus.specs.Terms.{Edition, Term, var, lvar, fun, app, lfun, lapp, pair, proj, fix, con, name, nodes}
use Rattle.calculus.specs.Read.{Sheet, got, read_term, read_sheet}
use Rattle.sheet_theorems.specs.Laid.{depth, Ranged}
use Rattle.calculus.specs.Stretch.{stretch_of}
use Rattle.sheet_theorems.specs.Subterms.{subterms}
use Rattle.sheet_theorems.proofs.Laying.{laid}
use Rattle.sheet_theorems.proofs.SheetRead.{term_read}
use Rattle.sheet_theorems.proofs.StretchHolds.{count-subterms, stretch-holds}

pub record SubtermLimits (E : Edition) (Θ : Table) (d m : ℕ) (e : Term) : Type 0 where
  pub ranged : Ranged E Θ e
  pub deep : depth e ≤ d
  pub few : nodes e ≤ m

data Each (E : Edition) (Θ : Table) (d m : ℕ) : List Term → Type 0 where
  each_end : Each E Θ d m []
  each_next : {e : Term} {es : List Term} → SubtermLimits E Θ d m e → Each E Θ d m es → Each E Θ d m (e ∷ es)

each_append : {E : Edition} {Θ : Table} {d m : ℕ} {es fs : List Term} → Each E Θ d m es → Each E Θ d m fs → Each E Θ d m (es ++ fs)
each_append each_end q = q
each_append (each_next h p) q = each_next h (each_append p q)

each_at : {E : Edition} {Θ : Table} {d m : ℕ} {es : List Term} (x : Term) (k : ℕ) → Each E Θ d m es → k < length es → SubtermLimits E Θ d m (get_or es k x)
each_at x k each_end h = absurd (not-suc-le-zero h)
each_at x zero (each_next l p) h = l
each_at x (suc k) (each_next l p) h = each_at x k p (le_of_suc-le-suc h)

module _ (E : Edition) (Θ : Table) (d m : ℕ) where
  inner : (e : Term) → Ranged E Θ e → suc (depth e) ≤ d → suc (nodes e) ≤ m → SubtermLimits E Θ d m e
  inner e r h n = record { ranged = r; deep = omega arith; few = omega arith }

  first : (a b : Term) → Ranged E Θ a → suc (max (depth a) (depth b)) ≤ d → suc (nodes a + nodes b) ≤ m → SubtermLimits E Θ d m a
  first a b r h n = record { ranged = r; deep = omega (arith, le-max_left (depth a) (depth b)); few = omega arith }

  second : (a b : Term) → Ranged E Θ b → suc (max (depth a) (depth b)) ≤ d → suc (nodes a + nodes b) ≤ m → SubtermLimits E Θ d m b
  second a b r h n = record { ranged = r; deep = omega (arith, le-max_right (depth a) (depth b)); few = omega arith }

  each : (e : Term) → SubtermLimits E Θ d m e → Each E Θ d m (subterms e)
  each (var i) l = each_next l each_end
  each (lvar i) l = each_next l each_end
  each (fun t e) l = each_next l (each e (inner e l.ranged.1 l.deep l.few))
  each (app f a) l = each_next l (each_append (each f (first f a l.ranged.0 l.deep l.few)) (each a (second f a l.ranged.1 l.deep l.few)))
  each (lfun t e) l = each_next l (each e (inner e l.ranged.1 l.deep l.few))
  each (lapp f a) l = each_next l (each_append (each f (first f a l.ranged.0 l.deep l.few)) (each a (second f a l.ranged.1 l.deep l.few)))
  each (pair t a b) l = each_next l (each_append (each a (first a b l.ranged.1 l.deep l.few)) (each b (second a b l.ranged.2 l.deep l.few)))
  each (proj a e) l = each_next l (each_append (each a (first a e l.ranged.0 l.deep l.few)) (each e (second a e l.ranged.1 l.deep l.few)))
  each (fix t e) l = each_next l (each e (inner e l.ranged.1 l.deep l.few))
  each (con p t) l = each_next l each_end
  each (name a e) l = each_next l (each_append (each a (first a e l.ranged.1 l.deep l.few)) (each e (second a e l.ranged.2 l.deep l.few)))

pub subterm_limits : (E : Edition) (Θ : Table) (d m k : ℕ) (e : Term) → SubtermLimits E Θ d m e → k < nodes e → SubtermLimits E Θ d m (get_or (subterms e) k e)
subterm_limits E Θ d m k e l h = each_at e k (each E Θ d m e l) (rw (count-subterms e) h)

-- reading at the start of a node's stretch gives the node's subterm, and ends where the stretch ends
pub stretch-read : (s : List ℕ) (σ : Sheet) (k : ℕ) → read_sheet s ≡ good σ → k < nodes σ.term
    → read_term σ.edition 64 s (length σ.table) (stretch_of s k).start 0
    ≡ got (get_or (subterms σ.term) k σ.term) ((stretch_of s k).start + (stretch_of s k).size) (nodes (get_or (subterms σ.term) k σ.term))
stretch-read s σ k e h =
    let l = laid s σ e in
    let q = (stretch-holds s σ k e h).node in
    let u = get_or (subterms σ.term) k σ.term in
    let b : SubtermLimits σ.edition σ.table 64 2048 u = subterm_limits σ.edition σ.table 64 2048 k σ.term (record { ranged = l.ranged; deep = l.deep; few = l.few }) h in
    term_read σ.edition σ.table s 64 u (stretch_of s k).start 0 _ _ q.stands b.ranged b.deep (omega (arith, b.few)) (omega (arith, q.size)) (omega arith)
