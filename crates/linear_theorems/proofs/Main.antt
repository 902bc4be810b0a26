-- Linear functions are only a way of writing (document 02, L13). Assumes nothing.
use Prim.Native.Nat.{ℕ, ◌+◌, ◌*◌, ◌≤◌}
use mathlib.Core.Path.{◌≡◌, sym, ap, subst, ◌∙◌}
use mathlib.Core.Logic.{◌↔◌}
use mathlib.Core.List.{List, []}
use native.Mathlib.Omega.{arith}
use lib.ListN.{length, length-append}
use Rattle.calculus.specs.Answer.{good}
use Rattle.calculus.proofs.Answers.{good-inj}
use Rattle.calculus.specs.Types.{Ty, size, Table, tree}
use Rattle.calculus.specs.Terms.{first, Term, nodes}
use Rattle.calculus.specs.Read.{Sheet, read_sheet}
use Rattle.calculus.specs.Write.{table_bytes, term_bytes, record_bytes, sheet_bytes}
use Rattle.sheet_theorems.specs.Laid.{Ranged, depth}
use Rattle.calculus.specs.Rules.{Typed}
use Rattle.calculus.specs.Net.{Net, left_of, make, net_of}
use Rattle.calculus.specs.Lean.{lean}
use Rattle.calculus.specs.Record.{Bits, Law}
use Rattle.calculus.specs.Translate.{full}
use Rattle.sheet_theorems.proofs.SheetRead.{TermLimits as Within, read-written}
use Rattle.circuit_theorems.proofs.Bounds.{next_is}
use Rattle.circuit_theorems.proofs.Main.{accepts, accepted_by, formed}
use Rattle.linear_theorems.specs.Marked.{Marked, plain, marks, Seen, ByMarks}
use Rattle.linear_theorems.specs.Harmless.{Rewritten, Readable, Harmless, Limits}
use Rattle.linear_theorems.proofs.PutTyped.{put_in_typed}
use Rattle.linear_theorems.proofs.PutRanged.{put_in_ranged}
use Rattle.linear_theorems.proofs.Shown.{same-shown, lean-shown}
use Rattle.linear_theorems.proofs.Weights.{applied_type, fewer_nodes, fewer_bytes, fewer_terminals, same_marks}
use Rattle.linear_theorems.proofs.Marks.{marked-once}
use Rattle.linear_theorems.proofs.Bytes.{accepted-bytes}
use Rattle.linear_theorems.proofs.Depths.{put_in_deep}
use Rattle.linear_theorems.proofs.OneSheet.{read-deep}

-- what is known of an accepted sheet, its term by its marked form
pub record Start (Θ : Table) (e : Marked) (m : Net) : Type 0 where
  pub type : Ty
  pub typed : Typed first Θ [] (plain e) type
  pub few : (make Θ (plain e) [] 0).next ≤ 8192
  pub net_is : net_of (make Θ (plain e) [] 0) ≡ m

start : {s s' : List ℕ} (r : Rewritten s s') (m : Net) → full s ≡ good m → Start r.table r.before m
start {s} r m a =
    let p = accepts s m a in
    let σ : p.sheet ≡ record { edition = first; table = r.table; term = plain r.before } = good-inj (sym p.reads ∙ r.reads) in
    from p.sheet (tree p.sheet.table p.type) σ p.typed p.few p.is
  where
    from : (σ : Sheet) (τ : Ty) → σ ≡ record { edition = first; table = r.table; term = plain r.before } → Typed σ.edition σ.table [] σ.term τ → (make σ.table σ.term [] 0).next ≤ 8192
        → net_of (make σ.table σ.term [] 0) ≡ m → Start r.table r.before m
    from σ τ e d f i = record {
      type = τ;
      typed = subst (λ (σ : Sheet). Typed σ.edition σ.table [] σ.term τ) e d;
      few = subst (λ (σ : Sheet). (make σ.table σ.term [] 0).next ≤ 8192) e f;
      net_is = subst (λ (σ : Sheet). net_of (make σ.table σ.term [] 0) ≡ m) e i;
    }

sheet-length : (Θ : Table) (e : Term) → length (sheet_bytes first Θ e) ≡ length (table_bytes Θ) + length (term_bytes e)
unfolding sheet_bytes record_bytes
sheet-length Θ e = length-append (table_bytes Θ) (term_bytes e)

module _ {s s' : List ℕ} (r : Rewritten s s') (m : Net) (a : full s ≡ good m) where
  abbrev Θ : Table
  Θ = r.table

  before-within : (s ≡ sheet_bytes first Θ (plain r.before)) × Within first Θ (plain r.before)
  before-within = (read-written s (record { edition = first; table = Θ; term = plain r.before })).0 r.reads

  -- ---- the limits

  after-few : nodes (plain r.after) ≤ 2048
  after-few = omega (arith, fewer_nodes r.puts (start r m a).typed, before-within.1.few)

  after-ranged : Ranged first Θ (plain r.after)
  after-ranged = put_in_ranged Θ r.puts before-within.1.ranged

  pub after_read : depth (plain r.after) ≤ 64 → read_sheet s' ≡ good (record { edition = first; table = Θ; term = plain r.after })
  after_read h = (read-written s' (record { edition = first; table = Θ; term = plain r.after })).1 (r.writes, record { table = before-within.1.table; ranged = after-ranged; deep = h; few = after-few })

  terminals-lost : (make Θ (plain r.before) [] 0).next ≡ (make Θ (plain r.after) [] 0).next + 2 * size (left_of (tree Θ (applied_type r.puts)))
  terminals-lost = omega (arith, fewer_terminals r.puts (start r m a).typed, next_is Θ (plain r.before) [] 0, next_is Θ (plain r.after) [] 0)

  -- the term is smaller; only its depth can grow, and that is the one limit that can break
  pub limits : Limits r
  limits = record {
    fewer_nodes = fewer_nodes r.puts (start r m a).typed;
    fewer_bytes = omega (arith, fewer_bytes r.puts (start r m a).typed, ap length before-within.0, ap length r.writes, sheet-length Θ (plain r.before), sheet-length Θ (plain r.after));
    fewer_terminals = (applied_type r.puts, terminals-lost);
    deeper = put_in_deep r.puts;
    readable = (
      (λ x. read-deep s' x.0 first Θ (plain r.after) before-within.1.table after-ranged after-few r.writes x.1),
      (λ h. (record { edition = first; table = Θ; term = plain r.after }, after_read h)),
    );
  }

  -- ---- the records

  abbrev net' : Net
  net' = net_of (make Θ (plain r.after) [] 0)

  after-accepted : depth (plain r.after) ≤ 64 → full s' ≡ good net'
  after-accepted h =
      let p = start r m a in
      accepted_by s' (record { edition = first; table = Θ; term = plain r.after }) p.type (after_read h) (put_in_typed r.puts p.typed) (omega (arith, terminals-lost, p.few))

  same-records : (law : Law) (n : ℕ) (γ : Bits) (ρ : Seen) → ByMarks law m (marks r.before) n γ ρ ↔ ByMarks law net' (marks r.after) n γ ρ
  same-records law n γ ρ =
      let p = start r m a in
      subst (λ (x : Net). ByMarks law x (marks r.before) n γ ρ ↔ ByMarks law net' (marks r.after) n γ ρ) p.net_is (same-shown law Θ n γ ρ r.puts p.typed)

  same-lean-records : full s' ≡ good net' → (law : Law) (n : ℕ) (γ : Bits) (ρ : Seen) → ByMarks law (lean m) (marks r.before) n γ ρ ↔ ByMarks law (lean net') (marks r.after) n γ ρ
  same-lean-records b law n γ ρ =
      let p = lean-shown law m (formed s m a).net (marks r.before) n γ ρ in
      let q = lean-shown law net' (formed s' net' b).net (marks r.after) n γ ρ in
      let h = same-records law n γ ρ in
      ((λ x. q.0 (h.0 (p.1 x))), (λ x. p.0 (h.1 (q.1 x))))

  harmless-at : depth (plain r.after) ≤ 64 → Harmless r m
  harmless-at h = record {
    net = net';
    accepted = after-accepted h;
    bytes = accepted-bytes s' net' (after-accepted h);
    constants = λ k. (marked-once k r.before 0 r.marked, same_marks r.puts (start r m a).typed k);
    records = same-records;
    lean_records = same-lean-records (after-accepted h);
  }

  -- putting the argument in is harmless, if the sheet with the argument put in is within the limits
  pub harmless : Readable s' → Harmless r m
  harmless x = harmless-at (limits.readable.0 x)

  -- .. as it is where the sheet is at most 34 deep
  pub harmless_34 : depth (plain r.before) ≤ 34 → Harmless r m
  harmless_34 h = harmless-at (omega (arith, limits.deeper))
