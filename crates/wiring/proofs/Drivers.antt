-- The table of drivers that `make_net` leaves says the same as the list of wires, and the bytes that `write_full` writes from it are the
-- definition's, wire order too (document 02, L9). Stated over the two contracts, as the check has them. Assumes nothing.
use Prim.Native.Nat.{ℕ, ◌<◌}
use mathlib.Core.Path.{◌≡◌, refl, sym, ap, ap₂, ◌∙◌}
use mathlib.Core.Bool.{Bool, true}
use mathlib.Core.Logic.{◌↔◌}
use mathlib.Core.List.{List, [], ◌∷◌, map}
use lib.ListN.{length, get_or}
use lib.Seq.{sets}
use contract.Lifetimes.{Lfts}
use denote.Triple.Clauses.{AtExit}
use borrow.Fn.Kinds.{Dens, res_t, ended_of}
use Rattle.calculus.specs.Answer.{good}
use Rattle.calculus.specs.Net.{Net, net_bytes}
use Rattle.calculus.specs.Lean.{driver}
use Rattle.calculus.specs.Makers.{written}
use Rattle.calculus.specs.Translate.{full}
use Rattle.circuit_theorems.proofs.Drive.{table_list_lem, table-wire, table-no_wire}
use Rattle.memory.specs.Map.{targets_at, region, wires_from, net_in}
use Rattle.wiring.specs.declared.Counts.{Counts}
use Rattle.wiring.specs.Store.{target}
use Rattle.wiring.specs.Whole.{NetStands}
use Rattle.wiring.specs.Drivers.{DriversByInput}
use Rattle.wiring.proofs.make_net.Kinds as make-net
use Rattle.wiring.proofs.make_net.Reads as make-net-reads
use Rattle.netlist.proofs.write_full.Kinds as write-full
use Rattle.netlist.proofs.write_full.Reads as write-full-reads

targets-from : (w is : List ℕ) → map target (wires_from w is) ≡ is
targets-from w [] = refl
targets-from w (i ∷ is) = ap (λ (l : List ℕ). i ∷ l) (targets-from w is)

module _ (s : List ℕ) {m : Net} {r : Counts} {w w' : List ℕ} (ok : full s ≡ good m) (S : NetStands m r w w') where
  wires-are : wires_from w' (region w' targets_at r.wires) ≡ m.wires
  unfolding net_in
  wires-are = ap (λ (x : Net). x.wires) S.net

  found : (i : ℕ) → i < 8192 → get_or w' i 0 ≡ driver m.wires i 65535
  found i h = S.ready.table i h ∙ ap (λ (x : Net). driver x.wires i 65535) S.net

  -- an entry says of any number what the table made from the list does
  entry : (i x : ℕ) (P : Type 0) → i < 8192 → (driver m.wires i 65535 ≡ x) ↔ P → (get_or w' i 0 ≡ x) ↔ P
  entry i x P h f = ((λ e. f.0 (sym (found i h) ∙ e)), (λ p. found i h ∙ f.1 p))

  pub by_input : DriversByInput m r w'
  by_input = record {
    found = found;
    wire = λ o i ho hi. entry i o _ hi ((λ e. (table-wire s m ok o i ho hi).0 (table_list_lem s m ok i hi ∙ e)), (λ p. sym (table_list_lem s m ok i hi) ∙ (table-wire s m ok o i ho hi).1 p));
    none = λ i hi. entry i 65535 _ hi ((λ e. (table-no_wire s m ok i hi).0 (table_list_lem s m ok i hi ∙ e)), (λ p. sym (table_list_lem s m ok i hi) ∙ (table-no_wire s m ok i hi).1 p));
    order = sym (targets-from w' (region w' targets_at r.wires)) ∙ ap (map target) wires-are;
    list = wires-are;
  }

-- for each accepted sheet, the working memory that `make_net` leaves
pub drivers-by_input : (κs : Lfts 3) (a : Dens κs make-net.ps) (r : (res_t make-net.r κs).Denot) (after : AtExit (ended_of 3 make-net.ps make-net.r) κs)
    → (q : make-net-reads.Pre κs a) → make-net-reads.Post κs a r after → DriversByInput q.net r after.1.1.0.now
drivers-by_input κs a r after q made = by_input q.read.whole q.is (made q)

-- `write_full` is lent a working memory w and asked for its netlist of so many elements, wires and pins, in plain kinds
pub record AskedFor (λs : Lfts 2) (b : Dens λs write-full.ps) (w : List ℕ) (r : Counts) : Type 0 where
  pub work : b.0.now ≡ w
  pub elements : b.1.1.0 ≡ r.elements
  pub wires : b.1.1.1.0 ≡ r.wires
  pub pins : b.1.1.1.1.0 ≡ r.pins
  pub plain : b.1.1.1.1.1.0 ≡ true

plain-bytes : {w v : List ℕ} {e k p : ℕ} {plain : Bool} (r : Counts) (m : Net) (makers : List ℕ) → v ≡ w → e ≡ r.elements → k ≡ r.wires → p ≡ r.pins → plain ≡ true
    → net_in w r.elements r.wires r.pins ≡ m → written plain (net_in v e k p) makers ≡ net_bytes m
plain-bytes {w} {v} {e} {k} {p} {plain} r m makers ew ee ek ep et is =
    ap (λ (b : Bool). written b (net_in v e k p) makers) et ∙ ap net_bytes (ap₂ (λ (l : List ℕ) (i : ℕ). net_in l i k p) ew ee ∙ ap₂ (net_in w r.elements) ek ep ∙ is)

-- the bytes that `write_full` writes from the working memory that `make_net` leaves
pub table-bytes : (κs : Lfts 3) (a : Dens κs make-net.ps) (r : (res_t make-net.r κs).Denot) (after : AtExit (ended_of 3 make-net.ps make-net.r) κs)
    → (λs : Lfts 2) (b : Dens λs write-full.ps) (n : (res_t write-full.r λs).Denot) (done : AtExit (ended_of 2 write-full.ps write-full.r) λs)
    → (q : make-net-reads.Pre κs a) → make-net-reads.Post κs a r after → AskedFor λs b after.1.1.0.now r → write-full-reads.Post λs b n done
    → (n ≡ length (net_bytes q.net)) × (done.1.0.now ≡ sets b.1.0.now 0 (net_bytes q.net))
table-bytes κs a r after λs b n done q made f wrote =
    let e = plain-bytes r q.net _ f.work f.elements f.wires f.pins f.plain (made q).net in
    (wrote.0 ∙ ap length e, wrote.1 ∙ ap (sets b.1.0.now 0) e)
