-- What is made of a text can be written: each number of its term is a byte, and there are no more than 2,048 nodes. Assumes nothing.
use Prim.Native.Nat.{ℕ, suc, ◌+◌, ◌*◌, ◌≤◌, ◌<◌, max}
use mathlib.Core.Path.{◌≡◌, refl}
use mathlib.Core.List.{List}
use native.Mathlib.Omega.{arith}
use lib.ListN.{length}
use Rattle.calculus.specs.Answer.{good}
use Rattle.calculus.specs.Terms.{Edition, Term, var, lvar, fun, app, lfun, lapp, pair, proj, fix, con, name}
use Rattle.calculus.specs.Write.{term_bytes}
use Rattle.calculus.specs.Record.{All}
use Rattle.sheet_theorems.specs.Laid.{depth}
use Rattle.notation_calculus.specs.Make.{Placed, make, bytes_of}
use Rattle.notation_theorems.specs.Scoped.{Scoped}
use Rattle.notation_theorems.specs.Counted.{Spelt}
use Rattle.notation_theorems.specs.Worded.{IsPart}
use Rattle.notation_theorems.proofs.Counting.{all_both}
use Rattle.notation_theorems.proofs.NodesMean.{LowTerm}
use Rattle.notation_theorems.proofs.TermsMean.{make-types}
use Rattle.notation_theorems.proofs.Closed.{made-closed}
use Rattle.notation_theorems.proofs.Reading.{of_bytes, make-reads, places_of}
use Rattle.notation_theorems.proofs.Wording.{make-parts}
use Rattle.sheet_theorems.proofs.SheetRead.{TermLimits, read-written}
use Rattle.made_types.specs.Held.{HoldsTypes}
use Rattle.made_nodes.specs.Nodes.{TermIn}
use Rattle.sheet_writer.specs.Wrote.{SheetStands}

abbrev Byte : ℕ → Type 0
Byte b = b < 256

deeper : (a b : ℕ) → (a ≤ max a b) × (b ≤ max a b)
deeper a b = (omega arith, omega arith)

-- a variable counts the binders around it, and a level has at most two
low-bytes : (j n : ℕ) (E : Edition) (e : Term) → j + 2 * depth e ≤ 256 → n ≤ 256 → Scoped j e → LowTerm n e → Spelt IsPart E e → All Byte (term_bytes e)
low-bytes j n E (var i) d m s l p = (omega arith, (omega (arith, s), tt))
low-bytes j n E (lvar i) d m s l p = (omega arith, (omega (arith, s), tt))
low-bytes j n E (fun t e) d m s l p = (omega arith, (omega (arith, l.0), low-bytes (suc j) n E e (omega arith) m s l.1 p))
low-bytes j n E (app f a) d m s l p =
    let x = deeper (depth f) (depth a) in
    (omega arith, all_both Byte (term_bytes f) (term_bytes a) (low-bytes j n E f (omega (arith, x.0)) m s.0 l.0 p.0) (low-bytes j n E a (omega (arith, x.1)) m s.1 l.1 p.1))
low-bytes j n E (lfun t e) d m s l p = (omega arith, (omega (arith, l.0), low-bytes (suc j) n E e (omega arith) m s l.1 p))
low-bytes j n E (lapp f a) d m s l p =
    let x = deeper (depth f) (depth a) in
    (omega arith, all_both Byte (term_bytes f) (term_bytes a) (low-bytes j n E f (omega (arith, x.0)) m s.0 l.0 p.0) (low-bytes j n E a (omega (arith, x.1)) m s.1 l.1 p.1))
low-bytes j n E (pair t a b) d m s l p =
    let x = deeper (depth a) (depth b) in
    (omega arith, (omega (arith, l.0), all_both Byte (term_bytes a) (term_bytes b) (low-bytes j n E a (omega (arith, x.0)) m s.0 l.1 p.0) (low-bytes j n E b (omega (arith, x.1)) m s.1 l.2 p.1)))
low-bytes j n E (proj a e) d m s l p =
    let x = deeper (depth a) (depth e) in
    (omega arith, all_both Byte (term_bytes a) (term_bytes e) (low-bytes j n E a (omega (arith, x.0)) m s.0 l.0 p.0) (low-bytes (suc (suc j)) n E e (omega (arith, x.1)) m s.1 l.1 p.1))
low-bytes j n E (fix t e) d m s l p = (omega arith, (omega (arith, l.0), low-bytes (suc j) n E e (omega arith) m s l.1 p))
low-bytes j n E (con q t) d m s l p = (omega arith, (omega (arith, p), (omega (arith, l), tt)))
low-bytes j n E (name a e) d m s l p =
    let x = deeper (depth a) (depth e) in
    (omega arith, all_both Byte (term_bytes a) (term_bytes e) (low-bytes j n E a (omega (arith, x.0)) m s.0 l.0 p.1) (low-bytes (suc j) n E e (omega (arith, x.1)) m s.1 l.1 p.2))

limits_of : (text : List ℕ) (p : Placed) → make text ≡ good p → TermLimits p.sheet.edition p.sheet.table p.sheet.term
limits_of text p e = ((read-written (bytes_of p.sheet) p.sheet).0 (make-reads text p e)).1

-- the numbers of the term of a text are bytes
pub made_bytes : (text : List ℕ) (p : Placed) → make text ≡ good p → All Byte (term_bytes p.sheet.term)
made_bytes text p e =
    let l = limits_of text p e in
    let d = l.deep in
    let few = l.table.few in
    of_bytes (λ (q : Placed). q ≡ p → All Byte (term_bytes q.sheet.term)) text p e
    (λ X says f z. low-bytes 0 (length p.sheet.table) p.sheet.edition p.sheet.term (omega arith) few (made-closed X p f) (make-types X p f) (make-parts text p e))
    refl

-- where the memory holds what is made of a text, the sheet can be written
pub made-stands : (text : List ℕ) (p : Placed) → make text ≡ good p → (w : List ℕ) (root : ℕ) → HoldsTypes w p.sheet.table → TermIn w root p.sheet.term p.places → root < 2048 → SheetStands w root
made-stands text p e w root H t h =
    let l = limits_of text p e in
    let few = l.few in
    record {
      table = p.sheet.table;
      types = H;
      term = record { size = H.room; low = h; term = p.sheet.term; places = p.places; stands = t; few = omega (arith, places_of text p e) };
      bytes = made_bytes text p e;
    }
