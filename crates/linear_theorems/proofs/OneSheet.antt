-- The bytes of a sheet determine its table and its term, also where the term is too deep to be read. Assumes nothing.
use Prim.Native.Nat.{ℕ, ◌+◌, ◌≤◌, max}
use mathlib.Core.Path.{◌≡◌, sym, ap, subst, ◌∙◌}
use mathlib.Core.List.{List, [], append-nil}
use native.Mathlib.Omega.{arith}
use native.Mathlib.Nat.{le-max_left, le-max_right}
use lib.ListN.{length, length-append}
use lib.Seq.{drop-append_seam}
use Rattle.calculus.specs.Answer.{good}
use Rattle.calculus.proofs.Answers.{good-inj}
use Rattle.calculus.specs.Types.{Table}
use Rattle.calculus.specs.Terms.{Edition, Term, nodes}
use Rattle.calculus.specs.Read.{Got, got, read_types, read_term, Sheet, edition_of, records_of, read_sheet}
use Rattle.calculus.specs.Write.{table_bytes, term_bytes, record_bytes, sheet_bytes}
use Rattle.sheet_theorems.specs.Laid.{TableOk, Stands, depth, Ranged}
use Rattle.sheet_theorems.proofs.Standing.{kind_in, stands-node}
use Rattle.sheet_theorems.proofs.TableRead.{types-read}
use Rattle.sheet_theorems.proofs.SheetRead.{term_read, edition_written, records-written, read-written}

-- what the reader's two stages find in the records of a table and a term, with so many levels of depth
pub record FoundBoth (E : Edition) (s : List ℕ) (Θ : Table) (e : Term) (more : ℕ) : Type 0 where
  pub types : read_types 256 s [] 0 ≡ good (Θ, length (table_bytes Θ))
  pub term : read_term E more s (length Θ) (length (table_bytes Θ)) 0 ≡ got e (length s) (nodes e)

found : (E : Edition) (s : List ℕ) (Θ : Table) (e : Term) (more : ℕ) → TableOk Θ → Ranged E Θ e → nodes e ≤ 2048 → depth e ≤ more → s ≡ record_bytes Θ e → FoundBoth E s Θ e more
unfolding record_bytes
found E s Θ e more ok ranged few deep b =
    let at = length (table_bytes Θ) in
    let st : Stands s at e = record { rest = []; here = rw (b, append-nil (term_bytes e)) (drop-append_seam (table_bytes Θ) (term_bytes e)) } in
    let end : length s ≡ at + length (term_bytes e) = ap length b ∙ length-append (table_bytes Θ) (term_bytes e) in
    record {
      types = types-read s Θ [] (term_bytes e) 256 0 at (kind_in e) ok ok.few b (omega arith) (stands-node st);
      term = term_read E Θ s more e at 0 (length s) (nodes e) st ranged deep (omega arith) end (omega arith);
    }

same-found : (E : Edition) (s : List ℕ) (Θ Φ : Table) (e f : Term) (more : ℕ) → FoundBoth E s Θ e more → FoundBoth E s Φ f more → e ≡ f
same-found E s Θ Φ e f more p q =
    let t : ◌≡◌ {A = Table × ℕ} (Θ, length (table_bytes Θ)) (Φ, length (table_bytes Φ)) = good-inj (sym p.types ∙ q.types) in
    let r : read_term E more s (length Θ) (length (table_bytes Θ)) 0 ≡ read_term E more s (length Φ) (length (table_bytes Φ)) 0 = ap (λ (x : Table × ℕ). read_term E more s (length x.0) x.1 0) t in
    ap (λ (g : Got). g.term) (good-inj (sym p.term ∙ r ∙ q.term))

-- bytes that can be read are not those of a term that is too deep
pub read-deep : (s : List ℕ) (σ : Sheet) (E : Edition) (Θ : Table) (e : Term) → TableOk Θ → Ranged E Θ e → nodes e ≤ 2048 → s ≡ sheet_bytes E Θ e → read_sheet s ≡ good σ → depth e ≤ 64
read-deep s σ E Θ e ok ranged few b h =
    let w = (read-written s σ).0 h in
    let k = w.1 in
    let more = max (depth e) (depth σ.term) in
    let edition : σ.edition ≡ E = sym (edition_written σ.edition σ.table σ.term) ∙ sym (ap edition_of w.0) ∙ ap edition_of b ∙ edition_written E Θ e in
    let p = found E (records_of s) Θ e more ok ranged few (le-max_left (depth e) (depth σ.term)) (ap records_of b ∙ records-written E Θ e) in
    let q =
    found E (records_of s) σ.table σ.term more k.table (subst (λ (F : Edition). Ranged F σ.table σ.term) edition k.ranged) k.few (le-max_right (depth e) (depth σ.term))
    (ap records_of w.0 ∙ records-written σ.edition σ.table σ.term) in
    rw (same-found E (records_of s) Θ σ.table e σ.term more p q) k.deep
