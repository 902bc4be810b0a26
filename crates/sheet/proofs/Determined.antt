-- Two results that the contract of a public function allows are equal. Assumes nothing.
use Prim.Native.Nat.{ℕ}
use mathlib.Core.Path.{◌≡◌, sym, ap, ap₂, ◌∙◌}
use mathlib.Core.List.{List}
use Rattle.std.specs.declared.result.Result.{Result}
use Rattle.std.specs.declared.result.Result.TheVariants.{Ok, Err}
use Rattle.answers.specs.declared.Refusal.{Refusal as Why}
use Rattle.answers.proofs.Reasons.{same_why}
use Rattle.calculus.proofs.Answers.{refused≢good, good-inj, refused-inj}
use Rattle.calculus.specs.Stretch.{Stretch}
use Rattle.sheet.specs.Place.{PartOf}
use Rattle.sheet.specs.Sheets.{ReadSaid, said_reading}
use Rattle.sheet.specs.declared.Reading.{Reading}
use contract.Lifetimes.{Lfts}
use denote.Triple.Clauses.{AtExit}
use borrow.Fn.Kinds.{Dens, res_t, ended_of}
use Rattle.laws.proofs.OneResult.{Result as OneResult}
use Rattle.sheet.proofs.read.Kinds as read
use Rattle.sheet.proofs.read.Reads as read-reads
use Rattle.sheet.proofs.stretch_bounds.Kinds as stretch-bounds
use Rattle.sheet.proofs.stretch_bounds.Reads as stretch-bounds-reads
use Rattle.sheet.proofs.stretch.Kinds as stretch
use Rattle.sheet.proofs.stretch.Reads as stretch-reads
use Rattle.sheet.proofs.is_second.Kinds as is-second
use Rattle.sheet.proofs.is_second.Reads as is-second-reads
use Rattle.sheet.proofs.records_of.Kinds as records-of
use Rattle.sheet.proofs.records_of.Reads as records-of-reads

reading : ℕ → ℕ → ℕ → List ℕ → Reading
reading types n start sizes = record { types = types; nodes = n; start = start; sizes = sizes }

same-reading : (r q : Result Reading Why) → said_reading r ≡ said_reading q → r ≡ q
unfolding reading
same-reading (Ok r) (Ok q) e =
    let f = good-inj e in
    let a : r.types ≡ q.types = ap (λ (c : ReadSaid). c.types) f in
    let b : r.nodes ≡ q.nodes = ap (λ (c : ReadSaid). c.nodes) f in
    let c : r.start ≡ q.start = ap (λ (c : ReadSaid). c.start) f in
    let d : r.sizes ≡ q.sizes = ap (λ (c : ReadSaid). c.sizes) f in
    ap {B = Result Reading Why} (λ (x : ℕ). Ok (reading x r.nodes r.start r.sizes)) a ∙ ap {B = Result Reading Why} (λ (x : ℕ). Ok (reading q.types x r.start r.sizes)) b
    ∙ ap {B = Result Reading Why} (λ (x : ℕ). Ok (reading q.types q.nodes x r.sizes)) c ∙ ap {B = Result Reading Why} (λ (x : List ℕ). Ok (reading q.types q.nodes q.start x)) d
same-reading (Ok r) (Err why) e = absurd (refused≢good (sym e))
same-reading (Err why) (Ok q) e = absurd (refused≢good e)
same-reading (Err why) (Err that) e = ap {B = Result Reading Why} (λ (x : Why). Err x) (same_why why that (refused-inj e))

pub determined-read : OneResult read.ps read.r read-reads.Post
determined-read κs a x y s t f g = same-reading x y (f ∙ sym g)

pub determined_bounds : OneResult stretch-bounds.ps stretch-bounds.r stretch-bounds-reads.Post
determined_bounds κs a x y s t f g = ap (λ (p : Stretch). record { start = p.start; size = p.size }) (f ∙ sym g)

-- a part that is returned is one part: its bytes, and where it begins
same-part : {lent : ℕ × ℕ} {start : ℕ} {wanted : List ℕ} {p q : ℕ × ℕ} {xs ys : List ℕ} → PartOf lent start wanted p xs → PartOf lent start wanted q ys → (xs ≡ ys) × (p ≡ q)
same-part f g = (f.bytes ∙ sym g.bytes, ap₂ (λ (b o : ℕ). (b, o)) (f.block ∙ sym g.block) (f.offset ∙ sym g.offset))

pub determined-stretch : (κs : Lfts 1) (a : Dens κs stretch.ps) (x y : (res_t stretch.r κs).Denot) (s t : AtExit (ended_of 1 stretch.ps stretch.r) κs)
    → stretch-reads.Post κs a x s → stretch-reads.Post κs a y t → (x.now ≡ y.now) × (x.ref_ptr ≡ y.ref_ptr)
determined-stretch κs a x y s t f g = same-part f g

-- the edition; the records behind the opening, their bytes and where they begin
pub determined-second : OneResult is-second.ps is-second.r is-second-reads.Post
determined-second κs a x y s t f g = f ∙ sym g

pub determined-records : (κs : Lfts 1) (a : Dens κs records-of.ps) (x y : (res_t records-of.r κs).Denot) (s t : AtExit (ended_of 1 records-of.ps records-of.r) κs)
    → records-of-reads.Post κs a x s → records-of-reads.Post κs a y t → (x.now ≡ y.now) × (x.ref_ptr ≡ y.ref_ptr)
determined-records κs a x y s t f g = same-part f g
