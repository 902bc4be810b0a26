-- The contracts of the public functions determine what they answer: two results that one allows for a call are equal. Assumes nothing.
use Prim.Native.Nat.{ℕ}
use mathlib.Core.Path.{◌≡◌, refl, sym, ap₂, ◌∙◌}
use native.Mathlib.Omega.{arith}
use Rattle.laws.proofs.OneResult.{Result}
use Rattle.records.specs.Forms.{said_form}
use Rattle.records.specs.declared.Form.{Form}
use Rattle.records.specs.declared.Form.TheVariants as form
use Rattle.records.proofs.shape_of.Kinds as shape_of
use Rattle.records.proofs.shape_of.Reads as shape-of-reads
use Rattle.records.proofs.record_at.Kinds as record-at
use Rattle.records.proofs.record_at.Reads as record-at-reads
use Rattle.records.proofs.node_at.Kinds as Node-at
use Rattle.records.proofs.node_at.Reads as node-at-reads
use Rattle.records.proofs.type_at.Kinds as type_at
use Rattle.records.proofs.type_at.Reads as type-at-reads
use Rattle.records.proofs.sides_of.Kinds as sides-of
use Rattle.records.proofs.sides_of.Reads as sides-of-reads
use Rattle.records.proofs.bound_by.Kinds as bound_by
use Rattle.records.proofs.bound_by.Reads as bound-by-reads
use Rattle.records.proofs.wide.Kinds as wide
use Rattle.records.proofs.wide.Reads as wide-reads

-- a form is one record's
one_form : (x y : Form) → said_form x ≡ said_form y → x ≡ y
one_form form.Bit form.Bit e = refl
one_form form.Bit (form.Product c d) e = absurd (let z : ◌≡◌ {A = ℕ} 0 1 = cc in omega arith)
one_form form.Bit (form.Arrow c d) e = absurd (let z : ◌≡◌ {A = ℕ} 0 1 = cc in omega arith)
one_form form.Bit (form.Linear c d) e = absurd (let z : ◌≡◌ {A = ℕ} 0 1 = cc in omega arith)
one_form (form.Product a b) form.Bit e = absurd (let z : ◌≡◌ {A = ℕ} 0 1 = cc in omega arith)
one_form (form.Product a b) (form.Product c d) e = let p : a ≡ c = cc in let q : b ≡ d = cc in ap₂ form.Product p q
one_form (form.Product a b) (form.Arrow c d) e = absurd (let z : ◌≡◌ {A = ℕ} 0 1 = cc in omega arith)
one_form (form.Product a b) (form.Linear c d) e = absurd (let z : ◌≡◌ {A = ℕ} 0 1 = cc in omega arith)
one_form (form.Arrow a b) form.Bit e = absurd (let z : ◌≡◌ {A = ℕ} 0 1 = cc in omega arith)
one_form (form.Arrow a b) (form.Product c d) e = absurd (let z : ◌≡◌ {A = ℕ} 0 1 = cc in omega arith)
one_form (form.Arrow a b) (form.Arrow c d) e = let p : a ≡ c = cc in let q : b ≡ d = cc in ap₂ form.Arrow p q
one_form (form.Arrow a b) (form.Linear c d) e = absurd (let z : ◌≡◌ {A = ℕ} 0 1 = cc in omega arith)
one_form (form.Linear a b) form.Bit e = absurd (let z : ◌≡◌ {A = ℕ} 0 1 = cc in omega arith)
one_form (form.Linear a b) (form.Product c d) e = absurd (let z : ◌≡◌ {A = ℕ} 0 1 = cc in omega arith)
one_form (form.Linear a b) (form.Arrow c d) e = absurd (let z : ◌≡◌ {A = ℕ} 0 1 = cc in omega arith)
one_form (form.Linear a b) (form.Linear c d) e = let p : a ≡ c = cc in let q : b ≡ d = cc in ap₂ form.Linear p q

pub shape_of_determined : Result shape_of.ps shape_of.r shape-of-reads.Post
shape_of_determined κs a x y s t f g = f ∙ sym g

pub record_at_determined : Result record-at.ps record-at.r record-at-reads.Post
record_at_determined κs a x y s t f g = f ∙ sym g

pub node-at_determined : Result Node-at.ps Node-at.r node-at-reads.Post
node-at_determined κs a x y s t f g = f ∙ sym g

pub type_at_determined : Result type_at.ps type_at.r type-at-reads.Post
type_at_determined κs a x y s t f g = one_form x y (f ∙ sym g)

pub sides_of_determined : Result sides-of.ps sides-of.r sides-of-reads.Post
sides_of_determined κs a x y s t f g = f ∙ sym g

pub bound_by_determined : Result bound_by.ps bound_by.r bound-by-reads.Post
bound_by_determined κs a x y s t f g = f ∙ sym g

pub wide-determined : Result wide.ps wide.r wide-reads.Post
wide-determined κs a x y s t f g = f ∙ sym g
