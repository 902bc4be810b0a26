-- Each function's contract determines its result: two that it allows for one call are equal. Assumes nothing.
use Prim.Native.Nat.{ℕ, zero, suc, ◌≤◌}
use mathlib.Core.Path.{◌≡◌, refl, sym, ap, ◌∙◌}
use mathlib.Core.Bool.{Bool, true, false}
use mathlib.Core.List.{List}
use native.Mathlib.Omega.{arith}
use Rattle.calculus.specs.Types.{Ty, bit, prod, arrow, lolli, size}
use Rattle.parts.specs.declared.Part.{Part}
use Rattle.std.specs.declared.option.Option.{Option}
use Rattle.std.specs.declared.option.Option.TheVariants.{Some, None}
use Rattle.parts.specs.declared.Name.{Name}
use Rattle.parts.specs.Table.{PartEntry, said_part, said_named, shape_ty, later_ty}
use Rattle.laws.proofs.OneResult.{Result}
use Rattle.parts.proofs.Rule.{shape_size}
use Rattle.parts.proofs.part_at.Kinds as part_at
use Rattle.parts.proofs.part_at.Reads as part-at-reads
use Rattle.parts.proofs.part_of.Kinds as part_of
use Rattle.parts.proofs.part_of.Reads as part-of-reads
use Rattle.parts.proofs.name_of.Kinds as name_of
use Rattle.parts.proofs.name_of.Reads as name-of-reads

part : ℕ → ℕ → ℕ → Bool → Part
part i o k b = record { inputs = i; outputs = o; shape = k; paired = b }

-- no shape is the type that takes a pair
left-size : Ty → ℕ
left-size bit = 0
left-size (prod a b) = 0
left-size (arrow a b) = size a
left-size (lolli a b) = 0

no_pair : (n : ℕ) → left-size (shape_ty n) ≤ 1
unfolding left-size
no_pair zero = omega arith
no_pair (suc n) = omega arith

same_pair : (n : ℕ) (a b : Bool) → later_ty n a ≡ later_ty n b → a ≡ b
unfolding left-size
same_pair n true true e = refl
same_pair n false false e = refl
same_pair n true false e = let z : 2 ≡ left-size (shape_ty n) = ap left-size e in absurd (omega (arith, z, no_pair n))
same_pair n false true e = let z : 2 ≡ left-size (shape_ty n) = ap left-size (sym e) in absurd (omega (arith, z, no_pair n))

same-part : (x y : Part) → said_part x ≡ said_part y → x ≡ y
unfolding part
same-part x y h =
    let a : x.inputs ≡ y.inputs = ap (λ (z : PartEntry). z.inputs) h in
    let b : x.outputs ≡ y.outputs = ap (λ (z : PartEntry). z.outputs) h in
    let k : size (shape_ty x.shape) ≡ size (shape_ty y.shape) = ap (λ (z : PartEntry). size z.in_first) h in
    let c : x.shape ≡ y.shape = omega (arith, k, shape_size x.shape, shape_size y.shape) in
    let d : later_ty y.shape x.paired ≡ later_ty y.shape y.paired = ap (λ (n : ℕ). later_ty n x.paired) (sym c) ∙ ap (λ (z : PartEntry). z.in_second) h in
    let e : x.paired ≡ y.paired = same_pair y.shape x.paired y.paired d in
    ap (λ (i : ℕ). part i x.outputs x.shape x.paired) a ∙ ap (λ (o : ℕ). part y.inputs o x.shape x.paired) b
    ∙ ap (λ (n : ℕ). part y.inputs y.outputs n x.paired) c ∙ ap (part y.inputs y.outputs y.shape) e

same-named : (r q : Option Part) → said_named r ≡ said_named q → r ≡ q
same-named (Some x) (Some y) e = let h : said_part x ≡ said_part y = cc in ap (λ (z : Part). Some z) (same-part x y h)
same-named (Some x) None e = absurd (let z : ◌≡◌ {A = ℕ} 0 1 = cc in omega arith)
same-named None (Some y) e = absurd (let z : ◌≡◌ {A = ℕ} 0 1 = cc in omega arith)
same-named None None e = refl

pub part-at_determined : Result part_at.ps part_at.r part-at-reads.Post
part-at_determined κs a x y s t f g = same-named x y (f ∙ sym g)

pub part_of_determined : Result part_of.ps part_of.r part-of-reads.Post
part_of_determined κs a x y s t f g = same-part x y (f ∙ sym g)

name : List ℕ → ℕ → Name
name letters n = record { letters = letters; count = n }

same-name : (x y : Name) → x.letters ≡ y.letters → x.count ≡ y.count → x ≡ y
unfolding name
same-name x y a b = ap (λ (l : List ℕ). name l x.count) a ∙ ap (name y.letters) b

pub name_of_determined : Result name_of.ps name_of.r name-of-reads.Post
name_of_determined κs a x y s t f g = same-name x y (f.0 ∙ sym g.0) (f.1 ∙ sym g.1)
