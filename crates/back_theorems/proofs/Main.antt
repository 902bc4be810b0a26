-- What comes back from the bytes of a netlist (document 02, L11): accepted exactly within the limits, and translated again the same parts
-- with the same drivers. Assumes nothing.
use Prim.Native.Nat.{ℕ, ◌+◌}
use mathlib.Core.Path.{◌≡◌, refl, sym, ap, subst, ◌∙◌}
use mathlib.Core.Logic.{◌↔◌}
use mathlib.Core.Bool.{Bool, true}
use mathlib.Core.List.{List, [], ◌∷◌}
use native.Mathlib.Omega.{arith}
use lib.Dec.{T, leb, leb→le}
use lib.ListN.{length}
use borrow.Author.Tests.{le-leb}
use Rattle.calculus.specs.Answer.{good}
use Rattle.calculus.specs.Net.{Element, point, part, Net}
use Rattle.calculus.specs.Lean.{lean}
use Rattle.calculus.specs.NetRead.{Known, read_net}
use Rattle.calculus.specs.Record.{All}
use Rattle.calculus.specs.Translate.{full}
use Rattle.calculus.proofs.Answers.{refused≢good, good-inj, on-bind, on-need}
use Rattle.laws.proofs.Tests.{and_both}
use Rattle.circuit_theorems.specs.Formed.{Formed}
use Rattle.circuit_theorems.proofs.Main.{formed-lean}
use Rattle.circuit_theorems.proofs.NetRead.{read_back}
use Rattle.circuit_theorems.proofs.Told.{items_fit}
use Rattle.foreign_calculus.specs.Foreign.{Bytes, Accepts, check}
use Rattle.foreign_theorems.proofs.Exact.{check-exact}
use Rattle.back_calculus.specs.Back.{gates, open_ins, back_sheet, back_net}
use Rattle.back_calculus.specs.Returned.{no_point, within, returned}
use Rattle.back_calculus.specs.Promises.{PartOnly, Returns, Back, BackWithin, LeanOf, SameParts}
use Rattle.back_calculus.specs.Drivers.{SameDrivers}
use Rattle.back_theorems.proofs.CameBack.{net-came_back}
use Rattle.back_theorems.proofs.SameParts.{same-gates}
use Rattle.back_theorems.proofs.SameDrivers.{open_counted, drivers-same}

-- what is accepted is read
pub accepts-read : (told : Bool) (s : List ℕ) (a : Accepts told s) → read_net s ≡ good a.net
accepts-read told s a = ap read_net a.bytes ∙ read_back a.net a.formed (items_fit a.net a.formed (omega (arith, a.few)) a.known)

-- ---- 25 and 26

pub parts_of_lem : (es : List Element) (at : ℕ) → All Known es → no_point es at ≡ good tt → All PartOnly es
parts_of_lem [] at k e = tt
parts_of_lem (point i ∷ es) at k e = absurd (refused≢good e)
parts_of_lem (part p i ∷ es) at k e = (k.0, parts_of_lem es (at + 4) k.1 e)

no_point_lem : (es : List Element) (at : ℕ) → All PartOnly es → no_point es at ≡ good tt
no_point_lem [] at k = refl
no_point_lem (point i ∷ es) at k = absurd k.0
no_point_lem (part p i ∷ es) at k = no_point_lem es (at + 4) k.1

pub returns_of : (told : Bool) (s : List ℕ) (a : Accepts told s) → no_point a.net.elements 0 ≡ good tt → T (within a.net) → Returns a.net
returns_of told s a e t =
    let es = a.net.elements in
    let (p, r) = and_both (leb 1 (length es)) _ t in
    let (q, i) = and_both (leb (length es) 16) _ r in
    record { parts = parts_of_lem es 0 a.known e; from = a.formed.from; some = leb→le 1 _ p; most = leb→le _ 16 q; inputs = leb→le _ 24 i }

within_of : (m : Net) → Returns m → within m ≡ true
within_of m ok = rw (le-leb 1 (length m.elements) ok.some, le-leb (length m.elements) 16 ok.most, le-leb (open_ins (gates m)) 24 ok.inputs)

-- ---- accepted exactly when L8 accepts, and the netlist has 1 to 16 parts, no points and at most 24 undriven inputs

pub back-exact : (told : Bool) (s sheet : List ℕ) → Bytes s → (returned told s ≡ good sheet) ↔ Back told s sheet
unfolding returned
back-exact told s sheet b = (there, again)
  where
    there : returned told s ≡ good sheet → Back told s sheet
    there e =
        on-bind (check told s) _ sheet e λ u h₁ e₁.
        on-bind (read_net s) _ sheet e₁ λ m h₂ e₂.
        on-bind (no_point m.elements 0) _ sheet e₂ λ v h₃ e₃.
        on-need (within m) 26 0 _ sheet e₃ λ h₄ e₄.
        let a = (check-exact told s b).0 h₁ in
        let n : m ≡ a.net = good-inj (sym h₂ ∙ accepts-read told s a) in
        record { accepts = a; returns = returns_of told s a (rw n at h₃) (rw n at h₄); is = ap back_sheet (sym n) ∙ good-inj e₄ }

    again : Back told s sheet → returned told s ≡ good sheet
    again r = rw ((check-exact told s b).1 r.accepts, accepts-read told s r.accepts, no_point_lem r.accepts.net.elements 0 r.returns.parts, within_of r.accepts.net r.returns) (ap good r.is)

-- ---- translated again

-- the sheet is accepted, and its lean netlist is the one that the definition gives
pub came-back : (told : Bool) (s sheet : List ℕ) → Bytes s → returned told s ≡ good sheet → (m : Net) → read_net s ≡ good m → LeanOf sheet (back_net (open_ins (gates m)) (gates m))
came-back told s sheet b e m r = go ((back-exact told s sheet b).0 e)
  where
    go : Back told s sheet → LeanOf sheet (back_net (open_ins (gates m)) (gates m))
    go k =
        let n : k.accepts.net ≡ m = good-inj (sym (accepts-read told s k.accepts) ∙ r) in
        subst (λ (x : List ℕ). LeanOf x (back_net (open_ins (gates m)) (gates m))) k.is
        (subst (λ (x : Net). LeanOf (back_sheet k.accepts.net) (back_net (open_ins (gates x)) (gates x))) n (net-came_back k.accepts.net k.returns))

-- the same parts in the same order, with the same drivers
pub same_parts : (told : Bool) (s sheet : List ℕ) → Bytes s → returned told s ≡ good sheet → (m net : Net) → read_net s ≡ good m → full sheet ≡ good net → SameParts m (lean net)
same_parts told s sheet b e m net r f = go ((back-exact told s sheet b).0 e) (came-back told s sheet b e m r)
  where
    go : Back told s sheet → LeanOf sheet (back_net (open_ins (gates m)) (gates m)) → SameParts m (lean net)
    go k c =
        let n : k.accepts.net ≡ m = good-inj (sym (accepts-read told s k.accepts) ∙ r) in
        let l : lean net ≡ back_net (open_ins (gates m)) (gates m) = ap lean (good-inj (sym f ∙ c.accepted)) ∙ c.lean_is in
        record { gates_same = same-gates m (subst Returns n k.returns) (lean net) l; pins = ap (λ (x : Net). x.pins) l }

-- .. and the same said by the wires and pins of the two netlists alone
pub same_drivers : (told : Bool) (s sheet : List ℕ) → Bytes s → returned told s ≡ good sheet → (m net : Net) → read_net s ≡ good m → full sheet ≡ good net → SameDrivers m (lean net)
same_drivers told s sheet b e m net r f = go ((back-exact told s sheet b).0 e) (came-back told s sheet b e m r)
  where
    go : Back told s sheet → LeanOf sheet (back_net (open_ins (gates m)) (gates m)) → SameDrivers m (lean net)
    go k c =
        let n : k.accepts.net ≡ m = good-inj (sym (accepts-read told s k.accepts) ∙ r) in
        let l : lean net ≡ back_net (open_ins (gates m)) (gates m) = ap lean (good-inj (sym f ∙ c.accepted)) ∙ c.lean_is in
        drivers-same m (subst Returns n k.returns) (subst Formed n k.accepts.formed) (lean net) (formed-lean sheet net f) l

-- ---- accepted exactly within the limits, the undriven inputs counted terminal by terminal

pub back-within : (told : Bool) (s sheet : List ℕ) → Bytes s → (returned told s ≡ good sheet) ↔ BackWithin told s sheet
back-within told s sheet b = ((λ e. there ((back-exact told s sheet b).0 e)), (λ w. (back-exact told s sheet b).1 (again w)))
  where
    there : Back told s sheet → BackWithin told s sheet
    there k =
        let a = k.accepts in
        let r = k.returns in
        record { accepts = a; parts = r.parts; some = r.some; most = r.most; undriven = omega (arith, r.inputs, open_counted a.net r.parts a.formed); is = k.is }

    again : BackWithin told s sheet → Back told s sheet
    again w =
        let a = w.accepts in
        record {
          accepts = a;
          returns = record { parts = w.parts; from = a.formed.from; some = w.some; most = w.most; inputs = omega (arith, w.undriven, open_counted a.net w.parts a.formed) };
          is = w.is;
        }
