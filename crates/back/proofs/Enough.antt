-- 393 bytes are always enough for the sheet of a netlist, said of the definition (document 02, L11). Assumes nothing.
use Prim.Native.Nat.{ℕ, ◌≤◌}
use mathlib.Core.Path.{◌≡◌, refl, sym, ap, subst, ◌∙◌}
use mathlib.Core.Bool.{Bool}
use mathlib.Core.List.{List}
use lib.ListN.{length}
use Rattle.calculus.specs.Answer.{good}
use Rattle.foreign_calculus.specs.Foreign.{Bytes}
use Rattle.back_calculus.specs.Back.{gates, open_ins, back_sheet}
use Rattle.back_calculus.specs.Returned.{returned}
use Rattle.back_calculus.specs.Promises.{Returns, Back}
use Rattle.back_theorems.proofs.Main.{back-exact}
use Rattle.back.specs.Gates.{net_here, AcceptedNet, Limited}
use Rattle.back.proofs.GateLaws.{here-is}
use Rattle.back.proofs.SheetLaws.{sheet_enough}

-- what comes back is within the limits, as the code counts them
limited : (s : List ℕ) (a : AcceptedNet s) → Returns (net_here s) → Limited s (length (net_here s).elements) (open_ins (gates (net_here s)))
limited s a r = record { of = record { accepted = a; parts = r.parts; count = refl }; some = r.some; most = r.most; undriven = refl; few = r.inputs }

pub back_enough : (told : Bool) (s sheet : List ℕ) → Bytes s → returned told s ≡ good sheet → length sheet ≤ 393
back_enough told s sheet b e = go ((back-exact told s sheet b).0 e)
  where
    go : Back told s sheet → length sheet ≤ 393
    go k =
        let a : AcceptedNet s = record { told = told; accepts = k.accepts } in
        let h : net_here s ≡ k.accepts.net = here-is s a in
        subst (λ (x : List ℕ). length x ≤ 393) (ap back_sheet h ∙ k.is) (sheet_enough s _ _ (limited s a (subst Returns (sym h) k.returns)))
