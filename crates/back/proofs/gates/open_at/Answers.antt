-- By the driver. Assumes nothing.
use native.Mathlib.Omega.{arith}
use mathlib.Core.Path.{◌≡◌, ap, sym, ◌∙◌}
use mathlib.Core.Bool.{Bool, true, false, not, true≢false}
use mathlib.Core.List.{List}
use Prim.Native.Nat.{ℕ, ◌<◌}
use Rattle.std.specs.Int.{from_bool}
use Rattle.std.specs.Prelude.{Option, Some, None, unwrap_or, IfSome}
use Rattle.std.specs.Option.{is_some}
use Rattle.calculus.specs.Lean.{driver}
use Rattle.back_calculus.specs.Back.{sources, undrivens}
use Rattle.back.specs.Gates.{net_here, AcceptedNet}
use Rattle.back.proofs.SourceLaws.{source_open, source-wired}
use Rattle.back.proofs.gates.open_at.Goals as goal

open_by : (s : List ℕ) → AcceptedNet s → (i : ℕ) (d : Option ℕ) (b : Bool) → is_some d ≡ not b → unwrap_or d 65535 ≡ driver (net_here s).wires i 65535 → IfSome d (λ x. x < 65535) → from_bool b ≡ undrivens (sources (net_here s) 1 i 0)
open_by s a i (Some x) false e f g = sym (ap undrivens (source-wired s a i 0 (λ z. omega (arith, f, g, z))))
open_by s a i None true e f g = sym (ap undrivens (source_open s a i 0 (sym f)))
open_by s a i (Some x) true e f g = absurd (true≢false e)
open_by s a i None false e f g = absurd (true≢false (sym e))

pub returns : goal.returns
returns c = let d = c.driver in c.from.ensures ∙ open_by c.args.net.now c.requires.of.accepted c.args.i d.result c.is_none.result c.is_none.ensures d.ensures.driver d.ensures.low
