-- `wiring::fill` meets its contract: what the slice's own fill leaves is the run stored. Assumes nothing.
use native.Mathlib.Omega.{arith}
use Prim.Native.Nat.{◌+◌, ◌-◌}
use mathlib.Core.Path.{◌≡◌, sym, ◌∙◌}
use mathlib.Core.List.{append_assoc}
use lib.ListN.{take, drop, replicate, length-replicate}
use lib.Seq.{drop-drop}
use Rattle.laws.proofs.Regions.{region-length}
use Rattle.wiring.proofs.RunLaws.{run-whole}
use Rattle.wiring.proofs.wires.fill.Goals as goal

pub returns : goal.returns
returns c =
    let a = c.args in
    let w = a.work.now in
    let k : a.to + a.n - a.to ≡ a.n = omega arith in
    let vs = replicate a.n a.x in
    rw (c.fill.ensures.after (λ y h. h), k, region-length w a.to a.n c.requires, drop-drop a.n a.to w)
    (sym (run-whole vs w a.to a.n (length-replicate a.n a.x) c.requires ∙ append_assoc (take a.to w) vs (drop (a.to + a.n) w)))
