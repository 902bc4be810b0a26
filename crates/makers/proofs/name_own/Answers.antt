-- What the slice's own fill leaves is the run stored. Assumes nothing.
use native.Mathlib.Omega.{arith}
use Prim.Native.Nat.{◌+◌, ◌-◌}
use mathlib.Core.Path.{◌≡◌, sym, ◌∙◌}
use mathlib.Core.List.{append_assoc}
use lib.ListN.{take, drop, replicate, length-replicate}
use lib.Seq.{drop-drop}
use Rattle.laws.proofs.Regions.{region-length}
use Rattle.makers.proofs.NameLaws.{run-whole}
use Rattle.makers.proofs.name_own.Goals as goal

pub returns : goal.returns
returns c =
    let a = c.args in
    let w = a.work.now in
    let k : a.to + a.count - a.to ≡ a.count = omega arith in
    let vs = replicate a.count a.node in
    rw (c.fill.ensures.after (λ y h. h), k, region-length w a.to a.count c.requires, drop-drop a.count a.to w)
    (sym (run-whole vs w a.to a.count (length-replicate a.count a.node) c.requires ∙ append_assoc (take a.to w) vs (drop (a.to + a.count) w)))
