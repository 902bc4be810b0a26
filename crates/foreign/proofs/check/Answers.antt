-- The memory is cleared, judged over, and cleared again. Assumes nothing.
use native.Mathlib.Omega.{arith}
use mathlib.Core.Path.{sym, subst}
use mathlib.Core.List.{List}
use Prim.Native.Nat.{ℕ}
use Rattle.foreign.specs.Table.{LaterKept, TableClear}
use Rattle.foreign.specs.Walk.{said_check}
use Rattle.foreign.proofs.JudgeLaws.{called_1, clear_clear, called_2}
use Rattle.foreign.proofs.check.Goals as goal

pub returns-then-work-lt-SIZE : goal.returns-then-work-lt-SIZE
returns-then-work-lt-SIZE c =
    let a = c.args in
    rw c.at.ensures (called_1 a.lean a.net.now a.work.now (omega arith))

pub judge-r-requires : goal.judge-r-requires
judge-r-requires c =
    let a = c.args in
    subst TableClear (sym c.blank.ensures) (clear_clear a.work.now (omega arith))

pub returns : goal.returns
returns c =
    let a = c.args in
    called_2 a.lean a.net.now a.work.now _ _ (said_check c.judge-r.result) (omega arith) c.judge-r.ensures.0
    (subst (λ (y : List ℕ). LaterKept y c.judge-r.new.work) c.blank.ensures c.judge-r.ensures.1) c.clear.ensures
