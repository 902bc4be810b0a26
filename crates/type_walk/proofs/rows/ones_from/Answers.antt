-- `type_walk::rows::ones_from` meets its contract: a row, or what stands behind a bit. Assumes nothing.
use Rattle.words.specs.Next.{said_word}
use Rattle.grammar.proofs.EndLaws.{mark-stands}
use Rattle.type_walk.proofs.MoveLaws.{onward, place_inside}
use Rattle.type_walk.proofs.RowLaws.{can_one, ones_power, ones_none}
use native.Mathlib.Omega.{arith}
use Rattle.type_walk.proofs.rows.ones_from.Goals as goal

pub power_at-requires : goal.power_at-requires
power_at-requires c =
    let v = said_word c.mark_at-w.result in
    let s = mark-stands _ _ v c.mark_at-w.ensures 25 c.if-w-eq-POWER.true (λ z. omega arith) in
    (c.requires.0, ((onward _ _ v s 24 c.if-w-eq-POWER.true).lexed, place_inside _ _ c.requires.1 v s))

pub returns-then-w-eq-POWER : goal.returns-then-w-eq-POWER
returns-then-w-eq-POWER c = ones_power _ _ (said_word c.mark_at-w.result) c.mark_at-w.ensures _ _ _ _ c.if-w-eq-POWER.true c.power_at.ensures

pub side_from-requires : goal.side_from-requires
side_from-requires c = (can_one _ _ _ c.requires.0, c.requires.1)

pub returns : goal.returns
returns c = ones_none _ _ (said_word c.mark_at-w.result) c.mark_at-w.ensures _ _ _ _ c.if-w-eq-POWER.false c.side_from.ensures
