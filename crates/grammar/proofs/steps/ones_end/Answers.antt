-- `grammar::ones_end` meets its contract, by the code of the first word. Assumes nothing.
use native.Mathlib.Omega.{arith}
use Rattle.grammar.proofs.EndLaws.{ends-here, mark-stands, mark_no, ends_as}
use Rattle.grammar.proofs.StepLaws.{ones_none, power_on, ones_on}
use Rattle.notation_calculus.specs.Words.{power}
use Rattle.words.specs.Next.{said_word}
use Rattle.std.proofs.Common.{Ok}
use Rattle.grammar.proofs.steps.ones_end.Goals as goal

pub returns-then-w-ne-POWER : goal.returns-then-w-ne-POWER
returns-then-w-ne-POWER c =
    let x = c.args in
    let m = c.mark_at-w in
    ends_as x.text.now _ _ _ _ (Ok c.args.at) (omega arith) (ones_none _ (mark_no x.text.now x.at (said_word m.result) power m.ensures.power c.if-w-ne-POWER.true)) (ends-here c.args.text.now c.args.at c.requires)

pub number_end-requires : goal.number_end-requires
number_end-requires c =
    let x = c.args in
    let m = c.mark_at-w in
    (power_on x.text.now x.at (said_word m.result) (mark-stands x.text.now x.at (said_word m.result) m.ensures 25 c.if-w-ne-POWER.false (λ z. omega arith)) c.if-w-ne-POWER.false).lexed

pub returns : goal.returns
returns c =
    let x = c.args in
    let m = c.mark_at-w in
    ones_on x.text.now x.at (said_word m.result) (mark-stands x.text.now x.at (said_word m.result) m.ensures 25 c.if-w-ne-POWER.false (λ z. omega arith)) c.if-w-ne-POWER.false c.number_end.result c.number_end.ensures
