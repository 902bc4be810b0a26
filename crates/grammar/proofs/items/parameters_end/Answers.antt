-- `grammar::parameters_end` meets its contract, by the word's code. Assumes nothing.
use native.Mathlib.Omega.{arith}
use Rattle.notation_calculus.specs.Words.{square, endSquare}
use Rattle.words.specs.Next.{said_word}
use Rattle.grammar.specs.Skips.{name_end}
use Rattle.grammar.proofs.EndLaws.{ends-here, mark-stands, mark_no, ends_as}
use Rattle.grammar.proofs.LoopLaws.{group_none}
use Rattle.grammar.proofs.ItemLaws.{parameters_on}
use Rattle.std.proofs.Common.{Ok}
use Rattle.grammar.proofs.items.parameters_end.Goals as goal

pub names_list-requires : goal.names_list-requires
names_list-requires c =
    let x = c.args in
    let m = c.mark_at-w in
    (((mark-stands x.text.now x.at (said_word m.result) m.ensures 17 c.if-w-eq-SQUARE.true (λ z. omega arith)).onward (λ z. omega (arith, c.if-w-eq-SQUARE.true))).lexed, omega arith)

pub returns-then-w-eq-SQUARE : goal.returns-then-w-eq-SQUARE
returns-then-w-eq-SQUARE c =
    let x = c.args in
    let m = c.mark_at-w in
    parameters_on x.text.now x.at (said_word m.result) (mark-stands x.text.now x.at (said_word m.result) m.ensures 17 c.if-w-eq-SQUARE.true (λ z. omega arith)) c.if-w-eq-SQUARE.true c.names_list.result c.names_list.ensures

pub returns : goal.returns
returns c =
    let x = c.args in
    let m = c.mark_at-w in
    ends_as x.text.now _ _ _ _ (Ok c.args.at) (omega arith) (group_none _ square endSquare (λ us. name_end us) (mark_no x.text.now x.at (said_word m.result) square m.ensures.square c.if-w-eq-SQUARE.false)) (ends-here c.args.text.now c.args.at c.requires)
