-- `words::named_at` meets its contract: the first row that fits is the reserved word. Assumes nothing.
use native.Mathlib.Omega.{arith}
use lib.ListN.{get_or}
use Rattle.words.proofs.ByteLaws.{letter-name}
use Rattle.words.proofs.WordLaws.{run-behind}
use Rattle.words.proofs.FoundLaws.{run_inside, named-name, named-spelled}
use Rattle.words.specs.Tables.{said_row}
use Rattle.words.proofs.named_at.Goals as goal

pub reserved_row-row-requires : goal.reserved_row-row-requires
reserved_row-row-requires c =
    let ends = run-behind c.args.text.now c.args.start c.run_end-end.result c.requires.0 (letter-name (get_or c.args.text.now c.args.start 0) c.requires.1) c.run_end-end.ensures in
    omega (arith, ends, run_inside c.args.text.now c.args.start (omega (arith, c.requires.0)))

pub returns-then-row-eq0 : goal.returns-then-row-eq0
returns-then-row-eq0 c =
    let run = c.run_end-end in
    let row = c.reserved_row-row in
    named-name c.args.text.now c.args.start run.result (omega (arith, c.requires.0)) (run-behind c.args.text.now c.args.start run.result c.requires.0 (letter-name (get_or c.args.text.now c.args.start 0) c.requires.1) run.ensures) (said_row row.result) row.ensures c.if-row-eq0.true

pub returns : goal.returns
returns c =
    let run = c.run_end-end in
    let row = c.reserved_row-row in
    named-spelled c.args.text.now c.args.start run.result (omega (arith, c.requires.0)) (run-behind c.args.text.now c.args.start run.result c.requires.0 (letter-name (get_or c.args.text.now c.args.start 0) c.requires.1) run.ensures) (said_row row.result) row.ensures c.if-row-eq0.false
