-- `words::sign_at` meets its contract: the first row that fits is the sign. Assumes nothing.
use Rattle.words.proofs.FoundLaws.{sign_none, sign_told}
use Rattle.words.specs.Tables.{said_row}
use native.Mathlib.Omega.{arith}
use lib.ListN.{drop, length-drop}
use Rattle.words.proofs.sign_at.Goals as goal

pub returns-then-row-eq0 : goal.returns-then-row-eq0
returns-then-row-eq0 c = sign_none (drop c.args.start c.args.text.now) c.args.start (said_row c.sign_row-row.result) c.sign_row-row.ensures c.if-row-eq0.true

pub overflow_add-result : goal.overflow_add-result
overflow_add-result c = record { fits = omega (arith, (sign_told (drop c.args.start c.args.text.now) c.args.start (said_row c.sign_row-row.result) c.sign_row-row.ensures).short, length-drop c.args.start c.args.text.now, c.well_formed) }

pub returns : goal.returns
returns c = (sign_told (drop c.args.start c.args.text.now) c.args.start (said_row c.sign_row-row.result) c.sign_row-row.ensures).some c.if-row-eq0.false
