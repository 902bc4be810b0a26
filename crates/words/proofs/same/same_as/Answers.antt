-- `words::same_as` meets its contract: room for the bytes, the bytes, and no byte of a name behind them. Assumes nothing.
use mathlib.Core.Path.{sym, ap, ◌∙◌}
use mathlib.Core.Bool.{not}
use native.Mathlib.Omega.{arith}
use Rattle.words.proofs.WordLaws.{not_yes, not_no}
use Rattle.words.proofs.FoundLaws.{run_inside}
use Rattle.words.proofs.NameLaws.{names-short, names-differ, names-behind}
use Rattle.words.proofs.same.same_as.Goals as goal

pub returns-then-text-at : goal.returns-then-text-at
returns-then-text-at c =
    names-short c.args.text.now c.args.name c.args.at c.args.long c.requires.1.1 c.requires.0 c.requires.1.0 c.if-text-at.true

pub bytes_same-requires : goal.bytes_same-requires
bytes_same-requires c =
    record {
      first = omega (arith, c.requires.1.1, run_inside c.args.text.now c.args.name c.requires.0);
      second = omega (arith, c.requires.1.0, c.if-text-at.false);
    }

pub returns-then-not-bytes_same : goal.returns-then-not-bytes_same
returns-then-not-bytes_same c =
    names-differ c.args.text.now c.args.name c.args.at c.args.long c.requires.1.1 (sym c.bytes_same.ensures ∙ not_yes _ c.if-not-bytes_same.true-raw)

pub returns : goal.returns
returns c =
    ap not c.goes_on.ensures ∙ names-behind c.args.text.now c.args.name c.args.at c.args.long c.requires.1.1 (sym c.bytes_same.ensures ∙ not_no _ c.if-not-bytes_same.false-raw)
