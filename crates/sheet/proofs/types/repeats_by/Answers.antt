-- `sheet::repeats_by` meets its contract: where no key is the same, no record is. Assumes nothing.
use mathlib.Core.Path.{sym, ap, ◌∙◌}
use Rattle.sheet.specs.Keys.{among_first}
use Rattle.sheet.proofs.KeyLaws.{none-same}
use Rattle.sheet.proofs.types.repeats_by.Goals as goal

pub among-requires : goal.among-requires
among-requires c = c.requires.0

pub repeats-requires : goal.repeats-requires
repeats-requires c = c.requires.0

pub returns-then-among : goal.returns-then-among
returns-then-among c = c.repeats.ensures

pub returns : goal.returns
returns c =
    let e = ap (among_first c.args.keys.now c.args.count) (sym c.key_of.ensures) ∙ sym c.among.ensures ∙ c.if-among.false in
    sym (none-same c.args.s.now c.args.count c.args.keys.now _ c.requires.1 e)
