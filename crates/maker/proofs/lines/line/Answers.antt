-- The text's own scope is set, and the types of the line are worked out in it. Assumes nothing.
use Rattle.maker.proofs.LineLaws.{line-types, line-says}
use Rattle.maker.proofs.lines.line.Goals as goal

pub types-requires : goal.types-requires
types-requires c =
    line-types c.args.text.now c.args.work.now c.args.start c.args.seen c.requires _ c.know.ensures

pub returns : goal.returns
returns c =
    line-says c.args.text.now c.args.work.now c.args.start c.args.seen c.requires _ c.know.ensures c.types.result _ c.types.ensures
