-- Where no words are left the grammar refuses; else it is the type at the offset. Assumes nothing.
use Rattle.term_walk.proofs.TypeBehind.{type_past, type_inside}
use native.Mathlib.Omega.{arith}
use Rattle.term_walk.proofs.looks.type_behind.Goals as goal

pub returns-then-text-at : goal.returns-then-text-at
returns-then-text-at c = rw c.at.ensures (type_past c.args.text.now c.args.work.now c.args.at c.args.more c.args.frame c.args.top c.if-text-at.true)

pub type_from-requires : goal.type_from-requires
type_from-requires c = record { walk = c.requires.walk; lexed = c.requires.readable (omega (arith, c.if-text-at.false)); above = c.requires.above; levels = c.requires.levels }

pub returns : goal.returns
returns c = type_inside c.args.text.now c.args.work.now c.args.at c.args.more c.args.frame c.args.top (c.requires.readable (omega (arith, c.if-text-at.false))) _ _ c.type_from.ensures
