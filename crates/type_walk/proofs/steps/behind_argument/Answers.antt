-- `type_walk::steps::behind_argument` meets its contract: the argument waits as an entry; a comma, or the closing bracket. Assumes nothing.
use Rattle.words.specs.Next.{said_word}
use Rattle.type_walk.proofs.MoveLaws.{onward}
use Rattle.type_walk.proofs.StepLaws.{bound_places, bound_given_can, bound_valued_can, argument-comma, argument-closed, argument-open}
use native.Mathlib.Omega.{arith}
use Rattle.type_walk.proofs.steps.behind_argument.Goals as goal

pub ask_argument-requires : goal.ask_argument-requires
ask_argument-requires c = (bound_given_can c.args.text.now c.args.work.now _ c.args.h c.args.name c.args.given c.args.ty c.requires.0.held.walkable.room c.requires.1.1.1.0 _ c.from.ensures c.bind.ensures c.requires.0, ((onward _ _ (said_word c.word_at-w.result) c.word_at-w.ensures 13 c.if-w-eq-COMMA.true).lexed, (c.requires.1.1.0, bound_places c.args.text.now c.args.work.now _ c.args.h c.args.name c.args.given c.args.ty c.requires.0.held.walkable.room c.requires.1.1.1.0 _ c.from.ensures c.bind.ensures c.requires.1.1.1.1)))

pub returns-then-w-eq-COMMA : goal.returns-then-w-eq-COMMA
returns-then-w-eq-COMMA c = argument-comma c.args.text.now c.args.work.now _ c.args.h c.args.name c.args.given c.args.ty c.requires.0.held.walkable.room c.requires.1.1.1.0 _ c.from.ensures c.bind.ensures _ (said_word c.word_at-w.result) c.word_at-w.ensures _ _ c.if-w-eq-COMMA.true c.ask_argument.ensures

pub put_type-requires : goal.put_type-requires
put_type-requires c = (bound_valued_can c.args.text.now c.args.work.now _ c.args.h c.args.name c.args.given c.args.ty c.requires.0.held.walkable.room c.requires.1.1.1.0 _ c.from.ensures c.bind.ensures c.requires.0, ((onward _ _ (said_word c.word_at-w.result) c.word_at-w.ensures 17 c.if-w-eq-END_SQUARE.true).lexed, (c.requires.1.1.0, omega (arith, c.requires.1.1.1.0))))

pub returns-then-w-eq-END_SQUARE : goal.returns-then-w-eq-END_SQUARE
returns-then-w-eq-END_SQUARE c = argument-closed c.args.text.now c.args.work.now _ c.args.h c.args.name c.args.given c.args.ty c.requires.0.held.walkable.room c.requires.1.1.1.0 _ c.from.ensures c.bind.ensures _ (said_word c.word_at-w.result) c.word_at-w.ensures _ _ c.if-w-eq-COMMA.false c.if-w-eq-END_SQUARE.true c.put_type.ensures

pub returns : goal.returns
returns c = rw c.at.ensures (argument-open c.args.text.now c.args.work.now _ c.args.h c.args.name c.args.given c.args.ty c.requires.0.held.walkable.room c.requires.1.1.1.0 _ c.from.ensures c.bind.ensures _ (said_word c.word_at-w.result) c.word_at-w.ensures c.if-w-eq-COMMA.false c.if-w-eq-END_SQUARE.false)
