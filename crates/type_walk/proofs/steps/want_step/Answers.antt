-- `type_walk::steps::want_step` meets its contract: no level is left, or the type begins one level below. Assumes nothing.
use Rattle.words.specs.Next.{said_word}
use Rattle.type_walk.proofs.StepLaws.{want_zero, want-can, want-moved}
use Rattle.type_walk.proofs.steps.want_step.Goals as goal

pub returns-then-q-eq0 : goal.returns-then-q-eq0
returns-then-q-eq0 c = rw c.at.ensures (want_zero _ _ _ (said_word c.word_at-w.result) c.word_at-w.ensures c.if-q-eq0.true)

pub enter-requires : goal.enter-requires
enter-requires c = (want-can _ _ _ c.if-q-eq0.false c.requires, c.requires.held.lexed)

pub returns : goal.returns
returns c = want-moved _ _ _ c.if-q-eq0.false _ _ c.enter.ensures
