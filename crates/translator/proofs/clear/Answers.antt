-- `translator::clear` meets its contract: the memory is cleared where it is as large as a call needs. Assumes nothing.
use mathlib.Core.Path.{sym, ◌∙◌}
use Rattle.translator.proofs.Keeping.{work_small, work_large}
use Rattle.translator.proofs.clear.Goals as goal

pub returns-then-work-ge32768 : goal.returns-then-work-ge32768
returns-then-work-ge32768 c =
    c.clear.ensures ∙ sym (work_large c.args.work.now c.if-work-ge32768.true)

pub returns-else-work-ge32768 : goal.returns-else-work-ge32768
returns-else-work-ge32768 c = sym (work_small c.args.work.now c.if-work-ge32768.false)
