-- `typing::leave_one` meets its contract: the nearest binder tells if it is used, and goes. Assumes nothing.
use mathlib.Core.Path.{sym, ap, ap₂, ◌∙◌}
use Prim.Native.Nat.{ℕ}
use mathlib.Core.List.{◌∷◌}
use lib.ListN.{get_or}
use Rattle.binders.specs.Stacks.{bits_of, binder_of, stack_from}
use Rattle.binders.proofs.Laws.{nearest}
use Rattle.typing.specs.Steps.{used_up}
use Rattle.typing.specs.Verdicts.{held}
use Rattle.typing.proofs.VerdictLaws.{follows_left}
use Rattle.typing.proofs.leave_one.Goals as goal

pub returns : goal.returns
returns c b e n =
    let a = c.args in
    follows_left (held b a.x) 1 a.c n
    (c.after_one.ensures _
    (c.used_up-all.ensures (get_or b.types a.c 0) _
    ∙ ap₂ (λ (s m : ℕ). used_up a.n.rule (binder_of (get_or b.types a.c 0) s m ∷ stack_from b.types (bits_of b.sorts) (bits_of a.x.used) a.c)) e c.bit.ensures
    ∙ ap (used_up a.n.rule) (sym (nearest b.types (bits_of b.sorts) (bits_of a.x.used) a.c))))
