-- By the first word; 34 where no level is left. Assumes nothing.
use Rattle.term_walk.proofs.RoundLaws.{step-looks, enter-none, enter_by, can_enter, names-behind, entered-function, entered-fix, entered-let, entered-atom, left-first, enter-atom}
use mathlib.Core.Path.{refl}
use native.Mathlib.Omega.{arith}
use Rattle.term_walk.proofs.rounds.enter.Goals as goal

pub look-w-requires : goal.look-w-requires
look-w-requires c = step-looks c.args.text.now c.args.work.now c.args.h c.requires.0

pub returns-then-h-eq0 : goal.returns-then-h-eq0
returns-then-h-eq0 c = rw c.at.ensures (enter-none c.args.text.now c.args.work.now c.args.h c.requires.1 c.if-h-eq0.true c.look-w.result c.look-w.ensures)

pub function_from-requires : goal.function_from-requires
function_from-requires c = (can_enter c.args.text.now c.args.work.now c.args.h c.requires.1 c.requires.0 c.if-h-eq0.false, names-behind c.args.text.now c.args.work.now c.args.h c.requires.1 c.look-w.result c.look-w.ensures (λ z. absurd (omega (arith, z, c.in-1.is))))

pub returns-in-1 : goal.returns-in-1
returns-in-1 c = enter_by c.args.text.now c.args.work.now c.args.h c.requires.1 c.if-h-eq0.false _ (entered-function c.args.text.now c.args.work.now c.args.h c.requires.1 c.look-w.result c.look-w.ensures c.in-1.is) _ _ c.function_from.ensures

pub fix_from-requires : goal.fix_from-requires
fix_from-requires c = (can_enter c.args.text.now c.args.work.now c.args.h c.requires.1 c.requires.0 c.if-h-eq0.false, names-behind c.args.text.now c.args.work.now c.args.h c.requires.1 c.look-w.result c.look-w.ensures (λ z. absurd (omega (arith, z, c.in-2.is))))

pub returns-in-2 : goal.returns-in-2
returns-in-2 c = enter_by c.args.text.now c.args.work.now c.args.h c.requires.1 c.if-h-eq0.false _ (entered-fix c.args.text.now c.args.work.now c.args.h c.requires.1 c.look-w.result c.look-w.ensures (λ z. absurd (omega (arith, z, c.in-2.is))) c.in-2.is) _ _ c.fix_from.ensures

pub let_from-requires : goal.let_from-requires
let_from-requires c = (can_enter c.args.text.now c.args.work.now c.args.h c.requires.1 c.requires.0 c.if-h-eq0.false, (c.look-w.ensures.inside, c.look-w.ensures.onward (λ z. absurd (omega (arith, z, c.in-3.is)))))

pub returns-in-3 : goal.returns-in-3
returns-in-3 c = enter_by c.args.text.now c.args.work.now c.args.h c.requires.1 c.if-h-eq0.false _ (entered-let c.args.text.now c.args.work.now c.args.h c.requires.1 c.look-w.result c.look-w.ensures (λ z. absurd (omega (arith, z, c.in-3.is))) (λ z. absurd (omega (arith, z, c.in-3.is))) c.in-3.is) _ _ c.let_from.ensures

pub overflow_cast-w : goal.overflow_cast-w
overflow_cast-w c = omega (arith, c.look-w.ensures.inside, (step-looks c.args.text.now c.args.work.now c.args.h c.requires.0).1)

pub atom_at-requires : goal.atom_at-requires
atom_at-requires c = (record { can = can_enter c.args.text.now c.args.work.now c.args.h c.requires.1 c.requires.0 c.if-h-eq0.false; p = _; left = left-first c.args.text.now c.args.work.now c.args.h c.requires.1 c.look-w.result c.look-w.ensures _ refl refl }, c.look-w.ensures)

pub returns-in_default : goal.returns-in_default
returns-in_default c = let r = c.in_default.in_default-own.rest in enter_by c.args.text.now c.args.work.now c.args.h c.requires.1 c.if-h-eq0.false _ (entered-atom c.args.text.now c.args.work.now c.args.h c.requires.1 c.look-w.result c.look-w.ensures r.0.0.1 r.0.1 r.1) _ _ (enter-atom c.args.text.now c.args.work.now c.args.h c.requires.1 c.look-w.result c.look-w.ensures _ refl refl _ _ c.atom_at.ensures)
