-- By the code of the first word. Assumes nothing.
use Rattle.term_walk.proofs.StepLaws.{made-behind, made_refused_lem}
use Rattle.term_walk.specs.Steps.{AtomSays, CanApplyMade, BehindSays, named_entry}
use mathlib.Core.Path.{subst, ap, ◌∙◌}
use Rattle.std.specs.Prelude.{Option}
use Rattle.made_nodes.specs.declared.Sub.{Sub}
use Rattle.std.proofs.lemmas.Result.{err_from_is_err_and}
use Rattle.term_walk.proofs.AtomLaws.{enter-room, enter_workable, can_made, atom_round, atom_part, atom_name, atom_none}
use Rattle.term_walk.proofs.StepLaws.{can_ask}
use mathlib.Core.Path.{refl}
use native.Mathlib.Omega.{arith}
use Rattle.term_walk.specs.Steps.{left_here, part_level}
use Rattle.term_walk.proofs.atoms.atom_at.Goals as goal

pub ask-requires : goal.ask-requires
ask-requires c = can_ask c.args.text.now c.args.work.now c.args.h c.requires.0.can _ refl

pub returns-then-kind-eq-ROUND : goal.returns-then-kind-eq-ROUND
returns-then-kind-eq-ROUND c =
    let a = c.args in
    let can = can_ask a.text.now a.work.now a.h c.requires.0.can _ refl in
    let level = c.part_level-l.ensures ∙ ap (λ (f : Option Sub). part_level 7 (record { place = a.place; function = f }) 0 0) c.so_far-function.ensures in
    atom_round a.text.now a.work.now a.h (left_here a.h a.place a.applied) _ c.requires.1 can c.if-kind-eq-ROUND.true _ level _ _ c.ask.ensures

pub part-requires : goal.part-requires
part-requires c = enter_workable c.args.text.now c.args.work.now c.args.h c.requires.0.can

pub behind_atom-requires : goal.behind_atom-requires
behind_atom-requires c =
    let a = c.args in
    let s = left_here a.h a.place a.applied in
    rw c.so_far-function.ensures (subst (CanApplyMade c.part.new.work s) c.in_ok-made.was (can_made a.text.now a.work.now a.h s c.requires.0 _ c.part.ensures.only c.part.result c.part.ensures.small))

pub returns-then-kind-eq-PART : goal.returns-then-kind-eq-PART
returns-then-kind-eq-PART c =
    let a = c.args in
    let s = left_here a.h a.place a.applied in
    let behind = subst (λ (f : Option Sub). BehindSays c.part.new.work a.h (record { place = a.place; function = f }) c.in_ok-made.made a.end c.behind_atom.result c.behind_atom.new.work) c.so_far-function.ensures c.behind_atom.ensures in
    atom_part a.text.now a.work.now a.h s _ c.requires.1 (enter-room a.text.now a.work.now a.h c.requires.0.can).0 (enter-room a.text.now a.work.now a.h c.requires.0.can).1 c.if-kind-eq-PART.true _ _ c.part.ensures _ _ (made-behind c.part.new.work a.h s c.part.result a.end _ c.in_ok-made.was _ _ behind)

pub named_at-requires : goal.named_at-requires
named_at-requires c =
    let p = c.requires in
    (rw c.so_far-function.ensures p.0, (p.1.onward (λ z. absurd (omega (arith, z, c.if-kind-eq-NAME.true))), (p.1.inside, p.1.long c.if-kind-eq-NAME.true)))

pub returns-then-kind-eq-NAME : goal.returns-then-kind-eq-NAME
returns-then-kind-eq-NAME c =
    let a = c.args in
    let named = subst (λ (f : Option Sub). AtomSays a.text.now a.work.now a.h (record { place = a.place; function = f }) (named_entry a.text.now a.start a.end) c.named_at.result c.named_at.new.work) c.so_far-function.ensures c.named_at.ensures in
    atom_name a.text.now a.work.now a.h (left_here a.h a.place a.applied) _ c.requires.1 c.if-kind-eq-NAME.true _ _ named

pub returns : goal.returns
returns c = rw c.at.ensures (atom_none c.args.text.now c.args.work.now c.args.h (left_here c.args.h c.args.place c.args.applied) _ c.requires.1 c.if-kind-eq-ROUND.false c.if-kind-eq-PART.false c.if-kind-eq-NAME.false)

pub returns-in_err-made : goal.returns-in_err-made
returns-in_err-made c =
    let a = c.args in
    let s = left_here a.h a.place a.applied in
    let p = err_from_is_err_and c.from_residual.result c.from_residual.ensures.1 in
    rw (p.1, p.2) (atom_part a.text.now a.work.now a.h s _ c.requires.1 (enter-room a.text.now a.work.now a.h c.requires.0.can).0 (enter-room a.text.now a.work.now a.h c.requires.0.can).1 c.if-kind-eq-PART.true _ _ c.part.ensures _ _ (made_refused_lem c.part.new.work a.h s c.part.result a.end _ c.in_err-made.was))
