-- One more atom begins here, or the level is done. Assumes nothing.
use Rattle.term_walk.proofs.AtomLaws.{application_on, application-done}
use Rattle.notation_machine.specs.TermMachine.{some}
use mathlib.Core.Path.{refl}
use Rattle.term_walk.proofs.atoms.application_from.Goals as goal

pub atom_word-w-requires : goal.atom_word-w-requires
atom_word-w-requires c =
    let p = c.requires in
    let w = p.here.scope.walkable in
    (p.readable, record { clauses = p.X.clauses; room = w.room; rows = w.clauses.rows })

pub returns-then-w-eq0 : goal.returns-then-w-eq0
returns-then-w-eq0 c =
    application-done c.args.text.now c.args.work.now c.args.h c.requires.readable (c.atom_word-w.ensures.none c.if-w-eq0.true) _ c.done.ensures

pub atom_at-requires : goal.atom_at-requires
atom_at-requires c =
    let p = c.requires in (
      record {
        can = record { X = p.X; most = p.most; bottom = p.bottom; k = p.k; S = p.S; σ = p.f.state; K = p.K; is = p.is; here = p.here };
        p = record { place = c.args.h.place; function = some p.f };
        left = record { place = refl; function = p.came.term };
      },
      c.atom_word-w.ensures.first c.if-w-eq0.false,
    )

pub returns : goal.returns
returns c =
    application_on c.args.text.now c.args.work.now c.args.h c.requires.readable (c.atom_word-w.ensures.begins c.if-w-eq0.false) _ _ c.atom_at.ensures
