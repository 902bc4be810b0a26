-- The body of a definition is an atom before the words behind the definition's arguments. Assumes nothing.
use Rattle.term_walk.proofs.LeaveLaws.{definition_facts, definition_done, apply_as}
use Rattle.term_walk.proofs.leaving.leave_definition.Goals as goal

pub behind_atom-requires : goal.behind_atom-requires
behind_atom-requires c = apply_as _ _ _ _ c.left_of.ensures (definition_facts c.args.text.now c.args.work.now c.args.h c.args.l c.args.h.sub c.requires.0 c.requires.1)

pub returns : goal.returns
returns c = definition_done c.args.text.now c.args.work.now c.args.h c.args.l c.args.h.sub c.requires.0 c.requires.1 _ c.left_of.ensures _ c.from.ensures _ _ c.behind_atom.ensures
