-- `type_walk::names::ask_argument` meets its contract: room is asked for, and the level waits for the argument. Assumes nothing.
use Rattle.words.proofs.WordLaws.{not_yes, not_no}
use Rattle.type_walk.proofs.NameLaws.{argument-full, argument-asked}
use Rattle.type_walk.proofs.names.ask_argument.Goals as goal

pub returns-then-not-has_room : goal.returns-then-not-has_room
returns-then-not-has_room c = rw c.at.ensures (argument-full _ _ _ _ _ _ c.has_room.result c.has_room.ensures (not_yes _ c.if-not-has_room.true-raw))

pub returns : goal.returns
returns c = argument-asked _ _ _ _ _ _ _ _ _ c.has_room.result c.has_room.ensures (not_no _ c.if-not-has_room.false-raw) c.requires.0 c.requires.1.0 c.requires.1.1.0 c.requires.1.1.1 c.flag_of.ensures c.wait.ensures
