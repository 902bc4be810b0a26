-- The invariant: what waits from half `left` on is joined. Assumes nothing.
use Rattle.term_parts.proofs.JoinLaws.{Joining, made_by, place_by, join_by, one_by, none_by, more_by}
use Rattle.term_parts.proofs.joined.join.Given as goal

abbrev pub invariant-loop-left : goal.invariant-loop-left
invariant-loop-left l = Joining (made_by l.by) (place_by l.by) (join_by l.by) (one_by l.by) (none_by l.by) (more_by l.by) l.initial.work l.from l.count l.initial.f l.work l.f l.left
