-- `type_walk::names::put_type` meets its contract: the definition is put in with a frame of its own, and its body is wanted. Assumes nothing.
use Rattle.answers.proofs.Passed.{passed}
use Rattle.type_walk.proofs.NameLaws.{can_put, put_refused, can-ask-body, put-came}
use Rattle.type_walk.proofs.names.put_type.Goals as goal

pub put_in-requires : goal.put_in-requires
put_in-requires c = can_put _ _ _ _ _ _ c.requires.0 c.requires.1.0 c.requires.1.1.0 c.requires.1.1.1

pub ask_body-requires : goal.ask_body-requires
ask_body-requires c = can-ask-body _ _ _ _ _ _ _ _ _ c.in_ok-p.was c.put_in.ensures c.requires.0

pub returns : goal.returns
returns c = put-came _ _ _ _ _ _ _ _ _ c.in_ok-p.was c.put_in.ensures _ _ c.ask_body.ensures

pub returns-in_err-p : goal.returns-in_err-p
returns-in_err-p c = rw (passed c.from_residual.result c.from_residual.ensures.1) (put_refused _ _ _ _ _ _ _ _ _ c.in_err-p.was c.put_in.ensures)
