-- What the check accepts goes back; the check's refusals are the call's. Assumes nothing.
use native.Mathlib.Omega.{arith}
use Rattle.answers.proofs.Passed.{passed}
use Rattle.net_reader.proofs.Room.{bytes_of}
use Rattle.back.proofs.AnswerLaws.{call_refused, call-accepted, call-good}
use Rattle.back.proofs.back.Goals as goal

pub returned-requires : goal.returned-requires
returned-requires c =
    let k = c.check in
    let b = bytes_of c.args.net.now (λ i. omega (arith, c.type_inv.net i)) in
    call-accepted c.args.lean c.args.net.now c.args.work.now _ k.result k.ensures _ c.in_ok-check.was b

pub returns-in_err-check : goal.returns-in_err-check
returns-in_err-check c =
    let k = c.check in
    rw (passed c.from_residual.result c.from_residual.ensures.1) (call_refused c.args.lean c.args.net.now c.args.work.now _ k.result k.ensures _ c.in_err-check.was c.args.out.now)

pub returns : goal.returns
returns c =
    let k = c.check in
    let b = bytes_of c.args.net.now (λ i. omega (arith, c.type_inv.net i)) in
    call-good c.args.lean c.args.net.now c.args.work.now _ k.result k.ensures _ c.in_ok-check.was b _ c.args.out.now _ c.returned.ensures
