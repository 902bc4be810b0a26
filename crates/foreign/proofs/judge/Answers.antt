-- By the walk, then by the table. Assumes nothing.
use native.Mathlib.Omega.{arith}
use Rattle.answers.proofs.Passed.{passed}
use Rattle.net_reader.proofs.Room.{bytes_of}
use Rattle.foreign.proofs.JudgeLaws.{judged_off, judged_low, judged-good, judged-23}
use Rattle.foreign.proofs.judge.Goals as goal

pub returns-in_err-next : goal.returns-in_err-next
returns-in_err-next c =
    let a = c.args in
    let x = bytes_of a.net.now (λ i. omega (arith, c.type_inv.net i)) in
    let q = c.walk in
    let p = passed c.from_residual.result c.from_residual.ensures.1 in
    rw p (judged_off a.lean a.net.now x q.result _ q.ensures.0 _ c.in_err-next.was, q.ensures.1)

pub undriven-requires : goal.undriven-requires
undriven-requires c =
    let a = c.args in
    let x = bytes_of a.net.now (λ i. omega (arith, c.type_inv.net i)) in
    let q = c.walk in
    omega (arith, judged_low a.lean a.net.now x q.result _ q.ensures.0 _ c.in_ok-next.was, q.ensures.1.same, c.requires.size)

pub returns-in-Some : goal.returns-in-Some
returns-in-Some c =
    let a = c.args in
    let x = bytes_of a.net.now (λ i. omega (arith, c.type_inv.net i)) in
    let q = c.walk in
    let z = c.in-Some.ensures.some in
    (rw c.at.ensures (judged-23 a.lean a.net.now x q.result _ q.ensures.0 _ c.in_ok-next.was c.in-Some.i z.0 z.1 z.2), q.ensures.1)

pub returns-in-None : goal.returns-in-None
returns-in-None c =
    let a = c.args in
    let x = bytes_of a.net.now (λ i. omega (arith, c.type_inv.net i)) in
    let q = c.walk in
    (judged-good a.lean a.net.now x q.result _ q.ensures.0 _ c.in_ok-next.was c.in-None.ensures.none, q.ensures.1)
