-- The counts, then what fits. Assumes nothing.
use native.Mathlib.Omega.{arith}
use Rattle.back.specs.Gates.{net_here}
use Rattle.back.proofs.AnswerLaws.{says_none, says-many, says-open, says-within}
use Rattle.back.proofs.limited.Goals as goal

pub returns-then-parts-eq0 : goal.returns-then-parts-eq0
returns-then-parts-eq0 c =
    let n = c.requires.0.count in
    rw c.at.ensures (says_none (net_here c.args.net.now) c.args.out.now (omega arith))

pub returns-then-parts-gt16 : goal.returns-then-parts-gt16
returns-then-parts-gt16 c =
    let n = c.requires.0.count in
    rw c.at-then-parts-gt16.ensures (says-many (net_here c.args.net.now) c.args.out.now (omega arith))

pub returns-then-counts-gt24 : goal.returns-then-counts-gt24
returns-then-counts-gt24 c =
    let n = c.requires.0.count in
    let u = c.count_inputs-counts.ensures.undriven in
    rw c.at-then-counts-gt24.ensures (says-open (net_here c.args.net.now) c.args.out.now (omega arith) (omega arith) (omega arith))

pub returns : goal.returns
returns c =
    let n = c.requires.0.count in
    let u = c.count_inputs-counts.ensures.undriven in
    says-within (net_here c.args.net.now) c.args.out.now _ _ (omega arith) (omega arith) (omega arith) c.fitted.ensures
