-- `words::check_words` meets its contract. The invariant: the words from here on decide. The measure is the bytes left. Assumes nothing.
use native.Mathlib.Omega.{arith}
use mathlib.Core.Path.{sym, ap, subst, ◌∙◌}
use Rattle.std.proofs.Common.{Err}
use Rattle.answers.specs.declared.Reason.{Reason}
use Rattle.answers.specs.declared.Refusal.{Refusal}
use Rattle.answers.specs.Refusals.{refusal_at}
use Rattle.words.specs.Lexed.{Passed}
use Rattle.words.proofs.LexLaws.{went, passed_bad, passed_good}
use Rattle.words.proofs.check_words.Goals as goal

pub returns-then-w-gt-POWER : goal.returns-then-w-gt-POWER
returns-then-w-gt-POWER c =
    let step = went c.args.text.now c.loop-at.at c.loop-at.invariant c.loop-at-test.true _ c.next-w.ensures in
    let w = c.next-w.result in
    subst (λ (why : Refusal). Passed c.args.text.now (Err why)) (sym (c.at.ensures ∙ ap (λ (r : Reason). refusal_at r w.start) c.reason.ensures)) (passed_bad c.args.text.now c.loop-at.at c.loop-at.invariant w.kind w.start (step.named c.if-w-gt-POWER.true) (step.bad c.if-w-gt-POWER.true))

pub loop-at-smaller : goal.loop-at-smaller
loop-at-smaller c =
    let step = went c.args.text.now c.loop-at.at c.loop-at.invariant c.loop-at-test.true _ c.next-w.ensures in
    omega (arith, step.past c.if-w-gt-POWER.false, (step.on c.if-w-gt-POWER.false).within)

pub loop-at-preserved : goal.loop-at-preserved
loop-at-preserved c = (went c.args.text.now c.loop-at.at c.loop-at.invariant c.loop-at-test.true _ c.next-w.ensures).on c.if-w-gt-POWER.false

pub returns : goal.returns
returns c = passed_good c.args.text.now c.loop-at.at c.loop-at.invariant c.loop-at-test.false
