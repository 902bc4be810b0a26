-- `words::next` meets its contract. The invariant: the gap from the start ends where the gap from here does. The measure is the bytes left.
-- Assumes nothing.
use mathlib.Core.Path.{◌≡◌, ◌∙◌}
use mathlib.Core.Bool.{false}
use native.Mathlib.Omega.{arith}
use lib.ListN.{get_or}
use Rattle.words.proofs.WordLaws.{gap-blank, gap-past}
use Rattle.words.proofs.ClassLaws.{class_stops, class_blank, class_other}
use Rattle.words.proofs.LexLaws.{next-end, next_word, word-sign}
use Rattle.words.proofs.next.Goals as goal

pub returns-then-k-gt1 : goal.returns-then-k-gt1
returns-then-k-gt1 c =
    let a = c.args in
    let l = c.loop-start in
    let h = c.loop-start-test.true in
    let k = c.class-k in
    let stops = class_stops a.text.now l.start k.result h k.ensures c.if-k-gt1.true in
    c.word_by.ensures ∙ next_word a.text.now a.at l.start (omega (arith, stops, l.invariant.1)) h

pub loop-start-preserved-then-k-eq1 : goal.loop-start-preserved-then-k-eq1
loop-start-preserved-then-k-eq1 c =
    let a = c.args in
    let l = c.loop-start in
    let h = c.loop-start-test.true in
    let k = c.class-k in
    let on = gap-blank a.text.now l.start h (class_blank (get_or a.text.now l.start 0) k.result k.ensures c.if-k-eq1.true) in
    (c.blanks_end-start-then-k-eq1.ensures.1.0, omega (arith, on, l.invariant.1, c.blanks_end-start-then-k-eq1.ensures.1.1))

pub returns-then-past-start : goal.returns-then-past-start
returns-then-past-start c =
    let a = c.args in
    let l = c.loop-start in
    let h = c.loop-start-test.true in
    let k = c.class-k in
    let z : k.result ≡ 0 = omega (arith, c.if-k-gt1.false, c.if-k-eq1.false) in
    let stops = c.step-past.ensures.3 c.if-past-start.true in
    let rest = class_other (get_or a.text.now l.start 0) k.result k.ensures z in
    c.sign_at.ensures ∙ word-sign a.text.now l.start rest.1 rest.2 ∙ next_word a.text.now a.at l.start (omega (arith, stops, l.invariant.1)) h

pub returns : goal.returns
returns c =
    let a = c.args in
    let l = c.loop-start in
    let past = gap-past a.text.now l.start false c.loop-start-test.false in
    next-end a.text.now a.at l.start (omega (arith, past, l.invariant.1)) c.loop-start-test.false
