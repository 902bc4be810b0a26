-- By the number of body bytes. Assumes nothing.
use native.Mathlib.Omega.{arith}
use native.Mathlib.Numerals.{add-one, add-two}
use mathlib.Core.Path.{sym, ◌∙◌}
use lib.ListN.{length-set}
use Rattle.sheet_writer.proofs.Views.{record_length}
use Rattle.sheet_writer.proofs.RecordLaws.{body-none, body_one, body_more, two-more}
use Rattle.sheet_writer.proofs.write_record.Goals as goal

pub bounds-out-at : goal.bounds-out-at
bounds-out-at c = let p = c.requires.1.1.1 in omega (arith, record_length c.args.work.now c.args.k)

pub returns-then-n-eq0 : goal.returns-then-n-eq0
returns-then-n-eq0 c = (omega (arith, record_length c.args.work.now c.args.k, c.body_bytes-n.ensures), rw (body-none c.args.work.now c.args.k (sym c.body_bytes-n.ensures ∙ c.if-n-eq0.true)))

pub overflow_cast-out-2 : goal.overflow_cast-out-2
overflow_cast-out-2 c = omega (arith, c.requires.1.1.0.body (omega (arith, c.body_bytes-n.ensures)))

pub bounds-out-at-2 : goal.bounds-out-at-2
bounds-out-at-2 c = let p = c.requires.1.1.1 in simp length-set (omega (arith, record_length c.args.work.now c.args.k, c.body_bytes-n.ensures))

pub returns-then-n-eq1 : goal.returns-then-n-eq1
returns-then-n-eq1 c = (omega (arith, record_length c.args.work.now c.args.k, c.body_bytes-n.ensures), rw (body_one c.args.work.now c.args.k (sym c.body_bytes-n.ensures ∙ c.if-n-eq1.true)) (rw add-one))

pub overflow_cast-out-3 : goal.overflow_cast-out-3
overflow_cast-out-3 c = omega (arith, c.requires.1.1.0.left (omega (arith, c.body_bytes-n.ensures)))

pub bounds-out-at-3 : goal.bounds-out-at-3
bounds-out-at-3 c = let p = c.requires.1.1.1 in simp length-set (omega (arith, record_length c.args.work.now c.args.k, c.body_bytes-n.ensures))

pub returns : goal.returns
returns c = (omega (arith, record_length c.args.work.now c.args.k, two-more c.args.work.now c.args.k (λ e. c.if-n-eq0.false (c.body_bytes-n.ensures ∙ e)) (λ e. c.if-n-eq1.false (c.body_bytes-n.ensures ∙ e))), rw (body_more c.args.work.now c.args.k (λ e. c.if-n-eq0.false (c.body_bytes-n.ensures ∙ e)) (λ e. c.if-n-eq1.false (c.body_bytes-n.ensures ∙ e))) (rw (add-one, add-two)))
