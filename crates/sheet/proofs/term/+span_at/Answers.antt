-- `sheet::span_at` meets its contract. The measure is the depth left. Assumes nothing.
use mathlib.Core.Path.{sym, ap, ◌∙◌}
use native.Mathlib.Omega.{arith}
use Rattle.answers.proofs.Passed.{passed}
use Rattle.sheet.specs.Said.{said_head, said_span}
use Rattle.sheet.proofs.SpanLaws.{open_tells, span_bad, span_none, span_one, span_two_good, span_first_bad}
use Rattle.sheet.proofs.term.+span_at.Goals as goal

pub returns-in_err-head : goal.returns-in_err-head
returns-in_err-head t c =
    ap said_span (passed _ c.from_residual.ensures.1) ∙ span_bad _ _ _ _ _ _ (ap said_head (sym c.in_err-head.was) ∙ c.head_at.ensures)

pub overflow_add-nodes : goal.overflow_add-nodes
overflow_add-nodes t c =
    let e = ap said_head (sym c.in_ok-head.was) ∙ c.head_at.ensures in
    record { fits = omega (arith, open_tells _ _ _ _ _ _ e) }

pub returns-then-head-eq0 : goal.returns-then-head-eq0
returns-then-head-eq0 t c =
    let e = ap said_head (sym c.in_ok-head.was) ∙ c.head_at.ensures in
    span_none _ _ _ _ _ _ e c.if-head-eq0.true

pub overflow_sub-more : goal.overflow_sub-more
overflow_sub-more t c =
    let e = ap said_head (sym c.in_ok-head.was) ∙ c.head_at.ensures in
    (open_tells _ _ _ _ _ _ e).deep

pub span_at-requires : goal.span_at-requires
span_at-requires t c =
    let e = ap said_head (sym c.in_ok-head.was) ∙ c.head_at.ensures in
    let w = open_tells _ _ _ _ _ _ e in
    (omega (arith, w.deep, c.decreases), tt)

pub returns-in_err-first : goal.returns-in_err-first
returns-in_err-first t c =
    let e = ap said_head (sym c.in_ok-head.was) ∙ c.head_at.ensures in
    ap said_span (passed _ c.from_residual-in_err-first.ensures.1) ∙ span_first_bad _ _ _ _ _ _ e c.if-head-eq0.false (ap said_span (sym c.in_err-first.was) ∙ c.span_at.ensures)

pub returns-then-head-eq1 : goal.returns-then-head-eq1
returns-then-head-eq1 t c =
    let e = ap said_head (sym c.in_ok-head.was) ∙ c.head_at.ensures in
    ap said_span (sym c.in_ok-first.was) ∙ c.span_at.ensures ∙ span_one _ _ _ _ _ _ e c.if-head-eq1.true

pub overflow_sub-more-2 : goal.overflow_sub-more-2
overflow_sub-more-2 t c =
    let e = ap said_head (sym c.in_ok-head.was) ∙ c.head_at.ensures in
    (open_tells _ _ _ _ _ _ e).deep

pub span_at-requires-2 : goal.span_at-requires-2
span_at-requires-2 t c =
    let e = ap said_head (sym c.in_ok-head.was) ∙ c.head_at.ensures in
    let w = open_tells _ _ _ _ _ _ e in
    (omega (arith, w.deep, c.decreases), tt)

pub returns : goal.returns
returns t c =
    let e = ap said_head (sym c.in_ok-head.was) ∙ c.head_at.ensures in
    c.span_at-2.ensures ∙ span_two_good _ _ _ _ _ _ e c.if-head-eq0.false c.if-head-eq1.false (ap said_span (sym c.in_ok-first.was) ∙ c.span_at.ensures)
