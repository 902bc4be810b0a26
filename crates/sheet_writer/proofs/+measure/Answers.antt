-- By the number of subterms, which have smaller numbers. Assumes nothing.
use native.Mathlib.Omega.{arith}
use mathlib.Core.Path.{sym, ap, ◌∙◌}
use Rattle.sheet_writer.specs.Bytes.{body_bytes, subterm_count}
use Rattle.sheet_writer.proofs.Views.{body_most}
use Rattle.sheet_writer.proofs.Measuring.{first-stands, second-stands, small_span, measure-leaf, measure-one, measure-two}
use Prim.Native.Nat.{ℕ, ◌+◌}
use Rattle.sheet_writer.proofs.+measure.Goals as goal

pub kind_at-kind-requires : goal.kind_at-kind-requires
kind_at-kind-requires t c = (c.requires.size, c.requires.low)

pub overflow_add-own : goal.overflow_add-own
overflow_add-own t c = let b = body_most c.kind_at-kind.result in let o = c.body_bytes-own.ensures in omega arith

pub returns-then-n-eq0 : goal.returns-then-n-eq0
returns-then-n-eq0 t c = measure-leaf c.args.work.now c.args.k _ (ap (λ (n : ℕ). n + 1) (c.body_bytes-own.ensures ∙ ap body_bytes c.kind_at-kind.ensures)) (sym (c.subterms-n.ensures ∙ ap subterm_count c.kind_at-kind.ensures) ∙ c.if-n-eq0.true)

pub number_at-left-requires : goal.number_at-left-requires
number_at-left-requires t c = (c.requires.size, (c.requires.low, omega arith))

pub measure-a-requires : goal.measure-a-requires
measure-a-requires t c = let s = first-stands c.args.work.now c.args.k c.requires (λ e. c.if-n-eq0.false (c.subterms-n.ensures ∙ ap subterm_count c.kind_at-kind.ensures ∙ e)) _ c.number_at-left.ensures in let m = c.decreases in let b = s.0 in (omega arith, s.1)

pub overflow_add-result : goal.overflow_add-result
overflow_add-result t c = let b = body_most c.kind_at-kind.result in let o = c.body_bytes-own.ensures in let s = first-stands c.args.work.now c.args.k c.requires (λ e. c.if-n-eq0.false (c.subterms-n.ensures ∙ ap subterm_count c.kind_at-kind.ensures ∙ e)) _ c.number_at-left.ensures in let a = small_span c.args.work.now _ s.1 _ c.measure-a.ensures in omega arith

pub overflow_add-result-then-n-eq1 : goal.overflow_add-result-then-n-eq1
overflow_add-result-then-n-eq1 t c = let b = body_most c.kind_at-kind.result in let o = c.body_bytes-own.ensures in let s = first-stands c.args.work.now c.args.k c.requires (λ e. c.if-n-eq0.false (c.subterms-n.ensures ∙ ap subterm_count c.kind_at-kind.ensures ∙ e)) _ c.number_at-left.ensures in let a = small_span c.args.work.now _ s.1 _ c.measure-a.ensures in omega arith

pub returns-then-n-eq1 : goal.returns-then-n-eq1
returns-then-n-eq1 t c = measure-one c.args.work.now c.args.k _ (ap (λ (n : ℕ). n + 1) (c.body_bytes-own.ensures ∙ ap body_bytes c.kind_at-kind.ensures)) (sym (c.subterms-n.ensures ∙ ap subterm_count c.kind_at-kind.ensures) ∙ c.if-n-eq1.true) _ c.number_at-left.ensures _ c.measure-a.ensures

pub number_at-right-requires : goal.number_at-right-requires
number_at-right-requires t c = (c.requires.size, (c.requires.low, omega arith))

pub measure-b-requires : goal.measure-b-requires
measure-b-requires t c = let s = second-stands c.args.work.now c.args.k c.requires (λ e. c.if-n-eq0.false (c.subterms-n.ensures ∙ ap subterm_count c.kind_at-kind.ensures ∙ e)) (λ e. c.if-n-eq1.false (c.subterms-n.ensures ∙ ap subterm_count c.kind_at-kind.ensures ∙ e)) _ c.number_at-right.ensures in let m = c.decreases in let b = s.0 in (omega arith, s.1)

pub overflow_add-result-2 : goal.overflow_add-result-2
overflow_add-result-2 t c = let b = body_most c.kind_at-kind.result in let o = c.body_bytes-own.ensures in let s = first-stands c.args.work.now c.args.k c.requires (λ e. c.if-n-eq0.false (c.subterms-n.ensures ∙ ap subterm_count c.kind_at-kind.ensures ∙ e)) _ c.number_at-left.ensures in let a = small_span c.args.work.now _ s.1 _ c.measure-a.ensures in let s2 = second-stands c.args.work.now c.args.k c.requires (λ e. c.if-n-eq0.false (c.subterms-n.ensures ∙ ap subterm_count c.kind_at-kind.ensures ∙ e)) (λ e. c.if-n-eq1.false (c.subterms-n.ensures ∙ ap subterm_count c.kind_at-kind.ensures ∙ e)) _ c.number_at-right.ensures in let a2 = small_span c.args.work.now _ s2.1 _ c.measure-b.ensures in omega arith

pub overflow_add-result-3 : goal.overflow_add-result-3
overflow_add-result-3 t c = let b = body_most c.kind_at-kind.result in let o = c.body_bytes-own.ensures in let s = first-stands c.args.work.now c.args.k c.requires (λ e. c.if-n-eq0.false (c.subterms-n.ensures ∙ ap subterm_count c.kind_at-kind.ensures ∙ e)) _ c.number_at-left.ensures in let a = small_span c.args.work.now _ s.1 _ c.measure-a.ensures in let s2 = second-stands c.args.work.now c.args.k c.requires (λ e. c.if-n-eq0.false (c.subterms-n.ensures ∙ ap subterm_count c.kind_at-kind.ensures ∙ e)) (λ e. c.if-n-eq1.false (c.subterms-n.ensures ∙ ap subterm_count c.kind_at-kind.ensures ∙ e)) _ c.number_at-right.ensures in let a2 = small_span c.args.work.now _ s2.1 _ c.measure-b.ensures in omega arith

pub overflow_add-result-4 : goal.overflow_add-result-4
overflow_add-result-4 t c = let b = body_most c.kind_at-kind.result in let o = c.body_bytes-own.ensures in let s = first-stands c.args.work.now c.args.k c.requires (λ e. c.if-n-eq0.false (c.subterms-n.ensures ∙ ap subterm_count c.kind_at-kind.ensures ∙ e)) _ c.number_at-left.ensures in let a = small_span c.args.work.now _ s.1 _ c.measure-a.ensures in let s2 = second-stands c.args.work.now c.args.k c.requires (λ e. c.if-n-eq0.false (c.subterms-n.ensures ∙ ap subterm_count c.kind_at-kind.ensures ∙ e)) (λ e. c.if-n-eq1.false (c.subterms-n.ensures ∙ ap subterm_count c.kind_at-kind.ensures ∙ e)) _ c.number_at-right.ensures in let a2 = small_span c.args.work.now _ s2.1 _ c.measure-b.ensures in omega arith

pub overflow_add-result-5 : goal.overflow_add-result-5
overflow_add-result-5 t c = let b = body_most c.kind_at-kind.result in let o = c.body_bytes-own.ensures in let s = first-stands c.args.work.now c.args.k c.requires (λ e. c.if-n-eq0.false (c.subterms-n.ensures ∙ ap subterm_count c.kind_at-kind.ensures ∙ e)) _ c.number_at-left.ensures in let a = small_span c.args.work.now _ s.1 _ c.measure-a.ensures in let s2 = second-stands c.args.work.now c.args.k c.requires (λ e. c.if-n-eq0.false (c.subterms-n.ensures ∙ ap subterm_count c.kind_at-kind.ensures ∙ e)) (λ e. c.if-n-eq1.false (c.subterms-n.ensures ∙ ap subterm_count c.kind_at-kind.ensures ∙ e)) _ c.number_at-right.ensures in let a2 = small_span c.args.work.now _ s2.1 _ c.measure-b.ensures in omega arith

pub returns : goal.returns
returns t c = measure-two c.args.work.now c.args.k _ (ap (λ (n : ℕ). n + 1) (c.body_bytes-own.ensures ∙ ap body_bytes c.kind_at-kind.ensures)) (λ e. c.if-n-eq0.false (c.subterms-n.ensures ∙ ap subterm_count c.kind_at-kind.ensures ∙ e)) (λ e. c.if-n-eq1.false (c.subterms-n.ensures ∙ ap subterm_count c.kind_at-kind.ensures ∙ e)) _ _ c.number_at-left.ensures c.number_at-right.ensures _ _ c.measure-a.ensures c.measure-b.ensures
