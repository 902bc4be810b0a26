-- By the number of subterms, which have smaller numbers. Assumes nothing.
use native.Mathlib.Omega.{arith}
use mathlib.Core.Path.{sym, ap, ◌∙◌}
use lib.ListN.{length, length-set}
use Rattle.sheet_writer.specs.Bytes.{subterm_count}
use Rattle.sheet_writer.proofs.Writing.{own-fits, first_fits, second_fits, wrote_leaf, wrote_one, wrote-two}
use Rattle.sheet_writer.proofs.+write_term.Goals as goal

pub kind_at-kind-requires : goal.kind_at-kind-requires
kind_at-kind-requires t c = (c.requires.size, c.requires.low)

pub place_at-requires : goal.place_at-requires
place_at-requires t c = (c.requires.size, c.requires.low)

pub offset_bounds-places-count : goal.offset_bounds-places-count
offset_bounds-places-count t c = let o = own-fits c.args.work.now c.args.k c.args.at c.args.count (length c.args.out.now) (length c.args.places.now) c.requires in let b = o.1.0 in let q = o.1.1 in omega arith

pub bounds-places-count : goal.bounds-places-count
bounds-places-count t c = let o = own-fits c.args.work.now c.args.k c.args.at c.args.count (length c.args.out.now) (length c.args.places.now) c.requires in let b = o.1.0 in let q = o.1.1 in omega arith

pub write_record-next-requires : goal.write_record-next-requires
write_record-next-requires t c = let o = own-fits c.args.work.now c.args.k c.args.at c.args.count (length c.args.out.now) (length c.args.places.now) c.requires in (c.requires.size, (c.requires.low, (o.0, o.1.0)))

pub overflow_add-result : goal.overflow_add-result
overflow_add-result t c = let o = own-fits c.args.work.now c.args.k c.args.at c.args.count (length c.args.out.now) (length c.args.places.now) c.requires in let b = o.1.0 in let q = o.1.1 in omega arith

pub shape_of-out-then-n-eq0 : goal.shape_of-out-then-n-eq0
shape_of-out-then-n-eq0 t c = c.write_record-next.auto.out

pub shape_of-places-then-n-eq0 : goal.shape_of-places-then-n-eq0
shape_of-places-then-n-eq0 t c = length-set c.args.places.now c.args.count c.place_at.result

pub returns-then-n-eq0 : goal.returns-then-n-eq0
returns-then-n-eq0 t c = wrote_leaf c.args.work.now c.args.k c.args.at c.args.count c.args.out.now c.args.places.now _ _ _ c.write_record-next.ensures.0 c.write_record-next.ensures.1 c.place_at.ensures c.write_record-next.auto.out (sym (c.subterms-n.ensures ∙ ap subterm_count c.kind_at-kind.ensures) ∙ c.if-n-eq0.true)

pub number_at-left-requires : goal.number_at-left-requires
number_at-left-requires t c = (c.requires.size, (c.requires.low, omega arith))

pub overflow_add-count : goal.overflow_add-count
overflow_add-count t c = let o = own-fits c.args.work.now c.args.k c.args.at c.args.count (length c.args.out.now) (length c.args.places.now) c.requires in let b = o.1.0 in let q = o.1.1 in omega arith

pub write_term-a-requires : goal.write_term-a-requires
write_term-a-requires t c = let s = first_fits c.args.work.now c.args.k c.args.at c.args.count (length c.args.out.now) (length c.args.places.now) c.requires (λ e. c.if-n-eq0.false (c.subterms-n.ensures ∙ ap subterm_count c.kind_at-kind.ensures ∙ e)) _ _ _ _ c.number_at-left.ensures c.write_record-next.ensures.0 c.write_record-next.auto.out (length-set c.args.places.now c.args.count c.place_at.result) in let m = c.decreases in let b = s.0 in (omega arith, s.1)

pub shape_of-out-then-n-eq1 : goal.shape_of-out-then-n-eq1
shape_of-out-then-n-eq1 t c = c.write_term-a.ensures.same ∙ c.write_record-next.auto.out

pub shape_of-places-then-n-eq1 : goal.shape_of-places-then-n-eq1
shape_of-places-then-n-eq1 t c = c.write_term-a.ensures.same_places ∙ length-set c.args.places.now c.args.count c.place_at.result

pub returns-then-n-eq1 : goal.returns-then-n-eq1
returns-then-n-eq1 t c = wrote_one c.args.work.now c.args.k c.args.at c.args.count c.args.out.now c.args.places.now _ _ _ c.write_record-next.ensures.0 c.write_record-next.ensures.1 c.place_at.ensures c.write_record-next.auto.out _ c.number_at-left.ensures _ _ _ c.write_term-a.ensures (sym (c.subterms-n.ensures ∙ ap subterm_count c.kind_at-kind.ensures) ∙ c.if-n-eq1.true)

pub number_at-right-requires : goal.number_at-right-requires
number_at-right-requires t c = (c.requires.size, (c.requires.low, omega arith))

pub write_term-requires : goal.write_term-requires
write_term-requires t c = let s = second_fits c.args.work.now c.args.k c.args.at c.args.count (length c.args.out.now) (length c.args.places.now) c.requires (λ e. c.if-n-eq0.false (c.subterms-n.ensures ∙ ap subterm_count c.kind_at-kind.ensures ∙ e)) (λ e. c.if-n-eq1.false (c.subterms-n.ensures ∙ ap subterm_count c.kind_at-kind.ensures ∙ e)) _ _ _ _ _ c.number_at-left.ensures c.number_at-right.ensures c.write_record-next.ensures.0 _ _ _ _ _ c.write_term-a.ensures (c.write_term-a.ensures.same ∙ c.write_record-next.auto.out) (c.write_term-a.ensures.same_places ∙ length-set c.args.places.now c.args.count c.place_at.result) in let m = c.decreases in let b = s.0 in (omega arith, s.1)

pub shape_of-out : goal.shape_of-out
shape_of-out t c = c.write_term.ensures.same ∙ c.write_term-a.ensures.same ∙ c.write_record-next.auto.out

pub shape_of-places : goal.shape_of-places
shape_of-places t c = c.write_term.ensures.same_places ∙ c.write_term-a.ensures.same_places ∙ length-set c.args.places.now c.args.count c.place_at.result

pub returns : goal.returns
returns t c = wrote-two c.args.work.now c.args.k c.args.at c.args.count c.args.out.now c.args.places.now _ _ _ c.write_record-next.ensures.0 c.write_record-next.ensures.1 c.place_at.ensures c.write_record-next.auto.out _ c.number_at-left.ensures _ _ _ c.write_term-a.ensures (λ e. c.if-n-eq0.false (c.subterms-n.ensures ∙ ap subterm_count c.kind_at-kind.ensures ∙ e)) (λ e. c.if-n-eq1.false (c.subterms-n.ensures ∙ ap subterm_count c.kind_at-kind.ensures ∙ e)) _ c.number_at-right.ensures _ _ _ c.write_term.ensures
