-- Each way out by its law. Assumes nothing.
use native.Mathlib.Omega.{arith}
use mathlib.Core.Path.{refl, ap₂, ◌∙◌}
use Prim.Native.Nat.{◌+◌}
use Rattle.making_memory.specs.Map.{type_count_at}
use lib.ListN.{get_or}
use Rattle.sheet_writer.proofs.Measuring.{small_span}
use Rattle.sheet_writer.proofs.TypeRecords.{types_most}
use Rattle.sheet_writer.proofs.SheetLaws.{opening_most, sheet-short, sheet-few, opening-fits, types-fit, term_fits, sheet-written}
use Rattle.sheet_writer.proofs.write.Goals as goal

pub opening_length-requires : goal.opening_length-requires
opening_length-requires c = c.requires.types.room

pub types_length-requires : goal.types_length-requires
types_length-requires c = let ct = c.requires.types.count in let fw = c.requires.types.ok.few in (c.requires.types.room, omega arith)

pub overflow_add-head : goal.overflow_add-head
overflow_add-head c = let ct = c.requires.types.count in let fw = c.requires.types.ok.few in omega (arith, c.opening_length.ensures, c.types_length.ensures, opening_most c.args.work.now, types_most c.args.work.now (get_or c.args.work.now type_count_at 0))

pub measure-m-requires : goal.measure-m-requires
measure-m-requires c = c.requires.term

pub overflow_add-bytes : goal.overflow_add-bytes
overflow_add-bytes c = let ct = c.requires.types.count in let fw = c.requires.types.ok.few in let s = small_span c.args.work.now c.args.root c.requires.term _ c.measure-m.ensures in omega (arith, c.opening_length.ensures, c.types_length.ensures, opening_most c.args.work.now, types_most c.args.work.now (get_or c.args.work.now type_count_at 0), s.0)

pub returns-then-out-bytes : goal.returns-then-out-bytes
returns-then-out-bytes c = rw c.at.ensures (sheet-short c.args.work.now c.args.root _ c.args.out.now c.args.places.now refl c.measure-m.result c.measure-m.ensures _ (ap₂ (λ x y. x + y) (ap₂ (λ x y. x + y) c.opening_length.ensures c.types_length.ensures) refl) c.if-out-bytes.true)

pub returns-then-places-nodes : goal.returns-then-places-nodes
returns-then-places-nodes c = rw c.at-then-places-nodes.ensures (sheet-few c.args.work.now c.args.root _ c.args.out.now c.args.places.now refl c.measure-m.result c.measure-m.ensures _ (ap₂ (λ x y. x + y) (ap₂ (λ x y. x + y) c.opening_length.ensures c.types_length.ensures) refl) c.if-out-bytes.false c.if-places-nodes.true)

pub write_opening-from-requires : goal.write_opening-from-requires
write_opening-from-requires c = (c.requires.types.room, opening-fits c.args.work.now c.args.root _ c.args.out.now c.args.places.now refl c.measure-m.result c.measure-m.ensures _ (ap₂ (λ x y. x + y) (ap₂ (λ x y. x + y) c.opening_length.ensures c.types_length.ensures) refl) c.if-out-bytes.false c.if-places-nodes.false)

pub write_types-at-requires : goal.write_types-at-requires
write_types-at-requires c = types-fit c.args.work.now c.args.root _ c.args.out.now c.args.places.now refl c.measure-m.result c.measure-m.ensures _ (ap₂ (λ x y. x + y) (ap₂ (λ x y. x + y) c.opening_length.ensures c.types_length.ensures) refl) c.if-out-bytes.false c.if-places-nodes.false c.requires _ _ c.write_opening-from.auto.out c.write_opening-from.ensures.0

pub write_term-requires : goal.write_term-requires
write_term-requires c = term_fits c.args.work.now c.args.root _ c.args.out.now c.args.places.now refl c.measure-m.result c.measure-m.ensures _ (ap₂ (λ x y. x + y) (ap₂ (λ x y. x + y) c.opening_length.ensures c.types_length.ensures) refl) c.if-out-bytes.false c.if-places-nodes.false c.requires _ _ _ _ (c.write_types-at.auto.out ∙ c.write_opening-from.auto.out) refl c.write_opening-from.ensures.0 c.write_types-at.ensures.0

pub returns : goal.returns
returns c = sheet-written c.args.work.now c.args.root _ c.args.out.now c.args.places.now refl c.measure-m.result c.measure-m.ensures _ (ap₂ (λ x y. x + y) (ap₂ (λ x y. x + y) c.opening_length.ensures c.types_length.ensures) refl) c.if-out-bytes.false c.if-places-nodes.false _ _ _ _ _ _ _ c.write_opening-from.ensures.0 c.write_opening-from.ensures.1 c.write_types-at.ensures.0 c.write_types-at.ensures.1 c.write_term.ensures
