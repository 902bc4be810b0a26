-- `sheet::read_types` meets its contract. The invariant: the records so far are in order, what is left to read is what there was
-- (`SoFar`), and the keys are theirs. The measure is the bytes left. Assumes nothing.
use Prim.Native.Nat.{ℕ, ◌+◌, ◌<◌, ◌≤◌}
use mathlib.Core.Path.{sym, ap, ◌∙◌}
use mathlib.Core.List.{List}
use mathlib.Core.Bool.{false}
use native.Mathlib.Omega.{arith}
use borrow.Author.Rules.{rules}
use lib.ListN.{length, length-set, length-replicate}
use Rattle.calculus.specs.Types.{TyRec}
use Rattle.records.proofs.Laws.{type_next}
use Rattle.sheet.specs.Tables.{table_in, size_of, said_checked}
use Rattle.sheet.specs.Keys.{key_of}
use Rattle.sheet.proofs.TableLaws.{table-count}
use Rattle.records.proofs.ToldLaws.{sizes-length}
use Rattle.sheet.proofs.TypesLaws.{SoFar, first, next-type, type_is, type_refused, types-cut_off, types-done}
use Rattle.sheet.proofs.KeyLaws.{keyed_more}
use Rattle.sheet.proofs.KindLaws.{type_here_lem}
use Rattle.std.specs.declared.result.Result.TheVariants.{Ok}
use Rattle.answers.proofs.Passed.{passed}
use Rattle.sheet.specs.Said.{said_types}
use Rattle.sheet.proofs.types.read_types.Goals as goal

-- the types so far are 256 at most, and fewer where one more is taken
some-types : {s sizes : List ℕ} {at count : ℕ} → SoFar s at count sizes → count ≤ 256
some-types {s} {sizes} {at} {count} i = let n = i.before.ok.few in omega (arith, table-count s count)

one_more : {s sizes : List ℕ} {at count : ℕ} → SoFar s at (count + 1) sizes → count < 256
one_more {s} {sizes} {at} {count} i = let n = i.before.ok.few in omega (arith, table-count s (count + 1))

pub loop-f-init : goal.loop-f-init
loop-f-init c = (rw c.no_sizes-sizes.ensures (first c.args.s.now), (λ t h. absurd (omega arith)), ap length c.no_keys-keys.ensures ∙ length-replicate {A = ℕ} 256 0)

pub returns-in_err-f : goal.returns-in_err-f
returns-in_err-f c =
    let l = c.loop-f in
    ap said_types (passed _ c.from_residual.ensures.1) ∙ types-cut_off c.args.s.now l.at l.count l.sizes l.invariant.0 (sym c.record_at.ensures ∙ c.in_err-f.was)

pub slice_bounds-check_type-end : goal.slice_bounds-check_type-end
slice_bounds-check_type-end c =
    let b = c.loop-f.invariant.0.before in
    sym (ap length b.sizes_are ∙ sizes-length (table_in c.args.s.now c.loop-f.count) b.ok.few)

pub check_type-requires : goal.check_type-requires
check_type-requires c = let i = c.loop-f.invariant in (i.0.before, i.1)

pub returns-in_err-sizes : goal.returns-in_err-sizes
returns-in_err-sizes c =
    let s = c.args.s.now in
    let l = c.loop-f in
    let t = type_here_lem s l.at (sym c.record_at.ensures ∙ c.in_ok-f.was ∙ ap Ok c.in-Type.is) in
    let o = c.check_type.ensures ∙ ap (λ (q : TyRec). size_of (table_in s l.count) q l.at) t.said in
    let e = ap said_checked (sym c.in_err-sizes.was) ∙ o in
    ap said_types (passed _ c.from_residual-in_err-sizes.ensures.1) ∙ type_refused s l.at t l.count l.sizes l.invariant.0 _ e

pub bounds-sizes-count : goal.bounds-sizes-count
bounds-sizes-count c =
    let s = c.args.s.now in
    let l = c.loop-f in
    let t = type_here_lem s l.at (sym c.record_at.ensures ∙ c.in_ok-f.was ∙ ap Ok c.in-Type.is) in
    let o = c.check_type.ensures ∙ ap (λ (q : TyRec). size_of (table_in s l.count) q l.at) t.said in
    let e = ap said_checked (sym c.in_ok-sizes.was) ∙ o in
    one_more (next-type s l.at t l.count l.sizes l.invariant.0 _ e)

pub offset_bounds-keys-count : goal.offset_bounds-keys-count
offset_bounds-keys-count c = let n = some-types c.loop-f.invariant.0 in search rules

pub bounds-keys-count : goal.bounds-keys-count
bounds-keys-count c =
    let s = c.args.s.now in
    let l = c.loop-f in
    let t = type_here_lem s l.at (sym c.record_at.ensures ∙ c.in_ok-f.was ∙ ap Ok c.in-Type.is) in
    let o = c.check_type.ensures ∙ ap (λ (q : TyRec). size_of (table_in s l.count) q l.at) t.said in
    let e = ap said_checked (sym c.in_ok-sizes.was) ∙ o in
    one_more (next-type s l.at t l.count l.sizes l.invariant.0 _ e)

pub overflow_add-count : goal.overflow_add-count
overflow_add-count c = let n = some-types c.loop-f.invariant.0 in record { fits = omega arith }

pub loop-f-smaller : goal.loop-f-smaller
loop-f-smaller c =
    let n = type_next false c.args.s.now c.loop-f.at (sym c.record_at.ensures ∙ c.in_ok-f.was ∙ ap Ok c.in-Type.is) in
    omega arith

pub loop-f-preserved : goal.loop-f-preserved
loop-f-preserved c =
    let s = c.args.s.now in
    let l = c.loop-f in
    let t = type_here_lem s l.at (sym c.record_at.ensures ∙ c.in_ok-f.was ∙ ap Ok c.in-Type.is) in
    let o = c.check_type.ensures ∙ ap (λ (q : TyRec). size_of (table_in s l.count) q l.at) t.said in
    let e = ap said_checked (sym c.in_ok-sizes.was) ∙ o in
    let n = next-type s l.at t l.count l.sizes l.invariant.0 _ e in
    let k = type_is s l.at t l.count l.sizes l.invariant.0 _ e in
    let h = one_more n in
    (n, keyed_more s l.count l.keys _ (omega (arith, l.invariant.2)) (c.key_of.ensures ∙ ap key_of (t.said ∙ k)) l.invariant.1, length-set l.keys l.count _ ∙ l.invariant.2)

pub returns : goal.returns
returns c =
    let l = c.loop-f in
    types-done c.args.s.now l.at l.count l.sizes l.invariant.0 (sym c.record_at.ensures ∙ c.in_ok-f.was ∙ ap Ok c.in_default.is)
