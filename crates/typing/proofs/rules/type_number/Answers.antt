-- `typing::rules::type_number` meets its contract. The invariant: none of the first k types is the part's. Assumes nothing.
use Prim.Native.Nat.{◌+◌, ◌-◌}
use mathlib.Core.Path.{◌≡◌, sym, ◌∙◌}
use native.Mathlib.Omega.{arith}
use Rattle.records.specs.Forms.{rec_in}
use Rattle.records.specs.Editions.{edition_by}
use Rattle.parts.specs.Table.{said_part}
use Rattle.typing.specs.Steps.{stands_for, ty_in}
use Rattle.typing.proofs.StepLaws.{number-here, number-next, number-none}
use Rattle.typing.proofs.rules.type_number.Goals as goal

pub loop-k-init : goal.loop-k-init
loop-k-init c = let a = c.args in let z : a.types - 0 ≡ a.types = omega arith in rw z

pub overflow_cast-t : goal.overflow_cast-t
overflow_cast-t c = record { fits = omega (arith, c.loop-k-test.true, c.requires.1) }

pub is_type_of-requires : goal.is_type_of-requires
is_type_of-requires c = c.requires.0

pub returns-then-is_type_of : goal.returns-then-is_type_of
returns-then-is_type_of c =
    let l = c.loop-k in
    let a = c.args in
    c.from.ensures ∙ number-here (stands_for (rec_in a.s.now) (ty_in (said_part a.part) (edition_by a.second))) (a.types - l.k) l.k (omega (arith, c.loop-k-test.true)) (sym c.is_type_of.ensures ∙ c.if-is_type_of.true) ∙ sym l.invariant

pub loop-k-preserved : goal.loop-k-preserved
loop-k-preserved c =
    let l = c.loop-k in
    let a = c.args in
    let z : a.types - l.k - 1 ≡ a.types - (l.k + 1) = omega arith in
    l.invariant ∙ rw (← z) (number-next (stands_for (rec_in a.s.now) (ty_in (said_part a.part) (edition_by a.second))) (a.types - l.k) l.k (omega (arith, c.loop-k-test.true)) (sym c.is_type_of.ensures ∙ c.if-is_type_of.false))

pub returns : goal.returns
returns c =
    let l = c.loop-k in
    let a = c.args in
    number-none (stands_for (rec_in a.s.now) (ty_in (said_part a.part) (edition_by a.second))) (a.types - l.k) l.k (omega (arith, c.loop-k-test.false)) ∙ sym l.invariant
