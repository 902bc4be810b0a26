-- `records::shape_of` meets its contract: each arm of the match is an entry in the table of kinds, or a run of entries. Assumes nothing.
use mathlib.Core.Path.{◌≡◌, sym, refl}
use native.Mathlib.Omega.{arith}
use lib.ListN.{get_or-eq_default}
use Rattle.records.specs.Record.{shape_of, shapes}
use Rattle.laws.proofs.Runs.{run_at, past}
use Rattle.records.proofs.shape_of.Goals as goal

pub returns-in-1 : goal.returns-in-1
unfolding shape_of
returns-in-1 c = rw c.in-1.is

pub returns-in-2 : goal.returns-in-2
unfolding shape_of
returns-in-2 c = rw c.in-2.is

pub returns-in-3 : goal.returns-in-3
unfolding shape_of
returns-in-3 c = rw c.in-3.is

pub returns-in_default-kind : goal.returns-in_default-kind
unfolding shape_of
returns-in_default-kind c =
    let r = c.in_default-kind.in_default-kind-own.rest in
    let e : c.args.kind ≡ 4 = omega (arith, c.in-1-to-4.if-kind-lt1-own.false, c.in-1-to-4.if-kind-lt5-own.true, r.0.0.1, r.0.1, r.1) in
    rw e

pub returns-in-17 : goal.returns-in-17
unfolding shape_of
returns-in-17 c = rw c.in-17.is

pub returns-in-18 : goal.returns-in-18
unfolding shape_of
returns-in-18 c = rw c.in-18.is

pub returns-in-19 : goal.returns-in-19
unfolding shape_of
returns-in-19 c = rw c.in-19.is

pub returns-in-20 : goal.returns-in-20
unfolding shape_of
returns-in-20 c = rw c.in-20.is

pub returns-in-21 : goal.returns-in-21
unfolding shape_of
returns-in-21 c = rw c.in-21.is

pub returns-in-22 : goal.returns-in-22
unfolding shape_of
returns-in-22 c = rw c.in-22.is

pub returns-in-23 : goal.returns-in-23
unfolding shape_of
returns-in-23 c = rw c.in-23.is

pub returns-in-24 : goal.returns-in-24
unfolding shape_of
returns-in-24 c = rw c.in-24.is

pub returns-in-25 : goal.returns-in-25
unfolding shape_of
returns-in-25 c = rw c.in-25.is

pub returns-in-26 : goal.returns-in-26
unfolding shape_of
returns-in-26 c = rw c.in-26.is

pub returns-in_default-kind-2 : goal.returns-in_default-kind-2
unfolding shape_of
returns-in_default-kind-2 c =
    let r = c.in_default-kind-2.in_default-kind-2-own.rest in
    let h20 = past (past (past c.in-17-to-27.if-kind-lt17-own.false r.0.0.0.0.0.0.0.0.0.1) r.0.0.0.0.0.0.0.0.1) r.0.0.0.0.0.0.0.1 in
    let h23 = past (past (past h20 r.0.0.0.0.0.0.1) r.0.0.0.0.0.1) r.0.0.0.0.1 in
    let h27 = past (past (past (past h23 r.0.0.0.1) r.0.0.1) r.0.1) r.1 in
    let e : c.args.kind ≡ 27 = omega (arith, c.in-17-to-27.if-kind-lt28-own.true, h27) in
    rw e

pub returns-in_default : goal.returns-in_default
unfolding shape_of
returns-in_default c = let e : c.args.kind ≡ 0 = omega arith in rw e

pub returns-in_default-2 : goal.returns-in_default-2
unfolding shape_of
returns-in_default-2 c = sym (run_at shapes 5 12 _ _ refl c.args.kind (omega (arith, c.in_default.if-kind-lt5-own.false)) (omega (arith, c.in_default.if-kind-lt17-own.true)))

pub returns-in_default-3 : goal.returns-in_default-3
unfolding shape_of
returns-in_default-3 c = sym (get_or-eq_default shapes _ {n = c.args.kind} c.in_default.if-kind-lt28-own.false)
