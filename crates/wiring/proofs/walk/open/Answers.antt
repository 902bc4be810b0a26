-- `wiring::open` meets its contract: three runs of stores, each behind its list. Assumes nothing.
use Rattle.wiring.proofs.OneLaws.{known_at, room_at, opened-at}
use native.Mathlib.Omega.{arith}
use Rattle.wiring.proofs.walk.open.Goals as goal

pub interface-requires : goal.interface-requires
interface-requires c =
    let p = c.requires in
    let e = c.size_of-l.ensures in
    let h = room_at p.0 p.1 c.bound_by-t.result c.size_of-l.result c.bound_by-t.ensures e in
    (known_at p.0 p.1 c.bound_by-t.result c.size_of-l.result c.bound_by-t.ensures e, omega (arith, p.0.asks.holds.size, c.fill.auto.work), omega arith)

pub overflow_mul-st : goal.overflow_mul-st
overflow_mul-st c =
    let p = c.requires in
    let h = room_at p.0 p.1 c.bound_by-t.result c.size_of-l.result c.bound_by-t.ensures c.size_of-l.ensures in
    omega arith

pub overflow_add-st-3 : goal.overflow_add-st-3
overflow_add-st-3 c =
    let p = c.requires in
    let h = room_at p.0 p.1 c.bound_by-t.result c.size_of-l.result c.bound_by-t.ensures c.size_of-l.ensures in
    omega arith

pub bind-requires : goal.bind-requires
bind-requires c =
    let p = c.requires in
    let h = room_at p.0 p.1 c.bound_by-t.result c.size_of-l.result c.bound_by-t.ensures c.size_of-l.ensures in
    (omega (arith, p.0.asks.holds.size, c.interface.auto.work, c.fill.auto.work), h.3, omega arith)

pub overflow_add-result : goal.overflow_add-result
overflow_add-result c =
    let p = c.requires in
    let h = room_at p.0 p.1 c.bound_by-t.result c.size_of-l.result c.bound_by-t.ensures c.size_of-l.ensures in
    omega arith

pub returns : goal.returns
returns c =
    λ q.
    let one = c.requires.1 in
    let u = c.bound_by-t.result in
    let l = c.size_of-l.result in
    let eu = c.bound_by-t.ensures in
    let el = c.size_of-l.ensures in
    opened-at q one u l eu el _ _ _ c.fill.ensures (c.interface.ensures (known_at q one u l eu el)) c.bind.ensures
