-- Four stores. Assumes nothing.
use Prim.Native.Nat.{◌+◌, ◌*◌}
use Rattle.scopes.proofs.EntryLaws.{four_stores}
use lib.ListN.{length-set}
use native.Mathlib.Omega.{arith}
use Rattle.term_parts.proofs.halves.put_half.Goals as goal

pub bounds-work-at-2 : goal.bounds-work-at-2
bounds-work-at-2 c = simp length-set (omega arith)

pub bounds-work-at-3 : goal.bounds-work-at-3
bounds-work-at-3 c = simp length-set (omega arith)

pub bounds-work-at-4 : goal.bounds-work-at-4
bounds-work-at-4 c = simp length-set (omega arith)

pub returns : goal.returns
returns c = four_stores c.args.work.now (13312 + 4 * c.args.i) c.args.h.node c.args.h.ty c.args.h.deep c.args.h.place
