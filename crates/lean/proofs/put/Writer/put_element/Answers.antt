-- By the entry. Assumes nothing.
use native.Mathlib.Omega.{arith}
use Prim.Native.Nat.{◌+◌}
use lib.ListN.{get_or}
use Rattle.memory.specs.Map.{makers_at}
use Rattle.lean.proofs.PutLaws.{no_record, left_record, one_record, one_size, put-none}
use Rattle.lean.proofs.put.Writer.put_element.Goals as goal

pub returns-then-v-lt-KIND : goal.returns-then-v-lt-KIND
returns-then-v-lt-KIND c = let a = c.args in put-none a.out.now _ a.here.at (no_record a.self.plain (get_or a.self.work.now (makers_at + a.here.i) 0) _ a.here.x c.if-v-lt-KIND.true)

pub returns-then-v-ge-LEFT_OUT : goal.returns-then-v-ge-LEFT_OUT
returns-then-v-ge-LEFT_OUT c = let a = c.args in put-none a.out.now _ a.here.at (left_record a.self.plain (get_or a.self.work.now (makers_at + a.here.i) 0) _ a.here.x c.if-v-ge-LEFT_OUT.true)

pub put_element-requires : goal.put_element-requires
put_element-requires c =
    let a = c.args in
    let h = c.if-v-lt-KIND.false in
    let g = c.if-v-ge-LEFT_OUT.false in
    (omega arith, let t = c.requires.1.1.1 in omega (arith, one_size a.self.plain (get_or a.self.work.now (makers_at + a.here.i) 0) _ a.here.x h g))

pub returns : goal.returns
returns c =
    let a = c.args in
    let p = c.put_element.ensures in
    let h = c.if-v-lt-KIND.false in
    let g = c.if-v-ge-LEFT_OUT.false in
    let n = get_or a.self.work.now (makers_at + a.here.i) 0 in
    (omega (arith, p.0, one_size a.self.plain n _ a.here.x h g), rw (one_record a.self.plain n _ a.here.x h g, ← c.first_of.ensures, ← c.maker_at-node.ensures) p.1)
