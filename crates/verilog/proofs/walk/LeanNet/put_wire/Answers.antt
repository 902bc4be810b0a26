-- By the entry. Assumes nothing.
use Rattle.verilog.proofs.TextRows.{no_wire, output-wire, one_wire, wrote_none}
use Rattle.verilog.proofs.walk.LeanNet.put_wire.Goals as goal

pub returns-then-v-eq0 : goal.returns-then-v-eq0
returns-then-v-eq0 c = let a = c.args in wrote_none a.out.now _ a.at (no_wire _ a.x c.if-v-eq0.true)

pub returns-then-v-ge-KIND : goal.returns-then-v-ge-KIND
returns-then-v-ge-KIND c = let a = c.args in wrote_none a.out.now _ a.at (output-wire _ a.x c.if-v-ge-KIND.true)

pub returns : goal.returns
returns c =
    let a = c.args in
    rw (one_wire _ a.x c.if-v-eq0.false c.if-v-ge-KIND.false) c.put_wire.ensures
