-- By the entry. Assumes nothing.
use Rattle.verilog.proofs.TextRows.{no_element, left_element, one_element, wrote_none}
use Rattle.verilog.proofs.walk.LeanNet.put_element.Goals as goal

pub returns-then-v-lt-KIND : goal.returns-then-v-lt-KIND
returns-then-v-lt-KIND c = let a = c.args in wrote_none a.out.now _ a.at (no_element _ a.x c.if-v-lt-KIND.true)

pub returns-then-v-ge-LEFT_OUT : goal.returns-then-v-ge-LEFT_OUT
returns-then-v-ge-LEFT_OUT c = let a = c.args in wrote_none a.out.now _ a.at (left_element _ a.x c.if-v-ge-LEFT_OUT.true)

pub returns : goal.returns
returns c =
    let a = c.args in
    rw (one_element _ a.x c.if-v-lt-KIND.false c.if-v-ge-LEFT_OUT.false, ← c.first_of.ensures) c.put_element.ensures
