-- By the entry, and behind an input by the next one. Assumes nothing.
use lib.ListN.{get_or}
use Prim.Native.Nat.{◌+◌}
use Rattle.memory.specs.Map.{makers_at}
use Rattle.lean.proofs.PutLaws.{no_record, put-none, behind-input, behind-output, behind_point}
use Rattle.lean.proofs.put.Writer.put_at.Goals as goal

pub returns-then-self-here : goal.returns-then-self-here
returns-then-self-here c =
    let a = c.args in
    let h = c.if-self-here-lt-KIND.true in
    (put-none a.out.now _ a.here.at (no_record a.self.plain (get_or a.self.work.now (makers_at + a.here.i) 0) _ a.here.x h), behind_point a.self.work.now a.self.end a.here.x a.here.i c.requires.1.0 c.requires.1.1.0 h c.if-self-here.true)

pub returns-then-self-here-lt-KIND : goal.returns-then-self-here-lt-KIND
returns-then-self-here-lt-KIND c =
    let a = c.args in
    let h = c.if-self-here-lt-KIND.true in
    (put-none a.out.now _ a.here.at (no_record a.self.plain (get_or a.self.work.now (makers_at + a.here.i) 0) _ a.here.x h), behind-input a.self.work.now a.self.end a.here.x a.here.i c.requires.1.0 c.requires.1.1.0 h)

pub returns : goal.returns
returns c =
    let a = c.args in
    (c.put_element-past.ensures, behind-output a.self.work.now a.self.end a.here.x a.here.i c.requires.1.0 c.requires.1.1.0 c.if-self-here-lt-KIND.false)
