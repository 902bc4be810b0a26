-- `translation::write::write_plain` meets its contract: the netlist that is wished is written. Assumes nothing.
use mathlib.Core.Path.{subst}
use mathlib.Core.List.{List}
use Prim.Native.Nat.{ℕ}
use lib.ListN.{length}
use mathlib.Core.Bool.{true}
use Rattle.translation.specs.Wished.{said_wish}
use Rattle.translator.specs.Said.{in_room, AnswerSays}
use Rattle.lean.proofs.LeantLaws.{made_bytes}
use Rattle.translation.proofs.WriteLaws.{wished_says, made_keeps}
use Rattle.translation.proofs.write.write_plain.Goals as goal

pub returns-then-wish : goal.returns-then-wish
returns-then-wish c =
    let a = c.args in
    let l = c.make_lean-end.ensures in (
      wished_says (said_wish a.wish) true a.out.now _ c.write_lean.result _ _ c.if-wish.true
          (subst (λ (b : List ℕ). AnswerSays c.write_lean.result a.out.now c.write_lean.new.out (in_room b (length a.out.now))) (made_bytes a.work.now c.make_lean-end.new.work a.counts.elements a.counts.wires a.counts.pins c.make_lean-end.result c.requires.0 l a.wish.plain) c.write_lean.ensures),
      made_keeps _ _ a.counts.elements a.counts.wires a.counts.pins _ c.requires.0 l,
    )
