-- The word stands in the place of what was there.
use native.Mathlib.Omega.{arith}
use mathlib.Core.Path.{refl, sym, ◌∙◌}
use mathlib.Core.List.{◌++◌}
use Prim.Native.Nat.{◌+◌}
use lib.ListN.{length, take, drop}
use lib.Seq.{sets-eq}
use Rattle.std.proofs.lemmas.List.{append_assoc}
use borrow.Rule.Slice.PartMut.{Post-is}
use Rattle.lines.proofs.put_word.Goals as goal

pub returns : goal.returns
returns c =
    let at = c.args.at in
    let text = c.args.text.now in
    let word = c.args.word.now in
    let after = Post-is at (at + length word) text (omega arith) in
    record { offset = refl; bytes = (λ i. take at text ++ (c.copy_from_slice.ensures.after i ++ after i)) ∙ sym (append_assoc (take at text) word (drop (at + length word) text)) ∙ sym (sets-eq word text at (omega arith)) }
