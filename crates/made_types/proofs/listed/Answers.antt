-- Each way out by its law. Assumes nothing.
use native.Mathlib.Omega.{arith}
use mathlib.Core.Path.{sym, ◌∙◌}
use Prim.Native.Nat.{◌+◌, ◌*◌}
use borrow.Author.Tests.{not-true, not-false}
use Rattle.making_memory.specs.Map.{types_at}
use Rattle.made_types.proofs.ListLaws.{says_old, says_bad, says_big, says-full, says-new}
use Rattle.made_types.proofs.listed.Goals as goal

pub returns-then-k-work : goal.returns-then-k-work
returns-then-k-work c = says_old c.args.work.now c.args.r c.args.place c.number_in-k.result c.requires c.number_in-k.ensures c.if-k-work.true

pub returns-then-not-formed : goal.returns-then-not-formed
returns-then-not-formed c = rw c.at.ensures (says_bad c.args.work.now c.args.r c.args.place c.number_in-k.result c.requires c.number_in-k.ensures c.if-k-work.false (sym c.formed.ensures ∙ not-true _ c.if-not-formed.true-raw))

pub overflow_add-bits : goal.overflow_add-bits
overflow_add-bits c = omega (arith, c.slice_known-1.given (types_at + 4 * c.args.r.left + 3), c.slice_known-1.given (types_at + 4 * c.args.r.right + 3), c.bits_of.ensures, c.bits_of-2.ensures)

pub returns-then-bits-gt128 : goal.returns-then-bits-gt128
returns-then-bits-gt128 c = rw c.at-then-bits-gt128.ensures (says_big c.args.work.now c.args.r c.args.place c.number_in-k.result c.requires c.number_in-k.ensures c.if-k-work.false (sym c.formed.ensures ∙ not-false _ c.if-not-formed.false-raw) (omega (arith, c.bits_of.ensures, c.bits_of-2.ensures)))

pub returns-then-k-ge-MOST_TYPES : goal.returns-then-k-ge-MOST_TYPES
returns-then-k-ge-MOST_TYPES c = rw c.at-then-k-ge-MOST_TYPES.ensures (says-full c.args.work.now c.args.r c.args.place c.number_in-k.result c.requires c.number_in-k.ensures c.if-k-work.false (sym c.formed.ensures ∙ not-false _ c.if-not-formed.false-raw) (omega (arith, c.bits_of.ensures, c.bits_of-2.ensures)) c.if-k-ge-MOST_TYPES.true)

pub returns : goal.returns
returns c = rw (c.store.ensures, c.bits_of.ensures, c.bits_of-2.ensures) (says-new c.args.work.now c.args.r c.args.place c.number_in-k.result c.requires c.number_in-k.ensures c.if-k-work.false (sym c.formed.ensures ∙ not-false _ c.if-not-formed.false-raw) (omega (arith, c.bits_of.ensures, c.bits_of-2.ensures)) c.if-k-ge-MOST_TYPES.false)
