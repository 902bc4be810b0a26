-- One sign behind the other, or where the first is missing. Assumes nothing.
use Rattle.grammar.proofs.EndLaws.{ends-stop, ends_then}
use Rattle.grammar.specs.Skips.{expect_code}
use mathlib.Core.Path.{refl}
use native.Mathlib.Omega.{arith}
use Rattle.std.proofs.lemmas.Result.{err_from_is_err_and}
use mathlib.Core.Path.{subst}
use Rattle.grammar.specs.Ends.{Ends}
use lib.ListN.{length}
use Rattle.words.specs.Lexed.{from}
use Rattle.term_walk.proofs.lists.closed.Goals as goal

pub returns-in_err-behind : goal.returns-in_err-behind
returns-in_err-behind c = let p = err_from_is_err_and c.from_residual.result c.from_residual.ensures.1 in rw (p.1, p.2) (ends-stop c.args.text.now _ _ (λ us. expect_code c.args.sign us) _ refl (subst (Ends c.args.text.now (length (from c.args.text.now c.args.at)) (expect_code 12 (from c.args.text.now c.args.at))) c.in_err-behind.was c.expect.ensures))

pub expect-requires-2 : goal.expect-requires-2
expect-requires-2 c = ((subst (Ends c.args.text.now (length (from c.args.text.now c.args.at)) (expect_code 12 (from c.args.text.now c.args.at))) c.in_ok-behind.was c.expect.ensures).lexed, c.requires.1)

pub returns : goal.returns
returns c =
    let C = subst (Ends c.args.text.now (length (from c.args.text.now c.args.at)) (expect_code 12 (from c.args.text.now c.args.at))) c.in_ok-behind.was c.expect.ensures in
    ends_then c.args.text.now _ _ _ _ _ (λ us. expect_code c.args.sign us) _ _ refl C (omega (arith, C.fewer)) c.expect-2.ensures
