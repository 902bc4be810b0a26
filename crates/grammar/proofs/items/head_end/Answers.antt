-- `grammar::head_end` meets its contract: four steps one behind the other. Assumes nothing.
use mathlib.Core.Path.{refl}
use native.Mathlib.Omega.{arith}
use lib.ListN.{length}
use Rattle.calculus.specs.Answer.{◌>>=◌}
use Rattle.notation_calculus.specs.Words.{equals, square, endSquare}
use Rattle.notation_calculus.specs.Grammar.{expect}
use Rattle.words.specs.Lexed.{from}
use Rattle.grammar.specs.Skips.{name_end, group_end, numbers_end, head_end}
use Rattle.grammar.proofs.EndLaws.{expect-code, ends_as}
use Rattle.grammar.proofs.TermLaws.{along_first, along_last}
use Rattle.grammar.proofs.ItemLaws.{along_maybe}
use Rattle.std.proofs.Common.{Ok}
use Rattle.grammar.proofs.items.head_end.Goals as goal

pub returns : goal.returns
returns c = along_last c.args.text.now (length (from c.args.text.now c.args.at)) (head_end (from c.args.text.now c.args.at)) (λ xs. expect equals xs) c.in_ok-k.k c.expect.result (along_maybe c.args.text.now (length (from c.args.text.now c.args.at)) (head_end (from c.args.text.now c.args.at)) (λ vs. numbers_end vs) (λ xs. expect equals xs) c.in_ok-p.p (Ok c.in_ok-k.k) (along_maybe c.args.text.now (length (from c.args.text.now c.args.at)) (head_end (from c.args.text.now c.args.at)) (λ us. group_end square endSquare name_end us) (λ vs. numbers_end vs >>= λ xs. expect equals xs) c.in_ok-x.x (Ok c.in_ok-p.p) (along_first c.args.text.now (length (from c.args.text.now c.args.at)) (name_end (from c.args.text.now c.args.at)) (head_end (from c.args.text.now c.args.at)) (λ us. group_end square endSquare name_end us >>= λ vs. numbers_end vs >>= λ xs. expect equals xs) (Ok c.in_ok-x.x) refl c.in_ok-x.ensures) c.in_ok-p.ensures) c.in_ok-k.ensures) (ends_as c.args.text.now _ _ _ _ c.expect.result (omega arith) (expect-code equals (from c.args.text.now c.in_ok-k.k)) c.expect.ensures)
