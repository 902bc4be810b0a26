-- `grammar::type_clause_end` meets its contract: a head and a body. Assumes nothing.
use mathlib.Core.Path.{refl}
use native.Mathlib.Omega.{arith}
use mathlib.Core.Bool.{false}
use lib.ListN.{length}
use Rattle.words.specs.Lexed.{from}
use Rattle.grammar.specs.Ends.{type_step}
use Rattle.grammar.specs.Skips.{head_end, clause_end}
use Rattle.grammar.proofs.EndLaws.{ends_then}
use Rattle.grammar.proofs.items.type_clause_end.Goals as goal

pub returns : goal.returns
returns c = ends_then c.args.text.now (length (from c.args.text.now c.args.at)) _ _ (head_end (from c.args.text.now c.args.at)) (clause_end (type_step 80 false) (from c.args.text.now c.args.at)) (type_step 80 false) c.in_ok-h.h c.type_end.result refl c.in_ok-h.ensures (omega (arith, c.in_ok-h.ensures.fewer)) c.type_end.ensures
