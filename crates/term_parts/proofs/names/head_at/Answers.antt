-- By the word that stands there. Assumes nothing.
use native.Mathlib.Omega.{arith}
use Rattle.std.specs.Prelude.{Ok, Err}
use Rattle.answers.specs.declared.Reason.{Reason}
use Rattle.answers.specs.Refusals.{refusal_at}
use Rattle.words.specs.Next.{said_word}
use Rattle.term_parts.proofs.NameLaws.{name_there, name_missing}
use Rattle.term_parts.proofs.ListLaws.{head_list, head_name}
use Rattle.term_parts.proofs.names.head_at.Goals as goal

pub returns-then-w-eq-NAME : goal.returns-then-w-eq-NAME
returns-then-w-eq-NAME c = head_name c.args.text.now c.args.at (said_word c.word_at-w.result) c.word_at-w.ensures (λ z. absurd (omega (arith, c.if-w-eq-NAME.true))) (Ok (record { place = c.word_at-w.result.start; end = c.word_at-w.result.end })) (name_there c.args.text.now c.args.at (said_word c.word_at-w.result) c.word_at-w.ensures c.if-w-eq-NAME.true)

pub behind_list-end-requires : goal.behind_list-end-requires
behind_list-end-requires c = let o = c.word_at-w.ensures.onward (λ z. absurd (omega (arith, c.if-w-eq-ROUND.true))) in (o.lexed, omega (arith, o.past))

pub returns-then-w-eq-ROUND : goal.returns-then-w-eq-ROUND
returns-then-w-eq-ROUND c = head_list c.args.text.now c.args.at c.requires (said_word c.word_at-w.result) c.word_at-w.ensures c.if-w-eq-ROUND.true c.behind_list-end.result c.behind_list-end.ensures

pub returns : goal.returns
returns c = rw c.at.ensures (head_name c.args.text.now c.args.at (said_word c.word_at-w.result) c.word_at-w.ensures c.if-w-eq-ROUND.false (Err (refusal_at Reason.OtherWordDue c.word_at-w.result.start)) (name_missing c.args.text.now c.args.at (said_word c.word_at-w.result) c.word_at-w.ensures c.if-w-eq-NAME.false))
