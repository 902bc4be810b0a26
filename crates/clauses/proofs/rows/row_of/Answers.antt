-- `clauses::row_of` meets its contract: the head is read again. Assumes nothing.
use native.Mathlib.Omega.{arith}
use Rattle.words.specs.Next.{said_word}
use Rattle.clauses.proofs.HeadLaws.{name-first, name-onward, place_inside, row_read}
use Rattle.clauses.proofs.rows.row_of.Goals as goal

pub group_at-ts-requires : goal.group_at-ts-requires
group_at-ts-requires c = ((name-onward c.args.text.now c.args.at (said_word c.word_at-w.result) c.word_at-w.ensures (name-first c.args.text.now c.args.at (said_word c.word_at-w.result) c.word_at-w.ensures c.args.sort c.args.end c.requires)).lexed, omega arith)

pub key_of-key-requires : goal.key_of-key-requires
key_of-key-requires c =
    let w = c.word_at-w in
    omega (arith, place_inside c.args.text.now c.args.at (said_word w.result) w.ensures (name-first c.args.text.now c.args.at (said_word w.result) w.ensures c.args.sort c.args.end c.requires))

pub returns : goal.returns
returns c =
    let w = c.word_at-w in
    row_read c.args.text.now c.args.at (said_word w.result) w.ensures c.args.sort c.args.end c.requires c.group_at-ts.result c.group_at-ks.result (said_word c.word_at-e.result) c.group_at-ts.ensures c.group_at-ks.ensures c.word_at-e.ensures c.key_of-key.result c.key_of-key.ensures c.start_of-behind.result (c.start_of-behind.ensures.0, c.start_of-behind.ensures.1)
