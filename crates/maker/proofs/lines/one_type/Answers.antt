-- The first type of the line is worked out; the word behind it tells whether there are others. Assumes nothing.
use Rattle.answers.proofs.Passed.{passed}
use Rattle.words.specs.Next.{said_word}
use Rattle.maker.proofs.LineLaws.{own_type, says_refused, says-lexed, says-more, says_last}
use Rattle.maker.proofs.lines.one_type.Goals as goal

pub type_from-requires : goal.type_from-requires
type_from-requires c =
    let q = c.requires in
    own_type c.args.text.now c.args.work.now c.args.at q.there.lexed q.X q.seen q.σ q.knows

pub returns-in_err-t : goal.returns-in_err-t
returns-in_err-t c =
    rw (passed c.from_residual.result c.from_residual.ensures.1) (says_refused c.args.text.now c.args.work.now c.args.at _ _ c.in_err-t.ensures)

pub word_at-c-requires : goal.word_at-c-requires
word_at-c-requires c =
    says-lexed c.args.text.now c.args.work.now c.args.at _ _ c.in_ok-t.ensures c.requires

pub returns-then-c-eq-COMMA : goal.returns-then-c-eq-COMMA
returns-then-c-eq-COMMA c =
    let v = c.word_at-c in
    says-more c.args.text.now c.args.work.now c.args.at _ _ c.in_ok-t.ensures c.requires (said_word v.result) v.ensures c.if-c-eq-COMMA.true

pub returns : goal.returns
returns c =
    let v = c.word_at-c in
    says_last c.args.text.now c.args.work.now c.args.at _ _ c.in_ok-t.ensures c.requires (said_word v.result) v.ensures c.if-c-eq-COMMA.false
