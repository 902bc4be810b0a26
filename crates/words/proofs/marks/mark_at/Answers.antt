-- `words::marks::mark_at` meets its contract: a word whose first byte tells is none of the signs. Assumes nothing.
use Rattle.words.specs.Next.{said_word}
use Rattle.words.proofs.MarkLaws.{marks-word, marks-none}
use Rattle.words.proofs.marks.mark_at.Goals as goal

pub returns-then-unread : goal.returns-then-unread
returns-then-unread c =
    let g = c.gap_end-start in
    let u = c.unread.ensures c.if-unread.true in
    marks-none c.args.text.now c.args.at c.requires g.result u.0 g.ensures.1 u.1

-- TODO the place Start is passed on
pub returns : goal.returns
returns c = let s = c in marks-word s.args.text.now s.args.at s.requires (said_word c.next.result) c.next.ensures
