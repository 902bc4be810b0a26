-- `words::marks::mark_kind` meets its contract, as `mark_at` does. Assumes nothing.
use mathlib.Core.Path.{refl}
use Rattle.words.specs.Next.{said_word}
use Rattle.words.proofs.MarkLaws.{marks-word, marks-none}
use Rattle.words.proofs.marks.mark_kind.Goals as goal

pub returns-then-unread : goal.returns-then-unread
returns-then-unread c =
    let g = c.gap_end-start in
    let u = c.unread.ensures c.if-unread.true in
    record { word = record { code = 24; value = 0; place = g.result; end = g.result }; code = refl; marks = marks-none c.args.text.now c.args.at c.requires g.result u.0 g.ensures.1 u.1 }

pub returns : goal.returns
returns c =
    record { word = said_word c.next-w.result; code = refl; marks = marks-word c.args.text.now c.args.at c.requires (said_word c.next-w.result) c.next-w.ensures }
