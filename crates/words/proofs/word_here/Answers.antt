-- `words::word_here` meets its contract. Assumes nothing.
use mathlib.Core.Path.{sym, subst}
use Rattle.words.specs.Lexed.{Stands}
use Rattle.words.proofs.LexLaws.{stands}
use Rattle.words.proofs.ClassLaws.{single_stands}
use Rattle.words.proofs.word_here.Goals as goal

-- TODO the place Start is passed on
pub returns-then-text-at : goal.returns-then-text-at
returns-then-text-at c = let s = c in stands s.args.text.now s.args.at s.requires _ c.next.ensures

-- TODO the place Start is passed on
pub returns-then-k-eq0 : goal.returns-then-k-eq0
returns-then-k-eq0 c = let s = c in stands s.args.text.now s.args.at s.requires _ c.next-then-k-eq0.ensures

pub returns : goal.returns
returns c =
    let k = c.sign_code-k in
    let n = c.if-k-eq0.false in
    subst (Stands c.args.text.now c.args.at) (sym c.single.ensures) (single_stands c.args.text.now c.args.at k.result c.requires c.if-text-at.false (k.ensures.class n) (k.ensures.word n) k.ensures.sign)
