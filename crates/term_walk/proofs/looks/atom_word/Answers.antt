-- Where no words are left no atom begins, nor where a clause of the table does; else the words say. Assumes nothing.
use native.Mathlib.Omega.{arith}
use mathlib.Core.Path.{sym, ap, ◌∙◌}
use Rattle.notation_calculus.specs.Grammar.{begins_atom}
use Rattle.term_walk.proofs.LookLaws.{words-past, words-lexed, no_atom, atom_first, atom_nowhere}
use Rattle.term_walk.proofs.looks.atom_word.Goals as goal

pub returns-then-text-at : goal.returns-then-text-at
returns-then-text-at c =
    let a = c.args in
    atom_nowhere a.text.now a.at c.no_word.result c.no_word.ensures (ap begins_atom (words-past a.text.now a.at c.if-text-at.true))

pub start_of-start-requires : goal.start_of-start-requires
start_of-start-requires c = c.requires.0 (omega (arith, c.if-text-at.false))

pub returns-then-head_at : goal.returns-then-head_at
returns-then-head_at c =
    let s = c.start_of-start in
    let lexed = c.requires.0 (omega (arith, c.if-text-at.false)) in
    atom_nowhere c.args.text.now c.args.at c.no_word-then-head_at.result c.no_word-then-head_at.ensures (ap begins_atom (words-lexed c.args.text.now c.args.at lexed) ∙ no_atom c.args.text.now c.args.work.now c.requires.1 s.result c.args.at (c.head_at.ensures c.if-head_at.true) s.ensures.1)

pub word_here-w-requires : goal.word_here-w-requires
word_here-w-requires c = c.start_of-start.ensures.0

pub word_begins-requires : goal.word_begins-requires
word_begins-requires c = c.word_here-w.ensures

pub returns-then-word_begins : goal.returns-then-word_begins
returns-then-word_begins c =
    let s = c.start_of-start in
    let w = c.word_here-w in
    let lexed = c.requires.0 (omega (arith, c.if-text-at.false)) in
    atom_first c.args.text.now s.result c.args.at s.ensures.0 lexed s.ensures.1 w.result w.ensures (sym c.word_begins.ensures ∙ c.if-word_begins.true)

pub returns : goal.returns
returns c =
    let s = c.start_of-start in
    let lexed = c.requires.0 (omega (arith, c.if-text-at.false)) in
    atom_nowhere c.args.text.now c.args.at c.no_word-2.result c.no_word-2.ensures (ap begins_atom (words-lexed c.args.text.now c.args.at lexed ∙ sym s.ensures.1) ∙ sym c.word_begins.ensures ∙ c.if-word_begins.false)
