-- `grammar::heads` meets its contract, by the sign behind the name. Assumes nothing.
use Rattle.words.specs.Lexed.{from}
use native.Mathlib.Omega.{arith}
use mathlib.Core.Path.{sym, ap, ◌∙◌}
use Rattle.grammar.specs.Skips.{opens_group}
use Rattle.grammar.proofs.EndLaws.{mark-stands}
use Rattle.grammar.proofs.HeadLaws.{heads_equals, heads-none, opens-none}
use Rattle.grammar.proofs.heads.heads.Goals as goal

pub returns-then-kind-eq-EQUALS : goal.returns-then-kind-eq-EQUALS
returns-then-kind-eq-EQUALS c =
    let a = c.args in
    let m = c.mark_kind-kind.ensures in
    let e = sym m.code ∙ c.if-kind-eq-EQUALS.true in
    heads_equals a.text.now a.start m.word (mark-stands a.text.now a.start m.word m.marks 13 e (λ z. omega arith)) e

pub returns : goal.returns
returns c =
    let a = c.args in
    let m = c.mark_kind-kind.ensures in
    heads-none (from a.text.now a.start) (opens-none a.text.now a.start m.word m.marks (ap opens_group (sym m.code) ∙ sym c.opens.ensures ∙ c.if-opens.false)) (m.marks.equals (λ z. c.if-kind-eq-EQUALS.false (m.code ∙ z)))
