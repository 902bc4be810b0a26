-- Terms meet their contracts: one proof of the cycle of calls. The measure is the levels that are left, and in a level the order of the calls.
-- Assumes nothing.
use Prim.Native.Nat.{◌-◌}
use mathlib.Core.Path.{refl, sym, ap, ◌∙◌}
use mathlib.Core.Bool.{false}
use mathlib.Core.List.{List}
use native.Mathlib.Omega.{arith}
use lib.ListN.{length}
use Rattle.calculus.specs.Answer.{good}
use Rattle.notation_calculus.specs.Words.{endRound, comma, Word}
use Rattle.notation_calculus.specs.Grammar.{behind, is as isSign, expect, begins_atom}
use Rattle.words.specs.Next.{said_word}
use Rattle.words.specs.Lexed.{from}
use Rattle.words.proofs.WordLaws.{not_yes, not_no}
use Rattle.grammar.specs.Ends.{type_step, term_step}
use Rattle.grammar.specs.Skips.{trees_end, tuple_end, atom_end, atoms_end, spine_end, bound_end, let_body_end}
use Rattle.grammar.proofs.EndLaws.{ends_passed, is_yes, is_no, expect-code, ends_as}
use Rattle.grammar.proofs.LoopLaws.{loop_bad, loop-stop, loop-turn}
use Rattle.grammar.proofs.NameLaws.{loop_done}
use Rattle.grammar.proofs.TermLaws.{along_stop, atom_name, atom_round, atom_part, atom_none, inner_next, tuple-first, spine_first, term_deep, term-fun, fun-front, term-fix, fix-front, term-let, let-front, term-spine}
use Rattle.std.proofs.Common.{Ok, Err}
use Rattle.grammar.proofs.terms.+atom_end_let_value_end_spine_end_term_end_tuple_end.Goals as goal
use Rattle.grammar.proofs.terms.+atom_end_let_value_end_spine_end_term_end_tuple_end.Goals.{term_end-then-w-eq-FUN+in_ok-x+in_ok-next, term_end-else-w-eq-FUN+then-w-eq-FIX+in_ok-x-2+in_ok-next-2, term_end-else-w-eq-FUN+else-w-eq-FIX+then-w-eq-LET+in_ok-x-3+in_ok-next-3}

pub atom_end-use_end-requires : goal.atom_end-use_end-requires
atom_end-use_end-requires t c = (c.requires.1.stands.onward (λ z. omega (arith, c.if-kind-eq-NAME.true))).lexed

pub atom_end-returns-then-kind-eq-NAME : goal.atom_end-returns-then-kind-eq-NAME
atom_end-returns-then-kind-eq-NAME t c = atom_name c.args.text.now c.args.at _ c.requires.1.stands (term_step c.args.more) (type_step c.args.more false) c.if-kind-eq-NAME.true c.use_end.result c.use_end.ensures

pub atom_end-tuple_end-requires : goal.atom_end-tuple_end-requires
atom_end-tuple_end-requires t c = (omega (arith, c.decreases), (c.requires.1.stands.onward (λ z. omega (arith, c.if-kind-eq-ROUND.true))).lexed)

pub atom_end-returns-then-kind-eq-ROUND : goal.atom_end-returns-then-kind-eq-ROUND
atom_end-returns-then-kind-eq-ROUND t c = atom_round c.args.text.now c.args.at _ c.requires.1.stands (term_step c.args.more) (type_step c.args.more false) c.if-kind-eq-ROUND.true c.tuple_end.result c.tuple_end.ensures

pub atom_end-returns-then-kind-eq-PART : goal.atom_end-returns-then-kind-eq-PART
atom_end-returns-then-kind-eq-PART t c = atom_part c.args.text.now c.args.at _ c.requires.1.stands (term_step c.args.more) (type_step c.args.more false) c.if-kind-eq-PART.true

pub atom_end-returns : goal.atom_end-returns
atom_end-returns t c = atom_none c.args.text.now c.args.at _ c.requires.1.stands (term_step c.args.more) (type_step c.args.more false) c.if-kind-eq-NAME.false c.if-kind-eq-ROUND.false c.if-kind-eq-PART.false c.at.result c.at.ensures

pub spine_end-loop-t-init : goal.spine_end-loop-t-init
spine_end-loop-t-init t c = (c.requires.0, (c.requires.1, λ r d. spine_first c.args.text.now c.args.at (term_step c.args.more) (type_step c.args.more false) r d))

pub spine_end-atom_end-requires : goal.spine_end-atom_end-requires
spine_end-atom_end-requires t c = (omega (arith, c.decreases), (c.loop-t.invariant.0, c.loop-t.invariant.1.0))

pub spine_end-word_at-w-requires : goal.spine_end-word_at-w-requires
spine_end-word_at-w-requires t c = c.in_ok-t.ensures.lexed

pub spine_end-word_begins-requires : goal.spine_end-word_begins-requires
spine_end-word_begins-requires t c = c.word_at-w.ensures

pub spine_end-returns-then-not-word_begins : goal.spine_end-returns-then-not-word_begins
spine_end-returns-then-not-word_begins t c = let l = c.loop-t.invariant.1.1 (Ok c.in_ok-t.t) c.in_ok-t.ensures in
    loop_done c.args.text.now (atoms_end (term_step c.args.more) (type_step c.args.more false)) (λ us. good us) _ _ c.in_ok-t.t l (loop-stop c.args.text.now (atoms_end (term_step c.args.more) (type_step c.args.more false)) (λ us. begins_atom us) (λ us. atom_end (term_step c.args.more) (type_step c.args.more false) us) (λ r us. refl) (λ us. good us) (spine_end (term_step c.args.more) (type_step c.args.more false) (from c.args.text.now c.args.at)) (length (from c.args.text.now c.args.at)) c.in_ok-t.t l (sym c.word_begins.ensures ∙ not_yes _ c.if-not-word_begins.true-raw))

pub spine_end-loop-t-smaller : goal.spine_end-loop-t-smaller
spine_end-loop-t-smaller t c = omega (arith, c.in_ok-t.ensures.fewer)

pub spine_end-loop-t-preserved : goal.spine_end-loop-t-preserved
spine_end-loop-t-preserved t c = (
  c.in_ok-t.ensures.lexed,
  (
    record { value = c.word_at-w.result.value; stands = c.word_at-w.ensures },
    λ r d.
        loop-turn c.args.text.now (atoms_end (term_step c.args.more) (type_step c.args.more false)) (λ us. begins_atom us) (λ us. atom_end (term_step c.args.more) (type_step c.args.more false) us) (λ r us. refl) (λ us. good us) (spine_end (term_step c.args.more) (type_step c.args.more false) (from c.args.text.now c.args.at)) (length (from c.args.text.now c.args.at)) c.in_ok-t.t (c.loop-t.invariant.1.1 (Ok c.in_ok-t.t) c.in_ok-t.ensures) (sym c.word_begins.ensures ∙ not_no _ c.if-not-word_begins.false-raw) _ r d (omega arith),
  ),
)

pub spine_end-returns-in_err-t : goal.spine_end-returns-in_err-t
spine_end-returns-in_err-t t c = ends_passed c.args.text.now _ _ c.from_residual.result _ c.from_residual.ensures.1 (loop_bad _ _ _ _ _ c.in_err-t.field-0.0 (c.loop-t.invariant.1.1 (Err c.in_err-t.field-0.0) c.in_err-t.ensures))

pub term_end-loop-left-init : goal.term_end-loop-left-init
term_end-loop-left-init t c = (c.requires, (omega arith, λ r d. d))

pub term_end-returns-then-left-eq0 : goal.term_end-returns-then-left-eq0
term_end-returns-then-left-eq0 t c = c.loop-left.invariant.1.1 (Err c.at.result) (term_deep c.args.text.now c.loop-left.next c.loop-left.left (said_word c.word_at-w.result) c.word_at-w.ensures c.if-left-eq0.true c.at.result c.at.ensures)

pub term_end-returns-in_err-x : goal.term_end-returns-in_err-x
term_end-returns-in_err-x t c = ends_passed c.args.text.now _ _ c.from_residual.result _ c.from_residual.ensures.1 (c.loop-left.invariant.1.1 (Err c.in_err-x.field-0.0) (along_stop c.args.text.now (length (from c.args.text.now c.loop-left.next)) (term_step c.loop-left.left (from c.args.text.now c.loop-left.next)) (λ us. bound_end (term_step (c.loop-left.left - 1)) (type_step (c.loop-left.left - 1) false) us) c.in_err-x.field-0.0 (term-fun c.args.text.now c.loop-left.next c.loop-left.left (said_word c.word_at-w.result) c.word_at-w.ensures c.if-left-eq0.false c.if-w-eq-FUN.true (Err c.in_err-x.field-0.0) c.in_err-x.ensures)))

pub term_end-returns-in_err-next : goal.term_end-returns-in_err-next
term_end-returns-in_err-next t c = ends_passed c.args.text.now _ _ c.from_residual-in_err-next.result _ c.from_residual-in_err-next.ensures.1 (c.loop-left.invariant.1.1 (Err c.in_err-next.field-0.0) (along_stop c.args.text.now (length (from c.args.text.now c.loop-left.next)) (term_step c.loop-left.left (from c.args.text.now c.loop-left.next)) (term_step (c.loop-left.left - 1)) c.in_err-next.field-0.0 (fun-front c.args.text.now c.loop-left.next c.loop-left.left (said_word c.word_at-w.result) c.word_at-w.ensures c.if-left-eq0.false c.if-w-eq-FUN.true c.in_ok-x.x c.in_ok-x.ensures (Err c.in_err-next.field-0.0) c.in_err-next.ensures)))

pub term_end-returns-in_err-x-2 : goal.term_end-returns-in_err-x-2
term_end-returns-in_err-x-2 t c = ends_passed c.args.text.now _ _ c.from_residual-in_err-x-2.result _ c.from_residual-in_err-x-2.ensures.1 (c.loop-left.invariant.1.1 (Err c.in_err-x-2.field-0.0) (along_stop c.args.text.now (length (from c.args.text.now c.loop-left.next)) (term_step c.loop-left.left (from c.args.text.now c.loop-left.next)) (λ us. bound_end (term_step (c.loop-left.left - 1)) (type_step (c.loop-left.left - 1) false) us) c.in_err-x-2.field-0.0 (term-fix c.args.text.now c.loop-left.next c.loop-left.left (said_word c.word_at-w.result) c.word_at-w.ensures c.if-left-eq0.false c.if-w-eq-FUN.false c.if-w-eq-FIX.true (Err c.in_err-x-2.field-0.0) c.in_err-x-2.ensures)))

pub term_end-returns-in_err-next-2 : goal.term_end-returns-in_err-next-2
term_end-returns-in_err-next-2 t c = ends_passed c.args.text.now _ _ c.from_residual-in_err-next-2.result _ c.from_residual-in_err-next-2.ensures.1 (c.loop-left.invariant.1.1 (Err c.in_err-next-2.field-0.0) (along_stop c.args.text.now (length (from c.args.text.now c.loop-left.next)) (term_step c.loop-left.left (from c.args.text.now c.loop-left.next)) (term_step (c.loop-left.left - 1)) c.in_err-next-2.field-0.0 (fix-front c.args.text.now c.loop-left.next c.loop-left.left (said_word c.word_at-w.result) c.word_at-w.ensures c.if-left-eq0.false c.if-w-eq-FUN.false c.if-w-eq-FIX.true c.in_ok-x-2.x c.in_ok-x-2.ensures (Err c.in_err-next-2.field-0.0) c.in_err-next-2.ensures)))

pub term_end-returns-in_err-x-3 : goal.term_end-returns-in_err-x-3
term_end-returns-in_err-x-3 t c = ends_passed c.args.text.now _ _ c.from_residual-in_err-x-3.result _ c.from_residual-in_err-x-3.ensures.1 (c.loop-left.invariant.1.1 (Err c.in_err-x-3.field-0.0) (along_stop c.args.text.now (length (from c.args.text.now c.loop-left.next)) (term_step c.loop-left.left (from c.args.text.now c.loop-left.next)) (λ us. let_body_end (term_step (c.loop-left.left - 1)) us) c.in_err-x-3.field-0.0 (term-let c.args.text.now c.loop-left.next c.loop-left.left (said_word c.word_at-w.result) c.word_at-w.ensures c.if-left-eq0.false c.if-w-eq-FUN.false c.if-w-eq-FIX.false c.if-w-eq-LET.true (Err c.in_err-x-3.field-0.0) c.in_err-x-3.ensures)))

pub term_end-returns-in_err-next-3 : goal.term_end-returns-in_err-next-3
term_end-returns-in_err-next-3 t c = ends_passed c.args.text.now _ _ c.from_residual-in_err-next-3.result _ c.from_residual-in_err-next-3.ensures.1 (c.loop-left.invariant.1.1 (Err c.in_err-next-3.field-0.0) (along_stop c.args.text.now (length (from c.args.text.now c.loop-left.next)) (term_step c.loop-left.left (from c.args.text.now c.loop-left.next)) (term_step (c.loop-left.left - 1)) c.in_err-next-3.field-0.0 (let-front c.args.text.now c.loop-left.next c.loop-left.left (said_word c.word_at-w.result) c.word_at-w.ensures c.if-left-eq0.false c.if-w-eq-FUN.false c.if-w-eq-FIX.false c.if-w-eq-LET.true c.in_ok-x-3.x c.in_ok-x-3.ensures (Err c.in_err-next-3.field-0.0) c.in_err-next-3.ensures)))

pub term_end-returns-else-w-eq-LET : goal.term_end-returns-else-w-eq-LET
term_end-returns-else-w-eq-LET t c = c.loop-left.invariant.1.1 c.spine_end.result (term-spine c.args.text.now c.loop-left.next c.loop-left.left (said_word c.word_at-w.result) c.word_at-w.ensures c.if-left-eq0.false c.if-w-eq-FUN.false c.if-w-eq-FIX.false c.if-w-eq-LET.false c.spine_end.result c.spine_end.ensures)

pub term_end-loop-left-preserved : goal.term_end-loop-left-preserved
term_end-loop-left-preserved t c =
    elim c.if-w-eq-FUN.branch [
      | term_end-then-w-eq-FUN+in_ok-x+in_ok-next w ↦ rw w.next-is (w.in_ok-next.ensures.lexed, (omega arith, inner_next c.args.text.now _ _ _ _ (term_step (c.loop-left.left - 1)) w.in_ok-next.next c.loop-left.invariant.1.1 (fun-front c.args.text.now c.loop-left.next c.loop-left.left (said_word c.word_at-w.result) c.word_at-w.ensures c.if-left-eq0.false w.if-w-eq-FUN.true w.in_ok-x.x w.in_ok-x.ensures (Ok w.in_ok-next.next) w.in_ok-next.ensures)))
      | term_end-else-w-eq-FUN+then-w-eq-FIX+in_ok-x-2+in_ok-next-2 w ↦ rw w.next-is (w.in_ok-next-2.ensures.lexed, (omega arith, inner_next c.args.text.now _ _ _ _ (term_step (c.loop-left.left - 1)) w.in_ok-next-2.next c.loop-left.invariant.1.1 (fix-front c.args.text.now c.loop-left.next c.loop-left.left (said_word c.word_at-w.result) c.word_at-w.ensures c.if-left-eq0.false w.if-w-eq-FUN.false w.if-w-eq-FIX.true w.in_ok-x-2.x w.in_ok-x-2.ensures (Ok w.in_ok-next-2.next) w.in_ok-next-2.ensures)))
      | term_end-else-w-eq-FUN+else-w-eq-FIX+then-w-eq-LET+in_ok-x-3+in_ok-next-3 w ↦ rw w.next-is (w.in_ok-next-3.ensures.lexed, (omega arith, inner_next c.args.text.now _ _ _ _ (term_step (c.loop-left.left - 1)) w.in_ok-next-3.next c.loop-left.invariant.1.1 (let-front c.args.text.now c.loop-left.next c.loop-left.left (said_word c.word_at-w.result) c.word_at-w.ensures c.if-left-eq0.false w.if-w-eq-FUN.false w.if-w-eq-FIX.false w.if-w-eq-LET.true w.in_ok-x-3.x w.in_ok-x-3.ensures (Ok w.in_ok-next-3.next) w.in_ok-next-3.ensures)))
    ]

pub tuple_end-loop-t-init : goal.tuple_end-loop-t-init
tuple_end-loop-t-init t c = (c.requires, λ n h r d. tuple-first c.args.text.now c.args.at (term_step c.args.more) (type_step c.args.more false) r n h d)

pub tuple_end-term_end-requires : goal.tuple_end-term_end-requires
tuple_end-term_end-requires t c = (omega (arith, c.decreases), c.loop-t.invariant.0)

pub tuple_end-word_here-c-requires : goal.tuple_end-word_here-c-requires
tuple_end-word_here-c-requires t c = c.in_ok-t.ensures.lexed

pub tuple_end-expect_word-requires : goal.tuple_end-expect_word-requires
tuple_end-expect_word-requires t c = tt

pub tuple_end-returns-then-c-ne-COMMA : goal.tuple_end-returns-then-c-ne-COMMA
tuple_end-returns-then-c-ne-COMMA t c = λ n h. let l = c.loop-t.invariant.1 n h (Ok c.in_ok-t.t) c.in_ok-t.ensures in
    ends_as c.args.text.now _ _ _ _ c.expect_word.result (omega (arith, l.ends.fewer, l.within)) (loop-stop c.args.text.now (trees_end (term_step c.args.more)) (λ us. isSign comma us) (λ us. term_step c.args.more (behind us)) (λ r us. refl) (λ us. expect endRound us) (tuple_end (term_step c.args.more) n (from c.args.text.now c.args.at)) (length (from c.args.text.now c.args.at)) c.in_ok-t.t l (is_no c.args.text.now c.in_ok-t.t (said_word c.word_here-c.result) c.word_here-c.ensures comma c.if-c-ne-COMMA.true) ∙ expect-code endRound (from c.args.text.now c.in_ok-t.t)) (c.expect_word.ensures c.args.text.now c.in_ok-t.t c.word_here-c.ensures (omega arith))

pub tuple_end-loop-t-smaller : goal.tuple_end-loop-t-smaller
tuple_end-loop-t-smaller t c = omega (arith, (c.word_here-c.ensures.onward (λ z. omega (arith, c.if-c-ne-COMMA.false))).fewer, c.in_ok-t.ensures.fewer)

pub tuple_end-loop-t-preserved : goal.tuple_end-loop-t-preserved
tuple_end-loop-t-preserved t c = let o = c.word_here-c.ensures.onward (λ z. omega (arith, c.if-c-ne-COMMA.false)) in (
  o.lexed,
  λ n h r d.
      loop-turn c.args.text.now (trees_end (term_step c.args.more)) (λ us. isSign comma us) (λ us. term_step c.args.more (behind us)) (λ r us. refl) (λ us. expect endRound us) (tuple_end (term_step c.args.more) n (from c.args.text.now c.args.at)) (length (from c.args.text.now c.args.at)) c.in_ok-t.t (c.loop-t.invariant.1 n h (Ok c.in_ok-t.t) c.in_ok-t.ensures) (is_yes c.args.text.now c.in_ok-t.t (said_word c.word_here-c.result) c.word_here-c.ensures comma c.if-c-ne-COMMA.false) _ r (ends_as c.args.text.now _ (length (from c.args.text.now c.word_here-c.result.end)) _ _ r (omega arith) (ap (λ (us : List Word). term_step c.args.more us) o.rest) d) (omega (arith, o.fewer)),
)

pub tuple_end-returns-in_err-t : goal.tuple_end-returns-in_err-t
tuple_end-returns-in_err-t t c = λ n h. ends_passed c.args.text.now _ _ c.from_residual.result _ c.from_residual.ensures.1 (loop_bad _ _ _ _ _ c.in_err-t.field-0.0 (c.loop-t.invariant.1 n h (Err c.in_err-t.field-0.0) c.in_err-t.ensures))
