-- The invariant: so many names were read, and what stands at the offset decides. The measure is how many words are left. Assumes nothing.
use Rattle.std.proofs.lemmas.Result.{err_from_is_err_and}
use borrow.Author.Rules.{rules}
use Rattle.term_parts.proofs.NameLaws.{going_none, going-refused, going-low, going-inside, going_done, going_more, spaced_by_one, one_of_name}
use Rattle.grammar.proofs.EndLaws.{is_yes, is_no}
use Rattle.notation_calculus.specs.Grammar.{is, name_at, names_from}
use Rattle.notation_calculus.specs.Words.{colon}
use mathlib.Core.Path.{refl, subst}
use Rattle.words.specs.Next.{said_word}
use native.Mathlib.Omega.{arith}
use Rattle.term_parts.specs.Names.{spaced, NameSays}
use Rattle.term_parts.proofs.names.count_names.Goals as goal

pub loop-x-init : goal.loop-x-init
loop-x-init c = going_none name_at spaced names_from (λ us. is colon us) spaced_by_one c.args.text.now c.args.at c.requires

pub name_at-requires : goal.name_at-requires
name_at-requires c = c.loop-x.invariant.lexed

pub returns-in_err-x : goal.returns-in_err-x
returns-in_err-x c =
    let p = err_from_is_err_and c.from_residual.result c.from_residual.ensures.1 in
    rw (p.1, p.2) (going-refused name_at spaced names_from (λ us. is colon us) spaced_by_one c.args.text.now c.args.at c.loop-x.p c.loop-x.count c.loop-x.invariant _ (subst (NameSays c.args.text.now c.loop-x.p) c.in_err-x.was c.name_at.ensures))

pub overflow_add-count : goal.overflow_add-count
overflow_add-count c =
    let X = one_of_name _ _ _ (subst (NameSays c.args.text.now c.loop-x.p) c.in_ok-x.was c.name_at.ensures) in
    let l = going-low name_at spaced names_from (λ us. is colon us) spaced_by_one c.args.text.now c.args.at c.loop-x.p c.loop-x.count c.loop-x.invariant c.in_ok-x.x X in
    let g = going-inside name_at spaced names_from (λ us. is colon us) spaced_by_one c.args.text.now c.args.at c.loop-x.p c.loop-x.count c.loop-x.invariant c.in_ok-x.x X in
    search rules

pub word_at-c-requires : goal.word_at-c-requires
word_at-c-requires c = let X = one_of_name _ _ _ (subst (NameSays c.args.text.now c.loop-x.p) c.in_ok-x.was c.name_at.ensures) in X.further.lexed

pub returns-then-c-eq-COLON : goal.returns-then-c-eq-COLON
returns-then-c-eq-COLON c =
    let X = one_of_name _ _ _ (subst (NameSays c.args.text.now c.loop-x.p) c.in_ok-x.was c.name_at.ensures) in
    going_done name_at spaced names_from (λ us. is colon us) spaced_by_one c.args.text.now c.args.at c.loop-x.p c.loop-x.count c.loop-x.invariant c.in_ok-x.x X (is_yes c.args.text.now c.in_ok-x.x.end (said_word c.word_at-c.result) c.word_at-c.ensures colon c.if-c-eq-COLON.true) _ refl

pub loop-x-smaller : goal.loop-x-smaller
loop-x-smaller c =
    let X = one_of_name _ _ _ (subst (NameSays c.args.text.now c.loop-x.p) c.in_ok-x.was c.name_at.ensures) in
    omega (arith, X.further.fewer)

pub loop-x-preserved : goal.loop-x-preserved
loop-x-preserved c =
    let X = one_of_name _ _ _ (subst (NameSays c.args.text.now c.loop-x.p) c.in_ok-x.was c.name_at.ensures) in
    going_more name_at spaced names_from (λ us. is colon us) spaced_by_one c.args.text.now c.args.at c.loop-x.p c.loop-x.count c.loop-x.invariant c.in_ok-x.x X (is_no c.args.text.now c.in_ok-x.x.end (said_word c.word_at-c.result) c.word_at-c.ensures colon c.if-c-eq-COLON.false) c.in_ok-x.x.end refl (omega arith) (omega arith) X.further.lexed _ refl
