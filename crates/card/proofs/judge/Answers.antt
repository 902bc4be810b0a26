-- By the first rule that fails. Assumes nothing.
use mathlib.Core.Path.{◌≡◌, refl, sym, ap, ◌∙◌}
use mathlib.Core.Bool.{Bool}
use mathlib.Core.List.{List}
use Prim.Native.Nat.{ℕ}
use Rattle.std.specs.Prelude.{Option}
use Rattle.calculus.specs.Answer.{Answer, refused}
use Rattle.answers.specs.Refusals.{said_why}
use Rattle.answers.specs.declared.Refusal.{Refusal}
use Rattle.export_calculus.specs.Card.{need_all, no_ring, input_place, profiled}
use Rattle.lean.specs.Layout.{lean_in, LeanReady}
use Rattle.card.specs.Rings.{lowest_from, answer_of}
use Rattle.card.proofs.RingLaws.{lowest-answer}
use Rattle.card.proofs.JudgeLaws.{no_chain, ring-there, unread-there, passes}
use Rattle.card.proofs.judge.Goals as goal

-- what the definitions say of the code's refusal
abbrev told : Refusal → Answer (Unit {0})
told why = refused (said_why why)

rings : (w : List ℕ) (end pins : ℕ) → LeanReady w end pins → (r : Option ℕ) → r ≡ lowest_from w end 0
    → need_all (no_ring (lean_in w end pins).pins) 28 input_place (lean_in w end pins).elements ≡ answer_of 28 r
rings w end pins q r h = lowest-answer w end pins q 28 ∙ ap (answer_of 28) (sym h)

pub returns-then-not-is_chain : goal.returns-then-not-is_chain
returns-then-not-is_chain c =
    let a = c.args in
    let m = lean_in a.work.now a.end a.pins in
    (ap told c.at.ensures ∙ no_chain _ m c.if-not-is_chain.true ∙ ap (λ (b : Bool). profiled b m) c.is_chain.ensures, refl)

pub returns-in-Some : goal.returns-in-Some
returns-in-Some c =
    let a = c.args in
    let m = lean_in a.work.now a.end a.pins in (
      ap told c.at-in-Some.ensures
          ∙ ring-there _ m c.if-not-is_chain.false c.lowest.result (rings a.work.now a.end a.pins c.requires.ready c.lowest.result c.lowest.ensures) _ c.in-Some.is
          ∙ ap (λ (b : Bool). profiled b m) c.is_chain.ensures,
      refl,
    )

pub returns-in-Some-unread : goal.returns-in-Some-unread
returns-in-Some-unread c =
    let a = c.args in
    let m = lean_in a.work.now a.end a.pins in (
      ap told c.at-in-Some-unread.ensures
          ∙ unread-there _ m c.if-not-is_chain.false c.lowest.result (rings a.work.now a.end a.pins c.requires.ready c.lowest.result c.lowest.ensures) c.in_default.is
          c.unread.result c.unread.ensures.0 _ c.in-Some-unread.is
          ∙ ap (λ (b : Bool). profiled b m) c.is_chain.ensures,
      c.unread.ensures.1,
    )

pub returns : goal.returns
returns c =
    let a = c.args in
    let m = lean_in a.work.now a.end a.pins in (
      passes _ m c.if-not-is_chain.false c.lowest.result (rings a.work.now a.end a.pins c.requires.ready c.lowest.result c.lowest.ensures) c.in_default.is
          c.unread.result c.unread.ensures.0 c.in_default-unread.is
          ∙ ap (λ (b : Bool). profiled b m) c.is_chain.ensures,
      c.unread.ensures.1,
    )
