-- `translation::write::write_card` meets its contract: the profile is judged over the lean netlist, which changes nothing, and the full one still
-- stands. Assumes nothing.
use mathlib.Core.Path.{sym, ap, subst, ◌∙◌}
use mathlib.Core.Bool.{true, false}
use mathlib.Core.List.{List}
use Prim.Native.Nat.{ℕ}
use lib.ListN.{length}
use Rattle.calculus.specs.Translate.{asked_bytes}
use Rattle.memory.specs.Map.{makers_at, region, net_in}
use Rattle.card.specs.Chains.{chain_in}
use Rattle.card.specs.Judged.{said_judged}
use Rattle.card.proofs.MarkLaws.{markable}
use Rattle.export_calculus.specs.Card.{profiled}
use Rattle.lean.specs.Layout.{Leant}
use Rattle.lean.proofs.LeantLaws.{made_bytes, made_ready}
use Rattle.translator.specs.Said.{in_room, AnswerSays}
use Rattle.calculus.specs.Lean.{lean}
use Rattle.answers.proofs.Passed.{passed}
use Rattle.std.specs.declared.result.Result.{Result}
use Rattle.answers.specs.declared.Refusal.{Refusal}
use Rattle.translation.specs.Wished.{said_wish, on_pass}
use Rattle.translation.proofs.WriteLaws.{wished_says, made-full, made-known, made_keeps, check_refused, check-passed}
use Rattle.translation.proofs.write.write_card.Goals as goal

pub judge-requires : goal.judge-requires
judge-requires c =
    let a = c.args in
    markable a.work.now a.counts.elements a.counts.wires a.counts.pins c.requires.0 c.make_lean-end.new.work c.make_lean-end.result c.make_lean-end.ensures

pub returns-then-wish : goal.returns-then-wish
returns-then-wish c =
    let a = c.args in
    let x = c.judge.new.work in
    let l = subst (λ (x : List ℕ). Leant a.work.now a.counts.elements a.counts.wires a.counts.pins x c.make_lean-end.result) (sym c.judge.ensures.1) c.make_lean-end.ensures in (
      check-passed _ _ _ _ _ (ap said_judged (sym c.in_ok-judge.was) ∙ c.judge.ensures.0 ∙ ap (profiled (chain_in a.records.now 256 a.root)) c.make_lean-end.ensures.net)
          (wished_says (said_wish a.wish) true a.out.now _ c.write_lean.result (net_in a.work.now a.counts.elements a.counts.wires a.counts.pins) (region a.work.now makers_at a.counts.elements) c.if-wish.true
          (subst (λ (b : List ℕ). AnswerSays c.write_lean.result a.out.now c.write_lean.new.out (in_room b (length a.out.now))) (made_bytes a.work.now x a.counts.elements a.counts.wires a.counts.pins c.make_lean-end.result c.requires.0 l a.wish.plain) c.write_lean.ensures)),
      made_keeps a.work.now x a.counts.elements a.counts.wires a.counts.pins c.make_lean-end.result c.requires.0 l,
    )

pub write_full-requires : goal.write_full-requires
write_full-requires c =
    let a = c.args in
    let x = c.judge.new.work in
    let l = subst (λ (x : List ℕ). Leant a.work.now a.counts.elements a.counts.wires a.counts.pins x c.make_lean-end.result) (sym c.judge.ensures.1) c.make_lean-end.ensures in (
      made_ready a.work.now x a.counts.elements a.counts.wires a.counts.pins c.make_lean-end.result c.requires.0 l,
      made-known a.work.now x a.counts.elements a.counts.wires a.counts.pins c.make_lean-end.result c.requires.0 l c.requires.1,
    )

pub returns-in_err-judge : goal.returns-in_err-judge
returns-in_err-judge c =
    let a = c.args in
    let x = c.judge.new.work in
    let l = subst (λ (x : List ℕ). Leant a.work.now a.counts.elements a.counts.wires a.counts.pins x c.make_lean-end.result) (sym c.judge.ensures.1) c.make_lean-end.ensures in
    let bytes = in_room (asked_bytes (said_wish a.wish) (net_in a.work.now a.counts.elements a.counts.wires a.counts.pins) (region a.work.now makers_at a.counts.elements)) (length a.out.now) in (
      subst (λ (r : Result ℕ Refusal). AnswerSays r a.out.now a.out.now (on_pass (profiled (chain_in a.records.now 256 a.root) (lean (net_in a.work.now a.counts.elements a.counts.wires a.counts.pins))) bytes)) (sym (passed _ c.from_residual.ensures.1))
          (check_refused _ _ _ bytes (ap said_judged (sym c.in_err-judge.was) ∙ c.judge.ensures.0 ∙ ap (profiled (chain_in a.records.now 256 a.root)) c.make_lean-end.ensures.net)),
      made_keeps a.work.now x a.counts.elements a.counts.wires a.counts.pins c.make_lean-end.result c.requires.0 l,
    )

pub returns : goal.returns
returns c =
    let a = c.args in
    let x = c.judge.new.work in
    let l = subst (λ (x : List ℕ). Leant a.work.now a.counts.elements a.counts.wires a.counts.pins x c.make_lean-end.result) (sym c.judge.ensures.1) c.make_lean-end.ensures in (
      check-passed _ _ _ _ _ (ap said_judged (sym c.in_ok-judge.was) ∙ c.judge.ensures.0 ∙ ap (profiled (chain_in a.records.now 256 a.root)) c.make_lean-end.ensures.net)
          (wished_says (said_wish a.wish) false a.out.now _ c.write_full.result (net_in a.work.now a.counts.elements a.counts.wires a.counts.pins) (region a.work.now makers_at a.counts.elements) c.if-wish.false
          (subst (λ (b : List ℕ). AnswerSays c.write_full.result a.out.now c.write_full.new.out (in_room b (length a.out.now))) (made-full a.work.now x a.counts.elements a.counts.wires a.counts.pins c.make_lean-end.result c.requires.0 l a.wish.plain) c.write_full.ensures)),
      made_keeps a.work.now x a.counts.elements a.counts.wires a.counts.pins c.make_lean-end.result c.requires.0 l,
    )
