-- `words::is_name` meets its contract: a brief name by its bytes and the byte behind them. Assumes nothing.
use Prim.Native.Nat.{◌+◌}
use mathlib.Core.Path.{refl, sym, ap, ◌∙◌}
use mathlib.Core.Bool.{not}
use native.Mathlib.Omega.{arith}
use Rattle.words.proofs.WordLaws.{not_yes, not_no}
use Rattle.words.proofs.FoundLaws.{run_inside}
use Rattle.words.proofs.NameLaws.{goes-here, inside_both, brief-outer, brief-inner, names-differ, names-behind}
use Rattle.words.proofs.same.is_name.Goals as goal

pub bounds-text-name-2 : goal.bounds-text-name-2
bounds-text-name-2 c =
    let b = c.brief.ensures (not_no _ c.if-not-brief.false-raw) in
    omega (arith, b.0, b.1.0, b.1.1, c.requires.1.1, run_inside c.args.text.now c.args.name c.requires.0, c.second-o.ensures.1)

pub returns-then-not-both : goal.returns-then-not-both
returns-then-not-both c =
    let b = c.brief.ensures (not_no _ c.if-not-brief.false-raw) in
    let o = c.second-o in
    names-differ c.args.text.now c.args.name c.args.at c.args.long c.requires.1.1 (brief-outer c.args.text.now c.args.name c.args.at c.args.long o.result (inside_both c.args.text.now c.args.name c.args.at c.args.long c.requires.0 c.requires.1.1 b.1.1) b.0 b.1.0 o.ensures.0 c.both.result _ c.both.ensures refl (not_yes _ c.if-not-both.true-raw))

pub bounds-text-name-4 : goal.bounds-text-name-4
bounds-text-name-4 c =
    let b = c.brief.ensures (not_no _ c.if-not-brief.false-raw) in
    omega (arith, b.0, b.1.0, b.1.1, c.requires.1.1, run_inside c.args.text.now c.args.name c.requires.0, c.second-o.ensures.1)

pub returns-then-not-both-2 : goal.returns-then-not-both-2
returns-then-not-both-2 c =
    let b = c.brief.ensures (not_no _ c.if-not-brief.false-raw) in
    let o = c.second-o in
    let x = c.both in
    let y = c.both-2 in
    names-differ c.args.text.now c.args.name c.args.at c.args.long c.requires.1.1 (sym (brief-inner c.args.text.now c.args.name c.args.at c.args.long o.result (inside_both c.args.text.now c.args.name c.args.at c.args.long c.requires.0 c.requires.1.1 b.1.1) b.0 b.1.0 o.ensures.0 x.result y.result x.ensures y.ensures (not_no _ c.if-not-both.false-raw)) ∙ not_yes _ c.if-not-both-2.true-raw)

pub returns : goal.returns
returns c =
    let b = c.brief.ensures (not_no _ c.if-not-brief.false-raw) in
    let o = c.second-o in
    let x = c.both in
    let y = c.both-2 in
    ap not (goes-here c.args.text.now (c.args.at + c.args.long) c.in_name.result (omega (arith, b.1.1)) c.in_name.ensures) ∙ names-behind c.args.text.now c.args.name c.args.at c.args.long c.requires.1.1 (sym (brief-inner c.args.text.now c.args.name c.args.at c.args.long o.result (inside_both c.args.text.now c.args.name c.args.at c.args.long c.requires.0 c.requires.1.1 b.1.1) b.0 b.1.0 o.ensures.0 x.result y.result x.ensures y.ensures (not_no _ c.if-not-both.false-raw)) ∙ not_no _ c.if-not-both-2.false-raw)
