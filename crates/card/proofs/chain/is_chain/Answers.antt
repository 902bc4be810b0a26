-- The invariant: the type at hand is a chain within the steps left exactly when the root's is. Assumes nothing.
use native.Mathlib.Omega.{arith}
use mathlib.Core.Logic.{inl, inr}
use mathlib.Core.Path.{sym, ap, ◌∙◌}
use Prim.Native.Nat.{◌-◌}
use Rattle.records.specs.Forms.{said_form}
use Rattle.card.proofs.ChainLaws.{chain-none, chain-step, chain-up}
use Rattle.card.proofs.chain.is_chain.Goals as goal

pub returns-in-Bit : goal.returns-in-Bit
returns-in-Bit c =
    let l = c.loop in
    let s = c.args.records.now in
    elim c.in-Bit.is [
      | inl e ↦ chain-step s (256 - l.counter) l.t _ (omega arith) (ap said_form (sym e) ∙ c.type_at.ensures) ∙ l.invariant
      | inr (x, y, e) ↦ chain-step s (256 - l.counter) l.t _ (omega arith) (ap said_form (sym e) ∙ c.type_at.ensures) ∙ l.invariant
    ]

pub returns-in-Linear : goal.returns-in-Linear
returns-in-Linear c =
    let l = c.loop in
    chain-step c.args.records.now (256 - l.counter) l.t _ (omega arith) (ap said_form (sym c.in-Linear.is) ∙ c.type_at.ensures) ∙ l.invariant

pub loop-preserved : goal.loop-preserved
loop-preserved c =
    let l = c.loop in
    chain-up c.args.records.now l.counter l.t _ (omega arith) (ap said_form (sym c.in-Arrow.is) ∙ c.type_at.ensures) ∙ l.invariant

pub returns : goal.returns
returns c = let l = c.loop in chain-none c.args.records.now (256 - l.counter) l.t (omega arith) ∙ l.invariant
