-- The last entry of the name from where the frame says that the variables begin. Assumes nothing.
use Rattle.term_parts.proofs.LookFor.{look-nowhere, look-here, look-within}
use Rattle.scopes.specs.Entries.{last_named}
use Rattle.scopes.specs.declared.frames.Frame.{Frame}
use mathlib.Core.Path.{refl, ◌∙◌, ap}
use Prim.Native.Nat.{◌-◌}
use native.Mathlib.Omega.{arith}
use Rattle.term_parts.proofs.variables.variable_at.Goals as goal

pub last_of-e-requires : goal.last_of-e-requires
last_of-e-requires c = (record { room = c.requires.places.room; most = c.requires.places.most; inside = λ e a b. c.requires.places.inside e (omega arith) b }, (omega (arith, c.requires.ordered, ap (λ (g : Frame). g.variables) c.frame_at-f.ensures), c.requires.inside))

pub returns-then-e-f : goal.returns-then-e-f
returns-then-e-f c = look-nowhere c.args.text.now c.args.work.now c.args.name c.args.frame c.args.top c.last_of-e.result (c.last_of-e.ensures ∙ ap (λ (g : Frame). last_named c.args.text.now c.args.work.now c.args.name g.variables (c.args.top - g.variables)) c.frame_at-f.ensures) c.requires (omega (arith, ap (λ (g : Frame). g.variables) c.frame_at-f.ensures))

pub value_of-v-requires : goal.value_of-v-requires
value_of-v-requires c = let w = look-within c.args.text.now c.args.work.now c.args.name c.args.frame c.args.top c.last_of-e.result (c.last_of-e.ensures ∙ ap (λ (g : Frame). last_named c.args.text.now c.args.work.now c.args.name g.variables (c.args.top - g.variables)) c.frame_at-f.ensures) c.requires in let m = c.requires.places.most in (omega arith, c.requires.places.room)

pub overflow_sub-result : goal.overflow_sub-result
overflow_sub-result c = look-within c.args.text.now c.args.work.now c.args.name c.args.frame c.args.top c.last_of-e.result (c.last_of-e.ensures ∙ ap (λ (g : Frame). last_named c.args.text.now c.args.work.now c.args.name g.variables (c.args.top - g.variables)) c.frame_at-f.ensures) c.requires

pub returns : goal.returns
returns c = look-here c.args.text.now c.args.work.now c.args.name c.args.frame c.args.top c.last_of-e.result (c.last_of-e.ensures ∙ ap (λ (g : Frame). last_named c.args.text.now c.args.work.now c.args.name g.variables (c.args.top - g.variables)) c.frame_at-f.ensures) c.requires (λ h. absurd (omega (arith, c.if-e-f.false, ap (λ (g : Frame). g.variables) c.frame_at-f.ensures))) _ _ refl c.value_of-v.ensures.0
