-- The last entry with the place from where the frame says that the variables begin. Assumes nothing.
use Rattle.term_parts.proofs.LookFor.{place-nowhere, place_here, place-within}
use Rattle.scopes.specs.Entries.{last_placed}
use Rattle.scopes.specs.declared.frames.Frame.{Frame}
use mathlib.Core.Path.{refl, ◌∙◌, ap}
use Prim.Native.Nat.{◌-◌}
use native.Mathlib.Omega.{arith}
use Rattle.term_parts.proofs.variables.list_at.Goals as goal

pub last_at-e-requires : goal.last_at-e-requires
last_at-e-requires c = (c.requires.room, (c.requires.most, omega (arith, c.requires.ordered, ap (λ (g : Frame). g.variables) c.frame_at-f.ensures)))

pub returns-then-e-f : goal.returns-then-e-f
returns-then-e-f c = place-nowhere c.args.work.now c.args.place c.args.frame c.args.top c.last_at-e.result (c.last_at-e.ensures ∙ ap (λ (g : Frame). last_placed c.args.work.now c.args.place g.variables (c.args.top - g.variables)) c.frame_at-f.ensures) c.requires (omega (arith, ap (λ (g : Frame). g.variables) c.frame_at-f.ensures))

pub value_of-v-requires : goal.value_of-v-requires
value_of-v-requires c = let w = place-within c.args.work.now c.args.place c.args.frame c.args.top c.last_at-e.result (c.last_at-e.ensures ∙ ap (λ (g : Frame). last_placed c.args.work.now c.args.place g.variables (c.args.top - g.variables)) c.frame_at-f.ensures) c.requires in let m = c.requires.most in (omega arith, c.requires.room)

pub overflow_sub-result : goal.overflow_sub-result
overflow_sub-result c = place-within c.args.work.now c.args.place c.args.frame c.args.top c.last_at-e.result (c.last_at-e.ensures ∙ ap (λ (g : Frame). last_placed c.args.work.now c.args.place g.variables (c.args.top - g.variables)) c.frame_at-f.ensures) c.requires

pub returns : goal.returns
returns c = place_here c.args.work.now c.args.place c.args.frame c.args.top c.last_at-e.result (c.last_at-e.ensures ∙ ap (λ (g : Frame). last_placed c.args.work.now c.args.place g.variables (c.args.top - g.variables)) c.frame_at-f.ensures) c.requires (λ h. absurd (omega (arith, c.if-e-f.false, ap (λ (g : Frame). g.variables) c.frame_at-f.ensures))) _ _ refl c.value_of-v.ensures.0
