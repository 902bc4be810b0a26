-- The contracts of the functions that other modules call determine what they answer and leave. Assumes nothing.
use Prim.Native.Nat.{ℕ, ◌+◌, ◌<◌}
use mathlib.Core.Path.{◌≡◌, sym, ap, ◌∙◌}
use mathlib.Core.List.{List}
use lib.ListN.{get_or}
use contract.Lifetimes.{Lfts}
use denote.Triple.Clauses.{AtExit}
use borrow.Fn.Kinds.{Dens, res_t, ended_of}
use Rattle.laws.proofs.OneResult.{Left}
use Rattle.trace_steps.specs.Map.{order_at, registers_at}
use Rattle.trace_steps.specs.Ticks.{Running}
use Rattle.trace_flat.specs.Flat.{first_at, second_at_lem, third_at, sources_at, second_for, third_for, first_place, last_place}
use Rattle.trace_flat.specs.FlatTicks.{FlatLaid}
use Rattle.trace_flat.proofs.layout.lay.Kinds as lay
use Rattle.trace_flat.proofs.layout.lay.Reads as lay-reads
use Rattle.trace_flat.proofs.steps.pass.Kinds as pass
use Rattle.trace_flat.proofs.steps.pass.Reads as pass-reads
use Rattle.trace_flat.proofs.steps.hold.Kinds as hold
use Rattle.trace_flat.proofs.steps.hold.Reads as hold-reads
use Rattle.trace_flat.proofs.steps.turn.Kinds as turn
use Rattle.trace_flat.proofs.steps.turn.Reads as turn-reads
use Rattle.trace_flat.proofs.bits.wake.Kinds as wake
use Rattle.trace_flat.proofs.bits.wake.Reads as wake-reads
use Rattle.trace_flat.proofs.bits.run.Kinds as run
use Rattle.trace_flat.proofs.bits.run.Reads as run-reads
use Rattle.trace_flat.proofs.lanes.wake.Kinds as lanes-wake
use Rattle.trace_flat.proofs.lanes.wake.Reads as lanes-wake-reads
use Rattle.trace_flat.proofs.lanes.keep.Kinds as lanes_keep
use Rattle.trace_flat.proofs.lanes.keep.Reads as lanes-keep-reads
use Rattle.trace_flat.proofs.lanes.run.Kinds as lanes_run
use Rattle.trace_flat.proofs.lanes.run.Reads as lanes-run-reads

-- the lists that ticks read: the three places of each of n gates, and the place that each of r registers stores
pub record SameLists (n r : ℕ) (v w : List ℕ) : Type 0 where
  pub first : (j : ℕ) → j < n → get_or v (first_at + j) 0 ≡ get_or w (first_at + j) 0
  pub second : (j : ℕ) → j < n → get_or v (second_at_lem + j) 0 ≡ get_or w (second_at_lem + j) 0
  pub third : (j : ℕ) → j < n → get_or v (third_at + j) 0 ≡ get_or w (third_at + j) 0
  pub source : (j : ℕ) → j < r → get_or v (sources_at + j) 0 ≡ get_or w (sources_at + j) 0

same_lists : (u : List ℕ) (end n r p : ℕ) (v w : List ℕ) → FlatLaid u end n r p v → FlatLaid u end n r p w → SameLists n r v w
same_lists u end n r p v w f g =
    let e = f.placed ∙ sym g.placed in
    record {
      first = λ j h. f.first j h ∙ ap (λ (m : List ℕ). first_place m (get_or m (order_at + j) 0)) e ∙ sym (g.first j h);
      second = λ j h. f.second j h ∙ ap (λ (m : List ℕ). second_for (get_or m (get_or m (order_at + j) 0) 0) (last_place m (get_or m (order_at + j) 0))) e ∙ sym (g.second j h);
      third = λ j h. f.third j h ∙ ap (λ (m : List ℕ). third_for (get_or m (get_or m (order_at + j) 0) 0) (first_place m (get_or m (order_at + j) 0)) (last_place m (get_or m (order_at + j) 0))) e ∙ sym (g.third j h);
      source = λ j h. f.source j h ∙ ap (λ (m : List ℕ). last_place m (get_or m (registers_at + j) 0)) e ∙ sym (g.source j h);
    }

pub lay-determined : (κs : Lfts 1) (a : Dens κs lay.ps) (x y : (res_t lay.r κs).Denot) (s t : AtExit (ended_of 1 lay.ps lay.r) κs)
    → lay-reads.Post κs a x s → lay-reads.Post κs a y t → SameLists a.1.1.0 a.1.1.1.0 s.0.now t.0.now
lay-determined κs a x y s t f g = same_lists _ _ _ _ _ _ _ f g

pub pass_determined : Left pass.ps pass.r pass-reads.Post (λ κs s. s.0.now)
pass_determined κs a x y s t f g = f.whole ∙ sym g.whole

pub hold_determined : Left hold.ps hold.r hold-reads.Post (λ κs s. s.0.now)
hold_determined κs a x y s t f g = f.whole ∙ sym g.whole

pub turn_determined : Left turn.ps turn.r turn-reads.Post (λ κs s. s.0.now)
turn_determined κs a x y s t f g = f.whole ∙ sym g.whole

pub wake_determined : Left wake.ps wake.r wake-reads.Post (λ κs s. s.0.now)
wake_determined κs a x y s t f g = f.whole ∙ sym g.whole

pub lanes_wake_determined : Left lanes-wake.ps lanes-wake.r lanes-wake-reads.Post (λ κs s. s.0.now)
lanes_wake_determined κs a x y s t f g = f.whole ∙ sym g.whole

pub lanes_keep_determined : Left lanes_keep.ps lanes_keep.r lanes-keep-reads.Post (λ κs s. s.1.0.now)
lanes_keep_determined κs a x y s t f g = f.whole ∙ sym g.whole

-- the working memory, and the output
pub run-determined : (κs : Lfts 3) (a : Dens κs run.ps) (x y : (res_t run.r κs).Denot) (s t : AtExit (ended_of 3 run.ps run.r) κs)
    → run-reads.Post κs a x s → run-reads.Post κs a y t → (s.0.now ≡ t.0.now) × (s.1.1.0.now ≡ t.1.1.0.now)
run-determined κs a x y s t f g = let e = f.whole ∙ sym g.whole in (ap (λ (z : Running). z.mem) e, ap (λ (z : Running). z.out) e)

pub lanes_run-determined : (κs : Lfts 3) (a : Dens κs lanes_run.ps) (x y : (res_t lanes_run.r κs).Denot) (s t : AtExit (ended_of 3 lanes_run.ps lanes_run.r) κs)
    → lanes-run-reads.Post κs a x s → lanes-run-reads.Post κs a y t → (s.0.now ≡ t.0.now) × (s.1.1.0.now ≡ t.1.1.0.now)
lanes_run-determined κs a x y s t f g = let e = f.whole ∙ sym g.whole in (ap (λ (z : Running). z.mem) e, ap (λ (z : Running). z.out) e)
