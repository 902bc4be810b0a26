-- The contracts of the functions that other modules call determine what they answer and leave. Assumes nothing.
use mathlib.Core.Path.{◌≡◌, sym, ap, ◌∙◌}
use contract.Lifetimes.{Lfts}
use denote.Triple.Clauses.{AtExit}
use borrow.Fn.Kinds.{Dens, res_t, ended_of}
use Rattle.laws.proofs.OneResult.{Result, Results, Left}
use Rattle.trace_steps.specs.Sweeps.{Sweep}
use Rattle.trace_steps.specs.Pins.{Counted}
use Rattle.trace_steps.specs.Ticks.{Running}
use Rattle.trace_steps.proofs.CopyLaws.{one_table, one_pins}
use Rattle.trace_steps.proofs.table.at.Kinds as at
use Rattle.trace_steps.proofs.table.at.Reads as at_reads
use Rattle.trace_steps.proofs.table.first_of.Kinds as first_of
use Rattle.trace_steps.proofs.table.first_of.Reads as first-of-reads
use Rattle.trace_steps.proofs.table.is_fed.Kinds as is-fed
use Rattle.trace_steps.proofs.table.is_fed.Reads as is-fed-reads
use Rattle.trace_steps.proofs.table.byte.Kinds as byte
use Rattle.trace_steps.proofs.table.byte.Reads as byte-Reads
use Rattle.trace_steps.proofs.copy.copy_table.Kinds as copy-table
use Rattle.trace_steps.proofs.copy.copy_table.Reads as copy-table-reads
use Rattle.trace_steps.proofs.copy.copy_pins.Kinds as copy-pins
use Rattle.trace_steps.proofs.copy.copy_pins.Reads as copy-pins-reads
use Rattle.trace_steps.proofs.order.mark_free.Kinds as mark-free
use Rattle.trace_steps.proofs.order.mark_free.Reads as mark-free-reads
use Rattle.trace_steps.proofs.order.settle.Kinds as settle
use Rattle.trace_steps.proofs.order.settle.Reads as settle-reads
use Rattle.trace_steps.proofs.pins.input_pins.Kinds as input-pins
use Rattle.trace_steps.proofs.pins.input_pins.Reads as input-pins-reads
use Rattle.trace_steps.proofs.pins.all_bits.Kinds as all-bits
use Rattle.trace_steps.proofs.pins.all_bits.Reads as all-bits-reads
use Rattle.trace_steps.proofs.pins.load.Kinds as load
use Rattle.trace_steps.proofs.pins.load.Reads as load-reads
use Rattle.trace_steps.proofs.pins.store.Kinds as store
use Rattle.trace_steps.proofs.pins.store.Reads as store-reads
use Rattle.trace_steps.proofs.ticks.begin.Kinds as begin
use Rattle.trace_steps.proofs.ticks.begin.Reads as begin-reads
use Rattle.trace_steps.proofs.ticks.wake.Kinds as wake
use Rattle.trace_steps.proofs.ticks.wake.Reads as wake-reads
use Rattle.trace_steps.proofs.ticks.registers.Kinds as registers
use Rattle.trace_steps.proofs.ticks.registers.Reads as registers-reads
use Rattle.trace_steps.proofs.ticks.run.Kinds as run
use Rattle.trace_steps.proofs.ticks.run.Reads as run-reads
use Rattle.trace_steps.proofs.table.fed.Kinds as fed
use Rattle.trace_steps.proofs.table.fed.Reads as fed-reads
use Rattle.trace_steps.proofs.table.all.Kinds as all
use Rattle.trace_steps.proofs.table.all.Reads as all-reads
use Rattle.trace_steps.proofs.table.pick.Kinds as pick
use Rattle.trace_steps.proofs.table.pick.Reads as pick-reads
use Rattle.trace_steps.proofs.ticks.pass.Kinds as pass
use Rattle.trace_steps.proofs.ticks.pass.Reads as pass-reads
use Rattle.trace_steps.proofs.ticks.clock.Kinds as clock
use Rattle.trace_steps.proofs.ticks.clock.Reads as clock-reads

pub at-determined : Result at.ps at.r at_reads.Post
at-determined κs a x y s t f g = f ∙ sym g

pub first_of_determined : Result first_of.ps first_of.r first-of-reads.Post
first_of_determined κs a x y s t f g = f ∙ sym g

pub is-fed-determined : Result is-fed.ps is-fed.r is-fed-reads.Post
is-fed-determined κs a x y s t f g = f ∙ sym g

pub byte-determined : Result byte.ps byte.r byte-Reads.Post
byte-determined κs a x y s t f g = f ∙ sym g

pub copy_table_determined : Left copy-table.ps copy-table.r copy-table-reads.Post (λ κs s. s.0.now)
copy_table_determined κs a x y s t f g = one_table _ _ _ _ f g

pub copy_pins_determined : Left copy-pins.ps copy-pins.r copy-pins-reads.Post (λ κs s. s.0.now)
copy_pins_determined κs a x y s t f g = one_pins _ _ _ _ f g

pub mark_free_determined : Left mark-free.ps mark-free.r mark-free-reads.Post (λ κs s. s.0.now)
mark_free_determined κs a x y s t f g = f.whole ∙ sym g.whole

pub settle-determined : Results settle.ps settle.r settle-reads.Post (λ κs s. s.0.now)
settle-determined κs a x y s t f g = let e = f.whole ∙ sym g.whole in (ap (λ (z : Sweep). z.kept) e, ap (λ (z : Sweep). z.mem) e)

pub input_pins_determined : Result input-pins.ps input-pins.r input-pins-reads.Post
input_pins_determined κs a x y s t f g = f ∙ sym g

pub all_bits_determined : Result all-bits.ps all-bits.r all-bits-reads.Post
all_bits_determined κs a x y s t f g = f ∙ sym g

pub load_determined : Results load.ps load.r load-reads.Post (λ κs s. s.0.now)
load_determined κs a x y s t f g = let e = f.whole ∙ sym g.whole in (ap (λ (z : Counted). z.count) e, ap (λ (z : Counted). z.mem) e)

pub store_determined : Results store.ps store.r store-reads.Post (λ κs s. s.1.0.now)
store_determined κs a x y s t f g = let e = f.whole ∙ sym g.whole in (ap (λ (z : Counted). z.count) e, ap (λ (z : Counted). z.mem) e)

pub begin-determined : Left begin.ps begin.r begin-reads.Post (λ κs s. s.0.now)
begin-determined κs a x y s t f g = f.whole ∙ sym g.whole

pub wake_determined : Left wake.ps wake.r wake-reads.Post (λ κs s. s.0.now)
wake_determined κs a x y s t f g = f.whole ∙ sym g.whole

pub registers-determined : Results registers.ps registers.r registers-reads.Post (λ κs s. s.0.now)
registers-determined κs a x y s t f g = let e = f.whole ∙ sym g.whole in (ap (λ (z : Counted). z.count) e, ap (λ (z : Counted). z.mem) e)

-- the working memory, and the output
pub run-determined : (κs : Lfts 3) (a : Dens κs run.ps) (x y : (res_t run.r κs).Denot) (s t : AtExit (ended_of 3 run.ps run.r) κs)
    → run-reads.Post κs a x s → run-reads.Post κs a y t → (s.0.now ≡ t.0.now) × (s.1.1.0.now ≡ t.1.1.0.now)
run-determined κs a x y s t f g = let e = f.whole ∙ sym g.whole in (ap (λ (z : Running). z.mem) e, ap (λ (z : Running). z.out) e)

pub fed-determined : Result fed.ps fed.r fed-reads.Post
fed-determined κs a x y s t f g = f ∙ sym g

pub all-determined : Result all.ps all.r all-reads.Post
all-determined κs a x y s t f g = f ∙ sym g

pub pick-determined : Result pick.ps pick.r pick-reads.Post
pick-determined κs a x y s t f g = f ∙ sym g

pub pass_determined : Left pass.ps pass.r pass-reads.Post (λ κs s. s.0.now)
pass_determined κs a x y s t f g = f.whole ∙ sym g.whole

pub clock_determined : Left clock.ps clock.r clock-reads.Post (λ κs s. s.0.now)
clock_determined κs a x y s t f g = f.whole ∙ sym g.whole
