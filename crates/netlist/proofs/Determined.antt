-- Each public function's contract determines its result, and the output where it writes to one: two results that it allows for one
-- call are equal. Assumes nothing.
use mathlib.Core.Path.{◌≡◌, ap, sym, ◌∙◌}
use Prim.Native.Nat.{ℕ}
use Rattle.netlist.specs.declared.Out.{Out}
use Rattle.netlist.specs.declared.Terminal.{Terminal}
use Rattle.netlist.specs.declared.Terminal.TheVariants.{Input, Output}
use Rattle.netlist.specs.Said.{said_terminal}
use Rattle.laws.proofs.OneResult.{Result, Results}
use Rattle.netlist.proofs.terminal_of.Kinds as terminal-of
use Rattle.netlist.proofs.terminal_of.Reads as terminal-of-reads
use Rattle.netlist.proofs.code_of.Kinds as code_of_lem
use Rattle.netlist.proofs.code_of.Reads as code-of-reads
use Rattle.netlist.proofs.number_of.Kinds as number_of_lem
use Rattle.netlist.proofs.number_of.Reads as number-of-reads
use Rattle.netlist.proofs.put_two.Kinds as put_two
use Rattle.netlist.proofs.put_two.Reads as put-two-reads
use Rattle.netlist.proofs.put_point.Kinds as put-point
use Rattle.netlist.proofs.put_point.Reads as put-point-reads
use Rattle.netlist.proofs.put_part.Kinds as put-part
use Rattle.netlist.proofs.put_part.Reads as put-part-reads
use Rattle.netlist.proofs.put_node_point.Kinds as put-node-point
use Rattle.netlist.proofs.put_node_point.Reads as put-node-point-reads
use Rattle.netlist.proofs.put_node_part.Kinds as put-node-part
use Rattle.netlist.proofs.put_node_part.Reads as put-node-part-reads
use Rattle.netlist.proofs.put_element.Kinds as put-element
use Rattle.netlist.proofs.put_element.Reads as put-element-reads
use Rattle.netlist.proofs.put_wire.Kinds as put-wire
use Rattle.netlist.proofs.put_wire.Reads as put-wire-reads
use Rattle.netlist.proofs.put_pin.Kinds as put-pin
use Rattle.netlist.proofs.put_pin.Reads as put-pin-reads
use Rattle.netlist.proofs.inputs_of.Kinds as inputs-of
use Rattle.netlist.proofs.inputs_of.Reads as inputs-of-reads
use Rattle.netlist.proofs.output_of.Kinds as output-of
use Rattle.netlist.proofs.output_of.Reads as output-of-reads
use Rattle.netlist.proofs.next_after.Kinds as next-after
use Rattle.netlist.proofs.next_after.Reads as next-after-reads
use Rattle.netlist.proofs.node_size.Kinds as node-size
use Rattle.netlist.proofs.node_size.Reads as node-size-reads
use Rattle.netlist.proofs.full_length.Kinds as full-length
use Rattle.netlist.proofs.full_length.Reads as full-length-reads
use Rattle.netlist.proofs.write_full.Kinds as write-full
use Rattle.netlist.proofs.write_full.Reads as write-full-reads

pub one_terminal : (x y : Terminal) → said_terminal x ≡ said_terminal y → x ≡ y
one_terminal (Input i) (Input j) e = let h : i.0 ≡ j.0 = cc in ap (λ (x : ℕ). Input (record { 0 = x })) h
one_terminal (Input i) (Output p) e = cc
one_terminal (Output o) (Input j) e = cc
one_terminal (Output o) (Output p) e = let h : o.0 ≡ p.0 = cc in ap (λ (x : ℕ). Output (record { 0 = x })) h

one_out : (x y : Out) → x.0 ≡ y.0 → x ≡ y
one_out x y e = ap (λ (n : ℕ). record { 0 = n }) e

pub terminal_of_determined : Result terminal-of.ps terminal-of.r terminal-of-reads.Post
terminal_of_determined κs a x y s t f g = one_terminal x y (f ∙ sym g)

pub code_of_determined : Result code_of_lem.ps code_of_lem.r code-of-reads.Post
code_of_determined κs a x y s t f g = f ∙ sym g

pub number_of_determined : Result number_of_lem.ps number_of_lem.r number-of-reads.Post
number_of_determined κs a x y s t f g = f ∙ sym g

pub put_two_determined : Results put_two.ps put_two.r put-two-reads.Post (λ κs s. s.0.now)
put_two_determined κs a x y s t f g = (f.0 ∙ sym g.0, f.1 ∙ sym g.1)

pub put_point_determined : Results put-point.ps put-point.r put-point-reads.Post (λ κs s. s.0.now)
put_point_determined κs a x y s t f g = (f.0 ∙ sym g.0, f.1 ∙ sym g.1)

pub put_part_determined : Results put-part.ps put-part.r put-part-reads.Post (λ κs s. s.0.now)
put_part_determined κs a x y s t f g = (f.0 ∙ sym g.0, f.1 ∙ sym g.1)

pub put_node_point_determined : Results put-node-point.ps put-node-point.r put-node-point-reads.Post (λ κs s. s.0.now)
put_node_point_determined κs a x y s t f g = (f.0 ∙ sym g.0, f.1 ∙ sym g.1)

pub put_node_part_determined : Results put-node-part.ps put-node-part.r put-node-part-reads.Post (λ κs s. s.0.now)
put_node_part_determined κs a x y s t f g = (f.0 ∙ sym g.0, f.1 ∙ sym g.1)

pub put_element_determined : Results put-element.ps put-element.r put-element-reads.Post (λ κs s. s.0.now)
put_element_determined κs a x y s t f g = (f.0 ∙ sym g.0, f.1 ∙ sym g.1)

pub put_wire_determined : Results put-wire.ps put-wire.r put-wire-reads.Post (λ κs s. s.0.now)
put_wire_determined κs a x y s t f g = (f.0 ∙ sym g.0, f.1 ∙ sym g.1)

pub put_pin_determined : Results put-pin.ps put-pin.r put-pin-reads.Post (λ κs s. s.0.now)
put_pin_determined κs a x y s t f g = (f.0 ∙ sym g.0, f.1 ∙ sym g.1)

pub inputs_of_determined : Result inputs-of.ps inputs-of.r inputs-of-reads.Post
inputs_of_determined κs a x y s t f g = f ∙ sym g

pub output_of_determined : Result output-of.ps output-of.r output-of-reads.Post
output_of_determined κs a x y s t f g = one_out x y (f ∙ sym g)

pub next_after_determined : Result next-after.ps next-after.r next-after-reads.Post
next_after_determined κs a x y s t f g = f ∙ sym g

pub node_size_determined : Result node-size.ps node-size.r node-size-reads.Post
node_size_determined κs a x y s t f g = f ∙ sym g

pub full_length_determined : Result full-length.ps full-length.r full-length-reads.Post
full_length_determined κs a x y s t f g = f ∙ sym g

pub write_full_determined : Results write-full.ps write-full.r write-full-reads.Post (λ κs s. s.1.0.now)
write_full_determined κs a x y s t f g = (f.0 ∙ sym g.0, f.1 ∙ sym g.1)
