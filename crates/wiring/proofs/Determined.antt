-- The contracts of the public functions determine what they answer: two results that one allows for a call that it asks for are equal.
-- Of the working memory, `make_net` determines the netlist and what follows from 32,768 on; behind its lists the memory may hold anything.
-- Assumes nothing.
use Prim.Native.Nat.{ℕ}
use mathlib.Core.Path.{◌≡◌, sym, ap, ap₂, ◌∙◌}
use mathlib.Core.List.{List}
use native.Mathlib.Omega.{arith}
use lib.ListN.{length, drop, length-map}
use contract.Lifetimes.{Lfts}
use denote.Triple.Clauses.{AtExit}
use borrow.Fn.Kinds.{Dens, res_t, ended_of}
use Rattle.calculus.specs.Net.{Net}
use Rattle.memory.specs.Map.{targets_at, elements_at, stack_at, memory_size, region, terminal_of, net_in}
use Rattle.netlist.proofs.InMemory.{wires_count}
use Rattle.netlist.proofs.Elements.{kinds-length}
use Rattle.wiring.specs.declared.Counts.{Counts}
use Rattle.wiring.specs.Whole.{NetStands}
use Rattle.laws.proofs.Regions.{region-length}
use Rattle.wiring.proofs.count.Kinds as count
use Rattle.wiring.proofs.count.Reads as count-reads
use Rattle.wiring.proofs.make_net.Kinds as make-net
use Rattle.wiring.proofs.make_net.Reads as make-net-reads

-- the numbers are those of the netlist
module _ {m : Net} {r : Counts} {w w' : List ℕ} (S : NetStands m r w w') where
  numbers-are : (r.elements ≡ length m.elements) × (r.wires ≡ length m.wires) × (r.pins ≡ length m.pins)
  unfolding net_in
  numbers-are =
      let R = S.ready in (
        sym (ap (λ (x : Net). length x.elements) (sym S.net) ∙ kinds-length (region w' elements_at r.elements) 0 ∙ region-length w' elements_at r.elements (omega (arith, R.size, R.few_elements))),
        sym (ap (λ (x : Net). length x.wires) (sym S.net) ∙ wires_count w' (region w' targets_at r.wires) ∙ region-length w' targets_at r.wires (omega (arith, R.size, R.few_wires))),
        sym (ap (λ (x : Net). length x.pins) (sym S.net) ∙ length-map (region w' stack_at r.pins) terminal_of ∙ region-length w' stack_at r.pins (omega (arith, R.size, R.few_pins))),
      )

pub one_netlist : {m : Net} {x y : Counts} {w u v : List ℕ} → NetStands m x w u → NetStands m y w v
    → (x ≡ y) × (net_in u x.elements x.wires x.pins ≡ net_in v y.elements y.wires y.pins) × (drop memory_size u ≡ drop memory_size v)
one_netlist {m} {x} {y} {w} {u} {v} a b =
    let (e₁, k₁, p₁) = numbers-are a in
    let (e₂, k₂, p₂) = numbers-are b in
    let q : x.pins ≡ y.pins = p₁ ∙ sym p₂ in (
      ap₂ (λ (e k : ℕ). record { elements = e; wires = k; pins = x.pins }) (e₁ ∙ sym e₂) (k₁ ∙ sym k₂) ∙ ap (λ (p : ℕ). record { elements = y.elements; wires = y.wires; pins = p }) q,
      a.net ∙ sym b.net,
      a.later ∙ sym b.later,
    )

pub count-determined : (κs : Lfts 2) (a : Dens κs count.ps) (x y : (res_t count.r κs).Denot) (s t : AtExit (ended_of 2 count.ps count.r) κs)
    → count-reads.Pre κs a → count-reads.Post κs a x s → count-reads.Post κs a y t → x ≡ y
count-determined κs a x y s t p f g = f p ∙ sym (g p)

pub make_net_determined : (κs : Lfts 3) (a : Dens κs make-net.ps) (x y : (res_t make-net.r κs).Denot) (s t : AtExit (ended_of 3 make-net.ps make-net.r) κs)
    → make-net-reads.Pre κs a → make-net-reads.Post κs a x s → make-net-reads.Post κs a y t → x ≡ y
make_net_determined κs a x y s t p f g = (one_netlist (f p) (g p)).0
