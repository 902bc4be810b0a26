-- A call's bytes with nodes, the node numbers dropped, are the bytes of the call in plain kinds, for both netlists; and where the first
-- has room, so has the second (document 02, L6). Assumes nothing.
use Prim.Native.Nat.{ℕ, ◌≤◌}
use mathlib.Core.Path.{◌≡◌, refl, sym, ap, ◌∙◌}
use mathlib.Core.Bool.{Bool, true, false}
use mathlib.Core.List.{List, []}
use native.Mathlib.Omega.{arith}
use lib.ListN.{length, take, drop}
use lib.Seq.{take_at}
use Rattle.calculus.specs.Answer.{good}
use Rattle.calculus.proofs.Answers.{good-inj}
use Rattle.calculus.specs.Net.{Net, make, net_of, net_bytes}
use Rattle.calculus.specs.Lean.{lean}
use Rattle.calculus.specs.Makers.{makers_of, lean_makers, drop_nodes}
use Rattle.calculus.specs.Translate.{full, Wish, asked, asked_makers, asked_bytes, call}
use Rattle.circuit_theorems.proofs.Main.{accepts}
use Rattle.circuit_theorems.proofs.Makers.{each_length, node_made_lean, as_many}
use Rattle.circuit_theorems.proofs.NodeBytes.{written-dropped, node-bytes}
use Rattle.translation_calculus.specs.Demands.{Conditions, Circuit}
use Rattle.translation_calculus.specs.NodesTold.{read_nodes}
use Rattle.translation.proofs.Demands.{demand_2, demand_3}
use Rattle.translation.proofs.NodesTold.{nodes-told}

abbrev pub with_nodes : Bool → Wish
with_nodes lean = record { lean = lean; plain = false }

abbrev pub in_plain : Bool → Wish
in_plain lean = record { lean = lean; plain = true }

-- the bytes written are the netlist's
front : (w : Wish) (s out : List ℕ) (n : ℕ) (after : List ℕ) (c : Circuit w s out n after) → take n after ≡ asked_bytes w c.net (makers_of s)
front w s out n after c = ap (take n) c.wrote ∙ take_at (asked_bytes w c.net (makers_of s)) (drop n out) n c.needs

-- as many nodes as elements, for both netlists
as_many_asked : (b : Bool) (s : List ℕ) (m : Net) → full s ≡ good m → length (asked_makers b m (makers_of s)) ≡ length (asked b m).elements
as_many_asked false s m e = let a = accepts s m e in as_many s m e a.sheet a.reads
as_many_asked true s m e = let a = accepts s m e in each_length _ (lean m).elements (lean_makers m (makers_of s)) (node_made_lean s m e a.sheet a.reads)

module _ (lean : Bool) (s : List ℕ) where
  -- whatever room and memory the two calls are lent, where both write
  pub call-nodes_dropped : (out work out' work' : List ℕ) (n k : ℕ) → (call (with_nodes lean) s out work).said ≡ good n → (call (in_plain lean) s out' work').said ≡ good k
      → drop_nodes (take n (call (with_nodes lean) s out work).out) ≡ take k (call (in_plain lean) s out' work').out
  call-nodes_dropped out work out' work' n k e f =
      let c = (demand_3 (with_nodes lean) s out work).circuit n e in
      let p = (demand_3 (in_plain lean) s out' work').circuit k f in
      ap drop_nodes (front (with_nodes lean) s out n _ c) ∙ written-dropped false (asked lean c.net) (asked_makers lean c.net (makers_of s))
      ∙ ap (λ (m : Net). net_bytes (asked lean m)) (good-inj (sym c.of_sheet ∙ p.of_sheet)) ∙ sym (front (in_plain lean) s out' k _ p)

  -- with the same room and memory
  pub call_plain_fits : (out work : List ℕ) (n : ℕ) → (call (with_nodes lean) s out work).said ≡ good n → (k : ℕ) × ((call (in_plain lean) s out work).said ≡ good k) × (k ≤ n)
  call_plain_fits out work n e =
      let d = ((demand_2 (with_nodes lean) s out work).accepted n).0 e in
      let σ = d.sheet in
      let c = d.conditions in
      let m = net_of (make σ.table σ.term [] 0) in
      let k = length (net_bytes (asked lean m)) in
      let l : k ≤ n = omega (arith, node-bytes (asked lean m) (asked_makers lean m (makers_of s)), c.needs) in
      let q : Conditions (in_plain lean) s out work σ k = record { memory = c.memory; reads = c.reads; terminals = c.terminals; needs = refl; room = omega (arith, c.room) } in
      (k, ((demand_2 (in_plain lean) s out work).accepted k).1 (record { sheet = σ; conditions = q; type = d.type; typed = d.typed }), l)

  -- the node numbers are read back from the bytes: those that made the elements of the netlist asked for
  pub call-nodes_told : (out work : List ℕ) (n : ℕ) (e : (call (with_nodes lean) s out work).said ≡ good n)
      → read_nodes (take n (call (with_nodes lean) s out work).out) ≡ asked_makers lean ((demand_3 (with_nodes lean) s out work).circuit n e).net (makers_of s)
  call-nodes_told out work n e =
      let c = (demand_3 (with_nodes lean) s out work).circuit n e in
      ap read_nodes (front (with_nodes lean) s out n _ c) ∙ nodes-told (asked lean c.net) (asked_makers lean c.net (makers_of s)) (as_many_asked lean s c.net c.of_sheet)
