-- The nodes that made the elements, stored beside the netlist: the netlist stays, and they are read back. Assumes nothing.
use Prim.Native.Nat.{ℕ, ◌≤◌, ◌<◌}
use mathlib.Core.Path.{◌≡◌, sym, ap, subst, ◌∙◌}
use mathlib.Core.List.{List}
use native.Mathlib.Omega.{arith}
use lib.ListN.{length, get_or}
use lib.Seq.{sets, length-sets}
use Rattle.laws.proofs.Regions.{sets-before, sets-drop, sets-read}
use Rattle.calculus.specs.Answer.{good}
use Rattle.calculus.specs.Read.{Sheet, read_sheet}
use Rattle.calculus.specs.Net.{Net}
use Rattle.calculus.specs.NetRead.{Known}
use Rattle.calculus.specs.Record.{All}
use Rattle.calculus.specs.Makers.{makers, makers_in, makers_of}
use Rattle.calculus.specs.Translate.{full}
use Rattle.circuit_theorems.proofs.Bounds.{few_elements}
use Rattle.circuit_theorems.proofs.Makers.{as_many}
use Rattle.memory.specs.Map.{makers_at, roots_at, region, net_in}
use Rattle.memory.proofs.NetStays.{net-same, ready_same}
use Rattle.netlist.proofs.InMemory.{elements_here}
use Rattle.makers.specs.Naming.{Nameable}
use Rattle.wiring.specs.declared.Counts.{Counts}
use Rattle.wiring.specs.Whole.{Read, NetStands}
use Rattle.wiring.proofs.FullLaws.{counting}

module _ (s : List ℕ) (m : Net) (ok : full s ≡ good m) (σ : Sheet) (read : read_sheet s ≡ good σ) where
  abbrev ks : List ℕ
  ks = makers σ.table σ.term 0

  makers-are : makers_of s ≡ ks
  unfolding makers_of
  makers-are = ap makers_in read

  makers-count : length ks ≡ length m.elements
  makers-count = ap length (sym makers-are) ∙ as_many s m ok σ read

  pub makers-few : length ks ≤ 5120
  makers-few = omega (arith, makers-count, few_elements s m ok)

  -- what naming asks for
  abbrev pub nameable : {b sizes w : List ℕ} {at n : ℕ} (r : Read b sizes at n) → read_sheet r.whole ≡ good σ → 32768 ≤ length w → Nameable b sizes w at n
  nameable r e h =
      let q = counting r σ e in
      record {
        edition = q.edition;
        table = q.table;
        ok = q.knows.ok;
        records = q.knows.records;
        sized = q.knows.sized;
        all = q.knows.all;
        term = q.term;
        stands = q.stands;
        ranged = q.ranged;
        nodes_are = q.nodes_are;
        few = q.few;
        elements = makers-few;
        memory = h;
      }

  module _ (c : Counts) (work mid : List ℕ) (S : NetStands m c work mid) where
    abbrev after : List ℕ
    after = sets mid makers_at ks

    low : (j : ℕ) → j < roots_at → get_or after j 0 ≡ get_or mid j 0
    low j h = sets-before ks mid makers_at j 0 (omega arith)

    same : net_in after c.elements c.wires c.pins ≡ net_in mid c.elements c.wires c.pins
    same = net-same mid c.elements c.wires c.pins S.ready after (length-sets mid makers_at ks) low

    pub named-stands : NetStands m c work after
    named-stands = record {
      net = same ∙ S.net;
      ready = ready_same mid c.elements c.wires c.pins S.ready after (length-sets mid makers_at ks) low;
      known = subst (λ (x : Net). All Known x.elements) (sym same) S.known;
      later = sets-drop ks mid makers_at 32768 (omega (arith, makers-few)) ∙ S.later;
    }

    count-is : c.elements ≡ length ks
    count-is = sym (elements_here mid c.elements c.wires c.pins S.ready) ∙ ap (λ (x : Net). length x.elements) S.net ∙ sym makers-count

    pub named-nodes : region after makers_at c.elements ≡ makers_of s
    named-nodes =
        let z = S.ready.size in
        ap (λ (n : ℕ). region after makers_at n) count-is ∙ sets-read ks mid makers_at (omega (arith, makers-few)) ∙ sym makers-are
