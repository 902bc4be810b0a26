-- A read sheet: its table, its term, and the root's place; a netlist that the memory holds is read back as itself. Assumes nothing.
use Prim.Native.Nat.{ℕ, zero, suc, ◌+◌, ◌≤◌, ◌<◌}
use mathlib.Core.Path.{◌≡◌, refl, sym, ap, ap₂, ◌∙◌, subst}
use mathlib.Core.Bool.{Bool, cond}
use mathlib.Core.List.{List, [], ◌∷◌, ◌++◌, map, append-nil, Memᴰ}
use native.Mathlib.Omega.{arith}
use borrow.Author.Tests.{ne_eqb}
use lib.ListN.{length, get_or, drop, replicate, length-map, length-replicate}
use lib.Seq.{sets, length-sets}
use Rattle.laws.proofs.Regions.{sets-drop}
use Rattle.calculus.specs.Answer.{good}
use Rattle.calculus.proofs.Answers.{good-inj}
use Rattle.calculus.specs.Types.{tree}
use Rattle.calculus.specs.Terms.{nodes, part_at}
use Rattle.calculus.specs.Read.{Sheet, read_sheet}
use Rattle.calculus.specs.Write.{table_bytes}
use Rattle.sheet_theorems.specs.Laid as Laid-as
use Rattle.calculus.specs.Net.{Terminal, Interface, Element, point, part, Wire, Net, Made, make, net_of}
use Rattle.calculus.specs.Lean.{driver}
use Rattle.calculus.specs.Record.{All}
use Rattle.circuit_theorems.specs.Formed.{Tiled, Formed}
use Rattle.calculus.specs.Translate.{full}
use Rattle.memory.specs.Map.{targets_at, elements_at, stack_at, binders_at, memory_size, region, kind_number, elements_from, wires_from, code, terminal_of, net_in}
use Rattle.calculus.specs.NetRead.{Known}
use Rattle.circuit_theorems.proofs.KnownParts.{made-known}
use Rattle.sheet_theorems.proofs.Laying.{laid}
use Rattle.sheet_theorems.proofs.Standing.{sheet-stands}
use Rattle.records.specs.Told.{sizes_of}
use Rattle.records.proofs.ToldLaws.{sheet-types, size-at, sizes-length}
use Rattle.circuit_theorems.specs.Drive.{drive_all}
use Rattle.circuit_theorems.specs.Scope.{env_end}
use Rattle.circuit_theorems.proofs.Lists.{all_map}
use Rattle.circuit_theorems.proofs.Wiring.{target_one}
use Rattle.circuit_theorems.proofs.Forming.{Gapless}
use Rattle.circuit_theorems.proofs.Main.{AcceptedAs, accepts, formed}
use Rattle.circuit_theorems.proofs.Drive.{mem_driver, table_list_lem}
use Rattle.circuit_theorems.proofs.Bounds.{few_elements, few_wires, few_pins, names}
use Rattle.wiring.specs.declared.walk.State.{State}
use Rattle.wiring.specs.declared.walk.Built.{Built}
use Rattle.wiring.specs.declared.Counts.{Counts}
use Rattle.wiring.specs.Sides.{Knows}
use Rattle.wiring.specs.Store.{Store, Lies, Holds, target, with_made}
use Rattle.wiring.specs.Asks.{Asks, Leaves}
use Rattle.wiring.specs.Count.{Counting}
use Rattle.wiring.specs.Whole.{Read, Accepted, NetStands}
use Rattle.wiring.proofs.LinkLaws.{terminal_back}
use Rattle.laws.proofs.Regions.{sets-at}
use Rattle.wiring.proofs.StoreLaws.{lies_region}

-- ---- a read sheet

module _ {s sizes : List ℕ} {at n : ℕ} (r : Read s sizes at n) (σ : Sheet) (e : read_sheet r.whole ≡ good σ) where
  pub told-laid : Laid-as.Laid s σ
  told-laid = subst (λ (b : List ℕ). Laid-as.Laid b σ) (sym r.behind) (laid r.whole σ e)

  pub told-sheet : r.told.sheet ≡ σ
  told-sheet = good-inj (sym r.told.is ∙ e)

  told-sizes : sizes ≡ sizes_of σ.table
  told-sizes = r.told.sizes_are ∙ ap (λ (x : Sheet). sizes_of x.table) told-sheet

  pub told-knows : Knows s sizes σ.table
  told-knows = record {
    ok = told-laid.table;
    records = sheet-types s σ told-laid;
    sized = λ t h. ap (λ (l : List ℕ). get_or l t 0) told-sizes ∙ size-at σ.table t h;
    all = ap length told-sizes ∙ sizes-length σ.table told-laid.table.few;
  }

  pub told-stands : Laid-as.Stands s at σ.term
  told-stands = subst (λ (k : ℕ). Laid-as.Stands s k σ.term) (sym (r.told.start_is ∙ ap (λ (x : Sheet). length (table_bytes x.table)) told-sheet)) (sheet-stands told-laid)

  pub told-nodes : n ≡ nodes σ.term
  told-nodes = r.told.nodes_are ∙ ap (λ (x : Sheet). nodes x.term) told-sheet

  pub told-few : n ≤ 2048
  told-few = rw told-nodes told-laid.few

  abbrev pub counting : Counting s sizes at n
  counting = record {
    edition = σ.edition;
    table = σ.table;
    knows = told-knows;
    term = σ.term;
    stands = told-stands;
    ranged = told-laid.ranged;
    nodes_are = told-nodes;
    few = told-few;
  }

-- ---- a netlist is read back

elements_back : (es : List Element) (n e : ℕ) → Tiled es n e → All Known es → elements_from (map kind_number es) n ≡ es
elements_back [] n e t k = refl
elements_back (point i ∷ es) n e t k = ap₂ (λ (x : Element) (l : List Element). x ∷ l) (ap point (sym t.0)) (elements_back es (n + 2) e t.1 k.1)
elements_back (part p i ∷ es) n e t k =
    let f = ne_eqb p 7 (λ z. omega (arith, k.0)) in
    ap (λ (b : Bool). cond b (point n ∷ elements_from (map kind_number es) (n + 2)) (part p n ∷ elements_from (map kind_number es) (n + (part_at p).inputs + 1))) f
    ∙ ap₂ (λ (x : Element) (l : List Element). x ∷ l) (ap (part p) (sym t.0)) (elements_back es (n + (part_at p).inputs + 1) e t.1 k.1)

pins_back : (side : Interface) → map terminal_of (map code side) ≡ side
pins_back [] = refl
pins_back (t ∷ side) = ap₂ (λ (x : Terminal) (l : Interface). x ∷ l) (terminal_back t) (pins_back side)

wires_back : (w : List ℕ) (ws : List Wire) → All (λ v. v.to < 8192) ws → ((v : Wire) → Memᴰ v ws → v.to < 8192 → get_or w v.to 0 ≡ v.from) → wires_from w (map target ws) ≡ ws
wires_back w [] a f = refl
wires_back w (v ∷ ws) a f =
    ap₂ (λ (x : ℕ) (l : List Wire). record { from = x; to = v.to } ∷ l) (f v (Memᴰ.head refl) a.0) (wires_back w ws a.1 (λ u m. f u (Memᴰ.tail m)))

get_d_any : (l : List ℕ) (i a b : ℕ) → i < length l → get_or l i a ≡ get_or l i b
get_d_any [] i a b h = absurd (omega arith)
get_d_any (x ∷ l) zero a b h = refl
get_d_any (x ∷ l) (suc i) a b h = get_d_any l i a b (omega arith)

-- ---- the root

abbrev pub root_state : State
root_state = record { next = 0; elements = 0; wires = 0; top = 0; scope = 0 }

abbrev empty : List ℕ → Store
empty rest = record { drivers = replicate 8192 65535; targets = []; kinds = []; stack = []; binders = []; rest = rest }

none_lies : (w : List ℕ) (from room : ℕ) → Lies w from room []
none_lies w from room = record { fits = omega arith; here = λ j h. absurd (omega arith) }

module _ {s sizes w : List ℕ} {at : ℕ} (q : Accepted s sizes w at) (m : Net) (ok : full q.read.whole ≡ good m) {w₁ : List ℕ} (ew : w₁ ≡ sets w 0 (replicate 8192 65535)) where
  abbrev A : AcceptedAs q.read.whole m
  A = accepts q.read.whole m ok

  root-holds : Holds w₁ (empty (drop memory_size w))
  root-holds =
      let l : length (replicate {A = ℕ} 8192 65535) ≡ 8192 = length-replicate {A = ℕ} 8192 65535 in
      let z = length-sets w 0 (replicate {A = ℕ} 8192 65535) in
      rw ew (record {
        size = omega (arith, q.memory);
        drivers = record { fits = omega arith; here = λ j h. sets-at (replicate 8192 65535) w 0 j (omega (arith, q.memory)) h };
        all = l;
        targets = none_lies (sets w 0 (replicate 8192 65535)) targets_at 5632;
        kinds = none_lies (sets w 0 (replicate 8192 65535)) elements_at 5120;
        stack = none_lies (sets w 0 (replicate 8192 65535)) stack_at 8448;
        low = tt;
        binders = none_lies (sets w 0 (replicate 8192 65535)) binders_at 256;
        rest = sets-drop (replicate 8192 65535) w 0 memory_size (omega arith);
      })

  pub root-asks : Asks s sizes w₁ at root_state
  root-asks =
      let L = told-laid q.read A.sheet A.reads in
      record {
        edition = A.sheet.edition;
        table = A.sheet.table;
        knows = told-knows q.read A.sheet A.reads;
        term = A.sheet.term;
        stands = told-stands q.read A.sheet A.reads;
        ranged = L.ranged;
        context = [];
        type = tree A.sheet.table A.type;
        typed = A.typed;
        env = [];
        fits = env_end;
        store = empty (drop memory_size w);
        holds = root-holds;
        elements = refl;
        wires = refl;
        top = refl;
        binds = record { count = refl; all = refl; each = λ i h. absurd (omega arith) };
        few = A.few;
        few_elements = omega (arith, few_elements q.read.whole m ok, ap (λ (x : Net). length x.elements) A.is);
        few_wires = omega (arith, few_wires q.read.whole m ok, ap (λ (x : Net). length x.wires) A.is);
        deep = omega (arith, L.deep);
        scoped = omega (arith, L.deep);
      }

  -- ---- the netlist that is left

  module _ {r : Built} {w' : List ℕ} (L : Leaves root-asks r w') where
    abbrev mk : Made
    mk = make A.sheet.table A.sheet.term [] 0

    made_holds : Holds w' (with_made (empty (drop memory_size w)) mk)
    unfolding root-asks
    made_holds = L.holds

    counts : (r.elements ≡ length mk.elements) × (r.wires ≡ length mk.wires) × (r.len ≡ length mk.side)
    unfolding root-asks
    counts = (omega (arith, L.elements), omega (arith, L.wires), L.len)

    abbrev numbers : Counts
    numbers = record { elements = r.elements; wires = r.wires; pins = r.len }

    is-net : net_of mk ≡ m
    is-net = A.is

    whole : Gapless (net_of mk)
    whole = subst Gapless (sym is-net) (formed q.read.whole m ok)

    -- a list of the memory, as a region
    list-region : (from room k : ℕ) (xs : List ℕ) → Lies w' from room xs → from + room ≤ length w' → k ≡ length xs → region w' from k ≡ xs
    list-region from room k xs l h e =
        let z : Lies w' from room ([] ++ (xs ++ [])) = subst (Lies w' from room) (sym (append-nil xs)) l in
        ap (region w' from) e ∙ lies_region [] xs [] z h from (omega arith)

    driver-at : (i : ℕ) → i < 8192 → get_or w' i 0 ≡ driver mk.wires i 65535
    driver-at i h =
        let D = made_holds.drivers in
        let z : 0 + i ≡ i = omega arith in
        let e : get_or w' i 0 ≡ get_or (drive_all mk.wires (replicate 8192 65535)) i 0 = ap (λ (k : ℕ). get_or w' k 0) (sym z) ∙ D.here i (omega (arith, made_holds.all)) in
        e ∙ get_d_any (drive_all mk.wires (replicate 8192 65535)) i 0 65535 (omega (arith, made_holds.all)) ∙ ap (λ (x : Net). get_or (drive_all x.wires (replicate 8192 65535)) i 65535) is-net ∙ table_list_lem q.read.whole m ok i h ∙ ap (λ (x : Net). driver x.wires i 65535) (sym is-net)

    elements_here : elements_from (region w' elements_at r.elements) 0 ≡ mk.elements
    elements_here =
        ap (λ (l : List ℕ). elements_from l 0) (list-region elements_at 5120 r.elements (map kind_number mk.elements) made_holds.kinds (omega (arith, made_holds.size)) (omega (arith, counts.0, length-map mk.elements kind_number)))
        ∙ elements_back mk.elements 0 whole.net.end whole.tiled (made-known A.typed [] 0)

    wires-here : wires_from w' (region w' targets_at r.wires) ≡ mk.wires
    wires-here =
        ap (wires_from w') (list-region targets_at 5632 r.wires (map target mk.wires) made_holds.targets (omega (arith, made_holds.size)) (omega (arith, counts.1, length-map mk.wires target)))
        ∙ wires_back w' mk.wires low (λ v x h. driver-at v.to h ∙ mem_driver mk.wires v 65535 (target_one (net_of mk) whole.net) x)
      where
        low : All (λ v. v.to < 8192) mk.wires
        low = all_map _ (λ v. v.to < 8192) (λ v a. a.1) mk.wires (subst (λ (x : Net). All (λ v. (v.from < 8192) × (v.to < 8192)) x.wires) (sym is-net) (names q.read.whole m ok).wires)

    pins-here : map terminal_of (region w' stack_at r.len) ≡ mk.side
    pins-here =
        ap (map terminal_of) (list-region stack_at 8448 r.len (map code mk.side) made_holds.stack (omega (arith, made_holds.size)) (omega (arith, counts.2, length-map mk.side code)))
        ∙ pins_back mk.side

    net-here : net_in w' r.elements r.wires r.len ≡ net_of mk
    unfolding net_in
    net-here =
        ap₂ (λ (es : List Element) (ws : List Wire). record { elements = es; wires = ws; pins = map terminal_of (region w' stack_at r.len) }) elements_here wires-here
        ∙ ap (λ (p : Interface). record { elements = mk.elements; wires = mk.wires; pins = p }) pins-here

    pub root_stands : NetStands m numbers w w'
    root_stands = record {
      net = net-here ∙ is-net;
      ready = record {
        size = made_holds.size;
        few_elements = omega (arith, counts.0, few_elements q.read.whole m ok, ap (λ (x : Net). length x.elements) is-net);
        few_wires = omega (arith, counts.1, few_wires q.read.whole m ok, ap (λ (x : Net). length x.wires) is-net);
        few_pins = omega (arith, counts.2, few_pins q.read.whole m ok, ap (λ (x : Net). length x.pins) is-net);
        end = whole.net.end;
        below = whole.few;
        tiled = subst (λ (x : Net). Tiled x.elements 0 whole.net.end) (sym net-here) whole.tiled;
        formed = subst Formed (sym net-here) whole.net;
        table = λ i h. driver-at i h ∙ ap (λ (x : Net). driver x.wires i 65535) (sym net-here);
      };
      known = subst (λ (x : Net). All Known x.elements) (sym net-here) (made-known A.typed [] 0);
      later = made_holds.rest;
    }
