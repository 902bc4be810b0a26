-- The joint sheet never shows 1 exactly when the two sheets have the same outputs in all runs. Assumes nothing.
use Prim.Native.Nat.{ℕ, suc, ◌≤◌}
use mathlib.Core.Path.{◌≡◌, refl, sym, ap, ◌∙◌, subst}
use mathlib.Core.Logic.{◌↔◌}
use mathlib.Core.List.{List, [], ◌++◌}
use native.Mathlib.Nat.{le_refl}
use lib.Dec.{T}
use lib.ListN.{length, get_or}
use Rattle.calculus.specs.Answer.{good, refuse}
use Rattle.calculus.proofs.Answers.{good-inj}
use Rattle.calculus.specs.Types.{Ty, tree}
use Rattle.calculus.specs.Read.{Sheet, read_sheet}
use Rattle.calculus.specs.Walk.{Found, walk}
use Rattle.calculus.specs.Rules.{Typed}
use mathlib.Core.Bool.{false}
use Rattle.calculus.specs.Net.{turns, Made, Net, make, net_of}
use Rattle.calculus.specs.Lean.{root, lean}
use Rattle.calculus.specs.Record.{Bits, Possible, part_law}
use Rattle.calculus.specs.Translate.{full}
use Rattle.sheet_theorems.proofs.Laying.{laid}
use Rattle.sheet_theorems.proofs.Exact.{exact_type}
use Rattle.circuit_theorems.specs.Scope.{env_end}
use Rattle.circuit_theorems.specs.Formed.{Formed}
use Rattle.circuit_theorems.proofs.Drivers.{term_driven}
use Rattle.circuit_theorems.proofs.Main.{accepts, formed}
use Rattle.linear_theorems.proofs.Below.{lows}
use Rattle.trace_calculus.specs.Trace.{in_pins, registers, rows}
use Rattle.trace_calculus.specs.Promise.{OfSheet}
use Rattle.never_calculus.specs.Never.{Allows, RecordFrom, Never, CanShow, FirstShown}
use Rattle.never_calculus.specs.Search.{never_call}
use Rattle.never_calculus.specs.Promise.{output_pin, Asked}
use Rattle.never_theorems.specs.Against.{SameRuns, RunsDiffer, FirstApart, Against}
use Rattle.never_theorems.proofs.Against.{allows-both, on_true, same_so, shown-differ}
use Rattle.never.proofs.Exact.{never_promise}
use Rattle.same_theorems.specs.Joint.{takes_bits, taken_types, shown_type, arrows_to, root_of, against, against_over}
use Rattle.same_theorems.specs.Joined.{JoinsSheets}
use Rattle.same_theorems.proofs.Moved.{typed_scoped}
use Rattle.same_theorems.proofs.Joining.{ClosedOf, arrows-taken, shown-sharable, JointOf, joint-made}
use Rattle.same_theorems.proofs.Pins.{taken-sharable}
use Rattle.same_theorems.proofs.Standing.{OfBits, pins_out, joint-against}
use Rattle.same_theorems.proofs.Meeting.{Meets, joint-meets}

-- ---- an accepted sheet

module _ (s : List ℕ) (σ : Sheet) (m : Net) (reads : read_sheet s ≡ good σ) (of : full s ≡ good m) where
  abbrev whole_made : Made
  whole_made = make σ.table σ.term [] 0

  typed-as : (τ : Ty) × Typed σ.edition σ.table [] σ.term τ
  typed-as =
      let a = accepts s m of in
      let e : a.sheet ≡ σ = good-inj (sym a.reads ∙ reads) in
      (tree σ.table a.type, subst (λ (ς : Sheet). Typed ς.edition ς.table [] ς.term (tree ς.table a.type)) e a.typed)

  net_is : m ≡ net_of whole_made
  net_is =
      let a = accepts s m of in
      sym (subst (λ (ς : Sheet). net_of (make ς.table ς.term [] 0) ≡ m) (good-inj (sym a.reads ∙ reads)) a.is)

  formed-as : Formed (net_of whole_made)
  formed-as = subst Formed net_is (formed s m of).net

  closed-as : (τ : Ty) → root_of σ ≡ τ → ClosedOf (taken_types τ) (shown_type τ) σ.table σ.term
  unfolding root_of
  closed-as τ e =
      let d = term_driven typed-as.1 [] env_end 0 in
      let t : typed-as.0 ≡ arrows_to (taken_types τ) (shown_type τ) = sym d.type ∙ e ∙ sym (arrows-taken τ) in
      record { scoped = typed_scoped typed-as.1; type = d.type ∙ t; dirs = d.dirs ∙ ap (turns false) t }

  -- the type that `root_of` names is the one that the walk finds
  pub root-walked : (r : Found) → walk σ.edition σ.table σ.term 0 [] ≡ good r → root_of σ ≡ tree σ.table r.type
  unfolding root_of
  root-walked r h = (term_driven typed-as.1 [] env_end 0).type ∙ sym (exact_type s σ r typed-as.0 reads h typed-as.1)

-- ---- three sheets

module _ {s a b : List ℕ} {m k l : Net} (j : JoinsSheets s a b m k l) where
  abbrev τ : Ty
  τ = root_of j.one

  abbrev joint : Sheet
  joint = against_over j.table j.one j.other

  of_bits : OfBits (taken_types τ) (shown_type τ)
  of_bits = record { taken = taken-sharable τ j.of_bits; shown = shown-sharable τ j.of_bits }

  one-closed : ClosedOf (taken_types τ) (shown_type τ) j.one.table j.one.term
  one-closed = closed-as a j.one k j.reads_one j.of_one τ refl

  other-closed : ClosedOf (taken_types τ) (shown_type τ) j.other.table j.other.term
  other-closed = closed-as b j.other l j.reads_other j.of_other τ (sym j.one_type)

  joint-is : JointOf (taken_types τ) (make j.one.table j.one.term [] 0) (make j.other.table j.other.term [] 0) (make joint.table joint.term [] 0)
  joint-is =
      let Laid-as = laid s joint j.reads in
      joint-made j.one.edition j.table Laid-as.table j.one.table j.other.table j.one.term j.other.term τ j.of_bits one-closed other-closed Laid-as.ranged

  -- the lean netlist of the joint sheet joins those of the two
  pub joined_sheets : Against (lean m) (lean k) (lean l) (output_pin (lean m) 0)
  joined_sheets =
      let x = make j.one.table j.one.term [] 0 in
      let y = make j.other.table j.other.term [] 0 in
      let z = make joint.table joint.term [] 0 in
      let ok = formed-as s joint m j.reads j.of_joint in
      let g = joint-against (taken_types τ) (shown_type τ) of_bits x y z (formed-as a j.one k j.reads_one j.of_one) (formed-as b j.other l j.reads_other j.of_other) ok one-closed.dirs other-closed.dirs joint-is in
      let e : output_pin (lean (net_of z)) 0 ≡ root (net_of z) joint-is.output = ap (λ (os : List ℕ). get_or os 0 0) (pins_out (taken_types τ) (shown_type τ) of_bits z joint-is.output joint-is.side ok) in
      rw (net_is s joint m j.reads j.of_joint, net_is a j.one k j.reads_one j.of_one, net_is b j.other l j.reads_other j.of_other, e) g

  -- from records of the two with the same inputs, one of the joint sheet in which both stand
  meeting-sheets : (n : ℕ) (β γ : Bits) → Possible part_law (lean k) n β → Possible part_law (lean l) n γ → rows β (in_pins (lean k).pins) 0 n ≡ rows γ (in_pins (lean l).pins) 0 n
      → Meets (lean m) (lean k) (lean l) (output_pin (lean m) 0) n β γ
  meeting-sheets =
      let x = make j.one.table j.one.term [] 0 in
      let y = make j.other.table j.other.term [] 0 in
      let z = make joint.table joint.term [] 0 in
      let ok = formed-as s joint m j.reads j.of_joint in
      let g = joint-meets (taken_types τ) (shown_type τ) of_bits x y z (formed-as a j.one k j.reads_one j.of_one) (formed-as b j.other l j.reads_other j.of_other) ok
      (lows j.one.table j.one.term [] 0 tt) (lows j.other.table j.other.term [] 0 tt) one-closed.dirs other-closed.dirs joint-is in
      let e : output_pin (lean (net_of z)) 0 ≡ root (net_of z) joint-is.output = ap (λ (os : List ℕ). get_or os 0 0) (pins_out (taken_types τ) (shown_type τ) of_bits z joint-is.output joint-is.side ok) in
      rw (net_is s joint m j.reads j.of_joint, net_is a j.one k j.reads_one j.of_one, net_is b j.other l j.reads_other j.of_other, e) g

  module _ (starts starts' : List ℕ) (count : length starts ≡ length (registers (lean k).elements)) where
    abbrev o : ℕ
    o = output_pin (lean m) 0

    joint-record : (n : ℕ) (β γ : Bits) → RecordFrom (lean k) starts n β → RecordFrom (lean l) starts' n γ → (w : Meets (lean m) (lean k) (lean l) o n β γ) → RecordFrom (lean m) (starts ++ starts') n w.joint
    joint-record n β γ b c w = record { possible = w.possible; woken = subst (Allows (starts ++ starts')) (sym w.woken) (allows-both starts starts' _ _ b.woken c.woken) }

    -- the joint sheet's output never shows 1 exactly when the two have the same outputs in all runs
    pub same-never : Never (lean m) (starts ++ starts') (output_pin (lean m) 0) ↔ SameRuns (lean k) starts (lean l) starts'
    same-never = (
      (λ never n β γ b c e t q. let w = meeting-sheets n β γ b.possible c.possible e in w.off_same t q (never n w.joint (joint-record n β γ b c w) t q)),
      same_so (lean m) (lean k) (lean l) o joined_sheets starts starts' count,
    )

    differ-shown : (t : ℕ) → RunsDiffer (lean k) starts (lean l) starts' t → CanShow (lean m) (starts ++ starts') o t
    differ-shown t d =
        let w = meeting-sheets (suc t) d.one d.other d.of_one.possible d.of_other.possible d.same_inputs in
        record { record_of = w.joint; starting = joint-record (suc t) d.one d.other d.of_one d.of_other w; one = on_true _ (λ z. d.different (w.off_same t (le_refl (suc t)) z)) }

    -- it first shows 1 where the two can first differ
    pub same-never-first : (t : ℕ) → FirstShown (lean m) (starts ++ starts') (output_pin (lean m) 0) t ↔ FirstApart (lean k) starts (lean l) starts' t
    same-never-first t =
        let f = shown-differ (lean m) (lean k) (lean l) o joined_sheets starts starts' count in (
          (λ h. record { differ = f t h.shows; earlier = λ u q d. h.earlier u q (differ-shown u d) }),
          (λ h. record { shows = differ-shown t h.differ; earlier = λ u q c. h.earlier u q (f u c) }),
        )

    -- a search of the joint sheet: accepted exactly when the two have the same outputs in all runs, 40 exactly at the first tick at which they
    -- can differ
    module _ (trail queue output work : List ℕ) (large : 32768 ≤ length work) (asked : Asked (lean m) (starts ++ starts') 0 (length trail) (length queue)) where
      here : {P : Net → Type 0} → P (lean m) → OfSheet s work P
      here h = record { memory = large; net = m; of_sheet = j.of_joint; has = h }

      same-net : {P : Net → Type 0} → OfSheet s work P → P (lean m)
      same-net {P} q = subst (λ (x : Net). P (lean x)) (good-inj (sym q.of_sheet ∙ j.of_joint)) q.has

      pub same-call : ((n : ℕ) × ((never_call s (starts ++ starts') 0 trail queue output work).call.said ≡ good n)) ↔ SameRuns (lean k) starts (lean l) starts'
      same-call =
          let p = (never_promise s (starts ++ starts') 0 trail queue output work).never_exact in
          ((λ h. same-never.0 (same-net (p.0 h)).1), (λ h. p.1 (here (asked, same-never.1 h))))

      pub same-call-at : (t : ℕ) → ((never_call s (starts ++ starts') 0 trail queue output work).call.said ≡ refuse 40 t) ↔ FirstApart (lean k) starts (lean l) starts' t
      same-call-at t =
          let p = (never_promise s (starts ++ starts') 0 trail queue output work).never_first t in
          ((λ h. (same-never-first t).0 (same-net (p.0 h)).1), (λ h. p.1 (here (asked, (same-never-first t).1 h))))

-- the sheet that `against` names, over the table that it names, is such a joint one
pub joins-against : (s a b : List ℕ) (m k l : Net) (σ σ' : Sheet) → read_sheet a ≡ good σ → read_sheet b ≡ good σ' → read_sheet s ≡ good (against σ σ') → full s ≡ good m → full a ≡ good k → full b ≡ good l
    → root_of σ ≡ root_of σ' → T (takes_bits (root_of σ)) → JoinsSheets s a b m k l
unfolding against
joins-against s a b m k l σ σ' ra rb rs fs fa fb e h = record {
  one = σ;
  other = σ';
  reads_one = ra;
  reads_other = rb;
  table = (against σ σ').table;
  reads = rs;
  of_joint = fs;
  of_one = fa;
  of_other = fb;
  one_type = e;
  of_bits = h;
}
