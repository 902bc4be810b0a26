-- For every accepted sheet: the text that the call writes is read back as the lean netlist; 18 exactly when a ring point is kept, at the
-- lowest such input; 17 exactly when there is none and the text is longer than the output. Assumes nothing.
use Prim.Native.Nat.{ℕ, ◌+◌, ◌<◌, ◌≤◌}
use mathlib.Core.Path.{◌≡◌, refl, sym, ap, ◌∙◌, subst}
use mathlib.Core.Logic.{◌↔◌}
use mathlib.Core.Bool.{Bool, true, false, cond}
use mathlib.Core.Option.{some}
use mathlib.Core.List.{List, [], ◌∷◌, ◌++◌}
use native.Mathlib.Omega.{arith}
use native.Mathlib.Decide.{dec_le}
use native.Mathlib.Nat.{le_refl}
use lib.Dec.{T, leb, eqb, eqb_refl}
use lib.ListN.{length, drop}
use borrow.Author.Tests.{lt-leb, le-leb}
use Rattle.laws.proofs.Tests.{T-is}
use Rattle.calculus.specs.Answer.{Refusal, Answer, good, refused, refuse, numbered, ◌>>=◌, need}
use Rattle.calculus.proofs.Answers.{good-inj, refused-inj, refused≢good, on-bind, on-need}
use Rattle.calculus.specs.Terms.{part_at}
use Rattle.calculus.specs.Net.{inp, out, number, Interface, Element, point, part, Net}
use Rattle.calculus.specs.Lean.{lean}
use Rattle.calculus.specs.Record.{All, Among, here, there}
use Rattle.calculus.specs.NetRead.{Known}
use Rattle.calculus.specs.Inputs.{tally, ins, is_out}
use Rattle.calculus.specs.Translate.{full, said_of, out_of}
use Rattle.circuit_theorems.specs.Formed.{Shown, Rising, Formed}
use Rattle.circuit_theorems.proofs.Lists.{all_map, all_zip}
use Rattle.circuit_theorems.proofs.Terminals.{rising-end, out_high, made-high}
use Rattle.circuit_theorems.proofs.Counts.{targets-below}
use Rattle.circuit_theorems.proofs.Forming.{lean-formed, lean-end}
use Rattle.circuit_theorems.proofs.LeanLaws.{lean_pins}
use Rattle.circuit_theorems.proofs.Main.{formed, formed-lean}
use Rattle.circuit_theorems.proofs.Bounds.{few_pins}
use Rattle.circuit_theorems.proofs.Told.{lean-known}
use Rattle.export_calculus.specs.Card.{need_all, no_ring, input_place}
use Rattle.export_calculus.specs.Verilog.{module_text, exported, export, verilog_call}
use Rattle.export_calculus.specs.VerilogRead.{read_verilog}
use Rattle.export_theorems.specs.Broken.{KeptRing, LowestRing}
use Rattle.export_theorems.proofs.CardLaws.{ring_refused, ring_free}
use Rattle.export_theorems.proofs.VerilogLength.{verilog_few}
use Rattle.export_theorems.proofs.VerilogRead.{ElementFour, FitsFour, verilog_read}

-- ---- a formed netlist of known parts, with terminals below 8,192 and few pins, fits four digits

elements_fit : (es : List Element) (n e : ℕ) → Rising es n e → e ≤ 8192 → All Known es → All ElementFour es
elements_fit [] n e a h k = tt
elements_fit (point i ∷ es) n e a h k = (omega (arith, rising-end es (i + 2) e a.1), elements_fit es (i + 2) e a.1 h k.1)
elements_fit (part p i ∷ es) n e a h k =
    ((omega (arith, rising-end es (i + (part_at p).inputs + 1) e a.1), k.0), elements_fit es (i + (part_at p).inputs + 1) e a.1 h k.1)

module _ (m : Net) (ok : Formed m) (low : ok.end ≤ 8192) where
  out_low : (x : ℕ) → T (is_out m.elements x) → x < 10000
  out_low x t = omega (arith, out_high m.elements 0 ok.end x ok.rising t)

  pins_fit : (ps : Interface) → All (Shown m.elements) ps → ((x : ℕ) → ins ps x ≤ ins m.pins x) → All (λ t. number t < 10000) ps
  pins_fit [] s h = tt
  pins_fit (inp i ∷ ps) s h = (
    elim (dec_le ok.end i) [
      | yes l ↦ absurd (omega (arith, made-high m.elements 0 ok.end i ok.rising l, ok.reached i, h i, one))
      | no l ↦ omega arith
    ],
    pins_fit ps s.1 (λ x. let l = h x in omega arith),
  )
    where
      one : tally i i ≡ 1
      one = ap (λ (b : Bool). cond b 1 0) (T-is (eqb i i) (eqb_refl i))
  pins_fit (out o ∷ ps) s h = (out_low o s.0, pins_fit ps s.1 h)

  fits-four : All Known m.elements → length m.pins ≤ 9999 → FitsFour m
  fits-four k few = record {
    elements = elements_fit m.elements 0 ok.end ok.rising low k;
    wires = all_map (λ w. T (is_out m.elements w.from) × (w.to < ok.end)) (λ w. (w.from < 10000) × (w.to < 10000))
        (λ w a. (out_low w.from a.0, omega (arith, a.1))) m.wires (all_zip _ _ m.wires ok.from (targets-below m ok));
    pins = pins_fit m.pins ok.shown (λ x. le_refl (ins m.pins x));
    count = few;
  }

-- ---- the lean netlist of an accepted sheet

module _ (s : List ℕ) (m : Net) (e : full s ≡ good m) where
  lean-four : FitsFour (lean m)
  lean-four =
      let f = formed s m e in
      fits-four (lean m) (lean-formed m f.net) (omega (arith, lean-end m f.net, f.few)) (lean-known s m e) (omega (arith, lean_pins m, few_pins s m e))

  -- the text, read by the definition of the subset, is the lean netlist
  pub verilog_sheet : read_verilog (module_text (lean m)) ≡ some (lean m)
  verilog_sheet = verilog_read (lean m) lean-four

  -- a kept ring point is one of its elements
  pub ring_low : (i : ℕ) → KeptRing (lean m) i → i < 10000
  ring_low i r = let h : i + 2 < 10000 = among (lean m).elements lean-four.elements r.kept in omega arith
    where
      among : (es : List Element) → All ElementFour es → Among (point i) es → i + 2 < 10000
      among [] a x'' = elim x'' [ ]
      among (x ∷ es) a here = a.0
      among (x ∷ es) a (there k) = among es a.1 k

  -- output bytes that always do
  pub verilog_enough : length (module_text (lean m)) ≤ 395400
  verilog_enough =
      let f = formed s m e in
      omega (arith, verilog_few (lean m) (lean-formed m f.net) (lean-known s m e), lean-end m f.net, f.few, lean_pins m, few_pins s m e)

  -- ---- the call's three ways out, by the rings of the lean netlist and the room

  module _ (room work : List ℕ) (enough : 32768 ≤ length work) where
    abbrev text : List ℕ
    text = module_text (lean m)

    abbrev rings : Answer (Unit {0})
    rings = need_all (no_ring (lean m).pins) 18 input_place (lean m).elements

    -- the text, where it has room
    abbrev placed : Bool → Answer (List ℕ)
    placed b = need b 17 (length text) >>= λ _. good text

    export_is : export (length work) s (length room) ≡ (rings >>= λ _. placed (leb (length text) (length room)))
    unfolding export exported
    export_is = rw (le-leb 32768 (length work) enough, e)

    said-is : (verilog_call s room work).said ≡ said_of (rings >>= λ _. placed (leb (length text) (length room)))
    unfolding verilog_call
    said-is = ap said_of export_is

    out-is : (verilog_call s room work).out ≡ out_of (rings >>= λ _. placed (leb (length text) (length room))) room
    unfolding verilog_call
    out-is = ap (λ (a : Answer (List ℕ)). out_of a room) export_is

    not-ring : (b : Bool) (p : ℕ) → said_of (placed b) ≡ refuse 18 p → ⊥
    not-ring true p q = refused≢good (sym q)
    not-ring false p q = let z : ◌≡◌ {A = ℕ} 17 18 = ap (λ (w : Refusal). w.number) (refused-inj q) in omega arith

    -- refused with 18 exactly when a ring point is kept, and the place is the lowest such input
    pub verilog-exact : (place : ℕ) → ((verilog_call s room work).said ≡ refuse 18 place) ↔ LowestRing (lean m) place
    verilog-exact place = (
      (λ h. found rings refl (sym said-is ∙ h)),
      (λ l. said-is ∙ told rings refl l),
    )
      where
        found : (a : Answer (Unit {0})) → rings ≡ a → said_of (a >>= λ _. placed (leb (length text) (length room))) ≡ refuse 18 place → LowestRing (lean m) place
        found (good tt) q h = absurd (not-ring (leb (length text) (length room)) place h)
        found (refused why) q h =
            let r = ring_refused (lean m) (formed-lean s m e) 18 why q in
            let z : r.at ≡ place = ap (λ (w : Refusal). w.place) (sym r.said ∙ refused-inj h) in
            record { ring = subst (KeptRing (lean m)) z r.point-there; lowest = λ j k. subst (λ (n : ℕ). n ≤ j) z (r.lowest j k) }

        told : (a : Answer (Unit {0})) → rings ≡ a → LowestRing (lean m) place → said_of (a >>= λ _. placed (leb (length text) (length room))) ≡ refuse 18 place
        told (good tt) q l = absurd ((ring_free (lean m) 18).0 q place l.ring)
        told (refused why) q l =
            let r = ring_refused (lean m) (formed-lean s m e) 18 why q in
            let z : r.at ≡ place = let a = r.lowest place l.ring in let b = l.lowest r.at r.point-there in omega arith in
            ap refused (r.said ∙ ap (numbered 18) z)

    -- without one, 17 exactly when the output is too short, with the length needed
    pub verilog-short : ((j : ℕ) → KeptRing (lean m) j → ⊥) → length room < length text → (verilog_call s room work).said ≡ refuse 17 (length text)
    verilog-short free h = said-is ∙ rw ((ring_free (lean m) 18).1 free, lt-leb (length text) (length room) h)

    -- .. and otherwise the text is written, and what is written is read back as the lean netlist
    pub verilog-said : ((j : ℕ) → KeptRing (lean m) j → ⊥) → length text ≤ length room → (verilog_call s room work).said ≡ good (length text)
    verilog-said free h = said-is ∙ rw ((ring_free (lean m) 18).1 free, le-leb (length text) (length room) h)

    pub verilog-out : ((j : ℕ) → KeptRing (lean m) j → ⊥) → length text ≤ length room → (verilog_call s room work).out ≡ text ++ drop (length text) room
    verilog-out free h = out-is ∙ rw ((ring_free (lean m) 18).1 free, le-leb (length text) (length room) h)

-- ---- 1 to 16 come first, and as without this call

all-number : {A : Type 0} (ok : A → Bool) (n : ℕ) (place : A → ℕ) (xs : List A) (why : Refusal) → need_all ok n place xs ≡ refused why → why.number ≡ n
all-number ok n place [] why e = absurd (refused≢good (sym e))
all-number ok n place (x ∷ xs) why e = by (ok x) e (λ h. all-number ok n place xs why h)
  where
    by : (b : Bool) → (need b n (place x) >>= λ _. need_all ok n place xs) ≡ refused why → (need_all ok n place xs ≡ refused why → why.number ≡ n) → why.number ≡ n
    by true e go = go e
    by false e go = ap (λ (w : Refusal). w.number) (refused-inj (sym e))

-- what is refused behind 16
exported_late : (m : Net) (room : ℕ) (why : Refusal) → said_of (exported m room) ≡ refused why → 17 ≤ why.number
unfolding exported
exported_late m room why e = by (need_all (no_ring (lean m).pins) 18 input_place (lean m).elements) refl e
  where
    roomy : (b : Bool) → said_of (need b 17 (length (module_text (lean m))) >>= λ _. good (module_text (lean m))) ≡ refused why → 17 ≤ why.number
    roomy true e = absurd (refused≢good (sym e))
    roomy false e = let z : 17 ≡ why.number = ap (λ (w : Refusal). w.number) (refused-inj e) in omega arith

    by : (a : Answer (Unit {0})) → need_all (no_ring (lean m).pins) 18 input_place (lean m).elements ≡ a
        → said_of (a >>= λ _. need (leb (length (module_text (lean m))) room) 17 (length (module_text (lean m))) >>= λ _. good (module_text (lean m))) ≡ refused why → 17 ≤ why.number
    by (good tt) q e = roomy (leb (length (module_text (lean m))) room) e
    by (refused w) q e =
        let y : w.number ≡ 18 = all-number (no_ring (lean m).pins) 18 input_place (lean m).elements w q in
        let z : w.number ≡ why.number = ap (λ (r : Refusal). r.number) (refused-inj e) in
        omega arith

pub verilog_early : (s room work : List ℕ) (why : Refusal) → why.number ≤ 16
    → ((verilog_call s room work).said ≡ refused why) ↔ ((need (leb 32768 (length work)) 1 0 >>= λ _. full s) ≡ refused why)
unfolding verilog_call export
verilog_early s room work why low = by (leb 32768 (length work)) (full s)
  where
    by : (b : Bool) (a : Answer Net) → (said_of (need b 1 0 >>= λ _. a >>= λ m. exported m (length room)) ≡ refused why) ↔ ((need b 1 0 >>= λ _. a) ≡ refused why)
    by false a = ((λ e. ap refused (refused-inj e)), (λ e. ap refused (refused-inj e)))
    by true (refused w) = ((λ e. ap refused (refused-inj e)), (λ e. ap refused (refused-inj e)))
    by true (good m) = ((λ e. absurd (let l = exported_late m (length room) why e in omega arith)), (λ e. absurd (refused≢good (sym e))))

-- ---- what a call wrote

export-wrote : {C : Type 0} (memory : ℕ) (s : List ℕ) (room : ℕ) (text : List ℕ) → export memory s room ≡ good text
    → ((m : Net) → full s ≡ good m → read_verilog text ≡ some (lean m) → C) → C
unfolding export exported
export-wrote memory s room text e go =
    on-need (leb 32768 memory) 1 0 _ text e λ h₁ e₁.
    on-bind (full s) _ text e₁ λ m h₂ e₂.
    on-bind (need_all (no_ring (lean m).pins) 18 input_place (lean m).elements) _ text e₂ λ u h₃ e₃.
    on-need (leb (length (module_text (lean m))) room) 17 (length (module_text (lean m))) _ text e₃ λ h₄ e₄.
    go m h₂ (subst (λ (x : List ℕ). read_verilog x ≡ some (lean m)) (good-inj e₄) (verilog_sheet s m h₂))

-- every text that a call wrote is read back as the lean netlist of its sheet
pub record WroteModule (s room : List ℕ) (n : ℕ) (after : List ℕ) : Type 0 where
  pub net : Net
  pub of_sheet : full s ≡ good net
  pub text : List ℕ
  pub counted : length text ≡ n
  pub stands : after ≡ text ++ drop n room
  pub read : read_verilog text ≡ some (lean net)

pub verilog_written : (s room work : List ℕ) (n : ℕ) → (verilog_call s room work).said ≡ good n → WroteModule s room n (verilog_call s room work).out
unfolding verilog_call
verilog_written s room work n h = by (export (length work) s (length room)) refl h
  where
    by : (a : Answer (List ℕ)) → export (length work) s (length room) ≡ a → said_of a ≡ good n → WroteModule s room n (out_of a room)
    by (refused why) q h = absurd (refused≢good h)
    by (good t) q h = wrote t (good-inj h) q
      where
        wrote : (t : List ℕ) → length t ≡ n → export (length work) s (length room) ≡ good t → WroteModule s room n (t ++ drop (length t) room)
        wrote t l q = export-wrote (length work) s (length room) t q λ m f r.
            record { net = m; of_sheet = f; text = t; counted = l; stands = ap (λ (k : ℕ). t ++ drop k room) l; read = r }
