-- What the check has read is the bytes of a netlist in order, numbered and named as asked. Assumes nothing.
use Prim.Native.Nat.{ℕ, zero, suc, ◌+◌, ◌<◌, ◌≤◌}
use mathlib.Core.Path.{◌≡◌, refl, sym, ap, ◌∙◌, subst}
use mathlib.Core.Bool.{Bool, true, false, cond, ◌&&◌, ◌||◌}
use mathlib.Core.List.{List, [], ◌∷◌, ◌++◌, map, append_assoc, append-nil, map-append}
use native.Mathlib.Omega.{arith}
use native.Mathlib.Decide.{dec_le}
use lib.Dec.{T, eqb, leb, eqb→eq, leb→le}
use lib.ListN.{length, take, drop}
use lib.Seq.{take_all, take-add, take_at}
use Rattle.laws.proofs.Tests.{by_eqb, and_both}
use Rattle.calculus.specs.Answer.{good, ◌>>=◌}
use Rattle.calculus.proofs.Answers.{good-inj, refused≢good, on-bind, on-need}
use Rattle.calculus.specs.Terms.{part_at}
use Rattle.calculus.specs.Net.{Terminal, inp, out, Interface, number, Element, point, part, Wire, Net, Item, element, wire, pin, item_bytes, net_bytes}
use Rattle.calculus.specs.Record.{All}
use Rattle.calculus.specs.Inputs.{ins, made_at_lem, targets, is_out}
use Rattle.calculus.specs.NetRead.{Known, Fits, item_size, Front, item, ended, broken, item_at, pin_terminal}
use Rattle.circuit_theorems.specs.Formed.{Shown, Tiled, Rising}
use Rattle.circuit_theorems.proofs.Lists.{all_map, all_append}
use Rattle.circuit_theorems.proofs.Terminals.{tiled-rising, made-high}
use Rattle.circuit_theorems.proofs.NetRead.{items_of, items_bytes, items_append, records_in_a_row, item_length, item_some}
use Rattle.foreign_calculus.specs.Foreign.{Bytes, Numbered, Accepts, Reading, begin, first_of, past_of, starts, is_in, more_element, more_wire, more_pin, judge, on_front, read_on, one_each, check}
use Rattle.foreign_calculus.specs.Refused.{PinStands, WireRuns, ReadAs}
use Rattle.foreign_theorems.proofs.Standing.{Stood, item-stood, ended-stood}

-- ---- the numbering with one more element

tiled-more : (es : List Element) (n k : ℕ) (e : Element) → Tiled es n k → first_of e ≡ k → Tiled (es ++ (e ∷ [])) n (past_of e)
tiled-more [] n k (point i) a h = (h ∙ sym a, ap (λ (x : ℕ). x + 2) (sym (h ∙ sym a)))
tiled-more [] n k (part p i) a h = (h ∙ sym a, ap (λ (x : ℕ). x + (part_at p).inputs + 1) (sym (h ∙ sym a)))
tiled-more (point i ∷ es) n k e a h = (a.0, tiled-more es (n + 2) k e a.1 h)
tiled-more (part p i ∷ es) n k e a h = (a.0, tiled-more es (n + (part_at p).inputs + 1) k e a.1 h)

rising-more : (es : List Element) (n k : ℕ) (e : Element) → Rising es n k → k ≤ first_of e → Rising (es ++ (e ∷ [])) n (past_of e)
rising-more [] n k (point i) a h = (omega arith, omega arith)
rising-more [] n k (part p i) a h = (omega arith, omega arith)
rising-more (point i ∷ es) n k e a h = (a.0, rising-more es (i + 2) k e a.1 h)
rising-more (part p i ∷ es) n k e a h = (a.0, rising-more es (i + (part_at p).inputs + 1) k e a.1 h)

numbered_more : (lean : Bool) (es : List Element) (n : ℕ) (e : Element) → Numbered lean es 0 n → T (starts lean (first_of e) n) → Numbered lean (es ++ (e ∷ [])) 0 (past_of e)
numbered_more false es n e a t = tiled-more es 0 n e a (eqb→eq (first_of e) n t)
numbered_more true es n e a t = rising-more es 0 n e a (leb→le n (first_of e) t)

pub numbered-rising : (lean : Bool) (es : List Element) (n e : ℕ) → Numbered lean es n e → Rising es n e
numbered-rising false es n e a = tiled-rising es n e a
numbered-rising true es n e a = a

-- ---- the records with one more

element_last : (es : List Element) (ws : List Wire) (ps : Interface) (e : Element) → ws ≡ [] → ps ≡ []
    → map element (es ++ (e ∷ [])) ++ (map wire ws ++ map (λ t. pin (number t)) ps) ≡ (map element es ++ (map wire ws ++ map (λ t. pin (number t)) ps)) ++ (element e ∷ [])
element_last es ws ps e a b = rw (a, b) (append-nil _ ∙ map-append element es (e ∷ []) ∙ ap (λ (x : List Item). x ++ (element e ∷ [])) (sym (append-nil (map element es))))

wire-last : (es : List Item) (ws : List Wire) (ps : Interface) (w : Wire) → ps ≡ []
    → es ++ (map wire (ws ++ (w ∷ [])) ++ map (λ t. pin (number t)) ps) ≡ (es ++ (map wire ws ++ map (λ t. pin (number t)) ps)) ++ (wire w ∷ [])
wire-last es ws ps w b = rw (b, map-append wire ws (w ∷ [])) (simp (append-nil, append_assoc))

pin_last : (es ws : List Item) (ps : Interface) (t : Terminal) → es ++ (ws ++ map (λ t. pin (number t)) (ps ++ (t ∷ []))) ≡ (es ++ (ws ++ map (λ t. pin (number t)) ps)) ++ (pin (number t) ∷ [])
pin_last es ws ps t = rw (map-append (λ t. pin (number t)) ps (t ∷ [])) (simp append_assoc)

items_more : (p : List ℕ) (xs ys : List Item) (r : Item) → p ≡ items_bytes xs → ys ≡ xs ++ (r ∷ []) → p ++ item_bytes r ≡ items_bytes ys
items_more p xs ys r e h = rw (h, e) (ap (λ (l : List ℕ). items_bytes xs ++ l) (sym (append-nil (item_bytes r))) ∙ sym (items_append xs (r ∷ [])))

more_bytes : (p : List ℕ) (m n : Net) (r : Item) → p ≡ net_bytes m → items_of n ≡ items_of m ++ (r ∷ []) → p ++ item_bytes r ≡ net_bytes n
more_bytes p m n r e h = items_more p (items_of m) (items_of n) r (e ∙ records_in_a_row m) h ∙ sym (records_in_a_row n)

number_of : (es : List Element) (x : ℕ) → number (pin_terminal es x) ≡ x
number_of es x = by (is_out es x)
  where
    by : (b : Bool) → number (cond b (out x) (inp x)) ≡ x
    by true = refl
    by false = refl

-- ---- one more record

all_of_lem : {A : Type 0} (F : A → Type 0) (xs : List A) → xs ≡ [] → All F xs
all_of_lem F xs e = rw e tt

known_of : (e : Element) → Fits (element e) → Known e
known_of (point i) f = tt
known_of (part p i) f = f.0

module _ (lean : Bool) (at : ℕ) (p : List ℕ) (σ τ : Reading) (ok : ReadAs lean p σ) where
  read-element : (e : Element) → Fits (element e) → judge lean (element e) σ at ≡ good τ → ReadAs lean (p ++ item_bytes (element e)) τ
  read-element e f h =
      on-need (eqb σ.stage 0) 21 at _ τ h λ s₀ h₁.
      on-need (starts lean (first_of e) σ.next && leb (past_of e) 8192) 22 at _ τ h₁ λ s₁ h₂.
      let z = eqb→eq σ.stage 0 s₀ in
      let nw = ok.no_wires z in
      let np = ok.no_pins (omega arith) in
      let b = and_both (starts lean (first_of e) σ.next) (leb (past_of e) 8192) s₁ in
      subst (ReadAs lean (p ++ item_bytes (element e))) (good-inj h₂) record {
        bytes = more_bytes p σ.net (more_element e σ).net (element e) ok.bytes (element_last σ.net.elements σ.net.wires σ.net.pins e nw np);
        no_wires = λ _. nw;
        no_pins = λ _. np;
        known = all_append Known σ.net.elements (e ∷ []) ok.known (known_of e f, tt);
        numbering = numbered_more lean σ.net.elements σ.next e ok.numbering b.0;
        few = leb→le (past_of e) 8192 b.1;
        runs = all_of_lem _ σ.net.wires nw;
        pins = all_of_lem _ σ.net.pins np;
      }

  read-wire : (w : Wire) → judge lean (wire w) σ at ≡ good τ → ReadAs lean (p ++ item_bytes (wire w)) τ
  read-wire w h =
      on-need (leb σ.stage 1) 21 at _ τ h λ s₀ h₁.
      on-need (is_out σ.net.elements w.from && is_in σ.net.elements w.to) 22 at _ τ h₁ λ s₁ h₂.
      let np = ok.no_pins (leb→le σ.stage 1 s₀) in
      let b = and_both (is_out σ.net.elements w.from) (is_in σ.net.elements w.to) s₁ in
      subst (ReadAs lean (p ++ item_bytes (wire w))) (good-inj h₂) record {
        bytes = more_bytes p σ.net (more_wire w σ).net (wire w) ok.bytes (wire-last (map element σ.net.elements) σ.net.wires σ.net.pins w np);
        no_wires = λ e. absurd (omega arith);
        no_pins = λ _. np;
        known = ok.known;
        numbering = ok.numbering;
        few = ok.few;
        runs = all_append (WireRuns σ.net.elements) σ.net.wires (w ∷ []) ok.runs ((b.0, leb→le 1 (made_at_lem σ.net.elements w.to) b.1), tt);
        pins = ok.pins;
      }

  pins_of : (x : ℕ) → T (is_out σ.net.elements x || is_in σ.net.elements x) → PinStands σ.net.elements (pin_terminal σ.net.elements x)
  pins_of x t = by (is_out σ.net.elements x) (λ u. u) t
    where
      by : (b : Bool) → (T b → T (is_out σ.net.elements x)) → T (b || is_in σ.net.elements x) → PinStands σ.net.elements (cond b (out x) (inp x))
      by true f t = f tt
      by false f t = leb→le 1 (made_at_lem σ.net.elements x) t

  read-pin : (t : ℕ) → judge lean (pin t) σ at ≡ good τ → ReadAs lean (p ++ item_bytes (pin t)) τ
  read-pin t h =
      on-need (is_out σ.net.elements t || is_in σ.net.elements t) 22 at _ τ h λ s₁ h₂.
      let q = pin_terminal σ.net.elements t in
      subst (ReadAs lean (p ++ item_bytes (pin t))) (good-inj h₂) record {
        bytes = more_bytes p σ.net (more_pin t σ).net (pin t) ok.bytes (pin_last (map element σ.net.elements) (map wire σ.net.wires) σ.net.pins q ∙ ap (λ (x : ℕ). items_of σ.net ++ (pin x ∷ [])) (number_of σ.net.elements t));
        no_wires = λ e. absurd (omega arith);
        no_pins = λ e. absurd (omega arith);
        known = ok.known;
        numbering = ok.numbering;
        few = ok.few;
        runs = ok.runs;
        pins = all_append (PinStands σ.net.elements) σ.net.pins (q ∷ []) ok.pins (pins_of t s₁, tt);
      }

  pub read_more : (r : Item) → Fits r → judge lean r σ at ≡ good τ → ReadAs lean (p ++ item_bytes r) τ
  read_more (element e) f h = read-element e f h
  read_more (wire w) f h = read-wire w h
  read_more (pin t) f h = read-pin t h

pub read_none : (lean : Bool) → ReadAs lean [] begin
read_none lean = record {
  bytes = sym (records_in_a_row begin.net);
  no_wires = λ _. refl;
  no_pins = λ _. refl;
  known = tt;
  numbering = none lean;
  few = omega arith;
  runs = tt;
  pins = tt;
}
  where
    none : (lean : Bool) → Numbered lean [] 0 0
    none false = refl
    none true = omega arith

-- ---- all records

pub more-taken : (s : List ℕ) (at : ℕ) (r : Item) → Stood s at r → take (at + item_size r) s ≡ take at s ++ item_bytes r
more-taken s at r st =
    take-add at (item_size r) s ∙ ap (λ (x : List ℕ). take at s ++ x) (ap (take (item_size r)) st.bytes ∙ take_at (item_bytes r) (drop (at + item_size r) s) (item_size r) (item_length r))

module _ (lean : Bool) (s : List ℕ) (b : Bytes s) where
  pub read_all : (left at : ℕ) (σ τ : Reading) → length s ≤ at + left → at ≤ length s → ReadAs lean (take at s) σ → read_on left lean s at σ ≡ good τ → ReadAs lean s τ
  read_all zero at σ τ h l ok e = subst (λ (x : List ℕ). ReadAs lean x τ) (take_all at s (omega arith)) (subst (ReadAs lean (take at s)) (good-inj e) ok)
  read_all (suc left) at σ τ h l ok e = by (read_all left) (item_at s at) refl e
    where
      by : ((at : ℕ) (σ τ : Reading) → length s ≤ at + left → at ≤ length s → ReadAs lean (take at s) σ → read_on left lean s at σ ≡ good τ → ReadAs lean s τ)
          → (x : Front) → item_at s at ≡ x → on_front x at σ (λ r. judge lean r σ at >>= λ υ. read_on left lean s (at + item_size r) υ) ≡ good τ → ReadAs lean s τ
      by rec (item r) q e =
          let st = item-stood s b at r q in
          on-bind (judge lean r σ at) _ τ e λ υ h₁ h₂.
          rec (at + item_size r) υ τ (omega (arith, item_some r)) st.room
          (subst (λ (x : List ℕ). ReadAs lean x υ) (sym (more-taken s at r st)) (read_more lean at (take at s) σ υ ok r st.fits h₁)) h₂
      by rec ended q e = subst (λ (x : List ℕ). ReadAs lean x τ) (take_all at s (ended-stood s at q)) (subst (ReadAs lean (take at s)) (good-inj e) ok)
      by rec broken q e = absurd (refused≢good e)

-- ---- one driver for each

each_one : (m : Net) (k i j : ℕ) → one_each k i m ≡ good tt → i ≤ j → j < i + k → targets m.wires j + ins m.pins j ≡ made_at_lem m.elements j
each_one m zero i j e l h = absurd (omega arith)
each_one m (suc k) i j e l h =
    on-need (eqb (targets m.wires i + ins m.pins i) (made_at_lem m.elements i)) 23 i _ tt e λ t e₁.
    elim (dec_le (i + 1) j) [
      | yes q ↦ each_one m k (i + 1) j e₁ q (omega arith)
      | no q ↦ let z : i ≡ j = omega arith in subst (λ (x : ℕ). targets m.wires x + ins m.pins x ≡ made_at_lem m.elements x) z (eqb→eq _ _ t)
    ]

pub no_targets : (es : List Element) (ws : List Wire) (i : ℕ) → All (WireRuns es) ws → made_at_lem es i ≡ 0 → targets ws i ≡ 0
no_targets es [] i a z = refl
no_targets es (w ∷ ws) i a z =
    by_eqb (λ b. cond b 1 0 + targets ws i ≡ 0) w.to i (λ e. absurd (omega (arith, a.0.1, ap (made_at_lem es) e))) (λ _. omega (arith, no_targets es ws i a.1 z))

pub no_inputs : (es : List Element) (ps : Interface) (i : ℕ) → All (PinStands es) ps → made_at_lem es i ≡ 0 → ins ps i ≡ 0
no_inputs es [] i a z = refl
no_inputs es (inp j ∷ ps) i a z =
    by_eqb (λ b. cond b 1 0 + ins ps i ≡ 0) j i (λ e. absurd (omega (arith, a.0, ap (made_at_lem es) e))) (λ _. omega (arith, no_inputs es ps i a.1 z))
no_inputs es (out o ∷ ps) i a z = no_inputs es ps i a.1 z

shown : (es : List Element) (t : Terminal) → PinStands es t → Shown es t
shown es (inp i) s = tt
shown es (out o) s = s

pub accepted : (lean : Bool) (s : List ℕ) → Bytes s → check lean s ≡ good tt → Accepts lean s
unfolding check
accepted lean s b e =
    on-bind (read_on (length s) lean s 0 begin) _ tt e λ τ h₁ h₂.
    let r = read_all lean s b (length s) 0 begin τ (omega arith) (omega arith) (read_none lean) h₁ in
    let es = τ.net.elements in
    let up = numbered-rising lean es 0 τ.next r.numbering in
    record {
      net = τ.net;
      bytes = r.bytes;
      known = r.known;
      formed = record {
        end = τ.next;
        rising = up;
        from = all_map (WireRuns es) (λ w. T (is_out es w.from)) (λ w a. a.0) τ.net.wires r.runs;
        shown = all_map (PinStands es) (Shown es) (shown es) τ.net.pins r.pins;
        reached = λ i.
            elim (dec_le τ.next i) [
              | yes q ↦ let z = made-high es 0 τ.next i up q in omega (arith, no_targets es τ.net.wires i r.runs z, no_inputs es τ.net.pins i r.pins z)
              | no q ↦ each_one τ.net τ.next 0 i h₂ (omega arith) (omega arith)
            ];
      };
      numbering = r.numbering;
      few = r.few;
    }
