-- The text of a netlist whose numbers have four digits, read by the definition of the subset, gives back the netlist. Assumes nothing.
use Prim.Native.Nat.{ℕ, zero, suc, ◌+◌, ◌-◌, ◌<◌, ◌≤◌}
use mathlib.Core.Path.{◌≡◌, refl, sym, ap, ◌∙◌, subst}
use mathlib.Core.Bool.{Bool, true, false, cond}
use mathlib.Core.Option.{Option, none, some, bind}
use mathlib.Core.List.{List, [], ◌∷◌, ◌++◌, map, append_assoc}
use native.Mathlib.Omega.{arith}
use lib.Dec.{T, eqb, eqb_refl, leb, leb→le}
use lib.ListN.{length, get_or, length-append}
use borrow.Author.Tests.{ne_eqb}
use Rattle.laws.proofs.Tests.{T-is, and_both, by_eqb}
use Rattle.laws.proofs.Below.{all, below}
use Rattle.calculus.specs.Net.{Terminal, inp, out, number, Interface, Element, point, part, Wire, Net}
use Rattle.calculus.specs.Record.{All}
use Rattle.export_calculus.specs.Verilog.{element_forms, port_forms, assign_forms, header, ports_end, module_end, is_mark, pick, filled, letter, Line, line_text, lines_text, kind_line, line_of_element, line_of_wire, line_of_pin, line_of_port, lines_of_pins, lines_of_ports, module_text}
use Rattle.export_calculus.specs.VerilogRead.{element_words, port_words, assign_words, scan, first_fit, block, same_numbers, own_numbers, element_read, elements_read, wires_read, behind_wires, pin_read, pins_read, body_read, read_verilog}
use Rattle.export_theorems.proofs.Scanning.{numbers_of, apart, none-fits, LineReadable, taken_of, scan-filled, first-none, block_read, texts_long}

-- ---- the reader's words make the writer's forms, by computing

pub element_words_lem : element_words ≡ element_forms
unfolding element_words element_forms
element_words_lem = refl

pub port_words_lem : port_words ≡ port_forms
unfolding port_words port_forms
port_words_lem = refl

pub assign_words_lem : assign_words ≡ assign_forms
unfolding assign_words assign_forms
assign_words_lem = refl

-- ---- the three lists of forms, by computing

ports_apart : T (apart port_forms)
unfolding port_forms
ports_apart = tt

elements_apart : T (apart element_forms)
unfolding element_forms
elements_apart = tt

assigns_apart : T (apart assign_forms)
unfolding assign_forms
assigns_apart = tt

ports_full : (k : ℕ) → k < length port_forms → 1 ≤ length (get_or port_forms k [])
unfolding port_forms
ports_full k h = leb→le 1 (length (get_or port_forms k [])) (below 2 (λ k. leb 1 (length (get_or port_forms k []))) tt k h)

elements_full : (k : ℕ) → k < length element_forms → 1 ≤ length (get_or element_forms k [])
unfolding element_forms
elements_full k h = leb→le 1 (length (get_or element_forms k [])) (below 8 (λ k. leb 1 (length (get_or element_forms k []))) tt k h)

assigns_full : (k : ℕ) → k < length assign_forms → 1 ≤ length (get_or assign_forms k [])
unfolding assign_forms
assigns_full k h = leb→le 1 (length (get_or assign_forms k [])) (below 3 (λ k. leb 1 (length (get_or assign_forms k []))) tt k h)

-- ---- where each block ends

closing-filled : (rest : List ℕ) → ports_end ++ rest ≡ filled ports_end 0 0 0 ++ rest
unfolding ports_end letter
closing-filled rest = refl

ending_filled : module_end ≡ filled module_end 0 0 0 ++ []
unfolding module_end letter
ending_filled = refl

port_closing : T (none-fits port_forms ports_end)
unfolding port_forms ports_end
port_closing = tt

assign_ending : T (none-fits assign_forms module_end)
unfolding assign_forms module_end
assign_ending = tt

element_ending : T (none-fits element_forms module_end)
unfolding element_forms module_end
element_ending = tt

element_assign : T (all 3 (λ k. none-fits element_forms (get_or assign_forms k [])))
unfolding element_forms assign_forms
element_assign = tt

no_port : (rest : List ℕ) → first_fit port_forms 0 (ports_end ++ rest) ≡ none
no_port rest = ap (first_fit port_forms 0) (closing-filled rest) ∙ first-none port_forms ports_end port_closing 0 0 0 0 rest

no_assign : first_fit assign_forms 0 module_end ≡ none
no_assign = ap (first_fit assign_forms 0) ending_filled ∙ first-none assign_forms module_end assign_ending 0 0 0 0 []

no_element-end : first_fit element_forms 0 module_end ≡ none
no_element-end = ap (first_fit element_forms 0) ending_filled ∙ first-none element_forms module_end element_ending 0 0 0 0 []

-- no assignment is an element
no_element : (ls : List Line) → All (LineReadable 3) ls → first_fit element_forms 0 (lines_text assign_forms ls ++ module_end) ≡ none
unfolding line_text
no_element [] a = no_element-end
no_element (l ∷ ls) a =
    rw (append_assoc (line_text assign_forms l) (lines_text assign_forms ls) module_end)
    (first-none element_forms (get_or assign_forms l.form []) (below 3 (λ k. none-fits element_forms (get_or assign_forms k [])) element_assign l.form a.0.known) 0 l.x l.y l.z (lines_text assign_forms ls ++ module_end))

-- ---- what fits four digits

abbrev pub ElementFour : Element → Type 0
ElementFour (point i) = i + 2 < 10000
ElementFour (part p i) = (i + 2 < 10000) × (p < 7)

pub record FitsFour (m : Net) : Type 0 where
  pub elements : All ElementFour m.elements
  pub wires : All (λ w. (w.from < 10000) × (w.to < 10000)) m.wires
  pub pins : All (λ t. number t < 10000) m.pins
  pub count : length m.pins ≤ 9999

element_lines_lem : (es : List Element) → All ElementFour es → All (LineReadable 8) (map line_of_element es)
element_lines_lem [] a = tt
element_lines_lem (point i ∷ es) a = (record { known = omega arith; x = omega (arith, a.0); y = omega (arith, a.0); z = a.0 }, element_lines_lem es a.1)
element_lines_lem (part p i ∷ es) a = (record { known = omega (arith, a.0.1); x = omega (arith, a.0.0); y = omega (arith, a.0.0); z = a.0.0 }, element_lines_lem es a.1)

wire-lines : (ws : List Wire) → All (λ w. (w.from < 10000) × (w.to < 10000)) ws → All (LineReadable 3) (map line_of_wire ws)
wire-lines [] a = tt
wire-lines (w ∷ ws) a = (record { known = omega arith; x = a.0.1; y = a.0.0; z = omega arith }, wire-lines ws a.1)

pin_lines_lem : (k : ℕ) (ts : Interface) → k + length ts ≤ 9999 → All (λ t. number t < 10000) ts → All (LineReadable 3) (lines_of_pins k ts)
pin_lines_lem k [] h a = tt
pin_lines_lem k (inp i ∷ ts) h a = (record { known = omega arith; x = a.0; y = omega arith; z = omega arith }, pin_lines_lem (k + 1) ts (omega arith) a.1)
pin_lines_lem k (out o ∷ ts) h a = (record { known = omega arith; x = a.0; y = omega arith; z = omega arith }, pin_lines_lem (k + 1) ts (omega arith) a.1)

port_lines : (k : ℕ) (ts : Interface) → k + length ts ≤ 9999 → All (LineReadable 2) (lines_of_ports k ts)
port_lines k [] h = tt
port_lines k (inp i ∷ ts) h = (record { known = omega arith; x = omega arith; y = omega arith; z = omega arith }, port_lines (k + 1) ts (omega arith))
port_lines k (out o ∷ ts) h = (record { known = omega arith; x = omega arith; y = omega arith; z = omega arith }, port_lines (k + 1) ts (omega arith))

-- ---- from lines back to a netlist

same_self : (s : List ℕ) → same_numbers s s ≡ true
same_self [] = refl
same_self (c ∷ s) = rw (T-is (eqb c c) (eqb_refl c)) (same_self s)

pub bind-some : {A B : Type 0} (o : Option A) (a : A) (f : A → Option B) → o ≡ some a → bind o f ≡ f a
unfolding bind
bind-some {A = A} o a f h = ap (λ (x : Option A). bind x f) h

-- a mark of an element's line stands for the number that its words ask for
pub pick-own : (c n : ℕ) → T (is_mark c) → pick c n (n + 1) (n + 2) ≡ n + (c - 88)
pick-own c n t =
    let b = and_both (leb 88 c) (leb c 90) t in
    let l : 88 ≤ c = leb→le 88 c b.0 in
    let h : c ≤ 90 = leb→le c 90 b.1 in
    by_eqb (λ x. cond x n (cond (eqb c 89) (n + 1) (n + 2)) ≡ n + (c - 88)) c 88 (λ e. let z : n ≡ n + (c - 88) = omega arith in z)
    (λ d. by_eqb (λ x. cond x (n + 1) (n + 2) ≡ n + (c - 88)) c 89 (λ e. let z : n + 1 ≡ n + (c - 88) = omega arith in z) (λ f. last c n l h d f))
  where
    last : (c n : ℕ) → 88 ≤ c → c ≤ 90 → (c ≡ 88 → ⊥) → (c ≡ 89 → ⊥) → n + 2 ≡ n + (c - 88)
    last c n l h d f = omega arith

numbers-own : (f : List ℕ) (n : ℕ) → numbers_of f n (n + 1) (n + 2) ≡ own_numbers f n
numbers-own [] n = refl
numbers-own (c ∷ cs) n = by (is_mark c) refl (numbers-own cs n)
  where
    by : (b : Bool) → is_mark c ≡ b → numbers_of cs n (n + 1) (n + 2) ≡ own_numbers cs n
        → cond b (pick c n (n + 1) (n + 2) ∷ numbers_of cs n (n + 1) (n + 2)) (numbers_of cs n (n + 1) (n + 2)) ≡ cond b ((n + (c - 88)) ∷ own_numbers cs n) (own_numbers cs n)
    by true q e = let p = pick-own c n (subst (λ (b : Bool). T b) (sym q) tt) in rw (p, e)
    by false q e = e

-- the first number of a line is that of the first terminal
first-number : (k n : ℕ) → k < 8 → get_or (numbers_of (get_or element_words k []) n (n + 1) (n + 2)) 0 0 ≡ n
unfolding element_words
first-number zero n h = refl
first-number (suc zero) n h = refl
first-number (suc (suc zero)) n h = refl
first-number (suc (suc (suc zero))) n h = refl
first-number (suc (suc (suc (suc zero)))) n h = refl
first-number (suc (suc (suc (suc (suc zero))))) n h = refl
first-number (suc (suc (suc (suc (suc (suc zero)))))) n h = refl
first-number (suc (suc (suc (suc (suc (suc (suc zero))))))) n h = refl
first-number (suc (suc (suc (suc (suc (suc (suc (suc k)))))))) n h = absurd (omega arith)

element_read_lem : (k n : ℕ) → k < 8 → element_read (taken_of element_words (kind_line k n)) ≡ some (cond (eqb k 7) (point n) (part k n))
unfolding element_read
element_read_lem k n h = rw (first-number k n h, numbers-own (get_or element_words k []) n, same_self (own_numbers (get_or element_words k []) n))

element_back : (e : Element) → ElementFour e → element_read (taken_of element_words (line_of_element e)) ≡ some e
element_back (point i) h = element_read_lem 7 i (omega arith)
element_back (part p i) h =
    let l : p < 7 = h.1 in
    element_read_lem p i (omega arith) ∙ ap (λ (b : Bool). some (cond b (point i) (part p i))) (ne_eqb p 7 (λ z. absurd (omega arith)))

elements_back : (es : List Element) → All ElementFour es → elements_read (map (taken_of element_words) (map line_of_element es)) ≡ some es
elements_back [] a = refl
elements_back (e ∷ es) a = bind-some _ e _ (element_back e a.0) ∙ bind-some _ es _ (elements_back es a.1)

wires_none : (k : ℕ) (ts : Interface) → wires_read (map (taken_of assign_words) (lines_of_pins k ts)) ≡ []
unfolding assign_words
wires_none k [] = refl
wires_none k (inp i ∷ ts) = refl
wires_none k (out o ∷ ts) = refl

wires_back : (ws : List Wire) (k : ℕ) (ts : Interface) → wires_read (map (taken_of assign_words) (map line_of_wire ws ++ lines_of_pins k ts)) ≡ ws
unfolding assign_words
wires_back [] k ts = wires_none k ts
wires_back (w ∷ ws) k ts = ap (λ (l : List Wire). w ∷ l) (wires_back ws k ts)

behind-none : (k : ℕ) (ts : Interface) → behind_wires (map (taken_of assign_words) (lines_of_pins k ts)) ≡ map (taken_of assign_words) (lines_of_pins k ts)
behind-none k [] = refl
behind-none k (inp i ∷ ts) = refl
behind-none k (out o ∷ ts) = refl

behind-back : (ws : List Wire) (k : ℕ) (ts : Interface) → behind_wires (map (taken_of assign_words) (map line_of_wire ws ++ lines_of_pins k ts)) ≡ map (taken_of assign_words) (lines_of_pins k ts)
behind-back [] k ts = behind-none k ts
behind-back (w ∷ ws) k ts = behind-back ws k ts

pin_back : (k : ℕ) (t : Terminal) → pin_read k (taken_of port_words (line_of_port k t)) (taken_of assign_words (line_of_pin k t)) ≡ some t
unfolding pin_read port_words assign_words
pin_back k (inp i) = rw (T-is (eqb k k) (eqb_refl k))
pin_back k (out o) = rw (T-is (eqb k k) (eqb_refl k))

pins_back : (k : ℕ) (ts : Interface) → pins_read k (map (taken_of port_words) (lines_of_ports k ts)) (map (taken_of assign_words) (lines_of_pins k ts)) ≡ some ts
pins_back k [] = refl
pins_back k (t ∷ ts) = bind-some _ t _ (pin_back k t) ∙ bind-some _ ts _ (pins_back (k + 1) ts)

-- ---- the whole

texts_append : (fs : List (List ℕ)) (xs ys : List Line) → lines_text fs (xs ++ ys) ≡ lines_text fs xs ++ lines_text fs ys
texts_append fs [] ys = refl
texts_append fs (x ∷ xs) ys = ap (λ (t : List ℕ). line_text fs x ++ t) (texts_append fs xs ys) ∙ sym (append_assoc (line_text fs x) (lines_text fs xs) (lines_text fs ys))

all_both : {A : Type 0} (F : A → Type 0) (xs ys : List A) → All F xs → All F ys → All F (xs ++ ys)
all_both F [] ys a b = b
all_both F (x ∷ xs) ys a b = (a.0, all_both F xs ys a.1 b)

-- a text without numbers
header-filled : (rest : List ℕ) → header ++ rest ≡ filled header 0 0 0 ++ rest
unfolding header letter
header-filled rest = refl

scan-header : (rest : List ℕ) → scan header (header ++ rest) ≡ some (record { numbers = numbers_of header 0 0 0; rest = rest })
scan-header rest = ap (scan header) (header-filled rest) ∙ scan-filled 0 0 0 header (omega arith) (omega arith) (omega arith) rest

scan-closing : (rest : List ℕ) → scan ports_end (ports_end ++ rest) ≡ some (record { numbers = numbers_of ports_end 0 0 0; rest = rest })
scan-closing rest = ap (scan ports_end) (closing-filled rest) ∙ scan-filled 0 0 0 ports_end (omega arith) (omega arith) (omega arith) rest

module _ (m : Net) (f : FitsFour m) where
  abbrev P : List Line
  P = lines_of_ports 0 m.pins

  abbrev E : List Line
  E = map line_of_element m.elements

  abbrev A : List Line
  A = map line_of_wire m.wires ++ lines_of_pins 0 m.pins

  ports-ok : All (LineReadable 2) P
  ports-ok = port_lines 0 m.pins (let c = f.count in omega arith)

  elements-ok : All (LineReadable 8) E
  elements-ok = element_lines_lem m.elements f.elements

  assigns-ok : All (LineReadable 3) A
  assigns-ok = all_both (LineReadable 3) (map line_of_wire m.wires) (lines_of_pins 0 m.pins) (wire-lines m.wires f.wires) (pin_lines_lem 0 m.pins (let c = f.count in omega arith) f.pins)

  abbrev third : List ℕ
  third = lines_text assign_forms A ++ module_end

  abbrev second : List ℕ
  second = lines_text element_forms E ++ third

  abbrev firsts : List ℕ
  firsts = lines_text port_forms P ++ (ports_end ++ second)

  text-is : module_text m ≡ header ++ firsts
  unfolding module_text
  text-is =
      ap (λ (t : List ℕ). header ++ (lines_text port_forms P ++ (ports_end ++ (lines_text element_forms E ++ t))))
      (sym (append_assoc (lines_text assign_forms (map line_of_wire m.wires)) (lines_text assign_forms (lines_of_pins 0 m.pins)) module_end)
      ∙ ap (λ (t : List ℕ). t ++ module_end) (sym (texts_append assign_forms (map line_of_wire m.wires) (lines_of_pins 0 m.pins))))

  ports-long : length P ≤ length (lines_text port_forms P)
  unfolding port_forms
  ports-long = texts_long port_forms ports_full P ports-ok

  elements-long : length E ≤ length (lines_text element_forms E)
  unfolding element_forms
  elements-long = texts_long element_forms elements_full E elements-ok

  assigns-long : length A ≤ length (lines_text assign_forms A)
  unfolding assign_forms
  assigns-long = texts_long assign_forms assigns_full A assigns-ok

  long : (length P ≤ length (module_text m)) × (length E ≤ length (module_text m)) × (length A ≤ length (module_text m))
  long =
      let p : length P ≤ length (lines_text port_forms P) = ports-long in
      let e : length E ≤ length (lines_text element_forms E) = elements-long in
      let a : length A ≤ length (lines_text assign_forms A) = assigns-long in
      let l = ap length text-is in
      let l₁ = length-append header firsts in
      let l₂ = length-append (lines_text port_forms P) (ports_end ++ second) in
      let l₃ = length-append ports_end second in
      let l₄ = length-append (lines_text element_forms E) third in
      let l₅ = length-append (lines_text assign_forms A) module_end in
      (omega arith, omega arith, omega arith)

  two-ports : All (LineReadable (length port_forms)) P
  unfolding port_forms
  two-ports = ports-ok

  eight-elements : All (LineReadable (length element_forms)) E
  unfolding element_forms
  eight-elements = elements-ok

  three-assigns : All (LineReadable (length assign_forms)) A
  unfolding assign_forms
  three-assigns = assigns-ok

  block-ports : block (length (module_text m)) port_words firsts ≡ record { lines = map (taken_of port_words) P; rest = ports_end ++ second }
  block-ports =
      subst (λ (w : List (List ℕ)). block (length (module_text m)) w firsts ≡ record { lines = map (taken_of w) P; rest = ports_end ++ second }) (sym port_words_lem)
      (block_read port_forms ports_apart (ports_end ++ second) (no_port second) P two-ports (length (module_text m)) long.0)

  block-elements : block (length (module_text m)) element_words second ≡ record { lines = map (taken_of element_words) E; rest = third }
  block-elements =
      subst (λ (w : List (List ℕ)). block (length (module_text m)) w second ≡ record { lines = map (taken_of w) E; rest = third }) (sym element_words_lem)
      (block_read element_forms elements_apart third (no_element A assigns-ok) E eight-elements (length (module_text m)) long.1)

  block-assigns : block (length (module_text m)) assign_words third ≡ record { lines = map (taken_of assign_words) A; rest = module_end }
  block-assigns =
      subst (λ (w : List (List ℕ)). block (length (module_text m)) w third ≡ record { lines = map (taken_of w) A; rest = module_end }) (sym assign_words_lem)
      (block_read assign_forms assigns_apart module_end no_assign A three-assigns (length (module_text m)) long.2)

  body-read : body_read (length (module_text m)) (map (taken_of port_words) P) second ≡ some m
  unfolding body_read
  body-read =
      rw (block-elements, block-assigns)
      (bind-some _ m.elements _ (elements_back m.elements f.elements)
      ∙ bind-some _ m.pins _ (ap (pins_read 0 (map (taken_of port_words) P)) (behind-back m.wires 0 m.pins) ∙ pins_back 0 m.pins)
      ∙ rw (same_self module_end, wires_back m.wires 0 m.pins))

  pub verilog_read : read_verilog (module_text m) ≡ some m
  unfolding read_verilog
  verilog_read =
      bind-some _ (record { numbers = numbers_of header 0 0 0; rest = firsts }) _ (ap (scan header) text-is ∙ scan-header firsts)
      ∙ rw block-ports (bind-some _ (record { numbers = numbers_of ports_end 0 0 0; rest = second }) _ (scan-closing second) ∙ body-read)
