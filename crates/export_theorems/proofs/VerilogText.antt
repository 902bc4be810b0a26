-- The other half: a text that is read is the text of the netlist that it gives, for every text. A line that fits a form is that form with the
-- numbers that were read; and the reader's tests say that these are the numbers that the netlist's line has. Assumes nothing.
use Prim.Native.Nat.{ℕ, zero, suc, ◌+◌, ◌-◌, ◌*◌, ◌/◌, ◌%◌, ◌<◌, ◌≤◌}
use mathlib.Core.Path.{◌≡◌, refl, sym, ap, ◌∙◌, subst}
use mathlib.Core.Bool.{Bool, true, false, cond, ◌&&◌}
use mathlib.Core.Option.{Option, none, some, bind}
use mathlib.Core.List.{List, [], ◌∷◌, ◌++◌, map, append_assoc}
use native.Mathlib.Omega.{arith}
use lib.Dec.{T, eqb, eqb→eq, leb, leb→le}
use lib.ListN.{length, get_or, drop}
use Rattle.laws.proofs.Tests.{and_both, by_eqb}
use Rattle.calculus.specs.Net.{Terminal, inp, out, Interface, Element, point, part, Net}
use Rattle.export_calculus.specs.Verilog.{element_forms, port_forms, assign_forms, header, ports_end, module_end, four_digits, is_mark, pick, letter, filled, line_text, lines_text, line_of_element, line_of_wire, line_of_pin, line_of_port, lines_of_pins, lines_of_ports, module_text}
use Rattle.export_calculus.specs.VerilogRead.{element_words, port_words, assign_words, is_digit_lem, number_here, char_here, Scanned, with_number, scan, Taken, Fit, or_else, first_fit, Block, more, block, same_numbers, own_numbers, element_read, elements_read, wires_read, behind_wires, pin_read, pins_read, body_read, read_verilog}
use Rattle.export_theorems.proofs.VerilogRead.{element_words_lem, port_words_lem, assign_words_lem, pick-own}

-- ---- what was read, step by step

none≢some : {A : Type 0} {a : A} → ◌≡◌ {A = Option A} none (some a) → ⊥
none≢some e = let z : ◌≡◌ {A = ℕ} 0 1 = cc in omega arith

some_inj : {A : Type 0} {a b : A} → ◌≡◌ {A = Option A} (some a) (some b) → a ≡ b
some_inj e = cc

-- in the form that a proof takes apart: on_some o _ b e λ a h k. ..
on_some : {A B C : Type 0} (o : Option A) (f : A → Option B) (b : B) → bind o f ≡ some b → ((a : A) → o ≡ some a → f a ≡ some b → C) → C
unfolding bind
on_some none f b e k = absurd (none≢some e)
on_some (some a) f b e k = k a refl e

on_test : {A C : Type 0} (t : Bool) (o : Option A) (b : A) → cond t o none ≡ some b → (T t → o ≡ some b → C) → C
on_test true o b e k = k tt e
on_test false o b e k = absurd (none≢some e)

on_either : {A C : Type 0} (t u : Bool) (x y b : A) → cond t (some x) (cond u (some y) none) ≡ some b → (T t → x ≡ b → C) → (T u → y ≡ b → C) → C
on_either true u x y b e f g = f tt (some_inj e)
on_either false true x y b e f g = g tt (some_inj e)
on_either false false x y b e f g = absurd (none≢some e)

-- ---- lists

cons_both : {x y : ℕ} {xs ys : List ℕ} → x ≡ y → xs ≡ ys → (x ∷ xs) ≡ (y ∷ ys)
cons_both p q = cc

append-both : {xs ys us vs : List ℕ} → xs ≡ ys → us ≡ vs → (xs ++ us) ≡ (ys ++ vs)
append-both p q = cc

same-is : (s t : List ℕ) → T (same_numbers s t) → s ≡ t
same-is [] [] h = refl
same-is [] (d ∷ t) h = absurd h
same-is (c ∷ s) [] h = absurd h
same-is (c ∷ s) (d ∷ t) h = let b = and_both (eqb c d) (same_numbers s t) h in cons_both (eqb→eq c d b.0) (same-is s t b.1)

-- ---- four digits say one number

digits_of : (a b c d n : ℕ) → a < 10 → b < 10 → c < 10 → d < 10 → a * 1000 + b * 100 + c * 10 + d ≡ n
    → (n / 10 / 10 / 10 % 10 ≡ a) × (n / 10 / 10 % 10 ≡ b) × (n / 10 % 10 ≡ c) × (n % 10 ≡ d)
digits_of a b c d n ha hb hc hd e =
    let q₁ : n / 10 ≡ a * 100 + b * 10 + c = omega arith in
    let q₂ : n / 10 / 10 ≡ a * 10 + b = omega arith in
    let q₃ : n / 10 / 10 / 10 ≡ a = omega arith in
    (omega arith, omega arith, omega arith, omega arith)

digit_low : (c : ℕ) → T (is_digit_lem c) → (48 ≤ c) × (c ≤ 57)
digit_low c t = let b = and_both (leb 48 c) (leb c 57) t in (leb→le 48 c b.0, leb→le c 57 b.1)

digit-back : (c k : ℕ) → 48 ≤ c → k ≡ c - 48 → c ≡ 48 + k
digit-back c k l e = omega arith

four : (a b c d n : ℕ) (s : List ℕ) → T (is_digit_lem a) → T (is_digit_lem b) → T (is_digit_lem c) → T (is_digit_lem d) → (a - 48) * 1000 + (b - 48) * 100 + (c - 48) * 10 + (d - 48) ≡ n
    → (a ∷ b ∷ c ∷ d ∷ s) ≡ four_digits n ++ s
four a b c d n s ta tb tc td e =
    let (la, ha) = digit_low a ta in
    let (lb, hb) = digit_low b tb in
    let (lc, hc) = digit_low c tc in
    let (ld, hd) = digit_low d td in
    let p = digits_of (a - 48) (b - 48) (c - 48) (d - 48) n (below a ha) (below b hb) (below c hc) (below d hd) e in
    cons_both (digit-back a _ la p.0) (cons_both (digit-back b _ lb p.1) (cons_both (digit-back c _ lc p.2) (cons_both (digit-back d _ ld p.3) refl)))
  where
    below : (x : ℕ) → x ≤ 57 → x - 48 < 10
    below x h = omega arith

number_is : (s : List ℕ) (n : ℕ) → number_here s ≡ some n → s ≡ four_digits n ++ drop 4 s
unfolding number_here
number_is [] n e = absurd (none≢some e)
number_is (a ∷ []) n e = absurd (none≢some e)
number_is (a ∷ b ∷ []) n e = absurd (none≢some e)
number_is (a ∷ b ∷ c ∷ []) n e = absurd (none≢some e)
number_is (a ∷ b ∷ c ∷ d ∷ s) n e =
    on_test ((is_digit_lem a && is_digit_lem b) && (is_digit_lem c && is_digit_lem d)) _ n e λ t q.
    let u = and_both (is_digit_lem a && is_digit_lem b) (is_digit_lem c && is_digit_lem d) t in
    let v = and_both (is_digit_lem a) (is_digit_lem b) u.0 in
    let w = and_both (is_digit_lem c) (is_digit_lem d) u.1 in
    four a b c d n s v.0 v.1 w.0 w.1 (some_inj q)

-- ---- a line that was read is its form with its numbers

-- the numbers in their order
abbrev pub put_in : List ℕ → List ℕ → List ℕ
put_in [] ns = []
put_in (c ∷ cs) ns =
    let behind = put_in cs (drop 1 ns) in
    let r = put_in cs ns in
    cond (is_mark c) (four_digits (get_or ns 0 0) ++ behind) (c ∷ r)

-- what is known of the form's end
abbrev ScanIs : List ℕ → Type 0
ScanIs f = (s : List ℕ) (r : Scanned) → scan f s ≡ some r → s ≡ put_in f r.numbers ++ r.rest

marked : (s cs : List ℕ) (r : Scanned) (o : Option ℕ) (p : Option Scanned) → number_here s ≡ o → scan cs (drop 4 s) ≡ p → with_number o p ≡ some r → ScanIs cs
    → s ≡ (four_digits (get_or r.numbers 0 0) ++ put_in cs (drop 1 r.numbers)) ++ r.rest
marked s cs r none p a b e go = absurd (none≢some e)
marked s cs r (some n) none a b e go = absurd (none≢some e)
marked s cs r (some n) (some q) a b e go =
    subst (λ (x : Scanned). s ≡ (four_digits (get_or x.numbers 0 0) ++ put_in cs (drop 1 x.numbers)) ++ x.rest) (some_inj e)
    (number_is s n a ∙ ap (λ (t : List ℕ). four_digits n ++ t) (go (drop 4 s) q b) ∙ sym (append_assoc (four_digits n) (put_in cs q.numbers) q.rest))

plain : (c : ℕ) (s cs : List ℕ) (r : Scanned) → cond (char_here c s) (scan cs (drop 1 s)) none ≡ some r → ScanIs cs → s ≡ (c ∷ put_in cs r.numbers) ++ r.rest
plain c [] cs r e go = absurd (none≢some e)
plain c (d ∷ t) cs r e go = on_test (eqb c d) (scan cs t) r e λ h q. cons_both (sym (eqb→eq c d h)) (go t r q)

scan-is : (f : List ℕ) → ScanIs f
unfolding scan
scan-is [] s r e = ap (λ (x : Scanned). x.rest) (some_inj e)
scan-is (c ∷ cs) s r e = by (is_mark c) e (scan-is cs)
  where
    by : (b : Bool) → cond b (with_number (number_here s) (scan cs (drop 4 s))) (cond (char_here c s) (scan cs (drop 1 s)) none) ≡ some r → ScanIs cs
        → s ≡ cond b (four_digits (get_or r.numbers 0 0) ++ put_in cs (drop 1 r.numbers)) (c ∷ put_in cs r.numbers) ++ r.rest
    by true e go = marked s cs r (number_here s) (scan cs (drop 4 s)) refl refl e go
    by false e go = plain c s cs r e go

-- ---- lines one after the other

record FitAt (fs : List (List ℕ)) (j : ℕ) (s : List ℕ) (f : Fit) : Type 0 where
  pub at : ℕ
  pub form : f.line.form ≡ j + at
  pub text : s ≡ put_in (get_or fs at []) f.line.numbers ++ f.rest

found_here : (g : List ℕ) (gs : List (List ℕ)) (j : ℕ) (s : List ℕ) (r : Scanned) (f : Fit) → s ≡ put_in g r.numbers ++ r.rest
    → ◌≡◌ {A = Fit} (record { line = record { form = j; numbers = r.numbers }; rest = r.rest }) f → FitAt (g ∷ gs) j s f
found_here g gs j s r f t e = subst (FitAt (g ∷ gs) j s) e (record { at = 0; form = here; text = t })
  where
    here : j ≡ j + 0
    here = omega arith

first-is : (fs : List (List ℕ)) (j : ℕ) (s : List ℕ) (f : Fit) → first_fit fs j s ≡ some f → FitAt fs j s f
first-is [] j s f e = absurd (none≢some e)
first-is (g ∷ gs) j s f e = by (scan g s) refl e (λ h. first-is gs (j + 1) s f h)
  where
    by : (o : Option Scanned) → scan g s ≡ o → or_else j o (first_fit gs (j + 1) s) ≡ some f → (first_fit gs (j + 1) s ≡ some f → FitAt gs (j + 1) s f) → FitAt (g ∷ gs) j s f
    by none q e go = let r = go e in let z : f.line.form ≡ j + 1 + r.at = r.form in record { at = suc r.at; form = omega arith; text = r.text }
    by (some r) q e go = found_here g gs j s r f (scan-is g s r q) (some_inj e)

abbrev pub taken_text : List (List ℕ) → List Taken → List ℕ
taken_text fs [] = []
taken_text fs (l ∷ ls) = put_in (get_or fs l.form []) l.numbers ++ taken_text fs ls

joined : (fs : List (List ℕ)) (s : List ℕ) (f : Fit) (b : Block) → FitAt fs 0 s f → f.rest ≡ taken_text fs b.lines ++ b.rest
    → s ≡ (put_in (get_or fs f.line.form []) f.line.numbers ++ taken_text fs b.lines) ++ b.rest
joined fs s f b a e =
    let y : f.line.form ≡ 0 + a.at = a.form in
    let z : a.at ≡ f.line.form = omega arith in
    a.text ∙ ap (λ (k : ℕ). put_in (get_or fs k []) f.line.numbers ++ f.rest) z ∙ ap (λ (t : List ℕ). put_in (get_or fs f.line.form []) f.line.numbers ++ t) e
    ∙ sym (append_assoc (put_in (get_or fs f.line.form []) f.line.numbers) (taken_text fs b.lines) b.rest)

block-is : (n : ℕ) (fs : List (List ℕ)) (s : List ℕ) → s ≡ taken_text fs (block n fs s).lines ++ (block n fs s).rest
unfolding block
block-is zero fs s = refl
block-is (suc n) fs s = by (first_fit fs 0 s) refl (λ t. block-is n fs t)
  where
    by : (o : Option Fit) → first_fit fs 0 s ≡ o → ((t : List ℕ) → t ≡ taken_text fs (block n fs t).lines ++ (block n fs t).rest)
        → s ≡ taken_text fs (more s o (λ t. block n fs t)).lines ++ (more s o (λ t. block n fs t)).rest
    by none q go = refl
    by (some f) q go = joined fs s f (block n fs f.rest) (first-is fs 0 s f q) (go f.rest)

-- ---- elements

own-filled : (f : List ℕ) (n : ℕ) → put_in f (own_numbers f n) ≡ filled f n (n + 1) (n + 2)
unfolding letter
own-filled [] n = refl
own-filled (c ∷ cs) n = by (is_mark c) refl (own-filled cs n)
  where
    by : (b : Bool) → is_mark c ≡ b → put_in cs (own_numbers cs n) ≡ filled cs n (n + 1) (n + 2)
        → cond b (four_digits (get_or (cond b ((n + (c - 88)) ∷ own_numbers cs n) (own_numbers cs n)) 0 0) ++ put_in cs (drop 1 (cond b ((n + (c - 88)) ∷ own_numbers cs n) (own_numbers cs n))))
        (c ∷ put_in cs (cond b ((n + (c - 88)) ∷ own_numbers cs n) (own_numbers cs n)))
        ≡ cond b (four_digits (pick c n (n + 1) (n + 2))) (c ∷ []) ++ filled cs n (n + 1) (n + 2)
    by true q e = append-both (ap four_digits (sym (pick-own c n (subst (λ (b : Bool). T b) (sym q) tt)))) e
    by false q e = ap (λ (t : List ℕ). c ∷ t) e

kind-text : (k n : ℕ) (e : Element) → cond (eqb k 7) (point n) (part k n) ≡ e → filled (get_or element_words k []) n (n + 1) (n + 2) ≡ line_text element_words (line_of_element e)
unfolding line_text
kind-text k n e q =
    subst (λ (x : Element). filled (get_or element_words k []) n (n + 1) (n + 2) ≡ line_text element_words (line_of_element x)) q
    (by_eqb (λ b. filled (get_or element_words k []) n (n + 1) (n + 2) ≡ line_text element_words (line_of_element (cond b (point n) (part k n)))) k 7
    (λ z. ap (λ (j : ℕ). filled (get_or element_words j []) n (n + 1) (n + 2)) z) (λ d. refl))

element_text_lem : (l : Taken) (e : Element) → element_read l ≡ some e → put_in (get_or element_words l.form []) l.numbers ≡ line_text element_words (line_of_element e)
unfolding element_read
element_text_lem l e h =
    on_test (same_numbers l.numbers (own_numbers (get_or element_words l.form []) (get_or l.numbers 0 0))) _ e h λ t q.
    ap (put_in (get_or element_words l.form [])) (same-is l.numbers (own_numbers (get_or element_words l.form []) (get_or l.numbers 0 0)) t)
    ∙ own-filled (get_or element_words l.form []) (get_or l.numbers 0 0) ∙ kind-text l.form (get_or l.numbers 0 0) e (some_inj q)

elements_text : (ls : List Taken) (es : List Element) → elements_read ls ≡ some es → taken_text element_words ls ≡ lines_text element_words (map line_of_element es)
elements_text [] es h = ap (λ (x : List Element). lines_text element_words (map line_of_element x)) (some_inj h)
elements_text (l ∷ ls) es h =
    on_some (element_read l) _ es h λ e h₁ k₁.
    on_some (elements_read ls) _ es k₁ λ xs h₂ k₂.
    subst (λ (x : List Element). taken_text element_words (l ∷ ls) ≡ lines_text element_words (map line_of_element x)) (some_inj k₂)
    (append-both (element_text_lem l e h₁) (elements_text ls xs h₂))

-- ---- wires

wire-line : (ns : List ℕ) → put_in (get_or assign_forms 0 []) ns ≡ line_text assign_forms (line_of_wire (record { from = get_or ns 1 0; to = get_or ns 0 0 }))
unfolding assign_forms line_text letter
wire-line [] = refl
wire-line (x ∷ []) = refl
wire-line (x ∷ y ∷ ns) = refl

wires_text : (ls : List Taken) → taken_text assign_forms ls ≡ lines_text assign_forms (map line_of_wire (wires_read ls)) ++ taken_text assign_forms (behind_wires ls)
wires_text [] = refl
wires_text (l ∷ ls) =
    by_eqb
    (λ b.
    taken_text assign_forms (l ∷ ls)
    ≡ lines_text assign_forms (map line_of_wire (cond b (record { from = get_or l.numbers 1 0; to = get_or l.numbers 0 0 } ∷ wires_read ls) []))
    ++ taken_text assign_forms (cond b (behind_wires ls) (l ∷ ls)))
    l.form 0
    (λ z.
    append-both (ap (λ (j : ℕ). put_in (get_or assign_forms j []) l.numbers) z ∙ wire-line l.numbers) (wires_text ls)
    ∙ sym (append_assoc (line_text assign_forms (line_of_wire (record { from = get_or l.numbers 1 0; to = get_or l.numbers 0 0 }))) (lines_text assign_forms (map line_of_wire (wires_read ls))) (taken_text assign_forms (behind_wires ls))))
    (λ d. refl)

-- ---- pins

input_port : (k i : ℕ) → put_in (get_or port_forms 0 []) (k ∷ []) ≡ line_text port_forms (line_of_port k (inp i))
unfolding port_forms line_text letter
input_port k i = refl

output_port : (k o : ℕ) → put_in (get_or port_forms 1 []) (k ∷ []) ≡ line_text port_forms (line_of_port k (out o))
unfolding port_forms line_text letter
output_port k o = refl

input-line : (ns : List ℕ) → put_in (get_or assign_forms 1 []) ns ≡ line_text assign_forms (line_of_pin (get_or ns 1 0) (inp (get_or ns 0 0)))
unfolding assign_forms line_text letter
input-line [] = refl
input-line (x ∷ []) = refl
input-line (x ∷ y ∷ ns) = refl

output-line : (ns : List ℕ) → put_in (get_or assign_forms 2 []) ns ≡ line_text assign_forms (line_of_pin (get_or ns 0 0) (out (get_or ns 1 0)))
unfolding assign_forms line_text letter
output-line [] = refl
output-line (x ∷ []) = refl
output-line (x ∷ y ∷ ns) = refl

-- the port line and the assignment of the pin t at position k
abbrev PinText : ℕ → Taken → Taken → Terminal → Type 0
PinText k p l t =
    (put_in (get_or port_forms p.form []) p.numbers ≡ line_text port_forms (line_of_port k t)) × (put_in (get_or assign_forms l.form []) l.numbers ≡ line_text assign_forms (line_of_pin k t))

input_pin : (k : ℕ) (p l : Taken) → p.numbers ≡ k ∷ [] → p.form ≡ 0 → l.form ≡ 1 → get_or l.numbers 1 0 ≡ k → PinText k p l (inp (get_or l.numbers 0 0))
input_pin k p l n a b c = (
  ap (put_in (get_or port_forms p.form [])) n ∙ ap (λ (j : ℕ). put_in (get_or port_forms j []) (k ∷ [])) a ∙ input_port k (get_or l.numbers 0 0),
  ap (λ (j : ℕ). put_in (get_or assign_forms j []) l.numbers) b ∙ input-line l.numbers ∙ ap (λ (j : ℕ). line_text assign_forms (line_of_pin j (inp (get_or l.numbers 0 0)))) c,
)

output_pin_lem : (k : ℕ) (p l : Taken) → p.numbers ≡ k ∷ [] → p.form ≡ 1 → l.form ≡ 2 → get_or l.numbers 0 0 ≡ k → PinText k p l (out (get_or l.numbers 1 0))
output_pin_lem k p l n a b c = (
  ap (put_in (get_or port_forms p.form [])) n ∙ ap (λ (j : ℕ). put_in (get_or port_forms j []) (k ∷ [])) a ∙ output_port k (get_or l.numbers 1 0),
  ap (λ (j : ℕ). put_in (get_or assign_forms j []) l.numbers) b ∙ output-line l.numbers ∙ ap (λ (j : ℕ). line_text assign_forms (line_of_pin j (out (get_or l.numbers 1 0)))) c,
)

-- three tests of equal numbers
on_three : {C : Type 0} (a b c d e f : ℕ) → T (eqb a b && (eqb c d && eqb e f)) → (a ≡ b → c ≡ d → e ≡ f → C) → C
on_three a b c d e f t k =
    let u = and_both (eqb a b) (eqb c d && eqb e f) t in
    let v = and_both (eqb c d) (eqb e f) u.1 in
    k (eqb→eq a b u.0) (eqb→eq c d v.0) (eqb→eq e f v.1)

pin_text : (k : ℕ) (p l : Taken) (t : Terminal) → pin_read k p l ≡ some t → PinText k p l t
unfolding pin_read
pin_text k p l t e =
    on_test (same_numbers p.numbers (k ∷ [])) _ t e λ h q.
    let n = same-is p.numbers (k ∷ []) h in
    on_either (eqb p.form 0 && (eqb l.form 1 && eqb (get_or l.numbers 1 0) k)) (eqb p.form 1 && (eqb l.form 2 && eqb (get_or l.numbers 0 0) k))
    (inp (get_or l.numbers 0 0)) (out (get_or l.numbers 1 0)) t q
    (λ u z. subst (PinText k p l) z (on_three p.form 0 l.form 1 (get_or l.numbers 1 0) k u (λ a b c. input_pin k p l n a b c)))
    (λ u z. subst (PinText k p l) z (on_three p.form 1 l.form 2 (get_or l.numbers 0 0) k u (λ a b c. output_pin_lem k p l n a b c)))

abbrev PinsText : ℕ → List Taken → List Taken → Interface → Type 0
PinsText k ps ls ts = (taken_text port_forms ps ≡ lines_text port_forms (lines_of_ports k ts)) × (taken_text assign_forms ls ≡ lines_text assign_forms (lines_of_pins k ts))

pins_text : (k : ℕ) (ps ls : List Taken) (ts : Interface) → pins_read k ps ls ≡ some ts → PinsText k ps ls ts
pins_text k [] [] ts e = subst (PinsText k [] []) (some_inj e) (refl, refl)
pins_text k [] (l ∷ ls) ts e = absurd (none≢some e)
pins_text k (p ∷ ps) [] ts e = absurd (none≢some e)
pins_text k (p ∷ ps) (l ∷ ls) ts e =
    on_some (pin_read k p l) _ ts e λ t h₁ k₁.
    on_some (pins_read (k + 1) ps ls) _ ts k₁ λ us h₂ k₂.
    let a : PinText k p l t = pin_text k p l t h₁ in
    let b : PinsText (k + 1) ps ls us = pins_text (k + 1) ps ls us h₂ in
    subst (PinsText k (p ∷ ps) (l ∷ ls)) (some_inj k₂) (append-both a.0 b.0, append-both a.1 b.1)

-- ---- the whole

-- the ports that were read are those of the netlist, and this is its text behind them
abbrev BodyText : List Taken → List ℕ → Net → Type 0
BodyText ports s m =
    (taken_text port_forms ports ≡ lines_text port_forms (lines_of_ports 0 m.pins))
    × (s ≡ lines_text element_forms (map line_of_element m.elements) ++ (lines_text assign_forms (map line_of_wire m.wires) ++ (lines_text assign_forms (lines_of_pins 0 m.pins) ++ module_end)))

body_of : (ports : List Taken) (s : List ℕ) (g a : Block) (es : List Element) (ts : Interface) → s ≡ taken_text element_words g.lines ++ g.rest → g.rest ≡ taken_text assign_words a.lines ++ a.rest
    → elements_read g.lines ≡ some es → pins_read 0 ports (behind_wires a.lines) ≡ some ts → a.rest ≡ module_end → BodyText ports s (record { elements = es; wires = wires_read a.lines; pins = ts })
body_of ports s g a es ts sg ga he hp end =
    let E = elements_text g.lines es he ∙ ap (λ (w : List (List ℕ)). lines_text w (map line_of_element es)) element_words_lem in
    let P : PinsText 0 ports (behind_wires a.lines) ts = pins_text 0 ports (behind_wires a.lines) ts hp in
    let A = ap (λ (w : List (List ℕ)). taken_text w a.lines) assign_words_lem ∙ wires_text a.lines ∙ ap (λ (t : List ℕ). lines_text assign_forms (map line_of_wire (wires_read a.lines)) ++ t) P.1 in (
      P.0,
      sg ∙ append-both E (ga ∙ append-both A end ∙ append_assoc (lines_text assign_forms (map line_of_wire (wires_read a.lines))) (lines_text assign_forms (lines_of_pins 0 ts)) module_end),
    )

body_is : (n : ℕ) (ports : List Taken) (s : List ℕ) (m : Net) → body_read n ports s ≡ some m → BodyText ports s m
unfolding body_read
body_is n ports s m e =
    on_some (elements_read (block n element_words s).lines) _ m e λ es h₁ k₁.
    on_some (pins_read 0 ports (behind_wires (block n assign_words (block n element_words s).rest).lines)) _ m k₁ λ ts h₂ k₂.
    on_test (same_numbers (block n assign_words (block n element_words s).rest).rest module_end) _ m k₂ λ h₃ q.
    subst (BodyText ports s) (some_inj q)
    (body_of ports s (block n element_words s) (block n assign_words (block n element_words s).rest) es ts (block-is n element_words s) (block-is n assign_words (block n element_words s).rest) h₁ h₂
    (same-is (block n assign_words (block n element_words s).rest).rest module_end h₃))

header_is : (ns : List ℕ) → put_in header ns ≡ header
unfolding header
header_is ns = refl

closing-is : (ns : List ℕ) → put_in ports_end ns ≡ ports_end
unfolding ports_end
closing-is ns = refl

whole : (s : List ℕ) (o : Scanned) (p : Block) (c : Scanned) (m : Net) → s ≡ put_in header o.numbers ++ o.rest → o.rest ≡ taken_text port_words p.lines ++ p.rest
    → p.rest ≡ put_in ports_end c.numbers ++ c.rest → BodyText p.lines c.rest m → s ≡ module_text m
unfolding module_text
whole s o p c m a b d t =
    a ∙ append-both (header_is o.numbers) (b ∙ append-both (ap (λ (w : List (List ℕ)). taken_text w p.lines) port_words_lem ∙ t.0) (d ∙ append-both (closing-is c.numbers) t.1))

pub read_verilog_lem : (s : List ℕ) (m : Net) → read_verilog s ≡ some m → s ≡ module_text m
unfolding read_verilog
read_verilog_lem s m e =
    on_some (scan header s) _ m e λ o h₁ k₁.
    on_some (scan ports_end (block (length s) port_words o.rest).rest) _ m k₁ λ c h₂ k₂.
    whole s o (block (length s) port_words o.rest) c m (scan-is header s o h₁) (block-is (length s) port_words o.rest) (scan-is ports_end (block (length s) port_words o.rest).rest c h₂)
    (body_is (length s) (block (length s) port_words o.rest).lines c.rest m k₂)
