-- Wires leave everything but drivers and targets alone. Assumes nothing.
use Prim.Native.Nat.{ℕ, suc, ◌+◌, ◌*◌, ◌/◌, ◌%◌, ◌≤◌, ◌<◌}
use mathlib.Core.Path.{◌≡◌, refl, ap, ◌∙◌}
use mathlib.Core.Bool.{Bool, cond}
use mathlib.Core.List.{List}
use native.Mathlib.Omega.{arith}
use native.Mathlib.Nat.{add-zero}
use native.Mathlib.Numerals.{add-one}
use lib.ListN.{length, get_or, set, drop}
use borrow.Author.Tests.{eq-eqb, ne_eqb}
use lib.Seq.{drop-cons, get_or-set_other}
use Rattle.laws.proofs.Regions.{drop_past}
use Rattle.laws.proofs.Tests.{by_eqb}
use Rattle.calculus.specs.Net.{Terminal, inp, out, number}
use Rattle.memory.specs.Map.{targets_at, elements_at, code, terminal_of}
use Rattle.wiring.specs.Links.{wired, between, linked, links, Apart}

wired-high : (w : List ℕ) (k o i j : ℕ) → i < 8192 → k < 5632 → elements_at ≤ j → get_or (wired w k o i) j 0 ≡ get_or w j 0
wired-high w k o i j hi hk hj = get_or-set_other (set w i o) (targets_at + k) j i 0 (omega arith) ∙ get_or-set_other w i j o 0 (omega arith)

-- the terminal of a low code is below 8,192
pub low-number : (c : ℕ) → c < 16384 → number (terminal_of c) < 8192
low-number c h = by_eqb (λ b. number (cond b (inp (c / 2)) (out (c / 2))) < 8192) (c % 2) 0 (λ e. omega arith) (λ e. omega arith)

between-high : (a f : Terminal) (w : List ℕ) (k j : ℕ) → number a < 8192 → number f < 8192 → k < 5632 → elements_at ≤ j → get_or (between w k a f) j 0 ≡ get_or w j 0
between-high (out o) (inp i) w k j ha hf hk hj = wired-high w k o i j hf hk hj
between-high (inp i) (out o) w k j ha hf hk hj = wired-high w k o i j ha hk hj
between-high (out o) (out p) w k j ha hf hk hj = refl
between-high (inp i) (inp p) w k j ha hf hk hj = refl

pub linked-high : (w : List ℕ) (k a f j : ℕ) → a < 16384 → f < 16384 → k < 5632 → elements_at ≤ j → get_or (linked w k a f) j 0 ≡ get_or w j 0
unfolding linked
linked-high w k a f j ha hf hk hj = between-high (terminal_of a) (terminal_of f) w k j (low-number a ha) (low-number f hf) hk hj

-- a terminal's code is that terminal's
pub terminal_back : (t : Terminal) → terminal_of (code t) ≡ t
terminal_back (inp i) =
    let h : (2 * i) / 2 ≡ i = omega arith in
    ap (λ (b : Bool). cond b (inp ((2 * i) / 2)) (out ((2 * i) / 2))) (eq-eqb ((2 * i) % 2) 0 (omega arith)) ∙ ap inp h
terminal_back (out o) =
    let h : (2 * o + 1) / 2 ≡ o = omega arith in
    ap (λ (b : Bool). cond b (inp ((2 * o + 1) / 2)) (out ((2 * o + 1) / 2))) (ne_eqb ((2 * o + 1) % 2) 0 (λ z. omega arith)) ∙ ap out h

pub linked_codes : (w : List ℕ) (k : ℕ) (a f : Terminal) → linked w k (code a) (code f) ≡ between w k a f
unfolding linked
linked_codes w k a f = rw (terminal_back a, terminal_back f)

-- both interfaces hold low codes, where they stand as they were
module _ {w : List ℕ} {a f n k : ℕ} (p : Apart w a f n k) (w₁ : List ℕ) (same : (j : ℕ) → elements_at ≤ j → get_or w₁ j 0 ≡ get_or w j 0) (i : ℕ) (h : i < n) where
  pub low-argument : get_or w₁ (a + i) 0 < 16384
  low-argument = rw (same (a + i) (omega (arith, p.high_a))) (p.low_a i h)

  pub low_function : get_or w₁ (f + i) 0 < 16384
  low_function = rw (same (f + i) (omega (arith, p.high_f))) (p.low_f i h)

-- the wires still to be made, made over what stands, are the whole

pub links-start : (A F w : List ℕ) (k : ℕ) → links w (k + 0) (drop 0 A) (drop 0 F) ≡ links w k A F
links-start A F w k = rw add-zero

module _ (A F work : List ℕ) {whole : List ℕ} (k i : ℕ) (e : links work (k + i) (drop i A) (drop i F) ≡ whole) where
  pub links-again : i < length A → i < length F → (x y : ℕ) → x ≡ get_or A i 0 → y ≡ get_or F i 0
      → links (linked work (k + i) x y) (k + (i + 1)) (drop (i + 1) A) (drop (i + 1) F) ≡ whole
  links-again h g x y ex ey =
      let s : k + (i + 1) ≡ suc (k + i) = omega arith in
      rw (s, add-one i, ex, ey) (rw (drop-cons A i 0 h, drop-cons F i 0 g) at e)

  pub links_end : length A ≤ i → work ≡ whole
  links_end h = rw (drop_past A i h) at e
