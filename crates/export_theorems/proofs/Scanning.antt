-- A line, read by its form, gives back its numbers; a form that differs from it somewhere does not fit it. Assumes nothing.
use Prim.Native.Nat.{ℕ, zero, suc, ◌+◌, ◌-◌, ◌*◌, ◌/◌, ◌%◌, ◌<◌, ◌≤◌}
use mathlib.Core.Path.{◌≡◌, refl, sym, ap, ◌∙◌, subst}
use mathlib.Core.Bool.{Bool, true, false, cond, not, ◌&&◌}
use mathlib.Core.Option.{Option, none, some}
use mathlib.Core.List.{List, [], ◌∷◌, ◌++◌, map, append_assoc}
use native.Mathlib.Omega.{arith}
use native.Mathlib.Nat.{le_refl}
use lib.Dec.{T, eqb, leb, eqb_refl, eqb→eq, le→leb}
use lib.ListN.{length, get_or, drop, length-append}
use Rattle.laws.proofs.Tests.{T-is, and_both, not_true, is_false}
use Rattle.laws.proofs.Below.{all, below}
use Rattle.calculus.specs.Record.{All}
use Rattle.export_calculus.specs.Verilog.{four_digits, is_mark, pick, letter, filled, Line, line_text, lines_text}
use Rattle.export_calculus.specs.VerilogRead.{is_digit_lem, number_here, char_here, with_number, scan, Taken, first_fit, block}

-- ---- numbers

is_digit : (d : ℕ) → d < 10 → is_digit_lem (48 + d) ≡ true
is_digit d h = both (leb 48 (48 + d)) (leb (48 + d) 57) (le→leb 48 (48 + d) (omega arith)) (le→leb (48 + d) 57 (omega arith))
  where
    both : (a b : Bool) → T a → T b → (a && b) ≡ true
    both true true s t = refl
    both true false s t = absurd t
    both false b s t = absurd s

number-four : (n : ℕ) → n < 10000 → (rest : List ℕ) → number_here (four_digits n ++ rest) ≡ some n
unfolding number_here
number-four n h rest =
    let v : (48 + n / 10 / 10 / 10 % 10 - 48) * 1000 + (48 + n / 10 / 10 % 10 - 48) * 100 + (48 + n / 10 % 10 - 48) * 10 + (48 + n % 10 - 48) ≡ n = omega arith in
    tests (is_digit_lem (48 + n / 10 / 10 / 10 % 10)) (is_digit_lem (48 + n / 10 / 10 % 10)) (is_digit_lem (48 + n / 10 % 10)) (is_digit_lem (48 + n % 10))
    (is_digit (n / 10 / 10 / 10 % 10) (omega arith)) (is_digit (n / 10 / 10 % 10) (omega arith)) (is_digit (n / 10 % 10) (omega arith)) (is_digit (n % 10) (omega arith)) _
    ∙ ap (λ (z : ℕ). some z) v
  where
    tests : (a b c d : Bool) → a ≡ true → b ≡ true → c ≡ true → d ≡ true → (x : Option ℕ) → cond ((a && b) && (c && d)) x none ≡ x
    tests a b c d p q r s x = rw (p, q, r, s)

number_not : (d : ℕ) (s : List ℕ) → is_digit_lem d ≡ false → number_here (d ∷ s) ≡ none
unfolding number_here
number_not d [] h = refl
number_not d (a ∷ []) h = refl
number_not d (a ∷ b ∷ []) h = refl
number_not d (a ∷ b ∷ c ∷ s) h = rw h

with_none : (o : Option ℕ) → with_number o none ≡ none
with_none none = refl
with_none (some n) = refl

-- ---- a line and its own form

-- the numbers in their order
abbrev pub numbers_of : List ℕ → ℕ → ℕ → ℕ → List ℕ
numbers_of [] x y z = []
numbers_of (c ∷ cs) x y z = let r = numbers_of cs x y z in cond (is_mark c) (pick c x y z ∷ r) r

module _ (x y z : ℕ) where
  pick_low : (c : ℕ) → x < 10000 → y < 10000 → z < 10000 → pick c x y z < 10000
  pick_low c hx hy hz = by (eqb c 88) (eqb c 89)
    where
      by : (a b : Bool) → cond a x (cond b y z) < 10000
      by true b = hx
      by false true = hy
      by false false = hz

  pub scan-filled : (f : List ℕ) → x < 10000 → y < 10000 → z < 10000 → (rest : List ℕ) → scan f (filled f x y z ++ rest) ≡ some (record { numbers = numbers_of f x y z; rest = rest })
  unfolding scan letter
  scan-filled [] hx hy hz rest = refl
  scan-filled (c ∷ cs) hx hy hz rest = by (is_mark c) (scan-filled cs hx hy hz rest)
    where
      by : (b : Bool) → scan cs (filled cs x y z ++ rest) ≡ some (record { numbers = numbers_of cs x y z; rest = rest })
          → cond b (with_number (number_here ((cond b (four_digits (pick c x y z)) (c ∷ []) ++ filled cs x y z) ++ rest)) (scan cs (drop 4 ((cond b (four_digits (pick c x y z)) (c ∷ []) ++ filled cs x y z) ++ rest))))
          (cond (char_here c ((cond b (four_digits (pick c x y z)) (c ∷ []) ++ filled cs x y z) ++ rest)) (scan cs (drop 1 ((cond b (four_digits (pick c x y z)) (c ∷ []) ++ filled cs x y z) ++ rest))) none)
          ≡ some (record { numbers = cond b (pick c x y z ∷ numbers_of cs x y z) (numbers_of cs x y z); rest = rest })
      by true e = rw (number-four (pick c x y z) (pick_low c hx hy hz) (filled cs x y z ++ rest), e)
      by false e = rw (T-is (eqb c c) (eqb_refl c), e)

-- ---- another form

-- the two differ where both are read
abbrev pub differ : List ℕ → List ℕ → Bool
differ [] g = false
differ (c ∷ cs) [] = false
differ (c ∷ cs) (d ∷ ds) =
    let r = differ cs ds in
    cond (is_mark c) (cond (is_mark d) r (not (is_digit_lem d))) (cond (is_mark d) (not (is_digit_lem c)) (cond (eqb c d) r true))

no_digit : (c n : ℕ) → is_digit_lem c ≡ false → eqb c (48 + n % 10) ≡ false
no_digit c n h = is_false (eqb c (48 + n % 10)) λ t.
    subst (λ (b : Bool). T b) (sym (is_digit (n % 10) (omega arith)) ∙ ap is_digit_lem (sym (eqb→eq c (48 + n % 10) t)) ∙ h) tt

module _ (x y z : ℕ) (rest : List ℕ) where
  pub scan-clash : (f g : List ℕ) → T (differ f g) → scan f (filled g x y z ++ rest) ≡ none
  unfolding scan letter
  scan-clash [] g h = absurd h
  scan-clash (c ∷ cs) [] h = absurd h
  scan-clash (c ∷ cs) (d ∷ ds) h = by (is_mark c) (is_mark d) (λ t. scan-clash cs ds t) h
    where
      by : (a b : Bool) → (T (differ cs ds) → scan cs (filled ds x y z ++ rest) ≡ none) → T (cond a (cond b (differ cs ds) (not (is_digit_lem d))) (cond b (not (is_digit_lem c)) (cond (eqb c d) (differ cs ds) true)))
          → cond a (with_number (number_here ((cond b (four_digits (pick d x y z)) (d ∷ []) ++ filled ds x y z) ++ rest)) (scan cs (drop 4 ((cond b (four_digits (pick d x y z)) (d ∷ []) ++ filled ds x y z) ++ rest))))
          (cond (char_here c ((cond b (four_digits (pick d x y z)) (d ∷ []) ++ filled ds x y z) ++ rest)) (scan cs (drop 1 ((cond b (four_digits (pick d x y z)) (d ∷ []) ++ filled ds x y z) ++ rest))) none)
          ≡ none
      by true true ih t = rw (ih t) (with_none (number_here ((four_digits (pick d x y z) ++ filled ds x y z) ++ rest)))
      by true false ih t = rw (number_not d (filled ds x y z ++ rest) (not_true (is_digit_lem d) t))
      by false true ih t = rw (no_digit c (pick d x y z / 10 / 10 / 10) (not_true (is_digit_lem c) t))
      by false false ih t = last (eqb c d) t
        where
          last : (e : Bool) → T (cond e (differ cs ds) true) → cond e (scan cs (filled ds x y z ++ rest)) none ≡ none
          last true t = ih t
          last false t = refl

-- ---- a list of forms

-- the forms before the k-th differ from g
abbrev pub earlier : List (List ℕ) → ℕ → List ℕ → Bool
earlier fs zero g = true
earlier [] (suc k) g = true
earlier (f ∷ fs) (suc k) g = differ f g && earlier fs k g

-- .. each from those before it
abbrev pub apart : List (List ℕ) → Bool
apart fs = all (length fs) (λ k. earlier fs k (get_or fs k []))

pub first-at : (fs : List (List ℕ)) (j k x y z : ℕ) → k < length fs → T (earlier fs k (get_or fs k [])) → x < 10000 → y < 10000 → z < 10000 → (rest : List ℕ)
    → first_fit fs j (filled (get_or fs k []) x y z ++ rest) ≡ some (record { line = record { form = j + k; numbers = numbers_of (get_or fs k []) x y z }; rest = rest })
first-at [] j k x y z h t hx hy hz rest = absurd (omega arith)
first-at (f ∷ fs) j zero x y z h t hx hy hz rest = let e : j + 0 ≡ j = omega arith in rw (e, scan-filled x y z f hx hy hz rest)
first-at (f ∷ fs) j (suc k) x y z h t hx hy hz rest =
    let s = and_both (differ f (get_or fs k [])) (earlier fs k (get_or fs k [])) t in
    let e : j + suc k ≡ j + 1 + k = omega arith in
    rw (e, scan-clash x y z rest f (get_or fs k []) s.0) (first-at fs (j + 1) k x y z (omega arith) s.1 hx hy hz rest)

-- no form of the list fits a line of the form g
abbrev pub none-fits : List (List ℕ) → List ℕ → Bool
none-fits [] g = true
none-fits (f ∷ fs) g = differ f g && none-fits fs g

pub first-none : (fs : List (List ℕ)) (g : List ℕ) → T (none-fits fs g) → (j x y z : ℕ) (rest : List ℕ) → first_fit fs j (filled g x y z ++ rest) ≡ none
first-none [] g t j x y z rest = refl
first-none (f ∷ fs) g t j x y z rest =
    let s = and_both (differ f g) (none-fits fs g) t in
    rw (scan-clash x y z rest f g s.0) (first-none fs g s.1 (j + 1) x y z rest)

-- ---- lines one after the other

pub record LineReadable (forms : ℕ) (l : Line) : Type 0 where
  pub known : l.form < forms
  pub x : l.x < 10000
  pub y : l.y < 10000
  pub z : l.z < 10000

abbrev pub taken_of : List (List ℕ) → Line → Taken
taken_of fs l = record { form = l.form; numbers = numbers_of (get_or fs l.form []) l.x l.y l.z }

pub block_read : (fs : List (List ℕ)) → T (apart fs) → (rest : List ℕ) → first_fit fs 0 rest ≡ none → (ls : List Line) → All (LineReadable (length fs)) ls → (n : ℕ) → length ls ≤ n
    → block n fs (lines_text fs ls ++ rest) ≡ record { lines = map (taken_of fs) ls; rest = rest }
unfolding block line_text
block_read fs t rest h [] a zero l = refl
block_read fs t rest h [] a (suc n) l = rw h
block_read fs t rest h (x ∷ ls) a zero l = absurd (omega arith)
block_read fs t rest h (x ∷ ls) a (suc n) l =
    let r = a.0 in
    rw (
      append_assoc (line_text fs x) (lines_text fs ls) rest,
      first-at fs 0 x.form x.x x.y x.z r.known (below (length fs) (λ k. earlier fs k (get_or fs k [])) t x.form r.known) r.x r.y r.z (lines_text fs ls ++ rest),
      block_read fs t rest h ls a.1 n (omega arith),
    )
    (ap (λ (f : ℕ). record { lines = record { form = f; numbers = numbers_of (get_or fs x.form []) x.x x.y x.z } ∷ map (taken_of fs) ls; rest = rest }) (let e : 0 + x.form ≡ x.form = omega arith in e))

-- ---- a text has no more lines than characters

filled-some : (f : List ℕ) (x y z : ℕ) → 1 ≤ length f → 1 ≤ length (filled f x y z)
unfolding letter
filled-some [] x y z h = h
filled-some (c ∷ cs) x y z h = by (is_mark c)
  where
    by : (b : Bool) → 1 ≤ length (cond b (four_digits (pick c x y z)) (c ∷ []) ++ filled cs x y z)
    by true = omega arith
    by false = omega arith

abbrev pub full_forms : List (List ℕ) → Bool
full_forms fs = all (length fs) (λ k. leb 1 (length (get_or fs k [])))

pub texts_long : (fs : List (List ℕ)) → ((k : ℕ) → k < length fs → 1 ≤ length (get_or fs k [])) → (ls : List Line) → All (LineReadable (length fs)) ls → length ls ≤ length (lines_text fs ls)
unfolding line_text
texts_long fs h [] a = le_refl 0
texts_long fs h (l ∷ ls) a =
    omega (arith, texts_long fs h ls a.1, filled-some (get_or fs l.form []) l.x l.y l.z (h l.form a.0.known), length-append (line_text fs l) (lines_text fs ls))
