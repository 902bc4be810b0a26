-- The number that an answer is packed in tells the answer, where each part fits its bits. Assumes nothing.
use Prim.Native.Nat.{ℕ, ◌+◌, ◌*◌, ◌≤◌, ◌<◌, min}
use mathlib.Core.Path.{◌≡◌, sym, ap, ap₂, ◌∙◌}
use native.Mathlib.Omega.{arith}
use Rattle.calculus.specs.Answer.{Refusal, Answer, good, refused}
use Rattle.answers.specs.Word.{upper_lower, packed, FitsWord}

shows : (n m : ℕ) → n ≤ m → min n m ≡ n
shows n m h = omega arith

unshown : (why : Refusal) → FitsWord (refused why) → packed (refused why) ≡ upper_lower why.number why.place + (why.wanted * 1099511627776 + why.found * 4503599627370496)
unshown why (f, n, p, w, d) = rw (shows why.place 4294967295 (omega arith), shows why.wanted 4095 (omega arith), shows why.found 4095 (omega arith))

same-refusal : (i j : Refusal) → i.number ≡ j.number → i.place ≡ j.place → i.wanted ≡ j.wanted → i.found ≡ j.found → i ≡ j
same-refusal i j n p w f =
    ap₂ (λ (x y : ℕ). record { number = x; place = y; wanted = i.wanted; found = i.found }) n p
    ∙ ap₂ (λ (x y : ℕ). record { number = j.number; place = j.place; wanted = x; found = y }) w f

-- a number of the parts of two refusals is a number of each part
parts_tell : (i j : Refusal) → FitsWord (refused i) → FitsWord (refused j)
    → upper_lower i.number i.place + (i.wanted * 1099511627776 + i.found * 4503599627370496) ≡ upper_lower j.number j.place + (j.wanted * 1099511627776 + j.found * 4503599627370496) → i ≡ j
parts_tell i j h k e =
    let f : i.found ≡ j.found = omega (arith, e, h.1, h.2, h.3, h.4, k.1, k.2, k.3, k.4) in
    let w : i.wanted ≡ j.wanted = omega (arith, e, f, h.1, h.2, h.3, k.1, k.2, k.3) in
    let n : i.number ≡ j.number = omega (arith, e, f, w, h.1, h.2, k.1, k.2) in
    let p : i.place ≡ j.place = omega (arith, e, f, w, n) in
    same-refusal i j n p w f

value_small : (n : ℕ) → packed (good n) < 4294967296
value_small n = omega arith

refusal_large : (why : Refusal) → 1 ≤ why.number → 4294967296 ≤ packed (refused why)
refusal_large why h = omega (arith, h)

pub word_tells : (a b : Answer ℕ) → FitsWord a → FitsWord b → packed a ≡ packed b → a ≡ b
word_tells (good m) (good n) f g e = ap good (sym (shows m 4294967295 (omega arith)) ∙ e ∙ shows n 4294967295 (omega arith))
word_tells (good m) (refused why) f g e = absurd (omega (arith, e, value_small m, refusal_large why g.0))
word_tells (refused why) (good n) f g e = absurd (omega (arith, e, value_small n, refusal_large why f.0))
word_tells (refused i) (refused j) f g e = ap refused (parts_tell i j f g (sym (unshown i f) ∙ e ∙ unshown j g))
