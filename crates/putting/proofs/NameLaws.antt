-- The name `main`, byte by byte, and a row of that name without parameters. Assumes nothing.
use Prim.Native.Nat.{ℕ, suc, ◌+◌, ◌≤◌, ◌<◌}
use mathlib.Core.Path.{◌≡◌, refl, sym, ap, ◌∙◌}
use mathlib.Core.Bool.{Bool, true, false, not, ◌&&◌}
use mathlib.Core.List.{List, [], ◌∷◌}
use native.Mathlib.Omega.{arith}
use lib.Dec.{eqb}
use lib.ListN.{length, get_or, drop}
use lib.Seq.{get_or-take, get_or-drop}
use Rattle.notation_calculus.specs.Words.{run, same_name}
use Rattle.notation_calculus.specs.Make.{main_name}
use Rattle.words.specs.Next.{run_at}
use Rattle.words.proofs.FoundLaws.{run_inside, run_long}
use Rattle.clauses.specs.declared.rows.Row.{Row}
use Rattle.putting.specs.Main.{row_main}

-- names of two lengths are not the same
names-differ : (xs ys : List ℕ) → ¬ (length xs ≡ length ys) → same_name xs ys ≡ false
names-differ [] [] d = absurd (d refl)
names-differ [] (y ∷ ys) d = refl
names-differ (x ∷ xs) [] d = refl
names-differ (x ∷ xs) (y ∷ ys) d = ap (λ (b : Bool). eqb x y && b) (names-differ xs ys (λ e. d (ap suc e))) ∙ none (eqb x y)
  where
    none : (b : Bool) → (b && false) ≡ false
    none true = refl
    none false = refl

abbrev main_bytes : List ℕ
main_bytes = 109 ∷ 97 ∷ 105 ∷ 110 ∷ []

main_is : main_name ≡ main_bytes
unfolding main_name
main_is = refl

and_true : (b : Bool) → (b && true) ≡ b
and_true true = refl
and_true false = refl

-- four bytes
four_same : (xs : List ℕ) → length xs ≡ 4 → same_name xs main_bytes ≡ (eqb (get_or xs 0 0) 109 && (eqb (get_or xs 1 0) 97 && (eqb (get_or xs 2 0) 105 && eqb (get_or xs 3 0) 110)))
four_same [] e = absurd (omega arith)
four_same (a ∷ []) e = absurd (omega arith)
four_same (a ∷ b ∷ []) e = absurd (omega arith)
four_same (a ∷ b ∷ c ∷ []) e = absurd (omega arith)
four_same (a ∷ b ∷ c ∷ d ∷ []) e = ap (λ (x : Bool). eqb a 109 && (eqb b 97 && (eqb c 105 && x))) (and_true (eqb d 110))
four_same (a ∷ b ∷ c ∷ d ∷ x ∷ xs) e = absurd (omega arith)

module _ (text : List ℕ) (at : ℕ) (inside : at ≤ length text) (end : ℕ) (ends : end ≡ at + run (drop at text)) where
  -- a name that is not as long
  pub main_other : ¬ (end ≡ at + 4) → false ≡ same_name (run_at text at) main_name
  main_other h = sym (ap (same_name (run_at text at)) main_is ∙ names-differ (run_at text at) main_bytes (λ e. h (omega (arith, run_long text at inside, e))))

  module _ (four : end ≡ at + 4) where
    pub main-inside : at + 4 ≤ length text
    main-inside = omega (arith, run_inside text at inside)

    byte : (i : ℕ) → i < 4 → get_or (run_at text at) i 0 ≡ get_or text (at + i) 0
    byte i h = get_or-take (run (drop at text)) (drop at text) i 0 (omega arith) ∙ get_or-drop at text i 0

    -- by its bytes
    pub main-by : (a b c d : Bool) → eqb (get_or text at 0) 109 ≡ a → eqb (get_or text (at + 1) 0) 97 ≡ b → eqb (get_or text (at + 2) 0) 105 ≡ c → eqb (get_or text (at + 3) 0) 110 ≡ d → (a && (b && (c && d))) ≡ same_name (run_at text at) main_name
    main-by a b c d e f g h =
        let z : at + 0 ≡ at = omega arith in
        let all : Bool → Bool → Bool → Bool → Bool = λ p q r s. p && (q && (r && s)) in
        sym (ap (same_name (run_at text at)) main_is
        ∙ four_same (run_at text at) (run_long text at inside ∙ omega arith)
        ∙ ap (λ (p : Bool). all p (eqb (get_or (run_at text at) 1 0) 97) (eqb (get_or (run_at text at) 2 0) 105) (eqb (get_or (run_at text at) 3 0) 110)) (ap (λ (n : ℕ). eqb n 109) (byte 0 (omega arith) ∙ ap (λ (j : ℕ). get_or text j 0) z) ∙ e)
        ∙ ap (λ (q : Bool). all a q (eqb (get_or (run_at text at) 2 0) 105) (eqb (get_or (run_at text at) 3 0) 110)) (ap (λ (n : ℕ). eqb n 97) (byte 1 (omega arith)) ∙ f)
        ∙ ap (λ (r : Bool). all a b r (eqb (get_or (run_at text at) 3 0) 110)) (ap (λ (n : ℕ). eqb n 105) (byte 2 (omega arith)) ∙ g)
        ∙ ap (all a b c) (ap (λ (n : ℕ). eqb n 110) (byte 3 (omega arith)) ∙ h))

-- a row, by its tests
pub row_by : (text : List ℕ) (r : Row) (s n t k : Bool) → r.sort ≡ s → same_name (run_at text r.name) main_name ≡ n → eqb r.types 0 ≡ t → eqb r.numbers 0 ≡ k → (not s && n && t && k) ≡ row_main text r
row_by text r s n t k e f g h =
    let all : Bool → Bool → Bool → Bool → Bool = λ a b c d. not a && b && c && d in
    sym (ap (λ (a : Bool). all a (same_name (run_at text r.name) main_name) (eqb r.types 0) (eqb r.numbers 0)) e
    ∙ ap (λ (b : Bool). all s b (eqb r.types 0) (eqb r.numbers 0)) f
    ∙ ap (λ (c : Bool). all s n c (eqb r.numbers 0)) g
    ∙ ap (all s n t) h)
