-- The entry that the code finds is the one that Making's `lookup` finds. Assumes nothing.
use Prim.Native.Nat.{ℕ, zero, suc, ◌+◌, ◌-◌, ◌≤◌, ◌<◌}
use mathlib.Core.Path.{◌≡◌, refl, sym, ap, ◌∙◌, subst}
use mathlib.Core.Bool.{Bool, true, false, cond}
use mathlib.Core.List.{List, [], ◌∷◌}
use native.Mathlib.Omega.{arith}
use lib.Dec.{eqb}
use lib.ListN.{length, get_or, take, drop}
use lib.Seq.{drop-length}
use borrow.Author.Tests.{eqb-true}
use Rattle.notation_calculus.specs.Words.{Name, same_name, run}
use Rattle.notation_calculus.specs.Making.{Entry, lookup}
use Rattle.words.specs.Next.{run_at}
use Rattle.words.proofs.PlaceLaws.{same-plain, same_round}
use Rattle.scopes.specs.Entries.{place_in, value_at, entry_in, entries_back, named_from, first_named, last_named, last_placed}

module _ (text work : List ℕ) (at : ℕ) where
  abbrev wanted : Name
  wanted = run_at text at

  abbrev matches : ℕ → Bool
  matches e = same_name wanted (run_at text (place_in work e))

  nameless : run_at text (length text) ≡ []
  nameless = ap (λ (s : List ℕ). take (run s) s) (drop-length text)

  run-some : (s : List ℕ) → 0 < run s → same_name (take (run s) s) [] ≡ false
  run-some [] h = absurd (omega arith)
  run-some (c ∷ s) h = by (run (c ∷ s)) h
    where
      by : (n : ℕ) → 0 < n → same_name (take n (c ∷ s)) [] ≡ false
      by zero h = absurd (omega arith)
      by (suc n) h = refl

  module _ (some : 0 < run (drop at text)) where
    never : (e : ℕ) → place_in work e ≡ length text → matches e ≡ false
    never e h = ap (λ (p : ℕ). same_name wanted (run_at text p)) h ∙ ap (same_name wanted) nameless ∙ run-some (drop at text) some

    unnamed : (e : ℕ) → eqb (place_in work e) (length text) ≡ true → matches e ≡ false
    unnamed e h = never e (eqb-true _ _ h)

  module _ {A : Type 0} where
    -- ---- backwards

    -- what is found before a number, of so many entries from e on; the last has number 0
    pub record FoundLast (e n i r : ℕ) (found : ℕ → ℕ → A) (else m : A) : Type 0 where
      pub there : e < r → (r ≤ e + n) × (m ≡ found (i + (e + n - r)) (value_at work (r - 1)))
      pub none : r ≤ e → m ≡ else
      pub least : e ≤ r

    last-by : (b : Bool) (e n i earlier : ℕ) (found : ℕ → ℕ → A) (else m : A) → FoundLast e n (suc i) earlier found else m → FoundLast e (suc n) i (cond b (e + n + 1) earlier) found else (cond b (found i (value_at work (e + n))) m)
    last-by true e n i earlier found else m f =
        let z : i + (e + suc n - (e + n + 1)) ≡ i = omega arith in
        let y : e + n + 1 - 1 ≡ e + n = omega arith in
        record { there = λ h. (omega arith, ap (λ (j : ℕ). found j (value_at work (e + n))) (sym z) ∙ ap (λ (j : ℕ). found (i + (e + suc n - (e + n + 1))) (value_at work j)) (sym y)); none = λ h. absurd (omega arith); least = omega arith }
    last-by false e n i earlier found else m f = record {
      there = λ h. let t = f.there h in let z : suc i + (e + n - earlier) ≡ i + (e + suc n - earlier) = omega (arith, t.0) in (omega (arith, t.0), t.1 ∙ ap (λ (j : ℕ). found j (value_at work (earlier - 1))) z);
      none = λ h. f.none h;
      least = f.least;
    }

    -- by a name that has letters
    pub look-last : 0 < run (drop at text) → (n e i : ℕ) (found : ℕ → ℕ → A) (else : A) → FoundLast e n i (last_named text work at e n) found else (lookup wanted (entries_back text work e n) i found else)
    look-last some zero e i found else = record { there = λ h. absurd (omega arith); none = λ h. refl; least = omega arith }
    look-last some (suc n) e i found else = subst (λ (b : Bool). FoundLast e (suc n) i (last_named text work at e (suc n)) found else (cond b (found i (value_at work (e + n))) (lookup wanted (entries_back text work e n) (suc i) found else))) (sym (same-plain text at (place_in work (e + n)) some)) (last-by (matches (e + n)) e n i (last_named text work at e n) found else (lookup wanted (entries_back text work e n) (suc i) found else) (look-last some n e (suc i) found else))

    -- by the place of a parenthesis
    pub look-placed : get_or text at 0 ≡ 40 → (n e i : ℕ) (found : ℕ → ℕ → A) (else : A) → FoundLast e n i (last_placed work at e n) found else (lookup ((256 + at) ∷ []) (entries_back text work e n) i found else)
    look-placed r zero e i found else = record { there = λ h. absurd (omega arith); none = λ h. refl; least = omega arith }
    look-placed r (suc n) e i found else = subst (λ (b : Bool). FoundLast e (suc n) i (last_placed work at e (suc n)) found else (cond b (found i (value_at work (e + n))) (lookup ((256 + at) ∷ []) (entries_back text work e n) (suc i) found else))) (sym (same_round text at (place_in work (e + n)) r)) (last-by (eqb (place_in work (e + n)) at) e n i (last_placed work at e n) found else (lookup ((256 + at) ∷ []) (entries_back text work e n) (suc i) found else) (look-placed r n e (suc i) found else))

    -- ---- those that have a name

    pub record FoundNamed (e n r : ℕ) (found : ℕ → A) (else m : A) : Type 0 where
      pub there : r < e + n → (e ≤ r) × (m ≡ found (value_at work r))
      pub none : e + n ≤ r → m ≡ else
      pub most : r ≤ e + n

    -- whether an entry has a name, and whether that is the one
    named_by : (u b : Bool) → (u ≡ true → b ≡ false) → (e n later : ℕ) (found : ℕ → A) (else m : A) → FoundNamed (suc e) n later found else m → FoundNamed e (suc n) (cond b e later) found else (cond u m (cond b (found (value_at work e)) m))
    named_by true true h e n later found else m f = let z : ◌≡◌ {A = Bool} true false = h refl in let y : ◌≡◌ {A = ℕ} 0 1 = cc in absurd (omega arith)
    named_by true false h e n later found else m f = record { there = λ l. let t = f.there (omega arith) in (omega (arith, t.0), t.1); none = λ l. f.none (omega arith); most = omega (arith, f.most) }
    named_by false true h e n later found else m f = record { there = λ l. (omega arith, refl); none = λ l. absurd (omega arith); most = omega arith }
    named_by false false h e n later found else m f = record { there = λ l. let t = f.there (omega arith) in (omega (arith, t.0), t.1); none = λ l. f.none (omega arith); most = omega (arith, f.most) }

    look-cond : (u : Bool) (x : Entry) (xs : List Entry) (i : ℕ) (found : ℕ → A) (else : A) → ((i j : ℕ) → lookup wanted xs i (λ _ v. found v) else ≡ lookup wanted xs j (λ _ v. found v) else) → lookup wanted (cond u xs (x ∷ xs)) i (λ _ v. found v) else ≡ cond u (lookup wanted xs i (λ _ v. found v) else) (cond (same_name wanted x.name) (found x.value) (lookup wanted xs i (λ _ v. found v) else))
    look-cond true x xs i found else same = refl
    look-cond false x xs i found else same = ap (λ (m : A). cond (same_name wanted x.name) (found x.value) m) (same (suc i) i)

    -- the number in the list does not matter
    look-any : (xs : List Entry) (i j : ℕ) (found : ℕ → A) (else : A) → lookup wanted xs i (λ _ v. found v) else ≡ lookup wanted xs j (λ _ v. found v) else
    look-any [] i j found else = refl
    look-any (x ∷ xs) i j found else = ap (λ (m : A). cond (same_name wanted x.name) (found x.value) m) (look-any xs (suc i) (suc j) found else)

    module _ (some : 0 < run (drop at text)) where
      pub look-named : (n e i : ℕ) (found : ℕ → A) (else : A) → FoundNamed e n (first_named text work at e n) found else (lookup wanted (named_from text work e n) i (λ _ v. found v) else)
      look-named zero e i found else = record { there = λ h. absurd (omega arith); none = λ h. refl; most = omega arith }
      look-named (suc n) e i found else = subst (FoundNamed e (suc n) (first_named text work at e (suc n)) found else) (sym (look-cond (eqb (place_in work e) (length text)) (entry_in text work e) (named_from text work (suc e) n) i found else (λ a b. look-any (named_from text work (suc e) n) a b found else))) (named_by (eqb (place_in work e) (length text)) (matches e) (unnamed some e) e n (first_named text work at (suc e) n) found else (lookup wanted (named_from text work (suc e) n) i (λ _ v. found v) else) (look-named n (suc e) i found else))
