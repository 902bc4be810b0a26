-- `words::class` meets its contract: each byte that it names by computation. Assumes nothing.
use Prim.Native.Nat.{ℕ}
use mathlib.Core.Path.{◌≡◌, refl, sym, subst}
use mathlib.Core.Bool.{true, false}
use mathlib.Core.Logic.{◌⊎◌, inl, inr}
use native.Mathlib.Omega.{arith}
use lib.Dec.{eqb}
use Rattle.notation_calculus.specs.Words.{blank, digit, letter, signs}
use Rattle.words.specs.Tables.{row_of}
use Rattle.words.specs.Classes.{ClassIs, gapped, signed, lettered}
use Rattle.words.proofs.ClassLaws.{no_single}
use Rattle.words.proofs.class.Goals as goal

-- what holds of a byte holds where it stands
there : (c d k : ℕ) → c ≡ d → ClassIs d k → ClassIs c k
there c d k e h = subst (λ (x : ℕ). ClassIs x k) (sym e) h

-- a letter that begins a reserved word
reserves : (c d : ℕ) → blank d ≡ false → eqb d 45 ≡ false → digit d ≡ false → letter d ≡ true → c ≡ d → ClassIs c 66
reserves c d b n i l e = there c d 66 e (lettered (b, n) i l)

pub rare_class-requires : goal.rare_class-requires
rare_class-requires c =
    let r = c.in_default.in_default-own.rest in
    let n = r.0.1 in
    record { letter97 = λ e. n (inl e); letter101 = λ e. n (inr (inl e)); letter105 = λ e. n (inr (inr (inl e))); letter108 = λ e. n (inr (inr (inr (inl e)))); letter111 = λ e. n (inr (inr (inr (inr (inl e))))); letter114 = λ e. n (inr (inr (inr (inr (inr (inl e)))))); letter116 = λ e. n (inr (inr (inr (inr (inr (inr (inl e))))))); letter120 = λ e. n (inr (inr (inr (inr (inr (inr (inr (inl e)))))))); letter122 = λ e. n (inr (inr (inr (inr (inr (inr (inr (inr e)))))))); letter102 = r.1; single = no_single _ r.0.0.0.0.0.0.0.0.0.0.0.0.0.0.1 r.0.0.0.0.0.0.0.0.0.0.0.0.0.1 r.0.0.0.0.0.0.0.0.0.0.0.0.1 r.0.0.0.0.0.0.0.0.0.0.0.1 r.0.0.0.0.0.0.0.0.0.0.1 r.0.0.0.0.0.0.0.0.0.1 r.0.0.0.0.0.0.0.0.1 r.0.0.0.0.0.0.0.1 r.0.0.0.0.0.0.1 r.0.0.0.0.0.1 r.0.0.0.0.1 r.0.0.0.1 r.0.0.1 }

pub returns-in-32 : goal.returns-in-32
returns-in-32 c = there _ 32 1 c.in-32.is (gapped refl)

pub returns-in-40 : goal.returns-in-40
unfolding row_of signs
returns-in-40 c = there _ 40 11 c.in-40.is (signed (omega arith) (omega arith) (refl, refl) refl refl (λ s. refl))

pub returns-in-41 : goal.returns-in-41
unfolding row_of signs
returns-in-41 c = there _ 41 12 c.in-41.is (signed (omega arith) (omega arith) (refl, refl) refl refl (λ s. refl))

pub returns-in-42 : goal.returns-in-42
unfolding row_of signs
returns-in-42 c = there _ 42 10 c.in-42.is (signed (omega arith) (omega arith) (refl, refl) refl refl (λ s. refl))

pub returns-in-43 : goal.returns-in-43
unfolding row_of signs
returns-in-43 c = there _ 43 21 c.in-43.is (signed (omega arith) (omega arith) (refl, refl) refl refl (λ s. refl))

pub returns-in-44 : goal.returns-in-44
unfolding row_of signs
returns-in-44 c = there _ 44 14 c.in-44.is (signed (omega arith) (omega arith) (refl, refl) refl refl (λ s. refl))

pub returns-in-46 : goal.returns-in-46
unfolding row_of signs
returns-in-46 c = there _ 46 16 c.in-46.is (signed (omega arith) (omega arith) (refl, refl) refl refl (λ s. refl))

pub returns-in-58 : goal.returns-in-58
unfolding row_of signs
returns-in-58 c = there _ 58 15 c.in-58.is (signed (omega arith) (omega arith) (refl, refl) refl refl (λ s. refl))

pub returns-in-61 : goal.returns-in-61
unfolding row_of signs
returns-in-61 c = there _ 61 13 c.in-61.is (signed (omega arith) (omega arith) (refl, refl) refl refl (λ s. refl))

pub returns-in-91 : goal.returns-in-91
unfolding row_of signs
returns-in-91 c = there _ 91 17 c.in-91.is (signed (omega arith) (omega arith) (refl, refl) refl refl (λ s. refl))

pub returns-in-93 : goal.returns-in-93
unfolding row_of signs
returns-in-93 c = there _ 93 18 c.in-93.is (signed (omega arith) (omega arith) (refl, refl) refl refl (λ s. refl))

pub returns-in-94 : goal.returns-in-94
unfolding row_of signs
returns-in-94 c = there _ 94 25 c.in-94.is (signed (omega arith) (omega arith) (refl, refl) refl refl (λ s. refl))

pub returns-in-123 : goal.returns-in-123
unfolding row_of signs
returns-in-123 c = there _ 123 19 c.in-123.is (signed (omega arith) (omega arith) (refl, refl) refl refl (λ s. refl))

pub returns-in-125 : goal.returns-in-125
unfolding row_of signs
returns-in-125 c = there _ 125 20 c.in-125.is (signed (omega arith) (omega arith) (refl, refl) refl refl (λ s. refl))

pub returns-in-97 : goal.returns-in-97
returns-in-97 c = by _ c.in-97.is
  where
    by : (x : ℕ) → (x ≡ 97) ⊎ ((x ≡ 101) ⊎ ((x ≡ 105) ⊎ ((x ≡ 108) ⊎ ((x ≡ 111) ⊎ ((x ≡ 114) ⊎ ((x ≡ 116) ⊎ ((x ≡ 120) ⊎ (x ≡ 122)))))))) → ClassIs x 66
    by x (inl e) = reserves x 97 refl refl refl refl e
    by x (inr (inl e)) = reserves x 101 refl refl refl refl e
    by x (inr (inr (inl e))) = reserves x 105 refl refl refl refl e
    by x (inr (inr (inr (inl e)))) = reserves x 108 refl refl refl refl e
    by x (inr (inr (inr (inr (inl e))))) = reserves x 111 refl refl refl refl e
    by x (inr (inr (inr (inr (inr (inl e)))))) = reserves x 114 refl refl refl refl e
    by x (inr (inr (inr (inr (inr (inr (inl e))))))) = reserves x 116 refl refl refl refl e
    by x (inr (inr (inr (inr (inr (inr (inr (inl e)))))))) = reserves x 120 refl refl refl refl e
    by x (inr (inr (inr (inr (inr (inr (inr (inr e)))))))) = reserves x 122 refl refl refl refl e

pub returns-in-102 : goal.returns-in-102
returns-in-102 c = reserves _ 102 refl refl refl refl c.in-102.is
