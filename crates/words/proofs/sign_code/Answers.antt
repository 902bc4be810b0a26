-- `words::sign_code` meets its contract: each byte that it names by computation. Assumes nothing.
use Prim.Native.Nat.{ℕ, ◌<◌}
use mathlib.Core.Path.{◌≡◌, refl, sym, subst}
use native.Mathlib.Omega.{arith}
use Rattle.notation_calculus.specs.Words.{signs}
use Rattle.words.specs.Tables.{row_of}
use Rattle.words.specs.Classes.{ClassIs, signed, SignCode}
use Rattle.words.proofs.sign_code.Goals as goal

coded : (c d k : ℕ) → c ≡ d → ClassIs d k → 1 < k → k < 64 → SignCode c k
coded c d k e is a b = record { class = λ _. subst (λ (x : ℕ). ClassIs x k) (sym e) is; word = λ _. a; sign = b }

pub returns-in-40 : goal.returns-in-40
unfolding row_of signs
returns-in-40 c = coded _ 40 11 c.in-40.is (signed (omega arith) (omega arith) (refl, refl) refl refl (λ s. refl)) (omega arith) (omega arith)

pub returns-in-41 : goal.returns-in-41
unfolding row_of signs
returns-in-41 c = coded _ 41 12 c.in-41.is (signed (omega arith) (omega arith) (refl, refl) refl refl (λ s. refl)) (omega arith) (omega arith)

pub returns-in-43 : goal.returns-in-43
unfolding row_of signs
returns-in-43 c = coded _ 43 21 c.in-43.is (signed (omega arith) (omega arith) (refl, refl) refl refl (λ s. refl)) (omega arith) (omega arith)

pub returns-in-44 : goal.returns-in-44
unfolding row_of signs
returns-in-44 c = coded _ 44 14 c.in-44.is (signed (omega arith) (omega arith) (refl, refl) refl refl (λ s. refl)) (omega arith) (omega arith)

pub returns-in-46 : goal.returns-in-46
unfolding row_of signs
returns-in-46 c = coded _ 46 16 c.in-46.is (signed (omega arith) (omega arith) (refl, refl) refl refl (λ s. refl)) (omega arith) (omega arith)
