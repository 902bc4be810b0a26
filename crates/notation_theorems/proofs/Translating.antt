-- What `translate` can still refuse a made sheet by: types that do not fit, linear variables used twice or never, and what is lent. Assumes
-- nothing.
use Prim.Native.Nat.{ℕ}
use mathlib.Core.Path.{◌≡◌, sym, subst}
use mathlib.Core.List.{List, [], ◌∷◌}
use lib.Dec.{leb}
use lib.ListN.{length}
use Rattle.calculus.specs.Answer.{Answer, good, ◌>>=◌}
use Rattle.calculus.specs.Makers.{makers_of}
use Rattle.calculus.specs.Net as Net
use Rattle.calculus.specs.Read.{Sheet, read_sheet}
use Rattle.calculus.specs.Record.{Among, here, there}
use Rattle.calculus.specs.Translate.{Wish, asked_bytes, full, answer}
use Rattle.calculus.specs.Walk.{walk}
use Rattle.notation_calculus.specs.Make.{Placed, make, bytes_of}
use Rattle.notation_theorems.specs.Refusing.{Only}
use Rattle.notation_theorems.proofs.Reading.{make-reads}
use Rattle.notation_theorems.proofs.Walking.{only_is, only_require, walk-made}

only_at : {A B : Type 0} (R : ℕ → Type 0) (m : Answer A) (a : A) (f : A → Answer B) → m ≡ good a → Only R (f a) → Only R (m >>= f)
only_at {A = A} R m a f e h = subst (λ (x : Answer A). Only R (x >>= f)) (sym e) h

full_only : (R : ℕ → Type 0) → R 12 → R 13 → R 14 → R 16 → (text : List ℕ) (p : Placed) → make text ≡ good p → Only R (full (bytes_of p.sheet))
unfolding full
full_only R r12 r13 r14 r16 text p e =
    let σ : Sheet = p.sheet in
    only_at R (read_sheet (bytes_of σ)) σ _ (make-reads text p e) (
    only_is R (walk σ.edition σ.table σ.term 0 []) _ (walk-made R r12 r13 r14 text p e) λ _ _.
    only_require R (leb (Net.make σ.table σ.term [] 0).next 8192) _ _ (λ _. r16) λ _. tt)

-- whatever a call of `translate` is lent and asked for, it refuses a made sheet by these alone
pub make_translates : (text : List ℕ) (p : Placed) → make text ≡ good p → (memory : ℕ) (w : Wish) (room : ℕ) → Only (λ (n : ℕ). Among n (1 ∷ 12 ∷ 13 ∷ 14 ∷ 16 ∷ 17 ∷ [])) (answer memory w (bytes_of p.sheet) room)
unfolding answer
make_translates text p e memory w room =
    let R : ℕ → Type 0 = λ n. Among n (1 ∷ 12 ∷ 13 ∷ 14 ∷ 16 ∷ 17 ∷ []) in
    let s : List ℕ = bytes_of p.sheet in
    only_require R (leb 32768 memory) _ _ (λ _. here) λ _.
    only_is R (full s) _ (full_only R (there here) (there (there here)) (there (there (there here))) (there (there (there (there here)))) text p e) λ m _.
    only_require R (leb (length (asked_bytes w m (makers_of s))) room) _ _ (λ _. there (there (there (there (there here))))) λ _. tt
