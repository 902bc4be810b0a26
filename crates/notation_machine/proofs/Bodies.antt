-- The words of the clause that a name means read as its body. Assumes nothing.
use Prim.Native.Nat.{ℕ, zero, suc}
use mathlib.Core.Bool.{Bool, true, false, ◌&&◌, cond}
use mathlib.Core.List.{List, [], ◌∷◌}
use lib.Dec.{T, eqb}
use lib.ListN.{length, get_or, take}
use Rattle.calculus.specs.Answer.{good}
use Rattle.laws.proofs.Tests.{and_both}
use Rattle.notation_calculus.specs.Words.{Name, Word}
use Rattle.notation_calculus.specs.Trees.{Body, of_type, of_term, Clause}
use Rattle.notation_calculus.specs.Grammar.{same_sort, is_type, namesake}
use Rattle.notation_calculus.specs.Making.{Put, put_of, meant, fit_all, clause_for}
use Rattle.notation_theorems.proofs.Answering.{On}
use Rattle.notation_machine.specs.Bodies.{number_for, words_for, ReadsAs, AllRead}

-- a body of a sort that these words read as
abbrev pub BodyFound : Bool → List Word → Body → Type 0
BodyFound true ws (of_type t) = ReadsAs ws (of_type t)
BodyFound true ws (of_term e) = ⊥
BodyFound false ws (of_type t) = ⊥
BodyFound false ws (of_term e) = ReadsAs ws (of_term e)

of_sort : (sort : Bool) (ws : List Word) (b : Body) → T (same_sort (is_type b) sort) → ReadsAs ws b → BodyFound sort ws b
of_sort true ws (of_type t) s r = r
of_sort true ws (of_term e) s r = absurd s
of_sort false ws (of_type t) s r = absurd s
of_sort false ws (of_term e) s r = r

meant_sort : (c : Clause) (sort : Bool) (n : Name) (k : ℕ) (ns : List ℕ) → T (meant c sort n k ns) → T (same_sort (is_type c.body) sort)
meant_sort c sort n k ns t = (and_both (same_sort (is_type c.body) sort) _ (and_both (namesake c sort n) _ (and_both (namesake c sort n && eqb (length c.types) k) (fit_all c.numbers ns) t).0).0).0

module _ (under : ℕ) (all : List Clause) (sort : Bool) (n : Name) (ts ns : List ℕ) (at : ℕ) where
  pub body-found : (bodies : List (List Word)) (cs : List Clause) (i : ℕ) → AllRead bodies cs → On (λ (p : Put). BodyFound sort (words_for bodies cs sort n (length ts) ns) p.body) (clause_for under all cs i sort n ts ns at)
  body-found bodies [] i r = tt
  body-found [] (c ∷ cs) i r = absurd r
  body-found (ws ∷ bodies) (c ∷ cs) i r = by (meant c sort n (length ts) ns) (λ t. t) (body-found bodies cs (suc i) r.1)
    where
      by :
          (b : Bool) → (T b → T (meant c sort n (length ts) ns))
          → On (λ (p : Put). BodyFound sort (words_for bodies cs sort n (length ts) ns) p.body) (clause_for under all cs (suc i) sort n ts ns at)
          → On (λ (p : Put). BodyFound sort (get_or (ws ∷ bodies) (cond b 0 (suc (number_for cs sort n (length ts) ns))) []) p.body) (cond b (good (put_of under all c i ts ns)) (clause_for under all cs (suc i) sort n ts ns at))
      by true t h = of_sort sort ws c.body (meant_sort c sort n (length ts) ns (t tt)) r.0
      by false t h = h

-- those that are known are among all
pub read_take : (k : ℕ) (bodies : List (List Word)) (cs : List Clause) → AllRead bodies cs → AllRead bodies (take k cs)
read_take zero bodies cs r = tt
read_take (suc k) bodies [] r = tt
read_take (suc k) [] (c ∷ cs) r = absurd r
read_take (suc k) (ws ∷ bodies) (c ∷ cs) r = (r.0, read_take k bodies cs r.1)
