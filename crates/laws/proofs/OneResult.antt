-- What it is that a contract determines: two results that it allows for one call are equal. Assumes nothing.
use mathlib.Core.Path.{◌≡◌}
use mathlib.Core.List.{List}
use Prim.Native.Nat.{ℕ}
use contract.Lifetimes.{Lfts}
use denote.Triple.Clauses.{AtExit}
use borrow.Fn.Kind.{ParamKind, ResultKind}
use borrow.Fn.Kinds.{Out, Dens, res_t, ended_of}

module _ {n : ℕ} (ps : List (ParamKind n)) (r : ResultKind n) (Post : Out n ps r) where
  -- the result
  abbrev pub Result : Type 0
  Result = (κs : Lfts n) (a : Dens κs ps) (x y : (res_t r κs).Denot) (s t : AtExit (ended_of n ps r) κs) → Post κs a x s → Post κs a y t → x ≡ y

  -- what the function leaves of what it was lent
  abbrev pub Left : ((κs : Lfts n) → AtExit (ended_of n ps r) κs → List ℕ) → Type 0
  Left held = (κs : Lfts n) (a : Dens κs ps) (x y : (res_t r κs).Denot) (s t : AtExit (ended_of n ps r) κs) → Post κs a x s → Post κs a y t → held κs s ≡ held κs t

  -- the result, and what it leaves
  abbrev pub Results : ((κs : Lfts n) → AtExit (ended_of n ps r) κs → List ℕ) → Type 0
  Results held =
      (κs : Lfts n) (a : Dens κs ps) (x y : (res_t r κs).Denot) (s t : AtExit (ended_of n ps r) κs) → Post κs a x s → Post κs a y t
      → (x ≡ y) × (held κs s ≡ held κs t)
