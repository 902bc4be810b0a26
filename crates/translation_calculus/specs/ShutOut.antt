-- A program that demand 2 shuts out (document 01, "How tight the contracts are": "Demand 2 shuts out all four"). Assumes nothing.
use Rattle.std.specs.Prelude.{List, ℕ}
use Rattle.calculus.specs.Translate.{Wish}
use Rattle.calculus.specs.Useless.{Program}
use Rattle.translation_calculus.specs.Demands.{Demand2}

-- on some input, what it leaves does not meet demand 2
pub record ShutOut (program : Program) : Type 0 where
  pub wish : Wish
  pub sheet : List ℕ
  pub out : List ℕ
  pub work : List ℕ
  pub shut : Demand2 wish sheet out work (program wish sheet out work) → ⊥
