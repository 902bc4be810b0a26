-- When every part of a text means something; and an answer that is a value, or says that a limit was passed (34). Assumes nothing.
use Rattle.std.specs.Prelude.{ℕ, suc, ◌≡◌, List, [], ◌∷◌, T}
use Rattle.calculus.specs.Answer.{Answer, good, refused}
use Rattle.calculus.specs.Types.{Ty}
use Rattle.calculus.specs.Record.{All}
use Rattle.notation_calculus.specs.Trees.{Body, of_type, of_term, Clause, Line, Text}
use Rattle.notation_calculus.specs.Make.{is_judged}
use Rattle.notation_calculus.specs.Means.{Full, Here, TypeIs, Is, Means}

abbrev pub Limited : {A : Type 0} → Answer A → Type 0
Limited (good a) = Unit {0}
Limited (refused why) = why.number ≡ 34

-- nothing is bound, and so many clauses are known
abbrev pub bare : ℕ → Here
bare seen = record { seen = seen; types = []; numbers = []; variables = [] }

abbrev pub LineMeans : Text → Line → Type 0
LineMeans X l = (τ : Ty) × TypeIs X (bare l.seen) l.type τ

-- the body of clause i, which has no parameters
abbrev pub BodyMeans : Text → ℕ → Body → Type 0
BodyMeans X i (of_type t) = (τ : Ty) × TypeIs X (bare i) t τ
BodyMeans X i (of_term e) = (f : Full) × (τ : Ty) × Is X (bare i) e f τ

-- each clause without parameters, from number i on
abbrev pub ClausesMean : Text → ℕ → List Clause → Type 0
ClausesMean X i [] = Unit {0}
ClausesMean X i (c ∷ cs) = (T (is_judged c) → BodyMeans X i c.body) × ClausesMean X (suc i) cs

pub record AllMeans (X : Text) : Type 0 where
  pub lines : All (LineMeans X) X.lines
  pub clauses : ClausesMean X 0 X.clauses
  pub main : (e : Full) × Means X e
