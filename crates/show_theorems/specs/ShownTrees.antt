-- The trees of a shown sheet, whatever places its words have; and answers that are a value or say that a limit was passed. Assumes nothing.
use Rattle.std.specs.Prelude.{ℕ, suc, ◌-◌, ◌≡◌, List, [], ◌∷◌, ◌++◌, length}
use Rattle.calculus.specs.Answer.{Answer, good, refused}
use Rattle.calculus.specs.Types.{TyRec, rec01, rec02, rec03, rec04, Table, rec_at}
use Rattle.calculus.specs.Terms.{Term, var, lvar, fun, app, lfun, lapp, pair, proj, fix, con, name}
use Rattle.notation_calculus.specs.Trees.{product, arrow, linear, TypeTree, typed, one, typeNamed, nothing, side, no_types, Tree, spine, apart, named, part, tuple, noAtoms, atoms, noTrees, trees, of_type, of_term, Clause, Line, Text}
use Rattle.notation_calculus.specs.Trees as Trees
use Rattle.calculus.specs.Read.{Sheet}
use Rattle.notation_calculus.specs.Make.{main_name}
use Rattle.notation_calculus.specs.Show.{left_of}
use Rattle.show_theorems.specs.Shown.{shown_type, shown_binder}

-- a value of which P holds, or 34
abbrev pub Within : {A : Type 0} → (A → Type 0) → Answer A → Type 0
Within P (good a) = P a
Within P (refused why) = why.number ≡ 34

pub data ShownType : ℕ → TypeTree → Type 0 where
  type_shown : {t p q : ℕ} → ShownType t (typed p (typeNamed q (shown_type t) no_types []) nothing nothing)

pub data ShownRec : TyRec → TypeTree → Type 0 where
  one_shown : {p : ℕ} → ShownRec rec01 (typed p one nothing nothing)
  product_shown : {a b p q r : ℕ} {t : TypeTree} → ShownType b t → ShownRec (rec02 a b) (typed p (typeNamed q (shown_type a) no_types []) (side product r t) nothing)
  arrow_shown : {a b p q r : ℕ} {t : TypeTree} → ShownType b t → ShownRec (rec03 a b) (typed p (typeNamed q (shown_type a) no_types []) nothing (side arrow r t))
  linear_shown : {a b p q r : ℕ} {t : TypeTree} → ShownType b t → ShownRec (rec04 a b) (typed p (typeNamed q (shown_type a) no_types []) nothing (side linear r t))

-- under k binders
pub data ShownTerm (Θ : Table) : ℕ → Term → Tree → Type 0 where
  var_shown : {k i p q : ℕ} → ShownTerm Θ k (var i) (spine p (named q (shown_binder (k - suc i)) no_types []) noAtoms)
  lvar_shown : {k i p q : ℕ} → ShownTerm Θ k (lvar i) (spine p (named q (shown_binder (k - suc i)) no_types []) noAtoms)
  fun_shown : {k t p q : ℕ} {e : Term} {s : TypeTree} {b : Tree} → ShownType (left_of (rec_at Θ t)) s → ShownTerm Θ (suc k) e b → ShownTerm Θ k (fun t e) (Trees.fun p (record { name = shown_binder k; place = q } ∷ []) s b)
  lfun_shown : {k t p q : ℕ} {e : Term} {s : TypeTree} {b : Tree} → ShownType (left_of (rec_at Θ t)) s → ShownTerm Θ (suc k) e b → ShownTerm Θ k (lfun t e) (Trees.fun p (record { name = shown_binder k; place = q } ∷ []) s b)
  app_shown : {k p : ℕ} {f a : Term} {g b : Tree} → ShownTerm Θ k f g → ShownTerm Θ k a b → ShownTerm Θ k (app f a) (spine p (tuple g noTrees) (atoms (tuple b noTrees) noAtoms))
  lapp_shown : {k p : ℕ} {f a : Term} {g b : Tree} → ShownTerm Θ k f g → ShownTerm Θ k a b → ShownTerm Θ k (lapp f a) (spine p (tuple g noTrees) (atoms (tuple b noTrees) noAtoms))
  pair_shown : {k t p q : ℕ} {x y : Term} {a b : Tree} → ShownTerm Θ k x a → ShownTerm Θ k y b → ShownTerm Θ k (pair t x y) (spine p (tuple a (trees q b noTrees)) noAtoms)
  proj_shown : {k p q r : ℕ} {x e : Term} {v b : Tree} → ShownTerm Θ k x v → ShownTerm Θ (suc (suc k)) e b → ShownTerm Θ k (proj x e) (apart p (record { name = shown_binder k; place = q } ∷ record { name = shown_binder (suc k); place = r } ∷ []) v b)
  fix_shown : {k t p q : ℕ} {e : Term} {s : TypeTree} {b : Tree} → ShownType t s → ShownTerm Θ (suc k) e b → ShownTerm Θ k (fix t e) (Trees.fix p (record { name = shown_binder k; place = q }) s b)
  con_shown : {k i t p q : ℕ} → ShownTerm Θ k (con i t) (spine p (part q i) noAtoms)
  name_shown : {k p q : ℕ} {x e : Term} {v b : Tree} → ShownTerm Θ k x v → ShownTerm Θ (suc k) e b → ShownTerm Θ k (name x e) (Trees.name p (record { name = shown_binder k; place = q }) v b)

-- ---- the text

-- clause i of a shown sheet: a type without parameters
pub record TypeClause (i : ℕ) (r : TyRec) (c : Clause) : Type 0 where
  pub named : c.head.name ≡ shown_type i
  pub types : c.types ≡ []
  pub numbers : c.numbers ≡ []
  pub tree : TypeTree
  pub body : c.body ≡ of_type tree
  pub shown : ShownRec r tree

abbrev pub ShownClauses : ℕ → Table → List Clause → Type 0
ShownClauses n [] [] = Unit {0}
ShownClauses n [] (c ∷ cs) = ⊥
ShownClauses n (r ∷ Θ) [] = ⊥
ShownClauses n (r ∷ Θ) (c ∷ cs) = TypeClause n r c × ShownClauses (suc n) Θ cs

pub record MainClause (Θ : Table) (e : Term) (c : Clause) : Type 0 where
  pub named : c.head.name ≡ main_name
  pub types : c.types ≡ []
  pub numbers : c.numbers ≡ []
  pub tree : Tree
  pub body : c.body ≡ of_term tree
  pub shown : ShownTerm Θ 0 e tree

-- the line `table`, with so many clauses above it
abbrev pub ShownLines : ℕ → ℕ → Table → List Line → Type 0
ShownLines seen n [] [] = Unit {0}
ShownLines seen n [] (l ∷ ls) = ⊥
ShownLines seen n (r ∷ Θ) [] = ⊥
ShownLines seen n (r ∷ Θ) (l ∷ ls) = (l.seen ≡ seen) × ShownType n l.type × ShownLines seen (suc n) Θ ls

pub record ShownText (σ : Sheet) (X : Text) : Type 0 where
  pub edition : X.edition ≡ σ.edition
  pub types : List Clause
  pub main : Clause
  pub clauses : X.clauses ≡ types ++ (main ∷ [])
  pub typed : ShownClauses 0 σ.table types
  pub made : MainClause σ.table σ.term main
  pub lines : ShownLines (length σ.table) 0 σ.table X.lines
