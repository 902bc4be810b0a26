-- What the functions answer that make the nodes of each form: in each record, whatever state and terms the memory held, the answer is that
-- of the definition. Assumes nothing.
use Rattle.std.specs.Prelude.{ℕ, ◌+◌, ◌*◌, ◌<◌, ◌≡◌, cond, List, [], Result, eqb, length, get_or}
use Rattle.answers.specs.declared.Refusal.{Refusal}
use Rattle.calculus.specs.Answer.{◌>>=◌}
use Rattle.calculus.specs.Types.{rec02, rec_at}
use Rattle.calculus.specs.Terms.{Edition, is_second, app, lapp, proj}
use Rattle.calculus.specs.Terms as Terms
use Rattle.notation_calculus.specs.Trees.{Bound}
use Rattle.notation_calculus.specs.Making.{State, shares, listed, arrow_of, Made, node, over, variable, part_type, part_of, function_of, functions_of, name_of, rest, half_of, pair_of, applied}
use Rattle.making_memory.specs.Map.{scope_at, second_at_lem}
use Rattle.made_types.specs.Held.{HoldsState, TypesOnly}
use Rattle.made_types.specs.Listing.{FoundIn, SmallType}
use Rattle.made_nodes.specs.Held.{TermHeld, MadeIn, SmallMade, MadeOnly}
use Rattle.made_nodes.specs.declared.Sub.{Sub}

-- the memory says which edition the text is of
abbrev pub EditionIn : List ℕ → Edition → Type 0
EditionIn w E = eqb (get_or w second_at_lem 0) 1 ≡ is_second E

-- the names stand in the scope from an entry on, the first the outermost
abbrev pub NamesIn : List ℕ → ℕ → List Bound → Type 0
NamesIn w from xs = (i : ℕ) → i < length xs → get_or w (scope_at + 2 * (from + i)) 0 ≡ (get_or xs i rest).place

-- ---- types

pub record ArrowSays (w : List ℕ) (t to place : ℕ) (x : Result ℕ Refusal) (w' : List ℕ) : Type 0 where
  pub only : TypesOnly w w'
  pub small : SmallType x
  pub says : (σ : State) → HoldsState w σ → t < length σ.table → to < length σ.table → FoundIn w' x (listed σ (arrow_of σ.table t to) place)

pub record ProductSays (w : List ℕ) (a b place : ℕ) (x : Result ℕ Refusal) (w' : List ℕ) : Type 0 where
  pub only : TypesOnly w w'
  pub small : SmallType x
  pub says : (σ : State) → HoldsState w σ → a < length σ.table → b < length σ.table → FoundIn w' x (listed σ (rec02 (half_of σ.table a) (half_of σ.table b)) place)

-- the type of a part of two inputs, in an edition
pub record GateSays (E : Edition) (w : List ℕ) (place : ℕ) (x : Result ℕ Refusal) (w' : List ℕ) : Type 0 where
  pub only : TypesOnly w w'
  pub small : SmallType x
  pub says : (σ : State) → HoldsState w σ → FoundIn w' x (part_type E 2 σ place)

pub record PartTypeSays (w : List ℕ) (inputs place : ℕ) (x : Result ℕ Refusal) (w' : List ℕ) : Type 0 where
  pub only : TypesOnly w w'
  pub small : SmallType x
  pub says : (E : Edition) (σ : State) → EditionIn w E → HoldsState w σ → FoundIn w' x (part_type E inputs σ place)

-- ---- leaves

pub record VariableSays (w : List ℕ) (number ty place : ℕ) (r : Result Sub Refusal) (w' : List ℕ) : Type 0 where
  pub only : MadeOnly w w'
  pub small : SmallMade r
  pub says : (σ : State) → HoldsState w σ → ty < length σ.table → MadeIn w' r (node place (variable σ.table number ty) ty 0 [] σ)

pub record PartSays (w : List ℕ) (number place : ℕ) (r : Result Sub Refusal) (w' : List ℕ) : Type 0 where
  pub only : MadeOnly w w'
  pub small : SmallMade r
  pub says : (E : Edition) (σ : State) → EditionIn w E → HoldsState w σ → MadeIn w' r (part_of E σ place number)

-- ---- binders

pub record FunctionSays (w : List ℕ) (place t : ℕ) (e : Sub) (r : Result Sub Refusal) (w' : List ℕ) : Type 0 where
  pub only : MadeOnly w w'
  pub small : SmallMade r
  pub says : (x : Bound) (m : Made) → x.place ≡ place → HoldsState w m.state → TermHeld w e m → t < length m.state.table → MadeIn w' r (function_of x t m)

pub record FunctionsSay (w : List ℕ) (from count t : ℕ) (e : Sub) (r : Result Sub Refusal) (w' : List ℕ) : Type 0 where
  pub only : MadeOnly w w'
  pub small : SmallMade r
  pub says : (xs : List Bound) (m : Made) → length xs ≡ count → NamesIn w from xs → HoldsState w m.state → TermHeld w e m → t < length m.state.table → MadeIn w' r (functions_of xs t m)

pub record FixSays (w : List ℕ) (place t : ℕ) (e : Sub) (r : Result Sub Refusal) (w' : List ℕ) : Type 0 where
  pub only : MadeOnly w w'
  pub small : SmallMade r
  pub says : (m : Made) → HoldsState w m.state → TermHeld w e m → t < length m.state.table → MadeIn w' r (node place (Terms.fix t m.term) t m.deep m.places m.state)

-- a name for a value: a function applied, or what the edition has
pub record NameAppliedSays (w : List ℕ) (place : ℕ) (v e : Sub) (r : Result Sub Refusal) (w' : List ℕ) : Type 0 where
  pub only : MadeOnly w w'
  pub small : SmallMade r
  pub says :
      (x : Bound) (n m : Made) → x.place ≡ place → HoldsState w m.state → TermHeld w v n → TermHeld w e m
      → MadeIn w' r (function_of x n.type m >>= λ f. over x.place (cond (shares m.state.table n.type) app lapp) m.type f n f.state)

pub record NamingSays (w : List ℕ) (place : ℕ) (v e : Sub) (r : Result Sub Refusal) (w' : List ℕ) : Type 0 where
  pub only : MadeOnly w w'
  pub small : SmallMade r
  pub says : (E : Edition) (x : Bound) (n m : Made) → EditionIn w E → x.place ≡ place → HoldsState w m.state → TermHeld w v n → TermHeld w e m → MadeIn w' r (name_of E x n m)

pub record ProjectionSays (w : List ℕ) (place : ℕ) (v e : Sub) (r : Result Sub Refusal) (w' : List ℕ) : Type 0 where
  pub only : MadeOnly w w'
  pub small : SmallMade r
  pub says : (n m : Made) → HoldsState w m.state → TermHeld w v n → TermHeld w e m → MadeIn w' r (over place proj m.type n m m.state)

-- ---- pairs and applications

pub record PairSays (w : List ℕ) (place : ℕ) (a b : Sub) (r : Result Sub Refusal) (w' : List ℕ) : Type 0 where
  pub only : MadeOnly w w'
  pub small : SmallMade r
  pub says : (n m : Made) → HoldsState w m.state → TermHeld w a n → TermHeld w b m → MadeIn w' r (pair_of place n m)

pub record AppliedSays (w : List ℕ) (place : ℕ) (f a : Sub) (r : Result Sub Refusal) (w' : List ℕ) : Type 0 where
  pub only : MadeOnly w w'
  pub says : (n m : Made) → HoldsState w m.state → TermHeld w f n → TermHeld w a m → MadeIn w' r (applied place (rec_at m.state.table n.type) n m)
