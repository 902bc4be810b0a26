-- What is kept behind each word is kept behind all that the grammar reads; and what is read within some levels is read within more. Assumes
-- nothing.
use Prim.Native.Nat.{ℕ, zero, suc, ◌≤◌}
use mathlib.Core.Path.{◌≡◌, refl, sym, subst}
use mathlib.Core.Bool.{Bool, true, false, ◌||◌, cond}
use mathlib.Core.List.{List, [], ◌∷◌}
use native.Mathlib.Omega.{arith}
use lib.Dec.{eqb, leb}
use lib.ListN.{length}
use Rattle.calculus.specs.Answer.{Answer, good, refused, ◌>>=◌, need}
use Rattle.notation_calculus.specs.Words.{Sign, ends, type, edition, table, fun, fix, lets, within, arrow, linear, times, round, endRound, equals, comma, colon, dot, square, endSquare, curly, endCurly, plus, power, Token, sign, part, number, name, Word}
use Rattle.notation_calculus.specs.Trees.{Form, product, TypeTree, inside, nothing, Tree, tuple, Body, of_type, of_term, Clause}
use Rattle.notation_calculus.specs.Trees as Trees
use Rattle.notation_calculus.specs.Grammar.{most_nested, Got, got, peek, behind, place, is_token, is, expect, bound_name, name_at, value_of, list_from, read_number, number_at, numbers_at, parameters_at, types_of, arguments_at, ones_at, type_atom_of, side_at, product_at, arrow_at, type_at, begins_atom, trees_from, read_atom, atoms_from, spine_at, names_from, Lists, item_at, lists_at, apart_tree, binds_from, function_tree, bound_body, let_body, let_at, term_by, term_at, clause_at, type_body, term_body, edition_at}
use Rattle.calculus.specs.Record.{All}
use Rattle.notation_theorems.proofs.Answering.{On, on_step, on_any, on_either}
use Rattle.laws.proofs.Tests.{on_cond}
use Rattle.notation_machine.specs.Lists.{behind_lists, head_at}
use Rattle.notation_machine.specs.Bodies.{body_from, bodies_from, bodies_of}
use Rattle.notation_machine.proofs.ReadLaws.{on_expect}

module _ (P : List Word → Type 0) (next : (ws : List Word) → P ws → P (behind ws)) where
  abbrev After : {A : Type 0} → Got A → Type 0
  After g = P g.rest

  abbrev Keeps : {A : Type 0} → (List Word → Answer (Got A)) → Type 0
  Keeps read = (ws : List Word) → P ws → On After (read ws)

  name-keeps : Keeps name_at
  name-keeps ws h = on_any After (bound_name (peek ws).token (place ws)) (λ n. got n (behind ws)) λ n. next ws h

  list-keeps : {A : Type 0} (read : List Word → Answer (Got A)) → Keeps read → (rounds : ℕ) → Keeps (list_from read rounds)
  list-keeps read r zero ws h = tt
  list-keeps read r (suc rounds) ws h = on_step After After (read ws) _ (r ws h) λ x g. on_either After (is comma x.rest) _ _ (on_step After After (list_from read rounds (behind x.rest)) _ (list-keeps read r rounds (behind x.rest) (next x.rest g)) λ xs k. k) g

  number-keeps : (k : Token) (ws : List Word) → P ws → On After (read_number k ws)
  number-keeps (sign t) ws h = tt
  number-keeps (part p) ws h = tt
  number-keeps (number n) ws h = next ws h
  number-keeps (name n) ws h = on_either After (is plus (behind ws)) _ _ (on_any After (value_of (peek (behind (behind ws))).token (place (behind (behind ws)))) _ λ k. next (behind (behind ws)) (next (behind ws) (next ws h))) (next ws h)

  -- behind a closing sign
  closed-keeps : {A B : Type 0} (m : Answer (Got A)) (s : Sign) (build : A → B) → On After m → On After (m >>= λ x. expect s x.rest >>= λ ws. got (build x.value) ws)
  closed-keeps m s build h = on_step After After m _ h λ x g. on_expect After s x.rest (λ ws. got (build x.value) ws) (next x.rest g)

  numbers_keep : Keeps numbers_at
  numbers_keep ws h = on_either After (is curly ws) _ _ (closed-keeps (list_from number_at (length ws) (behind ws)) endCurly (λ ns. ns) (list-keeps number_at (λ us i. number-keeps (peek us).token us i) (length ws) (behind ws) (next ws h))) h

  arguments-keep : (read : List Word → Answer (Got TypeTree)) → Keeps read → Keeps (arguments_at read)
  arguments-keep read r ws h = on_either After (is square ws) _ _ (closed-keeps (list_from read (length ws) (behind ws)) endSquare types_of (list-keeps read r (length ws) (behind ws) (next ws h))) h

  -- ---- types

  ones_keep : Keeps ones_at
  ones_keep ws h = on_either After (is power ws) _ _ (on_step After After (number_at (behind ws)) _ (number-keeps (peek (behind ws)).token (behind ws) (next ws h)) λ k i. i) h

  type-atom-keeps : (read : List Word → Answer (Got TypeTree)) → Keeps read → (k : Token) (ws : List Word) → P ws → On After (type_atom_of read k ws)
  type-atom-keeps read r (sign t) ws h = on_any After (need (is_token round (sign t)) 32 (place ws)) _ λ _. closed-keeps (read (behind ws)) endRound inside (r (behind ws) (next ws h))
  type-atom-keeps read r (part p) ws h = tt
  type-atom-keeps read r (number n) ws h = on_any After (need (eqb n 1) 32 (place ws)) _ λ _. ones_keep (behind ws) (next ws h)
  type-atom-keeps read r (name n) ws h = on_step After After (arguments_at read (behind ws)) _ (arguments-keep read r (behind ws) (next ws h)) λ ts g. on_step After After (numbers_at ts.rest) _ (numbers_keep ts.rest g) λ ks i. i

  side-keeps : (read : List Word → Answer (Got TypeTree)) → Keeps read → (f : Form) → Keeps (side_at read f)
  side-keeps read r f ws h = on_step After After (read (behind ws)) _ (r (behind ws) (next ws h)) λ t g. g

  type-keeps : (m : ℕ) (tight : Bool) → Keeps (type_at m tight)
  type-keeps zero tight ws h = tt
  type-keeps (suc m) tight ws h =
      on_step After After (type_atom_of (λ us. type_at m false us) (peek ws).token ws) _ (type-atom-keeps (λ us. type_at m false us) (type-keeps m false) (peek ws).token ws h) λ a f.
      on_step After After (product_at (λ us. type_at m true us) a.rest) _ (on_either After (is times a.rest) _ _ (side-keeps (λ us. type_at m true us) (type-keeps m true) product a.rest f) f) λ b g.
      on_step After After (cond tight (got nothing b.rest) (arrow_at (λ us. type_at m false us) b.rest)) _ (on_either After tight (got nothing b.rest) (arrow_at (λ us. type_at m false us) b.rest) g (on_either After (is arrow b.rest) _ _ (side-keeps (λ us. type_at m false us) (type-keeps m false) Trees.arrow b.rest g) (on_either After (is linear b.rest) _ _ (side-keeps (λ us. type_at m false us) (type-keeps m false) Trees.linear b.rest g) g))) λ c i. i

  -- ---- terms

  names-keep : (rounds : ℕ) → Keeps (names_from rounds)
  names-keep zero ws h = tt
  names-keep (suc rounds) ws h = on_step After After (name_at ws) _ (name-keeps ws h) λ x g. on_either After (is colon x.rest) _ _ g (on_step After After (names_from rounds x.rest) _ (names-keep rounds x.rest g) λ xs i. i)

  lists-behind : (deep : ℕ) (ws : List Word) → P ws → P (behind_lists deep ws)
  lists-behind deep [] h = h
  lists-behind zero (w ∷ ws) h = h
  lists-behind (suc deep) (w ∷ ws) h = on_cond P (is ends (w ∷ [])) (w ∷ ws) _ (λ _. h) (on_cond P (is round (w ∷ [])) (behind_lists (suc (suc deep)) ws) _ (λ _. lists-behind (suc (suc deep)) ws (next (w ∷ ws) h)) (on_cond P (is endRound (w ∷ [])) (behind_lists deep ws) (behind_lists (suc deep) ws) (λ _. lists-behind deep ws (next (w ∷ ws) h)) (lists-behind (suc deep) ws (next (w ∷ ws) h))))

  head-keeps : Keeps head_at
  head-keeps ws h = on_either After (is round ws) _ _ (lists-behind 1 (behind ws) (next ws h)) (name-keeps ws h)

  pub heads-keep : (rounds : ℕ) → Keeps (list_from head_at rounds)
  heads-keep rounds = list-keeps head_at head-keeps rounds

  item-keeps : (read : List Word → Answer (Got Lists)) → Keeps read → Keeps (item_at read)
  item-keeps read r ws h = on_either After (is round ws) _ _ (on_step After After (read ws) _ (r ws h) λ ls g. g) (on_step After After (name_at ws) _ (name-keeps ws h) λ x g. g)

  lists-keep : (m : ℕ) → Keeps (lists_at m)
  lists-keep zero ws h = tt
  lists-keep (suc m) ws h = on_step After After (list_from (item_at (λ us. lists_at m us)) (length ws) (behind ws)) _ (list-keeps (item_at (λ us. lists_at m us)) (item-keeps (λ us. lists_at m us) (lists-keep m)) (length ws) (behind ws) (next ws h)) λ xs g. on_any After (need (leb 2 (length xs.value)) 32 (place xs.rest)) _ λ _. on_expect After endRound xs.rest _ (next xs.rest g)

  binds-keep : (read : List Word → Answer (Got Lists)) → Keeps read → (rounds : ℕ) → Keeps (binds_from read rounds)
  binds-keep read r rounds ws h = on_either After (is round ws) _ _ (on_step After After (read ws) _ (r ws h) λ ls g. g) (on_step After After (names_from rounds ws) _ (names-keep rounds ws h) λ xs g. g)

  module _ (read : List Word → Answer (Got Tree)) (r : Keeps read) (readType : List Word → Answer (Got TypeTree)) (rt : Keeps readType) where
    trees-keep : (rounds : ℕ) → Keeps (trees_from read rounds)
    trees-keep zero ws h = h
    trees-keep (suc rounds) ws h = on_either After (is comma ws) _ _ (on_step After After (read (behind ws)) _ (r (behind ws) (next ws h)) λ e g. on_step After After (trees_from read rounds e.rest) _ (trees-keep rounds e.rest g) λ es i. i) h

    -- an atom is one word at least
    atom-keeps : (k : Token) (ws : List Word) → P (behind ws) → On After (read_atom read readType k ws)
    atom-keeps (sign t) ws h = on_any After (need (is_token round (sign t)) 32 (place ws)) _ λ _. on_step After After (read (behind ws)) _ (r (behind ws) h) λ e g. closed-keeps (trees_from read (length ws) e.rest) endRound (tuple e.value) (trees-keep (length ws) e.rest g)
    atom-keeps (part p) ws h = h
    atom-keeps (number n) ws h = tt
    atom-keeps (name n) ws h = on_step After After (arguments_at readType (behind ws)) _ (arguments-keep readType rt (behind ws) h) λ ts g. on_step After After (numbers_at ts.rest) _ (numbers_keep ts.rest g) λ ks i. i

    atoms-keep : (rounds : ℕ) → Keeps (atoms_from read readType rounds)
    atoms-keep zero ws h = h
    atoms-keep (suc rounds) ws h = on_either After (begins_atom ws) _ _ (on_step After After (read_atom read readType (peek ws).token ws) _ (atom-keeps (peek ws).token ws (next ws h)) λ a g. on_step After After (atoms_from read readType rounds a.rest) _ (atoms-keep rounds a.rest g) λ es i. i) h

    bound-keeps : (build : TypeTree → Tree → Tree) → Keeps (bound_body read readType build)
    bound-keeps build ws h = on_expect After colon ws _ (on_step After After (readType (behind ws)) _ (rt (behind ws) (next ws h)) λ t g. on_expect After dot t.rest _ (on_step After After (read (behind t.rest)) _ (r (behind t.rest) (next t.rest g)) λ e i. i))

    let-body-keeps : (build : Tree → Tree → Tree) → Keeps (let_body read build)
    let-body-keeps build ws h = on_expect After equals ws _ (on_step After After (read (behind ws)) _ (r (behind ws) (next ws h)) λ v g. on_expect After within v.rest _ (on_step After After (read (behind v.rest)) _ (r (behind v.rest) (next v.rest g)) λ e i. i))

    let-keeps : (readLists : List Word → Answer (Got Lists)) → Keeps readLists → (at : ℕ) → Keeps (let_at read readLists at)
    let-keeps readLists rl at ws h = on_either After (is round ws) _ _ (on_step After After (readLists ws) _ (rl ws h) λ ls g. let-body-keeps (apart_tree at ls.value) ls.rest g) (on_step After After (name_at ws) _ (name-keeps ws h) λ x g. let-body-keeps (Trees.name at x.value) x.rest g)

    spine-keeps : Keeps (spine_at read readType)
    spine-keeps ws h = on_step After After (read_atom read readType (peek ws).token ws) _ (atom-keeps (peek ws).token ws (next ws h)) λ a g. on_step After After (atoms_from read readType (length ws) a.rest) _ (atoms-keep (length ws) a.rest g) λ es i. i

    term-by-keeps : (readLists : List Word → Answer (Got Lists)) → Keeps readLists → Keeps (term_by read readType readLists)
    term-by-keeps readLists rl ws h = on_either After (is fun ws) _ _ (on_step After After (binds_from readLists (length ws) (behind ws)) _ (binds-keep readLists rl (length ws) (behind ws) (next ws h)) λ xs g. bound-keeps (function_tree (place ws) xs.value) xs.rest g) (on_either After (is fix ws) _ _ (on_step After After (name_at (behind ws)) _ (name-keeps (behind ws) (next ws h)) λ x g. bound-keeps (Trees.fix (place ws) x.value) x.rest g) (on_either After (is lets ws) _ _ (let-keeps readLists rl (place ws) (behind ws) (next ws h)) (spine-keeps ws h)))

  term-keeps : (m : ℕ) → Keeps (term_at m)
  term-keeps zero ws h = tt
  term-keeps (suc m) ws h = term-by-keeps (λ us. term_at m us) (term-keeps m) (λ us. type_at m false us) (type-keeps m false) (λ us. lists_at (suc m) us) (lists-keep (suc m)) ws h

  -- ---- clauses

  parameters-keep : Keeps parameters_at
  parameters-keep ws h = on_either After (is square ws) _ _ (closed-keeps (list_from name_at (length ws) (behind ws)) endSquare (λ ns. ns) (list-keeps name_at name-keeps (length ws) (behind ws) (next ws h))) h

  body-from-keeps : (ws : List Word) → P ws → On P (body_from ws)
  body-from-keeps ws h = on_step After P (name_at ws) _ (name-keeps ws h) λ x g. on_step After P (parameters_at x.rest) _ (parameters-keep x.rest g) λ ts i. on_step After P (numbers_at ts.rest) _ (numbers_keep ts.rest i) λ ks j. on_any P (need (is equals ks.rest) 32 (place ks.rest)) (λ _. good (behind ks.rest)) λ _. next ks.rest j

  clause-keeps : (read : List Word → Answer (Got Body)) → Keeps read → Keeps (clause_at read)
  clause-keeps read r ws h = on_step After After (name_at ws) _ (name-keeps ws h) λ x g. on_step After After (parameters_at x.rest) _ (parameters-keep x.rest g) λ ts i. on_step After After (numbers_at ts.rest) _ (numbers_keep ts.rest i) λ ks j. on_expect After equals ks.rest _ (on_step After After (read (behind ks.rest)) _ (r (behind ks.rest) (next ks.rest j)) λ b k. k)

  type-body-keeps : Keeps type_body
  type-body-keeps ws h = on_step (After {A = TypeTree}) (After {A = Body}) (type_at most_nested false ws) (λ t. got (of_type t.value) t.rest) (type-keeps most_nested false ws h) λ t g. g

  term-body-keeps : Keeps term_body
  term-body-keeps ws h = on_step (After {A = Tree}) (After {A = Body}) (term_at most_nested ws) (λ e. got (of_term e.value) e.rest) (term-keeps most_nested ws h) λ e g. g

  edition-keeps : Keeps edition_at
  edition-keeps ws h = on_either After (is edition ws) _ _ (on_any After (value_of (peek (behind ws)).token (place (behind ws))) _ λ k. on_any After (need (eqb k 1 || eqb k 2) 32 (place (behind ws))) _ λ _. next (behind ws) (next ws h)) h

  -- the words of each body
  abbrev Bodies : List (List Word) → Type 0
  Bodies bodies = All P bodies

  bodies-keep : (rounds : ℕ) (ws : List Word) → P ws → On Bodies (bodies_from rounds ws)
  bodies-keep zero ws h = tt
  bodies-keep (suc rounds) ws h =
      on_either Bodies (is ends ws) (good []) (cond (is table ws) lines clauses) tt (on_either Bodies (is table ws) lines clauses (on_step (After {A = List TypeTree}) Bodies (list_from (λ us. type_at most_nested false us) (length ws) (behind ws)) (λ ts. bodies_from rounds ts.rest) (list-keeps (λ us. type_at most_nested false us) (type-keeps most_nested false) (length ws) (behind ws) (next ws h)) λ ts g. bodies-keep rounds ts.rest g) (
      on_step P Bodies (cond (is type ws) (body_from (behind ws)) (body_from ws)) (λ us. cond (is type ws) (clause_at type_body (behind ws)) (clause_at term_body ws) >>= λ c. bodies_from rounds c.rest >>= λ bodies. good (us ∷ bodies)) (on_either P (is type ws) (body_from (behind ws)) (body_from ws) (body-from-keeps (behind ws) (next ws h)) (body-from-keeps ws h)) λ us k.
      on_step (After {A = Clause}) Bodies (cond (is type ws) (clause_at type_body (behind ws)) (clause_at term_body ws)) (λ c. bodies_from rounds c.rest >>= λ bodies. good (us ∷ bodies)) (on_either (After {A = Clause}) (is type ws) (clause_at type_body (behind ws)) (clause_at term_body ws) (clause-keeps type_body type-body-keeps (behind ws) (next ws h)) (clause-keeps term_body term-body-keeps ws h)) λ c g.
      on_step Bodies Bodies (bodies_from rounds c.rest) (λ bodies. good (us ∷ bodies)) (bodies-keep rounds c.rest g) λ bodies i. (k, i)))
    where
      lines : Answer (List (List Word))
      lines = list_from (λ us. type_at most_nested false us) (length ws) (behind ws) >>= λ ts. bodies_from rounds ts.rest

      clauses : Answer (List (List Word))
      clauses = cond (is type ws) (body_from (behind ws)) (body_from ws) >>= λ us. cond (is type ws) (clause_at type_body (behind ws)) (clause_at term_body ws) >>= λ c. bodies_from rounds c.rest >>= λ bodies. good (us ∷ bodies)

  pub bodies_of_keep : (ws : List Word) → P ws → On Bodies (bodies_of ws)
  unfolding bodies_of
  bodies_of_keep ws h = on_step After Bodies (edition_at ws) (λ E. bodies_from (length ws) E.rest) (edition-keeps ws h) λ E g. bodies-keep (length ws) E.rest g

-- ---- how many words are left

abbrev pub Left : {A : Type 0} → ℕ → Got A → Type 0
Left n g = length g.rest ≤ n

pub behind_fewer : (n : ℕ) (ws : List Word) → length ws ≤ n → length (behind ws) ≤ n
behind_fewer n [] h = h
behind_fewer n (w ∷ ws) h = omega arith

pub behind_one : (n : ℕ) (ws : List Word) → length ws ≤ suc n → length (behind ws) ≤ n
behind_one n [] h = omega arith
behind_one n (w ∷ ws) h = omega arith

-- behind an atom there are no more words than behind its first word
pub atom_left : (n m : ℕ) (k : Token) (ws : List Word) → length (behind ws) ≤ n → On (Left n) (read_atom (λ us. term_at m us) (λ us. type_at m false us) k ws)
atom_left n m k ws h = atom-keeps (λ (us : List Word). length us ≤ n) (behind_fewer n) (λ us. term_at m us) (term-keeps (λ (us : List Word). length us ≤ n) (behind_fewer n) m) (λ us. type_at m false us) (type-keeps (λ (us : List Word). length us ≤ n) (behind_fewer n) m false) k ws h

pub number-left : (n : ℕ) (ws : List Word) → length ws ≤ n → On (Left n) (number_at ws)
number-left n ws h = number-keeps (λ (us : List Word). length us ≤ n) (behind_fewer n) (peek ws).token ws h

pub numbers-left : (n : ℕ) (ws : List Word) → length ws ≤ n → On (Left n) (numbers_at ws)
numbers-left n ws h = numbers_keep (λ (us : List Word). length us ≤ n) (behind_fewer n) ws h

pub type_left_lem : (n m : ℕ) (tight : Bool) (ws : List Word) → length ws ≤ n → On (Left n) (type_at m tight ws)
type_left_lem n m tight ws h = type-keeps (λ (us : List Word). length us ≤ n) (behind_fewer n) m tight ws h

pub arguments_left : (n m : ℕ) (ws : List Word) → length ws ≤ n → On (Left n) (arguments_at (λ us. type_at m false us) ws)
arguments_left n m ws h = arguments-keep (λ (us : List Word). length us ≤ n) (behind_fewer n) (λ us. type_at m false us) (type-keeps (λ (us : List Word). length us ≤ n) (behind_fewer n) m false) ws h

pub name-left : (n : ℕ) (ws : List Word) → length ws ≤ n → On (Left n) (name_at ws)
name-left n ws h = name-keeps (λ (us : List Word). length us ≤ n) (behind_fewer n) ws h

pub names-left : (n rounds : ℕ) (ws : List Word) → length ws ≤ n → On (Left n) (names_from rounds ws)
names-left n rounds ws h = names-keep (λ (us : List Word). length us ≤ n) (behind_fewer n) rounds ws h

-- ---- levels

-- what one reads, the other reads too
abbrev Extends : {A : Type 0} → (List Word → Answer (Got A)) → (List Word → Answer (Got A)) → Type 0
Extends {A} read read' = (ws : List Word) → On (λ (g : Got A). read' ws ≡ good g) (read ws)

ext_step : {A B : Type 0} (m m' : Answer A) (f f' : A → Answer B) → On (λ (a : A). m' ≡ good a) m → ((a : A) → On (λ (b : B). f' a ≡ good b) (f a)) → On (λ (b : B). (m' >>= f') ≡ good b) (m >>= f)
ext_step {A} {B} (good a) m' f f' h k = subst (λ (x : Answer A). On (λ (b : B). (x >>= f') ≡ good b) (f a)) (sym h) (k a)
ext_step (refused why) m' f f' h k = tt

ext_self : {A : Type 0} (m : Answer A) → On (λ (a : A). m ≡ good a) m
ext_self (good a) = refl
ext_self (refused why) = tt

ext_either : {A : Type 0} (b : Bool) (m n m' n' : Answer A) → On (λ (a : A). m' ≡ good a) m → On (λ (a : A). n' ≡ good a) n → On (λ (a : A). cond b m' n' ≡ good a) (cond b m n)
ext_either true m n m' n' h k = h
ext_either false m n m' n' h k = k

module _ (read read' : List Word → Answer (Got TypeTree)) (r : Extends read read') where
  ext-list : (rounds : ℕ) → Extends (list_from read rounds) (list_from read' rounds)
  ext-list zero ws = tt
  ext-list (suc rounds) ws = ext_step (read ws) (read' ws) _ _ (r ws) λ x. ext_either (is comma x.rest) _ _ _ _ (ext_step (list_from read rounds (behind x.rest)) (list_from read' rounds (behind x.rest)) _ _ (ext-list rounds (behind x.rest)) λ xs. refl) refl

  ext-arguments : Extends (arguments_at read) (arguments_at read')
  ext-arguments ws = ext_either (is square ws) _ _ _ _ (ext_step (list_from read (length ws) (behind ws)) (list_from read' (length ws) (behind ws)) _ _ (ext-list (length ws) (behind ws)) λ ts. ext_self (expect endSquare ts.rest >>= λ after. got (types_of ts.value) after)) refl

  ext-atom : (k : Token) (ws : List Word) → On (λ a. type_atom_of read' k ws ≡ good a) (type_atom_of read k ws)
  ext-atom (sign t) ws = ext_step (need (is_token round (sign t)) 32 (place ws)) (need (is_token round (sign t)) 32 (place ws)) _ _ (ext_self (need (is_token round (sign t)) 32 (place ws))) λ _. ext_step (read (behind ws)) (read' (behind ws)) _ _ (r (behind ws)) λ t. ext_self (expect endRound t.rest >>= λ after. got (inside t.value) after)
  ext-atom (part p) ws = tt
  ext-atom (number n) ws = ext_self (need (eqb n 1) 32 (place ws) >>= λ _. ones_at (behind ws))
  ext-atom (name n) ws = ext_step (arguments_at read (behind ws)) (arguments_at read' (behind ws)) _ _ (ext-arguments (behind ws)) λ ts. ext_self (numbers_at ts.rest >>= λ ks. got (Trees.typeNamed (place ws) n ts.value ks.value) ks.rest)

  ext-side : (f : Form) → Extends (side_at read f) (side_at read' f)
  ext-side f ws = ext_step (read (behind ws)) (read' (behind ws)) _ _ (r (behind ws)) λ t. refl

-- what is read within some levels is read within more
pub type_levels : (m k : ℕ) → m ≤ k → (tight : Bool) → Extends (type_at m tight) (type_at k tight)
type_levels zero k h tight ws = tt
type_levels (suc m) zero h tight ws = absurd (omega arith)
type_levels (suc m) (suc k) h tight ws =
    ext_step (type_atom_of (λ us. type_at m false us) (peek ws).token ws) (type_atom_of (λ us. type_at k false us) (peek ws).token ws) _ _ (ext-atom (λ us. type_at m false us) (λ us. type_at k false us) (type_levels m k (omega arith) false) (peek ws).token ws) λ a.
    ext_step (product_at (λ us. type_at m true us) a.rest) (product_at (λ us. type_at k true us) a.rest) _ _ (ext_either (is times a.rest) _ _ _ _ (ext-side (λ us. type_at m true us) (λ us. type_at k true us) (type_levels m k (omega arith) true) product a.rest) refl) λ b.
    ext_step (cond tight (got nothing b.rest) (arrow_at (λ us. type_at m false us) b.rest)) (cond tight (got nothing b.rest) (arrow_at (λ us. type_at k false us) b.rest)) _ _ (ext_either tight _ _ _ _ refl (ext_either (is arrow b.rest) _ _ _ _ (ext-side (λ us. type_at m false us) (λ us. type_at k false us) (type_levels m k (omega arith) false) Trees.arrow b.rest) (ext_either (is linear b.rest) _ _ _ _ (ext-side (λ us. type_at m false us) (λ us. type_at k false us) (type_levels m k (omega arith) false) Trees.linear b.rest) refl))) λ c. refl

-- .. and so are the arguments of a name
pub arguments_levels : (m k : ℕ) → m ≤ k → Extends (arguments_at (λ us. type_at m false us)) (arguments_at (λ us. type_at k false us))
arguments_levels m k h = ext-arguments (λ us. type_at m false us) (λ us. type_at k false us) (type_levels m k h false)
