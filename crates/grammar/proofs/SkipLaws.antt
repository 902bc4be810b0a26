-- The grammar without its trees is what the grammar leaves: each reader's rest is its step. Assumes nothing.
use Prim.Native.Nat.{ℕ, zero, suc, ◌-◌, ◌<◌}
use mathlib.Core.Path.{◌≡◌, refl, ap, ◌∙◌}
use mathlib.Core.Bool.{Bool, true, false, not, cond}
use mathlib.Core.List.{List, [], ◌∷◌}
use native.Mathlib.Omega.{arith}
use lib.Dec.{eqb, leb}
use lib.ListN.{length}
use borrow.Author.Tests.{le-leb}
use Rattle.calculus.specs.Answer.{Answer, good, refused, ◌>>=◌, refuse, need}
use Rattle.notation_calculus.specs.Words.{Sign, fun, fix, lets, within, equals, dot, comma, colon, plus, power, round, square, endSquare, curly, endCurly, endRound, times, arrow, linear, Token, sign, part, number, name, Word}
use Rattle.notation_calculus.specs.Trees.{Bound, Number, TypeTree, typed, TypeTrees, Tree, Trees}
use Rattle.notation_calculus.specs.Trees as Trees
use Rattle.notation_calculus.specs.Grammar.{Got, got, peek, behind, place, is_token, is, expect, bound_name, name_at, is_name, value_of, list_from, read_number, number_at, numbers_at, types_of, arguments_at, ones_at, type_atom_of, product_at, arrow_at, type_at, begins_atom, trees_from, read_atom, atoms_from, spine_at, names_from, nameless, Lists, group_at, item_at, bounds_of, groups_of, lists_at, binds_each, binds_pair, binds_from, function_tree, apart_tree, bound_body, let_body, let_at, term_by, term_at}
use Rattle.grammar.specs.Ends.{rest_of, type_step, term_step}
use Rattle.grammar.specs.Skips.{Step, name_end, list_more, list_end, group_end, is_number, number_by_lem, number_end, ones_end, numbers_end, use_end, type_atom_by, product_end, arrow_end, type_level, trees_end, tuple_end, atom_by, atom_end, atoms_end, spine_end, names_more_lem, names_end, bound_end, let_body_end, apart_end, one_end, lists_end, binds_end, term_level}

pub through : {A B : Type 0} (m : Answer (Got A)) (m' : Answer (List Word)) (f : Got A → Answer (Got B)) (g : Step) → rest_of m ≡ m' → ((a : Got A) → rest_of (f a) ≡ g a.rest) → rest_of (m >>= f) ≡ (m' >>= g)
through (good a) m' f g e h = h a ∙ ap (λ (k : Answer (List Word)). k >>= g) e
through (refused why) m' f g e h = ap (λ (k : Answer (List Word)). k >>= g) e

-- a step that gives no tree
pub across : {X B : Type 0} (m : Answer X) (f : X → Answer (Got B)) (g : X → Answer (List Word)) → ((x : X) → rest_of (f x) ≡ g x) → rest_of (m >>= f) ≡ (m >>= g)
across (good x) f g h = h x
across (refused why) f g h = refl

-- a tree made of what was read
pub made : {A B : Type 0} (m : Answer (Got A)) (build : A → B) → rest_of (m >>= λ x. got (build x.value) x.rest) ≡ rest_of m
made (good a) build = refl
made (refused why) build = refl

pub either : {A : Type 0} (b : Bool) (x y : Answer (Got A)) (x' y' : Answer (List Word)) → rest_of x ≡ x' → rest_of y ≡ y' → rest_of (cond b x y) ≡ cond b x' y'
either true x y x' y' e f = e
either false x y x' y' e f = f

-- ---- names and lists

name_by : (t : Token) (ws : List Word) → rest_of (bound_name t (place ws) >>= λ n. got n (behind ws)) ≡ (need (is_name t) 32 (place ws) >>= λ _. good (behind ws))
name_by (sign t) ws = refl
name_by (part p) ws = refl
name_by (number n) ws = refl
name_by (name n) ws = refl

pub name-rest : (ws : List Word) → rest_of (name_at ws) ≡ name_end ws
name-rest ws = name_by (peek ws).token ws

more-is : (read : Step) (n : ℕ) (us : List Word) → cond (is comma us) (list_end read n (behind us)) (good us) ≡ list_more read n us
more-is read zero us = refl
more-is read (suc n) us = refl

module _ {A : Type 0} (read : List Word → Answer (Got A)) (read' : Step) (same : (us : List Word) → rest_of (read us) ≡ read' us) where
  pub list_rest : (n : ℕ) (ws : List Word) → rest_of (list_from read n ws) ≡ list_end read' n ws
  list_rest zero ws = refl
  list_rest (suc n) ws = through (read ws) (read' ws) _ (λ us. list_more read' n us) (same ws) (λ x. either (is comma x.rest) _ _ (list_end read' n (behind x.rest)) (good x.rest) (made (list_from read n (behind x.rest)) (λ xs. x.value ∷ xs) ∙ list_rest n (behind x.rest)) refl ∙ more-is read' n x.rest)

  pub group_rest : (opens closes : Sign) {B : Type 0} (build : List A → B) (none : B) (ws : List Word) → rest_of (cond (is opens ws) (list_from read (length ws) (behind ws) >>= λ ns. expect closes ns.rest >>= λ after. got (build ns.value) after) (got none ws)) ≡ group_end opens closes read' ws
  group_rest opens closes build none ws = either (is opens ws) _ _ (list_end read' (length ws) (behind ws) >>= λ us. expect closes us) (good ws) (through (list_from read (length ws) (behind ws)) _ _ (λ us. expect closes us) (list_rest (length ws) (behind ws)) (λ ns. kept (expect closes ns.rest) (build ns.value))) refl
    where
      kept : {B : Type 0} (m : Answer (List Word)) (b : B) → rest_of (m >>= λ after. got b after) ≡ m
      kept (good ws) b = refl
      kept (refused why) b = refl

pub kept : {B : Type 0} (m : Answer (List Word)) (b : B) → rest_of (m >>= λ after. got b after) ≡ m
kept (good ws) b = refl
kept (refused why) b = refl

-- ---- numbers and uses

value_by_lem : (t : Token) (at : ℕ) {B : Type 0} (build : ℕ → B) (ws : List Word) → rest_of (value_of t at >>= λ k. got (build k) ws) ≡ (need (is_number t) 32 at >>= λ _. good ws)
value_by_lem (sign t) at build ws = refl
value_by_lem (part p) at build ws = refl
value_by_lem (number n) at build ws = refl
value_by_lem (name n) at build ws = refl

number_by : (t : Token) (ws : List Word) → rest_of (read_number t ws) ≡ number_by_lem t ws
number_by (sign t) ws = refl
number_by (part p) ws = refl
number_by (number n) ws = refl
number_by (name n) ws = either (is plus (behind ws)) _ _ _ _ (value_by_lem (peek (behind (behind ws))).token (place (behind (behind ws))) (λ k. record { is_open = true; name = n; plus = k; place = place ws }) (behind (behind (behind ws)))) refl

pub number-rest : (ws : List Word) → rest_of (number_at ws) ≡ number_end ws
number-rest ws = number_by (peek ws).token ws

ones_rest : (ws : List Word) → rest_of (ones_at ws) ≡ ones_end ws
ones_rest ws = either (is power ws) _ _ (number_end (behind ws)) (good ws) (made (number_at (behind ws)) (λ k. Trees.ones (place ws) k) ∙ number-rest (behind ws)) refl

pub numbers-rest : (ws : List Word) → rest_of (numbers_at ws) ≡ numbers_end ws
numbers-rest ws = group_rest number_at number_end number-rest curly endCurly (λ ns. ns) [] ws

module _ (read : List Word → Answer (Got TypeTree)) (read' : Step) (same : (us : List Word) → rest_of (read us) ≡ read' us) where
  arguments-rest : (ws : List Word) → rest_of (arguments_at read ws) ≡ group_end square endSquare read' ws
  arguments-rest ws = group_rest read read' same square endSquare types_of Trees.no_types ws

  use-rest : {B : Type 0} (build : TypeTrees → List Number → B) (ws : List Word) → rest_of (arguments_at read ws >>= λ ts. numbers_at ts.rest >>= λ ks. got (build ts.value ks.value) ks.rest) ≡ use_end read' ws
  use-rest build ws = through (arguments_at read ws) _ _ (λ us. numbers_end us) (arguments-rest ws) (λ ts. made (numbers_at ts.rest) (λ ks. build ts.value ks) ∙ numbers-rest ts.rest)

  -- ---- types

  atom-by : (t : Token) (ws : List Word) → rest_of (type_atom_of read t ws) ≡ type_atom_by read' t ws
  atom-by (sign t) ws = across (need (is_token round (sign t)) 32 (place ws)) _ (λ _. read' (behind ws) >>= λ us. expect endRound us) (λ _. through (read (behind ws)) _ _ (λ us. expect endRound us) (same (behind ws)) (λ x. kept (expect endRound x.rest) (Trees.inside x.value)))
  atom-by (part p) ws = refl
  atom-by (number n) ws = across (need (eqb n 1) 32 (place ws)) _ (λ _. ones_end (behind ws)) (λ _. ones_rest (behind ws))
  atom-by (name n) ws = use-rest (λ ts ks. Trees.typeNamed (place ws) n ts ks) (behind ws)

  product-rest : (ws : List Word) → rest_of (product_at read ws) ≡ product_end read' ws
  product-rest ws = either (is times ws) _ _ (read' (behind ws)) (good ws) (made (read (behind ws)) (λ t. Trees.side Trees.product (place ws) t) ∙ same (behind ws)) refl

  arrow-rest : (ws : List Word) → rest_of (arrow_at read ws) ≡ arrow_end read' ws
  arrow-rest ws = either (is arrow ws) _ _ (read' (behind ws)) _ (made (read (behind ws)) (λ t. Trees.side Trees.arrow (place ws) t) ∙ same (behind ws)) (either (is linear ws) _ _ (read' (behind ws)) (good ws) (made (read (behind ws)) (λ t. Trees.side Trees.linear (place ws) t) ∙ same (behind ws)) refl)

type_level_lem : (more : ℕ) (tight : Bool) (ws : List Word) → type_step (suc more) tight ws ≡ type_level (λ t us. type_step more t us) tight ws
type_level_lem more tight ws =
    through (type_atom_of (λ us. type_at more false us) (peek ws).token ws) _ _ (λ us. product_end (type_step more true) us >>= λ vs. cond tight (good vs) (arrow_end (type_step more false) vs)) (atom-by (λ us. type_at more false us) (type_step more false) (λ us. refl) (peek ws).token ws)
    (λ a. through (product_at (λ us. type_at more true us) a.rest) _ _ (λ vs. cond tight (good vs) (arrow_end (type_step more false) vs)) (product-rest (λ us. type_at more true us) (type_step more true) (λ us. refl) a.rest)
    (λ b. made (cond tight (got Trees.nothing b.rest) (arrow_at (λ us. type_at more false us) b.rest)) (λ c. typed (place ws) a.value b.value c) ∙ either tight _ _ (good b.rest) _ refl (arrow-rest (λ us. type_at more false us) (type_step more false) (λ us. refl) b.rest)))

pub type_by : (more : ℕ) (tight : Bool) (ws : List Word) → ¬ (more ≡ 0) → type_step more tight ws ≡ type_level (λ t us. type_step (more - 1) t us) tight ws
type_by zero tight ws h = absurd (h refl)
type_by (suc more) tight ws h = let e : suc more - 1 ≡ more = omega arith in rw e (type_level_lem more tight ws)

pub type_none : (more : ℕ) (tight : Bool) (ws : List Word) → more ≡ 0 → type_step more tight ws ≡ refuse 34 (place ws)
type_none zero tight ws h = refl
type_none (suc more) tight ws h = absurd (omega arith)

-- ---- terms

module _ (read : List Word → Answer (Got Tree)) (read' : Step) (same : (us : List Word) → rest_of (read us) ≡ read' us) where
  trees-rest : (n : ℕ) (ws : List Word) → rest_of (trees_from read n ws) ≡ trees_end read' n ws
  trees-rest zero ws = refl
  trees-rest (suc n) ws = either (is comma ws) _ _ (read' (behind ws) >>= λ us. trees_end read' n us) (good ws) (through (read (behind ws)) _ _ (λ us. trees_end read' n us) (same (behind ws)) (λ e. made (trees_from read n e.rest) (λ es. Trees.trees (place ws) e.value es) ∙ trees-rest n e.rest)) refl

  let-body-rest : (build : Tree → Tree → Tree) (ws : List Word) → rest_of (let_body read build ws) ≡ let_body_end read' ws
  let-body-rest build ws = across (expect equals ws) _ (λ us. read' us >>= λ vs. expect within vs >>= λ xs. read' xs) (λ us. through (read us) _ _ (λ vs. expect within vs >>= λ xs. read' xs) (same us) (λ v. across (expect within v.rest) _ read' (λ xs. made (read xs) (λ e. build v.value e) ∙ same xs)))

  module _ (readType : List Word → Answer (Got TypeTree)) (readType' : Step) (sameType : (us : List Word) → rest_of (readType us) ≡ readType' us) where
    term-atom-by : (t : Token) (ws : List Word) → rest_of (read_atom read readType t ws) ≡ atom_by read' readType' t ws
    term-atom-by (sign t) ws = across (need (is_token round (sign t)) 32 (place ws)) _ (λ _. tuple_end read' (length ws) (behind ws)) (λ _. through (read (behind ws)) _ _ (λ us. trees_end read' (length ws) us >>= λ vs. expect endRound vs) (same (behind ws)) (λ e. through (trees_from read (length ws) e.rest) _ _ (λ vs. expect endRound vs) (trees-rest (length ws) e.rest) (λ es. kept (expect endRound es.rest) (Trees.tuple e.value es.value))))
    term-atom-by (part p) ws = refl
    term-atom-by (number n) ws = refl
    term-atom-by (name n) ws = use-rest readType readType' sameType (λ ts ks. Trees.named (place ws) n ts ks) (behind ws)

    atoms-rest : (n : ℕ) (ws : List Word) → rest_of (atoms_from read readType n ws) ≡ atoms_end read' readType' n ws
    atoms-rest zero ws = refl
    atoms-rest (suc n) ws = either (begins_atom ws) _ _ (atom_end read' readType' ws >>= λ us. atoms_end read' readType' n us) (good ws) (through (read_atom read readType (peek ws).token ws) _ _ (λ us. atoms_end read' readType' n us) (term-atom-by (peek ws).token ws) (λ a. made (atoms_from read readType n a.rest) (λ as'. Trees.atoms a.value as') ∙ atoms-rest n a.rest)) refl

    spine-rest : (ws : List Word) → rest_of (spine_at read readType ws) ≡ spine_end read' readType' ws
    spine-rest ws = through (read_atom read readType (peek ws).token ws) _ _ (λ us. atoms_end read' readType' (length ws) us) (term-atom-by (peek ws).token ws) (λ f. made (atoms_from read readType (length ws) f.rest) (λ as'. Trees.spine (place ws) f.value as') ∙ atoms-rest (length ws) f.rest)

    bound-rest : (build : TypeTree → Tree → Tree) (ws : List Word) → rest_of (bound_body read readType build ws) ≡ bound_end read' readType' ws
    bound-rest build ws = across (expect colon ws) _ (λ us. readType' us >>= λ vs. expect dot vs >>= λ xs. read' xs) (λ us. through (readType us) _ _ (λ vs. expect dot vs >>= λ xs. read' xs) (sameType us) (λ t. across (expect dot t.rest) _ read' (λ xs. made (read xs) (λ e. build t.value e) ∙ same xs)))

-- ---- names that are bound

pub flip : {X : Type 0} (b : Bool) (x y : X) → cond b x y ≡ cond (not b) y x
flip true x y = refl
flip false x y = refl

names_more : (n : ℕ) (us : List Word) → cond (is colon us) (good us) (names_end n us) ≡ names_more_lem n us
names_more zero us = flip (is colon us) (good us) (refuse 32 (place us))
names_more (suc n) us = flip (is colon us) (good us) (name_end us >>= λ vs. names_more_lem n vs)

names-rest : (n : ℕ) (ws : List Word) → rest_of (names_from n ws) ≡ names_end n ws
names-rest zero ws = refl
names-rest (suc n) ws = through (name_at ws) _ _ (λ us. names_more_lem n us) (name-rest ws) (λ x. either (is colon x.rest) _ _ (good x.rest) (names_end n x.rest) refl (made (names_from n x.rest) (λ xs. x.value ∷ xs) ∙ names-rest n x.rest) ∙ names_more n x.rest)

-- a list that is read has one at least
abbrev Filled : {A : Type 0} → Answer (Got (List A)) → Type 0
Filled (good xs) = 0 < length xs.value
Filled (refused why) = Unit {0}

module _ {A : Type 0} (read : List Word → Answer (Got A)) where
  filled_more : (x : A) (m : Answer (Got (List A))) → Filled (m >>= λ xs. got (x ∷ xs.value) xs.rest)
  filled_more x (good xs) = omega arith
  filled_more x (refused why) = tt

  filled-by : (b : Bool) (x : Got A) (m : Answer (Got (List A))) → Filled (cond b (m >>= λ xs. got (x.value ∷ xs.value) xs.rest) (got (x.value ∷ []) x.rest))
  filled-by true x m = filled_more x.value m
  filled-by false x m = omega arith

  filled_on : (m : Answer (Got A)) (n : ℕ) → Filled (m >>= λ x. cond (is comma x.rest) (list_from read n (behind x.rest) >>= λ xs. got (x.value ∷ xs.value) xs.rest) (got (x.value ∷ []) x.rest))
  filled_on (good x) n = filled-by (is comma x.rest) x (list_from read n (behind x.rest))
  filled_on (refused why) n = tt

  filled : (n : ℕ) (ws : List Word) → Filled (list_from read n ws)
  filled zero ws = tt
  filled (suc n) ws = filled_on (read ws) n

-- ---- lists in parentheses

module _ {A B : Type 0} (read : List Word → Answer (Got A)) (read' : Step) (same : (us : List Word) → rest_of (read us) ≡ read' us) (build : List A → B) where
  -- what follows those in parentheses
  abbrev apart_on : Got (List A) → Answer (Got B)
  apart_on xs = need (leb 2 (length xs.value)) 32 (place xs.rest) >>= λ _. expect endRound xs.rest >>= λ after. got (build xs.value) after

  apart-list : (x : A) (l : Answer (Got (List A))) (l' : Answer (List Word)) → rest_of l ≡ l' → Filled l → rest_of ((l >>= λ xs. got (x ∷ xs.value) xs.rest) >>= apart_on) ≡ (l' >>= λ us. expect endRound us)
  apart-list x (good xs) l' e f =
      ap (λ (b : Bool). rest_of (need b 32 (place xs.rest) >>= λ _. expect endRound xs.rest >>= λ after. got (build (x ∷ xs.value)) after)) (le-leb 2 (length (x ∷ xs.value)) (omega arith))
      ∙ kept (expect endRound xs.rest) (build (x ∷ xs.value))
      ∙ ap (λ (m : Answer (List Word)). m >>= λ us. expect endRound us) e
  apart-list x (refused why) l' e f = ap (λ (m : Answer (List Word)). m >>= λ us. expect endRound us) e

  apart-comma : (b : Bool) (x : Got A) (k : ℕ) → rest_of (cond b (list_from read k (behind x.rest) >>= λ xs. got (x.value ∷ xs.value) xs.rest) (got (x.value ∷ []) x.rest) >>= apart_on) ≡ ((need b 32 (place x.rest) >>= λ _. good (behind x.rest)) >>= λ vs. list_end read' k vs >>= λ us. expect endRound us)
  apart-comma true x k = apart-list x.value (list_from read k (behind x.rest)) _ (list_rest read read' same k (behind x.rest)) (filled read k (behind x.rest))
  apart-comma false x k = refl

  apart-one : (m : Answer (Got A)) (m' : Answer (List Word)) (k : ℕ) → rest_of m ≡ m' → rest_of ((m >>= λ x. cond (is comma x.rest) (list_from read k (behind x.rest) >>= λ xs. got (x.value ∷ xs.value) xs.rest) (got (x.value ∷ []) x.rest)) >>= apart_on) ≡ (m' >>= λ us. expect comma us >>= λ vs. list_end read' k vs >>= λ xs. expect endRound xs)
  apart-one (good x) m' k e = apart-comma (is comma x.rest) x k ∙ ap (λ (m : Answer (List Word)). m >>= λ us. expect comma us >>= λ vs. list_end read' k vs >>= λ xs. expect endRound xs) e
  apart-one (refused why) m' k e = ap (λ (m : Answer (List Word)). m >>= λ us. expect comma us >>= λ vs. list_end read' k vs >>= λ xs. expect endRound xs) e

  apart-rest : (n : ℕ) (ws : List Word) → rest_of (list_from read n ws >>= apart_on) ≡ apart_end read' n ws
  apart-rest zero ws = refl
  apart-rest (suc k) ws = apart-one (read ws) (read' ws) k (same ws)

module _ (lists : List Word → Answer (Got Lists)) (lists' : Step) (same_lists : (us : List Word) → rest_of (lists us) ≡ lists' us) where
  one-rest : (ws : List Word) → rest_of (item_at lists ws) ≡ one_end lists' ws
  one-rest ws = either (is round ws) _ _ (lists' ws) (name_end ws) (made (lists ws) (λ ls. record { bound = nameless (place ws); groups = group_at (place ws) ls }) ∙ same_lists ws) (made (name_at ws) (λ x. record { bound = x; groups = [] }) ∙ name-rest ws)

  binds-rest : (n : ℕ) (ws : List Word) → rest_of (binds_from lists n ws) ≡ binds_end lists' n ws
  binds-rest n ws = either (is round ws) _ _ (lists' ws) (names_end n ws) (made (lists ws) (λ ls. binds_pair (place ws) ls) ∙ same_lists ws) (made (names_from n ws) (λ xs. binds_each xs) ∙ names-rest n ws)

lists_rest : (more : ℕ) (ws : List Word) → rest_of (lists_at more ws) ≡ lists_end more ws
lists_rest zero ws = refl
lists_rest (suc more) ws = apart-rest (item_at (λ us. lists_at more us)) (one_end (lists_end more)) (one-rest (λ us. lists_at more us) (lists_end more) (lists_rest more)) (λ xs. record { names = bounds_of xs; inner = groups_of xs }) (length ws) (behind ws)

-- ---- let

cond_then : (b : Bool) (x y : Answer (List Word)) (go : Step) → cond b (x >>= go) (y >>= go) ≡ (cond b x y >>= go)
cond_then true x y go = refl
cond_then false x y go = refl

module _ (read : List Word → Answer (Got Tree)) (read' : Step) (same : (us : List Word) → rest_of (read us) ≡ read' us) (lists : List Word → Answer (Got Lists)) (lists' : Step) (same_lists : (us : List Word) → rest_of (lists us) ≡ lists' us) where
  let-rest : (at : ℕ) (ws : List Word) → rest_of (let_at read lists at ws) ≡ (one_end lists' ws >>= λ us. let_body_end read' us)
  let-rest at ws =
      either (is round ws) _ _ (lists' ws >>= λ us. let_body_end read' us) (name_end ws >>= λ us. let_body_end read' us)
      (through (lists ws) _ _ (λ us. let_body_end read' us) (same_lists ws) (λ ls. let-body-rest read read' same (apart_tree at ls.value) ls.rest))
      (through (name_at ws) _ _ (λ us. let_body_end read' us) (name-rest ws) (λ x. let-body-rest read read' same (Trees.name at x.value) x.rest))
      ∙ cond_then (is round ws) (lists' ws) (name_end ws) (λ us. let_body_end read' us)

  module _ (readType : List Word → Answer (Got TypeTree)) (readType' : Step) (sameType : (us : List Word) → rest_of (readType us) ≡ readType' us) where
    level-rest : (ws : List Word) → rest_of (term_by read readType lists ws) ≡ term_level read' readType' lists' ws
    level-rest ws =
        either (is fun ws) _ _ (binds_end lists' (length ws) (behind ws) >>= λ us. bound_end read' readType' us) _ (through (binds_from lists (length ws) (behind ws)) _ _ (λ us. bound_end read' readType' us) (binds-rest lists lists' same_lists (length ws) (behind ws)) (λ xs. bound-rest read read' same readType readType' sameType (function_tree (place ws) xs.value) xs.rest))
        (either (is fix ws) _ _ (name_end (behind ws) >>= λ us. bound_end read' readType' us) _ (through (name_at (behind ws)) _ _ (λ us. bound_end read' readType' us) (name-rest (behind ws)) (λ x. bound-rest read read' same readType readType' sameType (Trees.fix (place ws) x.value) x.rest))
        (either (is lets ws) _ _ (one_end lists' (behind ws) >>= λ us. let_body_end read' us) _ (let-rest (place ws) (behind ws)) (spine-rest read read' same readType readType' sameType ws)))

term_level_lem : (more : ℕ) (ws : List Word) → term_step (suc more) ws ≡ term_level (term_step more) (type_step more false) (lists_end (suc more)) ws
term_level_lem more ws = level-rest (λ us. term_at more us) (term_step more) (λ us. refl) (λ us. lists_at (suc more) us) (lists_end (suc more)) (λ us. lists_rest (suc more) us) (λ us. type_at more false us) (type_step more false) (λ us. refl) ws

pub term_by_lem : (more : ℕ) (ws : List Word) → ¬ (more ≡ 0) → term_step more ws ≡ term_level (term_step (more - 1)) (type_step (more - 1) false) (lists_end more) ws
term_by_lem zero ws h = absurd (h refl)
term_by_lem (suc more) ws h = let e : suc more - 1 ≡ more = omega arith in rw e (term_level_lem more ws)

pub term_none : (more : ℕ) (ws : List Word) → more ≡ 0 → term_step more ws ≡ refuse 34 (place ws)
term_none zero ws h = refl
term_none (suc more) ws h = absurd (omega arith)
