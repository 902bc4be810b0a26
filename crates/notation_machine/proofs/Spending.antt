-- What definitions that are put in have cost only grows: types spend, and nodes spend nothing. Assumes nothing.
use Prim.Native.Nat.{ℕ, zero, suc, ◌+◌, ◌≤◌}
use mathlib.Core.Path.{◌≡◌, refl, ◌∙◌}
use mathlib.Core.Bool.{true, ◌&&◌, cond}
use mathlib.Core.List.{List, [], ◌∷◌, ◌++◌}
use native.Mathlib.Omega.{arith}
use lib.Dec.{leb, ltb}
use lib.ListN.{length, take}
use Rattle.calculus.specs.Answer.{Answer, good, need}
use Rattle.calculus.specs.Types.{TyRec, rec01, rec02, rec03, rec04, rec_at}
use Rattle.calculus.specs.Terms.{Edition, first, second, is_second, Term, var, app, lfun, lapp, proj, con, part_at}
use Rattle.calculus.specs.Terms as Terms
use Rattle.notation_calculus.specs.Words.{Name, same_name}
use Rattle.notation_calculus.specs.Trees.{Bound, Number, TypeTree, typed, TypeAtom, one, ones, inside, typeNamed, Side, nothing, side, TypeTrees, no_types, types, Body, of_type, of_term, Text}
use Rattle.notation_calculus.specs.Making.{most_puts, State, Found, Entry, Scope, lookup, bind, form_of, listed, entries, room_for, number_of, numbers_in, clause_for, one_put, FoundAll, waiting, found_all, no_arguments, put_in, joined, ones_of, atom_type, body_type, type_of, shares, Made, node, larger, over, part_type, part_of, arrow_of, function_of, functions_of, name_of, halves_of, rest, half_of, pair_of, applied}
use Rattle.notation_theorems.proofs.Answering.{On, on_step, on_any, on_either, on_map}
use Rattle.notation_machine.specs.TermMachine.{Element, Taken, pairs_of, Apart, apart_from, projections}
use Rattle.notation_machine.proofs.TypeFalls.{listed_puts, ones_puts}

-- ---- types

-- so much was spent at least
abbrev pub Spent : ℕ → Found → Type 0
Spent n x = n ≤ x.state.puts

abbrev pub SpentAll : ℕ → FoundAll → Type 0
SpentAll n x = n ≤ x.state.puts

one_put_spends : (σ : State) (cost at : ℕ) → On (λ (τ : State). σ.puts ≤ τ.puts) (one_put σ cost at)
one_put_spends σ cost at = on_any (λ (τ : State). σ.puts ≤ τ.puts) (need (leb (σ.puts + cost) most_puts) 34 at) _ λ _. omega arith

module _ (X : Text) where
  abbrev Works : (Scope → State → TypeTree → Answer Found) → Type 0
  Works go = (S : Scope) (σ : State) (t : TypeTree) → On (Spent σ.puts) (go S σ t)

  all-spend : (go : Scope → State → TypeTree → Answer Found) → Works go → (S : Scope) (at i : ℕ) (σ : State) (ts : TypeTrees) → On (SpentAll σ.puts) (found_all go S at i σ ts)
  all-spend go w S at i σ no_types = omega arith
  all-spend go w S at i σ (types t ts) = on_any (SpentAll σ.puts) (room_for S (suc i) at) _ λ _. on_step (Spent σ.puts) (SpentAll σ.puts) (go (waiting S i) σ t) _ (w (waiting S i) σ t) λ x h. on_step (SpentAll x.state.puts) (SpentAll σ.puts) (found_all go S at (suc i) x.state ts) _ (all-spend go w S at (suc i) x.state ts) λ xs k. omega arith

  body-spends : (go : Scope → State → TypeTree → Answer Found) → Works go → (S : Scope) (σ : State) (b : Body) → On (Spent σ.puts) (body_type go S σ b)
  body-spends go w S σ (of_type t) = w S σ t
  body-spends go w S σ (of_term e) = tt

  joined-spends : (go : Scope → State → TypeTree → Answer Found) → Works go → (S : Scope) (x : Found) (p : Side) → On (Spent x.state.puts) (joined (λ τ t. go S τ t) x p)
  joined-spends go w S x nothing = omega arith
  joined-spends go w S x (side f at t) = on_step (Spent x.state.puts) (Spent x.state.puts) (go S x.state t) _ (w S x.state t) λ y h. on_map (λ (z : Found). z.state.puts ≡ y.state.puts) (Spent x.state.puts) (listed y.state (form_of f x.type y.type) at) (listed_puts y.state (form_of f x.type y.type) at) λ z e. omega arith

  put-spends : (go : Scope → State → TypeTree → Answer Found) → Works go → (S : Scope) (σ : State) (at : ℕ) (n : Name) (ts : TypeTrees) (ks : List Number) → On (Spent σ.puts) (put_in X true S go (body_type go) σ at n ts ks)
  put-spends go w S σ at n ts ks = on_step (SpentAll σ.puts) (Spent σ.puts) (found_all go S at 0 σ ts) _ (all-spend go w S at 0 σ ts) λ xs h. on_any (Spent σ.puts) (numbers_in S at (length xs.types) ks) _ λ ns. on_any (Spent σ.puts) (clause_for (entries S) X.clauses (take S.seen X.clauses) 0 true n xs.types ns at) _ λ p. on_step (λ (τ : State). xs.state.puts ≤ τ.puts) (Spent σ.puts) (one_put xs.state p.cost at) _ (one_put_spends xs.state p.cost at) λ σ₁ k. on_map (Spent σ₁.puts) (Spent σ.puts) (body_type go p.scope σ₁ p.body) (body-spends go w p.scope σ₁ p.body) λ x l. omega arith

  found-spends : (n : Name) (Γ : List Entry) (i : ℕ) (σ : State) (m : Answer Found) → On (Spent σ.puts) m → On (Spent σ.puts) (lookup n Γ i (λ i v. good (record { type = v; state = σ })) m)
  found-spends n [] i σ m h = h
  found-spends n (e ∷ es) i σ m h = on_either (Spent σ.puts) (same_name n e.name) _ _ (omega arith) (found-spends n es (suc i) σ m h)

  atom-spends : (go : Scope → State → TypeTree → Answer Found) → Works go → (S : Scope) (σ : State) (a : TypeAtom) → On (Spent σ.puts) (atom_type X S go (body_type go) σ a)
  atom-spends go w S σ one = omega arith
  atom-spends go w S σ (ones at k) = on_any (Spent σ.puts) (number_of S.numbers k) (λ n. ones_of at k.place n σ) λ n. on_map (λ (x : Found). x.state.puts ≡ σ.puts) (Spent σ.puts) (ones_of at k.place n σ) (ones_puts at k.place n σ) λ x e. omega arith
  atom-spends go w S σ (inside t) = w S σ t
  atom-spends go w S σ (typeNamed at n ts ks) = on_either (Spent σ.puts) (no_arguments ts ks) _ _ (found-spends n S.types 0 σ (put_in X true S go (body_type go) σ at n ts ks) (put-spends go w S σ at n ts ks)) (put-spends go w S σ at n ts ks)

  pub type_spends : (more : ℕ) (S : Scope) (σ : State) (t : TypeTree) → On (Spent σ.puts) (type_of X more S σ t)
  type_spends zero S σ (typed at a p q) = tt
  type_spends (suc more) S σ (typed at a p q) =
      on_step (Spent σ.puts) (Spent σ.puts) (atom_type X S (λ R τ t. type_of X more R τ t) (body_type (λ R τ t. type_of X more R τ t)) σ a) _ (atom-spends (λ R τ t. type_of X more R τ t) (type_spends more) S σ a) λ x h.
      on_step (Spent x.state.puts) (Spent σ.puts) (joined (λ τ t. type_of X more S τ t) x p) _ (joined-spends (λ R τ t. type_of X more R τ t) (type_spends more) S x p) λ y k.
      on_map (Spent y.state.puts) (Spent σ.puts) (joined (λ τ t. type_of X more S τ t) y q) (joined-spends (λ R τ t. type_of X more R τ t) (type_spends more) S y q) λ z l. omega arith

  pub types_spend : (more : ℕ) (S : Scope) (at i : ℕ) (σ : State) (ts : TypeTrees) → On (SpentAll σ.puts) (found_all (λ R τ t. type_of X more R τ t) S at i σ ts)
  types_spend more S at i σ ts = all-spend (λ R τ t. type_of X more R τ t) (type_spends more) S at i σ ts

-- ---- nodes

-- nothing was spent
abbrev pub Unspent : ℕ → Made → Type 0
Unspent n m = m.state.puts ≡ n

pub node_free : (at : ℕ) (e : Term) (t below : ℕ) (places : List ℕ) (σ : State) → On (Unspent σ.puts) (node at e t below places σ)
unfolding node
node_free at e t below places σ = on_any (Unspent σ.puts) (need (ltb σ.nodes 2048) 34 at) _ λ _. on_any (Unspent σ.puts) (need (ltb below 64) 34 at) _ λ _. refl

over_free : (at : ℕ) (build : Term → Term → Term) (t : ℕ) (a b : Made) (σ : State) → On (Unspent σ.puts) (over at build t a b σ)
over_free at build t a b σ = node_free at (build a.term b.term) t (larger a.deep b.deep) (a.places ++ b.places) σ

free_on : (m n : ℕ) (p : Answer Made) → m ≡ n → On (Unspent m) p → On (Unspent n) p
free_on m n p e o = on_map (Unspent m) (Unspent n) p o λ x h. h ∙ e

part_type_free : (E : Edition) (k : ℕ) (σ : State) (at : ℕ) → On (λ (x : Found). x.state.puts ≡ σ.puts) (part_type E k σ at)
part_type_free E zero σ at = refl
part_type_free E (suc zero) σ at = listed_puts σ (rec03 0 0) at
part_type_free first (suc (suc k)) σ at = on_step (λ (x : Found). x.state.puts ≡ σ.puts) (λ (x : Found). x.state.puts ≡ σ.puts) (listed σ (rec03 0 0) at) _ (listed_puts σ (rec03 0 0) at) λ x h. on_map (λ (y : Found). y.state.puts ≡ x.state.puts) (λ (y : Found). y.state.puts ≡ σ.puts) (listed x.state (rec03 0 x.type) at) (listed_puts x.state (rec03 0 x.type) at) λ y k. k ∙ h
part_type_free second (suc (suc k)) σ at = on_step (λ (x : Found). x.state.puts ≡ σ.puts) (λ (x : Found). x.state.puts ≡ σ.puts) (listed σ (rec02 0 0) at) _ (listed_puts σ (rec02 0 0) at) λ x h. on_map (λ (y : Found). y.state.puts ≡ x.state.puts) (λ (y : Found). y.state.puts ≡ σ.puts) (listed x.state (rec03 x.type 0) at) (listed_puts x.state (rec03 x.type 0) at) λ y k. k ∙ h

pub part_free : (E : Edition) (σ : State) (at p : ℕ) → On (Unspent σ.puts) (part_of E σ at p)
part_free E σ at p = on_step (λ (x : Found). x.state.puts ≡ σ.puts) (Unspent σ.puts) (part_type E (part_at p).inputs σ at) _ (part_type_free E (part_at p).inputs σ at) λ t h. free_on t.state.puts σ.puts (node at (con p t.type) t.type 0 [] t.state) h (node_free at (con p t.type) t.type 0 [] t.state)

function_free : (x : Bound) (t : ℕ) (e : Made) → On (Unspent e.state.puts) (function_of x t e)
function_free x t e = on_step (λ (w : Found). w.state.puts ≡ e.state.puts) (Unspent e.state.puts) (listed e.state (arrow_of e.state.table t e.type) x.place) _ (listed_puts e.state (arrow_of e.state.table t e.type) x.place) λ w h. on_map (Unspent w.state.puts) (Unspent e.state.puts) (node x.place (cond (shares e.state.table t) (Terms.fun w.type e.term) (lfun w.type e.term)) w.type e.deep e.places w.state) (node_free x.place (cond (shares e.state.table t) (Terms.fun w.type e.term) (lfun w.type e.term)) w.type e.deep e.places w.state) λ m k. k ∙ h

pub functions_free : (xs : List Bound) (t : ℕ) (e : Made) → On (Unspent e.state.puts) (functions_of xs t e)
functions_free [] t e = refl
functions_free (x ∷ xs) t e = on_step (Unspent e.state.puts) (Unspent e.state.puts) (functions_of xs t e) (λ f. function_of x t f) (functions_free xs t e) λ f h. free_on f.state.puts e.state.puts (function_of x t f) h (function_free x t f)

pub name_free : (E : Edition) (x : Bound) (v e : Made) → On (Unspent e.state.puts) (name_of E x v e)
name_free E x v e = on_either (Unspent e.state.puts) (is_second E && shares e.state.table v.type) _ _ (over_free x.place Terms.name e.type v e e.state) (on_step (Unspent e.state.puts) (Unspent e.state.puts) (function_of x v.type e) (λ f. over x.place (cond (shares e.state.table v.type) app lapp) e.type f v f.state) (function_free x v.type e) λ f h. free_on f.state.puts e.state.puts (over x.place (cond (shares e.state.table v.type) app lapp) e.type f v f.state) h (over_free x.place (cond (shares e.state.table v.type) app lapp) e.type f v f.state))

pair_free : (at : ℕ) (a b : Made) → On (Unspent b.state.puts) (pair_of at a b)
pair_free at a b = on_step (λ (t : Found). t.state.puts ≡ b.state.puts) (Unspent b.state.puts) (listed b.state (rec02 (half_of b.state.table a.type) (half_of b.state.table b.type)) at) (λ t. over at (Terms.pair t.type) t.type a b t.state) (listed_puts b.state (rec02 (half_of b.state.table a.type) (half_of b.state.table b.type)) at) λ t h. free_on t.state.puts b.state.puts (over at (Terms.pair t.type) t.type a b t.state) h (over_free at (Terms.pair t.type) t.type a b t.state)

pub pairs_free : (before : List Element) (m : Made) → On (Unspent m.state.puts) (pairs_of before m)
pairs_free [] m = refl
pairs_free (a ∷ before) m = on_step (Unspent m.state.puts) (Unspent m.state.puts) (pair_of a.comma a.made m) (λ p. pairs_of before p) (pair_free a.comma a.made m) λ p h. free_on p.state.puts m.state.puts (pairs_of before p) h (pairs_free before p)

pub applied_free : (at : ℕ) (r : TyRec) (f a : Made) → On (Unspent a.state.puts) (applied at r f a)
applied_free at rec01 f a = over_free at (cond (shares a.state.table a.type) app lapp) 0 f a a.state
applied_free at (rec02 x y) f a = over_free at (cond (shares a.state.table a.type) app lapp) 0 f a a.state
applied_free at (rec03 x y) f a = over_free at app y f a a.state
applied_free at (rec04 x y) f a = over_free at lapp y f a a.state

pub apart_free : (Γ : List Entry) (xs : List Bound) (v : Made) (ps : List Taken) → On (λ (a : Apart). a.state.puts ≡ v.state.puts) (apart_from Γ xs v ps)
apart_free Γ [] v ps = tt
apart_free Γ (x ∷ []) v ps = tt
apart_free Γ (x ∷ y ∷ []) v ps = refl
apart_free Γ (x ∷ y ∷ z ∷ zs) v ps =
    let h = halves_of (rec_at v.state.table v.type) in
    let Δ = bind rest h.right (bind x h.left Γ) in
    on_step (Unspent v.state.puts) (λ (a : Apart). a.state.puts ≡ v.state.puts) (node y.place (var 0) h.right 0 [] v.state) (λ r. apart_from Δ (y ∷ z ∷ zs) r (record { place = x.place; pair = v } ∷ ps)) (node_free y.place (var 0) h.right 0 [] v.state) λ r e. on_map (λ (a : Apart). a.state.puts ≡ r.state.puts) (λ (a : Apart). a.state.puts ≡ v.state.puts) (apart_from Δ (y ∷ z ∷ zs) r (record { place = x.place; pair = v } ∷ ps)) (apart_free Δ (y ∷ z ∷ zs) r (record { place = x.place; pair = v } ∷ ps)) λ a k. k ∙ e

pub projections_free : (ps : List Taken) (e : Made) → On (Unspent e.state.puts) (projections ps e)
projections_free [] e = refl
projections_free (p ∷ ps) e = on_step (Unspent e.state.puts) (Unspent e.state.puts) (over p.place proj e.type p.pair e e.state) (λ f. projections ps f) (over_free p.place proj e.type p.pair e e.state) λ f h. free_on f.state.puts e.state.puts (projections ps f) h (projections_free ps f)
