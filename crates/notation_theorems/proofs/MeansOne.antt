-- A text means one term at most. Assumes nothing.
use Prim.Native.Nat.{ℕ, suc}
use mathlib.Core.Path.{◌≡◌, refl, sym, ap, subst, ◌∙◌}
use mathlib.Core.Bool.{Bool, true, false, not}
use mathlib.Core.List.{List, ◌∷◌}
use native.Mathlib.Omega.{arith}
use lib.Dec.{T}
use lib.ListN.{length}
use Rattle.calculus.proofs.Answers.{good-inj}
use Rattle.calculus.specs.Types.{Ty, prod}
use Rattle.notation_calculus.specs.Words.{Name}
use Rattle.notation_calculus.specs.Trees.{Bound, Form, TypeTree, TypeAtom, Side, TypeTrees, Tree, Atom, Atoms, Trees, of_type, of_term, Clause, Text}
use Rattle.notation_calculus.specs.Making.{meant}
use Rattle.notation_calculus.specs.Means.{Full, TypeEntry, Here, with, enter, entry, rest_entry, Nearest, near, far, First, first_here, first_later, in_clause, joined_ty, bits_ty, TypeIs, type_is, AtomIs, one_is, ones_is, inside_is, parameter-is, put_is, SideIs, no-side, a-side, TypesAre, no_types_lem, more_types, Is, spine-is, fun-is, fix_is, name_is, apart-is, Apart, apart-two, apart_more, AtomMeans, variable-means, part-means, tuple-means, put_means, Tuple, alone, pairs, Applied, to_none, to-more, full_functions, arrows_of, named_of, app_of, result_of, first_of, second_of, half_ty, full_variable, Means}
use Rattle.notation_calculus.specs.Means as Means

nearest_one : {n : Name} {Γ : List TypeEntry} {i j : ℕ} {τ ρ : Ty} → Nearest n Γ i τ → Nearest n Γ j ρ → (i ≡ j) × (τ ≡ ρ)
nearest_one (near e p) (near d q) = (refl, p ∙ sym q)
nearest_one (near e p) (far f h) = absurd (f e)
nearest_one (far f h) (near e p) = absurd (f e)
nearest_one (far f h) (far g k) = let (a, b) = nearest_one h k in (ap (λ (x : ℕ). suc x) a, b)

both : (b : Bool) → T b → T (not b) → ⊥
both true t u = u
both false t u = t

first_one : {sort : Bool} {n : Name} {k : ℕ} {ns : List ℕ} {cs : List Clause} {i j : ℕ} {c d : Clause} → First sort n k ns cs i c → First sort n k ns cs j d → (i ≡ j) × (c ≡ d)
first_one (first_here t) (first_here u) = (refl, refl)
first_one {sort = sort} {n} {k} {ns} (first_here {c = c} t) (first_later u f) = absurd (both (meant c sort n k ns) t u)
first_one {sort = sort} {n} {k} {ns} (first_later {b = b} t f) (first_here u) = absurd (both (meant b sort n k ns) u t)
first_one (first_later t f) (first_later u g) = let (a, b) = first_one f g in (ap (λ (x : ℕ). suc x) a, b)

type_body_lem : {s t : TypeTree} → of_type s ≡ of_type t → s ≡ t
type_body_lem e = cc

term_body_lem : {s t : Tree} → of_term s ≡ of_term t → s ≡ t
term_body_lem e = cc

-- the same clause with the same arguments has the same scope
scope_one : (cs : List Clause) {c d : Clause} {i j : ℕ} {τs ρs : List Ty} {ns ms : List ℕ} → c ≡ d → i ≡ j → τs ≡ ρs → ns ≡ ms → in_clause cs d j ρs ms ≡ in_clause cs c i τs ns
scope_one cs {c = c} {d} {i} {j} {τs} {ρs} {ns} {ms} e f g h =
    sym (ap (λ (x : Clause). in_clause cs x i τs ns) e ∙ ap (λ (x : ℕ). in_clause cs d x τs ns) f ∙ ap (λ (x : List Ty). in_clause cs d j x ns) g ∙ ap (λ (x : List ℕ). in_clause cs d j ρs x) h)

joined-both : (f : Form) {a b c d : Ty} → a ≡ b → c ≡ d → joined_ty f a c ≡ joined_ty f b d
joined-both f {a} {b} {c} {d} p q = ap (λ (x : Ty). joined_ty f x c) p ∙ ap (λ (x : Ty). joined_ty f b x) q

cons_both : {a b : Ty} {xs ys : List Ty} → a ≡ b → xs ≡ ys → a ∷ xs ≡ b ∷ ys
cons_both {a} {b} {xs} {ys} p q = ap (λ (x : Ty). x ∷ xs) p ∙ ap (λ (l : List Ty). b ∷ l) q

clause_one : {sort : Bool} {n : Name} {cs : List Clause} {τs ρs : List Ty} {ns ms : List ℕ} {i j : ℕ} {c d : Clause} → τs ≡ ρs → ns ≡ ms → First sort n (length τs) ns cs i c → First sort n (length ρs) ms cs j d → (i ≡ j) × (c ≡ d)
clause_one {sort = sort} {n} {cs} {τs} {ρs} {ns} {ms} {i} {j} {c} {d} e f a b = first_one a (subst (λ (k : ℕ). First sort n k ns cs j d) (ap (λ (x : List Ty). length x) (sym e)) (subst (λ (x : List ℕ). First sort n (length ρs) x cs j d) (sym f) b))

type_moved : {X : Text} {t s : TypeTree} {H K : Here} {ρ : Ty} → t ≡ s → K ≡ H → TypeIs X K s ρ → TypeIs X H t ρ
type_moved {X} {t} {s} {H} {K} {ρ} e f d = subst (λ (x : TypeTree). TypeIs X H x ρ) (sym e) (subst (λ (G : Here). TypeIs X G s ρ) f d)

-- ---- types

mutual
  pub type_one : {X : Text} {S : Here} {t : TypeTree} {τ ρ : Ty} → TypeIs X S t τ → TypeIs X S t ρ → τ ≡ ρ
  type_one (type_is a p q) (type_is b r s) =
      let e = atom_one a b in
      let d = side_one p r e in
      side_one q s d

  pub atom_one : {X : Text} {S : Here} {a : TypeAtom} {τ ρ : Ty} → AtomIs X S a τ → AtomIs X S a ρ → τ ≡ ρ
  atom_one one_is one_is = refl
  atom_one (ones_is {n = n} d p) (ones_is {n = m} e q) =
      let same : suc n ≡ suc m = good-inj (sym d ∙ e) in
      let less : n ≡ m = omega (arith, same) in
      p ∙ ap bits_ty less ∙ sym q
  atom_one (inside_is d) (inside_is c) = type_one d c
  atom_one (parameter-is h) (parameter-is k) = (nearest_one h k).1
  atom_one (parameter-is h) (put_is free are ne first be d) = absurd (free tt _ _ h)
  atom_one (put_is free are ne first be d) (parameter-is h) = absurd (free tt _ _ h)
  atom_one {X} (put_is {n = n} {τs = τs} {ns = ns} free are ne first be d) (put_is {τs = ρs} {ns = ms} free' are' ne' first' be' d') =
      let es : τs ≡ ρs = types_one are are' in
      let en : ns ≡ ms = good-inj (sym ne ∙ ne') in
      let (ei, ec) = clause_one es en first first' in
      let eb = type_body_lem (sym be ∙ ap (λ (c : Clause). c.body) ec ∙ be') in
      type_one d (type_moved eb (scope_one X.clauses ec ei es en) d')

  pub side_one : {X : Text} {S : Here} {p : Side} {τ τ' ρ ρ' : Ty} → SideIs X S τ p ρ → SideIs X S τ' p ρ' → τ ≡ τ' → ρ ≡ ρ'
  side_one (no-side p) (no-side q) e = p ∙ e ∙ sym q
  side_one (a-side {f = f} d m p) (a-side d' m' q) e = p ∙ joined-both f e (type_one d d') ∙ sym q

  pub types_one : {X : Text} {S : Here} {ts : TypeTrees} {τs ρs : List Ty} → TypesAre X S ts τs → TypesAre X S ts ρs → τs ≡ ρs
  types_one no_types_lem no_types_lem = refl
  types_one (more_types d ds) (more_types c cs) = cons_both (type_one d c) (types_one ds cs)

-- ---- terms

term_moved : {X : Text} {t s : Tree} {H K : Here} {e : Full} {ρ : Ty} → t ≡ s → K ≡ H → Is X K s e ρ → Is X H t e ρ
term_moved {X} {t} {s} {H} {K} {e} {ρ} p f d = subst (λ (x : Tree). Is X H x e ρ) (sym p) (subst (λ (G : Here). Is X G s e ρ) f d)

apart_moved : {X : Text} {H K : Here} {xs : List Bound} {b : Tree} {v e : Full} {α τ : Ty} → K ≡ H → Apart X K xs v α b e τ → Apart X H xs v α b e τ
apart_moved {X} {H} {K} {xs} {b} {v} {e} {α} {τ} f d = subst (λ (G : Here). Apart X G xs v α b e τ) f d

functions-both : (xs : List Bound) {θ θ' τ τ' : Ty} {e e' : Full} → θ ≡ θ' → τ ≡ τ' → e ≡ e' → full_functions xs θ τ e ≡ full_functions xs θ' τ' e'
functions-both xs {θ} {θ'} {τ} {τ'} {e} {e'} p q r = ap (λ (x : Ty). full_functions xs x τ e) p ∙ ap (λ (x : Ty). full_functions xs θ' x e) q ∙ ap (λ (x : Full). full_functions xs θ' τ' x) r

arrows-both : (xs : List Bound) {θ θ' τ τ' : Ty} → θ ≡ θ' → τ ≡ τ' → arrows_of xs θ τ ≡ arrows_of xs θ' τ'
arrows-both xs {θ} {θ'} {τ} {τ'} p q = ap (λ (x : Ty). arrows_of xs x τ) p ∙ ap (λ (x : Ty). arrows_of xs θ' x) q

named-both : (X : Text) {α α' τ τ' : Ty} {v v' e e' : Full} → α ≡ α' → τ ≡ τ' → v ≡ v' → e ≡ e' → named_of X.edition α τ v e ≡ named_of X.edition α' τ' v' e'
named-both X {α} {α'} {τ} {τ'} {v} {v'} {e} {e'} p q r s = ap (λ (x : Ty). named_of X.edition x τ v e) p ∙ ap (λ (x : Ty). named_of X.edition α' x v e) q ∙ ap (λ (x : Full). named_of X.edition α' τ' x e) r ∙ ap (λ (x : Full). named_of X.edition α' τ' v' x) s

app_both : {φ φ' α α' : Ty} {f f' a a' : Full} → φ ≡ φ' → α ≡ α' → f ≡ f' → a ≡ a' → app_of φ α f a ≡ app_of φ' α' f' a'
app_both {φ} {φ'} {α} {α'} {f} {f'} {a} {a'} p q r s = ap (λ (x : Ty). app_of x α f a) p ∙ ap (λ (x : Ty). app_of φ' x f a) q ∙ ap (λ (x : Full). app_of φ' α' x a) r ∙ ap (λ (x : Full). app_of φ' α' f' x) s

two-both : (g : Full → Full → Full) {a a' b b' : Full} → a ≡ a' → b ≡ b' → g a b ≡ g a' b'
two-both g {a} {a'} {b} {b'} p q = ap (λ (x : Full). g x b) p ∙ ap (λ (x : Full). g a' x) q

halves-both : {τ τ' ρ ρ' : Ty} → τ ≡ τ' → ρ ≡ ρ' → prod (half_ty τ) (half_ty ρ) ≡ prod (half_ty τ') (half_ty ρ')
halves-both {τ} {τ'} {ρ} {ρ'} p q = ap (λ (x : Ty). prod (half_ty x) (half_ty ρ)) p ∙ ap (λ (x : Ty). prod (half_ty τ') (half_ty x)) q

pair_both : {π π' : Ty} {v v' w w' : Full} → π ≡ π' → v ≡ v' → w ≡ w' → Means.pair π v w ≡ Means.pair π' v' w'
pair_both {π} {π'} {v} {v'} {w} {w'} p q r = ap (λ (x : Ty). Means.pair x v w) p ∙ ap (λ (x : Full). Means.pair π' x w) q ∙ ap (λ (x : Full). Means.pair π' v' x) r

fix_both : {θ θ' : Ty} {e e' : Full} → θ ≡ θ' → e ≡ e' → Means.fix θ e ≡ Means.fix θ' e'
fix_both {θ} {θ'} {e} {e'} p q = ap (λ (x : Ty). Means.fix x e) p ∙ ap (λ (x : Full). Means.fix θ' x) q

variable-both : {i j : ℕ} {τ ρ : Ty} → i ≡ j → τ ≡ ρ → full_variable i τ ≡ full_variable j ρ
variable-both {i} {j} {τ} {ρ} p q = ap (λ (x : ℕ). full_variable x τ) p ∙ ap (λ (x : Ty). full_variable j x) q

abbrev Same : Full → Ty → Full → Ty → Type 0
Same e τ f φ = (e ≡ f) × (τ ≡ φ)

mutual
  pub term_one : {X : Text} {S : Here} {t : Tree} {e f : Full} {τ φ : Ty} → Is X S t e τ → Is X S t f φ → Same e τ f φ
  term_one (spine-is a p) (spine-is b q) = let (x, y) = atom-term-one a b in applied-one p q x y
  term_one {S = S} (fun-is {xs = xs} t d p r) (fun-is s c q u) =
      let θ = type_one t s in
      let (x, y) = term_one d (term_moved refl (ap (λ (z : Ty). with S (enter xs z S.variables)) (sym θ)) c) in
      (p ∙ functions-both xs θ y x ∙ sym q, r ∙ arrows-both xs θ y ∙ sym u)
  term_one {S = S} (fix_is {x = b} t d) (fix_is s c) =
      let θ = type_one t s in
      let (x, y) = term_one d (term_moved refl (ap (λ (z : Ty). with S (entry b z ∷ S.variables)) (sym θ)) c) in
      (fix_both θ x, θ)
  term_one {X} {S} (name_is {x = b} a d p) (name_is k c q) =
      let (v, α) = term_one a k in
      let (x, y) = term_one d (term_moved refl (ap (λ (z : Ty). with S (entry b z ∷ S.variables)) (sym α)) c) in
      (p ∙ named-both X α y v x ∙ sym q, y)
  term_one (apart-is a d) (apart-is k c) = let (v, α) = term_one a k in apart-one d c v α

  apart-one : {X : Text} {S : Here} {xs : List Bound} {b : Tree} {v w e f : Full} {α β τ φ : Ty} → Apart X S xs v α b e τ → Apart X S xs w β b f φ → v ≡ w → α ≡ β → Same e τ f φ
  apart-one {S = S} (apart-two {x = x} {y = y} d) (apart-two c) v α =
      let (p, q) = term_one d (term_moved refl (ap (λ (z : Ty). with S (entry y (second_of z) ∷ entry x (first_of z) ∷ S.variables)) (sym α)) c) in
      (two-both Means.proj v p, q)
  apart-one {X} {S} (apart_more {x = x} d) (apart_more c) v α =
      let (p, q) = apart-one d (apart_moved (ap (λ (z : Ty). with S (rest_entry (second_of z) ∷ entry x (first_of z) ∷ S.variables)) (sym α)) c) refl (ap second_of α) in
      (two-both Means.proj v p, q)

  atom-term-one : {X : Text} {S : Here} {a : Atom} {e f : Full} {τ φ : Ty} → AtomMeans X S a e τ → AtomMeans X S a f φ → Same e τ f φ
  atom-term-one (variable-means h p) (variable-means k q) = let (i, t) = nearest_one h k in (p ∙ variable-both i t ∙ sym q, t)
  atom-term-one (variable-means h p) (put_means free are ne first be d) = absurd (free tt _ _ h)
  atom-term-one (part-means {p = p} e) (part-means f) = (ap (λ (x : Ty). Means.con p x) (e ∙ sym f), e ∙ sym f)
  atom-term-one (tuple-means d) (tuple-means c) = tuple-one d c
  atom-term-one (put_means free are ne first be d) (variable-means h p) = absurd (free tt _ _ h)
  atom-term-one {X} (put_means {τs = τs} {ns = ns} free are ne first be d) (put_means {τs = ρs} {ns = ms} free' are' ne' first' be' d') =
      let es : τs ≡ ρs = types_one are are' in
      let en : ns ≡ ms = good-inj (sym ne ∙ ne') in
      let (ei, ec) = clause_one es en first first' in
      let eb = term_body_lem (sym be ∙ ap (λ (c : Clause). c.body) ec ∙ be') in
      term_one d (term_moved eb (scope_one X.clauses ec ei es en) d')

  tuple-one : {X : Text} {S : Here} {t : Tree} {ts : Trees} {e f : Full} {τ φ : Ty} → Tuple X S t ts e τ → Tuple X S t ts f φ → Same e τ f φ
  tuple-one (alone d) (alone c) = term_one d c
  tuple-one (pairs d ds p) (pairs c cs q) =
      let (v, t) = term_one d c in
      let (w, r) = tuple-one ds cs in
      let π = p ∙ halves-both t r ∙ sym q in
      (pair_both π v w, π)

  applied-one : {X : Text} {S : Here} {es : Atoms} {f g e d : Full} {φ γ τ ρ : Ty} → Applied X S f φ es e τ → Applied X S g γ es d ρ → f ≡ g → φ ≡ γ → Same e τ d ρ
  applied-one to_none to_none p q = (p, q)
  applied-one (to-more a d) (to-more b c) p q =
      let (x, α) = atom-term-one a b in
      applied-one d c (app_both q α p x) (ap result_of q)

-- a text means one term
pub means_one : (X : Text) (e f : Full) → Means X e → Means X f → e ≡ f
means_one X e f (τ, d) (φ, c) = (atom-term-one d c).0
