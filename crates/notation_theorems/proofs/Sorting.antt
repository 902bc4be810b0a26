-- In the term that a text means each variable is written as its binder's sort asks: by the rules of Means alone. Assumes nothing.
use Prim.Native.Nat.{ℕ, zero, suc}
use mathlib.Core.Path.{◌≡◌, refl, sym, subst}
use mathlib.Core.Bool.{Bool, true, false, ◌&&◌, cond}
use mathlib.Core.List.{List, [], ◌∷◌, ◌++◌}
use lib.Dec.{T}
use Rattle.calculus.specs.Record.{All}
use Rattle.calculus.specs.Types.{Ty, bit, prod, lolli, sharable}
use Rattle.calculus.specs.Types as Types
use Rattle.calculus.specs.Terms.{Edition, first, second, is_second, part_at}
use Rattle.laws.proofs.Tests.{and_both, T-is, on_cond}
use Rattle.notation_calculus.specs.Words.{Name}
use Rattle.notation_calculus.specs.Trees.{Bound, Form, product, arrow, linear, TypeTree, TypeAtom, Side, TypeTrees, Tree, Atom, Atoms, Trees, Text}
use Rattle.notation_calculus.specs.Means.{Full, var, lvar, fun, lfun, fix, app, lapp, proj, name, pair, con, TypeEntry, Here, entry, enter, Nearest, near, far, type_entries, joined_ty, may_join, bits_ty, TypeIs, type_is, AtomIs, one_is, ones_is, inside_is, parameter-is, put_is, SideIs, no-side, a-side, TypesAre, no_types_lem, more_types, arrow_ty, full_function, arrows_of, full_functions, app_of, result_of, first_of, second_of, half_ty, named_of, Is, spine-is, fun-is, fix_is, name_is, apart-is, Apart, apart-two, apart_more, AtomMeans, variable-means, part-means, tuple-means, put_means, Tuple, alone, pairs, Applied, to_none, to-more, Means}
use Rattle.notation_theorems.specs.Sorted.{SortAt, Sorted, sorts_in, Formed}

-- ---- types

sharable-formed : (τ : Ty) → T (sharable τ) → Formed τ
sharable-formed bit t = tt
sharable-formed (prod a b) t = and_both (sharable a) (sharable b) t
sharable-formed (Types.arrow a b) t = absurd t
sharable-formed (lolli a b) t = absurd t

abbrev EntryFormed : TypeEntry → Type 0
EntryFormed e = Formed e.type

nearest-formed : {n : Name} {Γ : List TypeEntry} {i : ℕ} {τ : Ty} → Nearest n Γ i τ → All EntryFormed Γ → Formed τ
nearest-formed (near e p) h = subst Formed (sym p) h.0
nearest-formed (far f d) h = nearest-formed d h.1

entries-formed : (xs : List Bound) (τs : List Ty) → All Formed τs → All EntryFormed (type_entries xs τs)
entries-formed [] τs h = tt
entries-formed (x ∷ xs) [] h = tt
entries-formed (x ∷ xs) (τ ∷ τs) h = (h.0, entries-formed xs τs h.1)

joined-formed : (f : Form) (a b : Ty) → T (may_join f a b) → Formed b → Formed (joined_ty f a b)
joined-formed product a b t h = and_both (sharable a) (sharable b) t
joined-formed arrow a b t h = h
joined-formed linear a b t h = h

-- bits in a row are sharable
pub bits_share : (n : ℕ) → T (sharable (bits_ty n))
bits_share zero = tt
bits_share (suc n) = bits_share n

mutual
  type-formed : {X : Text} {S : Here} {t : TypeTree} {τ : Ty} → TypeIs X S t τ → All EntryFormed S.types → Formed τ
  type-formed (type_is a p q) h = side-formed q h (side-formed p h (atom-formed a h))

  atom-formed : {X : Text} {S : Here} {a : TypeAtom} {τ : Ty} → AtomIs X S a τ → All EntryFormed S.types → Formed τ
  atom-formed one_is h = tt
  atom-formed (ones_is {n = n} d e) h = subst Formed (sym e) (sharable-formed (bits_ty n) (bits_share n))
  atom-formed (inside_is d) h = type-formed d h
  atom-formed (parameter-is d) h = nearest-formed d h
  atom-formed (put_is {τs = τs} {c = c} free are ne is-first be d) h = type-formed d (entries-formed c.types τs (types-formed are h))

  side-formed : {X : Text} {S : Here} {p : Side} {τ ρ : Ty} → SideIs X S τ p ρ → All EntryFormed S.types → Formed τ → Formed ρ
  side-formed (no-side e) h k = subst Formed (sym e) k
  side-formed (a-side {f = f} {τ = τ} {ρ = ρ} d m e) h k = subst Formed (sym e) (joined-formed f τ ρ m (type-formed d h))

  types-formed : {X : Text} {S : Here} {ts : TypeTrees} {τs : List Ty} → TypesAre X S ts τs → All EntryFormed S.types → All Formed τs
  types-formed no_types_lem h = tt
  types-formed (more_types d ds) h = (type-formed d h, types-formed ds h)

arrow_formed : (θ τ : Ty) → Formed τ → Formed (arrow_ty θ τ)
arrow_formed θ τ h = on_cond Formed (sharable θ) (Types.arrow θ τ) (lolli θ τ) (λ _. h) h

arrows-formed : (xs : List Bound) (θ τ : Ty) → Formed τ → Formed (arrows_of xs θ τ)
arrows-formed [] θ τ h = h
arrows-formed (x ∷ xs) θ τ h = arrow_formed θ (arrows_of xs θ τ) (arrows-formed xs θ τ h)

result_formed : (φ : Ty) → Formed φ → Formed (result_of φ)
result_formed bit h = tt
result_formed (prod a b) h = tt
result_formed (Types.arrow a b) h = h
result_formed (lolli a b) h = h

halves_share : (α : Ty) → Formed α → T (sharable (first_of α)) × T (sharable (second_of α))
halves_share bit h = (tt, tt)
halves_share (prod a b) h = h
halves_share (Types.arrow a b) h = (tt, tt)
halves_share (lolli a b) h = (tt, tt)

half_shares : (τ : Ty) → T (sharable (half_ty τ))
half_shares τ = on_cond (λ (ρ : Ty). T (sharable ρ)) (sharable τ) τ bit (λ t. t) tt

part-formed : (p : ℕ) (E : Edition) → Formed ((part_at p).type E)
part-formed zero E = tt
part-formed (suc zero) E = tt
part-formed (suc (suc zero)) first = tt
part-formed (suc (suc zero)) second = tt
part-formed (suc (suc (suc zero))) first = tt
part-formed (suc (suc (suc zero))) second = tt
part-formed (suc (suc (suc (suc zero)))) first = tt
part-formed (suc (suc (suc (suc zero)))) second = tt
part-formed (suc (suc (suc (suc (suc zero))))) E = tt
part-formed (suc (suc (suc (suc (suc (suc zero)))))) E = tt
part-formed (suc (suc (suc (suc (suc (suc (suc p))))))) E = tt

-- ---- more binders around a term do no harm

sort_more : (bs cs : List Bool) (i : ℕ) (s : Bool) → SortAt bs i s → SortAt (bs ++ cs) i s
sort_more [] cs i s h = absurd h
sort_more (b ∷ bs) cs zero s h = h
sort_more (b ∷ bs) cs (suc i) s h = sort_more bs cs i s h

sorted_more : (bs cs : List Bool) (e : Full) → Sorted bs e → Sorted (bs ++ cs) e
sorted_more bs cs (var i) h = sort_more bs cs i true h
sorted_more bs cs (lvar i) h = sort_more bs cs i false h
sorted_more bs cs (fun τ e) h = sorted_more (true ∷ bs) cs e h
sorted_more bs cs (lfun τ e) h = sorted_more (false ∷ bs) cs e h
sorted_more bs cs (fix τ e) h = sorted_more _ cs e h
sorted_more bs cs (app f a) h = (sorted_more bs cs f h.0, sorted_more bs cs a h.1)
sorted_more bs cs (lapp f a) h = (sorted_more bs cs f h.0, sorted_more bs cs a h.1)
sorted_more bs cs (proj a e) h = (sorted_more bs cs a h.0, sorted_more (true ∷ true ∷ bs) cs e h.1)
sorted_more bs cs (name a e) h = (sorted_more bs cs a h.0, sorted_more (true ∷ bs) cs e h.1)
sorted_more bs cs (pair τ a b) h = (sorted_more bs cs a h.0, sorted_more bs cs b h.1)
sorted_more bs cs (con p τ) h = tt

-- ---- each form

nearest_sorted : {n : Name} {Γ : List TypeEntry} {i : ℕ} {τ : Ty} → Nearest n Γ i τ → SortAt (sorts_in Γ) i (sharable τ)
nearest_sorted (near {e = e} d p) = subst (λ (ρ : Ty). sharable e.type ≡ sharable ρ) (sym p) refl
nearest_sorted (far f d) = nearest_sorted d

variable_sorted : (bs : List Bool) (i : ℕ) (s : Bool) → SortAt bs i s → Sorted bs (cond s (var i) (lvar i))
variable_sorted bs i true h = h
variable_sorted bs i false h = h

function_sorted : (bs : List Bool) (s : Bool) (τ : Ty) (e : Full) → Sorted (s ∷ bs) e → Sorted bs (cond s (fun τ e) (lfun τ e))
function_sorted bs true τ e h = h
function_sorted bs false τ e h = h

functions_sorted : (xs : List Bound) (θ τ : Ty) (e : Full) (Γ : List TypeEntry) → Sorted (sorts_in (enter xs θ Γ)) e → Sorted (sorts_in Γ) (full_functions xs θ τ e)
functions_sorted [] θ τ e Γ h = h
functions_sorted (x ∷ xs) θ τ e Γ h = function_sorted (sorts_in Γ) (sharable θ) (arrow_ty θ (arrows_of xs θ τ)) (full_functions xs θ τ e) (functions_sorted xs θ τ e (entry x θ ∷ Γ) h)

enter-formed : (xs : List Bound) (θ : Ty) (Γ : List TypeEntry) → Formed θ → All EntryFormed Γ → All EntryFormed (enter xs θ Γ)
enter-formed [] θ Γ f h = h
enter-formed (x ∷ xs) θ Γ f h = enter-formed xs θ (entry x θ ∷ Γ) f (f, h)

either_sorted : (bs : List Bool) (s : Bool) (f a : Full) → Sorted bs f → Sorted bs a → Sorted bs (cond s (app f a) (lapp f a))
either_sorted bs true f a h k = (h, k)
either_sorted bs false f a h k = (h, k)

app_sorted : (bs : List Bool) (φ α : Ty) (f a : Full) → Sorted bs f → Sorted bs a → Sorted bs (app_of φ α f a)
app_sorted bs bit α f a h k = either_sorted bs (sharable α) f a h k
app_sorted bs (prod x y) α f a h k = either_sorted bs (sharable α) f a h k
app_sorted bs (Types.arrow x y) α f a h k = (h, k)
app_sorted bs (lolli x y) α f a h k = (h, k)

named_sorted : (bs : List Bool) (E : Edition) (α τ : Ty) (v e : Full) → Sorted bs v → Sorted (sharable α ∷ bs) e → Sorted bs (named_of E α τ v e)
named_sorted bs E α τ v e h k = on_cond (Sorted bs) (is_second E && sharable α) (name v e) _ (λ t. (h, subst (λ (s : Bool). Sorted (s ∷ bs) e) (T-is (sharable α) (and_both (is_second E) (sharable α) t).1) k)) (either_sorted bs (sharable α) (full_function α τ e) v (function_sorted bs (sharable α) (arrow_ty α τ) e k) h)

two_shared : (bs : List Bool) (a b : Bool) (e : Full) → T a → T b → Sorted (b ∷ a ∷ bs) e → Sorted (true ∷ true ∷ bs) e
two_shared bs true true e t u h = h
two_shared bs true false e t u h = absurd u
two_shared bs false b e t u h = absurd t

-- ---- terms

abbrev SortedIn : List TypeEntry → Full → Ty → Type 0
SortedIn Γ e τ = Sorted (sorts_in Γ) e × Formed τ

mutual
  term-sorted : {X : Text} {S : Here} {t : Tree} {e : Full} {τ : Ty} → Is X S t e τ → All EntryFormed S.types → All EntryFormed S.variables → SortedIn S.variables e τ
  term-sorted (spine-is a p) h k =
      let (s, f) = atom-sorted a h k in
      applied-sorted p h k s f
  term-sorted {S = S} (fun-is {xs = xs} {e = e} {θ = θ} {τ = τ} t d p q) h k =
      let θf = type-formed t h in
      let (s, f) = term-sorted d h (enter-formed xs θ S.variables θf k) in
      (subst (Sorted (sorts_in S.variables)) (sym p) (functions_sorted xs θ τ e S.variables s), subst Formed (sym q) (arrows-formed xs θ τ f))
  term-sorted (fix_is t d) h k =
      let θf = type-formed t h in
      let (s, f) = term-sorted d h (θf, k) in
      (s, θf)
  term-sorted {X} {S} (name_is {v = v} {e = e} {α = α} {τ = τ} a d p) h k =
      let (s, f) = term-sorted a h k in
      let (r, g) = term-sorted d h (f, k) in
      (subst (Sorted (sorts_in S.variables)) (sym p) (named_sorted (sorts_in S.variables) X.edition α τ v e s r), g)
  term-sorted (apart-is a d) h k =
      let (s, f) = term-sorted a h k in
      apart-sorted d h k s f

  apart-sorted : {X : Text} {S : Here} {xs : List Bound} {b : Tree} {v e : Full} {α τ : Ty} → Apart X S xs v α b e τ → All EntryFormed S.types → All EntryFormed S.variables → Sorted (sorts_in S.variables) v → Formed α → SortedIn S.variables e τ
  apart-sorted {S = S} (apart-two {e = e} {α = α} d) h k s f =
      let (a, b) = halves_share α f in
      let (r, g) = term-sorted d h (sharable-formed (second_of α) b, (sharable-formed (first_of α) a, k)) in
      ((s, two_shared (sorts_in S.variables) (sharable (first_of α)) (sharable (second_of α)) e a b r), g)
  apart-sorted {S = S} (apart_more {e = e} {α = α} d) h k s f =
      let (a, b) = halves_share α f in
      let (r, g) = apart-sorted d h (sharable-formed (second_of α) b, (sharable-formed (first_of α) a, k)) (T-is (sharable (second_of α)) b) (sharable-formed (second_of α) b) in
      ((s, two_shared (sorts_in S.variables) (sharable (first_of α)) (sharable (second_of α)) e a b r), g)

  atom-sorted : {X : Text} {S : Here} {a : Atom} {e : Full} {τ : Ty} → AtomMeans X S a e τ → All EntryFormed S.types → All EntryFormed S.variables → SortedIn S.variables e τ
  atom-sorted {S = S} (variable-means {i = i} {τ = τ} d p) h k = (subst (Sorted (sorts_in S.variables)) (sym p) (variable_sorted (sorts_in S.variables) i (sharable τ) (nearest_sorted d)), nearest-formed d k)
  atom-sorted {X} (part-means {p = p} e) h k = (tt, subst Formed (sym e) (part-formed p X.edition))
  atom-sorted (tuple-means d) h k = tuple-sorted d h k
  atom-sorted {S = S} (put_means {τs = τs} {c = c} {e = e} free are ne is-first be d) h k =
      let (s, f) = term-sorted d (entries-formed c.types τs (types-formed are h)) tt in
      (sorted_more [] (sorts_in S.variables) e s, f)

  tuple-sorted : {X : Text} {S : Here} {t : Tree} {ts : Trees} {e : Full} {τ : Ty} → Tuple X S t ts e τ → All EntryFormed S.types → All EntryFormed S.variables → SortedIn S.variables e τ
  tuple-sorted (alone d) h k = term-sorted d h k
  tuple-sorted (pairs {τ = τ} {ρ = ρ} d ds p) h k =
      let (s, f) = term-sorted d h k in
      let (r, g) = tuple-sorted ds h k in
      ((s, r), subst Formed (sym p) (half_shares τ, half_shares ρ))

  applied-sorted : {X : Text} {S : Here} {es : Atoms} {f e : Full} {φ τ : Ty} → Applied X S f φ es e τ → All EntryFormed S.types → All EntryFormed S.variables → Sorted (sorts_in S.variables) f → Formed φ → SortedIn S.variables e τ
  applied-sorted to_none h k s f = (s, f)
  applied-sorted {S = S} (to-more {f = f} {x = x} {φ = φ} {α = α} a d) h k s g =
      let (r, _) = atom-sorted a h k in
      applied-sorted d h k (app_sorted (sorts_in S.variables) φ α f x s r) (result_formed φ g)

-- the term that a text means has each variable under a binder of its sort
pub means_sorted : (X : Text) (e : Full) → Means X e → Sorted [] e
means_sorted X e (τ, d) = (atom-sorted d tt tt).0
