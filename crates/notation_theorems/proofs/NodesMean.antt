-- The nodes that are made stand for the terms that a tree means: each form by itself. Assumes nothing.
use Prim.Native.Nat.{ℕ, zero, suc, ◌<◌, ◌≤◌}
use mathlib.Core.Path.{◌≡◌, refl, sym, ap, subst, ◌∙◌}
use mathlib.Core.Bool.{Bool, true, false, ◌&&◌, cond}
use mathlib.Core.List.{List, [], ◌∷◌, ◌++◌}
use native.Mathlib.Omega.{arith}
use lib.Dec.{ltb}
use lib.ListN.{length}
use Rattle.calculus.specs.Answer.{Answer, good, ◌>>=◌, need}
use Rattle.calculus.specs.Types.{Ty, bit, prod, lolli, sharable, TyRec, rec01, rec02, rec03, rec04, Table, rec_at, tree}
use Rattle.calculus.specs.Types as Types
use Rattle.calculus.specs.Terms.{Edition, first, second, is_second, Term, var, lvar, app, lfun, lapp, proj, con, part_at}
use Rattle.calculus.specs.Terms as Terms
use Rattle.laws.proofs.Tests.{and_of, T-is, not_true}
use Rattle.sheet_theorems.specs.Laid.{Agrees, Below}
use Rattle.notation_calculus.specs.Trees.{Bound}
use Rattle.notation_calculus.specs.Making.{State, shares, is_sharable, listed, arrow_of, Made, counted, node, larger, over, variable, part_type, part_of, function_of, functions_of, name_of, half_of, pair_of, applied}
use Rattle.notation_calculus.specs.Means.{Full, full}
use Rattle.notation_calculus.specs.Means as Means
use Rattle.notation_theorems.proofs.Answering.{On, on_step, on_test, on_tests, on_map}
use Rattle.notation_theorems.proofs.Growing.{Ready, Grown, grown_same, grown_on, grown_length, grown_tree, tree_one, Listed, listed-holds}
use Rattle.notation_theorems.proofs.TypesMean.{Reached}

-- ---- a type's sort

sort_of : (Θ : Table) (r : TyRec) (τ : Ty) → Agrees Θ r τ → is_sharable r ≡ sharable τ
sort_of Θ rec01 τ a = sym (ap sharable a)
sort_of Θ (rec02 x y) τ a = sym (ap sharable a.0 ∙ T-is (sharable (tree Θ x) && sharable (tree Θ y)) (and_of (sharable (tree Θ x)) (sharable (tree Θ y)) a.1 a.2))
sort_of Θ (rec03 x y) τ a = sym (ap sharable a.0)
sort_of Θ (rec04 x y) τ a = sym (ap sharable a.0)

pub shares-is : (Θ : Table) (t : ℕ) → Ready Θ → shares Θ t ≡ sharable (tree Θ t)
shares-is Θ t R = sort_of Θ (rec_at Θ t) (tree Θ t) (R.ok.agrees t)

-- ---- terms whose type numbers stand in the table

abbrev pub LowTerm : ℕ → Term → Type 0
LowTerm n (var i) = Unit {0}
LowTerm n (lvar i) = Unit {0}
LowTerm n (Terms.fun t e) = (t < n) × LowTerm n e
LowTerm n (app f a) = LowTerm n f × LowTerm n a
LowTerm n (lfun t e) = (t < n) × LowTerm n e
LowTerm n (lapp f a) = LowTerm n f × LowTerm n a
LowTerm n (Terms.pair t a b) = (t < n) × LowTerm n a × LowTerm n b
LowTerm n (proj a e) = LowTerm n a × LowTerm n e
LowTerm n (Terms.fix t e) = (t < n) × LowTerm n e
LowTerm n (con p t) = t < n
LowTerm n (Terms.name a e) = LowTerm n a × LowTerm n e

pub low_term_more : (m n : ℕ) (e : Term) → m ≤ n → LowTerm m e → LowTerm n e
low_term_more m n (var i) h l = tt
low_term_more m n (lvar i) h l = tt
low_term_more m n (Terms.fun t e) h l = (omega (arith, l.0), low_term_more m n e h l.1)
low_term_more m n (app f a) h l = (low_term_more m n f h l.0, low_term_more m n a h l.1)
low_term_more m n (lfun t e) h l = (omega (arith, l.0), low_term_more m n e h l.1)
low_term_more m n (lapp f a) h l = (low_term_more m n f h l.0, low_term_more m n a h l.1)
low_term_more m n (Terms.pair t a b) h l = (omega (arith, l.0), low_term_more m n a h l.1, low_term_more m n b h l.2)
low_term_more m n (proj a e) h l = (low_term_more m n a h l.0, low_term_more m n e h l.1)
low_term_more m n (Terms.fix t e) h l = (omega (arith, l.0), low_term_more m n e h l.1)
low_term_more m n (con p t) h l = omega (arith, l)
low_term_more m n (Terms.name a e) h l = (low_term_more m n a h l.0, low_term_more m n e h l.1)

-- a term stays the same while the table grows
pub full_grown : (Θ Φ : Table) (e : Term) → Grown Θ Φ → LowTerm (length Θ) e → full Φ e ≡ full Θ e
full_grown Θ Φ (var i) g l = refl
full_grown Θ Φ (lvar i) g l = refl
full_grown Θ Φ (Terms.fun t e) g l = rw (grown_tree Θ Φ t g l.0, full_grown Θ Φ e g l.1) refl
full_grown Θ Φ (app f a) g l = rw (full_grown Θ Φ f g l.0, full_grown Θ Φ a g l.1) refl
full_grown Θ Φ (lfun t e) g l = rw (grown_tree Θ Φ t g l.0, full_grown Θ Φ e g l.1) refl
full_grown Θ Φ (lapp f a) g l = rw (full_grown Θ Φ f g l.0, full_grown Θ Φ a g l.1) refl
full_grown Θ Φ (Terms.pair t a b) g l = rw (grown_tree Θ Φ t g l.0, full_grown Θ Φ a g l.1, full_grown Θ Φ b g l.2) refl
full_grown Θ Φ (proj a e) g l = rw (full_grown Θ Φ a g l.0, full_grown Θ Φ e g l.1) refl
full_grown Θ Φ (Terms.fix t e) g l = rw (grown_tree Θ Φ t g l.0, full_grown Θ Φ e g l.1) refl
full_grown Θ Φ (con p t) g l = rw (grown_tree Θ Φ t g l) refl
full_grown Θ Φ (Terms.name a e) g l = rw (full_grown Θ Φ a g l.0, full_grown Θ Φ e g l.1) refl

-- ---- what is known of a term that was made

-- the state went from τ to m's, and m stands for a term and a type of which P tells
abbrev pub StandsFor : State → (Full → Ty → Type 0) → Made → Type 0
StandsFor τ P m = Ready m.state.table × Grown τ.table m.state.table × (m.type < length m.state.table) × LowTerm (length m.state.table) m.term × P (full m.state.table m.term) (tree m.state.table m.type)

pub node-stands :
    (τ : State) (P : Full → Ty → Type 0) (at : ℕ) (e : Term) (t below : ℕ) (ps : List ℕ) (σ : State)
    → Ready σ.table → Grown τ.table σ.table → t < length σ.table → LowTerm (length σ.table) e → P (full σ.table e) (tree σ.table t)
    → On (StandsFor τ P) (node at e t below ps σ)
unfolding node
node-stands τ P at e t below ps σ R g l low p =
    let m : Made = record { term = e; type = t; deep = suc below; places = at ∷ ps; state = counted σ } in
    on_test (StandsFor τ P) (ltb σ.nodes 2048) 34 at (λ _. need (ltb below 64) 34 at >>= λ _. good m) λ _. on_test (StandsFor τ P) (ltb below 64) 34 at (λ _. good m) λ _. (R, g, l, low, p)

-- ---- variables and parts

pub variable-is : (Θ : Table) (i t : ℕ) → Ready Θ → full Θ (variable Θ i t) ≡ Means.full_variable i (tree Θ t)
variable-is Θ i t R = by (shares Θ t) refl
  where
    by : (b : Bool) → shares Θ t ≡ b → full Θ (cond (shares Θ t) (var i) (lvar i)) ≡ cond (sharable (tree Θ t)) (Means.var i) (Means.lvar i)
    by true e = rw (sym (shares-is Θ t R), e) refl
    by false e = rw (sym (shares-is Θ t R), e) refl

pub variable-low : (Θ : Table) (i t n : ℕ) → LowTerm n (variable Θ i t)
variable-low Θ i t n = by (shares Θ t)
  where
    by : (b : Bool) → LowTerm n (cond b (var i) (lvar i))
    by true = tt
    by false = tt

-- ---- functions

-- the record of an arrow stands for the arrow of its left side's sort
arrow_is : (Θ Φ : Table) (t b : ℕ) (τ : Ty) → Ready Θ → Grown Θ Φ → t < length Θ → b < length Θ → Agrees Φ (arrow_of Θ t b) τ → τ ≡ Means.arrow_ty (tree Θ t) (tree Θ b)
arrow_is Θ Φ t b τ R g h k a = by (shares Θ t) (shares-is Θ t R) a
  where
    by : (s : Bool) → s ≡ sharable (tree Θ t) → Agrees Φ (cond s (rec03 t b) (rec04 t b)) τ → τ ≡ cond (sharable (tree Θ t)) (Types.arrow (tree Θ t) (tree Θ b)) (lolli (tree Θ t) (tree Θ b))
    by true e c = rw (sym e) (rw (grown_tree Θ Φ t g h, grown_tree Θ Φ b g k) at c.0)
    by false e c = rw (sym e) (rw (grown_tree Θ Φ t g h, grown_tree Θ Φ b g k) at c.0)

arrow_below : (Θ : Table) (t b n : ℕ) → t < n → b < n → Below n (arrow_of Θ t b)
arrow_below Θ t b n h k = by (shares Θ t)
  where
    by : (s : Bool) → Below n (cond s (rec03 t b) (rec04 t b))
    by true = (h, k)
    by false = (h, k)

-- the function's record, over a table Φ in which w is the number of its arrow
function_is : (Θ Φ : Table) (t w : ℕ) (τ : Ty) (e : Term) → Ready Θ → tree Φ w ≡ Means.arrow_ty (tree Θ t) τ → full Φ e ≡ full Θ e → full Φ (cond (shares Θ t) (Terms.fun w e) (lfun w e)) ≡ Means.full_function (tree Θ t) τ (full Θ e)
function_is Θ Φ t w τ e R a f = by (shares Θ t) (shares-is Θ t R)
  where
    by : (s : Bool) → s ≡ sharable (tree Θ t) → full Φ (cond s (Terms.fun w e) (lfun w e)) ≡ cond (sharable (tree Θ t)) (Means.fun (Means.arrow_ty (tree Θ t) τ) (full Θ e)) (Means.lfun (Means.arrow_ty (tree Θ t) τ) (full Θ e))
    by true s = subst (λ (b : Bool). Means.fun (tree Φ w) (full Φ e) ≡ cond b (Means.fun (Means.arrow_ty (tree Θ t) τ) (full Θ e)) (Means.lfun (Means.arrow_ty (tree Θ t) τ) (full Θ e))) s (ap (λ (x : Ty). Means.fun x (full Φ e)) a ∙ ap (λ (x : Full). Means.fun (Means.arrow_ty (tree Θ t) τ) x) f)
    by false s = subst (λ (b : Bool). Means.lfun (tree Φ w) (full Φ e) ≡ cond b (Means.fun (Means.arrow_ty (tree Θ t) τ) (full Θ e)) (Means.lfun (Means.arrow_ty (tree Θ t) τ) (full Θ e))) s (ap (λ (x : Ty). Means.lfun x (full Φ e)) a ∙ ap (λ (x : Full). Means.lfun (Means.arrow_ty (tree Θ t) τ) x) f)

function_low : (Θ : Table) (t w n : ℕ) (e : Term) → w < n → LowTerm n e → LowTerm n (cond (shares Θ t) (Terms.fun w e) (lfun w e))
function_low Θ t w n e h l = by (shares Θ t)
  where
    by : (s : Bool) → LowTerm n (cond s (Terms.fun w e) (lfun w e))
    by true = (h, l)
    by false = (h, l)

-- what a term that was made stands for, with the state it left
abbrev pub Whole : Made → Type 0
Whole m = Ready m.state.table × (m.type < length m.state.table) × LowTerm (length m.state.table) m.term

pub function_stands :
    (P : Full → Ty → Type 0) (x : Bound) (t : ℕ) (e : Made)
    → Whole e
    → t < length e.state.table
    → P (Means.full_function (tree e.state.table t) (tree e.state.table e.type) (full e.state.table e.term)) (Means.arrow_ty (tree e.state.table t) (tree e.state.table e.type))
    → On (StandsFor e.state P) (function_of x t e)
function_stands P x t e (R, l, low) h p =
    let Θ : Table = e.state.table in
    let r : TyRec = arrow_of Θ t e.type in
    on_step (Listed e.state r) (StandsFor e.state P) (listed e.state r x.place) (λ w. node x.place (cond (shares Θ t) (Terms.fun w.type e.term) (lfun w.type e.term)) w.type e.deep e.places w.state) (listed-holds e.state r x.place R (arrow_below Θ t e.type (length Θ) h l)) λ w (Rw, gw, lw, agrees).
    let Φ : Table = w.state.table in
    let a : tree Φ w.type ≡ Means.arrow_ty (tree Θ t) (tree Θ e.type) = arrow_is Θ Φ t e.type (tree Φ w.type) R gw h l agrees in
    let f = function_is Θ Φ t w.type (tree Θ e.type) e.term R a (full_grown Θ Φ e.term gw low) in
    node-stands e.state P x.place (cond (shares Θ t) (Terms.fun w.type e.term) (lfun w.type e.term)) w.type e.deep e.places w.state Rw gw lw (function_low Θ t w.type (length Φ) e.term lw (low_term_more (length Θ) (length Φ) e.term (grown_length Θ Φ gw) low)) (subst (λ (τ : Ty). P (full Φ (cond (shares Θ t) (Terms.fun w.type e.term) (lfun w.type e.term))) τ) (sym a) (subst (λ (g : Full). P g (Means.arrow_ty (tree Θ t) (tree Θ e.type))) (sym f) p))

-- the very term and type
abbrev pub Exactly : Full → Ty → Full → Ty → Type 0
Exactly f φ g γ = (g ≡ f) × (γ ≡ φ)

pub functions_stand :
    (xs : List Bound) (t : ℕ) (e : Made)
    → Whole e
    → t < length e.state.table
    → On (StandsFor e.state (Exactly (Means.full_functions xs (tree e.state.table t) (tree e.state.table e.type) (full e.state.table e.term)) (Means.arrows_of xs (tree e.state.table t) (tree e.state.table e.type)))) (functions_of xs t e)
functions_stand [] t e (R, l, low) h = (R, grown_same e.state.table, l, low, (refl, refl))
functions_stand (x ∷ xs) t e W h =
    let Θ : Table = e.state.table in
    let θ : Ty = tree Θ t in
    let f₀ : Full = Means.full_functions xs θ (tree Θ e.type) (full Θ e.term) in
    let φ₀ : Ty = Means.arrows_of xs θ (tree Θ e.type) in
    let Q : Full → Ty → Type 0 = Exactly (Means.full_function θ φ₀ f₀) (Means.arrow_ty θ φ₀) in
    on_step (StandsFor e.state (Exactly f₀ φ₀)) (StandsFor e.state Q) (functions_of xs t e) (λ f. function_of x t f) (functions_stand xs t e W h) λ f (Rf, gf, lf, lowf, is).
    let Φ : Table = f.state.table in
    let h' : t < length Φ = omega (arith, grown_length Θ Φ gf) in
    let θ' = grown_tree Θ Φ t gf h in
    on_map (StandsFor f.state Q) (StandsFor e.state Q) (function_of x t f) (function_stands Q x t f (Rf, lf, lowf) h' (rw (θ', is.0, is.1) (refl, refl))) λ m (Rm, gm, lm, lowm, q). (Rm, grown_on Θ Φ m.state.table gf gm, lm, lowm, q)

-- ---- parts

abbrev PartIs : ℕ → Edition → Ty → Type 0
PartIs zero E τ = τ ≡ bit
PartIs (suc zero) E τ = τ ≡ Types.arrow bit bit
PartIs (suc (suc n)) first τ = τ ≡ Types.arrow bit (Types.arrow bit bit)
PartIs (suc (suc n)) second τ = τ ≡ Types.arrow (prod bit bit) bit

part_is : (p : ℕ) (E : Edition) → PartIs (part_at p).inputs E ((part_at p).type E)
part_is zero E = refl
part_is (suc zero) E = refl
part_is (suc (suc zero)) first = refl
part_is (suc (suc zero)) second = refl
part_is (suc (suc (suc zero))) first = refl
part_is (suc (suc (suc zero))) second = refl
part_is (suc (suc (suc (suc zero)))) first = refl
part_is (suc (suc (suc (suc zero)))) second = refl
part_is (suc (suc (suc (suc (suc zero))))) E = refl
part_is (suc (suc (suc (suc (suc (suc zero)))))) E = refl
part_is (suc (suc (suc (suc (suc (suc (suc p))))))) E = refl

-- the type of a part: two records at most
part-reached : (n : ℕ) (E : Edition) (σ : State) (at : ℕ) (τ : Ty) → PartIs n E τ → Ready σ.table → On (Reached σ (λ (ρ : Ty). ρ ≡ τ)) (part_type E n σ at)
part-reached zero E σ at τ e R = (R, grown_same σ.table, R.some, tree_one σ.table R ∙ sym e)
part-reached (suc zero) E σ at τ e R = on_map (Listed σ (rec03 0 0)) (Reached σ (λ (ρ : Ty). ρ ≡ τ)) (listed σ (rec03 0 0) at) (listed-holds σ (rec03 0 0) at R (R.some, R.some)) λ x (Rx, gx, lx, a). (Rx, gx, lx, a.0 ∙ ap (λ (ρ : Ty). Types.arrow ρ ρ) (tree_one x.state.table Rx) ∙ sym e)
part-reached (suc (suc n)) first σ at τ e R = on_step (Listed σ (rec03 0 0)) (Reached σ (λ (ρ : Ty). ρ ≡ τ)) (listed σ (rec03 0 0) at) (λ x. listed x.state (rec03 0 x.type) at) (listed-holds σ (rec03 0 0) at R (R.some, R.some)) λ x (Rx, gx, lx, a).
    on_map (Listed x.state (rec03 0 x.type)) (Reached σ (λ (ρ : Ty). ρ ≡ τ)) (listed x.state (rec03 0 x.type) at) (listed-holds x.state (rec03 0 x.type) at Rx (Rx.some, lx)) λ y (Ry, gy, ly, b). (
      Ry,
      grown_on σ.table x.state.table y.state.table gx gy,
      ly,
      b.0 ∙ ap (λ (ρ : Ty). Types.arrow ρ (tree y.state.table x.type)) (tree_one y.state.table Ry) ∙ ap (λ (ρ : Ty). Types.arrow bit ρ) (grown_tree x.state.table y.state.table x.type gy lx ∙ a.0 ∙ ap (λ (ρ : Ty). Types.arrow ρ ρ) (tree_one x.state.table Rx)) ∙ sym e,
    )
part-reached (suc (suc n)) second σ at τ e R = on_step (Listed σ (rec02 0 0)) (Reached σ (λ (ρ : Ty). ρ ≡ τ)) (listed σ (rec02 0 0) at) (λ x. listed x.state (rec03 x.type 0) at) (listed-holds σ (rec02 0 0) at R (R.some, R.some)) λ x (Rx, gx, lx, a).
    on_map (Listed x.state (rec03 x.type 0)) (Reached σ (λ (ρ : Ty). ρ ≡ τ)) (listed x.state (rec03 x.type 0) at) (listed-holds x.state (rec03 x.type 0) at Rx (lx, Rx.some)) λ y (Ry, gy, ly, b). (
      Ry,
      grown_on σ.table x.state.table y.state.table gx gy,
      ly,
      b.0 ∙ ap (λ (ρ : Ty). Types.arrow (tree y.state.table x.type) ρ) (tree_one y.state.table Ry) ∙ ap (λ (ρ : Ty). Types.arrow ρ bit) (grown_tree x.state.table y.state.table x.type gy lx ∙ a.0 ∙ ap (λ (ρ : Ty). prod ρ ρ) (tree_one x.state.table Rx)) ∙ sym e,
    )

pub part-stands : (E : Edition) (σ : State) (at p : ℕ) → Ready σ.table → On (StandsFor σ (Exactly (Means.con p ((part_at p).type E)) ((part_at p).type E))) (part_of E σ at p)
part-stands E σ at p R =
    let Q : Full → Ty → Type 0 = Exactly (Means.con p ((part_at p).type E)) ((part_at p).type E) in
    on_step (Reached σ (λ (ρ : Ty). ρ ≡ (part_at p).type E)) (StandsFor σ Q) (part_type E (part_at p).inputs σ at) (λ t. node at (con p t.type) t.type 0 [] t.state) (part-reached (part_at p).inputs E σ at ((part_at p).type E) (part_is p E) R) λ t (Rt, gt, lt, e).
    node-stands σ Q at (con p t.type) t.type 0 [] t.state Rt gt lt lt (ap (λ (ρ : Ty). Means.con p ρ) e, e)

-- ---- applications

-- f was made before a
abbrev pub Then : Made → Made → Type 0
Then f a = Whole f × Grown f.state.table a.state.table × Whole a

later-low : (f a : Made) → Then f a → LowTerm (length a.state.table) f.term
later-low f a (Wf, g, Wa) = low_term_more (length f.state.table) (length a.state.table) f.term (grown_length f.state.table a.state.table g) Wf.2

app_is : (Θ : Table) (s : Bool) (α : Ty) (f a : Term) → s ≡ sharable α → full Θ (cond s app lapp f a) ≡ cond (sharable α) (Means.app (full Θ f) (full Θ a)) (Means.lapp (full Θ f) (full Θ a))
app_is Θ true α f a e = subst (λ (b : Bool). Means.app (full Θ f) (full Θ a) ≡ cond b (Means.app (full Θ f) (full Θ a)) (Means.lapp (full Θ f) (full Θ a))) e refl
app_is Θ false α f a e = subst (λ (b : Bool). Means.lapp (full Θ f) (full Θ a) ≡ cond b (Means.app (full Θ f) (full Θ a)) (Means.lapp (full Θ f) (full Θ a))) e refl

app_low : (s : Bool) (n : ℕ) (f a : Term) → LowTerm n f → LowTerm n a → LowTerm n (cond s app lapp f a)
app_low true n f a h k = (h, k)
app_low false n f a h k = (h, k)

pub applied-stands :
    (at : ℕ) (f a : Made) → Then f a
    → On (StandsFor a.state (Exactly (Means.app_of (tree a.state.table f.type) (tree a.state.table a.type) (full a.state.table f.term) (full a.state.table a.term)) (Means.result_of (tree a.state.table f.type)))) (applied at (rec_at a.state.table f.type) f a)
applied-stands at f a H = go (rec_at a.state.table f.type) (H.2.0.ok.agrees f.type) (H.2.0.ok.earlier f.type in_table)
  where
    Θ : Table
    Θ = a.state.table

    in_table : f.type < length a.state.table
    in_table = omega (arith, H.0.1, grown_length f.state.table a.state.table H.1)

    φ : Ty
    φ = tree a.state.table f.type

    α : Ty
    α = tree a.state.table a.type

    Q : Full → Ty → Type 0
    Q = Exactly (Means.app_of (tree a.state.table f.type) (tree a.state.table a.type) (full a.state.table f.term) (full a.state.table a.term)) (Means.result_of (tree a.state.table f.type))

    made : (e : Term) (t : ℕ) → t < length a.state.table → LowTerm (length a.state.table) e → Q (full a.state.table e) (tree a.state.table t) → On (StandsFor a.state Q) (node at e t (larger f.deep a.deep) (f.places ++ a.places) a.state)
    made e t l low q = node-stands a.state Q at e t (larger f.deep a.deep) (f.places ++ a.places) a.state H.2.0 (grown_same a.state.table) l low q

    by-sort : (e : Full) → Means.app_of (tree a.state.table f.type) (tree a.state.table a.type) (full a.state.table f.term) (full a.state.table a.term) ≡ e → Means.result_of (tree a.state.table f.type) ≡ bit → cond (sharable (tree a.state.table a.type)) (Means.app (full a.state.table f.term) (full a.state.table a.term)) (Means.lapp (full a.state.table f.term) (full a.state.table a.term)) ≡ e → On (StandsFor a.state Q) (over at (cond (shares a.state.table a.type) app lapp) 0 f a a.state)
    by-sort e p r q = made (cond (shares a.state.table a.type) app lapp f.term a.term) 0 H.2.0.some (app_low (shares a.state.table a.type) (length a.state.table) f.term a.term (later-low f a H) H.2.2) (app_is a.state.table (shares a.state.table a.type) (tree a.state.table a.type) f.term a.term (shares-is a.state.table a.type H.2.0) ∙ q ∙ sym p, tree_one a.state.table H.2.0 ∙ sym r)

    go : (r : TyRec) → Agrees a.state.table r (tree a.state.table f.type) → Below f.type r → On (StandsFor a.state Q) (applied at r f a)
    go rec01 e b = by-sort _ (ap (λ (ρ : Ty). Means.app_of ρ (tree a.state.table a.type) (full a.state.table f.term) (full a.state.table a.term)) e) (ap Means.result_of e) refl
    go (rec02 x y) e b = by-sort _ (ap (λ (ρ : Ty). Means.app_of ρ (tree a.state.table a.type) (full a.state.table f.term) (full a.state.table a.term)) e.0) (ap Means.result_of e.0) refl
    go (rec03 x y) e b = made (app f.term a.term) y (omega (arith, b.1, in_table)) (later-low f a H, H.2.2) (sym (ap (λ (ρ : Ty). Means.app_of ρ (tree a.state.table a.type) (full a.state.table f.term) (full a.state.table a.term)) e.0), sym (ap Means.result_of e.0))
    go (rec04 x y) e b = made (lapp f.term a.term) y (omega (arith, b.1, in_table)) (later-low f a H, H.2.2) (sym (ap (λ (ρ : Ty). Means.app_of ρ (tree a.state.table a.type) (full a.state.table f.term) (full a.state.table a.term)) e.0), sym (ap Means.result_of e.0))

-- ---- pairs

half_is : (Θ : Table) (t : ℕ) → Ready Θ → tree Θ (half_of Θ t) ≡ Means.half_ty (tree Θ t)
half_is Θ t R = by (shares Θ t) (shares-is Θ t R)
  where
    by : (s : Bool) → s ≡ sharable (tree Θ t) → tree Θ (cond s t 0) ≡ cond (sharable (tree Θ t)) (tree Θ t) bit
    by true e = ap (λ (b : Bool). cond b (tree Θ t) bit) e
    by false e = tree_one Θ R ∙ ap (λ (b : Bool). cond b (tree Θ t) bit) e

half_low : (Θ : Table) (t n : ℕ) → 0 < n → t < n → half_of Θ t < n
half_low Θ t n h k = by (shares Θ t)
  where
    by : (s : Bool) → cond s t 0 < n
    by true = k
    by false = h

pub pair_stands :
    (at : ℕ) (a b : Made) → Then a b
    → On (StandsFor b.state (Exactly (Means.pair (prod (Means.half_ty (tree b.state.table a.type)) (Means.half_ty (tree b.state.table b.type))) (full b.state.table a.term) (full b.state.table b.term)) (prod (Means.half_ty (tree b.state.table a.type)) (Means.half_ty (tree b.state.table b.type))))) (pair_of at a b)
pair_stands at a b H =
    let Θ : Table = b.state.table in
    let R : Ready Θ = H.2.0 in
    let la : a.type < length Θ = omega (arith, H.0.1, grown_length a.state.table b.state.table H.1) in
    let x : ℕ = half_of Θ a.type in
    let y : ℕ = half_of Θ b.type in
    let hx : x < length Θ = half_low Θ a.type (length Θ) R.some la in
    let hy : y < length Θ = half_low Θ b.type (length Θ) R.some H.2.1 in
    let π : Ty = prod (Means.half_ty (tree Θ a.type)) (Means.half_ty (tree Θ b.type)) in
    let Q : Full → Ty → Type 0 = Exactly (Means.pair π (full Θ a.term) (full Θ b.term)) π in
    on_step (Listed b.state (rec02 x y)) (StandsFor b.state Q) (listed b.state (rec02 x y) at) (λ t. over at (Terms.pair t.type) t.type a b t.state) (listed-holds b.state (rec02 x y) at R (hx, hy)) λ t (Rt, gt, lt, ag).
    let Φ : Table = t.state.table in
    let e : tree Φ t.type ≡ π = ag.0 ∙ ap (λ (ρ : Ty). prod ρ (tree Φ y)) (grown_tree Θ Φ x gt hx ∙ half_is Θ a.type R) ∙ ap (λ (ρ : Ty). prod (Means.half_ty (tree Θ a.type)) ρ) (grown_tree Θ Φ y gt hy ∙ half_is Θ b.type R) in
    let fa = full_grown Θ Φ a.term gt (later-low a b H) in
    let fb = full_grown Θ Φ b.term gt H.2.2 in
    let n = grown_length Θ Φ gt in
    node-stands b.state Q at (Terms.pair t.type a.term b.term) t.type (larger a.deep b.deep) (a.places ++ b.places) t.state Rt gt lt (lt, low_term_more (length Θ) (length Φ) a.term n (later-low a b H), low_term_more (length Θ) (length Φ) b.term n H.2.2) (ap (λ (ρ : Ty). Means.pair ρ (full Φ a.term) (full Φ b.term)) e ∙ ap (λ (f : Full). Means.pair π f (full Φ b.term)) fa ∙ ap (λ (f : Full). Means.pair π (full Θ a.term) f) fb, e)

-- ---- names for a stretch of circuit

pub name-stands :
    (E : Edition) (x : Bound) (v e : Made) → Then v e
    → On (StandsFor e.state (Exactly (Means.named_of E (tree e.state.table v.type) (tree e.state.table e.type) (full e.state.table v.term) (full e.state.table e.term)) (tree e.state.table e.type))) (name_of E x v e)
name-stands E x v e H =
    let Θ : Table = e.state.table in
    let R : Ready Θ = H.2.0 in
    let lv : v.type < length Θ = omega (arith, H.0.1, grown_length v.state.table e.state.table H.1) in
    let α : Ty = tree Θ v.type in
    let τ : Ty = tree Θ e.type in
    let vv : Full = full Θ v.term in
    let ee : Full = full Θ e.term in
    let Q : Full → Ty → Type 0 = Exactly (Means.named_of E α τ vv ee) τ in
    let sort : shares Θ v.type ≡ sharable α = shares-is Θ v.type R in
    let whole : Bool → Full = λ b. cond b (Means.name vv ee) (cond (sharable α) (Means.app (Means.full_function α τ ee) vv) (Means.lapp (Means.full_function α τ ee) vv)) in
    let test : (is_second E && shares Θ v.type) ≡ (is_second E && sharable α) = ap (λ (b : Bool). is_second E && b) sort in
    let next : Made → Answer Made = λ f. over x.place (cond (shares Θ v.type) app lapp) e.type f v f.state in
    on_tests (StandsFor e.state Q) (is_second E && shares Θ v.type) (over x.place Terms.name e.type v e e.state) (function_of x v.type e >>= next) (λ t. node-stands e.state Q x.place (Terms.name v.term e.term) e.type (larger v.deep e.deep) (v.places ++ e.places) e.state R (grown_same Θ) H.2.1 (later-low v e H, H.2.2) (sym (ap whole (sym test ∙ T-is _ t)), refl)) λ t.
    on_step (StandsFor e.state (Exactly (Means.full_function α τ ee) (Means.arrow_ty α τ))) (StandsFor e.state Q) (function_of x v.type e) next (function_stands (Exactly (Means.full_function α τ ee) (Means.arrow_ty α τ)) x v.type e H.2 lv (refl, refl)) λ f (Rf, gf, lf, lowf, is).
    let Φ : Table = f.state.table in
    let n = grown_length Θ Φ gf in
    let fv = full_grown Θ Φ v.term gf (later-low v e H) in
    let a = app_is Φ (shares Θ v.type) α f.term v.term sort in
    let b = ap (λ (g : Full). cond (sharable α) (Means.app g (full Φ v.term)) (Means.lapp g (full Φ v.term))) is.0 ∙ ap (λ (g : Full). cond (sharable α) (Means.app (Means.full_function α τ ee) g) (Means.lapp (Means.full_function α τ ee) g)) fv in
    node-stands e.state Q x.place (cond (shares Θ v.type) app lapp f.term v.term) e.type (larger f.deep v.deep) (f.places ++ v.places) f.state Rf gf (omega (arith, H.2.1, n)) (app_low (shares Θ v.type) (length Φ) f.term v.term lowf (low_term_more (length Θ) (length Φ) v.term n (later-low v e H))) (a ∙ b ∙ sym (ap whole (sym test ∙ not_true _ t)), grown_tree Θ Φ e.type gf H.2.1)
