-- Drivers: each input terminal that a term makes, or gets with a linear variable, is driven by one wire or shown once in the interface.
-- By induction on the derivation. Assumes nothing.
use Prim.Native.Nat.{ℕ, zero, suc, ◌+◌, ◌*◌}
use mathlib.Core.Path.{◌≡◌, refl, sym, ap, ap₂, ◌∙◌}
use mathlib.Core.Bool.{Bool, true, false, not, true≢false, false≢true}
use mathlib.Core.List.{List, [], ◌∷◌, ◌++◌, map, map-append, cons≢nil, nil≢cons, head-eq_of_cons-eq, tail-eq_of_cons-eq}
use native.Mathlib.Omega.{arith}
use lib.Dec.{T}
use lib.ListN.{length, take, drop, get_or, length-append, take-append-drop}
use lib.Seq.{take_at, drop_at}
use Rattle.laws.proofs.Tests.{and_both, and_of}
use Rattle.laws.proofs.Parts.{map-take, map-drop}
use Rattle.calculus.specs.Types.{Ty, bit, prod, arrow, lolli, size, sharable, Table}
use Rattle.calculus.specs.Terms.{Edition, first, second, Term, part_at}
use Rattle.calculus.specs.Rules.{many, once, away, Ctx, NoLinear, none_end, none_many, none_away, InΓ, in_here, in_many, in_away, IsΔ, is_here, is_many, is_away, Split, split_end, split_many, split_first, split_second, split_away, Typed, Var, LVar, →I, →E, ⊸I, ⊸E, ×I, ×E, Fix, Con, ×E'}
use Rattle.calculus.specs.Net.{inp, out, Interface, turns, Element, point, part, Wire, points, in_side, out_side, join, part_side, Bound, unbound, Made, left_of, right_of, binder, made_var, made_fun, made_app, made_pair, first_half, second_half, whole_of, made_proj, made_fix, made_con, make}
use Rattle.calculus.specs.Inputs.{ins, made_at_lem, targets}
use Rattle.circuit_theorems.specs.Scope.{dir, dirs, Suits, Env, env_end, env_many, env_once, env_away}

-- ---- counts of an input terminal

-- the inputs of the linear variables in Δ
abbrev pub linears : Ctx → List Bound → ℕ → ℕ
linears [] env i = 0
linears (x ∷ Γ) [] i = 0
linears (many θ ∷ Γ) (b ∷ env) i = linears Γ env i
linears (once κ ∷ Γ) (b ∷ env) i = ins b.side i + linears Γ env i
linears (away ∷ Γ) (b ∷ env) i = linears Γ env i

ins-append : (s t : Interface) (i : ℕ) → ins (s ++ t) i ≡ ins s i + ins t i
ins-append [] t i = omega arith
ins-append (inp j ∷ s) t i = omega (arith, ins-append s t i)
ins-append (out o ∷ s) t i = ins-append s t i

pub made-append : (s t : List Element) (i : ℕ) → made_at_lem (s ++ t) i ≡ made_at_lem s i + made_at_lem t i
made-append [] t i = omega arith
made-append (point j ∷ s) t i = omega (arith, made-append s t i)
made-append (part p j ∷ s) t i = omega (arith, made-append s t i)

pub targets-append : (s t : List Wire) (i : ℕ) → targets (s ++ t) i ≡ targets s i + targets t i
targets-append [] t i = omega arith
targets-append (w ∷ s) t i = omega (arith, targets-append s t i)

pub dirs_in : (ts : List Bool) (n : ℕ) → dirs (in_side ts n) ≡ map not ts
dirs_in [] n = refl
dirs_in (false ∷ ts) n = ap (λ (r : List Bool). true ∷ r) (dirs_in ts (n + 2))
dirs_in (true ∷ ts) n = ap (λ (r : List Bool). false ∷ r) (dirs_in ts (n + 2))

dirs_out : (ts : List Bool) (n : ℕ) → dirs (out_side ts n) ≡ ts
dirs_out [] n = refl
dirs_out (false ∷ ts) n = ap (λ (r : List Bool). false ∷ r) (dirs_out ts (n + 2))
dirs_out (true ∷ ts) n = ap (λ (r : List Bool). true ∷ r) (dirs_out ts (n + 2))

-- turning a type turns each bit
pub turns_not : (o : Bool) (τ : Ty) → turns (not o) τ ≡ map not (turns o τ)
turns_not o bit = refl
turns_not o (prod a b) = ap₂ ◌++◌ (turns_not o a) (turns_not o b) ∙ sym (map-append not (turns o a) (turns o b))
turns_not o (arrow a b) = ap₂ ◌++◌ (turns_not (not o) a) (turns_not o b) ∙ sym (map-append not (turns (not o) a) (turns o b))
turns_not o (lolli a b) = ap₂ ◌++◌ (turns_not (not o) a) (turns_not o b) ∙ sym (map-append not (turns (not o) a) (turns o b))

pub turns-size : (o : Bool) (τ : Ty) → length (turns o τ) ≡ size τ
turns-size o bit = refl
turns-size o (prod a b) = length-append (turns o a) (turns o b) ∙ ap₂ ◌+◌ (turns-size o a) (turns-size o b)
turns-size o (arrow a b) = length-append (turns (not o) a) (turns o b) ∙ ap₂ ◌+◌ (turns-size (not o) a) (turns-size o b)
turns-size o (lolli a b) = length-append (turns (not o) a) (turns o b) ∙ ap₂ ◌+◌ (turns-size (not o) a) (turns-size o b)

-- a point's input is shown by just one of the two sides
sides : (ts : List Bool) (n i : ℕ) → made_at_lem (points ts n) i ≡ ins (in_side ts n) i + ins (out_side ts n) i
sides [] n i = refl
sides (false ∷ ts) n i = omega (arith, sides ts (n + 2) i)
sides (true ∷ ts) n i = omega (arith, sides ts (n + 2) i)

-- wires between interfaces of opposite directions reach each input of the two once
joined : (a f : Interface) (i : ℕ) → dirs f ≡ map not (dirs a) → targets (join a f) i ≡ ins a i + ins f i
joined [] [] i e = refl
joined [] (y ∷ f) i e = absurd (cons≢nil e)
joined (x ∷ a) [] i e = absurd (nil≢cons e)
joined (out o ∷ a) (inp j ∷ f) i e = omega (arith, joined a f i (tail-eq_of_cons-eq e))
joined (inp j ∷ a) (out o ∷ f) i e = omega (arith, joined a f i (tail-eq_of_cons-eq e))
joined (out o ∷ a) (out p ∷ f) i e = absurd (false≢true (head-eq_of_cons-eq e))
joined (inp j ∷ a) (inp k ∷ f) i e = absurd (true≢false (head-eq_of_cons-eq e))

-- an interface of a sharable type has no inputs

abbrev unturned : List Bool → Bool
unturned [] = true
unturned (true ∷ ts) = false
unturned (false ∷ ts) = unturned ts

unturned-append : (s t : List Bool) → T (unturned s) → T (unturned t) → T (unturned (s ++ t))
unturned-append [] t p q = q
unturned-append (true ∷ s) t p q = absurd p
unturned-append (false ∷ s) t p q = unturned-append s t p q

unturned-sharable : (θ : Ty) → T (sharable θ) → T (unturned (turns false θ))
unturned-sharable bit h = tt
unturned-sharable (prod a b) h =
    let (p, q) = and_both (sharable a) (sharable b) h in
    unturned-append (turns false a) (turns false b) (unturned-sharable a p) (unturned-sharable b q)
unturned-sharable (arrow a b) h = absurd h
unturned-sharable (lolli a b) h = absurd h

no_inputs : (s : Interface) (i : ℕ) → T (unturned (dirs s)) → ins s i ≡ 0
no_inputs [] i h = refl
no_inputs (inp j ∷ s) i h = absurd h
no_inputs (out o ∷ s) i h = no_inputs s i h

outputs_only : (θ : Ty) (s : Interface) (i : ℕ) → T (sharable θ) → dirs s ≡ turns false θ → ins s i ≡ 0
outputs_only θ s i h e = no_inputs s i (rw e (unturned-sharable θ h))

-- the two parts of an interface of an arrow or a product

pub dirs-left : (o : Bool) (α : Ty) (rest : List Bool) (s : Interface) → dirs s ≡ turns o α ++ rest → dirs (take (size α) s) ≡ turns o α
dirs-left o α rest s e = map-take dir (size α) s ∙ ap (take (size α)) e ∙ take_at (turns o α) rest (size α) (turns-size o α)

dirs-right : (o : Bool) (α : Ty) (rest : List Bool) (s : Interface) → dirs s ≡ turns o α ++ rest → dirs (drop (size α) s) ≡ rest
dirs-right o α rest s e = map-drop dir (size α) s ∙ ap (drop (size α)) e ∙ drop_at (turns o α) rest (size α) (turns-size o α)

ins-parts : (k : ℕ) (s : Interface) (i : ℕ) → ins (take k s) i + ins (drop k s) i ≡ ins s i
ins-parts k s i = sym (ins-append (take k s) (drop k s) i) ∙ ap (λ (r : Interface). ins r i) (take-append-drop k s)

-- ---- the binders' interfaces fit the context

pub split_env : {Γ Γ₁ Γ₂ : Ctx} {env : List Bound} → Split Γ Γ₁ Γ₂ → Env Γ env → Env Γ₁ env × Env Γ₂ env
split_env split_end env_end = (env_end, env_end)
split_env (split_many z) (env_many h f v) = let (p, q) = split_env z v in (env_many h f p, env_many h f q)
split_env (split_first z) (env_once f v) = let (p, q) = split_env z v in (env_once f p, env_away q)
split_env (split_second z) (env_once f v) = let (p, q) = split_env z v in (env_away p, env_once f q)
split_env (split_away z) (env_away v) = let (p, q) = split_env z v in (env_away p, env_away q)

split_linears : {Γ Γ₁ Γ₂ : Ctx} (env : List Bound) (i : ℕ) → Split Γ Γ₁ Γ₂ → linears Γ env i ≡ linears Γ₁ env i + linears Γ₂ env i
split_linears env i split_end = refl
split_linears [] i (split_many z) = refl
split_linears (b ∷ env) i (split_many z) = split_linears env i z
split_linears [] i (split_first z) = refl
split_linears (b ∷ env) i (split_first z) = omega (arith, split_linears env i z)
split_linears [] i (split_second z) = refl
split_linears (b ∷ env) i (split_second z) = omega (arith, split_linears env i z)
split_linears [] i (split_away z) = refl
split_linears (b ∷ env) i (split_away z) = split_linears env i z

none-linears : {Γ : Ctx} (env : List Bound) (i : ℕ) → NoLinear Γ → linears Γ env i ≡ 0
none-linears env i none_end = refl
none-linears [] i (none_many z) = refl
none-linears (b ∷ env) i (none_many z) = none-linears env i z
none-linears [] i (none_away z) = refl
none-linears (b ∷ env) i (none_away z) = none-linears env i z

-- a variable's interface
pub record VariableShown (Γ : Ctx) (env : List Bound) (τ : Ty) (b : Bound) : Type 0 where
  pub fits : Suits τ b
  pub count : (i : ℕ) → linears Γ env i ≡ ins b.side i

shown_shared : {Γ : Ctx} {env : List Bound} {k : ℕ} {θ : Ty} → InΓ Γ k θ → Env Γ env → VariableShown Γ env θ (get_or env k unbound)
shown_shared (in_here {θ = θ} z) (env_many {b = b} {env = env} h f v) =
    record { fits = f; count = λ i. none-linears env i z ∙ sym (outputs_only θ b.side i h f.dirs) }
shown_shared (in_many x) (env_many h f v) = let r = shown_shared x v in record { fits = r.fits; count = r.count }
shown_shared (in_away x) (env_away v) = let r = shown_shared x v in record { fits = r.fits; count = r.count }

shown_linear : {Γ : Ctx} {env : List Bound} {k : ℕ} {κ : Ty} → IsΔ Γ k κ → Env Γ env → VariableShown Γ env κ (get_or env k unbound)
shown_linear (is_here z) (env_once {env = env} f v) =
    record { fits = f; count = λ i. omega (arith, none-linears env i z) }
shown_linear (is_many x) (env_many h f v) = let r = shown_linear x v in record { fits = r.fits; count = r.count }
shown_linear (is_away x) (env_away v) = let r = shown_linear x v in record { fits = r.fits; count = r.count }

-- ---- the invariant

pub record Driven (Γ : Ctx) (env : List Bound) (τ : Ty) (m : Made) : Type 0 where
  pub type : m.type ≡ τ
  pub dirs : dirs m.side ≡ turns false τ
  pub count : (i : ℕ) → made_at_lem m.elements i + linears Γ env i ≡ targets m.wires i + ins m.side i

pub binder-fits : (τ : Ty) (n : ℕ) → Suits τ (binder τ n)
binder-fits τ n = record { type = refl; dirs = dirs_out (turns false τ) n }

var_driven : {Γ : Ctx} {env : List Bound} {τ : Ty} {b : Bound} (n : ℕ) → VariableShown Γ env τ b → Driven Γ env τ (made_var b n)
var_driven n s = record { type = s.fits.type; dirs = s.fits.dirs; count = λ i. omega (arith, s.count i) }

in_dirs : (α τ : Ty) (n : ℕ) (s : Interface) → dirs s ≡ turns false τ → dirs (in_side (turns false α) n ++ s) ≡ turns true α ++ turns false τ
in_dirs α τ n s e =
    map-append dir (in_side (turns false α) n) s ∙ ap₂ ◌++◌ (dirs_in (turns false α) n ∙ sym (turns_not false α)) e

pub opposite : (α : Ty) (a f : Interface) → dirs a ≡ turns false α → dirs f ≡ turns true α → dirs f ≡ map not (dirs a)
opposite α a f p q = q ∙ turns_not false α ∙ ap (map not) (sym p)

-- two inputs, one after the other or as a pair
gate-dirs : (E : Edition) (n : ℕ) → dirs (part_side 2 n) ≡ turns false ((part_at 2).type E)
gate-dirs first n = refl
gate-dirs second n = refl

part-dirs : (E : Edition) (p n : ℕ) → dirs (part_side (part_at p).inputs n) ≡ turns false ((part_at p).type E)
part-dirs E zero n = refl
part-dirs E (suc zero) n = refl
part-dirs E (suc (suc zero)) n = gate-dirs E n
part-dirs E (suc (suc (suc zero))) n = gate-dirs E n
part-dirs E (suc (suc (suc (suc zero)))) n = gate-dirs E n
part-dirs E (suc (suc (suc (suc (suc zero))))) n = refl
part-dirs E (suc (suc (suc (suc (suc (suc zero)))))) n = refl
part-dirs E (suc (suc (suc (suc (suc (suc (suc p))))))) n = refl

module _ {Γ : Ctx} {env : List Bound} where
  fun-driven : (θ τ : Ty) (n : ℕ) (e : Made) → T (sharable θ) → Driven (many θ ∷ Γ) (binder θ n ∷ env) τ e → Driven Γ env (arrow θ τ) (made_fun (arrow θ τ) n e)
  fun-driven θ τ n e sh d = record {
    type = refl;
    dirs = in_dirs θ τ n e.side d.dirs;
    count = λ i. omega (arith, d.count i, made-append (points (turns false θ) n) e.elements i, ins-append (in_side (turns false θ) n) e.side i, sides (turns false θ) n i, outputs_only θ (out_side (turns false θ) n) i sh (dirs_out (turns false θ) n));
  }

  lfun-driven : (κ τ : Ty) (n : ℕ) (e : Made) → Driven (once κ ∷ Γ) (binder κ n ∷ env) τ e → Driven Γ env (lolli κ τ) (made_fun (lolli κ τ) n e)
  lfun-driven κ τ n e d = record {
    type = refl;
    dirs = in_dirs κ τ n e.side d.dirs;
    count = λ i. omega (arith, d.count i, made-append (points (turns false κ) n) e.elements i, ins-append (in_side (turns false κ) n) e.side i, sides (turns false κ) n i);
  }

  fix-driven : (θ : Ty) (n : ℕ) (e : Made) → T (sharable θ) → Driven (many θ ∷ Γ) (binder θ n ∷ env) θ e → Driven Γ env θ (made_fix θ n e)
  fix-driven θ n e sh d = record {
    type = refl;
    dirs = d.dirs;
    count = λ i. omega (arith, d.count i, made-append (points (turns false θ) n) e.elements i, targets-append e.wires (join e.side (in_side (turns false θ) n)) i, joined e.side (in_side (turns false θ) n) i (dirs_in (turns false θ) n ∙ ap (map not) (sym d.dirs)), sides (turns false θ) n i, outputs_only θ e.side i sh d.dirs, outputs_only θ (out_side (turns false θ) n) i sh (dirs_out (turns false θ) n));
  }

  con-driven : (E : Edition) (p n : ℕ) → NoLinear Γ → Driven Γ env ((part_at p).type E) (made_con ((part_at p).type E) p n)
  con-driven E p n z = record {
    type = refl;
    dirs = part-dirs E p n;
    count = λ i. omega (arith, none-linears env i z);
  }

  module _ {Γ₁ Γ₂ : Ctx} (z : Split Γ Γ₁ Γ₂) where
    -- an application, of either sort: the function's type has the bits of α turned, and then those of τ
    app-driven : (α τ : Ty) (f a : Made) → left_of f.type ≡ α → right_of f.type ≡ τ → dirs f.side ≡ turns true α ++ turns false τ
        → ((i : ℕ) → made_at_lem f.elements i + linears Γ₁ env i ≡ targets f.wires i + ins f.side i)
        → Driven Γ₂ env α a → Driven Γ env τ (made_app f a)
    app-driven α τ f a el er ef cf d = record {
      type = er;
      dirs = rw el (dirs-right true α (turns false τ) f.side ef);
      count = λ i. rw el (omega (arith, cf i, d.count i, split_linears env i z, made-append f.elements a.elements i, targets-append (f.wires ++ a.wires) (join a.side (take (size α) f.side)) i, targets-append f.wires a.wires i, joined a.side (take (size α) f.side) i (opposite α a.side (take (size α) f.side) d.dirs (dirs-left true α (turns false τ) f.side ef)), ins-parts (size α) f.side i));
    }

    pair-driven : (θ₁ θ₂ : Ty) (a b : Made) → Driven Γ₁ env θ₁ a → Driven Γ₂ env θ₂ b → Driven Γ env (prod θ₁ θ₂) (made_pair (prod θ₁ θ₂) a b)
    pair-driven θ₁ θ₂ a b c d = record {
      type = refl;
      dirs = map-append dir a.side b.side ∙ ap₂ ◌++◌ c.dirs d.dirs;
      count = λ i. omega (arith, c.count i, d.count i, split_linears env i z, made-append a.elements b.elements i, targets-append a.wires b.wires i, ins-append a.side b.side i);
    }

    proj-driven : (θ₁ θ₂ τ : Ty) (a e : Made) → T (sharable θ₁) → T (sharable θ₂) → Driven Γ₁ env (prod θ₁ θ₂) a
        → Driven (many θ₂ ∷ many θ₁ ∷ Γ₂) (second_half a ∷ first_half a ∷ env) τ e → Driven Γ env τ (made_proj a e)
    proj-driven θ₁ θ₂ τ a e s₁ s₂ c d = record {
      type = d.type;
      dirs = d.dirs;
      count = λ i. omega (arith, c.count i, d.count i, split_linears env i z, made-append a.elements e.elements i, targets-append a.wires e.wires i, outputs_only (prod θ₁ θ₂) a.side i (and_of (sharable θ₁) (sharable θ₂) s₁ s₂) c.dirs);
    }

    -- one variable: its interface is the first subterm's own, which has no input
    name-driven : (θ τ : Ty) (a e : Made) → T (sharable θ) → Driven Γ₁ env θ a → Driven (many θ ∷ Γ₂) (whole_of a ∷ env) τ e → Driven Γ env τ (made_proj a e)
    name-driven θ τ a e sh c d = record {
      type = d.type;
      dirs = d.dirs;
      count = λ i. omega (arith, c.count i, d.count i, split_linears env i z, made-append a.elements e.elements i, targets-append a.wires e.wires i, outputs_only θ a.side i sh c.dirs);
    }

pub halves : (θ₁ θ₂ : Ty) (a : Made) → a.type ≡ prod θ₁ θ₂ → dirs a.side ≡ turns false (prod θ₁ θ₂) → Suits θ₁ (first_half a) × Suits θ₂ (second_half a)
halves θ₁ θ₂ a et ed = (
  record { type = ap left_of et; dirs = rw et (dirs-left false θ₁ (turns false θ₂) a.side ed) },
  record { type = ap right_of et; dirs = rw et (dirs-right false θ₁ (turns false θ₂) a.side ed) },
)

pub term_driven : {E : Edition} {Θ : Table} {Γ : Ctx} {e : Term} {τ : Ty} → Typed E Θ Γ e τ → (env : List Bound) → Env Γ env → (n : ℕ) → Driven Γ env τ (make Θ e env n)
term_driven (Var x) env v n = var_driven n (shown_shared x v)
term_driven (LVar x) env v n = var_driven n (shown_linear x v)
term_driven {Θ = Θ} (→I {t = t} {e = e} {θ = θ} {τ = τ} eτ sh d) env v n =
    rw eτ (fun-driven θ τ n (make Θ e (binder θ n ∷ env) (n + 2 * size θ)) sh (term_driven d (binder θ n ∷ env) (env_many sh (binder-fits θ n) v) (n + 2 * size θ)))
term_driven {Θ = Θ} (→E {f = f} {a = a} {θ = θ} {τ = τ} z sh d c) env v n =
    let (p, q) = split_env z v in
    let x = term_driven d env p n in
    let m = make Θ f env n in
    app-driven z θ τ m (make Θ a env m.next) (ap left_of x.type) (ap right_of x.type) x.dirs x.count (term_driven c env q m.next)
term_driven {Θ = Θ} (⊸I {t = t} {e = e} {κ = κ} {τ = τ} eτ ar d) env v n =
    rw eτ (lfun-driven κ τ n (make Θ e (binder κ n ∷ env) (n + 2 * size κ)) (term_driven d (binder κ n ∷ env) (env_once (binder-fits κ n) v) (n + 2 * size κ)))
term_driven {Θ = Θ} (⊸E {f = f} {a = a} {κ = κ} {τ = τ} z ar d c) env v n =
    let (p, q) = split_env z v in
    let x = term_driven d env p n in
    let m = make Θ f env n in
    app-driven z κ τ m (make Θ a env m.next) (ap left_of x.type) (ap right_of x.type) x.dirs x.count (term_driven c env q m.next)
term_driven {Θ = Θ} (×I {a = a} {b = b} {θ₁ = θ₁} {θ₂ = θ₂} z eτ s₁ s₂ d c) env v n =
    let (p, q) = split_env z v in
    let m = make Θ a env n in
    rw eτ (pair-driven z θ₁ θ₂ m (make Θ b env m.next) (term_driven d env p n) (term_driven c env q m.next))
term_driven {Θ = Θ} (×E {a = a} {e = e} {θ₁ = θ₁} {θ₂ = θ₂} {τ = τ} z s₁ s₂ d c) env v n =
    let (p, q) = split_env z v in
    let m = make Θ a env n in
    let x = term_driven d env p n in
    let (h₁, h₂) = halves θ₁ θ₂ m x.type x.dirs in
    proj-driven z θ₁ θ₂ τ m (make Θ e (second_half m ∷ first_half m ∷ env) m.next) s₁ s₂ x (term_driven c _ (env_many s₂ h₂ (env_many s₁ h₁ q)) m.next)
term_driven {Θ = Θ} (Fix {t = t} {e = e} {θ = θ} eτ sh d) env v n =
    rw eτ (fix-driven θ n (make Θ e (binder θ n ∷ env) (n + 2 * size θ)) sh (term_driven d (binder θ n ∷ env) (env_many sh (binder-fits θ n) v) (n + 2 * size θ)))
term_driven {E} (Con {p = p} h e z) env v n = rw e (con-driven E p n z)
term_driven {Θ = Θ} (×E' {a = a} {e = e} {θ = θ} {τ = τ} eE z sh d c) env v n =
    let (p, q) = split_env z v in
    let m = make Θ a env n in
    let x = term_driven d env p n in
    name-driven z θ τ m (make Θ e (whole_of m ∷ env) m.next) sh x (term_driven c _ (env_many sh (record { type = x.type; dirs = x.dirs }) q) m.next)

-- a whole sheet: each input is the target of one wire or shown by one pin
pub drivers : {E : Edition} {Θ : Table} {e : Term} {τ : Ty} → Typed E Θ [] e τ → (i : ℕ) →
    made_at_lem (make Θ e [] 0).elements i ≡ targets (make Θ e [] 0).wires i + ins (make Θ e [] 0).side i
drivers d i = omega (arith, (term_driven d [] env_end 0).count i)
