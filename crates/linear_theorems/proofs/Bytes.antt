-- A sheet that is accepted, though its definitions speak of numbers, is a string of bytes: no binder number is above 126. Assumes nothing.
use Prim.Native.Nat.{ℕ, suc, ◌+◌, ◌*◌, ◌<◌, ◌≤◌, max}
use mathlib.Core.Path.{◌≡◌, refl, sym, ap, subst}
use mathlib.Core.List.{List, [], ◌∷◌, ◌++◌}
use native.Mathlib.Omega.{arith}
use native.Mathlib.Nat.{le-max_left, le-max_right}
use lib.ListN.{length}
use Rattle.calculus.specs.Answer.{good}
use Rattle.calculus.specs.Types.{Ty, TyRec, rec01, rec02, rec03, rec04, Table, rec_at}
use Rattle.calculus.specs.Terms.{Edition, first, second, opening, Term, var, lvar, fun, app, lfun, lapp, pair, proj, fix, con, name}
use Rattle.calculus.specs.Write.{rec_bytes, table_bytes, term_bytes, record_bytes, sheet_bytes}
use Rattle.sheet_theorems.specs.Laid.{Below, depth, Ranged}
use Rattle.calculus.specs.Rules.{Ctx, InΓ, in_here, in_many, in_away, IsΔ, is_here, is_many, is_away, Split, split_end, split_many, split_first, split_second, split_away, Typed, Var, LVar, →I, →E, ⊸I, ⊸E, ×I, ×E, Fix, Con, ×E'}
use Rattle.calculus.specs.Net.{Net}
use Rattle.calculus.specs.Record.{All}
use Rattle.calculus.specs.Translate.{full}
use Rattle.sheet_theorems.proofs.Laying.{laid, sheet-bytes}
use Rattle.circuit_theorems.proofs.Lists.{all_append}
use Rattle.circuit_theorems.proofs.Main.{accepts}
use Rattle.linear_theorems.specs.Harmless.{Byte}

-- ---- binder numbers

in_scope : {Γ : Ctx} {i : ℕ} {θ : Ty} → InΓ Γ i θ → i < length Γ
in_scope (in_here z) = omega arith
in_scope (in_many v) = omega (arith, in_scope v)
in_scope (in_away v) = omega (arith, in_scope v)

is_scope : {Γ : Ctx} {i : ℕ} {κ : Ty} → IsΔ Γ i κ → i < length Γ
is_scope (is_here z) = omega arith
is_scope (is_many v) = omega (arith, is_scope v)
is_scope (is_away v) = omega (arith, is_scope v)

split_scope : {Γ Γ₁ Γ₂ : Ctx} → Split Γ Γ₁ Γ₂ → (length Γ₁ ≡ length Γ) × (length Γ₂ ≡ length Γ)
split_scope split_end = (refl, refl)
split_scope (split_many z) = let h = split_scope z in (ap suc h.0, ap suc h.1)
split_scope (split_first z) = let h = split_scope z in (ap suc h.0, ap suc h.1)
split_scope (split_second z) = let h = split_scope z in (ap suc h.0, ap suc h.1)
split_scope (split_away z) = let h = split_scope z in (ap suc h.0, ap suc h.1)

-- two subterms, the second under b binders more
module _ {Γ Γ₁ Γ₂ : Ctx} (z : Split Γ Γ₁ Γ₂) (x y : ℕ) (h : length Γ + 2 * suc (max x y) ≤ 256) where
  first-scope : length Γ₁ + 2 * x ≤ 256
  first-scope = let l = (split_scope z).0 in omega (arith, le-max_left x y)

  second-scope : 2 + length Γ₂ + 2 * y ≤ 256
  second-scope = let l = (split_scope z).1 in omega (arith, le-max_right x y)

-- ---- the term

module _ (E : Edition) (Θ : Table) (few : length Θ ≤ 256) where
  term-bytes : {Γ : Ctx} {τ : Ty} (e : Term) → Typed E Θ Γ e τ → Ranged E Θ e → length Γ + 2 * depth e ≤ 256 → All Byte (term_bytes e)
  term-bytes (var i) (Var v) r h = (omega arith, (omega (arith, in_scope v), tt))
  term-bytes (lvar i) (LVar v) r h = (omega arith, (omega (arith, is_scope v), tt))
  term-bytes (fun t e) (→I q s d) r h = (omega arith, (let l = r.0 in omega arith, term-bytes e d r.1 (omega arith)))
  term-bytes (app f a) (→E z s d c) r h =
      (omega arith, all_append Byte (term_bytes f) (term_bytes a) (term-bytes f d r.0 (first-scope z (depth f) (depth a) h)) (term-bytes a c r.1 (omega (arith, second-scope z (depth f) (depth a) h))))
  term-bytes (lfun t e) (⊸I q s d) r h = (omega arith, (let l = r.0 in omega arith, term-bytes e d r.1 (omega arith)))
  term-bytes (lapp f a) (⊸E z s d c) r h =
      (omega arith, all_append Byte (term_bytes f) (term_bytes a) (term-bytes f d r.0 (first-scope z (depth f) (depth a) h)) (term-bytes a c r.1 (omega (arith, second-scope z (depth f) (depth a) h))))
  term-bytes (pair t a b) (×I z q s₁ s₂ d c) r h =
      (omega arith, (let l = r.0 in omega arith, all_append Byte (term_bytes a) (term_bytes b) (term-bytes a d r.1 (first-scope z (depth a) (depth b) h)) (term-bytes b c r.2 (omega (arith, second-scope z (depth a) (depth b) h)))))
  term-bytes (proj a e) (×E z s₁ s₂ d c) r h =
      (omega arith, all_append Byte (term_bytes a) (term_bytes e) (term-bytes a d r.0 (first-scope z (depth a) (depth e) h)) (term-bytes e c r.1 (omega (arith, second-scope z (depth a) (depth e) h))))
  term-bytes (fix t e) (Fix q s d) r h = (omega arith, (let l = r.0 in omega arith, term-bytes e d r.1 (omega arith)))
  term-bytes (con p t) (Con l q z) r h = (omega arith, (omega arith, (omega arith, tt)))
  term-bytes (name a e) (×E' q z s d c) r h =
      (omega arith, all_append Byte (term_bytes a) (term_bytes e) (term-bytes a d r.1 (first-scope z (depth a) (depth e) h)) (term-bytes e c r.2 (omega (arith, second-scope z (depth a) (depth e) h))))

-- ---- the table

below_up : (n : ℕ) (r : TyRec) → n ≤ 256 → Below n r → Below 256 r
below_up n rec01 h b = tt
below_up n (rec02 x y) h b = (let p = b.0 in omega arith, let p = b.1 in omega arith)
below_up n (rec03 x y) h b = (let p = b.0 in omega arith, let p = b.1 in omega arith)
below_up n (rec04 x y) h b = (let p = b.0 in omega arith, let p = b.1 in omega arith)

rec-bytes : (r : TyRec) → Below 256 r → All Byte (rec_bytes r)
rec-bytes rec01 b = (omega arith, tt)
rec-bytes (rec02 x y) b = (omega arith, (b.0, (b.1, tt)))
rec-bytes (rec03 x y) b = (omega arith, (b.0, (b.1, tt)))
rec-bytes (rec04 x y) b = (omega arith, (b.0, (b.1, tt)))

table-bytes : (Θ : Table) → ((n : ℕ) → n < length Θ → Below 256 (rec_at Θ n)) → All Byte (table_bytes Θ)
table-bytes [] h = tt
table-bytes (r ∷ Θ) h = all_append Byte (rec_bytes r) (table_bytes Θ) (rec-bytes r (h 0 (omega arith))) (table-bytes Θ (λ n l. h (suc n) (omega arith)))

-- ---- the sheet

opening-bytes : (E : Edition) → All Byte (opening E)
opening-bytes first = tt
opening-bytes second = (omega arith, tt)

all-bytes : (E : Edition) (Θ : Table) (e : Term) → All Byte (table_bytes Θ) → All Byte (term_bytes e) → All Byte (sheet_bytes E Θ e)
unfolding sheet_bytes record_bytes
all-bytes E Θ e p q = all_append Byte (opening E) (table_bytes Θ ++ term_bytes e) (opening-bytes E) (all_append Byte (table_bytes Θ) (term_bytes e) p q)

pub accepted-bytes : (s : List ℕ) (m : Net) → full s ≡ good m → All Byte s
accepted-bytes s m a =
    let p = accepts s m a in
    let E = p.sheet.edition in
    let Θ = p.sheet.table in
    let e = p.sheet.term in
    let l = laid s p.sheet p.reads in
    let ok = l.table in
    subst (λ (b : List ℕ). All Byte b) (sym (sheet-bytes s p.sheet p.reads))
    (all-bytes E Θ e (table-bytes Θ (λ n h. below_up n (rec_at Θ n) (omega (arith, ok.few)) (ok.earlier n h))) (term-bytes E Θ ok.few e p.typed l.ranged (omega (arith, l.deep))))
