-- The table of types while a text is made: it only grows, it stays one that the reader accepts, and a record that is listed stands for its
-- type. Assumes nothing.
use Prim.Native.Nat.{ℕ, zero, suc, ◌+◌, ◌<◌, ◌≤◌}
use mathlib.Core.Path.{◌≡◌, refl, sym, ap, subst, ◌∙◌}
use mathlib.Core.Bool.{Bool, true, false, not, ◌||◌, cond}
use mathlib.Core.List.{[], ◌∷◌, ◌++◌, append_assoc}
use native.Mathlib.Omega.{arith}
use lib.Dec.{T, leb, ltb, ltb→lt, lt→ltb}
use lib.ListN.{length, length-append}
use lib.Seq.{get_or-append_seam}
use Rattle.calculus.specs.Answer.{Answer, good, ◌>>=◌, need}
use Rattle.calculus.specs.Types.{bit, size, TyRec, rec01, rec02, rec03, rec04, rec_eq, Table, rec_at, ty_of, tys_from, tree}
use Rattle.calculus.specs.Read.{known, formed, repeated, check_type}
use Rattle.laws.proofs.Tests.{and_of}
use Rattle.sheet_theorems.specs.Laid.{Agrees, Below, TableOk}
use Rattle.sheet_theorems.proofs.Tables.{checked}
use Rattle.sheet_theorems.proofs.TableRead.{tree_prefix, rec_eq→eq}
use Rattle.notation_calculus.specs.Making.{State, Found, with_type, number_in, listed, more_bits, ones_of}
use Rattle.notation_theorems.proofs.Answering.{On, on_step, on_map, on_test, on_tests}

-- a table that the reader accepts, and that begins with **1**
pub record Ready (Θ : Table) : Type 0 where
  pub ok : TableOk Θ
  pub one : rec_at Θ 0 ≡ rec01
  pub some : 0 < length Θ

abbrev pub Grown : Table → Table → Type 0
Grown Θ Φ = (Ψ : Table) × (Φ ≡ Θ ++ Ψ)

pub grown_same : (Θ : Table) → Grown Θ Θ
grown_same Θ = ([], nothing Θ)
  where
    nothing : (l : Table) → l ≡ l ++ []
    nothing [] = refl
    nothing (r ∷ l) = ap (λ (k : Table). r ∷ k) (nothing l)

pub grown_on : (Θ Φ Χ : Table) → Grown Θ Φ → Grown Φ Χ → Grown Θ Χ
grown_on Θ Φ Χ (Ψ, e) (Ω, f) = (Ψ ++ Ω, f ∙ ap (λ (l : Table). l ++ Ω) e ∙ append_assoc Θ Ψ Ω)

pub grown_length : (Θ Φ : Table) → Grown Θ Φ → length Θ ≤ length Φ
grown_length Θ Φ (Ψ, e) = omega (arith, ap (λ (l : Table). length l) e, length-append Θ Ψ)

pub grown_tree : (Θ Φ : Table) (n : ℕ) → Grown Θ Φ → n < length Θ → tree Φ n ≡ tree Θ n
grown_tree Θ Φ n (Ψ, e) h = ap (λ (l : Table). tree l n) e ∙ tree_prefix Θ Ψ n h

-- type 0 is **1**
pub tree_one : (Θ : Table) → Ready Θ → tree Θ 0 ≡ bit
tree_one Θ R = subst (λ (r : TyRec). Agrees Θ r (tree Θ 0)) R.one (R.ok.agrees 0)

-- ---- a record that stands in the table

-- where it stands, counted from k
abbrev At : Table → ℕ → TyRec → Type 0
At Θ k r = (j : ℕ) × (number_in Θ k r ≡ k + j) × (j < length Θ) × (rec_at Θ j ≡ r)

pub number_of : (Θ : Table) (k : ℕ) (r : TyRec) → T (repeated Θ r) → At Θ k r
number_of [] k r t = absurd t
number_of (q ∷ Θ) k r t = by (rec_eq q r) refl (λ h. number_of Θ (suc k) r h)
  where
    by : (b : Bool) → rec_eq q r ≡ b → (T (repeated Θ r) → At Θ (suc k) r) → At (q ∷ Θ) k r
    by true e go = (0, ap (λ (b : Bool). cond b k (number_in Θ (suc k) r)) e ∙ omega arith, omega arith, rec_eq→eq q r (subst (λ (b : Bool). T b) (sym e) tt))
    by false e go =
        let (j, g, h, f) = go (subst (λ (b : Bool). T (b || repeated Θ r)) e t) in
        (suc j, ap (λ (b : Bool). cond b k (number_in Θ (suc k) r)) e ∙ g ∙ omega arith, omega arith, f)

-- ---- listing a record

known-below : (Θ : Table) (r : TyRec) → Below (length Θ) r → T (known Θ r)
known-below Θ rec01 h = tt
known-below Θ (rec02 a b) h = and_of (ltb a (length Θ)) (ltb b (length Θ)) (lt→ltb a (length Θ) h.0) (lt→ltb b (length Θ) h.1)
known-below Θ (rec03 a b) h = and_of (ltb a (length Θ)) (ltb b (length Θ)) (lt→ltb a (length Θ) h.0) (lt→ltb b (length Θ) h.1)
known-below Θ (rec04 a b) h = and_of (ltb a (length Θ)) (ltb b (length Θ)) (lt→ltb a (length Θ) h.0) (lt→ltb b (length Θ) h.1)

need-passes : (t : Bool) (n p : ℕ) → T t → need t n p ≡ good tt
need-passes true n p h = refl
need-passes false n p h = absurd h

-- the reader's own tests pass
check-passes : (Θ : Table) (r : TyRec) (at : ℕ) → T (known Θ r) → T (formed Θ r) → T (not (repeated Θ r)) → T (leb (size (ty_of (tys_from [] Θ) r)) 128) → check_type Θ r at ≡ good tt
check-passes Θ r at k f n s = rw (need-passes (known Θ r) 5 at k, need-passes (formed Θ r) 6 at f, need-passes (not (repeated Θ r)) 7 at n) (need-passes (leb (size (ty_of (tys_from [] Θ) r)) 128) 8 at s)

-- the number of a record that is listed: the table has grown, and the number stands for the record's type
abbrev pub Listed : State → TyRec → Found → Type 0
Listed σ r x = Ready x.state.table × Grown σ.table x.state.table × (x.type < length x.state.table) × Agrees x.state.table r (tree x.state.table x.type)

ready_more : (Θ : Table) (r : TyRec) → Ready Θ → TableOk (Θ ++ r ∷ []) → Ready (Θ ++ r ∷ [])
ready_more Θ r R ok = record { ok = ok; one = first Θ R.some R.one; some = omega (arith, length-append Θ (r ∷ [])) }
  where
    first : (l : Table) → 0 < length l → rec_at l 0 ≡ rec01 → rec_at (l ++ r ∷ []) 0 ≡ rec01
    first [] h e = absurd (none h)
      where
        none : 0 < 0 → ⊥
        none h = omega arith
    first (q ∷ l) h e = e

found-holds : (σ : State) (r : TyRec) → Ready σ.table → T (repeated σ.table r) → Listed σ r (record { type = number_in σ.table 0 r; state = σ })
found-holds σ r R t =
    let (j, g, h, f) = number_of σ.table 0 r t in
    let e : number_in σ.table 0 r ≡ j = g ∙ omega arith in
    (R, grown_same σ.table, rw e h, rw e (subst (λ (q : TyRec). Agrees σ.table q (tree σ.table j)) f (R.ok.agrees j)))

new_holds : (σ : State) (r : TyRec) → Ready σ.table → TableOk (σ.table ++ r ∷ []) → Listed σ r (record { type = length σ.table; state = with_type σ r })
new_holds σ r R ok =
    let e : rec_at (σ.table ++ r ∷ []) (length σ.table) ≡ r = get_or-append_seam σ.table r [] rec01 in (
      ready_more σ.table r R ok,
      (r ∷ [], refl),
      omega (arith, length-append σ.table (r ∷ [])),
      subst (λ (q : TyRec). Agrees (σ.table ++ r ∷ []) q (tree (σ.table ++ r ∷ []) (length σ.table))) e (ok.agrees (length σ.table)),
    )

pub listed-holds : (σ : State) (r : TyRec) (at : ℕ) → Ready σ.table → Below (length σ.table) r → On (Listed σ r) (listed σ r at)
unfolding listed
listed-holds σ r at R below =
    let new : Answer Found = good (record { type = length σ.table; state = with_type σ r }) in
    let small : Bool = leb (size (ty_of (tys_from [] σ.table) r)) 128 in
    let few : Bool = ltb (length σ.table) 256 in
    on_tests (Listed σ r) (repeated σ.table r) (good (record { type = number_in σ.table 0 r; state = σ })) (need (formed σ.table r) 35 at >>= λ _. need small 34 at >>= λ _. need few 34 at >>= λ _. new) (λ t. found-holds σ r R t) λ t.
    on_test (Listed σ r) (formed σ.table r) 35 at (λ _. need small 34 at >>= λ _. need few 34 at >>= λ _. new) λ f.
    on_test (Listed σ r) small 34 at (λ _. need few 34 at >>= λ _. new) λ s.
    on_test (Listed σ r) few 34 at (λ _. new) λ h.
    let room = ltb→lt (length σ.table) 256 h in
    new_holds σ r R (checked σ.table r at tt R.ok (omega arith) (check-passes σ.table r at (known-below σ.table r below) f t s))

-- ---- bits in a row

-- what listing keeps of a state, a row keeps
pub row_keeps :
    (R : State → State → Type 0) → ((σ : State) → R σ σ) → ((ρ σ τ : State) → R ρ σ → R σ τ → R ρ τ) → ((σ : State) (r : TyRec) (at : ℕ) → On (λ (x : Found). R σ x.state) (listed σ r at))
    → (at n : ℕ) (x : Found) → On (λ (y : Found). R x.state y.state) (more_bits at n x)
row_keeps R same on keeps at zero x = same x.state
row_keeps R same on keeps at (suc n) x = on_step (λ (y : Found). R x.state y.state) (λ (z : Found). R x.state z.state) (listed x.state (rec02 0 x.type) at) (λ y. more_bits at n y) (keeps x.state (rec02 0 x.type) at) λ y h.
    on_map (λ (z : Found). R y.state z.state) (λ (z : Found). R x.state z.state) (more_bits at n y) (row_keeps R same on keeps at n y) λ z k. on x.state y.state z.state h k

pub ones_keep :
    (R : State → State → Type 0) → ((σ : State) → R σ σ) → ((ρ σ τ : State) → R ρ σ → R σ τ → R ρ τ) → ((σ : State) (r : TyRec) (at : ℕ) → On (λ (x : Found). R σ x.state) (listed σ r at))
    → (at place n : ℕ) (σ : State) → On (λ (y : Found). R σ y.state) (ones_of at place n σ)
ones_keep R same on keeps at place zero σ = tt
ones_keep R same on keeps at place (suc n) σ = row_keeps R same on keeps at n (record { type = 0; state = σ })
