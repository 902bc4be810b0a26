-- Putting a linear argument in keeps the type. By induction on the derivation. Assumes nothing.
use Prim.Native.Nat.{ℕ, zero, suc}
use mathlib.Core.Path.{◌≡◌, refl, ap}
use mathlib.Core.Bool.{true, false}
use mathlib.Core.List.{◌∷◌}
use Rattle.calculus.specs.Types.{Ty, Table}
use Rattle.calculus.specs.Terms.{first}
use Rattle.calculus.specs.Rules.{Entry, many, once, away, Ctx, NoLinear, none_end, none_many, none_away, InΓ, in_here, in_many, in_away, IsΔ, is_here, is_many, is_away, Split, split_end, split_many, split_first, split_second, split_away, Typed, Var, LVar, →I, →E, ⊸I, ⊸E, ×I, ×E, Fix, Con}
use Rattle.linear_theorems.specs.Marked.{Marked, mvar, mlvar, mfun, mapp, mlfun, mlapp, mpair, mproj, mfix, mcon, plain}
use Rattle.linear_theorems.specs.PutIn.{above, without, same, raise, put, PutIn, put_here, in_fun, in_app_left, in_app_right, in_lfun, in_lapp_left, in_lapp_right, in_pair_left, in_pair_right, in_proj_left, in_proj_right, in_fix}

-- an entry that a subterm may find in its context and not use
pub data Idle : Entry → Type 0 where
  idle_many : {θ : Ty} → Idle (many θ)
  idle_away : Idle away

-- Γ⁺ is Γ with the entry x put in at binder number j
pub data Ins : ℕ → Entry → Ctx → Ctx → Type 0 where
  ins_here : {x : Entry} {Γ : Ctx} → Ins zero x Γ (x ∷ Γ)
  ins_there : {j : ℕ} {x y : Entry} {Γ Γ⁺ : Ctx} → Ins j x Γ Γ⁺ → Ins (suc j) x (y ∷ Γ) (y ∷ Γ⁺)

-- ---- moving a term under one more binder

none-raise : {c : ℕ} {x : Entry} {Γ Γ⁺ : Ctx} → Idle x → Ins c x Γ Γ⁺ → NoLinear Γ → NoLinear Γ⁺
none-raise idle_many ins_here z = none_many z
none-raise idle_away ins_here z = none_away z
none-raise w (ins_there p) (none_many z) = none_many (none-raise w p z)
none-raise w (ins_there p) (none_away z) = none_away (none-raise w p z)

in_raise : {c i : ℕ} {x : Entry} {θ : Ty} {Γ Γ⁺ : Ctx} → Idle x → Ins c x Γ Γ⁺ → InΓ Γ i θ → InΓ Γ⁺ (above c i) θ
in_raise idle_many ins_here v = in_many v
in_raise idle_away ins_here v = in_away v
in_raise w (ins_there p) (in_here z) = in_here (none-raise w p z)
in_raise w (ins_there p) (in_many v) = in_many (in_raise w p v)
in_raise w (ins_there p) (in_away v) = in_away (in_raise w p v)

is-raise : {c i : ℕ} {x : Entry} {κ : Ty} {Γ Γ⁺ : Ctx} → Idle x → Ins c x Γ Γ⁺ → IsΔ Γ i κ → IsΔ Γ⁺ (above c i) κ
is-raise idle_many ins_here v = is_many v
is-raise idle_away ins_here v = is_away v
is-raise w (ins_there p) (is_here z) = is_here (none-raise w p z)
is-raise w (ins_there p) (is_many v) = is_many (is-raise w p v)
is-raise w (ins_there p) (is_away v) = is_away (is-raise w p v)

-- both halves of a split, each with the entry put in
pub record Halves (j : ℕ) (x : Entry) (Γ⁺ Γ₁ Γ₂ : Ctx) : Type 0 where
  pub one : Ctx
  pub two : Ctx
  pub ins_one : Ins j x Γ₁ one
  pub ins_two : Ins j x Γ₂ two
  pub split : Split Γ⁺ one two

split_raise : {c : ℕ} {x : Entry} {Γ Γ⁺ Γ₁ Γ₂ : Ctx} → Idle x → Ins c x Γ Γ⁺ → Split Γ Γ₁ Γ₂ → Halves c x Γ⁺ Γ₁ Γ₂
split_raise idle_many ins_here z = record { one = _; two = _; ins_one = ins_here; ins_two = ins_here; split = split_many z }
split_raise idle_away ins_here z = record { one = _; two = _; ins_one = ins_here; ins_two = ins_here; split = split_away z }
split_raise w (ins_there p) (split_many z) = let h = split_raise w p z in record { one = _; two = _; ins_one = ins_there h.ins_one; ins_two = ins_there h.ins_two; split = split_many h.split }
split_raise w (ins_there p) (split_first z) = let h = split_raise w p z in record { one = _; two = _; ins_one = ins_there h.ins_one; ins_two = ins_there h.ins_two; split = split_first h.split }
split_raise w (ins_there p) (split_second z) = let h = split_raise w p z in record { one = _; two = _; ins_one = ins_there h.ins_one; ins_two = ins_there h.ins_two; split = split_second h.split }
split_raise w (ins_there p) (split_away z) = let h = split_raise w p z in record { one = _; two = _; ins_one = ins_there h.ins_one; ins_two = ins_there h.ins_two; split = split_away h.split }

module _ {Θ : Table} where
  pub raise_typed : (e : Marked) {c : ℕ} {x : Entry} {Γ Γ⁺ : Ctx} {τ : Ty} → Idle x → Ins c x Γ Γ⁺ → Typed first Θ Γ (plain e) τ → Typed first Θ Γ⁺ (plain (raise c e)) τ
  raise_typed (mvar i) w p (Var v) = Var (in_raise w p v)
  raise_typed (mlvar i) w p (LVar v) = LVar (is-raise w p v)
  raise_typed (mfun t e) w p (→I q s d) = →I q s (raise_typed e w (ins_there p) d)
  raise_typed (mapp f a) w p (→E z s d c) = let h = split_raise w p z in →E h.split s (raise_typed f w h.ins_one d) (raise_typed a w h.ins_two c)
  raise_typed (mlfun t e) w p (⊸I q s d) = ⊸I q s (raise_typed e w (ins_there p) d)
  raise_typed (mlapp f a) w p (⊸E z s d c) = let h = split_raise w p z in ⊸E h.split s (raise_typed f w h.ins_one d) (raise_typed a w h.ins_two c)
  raise_typed (mpair t a b) w p (×I z q s₁ s₂ d c) = let h = split_raise w p z in ×I h.split q s₁ s₂ (raise_typed a w h.ins_one d) (raise_typed b w h.ins_two c)
  raise_typed (mproj a e) w p (×E z s₁ s₂ d c) = let h = split_raise w p z in ×E h.split s₁ s₂ (raise_typed a w h.ins_one d) (raise_typed e w (ins_there (ins_there h.ins_two)) c)
  raise_typed (mfix t e) w p (Fix q s d) = Fix q s (raise_typed e w (ins_there p) d)
  raise_typed (mcon k t m) w p (Con l q z) = Con l q (none-raise w p z)

-- ---- a linear binder that the term does not use is taken out

none-drop : {j : ℕ} {Γ Γ⁺ : Ctx} → Ins j away Γ Γ⁺ → NoLinear Γ⁺ → NoLinear Γ
none-drop ins_here (none_away z) = z
none-drop (ins_there p) (none_many z) = none_many (none-drop p z)
none-drop (ins_there p) (none_away z) = none_away (none-drop p z)

in_drop : {j i : ℕ} {θ : Ty} {Γ Γ⁺ : Ctx} → Ins j away Γ Γ⁺ → InΓ Γ⁺ i θ → InΓ Γ (without j i) θ
in_drop ins_here (in_away v) = v
in_drop (ins_there p) (in_here z) = in_here (none-drop p z)
in_drop (ins_there p) (in_many v) = in_many (in_drop p v)
in_drop (ins_there p) (in_away v) = in_away (in_drop p v)

is-drop : {j i : ℕ} {κ : Ty} {Γ Γ⁺ : Ctx} → Ins j away Γ Γ⁺ → IsΔ Γ⁺ i κ → IsΔ Γ (without j i) κ
is-drop ins_here (is_away v) = v
is-drop (ins_there p) (is_here z) = is_here (none-drop p z)
is-drop (ins_there p) (is_many v) = is_many (is-drop p v)
is-drop (ins_there p) (is_away v) = is_away (is-drop p v)

pub other : {j i : ℕ} {κ : Ty} {Γ Γ⁺ : Ctx} → Ins j away Γ Γ⁺ → IsΔ Γ⁺ i κ → same j i ≡ false
other ins_here (is_away v) = refl
other (ins_there p) (is_here z) = refl
other (ins_there p) (is_many v) = other p v
other (ins_there p) (is_away v) = other p v

pub record Dropped (j : ℕ) (Γ Γ₁⁺ Γ₂⁺ : Ctx) : Type 0 where
  pub one : Ctx
  pub two : Ctx
  pub ins_one : Ins j away one Γ₁⁺
  pub ins_two : Ins j away two Γ₂⁺
  pub split : Split Γ one two

pub split_drop : {j : ℕ} {Γ Γ⁺ Γ₁⁺ Γ₂⁺ : Ctx} → Ins j away Γ Γ⁺ → Split Γ⁺ Γ₁⁺ Γ₂⁺ → Dropped j Γ Γ₁⁺ Γ₂⁺
split_drop ins_here (split_away z) = record { one = _; two = _; ins_one = ins_here; ins_two = ins_here; split = z }
split_drop (ins_there p) (split_many z) = let h = split_drop p z in record { one = _; two = _; ins_one = ins_there h.ins_one; ins_two = ins_there h.ins_two; split = split_many h.split }
split_drop (ins_there p) (split_first z) = let h = split_drop p z in record { one = _; two = _; ins_one = ins_there h.ins_one; ins_two = ins_there h.ins_two; split = split_first h.split }
split_drop (ins_there p) (split_second z) = let h = split_drop p z in record { one = _; two = _; ins_one = ins_there h.ins_one; ins_two = ins_there h.ins_two; split = split_second h.split }
split_drop (ins_there p) (split_away z) = let h = split_drop p z in record { one = _; two = _; ins_one = ins_there h.ins_one; ins_two = ins_there h.ins_two; split = split_away h.split }

module _ {Θ : Table} where
  pub drop_typed : (e a : Marked) {j : ℕ} {Γ Γ⁺ : Ctx} {τ : Ty} → Ins j away Γ Γ⁺ → Typed first Θ Γ⁺ (plain e) τ → Typed first Θ Γ (plain (put j a e)) τ
  drop_typed (mvar i) a p (Var v) = Var (in_drop p v)
  drop_typed (mlvar i) a p (LVar v) = rw (other p v) (LVar (is-drop p v))
  drop_typed (mfun t e) a p (→I q s d) = →I q s (drop_typed e (raise 0 a) (ins_there p) d)
  drop_typed (mapp f b) a p (→E z s d c) = let h = split_drop p z in →E h.split s (drop_typed f a h.ins_one d) (drop_typed b a h.ins_two c)
  drop_typed (mlfun t e) a p (⊸I q s d) = ⊸I q s (drop_typed e (raise 0 a) (ins_there p) d)
  drop_typed (mlapp f b) a p (⊸E z s d c) = let h = split_drop p z in ⊸E h.split s (drop_typed f a h.ins_one d) (drop_typed b a h.ins_two c)
  drop_typed (mpair t b e) a p (×I z q s₁ s₂ d c) = let h = split_drop p z in ×I h.split q s₁ s₂ (drop_typed b a h.ins_one d) (drop_typed e a h.ins_two c)
  drop_typed (mproj b e) a p (×E z s₁ s₂ d c) = let h = split_drop p z in ×E h.split s₁ s₂ (drop_typed b a h.ins_one d) (drop_typed e (raise 0 (raise 0 a)) (ins_there (ins_there h.ins_two)) c)
  drop_typed (mfix t e) a p (Fix q s d) = Fix q s (drop_typed e (raise 0 a) (ins_there p) d)
  drop_typed (mcon k t m) a p (Con l q z) = Con l q (none-drop p z)

-- ---- the argument put in at the one place of its variable

pub none-once : {j : ℕ} {κ : Ty} {Γ Γ⁺ : Ctx} → Ins j (once κ) Γ Γ⁺ → NoLinear Γ⁺ → ⊥
none-once {κ = κ} {Γ = Γ} ins_here x7 = elim x7 [ ]
none-once (ins_there p) (none_many z) = none-once p z
none-once (ins_there p) (none_away z) = none-once p z

pub in_once : {j i : ℕ} {κ θ : Ty} {Γ Γ⁺ : Ctx} → Ins j (once κ) Γ Γ⁺ → InΓ Γ⁺ i θ → ⊥
in_once {i = i} {κ = κ} {θ = θ} {Γ = Γ} ins_here x7 = elim x7 [ ]
in_once (ins_there p) (in_here z) = none-once p z
in_once (ins_there p) (in_many v) = in_once p v
in_once (ins_there p) (in_away v) = in_once p v

-- the variable itself
pub record Itself (j i : ℕ) (κ κ' : Ty) (Γ : Ctx) : Type 0 where
  pub place : same j i ≡ true
  pub type : κ ≡ κ'
  pub rest : NoLinear Γ

pub itself : {j i : ℕ} {κ κ' : Ty} {Γ Γ⁺ : Ctx} → Ins j (once κ) Γ Γ⁺ → IsΔ Γ⁺ i κ' → Itself j i κ κ' Γ
itself ins_here (is_here z) = record { place = refl; type = refl; rest = z }
itself (ins_there p) (is_here z) = absurd (none-once p z)
itself (ins_there p) (is_many v) = let r = itself p v in record { place = r.place; type = r.type; rest = none_many r.rest }
itself (ins_there p) (is_away v) = let r = itself p v in record { place = r.place; type = r.type; rest = none_away r.rest }

-- a half without linear variables leaves the whole to the other
pub split_none : {Γ Γ₁ Γ₂ : Ctx} → Split Γ Γ₁ Γ₂ → NoLinear Γ₁ → Γ₂ ≡ Γ
split_none (split_first {κ = κ} {Γ = Γ} {Γ₁ = Γ₁} {Γ₂ = Γ₂} _) x6 = elim x6 [ ]
split_none split_end none_end = refl
split_none (split_many {θ = θ} z) (none_many n) = ap (λ (r : Ctx). many θ ∷ r) (split_none z n)
split_none (split_second {κ = κ} z) (none_away n) = ap (λ (r : Ctx). once κ ∷ r) (split_none z n)
split_none (split_away z) (none_away n) = ap (λ (r : Ctx). away ∷ r) (split_none z n)

-- which half of a split has the variable
pub data TakenBy (j : ℕ) (κ : Ty) (Γ A B : Ctx) : Type 0 where
  by_first : {A₀ B₀ : Ctx} → Ins j (once κ) A₀ A → Ins j away B₀ B → Split Γ A₀ B₀ → TakenBy j κ Γ A B
  by_second : {A₀ B₀ : Ctx} → Ins j away A₀ A → Ins j (once κ) B₀ B → Split Γ A₀ B₀ → TakenBy j κ Γ A B

under_many : {j : ℕ} {κ θ : Ty} {Γ A B : Ctx} → TakenBy j κ Γ A B → TakenBy (suc j) κ (many θ ∷ Γ) (many θ ∷ A) (many θ ∷ B)
under_many (by_first p q z) = by_first (ins_there p) (ins_there q) (split_many z)
under_many (by_second p q z) = by_second (ins_there p) (ins_there q) (split_many z)

under_first : {j : ℕ} {κ ι : Ty} {Γ A B : Ctx} → TakenBy j κ Γ A B → TakenBy (suc j) κ (once ι ∷ Γ) (once ι ∷ A) (away ∷ B)
under_first (by_first p q z) = by_first (ins_there p) (ins_there q) (split_first z)
under_first (by_second p q z) = by_second (ins_there p) (ins_there q) (split_first z)

under-second : {j : ℕ} {κ ι : Ty} {Γ A B : Ctx} → TakenBy j κ Γ A B → TakenBy (suc j) κ (once ι ∷ Γ) (away ∷ A) (once ι ∷ B)
under-second (by_first p q z) = by_first (ins_there p) (ins_there q) (split_second z)
under-second (by_second p q z) = by_second (ins_there p) (ins_there q) (split_second z)

under_away : {j : ℕ} {κ : Ty} {Γ A B : Ctx} → TakenBy j κ Γ A B → TakenBy (suc j) κ (away ∷ Γ) (away ∷ A) (away ∷ B)
under_away (by_first p q z) = by_first (ins_there p) (ins_there q) (split_away z)
under_away (by_second p q z) = by_second (ins_there p) (ins_there q) (split_away z)

pub split_take : {j : ℕ} {κ : Ty} {Γ Γ⁺ A B : Ctx} → Ins j (once κ) Γ Γ⁺ → Split Γ⁺ A B → TakenBy j κ Γ A B
split_take ins_here (split_first z) = by_first ins_here ins_here z
split_take ins_here (split_second z) = by_second ins_here ins_here z
split_take (ins_there p) (split_many z) = under_many (split_take p z)
split_take (ins_there p) (split_first z) = under_first (split_take p z)
split_take (ins_there p) (split_second z) = under-second (split_take p z)
split_take (ins_there p) (split_away z) = under_away (split_take p z)

-- the third part goes with the first, or with the second
with_first : {Γ Γ₁ Γ₂ A B : Ctx} → Split Γ Γ₁ Γ₂ → Split Γ₁ A B → (Γ' : Ctx) × Split Γ Γ' B × Split Γ' A Γ₂
with_first split_end split_end = (_, split_end, split_end)
with_first (split_many y) (split_many z) = let (g, p, q) = with_first y z in (_, split_many p, split_many q)
with_first (split_first y) (split_first z) = let (g, p, q) = with_first y z in (_, split_first p, split_first q)
with_first (split_first y) (split_second z) = let (g, p, q) = with_first y z in (_, split_second p, split_away q)
with_first (split_second y) (split_away z) = let (g, p, q) = with_first y z in (_, split_first p, split_second q)
with_first (split_away y) (split_away z) = let (g, p, q) = with_first y z in (_, split_away p, split_away q)

with_second : {Γ Γ₁ Γ₂ A B : Ctx} → Split Γ Γ₁ Γ₂ → Split Γ₁ A B → (Γ' : Ctx) × Split Γ A Γ' × Split Γ' B Γ₂
with_second split_end split_end = (_, split_end, split_end)
with_second (split_many y) (split_many z) = let (g, p, q) = with_second y z in (_, split_many p, split_many q)
with_second (split_first y) (split_first z) = let (g, p, q) = with_second y z in (_, split_first p, split_away q)
with_second (split_first y) (split_second z) = let (g, p, q) = with_second y z in (_, split_second p, split_first q)
with_second (split_second y) (split_away z) = let (g, p, q) = with_second y z in (_, split_second p, split_second q)
with_second (split_away y) (split_away z) = let (g, p, q) = with_second y z in (_, split_away p, split_away q)

module _ {Θ : Table} where
  pub put_typed : (e a : Marked) {j : ℕ} {κ τ : Ty} {Γ Γ₁ Γ₂ Γ⁺ : Ctx} → Ins j (once κ) Γ₁ Γ⁺ → Split Γ Γ₁ Γ₂ → Typed first Θ Γ⁺ (plain e) τ → Typed first Θ Γ₂ (plain a) κ → Typed first Θ Γ (plain (put j a e)) τ
  put_typed (mvar i) a p y (Var v) h = absurd (in_once p v)
  put_typed (mlvar i) a p y (LVar v) h = let r = itself p v in rw r.place (rw (split_none y r.rest, r.type) at h)
  put_typed (mfun t e) a p y (→I q s d) h = →I q s (put_typed e (raise 0 a) (ins_there p) (split_many y) d (raise_typed a idle_many ins_here h))
  put_typed (mapp f b) a p y (→E z s d c) h =
      elim (split_take p z) [
        | by_first u v w ↦ let (g, m, n) = with_first y w in →E m s (put_typed f a u n d h) (drop_typed b a v c)
        | by_second u v w ↦ let (g, m, n) = with_second y w in →E m s (drop_typed f a u d) (put_typed b a v n c h)
      ]
  put_typed (mlfun t e) a p y (⊸I q s d) h = ⊸I q s (put_typed e (raise 0 a) (ins_there p) (split_first y) d (raise_typed a idle_away ins_here h))
  put_typed (mlapp f b) a p y (⊸E z s d c) h =
      elim (split_take p z) [
        | by_first u v w ↦ let (g, m, n) = with_first y w in ⊸E m s (put_typed f a u n d h) (drop_typed b a v c)
        | by_second u v w ↦ let (g, m, n) = with_second y w in ⊸E m s (drop_typed f a u d) (put_typed b a v n c h)
      ]
  put_typed (mpair t f b) a p y (×I z q s₁ s₂ d c) h =
      elim (split_take p z) [
        | by_first u v w ↦ let (g, m, n) = with_first y w in ×I m q s₁ s₂ (put_typed f a u n d h) (drop_typed b a v c)
        | by_second u v w ↦ let (g, m, n) = with_second y w in ×I m q s₁ s₂ (drop_typed f a u d) (put_typed b a v n c h)
      ]
  put_typed (mproj f b) a p y (×E z s₁ s₂ d c) h =
      elim (split_take p z) [
        | by_first u v w ↦ let (g, m, n) = with_first y w in ×E m s₁ s₂ (put_typed f a u n d h) (drop_typed b (raise 0 (raise 0 a)) (ins_there (ins_there v)) c)
        | by_second u v w ↦
            let (g, m, n) = with_second y w in
            ×E m s₁ s₂ (drop_typed f a u d) (put_typed b (raise 0 (raise 0 a)) (ins_there (ins_there v)) (split_many (split_many n)) c (raise_typed (raise 0 a) idle_many ins_here (raise_typed a idle_many ins_here h)))
      ]
  put_typed (mfix t e) a p y (Fix q s d) h = Fix q s (put_typed e (raise 0 a) (ins_there p) (split_many y) d (raise_typed a idle_many ins_here h))
  put_typed (mcon k t m) a p y (Con l q z) h = absurd (none-once p z)

  -- a linear function that is applied, written out anywhere in a term, keeps the term's type
  pub put_in_typed : {Γ : Ctx} {τ : Ty} {e e' : Marked} → PutIn e e' → Typed first Θ Γ (plain e) τ → Typed first Θ Γ (plain e') τ
  put_in_typed (put_here {e = e} {a = a}) (⊸E z _ (⊸I q s d) c) = put_typed e a ins_here z d c
  put_in_typed (in_fun r) (→I q s d) = →I q s (put_in_typed r d)
  put_in_typed (in_app_left r) (→E z s d c) = →E z s (put_in_typed r d) c
  put_in_typed (in_app_right r) (→E z s d c) = →E z s d (put_in_typed r c)
  put_in_typed (in_lfun r) (⊸I q s d) = ⊸I q s (put_in_typed r d)
  put_in_typed (in_lapp_left r) (⊸E z s d c) = ⊸E z s (put_in_typed r d) c
  put_in_typed (in_lapp_right r) (⊸E z s d c) = ⊸E z s d (put_in_typed r c)
  put_in_typed (in_pair_left r) (×I z q s₁ s₂ d c) = ×I z q s₁ s₂ (put_in_typed r d) c
  put_in_typed (in_pair_right r) (×I z q s₁ s₂ d c) = ×I z q s₁ s₂ d (put_in_typed r c)
  put_in_typed (in_proj_left r) (×E z s₁ s₂ d c) = ×E z s₁ s₂ (put_in_typed r d) c
  put_in_typed (in_proj_right r) (×E z s₁ s₂ d c) = ×E z s₁ s₂ d (put_in_typed r c)
  put_in_typed (in_fix r) (Fix q s d) = Fix q s (put_in_typed r d)
