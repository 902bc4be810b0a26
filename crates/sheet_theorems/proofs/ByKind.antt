-- The kind byte says which form the term has that stands there, with its numbers and where its subterms stand. Assumes nothing.
use Prim.Native.Nat.{ℕ, ◌+◌}
use mathlib.Core.Path.{◌≡◌, refl, sym, ap, ap₂, subst, ◌∙◌}
use mathlib.Core.List.{List}
use lib.ListN.{length}
use Rattle.calculus.specs.Terms.{Term, var, lvar, fun, app, lfun, lapp, pair, proj, fix, con, name}
use Rattle.calculus.specs.Read.{node, NodeKind, k11, k12, k13, k14, k15, k16, k17, k18, k19, k1A, k1B, kind_of, byte}
use Rattle.calculus.specs.Write.{term_bytes}
use Rattle.sheet_theorems.specs.Laid.{Stands}
use Rattle.sheet_theorems.proofs.Standing.{kind_in, stands-kind, stands-node, var_binder, lvar_binder, fun_type, fun_body, app_function, app_argument, lfun_type, lfun_body, lapp_function, lapp_argument, pair_type, pair_first, pair_second, proj_pair, proj_body, fix_type, fix_body, con_part, con_type, name-first, name_body}

-- a node with one subterm, after a type number
pub record OneSubterm (mk : ℕ → Term → Term) (s : List ℕ) (at : ℕ) (e : Term) : Type 0 where
  pub body : Term
  pub term_is : e ≡ mk (byte s (at + 1)) body
  pub stands : Stands s (at + 2) body

-- a node with two subterms
pub record Two (mk : Term → Term → Term) (s : List ℕ) (at : ℕ) (e : Term) : Type 0 where
  pub first : Term
  pub second : Term
  pub term_is : e ≡ mk first second
  pub stands_first : Stands s (at + 1) first
  pub stands_second : Stands s (at + 1 + length (term_bytes first)) second

-- a pair: two subterms, after a type number
pub record TwoSubterms (s : List ℕ) (at : ℕ) (e : Term) : Type 0 where
  pub first : Term
  pub second : Term
  pub term_is : e ≡ pair (byte s (at + 1)) first second
  pub stands_first : Stands s (at + 2) first
  pub stands_second : Stands s (at + 2 + length (term_bytes first)) second

abbrev pub Form : NodeKind → List ℕ → ℕ → Term → Type 0
Form k11 s at e = e ≡ var (byte s (at + 1))
Form k12 s at e = e ≡ lvar (byte s (at + 1))
Form k13 s at e = OneSubterm fun s at e
Form k14 s at e = Two app s at e
Form k15 s at e = OneSubterm lfun s at e
Form k16 s at e = Two lapp s at e
Form k17 s at e = TwoSubterms s at e
Form k18 s at e = Two proj s at e
Form k19 s at e = OneSubterm fix s at e
Form k1A s at e = e ≡ con (byte s (at + 1)) (byte s (at + 2))
Form k1B s at e = Two name s at e

module _ {s : List ℕ} {at : ℕ} where
  own-form : (e : Term) → Stands s at e → Form (kind_in e) s at e
  own-form (var i) h = ap var (sym (var_binder h))
  own-form (lvar i) h = ap lvar (sym (lvar_binder h))
  own-form (fun t e) h = record { body = e; term_is = ap (λ (t : ℕ). fun t e) (sym (fun_type h)); stands = fun_body h }
  own-form (app f a) h = record { first = f; second = a; term_is = refl; stands_first = app_function h; stands_second = app_argument h }
  own-form (lfun t e) h = record { body = e; term_is = ap (λ (t : ℕ). lfun t e) (sym (lfun_type h)); stands = lfun_body h }
  own-form (lapp f a) h = record { first = f; second = a; term_is = refl; stands_first = lapp_function h; stands_second = lapp_argument h }
  own-form (pair t a b) h = record { first = a; second = b; term_is = ap (λ (t : ℕ). pair t a b) (sym (pair_type h)); stands_first = pair_first h; stands_second = pair_second h }
  own-form (proj a e) h = record { first = a; second = e; term_is = refl; stands_first = proj_pair h; stands_second = proj_body h }
  own-form (fix t e) h = record { body = e; term_is = ap (λ (t : ℕ). fix t e) (sym (fix_type h)); stands = fix_body h }
  own-form (con p t) h = ap₂ con (sym (con_part h)) (sym (con_type h))
  own-form (name a e) h = record { first = a; second = e; term_is = refl; stands_first = name-first h; stands_second = name_body h }

  pub by_kind : {e : Term} → Stands s at e → (k : NodeKind) → kind_of (byte s at) ≡ node k → Form k s at e
  by_kind {e} h k d =
      let z : node (kind_in e) ≡ node k = sym (stands-node h) ∙ d in
      let w : kind_in e ≡ k = cc in
      subst (λ (k : NodeKind). Form k s at e) w (own-form e h)

  -- by the byte itself
  pub at_11 : {e : Term} → Stands s at e → byte s at ≡ 0x11 → e ≡ var (byte s (at + 1))
  at_11 h d = by_kind h k11 (ap kind_of d)

  pub at_12 : {e : Term} → Stands s at e → byte s at ≡ 0x12 → e ≡ lvar (byte s (at + 1))
  at_12 h d = by_kind h k12 (ap kind_of d)

  pub at_13 : {e : Term} → Stands s at e → byte s at ≡ 0x13 → OneSubterm fun s at e
  at_13 h d = by_kind h k13 (ap kind_of d)

  pub at_14 : {e : Term} → Stands s at e → byte s at ≡ 0x14 → Two app s at e
  at_14 h d = by_kind h k14 (ap kind_of d)

  pub at_15 : {e : Term} → Stands s at e → byte s at ≡ 0x15 → OneSubterm lfun s at e
  at_15 h d = by_kind h k15 (ap kind_of d)

  pub at_16 : {e : Term} → Stands s at e → byte s at ≡ 0x16 → Two lapp s at e
  at_16 h d = by_kind h k16 (ap kind_of d)

  pub at_17 : {e : Term} → Stands s at e → byte s at ≡ 0x17 → TwoSubterms s at e
  at_17 h d = by_kind h k17 (ap kind_of d)

  pub at_18 : {e : Term} → Stands s at e → byte s at ≡ 0x18 → Two proj s at e
  at_18 h d = by_kind h k18 (ap kind_of d)

  pub at_19 : {e : Term} → Stands s at e → byte s at ≡ 0x19 → OneSubterm fix s at e
  at_19 h d = by_kind h k19 (ap kind_of d)

  pub at_1_a : {e : Term} → Stands s at e → byte s at ≡ 0x1A → e ≡ con (byte s (at + 1)) (byte s (at + 2))
  at_1_a h d = by_kind h k1A (ap kind_of d)

  pub at_1_b : {e : Term} → Stands s at e → byte s at ≡ 0x1B → Two name s at e
  at_1_b h d = by_kind h k1B (ap kind_of d)

-- ---- prefix order is unambiguous: one term stands at an offset

module _ (s : List ℕ) where
  same-one : (mk : ℕ → Term → Term) (t at : ℕ) (e u : Term) → byte s (at + 1) ≡ t → OneSubterm mk s at u → ((b : Term) → Stands s (at + 2) b → e ≡ b) → mk t e ≡ u
  same-one mk t at e u p f ih = let h = ih f.body f.stands in let z = f.term_is in rw (z, p, h)

  same-two : (mk : Term → Term → Term) (at : ℕ) (a b u : Term) → Two mk s at u → ((c : Term) → Stands s (at + 1) c → a ≡ c) → ((c : Term) → Stands s (at + 1 + length (term_bytes a)) c → b ≡ c) → mk a b ≡ u
  same-two mk at a b u f ia ib =
      let h = ia f.first f.stands_first in
      let k = ib f.second (subst (λ (c : Term). Stands s (at + 1 + length (term_bytes c)) f.second) (sym h) f.stands_second) in
      let z = f.term_is in
      rw (z, h, k)

  same-both : (t at : ℕ) (a b u : Term) → byte s (at + 1) ≡ t → TwoSubterms s at u → ((c : Term) → Stands s (at + 2) c → a ≡ c) → ((c : Term) → Stands s (at + 2 + length (term_bytes a)) c → b ≡ c) → pair t a b ≡ u
  same-both t at a b u p f ia ib =
      let h = ia f.first f.stands_first in
      let k = ib f.second (subst (λ (c : Term). Stands s (at + 2 + length (term_bytes c)) f.second) (sym h) f.stands_second) in
      let z = f.term_is in
      rw (z, p, h, k)

  pub stands_one : (e u : Term) (at : ℕ) → Stands s at e → Stands s at u → e ≡ u
  stands_one (var i) u at h k = ap var (sym (var_binder h)) ∙ sym (at_11 k (stands-kind h))
  stands_one (lvar i) u at h k = ap lvar (sym (lvar_binder h)) ∙ sym (at_12 k (stands-kind h))
  stands_one (fun t e) u at h k = same-one fun t at e u (fun_type h) (at_13 k (stands-kind h)) (λ b l. stands_one e b (at + 2) (fun_body h) l)
  stands_one (app f a) u at h k = same-two app at f a u (at_14 k (stands-kind h)) (λ b l. stands_one f b (at + 1) (app_function h) l) (λ b l. stands_one a b _ (app_argument h) l)
  stands_one (lfun t e) u at h k = same-one lfun t at e u (lfun_type h) (at_15 k (stands-kind h)) (λ b l. stands_one e b (at + 2) (lfun_body h) l)
  stands_one (lapp f a) u at h k = same-two lapp at f a u (at_16 k (stands-kind h)) (λ b l. stands_one f b (at + 1) (lapp_function h) l) (λ b l. stands_one a b _ (lapp_argument h) l)
  stands_one (pair t a b) u at h k = same-both t at a b u (pair_type h) (at_17 k (stands-kind h)) (λ c l. stands_one a c (at + 2) (pair_first h) l) (λ c l. stands_one b c _ (pair_second h) l)
  stands_one (proj a e) u at h k = same-two proj at a e u (at_18 k (stands-kind h)) (λ b l. stands_one a b (at + 1) (proj_pair h) l) (λ b l. stands_one e b _ (proj_body h) l)
  stands_one (fix t e) u at h k = same-one fix t at e u (fix_type h) (at_19 k (stands-kind h)) (λ b l. stands_one e b (at + 2) (fix_body h) l)
  stands_one (con p t) u at h k = ap₂ con (sym (con_part h)) (sym (con_type h)) ∙ sym (at_1_a k (stands-kind h))
  stands_one (name a e) u at h k = same-two name at a e u (at_1_b k (stands-kind h)) (λ b l. stands_one a b (at + 1) (name-first h) l) (λ b l. stands_one e b _ (name_body h) l)
