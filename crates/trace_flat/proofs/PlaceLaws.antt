-- The places: each register and each gate has its own, and all other terminals that by their number. Assumes nothing.
use Prim.Native.Nat.{ℕ, zero, suc, ◌+◌, ◌≤◌, ◌<◌}
use mathlib.Core.Path.{◌≡◌, refl, sym, ap, ◌∙◌, subst}
use mathlib.Core.Logic.{◌⊎◌, inl, inr, ⊎_elim}
use mathlib.Core.List.{List}
use native.Mathlib.Omega.{arith}
use native.Mathlib.Decide.{ℕ_discrete}
use lib.ListN.{length, get_or, set}
use Rattle.memory.specs.Map.{memory_size}
use Rattle.lean.specs.Table.{Within}
use Rattle.lean.proofs.TableLaws.{within_none, within_then, within-set, entry-same, entry_other}
use Rattle.trace_steps.specs.Map.{registers_at, order_at, bits_at}
use Rattle.trace_steps.specs.Turns.{take_turns}
use Rattle.trace_steps.specs.Words.{word_at}
use Rattle.trace_steps.proofs.Laws.{turns_next}
use Rattle.trace_flat.specs.Flat.{flat_most, shown_at, gates_at, place_one, place_register, place_gate}
use Rattle.trace_flat.specs.Shows.{gate_at, register_at, Places}

-- a number is among the first k of a list, or not
unfoldable pub Sought : (ℕ → ℕ) → ℕ → ℕ → Type 0
Sought f x k = ((j : ℕ) × (j < k) × (f j ≡ x)) ⊎ ((j : ℕ) → j < k → f j ≡ x → ⊥)

pub sought : (f : ℕ → ℕ) (x k : ℕ) → Sought f x k
unfolding Sought
sought f x zero = inr (λ j h. absurd (omega arith))
sought f x (suc k) = elim (ℕ_discrete (f k) x) [
  | yes e ↦ inl (k, omega arith, e)
  | no d ↦ ⊎_elim (λ (s : (j : ℕ) × (j < k) × (f j ≡ x)). inl (s.0, (let h = s.1 in omega arith), s.2)) (λ (s : (j : ℕ) → j < k → f j ≡ x → ⊥). inr (λ j h q. elim (ℕ_discrete j k) [
    | yes e ↦ d (sym (ap f e) ∙ q)
    | no g ↦ s j (omega arith) q
  ])) (sought f x k)
]

own_at : (u : List ℕ) → memory_size ≤ length u → (k : ℕ) → k ≤ 8192 → Within u (take_turns place_one k 0 u) × ((x : ℕ) → x < k → word_at (take_turns place_one k 0 u) x ≡ bits_at + x)
own_at u z zero h = (within_none u, λ x q. absurd (omega arith))
own_at u z (suc k) h =
    let r = own_at u z k (omega arith) in
    let w = take_turns place_one k 0 u in
    let e : k + 1 ≡ suc k = omega arith in
    let a = turns_next place_one k u w refl ∙ ap (λ (m : ℕ). take_turns place_one m 0 u) e in
    let s = r.0.size in
    subst (λ (v : List ℕ). Within u v × ((x : ℕ) → x < suc k → word_at v x ≡ bits_at + x)) a (
      within_then r.0 (within-set w k _ (omega arith)),
      λ x q. elim (ℕ_discrete x k) [
        | yes d ↦ ap (word_at (place_one k w)) d ∙ entry-same w k _ (omega arith) (omega arith) ∙ ap (λ (y : ℕ). bits_at + y) (sym d)
        | no d ↦ entry_other w k x _ d ∙ r.1 x (omega arith)
      ],
    )

-- the outputs of a list get numbers
abbrev pub place_at_lem : ℕ → (ℕ → ℕ) → ℕ → List ℕ → List ℕ
place_at_lem l f j w = set w (bits_at + get_or w (l + j) 0) (f j)

pub record Side (l : ℕ) (val : ℕ → ℕ) (u : List ℕ) (k : ℕ) (w : List ℕ) : Type 0 where
  pub within : Within u w
  pub listed : (j : ℕ) → j < k → word_at w (get_or u (l + j) 0) ≡ val j
  pub others : (x : ℕ) → ((j : ℕ) → j < k → get_or u (l + j) 0 ≡ x → ⊥) → word_at w x ≡ word_at u x

module _ (l : ℕ) (val : ℕ → ℕ) (n : ℕ) (u : List ℕ) (size : memory_size ≤ length u) (low : l + n ≤ bits_at) (terminal : (j : ℕ) → j < n → get_or u (l + j) 0 < 8192)
    (apart : (i j : ℕ) → i < n → j < n → get_or u (l + i) 0 ≡ get_or u (l + j) 0 → i ≡ j) where
  side-next : (k : ℕ) (w : List ℕ) → k < n → Side l val u k w → Side l val u (suc k) (place_at_lem l val k w)
  side-next k w h s =
      let o = get_or u (l + k) 0 in
      let e = s.within.below (l + k) (omega arith) in
      let z = s.within.size in
      let t = terminal k h in
      subst (λ (y : ℕ). Side l val u (suc k) (set w (bits_at + y) (val k))) (sym e) (record {
        within = within_then s.within (within-set w o _ t);
        listed = λ j q. elim (ℕ_discrete j k) [
          | yes d ↦ ap (λ (y : ℕ). word_at (set w (bits_at + o) (val k)) (get_or u (l + y) 0)) d ∙ entry-same w o _ (omega arith) t ∙ ap val (sym d)
          | no d ↦ entry_other w o (get_or u (l + j) 0) _ (λ y. d (apart j k (omega arith) h y)) ∙ s.listed j (omega arith)
        ];
        others = λ x f. entry_other w o x _ (λ y. f k (omega arith) (sym y)) ∙ s.others x (λ j q. f j (omega arith));
      })

  pub side_all : (k : ℕ) → k ≤ n → Side l val u k (take_turns (place_at_lem l val) k 0 u)
  side_all zero h = record { within = within_none u; listed = λ j q. absurd (omega arith); others = λ x f. refl }
  side_all (suc k) h =
      let e : k + 1 ≡ suc k = omega arith in
      subst (λ (v : List ℕ). Side l val u (suc k) v) (turns_next (place_at_lem l val) k u (take_turns (place_at_lem l val) k 0 u) refl ∙ ap (λ (m : ℕ). take_turns (place_at_lem l val) m 0 u) e)
      (side-next k (take_turns (place_at_lem l val) k 0 u) h (side_all k (omega arith)))

-- what is asked of order and registers: each is there once, and none is both
module _ (u : List ℕ) (n r : ℕ) (size : memory_size ≤ length u) (few : n ≤ flat_most) (few_registers : r ≤ flat_most) (gate_low : (j : ℕ) → j < n → gate_at u j < 8192) (register-low : (j : ℕ) → j < r → register_at u j < 8192)
    (gates-apart : (i j : ℕ) → i < n → j < n → gate_at u i ≡ gate_at u j → i ≡ j) (registers-apart : (i j : ℕ) → i < r → j < r → register_at u i ≡ register_at u j → i ≡ j)
    (both : (i j : ℕ) → i < n → j < r → gate_at u i ≡ register_at u j → ⊥) where
  m₁ : List ℕ
  m₁ = take_turns place_one 8192 0 u

  m₂ : List ℕ
  m₂ = take_turns place_register r 0 (take_turns place_one 8192 0 u)

  one : Within u m₁ × ((x : ℕ) → x < 8192 → word_at m₁ x ≡ bits_at + x)
  unfolding m₁
  one = own_at u size 8192 (omega arith)

  register₁ : (j : ℕ) → j < r → get_or m₁ (registers_at + j) 0 ≡ register_at u j
  register₁ j h = one.0.below (registers_at + j) (omega arith)

  two : Side registers_at (λ j. shown_at + j) m₁ r m₂
  unfolding m₁ m₂
  two =
      let z = one.0.size in
      side_all registers_at (λ j. shown_at + j) r m₁ (omega arith) (omega arith) (λ j h. subst (λ (y : ℕ). y < 8192) (sym (register₁ j h)) (register-low j h))
      (λ i j h k e. registers-apart i j h k (sym (register₁ i h) ∙ e ∙ register₁ j k)) r (omega arith)

  gate₂ : (j : ℕ) → j < n → get_or m₂ (order_at + j) 0 ≡ gate_at u j
  gate₂ j h = two.within.below (order_at + j) (omega arith) ∙ one.0.below (order_at + j) (omega arith)

  -- the places, as they stand among the bits while the layout is made
  three : Side order_at (λ j. gates_at + j) m₂ n (take_turns place_gate n 0 (take_turns place_register r 0 (take_turns place_one 8192 0 u)))
  unfolding m₂
  three =
      let z = one.0.size in
      let y = two.within.size in
      side_all order_at (λ j. gates_at + j) n m₂ (omega arith) (omega arith) (λ j h. subst (λ (y : ℕ). y < 8192) (sym (gate₂ j h)) (gate_low j h))
      (λ i j h k e. gates-apart i j h k (sym (gate₂ i h) ∙ e ∙ gate₂ j k)) n (omega arith)

  module _ (m : List ℕ) (is : m ≡ take_turns place_gate n 0 (take_turns place_register r 0 (take_turns place_one 8192 0 u))) where
    last : Side order_at (λ j. gates_at + j) m₂ n m
    last = subst (λ (w : List ℕ). Side order_at (λ j. gates_at + j) m₂ n w) (sym is) three

    gate-place : (j : ℕ) → j < n → word_at m (gate_at u j) ≡ gates_at + j
    gate-place j h = ap (word_at m) (sym (gate₂ j h)) ∙ last.listed j h

    not-gate : (x : ℕ) → ((j : ℕ) → j < n → gate_at u j ≡ x → ⊥) → word_at m x ≡ word_at m₂ x
    not-gate x f = last.others x (λ j h e. f j h (sym (gate₂ j h) ∙ e))

    register-place : (j : ℕ) → j < r → word_at m (register_at u j) ≡ shown_at + j
    register-place j h = not-gate (register_at u j) (λ i k e. both i j k h e) ∙ ap (word_at m₂) (sym (register₁ j h)) ∙ two.listed j h

    pub own-place : (x : ℕ) → x < 8192 → ((j : ℕ) → j < n → gate_at u j ≡ x → ⊥) → ((j : ℕ) → j < r → register_at u j ≡ x → ⊥) → word_at m x ≡ bits_at + x
    own-place x h f g = not-gate x f ∙ two.others x (λ j k e. g j k (sym (register₁ j k) ∙ e)) ∙ one.1 x h

    -- one of three
    abbrev pub Case : ℕ → Type 0
    Case x = ((j : ℕ) × (j < n) × (gate_at u j ≡ x)) ⊎ (((j : ℕ) × (j < r) × (register_at u j ≡ x)) ⊎ (word_at m x ≡ bits_at + x))

    pub case : (x : ℕ) → x < 8192 → Case x
    unfolding Sought
    case x h =
        ⊎_elim (λ (a : (j : ℕ) × (j < n) × (gate_at u j ≡ x)). inl a)
        (λ (f : (j : ℕ) → j < n → gate_at u j ≡ x → ⊥). ⊎_elim (λ (b : (j : ℕ) × (j < r) × (register_at u j ≡ x)). inr (inl b)) (λ (g : (j : ℕ) → j < r → register_at u j ≡ x → ⊥). inr (inr (own-place x h f g))) (sought (register_at u) x r)) (sought (gate_at u) x n)

    at-gate : (x : ℕ) (a : (j : ℕ) × (j < n) × (gate_at u j ≡ x)) → word_at m x ≡ gates_at + a.0
    at-gate x a = ap (word_at m) (sym a.2) ∙ gate-place a.0 a.1

    at_register : (x : ℕ) (a : (j : ℕ) × (j < r) × (register_at u j ≡ x)) → word_at m x ≡ shown_at + a.0
    at_register x a = ap (word_at m) (sym a.2) ∙ register-place a.0 a.1

    pub places-are : (end : ℕ) → end ≤ 8192 → Places u n r end (word_at m)
    places-are end few_terminals = record {
      gate = gate-place;
      gate_only = λ x j lx h e. ⊎_elim (λ (a : (i : ℕ) × (i < n) × (gate_at u i ≡ x)). (let q = at-gate x a in let same : a.0 ≡ j = omega arith in sym a.2 ∙ ap (gate_at u) same))
          (λ z. ⊎_elim (λ (a : (i : ℕ) × (i < r) × (register_at u i ≡ x)). (let q = at_register x a in let k = a.1 in absurd (omega arith))) (λ (q : word_at m x ≡ bits_at + x). absurd (omega arith)) z) (case x (omega arith));
      register = register-place;
      register_only = λ x j lx h e. ⊎_elim (λ (a : (i : ℕ) × (i < n) × (gate_at u i ≡ x)). (let q = at-gate x a in absurd (omega arith)))
          (λ z. ⊎_elim (λ (a : (i : ℕ) × (i < r) × (register_at u i ≡ x)). (let q = at_register x a in let same : a.0 ≡ j = omega arith in sym a.2 ∙ ap (register_at u) same)) (λ (q : word_at m x ≡ bits_at + x). absurd (omega arith)) z) (case x (omega arith));
      where_is = λ x lx. ⊎_elim (λ (a : (i : ℕ) × (i < n) × (gate_at u i ≡ x)). inl (let q = at-gate x a in let k = a.1 in (omega arith, omega arith)))
          (λ z. ⊎_elim (λ (a : (i : ℕ) × (i < r) × (register_at u i ≡ x)). inr (inl (let q = at_register x a in let k = a.1 in (omega arith, omega arith)))) (λ (q : word_at m x ≡ bits_at + x). inr (inr q)) z) (case x (omega arith));
    }
