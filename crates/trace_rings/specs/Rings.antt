-- The search back from an input, over the working memory: among the rest the outputs that no order settles, by falling number; in the order's
-- room those that are met; as marks 1 for what is settled, and a stamp for what is met. Assumes nothing.
use Rattle.std.specs.Prelude.{ℕ, ◌+◌, ◌-◌, ◌≤◌, ◌<◌, ◌≡◌, ◌⊎◌, Bool, true, false, cond, ◌||◌, List, length, get_or, set, eqb}
use Rattle.memory.specs.Map.{memory_size}
use Rattle.trace_steps.specs.Map.{rest_at, order_at, bits_at, bits_end}
use Rattle.trace_steps.specs.Steps.{first_in, Looks}
use Rattle.trace_steps.specs.Pins.{Counted, counted}

abbrev pub mark : List ℕ → ℕ → ℕ
mark w x = get_or w (bits_at + x) 0

-- the j-th output that is left, and the k-th that is met
abbrev pub rest : List ℕ → ℕ → ℕ
rest w j = get_or w (rest_at + j) 0

abbrev pub met : List ℕ → ℕ → ℕ
met w k = get_or w (order_at + k) 0

-- x is an input of output o
abbrev pub InputOf : List ℕ → ℕ → ℕ → Type 0
InputOf w o x = (x ≡ first_in w o) ⊎ (x ≡ o - 1)

-- y is met on the way back from input x, through outputs that are not settled
pub data Behind (w : List ℕ) (x : ℕ) : ℕ → Type 0 where
  first : (y : ℕ) → y ≡ get_or w x 0 → (mark w y ≡ 1 → ⊥) → Behind w x y
  further : (o z y : ℕ) → Behind w x o → InputOf w o z → y ≡ get_or w z 0 → (mark w y ≡ 1 → ⊥) → Behind w x y

-- the outputs that are left look at one another, and at what is settled
pub record Rest (w : List ℕ) (left : ℕ) : Type 0 where
  pub size : memory_size ≤ length w
  pub few : left ≤ 4096
  pub looks : (j : ℕ) → j < left → Looks w (rest w j)
  pub shut : (j x : ℕ) → j < left → InputOf w (rest w j) x → (mark w (get_or w x 0) ≡ 1) ⊎ ((i : ℕ) × (i < left) × (rest w i ≡ get_or w x 0))

-- x is an input of one of them
pub record InputAmong (w : List ℕ) (left x : ℕ) : Type 0 where
  pub at : ℕ
  pub low : at < left
  pub input : InputOf w (rest w at) x

-- ---- what is met

-- output y gets this stamp and joins the n that are met, where it is not settled and has no such stamp yet
abbrev pub meet_in : List ℕ → ℕ → ℕ → ℕ → Counted
meet_in w y s n = cond (eqb (mark w y) 1 || eqb (mark w y) s) (counted w n) (counted (set (set w (bits_at + y) s) (order_at + n) y) (n + 1))

-- both that output o looks at
abbrev pub look_in : List ℕ → ℕ → ℕ → ℕ → Counted
look_in w o s n =
    let a = meet_in w (get_or w (first_in w o) 0) s n in
    meet_in a.mem (get_or a.mem (o - 1) 0) s a.count

-- no mark is as high as the stamp
abbrev pub Fresh : List ℕ → ℕ → Type 0
Fresh w s = (2 ≤ s) × ((y : ℕ) → y < 8192 → mark w y < s)

-- what stays while marks and the order's room change
pub record Kept (u w : List ℕ) : Type 0 where
  pub size : length w ≡ length u
  pub below : (j : ℕ) → j < order_at → get_or w j 0 ≡ get_or u j 0
  pub above : (j : ℕ) → bits_end ≤ j → get_or w j 0 ≡ get_or u j 0

-- a search from input x is over: just what is behind x has the stamp
pub record Searched (u : List ℕ) (x s : ℕ) (w : List ℕ) : Type 0 where
  pub kept : Kept u w
  pub behind : (o : ℕ) → o < 8192 → mark w o ≡ s → Behind u x o
  pub all : (o : ℕ) → Behind u x o → mark w o ≡ s
  pub settled : (y : ℕ) → mark w y ≡ 1 → mark u y ≡ 1
  pub still : (y : ℕ) → mark u y ≡ 1 → mark w y ≡ 1
  pub fresh : Fresh w (s + 1)

-- the answer of a search from x for o
pub record SearchTold (u : List ℕ) (x s o : ℕ) (w : List ℕ) (r : Bool) : Type 0 where
  pub searched : Searched u x s w
  pub yes_behind : r ≡ true → Behind u x o
  pub not_behind : r ≡ false → Behind u x o → ⊥

-- no input of output o has o behind it
abbrev pub OnNoRing : List ℕ → ℕ → Type 0
OnNoRing w o = (x : ℕ) → InputOf w o x → Behind w x o → ⊥

-- the first input that has its own output behind it; the outputs stand by falling number
pub data First (w : List ℕ) (left : ℕ) : ℕ → Type 0 where
  here : (j x : ℕ) → j < left → InputOf w (rest w j) x → Behind w x (rest w j)
      → ((i : ℕ) → j < i → i < left → OnNoRing w (rest w i)) → ((z : ℕ) → z < x → InputOf w (rest w j) z → Behind w z (rest w j) → ⊥) → First w left x
  none : ((i : ℕ) → i < left → OnNoRing w (rest w i)) → First w left 0

pub record RingFound (u : List ℕ) (left : ℕ) (w : List ℕ) (r : ℕ) : Type 0 where
  pub kept : Kept u w
  pub place : First u left r
