-- An answer: a value, or a refusal by its number and its place; refusal 12 also gives the type number wanted and the one found (document
-- 02, L3). Assumes nothing.
use Rattle.std.specs.Prelude.{ℕ, Bool, true, false}

pub record Refusal : Type 0 where
  pub number : ℕ
  pub place : ℕ
  pub wanted : ℕ
  pub found : ℕ

pub data Answer (A : Type 0) : Type 0 where
  good : A → Answer A
  refused : Refusal → Answer A

infixl 20 ◌>>=◌
-- the first refusal stands; `do` is written with this
abbrev pub ◌>>=◌ : {A B : Type 0} → Answer A → (A → Answer B) → Answer B
good a >>= f = f a
refused why >>= f = refused why

-- every refusal but 12 names no types
abbrev pub numbered : ℕ → ℕ → Refusal
numbered number place = record { number = number; place = place; wanted = 0; found = 0 }

abbrev pub refuse : {A : Type 0} → ℕ → ℕ → Answer A
refuse number place = refused (numbered number place)

-- 12 at a node, with the type number wanted and the one found
abbrev pub clash : ℕ → ℕ → ℕ → Refusal
clash node wanted found = record { number = 12; place = node; wanted = wanted; found = found }

-- the number wanted where a rule wants a form and not one type
abbrev pub a_form : ℕ
a_form = 256

-- go on where the test passes, and refuse where it fails
abbrev pub require : Bool → Refusal → Answer (Unit {0})
require true why = good tt
require false why = refused why

abbrev pub need : Bool → ℕ → ℕ → Answer (Unit {0})
need test number place = require test (numbered number place)

abbrev pub fit : Bool → ℕ → ℕ → ℕ → Answer (Unit {0})
fit test node wanted found = require test (clash node wanted found)
