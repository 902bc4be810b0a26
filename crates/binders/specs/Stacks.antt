-- The binders of the code as the definitions have them, and what a use of a variable says. Assumes nothing.
use Rattle.std.specs.Prelude.{ℕ, zero, suc, ◌+◌, ◌-◌, ◌*◌, ◌/◌, ◌%◌, Bool, true, false, cond, Result, Ok, Err, List, [], ◌∷◌, ◌++◌, leb, ltb, get_or, replicate}
use Rattle.calculus.specs.Answer.{Answer, refuse}
use Rattle.calculus.specs.Walk.{Binder, shared, linear, Stack, Found, found}
use Rattle.binders.specs.declared.Binders.{Binders}
use Rattle.answers.specs.declared.Reason.{Reason}
use Rattle.answers.specs.Refusals.{reason_number}

-- ---- numbers of 0 and 1, a bit each

-- the n lowest binary digits of a word, lowest first
unfoldable pub binary_digits : ℕ → ℕ → List ℕ
binary_digits zero w = []
binary_digits (suc n) w = w % 2 ∷ binary_digits n (w / 2)

-- the word whose digit j is x
unfoldable pub set_digit : ℕ → ℕ → ℕ → ℕ
set_digit zero w x = w / 2 * 2 + x
set_digit (suc j) w x = set_digit j (w / 2) x * 2 + w % 2

-- the 128 digits of two words
unfoldable pub bits_of : List ℕ → List ℕ
bits_of ws = binary_digits 64 (get_or ws 0 0) ++ binary_digits 64 (get_or ws 1 0)

-- the words whose digit k is x
unfoldable pub with_bit : List ℕ → ℕ → ℕ → List ℕ
with_bit ws k x = cond (ltb k 64) (set_digit k (get_or ws 0 0) x ∷ get_or ws 1 0 ∷ []) (get_or ws 0 0 ∷ set_digit (k - 64) (get_or ws 1 0) x ∷ [])

-- ---- the binders

abbrev pub is_used : ℕ → Bool
is_used zero = false
is_used (suc u) = true

-- type, sort, use
abbrev pub binder_of : ℕ → ℕ → ℕ → Binder
binder_of t zero u = shared t
binder_of t (suc s) u = linear t (is_used u)

-- the nearest of n binders first
unfoldable pub stack_from : List ℕ → List ℕ → List ℕ → ℕ → Stack
stack_from types sorts used zero = []
stack_from types sorts used (suc n) = binder_of (get_or types n 0) (get_or sorts n 0) (get_or used n 0) ∷ stack_from types sorts used n

abbrev pub stack_of : Binders → Stack
stack_of b = stack_from b.types (bits_of b.sorts) (bits_of b.used) b.count

-- none in scope, and all numbers 0
unfoldable pub no_binders : Binders
no_binders = record { types = replicate 128 0; sorts = replicate 2 0; used = replicate 2 0; count = 0 }

-- where binder i of `count` stands; 0 if it is not in scope
unfoldable pub slot_of : ℕ → ℕ → ℕ
slot_of count i = cond (ltb i count) (count - 1 - i) 0

-- what a leaf of the term gives: its type number, or why it is refused
abbrev pub Use : Type 0
Use = Result ℕ Reason

-- a sharable variable, binder i of `count`: 10, 11
abbrev pub shared_at : Binder → Use
shared_at (shared t) = Ok t
shared_at (linear t u) = Err Reason.OtherSort

unfoldable pub shared_use : ℕ → ℕ → Binder → Use
shared_use count i b = cond (leb count i) (Err Reason.NotInScope) (shared_at b)

-- a linear one: 10, 11, 13
abbrev pub linear_at : Binder → Use
linear_at (shared t) = Err Reason.OtherSort
linear_at (linear t false) = Ok t
linear_at (linear t true) = Err Reason.UsedAgain

unfoldable pub linear_use : ℕ → ℕ → Binder → Use
linear_use count i b = cond (leb count i) (Err Reason.NotInScope) (linear_at b)

-- a type number with the binders, or a refusal at node n
abbrev pub said_use : Use → Stack → ℕ → Answer Found
said_use (Ok t) st n = found t st
said_use (Err why) st n = refuse (reason_number why) n
