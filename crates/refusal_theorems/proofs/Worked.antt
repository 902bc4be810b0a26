-- Document 01's refused sheets by hand, P8 to P11: each sentence at its place. Assumes nothing.
use Prim.Native.Nat.{ℕ}
use mathlib.Core.Path.{◌≡◌, refl}
use mathlib.Core.Bool.{false, true}
use mathlib.Core.List.{[], ◌∷◌}
use native.Mathlib.Omega.{arith}
use Rattle.calculus.specs.Answer.{numbered, clash}
use Rattle.calculus.specs.Types.{bit, arrow, rec01, rec03, rec04, Table}
use Rattle.calculus.specs.Terms.{first, lvar, app, lfun, con}
use Rattle.calculus.specs.Walk.{linear, Stack}
use Rattle.calculus.specs.Rules.{once, away, none_end, none_away, is_here, LVar, Con}
use Rattle.sheet_theorems.specs.Uses.{uses_end, uses_not, uses_it}
use Rattle.refusal_theorems.specs.Refuses.{Passes, nearest, used_again_lem, unused, no_arrow, linear_function_body, function, argument, Refuses, here, inside}
use Rattle.refusal_theorems.specs.Unreadable.{this_rule, unfinished, no_type_yet, types_end_lem, bad_node, Unreadable, in_first}

-- 0 is **1**, 1 is **1** → **1**, 2 is (**1** → **1**) ⊸ **1**
abbrev types : Table
types = rec01 ∷ rec03 0 0 ∷ rec04 1 0 ∷ []

-- the variable of P8 and P9, before its use and behind it
abbrev before : Stack
before = linear 1 false ∷ []

abbrev behind : Stack
behind = linear 1 true ∷ []

variable-passes : Passes first types before (lvar 0) 1 behind
variable-passes = record { ctx = once (arrow bit bit) ∷ []; uses = uses_it uses_end; typed = LVar (is_here none_end); type_in_lem = omega arith }

-- P8: f (f zero), where the second f, node 4, is used again
pub refuses-P8 : Refuses first types [] (lfun 2 (app (lvar 0) (app (lvar 0) (con 0 0)))) 0 (numbered 13 4)
refuses-P8 = inside (linear_function_body refl) (inside (argument variable-passes) (inside function (here (used_again_lem nearest))))

-- P9: zero, and f is unused
zero_passes : Passes first types before (con 0 0) 0 before
zero_passes = record { ctx = away ∷ []; uses = uses_not uses_end; typed = Con {p = 0} {t = 0} (omega arith) refl (none_away none_end); type_in_lem = omega arith }

pub refuses-P9 : Refuses first types [] (lfun 2 (con 0 0)) 0 (numbered 14 0)
refuses-P9 = here (unused refl zero_passes)

-- P10: no bytes, and a record is due at 0
pub unreadable_P10 : Unreadable [] (numbered 3 0)
unreadable_P10 = in_first (omega arith) (λ e. absurd (omega (arith, e))) (bad_node (types_end_lem no_type_yet (λ k e. let z : ◌≡◌ {A = ℕ} 0 1 = cc in absurd (omega arith))) (this_rule (unfinished refl)))

-- P11: zero applied to zero, whose type is no arrow
constant-passes : Passes first (rec01 ∷ []) [] (con 0 0) 0 []
constant-passes = record { ctx = []; uses = uses_end; typed = Con {p = 0} {t = 0} (omega arith) refl none_end; type_in_lem = omega arith }

pub refuses-P11 : Refuses first (rec01 ∷ []) [] (app (con 0 0) (con 0 0)) 0 (clash 0 256 0)
refuses-P11 = here (no_arrow constant-passes constant-passes (λ a b e. let z : ◌≡◌ {A = ℕ} 0 1 = cc in absurd (omega arith)))
