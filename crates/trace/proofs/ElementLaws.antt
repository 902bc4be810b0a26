-- Terminals, and the elements that have them. Assumes nothing.
use Prim.Native.Nat.{ℕ, ◌+◌, ◌≤◌, ◌<◌}
use mathlib.Core.Path.{◌≡◌, refl, sym, subst}
use mathlib.Core.Logic.{⊎_elim}
use mathlib.Core.Bool.{Bool, true, false, cond}
use mathlib.Core.List.{List, [], ◌∷◌}
use native.Mathlib.Omega.{arith}
use native.Mathlib.Decide.{dec_le}
use lib.Dec.{T, eqb, eqb→eq}
use Rattle.laws.proofs.Tests.{by_eqb, or_elim}
use Rattle.calculus.specs.Terms.{part_at}
use Rattle.calculus.specs.Net.{Element, point, part, part_side}
use Rattle.calculus.specs.Inputs.{ins, made_at_lem, is_out}
use Rattle.calculus.specs.Record.{Among, here, there}
use Rattle.circuit_theorems.specs.Terminals.{has}
use Rattle.circuit_theorems.specs.Formed.{Rising}
use Rattle.circuit_theorems.proofs.Drivers.{made-append}
use Rattle.trace_calculus.specs.Trace.{terminals}
use Rattle.circuit_theorems.proofs.NetRead.{out_not_made}
use Rattle.trace_theorems.proofs.Sources.{ins_range, ins_of, out_of_point, out_of-part, terminal_is, point_terminal, part_terminal, out_terminal}
use Rattle.trace_theorems.proofs.Owners.{start, last}

pub out_in : (es : List Element) (x : ℕ) → T (is_out es x) → (a : Element) × Among a es × (last a ≡ x)
out_in [] x t = absurd t
out_in (point i ∷ es) x t = or_elim (eqb (i + 1) x) (is_out es x) t (λ u. (point i, here, eqb→eq (i + 1) x u)) (λ u. let r = out_in es x u in (r.0, there r.1, r.2))
out_in (part p i ∷ es) x t = or_elim (eqb (i + (part_at p).inputs) x) (is_out es x) t (λ u. (part p i, here, eqb→eq (i + (part_at p).inputs) x u)) (λ u. let r = out_in es x u in (r.0, there r.1, r.2))

pub in_out_lem : {es : List Element} (a : Element) → Among a es → T (is_out es (last a))
in_out_lem (point i) h = out_of_point h
in_out_lem (part p i) h = out_of-part h

pub made-within : (es : List Element) (x : ℕ) → 1 ≤ made_at_lem es x → (a : Element) × Among a es × (start a ≤ x) × (x < last a)
made-within [] x h = absurd (omega arith)
made-within (point i ∷ es) x h =
    by_eqb (λ b. 1 ≤ cond b 1 0 + made_at_lem es x → (a : Element) × Among a (point i ∷ es) × (start a ≤ x) × (x < last a)) i x
    (λ e _. (point i, here, omega arith, omega arith)) (λ d l. let r = made-within es x (omega arith) in (r.0, there r.1, r.2, r.3)) h
made-within (part p i ∷ es) x h = elim (dec_le 1 (ins (part_side (part_at p).inputs i) x)) [
  | yes l ↦ (let r = ins_range (part_at p).inputs i x l in (part p i, here, r.0, r.1))
  | no l ↦ (let r = made-within es x (omega arith) in (r.0, there r.1, r.2, r.3))
]

pub within-made : (a : Element) {es : List Element} (x : ℕ) → Among a es → start a ≤ x → x < last a → 1 ≤ made_at_lem es x
within-made (point i) x (here {xs = es}) l h = by_eqb (λ b. 1 ≤ cond b 1 0 + made_at_lem es x) i x (λ e. omega arith) (λ d. absurd (d (omega arith)))
within-made (part p i) x (here {xs = es}) l h = omega (arith, ins_of (part_at p).inputs i x l h)
within-made a x (there {y = c} {xs = es} g) l h = omega (arith, made-append (c ∷ []) es x, within-made a x g l h)

pub in_terminal : {es : List Element} (a : Element) (x : ℕ) → Among a es → start a ≤ x → x ≤ last a → T (has (terminals es) x)
in_terminal {es} (point i) x h l k = elim (dec_le (i + 1) x) [
  | yes g ↦ (let e : i + 1 ≡ x = omega arith in subst (λ (z : ℕ). T (has (terminals es) z)) e (out_terminal es (i + 1) (out_of_point h)))
  | no g ↦ (let e : i ≡ x = omega arith in subst (λ (z : ℕ). T (has (terminals es) z)) e (point_terminal h))
]
in_terminal (part p i) x h l k = part_terminal x h l k

pub terminal_in : (es : List Element) (x : ℕ) → T (has (terminals es) x) → (a : Element) × Among a es × (start a ≤ x) × (x ≤ last a)
terminal_in es x t = ⊎_elim (λ u. let r = out_in es x u in (r.0, r.1, (let l = start-last r.0 in omega (arith, r.2)), omega (arith, r.2))) (λ u. let r = made-within es x u in (r.0, r.1, r.2, omega (arith, r.3))) (terminal_is es x t)
  where
    start-last : (a : Element) → start a ≤ last a
    start-last (point i) = omega arith
    start-last (part p i) = omega arith

-- an input is no output
pub input-not_out : (es : List Element) (n e x : ℕ) → Rising es n e → 1 ≤ made_at_lem es x → is_out es x ≡ false
input-not_out es n e x r h = by (is_out es x) refl
  where
    by : (b : Bool) → is_out es x ≡ b → b ≡ false
    by true q = absurd (let z = out_not_made es n e x r (subst (λ (b : Bool). T b) (sym q) tt) in omega arith)
    by false q = refl
