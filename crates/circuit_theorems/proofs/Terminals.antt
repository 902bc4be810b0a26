-- Which terminals of a netlist are which: where elements take rising terminals, none is two things, and no input is made twice.
-- Assumes nothing.
use Prim.Native.Nat.{ℕ, zero, suc, ◌+◌, ◌<◌, ◌≤◌}
use mathlib.Core.Path.{◌≡◌, refl, sym, subst}
use mathlib.Core.Logic.{◌⊎◌, inl, inr, ⊎_elim}
use mathlib.Core.Bool.{Bool, false, cond, ◌||◌}
use mathlib.Core.List.{List, [], ◌∷◌}
use native.Mathlib.Omega.{arith}
use native.Mathlib.Decide.{dec_le}
use native.Mathlib.Nat.{not-suc-le-zero}
use lib.Dec.{T, eqb, eqb→eq, eqb_refl}
use lib.ListN.{length, get_or}
use Rattle.laws.proofs.Tests.{by_eqb, or_elim, or_left, or_right}
use Rattle.calculus.specs.Terms.{part_at}
use Rattle.calculus.specs.Net.{Interface, inp, out, Element, point, part, Wire, part_side}
use Rattle.calculus.specs.Lean.{is_pin, driver}
use Rattle.calculus.specs.Record.{All}
use Rattle.calculus.specs.Inputs.{ins, made_at_lem, targets, is_out}
use Rattle.circuit_theorems.specs.Terminals.{has}
use Rattle.circuit_theorems.specs.Formed.{Tiled, Rising}
use Rattle.circuit_theorems.proofs.Rings.{point_outs}
use Rattle.circuit_theorems.proofs.Lists.{all_map, all_zip}

-- ---- tests

-- x is the input of a point
abbrev pub point_in : List Element → ℕ → Bool
point_in [] x = false
point_in (point i ∷ es) x = eqb i x || point_in es x
point_in (part p i ∷ es) x = point_in es x

-- x is one of k terminals from i on
abbrev pub is_between : ℕ → ℕ → ℕ → Bool
is_between zero i x = false
is_between (suc k) i x = eqb i x || is_between k (i + 1) x

-- x is an input of a part
abbrev pub part_in_lem : List Element → ℕ → Bool
part_in_lem [] x = false
part_in_lem (point i ∷ es) x = part_in_lem es x
part_in_lem (part p i ∷ es) x = is_between (part_at p).inputs i x || part_in_lem es x

-- the k-th element is this point
pub point_at : (es : List Element) (k i : ℕ) (d : Element) → k < length es → get_or es k d ≡ point i → T (point_in es i)
point_at [] k i d h e = absurd (not-suc-le-zero h)
point_at (x ∷ es) zero i d h e = subst (λ (y : Element). T (point_in (y ∷ es) i)) (sym e) (or_left (eqb i i) (point_in es i) (eqb_refl i))
point_at (point j ∷ es) (suc k) i d h e = or_right (eqb j i) (point_in es i) (point_at es k i d (omega arith) e)
point_at (part p j ∷ es) (suc k) i d h e = point_at es k i d (omega arith) e

-- ---- bounds

pub tiled-rising : (es : List Element) (n e : ℕ) → Tiled es n e → Rising es n e
tiled-rising [] n e a = omega arith
tiled-rising (point i ∷ es) n e a =
    let q = a.0 in
    let f : n + 2 ≡ i + 2 = omega arith in
    (omega arith, subst (λ (x : ℕ). Rising es x e) f (tiled-rising es (n + 2) e a.1))
tiled-rising (part p i ∷ es) n e a =
    let q = a.0 in
    let f : n + (part_at p).inputs + 1 ≡ i + (part_at p).inputs + 1 = omega arith in
    (omega arith, subst (λ (x : ℕ). Rising es x e) f (tiled-rising es (n + (part_at p).inputs + 1) e a.1))

pub rising-end : (es : List Element) (n e : ℕ) → Rising es n e → n ≤ e
rising-end [] n e a = a
rising-end (point i ∷ es) n e a = let q = a.0 in omega (arith, rising-end es (i + 2) e a.1)
rising-end (part p i ∷ es) n e a = let q = a.0 in omega (arith, rising-end es (i + (part_at p).inputs + 1) e a.1)

pub in_low : (es : List Element) (n e x : ℕ) → Rising es n e → T (point_in es x) → n ≤ x
in_low [] n e x a h = absurd h
in_low (point i ∷ es) n e x a h =
    let r = a.0 in
    or_elim (eqb i x) (point_in es x) h (λ t. let q = eqb→eq i x t in omega arith) (λ t. let q = in_low es (i + 2) e x a.1 t in omega arith)
in_low (part p i ∷ es) n e x a h = let r = a.0 in let q = in_low es (i + (part_at p).inputs + 1) e x a.1 h in omega arith

pub out_low : (es : List Element) (n e x : ℕ) → Rising es n e → T (is_out es x) → n ≤ x
out_low [] n e x a h = absurd h
out_low (point i ∷ es) n e x a h =
    let r = a.0 in
    or_elim (eqb (i + 1) x) (is_out es x) h (λ t. let q = eqb→eq (i + 1) x t in omega arith) (λ t. let q = out_low es (i + 2) e x a.1 t in omega arith)
out_low (part p i ∷ es) n e x a h =
    let r = a.0 in
    or_elim (eqb (i + (part_at p).inputs) x) (is_out es x) h (λ t. let q = eqb→eq (i + (part_at p).inputs) x t in omega arith) (λ t. let q = out_low es (i + (part_at p).inputs + 1) e x a.1 t in omega arith)

-- an output is below the end
pub out_high : (es : List Element) (n e x : ℕ) → Rising es n e → T (is_out es x) → x < e
out_high [] n e x a h = absurd h
out_high (point i ∷ es) n e x a h =
    or_elim (eqb (i + 1) x) (is_out es x) h (λ t. let q = eqb→eq (i + 1) x t in omega (arith, rising-end es (i + 2) e a.1)) (λ t. out_high es (i + 2) e x a.1 t)
out_high (part p i ∷ es) n e x a h =
    or_elim (eqb (i + (part_at p).inputs) x) (is_out es x) h (λ t. let q = eqb→eq (i + (part_at p).inputs) x t in omega (arith, rising-end es (i + (part_at p).inputs + 1) e a.1)) (λ t. out_high es (i + (part_at p).inputs + 1) e x a.1 t)

-- ---- no terminal is two things

pub out_not_in : (es : List Element) (n e x : ℕ) → Rising es n e → T (is_out es x) → T (point_in es x) → ⊥
out_not_in [] n e x a h k = h
out_not_in (point i ∷ es) n e x a h k =
    or_elim (eqb (i + 1) x) (is_out es x) h
    (λ t. let q = eqb→eq (i + 1) x t in or_elim (eqb i x) (point_in es x) k (λ u. let s = eqb→eq i x u in omega arith) (λ u. let s = in_low es (i + 2) e x a.1 u in omega arith))
    (λ t. let q = out_low es (i + 2) e x a.1 t in or_elim (eqb i x) (point_in es x) k (λ u. let s = eqb→eq i x u in omega arith) (λ u. out_not_in es (i + 2) e x a.1 t u))
out_not_in (part p i ∷ es) n e x a h k =
    or_elim (eqb (i + (part_at p).inputs) x) (is_out es x) h
    (λ t. let q = eqb→eq (i + (part_at p).inputs) x t in let s = in_low es (i + (part_at p).inputs + 1) e x a.1 k in omega arith)
    (λ t. out_not_in es (i + (part_at p).inputs + 1) e x a.1 t k)

-- a point's output is an output
pub outs_out : (es : List Element) (x : ℕ) → T (has (point_outs es) x) → T (is_out es x)
outs_out [] x h = h
outs_out (point i ∷ es) x h = or_elim (eqb (i + 1) x) (has (point_outs es) x) h (λ t. or_left (eqb (i + 1) x) _ t) (λ t. or_right (eqb (i + 1) x) _ (outs_out es x t))
outs_out (part p i ∷ es) x h = or_right (eqb (i + (part_at p).inputs) x) _ (outs_out es x h)

-- ---- no input is made twice

part_low : (k i x : ℕ) → x < i → ins (part_side k i) x ≡ 0
part_low zero i x h = refl
part_low (suc k) i x h = by_eqb (λ b. cond b 1 0 + ins (part_side k (i + 1)) x ≡ 0) i x (λ q. absurd (omega arith)) (λ q. omega (arith, part_low k (i + 1) x (omega arith)))

-- a part's inputs stand below its output
pub part-high : (k i x : ℕ) → i + k ≤ x → ins (part_side k i) x ≡ 0
part-high zero i x h = refl
part-high (suc k) i x h = by_eqb (λ b. cond b 1 0 + ins (part_side k (i + 1)) x ≡ 0) i x (λ q. absurd (omega arith)) (λ q. omega (arith, part-high k (i + 1) x (omega arith)))

part_one : (k i x : ℕ) → ins (part_side k i) x ≤ 1
part_one zero i x = omega arith
part_one (suc k) i x = by_eqb (λ b. cond b 1 0 + ins (part_side k (i + 1)) x ≤ 1) i x (λ q. omega (arith, part_low k (i + 1) x (omega arith))) (λ q. omega (arith, part_one k (i + 1) x))

pub made-low : (es : List Element) (n e x : ℕ) → Rising es n e → x < n → made_at_lem es x ≡ 0
made-low [] n e x a h = refl
made-low (point i ∷ es) n e x a h = let r = a.0 in by_eqb (λ b. cond b 1 0 + made_at_lem es x ≡ 0) i x (λ q. absurd (omega arith)) (λ q. omega (arith, made-low es (i + 2) e x a.1 (omega arith)))
made-low (part p i ∷ es) n e x a h = let r = a.0 in omega (arith, part_low (part_at p).inputs i x (omega arith), made-low es (i + (part_at p).inputs + 1) e x a.1 (omega arith))

-- an input is below the end
pub made-high : (es : List Element) (n e x : ℕ) → Rising es n e → e ≤ x → made_at_lem es x ≡ 0
made-high [] n e x a h = refl
made-high (point i ∷ es) n e x a h = by_eqb (λ b. cond b 1 0 + made_at_lem es x ≡ 0) i x (λ q. absurd (omega (arith, rising-end es (i + 2) e a.1))) (λ q. omega (arith, made-high es (i + 2) e x a.1 h))
made-high (part p i ∷ es) n e x a h =
    let q = rising-end es (i + (part_at p).inputs + 1) e a.1 in
    omega (arith, part-high (part_at p).inputs i x (omega arith), made-high es (i + (part_at p).inputs + 1) e x a.1 h)

pub made_one : (es : List Element) (n e x : ℕ) → Rising es n e → made_at_lem es x ≤ 1
made_one [] n e x a = omega arith
made_one (point i ∷ es) n e x a =
    by_eqb (λ b. cond b 1 0 + made_at_lem es x ≤ 1) i x (λ q. omega (arith, made-low es (i + 2) e x a.1 (omega arith))) (λ q. omega (arith, made_one es (i + 2) e x a.1))
made_one (part p i ∷ es) n e x a =
    elim (dec_le (i + (part_at p).inputs) x) [
      | yes h ↦ omega (arith, part-high (part_at p).inputs i x h, made_one es (i + (part_at p).inputs + 1) e x a.1)
      | no h ↦ omega (arith, part_one (part_at p).inputs i x, made-low es (i + (part_at p).inputs + 1) e x a.1 (omega arith))
    ]

ins-within : (k i x : ℕ) → 1 ≤ ins (part_side k i) x → T (is_between k i x)
ins-within zero i x h = absurd (omega arith)
ins-within (suc k) i x h = by_eqb (λ b. 1 ≤ cond b 1 0 + ins (part_side k (i + 1)) x → T (b || is_between k (i + 1) x)) i x (λ q l. tt) (λ q l. ins-within k (i + 1) x (omega arith)) h

within-ins : (k i x : ℕ) → T (is_between k i x) → 1 ≤ ins (part_side k i) x
within-ins zero i x h = absurd h
within-ins (suc k) i x h = by_eqb (λ b. T (b || is_between k (i + 1) x) → 1 ≤ cond b 1 0 + ins (part_side k (i + 1)) x) i x (λ q l. omega arith) (λ q l. omega (arith, within-ins k (i + 1) x l)) h

-- an input that is made is a point's or a part's, and the other way round
pub made_in : (es : List Element) (x : ℕ) → 1 ≤ made_at_lem es x → T (point_in es x) ⊎ T (part_in_lem es x)
made_in [] x h = absurd (omega arith)
made_in (point i ∷ es) x h = by_eqb (λ b. 1 ≤ cond b 1 0 + made_at_lem es x → T (b || point_in es x) ⊎ T (part_in_lem es x)) i x (λ q l. inl tt) (λ q l. made_in es x (omega arith)) h
made_in (part p i ∷ es) x h =
    elim (dec_le 1 (ins (part_side (part_at p).inputs i) x)) [
      | yes l ↦ inr (or_left (is_between (part_at p).inputs i x) (part_in_lem es x) (ins-within (part_at p).inputs i x l))
      | no l ↦ ⊎_elim inl (λ t. inr (or_right (is_between (part_at p).inputs i x) (part_in_lem es x) t)) (made_in es x (omega arith))
    ]

pub part-made : (es : List Element) (x : ℕ) → T (part_in_lem es x) → 1 ≤ made_at_lem es x
part-made [] x h = absurd h
part-made (point i ∷ es) x h = omega (arith, part-made es x h)
part-made (part p i ∷ es) x h = or_elim (is_between (part_at p).inputs i x) (part_in_lem es x) h (λ t. omega (arith, within-ins (part_at p).inputs i x t)) (λ t. omega (arith, part-made es x t))

pub point_made : (es : List Element) (x : ℕ) → T (point_in es x) → 1 ≤ made_at_lem es x
point_made [] x h = absurd h
point_made (point i ∷ es) x h = by_eqb (λ b. T (b || point_in es x) → 1 ≤ cond b 1 0 + made_at_lem es x) i x (λ q l. omega arith) (λ q l. omega (arith, point_made es x l)) h
point_made (part p i ∷ es) x h = omega (arith, point_made es x h)

-- ---- wires and pins by their counts

counted : (w : Wire) (ws : List Wire) → 1 ≤ targets (w ∷ ws) w.to
counted w ws = by_eqb (λ b. 1 ≤ cond b 1 0 + targets ws w.to) w.to w.to (λ q. omega arith) (λ q. absurd (q refl))

pub each_target : (ws : List Wire) → All (λ w. 1 ≤ targets ws w.to) ws
each_target [] = tt
each_target (w ∷ ws) = (counted w ws, all_map (λ v. 1 ≤ targets ws v.to) (λ v. 1 ≤ targets (w ∷ ws) v.to) (λ v h. omega arith) ws (each_target ws))

-- where no input is the target of two wires, each wire is the driver of its target
pub unique : (ws : List Wire) → ((x : ℕ) → targets ws x ≤ 1) → All (λ w. (d : ℕ) → driver ws w.to d ≡ w.from) ws
unique [] h = tt
unique (w ∷ ws) h = (
  (λ d. by_eqb (λ b. cond b w.from (driver ws w.to d) ≡ w.from) w.to w.to (λ q. refl) (λ q. absurd (q refl))),
  all_map (λ v. (1 ≤ targets ws v.to) × ((d : ℕ) → driver ws v.to d ≡ v.from)) (λ v. (d : ℕ) → driver (w ∷ ws) v.to d ≡ v.from)
      (λ v k d. by_eqb (λ b. cond b 1 0 + targets ws v.to ≤ 1 → cond b w.from (driver ws v.to d) ≡ v.from) w.to v.to (λ q l. absurd (let z = k.0 in omega arith)) (λ q l. k.1 d) (h v.to))
      ws (all_zip _ _ ws (each_target ws) (unique ws (λ x. let l = h x in omega arith))),
)

-- the driver of an input is where a wire to it comes from, or d
pub driver-is : (P : ℕ → Type 0) (ws : List Wire) (i d : ℕ) → All (λ w. P w.from) ws → P d → P (driver ws i d)
driver-is P [] i d a h = h
driver-is P (w ∷ ws) i d a h = by_eqb (λ b. P (cond b w.from (driver ws i d))) w.to i (λ q. a.0) (λ q. driver-is P ws i d a.1 h)

-- .. without d where there is a wire
pub driver-fed : (P : ℕ → Type 0) (ws : List Wire) (i d : ℕ) → All (λ w. P w.from) ws → 1 ≤ targets ws i → P (driver ws i d)
driver-fed P [] i d a h = absurd (omega arith)
driver-fed P (w ∷ ws) i d a h = by_eqb (λ b. 1 ≤ cond b 1 0 + targets ws i → P (cond b w.from (driver ws i d))) w.to i (λ q l. a.0) (λ q l. driver-fed P ws i d a.1 (omega arith)) h

-- .. and so whatever d
pub driver-any : (ws : List Wire) (i d e : ℕ) → 1 ≤ targets ws i → driver ws i d ≡ driver ws i e
driver-any [] i d e h = absurd (omega arith)
driver-any (w ∷ ws) i d e h =
    by_eqb (λ b. 1 ≤ cond b 1 0 + targets ws i → cond b w.from (driver ws i d) ≡ cond b w.from (driver ws i e)) w.to i (λ q l. refl) (λ q l. driver-any ws i d e (omega arith)) h

pub pin_ins : (ps : Interface) (i : ℕ) → T (is_pin ps i) → 1 ≤ ins ps i
pin_ins [] i h = absurd h
pin_ins (inp j ∷ ps) i h = by_eqb (λ b. T (b || is_pin ps i) → 1 ≤ cond b 1 0 + ins ps i) j i (λ q l. omega arith) (λ q l. omega (arith, pin_ins ps i l)) h
pin_ins (out o ∷ ps) i h = pin_ins ps i h

pub ins_pin : (ps : Interface) (i : ℕ) → 1 ≤ ins ps i → T (is_pin ps i)
ins_pin [] i h = absurd (omega arith)
ins_pin (inp j ∷ ps) i h = by_eqb (λ b. 1 ≤ cond b 1 0 + ins ps i → T (b || is_pin ps i)) j i (λ q l. tt) (λ q l. ins_pin ps i (omega arith)) h
ins_pin (out o ∷ ps) i h = ins_pin ps i h

-- an input that is no pin stands at no pin
pub no_ins : (ps : Interface) (i : ℕ) → is_pin ps i ≡ false → ins ps i ≡ 0
no_ins ps i u = elim (dec_le 1 (ins ps i)) [ yes l ↦ absurd (subst T u (ins_pin ps i l)) | no l ↦ omega arith ]
