-- How deep a term gets where an argument is put in. Assumes nothing.
use Prim.Native.Nat.{ℕ, suc, ◌+◌, ◌*◌, ◌≤◌, max}
use mathlib.Core.Path.{◌≡◌, refl, ap, ap₂}
use mathlib.Core.Bool.{Bool, true, false, cond}
use native.Mathlib.Omega.{arith}
use Rattle.sheet_theorems.specs.Laid.{depth}
use Rattle.linear_theorems.specs.Marked.{Marked, mvar, mlvar, mfun, mapp, mlfun, mlapp, mpair, mproj, mfix, mcon, plain}
use Rattle.linear_theorems.specs.PutIn.{without, same, raise, put, PutIn, put_here, in_fun, in_app_left, in_app_right, in_lfun, in_lapp_left, in_lapp_right, in_pair_left, in_pair_right, in_proj_left, in_proj_right, in_fix}

abbrev deep : Marked → ℕ
deep e = depth (plain e)

raise-deep : (c : ℕ) (e : Marked) → deep (raise c e) ≡ deep e
raise-deep c (mvar i) = refl
raise-deep c (mlvar i) = refl
raise-deep c (mfun t e) = ap suc (raise-deep (suc c) e)
raise-deep c (mapp f a) = ap₂ (λ (x y : ℕ). suc (max x y)) (raise-deep c f) (raise-deep c a)
raise-deep c (mlfun t e) = ap suc (raise-deep (suc c) e)
raise-deep c (mlapp f a) = ap₂ (λ (x y : ℕ). suc (max x y)) (raise-deep c f) (raise-deep c a)
raise-deep c (mpair t a b) = ap₂ (λ (x y : ℕ). suc (max x y)) (raise-deep c a) (raise-deep c b)
raise-deep c (mproj a e) = ap₂ (λ (x y : ℕ). suc (max x y)) (raise-deep c a) (raise-deep (suc (suc c)) e)
raise-deep c (mfix t e) = ap suc (raise-deep (suc c) e)
raise-deep c (mcon p t k) = refl

deep-some : (e : Marked) → 1 ≤ deep e
deep-some (mvar i) = omega arith
deep-some (mlvar i) = omega arith
deep-some (mfun t e) = omega arith
deep-some (mapp f a) = omega arith
deep-some (mlfun t e) = omega arith
deep-some (mlapp f a) = omega arith
deep-some (mpair t a b) = omega arith
deep-some (mproj a e) = omega arith
deep-some (mfix t e) = omega arith
deep-some (mcon p t k) = omega arith

cond_deep : (b : Bool) (a : Marked) (i : ℕ) → deep (cond b a (mlvar i)) ≤ deep a
cond_deep true a i = omega arith
cond_deep false a i = deep-some a

max_add : (x y u v k : ℕ) → x + 1 ≤ u + k → y + 1 ≤ v + k → max x y + 1 ≤ max u v + k
max_add x y u v k p q = omega arith

-- the argument hangs at the place of a variable
put-deep : (j : ℕ) (a e : Marked) → deep (put j a e) + 1 ≤ deep e + deep a
put-deep j a (mvar i) = omega (arith, deep-some a)
put-deep j a (mlvar i) = omega (arith, cond_deep (same j i) a (without j i))
put-deep j a (mfun t e) = omega (arith, put-deep (suc j) (raise 0 a) e, raise-deep 0 a)
put-deep j a (mapp f b) = omega (arith, max_add (deep (put j a f)) (deep (put j a b)) (deep f) (deep b) (deep a) (put-deep j a f) (put-deep j a b))
put-deep j a (mlfun t e) = omega (arith, put-deep (suc j) (raise 0 a) e, raise-deep 0 a)
put-deep j a (mlapp f b) = omega (arith, max_add (deep (put j a f)) (deep (put j a b)) (deep f) (deep b) (deep a) (put-deep j a f) (put-deep j a b))
put-deep j a (mpair t f b) = omega (arith, max_add (deep (put j a f)) (deep (put j a b)) (deep f) (deep b) (deep a) (put-deep j a f) (put-deep j a b))
put-deep j a (mproj f b) =
    let a₂ = raise 0 (raise 0 a) in
    let h : deep (put (suc (suc j)) a₂ b) + 1 ≤ deep b + deep a = omega (arith, put-deep (suc (suc j)) a₂ b, raise-deep 0 a, raise-deep 0 (raise 0 a)) in
    omega (arith, max_add (deep (put j a f)) (deep (put (suc (suc j)) a₂ b)) (deep f) (deep b) (deep a) (put-deep j a f) h)
put-deep j a (mfix t e) = omega (arith, put-deep (suc j) (raise 0 a) e, raise-deep 0 a)
put-deep j a (mcon p t k) = omega (arith, deep-some a)

-- beside another subterm of depth z
beside_left : (x y z : ℕ) → 1 ≤ x → x + 4 ≤ 2 * y → suc (max x z) + 4 ≤ 2 * suc (max y z)
beside_left x y z p q = omega arith

beside_right : (x y z : ℕ) → 1 ≤ x → x + 4 ≤ 2 * y → suc (max z x) + 4 ≤ 2 * suc (max z y)
beside_right x y z p q = omega arith

here : (x e a : ℕ) → x + 1 ≤ e + a → x + 4 ≤ 2 * suc (max (suc e) a)
here x e a h = omega arith

pub put_in_deep : {e e' : Marked} → PutIn e e' → deep e' + 4 ≤ 2 * deep e
put_in_deep (put_here {e = e} {a = a}) = here (deep (put 0 a e)) (deep e) (deep a) (put-deep 0 a e)
put_in_deep (in_fun r) = omega (arith, put_in_deep r)
put_in_deep (in_app_left {f = f} {f' = f'} {a = a} r) = beside_left (deep f') (deep f) (deep a) (deep-some f') (put_in_deep r)
put_in_deep (in_app_right {f = f} {a = a} {a' = a'} r) = beside_right (deep a') (deep a) (deep f) (deep-some a') (put_in_deep r)
put_in_deep (in_lfun r) = omega (arith, put_in_deep r)
put_in_deep (in_lapp_left {f = f} {f' = f'} {a = a} r) = beside_left (deep f') (deep f) (deep a) (deep-some f') (put_in_deep r)
put_in_deep (in_lapp_right {f = f} {a = a} {a' = a'} r) = beside_right (deep a') (deep a) (deep f) (deep-some a') (put_in_deep r)
put_in_deep (in_pair_left {a = a} {a' = a'} {b = b} r) = beside_left (deep a') (deep a) (deep b) (deep-some a') (put_in_deep r)
put_in_deep (in_pair_right {a = a} {b = b} {b' = b'} r) = beside_right (deep b') (deep b) (deep a) (deep-some b') (put_in_deep r)
put_in_deep (in_proj_left {a = a} {a' = a'} {e = e} r) = beside_left (deep a') (deep a) (deep e) (deep-some a') (put_in_deep r)
put_in_deep (in_proj_right {a = a} {e = e} {e' = e'} r) = beside_right (deep e') (deep e) (deep a) (deep-some e') (put_in_deep r)
put_in_deep (in_fix r) = omega (arith, put_in_deep r)
