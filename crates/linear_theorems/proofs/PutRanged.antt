-- The type numbers of a term with an argument put in are those that the term had. Assumes nothing.
use Prim.Native.Nat.{ℕ, suc}
use mathlib.Core.Bool.{Bool, true, false, cond}
use Rattle.calculus.specs.Types.{Table}
use Rattle.calculus.specs.Terms.{first}
use Rattle.sheet_theorems.specs.Laid.{Ranged}
use Rattle.linear_theorems.specs.Marked.{Marked, mvar, mlvar, mfun, mapp, mlfun, mlapp, mpair, mproj, mfix, mcon, plain}
use Rattle.linear_theorems.specs.PutIn.{without, same, raise, put, PutIn, put_here, in_fun, in_app_left, in_app_right, in_lfun, in_lapp_left, in_lapp_right, in_pair_left, in_pair_right, in_proj_left, in_proj_right, in_fix}

module _ (Θ : Table) where
  raise-ranged : (c : ℕ) (e : Marked) → Ranged first Θ (plain e) → Ranged first Θ (plain (raise c e))
  raise-ranged c (mvar i) r = tt
  raise-ranged c (mlvar i) r = tt
  raise-ranged c (mfun t e) r = (r.0, raise-ranged (suc c) e r.1)
  raise-ranged c (mapp f a) r = (raise-ranged c f r.0, raise-ranged c a r.1)
  raise-ranged c (mlfun t e) r = (r.0, raise-ranged (suc c) e r.1)
  raise-ranged c (mlapp f a) r = (raise-ranged c f r.0, raise-ranged c a r.1)
  raise-ranged c (mpair t a b) r = (r.0, raise-ranged c a r.1, raise-ranged c b r.2)
  raise-ranged c (mproj a e) r = (raise-ranged c a r.0, raise-ranged (suc (suc c)) e r.1)
  raise-ranged c (mfix t e) r = (r.0, raise-ranged (suc c) e r.1)
  raise-ranged c (mcon p t k) r = r

  cond-ranged : (b : Bool) (a : Marked) (i : ℕ) → Ranged first Θ (plain a) → Ranged first Θ (plain (cond b a (mlvar i)))
  cond-ranged true a i h = h
  cond-ranged false a i h = tt

  put-ranged : (j : ℕ) (a e : Marked) → Ranged first Θ (plain a) → Ranged first Θ (plain e) → Ranged first Θ (plain (put j a e))
  put-ranged j a (mvar i) h r = tt
  put-ranged j a (mlvar i) h r = cond-ranged (same j i) a (without j i) h
  put-ranged j a (mfun t e) h r = (r.0, put-ranged (suc j) (raise 0 a) e (raise-ranged 0 a h) r.1)
  put-ranged j a (mapp f b) h r = (put-ranged j a f h r.0, put-ranged j a b h r.1)
  put-ranged j a (mlfun t e) h r = (r.0, put-ranged (suc j) (raise 0 a) e (raise-ranged 0 a h) r.1)
  put-ranged j a (mlapp f b) h r = (put-ranged j a f h r.0, put-ranged j a b h r.1)
  put-ranged j a (mpair t f b) h r = (r.0, put-ranged j a f h r.1, put-ranged j a b h r.2)
  put-ranged j a (mproj f e) h r = (put-ranged j a f h r.0, put-ranged (suc (suc j)) (raise 0 (raise 0 a)) e (raise-ranged 0 (raise 0 a) (raise-ranged 0 a h)) r.1)
  put-ranged j a (mfix t e) h r = (r.0, put-ranged (suc j) (raise 0 a) e (raise-ranged 0 a h) r.1)
  put-ranged j a (mcon p t k) h r = r

  pub put_in_ranged : {e e' : Marked} → PutIn e e' → Ranged first Θ (plain e) → Ranged first Θ (plain e')
  put_in_ranged (put_here {e = e} {a = a}) r = put-ranged 0 a e r.1 r.0.1
  put_in_ranged (in_fun p) r = (r.0, put_in_ranged p r.1)
  put_in_ranged (in_app_left p) r = (put_in_ranged p r.0, r.1)
  put_in_ranged (in_app_right p) r = (r.0, put_in_ranged p r.1)
  put_in_ranged (in_lfun p) r = (r.0, put_in_ranged p r.1)
  put_in_ranged (in_lapp_left p) r = (put_in_ranged p r.0, r.1)
  put_in_ranged (in_lapp_right p) r = (r.0, put_in_ranged p r.1)
  put_in_ranged (in_pair_left p) r = (r.0, put_in_ranged p r.1, r.2)
  put_in_ranged (in_pair_right p) r = (r.0, r.1, put_in_ranged p r.2)
  put_in_ranged (in_proj_left p) r = (put_in_ranged p r.0, r.1)
  put_in_ranged (in_proj_right p) r = (r.0, put_in_ranged p r.1)
  put_in_ranged (in_fix p) r = (r.0, put_in_ranged p r.1)
