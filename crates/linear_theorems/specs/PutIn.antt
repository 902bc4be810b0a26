-- Putting a linear argument straight into the body at the one place where its variable stands, binder numbers adjusted (document 02, L13).
-- Assumes nothing.
use Rattle.std.specs.Prelude.{ℕ, zero, suc, ◌+◌, Bool, true, false, cond}
use Rattle.calculus.specs.Terms.{nodes}
use Rattle.linear_theorems.specs.Marked.{Marked, mvar, mlvar, mfun, mapp, mlfun, mlapp, mpair, mproj, mfix, mcon, plain}

-- ---- binder numbers

-- binder number i, where one binder more stands at c
abbrev pub above : ℕ → ℕ → ℕ
above zero i = suc i
above (suc c) zero = zero
above (suc c) (suc i) = suc (above c i)

-- binder number i, where the binder at j is gone
abbrev pub without : ℕ → ℕ → ℕ
without zero zero = zero
without zero (suc i) = i
without (suc j) zero = zero
without (suc j) (suc i) = suc (without j i)

abbrev pub same : ℕ → ℕ → Bool
same zero zero = true
same zero (suc i) = false
same (suc j) zero = false
same (suc j) (suc i) = same j i

-- a term under one binder more, at c
abbrev pub raise : ℕ → Marked → Marked
raise c (mvar i) = mvar (above c i)
raise c (mlvar i) = mlvar (above c i)
raise c (mfun t e) = mfun t (raise (suc c) e)
raise c (mapp f a) = mapp (raise c f) (raise c a)
raise c (mlfun t e) = mlfun t (raise (suc c) e)
raise c (mlapp f a) = mlapp (raise c f) (raise c a)
raise c (mpair t a b) = mpair t (raise c a) (raise c b)
raise c (mproj a e) = mproj (raise c a) (raise (suc (suc c)) e)
raise c (mfix t e) = mfix t (raise (suc c) e)
raise c (mcon p t k) = mcon p t k

-- ---- putting in

-- a term with the argument a put in where the linear variable j stands; its binder is gone
abbrev pub put : ℕ → Marked → Marked → Marked
put j a (mvar i) = mvar (without j i)
put j a (mlvar i) = cond (same j i) a (mlvar (without j i))
put j a (mfun t e) = mfun t (put (suc j) (raise 0 a) e)
put j a (mapp f b) = mapp (put j a f) (put j a b)
put j a (mlfun t e) = mlfun t (put (suc j) (raise 0 a) e)
put j a (mlapp f b) = mlapp (put j a f) (put j a b)
put j a (mpair t b c) = mpair t (put j a b) (put j a c)
put j a (mproj b e) = mproj (put j a b) (put (suc (suc j)) (raise 0 (raise 0 a)) e)
put j a (mfix t e) = mfix t (put (suc j) (raise 0 a) e)
put j a (mcon p t k) = mcon p t k

-- the second term is the first with one linear function that is applied to an argument, anywhere in it, replaced by the function's
-- body with the argument put in
pub data PutIn : Marked → Marked → Type 0 where
  put_here : {t : ℕ} {e a : Marked} → PutIn (mlapp (mlfun t e) a) (put 0 a e)
  in_fun : {t : ℕ} {e e' : Marked} → PutIn e e' → PutIn (mfun t e) (mfun t e')
  in_app_left : {f f' a : Marked} → PutIn f f' → PutIn (mapp f a) (mapp f' a)
  in_app_right : {f a a' : Marked} → PutIn a a' → PutIn (mapp f a) (mapp f a')
  in_lfun : {t : ℕ} {e e' : Marked} → PutIn e e' → PutIn (mlfun t e) (mlfun t e')
  in_lapp_left : {f f' a : Marked} → PutIn f f' → PutIn (mlapp f a) (mlapp f' a)
  in_lapp_right : {f a a' : Marked} → PutIn a a' → PutIn (mlapp f a) (mlapp f a')
  in_pair_left : {t : ℕ} {a a' b : Marked} → PutIn a a' → PutIn (mpair t a b) (mpair t a' b)
  in_pair_right : {t : ℕ} {a b b' : Marked} → PutIn b b' → PutIn (mpair t a b) (mpair t a b')
  in_proj_left : {a a' e : Marked} → PutIn a a' → PutIn (mproj a e) (mproj a' e)
  in_proj_right : {a e e' : Marked} → PutIn e e' → PutIn (mproj a e) (mproj a e')
  in_fix : {t : ℕ} {e e' : Marked} → PutIn e e' → PutIn (mfix t e) (mfix t e')

-- the node of the first term that is this application
abbrev pub put_node : {e e' : Marked} → PutIn e e' → ℕ
put_node put_here = 0
put_node (in_fun r) = suc (put_node r)
put_node (in_app_left r) = suc (put_node r)
put_node (in_app_right {f = f} r) = suc (nodes (plain f) + put_node r)
put_node (in_lfun r) = suc (put_node r)
put_node (in_lapp_left r) = suc (put_node r)
put_node (in_lapp_right {f = f} r) = suc (nodes (plain f) + put_node r)
put_node (in_pair_left r) = suc (put_node r)
put_node (in_pair_right {a = a} r) = suc (nodes (plain a) + put_node r)
put_node (in_proj_left r) = suc (put_node r)
put_node (in_proj_right {a = a} r) = suc (nodes (plain a) + put_node r)
put_node (in_fix r) = suc (put_node r)
