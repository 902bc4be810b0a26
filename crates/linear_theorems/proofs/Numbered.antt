-- Every term can be marked by its nodes, and an argument is put in just the same: so nothing is left out where a sheet's constants are
-- marked by their nodes. Assumes nothing.
use Prim.Native.Nat.{ℕ, suc, ◌+◌}
use mathlib.Core.Path.{◌≡◌, refl, sym, ap, ap₂, subst, ◌∙◌}
use mathlib.Core.Bool.{Bool, true, false, cond}
use mathlib.Core.List.{List}
use lib.Dec.{T}
use Rattle.calculus.specs.Answer.{good}
use Rattle.calculus.specs.Types.{Table}
use Rattle.calculus.specs.Terms.{Edition, first, is_second, Term, var, lvar, fun, app, lfun, lapp, pair, proj, fix, con, name, nodes}
use Rattle.calculus.specs.Read.{Sheet, read_sheet}
use Rattle.calculus.specs.Write.{sheet_bytes}
use Rattle.sheet_theorems.specs.Laid.{Ranged}
use Rattle.sheet_theorems.proofs.Laying.{laid}
use Rattle.linear_theorems.specs.Marked.{Marked, mvar, mlvar, mfun, mapp, mlfun, mlapp, mpair, mproj, mfix, mcon, plain, ByNode}
use Rattle.linear_theorems.specs.PutIn.{without, same, raise, put, PutIn, put_here, in_fun, in_app_left, in_app_right, in_lfun, in_lapp_left, in_lapp_right, in_pair_left, in_pair_right, in_proj_left, in_proj_right, in_fix}
use Rattle.linear_theorems.specs.Harmless.{Rewritten}
use Rattle.linear_theorems.proofs.Weights.{raise-nodes}

-- the term as node n, its constants marked anew
abbrev pub marked_from : Marked → ℕ → Marked
marked_from (mvar i) n = mvar i
marked_from (mlvar i) n = mlvar i
marked_from (mfun t e) n = mfun t (marked_from e (n + 1))
marked_from (mapp f a) n = mapp (marked_from f (n + 1)) (marked_from a (n + 1 + nodes (plain f)))
marked_from (mlfun t e) n = mlfun t (marked_from e (n + 1))
marked_from (mlapp f a) n = mlapp (marked_from f (n + 1)) (marked_from a (n + 1 + nodes (plain f)))
marked_from (mpair t a b) n = mpair t (marked_from a (n + 1)) (marked_from b (n + 1 + nodes (plain a)))
marked_from (mproj a e) n = mproj (marked_from a (n + 1)) (marked_from e (n + 1 + nodes (plain a)))
marked_from (mfix t e) n = mfix t (marked_from e (n + 1))
marked_from (mcon p t k) n = mcon p t n

pub numbered-plain : (e : Marked) (n : ℕ) → plain (marked_from e n) ≡ plain e
numbered-plain (mvar i) n = refl
numbered-plain (mlvar i) n = refl
numbered-plain (mfun t e) n = ap (fun t) (numbered-plain e (n + 1))
numbered-plain (mapp f a) n = ap₂ app (numbered-plain f (n + 1)) (numbered-plain a (n + 1 + nodes (plain f)))
numbered-plain (mlfun t e) n = ap (lfun t) (numbered-plain e (n + 1))
numbered-plain (mlapp f a) n = ap₂ lapp (numbered-plain f (n + 1)) (numbered-plain a (n + 1 + nodes (plain f)))
numbered-plain (mpair t a b) n = ap₂ (pair t) (numbered-plain a (n + 1)) (numbered-plain b (n + 1 + nodes (plain a)))
numbered-plain (mproj a e) n = ap₂ proj (numbered-plain a (n + 1)) (numbered-plain e (n + 1 + nodes (plain a)))
numbered-plain (mfix t e) n = ap (fix t) (numbered-plain e (n + 1))
numbered-plain (mcon p t k) n = refl

-- two subterms
both-nodes : (a b : Marked) (n : ℕ) → ((k : ℕ) → ByNode (marked_from a k) k) → ((k : ℕ) → ByNode (marked_from b k) k)
    → ByNode (marked_from a (n + 1)) (n + 1) × ByNode (marked_from b (n + 1 + nodes (plain a))) (n + 1 + nodes (plain (marked_from a (n + 1))))
both-nodes a b n p q = (p (n + 1), subst (λ (e : Term). ByNode (marked_from b (n + 1 + nodes (plain a))) (n + 1 + nodes e)) (sym (numbered-plain a (n + 1))) (q (n + 1 + nodes (plain a))))

pub numbered-nodes : (e : Marked) (n : ℕ) → ByNode (marked_from e n) n
numbered-nodes (mvar i) n = tt
numbered-nodes (mlvar i) n = tt
numbered-nodes (mfun t e) n = numbered-nodes e (n + 1)
numbered-nodes (mapp f a) n = both-nodes f a n (numbered-nodes f) (numbered-nodes a)
numbered-nodes (mlfun t e) n = numbered-nodes e (n + 1)
numbered-nodes (mlapp f a) n = both-nodes f a n (numbered-nodes f) (numbered-nodes a)
numbered-nodes (mpair t a b) n = both-nodes a b n (numbered-nodes a) (numbered-nodes b)
numbered-nodes (mproj a e) n = both-nodes a e n (numbered-nodes a) (numbered-nodes e)
numbered-nodes (mfix t e) n = numbered-nodes e (n + 1)
numbered-nodes (mcon p t k) n = refl

-- ---- marking and putting in

module _ (c : ℕ) (f : Marked) (d n : ℕ) (b : Marked) (h : (m : ℕ) → raise d (marked_from b m) ≡ marked_from (raise d b) m) where
  -- the second of two subterms
  raise-second : raise d (marked_from b (n + 1 + nodes (plain f))) ≡ marked_from (raise d b) (n + 1 + nodes (plain (raise c f)))
  raise-second = h (n + 1 + nodes (plain f)) ∙ ap (λ (k : ℕ). marked_from (raise d b) (n + 1 + k)) (sym (raise-nodes c f))

raise-numbered : (c : ℕ) (e : Marked) (n : ℕ) → raise c (marked_from e n) ≡ marked_from (raise c e) n
raise-numbered c (mvar i) n = refl
raise-numbered c (mlvar i) n = refl
raise-numbered c (mfun t e) n = ap (mfun t) (raise-numbered (suc c) e (n + 1))
raise-numbered c (mapp f a) n = ap₂ mapp (raise-numbered c f (n + 1)) (raise-second c f c n a (raise-numbered c a))
raise-numbered c (mlfun t e) n = ap (mlfun t) (raise-numbered (suc c) e (n + 1))
raise-numbered c (mlapp f a) n = ap₂ mlapp (raise-numbered c f (n + 1)) (raise-second c f c n a (raise-numbered c a))
raise-numbered c (mpair t a b) n = ap₂ (mpair t) (raise-numbered c a (n + 1)) (raise-second c a c n b (raise-numbered c b))
raise-numbered c (mproj a e) n = ap₂ mproj (raise-numbered c a (n + 1)) (raise-second c a (suc (suc c)) n e (raise-numbered (suc (suc c)) e))
raise-numbered c (mfix t e) n = ap (mfix t) (raise-numbered (suc c) e (n + 1))
raise-numbered c (mcon p t k) n = refl

at-variable : (b : Bool) (a : Marked) (m i : ℕ) → plain (cond b (marked_from a m) (mlvar i)) ≡ plain (cond b a (mlvar i))
at-variable true a m i = numbered-plain a m
at-variable false a m i = refl

put-numbered : (j : ℕ) (a e : Marked) (m n : ℕ) → plain (put j (marked_from a m) (marked_from e n)) ≡ plain (put j a e)
put-numbered j a (mvar i) m n = refl
put-numbered j a (mlvar i) m n = at-variable (same j i) a m (without j i)
put-numbered j a (mfun t e) m n = ap (fun t) (rw (raise-numbered 0 a m) (put-numbered (suc j) (raise 0 a) e m (n + 1)))
put-numbered j a (mapp f b) m n = ap₂ app (put-numbered j a f m (n + 1)) (put-numbered j a b m (n + 1 + nodes (plain f)))
put-numbered j a (mlfun t e) m n = ap (lfun t) (rw (raise-numbered 0 a m) (put-numbered (suc j) (raise 0 a) e m (n + 1)))
put-numbered j a (mlapp f b) m n = ap₂ lapp (put-numbered j a f m (n + 1)) (put-numbered j a b m (n + 1 + nodes (plain f)))
put-numbered j a (mpair t f b) m n = ap₂ (pair t) (put-numbered j a f m (n + 1)) (put-numbered j a b m (n + 1 + nodes (plain f)))
put-numbered j a (mproj f e) m n =
    ap₂ proj (put-numbered j a f m (n + 1)) (rw (raise-numbered 0 a m, raise-numbered 0 (raise 0 a) m) (put-numbered (suc (suc j)) (raise 0 (raise 0 a)) e m (n + 1 + nodes (plain f))))
put-numbered j a (mfix t e) m n = ap (fix t) (rw (raise-numbered 0 a m) (put-numbered (suc j) (raise 0 a) e m (n + 1)))
put-numbered j a (mcon p t k) m n = refl

-- the same step from the term marked anew
pub record NumberedStep (e e' : Marked) (n : ℕ) : Type 0 where
  pub to : Marked
  pub puts : PutIn (marked_from e n) to
  pub same : plain to ≡ plain e'

step : {e e' : Marked} → PutIn e e' → (n : ℕ) → NumberedStep e e' n
step (put_here {t = t} {e = e} {a = a}) n = record { to = _; puts = put_here; same = put-numbered 0 a e (n + 1 + nodes (plain (mlfun t e))) (n + 1 + 1) }
step (in_fun {t = t} r) n = let s = step r (n + 1) in record { to = _; puts = in_fun s.puts; same = ap (fun t) s.same }
step (in_app_left {a = a} r) n = let s = step r (n + 1) in record { to = _; puts = in_app_left s.puts; same = ap₂ app s.same (numbered-plain a _) }
step (in_app_right {f = f} r) n = let s = step r (n + 1 + nodes (plain f)) in record { to = _; puts = in_app_right s.puts; same = ap₂ app (numbered-plain f (n + 1)) s.same }
step (in_lfun {t = t} r) n = let s = step r (n + 1) in record { to = _; puts = in_lfun s.puts; same = ap (lfun t) s.same }
step (in_lapp_left {a = a} r) n = let s = step r (n + 1) in record { to = _; puts = in_lapp_left s.puts; same = ap₂ lapp s.same (numbered-plain a _) }
step (in_lapp_right {f = f} r) n = let s = step r (n + 1 + nodes (plain f)) in record { to = _; puts = in_lapp_right s.puts; same = ap₂ lapp (numbered-plain f (n + 1)) s.same }
step (in_pair_left {t = t} {b = b} r) n = let s = step r (n + 1) in record { to = _; puts = in_pair_left s.puts; same = ap₂ (pair t) s.same (numbered-plain b _) }
step (in_pair_right {t = t} {a = a} r) n = let s = step r (n + 1 + nodes (plain a)) in record { to = _; puts = in_pair_right s.puts; same = ap₂ (pair t) (numbered-plain a (n + 1)) s.same }
step (in_proj_left {e = e} r) n = let s = step r (n + 1) in record { to = _; puts = in_proj_left s.puts; same = ap₂ proj s.same (numbered-plain e _) }
step (in_proj_right {a = a} r) n = let s = step r (n + 1 + nodes (plain a)) in record { to = _; puts = in_proj_right s.puts; same = ap₂ proj (numbered-plain a (n + 1)) s.same }
step (in_fix {t = t} r) n = let s = step r (n + 1) in record { to = _; puts = in_fix s.puts; same = ap (fix t) s.same }

-- ---- every first_edition sheet that is read

-- there 1B does not stand, so the term is a marked one without its marks
unmarked : (Θ : Table) (e : Term) → Ranged first Θ e → (m : Marked) × (plain m ≡ e)
unmarked Θ (var i) r = (mvar i, refl)
unmarked Θ (lvar i) r = (mlvar i, refl)
unmarked Θ (fun t e) r = let h = unmarked Θ e r.1 in (mfun t h.0, ap (fun t) h.1)
unmarked Θ (app f a) r = let h = unmarked Θ f r.0 in let k = unmarked Θ a r.1 in (mapp h.0 k.0, ap₂ app h.1 k.1)
unmarked Θ (lfun t e) r = let h = unmarked Θ e r.1 in (mlfun t h.0, ap (lfun t) h.1)
unmarked Θ (lapp f a) r = let h = unmarked Θ f r.0 in let k = unmarked Θ a r.1 in (mlapp h.0 k.0, ap₂ lapp h.1 k.1)
unmarked Θ (pair t a b) r = let h = unmarked Θ a r.1 in let k = unmarked Θ b r.2 in (mpair t h.0 k.0, ap₂ (pair t) h.1 k.1)
unmarked Θ (proj a e) r = let h = unmarked Θ a r.0 in let k = unmarked Θ e r.1 in (mproj h.0 k.0, ap₂ proj h.1 k.1)
unmarked Θ (fix t e) r = let h = unmarked Θ e r.1 in (mfix t h.0, ap (fix t) h.1)
unmarked Θ (con p t) r = (mcon p t 0, refl)
unmarked Θ (name a e) r = absurd (subst (λ (E : Edition). T (is_second E)) (sym r.0) tt)

pub markable : (s : List ℕ) (σ : Sheet) → read_sheet s ≡ good σ → σ.edition ≡ first → (m : Marked) × (plain m ≡ σ.term)
markable s σ h f = unmarked σ.table σ.term (subst (λ (E : Edition). Ranged E σ.table σ.term) f (laid s σ h).ranged)

-- each linear function that is applied in a sheet that is read, however its constants are marked, is one that `harmless` speaks of
pub rewritable : (s : List ℕ) (Θ : Table) (e e' : Marked) → read_sheet s ≡ good (record { edition = first; table = Θ; term = plain e }) → PutIn e e' → Rewritten s (sheet_bytes first Θ (plain e'))
rewritable s Θ e e' h r =
    let p = step r 0 in
    record {
      table = Θ;
      before = marked_from e 0;
      after = p.to;
      reads = h ∙ ap (λ (x : Term). good (record { edition = first; table = Θ; term = x })) (sym (numbered-plain e 0));
      marked = numbered-nodes e 0;
      puts = p.puts;
      writes = ap (sheet_bytes first Θ) (sym p.same);
    }
