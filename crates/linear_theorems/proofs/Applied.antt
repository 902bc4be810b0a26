-- Each linear function that is applied in a sheet can have its argument put in: at its node there is one step, so `harmless` leaves none out
-- (document 02, L13). Assumes nothing.
use Prim.Native.Nat.{ℕ, zero, suc, ◌+◌}
use mathlib.Core.Path.{◌≡◌, refl, sym, ap, subst, ◌∙◌}
use mathlib.Core.Logic.{◌⊎◌, inl, inr, ⊎_elim}
use mathlib.Core.Bool.{Bool, true, false}
use mathlib.Core.List.{List, [], ◌∷◌, ◌++◌}
use native.Mathlib.Omega.{arith}
use lib.Dec.{T}
use lib.ListN.{length, get_or}
use Rattle.calculus.specs.Answer.{good}
use Rattle.calculus.specs.Terms.{first, Term, var, lvar, fun, app, lfun, lapp, pair, proj, fix, con, name, nodes}
use Rattle.calculus.specs.Read.{Sheet, read_sheet}
use Rattle.calculus.specs.Write.{sheet_bytes}
use Rattle.sheet_theorems.specs.Subterms.{subterms}
use Rattle.sheet_theorems.proofs.StretchHolds.{count-subterms}
use Rattle.linear_theorems.specs.Marked.{Marked, mvar, mlvar, mfun, mapp, mlfun, mlapp, mpair, mproj, mfix, mcon, plain}
use Rattle.linear_theorems.specs.PutIn.{PutIn, put_here, in_fun, in_app_left, in_app_right, in_lfun, in_lapp_left, in_lapp_right, in_pair_left, in_pair_right, in_proj_left, in_proj_right, in_fix, put_node}
use Rattle.linear_theorems.specs.Harmless.{Rewritten}
use Rattle.linear_theorems.proofs.Numbered.{marked_from, numbered-plain, numbered-nodes, markable}

-- ---- a linear function that is applied

abbrev is_linear : Term → Bool
is_linear (var i) = false
is_linear (lvar i) = false
is_linear (fun t e) = false
is_linear (app f a) = false
is_linear (lfun t e) = true
is_linear (lapp f a) = false
is_linear (pair t a b) = false
is_linear (proj a e) = false
is_linear (fix t e) = false
is_linear (con p t) = false
is_linear (name a e) = false

abbrev is_applied : Term → Bool
is_applied (var i) = false
is_applied (lvar i) = false
is_applied (fun t e) = false
is_applied (app f a) = false
is_applied (lfun t e) = false
is_applied (lapp f a) = is_linear f
is_applied (pair t a b) = false
is_applied (proj a e) = false
is_applied (fix t e) = false
is_applied (con p t) = false
is_applied (name a e) = false

-- .. stands at k
abbrev AppliedAt : List Term → ℕ → Type 0
AppliedAt xs k = T (is_applied (get_or xs k (var 0)))

-- among the nodes of two subterms
in_two : (xs ys : List Term) (k : ℕ) → AppliedAt (xs ++ ys) k → AppliedAt xs k ⊎ ((j : ℕ) × (length xs + j ≡ k) × AppliedAt ys j)
in_two [] ys k h = inr (k, omega arith, h)
in_two (x ∷ xs) ys zero h = inl h
in_two (x ∷ xs) ys (suc k) h =
    ⊎_elim (λ (l : AppliedAt xs k). inl l) (λ (r : (j : ℕ) × (length xs + j ≡ k) × AppliedAt ys j). inr (r.0, omega (arith, r.1), r.2)) (in_two xs ys k h)

-- the step that puts an argument in at node k
record Found (e : Marked) (k : ℕ) : Type 0 where
  pub to : Marked
  pub puts : PutIn e to
  pub node : put_node puts ≡ k

here : (f a : Marked) → T (is_linear (plain f)) → Found (mlapp f a) 0
here (mvar i) a h = absurd h
here (mlvar i) a h = absurd h
here (mfun t e) a h = absurd h
here (mapp f b) a h = absurd h
here (mlfun t e) a h = record { to = _; puts = put_here; node = refl }
here (mlapp f b) a h = absurd h
here (mpair t b c) a h = absurd h
here (mproj b e) a h = absurd h
here (mfix t e) a h = absurd h
here (mcon p t k) a h = absurd h

-- in one of two subterms
two : (f a : Marked) (k : ℕ) {C : Type 0} → (AppliedAt (subterms (plain f)) k → C) → ((j : ℕ) → nodes (plain f) + j ≡ k → AppliedAt (subterms (plain a)) j → C) → AppliedAt (subterms (plain f) ++ subterms (plain a)) k → C
two f a k l r h =
    ⊎_elim l (λ (x : (j : ℕ) × (length (subterms (plain f)) + j ≡ k) × AppliedAt (subterms (plain a)) j). r x.0 (omega (arith, count-subterms (plain f), x.1)) x.2)
    (in_two (subterms (plain f)) (subterms (plain a)) k h)

find : (e : Marked) (k : ℕ) → AppliedAt (subterms (plain e)) k → Found e k
find (mvar i) zero h = absurd h
find (mvar i) (suc k) h = absurd h
find (mlvar i) zero h = absurd h
find (mlvar i) (suc k) h = absurd h
find (mfun t e) zero h = absurd h
find (mfun t e) (suc k) h = let r = find e k h in record { to = mfun t r.to; puts = in_fun r.puts; node = ap suc r.node }
find (mapp f a) zero h = absurd h
find (mapp f a) (suc k) h =
    two f a k {C = Found (mapp f a) (suc k)} (λ l. let r = find f k l in record { to = mapp r.to a; puts = in_app_left r.puts; node = ap suc r.node })
    (λ j q l. let r = find a j l in record { to = mapp f r.to; puts = in_app_right r.puts; node = ap (λ (x : ℕ). suc (nodes (plain f) + x)) r.node ∙ ap suc q }) h
find (mlfun t e) zero h = absurd h
find (mlfun t e) (suc k) h = let r = find e k h in record { to = mlfun t r.to; puts = in_lfun r.puts; node = ap suc r.node }
find (mlapp f a) zero h = here f a h
find (mlapp f a) (suc k) h =
    two f a k {C = Found (mlapp f a) (suc k)} (λ l. let r = find f k l in record { to = mlapp r.to a; puts = in_lapp_left r.puts; node = ap suc r.node })
    (λ j q l. let r = find a j l in record { to = mlapp f r.to; puts = in_lapp_right r.puts; node = ap (λ (x : ℕ). suc (nodes (plain f) + x)) r.node ∙ ap suc q }) h
find (mpair t a b) zero h = absurd h
find (mpair t a b) (suc k) h =
    two a b k {C = Found (mpair t a b) (suc k)} (λ l. let r = find a k l in record { to = mpair t r.to b; puts = in_pair_left r.puts; node = ap suc r.node })
    (λ j q l. let r = find b j l in record { to = mpair t a r.to; puts = in_pair_right r.puts; node = ap (λ (x : ℕ). suc (nodes (plain a) + x)) r.node ∙ ap suc q }) h
find (mproj a e) zero h = absurd h
find (mproj a e) (suc k) h =
    two a e k {C = Found (mproj a e) (suc k)} (λ l. let r = find a k l in record { to = mproj r.to e; puts = in_proj_left r.puts; node = ap suc r.node })
    (λ j q l. let r = find e j l in record { to = mproj a r.to; puts = in_proj_right r.puts; node = ap (λ (x : ℕ). suc (nodes (plain a) + x)) r.node ∙ ap suc q }) h
find (mfix t e) zero h = absurd h
find (mfix t e) (suc k) h = let r = find e k h in record { to = mfix t r.to; puts = in_fix r.puts; node = ap suc r.node }
find (mcon p t i) zero h = absurd h
find (mcon p t i) (suc k) h = absurd h

-- ---- and the other way round: where an argument is put in, a linear function is applied

in_left : (xs ys : List Term) (k : ℕ) → AppliedAt xs k → AppliedAt (xs ++ ys) k
in_left [] ys k h = absurd h
in_left (x ∷ xs) ys zero h = h
in_left (x ∷ xs) ys (suc k) h = in_left xs ys k h

in_right : (xs ys : List Term) (k : ℕ) → AppliedAt ys k → AppliedAt (xs ++ ys) (length xs + k)
in_right [] ys k h = let e : k ≡ 0 + k = omega arith in subst (AppliedAt ys) e h
in_right (x ∷ xs) ys k h = let e : suc (length xs + k) ≡ suc (length xs) + k = omega arith in subst (AppliedAt (x ∷ (xs ++ ys))) e (in_right xs ys k h)

in_second : (f a : Marked) (k : ℕ) → AppliedAt (subterms (plain a)) k → AppliedAt (subterms (plain f) ++ subterms (plain a)) (nodes (plain f) + k)
in_second f a k h =
    subst (λ (n : ℕ). AppliedAt (subterms (plain f) ++ subterms (plain a)) (n + k)) (count-subterms (plain f)) (in_right (subterms (plain f)) (subterms (plain a)) k h)

put-applied : {e e' : Marked} (r : PutIn e e') → AppliedAt (subterms (plain e)) (put_node r)
put-applied put_here = tt
put-applied (in_fun r) = put-applied r
put-applied (in_app_left {f = f} {a = a} r) = in_left (subterms (plain f)) (subterms (plain a)) (put_node r) (put-applied r)
put-applied (in_app_right {f = f} {a = a} r) = in_second f a (put_node r) (put-applied r)
put-applied (in_lfun r) = put-applied r
put-applied (in_lapp_left {f = f} {a = a} r) = in_left (subterms (plain f)) (subterms (plain a)) (put_node r) (put-applied r)
put-applied (in_lapp_right {f = f} {a = a} r) = in_second f a (put_node r) (put-applied r)
put-applied (in_pair_left {a = a} {b = b} r) = in_left (subterms (plain a)) (subterms (plain b)) (put_node r) (put-applied r)
put-applied (in_pair_right {a = a} {b = b} r) = in_second a b (put_node r) (put-applied r)
put-applied (in_proj_left {a = a} {e = e} r) = in_left (subterms (plain a)) (subterms (plain e)) (put_node r) (put-applied r)
put-applied (in_proj_right {a = a} {e = e} r) = in_second a e (put_node r) (put-applied r)
put-applied (in_fix r) = put-applied r

linear_form : (f a : Term) → T (is_linear f) → (t : ℕ) × (b c : Term) × (lapp f a ≡ lapp (lfun t b) c)
linear_form (var i) a h = absurd h
linear_form (lvar i) a h = absurd h
linear_form (fun t e) a h = absurd h
linear_form (app g b) a h = absurd h
linear_form (lfun t e) a h = (t, e, a, refl)
linear_form (lapp g b) a h = absurd h
linear_form (pair t b c) a h = absurd h
linear_form (proj b e) a h = absurd h
linear_form (fix t e) a h = absurd h
linear_form (con p t) a h = absurd h
linear_form (name b e) a h = absurd h

applied_form : (x : Term) → T (is_applied x) → (t : ℕ) × (b c : Term) × (x ≡ lapp (lfun t b) c)
applied_form (var i) h = absurd h
applied_form (lvar i) h = absurd h
applied_form (fun t e) h = absurd h
applied_form (app g b) h = absurd h
applied_form (lfun t e) h = absurd h
applied_form (lapp g b) h = linear_form g b h
applied_form (pair t b c) h = absurd h
applied_form (proj b e) h = absurd h
applied_form (fix t e) h = absurd h
applied_form (con p t) h = absurd h
applied_form (name b e) h = absurd h

pub puts_applied : {e e' : Marked} (r : PutIn e e') → (t : ℕ) × (b c : Term) × (get_or (subterms (plain e)) (put_node r) (var 0) ≡ lapp (lfun t b) c)
puts_applied {e} r = applied_form (get_or (subterms (plain e)) (put_node r) (var 0)) (put-applied r)

-- ---- every first_edition sheet

-- at each node that is a linear function applied, its argument can be put in
pub applied_puts : (e : Marked) (k t : ℕ) (b a : Term) → get_or (subterms (plain e)) k (var 0) ≡ lapp (lfun t b) a → (e' : Marked) × (r : PutIn e e') × (put_node r ≡ k)
applied_puts e k t b a q = let r = find e k (subst (λ (x : Term). T (is_applied x)) (sym q) tt) in (r.to, r.puts, r.node)

-- so in every first_edition sheet that is read, each linear function that is applied is one that `harmless` speaks of
pub applied_rewritten : (s : List ℕ) (σ : Sheet) → read_sheet s ≡ good σ → σ.edition ≡ first → (k t : ℕ) (b a : Term) → get_or (subterms σ.term) k (var 0) ≡ lapp (lfun t b) a
    → (s' : List ℕ) × (r : Rewritten s s') × (put_node r.puts ≡ k)
applied_rewritten s σ h f k t b a q = by (markable s σ h f).0 (markable s σ h f).1
  where
    by : (m : Marked) → plain m ≡ σ.term → (s' : List ℕ) × (r : Rewritten s s') × (put_node r.puts ≡ k)
    by m p =
        let e = marked_from m 0 in
        let is : plain e ≡ σ.term = numbered-plain m 0 ∙ p in
        let r = find e k (subst (λ (x : Term). T (is_applied x)) (sym (ap (λ (x : Term). get_or (subterms x) k (var 0)) is ∙ q)) tt) in
        let whole : σ ≡ record { edition = first; table = σ.table; term = plain e } = λ i. record { edition = f i; table = σ.table; term = sym is i } in (
          sheet_bytes first σ.table (plain r.to),
          record { table = σ.table; before = e; after = r.to; reads = h ∙ ap good whole; marked = numbered-nodes m 0; puts = r.puts; writes = refl },
          r.node,
        )
