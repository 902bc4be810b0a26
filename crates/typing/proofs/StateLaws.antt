-- Laws of the steps of the walk that change the binders, by what the code has tested. Assumes nothing.
use Prim.Native.Nat.{ℕ, ◌+◌, ◌≤◌, ◌<◌}
use mathlib.Core.Path.{◌≡◌, refl, ◌∙◌, subst}
use mathlib.Core.Bool.{Bool, true, false, cond}
use mathlib.Core.List.{List, [], ◌∷◌}
use denote.Enum.Declared.{tag_of}
use types.Run.{OneOf, miss}
use native.Mathlib.Omega.{arith}
use native.Mathlib.Nat.{add-zero}
use borrow.Author.Tests.{eq-eqb, ne_eqb}
use lib.ListN.{length, get_or, set, drop, length-set}
use Rattle.calculus.specs.Answer.{Answer, refused, refuse, clash, a_form}
use Rattle.calculus.specs.Terms.{Edition}
use Rattle.calculus.specs.Walk.{shared, Stack, Found, found}
use Rattle.laws.proofs.Tests.{on_cond}
use Rattle.records.specs.Rules.{is_projection, is_naming}
use Rattle.records.specs.declared.Rule.{Rule}
use Rattle.records.specs.declared.Rule.TheVariants as rule
use Rattle.records.specs.contracts.Rule.{the_type}
use Rattle.binders.specs.declared.Binders.{Binders}
use Rattle.binders.specs.Stacks.{Use, bits_of, with_bit, binder_of, stack_from, stack_of, slot_of, shared_use, linear_use, said_use}
use Rattle.binders.proofs.Laws.{past, past-kept, pushed, shared-said, linear-said}
use Rattle.binders.proofs.Bits.{bits_set, bits_length}
use Rattle.typing.specs.declared.rules.Halves.{Halves}
use Rattle.typing.specs.declared.rules.Opening.{Opening}
use Rattle.typing.specs.declared.rules.Opening.TheVariants as opening
use Rattle.typing.specs.declared.rules.Binding.{Binding}
use Rattle.std.specs.declared.result.Result.TheVariants.{Ok, Err}
use Rattle.std.specs.declared.option.Option.TheVariants.{Some, None}
use Rattle.typing.specs.Verdicts.{Verdict, fine_at}
use Rattle.typing.specs.declared.rules.Misfit.{Misfit}
use Rattle.answers.specs.declared.Refusal.{Refusal}
use Rattle.records.specs.TypeNumbers.{left_no, right_no}
use Rattle.typing.specs.Steps.{Types, Fitting, constant_of, leaf_of, opening_of, binding_of, opened_stack, enter_of, wanted_of, used_up, leave_one, enters_of, halves_in, halves_of, between_of, joined_of, closes_of, leave_two}
use Rattle.typing.specs.Verdicts.{Held, reached, halves, FollowsOn, FollowsHeld}
use Rattle.typing.specs.Walkable.{CountsOf, Names}
use Rattle.typing.proofs.VerdictLaws.{found_at, follows_on, follows_at}

-- ---- leaves

module _
    (R : Types) (l : ℕ) (E : Edition) (w : Rule) (x y n : ℕ) (b : Binders) {i k scope ty sort : ℕ} {sorts marks : List ℕ} (N : Names b x scope ty sorts marks)
    (e : i ≡ x) (p : k ≡ slot_of scope i) (z : sort ≡ get_or (bits_of sorts) k 0) {u : Use} where
  pub leaf_shared : w ≡ rule.Variable → u ≡ shared_use scope i (binder_of ty sort 0)
      → said_use u (stack_from b.types (bits_of b.sorts) (bits_of marks) b.count) n ≡ leaf_of R l E w x y n (stack_of b)
  unfolding leaf_of
  leaf_shared h f =
      rw (f, z, p, e, N.type, N.count, N.same_sorts, N.same_marks, h) (shared-said b.types (bits_of b.sorts) (bits_of b.used) n b.count x)

  pub leaf_linear : w ≡ rule.LinearVariable → scope ≤ 128 → {mark : ℕ} → mark ≡ get_or (bits_of marks) k 0 → u ≡ linear_use scope i (binder_of ty sort mark)
      → said_use u (stack_from b.types (bits_of b.sorts) (bits_of (with_bit marks k 1)) b.count) n ≡ leaf_of R l E w x y n (stack_of b)
  unfolding leaf_of
  leaf_linear h q m f =
      let c : b.count ≤ 128 = rw N.count at q in
      rw (f, m, z, bits_set marks k 1 (omega arith), p, e, N.type, N.count, N.same_sorts, N.same_marks, h)
      (linear-said b.types (bits_of b.sorts) (bits_of b.used) n b.count x (omega (arith, bits_length b.used)))

abbrev others : List ℕ
others = 2 ∷ 3 ∷ 4 ∷ 5 ∷ 6 ∷ 7 ∷ 8 ∷ 9 ∷ 10 ∷ []

pub leaf_constant : (R : Types) (l : ℕ) (E : Edition) (w : Rule) (x y n : ℕ) (st : Stack) → OneOf others (tag_of the_type w) → constant_of R l E x y n st ≡ leaf_of R l E w x y n st
unfolding leaf_of
leaf_constant R l E rule.Variable x y n st o = absurd (miss others 0 tt o)
leaf_constant R l E rule.LinearVariable x y n st o = absurd (miss others 1 tt o)
leaf_constant R l E rule.Function x y n st o = refl
leaf_constant R l E rule.Application x y n st o = refl
leaf_constant R l E rule.LinearFunction x y n st o = refl
leaf_constant R l E rule.LinearApplication x y n st o = refl
leaf_constant R l E rule.Pair x y n st o = refl
leaf_constant R l E rule.Projection x y n st o = refl
leaf_constant R l E rule.FixedPoint x y n st o = refl
leaf_constant R l E rule.Constant x y n st o = refl
leaf_constant R l E rule.Naming x y n st o = refl

-- ---- entering

-- the binders after an opening's stores, past those in scope
abbrev pub bound_to : Binders → Binding → List ℕ → List ℕ → Binders
bound_to b o sorts used = record { types = set b.types b.count o.ty; sorts = sorts; used = used; count = b.count + o.count }

module _ (b : Binders) (L : length b.types ≡ 128) (r : b.count < 128) where
  -- the stores as those of lists
  bound-bits : (s : ℕ) → s < 2 → (n : ℕ) (ts : List ℕ)
      → stack_from ts (bits_of (with_bit b.sorts b.count s)) (bits_of (with_bit b.used b.count 0)) n ≡ stack_from ts (set (bits_of b.sorts) b.count s) (set (bits_of b.used) b.count 0) n
  bound-bits s h n ts = rw (bits_set b.sorts b.count s h, bits_set b.used b.count 0 (omega arith))

  opens-is : (o : Opening) (t n : ℕ) → found t (stack_of (bound_to b (binding_of o) (with_bit b.sorts b.count (binding_of o).sort) (with_bit b.used b.count 0))) ≡ opened_stack (Some o) t n (stack_of b)
  opens-is opening.Nothing t n = rw (add-zero b.count, bound-bits 0 (omega arith), past b.types (bits_of b.sorts) (bits_of b.used) b.count 0 0 0 b.count (omega arith))
  opens-is (opening.Shared u) t n = rw (bound-bits 0 (omega arith), pushed b.types (bits_of b.sorts) (bits_of b.used) u 0 0 b.count (omega arith) (omega (arith, bits_length b.sorts)) (omega (arith, bits_length b.used)))
  opens-is (opening.Linear u) t n = rw (bound-bits 1 (omega arith), pushed b.types (bits_of b.sorts) (bits_of b.used) u 1 0 b.count (omega arith) (omega (arith, bits_length b.sorts)) (omega (arith, bits_length b.used)))

module _ (R : Types) (w : Rule) (t n : ℕ) where
  pub enter-misfit : (st : Stack) → None ≡ opening_of w t (R t) → refused (clash n a_form t) ≡ enter_of R w t n st
  enter-misfit st e = rw (← e)

  pub enter-opened : {o : Opening} {q : Binding} → Some o ≡ opening_of w t (R t) → q ≡ binding_of o → (b : Binders) → length b.types ≡ 128 → b.count < 128
      → {ss us : List ℕ} → ss ≡ with_bit b.sorts b.count q.sort → us ≡ with_bit b.used b.count 0
      → found t (stack_of (bound_to b q ss us)) ≡ enter_of R w t n (stack_of b)
  enter-opened {o} e g b L r es eu = rw (es, eu, g, ← e) (opens-is b L r o t n)

-- one variable at most
pub binds_few : (o : Opening) {q : Binding} → q ≡ binding_of o → q.count ≤ 1
binds_few opening.Nothing g = rw g (omega arith)
binds_few (opening.Shared t) g = rw g (omega arith)
binds_few (opening.Linear t) g = rw g (omega arith)

-- .. of sort 0 or 1
pub binds_sort : (o : Opening) {q : Binding} → q ≡ binding_of o → q.sort < 2
binds_sort opening.Nothing g = rw g (omega arith)
binds_sort (opening.Shared t) g = rw g (omega arith)
binds_sort (opening.Linear t) g = rw g (omega arith)

-- ---- leaving a node with one subterm

module _ (R : Types) (w : Rule) (t n : ℕ) (st : Stack) where
  module _ (u : ℕ) {b : Bool} (e : b ≡ used_up w st) where
    pub leave-unused : b ≡ false → refuse 14 n ≡ leave_one R w t n (found_at u st)
    unfolding leave_one
    leave-unused h = rw (← e, h)

    module _ (h : b ≡ true) {v : ℕ} (g : v ≡ wanted_of w t (R t)) where
      pub leave-misfit : {x : ℕ} → x ≡ v → ¬ (u ≡ v) → refused (clash n x u) ≡ leave_one R w t n (found_at u st)
      unfolding leave_one
      leave-misfit q d = rw (q, ← e, h, ← g, ne_eqb u v d)

      pub leave-fine : u ≡ v → found t (drop 1 st) ≡ leave_one R w t n (found_at u st)
      unfolding leave_one
      leave-fine d = rw (← e, h, ← g, eq-eqb u v d)

-- ---- between two subterms

module _ (R : Types) (w : Rule) (n u : ℕ) (st : Stack) {b : Bool} (e : b ≡ enters_of w (R u)) where
  pub between-misfit : b ≡ false → refused (clash n a_form u) ≡ between_of R w n (found_at u st)
  unfolding between_of
  between-misfit d = rw (← e, d)

  pub between_fine : b ≡ true → found u (halves_of R w u st) ≡ between_of R w n (found_at u st)
  unfolding between_of
  between_fine d = rw (← e, d)

-- the binders after the stores of two halves, past those in scope, with m of them in scope
abbrev pub halved_to : Binders → ℕ → Halves → ℕ → List ℕ → List ℕ → Binders
halved_to b c q m sorts used = record { types = set (set b.types c q.first) (c + 1) q.second; sorts = sorts; used = used; count = c + m }

-- the words with digits c and c + 1 at 0
abbrev pub cleared_at : List ℕ → ℕ → List ℕ
cleared_at ws c = with_bit (with_bit ws c 0) (c + 1) 0

-- the first c of the binders
abbrev pub in_scope_lem : Binders → ℕ → Stack
in_scope_lem b c = stack_from b.types (bits_of b.sorts) (bits_of b.used) c

cleared_bits : (ws : List ℕ) (c : ℕ) → bits_of (cleared_at ws c) ≡ set (set (bits_of ws) c 0) (c + 1) 0
cleared_bits ws c = rw (bits_set (with_bit ws c 0) (c + 1) 0 (omega arith), bits_set ws c 0 (omega arith))

module _ (b : Binders) (L : length b.types ≡ 128) (c : ℕ) (r : c + 1 < 128) where
  abbrev ss : List ℕ
  ss = bits_of b.sorts

  abbrev us : List ℕ
  us = bits_of b.used

  ss-long : length ss ≡ 128
  ss-long = bits_length b.sorts

  us-long : length us ≡ 128
  us-long = bits_length b.used

  halves-at : (x y : Bool) (t i j : ℕ)
      → stack_of (halved_to b c (cond x (record { first = i; second = j }) (record { first = t; second = 0 })) (cond x 2 (cond y 1 0)) (cleared_at b.sorts c) (cleared_at b.used c))
      ≡ cond x (shared j ∷ shared i ∷ in_scope_lem b c) (cond y (shared t ∷ in_scope_lem b c) (in_scope_lem b c))
  halves-at true y t i j =
      let z : c + 2 ≡ c + 1 + 1 = omega arith in
      rw (
        z,
        cleared_bits b.sorts c,
        cleared_bits b.used c,
        pushed (set b.types c i) (set ss c 0) (set us c 0) j 0 0 (c + 1) (rw length-set (omega arith)) (rw length-set (omega (arith, ss-long))) (rw length-set (omega (arith, us-long))),
        pushed b.types ss us i 0 0 c (omega arith) (omega (arith, ss-long)) (omega (arith, us-long)),
      )
  halves-at false true t i j =
      rw (
        cleared_bits b.sorts c,
        cleared_bits b.used c,
        past (set b.types c t) (set ss c 0) (set us c 0) (c + 1) 0 0 0 (c + 1) (omega arith),
        pushed b.types ss us t 0 0 c (omega arith) (omega (arith, ss-long)) (omega (arith, us-long)),
      )
  halves-at false false t i j =
      rw (
        add-zero c,
        cleared_bits b.sorts c,
        cleared_bits b.used c,
        past (set b.types c t) (set ss c 0) (set us c 0) (c + 1) 0 0 0 c (omega arith),
        past b.types ss us c t 0 0 c (omega arith),
      )

  halves_are : (R : Types) (w : Rule) (u : ℕ) {q : Halves} {m : ℕ} {s' u' : List ℕ} → q ≡ halves_in w u (R u) → m ≡ closes_of w → s' ≡ cleared_at b.sorts c → u' ≡ cleared_at b.used c
      → stack_of (halved_to b c q m s' u') ≡ halves_of R w u (in_scope_lem b c)
  unfolding closes_of halves_in
  halves_are R w u {q} e h es eu = rw (es, eu, h, e) (halves-at (is_projection w) (is_naming w) u (left_no (R u)) (right_no (R u)))

-- two at most
pub closes_few : (w : Rule) → closes_of w ≤ 2
unfolding closes_of
closes_few w = on_cond (λ (m : ℕ). m ≤ 2) (is_projection w) 2 _ (λ _. omega arith) (on_cond (λ (m : ℕ). m ≤ 2) (is_naming w) 1 0 (λ _. omega arith) (omega arith))

-- the second subterm, after a first one that has c binders
module _ (R : Types) (w : Rule) (x : Held) {f : Found → Answer Found} {v : Verdict} where
  pub follows_refused : {r : Refusal} → v ≡ Err r → FollowsOn x.verdict (stack_of x.binders) v (halves R w v (stack_of x.binders)) f → FollowsHeld x (reached v x.binders) f
  follows_refused e F = follows_on x x.binders (subst (λ (st : Stack). FollowsOn x.verdict (stack_of x.binders) v st f) (rw e refl) F)

  pub follows_halves : length x.binders.types ≡ 128 → (c : ℕ) → c + 1 < 128 → CountsOf c x → {u i j : ℕ} → v ≡ fine_at u i j
      → FollowsOn x.verdict (in_scope_lem x.binders c) v (halves R w v (in_scope_lem x.binders c)) f
      → {q : Halves} {m : ℕ} {s' u' : List ℕ} → q ≡ halves_in w u (R u) → m ≡ closes_of w → s' ≡ cleared_at x.binders.sorts c → u' ≡ cleared_at x.binders.used c
      → FollowsHeld x (reached (fine_at u i j) (halved_to x.binders c q m s' u')) f
  follows_halves L c r n {u} e F {q} {m} {s'} {u'} g h es eu =
      follows_at x (halved_to x.binders c q m s' u') c n (rw (halves_are x.binders L c r R w u g h es eu) (rw e at F))

-- ---- the binders in scope are as before

-- .. after an opening's stores, with any marks
pub bound_kept : (b : Binders) (o : Binding) {ss : List ℕ} (us : List ℕ) → o.sort < 2 → ss ≡ with_bit b.sorts b.count o.sort
    → stack_from (set b.types b.count o.ty) (bits_of ss) us b.count ≡ stack_from b.types (bits_of b.sorts) us b.count
bound_kept b o us h e = rw (e, bits_set b.sorts b.count o.sort h) (past-kept b.types (bits_of b.sorts) us b.count o.ty o.sort b.count (omega arith))

-- .. after the stores of two halves
pub halved-kept : (ts : List ℕ) (c : ℕ) (q : Halves) (ws : List ℕ) {ss : List ℕ} (us : List ℕ) → ss ≡ cleared_at ws c
    → stack_from (set (set ts c q.first) (c + 1) q.second) (bits_of ss) us c ≡ stack_from ts (bits_of ws) us c
halved-kept ts c q ws us e =
    rw (e, cleared_bits ws c)
    (past-kept (set ts c q.first) (set (bits_of ws) c 0) us (c + 1) q.second 0 c (omega arith) ∙ past-kept ts (bits_of ws) us c q.first 0 c (omega arith))

-- ---- leaving a node with two subterms

module _ (R : Types) (w : Rule) (t n a u : ℕ) (st : Stack) {f : Fitting} (e : f ≡ joined_of R w t a u) where
  pub two-misfit : {m : Misfit} → f ≡ Err m → refused (clash n m.wanted m.found) ≡ leave_two R w t n a (found_at u st)
  two-misfit h = rw (← e, h)

  pub two_fine : {v : ℕ} → f ≡ Ok v → found v (drop (closes_of w) st) ≡ leave_two R w t n a (found_at u st)
  two_fine h = rw (← e, h)
