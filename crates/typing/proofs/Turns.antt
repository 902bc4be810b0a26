-- The walk's turns at one node: what each call may take for granted, and what each way out says. Assumes nothing.
use Prim.Native.Nat.{ℕ, ◌+◌, ◌-◌, ◌≤◌, ◌<◌}
use mathlib.Core.Path.{◌≡◌, refl, sym, ap, subst, ◌∙◌}
use mathlib.Core.Bool.{true}
use mathlib.Core.List.{List}
use native.Mathlib.Omega.{arith}
use lib.ListN.{length}
use Rattle.calculus.specs.Answer.{Answer, good, ◌>>=◌}
use Rattle.calculus.proofs.Answers.{on-bind}
use Rattle.calculus.specs.Types.{Table}
use Rattle.calculus.specs.Terms.{Edition, Term, nodes}
use Rattle.calculus.specs.Write.{term_bytes}
use Rattle.calculus.specs.Walk.{Stack, Found, walk}
use Rattle.records.specs.Record.{node_at}
use Rattle.records.specs.Forms.{rec_in}
use Rattle.records.specs.Heads.{node_of}
use Rattle.records.specs.declared.Node.{Node}
use Rattle.records.proofs.Laws.{stands_record, stands-node, node-next}
use Rattle.binders.specs.Stacks.{stack_of}
use Rattle.binders.proofs.Laws.{length_of}
use Rattle.std.specs.declared.result.Result.TheVariants.{Ok, Err}
use Rattle.typing.specs.Verdicts.{Verdict, fine_at}
use Rattle.answers.specs.declared.Refusal.{Refusal}
use Rattle.typing.specs.Steps.{leaf_of, enter_of, leave_one, between_of, leave_two}
use Rattle.typing.specs.Verdicts.{Held, said, EndsAt, HeldSays, FollowsHeld}
use Rattle.typing.specs.Walkable.{Walkable, CountsOf, CountsIn}
use Rattle.typing.proofs.VerdictLaws.{found_at, said_fine, stops, refused_ends}
use Rattle.typing.proofs.Ranges.{StaysIn, kept}
use Rattle.typing.proofs.WalkLaws.{bind-same, bind_assoc, first_subterm, second_of, walk_after, walk_leaf, walk_steps, after_one, after_two}
use Rattle.typing.proofs.FitLaws.{depth-some, nodes-some, end_none, end_one, end-two, enter_one, enter-two, fits-first, fits-second}

-- ---- what fits

ends_as : (v : Verdict) {a b x y : ℕ} → a ≡ x → b ≡ y → EndsAt v a b → EndsAt v x y
ends_as v {a} {b} {x} {y} e f h = subst (λ (z : ℕ). EndsAt v x z) f (subst (λ (z : ℕ). EndsAt v z b) e h)

module _ {s : List ℕ} {l : ℕ} {E : Edition} {at node : ℕ} {Θ : Table} {e : Term} {st : Stack} where
  pub few_binders : Walkable s l E at node Θ e st → length st ≤ 126
  few_binders F = omega (arith, F.room, depth-some e)

  pub few-nodes : Walkable s l E at node Θ e st → node < 2048
  few-nodes F = omega (arith, F.few, nodes-some e)

  pub fits-at : {a n : ℕ} → at ≡ a → node ≡ n → Walkable s l E at node Θ e st → Walkable s l E a n Θ e st
  fits-at {a} {n} p q F = subst (λ (z : ℕ). Walkable s l E a z Θ e st) q (subst (λ (z : ℕ). Walkable s l E z node Θ e st) p F)

  fits_kept : Walkable s l E at node Θ e st → (r : Found) → walk E Θ e node st ≡ good r → StaysIn Θ st r
  fits_kept F r h = kept E Θ F.table e F.ranged node st F.numbers r h

  -- after a walk there are as many binders as before
  pub as_many : Walkable s l E at node Θ e st → (x : Held) {i j : ℕ} → HeldSays x (walk E Θ e node st) i j → {m : ℕ} → length st ≡ m → CountsOf m x
  as_many F x X {m} l = by-verdict x.verdict refl
    where
      by-verdict : (v : Verdict) → x.verdict ≡ v → CountsIn m v x.binders.count
      by-verdict (Ok g) q = omega (arith, (fits_kept F (found_at g.ty (stack_of x.binders)) (sym X.answer ∙ said_fine x q)).count, length_of x.binders)
      by-verdict (Err r) q = tt

-- ---- at a node: what is known, place by place of the code

module _ (s : List ℕ) (l : ℕ) (E : Edition) (at node : ℕ) (st : Stack) (Θ : Table) (e : Term) where
  -- the node's record has been read
  pub record Here : Type 0 where
    pub n : Node
    pub here : n ≡ node_at s at
    pub fits : Walkable s l E at node Θ e st

  -- a node with subterms has been entered
  pub record Inside : Type 0 where
    pub place : Here
    pub i : Held
    pub some : ¬ (place.n.subterms ≡ 0)
    pub says : HeldSays i (enter_of (rec_in s) place.n.rule place.n.first node st) place.n.next (node + 1)

  -- .. and not refused
  pub record InsideFine : Type 0 where
    pub inside : Inside
    pub t : ℕ
    pub start : ℕ
    pub count : ℕ
    pub fine : inside.i.verdict ≡ fine_at t start count

  -- the first subterm has been walked
  pub record First : Type 0 where
    pub opened : InsideFine
    pub x : Held
    pub says :
        HeldSays x (walk E Θ (first_subterm e) opened.count (stack_of opened.inside.i.binders)) (opened.start + length (term_bytes (first_subterm e))) (opened.count + nodes (first_subterm e))

  -- there is a second one, and it has been entered
  pub record Middle : Type 0 where
    pub first : First
    pub m : Held
    pub two : ¬ (first.opened.inside.place.n.subterms ≡ 1)
    pub follows : FollowsHeld first.x m (between_of (rec_in s) first.opened.inside.place.n.rule node)

  -- .. and not refused
  pub record Second : Type 0 where
    pub middle : Middle
    pub u : ℕ
    pub start : ℕ
    pub count : ℕ
    pub fine : middle.m.verdict ≡ fine_at u start count

  -- the verdict on the whole term
  abbrev pub Done : Held → Type 0
  Done c = HeldSays c (walk E Θ e node st) (at + length (term_bytes e)) (node + nodes e)

-- ---- .. and what follows there

module _ {s : List ℕ} {l : ℕ} {E : Edition} {at node : ℕ} {st : Stack} {Θ : Table} {e : Term} where
  module _ (h : Here s l E at node st Θ e) where
    node_is : h.n ≡ node_of e at
    node_is = h.here ∙ stands-node s at e h.fits.stands

    -- its record ends past its start
    node-ends : (at < h.n.next) × (h.n.next ≤ length s)
    node-ends = rw node_is (node-next true s at (stands_record true s at e h.fits.stands))

    subterms-are : h.n.subterms ≡ (node_of e at).subterms
    subterms-are = ap (λ (n : Node). n.subterms) node_is

    pub turn-leaf : h.n.subterms ≡ 0 → {c : Held} → HeldSays c (leaf_of (rec_in s) l E h.n.rule h.n.first h.n.second node st) h.n.next (node + 1) → Done s l E at node st Θ e c
    turn-leaf z {c} w =
        let F = h.fits in
        let z₁ : (node_of e at).subterms ≡ 0 = sym subterms-are ∙ z in
        record {
          answer = w.answer ∙ ap (λ (n : Node). leaf_of (rec_in s) l E n.rule n.first n.second node st) node_is ∙ walk_leaf (rec_in s) E Θ F.table F.types at node st F.numbers l F.count e F.ranged z₁;
          ends = ends_as c.verdict (ap (λ (n : Node). n.next) node_is ∙ (end_none at e z₁).0) (omega (arith, (end_none at e z₁).1)) w.ends;
        }

  module _ (h : Inside s l E at node st Θ e) where
    some_is : ¬ ((node_of e at).subterms ≡ 0)
    some_is z = h.some (subterms-are h.place ∙ z)

    entered : said h.i ≡ enter_of (rec_in s) (node_of e at).rule (node_of e at).first node st
    entered = h.says.answer ∙ ap (λ (n : Node). enter_of (rec_in s) n.rule n.first node st) (node_is h.place)

    steps : walk E Θ e node st ≡ (said h.i >>= λ o. walk E Θ (first_subterm e) (node + 1) o.stack >>= walk_after (rec_in s) E Θ e node)
    steps = let F = h.place.fits in walk_steps (rec_in s) E Θ F.table F.types at node st F.numbers e F.ranged some_is ∙ rw entered refl

    -- refused on entering
    pub turn-refused : {r : Refusal} → h.i.verdict ≡ Err r → Done s l E at node st Θ e h.i
    turn-refused v = record { answer = stops h.i _ v refl ∙ sym steps; ends = refused_ends h.i _ _ v }

  module _ (h : InsideFine s l E at node st Θ e) where
    start_is : (h.start ≡ h.inside.place.n.next) × (h.count ≡ node + 1)
    start_is = rw h.fine at h.inside.says.ends

    next_is : h.start ≡ (node_of e at).next
    next_is = start_is.0 ∙ ap (λ (n : Node). n.next) (node_is h.inside.place)

    inside_is : enter_of (rec_in s) (node_of e at).rule (node_of e at).first node st ≡ good (found_at h.t (stack_of h.inside.i.binders))
    inside_is = sym (entered h.inside) ∙ said_fine h.inside.i h.fine

    pub turn-falls : length s - h.start < length s - at
    turn-falls = omega (arith, node-ends h.inside.place, start_is.0)

    pub turn-first : Walkable s l E h.start h.count Θ (first_subterm e) (stack_of h.inside.i.binders)
    turn-first = fits-at (sym next_is) (sym start_is.1) (fits-first s l E at node Θ st e h.inside.place.fits (some_is h.inside) _ inside_is)

  module _ (h : First s l E at node st Θ e) where
    first_said : said h.x ≡ walk E Θ (first_subterm e) (node + 1) (stack_of h.opened.inside.i.binders)
    first_said = h.says.answer ∙ ap (λ (z : ℕ). walk E Θ (first_subterm e) z (stack_of h.opened.inside.i.binders)) (start_is h.opened).1

    -- the rest of the walk
    rest : walk E Θ e node st ≡ (said h.x >>= walk_after (rec_in s) E Θ e node)
    rest = steps h.opened.inside ∙ rw (said_fine h.opened.inside.i h.opened.fine, first_said) refl

    -- a node with one subterm binds a variable, one with two binds none on entering
    pub turn-held-one : h.opened.inside.place.n.subterms ≡ 1 → {m : ℕ} → length st ≡ m → CountsOf (m + 1) h.x
    turn-held-one z q =
        as_many (turn-first h.opened) h.x h.says
        (enter_one s l E at node Θ st e (sym (subterms-are h.opened.inside.place) ∙ z) _ (inside_is h.opened) ∙ ap (λ (k : ℕ). k + 1) q)

    pub turn-held-two : ¬ (h.opened.inside.place.n.subterms ≡ 1) → {m : ℕ} → length st ≡ m → CountsOf m h.x
    turn-held-two d q =
        as_many (turn-first h.opened) h.x h.says
        (ap length (enter-two s l E at node Θ st e (some_is h.opened.inside) (λ z. d (subterms-are h.opened.inside.place ∙ z)) _ (inside_is h.opened)) ∙ q)

    pub turn_one : h.opened.inside.place.n.subterms ≡ 1 → {c : Held}
        → FollowsHeld h.x c (leave_one (rec_in s) h.opened.inside.place.n.rule h.opened.inside.place.n.first node) → Done s l E at node st Θ e c
    turn_one z {c} w =
        let N = node_is h.opened.inside.place in
        let z₁ : (node_of e at).subterms ≡ 1 = sym (subterms-are h.opened.inside.place) ∙ z in
        record {
          answer = w.answer ∙ bind-same (said h.x) (λ a _. ap (λ (n : Node). leave_one (rec_in s) n.rule n.first node a) N ∙ after_one (rec_in s) E Θ at node a e z₁) ∙ sym rest;
          ends = ends_as c.verdict (ap (λ (k : ℕ). k + length (term_bytes (first_subterm e))) (next_is h.opened) ∙ (end_one at e z₁).0) (omega (arith, (start_is h.opened).1, (end_one at e z₁).1)) (w.ends _ _ h.says.ends);
        }

  module _ (h : Middle s l E at node st Θ e) where
    two_is : ¬ ((node_of e at).subterms ≡ 1)
    two_is z = h.two (subterms-are h.first.opened.inside.place ∙ z)

    abbrev second : Found → Answer Found
    second y = walk E Θ (second_of e) (node + 1 + nodes (first_subterm e)) y.stack >>= leave_two (rec_in s) (node_of e at).rule (node_of e at).first node y.type

    middle-said : said h.m ≡ (said h.first.x >>= between_of (rec_in s) (node_of e at).rule node)
    middle-said = h.follows.answer ∙ ap (λ (n : Node). said h.first.x >>= between_of (rec_in s) n.rule node) (node_is h.first.opened.inside.place)

    rest-two : walk E Θ e node st ≡ (said h.m >>= second)
    rest-two =
        rest h.first ∙ bind-same (said h.first.x) (λ a _. sym (after_two (rec_in s) E Θ at node a e (some_is h.first.opened.inside) two_is))
        ∙ sym (bind_assoc (said h.first.x) (between_of (rec_in s) (node_of e at).rule node) second) ∙ ap (λ (z : Answer Found). z >>= second) (sym middle-said)

    -- refused in the first subterm, or between the two
    pub turn-halfway : {r : Refusal} → h.m.verdict ≡ Err r → Done s l E at node st Θ e h.m
    turn-halfway v = record { answer = stops h.m second v refl ∙ sym rest-two; ends = refused_ends h.m _ _ v }

  module _ (h : Second s l E at node st Θ e) where
    abbrev o : InsideFine s l E at node st Θ e
    o = h.middle.first.opened

    mid-is : (h.start ≡ o.start + length (term_bytes (first_subterm e))) × (h.count ≡ o.count + nodes (first_subterm e))
    mid-is = rw h.fine at (h.middle.follows.ends _ _ h.middle.first.says.ends)

    count-is : h.count ≡ node + 1 + nodes (first_subterm e)
    count-is = mid-is.1 ∙ ap (λ (z : ℕ). z + nodes (first_subterm e)) (start_is o).1

    pub turn-falls-again : length s - h.start < length s - at
    turn-falls-again = omega (arith, node-ends o.inside.place, (start_is o).0, mid-is.0)

    pub turn-second : Walkable s l E h.start h.count Θ (second_of e) (stack_of h.middle.m.binders)
    turn-second =
        on-bind (said h.middle.first.x) (between_of (rec_in s) (node_of e at).rule node) (found_at h.u (stack_of h.middle.m.binders)) (sym (middle-said h.middle) ∙ said_fine h.middle.m h.fine) λ a g k.
        fits-at (ap (λ (z : ℕ). z + length (term_bytes (first_subterm e))) (sym (next_is o)) ∙ sym mid-is.0) (sym count-is)
        (fits-second s l E at node Θ st e o.inside.place.fits (some_is o.inside) _ (inside_is o) (two_is h.middle) a (sym (first_said h.middle.first) ∙ g) _ k)

    pub turn_two : (y c : Held) → HeldSays y (walk E Θ (second_of e) h.count (stack_of h.middle.m.binders)) (h.start + length (term_bytes (second_of e))) (h.count + nodes (second_of e))
        → FollowsHeld y c (leave_two (rec_in s) o.inside.place.n.rule o.inside.place.n.first node h.u) → Done s l E at node st Θ e c
    turn_two y c Y w =
        let N = end-two at e (some_is o.inside) (two_is h.middle) in
        record {
          answer =
              w.answer ∙ ap (λ (n : Node). said y >>= leave_two (rec_in s) n.rule n.first node h.u) (node_is o.inside.place)
              ∙ ap (λ (z : Answer Found). z >>= leave_two (rec_in s) (node_of e at).rule (node_of e at).first node h.u) (Y.answer ∙ ap (λ (z : ℕ). walk E Θ (second_of e) z (stack_of h.middle.m.binders)) count-is)
              ∙ sym (rest-two h.middle ∙ rw (said_fine h.middle.m h.fine) refl);
          ends = ends_as c.verdict (omega (arith, mid-is.0, next_is o, N.0)) (omega (arith, count-is, N.1)) (w.ends _ _ Y.ends);
        }
