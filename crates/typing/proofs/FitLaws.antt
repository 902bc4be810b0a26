-- What the walk may take for granted passes on to the subterms of a node. Assumes nothing.
use Prim.Native.Nat.{ℕ, suc, ◌+◌, ◌≤◌, ◌<◌}
use mathlib.Core.Path.{◌≡◌, refl, sym, ap, subst}
use mathlib.Core.Bool.{Bool, true, false, cond}
use mathlib.Core.List.{List, ◌∷◌, ◌++◌}
use native.Mathlib.Omega.{arith}
use native.Mathlib.Nat.{le-max_left, le-max_right}
use lib.Dec.{eqb, leb}
use lib.ListN.{length, length-append}
use Rattle.calculus.specs.Answer.{good, a_form, clash}
use Rattle.calculus.proofs.Answers.{refused≢good, good-inj, on-require}
use Rattle.calculus.specs.Types.{TyRec, Table}
use Rattle.calculus.specs.Terms.{Edition, Term, var, lvar, fun, app, lfun, lapp, pair, proj, fix, con, name, nodes}
use Rattle.calculus.specs.Write.{term_bytes}
use Rattle.sheet_theorems.specs.Laid.{Ranged, Stands, depth}
use Rattle.calculus.specs.Walk.{shared, Stack, Found, found, walk}
use Rattle.laws.proofs.Tests.{on_cond}
use Rattle.records.specs.Forms.{rec_in}
use Rattle.records.specs.Heads.{node_of}
use Rattle.records.specs.Rules.{is_projection, is_naming}
use Rattle.records.specs.declared.Rule.{Rule}
use Rattle.records.specs.declared.Rule.TheVariants as rule
use Rattle.sheet_theorems.proofs.Standing.{fun_body, app_function, app_argument, lfun_body, lapp_function, lapp_argument, pair_first, pair_second, proj_pair, proj_body, fix_body, name-first, name_body}
use Rattle.sheet_theorems.specs.Numbers.{Numbers}
use Rattle.std.specs.declared.option.Option.{Option}
use Rattle.std.specs.declared.option.Option.TheVariants.{Some, None}
use Rattle.typing.specs.declared.rules.Opening.{Opening}
use Rattle.typing.specs.declared.rules.Opening.TheVariants as opening
use Rattle.records.specs.TypeNumbers.{kind_no, left_no, right_no}
use Rattle.typing.specs.Steps.{opening_of, opened_stack, enter_of, enters_of, halves_of, between_of}
use Rattle.typing.specs.Walkable.{Walkable}
use Rattle.typing.proofs.Ranges.{left_in, right_in_lem, StaysIn, kept}
use Rattle.typing.proofs.WalkLaws.{first_subterm, second_of}

-- ---- the binders that entering adds

abbrev OpensIn : ℕ → Option Opening → Type 0
OpensIn l (Some opening.Nothing) = Unit {0}
OpensIn l (Some (opening.Shared t)) = t < l
OpensIn l (Some (opening.Linear t)) = t < l
OpensIn l None = Unit {0}

-- a stack in the table's range, of at most so many binders
pub record InRange (l m : ℕ) (st : Stack) : Type 0 where
  pub numbers : Numbers st l
  pub few : length st ≤ m

module _ (l : ℕ) where
  opening-in : (u : Rule) (t : ℕ) (q : TyRec) → t < l → left_no q < l → OpensIn l (opening_of u t q)
  unfolding opening_of
  opening-in rule.Variable t q h g = tt
  opening-in rule.LinearVariable t q h g = tt
  opening-in rule.Function t q h g = on_cond (OpensIn l) (eqb (kind_no q) 3) _ _ (λ _. g) tt
  opening-in rule.Application t q h g = tt
  opening-in rule.LinearFunction t q h g = on_cond (OpensIn l) (eqb (kind_no q) 4) _ _ (λ _. g) tt
  opening-in rule.LinearApplication t q h g = tt
  opening-in rule.Pair t q h g = on_cond (OpensIn l) (eqb (kind_no q) 2) _ _ (λ _. tt) tt
  opening-in rule.Projection t q h g = tt
  opening-in rule.FixedPoint t q h g = on_cond (OpensIn l) (leb (kind_no q) 2) _ _ (λ _. h) tt
  opening-in rule.Constant t q h g = tt
  opening-in rule.Naming t q h g = tt

  opened_in : (x : Option Opening) (t n : ℕ) (st : Stack) (o : Found) → OpensIn l x → Numbers st l → opened_stack x t n st ≡ good o → InRange l (suc (length st)) o.stack
  opened_in (Some opening.Nothing) t n st o h k e = subst (λ (o : Found). InRange l (suc (length st)) o.stack) (good-inj e) (record { numbers = k; few = omega arith })
  opened_in (Some (opening.Shared u)) t n st o h k e = subst (λ (o : Found). InRange l (suc (length st)) o.stack) (good-inj e) (record { numbers = (h, k); few = omega arith })
  opened_in (Some (opening.Linear u)) t n st o h k e = subst (λ (o : Found). InRange l (suc (length st)) o.stack) (good-inj e) (record { numbers = (h, k); few = omega arith })
  opened_in None t n st o h k e = absurd (refused≢good e)

-- ---- a node's subterms

module _ (at : ℕ) where
  abbrev subterms : Term → ℕ
  subterms e = (node_of e at).subterms

  abbrev next : Term → ℕ
  next e = (node_of e at).next

  module _ (s : List ℕ) where
    moved : {a : ℕ} (b : ℕ) {e : Term} → a ≡ b → Stands s a e → Stands s b e
    moved b {e} h w = subst (λ (x : ℕ). Stands s x e) h w

    first-stands : (e : Term) → ¬ (subterms e ≡ 0) → Stands s at e → Stands s (next e) (first_subterm e)
    first-stands (var i) d h = absurd (d refl)
    first-stands (lvar i) d h = absurd (d refl)
    first-stands (fun t e) d h = moved _ (omega arith) (fun_body h)
    first-stands (app f a) d h = moved _ (omega arith) (app_function h)
    first-stands (lfun t e) d h = moved _ (omega arith) (lfun_body h)
    first-stands (lapp f a) d h = moved _ (omega arith) (lapp_function h)
    first-stands (pair t a b) d h = moved _ (omega arith) (pair_first h)
    first-stands (proj a e) d h = moved _ (omega arith) (proj_pair h)
    first-stands (fix t e) d h = moved _ (omega arith) (fix_body h)
    first-stands (con p t) d h = absurd (d refl)
    first-stands (name a e) d h = moved _ (omega arith) (name-first h)

    second-stands : (e : Term) → ¬ (subterms e ≡ 0) → ¬ (subterms e ≡ 1) → Stands s at e → Stands s (next e + length (term_bytes (first_subterm e))) (second_of e)
    second-stands (var i) d f h = absurd (d refl)
    second-stands (lvar i) d f h = absurd (d refl)
    second-stands (fun t e) d f h = absurd (f refl)
    second-stands (app g a) d f h = moved _ (omega arith) (app_argument h)
    second-stands (lfun t e) d f h = absurd (f refl)
    second-stands (lapp g a) d f h = moved _ (omega arith) (lapp_argument h)
    second-stands (pair t a b) d f h = moved _ (omega arith) (pair_second h)
    second-stands (proj a e) d f h = moved _ (omega arith) (proj_body h)
    second-stands (fix t e) d f h = absurd (f refl)
    second-stands (con p t) d f h = absurd (d refl)
    second-stands (name a e) d f h = moved _ (omega arith) (name_body h)

  -- where a term ends

  pub end_none : (e : Term) → subterms e ≡ 0 → (next e ≡ at + length (term_bytes e)) × (nodes e ≡ 1)
  end_none (var i) z = (omega arith, refl)
  end_none (lvar i) z = (omega arith, refl)
  end_none (fun t e) z = absurd (omega arith)
  end_none (app f a) z = absurd (omega arith)
  end_none (lfun t e) z = absurd (omega arith)
  end_none (lapp f a) z = absurd (omega arith)
  end_none (pair t a b) z = absurd (omega arith)
  end_none (proj a e) z = absurd (omega arith)
  end_none (fix t e) z = absurd (omega arith)
  end_none (con p t) z = (omega arith, refl)
  end_none (name a e) z = absurd (omega arith)

  pub end_one : (e : Term) → subterms e ≡ 1 → (next e + length (term_bytes (first_subterm e)) ≡ at + length (term_bytes e)) × (suc (nodes (first_subterm e)) ≡ nodes e)
  end_one (var i) z = absurd (omega arith)
  end_one (lvar i) z = absurd (omega arith)
  end_one (fun t e) z = (omega arith, refl)
  end_one (app f a) z = absurd (omega arith)
  end_one (lfun t e) z = (omega arith, refl)
  end_one (lapp f a) z = absurd (omega arith)
  end_one (pair t a b) z = absurd (omega arith)
  end_one (proj a e) z = absurd (omega arith)
  end_one (fix t e) z = (omega arith, refl)
  end_one (con p t) z = absurd (omega arith)
  end_one (name a e) z = absurd (omega arith)

  both_bytes : (a b : Term) → length (term_bytes a ++ term_bytes b) ≡ length (term_bytes a) + length (term_bytes b)
  both_bytes a b = length-append (term_bytes a) (term_bytes b)

  pub end-two : (e : Term) → ¬ (subterms e ≡ 0) → ¬ (subterms e ≡ 1)
      → (next e + length (term_bytes (first_subterm e)) + length (term_bytes (second_of e)) ≡ at + length (term_bytes e)) × (suc (nodes (first_subterm e) + nodes (second_of e)) ≡ nodes e)
  end-two (var i) d f = absurd (d refl)
  end-two (lvar i) d f = absurd (d refl)
  end-two (fun t e) d f = absurd (f refl)
  end-two (app g a) d f = (omega (arith, both_bytes g a), refl)
  end-two (lfun t e) d f = absurd (f refl)
  end-two (lapp g a) d f = (omega (arith, both_bytes g a), refl)
  end-two (pair t a b) d f = (omega (arith, both_bytes a b), refl)
  end-two (proj a e) d f = (omega (arith, both_bytes a e), refl)
  end-two (fix t e) d f = absurd (f refl)
  end-two (con p t) d f = absurd (d refl)
  end-two (name a e) d f = (omega (arith, both_bytes a e), refl)

  -- depth and nodes

  first-depth : (e : Term) → ¬ (subterms e ≡ 0) → suc (depth (first_subterm e)) ≤ depth e
  first-depth (var i) d = absurd (d refl)
  first-depth (lvar i) d = absurd (d refl)
  first-depth (fun t e) d = omega arith
  first-depth (app f a) d = omega (arith, le-max_left (depth f) (depth a))
  first-depth (lfun t e) d = omega arith
  first-depth (lapp f a) d = omega (arith, le-max_left (depth f) (depth a))
  first-depth (pair t a b) d = omega (arith, le-max_left (depth a) (depth b))
  first-depth (proj a e) d = omega (arith, le-max_left (depth a) (depth e))
  first-depth (fix t e) d = omega arith
  first-depth (con p t) d = absurd (d refl)
  first-depth (name a e) d = omega (arith, le-max_left (depth a) (depth e))

  second-depth : (e : Term) → ¬ (subterms e ≡ 0) → suc (depth (second_of e)) ≤ depth e
  second-depth (var i) d = absurd (d refl)
  second-depth (lvar i) d = absurd (d refl)
  second-depth (fun t e) d = omega arith
  second-depth (app f a) d = omega (arith, le-max_right (depth f) (depth a))
  second-depth (lfun t e) d = omega arith
  second-depth (lapp f a) d = omega (arith, le-max_right (depth f) (depth a))
  second-depth (pair t a b) d = omega (arith, le-max_right (depth a) (depth b))
  second-depth (proj a e) d = omega (arith, le-max_right (depth a) (depth e))
  second-depth (fix t e) d = omega arith
  second-depth (con p t) d = absurd (d refl)
  second-depth (name a e) d = omega (arith, le-max_right (depth a) (depth e))

  first-nodes : (e : Term) → ¬ (subterms e ≡ 0) → suc (nodes (first_subterm e)) ≤ nodes e
  first-nodes (var i) d = absurd (d refl)
  first-nodes (lvar i) d = absurd (d refl)
  first-nodes (fun t e) d = omega arith
  first-nodes (app f a) d = omega arith
  first-nodes (lfun t e) d = omega arith
  first-nodes (lapp f a) d = omega arith
  first-nodes (pair t a b) d = omega arith
  first-nodes (proj a e) d = omega arith
  first-nodes (fix t e) d = omega arith
  first-nodes (con p t) d = absurd (d refl)
  first-nodes (name a e) d = omega arith

pub depth-some : (e : Term) → 1 ≤ depth e
depth-some (var i) = omega arith
depth-some (lvar i) = omega arith
depth-some (fun t e) = omega arith
depth-some (app f a) = omega arith
depth-some (lfun t e) = omega arith
depth-some (lapp f a) = omega arith
depth-some (pair t a b) = omega arith
depth-some (proj a e) = omega arith
depth-some (fix t e) = omega arith
depth-some (con p t) = omega arith
depth-some (name a e) = omega arith

pub nodes-some : (e : Term) → 1 ≤ nodes e
nodes-some (var i) = omega arith
nodes-some (lvar i) = omega arith
nodes-some (fun t e) = omega arith
nodes-some (app f a) = omega arith
nodes-some (lfun t e) = omega arith
nodes-some (lapp f a) = omega arith
nodes-some (pair t a b) = omega arith
nodes-some (proj a e) = omega arith
nodes-some (fix t e) = omega arith
nodes-some (con p t) = omega arith
nodes-some (name a e) = omega arith

module _ (E : Edition) (Θ : Table) where
  first-ranged : (e : Term) → Ranged E Θ e → Ranged E Θ (first_subterm e)
  first-ranged (var i) r = r
  first-ranged (lvar i) r = r
  first-ranged (fun t e) r = r.1
  first-ranged (app f a) r = r.0
  first-ranged (lfun t e) r = r.1
  first-ranged (lapp f a) r = r.0
  first-ranged (pair t a b) r = r.1
  first-ranged (proj a e) r = r.0
  first-ranged (fix t e) r = r.1
  first-ranged (con p t) r = r
  first-ranged (name a e) r = r.1

  second-ranged : (e : Term) → Ranged E Θ e → Ranged E Θ (second_of e)
  second-ranged (var i) r = r
  second-ranged (lvar i) r = r
  second-ranged (fun t e) r = r.1
  second-ranged (app f a) r = r.1
  second-ranged (lfun t e) r = r.1
  second-ranged (lapp f a) r = r.1
  second-ranged (pair t a b) r = r.2
  second-ranged (proj a e) r = r.1
  second-ranged (fix t e) r = r.1
  second-ranged (con p t) r = r
  second-ranged (name a e) r = r.2

-- ---- what holds at a node holds at its subterms

module _ (s : List ℕ) (l : ℕ) (E : Edition) (at node : ℕ) (Θ : Table) (st : Stack) where
  left-side : (e : Term) → Walkable s l E at node Θ e st → (t : ℕ) → t < length Θ → left_no (rec_in s t) < length Θ
  left-side e F t h = rw (F.types t h) (left_in Θ F.table t h)

  right_side : (e : Term) → Walkable s l E at node Θ e st → (t : ℕ) → t < length Θ → right_no (rec_in s t) < length Θ
  right_side e F t h = rw (F.types t h) (right_in_lem Θ F.table t h)

  typed-in : (e : Term) → Walkable s l E at node Θ e st → (u : Rule) (t : ℕ) → t < length Θ → (o : Found) → enter_of (rec_in s) u t node st ≡ good o → InRange (length Θ) (suc (length st)) o.stack
  typed-in e F u t h o g = opened_in (length Θ) (opening_of u t (rec_in s t)) t node st o (opening-in (length Θ) u t (rec_in s t) h (left-side e F t h)) F.numbers g

  enter-in : (e : Term) → Walkable s l E at node Θ e st → ¬ ((node_of e at).subterms ≡ 0) → (o : Found)
      → enter_of (rec_in s) (node_of e at).rule (node_of e at).first node st ≡ good o → InRange (length Θ) (suc (length st)) o.stack
  unfolding opening_of
  enter-in (var i) F d o g = absurd (d refl)
  enter-in (lvar i) F d o g = absurd (d refl)
  enter-in (fun t e) F d o g = typed-in (fun t e) F rule.Function t F.ranged.0 o g
  enter-in (app f a) F d o g = opened_in (length Θ) (Some opening.Nothing) 0 node st o tt F.numbers g
  enter-in (lfun t e) F d o g = typed-in (lfun t e) F rule.LinearFunction t F.ranged.0 o g
  enter-in (lapp f a) F d o g = opened_in (length Θ) (Some opening.Nothing) 0 node st o tt F.numbers g
  enter-in (pair t a b) F d o g = typed-in (pair t a b) F rule.Pair t F.ranged.0 o g
  enter-in (proj a e) F d o g = opened_in (length Θ) (Some opening.Nothing) 0 node st o tt F.numbers g
  enter-in (fix t e) F d o g = typed-in (fix t e) F rule.FixedPoint t F.ranged.0 o g
  enter-in (con p t) F d o g = absurd (d refl)
  enter-in (name a e) F d o g = opened_in (length Θ) (Some opening.Nothing) 0 node st o tt F.numbers g

  -- a node with one subterm binds a variable on entering
  bound-one : (b : Bool) (x : Opening) (t : ℕ) (o : Found) → ((q : Found) → opened_stack (Some x) t node st ≡ good q → length q.stack ≡ length st + 1)
      → opened_stack (cond b (Some x) None) t node st ≡ good o → length o.stack ≡ length st + 1
  bound-one true x t o f g = f o g
  bound-one false x t o f g = absurd (refused≢good g)

  bound-shared : (u t : ℕ) (o : Found) → opened_stack (Some (opening.Shared u)) t node st ≡ good o → length o.stack ≡ length st + 1
  bound-shared u t o g = omega (arith, ap (λ (x : Found). length x.stack) (good-inj g))

  bound-linear : (u t : ℕ) (o : Found) → opened_stack (Some (opening.Linear u)) t node st ≡ good o → length o.stack ≡ length st + 1
  bound-linear u t o g = omega (arith, ap (λ (x : Found). length x.stack) (good-inj g))

  pub enter_one : (e : Term) → (node_of e at).subterms ≡ 1 → (o : Found)
      → enter_of (rec_in s) (node_of e at).rule (node_of e at).first node st ≡ good o → length o.stack ≡ length st + 1
  unfolding opening_of
  enter_one (var i) z o g = absurd (omega arith)
  enter_one (lvar i) z o g = absurd (omega arith)
  enter_one (fun t e) z o g = bound-one (eqb (kind_no (rec_in s t)) 3) (opening.Shared (left_no (rec_in s t))) t o (bound-shared _ t) g
  enter_one (app h a) z o g = absurd (omega arith)
  enter_one (lfun t e) z o g = bound-one (eqb (kind_no (rec_in s t)) 4) (opening.Linear (left_no (rec_in s t))) t o (bound-linear _ t) g
  enter_one (lapp h a) z o g = absurd (omega arith)
  enter_one (pair t a b) z o g = absurd (omega arith)
  enter_one (proj a e) z o g = absurd (omega arith)
  enter_one (fix t e) z o g = bound-one (leb (kind_no (rec_in s t)) 2) (opening.Shared t) t o (bound-shared t t) g
  enter_one (con p t) z o g = absurd (omega arith)
  enter_one (name a e) z o g = absurd (omega arith)

  -- a node with two subterms binds nothing on entering
  tested : (b : Bool) (t : ℕ) (o : Found) → opened_stack (cond b (Some opening.Nothing) None) t node st ≡ good o → o.stack ≡ st
  tested true t o g = ap (λ (x : Found). x.stack) (sym (good-inj g))
  tested false t o g = absurd (refused≢good g)

  pub enter-two : (e : Term) → ¬ ((node_of e at).subterms ≡ 0) → ¬ ((node_of e at).subterms ≡ 1) → (o : Found)
      → enter_of (rec_in s) (node_of e at).rule (node_of e at).first node st ≡ good o → o.stack ≡ st
  unfolding opening_of
  enter-two (var i) d f o g = absurd (d refl)
  enter-two (lvar i) d f o g = absurd (d refl)
  enter-two (fun t e) d f o g = absurd (f refl)
  enter-two (app h a) d f o g = ap (λ (x : Found). x.stack) (sym (good-inj g))
  enter-two (lfun t e) d f o g = absurd (f refl)
  enter-two (lapp h a) d f o g = ap (λ (x : Found). x.stack) (sym (good-inj g))
  enter-two (pair t a b) d f o g = tested (eqb (kind_no (rec_in s t)) 2) t o g
  enter-two (proj a e) d f o g = ap (λ (x : Found). x.stack) (sym (good-inj g))
  enter-two (fix t e) d f o g = absurd (f refl)
  enter-two (con p t) d f o g = absurd (d refl)
  enter-two (name a e) d f o g = ap (λ (x : Found). x.stack) (sym (good-inj g))

  module _ (e : Term) (F : Walkable s l E at node Θ e st) (d : ¬ ((node_of e at).subterms ≡ 0)) (o : Found)
      (g : enter_of (rec_in s) (node_of e at).rule (node_of e at).first node st ≡ good o) where
    pub fits-first : Walkable s l E (node_of e at).next (node + 1) Θ (first_subterm e) o.stack
    fits-first =
        let w = enter-in e F d o g in
        record {
          table = F.table;
          count = F.count;
          types = F.types;
          stands = first-stands at s e d F.stands;
          ranged = first-ranged E Θ e F.ranged;
          numbers = w.numbers;
          room = omega (arith, w.few, F.room, first-depth at e d);
          few = omega (arith, F.few, first-nodes at e d);
        }

    module _ (d₁ : ¬ ((node_of e at).subterms ≡ 1)) (x : Found) (h : walk E Θ (first_subterm e) (node + 1) o.stack ≡ good x) where
      pub first-kept : StaysIn Θ o.stack x
      first-kept = kept E Θ F.table (first_subterm e) (first-ranged E Θ e F.ranged) (node + 1) o.stack (enter-in e F d o g).numbers x h

      -- what is bound between the two
      halves_in : (u : Rule) → InRange (length Θ) (length o.stack + 2) (halves_of (rec_in s) u x.type x.stack)
      halves_in u =
          on_cond (InRange (length Θ) (length o.stack + 2)) (is_projection u) (shared (right_no (rec_in s x.type)) ∷ shared (left_no (rec_in s x.type)) ∷ x.stack) _
          (λ _. record { numbers = (right_side e F x.type first-kept.type_in_lem, (left-side e F x.type first-kept.type_in_lem, first-kept.numbers)); few = omega (arith, first-kept.count) })
          (on_cond (InRange (length Θ) (length o.stack + 2)) (is_naming u) (shared x.type ∷ x.stack) x.stack
          (λ _. record { numbers = (first-kept.type_in_lem, first-kept.numbers); few = omega (arith, first-kept.count) })
          (record { numbers = first-kept.numbers; few = omega (arith, first-kept.count) }))

      between_in : (u : Rule) (m : Found) → between_of (rec_in s) u node x ≡ good m → InRange (length Θ) (length o.stack + 2) m.stack
      unfolding between_of
      between_in u m z =
          on-require (enters_of u (rec_in s x.type)) (clash node a_form x.type) (λ _. found x.type (halves_of (rec_in s) u x.type x.stack)) m z λ _ y.
          subst (λ (m : Found). InRange (length Θ) (length o.stack + 2) m.stack) (good-inj y) (halves_in u)

      pub fits-second : (m : Found) → between_of (rec_in s) (node_of e at).rule node x ≡ good m
          → Walkable s l E ((node_of e at).next + length (term_bytes (first_subterm e))) (node + 1 + nodes (first_subterm e)) Θ (second_of e) m.stack
      fits-second m z =
          let w = between_in (node_of e at).rule m z in
          let l : length o.stack ≡ length st = ap length (enter-two e d d₁ o g) in
          record {
            table = F.table;
            count = F.count;
            types = F.types;
            stands = second-stands at s e d d₁ F.stands;
            ranged = second-ranged E Θ e F.ranged;
            numbers = w.numbers;
            room = omega (arith, w.few, F.room, second-depth at e d);
            few = omega (arith, F.few, (end-two at e d d₁).1);
          }
