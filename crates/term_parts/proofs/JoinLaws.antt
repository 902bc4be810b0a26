-- Terms that wait joined to a term one by one, from the topmost on. Assumes nothing.
use Prim.Native.Nat.{ℕ, ◌+◌, ◌≤◌, ◌<◌}
use mathlib.Core.Path.{◌≡◌, refl, sym, ap, ◌∙◌, subst}
use mathlib.Core.List.{List, [], ◌∷◌}
use native.Mathlib.Omega.{arith}
use lib.ListN.{length}
use Rattle.std.specs.Prelude.{Result, Ok, Err}
use Rattle.answers.specs.declared.Refusal.{Refusal}
use Rattle.calculus.specs.Answer.{Answer, good, ◌>>=◌}
use Rattle.calculus.specs.Terms.{proj}
use Rattle.notation_calculus.specs.Making.{Made, over, pair_of}
use Rattle.notation_machine.specs.TermMachine.{Element, Taken, pairs_of, projections}
use Rattle.made_types.specs.Held.{HoldsState}
use Rattle.made_nodes.specs.Held.{TermHeld, MadeIn, SmallMade, MadeOnly, Workable}
use Rattle.made_nodes.specs.Forms.{PairSays, ProjectionSays}
use Rattle.made_nodes.specs.declared.Sub.{Sub}
use Rattle.made_nodes.proofs.Terms.{made-same, made_on, held_on, workable_on}
use Rattle.made_nodes.proofs.Answers.{on-term, on-no-term}
use Rattle.term_parts.specs.declared.halves.Half.{Half}
use Rattle.term_parts.specs.declared.joined.Joint.{Joint}
use Rattle.term_parts.specs.Halves.{half_in, sub_of, HalvesIn, CanJoin, JoinSays, OneJoined, JoinedSay}
use Rattle.term_parts.proofs.Stay.{half_same, halves-stay}

-- `join` takes the first of the list by `one`, and goes on with what comes of it
module _ {A : Type 0} (made_of : A → Made) (place_of : A → ℕ) (join : List A → Made → Answer Made) (one : A → Made → Answer Made)
    (join-none : (m : Made) → join [] m ≡ good m) (join_one : (x : A) (xs : List A) (m : Made) → join (x ∷ xs) m ≡ (one x m >>= λ p. join xs p)) where
  -- one of them was joined to a term
  pub record OneSays (w : List ℕ) (place : ℕ) (a f : Sub) (r : Result Sub Refusal) (w' : List ℕ) : Type 0 where
    pub only : MadeOnly w w'
    pub small : SmallMade r
    pub says : (x : A) (m : Made) → place_of x ≡ place → HoldsState w m.state → TermHeld w a (made_of x) → TermHeld w f m → MadeIn w' r (one x m)

  -- what waits below the halves that were joined
  pub record JoinLeft (w₀ : List ℕ) (from : ℕ) (w : List ℕ) (f : Sub) (left : ℕ) (answer : Answer Made) : Type 0 where
    pub others : List A
    pub made : Made
    pub counted : length others ≡ left
    pub wait : HalvesIn made_of place_of w from others
    pub state : HoldsState w (made).state
    pub held : TermHeld w f made
    pub going : answer ≡ join others made

  pub record Joining (w₀ : List ℕ) (from count : ℕ) (e : Sub) (w : List ℕ) (f : Sub) (left : ℕ) : Type 0 where
    pub within : left ≤ count
    pub only : MadeOnly w₀ w
    pub small : f.ty < 256
    pub says : (xs : List A) (m : Made) → length xs ≡ count → HalvesIn made_of place_of w₀ from xs → HoldsState w₀ m.state → TermHeld w₀ e m → JoinLeft w₀ from w f left (join xs m)

  pub joining-none : (w : List ℕ) (from count : ℕ) (e : Sub) → CanJoin w from count e → Joining w from count e w e count
  joining-none w from count e C = record {
    within = omega arith;
    only = made-same w;
    small = C.type;
    says = λ xs m l H S T. record { others = xs; made = m; counted = l; wait = H; state = S; held = T; going = refl };
  }

  module _ (w₀ : List ℕ) (from count : ℕ) (e : Sub) (C : CanJoin w₀ from count e) (w : List ℕ) (f : Sub) (left : ℕ) (J : Joining w₀ from count e w f left) where
    pub joining-workable : Workable w
    joining-workable = workable_on w₀ w C.workable J.only

    pub joining-done : ¬ (0 < left) → JoinSays made_of place_of join w₀ from count e (Ok f) w
    joining-done z = record {
      only = J.only;
      small = J.small;
      says = λ xs m l H S T. let g = J.says xs m l H S T in ended xs m g g.others (omega (arith, g.counted)) refl;
    }
      where
        ended : (xs : List A) (m : Made) (g : JoinLeft w₀ from w f left (join xs m)) (os : List A) → length os ≡ 0 → g.others ≡ os → MadeIn w (Ok f) (join xs m)
        ended xs m g [] z e = subst (MadeIn w (Ok f)) (sym (g.going ∙ ap (λ (q : List A). join q g.made) e ∙ join-none g.made)) (g.state, g.held)
        ended xs m g (x ∷ q) z e = absurd (omega arith)

    module _ (next : ℕ) (is : next + 1 ≡ left) (h : Half) (at : h ≡ half_in w (from + next)) where
      -- the half was there from the start
      half-stays : half_in w (from + next) ≡ half_in w₀ (from + next)
      half-stays = half_same w₀ w (from + next) (λ j a b. J.only.above j (omega arith) (λ q. omega (arith, J.within, C.few)) (λ q. omega (arith, J.within, C.few)))

      pub joining-type : h.ty < 256
      joining-type = subst (λ (q : Half). q.ty < 256) (sym (at ∙ half-stays)) (C.types next (omega (arith, J.within)))

      module _ (r : Result Sub Refusal) (w' : List ℕ) (O : OneSays w h.place (sub_of h) f r w') where
        -- what comes of the topmost of them
        module _ (answer : Answer Made) (g : JoinLeft w₀ from w f left answer) where
          top-by : (os : List A) → g.others ≡ os → length os ≡ left → (P : Answer Made → Type 0) → ((x : A) (q : List A) → g.others ≡ x ∷ q → length q ≡ next → MadeIn w' r (one x g.made) → P (one x g.made >>= λ p. join q p)) → P answer
          top-by [] e l P k = absurd (omega arith)
          top-by (x ∷ q) e l P k =
              let n : length q ≡ next = omega arith in
              let H : HalvesIn made_of place_of w from (x ∷ q) = subst (HalvesIn made_of place_of w from) e g.wait in
              let at' : h ≡ half_in w (from + length q) = at ∙ ap (λ (i : ℕ). half_in w (from + i)) (sym n) in
              let place : place_of x ≡ h.place = sym H.0 ∙ ap (λ (y : Half). y.place) (sym at') in
              let held : TermHeld w (sub_of h) (made_of x) = subst (λ (y : Half). TermHeld w (sub_of y) (made_of x)) (sym at') H.1 in
              subst P (sym (g.going ∙ ap (λ (y : List A). join y g.made) e ∙ join_one x q g.made)) (k x q e n (O.says x g.made place g.state held g.held))

        pub joining-more : (s : Sub) → r ≡ Ok s → Joining w₀ from count e w' s next
        joining-more s i = record {
          within = omega (arith, J.within);
          only = made_on w₀ w w' J.only O.only;
          small = subst SmallMade i O.small;
          says = λ xs m l H S T. let g = J.says xs m l H S T in top-by (join xs m) g g.others refl g.counted (JoinLeft w₀ from w' s next) (λ x q e n M.
              on-term w' s (λ (a : Answer Made). JoinLeft w₀ from w' s next (a >>= λ p. join q p)) (one x g.made) (subst (λ (a : Result Sub Refusal). MadeIn w' a (one x g.made)) i M)
              (λ p K U. record {
                others = q;
                made = p;
                counted = n;
                wait = halves-stay made_of place_of w w' from q (λ j a b. O.only.above j (omega arith) (λ z. omega (arith, J.within, C.few)) (λ z. omega (arith, J.within, C.few))) (λ t y T. held_on w w' t y T O.only) (subst (HalvesIn made_of place_of w from) e g.wait).2;
                state = K;
                held = U;
                going = refl;
              }));
        }

        pub joining-ends : (z : Refusal) → r ≡ Err z → JoinSays made_of place_of join w₀ from count e (Err z) w'
        joining-ends z i = record {
          only = made_on w₀ w w' J.only O.only;
          small = subst SmallMade i O.small;
          says = λ xs m l H S T. let g = J.says xs m l H S T in top-by (join xs m) g g.others refl g.counted (MadeIn w' (Err z)) (λ x q e k M.
              on-no-term w' z (λ (a : Answer Made). MadeIn w' (Err z) (a >>= λ y. join q y)) (one x g.made) (subst (λ (a : Result Sub Refusal). MadeIn w' a (one x g.made)) i M) refl);
        }

-- ---- elements of a tuple, and pairs that were taken apart

abbrev pub element_made : Element → Made
element_made a = a.made

abbrev pub element_comma : Element → ℕ
element_comma a = a.comma

abbrev pub one_pair : Element → Made → Answer Made
one_pair a m = pair_of a.comma a.made m

abbrev pub taken_made : Taken → Made
taken_made p = p.pair

abbrev pub taken_place : Taken → ℕ
taken_place p = p.place

abbrev pub one_projection : Taken → Made → Answer Made
one_projection p e = over p.place proj e.type p.pair e e.state

pub pair_one : (w : List ℕ) (place : ℕ) (a f : Sub) (r : Result Sub Refusal) (w' : List ℕ) → PairSays w place a f r w' → OneSays element_made element_comma pairs_of one_pair (λ m. refl) (λ x xs m. refl) w place a f r w'
pair_one w place a f r w' P = record { only = P.only; small = P.small; says = λ x m e H T U. subst (λ (p : ℕ). MadeIn w' r (pair_of p x.made m)) (sym e) (P.says x.made m H T U) }

pub projection_one : (w : List ℕ) (place : ℕ) (a f : Sub) (r : Result Sub Refusal) (w' : List ℕ) → ProjectionSays w place a f r w' → OneSays taken_made taken_place projections one_projection (λ m. refl) (λ x xs m. refl) w place a f r w'
projection_one w place a f r w' P = record { only = P.only; small = P.small; says = λ x m e H T U. subst (λ (p : ℕ). MadeIn w' r (over p proj m.type x.pair m m.state)) (sym e) (P.says x.pair m H T U) }

-- ---- by what joins them

abbrev pub Waits : Joint → Type 0
Waits Joint.Pair = Element
Waits Joint.Projection = Taken

abbrev pub made_by : (j : Joint) → Waits j → Made
made_by Joint.Pair = element_made
made_by Joint.Projection = taken_made

abbrev pub place_by : (j : Joint) → Waits j → ℕ
place_by Joint.Pair = element_comma
place_by Joint.Projection = taken_place

abbrev pub join_by : (j : Joint) → List (Waits j) → Made → Answer Made
join_by Joint.Pair = pairs_of
join_by Joint.Projection = projections

abbrev pub one_by : (j : Joint) → Waits j → Made → Answer Made
one_by Joint.Pair = one_pair
one_by Joint.Projection = one_projection

pub none_by : (j : Joint) (m : Made) → join_by j [] m ≡ good m
none_by Joint.Pair m = refl
none_by Joint.Projection m = refl

pub more_by : (j : Joint) (x : Waits j) (xs : List (Waits j)) (m : Made) → join_by j (x ∷ xs) m ≡ (one_by j x m >>= λ p. join_by j xs p)
more_by Joint.Pair x xs m = refl
more_by Joint.Projection x xs m = refl

pub one_joined : (j : Joint) (w : List ℕ) (place : ℕ) (a f : Sub) (r : Result Sub Refusal) (w' : List ℕ) → OneJoined j w place a f r w' → OneSays (made_by j) (place_by j) (join_by j) (one_by j) (none_by j) (more_by j) w place a f r w'
one_joined Joint.Pair w place a f r w' P = let O = pair_one w place a f r w' P in record { only = O.only; small = O.small; says = O.says }
one_joined Joint.Projection w place a f r w' P = let O = projection_one w place a f r w' P in record { only = O.only; small = O.small; says = O.says }

pub joined_says : (j : Joint) (w : List ℕ) (from count : ℕ) (e : Sub) (r : Result Sub Refusal) (w' : List ℕ) → JoinSays (made_by j) (place_by j) (join_by j) w from count e r w' → JoinedSay j w from count e r w'
joined_says Joint.Pair w from count e r w' J = J
joined_says Joint.Projection w from count e r w' J = J
