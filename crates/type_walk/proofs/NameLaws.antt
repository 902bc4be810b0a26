-- A name in a type: its arguments, a parameter of the definition, a definition that is put in. One law for each way out. Assumes nothing.
use Prim.Native.Nat.{ℕ, zero, suc, ◌+◌, ◌-◌, ◌≤◌, ◌<◌}
use mathlib.Core.Path.{◌≡◌, refl, sym, ap, subst, ◌∙◌}
use mathlib.Core.Bool.{Bool, true, false, ◌||◌, cond}
use mathlib.Core.List.{List, [], ◌∷◌}
use native.Mathlib.Omega.{arith}
use lib.Dec.{T, leb, leb→le}
use lib.ListN.{length, take}
use Rattle.std.proofs.Common.{Result, Ok, Err}
use Rattle.answers.specs.declared.Refusal.{Refusal}
use Rattle.answers.specs.declared.Reason.{Reason}
use Rattle.answers.specs.Refusals.{refusal_at, said_why}
use Rattle.calculus.specs.Answer.{Answer, good, refused, ◌>>=◌, refuse, need}
use Rattle.notation_calculus.specs.Words.{Name, same_name, square, curly, Word}
use Rattle.notation_calculus.specs.Trees.{Bound, Clause, Text}
use Rattle.notation_calculus.specs.Grammar.{behind, is, numbers_at}
use Rattle.notation_calculus.specs.Making.{State, Entry, Scope, Put, lookup, entries, numbers_in, meant, clause_for, one_put, most_entries, waiting}
use Rattle.notation_theorems.proofs.Answering.{On, on_step, on_any, on_either, on_good}
use Rattle.notation_machine.specs.TypeMachine.{argument, body, TypeLevel, Typing, TypeHere, ask_type, side_from, ask_argument, type_put_in}
use Rattle.words.specs.Next.{Said, run_at}
use Rattle.words.specs.Lexed.{from, Lexed}
use Rattle.words.specs.Marks.{Marks}
use Rattle.grammar.proofs.EndLaws.{is_yes, mark-stands, mark_no}
use Rattle.clauses.specs.Meant.{values_in}
use Rattle.scopes.specs.declared.frames.Frame.{Frame}
use Rattle.scopes.specs.Entries.{value_at, Places, named_from, first_named}
use Rattle.scopes.specs.Frames.{frame_in, HoldsParameters}
use Rattle.scopes.proofs.LookLaws.{FoundNamed, look-named}
use Rattle.walk_levels.specs.TypeLevels.{flag_number, GivenIn}
use Rattle.walks.specs.declared.PutAt.{PutAt}
use Rattle.walks.specs.Walkable.{row_bodies, AllTyped, Walkable}
use Rattle.walks.specs.Walked.{TypesWalked}
use Rattle.walks.specs.Says.{bound_at, PutThere, put_from, PutAnswers, CanPut, PutSays}
use Rattle.walks.proofs.Kept.{types_walked_then}
use Rattle.type_walk.specs.declared.levels.Here.{Here}
use Rattle.type_walk.specs.declared.levels.Walking as code
use Rattle.type_walk.specs.declared.levels.Walking.TheVariants as walking
use Rattle.type_walk.specs.Holding.{given_from, here_with, AtLevel, Wanting, Answers}
use Rattle.type_walk.specs.Moves.{CanMove, Waited, Moving, Moved, Known, found_in_lem, Given, Valued, Anything, NameAt, side_after, argument_ask, put_after, plain_after, named_after, CanAskBody, BodyAsked}
use Rattle.type_walk.proofs.HoldLaws.{at_on, walked-wider}
use Rattle.type_walk.proofs.AskLaws.{can_wait, ask_held, waited_walked, places-none, waited_moved}
use Rattle.type_walk.proofs.MoveLaws.{onward, answered_as, moved_by, moved_as, refused_moved}

-- ---- arguments

pub given_length : (w : List ℕ) (top n : ℕ) → length (given_from w top n) ≡ n
given_length w top zero = refl
given_length w top (suc n) = ap suc (given_length w top n)

given_in : (w : List ℕ) (top n : ℕ) → GivenIn w top (given_from w top n)
given_in w top zero = tt
given_in w top (suc n) = (ap (λ (k : ℕ). value_at w (top + k)) (given_length w top n), given_in w top n)

-- where an argument is worked out
pub walkable_waiting : (text w : List ℕ) (frame top n : ℕ) (X : Text) (S : Scope) (σ : State) → Walkable text w frame top X S σ → Places text w 0 (top + n) → Walkable text w frame (top + n) X (waiting S n) σ
walkable_waiting text w frame top n X S σ G p =
    let H = G.scope in
    let Q = H.parameters in
    record {
      short = G.short;
      room = G.room;
      level = G.level;
      clauses = G.clauses;
      state = G.state;
      scope = record {
        places = p;
        parameters = record { seen = Q.seen; types_first = Q.types_first; numbers_next = Q.numbers_next; types = Q.types; numbers = Q.numbers };
        under = omega (arith, H.under);
        variables = refl;
        entries = omega (arith, H.entries);
      };
      seen = G.seen;
      types = G.types;
      variables = tt;
    }

module _ (text w : List ℕ) (h : Here) (name given at : ℕ) where
  abbrev args : List ℕ
  args = given_from w h.top given

  room-if : (b : Bool) → b ≡ leb (h.top + (given + 1)) most_entries → (X : Text) (m₀ base : ℕ) (σ : State) (S : Scope) (K : List TypeLevel) → AtLevel text w X m₀ base σ h S K → (bodies : List (List Word)) → argument_ask text w h.top name given at X bodies (here_with h S K) σ ≡ (need b 34 name >>= λ _. good (ask_type (here_with h S K) (argument (bound_at text name) args) false (waiting S (length args)) σ (from text at)))
  room-if b e X m₀ base σ S K A bodies =
      let n : entries S + suc (length args) ≡ h.top + (given + 1) = omega (arith, A.walkable.scope.entries, given_length w h.top given) in
      ap (λ (c : Bool). need c 34 name >>= λ _. good (ask_type (here_with h S K) (argument (bound_at text name) args) false (waiting S (length args)) σ (from text at))) (ap (λ (k : ℕ). leb k most_entries) n ∙ sym e)

  pub argument-full : (b : Bool) → b ≡ leb (h.top + (given + 1)) most_entries → b ≡ false → Moved text w h (Given w h.top given) (argument_ask text w h.top name given at) (Err (refusal_at Reason.TextLimit name)) w
  argument-full b e f = refused_moved (Given w h.top given) (argument_ask text w h.top name given at) (refusal_at Reason.TextLimit name) λ X m₀ base σ S K A k bodies. room-if false (sym f ∙ e) X m₀ base σ S K A bodies

  pub argument-asked :
      (w' : List ℕ) (flag : ℕ) (r : code.Walking) (b : Bool) → b ≡ leb (h.top + (given + 1)) most_entries → b ≡ true
      → CanMove text w h (Given w h.top given) → Lexed text at → name ≤ length text → Places text w 0 (h.top + given) → flag ≡ flag_number h.tight
      → Waited w h (record { form = 2; flag = flag; place = name; count = given; node = 0; ty = 0; deep = 0; next = 0 }) (record { more = h.more; tight = false; frame = h.frame; top = h.top + given; at = at }) r w'
      → Moved text w h (Given w h.top given) (argument_ask text w h.top name given at) (Ok r) w'
  argument-asked w' flag r b e ok C l inside places f g =
      let waits = can_wait text w C.X C.m₀ C.base C.σ h C.S C.K C.held in
      let n : h.top + given ≡ h.top + length args = omega (arith, given_length w h.top given) in
      let p : Places text w 0 (h.top + length args) = subst (λ (k : ℕ). Places text w 0 k) n places in
      let few : h.top + (given + 1) ≤ most_entries = leb→le (h.top + (given + 1)) most_entries (subst T (sym ok ∙ e) tt) in
      waited_moved text w h _ _ r w' (Given w h.top given) (argument_ask text w h.top name given at) waits g (λ X m₀ base σ S K A k.
      subst (Wanting text _ X m₀ base _) (sym (room-if true (sym ok ∙ e) X m₀ base σ S K A (row_bodies text w 0 (length X.clauses))))
      (ask_held w h _ waits text X m₀ base σ S K A (argument (bound_at text name) args) false h.frame (h.top + given) at (waiting S (length args)) f (refl, refl, refl, sym (given_length w h.top given), given_in w h.top given) (inside, (omega (arith, given_length w h.top given), k)) p (omega (arith, A.level)) (omega arith) (subst (λ (j : ℕ). Walkable text w h.frame j X (waiting S (length args)) σ) (sym n) (walkable_waiting text w h.frame h.top (length args) X S σ A.walkable p)) l))

-- ---- a definition that is put in

pub body-asked : (text w w' : List ℕ) (h : Here) (p : PutAt) (flag : ℕ) (r : code.Walking) → CanMove text w h Anything → flag ≡ flag_number h.tight → Waited w h (record { form = 1; flag = flag; place = 0; count = 0; node = 0; ty = 0; deep = 0; next = p.end }) (record { more = h.more; tight = false; frame = h.more; top = p.top; at = p.body }) r w' → BodyAsked text w h p (Ok r) w'
body-asked text w w' h p flag r C f g =
    let waits = can_wait text w C.X C.m₀ C.base C.σ h C.S C.K C.held in
    subst (λ (y : code.Walking). BodyAsked text w h p (Ok y) w') (sym g.wants) (subst (λ (v : List ℕ). BodyAsked text w h p (Ok (walking.Wanted (record { more = h.more; tight = false; frame = h.more; top = p.top; at = p.body }))) v) (sym g.stored) (record {
      walked = waited_walked w h _ waits;
      says = λ X m₀ base σ S R K A G few start end. ask_held w h _ waits text X m₀ base σ S K A (body (from text p.end)) false h.more p.top p.body R f (refl, refl, end) tt (places-none text w h.top A.walkable.scope.places) (omega arith) (omega (arith, few)) G start;
    }))

clause_over : (under : ℕ) (all cs : List Clause) (i : ℕ) (sort : Bool) (n : Name) (ts ns : List ℕ) (at : ℕ) → On (λ (p : Put). under ≤ entries p.scope) (clause_for under all cs i sort n ts ns at)
clause_over under all [] i sort n ts ns at = tt
clause_over under all (c ∷ cs) i sort n ts ns at = on_either (λ (p : Put). under ≤ entries p.scope) (meant c sort n (length ts) ns) _ _ (omega arith) (clause_over under all cs (suc i) sort n ts ns at)

bind-under : {A B C : Type 0} (m : Answer A) (f : A → Answer C) (g : A → Answer B) (k : B → Answer C) → ((a : A) → f a ≡ (g a >>= k)) → (m >>= f) ≡ ((m >>= g) >>= k)
bind-under (good a) f g k h = h a
bind-under (refused why) f g k h = refl

module _ (X : Text) (bodies : List (List Word)) (S : Scope) (σ : State) (x : Bound) (ts : List ℕ) (ws : List Word) where
  -- the body is put in over the entries that there are
  put-over : On (λ (p : PutThere). entries S ≤ entries p.scope) (put_from X bodies true S σ x ts ws)
  unfolding put_from
  put-over =
      on_any Q (numbers_at ws) _ λ ks.
      on_any Q (numbers_in S x.place (length ts) ks.value) _ λ ns.
      on_step (λ (p : Put). entries S ≤ entries p.scope) Q (clause_for (entries S) X.clauses (take S.seen X.clauses) 0 true x.name ts ns x.place) _ (clause_over (entries S) X.clauses (take S.seen X.clauses) 0 true x.name ts ns x.place) λ p o.
      on_any Q (one_put σ p.cost x.place) _ λ τ. o
    where
      Q : PutThere → Type 0
      Q p = entries S ≤ entries p.scope

  asked : TypeHere → PutThere → Answer Typing
  asked t p = good (ask_type t (body p.rest) false p.scope p.state p.body)

  put_is : (t : TypeHere) → t.scope ≡ S → type_put_in X bodies t σ x ts ws ≡ (put_from X bodies true S σ x ts ws >>= λ p. good (ask_type t (body p.rest) false p.scope p.state p.body))
  unfolding put_from
  put_is t e = rw e (
      bind-under (numbers_at ws) _ _ _ λ ks.
      bind-under (numbers_in S x.place (length ts) ks.value) _ _ _ λ ns.
      bind-under (clause_for (entries S) X.clauses (take S.seen X.clauses) 0 true x.name ts ns x.place) _ _ _ λ p.
      bind-under (one_put σ p.cost x.place) _ _ _ λ τ. refl)

module _ (text w w₁ : List ℕ) (h : Here) (name given at : ℕ) where
  abbrev putting : Text → Scope → State → Answer PutThere
  putting X S σ = put_from X (row_bodies text w 0 (length X.clauses)) true S σ (bound_at text name) (values_in w h.top given) (from text at)

  abbrev ask_body : TypeHere → PutThere → Answer Typing
  ask_body t p = good (ask_type t (body p.rest) false p.scope p.state p.body)

  put-none : (X : Text) (q : Refusal) (t : TypeHere) (a : Answer PutThere) → PutAnswers text w₁ X h.more (Err q) a → (a >>= ask_body t) ≡ refused (said_why q)
  put-none X q t (good p) e = absurd e
  put-none X q t (refused why) e = ap refused e

  pub put_refused : (p : Result PutAt Refusal) (q : Refusal) → p ≡ Err q → PutSays text w true name at given h.frame h.top h.more p w₁ → Moved text w h (Valued w h.top given) (put_after text w h.top name given at) (Err q) w₁
  put_refused p q e Z = record {
    walked = walked-wider (suc h.more) (h.more + 1) h.top h.top w w₁ (omega arith) (omega arith) Z.walked;
    says = λ X m₀ base σ S K A k. put_is X (row_bodies text w 0 (length X.clauses)) S σ (bound_at text name) (values_in w h.top given) (from text at) (here_with h S K) refl ∙ put-none X q (here_with h S K) (putting X S σ) (subst (λ (y : Result PutAt Refusal). PutAnswers text w₁ X h.more y (putting X S σ)) e (Z.says X S σ A.walkable k));
  }

  module _ (p : Result PutAt Refusal) (q : PutAt) (is-p : p ≡ Ok q) (Z : PutSays text w true name at given h.frame h.top h.more p w₁) where
    put-said : (X : Text) (S : Scope) (σ : State) → Walkable text w h.frame h.top X S σ → Valued w h.top given σ → PutAnswers text w₁ X h.more (Ok q) (putting X S σ)
    put-said X S σ G k = subst (λ (y : Result PutAt Refusal). PutAnswers text w₁ X h.more y (putting X S σ)) is-p (Z.says X S σ G k)

    abbrev walked₁ : TypesWalked (h.more + 1) h.top w w₁
    walked₁ = walked-wider (suc h.more) (h.more + 1) h.top h.top w w₁ (omega arith) (omega arith) Z.walked

    can-by : (X : Text) (m₀ base : ℕ) (σ : State) (S : Scope) (K : List TypeLevel) → AtLevel text w X m₀ base σ h S K → (a : Answer PutThere) → PutAnswers text w₁ X h.more (Ok q) a → CanAskBody text w₁ h q
    can-by X m₀ base σ S K A (good p) c = record { can = record { X = X; m₀ = m₀; base = base; σ = p.state; S = S; K = K; held = at_on text w w₁ X σ p.state c.walkable.state m₀ base h S K walked₁ A; known = tt }; lexed = c.rest.lexed }
    can-by X m₀ base σ S K A (refused why) c = absurd c

    pub can-ask-body : CanMove text w h (Valued w h.top given) → CanAskBody text w₁ h q
    can-ask-body C = can-by C.X C.m₀ C.base C.σ C.S C.K C.held (putting C.X C.S C.σ) (put-said C.X C.S C.σ C.held.walkable C.known)

    module _ (w₂ : List ℕ) (r : Result code.Walking Refusal) (B : BodyAsked text w₁ h q r w₂) where
      came-by : (X : Text) (m₀ base : ℕ) (σ : State) (S : Scope) (K : List TypeLevel) → AtLevel text w X m₀ base σ h S K → (a : Answer PutThere) → On (λ (p : PutThere). entries S ≤ entries p.scope) a → PutAnswers text w₁ X h.more (Ok q) a → Answers text w₂ X m₀ base r (a >>= ask_body (here_with h S K))
      came-by X m₀ base σ S K A (good p) o c =
          let A₁ = at_on text w w₁ X σ p.state c.walkable.state m₀ base h S K walked₁ A in
          let few : h.top ≤ q.top = omega (arith, o, A.walkable.scope.entries, c.walkable.scope.entries) in
          answered_as text w₂ X m₀ base r (ap (λ (us : List Word). good (ask_type (here_with h S K) (body us) false p.scope p.state p.body)) c.rest.is ∙ ap (λ (us : List Word). good (ask_type (here_with h S K) (body (from text q.end)) false p.scope p.state us)) c.body.is) (B.says X m₀ base p.state S p.scope K A₁ c.walkable few c.body.lexed c.rest.lexed)
      came-by X m₀ base σ S K A (refused why) o c = absurd c

      pub put-came : Moved text w h (Valued w h.top given) (put_after text w h.top name given at) r w₂
      put-came = record {
        walked = types_walked_then (h.more + 1) (h.more + 1) (h.more + 1) h.top h.top h.top w w₁ w₂ (omega arith) (omega arith) (omega arith) (omega arith) walked₁ B.walked;
        says = λ X m₀ base σ S K A k. answered_as text w₂ X m₀ base r (put_is X (row_bodies text w 0 (length X.clauses)) S σ (bound_at text name) (values_in w h.top given) (from text at) (here_with h S K) refl) (came-by X m₀ base σ S K A (putting X S σ) (put-over X (row_bodies text w 0 (length X.clauses)) S σ (bound_at text name) (values_in w h.top given) (from text at)) (put-said X S σ A.walkable k));
      }

pub can_put : (text w : List ℕ) (h : Here) (name given at : ℕ) → CanMove text w h (Valued w h.top given) → Lexed text at → name ≤ length text → h.top + given ≤ most_entries → CanPut text w name at given h.frame h.top h.more
can_put text w h name given at C l inside few = record { walk = record { X = C.X; S = C.S; σ = C.σ; walkable = C.held.walkable }; lexed = l; inside = inside; above = C.held.level; few = few }

-- ---- a parameter of the definition

known_by : (k : ℕ) (n : Name) (Γ : List Entry) (i : ℕ) → AllTyped k Γ → On (λ (v : ℕ). v < k) (lookup n Γ i (λ _ v. good v) (refuse 0 0))
known_by k n [] i a = tt
known_by k n (e ∷ Γ) i a = on_either (λ (v : ℕ). v < k) (same_name n e.name) _ _ a.0 (known_by k n Γ (suc i) a.1)

module _ (text w : List ℕ) (h : Here) (name at : ℕ) (N : NameAt text name) (f : Frame) (is_f : f ≡ frame_in w h.frame) where
  abbrev count : ℕ
  count = f.numbers - f.types

  parameters : (X : Text) (m₀ base : ℕ) (σ : State) (S : Scope) (K : List TypeLevel) → AtLevel text w X m₀ base σ h S K → HoldsParameters text w f S
  parameters X m₀ base σ S K A = subst (λ (y : Frame). HoldsParameters text w y S) (sym is_f) A.walkable.scope.parameters

  numbers-low : (X : Text) (m₀ base : ℕ) (σ : State) (S : Scope) (K : List TypeLevel) → AtLevel text w X m₀ base σ h S K → f.numbers ≤ h.top
  numbers-low X m₀ base σ S K A =
      let Q = parameters X m₀ base σ S K A in
      let under : f.variables ≤ S.under = subst (λ (y : Frame). y.variables ≤ S.under) (sym is_f) A.walkable.scope.under in
      omega (arith, Q.numbers_next, A.walkable.scope.entries)

  -- the parameters can be looked up
  pub plain-asked : CanMove text w h Anything → Places text w f.types f.numbers × ((f.types ≤ f.numbers) × (name ≤ length text))
  plain-asked C =
      let low = numbers-low C.X C.m₀ C.base C.σ C.S C.K C.held in
      let p = C.held.walkable.scope.places in
      (record { room = p.room; most = omega (arith, p.most); inside = λ e a b. p.inside e (omega arith) (omega arith) }, ((parameters C.X C.m₀ C.base C.σ C.S C.K C.held).types_first, N.inside))

  module _ (e : ℕ) (is-first : e ≡ first_named text w name f.types count) where
    found : {A : Type 0} (i : ℕ) (g : ℕ → A) (else : A) → FoundNamed text w name f.types count e g else (lookup (run_at text name) (named_from text w f.types count) i (λ _ v. g v) else)
    found i g else = subst (λ (r : ℕ). FoundNamed text w name f.types count r g else (lookup (run_at text name) (named_from text w f.types count) i (λ _ v. g v) else)) (sym is-first) (look-named text w name N.long count f.types i g else)

    pub plain-none : (w' : List ℕ) (r : Result code.Walking Refusal) → e ≡ f.numbers → Moved text w h (Valued w h.top 0) (put_after text w h.top name 0 at) r w' → Moved text w h Anything (plain_after text name at) r w'
    plain-none w' r z M = moved_by (Valued w h.top 0) Anything (put_after text w h.top name 0 at) (plain_after text name at) (λ X m₀ base σ S K A _.
        let Q = parameters X m₀ base σ S K A in
        (tt, λ bodies. subst (λ (Γ : List Entry). lookup (run_at text name) Γ 0 (λ i v. good (side_from (here_with h S K) (found_in_lem v σ) (from text at))) (type_put_in X bodies (here_with h S K) σ (bound_at text name) [] (from text at)) ≡ type_put_in X bodies (here_with h S K) σ (bound_at text name) [] (from text at)) Q.types ((found 0 (λ v. good (side_from (here_with h S K) (found_in_lem v σ) (from text at))) (type_put_in X bodies (here_with h S K) σ (bound_at text name) [] (from text at))).none (omega (arith, Q.types_first))))) M

    module _ (some : ¬ (e ≡ f.numbers)) (X : Text) (m₀ base : ℕ) (σ : State) (S : Scope) (K : List TypeLevel) (A : AtLevel text w X m₀ base σ h S K) where
      abbrev Q : HoldsParameters text w f S
      Q = parameters X m₀ base σ S K A

      within : e < f.types + count
      within = omega (arith, Q.types_first, (found 0 (λ v. v) 0).most)

      low : e < most_entries
      low = omega (arith, within, Q.types_first, numbers-low X m₀ base σ S K A, A.walkable.scope.places.most)

      known : value_at w e < length σ.table
      known = on_good (λ (v : ℕ). v < length σ.table) (lookup (run_at text name) S.types 0 (λ _ v. good v) (refuse 0 0)) (value_at w e) (known_by (length σ.table) (run_at text name) S.types 0 A.walkable.types) (subst (λ (Γ : List Entry). lookup (run_at text name) Γ 0 (λ _ v. good v) (refuse 0 0) ≡ good (value_at w e)) Q.types ((found 0 (λ v. good v) (refuse 0 0)).there within).1)

      plain-is : (bodies : List (List Word)) → plain_after text name at X bodies (here_with h S K) σ ≡ side_after text (value_at w e) at X bodies (here_with h S K) σ
      plain-is bodies = subst (λ (Γ : List Entry). lookup (run_at text name) Γ 0 (λ i v. good (side_from (here_with h S K) (found_in_lem v σ) (from text at))) (type_put_in X bodies (here_with h S K) σ (bound_at text name) [] (from text at)) ≡ good (side_from (here_with h S K) (found_in_lem (value_at w e) σ) (from text at))) Q.types ((found 0 (λ v. good (side_from (here_with h S K) (found_in_lem v σ) (from text at))) (type_put_in X bodies (here_with h S K) σ (bound_at text name) [] (from text at))).there within).1

    pub plain-low : ¬ (e ≡ f.numbers) → CanMove text w h Anything → e < most_entries
    plain-low some C = low some C.X C.m₀ C.base C.σ C.S C.K C.held

    pub plain-found : (w' : List ℕ) (r : Result code.Walking Refusal) (v : ℕ) → ¬ (e ≡ f.numbers) → v ≡ value_at w e → Moved text w h (Known v) (side_after text v at) r w' → Moved text w h Anything (plain_after text name at) r w'
    plain-found w' r v some z M = moved_by (Known v) Anything (side_after text v at) (plain_after text name at) (λ X m₀ base σ S K A _. (omega (arith, z, known some X m₀ base σ S K A), λ bodies. plain-is some X m₀ base σ S K A bodies ∙ ap (λ (u : ℕ). side_after text u at X bodies (here_with h S K) σ) (sym z))) M

    pub can-side : (v : ℕ) → ¬ (e ≡ f.numbers) → v ≡ value_at w e → CanMove text w h Anything → CanMove text w h (Known v)
    can-side v some z C = record { X = C.X; m₀ = C.m₀; base = C.base; σ = C.σ; S = C.S; K = C.K; held = C.held; known = omega (arith, z, known some C.X C.m₀ C.base C.σ C.S C.K C.held) }

-- ---- behind a name

module _ (text w w' : List ℕ) (h : Here) (name at : ℕ) (r : Result code.Walking Refusal) (v : Said) (m : Marks text at v) where
  abbrev ws : List Word
  ws = from text at

  abbrev named_if : Bool → Bool → Moving
  named_if a b X bodies t σ =
      let there = cond a (ask_argument t σ (bound_at text name) [] (behind ws)) (type_put_in X bodies t σ (bound_at text name) [] ws) in
      cond (a || b) there (lookup (run_at text name) t.scope.types 0 (λ i v. good (side_from t (found_in_lem v σ) ws)) there)

  named-if : (a b : Bool) → is square ws ≡ a → is curly ws ≡ b → (X : Text) (bodies : List (List Word)) (σ : State) (S : Scope) (K : List TypeLevel) → named_after text name at X bodies (here_with h S K) σ ≡ named_if a b X bodies (here_with h S K) σ
  named-if a b e f X bodies σ S K = ap (λ (c : Bool). named_if c (is curly ws) X bodies (here_with h S K) σ) e ∙ ap (λ (c : Bool). named_if a c X bodies (here_with h S K) σ) f

  pub named_square : v.code ≡ 17 → Moved text w h (Given w h.top 0) (argument_ask text w h.top name 0 v.end) r w' → Moved text w h Anything (named_after text name at) r w'
  named_square e M = let s = mark-stands text at v m 17 e (λ z. omega arith) in moved_by (Given w h.top 0) Anything (argument_ask text w h.top name 0 v.end) (named_after text name at) (λ X m₀ base σ S K A _. (tt, λ bodies. named-if true (is curly ws) (is_yes text at v s square e) refl X bodies σ S K ∙ ap (λ (us : List Word). ask_argument (here_with h S K) σ (bound_at text name) [] us) (onward text at v s 16 e).rest)) M

  pub named_curly : ¬ (v.code ≡ 17) → v.code ≡ 19 → Moved text w h (Valued w h.top 0) (put_after text w h.top name 0 at) r w' → Moved text w h Anything (named_after text name at) r w'
  named_curly n e M = let s = mark-stands text at v m 19 e (λ z. omega arith) in moved_by (Valued w h.top 0) Anything (put_after text w h.top name 0 at) (named_after text name at) (λ X m₀ base σ S K A _. (tt, λ bodies. named-if false true (mark_no text at v square m.square n) (is_yes text at v s curly e) X bodies σ S K)) M

  pub named-plain : ¬ (v.code ≡ 17) → ¬ (v.code ≡ 19) → Moved text w h Anything (plain_after text name at) r w' → Moved text w h Anything (named_after text name at) r w'
  named-plain n o M = moved_as Anything (plain_after text name at) (named_after text name at) (λ X bodies σ S K. named-if false false (mark_no text at v square m.square n) (mark_no text at v curly m.curly o) X bodies σ S K) M

-- no argument waits
pub can_places : (text w : List ℕ) (h : Here) (P : State → Type 0) → CanMove text w h P → Places text w 0 (h.top + 0)
can_places text w h P C = places-none text w h.top C.held.walkable.scope.places

pub can_top : (text w : List ℕ) (h : Here) (P : State → Type 0) → CanMove text w h P → h.top + 0 ≤ most_entries
can_top text w h P C = (can_places text w h P C).most
