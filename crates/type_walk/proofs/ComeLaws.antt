-- What the numbers of a level that waits tell of its wish, so that a step goes by them. Assumes nothing.
use Prim.Native.Nat.{ℕ, ◌+◌, ◌≤◌, ◌<◌}
use mathlib.Core.Path.{◌≡◌, refl, sym, ap, subst, ◌∙◌}
use mathlib.Core.List.{List, [], ◌∷◌}
use native.Mathlib.Omega.{arith}
use lib.ListN.{length}
use Rattle.std.proofs.Common.{Result}
use Rattle.answers.specs.declared.Refusal.{Refusal}
use Rattle.notation_calculus.specs.Trees.{Form, product, arrow, linear, Text}
use Rattle.notation_calculus.specs.Making.{State, most_entries}
use Rattle.notation_calculus.specs.Words.{Word}
use Rattle.notation_machine.specs.TypeMachine.{Wish, enclosed, argument, body, other, TypeLevel, TypeHere, type_left}
use Rattle.words.specs.Lexed.{from, Lexed}
use Rattle.scopes.specs.Entries.{value_at, Places}
use Rattle.walk_levels.specs.declared.Level.{Level}
use Rattle.walk_levels.specs.Levels.{level_in, scope_in}
use Rattle.walk_levels.specs.TypeLevels.{side_number, GivenIn, waiting_for, HoldsWish}
use Rattle.walks.specs.Says.{bound_at}
use Rattle.type_walk.specs.declared.levels.Come.{Come}
use Rattle.type_walk.specs.declared.levels.Here.{Here}
use Rattle.type_walk.specs.declared.levels.Walking as code
use Rattle.type_walk.specs.declared.levels.Side.{Side}
use Rattle.type_walk.specs.Wishes.{number_said}
use Rattle.type_walk.specs.declared.levels.Walking.TheVariants as walking
use Rattle.type_walk.specs.Holding.{given_from, AllBelow, WishKnown, LevelHeld, here_in}
use Rattle.type_walk.specs.Moves.{CanMove, Moving, Moved, Known, found_in_lem, Given, Both, form_by, side_after, left_with, CanStep, Stepped}
use Rattle.type_walk.proofs.StepLaws.{said-low, come_held, Tells, come_can, come_moved}

-- ---- a wish by its numbers

given_is : (w : List ℕ) (top : ℕ) (given : List ℕ) → GivenIn w top given → given ≡ given_from w top (length given)
given_is w top [] g = refl
given_is w top (t ∷ given) g = ap (λ (u : ℕ). u ∷ given) (sym g.0) ∙ ap (λ (ts : List ℕ). value_at w (top + length given) ∷ ts) (given_is w top given g.1)

form_is : (f : Form) → form_by (side_number f) ≡ f
form_is product = refl
form_is arrow = refl
form_is linear = refl

side_low : (f : Form) → (3 ≤ side_number f) × (side_number f ≤ 5)
side_low product = (omega arith, omega arith)
side_low arrow = (omega arith, omega arith)
side_low linear = (omega arith, omega arith)

module _ (text w : List ℕ) (n top : ℕ) (L : Level) where
  form-most : (x : Wish) → HoldsWish text w top L x → L.form ≤ 5
  form-most enclosed h = omega (arith, h)
  form-most (body us) h = omega (arith, h.0)
  form-most (argument x given) h = omega (arith, h.0)
  form-most (other f at t) h = omega (arith, h.0, (side_low f).1)

  inside-wish : (x : Wish) → HoldsWish text w top L x → L.form ≡ 0 → x ≡ enclosed
  inside-wish enclosed h e = refl
  inside-wish (body us) h e = absurd (omega (arith, h.0, e))
  inside-wish (argument x given) h e = absurd (omega (arith, h.0, e))
  inside-wish (other f at t) h e = absurd (omega (arith, h.0, e, (side_low f).0))

  body-wish : (x : Wish) → HoldsWish text w top L x → L.form ≡ 1 → (x ≡ body (from text L.next)) × Lexed text L.next
  body-wish enclosed h e = absurd (omega (arith, h, e))
  body-wish (body us) (a, b, c) e = (ap body b, c)
  body-wish (argument x given) h e = absurd (omega (arith, h.0, e))
  body-wish (other f at t) h e = absurd (omega (arith, h.0, e, (side_low f).0))

  -- an argument of a name that stands in the text, over those that wait
  pub record ArgumentWish (x : Wish) : Type 0 where
    pub is : x ≡ argument (bound_at text L.place) (given_from w top L.count)
    pub inside : L.place ≤ length text
    pub few : top + L.count < most_entries
    pub below : AllBelow n (given_from w top L.count)
    pub waits : waiting_for x ≡ L.count

  argument-wish : (x : Wish) → HoldsWish text w top L x → WishKnown text n top x → L.form ≡ 2 → ArgumentWish x
  argument-wish enclosed h k e = absurd (omega (arith, h, e))
  argument-wish (body us) h k e = absurd (omega (arith, h.0, e))
  argument-wish (argument x given) (a, p, m, c, g) (i, (few, all)) e =
      let same : given ≡ given_from w top L.count = given_is w top given g ∙ ap (λ (j : ℕ). given_from w top j) (sym c) in
      record {
        is = ap (λ (z : ℕ). argument (record { name = x.name; place = z }) given) (sym p) ∙ ap (λ (z : List ℕ). argument (record { name = z; place = L.place }) given) (sym m) ∙ ap (λ (ts : List ℕ). argument (bound_at text L.place) ts) same;
        inside = omega (arith, i, p);
        few = omega (arith, few, c);
        below = subst (AllBelow n) same all;
        waits = sym c;
      }
  argument-wish (other f at t) h k e = absurd (omega (arith, h.0, e, (side_low f).1, (side_low f).0))

  pub record SideWish (x : Wish) : Type 0 where
    pub is : x ≡ other (form_by L.form) L.place L.ty
    pub low : 3 ≤ L.form
    pub high : L.form ≤ 5
    pub below : L.ty < n

  side-wish : (x : Wish) → HoldsWish text w top L x → WishKnown text n top x → ¬ (L.form ≡ 0) → ¬ (L.form ≡ 1) → ¬ (L.form ≡ 2) → SideWish x
  side-wish enclosed h k a b c = absurd (a h)
  side-wish (body us) h k a b c = absurd (b h.0)
  side-wish (argument x given) h k a b c = absurd (c h.0)
  side-wish (other f at t) (h, p, y) k a b c = record {
    is = ap (λ (z : Form). other z at t) (sym (ap form_by h ∙ form_is f)) ∙ ap (λ (z : ℕ). other (form_by L.form) z t) (sym p) ∙ ap (λ (z : ℕ). other (form_by L.form) L.place z) (sym y);
    low = omega (arith, h, (side_low f).0);
    high = omega (arith, h, (side_low f).1);
    below = omega (arith, y, k);
  }

-- ---- a step by them

module _ (text w : List ℕ) (q : Come) (h : Here) (is_here : h ≡ here_in w q.more) (L : Level) (is-level : L ≡ level_in w (q.more + 1)) where
  abbrev stored : Level
  stored = level_in w (q.more + 1)

  abbrev top : ℕ
  top = (scope_in w (q.more + 1)).top

  wished : (go : Moving) (X : Text) (σ : State) (l : TypeLevel) (y : Wish) → l.wish ≡ y → ((bodies : List (List Word)) (t : TypeHere) → type_left X bodies t y (found_in_lem q.ty σ) (from text q.at) ≡ go X bodies t σ) → (bodies : List (List Word)) (t : TypeHere) → type_left X bodies t l.wish (found_in_lem q.ty σ) (from text q.at) ≡ go X bodies t σ
  wished go X σ l y e f bodies t = ap (λ (z : Wish). type_left X bodies t z (found_in_lem q.ty σ) (from text q.at)) e ∙ f bodies t

  -- the numbers that the code has read are the memory's
  form_of : {k : ℕ} → L.form ≡ k → stored.form ≡ k
  form_of e = ap (λ (z : Level). z.form) (sym is-level) ∙ e

  pub form-few : CanStep text w (walking.Came q) → L.form ≤ 5
  form-few C = let D = come_held text w q C in subst (λ (y : Level). y.form ≤ 5) (sym is-level) (form-most text w 0 top stored D.l.wish D.level.wish)

  form-not : {k : ℕ} → ¬ (L.form ≡ k) → ¬ (stored.form ≡ k)
  form-not n e = n (ap (λ (z : Level). z.form) is-level ∙ e)

  module _ (e : L.form ≡ 0) where
    tells-inside : Tells text w q (Known q.ty) (left_with text enclosed q.ty q.at)
    tells-inside = record { knows = λ X σ l H k. k; does = λ X σ l H k. wished (left_with text enclosed q.ty q.at) X σ l enclosed (inside-wish text w 0 top stored l.wish H.wish (form_of e)) (λ bodies t. refl) }

    pub inside-can : CanStep text w (walking.Came q) → CanMove text w h (Known q.ty) × Lexed text q.at
    inside-can C = (subst (λ (y : Here). CanMove text w y (Known q.ty)) (sym is_here) (come_can text w q (Known q.ty) (left_with text enclosed q.ty q.at) tells-inside C), (come_held text w q C).lexed)

    pub inside-stepped : (w' : List ℕ) (r : Result code.Walking Refusal) → Moved text w h (Known q.ty) (left_with text enclosed q.ty q.at) r w' → Stepped text w (walking.Came q) r w'
    inside-stepped w' r M = come_moved text w q (Known q.ty) (left_with text enclosed q.ty q.at) tells-inside w' r (subst (λ (y : Here). Moved text w y (Known q.ty) (left_with text enclosed q.ty q.at) r w') is_here M)

  module _ (e : L.form ≡ 1) where
    tells-body : Tells text w q (Known q.ty) (side_after text q.ty stored.next)
    tells-body = record { knows = λ X σ l H k. k; does = λ X σ l H k. wished (side_after text q.ty stored.next) X σ l (body (from text stored.next)) (body-wish text w 0 top stored l.wish H.wish (form_of e)).0 (λ bodies t. refl) }

    pub body-can : CanStep text w (walking.Came q) → (next : ℕ) → next ≡ L.next → CanMove text w h (Known q.ty) × Lexed text next
    body-can C next z = (subst (λ (y : Here). CanMove text w y (Known q.ty)) (sym is_here) (come_can text w q (Known q.ty) (side_after text q.ty stored.next) tells-body C), let D = come_held text w q C in subst (Lexed text) (sym (z ∙ ap (λ (y : Level). y.next) is-level)) (body-wish text w 0 top stored D.l.wish D.level.wish (form_of e)).1)

    pub body-stepped : (w' : List ℕ) (r : Result code.Walking Refusal) (next : ℕ) → next ≡ L.next → Moved text w h (Known q.ty) (side_after text q.ty next) r w' → Stepped text w (walking.Came q) r w'
    body-stepped w' r next z M = come_moved text w q (Known q.ty) (side_after text q.ty stored.next) tells-body w' r (subst (λ (y : Here). Moved text w y (Known q.ty) (side_after text q.ty stored.next) r w') is_here (subst (λ (j : ℕ). Moved text w h (Known q.ty) (side_after text q.ty j) r w') (z ∙ ap (λ (y : Level). y.next) is-level) M))

  module _ (e : L.form ≡ 2) (nm given : ℕ) (is_name : nm ≡ L.place) (is-given : given ≡ L.count) where
    abbrev P : State → Type 0
    P = Both (Known q.ty) (Given w h.top given)

    abbrev go : Moving
    go = left_with text (argument (bound_at text nm) (given_from w h.top given)) q.ty q.at

    name-stored : nm ≡ stored.place
    name-stored = is_name ∙ ap (λ (y : Level). y.place) is-level

    given-stored : given ≡ stored.count
    given-stored = is-given ∙ ap (λ (y : Level). y.count) is-level

    top-stored : h.top ≡ top
    top-stored = ap (λ (y : Here). y.top) is_here

    args-stored : given_from w top stored.count ≡ given_from w h.top given
    args-stored = ap (λ (j : ℕ). given_from w j stored.count) (sym top-stored) ∙ ap (λ (j : ℕ). given_from w h.top j) (sym given-stored)

    argument-of : (X : Text) (σ : State) (l : TypeLevel) → LevelHeld text w X σ q.more l → ArgumentWish text w (length σ.table) top stored l.wish
    argument-of X σ l H = argument-wish text w (length σ.table) top stored l.wish H.wish H.known (form_of e)

    tells-argument : Tells text w q P go
    tells-argument = record {
      knows = λ X σ l H k. (k, subst (AllBelow (length σ.table)) args-stored (argument-of X σ l H).below);
      does = λ X σ l H k. wished go X σ l (argument (bound_at text nm) (given_from w h.top given)) ((argument-of X σ l H).is ∙ ap (λ (j : ℕ). argument (bound_at text j) (given_from w top stored.count)) (sym name-stored) ∙ ap (λ (ts : List ℕ). argument (bound_at text nm) ts) args-stored) (λ bodies t. refl);
    }

    pub argument-can : CanStep text w (walking.Came q) → CanMove text w h P × (Lexed text q.at × ((nm ≤ length text) × ((h.top + given < most_entries) × Places text w 0 (h.top + given))))
    argument-can C =
        let D = come_held text w q C in
        let a = argument-of C.X D.state D.l D.level in
        let same : top + waiting_for D.l.wish ≡ h.top + given = omega (arith, a.waits, top-stored, given-stored) in
        (subst (λ (y : Here). CanMove text w y P) (sym is_here) (come_can text w q P go tells-argument C), (D.lexed, (omega (arith, name-stored, a.inside), (omega (arith, given-stored, top-stored, a.few), subst (λ (j : ℕ). Places text w 0 j) same D.level.places))))

    pub argument-stepped : (w' : List ℕ) (r : Result code.Walking Refusal) → Moved text w h P go r w' → Stepped text w (walking.Came q) r w'
    argument-stepped w' r M = come_moved text w q P go tells-argument w' r (subst (λ (y : Here). Moved text w y P go r w') is_here M)

  module _ (between : Side) (is_form : L.form ≡ number_said between) where
    other-than : {k : ℕ} → k < 3 → ¬ (L.form ≡ k)
    other-than low e = let least = (said-low between).0 in absurd (omega (arith, low, e, is_form, least))

    abbrev R : State → Type 0
    R = Both (Known L.ty) (Known q.ty)

    abbrev side : Moving
    side = left_with text (other (form_by L.form) L.place L.ty) q.ty q.at

    side-of : (X : Text) (σ : State) (l : TypeLevel) → LevelHeld text w X σ q.more l → SideWish text w (length σ.table) top L l.wish
    side-of X σ l H = subst (λ (y : Level). SideWish text w (length σ.table) top y l.wish) (sym is-level) (side-wish text w (length σ.table) top stored l.wish H.wish H.known (form-not (other-than (omega arith))) (form-not (other-than (omega arith))) (form-not (other-than (omega arith))))

    tells-side : Tells text w q R side
    tells-side = record { knows = λ X σ l H k. ((side-of X σ l H).below, k); does = λ X σ l H k. wished side X σ l (other (form_by L.form) L.place L.ty) (side-of X σ l H).is (λ bodies t. refl) }

    pub side-can : CanStep text w (walking.Came q) → CanMove text w h R × (Lexed text q.at × (L.form ≡ number_said between))
    side-can C =
        (subst (λ (y : Here). CanMove text w y R) (sym is_here) (come_can text w q R side tells-side C), ((come_held text w q C).lexed, is_form))

    pub side-stepped : (w' : List ℕ) (r : Result code.Walking Refusal) → Moved text w h R side r w' → Stepped text w (walking.Came q) r w'
    side-stepped w' r M = come_moved text w q R side tells-side w' r (subst (λ (y : Here). Moved text w y R side r w') is_here M)
