-- The machine of types does what `type_of` does to the tree that the grammar reads from the same words. Assumes nothing.
use Prim.Native.Nat.{ℕ, zero, suc}
use mathlib.Core.Path.{◌≡◌, refl, ap}
use mathlib.Core.Bool.{Bool, true, false, cond}
use mathlib.Core.List.{List, [], ◌∷◌}
use lib.Dec.{eqb}
use lib.ListN.{length, take}
use Rattle.calculus.specs.Answer.{Answer, good, ◌>>=◌, need}
use Rattle.laws.proofs.Tests.{T-is}
use Rattle.notation_calculus.specs.Words.{Name, arrow, linear, times, round, endRound, comma, square, endSquare, curly, power, Token, sign, part, number, name, Word}
use Rattle.notation_calculus.specs.Trees.{Bound, Number, Form, product, TypeTree, typed, TypeAtom, one, ones, inside, typeNamed, Side, nothing, side, TypeTrees, no_types, types, Body, of_type, of_term, Text}
use Rattle.notation_calculus.specs.Trees as Trees
use Rattle.notation_calculus.specs.Grammar.{most_nested, Got, got, peek, behind, place, is, is_token, expect, list_from, number_at, numbers_at, types_of, arguments_at, ones_at, type_atom_of, side_at, product_at, arrow_at, type_at}
use Rattle.notation_calculus.specs.Making.{State, Found, Scope, lookup, form_of, listed, entries, room_for, number_of, numbers_in, Put, clause_for, one_put, waiting, found_all, put_in, joined, ones_of, atom_type, body_type, type_of}
use Rattle.notation_theorems.proofs.Answering.{On, on_step, on_any, on_test, on_map, on_is, on_good}
use Rattle.notation_machine.specs.Walked.{Runs}
use Rattle.notation_machine.specs.Bodies.{words_for, AllRead}
use Rattle.notation_machine.proofs.ReadLaws.{on_expected, on_pair, Some, list_some, some_arguments, Numbers, numbers-read, lookup-both}
use Rattle.notation_machine.proofs.Bodies.{BodyFound, body-found, read_take}
use Rattle.notation_machine.specs.TypeMachine.{enclosed, argument, body, other, TypeLevel, Typing, wanted, came, TypeHere, ask_type, type_done, ask_side, arrow_from, side_from, behind_side, in_order_lem, ask_argument, type_put_in, type_entered, type_move}
use Rattle.notation_machine.proofs.Running.{Follows, follows_now, follows_step, follows_then, follows_to, follows_both, follows_same, follows_all}

module _ (X : Text) (bodies : List (List Word)) (reads : AllRead bodies X.clauses) where
  abbrev move : Typing → Answer Typing
  move s = type_move X bodies s

  -- the machine started at these words does what `type_of` does to the tree, and stands behind it
  abbrev pub TypeGoes : ℕ → Bool → List Word → Got TypeTree → Type 0
  TypeGoes more tight ws g = (S : Scope) (σ : State) (K : List TypeLevel) → Follows (move) (good (wanted more tight S σ ws K)) (type_of X more S σ g.value) (λ x. good (came more x g.rest K))

  -- no level is left
  none_left : (m : ℕ) (tight : Bool) (ws : List Word) → On (TypeGoes zero tight ws) (type_at m tight ws)
  none_left zero tight ws = tt
  none_left (suc m) tight ws =
      on_any (TypeGoes zero tight ws) (type_atom_of (λ us. type_at m false us) (peek ws).token ws) _ λ a.
      on_any (TypeGoes zero tight ws) (product_at (λ us. type_at m true us) a.rest) _ λ b.
      on_any (TypeGoes zero tight ws) (cond tight (got nothing b.rest) (arrow_at (λ us. type_at m false us) b.rest)) _ λ c S σ K. follows_step move (record { steps = 0; lead = refl })

  module _ (more : ℕ) (below : (m : ℕ) (tight : Bool) (ws : List Word) → On (TypeGoes more tight ws) (type_at m tight ws)) where
    abbrev go : Scope → State → TypeTree → Answer Found
    go R τ t = type_of X more R τ t

    abbrev at : Bool → Scope → List TypeLevel → TypeHere
    at tight S K = record { more = more; tight = tight; scope = S; above = K }

    -- ---- sides

    abbrev SideGoes : Form → Bool → List Word → Got Side → Type 0
    SideGoes f close us s = (tight : Bool) (S : Scope) (K : List TypeLevel) (x : Found) → Follows move (good (ask_side (at tight S K) f close x us)) (joined (λ τ t. go S τ t) x s.value) (λ y. good (behind_side f (at tight S K) y s.rest))

    -- a side that is read behind a sign is worked out, and both are listed
    side-goes : (m : ℕ) (f : Form) (close : Bool) (us : List Word) → On (SideGoes f close us) (side_at (λ vs. type_at m close vs) f us)
    side-goes m f close us = on_step (TypeGoes more close (behind us)) (SideGoes f close us) (type_at m close (behind us)) (λ t. got (side f (place us) t.value) t.rest) (below m close (behind us)) λ t G tight S K x.
        follows_then move (go S x.state t.value) (λ y. listed y.state (form_of f x.type y.type) (place us)) (G S x.state (record { wish = other f (place us) x.type; tight = tight; scope = S } ∷ K)) λ y.
        follows_step move (follows_all move (listed y.state (form_of f x.type y.type) (place us)))

    abbrev ProductGoes : Bool → List Word → Got Side → Type 0
    ProductGoes b us s = (tight : Bool) (S : Scope) (K : List TypeLevel) (x : Found) → Follows move (good (cond b (ask_side (at tight S K) product true x us) (arrow_from (at tight S K) x us))) (joined (λ τ t. go S τ t) x s.value) (λ y. good (arrow_from (at tight S K) y s.rest))

    product-goes : (m : ℕ) (us : List Word) → On (ProductGoes (is times us) us) (product_at (λ vs. type_at m true vs) us)
    product-goes m us = by (is times us)
      where
        by : (b : Bool) → On (ProductGoes b us) (cond b (side_at (λ vs. type_at m true vs) product us) (got nothing us))
        by true = side-goes m product true us
        by false = λ tight S K x. follows_now move refl

    abbrev ArrowGoes : Bool → List Word → Got Side → Type 0
    ArrowGoes tight us s = (S : Scope) (K : List TypeLevel) (x : Found) → Follows move (good (arrow_from (at tight S K) x us)) (joined (λ τ t. go S τ t) x s.value) (λ y. good (type_done (at tight S K) y s.rest))

    arrow-goes : (m : ℕ) (tight : Bool) (us : List Word) → On (ArrowGoes tight us) (cond tight (got nothing us) (arrow_at (λ vs. type_at m false vs) us))
    arrow-goes m true us = λ S K x. follows_now move refl
    arrow-goes m false us = by (is arrow us) (is linear us)
      where
        P : Bool → Bool → Got Side → Type 0
        P b c s = (S : Scope) (K : List TypeLevel) (x : Found) → Follows move (good (cond b (ask_side (at false S K) Trees.arrow false x us) (cond c (ask_side (at false S K) Trees.linear false x us) (type_done (at false S K) x us)))) (joined (λ τ t. go S τ t) x s.value) (λ y. good (type_done (at false S K) y s.rest))

        by : (b c : Bool) → On (P b c) (cond b (side_at (λ vs. type_at m false vs) Trees.arrow us) (cond c (side_at (λ vs. type_at m false vs) Trees.linear us) (got nothing us)))
        by true c = on_map (SideGoes Trees.arrow false us) (P true c) (side_at (λ vs. type_at m false vs) Trees.arrow us) (side-goes m Trees.arrow false us) λ s G. G false
        by false true = on_map (SideGoes Trees.linear false us) (P false true) (side_at (λ vs. type_at m false vs) Trees.linear us) (side-goes m Trees.linear false us) λ s G. G false
        by false false = λ S K x. follows_now move refl

    -- ---- names

    -- the first argument of a list is wanted: all are worked out, and then the definition is put in
    abbrev ListGoes : List Word → Got (List TypeTree) → Type 0
    ListGoes vs g = (given : List ℕ) (x : Bound) (tight : Bool) (S : Scope) (K : List TypeLevel) (σ : State) → Follows move (ask_argument (at tight S K) σ x given vs) (found_all go S x.place (length given) σ (types_of g.value)) (λ xs. need (is endSquare g.rest) 32 (place g.rest) >>= λ _. type_put_in X bodies (at tight S K) xs.state x (in_order_lem given xs.types) (behind g.rest))

    list-goes : (m rounds : ℕ) (vs : List Word) → On (ListGoes vs) (list_from (λ us. type_at m false us) rounds vs)
    list-goes m zero vs = tt
    list-goes m (suc rounds) vs = on_step (TypeGoes more false vs) (ListGoes vs) (type_at m false vs) _ (below m false vs) λ t G. by t G (is comma t.rest) refl (list-goes m rounds (behind t.rest))
      where
        by : (t : Got TypeTree) → TypeGoes more false vs t → (b : Bool) → is comma t.rest ≡ b → On (ListGoes (behind t.rest)) (list_from (λ us. type_at m false us) rounds (behind t.rest)) → On (ListGoes vs) (cond b (list_from (λ us. type_at m false us) rounds (behind t.rest) >>= λ xs. got (t.value ∷ xs.value) xs.rest) (got (t.value ∷ []) t.rest))
        by t G true e h = on_step (ListGoes (behind t.rest)) (ListGoes vs) (list_from (λ us. type_at m false us) rounds (behind t.rest)) (λ xs. got (t.value ∷ xs.value) xs.rest) h λ xs L given x tight S K σ.
            follows_same move (room_for S (suc (length given)) x.place) λ _.
            follows_then move (go (waiting S (length given)) σ t.value) (λ y. found_all go S x.place (suc (length given)) y.state (types_of xs.value) >>= λ ys. good (record { types = y.type ∷ ys.types; state = ys.state })) (G (waiting S (length given)) σ (record { wish = argument x given; tight = tight; scope = S } ∷ K)) λ y.
            follows_step move (rw e (follows_then move (found_all go S x.place (suc (length given)) y.state (types_of xs.value)) (λ ys. good (record { types = y.type ∷ ys.types; state = ys.state })) (L (y.type ∷ given) x tight S K y.state) λ ys. follows_now move refl))
        by t G false e h = λ given x tight S K σ.
            follows_same move (room_for S (suc (length given)) x.place) λ _.
            follows_then move (go (waiting S (length given)) σ t.value) (λ y. found_all go S x.place (suc (length given)) y.state no_types >>= λ ys. good (record { types = y.type ∷ ys.types; state = ys.state })) (G (waiting S (length given)) σ (record { wish = argument x given; tight = tight; scope = S } ∷ K)) λ y.
            follows_step move (rw e (follows_now move refl))

    -- the arguments are there: a definition is put in
    put-goes :
        (us : List Word) (ks : Got (List Number)) → numbers_at us ≡ good ks
        → (x : Bound) (tight : Bool) (S : Scope) (K : List TypeLevel) (σ : State) (ts : List ℕ)
        → Follows move (type_put_in X bodies (at tight S K) σ x ts us) (numbers_in S x.place (length ts) ks.value >>= λ ns. clause_for (entries S) X.clauses (take S.seen X.clauses) 0 true x.name ts ns x.place >>= λ p. one_put σ p.cost x.place >>= λ σ₁. body_type go p.scope σ₁ p.body) (λ y. good (side_from (at tight S K) y ks.rest))
    put-goes us ks e x tight S K σ ts = rw e (
        follows_same move (numbers_in S x.place (length ts) ks.value) λ ns.
        follows_both move (λ (p : Put). BodyFound true (ws ns) p.body) (clause_for (entries S) X.clauses (take S.seen X.clauses) 0 true x.name ts ns x.place) (body-found (entries S) X.clauses true x.name ts ns x.place bodies (take S.seen X.clauses) 0 (read_take S.seen bodies X.clauses reads)) λ p f.
        follows_same move (one_put σ p.cost x.place) λ σ₁. body-goes (ws ns) p.body f p.scope σ₁)
      where
        ws : List ℕ → List Word
        ws ns = words_for bodies (take S.seen X.clauses) true x.name (length ts) ns

        body-goes : (vs : List Word) (b : Body) → BodyFound true vs b → (R : Scope) (τ : State) → Follows move (good (ask_type (at tight S K) (body ks.rest) false R τ vs)) (body_type go R τ b) (λ y. good (side_from (at tight S K) y ks.rest))
        body-goes vs (of_type t) (rest', f) R τ = follows_to move (go R τ t) (on_good (TypeGoes more false vs) _ _ (below most_nested false vs) f R τ (record { wish = body ks.rest; tight = tight; scope = S } ∷ K)) λ y. follows_step move (follows_now move refl)
        body-goes vs (of_term e) f R τ = absurd f

    -- ---- atoms

    abbrev AtomGoes : Token → List Word → Got TypeAtom → Type 0
    AtomGoes k ws a = (tight : Bool) (S : Scope) (K : List TypeLevel) (σ : State) → Follows move (type_entered X bodies (at tight S K) σ k ws) (atom_type X S go (body_type go) σ a.value) (λ y. good (side_from (at tight S K) y a.rest))

    -- a name, whose types are read: so it goes with the numbers that are read behind them
    abbrev NameGoes : Name → List Word → Got TypeTrees → Type 0
    NameGoes n ws ts = (ks : Got (List Number)) → numbers_at ts.rest ≡ good ks → AtomGoes (name n) ws (record { value = typeNamed (place ws) n ts.value ks.value; rest = ks.rest })

    name-goes : (m : ℕ) (n : Name) (ws : List Word) → On (NameGoes n ws) (arguments_at (λ us. type_at m false us) (behind ws))
    name-goes m n ws = by (is square us) refl
      where
        us : List Word
        us = behind ws

        x : Bound
        x = record { name = n; place = place ws }

        -- without types: a parameter of the definition, or a definition
        by-curly :
            (c : Bool) (ks : Got (List Number)) (tight : Bool) (S : Scope) (K : List TypeLevel) (σ : State)
            → Numbers c us ks
            → Follows move (type_put_in X bodies (at tight S K) σ x [] us) (put_in X true S go (body_type go) σ (place ws) n no_types ks.value) (λ y. good (side_from (at tight S K) y ks.rest))
            → Follows move (cond c (type_put_in X bodies (at tight S K) σ x [] us) (lookup n S.types 0 (λ i v. good (side_from (at tight S K) (record { type = v; state = σ }) us)) (type_put_in X bodies (at tight S K) σ x [] us))) (atom_type X S go (body_type go) σ (typeNamed (place ws) n no_types ks.value)) (λ y. good (side_from (at tight S K) y ks.rest))
        by-curly true ks tight S K σ q h = rw q h
        by-curly false ks tight S K σ q h = rw q.0 (lookup-both (λ (p : Answer Typing) (r : Answer Found). Follows move p r (λ y. good (side_from (at tight S K) y ks.rest))) n S.types 0 (λ j v. follows_now move (ap (λ (vs : List Word). good (side_from (at tight S K) (record { type = v; state = σ }) vs)) q.1)) h)

        read : Answer (Got (List TypeTree))
        read = list_from (λ vs. type_at m false vs) (length us) (behind us)

        by : (b : Bool) → is square (behind ws) ≡ b → On (NameGoes n ws) (cond b (read >>= λ ts. expect endSquare ts.rest >>= λ after. got (types_of ts.value) after) (got no_types us))
        by true e = on_step (λ (g : Got (List TypeTree)). ListGoes (behind us) g × Some g.value) (NameGoes n ws) read (λ ts. expect endSquare ts.rest >>= λ after. got (types_of ts.value) after) (on_pair (ListGoes (behind us)) (λ (g : Got (List TypeTree)). Some g.value) read (list-goes m (length us) (behind us)) (list_some (λ vs. type_at m false vs) (length us) (behind us))) λ ts (L, some).
            on_expected (NameGoes n ws) endSquare ts.rest (λ after. got (types_of ts.value) after) λ q ks f tight S K σ.
            rw (e, some_arguments ts.value some ks.value) (follows_then move (found_all go S (place ws) 0 σ (types_of ts.value)) (λ xs. numbers_in S (place ws) (length xs.types) ks.value >>= λ ns. clause_for (entries S) X.clauses (take S.seen X.clauses) 0 true n xs.types ns (place ws) >>= λ p. one_put xs.state p.cost (place ws) >>= λ σ₁. body_type go p.scope σ₁ p.body) (L [] x tight S K σ) λ xs. rw q (put-goes (behind ts.rest) ks f x tight S K xs.state xs.types))
        by false e = λ ks f tight S K σ. rw e (by-curly (is curly us) ks tight S K σ (on_good (Numbers (is curly us) us) (numbers_at us) ks (numbers-read us) f) (put-goes us ks f x tight S K σ []))

    ones-goes : (k : ℕ) (ws : List Word) → On (AtomGoes (number k) ws) (ones_at (behind ws))
    ones-goes k ws = by (is power us) refl
      where
        us : List Word
        us = behind ws

        by : (b : Bool) → is power (behind ws) ≡ b → On (AtomGoes (number k) ws) (cond b (number_at (behind us) >>= λ n. got (ones (place us) n.value) n.rest) (got one us))
        by true e = on_is (AtomGoes (number k) ws) (number_at (behind us)) (λ n. got (ones (place us) n.value) n.rest) λ n f tight S K σ. rw (e, f) (follows_same move (number_of S.numbers n.value) λ i. follows_all move (ones_of (place us) n.value.place i σ))
        by false e = λ tight S K σ. rw e (follows_now move refl)

    atom-goes : (m : ℕ) (k : Token) (ws : List Word) → On (AtomGoes k ws) (type_atom_of (λ us. type_at m false us) k ws)
    atom-goes m (sign o) ws =
        on_test (AtomGoes (sign o) ws) (is_token round (sign o)) 32 (place ws) _ λ r.
        on_step (TypeGoes more false (behind ws)) (AtomGoes (sign o) ws) (type_at m false (behind ws)) (λ t. expect endRound t.rest >>= λ after. got (inside t.value) after) (below m false (behind ws)) λ t G.
        on_expected (AtomGoes (sign o) ws) endRound t.rest (λ after. got (inside t.value) after) λ q tight S K σ.
        rw (T-is (is_token round (sign o)) r) (follows_to move (go S σ t.value) (G S σ (record { wish = enclosed; tight = tight; scope = S } ∷ K)) λ y. follows_step move (rw q (follows_now move refl)))
    atom-goes m (part p) ws = tt
    atom-goes m (number k) ws = on_any (AtomGoes (number k) ws) (need (eqb k 1) 32 (place ws)) _ λ _. ones-goes k ws
    atom-goes m (name n) ws =
        on_step (NameGoes n ws) (AtomGoes (name n) ws) (arguments_at (λ us. type_at m false us) (behind ws)) _ (name-goes m n ws) λ ts N.
        on_is (AtomGoes (name n) ws) (numbers_at ts.rest) (λ ks. got (typeNamed (place ws) n ts.value ks.value) ks.rest) λ ks f. N ks f

    level-goes : (m : ℕ) (tight : Bool) (ws : List Word) → On (TypeGoes (suc more) tight ws) (type_at m tight ws)
    level-goes zero tight ws = tt
    level-goes (suc m) tight ws =
        on_step (AtomGoes (peek ws).token ws) (TypeGoes (suc more) tight ws) (type_atom_of (λ us. type_at m false us) (peek ws).token ws) _ (atom-goes m (peek ws).token ws) λ a A.
        on_step (ProductGoes (is times a.rest) a.rest) (TypeGoes (suc more) tight ws) (product_at (λ us. type_at m true us) a.rest) _ (product-goes m a.rest) λ b P.
        on_step (ArrowGoes tight b.rest) (TypeGoes (suc more) tight ws) (cond tight (got nothing b.rest) (arrow_at (λ us. type_at m false us) b.rest)) _ (arrow-goes m tight b.rest) λ c C S σ K.
        follows_step move (follows_then move (atom_type X S go (body_type go) σ a.value) (λ x. joined (λ τ t. go S τ t) x b.value >>= λ y. joined (λ τ t. go S τ t) y c.value) (A tight S K σ) λ x. follows_then move (joined (λ τ t. go S τ t) x b.value) (λ y. joined (λ τ t. go S τ t) y c.value) (P tight S K x) λ y. C S K y)

  pub type_goes : (more m : ℕ) (tight : Bool) (ws : List Word) → On (TypeGoes more tight ws) (type_at m tight ws)
  type_goes zero m tight ws = none_left m tight ws
  type_goes (suc more) m tight ws = level-goes more (type_goes more) m tight ws

-- where the grammar reads a tree from the words, the machine started at them does what `type_of` does to the tree: it gets to the type that
-- `type_of` gives, before the words behind the tree, or refuses as `type_of` does
pub machine-types :
    (X : Text) (bodies : List (List Word)) → AllRead bodies X.clauses
    → (m more : ℕ) (tight : Bool) (ws : List Word) (g : Got TypeTree) → type_at m tight ws ≡ good g
    → (S : Scope) (σ : State) (K : List TypeLevel) → (n : ℕ) × Runs (type_move X bodies) n (wanted more tight S σ ws K) (type_of X more S σ g.value >>= λ x. good (came more x g.rest K))
machine-types X bodies reads m more tight ws g e S σ K =
    let f = on_good (TypeGoes X bodies reads more tight ws) (type_at m tight ws) g (type_goes X bodies reads more m tight ws) e S σ K in
    (f.steps, f.lead)
