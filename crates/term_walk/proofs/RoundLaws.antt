-- One step from each kind of state, and the run of the loop. Assumes nothing.
use Prim.Native.Nat.{ℕ, zero, suc, ◌+◌, ◌-◌, ◌≤◌, ◌<◌}
use mathlib.Core.Path.{◌≡◌, refl, sym, ap, subst, ◌∙◌}
use mathlib.Core.Bool.{true, false}
use mathlib.Core.List.{List, [], ◌∷◌}
use native.Mathlib.Omega.{arith}
use borrow.Author.Tests.{eq-eqb, ne_eqb}
use lib.ListN.{length}
use Rattle.std.specs.Prelude.{Option, None, Result, Ok, Err}
use Rattle.answers.specs.declared.Refusal.{Refusal}
use Rattle.answers.specs.declared.Reason.{Reason}
use Rattle.answers.specs.Refusals.{said_why, refusal_at}
use Rattle.calculus.specs.Answer.{Answer, good, refused, numbered, ◌>>=◌}
use Rattle.calculus.proofs.Answers.{refused≢good, refused-inj, good-inj}
use Rattle.notation_calculus.specs.Words.{Sign, sign_code, fun, fix, lets, Word}
use Rattle.notation_calculus.specs.Trees.{Tree, Text}
use Rattle.notation_calculus.specs.Grammar.{most_nested, Got, peek, behind, place, is, term_at}
use Rattle.notation_calculus.specs.Making.{State, Scope, Made, most_entries, term_of}
use Rattle.notation_theorems.proofs.Answering.{on_good}
use Rattle.notation_machine.specs.Walked.{Runs}
use Rattle.notation_machine.specs.TermMachine.{none, TermLevel, Terming, wanted_term, came_term, applying, TermHere, atom_entered, let_from, term_entered, term_left, term_move}
use Rattle.notation_machine.specs.TermSteps.{term_steps, TermGoing}
use Rattle.notation_machine.proofs.Running.{runs_on, runs_refused, runs-stay}
use Rattle.notation_machine.proofs.Terms.{machine_terms}
use Rattle.notation_machine.proofs.TermFalls.{term_start_lem, term_falls}
use Rattle.words.specs.Lexed.{from}
use Rattle.words.specs.declared.Word as code-word
use Rattle.grammar.proofs.EndLaws.{token_is}
use Rattle.making_memory.specs.Map.{making_size}
use Rattle.made_nodes.specs.declared.Sub.{Sub}
use Rattle.scopes.specs.Frames.{frame_in}
use Rattle.walk_levels.specs.declared.Level.{Level}
use Rattle.walk_levels.specs.declared.Around.{Around}
use Rattle.walk_levels.specs.Levels.{level_in, scope_in}
use Rattle.walks.specs.Walkable.{Walkable}
use Rattle.walks.specs.Walked.{TermsWalked}
use Rattle.made_nodes.specs.Held.{MadeIn}
use Rattle.walks.specs.Says.{CanTerm, TermSays}
use Rattle.walks.proofs.Kept.{terms_walked_none, terms_walked_then, bodies_on_terms, rows-read, held-short, words-few}
use Rattle.term_walk.specs.declared.Walk.{Walk}
use Rattle.term_walk.specs.declared.Phase.{Phase}
use Rattle.term_walk.specs.declared.Left.{Left}
use Rattle.term_walk.specs.Looks.{words_at, ReadableFrom, Looks}
use Rattle.term_walk.specs.Holding.{LevelWrites, FunctionHeld, LeftHeld, entries_of, halves_for, HereHeld, TermCame, CameHere, HoldsTerming}
use Rattle.term_walk.specs.Steps.{StepAnswers, term_here_with, bodies_in, LevelEntry, CanEnter, EnterSays, function_entry, fix_entry, let_entry, atom_entry, AtomSays, CanNames, CanLeave, LeaveSays, CanApplication, ApplicationSays, CanMoveTerm, StepSays}
use Rattle.term_walk.proofs.LookLaws.{words-lexed}
use Rattle.term_walk.proofs.HoldLaws.{levels_within}

-- ---- a word that was looked at

module _ (text : List ℕ) (at : ℕ) (v : code-word.Word) (looks : Looks text at v) where
  pub look_yes : (t : Sign) → v.kind ≡ sign_code t → is t (words_at text at) ≡ true
  look_yes t e = token_is t (peek (words_at text at)).token ∙ eq-eqb _ _ (sym e ∙ looks.code)

  pub look_no : (t : Sign) → ¬ (v.kind ≡ sign_code t) → is t (words_at text at) ≡ false
  look_no t e = token_is t (peek (words_at text at)).token ∙ ne_eqb _ _ (λ q. e (looks.code ∙ sym q))

-- what a level writes is nothing above the walk
pub step-walked : (text : List ℕ) (X : Text) (most bottom : ℕ) (w w' : List ℕ) (h : Walk) (S : Scope) (σ : State) (K : List TermLevel) → HereHeld text X most bottom w h S σ K → LevelWrites h.more h.top h.waiting w w' → TermsWalked most bottom w w'
step-walked text X most bottom w w' h S σ K g st =
    let b = levels_within text X most bottom w σ h.more h.top h.waiting K g.levels in
    terms_walked_then h.more most most h.top bottom bottom w w' w' b.0 (omega arith) b.1 (omega arith) st.walked (terms_walked_none most bottom w')

-- ---- phases

abbrev which : Phase → ℕ
which Phase.Wanted = 0
which Phase.Came = 1
which Phase.Applying = 2

-- a walk is in one phase
same_phase : {p q r : Phase} → p ≡ q → p ≡ r → which q ≡ which r
same_phase e f = sym (ap which e) ∙ ap which f

-- ---- a term is wanted

module _ (text w : List ℕ) (h : Walk) (z : h.phase ≡ Phase.Wanted) where
  abbrev ws : List Word
  ws = words_at text h.at

  pub enter-none : h.more ≡ 0 → (v : code-word.Word) → Looks text h.at v → StepSays text w h (Err (refusal_at Reason.TextLimit v.start)) w
  enter-none e v looks = record { says = by }
    where
      by : (X : Text) (most bottom : ℕ) (s : Terming) → HoldsTerming text X most bottom w h s → TermGoing s → TermsWalked most bottom w w × StepAnswers text X most bottom w (Err (refusal_at Reason.TextLimit v.start)) (term_move X (bodies_in text w X) s)
      by X most bottom (wanted_term zero S σ us K) (p, m, a, g) o = (terms_walked_none most bottom w, ap (numbered 34) (ap place a.is ∙ sym looks.place))
      by X most bottom (wanted_term (suc k) S σ us K) (p, m, a, g) o = absurd (omega (arith, m, e))
      by X most bottom (came_term more m us K) hh o = absurd (omega (arith, same_phase hh.0 z))
      by X most bottom (applying more S at f us K) hh o = absurd (omega (arith, same_phase hh.0 z))

  pub enter_by : ¬ (h.more ≡ 0) → (D : LevelEntry) → ((X : Text) (bodies : List (List Word)) (h' : TermHere) (σ : State) → term_entered X bodies h' σ ws ≡ D X bodies h' σ) → (r : Result Walk Refusal) (w' : List ℕ) → EnterSays text w h D r w' → StepSays text w h r w'
  enter_by e D is-entered r w' E = record { says = by }
    where
      by : (X : Text) (most bottom : ℕ) (s : Terming) → HoldsTerming text X most bottom w h s → TermGoing s → TermsWalked most bottom w w' × StepAnswers text X most bottom w' r (term_move X (bodies_in text w X) s)
      by X most bottom (wanted_term zero S σ us K) (p, m, a, g) o = absurd (e m)
      by X most bottom (wanted_term (suc k) S σ us K) (p, m, a, g) o = (step-walked text X most bottom w w' h S σ K g E.stepped, subst (λ (q : Answer Terming). StepAnswers text X most bottom w' r q) (sym (ap (term_entered X (bodies_in text w X) (term_here_with k S K) σ) a.is ∙ is-entered X (bodies_in text w X) (term_here_with k S K) σ)) (E.says X most bottom k S σ K m g))
      by X most bottom (came_term more m us K) hh o = absurd (omega (arith, same_phase hh.0 z))
      by X most bottom (applying more S at f us K) hh o = absurd (omega (arith, same_phase hh.0 z))

  -- the level can be entered
  pub can_enter : CanMoveTerm text w h → ¬ (h.more ≡ 0) → CanEnter text w h
  can_enter C e = by C.s C.holds
    where
      by : (s : Terming) → HoldsTerming text C.X C.most C.bottom w h s → CanEnter text w h
      by (wanted_term zero S σ us K) (p, m, a, g) = absurd (e m)
      by (wanted_term (suc k) S σ us K) (p, m, a, g) = record { X = C.X; most = C.most; bottom = C.bottom; k = k; S = S; σ = σ; K = K; is = m; here = g }
      by (came_term more m us K) hh = absurd (omega (arith, same_phase hh.0 z))
      by (applying more S at f us K) hh = absurd (omega (arith, same_phase hh.0 z))

  module _ (v : code-word.Word) (looks : Looks text h.at v) where
    pub entered-function : v.kind ≡ 1 → (X : Text) (bodies : List (List Word)) (h' : TermHere) (σ : State) → term_entered X bodies h' σ ws ≡ function_entry text h.at X bodies h' σ
    entered-function e X bodies h' σ = rw (look_yes text h.at v looks fun e) refl

    pub entered-fix : ¬ (v.kind ≡ 1) → v.kind ≡ 2 → (X : Text) (bodies : List (List Word)) (h' : TermHere) (σ : State) → term_entered X bodies h' σ ws ≡ fix_entry text h.at X bodies h' σ
    entered-fix a e X bodies h' σ = rw (look_no text h.at v looks fun a, look_yes text h.at v looks fix e) refl

    pub entered-let : ¬ (v.kind ≡ 1) → ¬ (v.kind ≡ 2) → v.kind ≡ 3 → (X : Text) (bodies : List (List Word)) (h' : TermHere) (σ : State) → term_entered X bodies h' σ ws ≡ let_entry text v.start v.end X bodies h' σ
    entered-let a b e X bodies h' σ = rw (look_no text h.at v looks fun a, look_no text h.at v looks fix b, look_yes text h.at v looks lets e) (ap (λ (n : ℕ). let_from X bodies h' σ n (behind ws)) (sym looks.place) ∙ ap (let_from X bodies h' σ v.start) (looks.rest ∙ words-lexed text v.end (looks.onward (λ q. absurd (omega (arith, e, q))))))

    -- .. an application
    abbrev spineEntry : LevelEntry
    spineEntry X bodies h' σ = atom_entered X bodies h' (record { place = place ws; function = none }) σ (peek ws).token ws

    pub entered-atom : ¬ (v.kind ≡ 1) → ¬ (v.kind ≡ 2) → ¬ (v.kind ≡ 3) → (X : Text) (bodies : List (List Word)) (h' : TermHere) (σ : State) → term_entered X bodies h' σ ws ≡ spineEntry X bodies h' σ
    entered-atom a b c X bodies h' σ = rw (look_no text h.at v looks fun a, look_no text h.at v looks fix b, look_no text h.at v looks lets c) refl

    pub left-first : (s : Left) → s.function ≡ None → s.place ≡ v.start → LeftHeld w s (record { place = place ws; function = none })
    left-first s f p = record { place = p ∙ looks.place; function = subst (λ (g : Option Sub). FunctionHeld w g none) (sym f) tt }

    pub enter-atom : (s : Left) → s.function ≡ None → s.place ≡ v.start → (r : Result Walk Refusal) (w' : List ℕ) → AtomSays text w h s (atom_entry text h.at) r w' → EnterSays text w h spineEntry r w'
    enter-atom s f p r w' A = record { stepped = A.stepped; says = λ X most bottom k S σ K c g. A.says X most bottom k S σ K (record { place = place ws; function = none }) c g (left-first s f p) }

    -- the words behind the level's first word
    pub names-behind : ¬ (v.kind ≡ 0) → CanNames text h v.start v.end
    names-behind n =
        let o = looks.onward n in
        let q = looks.rest ∙ words-lexed text v.end o in
        record { place = looks.place; inside = looks.inside; lexed = o; rest = q; fewer = omega (arith, looks.fewer n, ap length q) }

-- ---- a term came

module _ (text w : List ℕ) (n : Walk) (z : n.phase ≡ Phase.Came) where
  -- the level that waits
  abbrev level_of : ℕ → Walk
  level_of j = record { phase = Phase.Came; more = j; frame = (scope_in w j).frame; top = (scope_in w j).top; waiting = (scope_in w j).waiting; place = 0; sub = n.sub; at = n.at }

  level-here : (X : Text) (most bottom : ℕ) (m : Made) (l : TermLevel) (K : List TermLevel) → CameHere text X most bottom w n m (l ∷ K) → HereHeld text X most bottom w (level_of (suc n.more)) l.scope m.state K
  level-here X most bottom m l K c = let g = c.here.levels in record { scope = g.0.scope; few = omega (arith, g.0.halves, c.here.few); levels = g.1; nested = c.here.nested }

  level-came : (X : Text) (most bottom : ℕ) (m : Made) (l : TermLevel) (K : List TermLevel) → CameHere text X most bottom w n m (l ∷ K) → TermCame w n.sub ((scope_in w (suc n.more)).waiting + halves_for l.wish) m
  level-came X most bottom m l K c = record { term = c.came.term; few = omega (arith, c.here.levels.0.halves, c.came.few) }

  level-entries : (X : Text) (most bottom : ℕ) (m : Made) (l : TermLevel) (K : List TermLevel) → CameHere text X most bottom w n m (l ∷ K) → (scope_in w (suc n.more)).top + entries_of l.wish ≤ most_entries
  level-entries X most bottom m l K c = omega (arith, c.here.levels.0.entries, c.here.scope.walkable.scope.places.most)

  pub can_leave : (j : ℕ) → j ≡ suc n.more → CanMoveTerm text w n → CanLeave text w (level_of j) (level_in w j) n.sub
  can_leave j e C = subst (λ (i : ℕ). CanLeave text w (level_of i) (level_in w i) n.sub) (sym e) (by C.s C.holds C.going)
    where
      by : (s : Terming) → HoldsTerming text C.X C.most C.bottom w n s → TermGoing s → CanLeave text w (level_of (suc n.more)) (level_in w (suc n.more)) n.sub
      by (wanted_term more S σ us K) hh o = absurd (omega (arith, same_phase hh.0 z))
      by (applying more S at f us K) hh o = absurd (omega (arith, same_phase hh.0 z))
      by (came_term more m us []) hh o = absurd o
      by (came_term more m us (l ∷ K)) (p, q, a, c) o = record {
        X = C.X;
        most = C.most;
        bottom = C.bottom;
        k = n.more;
        S = l.scope;
        K = K;
        wish = l.wish;
        m = m;
        is = refl;
        here = level-here C.X C.most C.bottom m l K c;
        held = c.here.levels.0.wish;
        entries = level-entries C.X C.most C.bottom m l K c;
        came = level-came C.X C.most C.bottom m l K c;
        readable = a.readable;
      }

  -- there is a level for it in the memory
  pub level_room : CanMoveTerm text w n → (n.more + 1 ≤ 80) × (making_size ≤ length w)
  level_room C = by C.s C.holds C.going
    where
      by : (s : Terming) → HoldsTerming text C.X C.most C.bottom w n s → TermGoing s → (n.more + 1 ≤ 80) × (making_size ≤ length w)
      by (wanted_term more S σ us K) hh o = absurd (omega (arith, same_phase hh.0 z))
      by (applying more S at f us K) hh o = absurd (omega (arith, same_phase hh.0 z))
      by (came_term more m us []) hh o = absurd o
      by (came_term more m us (l ∷ K)) (p, q, a, c) o = (omega (arith, c.here.levels.0.within, c.here.nested), c.here.scope.walkable.room)

  pub leave_says : (j : ℕ) → j ≡ suc n.more → (r : Result Walk Refusal) (w' : List ℕ) → LeaveSays text w (level_of j) (level_in w j) n.sub r w' → StepSays text w n r w'
  leave_says j e r w' L' = record { says = by }
    where
      L : LeaveSays text w (level_of (suc n.more)) (level_in w (suc n.more)) n.sub r w'
      L = subst (λ (i : ℕ). LeaveSays text w (level_of i) (level_in w i) n.sub r w') e L'

      by : (X : Text) (most bottom : ℕ) (s : Terming) → HoldsTerming text X most bottom w n s → TermGoing s → TermsWalked most bottom w w' × StepAnswers text X most bottom w' r (term_move X (bodies_in text w X) s)
      by X most bottom (wanted_term more S σ us K) hh o = absurd (omega (arith, same_phase hh.0 z))
      by X most bottom (applying more S at f us K) hh o = absurd (omega (arith, same_phase hh.0 z))
      by X most bottom (came_term more m us []) hh o = absurd o
      by X most bottom (came_term more m us (l ∷ K)) (p, q, a, c) o =
          let g = level-here X most bottom m l K c in
          (step-walked text X most bottom w w' (level_of (suc n.more)) l.scope m.state K g L.stepped, subst (λ (us : List Word). StepAnswers text X most bottom w' r (term_left X (bodies_in text w X) (term_here_with more l.scope K) l.wish m us)) (sym a.is) (subst (λ (i : ℕ). StepAnswers text X most bottom w' r (term_left X (bodies_in text w X) (term_here_with i l.scope K) l.wish m (words_at text n.at))) q (L.says X most bottom n.more l.scope K l.wish m refl g c.here.levels.0.wish (level-entries X most bottom m l K c) (level-came X most bottom m l K c) a.readable)))

  -- .. by what the code reads of it
  abbrev walk_by : ℕ → ℕ → ℕ → ℕ → Walk
  walk_by j frame top waiting = record { phase = Phase.Came; more = j; frame = frame; top = top; waiting = waiting; place = 0; sub = n.sub; at = n.at }

  module _ (j frame top waiting : ℕ) (l : Level) (a : Around) (e : j ≡ suc n.more) (el : l ≡ level_in w j) (ea : a ≡ scope_in w j) (ef : frame ≡ a.frame) (et : top ≡ a.top) (ew : waiting ≡ a.waiting) where
    walk_is : walk_by j frame top waiting ≡ level_of j
    walk_is = ap (λ (x : ℕ). walk_by j x top waiting) (ef ∙ ap (λ (b : Around). b.frame) ea) ∙ ap (λ (x : ℕ). walk_by j (scope_in w j).frame x waiting) (et ∙ ap (λ (b : Around). b.top) ea) ∙ ap (λ (x : ℕ). walk_by j (scope_in w j).frame (scope_in w j).top x) (ew ∙ ap (λ (b : Around). b.waiting) ea)

    pub can-leave-by : CanMoveTerm text w n → CanLeave text w (walk_by j frame top waiting) l n.sub
    can-leave-by C = subst (λ (x : Walk). CanLeave text w x l n.sub) (sym walk_is) (subst (λ (y : Level). CanLeave text w (level_of j) y n.sub) (sym el) (can_leave j e C))

    pub leave-says-by : (r : Result Walk Refusal) (w' : List ℕ) → LeaveSays text w (walk_by j frame top waiting) l n.sub r w' → StepSays text w n r w'
    leave-says-by r w' L = leave_says j e r w' (subst (λ (y : Level). LeaveSays text w (level_of j) y n.sub r w') el (subst (λ (x : Walk). LeaveSays text w x l n.sub r w') walk_is L))

-- ---- an application goes on

module _ (text w : List ℕ) (n : Walk) (z : n.phase ≡ Phase.Applying) where
  pub can_apply : CanMoveTerm text w n → CanApplication text w n
  can_apply C = by C.s C.holds
    where
      by : (s : Terming) → HoldsTerming text C.X C.most C.bottom w n s → CanApplication text w n
      by (wanted_term more S σ us K) hh = absurd (omega (arith, same_phase hh.0 z))
      by (came_term more m us K) hh = absurd (omega (arith, same_phase hh.0 z))
      by (applying more S at f us K) (p, m, a, q, g, t) = record { X = C.X; most = C.most; bottom = C.bottom; k = more; S = S; f = f; K = K; is = m; here = g; came = t; readable = a.readable }

  pub apply_says : (r : Result Walk Refusal) (w' : List ℕ) → ApplicationSays text w n r w' → StepSays text w n r w'
  apply_says r w' A = record { says = by }
    where
      by : (X : Text) (most bottom : ℕ) (s : Terming) → HoldsTerming text X most bottom w n s → TermGoing s → TermsWalked most bottom w w' × StepAnswers text X most bottom w' r (term_move X (bodies_in text w X) s)
      by X most bottom (wanted_term more S σ us K) hh o = absurd (omega (arith, same_phase hh.0 z))
      by X most bottom (came_term more m us K) hh o = absurd (omega (arith, same_phase hh.0 z))
      by X most bottom (applying more S at f us K) (p, m, a, q, g, t) o = (step-walked text X most bottom w w' n S f.state K g A.stepped, subst (λ (us : List Word). StepAnswers text X most bottom w' r (term_move X (bodies_in text w X) (applying more S at f us K))) (sym a.is) (subst (λ (i : ℕ). StepAnswers text X most bottom w' r (term_move X (bodies_in text w X) (applying more S i f (words_at text n.at) K))) q (A.says X most bottom more S f K m g t)))

-- ---- a state is at words that can be looked at

pub step-looks : (text w : List ℕ) (n : Walk) → CanMoveTerm text w n → ReadableFrom text n.at × (length text < 65536)
step-looks text w n C = by C.s C.holds
  where
    by : (s : Terming) → HoldsTerming text C.X C.most C.bottom w n s → ReadableFrom text n.at × (length text < 65536)
    by (wanted_term more S σ us K) (p, m, a, g) = (a.readable, omega (arith, g.scope.walkable.short))
    by (came_term more m us K) (p, q, a, c) = (a.readable, omega (arith, c.here.scope.walkable.short))
    by (applying more S at f us K) (p, m, a, q, g, t) = (a.readable, omega (arith, g.scope.walkable.short))

-- ---- the loop

abbrev ended : ℕ → List Word → Answer Made → Answer Terming
ended more us a = a >>= λ t. good (came_term more t us [])

-- a state that the memory holds, from which the machine runs to what the definition says, in so many steps at most
pub record Running (text w₀ : List ℕ) (X : Text) (more top : ℕ) (w : List ℕ) (n : Walk) (left : ℕ) (us : List Word) (a : Answer Made) : Type 0 where
  pub s : Terming
  pub steps : ℕ
  pub holds : HoldsTerming text X more top w n s
  pub runs : Runs (term_move X (bodies_in text w₀ X)) steps s (ended more us a)
  pub falls : suc (term_steps (length text + 1) s) ≤ left

pub record Rounds (text w₀ : List ℕ) (at more frame top : ℕ) (w : List ℕ) (n : Walk) (left : ℕ) : Type 0 where
  pub walked : TermsWalked more top w₀ w
  pub says : (X : Text) (S : Scope) (σ : State) (g : Got Tree) → Walkable text w₀ frame top X S σ → (frame_in w₀ frame).variables ≡ S.under → term_at most_nested (from text at) ≡ good g → Running text w₀ X more top w n left g.rest (term_of X more S σ g.value)

pub rounds-start : (text w : List ℕ) (at more frame top : ℕ) → CanTerm text w at more frame top → (x : Sub) → Rounds text w at more frame top w (record { phase = Phase.Wanted; more = more; frame = frame; top = top; waiting = 0; place = 0; sub = x; at = at }) 6442549247
rounds-start text w at more frame top C x = record {
  walked = terms_walked_none more top w;
  says = λ X S σ g W v e.
      let q = machine_terms X (bodies_in text w X) (rows-read text w X.clauses W.clauses.rows) most_nested more (from text at) g (omega arith) e S σ [] in
      record {
        s = wanted_term more S σ (from text at) [];
        steps = q.0;
        holds = (refl, refl, record { is = sym (words-lexed text at C.lexed); readable = λ _. C.lexed }, record { scope = record { walkable = W; above = C.above; variables = v }; few = omega arith; levels = (refl, omega arith); nested = C.levels });
        runs = q.1;
        falls = omega (arith, term_start_lem (length text + 1) more S σ (from text at) (words-few text at C.lexed), W.short);
      };
}

-- a state with no level above it is the end
came-made : (more j : ℕ) (us vs : List Word) (m : Made) (a : Answer Made) → ended more us a ≡ good (came_term j m vs []) → a ≡ good m
came-made more j us vs m (good t) e = cc
came-made more j us vs m (refused why) e = absurd (refused≢good e)

-- the first step of a run from a state that goes on
module _ {M : Type 0} (move : M → Answer M) where
  run-first : (n : ℕ) (s : M) (a : Answer M) → Runs move n s a → (a ≡ good s → ⊥) → (k : ℕ) × (n ≡ suc k)
  run-first zero s a r g = absurd (g (sym r))
  run-first (suc k) s a r g = (k, refl)

not_ended : (s : Terming) → TermGoing s → (more : ℕ) (us : List Word) (a : Answer Made) → ended more us a ≡ good s → ⊥
not_ended s g more us (refused why) e = refused≢good e
not_ended s g more us (good t) e = subst TermGoing (sym (good-inj e)) g

module _ (text w₀ : List ℕ) (at more frame top : ℕ) (C : CanTerm text w₀ at more frame top) (w : List ℕ) (n : Walk) (left : ℕ) (R : Rounds text w₀ at more frame top w n left) where
  abbrev here : Running text w₀ C.walk.X more top w n left C.tree.rest (term_of C.walk.X more C.walk.S C.walk.σ C.tree.value)
  here = R.says C.walk.X C.walk.S C.walk.σ C.tree C.walk.walkable C.variables C.reads

  -- the walk is done
  pub rounds-done : n.phase ≡ Phase.Came → n.more ≡ more → TermSays text w₀ at more frame top (Ok n.sub) w
  rounds-done z e = record { walked = R.walked; says = λ X S σ g W v r. by X g.rest (term_of X more S σ g.value) (R.says X S σ g W v r) }
    where
      at-end : (X : Text) (us : List Word) (a : Answer Made) (steps : ℕ) (s : Terming) → HoldsTerming text X more top w n s → Runs (term_move X (bodies_in text w₀ X)) steps s (ended more us a) → MadeIn w (Ok n.sub) a
      at-end X us a steps (wanted_term j S σ vs K) hh r = absurd (omega (arith, same_phase hh.0 z))
      at-end X us a steps (applying j S b f vs K) hh r = absurd (omega (arith, same_phase hh.0 z))
      at-end X us a steps (came_term j m vs (l ∷ K)) (p, q, b, c) r = absurd (omega (arith, e, c.here.levels.0.within))
      at-end X us a steps (came_term j m vs []) (p, q, b, c) r = subst (MadeIn w (Ok n.sub)) (sym (came-made more j us vs m a (runs-stay (term_move X (bodies_in text w₀ X)) steps (came_term j m vs []) (ended more us a) refl r))) (c.here.scope.walkable.state, c.came.term)

      by : (X : Text) (us : List Word) (a : Answer Made) → Running text w₀ X more top w n left us a → MadeIn w (Ok n.sub) a
      by X us a q = at-end X us a q.steps q.s q.holds q.runs

  -- the walk goes on
  going-by : (X : Text) (s : Terming) → HoldsTerming text X more top w n s → (n.phase ≡ Phase.Came → ¬ (n.more ≡ more)) → TermGoing s
  going-by X (wanted_term j S σ vs K) h g = tt
  going-by X (applying j S b f vs K) h g = tt
  going-by X (came_term j m vs []) (p, q, b, c) g = g p c.here.levels.0
  going-by X (came_term j m vs (l ∷ K)) h g = tt

  module _ (goes : n.phase ≡ Phase.Came → ¬ (n.more ≡ more)) where
    pub rounds-step : CanMoveTerm text w n
    rounds-step = record { X = C.walk.X; most = more; bottom = top; s = here.s; holds = here.holds; going = going-by C.walk.X here.s here.holds goes }

    same-bodies : (X : Text) (S : Scope) (σ : State) → Walkable text w₀ frame top X S σ → bodies_in text w X ≡ bodies_in text w₀ X
    same-bodies X S σ W = bodies_on_terms more top text w₀ w R.walked 0 (length X.clauses) (omega (arith, W.clauses.rows.few))

    step-walks : (r : Result Walk Refusal) (w' : List ℕ) → StepSays text w n r w' → TermsWalked more top w₀ w'
    step-walks r w' P = terms_walked_then more more more top top top w₀ w w' (omega arith) (omega arith) (omega arith) (omega arith) R.walked (P.says C.walk.X more top here.s here.holds (going-by C.walk.X here.s here.holds goes)).0

    pub rounds-refused : (z : Refusal) (r : Result Walk Refusal) (w' : List ℕ) → r ≡ Err z → StepSays text w n r w' → TermSays text w₀ at more frame top (Err z) w'
    rounds-refused z r w' e P = record { walked = step-walks r w' P; says = λ X S σ g W y v. by X S σ W g.rest (term_of X more S σ g.value) (R.says X S σ g W y v) }
      where
        refuses : (X : Text) (m : Answer Terming) → StepAnswers text X more top w' (Err z) m → m ≡ refused (said_why z)
        refuses X (good s) i = absurd i
        refuses X (refused why) i = ap refused i

        out : (a : Answer Made) (us : List Word) → refused (said_why z) ≡ ended more us a → MadeIn w' (Err z) a
        out (good t) us i = absurd (refused≢good i)
        out (refused why) us i = sym (refused-inj i)

        by : (X : Text) (S : Scope) (σ : State) → Walkable text w₀ frame top X S σ → (us : List Word) (a : Answer Made) → Running text w₀ X more top w n left us a → MadeIn w' (Err z) a
        by X S σ W us a q =
            let g = going-by X q.s q.holds goes in
            let i = (P.says X more top q.s q.holds g).1 in
            let m = refuses X _ (subst (λ (y : Result Walk Refusal). StepAnswers text X more top w' y (term_move X (bodies_in text w X) q.s)) e i) in
            let b : term_move X (bodies_in text w₀ X) q.s ≡ refused (said_why z) = subst (λ (bs : List (List Word)). term_move X bs q.s ≡ refused (said_why z)) (same-bodies X S σ W) m in
            let f = run-first (term_move X (bodies_in text w₀ X)) q.steps q.s (ended more us a) q.runs (not_ended q.s g more us a) in
            out a us (runs_refused (term_move X (bodies_in text w₀ X)) f.0 q.s (ended more us a) (refused (said_why z)) b (subst (λ (k : ℕ). Runs (term_move X (bodies_in text w₀ X)) k q.s (ended more us a)) f.1 q.runs))

    pub rounds-on : (n' : Walk) (r : Result Walk Refusal) (w' : List ℕ) → r ≡ Ok n' → StepSays text w n r w' → Rounds text w₀ at more frame top w' n' (left - 1)
    rounds-on n' r w' e P = record { walked = step-walks r w' P; says = λ X S σ g W y z. by X S σ W g.rest (term_of X more S σ g.value) (R.says X S σ g W y z) }
      where
        next : (X : Text) (S : Scope) (σ : State) → Walkable text w₀ frame top X S σ → (us : List Word) (a : Answer Made) (q : Running text w₀ X more top w n left us a) → TermGoing q.s → (m : Answer Terming) → term_move X (bodies_in text w X) q.s ≡ m → StepAnswers text X more top w' (Ok n') m → Running text w₀ X more top w' n' (left - 1) us a
        next X S σ W us a q g (refused why) b i = absurd i
        next X S σ W us a q g (good t) b i =
            let same = same-bodies X S σ W in
            let b' : term_move X (bodies_in text w₀ X) q.s ≡ good t = subst (λ (bs : List (List Word)). term_move X bs q.s ≡ good t) same b in
            let f = run-first (term_move X (bodies_in text w₀ X)) q.steps q.s (ended more us a) q.runs (not_ended q.s g more us a) in
            let fall = on_good _ (term_move X (bodies_in text w₀ X) q.s) t (term_falls X (bodies_in text w₀ X) (length text + 1) (held-short text w₀ X.clauses W.clauses.rows) q.s g) b' in
            record {
              s = t;
              steps = f.0;
              holds = i;
              runs = runs_on (term_move X (bodies_in text w₀ X)) f.0 q.s t (ended more us a) b' (subst (λ (k : ℕ). Runs (term_move X (bodies_in text w₀ X)) k q.s (ended more us a)) f.1 q.runs);
              falls = omega (arith, fall, q.falls);
            }

        by : (X : Text) (S : Scope) (σ : State) → Walkable text w₀ frame top X S σ → (us : List Word) (a : Answer Made) → Running text w₀ X more top w n left us a → Running text w₀ X more top w' n' (left - 1) us a
        by X S σ W us a q =
            let g = going-by X q.s q.holds goes in
            next X S σ W us a q g (term_move X (bodies_in text w X) q.s) refl (subst (λ (y : Result Walk Refusal). StepAnswers text X more top w' y (term_move X (bodies_in text w X) q.s)) e (P.says X more top q.s q.holds g).1)

  -- the counter is never used up
  pub rounds-left : ¬ (left ≡ 0)
  rounds-left e = omega (arith, here.falls)
