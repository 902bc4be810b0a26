-- What a level does with the term that it waited for: one law for each way. Assumes nothing.
use Prim.Native.Nat.{ℕ, suc, ◌+◌, ◌-◌, ◌≤◌, ◌<◌}
use mathlib.Core.Path.{◌≡◌, refl, sym, ap, subst, ◌∙◌}
use mathlib.Core.Bool.{Bool, true, false, cond}
use mathlib.Core.List.{List, [], ◌∷◌}
use native.Mathlib.Omega.{arith}
use lib.Dec.{leb}
use borrow.Author.Tests.{le-leb}
use lib.ListN.{length}
use Rattle.std.specs.Prelude.{Result, Ok, Err}
use Rattle.answers.specs.declared.Refusal.{Refusal}
use Rattle.answers.specs.declared.Reason.{Reason}
use Rattle.answers.specs.Refusals.{said_why, refusal_at}
use Rattle.calculus.specs.Answer.{Answer, good, refused, numbered, need, ◌>>=◌}
use Rattle.calculus.specs.Types.{rec_at}
use Rattle.calculus.specs.Terms.{var}
use Rattle.calculus.specs.Terms as Terms
use Rattle.notation_theorems.proofs.Answering.{On, on_any, on_map}
use Rattle.notation_calculus.specs.Words.{comma, Word}
use Rattle.notation_calculus.specs.Trees.{Bound, Text}
use Rattle.notation_calculus.specs.Grammar.{behind, place}
use Rattle.notation_machine.specs.Lists.{head_at}
use Rattle.notation_calculus.specs.Making.{Entry, Scope, bind, halves_of, rest, with_variables, entries, most_entries, Made, node, functions_of, name_of}
use Rattle.notation_machine.specs.TermMachine.{Spine, Element, Taken, TermWish, of_function, of_fix, value_of_name, value_of_names, under_name, under_names, element, of_definition, TermLevel, Terming, ask_term, term_done, Apart, apart_from, pairs_of, projections, behind_atom, under_lists, term_left}
use Rattle.words.specs.Lexed.{from, Lexed}
use Rattle.words.specs.declared.Word as code-word
use Rattle.made_types.specs.Held.{HoldsState}
use Rattle.made_nodes.specs.Held.{TermHeld, MadeIn, SmallMade, MadeOnly, Workable}
use Rattle.made_nodes.specs.Forms.{FunctionsSay, FixSays, NamingSays}
use Rattle.made_nodes.proofs.Terms.{workable_on}
use Rattle.made_nodes.specs.declared.Sub.{Sub}
use Rattle.scopes.specs.Frames.{HoldsScope}
use Rattle.walk_levels.specs.declared.Level.{Level}
use Rattle.term_walk.specs.declared.Walk.{Walk}
use Rattle.term_walk.specs.declared.Left.{Left}
use Rattle.term_parts.specs.declared.halves.Half.{Half}
use Rattle.term_parts.specs.declared.apart.ApartEnd.{ApartEnd}
use Rattle.term_parts.specs.Names.{listed_names}
use Rattle.term_parts.specs.Halves.{InHalves, with_half, CanJoin, PairsSay, ProjectionsSay}
use Rattle.term_parts.specs.Parts.{NameBound, CanApart, ApartHeld, ApartAnswers, ApartSays}
use Rattle.term_walk.specs.Looks.{words_at, Looks}
use Rattle.term_walk.specs.Holding.{LevelWrites, LeftHeld, sub_in, left_by, entries_of, halves_for, WishHeld, HereHeld, TermCame}
use Rattle.term_walk.specs.Steps.{done_step, part_level, CanAskTerm, Below, Asks, StepAnswers, term_here_with, bodies_in, CanEnter, CanApply, CanApplyMade, BehindSays, MadeSays, CanBody, BodySays, under_lists_body, CanLeave, LeaveSays}
use Rattle.term_parts.proofs.Stay.{entries_state, half_long, half_state, parts_of_half, halves-put, can_join}
use Rattle.term_walk.proofs.LookLaws.{words-lexed}
use Rattle.term_walk.proofs.HoldLaws.{stepped_none, stepped_then, stepped_made, stepped_parts, stepped_entries, stepped_less, term_stays, left_stays, here_stays, here-now}
use Rattle.term_walk.proofs.StepLaws.{left_again, made-nodes, done_says, stepped_asks, asks-below, asked}
use Rattle.term_walk.proofs.AtomLaws.{here-room, here_workable, edition_in}
use Rattle.term_walk.proofs.RoundLaws.{look_yes, look_no}
use Rattle.term_walk.proofs.BinderLaws.{names-length}

-- ---- what a level that can be left has

module _ (text w : List ℕ) (h : Walk) (l : Level) (x : Sub) (C : CanLeave text w h l x) where
  pub leave_room : (h.top ≤ most_entries) × (h.waiting ≤ 2048) × (h.more ≤ 80)
  leave_room = here-room text C.X C.most C.bottom w h C.S C.m.state C.K C.here

  pub leave_workable : Workable w
  leave_workable = here_workable text C.X C.most C.bottom w h C.S C.m.state C.K C.here

  pub leave_type : x.ty < 256
  leave_type = omega (arith, C.came.term.known, leave_workable.few)

  pub leave_short : length text < 65536
  leave_short = omega (arith, C.here.scope.walkable.short)

  pub leave_enter : CanEnter text w h
  leave_enter = record { X = C.X; most = C.most; bottom = C.bottom; k = C.k; S = C.S; σ = C.m.state; K = C.K; is = C.is; here = C.here }

  pub function_facts : l.form ≡ 1 → (l.ty < 256) × (h.top + l.count ≤ 1024)
  function_facts form = by C.wish C.held C.entries C.came
    where
      by : (wish : TermWish) → WishHeld text w h.top h.waiting l wish → h.top + entries_of wish ≤ most_entries → TermCame w x (h.waiting + halves_for wish) C.m → (l.ty < 256) × (h.top + l.count ≤ 1024)
      by (of_fix y θ₀) hh en t = absurd (omega (arith, hh.0, form))
      by (value_of_name p y) hh en t = absurd (omega (arith, hh.0, form))
      by (value_of_names p xs us) hh en t = absurd (omega (arith, hh.0, form))
      by (under_name y v) hh en t = absurd (omega (arith, hh.0, form))
      by (under_names ps) hh en t = absurd (omega (arith, hh.0, form))
      by (element q before) hh en t = absurd (omega (arith, hh.0, form))
      by (of_definition q us) hh en t = absurd (omega (arith, hh.0, form))
      by (of_function xs θ₀) (f, n, y, kn, N) en t = (omega (arith, kn, y, leave_workable.few), omega (arith, en, n))

  pub fix_facts : l.form ≡ 2 → l.ty < 256
  fix_facts form = by C.wish C.held C.entries C.came
    where
      by : (wish : TermWish) → WishHeld text w h.top h.waiting l wish → h.top + entries_of wish ≤ most_entries → TermCame w x (h.waiting + halves_for wish) C.m → l.ty < 256
      by (of_function xs θ₀) hh en t = absurd (omega (arith, hh.0, form))
      by (value_of_name p y) hh en t = absurd (omega (arith, hh.0, form))
      by (value_of_names p xs us) hh en t = absurd (omega (arith, hh.0, form))
      by (under_name y v) hh en t = absurd (omega (arith, hh.0, form))
      by (under_names ps) hh en t = absurd (omega (arith, hh.0, form))
      by (element q before) hh en t = absurd (omega (arith, hh.0, form))
      by (of_definition q us) hh en t = absurd (omega (arith, hh.0, form))
      by (of_fix y θ₀) (f, p₂, y₂, kn) en t = omega (arith, kn, y₂, leave_workable.few)

  pub value_facts : l.form ≡ 3 → l.next ≤ length text
  value_facts form = by C.wish C.held C.entries C.came
    where
      by : (wish : TermWish) → WishHeld text w h.top h.waiting l wish → h.top + entries_of wish ≤ most_entries → TermCame w x (h.waiting + halves_for wish) C.m → l.next ≤ length text
      by (of_function xs θ₀) hh en t = absurd (omega (arith, hh.0, form))
      by (of_fix y θ₀) hh en t = absurd (omega (arith, hh.0, form))
      by (value_of_names p xs us) hh en t = absurd (omega (arith, hh.0, form))
      by (under_name y v) hh en t = absurd (omega (arith, hh.0, form))
      by (under_names ps) hh en t = absurd (omega (arith, hh.0, form))
      by (element q before) hh en t = absurd (omega (arith, hh.0, form))
      by (of_definition q us) hh en t = absurd (omega (arith, hh.0, form))
      by (value_of_name p y) (f, p₂, n₂, e₂, b) en t = b

  pub name_facts : l.form ≡ 5 → l.ty < 256
  name_facts form = by C.wish C.held C.entries C.came
    where
      by : (wish : TermWish) → WishHeld text w h.top h.waiting l wish → h.top + entries_of wish ≤ most_entries → TermCame w x (h.waiting + halves_for wish) C.m → l.ty < 256
      by (of_function xs θ₀) hh en t = absurd (omega (arith, hh.0, form))
      by (of_fix y θ₀) hh en t = absurd (omega (arith, hh.0, form))
      by (value_of_name p y) hh en t = absurd (omega (arith, hh.0, form))
      by (value_of_names p xs us) hh en t = absurd (omega (arith, hh.0, form))
      by (under_names ps) hh en t = absurd (omega (arith, hh.0, form))
      by (element q before) hh en t = absurd (omega (arith, hh.0, form))
      by (of_definition q us) hh en t = absurd (omega (arith, hh.0, form))
      by (under_name y v) (f, p, v') en t = omega (arith, v'.known, leave_workable.few)

  pub names_facts : l.form ≡ 6 → CanJoin w h.waiting l.count x
  names_facts form = by C.wish C.held C.entries C.came
    where
      by : (wish : TermWish) → WishHeld text w h.top h.waiting l wish → h.top + entries_of wish ≤ most_entries → TermCame w x (h.waiting + halves_for wish) C.m → CanJoin w h.waiting l.count x
      by (of_function xs θ₀) hh en t = absurd (omega (arith, hh.0, form))
      by (of_fix y θ₀) hh en t = absurd (omega (arith, hh.0, form))
      by (value_of_name p y) hh en t = absurd (omega (arith, hh.0, form))
      by (value_of_names p xs us) hh en t = absurd (omega (arith, hh.0, form))
      by (under_name y v) hh en t = absurd (omega (arith, hh.0, form))
      by (element q before) hh en t = absurd (omega (arith, hh.0, form))
      by (of_definition q us) hh en t = absurd (omega (arith, hh.0, form))
      by (under_names ps) (f, n, hs) en t = can_join _ _ w h.waiting l.count ps C.m.state x C.m (sym n) (omega (arith, t.few, n, C.here.scope.walkable.state.few)) C.here.scope.walkable.state t.term hs

  pub element_facts : l.form ≡ 7 → CanJoin w h.waiting l.count x × ((suc (h.waiting + l.count) ≤ 2048) × ((p : Spine) × LeftHeld w (left_by l) p))
  element_facts form = by C.wish C.held C.entries C.came
    where
      by : (wish : TermWish) → WishHeld text w h.top h.waiting l wish → h.top + entries_of wish ≤ most_entries → TermCame w x (h.waiting + halves_for wish) C.m → CanJoin w h.waiting l.count x × ((suc (h.waiting + l.count) ≤ 2048) × ((p : Spine) × LeftHeld w (left_by l) p))
      by (of_function xs θ₀) hh en t = absurd (omega (arith, hh.0, form))
      by (of_fix y θ₀) hh en t = absurd (omega (arith, hh.0, form))
      by (value_of_name p y) hh en t = absurd (omega (arith, hh.0, form))
      by (value_of_names p xs us) hh en t = absurd (omega (arith, hh.0, form))
      by (under_name y v) hh en t = absurd (omega (arith, hh.0, form))
      by (under_names ps) hh en t = absurd (omega (arith, hh.0, form))
      by (of_definition q us) hh en t = absurd (omega (arith, hh.0, form))
      by (element q before) (f, n, s, hs) en t = (can_join _ _ w h.waiting l.count before C.m.state x C.m (sym n) (omega (arith, t.few, n, C.here.scope.walkable.state.few)) C.here.scope.walkable.state t.term hs, (omega (arith, t.few, n, C.here.scope.walkable.state.few), (q, s.held)))

  pub definition_facts : l.form ≡ 8 → CanApply w (left_by l) x
  definition_facts form = by C.wish C.held C.entries C.came
    where
      by : (wish : TermWish) → WishHeld text w h.top h.waiting l wish → h.top + entries_of wish ≤ most_entries → TermCame w x (h.waiting + halves_for wish) C.m → CanApply w (left_by l) x
      by (of_function xs θ₀) hh en t = absurd (omega (arith, hh.0, form))
      by (of_fix y θ₀) hh en t = absurd (omega (arith, hh.0, form))
      by (value_of_name p y) hh en t = absurd (omega (arith, hh.0, form))
      by (value_of_names p xs us) hh en t = absurd (omega (arith, hh.0, form))
      by (under_name y v) hh en t = absurd (omega (arith, hh.0, form))
      by (under_names ps) hh en t = absurd (omega (arith, hh.0, form))
      by (element q before) hh en t = absurd (omega (arith, hh.0, form))
      by (of_definition q us) (f, s, u, b) en t = record { workable = leave_workable; type = leave_type; p = q; left = s.held }

  pub values_facts : l.form ≡ 4 → (h.top + (l.count + l.count) ≤ most_entries) → CanApart text w l.next l.count h.top h.waiting x
  values_facts form = by C.wish C.held C.entries C.came
    where
      by : (wish : TermWish) → WishHeld text w h.top h.waiting l wish → h.top + entries_of wish ≤ most_entries → TermCame w x (h.waiting + halves_for wish) C.m → (h.top + (l.count + l.count) ≤ most_entries) → CanApart text w l.next l.count h.top h.waiting x
      by (of_function xs θ₀) hh en t = absurd (omega (arith, hh.0, form))
      by (of_fix y θ₀) hh en t = absurd (omega (arith, hh.0, form))
      by (value_of_name p y) hh en t = absurd (omega (arith, hh.0, form))
      by (under_name y v) hh en t = absurd (omega (arith, hh.0, form))
      by (under_names ps) hh en t = absurd (omega (arith, hh.0, form))
      by (element q before) hh en t = absurd (omega (arith, hh.0, form))
      by (of_definition q us) hh en t = absurd (omega (arith, hh.0, form))
      by (value_of_names p xs us) (f, p', e, st, u) en t = λ room. record { names = st; short = C.here.scope.walkable.short; few = omega arith; halves = omega (arith, t.few, C.here.scope.walkable.state.nodes); made = C.m; state = C.here.scope.walkable.state; held = t.term; frame = h.frame; level = C.here.scope.walkable.level; S = C.S; scope = C.here.scope.walkable.scope }

  -- the forms that are left
  pub some_form : (1 ≤ l.form) × (l.form ≤ 8)
  some_form = by C.wish C.held
    where
      by : (wish : TermWish) → WishHeld text w h.top h.waiting l wish → (1 ≤ l.form) × (l.form ≤ 8)
      by (of_function xs t) hh = (omega (arith, hh.0), omega (arith, hh.0))
      by (of_fix y t) hh = (omega (arith, hh.0), omega (arith, hh.0))
      by (value_of_name p y) hh = (omega (arith, hh.0), omega (arith, hh.0))
      by (value_of_names p xs us) hh = (omega (arith, hh.0), omega (arith, hh.0))
      by (under_name y v) hh = (omega (arith, hh.0), omega (arith, hh.0))
      by (under_names ps) hh = (omega (arith, hh.0), omega (arith, hh.0))
      by (element q before) hh = (omega (arith, hh.0), omega (arith, hh.0))
      by (of_definition q us) hh = (omega (arith, hh.0), omega (arith, hh.0))

-- ---- the level is done

module _ (text w : List ℕ) (h : Walk) (l : Level) (x : Sub) (C : CanLeave text w h l x) (y : Result Sub Refusal) (w' : List ℕ) (r : Result Walk Refusal) (e : r ≡ done_step h y h.at) where
  -- where the term that is made is the machine's
  done-by : MadeOnly w w' → (X : Text) (most bottom k : ℕ) (S : Scope) (K : List TermLevel) (m : Made) → h.more ≡ suc k → HereHeld text X most bottom w h S m.state K → (n : ℕ) → TermCame w x (h.waiting + n) m → (a : Answer Made) → MadeIn w' y a → StepAnswers text X most bottom w' r (a >>= λ v. good (term_done (term_here_with k S K) v (words_at text h.at)))
  done-by o X most bottom k S K m c g n t a i =
      let b = leave_room text w h l x C in
      subst (λ (q : Result Walk Refusal). StepAnswers text X most bottom w' q (a >>= λ v. good (term_done (term_here_with k S K) v (words_at text h.at)))) (sym e) (
      done_says text X most bottom w' h S K k h.at c C.readable (here-now text X most bottom w w' h S m.state K g (stepped_made h.more h.top h.waiting w w' b.0 b.1 o)) y a i (made-nodes h.waiting w w' y a (omega (arith, t.few, g.scope.walkable.state.nodes)) o i))

  done-stepped : MadeOnly w w' → LevelWrites h.more h.top h.waiting w w'
  done-stepped o = let b = leave_room text w h l x C in stepped_made h.more h.top h.waiting w w' b.0 b.1 o

  pub function_done : l.form ≡ 1 → FunctionsSay w h.top l.count l.ty x y w' → LeaveSays text w h l x r w'
  function_done form F = record { stepped = done-stepped F.only; says = λ X most bottom k S K wish m c g held en t rd. by X most bottom k S K m c g wish held en t }
    where
      by : (X : Text) (most bottom k : ℕ) (S : Scope) (K : List TermLevel) (m : Made) → h.more ≡ suc k → HereHeld text X most bottom w h S m.state K → (wish : TermWish) → WishHeld text w h.top h.waiting l wish → h.top + entries_of wish ≤ most_entries → TermCame w x (h.waiting + halves_for wish) m → StepAnswers text X most bottom w' r (term_left X (bodies_in text w X) (term_here_with k S K) wish m (words_at text h.at))
      by X most bottom k S K m c g (of_fix y θ₀) hh en t = absurd (omega (arith, hh.0, form))
      by X most bottom k S K m c g (value_of_name p y) hh en t = absurd (omega (arith, hh.0, form))
      by X most bottom k S K m c g (value_of_names p xs us) hh en t = absurd (omega (arith, hh.0, form))
      by X most bottom k S K m c g (under_name y v) hh en t = absurd (omega (arith, hh.0, form))
      by X most bottom k S K m c g (under_names ps) hh en t = absurd (omega (arith, hh.0, form))
      by X most bottom k S K m c g (element q before) hh en t = absurd (omega (arith, hh.0, form))
      by X most bottom k S K m c g (of_definition q us) hh en t = absurd (omega (arith, hh.0, form))
      by X most bottom k S K m c g (of_function xs θ₀) (f, n, z, kn, N) en t =
          let H = g.scope.walkable.state in
          done-by F.only X most bottom k S K m c g 0 (record { term = t.term; few = t.few }) (functions_of xs θ₀ m) (subst (λ (θ : ℕ). MadeIn w' y (functions_of xs θ m)) z (F.says xs m (sym n) N H t.term (omega (arith, kn, z, H.types.count))))

  pub fix_done : l.form ≡ 2 → FixSays w l.place l.ty x y w' → LeaveSays text w h l x r w'
  fix_done form F = record { stepped = done-stepped F.only; says = λ X most bottom k S K wish m c g held en t rd. by X most bottom k S K m c g wish held en t }
    where
      by : (X : Text) (most bottom k : ℕ) (S : Scope) (K : List TermLevel) (m : Made) → h.more ≡ suc k → HereHeld text X most bottom w h S m.state K → (wish : TermWish) → WishHeld text w h.top h.waiting l wish → h.top + entries_of wish ≤ most_entries → TermCame w x (h.waiting + halves_for wish) m → StepAnswers text X most bottom w' r (term_left X (bodies_in text w X) (term_here_with k S K) wish m (words_at text h.at))
      by X most bottom k S K m c g (of_function xs θ₀) hh en t = absurd (omega (arith, hh.0, form))
      by X most bottom k S K m c g (value_of_name p y) hh en t = absurd (omega (arith, hh.0, form))
      by X most bottom k S K m c g (value_of_names p xs us) hh en t = absurd (omega (arith, hh.0, form))
      by X most bottom k S K m c g (under_name y v) hh en t = absurd (omega (arith, hh.0, form))
      by X most bottom k S K m c g (under_names ps) hh en t = absurd (omega (arith, hh.0, form))
      by X most bottom k S K m c g (element q before) hh en t = absurd (omega (arith, hh.0, form))
      by X most bottom k S K m c g (of_definition q us) hh en t = absurd (omega (arith, hh.0, form))
      by X most bottom k S K m c g (of_fix y₀ θ₀) (f, p, z, kn) en t =
          let H = g.scope.walkable.state in
          done-by F.only X most bottom k S K m c g 0 (record { term = t.term; few = t.few }) (node y₀.place (Terms.fix θ₀ m.term) θ₀ m.deep m.places m.state) (subst (λ (b : ℕ). MadeIn w' y (node b (Terms.fix θ₀ m.term) θ₀ m.deep m.places m.state)) p (subst (λ (θ : ℕ). MadeIn w' y (node l.place (Terms.fix θ m.term) θ m.deep m.places m.state)) z (F.says m H t.term (omega (arith, kn, z, H.types.count)))))

  pub name_done : l.form ≡ 5 → NamingSays w l.place (sub_in l) x y w' → LeaveSays text w h l x r w'
  name_done form F = record { stepped = done-stepped F.only; says = λ X most bottom k S K wish m c g held en t rd. by X most bottom k S K m c g wish held en t }
    where
      by : (X : Text) (most bottom k : ℕ) (S : Scope) (K : List TermLevel) (m : Made) → h.more ≡ suc k → HereHeld text X most bottom w h S m.state K → (wish : TermWish) → WishHeld text w h.top h.waiting l wish → h.top + entries_of wish ≤ most_entries → TermCame w x (h.waiting + halves_for wish) m → StepAnswers text X most bottom w' r (term_left X (bodies_in text w X) (term_here_with k S K) wish m (words_at text h.at))
      by X most bottom k S K m c g (of_function xs θ₀) hh en t = absurd (omega (arith, hh.0, form))
      by X most bottom k S K m c g (of_fix y θ₀) hh en t = absurd (omega (arith, hh.0, form))
      by X most bottom k S K m c g (value_of_name p y) hh en t = absurd (omega (arith, hh.0, form))
      by X most bottom k S K m c g (value_of_names p xs us) hh en t = absurd (omega (arith, hh.0, form))
      by X most bottom k S K m c g (under_names ps) hh en t = absurd (omega (arith, hh.0, form))
      by X most bottom k S K m c g (element q before) hh en t = absurd (omega (arith, hh.0, form))
      by X most bottom k S K m c g (of_definition q us) hh en t = absurd (omega (arith, hh.0, form))
      by X most bottom k S K m c g (under_name y₀ v₀) (f, p, v') en t =
          let H = g.scope.walkable.state in
          done-by F.only X most bottom k S K m c g 0 (record { term = t.term; few = t.few }) (name_of X.edition y₀ v₀ m) (F.says X.edition y₀ v₀ m (edition_in w X g.scope.walkable.clauses.edition) (sym p) H v' t.term)

  pub names-done : l.form ≡ 6 → ProjectionsSay w h.waiting l.count x y w' → LeaveSays text w h l x r w'
  names-done form F = record { stepped = done-stepped F.only; says = λ X most bottom k S K wish m c g held en t rd. by X most bottom k S K m c g wish held en t }
    where
      by : (X : Text) (most bottom k : ℕ) (S : Scope) (K : List TermLevel) (m : Made) → h.more ≡ suc k → HereHeld text X most bottom w h S m.state K → (wish : TermWish) → WishHeld text w h.top h.waiting l wish → h.top + entries_of wish ≤ most_entries → TermCame w x (h.waiting + halves_for wish) m → StepAnswers text X most bottom w' r (term_left X (bodies_in text w X) (term_here_with k S K) wish m (words_at text h.at))
      by X most bottom k S K m c g (of_function xs θ₀) hh en t = absurd (omega (arith, hh.0, form))
      by X most bottom k S K m c g (of_fix y θ₀) hh en t = absurd (omega (arith, hh.0, form))
      by X most bottom k S K m c g (value_of_name p y) hh en t = absurd (omega (arith, hh.0, form))
      by X most bottom k S K m c g (value_of_names p xs us) hh en t = absurd (omega (arith, hh.0, form))
      by X most bottom k S K m c g (under_name y v) hh en t = absurd (omega (arith, hh.0, form))
      by X most bottom k S K m c g (element q before) hh en t = absurd (omega (arith, hh.0, form))
      by X most bottom k S K m c g (of_definition q us) hh en t = absurd (omega (arith, hh.0, form))
      by X most bottom k S K m c g (under_names ps) (f, n, hs) en t =
          let H = g.scope.walkable.state in
          done-by F.only X most bottom k S K m c g (length ps) t (projections ps m) (F.says ps m (sym n) hs H t.term)

-- ---- atoms

module _ (text w : List ℕ) (h : Walk) (l : Level) (x : Sub) (C : CanLeave text w h l x) where
  pub definition_done : l.form ≡ 8 → (s : Left) → s ≡ left_by l → (at : ℕ) → at ≡ l.next → (r : Result Walk Refusal) (w' : List ℕ) → BehindSays w h s x at r w' → LeaveSays text w h l x r w'
  definition_done form s es at ea r w' B₀ = record { stepped = let b = leave_room text w h l x C in B.stepped b.0 b.1; says = λ X most bottom k S K wish m c g held en t rd. by X most bottom k S K m c g wish held en t }
    where
      B : BehindSays w h (left_by l) x l.next r w'
      B = subst (λ (n : ℕ). BehindSays w h (left_by l) x n r w') ea (subst (λ (u : Left). BehindSays w h u x at r w') es B₀)

      by : (X : Text) (most bottom k : ℕ) (S : Scope) (K : List TermLevel) (m : Made) → h.more ≡ suc k → HereHeld text X most bottom w h S m.state K → (wish : TermWish) → WishHeld text w h.top h.waiting l wish → h.top + entries_of wish ≤ most_entries → TermCame w x (h.waiting + halves_for wish) m → StepAnswers text X most bottom w' r (term_left X (bodies_in text w X) (term_here_with k S K) wish m (words_at text h.at))
      by X most bottom k S K m c g (of_function xs θ₀) hh en t = absurd (omega (arith, hh.0, form))
      by X most bottom k S K m c g (of_fix y θ₀) hh en t = absurd (omega (arith, hh.0, form))
      by X most bottom k S K m c g (value_of_name p y) hh en t = absurd (omega (arith, hh.0, form))
      by X most bottom k S K m c g (value_of_names p xs us) hh en t = absurd (omega (arith, hh.0, form))
      by X most bottom k S K m c g (under_name y v) hh en t = absurd (omega (arith, hh.0, form))
      by X most bottom k S K m c g (under_names ps) hh en t = absurd (omega (arith, hh.0, form))
      by X most bottom k S K m c g (element q before) hh en t = absurd (omega (arith, hh.0, form))
      by X most bottom k S K m c g (of_definition q us) (f, s', u, b) en t =
          subst (λ (vs : List Word). StepAnswers text X most bottom w' r (behind_atom (term_here_with k S K) q m vs)) (words-lexed text l.next b ∙ sym u) (B.says text X most bottom k S K q m c (λ _. b) g (record { term = t.term; few = omega (arith, t.few) }) s'.held)

  -- the tuple is an atom
  pub tuple-done : l.form ≡ 7 → (v : code-word.Word) → Looks text h.at v → ¬ (v.kind ≡ 14) → (y : Result Sub Refusal) (w₁ : List ℕ) → PairsSay w h.waiting l.count x y w₁ → (s : Left) → s ≡ left_by l → (r : Result Walk Refusal) (w' : List ℕ) → MadeSays w₁ h s y v.end r w' → LeaveSays text w h l x r w'
  tuple-done form v looks no-comma y w₁ P s es r w' M₀ = record { stepped = stepped_then h.more h.top h.waiting w w₁ w' st (M.stepped b.0 b.1); says = λ X most bottom k S K wish m c g held en t rd. by X most bottom k S K m c g wish held en t }
    where
      b : (h.top ≤ most_entries) × (h.waiting ≤ 2048) × (h.more ≤ 80)
      b = leave_room text w h l x C

      st : LevelWrites h.more h.top h.waiting w w₁
      st = stepped_made h.more h.top h.waiting w w₁ b.0 b.1 P.only

      M : MadeSays w₁ h (left_by l) y v.end r w'
      M = subst (λ (u : Left). MadeSays w₁ h u y v.end r w') es M₀

      by : (X : Text) (most bottom k : ℕ) (S : Scope) (K : List TermLevel) (m : Made) → h.more ≡ suc k → HereHeld text X most bottom w h S m.state K → (wish : TermWish) → WishHeld text w h.top h.waiting l wish → h.top + entries_of wish ≤ most_entries → TermCame w x (h.waiting + halves_for wish) m → StepAnswers text X most bottom w' r (term_left X (bodies_in text w X) (term_here_with k S K) wish m (words_at text h.at))
      by X most bottom k S K m c g (of_function xs θ₀) hh en t = absurd (omega (arith, hh.0, form))
      by X most bottom k S K m c g (of_fix y θ₀) hh en t = absurd (omega (arith, hh.0, form))
      by X most bottom k S K m c g (value_of_name p y) hh en t = absurd (omega (arith, hh.0, form))
      by X most bottom k S K m c g (value_of_names p xs us) hh en t = absurd (omega (arith, hh.0, form))
      by X most bottom k S K m c g (under_name y v) hh en t = absurd (omega (arith, hh.0, form))
      by X most bottom k S K m c g (under_names ps) hh en t = absurd (omega (arith, hh.0, form))
      by X most bottom k S K m c g (of_definition q us) hh en t = absurd (omega (arith, hh.0, form))
      by X most bottom k S K m c g (element q before) (f, n, s', hs) en t =
          let H = g.scope.walkable.state in
          let i = P.says before m (sym n) hs H t.term in
          subst (λ (bb : Bool). StepAnswers text X most bottom w' r (cond bb (good (ask_term (term_here_with k S K) (element q (record { made = m; comma = place (words_at text h.at) } ∷ before)) S m.state (behind (words_at text h.at)))) (pairs_of before m >>= λ p. behind_atom (term_here_with k S K) q p (behind (words_at text h.at))))) (sym (look_no text h.at v looks comma no-comma)) (
          subst (λ (vs : List Word). StepAnswers text X most bottom w' r (pairs_of before m >>= λ p. behind_atom (term_here_with k S K) q p vs)) (sym looks.rest) (
          M.says text X most bottom k S K q (pairs_of before m) c looks.readable (here-now text X most bottom w w₁ h S m.state K g st) i (made-nodes h.waiting w w₁ y _ (omega (arith, t.few, H.nodes)) P.only i) (left_stays h.more h.top h.waiting w w₁ st (left_by l) q s'.held)))

  pub tuple_can : l.form ≡ 7 → (y : Result Sub Refusal) (w₁ : List ℕ) → PairsSay w h.waiting l.count x y w₁ → (s : Left) → s ≡ left_by l → CanApplyMade w₁ s y
  tuple_can form y w₁ P s es = subst (λ (u : Left). CanApplyMade w₁ u y) (sym es) (by y P.small)
    where
      b : (h.top ≤ most_entries) × (h.waiting ≤ 2048) × (h.more ≤ 80)
      b = leave_room text w h l x C

      by : (y : Result Sub Refusal) → SmallMade y → CanApplyMade w₁ (left_by l) y
      by (Ok z) small = let q = (element_facts text w h l x C form).1.1 in record { workable = workable_on w w₁ (leave_workable text w h l x C) P.only; type = small; p = q.0; left = left_stays h.more h.top h.waiting w w₁ (stepped_made h.more h.top h.waiting w w₁ b.0 b.1 P.only) (left_by l) q.0 q.1 }
      by (Err e) small = tt

  pub element_room : l.form ≡ 7 → (i : ℕ) → i ≡ h.waiting + l.count → InHalves w i
  element_room form i ei = (C.here.scope.walkable.room, omega (arith, ei, (element_facts text w h l x C form).1.0))

  -- one more element is wanted
  pub element_asks :
      l.form ≡ 7 → (v : code-word.Word) → Looks text h.at v → v.kind ≡ 14 → (i : ℕ) → i ≡ h.waiting + l.count → (w₁ : List ℕ) → w₁ ≡ with_half w i (record { node = x.node; ty = x.ty; deep = x.deep; place = v.start }) → CanAskTerm w₁ h → (lv : Level) (s : Left) → s ≡ left_by l → lv ≡ part_level 7 s (l.count + 1) 0
      → (r : Result Walk Refusal) (w' : List ℕ) → Asks w₁ h lv h.frame h.top (i + 1) v.end r w' → LeaveSays text w h l x r w'
  element_asks form v looks is-comma i ei w₁ ew A₁ lv s es el r w' A₀ = record { stepped = stepped_then h.more h.top h.waiting w w₁ w' st (stepped_asks w₁ h lv h.frame h.top (i + 1) v.end r w' A₁ A₀); says = λ X most bottom k S K wish m c g held en t rd. by X most bottom k S K m c g wish held en t }
    where
      b : (h.top ≤ most_entries) × (h.waiting ≤ 2048) × (h.more ≤ 80)
      b = leave_room text w h l x C

      room : InHalves w i
      room = element_room form i ei

      st : LevelWrites h.more h.top h.waiting w w₁
      st = subst (λ (u : List ℕ). LevelWrites h.more h.top h.waiting w u) (sym ew) (stepped_less 0 h.more h.top h.top i h.waiting w _ (omega arith) (omega arith) (omega arith) (stepped_parts 0 h.top i w _ (parts_of_half w i _ room h.top b.0)))

      A : Asks w₁ h (part_level 7 (left_by l) (l.count + 1) 0) h.frame h.top (i + 1) v.end r w'
      A = subst (λ (y : Level). Asks w₁ h y h.frame h.top (i + 1) v.end r w') (el ∙ ap (λ (u : Left). part_level 7 u (l.count + 1) 0) es) A₀

      by : (X : Text) (most bottom k : ℕ) (S : Scope) (K : List TermLevel) (m : Made) → h.more ≡ suc k → HereHeld text X most bottom w h S m.state K → (wish : TermWish) → WishHeld text w h.top h.waiting l wish → h.top + entries_of wish ≤ most_entries → TermCame w x (h.waiting + halves_for wish) m → StepAnswers text X most bottom w' r (term_left X (bodies_in text w X) (term_here_with k S K) wish m (words_at text h.at))
      by X most bottom k S K m c g (of_function xs θ₀) hh en t = absurd (omega (arith, hh.0, form))
      by X most bottom k S K m c g (of_fix y θ₀) hh en t = absurd (omega (arith, hh.0, form))
      by X most bottom k S K m c g (value_of_name p y) hh en t = absurd (omega (arith, hh.0, form))
      by X most bottom k S K m c g (value_of_names p xs us) hh en t = absurd (omega (arith, hh.0, form))
      by X most bottom k S K m c g (under_name y v) hh en t = absurd (omega (arith, hh.0, form))
      by X most bottom k S K m c g (under_names ps) hh en t = absurd (omega (arith, hh.0, form))
      by X most bottom k S K m c g (of_definition q us) hh en t = absurd (omega (arith, hh.0, form))
      by X most bottom k S K m c g (element q before) (f, n, s', hs) en t =
          let H = g.scope.walkable.state in
          let H₁ : HoldsState w₁ m.state = subst (λ (u : List ℕ). HoldsState u m.state) (sym ew) (half_state w i _ room m.state H) in
          let g₁ = here_stays text X most bottom w w₁ h S m.state K g st m.state H₁ in
          let l₁ = left_stays h.more h.top h.waiting w w₁ st (left_by l) q s'.held in
          let now : Element = record { made = m; comma = v.start } in
          let hs₁ = halves-put (λ (a : Element). a.made) (λ (a : Element). a.comma) w h.waiting i before now x w₁ (ei ∙ ap (λ (z : ℕ). h.waiting + z) n) room ew t.term hs in
          subst (λ (bb : Bool). StepAnswers text X most bottom w' r (cond bb (good (ask_term (term_here_with k S K) (element q (record { made = m; comma = place (words_at text h.at) } ∷ before)) S m.state (behind (words_at text h.at)))) (pairs_of before m >>= λ p. behind_atom (term_here_with k S K) q p (behind (words_at text h.at))))) (sym (look_yes text h.at v looks comma is-comma)) (
          subst (λ (vs : List Word). StepAnswers text X most bottom w' r (good (ask_term (term_here_with k S K) (element q (record { made = m; comma = place (words_at text h.at) } ∷ before)) S m.state vs))) (sym looks.rest) (
          subst (λ (z : ℕ). StepAnswers text X most bottom w' r (good (ask_term (term_here_with k S K) (element q (record { made = m; comma = z } ∷ before)) S m.state (words_at text v.end)))) looks.place (
          asked text X most bottom w₁ h S m.state K k c g₁ (part_level 7 (left_by l) (l.count + 1) 0) (element q (now ∷ before)) h.frame h.top (i + 1) v.end S (refl, omega (arith, n), left_again w₁ (left_by l) q 7 (l.count + 1) 0 l₁, hs₁) (record { walkable = g₁.scope.walkable; above = omega (arith, g₁.scope.above, c); variables = g₁.scope.variables }) (omega arith) (omega (arith, n, ei)) (omega (arith, n, ei, t.few)) looks.readable r w' A)))

-- ---- numbers that the code made wider

pub join_as : (w : List ℕ) (from' count n : ℕ) (x : Sub) → n ≡ count → CanJoin w from' count x → CanJoin w from' n x
join_as w from' count n x e J = subst (λ (k : ℕ). CanJoin w from' k x) (sym e) J

pub pairs_as : (w : List ℕ) (from' count n : ℕ) (x : Sub) (y : Result Sub Refusal) (w' : List ℕ) → n ≡ count → PairsSay w from' n x y w' → PairsSay w from' count x y w'
pairs_as w from' count n x y w' e J = subst (λ (k : ℕ). PairsSay w from' k x y w') e J

pub projections_as : (w : List ℕ) (from' count n : ℕ) (x : Sub) (y : Result Sub Refusal) (w' : List ℕ) → n ≡ count → ProjectionsSay w from' n x y w' → ProjectionsSay w from' count x y w'
projections_as w from' count n x y w' e J = subst (λ (k : ℕ). ProjectionsSay w from' k x y w') e J

pub type_as : (v v' : Sub) → v ≡ v' → v'.ty < 256 → v.ty < 256
type_as v v' e h = subst (λ (u : Sub). u.ty < 256) (sym e) h

pub naming_as : (w : List ℕ) (place : ℕ) (v v' x : Sub) (y : Result Sub Refusal) (w' : List ℕ) → v ≡ v' → NamingSays w place v x y w' → NamingSays w place v' x y w'
naming_as w place v v' x y w' e N = subst (λ (u : Sub). NamingSays w place u x y w') e N

pub apply_as : (w : List ℕ) (s s' : Left) (x : Sub) → s ≡ s' → CanApply w s' x → CanApply w s x
apply_as w s s' x e A = subst (λ (u : Left). CanApply w u x) (sym e) A

pub waiting_as : (a b n : ℕ) → n ≡ b → a + n ≡ a + b
waiting_as a b n e = ap (λ (k : ℕ). a + k) e

pub count_as : (a b n : ℕ) → n ≡ b → a + (n + n) ≤ most_entries → a + (b + b) ≤ most_entries
count_as a b n e h = subst (λ (k : ℕ). a + (k + k) ≤ most_entries) e h

pub lexed_as : (text : List ℕ) (a n : ℕ) → a ≡ n → Lexed text n → Lexed text a
lexed_as text a n e x = subst (Lexed text) (sym e) x

pub under_as : (text w : List ℕ) (n : Walk) (next at : ℕ) (r : Result Walk Refusal) (w' : List ℕ) (a : ℕ) → a ≡ next → BodySays text w n (under_lists_body text a at) r w' → BodySays text w n (under_lists_body text next at) r w'
under_as text w n next at r w' a e E = subst (λ (k : ℕ). BodySays text w n (under_lists_body text k at) r w') e E

pub half_length : (w : List ℕ) (i : ℕ) (x : Half) (w' : List ℕ) → w' ≡ with_half w i x → InHalves w i → length w' ≡ length w
half_length w i x w' e room = ap length e ∙ half_long w i x room

module _ (text w : List ℕ) (h : Walk) (l : Level) (x : Sub) where
  pub apart_as : (a n : ℕ) → a ≡ l.next → n ≡ l.count → CanApart text w l.next l.count h.top h.waiting x → CanApart text w a n h.top h.waiting x
  apart_as a n ea en P = subst (λ (k : ℕ). CanApart text w a k h.top h.waiting x) (sym en) (subst (λ (k : ℕ). CanApart text w k l.count h.top h.waiting x) (sym ea) P)

  pub aparted_as : (a n : ℕ) (y : Result ApartEnd Refusal) (w' : List ℕ) → a ≡ l.next → n ≡ l.count → ApartSays text w a n h.top h.waiting x y w' → ApartSays text w l.next l.count h.top h.waiting x y w'
  aparted_as a n y w' ea en P = subst (λ (k : ℕ). ApartSays text w l.next k h.top h.waiting x y w') en (subst (λ (k : ℕ). ApartSays text w k n h.top h.waiting x y w') ea P)

-- ---- names for terms

-- names are only added
apart-longer : (Γ : List Entry) (xs : List Bound) (v : Made) (ps : List Taken) → On (λ (a : Apart). length Γ ≤ length a.variables) (apart_from Γ xs v ps)
apart-longer Γ [] v ps = tt
apart-longer Γ (x ∷ []) v ps = tt
apart-longer Γ (x ∷ y ∷ []) v ps = omega arith
apart-longer Γ (x ∷ y ∷ z ∷ zs) v ps =
    let h = halves_of (rec_at v.state.table v.type) in
    let Δ = bind rest h.right (bind x h.left Γ) in
    on_any (λ (a : Apart). length Γ ≤ length a.variables) (node y.place (var 0) h.right 0 [] v.state) _ λ r. on_map (λ (a : Apart). length Δ ≤ length a.variables) (λ (a : Apart). length Γ ≤ length a.variables) (apart_from Δ (y ∷ z ∷ zs) r (record { place = x.place; pair = v } ∷ ps)) (apart-longer Δ (y ∷ z ∷ zs) r (record { place = x.place; pair = v } ∷ ps)) λ a q. omega arith

module _ (text w : List ℕ) (h : Walk) (l : Level) (x : Sub) (C : CanLeave text w h l x) where
  pub value-full : l.form ≡ 3 → leb (h.top + 1) most_entries ≡ false → (n : ℕ) → n ≡ l.place → LeaveSays text w h l x (Err (refusal_at Reason.TextLimit n)) w
  value-full form full n en₀ = record { stepped = stepped_none h.more h.top h.waiting w; says = λ X most bottom k S K wish m c g held en t rd. by X most bottom k S K m c g wish held en t }
    where
      by : (X : Text) (most bottom k : ℕ) (S : Scope) (K : List TermLevel) (m : Made) → h.more ≡ suc k → HereHeld text X most bottom w h S m.state K → (wish : TermWish) → WishHeld text w h.top h.waiting l wish → h.top + entries_of wish ≤ most_entries → TermCame w x (h.waiting + halves_for wish) m → StepAnswers text X most bottom w (Err (refusal_at Reason.TextLimit n)) (term_left X (bodies_in text w X) (term_here_with k S K) wish m (words_at text h.at))
      by X most bottom k S K m c g (of_function xs θ₀) hh en t = absurd (omega (arith, hh.0, form))
      by X most bottom k S K m c g (of_fix y θ₀) hh en t = absurd (omega (arith, hh.0, form))
      by X most bottom k S K m c g (value_of_names p xs us) hh en t = absurd (omega (arith, hh.0, form))
      by X most bottom k S K m c g (under_name y v) hh en t = absurd (omega (arith, hh.0, form))
      by X most bottom k S K m c g (under_names ps) hh en t = absurd (omega (arith, hh.0, form))
      by X most bottom k S K m c g (element q before) hh en t = absurd (omega (arith, hh.0, form))
      by X most bottom k S K m c g (of_definition q us) hh en t = absurd (omega (arith, hh.0, form))
      by X most bottom k S K m c g (value_of_name p y) (f, p', n', e', b') en t =
          subst (λ (bb : Bool). StepAnswers text X most bottom w (Err (refusal_at Reason.TextLimit n)) (need bb 34 p >>= λ _. good (ask_term (term_here_with k S K) (under_name y m) (with_variables S (bind y m.type S.variables)) m.state (behind (words_at text h.at))))) (sym (ap (λ (z : ℕ). leb (z + 1) most_entries) g.scope.walkable.scope.entries ∙ full)) (ap (numbered 34) (sym (en₀ ∙ p')))

  pub values_full : l.form ≡ 4 → (j : ℕ) → j ≡ l.count → leb (h.top + (j + j)) most_entries ≡ false → (n : ℕ) → n ≡ l.place → LeaveSays text w h l x (Err (refusal_at Reason.TextLimit n)) w
  values_full form j ej full n en₀ = record { stepped = stepped_none h.more h.top h.waiting w; says = λ X most bottom k S K wish m c g held en t rd. by X most bottom k S K m c g wish held en t }
    where
      by : (X : Text) (most bottom k : ℕ) (S : Scope) (K : List TermLevel) (m : Made) → h.more ≡ suc k → HereHeld text X most bottom w h S m.state K → (wish : TermWish) → WishHeld text w h.top h.waiting l wish → h.top + entries_of wish ≤ most_entries → TermCame w x (h.waiting + halves_for wish) m → StepAnswers text X most bottom w (Err (refusal_at Reason.TextLimit n)) (term_left X (bodies_in text w X) (term_here_with k S K) wish m (words_at text h.at))
      by X most bottom k S K m c g (of_function xs θ₀) hh en t = absurd (omega (arith, hh.0, form))
      by X most bottom k S K m c g (of_fix y θ₀) hh en t = absurd (omega (arith, hh.0, form))
      by X most bottom k S K m c g (value_of_name p y) hh en t = absurd (omega (arith, hh.0, form))
      by X most bottom k S K m c g (under_name y v) hh en t = absurd (omega (arith, hh.0, form))
      by X most bottom k S K m c g (under_names ps) hh en t = absurd (omega (arith, hh.0, form))
      by X most bottom k S K m c g (element q before) hh en t = absurd (omega (arith, hh.0, form))
      by X most bottom k S K m c g (of_definition q us) hh en t = absurd (omega (arith, hh.0, form))
      by X most bottom k S K m c g (value_of_names p xs us) (f, p', e', st', u') en t =
          let j₁ : length xs ≡ j = ap length e' ∙ names-length head_at behind l.count (from text l.next) ∙ sym ej in
          subst (λ (bb : Bool). StepAnswers text X most bottom w (Err (refusal_at Reason.TextLimit n)) (need bb 34 p >>= λ _. apart_from S.variables xs m [] >>= λ a. under_lists k (with_variables S a.variables) a.state us (words_at text h.at) (record { wish = under_names a.taken; scope = S } ∷ K))) (sym (ap (λ (z : ℕ). leb (z + (length xs + length xs)) most_entries) g.scope.walkable.scope.entries ∙ ap (λ (z : ℕ). leb (h.top + (z + z)) most_entries) j₁ ∙ full)) (ap (numbered 34) (sym (en₀ ∙ p')))

  abbrev name_level : Level
  name_level = record { form = 5; flag = 0; place = l.next; count = 0; node = x.node; ty = x.ty; deep = x.deep; next = 0 }

  pub value_bound : l.form ≡ 3 → leb (h.top + 1) most_entries ≡ true → h.top + 1 ≤ most_entries → (v : code-word.Word) → Looks text h.at v → (nm : ℕ) → nm ≡ l.next → (w₁ : List ℕ) → NameBound w h.top nm x.ty w₁ → CanAskTerm w₁ h → (r : Result Walk Refusal) (w' : List ℕ) → Asks w₁ h name_level h.frame (h.top + 1) h.waiting v.end r w' → LeaveSays text w h l x r w'
  value_bound form there few v looks nm enm w₁ B₀ A₁ r w' A = record { stepped = stepped_then h.more h.top h.waiting w w₁ w' st (stepped_asks w₁ h name_level h.frame (h.top + 1) h.waiting v.end r w' A₁ A); says = λ X most bottom k S K wish m c g held en t rd. by X most bottom k S K m c g wish held en t }
    where
      B : NameBound w h.top l.next x.ty w₁
      B = subst (λ (z : ℕ). NameBound w h.top z x.ty w₁) enm B₀

      b : (h.top ≤ most_entries) × (h.waiting ≤ 2048) × (h.more ≤ 80)
      b = leave_room text w h l x C

      st : LevelWrites h.more h.top h.waiting w w₁
      st = stepped_entries h.more h.top h.waiting h.top (h.top + 1) w w₁ (omega arith) few b.1 B.only

      by : (X : Text) (most bottom k : ℕ) (S : Scope) (K : List TermLevel) (m : Made) → h.more ≡ suc k → HereHeld text X most bottom w h S m.state K → (wish : TermWish) → WishHeld text w h.top h.waiting l wish → h.top + entries_of wish ≤ most_entries → TermCame w x (h.waiting + halves_for wish) m → StepAnswers text X most bottom w' r (term_left X (bodies_in text w X) (term_here_with k S K) wish m (words_at text h.at))
      by X most bottom k S K m c g (of_function xs θ₀) hh en t = absurd (omega (arith, hh.0, form))
      by X most bottom k S K m c g (of_fix y θ₀) hh en t = absurd (omega (arith, hh.0, form))
      by X most bottom k S K m c g (value_of_names p xs us) hh en t = absurd (omega (arith, hh.0, form))
      by X most bottom k S K m c g (under_name y v) hh en t = absurd (omega (arith, hh.0, form))
      by X most bottom k S K m c g (under_names ps) hh en t = absurd (omega (arith, hh.0, form))
      by X most bottom k S K m c g (element q before) hh en t = absurd (omega (arith, hh.0, form))
      by X most bottom k S K m c g (of_definition q us) hh en t = absurd (omega (arith, hh.0, form))
      by X most bottom k S K m c g (value_of_name p y) (f, p', n', e', b') en t =
          let H = g.scope.walkable.state in
          let H₁ = entries_state h.top (h.top + 1) w w₁ few B.only m.state H in
          let g₁ = here_stays text X most bottom w w₁ h S m.state K g st m.state H₁ in
          let Q = g₁.scope.walkable in
          let t₁ = term_stays h.more h.top h.waiting w w₁ st x m t.term in
          subst (λ (bb : Bool). StepAnswers text X most bottom w' r (need bb 34 p >>= λ _. good (ask_term (term_here_with k S K) (under_name y m) (with_variables S (bind y m.type S.variables)) m.state (behind (words_at text h.at))))) (sym (ap (λ (z : ℕ). leb (z + 1) most_entries) g.scope.walkable.scope.entries ∙ there)) (
          subst (λ (vs : List Word). StepAnswers text X most bottom w' r (good (ask_term (term_here_with k S K) (under_name y m) (with_variables S (bind y m.type S.variables)) m.state vs))) (sym looks.rest) (
          subst (λ (θ : ℕ). StepAnswers text X most bottom w' r (good (ask_term (term_here_with k S K) (under_name y m) (with_variables S (bind y θ S.variables)) m.state (words_at text v.end)))) t.term.type (
          asked text X most bottom w₁ h S m.state K k c g₁ name_level (under_name y m) h.frame (h.top + 1) h.waiting v.end (with_variables S (bind y x.ty S.variables)) (refl, n', record { term = t₁.term; lower = t₁.lower; few = t₁.few; type = t₁.type; known = t₁.known; deep = t₁.deep }) (record { walkable = record { short = Q.short; room = Q.room; level = Q.level; clauses = Q.clauses; state = Q.state; scope = B.says text h.frame S y g.scope.walkable.scope b' e'; seen = Q.seen; types = Q.types; variables = (omega (arith, t₁.known, Q.state.types.count), Q.variables) }; above = omega (arith, g.scope.above, c); variables = g₁.scope.variables }) (omega arith) (omega arith) g₁.few looks.readable r w' A)))

  abbrev names_level : ℕ → Level
  names_level n = record { form = 6; flag = 0; place = 0; count = n; node = 0; ty = 0; deep = 0; next = 0 }

  apart-refuses : (w₁ : List ℕ) (S : Scope) (z : Refusal) (m : Answer Apart) → ApartAnswers text w₁ h.frame h.waiting S (Err z) m → m ≡ refused (said_why z)
  apart-refuses w₁ S z (good a) i = absurd i
  apart-refuses w₁ S z (refused why) i = ap refused i

  pub values_refused : l.form ≡ 4 → h.top + (l.count + l.count) ≤ most_entries → (y : Result ApartEnd Refusal) (why : Refusal) (w₁ : List ℕ) → y ≡ Err why → ApartSays text w l.next l.count h.top h.waiting x y w₁ → LeaveSays text w h l x (Err why) w₁
  values_refused form few y why w₁ ey P = record { stepped = stepped_parts h.more h.top h.waiting w w₁ P.only; says = λ X most bottom k S K wish m c g held en t rd. by X most bottom k S K m c g wish held en t }
    where
      by : (X : Text) (most bottom k : ℕ) (S : Scope) (K : List TermLevel) (m : Made) → h.more ≡ suc k → HereHeld text X most bottom w h S m.state K → (wish : TermWish) → WishHeld text w h.top h.waiting l wish → h.top + entries_of wish ≤ most_entries → TermCame w x (h.waiting + halves_for wish) m → StepAnswers text X most bottom w₁ (Err why) (term_left X (bodies_in text w X) (term_here_with k S K) wish m (words_at text h.at))
      by X most bottom k S K m c g (of_function xs θ₀) hh en t = absurd (omega (arith, hh.0, form))
      by X most bottom k S K m c g (of_fix y θ₀) hh en t = absurd (omega (arith, hh.0, form))
      by X most bottom k S K m c g (value_of_name p y) hh en t = absurd (omega (arith, hh.0, form))
      by X most bottom k S K m c g (under_name y v) hh en t = absurd (omega (arith, hh.0, form))
      by X most bottom k S K m c g (under_names ps) hh en t = absurd (omega (arith, hh.0, form))
      by X most bottom k S K m c g (element q₀ before) hh en t = absurd (omega (arith, hh.0, form))
      by X most bottom k S K m c g (of_definition q₀ us) hh en t = absurd (omega (arith, hh.0, form))
      by X most bottom k S K m c g (value_of_names p xs us) (f, p', e', st', u') en t =
          let j₁ : length xs ≡ l.count = ap length e' ∙ names-length head_at behind l.count (from text l.next) in
          let there : leb (entries S + (length xs + length xs)) most_entries ≡ true = ap (λ (z : ℕ). leb (z + (length xs + length xs)) most_entries) g.scope.walkable.scope.entries ∙ ap (λ (z : ℕ). leb (h.top + (z + z)) most_entries) j₁ ∙ le-leb _ _ few in
          let i = P.says h.frame S m g.scope.walkable.level g.scope.walkable.scope g.scope.walkable.state t.term in
          subst (λ (bb : Bool). StepAnswers text X most bottom w₁ (Err why) (need bb 34 p >>= λ _. apart_from S.variables xs m [] >>= λ a. under_lists k (with_variables S a.variables) a.state us (words_at text h.at) (record { wish = under_names a.taken; scope = S } ∷ K))) (sym there) (
          subst (λ (zs : List Bound). StepAnswers text X most bottom w₁ (Err why) (apart_from S.variables zs m [] >>= λ a. under_lists k (with_variables S a.variables) a.state us (words_at text h.at) (record { wish = under_names a.taken; scope = S } ∷ K))) (sym e') (
          rw (apart-refuses w₁ S why (apart_from S.variables (listed_names text l.next l.count) m []) (subst (λ (z : Result ApartEnd Refusal). ApartAnswers text w₁ h.frame h.waiting S z (apart_from S.variables (listed_names text l.next l.count) m [])) ey i)) refl))

  module _ (form : l.form ≡ 4) (few : h.top + (l.count + l.count) ≤ most_entries) (y : Result ApartEnd Refusal) (top waiting : ℕ) (w₁ : List ℕ) (ey : y ≡ Ok (record { top = top; waiting = waiting })) (P : ApartSays text w l.next l.count h.top h.waiting x y w₁) (A₁ : CanAskTerm w₁ h) (n : Walk) (w₂ : List ℕ) (B : Below w₁ h (names_level (waiting - h.waiting)) h.frame top waiting h.at n w₂) where
    apart-stepped : LevelWrites h.more h.top h.waiting w w₁
    apart-stepped = stepped_parts h.more h.top h.waiting w w₁ P.only

    -- what waits for the body
    abbrev underLevel : Scope → Apart → TermLevel
    underLevel S a = record { wish = under_names a.taken; scope = S }

    -- the walk is in the body
    apart_below : (X : Text) (most bottom k : ℕ) (S : Scope) (K : List TermLevel) (m : Made) → h.more ≡ suc k → HereHeld text X most bottom w h S m.state K → (a : Apart) → ApartHeld text w₁ h.frame top h.waiting waiting S a → length S.variables ≤ length a.variables → (n.more ≡ k) × HereHeld text X most bottom w₂ n (with_variables S a.variables) a.state (underLevel S a ∷ K)
    apart_below X most bottom k S K m c g a i o =
        let g₁ = here_stays text X most bottom w w₁ h S m.state K g apart-stepped a.state i.state in
        let Q = g₁.scope.walkable in
        let held = asked text X most bottom w₁ h S a.state K k c g₁ (names_level (waiting - h.waiting)) (under_names a.taken) h.frame top waiting h.at (with_variables S a.variables) (refl, omega (arith, i.counted), i.taken) (record { walkable = record { short = Q.short; room = Q.room; level = Q.level; clauses = Q.clauses; state = Q.state; scope = i.scope; seen = Q.seen; types = Q.types; variables = i.typed Q.variables }; above = omega (arith, g.scope.above, c); variables = g₁.scope.variables }) (omega (arith, o, i.scope.entries, g.scope.walkable.scope.entries)) (omega (arith, i.counted)) (omega (arith, i.fewer, i.state.nodes)) C.readable (Ok n) w₂ (asks-below w₁ h (names_level (waiting - h.waiting)) h.frame top waiting h.at n w₂ B) in
        (held.1, held.3)

    apart-answers : (S : Scope) (m : Made) → HoldsScope text w h.frame h.top S → HoldsState w m.state → TermHeld w x m → h.frame < 82 → ApartAnswers text w₁ h.frame h.waiting S (Ok (record { top = top; waiting = waiting })) (apart_from S.variables (listed_names text l.next l.count) m [])
    apart-answers S m hs H t level = subst (λ (z : Result ApartEnd Refusal). ApartAnswers text w₁ h.frame h.waiting S z (apart_from S.variables (listed_names text l.next l.count) m [])) ey (P.says h.frame S m level hs H t)

    pub values-can : CanBody text w₂ n
    values-can = by (apart_from C.S.variables (listed_names text l.next l.count) C.m []) (apart-answers C.S C.m C.here.scope.walkable.scope C.here.scope.walkable.state C.came.term C.here.scope.walkable.level) (apart-longer C.S.variables (listed_names text l.next l.count) C.m [])
      where
        by : (a : Answer Apart) → ApartAnswers text w₁ h.frame h.waiting C.S (Ok (record { top = top; waiting = waiting })) a → On (λ (z : Apart). length C.S.variables ≤ length z.variables) a → CanBody text w₂ n
        by (refused why) i o = absurd i
        by (good a) i o = record { X = C.X; most = C.most; bottom = C.bottom; S = with_variables C.S a.variables; σ = a.state; K = underLevel C.S a ∷ C.K; here = (apart_below C.X C.most C.bottom C.k C.S C.K C.m C.is C.here a i o).1 }

    -- the body has no fewer entries and terms that wait
    values_above : (h.top ≤ top) × (h.waiting ≤ waiting)
    values_above = by (apart_from C.S.variables (listed_names text l.next l.count) C.m []) (apart-answers C.S C.m C.here.scope.walkable.scope C.here.scope.walkable.state C.came.term C.here.scope.walkable.level) (apart-longer C.S.variables (listed_names text l.next l.count) C.m [])
      where
        by : (a : Answer Apart) → ApartAnswers text w₁ h.frame h.waiting C.S (Ok (record { top = top; waiting = waiting })) a → On (λ (z : Apart). length C.S.variables ≤ length z.variables) a → (h.top ≤ top) × (h.waiting ≤ waiting)
        by (refused why) i o = absurd i
        by (good a) i o = (omega (arith, o, i.scope.entries, C.here.scope.walkable.scope.entries), omega (arith, i.counted))

    pub values-taken : (r : Result Walk Refusal) (w' : List ℕ) → BodySays text w₂ n (under_lists_body text l.next h.at) r w' → LeaveSays text w h l x r w'
    values-taken r w' E = record {
      stepped = stepped_then h.more h.top h.waiting w w₂ w' below-stepped (stepped_less n.more h.more n.top h.top n.waiting h.waiting w₂ w' (omega (arith, ap (λ (m : Walk). m.more) B.state)) (omega (arith, values_above.0, ap (λ (m : Walk). m.top) B.state)) (omega (arith, values_above.1, ap (λ (m : Walk). m.waiting) B.state)) E.stepped);
      says = λ X most bottom k S K wish m c g held en t rd. by X most bottom k S K m c g wish held en t;
    }
      where
        below-stepped : LevelWrites h.more h.top h.waiting w w₂
        below-stepped = stepped_then h.more h.top h.waiting w w₁ w₂ apart-stepped (stepped_asks w₁ h (names_level (waiting - h.waiting)) h.frame top waiting h.at (Ok n) w₂ A₁ (asks-below w₁ h (names_level (waiting - h.waiting)) h.frame top waiting h.at n w₂ B))

        taken : (X : Text) (most bottom k : ℕ) (S : Scope) (K : List TermLevel) (m : Made) → h.more ≡ suc k → HereHeld text X most bottom w h S m.state K → (a : Answer Apart) → ApartAnswers text w₁ h.frame h.waiting S (Ok (record { top = top; waiting = waiting })) a → On (λ (z : Apart). length S.variables ≤ length z.variables) a → StepAnswers text X most bottom w' r (a >>= λ z. under_lists k (with_variables S z.variables) z.state (from text l.next) (words_at text h.at) (underLevel S z ∷ K))
        taken X most bottom k S K m c g (refused why) i o = absurd i
        taken X most bottom k S K m c g (good a) i o =
            let b = apart_below X most bottom k S K m c g a i o in
            subst (λ (j : ℕ). StepAnswers text X most bottom w' r (under_lists_body text l.next h.at j (with_variables S a.variables) a.state (underLevel S a ∷ K))) b.0 (E.says X most bottom (with_variables S a.variables) a.state (underLevel S a ∷ K) b.1)

        by : (X : Text) (most bottom k : ℕ) (S : Scope) (K : List TermLevel) (m : Made) → h.more ≡ suc k → HereHeld text X most bottom w h S m.state K → (wish : TermWish) → WishHeld text w h.top h.waiting l wish → h.top + entries_of wish ≤ most_entries → TermCame w x (h.waiting + halves_for wish) m → StepAnswers text X most bottom w' r (term_left X (bodies_in text w X) (term_here_with k S K) wish m (words_at text h.at))
        by X most bottom k S K m c g (of_function xs θ₀) hh en t = absurd (omega (arith, hh.0, form))
        by X most bottom k S K m c g (of_fix y θ₀) hh en t = absurd (omega (arith, hh.0, form))
        by X most bottom k S K m c g (value_of_name p y) hh en t = absurd (omega (arith, hh.0, form))
        by X most bottom k S K m c g (under_name y v) hh en t = absurd (omega (arith, hh.0, form))
        by X most bottom k S K m c g (under_names ps) hh en t = absurd (omega (arith, hh.0, form))
        by X most bottom k S K m c g (element q₀ before) hh en t = absurd (omega (arith, hh.0, form))
        by X most bottom k S K m c g (of_definition q₀ us) hh en t = absurd (omega (arith, hh.0, form))
        by X most bottom k S K m c g (value_of_names p xs us) (f, p', e', st', u') en t =
            let j₁ : length xs ≡ l.count = ap length e' ∙ names-length head_at behind l.count (from text l.next) in
            let there : leb (entries S + (length xs + length xs)) most_entries ≡ true = ap (λ (z : ℕ). leb (z + (length xs + length xs)) most_entries) g.scope.walkable.scope.entries ∙ ap (λ (z : ℕ). leb (h.top + (z + z)) most_entries) j₁ ∙ le-leb _ _ few in
            let F : List Word → Apart → Answer Terming = λ vs a. under_lists k (with_variables S a.variables) a.state vs (words_at text h.at) (underLevel S a ∷ K) in
            subst (λ (bb : Bool). StepAnswers text X most bottom w' r (need bb 34 p >>= λ _. apart_from S.variables xs m [] >>= F us)) (sym there) (
            subst (λ (vs : List Word). StepAnswers text X most bottom w' r (apart_from S.variables xs m [] >>= F vs)) (sym u') (
            subst (λ (zs : List Bound). StepAnswers text X most bottom w' r (apart_from S.variables zs m [] >>= F (from text l.next))) (sym e') (
            taken X most bottom k S K m c g (apart_from S.variables (listed_names text l.next l.count) m []) (apart-answers S m g.scope.walkable.scope g.scope.walkable.state t.term g.scope.walkable.level) (apart-longer S.variables (listed_names text l.next l.count) m []))))

  -- how many terms there are now
  pub values_most : l.form ≡ 4 → h.top + (l.count + l.count) ≤ most_entries → (y : Result ApartEnd Refusal) (top waiting : ℕ) (w₁ : List ℕ) → y ≡ Ok (record { top = top; waiting = waiting }) → ApartSays text w l.next l.count h.top h.waiting x y w₁ → (h.waiting ≤ waiting) × (waiting < 65536)
  values_most form few y top waiting w₁ ey P = by (apart_from C.S.variables (listed_names text l.next l.count) C.m []) (subst (λ (z : Result ApartEnd Refusal). ApartAnswers text w₁ h.frame h.waiting C.S z (apart_from C.S.variables (listed_names text l.next l.count) C.m [])) ey (P.says h.frame C.S C.m C.here.scope.walkable.level C.here.scope.walkable.scope C.here.scope.walkable.state C.came.term))
    where
      by : (a : Answer Apart) → ApartAnswers text w₁ h.frame h.waiting C.S (Ok (record { top = top; waiting = waiting })) a → (h.waiting ≤ waiting) × (waiting < 65536)
      by (refused why) i = absurd i
      by (good a) i = (omega (arith, i.counted), omega (arith, i.fewer, i.state.nodes, i.state.few))
