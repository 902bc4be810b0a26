-- Functions, fixed points and names for terms, when they are entered: one law for each way. Assumes nothing.
use Prim.Native.Nat.{ℕ, zero, suc, ◌+◌, ◌-◌, ◌≤◌, ◌<◌}
use mathlib.Core.Path.{◌≡◌, refl, sym, ap, subst, ◌∙◌}
use mathlib.Core.Bool.{Bool, true, false}
use mathlib.Core.List.{List, [], ◌∷◌}
use native.Mathlib.Omega.{arith}
use borrow.Author.Tests.{leb-true}
use lib.Dec.{leb}
use lib.ListN.{length, get_or}
use Rattle.std.specs.Prelude.{Result, Ok, Err}
use Rattle.answers.specs.declared.Refusal.{Refusal}
use Rattle.answers.specs.declared.Reason.{Reason}
use Rattle.answers.specs.Refusals.{said_why, refusal_at}
use Rattle.calculus.specs.Answer.{Answer, good, refused, need, ◌>>=◌}
use Rattle.notation_calculus.specs.Words.{round, endRound, equals, Word}
use Rattle.notation_calculus.specs.Trees.{Bound, Text}
use Rattle.notation_calculus.specs.Grammar.{Got, behind, place, expect, name_at, list_from, names_from}
use Rattle.notation_calculus.specs.Making.{State, Found, Scope, bind, bind_all, with_variables, entries, most_entries}
use Rattle.notation_calculus.specs.Making as Making
use Rattle.notation_machine.specs.Lists.{head_at}
use Rattle.notation_machine.specs.TypeFrom.{type_from}
use Rattle.notation_machine.specs.TermMachine.{TermWish, of_function, of_fix, value_of_name, value_of_names, TermLevel, Terming, TermHere, ask_term}
use Rattle.words.specs.Next.{said_word}
use Rattle.words.specs.Lexed.{from, Stands}
use Rattle.words.specs.declared.Word as code-word
use Rattle.grammar.specs.Ends.{Ends}
use Rattle.grammar.proofs.EndLaws.{is_yes, is_no}
use Rattle.making_memory.specs.Map.{type_count_at}
use Rattle.walk_levels.specs.declared.Level.{Level}
use Rattle.walks.specs.Walkable.{AllTyped, Walkable}
use Rattle.walks.specs.Says.{bound_at, TypeAnswers}
use Rattle.walks.specs.declared.TypeEnd.{TypeEnd}
use Rattle.term_walk.specs.declared.Walk.{Walk}
use Rattle.term_parts.specs.declared.names.NameEnd.{NameEnd}
use Rattle.term_parts.specs.declared.names.NamesEnd.{NamesEnd}
use Rattle.term_parts.specs.Names.{names_by, spaced, spaced_names, listed_names, NamesStand, NameSays, SpacedSay, ListedSay}
use Rattle.term_parts.specs.Parts.{NameBound, NamesBound}
use Rattle.term_walk.specs.Looks.{words_at, ReadableFrom, Looks}
use Rattle.term_walk.specs.Holding.{LevelWrites, entries_of, halves_for, WishHeld, HereHeld}
use Rattle.term_walk.specs.Steps.{CanAskTerm, Asks, StepAnswers, term_here_with, bodies_in, LevelEntry, CanEnter, EnterSays, CanBound, CanNames, NameStands, closed_by, BehindType, typed_entry, names_typed_entry, fix_typed_entry, fix_entry, value_entry, values_entry, names_entry, let_entry}
use Rattle.term_parts.proofs.Stay.{entries_state}
use Rattle.term_walk.proofs.LookLaws.{words-lexed}
use Rattle.term_walk.proofs.HoldLaws.{stepped_none, stepped_then, stepped_types, stepped_entries, here_stays}
use Rattle.term_walk.proofs.StepLaws.{stepped_asks, asked}
use Rattle.term_walk.proofs.ListLaws.{closed_good, closed_bad}

-- ---- names, and types of variables

pub names-length : (one : List Word → Answer (Got Bound)) (next : List Word → List Word) (n : ℕ) (ws : List Word) → length (names_by one next n ws) ≡ n
names-length one next zero ws = refl
names-length one next (suc n) ws = ap suc (names-length one next n _)

bound_typed : (n t : ℕ) → t < n → (xs : List Bound) (Γ : List Making.Entry) → AllTyped n Γ → AllTyped n (bind_all xs t Γ)
bound_typed n t h [] Γ a = a
bound_typed n t h (x ∷ xs) Γ a = bound_typed n t h xs (bind x t Γ) (h, a)

pub leb_less : (a b : ℕ) → leb (a + 1) b ≡ true → a < b
leb_less a b e = omega (arith, leb-true (a + 1) b e)

pub room-sum : (a b : ℕ) → leb (a + b) most_entries ≡ true → a + b ≤ most_entries
room-sum a b e = leb-true (a + b) most_entries e

-- ---- no room

module _ (text w : List ℕ) (h : Walk) (at count : ℕ) where
  -- so many entries more are too many
  pub room_refused : (F : LevelEntry) → leb (h.top + count) most_entries ≡ false → EnterSays text w h (λ X bodies h' σ. need (leb (entries h'.scope + count) most_entries) 34 at >>= λ _. F X bodies h' σ) (Err (refusal_at Reason.TextLimit at)) w
  room_refused F e = record {
    stepped = stepped_none h.more h.top h.waiting w;
    says = λ X most bottom k S σ K c g. subst (λ (b : Bool). StepAnswers text X most bottom w (Err (refusal_at Reason.TextLimit at)) (need b 34 at >>= λ _. F X (bodies_in text w X) (term_here_with k S K) σ)) (sym (ap (λ (n : ℕ). leb (n + count) most_entries) g.scope.walkable.scope.entries ∙ e)) refl;
  }

  -- .. or there is room
  pub room_there : (F : LevelEntry) → leb (h.top + count) most_entries ≡ true → (r : Result Walk Refusal) (w' : List ℕ) → EnterSays text w h F r w' → EnterSays text w h (λ X bodies h' σ. need (leb (entries h'.scope + count) most_entries) 34 at >>= λ _. F X bodies h' σ) r w'
  room_there F e r w' E = record {
    stepped = E.stepped;
    says = λ X most bottom k S σ K c g. subst (λ (b : Bool). StepAnswers text X most bottom w' r (need b 34 at >>= λ _. F X (bodies_in text w X) (term_here_with k S K) σ)) (sym (ap (λ (n : ℕ). leb (n + count) most_entries) g.scope.walkable.scope.entries ∙ e)) (E.says X most bottom k S σ K c g);
  }

-- ---- the names are bound

module _ (text w : List ℕ) (h : Walk) (from' count ty at : ℕ) (few : h.top + count ≤ most_entries) (small : h.waiting ≤ 2048) (known : ty < get_or w type_count_at 0) (v : code-word.Word) (looks : Looks text at v) where
  abbrev xs : List Bound
  xs = spaced_names text from' count

  abbrev function_level : Level
  function_level = record { form = 1; flag = 0; place = 0; count = count; node = 0; ty = ty; deep = 0; next = 0 }

  pub function_asks :
      (w₁ : List ℕ) → NamesBound text w from' count h.top ty w₁ → CanAskTerm w₁ h → (r : Result Walk Refusal) (w' : List ℕ) → Asks w₁ h function_level h.frame (h.top + count) h.waiting v.end r w'
      → EnterSays text w h (λ X bodies h' σ. good (ask_term h' (of_function xs ty) (with_variables h'.scope (bind_all xs ty h'.scope.variables)) σ (behind (words_at text at)))) r w'
  function_asks w₁ B C r w' A = record {
    stepped = stepped_then h.more h.top h.waiting w w₁ w' st (stepped_asks w₁ h function_level h.frame (h.top + count) h.waiting v.end r w' C A);
    says = λ X most bottom k S σ K c g.
        let H = g.scope.walkable.state in
        let H₁ = entries_state h.top (h.top + count) w w₁ few B.only σ H in
        let g₁ = here_stays text X most bottom w w₁ h S σ K g st σ H₁ in
        let n = names-length name_at spaced count (from text from') in
        let W = g₁.scope.walkable in
        subst (λ (us : List Word). StepAnswers text X most bottom w' r (good (ask_term (term_here_with k S K) (of_function xs ty) (with_variables S (bind_all xs ty S.variables)) σ us))) (sym looks.rest) (
        asked text X most bottom w₁ h S σ K k c g₁ function_level (of_function xs ty) h.frame (h.top + count) h.waiting v.end (with_variables S (bind_all xs ty S.variables)) (refl, sym n, refl, omega (arith, st.walked.more_types), B.names) (record { walkable = record { short = W.short; room = W.room; level = W.level; clauses = W.clauses; state = W.state; scope = B.says h.frame S g.scope.walkable.scope; seen = W.seen; types = W.types; variables = bound_typed (length σ.table) ty (omega (arith, known, H.types.count)) xs S.variables W.variables }; above = omega (arith, g.scope.above, c); variables = g₁.scope.variables }) (omega (arith, n)) (omega arith) g₁.few looks.readable r w' A);
  }
    where
      st : LevelWrites h.more h.top h.waiting w w₁
      st = stepped_entries h.more h.top h.waiting h.top (h.top + count) w w₁ (omega arith) few small B.only

-- a name is bound, for any wish that needs no entry
module _ (text w : List ℕ) (h : Walk) (name ty at : ℕ) (few : h.top + 1 ≤ most_entries) (small : h.waiting ≤ 2048) (known : ty < get_or w type_count_at 0) (stands : NameStands text name) (v : code-word.Word) (looks : Looks text at v) where
  abbrev fix_level : Level
  fix_level = record { form = 2; flag = 0; place = name; count = 0; node = 0; ty = ty; deep = 0; next = 0 }

  pub fix_asks :
      (w₁ : List ℕ) → NameBound w h.top name ty w₁ → CanAskTerm w₁ h → (r : Result Walk Refusal) (w' : List ℕ) → Asks w₁ h fix_level h.frame (h.top + 1) h.waiting v.end r w'
      → EnterSays text w h (λ X bodies h' σ. good (ask_term h' (of_fix (bound_at text name) ty) (with_variables h'.scope (bind (bound_at text name) ty h'.scope.variables)) σ (behind (words_at text at)))) r w'
  fix_asks w₁ B C r w' A = record {
    stepped = stepped_then h.more h.top h.waiting w w₁ w' st (stepped_asks w₁ h fix_level h.frame (h.top + 1) h.waiting v.end r w' C A);
    says = λ X most bottom k S σ K c g.
        let H = g.scope.walkable.state in
        let H₁ = entries_state h.top (h.top + 1) w w₁ few B.only σ H in
        let g₁ = here_stays text X most bottom w w₁ h S σ K g st σ H₁ in
        let W = g₁.scope.walkable in
        subst (λ (us : List Word). StepAnswers text X most bottom w' r (good (ask_term (term_here_with k S K) (of_fix (bound_at text name) ty) (with_variables S (bind (bound_at text name) ty S.variables)) σ us))) (sym looks.rest) (
        asked text X most bottom w₁ h S σ K k c g₁ fix_level (of_fix (bound_at text name) ty) h.frame (h.top + 1) h.waiting v.end (with_variables S (bind (bound_at text name) ty S.variables)) (refl, refl, refl, omega (arith, st.walked.more_types)) (record { walkable = record { short = W.short; room = W.room; level = W.level; clauses = W.clauses; state = W.state; scope = B.says text h.frame S (bound_at text name) g.scope.walkable.scope stands.inside (sym stands.plain); seen = W.seen; types = W.types; variables = (omega (arith, known, H.types.count), W.variables) }; above = omega (arith, g.scope.above, c); variables = g₁.scope.variables }) (omega arith) (omega arith) g₁.few looks.readable r w' A);
  }
    where
      st : LevelWrites h.more h.top h.waiting w w₁
      st = stepped_entries h.more h.top h.waiting h.top (h.top + 1) w w₁ (omega arith) few small B.only

-- ---- a colon, and a type

abbrev pub Tail : Type 0
Tail = TermHere → ℕ → State → List Word → Answer Terming

module _ (text w : List ℕ) (h : Walk) (at : ℕ) (us : List Word) (is_at : us ≡ words_at text at) (small : h.waiting ≤ 2048) where
  type-words : (X : Text) (k : ℕ) (S : Scope) (σ : State) → type_from X k S σ (words_at text at) ≡ type_from X k S σ us
  type-words X k S σ = ap (type_from X k S σ) (sym is_at)

  type-says : (x : Result TypeEnd Refusal) (w₁ : List ℕ) → BehindType text w at (h.more - 1) h.frame h.top x w₁ → (y : Result TypeEnd Refusal) → x ≡ y → (X : Text) (k : ℕ) (S : Scope) (σ : State) → h.more ≡ suc k → Walkable text w h.frame h.top X S σ → TypeAnswers text w₁ y (type_from X k S σ us)
  type-says x w₁ T y e X k S σ c W =
      let one : h.more - 1 ≡ k = omega arith in
      subst (λ (z : Result TypeEnd Refusal). TypeAnswers text w₁ z (type_from X k S σ us)) e (subst (TypeAnswers text w₁ x) (type-words X k S σ) (subst (λ (j : ℕ). TypeAnswers text w₁ x (type_from X j S σ (words_at text at))) one (T.says X S σ W)))

  stepped-type : (x : Result TypeEnd Refusal) (w₁ : List ℕ) → BehindType text w at (h.more - 1) h.frame h.top x w₁ → LevelWrites h.more h.top h.waiting w w₁
  stepped-type x w₁ T = stepped_types h.more (h.more - 1) h.top h.waiting w w₁ (omega arith) small T.walked

  type-refuses : (w₁ : List ℕ) (z : Refusal) (m : Answer (Got Found)) → TypeAnswers text w₁ (Err z) m → m ≡ refused (said_why z)
  type-refuses w₁ z (good g) i = absurd i
  type-refuses w₁ z (refused why) i = ap refused i

  pub typed_refused : (F : Tail) (x : Result TypeEnd Refusal) (w₁ : List ℕ) (z : Refusal) → x ≡ Err z → BehindType text w at (h.more - 1) h.frame h.top x w₁ → EnterSays text w h (λ X bodies h' σ. type_from X h'.more h'.scope σ us >>= λ t. F h' t.value.type t.value.state t.rest) (Err z) w₁
  typed_refused F x w₁ z e T = record {
    stepped = stepped-type x w₁ T;
    says = λ X most bottom k S σ K c g. rw (type-refuses w₁ z (type_from X k S σ us) (type-says x w₁ T (Err z) e X k S σ c g.scope.walkable)) refl;
  }

  pub typed_bound : (F : Tail) (x : Result TypeEnd Refusal) (w₁ : List ℕ) (ty end : ℕ) → x ≡ Ok (record { ty = ty; end = end }) → BehindType text w at (h.more - 1) h.frame h.top x w₁ → (r : Result Walk Refusal) (w' : List ℕ) → EnterSays text w₁ h (λ X bodies h' σ. F h' ty σ (words_at text end)) r w' → EnterSays text w h (λ X bodies h' σ. type_from X h'.more h'.scope σ us >>= λ t. F h' t.value.type t.value.state t.rest) r w'
  typed_bound F x w₁ ty end e T r w' E = record {
    stepped = stepped_then h.more h.top h.waiting w w₁ w' (stepped-type x w₁ T) E.stepped;
    says = λ X most bottom k S σ K c g. by X most bottom k S σ K c g (type_from X k S σ us) (type-says x w₁ T (Ok (record { ty = ty; end = end })) e X k S σ c g.scope.walkable);
  }
    where
      by : (X : Text) (most bottom k : ℕ) (S : Scope) (σ : State) (K : List TermLevel) → h.more ≡ suc k → HereHeld text X most bottom w h S σ K → (m : Answer (Got Found)) → TypeAnswers text w₁ (Ok (record { ty = ty; end = end })) m → StepAnswers text X most bottom w' r (m >>= λ t. F (term_here_with k S K) t.value.type t.value.state t.rest)
      by X most bottom k S σ K c g (refused why) i = absurd i
      by X most bottom k S σ K c g (good t) i =
          let g₁ = here_stays text X most bottom w w₁ h S σ K g (stepped-type x w₁ T) t.value.state i.state in
          subst (λ (vs : List Word). StepAnswers text X most bottom w' r (F (term_here_with k S K) t.value.type t.value.state vs)) (words-lexed text end i.rest.lexed ∙ sym i.rest.is) (
          subst (λ (θ : ℕ). StepAnswers text X most bottom w' r (F (term_here_with k S K) θ t.value.state (words_at text end))) i.type (E.says X most bottom k S t.value.state K c g₁))

  -- the level is there, with the type
  pub typed_can : CanEnter text w h → (x : Result TypeEnd Refusal) (w₁ : List ℕ) (ty end : ℕ) → x ≡ Ok (record { ty = ty; end = end }) → BehindType text w at (h.more - 1) h.frame h.top x w₁ → CanBound text w₁ h ty end
  typed_can D x w₁ ty end e T = by (type_from D.X D.k D.S D.σ us) (type-says x w₁ T (Ok (record { ty = ty; end = end })) e D.X D.k D.S D.σ D.is D.here.scope.walkable)
    where
      by : (m : Answer (Got Found)) → TypeAnswers text w₁ (Ok (record { ty = ty; end = end })) m → CanBound text w₁ h ty end
      by (refused why) i = absurd i
      by (good t) i = record { can = record { X = D.X; most = D.most; bottom = D.bottom; k = D.k; S = D.S; σ = t.value.state; K = D.K; is = D.is; here = here_stays text D.X D.most D.bottom w w₁ h D.S D.σ D.K D.here (stepped-type x w₁ T) t.value.state i.state }; readable = λ _. i.rest.lexed; known = omega (arith, i.known, i.state.types.count) }

-- behind the type of a function's names, and of a fixed point's
abbrev pub function_tail : List ℕ → ℕ → ℕ → ℕ → Tail
function_tail text place' from' count h ty σ us = need (leb (entries h.scope + count) most_entries) 34 place' >>= λ _. good (ask_term h (of_function (spaced_names text from' count) ty) (with_variables h.scope (bind_all (spaced_names text from' count) ty h.scope.variables)) σ (behind us))

abbrev pub fix_tail : List ℕ → ℕ → ℕ → Tail
fix_tail text place' nm h ty σ us = need (leb (entries h.scope + 1) most_entries) 34 place' >>= λ _. good (ask_term h (of_fix (bound_at text nm) ty) (with_variables h.scope (bind (bound_at text nm) ty h.scope.variables)) σ (behind us))

-- ---- names first

module _ (text w : List ℕ) (h : Walk) (start at : ℕ) (N : CanNames text h start at) where
  pub function_refused : (z : Refusal) → SpacedSay text at (Err z) → EnterSays text w h (names_typed_entry text h.at) (Err z) w
  function_refused z Y = record {
    stepped = stepped_none h.more h.top h.waiting w;
    says = λ X most bottom k S σ K c g. rw (ap (names_from (length (words_at text h.at))) N.rest ∙ Y (length (words_at text h.at)) N.fewer) refl;
  }

  pub function_named : (x : NamesEnd) → SpacedSay text at (Ok x) → (r : Result Walk Refusal) (w' : List ℕ) → EnterSays text w h (typed_entry text start at x.count x.end) r w' → EnterSays text w h (names_typed_entry text h.at) r w'
  function_named x Y r w' E = record {
    stepped = E.stepped;
    says = λ X most bottom k S σ K c g.
        let ns = spaced_names text at x.count in
        let F : ℕ → ℕ → List Word → Answer Terming = λ n p us. type_from X k S σ (behind us) >>= λ t. need (leb (entries S + n) most_entries) 34 p >>= λ _. good (ask_term (term_here_with k S K) (of_function ns t.value.type) (with_variables S (bind_all ns t.value.type S.variables)) t.value.state (behind t.rest)) in
        subst (λ (m : Answer (Got (List Bound))). StepAnswers text X most bottom w' r (m >>= λ xs. type_from X k S σ (behind xs.rest) >>= λ t. need (leb (entries S + length xs.value) most_entries) 34 (place (words_at text h.at)) >>= λ _. good (ask_term (term_here_with k S K) (of_function xs.value t.value.type) (with_variables S (bind_all xs.value t.value.type S.variables)) t.value.state (behind t.rest)))) (sym (ap (names_from (length (words_at text h.at))) N.rest ∙ Y.reads (length (words_at text h.at)) N.fewer)) (
        subst (λ (n : ℕ). StepAnswers text X most bottom w' r (F n (place (words_at text h.at)) (from text x.end))) (sym (names-length name_at spaced x.count (from text at))) (
        subst (λ (p : ℕ). StepAnswers text X most bottom w' r (F x.count p (from text x.end))) N.place (
        subst (λ (us : List Word). StepAnswers text X most bottom w' r (F x.count start us)) (words-lexed text x.end Y.lexed) (E.says X most bottom k S σ K c g))));
  }

  pub fix_refused : (z : Refusal) → NameSays text at (Err z) → EnterSays text w h (fix_entry text h.at) (Err z) w
  fix_refused z Y = record {
    stepped = stepped_none h.more h.top h.waiting w;
    says = λ X most bottom k S σ K c g. rw (ap name_at N.rest ∙ Y) refl;
  }

  pub fix_named : (x : NameEnd) → NameSays text at (Ok x) → (r : Result Walk Refusal) (w' : List ℕ) → EnterSays text w h (fix_typed_entry text start x.place x.end) r w' → EnterSays text w h (fix_entry text h.at) r w'
  fix_named x Y r w' E = record {
    stepped = E.stepped;
    says = λ X most bottom k S σ K c g.
        let b = bound_at text x.place in
        let F : ℕ → List Word → Answer Terming = λ p us. type_from X k S σ (behind us) >>= λ t. need (leb (entries S + 1) most_entries) 34 p >>= λ _. good (ask_term (term_here_with k S K) (of_fix b t.value.type) (with_variables S (bind b t.value.type S.variables)) t.value.state (behind t.rest)) in
        subst (λ (m : Answer (Got Bound)). StepAnswers text X most bottom w' r (m >>= λ y. type_from X k S σ (behind y.rest) >>= λ t. need (leb (entries S + 1) most_entries) 34 (place (words_at text h.at)) >>= λ _. good (ask_term (term_here_with k S K) (of_fix y.value t.value.type) (with_variables S (bind y.value t.value.type S.variables)) t.value.state (behind t.rest)))) (sym (ap name_at N.rest ∙ Y.reads)) (
        subst (λ (p : ℕ). StepAnswers text X most bottom w' r (F p (from text x.end))) N.place (
        subst (λ (us : List Word). StepAnswers text X most bottom w' r (F start us)) (words-lexed text x.end Y.onward.lexed) (E.says X most bottom k S σ K c g)));
  }

-- ---- values

module _ (text w : List ℕ) (h : Walk) (C : CanAskTerm w h) where
  -- a value is wanted in the scope of the level
  pub value-asks : (lv : Level) (x : TermWish) (at end : ℕ) → WishHeld text w h.top h.waiting lv x → ((top : ℕ) → top + entries_of x ≤ top) → ((waiting : ℕ) → waiting + halves_for x ≤ waiting) → ReadableFrom text end → (us : List Word) → us ≡ words_at text end → (r : Result Walk Refusal) (w' : List ℕ) → Asks w h lv h.frame h.top h.waiting end r w' → EnterSays text w h (λ X bodies h' σ. good (ask_term h' x h'.scope σ us)) r w'
  value-asks lv x at end held e₁ e₂ rd us eu r w' A = record {
    stepped = stepped_asks w h lv h.frame h.top h.waiting end r w' C A;
    says = λ X most bottom k S σ K c g. subst (λ (vs : List Word). StepAnswers text X most bottom w' r (good (ask_term (term_here_with k S K) x S σ vs))) (sym eu) (asked text X most bottom w h S σ K k c g lv x h.frame h.top h.waiting end S held (record { walkable = g.scope.walkable; above = omega (arith, g.scope.above, c); variables = g.scope.variables }) (e₁ h.top) (e₂ h.waiting) g.few rd r w' A);
  }

  pub name-asks : (at' nm at : ℕ) → NameStands text nm → (v : code-word.Word) → Looks text at v → (r : Result Walk Refusal) (w' : List ℕ) → Asks w h (record { form = 3; flag = 0; place = at'; count = 0; node = 0; ty = 0; deep = 0; next = nm }) h.frame h.top h.waiting v.end r w' → EnterSays text w h (value_entry text at' nm at) r w'
  name-asks at' nm at stands v looks r w' A = value-asks _ (value_of_name at' (bound_at text nm)) at v.end (refl, refl, refl, sym stands.plain, stands.inside) (λ t. omega arith) (λ t. omega arith) looks.readable (behind (words_at text at)) looks.rest r w' A

  pub names_ask : (at' from' count at : ℕ) → NamesStand head_at behind text from' count → ReadableFrom text at → (r : Result Walk Refusal) (w' : List ℕ) → Asks w h (record { form = 4; flag = 0; place = at'; count = count; node = 0; ty = 0; deep = 0; next = from' }) h.frame h.top h.waiting at r w' → EnterSays text w h (values_entry text at' from' count at) r w'
  names_ask at' from' count at stand rd r w' A = value-asks _ (value_of_names at' (listed_names text from' count) (from text from')) at at (refl, refl, refl, stand, refl) (λ t. omega arith) (λ t. omega arith) rd (words_at text at) refl r w' A

-- names in parentheses
module _ (text w : List ℕ) (h : Walk) (at' start at : ℕ) (rest : behind (from text start) ≡ from text at) (fewer : length (from text at) < length (from text start)) where
  pub names_refused : (z : Refusal) → ListedSay text at (Err z) → EnterSays text w h (names_entry text at' start) (Err z) w
  names_refused z Y = record {
    stepped = stepped_none h.more h.top h.waiting w;
    says = λ X most bottom k S σ K c g. rw (ap (list_from head_at (length (from text start))) rest ∙ Y (length (from text start)) fewer) refl;
  }

  module _ (x : NamesEnd) (Y : ListedSay text at (Ok x)) where
    -- behind `=`
    abbrev valued : ℕ → Scope → State → List TermLevel → List Word → Answer Terming
    valued k S σ K us = good (ask_term (term_here_with k S K) (value_of_names at' (listed_names text at x.count) (from text at)) S σ us)

    names-are : (X : Text) (k : ℕ) (S : Scope) (σ : State) (K : List TermLevel) (G : Answer Terming) → (expect endRound (from text x.end) >>= λ us. expect equals us >>= valued k S σ K) ≡ G → names_entry text at' start X (bodies_in text w X) (term_here_with k S K) σ ≡ G
    names-are X k S σ K G q =
        let F : List Bound → List Word → List Word → Answer Terming = λ ns vs us. expect endRound us >>= λ us₁. expect equals us₁ >>= λ us₂. good (ask_term (term_here_with k S K) (value_of_names at' ns vs) S σ us₂) in
        ap (λ (m : Answer (Got (List Bound))). m >>= λ xs. F xs.value (behind (from text start)) xs.rest) (ap (list_from head_at (length (from text start))) rest ∙ Y.reads (length (from text start)) fewer)
        ∙ ap (λ (vs : List Word). F (listed_names text at x.count) vs (from text x.end)) rest
        ∙ q

    pub names-open : (z : Refusal) → Ends text (length (from text x.end)) (closed_by 13 (from text x.end)) (Err z) → EnterSays text w h (names_entry text at' start) (Err z) w
    names-open z C = record {
      stepped = stepped_none h.more h.top h.waiting w;
      says = λ X most bottom k S σ K c g. subst (λ (m : Answer Terming). StepAnswers text X most bottom w (Err z) m) (sym (names-are X k S σ K (refused (said_why z)) (closed_bad equals (from text x.end) (valued k S σ K) text (length (from text x.end)) z C))) refl;
    }

    pub names-named : (q : ℕ) → Ends text (length (from text x.end)) (closed_by 13 (from text x.end)) (Ok q) → (r : Result Walk Refusal) (w' : List ℕ) → EnterSays text w h (values_entry text at' at x.count q) r w' → EnterSays text w h (names_entry text at' start) r w'
    names-named q C r w' E = record {
      stepped = E.stepped;
      says = λ X most bottom k S σ K c g. subst (λ (m : Answer Terming). StepAnswers text X most bottom w' r m) (sym (names-are X k S σ K (valued k S σ K (words_at text q)) (closed_good equals (from text x.end) (valued k S σ K) text (length (from text x.end)) q C ∙ ap (valued k S σ K) (sym (words-lexed text q C.lexed))))) (E.says X most bottom k S σ K c g);
    }

-- `let`
module _ (text w : List ℕ) (h : Walk) (at' at : ℕ) (v : code-word.Word) (stands : Stands text at (said_word v)) where
  pub let_names : v.kind ≡ 11 → (r : Result Walk Refusal) (w' : List ℕ) → EnterSays text w h (names_entry text at' at) r w' → EnterSays text w h (let_entry text at' at) r w'
  let_names e r w' E = record { stepped = E.stepped; says = λ X most bottom k S σ K c g. rw (is_yes text at (said_word v) stands round e) (E.says X most bottom k S σ K c g) }

  pub let_refused : ¬ (v.kind ≡ 11) → (z : Refusal) → NameSays text at (Err z) → EnterSays text w h (let_entry text at' at) (Err z) w
  let_refused e z Y = record { stepped = stepped_none h.more h.top h.waiting w; says = λ X most bottom k S σ K c g. rw (is_no text at (said_word v) stands round e, Y) refl }

  pub let_name : ¬ (v.kind ≡ 11) → (x : NameEnd) → NameSays text at (Ok x) → (r : Result Walk Refusal) (w' : List ℕ) → EnterSays text w h (value_entry text at' x.place x.end) r w' → EnterSays text w h (let_entry text at' at) r w'
  let_name e x Y r w' E = record {
    stepped = E.stepped;
    says = λ X most bottom k S σ K c g. rw (is_no text at (said_word v) stands round e, Y.reads) (subst (λ (us : List Word). StepAnswers text X most bottom w' r (good (ask_term (term_here_with k S K) (value_of_name at' (bound_at text x.place)) S σ (behind us)))) (words-lexed text x.end Y.onward.lexed) (E.says X most bottom k S σ K c g));
  }
