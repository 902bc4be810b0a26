-- A function whose variable is taken apart, when it is entered: one law for each way. Assumes nothing.
use Prim.Native.Nat.{ℕ, zero, suc, ◌+◌, ◌≤◌, ◌<◌}
use mathlib.Core.Path.{◌≡◌, refl, sym, ap, subst, ◌∙◌}
use mathlib.Core.Bool.{Bool, cond}
use mathlib.Core.List.{List, [], ◌∷◌}
use native.Mathlib.Omega.{arith}
use lib.Dec.{leb}
use lib.ListN.{length, get_or}
use Rattle.std.specs.Prelude.{Result, Ok, Err}
use Rattle.answers.specs.declared.Refusal.{Refusal}
use Rattle.answers.specs.Refusals.{said_why}
use Rattle.calculus.specs.Answer.{Answer, need, ◌>>=◌, refused}
use Rattle.notation_calculus.specs.Words.{round, endRound, colon, Word}
use Rattle.notation_calculus.specs.Trees.{Bound, Text}
use Rattle.notation_calculus.specs.Grammar.{Got, behind, place, is, expect, list_from, nameless}
use Rattle.notation_calculus.specs.Making.{State, Scope, bind, with_variables, entries, most_entries}
use Rattle.notation_machine.specs.Lists.{head_at}
use Rattle.notation_machine.specs.TypeFrom.{type_from}
use Rattle.notation_machine.specs.TermMachine.{of_function, TermLevel, Terming, list_below, pair_from, names_typed}
use Rattle.words.specs.Next.{said_word}
use Rattle.words.specs.Lexed.{from, Stands}
use Rattle.words.specs.declared.Word as code-word
use Rattle.grammar.specs.Ends.{Ends}
use Rattle.grammar.proofs.EndLaws.{is_yes, is_no}
use Rattle.making_memory.specs.Map.{type_count_at}
use Rattle.made_nodes.specs.Forms.{NamesIn}
use Rattle.walk_levels.specs.declared.Level.{Level}
use Rattle.term_walk.specs.declared.Walk.{Walk}
use Rattle.term_parts.specs.declared.names.NamesEnd.{NamesEnd}
use Rattle.term_parts.specs.Names.{listed_names, ListedSay}
use Rattle.term_parts.specs.Parts.{NameBound}
use Rattle.term_walk.specs.Looks.{words_at, ReadableFrom}
use Rattle.term_walk.specs.Holding.{LevelWrites, HereHeld}
use Rattle.term_walk.specs.Steps.{CanAskTerm, Below, StepAnswers, term_here_with, bodies_in, CanEnter, EnterSays, CanBody, BodySays, CanNames, ListStands, Opens, closed_by, list_in_body, pair_in_entry, pair_typed_entry, pair_entry, names_typed_entry, function_entry}
use Rattle.term_parts.proofs.Stay.{entries_state}
use Rattle.term_walk.proofs.LookLaws.{words-lexed}
use Rattle.term_walk.proofs.HoldLaws.{stepped_none, stepped_then, stepped_entries, stepped_less, here_stays}
use Rattle.term_walk.proofs.StepLaws.{stepped_asks, asks-below, asked}
use Rattle.term_walk.proofs.ListLaws.{nameless-name, closed_good, closed_bad, opens_at}
use Rattle.term_walk.proofs.BinderLaws.{Tail}

-- ---- the function waits for its body

module _ (text w : List ℕ) (h : Walk) (round' from' count ty at : ℕ) where
  abbrev pair_level : Level
  pair_level = record { form = 1; flag = 0; place = 0; count = 1; node = 0; ty = ty; deep = 0; next = 0 }

  abbrev in_scope_lem : Scope → Scope
  in_scope_lem S = with_variables S (bind (nameless round') ty S.variables)

  abbrev waiting : Scope → TermLevel
  waiting S = record { wish = of_function (nameless round' ∷ []) ty; scope = S }

  module _ (few : h.top + 1 ≤ most_entries) (small : h.waiting ≤ 2048) (known : ty < get_or w type_count_at 0) (stands : ListStands text round' from' count) (rd : ReadableFrom text at) (w₁ : List ℕ) (N : NameBound w h.top round' ty w₁) (C : CanAskTerm w₁ h) (n : Walk) (w₂ : List ℕ) (B : Below w₁ h pair_level h.frame (h.top + 1) h.waiting at n w₂) where
    bound-stepped : LevelWrites h.more h.top h.waiting w w₁
    bound-stepped = stepped_entries h.more h.top h.waiting h.top (h.top + 1) w w₁ (omega arith) few small N.only

    below-stepped : LevelWrites h.more h.top h.waiting w w₂
    below-stepped = stepped_then h.more h.top h.waiting w w₁ w₂ bound-stepped (stepped_asks w₁ h pair_level h.frame (h.top + 1) h.waiting at (Ok n) w₂ C (asks-below w₁ h pair_level h.frame (h.top + 1) h.waiting at n w₂ B))

    names_in : NamesIn w₁ h.top (nameless round' ∷ [])
    names_in zero l = let z : h.top + 0 ≡ h.top = omega arith in rw z N.placed
    names_in (suc i) l = absurd (omega arith)

    -- the walk is in the body, at the variable
    in-below : (X : Text) (most bottom k : ℕ) (S : Scope) (σ : State) (K : List TermLevel) → h.more ≡ suc k → HereHeld text X most bottom w h S σ K → (n.more ≡ k) × HereHeld text X most bottom w₂ n (in_scope_lem S) σ (waiting S ∷ K)
    in-below X most bottom k S σ K c g =
        let H = g.scope.walkable.state in
        let H₁ = entries_state h.top (h.top + 1) w w₁ few N.only σ H in
        let g₁ = here_stays text X most bottom w w₁ h S σ K g bound-stepped σ H₁ in
        let W = g₁.scope.walkable in
        let held = asked text X most bottom w₁ h S σ K k c g₁ pair_level (of_function (nameless round' ∷ []) ty) h.frame (h.top + 1) h.waiting at (in_scope_lem S) (refl, refl, refl, omega (arith, bound-stepped.walked.more_types), names_in) (record { walkable = record { short = W.short; room = W.room; level = W.level; clauses = W.clauses; state = W.state; scope = N.says text h.frame S (nameless round') g.scope.walkable.scope stands.inside (nameless-name text round' stands.opens); seen = W.seen; types = W.types; variables = (omega (arith, known, H.types.count), W.variables) }; above = omega (arith, g.scope.above, c); variables = g₁.scope.variables }) (omega arith) (omega arith) g₁.few rd (Ok n) w₂ (asks-below w₁ h pair_level h.frame (h.top + 1) h.waiting at n w₂ B) in
        (held.1, held.3)

    pub in-can : CanEnter text w h → CanBody text w₂ n
    in-can D = record { X = D.X; most = D.most; bottom = D.bottom; S = in_scope_lem D.S; σ = D.σ; K = waiting D.S ∷ D.K; here = (in-below D.X D.most D.bottom D.k D.S D.σ D.K D.is D.here).1 }

    pub in-goes : (r : Result Walk Refusal) (w' : List ℕ) → BodySays text w₂ n (list_in_body text round' from' count at) r w' → EnterSays text w h (pair_in_entry text round' from' count ty at) r w'
    in-goes r w' E = record {
      stepped = stepped_then h.more h.top h.waiting w w₂ w' below-stepped (stepped_less n.more h.more n.top h.top n.waiting h.waiting w₂ w' (omega (arith, ap (λ (m : Walk). m.more) B.state)) (omega (arith, ap (λ (m : Walk). m.top) B.state)) (omega (arith, ap (λ (m : Walk). m.waiting) B.state)) E.stepped);
      says = λ X most bottom k S σ K c g.
          let b = in-below X most bottom k S σ K c g in
          subst (λ (m : ℕ). StepAnswers text X most bottom w' r (list_in_body text round' from' count at m (in_scope_lem S) σ (waiting S ∷ K))) b.0 (E.says X most bottom (in_scope_lem S) σ (waiting S ∷ K) b.1);
    }

-- behind the type of the variable
abbrev pub pair_tail : List ℕ → ℕ → ℕ → ℕ → ℕ → Tail
pair_tail text place' round' from' count h ty σ us = need (leb (entries h.scope + 1) most_entries) 34 place' >>= λ _. list_below h.more (with_variables h.scope (bind (nameless round') ty h.scope.variables)) σ round' (listed_names text from' count) (from text from') us (record { wish = of_function (nameless round' ∷ []) ty; scope = h.scope } ∷ h.above)

-- ---- names first

module _ (text w : List ℕ) (h : Walk) (place' round' start at : ℕ) (O : Opens text round' start at) where
  pub pair_refused : (z : Refusal) → ListedSay text at (Err z) → EnterSays text w h (pair_entry text place' start) (Err z) w
  pair_refused z Y = record {
    stepped = stepped_none h.more h.top h.waiting w;
    says = λ X most bottom k S σ K c g. rw (ap (list_from head_at (length (from text start))) O.rest ∙ Y (length (from text start)) O.fewer) refl;
  }

  -- behind `:`, with the place of the parenthesis, the items and the words behind it
  abbrev pair_typed : Text → ℕ → Scope → State → List TermLevel → ℕ → List Bound → List Word → List Word → Answer Terming
  pair_typed X k S σ K p ns vs us = type_from X k S σ us >>= λ t. need (leb (entries S + 1) most_entries) 34 place' >>= λ _. list_below k (with_variables S (bind (nameless p) t.value.type S.variables)) t.value.state p ns vs t.rest (record { wish = of_function (nameless p ∷ []) t.value.type; scope = S } ∷ K)

  module _ (x : NamesEnd) (Y : ListedSay text at (Ok x)) where
    pair_is : (X : Text) (k : ℕ) (S : Scope) (σ : State) (K : List TermLevel) (G : Answer Terming) → (expect endRound (from text x.end) >>= λ us. expect colon us >>= λ vs. pair_typed X k S σ K round' (listed_names text at x.count) (from text at) vs) ≡ G → pair_entry text place' start X (bodies_in text w X) (term_here_with k S K) σ ≡ G
    pair_is X k S σ K G q =
        let F : ℕ → List Bound → List Word → List Word → Answer Terming = λ p ns vs us. expect endRound us >>= λ us₁. expect colon us₁ >>= λ us₂. pair_typed X k S σ K p ns vs us₂ in
        ap (λ (m : Answer (Got (List Bound))). m >>= λ xs. F (place (from text start)) xs.value (behind (from text start)) xs.rest) (ap (list_from head_at (length (from text start))) O.rest ∙ Y.reads (length (from text start)) O.fewer)
        ∙ ap (λ (p : ℕ). F p (listed_names text at x.count) (behind (from text start)) (from text x.end)) (sym O.place)
        ∙ ap (λ (vs : List Word). F round' (listed_names text at x.count) vs (from text x.end)) O.rest
        ∙ q

    pub pair-open : (z : Refusal) → Ends text (length (from text x.end)) (closed_by 15 (from text x.end)) (Err z) → EnterSays text w h (pair_entry text place' start) (Err z) w
    pair-open z C = record {
      stepped = stepped_none h.more h.top h.waiting w;
      says = λ X most bottom k S σ K c g. subst (λ (m : Answer Terming). StepAnswers text X most bottom w (Err z) m) (sym (pair_is X k S σ K (refused (said_why z)) (closed_bad colon (from text x.end) (pair_typed X k S σ K round' (listed_names text at x.count) (from text at)) text (length (from text x.end)) z C))) refl;
    }

    pub pair-named : (q : ℕ) → Ends text (length (from text x.end)) (closed_by 15 (from text x.end)) (Ok q) → (r : Result Walk Refusal) (w' : List ℕ) → EnterSays text w h (pair_typed_entry text place' round' at x.count q) r w' → EnterSays text w h (pair_entry text place' start) r w'
    pair-named q C r w' E = record {
      stepped = E.stepped;
      says = λ X most bottom k S σ K c g. subst (λ (m : Answer Terming). StepAnswers text X most bottom w' r m) (sym (pair_is X k S σ K (pair_typed X k S σ K round' (listed_names text at x.count) (from text at) (words_at text q)) (closed_good colon (from text x.end) (pair_typed X k S σ K round' (listed_names text at x.count) (from text at)) text (length (from text x.end)) q C ∙ ap (pair_typed X k S σ K round' (listed_names text at x.count) (from text at)) (sym (words-lexed text q C.lexed))))) (E.says X most bottom k S σ K c g);
    }

-- ---- names, or names in parentheses

module _ (text w : List ℕ) (h : Walk) (start at : ℕ) (N : CanNames text h start at) (v : code-word.Word) (stands : Stands text at (said_word v)) where
  pub opened : v.kind ≡ 11 → Opens text v.start at v.end
  opened e = opens_at text at N.lexed v stands e

  pub function_pair : v.kind ≡ 11 → (r : Result Walk Refusal) (w' : List ℕ) → EnterSays text w h (pair_entry text start at) r w' → EnterSays text w h (function_entry text h.at) r w'
  function_pair e r w' E = record {
    stepped = E.stepped;
    says = λ X most bottom k S σ K c g.
        let F : Bool → ℕ → List Word → Answer Terming = λ b p us. cond b (pair_from X (bodies_in text w X) (term_here_with k S K) σ p us) (names_typed X (bodies_in text w X) (term_here_with k S K) σ (words_at text h.at)) in
        subst (λ (us : List Word). StepAnswers text X most bottom w' r (F (is round us) (place (words_at text h.at)) us)) (sym N.rest) (
        subst (λ (p : ℕ). StepAnswers text X most bottom w' r (F (is round (from text at)) p (from text at))) N.place (
        subst (λ (b : Bool). StepAnswers text X most bottom w' r (F b start (from text at))) (sym (is_yes text at (said_word v) stands round e)) (E.says X most bottom k S σ K c g)));
  }

  pub function_plain : ¬ (v.kind ≡ 11) → (r : Result Walk Refusal) (w' : List ℕ) → EnterSays text w h (names_typed_entry text h.at) r w' → EnterSays text w h (function_entry text h.at) r w'
  function_plain e r w' E = record {
    stepped = E.stepped;
    says = λ X most bottom k S σ K c g.
        let F : Bool → List Word → Answer Terming = λ b us. cond b (pair_from X (bodies_in text w X) (term_here_with k S K) σ (place (words_at text h.at)) us) (names_typed X (bodies_in text w X) (term_here_with k S K) σ (words_at text h.at)) in
        subst (λ (us : List Word). StepAnswers text X most bottom w' r (F (is round us) us)) (sym N.rest) (
        subst (λ (b : Bool). StepAnswers text X most bottom w' r (F b (from text at))) (sym (is_no text at (said_word v) stands round e)) (E.says X most bottom k S σ K c g));
  }
