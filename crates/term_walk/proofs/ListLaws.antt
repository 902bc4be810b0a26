-- A list of names in the body that the walk is at: one law for each way. Assumes nothing.
use Prim.Native.Nat.{ℕ, zero, suc, ◌-◌, ◌≤◌, ◌<◌}
use mathlib.Core.Path.{◌≡◌, refl, sym, ap, subst, ◌∙◌}
use mathlib.Core.Bool.{Bool, cond}
use mathlib.Core.List.{List, [], ◌∷◌}
use native.Mathlib.Omega.{arith}
use lib.ListN.{length, get_or}
use Rattle.std.specs.Prelude.{Option, Some, None, Result, Ok, Err}
use Rattle.answers.specs.declared.Refusal.{Refusal}
use Rattle.answers.specs.declared.Reason.{Reason}
use Rattle.answers.specs.Refusals.{said_why, refusal_at}
use Rattle.made_nodes.specs.declared.Sub.{Sub}
use Rattle.calculus.specs.Answer.{Answer, good, refused, refuse, ◌>>=◌}
use Rattle.notation_calculus.specs.Words.{endRound, Sign, sign_code, Word}
use Rattle.notation_calculus.specs.Trees.{Bound, Text}
use Rattle.notation_calculus.specs.Grammar.{Got, behind, place, expect, list_from, nameless}
use Rattle.notation_calculus.specs.Making.{State, Scope, most_entries, node, variable}
use Rattle.notation_machine.specs.Lists.{head_at, next_list}
use Rattle.notation_machine.specs.TermMachine.{value_of_names, TermLevel, Terming, wanted_term, list_made, list_below}
use Rattle.words.specs.Next.{name_in, said_word}
use Rattle.words.specs.Lexed.{from, Lexed, Stands}
use Rattle.words.specs.declared.Word as code-word
use Rattle.words.proofs.LexLaws.{round_byte}
use Rattle.words.proofs.PlaceLaws.{name_round}
use Rattle.grammar.specs.Ends.{Ends}
use Rattle.grammar.specs.Skips.{expect_code}
use Rattle.grammar.proofs.EndLaws.{expect-code}
use Rattle.making_memory.specs.Map.{type_count_at, making_size}
use Rattle.made_nodes.specs.Forms.{VariableSays}
use Rattle.walk_levels.specs.declared.Level.{Level}
use Rattle.term_parts.specs.declared.names.NamesEnd.{NamesEnd}
use Rattle.term_parts.specs.declared.names.NextList.{NextList}
use Rattle.term_parts.specs.declared.variables.Look.{Look}
use Rattle.term_parts.specs.Names.{listed_names, NamesStand, ListedSay, NextRead, NextSays}
use Rattle.term_parts.specs.Parts.{CanLookAt, LookAtSays}
use Rattle.term_parts.proofs.LookFor.{looked_here, looked_nowhere, looked_typed}
use Rattle.term_walk.specs.declared.Walk.{Walk}
use Rattle.term_walk.specs.Looks.{words_at, ReadableFrom, Looks}
use Rattle.term_walk.specs.Holding.{HereHeld}
use Rattle.term_walk.specs.Steps.{walk_at, done_step, CanAskTerm, Below, Asks, StepAnswers, EnterSays, CanBound, CanBody, BodySays, ListStands, Opens, closed_by, list_made_entry, list_in_body, under_lists_body}
use Rattle.term_walk.proofs.LookLaws.{place_inside}
use Rattle.term_walk.proofs.HoldLaws.{stepped_none, stepped_then, stepped_made, here-now}
use Rattle.term_walk.proofs.StepLaws.{done_says, stepped_asks, asks-below, asked}
use Rattle.term_walk.proofs.AtomLaws.{counted-nodes, node_counts}

-- ---- a parenthesis

-- the nameless variable of a list has the name that its entry has
pub nameless-name : (text : List ℕ) (p : ℕ) → get_or text p 0 ≡ 40 → (nameless p).name ≡ name_in text p
nameless-name text p e = sym (name_round text p e)

-- ---- behind the items of a list

then_all : (m : Answer (List Word)) (go : List Word → Answer (List Word)) (F : List Word → Answer Terming) → (m >>= λ us. go us >>= F) ≡ ((m >>= go) >>= F)
then_all (good us) go F = refl
then_all (refused why) go F = refl

module _ (s : Sign) (ws : List Word) (F : List Word → Answer Terming) where
  closed-code : (expect endRound ws >>= λ us. expect s us >>= F) ≡ (closed_by (sign_code s) ws >>= F)
  closed-code = then_all (expect endRound ws) (λ us. expect s us) F ∙ ap (λ (m : Answer (List Word)). m >>= F) (ap (λ (m : Answer (List Word)). m >>= λ us. expect s us) (expect-code endRound ws) ∙ by (expect_code 12 ws))
    where
      by : (m : Answer (List Word)) → (m >>= λ us. expect s us) ≡ (m >>= λ us. expect_code (sign_code s) us)
      by (good us) = expect-code s us
      by (refused why) = refl

  pub closed_good : (text : List ℕ) (b q : ℕ) → Ends text b (closed_by (sign_code s) ws) (Ok q) → (expect endRound ws >>= λ us. expect s us >>= F) ≡ F (from text q)
  closed_good text b q E = closed-code ∙ ap (λ (m : Answer (List Word)). m >>= F) E.is

  pub closed_bad : (text : List ℕ) (b : ℕ) (z : Refusal) → Ends text b (closed_by (sign_code s) ws) (Err z) → (expect endRound ws >>= λ us. expect s us >>= F) ≡ refused (said_why z)
  closed_bad text b z E = closed-code ∙ ap (λ (m : Answer (List Word)). m >>= F) E

-- ---- the variable of a list is made

module _ (text w : List ℕ) (h : Walk) (round' from' count i ty at : ℕ) where
  abbrev xs : List Bound
  xs = listed_names text from' count

  pub made_none : h.more ≡ 1 → EnterSays text w h (list_made_entry text round' from' count i ty at) (Err (refusal_at Reason.TextLimit round')) w
  made_none e = record { stepped = stepped_none h.more h.top h.waiting w; says = λ X most bottom k S σ K c g. by X most bottom k S σ K (omega arith) }
    where
      by : (X : Text) (most bottom k : ℕ) (S : Scope) (σ : State) (K : List TermLevel) → k ≡ 0 → StepAnswers text X most bottom w (Err (refusal_at Reason.TextLimit round')) (list_made k S σ round' xs (from text from') i ty (words_at text at) K)
      by X most bottom zero S σ K z = refl
      by X most bottom (suc k) S σ K z = absurd (omega arith)

  abbrev values_level : Level
  values_level = record { form = 4; flag = 0; place = round'; count = count; node = 0; ty = 0; deep = 0; next = from' }

  pub made-goes :
      ¬ (h.more ≡ 1) → h.top ≤ most_entries → h.waiting ≤ 2048 → ty < get_or w type_count_at 0 → NamesStand head_at behind text from' count → ReadableFrom text at → CanAskTerm w h
      → (n : Walk) (w₁ : List ℕ) → Below w h values_level h.frame h.top h.waiting at n w₁ → (x : Result Sub Refusal) (w₂ : List ℕ) → VariableSays w₁ i ty round' x w₂
      → (r : Result Walk Refusal) → r ≡ done_step n x at → EnterSays text w h (list_made_entry text round' from' count i ty at) r w₂
  made-goes some top few known stand rd C n w₁ B x w₂ Y r e = record {
    stepped = stepped_then h.more h.top h.waiting w w₁ w₂ (stepped_asks w h values_level h.frame h.top h.waiting at (Ok n) w₁ C A) (stepped_made h.more h.top h.waiting w₁ w₂ top few Y.only);
    says = λ X most bottom k S σ K c g. rw e (by X most bottom k S σ K c g);
  }
    where
      A : Asks w h values_level h.frame h.top h.waiting at (Ok n) w₁
      A = asks-below w h values_level h.frame h.top h.waiting at n w₁ B

      by : (X : Text) (most bottom k : ℕ) (S : Scope) (σ : State) (K : List TermLevel) → h.more ≡ suc k → HereHeld text X most bottom w h S σ K → StepAnswers text X most bottom w₂ (done_step n x at) (list_made k S σ round' xs (from text from') i ty (words_at text at) K)
      by X most bottom zero S σ K c g = absurd (some c)
      by X most bottom (suc k) S σ K c g =
          let L : TermLevel = record { wish = value_of_names round' xs (from text from'); scope = S } in
          let held = asked text X most bottom w h S σ K (suc k) c g values_level (value_of_names round' xs (from text from')) h.frame h.top h.waiting at S (refl, refl, refl, stand, refl) (record { walkable = g.scope.walkable; above = omega (arith, g.scope.above, c); variables = g.scope.variables }) (omega arith) (omega arith) g.few rd (Ok n) w₁ A in
          let G : HereHeld text X most bottom w₁ n S σ (L ∷ K) = held.3 in
          let top' : n.top ≤ most_entries = omega (arith, ap (λ (m : Walk). m.top) B.state) in
          let few' : n.waiting ≤ 2048 = omega (arith, ap (λ (m : Walk). m.waiting) B.state) in
          done_says text X most bottom w₂ n S (L ∷ K) k at held.1 rd (here-now text X most bottom w₁ w₂ n S σ (L ∷ K) G (stepped_made n.more n.top n.waiting w₁ w₂ top' few' Y.only)) x (node round' (variable σ.table i ty) ty 0 [] σ) (Y.says σ G.scope.walkable.state (omega (arith, known, g.scope.walkable.state.types.count))) (counted-nodes n.waiting σ.nodes x _ G.few (node_counts round' (variable σ.table i ty) ty 0 [] σ))

-- the variable's type is one of the table
pub made_small : (text w : List ℕ) (h : Walk) (l : Level) (ty at : ℕ) → CanBound text w h ty at → CanAskTerm w h → (n : Walk) (w₁ : List ℕ) → Below w h l h.frame h.top h.waiting at n w₁ → (making_size ≤ length w₁) × (ty < 256)
made_small text w h l ty at D C n w₁ B =
    let H = D.can.here.scope.walkable.state in
    (omega (arith, C.room, (stepped_asks w h l h.frame h.top h.waiting at (Ok n) w₁ C (asks-below w h l h.frame h.top h.waiting at n w₁ B)).walked.same), omega (arith, D.known, H.types.count, H.types.ok.few))

-- ---- a list in the body

module _ (text w : List ℕ) (n : Walk) (round' from' count at : ℕ) where
  pub body-none : n.more ≡ 0 → BodySays text w n (list_in_body text round' from' count at) (Err (refusal_at Reason.TextLimit round')) w
  body-none e = record {
    stepped = stepped_none n.more n.top n.waiting w;
    says = λ X most bottom S σ K g. subst (λ (m : ℕ). StepAnswers text X most bottom w (Err (refusal_at Reason.TextLimit round')) (list_in_body text round' from' count at m S σ K)) (sym e) refl;
  }

  pub look_can : CanBody text w n → CanLookAt w n.frame n.top
  look_can C =
      let W = C.here.scope.walkable in
      record { room = W.room; most = W.scope.places.most; level = W.level; ordered = omega (arith, C.here.scope.variables, W.scope.entries) }

  module _ (some : ¬ (n.more ≡ 0)) (opens : get_or text round' 0 ≡ 40) (y : Option Look) (L : LookAtSays w round' n.frame n.top y) where
    pub body-nowhere : y ≡ None → BodySays text w n (list_in_body text round' from' count at) (Err (refusal_at Reason.OtherWordDue round')) w
    body-nowhere ey = record {
      stepped = stepped_none n.more n.top n.waiting w;
      says = λ X most bottom S σ K g. by X most bottom S σ K g n.more refl;
    }
      where
        by : (X : Text) (most bottom : ℕ) (S : Scope) (σ : State) (K : List TermLevel) → HereHeld text X most bottom w n S σ K → (m : ℕ) → n.more ≡ m → StepAnswers text X most bottom w (Err (refusal_at Reason.OtherWordDue round')) (list_in_body text round' from' count at m S σ K)
        by X most bottom S σ K g zero e = absurd (some e)
        by X most bottom S σ K g (suc k) e = subst (λ (a : Answer Terming). StepAnswers text X most bottom w (Err (refusal_at Reason.OtherWordDue round')) a) (sym (looked_nowhere (nameless round').name (λ i t. list_made k S σ round' (listed_names text from' count) (from text from') i t (words_at text at) K) (refuse 32 round') S.variables ((subst (LookAtSays w round' n.frame n.top) ey L).says text S opens g.scope.walkable.scope g.scope.variables))) refl

    module _ (i t : ℕ) (ey : y ≡ Some (record { number = i; ty = t })) where
      pub body-here : (r : Result Walk Refusal) (w' : List ℕ) → EnterSays text w n (list_made_entry text round' from' count i t at) r w' → BodySays text w n (list_in_body text round' from' count at) r w'
      body-here r w' E = record {
        stepped = E.stepped;
        says = λ X most bottom S σ K g. by X most bottom S σ K g n.more refl;
      }
        where
          by : (X : Text) (most bottom : ℕ) (S : Scope) (σ : State) (K : List TermLevel) → HereHeld text X most bottom w n S σ K → (m : ℕ) → n.more ≡ m → StepAnswers text X most bottom w' r (list_in_body text round' from' count at m S σ K)
          by X most bottom S σ K g zero e = absurd (some e)
          by X most bottom S σ K g (suc k) e = subst (λ (a : Answer Terming). StepAnswers text X most bottom w' r a) (sym (looked_here (nameless round').name (λ j θ. list_made k S σ round' (listed_names text from' count) (from text from') j θ (words_at text at) K) (refuse 32 round') S.variables i t ((subst (LookAtSays w round' n.frame n.top) ey L).says text S opens g.scope.walkable.scope g.scope.variables))) (E.says X most bottom k S σ K e g)

      pub body-can : CanBody text w n → ReadableFrom text at → CanBound text w n t at
      body-can C rd =
          let W = C.here.scope.walkable in
          let known = looked_typed (length C.σ.table) (nameless round').name C.S.variables i t W.variables ((subst (LookAtSays w round' n.frame n.top) ey L).says text C.S opens W.scope C.here.scope.variables) in
          record { can = record { X = C.X; most = C.most; bottom = C.bottom; k = n.more - 1; S = C.S; σ = C.σ; K = C.K; is = omega (arith, some); here = C.here }; readable = rd; known = omega (arith, known, W.state.types.count) }

-- ---- the next list, or the body itself

module _ (text w : List ℕ) (n : Walk) (next at : ℕ) where
  -- what is done where a list is next, or none is
  abbrev under_by : Bool → ℕ → Scope → State → List TermLevel → Answer Terming
  under_by b more S σ K = cond b (list_from head_at (length (next_list (from text next))) (behind (next_list (from text next))) >>= λ xs. list_below more S σ (place (next_list (from text next))) xs.value (behind (next_list (from text next))) (words_at text at) K) (good (wanted_term more S σ (behind (words_at text at)) K))

  pub under_none : NextSays text next None → (v : code-word.Word) → Looks text at v → (m : Walk) → m ≡ walk_at n v.end → BodySays text w n (under_lists_body text next at) (Ok m) w
  under_none N v looks m em = record {
    stepped = stepped_none n.more n.top n.waiting w;
    says = λ X most bottom S σ K g.
        subst (λ (b : Bool). StepAnswers text X most bottom w (Ok m) (under_by b n.more S σ K)) (sym N.0) (
        subst (λ (q : Walk). StepAnswers text X most bottom w (Ok q) (good (wanted_term n.more S σ (behind (words_at text at)) K))) (sym em)
        (refl, refl, record { is = looks.rest; readable = looks.readable }, record { scope = g.scope; few = g.few; levels = g.levels; nested = g.nested }));
  }

  module _ (l : NextList) (N : NextRead text next l) where
    abbrev us : List Word
    us = next_list (from text next)

    pub under_refused : (z : Refusal) → ListedSay text l.end (Err z) → BodySays text w n (under_lists_body text next at) (Err z) w
    under_refused z Y = record {
      stepped = stepped_none n.more n.top n.waiting w;
      says = λ X most bottom S σ K g.
          let O = N.opens in
          subst (λ (b : Bool). StepAnswers text X most bottom w (Err z) (under_by b n.more S σ K)) (sym N.found) (
          rw (ap (list_from head_at (length us)) O.rest ∙ Y (length us) O.fewer) refl);
    }

    pub under_some : (x : NamesEnd) → ListedSay text l.end (Ok x) → (r : Result Walk Refusal) (w' : List ℕ) → BodySays text w n (list_in_body text l.place l.end x.count at) r w' → BodySays text w n (under_lists_body text next at) r w'
    under_some x Y r w' E = record {
      stepped = E.stepped;
      says = λ X most bottom S σ K g.
          let O = N.opens in
          let F : ℕ → List Bound → List Word → Answer Terming = λ p ns vs. list_below n.more S σ p ns vs (words_at text at) K in
          subst (λ (b : Bool). StepAnswers text X most bottom w' r (under_by b n.more S σ K)) (sym N.found) (
          subst (λ (m : Answer (Got (List Bound))). StepAnswers text X most bottom w' r (m >>= λ xs. F (place us) xs.value (behind us))) (sym (ap (list_from head_at (length us)) O.rest ∙ Y.reads (length us) O.fewer)) (
          subst (λ (p : ℕ). StepAnswers text X most bottom w' r (F p (listed_names text l.end x.count) (behind us))) O.place (
          subst (λ (vs : List Word). StepAnswers text X most bottom w' r (F l.place (listed_names text l.end x.count) vs)) (sym O.rest) (E.says X most bottom S σ K g))));
    }

    pub under-stands : CanBody text w n → (x : NamesEnd) → ListedSay text l.end (Ok x) → ListStands text l.place l.end x.count
    under-stands C x Y = record { inside = omega (arith, N.opens.inside); opens = N.opens.byte; names = Y.stand; few = omega (arith, Y.few, C.here.scope.walkable.short) }

-- .. behind `fun`
pub opens_at : (text : List ℕ) (at : ℕ) → Lexed text at → (v : code-word.Word) → Stands text at (said_word v) → v.kind ≡ 11 → Opens text v.start at v.end
opens_at text at lexed v stands e =
    let o = stands.onward (λ z. omega arith) in
    record { place = stands.place; inside = omega (arith, stands.place, place_inside text at lexed.within); opens = ap (λ (p : ℕ). get_or text p 0) stands.place ∙ round_byte text at lexed.within (sym stands.code ∙ e); lexed = o.lexed; rest = o.rest; fewer = o.fewer }
