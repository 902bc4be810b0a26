-- Atoms: one law for each way through the functions of `atoms`. Assumes nothing.
use Prim.Native.Nat.{ℕ, zero, suc, ◌+◌, ◌-◌, ◌≤◌, ◌<◌}
use mathlib.Core.Path.{◌≡◌, refl, sym, ap, subst, ◌∙◌}
use mathlib.Core.Bool.{Bool, true, false}
use mathlib.Core.List.{List, [], ◌∷◌}
use native.Mathlib.Omega.{arith}
use borrow.Author.Tests.{eq-eqb, ne_eqb}
use lib.Dec.{eqb, leb, ltb}
use lib.ListN.{length, get_or, take}
use Rattle.std.specs.Prelude.{Option, Some, None, Result, Ok, Err}
use Rattle.answers.specs.declared.Refusal.{Refusal}
use Rattle.answers.specs.declared.Reason.{Reason}
use Rattle.answers.specs.Refusals.{said_why, refusal_at}
use Rattle.made_nodes.specs.declared.Sub.{Sub}
use Rattle.calculus.specs.Answer.{Answer, good, refused, numbered, ◌>>=◌, need}
use Rattle.calculus.specs.Record.{All}
use Rattle.calculus.specs.Types.{size, TyRec, rec02, rec03, ty_of, tys_from}
use Rattle.calculus.specs.Read.{formed, repeated}
use Rattle.calculus.specs.Terms.{Edition, first, second, is_second, Term, con, part_at}
use Rattle.notation_calculus.specs.Words.{Name, round, square, curly, Token, sign, part, number, name, Word}
use Rattle.notation_calculus.specs.Trees.{Bound, Clause, Text}
use Rattle.notation_calculus.specs.Grammar.{Got, peek, behind, place, numbers_at, begins_atom}
use Rattle.notation_calculus.specs.Making.{State, Found, Scope, listed, entries, numbers_in, Put, meant, clause_for, one_put, FoundAll, Made, node, variable, part_type, part_of, most_entries}
use Rattle.notation_theorems.proofs.Answering.{On, on_step, on_any, on_either, on_map}
use Rattle.notation_machine.specs.Bodies.{words_for}
use Rattle.notation_machine.specs.TypeFrom.{types_from}
use Rattle.notation_machine.specs.TermMachine.{some, Spine, element, of_definition, TermLevel, Terming, TermHere, ask_term, behind_atom, term_put_in, term_named_at, atom_entered}
use Rattle.words.specs.Tables.{token_code, token_value}
use Rattle.words.specs.Next.{run_at, Said}
use Rattle.words.specs.Lexed.{from, Lexed}
use Rattle.words.specs.declared.Word as code-word
use Rattle.words.specs.Marks.{Marks}
use Rattle.grammar.proofs.EndLaws.{sign_not, token_is, is_yes, mark-stands, mark_no}
use Rattle.making_memory.specs.Map.{type_count_at, second_at_lem}
use Rattle.made_nodes.specs.Held.{SmallMade, MadeOnly, Workable}
use Rattle.made_nodes.proofs.Terms.{workable_on}
use Rattle.made_nodes.specs.Forms.{EditionIn, VariableSays, PartSays}
use Rattle.clauses.specs.Meant.{values_in}
use Rattle.clauses.specs.Rows.{flag_of}
use Rattle.walk_levels.specs.declared.Level.{Level}
use Rattle.walks.specs.Says.{bound_at, PutThere, put_from, PutAnswers, PutSays, TypesAnswer, TypesSay}
use Rattle.walks.specs.declared.PutAt.{PutAt}
use Rattle.walks.specs.declared.PutAt.{PutAt}
use Rattle.walks.specs.declared.TypesEnd.{TypesEnd}
use Rattle.walks.proofs.Kept.{bodies_on}
use Rattle.term_walk.specs.declared.Walk.{Walk}
use Rattle.term_walk.specs.declared.Left.{Left}
use Rattle.term_parts.specs.declared.variables.Look.{Look}
use Rattle.term_parts.specs.Parts.{LookSays}
use Rattle.term_walk.specs.Looks.{words_at, ReadableFrom, Looks}
use Rattle.term_walk.specs.Holding.{LevelWrites, LeftHeld, HereHeld}
use Rattle.term_walk.specs.Steps.{done_step, part_level, CanAskTerm, Asks, CanEnter, CanAtom, CanApplyMade, StepAnswers, term_here_with, bodies_in, AtomEntry, AtomSays, TypesWait, clause_entry, put_entry, plain_entry, named_entry, atom_entry, MadeNodes, MadeSays, ApplicationSays}
use Rattle.term_parts.proofs.LookFor.{looked_here, looked_nowhere, looked_typed}
use Rattle.term_walk.proofs.LookLaws.{words-lexed}
use Rattle.term_walk.proofs.HoldLaws.{stepped_none, stepped_then, stepped_types, stepped_made, left_stays, here_stays, here-now, levels_within}
use Rattle.term_walk.proofs.StepLaws.{left_again, done_says, stepped_asks, asked}

-- ---- refusals pass

pub refused_on : {A : Type 0} (text : List ℕ) (X : Text) (most bottom : ℕ) (w : List ℕ) (z : Refusal) (m : Answer A) (f : A → Answer Terming) → m ≡ refused (said_why z) → StepAnswers text X most bottom w (Err z) (m >>= f)
refused_on text X most bottom w z m f e = rw e refl

-- ---- what a walkable memory has

pub here-room : (text : List ℕ) (X : Text) (most bottom : ℕ) (w : List ℕ) (h : Walk) (S : Scope) (σ : State) (K : List TermLevel) → HereHeld text X most bottom w h S σ K → (h.top ≤ most_entries) × (h.waiting ≤ 2048) × (h.more ≤ 80)
here-room text X most bottom w h S σ K g = (g.scope.walkable.scope.places.most, omega (arith, g.few, g.scope.walkable.state.few), omega (arith, g.nested, (levels_within text X most bottom w σ h.more h.top h.waiting K g.levels).0))

pub here_workable : (text : List ℕ) (X : Text) (most bottom : ℕ) (w : List ℕ) (h : Walk) (S : Scope) (σ : State) (K : List TermLevel) → HereHeld text X most bottom w h S σ K → Workable w
here_workable text X most bottom w h S σ K g = record { room = g.scope.walkable.room; few = omega (arith, g.scope.walkable.state.types.count, g.scope.walkable.state.types.ok.few) }

-- the memory says which edition the text is of
pub edition_in : (w : List ℕ) (X : Text) → get_or w second_at_lem 0 ≡ flag_of (is_second X.edition) → EditionIn w X.edition
edition_in w X e = ap (λ (n : ℕ). eqb n 1) e ∙ by (is_second X.edition)
  where
    by : (b : Bool) → eqb (flag_of b) 1 ≡ b
    by true = refl
    by false = refl

-- ---- a definition put in

put-refuses : (text w : List ℕ) (X : Text) (into : ℕ) (z : Refusal) (m : Answer PutThere) → PutAnswers text w X into (Err z) m → m ≡ refused (said_why z)
put-refuses text w X into z (good p) i = absurd i
put-refuses text w X into z (refused why) i = ap refused i

-- a clause is put in over the entries that there are
clause_above : (under : ℕ) (all cs : List Clause) (i : ℕ) (sort : Bool) (n : Name) (ts ns : List ℕ) (at : ℕ) → On (λ (p : Put). under ≤ p.scope.under) (clause_for under all cs i sort n ts ns at)
clause_above under all [] i sort n ts ns at = tt
clause_above under all (c ∷ cs) i sort n ts ns at = on_either (λ (p : Put). under ≤ p.scope.under) (meant c sort n (length ts) ns) _ _ (omega arith) (clause_above under all cs (suc i) sort n ts ns at)

put-above : (X : Text) (bodies : List (List Word)) (S : Scope) (σ : State) (x : Bound) (ts : List ℕ) (ws : List Word) → On (λ (y : PutThere). entries S ≤ y.scope.under) (put_from X bodies false S σ x ts ws)
unfolding put_from
put-above X bodies S σ x ts ws = on_any P (numbers_at ws) _ λ ks. on_any P (numbers_in S x.place (length ts) ks.value) _ λ ns. on_step (λ (p : Put). entries S ≤ p.scope.under) P (clause_for (entries S) X.clauses (take S.seen X.clauses) 0 false x.name ts ns x.place) _ (clause_above (entries S) X.clauses (take S.seen X.clauses) 0 false x.name ts ns x.place) λ p h. on_any P (one_put σ p.cost x.place) _ λ σ₁. h
  where
    P : PutThere → Type 0
    P y = entries S ≤ y.scope.under

types_typed : (n k : ℕ) → n ≡ k → (ts : List ℕ) → All (λ (t : ℕ). t < n) ts → All (λ (t : ℕ). t < k) ts
types_typed n k e ts a = subst (λ (j : ℕ). All (λ (t : ℕ). t < j) ts) e a

module _ (text w : List ℕ) (h : Walk) (s : Left) (name at types : ℕ) (wait : TypesWait w h.top types) (some : 1 ≤ h.more) where
  put-stepped : (h.waiting ≤ 2048) → (r : Result PutAt Refusal) (w' : List ℕ) → PutSays text w false name at types h.frame h.top (h.more - 1) r w' → LevelWrites h.more h.top h.waiting w w'
  put-stepped few r w' P = stepped_types h.more (suc (h.more - 1)) h.top h.waiting w w' (omega arith) few P.walked

  pub clause_refused : h.waiting ≤ 2048 → (z : Refusal) (x : Result PutAt Refusal) (w' : List ℕ) → x ≡ Err z → PutSays text w false name at types h.frame h.top (h.more - 1) x w' → AtomSays text w h s (clause_entry text w name at h.top types) (Err z) w'
  clause_refused few z x w' e P = record {
    stepped = put-stepped few x w' P;
    says = λ X most bottom k S σ K p c g l.
        let a = P.says X S σ g.scope.walkable (types_typed _ _ g.scope.walkable.state.types.count (values_in w h.top types) wait) in
        refused_on text X most bottom w' z (put_from X (bodies_in text w X) false S σ (bound_at text name) (values_in w h.top types) (from text at)) _ (put-refuses text w' X (h.more - 1) z _ (subst (λ (y : Result PutAt Refusal). PutAnswers text w' X (h.more - 1) y (put_from X (bodies_in text w X) false S σ (bound_at text name) (values_in w h.top types) (from text at))) e a));
  }

  pub clause_put : h.waiting ≤ 2048 → (x : Result PutAt Refusal) (q : PutAt) (w₁ : List ℕ) → CanAskTerm w₁ h → x ≡ Ok q → PutSays text w false name at types h.frame h.top (h.more - 1) x w₁ → (lv : Level) → lv ≡ part_level 8 s 0 q.end → (r : Result Walk Refusal) (w' : List ℕ) → Asks w₁ h lv (h.more - 1) q.top h.waiting q.body r w' → AtomSays text w h s (clause_entry text w name at h.top types) r w'
  clause_put few x q w₁ C e P lv el r w' A₀ = record {
    stepped = stepped_then h.more h.top h.waiting w w₁ w' (put-stepped few x w₁ P) (stepped_asks w₁ h (part_level 8 s 0 q.end) (h.more - 1) q.top h.waiting q.body r w' C A);
    says = λ X most bottom k S σ K p c g l. by X most bottom k S σ K p c g l (put_from X (bodies_in text w X) false S σ (bound_at text name) (values_in w h.top types) (from text at)) (subst (λ (y : Result PutAt Refusal). PutAnswers text w₁ X (h.more - 1) y (put_from X (bodies_in text w X) false S σ (bound_at text name) (values_in w h.top types) (from text at))) e (P.says X S σ g.scope.walkable (types_typed _ _ g.scope.walkable.state.types.count (values_in w h.top types) wait))) (put-above X (bodies_in text w X) S σ (bound_at text name) (values_in w h.top types) (from text at));
  }
    where
      A : Asks w₁ h (part_level 8 s 0 q.end) (h.more - 1) q.top h.waiting q.body r w'
      A = subst (λ (y : Level). Asks w₁ h y (h.more - 1) q.top h.waiting q.body r w') el A₀

      by : (X : Text) (most bottom k : ℕ) (S : Scope) (σ : State) (K : List TermLevel) (p : Spine) → h.more ≡ suc k → HereHeld text X most bottom w h S σ K → LeftHeld w s p → (m : Answer PutThere) → PutAnswers text w₁ X (h.more - 1) (Ok q) m → On (λ (y : PutThere). entries S ≤ y.scope.under) m → StepAnswers text X most bottom w' r (m >>= λ y. good (ask_term (term_here_with k S K) (of_definition p y.rest) y.scope y.state y.body))
      by X most bottom k S σ K p c g l (refused why) i o = absurd i
      by X most bottom k S σ K p c g l (good y) i o =
          let st = put-stepped few x w₁ P in
          let g₁ = here_stays text X most bottom w w₁ h S σ K g st y.state i.walkable.state in
          let l₁ = left_stays h.more h.top h.waiting w w₁ st s p l in
          subst (λ (us : List Word). StepAnswers text X most bottom w' r (good (ask_term (term_here_with k S K) (of_definition p y.rest) y.scope y.state us))) (words-lexed text q.body i.body.lexed ∙ sym i.body.is) (
          asked text X most bottom w₁ h S y.state K k c g₁ (part_level 8 s 0 q.end) (of_definition p y.rest) (h.more - 1) q.top h.waiting q.body y.scope (refl, left_again w₁ s p 8 0 q.end l₁, i.rest.is, i.rest.lexed) (record { walkable = i.walkable; above = omega (arith, c); variables = i.variables }) (omega (arith, o, g.scope.walkable.scope.entries, i.walkable.scope.entries)) (omega arith) g₁.few (λ _. i.body.lexed) r w' A)

-- ---- type arguments first

-- one answer after another
bind-both : {A B C : Type 0} (m : Answer A) (f : A → Answer B) (g : B → Answer C) (k : A → Answer C) → ((a : A) → (f a >>= g) ≡ k a) → ((m >>= f) >>= g) ≡ (m >>= k)
bind-both (good a) f g k e = e a
bind-both (refused why) f g k e = refl

put_is : (X : Text) (bodies : List (List Word)) (h : TermHere) (p : Spine) (σ : State) (x : Bound) (ts : List ℕ) (ws : List Word) → (put_from X bodies false h.scope σ x ts ws >>= λ q. good (ask_term h (of_definition p q.rest) q.scope q.state q.body)) ≡ (numbers_at ws >>= λ ks. numbers_in h.scope x.place (length ts) ks.value >>= λ ns. clause_for (entries h.scope) X.clauses (take h.scope.seen X.clauses) 0 false x.name ts ns x.place >>= λ q. one_put σ q.cost x.place >>= λ σ₁. good (ask_term h (of_definition p ks.rest) q.scope σ₁ (words_for bodies (take h.scope.seen X.clauses) false x.name (length ts) ns)))
unfolding put_from
put_is X bodies h p σ x ts ws = bind-both (numbers_at ws) _ _ _ λ ks. bind-both (numbers_in h.scope x.place (length ts) ks.value) _ _ _ λ ns. bind-both (clause_for (entries h.scope) X.clauses (take h.scope.seen X.clauses) 0 false x.name ts ns x.place) _ _ _ λ q. bind-both (one_put σ q.cost x.place) _ _ _ λ σ₁. refl

types-refuse : (text w : List ℕ) (top : ℕ) (z : Refusal) (m : Answer (Got FoundAll)) → TypesAnswer text w top (Err z) m → m ≡ refused (said_why z)
types-refuse text w top z (good g) i = absurd i
types-refuse text w top z (refused why) i = ap refused i

module _ (text w : List ℕ) (h : Walk) (s : Left) (name at : ℕ) where
  more-is : (k : ℕ) → h.more ≡ suc k → h.more - 1 ≡ k
  more-is k c = omega arith

  pub put_refused : h.waiting ≤ 2048 → (z : Refusal) (x : Result TypesEnd Refusal) (w' : List ℕ) → x ≡ Err z → TypesSay text w at (h.more - 1) h.frame h.top name x w' → AtomSays text w h s (put_entry text name at) (Err z) w'
  put_refused few z x w' e P = record {
    stepped = stepped_types h.more (h.more - 1) h.top h.waiting w w' (omega arith) few P.walked;
    says = λ X most bottom k S σ K p c g l.
        refused_on text X most bottom w' z (types_from X k S name σ (from text at)) _ (types-refuse text w' h.top z _ (subst (λ (y : Result TypesEnd Refusal). TypesAnswer text w' h.top y (types_from X k S name σ (from text at))) e (subst (λ (j : ℕ). TypesAnswer text w' h.top x (types_from X j S name σ (from text at))) (more-is k c) (P.says X S σ g.scope.walkable))));
  }

  pub put-behind :
      h.waiting ≤ 2048 → (n end : ℕ) (x : Result TypesEnd Refusal) (w₁ : List ℕ) → x ≡ Ok (record { count = n; end = end }) → TypesSay text w at (h.more - 1) h.frame h.top name x w₁
      → (r : Result Walk Refusal) (w' : List ℕ) → AtomSays text w₁ h s (clause_entry text w₁ name end h.top n) r w' → AtomSays text w h s (put_entry text name at) r w'
  put-behind few n end x w₁ e P r w' A = record {
    stepped = stepped_then h.more h.top h.waiting w w₁ w' st A.stepped;
    says = λ X most bottom k S σ K p c g l. by X most bottom k S σ K p c g l (types_from X k S name σ (from text at)) (subst (λ (y : Result TypesEnd Refusal). TypesAnswer text w₁ h.top y (types_from X k S name σ (from text at))) e (subst (λ (j : ℕ). TypesAnswer text w₁ h.top x (types_from X j S name σ (from text at))) (more-is k c) (P.says X S σ g.scope.walkable)));
  }
    where
      st : LevelWrites h.more h.top h.waiting w w₁
      st = stepped_types h.more (h.more - 1) h.top h.waiting w w₁ (omega arith) few P.walked

      tail : (X : Text) (bodies : List (List Word)) (h' : TermHere) (p : Spine) → Got FoundAll → Answer Terming
      tail X bodies h' p ts = numbers_at ts.rest >>= λ ks. numbers_in h'.scope name (length ts.value.types) ks.value >>= λ ns. clause_for (entries h'.scope) X.clauses (take h'.scope.seen X.clauses) 0 false (run_at text name) ts.value.types ns name >>= λ q. one_put ts.value.state q.cost name >>= λ σ₁. good (ask_term h' (of_definition p ks.rest) q.scope σ₁ (words_for bodies (take h'.scope.seen X.clauses) false (run_at text name) (length ts.value.types) ns))

      by : (X : Text) (most bottom k : ℕ) (S : Scope) (σ : State) (K : List TermLevel) (p : Spine) → h.more ≡ suc k → HereHeld text X most bottom w h S σ K → LeftHeld w s p → (m : Answer (Got FoundAll)) → TypesAnswer text w₁ h.top (Ok (record { count = n; end = end })) m → StepAnswers text X most bottom w' r (m >>= λ ts. tail X (bodies_in text w X) (term_here_with k S K) p ts)
      by X most bottom k S σ K p c g l (refused why) i = absurd i
      by X most bottom k S σ K p c g l (good ts) i =
          let g₁ = here_stays text X most bottom w w₁ h S σ K g st ts.value.state i.state in
          let l₁ = left_stays h.more h.top h.waiting w w₁ st s p l in
          let same : bodies_in text w₁ X ≡ bodies_in text w X = bodies_on (h.more - 1) h.top text w w₁ P.walked 0 (length X.clauses) (omega (arith, g.scope.walkable.clauses.rows.few)) in
          subst (λ (bs : List (List Word)). StepAnswers text X most bottom w' r (tail X bs (term_here_with k S K) p ts)) same (
          subst (λ (us : List Word). StepAnswers text X most bottom w' r (tail X (bodies_in text w₁ X) (term_here_with k S K) p (record { value = ts.value; rest = us }))) (sym i.rest.is) (
          subst (λ (vs : List ℕ). StepAnswers text X most bottom w' r (tail X (bodies_in text w₁ X) (term_here_with k S K) p (record { value = record { types = vs; state = ts.value.state }; rest = from text end }))) i.types (
          subst (λ (m : Answer Terming). StepAnswers text X most bottom w' r m) (put_is X (bodies_in text w₁ X) (term_here_with k S K) p ts.value.state (bound_at text name) (values_in w₁ h.top n) (from text end)) (A.says X most bottom k S ts.value.state K p c g₁ l₁))))

-- ---- variables

pub node_counts : (at : ℕ) (e : Term) (t below : ℕ) (places : List ℕ) (σ : State) → On (λ (m : Made). suc σ.nodes ≤ m.state.nodes) (node at e t below places σ)
unfolding node
node_counts at e t below places σ = on_any (λ (m : Made). suc σ.nodes ≤ m.state.nodes) (need (ltb σ.nodes 2048) 34 at) _ λ _. on_any (λ (m : Made). suc σ.nodes ≤ m.state.nodes) (need (ltb below 64) 34 at) _ λ _. omega arith

listed-nodes : (σ : State) (r : TyRec) (at : ℕ) → On (λ (x : Found). x.state.nodes ≡ σ.nodes) (listed σ r at)
unfolding listed
listed-nodes σ r at = on_either P (repeated σ.table r) _ _ refl (on_any P (need (formed σ.table r) 35 at) _ λ _. on_any P (need (leb (size (ty_of (tys_from [] σ.table) r)) 128) 34 at) _ λ _. on_any P (need (ltb (length σ.table) 256) 34 at) _ λ _. refl)
  where
    P : Found → Type 0
    P x = x.state.nodes ≡ σ.nodes

part_type-nodes : (E : Edition) (k : ℕ) (σ : State) (at : ℕ) → On (λ (x : Found). x.state.nodes ≡ σ.nodes) (part_type E k σ at)
part_type-nodes E zero σ at = refl
part_type-nodes E (suc zero) σ at = listed-nodes σ (rec03 0 0) at
part_type-nodes first (suc (suc k)) σ at = on_step (λ (x : Found). x.state.nodes ≡ σ.nodes) (λ (x : Found). x.state.nodes ≡ σ.nodes) (listed σ (rec03 0 0) at) _ (listed-nodes σ (rec03 0 0) at) λ x h. on_map (λ (y : Found). y.state.nodes ≡ x.state.nodes) (λ (y : Found). y.state.nodes ≡ σ.nodes) (listed x.state (rec03 0 x.type) at) (listed-nodes x.state (rec03 0 x.type) at) λ y k. k ∙ h
part_type-nodes second (suc (suc k)) σ at = on_step (λ (x : Found). x.state.nodes ≡ σ.nodes) (λ (x : Found). x.state.nodes ≡ σ.nodes) (listed σ (rec02 0 0) at) _ (listed-nodes σ (rec02 0 0) at) λ x h. on_map (λ (y : Found). y.state.nodes ≡ x.state.nodes) (λ (y : Found). y.state.nodes ≡ σ.nodes) (listed x.state (rec03 x.type 0) at) (listed-nodes x.state (rec03 x.type 0) at) λ y k. k ∙ h

part-counts : (E : Edition) (σ : State) (at p : ℕ) → On (λ (m : Made). suc σ.nodes ≤ m.state.nodes) (part_of E σ at p)
part-counts E σ at p = on_step (λ (x : Found). x.state.nodes ≡ σ.nodes) (λ (m : Made). suc σ.nodes ≤ m.state.nodes) (part_type E (part_at p).inputs σ at) _ (part_type-nodes E (part_at p).inputs σ at) λ t h. on_map (λ (m : Made). suc t.state.nodes ≤ m.state.nodes) (λ (m : Made). suc σ.nodes ≤ m.state.nodes) (node at (con p t.type) t.type 0 [] t.state) (node_counts at (con p t.type) t.type 0 [] t.state) λ m q. omega arith

pub counted-nodes : (waiting n : ℕ) (r : Result Sub Refusal) (a : Answer Made) → waiting ≤ n → On (λ (m : Made). suc n ≤ m.state.nodes) a → MadeNodes waiting r a
counted-nodes waiting n (Ok x) (good m) h o = omega arith
counted-nodes waiting n (Ok x) (refused why) h o = tt
counted-nodes waiting n (Err e) a h o = tt

module _ (text w : List ℕ) (h : Walk) (s : Left) (name at : ℕ) (lexed : Lexed text at) where
  pub plain-none : (x : Option Look) → x ≡ None → LookSays text w name h.frame h.top x → (r : Result Walk Refusal) (w' : List ℕ) → AtomSays text w h s (put_entry text name at) r w' → AtomSays text w h s (plain_entry text name at) r w'
  plain-none x ex L₀ r w' A = let L = subst (LookSays text w name h.frame h.top) ex L₀ in record {
    stepped = A.stepped;
    says = λ X most bottom k S σ K p c g l. subst (λ (m : Answer Terming). StepAnswers text X most bottom w' r m) (sym (looked_nowhere (run_at text name) (λ i t. node name (variable σ.table i t) t 0 [] σ >>= λ m. behind_atom (term_here_with k S K) p m (from text at)) (term_put_in X (bodies_in text w X) (term_here_with k S K) p σ (bound_at text name) (from text at)) S.variables (L.says S g.scope.walkable.scope g.scope.variables))) (A.says X most bottom k S σ K p c g l);
  }

  pub plain_here :
      h.top ≤ most_entries → h.waiting ≤ 2048 → (i t : ℕ) (y : Option Look) → y ≡ Some (record { number = i; ty = t }) → LookSays text w name h.frame h.top y → (x : Result Sub Refusal) (w₁ : List ℕ) → VariableSays w i t name x w₁ → (r : Result Walk Refusal) (w' : List ℕ)
      → MadeSays w₁ h s x at r w' → AtomSays text w h s (plain_entry text name at) r w'
  plain_here top few i t y ey L₀ x w₁ Q r w' M =
      let L = subst (LookSays text w name h.frame h.top) ey L₀ in
      let st = stepped_made h.more h.top h.waiting w w₁ top few Q.only in
      record {
        stepped = stepped_then h.more h.top h.waiting w w₁ w' st (M.stepped top few);
        says = λ X most bottom k S σ K p c g l.
            let y = L.says S g.scope.walkable.scope g.scope.variables in
            let H = g.scope.walkable.state in
            subst (λ (m : Answer Terming). StepAnswers text X most bottom w' r m) (sym (looked_here (run_at text name) (λ i t. node name (variable σ.table i t) t 0 [] σ >>= λ m. behind_atom (term_here_with k S K) p m (from text at)) (term_put_in X (bodies_in text w X) (term_here_with k S K) p σ (bound_at text name) (from text at)) S.variables i t y)) (
            subst (λ (us : List Word). StepAnswers text X most bottom w' r (node name (variable σ.table i t) t 0 [] σ >>= λ m. behind_atom (term_here_with k S K) p m us)) (words-lexed text at lexed) (
            M.says text X most bottom k S K p (node name (variable σ.table i t) t 0 [] σ) c (λ _. lexed) (here-now text X most bottom w w₁ h S σ K g st) (Q.says σ H (looked_typed (length σ.table) (run_at text name) S.variables i t g.scope.walkable.variables y)) (counted-nodes h.waiting σ.nodes x _ g.few (node_counts name (variable σ.table i t) t 0 [] σ)) (left_stays h.more h.top h.waiting w w₁ st s p l)));
      }

  -- ---- arguments, or none

  module _ (v : Said) (m : Marks text at v) where
    pub named_square : v.code ≡ 17 → (r : Result Walk Refusal) (w' : List ℕ) → AtomSays text w h s (put_entry text name at) r w' → AtomSays text w h s (named_entry text name at) r w'
    named_square e r w' A = record { stepped = A.stepped; says = λ X most bottom k S σ K p c g l. rw (is_yes text at v (mark-stands text at v m 17 e (λ z. omega arith)) square e) (A.says X most bottom k S σ K p c g l) }

    pub named_curly : ¬ (v.code ≡ 17) → v.code ≡ 19 → (r : Result Walk Refusal) (w' : List ℕ) → AtomSays text w h s (put_entry text name at) r w' → AtomSays text w h s (named_entry text name at) r w'
    named_curly n e r w' A = record { stepped = A.stepped; says = λ X most bottom k S σ K p c g l. rw (mark_no text at v square m.square n, is_yes text at v (mark-stands text at v m 19 e (λ z. omega arith)) curly e) (A.says X most bottom k S σ K p c g l) }

    pub named-plain : ¬ (v.code ≡ 17) → ¬ (v.code ≡ 19) → (r : Result Walk Refusal) (w' : List ℕ) → AtomSays text w h s (plain_entry text name at) r w' → AtomSays text w h s (named_entry text name at) r w'
    named-plain n e r w' A = record { stepped = A.stepped; says = λ X most bottom k S σ K p c g l. rw (mark_no text at v square m.square n, mark_no text at v curly m.curly e) (A.says X most bottom k S σ K p c g l) }

-- ---- what the calls ask

-- the level and what stands left are there after nodes were made
pub can_made : (text w : List ℕ) (h : Walk) (s : Left) → CanAtom text w h s → (w₁ : List ℕ) → MadeOnly w w₁ → (x : Result Sub Refusal) → SmallMade x → CanApplyMade w₁ s x
can_made text w h s C w₁ o (Ok x) small =
    let D = C.can in
    let b = here-room text D.X D.most D.bottom w h D.S D.σ D.K D.here in
    record { workable = workable_on w w₁ (here_workable text D.X D.most D.bottom w h D.S D.σ D.K D.here) o; type = small; p = C.p; left = left_stays h.more h.top h.waiting w w₁ (stepped_made h.more h.top h.waiting w w₁ b.0 b.1 o) s C.p C.left }
can_made text w h s C w₁ o (Err e) small = tt

pub enter-room : (text w : List ℕ) (h : Walk) → CanEnter text w h → (h.top ≤ most_entries) × (h.waiting ≤ 2048) × (h.more ≤ 80)
enter-room text w h D = here-room text D.X D.most D.bottom w h D.S D.σ D.K D.here

pub enter_workable : (text w : List ℕ) (h : Walk) → CanEnter text w h → Workable w
enter_workable text w h D = here_workable text D.X D.most D.bottom w h D.S D.σ D.K D.here

-- a variable's type is one of the table
pub look_small : (text w : List ℕ) (h : Walk) (nm i t : ℕ) → CanEnter text w h → (y : Option Look) → y ≡ Some (record { number = i; ty = t }) → LookSays text w nm h.frame h.top y → t < 256
look_small text w h nm i t D y ey L₀ =
    let W = D.here.scope.walkable in
    let L = subst (LookSays text w nm h.frame h.top) ey L₀ in
    omega (arith, looked_typed (length D.σ.table) (run_at text nm) D.S.variables i t W.variables (L.says D.S W.scope D.here.scope.variables), W.state.types.ok.few)

-- the words behind a definition's nm and arguments begin in the text
pub put_end_small : (text w : List ℕ) (h : Walk) (nm at types : ℕ) → CanEnter text w h → TypesWait w h.top types → (x : Result PutAt Refusal) (q : PutAt) (w₁ : List ℕ) → x ≡ Ok q → PutSays text w false nm at types h.frame h.top (h.more - 1) x w₁ → q.end < 65536
put_end_small text w h nm at types D wait x q w₁ e P =
    let W = D.here.scope.walkable in
    by (put_from D.X (bodies_in text w D.X) false D.S D.σ (bound_at text nm) (values_in w h.top types) (from text at)) (subst (λ (y : Result PutAt Refusal). PutAnswers text w₁ D.X (h.more - 1) y (put_from D.X (bodies_in text w D.X) false D.S D.σ (bound_at text nm) (values_in w h.top types) (from text at))) e (P.says D.X D.S D.σ W (types_typed _ _ W.state.types.count (values_in w h.top types) wait)))
  where
    by : (m : Answer PutThere) → PutAnswers text w₁ D.X (h.more - 1) (Ok q) m → q.end < 65536
    by (good y) i = omega (arith, i.rest.lexed.within, D.here.scope.walkable.short)
    by (refused why) i = absurd i

-- the level, and the types that wait, are there after type arguments were worked out
pub put_can :
    (text w : List ℕ) (h : Walk) (s : Left) (nm at : ℕ) → CanAtom text w h s → nm ≤ length text → (x : Result TypesEnd Refusal) (n end : ℕ) (w₁ : List ℕ) → x ≡ Ok (record { count = n; end = end }) → TypesSay text w at (h.more - 1) h.frame h.top nm x w₁
    → CanAtom text w₁ h s × (Lexed text end × ((nm ≤ length text) × ((h.top + n ≤ most_entries) × TypesWait w₁ h.top n)))
put_can text w h s nm at C inside x n end w₁ e P =
    let D = C.can in
    by (types_from D.X (h.more - 1) D.S nm D.σ (from text at)) (subst (λ (y : Result TypesEnd Refusal). TypesAnswer text w₁ h.top y (types_from D.X (h.more - 1) D.S nm D.σ (from text at))) e (P.says D.X D.S D.σ D.here.scope.walkable))
  where
    b : (h.top ≤ most_entries) × (h.waiting ≤ 2048) × (h.more ≤ 80)
    b = enter-room text w h C.can

    st : LevelWrites h.more h.top h.waiting w w₁
    st = stepped_types h.more (h.more - 1) h.top h.waiting w w₁ (omega arith) b.1 P.walked

    by : (m : Answer (Got FoundAll)) → TypesAnswer text w₁ h.top (Ok (record { count = n; end = end })) m → CanAtom text w₁ h s × (Lexed text end × ((nm ≤ length text) × ((h.top + n ≤ most_entries) × TypesWait w₁ h.top n)))
    by (refused why) i = absurd i
    by (good ts) i =
        let D = C.can in
        (record { can = record { X = D.X; most = D.most; bottom = D.bottom; k = D.k; S = D.S; σ = ts.value.state; K = D.K; is = D.is; here = here_stays text D.X D.most D.bottom w w₁ h D.S D.σ D.K D.here st ts.value.state i.state }; p = C.p; left = left_stays h.more h.top h.waiting w w₁ st s C.p C.left }, (i.rest.lexed, (inside, (i.few, subst (λ (vs : List ℕ). All (λ (t : ℕ). t < get_or w₁ type_count_at 0) vs) (sym i.types) (types_typed _ _ (sym i.state.types.count) ts.value.types i.known)))))

-- ---- an atom begins

abbrev AtomBy : List ℕ → ℕ → Token → AtomEntry
AtomBy text at t X bodies h p σ = atom_entered X bodies h p σ t (words_at text at)

-- by the code of its first word
token_part : (t : Token) → token_code t ≡ 22 → t ≡ part (token_value t)
token_part (sign t) e = absurd (sign_not t 22 tt e)
token_part (part p) e = refl
token_part (number n) e = absurd (omega arith)
token_part (name n) e = absurd (omega arith)

module _ (text w : List ℕ) (h : Walk) (s : Left) (v : code-word.Word) (looks : Looks text h.at v) where
  abbrev ws : List Word
  ws = words_at text h.at

  abbrev t : Token
  t = (peek ws).token

  -- the parenthesis
  enters-round : (X : Text) (bodies : List (List Word)) (h' : TermHere) (p : Spine) (σ : State) (t : Token) → token_code t ≡ 11 → atom_entered X bodies h' p σ t ws ≡ good (ask_term h' (element p []) h'.scope σ (behind ws))
  enters-round X bodies h' p σ (sign o) e = rw (token_is round (sign o) ∙ eq-eqb _ _ (sym e)) refl
  enters-round X bodies h' p σ (part q) e = absurd (omega arith)
  enters-round X bodies h' p σ (number q) e = absurd (omega arith)
  enters-round X bodies h' p σ (name q) e = absurd (omega arith)

  enters-part : (X : Text) (bodies : List (List Word)) (h' : TermHere) (p : Spine) (σ : State) (t : Token) → token_code t ≡ 22 → atom_entered X bodies h' p σ t ws ≡ (part_of X.edition σ (place ws) (token_value t) >>= λ m. behind_atom h' p m (behind ws))
  enters-part X bodies h' p σ t e = ap (λ (u : Token). atom_entered X bodies h' p σ u ws) (token_part t e)

  enters_none : (X : Text) (bodies : List (List Word)) (h' : TermHere) (p : Spine) (σ : State) (t : Token) → ¬ (token_code t ≡ 11) → ¬ (token_code t ≡ 22) → ¬ (token_code t ≡ 24) → atom_entered X bodies h' p σ t ws ≡ refused (numbered 32 (place ws))
  enters_none X bodies h' p σ (sign o) a b c = rw (token_is round (sign o) ∙ ne_eqb _ _ (λ q. a (sym q))) refl
  enters_none X bodies h' p σ (part q) a b c = absurd (b refl)
  enters_none X bodies h' p σ (number q) a b c = refl
  enters_none X bodies h' p σ (name q) a b c = absurd (c refl)

  kind_is : (n : ℕ) → v.kind ≡ n → token_code t ≡ n
  kind_is n e = sym looks.code ∙ e

  pub atom_round : CanAskTerm w h → v.kind ≡ 11 → (lv : Level) → lv ≡ part_level 7 s 0 0 → (r : Result Walk Refusal) (w' : List ℕ) → Asks w h lv h.frame h.top h.waiting v.end r w' → AtomSays text w h s (atom_entry text h.at) r w'
  atom_round C e lv el r w' A₀ = record {
    stepped = stepped_asks w h lv h.frame h.top h.waiting v.end r w' C A₀;
    says = λ X most bottom k S σ K p c g l. subst (λ (m : Answer Terming). StepAnswers text X most bottom w' r m) (sym (enters-round X (bodies_in text w X) (term_here_with k S K) p σ t (kind_is 11 e) ∙ ap (λ (us : List Word). good (ask_term (term_here_with k S K) (element p []) S σ us)) looks.rest)) (
        asked text X most bottom w h S σ K k c g (part_level 7 s 0 0) (element p []) h.frame h.top h.waiting v.end S (refl, refl, left_again w s p 7 0 0 l, tt) (record { walkable = g.scope.walkable; above = omega (arith, g.scope.above, c); variables = g.scope.variables }) (omega arith) (omega arith) g.few looks.readable r w' (subst (λ (y : Level). Asks w h y h.frame h.top h.waiting v.end r w') el A₀));
  }

  pub atom_part :
      h.top ≤ most_entries → h.waiting ≤ 2048 → v.kind ≡ 22 → (x : Result Sub Refusal) (w₁ : List ℕ) → PartSays w v.value v.start x w₁ → (r : Result Walk Refusal) (w' : List ℕ) → MadeSays w₁ h s x v.end r w'
      → AtomSays text w h s (atom_entry text h.at) r w'
  atom_part top few e x w₁ P r w' M =
      let st = stepped_made h.more h.top h.waiting w w₁ top few P.only in
      record {
        stepped = stepped_then h.more h.top h.waiting w w₁ w' st (M.stepped top few);
        says = λ X most bottom k S σ K p c g l.
            let H = g.scope.walkable.state in
            subst (λ (m : Answer Terming). StepAnswers text X most bottom w' r m) (sym (enters-part X (bodies_in text w X) (term_here_with k S K) p σ t (kind_is 22 e))) (
            subst (λ (us : List Word). StepAnswers text X most bottom w' r (part_of X.edition σ (place ws) (token_value t) >>= λ m. behind_atom (term_here_with k S K) p m us)) (sym looks.rest) (
            subst (λ (n : ℕ). StepAnswers text X most bottom w' r (part_of X.edition σ n (token_value t) >>= λ m. behind_atom (term_here_with k S K) p m (words_at text v.end))) looks.place (
            subst (λ (n : ℕ). StepAnswers text X most bottom w' r (part_of X.edition σ v.start n >>= λ m. behind_atom (term_here_with k S K) p m (words_at text v.end))) looks.value (
            M.says text X most bottom k S K p (part_of X.edition σ v.start v.value) c looks.readable (here-now text X most bottom w w₁ h S σ K g st) (P.says X.edition σ (edition_in w X g.scope.walkable.clauses.edition) H) (counted-nodes h.waiting σ.nodes x _ g.few (part-counts X.edition σ v.start v.value)) (left_stays h.more h.top h.waiting w w₁ st s p l)))));
      }

  pub atom_name : v.kind ≡ 24 → (r : Result Walk Refusal) (w' : List ℕ) → AtomSays text w h s (named_entry text v.start v.end) r w' → AtomSays text w h s (atom_entry text h.at) r w'
  atom_name e r w' A = record {
    stepped = A.stepped;
    says = λ X most bottom k S σ K p c g l.
        let o = looks.onward (λ z. absurd (omega (arith, e, z))) in
        subst (λ (u : Token). StepAnswers text X most bottom w' r (atom_entered X (bodies_in text w X) (term_here_with k S K) p σ u ws)) (sym (looks.named e)) (
        subst (λ (us : List Word). StepAnswers text X most bottom w' r (term_named_at X (bodies_in text w X) (term_here_with k S K) p σ (record { name = run_at text v.start; place = place ws }) us)) (sym (looks.rest ∙ words-lexed text v.end o)) (
        subst (λ (n : ℕ). StepAnswers text X most bottom w' r (term_named_at X (bodies_in text w X) (term_here_with k S K) p σ (record { name = run_at text v.start; place = n }) (from text v.end))) looks.place (A.says X most bottom k S σ K p c g l)));
  }

  pub atom_none : ¬ (v.kind ≡ 11) → ¬ (v.kind ≡ 22) → ¬ (v.kind ≡ 24) → AtomSays text w h s (atom_entry text h.at) (Err (refusal_at Reason.OtherWordDue v.start)) w
  atom_none a b d = record {
    stepped = stepped_none h.more h.top h.waiting w;
    says = λ X most bottom k S σ K p c g l. subst (λ (m : Answer Terming). StepAnswers text X most bottom w (Err (refusal_at Reason.OtherWordDue v.start)) m) (sym (enters_none X (bodies_in text w X) (term_here_with k S K) p σ t (λ q. a (looks.code ∙ q)) (λ q. b (looks.code ∙ q)) (λ q. d (looks.code ∙ q)))) (ap (numbered 32) (sym looks.place));
  }

-- ---- an application that goes on

module _ (text w : List ℕ) (h : Walk) (readable : ReadableFrom text h.at) where
  pub application_on : begins_atom (words_at text h.at) ≡ true → (r : Result Walk Refusal) (w' : List ℕ) → AtomSays text w h (record { place = h.place; function = Some h.sub }) (atom_entry text h.at) r w' → ApplicationSays text w h r w'
  application_on e r w' A = record {
    stepped = A.stepped;
    says = λ X most bottom k S f K c g t. rw e (A.says X most bottom k S f.state K (record { place = h.place; function = some f }) c g (record { place = refl; function = t.term }));
  }

  pub application-done : begins_atom (words_at text h.at) ≡ false → (r : Result Walk Refusal) → r ≡ done_step h (Ok h.sub) h.at → ApplicationSays text w h r w
  application-done e r q = record {
    stepped = stepped_none h.more h.top h.waiting w;
    says = λ X most bottom k S f K c g t. rw (e, q) (done_says text X most bottom w h S K k h.at c readable (here-now text X most bottom w w h S f.state K g (stepped_none h.more h.top h.waiting w)) (Ok h.sub) (good f) (g.scope.walkable.state, t.term) t.few);
  }
