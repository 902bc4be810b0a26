-- Which clauses are judged, by their rows; and a body that is made: what there was is the beginning of what there is. Assumes nothing.
use Prim.Native.Nat.{ℕ, ◌+◌, ◌≤◌}
use mathlib.Core.Path.{◌≡◌, refl, sym, ap, ◌∙◌, subst}
use mathlib.Core.Bool.{Bool, true, false, not, ◌&&◌}
use mathlib.Core.List.{List}
use native.Mathlib.Omega.{arith}
use native.Mathlib.Decide.{dec_le}
use borrow.Author.Tests.{eq-eqb, ne_eqb}
use lib.Dec.{eqb}
use lib.ListN.{length}
use Rattle.std.proofs.Common.{Result, Ok, Err}
use Rattle.answers.specs.declared.Refusal.{Refusal}
use Rattle.answers.specs.Refusals.{said_why}
use Rattle.calculus.specs.Answer.{Answer, good, refused, ◌>>=◌}
use Rattle.calculus.specs.Types.{Table}
use Rattle.calculus.proofs.Answers.{refused≢good, good-inj}
use Rattle.notation_calculus.specs.Words.{Name, same_name, Word}
use Rattle.notation_calculus.specs.Trees.{TypeTree, Tree, Body, of_type, of_term, Clause, Text}
use Rattle.notation_calculus.specs.Grammar.{most_nested, Got, got, type_at, term_at, is_type, same_sort, namesake}
use Rattle.notation_calculus.specs.Making.{State, Found, Scope, type_of, Made, term_of}
use Rattle.notation_calculus.specs.Make.{above, main_name, is_judged, judged_body}
use Rattle.notation_calculus.specs.Means.{TypeIs, Is}
use Rattle.notation_theorems.proofs.Answering.{on_good}
use Rattle.notation_theorems.proofs.Growing.{Ready, Grown}
use Rattle.notation_theorems.proofs.TypesMean.{here_of, LowScope, Reached, type_sound}
use Rattle.notation_theorems.proofs.NodesMean.{StandsFor}
use Rattle.notation_theorems.proofs.TermsMean.{term_sound}
use Rattle.words.specs.Next.{run_at}
use Rattle.words.specs.Lexed.{from}
use Rattle.made_types.specs.Held.{HoldsTypes, HoldsState}
use Rattle.made_types.specs.States.{Beginning}
use Rattle.made_types.proofs.Choices.{both_first, both_later}
use Rattle.made_types.proofs.Sorts.{ready_of}
use Rattle.made_nodes.specs.declared.Sub.{Sub}
use Rattle.made_nodes.specs.Held.{TermHeld, MadeIn}
use Rattle.clauses.specs.declared.rows.Row.{Row}
use Rattle.clauses.specs.Rows.{RowOf}
use Rattle.walks.specs.declared.TypeEnd.{TypeEnd}
use Rattle.walks.specs.Walked.{TermsWalked}
use Rattle.walks.specs.Says.{TypeSays, CanTerm, TermSays}
use Rattle.walks.proofs.Kept.{terms_of_types}
use Rattle.maker.specs.Stages.{KnowsAbove}
use Rattle.maker.specs.Judged.{row_judged, BodyRead, CanTry, TryAnswers, TrySays}
use Rattle.maker.proofs.StageLaws.{far_types, far_terms, stands_of, knows_on_types, knows_on_terms}
use Rattle.maker.proofs.LineLaws.{bind_good, bind_refused, own_typed}

true≢false : {C : Type 0} → ◌≡◌ {A = Bool} true false → C
true≢false e = let z : ◌≡◌ {A = ℕ} 0 1 = cc in absurd (omega arith)

-- ---- which are judged

type_no : (sort s : Bool) → sort ≡ true → true ≡ not (not sort && s)
type_no true s e = refl
type_no false s e = true≢false (sym e)

term_by-name : (sort s b : Bool) → sort ≡ false → b ≡ s → not b ≡ not (not sort && s)
term_by-name true s b e f = true≢false e
term_by-name false s b e f = ap not f

module _ (text : List ℕ) (r : Row) where
  pub judged_typed : ¬ (r.types ≡ 0) → false ≡ row_judged text r
  unfolding row_judged
  judged_typed h = both_first r.types 0 _ h

  module _ (t : r.types ≡ 0) where
    pub judged-numbered : ¬ (r.numbers ≡ 0) → false ≡ row_judged text r
    unfolding row_judged
    judged-numbered h = both_later r.types 0 _ false t (both_first r.numbers 0 _ h)

    module _ (n : r.numbers ≡ 0) where
      pub judged-sort : r.sort ≡ true → true ≡ row_judged text r
      unfolding row_judged
      judged-sort e = both_later r.types 0 _ true t (both_later r.numbers 0 _ true n (type_no r.sort (same_name (run_at text r.name) main_name) e))

      pub judged-name : r.sort ≡ false → (b : Bool) → b ≡ same_name (run_at text r.name) main_name → not b ≡ row_judged text r
      unfolding row_judged
      judged-name e b f = both_later r.types 0 _ (not b) t (both_later r.numbers 0 _ (not b) n (term_by-name r.sort (same_name (run_at text r.name) main_name) b e f))

and_true : (t x : Bool) → t ≡ true → (t && x) ≡ x
and_true t x e = ap (λ (b : Bool). b && x) e

and_false : (t x : Bool) → t ≡ false → (t && x) ≡ false
and_false t x e = ap (λ (b : Bool). b && x) e

both_zero : (a b : ℕ) (x : Bool) → (eqb (a + b) 0 && x) ≡ (eqb a 0 && (eqb b 0 && x))
both_zero a b x =
    elim (dec_le a 0) [
      | yes h ↦
          elim (dec_le b 0) [
            | yes k ↦ and_true (eqb (a + b) 0) x (eq-eqb (a + b) 0 (omega arith)) ∙ sym (and_true (eqb a 0) (eqb b 0 && x) (eq-eqb a 0 (omega arith)) ∙ and_true (eqb b 0) x (eq-eqb b 0 (omega arith)))
            | no k ↦ and_false (eqb (a + b) 0) x (ne_eqb (a + b) 0 (λ e. k (omega arith))) ∙ sym (and_true (eqb a 0) (eqb b 0 && x) (eq-eqb a 0 (omega arith)) ∙ and_false (eqb b 0) x (ne_eqb b 0 (λ e. k (omega arith))))
          ]
      | no h ↦ and_false (eqb (a + b) 0) x (ne_eqb (a + b) 0 (λ e. h (omega arith))) ∙ sym (and_false (eqb a 0) (eqb b 0 && x) (ne_eqb a 0 (λ e. h (omega arith))))
    ]

sort_false : (b : Bool) → same_sort b false ≡ not b
sort_false true = refl
sort_false false = refl

-- a clause is judged where its row is
pub judged_is : (text : List ℕ) (c : Clause) (r : Row) → RowOf text c r → is_judged c ≡ row_judged text r
unfolding row_judged
judged_is text c r R =
    both_zero (length c.types) (length c.numbers) (not (namesake c false main_name))
    ∙ ap (λ (a : ℕ). eqb a 0 && (eqb (length c.numbers) 0 && not (namesake c false main_name))) (sym R.type_count)
    ∙ ap (λ (a : ℕ). eqb r.types 0 && (eqb a 0 && not (namesake c false main_name))) (sym R.number_count)
    ∙ ap (λ (s : Bool). eqb r.types 0 && (eqb r.numbers 0 && not (s && same_name c.head.name main_name))) (sort_false (is_type c.body) ∙ ap not R.sort)
    ∙ ap (λ (n : Name). eqb r.types 0 && (eqb r.numbers 0 && not (not r.sort && same_name n main_name))) R.name_is

-- ---- what is made only grows

begins : {w : List ℕ} {Θ Φ : Table} → HoldsTypes w Θ → Grown Θ Φ → Beginning Θ Φ
begins H (more, e) = record { more = more; joined = e; ok = H.ok; one = H.one; some = H.some }

type_grows : (X : Text) (more : ℕ) (S : Scope) (σ : State) (t : TypeTree) (x : Found) → Ready σ.table → LowScope (length σ.table) S → type_of X more S σ t ≡ good x → Grown σ.table x.state.table
type_grows X more S σ t x R l e = (on_good (Reached σ (TypeIs X (here_of σ.table S) t)) (type_of X more S σ t) x (type_sound X more S σ t R l) e).1

term_grows : (X : Text) (more : ℕ) (S : Scope) (σ : State) (t : Tree) (x : Made) → Ready σ.table → LowScope (length σ.table) S → term_of X more S σ t ≡ good x → Grown σ.table x.state.table
term_grows X more S σ t x R l e = (on_good (StandsFor σ (Is X (here_of σ.table S) t)) (term_of X more S σ t) x (term_sound X more S σ t R l) e).1

nodes_grow : (m top : ℕ) (w w' : List ℕ) (σ τ : State) → TermsWalked m top w w' → HoldsState w σ → HoldsState w' τ → σ.nodes ≤ τ.nodes
nodes_grow m top w w' σ τ W H K = omega (arith, W.more_nodes, H.nodes, K.nodes)

-- ---- a body that was read

body_by : {A : Type 0} (build : A → Body) (m : Answer (Got A)) (b : Body) (us : List Word) → (m >>= λ t. got (build t.value) t.rest) ≡ got b us → (t : Got A) × ((m ≡ good t) × (build t.value ≡ b))
body_by build (good t) b us e = (t, (refl, ap (λ (g : Got Body). g.value) (good-inj e)))
body_by build (refused why) b us e = absurd (refused≢good e)

type_read : {text : List ℕ} {at : ℕ} {b : Body} → BodyRead text at true b → (t : Got TypeTree) × ((type_at most_nested false (from text at) ≡ good t) × (of_type t.value ≡ b))
type_read {text} {at} {b} B = body_by of_type (type_at most_nested false (from text at)) b (from text B.rest) B.reads

term_read : {text : List ℕ} {at : ℕ} {b : Body} → BodyRead text at false b → (t : Got Tree) × ((term_at most_nested (from text at) ≡ good t) × (of_term t.value ≡ b))
term_read {text} {at} {b} B = body_by of_term (term_at most_nested (from text at)) b (from text B.rest) B.reads

-- ---- a type

module _ (text w : List ℕ) (at : ℕ) (w' : List ℕ) where
  module _ (X : Text) (seen : ℕ) (σ : State) (K : KnowsAbove text w X seen σ) (t : Got TypeTree) (h : type_at most_nested false (from text at) ≡ good t) where
    type_refused : (e : Refusal) → TypeSays text w at 80 81 0 (Err e) w' → judged_body X seen σ (of_type t.value) ≡ refused (said_why e)
    type_refused e T = bind_refused (type_of X most_nested (above seen) σ t.value) (λ x. good x.state.puts) e (own_typed text w at (Err e) w' T X seen σ K t h)

    type-made : (k : TypeEnd) → TypeSays text w at 80 81 0 (Ok k) w' → TryAnswers text w' X σ (Ok tt) (judged_body X seen σ (of_type t.value))
    type-made k T =
        let (x, (f, (H, o))) = own_typed text w at (Ok k) w' T X seen σ K t h in
        subst (TryAnswers text w' X σ (Ok tt)) (sym (bind_good (type_of X most_nested (above seen) σ t.value) (λ x. good x.state.puts) x f)) (record {
          next = x.state;
          stands = stands_of (knows_on_types text w w' X seen σ x.state T.walked K H);
          begins = begins K.walkable.state.types (type_grows X most_nested (above seen) σ t.value x (ready_of K.walkable.state.types) (tt, tt) f);
          nodes = nodes_grow 80 0 w w' σ x.state (terms_of_types 80 0 w w' T.walked) K.walkable.state H;
          cost = refl;
        })

  pub tries_type_refused : (e : Refusal) → TypeSays text w at 80 81 0 (Err e) w' → TrySays text w at true (Err e) w'
  tries_type_refused e T = record {
    kept = far_types 80 0 w w' (omega arith) T.walked;
    says = λ X seen σ b K B. let (t, (h, f)) = type_read B in subst (λ (c : Body). judged_body X seen σ c ≡ refused (said_why e)) f (type_refused X seen σ K t h e T);
  }

  pub tries_type : (k : TypeEnd) → TypeSays text w at 80 81 0 (Ok k) w' → TrySays text w at true (Ok tt) w'
  tries_type k T = record {
    kept = far_types 80 0 w w' (omega arith) T.walked;
    says = λ X seen σ b K B. let (t, (e, f)) = type_read B in subst (λ (c : Body). TryAnswers text w' X σ (Ok tt) (judged_body X seen σ c)) f (type-made X seen σ K t e k T);
  }

-- ---- a term

abbrev pub TermBy : List ℕ → Answer Made → Result Sub Refusal → Type 0
TermBy w m (Ok s) = (x : Made) × ((m ≡ good x) × ((HoldsState w x.state) × (TermHeld w s x)))
TermBy w m (Err e) = m ≡ refused (said_why e)

pub term_by_lem : (w : List ℕ) (m : Answer Made) (r : Result Sub Refusal) → MadeIn w r m → TermBy w m r
term_by_lem w (good x) (Ok s) a = (x, (refl, (a.0, a.1)))
term_by_lem w (good x) (Err e) a = absurd a
term_by_lem w (refused why) (Ok s) a = absurd a
term_by_lem w (refused why) (Err e) a = ap refused a

pub own_term : (text w : List ℕ) (at : ℕ) → CanTry text w at false → CanTerm text w at 80 81 0
own_term text w at q =
    let (t, (e, f)) = term_read q.there in
    record {
      walk = record { X = q.X; S = above q.seen; σ = q.σ; walkable = q.knows.walkable };
      lexed = q.there.lexed;
      above = omega arith;
      levels = omega arith;
      variables = q.knows.variables;
      tree = t;
      reads = e;
    }

module _ (text w : List ℕ) (at : ℕ) (w' : List ℕ) where
  module _ (X : Text) (seen : ℕ) (σ : State) (K : KnowsAbove text w X seen σ) (t : Got Tree) (h : term_at most_nested (from text at) ≡ good t) where
    termed : (r : Result Sub Refusal) → TermSays text w at 80 81 0 r w' → TermBy w' (term_of X most_nested (above seen) σ t.value) r
    termed r T = term_by_lem w' (term_of X most_nested (above seen) σ t.value) r (T.says X (above seen) σ t K.walkable K.variables h)

    term_refused : (e : Refusal) → TermSays text w at 80 81 0 (Err e) w' → judged_body X seen σ (of_term t.value) ≡ refused (said_why e)
    term_refused e T = bind_refused (term_of X most_nested (above seen) σ t.value) (λ x. good x.state.puts) e (termed (Err e) T)

    term_made : (s : Sub) → TermSays text w at 80 81 0 (Ok s) w' → TryAnswers text w' X σ (Ok tt) (judged_body X seen σ (of_term t.value))
    term_made s T =
        let (x, (f, (H, o))) = termed (Ok s) T in
        subst (TryAnswers text w' X σ (Ok tt)) (sym (bind_good (term_of X most_nested (above seen) σ t.value) (λ x. good x.state.puts) x f)) (record {
          next = x.state;
          stands = stands_of (knows_on_terms text w w' X seen σ x.state T.walked K H);
          begins = begins K.walkable.state.types (term_grows X most_nested (above seen) σ t.value x (ready_of K.walkable.state.types) (tt, tt) f);
          nodes = nodes_grow 80 0 w w' σ x.state T.walked K.walkable.state H;
          cost = refl;
        })

  pub tries_term_refused : (e : Refusal) → TermSays text w at 80 81 0 (Err e) w' → TrySays text w at false (Err e) w'
  tries_term_refused e T = record {
    kept = far_terms 80 0 w w' (omega arith) T.walked;
    says = λ X seen σ b K B. let (t, (h, f)) = term_read B in subst (λ (c : Body). judged_body X seen σ c ≡ refused (said_why e)) f (term_refused X seen σ K t h e T);
  }

  pub tries_term : (s : Sub) → TermSays text w at 80 81 0 (Ok s) w' → TrySays text w at false (Ok tt) w'
  tries_term s T = record {
    kept = far_terms 80 0 w w' (omega arith) T.walked;
    says = λ X seen σ b K B. let (t, (e, f)) = term_read B in subst (λ (c : Body). TryAnswers text w' X σ (Ok tt) (judged_body X seen σ c)) f (term_made X seen σ K t e s T);
  }
