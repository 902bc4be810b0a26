-- `main` put in and made; behind the judging of the definitions; behind the lines. Assumes nothing.
use Prim.Native.Nat.{ℕ}
use mathlib.Core.Path.{◌≡◌, refl, sym, ◌∙◌, subst}
use mathlib.Core.Bool.{false}
use mathlib.Core.List.{List, []}
use native.Mathlib.Omega.{arith}
use lib.ListN.{length}
use Rattle.std.proofs.Common.{Result, Ok, Err}
use Rattle.answers.specs.declared.Refusal.{Refusal}
use Rattle.answers.specs.Refusals.{said_why}
use Rattle.calculus.specs.Answer.{Answer, good, refused, ◌>>=◌}
use Rattle.notation_calculus.specs.Trees.{TypeTree, no_types, Body, Text}
use Rattle.notation_calculus.specs.Grammar.{most_nested}
use Rattle.notation_calculus.specs.Making.{State, Found, Scope, put_in, type_of, Made, body_term, term_of}
use Rattle.notation_calculus.specs.Make.{above, main_name, start, lines_table, judged_from, main_of}
use Rattle.making_memory.specs.Map.{clause_count_at, second_at_lem}
use Rattle.made_types.specs.Held.{HoldsState}
use Rattle.made_types.specs.States.{Begun}
use Rattle.scopes.proofs.KeepLaws.{rows-kept}
use Rattle.made_nodes.specs.declared.Sub.{Sub}
use Rattle.made_nodes.specs.Held.{MadeIn}
use Rattle.walks.specs.Says.{CanTerm, TermSays}
use Rattle.walks.proofs.Kept.{clauses_on, clauses_on_terms}
use Rattle.putting.specs.declared.BodyAt.{BodyAt}
use Rattle.putting.specs.Main.{CanMain, MainSays}
use Rattle.putting.proofs.MainLaws.{MainThere, main-there, main-not}
use Rattle.maker.specs.Stages.{FarKept, TextStands}
use Rattle.maker.specs.Lines.{CanItem, LinesSay}
use Rattle.maker.specs.Judged.{SomeText, JudgedSay}
use Rattle.maker.specs.Made.{main_made, TextTerm, CanEnd, MainMade, BehindMade, TextThere, CanText, TextMade}
use Rattle.maker.proofs.StageLaws.{far_then, far_types, far_terms, passed-with, refused_as}
use Rattle.maker.proofs.LineLaws.{bind_good, bind_refused}

-- ---- answers

pub term_refused : (text w : List ℕ) (X : Text) (e : Refusal) (m : Answer Made) → m ≡ refused (said_why e) → TextTerm text w X (Err e) m
term_refused text w X e m h = subst (TextTerm text w X (Err e)) (sym h) refl

term_stands : (text w : List ℕ) (X : Text) (m : Answer Made) (t : Result Sub Refusal) → ((τ : State) → HoldsState w τ → TextStands text w X τ) → MadeIn w t m → TextTerm text w X t m
term_stands text w X (good m) (Ok s) k a = (k m.state a.0, a.1)
term_stands text w X (good m) (Err e) k a = a
term_stands text w X (refused why) (Ok s) k a = a
term_stands text w X (refused why) (Err e) k a = a

-- ---- `main`

abbrev types_in : Text → Scope → State → TypeTree → Answer Found
types_in X S τ t = type_of X most_nested S τ t

abbrev bodies_in : Text → Scope → State → Body → Answer Made
bodies_in X = body_term (λ S τ e. term_of X most_nested S τ e)

whole_is : (X : Text) (σ : State) → main_made X σ ≡ put_in X false (above (length X.clauses)) (types_in X) (bodies_in X) σ X.end main_name no_types []
unfolding main_made
whole_is X σ = refl

pub main_can : (text w : List ℕ) (end : ℕ) → CanEnd text w end → CanMain text w 80
main_can text w end q = record { short = q.stands.short; room = q.stands.room; level = omega arith; X = q.X; clauses = q.stands.clauses }

module _ (text w : List ℕ) (end : ℕ) (w₁ : List ℕ) where
  pub main_refused : (e : Refusal) → MainSays text w 80 end (Err e) w₁ → MainMade text w end (Err e) w₁
  main_refused e M = record {
    kept = far_types 81 0 w w₁ (omega arith) M.walked;
    says = λ X σ S f. term_refused text w₁ X e (main_made X σ) (whole_is X σ ∙ main-not X (types_in X) (bodies_in X) σ text w w₁ 80 end S.clauses S.state f e M);
  }

  module _ (b : BodyAt) (M : MainSays text w 80 end (Ok b) w₁) where
    there : (X : Text) (σ : State) → TextStands text w X σ → X.end ≡ end → MainThere X (types_in X) (bodies_in X) σ text w₁ 80 b.body b.top
    there X σ S f = main-there X (types_in X) (bodies_in X) σ text w w₁ 80 end S.clauses S.state f b M

    pub main-term-can : CanEnd text w end → CanTerm text w₁ b.body 80 80 b.top
    main-term-can q =
        let T = there q.X q.σ q.stands q.ends in
        record {
          walk = record { X = q.X; S = T.there.scope; σ = T.there.state; walkable = T.came.walkable };
          lexed = T.came.body.lexed;
          above = omega arith;
          levels = omega arith;
          variables = T.came.variables;
          tree = T.goes.tree;
          reads = T.goes.reads;
        }

    pub main-made : (t : Result Sub Refusal) (w₂ : List ℕ) → TermSays text w₁ b.body 80 80 b.top t w₂ → MainMade text w end t w₂
    main-made t w₂ N = record {
      kept = far_then w w₁ w₂ (far_types 81 0 w w₁ (omega arith) M.walked) (far_terms 80 b.top w₁ w₂ (omega arith) N.walked);
      says = λ X σ S f.
          let T = there X σ S f in
          subst (TextTerm text w₂ X t) (sym (whole_is X σ ∙ T.goes.is))
          (term_stands text w₂ X (term_of X most_nested T.there.scope T.there.state T.goes.tree.value) t
          (λ τ H. record { short = S.short; room = omega (arith, S.room, M.walked.same, N.walked.same); clauses = clauses_on_terms 80 b.top text w₁ w₂ N.walked X (clauses_on 81 0 text w w₁ M.walked X S.clauses); state = H })
          (N.says X T.there.scope T.there.state T.goes.tree T.came.walkable T.came.variables T.goes.reads));
    }

-- ---- behind the judging

pub behind-some : (text w : List ℕ) (end : ℕ) → CanEnd text w end → SomeText text w
behind-some text w end q = record { X = q.X; σ = q.σ; stands = q.stands }

pub behind_refused : (text w : List ℕ) (end : ℕ) (e : Refusal) (w₁ : List ℕ) → JudgedSay text w (Err e) w₁ → BehindMade text w end (Err e) w₁
behind_refused text w end e w₁ J = record {
  kept = J.kept;
  says = λ X σ S f. term_refused text w₁ X e (judged_from X 0 σ X.clauses >>= λ σ₁. main_made X σ₁) (bind_refused (judged_from X 0 σ X.clauses) (λ σ₁. main_made X σ₁) e (refused_as text w₁ X e (judged_from X 0 σ X.clauses) (J.says X σ S)));
}

module _ (text w : List ℕ) (end : ℕ) (w₁ : List ℕ) (J : JudgedSay text w (Ok tt) w₁) where
  pub behind_can : CanEnd text w end → CanEnd text w₁ end
  behind_can q = passed-with text w₁ q.X (judged_from q.X 0 q.σ q.X.clauses) (J.says q.X q.σ q.stands) λ σ₁ e S. record { X = q.X; σ = σ₁; stands = S; ends = q.ends }

  pub behind-made : (t : Result Sub Refusal) (w₂ : List ℕ) → MainMade text w₁ end t w₂ → BehindMade text w end t w₂
  behind-made t w₂ M = record {
    kept = far_then w w₁ w₂ J.kept M.kept;
    says = λ X σ S f. passed-with text w₁ X (judged_from X 0 σ X.clauses) (J.says X σ S) λ σ₁ e S₁. subst (TextTerm text w₂ X t) (sym (bind_good (judged_from X 0 σ X.clauses) (λ σ₁. main_made X σ₁) σ₁ e)) (M.says X σ₁ S₁ f);
  }

-- ---- behind the lines

main_of_is : (X : Text) → main_of X ≡ (lines_table X start X.lines >>= λ σ. judged_from X 0 σ X.clauses >>= λ σ₁. main_made X σ₁)
unfolding main_of main_made
main_of_is X = refl

module _ (text w : List ℕ) (items seen end : ℕ) (w₁ : List ℕ) (B : Begun w w₁) where
  begun-far : FarKept w w₁
  begun-far = record { same = B.same; far = λ j h. B.above j (omega arith) (λ q. omega arith) (λ q. omega arith) (λ q. omega arith) }

  begun-stands : (X : Text) → TextThere text w items seen end X → TextStands text w₁ X start
  begun-stands X T = record {
    short = T.short;
    room = omega (arith, T.room, B.same);
    clauses = record {
      rows = rows-kept text w w₁ X.clauses T.clauses.rows (λ j a b. B.above j (omega arith) (λ q. omega arith) (λ q. omega arith) (λ q. omega arith)) (B.above clause_count_at (omega arith) (λ q. omega arith) (λ q. omega arith) (λ q. omega arith));
      edition = B.above second_at_lem (omega arith) (λ q. omega arith) (λ q. omega arith) (λ q. omega arith) ∙ T.clauses.edition;
    };
    state = B.holds;
  }

  pub text_items : CanText text w items seen end → CanItem text w₁ items seen
  text_items q = record { X = q.X; σ = start; ls = q.X.lines; stands = begun-stands q.X q.there; left = q.there.left }

  pub text_refused : (e : Refusal) (w₂ : List ℕ) → LinesSay text w₁ items seen (Err e) w₂ → TextMade text w items seen end (Err e) w₂
  text_refused e w₂ L = record {
    kept = far_then w w₁ w₂ begun-far L.kept;
    says = λ X T. term_refused text w₂ X e (main_of X) (main_of_is X ∙ bind_refused (lines_table X start X.lines) (λ σ. judged_from X 0 σ X.clauses >>= λ σ₁. main_made X σ₁) e (refused_as text w₂ X e (lines_table X start X.lines) (L.says X start X.lines (begun-stands X T) T.left)));
  }

  module _ (w₂ : List ℕ) (L : LinesSay text w₁ items seen (Ok tt) w₂) where
    pub text-can : CanText text w items seen end → CanEnd text w₂ end
    text-can q = passed-with text w₂ q.X (lines_table q.X start q.X.lines) (L.says q.X start q.X.lines (begun-stands q.X q.there) q.there.left) λ σ e S. record { X = q.X; σ = σ; stands = S; ends = q.there.ends }

    pub text-made : (t : Result Sub Refusal) (w₃ : List ℕ) → BehindMade text w₂ end t w₃ → TextMade text w items seen end t w₃
    text-made t w₃ M = record {
      kept = far_then w w₁ w₃ begun-far (far_then w₁ w₂ w₃ L.kept M.kept);
      says = λ X T. passed-with text w₂ X (lines_table X start X.lines) (L.says X start X.lines (begun-stands X T) T.left) λ σ e S. subst (TextTerm text w₃ X t) (sym (main_of_is X ∙ bind_good (lines_table X start X.lines) (λ σ. judged_from X 0 σ X.clauses >>= λ σ₁. main_made X σ₁) σ e)) (M.says X σ S T.ends);
    }
