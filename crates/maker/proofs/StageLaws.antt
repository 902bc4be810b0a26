-- What a stage leaves alone, and the text's own scope in its frame. Assumes nothing.
use Prim.Native.Nat.{ℕ, ◌+◌, ◌*◌, ◌≤◌, ◌<◌}
use mathlib.Core.Path.{◌≡◌, refl, sym, ap, ◌∙◌, subst}
use mathlib.Core.List.{List, [], ◌∷◌}
use native.Mathlib.Omega.{arith}
use lib.ListN.{length, get_or}
use lib.Seq.{sets, length-sets}
use Rattle.laws.proofs.Regions.{sets_outside, sets-before, sets-at}
use Rattle.std.proofs.Common.{Ok, Err}
use Rattle.answers.specs.declared.Refusal.{Refusal}
use Rattle.answers.specs.Refusals.{said_why}
use Rattle.calculus.specs.Answer.{Answer, good, refused}
use Rattle.notation_calculus.specs.Trees.{Text}
use Rattle.notation_calculus.specs.Making.{State}
use Rattle.notation_calculus.specs.Make.{above}
use Rattle.making_memory.specs.Map.{frames_at, type_count_at, node_count_at, put_count_at, clause_count_at, second_at_lem, making_size}
use Rattle.made_types.specs.Held.{HoldsState}
use Rattle.made_types.proofs.Keeping.{state_kept}
use Rattle.scopes.specs.declared.frames.Frame.{Frame}
use Rattle.scopes.specs.Frames.{frame_in, HoldsParameters}
use Rattle.scopes.proofs.EntryLaws.{frame_parts}
use Rattle.scopes.proofs.KeepLaws.{rows-kept}
use Rattle.walks.specs.Walked.{TypesWalked, TermsWalked}
use Rattle.walks.proofs.Kept.{terms_of_types, frame_on_terms, walkable_on_terms}
use Rattle.maker.specs.Stages.{FarKept, TextStands, KnowsAbove, StageAnswers}

-- ---- far away nothing is written

pub far_none : (w : List ℕ) → FarKept w w
far_none w = record { same = refl; far = λ j h. refl }

pub far_then : (u v w : List ℕ) → FarKept u v → FarKept v w → FarKept u w
far_then u v w a b = record { same = b.same ∙ a.same; far = λ j h. b.far j h ∙ a.far j h }

pub far_terms : (m top : ℕ) (w w' : List ℕ) → m ≤ 81 → TermsWalked m top w w' → FarKept w w'
far_terms m top w w' h W = record { same = W.same; far = λ j g. W.scopes j (omega arith) }

pub far_types : (m top : ℕ) (w w' : List ℕ) → m ≤ 81 → TypesWalked m top w w' → FarKept w w'
far_types m top w w' h W = far_terms m top w w' h (terms_of_types m top w w' W)

-- ---- the text's own frame

pub stands_of : {text w : List ℕ} {X : Text} {seen : ℕ} {σ : State} → KnowsAbove text w X seen σ → TextStands text w X σ
stands_of K = let W = K.walkable in record { short = W.short; room = W.room; clauses = W.clauses; state = W.state }

-- a walk leaves the scope, with another state
pub knows_on_terms : (text w w' : List ℕ) (X : Text) (seen : ℕ) (σ σ' : State) → TermsWalked 80 0 w w' → KnowsAbove text w X seen σ → HoldsState w' σ' → KnowsAbove text w' X seen σ'
knows_on_terms text w w' X seen σ σ' W K H = record {
  walkable = walkable_on_terms 80 0 text w w' W 81 0 X (above seen) σ σ' K.walkable (omega arith) (omega arith) H;
  variables = ap (λ (f : Frame). f.variables) (frame_on_terms 80 0 text w w' W 81 (omega arith) (omega arith)) ∙ K.variables;
}

pub knows_on_types : (text w w' : List ℕ) (X : Text) (seen : ℕ) (σ σ' : State) → TypesWalked 80 0 w w' → KnowsAbove text w X seen σ → HoldsState w' σ' → KnowsAbove text w' X seen σ'
knows_on_types text w w' X seen σ σ' W K H = knows_on_terms text w w' X seen σ σ' (terms_of_types 80 0 w w' W) K H

module _ (w : List ℕ) (seen : ℕ) (room : making_size ≤ length w) where
  abbrev pub framed : List ℕ
  framed = sets w (frames_at + 4 * 81) (seen ∷ 0 ∷ 0 ∷ 0 ∷ [])

  framed-before : (j : ℕ) → j < frames_at → get_or framed j 0 ≡ get_or w j 0
  framed-before j h = sets-before (seen ∷ 0 ∷ 0 ∷ 0 ∷ []) w (frames_at + 4 * 81) j 0 (omega arith)

  framed-behind : (j : ℕ) → type_count_at ≤ j → get_or framed j 0 ≡ get_or w j 0
  framed-behind j h = sets_outside (seen ∷ 0 ∷ 0 ∷ 0 ∷ []) w (frames_at + 4 * 81) j 0 (λ q. absurd (omega arith)) (omega arith)

  framed_at : (j : ℕ) → j < 4 → get_or framed (frames_at + 4 * 81 + j) 0 ≡ get_or (seen ∷ 0 ∷ 0 ∷ 0 ∷ []) j 0
  framed_at j h = sets-at (seen ∷ 0 ∷ 0 ∷ 0 ∷ []) w (frames_at + 4 * 81) j (omega arith) (omega arith)

  pub framed_far : FarKept w framed
  framed_far = record { same = length-sets w (frames_at + 4 * 81) (seen ∷ 0 ∷ 0 ∷ 0 ∷ []); far = λ j h. framed-behind j (omega arith) }

  frame_is : frame_in framed 81 ≡ record { seen = seen; types = 0; numbers = 0; variables = 0 }
  frame_is = frame_parts (record { seen = seen; types = 0; numbers = 0; variables = 0 }) _ _ _ _ (framed_at 0 (omega arith)) (framed_at 1 (omega arith)) (framed_at 2 (omega arith)) (framed_at 3 (omega arith))

  -- where the memory holds a text and a state, its own frame is set
  pub framed-knows : (text : List ℕ) (X : Text) (σ : State) → TextStands text w X σ → seen ≤ length X.clauses → KnowsAbove text framed X seen σ
  framed-knows text X σ S h = record {
    variables = ap (λ (f : Frame). f.variables) frame_is;
    walkable = record {
      short = S.short;
      room = omega (arith, framed_far.same);
      level = omega arith;
      clauses = record {
        rows = rows-kept text w framed X.clauses S.clauses.rows (λ j a b. framed-before j b) (framed-behind clause_count_at (omega arith));
        edition = framed-behind second_at_lem (omega arith) ∙ S.clauses.edition;
      };
      state = state_kept w framed σ S.state framed_far.same (λ i a b. framed-before i (omega arith)) (framed-behind type_count_at (omega arith)) (framed-behind node_count_at (omega arith)) (framed-behind put_count_at (omega arith));
      scope = record {
        places = record { room = omega (arith, framed_far.same); most = omega arith; inside = λ e a b. absurd (omega arith) };
        parameters = subst (λ (f : Frame). HoldsParameters text framed f (above seen)) (sym frame_is) (record { seen = refl; types_first = omega arith; numbers_next = omega arith; types = refl; numbers = refl });
        under = subst (λ (f : Frame). f.variables ≤ 0) (sym frame_is) (omega arith);
        variables = refl;
        entries = refl;
      };
      seen = h;
      types = tt;
      variables = tt;
    };
  }

-- ---- answers of stages

pub stage_passed : (text w : List ℕ) (X : Text) (σ : State) (a : Answer State) → a ≡ good σ → TextStands text w X σ → StageAnswers text w X (Ok tt) a
stage_passed text w X σ a f S = subst (λ (q : Answer State). StageAnswers text w X (Ok tt) q) (sym f) S

pub stage_refused : (text w : List ℕ) (X : Text) (e : Refusal) (a : Answer State) → a ≡ refused (said_why e) → StageAnswers text w X (Err e) a
stage_refused text w X e a f = subst (λ (q : Answer State). StageAnswers text w X (Err e) q) (sym f) refl

-- .. taken apart
pub passed-with : {P : Type 0} (text w : List ℕ) (X : Text) (a : Answer State) → StageAnswers text w X (Ok tt) a → ((σ : State) → a ≡ good σ → TextStands text w X σ → P) → P
passed-with text w X (good σ) s k = k σ refl s
passed-with text w X (refused why) s k = absurd s

pub refused_as : (text w : List ℕ) (X : Text) (e : Refusal) (a : Answer State) → StageAnswers text w X (Err e) a → a ≡ refused (said_why e)
refused_as text w X e (good σ) s = absurd s
refused_as text w X e (refused why) s = ap refused s
