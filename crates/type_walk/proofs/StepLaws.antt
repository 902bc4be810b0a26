-- One step of the walk: a type is wanted, or one came that a level waited for. One law for each way out. Assumes nothing.
use Prim.Native.Nat.{ℕ, zero, suc, ◌+◌, ◌*◌, ◌-◌, ◌≤◌, ◌<◌}
use mathlib.Core.Logic.{◌⊎◌, inl, inr}
use mathlib.Core.Path.{◌≡◌, refl, sym, ap, subst, ◌∙◌}
use mathlib.Core.Bool.{Bool, true, false, cond}
use mathlib.Core.List.{List, [], ◌∷◌}
use native.Mathlib.Omega.{arith}
use native.Mathlib.Decide.{dec_le}
use native.Mathlib.Numerals.{add-one}
use lib.Dec.{eqb}
use lib.ListN.{length, drop, take}
use borrow.Author.Tests.{eq-eqb, ne_eqb}
use Rattle.std.proofs.Common.{Result, Ok, Err}
use Rattle.answers.specs.declared.Refusal.{Refusal}
use Rattle.answers.specs.declared.Reason.{Reason}
use Rattle.answers.specs.Refusals.{refusal_at}
use Rattle.calculus.specs.Answer.{Answer, good, ◌>>=◌, refuse, need}
use Rattle.calculus.specs.Types.{TyRec}
use Rattle.calculus.proofs.Answers.{good-inj}
use Rattle.sheet_theorems.specs.Laid.{Below}
use Rattle.notation_calculus.specs.Words.{endRound, comma, endSquare, Token, sign, part, number, name, sign_code, Word, run}
use Rattle.notation_calculus.specs.Trees.{product, arrow, linear, Text}
use Rattle.notation_calculus.specs.Grammar.{peek, behind, place, is}
use Rattle.notation_calculus.specs.Making.{State, Found, Scope, form_of, listed, most_entries}
use Rattle.notation_machine.specs.TypeMachine.{enclosed, argument, other, TypeLevel, Typing, wanted, came, TypeHere, ask_type, type_done, side_from, behind_side, ones_from, in_order_lem, ask_argument, type_put_in, type_named_at, type_entered, type_left, type_move}
use Rattle.notation_machine.specs.TypeSteps.{Going}
use Rattle.words.specs.Tables.{token_code}
use Rattle.words.specs.Next.{Said, run_at}
use Rattle.words.specs.Lexed.{from, Lexed, Stands}
use Rattle.grammar.proofs.EndLaws.{sign_not, is_yes, is_no}
use Rattle.making_memory.specs.Map.{scope_at, type_count_at, node_count_at, put_count_at, making_size}
use Rattle.made_types.specs.declared.Record.{Record}
use Rattle.made_types.specs.Held.{HoldsState}
use Rattle.made_types.specs.declared.Kind.{Kind}
use Rattle.made_types.specs.Listing.{kind_byte, rec_of_kind, record_of_lem, Listable, FoundIn, ListedSays}
use Rattle.made_types.proofs.Keeping.{state_kept}
use Rattle.clauses.specs.Meant.{values_in}
use Rattle.scopes.specs.Entries.{place_in, value_at, Places, OnlyEntries, with_entry}
use Rattle.scopes.proofs.KeepLaws.{entry_place, entry_value, entry_only}
use Rattle.walk_levels.specs.declared.Level.{Level}
use Rattle.walk_levels.specs.Levels.{InLevels}
use Rattle.walk_levels.specs.TypeLevels.{flag_number}
use Rattle.walks.specs.Walkable.{row_bodies}
use Rattle.walks.specs.Walked.{TypesWalked}
use Rattle.walks.proofs.Kept.{types_walked_none, types_of_entries}
use Rattle.walks.specs.Says.{bound_at}
use Rattle.type_walk.specs.declared.levels.Want.{Want}
use Rattle.type_walk.specs.declared.levels.Come.{Come}
use Rattle.type_walk.specs.declared.levels.Here.{Here}
use Rattle.type_walk.specs.declared.levels.Walking as code
use Rattle.type_walk.specs.declared.levels.Side.{Side}
use Rattle.type_walk.specs.Wishes.{number_said, kind_said}
use Rattle.type_walk.specs.declared.levels.Walking.TheVariants as walking
use Rattle.type_walk.specs.Holding.{given_from, AllBelow, LevelHeld, LevelsHeld, here_with, here_in, AtLevel, Wanting, Coming}
use Rattle.type_walk.specs.Moves.{CanMove, Waited, Moving, Moved, Known, found_in_lem, Given, Valued, Both, Anything, NameAt, form_by, side_after, arrow_after, done_after, ones_after, argument_ask, put_after, named_after, inside_ask, enter_at, left_with, side_done, CanStep, Stepped}
use Rattle.type_walk.proofs.HoldLaws.{at_on, walked-wider, levels_within}
use Rattle.type_walk.proofs.AskLaws.{can_wait, ask_held, places-none, waited_moved}
use Rattle.type_walk.proofs.MoveLaws.{onward, answered_as, moved_as, moved_after, refused_moved}
use Rattle.type_walk.proofs.TableLaws.{table_refused, table-can, table-found}

-- ---- a type begins

pub inside-asked : (text w w' : List ℕ) (h : Here) (at flag : ℕ) (r : code.Walking) → CanMove text w h Anything → Lexed text at → flag ≡ flag_number h.tight → Waited w h (record { form = 0; flag = flag; place = 0; count = 0; node = 0; ty = 0; deep = 0; next = 0 }) (record { more = h.more; tight = false; frame = h.frame; top = h.top; at = at }) r w' → Moved text w h Anything (inside_ask text at) (Ok r) w'
inside-asked text w w' h at flag r C l f g =
    let waits = can_wait text w C.X C.m₀ C.base C.σ h C.S C.K C.held in
    waited_moved text w h _ _ r w' Anything (inside_ask text at) waits g (λ X m₀ base σ S K A k. ask_held w h _ waits text X m₀ base σ S K A enclosed false h.frame h.top at S f refl tt (places-none text w h.top A.walkable.scope.places) (omega (arith, A.level)) (omega arith) A.walkable l)

-- by the code of the first word
module _ (X : Text) (bodies : List (List Word)) (t : TypeHere) (σ : State) (ws : List Word) where
  number-enters : (k : Token) → token_code k ≡ 23 → type_entered X bodies t σ k ws ≡ ones_from t σ (behind ws)
  number-enters (sign s) e = absurd (sign_not s 23 tt e)
  number-enters (part p) e = absurd (omega arith)
  number-enters (number n) e = refl
  number-enters (name n) e = absurd (omega arith)

  round-enters : (k : Token) → token_code k ≡ 11 → type_entered X bodies t σ k ws ≡ good (ask_type t enclosed false t.scope σ (behind ws))
  round-enters (sign s) e = ap (λ (b : Bool). need b 32 (place ws) >>= λ _. good (ask_type t enclosed false t.scope σ (behind ws))) (eq-eqb 11 (sign_code s) (sym e))
  round-enters (part p) e = absurd (omega arith)
  round-enters (number n) e = absurd (omega arith)
  round-enters (name n) e = absurd (omega arith)

  none-enters : (k : Token) → ¬ (token_code k ≡ 24) → ¬ (token_code k ≡ 23) → ¬ (token_code k ≡ 11) → type_entered X bodies t σ k ws ≡ refuse 32 (place ws)
  none-enters (sign s) a b c = ap (λ (d : Bool). need d 32 (place ws) >>= λ _. good (ask_type t enclosed false t.scope σ (behind ws))) (ne_eqb 11 (sign_code s) (λ e. c (sym e)))
  none-enters (part p) a b c = refl
  none-enters (number n) a b c = absurd (b refl)
  none-enters (name n) a b c = absurd (a refl)

module _ (text : List ℕ) (at : ℕ) (v : Said) (s : Stands text at v) where
  abbrev ws : List Word
  ws = from text at

  -- a name stands in the text
  pub name_there : v.code ≡ 24 → NameAt text v.place
  name_there e = record { inside = omega (arith, s.long e, (onward text at v s 23 e).lexed.within); long = omega (arith, s.long e, s.whole e) }

  module _ (w w' : List ℕ) (h : Here) (r : Result code.Walking Refusal) where
    pub enter-name : v.code ≡ 24 → Moved text w h Anything (named_after text v.place v.end) r w' → Moved text w h Anything (enter_at text at) r w'
    enter-name e M = moved_as Anything (named_after text v.place v.end) (enter_at text at) (λ X bodies σ S K.
        let long : v.end - v.place ≡ run (drop v.place text) = omega (arith, s.whole e) in
        ap (λ (k : Token). type_entered X bodies (here_with h S K) σ k ws) (s.named e)
        ∙ ap (λ (k : ℕ). type_named_at X bodies (here_with h S K) σ (record { name = take k (drop v.place text); place = place ws }) (behind ws)) long
        ∙ ap (λ (p : ℕ). type_named_at X bodies (here_with h S K) σ (record { name = run_at text v.place; place = p }) (behind ws)) (sym s.place)
        ∙ ap (λ (us : List Word). type_named_at X bodies (here_with h S K) σ (bound_at text v.place) us) (onward text at v s 23 e).rest) M

    pub enter-number : v.code ≡ 23 → Moved text w h Anything (ones_after text v.end) r w' → Moved text w h Anything (enter_at text at) r w'
    enter-number e M = moved_as Anything (ones_after text v.end) (enter_at text at) (λ X bodies σ S K. number-enters X bodies (here_with h S K) σ ws (peek ws).token (sym s.code ∙ e) ∙ ap (λ (us : List Word). ones_from (here_with h S K) σ us) (onward text at v s 22 e).rest) M

    pub enter-round : v.code ≡ 11 → Moved text w h Anything (inside_ask text v.end) r w' → Moved text w h Anything (enter_at text at) r w'
    enter-round e M = moved_as Anything (inside_ask text v.end) (enter_at text at) (λ X bodies σ S K. round-enters X bodies (here_with h S K) σ ws (peek ws).token (sym s.code ∙ e) ∙ ap (λ (us : List Word). good (ask_type (here_with h S K) enclosed false S σ us)) (onward text at v s 10 e).rest) M

    -- ---- behind a type in parentheses

    pub inside-closed : (ty : ℕ) → v.code ≡ 12 → Moved text w h (Known ty) (side_after text ty v.end) r w' → Moved text w h (Known ty) (left_with text enclosed ty at) r w'
    inside-closed ty e M = moved_as (Known ty) (side_after text ty v.end) (left_with text enclosed ty at) (λ X bodies σ S K. ap (λ (b : Bool). need b 32 (place ws) >>= λ _. good (side_from (here_with h S K) (found_in_lem ty σ) (behind ws))) (is_yes text at v s endRound e) ∙ ap (λ (us : List Word). good (side_from (here_with h S K) (found_in_lem ty σ) us)) (onward text at v s 11 e).rest) M

  module _ (w : List ℕ) (h : Here) where
    pub enter-none : ¬ (v.code ≡ 24) → ¬ (v.code ≡ 23) → ¬ (v.code ≡ 11) → Moved text w h Anything (enter_at text at) (Err (refusal_at Reason.OtherWordDue v.place)) w
    enter-none a b c = refused_moved Anything (enter_at text at) (refusal_at Reason.OtherWordDue v.place) (λ X m₀ base σ S K A _ bodies. none-enters X bodies (here_with h S K) σ ws (peek ws).token (λ e. a (s.code ∙ e)) (λ e. b (s.code ∙ e)) (λ e. c (s.code ∙ e)) ∙ ap (λ (p : ℕ). refuse 32 p) (sym s.place))

    pub inside-open : (ty : ℕ) → ¬ (v.code ≡ 12) → Moved text w h (Known ty) (left_with text enclosed ty at) (Err (refusal_at Reason.OtherWordDue v.place)) w
    inside-open ty n = refused_moved (Known ty) (left_with text enclosed ty at) (refusal_at Reason.OtherWordDue v.place) (λ X m₀ base σ S K A _ bodies. ap (λ (b : Bool). need b 32 (place ws) >>= λ _. good (side_from (here_with h S K) (found_in_lem ty σ) (behind ws))) (is_no text at v s endRound n) ∙ ap (λ (p : ℕ). refuse 32 p) (sym s.place))

-- ---- a step at a type that is wanted

module _ (text w : List ℕ) (q : Want) where
  wanted-is : (X : Text) (m₀ base : ℕ) (t : Typing) (H : Wanting text w X m₀ base q (good t)) → t ≡ wanted q.more q.tight H.scope H.state (from text q.at) H.above
  wanted-is X m₀ base t H = good-inj H.is

  pub want_zero : (v : Said) → Stands text q.at v → q.more ≡ 0 → Stepped text w (walking.Wanted q) (Err (refusal_at Reason.TextLimit v.place)) w
  want_zero v s z = record { says = λ X m₀ base t H g. (types_walked_none m₀ base w, ap (λ (u : Typing). type_move X (row_bodies text w 0 (length X.clauses)) u) (wanted-is X m₀ base t H) ∙ ap (λ (n : ℕ). type_move X (row_bodies text w 0 (length X.clauses)) (wanted n q.tight H.scope H.state (from text q.at) H.above)) z ∙ ap (λ (p : ℕ). refuse 34 p) (sym s.place)) }

  abbrev h : Here
  h = record { more = q.more - 1; tight = q.tight; frame = q.frame; top = q.top }

  module _ (some : ¬ (q.more ≡ 0)) where
    at_level : (X : Text) (m₀ base : ℕ) (t : Typing) (H : Wanting text w X m₀ base q (good t)) → AtLevel text w X m₀ base H.state h H.scope H.above
    at_level X m₀ base t H =
        let n : q.more ≡ q.more - 1 + 1 = omega arith in
        record { walkable = H.walkable; level = omega (arith, H.level); levels = subst (λ (k : ℕ). LevelsHeld text w X H.state m₀ base k q.top H.above) n H.levels }

    pub want-can : CanStep text w (walking.Wanted q) → CanMove text w h Anything
    want-can C = record { X = C.X; m₀ = C.m₀; base = C.base; σ = C.held.state; S = C.held.scope; K = C.held.above; held = at_level C.X C.m₀ C.base C.t C.held; known = tt }

    pub want-moved : (w' : List ℕ) (r : Result code.Walking Refusal) → Moved text w h Anything (enter_at text q.at) r w' → Stepped text w (walking.Wanted q) r w'
    want-moved w' r M = record {
      says = λ X m₀ base t H g.
          let A = at_level X m₀ base t H in
          let n : q.more ≡ suc (q.more - 1) = omega arith in
          let i = levels_within text w X H.state m₀ base (q.more - 1 + 1) q.top H.above A.levels in
          (walked-wider (q.more - 1 + 1) m₀ q.top base w w' (omega (arith, i.0)) (omega (arith, i.1)) M.walked, answered_as text w' X m₀ base r (ap (λ (u : Typing). type_move X (row_bodies text w 0 (length X.clauses)) u) (wanted-is X m₀ base t H) ∙ ap (λ (k : ℕ). type_move X (row_bodies text w 0 (length X.clauses)) (wanted k q.tight H.scope H.state (from text q.at) H.above)) n) (M.says X m₀ base H.state H.scope H.above A tt));
    }

-- ---- arguments

-- the arguments, the last first, are the values in their order
in_order : (w : List ℕ) (top n k : ℕ) → in_order_lem (given_from w top n) (values_in w (top + n) k) ≡ values_in w top (n + k)
in_order w top zero k =
    let e : top + 0 ≡ top = omega arith in
    let f : k ≡ 0 + k = omega arith in
    ap (λ (j : ℕ). values_in w j k) e ∙ ap (λ (j : ℕ). values_in w top j) f
in_order w top (suc n) k =
    let e : top + suc n ≡ suc (top + n) = omega arith in
    let f : n + suc k ≡ suc n + k = omega arith in
    ap (λ (j : ℕ). in_order_lem (given_from w top n) (value_at w (top + n) ∷ values_in w j k)) e ∙ in_order w top n (suc k) ∙ ap (λ (j : ℕ). values_in w top j) f

pub given_order : (w : List ℕ) (top n : ℕ) → in_order_lem (given_from w top n) [] ≡ values_in w top n
given_order w top n = let e : n + 0 ≡ n = omega arith in in_order w top n 0 ∙ ap (λ (j : ℕ). values_in w top j) e

all_in_order : (k : ℕ) (given ts : List ℕ) → AllBelow k given → AllBelow k ts → AllBelow k (in_order_lem given ts)
all_in_order k [] ts a b = b
all_in_order k (t ∷ given) ts a b = all_in_order k given (t ∷ ts) a.1 (a.0, b)

given_same : (w w' : List ℕ) (top n most : ℕ) → ((e : ℕ) → e < most → value_at w' e ≡ value_at w e) → top + n ≤ most → given_from w' top n ≡ given_from w top n
given_same w w' top zero most same h = refl
given_same w w' top (suc n) most same h = ap (λ (t : ℕ). t ∷ given_from w' top n) (same (top + n) (omega arith)) ∙ ap (λ (ts : List ℕ). value_at w (top + n) ∷ ts) (given_same w w' top n most same (omega arith))

-- an argument that came waits as an entry
module _ (text w w₁ : List ℕ) (h : Here) (nm given ty : ℕ) (room : making_size ≤ length w) (few : h.top + given < most_entries) (u : ℕ) (is-ty : u ≡ ty) (bound : w₁ ≡ with_entry w (h.top + given) 0 u) where
  stored : w₁ ≡ with_entry w (h.top + given) 0 ty
  stored = subst (λ (v : ℕ). w₁ ≡ with_entry w (h.top + given) 0 v) is-ty bound

  only : OnlyEntries (h.top + given) (h.top + given + 1) w w₁
  only = subst (λ (v : List ℕ). OnlyEntries (h.top + given) (h.top + given + 1) w v) (sym stored) (entry_only w (h.top + given) 0 ty few room)

  pub bound_walked : TypesWalked (h.more + 1) h.top w w₁
  bound_walked = types_of_entries (h.more + 1) h.top (h.top + given) (h.top + given + 1) w w₁ (omega arith) (omega arith) only

  pub bound_state : (σ : State) → HoldsState w σ → HoldsState w₁ σ
  bound_state σ H = state_kept w w₁ σ H only.same (λ i a b. only.below i (omega arith)) (only.above type_count_at (omega arith)) (only.above node_count_at (omega arith)) (only.above put_count_at (omega arith))

  bound-given : given_from w₁ h.top (given + 1) ≡ ty ∷ given_from w h.top given
  bound-given =
      ap (λ (n : ℕ). given_from w₁ h.top n) (add-one given)
      ∙ ap (λ (t : ℕ). t ∷ given_from w₁ h.top given) (subst (λ (v : List ℕ). value_at v (h.top + given) ≡ ty) (sym stored) (entry_value w (h.top + given) 0 ty few room))
      ∙ ap (λ (ts : List ℕ). ty ∷ ts) (given_same w w₁ h.top given (h.top + given) (λ e q. only.below (scope_at + 2 * e + 1) (omega arith)) (omega arith))

  pub bound_places : Places text w 0 (h.top + given) → Places text w₁ 0 (h.top + (given + 1))
  bound_places p =
      let new : place_in w₁ (h.top + given) ≡ 0 = subst (λ (v : List ℕ). place_in v (h.top + given) ≡ 0) (sym stored) (entry_place w (h.top + given) 0 ty few room) in
      record {
        room = omega (arith, only.same);
        most = omega arith;
        inside = λ e a b. elim (dec_le (h.top + given) e) [
          | no g ↦ omega (arith, only.below (scope_at + 2 * e) (omega arith), p.inside e a (omega arith))
          | yes g ↦ let z : e ≡ h.top + given = omega arith in omega (arith, ap (λ (j : ℕ). place_in w₁ j) z, new)
        ];
      }

  bound-known : (σ : State) → Both (Known ty) (Given w h.top given) σ → Given w₁ h.top (given + 1) σ
  bound-known σ (a, b) = subst (AllBelow (length σ.table)) (sym bound-given) (a, b)

  bound-valued : (σ : State) → Both (Known ty) (Given w h.top given) σ → Valued w₁ h.top (given + 1) σ
  bound-valued σ k = subst (AllBelow (length σ.table)) (given_order w₁ h.top (given + 1)) (all_in_order (length σ.table) (given_from w₁ h.top (given + 1)) [] (bound-known σ k) tt)

  bound-can : (P : State → Type 0) → ((σ : State) → Both (Known ty) (Given w h.top given) σ → P σ) → CanMove text w h (Both (Known ty) (Given w h.top given)) → CanMove text w₁ h P
  bound-can P f C = record { X = C.X; m₀ = C.m₀; base = C.base; σ = C.σ; S = C.S; K = C.K; held = at_on text w w₁ C.X C.σ C.σ (bound_state C.σ C.held.walkable.state) C.m₀ C.base h C.S C.K bound_walked C.held; known = f C.σ C.known }

  pub bound_given_can : CanMove text w h (Both (Known ty) (Given w h.top given)) → CanMove text w₁ h (Given w₁ h.top (given + 1))
  bound_given_can C = bound-can (Given w₁ h.top (given + 1)) bound-known C

  pub bound_valued_can : CanMove text w h (Both (Known ty) (Given w h.top given)) → CanMove text w₁ h (Valued w₁ h.top (given + 1))
  bound_valued_can C = bound-can (Valued w₁ h.top (given + 1)) bound-valued C

  module _ (at : ℕ) (v : Said) (s : Stands text at v) where
    abbrev us : List Word
    us = from text at

    abbrev args : List ℕ
    args = given_from w h.top given

    abbrev behindIf : Bool → Bool → Moving
    behindIf a b X bodies t σ = cond a (ask_argument t σ (bound_at text nm) (ty ∷ args) (behind us)) (need b 32 (place us) >>= λ _. type_put_in X bodies t σ (bound_at text nm) (in_order_lem (ty ∷ args) []) (behind us))

    abbrev left : Moving
    left = left_with text (argument (bound_at text nm) args) ty at

    behind-if : (a b : Bool) → is comma us ≡ a → is endSquare us ≡ b → (X : Text) (bodies : List (List Word)) (σ : State) (S : Scope) (K : List TypeLevel) → left X bodies (here_with h S K) σ ≡ behindIf a b X bodies (here_with h S K) σ
    behind-if a b e f X bodies σ S K = ap (λ (c : Bool). behindIf c (is endSquare us) X bodies (here_with h S K) σ) e ∙ ap (λ (c : Bool). behindIf a c X bodies (here_with h S K) σ) f

    pub argument-open : ¬ (v.code ≡ 14) → ¬ (v.code ≡ 18) → Moved text w h (Both (Known ty) (Given w h.top given)) left (Err (refusal_at Reason.OtherWordDue v.place)) w₁
    argument-open n o = moved_after Anything (Both (Known ty) (Given w h.top given)) left left bound_walked bound_state (λ X m₀ base σ S K A k. (tt, λ bodies. refl)) (refused_moved Anything left (refusal_at Reason.OtherWordDue v.place) (λ X m₀ base σ S K A _ bodies. behind-if false false (is_no text at v s comma n) (is_no text at v s endSquare o) X bodies σ S K ∙ ap (λ (p : ℕ). refuse 32 p) (sym s.place)))

    module _ (w' : List ℕ) (r : Result code.Walking Refusal) where
      pub argument-comma : v.code ≡ 14 → Moved text w₁ h (Given w₁ h.top (given + 1)) (argument_ask text w₁ h.top nm (given + 1) v.end) r w' → Moved text w h (Both (Known ty) (Given w h.top given)) left r w'
      argument-comma e M = moved_after (Given w₁ h.top (given + 1)) (Both (Known ty) (Given w h.top given)) (argument_ask text w₁ h.top nm (given + 1) v.end) left bound_walked bound_state (λ X m₀ base σ S K A k. (
        bound-known σ k,
        λ bodies.
            behind-if true (is endSquare us) (is_yes text at v s comma e) refl X bodies σ S K
            ∙ ap (λ (xs : List Word). ask_argument (here_with h S K) σ (bound_at text nm) (ty ∷ args) xs) (onward text at v s 13 e).rest
            ∙ ap (λ (ts : List ℕ). ask_argument (here_with h S K) σ (bound_at text nm) ts (from text v.end)) (sym bound-given),
      )) M

      pub argument-closed : ¬ (v.code ≡ 14) → v.code ≡ 18 → Moved text w₁ h (Valued w₁ h.top (given + 1)) (put_after text w₁ h.top nm (given + 1) v.end) r w' → Moved text w h (Both (Known ty) (Given w h.top given)) left r w'
      argument-closed n e M = moved_after (Valued w₁ h.top (given + 1)) (Both (Known ty) (Given w h.top given)) (put_after text w₁ h.top nm (given + 1) v.end) left bound_walked bound_state (λ X m₀ base σ S K A k. (
        bound-valued σ k,
        λ bodies.
            behind-if false true (is_no text at v s comma n) (is_yes text at v s endSquare e) X bodies σ S K
            ∙ ap (λ (xs : List Word). type_put_in X bodies (here_with h S K) σ (bound_at text nm) (in_order_lem (ty ∷ args) []) xs) (onward text at v s 17 e).rest
            ∙ ap (λ (ts : List ℕ). type_put_in X bodies (here_with h S K) σ (bound_at text nm) ts (from text v.end)) (ap (λ (ts : List ℕ). in_order_lem ts []) (sym bound-given) ∙ given_order w₁ h.top (given + 1)),
      )) M

-- ---- sides

module _ (text w w' : List ℕ) (h : Here) (form ty at : ℕ) (r : Result code.Walking Refusal) where
  pub side_product : form ≡ 3 → Moved text w h (Known ty) (arrow_after text ty at) r w' → Moved text w h (Known ty) (side_done text form ty at) r w'
  side_product e M = moved_as (Known ty) (arrow_after text ty at) (side_done text form ty at) (λ X bodies σ S K. ap (λ (n : ℕ). side_done text n ty at X bodies (here_with h S K) σ) e) M

  done-by : (b : Bool) (t : TypeHere) (x : Found) (us : List Word) → behind_side (cond b arrow linear) t x us ≡ type_done t x us
  done-by true t x us = refl
  done-by false t x us = refl

  pub side_done_lem : ¬ (form ≡ 3) → Moved text w h (Known ty) (done_after text ty at) r w' → Moved text w h (Known ty) (side_done text form ty at) r w'
  side_done_lem n M = moved_as (Known ty) (done_after text ty at) (side_done text form ty at) (λ X bodies σ S K. ap (λ (b : Bool). good (behind_side (cond b product (cond (eqb form 4) arrow linear)) (here_with h S K) (found_in_lem ty σ) (from text at))) (ne_eqb form 3 n) ∙ ap good (done-by (eqb form 4) (here_with h S K) (found_in_lem ty σ) (from text at))) M

pub said-low : (side : Side) → (3 ≤ number_said side) × (number_said side ≤ 5)
said-low Side.Product = (omega arith, omega arith)
said-low Side.Arrow = (omega arith, omega arith)
said-low Side.Linear = (omega arith, omega arith)

pub not-product : (side : Side) → (side ≡ Side.Arrow) ⊎ (side ≡ Side.Linear) → ¬ (number_said side ≡ 3)
not-product side (inl e) z = let n : number_said side ≡ 4 = ap number_said e in absurd (omega (arith, n, z))
not-product side (inr e) z = let n : number_said side ≡ 5 = ap number_said e in absurd (omega (arith, n, z))

-- 3, 4 or 5
by_form : (P : ℕ → Type 0) → P 3 → P 4 → P 5 → (n : ℕ) → 3 ≤ n → n ≤ 5 → P n
by_form P a b c n low high = elim (dec_le 4 n) [
  | no g ↦ let e : 3 ≡ n = omega arith in subst P e a
  | yes g ↦ elim (dec_le 5 n) [
    | no k ↦ let e : 4 ≡ n = omega arith in subst P e b
    | yes k ↦ let e : 5 ≡ n = omega arith in subst P e c
  ]
]

-- the record of a sign's two sides, as the table's code has it
said_record : (side : Side) (a b : ℕ) → form_of (form_by (number_said side)) a b ≡ rec_of_kind (kind_byte (kind_said side)) a b
said_record Side.Product a b = refl
said_record Side.Arrow a b = refl
said_record Side.Linear a b = refl

said_below : (side : Side) (k a b : ℕ) → a < k → b < k → Below k (rec_of_kind (kind_byte (kind_said side)) a b)
said_below Side.Product k a b x y = (x, y)
said_below Side.Arrow k a b x y = (x, y)
said_below Side.Linear k a b x y = (x, y)

said_lists : (side : Side) → 2 ≤ kind_byte (kind_said side)
said_lists Side.Product = omega arith
said_lists Side.Arrow = omega arith
said_lists Side.Linear = omega arith

-- .. of the same kind
pub listable_as : (w : List ℕ) (k k' : Kind) (a b : ℕ) → k ≡ k' → Listable w (record { kind = k'; left = a; right = b }) → Listable w (record { kind = k; left = a; right = b })
listable_as w k k' a b e L = subst (λ (q : Kind). Listable w (record { kind = q; left = a; right = b })) (sym e) L

pub listed_as : (w : List ℕ) (k k' : Kind) (a b place : ℕ) (x : Result ℕ Refusal) (w' : List ℕ) → k ≡ k' → ListedSays w (record { kind = k; left = a; right = b }) place x w' → ListedSays w (record { kind = k'; left = a; right = b }) place x w'
listed_as w k k' a b place x w' e L = subst (λ (q : Kind). ListedSays w (record { kind = q; left = a; right = b }) place x w') e L

module _ (text w w₁ : List ℕ) (h : Here) (l : Level) (side : Side) (is_form : l.form ≡ number_said side) (ty at : ℕ) where
  abbrev rec : Record
  rec = record { kind = kind_said side; left = l.ty; right = ty }

  abbrev P : State → Type 0
  P = Both (Known l.ty) (Known ty)

  pub can_list : CanMove text w h P → Listable w rec
  can_list C =
      let H = C.held.walkable.state.types in
      let few = H.ok.few in
      let k = C.known in
      record { room = H.room; count = omega (arith, H.count); form = said_lists side; left = omega (arith, k.0); right = omega (arith, k.1) }

  abbrev answer : State → Answer Found
  answer σ = listed σ (record_of_lem rec) l.place

  abbrev go_on_lem : TypeHere → Found → Answer Typing
  go_on_lem t y = good (behind_side (form_by l.form) t y (from text at))

  left_is : (X : Text) (bodies : List (List Word)) (t : TypeHere) (σ : State) → left_with text (other (form_by l.form) l.place l.ty) ty at X bodies t σ ≡ (answer σ >>= go_on_lem t)
  left_is X bodies t σ = ap (λ (q : TyRec). listed σ q l.place >>= go_on_lem t) (ap (λ (n : ℕ). form_of (form_by n) l.ty ty) is_form ∙ said_record side l.ty ty)

  known-listed : (x : Result ℕ Refusal) → ListedSays w rec l.place x w₁ → (σ : State) → HoldsState w σ → P σ → FoundIn w₁ x (answer σ)
  known-listed x L σ H (a, b) = L.says σ H (said_below side (length σ.table) l.ty ty a b)

  abbrev leaves : Moving
  leaves = left_with text (other (form_by l.form) l.place l.ty) ty at

  pub side_refused : CanMove text w h P → (x : Result ℕ Refusal) (e : Refusal) → x ≡ Err e → ListedSays w rec l.place x w₁ → Moved text w h P leaves (Err e) w₁
  side_refused C x e i L = table_refused text w w₁ h P answer go_on_lem leaves left_is C L.only x (known-listed x L) e i

  module _ (C : CanMove text w h P) (x : Result ℕ Refusal) (t : ℕ) (is_x : x ≡ Ok t) (L : ListedSays w rec l.place x w₁) where
    pub can-after : CanMove text w₁ h (Known t)
    can-after = table-can text w w₁ h P answer go_on_lem leaves left_is C L.only x (known-listed x L) t is_x

    pub side-listed : (w₂ : List ℕ) (r : Result code.Walking Refusal) → Moved text w₁ h (Known t) (side_done text (number_said side) t at) r w₂ → Moved text w h P leaves r w₂
    side-listed w₂ r M = table-found text w w₁ h P answer go_on_lem leaves left_is C L.only x (known-listed x L) t is_x (side_done text l.form t at) (λ X bodies u σ. refl) w₂ r (subst (λ (n : ℕ). Moved text w₁ h (Known t) (side_done text n t at) r w₂) (sym is_form) M)

-- ---- a step at a type that came

module _ (text w : List ℕ) (q : Come) where
  abbrev here : Here
  here = here_in w q.more

  -- the level that waits
  pub record Awaited (X : Text) (m₀ base : ℕ) (t : Typing) : Type 0 where
    pub state : State
    pub l : TypeLevel
    pub K : List TypeLevel
    pub is : t ≡ came q.more (found_in_lem q.ty state) (from text q.at) (l ∷ K)
    pub known : q.ty < length state.table
    pub level : LevelHeld text w X state q.more l
    pub at : AtLevel text w X m₀ base state here l.scope K
    pub lexed : Lexed text q.at

  awaited-by : (X : Text) (m₀ base : ℕ) (t : Typing) (σ : State) (K : List TypeLevel) → t ≡ came q.more (found_in_lem q.ty σ) (from text q.at) K → q.ty < length σ.table → Lexed text q.at → LevelsHeld text w X σ m₀ base q.more q.top K → Going t → Awaited X m₀ base t
  awaited-by X m₀ base t σ [] e k x h g = absurd (subst Going e g)
  awaited-by X m₀ base t σ (l ∷ K) e k x (a, (b, h)) g = record { state = σ; l = l; K = K; is = e; known = k; level = a; at = record { walkable = a.walkable; level = a.level; levels = h }; lexed = x }

  pub awaited : (X : Text) (m₀ base : ℕ) (t : Typing) → Coming text w X m₀ base q (good t) → Going t → Awaited X m₀ base t
  awaited X m₀ base t H g = awaited-by X m₀ base t H.state H.above (good-inj H.is) H.known H.lexed H.levels g

  pub come_held : (C : CanStep text w (walking.Came q)) → Awaited C.X C.m₀ C.base C.t
  come_held C = awaited C.X C.m₀ C.base C.t C.held C.going

  pub come_room : CanStep text w (walking.Came q) → InLevels w (q.more + 1)
  come_room C = let D = come_held C in (D.level.walkable.room, omega (arith, D.level.level, D.level.walkable.level))

  flag-tight : (b : Bool) → eqb (flag_number b) 1 ≡ b
  flag-tight true = refl
  flag-tight false = refl

  -- what a level's numbers tell of what it waits for
  pub record Tells (P : State → Type 0) (go : Moving) : Type 0 where
    pub knows : (X : Text) (σ : State) (l : TypeLevel) → LevelHeld text w X σ q.more l → q.ty < length σ.table → P σ
    pub does : (X : Text) (σ : State) (l : TypeLevel) → LevelHeld text w X σ q.more l → q.ty < length σ.table → (bodies : List (List Word)) (t : TypeHere) → type_left X bodies t l.wish (found_in_lem q.ty σ) (from text q.at) ≡ go X bodies t σ

  pub come_can : (P : State → Type 0) (go : Moving) → Tells P go → CanStep text w (walking.Came q) → CanMove text w here P
  come_can P go T C = let D = come_held C in record { X = C.X; m₀ = C.m₀; base = C.base; σ = D.state; S = D.l.scope; K = D.K; held = D.at; known = T.knows C.X D.state D.l D.level D.known }

  pub come_moved : (P : State → Type 0) (go : Moving) → Tells P go → (w' : List ℕ) (r : Result code.Walking Refusal) → Moved text w here P go r w' → Stepped text w (walking.Came q) r w'
  come_moved P go T w' r M = record {
    says = λ X m₀ base t H g.
        let D = awaited X m₀ base t H g in
        let i = levels_within text w X D.state m₀ base (q.more + 1) here.top D.K D.at.levels in
        let B : List (List Word) = row_bodies text w 0 (length X.clauses) in
        let tight : D.l.tight ≡ here.tight = sym (ap (λ (n : ℕ). eqb n 1) D.level.flag ∙ flag-tight D.l.tight) in
        (walked-wider (q.more + 1) m₀ here.top base w w' (omega (arith, i.0)) (omega (arith, i.1)) M.walked, answered_as text w' X m₀ base r (ap (λ (u : Typing). type_move X B u) D.is ∙ ap (λ (b : Bool). type_left X B (record { more = q.more; tight = b; scope = D.l.scope; above = D.K }) D.l.wish (found_in_lem q.ty D.state) (from text q.at)) tight ∙ T.does X D.state D.l D.level D.known B (here_with here D.l.scope D.K)) (M.says X m₀ base D.state D.l.scope D.K D.at (T.knows X D.state D.l D.level D.known)));
  }

-- ---- a step

pub step_can : (text w : List ℕ) (s s' : code.Walking) → s ≡ s' → CanStep text w s → CanStep text w s'
step_can text w s s' e C = subst (CanStep text w) e C

pub step_as : (text w w' : List ℕ) (s s' : code.Walking) (r : Result code.Walking Refusal) → s ≡ s' → Stepped text w s' r w' → Stepped text w s r w'
step_as text w w' s s' r e Z = subst (λ (y : code.Walking). Stepped text w y r w') (sym e) Z
