-- Parts of a step in one another, and what stands behind an atom: one law for each way out. Assumes nothing.
use Prim.Native.Nat.{ℕ, zero, suc, ◌+◌, ◌≤◌}
use mathlib.Core.Path.{◌≡◌, refl, sym, ap, subst, ◌∙◌}
use mathlib.Core.Bool.{Bool, true, false, not, ◌&&◌, cond}
use mathlib.Core.List.{List, [], ◌∷◌}
use native.Mathlib.Omega.{arith}
use native.Mathlib.Numerals.{add-one}
use lib.Dec.{eqb}
use lib.ListN.{length, drop, length-drop}
use Rattle.std.proofs.Common.{Result, Ok, Err}
use Rattle.answers.specs.declared.Refusal.{Refusal}
use Rattle.answers.specs.Refusals.{said_why}
use Rattle.calculus.specs.Answer.{Answer, good, refused}
use Rattle.notation_calculus.specs.Words.{ends_line, blank, first, gap, arrow, linear, times, Word, word_at, words_from}
use Rattle.notation_calculus.specs.Trees.{Form, product, Text}
use Rattle.notation_calculus.specs.Trees as Trees
use Rattle.notation_calculus.specs.Grammar.{peek, behind, is}
use Rattle.notation_calculus.specs.Making.{State, Scope}
use Rattle.notation_theorems.proofs.Answering.{On, on_any, on_either, on_good}
use Rattle.notation_machine.specs.TypeMachine.{other, TypeLevel, Typing, came, TypeHere, ask_type, type_done, ask_side, arrow_from}
use Rattle.words.specs.Next.{Said}
use Rattle.words.specs.Lexed.{lexed, from, Lexed, Onward, Stands}
use Rattle.words.specs.Marks.{Marks}
use Rattle.grammar.proofs.EndLaws.{is_yes, mark-stands, mark_no}
use Rattle.made_types.specs.Held.{HoldsState}
use Rattle.walk_levels.specs.TypeLevels.{flag_number, side_number}
use Rattle.walks.specs.Walkable.{row_bodies}
use Rattle.walks.specs.Walked.{TypesWalked}
use Rattle.walks.proofs.Kept.{types_walked_none, types_walked_then, bodies_on}
use Rattle.type_walk.specs.declared.levels.Here.{Here}
use Rattle.type_walk.specs.declared.levels.Walking as code
use Rattle.type_walk.specs.declared.levels.Side.{Side}
use Rattle.type_walk.specs.Wishes.{number_said}
use Rattle.type_walk.specs.Holding.{here_with, AtLevel, Answers}
use Rattle.type_walk.specs.Moves.{CanMove, Waited, Moving, Moved, Known, found_in_lem, done_at, form_by, side_after, arrow_after, done_after, side_ask}
use Rattle.type_walk.proofs.HoldLaws.{at_on}
use Rattle.type_walk.proofs.AskLaws.{can_wait, ask_held, places-none, waited_moved}

-- ---- places

gap-short : (b : Bool) (s : List ℕ) → gap b s ≤ length s
gap-short true [] = omega arith
gap-short true (c ∷ s) = omega (arith, gap-short (not (ends_line c)) s)
gap-short false [] = omega arith
gap-short false (c ∷ s) = by (blank c) (eqb c 45 && eqb (first s) 45) (gap-short false s) (gap-short true s)
  where
    by : (a b : Bool) → gap false s ≤ length s → gap true s ≤ length s → cond a (suc (gap false s)) (cond b (suc (gap true s)) 0) ≤ suc (length s)
    by true b h g = omega arith
    by false true h g = omega arith
    by false false h g = omega arith

-- the first word from an offset on stands in the text, or at its end
words_inside : (text : List ℕ) (at n : ℕ) (s : List ℕ) → at + length s ≤ length text → On (λ (ws : List Word). (peek ws).place ≤ length text) (words_from n s at)
words_inside text at zero s h = omega arith
words_inside text at (suc n) s h =
    let short : at + gap false s ≤ length text = omega (arith, gap-short false s) in
    on_either P (eqb (length (drop (gap false s) s)) 0) _ _ short (on_any P (word_at (drop (gap false s) s) (at + gap false s)) _ λ w. on_any P (words_from n (drop w.long (drop (gap false s) s)) (at + gap false s + w.long)) _ λ ws. short)
  where
    P : List Word → Type 0
    P ws = (peek ws).place ≤ length text

pub place_inside : (text : List ℕ) (at : ℕ) → Lexed text at → (v : Said) → Stands text at v → v.place ≤ length text
unfolding lexed
place_inside text at l v s = omega (arith, s.place, on_good (λ (ws : List Word). (peek ws).place ≤ length text) (words_from (suc (length text)) (drop at text) at) (from text at) (words_inside text at (suc (length text)) (drop at text) (omega (arith, length-drop at text, l.within))) l.words)

-- a word that is not the end can be passed
pub onward : (text : List ℕ) (at : ℕ) (v : Said) → Stands text at v → (n : ℕ) → v.code ≡ suc n → Onward text at v.end
onward text at v s n e = s.onward (λ z. omega arith)

-- ---- parts in one another

pub answered_as : (text w : List ℕ) (X : Text) (m₀ base : ℕ) (r : Result code.Walking Refusal) {p q : Answer Typing} → p ≡ q → Answers text w X m₀ base r q → Answers text w X m₀ base r p
answered_as text w X m₀ base r e a = subst (λ (x : Answer Typing). Answers text w X m₀ base r x) (sym e) a

-- the same machine, written otherwise
pub moved_by :
    {text w w' : List ℕ} {h : Here} {r : Result code.Walking Refusal} (P Q : State → Type 0) (go go' : Moving)
    → ((X : Text) (m₀ base : ℕ) (σ : State) (S : Scope) (K : List TypeLevel) → AtLevel text w X m₀ base σ h S K → Q σ → P σ × ((bodies : List (List Word)) → go' X bodies (here_with h S K) σ ≡ go X bodies (here_with h S K) σ))
    → Moved text w h P go r w' → Moved text w h Q go' r w'
moved_by {text} {w} {w'} {h} {r} P Q go go' f M = record {
  walked = M.walked;
  says = λ X m₀ base σ S K A q. let d = f X m₀ base σ S K A q in answered_as text w' X m₀ base r (d.1 (row_bodies text w 0 (length X.clauses))) (M.says X m₀ base σ S K A d.0);
}

-- .. of which nothing more has to be known
pub moved_as : {text w w' : List ℕ} {h : Here} {r : Result code.Walking Refusal} (P : State → Type 0) (go go' : Moving) → ((X : Text) (bodies : List (List Word)) (σ : State) (S : Scope) (K : List TypeLevel) → go' X bodies (here_with h S K) σ ≡ go X bodies (here_with h S K) σ) → Moved text w h P go r w' → Moved text w h P go' r w'
moved_as P go go' f M = moved_by P P go go' (λ X m₀ base σ S K A q. (q, λ bodies. f X bodies σ S K)) M

pub refused_moved : {text w : List ℕ} {h : Here} (P : State → Type 0) (go : Moving) (e : Refusal) → ((X : Text) (m₀ base : ℕ) (σ : State) (S : Scope) (K : List TypeLevel) → AtLevel text w X m₀ base σ h S K → P σ → (bodies : List (List Word)) → go X bodies (here_with h S K) σ ≡ refused (said_why e)) → Moved text w h P go (Err e) w
refused_moved {text} {w} {h} P go e f = record { walked = types_walked_none (h.more + 1) h.top w; says = λ X m₀ base σ S K A q. f X m₀ base σ S K A q (row_bodies text w 0 (length X.clauses)) }

-- behind a store that leaves the state as it was
pub moved_after :
    {text w w₁ w' : List ℕ} {h : Here} {r : Result code.Walking Refusal} (P Q : State → Type 0) (go go' : Moving) → TypesWalked (h.more + 1) h.top w w₁ → ((σ : State) → HoldsState w σ → HoldsState w₁ σ)
    → ((X : Text) (m₀ base : ℕ) (σ : State) (S : Scope) (K : List TypeLevel) → AtLevel text w X m₀ base σ h S K → Q σ → P σ × ((bodies : List (List Word)) → go' X bodies (here_with h S K) σ ≡ go X bodies (here_with h S K) σ))
    → Moved text w₁ h P go r w' → Moved text w h Q go' r w'
moved_after {text} {w} {w₁} {w'} {h} {r} P Q go go' W stays f M = record {
  walked = types_walked_then (h.more + 1) (h.more + 1) (h.more + 1) h.top h.top h.top w w₁ w' (omega arith) (omega arith) (omega arith) (omega arith) W M.walked;
  says = λ X m₀ base σ S K A q.
      let d = f X m₀ base σ S K A q in
      let few = A.walkable.clauses.rows.few in
      let e : row_bodies text w₁ 0 (length X.clauses) ≡ row_bodies text w 0 (length X.clauses) = bodies_on (h.more + 1) h.top text w w₁ W 0 (length X.clauses) (omega arith) in
      answered_as text w' X m₀ base r (d.1 (row_bodies text w 0 (length X.clauses)) ∙ ap (λ (b : List (List Word)). go X b (here_with h S K) σ) (sym e)) (M.says X m₀ base σ S K (at_on text w w₁ X σ σ (stays σ A.walkable.state) m₀ base h S K W A) d.0);
}

-- ---- a type that is done

pub done_moved : (text w : List ℕ) (h : Here) (ty at : ℕ) (r : code.Walking) → Lexed text at → r ≡ done_at h ty at → Moved text w h (Known ty) (done_after text ty at) (Ok r) w
done_moved text w h ty at r l e = subst (λ (y : code.Walking). Moved text w h (Known ty) (done_after text ty at) (Ok y) w) (sym e) (record {
  walked = types_walked_none (h.more + 1) h.top w;
  says = λ X m₀ base σ S K A k. record { state = σ; above = K; is = ap (λ (n : ℕ). good (came n (found_in_lem ty σ) (from text at) K)) (sym (add-one h.more)); known = k; holds = A.walkable.state; lexed = l; levels = A.levels };
})

-- ---- sides

number_back : (side : Side) → number_said side ≡ side_number (form_by (number_said side))
number_back Side.Product = refl
number_back Side.Arrow = refl
number_back Side.Linear = refl

pub side_asked :
    (text w w' : List ℕ) (h : Here) (side : Side) (form ty sign end flag : ℕ) (tight : Bool) (r : code.Walking) → CanMove text w h (Known ty) → Lexed text end → form ≡ number_said side → flag ≡ flag_number h.tight
    → Waited w h (record { form = form; flag = flag; place = sign; count = 0; node = 0; ty = ty; deep = 0; next = 0 }) (record { more = h.more; tight = tight; frame = h.frame; top = h.top; at = end }) r w'
    → Moved text w h (Known ty) (side_ask text (number_said side) tight ty sign end) (Ok r) w'
side_asked text w w' h side form ty sign end flag tight r C l n f g =
    let waits = can_wait text w C.X C.m₀ C.base C.σ h C.S C.K C.held in
    waited_moved text w h _ _ r w' (Known ty) (side_ask text (number_said side) tight ty sign end) waits g (λ X m₀ base σ S K A k. ask_held w h _ waits text X m₀ base σ S K A (other (form_by (number_said side)) sign ty) tight h.frame h.top end S f (n ∙ number_back side, refl, refl) k (places-none text w h.top A.walkable.scope.places) (omega (arith, A.level)) (omega arith) A.walkable l)

-- the side behind the sign that stands at an offset
module _ (text : List ℕ) (at : ℕ) (v : Said) (m : Marks text at v) where
  abbrev ws : List Word
  ws = from text at

  asked-words : (n : ℕ) → v.code ≡ suc n → Stands text at v → (t : TypeHere) (f : Form) (tight : Bool) (ty : ℕ) (σ : State) → good (ask_side t f tight (found_in_lem ty σ) ws) ≡ good (ask_type t (other f v.place ty) tight t.scope σ (from text v.end))
  asked-words n e s t f tight ty σ = ap (λ (p : ℕ). good (ask_type t (other f p ty) tight t.scope σ (behind ws))) (sym s.place) ∙ ap (λ (us : List Word). good (ask_type t (other f v.place ty) tight t.scope σ us)) (onward text at v s n e).rest

  abbrev arrow_if : ℕ → Bool → Bool → Bool → TypeHere → State → Answer Typing
  arrow_if ty a b c t σ = good (cond a (type_done t (found_in_lem ty σ) ws) (cond b (ask_side t Trees.arrow false (found_in_lem ty σ) ws) (cond c (ask_side t Trees.linear false (found_in_lem ty σ) ws) (type_done t (found_in_lem ty σ) ws))))

  module _ (w w' : List ℕ) (h : Here) (ty : ℕ) (r : Result code.Walking Refusal) where
    arrow-if : (a b c : Bool) (S : Scope) (K : List TypeLevel) (σ : State) → h.tight ≡ a → is arrow ws ≡ b → is linear ws ≡ c → good (arrow_from (here_with h S K) (found_in_lem ty σ) ws) ≡ arrow_if ty a b c (here_with h S K) σ
    arrow-if a b c S K σ e f g =
        ap (λ (x : Bool). arrow_if ty x (is arrow ws) (is linear ws) (here_with h S K) σ) e
        ∙ ap (λ (x : Bool). arrow_if ty a x (is linear ws) (here_with h S K) σ) f
        ∙ ap (λ (x : Bool). arrow_if ty a b x (here_with h S K) σ) g

    pub arrow-arrow : h.tight ≡ false → v.code ≡ 8 → Moved text w h (Known ty) (side_ask text 4 false ty v.place v.end) r w' → Moved text w h (Known ty) (arrow_after text ty at) r w'
    arrow-arrow t e M = let s = mark-stands text at v m 8 e (λ z. omega arith) in moved_as (Known ty) (side_ask text 4 false ty v.place v.end) (arrow_after text ty at) (λ X bodies σ S K. arrow-if false true (is linear ws) S K σ t (is_yes text at v s arrow e) refl ∙ asked-words 7 e s (here_with h S K) Trees.arrow false ty σ) M

    pub arrow-linear : h.tight ≡ false → ¬ (v.code ≡ 8) → v.code ≡ 9 → Moved text w h (Known ty) (side_ask text 5 false ty v.place v.end) r w' → Moved text w h (Known ty) (arrow_after text ty at) r w'
    arrow-linear t n e M = let s = mark-stands text at v m 9 e (λ z. omega arith) in moved_as (Known ty) (side_ask text 5 false ty v.place v.end) (arrow_after text ty at) (λ X bodies σ S K. arrow-if false false true S K σ t (mark_no text at v arrow m.arrow n) (is_yes text at v s linear e) ∙ asked-words 8 e s (here_with h S K) Trees.linear false ty σ) M

    pub arrow_none : h.tight ≡ false → ¬ (v.code ≡ 8) → ¬ (v.code ≡ 9) → Moved text w h (Known ty) (done_after text ty at) r w' → Moved text w h (Known ty) (arrow_after text ty at) r w'
    arrow_none t n o M = moved_as (Known ty) (done_after text ty at) (arrow_after text ty at) (λ X bodies σ S K. arrow-if false false false S K σ t (mark_no text at v arrow m.arrow n) (mark_no text at v linear m.linear o)) M

    pub side-times : v.code ≡ 10 → Moved text w h (Known ty) (side_ask text 3 true ty v.place v.end) r w' → Moved text w h (Known ty) (side_after text ty at) r w'
    side-times e M = let s = mark-stands text at v m 10 e (λ z. omega arith) in moved_as (Known ty) (side_ask text 3 true ty v.place v.end) (side_after text ty at) (λ X bodies σ S K. ap (λ (b : Bool). good (cond b (ask_side (here_with h S K) product true (found_in_lem ty σ) ws) (arrow_from (here_with h S K) (found_in_lem ty σ) ws))) (is_yes text at v s times e) ∙ asked-words 9 e s (here_with h S K) product true ty σ) M

    pub side-none : ¬ (v.code ≡ 10) → Moved text w h (Known ty) (arrow_after text ty at) r w' → Moved text w h (Known ty) (side_after text ty at) r w'
    side-none n M = moved_as (Known ty) (arrow_after text ty at) (side_after text ty at) (λ X bodies σ S K. ap (λ (b : Bool). good (cond b (ask_side (here_with h S K) product true (found_in_lem ty σ) ws) (arrow_from (here_with h S K) (found_in_lem ty σ) ws))) (mark_no text at v times m.times n)) M

pub arrow_tight : (text w w' : List ℕ) (h : Here) (ty at : ℕ) (r : Result code.Walking Refusal) → h.tight ≡ true → Moved text w h (Known ty) (done_after text ty at) r w' → Moved text w h (Known ty) (arrow_after text ty at) r w'
arrow_tight text w w' h ty at r t M = moved_as (Known ty) (done_after text ty at) (arrow_after text ty at) (λ X bodies σ S K. ap (λ (b : Bool). good (cond b (type_done (here_with h S K) (found_in_lem ty σ) (from text at)) (cond (is arrow (from text at)) (ask_side (here_with h S K) Trees.arrow false (found_in_lem ty σ) (from text at)) (cond (is linear (from text at)) (ask_side (here_with h S K) Trees.linear false (found_in_lem ty σ) (from text at)) (type_done (here_with h S K) (found_in_lem ty σ) (from text at)))))) t) M
