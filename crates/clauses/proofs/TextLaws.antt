-- The whole text: its edition, then its items. Assumes nothing.
use Prim.Native.Nat.{ℕ, ◌+◌, ◌≤◌}
use mathlib.Core.Path.{◌≡◌, refl, sym, ap, ◌∙◌}
use mathlib.Core.Bool.{Bool, true, false, ◌||◌, cond}
use mathlib.Core.List.{List, []}
use native.Mathlib.Omega.{arith}
use lib.Dec.{eqb}
use lib.ListN.{length, get_or, set, length-set}
use lib.Seq.{get_or-set_same, get_or-set_other}
use borrow.Author.Tests.{eqb-true}
use Rattle.calculus.specs.Answer.{Answer, good, refused, ◌>>=◌, need}
use Rattle.calculus.specs.Terms.{Edition, is_second}
use Rattle.calculus.specs.Terms as Terms
use Rattle.calculus.proofs.Answers.{refused≢good, good-inj}
use Rattle.notation_calculus.specs.Words.{edition, Token, sign, part, number, name, Word}
use Rattle.notation_calculus.specs.Trees.{Text}
use Rattle.notation_calculus.specs.Grammar.{Got, got, peek, behind, place, is, value_of, Items, no_items, items_from, edition_at, text_of}
use Rattle.words.specs.Tables.{token_value}
use Rattle.words.specs.Next.{Said}
use Rattle.words.specs.Lexed.{from, Lexed, Onward, Stands}
use Rattle.std.proofs.Common.{Result, Ok, Err}
use Rattle.answers.specs.declared.Refusal.{Refusal as Why}
use Rattle.answers.specs.Refusals.{said_why}
use Rattle.grammar.specs.Ends.{Ends}
use Rattle.grammar.specs.Skips.{edition_end}
use Rattle.grammar.proofs.EndLaws.{is_yes, is_no}
use Rattle.grammar.proofs.ItemLaws.{edition_rest}
use Rattle.making_memory.specs.Map.{clause_count_at, second_at_lem, making_size}
use Rattle.clauses.specs.declared.texts.Whole.{Whole}
use Rattle.clauses.specs.Rows.{flag_of, HoldsRows}
use Rattle.clauses.specs.Texts.{OnlyRows, OnlyTable, TableHeld, ProceedsIn, Defined, ItemsTo, ReadsItems, ItemsRead, says_second, TextHeld, ReadsText, TextRead}
use Rattle.clauses.proofs.HeadLaws.{rest_back}
use Rattle.clauses.proofs.TableLaws.{kept_then}
use Rattle.clauses.proofs.ItemLaws.{refused_back}

-- ---- the edition

module _ (text : List ℕ) (w : Said) (s : Stands text 0 w) where
  abbrev says_by : Bool → List Word → Bool
  says_by b us = cond b (eqb (token_value (peek us).token) 2) false

  pub says_none : ¬ (w.code ≡ 6) → false ≡ says_second (from text 0)
  unfolding says_second
  says_none e = sym (ap (λ (b : Bool). says_by b (behind (from text 0))) (is_no text 0 w s edition e))

  pub edition_onward : w.code ≡ 6 → Onward text 0 w.end
  edition_onward e = s.onward (λ z. omega arith)

  pub says_value : w.code ≡ 6 → (v : Said) → Stands text w.end v → eqb v.value 2 ≡ says_second (from text 0)
  unfolding says_second
  says_value e v t = ap (λ (n : ℕ). eqb n 2) t.value ∙ sym (ap (λ (b : Bool). says_by b (behind (from text 0))) (is_yes text 0 w s edition e) ∙ ap (says_by true) (edition_onward e).rest)

abbrev EditionSays : List Word → Answer (Got Edition) → Type 0
EditionSays ws m = (E : Got Edition) → m ≡ good E → is_second E.value ≡ says_second ws

value_says : (k : ℕ) (a b : Bool) → eqb k 1 ≡ a → eqb k 2 ≡ b → (us : List Word) (at : ℕ) (E : Got Edition) → (need (a || b) 32 at >>= λ _. got (cond a Terms.first Terms.second) us) ≡ good E → is_second E.value ≡ b
value_says k true true e f us at E g = absurd (omega (arith, eqb-true k 1 e, eqb-true k 2 f))
value_says k true false e f us at E g = ap (λ (x : Got Edition). is_second x.value) (sym (good-inj g))
value_says k false true e f us at E g = ap (λ (x : Got Edition). is_second x.value) (sym (good-inj g))
value_says k false false e f us at E g = absurd (refused≢good g)

token_says : (t : Token) (us : List Word) (at : ℕ) (E : Got Edition) → (value_of t at >>= λ k. need (eqb k 1 || eqb k 2) 32 at >>= λ _. got (cond (eqb k 1) Terms.first Terms.second) us) ≡ good E → is_second E.value ≡ eqb (token_value t) 2
token_says (sign t) us at E g = absurd (refused≢good g)
token_says (part p) us at E g = absurd (refused≢good g)
token_says (number n) us at E g = value_says n (eqb n 1) (eqb n 2) refl refl us at E g
token_says (name n) us at E g = absurd (refused≢good g)

edition_says : (ws : List Word) → EditionSays ws (edition_at ws)
unfolding says_second
edition_says ws = by (is edition ws) refl
  where
    by : (b : Bool) → is edition ws ≡ b → (E : Got Edition) → cond b (value_of (peek (behind ws)).token (place (behind ws)) >>= λ k. need (eqb k 1 || eqb k 2) 32 (place (behind ws)) >>= λ _. got (cond (eqb k 1) Terms.first Terms.second) (behind (behind ws))) (got Terms.first ws) ≡ good E → is_second E.value ≡ cond b (eqb (token_value (peek (behind ws)).token) 2) false
    by true e E g = token_says (peek (behind ws)).token (behind (behind ws)) (place (behind ws)) E g
    by false e E g = ap (λ (x : Got Edition). is_second x.value) (sym (good-inj g))

-- ---- the memory before the items

module _ (w : List ℕ) (f : ℕ) (room : making_size ≤ length w) where
  abbrev begun : List ℕ
  begun = set (set w clause_count_at 0) second_at_lem f

  pub length-begun : length begun ≡ length w
  length-begun = length-set (set w clause_count_at 0) second_at_lem f ∙ length-set w clause_count_at 0

  begun-count : get_or begun clause_count_at 0 ≡ 0
  begun-count = get_or-set_other (set w clause_count_at 0) second_at_lem clause_count_at f 0 (λ q. absurd (omega arith)) ∙ get_or-set_same w clause_count_at 0 0 (omega arith)

  begun-second : get_or begun second_at_lem 0 ≡ f
  begun-second = get_or-set_same (set w clause_count_at 0) second_at_lem f 0 (omega (arith, length-set w clause_count_at 0))

  begun-else : (j : ℕ) → ¬ (j ≡ clause_count_at) → ¬ (j ≡ second_at_lem) → get_or begun j 0 ≡ get_or w j 0
  begun-else j g l = get_or-set_other (set w clause_count_at 0) second_at_lem j f 0 l ∙ get_or-set_other w clause_count_at j 0 0 g

  begun-rows : (text : List ℕ) → HoldsRows text begun []
  begun-rows text = record { counted = begun-count; few = omega arith; rows = λ k h. absurd (omega arith); cells = λ k h. absurd (omega arith) }

  pub begun-held : (text : List ℕ) → length text ≤ 65535 → TableHeld text begun
  begun-held text h = record { short = h; room = omega (arith, length-begun); items = no_items; holds = begun-rows text }

  only-table : (w' : List ℕ) → OnlyRows begun w' → OnlyTable w w'
  only-table w' k = record {
    same = k.same ∙ length-begun;
    below = λ j h. k.below j h ∙ begun-else j (λ q. absurd (omega arith)) (λ q. absurd (omega arith));
    above = λ j h g l. k.above j h g ∙ begun-else j g l;
  }

  second-kept : (w' : List ℕ) → OnlyRows begun w' → get_or w' second_at_lem 0 ≡ f
  second-kept w' k = k.above second_at_lem (omega arith) (λ q. absurd (omega arith)) ∙ begun-second

-- ---- the text

pub only_none : (w : List ℕ) → OnlyTable w w
only_none w = record { same = refl; below = λ j h. refl; above = λ j h g l. refl }

module _ (text : List ℕ) where
  abbrev words : List Word
  words = from text 0

  abbrev text_on : Got Edition → Answer (Got Items) → Answer Text
  text_on E m = m >>= λ items. good (record { edition = E.value; clauses = items.value.clauses; lines = items.value.lines; end = place items.rest })

  text-by : text_of words ≡ (edition_at words >>= λ E. text_on E (items_from (length words) no_items E.rest))
  unfolding text_of
  text-by = refl

  pub text_edition_bad : (why : Why) → Ends text (length (from text 0) + 1) (edition_end (from text 0)) (Err why) → (w : List ℕ) → TextRead text w w (Err why)
  text_edition_bad why d w = record {
    says = text-by ∙ ap (λ (m : Answer (Got Edition)). m >>= λ E. text_on E (items_from (length words) no_items E.rest)) (refused_back (edition_at words) (said_why why) (edition_rest words ∙ d));
    kept = only_none w;
  }

  module _ (e : ℕ) (d : Ends text (length (from text 0) + 1) (edition_end (from text 0)) (Ok e)) (w : List ℕ) (room : making_size ≤ length w) (f : ℕ) (second : f ≡ flag_of (says_second (from text 0))) (w' : List ℕ) (r : Result Whole Why) (p : ItemsRead text e (begun w f room) w' r) where
    most : length (from text e) ≤ length words
    most = omega (arith, d.fewer)

    text-is : (m : Answer (Got Items)) → items_from (length words) no_items (from text e) ≡ m → (C : Type 0) → ((E : Got Edition) → edition_at words ≡ good E → text_of words ≡ text_on E m → C) → C
    text-is m h C k = rest_back (edition_at words) _ (edition_rest words ∙ d.is) λ E g q. k E g (text-by ∙ ap (λ (x : Answer (Got Edition)). x >>= λ G. text_on G (items_from (length words) no_items G.rest)) g ∙ ap (λ (us : List Word). text_on E (items_from (length words) no_items us)) q ∙ ap (text_on E) h)

    held : (x : Whole) → ItemsTo text (length words) no_items e w' x → TextHeld text w' x
    held x g = text-is _ g.is (TextHeld text w' x) λ E h t. record {
      X = record { edition = E.value; clauses = g.all.clauses; lines = g.all.lines; end = place (from text g.stop) };
      is = t;
      holds = record { rows = g.holds; edition = second-kept w f room w' p.kept ∙ second ∙ ap flag_of (sym (edition_says words E h)) };
      end = g.end;
      items_lexed = g.lexed;
      done = g.done;
      rounds = g.rounds;
      enough = g.enough;
      stop = g.stop;
      items = g.again;
      count = g.count;
      lines = g.lines;
    }

    pub text-read : TextRead text w w' r
    text-read = record { says = by r p.says; kept = only-table w f room w' p.kept }
      where
        by : (x : Result Whole Why) → ReadsItems text e (begun w f room) w' x → ReadsText text w' x
        by (Ok x) g = held x (g (length words) most no_items (begun-rows w f room text))
        by (Err why) g = text-is _ (g (length words) most no_items (begun-rows w f room text)) (text_of words ≡ refused (said_why why)) λ E h t. t

-- ---- the items: the definitions above the first line, then all that is left

module _ (text : List ℕ) (start : ℕ) (w w₁ : List ℕ) where
  pub items_defined_bad : (why : Why) → Defined text start w w₁ (Err why) → ItemsRead text start w w₁ (Err why)
  items_defined_bad why D = record { says = D.says; kept = D.kept }

  module _ (d : ℕ) (D : Defined text start w w₁ (Ok d)) where
    pub defined-held : TableHeld text w → TableHeld text w₁
    defined-held T =
        let s = (D.says.reaches (length (from text start)) (omega arith) T.items T.holds).so_far in
        record { short = T.short; room = omega (arith, T.room, D.kept.same); items = s.done; holds = s.holds }

    module _ (w₂ : List ℕ) where
      pub items-bad : (why : Why) → ProceedsIn text d w₁ w₂ (Err why) → ItemsRead text start w w₂ (Err why)
      items-bad why P = record {
        says = λ n h items H.
            let s = (D.says.reaches n h items H).so_far in
            s.total ∙ (P s.rounds s.enough).says s.done s.holds;
        kept = kept_then w w₁ w₂ D.kept (P (length (from text d)) (omega arith)).kept;
      }

      pub items-good : (r : ℕ) → ProceedsIn text d w₁ w₂ (Ok r) → (seen : ℕ) → seen ≡ get_or w₁ clause_count_at 0 → (v : Said) → Stands text r v → ItemsRead text start w w₂ (Ok (record { place = v.place; items = d; seen = seen }))
      items-good r P seen known v t = record {
        says = λ n h items H.
            let o = D.says.reaches n h items H in
            let s = o.so_far in
            let g = (P s.rounds s.enough).says.grows s.done s.holds in
            record {
              all = g.items;
              stop = r;
              is = s.total ∙ g.is;
              holds = g.holds;
              end = sym t.place;
              lexed = D.says.lexed;
              done = s.done;
              rounds = s.rounds;
              enough = s.enough;
              again = g.is;
              count = sym (known ∙ s.holds.counted);
              lines = o.lines;
            };
        kept = kept_then w w₁ w₂ D.kept (P (length (from text d)) (omega arith)).kept;
      }

      pub items_lexed : (r : ℕ) → ProceedsIn text d w₁ w₂ (Ok r) → Lexed text r
      items_lexed r P = (P (length (from text d)) (omega arith)).says.lexed
