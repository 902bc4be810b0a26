-- The word at an offset, by the cases of `look`. Assumes nothing.
use Prim.Native.Nat.{ℕ, suc, ◌+◌, ◌-◌, ◌≤◌, ◌<◌}
use mathlib.Core.Path.{◌≡◌, refl, sym, ap, ◌∙◌}
use mathlib.Core.Bool.{Bool, true, false, not, ◌&&◌, cond}
use mathlib.Core.List.{List, [], ◌∷◌}
use native.Mathlib.Omega.{arith}
use borrow.Author.Tests.{le-leb, lt-leb}
use lib.Dec.{eqb, leb}
use lib.ListN.{length, drop, take, length-drop}
use Rattle.calculus.specs.Answer.{Answer, good, refused, ◌>>=◌}
use Rattle.notation_calculus.specs.Words.{ends, sign, name, blank, ends_line, first, gap, run, Read, word_at, words_from}
use Rattle.notation_calculus.specs.Words as Words
use Rattle.notation_calculus.specs.Grammar.{peek, behind, place, begins_atom}
use Rattle.words.specs.Tables.{token_code, token_value}
use Rattle.words.specs.Next.{said_word}
use Rattle.words.specs.Lexed.{lexed, valued, from, Lexed, Stands}
use Rattle.words.specs.declared.Word.{Word}
use Rattle.grammar.proofs.HeadLaws.{begins-none}
use Rattle.clauses.specs.Rows.{HeadAt}
use Rattle.term_walk.specs.Looks.{words_at, HeadsHeld, Looks, AtomWord}

-- ---- the place of a word is an offset of the text

gap-short : (b : Bool) (s : List ℕ) → gap b s ≤ length s
gap-short true [] = omega arith
gap-short true (c ∷ s) = omega (arith, gap-short (not (ends_line c)) s)
gap-short false [] = omega arith
gap-short false (c ∷ s) = by (blank c) (eqb c 45 && eqb (first s) 45) (gap-short false s) (gap-short true s)
  where
    by : (a b : Bool) → gap false s ≤ length s → gap true s ≤ length s → cond a (suc (gap false s)) (cond b (suc (gap true s)) 0) ≤ suc (length s)
    by true b h g = omega arith
    by false true h g = omega arith
    by false false h g = omega arith

-- the first word of an answer stands at an offset, or there is none
abbrev FirstAt : ℕ → Answer (List Words.Word) → Type 0
FirstAt n (good []) = Unit {0}
FirstAt n (good (w ∷ ws)) = w.place ≡ n
FirstAt n (refused why) = Unit {0}

first-behind : (n : ℕ) (m : Answer Read) (go : Read → Answer (List Words.Word)) → FirstAt n (m >>= λ w. go w >>= λ ws. good (record { token = w.token; place = n } ∷ ws))
first-behind n (refused why) go = tt
first-behind n (good w) go = by (go w)
  where
    by : (m : Answer (List Words.Word)) → FirstAt n (m >>= λ ws. good (record { token = w.token; place = n } ∷ ws))
    by (good ws) = refl
    by (refused why) = tt

first-lexed : (text : List ℕ) (at : ℕ) → FirstAt (at + gap false (drop at text)) (lexed text at)
unfolding lexed
first-lexed text at = by (eqb (length (drop (gap false (drop at text)) (drop at text))) 0)
  where
    s : List ℕ
    s = drop at text

    by : (b : Bool) → FirstAt (at + gap false (drop at text)) (cond b (good (record { token = sign ends; place = at + gap false (drop at text) } ∷ [])) (word_at (drop (gap false (drop at text)) (drop at text)) (at + gap false (drop at text)) >>= λ w. words_from (length text) (drop w.long (drop (gap false (drop at text)) (drop at text))) (at + gap false (drop at text) + w.long) >>= λ ws. good (record { token = w.token; place = at + gap false (drop at text) } ∷ ws)))
    by true = refl
    by false = first-behind (at + gap false (drop at text)) (word_at (drop (gap false (drop at text)) (drop at text)) (at + gap false (drop at text))) (λ w. words_from (length text) (drop w.long (drop (gap false (drop at text)) (drop at text))) (at + gap false (drop at text) + w.long))

first_small : (n : ℕ) (text : List ℕ) (m : Answer (List Words.Word)) → n ≤ length text → FirstAt n m → place (valued m) ≤ length text
first_small n text (good []) h f = omega arith
first_small n text (good (w ∷ ws)) h f = omega arith
first_small n text (refused why) h f = omega arith

pub place_inside : (text : List ℕ) (at : ℕ) → at ≤ length text → place (from text at) ≤ length text
unfolding from
place_inside text at h = first_small (at + gap false (drop at text)) text (lexed text at) (omega (arith, gap-short false (drop at text), length-drop at text)) (first-lexed text at)

-- ---- the words

leb_yes : (a b : ℕ) → a ≤ b → leb a b ≡ true
leb_yes a b h = le-leb a b h

leb_no : (a b : ℕ) → b < a → leb a b ≡ false
leb_no a b h = lt-leb a b h

pub words_inside : (text : List ℕ) (at : ℕ) → at ≤ length text → words_at text at ≡ from text at
unfolding words_at
words_inside text at h = ap (λ (b : Bool). cond b (from text at) []) (leb_yes at (length text) h)

pub words-past : (text : List ℕ) (at : ℕ) → length text < at → words_at text at ≡ []
unfolding words_at
words-past text at h = ap (λ (b : Bool). cond b (from text at) []) (leb_no at (length text) h)

pub words-lexed : (text : List ℕ) (at : ℕ) → Lexed text at → words_at text at ≡ from text at
words-lexed text at l = words_inside text at l.within

-- where a clause of the table begins no atom does
pub no_atom : (text w : List ℕ) → HeadsHeld text w → (start at : ℕ) → HeadAt w start → from text start ≡ from text at → begins_atom (from text at) ≡ false
no_atom text w T start at h e =
    let H = T.rows in
    ap begins_atom (sym e) ∙ ap (λ (n : ℕ). begins_atom (from text n)) (sym h.here) ∙ (H.rows h.row (omega (arith, H.counted, h.counted))).heads

-- ---- the cases

module _ (text : List ℕ) (at : ℕ) where
  pub look-past : length text < at → Looks text at (record { kind = 0; value = 0; start = 0; end = length text + 1 })
  look-past h =
      let e = words-past text at h in
      record {
        code = sym (ap (λ (ws : List Words.Word). token_code (peek ws).token) e);
        value = sym (ap (λ (ws : List Words.Word). token_value (peek ws).token) e);
        place = sym (ap (λ (ws : List Words.Word). place ws) e);
        inside = omega arith;
        rest = ap behind e ∙ sym (words-past text (length text + 1) (omega arith));
        readable = λ k. absurd (omega arith);
        onward = λ k. absurd (k refl);
        fewer = λ k. absurd (k refl);
        named = λ k. absurd (omega arith);
        long = λ k. absurd (omega arith);
      }

  module _ (l : Lexed text at) (w : Word) (s : Stands text at (said_word w)) where
    start-inside : w.start ≤ length text
    start-inside = omega (arith, s.place, place_inside text at l.within)

    pub look-last : w.kind ≡ 0 → Looks text at (record { kind = 0; value = 0; start = w.start; end = length text + 1 })
    look-last k =
        let e = words-lexed text at l in
        record {
          code = sym k ∙ s.code ∙ sym (ap (λ (ws : List Words.Word). token_code (peek ws).token) e);
          value = last-value (peek (from text at)).token (sym k ∙ s.code) ∙ sym (ap (λ (ws : List Words.Word). token_value (peek ws).token) e);
          place = s.place ∙ sym (ap (λ (ws : List Words.Word). place ws) e);
          inside = start-inside;
          rest = ap behind e ∙ s.last k ∙ sym (words-past text (length text + 1) (omega arith));
          readable = λ h. absurd (omega arith);
          onward = λ h. absurd (h refl);
          fewer = λ h. absurd (h refl);
          named = λ h. absurd (omega arith);
          long = λ h. absurd (omega arith);
        }
      where
        last-value : (t : Words.Token) → 0 ≡ token_code t → 0 ≡ token_value t
        last-value (Words.sign t) h = refl
        last-value (Words.part p) h = absurd (omega arith)
        last-value (Words.number n) h = absurd (omega arith)
        last-value (Words.name n) h = refl

    pub look-word : ¬ (w.kind ≡ 0) → Looks text at w
    look-word k =
        let e = words-lexed text at l in
        let o = s.onward k in
        record {
          code = s.code ∙ sym (ap (λ (ws : List Words.Word). token_code (peek ws).token) e);
          value = s.value ∙ sym (ap (λ (ws : List Words.Word). token_value (peek ws).token) e);
          place = s.place ∙ sym (ap (λ (ws : List Words.Word). place ws) e);
          inside = start-inside;
          rest = ap behind e ∙ o.rest ∙ sym (words-lexed text w.end o.lexed);
          readable = λ h. o.lexed;
          onward = λ h. o.lexed;
          fewer = λ h. omega (arith, ap length e, ap length (ap behind e), ap length o.rest, o.fewer);
          named = λ h. ap (λ (ws : List Words.Word). (peek ws).token) e ∙ s.named h ∙ ap (λ (k : ℕ). name (take k (drop w.start text))) (run_long (s.whole h));
          long = λ h. omega (arith, s.whole h, s.long h);
        }
      where
        run_long : w.end ≡ w.start + run (drop w.start text) → w.end - w.start ≡ run (drop w.start text)
        run_long h = omega arith

-- ---- the word that begins an atom

-- the words are the same from both offsets on
looks-at : (text : List ℕ) (a b : ℕ) (w : Word) → words_at text b ≡ words_at text a → Looks text a w → Looks text b w
looks-at text a b w e L = record {
  code = L.code ∙ ap (λ (ws : List Words.Word). token_code (peek ws).token) (sym e);
  value = L.value ∙ ap (λ (ws : List Words.Word). token_value (peek ws).token) (sym e);
  place = L.place ∙ ap (λ (ws : List Words.Word). place ws) (sym e);
  inside = L.inside;
  rest = ap behind e ∙ L.rest;
  readable = L.readable;
  onward = L.onward;
  fewer = λ h. omega (arith, ap length e, ap length (ap behind e), L.fewer h);
  named = λ h. ap (λ (ws : List Words.Word). (peek ws).token) e ∙ L.named h;
  long = L.long;
}

-- no atom begins at the end
atom_some : (text : List ℕ) (at : ℕ) (w : Word) → Stands text at (said_word w) → begins_atom (from text at) ≡ true → ¬ (w.kind ≡ 0)
atom_some text at w s b k =
    let n = begins-none text at (said_word w) s (λ z. absurd (omega arith)) (λ z. absurd (omega arith)) (λ z. absurd (omega arith)) in
    let z : false ≡ true = n ∙ b in
    let q : ◌≡◌ {A = ℕ} 0 1 = cc in
    absurd (omega arith)

pub atom_first : (text : List ℕ) (start at : ℕ) → Lexed text start → Lexed text at → from text start ≡ from text at → (w : Word) → Stands text start (said_word w) → begins_atom (from text start) ≡ true → AtomWord text at w
atom_first text start at l m e w s b = record {
  none = λ k. absurd (atom_some text start w s b k);
  begins = λ _. ap begins_atom (words-lexed text at m ∙ sym e) ∙ b;
  first = λ k. looks-at text start at w (words-lexed text at m ∙ sym e ∙ sym (words-lexed text start l)) (look-word text start l w s k);
}

pub atom_nowhere : (text : List ℕ) (at : ℕ) (w : Word) → w.kind ≡ 0 → begins_atom (words_at text at) ≡ false → AtomWord text at w
atom_nowhere text at w k b = record { none = λ _. b; begins = λ n. absurd (n k); first = λ n. absurd (n k) }
