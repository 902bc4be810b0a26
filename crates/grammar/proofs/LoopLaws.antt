-- Loops of the grammar: rounds that go on while a test says so. Assumes nothing.
use Prim.Native.Nat.{ℕ, zero, suc, ◌-◌, ◌≤◌, ◌<◌}
use mathlib.Core.Path.{◌≡◌, refl, sym, ap, ◌∙◌}
use mathlib.Core.Bool.{Bool, true, false, cond}
use mathlib.Core.List.{List}
use native.Mathlib.Omega.{arith}
use lib.ListN.{length}
use Rattle.calculus.specs.Answer.{Answer, good, refused, ◌>>=◌}
use Rattle.notation_calculus.specs.Words.{Sign, sign_code, Word}
use Rattle.notation_calculus.specs.Grammar.{behind, is, expect}
use Rattle.words.specs.Next.{Said}
use Rattle.words.specs.Lexed.{from, Stands}
use Rattle.std.proofs.Common.{Ok, Err}
use Rattle.answers.specs.declared.Refusal.{Refusal as Why}
use Rattle.grammar.specs.Ends.{End, Ends}
use Rattle.grammar.specs.Skips.{Step, list_more, list_end, group_end}
use Rattle.grammar.proofs.EndLaws.{is_yes}

pub both_steps : (m : Answer (List Word)) (f g : Step) → ((m >>= f) >>= g) ≡ (m >>= λ us. f us >>= g)
both_steps (good ws) f g = refl
both_steps (refused why) f g = refl

pub three_steps : (m : Answer (List Word)) (f g h : Step) → ((m >>= λ us. f us >>= g) >>= h) ≡ (m >>= λ us. f us >>= λ vs. g vs >>= h)
three_steps (good ws) f g h = both_steps (f ws) g h
three_steps (refused why) f g h = refl

-- a loop whose last round ended at t: rounds that are enough for the words that are left
pub record Loops (text : List ℕ) (go : ℕ → Step) (fin : Step) (total : Answer (List Word)) (most : ℕ) (t : End) : Type 0 where
  pub step : Answer (List Word)
  pub rounds : ℕ
  pub bound : ℕ
  pub total_is : total ≡ (step >>= λ us. go rounds us >>= fin)
  pub ends : Ends text bound step t
  pub enough : bound ≤ rounds
  pub within : bound ≤ most

-- the words that are left; none where the last round was refused
abbrev pub left_words : List ℕ → End → ℕ
left_words text (Ok p) = suc (length (from text p))
left_words text (Err why) = 0

pub left_less : (text : List ℕ) (b : ℕ) (m : Answer (List Word)) (t t' : End) (p : ℕ) → t ≡ Ok p → Ends text b m t' → b ≤ length (from text p) → left_words text t' < left_words text t
left_less text b m t (Ok q) p z e h = rw z (omega (arith, e.fewer))
left_less text b m t (Err why) p z e h = rw z (omega arith)

-- a loop before a round: it goes on from any end that the round may have
abbrev pub Turning : List ℕ → (ℕ → Step) → Step → Answer (List Word) → ℕ → ℕ → Answer (List Word) → Type 0
Turning text go fin total most bound round = (t : End) → Ends text bound round t → Loops text go fin total most t

-- .. whose next round reads what is left of the whole: where it ends the whole does
abbrev pub Inner : List ℕ → ℕ → Answer (List Word) → ℕ → Answer (List Word) → Type 0
Inner text most total bound round = (t : End) → Ends text bound round t → Ends text most total t

module _ (text : List ℕ) (go : ℕ → Step) (test : List Word → Bool) (turn : Step) (turns : (r : ℕ) (us : List Word) → go (suc r) us ≡ cond (test us) (turn us >>= go r) (good us))
    (fin : Step) (total : Answer (List Word)) (most : ℕ) where
  module _ (p : ℕ) (l : Loops text go fin total most (Ok p)) where
    on-words : total ≡ (go l.rounds (from text p) >>= fin)
    on-words = l.total_is ∙ ap (λ (m : Answer (List Word)). m >>= λ us. go l.rounds us >>= fin) l.ends.is

    go-by : (n : ℕ) → length (from text p) < n → go n (from text p) ≡ cond (test (from text p)) (turn (from text p) >>= go (n - 1)) (good (from text p))
    go-by zero h = absurd (omega arith)
    go-by (suc r) h = let e : suc r - 1 ≡ r = omega arith in turns r (from text p) ∙ ap (λ (k : ℕ). cond (test (from text p)) (turn (from text p) >>= go k) (good (from text p))) (sym e)

    enough-now : length (from text p) < l.rounds
    enough-now = omega (arith, l.ends.fewer, l.enough)

    pub loop-stop : test (from text p) ≡ false → total ≡ fin (from text p)
    loop-stop e = on-words ∙ ap (λ (m : Answer (List Word)). m >>= fin) (go-by l.rounds enough-now ∙ ap (λ (b : Bool). cond b (turn (from text p) >>= go (l.rounds - 1)) (good (from text p))) e)

    pub loop-turn : test (from text p) ≡ true → (b' : ℕ) (t' : End) → Ends text b' (turn (from text p)) t' → b' ≤ length (from text p) → Loops text go fin total most t'
    loop-turn e b' t' n h = record {
      step = turn (from text p);
      rounds = l.rounds - 1;
      bound = b';
      total_is = on-words ∙ ap (λ (m : Answer (List Word)). m >>= fin) (go-by l.rounds enough-now ∙ ap (λ (b : Bool). cond b (turn (from text p) >>= go (l.rounds - 1)) (good (from text p))) e) ∙ both_steps (turn (from text p)) (go (l.rounds - 1)) fin;
      ends = n;
      enough = omega (arith, enough-now);
      within = omega (arith, l.ends.fewer, l.within);
    }

-- a round is refused, and so is the loop
pub loop_bad : (text : List ℕ) (go : ℕ → Step) (fin : Step) (total : Answer (List Word)) (most : ℕ) (why : Why) → Loops text go fin total most (Err why) → Ends text most total (Err why)
loop_bad text go fin total most why l = l.total_is ∙ ap (λ (m : Answer (List Word)). m >>= λ us. go l.rounds us >>= fin) l.ends

-- ---- a list between two signs

pub list_by : (read : Step) (n : ℕ) (us : List Word) → 0 < n → list_end read n us ≡ (read us >>= λ vs. list_more read (n - 1) vs)
list_by read zero us h = absurd (omega arith)
list_by read (suc n) us h = let e : suc n - 1 ≡ n = omega arith in ap (λ (k : ℕ). read us >>= λ vs. list_more read k vs) (sym e)

pub group_none : (us : List Word) (opens closes : Sign) (read : Step) → is opens us ≡ false → group_end opens closes read us ≡ good us
group_none us opens closes read e = ap (λ (b : Bool). cond b (list_end read (length us) (behind us) >>= λ vs. expect closes vs) (good us)) e

module _ (text : List ℕ) (at : ℕ) (w : Said) (s : Stands text at w) (opens closes : Sign) (read : Step) where
  pub group_first : w.code ≡ sign_code opens → ¬ (w.code ≡ 0) → (t : End) → Ends text (length (from text w.end)) (read (from text w.end)) t → Loops text (list_more read) (λ us. expect closes us) (group_end opens closes read (from text at)) (length (from text at)) t
  group_first e z t n =
      let o = s.onward z in
      record {
        step = read (from text w.end);
        rounds = length (from text at) - 1;
        bound = length (from text w.end);
        total_is = ap (λ (b : Bool). cond b (list_end read (length (from text at)) (behind (from text at)) >>= λ us. expect closes us) (good (from text at))) (is_yes text at w s opens e) ∙ ap (λ (m : Answer (List Word)). m >>= λ us. expect closes us) (list_by read (length (from text at)) (behind (from text at)) (omega (arith, o.fewer)) ∙ ap (λ (us : List Word). read us >>= λ vs. list_more read (length (from text at) - 1) vs) o.rest) ∙ both_steps (read (from text w.end)) (λ vs. list_more read (length (from text at) - 1) vs) (λ us. expect closes us);
        ends = n;
        enough = omega (arith, o.fewer);
        within = omega (arith, o.fewer);
      }
