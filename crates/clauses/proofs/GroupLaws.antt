-- Groups word by word, and as the grammar reads them. Assumes nothing.
use Prim.Native.Nat.{ℕ, suc, ◌+◌, ◌≤◌, ◌<◌}
use mathlib.Core.Path.{◌≡◌, refl, sym, ap, ◌∙◌}
use mathlib.Core.Bool.{Bool, true, false, ◌||◌, cond}
use mathlib.Core.List.{List, [], ◌∷◌}
use native.Mathlib.Omega.{arith}
use lib.Dec.{eqb}
use lib.ListN.{length}
use borrow.Author.Tests.{eq-eqb, ne_eqb}
use Rattle.notation_calculus.specs.Words.{Word}
use Rattle.notation_calculus.specs.Grammar.{behind}
use Rattle.words.specs.Next.{Said}
use Rattle.words.specs.Lexed.{from, Lexed, Onward, Stands}
use Rattle.grammar.specs.Skips.{closes_group}
use Rattle.clauses.specs.Groups.{code_at, leaves_group, counted_by, count_in, past_in, group_count, group_past, GroupRead}

-- ---- by the code of the first word

pub count_by : (ws : List Word) → count_in ws ≡ cond (leaves_group (code_at ws)) 1 (cond (eqb (code_at ws) 14) (suc (count_in (behind ws))) (count_in (behind ws)))
count_by [] = refl
count_by (w ∷ ws) = refl

pub past_by : (ws : List Word) → past_in ws ≡ cond (eqb (code_at ws) 0) ws (cond (closes_group (code_at ws)) (behind ws) (past_in (behind ws)))
past_by [] = refl
past_by (w ∷ ws) = refl

-- ---- the loop

-- behind so many of a group, with the word at an offset before it
pub record Counting (text : List ℕ) (start opens count at : ℕ) (v : Said) : Type 0 where
  pub total : group_count opens (from text start) + 1 ≡ count + count_in (from text at)
  pub past : group_past opens (from text start) ≡ past_in (from text at)
  pub low : count ≤ at
  pub lexed : Lexed text at
  pub stands : Stands text at v

module _ (text : List ℕ) (start opens : ℕ) (w : Said) (s : Stands text start w) where
  pub group_none : Lexed text start → ¬ (w.code ≡ opens) → GroupRead text start opens (record { count = 0; end = start })
  unfolding group_count group_past
  group_none l e =
      let no : eqb opens (code_at (from text start)) ≡ false = ne_eqb _ _ (λ q. e (s.code ∙ sym q)) in
      record {
        counted = sym (ap (λ (b : Bool). cond b (count_in (behind (from text start))) 0) no);
        past = sym (ap (λ (b : Bool). cond b (past_in (behind (from text start))) (from text start)) no);
        few = omega arith;
        lexed = l;
      }

  pub group_on : w.code ≡ opens → 0 < opens → Onward text start w.end
  group_on e h = s.onward (λ z. omega arith)

  pub group_first : w.code ≡ opens → 0 < opens → (v : Said) → Stands text w.end v → Counting text start opens 1 w.end v
  unfolding group_count group_past
  group_first e h v t =
      let o = group_on e h in
      let opened : eqb opens (code_at (from text start)) ≡ true = eq-eqb _ _ (sym e ∙ s.code) in
      let count : group_count opens (from text start) ≡ count_in (from text w.end) = ap (λ (b : Bool). cond b (count_in (behind (from text start))) 0) opened ∙ ap count_in o.rest in
      record {
        total = omega (arith, count);
        past = ap (λ (b : Bool). cond b (past_in (behind (from text start))) (from text start)) opened ∙ ap past_in o.rest;
        low = omega (arith, o.past);
        lexed = o.lexed;
        stands = t;
      }

module _ (text : List ℕ) (start opens count at : ℕ) (v : Said) (i : Counting text start opens count at v) where
  code-now : code_at (from text at) ≡ v.code
  code-now = sym i.stands.code

  count-now : (b : Bool) → leaves_group v.code ≡ b → count_in (from text at) ≡ cond b 1 (cond (eqb v.code 14) (suc (count_in (behind (from text at)))) (count_in (behind (from text at))))
  count-now b e = count_by (from text at) ∙ ap (λ (c : ℕ). cond (leaves_group c) 1 (cond (eqb c 14) (suc (count_in (behind (from text at)))) (count_in (behind (from text at))))) code-now ∙ ap (λ (x : Bool). cond x 1 (cond (eqb v.code 14) (suc (count_in (behind (from text at)))) (count_in (behind (from text at))))) e

  past-now : past_in (from text at) ≡ cond (eqb v.code 0) (from text at) (cond (closes_group v.code) (behind (from text at)) (past_in (behind (from text at))))
  past-now = past_by (from text at) ∙ ap (λ (c : ℕ). cond (eqb c 0) (from text at) (cond (closes_group c) (behind (from text at)) (past_in (behind (from text at))))) code-now

  -- what a closing word says of its two tests
  open-tests : (a b : Bool) → (a || b) ≡ false → (a ≡ false) × (b ≡ false)
  open-tests true b e = let z : ◌≡◌ {A = ℕ} 0 1 = cc in absurd (omega arith)
  open-tests false b e = (refl, e)

  module _ (e : leaves_group v.code ≡ false) where
    pub group-word : Onward text at v.end
    group-word = i.stands.onward (λ z. absurd (not-zero z))
      where
        not-zero : v.code ≡ 0 → ⊥
        not-zero z = let q : ◌≡◌ {A = Bool} true false = sym (eq-eqb v.code 0 z) ∙ (open-tests (eqb v.code 0) (closes_group v.code) e).0 in let y : ◌≡◌ {A = ℕ} 0 1 = cc in omega arith

    count_turn : (b : Bool) → eqb v.code 14 ≡ b → (n : ℕ) → n ≡ cond b (count + 1) count → (m : ℕ) → count_in (from text at) ≡ cond b (suc m) m → count + count_in (from text at) ≡ n + m
    count_turn true q n f m g = omega arith
    count_turn false q n f m g = omega arith

    pub group-turn : (n : ℕ) → n ≡ counted_by v.code count → (v' : Said) → Stands text v.end v' → Counting text start opens n v.end v'
    group-turn n f v' t =
        let o = group-word in
        let tests = open-tests (eqb v.code 0) (closes_group v.code) e in
        let next : count_in (from text at) ≡ cond (eqb v.code 14) (suc (count_in (from text v.end))) (count_in (from text v.end)) = count-now false e ∙ ap (λ (us : List Word). cond (eqb v.code 14) (suc (count_in us)) (count_in us)) o.rest in
        record {
          total = i.total ∙ count_turn (eqb v.code 14) refl n f (count_in (from text v.end)) next;
          past = i.past ∙ past-now ∙ ap (λ (b : Bool). cond b (from text at) (cond (closes_group v.code) (behind (from text at)) (past_in (behind (from text at))))) tests.0 ∙ ap (λ (b : Bool). cond b (behind (from text at)) (past_in (behind (from text at)))) tests.1 ∙ ap past_in o.rest;
          low = low_by (eqb v.code 14) n f o.past;
          lexed = o.lexed;
          stands = t;
        }
      where
        low_by : (b : Bool) (n : ℕ) → n ≡ cond b (count + 1) count → at < v.end → n ≤ v.end
        low_by true n f h = omega (arith, i.low)
        low_by false n f h = omega (arith, i.low)

  module _ (e : leaves_group v.code ≡ true) where
    count-done : group_count opens (from text start) ≡ count
    count-done = omega (arith, i.total, count-now true e)

    few-done : count ≤ length text
    few-done = omega (arith, i.low, i.lexed.within)

    pub group-cut : v.code ≡ 0 → GroupRead text start opens (record { count = count; end = at })
    group-cut z = record {
      counted = sym count-done;
      past = sym (i.past ∙ past-now ∙ ap (λ (b : Bool). cond b (from text at) (cond (closes_group v.code) (behind (from text at)) (past_in (behind (from text at))))) (eq-eqb v.code 0 z));
      few = few-done;
      lexed = i.lexed;
    }

    pub group-done : ¬ (v.code ≡ 0) → GroupRead text start opens (record { count = count; end = v.end })
    group-done z =
        let o = i.stands.onward z in
        record {
          counted = sym count-done;
          past = sym (i.past ∙ past-now ∙ ap (λ (b : Bool). cond b (from text at) (cond (closes_group v.code) (behind (from text at)) (past_in (behind (from text at))))) (ne_eqb v.code 0 z) ∙ ap (λ (b : Bool). cond b (behind (from text at)) (past_in (behind (from text at)))) (closing (eqb v.code 0) (ne_eqb v.code 0 z) e) ∙ o.rest);
          few = few-done;
          lexed = o.lexed;
        }
      where
        closing : (a : Bool) → a ≡ false → (a || closes_group v.code) ≡ true → closes_group v.code ≡ true
        closing true f g = let y : ◌≡◌ {A = ℕ} 0 1 = cc in absurd (omega arith)
        closing false f g = g

-- ---- the tests that the code makes

pub counted_comma : (c n : ℕ) → c ≡ 14 → n + 1 ≡ counted_by c n
counted_comma c n e = sym (ap (λ (b : Bool). cond b (n + 1) n) (eq-eqb c 14 e))

pub counted-other : (c n : ℕ) → ¬ (c ≡ 14) → n ≡ counted_by c n
counted-other c n e = sym (ap (λ (b : Bool). cond b (n + 1) n) (ne_eqb c 14 e))

pub leaves-end : (c : ℕ) → c ≡ 0 → true ≡ leaves_group c
leaves-end c e = sym (ap (λ (b : Bool). b || closes_group c) (eq-eqb c 0 e))

pub leaves_bracket : (c : ℕ) → ¬ (c ≡ 0) → (b : Bool) → b ≡ closes_group c → b ≡ leaves_group c
leaves_bracket c z b e = e ∙ sym (ap (λ (x : Bool). x || closes_group c) (ne_eqb c 0 z))
