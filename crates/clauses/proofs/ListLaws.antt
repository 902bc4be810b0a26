-- The grammar's lists of parameters: how many they have, what stands behind them, and each of them. Assumes nothing.
use Prim.Native.Nat.{ℕ, zero, suc}
use mathlib.Core.Path.{◌≡◌, refl, sym, ap, ◌∙◌, subst}
use mathlib.Core.Bool.{Bool, true, false, cond}
use mathlib.Core.List.{List, [], ◌∷◌}
use lib.Dec.{eqb}
use lib.ListN.{length}
use borrow.Author.Tests.{eq-eqb, ne_eqb, eqb-true, eqb-false}
use Rattle.calculus.specs.Answer.{Answer, good, ◌>>=◌}
use Rattle.calculus.proofs.Answers.{refused≢good, good-inj, on-bind, on-need}
use Rattle.laws.proofs.Tests.{T-is}
use Rattle.notation_calculus.specs.Words.{Sign, sign_code, comma, plus, square, endSquare, curly, endCurly, Token, sign, part, number, name, Word}
use Rattle.notation_calculus.specs.Trees.{Bound, Number}
use Rattle.notation_calculus.specs.Grammar.{Got, got, peek, behind, place, is, is_token, behind_group, expect, bound_name, name_at, value_of, list_from, read_number, number_at, numbers_at, parameters_at}
use Rattle.words.specs.Tables.{token_code}
use Rattle.grammar.specs.Skips.{opens_group, closes_group}
use Rattle.grammar.proofs.EndLaws.{token_is}
use Rattle.grammar.proofs.HeadLaws.{onward, onward-is}
use Rattle.clauses.specs.Numbers.{no_number}
use Rattle.clauses.specs.Groups.{code_at, leaves_group, count_in, past_in, group_count, group_past, value_in, rest_in_lem, list_in, Readable}
use Rattle.clauses.specs.Rows.{no_bound}
use Rattle.clauses.proofs.GroupLaws.{count_by, past_by}

-- ---- a word by its code

pub is_code : (s : Sign) (ws : List Word) → is s ws ≡ true → code_at ws ≡ sign_code s
is_code s ws e = sym (eqb-true (sign_code s) (code_at ws) (sym (token_is s (peek ws).token) ∙ e))

pub not_code : (s : Sign) (ws : List Word) → is s ws ≡ false → ¬ (sign_code s ≡ code_at ws)
not_code s ws e = eqb-false (sign_code s) (code_at ws) (sym (token_is s (peek ws).token) ∙ e)

-- a word that is no comma and leaves no group
plain-count : (c : ℕ) (us : List Word) → code_at us ≡ c → leaves_group c ≡ false → eqb c 14 ≡ false → count_in us ≡ count_in (behind us)
plain-count c us e f g = count_by us ∙ ap (λ (x : ℕ). cond (leaves_group x) 1 (cond (eqb x 14) (suc (count_in (behind us))) (count_in (behind us)))) e ∙ ap (λ (b : Bool). cond b 1 (cond (eqb c 14) (suc (count_in (behind us))) (count_in (behind us)))) f ∙ ap (λ (b : Bool). cond b (suc (count_in (behind us))) (count_in (behind us))) g

plain-past : (c : ℕ) (us : List Word) → code_at us ≡ c → eqb c 0 ≡ false → closes_group c ≡ false → past_in us ≡ past_in (behind us)
plain-past c us e f g = past_by us ∙ ap (λ (x : ℕ). cond (eqb x 0) us (cond (closes_group x) (behind us) (past_in (behind us)))) e ∙ ap (λ (b : Bool). cond b us (cond (closes_group c) (behind us) (past_in (behind us)))) f ∙ ap (λ (b : Bool). cond b (behind us) (past_in (behind us))) g

-- ---- the groups behind a name, word by word

-- within groups the words behind them are the same from a later word on
abbrev Skips : List Word → List Word → Type 0
Skips us vs = (d : ℕ) → behind_group (suc d) us ≡ behind_group (suc d) vs

skip_by : (d : ℕ) (us : List Word) → behind_group (suc d) us ≡ onward (suc d) (peek us) (behind us) (opens_group (code_at us)) (closes_group (code_at us))
skip_by d [] = refl
skip_by d (u ∷ us) = onward-is (suc d) u us

pub skip_first : (us : List Word) → behind_group 0 us ≡ cond (opens_group (code_at us)) (behind_group 1 (behind us)) us
skip_first [] = refl
skip_first (u ∷ us) = onward-is 0 u us

module _ (c : ℕ) (us : List Word) (e : code_at us ≡ c) (shuts : opens_group c ≡ false) where
  skip-word : (k : Bool) → closes_group c ≡ k → (d : ℕ) → behind_group (suc d) us ≡ cond k (behind_group d (behind us)) (behind_group (suc d) (behind us))
  skip-word k f d = skip_by d us ∙ ap (λ (x : ℕ). onward (suc d) (peek us) (behind us) (opens_group x) (closes_group x)) e ∙ ap (λ (o : Bool). onward (suc d) (peek us) (behind us) o (closes_group c)) shuts ∙ ap (onward (suc d) (peek us) (behind us) false) f

-- what is read counts as one: no comma, no bracket
abbrev Counts : List Word → List Word → Type 0
Counts us vs = (count_in us ≡ count_in vs) × (past_in us ≡ past_in vs) × Skips us vs

counts_then : (us vs ws : List Word) → Counts us vs → Counts vs ws → Counts us ws
counts_then us vs ws a b = (a.0 ∙ b.0, a.1 ∙ b.1, λ d. a.2 d ∙ b.2 d)

name-counts : (us : List Word) → code_at us ≡ 24 → Counts us (behind us)
name-counts us e = (plain-count 24 us e refl refl, plain-past 24 us e refl refl, skip-word 24 us e refl false refl)

number_counts : (us : List Word) → code_at us ≡ 23 → Counts us (behind us)
number_counts us e = (plain-count 23 us e refl refl, plain-past 23 us e refl refl, skip-word 23 us e refl false refl)

plus_counts : (us : List Word) → code_at us ≡ 21 → Counts us (behind us)
plus_counts us e = (plain-count 21 us e refl refl, plain-past 21 us e refl refl, skip-word 21 us e refl false refl)

-- ---- a name, a number

-- what was read is a name that stands first
pub record NameRead (us : List Word) (g : Got Bound) : Type 0 where
  pub code : code_at us ≡ 24
  pub rest : g.rest ≡ behind us
  pub token : (peek us).token ≡ name g.value.name
  pub place : g.value.place ≡ place us

pub name-read : (us : List Word) (g : Got Bound) → name_at us ≡ good g → NameRead us g
name-read us g e = by (peek us).token refl e
  where
    by : (t : Token) → (peek us).token ≡ t → (bound_name t (Rattle.notation_calculus.specs.Grammar.place us) >>= λ n. got n (behind us)) ≡ good g → NameRead us g
    by (sign t) f e = absurd (refused≢good e)
    by (part p) f e = absurd (refused≢good e)
    by (number n) f e = absurd (refused≢good e)
    by (name n) f e = subst (NameRead us) (good-inj e) (record { code = ap token_code f; rest = refl; token = f; place = refl })

name_reads_one : (us : List Word) (g : Got Bound) → name_at us ≡ good g → Counts us g.rest
name_reads_one us g e = let r = name-read us g e in subst (Counts us) (sym r.rest) (name-counts us r.code)

value-code : (t : Token) (at : ℕ) (k : ℕ) → value_of t at ≡ good k → token_code t ≡ 23
value-code (sign t) at k e = absurd (refused≢good e)
value-code (part p) at k e = absurd (refused≢good e)
value-code (number n) at k e = refl
value-code (name n) at k e = absurd (refused≢good e)

number_reads_one : (us : List Word) (g : Got Number) → number_at us ≡ good g → Counts us g.rest
number_reads_one us g e = by (peek us).token refl e
  where
    by : (t : Token) → (peek us).token ≡ t → read_number t us ≡ good g → Counts us g.rest
    by (sign t) f e = absurd (refused≢good e)
    by (part p) f e = absurd (refused≢good e)
    by (number n) f e = subst (λ (h : Got Number). Counts us h.rest) (good-inj e) (number_counts us (ap token_code f))
    by (name n) f e = plussed (is plus (behind us)) refl e
      where
        plussed : (b : Bool) → is plus (behind us) ≡ b → cond b (value_of (peek (behind (behind us))).token (place (behind (behind us))) >>= λ k. got (record { is_open = true; name = n; plus = k; place = place us }) (behind (behind (behind us)))) (got (record { is_open = true; name = n; plus = 0; place = place us }) (behind us)) ≡ good g → Counts us g.rest
        plussed true h e = on-bind (value_of (peek (behind (behind us))).token (place (behind (behind us)))) _ g e λ k h₁ e₁. subst (λ (h : Got Number). Counts us h.rest) (good-inj e₁) (counts_then us (behind us) (behind (behind (behind us))) (name-counts us (ap token_code f)) (counts_then (behind us) (behind (behind us)) (behind (behind (behind us))) (plus_counts (behind us) (is_code plus (behind us) h)) (number_counts (behind (behind us)) (value-code (peek (behind (behind us))).token (place (behind (behind us))) k h₁))))
        plussed false h e = subst (λ (h : Got Number). Counts us h.rest) (good-inj e) (name-counts us (ap token_code f))

-- ---- lists

module _ {A : Type 0} (else : A) (read : List Word → Answer (Got A)) where
  -- what is known of a list up to a closing bracket: its count, the words behind it, and each of it, where one word stands before it
  pub record ListRead (ws : List Word) (g : Got (List A)) : Type 0 where
    pub count : count_in (behind ws) ≡ length g.value
    pub past : past_in (behind ws) ≡ behind g.rest
    pub skip : behind_group 1 (behind ws) ≡ behind_group 0 (behind g.rest)
    pub each : list_in else read (length g.value) ws ≡ g.value
    pub readable : Readable else read (length g.value) ws

  -- .. of a whole group, as the code reads it
  pub record GroupIs (opens : ℕ) (ws : List Word) (xs : List A) (rest : List Word) : Type 0 where
    pub count : group_count opens ws ≡ length xs
    pub past : group_past opens ws ≡ rest
    pub skip : behind_group 0 ws ≡ behind_group 0 rest
    pub each : list_in else read (length xs) ws ≡ xs
    pub readable : Readable else read (length xs) ws

module _ {A : Type 0} (else : A) (read : List Word → Answer (Got A)) (one : (us : List Word) (g : Got A) → read us ≡ good g → Counts us g.rest) where
  closed-count : (c : ℕ) (us : List Word) → code_at us ≡ c → leaves_group c ≡ true → count_in us ≡ 1
  closed-count c us e f = count_by us ∙ ap (λ (x : ℕ). cond (leaves_group x) 1 (cond (eqb x 14) (suc (count_in (behind us))) (count_in (behind us)))) e ∙ ap (λ (b : Bool). cond b 1 (cond (eqb c 14) (suc (count_in (behind us))) (count_in (behind us)))) f

  closed-past : (c : ℕ) (us : List Word) → code_at us ≡ c → eqb c 0 ≡ false → closes_group c ≡ true → past_in us ≡ behind us
  closed-past c us e f g = past_by us ∙ ap (λ (x : ℕ). cond (eqb x 0) us (cond (closes_group x) (behind us) (past_in (behind us)))) e ∙ ap (λ (b : Bool). cond b us (cond (closes_group c) (behind us) (past_in (behind us)))) f ∙ ap (λ (b : Bool). cond b (behind us) (past_in (behind us))) g

  comma-count : (us : List Word) → code_at us ≡ 14 → count_in us ≡ suc (count_in (behind us))
  comma-count us e = count_by us ∙ ap (λ (x : ℕ). cond (leaves_group x) 1 (cond (eqb x 14) (suc (count_in (behind us))) (count_in (behind us)))) e

  comma-past : (us : List Word) → code_at us ≡ 14 → past_in us ≡ past_in (behind us)
  comma-past us e = plain-past 14 us e refl refl

  -- the first of a list
  first_read : (ws : List Word) (x : Got A) → read (behind ws) ≡ good x → (n : ℕ) (xs : List A) → list_in else read n x.rest ≡ xs → Readable else read n x.rest → (list_in else read (suc n) ws ≡ x.value ∷ xs) × Readable else read (suc n) ws
  first_read ws x h n xs e r = (ap (λ (m : Answer (Got A)). value_in else m ∷ list_in else read n (rest_in_lem m)) h ∙ ap (λ (l : List A). x.value ∷ l) e, subst (λ (m : Answer (Got A)). (m ≡ got (value_in else m) (rest_in_lem m)) × Readable else read n (rest_in_lem m)) (sym h) (refl, r))

  module _ (c : ℕ) (leaves : leaves_group c ≡ true) (word : eqb c 0 ≡ false) (closes : closes_group c ≡ true) (shuts : opens_group c ≡ false) where
    -- a list by its first, where `go` knows the others
    list_by : (n : ℕ) → ((ws : List Word) (g : Got (List A)) → list_from read n (behind ws) ≡ good g → code_at g.rest ≡ c → ListRead else read ws g) → (ws : List Word) (g : Got (List A)) → code_at g.rest ≡ c → (x : Got A) → read (behind ws) ≡ good x → (b : Bool) → is comma x.rest ≡ b → cond b (list_from read n (behind x.rest) >>= λ xs. got (x.value ∷ xs.value) xs.rest) (got (x.value ∷ []) x.rest) ≡ good g → ListRead else read ws g
    list_by n go ws g k x h true f e = on-bind (list_from read n (behind x.rest)) _ g e λ xs h₁ e₁.
        let s = one (behind ws) x h in
        let same : code_at xs.rest ≡ c = ap (λ (q : Got (List A)). code_at q.rest) (good-inj e₁) ∙ k in
        let r = go x.rest xs h₁ same in
        let d = first_read ws x h (length xs.value) xs.value r.each r.readable in
        subst (ListRead else read ws) (good-inj e₁) (record {
          count = s.0 ∙ comma-count x.rest (is_code comma x.rest f) ∙ ap suc r.count;
          past = s.1 ∙ comma-past x.rest (is_code comma x.rest f) ∙ r.past;
          skip = s.2 0 ∙ skip-word 14 x.rest (is_code comma x.rest f) refl false refl 0 ∙ r.skip;
          each = d.0;
          readable = d.1;
        })
    list_by n go ws g k x h false f e =
        let s = one (behind ws) x h in
        let same : code_at x.rest ≡ c = ap (λ (q : Got (List A)). code_at q.rest) (good-inj e) ∙ k in
        let d = first_read ws x h 0 [] refl tt in
        subst (ListRead else read ws) (good-inj e) (record {
          count = s.0 ∙ closed-count c x.rest same leaves;
          past = s.1 ∙ closed-past c x.rest same word closes;
          skip = s.2 0 ∙ skip-word c x.rest same shuts true closes 0;
          each = d.0;
          readable = d.1;
        })

    pub list_read : (n : ℕ) (ws : List Word) (g : Got (List A)) → list_from read n (behind ws) ≡ good g → code_at g.rest ≡ c → ListRead else read ws g
    list_read zero ws g e k = absurd (refused≢good e)
    list_read (suc n) ws g e k = on-bind (read (behind ws)) _ g e λ x h e₁. list_by n (λ us q f l. list_read n us q f l) ws g k x h (is comma x.rest) refl e₁

  -- ---- a group

  pub group_is : (opens closes : Sign) → leaves_group (sign_code closes) ≡ true → eqb (sign_code closes) 0 ≡ false → closes_group (sign_code closes) ≡ true → opens_group (sign_code closes) ≡ false → opens_group (sign_code opens) ≡ true → (ws : List Word) (xs : List A) (rest : List Word) → cond (is opens ws) (list_from read (length ws) (behind ws) >>= λ ns. expect closes ns.rest >>= λ after. got ns.value after) (got [] ws) ≡ got xs rest → GroupIs else read (sign_code opens) ws xs rest
  unfolding group_count group_past
  group_is opens closes a b d u v ws xs rest e = by (is opens ws) refl e
    where
      by : (t : Bool) → is opens ws ≡ t → cond t (list_from read (length ws) (behind ws) >>= λ ns. expect closes ns.rest >>= λ after. got ns.value after) (got [] ws) ≡ got xs rest → GroupIs else read (sign_code opens) ws xs rest
      by true f e =
          let opened : eqb (sign_code opens) (code_at ws) ≡ true = eq-eqb _ _ (sym (is_code opens ws f)) in
          on-bind (list_from read (length ws) (behind ws)) _ _ e λ ns h e₁. on-bind (expect closes ns.rest) _ _ e₁ λ after h₂ e₂. on-need (is closes ns.rest) 32 (place ns.rest) _ _ h₂ λ t e₃.
          let r = list_read (sign_code closes) a b d u (length ws) ws ns h (is_code closes ns.rest (T-is (is closes ns.rest) t)) in
          let values : ns.value ≡ xs = ap (λ (g : Got (List A)). g.value) (good-inj e₂) in
          let rests : behind ns.rest ≡ rest = good-inj e₃ ∙ ap (λ (g : Got (List A)). g.rest) (good-inj e₂) in
          record {
            count = ap (λ (x : Bool). cond x (count_in (behind ws)) 0) opened ∙ r.count ∙ ap length values;
            past = ap (λ (x : Bool). cond x (past_in (behind ws)) ws) opened ∙ r.past ∙ rests;
            skip = skip_first ws ∙ ap (λ (x : ℕ). cond (opens_group x) (behind_group 1 (behind ws)) ws) (is_code opens ws f) ∙ ap (λ (x : Bool). cond x (behind_group 1 (behind ws)) ws) v ∙ r.skip ∙ ap (behind_group 0) rests;
            each = subst (λ (l : List A). list_in else read (length l) ws ≡ l) values r.each;
            readable = subst (λ (l : List A). Readable else read (length l) ws) values r.readable;
          }
      by false f e =
          let shut : eqb (sign_code opens) (code_at ws) ≡ false = ne_eqb _ _ (not_code opens ws f) in
          let values : [] ≡ xs = ap (λ (g : Got (List A)). g.value) (good-inj e) in
          let rests : ws ≡ rest = ap (λ (g : Got (List A)). g.rest) (good-inj e) in
          record {
            count = ap (λ (x : Bool). cond x (count_in (behind ws)) 0) shut ∙ ap length values;
            past = ap (λ (x : Bool). cond x (past_in (behind ws)) ws) shut ∙ rests;
            skip = ap (behind_group 0) rests;
            each = subst (λ (l : List A). list_in else read (length l) ws ≡ l) values refl;
            readable = subst (λ (l : List A). Readable else read (length l) ws) values tt;
          }

pub types_group : (ws : List Word) (xs : List Bound) (rest : List Word) → parameters_at ws ≡ got xs rest → GroupIs no_bound name_at 17 ws xs rest
types_group ws xs rest e = group_is no_bound name_at name_reads_one square endSquare refl refl refl refl refl ws xs rest e

pub numbers_group : (ws : List Word) (xs : List Number) (rest : List Word) → numbers_at ws ≡ got xs rest → GroupIs no_number number_at 19 ws xs rest
numbers_group ws xs rest e = group_is no_number number_at number_reads_one curly endCurly refl refl refl refl refl ws xs rest e
