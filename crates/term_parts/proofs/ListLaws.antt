-- Lists in lists: one is passed over by counting parentheses, and the next one is found word by word. Assumes nothing.
use Prim.Native.Nat.{ℕ, zero, suc, ◌+◌, ◌-◌, ◌≤◌, ◌<◌}
use mathlib.Core.Path.{◌≡◌, refl, sym, ap, ◌∙◌, subst}
use mathlib.Core.Bool.{Bool, true, false, ◌||◌, cond}
use mathlib.Core.List.{List, [], ◌∷◌}
use native.Mathlib.Omega.{arith}
use native.Mathlib.Decide.{ℕ_discrete}
use lib.Dec.{eqb}
use lib.ListN.{length, get_or}
use borrow.Author.Tests.{eq-eqb, ne_eqb}
use Rattle.std.specs.Prelude.{Some, None, Result, Ok, Err}
use Rattle.answers.specs.declared.Refusal.{Refusal}
use Rattle.notation_calculus.specs.Words.{ends, round, endRound, comma, Token, Word}
use Rattle.notation_calculus.specs.Grammar.{got, peek, behind, place, is, is_name, name_at, nameless}
use Rattle.notation_machine.specs.Lists.{behind_lists, head_at, in_lists, next_list}
use Rattle.words.specs.Tables.{token_code}
use Rattle.words.specs.Next.{Said}
use Rattle.words.specs.Lexed.{from, Lexed, Onward, Stands}
use Rattle.words.proofs.FoundLaws.{eqb_sym}
use Rattle.words.proofs.LexLaws.{round_byte}
use Rattle.words.proofs.PlaceLaws.{round_inside, name_round}
use Rattle.grammar.proofs.EndLaws.{token_is, name_yes, name_no, is_yes, is_no}
use Rattle.term_parts.specs.declared.names.NameEnd.{NameEnd}
use Rattle.term_parts.specs.Names.{NameSays, HeadSays, deeper_by, PassedSays, listed_code, ListOpens, NextSays}

-- ---- a list is passed over

behind_open : (us : List Word) → behind_lists 0 us ≡ us
behind_open [] = refl
behind_open (w ∷ us) = refl

behind-end : (deep : ℕ) (us : List Word) → is ends us ≡ true → behind_lists deep us ≡ us
behind-end deep [] e = refl
behind-end zero (w ∷ us) e = refl
behind-end (suc deep) (w ∷ us) e = ap (λ (b : Bool). cond b (w ∷ us) (cond (is round (w ∷ [])) (behind_lists (suc (suc deep)) us) (cond (is endRound (w ∷ [])) (behind_lists deep us) (behind_lists (suc deep) us)))) e

-- a word by its code
behind-word : (deep c : ℕ) (us : List Word) → c ≡ token_code (peek us).token → ¬ (c ≡ 0) → behind_lists (suc deep) us ≡ behind_lists (deeper_by c (suc deep)) (behind us)
behind-word deep c [] e h = absurd (h e)
behind-word deep c (w ∷ us) e h =
    ap (λ (b : Bool). cond b (w ∷ us) (cond (is round (w ∷ [])) (behind_lists (suc (suc deep)) us) (cond (is endRound (w ∷ [])) (behind_lists deep us) (behind_lists (suc deep) us)))) (token_is ends w.token ∙ ne_eqb 0 (token_code w.token) (λ z. h (e ∙ sym z)))
    ∙ ap (λ (b : Bool). cond b (behind_lists (suc (suc deep)) us) (cond (is endRound (w ∷ [])) (behind_lists deep us) (behind_lists (suc deep) us))) (token_is round w.token ∙ ap (eqb 11) (sym e) ∙ eqb_sym 11 c)
    ∙ ap (λ (b : Bool). cond (eqb c 11) (behind_lists (suc (suc deep)) us) (cond b (behind_lists deep us) (behind_lists (suc deep) us))) (token_is endRound w.token ∙ ap (eqb 12) (sym e) ∙ eqb_sym 12 c)
    ∙ by (eqb c 11) (eqb c 12)
  where
    by : (x y : Bool) → cond x (behind_lists (suc (suc deep)) us) (cond y (behind_lists deep us) (behind_lists (suc deep) us)) ≡ behind_lists (cond x (suc deep + 1) (cond y (suc deep - 1) (suc deep))) us
    by true y = let z : suc (suc deep) ≡ suc deep + 1 = omega arith in ap (λ (k : ℕ). behind_lists k us) z
    by false true = let z : deep ≡ suc deep - 1 = omega arith in ap (λ (k : ℕ). behind_lists k us) z
    by false false = refl

pub deeper_open : (c n : ℕ) → c ≡ 11 → n + 1 ≡ deeper_by c n
deeper_open c n e = sym (ap (λ (b : Bool). cond b (n + 1) (cond (eqb c 12) (n - 1) n)) (eq-eqb c 11 e))

module _ (c n : ℕ) (h : ¬ (c ≡ 11)) where
  deeper-else : deeper_by c n ≡ cond (eqb c 12) (n - 1) n
  deeper-else = ap (λ (b : Bool). cond b (n + 1) (cond (eqb c 12) (n - 1) n)) (ne_eqb c 11 h)

  pub deeper_close : c ≡ 12 → n - 1 ≡ deeper_by c n
  deeper_close e = sym (deeper-else ∙ ap (λ (b : Bool). cond b (n - 1) n) (eq-eqb c 12 e))

  pub deeper-same : ¬ (c ≡ 12) → n ≡ deeper_by c n
  deeper-same g = sym (deeper-else ∙ ap (λ (b : Bool). cond b (n - 1) n) (ne_eqb c 12 g))

-- so many lists are open at an offset
pub record Passing (text : List ℕ) (at deep p : ℕ) : Type 0 where
  pub rest : behind_lists 1 (from text at) ≡ behind_lists deep (from text p)
  pub fewer : length (from text p) ≤ length (from text at)
  pub past : at ≤ p
  pub low : deep ≤ p
  pub lexed : Lexed text p

pub passing_none : (text : List ℕ) (at : ℕ) → Lexed text at → 0 < at → Passing text at 1 at
passing_none text at l h = record { rest = refl; fewer = omega arith; past = omega arith; low = omega arith; lexed = l }

module _ (text : List ℕ) (at deep p : ℕ) (P : Passing text at deep p) where
  pub passing_done : ¬ (0 < deep) → PassedSays text at p
  passing_done h = let z : deep ≡ 0 = omega arith in record { rest = P.rest ∙ ap (λ (k : ℕ). behind_lists k (from text p)) z ∙ behind_open (from text p); fewer = P.fewer; past = P.past; lexed = P.lexed }

  module _ (w : Said) (s : Stands text p w) where
    pub passing-cut : w.code ≡ 0 → PassedSays text at p
    passing-cut z = record { rest = P.rest ∙ behind-end deep (from text p) (is_yes text p w s ends z); fewer = P.fewer; past = P.past; lexed = P.lexed }

    module _ (z : ¬ (w.code ≡ 0)) where
      pub passing-low : deep < w.end
      passing-low = omega (arith, P.low, (s.onward z).past)

      deeper-low : (c n : ℕ) → deeper_by c n ≤ n + 1
      deeper-low c n = by (eqb c 11) (eqb c 12)
        where
          by : (x y : Bool) → cond x (n + 1) (cond y (n - 1) n) ≤ n + 1
          by true y = omega arith
          by false true = omega arith
          by false false = omega arith

      pub passing-more : 0 < deep → (next : ℕ) → next ≡ deeper_by w.code deep → Passing text at next w.end
      passing-more h next e =
          let o = s.onward z in
          let y : deep ≡ suc (deep - 1) = omega arith in
          record {
            rest = P.rest ∙ ap (λ (k : ℕ). behind_lists k (from text p)) y ∙ behind-word (deep - 1) w.code (from text p) s.code z ∙ ap (λ (k : ℕ). behind_lists (deeper_by w.code k) (behind (from text p))) (sym y) ∙ ap (λ (k : ℕ). behind_lists k (behind (from text p))) (sym e) ∙ ap (behind_lists next) o.rest;
            fewer = omega (arith, P.fewer, o.fewer);
            past = omega (arith, P.past, o.past);
            low = omega (arith, P.low, o.past, e, deeper-low w.code deep);
            lexed = o.lexed;
          }

-- ---- one of a list

module _ (text : List ℕ) (at : ℕ) (l : Lexed text at) (w : Said) (s : Stands text at w) (z : w.code ≡ 11) where
  round-onward : Onward text at w.end
  round-onward = s.onward (λ q. absurd (omega arith))

  list-byte : get_or text w.place 0 ≡ 40
  list-byte = subst (λ (p : ℕ). get_or text p 0 ≡ 40) (sym s.place) (round_byte text at l.within (sym s.code ∙ z))

  -- a list begins where an opening parenthesis is the next word
  pub list_opens : ListOpens text (from text at) w.place w.end
  list_opens = record { place = s.place; byte = list-byte; inside = round_inside text w.place list-byte; rest = round-onward.rest; fewer = round-onward.fewer; lexed = round-onward.lexed }

  pub head_list : (e : ℕ) → PassedSays text w.end e → HeadSays text at (Ok (record { place = w.place; end = e }))
  head_list e B = record {
    reads =
        ap (λ (b : Bool). cond b (got (nameless (place (from text at))) (behind_lists 1 (behind (from text at)))) (name_at (from text at))) (is_yes text at w s round z)
        ∙ ap (λ (p : ℕ). got (nameless p) (behind_lists 1 (behind (from text at)))) (sym s.place)
        ∙ ap (λ (us : List Word). got (nameless w.place) (behind_lists 1 us)) round-onward.rest
        ∙ ap (λ (us : List Word). got (nameless w.place) us) B.rest
        ∙ ap (λ (n : List ℕ). got (record { name = n; place = w.place }) (from text e)) (sym (name_round text w.place list-byte));
    inside = round_inside text w.place list-byte;
    further = record { fewer = omega (arith, B.fewer, round-onward.fewer); past = omega (arith, B.past, round-onward.past); lexed = B.lexed };
  }

-- where none begins it is a name
pub head_name : (text : List ℕ) (at : ℕ) (w : Said) → Stands text at w → ¬ (w.code ≡ 11) → (r : Result NameEnd Refusal) → NameSays text at r → HeadSays text at r
head_name text at w s h = by
  where
    same : head_at (from text at) ≡ name_at (from text at)
    same = ap (λ (b : Bool). cond b (got (nameless (place (from text at))) (behind_lists 1 (behind (from text at)))) (name_at (from text at))) (is_no text at w s round h)

    by : (r : Result NameEnd Refusal) → NameSays text at r → HeadSays text at r
    by (Ok x) N = record {
      reads = same ∙ N.reads ∙ ap (λ (n : List ℕ). got (record { name = n; place = x.place }) (from text x.end)) (sym N.plain);
      inside = N.inside;
      further = let o = N.onward in record { fewer = o.fewer; past = o.past; lexed = o.lexed };
    }
    by (Err e) N = same ∙ N

-- ---- the next list

name_is : (t : Token) → is_name t ≡ eqb (token_code t) 24
name_is t = elim (ℕ_discrete (token_code t) 24) [ yes e ↦ name_yes t e ∙ sym (eq-eqb (token_code t) 24 e) | no h ↦ name_no t h ∙ sym (ne_eqb (token_code t) 24 h) ]

listed-is : (w : Word) → in_lists w ≡ listed_code (token_code w.token)
listed-is w =
    let c = token_code w.token in
    ap (λ (b : Bool). b || (is comma (w ∷ []) || is endRound (w ∷ []))) (name_is w.token)
    ∙ ap (λ (b : Bool). eqb c 24 || (b || is endRound (w ∷ []))) (token_is comma w.token ∙ eqb_sym 14 c)
    ∙ ap (λ (b : Bool). eqb c 24 || (eqb c 14 || b)) (token_is endRound w.token ∙ eqb_sym 12 c)

pub listed-name : (c : ℕ) → c ≡ 24 → true ≡ listed_code c
listed-name c e = sym (ap (λ (b : Bool). b || (eqb c 14 || eqb c 12)) (eq-eqb c 24 e))

module _ (c : ℕ) (h : ¬ (c ≡ 24)) where
  listed-else : listed_code c ≡ (eqb c 14 || eqb c 12)
  listed-else = ap (λ (b : Bool). b || (eqb c 14 || eqb c 12)) (ne_eqb c 24 h)

  pub listed_comma : c ≡ 14 → true ≡ listed_code c
  listed_comma e = sym (listed-else ∙ ap (λ (b : Bool). b || eqb c 12) (eq-eqb c 14 e))

  pub listed-closing : ¬ (c ≡ 14) → eqb c 12 ≡ listed_code c
  listed-closing g = sym (listed-else ∙ ap (λ (b : Bool). b || eqb c 12) (ne_eqb c 14 g))

next-stop : (us : List Word) → listed_code (token_code (peek us).token) ≡ false → next_list us ≡ us
next-stop [] e = refl
next-stop (w ∷ us) e = ap (λ (b : Bool). cond b (next_list us) (w ∷ us)) (listed-is w ∙ e)

next_on : (us : List Word) → listed_code (token_code (peek us).token) ≡ true → next_list us ≡ next_list (behind us)
next_on [] e = refl
next_on (w ∷ us) e = ap (λ (b : Bool). cond b (next_list us) (w ∷ us)) (listed-is w ∙ e)

-- a word stands at an offset, up to which no list begins
pub record Scanning (text : List ℕ) (at p : ℕ) (w : Said) : Type 0 where
  pub stands : Stands text p w
  pub lexed : Lexed text p
  pub same : next_list (from text at) ≡ next_list (from text p)
  pub fewer : length (from text p) ≤ length (from text at)
  pub past : at ≤ p

pub scanning_none : (text : List ℕ) (at : ℕ) (w : Said) → Lexed text at → Stands text at w → Scanning text at at w
scanning_none text at w l s = record { stands = s; lexed = l; same = refl; fewer = omega arith; past = omega arith }

module _ (text : List ℕ) (at p : ℕ) (w : Said) (P : Scanning text at p w) where
  code_is : (b : Bool) → listed_code w.code ≡ b → listed_code (token_code (peek (from text p)).token) ≡ b
  code_is b e = ap listed_code (sym P.stands.code) ∙ e

  pub scanning_on : listed_code w.code ≡ true → Onward text p w.end
  scanning_on e = P.stands.onward (λ z. let f : ◌≡◌ {A = Bool} false true = sym (ap listed_code z) ∙ e in let y : ◌≡◌ {A = ℕ} 0 1 = cc in absurd (omega arith))

  pub scanning_more : listed_code w.code ≡ true → (v : Said) → Stands text w.end v → Scanning text at w.end v
  scanning_more e v s = let o = scanning_on e in record { stands = s; lexed = o.lexed; same = P.same ∙ next_on (from text p) (code_is true e) ∙ ap next_list o.rest; fewer = omega (arith, P.fewer, o.fewer); past = omega (arith, P.past, o.past) }

  module _ (e : listed_code w.code ≡ false) where
    stops-here : next_list (from text at) ≡ from text p
    stops-here = P.same ∙ next-stop (from text p) (code_is false e)

    found-is : (b : Bool) → eqb w.code 11 ≡ b → is round (next_list (from text at)) ≡ b
    found-is b i = sym (sym i ∙ ap (λ (c : ℕ). eqb c 11) P.stands.code ∙ eqb_sym (token_code (peek (from text p)).token) 11 ∙ sym (token_is round (peek (from text p)).token) ∙ ap (is round) (sym stops-here))

    pub scanning-none : ¬ (w.code ≡ 11) → NextSays text at None
    scanning-none h = (found-is false (ne_eqb w.code 11 h), omega (arith, ap length stops-here, P.fewer))

    pub scanning-done : w.code ≡ 11 → NextSays text at (Some (record { place = w.place; end = w.end }))
    scanning-done c = record {
      found = found-is true (eq-eqb w.code 11 c);
      opens = subst (λ (us : List Word). ListOpens text us w.place w.end) (sym stops-here) (list_opens text p P.lexed w P.stands c);
      fewer = omega (arith, ap length stops-here, P.fewer);
      past = omega (arith, P.past, (P.stands.onward (λ q. absurd (omega arith))).past);
    }
