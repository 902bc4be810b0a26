-- Numbers read again, by the codes of their words; lists of them compared one by one. Assumes nothing.
use Prim.Native.Nat.{ℕ, zero, suc, ◌+◌, ◌-◌, ◌≤◌, ◌<◌}
use mathlib.Core.Path.{◌≡◌, refl, sym, ap, ◌∙◌, subst}
use mathlib.Core.Bool.{Bool, true, false, not, ◌&&◌, cond}
use mathlib.Core.List.{List, [], ◌∷◌}
use native.Mathlib.Omega.{arith}
use lib.Dec.{eqb, leb}
use lib.ListN.{length}
use Rattle.calculus.specs.Answer.{Answer, good, ◌>>=◌}
use Rattle.calculus.proofs.Answers.{refused≢good, good-inj, on-bind}
use Rattle.notation_calculus.specs.Words.{plus, Token, sign, part, number, name, Word}
use Rattle.notation_calculus.specs.Trees.{Number}
use Rattle.notation_calculus.specs.Grammar.{Got, got, peek, behind, place, is, value_of, read_number, number_at, covers, cover_all}
use Rattle.words.specs.Tables.{token_code, token_value}
use Rattle.words.specs.Next.{Said}
use Rattle.words.specs.Lexed.{from, Onward, Stands}
use Rattle.words.specs.Marks.{Marks}
use Rattle.grammar.proofs.EndLaws.{sign_not, is_yes, mark-stands, mark_no}
use Rattle.clauses.specs.declared.numbers.Num.{Num}
use Rattle.clauses.specs.Groups.{value_in, rest_in_lem, list_in, Readable}
use Rattle.clauses.specs.Numbers.{no_number, NumberThere, NumberRead, NumberPast, plain_number, numbers_from, NumbersThere}
use Rattle.clauses.proofs.HeadLaws.{spelled-here, name-onward, name-some, place_inside}

true_false : {C : Type 0} → ◌≡◌ {A = Bool} true false → C
true_false e = let z : ◌≡◌ {A = ℕ} 0 1 = cc in absurd (omega arith)

-- ---- by the first word

-- a number that stands first and has no name
number_by : (t : Token) (us : List Word) (g : Got Number) → ¬ (token_code t ≡ 24) → read_number t us ≡ good g → (token_code t ≡ 23) × (good g ≡ got (record { is_open = false; name = []; plus = token_value t; place = place us }) (behind us))
number_by (sign t) us g z e = absurd (refused≢good e)
number_by (part p) us g z e = absurd (refused≢good e)
number_by (number n) us g z e = (refl, sym e)
number_by (name n) us g z e = absurd (z refl)

named_by : (t : Token) → token_code t ≡ 24 → (C : Type 0) → ((n : List ℕ) → t ≡ name n → C) → C
named_by (sign t) z C k = absurd (sign_not t 24 tt z)
named_by (part p) z C k = absurd (omega arith)
named_by (number n) z C k = absurd (omega arith)
named_by (name n) z C k = k n refl

valued_by : (t : Token) (at k : ℕ) → value_of t at ≡ good k → (token_code t ≡ 23) × (k ≡ token_value t)
valued_by (sign t) at k e = absurd (refused≢good e)
valued_by (part p) at k e = absurd (refused≢good e)
valued_by (number n) at k e = (refl, sym (good-inj e))
valued_by (name n) at k e = absurd (refused≢good e)

module _ (text : List ℕ) (at : ℕ) (w : Said) (s : Stands text at w) (there : NumberThere (from text at)) where
  abbrev here : List Word
  here = from text at

  -- the first word is a number or a name, so there are words behind it
  pub number-onward : Onward text at w.end
  number-onward = s.onward λ q.
      let d = number_by (peek here).token here _ (λ e. absurd (omega (arith, s.code, e, q))) there in
      absurd (omega (arith, s.code, d.0, q))

  pub number-plain : ¬ (w.code ≡ 24) → (v : ℕ) → (v ≡ w.value) × (v ≤ 255) → NumberRead text here (record { named = false; place = w.place; plus = v; end = w.end })
  number-plain z v ev =
      let d = number_by (peek here).token here _ (λ q. z (s.code ∙ q)) there in
      let o = s.onward (λ q. absurd (omega (arith, s.code, d.0, q))) in
      record {
        number = record { is_open = false; name = []; plus = token_value (peek here).token; place = place here };
        is = there ∙ d.1 ∙ ap (λ (us : List Word). got (record { is_open = false; name = []; plus = token_value (peek here).token; place = place here }) us) o.rest;
        lexed = o.lexed;
        is_open = refl;
        plus = sym (ev.0 ∙ s.value);
        small = ev.1;
        place = sym s.place;
        name = λ e. true_false (sym e);
        inside = λ e. true_false (sym e);
        some = λ e. true_false (sym e);
      }

  module _ (z : w.code ≡ 24) (p : Said) (sp : Marks text w.end p) where
    abbrev next : List Word
    next = from text w.end

    abbrev openNumber : List ℕ → ℕ → Number
    openNumber n k = record { is_open = true; name = n; plus = k; place = place here }

    -- a name, then perhaps a plus
    abbrev namedOn : List ℕ → Bool → List Word → Answer (Got Number)
    namedOn n b us = cond b (value_of (peek (behind us)).token (place (behind us)) >>= λ k. got (openNumber n k) (behind (behind us))) (got (openNumber n 0) us)

    named-is : (n : List ℕ) → (peek here).token ≡ name n → (b : Bool) → is plus next ≡ b → number_at here ≡ namedOn n b next
    named-is n e b f = ap (λ (t : Token). read_number t here) e ∙ ap (λ (us : List Word). namedOn n (is plus us) us) (name-onward text at w s z).rest ∙ ap (λ (x : Bool). namedOn n x next) f

    first-name : (C : Type 0) → ((n : List ℕ) → (peek here).token ≡ name n → C) → C
    first-name C k = named_by (peek here).token (sym s.code ∙ z) C k

    pub number-name : ¬ (p.code ≡ 21) → NumberRead text here (record { named = true; place = w.place; plus = 0; end = w.end })
    number-name q = first-name (NumberRead text here (record { named = true; place = w.place; plus = 0; end = w.end })) λ n e. record {
      number = openNumber n 0;
      is = named-is n e false (mark_no text w.end p plus sp.plus q);
      lexed = (name-onward text at w s z).lexed;
      is_open = refl;
      plus = refl;
      small = omega arith;
      place = sym s.place;
      name = λ _. spelled-here text at w s n z e;
      inside = λ _. place_inside text at w s z;
      some = λ _. name-some text at w s z;
    }

    module _ (q : p.code ≡ 21) where
      pub plus-onward : Onward text w.end p.end
      plus-onward = (mark-stands text w.end p sp 21 q (λ y. omega arith)).onward (λ y. omega arith)

      pub number-plus : (k : Said) → Stands text p.end k → (v : ℕ) → (v ≡ k.value) × (v ≤ 255) → NumberRead text here (record { named = true; place = w.place; plus = v; end = k.end })
      number-plus k sk v ev = first-name (NumberRead text here (record { named = true; place = w.place; plus = v; end = k.end })) λ n e.
          let last : List Word = from text p.end in
          let step : number_at here ≡ (value_of (peek last).token (place last) >>= λ j. got (openNumber n j) (behind last)) = named-is n e true (is_yes text w.end p (mark-stands text w.end p sp 21 q (λ y. omega arith)) plus q) ∙ ap (λ (us : List Word). value_of (peek us).token (place us) >>= λ j. got (openNumber n j) (behind us)) plus-onward.rest in
          on-bind (value_of (peek last).token (place last)) (λ j. got (openNumber n j) (behind last)) _ (sym step ∙ there) λ j h e₁.
          let d = valued_by (peek last).token (place last) j h in
          let o = sk.onward (λ y. absurd (omega (arith, sk.code, d.0, y))) in
          record {
            number = openNumber n j;
            is = there ∙ sym e₁ ∙ ap (λ (us : List Word). got (openNumber n j) us) o.rest;
            lexed = o.lexed;
            is_open = refl;
            plus = d.1 ∙ sym sk.value ∙ sym ev.0;
            small = ev.1;
            place = sym s.place;
            name = λ _. spelled-here text at w s n z e;
            inside = λ _. place_inside text at w s z;
            some = λ _. name-some text at w s z;
          }

-- ---- behind one word

pub behind_on : (text : List ℕ) (at : ℕ) (w : Said) → Stands text at w → NumberThere (behind (from text at)) → Onward text at w.end
behind_on text at w s there = s.onward (λ z. absurd (refused≢good (sym (ap number_at (s.last z)) ∙ there)))

-- the word that stands behind a number is passed
pub past_by : (text : List ℕ) (us : List Word) (b : Bool) (p k stop : ℕ) (w : Said) → NumberRead text us (record { named = b; place = p; plus = k; end = stop }) → Stands text stop w → NumberPast text us (record { named = b; place = p; plus = k; end = w.end })
past_by text us b p k stop w x s = record { stop = stop; read = x; past = λ there. behind_on text stop w s there }

-- ---- one covers another

pub covers-plain : (text : List ℕ) (us vs : List Word) (p q : Num) (x : NumberRead text us p) (y : NumberRead text vs q) → covers x.number y.number ≡ covers (plain_number p) (plain_number q)
covers-plain text us vs p q x y = rw (x.is_open, x.plus, y.is_open, y.plus)

-- what is left of two lists decides
pub record Covering (text : List ℕ) (a b n i p q : ℕ) : Type 0 where
  pub most : i ≤ n
  pub first : NumbersThere text p (n - i)
  pub second : NumbersThere text q (n - i)
  pub total : cover_all (numbers_from text a n) (numbers_from text b n) ≡ cover_all (numbers_from text p (n - i)) (numbers_from text q (n - i))

pub covering_none : (text : List ℕ) (a b n : ℕ) → NumbersThere text a n → NumbersThere text b n → Covering text a b n 0 a b
covering_none text a b n x y =
    let e : n - 0 ≡ n = omega arith in
    record { most = omega arith; first = rw e x; second = rw e y; total = rw e }

pub list_long : (n : ℕ) (ws : List Word) → length (list_in no_number number_at n ws) ≡ n
list_long zero ws = refl
list_long (suc n) ws = ap suc (list_long n (rest_in_lem (number_at (behind ws))))

-- one of a list, and the others behind it
pub numbers-step : (text : List ℕ) (at n : ℕ) (r : Num) → NumbersThere text at (suc n) → (x : NumberRead text (behind (from text at)) r) → (numbers_from text at (suc n) ≡ x.number ∷ numbers_from text r.end n) × NumbersThere text r.end n
numbers-step text at n r t x = (ap (λ (m : Answer (Got Number)). value_in no_number m ∷ list_in no_number number_at n (rest_in_lem m)) x.is, record { lexed = x.lexed; readable = subst (λ (m : Answer (Got Number)). Readable no_number number_at n (rest_in_lem m)) x.is t.readable.1 })

pub number_there : (text : List ℕ) (at n : ℕ) → NumbersThere text at n → 0 < n → NumberThere (behind (from text at))
number_there text at zero t h = absurd (omega arith)
number_there text at (suc n) t h = t.readable.0

module _ (text : List ℕ) (a b n i p q : ℕ) (c : Covering text a b n i p q) (more : i < n) (r u : Num) (x : NumberRead text (behind (from text p)) r) (y : NumberRead text (behind (from text q)) u) where
  abbrev left : ℕ
  left = n - (i + 1)

  left_is : n - i ≡ suc left
  left_is = omega arith

  first-left : NumbersThere text p (suc left)
  first-left = subst (NumbersThere text p) left_is c.first

  second-left : NumbersThere text q (suc left)
  second-left = subst (NumbersThere text q) left_is c.second

  one_more : cover_all (numbers_from text a n) (numbers_from text b n) ≡ (covers (plain_number r) (plain_number u) && cover_all (numbers_from text r.end left) (numbers_from text u.end left))
  one_more =
      let s = numbers-step text p left r first-left x in
      let t = numbers-step text q left u second-left y in
      c.total ∙ ap (λ (k : ℕ). cover_all (numbers_from text p k) (numbers_from text q k)) left_is ∙ ap (λ (l : List Number). cover_all l (numbers_from text q (suc left))) s.0 ∙ ap (λ (l : List Number). cover_all (x.number ∷ numbers_from text r.end left) l) t.0 ∙ ap (λ (d : Bool). d && cover_all (numbers_from text r.end left) (numbers_from text u.end left)) (covers-plain text _ _ r u x y)

  pub covering_no : covers (plain_number r) (plain_number u) ≡ false → false ≡ cover_all (numbers_from text a n) (numbers_from text b n)
  covering_no e = sym (one_more ∙ ap (λ (d : Bool). d && cover_all (numbers_from text r.end left) (numbers_from text u.end left)) e)

  pub covering_more : covers (plain_number r) (plain_number u) ≡ true → Covering text a b n (i + 1) r.end u.end
  covering_more e = record {
    most = omega arith;
    first = (numbers-step text p left r first-left x).1;
    second = (numbers-step text q left u second-left y).1;
    total = one_more ∙ ap (λ (d : Bool). d && cover_all (numbers_from text r.end left) (numbers_from text u.end left)) e;
  }

pub covering_all : (text : List ℕ) (a b n i p q : ℕ) → Covering text a b n i p q → n ≤ i → true ≡ cover_all (numbers_from text a n) (numbers_from text b n)
covering_all text a b n i p q c h = let e : n - i ≡ 0 = omega arith in sym (c.total ∙ ap (λ (k : ℕ). cover_all (numbers_from text p k) (numbers_from text q k)) e)

-- ---- the tests that the code makes

pub covers_open : (p q : Num) → p.named ≡ true → leb p.plus q.plus ≡ covers (plain_number p) (plain_number q)
covers_open p q e = sym (ap (λ (b : Bool). cond b (leb p.plus q.plus) (not q.named && eqb p.plus q.plus)) e)

pub covers_one : (p q : Num) → p.named ≡ false → q.named ≡ false → eqb p.plus q.plus ≡ covers (plain_number p) (plain_number q)
covers_one p q e f = sym (ap (λ (b : Bool). cond b (leb p.plus q.plus) (not q.named && eqb p.plus q.plus)) e ∙ ap (λ (b : Bool). not b && eqb p.plus q.plus) f)
