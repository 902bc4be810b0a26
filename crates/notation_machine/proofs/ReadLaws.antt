-- What is known of words that the grammar has read: a sign that was due stood there, a list has something in it, and numbers stand behind a
-- curly bracket. Assumes nothing.
use Prim.Native.Nat.{ℕ, zero, suc}
use mathlib.Core.Path.{◌≡◌, refl, sym, subst}
use mathlib.Core.Bool.{Bool, true, false, ◌||◌, cond}
use mathlib.Core.List.{List, [], ◌∷◌}
use lib.Dec.{T, eqb, eqb→eq}
use lib.ListN.{length}
use Rattle.calculus.specs.Answer.{Answer, good, refused, ◌>>=◌, need}
use Rattle.notation_calculus.specs.Words.{Name, same_name, Sign, sign_code, comma, endRound, square, endSquare, curly, endCurly, Token, sign, part, number, name, Word}
use Rattle.notation_calculus.specs.Trees.{Number, TypeTree, TypeTrees, no_types}
use Rattle.notation_calculus.specs.Grammar.{Got, got, peek, behind, place, is_token, is, expect, list_from, number_at, numbers_at, types_of, arguments_at}
use Rattle.notation_calculus.specs.Making.{Entry, lookup, no_arguments}
use Rattle.notation_theorems.proofs.Answering.{On, on_step, on_any, on_either}

pub on_expect : {B : Type 0} (Q : B → Type 0) (s : Sign) (ws : List Word) (f : List Word → Answer B) → On Q (f (behind ws)) → On Q (expect s ws >>= f)
on_expect Q s ws f h = by (is s ws)
  where
    by : (b : Bool) → On Q ((need b 32 (place ws) >>= λ _. good (behind ws)) >>= f)
    by true = h
    by false = tt

-- .. and what is made of the words behind it may know that
pub on_expected : {B : Type 0} (Q : B → Type 0) (s : Sign) (ws : List Word) (f : List Word → Answer B) → (is s ws ≡ true → On Q (f (behind ws))) → On Q (expect s ws >>= f)
on_expected Q s ws f h = by (is s ws) h
  where
    by : (b : Bool) → (b ≡ true → On Q (f (behind ws))) → On Q ((need b 32 (place ws) >>= λ _. good (behind ws)) >>= f)
    by true h = h refl
    by false h = tt

pub on_pair : {A : Type 0} (P Q : A → Type 0) (m : Answer A) → On P m → On Q m → On (λ (a : A). P a × Q a) m
on_pair P Q (good a) h k = (h, k)
on_pair P Q (refused why) h k = tt

-- a list that is read has something in it
abbrev pub Some : {A : Type 0} → List A → Type 0
Some [] = ⊥
Some (x ∷ xs) = Unit {0}

pub list_some : {A : Type 0} (read : List Word → Answer (Got A)) (rounds : ℕ) (ws : List Word) → On (λ (g : Got (List A)). Some g.value) (list_from read rounds ws)
list_some read zero ws = tt
list_some {A} read (suc rounds) ws = on_any P (read ws) _ λ x. on_either P (is comma x.rest) _ _ (on_any P (list_from read rounds (behind x.rest)) _ λ xs. tt) tt
  where
    P : Got (List A) → Type 0
    P g = Some g.value

-- numbers follow a name just where a curly bracket does; else nothing is read
abbrev pub Numbers : Bool → List Word → Got (List Number) → Type 0
Numbers true us g = no_arguments no_types g.value ≡ false
Numbers false us g = (no_arguments no_types g.value ≡ true) × (us ≡ g.rest)

pub numbers-read : (us : List Word) → On (Numbers (is curly us) us) (numbers_at us)
numbers-read us = by (is curly us)
  where
    some : (ks : List Number) → Some ks → no_arguments no_types ks ≡ false
    some [] h = absurd h
    some (k ∷ ks) h = refl

    by : (b : Bool) → On (Numbers b us) (cond b (list_from number_at (length us) (behind us) >>= λ ns. expect endCurly ns.rest >>= λ after. got ns.value after) (got [] us))
    by true = on_step (λ (g : Got (List Number)). Some g.value) (Numbers true us) (list_from number_at (length us) (behind us)) _ (list_some number_at (length us) (behind us)) λ g h. on_expect (Numbers true us) endCurly g.rest (λ after. got g.value after) (some g.value h)
    by false = (refl, refl)

-- types follow a name just where a square bracket does; else nothing is read
abbrev pub Arguments : Bool → List Word → Got TypeTrees → Type 0
Arguments true us ts = (ks : List Number) → no_arguments ts.value ks ≡ false
Arguments false us ts = (ts.value ≡ no_types) × (us ≡ ts.rest)

pub some_arguments : (ts : List TypeTree) → Some ts → (ks : List Number) → no_arguments (types_of ts) ks ≡ false
some_arguments [] h ks = absurd h
some_arguments (t ∷ ts) h ks = refl

pub arguments_read : (read : List Word → Answer (Got TypeTree)) (us : List Word) → On (Arguments (is square us) us) (arguments_at read us)
arguments_read read us = by (is square us)
  where
    by : (b : Bool) → On (Arguments b us) (cond b (list_from read (length us) (behind us) >>= λ ts. expect endSquare ts.rest >>= λ after. got (types_of ts.value) after) (got no_types us))
    by true = on_step (λ (g : Got (List TypeTree)). Some g.value) (Arguments true us) (list_from read (length us) (behind us)) _ (list_some read (length us) (behind us)) λ ts h. on_expect (Arguments true us) endSquare ts.rest (λ after. got (types_of ts.value) after) (some_arguments ts.value h)
    by false = (refl, refl)

-- a name with arguments; or none, where nothing is read behind it
abbrev pub Used : Bool → List Word → TypeTrees → Got (List Number) → Type 0
Used true us ts ks = no_arguments ts ks.value ≡ false
Used false us ts ks = (no_arguments ts ks.value ≡ true) × (us ≡ ks.rest)

used_numbers : (b : Bool) (us : List Word) (ks : Got (List Number)) → Numbers b us ks → Used b us no_types ks
used_numbers true us ks h = h
used_numbers false us ks h = h

pub used_read : (us : List Word) (ts : Got TypeTrees) (ks : Got (List Number)) → Arguments (is square us) us ts → Numbers (is curly ts.rest) ts.rest ks → Used (is square us || is curly us) us ts.value ks
used_read us ts ks = by (is square us)
  where
    by : (b : Bool) → Arguments b us ts → Numbers (is curly ts.rest) ts.rest ks → Used (b || is curly us) us ts.value ks
    by true a n = a ks.value
    by false a n = subst (λ (v : TypeTrees). Used (is curly us) us v ks) (sym a.0) (subst (λ (vs : List Word). Used (is curly vs) vs no_types ks) (sym a.1) (used_numbers (is curly ts.rest) ts.rest ks n))

-- what is looked up twice is found twice
pub lookup-both : {A B : Type 0} (R : A → B → Type 0) (n : Name) (Γ : List Entry) (i : ℕ) {f : ℕ → ℕ → A} {a : A} {g : ℕ → ℕ → B} {b : B} → ((j v : ℕ) → R (f j v) (g j v)) → R a b → R (lookup n Γ i f a) (lookup n Γ i g b)
lookup-both R n [] i h k = k
lookup-both {A} {B} R n (e ∷ es) i {f} {a} {g} {b} h k = by (same_name n e.name) (lookup-both R n es (suc i) h k)
  where
    by : (t : Bool) → R (lookup n es (suc i) f a) (lookup n es (suc i) g b) → R (cond t (f i e.value) (lookup n es (suc i) f a)) (cond t (g i e.value) (lookup n es (suc i) g b))
    by true r = h i e.value
    by false r = r

-- where one sign stands, another does not
pub one_sign : (s r : Sign) (k : Token) → eqb (sign_code s) (sign_code r) ≡ false → T (is_token r k) → is_token s k ≡ false
one_sign s r (sign t) e h = subst (λ (c : ℕ). eqb (sign_code s) c ≡ false) (eqb→eq (sign_code r) (sign_code t) h) e
one_sign s r (part p) e h = absurd h
one_sign s r (number n) e h = absurd h
one_sign s r (name n) e h = absurd h

-- no comma stands where a parenthesis closes
pub on_closed : {B : Type 0} (Q : B → Type 0) (ws : List Word) (f : List Word → Answer B) → (is comma ws ≡ false → On Q (f (behind ws))) → On Q (expect endRound ws >>= f)
on_closed Q ws f h = by (is endRound ws) (one_sign comma endRound (peek ws).token refl)
  where
    by : (b : Bool) → (T b → is comma ws ≡ false) → On Q ((need b 32 (place ws) >>= λ _. good (behind ws)) >>= f)
    by true g = h (g tt)
    by false g = tt
