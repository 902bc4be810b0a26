-- The words of a whole shown sheet. Assumes nothing.
use Prim.Native.Nat.{ℕ, suc, ◌-◌}
use mathlib.Core.Path.{◌≡◌, refl, sym, ap, subst, ◌∙◌}
use mathlib.Core.List.{List, [], ◌∷◌, ◌++◌, append_assoc}
use native.Mathlib.Omega.{arith}
use lib.ListN.{length}
use Rattle.calculus.specs.Answer.{good}
use Rattle.calculus.specs.Types.{TyRec, rec01, rec02, rec03, rec04, Table, rec_at}
use Rattle.calculus.specs.Terms.{Edition, first, second, Term, pair, proj, name}
use Rattle.calculus.specs.Read.{Sheet}
use Rattle.notation_calculus.specs.Words.{ascii, Token, sign, Word, words}
use Rattle.notation_calculus.specs.Words as Words
use Rattle.notation_calculus.specs.Show.{rec_text, type_lines, table_list, left_of, term_text, edition_text, show}
use Rattle.show_theorems.specs.Shown.{shown_type, shown_binder, rec_words, type_line_words, table_words, term_words, edition_words, sheet_words, Spoken}
use Rattle.show_theorems.specs.Numbered.{Numbered, of_var, of_lvar, of_fun, of_lfun, of_app, of_lapp, of_pair, of_proj, of_fix_lem, of_con, of_name}
use Rattle.show_theorems.proofs.Lexing.{Lexes, Stops, lex_end, lex_type, lex_binder, lex_round, lex_end_round, lex_comma, lex_colon, lex_dot, lex_equals, lex_times, lex_arrow, lex_linear, lex_fun, lex_fix, lex_let, lex_in, lex_type-word, lex_table-word, lex_one, lex_edition, lex_main, lex_let_round, lex_round_equals, lex_part, lex_blank}

-- ---- pieces one behind the other

abbrev pieces : List (List ℕ) → List ℕ → List ℕ
pieces [] z = z
pieces (x ∷ xs) z = x ++ pieces xs z

pieces_then : (xs : List (List ℕ)) (y z : List ℕ) → pieces xs y ++ z ≡ pieces xs (y ++ z)
pieces_then [] y z = refl
pieces_then (x ∷ xs) y z = append_assoc x (pieces xs y) z ∙ ap (λ (l : List ℕ). x ++ l) (pieces_then xs y z)

-- ---- terms

module _ (E : Edition) (Θ : Table) where
  -- the body behind a binder
  lex-bound :
      (s : List ℕ) (w : Token) (k t : ℕ) (body rest : List ℕ) (us : List Token) → ((r : List ℕ) (vs : List Token) → Lexes r vs → Lexes (s ++ r) (w ∷ vs))
      → Lexes (body ++ rest) us → Lexes (((s ++ (shown_binder k ++ (ascii " : " ++ (shown_type t ++ ascii ". ")))) ++ body) ++ rest) (w ∷ Words.name (shown_binder k) ∷ sign Words.colon ∷ Words.name (shown_type t) ∷ sign Words.dot ∷ us)
  lex-bound s w k t body rest us add f =
      let e : ((s ++ (shown_binder k ++ (ascii " : " ++ (shown_type t ++ ascii ". ")))) ++ body) ++ rest ≡ s ++ (shown_binder k ++ (ascii " : " ++ (shown_type t ++ (ascii ". " ++ (body ++ rest))))) = append_assoc (s ++ (shown_binder k ++ (ascii " : " ++ (shown_type t ++ ascii ". ")))) body rest ∙ pieces_then (s ∷ shown_binder k ∷ ascii " : " ∷ shown_type t ∷ []) (ascii ". ") (body ++ rest) in
      subst (λ (l : List ℕ). Lexes l (w ∷ Words.name (shown_binder k) ∷ sign Words.colon ∷ Words.name (shown_type t) ∷ sign Words.dot ∷ us)) (sym e) (add _ _ (lex_binder k _ _ refl (lex_colon _ _ (lex_type t _ _ refl (lex_dot _ _ f)))))

  -- two subterms in parentheses
  lex-two :
      (f a rest : List ℕ) (us vs : List Token) → Lexes (f ++ (ascii ") (" ++ (a ++ (ascii ")" ++ rest)))) us
      → us ≡ vs → Lexes (((ascii "(" ++ (f ++ ascii ")")) ++ (ascii " " ++ (ascii "(" ++ (a ++ ascii ")")))) ++ rest) (sign Words.round ∷ vs)
  lex-two f a rest us vs h q =
      let e : ((ascii "(" ++ (f ++ ascii ")")) ++ (ascii " " ++ (ascii "(" ++ (a ++ ascii ")")))) ++ rest ≡ ascii "(" ++ (f ++ (ascii ")" ++ (ascii " " ++ (ascii "(" ++ (a ++ (ascii ")" ++ rest)))))) = append_assoc (ascii "(" ++ (f ++ ascii ")")) (ascii " " ++ (ascii "(" ++ (a ++ ascii ")"))) rest ∙ pieces_then (ascii "(" ∷ f ∷ []) (ascii ")") ((ascii " " ++ (ascii "(" ++ (a ++ ascii ")"))) ++ rest) ∙ ap (λ (l : List ℕ). ascii "(" ++ (f ++ (ascii ")" ++ l))) (pieces_then (ascii " " ∷ ascii "(" ∷ a ∷ []) (ascii ")") rest) in
      subst (λ (l : List ℕ). Lexes l (sign Words.round ∷ vs)) (sym e) (lex_round _ _ (subst (λ (l : List Token). Lexes (f ++ (ascii ") (" ++ (a ++ (ascii ")" ++ rest)))) l) q h))

  pub lex_term : {Γ : List ℕ} {e : Term} {t : ℕ} → Numbered E Θ Γ e t → (k : ℕ) (rest : List ℕ) (us : List Token) → Stops rest → Lexes rest us → Lexes (term_text Θ k e ++ rest) (term_words Θ k e us)
  lex_term (of_var {i = i} a h) k rest us s f = lex_binder (k - suc i) rest us s f
  lex_term (of_lvar {i = i} a h) k rest us s f = lex_binder (k - suc i) rest us s f
  lex_term (of_fun {t = t} {e = b} l is d) k rest us s f = lex-bound (ascii "fun ") (sign Words.fun) k (left_of (rec_at Θ t)) (term_text Θ (suc k) b) rest _ lex_fun (lex_term d (suc k) rest us s f)
  lex_term (of_lfun {t = t} {e = b} l is d) k rest us s f = lex-bound (ascii "fun ") (sign Words.fun) k (left_of (rec_at Θ t)) (term_text Θ (suc k) b) rest _ lex_fun (lex_term d (suc k) rest us s f)
  lex_term (of_app {f = g} {x = a} is d c) k rest us s f = lex-two (term_text Θ k g) (term_text Θ k a) rest _ _ (lex_term d k _ _ refl (lex_end_round _ _ (lex_blank 32 _ _ refl (lex_round _ _ (lex_term c k _ _ refl (lex_end_round rest us f)))))) refl
  lex_term (of_lapp {f = g} {x = a} is d c) k rest us s f = lex-two (term_text Θ k g) (term_text Θ k a) rest _ _ (lex_term d k _ _ refl (lex_end_round _ _ (lex_blank 32 _ _ refl (lex_round _ _ (lex_term c k _ _ refl (lex_end_round rest us f)))))) refl
  lex_term (of_pair {t = t} {x = a} {y = b} l is d c) k rest us s f =
      let x : List ℕ = term_text Θ k a in
      let y : List ℕ = term_text Θ k b in
      let e : (ascii "(" ++ ((x ++ (ascii ", " ++ y)) ++ ascii ")")) ++ rest ≡ ascii "(" ++ (x ++ (ascii ", " ++ (y ++ (ascii ")" ++ rest)))) = ap (λ (m : List ℕ). ascii "(" ++ m) (append_assoc (x ++ (ascii ", " ++ y)) (ascii ")") rest ∙ pieces_then (x ∷ ascii ", " ∷ []) y (ascii ")" ++ rest)) in
      subst (λ (m : List ℕ). Lexes m (term_words Θ k (pair t a b) us)) (sym e) (lex_round _ _ (lex_term d k _ _ refl (lex_comma _ _ (lex_term c k _ _ refl (lex_end_round rest us f)))))
  lex_term (of_proj {x = a} {e = b} is d c) k rest us s f =
      let x : List ℕ = term_text Θ k a in
      let y : List ℕ = term_text Θ (suc (suc k)) b in
      let e : term_text Θ k (proj a b) ++ rest ≡ pieces (ascii "let (" ∷ shown_binder k ∷ ascii ", " ∷ shown_binder (suc k) ∷ ascii ") = " ∷ x ∷ ascii " in " ∷ []) (y ++ rest) = pieces_then (ascii "let (" ∷ shown_binder k ∷ ascii ", " ∷ shown_binder (suc k) ∷ ascii ") = " ∷ x ∷ ascii " in " ∷ []) y rest in
      subst (λ (m : List ℕ). Lexes m (term_words Θ k (proj a b) us)) (sym e) (lex_let_round _ _ (lex_binder k _ _ refl (lex_comma _ _ (lex_binder (suc k) _ _ refl (lex_round_equals _ _ (lex_term d k _ _ refl (lex_in _ _ (lex_term c (suc (suc k)) rest us s f))))))))
  lex_term (of_fix_lem {t = t} {e = b} l d) k rest us s f = lex-bound (ascii "fix ") (sign Words.fix) k t (term_text Θ (suc k) b) rest _ lex_fix (lex_term d (suc k) rest us s f)
  lex_term (of_con {p = p} l m is) k rest us s f = lex_part p rest us m s f
  lex_term (of_name {x = a} {e = b} E₂ h d c) k rest us s f =
      let x : List ℕ = term_text Θ k a in
      let y : List ℕ = term_text Θ (suc k) b in
      let e : term_text Θ k (name a b) ++ rest ≡ pieces (ascii "let " ∷ shown_binder k ∷ ascii " = " ∷ x ∷ ascii " in " ∷ []) (y ++ rest) = pieces_then (ascii "let " ∷ shown_binder k ∷ ascii " = " ∷ x ∷ ascii " in " ∷ []) y rest in
      subst (λ (m : List ℕ). Lexes m (term_words Θ k (name a b) us)) (sym e) (lex_let _ _ (lex_binder k _ _ refl (lex_equals _ _ (lex_term d k _ _ refl (lex_in _ _ (lex_term c (suc k) rest us s f))))))

-- ---- types

lex_sides : (s : List ℕ) (w : Token) (a b : ℕ) (rest : List ℕ) (us : List Token) → ((r : List ℕ) (vs : List Token) → Lexes r vs → Lexes (32 ∷ (s ++ r)) (w ∷ vs)) → Lexes rest us → Lexes ((shown_type a ++ ((32 ∷ s) ++ shown_type b)) ++ (10 ∷ rest)) (Words.name (shown_type a) ∷ w ∷ Words.name (shown_type b) ∷ us)
lex_sides s w a b rest us add f = subst (λ (l : List ℕ). Lexes l (Words.name (shown_type a) ∷ w ∷ Words.name (shown_type b) ∷ us)) (sym (pieces_then (shown_type a ∷ (32 ∷ s) ∷ []) (shown_type b) (10 ∷ rest))) (lex_type a _ _ refl (add _ _ (lex_type b _ _ refl (lex_blank 10 rest us refl f))))

pub lex_rec : (r : TyRec) (rest : List ℕ) (us : List Token) → Lexes rest us → Lexes (rec_text r ++ (10 ∷ rest)) (rec_words r us)
lex_rec rec01 rest us f = lex_one rest us f
lex_rec (rec02 a b) rest us f = lex_sides (ascii "* ") (sign Words.times) a b rest us lex_times f
lex_rec (rec03 a b) rest us f = lex_sides (ascii "-> ") (sign Words.arrow) a b rest us lex_arrow f
lex_rec (rec04 a b) rest us f = lex_sides (ascii "-o ") (sign Words.linear) a b rest us lex_linear f

pub lex_lines : (Θ : Table) (n : ℕ) (rest : List ℕ) (us : List Token) → Lexes rest us → Lexes (type_lines n Θ ++ rest) (type_line_words n Θ us)
lex_lines [] n rest us f = f
lex_lines (r ∷ Θ) n rest us f =
    let e : type_lines n (r ∷ Θ) ++ rest ≡ pieces (ascii "type " ∷ shown_type n ∷ ascii " = " ∷ rec_text r ∷ ascii "\n" ∷ []) (type_lines (suc n) Θ ++ rest) = pieces_then (ascii "type " ∷ shown_type n ∷ ascii " = " ∷ rec_text r ∷ ascii "\n" ∷ []) (type_lines (suc n) Θ) rest in
    subst (λ (l : List ℕ). Lexes l (type_line_words n (r ∷ Θ) us)) (sym e) (lex_type-word _ _ (lex_type n _ _ refl (lex_equals _ _ (lex_rec r _ _ (lex_lines Θ (suc n) rest us f)))))

pub lex_table : (Θ : Table) (n : ℕ) (rest : List ℕ) (us : List Token) → Stops rest → Lexes rest us → Lexes (table_list n Θ ++ rest) (table_words n Θ us)
lex_table [] n rest us s f = f
lex_table (r ∷ []) n rest us s f = lex_type n rest us s f
lex_table (r ∷ q ∷ Θ) n rest us s f =
    subst (λ (l : List ℕ). Lexes l (table_words n (r ∷ q ∷ Θ) us)) (sym (pieces_then (shown_type n ∷ ascii ", " ∷ []) (table_list (suc n) (q ∷ Θ)) rest)) (lex_type n _ _ refl (lex_comma _ _ (lex_table (q ∷ Θ) (suc n) rest us s f)))

-- ---- the sheet

lex_opening : (E : Edition) (rest : List ℕ) (us : List Token) → Lexes rest us → Lexes (edition_text E ++ rest) (edition_words E us)
lex_opening first rest us f = f
lex_opening second rest us f = lex_edition rest us f

nothing-behind : (l : List ℕ) → l ++ [] ≡ l
nothing-behind [] = refl
nothing-behind (c ∷ l) = ap (λ (m : List ℕ). c ∷ m) (nothing-behind l)

pub lex_show : (σ : Sheet) (t : ℕ) → Numbered σ.edition σ.table [] σ.term t → Lexes (show σ) (sheet_words σ)
unfolding show
lex_show σ t d = lex_opening σ.edition _ _ (lex_lines σ.table 0 _ _ (lex_table-word _ _ (lex_table σ.table 0 _ _ refl (lex_main _ _ (subst (λ (l : List ℕ). Lexes l (term_words σ.table 0 σ.term [])) (nothing-behind (term_text σ.table 0 σ.term)) (lex_term σ.edition σ.table d 0 [] [] tt lex_end))))))

-- the words of the shown text
pub record ShownWords (σ : Sheet) : Type 0 where
  pub ws : List Word
  pub is : words (show σ) ≡ good ws
  pub said : Spoken (sheet_words σ) ws

pub shown-words : (σ : Sheet) (t : ℕ) → Numbered σ.edition σ.table [] σ.term t → ShownWords σ
unfolding words
shown-words σ t d =
    let f = lex_show σ t d (suc (length (show σ))) 0 (omega arith) in
    record { ws = f.ws; is = f.is; said = f.said }
