-- `show` and then `make` give an accepted sheet back, or a limit of the notation is passed. Assumes nothing.
use Prim.Native.Nat.{ℕ, suc, ◌+◌, ◌≤◌, ◌<◌}
use mathlib.Core.Path.{◌≡◌, refl, sym, ap, subst, ◌∙◌}
use mathlib.Core.Logic.{inl, inr}
use mathlib.Core.Bool.{Bool, true, false, not, ◌&&◌, cond}
use mathlib.Core.List.{List, [], ◌∷◌, ◌++◌}
use native.Mathlib.Omega.{arith}
use lib.Dec.{eqb, leb, ltb, ltb→lt}
use lib.ListN.{length, take}
use Rattle.calculus.specs.Answer.{Answer, good, refused, ◌>>=◌, need}
use Rattle.calculus.specs.Types.{Ty, TyRec, rec01, rec02, rec03, rec04, Table, rec_at}
use Rattle.calculus.specs.Terms.{Edition, Term}
use Rattle.calculus.specs.Read.{Sheet, read_sheet}
use Rattle.calculus.specs.Rules.{Typed}
use Rattle.calculus.specs.Walk.{Found, walk}
use Rattle.laws.proofs.Tests.{is_false}
use Rattle.sheet_theorems.specs.Laid.{Below, TableOk}
use Rattle.sheet_theorems.proofs.SheetRead.{read-written}
use Rattle.sheet_theorems.proofs.Exact.{exact}
use Rattle.notation_calculus.specs.Words.{Word, words}
use Rattle.notation_calculus.specs.Trees.{no_types, Body, of_type, of_term, Clause, Line, Text}
use Rattle.notation_calculus.specs.Grammar.{most_nested, namesake, text_of}
use Rattle.notation_calculus.specs.Making.{State, meant, put_of, Put, clause_for, one_put, cost_of, parameters, body_term, type_of, term_of, put_in}
use Rattle.notation_calculus.specs.Make.{start, above, lines_table, main_name, is_judged, judged_body, judged_clause, judged_from, main_of, Placed, sheet_of, make, bytes_of}
use Rattle.notation_calculus.specs.Show.{show}
use Rattle.show_theorems.specs.Numbered.{BinderAt, nearest, farther, Numbered, of_var, of_lvar, of_fun, of_lfun, of_app, of_lapp, of_pair, of_proj, of_fix_lem, of_con, of_name}
use Rattle.show_theorems.specs.ShownTrees.{Within, ShownType, ShownRec, TypeClause, ShownClauses, MainClause, ShownLines, ShownText}
use Rattle.show_theorems.specs.ComesBack.{ComesBack}
use Rattle.show_theorems.proofs.Figures.{same_self}
use Rattle.show_theorems.proofs.Parsing.{within_step, within-map}
use Rattle.show_theorems.proofs.Numbering.{walk-numbered}
use Rattle.show_theorems.proofs.Texts.{shown-words}
use Rattle.show_theorems.proofs.Items.{read-shown}
use Rattle.show_theorems.proofs.Tabled.{take_all, grown_to, Tells, one_cost, rec-made, type-made}
use Rattle.show_theorems.proofs.Remade.{Variables, Gives, term_made}

-- ---- the first type is **1**, and there is one

none_below : (t : ℕ) → t < 0 → ⊥
none_below t l = omega arith

first_bit : (Θ : Table) → TableOk Θ → 0 < length Θ → rec_at Θ 0 ≡ rec01
first_bit Θ ok h = by (rec_at Θ 0) (ok.earlier 0 h)
  where
    by : (r : TyRec) → Below 0 r → r ≡ rec01
    by rec01 b = refl
    by (rec02 x y) b = absurd (none_below x b.0)
    by (rec03 x y) b = absurd (none_below x b.0)
    by (rec04 x y) b = absurd (none_below x b.0)

binder-some : {Γ : List ℕ} {i t : ℕ} → BinderAt Γ i t → 0 < length Γ
binder-some nearest = omega arith
binder-some (farther a) = omega arith

no_binder : {i t : ℕ} → BinderAt [] i t → ⊥
no_binder a = none_below 0 (binder-some a)

no_types_lem : {E : Edition} {e : Term} {t : ℕ} → Numbered E [] [] e t → ⊥
no_types_lem (of_var a h) = no_binder a
no_types_lem (of_lvar a h) = no_binder a
no_types_lem (of_fun {t = t} h is d) = none_below t h
no_types_lem (of_lfun {t = t} h is d) = none_below t h
no_types_lem (of_app is d g) = no_types_lem d
no_types_lem (of_lapp is d g) = no_types_lem d
no_types_lem (of_pair {t = t} h is d g) = none_below t h
no_types_lem (of_proj is d g) = no_types_lem d
no_types_lem (of_fix_lem {t = t} h d) = none_below t h
no_types_lem (of_con {t = t} h l is) = none_below t h
no_types_lem (of_name E₂ sh d g) = no_types_lem d

types-some : (E : Edition) (Θ : Table) (e : Term) (t : ℕ) → Numbered E Θ [] e t → 0 < length Θ
types-some E [] e t d = absurd (no_types_lem d)
types-some E (r ∷ Θ) e t d = omega arith

-- ---- clauses

take-length : (l : List Clause) → take (length l) l ≡ l
take-length [] = refl
take-length (c ∷ l) = ap (λ (m : List Clause). c ∷ m) (take-length l)

clauses_count : (Φ : Table) (j : ℕ) (cs : List Clause) → ShownClauses j Φ cs → length cs ≡ length Φ
clauses_count [] j [] h = refl
clauses_count [] j (c ∷ cs) h = absurd h
clauses_count (r ∷ Φ) j [] h = absurd h
clauses_count (r ∷ Φ) j (c ∷ cs) (k, h) = ap suc (clauses_count Φ (suc j) cs h)

-- a type is not `main`
type_passed : (j : ℕ) (r : TyRec) (c : Clause) → TypeClause j r c → meant c false main_name 0 [] ≡ false
type_passed j r c k = rw k.body refl

main_meant : (Θ : Table) (e : Term) (c : Clause) → MainClause Θ e c → meant c false main_name 0 [] ≡ true
main_meant Θ e c k = rw (k.body, k.named, k.types, k.numbers, same_self main_name) refl

main_found : (Θ : Table) (e : Term) (Φ : Table) (under j at : ℕ) (all cs : List Clause) (main : Clause) → ShownClauses j Φ cs → MainClause Θ e main → clause_for under all (cs ++ main ∷ []) j false main_name [] [] at ≡ good (put_of under all main (j + length Φ) [] [])
main_found Θ e [] under j at all [] main h k = rw (main_meant Θ e main k) (ap (λ (n : ℕ). good (put_of under all main n [] [])) (omega arith))
main_found Θ e [] under j at all (c ∷ cs) main h k = absurd h
main_found Θ e (r ∷ Φ) under j at all [] main h k = absurd h
main_found Θ e (r ∷ Φ) under j at all (c ∷ cs) main (x, h) k = rw (type_passed j r c x) (main_found Θ e Φ under (suc j) at all cs main h k ∙ ap (λ (n : ℕ). good (put_of under all main n [] [])) (omega arith))

-- ---- the text

-- a clause is judged with at most m levels
abbrev judged_at : ℕ → Text → ℕ → State → Body → Answer ℕ
judged_at m X i τ (of_type t) = do
  x ← type_of X m (above i) τ t
  good x.state.puts
judged_at m X i τ (of_term e) = do
  y ← term_of X m (above i) τ e
  good y.state.puts

module _ (σ : Sheet) (ok : TableOk σ.table) (some : 0 < length σ.table) (X : Text) (shown : ShownText σ X) where
  -- the table of the text so far has j types
  abbrev Has : ℕ → State → Type 0
  Has j τ = τ.table ≡ take j σ.table

  line_made : (m n j : ℕ) (τ : State) (l : Line) → l.seen ≡ length σ.table → ShownType n l.type → n < length σ.table → n ≤ j → 0 < j → j ≤ length σ.table → Has j τ → Within (λ x. Has (grown_to n j) x.state) (type_of X m (above l.seen) τ l.type)
  line_made m n j τ l e d h g k f t =
      within-map (Tells σ.table n j) (λ x. Has (grown_to n j) x.state) (type_of X m (above l.seen) τ l.type) (type-made X σ.table ok (first_bit σ.table ok some) shown.types shown.main shown.clauses shown.typed m n j (above l.seen) τ l.type d (omega arith) (record { bare = refl; known = h; next = g; some = k; few = f; table = t })) λ x (a, b). b

  -- the types from n on, where n types are there
  lines-made : (Ψ : Table) (n : ℕ) (τ : State) (ls : List Line) → ShownLines (length σ.table) n Ψ ls → 0 < n → n + length Ψ ≡ length σ.table → Has n τ → Within (Has (length σ.table)) (lines_table X τ ls)
  lines-made [] n τ [] h k f t = let e : n ≡ length σ.table = omega arith in t ∙ ap (λ (j : ℕ). take j σ.table) e
  lines-made [] n τ (l ∷ ls) h k f t = absurd h
  lines-made (r ∷ Ψ) n τ [] h k f t = absurd h
  lines-made (r ∷ Ψ) n τ (l ∷ ls) (e, d, h) k f t =
      within_step (λ x. Has (suc n) x.state) (Has (length σ.table)) (type_of X most_nested (above l.seen) τ l.type) (λ x. lines_table X x.state ls) (within-map (λ x. Has (grown_to n n) x.state) (λ x. Has (suc n) x.state) (type_of X most_nested (above l.seen) τ l.type) (line_made most_nested n n τ l e d (omega arith) (omega arith) k (omega arith) t) λ x a. a ∙ ap (λ (j : ℕ). take j σ.table) (grown-self n)) λ x a.
      lines-made Ψ (suc n) x.state ls h (omega arith) (omega arith) a
    where
      grown-self : (n : ℕ) → grown_to n n ≡ suc n
      grown-self n = ap (λ (b : Bool). cond b n (suc n)) (is_false (ltb n n) (λ t. let l = ltb→lt n n t in absurd (none l)))
        where
          none : n < n → ⊥
          none l = omega arith

  all_lines : (Ψ : Table) (ls : List Line) → Ψ ≡ σ.table → ShownLines (length σ.table) 0 Ψ ls → Within (Has (length σ.table)) (lines_table X start ls)
  all_lines [] ls e h = absurd (none_below 0 (subst (λ (Φ : Table). 0 < length Φ) (sym e) some))
  all_lines (r ∷ Ψ) [] e h = absurd h
  all_lines (r ∷ Ψ) (l ∷ ls) e (s, d, h) =
      within_step (λ x. Has 1 x.state) (Has (length σ.table)) (type_of X most_nested (above l.seen) start l.type) (λ x. lines_table X x.state ls) (line_made most_nested 0 1 start l s d some (omega arith) (omega arith) (omega arith) (one_type σ.table (first_bit σ.table ok some) some)) λ x a.
      lines-made Ψ 1 x.state ls h (omega arith) (omega (arith, ap (λ (Φ : Table). length Φ) e)) a
    where
      one_type : (Φ : Table) → rec_at Φ 0 ≡ rec01 → 0 < length Φ → rec01 ∷ [] ≡ take 1 Φ
      one_type [] e l = absurd (none_below 0 l)
      one_type (q ∷ Φ) e l = ap (λ (p : TyRec). p ∷ []) (sym e)

  -- ---- definitions, judged

  judged-type : (m i : ℕ) (τ : State) (c : Clause) (r : TyRec) → i < length σ.table → rec_at σ.table i ≡ r → TypeClause i r c → Has (length σ.table) τ → Within (λ (n : ℕ). Unit {0}) (judged_at m X i τ c.body)
  judged-type m i τ c r h is k t =
      subst (λ (b : Body). Within (λ (n : ℕ). Unit {0}) (judged_at m X i τ b)) (sym k.body) (within_step (Tells σ.table i (length σ.table)) (λ (n : ℕ). Unit {0}) (type_of X m (above i) τ k.tree) _ (rec-made X σ.table ok (first_bit σ.table ok some) shown.types shown.main shown.clauses shown.typed m i (length σ.table) (above i) τ k.tree (subst (λ (q : TyRec). ShownRec q k.tree) (sym is) k.shown) (omega arith) (record { bare = refl; known = h; next = omega arith; some = some; few = omega arith; table = t })) λ x a. tt)

  judged-same : (i : ℕ) (τ : State) (b : Body) → judged_at most_nested X i τ b ≡ judged_body X i τ b
  judged-same i τ (of_type t) = refl
  judged-same i τ (of_term e) = refl

  judged-one : (i : ℕ) (τ : State) (c : Clause) (r : TyRec) → i < length σ.table → rec_at σ.table i ≡ r → TypeClause i r c → Has (length σ.table) τ → Within (Has (length σ.table)) (judged_clause X i τ c)
  judged-one i τ c r h is k t = by (is_judged c)
    where
      by : (b : Bool) → Within (Has (length σ.table)) (cond b (one_put τ (cost_of c) c.head.place >>= λ τ₁. judged_body X i τ₁ c.body >>= λ n. good (record { table = τ.table; nodes = τ.nodes; puts = n })) (good τ))
      by true =
          within_step (λ (υ : State). υ.table ≡ τ.table) (Has (length σ.table)) (one_put τ (cost_of c) c.head.place) (λ τ₁. judged_body X i τ₁ c.body >>= λ n. good (record { table = τ.table; nodes = τ.nodes; puts = n })) (one_cost (λ (υ : State). υ.table ≡ τ.table) τ (cost_of c) c.head.place (λ υ e. e)) λ υ e.
          within_step (λ (n : ℕ). Unit {0}) (Has (length σ.table)) (judged_body X i υ c.body) (λ n. good (record { table = τ.table; nodes = τ.nodes; puts = n })) (subst (λ (m : Answer ℕ). Within (λ (n : ℕ). Unit {0}) m) (judged-same i υ c.body) (judged-type most_nested i υ c r h is k (e ∙ t))) λ n _. t
      by false = t

  -- `main` is not judged, since it is made
  main-passed : (i : ℕ) (τ : State) → judged_clause X i τ shown.main ≡ good τ
  main-passed i τ =
      let k = shown.made in
      let n : namesake shown.main false main_name ≡ true = rw (k.body, k.named, same_self main_name) refl in
      let j : is_judged shown.main ≡ false = ap (λ (b : Bool). eqb (parameters shown.main) 0 && not b) n ∙ and_no (eqb (parameters shown.main) 0) in
      rw j refl
    where
      and_no : (b : Bool) → (b && false) ≡ false
      and_no true = refl
      and_no false = refl

  judged-all : (Φ : Table) (j : ℕ) (τ : State) (cs : List Clause) → ShownClauses j Φ cs → j + length Φ ≡ length σ.table → ((k : ℕ) → k < length Φ → rec_at σ.table (j + k) ≡ rec_at Φ k) → Has (length σ.table) τ → Within (Has (length σ.table)) (judged_from X j τ (cs ++ shown.main ∷ []))
  judged-all [] j τ [] h e f t = rw (main-passed j τ) t
  judged-all [] j τ (c ∷ cs) h e f t = absurd h
  judged-all (r ∷ Φ) j τ [] h e f t = absurd h
  judged-all (r ∷ Φ) j τ (c ∷ cs) (k, h) e f t =
      let z : j + 0 ≡ j = omega arith in
      within_step (Has (length σ.table)) (Has (length σ.table)) (judged_clause X j τ c) (λ υ. judged_from X (suc j) υ (cs ++ shown.main ∷ [])) (judged-one j τ c r (omega arith) (sym (ap (λ (n : ℕ). rec_at σ.table n) z) ∙ f 0 (omega arith)) k t) λ υ u.
      judged-all Φ (suc j) υ cs h (omega arith) (λ i l. let s : suc j + i ≡ j + suc i = omega arith in ap (λ (n : ℕ). rec_at σ.table n) s ∙ f (suc i) (omega arith)) u

  -- ---- `main`

  main-made : (t : ℕ) → Numbered σ.edition σ.table [] σ.term t → (m : ℕ) (τ : State) → Has (length σ.table) τ → Within (Gives σ.table σ.term t) (put_in X false (above (length X.clauses)) (λ S υ s. type_of X m S υ s) (body_term (λ S υ e. term_of X m S υ e)) τ X.end main_name no_types [])
  main-made t d m τ h =
      let k = shown.made in
      let main : Clause = shown.main in
      let n : ℕ = length σ.table in
      let p : Put = put_of 0 X.clauses main (0 + n) [] [] in
      let all : take (length X.clauses) X.clauses ≡ shown.types ++ main ∷ [] = take-length X.clauses ∙ shown.clauses in
      let f : clause_for 0 X.clauses (take (length X.clauses) X.clauses) 0 false main_name [] [] X.end ≡ good p = ap (λ (l : List Clause). clause_for 0 X.clauses l 0 false main_name [] [] X.end) all ∙ main_found σ.table σ.term σ.table 0 0 X.end X.clauses shown.types main shown.typed k in
      let b : p.scope.types ≡ [] = rw k.types refl in
      let s : p.scope.seen ≡ 0 + n = rw k.numbers refl in
      let v : Variables 0 [] p.scope.variables = refl in
      rw f (within_step (λ (υ : State). υ.table ≡ τ.table) (Gives σ.table σ.term t) (one_put τ p.cost X.end) (λ υ. body_term (λ S υ e. term_of X m S υ e) p.scope υ p.body) (one_cost (λ (υ : State). υ.table ≡ τ.table) τ p.cost X.end (λ υ e. e)) λ υ e.
      subst (λ (c : Body). Within (Gives σ.table σ.term t) (body_term (λ S υ e. term_of X m S υ e) p.scope υ c)) (sym k.body) (term_made X σ.edition σ.table ok (first_bit σ.table ok some) shown.types main shown.clauses shown.typed shown.edition m d 0 p.scope υ k.tree k.shown (record { bare = b; seen = omega (arith, s); variables = refl; few = omega arith }) (e ∙ h ∙ take_all σ.table)))

  abbrev Back : Placed → Type 0
  Back p = p.sheet ≡ σ

  pub sheet-made : (t : ℕ) → Numbered σ.edition σ.table [] σ.term t → Within Back (sheet_of X)
  unfolding sheet_of main_of
  sheet-made t d =
      within_step (Gives σ.table σ.term t) Back (lines_table X start X.lines >>= λ τ. judged_from X 0 τ X.clauses >>= λ υ. put_in X false (above (length X.clauses)) (λ S υ s. type_of X most_nested S υ s) (body_term (λ S υ e. term_of X most_nested S υ e)) υ X.end main_name no_types []) _ (within_step (Has (length σ.table)) (Gives σ.table σ.term t) (lines_table X start X.lines) _ (all_lines σ.table X.lines refl shown.lines) λ τ h. within_step (Has (length σ.table)) (Gives σ.table σ.term t) (judged_from X 0 τ X.clauses) _ (subst (λ (l : List Clause). Within (Has (length σ.table)) (judged_from X 0 τ l)) (sym shown.clauses) (judged-all σ.table 0 τ shown.types shown.typed (omega arith) (λ k l. let z : 0 + k ≡ k = omega arith in ap (λ (n : ℕ). rec_at σ.table n) z) h)) λ υ u. main-made t d most_nested υ u) λ m (a, b, c).
      ap (λ (E : Edition). record { edition = E; table = m.state.table; term = m.term }) shown.edition ∙ ap (λ (Φ : Table). record { edition = σ.edition; table = Φ; term = m.term }) c ∙ ap (λ (e : Term). record { edition = σ.edition; table = σ.table; term = e }) a

-- ---- the theorem

-- what is made of a text that is a sheet's: the sheet, or a limit
within-back : (s : List ℕ) (σ : Sheet) (m : Answer Placed) → s ≡ bytes_of σ → Within (λ (p : Placed). p.sheet ≡ σ) m → ComesBack s σ m
within-back s σ (good p) e h = (h, ap bytes_of h ∙ sym e)
within-back s σ (refused why) e h = inr h

-- a sheet that is read and accepted by the walk
pub show-make : (s : List ℕ) (σ : Sheet) (r : Found) → read_sheet s ≡ good σ → walk σ.edition σ.table σ.term 0 [] ≡ good r → ComesBack s σ (make (show σ))
unfolding make
show-make s σ r e h =
    let w = (read-written s σ).0 e in
    let ok : TableOk σ.table = w.1.table in
    let d : Numbered σ.edition σ.table [] σ.term r.type = (walk-numbered σ.edition σ.table ok σ.term w.1.ranged 0 [] r [] tt h).0 in
    let some = types-some σ.edition σ.table σ.term r.type d in
    let v = shown-words σ r.type d in
    by (leb (length (show σ)) 65535) (subst (λ (m : Answer (List Word)). Within (λ (p : Placed). p.sheet ≡ σ) (m >>= λ ws. text_of ws >>= sheet_of)) (sym v.is) (within_step (ShownText σ) (λ (p : Placed). p.sheet ≡ σ) (text_of v.ws) sheet_of (read-shown σ v.ws some v.said) λ X shown. sheet-made σ ok some X shown r.type d)) w.0
  where
    by : (b : Bool) → Within (λ (p : Placed). p.sheet ≡ σ) (words (show σ) >>= λ ws. text_of ws >>= sheet_of) → s ≡ bytes_of σ → ComesBack s σ (need b 30 0 >>= λ _. words (show σ) >>= λ ws. text_of ws >>= sheet_of)
    by true k q = within-back s σ (words (show σ) >>= λ ws. text_of ws >>= sheet_of) q k
    by false k q = inl refl

-- .. so for every sheet that Figure 2 has a derivation for
pub show_make_typed : (s : List ℕ) (σ : Sheet) (τ : Ty) → read_sheet s ≡ good σ → Typed σ.edition σ.table [] σ.term τ → ComesBack s σ (make (show σ))
show_make_typed s σ τ e d = let (r, h) = (exact s σ e).1 (τ, d) in show-make s σ r e h
