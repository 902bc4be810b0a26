-- The grammar reads a shown text: its clauses, its line `table` and `main`. Assumes nothing.
use Prim.Native.Nat.{ℕ, zero, suc, ◌+◌, ◌≤◌, ◌<◌, ◌^◌}
use mathlib.Core.Path.{◌≡◌, refl, sym, ap, subst, ◌∙◌}
use mathlib.Core.Bool.{Bool, true, false, not, ◌&&◌, ◌||◌, cond}
use mathlib.Core.List.{List, [], ◌∷◌, ◌++◌, append_assoc, append-nil}
use native.Mathlib.Omega.{arith}
use lib.Dec.{T, eqb, ltb, ltb→lt, eqb→eq}
use lib.ListN.{length, length-append}
use Rattle.calculus.specs.Answer.{Answer, good, ◌>>=◌, need}
use Rattle.calculus.specs.Types.{TyRec, rec01, rec02, rec03, rec04, Table}
use Rattle.calculus.specs.Terms.{Edition, first, second, Term}
use Rattle.calculus.specs.Read.{Sheet}
use Rattle.laws.proofs.Tests.{is_false}
use Rattle.notation_calculus.specs.Words.{ascii, ends, equals, table, comma, Token, sign, Word, same_name}
use Rattle.notation_calculus.specs.Words as Words
use Rattle.notation_calculus.specs.Trees.{TypeTree, Tree, Body, of_type, of_term, Clause, Line, Text}
use Rattle.notation_calculus.specs.Grammar.{most_nested, most_clauses, Got, got, behind, is, place, type_at, term_at, list_from, clause_at, type_body, term_body, is_type, same_sort, may_follow, may_follow_all, Items, no_items, with_clause, lines_of, with_lines, items_from, edition_at, text_of}
use Rattle.notation_calculus.specs.Make.{main_name}
use Rattle.show_theorems.specs.Shown.{shown_type, type_word, rec_words, type_line_words, table_words, term_words, edition_words, sheet_words, Spoken, last, more}
use Rattle.show_theorems.specs.ShownTrees.{Within, ShownType, TypeClause, ShownClauses, MainClause, ShownLines, ShownText}
use Rattle.show_theorems.proofs.Figures.{same-decimal}
use Rattle.show_theorems.proofs.Parsing.{within_step, within-map, within_then, TypeStops, TypeReads, read_type, RecReads, read-rec, TermStops, TermReads, read_term_lem}

abbrev is_comma : List Word → Bool
is_comma ws = is comma ws

-- ---- one clause

abbrev ClauseReads : (Clause → Type 0) → List Token → Got Clause → Type 0
ClauseReads P us g = P g.value × Spoken us g.rest

-- .. with at most m levels
abbrev type_body_at : ℕ → List Word → Answer (Got Body)
type_body_at m ws = do
  t ← type_at m false ws
  got (of_type t.value) t.rest

abbrev term_body_at : ℕ → List Word → Answer (Got Body)
term_body_at m ws = do
  e ← term_at m ws
  got (of_term e.value) e.rest

read_type_clause : (m n : ℕ) (r : TyRec) (us : List Token) (ws : List Word) → Spoken (type_word n ∷ sign equals ∷ rec_words r us) ws → TypeStops us → Within (ClauseReads (TypeClause n r) us) (clause_at (type_body_at m) ws)
read_type_clause m n r us ws (more (more {ws = vs} h)) s = within_then (RecReads r us) (ClauseReads (TypeClause n r) us) (type_at m false vs) _ _ (read-rec m r us vs h s) λ t (x, y). (record { named = refl; types = refl; numbers = refl; tree = t.value; body = refl; shown = x }, y)

read_main_clause : (m : ℕ) (Θ : Table) (e : Term) (us : List Token) (ws : List Word) → Spoken (Words.name (ascii "main") ∷ sign equals ∷ term_words Θ 0 e us) ws → TermStops us → Within (ClauseReads (MainClause Θ e) us) (clause_at (term_body_at m) ws)
unfolding main_name
read_main_clause m Θ e us ws (more (more {ws = vs} h)) s = within_then (TermReads Θ 0 e us) (ClauseReads (MainClause Θ e) us) (term_at m vs) _ _ (read_term_lem Θ e m 0 us vs h s) λ t (x, y). (record { named = refl; types = refl; numbers = refl; tree = t.value; body = refl; shown = x }, y)

-- ---- the clauses above it

-- another name
follows_other : (j n : ℕ) (r : TyRec) (c d : Clause) → TypeClause j r c → d.head.name ≡ shown_type n → j < n → n < 2 ^ 64 → may_follow c d ≡ true
follows_other j n r c d k e l m =
    let other : same_name c.head.name d.head.name ≡ false = ap (λ (x : List ℕ). same_name x d.head.name) k.named ∙ ap (λ (x : List ℕ). same_name (shown_type j) x) e ∙ same-decimal 116 j n (omega arith) m ∙ is_false (eqb j n) (λ t. let q = eqb→eq j n t in absurd (omega arith)) in
    rw other (neither (same_sort (is_type c.body) (is_type d.body)) _)
  where
    neither : (a b : Bool) → (not (a && false) || b) ≡ true
    neither true b = refl
    neither false b = refl

follows_all : (Φ : Table) (j n : ℕ) (cs : List Clause) (d : Clause) → ShownClauses j Φ cs → d.head.name ≡ shown_type n → j + length Φ ≤ n → n < 2 ^ 64 → may_follow_all cs d ≡ true
follows_all [] j n [] d h e l m = refl
follows_all [] j n (c ∷ cs) d h e l m = absurd h
follows_all (r ∷ Φ) j n [] d h e l m = absurd h
follows_all (r ∷ Φ) j n (c ∷ cs) d (k, h) e l m = rw (follows_other j n r c d k e (omega arith) m) (follows_all Φ (suc j) n cs d h e (omega arith) m)

-- a term behind types
follows_type : (j : ℕ) (r : TyRec) (c d : Clause) (t : Tree) → TypeClause j r c → d.body ≡ of_term t → may_follow c d ≡ true
follows_type j r c d t k e = rw (k.body, e) refl

follows_types : (Φ : Table) (j : ℕ) (cs : List Clause) (d : Clause) (t : Tree) → ShownClauses j Φ cs → d.body ≡ of_term t → may_follow_all cs d ≡ true
follows_types [] j [] d t h e = refl
follows_types [] j (c ∷ cs) d t h e = absurd h
follows_types (r ∷ Φ) j [] d t h e = absurd h
follows_types (r ∷ Φ) j (c ∷ cs) d t (k, h) e = rw (follows_type j r c d t k e) (follows_types Φ (suc j) cs d t h e)

clauses_long : (Φ : Table) (j : ℕ) (cs : List Clause) → ShownClauses j Φ cs → length cs ≡ length Φ
clauses_long [] j [] h = refl
clauses_long [] j (c ∷ cs) h = absurd h
clauses_long (r ∷ Φ) j [] h = absurd h
clauses_long (r ∷ Φ) j (c ∷ cs) (k, h) = ap suc (clauses_long Φ (suc j) cs h)

clauses_more : (Φ : Table) (j n : ℕ) (cs : List Clause) (r : TyRec) (c : Clause) → ShownClauses j Φ cs → n ≡ j + length Φ → TypeClause n r c → ShownClauses j (Φ ++ r ∷ []) (cs ++ c ∷ [])
clauses_more [] j n [] r c h e k = (subst (λ (x : ℕ). TypeClause x r c) (e ∙ omega arith) k, tt)
clauses_more [] j n (d ∷ cs) r c h e k = absurd h
clauses_more (q ∷ Φ) j n [] r c h e k = absurd h
clauses_more (q ∷ Φ) j n (d ∷ cs) r c (x, h) e k = (x, clauses_more Φ (suc j) n cs r c h (omega arith) k)

-- ---- items

with_clause_lem : (Q : Items → Type 0) (items : Items) (c : Clause) → (length items.clauses < 256 → may_follow_all items.clauses c ≡ true) → (length items.clauses < 256 → Q (record { clauses = items.clauses ++ c ∷ []; lines = items.lines })) → Within Q (with_clause items c)
with_clause_lem Q items c may k = by (ltb (length items.clauses) most_clauses) refl
  where
    by : (b : Bool) → ltb (length items.clauses) most_clauses ≡ b → Within Q (need b 34 c.head.place >>= λ _. need (may_follow_all items.clauses c) 36 c.head.place >>= λ _. good (record { clauses = items.clauses ++ c ∷ []; lines = items.lines }))
    by true e = let l = ltb→lt (length items.clauses) 256 (subst (λ (x : Bool). T x) (sym e) tt) in rw (may l) (k l)
    by false e = refl

rec-longer : (r : TyRec) (us : List Token) → length us < length (rec_words r us)
rec-longer rec01 us = omega arith
rec-longer (rec02 a b) us = omega arith
rec-longer (rec03 a b) us = omega arith
rec-longer (rec04 a b) us = omega arith

-- the types of the line `table`
abbrev ShownAll : ℕ → Table → List TypeTree → Type 0
ShownAll n [] [] = Unit {0}
ShownAll n [] (t ∷ ts) = ⊥
ShownAll n (r ∷ Θ) [] = ⊥
ShownAll n (r ∷ Θ) (t ∷ ts) = ShownType n t × ShownAll (suc n) Θ ts

abbrev ListReads : ℕ → Table → List Token → Got (List TypeTree) → Type 0
ListReads n Θ us g = ShownAll n Θ g.value × Spoken us g.rest

commas : (us : List Token) → TypeStops (sign comma ∷ us)
commas us = record { square = refl; curly = refl; power = refl; times = refl; arrow = refl; linear = refl }

-- the next word is the name of `main`
mains : (us : List Token) → TypeStops (Words.name (ascii "main") ∷ us)
mains us = record { square = refl; curly = refl; power = refl; times = refl; arrow = refl; linear = refl }

read_list : (m rounds n : ℕ) (r : TyRec) (Θ : Table) (us : List Token) (ws : List Word) → Spoken (table_words n (r ∷ Θ) (Words.name (ascii "main") ∷ us)) ws → length Θ < rounds → Within (ListReads n (r ∷ Θ) (Words.name (ascii "main") ∷ us)) (list_from (λ vs. type_at m false vs) rounds ws)
read_list m zero n r Θ us ws h l = absurd (omega arith)
read_list m (suc rounds) n r [] us ws h l =
    within_step (TypeReads n (Words.name (ascii "main") ∷ us)) (ListReads n (r ∷ []) (Words.name (ascii "main") ∷ us)) (type_at m false ws) _ (read_type m false n _ ws h (mains us)) λ g (x, y). one g x g.rest y
  where
    one : (g : Got TypeTree) → ShownType n g.value → (vs : List Word) → Spoken (Words.name (ascii "main") ∷ us) vs → Within (ListReads n (r ∷ []) (Words.name (ascii "main") ∷ us)) (cond (is_comma vs) (list_from (λ vs. type_at m false vs) rounds (behind vs) >>= λ xs. got (g.value ∷ xs.value) xs.rest) (got (g.value ∷ []) vs))
    one g x vs (more h) = ((x, tt), more h)
read_list m (suc rounds) n r (q ∷ Θ) us ws h l =
    within_step (TypeReads n (sign comma ∷ table_words (suc n) (q ∷ Θ) (Words.name (ascii "main") ∷ us))) (ListReads n (r ∷ q ∷ Θ) (Words.name (ascii "main") ∷ us)) (type_at m false ws) _ (read_type m false n _ ws h (commas _)) λ g (x, y). many (λ vs z. read_list m rounds (suc n) q Θ us vs z (omega arith)) g x g.rest y
  where
    many :
        ((vs : List Word) → Spoken (table_words (suc n) (q ∷ Θ) (Words.name (ascii "main") ∷ us)) vs → Within (ListReads (suc n) (q ∷ Θ) (Words.name (ascii "main") ∷ us)) (list_from (λ vs. type_at m false vs) rounds vs))
        → (g : Got TypeTree) → ShownType n g.value → (vs : List Word) → Spoken (sign comma ∷ table_words (suc n) (q ∷ Θ) (Words.name (ascii "main") ∷ us)) vs
        → Within (ListReads n (r ∷ q ∷ Θ) (Words.name (ascii "main") ∷ us)) (cond (is_comma vs) (list_from (λ vs. type_at m false vs) rounds (behind vs) >>= λ xs. got (g.value ∷ xs.value) xs.rest) (got (g.value ∷ []) vs))
    many ih g x vs (more {ws = ts} h) = within_step (ListReads (suc n) (q ∷ Θ) (Words.name (ascii "main") ∷ us)) (ListReads n (r ∷ q ∷ Θ) (Words.name (ascii "main") ∷ us)) (list_from (λ vs. type_at m false vs) rounds ts) _ (ih ts h) λ k (a, b). ((x, a), b)

-- ---- all items

abbrev main_words : Table → Term → List Token
main_words Θ e = Words.name (ascii "main") ∷ sign equals ∷ term_words Θ 0 e []

-- what all items are, when those up to here are known
abbrev Ended : Table → Term → List Line → Got Items → Type 0
Ended Θ e ls g = (cs : List Clause) × (c : Clause) × (g.value.clauses ≡ cs ++ c ∷ []) × ShownClauses 0 Θ cs × MainClause Θ e c × (g.value.lines ≡ ls)

items_end : (Q : Got Items → Type 0) (rounds : ℕ) (items : Items) (ws : List Word) → Spoken [] ws → ((vs : List Word) → Q (record { value = items; rest = vs })) → Within Q (items_from rounds items ws)
items_end Q zero items ws h k = k ws
items_end Q (suc rounds) items ws last k = k _

read_main : (Θ : Table) (e : Term) (rounds : ℕ) (items : Items) (ws : List Word) → Spoken (main_words Θ e) ws → 0 < rounds → ShownClauses 0 Θ items.clauses → Within (Ended Θ e items.lines) (items_from rounds items ws)
read_main Θ e zero items ws h l k = absurd (omega arith)
read_main Θ e (suc rounds) items ws (more {p = p} {ws = vs} h) l k =
    within_step (ClauseReads (MainClause Θ e) []) (Ended Θ e items.lines) (clause_at term_body (record { token = Words.name (ascii "main"); place = p } ∷ vs)) _ (read_main_clause most_nested Θ e [] (record { token = Words.name (ascii "main"); place = p } ∷ vs) (more h) (record { square = refl; curly = refl; atom = tt })) λ c (x, y).
    within_step (λ (n : Items). (n.clauses ≡ items.clauses ++ c.value ∷ []) × (n.lines ≡ items.lines)) (Ended Θ e items.lines) (with_clause items c.value) _ (with_clause_lem _ items c.value (λ _. follows_types Θ 0 items.clauses c.value x.tree k x.body) (λ _. (refl, refl))) λ n (a, b).
    items_end (Ended Θ e items.lines) rounds n c.rest y λ vs. (items.clauses, c.value, a, k, x, b)

lines_of_lem : (seen n : ℕ) (Θ : Table) (ts : List TypeTree) → ShownAll n Θ ts → ShownLines seen n Θ (lines_of seen ts)
lines_of_lem seen n [] [] h = tt
lines_of_lem seen n [] (t ∷ ts) h = absurd h
lines_of_lem seen n (r ∷ Θ) [] h = absurd h
lines_of_lem seen n (r ∷ Θ) (t ∷ ts) (x, h) = (refl, x, lines_of_lem seen (suc n) Θ ts h)

table-longer : (Θ : Table) (n : ℕ) (us : List Token) → length Θ + length us ≤ length (table_words n Θ us)
table-longer [] n us = omega arith
table-longer (r ∷ []) n us = omega arith
table-longer (r ∷ q ∷ Θ) n us = omega (arith, table-longer (q ∷ Θ) (suc n) us)

said-long : {us : List Token} {ws : List Word} → Spoken us ws → length ws ≡ suc (length us)
said-long last = refl
said-long (more h) = ap suc (said-long h)

-- .. with lines that are those of the table
abbrev Lined : Table → Term → Got Items → Type 0
Lined Θ e g = (cs : List Clause) × (c : Clause) × (g.value.clauses ≡ cs ++ c ∷ []) × ShownClauses 0 Θ cs × MainClause Θ e c × ShownLines (length Θ) 0 Θ g.value.lines

-- one round at the word `table`: the words are left alone, since `length ws` would unfold all levels of the grammar
table_round : (rounds : ℕ) (items : Items) (ws : List Word) → is ends ws ≡ false → is table ws ≡ true → items_from (suc rounds) items ws ≡ (list_from (λ us. type_at most_nested false us) (length ws) (behind ws) >>= λ ts. items_from rounds (with_lines items ts.value) ts.rest)
table_round rounds items ws e f = rw (e, f) refl

said-behind : {u : Token} {us : List Token} {ws : List Word} → Spoken (u ∷ us) ws → Spoken us (behind ws)
said-behind (more h) = h

table_head : {us : List Token} {ws : List Word} → Spoken (sign table ∷ us) ws → (is ends ws ≡ false) × (is table ws ≡ true)
table_head (more h) = (refl, refl)

read_table : (Θ : Table) (e : Term) (rounds : ℕ) (items : Items) (ws : List Word) → Spoken (sign table ∷ table_words 0 Θ (main_words Θ e)) ws → 1 < rounds → 0 < length Θ → ShownClauses 0 Θ items.clauses → items.lines ≡ [] → Within (Lined Θ e) (items_from rounds items ws)
read_table Θ e zero items ws h l s k z = absurd (omega arith)
read_table [] e (suc rounds) items ws h l s k z = absurd (omega arith)
read_table (r ∷ Θ) e (suc rounds) items ws h l s k z =
    subst (λ (m : Answer (Got Items)). Within (Lined (r ∷ Θ) e) m) (sym (table_round rounds items ws (table_head h).0 (table_head h).1)) (within_step (ListReads 0 (r ∷ Θ) (main_words (r ∷ Θ) e)) (Lined (r ∷ Θ) e) (list_from (λ us. type_at most_nested false us) (length ws) (behind ws)) (λ ts. items_from rounds (with_lines items ts.value) ts.rest) (read_list most_nested (length ws) 0 r Θ _ (behind ws) (said-behind h) (omega (arith, said-long h, table-longer (r ∷ Θ) 0 (main_words (r ∷ Θ) e)))) λ g (x, y).
    within-map (Ended (r ∷ Θ) e (items.lines ++ lines_of (length items.clauses) g.value)) (Lined (r ∷ Θ) e) (items_from rounds (with_lines items g.value) g.rest) (read_main (r ∷ Θ) e rounds (with_lines items g.value) g.rest y (omega arith) k) λ i (cs, c, a, b, d, f).
    (cs, c, a, b, d, subst (λ (ls : List Line). ShownLines (length (r ∷ Θ)) 0 (r ∷ Θ) ls) (sym (f ∙ ap (λ (ls : List Line). ls ++ lines_of (length items.clauses) g.value) z ∙ ap (λ (n : ℕ). lines_of n g.value) (clauses_long (r ∷ Θ) 0 items.clauses k))) (lines_of_lem (length (r ∷ Θ)) 0 (r ∷ Θ) g.value x)))

types_go_on : (Ψ : Table) (n : ℕ) (us : List Token) → TypeStops (type_line_words n Ψ (sign table ∷ us))
types_go_on [] n us = record { square = refl; curly = refl; power = refl; times = refl; arrow = refl; linear = refl }
types_go_on (r ∷ Ψ) n us = record { square = refl; curly = refl; power = refl; times = refl; arrow = refl; linear = refl }

read-lines :
    (Φ Ψ Θ : Table) (e : Term) (n rounds : ℕ) (items : Items) (ws : List Word) → Θ ≡ Φ ++ Ψ → n ≡ length Φ → Spoken (type_line_words n Ψ (sign table ∷ table_words 0 Θ (main_words Θ e))) ws
    → length Ψ + 1 < rounds → 0 < length Θ → ShownClauses 0 Φ items.clauses → items.lines ≡ [] → Within (Lined Θ e) (items_from rounds items ws)
read-lines Φ [] Θ e n rounds items ws q m h l s k z = read_table Θ e rounds items ws h (omega arith) s (subst (λ (T : Table). ShownClauses 0 T items.clauses) (sym (q ∙ append-nil Φ)) k) z
read-lines Φ (r ∷ Ψ) Θ e n zero items ws q m h l s k z = absurd (omega arith)
read-lines Φ (r ∷ Ψ) Θ e n (suc rounds) items ws q m (more {p = p} {ws = vs} h) l s k z =
    within_step (ClauseReads (TypeClause n r) (type_line_words (suc n) Ψ (sign table ∷ table_words 0 Θ (main_words Θ e)))) (Lined Θ e) (clause_at type_body vs) _ (read_type_clause most_nested n r _ vs h (types_go_on Ψ (suc n) _)) λ c (x, y).
    within_step (λ (i : Items). ShownClauses 0 (Φ ++ r ∷ []) i.clauses × (i.lines ≡ [])) (Lined Θ e) (with_clause items c.value) _ (with_clause_lem _ items c.value (λ few. follows_all Φ 0 n items.clauses c.value k x.named (omega arith) (omega (arith, clauses_long Φ 0 items.clauses k))) (λ few. (clauses_more Φ 0 n items.clauses r c.value k (omega arith) x, z))) λ i (a, b).
    read-lines (Φ ++ r ∷ []) Ψ Θ e (suc n) rounds i c.rest (q ∙ sym (append_assoc Φ (r ∷ []) Ψ)) (omega (arith, length-append Φ (r ∷ []))) y (omega arith) s a b

-- ---- the text

lines-longer : (Θ : Table) (n : ℕ) (us : List Token) → length Θ + length us ≤ length (type_line_words n Θ us)
lines-longer [] n us = omega arith
lines-longer (r ∷ Θ) n us = omega (arith, rec-longer r (type_line_words (suc n) Θ us), lines-longer Θ (suc n) us)

text_of_lem : (σ : Sheet) (E : Edition) (g : Got Items) → E ≡ σ.edition → Lined σ.table σ.term g → ShownText σ (record { edition = E; clauses = g.value.clauses; lines = g.value.lines; end = place g.rest })
text_of_lem σ E g e (cs, c, a, b, d, f) = record { edition = e; types = cs; main = c; clauses = a; typed = b; made = d; lines = f }

read_items : (σ : Sheet) (E : Edition) (rounds : ℕ) (ws : List Word) → E ≡ σ.edition → 0 < length σ.table → Spoken (type_line_words 0 σ.table (sign table ∷ table_words 0 σ.table (main_words σ.table σ.term))) ws → length ws ≤ rounds → Within (ShownText σ) (items_from rounds no_items ws >>= λ items. good (record { edition = E; clauses = items.value.clauses; lines = items.value.lines; end = place items.rest }))
read_items σ E rounds ws e s h l =
    within_step (Lined σ.table σ.term) (ShownText σ) (items_from rounds no_items ws) (λ items. good (record { edition = E; clauses = items.value.clauses; lines = items.value.lines; end = place items.rest })) (read-lines [] σ.table σ.table σ.term 0 rounds no_items ws refl refl h (omega (arith, said-long h, lines-longer σ.table 0 (sign table ∷ table_words 0 σ.table (main_words σ.table σ.term)))) s tt refl) λ g x. text_of_lem σ E g e x

-- the edition's words
first_edition : (r : TyRec) (Θ : Table) (us : List Token) (ws : List Word) → Spoken (type_line_words 0 (r ∷ Θ) us) ws → edition_at ws ≡ got first ws
first_edition r Θ us ws (more h) = refl

second_edition : (us : List Token) (ws : List Word) → Spoken (sign Words.edition ∷ Words.number 2 ∷ us) ws → (vs : List Word) × (edition_at ws ≡ got second vs) × Spoken us vs × (length vs ≤ length ws)
second_edition us ws (more (more {ws = vs} h)) = (vs, refl, h, omega arith)

pub read-shown : (σ : Sheet) (ws : List Word) → 0 < length σ.table → Spoken (sheet_words σ) ws → Within (ShownText σ) (text_of ws)
unfolding text_of
read-shown σ ws s h = by σ.edition refl h
  where
    rest : Edition → List Word → ℕ → Answer Text
    rest E vs rounds = items_from rounds no_items vs >>= λ items. good (record { edition = E; clauses = items.value.clauses; lines = items.value.lines; end = place items.rest })

    head : (Θ : Table) → 0 < length Θ → (us : List Token) → Spoken (type_line_words 0 Θ us) ws → edition_at ws ≡ got first ws
    head [] l us k = absurd (omega arith)
    head (r ∷ Θ) l us k = first_edition r Θ us ws k

    by : (E : Edition) → E ≡ σ.edition → Spoken (edition_words E (type_line_words 0 σ.table (sign table ∷ table_words 0 σ.table (main_words σ.table σ.term)))) ws → Within (ShownText σ) (edition_at ws >>= λ E. rest E.value E.rest (length ws))
    by first e k = subst (λ (m : Answer (Got Edition)). Within (ShownText σ) (m >>= λ E. rest E.value E.rest (length ws))) (sym (head σ.table s _ k)) (read_items σ first (length ws) ws e s k (omega arith))
    by second e k =
        let (vs, f, m, l) = second_edition _ ws k in
        subst (λ (m : Answer (Got Edition)). Within (ShownText σ) (m >>= λ E. rest E.value E.rest (length ws))) (sym f) (read_items σ second (length ws) vs e s m l)
