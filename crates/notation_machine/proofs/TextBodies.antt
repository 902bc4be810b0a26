-- Every text that the grammar reads has the words of its bodies, and they read as its bodies. Assumes nothing.
use Prim.Native.Nat.{ℕ, zero, suc}
use mathlib.Core.Path.{◌≡◌, refl, sym, ap, subst, ◌∙◌}
use mathlib.Core.Bool.{Bool, true, false, cond}
use mathlib.Core.List.{List, [], ◌∷◌, ◌++◌, append_assoc, append-nil}
use lib.Dec.{ltb}
use lib.ListN.{length}
use Rattle.calculus.specs.Answer.{Answer, good, refused, ◌>>=◌, need}
use Rattle.calculus.specs.Terms.{Edition}
use Rattle.notation_calculus.specs.Words.{ends, type, table, equals, Word}
use Rattle.notation_calculus.specs.Trees.{Bound, Number, TypeTree, Body, of_type, of_term, Clause, Text}
use Rattle.notation_calculus.specs.Grammar.{most_nested, most_clauses, Got, got, behind, place, is, expect, name_at, list_from, numbers_at, parameters_at, type_at, term_at, may_follow_all, Items, no_items, with_clause, with_lines, clause_at, type_body, term_body, items_from, edition_at, text_of}
use Rattle.notation_theorems.proofs.Answering.{On, on_step, on_any, on_is, on_map, on_good}
use Rattle.notation_machine.specs.Bodies.{ReadsAs, AllRead, body_from, bodies_from, bodies_of}

-- a clause that was read, with the words of its body
pub record ReadClause (ws : List Word) (c : Got Clause) : Type 0 where
  pub words : List Word
  pub words_are : body_from ws ≡ good words
  pub read : ReadsAs words c.value.body

clause_read : (read : List Word → Answer (Got Body)) → ((us : List Word) → On (λ (b : Got Body). ReadsAs us b.value) (read us)) → (ws : List Word) → On (ReadClause ws) (clause_at read ws)
clause_read read r ws =
    on_is Q (name_at ws) _ λ x e. on_is Q (parameters_at x.rest) _ λ ts f. on_is Q (numbers_at ts.rest) _ λ ks g. on_is Q (expect equals ks.rest) _ λ us h.
    on_step (λ (b : Got Body). ReadsAs us b.value) Q (read us) _ (r us) λ b k. record {
      words = us;
      words_are = ap (λ (m : Answer (Got Bound)). m >>= λ x. parameters_at x.rest >>= λ ts. numbers_at ts.rest >>= λ ks. expect equals ks.rest) e ∙ ap (λ (m : Answer (Got (List Bound))). m >>= λ ts. numbers_at ts.rest >>= λ ks. expect equals ks.rest) f ∙ ap (λ (m : Answer (Got (List Number))). m >>= λ ks. expect equals ks.rest) g ∙ h;
      read = k;
    }
  where
    Q : Got Clause → Type 0
    Q = ReadClause ws

type_body-read : (us : List Word) → On (λ (b : Got Body). ReadsAs us b.value) (type_body us)
type_body-read us = on_is (λ (b : Got Body). ReadsAs us b.value) (type_at most_nested false us) (λ t. got (of_type t.value) t.rest) λ t e. (t.rest, e)

term_body-read : (us : List Word) → On (λ (b : Got Body). ReadsAs us b.value) (term_body us)
term_body-read us = on_is (λ (b : Got Body). ReadsAs us b.value) (term_at most_nested us) (λ e. got (of_term e.value) e.rest) λ e h. (e.rest, h)

-- items that were read behind others
pub record ReadItems (rounds : ℕ) (items : Items) (ws : List Word) (g : Got Items) : Type 0 where
  pub bodies : List (List Word)
  pub bodies_are : bodies_from rounds ws ≡ good bodies
  pub clauses : List Clause
  pub clauses_are : g.value.clauses ≡ items.clauses ++ clauses
  pub read : AllRead bodies clauses

with_clause_lem : (items : Items) (c : Clause) → On (λ (next : Items). next.clauses ≡ items.clauses ++ c ∷ []) (with_clause items c)
with_clause_lem items c = on_any (λ (next : Items). next.clauses ≡ items.clauses ++ c ∷ []) (need (ltb (length items.clauses) most_clauses) 34 c.head.place) _ λ _. on_any (λ (next : Items). next.clauses ≡ items.clauses ++ c ∷ []) (need (may_follow_all items.clauses c) 36 c.head.place) _ λ _. refl

items_read : (rounds : ℕ) (items : Items) (ws : List Word) → On (ReadItems rounds items ws) (items_from rounds items ws)
items_read zero items ws = record { bodies = []; bodies_are = refl; clauses = []; clauses_are = sym (append-nil items.clauses); read = tt }
items_read (suc rounds) items ws = by (is ends ws) (is table ws) (is type ws) refl refl refl (items_read rounds)
  where
    Q : Got Items → Type 0
    Q = ReadItems (suc rounds) items ws

    -- the equation of `bodies_from` at these words
    at_words : (a b c : Bool) → is ends ws ≡ a → is table ws ≡ b → is type ws ≡ c → bodies_from (suc rounds) ws ≡ cond a (good []) (cond b (list_from (λ us. type_at most_nested false us) (length ws) (behind ws) >>= λ ts. bodies_from rounds ts.rest) (cond c (body_from (behind ws)) (body_from ws) >>= λ us. cond c (clause_at type_body (behind ws)) (clause_at term_body ws) >>= λ d. bodies_from rounds d.rest >>= λ bodies. good (us ∷ bodies)))
    at_words a b c e f g = rw (e, f, g)

    -- a clause, then the items behind it
    one_more :
        (m : Answer (List Word)) (us : List Word) (n : Answer (Got Clause)) (c : Got Clause) → m ≡ good us → n ≡ good c → ReadsAs us c.value.body
        → bodies_from (suc rounds) ws ≡ (m >>= λ us. n >>= λ d. bodies_from rounds d.rest >>= λ bodies. good (us ∷ bodies))
        → (next : Items) → next.clauses ≡ items.clauses ++ c.value ∷ []
        → (g : Got Items) → ReadItems rounds next c.rest g → Q g
    one_more m us n c e f r a next k g h = record {
      bodies = us ∷ h.bodies;
      bodies_are = a ∙ ap (λ (q : Answer (List Word)). q >>= λ us. n >>= λ d. bodies_from rounds d.rest >>= λ bodies. good (us ∷ bodies)) e ∙ ap (λ (q : Answer (Got Clause)). q >>= λ d. bodies_from rounds d.rest >>= λ bodies. good (us ∷ bodies)) f ∙ ap (λ (q : Answer (List (List Word))). q >>= λ bodies. good (us ∷ bodies)) h.bodies_are;
      clauses = c.value ∷ h.clauses;
      clauses_are = h.clauses_are ∙ ap (λ (l : List Clause). l ++ h.clauses) k ∙ append_assoc items.clauses (c.value ∷ []) h.clauses;
      read = (r, h.read);
    }

    clause_more :
        (words : Answer (List Word)) (reads : Answer (Got Clause)) → On (λ (c : Got Clause). (us : List Word) × (words ≡ good us) × ReadsAs us c.value.body) reads
        → bodies_from (suc rounds) ws ≡ (words >>= λ us. reads >>= λ d. bodies_from rounds d.rest >>= λ bodies. good (us ∷ bodies))
        → ((next : Items) (vs : List Word) → On (ReadItems rounds next vs) (items_from rounds next vs))
        → On Q (reads >>= λ c. with_clause items c.value >>= λ next. items_from rounds next c.rest)
    clause_more words (good c) (us, e, r) a ih = on_step (λ (next : Items). next.clauses ≡ items.clauses ++ c.value ∷ []) Q (with_clause items c.value) (λ next. items_from rounds next c.rest) (with_clause_lem items c.value) λ next k. on_map (ReadItems rounds next c.rest) Q (items_from rounds next c.rest) (ih next c.rest) λ g h. one_more words us (good c) c e refl r a next k g h
    clause_more words (refused why) h a ih = tt

    known : (us : List Word) (c : Got Clause) → ReadClause us c → (vs : List Word) × (body_from us ≡ good vs) × ReadsAs vs c.value.body
    known us c k = (k.words, k.words_are, k.read)

    by :
        (a b c : Bool) → is ends ws ≡ a → is table ws ≡ b → is type ws ≡ c
        → ((next : Items) (vs : List Word) → On (ReadItems rounds next vs) (items_from rounds next vs))
        → On Q (cond a (got items ws) (cond b (list_from (λ us. type_at most_nested false us) (length ws) (behind ws) >>= λ ts. items_from rounds (with_lines items ts.value) ts.rest) (cond c (clause_at type_body (behind ws)) (clause_at term_body ws) >>= λ d. with_clause items d.value >>= λ next. items_from rounds next d.rest)))
    by true b c e f g ih = record { bodies = []; bodies_are = at_words true b c e f g; clauses = []; clauses_are = sym (append-nil items.clauses); read = tt }
    by false true c e f g ih = on_is Q (list_from (λ us. type_at most_nested false us) (length ws) (behind ws)) (λ ts. items_from rounds (with_lines items ts.value) ts.rest) λ ts q. on_map (ReadItems rounds (with_lines items ts.value) ts.rest) Q (items_from rounds (with_lines items ts.value) ts.rest) (ih (with_lines items ts.value) ts.rest) λ d h. record { bodies = h.bodies; bodies_are = at_words false true c e f g ∙ ap (λ (m : Answer (Got (List TypeTree))). m >>= λ ts. bodies_from rounds ts.rest) q ∙ h.bodies_are; clauses = h.clauses; clauses_are = h.clauses_are; read = h.read }
    by false false true e f g ih = clause_more (body_from (behind ws)) (clause_at type_body (behind ws)) (on_map (ReadClause (behind ws)) _ (clause_at type_body (behind ws)) (clause_read type_body type_body-read (behind ws)) (known (behind ws))) (at_words false false true e f g) ih
    by false false false e f g ih = clause_more (body_from ws) (clause_at term_body ws) (on_map (ReadClause ws) _ (clause_at term_body ws) (clause_read term_body term_body-read ws) (known ws)) (at_words false false false e f g) ih

-- the hypothesis of the machines holds of every text
pub text-bodies : (ws : List Word) (X : Text) → text_of ws ≡ good X → (bodies : List (List Word)) × (bodies_of ws ≡ good bodies) × AllRead bodies X.clauses
unfolding text_of bodies_of
text-bodies ws X e = on_good P (edition_at ws >>= rest) X whole e
  where
    P : Text → Type 0
    P Y = (bodies : List (List Word)) × ((edition_at ws >>= λ E. bodies_from (length ws) E.rest) ≡ good bodies) × AllRead bodies Y.clauses

    rest : Got Edition → Answer Text
    rest E = items_from (length ws) no_items E.rest >>= λ items. good (record { edition = E.value; clauses = items.value.clauses; lines = items.value.lines; end = place items.rest })

    whole : On P (edition_at ws >>= rest)
    whole = on_is P (edition_at ws) rest λ E q. on_step (ReadItems (length ws) no_items E.rest) P (items_from (length ws) no_items E.rest) (λ items. good (record { edition = E.value; clauses = items.value.clauses; lines = items.value.lines; end = place items.rest })) (items_read (length ws) no_items E.rest) λ items h. (h.bodies, ap (λ (m : Answer (Got Edition)). m >>= λ E. bodies_from (length ws) E.rest) q ∙ h.bodies_are, subst (λ (cs : List Clause). AllRead h.bodies cs) (sym h.clauses_are) h.read)
