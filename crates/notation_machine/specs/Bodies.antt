-- The words of each definition's body: what the table of clauses holds as an offset in the text. Assumes nothing.
use Rattle.std.specs.Prelude.{ℕ, zero, suc, ◌≡◌, Bool, false, cond, List, [], ◌∷◌, length, get_or}
use Rattle.calculus.specs.Answer.{Answer, good, ◌>>=◌}
use Rattle.notation_calculus.specs.Words.{ends, type, equals, table, Name, Word}
use Rattle.notation_calculus.specs.Trees.{Body, of_type, of_term, Clause}
use Rattle.notation_calculus.specs.Grammar.{most_nested, is, behind, expect, name_at, list_from, numbers_at, parameters_at, type_at, term_at, clause_at, type_body, term_body, edition_at}
use Rattle.notation_calculus.specs.Making.{meant}

-- the number of the first clause that a name means with so many types and these numbers, or how many clauses there are
abbrev pub number_for : List Clause → Bool → Name → ℕ → List ℕ → ℕ
number_for [] sort n k ns = 0
number_for (c ∷ cs) sort n k ns = cond (meant c sort n k ns) 0 (suc (number_for cs sort n k ns))

-- the words of its body, where those of clause i stand at i
abbrev pub words_for : List (List Word) → List Clause → Bool → Name → ℕ → List ℕ → List Word
words_for bodies cs sort n k ns = get_or bodies (number_for cs sort n k ns) []

-- the grammar reads these words, up to some of them, as the body
abbrev pub ReadsAs : List Word → Body → Type 0
ReadsAs ws (of_type t) = (us : List Word) × (type_at most_nested false ws ≡ good (record { value = t; rest = us }))
ReadsAs ws (of_term e) = (us : List Word) × (term_at most_nested ws ≡ good (record { value = e; rest = us }))

-- .. of each clause
abbrev pub AllRead : List (List Word) → List Clause → Type 0
AllRead bodies [] = Unit {0}
AllRead [] (c ∷ cs) = ⊥
AllRead (ws ∷ bodies) (c ∷ cs) = ReadsAs ws c.body × AllRead bodies cs

-- ---- the bodies of a text

-- behind a head and `=`
abbrev pub body_from : List Word → Answer (List Word)
body_from ws = do
  x ← name_at ws
  ts ← parameters_at x.rest
  ks ← numbers_at ts.rest
  expect equals ks.rest

-- .. of each clause among the items
abbrev pub bodies_from : ℕ → List Word → Answer (List (List Word))
bodies_from zero ws = good []
bodies_from (suc rounds) ws = cond (is ends ws) (good []) (cond (is table ws) (do
  ts ← list_from (λ us. type_at most_nested false us) (length ws) (behind ws)
  bodies_from rounds ts.rest) (do
    us ← cond (is type ws) (body_from (behind ws)) (body_from ws)
    c ← cond (is type ws) (clause_at type_body (behind ws)) (clause_at term_body ws)
    bodies ← bodies_from rounds c.rest
    good (us ∷ bodies)))

unfoldable pub bodies_of : List Word → Answer (List (List Word))
bodies_of ws = do
  E ← edition_at ws
  bodies_from (length ws) E.rest
