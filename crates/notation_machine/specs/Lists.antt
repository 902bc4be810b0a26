-- A list of names and lists in parentheses, as the code passes over it: word by word, without trees. Assumes nothing.
-- `lists_read` (proofs/Lists) says that for words that the grammar reads these are the lists that `lists_at` reads.
use Rattle.std.specs.Prelude.{ℕ, zero, suc, Bool, ◌||◌, cond, List, [], ◌∷◌}
use Rattle.calculus.specs.Answer.{Answer}
use Rattle.notation_calculus.specs.Words.{ends, round, endRound, comma, Word}
use Rattle.notation_calculus.specs.Trees.{Bound}
use Rattle.notation_calculus.specs.Grammar.{Got, got, behind, place, is, is_name, name_at, nameless}

-- the words behind so many lists that are open; the end is never passed
abbrev pub behind_lists : ℕ → List Word → List Word
behind_lists deep [] = []
behind_lists zero (w ∷ ws) = w ∷ ws
behind_lists (suc deep) (w ∷ ws) = cond (is ends (w ∷ [])) (w ∷ ws) (cond (is round (w ∷ [])) (behind_lists (suc (suc deep)) ws) (cond (is endRound (w ∷ [])) (behind_lists deep ws) (behind_lists (suc deep) ws)))

-- one of a list: a name, or a list under its nameless variable, which is passed over
abbrev pub head_at : List Word → Answer (Got Bound)
head_at ws = cond (is round ws) (got (nameless (place ws)) (behind_lists 1 (behind ws))) (name_at ws)

-- what stands in lists besides an opening parenthesis
abbrev pub in_lists : Word → Bool
in_lists w = is_name w.token || (is comma (w ∷ []) || is endRound (w ∷ []))

-- the words from the next list on; or from the word on that stands in no list
abbrev pub next_list : List Word → List Word
next_list [] = []
next_list (w ∷ ws) = cond (in_lists w) (next_list ws) (w ∷ ws)

-- how many lists begin before that
abbrev pub list_count : List Word → ℕ
list_count [] = 0
list_count (w ∷ ws) = cond (is round (w ∷ [])) (suc (list_count ws)) (cond (in_lists w) (list_count ws) 0)
