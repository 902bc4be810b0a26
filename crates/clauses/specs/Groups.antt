-- Parameters in brackets behind a name, read again where the grammar has read them once: how many, what stands behind them, and each of them.
-- Assumes nothing.
use Rattle.std.specs.Prelude.{ℕ, zero, suc, ◌+◌, ◌≤◌, ◌≡◌, Bool, ◌||◌, cond, List, [], ◌∷◌, eqb, length}
use Rattle.calculus.specs.Answer.{Answer, good, refused}
use Rattle.notation_calculus.specs.Words.{Word}
use Rattle.notation_calculus.specs.Grammar.{Got, got, peek, behind}
use Rattle.words.specs.Tables.{token_code}
use Rattle.words.specs.Lexed.{from, Lexed}
use Rattle.grammar.specs.Skips.{closes_group}
use Rattle.clauses.specs.declared.groups.Group.{Group}

abbrev pub code_at : List Word → ℕ
code_at ws = token_code (peek ws).token

-- a word that ends a group: a closing bracket, or the text's end
abbrev pub leaves_group : ℕ → Bool
leaves_group c = eqb c 0 || closes_group c

-- a comma counts one more
abbrev pub counted_by : ℕ → ℕ → ℕ
counted_by c n = cond (eqb c 14) (n + 1) n

-- in a group of one or more: one, and one more for each comma
abbrev pub count_in : List Word → ℕ
count_in [] = 1
count_in (w ∷ ws) =
    let others = count_in ws in
    cond (leaves_group (token_code w.token)) 1 (cond (eqb (token_code w.token) 14) (suc others) others)

-- .. and the words behind the closing bracket
abbrev pub past_in : List Word → List Word
past_in [] = []
past_in (w ∷ ws) =
    let others = past_in ws in
    cond (eqb (token_code w.token) 0) (w ∷ ws) (cond (closes_group (token_code w.token)) ws others)

-- a group that opens with the sign of a code, or none
unfoldable pub group_count : ℕ → List Word → ℕ
group_count opens ws = cond (eqb opens (code_at ws)) (count_in (behind ws)) 0

unfoldable pub group_past : ℕ → List Word → List Word
group_past opens ws = cond (eqb opens (code_at ws)) (past_in (behind ws)) ws

-- what the code says of a group: its count, which is no more than the text is long, and the offset behind it
pub record GroupRead (text : List ℕ) (at opens : ℕ) (g : Group) : Type 0 where
  pub counted : g.count ≡ group_count opens (from text at)
  pub past : from text g.end ≡ group_past opens (from text at)
  pub few : g.count ≤ length text
  pub lexed : Lexed text g.end

-- ---- each of them

-- what was read, or else; and the words behind it
abbrev pub value_in : {A : Type 0} → A → Answer (Got A) → A
value_in else (good g) = g.value
value_in else (refused why) = else

abbrev pub rest_in_lem : {A : Type 0} → Answer (Got A) → List Word
rest_in_lem (good g) = g.rest
rest_in_lem (refused why) = []

-- so many of a list, each behind one word: the opening bracket or a comma
abbrev pub list_in : {A : Type 0} → A → (List Word → Answer (Got A)) → ℕ → List Word → List A
list_in else read zero ws = []
list_in else read (suc n) ws = value_in else (read (behind ws)) ∷ list_in else read n (rest_in_lem (read (behind ws)))

-- .. all of which are read
abbrev pub Readable : {A : Type 0} → A → (List Word → Answer (Got A)) → ℕ → List Word → Type 0
Readable else read zero ws = Unit {0}
Readable else read (suc n) ws = (read (behind ws) ≡ got (value_in else (read (behind ws))) (rest_in_lem (read (behind ws)))) × Readable else read n (rest_in_lem (read (behind ws)))
