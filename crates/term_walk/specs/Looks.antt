-- The words from an offset of a walk on. The machine passes words without looking at them, so an offset may be behind the text's end,
-- where no words are left. Assumes nothing.
use Rattle.std.specs.Prelude.{ℕ, ◌≤◌, ◌<◌, ◌≡◌, true, false, cond, List, [], leb, length, drop}
use Rattle.notation_calculus.specs.Words.{name, run}
use Rattle.notation_calculus.specs.Words as Words
use Rattle.notation_calculus.specs.Trees.{Clause}
use Rattle.notation_calculus.specs.Grammar.{peek, behind, place, begins_atom}
use Rattle.words.specs.Tables.{token_code, token_value}
use Rattle.words.specs.Next.{run_at}
use Rattle.words.specs.Lexed.{from, Lexed}
use Rattle.words.specs.declared.Word.{Word}
use Rattle.making_memory.specs.Map.{making_size}
use Rattle.clauses.specs.Rows.{HoldsRows}

unfoldable pub words_at : List ℕ → ℕ → List Words.Word
words_at text at = cond (leb at (length text)) (from text at) []

-- an offset of the text, from which on all words are good, or one behind its end
abbrev pub ReadableFrom : List ℕ → ℕ → Type 0
ReadableFrom text at = at ≤ length text → Lexed text at

-- the memory holds the table of some clauses of the text
pub record HeadsHeld (text w : List ℕ) : Type 0 where
  pub clauses : List Clause
  pub room : making_size ≤ length w
  pub rows : HoldsRows text w clauses

-- the first of the words from an offset on
pub record Looks (text : List ℕ) (at : ℕ) (w : Word) : Type 0 where
  pub code : w.kind ≡ token_code (peek (words_at text at)).token
  pub value : w.value ≡ token_value (peek (words_at text at)).token
  pub place : w.start ≡ place (words_at text at)
  pub inside : w.start ≤ length text
  pub rest : behind (words_at text at) ≡ words_at text w.end
  pub readable : ReadableFrom text w.end
  pub onward : ¬ (w.kind ≡ 0) → Lexed text w.end
  pub fewer : ¬ (w.kind ≡ 0) → length (behind (words_at text at)) < length (words_at text at)
  pub named : w.kind ≡ 24 → (peek (words_at text at)).token ≡ name (run_at text w.start)
  pub long : w.kind ≡ 24 → 0 < run (drop w.start text)

-- the first of the words from an offset on, where an atom begins; and no word where none does
pub record AtomWord (text : List ℕ) (at : ℕ) (w : Word) : Type 0 where
  pub none : w.kind ≡ 0 → begins_atom (words_at text at) ≡ false
  pub begins : ¬ (w.kind ≡ 0) → begins_atom (words_at text at) ≡ true
  pub first : ¬ (w.kind ≡ 0) → Looks text at w
