-- What a call over sheets laid end to end promises, of each sheet by itself (document 02, L10). Assumes nothing.
use Rattle.std.specs.Prelude.{ℕ, suc, ◌+◌, ◌<◌, ◌≡◌, List, [], ◌++◌, length, get_or, take, drop}
use Rattle.calculus.specs.Answer.{good}
use Rattle.calculus.specs.Translate.{work_of, Call}
use Rattle.export_calculus.specs.CardCall.{Wished, wished_call}
use Rattle.answers.specs.Word.{packed}
use Rattle.translation_calculus.specs.Demands.{Circuit}
use Rattle.batch_calculus.specs.Batch.{used_by, sum, Batch}

-- sheet i: it begins where the earlier ones end
abbrev pub sheet_at : List ℕ → List ℕ → ℕ → List ℕ
sheet_at s lengths i = take (get_or lengths i 0) (drop (sum (take i lengths)) s)

-- its own call, where the earlier ones used so many bytes of the output
abbrev pub call_at : Wished → List ℕ → List ℕ → List ℕ → List ℕ → ℕ → ℕ → Call
call_at w s lengths out work used i = wished_call w (sheet_at s lengths i) (drop used out) work

-- results and output are those of the sheets' own calls; `used i` bytes of the output are used before sheet i
pub record AsCalls (w : Wished) (s lengths out results work : List ℕ) (b : Batch) : Type 0 where
  pub used : ℕ → ℕ
  pub none_used : used 0 ≡ 0
  -- a refused sheet uses none
  pub next_used : (i : ℕ) → i < length lengths → used (suc i) ≡ used i + used_by (call_at w s lengths out work (used i) i).said
  pub all_used : b.said ≡ good (used (length lengths))
  -- whatever the others come to, each sheet has its own result
  pub result : (i : ℕ) → i < length lengths → get_or b.results i 0 ≡ packed (call_at w s lengths out work (used i) i).said
  pub later_results : drop (length lengths) b.results ≡ drop (length lengths) results
  -- and its own bytes
  pub bytes : (i : ℕ) → i < length lengths
      → let c = call_at w s lengths out work (used i) i in take (used_by c.said) (drop (used i) b.out) ≡ take (used_by c.said) c.out
  pub later_bytes : drop (used (length lengths)) b.out ≡ drop (used (length lengths)) out
  -- the working memory is as a call leaves it; an empty list changes none
  pub memory : (0 < length lengths) → b.work ≡ work_of work
  pub no_sheets : lengths ≡ [] → b.work ≡ work

-- demand 3 holds for each accepted sheet alone
pub record EachCircuit (w : Wished) (s lengths out work : List ℕ) (used : ℕ → ℕ) (b : Batch) : Type 1 where
  pub circuit : (i n : ℕ) → i < length lengths → (call_at w s lengths out work (used i) i).said ≡ good n
      → Circuit w.wish (sheet_at s lengths i) (drop (used i) out) n (take n (drop (used i) b.out) ++ drop n (drop (used i) out))
