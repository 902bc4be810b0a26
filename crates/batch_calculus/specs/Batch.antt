-- Sheets laid end to end (document 02, L10): what a call over all of them leaves, by the calls made one by one. Assumes nothing.
use Rattle.std.specs.Prelude.{ℕ, ◌+◌, Bool, cond, ◌&&◌, List, [], ◌∷◌, ◌++◌, map, leb, eqb, length, take, drop}
use Rattle.calculus.specs.Answer.{Answer, good, refused, refuse}
use Rattle.export_calculus.specs.CardCall.{Wished, wished_call}
use Rattle.answers.specs.Word.{packed}

-- the bytes of its output that a call used: a refused sheet uses none
abbrev pub used_by : Answer ℕ → ℕ
used_by (good n) = n
used_by (refused why) = 0

-- what calls made one by one say and leave, and how much of the output they used
pub record CallsMade : Type 0 where
  pub said : List (Answer ℕ)
  pub used : ℕ
  pub out : List ℕ
  pub work : List ℕ

-- "the calls made one by one, each with the output that the earlier ones left unused"; the working memory goes from one to the next
abbrev pub one_by_one : Wished → List ℕ → List ℕ → List ℕ → List ℕ → CallsMade
one_by_one w s [] out work = record { said = []; used = 0; out = out; work = work }
one_by_one w s (n ∷ ns) out work =
    let c = wished_call w (take n s) out work in
    let k = used_by c.said in
    let r = one_by_one w (drop n s) ns (drop k c.out) c.work in
    record { said = c.said ∷ r.said; used = k + r.used; out = take k c.out ++ r.out; work = r.work }

abbrev pub sum : List ℕ → ℕ
sum [] = 0
sum (n ∷ ns) = n + sum ns

-- the lengths add up to the bytes lent, and there is room for a result of each sheet
abbrev pub add_up : List ℕ → List ℕ → Bool
add_up s lengths = eqb (sum lengths) (length s)

abbrev pub have_room : List ℕ → List ℕ → Bool
have_room lengths results = leb (length lengths) (length results)

-- what a call over sheets laid end to end leaves; it says how much of the output was used
pub record Batch : Type 0 where
  pub said : Answer ℕ
  pub out : List ℕ
  pub results : List ℕ
  pub work : List ℕ

-- result places past the last sheet stay
abbrev pub of_row : List ℕ → CallsMade → Batch
of_row results r = record { said = good r.used; out = r.out; results = map packed r.said ++ drop (length r.said) results; work = r.work }

-- 24 before any sheet is looked at: nothing is written, and the working memory is untouched too
unfoldable pub batch_call : Wished → List ℕ → List ℕ → List ℕ → List ℕ → List ℕ → Batch
batch_call w s lengths out results work =
    cond (have_room lengths results && add_up s lengths) (of_row results (one_by_one w s lengths out work)) (record { said = refuse 24 0; out = out; results = results; work = work })
