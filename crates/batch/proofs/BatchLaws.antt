-- What a call over sheets laid end to end leaves, by its two tests. Assumes nothing.
use Prim.Native.Nat.{ℕ, ◌≤◌, ◌<◌}
use mathlib.Core.Path.{◌≡◌}
use mathlib.Core.Bool.{true, false}
use mathlib.Core.List.{List}
use lib.ListN.{length}
use borrow.Author.Tests.{lt-leb, le-leb}
use Rattle.calculus.specs.Answer.{refuse}
use Rattle.export_calculus.specs.CardCall.{Wished}
use Rattle.batch_calculus.specs.Batch.{one_by_one, add_up, Batch, of_row, batch_call}

module _ (w : Wished) (s lengths out results work : List ℕ) where
  abbrev untouched : Batch
  untouched = record { said = refuse 24 0; out = out; results = results; work = work }

  pub no_room : length results < length lengths → batch_call w s lengths out results work ≡ untouched
  unfolding batch_call
  no_room h = rw (lt-leb (length lengths) (length results) h)

  pub no_sum : length lengths ≤ length results → add_up s lengths ≡ false → batch_call w s lengths out results work ≡ untouched
  unfolding batch_call
  no_sum h e = rw (le-leb (length lengths) (length results) h, e)

  pub fitting : length lengths ≤ length results → add_up s lengths ≡ true → batch_call w s lengths out results work ≡ of_row results (one_by_one w s lengths out work)
  unfolding batch_call
  fitting h e = rw (le-leb (length lengths) (length results) h, e)
