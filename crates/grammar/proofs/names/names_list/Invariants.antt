-- `grammar::names_list` meets its contract. The invariant: the rounds that are left read what is left of the list. Assumes nothing.
use Prim.Native.Nat.{ℕ, ◌<◌}
use lib.ListN.{length}
use Rattle.words.specs.Lexed.{from}
use Rattle.grammar.specs.Skips.{expect_code, name_end, list_more, names_list}
use Rattle.grammar.proofs.LoopLaws.{Loops}
use Rattle.grammar.proofs.names.names_list.Given as goal
use Rattle.std.proofs.Common.{Ok}

abbrev pub invariant-loop-c : goal.invariant-loop-c
invariant-loop-c l = (n : ℕ) → length (from l.text l.at) < n → Loops l.text (list_more name_end) (λ us. expect_code l.closes us) (names_list l.closes n (from l.text l.at)) (length (from l.text l.at)) (Ok l.x)

abbrev pub decreases-loop-c : goal.decreases-loop-c
decreases-loop-c l = length (from l.text l.x)
