-- What a function that writes text leaves: the offset past the text, and the text in its place. Assumes nothing.
use Rattle.std.specs.Prelude.{ℕ, ◌+◌, ◌≡◌, List, length}
use Rattle.std.proofs.lemmas.List.Edits.{sets}

pub record WroteText (before : List ℕ) (at : ℕ) (text : List ℕ) (after : List ℕ) (end : ℕ) : Type 0 where
  pub offset : end ≡ at + length text
  pub bytes : after ≡ sets before at text
