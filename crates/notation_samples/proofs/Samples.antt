-- The definitions, run over larger texts with known results: limits, sorters, and the texts of examples/. Assumes nothing.
use Prim.Native.Nat.{ℕ}
use mathlib.Core.Path.{◌≡◌, refl}
use mathlib.Core.List.{List, map}
use Rattle.calculus.specs.Answer.{Answer, good, ◌>>=◌}
use Rattle.calculus.specs.Write.{record_bytes, sheet_bytes}
use Rattle.notation_calculus.specs.Words.{reserved, signs, word_at, words}
use Rattle.notation_calculus.specs.Grammar.{text_of}
use Rattle.notation_calculus.specs.Making.{listed, node}
use Rattle.notation_calculus.specs.Make.{main_name, main_of, sheet_of, make, bytes_of}
use Rattle.notation_calculus.specs.Show.{show}
use Rattle.notation_calculus.specs.Samples.{Row, made_of}
use Rattle.notation_samples.proofs.Quick.{quick_make, quickly_made, made_are}
use Rattle.notation_samples.specs.Limits.{limits, wide, waits, costs, sorters}
use Rattle.notation_samples.specs.Examples.{examples, large_examples}

pub known-limits : map made_of limits ≡ map (λ (r : Row). r.result) limits
unfolding limits made_of make sheet_of main_of main_name text_of words word_at reserved signs listed node record_bytes sheet_bytes
known-limits = refl

pub known-wide : map made_of wide ≡ map (λ (r : Row). r.result) wide
unfolding wide quickly_made quick_make sheet_of main_of main_name text_of words word_at reserved signs listed node record_bytes sheet_bytes
known-wide = made_are wide

pub known-waits : map made_of waits ≡ map (λ (r : Row). r.result) waits
unfolding waits quickly_made quick_make sheet_of main_of main_name text_of words word_at reserved signs listed node record_bytes sheet_bytes
known-waits = made_are waits

pub known-costs : map made_of costs ≡ map (λ (r : Row). r.result) costs
unfolding costs made_of make sheet_of main_of main_name text_of words word_at reserved signs listed node record_bytes sheet_bytes
known-costs = refl

pub known-sorters : map made_of sorters ≡ map (λ (r : Row). r.result) sorters
unfolding sorters quickly_made quick_make sheet_of main_of main_name text_of words word_at reserved signs listed node record_bytes sheet_bytes
known-sorters = made_are sorters

-- .. and over the texts of examples/
pub known-examples : map made_of examples ≡ map (λ (r : Row). r.result) examples
unfolding examples made_of make sheet_of main_of main_name text_of words word_at reserved signs listed node record_bytes sheet_bytes
known-examples = refl

pub known_large : map made_of large_examples ≡ map (λ (r : Row). r.result) large_examples
unfolding large_examples quickly_made quick_make sheet_of main_of main_name text_of words word_at reserved signs listed node record_bytes sheet_bytes
known_large = made_are large_examples

-- the text of the sheet that was made, made again
unfoldable pub made_again : Row → Answer (List ℕ)
made_again r = do
  m ← make r.text
  n ← make (show m.sheet)
  good (bytes_of n.sheet)

-- `show` and `make` give each of them back
pub examples-again : map made_again examples ≡ map (λ (r : Row). r.result) examples
unfolding examples made_again show make sheet_of main_of main_name text_of words word_at reserved signs listed node record_bytes sheet_bytes
examples-again = refl
