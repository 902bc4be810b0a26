-- The definitions, run over texts with known results. Assumes nothing.
use mathlib.Core.Path.{◌≡◌, refl}
use mathlib.Core.List.{map}
use Rattle.calculus.specs.Write.{record_bytes, sheet_bytes}
use Rattle.notation_calculus.specs.Words.{reserved, signs, word_at, words}
use Rattle.notation_calculus.specs.Grammar.{text_of}
use Rattle.notation_calculus.specs.Making.{listed, node}
use Rattle.notation_calculus.specs.Make.{main_name, main_of, sheet_of, make, make_answer}
use Rattle.notation_calculus.specs.Samples.{Row, made_of, samples, generics, refusals, calls, call_results}

pub known-samples : map made_of samples ≡ map (λ (r : Row). r.result) samples
unfolding samples made_of make sheet_of main_of main_name text_of words word_at reserved signs listed node record_bytes sheet_bytes
known-samples = refl

pub known-generics : map made_of generics ≡ map (λ (r : Row). r.result) generics
unfolding generics made_of make sheet_of main_of main_name text_of words word_at reserved signs listed node record_bytes sheet_bytes
known-generics = refl

pub known-refusals : map made_of refusals ≡ map (λ (r : Row). r.result) refusals
unfolding refusals made_of make sheet_of main_of main_name text_of words word_at reserved signs listed node record_bytes sheet_bytes
known-refusals = refl

pub known-calls : calls ≡ call_results
unfolding calls call_results make_answer make sheet_of main_of main_name text_of words word_at reserved signs listed node record_bytes sheet_bytes
known-calls = refl
