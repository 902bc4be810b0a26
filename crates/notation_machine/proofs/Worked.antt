-- The machines, run over texts with known results. Assumes nothing.
use mathlib.Core.Path.{◌≡◌, refl}
use mathlib.Core.List.{map}
use Rattle.calculus.specs.Write.{record_bytes, sheet_bytes}
use Rattle.notation_calculus.specs.Words.{reserved, signs, word_at, words}
use Rattle.notation_calculus.specs.Grammar.{text_of}
use Rattle.notation_calculus.specs.Making.{listed, node}
use Rattle.notation_calculus.specs.Make.{main_name}
use Rattle.notation_calculus.specs.Samples.{Row, samples, generics, refusals}
use Rattle.notation_machine.specs.Bodies.{bodies_of}
use Rattle.notation_machine.specs.TypeFrom.{type_from, types_from}
use Rattle.notation_machine.specs.Worked.{TypeRow, type_run, type_rows, machine_made}

pub worked_types : map type_run type_rows ≡ map (λ (r : TypeRow). r.result) type_rows
unfolding type_rows type_run bodies_of text_of words word_at reserved signs listed
worked_types = refl

pub worked_samples : map machine_made samples ≡ map (λ (r : Row). r.result) samples
unfolding samples machine_made bodies_of type_from types_from main_name text_of words word_at reserved signs listed node record_bytes sheet_bytes
worked_samples = refl

pub worked_generics : map machine_made generics ≡ map (λ (r : Row). r.result) generics
unfolding generics machine_made bodies_of type_from types_from main_name text_of words word_at reserved signs listed node record_bytes sheet_bytes
worked_generics = refl

pub worked_refusals : map machine_made refusals ≡ map (λ (r : Row). r.result) refusals
unfolding refusals machine_made bodies_of type_from types_from main_name text_of words word_at reserved signs listed node record_bytes sheet_bytes
worked_refusals = refl
