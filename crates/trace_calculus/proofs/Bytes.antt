-- A bit, written and read. Assumes nothing.
use mathlib.Core.Path.{◌≡◌, refl}
use mathlib.Core.Bool.{Bool, true, false}
use lib.Dec.{eqb}
use Rattle.trace_calculus.specs.Trace.{bit_byte_lem}

pub byte-bit : (b : Bool) → eqb (bit_byte_lem b) 1 ≡ b
byte-bit true = refl
byte-bit false = refl
