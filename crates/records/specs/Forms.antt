-- A sheet whose types have been read is its own table of types: type 0 is one byte, every other three. Assumes nothing.
use Rattle.std.specs.Prelude.{ℕ, zero, suc, ◌+◌, ◌*◌, cond, List, length, get_or, ltb, eqb}
use Rattle.calculus.specs.Types.{TyRec, rec01, rec02, rec03, rec04}
use Rattle.records.specs.declared.Form.{Form}
use Rattle.records.specs.declared.Form.TheVariants as form

abbrev pub said_form : Form → TyRec
said_form form.Bit = rec01
said_form (form.Product a b) = rec02 a b
said_form (form.Arrow a b) = rec03 a b
said_form (form.Linear a b) = rec04 a b

-- the record of kind k with type numbers a and b
abbrev pub rec_of : ℕ → ℕ → ℕ → TyRec
rec_of k a b = cond (eqb k 0x02) (rec02 a b) (cond (eqb k 0x03) (rec03 a b) (cond (eqb k 0x04) (rec04 a b) rec01))

abbrev pub rec_from : List ℕ → ℕ → TyRec
rec_from s at = cond (ltb (length s) (at + 3)) rec01 (rec_of (get_or s at 0) (get_or s (at + 1) 0) (get_or s (at + 2) 0))

-- type t's record stands at offset 0 for t = 0, and at 3 t - 2 above
unfoldable pub rec_in : List ℕ → ℕ → TyRec
rec_in s zero = rec01
rec_in s (suc t) = rec_from s (3 * t + 1)
