-- One record behind those that were read, by the table. Assumes nothing.
use Rattle.std.specs.Prelude.{ℕ, ◌+◌, Bool, cond, List, leb, eqb, Result, Ok, Err}
use Rattle.std.proofs.lemmas.List.Edits.{sets}
use Rattle.calculus.specs.Terms.{part_at}
use Rattle.calculus.specs.Net.{point, part, Item, element, wire, pin}
use Rattle.answers.specs.Refusals.{reason_number}
use Rattle.answers.specs.declared.Reason.{Reason}
use Rattle.foreign_calculus.specs.Foreign.{starts}
use Rattle.foreign.specs.Table.{cells_of, cell_at, driven}
use Rattle.foreign.specs.declared.take.Stage.{Stage}
use Rattle.foreign.specs.declared.take.Stage.TheVariants as stage
use Rattle.foreign.specs.declared.take.State.{State}

abbrev pub stage_of : Stage → ℕ
stage_of stage.Elements = 0
stage_of stage.Wires = 1
stage_of stage.Pins = 2

-- how far the records came, the first terminal above those taken, and the table; or a refusal's number
pub data Took : Type 0 where
  next : ℕ → ℕ → List ℕ → Took
  wrong : ℕ → List ℕ → Took

abbrev pub said_taken : Result State Reason → List ℕ → Took
said_taken (Ok t) w = next (stage_of t.stage) t.next w
said_taken (Err reason) w = wrong (reason_number reason) w

-- an element of k inputs from i on
abbrev pub took_element : Bool → ℕ → ℕ → ℕ → ℕ → List ℕ → Took
took_element lean stage n i k w =
    cond (eqb stage 0)
    (cond (starts lean i n) (cond (leb (i + k + 1) 8192) (next 0 (i + k + 1) (sets w i (cells_of k))) (wrong 22 w)) (wrong 22 w)) (wrong 21 w)

abbrev pub took_wire : ℕ → ℕ → ℕ → ℕ → List ℕ → Took
took_wire stage n from to w =
    cond (leb stage 1)
    (cond (eqb (cell_at w from) 4) (cond (eqb (cell_at w to) 0) (wrong 22 w) (cond (eqb (cell_at w to) 4) (wrong 22 w) (next 1 n (driven w to)))) (wrong 22 w)) (wrong 21 w)

abbrev pub took_pin : ℕ → ℕ → List ℕ → Took
took_pin n t w = cond (eqb (cell_at w t) 0) (wrong 22 w) (next 2 n (cond (eqb (cell_at w t) 4) w (driven w t)))

abbrev pub took : Bool → ℕ → ℕ → Item → List ℕ → Took
took lean stage n (element (point i)) w = took_element lean stage n i 1 w
took lean stage n (element (part p i)) w = took_element lean stage n i (part_at p).inputs w
took lean stage n (wire x) w = took_wire stage n x.from x.to w
took lean stage n (pin t) w = took_pin n t w
