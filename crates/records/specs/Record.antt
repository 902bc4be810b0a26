-- What a kind byte fixes, and what stands at an offset of a sheet (document 01, "The sheet"; document 02, L7). Assumes nothing.
use Rattle.std.specs.Prelude.{ℕ, ◌+◌, ◌-◌, List, [], ◌∷◌, ◌++◌, Bool, true, cond, Option, Some, None, Result, Ok, Err, length, get_or, take, drop, replicate, leb}
use Rattle.answers.specs.declared.Reason.{Reason}
use Rattle.answers.specs.declared.Refusal.{Refusal}
use Rattle.answers.specs.Refusals.{refusal_at}
use Rattle.records.specs.declared.TypeRule.{TypeRule}
use Rattle.records.specs.declared.TypeRule.TheVariants as of_type
use Rattle.records.specs.declared.Rule.TheVariants as rule
use Rattle.records.specs.declared.Shape.{Shape}
use Rattle.records.specs.declared.Shape.TheVariants as shape
use Rattle.records.specs.declared.Form.{Form}
use Rattle.records.specs.declared.Form.TheVariants as form
use Rattle.records.specs.declared.Node.{Node}
use Rattle.records.specs.declared.Record.{Record}
use Rattle.records.specs.declared.Record.TheVariants as rec

-- the table of kinds, from 00 to 1B: body, subterms, rule
abbrev pub shapes : List (Option Shape)
shapes =
    None ∷ Some (shape.Type 0 of_type.Bit) ∷ Some (shape.Type 2 of_type.Product) ∷ Some (shape.Type 2 of_type.Arrow) ∷ Some (shape.Type 2 of_type.Linear)
    ∷ replicate 12 None
    ++ Some (shape.Node 1 0 rule.Variable) ∷ Some (shape.Node 1 0 rule.LinearVariable) ∷ Some (shape.Node 1 1 rule.Function) ∷ Some (shape.Node 0 2 rule.Application)
    ∷ Some (shape.Node 1 1 rule.LinearFunction) ∷ Some (shape.Node 0 2 rule.LinearApplication) ∷ Some (shape.Node 1 2 rule.Pair) ∷ Some (shape.Node 0 2 rule.Projection)
    ∷ Some (shape.Node 1 1 rule.FixedPoint) ∷ Some (shape.Node 2 0 rule.Constant) ∷ Some (shape.Node 0 2 rule.Naming) ∷ []

unfoldable pub shape_of : ℕ → Option Shape
shape_of k = get_or shapes k None

abbrev pub form_of : TypeRule → ℕ → ℕ → Form
form_of of_type.Bit a b = form.Bit
form_of of_type.Product a b = form.Product a b
form_of of_type.Arrow a b = form.Arrow a b
form_of of_type.Linear a b = form.Linear a b

-- the body's byte j, or 0
abbrev pub body_at : List ℕ → ℕ → ℕ → ℕ → ℕ
body_at s from n j = get_or (take n (drop from s)) j 0

-- a refusal at an offset
abbrev pub no_record : Reason → ℕ → Result Record Refusal
no_record why at = Err (refusal_at why at)

-- inside the term no type's kind is known
abbrev pub record_of_lem : Bool → Option Shape → List ℕ → ℕ → Result Record Refusal
record_of_lem term (Some (shape.Type n u)) s at =
    cond term (no_record Reason.UnknownKind at)
    (cond (leb n (length s - (at + 1)))
    (Ok (rec.Type (form_of u (body_at s (at + 1) n 0) (body_at s (at + 1) n 1)) (at + 1 + n)))
    (no_record Reason.CutShort at))
record_of_lem term (Some (shape.Node n m u)) s at =
    cond (leb n (length s - (at + 1)))
    (Ok (rec.Node (record { rule = u; first = body_at s (at + 1) n 0; second = body_at s (at + 1) n 1; subterms = m; next = at + 1 + n })))
    (no_record Reason.CutShort at)
record_of_lem term None s at = no_record Reason.UnknownKind at

unfoldable pub record_at : Bool → List ℕ → ℕ → Result Record Refusal
record_at term s at = cond (leb (length s) at) (no_record Reason.CutShort at) (record_of_lem term (shape_of (get_or s at 0)) s at)

-- a node of zeros, where none stands
abbrev pub no_node : Node
no_node = record { rule = rule.Variable; first = 0; second = 0; subterms = 0; next = 0 }

abbrev pub node_in_lem : Result Record Refusal → Node
node_in_lem (Ok (rec.Type f next)) = no_node
node_in_lem (Ok (rec.Node n)) = n
node_in_lem (Err why) = no_node

unfoldable pub node_at : List ℕ → ℕ → Node
node_at s at = node_in_lem (record_at true s at)
