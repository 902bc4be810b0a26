-- Which rule a node's is. Assumes nothing.
use Rattle.std.specs.Prelude.{Bool, true, false}
use Rattle.records.specs.declared.Rule.{Rule}
use Rattle.records.specs.declared.Rule.TheVariants as rule

abbrev pub is_linear_function : Rule → Bool
is_linear_function rule.Variable = false
is_linear_function rule.LinearVariable = false
is_linear_function rule.Function = false
is_linear_function rule.Application = false
is_linear_function rule.LinearFunction = true
is_linear_function rule.LinearApplication = false
is_linear_function rule.Pair = false
is_linear_function rule.Projection = false
is_linear_function rule.FixedPoint = false
is_linear_function rule.Constant = false
is_linear_function rule.Naming = false

abbrev pub is_pair : Rule → Bool
is_pair rule.Variable = false
is_pair rule.LinearVariable = false
is_pair rule.Function = false
is_pair rule.Application = false
is_pair rule.LinearFunction = false
is_pair rule.LinearApplication = false
is_pair rule.Pair = true
is_pair rule.Projection = false
is_pair rule.FixedPoint = false
is_pair rule.Constant = false
is_pair rule.Naming = false

abbrev pub is_projection : Rule → Bool
is_projection rule.Variable = false
is_projection rule.LinearVariable = false
is_projection rule.Function = false
is_projection rule.Application = false
is_projection rule.LinearFunction = false
is_projection rule.LinearApplication = false
is_projection rule.Pair = false
is_projection rule.Projection = true
is_projection rule.FixedPoint = false
is_projection rule.Constant = false
is_projection rule.Naming = false

abbrev pub is_fixed_point : Rule → Bool
is_fixed_point rule.Variable = false
is_fixed_point rule.LinearVariable = false
is_fixed_point rule.Function = false
is_fixed_point rule.Application = false
is_fixed_point rule.LinearFunction = false
is_fixed_point rule.LinearApplication = false
is_fixed_point rule.Pair = false
is_fixed_point rule.Projection = false
is_fixed_point rule.FixedPoint = true
is_fixed_point rule.Constant = false
is_fixed_point rule.Naming = false

abbrev pub is_constant : Rule → Bool
is_constant rule.Variable = false
is_constant rule.LinearVariable = false
is_constant rule.Function = false
is_constant rule.Application = false
is_constant rule.LinearFunction = false
is_constant rule.LinearApplication = false
is_constant rule.Pair = false
is_constant rule.Projection = false
is_constant rule.FixedPoint = false
is_constant rule.Constant = true
is_constant rule.Naming = false

abbrev pub is_naming : Rule → Bool
is_naming rule.Variable = false
is_naming rule.LinearVariable = false
is_naming rule.Function = false
is_naming rule.Application = false
is_naming rule.LinearFunction = false
is_naming rule.LinearApplication = false
is_naming rule.Pair = false
is_naming rule.Projection = false
is_naming rule.FixedPoint = false
is_naming rule.Constant = false
is_naming rule.Naming = true
