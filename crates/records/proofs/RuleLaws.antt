-- Which rule a node's is, by the tags that a match on it leaves. Assumes nothing.
use Prim.Native.Nat.{ℕ}
use mathlib.Core.Bool.{false}
use mathlib.Core.Path.{◌≡◌, refl}
use mathlib.Core.List.{List, [], ◌∷◌}
use denote.Enum.Declared.{tag_of}
use types.Run.{OneOf, miss}
use Rattle.records.specs.Rules.{is_linear_function, is_pair, is_projection, is_fixed_point, is_constant, is_naming}
use Rattle.records.specs.declared.Rule.{Rule}
use Rattle.records.specs.declared.Rule.TheVariants as rule
use Rattle.records.specs.contracts.Rule.{the_type}

abbrev but_linear_function : List ℕ
but_linear_function = 0 ∷ 1 ∷ 2 ∷ 3 ∷ 5 ∷ 6 ∷ 7 ∷ 8 ∷ 9 ∷ 10 ∷ []

pub not_linear_function : (u : Rule) → OneOf but_linear_function (tag_of the_type u) → is_linear_function u ≡ false
not_linear_function rule.Variable o = refl
not_linear_function rule.LinearVariable o = refl
not_linear_function rule.Function o = refl
not_linear_function rule.Application o = refl
not_linear_function rule.LinearFunction o = absurd (miss but_linear_function 4 tt o)
not_linear_function rule.LinearApplication o = refl
not_linear_function rule.Pair o = refl
not_linear_function rule.Projection o = refl
not_linear_function rule.FixedPoint o = refl
not_linear_function rule.Constant o = refl
not_linear_function rule.Naming o = refl

abbrev but_pair : List ℕ
but_pair = 0 ∷ 1 ∷ 2 ∷ 3 ∷ 4 ∷ 5 ∷ 7 ∷ 8 ∷ 9 ∷ 10 ∷ []

pub not_pair : (u : Rule) → OneOf but_pair (tag_of the_type u) → is_pair u ≡ false
not_pair rule.Variable o = refl
not_pair rule.LinearVariable o = refl
not_pair rule.Function o = refl
not_pair rule.Application o = refl
not_pair rule.LinearFunction o = refl
not_pair rule.LinearApplication o = refl
not_pair rule.Pair o = absurd (miss but_pair 6 tt o)
not_pair rule.Projection o = refl
not_pair rule.FixedPoint o = refl
not_pair rule.Constant o = refl
not_pair rule.Naming o = refl

abbrev but_projection : List ℕ
but_projection = 0 ∷ 1 ∷ 2 ∷ 3 ∷ 4 ∷ 5 ∷ 6 ∷ 8 ∷ 9 ∷ 10 ∷ []

pub not_projection : (u : Rule) → OneOf but_projection (tag_of the_type u) → is_projection u ≡ false
not_projection rule.Variable o = refl
not_projection rule.LinearVariable o = refl
not_projection rule.Function o = refl
not_projection rule.Application o = refl
not_projection rule.LinearFunction o = refl
not_projection rule.LinearApplication o = refl
not_projection rule.Pair o = refl
not_projection rule.Projection o = absurd (miss but_projection 7 tt o)
not_projection rule.FixedPoint o = refl
not_projection rule.Constant o = refl
not_projection rule.Naming o = refl

abbrev but_fixed_point : List ℕ
but_fixed_point = 0 ∷ 1 ∷ 2 ∷ 3 ∷ 4 ∷ 5 ∷ 6 ∷ 7 ∷ 9 ∷ 10 ∷ []

pub not_fixed_point : (u : Rule) → OneOf but_fixed_point (tag_of the_type u) → is_fixed_point u ≡ false
not_fixed_point rule.Variable o = refl
not_fixed_point rule.LinearVariable o = refl
not_fixed_point rule.Function o = refl
not_fixed_point rule.Application o = refl
not_fixed_point rule.LinearFunction o = refl
not_fixed_point rule.LinearApplication o = refl
not_fixed_point rule.Pair o = refl
not_fixed_point rule.Projection o = refl
not_fixed_point rule.FixedPoint o = absurd (miss but_fixed_point 8 tt o)
not_fixed_point rule.Constant o = refl
not_fixed_point rule.Naming o = refl

abbrev but_constant : List ℕ
but_constant = 0 ∷ 1 ∷ 2 ∷ 3 ∷ 4 ∷ 5 ∷ 6 ∷ 7 ∷ 8 ∷ 10 ∷ []

pub not_constant : (u : Rule) → OneOf but_constant (tag_of the_type u) → is_constant u ≡ false
not_constant rule.Variable o = refl
not_constant rule.LinearVariable o = refl
not_constant rule.Function o = refl
not_constant rule.Application o = refl
not_constant rule.LinearFunction o = refl
not_constant rule.LinearApplication o = refl
not_constant rule.Pair o = refl
not_constant rule.Projection o = refl
not_constant rule.FixedPoint o = refl
not_constant rule.Constant o = absurd (miss but_constant 9 tt o)
not_constant rule.Naming o = refl

abbrev but_naming : List ℕ
but_naming = 0 ∷ 1 ∷ 2 ∷ 3 ∷ 4 ∷ 5 ∷ 6 ∷ 7 ∷ 8 ∷ 9 ∷ []

pub not_naming : (u : Rule) → OneOf but_naming (tag_of the_type u) → is_naming u ≡ false
not_naming rule.Variable o = refl
not_naming rule.LinearVariable o = refl
not_naming rule.Function o = refl
not_naming rule.Application o = refl
not_naming rule.LinearFunction o = refl
not_naming rule.LinearApplication o = refl
not_naming rule.Pair o = refl
not_naming rule.Projection o = refl
not_naming rule.FixedPoint o = refl
not_naming rule.Constant o = refl
not_naming rule.Naming o = absurd (miss but_naming 10 tt o)
