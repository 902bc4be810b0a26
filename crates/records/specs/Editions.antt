-- The edition as a yes or no, and the rules that it knows (document 02, L7). Assumes nothing.
use Rattle.std.specs.Prelude.{Bool, not, ◌||◌, cond}
use Rattle.calculus.specs.Terms.{Edition, first, second, is_second}
use Rattle.records.specs.declared.Rule.{Rule}
use Rattle.records.specs.Rules.{is_naming}

abbrev pub edition_by : Bool → Edition
edition_by b = cond b second first

-- 1B stands in the second edition alone
abbrev pub known_rule : Edition → Rule → Bool
known_rule E u = not (is_naming u) || is_second E
