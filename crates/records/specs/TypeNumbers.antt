-- A type record as numbers, and the type number that a node binds. Assumes nothing.
use Rattle.std.specs.Prelude.{ℕ, cond, List}
use Rattle.calculus.specs.Types.{TyRec, rec01, rec02, rec03, rec04}
use Rattle.records.specs.Forms.{rec_in}
use Rattle.records.specs.Rules.{is_fixed_point}
use Rattle.records.specs.declared.Sided.{Sided}
use Rattle.records.specs.declared.Node.{Node}

abbrev pub kind_no : TyRec → ℕ
kind_no rec01 = 1
kind_no (rec02 a b) = 2
kind_no (rec03 a b) = 3
kind_no (rec04 a b) = 4

abbrev pub left_no : TyRec → ℕ
left_no rec01 = 0
left_no (rec02 a b) = a
left_no (rec03 a b) = a
left_no (rec04 a b) = a

abbrev pub right_no : TyRec → ℕ
right_no rec01 = 0
right_no (rec02 a b) = b
right_no (rec03 a b) = b
right_no (rec04 a b) = b

unfoldable pub sided_of : TyRec → Sided
sided_of q = record { kind = kind_no q; left = left_no q; right = right_no q }

-- the type that a function or a fixed point binds
abbrev pub bound_in : List ℕ → Node → ℕ
bound_in s node = cond (is_fixed_point node.rule) node.first (left_no (rec_in s node.first))
