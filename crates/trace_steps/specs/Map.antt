-- What stands where in the working memory during a run (document 02, L4). Assumes nothing.
--   from         numbers  what
--   0            8,192    by input terminal the terminal whose bit it has (itself for a pin), by output terminal its entry: its element's kind, from
--                         `kinds_from` on
--   rest_at       5,120    the outputs that are not settled yet ..
--   registers_at           .. and afterwards the registers' outputs by rising number
--   order_at      5,120    the order: the outputs that are settled, each behind those that it looks at; in the search, those that are met
--   pins_at       128      the pins, an input i as 2 i and an output o as 2 o + 1
--   bits_at       8,192    by terminal a mark, and then a number with its bit in each lane (specs/Words); before, the lean netlist by
--                         terminal (lean/specs/Layout), whose pins stand at `bits_end`
use Rattle.std.specs.Prelude.{ℕ, ◌+◌}
use Rattle.lean.specs.Layout.{kinds_from}
use Rattle.memory.specs.Map.{targets_at, elements_at, stack_at, roots_at, roots_end}

abbrev pub rest_at : ℕ
rest_at = targets_at

abbrev pub registers_at : ℕ
registers_at = targets_at

abbrev pub order_at : ℕ
order_at = elements_at

abbrev pub pins_at : ℕ
pins_at = stack_at

abbrev pub bits_at : ℕ
bits_at = roots_at

abbrev pub bits_end : ℕ
bits_end = roots_end

-- ---- the entry of an output: `kinds_from` and its element's kind, a part's number or 7 for a point

abbrev pub zero_entry : ℕ
zero_entry = kinds_from + 0

abbrev pub register_entry : ℕ
register_entry = kinds_from + 1

-- a gate of two inputs has a lower one
abbrev pub inverter_entry : ℕ
inverter_entry = kinds_from + 5

abbrev pub one_entry : ℕ
one_entry = kinds_from + 6

abbrev pub point_entry : ℕ
point_entry = kinds_from + 7
