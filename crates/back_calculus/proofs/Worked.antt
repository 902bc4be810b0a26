-- The definition, run over the netlists that were worked out by hand. Assumes nothing.
use mathlib.Core.Path.{◌≡◌, refl}
use mathlib.Core.List.{map}
use Rattle.calculus.specs.Write.{record_bytes, sheet_bytes}
use Rattle.calculus.specs.NetRead.{item_at, items_from, read_net}
use Rattle.foreign_calculus.specs.Foreign.{check}
use Rattle.back_calculus.specs.Back.{back_sheet}
use Rattle.back_calculus.specs.Returned.{returned}
use Rattle.back_calculus.specs.Worked.{worked_back, back_answers}

pub worked_backs : map back_answers worked_back ≡ worked_back
unfolding worked_back returned check read_net items_from item_at back_sheet sheet_bytes record_bytes
worked_backs = refl
