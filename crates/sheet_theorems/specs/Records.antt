-- What a type record tells by its kind alone. Assumes nothing.
use Rattle.std.specs.Prelude.{Bool, true, false}
use Rattle.calculus.specs.Types.{TyRec, rec01, rec02, rec03, rec04}

-- 01 and 02 make sharable types
abbrev pub sharable_rec : TyRec → Bool
sharable_rec rec01 = true
sharable_rec (rec02 a b) = true
sharable_rec (rec03 a b) = false
sharable_rec (rec04 a b) = false

-- 03 and 04 make arrows, which are the linear types
abbrev pub arrow_rec : TyRec → Bool
arrow_rec rec01 = false
arrow_rec (rec02 a b) = false
arrow_rec (rec03 a b) = true
arrow_rec (rec04 a b) = true
