-- The profile's answer, by which of the three rules fails first. Assumes nothing.
use Prim.Native.Nat.{ℕ}
use mathlib.Core.Path.{◌≡◌}
use mathlib.Core.Bool.{Bool, true, false}
use Rattle.std.specs.Prelude.{Option, Some, None}
use Rattle.calculus.specs.Answer.{good, refuse}
use Rattle.calculus.specs.Net.{Net}
use Rattle.export_calculus.specs.Card.{need_all, no_ring, is_read, input_place, output_place, profiled}
use Rattle.card.specs.Rings.{answer_of}

module _ (chained : Bool) (m : Net) where
  pub no_chain : chained ≡ false → refuse 27 0 ≡ profiled chained m
  unfolding profiled
  no_chain e = rw e

  module _ (e : chained ≡ true) (ring : Option ℕ) (rings : need_all (no_ring m.pins) 28 input_place m.elements ≡ answer_of 28 ring) where
    pub ring-there : (place : ℕ) → ring ≡ Some place → refuse 28 place ≡ profiled chained m
    unfolding profiled
    ring-there place h = rw (e, rings, h)

    module _ (h : ring ≡ None) (unread : Option ℕ) (reads : need_all (is_read m) 29 output_place m.elements ≡ answer_of 29 unread) where
      pub unread-there : (place : ℕ) → unread ≡ Some place → refuse 29 place ≡ profiled chained m
      unfolding profiled
      unread-there place l = rw (e, rings, h, reads, l)

      pub passes : unread ≡ None → good tt ≡ profiled chained m
      unfolding profiled
      passes l = rw (e, rings, h, reads, l)
