-- The node numbers of a netlist's elements, read back from its bytes (document 02, L6: "Points and parts get kinds 25 and 26: the bodies of
-- 21 and 22 with a two-byte node number added"). Assumes nothing.
use Rattle.std.specs.Prelude.{ℕ, zero, suc, cond, List, [], ◌∷◌, eqb, length, drop}
use Rattle.calculus.specs.Read.{byte}
use Rattle.calculus.specs.NetRead.{two_at}

-- elements stand first, so the first kind that is neither 25 nor 26 ends them; at most `left` are read
abbrev pub nodes_from : ℕ → List ℕ → List ℕ
nodes_from zero s = []
nodes_from (suc left) s =
    cond (eqb (byte s 0) 0x25) (two_at s 3 ∷ nodes_from left (drop 5 s))
    (cond (eqb (byte s 0) 0x26) (two_at s 4 ∷ nodes_from left (drop 6 s)) [])

-- each has more than one byte
unfoldable pub read_nodes : List ℕ → List ℕ
read_nodes s = nodes_from (length s) s
