-- The node that made each element (document 02, L6): the makers in making order, and the bytes of a netlist with them. Assumes nothing.
use Rattle.std.specs.Prelude.{ℕ, zero, suc, ◌+◌, Bool, cond, List, [], ◌∷◌, ◌++◌, eqb, get_or, drop, replicate}
use Rattle.calculus.specs.Answer.{Answer, good, refused}
use Rattle.calculus.specs.Types.{size, Table, tree}
use Rattle.calculus.specs.Terms.{Term, var, lvar, fun, app, lfun, lapp, pair, proj, fix, con, name, nodes}
use Rattle.calculus.specs.Read.{Sheet, read_sheet}
use Rattle.calculus.specs.Net.{left_of, Element, point, part, Net, two, wire_bytes, pin_bytes, net_bytes}
use Rattle.calculus.specs.Lean.{kept}

-- of a term at node k: a function or fixed point names itself once for each single bit of the bound type, a constant once
abbrev pub makers : Table → Term → ℕ → List ℕ
makers Θ (var i) k = []
makers Θ (lvar i) k = []
makers Θ (fun t e) k = replicate (size (left_of (tree Θ t))) k ++ makers Θ e (k + 1)
makers Θ (app f a) k = makers Θ f (k + 1) ++ makers Θ a (k + 1 + nodes f)
makers Θ (lfun t e) k = replicate (size (left_of (tree Θ t))) k ++ makers Θ e (k + 1)
makers Θ (lapp f a) k = makers Θ f (k + 1) ++ makers Θ a (k + 1 + nodes f)
makers Θ (pair t a b) k = makers Θ a (k + 1) ++ makers Θ b (k + 1 + nodes a)
makers Θ (proj a e) k = makers Θ a (k + 1) ++ makers Θ e (k + 1 + nodes a)
makers Θ (fix t e) k = replicate (size (tree Θ t)) k ++ makers Θ e (k + 1)
makers Θ (con p t) k = k ∷ []
makers Θ (name a e) k = makers Θ a (k + 1) ++ makers Θ e (k + 1 + nodes a)

-- of a sheet that is read; of another none
abbrev pub makers_in : Answer Sheet → List ℕ
makers_in (good σ) = makers σ.table σ.term 0
makers_in (refused why) = []

unfoldable pub makers_of : List ℕ → List ℕ
makers_of s = makers_in (read_sheet s)

-- ---- a maker for each element (theorem `node_made`), so that the 0 is never reached

-- the first maker
abbrev pub maker : List ℕ → ℕ
maker ks = get_or ks 0 0

-- a lean element keeps its full one's node
abbrev pub keep_makers : Net → List Element → List ℕ → List ℕ
keep_makers m [] ks = []
keep_makers m (e ∷ es) ks = let rest = keep_makers m es (drop 1 ks) in cond (kept m e) (maker ks ∷ rest) rest

abbrev pub lean_makers : Net → List ℕ → List ℕ
lean_makers m ks = keep_makers m m.elements ks

-- ---- bytes

-- kinds 25 and 26: the bodies of 21 and 22 with a two-byte node number added
abbrev pub node_bytes : Element → ℕ → List ℕ
node_bytes (point i) k = 0x25 ∷ (two i ++ two k)
node_bytes (part p i) k = 0x26 ∷ p ∷ (two i ++ two k)

abbrev pub element_node_bytes : List Element → List ℕ → List ℕ
element_node_bytes [] ks = []
element_node_bytes (e ∷ es) ks = node_bytes e (maker ks) ++ element_node_bytes es (drop 1 ks)

-- a netlist's bytes with nodes; without them they are `net_bytes`
unfoldable pub net_node_bytes : Net → List ℕ → List ℕ
net_node_bytes m ks = element_node_bytes m.elements ks ++ (wire_bytes m.wires ++ pin_bytes m.pins)

-- the one that is wished
abbrev pub written : Bool → Net → List ℕ → List ℕ
written plain m ks = cond plain (net_bytes m) (net_node_bytes m ks)

-- ---- dropping the node numbers, byte by byte

-- behind a kind byte: so many bytes stay, and so many behind them are dropped
abbrev pub stay : ℕ → ℕ
stay b =
    cond (eqb b 0x21) 2 (cond (eqb b 0x22) 3 (cond (eqb b 0x23) 4 (cond (eqb b 0x24) 2 (cond (eqb b 0x25) 2 (cond (eqb b 0x26) 3 0)))))

abbrev pub go : ℕ → ℕ
go b = cond (eqb b 0x25) 2 (cond (eqb b 0x26) 2 0)

-- 21 for 25 and 22 for 26
abbrev pub plain_kind : ℕ → ℕ
plain_kind b = cond (eqb b 0x25) 0x21 (cond (eqb b 0x26) 0x22 b)

-- with so many bytes still to stay, then so many still to go, then a kind byte
abbrev pub dropping : ℕ → ℕ → List ℕ → List ℕ
dropping stays goes [] = []
dropping (suc stays) goes (b ∷ bs) = b ∷ dropping stays goes bs
dropping zero (suc goes) (b ∷ bs) = dropping zero goes bs
dropping zero zero (b ∷ bs) = plain_kind b ∷ dropping (stay b) (go b) bs

unfoldable pub drop_nodes : List ℕ → List ℕ
drop_nodes bs = dropping 0 0 bs
