-- How kinds that stand one after the other share out the terminals, and their records, plain or with nodes. Assumes nothing.
use Rattle.std.specs.Prelude.{ℕ, ◌+◌, ◌*◌, Bool, cond, List, [], ◌∷◌, ◌++◌, eqb, drop}
use Rattle.calculus.specs.Terms.{part_at}
use Rattle.calculus.specs.Net.{Element, element, item_bytes}
use Rattle.calculus.specs.Makers.{maker, node_bytes}

-- the output of an element of kind k that starts at n
abbrev pub output_of : ℕ → ℕ → ℕ
output_of k n = cond (eqb k 7) (n + 1) (n + (part_at k).inputs)

-- the next free terminal behind it
abbrev pub after : ℕ → ℕ → ℕ
after k n = cond (eqb k 7) (n + 2) (n + (part_at k).inputs + 1)

abbrev pub after_all : List ℕ → ℕ → ℕ
after_all [] n = n
after_all (k ∷ ks) n = after_all ks (after k n)

-- the bytes of such an element's record
abbrev pub element_size : ℕ → ℕ
element_size k = cond (eqb k 7) 3 4

-- the bytes of n node numbers, where they are wished
abbrev pub node_size : Bool → ℕ → ℕ
node_size plain n = cond plain 0 (2 * n)

-- an element's record, plain or with the node that made it
abbrev pub element_record : Bool → Element → ℕ → List ℕ
element_record plain x k = cond plain (item_bytes (element x)) (node_bytes x k)

abbrev pub element_records : Bool → List Element → List ℕ → List ℕ
element_records plain [] ks = []
element_records plain (x ∷ xs) ks = element_record plain x (maker ks) ++ element_records plain xs (drop 1 ks)
