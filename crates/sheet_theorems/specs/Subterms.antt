-- The subterms of a term in record order, and going on by records. Assumes nothing.
use Rattle.std.specs.Prelude.{ℕ, zero, suc, ◌+◌, List, [], ◌∷◌, ◌++◌}
use Rattle.calculus.specs.Terms.{Term, var, lvar, fun, app, lfun, lapp, pair, proj, fix, con, name}
use Rattle.calculus.specs.Read.{Kind, unknown, type, node, kind_of, byte, type_body, node_body}

-- the term of node k is the k-th, the term itself the first
abbrev pub subterms : Term → List Term
subterms (var i) = var i ∷ []
subterms (lvar i) = lvar i ∷ []
subterms (fun t e) = fun t e ∷ subterms e
subterms (app f a) = app f a ∷ (subterms f ++ subterms a)
subterms (lfun t e) = lfun t e ∷ subterms e
subterms (lapp f a) = lapp f a ∷ (subterms f ++ subterms a)
subterms (pair t a b) = pair t a b ∷ (subterms a ++ subterms b)
subterms (proj a e) = proj a e ∷ (subterms a ++ subterms e)
subterms (fix t e) = fix t e ∷ subterms e
subterms (con p t) = con p t ∷ []
subterms (name a e) = name a e ∷ (subterms a ++ subterms e)

-- the length of a record's body
abbrev pub body_of : Kind → ℕ
body_of unknown = 0
body_of (type k) = type_body k
body_of (node k) = node_body k

-- the offset behind the record at an offset
abbrev pub after_record : List ℕ → ℕ → ℕ
after_record s at = at + 1 + body_of (kind_of (byte s at))

-- the offset behind k records
unfoldable pub skip : List ℕ → ℕ → ℕ → ℕ
skip s zero at = at
skip s (suc k) at = skip s k (after_record s at)
