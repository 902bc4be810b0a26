-- Each element names the node that made it: a constant, whose part it is, or a function or fixed point, of whose points it is one (document
-- 02, L6). Assumes nothing.
use Prim.Native.Nat.{ℕ, suc, ◌+◌, ◌*◌, ◌<◌}
use mathlib.Core.Path.{◌≡◌, refl, sym, ap, ◌∙◌, subst}
use mathlib.Core.Bool.{Bool, true, false, cond}
use mathlib.Core.List.{List, [], ◌∷◌, ◌++◌, append_assoc}
use native.Mathlib.Omega.{arith}
use lib.ListN.{length, get_or, replicate, length-append}
use Rattle.calculus.specs.Answer.{good}
use Rattle.calculus.proofs.Answers.{good-inj}
use Rattle.calculus.specs.Types.{Ty, size, Table, tree}
use Rattle.calculus.specs.Terms.{Term, var, lvar, fun, app, lfun, lapp, pair, proj, fix, con, name, nodes}
use Rattle.calculus.specs.Read.{Sheet, read_sheet}
use Rattle.calculus.specs.Net.{Element, point, part, Net, turns, points, Bound, left_of, binder, first_half, second_half, whole_of, make}
use Rattle.calculus.specs.Lean.{kept, keep, lean}
use Rattle.calculus.specs.Makers.{makers, makers_in, makers_of, keep_makers, lean_makers}
use Rattle.calculus.specs.Translate.{full}
use Rattle.sheet_theorems.specs.Subterms.{subterms}
use Rattle.sheet_theorems.proofs.StretchHolds.{count-subterms}
use Rattle.circuit_theorems.specs.Makers.{own, start_of, Makes, MadeAt, Each}
use Rattle.circuit_theorems.specs.Terminals.{terminal_count}
use Rattle.circuit_theorems.proofs.Drivers.{turns-size}
use Rattle.circuit_theorems.proofs.Main.{accepts}
use Rattle.circuit_theorems.proofs.Bounds.{next_is}

-- ---- node by node

-- what a node itself makes from terminal n on
abbrev own_elements : Table → Term → ℕ → List Element
own_elements Θ (var i) n = []
own_elements Θ (lvar i) n = []
own_elements Θ (fun t e) n = points (turns false (left_of (tree Θ t))) n
own_elements Θ (app f a) n = []
own_elements Θ (lfun t e) n = points (turns false (left_of (tree Θ t))) n
own_elements Θ (lapp f a) n = []
own_elements Θ (pair t a b) n = []
own_elements Θ (proj a e) n = []
own_elements Θ (fix t e) n = points (turns false (tree Θ t)) n
own_elements Θ (con p t) n = part p n ∷ []
own_elements Θ (name a e) n = []

-- how many elements those are
abbrev pub own_count : Table → Term → ℕ
own_count Θ (var i) = 0
own_count Θ (lvar i) = 0
own_count Θ (fun t e) = size (left_of (tree Θ t))
own_count Θ (app f a) = 0
own_count Θ (lfun t e) = size (left_of (tree Θ t))
own_count Θ (lapp f a) = 0
own_count Θ (pair t a b) = 0
own_count Θ (proj a e) = 0
own_count Θ (fix t e) = size (tree Θ t)
own_count Θ (con p t) = 1
own_count Θ (name a e) = 0

-- of nodes in a row, the first of them node k, their first terminal n
abbrev row_elements : Table → List Term → ℕ → List Element
row_elements Θ [] n = []
row_elements Θ (x ∷ xs) n = own_elements Θ x n ++ row_elements Θ xs (n + own Θ x)

abbrev pub row_makers : Table → List Term → ℕ → List ℕ
row_makers Θ [] k = []
row_makers Θ (x ∷ xs) k = replicate (own_count Θ x) k ++ row_makers Θ xs (k + 1)

abbrev row_own : Table → List Term → ℕ
row_own Θ [] = 0
row_own Θ (x ∷ xs) = own Θ x + row_own Θ xs

row_own_append : (Θ : Table) (xs ys : List Term) → row_own Θ (xs ++ ys) ≡ row_own Θ xs + row_own Θ ys
row_own_append Θ [] ys = omega arith
row_own_append Θ (x ∷ xs) ys = omega (arith, row_own_append Θ xs ys)

row-elements_append : (Θ : Table) (xs ys : List Term) (n : ℕ) → row_elements Θ (xs ++ ys) n ≡ row_elements Θ xs n ++ row_elements Θ ys (n + row_own Θ xs)
row-elements_append Θ [] ys n = let e : n + 0 ≡ n = omega arith in rw e
row-elements_append Θ (x ∷ xs) ys n =
    let e : n + own Θ x + row_own Θ xs ≡ n + (own Θ x + row_own Θ xs) = omega arith in
    ap (λ (l : List Element). own_elements Θ x n ++ l) (row-elements_append Θ xs ys (n + own Θ x) ∙ ap (λ (j : ℕ). row_elements Θ xs (n + own Θ x) ++ row_elements Θ ys j) e)
    ∙ sym (append_assoc (own_elements Θ x n) (row_elements Θ xs (n + own Θ x)) (row_elements Θ ys (n + (own Θ x + row_own Θ xs))))

pub row_makers-append : (Θ : Table) (xs ys : List Term) (k : ℕ) → row_makers Θ (xs ++ ys) k ≡ row_makers Θ xs k ++ row_makers Θ ys (k + length xs)
row_makers-append Θ [] ys k = let e : k + 0 ≡ k = omega arith in rw e
row_makers-append Θ (x ∷ xs) ys k =
    let e : k + 1 + length xs ≡ k + suc (length xs) = omega arith in
    ap (λ (l : List ℕ). replicate (own_count Θ x) k ++ l) (row_makers-append Θ xs ys (k + 1) ∙ ap (λ (j : ℕ). row_makers Θ xs (k + 1) ++ row_makers Θ ys j) e)
    ∙ sym (append_assoc (replicate (own_count Θ x) k) (row_makers Θ xs (k + 1)) (row_makers Θ ys (k + suc (length xs))))

-- ---- a term's nodes are its subterms in record order

subterms-own : (Θ : Table) (e : Term) → row_own Θ (subterms e) ≡ terminal_count Θ e
subterms-own Θ (var i) = refl
subterms-own Θ (lvar i) = refl
subterms-own Θ (fun t e) = omega (arith, subterms-own Θ e)
subterms-own Θ (app f a) = omega (arith, row_own_append Θ (subterms f) (subterms a), subterms-own Θ f, subterms-own Θ a)
subterms-own Θ (lfun t e) = omega (arith, subterms-own Θ e)
subterms-own Θ (lapp f a) = omega (arith, row_own_append Θ (subterms f) (subterms a), subterms-own Θ f, subterms-own Θ a)
subterms-own Θ (pair t a b) = omega (arith, row_own_append Θ (subterms a) (subterms b), subterms-own Θ a, subterms-own Θ b)
subterms-own Θ (proj a e) = omega (arith, row_own_append Θ (subterms a) (subterms e), subterms-own Θ a, subterms-own Θ e)
subterms-own Θ (fix t e) = omega (arith, subterms-own Θ e)
subterms-own Θ (con p t) = omega arith
subterms-own Θ (name a e) = omega (arith, row_own_append Θ (subterms a) (subterms e), subterms-own Θ a, subterms-own Θ e)

module _ (Θ : Table) where
  two-makers : (f a : Term) (k : ℕ) → makers Θ f (k + 1) ≡ row_makers Θ (subterms f) (k + 1) → makers Θ a (k + 1 + nodes f) ≡ row_makers Θ (subterms a) (k + 1 + nodes f)
      → makers Θ f (k + 1) ++ makers Θ a (k + 1 + nodes f) ≡ row_makers Θ (subterms f ++ subterms a) (k + 1)
  two-makers f a k p q = rw (p, q, row_makers-append Θ (subterms f) (subterms a) (k + 1), count-subterms f)

  pub row-makers : (e : Term) (k : ℕ) → makers Θ e k ≡ row_makers Θ (subterms e) k
  row-makers (var i) k = refl
  row-makers (lvar i) k = refl
  row-makers (fun t e) k = rw (row-makers e (k + 1))
  row-makers (app f a) k = two-makers f a k (row-makers f (k + 1)) (row-makers a (k + 1 + nodes f))
  row-makers (lfun t e) k = rw (row-makers e (k + 1))
  row-makers (lapp f a) k = two-makers f a k (row-makers f (k + 1)) (row-makers a (k + 1 + nodes f))
  row-makers (pair t a b) k = two-makers a b k (row-makers a (k + 1)) (row-makers b (k + 1 + nodes a))
  row-makers (proj a e) k = two-makers a e k (row-makers a (k + 1)) (row-makers e (k + 1 + nodes a))
  row-makers (fix t e) k = rw (row-makers e (k + 1))
  row-makers (con p t) k = refl
  row-makers (name a e) k = two-makers a e k (row-makers a (k + 1)) (row-makers e (k + 1 + nodes a))

  two_elements : (f a : Term) (n next : ℕ) (xs ys : List Element) → next ≡ n + terminal_count Θ f → xs ≡ row_elements Θ (subterms f) n → ys ≡ row_elements Θ (subterms a) next
      → xs ++ ys ≡ row_elements Θ (subterms f ++ subterms a) (n + 0)
  two_elements f a n next xs ys h p q =
      let e : n + 0 ≡ n = omega arith in
      rw (e, p, q, h, row-elements_append Θ (subterms f) (subterms a) n, subterms-own Θ f)

  row_made : (e : Term) (env : List Bound) (n : ℕ) → (make Θ e env n).elements ≡ row_elements Θ (subterms e) n
  row_made (var i) env n = refl
  row_made (lvar i) env n = refl
  row_made (fun t e) env n = let θ = left_of (tree Θ t) in rw (row_made e (binder θ n ∷ env) (n + 2 * size θ))
  row_made (app f a) env n =
      let x = make Θ f env n in
      two_elements f a n x.next x.elements (make Θ a env x.next).elements (next_is Θ f env n) (row_made f env n) (row_made a env x.next)
  row_made (lfun t e) env n = let κ = left_of (tree Θ t) in rw (row_made e (binder κ n ∷ env) (n + 2 * size κ))
  row_made (lapp f a) env n =
      let x = make Θ f env n in
      two_elements f a n x.next x.elements (make Θ a env x.next).elements (next_is Θ f env n) (row_made f env n) (row_made a env x.next)
  row_made (pair t a b) env n =
      let x = make Θ a env n in
      two_elements a b n x.next x.elements (make Θ b env x.next).elements (next_is Θ a env n) (row_made a env n) (row_made b env x.next)
  row_made (proj a e) env n =
      let x = make Θ a env n in
      let bound = second_half x ∷ first_half x ∷ env in
      two_elements a e n x.next x.elements (make Θ e bound x.next).elements (next_is Θ a env n) (row_made a env n) (row_made e bound x.next)
  row_made (fix t e) env n = let θ = tree Θ t in rw (row_made e (binder θ n ∷ env) (n + 2 * size θ))
  row_made (con p t) env n = refl
  row_made (name a e) env n =
      let x = make Θ a env n in
      let bound = whole_of x ∷ env in
      two_elements a e n x.next x.elements (make Θ e bound x.next).elements (next_is Θ a env n) (row_made a env n) (row_made e bound x.next)

-- ---- two lists, pair by pair

each_append : (P : Element → ℕ → Type 0) (xs ys : List Element) (js ks : List ℕ) → Each P xs js → Each P ys ks → Each P (xs ++ ys) (js ++ ks)
each_append P [] ys [] ks a b = b
each_append P [] ys (j ∷ js) ks a b = absurd a
each_append P (x ∷ xs) ys [] ks a b = absurd a
each_append P (x ∷ xs) ys (j ∷ js) ks a b = (a.0, each_append P xs ys js ks a.1 b)

pub each_length : (P : Element → ℕ → Type 0) (xs : List Element) (ks : List ℕ) → Each P xs ks → length ks ≡ length xs
each_length P [] [] a = refl
each_length P [] (k ∷ ks) a = absurd a
each_length P (x ∷ xs) [] a = absurd a
each_length P (x ∷ xs) (k ∷ ks) a = ap suc (each_length P xs ks a.1)

-- a lean element keeps its full one's node
keep_each : (m : Net) (P : Element → ℕ → Type 0) (xs : List Element) (ks : List ℕ) → Each P xs ks → Each P (keep m xs) (keep_makers m xs ks)
keep_each m P [] [] a = tt
keep_each m P [] (k ∷ ks) a = absurd a
keep_each m P (x ∷ xs) [] a = absurd a
keep_each m P (x ∷ xs) (k ∷ ks) a = by (kept m x) (keep_each m P xs ks a.1)
  where
    by : (b : Bool) → Each P (keep m xs) (keep_makers m xs ks) → Each P (cond b (x ∷ keep m xs) (keep m xs)) (cond b (k ∷ keep_makers m xs ks) (keep_makers m xs ks))
    by true r = (a.0, r)
    by false r = r

-- ---- every node's own elements name it

points_each : (P : Element → ℕ → Type 0) (ts : List Bool) (n k : ℕ) → ((j : ℕ) → j < length ts → P (point (n + 2 * j)) k) → Each P (points ts n) (replicate (length ts) k)
points_each P [] n k f = tt
points_each P (b ∷ ts) n k f =
    let e : n + 2 * 0 ≡ n = omega arith in
    (subst (λ (i : ℕ). P (point i) k) e (f 0 (omega arith)), points_each P ts (n + 2) k next)
  where
    next : (j : ℕ) → j < length ts → P (point (n + 2 + 2 * j)) k
    next j h = let e : n + 2 * suc j ≡ n + 2 + 2 * j = omega arith in subst (λ (i : ℕ). P (point i) k) e (f (suc j) (omega arith))

module _ (Θ : Table) where
  -- the points of a bound type
  bound-each : (P : Element → ℕ → Type 0) (τ : Ty) (n k : ℕ) → ((j : ℕ) → j < size τ → P (point (n + 2 * j)) k) → Each P (points (turns false τ) n) (replicate (size τ) k)
  bound-each P τ n k f =
      subst (λ (c : ℕ). Each P (points (turns false τ) n) (replicate c k)) (turns-size false τ)
      (points_each P (turns false τ) n k (λ j h. f j (omega (arith, turns-size false τ))))

  own-each : (P : Element → ℕ → Type 0) (x : Term) (n k : ℕ) → ((el : Element) → Makes Θ x n el → P el k) → Each P (own_elements Θ x n) (replicate (own_count Θ x) k)
  own-each P (var i) n k f = tt
  own-each P (lvar i) n k f = tt
  own-each P (fun t e) n k f = bound-each P (left_of (tree Θ t)) n k (λ j h. f (point (n + 2 * j)) (j, h, refl))
  own-each P (app g a) n k f = tt
  own-each P (lfun t e) n k f = bound-each P (left_of (tree Θ t)) n k (λ j h. f (point (n + 2 * j)) (j, h, refl))
  own-each P (lapp g a) n k f = tt
  own-each P (pair t a b) n k f = tt
  own-each P (proj a e) n k f = tt
  own-each P (fix t e) n k f = bound-each P (tree Θ t) n k (λ j h. f (point (n + 2 * j)) (j, h, refl))
  own-each P (con p t) n k f = (f (part p n) (t, refl, refl), tt)
  own-each P (name a e) n k f = tt

  -- node k of nodes in a row makes the element
  abbrev InRow : List Term → Element → ℕ → Type 0
  InRow xs x k = Makes Θ (get_or xs k (var 0)) (start_of Θ xs k) x

  at-end : (ps xs : List Term) (x : Term) → get_or (ps ++ x ∷ xs) (length ps) (var 0) ≡ x
  at-end [] xs x = refl
  at-end (p ∷ ps) xs x = at-end ps xs x

  start-end : (ps xs : List Term) (x : Term) → start_of Θ (ps ++ x ∷ xs) (length ps) ≡ row_own Θ ps
  start-end [] xs x = refl
  start-end (p ∷ ps) xs x = ap (λ (n : ℕ). own Θ p + n) (start-end ps xs x)

  row-each : (ps xs : List Term) → Each (InRow (ps ++ xs)) (row_elements Θ xs (row_own Θ ps)) (row_makers Θ xs (length ps))
  row-each ps [] = tt
  row-each ps (x ∷ xs) =
      each_append (InRow (ps ++ x ∷ xs)) (own_elements Θ x (row_own Θ ps)) (row_elements Θ xs (row_own Θ ps + own Θ x)) (replicate (own_count Θ x) (length ps)) (row_makers Θ xs (length ps + 1))
      (own-each (InRow (ps ++ x ∷ xs)) x (row_own Θ ps) (length ps) (λ el made. rw (at-end ps xs x, start-end ps xs x) made))
      (behind (row-each (ps ++ x ∷ []) xs))
    where
      behind : Each (InRow ((ps ++ x ∷ []) ++ xs)) (row_elements Θ xs (row_own Θ (ps ++ x ∷ []))) (row_makers Θ xs (length (ps ++ x ∷ [])))
          → Each (InRow (ps ++ x ∷ xs)) (row_elements Θ xs (row_own Θ ps + own Θ x)) (row_makers Θ xs (length ps + 1))
      behind r =
          let a : (ps ++ x ∷ []) ++ xs ≡ ps ++ x ∷ xs = append_assoc ps (x ∷ []) xs in
          let o : row_own Θ (ps ++ x ∷ []) ≡ row_own Θ ps + own Θ x = omega (arith, row_own_append Θ ps (x ∷ [])) in
          let l : length (ps ++ x ∷ []) ≡ length ps + 1 = length-append ps (x ∷ []) in
          rw (a, o, l) at r

  -- the elements of a term and its makers
  pub term_made : (e : Term) (env : List Bound) → Each (MadeAt Θ e) (make Θ e env 0).elements (makers Θ e 0)
  term_made e env = rw (row_made Θ e env 0, row-makers Θ e 0) (row-each [] (subterms e))

-- ---- every accepted sheet

module _ (s : List ℕ) (m : Net) (ok : full s ≡ good m) (σ : Sheet) (reads : read_sheet s ≡ good σ) where
  makers-are : makers_of s ≡ makers σ.table σ.term 0
  unfolding makers_of
  makers-are = ap makers_in reads

  -- there are as many makers as elements, and each names the node that made its element: a constant, whose part it is, or a function or
  -- fixed point, of whose points it is one
  pub node_made : Each (MadeAt σ.table σ.term) m.elements (makers_of s)
  node_made =
      let a = accepts s m ok in
      let same : a.sheet ≡ σ = good-inj (sym a.reads ∙ reads) in
      rw (makers-are, ← a.is, same) (term_made σ.table σ.term [])

  -- .. and a lean element keeps its full one's
  pub node_made_lean : Each (MadeAt σ.table σ.term) (lean m).elements (lean_makers m (makers_of s))
  unfolding lean
  node_made_lean = keep_each m (MadeAt σ.table σ.term) m.elements (makers_of s) node_made

  pub as_many : length (makers_of s) ≡ length m.elements
  as_many = each_length (MadeAt σ.table σ.term) m.elements (makers_of s) node_made
