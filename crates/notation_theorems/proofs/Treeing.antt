-- What every word of a text carries, every tree that the grammar reads carries too. Assumes nothing.
use Prim.Native.Nat.{ℕ, zero, suc}
use mathlib.Core.Path.{subst}
use mathlib.Core.Bool.{Bool, true, false, not, ◌||◌, cond}
use mathlib.Core.List.{List, [], ◌∷◌}
use lib.Dec.{T, eqb, eqb→eq, leb, ltb}
use lib.ListN.{length}
use Rattle.calculus.specs.Answer.{Answer, good, ◌>>=◌, need}
use Rattle.calculus.specs.Record.{All}
use Rattle.notation_calculus.specs.Words.{Sign, sign_code, ends, fun, fix, lets, within, type, edition, table, arrow, linear, times, round, endRound, equals, comma, colon, dot, square, endSquare, curly, endCurly, plus, power, Token, sign, part, number, name, Word}
use Rattle.notation_calculus.specs.Trees.{Form, product, TypeTree, inside, nothing, Tree, apart, Atom, tuple, Trees, Body, of_type, of_term, Clause, Text}
use Rattle.notation_calculus.specs.Trees as Trees
use Rattle.notation_calculus.specs.Grammar.{most_nested, most_clauses, Got, got, peek, behind, place, is_token, is, expect, bound_name, name_at, value_of, list_from, read_number, number_at, numbers_at, parameters_at, types_of, arguments_at, ones_at, type_atom_of, side_at, product_at, arrow_at, type_at, begins_atom, trees_from, read_atom, atoms_from, spine_at, names_from, Group, Lists, Item, item_at, bounds_of, groups_of, lists_at, groups_tree, apart_tree, Binds, binds_each, binds_pair, binds_from, function_tree, bound_body, let_body, let_at, term_by, term_at, may_follow_all, Items, no_items, with_clause, with_lines, clause_at, type_body, term_body, items_from, edition_at, text_of}
use Rattle.notation_theorems.specs.Counted.{BoundIn, TreeIn, AtomIn, AtomsIn, TreesIn, BodyIn, ClauseIn}
use Rattle.notation_theorems.specs.Worded.{TokenIn, WordIn}
use Rattle.notation_theorems.proofs.Answering.{On, on_step, on_any, on_test, on_either, on_tests}
use Rattle.notation_theorems.proofs.Counting.{all_both}

module _ (P K : ℕ → Type 0) where
  abbrev In : List Word → Type 0
  In ws = All (WordIn P K) ws

  abbrev GotIn : {A : Type 0} → (A → Type 0) → Got A → Type 0
  GotIn Q g = Q g.value × In g.rest

  abbrev Reads : {A : Type 0} → (A → Type 0) → (List Word → Answer (Got A)) → Type 0
  Reads Q read = (ws : List Word) → In ws → On (GotIn Q) (read ws)

  -- types carry no places that a node has
  abbrev Free : {A : Type 0} → A → Type 0
  Free a = Unit {0}

  -- ---- words

  peek-in : (ws : List Word) → In ws → WordIn P K (peek ws)
  peek-in [] h = λ t. absurd t
  peek-in (w ∷ ws) h = h.0

  behind-in : (ws : List Word) → In ws → In (behind ws)
  behind-in [] h = tt
  behind-in (w ∷ ws) h = h.1

  sign-placed : (s t : Sign) (at : ℕ) → T (not (eqb (sign_code ends) (sign_code s))) → T (eqb (sign_code s) (sign_code t)) → TokenIn P K at (sign t) → P at
  sign-placed s t at n e h = h (subst (λ (c : ℕ). T (not (eqb (sign_code ends) c))) (eqb→eq (sign_code s) (sign_code t) e) n)

  token-placed : (s : Sign) (k : Token) (at : ℕ) → T (not (eqb (sign_code ends) (sign_code s))) → T (is_token s k) → TokenIn P K at k → P at
  token-placed s (sign t) at n e h = sign-placed s t at n e h
  token-placed s (part p) at n e h = absurd e
  token-placed s (number m) at n e h = absurd e
  token-placed s (name m) at n e h = absurd e

  expect-in : (s : Sign) (ws : List Word) → In ws → On In (expect s ws)
  expect-in s ws h = on_any In (need (is s ws) 32 (place ws)) (λ _. good (behind ws)) λ _. behind-in ws h

  bound_in_lem : (k : Token) (at : ℕ) → TokenIn P K at k → On (BoundIn P) (bound_name k at)
  bound_in_lem (sign t) at h = tt
  bound_in_lem (part p) at h = tt
  bound_in_lem (number n) at h = tt
  bound_in_lem (name n) at h = h

  name_in : Reads (BoundIn P) name_at
  name_in ws h = on_step (BoundIn P) (GotIn (BoundIn P)) (bound_name (peek ws).token (place ws)) (λ n. got n (behind ws)) (bound_in_lem (peek ws).token (place ws) (peek-in ws h)) λ n b. (b, behind-in ws h)

  list-in : {A : Type 0} (Q : A → Type 0) (read : List Word → Answer (Got A)) → Reads Q read → (rounds : ℕ) → Reads (All Q) (list_from read rounds)
  list-in Q read r zero ws h = tt
  list-in Q read r (suc rounds) ws h =
      on_step (GotIn Q) (GotIn (All Q)) (read ws) _ (r ws h) λ x g.
      on_either (GotIn (All Q)) (is comma x.rest) (list_from read rounds (behind x.rest) >>= λ xs. got (x.value ∷ xs.value) xs.rest) (got (x.value ∷ []) x.rest) (on_step (GotIn (All Q)) (GotIn (All Q)) (list_from read rounds (behind x.rest)) (λ xs. got (x.value ∷ xs.value) xs.rest) (list-in Q read r rounds (behind x.rest) (behind-in x.rest g.1)) λ xs gs. ((g.0, gs.0), gs.1)) ((g.0, tt), g.1)

  -- ---- numbers, parameters and arguments

  number-of-in : (k : Token) (ws : List Word) → In ws → On (GotIn Free) (read_number k ws)
  number-of-in (sign t) ws h = tt
  number-of-in (part p) ws h = tt
  number-of-in (number n) ws h = (tt, behind-in ws h)
  number-of-in (name n) ws h = on_either (GotIn Free) (is plus (behind ws)) _ _ (on_any (GotIn Free) (value_of (peek (behind (behind ws))).token (place (behind (behind ws)))) _ λ k. (tt, behind-in (behind (behind ws)) (behind-in (behind ws) (behind-in ws h)))) (tt, behind-in ws h)

  -- a list between two signs
  closed_in : {A B : Type 0} (Q : A → Type 0) (R : B → Type 0) (m : Answer (Got A)) (s : Sign) (build : A → B) → ((a : A) → Q a → R (build a)) → On (GotIn Q) m → On (GotIn R) (m >>= λ x. expect s x.rest >>= λ ws. got (build x.value) ws)
  closed_in Q R m s build k h = on_step (GotIn Q) (GotIn R) m (λ x. expect s x.rest >>= λ ws. got (build x.value) ws) h λ x g. on_step In (GotIn R) (expect s x.rest) (λ ws. got (build x.value) ws) (expect-in s x.rest g.1) λ ws i. (k x.value g.0, i)

  numbers_in_lem : Reads Free numbers_at
  numbers_in_lem ws h = on_either (GotIn Free) (is curly ws) _ _ (closed_in (All Free) Free (list_from number_at (length ws) (behind ws)) endCurly (λ ns. ns) (λ ns _. tt) (list-in Free number_at (λ us i. number-of-in (peek us).token us i) (length ws) (behind ws) (behind-in ws h))) (tt, h)

  parameters-in : Reads Free parameters_at
  parameters-in ws h = on_either (GotIn Free) (is square ws) _ _ (closed_in (All (BoundIn P)) Free (list_from name_at (length ws) (behind ws)) endSquare (λ ns. ns) (λ ns _. tt) (list-in (BoundIn P) name_at name_in (length ws) (behind ws) (behind-in ws h))) (tt, h)

  arguments-in : (read : List Word → Answer (Got TypeTree)) → Reads Free read → Reads Free (arguments_at read)
  arguments-in read r ws h = on_either (GotIn Free) (is square ws) _ _ (closed_in (All Free) Free (list_from read (length ws) (behind ws)) endSquare types_of (λ ts _. tt) (list-in Free read r (length ws) (behind ws) (behind-in ws h))) (tt, h)

  -- ---- types

  ones_in : Reads Free ones_at
  ones_in ws h = on_either (GotIn Free) (is power ws) _ _ (on_step (GotIn Free) (GotIn Free) (number_at (behind ws)) _ (number-of-in (peek (behind ws)).token (behind ws) (behind-in ws h)) λ k i. (tt, i.1)) (tt, h)

  type-atom-in : (read : List Word → Answer (Got TypeTree)) → Reads Free read → (k : Token) (ws : List Word) → In ws → On (GotIn Free) (type_atom_of read k ws)
  type-atom-in read r (sign t) ws h = on_any (GotIn Free) (need (is_token round (sign t)) 32 (place ws)) _ λ _. closed_in Free Free (read (behind ws)) endRound inside (λ t _. tt) (r (behind ws) (behind-in ws h))
  type-atom-in read r (part p) ws h = tt
  type-atom-in read r (number n) ws h = on_any (GotIn Free) (need (eqb n 1) 32 (place ws)) _ λ _. ones_in (behind ws) (behind-in ws h)
  type-atom-in read r (name n) ws h =
      on_step (GotIn Free) (GotIn Free) (arguments_at read (behind ws)) _ (arguments-in read r (behind ws) (behind-in ws h)) λ ts g.
      on_step (GotIn Free) (GotIn Free) (numbers_at ts.rest) _ (numbers_in_lem ts.rest g.1) λ ks i. (tt, i.1)

  side_in : (read : List Word → Answer (Got TypeTree)) → Reads Free read → (f : Form) → Reads Free (side_at read f)
  side_in read r f ws h = on_step (GotIn Free) (GotIn Free) (read (behind ws)) _ (r (behind ws) (behind-in ws h)) λ t g. (tt, g.1)

  product_in : (read : List Word → Answer (Got TypeTree)) → Reads Free read → Reads Free (product_at read)
  product_in read r ws h = on_either (GotIn Free) (is times ws) _ _ (side_in read r product ws h) (tt, h)

  arrow_in : (read : List Word → Answer (Got TypeTree)) → Reads Free read → Reads Free (arrow_at read)
  arrow_in read r ws h = on_either (GotIn Free) (is arrow ws) _ _ (side_in read r Trees.arrow ws h) (on_either (GotIn Free) (is linear ws) _ _ (side_in read r Trees.linear ws h) (tt, h))

  type_in_lem : (more : ℕ) (tight : Bool) → Reads Free (type_at more tight)
  type_in_lem zero tight ws h = tt
  type_in_lem (suc more) tight ws h =
      on_step (GotIn Free) (GotIn Free) (type_atom_of (λ us. type_at more false us) (peek ws).token ws) _ (type-atom-in (λ us. type_at more false us) (type_in_lem more false) (peek ws).token ws h) λ a f.
      on_step (GotIn Free) (GotIn Free) (product_at (λ us. type_at more true us) a.rest) _ (product_in (λ us. type_at more true us) (type_in_lem more true) a.rest f.1) λ b g.
      on_step (GotIn Free) (GotIn Free) (cond tight (got nothing b.rest) (arrow_at (λ us. type_at more false us) b.rest)) _ (on_either (GotIn Free) tight (got nothing b.rest) (arrow_at (λ us. type_at more false us) b.rest) (tt, g.1) (arrow_in (λ us. type_at more false us) (type_in_lem more false) b.rest g.1)) λ c i. (tt, i.1)

  -- ---- terms

  -- the place of a list is that of its parenthesis
  abbrev GroupIn : Group → Type 0
  GroupIn g = P g.place × All (BoundIn P) g.names

  abbrev ListsIn : Lists → Type 0
  ListsIn ls = All (BoundIn P) ls.names × All GroupIn ls.inner

  abbrev ItemIn : Item → Type 0
  ItemIn x = BoundIn P x.bound × All GroupIn x.groups

  round-placed : (ws : List Word) → In ws → T (is round ws) → P (place ws)
  round-placed ws h t = token-placed round (peek ws).token (place ws) tt t (peek-in ws h)

  item_in : (read : List Word → Answer (Got Lists)) → Reads ListsIn read → Reads ItemIn (item_at read)
  item_in read r ws h = on_tests (GotIn ItemIn) (is round ws) _ _ (λ t. on_step (GotIn ListsIn) (GotIn ItemIn) (read ws) _ (r ws h) λ ls g. ((round-placed ws h t, ((round-placed ws h t, g.0.0), g.0.1)), g.1)) λ _. on_step (GotIn (BoundIn P)) (GotIn ItemIn) (name_at ws) _ (name_in ws h) λ x g. ((g.0, tt), g.1)

  bounds-in : (xs : List Item) → All ItemIn xs → All (BoundIn P) (bounds_of xs)
  bounds-in [] h = tt
  bounds-in (x ∷ xs) h = (h.0.0, bounds-in xs h.1)

  groups-in : (xs : List Item) → All ItemIn xs → All GroupIn (groups_of xs)
  groups-in [] h = tt
  groups-in (x ∷ xs) h = all_both GroupIn x.groups (groups_of xs) h.0.1 (groups-in xs h.1)

  lists-in : (more : ℕ) → Reads ListsIn (lists_at more)
  lists-in zero ws h = tt
  lists-in (suc more) ws h =
      on_step (GotIn (All ItemIn)) (GotIn ListsIn) (list_from (item_at (λ us. lists_at more us)) (length ws) (behind ws)) _ (list-in ItemIn (item_at (λ us. lists_at more us)) (item_in (λ us. lists_at more us) (lists-in more)) (length ws) (behind ws) (behind-in ws h)) λ xs g.
      on_any (GotIn ListsIn) (need (leb 2 (length xs.value)) 32 (place xs.rest)) _ λ _.
      on_step In (GotIn ListsIn) (expect endRound xs.rest) _ (expect-in endRound xs.rest g.1) λ us i. ((bounds-in xs.value g.0, groups-in xs.value g.0), i)

  groups-tree-in : (gs : List Group) (e : Tree) → All GroupIn gs → TreeIn P K e → TreeIn P K (groups_tree gs e)
  groups-tree-in [] e h a = a
  groups-tree-in (g ∷ gs) e h a = (h.0.1, (h.0.0, h.0.0, tt), groups-tree-in gs e h.1 a)

  module _ (read : List Word → Answer (Got Tree)) (r : Reads (TreeIn P K) read) (readLists : List Word → Answer (Got Lists)) (rl : Reads ListsIn readLists) where
    trees-in : (rounds : ℕ) → Reads (TreesIn P K) (trees_from read rounds)
    trees-in zero ws h = (tt, h)
    trees-in (suc rounds) ws h = on_tests (GotIn (TreesIn P K)) (is comma ws) _ _ (λ t. on_step (GotIn (TreeIn P K)) (GotIn (TreesIn P K)) (read (behind ws)) _ (r (behind ws) (behind-in ws h)) λ e g. on_step (GotIn (TreesIn P K)) (GotIn (TreesIn P K)) (trees_from read rounds e.rest) _ (trees-in rounds e.rest g.1) λ es i. ((token-placed comma (peek ws).token (place ws) tt t (peek-in ws h), g.0, i.0), i.1)) λ _. (tt, h)

    let-body-in : (build : Tree → Tree → Tree) → ((v e : Tree) → TreeIn P K v → TreeIn P K e → TreeIn P K (build v e)) → Reads (TreeIn P K) (let_body read build)
    let-body-in build k ws h =
        on_step In (GotIn (TreeIn P K)) (expect equals ws) _ (expect-in equals ws h) λ ws₁ h₁.
        on_step (GotIn (TreeIn P K)) (GotIn (TreeIn P K)) (read ws₁) _ (r ws₁ h₁) λ v g.
        on_step In (GotIn (TreeIn P K)) (expect within v.rest) _ (expect-in within v.rest g.1) λ ws₂ h₂.
        on_step (GotIn (TreeIn P K)) (GotIn (TreeIn P K)) (read ws₂) _ (r ws₂ h₂) λ e i. (k v.value e.value g.0 i.0, i.1)

    let-in : (at : ℕ) → Reads (TreeIn P K) (let_at read readLists at)
    let-in at ws h = on_either (GotIn (TreeIn P K)) (is round ws) _ _ (on_step (GotIn ListsIn) (GotIn (TreeIn P K)) (readLists ws) _ (rl ws h) λ ls g. let-body-in (apart_tree at ls.value) (λ v e a b. (g.0.0, a, groups-tree-in ls.value.inner e g.0.1 b)) ls.rest g.1) (on_step (GotIn (BoundIn P)) (GotIn (TreeIn P K)) (name_at ws) _ (name_in ws h) λ x g. let-body-in (Trees.name at x.value) (λ v e a b. (g.0, a, b)) x.rest g.1)

    module _ (readType : List Word → Answer (Got TypeTree)) (rt : Reads Free readType) where
      -- an atom begins with a word that is not the end
      abbrev AtomAt : ℕ → Atom → Type 0
      AtomAt at a = P at × AtomIn P K a

      atom-in : (k : Token) (ws : List Word) → TokenIn P K (place ws) k → In ws → On (GotIn (AtomAt (place ws))) (read_atom read readType k ws)
      atom-in (sign t) ws w h =
          on_test (GotIn (AtomAt (place ws))) (is_token round (sign t)) 32 (place ws) _ λ e.
          on_step (GotIn (TreeIn P K)) (GotIn (AtomAt (place ws))) (read (behind ws)) _ (r (behind ws) (behind-in ws h)) λ d g.
          closed_in (TreesIn P K) (AtomAt (place ws)) (trees_from read (length ws) d.rest) endRound (λ es. tuple d.value es) (λ es i. (sign-placed round t (place ws) tt e w, (g.0, i))) (trees-in (length ws) d.rest g.1)
      atom-in (part p) ws w h = ((w.0, w), behind-in ws h)
      atom-in (number n) ws w h = tt
      atom-in (name n) ws w h =
          on_step (GotIn Free) (GotIn (AtomAt (place ws))) (arguments_at readType (behind ws)) _ (arguments-in readType rt (behind ws) (behind-in ws h)) λ ts g.
          on_step (GotIn Free) (GotIn (AtomAt (place ws))) (numbers_at ts.rest) _ (numbers_in_lem ts.rest g.1) λ ks i. ((w, w), i.1)

      atoms-in : (rounds : ℕ) → Reads (AtomsIn P K) (atoms_from read readType rounds)
      atoms-in zero ws h = (tt, h)
      atoms-in (suc rounds) ws h = on_either (GotIn (AtomsIn P K)) (begins_atom ws) _ _ (on_step (GotIn (AtomAt (place ws))) (GotIn (AtomsIn P K)) (read_atom read readType (peek ws).token ws) _ (atom-in (peek ws).token ws (peek-in ws h) h) λ a g. on_step (GotIn (AtomsIn P K)) (GotIn (AtomsIn P K)) (atoms_from read readType rounds a.rest) _ (atoms-in rounds a.rest g.1) λ es i. ((g.0.1, i.0), i.1)) (tt, h)

      spine-in : Reads (TreeIn P K) (spine_at read readType)
      spine-in ws h =
          on_step (GotIn (AtomAt (place ws))) (GotIn (TreeIn P K)) (read_atom read readType (peek ws).token ws) _ (atom-in (peek ws).token ws (peek-in ws h) h) λ a g.
          on_step (GotIn (AtomsIn P K)) (GotIn (TreeIn P K)) (atoms_from read readType (length ws) a.rest) _ (atoms-in (length ws) a.rest g.1) λ es i. ((g.0.0, g.0.1, i.0), i.1)

      names_in : (rounds : ℕ) → Reads (All (BoundIn P)) (names_from rounds)
      names_in zero ws h = tt
      names_in (suc rounds) ws h =
          on_step (GotIn (BoundIn P)) (GotIn (All (BoundIn P))) (name_at ws) _ (name_in ws h) λ x g.
          on_either (GotIn (All (BoundIn P))) (is colon x.rest) _ _ ((g.0, tt), g.1) (on_step (GotIn (All (BoundIn P))) (GotIn (All (BoundIn P))) (names_from rounds x.rest) _ (names_in rounds x.rest g.1) λ xs i. ((g.0, i.0), i.1))

      abbrev BindsIn : Binds → Type 0
      BindsIn (binds_each xs) = All (BoundIn P) xs
      BindsIn (binds_pair at ls) = P at × ListsIn ls

      binds-in : (rounds : ℕ) → Reads BindsIn (binds_from readLists rounds)
      binds-in rounds ws h =
          on_tests (GotIn BindsIn) (is round ws) _ _ (λ t. on_step (GotIn ListsIn) (GotIn BindsIn) (readLists ws) _ (rl ws h) λ ls g. ((round-placed ws h t, g.0), g.1)) λ _.
          on_step (GotIn (All (BoundIn P))) (GotIn BindsIn) (names_from rounds ws) _ (names_in rounds ws h) λ xs g. (g.0, g.1)

      function-in : (at : ℕ) (xs : Binds) (t : TypeTree) (e : Tree) → BindsIn xs → TreeIn P K e → TreeIn P K (function_tree at xs t e)
      function-in at (binds_each xs) t e b a = (b, a)
      function-in at (binds_pair p ls) t e b a = ((b.0, tt), (b.1.0, (b.0, b.0, tt), groups-tree-in ls.inner e b.1.1 a))

      bound-body-in : (build : TypeTree → Tree → Tree) → ((t : TypeTree) (e : Tree) → TreeIn P K e → TreeIn P K (build t e)) → Reads (TreeIn P K) (bound_body read readType build)
      bound-body-in build k ws h =
          on_step In (GotIn (TreeIn P K)) (expect colon ws) _ (expect-in colon ws h) λ ws₁ h₁.
          on_step (GotIn Free) (GotIn (TreeIn P K)) (readType ws₁) _ (rt ws₁ h₁) λ t g.
          on_step In (GotIn (TreeIn P K)) (expect dot t.rest) _ (expect-in dot t.rest g.1) λ ws₂ h₂.
          on_step (GotIn (TreeIn P K)) (GotIn (TreeIn P K)) (read ws₂) _ (r ws₂ h₂) λ e i. (k t.value e.value i.0, i.1)

      term-by-in : Reads (TreeIn P K) (term_by read readType readLists)
      term-by-in ws h = on_either (GotIn (TreeIn P K)) (is fun ws) _ _ (on_step (GotIn BindsIn) (GotIn (TreeIn P K)) (binds_from readLists (length ws) (behind ws)) _ (binds-in (length ws) (behind ws) (behind-in ws h)) λ xs g. bound-body-in (function_tree (place ws) xs.value) (λ t e a. function-in (place ws) xs.value t e g.0 a) xs.rest g.1) (on_either (GotIn (TreeIn P K)) (is fix ws) _ _ (on_step (GotIn (BoundIn P)) (GotIn (TreeIn P K)) (name_at (behind ws)) _ (name_in (behind ws) (behind-in ws h)) λ x g. bound-body-in (Trees.fix (place ws) x.value) (λ t e a. (g.0, a)) x.rest g.1) (on_either (GotIn (TreeIn P K)) (is lets ws) _ _ (let-in (place ws) (behind ws) (behind-in ws h)) (spine-in ws h)))

  term_in : (more : ℕ) → Reads (TreeIn P K) (term_at more)
  term_in zero ws h = tt
  term_in (suc more) ws h = term-by-in (λ us. term_at more us) (term_in more) (λ us. lists_at (suc more) us) (lists-in (suc more)) (λ us. type_at more false us) (type_in_lem more false) ws h

  -- ---- items

  body_in : {A : Type 0} (Q : A → Type 0) (m : Answer (Got A)) (build : A → Body) → ((a : A) → Q a → BodyIn P K (build a)) → On (GotIn Q) m → On (GotIn (BodyIn P K)) (m >>= λ x. got (build x.value) x.rest)
  body_in Q m build k h = on_step (GotIn Q) (GotIn (BodyIn P K)) m (λ x. got (build x.value) x.rest) h λ x g. (k x.value g.0, g.1)

  type-body-in : Reads (BodyIn P K) type_body
  type-body-in ws h = body_in Free (type_at most_nested false ws) of_type (λ t _. tt) (type_in_lem most_nested false ws h)

  term-body-in : Reads (BodyIn P K) term_body
  term-body-in ws h = body_in (TreeIn P K) (term_at most_nested ws) of_term (λ e i. i) (term_in most_nested ws h)

  clause-at-in : (read : List Word → Answer (Got Body)) → Reads (BodyIn P K) read → Reads (ClauseIn P K) (clause_at read)
  clause-at-in read r ws h =
      on_step (GotIn (BoundIn P)) (GotIn (ClauseIn P K)) (name_at ws) _ (name_in ws h) λ x g.
      on_step (GotIn Free) (GotIn (ClauseIn P K)) (parameters_at x.rest) _ (parameters-in x.rest g.1) λ ts i.
      on_step (GotIn Free) (GotIn (ClauseIn P K)) (numbers_at ts.rest) _ (numbers_in_lem ts.rest i.1) λ ks j.
      on_step In (GotIn (ClauseIn P K)) (expect equals ks.rest) _ (expect-in equals ks.rest j.1) λ us k.
      on_step (GotIn (BodyIn P K)) (GotIn (ClauseIn P K)) (read us) _ (r us k) λ b l. (l.0, l.1)

  abbrev ItemsIn : Items → Type 0
  ItemsIn items = All (ClauseIn P K) items.clauses

  with-clause-in : (items : Items) (c : Clause) → ItemsIn items → ClauseIn P K c → On ItemsIn (with_clause items c)
  with-clause-in items c h k =
      on_any ItemsIn (need (ltb (length items.clauses) most_clauses) 34 c.head.place) _ λ _.
      on_any ItemsIn (need (may_follow_all items.clauses c) 36 c.head.place) _ λ _. all_both (ClauseIn P K) items.clauses (c ∷ []) h (k, tt)

  items-in : (rounds : ℕ) (items : Items) (ws : List Word) → ItemsIn items → In ws → On (GotIn ItemsIn) (items_from rounds items ws)
  items-in zero items ws k h = (k, h)
  items-in (suc rounds) items ws k h =
      on_either (GotIn ItemsIn) (is ends ws) _ _ (k, h) (on_either (GotIn ItemsIn) (is table ws) _ _ (on_step (GotIn (All Free)) (GotIn ItemsIn) (list_from (λ us. type_at most_nested false us) (length ws) (behind ws)) (λ ts. items_from rounds (with_lines items ts.value) ts.rest) (list-in Free (λ us. type_at most_nested false us) (type_in_lem most_nested false) (length ws) (behind ws) (behind-in ws h)) λ ts g. items-in rounds (with_lines items ts.value) ts.rest k g.1) (on_step (GotIn (ClauseIn P K)) (GotIn ItemsIn) (cond (is type ws) (clause_at type_body (behind ws)) (clause_at term_body ws)) (λ c. with_clause items c.value >>= λ next. items_from rounds next c.rest) (on_either (GotIn (ClauseIn P K)) (is type ws) (clause_at type_body (behind ws)) (clause_at term_body ws) (clause-at-in type_body type-body-in (behind ws) (behind-in ws h)) (clause-at-in term_body term-body-in ws h)) λ c g. on_step ItemsIn (GotIn ItemsIn) (with_clause items c.value) (λ next. items_from rounds next c.rest) (with-clause-in items c.value k g.0) λ next i. items-in rounds next c.rest i g.1))

  edition_in : Reads Free edition_at
  edition_in ws h = on_either (GotIn Free) (is edition ws) _ _ (on_any (GotIn Free) (value_of (peek (behind ws)).token (place (behind ws))) _ λ k. on_any (GotIn Free) (need (eqb k 1 || eqb k 2) 32 (place (behind ws))) _ λ _. (tt, behind-in (behind ws) (behind-in ws h))) (tt, h)

  -- the clauses of a text carry what its words do
  pub text_in : (ws : List Word) → In ws → On (λ (X : Text). All (ClauseIn P K) X.clauses) (text_of ws)
  unfolding text_of
  text_in ws h =
      on_step (GotIn Free) (λ (X : Text). All (ClauseIn P K) X.clauses) (edition_at ws) _ (edition_in ws h) λ E g.
      on_step (GotIn ItemsIn) (λ (X : Text). All (ClauseIn P K) X.clauses) (items_from (length ws) no_items E.rest) _ (items-in (length ws) no_items E.rest tt g.1) λ items i. i.0
