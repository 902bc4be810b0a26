-- The grammar refuses at words: what holds of the place of every word, the end's too, holds of the place of each refusal, and of every place
-- that the trees name. The end is the last word, and is never passed. Assumes nothing.
use Prim.Native.Nat.{ℕ, zero, suc}
use mathlib.Core.Path.{subst}
use mathlib.Core.Bool.{Bool, true, false, not, ◌||◌, cond}
use mathlib.Core.List.{List, [], ◌∷◌}
use lib.Dec.{T, eqb, eqb→eq, leb, ltb}
use lib.ListN.{length}
use Rattle.calculus.specs.Answer.{Answer, numbered, ◌>>=◌}
use Rattle.calculus.specs.Record.{All}
use Rattle.sheet_theorems.proofs.Judging.{Judged, value, refusal, Any, of_bind, of_require}
use Rattle.notation_calculus.specs.Words.{Sign, sign_code, ends, fun, fix, lets, within, type, edition, table, arrow, linear, times, round, endRound, equals, comma, colon, dot, square, endSquare, curly, endCurly, plus, power, Token, sign, part, number, name, Word}
use Rattle.notation_calculus.specs.Trees.{Bound, Number, Form, product, TypeTree, TypeAtom, inside, Side, nothing, TypeTrees, Tree, apart, Atom, tuple, Trees, Body, of_type, of_term, Clause, Line, Text}
use Rattle.notation_calculus.specs.Trees as Trees
use Rattle.notation_calculus.specs.Grammar.{most_nested, most_clauses, Got, got, peek, behind, place, is_token, is, expect, bound_name, name_at, value_of, list_from, read_number, number_at, numbers_at, parameters_at, types_of, arguments_at, ones_at, type_atom_of, side_at, product_at, arrow_at, type_at, begins_atom, trees_from, read_atom, atoms_from, spine_at, names_from, Group, Lists, Item, item_at, bounds_of, groups_of, lists_at, groups_tree, apart_tree, Binds, binds_each, binds_pair, binds_from, function_tree, bound_body, let_body, let_at, term_by, term_at, may_follow_all, Items, no_items, with_clause, lines_of, with_lines, clause_at, type_body, term_body, items_from, edition_at, text_of}
use Rattle.notation_theorems.specs.Standing.{Two, BoundOn, NumberOn, TypeOn, TypeAtomOn, SideOn, TypesOn, TreeOn, AtomOn, AtomsOn, TreesOn, BodyOn, ClauseOn, TypeLineOn, TextOn}
use Rattle.notation_theorems.proofs.Counting.{all_both}
use Rattle.notation_theorems.proofs.Telling.{RefusedOn, misread, beyond, again, of_tests, of_either}

-- the last word is the end
abbrev pub Ended : List Word → Type 0
Ended [] = ⊥
Ended (w ∷ []) = T (is_token ends w.token)
Ended (w ∷ u ∷ us) = Ended (u ∷ us)

-- a word that can be passed
abbrev Passes : Token → Type 0
Passes k = T (not (is_token ends k))

abbrev NotEnd : Sign → Type 0
NotEnd s = T (not (eqb (sign_code ends) (sign_code s)))

never_both : (b : Bool) → T b → T (not b) → ⊥
never_both true h k = k
never_both false h k = h

sign_passes : (s : Sign) (k : Token) → NotEnd s → T (is_token s k) → Passes k
sign_passes s (sign t) n e = subst (λ (c : ℕ). T (not (eqb (sign_code ends) c))) (eqb→eq (sign_code s) (sign_code t) e) n
sign_passes s (part p) n e = tt
sign_passes s (number m) n e = tt
sign_passes s (name m) n e = tt

two_bounds : (xs : List Item) → T (leb 2 (length xs)) → Two (bounds_of xs)
two_bounds [] h = absurd h
two_bounds (x ∷ []) h = absurd h
two_bounds (x ∷ y ∷ xs) h = tt

module _ (P : ℕ → Type 0) where
  abbrev pub In : List Word → Type 0
  In ws = All (λ (w : Word). P w.place) ws × Ended ws

  abbrev GotOn : {A : Type 0} → (A → Type 0) → Got A → Type 0
  GotOn Q g = Q g.value × In g.rest

  abbrev Reads : {A : Type 0} → (A → Type 0) → (List Word → Answer (Got A)) → Type 0
  Reads Q read = (ws : List Word) → In ws → Judged (RefusedOn P) (GotOn Q) (read ws)

  -- ---- words

  here : (ws : List Word) → In ws → P (place ws)
  here [] h = absurd h.1
  here (w ∷ ws) h = h.0.0

  passed : (ws : List Word) → In ws → Passes (peek ws).token → In (behind ws)
  passed [] h t = absurd h.1
  passed (w ∷ []) h t = absurd (never_both (is_token ends w.token) h.1 t)
  passed (w ∷ u ∷ us) h t = (h.0.1, h.1)

  past : (s : Sign) (ws : List Word) → NotEnd s → In ws → T (is s ws) → In (behind ws)
  past s ws n h t = passed ws h (sign_passes s (peek ws).token n t)

  expect-tells : (s : Sign) (ws : List Word) → NotEnd s → In ws → Judged (RefusedOn P) In (expect s ws)
  expect-tells s ws n h = of_require (is s ws) (numbered 32 (place ws)) _ (λ _. misread (place ws) (here ws h)) λ t. value (past s ws n h t)

  bound-tells : (k : Token) (at : ℕ) → P at → Judged (RefusedOn P) (λ (x : Bound). BoundOn P x × Passes k) (bound_name k at)
  bound-tells (sign t) at h = refusal (misread at h)
  bound-tells (part p) at h = refusal (misread at h)
  bound-tells (number n) at h = refusal (misread at h)
  bound-tells (name n) at h = value (h, tt)

  name-tells : Reads (BoundOn P) name_at
  name-tells ws h = of_bind (bound_name (peek ws).token (place ws)) _ (bound-tells (peek ws).token (place ws) (here ws h)) λ x _ g. value (g.0, passed ws h g.1)

  value_tells : (k : Token) (at : ℕ) → P at → Judged (RefusedOn P) (λ (n : ℕ). Passes k) (value_of k at)
  value_tells (sign t) at h = refusal (misread at h)
  value_tells (part p) at h = refusal (misread at h)
  value_tells (number n) at h = value tt
  value_tells (name n) at h = refusal (misread at h)

  list_tells : {A : Type 0} (Q : A → Type 0) (read : List Word → Answer (Got A)) → Reads Q read → (rounds : ℕ) → Reads (All Q) (list_from read rounds)
  list_tells Q read r zero ws h = refusal (misread (place ws) (here ws h))
  list_tells Q read r (suc rounds) ws h =
      of_bind (read ws) _ (r ws h) λ x _ g.
      of_tests (is comma x.rest) _ _ (λ t. of_bind (list_from read rounds (behind x.rest)) _ (list_tells Q read r rounds (behind x.rest) (past comma x.rest tt g.1 t)) λ xs _ gs. value ((g.0, gs.0), gs.1)) λ _. value ((g.0, tt), g.1)

  -- ---- numbers, parameters and arguments

  number-of-tells : (k : Token) (ws : List Word) → In ws → (Passes k → In (behind ws)) → Judged (RefusedOn P) (GotOn (NumberOn P)) (read_number k ws)
  number-of-tells (sign t) ws h n = refusal (misread (place ws) (here ws h))
  number-of-tells (part p) ws h n = refusal (misread (place ws) (here ws h))
  number-of-tells (number k) ws h n = value (here ws h, n tt)
  number-of-tells (name x) ws h n =
      of_tests (is plus (behind ws)) _ _ (λ t.
      let i : In (behind (behind ws)) = past plus (behind ws) tt (n tt) t in
      of_bind (value_of (peek (behind (behind ws))).token (place (behind (behind ws)))) _ (value_tells (peek (behind (behind ws))).token (place (behind (behind ws))) (here (behind (behind ws)) i)) λ k _ g. value (here ws h, passed (behind (behind ws)) i g)) λ _. value (here ws h, n tt)

  number_tells : Reads (NumberOn P) number_at
  number_tells ws h = number-of-tells (peek ws).token ws h (passed ws h)

  -- a list between two signs
  closed-tells : {A B : Type 0} (Q : A → Type 0) (R : B → Type 0) (m : Answer (Got A)) (s : Sign) (build : A → B) → NotEnd s → ((a : A) → Q a → R (build a)) → Judged (RefusedOn P) (GotOn Q) m → Judged (RefusedOn P) (GotOn R) (m >>= λ x. expect s x.rest >>= λ ws. got (build x.value) ws)
  closed-tells Q R m s build n k h = of_bind m _ h λ x _ g. of_bind (expect s x.rest) _ (expect-tells s x.rest n g.1) λ ws _ i. value (k x.value g.0, i)

  numbers-tells : Reads (All (NumberOn P)) numbers_at
  numbers-tells ws h = of_tests (is curly ws) _ _ (λ t. closed-tells (All (NumberOn P)) (All (NumberOn P)) (list_from number_at (length ws) (behind ws)) endCurly (λ ns. ns) tt (λ ns a. a) (list_tells (NumberOn P) number_at number_tells (length ws) (behind ws) (past curly ws tt h t))) λ _. value (tt, h)

  parameters-tells : Reads (All (BoundOn P)) parameters_at
  parameters-tells ws h = of_tests (is square ws) _ _ (λ t. closed-tells (All (BoundOn P)) (All (BoundOn P)) (list_from name_at (length ws) (behind ws)) endSquare (λ ns. ns) tt (λ ns a. a) (list_tells (BoundOn P) name_at name-tells (length ws) (behind ws) (past square ws tt h t))) λ _. value (tt, h)

  types_on : (ts : List TypeTree) → All (TypeOn P) ts → TypesOn P (types_of ts)
  types_on [] h = tt
  types_on (t ∷ ts) h = (h.0, types_on ts h.1)

  arguments-tells : (read : List Word → Answer (Got TypeTree)) → Reads (TypeOn P) read → Reads (TypesOn P) (arguments_at read)
  arguments-tells read r ws h = of_tests (is square ws) _ _ (λ t. closed-tells (All (TypeOn P)) (TypesOn P) (list_from read (length ws) (behind ws)) endSquare types_of tt types_on (list_tells (TypeOn P) read r (length ws) (behind ws) (past square ws tt h t))) λ _. value (tt, h)

  -- ---- types

  ones-tells : Reads (TypeAtomOn P) ones_at
  ones-tells ws h = of_tests (is power ws) _ _ (λ t. of_bind (number_at (behind ws)) _ (number_tells (behind ws) (past power ws tt h t)) λ k _ g. value ((here ws h, g.0), g.1)) λ _. value (tt, h)

  type-atom-tells : (read : List Word → Answer (Got TypeTree)) → Reads (TypeOn P) read → (k : Token) (ws : List Word) → In ws → (Passes k → In (behind ws)) → Judged (RefusedOn P) (GotOn (TypeAtomOn P)) (type_atom_of read k ws)
  type-atom-tells read r (sign s) ws h n =
      of_require (is_token round (sign s)) (numbered 32 (place ws)) _ (λ _. misread (place ws) (here ws h)) λ t.
      closed-tells (TypeOn P) (TypeAtomOn P) (read (behind ws)) endRound inside tt (λ t a. a) (r (behind ws) (n (sign_passes round (sign s) tt t)))
  type-atom-tells read r (part p) ws h n = refusal (misread (place ws) (here ws h))
  type-atom-tells read r (number k) ws h n = of_require (eqb k 1) (numbered 32 (place ws)) _ (λ _. misread (place ws) (here ws h)) λ _. ones-tells (behind ws) (n tt)
  type-atom-tells read r (name x) ws h n =
      of_bind (arguments_at read (behind ws)) _ (arguments-tells read r (behind ws) (n tt)) λ ts _ g.
      of_bind (numbers_at ts.rest) _ (numbers-tells ts.rest g.1) λ ks _ i. value ((here ws h, g.0, i.0), i.1)

  side-tells : (read : List Word → Answer (Got TypeTree)) → Reads (TypeOn P) read → (f : Form) (s : Sign) (ws : List Word) → NotEnd s → In ws → T (is s ws) → Judged (RefusedOn P) (GotOn (SideOn P)) (side_at read f ws)
  side-tells read r f s ws n h t = of_bind (read (behind ws)) _ (r (behind ws) (past s ws n h t)) λ x _ g. value ((here ws h, g.0), g.1)

  product-tells : (read : List Word → Answer (Got TypeTree)) → Reads (TypeOn P) read → Reads (SideOn P) (product_at read)
  product-tells read r ws h = of_tests (is times ws) _ _ (side-tells read r product times ws tt h) λ _. value (tt, h)

  arrow-tells : (read : List Word → Answer (Got TypeTree)) → Reads (TypeOn P) read → Reads (SideOn P) (arrow_at read)
  arrow-tells read r ws h = of_tests (is arrow ws) _ _ (side-tells read r Trees.arrow arrow ws tt h) λ _. of_tests (is linear ws) _ _ (side-tells read r Trees.linear linear ws tt h) λ _. value (tt, h)

  type-tells : (more : ℕ) (tight : Bool) → Reads (TypeOn P) (type_at more tight)
  type-tells zero tight ws h = refusal (beyond (place ws) (here ws h))
  type-tells (suc more) tight ws h =
      of_bind (type_atom_of (λ us. type_at more false us) (peek ws).token ws) _ (type-atom-tells (λ us. type_at more false us) (type-tells more false) (peek ws).token ws h (passed ws h)) λ a _ f.
      of_bind (product_at (λ us. type_at more true us) a.rest) _ (product-tells (λ us. type_at more true us) (type-tells more true) a.rest f.1) λ b _ g.
      of_bind {Q = GotOn (SideOn P)} (cond tight (got nothing b.rest) (arrow_at (λ us. type_at more false us) b.rest)) _ (of_either tight (got nothing b.rest) (arrow_at (λ us. type_at more false us) b.rest) (value (tt, g.1)) (arrow-tells (λ us. type_at more false us) (type-tells more false) b.rest g.1)) λ c _ i.
      value ((here ws h, f.0, g.0, i.0), i.1)

  -- ---- terms

  abbrev GroupOn : Group → Type 0
  GroupOn g = P g.place × Two g.names × All (BoundOn P) g.names

  abbrev ListsOn : Lists → Type 0
  ListsOn ls = Two ls.names × All (BoundOn P) ls.names × All GroupOn ls.inner

  abbrev ItemOn : Item → Type 0
  ItemOn x = BoundOn P x.bound × All GroupOn x.groups

  -- lists are read where a parenthesis stands
  abbrev ReadsLists : (List Word → Answer (Got Lists)) → Type 0
  ReadsLists read = (ws : List Word) → In ws → T (is round ws) → Judged (RefusedOn P) (GotOn ListsOn) (read ws)

  item-tells : (read : List Word → Answer (Got Lists)) → ReadsLists read → Reads ItemOn (item_at read)
  item-tells read r ws h = of_tests (is round ws) _ _ (λ t. of_bind (read ws) _ (r ws h t) λ ls _ g. value ((here ws h, ((here ws h, g.0.0, g.0.1), g.0.2)), g.1)) λ _. of_bind (name_at ws) _ (name-tells ws h) λ x _ g. value ((g.0, tt), g.1)

  bounds-on : (xs : List Item) → All ItemOn xs → All (BoundOn P) (bounds_of xs)
  bounds-on [] h = tt
  bounds-on (x ∷ xs) h = (h.0.0, bounds-on xs h.1)

  groups_on : (xs : List Item) → All ItemOn xs → All GroupOn (groups_of xs)
  groups_on [] h = tt
  groups_on (x ∷ xs) h = all_both GroupOn x.groups (groups_of xs) h.0.1 (groups_on xs h.1)

  lists-tells : (more : ℕ) → ReadsLists (lists_at more)
  lists-tells zero ws h t = refusal (beyond (place ws) (here ws h))
  lists-tells (suc more) ws h t =
      of_bind (list_from (item_at (λ us. lists_at more us)) (length ws) (behind ws)) _ (list_tells ItemOn (item_at (λ us. lists_at more us)) (item-tells (λ us. lists_at more us) (lists-tells more)) (length ws) (behind ws) (past round ws tt h t)) λ xs _ g.
      of_require (leb 2 (length xs.value)) (numbered 32 (place xs.rest)) _ (λ _. misread (place xs.rest) (here xs.rest g.1)) λ two.
      of_bind (expect endRound xs.rest) _ (expect-tells endRound xs.rest tt g.1) λ us _ i. value ((two_bounds xs.value two, bounds-on xs.value g.0, groups_on xs.value g.0), i)

  groups-tree-on : (gs : List Group) (e : Tree) → All GroupOn gs → TreeOn P e → TreeOn P (groups_tree gs e)
  groups-tree-on [] e h a = a
  groups-tree-on (g ∷ gs) e h a = (h.0.0, h.0.1, h.0.2, (h.0.0, (h.0.0, tt, tt), tt), groups-tree-on gs e h.1 a)

  module _ (read : List Word → Answer (Got Tree)) (r : Reads (TreeOn P) read) (readLists : List Word → Answer (Got Lists)) (rl : ReadsLists readLists) where
    trees-tells : (rounds : ℕ) → Reads (TreesOn P) (trees_from read rounds)
    trees-tells zero ws h = value (tt, h)
    trees-tells (suc rounds) ws h = of_tests (is comma ws) _ _ (λ t. of_bind (read (behind ws)) _ (r (behind ws) (past comma ws tt h t)) λ e _ g. of_bind (trees_from read rounds e.rest) _ (trees-tells rounds e.rest g.1) λ es _ i. value ((here ws h, g.0, i.0), i.1)) λ _. value (tt, h)

    let-body-tells : (build : Tree → Tree → Tree) → ((v e : Tree) → TreeOn P v → TreeOn P e → TreeOn P (build v e)) → Reads (TreeOn P) (let_body read build)
    let-body-tells build k ws h =
        of_bind (expect equals ws) _ (expect-tells equals ws tt h) λ ws₁ _ h₁.
        of_bind (read ws₁) _ (r ws₁ h₁) λ v _ g.
        of_bind (expect within v.rest) _ (expect-tells within v.rest tt g.1) λ ws₂ _ h₂.
        of_bind (read ws₂) _ (r ws₂ h₂) λ e _ i. value (k v.value e.value g.0 i.0, i.1)

    let-tells : (at : ℕ) → P at → Reads (TreeOn P) (let_at read readLists at)
    let-tells at p ws h =
        of_tests (is round ws) _ _ (λ t. of_bind (readLists ws) _ (rl ws h t) λ ls _ g. let-body-tells (apart_tree at ls.value) (λ v e a b. (p, g.0.0, g.0.1, a, groups-tree-on ls.value.inner e g.0.2 b)) ls.rest g.1) λ _.
        of_bind (name_at ws) _ (name-tells ws h) λ x _ g. let-body-tells (Trees.name at x.value) (λ v e a b. (p, g.0, a, b)) x.rest g.1

    module _ (readType : List Word → Answer (Got TypeTree)) (rt : Reads (TypeOn P) readType) where
      atom-tells : (k : Token) (ws : List Word) → In ws → (Passes k → In (behind ws)) → Judged (RefusedOn P) (GotOn (AtomOn P)) (read_atom read readType k ws)
      atom-tells (sign s) ws h n =
          of_require (is_token round (sign s)) (numbered 32 (place ws)) _ (λ _. misread (place ws) (here ws h)) λ t.
          of_bind (read (behind ws)) _ (r (behind ws) (n (sign_passes round (sign s) tt t))) λ d _ g.
          closed-tells (TreesOn P) (AtomOn P) (trees_from read (length ws) d.rest) endRound (λ es. tuple d.value es) tt (λ es i. (g.0, i)) (trees-tells (length ws) d.rest g.1)
      atom-tells (part p) ws h n = value (here ws h, n tt)
      atom-tells (number k) ws h n = refusal (misread (place ws) (here ws h))
      atom-tells (name x) ws h n =
          of_bind (arguments_at readType (behind ws)) _ (arguments-tells readType rt (behind ws) (n tt)) λ ts _ g.
          of_bind (numbers_at ts.rest) _ (numbers-tells ts.rest g.1) λ ks _ i. value ((here ws h, g.0, i.0), i.1)

      atoms-tells : (rounds : ℕ) → Reads (AtomsOn P) (atoms_from read readType rounds)
      atoms-tells zero ws h = value (tt, h)
      atoms-tells (suc rounds) ws h = of_either (begins_atom ws) _ _ (of_bind (read_atom read readType (peek ws).token ws) _ (atom-tells (peek ws).token ws h (passed ws h)) λ a _ g. of_bind (atoms_from read readType rounds a.rest) _ (atoms-tells rounds a.rest g.1) λ es _ i. value ((g.0, i.0), i.1)) (value (tt, h))

      spine-tells : Reads (TreeOn P) (spine_at read readType)
      spine-tells ws h =
          of_bind (read_atom read readType (peek ws).token ws) _ (atom-tells (peek ws).token ws h (passed ws h)) λ a _ g.
          of_bind (atoms_from read readType (length ws) a.rest) _ (atoms-tells (length ws) a.rest g.1) λ es _ i. value ((here ws h, g.0, i.0), i.1)

      names-tells : (rounds : ℕ) → Reads (All (BoundOn P)) (names_from rounds)
      names-tells zero ws h = refusal (misread (place ws) (here ws h))
      names-tells (suc rounds) ws h =
          of_bind (name_at ws) _ (name-tells ws h) λ x _ g.
          of_either (is colon x.rest) _ _ (value ((g.0, tt), g.1)) (of_bind (names_from rounds x.rest) _ (names-tells rounds x.rest g.1) λ xs _ i. value ((g.0, i.0), i.1))

      abbrev BindsOn : Binds → Type 0
      BindsOn (binds_each xs) = All (BoundOn P) xs
      BindsOn (binds_pair at ls) = P at × ListsOn ls

      binds-tells : (rounds : ℕ) → Reads BindsOn (binds_from readLists rounds)
      binds-tells rounds ws h =
          of_tests (is round ws) _ _ (λ t. of_bind (readLists ws) _ (rl ws h t) λ ls _ g. value ((here ws h, g.0), g.1)) λ _.
          of_bind (names_from rounds ws) _ (names-tells rounds ws h) λ xs _ g. value (g.0, g.1)

      function-on : (at : ℕ) (xs : Binds) (t : TypeTree) (e : Tree) → P at → BindsOn xs → TypeOn P t → TreeOn P e → TreeOn P (function_tree at xs t e)
      function-on at (binds_each xs) t e p b c a = (p, b, c, a)
      function-on at (binds_pair q ls) t e p b c a = (p, (b.0, tt), c, (b.0, b.1.0, b.1.1, (b.0, (b.0, tt, tt), tt), groups-tree-on ls.inner e b.1.2 a))

      bound-body-tells : (build : TypeTree → Tree → Tree) → ((t : TypeTree) (e : Tree) → TypeOn P t → TreeOn P e → TreeOn P (build t e)) → Reads (TreeOn P) (bound_body read readType build)
      bound-body-tells build k ws h =
          of_bind (expect colon ws) _ (expect-tells colon ws tt h) λ ws₁ _ h₁.
          of_bind (readType ws₁) _ (rt ws₁ h₁) λ t _ g.
          of_bind (expect dot t.rest) _ (expect-tells dot t.rest tt g.1) λ ws₂ _ h₂.
          of_bind (read ws₂) _ (r ws₂ h₂) λ e _ i. value (k t.value e.value g.0 i.0, i.1)

      term-by-tells : Reads (TreeOn P) (term_by read readType readLists)
      term-by-tells ws h =
          of_tests (is fun ws) _ _ (λ t. of_bind (binds_from readLists (length ws) (behind ws)) _ (binds-tells (length ws) (behind ws) (past fun ws tt h t)) λ xs _ g. bound-body-tells (function_tree (place ws) xs.value) (λ t e c a. function-on (place ws) xs.value t e (here ws h) g.0 c a) xs.rest g.1) λ _.
          of_tests (is fix ws) _ _ (λ t. of_bind (name_at (behind ws)) _ (name-tells (behind ws) (past fix ws tt h t)) λ x _ g. bound-body-tells (Trees.fix (place ws) x.value) (λ t e c a. (here ws h, g.0, c, a)) x.rest g.1) λ _.
          of_tests (is lets ws) _ _ (λ t. let-tells (place ws) (here ws h) (behind ws) (past lets ws tt h t)) λ _. spine-tells ws h

  term-tells : (more : ℕ) → Reads (TreeOn P) (term_at more)
  term-tells zero ws h = refusal (beyond (place ws) (here ws h))
  term-tells (suc more) ws h = term-by-tells (λ us. term_at more us) (term-tells more) (λ us. lists_at (suc more) us) (lists-tells (suc more)) (λ us. type_at more false us) (type-tells more false) ws h

  -- ---- items

  body-tells : {A : Type 0} (Q : A → Type 0) (m : Answer (Got A)) (build : A → Body) → ((a : A) → Q a → BodyOn P (build a)) → Judged (RefusedOn P) (GotOn Q) m → Judged (RefusedOn P) (GotOn (BodyOn P)) (m >>= λ x. got (build x.value) x.rest)
  body-tells Q m build k h = of_bind m _ h λ x _ g. value (k x.value g.0, g.1)

  type-body-tells : Reads (BodyOn P) type_body
  type-body-tells ws h = body-tells (TypeOn P) (type_at most_nested false ws) of_type (λ t a. a) (type-tells most_nested false ws h)

  term-body-tells : Reads (BodyOn P) term_body
  term-body-tells ws h = body-tells (TreeOn P) (term_at most_nested ws) of_term (λ e a. a) (term-tells most_nested ws h)

  clause-at-tells : (read : List Word → Answer (Got Body)) → Reads (BodyOn P) read → Reads (ClauseOn P) (clause_at read)
  clause-at-tells read r ws h =
      of_bind (name_at ws) _ (name-tells ws h) λ x _ g.
      of_bind (parameters_at x.rest) _ (parameters-tells x.rest g.1) λ ts _ i.
      of_bind (numbers_at ts.rest) _ (numbers-tells ts.rest i.1) λ ks _ j.
      of_bind (expect equals ks.rest) _ (expect-tells equals ks.rest tt j.1) λ us _ k.
      of_bind (read us) _ (r us k) λ b _ l. value ((g.0, l.0), l.1)

  abbrev ItemsOn : Items → Type 0
  ItemsOn items = All (ClauseOn P) items.clauses × All (TypeLineOn P) items.lines

  with-clause-tells : (items : Items) (c : Clause) → ItemsOn items → ClauseOn P c → Judged (RefusedOn P) ItemsOn (with_clause items c)
  with-clause-tells items c h k =
      of_require (ltb (length items.clauses) most_clauses) (numbered 34 c.head.place) _ (λ _. beyond c.head.place k.0) λ _.
      of_require (may_follow_all items.clauses c) (numbered 36 c.head.place) _ (λ _. again c.head.place k.0) λ _.
      value (all_both (ClauseOn P) items.clauses (c ∷ []) h.0 (k, tt), h.1)

  lines-on : (seen : ℕ) (ts : List TypeTree) → All (TypeOn P) ts → All (TypeLineOn P) (lines_of seen ts)
  lines-on seen [] h = tt
  lines-on seen (t ∷ ts) h = (h.0, lines-on seen ts h.1)

  with-lines-on : (items : Items) (ts : List TypeTree) → ItemsOn items → All (TypeOn P) ts → ItemsOn (with_lines items ts)
  with-lines-on items ts h k = (h.0, all_both (TypeLineOn P) items.lines (lines_of (length items.clauses) ts) h.1 (lines-on (length items.clauses) ts k))

  items-tells : (rounds : ℕ) (items : Items) (ws : List Word) → ItemsOn items → In ws → Judged (RefusedOn P) (GotOn ItemsOn) (items_from rounds items ws)
  items-tells zero items ws k h = value (k, h)
  items-tells (suc rounds) items ws k h =
      of_either (is ends ws) _ _ (value (k, h)) (of_tests (is table ws) _ _ (λ t. of_bind (list_from (λ us. type_at most_nested false us) (length ws) (behind ws)) (λ ts. items_from rounds (with_lines items ts.value) ts.rest) (list_tells (TypeOn P) (λ us. type_at most_nested false us) (type-tells most_nested false) (length ws) (behind ws) (past table ws tt h t)) λ ts _ g. items-tells rounds (with_lines items ts.value) ts.rest (with-lines-on items ts.value k g.0) g.1) λ _.
      of_bind {Q = GotOn (ClauseOn P)} (cond (is type ws) (clause_at type_body (behind ws)) (clause_at term_body ws)) (λ c. with_clause items c.value >>= λ next. items_from rounds next c.rest) (of_tests (is type ws) (clause_at type_body (behind ws)) (clause_at term_body ws) (λ t. clause-at-tells type_body type-body-tells (behind ws) (past type ws tt h t)) λ _. clause-at-tells term_body term-body-tells ws h) λ c _ g.
      of_bind (with_clause items c.value) (λ next. items_from rounds next c.rest) (with-clause-tells items c.value k g.0) λ next _ i. items-tells rounds next c.rest i g.1)

  edition-tells : Reads Any edition_at
  edition-tells ws h = of_tests (is edition ws) _ _ (λ t.
      let i : In (behind ws) = past edition ws tt h t in
      of_bind (value_of (peek (behind ws)).token (place (behind ws))) _ (value_tells (peek (behind ws)).token (place (behind ws)) (here (behind ws) i)) λ k _ n.
      of_require (eqb k 1 || eqb k 2) (numbered 32 (place (behind ws))) _ (λ _. misread (place (behind ws)) (here (behind ws) i)) λ _. value (tt, passed (behind ws) i n)) λ _. value (tt, h)

  pub text_tells : (ws : List Word) → In ws → Judged (RefusedOn P) (TextOn P) (text_of ws)
  unfolding text_of
  text_tells ws h =
      of_bind (edition_at ws) _ (edition-tells ws h) λ E _ g.
      of_bind (items_from (length ws) no_items E.rest) _ (items-tells (length ws) no_items E.rest (tt, tt) g.1) λ items _ i.
      value (record { clauses = i.0.0; lines = i.0.1; end = here items.rest i.1 })
