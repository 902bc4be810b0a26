-- The grammar (docs/NOTATION.md): words to a text's definitions; refusals 32, 34 and 36. Assumes nothing.
-- `more` is how many levels may still stand in one another, `rounds` how often a loop may go round: more than words are never needed.
use Rattle.std.specs.Prelude.{ℕ, zero, suc, ◌+◌, Bool, true, false, not, ◌&&◌, ◌||◌, cond, List, [], ◌∷◌, ◌++◌, eqb, leb, ltb, length, get_or, drop}
use Rattle.calculus.specs.Answer.{Answer, good, ◌>>=◌, refuse, need}
use Rattle.calculus.specs.Terms.{Edition}
use Rattle.calculus.specs.Terms as Terms
use Rattle.notation_calculus.specs.Words.{Name, same_name, Sign, sign_code, ends, fun, fix, lets, within, type, edition, table, arrow, linear, times, round, endRound, equals, comma, colon, dot, square, endSquare, curly, endCurly, plus, power, Token, sign, part, number, name, Word}
use Rattle.notation_calculus.specs.Trees.{Bound, Number, Form, product, TypeTree, typed, TypeAtom, one, ones, inside, typeNamed, Side, nothing, side, TypeTrees, no_types, types, Tree, spine, apart, Atom, named, tuple, Atoms, noAtoms, atoms, Trees, noTrees, trees, Body, of_type, of_term, Clause, Line, Text}
use Rattle.notation_calculus.specs.Trees as Trees

-- terms, types and definitions in one another, in the text and where they are put in
abbrev pub most_nested : ℕ
most_nested = 80

abbrev pub most_clauses : ℕ
most_clauses = 256

-- what was read, and the words behind it
pub record Got (A : Type 0) : Type 0 where
  pub value : A
  pub rest : List Word

abbrev pub got : {A : Type 0} → A → List Word → Answer (Got A)
got a ws = good (record { value = a; rest = ws })

-- ---- words

-- the last word is the end, and is never passed
abbrev pub peek : List Word → Word
peek ws = get_or ws 0 (record { token = sign ends; place = 0 })

abbrev pub behind : List Word → List Word
behind ws = drop 1 ws

abbrev pub place : List Word → ℕ
place ws = (peek ws).place

abbrev pub is_token : Sign → Token → Bool
is_token s (sign t) = eqb (sign_code s) (sign_code t)
is_token s (part p) = false
is_token s (number n) = false
is_token s (name n) = false

abbrev pub is : Sign → List Word → Bool
is s ws = is_token s (peek ws).token

abbrev pub expect : Sign → List Word → Answer (List Word)
expect s ws = do
  _ ← need (is s ws) 32 (place ws)
  good (behind ws)

abbrev pub bound_name : Token → ℕ → Answer Bound
bound_name (sign t) at = refuse 32 at
bound_name (part p) at = refuse 32 at
bound_name (number n) at = refuse 32 at
bound_name (name n) at = good (record { name = n; place = at })

abbrev pub name_at : List Word → Answer (Got Bound)
name_at ws = do
  n ← bound_name (peek ws).token (place ws)
  got n (behind ws)

abbrev pub is_name : Token → Bool
is_name (sign t) = false
is_name (part p) = false
is_name (number n) = false
is_name (name n) = true

abbrev pub value_of : Token → ℕ → Answer ℕ
value_of (sign t) at = refuse 32 at
value_of (part p) at = refuse 32 at
value_of (number n) at = good n
value_of (name n) at = refuse 32 at

-- one or more, with commas between
abbrev pub list_from : {A : Type 0} → (List Word → Answer (Got A)) → ℕ → List Word → Answer (Got (List A))
list_from read zero ws = refuse 32 (place ws)
list_from read (suc rounds) ws = do
  x ← read ws
  cond (is comma x.rest) (do
    xs ← list_from read rounds (behind x.rest)
    got (x.value ∷ xs.value) xs.rest) (got (x.value ∷ []) x.rest)

-- ---- numbers, parameters and arguments

abbrev pub read_number : Token → List Word → Answer (Got Number)
read_number (sign t) ws = refuse 32 (place ws)
read_number (part p) ws = refuse 32 (place ws)
read_number (number k) ws = got (record { is_open = false; name = []; plus = k; place = place ws }) (behind ws)
read_number (name n) ws = cond (is plus (behind ws)) (do
  k ← value_of (peek (behind (behind ws))).token (place (behind (behind ws)))
  got (record { is_open = true; name = n; plus = k; place = place ws }) (behind (behind (behind ws)))) (got (record { is_open = true; name = n; plus = 0; place = place ws }) (behind ws))

abbrev pub number_at : List Word → Answer (Got Number)
number_at ws = read_number (peek ws).token ws

-- { .. }, or nothing
abbrev pub numbers_at : List Word → Answer (Got (List Number))
numbers_at ws = cond (is curly ws) (do
  ns ← list_from number_at (length ws) (behind ws)
  after ← expect endCurly ns.rest
  got ns.value after) (got [] ws)

-- [ a, b ], or nothing
abbrev pub parameters_at : List Word → Answer (Got (List Bound))
parameters_at ws = cond (is square ws) (do
  ns ← list_from name_at (length ws) (behind ws)
  after ← expect endSquare ns.rest
  got ns.value after) (got [] ws)

abbrev pub types_of : List TypeTree → TypeTrees
types_of [] = no_types
types_of (t ∷ ts) = types t (types_of ts)

-- [ type, type ], or nothing
abbrev pub arguments_at : (List Word → Answer (Got TypeTree)) → List Word → Answer (Got TypeTrees)
arguments_at read ws = cond (is square ws) (do
  ts ← list_from read (length ws) (behind ws)
  after ← expect endSquare ts.rest
  got (types_of ts.value) after) (got no_types ws)

-- ---- types

-- behind a 1: a sign and how many stand in a row, or nothing
abbrev pub ones_at : List Word → Answer (Got TypeAtom)
ones_at ws = cond (is power ws) (do
  k ← number_at (behind ws)
  got (ones (place ws) k.value) k.rest) (got one ws)

abbrev pub type_atom_of : (List Word → Answer (Got TypeTree)) → Token → List Word → Answer (Got TypeAtom)
type_atom_of read (sign t) ws = do
  _ ← need (is_token round (sign t)) 32 (place ws)
  t ← read (behind ws)
  after ← expect endRound t.rest
  got (inside t.value) after
type_atom_of read (part p) ws = refuse 32 (place ws)
type_atom_of read (number k) ws = do
  _ ← need (eqb k 1) 32 (place ws)
  ones_at (behind ws)
type_atom_of read (name n) ws = do
  ts ← arguments_at read (behind ws)
  ks ← numbers_at ts.rest
  got (typeNamed (place ws) n ts.value ks.value) ks.rest

-- a sign and the type behind it
abbrev pub side_at : (List Word → Answer (Got TypeTree)) → Form → List Word → Answer (Got Side)
side_at read f ws = do
  t ← read (behind ws)
  got (side f (place ws) t.value) t.rest

abbrev pub product_at : (List Word → Answer (Got TypeTree)) → List Word → Answer (Got Side)
product_at read ws = cond (is times ws) (side_at read product ws) (got nothing ws)

abbrev pub arrow_at : (List Word → Answer (Got TypeTree)) → List Word → Answer (Got Side)
arrow_at read ws = cond (is arrow ws) (side_at read Trees.arrow ws) (cond (is linear ws) (side_at read Trees.linear ws) (got nothing ws))

-- arrows and products nest to the right, products bind closer; yes means a product, behind which no arrow is read
abbrev pub type_at : ℕ → Bool → List Word → Answer (Got TypeTree)
type_at zero tight ws = refuse 34 (place ws)
type_at (suc more) tight ws = do
  a ← type_atom_of (λ us. type_at more false us) (peek ws).token ws
  b ← product_at (λ us. type_at more true us) a.rest
  c ← cond tight (got nothing b.rest) (arrow_at (λ us. type_at more false us) b.rest)
  got (typed (place ws) a.value b.value c.value) c.rest

-- ---- terms

-- the words behind a group in brackets that opens at the first of them, where `deep` groups are open
abbrev pub behind_group : ℕ → List Word → List Word
behind_group deep [] = []
behind_group zero (w ∷ ws) = cond (is square (w ∷ []) || is curly (w ∷ [])) (behind_group 1 ws) (w ∷ ws)
behind_group (suc deep) (w ∷ ws) = cond (is square (w ∷ []) || is curly (w ∷ [])) (behind_group (suc (suc deep)) ws) (cond (is endSquare (w ∷ []) || is endCurly (w ∷ [])) (behind_group deep ws) (behind_group (suc deep) ws))

-- a definition begins here: a name, its groups, and `=`
abbrev pub is_head : List Word → Bool
is_head ws = is_name (peek ws).token && is equals (behind_group 0 (behind ws))

abbrev pub is_part : Token → Bool
is_part (sign t) = false
is_part (part p) = true
is_part (number n) = false
is_part (name n) = false

abbrev pub begins_atom : List Word → Bool
begins_atom ws = is round ws || is_part (peek ws).token || (is_name (peek ws).token && not (is_head ws))

-- , e , e ..
abbrev pub trees_from : (List Word → Answer (Got Tree)) → ℕ → List Word → Answer (Got Trees)
trees_from read zero ws = got noTrees ws
trees_from read (suc rounds) ws = cond (is comma ws) (do
  e ← read (behind ws)
  es ← trees_from read rounds e.rest
  got (trees (place ws) e.value es.value) es.rest) (got noTrees ws)

abbrev pub read_atom : (List Word → Answer (Got Tree)) → (List Word → Answer (Got TypeTree)) → Token → List Word → Answer (Got Atom)
read_atom read readType (sign t) ws = do
  _ ← need (is_token round (sign t)) 32 (place ws)
  e ← read (behind ws)
  es ← trees_from read (length ws) e.rest
  after ← expect endRound es.rest
  got (tuple e.value es.value) after
read_atom read readType (part p) ws = got (Trees.part (place ws) p) (behind ws)
read_atom read readType (number k) ws = refuse 32 (place ws)
read_atom read readType (name n) ws = do
  ts ← arguments_at readType (behind ws)
  ks ← numbers_at ts.rest
  got (named (place ws) n ts.value ks.value) ks.rest

abbrev pub atoms_from : (List Word → Answer (Got Tree)) → (List Word → Answer (Got TypeTree)) → ℕ → List Word → Answer (Got Atoms)
atoms_from read readType zero ws = got noAtoms ws
atoms_from read readType (suc rounds) ws = cond (begins_atom ws) (do
  a ← read_atom read readType (peek ws).token ws
  rest' ← atoms_from read readType rounds a.rest
  got (atoms a.value rest'.value) rest'.rest) (got noAtoms ws)

abbrev pub spine_at : (List Word → Answer (Got Tree)) → (List Word → Answer (Got TypeTree)) → List Word → Answer (Got Tree)
spine_at read readType ws = do
  f ← read_atom read readType (peek ws).token ws
  rest' ← atoms_from read readType (length ws) f.rest
  got (spine (place ws) f.value rest'.value) rest'.rest

-- names up to the colon
abbrev pub names_from : ℕ → List Word → Answer (Got (List Bound))
names_from zero ws = refuse 32 (place ws)
names_from (suc rounds) ws = do
  x ← name_at ws
  cond (is colon x.rest) (got (x.value ∷ []) x.rest) (do
    xs ← names_from rounds x.rest
    got (x.value ∷ xs.value) xs.rest)

-- a variable that no text can name: no byte is above 255
abbrev pub nameless : ℕ → Bound
nameless at = record { name = (256 + at) ∷ []; place = at }

-- a list in parentheses at a place, into whose names the nameless variable of that place is taken apart
pub record Group : Type 0 where
  pub place : ℕ
  pub names : List Bound

-- the names of a list, and the lists in it, in the order of the text; for each of them its nameless variable stands among the names
pub record Lists : Type 0 where
  pub names : List Bound
  pub inner : List Group

-- one of a list: a name, or a list
pub record Item : Type 0 where
  pub bound : Bound
  pub groups : List Group

abbrev pub group_at : ℕ → Lists → List Group
group_at at ls = record { place = at; names = ls.names } ∷ ls.inner

abbrev pub item_at : (List Word → Answer (Got Lists)) → List Word → Answer (Got Item)
item_at read ws = cond (is round ws) (do
  ls ← read ws
  got (record { bound = nameless (place ws); groups = group_at (place ws) ls.value }) ls.rest) (do
    x ← name_at ws
    got (record { bound = x.value; groups = [] }) x.rest)

abbrev pub bounds_of : List Item → List Bound
bounds_of [] = []
bounds_of (x ∷ xs) = x.bound ∷ bounds_of xs

abbrev pub groups_of : List Item → List Group
groups_of [] = []
groups_of (x ∷ xs) = x.groups ++ groups_of xs

-- ( names and lists, two at least ); a list in a list is a level more
abbrev pub lists_at : ℕ → List Word → Answer (Got Lists)
lists_at zero ws = refuse 34 (place ws)
lists_at (suc more) ws = do
  xs ← list_from (item_at (λ us. lists_at more us)) (length ws) (behind ws)
  _ ← need (leb 2 (length xs.value)) 32 (place xs.rest)
  after ← expect endRound xs.rest
  got (record { names = bounds_of xs.value; inner = groups_of xs.value }) after

-- each list's variable is taken apart, in the body of the list before it
abbrev pub groups_tree : List Group → Tree → Tree
groups_tree [] e = e
groups_tree (g ∷ gs) e = apart g.place g.names (spine g.place (named g.place (nameless g.place).name no_types []) noAtoms) (groups_tree gs e)

-- what `fun` binds: names, or a list, at a place, into which its variable is taken apart
pub data Binds : Type 0 where
  binds_each : List Bound → Binds
  binds_pair : ℕ → Lists → Binds

abbrev pub binds_from : (List Word → Answer (Got Lists)) → ℕ → List Word → Answer (Got Binds)
binds_from readLists rounds ws = cond (is round ws) (do
  ls ← readLists ws
  got (binds_pair (place ws) ls.value) ls.rest) (do
    xs ← names_from rounds ws
    got (binds_each xs.value) xs.rest)

-- fun (a, b) : t. e is fun p : t. let (a, b) = p in e, where p is nameless
abbrev pub function_tree : ℕ → Binds → TypeTree → Tree → Tree
function_tree at (binds_each xs) t e = Trees.fun at xs t e
function_tree at (binds_pair p ls) t e = Trees.fun at (nameless p ∷ []) t (groups_tree (group_at p ls) e)

-- let ((a, b), c) = v in e is let (p, c) = v in let (a, b) = p in e, where p is nameless
abbrev pub apart_tree : ℕ → Lists → Tree → Tree → Tree
apart_tree at ls v e = apart at ls.names v (groups_tree ls.inner e)

-- : type . term
abbrev pub bound_body : (List Word → Answer (Got Tree)) → (List Word → Answer (Got TypeTree)) → (TypeTree → Tree → Tree) → List Word → Answer (Got Tree)
bound_body read readType build ws = do
  ws₁ ← expect colon ws
  t ← readType ws₁
  ws₂ ← expect dot t.rest
  e ← read ws₂
  got (build t.value e.value) e.rest

-- = term in term
abbrev pub let_body : (List Word → Answer (Got Tree)) → (Tree → Tree → Tree) → List Word → Answer (Got Tree)
let_body read build ws = do
  ws₁ ← expect equals ws
  v ← read ws₁
  ws₂ ← expect within v.rest
  e ← read ws₂
  got (build v.value e.value) e.rest

abbrev pub let_at : (List Word → Answer (Got Tree)) → (List Word → Answer (Got Lists)) → ℕ → List Word → Answer (Got Tree)
let_at read readLists at ws = cond (is round ws) (do
  ls ← readLists ws
  let_body read (apart_tree at ls.value) ls.rest) (do
    x ← name_at ws
    let_body read (Trees.name at x.value) x.rest)

abbrev pub term_by : (List Word → Answer (Got Tree)) → (List Word → Answer (Got TypeTree)) → (List Word → Answer (Got Lists)) → List Word → Answer (Got Tree)
term_by read readType readLists ws =
    cond (is fun ws) (do
      xs ← binds_from readLists (length ws) (behind ws)
      bound_body read readType (function_tree (place ws) xs.value) xs.rest) (cond (is fix ws) (do
        x ← name_at (behind ws)
        bound_body read readType (Trees.fix (place ws) x.value) x.rest) (cond (is lets ws) (let_at read readLists (place ws) (behind ws)) (spine_at read readType ws)))

abbrev pub term_at : ℕ → List Word → Answer (Got Tree)
term_at zero ws = refuse 34 (place ws)
term_at (suc more) ws = term_by (λ us. term_at more us) (λ us. type_at more false us) (λ us. lists_at (suc more) us) ws

-- ---- items

-- an earlier parameter fits all that a later one fits
abbrev pub covers : Number → Number → Bool
covers p q = cond p.is_open (leb p.plus q.plus) (not q.is_open && eqb p.plus q.plus)

abbrev pub cover_all : List Number → List Number → Bool
cover_all [] qs = true
cover_all (p ∷ ps) [] = true
cover_all (p ∷ ps) (q ∷ qs) = covers p q && cover_all ps qs

abbrev pub is_type : Body → Bool
is_type (of_type t) = true
is_type (of_term e) = false

abbrev pub same_sort : Bool → Bool → Bool
same_sort true b = b
same_sort false b = not b

-- a clause of one name and sort with another
abbrev pub namesake : Clause → Bool → Name → Bool
namesake c sort n = same_sort (is_type c.body) sort && same_name c.head.name n

-- a later clause of a name may follow if it has as many parameters, and fits numbers that the earlier do not fit
abbrev pub may_follow : Clause → Clause → Bool
may_follow c d = not (namesake c (is_type d.body) d.head.name) || (eqb (length c.types) (length d.types) && eqb (length c.numbers) (length d.numbers) && not (cover_all c.numbers d.numbers))

abbrev pub may_follow_all : List Clause → Clause → Bool
may_follow_all [] d = true
may_follow_all (c ∷ cs) d = may_follow c d && may_follow_all cs d

-- the items read so far
pub record Items : Type 0 where
  pub clauses : List Clause
  pub lines : List Line

abbrev pub no_items : Items
no_items = record { clauses = []; lines = [] }

abbrev pub with_clause : Items → Clause → Answer Items
with_clause items c = do
  _ ← need (ltb (length items.clauses) most_clauses) 34 c.head.place
  _ ← need (may_follow_all items.clauses c) 36 c.head.place
  good (record { clauses = items.clauses ++ c ∷ []; lines = items.lines })

abbrev pub lines_of : ℕ → List TypeTree → List Line
lines_of seen [] = []
lines_of seen (t ∷ ts) = record { seen = seen; type = t } ∷ lines_of seen ts

abbrev pub with_lines : Items → List TypeTree → Items
with_lines items ts = record { clauses = items.clauses; lines = items.lines ++ lines_of (length items.clauses) ts }

-- a head, `=`, and a body
abbrev pub clause_at : (List Word → Answer (Got Body)) → List Word → Answer (Got Clause)
clause_at read ws = do
  x ← name_at ws
  ts ← parameters_at x.rest
  ks ← numbers_at ts.rest
  ws₁ ← expect equals ks.rest
  b ← read ws₁
  got (record { head = x.value; types = ts.value; numbers = ks.value; body = b.value; end = place b.rest }) b.rest

abbrev pub type_body : List Word → Answer (Got Body)
type_body ws = do
  t ← type_at most_nested false ws
  got (of_type t.value) t.rest

abbrev pub term_body : List Word → Answer (Got Body)
term_body ws = do
  e ← term_at most_nested ws
  got (of_term e.value) e.rest

abbrev pub items_from : ℕ → Items → List Word → Answer (Got Items)
items_from zero items ws = got items ws
items_from (suc rounds) items ws = cond (is ends ws) (got items ws) (cond (is table ws) (do
  ts ← list_from (λ us. type_at most_nested false us) (length ws) (behind ws)
  items_from rounds (with_lines items ts.value) ts.rest) (do
    c ← cond (is type ws) (clause_at type_body (behind ws)) (clause_at term_body ws)
    next ← with_clause items c.value
    items_from rounds next c.rest))

-- "edition" 1 or 2, or nothing: the first edition
abbrev pub edition_at : List Word → Answer (Got Edition)
edition_at ws = cond (is edition ws) (do
  k ← value_of (peek (behind ws)).token (place (behind ws))
  _ ← need (eqb k 1 || eqb k 2) 32 (place (behind ws))
  got (cond (eqb k 1) Terms.first Terms.second) (behind (behind ws))) (got Terms.first ws)

unfoldable pub text_of : List Word → Answer Text
text_of ws = do
  E ← edition_at ws
  items ← items_from (length ws) no_items E.rest
  good (record { edition = E.value; clauses = items.value.clauses; lines = items.value.lines; end = place items.rest })
