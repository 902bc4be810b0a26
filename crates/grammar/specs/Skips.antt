-- The grammar without its trees: each reader of Grammar, as a step from words to the words behind. Assumes nothing.
use Rattle.std.specs.Prelude.{ℕ, zero, suc, ◌+◌, ◌-◌, Bool, true, false, not, ◌&&◌, ◌||◌, cond, List, eqb, length}
use Rattle.calculus.specs.Answer.{Answer, good, ◌>>=◌, refuse, need}
use Rattle.notation_calculus.specs.Words.{Sign, type, edition, table, fun, fix, lets, within, arrow, linear, times, round, endRound, equals, comma, colon, dot, square, endSquare, curly, endCurly, plus, power, Token, sign, part, number, name, Word}
use Rattle.words.specs.Tables.{token_code}
use Rattle.notation_calculus.specs.Grammar.{peek, behind, place, is_token, is, expect, is_name, begins_atom}

abbrev pub Step : Type 0
Step = List Word → Answer (List Word)

-- the sign of a code
abbrev pub expect_code : ℕ → Step
expect_code c ws = need (eqb c (token_code (peek ws).token)) 32 (place ws) >>= λ _. good (behind ws)

-- a name
abbrev pub name_end : Step
name_end ws = need (is_name (peek ws).token) 32 (place ws) >>= λ _. good (behind ws)

-- ---- lists

-- behind one of a list: a comma and the others, or nothing
abbrev pub list_more : Step → ℕ → Step
list_more read zero us = cond (is comma us) (refuse 32 (place (behind us))) (good us)
list_more read (suc rounds) us = cond (is comma us) (read (behind us) >>= λ vs. list_more read rounds vs) (good us)

abbrev pub list_end : Step → ℕ → Step
list_end read zero ws = refuse 32 (place ws)
list_end read (suc rounds) ws = read ws >>= λ us. list_more read rounds us

-- a list between two signs, or nothing
abbrev pub group_end : Sign → Sign → Step → Step
group_end opens closes read ws = cond (is opens ws) (list_end read (length ws) (behind ws) >>= λ us. expect closes us) (good ws)

-- ---- numbers and uses

abbrev pub is_number : Token → Bool
is_number (sign t) = false
is_number (part p) = false
is_number (number n) = true
is_number (name n) = false

-- a number behind a plus
abbrev pub plus_end : Step
plus_end ws = cond (is plus ws) (need (is_number (peek (behind ws)).token) 32 (place (behind ws)) >>= λ _. good (behind (behind ws))) (good ws)

abbrev pub number_by_lem : Token → Step
number_by_lem (sign t) ws = refuse 32 (place ws)
number_by_lem (part p) ws = refuse 32 (place ws)
number_by_lem (number n) ws = good (behind ws)
number_by_lem (name n) ws = plus_end (behind ws)

abbrev pub number_end : Step
number_end ws = number_by_lem (peek ws).token ws

-- behind a 1: a sign and how many stand in a row, or nothing
abbrev pub ones_end : Step
ones_end ws = cond (is power ws) (number_end (behind ws)) (good ws)

abbrev pub numbers_end : Step
numbers_end ws = group_end curly endCurly number_end ws

-- behind a name that is used: its types and its numbers
abbrev pub use_end : Step → Step
use_end read ws = group_end square endSquare read ws >>= λ us. numbers_end us

-- ---- types

-- behind an opening parenthesis
abbrev pub inside_end : Step → Step
inside_end read ws = read ws >>= λ us. expect endRound us

abbrev pub type_atom_by : Step → Token → Step
type_atom_by read (sign t) ws = need (is_token round (sign t)) 32 (place ws) >>= λ _. inside_end read (behind ws)
type_atom_by read (part p) ws = refuse 32 (place ws)
type_atom_by read (number n) ws = need (eqb n 1) 32 (place ws) >>= λ _. ones_end (behind ws)
type_atom_by read (name n) ws = use_end read (behind ws)

abbrev pub type_atom_end : Step → Step
type_atom_end read ws = type_atom_by read (peek ws).token ws

-- a type behind the sign of a product, or nothing
abbrev pub product_end : Step → Step
product_end read ws = cond (is times ws) (read (behind ws)) (good ws)

-- .. behind an arrow
abbrev pub arrow_end : Step → Step
arrow_end read ws = cond (is arrow ws) (read (behind ws)) (cond (is linear ws) (read (behind ws)) (good ws))

-- behind the sign of a product: a type, and no arrow behind it where it is tight
abbrev pub times_end : (Bool → Step) → Bool → Step
times_end read tight ws = read true ws >>= λ vs. cond tight (good vs) (arrow_end (read false) vs)

-- one level of a type
abbrev pub type_level : (Bool → Step) → Bool → Step
type_level read tight ws = type_atom_end (read false) ws >>= λ us. product_end (read true) us >>= λ vs. cond tight (good vs) (arrow_end (read false) vs)

-- ---- terms

-- , e , e ..
abbrev pub trees_end : Step → ℕ → Step
trees_end read zero ws = good ws
trees_end read (suc rounds) ws = cond (is comma ws) (read (behind ws) >>= λ us. trees_end read rounds us) (good ws)

-- behind the first parenthesis of a tuple, where it has so many rounds
abbrev pub tuple_end : Step → ℕ → Step
tuple_end read rounds ws = read ws >>= λ us. trees_end read rounds us >>= λ vs. expect endRound vs

abbrev pub atom_by : Step → Step → Token → Step
atom_by read readType (sign t) ws = need (is_token round (sign t)) 32 (place ws) >>= λ _. tuple_end read (length ws) (behind ws)
atom_by read readType (part p) ws = good (behind ws)
atom_by read readType (number n) ws = refuse 32 (place ws)
atom_by read readType (name n) ws = use_end readType (behind ws)

abbrev pub atom_end : Step → Step → Step
atom_end read readType ws = atom_by read readType (peek ws).token ws

abbrev pub atoms_end : Step → Step → ℕ → Step
atoms_end read readType zero ws = good ws
atoms_end read readType (suc rounds) ws = cond (begins_atom ws) (atom_end read readType ws >>= λ us. atoms_end read readType rounds us) (good ws)

abbrev pub spine_end : Step → Step → Step
spine_end read readType ws = atom_end read readType ws >>= λ us. atoms_end read readType (length ws) us

-- names up to the colon
abbrev pub names_more_lem : ℕ → Step
names_more_lem zero us = cond (not (is colon us)) (refuse 32 (place us)) (good us)
names_more_lem (suc rounds) us = cond (not (is colon us)) (name_end us >>= λ vs. names_more_lem rounds vs) (good us)

abbrev pub names_end : ℕ → Step
names_end zero ws = refuse 32 (place ws)
names_end (suc rounds) ws = name_end ws >>= λ us. names_more_lem rounds us

-- : type . term
abbrev pub bound_end : Step → Step → Step
bound_end read readType ws = expect colon ws >>= λ us. readType us >>= λ vs. expect dot vs >>= λ xs. read xs

-- = term in term
abbrev pub let_body_end : Step → Step
let_body_end read ws = expect equals ws >>= λ us. read us >>= λ vs. expect within vs >>= λ xs. read xs

-- .. up to the body
abbrev pub bound_type_end : Step → Step
bound_type_end readType ws = expect colon ws >>= λ us. readType us >>= λ vs. expect dot vs

abbrev pub let_value_end : Step → Step
let_value_end read ws = expect equals ws >>= λ us. read us >>= λ vs. expect within vs

-- a list of names, and the sign of a code
abbrev pub names_list : ℕ → ℕ → Step
names_list closes rounds ws = list_end name_end rounds ws >>= λ us. expect_code closes us

-- behind the parenthesis of a list: two or more with commas between, and the closing one
abbrev pub apart_end : Step → ℕ → Step
apart_end read zero ws = refuse 32 (place ws)
apart_end read (suc rounds) ws = read ws >>= λ us. expect comma us >>= λ vs. list_end read rounds vs >>= λ xs. expect endRound xs

-- one of a list, and what `let` binds: a name, or a list
abbrev pub one_end : Step → Step
one_end lists ws = cond (is round ws) (lists ws) (name_end ws)

-- a list in parentheses; a list in a list is a level more
abbrev pub lists_end : ℕ → Step
lists_end zero ws = refuse 34 (place ws)
lists_end (suc more) ws = apart_end (one_end (lists_end more)) (length ws) (behind ws)

-- what `fun` binds
abbrev pub binds_end : Step → ℕ → Step
binds_end lists rounds ws = cond (is round ws) (lists ws) (names_end rounds ws)

abbrev pub term_level : Step → Step → Step → Step
term_level read readType lists ws = cond (is fun ws) (binds_end lists (length ws) (behind ws) >>= λ us. bound_end read readType us) (cond (is fix ws) (name_end (behind ws) >>= λ us. bound_end read readType us) (cond (is lets ws) (one_end lists (behind ws) >>= λ us. let_body_end read us) (spine_end read readType ws)))

-- ---- groups

abbrev pub opens_group : ℕ → Bool
opens_group c = eqb 17 c || eqb 19 c

abbrev pub closes_group : ℕ → Bool
closes_group c = eqb 18 c || eqb 20 c

-- how many groups are open behind a word
abbrev pub depth_by : ℕ → ℕ → ℕ
depth_by c deep = cond (opens_group c) (deep + 1) (cond (closes_group c) (deep - 1) deep)

-- the groups end before a word
abbrev pub stops_by : ℕ → ℕ → Bool
stops_by c deep = eqb c 0 || (eqb deep 0 && not (opens_group c))

-- ---- items

-- NAME [ a, b ] { n + 1 } =
abbrev pub head_end : Step
head_end ws = name_end ws >>= λ us. group_end square endSquare name_end us >>= λ vs. numbers_end vs >>= λ xs. expect equals xs

-- a head and a body
abbrev pub clause_end : Step → Step
clause_end read ws = head_end ws >>= read

-- an item: a line `table`, a type's definition or a term's
abbrev pub item_end : Step → Step → Step
item_end readType read ws = cond (is table ws) (list_end readType (length ws) (behind ws)) (cond (is type ws) (clause_end readType (behind ws)) (clause_end read ws))

-- "edition" 1 or 2, or nothing
abbrev pub is_edition : Token → Bool
is_edition (sign t) = false
is_edition (part p) = false
is_edition (number n) = eqb n 1 || eqb n 2
is_edition (name n) = false

abbrev pub edition_end : Step
edition_end ws = cond (is edition ws) (need (is_edition (peek (behind ws)).token) 32 (place (behind ws)) >>= λ _. good (behind (behind ws))) (good ws)
