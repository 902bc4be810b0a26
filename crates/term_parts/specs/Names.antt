-- Names that stand one after the other in a text: those of `fun`, up to the colon, and those of a list, with commas between, where a list may stand
-- for a name. Assumes nothing.
use Rattle.std.specs.Prelude.{ℕ, zero, suc, ◌+◌, ◌-◌, ◌≤◌, ◌<◌, ◌≡◌, Bool, true, ◌||◌, cond, List, [], ◌∷◌, eqb, length, get_or, false, Option, Some, None, Result, Ok, Err}
use Rattle.calculus.specs.Answer.{Answer, refused}
use Rattle.answers.specs.declared.Refusal.{Refusal}
use Rattle.answers.specs.Refusals.{said_why}
use Rattle.notation_calculus.specs.Words.{round, Word}
use Rattle.notation_calculus.specs.Trees.{Bound}
use Rattle.notation_calculus.specs.Grammar.{Got, got, behind, place, is, name_at, list_from, names_from}
use Rattle.notation_machine.specs.Lists.{behind_lists, head_at, next_list}
use Rattle.words.specs.Next.{run_at, name_in}
use Rattle.words.specs.Lexed.{from, Lexed, Onward}
use Rattle.clauses.specs.Groups.{value_in, rest_in_lem}
use Rattle.clauses.specs.Rows.{no_bound}
use Rattle.walks.specs.Says.{bound_at}
use Rattle.term_parts.specs.declared.names.NameEnd.{NameEnd}
use Rattle.term_parts.specs.declared.names.NamesEnd.{NamesEnd}
use Rattle.term_parts.specs.declared.names.TwoNames.{TwoNames}
use Rattle.term_parts.specs.declared.names.NextList.{NextList}

-- the variable whose entry has a place: its name stands there, or its list
abbrev pub bound_in : List ℕ → ℕ → Bound
bound_in text place = record { name = name_in text place; place = place }

-- so many names, each read by `one`, between which `next` goes on
abbrev pub names_by : (List Word → Answer (Got Bound)) → (List Word → List Word) → ℕ → List Word → List Bound
names_by one next zero ws = []
names_by one next (suc n) ws = value_in no_bound (one ws) ∷ names_by one next n (next (rest_in_lem (one ws)))

-- .. all of which are read
abbrev pub AllNames : (List Word → Answer (Got Bound)) → (List Word → List Word) → ℕ → List Word → Type 0
AllNames one next zero ws = Unit {0}
AllNames one next (suc n) ws = (one ws ≡ got (value_in no_bound (one ws)) (rest_in_lem (one ws))) × AllNames one next n (next (rest_in_lem (one ws)))

-- nothing stands between the names of `fun`, a comma between those of a list
abbrev pub spaced : List Word → List Word
spaced ws = ws

-- so many names at an offset
abbrev pub spaced_names : List ℕ → ℕ → ℕ → List Bound
spaced_names text at n = names_by name_at spaced n (from text at)

-- .. of a list
abbrev pub listed_names : List ℕ → ℕ → ℕ → List Bound
listed_names text at n = names_by head_at behind n (from text at)

pub record NamesStand (one : List Word → Answer (Got Bound)) (next : List Word → List Word) (text : List ℕ) (at n : ℕ) : Type 0 where
  pub lexed : Lexed text at
  pub all : AllNames one next n (from text at)

-- ---- what the code says

-- one name at an offset: its place and the offset behind it
pub record ReadsName (text : List ℕ) (at : ℕ) (x : NameEnd) : Type 0 where
  pub reads : name_at (from text at) ≡ got (bound_at text x.place) (from text x.end)
  pub plain : name_in text x.place ≡ run_at text x.place
  pub inside : x.place < length text
  pub onward : Onward text at x.end

-- .. or a refusal
abbrev pub NameSays : List ℕ → ℕ → Result NameEnd Refusal → Type 0
NameSays text at (Ok x) = ReadsName text at x
NameSays text at (Err e) = name_at (from text at) ≡ refused (said_why e)

-- an offset behind one or more words
pub record Further (text : List ℕ) (at next : ℕ) : Type 0 where
  pub fewer : length (from text next) < length (from text at)
  pub past : at < next
  pub lexed : Lexed text next

-- one of a list: the place of its name or of its parenthesis, and the offset behind it
pub record HeadRead (text : List ℕ) (at : ℕ) (x : NameEnd) : Type 0 where
  pub reads : head_at (from text at) ≡ got (bound_in text x.place) (from text x.end)
  pub inside : x.place < length text
  pub further : Further text at x.end

-- .. or a refusal
abbrev pub HeadSays : List ℕ → ℕ → Result NameEnd Refusal → Type 0
HeadSays text at (Ok x) = HeadRead text at x
HeadSays text at (Err e) = head_at (from text at) ≡ refused (said_why e)

-- names as `read` reads them in any number of rounds that is above the number of words: how many, and the offset behind them
pub record NamesRead (one : List Word → Answer (Got Bound)) (next : List Word → List Word) (read : ℕ → List Word → Answer (Got (List Bound))) (text : List ℕ) (at : ℕ) (x : NamesEnd) : Type 0 where
  pub reads : (n : ℕ) → length (from text at) < n → read n (from text at) ≡ got (names_by one next x.count (from text at)) (from text x.end)
  pub stand : NamesStand one next text at x.count
  pub lexed : Lexed text x.end
  pub some : 0 < x.count
  pub few : x.count ≤ length text

-- .. or a refusal
abbrev pub NamesSay : (List Word → Answer (Got Bound)) → (List Word → List Word) → (ℕ → List Word → Answer (Got (List Bound))) → List ℕ → ℕ → Result NamesEnd Refusal → Type 0
NamesSay one next read text at (Ok x) = NamesRead one next read text at x
NamesSay one next read text at (Err e) = (n : ℕ) → length (from text at) < n → read n (from text at) ≡ refused (said_why e)

-- of `fun`, of a list
abbrev pub SpacedSay : List ℕ → ℕ → Result NamesEnd Refusal → Type 0
SpacedSay text at r = NamesSay name_at spaced names_from text at r

abbrev pub ListedSay : List ℕ → ℕ → Result NamesEnd Refusal → Type 0
ListedSay text at r = NamesSay head_at behind (list_from head_at) text at r

-- the first two names of a list: their places, and the offset of the second
pub record TwoSay (text : List ℕ) (at : ℕ) (r : TwoNames) : Type 0 where
  pub first : value_in no_bound (head_at (from text at)) ≡ bound_in text r.first
  pub second : value_in no_bound (head_at (from text r.next)) ≡ bound_in text r.second
  pub rest : behind (rest_in_lem (head_at (from text at))) ≡ from text r.next
  pub inside : r.first < length text
  pub inside_too : r.second < length text
  pub lexed : Lexed text r.next

-- ---- lists in lists

-- how many lists are open behind a word
abbrev pub deeper_by : ℕ → ℕ → ℕ
deeper_by code deep = cond (eqb code 11) (deep + 1) (cond (eqb code 12) (deep - 1) deep)

-- the offset behind a list whose parenthesis was read before another one
pub record PassedSays (text : List ℕ) (at r : ℕ) : Type 0 where
  pub rest : behind_lists 1 (from text at) ≡ from text r
  pub fewer : length (from text r) ≤ length (from text at)
  pub past : at ≤ r
  pub lexed : Lexed text r

-- a word that stands in lists besides an opening parenthesis, by its code
abbrev pub listed_code : ℕ → Bool
listed_code code = eqb code 24 || (eqb code 14 || eqb code 12)

-- a list begins with these words: its parenthesis stands at a place of the text, and an offset is behind it
pub record ListOpens (text : List ℕ) (us : List Word) (round' end : ℕ) : Type 0 where
  pub place : round' ≡ place us
  pub byte : get_or text round' 0 ≡ 40
  pub inside : round' < length text
  pub rest : behind us ≡ from text end
  pub fewer : length (from text end) < length us
  pub lexed : Lexed text end

-- the next list from an offset on
pub record NextRead (text : List ℕ) (at : ℕ) (x : NextList) : Type 0 where
  pub found : is round (next_list (from text at)) ≡ true
  pub opens : ListOpens text (next_list (from text at)) x.place x.end
  pub fewer : length (next_list (from text at)) ≤ length (from text at)
  pub past : at < x.end

-- .. or none
abbrev pub NextSays : List ℕ → ℕ → Option NextList → Type 0
NextSays text at (Some x) = NextRead text at x
NextSays text at None = (is round (next_list (from text at)) ≡ false) × (length (next_list (from text at)) ≤ length (from text at))
