-- The words of a sheet that is shown, each list with the words that come behind it. Assumes nothing.
use Rattle.std.specs.Prelude.{ℕ, suc, ◌-◌, List, [], ◌∷◌}
use Rattle.calculus.specs.Types.{TyRec, rec01, rec02, rec03, rec04, Table, rec_at}
use Rattle.calculus.specs.Terms.{Edition, first, second, Term, var, lvar, fun, app, lfun, lapp, pair, proj, fix, con, name}
use Rattle.calculus.specs.Read.{Sheet}
use Rattle.calculus.specs.Listing.{decimal}
use Rattle.notation_calculus.specs.Words.{Name, ascii, Token, sign, part, number, Word, arrow, linear, times, round, endRound, equals, comma, colon, dot, lets, within, ends, type, table, edition}
use Rattle.notation_calculus.specs.Words as Words
use Rattle.notation_calculus.specs.Show.{left_of}

abbrev pub shown_type : ℕ → Name
shown_type t = 116 ∷ decimal t

abbrev pub shown_binder : ℕ → Name
shown_binder k = 120 ∷ decimal k

abbrev pub type_word : ℕ → Token
type_word t = Words.name (shown_type t)

abbrev pub binder_word : ℕ → Token
binder_word k = Words.name (shown_binder k)

abbrev pub rec_words : TyRec → List Token → List Token
rec_words rec01 ts = number 1 ∷ ts
rec_words (rec02 a b) ts = type_word a ∷ sign times ∷ type_word b ∷ ts
rec_words (rec03 a b) ts = type_word a ∷ sign arrow ∷ type_word b ∷ ts
rec_words (rec04 a b) ts = type_word a ∷ sign linear ∷ type_word b ∷ ts

abbrev pub type_line_words : ℕ → Table → List Token → List Token
type_line_words n [] ts = ts
type_line_words n (r ∷ Θ) ts = sign type ∷ type_word n ∷ sign equals ∷ rec_words r (type_line_words (suc n) Θ ts)

abbrev pub table_words : ℕ → Table → List Token → List Token
table_words n [] ts = ts
table_words n (r ∷ []) ts = type_word n ∷ ts
table_words n (r ∷ q ∷ Θ) ts = type_word n ∷ sign comma ∷ table_words (suc n) (q ∷ Θ) ts

abbrev pub term_words : Table → ℕ → Term → List Token → List Token
term_words Θ k (var i) ts = binder_word (k - suc i) ∷ ts
term_words Θ k (lvar i) ts = binder_word (k - suc i) ∷ ts
term_words Θ k (fun t e) ts = sign Words.fun ∷ binder_word k ∷ sign colon ∷ type_word (left_of (rec_at Θ t)) ∷ sign dot ∷ term_words Θ (suc k) e ts
term_words Θ k (app f a) ts = sign round ∷ term_words Θ k f (sign endRound ∷ sign round ∷ term_words Θ k a (sign endRound ∷ ts))
term_words Θ k (lfun t e) ts = sign Words.fun ∷ binder_word k ∷ sign colon ∷ type_word (left_of (rec_at Θ t)) ∷ sign dot ∷ term_words Θ (suc k) e ts
term_words Θ k (lapp f a) ts = sign round ∷ term_words Θ k f (sign endRound ∷ sign round ∷ term_words Θ k a (sign endRound ∷ ts))
term_words Θ k (pair t a b) ts = sign round ∷ term_words Θ k a (sign comma ∷ term_words Θ k b (sign endRound ∷ ts))
term_words Θ k (proj a e) ts = sign lets ∷ sign round ∷ binder_word k ∷ sign comma ∷ binder_word (suc k) ∷ sign endRound ∷ sign equals ∷ term_words Θ k a (sign within ∷ term_words Θ (suc (suc k)) e ts)
term_words Θ k (fix t e) ts = sign Words.fix ∷ binder_word k ∷ sign colon ∷ type_word t ∷ sign dot ∷ term_words Θ (suc k) e ts
term_words Θ k (con p t) ts = part p ∷ ts
term_words Θ k (name a e) ts = sign lets ∷ binder_word k ∷ sign equals ∷ term_words Θ k a (sign within ∷ term_words Θ (suc k) e ts)

abbrev pub edition_words : Edition → List Token → List Token
edition_words first ts = ts
edition_words second ts = sign edition ∷ number 2 ∷ ts

abbrev pub sheet_words : Sheet → List Token
sheet_words σ = edition_words σ.edition (type_line_words 0 σ.table (sign table ∷ table_words 0 σ.table (Words.name (ascii "main") ∷ sign equals ∷ term_words σ.table 0 σ.term [])))

-- words with these tokens, and then the end
pub data Spoken : List Token → List Word → Type 0 where
  last : {p : ℕ} → Spoken [] (record { token = sign ends; place = p } ∷ [])
  more : {t : Token} {ts : List Token} {p : ℕ} {ws : List Word} → Spoken ts ws → Spoken (t ∷ ts) (record { token = t; place = p } ∷ ws)
