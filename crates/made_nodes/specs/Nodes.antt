-- A term that stands in the working memory: five numbers a node, its kind, its first body byte, its subterms (of a part its type), and the
-- place of the word that it came from. The subterms of a node have smaller numbers. Assumes nothing.
use Rattle.std.specs.Prelude.{ℕ, ◌+◌, ◌*◌, ◌<◌, ◌≡◌, List, [], ◌∷◌, ◌++◌, get_or}
use Rattle.calculus.specs.Terms.{Term, var, lvar, fun, app, lfun, lapp, pair, proj, fix, con, name}
use Rattle.making_memory.specs.Map.{nodes_at}

-- node k of the memory
pub record NodeIn (w : List ℕ) (k kind body left right place : ℕ) : Type 0 where
  pub kind_is : get_or w (nodes_at + 5 * k) 0 ≡ kind
  pub body_is : get_or w (nodes_at + 5 * k + 1) 0 ≡ body
  pub left_is : get_or w (nodes_at + 5 * k + 2) 0 ≡ left
  pub right_is : get_or w (nodes_at + 5 * k + 3) 0 ≡ right
  pub place_is : get_or w (nodes_at + 5 * k + 4) 0 ≡ place

-- ---- the terms of a kind and a body: without subterms, of one subterm, of two. A part's type stands where others have their left subterm

pub data NoSubterm : ℕ → ℕ → ℕ → Term → Type 0 where
  of_var : {i l : ℕ} → NoSubterm 0x11 i l (var i)
  of_lvar : {i l : ℕ} → NoSubterm 0x12 i l (lvar i)
  of_con : {p t : ℕ} → NoSubterm 0x1A p t (con p t)

pub data OneSubterm : ℕ → ℕ → Term → Term → Type 0 where
  of_fun : {t : ℕ} {e : Term} → OneSubterm 0x13 t e (fun t e)
  of_lfun : {t : ℕ} {e : Term} → OneSubterm 0x15 t e (lfun t e)
  of_fix_lem : {t : ℕ} {e : Term} → OneSubterm 0x19 t e (fix t e)

pub data TwoSubterms : ℕ → ℕ → Term → Term → Term → Type 0 where
  of_app : {b : ℕ} {f a : Term} → TwoSubterms 0x14 b f a (app f a)
  of_lapp : {b : ℕ} {f a : Term} → TwoSubterms 0x16 b f a (lapp f a)
  of_pair : {t : ℕ} {a b : Term} → TwoSubterms 0x17 t a b (pair t a b)
  of_proj : {b : ℕ} {a e : Term} → TwoSubterms 0x18 b a e (proj a e)
  of_name : {b : ℕ} {a e : Term} → TwoSubterms 0x1B b a e (name a e)

-- node k is the root of a term, whose nodes came from these places in the order of the sheet
pub data TermIn (w : List ℕ) : ℕ → Term → List ℕ → Type 0 where
  leaf : {k kind body left right place : ℕ} {e : Term} → NodeIn w k kind body left right place → NoSubterm kind body left e → TermIn w k e (place ∷ [])
  one : {k kind body left right place : ℕ} {a e : Term} {ps : List ℕ} → NodeIn w k kind body left right place → OneSubterm kind body a e → left < k → TermIn w left a ps → TermIn w k e (place ∷ ps)
  two : {k kind body left right place : ℕ} {a b e : Term} {ps qs : List ℕ} → NodeIn w k kind body left right place → TwoSubterms kind body a b e → left < k → right < k → TermIn w left a ps → TermIn w right b qs → TermIn w k e (place ∷ (ps ++ qs))
