-- The grammar reads the words of a shown sheet as its trees, or passes its limit of levels. Assumes nothing.
use Prim.Native.Nat.{ℕ, zero, suc, ◌-◌}
use mathlib.Core.Path.{◌≡◌, refl, sym, subst}
use mathlib.Core.Bool.{Bool, true, false}
use mathlib.Core.List.{List, [], ◌∷◌}
use lib.Dec.{eqb, eqb_refl}
use lib.ListN.{length}
use Rattle.calculus.specs.Answer.{Answer, good, refused, ◌>>=◌}
use Rattle.calculus.specs.Types.{TyRec, rec01, rec02, rec03, rec04, Table, rec_at}
use Rattle.calculus.specs.Terms.{Term, var, lvar, fun, app, lfun, lapp, pair, proj, fix, con, name}
use Rattle.laws.proofs.Tests.{T-is}
use Rattle.notation_calculus.specs.Words.{Sign, sign_code, ends, times, arrow, linear, round, endRound, square, curly, power, comma, colon, dot, equals, within, Token, sign, Word}
use Rattle.notation_calculus.specs.Trees.{TypeTree, Tree, Trees, Atom, tuple, noTrees, noAtoms, trees, atoms, named, spine}
use Rattle.notation_calculus.specs.Trees as Trees
use Rattle.notation_calculus.specs.Grammar.{Got, got, is_token, is, is_name, is_part, expect, type_at, term_at, trees_from, atoms_from, read_atom, begins_atom, bound_body, let_body}
use Rattle.notation_calculus.specs.Show.{left_of}
use Rattle.show_theorems.specs.Shown.{shown_binder, type_word, rec_words, term_words, Spoken, last, more}
use Rattle.show_theorems.specs.ShownTrees.{Within, ShownType, type_shown, ShownRec, one_shown, product_shown, arrow_shown, linear_shown, ShownTerm, var_shown, lvar_shown, fun_shown, lfun_shown, app_shown, lapp_shown, pair_shown, proj_shown, fix_shown, con_shown, name_shown}

-- ---- answers

pub within_step : {A B : Type 0} (P : A → Type 0) (Q : B → Type 0) (m : Answer A) (f : A → Answer B) → Within P m → ((a : A) → P a → Within Q (f a)) → Within Q (m >>= f)
within_step P Q (good a) f h k = k a h
within_step P Q (refused why) f h k = h

pub within-map : {A : Type 0} (P Q : A → Type 0) (m : Answer A) → Within P m → ((a : A) → P a → Q a) → Within Q m
within-map P Q (good a) h k = k a h
within-map P Q (refused why) h k = h

pub within_then : {A B C : Type 0} (P : A → Type 0) (Q : C → Type 0) (m : Answer A) (f : A → Answer B) (g : B → Answer C) → Within P m → ((a : A) → P a → Within Q (f a >>= g)) → Within Q ((m >>= f) >>= g)
within_then P Q (good a) f g h k = k a h
within_then P Q (refused why) f g h k = h

pub within_thrice : {A B C D : Type 0} (P : A → Type 0) (Q : D → Type 0) (m : Answer A) (f : A → Answer B) (g : B → Answer C) (h : C → Answer D) → Within P m → ((a : A) → P a → Within Q ((f a >>= g) >>= h)) → Within Q (((m >>= f) >>= g) >>= h)
within_thrice P Q (good a) f g h p k = k a p
within_thrice P Q (refused why) f g h p k = p

-- ---- words

-- the next word is not this sign
abbrev pub NotHead : Sign → List Token → Type 0
NotHead s [] = is_token s (sign ends) ≡ false
NotHead s (u ∷ us) = is_token s u ≡ false

pub not_head : (s : Sign) {us : List Token} {ws : List Word} → Spoken us ws → NotHead s us → is s ws ≡ false
not_head s last h = h
not_head s (more m) h = h

pub expect-said : {B : Type 0} (Q : B → Type 0) (s : Sign) (us : List Token) (ws : List Word) (f : List Word → Answer B) → Spoken (sign s ∷ us) ws → ((vs : List Word) → Spoken us vs → Within Q (f vs)) → Within Q (expect s ws >>= f)
expect-said Q s us [] f h k = elim h [ ]
expect-said Q s us (w ∷ ws) f (more h) k = rw (T-is (eqb (sign_code s) (sign_code s)) (eqb_refl (sign_code s))) (k ws h)

pub expect_then : {B C : Type 0} (Q : C → Type 0) (s : Sign) (us : List Token) (ws : List Word) (f : List Word → Answer B) (g : B → Answer C) → Spoken (sign s ∷ us) ws → ((vs : List Word) → Spoken us vs → Within Q (f vs >>= g)) → Within Q ((expect s ws >>= f) >>= g)
expect_then Q s us [] f g h k = elim h [ ]
expect_then Q s us (w ∷ ws) f g (more h) k = rw (T-is (eqb (sign_code s) (sign_code s)) (eqb_refl (sign_code s))) (k ws h)

-- ---- types

-- no type goes on behind it
pub record TypeStops (us : List Token) : Type 0 where
  pub square : NotHead square us
  pub curly : NotHead curly us
  pub power : NotHead power us
  pub times : NotHead times us
  pub arrow : NotHead arrow us
  pub linear : NotHead linear us

abbrev pub TypeReads : ℕ → List Token → Got TypeTree → Type 0
TypeReads t us g = ShownType t g.value × Spoken us g.rest

pub read_type : (m : ℕ) (tight : Bool) (t : ℕ) (us : List Token) (ws : List Word) → Spoken (type_word t ∷ us) ws → TypeStops us → Within (TypeReads t us) (type_at m tight ws)
read_type zero tight t us ws h s = refl
read_type (suc m) false t us [] h s = elim h [ ]
read_type (suc m) true t us [] h s = elim h [ ]
read_type (suc m) true t us (w ∷ ws) (more h) s = rw (not_head square h s.square, not_head curly h s.curly, not_head times h s.times) (type_shown, h)
read_type (suc m) false t us (w ∷ ws) (more h) s = rw (not_head square h s.square, not_head curly h s.curly, not_head times h s.times, not_head arrow h s.arrow, not_head linear h s.linear) (type_shown, h)

abbrev pub RecReads : TyRec → List Token → Got TypeTree → Type 0
RecReads r us g = ShownRec r g.value × Spoken us g.rest

pub read-rec : (m : ℕ) (r : TyRec) (us : List Token) (ws : List Word) → Spoken (rec_words r us) ws → TypeStops us → Within (RecReads r us) (type_at m false ws)
read-rec zero r us ws h s = refl
read-rec (suc m) rec01 us [] h s = elim h [ ]
read-rec (suc m) rec01 us (w ∷ ws) (more h) s = rw (not_head power h s.power, not_head times h s.times, not_head arrow h s.arrow, not_head linear h s.linear) (one_shown, h)
read-rec (suc m) (rec02 a b) us vs (more (more {ws = ws} h)) s = within_then (TypeReads b us) (RecReads (rec02 a b) us) (type_at m true ws) _ _ (read_type m true b us ws h s) λ t (x, y). rw (not_head arrow y s.arrow, not_head linear y s.linear) (product_shown x, y)
read-rec (suc m) (rec03 a b) us vs (more (more {ws = ws} h)) s = within_then (TypeReads b us) (RecReads (rec03 a b) us) (type_at m false ws) _ _ (read_type m false b us ws h s) λ t (x, y). (arrow_shown x, y)
read-rec (suc m) (rec04 a b) us vs (more (more {ws = ws} h)) s = within_then (TypeReads b us) (RecReads (rec04 a b) us) (type_at m false ws) _ _ (read_type m false b us ws h s) λ t (x, y). (linear_shown x, y)

-- ---- terms

-- no application goes on behind it
abbrev pub NoAtom : List Token → Type 0
NoAtom [] = Unit {0}
NoAtom (u ∷ us) = (is_token round u ≡ false) × (is_part u ≡ false) × (is_name u ≡ false)

pub record TermStops (us : List Token) : Type 0 where
  pub square : NotHead square us
  pub curly : NotHead curly us
  pub atom : NoAtom us

pub no_atom : {us : List Token} {ws : List Word} → Spoken us ws → NoAtom us → begins_atom ws ≡ false
no_atom last h = refl
no_atom (more m) (a, b, c) = rw (a, b, c) refl

atoms_none : (read : List Word → Answer (Got Tree)) (readType : List Word → Answer (Got TypeTree)) (n : ℕ) {us : List Token} {ws : List Word} → Spoken us ws → NoAtom us → atoms_from read readType n ws ≡ got noAtoms ws
atoms_none read readType zero h s = refl
atoms_none read readType (suc n) h s = rw (no_atom h s) refl

trees_none : (read : List Word → Answer (Got Tree)) (n : ℕ) {us : List Token} {ws : List Word} → Spoken us ws → NotHead comma us → trees_from read n ws ≡ got noTrees ws
trees_none read zero h s = refl
trees_none read (suc n) h s = rw (not_head comma h s) refl

closing : (us : List Token) → TermStops (sign endRound ∷ us)
closing us = record { square = refl; curly = refl; atom = (refl, refl, refl) }

joining : (us : List Token) → TermStops (sign comma ∷ us)
joining us = record { square = refl; curly = refl; atom = (refl, refl, refl) }

behind-value : (us : List Token) → TermStops (sign within ∷ us)
behind-value us = record { square = refl; curly = refl; atom = (refl, refl, refl) }

dotted : (us : List Token) → TypeStops (sign dot ∷ us)
dotted us = record { square = refl; curly = refl; power = refl; times = refl; arrow = refl; linear = refl }

module _ (Θ : Table) where
  abbrev pub TermReads : ℕ → Term → List Token → Got Tree → Type 0
  TermReads k e us g = ShownTerm Θ k e g.value × Spoken us g.rest

  -- a term is read at m levels
  abbrev ReadAt : ℕ → ℕ → Term → Type 0
  ReadAt m k e = (us : List Token) (ws : List Word) → Spoken (term_words Θ k e us) ws → TermStops us → Within (TermReads k e us) (term_at m ws)

  -- a tree in parentheses
  abbrev InRound : ℕ → Term → List Token → Got Atom → Type 0
  InRound k e us g = (t : Tree) × (g.value ≡ tuple t noTrees) × ShownTerm Θ k e t × Spoken us g.rest

  read-round : (m k : ℕ) (e : Term) → ReadAt m k e → (us : List Token) (ws : List Word) (p : ℕ) → Spoken (term_words Θ k e (sign endRound ∷ us)) ws → Within (InRound k e us) (read_atom (λ vs. term_at m vs) (λ vs. type_at m false vs) (sign round) (record { token = sign round; place = p } ∷ ws))
  read-round m k e ih us ws p h =
      within_step (TermReads k e (sign endRound ∷ us)) (InRound k e us) (term_at m ws) _ (ih (sign endRound ∷ us) ws h (closing us)) λ g (x, y).
      rw (trees_none (λ vs. term_at m vs) (length (record { token = sign round; place = p } ∷ ws)) y refl) (expect-said (InRound k e us) endRound us g.rest _ y λ vs z. (g.value, refl, x, z))

  -- two in a row
  read-two :
      (m k : ℕ) (f a : Term) (e : Term) → ReadAt m k f → ReadAt m k a → ((p : ℕ) (g b : Tree) → ShownTerm Θ k f g → ShownTerm Θ k a b → ShownTerm Θ k e (spine p (tuple g noTrees) (atoms (tuple b noTrees) noAtoms)))
      → (us : List Token) (ws : List Word) → Spoken (sign round ∷ term_words Θ k f (sign endRound ∷ sign round ∷ term_words Θ k a (sign endRound ∷ us))) ws → TermStops us → Within (TermReads k e us) (term_at (suc m) ws)
  read-two m k f a e hf ha build us ws (more {p = p} {ws = vs} h) s =
      within_step (InRound k f (sign round ∷ term_words Θ k a (sign endRound ∷ us))) (TermReads k e us) (read_atom (λ vs. term_at m vs) (λ vs. type_at m false vs) (sign round) (record { token = sign round; place = p } ∷ vs)) _ (read-round m k f hf _ vs p h) λ g (t, x, y, z). second (length vs) g t x y g.rest z
    where
      second : (n : ℕ) (g : Got Atom) (t : Tree) → g.value ≡ tuple t noTrees → ShownTerm Θ k f t → (us' : List Word) → Spoken (sign round ∷ term_words Θ k a (sign endRound ∷ us)) us' → Within (TermReads k e us) (atoms_from (λ vs. term_at m vs) (λ vs. type_at m false vs) (suc n) us' >>= λ r. got (spine p g.value r.value) r.rest)
      second n g t x y us' (more {p = q} {ws = ts} h) = within_then (InRound k a us) (TermReads k e us) (read_atom (λ vs. term_at m vs) (λ vs. type_at m false vs) (sign round) (record { token = sign round; place = q } ∷ ts)) _ _ (read-round m k a ha us ts q h) λ b (u, c, d, i).
          rw (atoms_none (λ vs. term_at m vs) (λ vs. type_at m false vs) n i s.atom) (subst (λ (v : Atom). ShownTerm Θ k e (spine p v (atoms b.value noAtoms))) (sym x) (subst (λ (v : Atom). ShownTerm Θ k e (spine p (tuple t noTrees) (atoms v noAtoms))) (sym c) (build p t u y d)), i)

  -- one binder, its type and a body
  read-bound :
      (m k t : ℕ) (e f : Term) (build : TypeTree → Tree → Tree) → ReadAt m (suc k) e → ((s : TypeTree) (b : Tree) → ShownType t s → ShownTerm Θ (suc k) e b → ShownTerm Θ k f (build s b))
      → (us : List Token) (ws : List Word) → Spoken (sign colon ∷ type_word t ∷ sign dot ∷ term_words Θ (suc k) e us) ws → TermStops us → Within (TermReads k f us) (bound_body (λ vs. term_at m vs) (λ vs. type_at m false vs) build ws)
  read-bound m k t e f build ih close us ws h s =
      expect-said (TermReads k f us) colon _ ws _ h λ vs h₁.
      within_step (TypeReads t (sign dot ∷ term_words Θ (suc k) e us)) (TermReads k f us) (type_at m false vs) _ (read_type m false t _ vs h₁ (dotted _)) λ g (x, y).
      expect-said (TermReads k f us) dot _ g.rest _ y λ ts z.
      within_step (TermReads (suc k) e us) (TermReads k f us) (term_at m ts) _ (ih us ts z s) λ b (u, v).
      (close g.value b.value x u, v)

  -- a value and a body
  read-let :
      (m k j : ℕ) (a e f : Term) (build : Tree → Tree → Tree) → ReadAt m k a → ReadAt m j e → ((v b : Tree) → ShownTerm Θ k a v → ShownTerm Θ j e b → ShownTerm Θ k f (build v b))
      → (us : List Token) (ws : List Word) → Spoken (sign equals ∷ term_words Θ k a (sign within ∷ term_words Θ j e us)) ws → TermStops us → Within (TermReads k f us) (let_body (λ vs. term_at m vs) build ws)
  read-let m k j a e f build ha he close us ws h s =
      expect-said (TermReads k f us) equals _ ws _ h λ vs h₁.
      within_step (TermReads k a (sign within ∷ term_words Θ j e us)) (TermReads k f us) (term_at m vs) _ (ha _ vs h₁ (behind-value _)) λ g (x, y).
      expect-said (TermReads k f us) within _ g.rest _ y λ ts z.
      within_step (TermReads j e us) (TermReads k f us) (term_at m ts) _ (he us ts z s) λ b (u, v).
      (close g.value b.value x u, v)

  -- a word alone
  read-alone : (m k : ℕ) (e : Term) (a : Atom) (p : ℕ) (us : List Token) (ws : List Word) (n : ℕ) → ShownTerm Θ k e (spine p a noAtoms) → Spoken us ws → TermStops us → Within (TermReads k e us) (atoms_from (λ vs. term_at m vs) (λ vs. type_at m false vs) n ws >>= λ r. got (spine p a r.value) r.rest)
  read-alone m k e a p us ws n d h s = rw (atoms_none (λ vs. term_at m vs) (λ vs. type_at m false vs) n h s.atom) (d, h)

  read-pair : (m k t : ℕ) (x y : Term) → ReadAt m k x → ReadAt m k y → ReadAt (suc m) k (pair t x y)
  read-pair m k t x y hx hy us ws (more {p = p} {ws = vs} h) s =
      within_then (TermReads k x (sign comma ∷ term_words Θ k y (sign endRound ∷ us))) (TermReads k (pair t x y) us) (term_at m vs) _ _ (hx _ vs h (joining _)) λ g (a, b). other g a g.rest b
    where
      other : (g : Got Tree) → ShownTerm Θ k x g.value → (us' : List Word) → Spoken (sign comma ∷ term_words Θ k y (sign endRound ∷ us)) us' → Within (TermReads k (pair t x y) us) ((trees_from (λ vs. term_at m vs) (suc (length vs)) us' >>= λ es. expect endRound es.rest >>= λ after. got (tuple g.value es.value) after) >>= λ f. atoms_from (λ vs. term_at m vs) (λ vs. type_at m false vs) (suc (length vs)) f.rest >>= λ r. got (spine p f.value r.value) r.rest)
      other g a us' (more {p = q} {ws = ts} h) =
          within_thrice (TermReads k y (sign endRound ∷ us)) (TermReads k (pair t x y) us) (term_at m ts) _ _ _ (hy _ ts h (closing _)) λ b (c, d).
          rw (trees_none (λ vs. term_at m vs) (length vs) d refl) (expect_then (TermReads k (pair t x y) us) endRound us b.rest _ _ d λ after i.
          read-alone m k (pair t x y) (tuple g.value (trees q b.value noTrees)) p us after (suc (length vs)) (pair_shown a c) i s)

  read-proj : (m k : ℕ) (x e : Term) → ReadAt m k x → ReadAt m (suc (suc k)) e → ReadAt (suc m) k (proj x e)
  read-proj m k x e hx he us ws (more {p = p} (more (more {p = q} (more (more {p = r} (more {ws = vs} h)))))) s =
      read-let m k (suc (suc k)) x e (proj x e) (Trees.apart p (record { name = shown_binder k; place = q } ∷ record { name = shown_binder (suc k); place = r } ∷ [])) hx he (λ v b c d. proj_shown c d) us vs h s

  -- each term
  pub read_term_lem : (e : Term) (m k : ℕ) → ReadAt m k e
  read_term_lem e zero k us ws h s = refl
  read_term_lem (var i) (suc m) k us ws (more {p = p} {ws = vs} h) s = rw (not_head square h s.square, not_head curly h s.curly) (read-alone m k (var i) (named p (shown_binder (k - suc i)) Trees.no_types []) p us vs (suc (length vs)) var_shown h s)
  read_term_lem (lvar i) (suc m) k us ws (more {p = p} {ws = vs} h) s = rw (not_head square h s.square, not_head curly h s.curly) (read-alone m k (lvar i) (named p (shown_binder (k - suc i)) Trees.no_types []) p us vs (suc (length vs)) lvar_shown h s)
  read_term_lem (fun t e) (suc m) k us ws (more {p = p} (more {p = q} (more {p = r} {ws = vs} h))) s = read-bound m k (left_of (rec_at Θ t)) e (fun t e) (Trees.fun p (record { name = shown_binder k; place = q } ∷ [])) (read_term_lem e m (suc k)) (λ v b c d. fun_shown c d) us (record { token = sign colon; place = r } ∷ vs) (more h) s
  read_term_lem (app f a) (suc m) k us ws h s = read-two m k f a (app f a) (read_term_lem f m k) (read_term_lem a m k) (λ p g b c d. app_shown c d) us ws h s
  read_term_lem (lfun t e) (suc m) k us ws (more {p = p} (more {p = q} (more {p = r} {ws = vs} h))) s = read-bound m k (left_of (rec_at Θ t)) e (lfun t e) (Trees.fun p (record { name = shown_binder k; place = q } ∷ [])) (read_term_lem e m (suc k)) (λ v b c d. lfun_shown c d) us (record { token = sign colon; place = r } ∷ vs) (more h) s
  read_term_lem (lapp f a) (suc m) k us ws h s = read-two m k f a (lapp f a) (read_term_lem f m k) (read_term_lem a m k) (λ p g b c d. lapp_shown c d) us ws h s
  read_term_lem (pair t x y) (suc m) k us ws h s = read-pair m k t x y (read_term_lem x m k) (read_term_lem y m k) us ws h s
  read_term_lem (proj x e) (suc m) k us ws h s = read-proj m k x e (read_term_lem x m k) (read_term_lem e m (suc (suc k))) us ws h s
  read_term_lem (fix t e) (suc m) k us ws (more {p = p} (more {p = q} {ws = vs} h)) s = read-bound m k t e (fix t e) (Trees.fix p (record { name = shown_binder k; place = q })) (read_term_lem e m (suc k)) (λ v b c d. fix_shown c d) us vs h s
  read_term_lem (con i t) (suc m) k us ws (more {p = p} {ws = vs} h) s = read-alone m k (con i t) (Trees.part p i) p us vs (suc (length vs)) con_shown h s
  read_term_lem (name x e) (suc m) k us ws (more {p = p} (more {p = q} {ws = vs} h)) s = read-let m k (suc k) x e (name x e) (Trees.name p (record { name = shown_binder k; place = q })) (read_term_lem x m k) (read_term_lem e m (suc k)) (λ v b c d. name_shown c d) us vs h s
