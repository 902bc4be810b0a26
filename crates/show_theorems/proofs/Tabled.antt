-- The types of a shown text come back with their numbers: the table only ever is a beginning of the sheet's. Assumes nothing.
use Prim.Native.Nat.{ℕ, zero, suc, ◌+◌, ◌-◌, ◌≤◌, ◌<◌, ◌^◌}
use mathlib.Core.Path.{◌≡◌, refl, sym, ap, subst, ◌∙◌}
use mathlib.Core.Bool.{Bool, true, false, not, ◌&&◌, cond}
use mathlib.Core.List.{List, [], ◌∷◌, ◌++◌}
use native.Mathlib.Omega.{arith}
use lib.Dec.{T, eqb, leb, ltb, eqb→eq, eqb_refl, ltb→lt, lt→ltb}
use lib.ListN.{length, take, drop}
use lib.Seq.{take-suc, drop-cons}
use Rattle.calculus.specs.Answer.{Answer, good, refused, ◌>>=◌, need}
use Rattle.calculus.proofs.Answers.{on-need}
use Rattle.calculus.specs.Types.{Ty, size, TyRec, rec01, rec02, rec03, rec04, rec_eq, Table, rec_at, tree, ty_of, tys_from}
use Rattle.calculus.specs.Read.{known, formed, repeated, check_type}
use Rattle.laws.proofs.Tests.{T-is, not_true, or_left, or_right}
use Rattle.sheet_theorems.specs.Laid.{Agrees, Below, TableOk}
use Rattle.sheet_theorems.proofs.TableRead.{passed}
use Rattle.notation_calculus.specs.Trees.{Form, product, arrow, linear, TypeTree, typed, typeNamed, no_types, Body, Clause, Text}
use Rattle.notation_calculus.specs.Grammar.{namesake}
use Rattle.notation_calculus.specs.Making.{State, Found, Scope, number_in, listed, form_of, entries, meant, fit_all, put_of, Put, clause_for, one_put, most_puts, put_in, atom_type, body_type, type_of}
use Rattle.notation_theorems.proofs.Growing.{number_of}
use Rattle.show_theorems.specs.Shown.{shown_type}
use Rattle.show_theorems.specs.ShownTrees.{Within, ShownType, type_shown, ShownRec, one_shown, product_shown, arrow_shown, linear_shown, TypeClause, ShownClauses}
use Rattle.show_theorems.proofs.Figures.{same-decimal}
use Rattle.show_theorems.proofs.Parsing.{within_step, within-map}

le_antisym : (a b : ℕ) → a ≤ b → b ≤ a → a ≡ b
le_antisym a b h k = omega arith

not_below : (a b : ℕ) → (b < a → ⊥) → a ≤ b
not_below a b h = omega arith

-- ---- beginnings of a table

take-drop : (j : ℕ) (Θ : Table) → Θ ≡ take j Θ ++ drop j Θ
take-drop zero Θ = refl
take-drop (suc j) [] = refl
take-drop (suc j) (r ∷ Θ) = ap (λ (l : Table). r ∷ l) (take-drop j Θ)

take_long : (j : ℕ) (Θ : Table) → j ≤ length Θ → length (take j Θ) ≡ j
take_long zero Θ h = refl
take_long (suc j) [] h = absurd (omega arith)
take_long (suc j) (r ∷ Θ) h = ap suc (take_long j Θ (omega arith))

take_at : (j i : ℕ) (Θ : Table) → i < j → rec_at (take j Θ) i ≡ rec_at Θ i
take_at zero i Θ h = absurd (omega arith)
take_at (suc j) i [] h = refl
take_at (suc j) zero (r ∷ Θ) h = refl
take_at (suc j) (suc i) (r ∷ Θ) h = take_at j i Θ (omega arith)

pub take_all : (Θ : Table) → take (length Θ) Θ ≡ Θ
take_all [] = refl
take_all (r ∷ Θ) = ap (λ (l : Table). r ∷ l) (take_all Θ)

rec_eq_refl : (r : TyRec) → T (rec_eq r r)
rec_eq_refl rec01 = tt
rec_eq_refl (rec02 a b) = rw (T-is (eqb a a) (eqb_refl a)) (eqb_refl b)
rec_eq_refl (rec03 a b) = rw (T-is (eqb a a) (eqb_refl a)) (eqb_refl b)
rec_eq_refl (rec04 a b) = rw (T-is (eqb a a) (eqb_refl a)) (eqb_refl b)

repeated-at : (Φ : Table) (i : ℕ) → i < length Φ → T (repeated Φ (rec_at Φ i))
repeated-at [] i h = absurd (omega arith)
repeated-at (q ∷ Φ) zero h = or_left (rec_eq q q) (repeated Φ q) (rec_eq_refl q)
repeated-at (q ∷ Φ) (suc i) h = or_right (rec_eq q (rec_at Φ i)) (repeated Φ (rec_at Φ i)) (repeated-at Φ i (omega arith))

agrees_once : (Θ : Table) (r : TyRec) (τ ρ : Ty) → Agrees Θ r τ → Agrees Θ r ρ → τ ≡ ρ
agrees_once Θ rec01 τ ρ a b = a ∙ sym b
agrees_once Θ (rec02 x y) τ ρ a b = a.0 ∙ sym b.0
agrees_once Θ (rec03 x y) τ ρ a b = a.0 ∙ sym b.0
agrees_once Θ (rec04 x y) τ ρ a b = a.0 ∙ sym b.0

pub one_number : (Θ : Table) → TableOk Θ → (i k : ℕ) → i < length Θ → k < length Θ → rec_at Θ i ≡ rec_at Θ k → i ≡ k
one_number Θ ok i k h l e = ok.distinct i k h l (agrees_once Θ (rec_at Θ k) (tree Θ i) (tree Θ k) (subst (λ (r : TyRec). Agrees Θ r (tree Θ i)) e (ok.agrees i)) (ok.agrees k))

-- ---- a record of the table, listed

-- how many types there are, once type i has come where there were j
abbrev pub grown_to : ℕ → ℕ → ℕ
grown_to i j = cond (ltb i j) j (suc j)

-- type i came, and the table is the beginning of so many types
abbrev pub Tells : Table → ℕ → ℕ → Found → Type 0
Tells Θ i j x = (x.type ≡ i) × (x.state.table ≡ take (grown_to i j) Θ)

module _ (Θ : Table) (ok : TableOk Θ) where
  listed-again : (σ : State) (i j at : ℕ) → σ.table ≡ take j Θ → i < j → j ≤ length Θ → listed σ (rec_at Θ i) at ≡ good (record { type = i; state = σ })
  unfolding listed
  listed-again σ i j at e h l =
      let Φ : Table = σ.table in
      let long : length Φ ≡ j = ap (λ (t : Table). length t) e ∙ take_long j Θ l in
      let same : (k : ℕ) → k < j → rec_at Φ k ≡ rec_at Θ k = λ k g. ap (λ (t : Table). rec_at t k) e ∙ take_at j k Θ g in
      let t : T (repeated Φ (rec_at Θ i)) = subst (λ (r : TyRec). T (repeated Φ r)) (same i h) (repeated-at Φ i (omega arith)) in
      let (k, n, g, f) = number_of Φ 0 (rec_at Θ i) t in
      let q : k ≡ i = one_number Θ ok k i (omega arith) (omega arith) (sym (same k (omega arith)) ∙ f) in
      rw (T-is (repeated Φ (rec_at Θ i)) t) (ap (λ (m : ℕ). good (record { type = m; state = σ })) (n ∙ omega arith))

  listed-new : (σ : State) (j at : ℕ) → σ.table ≡ take j Θ → j < length Θ → Within (λ (x : Found). (x.type ≡ j) × (x.state.table ≡ take (suc j) Θ)) (listed σ (rec_at Θ j) at)
  unfolding listed
  listed-new σ j at e h =
      let r : TyRec = rec_at Θ j in
      let Φ : Table = take j Θ in
      let split : Θ ≡ Φ ++ r ∷ drop (suc j) Θ = take-drop j Θ ∙ ap (λ (l : Table). Φ ++ l) (drop-cons Θ j rec01 h) in
      let p : check_type Φ r at ≡ good tt = passed Φ (drop (suc j) Θ) r (subst (λ (t : Table). TableOk t) split ok) at in
      subst (λ (t : Table). Within (λ (x : Found). (x.type ≡ j) × (x.state.table ≡ take (suc j) Θ)) (cond (repeated t r) (good (record { type = number_in t 0 r; state = σ })) (need (formed t r) 35 at >>= λ _. need (leb (size (ty_of (tys_from [] t) r)) 128) 34 at >>= λ _. need (ltb (length t) 256) 34 at >>= λ _. good (record { type = length t; state = record { table = t ++ r ∷ []; nodes = σ.nodes; puts = σ.puts } })))) (sym e) (on-need (known Φ r) 5 at _ tt p λ a p₁. on-need (formed Φ r) 6 at _ tt p₁ λ b p₂. on-need (not (repeated Φ r)) 7 at _ tt p₂ λ c p₃. rw (not_true (repeated Φ r) c, T-is (formed Φ r) b) (limits (leb (size (ty_of (tys_from [] Φ) r)) 128) (ltb (length Φ) 256) (take_long j Θ (omega arith), sym (take-suc Θ j rec01 h))))
    where
      limits : (a b : Bool) → (length (take j Θ) ≡ j) × (take j Θ ++ rec_at Θ j ∷ [] ≡ take (suc j) Θ) → Within (λ (x : Found). (x.type ≡ j) × (x.state.table ≡ take (suc j) Θ)) (need a 34 at >>= λ _. need b 34 at >>= λ _. good (record { type = length (take j Θ); state = record { table = take j Θ ++ rec_at Θ j ∷ []; nodes = σ.nodes; puts = σ.puts } }))
      limits true true h = h
      limits true false h = refl
      limits false b h = refl

  -- .. again, or as the next one
  pub listed-shown : (σ : State) (i j at : ℕ) (r : TyRec) → σ.table ≡ take j Θ → rec_at Θ i ≡ r → i < length Θ → i ≤ j → j ≤ length Θ → Within (Tells Θ i j) (listed σ r at)
  listed-shown σ i j at r e is h g l = subst (λ (q : TyRec). Within (Tells Θ i j) (listed σ q at)) is (by (ltb i j) refl)
    where
      by : (b : Bool) → ltb i j ≡ b → Within (Tells Θ i j) (listed σ (rec_at Θ i) at)
      by true f = rw (listed-again σ i j at e (ltb→lt i j (subst (λ (b : Bool). T b) (sym f) tt)) l, f) (refl, e)
      by false f =
          let q : i ≡ j = between (is-not (ltb i j) f) in
          subst (λ (k : ℕ). Within (Tells Θ i j) (listed σ (rec_at Θ k) at)) (sym q) (within-map _ (Tells Θ i j) (listed σ (rec_at Θ j) at) (listed-new σ j at e (omega arith)) λ x (a, b). (a ∙ sym q, b ∙ sym (ap (λ (c : Bool). take (cond c j (suc j)) Θ) f)))
        where
          is-not : (b : Bool) → b ≡ false → T b → ⊥
          is-not b z t = absurd (subst (λ (x : Bool). T x) z t)

          between : (T (ltb i j) → ⊥) → i ≡ j
          between z = le_antisym i j g (not_below j i (λ k. z (lt→ltb i j k)))

  pub listed-whole : (σ : State) (i at : ℕ) (r : TyRec) → σ.table ≡ Θ → rec_at Θ i ≡ r → i < length Θ → listed σ r at ≡ good (record { type = i; state = σ })
  listed-whole σ i at r e is h = ap (λ (q : TyRec). listed σ q at) (sym is) ∙ listed-again σ i (length Θ) at (e ∙ sym (take_all Θ)) h (omega arith)

-- ---- clauses

all_three : (a b c : Bool) → b ≡ true → c ≡ true → (a && b && c) ≡ a
all_three true b c e f = rw (e, f) refl
all_three false b c e f = refl

meant_type : (i j : ℕ) (r : TyRec) (c : Clause) → TypeClause j r c → i < 2 ^ 64 → j < 2 ^ 64 → meant c true (shown_type i) 0 [] ≡ eqb j i
meant_type i j r c k g h =
    let n : namesake c true (shown_type i) ≡ eqb j i = rw (k.body, k.named) (same-decimal 116 j i h g) in
    let t : eqb (length c.types) 0 ≡ true = rw k.types refl in
    let f : fit_all c.numbers [] ≡ true = rw k.numbers refl in
    all_three (namesake c true (shown_type i)) (eqb (length c.types) 0) (fit_all c.numbers []) t f ∙ n

pub record ClauseIs (under : ℕ) (all cs : List Clause) (j i at : ℕ) (r : TyRec) : Type 0 where
  pub clause : Clause
  pub is : clause_for under all cs j true (shown_type i) [] [] at ≡ good (put_of under all clause i [] [])
  pub typed : TypeClause i r clause

clause_there : (Φ : Table) (under j i at seen : ℕ) (all cs rest : List Clause) → ShownClauses j Φ cs → j ≤ i → i < j + length Φ → i < j + seen → j + length Φ < 2 ^ 64 → ClauseIs under all (take seen (cs ++ rest)) j i at (rec_at Φ (i - j))
clause_there [] under j i at seen all cs rest h a b c d = absurd (omega arith)
clause_there (r ∷ Φ) under j i at seen all [] rest h a b c d = absurd h
clause_there (r ∷ Φ) under j i at zero all (k ∷ cs) rest h a b c d = absurd (omega arith)
clause_there (r ∷ Φ) under j i at (suc seen) all (k ∷ cs) rest (x, h) a b c d = by (eqb j i) refl (λ l. clause_there Φ under (suc j) i at seen all cs rest h l (omega arith) (omega arith) (omega arith))
  where
    m : meant k true (shown_type i) 0 [] ≡ eqb j i
    m = meant_type i j r k x (omega arith) (omega arith)

    later : List Clause
    later = take seen (cs ++ rest)

    by : (z : Bool) → eqb j i ≡ z → (suc j ≤ i → ClauseIs under all later (suc j) i at (rec_at Φ (i - suc j))) → ClauseIs under all (k ∷ later) j i at (rec_at (r ∷ Φ) (i - j))
    by true e ih =
        let q : j ≡ i = eqb→eq j i (subst (λ (y : Bool). T y) (sym e) tt) in
        let n : i - j ≡ 0 = omega arith in
        record { clause = k; is = rw (m ∙ e) (ap (λ (y : ℕ). good (put_of under all k y [] [])) q); typed = rw n (subst (λ (y : ℕ). TypeClause y r k) q x) }
    by false e ih =
        let q : j ≡ i → ⊥ = λ f. absurd (subst (λ (y : Bool). T y) e (subst (λ (y : ℕ). T (eqb j y)) f (eqb_refl j))) in
        let n : i - j ≡ suc (i - suc j) = minus j i (λ f. q f) a in
        let g = ih (above j i q a) in
        record { clause = g.clause; is = rw (m ∙ e) g.is; typed = rw n g.typed }
      where
        above : (j i : ℕ) → (j ≡ i → ⊥) → j ≤ i → suc j ≤ i
        above j i f g = omega arith

        minus : (j i : ℕ) → (j ≡ i → ⊥) → j ≤ i → i - j ≡ suc (i - suc j)
        minus j i f g = omega arith

-- ---- types of a shown text

pub one_cost : (Q : State → Type 0) (σ : State) (cost at : ℕ) → ((τ : State) → τ.table ≡ σ.table → Q τ) → Within Q (one_put σ cost at)
one_cost Q σ cost at k = by (leb (σ.puts + cost) most_puts)
  where
    by : (b : Bool) → Within Q (need b 34 at >>= λ _. good (record { table = σ.table; nodes = σ.nodes; puts = σ.puts + cost }))
    by true = k _ refl
    by false = refl

-- nothing is joined to it any more
within-last : {A : Type 0} (P : Found → Type 0) (m : Answer A) (f : A → Answer Found) → Within P (m >>= f) → Within P (m >>= λ x. f x >>= λ z. good z)
within-last P (good a) f h = keep (f a) h
  where
    keep : (a : Answer Found) → Within P a → Within P (a >>= λ z. good z)
    keep (good x) h = h
    keep (refused why) h = h
within-last P (refused why) f h = h

module _ (X : Text) (Θ : Table) (ok : TableOk Θ) (bit-first : rec_at Θ 0 ≡ rec01) (cs : List Clause) (main : Clause) (clauses : X.clauses ≡ cs ++ main ∷ []) (shown : ShownClauses 0 Θ cs) where
  -- where type i can be worked out: it is among the first types, or the next one
  pub record Ready (i j : ℕ) (S : Scope) (σ : State) : Type 0 where
    pub bare : S.types ≡ []
    pub known : i < length Θ
    pub next : i ≤ j
    pub some : 0 < j
    pub few : j ≤ length Θ
    pub table : σ.table ≡ take j Θ

  abbrev RecGoes : ℕ → Type 0
  RecGoes m = (i j : ℕ) (S : Scope) (σ : State) (t : TypeTree) → ShownRec (rec_at Θ i) t → i ≤ S.seen → Ready i j S σ → Within (Tells Θ i j) (type_of X m S σ t)

  type-found : (under i seen at : ℕ) → i < length Θ → i < seen → ClauseIs under X.clauses (take seen X.clauses) 0 i at (rec_at Θ i)
  type-found under i seen at h l =
      let n : i - 0 ≡ i = omega arith in
      let g : ClauseIs under X.clauses (take seen (cs ++ main ∷ [])) 0 i at (rec_at Θ (i - 0)) = clause_there Θ under 0 i at seen X.clauses cs (main ∷ []) shown (omega arith) (omega arith) (omega arith) (omega (arith, ok.few)) in
      subst (λ (l : List Clause). ClauseIs under X.clauses (take seen l) 0 i at (rec_at Θ i)) (sym clauses) (subst (λ (k : ℕ). ClauseIs under X.clauses (take seen (cs ++ main ∷ [])) 0 i at (rec_at Θ k)) n g)

  -- the body of clause i, put in
  put-made : (m i j : ℕ) (S : Scope) (σ : State) (at : ℕ) → RecGoes m → i < S.seen → Ready i j S σ → Within (Tells Θ i j) (put_in X true S (λ R τ t. type_of X m R τ t) (body_type (λ R τ t. type_of X m R τ t)) σ at (shown_type i) no_types [])
  put-made m i j S σ at go l R =
      let g = type-found (entries S) i S.seen at R.known l in
      let c : Clause = g.clause in
      let k = g.typed in
      let p : Put = put_of (entries S) X.clauses c i [] [] in
      let t : p.scope.types ≡ [] = rw k.types refl in
      let s : p.scope.seen ≡ i = rw k.numbers refl in
      rw g.is (within_step (λ (τ : State). τ.table ≡ σ.table) (Tells Θ i j) (one_put σ p.cost at) (λ τ. body_type (λ R τ t. type_of X m R τ t) p.scope τ p.body) (one_cost (λ (τ : State). τ.table ≡ σ.table) σ p.cost at (λ τ e. e)) λ τ e.
      subst (λ (b : Body). Within (Tells Θ i j) (body_type (λ R τ t. type_of X m R τ t) p.scope τ b)) (sym k.body) (go i j p.scope τ k.tree k.shown (omega (arith, s)) (record { bare = t; known = R.known; next = R.next; some = R.some; few = R.few; table = e ∙ R.table })))

  -- type i by its name
  atom-made : (m i j : ℕ) (S : Scope) (σ : State) (at : ℕ) → RecGoes m → i < S.seen → Ready i j S σ → Within (Tells Θ i j) (atom_type X S (λ R τ t. type_of X m R τ t) (body_type (λ R τ t. type_of X m R τ t)) σ (typeNamed at (shown_type i) no_types []))
  atom-made m i j S σ at go l R = rw R.bare (put-made m i j S σ at go l R)

  type_goes : (m i j : ℕ) (S : Scope) (σ : State) (t : TypeTree) → RecGoes m → ShownType i t → i < S.seen → Ready i j S σ → Within (Tells Θ i j) (type_of X (suc m) S σ t)
  type_goes m i j S σ t go (type_shown {p = p} {q = q}) l R = within_step (Tells Θ i j) (Tells Θ i j) (atom_type X S (λ R τ t. type_of X m R τ t) (body_type (λ R τ t. type_of X m R τ t)) σ (typeNamed q (shown_type i) no_types [])) (λ x. good x >>= λ y. good y) (atom-made m i j S σ q go l R) λ x h. h

  -- the right side of a record, at whatever levels are left
  abbrev SideGoes : ℕ → Type 0
  SideGoes m = (i j : ℕ) (S : Scope) (σ : State) (t : TypeTree) → ShownType i t → i < S.seen → Ready i j S σ → Within (Tells Θ i j) (type_of X m S σ t)

  earlier-stays : (a i j : ℕ) → a < i → i ≤ j → grown_to a j ≡ j
  earlier-stays a i j h l = rw (T-is (ltb a j) (lt→ltb a j (omega arith))) refl

  below-ready : (a i j : ℕ) (S : Scope) (σ τ : State) → a < i → Ready i j S σ → τ.table ≡ take j Θ → Ready a j S τ
  below-ready a i j S σ τ h R e = record { bare = R.bare; known = omega (arith, R.known); next = omega (arith, R.next); some = R.some; few = R.few; table = e }

  -- two sides, and the record of both
  sides-made :
      (m i j a b : ℕ) (S : Scope) (σ : State) (p q : ℕ) (t : TypeTree) (f : Form) → RecGoes m → SideGoes m → rec_at Θ i ≡ form_of f a b → a < i → b < i → i ≤ S.seen → Ready i j S σ → ShownType b t
      → Within (Tells Θ i j) (atom_type X S (λ R τ t. type_of X m R τ t) (body_type (λ R τ t. type_of X m R τ t)) σ (typeNamed q (shown_type a) no_types []) >>= λ x. type_of X m S x.state t >>= λ y. listed y.state (form_of f x.type y.type) p)
  sides-made m i j a b S σ p q t f go other is ha hb l R s =
      within_step (Tells Θ a j) (Tells Θ i j) (atom_type X S (λ R τ t. type_of X m R τ t) (body_type (λ R τ t. type_of X m R τ t)) σ (typeNamed q (shown_type a) no_types [])) _ (atom-made m a j S σ q go (omega arith) (below-ready a i j S σ σ ha R R.table)) λ x (ex, tx).
      let ux : x.state.table ≡ take j Θ = tx ∙ ap (λ (k : ℕ). take k Θ) (earlier-stays a i j ha R.next) in
      within_step (Tells Θ b j) (Tells Θ i j) (type_of X m S x.state t) _ (other b j S x.state t s (omega arith) (below-ready b i j S σ x.state hb R ux)) λ y (ey, ty).
      let uy : y.state.table ≡ take j Θ = ty ∙ ap (λ (k : ℕ). take k Θ) (earlier-stays b i j hb R.next) in
      listed-shown Θ ok y.state i j p (form_of f x.type y.type) uy (is ∙ sym (ap (λ (k : ℕ). form_of f k y.type) ex ∙ ap (λ (k : ℕ). form_of f a k) ey)) R.known R.next R.few

  rec-goes : (m : ℕ) → RecGoes m → SideGoes m → RecGoes (suc m)
  rec-goes m go other i j S σ t d l R = by (rec_at Θ i) t refl d (ok.earlier i R.known)
    where
      by : (r : TyRec) (t : TypeTree) → rec_at Θ i ≡ r → ShownRec r t → Below i r → Within (Tells Θ i j) (type_of X (suc m) S σ t)
      by rec01 t is one_shown below =
          let z : i ≡ 0 = one_number Θ ok i 0 R.known (omega (arith, R.known)) (is ∙ sym bit-first) in
          let g : grown_to i j ≡ j = rw (T-is (ltb i j) (lt→ltb i j (omega (arith, R.some)))) refl in
          (sym z, R.table ∙ ap (λ (k : ℕ). take k Θ) (sym g))
      by (rec02 a b) t is (product_shown {p = p} {q = q} {r = r} {t = s} h) (x, y) = within-last (Tells Θ i j) (atom_type X S (λ R τ t. type_of X m R τ t) (body_type (λ R τ t. type_of X m R τ t)) σ (typeNamed q (shown_type a) no_types [])) (λ x. type_of X m S x.state s >>= λ y. listed y.state (form_of product x.type y.type) r) (sides-made m i j a b S σ r q s product go other is x y l R h)
      by (rec03 a b) t is (arrow_shown {p = p} {q = q} {r = r} {t = s} h) (x, y) = sides-made m i j a b S σ r q s arrow go other is x y l R h
      by (rec04 a b) t is (linear_shown {p = p} {q = q} {r = r} {t = s} h) (x, y) = sides-made m i j a b S σ r q s linear go other is x y l R h

  mutual
    pub rec-made : (m : ℕ) → RecGoes m
    rec-made zero i j S σ (typed p a x y) d l R = refl
    rec-made (suc m) i j S σ t d l R = rec-goes m (λ a b P τ s h k Q. rec-made m a b P τ s h k Q) (λ a b P τ s h k Q. type-made m a b P τ s h k Q) i j S σ t d l R

    pub type-made : (m : ℕ) → SideGoes m
    type-made zero i j S σ (typed p a x y) d l R = refl
    type-made (suc m) i j S σ t d l R = type_goes m i j S σ t (λ a b P τ s h k Q. rec-made m a b P τ s h k Q) d l R
