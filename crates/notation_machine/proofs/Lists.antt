-- What the grammar reads as lists in one another is what the machine passes over word by word: the same names, the same lists in the same order,
-- and each list's variable among the names of a list before it. Assumes nothing.
use Prim.Native.Nat.{ℕ, zero, suc, ◌+◌, ◌≤◌}
use mathlib.Core.Path.{◌≡◌, refl, sym, ap, subst, ◌∙◌}
use mathlib.Core.Bool.{Bool, true, false, ◌||◌, cond}
use mathlib.Core.List.{List, [], ◌∷◌, ◌++◌, append-nil}
use native.Mathlib.Omega.{arith}
use lib.Dec.{T, eqb, leb, eqb_refl}
use lib.ListN.{length}
use Rattle.calculus.specs.Answer.{Answer, good, ◌>>=◌, need}
use Rattle.laws.proofs.Tests.{and_of, or_left, or_right}
use Rattle.notation_calculus.specs.Words.{Name, same_name, Sign, sign_code, ends, round, endRound, comma, Token, sign, part, number, name, Word}
use Rattle.notation_calculus.specs.Trees.{Bound}
use Rattle.notation_calculus.specs.Grammar.{Got, got, behind, place, is_token, is, expect, bound_name, name_at, is_name, list_from, nameless, Group, Lists, Item, group_at, item_at, bounds_of, groups_of, lists_at}
use Rattle.notation_calculus.specs.Making.{Entry, lookup, bind}
use Rattle.notation_theorems.proofs.Answering.{On, on_step, on_any}
use Rattle.notation_machine.specs.Lists.{behind_lists, head_at, in_lists, next_list, list_count}
use Rattle.notation_machine.proofs.ReadLaws.{on_expected, one_sign}

-- ---- the lists that the scan meets

-- a list stands here, with these names
pub record GroupStands (g : Group) (ws : List Word) : Type 0 where
  pub opens : is round ws ≡ true
  pub stands : place ws ≡ g.place
  pub rest : List Word
  pub heads : list_from head_at (length ws) (behind ws) ≡ good (record { value = g.names; rest = rest })

-- from the first words on the scan meets just these lists before the second words
abbrev pub Scans : List Group → List Word → List Word → Type 0
Scans [] us vs = next_list us ≡ next_list vs
Scans (g ∷ gs) us vs = GroupStands g (next_list us) × Scans gs (behind (next_list us)) vs

scans_same : (gs : List Group) (us vs zs : List Word) → next_list us ≡ next_list vs → Scans gs vs zs → Scans gs us zs
scans_same [] us vs zs e s = e ∙ s
scans_same (g ∷ gs) us vs zs e s = subst (λ (q : List Word). GroupStands g q × Scans gs (behind q) zs) (sym e) s

scans_then : (gs hs : List Group) (us vs zs : List Word) → Scans gs us vs → Scans hs vs zs → Scans (gs ++ hs) us zs
scans_then [] hs us vs zs s t = scans_same hs us vs zs s t
scans_then (g ∷ gs) hs us vs zs s t = (s.0, scans_then gs hs (behind (next_list us)) vs zs s.1 t)

-- ---- the variables of lists

abbrev pub among : Name → List Bound → Bool
among n [] = false
among n (x ∷ xs) = same_name n x.name || among n xs

-- each list's variable is known, or among the names of a list before it
abbrev pub ListsReady : List Group → (Name → Bool) → Type 0
ListsReady [] known = Unit {0}
ListsReady (g ∷ gs) known = T (known (nameless g.place).name) × ListsReady gs (λ n. among n g.names || known n)

or_map : (a b c : Bool) → (T b → T c) → T (a || b) → T (a || c)
or_map true b c h t = tt
or_map false b c h t = h t

pub ready_more : (gs : List Group) (known more : Name → Bool) → ((n : Name) → T (known n) → T (more n)) → ListsReady gs known → ListsReady gs more
ready_more [] known more h r = tt
ready_more (g ∷ gs) known more h r = (h (nameless g.place).name r.0, ready_more gs (λ n. among n g.names || known n) (λ n. among n g.names || more n) (λ n. or_map (among n g.names) (known n) (more n) (h n)) r.1)

ready_both : (gs hs : List Group) (known : Name → Bool) → ListsReady gs known → ListsReady hs known → ListsReady (gs ++ hs) known
ready_both [] hs known r q = q
ready_both (g ∷ gs) hs known r q = (r.0, ready_both gs hs (λ n. among n g.names || known n) r.1 (ready_more hs known (λ n. among n g.names || known n) (λ n t. or_right (among n g.names) (known n) t) q))

same_self : (n : Name) → T (same_name n n)
same_self [] = tt
same_self (a ∷ xs) = and_of (eqb a a) (same_name xs xs) (eqb_refl a) (same_self xs)

-- ---- one of a list, and all of them

pub record Itemed (ws : List Word) (x : Got Item) : Type 0 where
  pub head : head_at ws ≡ good (record { value = x.value.bound; rest = x.rest })
  pub passes : (deep : ℕ) → behind_lists (suc deep) ws ≡ behind_lists (suc deep) x.rest
  pub scans : Scans x.value.groups ws x.rest
  pub ready : (known : Name → Bool) → T (known x.value.bound.name) → ListsReady x.value.groups known

pub record AllItemed (rounds : ℕ) (ws : List Word) (xs : Got (List Item)) : Type 0 where
  pub heads : list_from head_at rounds ws ≡ good (record { value = bounds_of xs.value; rest = xs.rest })
  pub passes : (deep : ℕ) → behind_lists (suc deep) ws ≡ behind_lists (suc deep) xs.rest
  pub scans : Scans (groups_of xs.value) ws xs.rest
  pub ready : (known : Name → Bool) → ((n : Name) → T (among n (bounds_of xs.value)) → T (known n)) → ListsReady (groups_of xs.value) known

-- the list whose parenthesis is the first of the words
pub record ListsMet (ws : List Word) (ls : Got Lists) : Type 0 where
  pub rest : List Word
  pub heads : list_from head_at (length ws) (behind ws) ≡ good (record { value = ls.value.names; rest = rest })
  pub closes : expect endRound rest ≡ good ls.rest
  pub passes : (deep : ℕ) → behind_lists (suc deep) (behind ws) ≡ behind_lists deep ls.rest
  pub scans : Scans ls.value.inner (behind ws) ls.rest
  pub ready : ListsReady ls.value.inner (λ n. among n ls.value.names)

none_open : (ws : List Word) → behind_lists 0 ws ≡ ws
none_open [] = refl
none_open (w ∷ ws) = refl

-- a word that is a name, or one of the two signs
name_item : (w : Word) (ws : List Word) (k : Token) → w.token ≡ k → On (Itemed (w ∷ ws)) ((bound_name k w.place >>= λ n. got n ws) >>= λ x. got (record { bound = x.value; groups = [] }) x.rest)
name_item w ws (sign s) e = tt
name_item w ws (part p) e = tt
name_item w ws (number n) e = tt
name_item w ws (name n) e = record { head = rw e refl; passes = λ deep. rw e refl; scans = rw e refl; ready = λ known t. tt }

pub one_open : (w : Word) → T (is_token round w.token) → (is_token ends w.token ≡ false) × (is_token endRound w.token ≡ false) × (in_lists w ≡ false)
one_open w t = (one_sign ends round w.token refl t, one_sign endRound round w.token refl t, in-none w.token t)
  where
    in-none : (k : Token) → T (is_token round k) → (is_name k || (is_token comma k || is_token endRound k)) ≡ false
    in-none (sign s) t = rw (one_sign comma round (sign s) refl t) (one_sign endRound round (sign s) refl t)
    in-none (part p) t = absurd t
    in-none (number n) t = absurd t
    in-none (name n) t = absurd t

module _ (read : List Word → Answer (Got Lists)) (r : (ws : List Word) → On (ListsMet ws) (read ws)) where
  list-item : (w : Word) (ws : List Word) → is round (w ∷ ws) ≡ true → (ls : Got Lists) → ListsMet (w ∷ ws) ls → Itemed (w ∷ ws) (record { value = record { bound = nameless w.place; groups = group_at w.place ls.value }; rest = ls.rest })
  list-item w ws e ls L =
      let (a, b, c) = one_open w (rw e tt) in
      record {
        head = rw e (ap (λ (vs : List Word). got (nameless w.place) vs) (L.passes 0 ∙ none_open ls.rest));
        passes = λ deep. rw (a, e) (L.passes (suc deep));
        scans = rw c (record { opens = e; stands = refl; rest = L.rest; heads = L.heads }, L.scans);
        ready = λ known t. (t, ready_more ls.value.inner (λ n. among n ls.value.names) (λ n. among n ls.value.names || known n) (λ n q. or_left (among n ls.value.names) (known n) q) L.ready);
      }

  item-read : (ws : List Word) → On (Itemed ws) (item_at read ws)
  item-read [] = tt
  item-read (w ∷ ws) = by (is round (w ∷ ws)) refl
    where
      by :
          (b : Bool) → is round (w ∷ ws) ≡ b
          → On (Itemed (w ∷ ws)) (cond b (read (w ∷ ws) >>= λ ls. got (record { bound = nameless w.place; groups = group_at w.place ls.value }) ls.rest) (name_at (w ∷ ws) >>= λ x. got (record { bound = x.value; groups = [] }) x.rest))
      by true e = on_step (ListsMet (w ∷ ws)) (Itemed (w ∷ ws)) (read (w ∷ ws)) _ (r (w ∷ ws)) λ ls L. list-item w ws e ls L
      by false e = name_item w ws w.token refl

  -- a comma stands between two of a list
  comma-passed : (ws : List Word) → is comma ws ≡ true → ((deep : ℕ) → behind_lists (suc deep) ws ≡ behind_lists (suc deep) (behind ws)) × (next_list ws ≡ next_list (behind ws))
  comma-passed [] e = (λ deep. refl, refl)
  comma-passed (w ∷ ws) e =
      let t : T (is_token comma w.token) = rw e tt in
      (λ deep. rw (one_sign ends comma w.token refl t, one_sign round comma w.token refl t, one_sign endRound comma w.token refl t) refl, in-lists (is_name w.token) e)
    where
      in-lists : (b : Bool) → is_token comma w.token ≡ true → cond (b || (is_token comma w.token || is_token endRound w.token)) (next_list ws) (w ∷ ws) ≡ next_list ws
      in-lists true e = refl
      in-lists false e = rw e refl

  items_read : (rounds : ℕ) (ws : List Word) → On (AllItemed rounds ws) (list_from (item_at read) rounds ws)
  items_read zero ws = tt
  items_read (suc rounds) ws = on_step (Itemed ws) (AllItemed (suc rounds) ws) (item_at read ws) _ (item-read ws) λ x I. by x I (is comma x.rest) refl (items_read rounds (behind x.rest))
    where
      by :
          (x : Got Item) → Itemed ws x → (b : Bool) → is comma x.rest ≡ b
          → On (AllItemed rounds (behind x.rest)) (list_from (item_at read) rounds (behind x.rest))
          → On (AllItemed (suc rounds) ws) (cond b (list_from (item_at read) rounds (behind x.rest) >>= λ xs. got (x.value ∷ xs.value) xs.rest) (got (x.value ∷ []) x.rest))
      by x I true e h = on_step (AllItemed rounds (behind x.rest)) (AllItemed (suc rounds) ws) (list_from (item_at read) rounds (behind x.rest)) _ h λ xs R.
          let (p, q) = comma-passed x.rest e in
          record {
            heads = rw I.head (rw e (rw R.heads refl));
            passes = λ deep. I.passes deep ∙ p deep ∙ R.passes deep;
            scans = scans_then x.value.groups (groups_of xs.value) ws x.rest xs.rest I.scans (scans_same (groups_of xs.value) x.rest (behind x.rest) xs.rest q R.scans);
            ready = λ known f. ready_both x.value.groups (groups_of xs.value) known (I.ready known (f x.value.bound.name (or_left (same_name x.value.bound.name x.value.bound.name) (among x.value.bound.name (bounds_of xs.value)) (same_self x.value.bound.name)))) (R.ready known λ n t. f n (or_right (same_name n x.value.bound.name) (among n (bounds_of xs.value)) t));
          }
      by x I false e h = record {
        heads = rw I.head (rw e refl);
        passes = I.passes;
        scans = scans_then x.value.groups [] ws x.rest x.rest I.scans refl;
        ready = λ known f. ready_both x.value.groups [] known (I.ready known (f x.value.bound.name (or_left (same_name x.value.bound.name x.value.bound.name) false (same_self x.value.bound.name)))) tt;
      }

-- ---- a list

-- the closing parenthesis is passed
closed-passed : (ws : List Word) → is endRound ws ≡ true → ((deep : ℕ) → behind_lists (suc deep) ws ≡ behind_lists deep (behind ws)) × (next_list ws ≡ next_list (behind ws))
closed-passed [] e = (λ deep. refl, refl)
closed-passed (w ∷ ws) e =
    let t : T (is_token endRound w.token) = rw e tt in
    (λ deep. rw (one_sign ends endRound w.token refl t, one_sign round endRound w.token refl t, e) refl, in-lists (is_name w.token) (is_token comma w.token) e)
  where
    in-lists : (b c : Bool) → is_token endRound w.token ≡ true → cond (b || (c || is_token endRound w.token)) (next_list ws) (w ∷ ws) ≡ next_list ws
    in-lists true c e = refl
    in-lists false true e = refl
    in-lists false false e = rw e refl

-- what `lists_at` reads is what the machine reads and passes over
pub lists_read : (m : ℕ) (ws : List Word) → On (ListsMet ws) (lists_at m ws)
lists_read zero ws = tt
lists_read (suc m) ws =
    on_step (AllItemed (length ws) (behind ws)) (ListsMet ws) (list_from (item_at (λ us. lists_at m us)) (length ws) (behind ws)) _ (items_read (λ us. lists_at m us) (lists_read m) (length ws) (behind ws)) λ xs R.
    on_any (ListsMet ws) (need (leb 2 (length xs.value)) 32 (place xs.rest)) _ λ _. on_expected (ListsMet ws) endRound xs.rest (λ after. got (record { names = bounds_of xs.value; inner = groups_of xs.value }) after) λ e.
    let (p, q) = closed-passed xs.rest e in
    record {
      rest = xs.rest;
      heads = R.heads;
      closes = rw e refl;
      passes = λ deep. R.passes deep ∙ p deep;
      scans = subst (λ (gs : List Group). Scans gs (behind ws) (behind xs.rest)) (append-nil (groups_of xs.value)) (scans_then (groups_of xs.value) [] (behind ws) xs.rest (behind xs.rest) R.scans q);
      ready = R.ready (λ n. among n (bounds_of xs.value)) λ n t. t;
    }

-- ---- the word behind all lists

-- a sign that stands in no list
abbrev pub OutsideLists : Sign → Type 0
OutsideLists s = (eqb (sign_code comma) (sign_code s) ≡ false) × (eqb (sign_code endRound) (sign_code s) ≡ false) × (eqb (sign_code round) (sign_code s) ≡ false)

pub no_list : (s : Sign) → OutsideLists s → (w : Word) → T (is_token s w.token) → (is_token round w.token ≡ false) × (in_lists w ≡ false)
no_list s (a, b, c) w t = (one_sign round s w.token c t, out w.token t)
  where
    out : (k : Token) → T (is_token s k) → (is_name k || (is_token comma k || is_token endRound k)) ≡ false
    out (sign o) t = rw (one_sign comma s (sign o) a t) (one_sign endRound s (sign o) b t)
    out (part p) t = absurd t
    out (number n) t = absurd t
    out (name n) t = absurd t

-- where the scan ends it has come to no list
pub scan-ends : (s : Sign) → OutsideLists s → (ws : List Word) → is s ws ≡ true → is round (next_list ws) ≡ false
scan-ends s o [] e = refl
scan-ends s o (w ∷ ws) e = let (a, b) = no_list s o w (rw e tt) in rw b a

-- .. and counts none
pub count-ends : (s : Sign) → OutsideLists s → (ws : List Word) → is s ws ≡ true → list_count ws ≡ 0
count-ends s o [] e = refl
count-ends s o (w ∷ ws) e = let (a, b) = no_list s o w (rw e tt) in rw (a, b) refl

-- the next list is one of those that are counted
pub count-scan : (us : List Word) → T (is round (next_list us)) → list_count us ≡ suc (list_count (behind (next_list us)))
count-scan [] t = absurd t
count-scan (w ∷ ws) t = by (is_token round w.token) (in_lists w) refl (λ r. let (a, b, c) = one_open w r in c) t (count-scan ws)
  where
    by : (a b : Bool) → is_token round w.token ≡ a → (T (is_token round w.token) → b ≡ false) → T (is round (cond b (next_list ws) (w ∷ ws))) → (T (is round (next_list ws)) → list_count ws ≡ suc (list_count (behind (next_list ws)))) → cond a (suc (list_count ws)) (cond b (list_count ws) 0) ≡ suc (list_count (behind (cond b (next_list ws) (w ∷ ws))))
    by true true e f t r = absurd (subst (λ (q : Bool). T q) (f (rw e tt)) tt)
    by true false e f t r = refl
    by false true e f t r = r t
    by false false e f t r = absurd (subst (λ (q : Bool). T q) e t)

-- no more lists than words are passed
pub count_next : (ws : List Word) → list_count ws + length (behind ws) ≤ list_count (behind ws) + length ws
count_next [] = omega arith
count_next (w ∷ ws) = by (is_token round w.token) (in_lists w)
  where
    by : (a b : Bool) → cond a (suc (list_count ws)) (cond b (list_count ws) 0) + length ws ≤ list_count ws + suc (length ws)
    by true b = omega arith
    by false true = omega arith
    by false false = omega arith

-- the machine reads the names of a list, and stands behind it
pub heads_then : {B : Type 0} (ws : List Word) (ls : Got Lists) → ListsMet ws ls → (f : List Bound → List Word → Answer B) → (list_from head_at (length ws) (behind ws) >>= λ xs. expect endRound xs.rest >>= λ us. f xs.value us) ≡ f ls.value.names ls.rest
heads_then ws ls L f = ap (λ (q : Answer (Got (List Bound))). q >>= λ xs. expect endRound xs.rest >>= λ us. f xs.value us) L.heads ∙ ap (λ (q : Answer (List Word)). q >>= λ us. f ls.value.names us) L.closes

-- ---- names in a scope

abbrev pub is_in : Name → List Entry → Bool
is_in n [] = false
is_in n (e ∷ es) = same_name n e.name || is_in n es

-- what is in a scope is found
pub lookup_in : {A : Type 0} (P : A → Type 0) (n : Name) (Γ : List Entry) (i : ℕ) {f : ℕ → ℕ → A} (a : A) → T (is_in n Γ) → ((j v : ℕ) → P (f j v)) → P (lookup n Γ i f a)
lookup_in P n [] i a t h = absurd t
lookup_in P n (e ∷ es) i {f} a t h = by (same_name n e.name) t (λ u. lookup_in P n es (suc i) a u h)
  where
    by : (x : Bool) → T (x || is_in n es) → (T (is_in n es) → P (lookup n es (suc i) f a)) → P (cond x (f i e.value) (lookup n es (suc i) f a))
    by true t r = h i e.value
    by false t r = r t

-- .. twice where it is looked up twice
pub lookup-found : {A B : Type 0} (R : A → B → Type 0) (n : Name) (Γ : List Entry) (i : ℕ) {f : ℕ → ℕ → A} (a : A) {g : ℕ → ℕ → B} (b : B) → T (is_in n Γ) → ((j v : ℕ) → R (f j v) (g j v)) → R (lookup n Γ i f a) (lookup n Γ i g b)
lookup-found R n [] i a b t h = absurd t
lookup-found {A} {B} R n (e ∷ es) i {f} a {g} b t h = by (same_name n e.name) t (λ u. lookup-found R n es (suc i) a b u h)
  where
    by : (x : Bool) → T (x || is_in n es) → (T (is_in n es) → R (lookup n es (suc i) f a) (lookup n es (suc i) g b)) → R (cond x (f i e.value) (lookup n es (suc i) f a)) (cond x (g i e.value) (lookup n es (suc i) g b))
    by true t r = h i e.value
    by false t r = r t

pub bound_in_lem : (x : Bound) (t : ℕ) (Γ : List Entry) → T (is_in x.name (bind x t Γ))
bound_in_lem x t Γ = or_left (same_name x.name x.name) (is_in x.name Γ) (same_self x.name)

-- what is known is still to be bound, or is in the scope
abbrev pub Covers : (Name → Bool) → List Bound → List Entry → Type 0
Covers known xs Γ = (n : Name) → T (known n) → T (among n xs || is_in n Γ)

pub covers-two : (known : Name → Bool) (x y : Bound) (t u : ℕ) (Γ : List Entry) → Covers known (x ∷ y ∷ []) Γ → (n : Name) → T (known n) → T (is_in n (bind y u (bind x t Γ)))
covers-two known x y t u Γ c n k = by (same_name n x.name) (same_name n y.name) (c n k)
  where
    by : (a b : Bool) → T ((a || (b || false)) || is_in n Γ) → T (b || (a || is_in n Γ))
    by true true q = tt
    by true false q = tt
    by false true q = tt
    by false false q = q

pub covers_one : (known : Name → Bool) (x z : Bound) (xs : List Bound) (t u : ℕ) (Γ : List Entry) → Covers known (x ∷ xs) Γ → Covers known xs (bind z u (bind x t Γ))
covers_one known x z xs t u Γ c n k = by (same_name n x.name) (among n xs) (same_name n z.name) (c n k)
  where
    by : (a b c : Bool) → T ((a || b) || is_in n Γ) → T (b || (c || (a || is_in n Γ)))
    by a true c q = tt
    by a false true q = tt
    by true false false q = tt
    by false false false q = q
