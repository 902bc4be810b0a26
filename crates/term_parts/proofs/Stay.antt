-- What stays when a half, entries or nodes are written: states, terms, scopes, and the terms that wait. Assumes nothing.
use Prim.Native.Nat.{ℕ, suc, ◌+◌, ◌*◌, ◌≤◌, ◌<◌}
use mathlib.Core.Path.{◌≡◌, refl, sym, ap, ◌∙◌, subst}
use mathlib.Core.List.{List, [], ◌∷◌}
use native.Mathlib.Omega.{arith}
use native.Mathlib.Decide.{dec_le}
use lib.ListN.{length, get_or}
use lib.Seq.{length-sets}
use Rattle.laws.proofs.Regions.{sets-at, sets-before, sets_outside}
use Rattle.notation_calculus.specs.Making.{State, Made, most_entries}
use Rattle.making_memory.specs.Map.{halves_at, type_count_at, node_count_at, put_count_at}
use Rattle.made_types.specs.Held.{HoldsState}
use Rattle.made_types.proofs.Keeping.{state_kept}
use Rattle.made_nodes.specs.Held.{TermHeld, MadeOnly, Workable}
use Rattle.made_nodes.specs.declared.Sub.{Sub}
use Rattle.scopes.specs.Entries.{OnlyEntries}
use Rattle.walks.specs.Walked.{TermsWalked}
use Rattle.walks.proofs.Kept.{terms_walked_none, terms_walked_then, terms_of_types, terms_of_made, types_of_entries, term_on_terms}
use Rattle.term_parts.specs.declared.halves.Half.{Half}
use Rattle.term_parts.specs.Halves.{most_halves, half_in, sub_of, with_half, InHalves, HalvesIn, PartsOnly, CanJoin}

-- ---- a half is put

pub half_parts : (h : Half) (a b c d : ℕ) → a ≡ h.node → b ≡ h.ty → c ≡ h.deep → d ≡ h.place → record { node = a; ty = b; deep = c; place = d } ≡ h
half_parts h a b c d e₀ e₁ e₂ e₃ = rw (e₀, e₁, e₂, e₃)

module _ (w : List ℕ) (i : ℕ) (h : Half) (room : InHalves w i) where
  abbrev numbers_of_half : List ℕ
  numbers_of_half = h.node ∷ h.ty ∷ h.deep ∷ h.place ∷ []

  pub half_long : length (with_half w i h) ≡ length w
  half_long = length-sets w (halves_at + 4 * i) numbers_of_half

  pub half_below : (j : ℕ) → j < halves_at + 4 * i → get_or (with_half w i h) j 0 ≡ get_or w j 0
  half_below j l = sets-before numbers_of_half w (halves_at + 4 * i) j 0 l

  pub half_above : (j : ℕ) → halves_at + 4 * i + 4 ≤ j → get_or (with_half w i h) j 0 ≡ get_or w j 0
  half_above j l = sets_outside numbers_of_half w (halves_at + 4 * i) j 0 (λ q. omega arith) (omega arith)

  half-number : (k : ℕ) → k < 4 → get_or (with_half w i h) (halves_at + 4 * i + k) 0 ≡ get_or numbers_of_half k 0
  half-number k l = sets-at numbers_of_half w (halves_at + 4 * i) k (omega (arith, room.0, room.1)) l

  -- what was put is there
  pub half_put : half_in (with_half w i h) i ≡ h
  half_put = let z : halves_at + 4 * i + 0 ≡ halves_at + 4 * i = omega arith in half_parts h _ _ _ _ (ap (λ (j : ℕ). get_or (with_half w i h) j 0) (sym z) ∙ half-number 0 (omega arith)) (half-number 1 (omega arith)) (half-number 2 (omega arith)) (half-number 3 (omega arith))

  pub half_state : (σ : State) → HoldsState w σ → HoldsState (with_half w i h) σ
  half_state σ H = state_kept w (with_half w i h) σ H half_long (λ j a b. half_below j (omega arith)) (half_above type_count_at (omega (arith, room.1))) (half_above node_count_at (omega (arith, room.1))) (half_above put_count_at (omega (arith, room.1)))

  half-walked : (top : ℕ) → top ≤ most_entries → TermsWalked 0 top w (with_half w i h)
  half-walked top few =
      let n = half_above node_count_at (omega (arith, room.1)) in
      let t = half_above type_count_at (omega (arith, room.1)) in
      record {
        same = half_long;
        nodes = λ j a b. half_below j (omega arith);
        entries = λ j a b. half_below j (omega arith);
        clauses = λ j a b. half_above j (omega (arith, room.1));
        frames = λ j a b. half_above j (omega (arith, room.1));
        counts = λ j a b c d. half_above j (omega (arith, room.1));
        levels = λ j a b. half_above j (omega (arith, room.1));
        scopes = λ j a. half_above j (omega (arith, room.1));
        more_types = omega arith;
        few_types = λ q. omega arith;
        more_nodes = omega arith;
      }

  pub parts_of_half : (top : ℕ) → top ≤ most_entries → PartsOnly top i w (with_half w i h)
  parts_of_half top few = record { walked = half-walked top few; halves = λ j a b. half_below j b }

-- ---- what is written in a row

pub parts_none : (top waiting : ℕ) (w : List ℕ) → PartsOnly top waiting w w
parts_none top waiting w = record { walked = terms_walked_none 0 top w; halves = λ j a b. refl }

pub parts_then : (top₁ top₂ top waiting₁ waiting₂ waiting : ℕ) (u v w : List ℕ) → top ≤ top₁ → top ≤ top₂ → waiting ≤ waiting₁ → waiting ≤ waiting₂ → PartsOnly top₁ waiting₁ u v → PartsOnly top₂ waiting₂ v w → PartsOnly top waiting u w
parts_then top₁ top₂ top waiting₁ waiting₂ waiting u v w a b c d x y = record {
  walked = terms_walked_then 0 0 0 top₁ top₂ top u v w (omega arith) (omega arith) a b x.walked y.walked;
  halves = λ j l h. y.halves j l (omega arith) ∙ x.halves j l (omega arith);
}

pub parts_of-entries : (top waiting from to : ℕ) (w w' : List ℕ) → top ≤ from → to ≤ most_entries → OnlyEntries from to w w' → PartsOnly top waiting w w'
parts_of-entries top waiting from to w w' a b o = record { walked = terms_of_types 0 top w w' (types_of_entries 0 top from to w w' a b o); halves = λ j l h. o.above j (omega arith) }

pub parts_of-made : (top waiting : ℕ) (w w' : List ℕ) → top ≤ most_entries → waiting ≤ most_halves → MadeOnly w w' → PartsOnly top waiting w w'
parts_of-made top waiting w w' a b o = record { walked = terms_of_made 0 top w w' a o; halves = λ j l h. o.above j (omega arith) (λ e. omega arith) (λ e. omega arith) }

-- a state stays where entries are written
pub entries_state : (from to : ℕ) (w w' : List ℕ) → to ≤ most_entries → OnlyEntries from to w w' → (σ : State) → HoldsState w σ → HoldsState w' σ
entries_state from to w w' h o σ H = state_kept w w' σ H o.same (λ j a b. o.below j (omega arith)) (o.above type_count_at (omega arith)) (o.above node_count_at (omega arith)) (o.above put_count_at (omega arith))

-- ---- terms that wait

-- a half stays where its four numbers do
pub half_same : (w w' : List ℕ) (i : ℕ) → ((j : ℕ) → halves_at + 4 * i ≤ j → j < halves_at + 4 * i + 4 → get_or w' j 0 ≡ get_or w j 0) → half_in w' i ≡ half_in w i
half_same w w' i same = half_parts (half_in w i) _ _ _ _ (same (halves_at + 4 * i) (omega arith) (omega arith)) (same (halves_at + 4 * i + 1) (omega arith) (omega arith)) (same (halves_at + 4 * i + 2) (omega arith) (omega arith)) (same (halves_at + 4 * i + 3) (omega arith) (omega arith))

module _ {A : Type 0} (made : A → Made) (place : A → ℕ) where
  -- .. where their halves and their terms do
  pub halves-stay : (w w' : List ℕ) (from : ℕ) (xs : List A) → ((j : ℕ) → halves_at ≤ j → j < halves_at + 4 * (from + length xs) → get_or w' j 0 ≡ get_or w j 0) → ((s : Sub) (m : Made) → TermHeld w s m → TermHeld w' s m) → HalvesIn made place w from xs → HalvesIn made place w' from xs
  halves-stay w w' from [] same terms H = tt
  halves-stay w w' from (x ∷ xs) same terms H =
      let e : half_in w' (from + length xs) ≡ half_in w (from + length xs) = half_same w w' (from + length xs) (λ j a b. same j (omega arith) (omega arith)) in
      (ap (λ (h : Half). h.place) e ∙ H.0, subst (λ (h : Half). TermHeld w' (sub_of h) (made x)) (sym e) (terms (sub_of (half_in w (from + length xs))) (made x) H.1), halves-stay w w' from xs (λ j a b. same j a (omega arith)) terms H.2)

  -- one more, at the top
  pub halves-more : (w : List ℕ) (from : ℕ) (xs : List A) (x : A) → (half_in w (from + length xs)).place ≡ place x → TermHeld w (sub_of (half_in w (from + length xs))) (made x) → HalvesIn made place w from xs → HalvesIn made place w from (x ∷ xs)
  halves-more w from xs x p t H = (p, t, H)

  -- their types are types
  pub halves_small : (w : List ℕ) (from : ℕ) (xs : List A) → Workable w → HalvesIn made place w from xs → (i : ℕ) → i < length xs → (half_in w (from + i)).ty < 256
  halves_small w from [] W H i l = absurd (omega arith)
  halves_small w from (x ∷ xs) W H i l = elim (dec_le (suc i) (length xs)) [
    | yes b ↦ halves_small w from xs W H.2 i b
    | no b ↦ let z : i ≡ length xs = omega arith in subst (λ (k : ℕ). (half_in w (from + k)).ty < 256) (sym z) (omega (arith, H.1.known, W.few))
  ]

  -- .. put there
  pub halves-put : (w : List ℕ) (from i : ℕ) (xs : List A) (x : A) (s : Sub) (w' : List ℕ) → i ≡ from + length xs → InHalves w i → w' ≡ with_half w i (record { node = s.node; ty = s.ty; deep = s.deep; place = place x }) → TermHeld w s (made x) → HalvesIn made place w from xs → HalvesIn made place w' from (x ∷ xs)
  halves-put w from i xs x s w' e room is T H =
      let h : Half = record { node = s.node; ty = s.ty; deep = s.deep; place = place x } in
      let at : half_in w' (from + length xs) ≡ h = ap (λ (k : ℕ). half_in w' k) (sym e) ∙ ap (λ (l : List ℕ). half_in l i) is ∙ half_put w i h room in
      let walked : TermsWalked 0 0 w w' = subst (TermsWalked 0 0 w) (sym is) (half-walked w i h room 0 (omega arith)) in
      halves-more w' from xs x (ap (λ (q : Half). q.place) at) (subst (λ (q : Half). TermHeld w' (sub_of q) (made x)) (sym at) (term_on_terms 0 0 [] w w' walked s (made x) T)) (halves-stay w w' from xs (λ j a b. ap (λ (l : List ℕ). get_or l j 0) is ∙ half_below w i h room j (omega arith)) (λ t m U. term_on_terms 0 0 [] w w' walked t m U) H)

  -- they can be joined to a term
  pub can_join : (w : List ℕ) (from count : ℕ) (xs : List A) (σ : State) (e : Sub) (m : Made) → length xs ≡ count → from + count ≤ most_halves → HoldsState w σ → TermHeld w e m → HalvesIn made place w from xs → CanJoin w from count e
  can_join w from count xs σ e m l few H T K =
      let W : Workable w = record { room = H.types.room; few = omega (arith, H.types.count, H.types.ok.few) } in
      record { workable = W; few = few; types = λ i h. halves_small w from xs W K i (omega arith); type = omega (arith, T.known, W.few) }
