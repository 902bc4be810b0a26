-- What is looked up once is known for whatever is done with it. Assumes nothing.
use Prim.Native.Nat.{ℕ, zero, suc, ◌+◌, ◌-◌, ◌≤◌, ◌<◌}
use mathlib.Core.Path.{◌≡◌, refl, sym, ap, ◌∙◌, subst}
use mathlib.Core.Bool.{Bool, true, false, cond}
use mathlib.Core.List.{List, [], ◌∷◌}
use native.Mathlib.Omega.{arith}
use native.Mathlib.Decide.{dec_le}
use lib.Dec.{eqb}
use lib.ListN.{length, get_or}
use Rattle.notation_calculus.specs.Words.{Name, same_name}
use Rattle.notation_calculus.specs.Making.{Entry, Scope, lookup}
use Rattle.words.specs.Next.{run_at}
use Rattle.scopes.specs.Entries.{place_in, value_at, entries_back, last_named, last_placed}
use Rattle.scopes.specs.Frames.{frame_in, HoldsScope}
use Rattle.scopes.proofs.LookLaws.{FoundLast, look-last, look-placed}
use Rattle.walks.specs.Walkable.{AllTyped}
use Rattle.std.specs.Prelude.{Some, None}
use Rattle.term_parts.specs.Parts.{Looked, here, nowhere, look_for, CanLook, LookSays, CanLookAt, LookAtSays}

-- what is done with an answer
abbrev pub done_with : {A : Type 0} → (ℕ → ℕ → A) → A → Looked → A
done_with found else (here i t) = found i t
done_with found else nowhere = else

module _ {A : Type 0} (n : Name) (found : ℕ → ℕ → A) (else : A) where
  done-cond : (b : Bool) (i t : ℕ) (m : Looked) → cond b (found i t) (done_with found else m) ≡ done_with found else (cond b (here i t) m)
  done-cond true i t m = refl
  done-cond false i t m = refl

  look-done : (Γ : List Entry) (i : ℕ) → lookup n Γ i found else ≡ done_with found else (lookup n Γ i here nowhere)
  look-done [] i = refl
  look-done (e ∷ Γ) i = ap (λ (m : A). cond (same_name n e.name) (found i e.value) m) (look-done Γ (suc i)) ∙ done-cond (same_name n e.name) i e.value (lookup n Γ (suc i) here nowhere)

  pub looked_here : (Γ : List Entry) (i t : ℕ) → here i t ≡ look_for n Γ → lookup n Γ 0 found else ≡ found i t
  looked_here Γ i t e = look-done Γ 0 ∙ ap (done_with found else) (sym e)

  pub looked_nowhere : (Γ : List Entry) → nowhere ≡ look_for n Γ → lookup n Γ 0 found else ≡ else
  looked_nowhere Γ e = look-done Γ 0 ∙ ap (done_with found else) (sym e)

-- the type of a variable that is found
abbrev TypedBelow : ℕ → Looked → Type 0
TypedBelow k (here i t) = t < k
TypedBelow k nowhere = Unit {0}

typed_cond : (k : ℕ) (b : Bool) (i t : ℕ) (m : Looked) → t < k → TypedBelow k m → TypedBelow k (cond b (here i t) m)
typed_cond k true i t m h g = h
typed_cond k false i t m h g = g

typed_from : (k : ℕ) (n : Name) (Γ : List Entry) (i : ℕ) → AllTyped k Γ → TypedBelow k (lookup n Γ i here nowhere)
typed_from k n [] i a = tt
typed_from k n (e ∷ Γ) i a = typed_cond k (same_name n e.name) i e.value (lookup n Γ (suc i) here nowhere) a.0 (typed_from k n Γ (suc i) a.1)

pub looked_typed : (k : ℕ) (n : Name) (Γ : List Entry) (i t : ℕ) → AllTyped k Γ → here i t ≡ look_for n Γ → t < k
looked_typed k n Γ i t a e = subst (TypedBelow k) (sym e) (typed_from k n Γ 0 a)

-- ---- what the code finds

-- the variables of a scope are the entries from where the frame says
variables_are : (text w : List ℕ) (frame top : ℕ) (S : Scope) → HoldsScope text w frame top S → (frame_in w frame).variables ≡ S.under → entries_back text w (frame_in w frame).variables (top - (frame_in w frame).variables) ≡ S.variables
variables_are text w frame top S H u =
    let n : top - (frame_in w frame).variables ≡ length S.variables = omega (arith, H.entries, u) in
    ap (entries_back text w (frame_in w frame).variables) n ∙ ap (λ (b : ℕ). entries_back text w b (length S.variables)) u ∙ H.variables

-- what was found between the first entry and the last
module _ (text w : List ℕ) (at : ℕ) (n : Name) (first top e : ℕ) (o : first ≤ top) (F : FoundLast text w at first (top - first) 0 e here nowhere (look_for n (entries_back text w first (top - first)))) where
  found_nowhere : e ≤ first → nowhere ≡ look_for n (entries_back text w first (top - first))
  found_nowhere h = sym (F.none h)

  found_here : ¬ (e ≤ first) → (i t : ℕ) → i ≡ top - e → t ≡ value_at w (e - 1) → here i t ≡ look_for n (entries_back text w first (top - first))
  found_here h i t a b =
      let z : 0 + (first + (top - first) - e) ≡ top - e = omega arith in
      sym ((F.there (omega arith)).1 ∙ ap (λ (k : ℕ). here k (value_at w (e - 1))) (z ∙ sym a) ∙ ap (here i) (sym b))

  found_within : e ≤ top
  found_within = elim (dec_le e first) [
    | yes h ↦ omega arith
    | no h ↦ let f = F.there (omega arith) in omega (arith, f.0)
  ]

-- by a name
module _ (text w : List ℕ) (name frame top e : ℕ) (is : e ≡ last_named text w name (frame_in w frame).variables (top - (frame_in w frame).variables)) (C : CanLook text w name frame top) where
  abbrev first : ℕ
  first = (frame_in w frame).variables

  found : FoundLast text w name first (top - first) 0 e here nowhere (look_for (run_at text name) (entries_back text w first (top - first)))
  found = subst (λ (r : ℕ). FoundLast text w name first (top - first) 0 r here nowhere (look_for (run_at text name) (entries_back text w first (top - first)))) (sym is) (look-last text w name C.some (top - first) first 0 here nowhere)

  pub look-nowhere : e ≤ first → LookSays text w name frame top None
  look-nowhere h = record { says = λ S H u. found_nowhere text w name (run_at text name) first top e C.ordered found h ∙ ap (look_for (run_at text name)) (variables_are text w frame top S H u) }

  pub look-here : ¬ (e ≤ first) → (i t : ℕ) → i ≡ top - e → t ≡ value_at w (e - 1) → LookSays text w name frame top (Some (record { number = i; ty = t }))
  look-here h i t a b = record { says = λ S H u. found_here text w name (run_at text name) first top e C.ordered found h i t a b ∙ ap (look_for (run_at text name)) (variables_are text w frame top S H u) }

  pub look-within : e ≤ top
  look-within = found_within text w name (run_at text name) first top e C.ordered found

-- by the place of a list
module _ (w : List ℕ) (place frame top e : ℕ) (is : e ≡ last_placed w place (frame_in w frame).variables (top - (frame_in w frame).variables)) (C : CanLookAt w frame top) where
  abbrev begin : ℕ
  begin = (frame_in w frame).variables

  placed : (text : List ℕ) → get_or text place 0 ≡ 40 → FoundLast text w place begin (top - begin) 0 e here nowhere (look_for ((256 + place) ∷ []) (entries_back text w begin (top - begin)))
  placed text r = subst (λ (q : ℕ). FoundLast text w place begin (top - begin) 0 q here nowhere (look_for ((256 + place) ∷ []) (entries_back text w begin (top - begin)))) (sym is) (look-placed text w place r (top - begin) begin 0 here nowhere)

  pub place-nowhere : e ≤ begin → LookAtSays w place frame top None
  place-nowhere h = record { says = λ text S r H u. found_nowhere text w place ((256 + place) ∷ []) begin top e C.ordered (placed text r) h ∙ ap (look_for ((256 + place) ∷ [])) (variables_are text w frame top S H u) }

  pub place_here : ¬ (e ≤ begin) → (i t : ℕ) → i ≡ top - e → t ≡ value_at w (e - 1) → LookAtSays w place frame top (Some (record { number = i; ty = t }))
  place_here h i t a b = record { says = λ text S r H u. found_here text w place ((256 + place) ∷ []) begin top e C.ordered (placed text r) h i t a b ∙ ap (look_for ((256 + place) ∷ [])) (variables_are text w frame top S H u) }

  last_within : (n f : ℕ) → last_placed w place f n ≤ f + n
  last_within zero f = omega arith
  last_within (suc n) f = by (eqb (place_in w (f + n)) place) (last_within n f)
    where
      by : (b : Bool) → last_placed w place f n ≤ f + n → cond b (f + n + 1) (last_placed w place f n) ≤ f + suc n
      by true h = omega arith
      by false h = omega arith

  pub place-within : e ≤ top
  place-within = omega (arith, is, last_within (top - begin) begin, C.ordered)
