-- Entries named one by one. Assumes nothing.
use Prim.Native.Nat.{ℕ, zero, suc, ◌+◌, ◌*◌, ◌-◌, ◌≤◌, ◌<◌}
use mathlib.Core.Path.{◌≡◌, refl, sym, ap, ◌∙◌, subst}
use mathlib.Core.Bool.{Bool, true, false, cond}
use mathlib.Core.List.{List, [], ◌∷◌, ◌++◌, append_assoc}
use native.Mathlib.Omega.{arith}
use native.Mathlib.Decide.{dec_le}
use lib.Dec.{eqb}
use lib.ListN.{length}
use borrow.Author.Tests.{eq-eqb, ne_eqb}
use Rattle.calculus.specs.Answer.{Answer}
use Rattle.calculus.proofs.Answers.{refused≢good}
use Rattle.notation_calculus.specs.Words.{Name, Word}
use Rattle.notation_calculus.specs.Trees.{Bound, Number}
use Rattle.notation_calculus.specs.Grammar.{Got, peek, behind, name_at}
use Rattle.notation_calculus.specs.Making.{Entry, bind_types, bind_numbers, most_entries}
use Rattle.words.specs.Next.{Said, run_at}
use Rattle.words.specs.Lexed.{from, Onward, Stands}
use Rattle.making_memory.specs.Map.{scope_at, making_size}
use Rattle.clauses.specs.declared.numbers.Num.{Num}
use Rattle.clauses.specs.Groups.{code_at, value_in, rest_in_lem, list_in, Readable}
use Rattle.clauses.specs.Rows.{no_bound}
use Rattle.clauses.specs.Numbers.{NumberRead, numbers_from, NumbersThere}
use Rattle.clauses.specs.Meant.{values_in}
use Rattle.clauses.proofs.ListLaws.{NameRead, name-read}
use Rattle.clauses.proofs.HeadLaws.{spelled-here, name-onward, place_inside}
use Rattle.clauses.proofs.NumberLaws.{numbers-step}
use Rattle.scopes.specs.Entries.{place_in, value_at, entry_in, named_from, with_entry, OnlyEntries}
use Rattle.scopes.specs.Named.{bound_from, NamesThere, CanName, EntriesNamed}
use Rattle.scopes.proofs.KeepLaws.{entry_place, entry_value, entry_only, only_none, only_then, named-same}

-- ---- one entry more

-- the last of so many, if it has a name
named_more : (text w : List ℕ) (n e : ℕ) → named_from text w e (suc n) ≡ named_from text w e n ++ cond (eqb (place_in w (e + n)) (length text)) [] (entry_in text w (e + n) ∷ [])
named_more text w zero e = let z : e + 0 ≡ e = omega arith in ap (λ (j : ℕ). cond (eqb (place_in w j) (length text)) [] (entry_in text w j ∷ [])) (sym z)
named_more text w (suc n) e =
    let z : suc e + n ≡ e + suc n = omega arith in
    ap (λ (xs : List Entry). cond (eqb (place_in w e) (length text)) xs (entry_in text w e ∷ xs)) (named_more text w n (suc e) ∙ ap (λ (j : ℕ). named_from text w (suc e) n ++ cond (eqb (place_in w j) (length text)) [] (entry_in text w j ∷ [])) z) ∙ moved (eqb (place_in w e) (length text)) (entry_in text w e) (named_from text w (suc e) n) _
  where
    moved : (b : Bool) (x : Entry) (xs ys : List Entry) → cond b (xs ++ ys) (x ∷ (xs ++ ys)) ≡ cond b xs (x ∷ xs) ++ ys
    moved true x xs ys = refl
    moved false x xs ys = refl

-- so many entries were named, and `left` is still to come
pub record Naming (text w₀ : List ℕ) (first n : ℕ) (Γ : List Entry) (w : List ℕ) (i : ℕ) (left : List Entry) : Type 0 where
  pub most : i ≤ n
  pub only : OnlyEntries first (first + i) w₀ w
  pub inside : (e : ℕ) → first ≤ e → e < first + i → place_in w e ≤ length text
  pub total : named_from text w first i ++ left ≡ Γ

naming_none : (text w : List ℕ) (first n : ℕ) (Γ : List Entry) → Naming text w first n Γ w 0 Γ
naming_none text w first n Γ = record { most = omega arith; only = only_none first (first + 0) w; inside = λ e a b. absurd (omega arith); total = refl }

module _ (text w₀ : List ℕ) (first n : ℕ) (C : CanName text w₀ first n) (Γ : List Entry) (w : List ℕ) (i : ℕ) (left : List Entry) (N : Naming text w₀ first n Γ w i left) where
  pub naming_room : making_size ≤ length w
  naming_room = omega (arith, C.room, N.only.same)

  pub naming_value : value_at w (first + i) ≡ value_at w₀ (first + i)
  naming_value = N.only.above (scope_at + 2 * (first + i) + 1) (omega arith)

  pub naming_done : n ≤ i → left ≡ [] → EntriesNamed text w₀ first n w Γ
  naming_done h e =
      let z : i ≡ n = omega (arith, N.most) in
      record {
        only = subst (λ (j : ℕ). OnlyEntries first (first + j) w₀ w) z N.only;
        inside = λ j a b. N.inside j a (omega arith);
        named = ap (named_from text w first) (sym z) ∙ sym (none (named_from text w first i)) ∙ ap (λ (l : List Entry). named_from text w first i ++ l) (sym e) ∙ N.total;
      }
    where
      none : (xs : List Entry) → xs ++ [] ≡ xs
      none [] = refl
      none (x ∷ xs) = ap (λ (l : List Entry). x ∷ l) (none xs)

  module _ (more : i < n) (place value : ℕ) (inside : place ≤ length text) where
    abbrev w' : List ℕ
    w' = with_entry w (first + i) place value

    few : first + i < most_entries
    few = omega (arith, C.few)

    stored : OnlyEntries (first + i) (first + i + 1) w w'
    stored = entry_only w (first + i) place value few naming_room

    new-place : place_in w' (first + i) ≡ place
    new-place = entry_place w (first + i) place value few naming_room

    new-entry : entry_in text w' (first + i) ≡ record { name = run_at text place; value = value }
    new-entry = ap (λ (j : ℕ). record { name = run_at text j; value = value_at w' (first + i) }) new-place ∙ ap (λ (j : ℕ). record { name = run_at text place; value = j }) (entry_value w (first + i) place value few naming_room)

    abbrev newOf : Bool → List Entry
    newOf b = cond b [] (record { name = run_at text place; value = value } ∷ [])

    named-now : named_from text w' first (i + 1) ≡ named_from text w first i ++ newOf (eqb place (length text))
    named-now =
        let z : i + 1 ≡ suc i = omega arith in
        ap (named_from text w' first) z ∙ named_more text w' i first ∙ ap (λ (xs : List Entry). xs ++ cond (eqb (place_in w' (first + i)) (length text)) [] (entry_in text w' (first + i) ∷ [])) (named-same text w w' (first + i) (first + i + 1) stored i first (omega arith)) ∙ ap (λ (j : ℕ). named_from text w first i ++ cond (eqb j (length text)) [] (entry_in text w' (first + i) ∷ [])) new-place ∙ ap (λ (x : Entry). named_from text w first i ++ cond (eqb place (length text)) [] (x ∷ [])) new-entry

    pub naming-more : (left' : List Entry) → newOf (eqb place (length text)) ++ left' ≡ left → Naming text w₀ first n Γ w' (i + 1) left'
    naming-more left' e = record {
      most = omega arith;
      only = only_then first (first + i) (first + i) (first + i + 1) first (first + (i + 1)) w₀ w w' (omega arith) (omega arith) (omega arith) (omega arith) N.only stored;
      inside = λ j a b. elim (dec_le (suc j) (first + i)) [
        | yes l ↦ subst (λ (k : ℕ). k ≤ length text) (sym (stored.below (scope_at + 2 * j) (omega arith))) (N.inside j a l)
        | no g ↦ let z : j ≡ first + i = omega arith in subst (λ (k : ℕ). k ≤ length text) (sym (ap (place_in w') z ∙ new-place)) inside
      ];
      total = ap (λ (xs : List Entry). xs ++ left') named-now ∙ append_assoc (named_from text w first i) (newOf (eqb place (length text))) left' ∙ ap (λ (xs : List Entry). named_from text w first i ++ xs) e ∙ N.total;
    }

-- ---- types

pub record NamingTypes (text w₀ : List ℕ) (at n first : ℕ) (w : List ℕ) (i p : ℕ) : Type 0 where
  pub there : NamesThere text p (n - i)
  pub naming : Naming text w₀ first n (bind_types (bound_from text at n) (values_in w₀ first n)) w i (bind_types (bound_from text p (n - i)) (values_in w₀ (first + i) (n - i)))

pub types-none : (text w : List ℕ) (at n first : ℕ) → NamesThere text at n → NamingTypes text w at n first w 0 at
types-none text w at n first t =
    let z : n - 0 ≡ n = omega arith in
    let y : first + 0 ≡ first = omega arith in
    record { there = rw z t; naming = rw (z, y) (naming_none text w first n (bind_types (bound_from text at n) (values_in w first n))) }

module _ (text w₀ : List ℕ) (at n first : ℕ) (C : CanName text w₀ first n) (w : List ℕ) (i p : ℕ) (T : NamingTypes text w₀ at n first w i p) where
  pub types-done : n ≤ i → EntriesNamed text w₀ first n w (bind_types (bound_from text at n) (values_in w₀ first n))
  types-done h = let z : n - i ≡ 0 = omega arith in naming_done text w₀ first n C _ w i _ T.naming h (ap (λ (k : ℕ). bind_types (bound_from text p k) (values_in w₀ (first + i) k)) z)

  module _ (more : i < n) where
    abbrev later : ℕ
    later = n - (i + 1)

    later-is : n - i ≡ suc later
    later-is = omega arith

    all-later : NamesThere text p (suc later)
    all-later = subst (NamesThere text p) later-is T.there

    abbrev first_name : Answer (Got Bound)
    first_name = name_at (behind (from text p))

    pub bracket-on : (b : Said) → Stands text p b → Onward text p b.end
    bracket-on b s = s.onward (λ z. absurd (refused≢good (sym (ap name_at (s.last z)) ∙ all-later.readable.0)))

    module _ (b : Said) (s : Stands text p b) (x : Said) (t : Stands text b.end x) where
      name_is : NameRead (behind (from text p)) (record { value = value_in no_bound first_name; rest = rest_in_lem first_name })
      name_is = name-read (behind (from text p)) _ all-later.readable.0

      x-code : x.code ≡ 24
      x-code = t.code ∙ ap (λ (us : List Word). code_at us) (sym (bracket-on b s).rest) ∙ name_is.code

      pub name_inside : x.place < length text
      name_inside = place_inside text b.end x t x-code

      spelled : (value_in no_bound first_name).name ≡ run_at text x.place
      spelled = spelled-here text b.end x t (value_in no_bound first_name).name x-code (ap (λ (us : List Word). (peek us).token) (sym (bracket-on b s).rest) ∙ name_is.token)

      rest-is : rest_in_lem first_name ≡ from text x.end
      rest-is = name_is.rest ∙ ap behind (bracket-on b s).rest ∙ (name-onward text b.end x t x-code).rest

      pub types_more : (v : ℕ) → v ≡ value_at w (first + i) → NamingTypes text w₀ at n first (with_entry w (first + i) x.place v) (i + 1) x.end
      types_more v value =
          let y : suc (first + i) ≡ first + (i + 1) = omega arith in
          record {
            there = record { lexed = (name-onward text b.end x t x-code).lexed; readable = subst (Readable no_bound name_at later) rest-is all-later.readable.1 };
            naming = naming-more text w₀ first n C _ w i _ T.naming more x.place v (omega (arith, name_inside)) (bind_types (bound_from text x.end later) (values_in w₀ (first + (i + 1)) later))
                (ap (λ (c : Bool). cond c [] (record { name = run_at text x.place; value = v } ∷ []) ++ bind_types (bound_from text x.end later) (values_in w₀ (first + (i + 1)) later)) (ne_eqb x.place (length text) (λ q. absurd (omega (arith, name_inside))))
                ∙ ap (λ (a : Name). record { name = a; value = v } ∷ bind_types (bound_from text x.end later) (values_in w₀ (first + (i + 1)) later)) (sym spelled)
                ∙ ap (λ (j : ℕ). record { name = (value_in no_bound first_name).name; value = j } ∷ bind_types (bound_from text x.end later) (values_in w₀ (first + (i + 1)) later)) (value ∙ naming_value text w₀ first n C _ w i _ T.naming)
                ∙ ap (λ (us : List Word). record { name = (value_in no_bound first_name).name; value = value_at w₀ (first + i) } ∷ bind_types (list_in no_bound name_at later us) (values_in w₀ (first + (i + 1)) later)) (sym rest-is)
                ∙ ap (λ (j : ℕ). record { name = (value_in no_bound first_name).name; value = value_at w₀ (first + i) } ∷ bind_types (list_in no_bound name_at later (rest_in_lem first_name)) (values_in w₀ j later)) (sym y)
                ∙ ap (λ (k : ℕ). bind_types (bound_from text p k) (values_in w₀ (first + i) k)) (sym later-is));
          }

-- ---- numbers

pub record NamingNumbers (text w₀ : List ℕ) (at n first : ℕ) (w : List ℕ) (i p : ℕ) : Type 0 where
  pub there : NumbersThere text p (n - i)
  pub naming : Naming text w₀ first n (bind_numbers (numbers_from text at n) (values_in w₀ first n)) w i (bind_numbers (numbers_from text p (n - i)) (values_in w₀ (first + i) (n - i)))

pub numbers-none : (text w : List ℕ) (at n first : ℕ) → NumbersThere text at n → NamingNumbers text w at n first w 0 at
numbers-none text w at n first t =
    let z : n - 0 ≡ n = omega arith in
    let y : first + 0 ≡ first = omega arith in
    record { there = rw z t; naming = rw (z, y) (naming_none text w first n (bind_numbers (numbers_from text at n) (values_in w first n))) }

module _ (text w₀ : List ℕ) (at n first : ℕ) (C : CanName text w₀ first n) (w : List ℕ) (i p : ℕ) (T : NamingNumbers text w₀ at n first w i p) where
  pub numbers-done : n ≤ i → EntriesNamed text w₀ first n w (bind_numbers (numbers_from text at n) (values_in w₀ first n))
  numbers-done h = let z : n - i ≡ 0 = omega arith in naming_done text w₀ first n C _ w i _ T.naming h (ap (λ (k : ℕ). bind_numbers (numbers_from text p k) (values_in w₀ (first + i) k)) z)

  module _ (more : i < n) (k : Num) (x : NumberRead text (behind (from text p)) k) (v : ℕ) (value : v ≡ value_at w (first + i)) (place : ℕ) (placed : place ≡ cond k.named k.place (length text)) (u : ℕ) (kept : u ≡ cond k.named (v - k.plus) v) where
    abbrev rest : ℕ
    rest = n - (i + 1)

    rest-long : n - i ≡ suc rest
    rest-long = omega arith

    abbrev step : (numbers_from text p (suc rest) ≡ x.number ∷ numbers_from text k.end rest) × NumbersThere text k.end rest
    step = numbers-step text p rest k (subst (NumbersThere text p) rest-long T.there) x

    abbrev others : List Entry
    others = bind_numbers (numbers_from text k.end rest) (values_in w₀ (first + (i + 1)) rest)

    -- by whether the parameter has a name
    new_by : (b : Bool) → k.named ≡ b → cond (eqb place (length text)) [] (record { name = run_at text place; value = u } ∷ []) ++ others ≡ cond b (record { name = x.number.name; value = v - x.number.plus } ∷ others) others
    new_by true e =
        let at_name : place ≡ k.place = placed ∙ ap (λ (c : Bool). cond c k.place (length text)) e in
        ap (λ (c : Bool). cond c [] (record { name = run_at text place; value = u } ∷ []) ++ others) (ne_eqb place (length text) (λ q. absurd (omega (arith, x.inside e, at_name))))
        ∙ ap (λ (j : ℕ). record { name = run_at text j; value = u } ∷ others) at_name
        ∙ ap (λ (a : Name). record { name = a; value = u } ∷ others) (sym (x.name e))
        ∙ ap (λ (j : ℕ). record { name = x.number.name; value = j } ∷ others) (kept ∙ ap (λ (c : Bool). cond c (v - k.plus) v) e ∙ ap (λ (j : ℕ). v - j) (sym x.plus))
    new_by false e = ap (λ (c : Bool). cond c [] (record { name = run_at text place; value = u } ∷ []) ++ others) (eq-eqb place (length text) (placed ∙ ap (λ (c : Bool). cond c k.place (length text)) e))

    pub place-there : place ≤ length text
    place-there = by k.named refl
      where
        by : (b : Bool) → k.named ≡ b → place ≤ length text
        by true e = omega (arith, x.inside e, placed ∙ ap (λ (c : Bool). cond c k.place (length text)) e)
        by false e = omega (arith, placed ∙ ap (λ (c : Bool). cond c k.place (length text)) e)

    pub numbers_more : NamingNumbers text w₀ at n first (with_entry w (first + i) place u) (i + 1) k.end
    numbers_more =
        let y : first + (i + 1) ≡ suc (first + i) = omega arith in
        record {
          there = step.1;
          naming = naming-more text w₀ first n C _ w i _ T.naming more place u place-there others
              (new_by k.named refl
              ∙ ap (λ (c : Bool). cond c (record { name = x.number.name; value = v - x.number.plus } ∷ others) others) (sym x.is_open)
              ∙ ap (λ (j : ℕ). cond x.number.is_open (record { name = x.number.name; value = j - x.number.plus } ∷ others) others) (value ∙ naming_value text w₀ first n C _ w i _ T.naming)
              ∙ ap (λ (j : ℕ). bind_numbers (x.number ∷ numbers_from text k.end rest) (value_at w₀ (first + i) ∷ values_in w₀ j rest)) y
              ∙ ap (λ (l : List Number). bind_numbers l (values_in w₀ (first + i) (suc rest))) (sym step.0)
              ∙ ap (λ (j : ℕ). bind_numbers (numbers_from text p j) (values_in w₀ (first + i) j)) (sym rest-long));
        }

-- ---- the tests that the code makes

pub place_yes : (b : Bool) (p l : ℕ) → b ≡ true → p ≡ cond b p l
place_yes b p l e = sym (ap (λ (c : Bool). cond c p l) e)

pub place_no : (b : Bool) (p l : ℕ) → b ≡ false → l ≡ cond b p l
place_no b p l e = sym (ap (λ (c : Bool). cond c p l) e)

pub value_less : (b : Bool) (v k : ℕ) → b ≡ true → v < k → 0 ≡ cond b (v - k) v
value_less b v k e h = let z : 0 ≡ v - k = omega arith in z ∙ place_yes b (v - k) v e

pub value_small : (b : Bool) (v k u : ℕ) → u ≡ cond b (v - k) v → v < 65536 → u < 65536
value_small true v k u e h = omega arith
value_small false v k u e h = omega arith
