-- Names bound one by one. Assumes nothing.
use Prim.Native.Nat.{ℕ, zero, suc, ◌+◌, ◌*◌, ◌-◌, ◌≤◌, ◌<◌}
use mathlib.Core.Path.{◌≡◌, refl, sym, ap, ◌∙◌, subst}
use mathlib.Core.List.{List, ◌∷◌}
use native.Mathlib.Omega.{arith}
use lib.ListN.{length, get_or}
use Rattle.std.specs.Prelude.{IsOk, Result}
use Rattle.answers.specs.declared.Refusal.{Refusal}
use Rattle.calculus.specs.Answer.{Answer}
use Rattle.notation_calculus.specs.Trees.{Bound}
use Rattle.notation_calculus.specs.Grammar.{Got, name_at}
use Rattle.notation_calculus.specs.Making.{Entry, Scope, bind, bind_all, with_variables, most_entries}
use Rattle.words.specs.Lexed.{from}
use Rattle.making_memory.specs.Map.{scope_at, making_size}
use Rattle.made_nodes.specs.Forms.{NamesIn}
use Rattle.clauses.specs.Groups.{value_in, rest_in_lem}
use Rattle.clauses.specs.Rows.{no_bound}
use Rattle.scopes.specs.Entries.{place_in, with_entry, OnlyEntries}
use Rattle.scopes.specs.Frames.{HoldsScope}
use Rattle.scopes.proofs.KeepLaws.{entry_only, entry_place, only_none, only_then, scope_bound}
use Rattle.walks.specs.Says.{bound_at}
use Rattle.term_parts.specs.declared.names.NameEnd.{NameEnd}
use Rattle.term_parts.specs.Names.{names_by, AllNames, spaced, spaced_names, NamesStand, ReadsName, NameSays}
use Rattle.term_parts.specs.Parts.{NameBound, CanBind, NamesBound}
use Rattle.term_parts.proofs.NameLaws.{name_read}

pub name_bound : (w : List ℕ) (top place ty : ℕ) → top < most_entries → making_size ≤ length w → (w' : List ℕ) → w' ≡ with_entry w top place ty → NameBound w top place ty w'
name_bound w top place ty few room w' is = subst (NameBound w top place ty) (sym is) (record {
  only = entry_only w top place ty few room;
  placed = entry_place w top place ty few room;
  says = λ text frame S x H inside e. scope_bound text w frame top S H few place ty inside x e;
})

-- ---- several names

-- the variables so far, from which the names that are left make all
pub record BoundLeft (text w : List ℕ) (frame top ty p left : ℕ) (S : Scope) (all : List Entry) : Type 0 where
  pub variables : List Entry
  pub scope : HoldsScope text w frame top (with_variables S variables)
  pub going : all ≡ bind_all (spaced_names text p left) ty variables

-- so many are bound, and those from an offset on are left
pub record Binding (text w₀ : List ℕ) (at count top ty : ℕ) (w : List ℕ) (i p : ℕ) : Type 0 where
  pub within : i ≤ count
  pub stand : NamesStand name_at spaced text p (count - i)
  pub only : OnlyEntries top (top + i) w₀ w
  pub names : (w' : List ℕ) → ((j : ℕ) → j < scope_at + 2 * (top + i) → get_or w' j 0 ≡ get_or w j 0) → NamesIn w' (top + i) (spaced_names text p (count - i)) → NamesIn w' top (spaced_names text at count)
  pub says : (frame : ℕ) (S : Scope) → HoldsScope text w₀ frame top S → BoundLeft text w frame (top + i) ty p (count - i) S (bind_all (spaced_names text at count) ty S.variables)

pub binding-none : (text w : List ℕ) (at count top ty : ℕ) → CanBind text w at count top → Binding text w at count top ty w 0 at
binding-none text w at count top ty C =
    let z : count - 0 ≡ count = omega arith in
    let y : top + 0 ≡ top = omega arith in
    record {
      within = omega arith;
      stand = rw z C.names;
      only = only_none top (top + 0) w;
      names = rw (z, y) (λ w' same N. N);
      says = rw (z, y) (λ frame S H. record { variables = S.variables; scope = H; going = refl });
    }

-- a name, and those behind it
names_cons : (w : List ℕ) (from : ℕ) (x : Bound) (xs : List Bound) → place_in w from ≡ x.place → NamesIn w (from + 1) xs → NamesIn w from (x ∷ xs)
names_cons w from x xs e N zero h = let z : from + 0 ≡ from = omega arith in ap (place_in w) z ∙ e
names_cons w from x xs e N (suc i) h = let z : from + suc i ≡ from + 1 + i = omega arith in ap (place_in w) z ∙ N i (omega arith)

module _ (text w₀ : List ℕ) (at count top ty : ℕ) (C : CanBind text w₀ at count top) (w : List ℕ) (i p : ℕ) (B : Binding text w₀ at count top ty w i p) where
  pub binding-room : making_size ≤ length w
  binding-room = omega (arith, C.can.room, B.only.same)

  pub binding-done : count ≤ i → NamesBound text w₀ at count top ty w
  binding-done h =
      let z : i ≡ count = omega (arith, B.within) in
      let y : count - i ≡ 0 = omega arith in
      record {
        only = subst (λ (j : ℕ). OnlyEntries top (top + j) w₀ w) z B.only;
        names = B.names w (λ j l. refl) (subst (λ (k : ℕ). NamesIn w (top + i) (spaced_names text p k)) (sym y) (λ j l. absurd (omega arith)));
        says = λ frame S H.
            let g = B.says frame S H in
            let all : bind_all (spaced_names text at count) ty S.variables ≡ g.variables = g.going ∙ ap (λ (k : ℕ). bind_all (spaced_names text p k) ty g.variables) y in
            subst (λ (Γ : List Entry). HoldsScope text w frame (top + count) (with_variables S Γ)) (sym all) (subst (λ (j : ℕ). HoldsScope text w frame (top + j) (with_variables S g.variables)) z g.scope);
      }

  -- the next name is read
  pub binding-read : i < count → (r : Result NameEnd Refusal) → NameSays text p r → IsOk r
  binding-read more r N =
      let z : count - i ≡ suc (count - (i + 1)) = omega arith in
      name_read text p r N _ _ (subst (λ (k : ℕ). AllNames name_at spaced k (from text p)) z B.stand.all).0

  module _ (more : i < count) (x : NameEnd) (X : ReadsName text p x) where
    abbrev later : ℕ
    later = count - (i + 1)

    later-is : count - i ≡ suc later
    later-is = omega arith

    all-later : AllNames name_at spaced (suc later) (from text p)
    all-later = subst (λ (k : ℕ). AllNames name_at spaced k (from text p)) later-is B.stand.all

    pub binding-small : x.place < 65536
    binding-small = omega (arith, X.inside, C.can.short)

    names-are : spaced_names text p (count - i) ≡ bound_at text x.place ∷ spaced_names text x.end later
    names-are = ap (spaced_names text p) later-is ∙ ap (λ (m : Answer (Got Bound)). value_in no_bound m ∷ names_by name_at spaced later (rest_in_lem m)) X.reads

    module _ (w' : List ℕ) (N : NameBound w (top + i) x.place ty w') where
      one_more : top + i + 1 ≡ top + (i + 1)
      one_more = omega arith

      pub binding-more : Binding text w₀ at count top ty w' (i + 1) x.end
      binding-more = record {
        within = omega arith;
        stand = record { lexed = X.onward.lexed; all = subst (λ (m : Answer (Got Bound)). AllNames name_at spaced later (rest_in_lem m)) X.reads all-later.1 };
        only = only_then top (top + i) (top + i) (top + i + 1) top (top + (i + 1)) w₀ w w' (omega arith) (omega arith) (omega arith) (omega arith) B.only N.only;
        names = λ v same K. B.names v (λ j l. same j (omega arith) ∙ N.only.below j l) (subst (NamesIn v (top + i)) (sym names-are) (names_cons v (top + i) (bound_at text x.place) (spaced_names text x.end later) (same (scope_at + 2 * (top + i)) (omega arith) ∙ N.placed) (subst (λ (j : ℕ). NamesIn v j (spaced_names text x.end later)) (sym one_more) K)));
        says = λ frame S H.
            let g = B.says frame S H in
            record {
              variables = bind (bound_at text x.place) ty g.variables;
              scope = subst (λ (j : ℕ). HoldsScope text w' frame j (with_variables S (bind (bound_at text x.place) ty g.variables))) one_more (N.says text frame (with_variables S g.variables) (bound_at text x.place) g.scope (omega (arith, X.inside)) (sym X.plain));
              going = g.going ∙ ap (λ (xs : List Bound). bind_all xs ty g.variables) names-are;
            };
      }
