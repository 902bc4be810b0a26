-- Type arguments one by one: those that wait, and those that are left, are all that `found_all` finds. Assumes nothing.
use Prim.Native.Nat.{ℕ, zero, suc, ◌+◌, ◌*◌, ◌≤◌, ◌<◌}
use mathlib.Core.Path.{◌≡◌, refl, sym, ap, subst, ◌∙◌}
use mathlib.Core.Bool.{Bool, true, false, cond}
use mathlib.Core.List.{List, [], ◌∷◌, ◌++◌, append_assoc}
use native.Mathlib.Omega.{arith}
use native.Mathlib.Decide.{dec_le}
use native.Mathlib.Numerals.{add-one}
use lib.Dec.{T, leb, leb→le}
use lib.ListN.{length}
use borrow.Author.Tests.{le-leb, lt-leb}
use Rattle.std.proofs.Common.{Result, Ok, Err}
use Rattle.answers.specs.declared.Reason.{Reason}
use Rattle.answers.specs.declared.Refusal.{Refusal as Why}
use Rattle.answers.specs.Refusals.{refusal_at, said_why}
use Rattle.walks.specs.declared.TypeEnd.{TypeEnd}
use Rattle.walks.specs.declared.TypesEnd.{TypesEnd}
use Rattle.calculus.specs.Answer.{Answer, good, refused, ◌>>=◌, need, Refusal}
use Rattle.calculus.proofs.Answers.{good-inj, refused≢good}
use Rattle.notation_calculus.specs.Words.{comma, square, endSquare, Word}
use Rattle.notation_calculus.specs.Trees.{TypeTree, TypeTrees, no_types, Text}
use Rattle.notation_calculus.specs.Grammar.{most_nested, Got, got, behind, place, is, expect, list_from, types_of, arguments_at, type_at}
use Rattle.notation_calculus.specs.Making.{State, Found, Scope, FoundAll, found_all, type_of, entries, waiting, most_entries}
use Rattle.notation_machine.specs.TypeFrom.{type_from, types_from}
use Rattle.words.specs.Next.{Said}
use Rattle.words.specs.Lexed.{from, Lexed, Stands}
use Rattle.grammar.specs.Ends.{rest_of, type_step, Ends}
use Rattle.grammar.specs.Skips.{group_end}
use Rattle.words.specs.Marks.{Marks}
use Rattle.grammar.proofs.EndLaws.{is_yes, is_no, mark_no}
use Rattle.grammar.proofs.SkipLaws.{group_rest}
use Rattle.making_memory.specs.Map.{scope_at, type_count_at, node_count_at, put_count_at, making_size}
use Rattle.made_types.specs.Held.{HoldsState}
use Rattle.made_types.proofs.Keeping.{state_kept}
use Rattle.clauses.specs.Meant.{values_in}
use Rattle.scopes.specs.Entries.{place_in, value_at, Places, OnlyEntries, with_entry}
use Rattle.scopes.proofs.KeepLaws.{entry_place, entry_value, entry_only}
use Rattle.walks.specs.Walkable.{Walkable}
use Rattle.walks.specs.Walked.{TypesWalked}
use Rattle.walks.specs.Says.{TypeCame, TypeAnswers, CanType, TypeSays, TypesAnswer, TypesSay}
use Rattle.walks.proofs.Kept.{types_walked_none, types_walked_then, types_of_entries, walkable_on}
use Rattle.type_walk.specs.Holding.{AllBelow}
use Rattle.type_walk.specs.Many.{ListRead, CanTypeAll, AllTypesSay}
use Rattle.type_walk.proofs.HoldLaws.{all_below_more}
use Rattle.type_walk.proofs.NameLaws.{walkable_waiting}

abbrev read : List Word → Answer (Got TypeTree)
read us = type_at most_nested false us

-- ---- the first of a list

pub record FirstType (ws : List Word) (g : Got (List TypeTree)) : Type 0 where
  pub first : Got TypeTree
  pub reads : read ws ≡ good first
  pub others : List TypeTree
  pub value : g.value ≡ first.value ∷ others
  pub last : is comma first.rest ≡ false → (others ≡ []) × (g.rest ≡ first.rest)
  pub rounds : ℕ
  pub more : is comma first.rest ≡ true → list_from read rounds (behind first.rest) ≡ good (record { value = others; rest = g.rest })

true≢false : true ≡ false → ⊥
true≢false e = let z : ◌≡◌ {A = ℕ} 0 1 = cc in omega arith

first_more : (ws : List Word) (x : Got TypeTree) (n : ℕ) (g : Got (List TypeTree)) (m : Answer (Got (List TypeTree))) → read ws ≡ good x → is comma x.rest ≡ true → list_from read n (behind x.rest) ≡ m → (m >>= λ xs. got (x.value ∷ xs.value) xs.rest) ≡ good g → FirstType ws g
first_more ws x n g (good h) r c l e =
    let z : record { value = x.value ∷ h.value; rest = h.rest } ≡ g = good-inj e in
    record {
      first = x;
      reads = r;
      others = h.value;
      value = ap (λ (y : Got (List TypeTree)). y.value) (sym z);
      last = λ d. absurd (true≢false (sym c ∙ d));
      rounds = n;
      more = λ _. l ∙ ap (λ (us : List Word). good (record { value = h.value; rest = us })) (ap (λ (y : Got (List TypeTree)). y.rest) z);
    }
first_more ws x n g (refused why) r c l e = absurd (refused≢good e)

first_by : (ws : List Word) (n : ℕ) (g : Got (List TypeTree)) (m : Answer (Got TypeTree)) → read ws ≡ m → (m >>= λ x. cond (is comma x.rest) (list_from read n (behind x.rest) >>= λ xs. got (x.value ∷ xs.value) xs.rest) (got (x.value ∷ []) x.rest)) ≡ good g → FirstType ws g
first_by ws n g (refused why) r e = absurd (refused≢good e)
first_by ws n g (good x) r e = by (is comma x.rest) refl e
  where
    by : (b : Bool) → is comma x.rest ≡ b → cond b (list_from read n (behind x.rest) >>= λ xs. got (x.value ∷ xs.value) xs.rest) (got (x.value ∷ []) x.rest) ≡ good g → FirstType ws g
    by true c e = first_more ws x n g (list_from read n (behind x.rest)) r c refl e
    by false c e =
        let z : record { value = x.value ∷ []; rest = x.rest } ≡ g = good-inj e in
        record { first = x; reads = r; others = []; value = ap (λ (y : Got (List TypeTree)). y.value) (sym z); last = λ _. (refl, ap (λ (y : Got (List TypeTree)). y.rest) (sym z)); rounds = n; more = λ d. absurd (true≢false (sym d ∙ c)) }

first_of_list : (rounds : ℕ) (ws : List Word) (g : Got (List TypeTree)) → list_from read rounds ws ≡ good g → FirstType ws g
first_of_list zero ws g e = absurd (refused≢good e)
first_of_list (suc n) ws g e = first_by ws n g (read ws) refl e

-- ---- values that wait

values_end : (w : List ℕ) (n first : ℕ) → values_in w first (suc n) ≡ values_in w first n ++ value_at w (first + n) ∷ []
values_end w zero first = let e : first ≡ first + 0 = omega arith in ap (λ (j : ℕ). value_at w j ∷ []) e
values_end w (suc n) first = let e : suc first + n ≡ first + suc n = omega arith in ap (λ (ts : List ℕ). value_at w first ∷ ts) (values_end w n (suc first) ∙ ap (λ (j : ℕ). values_in w (suc first) n ++ value_at w j ∷ []) e)

values_same : (w w' : List ℕ) (n first most : ℕ) → ((e : ℕ) → e < most → value_at w' e ≡ value_at w e) → first + n ≤ most → values_in w' first n ≡ values_in w first n
values_same w w' zero first most same h = refl
values_same w w' (suc n) first most same h = ap (λ (t : ℕ). t ∷ values_in w' (suc first) n) (same first (omega arith)) ∙ ap (λ (ts : List ℕ). value_at w first ∷ ts) (values_same w w' n (suc first) most same (omega arith))

all_end : (k : ℕ) (ts : List ℕ) (t : ℕ) → AllBelow k ts → t < k → AllBelow k (ts ++ t ∷ [])
all_end k [] t a l = (l, tt)
all_end k (x ∷ ts) t a l = (a.0, all_end k ts t a.1 l)

-- ---- what the loop keeps

abbrev with_before : List ℕ → FoundAll → FoundAll
with_before vs xs = record { types = vs ++ xs.types; state = xs.state }

module _ (text w₀ : List ℕ) (more frame top name : ℕ) (X : Text) (S : Scope) where
  abbrev go : Scope → State → TypeTree → Answer Found
  go R τ t = type_of X more R τ t

  -- those that are left, behind those that wait
  abbrev left : ℕ → State → List TypeTree → List ℕ → List Word → Answer (Got FoundAll)
  left i τ ts vs us = found_all go S name i τ (types_of ts) >>= λ xs. got (with_before vs xs) us

  pub record Listing (a : Answer (Got FoundAll)) (w : List ℕ) (i p : ℕ) : Type 0 where
    pub kept : TypesWalked more top w₀ w
    pub state : State
    pub holds : HoldsState w state
    pub places : Places text w 0 (top + i)
    pub known : AllBelow (length state.table) (values_in w top i)
    pub lexed : Lexed text p
    pub rounds : ℕ
    pub trees : Got (List TypeTree)
    pub list : ListRead text p rounds trees
    pub total : a ≡ left i state trees.value (values_in w top i) (behind trees.rest)

  left-none : (m : Answer FoundAll) (us : List Word) → (m >>= λ xs. got xs us) ≡ (m >>= λ xs. got (with_before [] xs) us)
  left-none (good xs) us = refl
  left-none (refused why) us = refl

  pub listing-first : (at : ℕ) (σ : State) → Walkable text w₀ frame top X S σ → Lexed text at → (rounds : ℕ) (g : Got (List TypeTree)) → ListRead text at rounds g → Listing (found_all go S name 0 σ (types_of g.value) >>= λ xs. got xs (behind g.rest)) w₀ 0 at
  listing-first at σ G l rounds g R =
      let e : top ≡ top + 0 = omega arith in
      record { kept = types_walked_none more top w₀; state = σ; holds = G.state; places = subst (λ (n : ℕ). Places text w₀ 0 n) e G.scope.places; known = tt; lexed = l; rounds = rounds; trees = g; list = R; total = left-none (found_all go S name 0 σ (types_of g.value)) (behind g.rest) }

  module _ (σ : State) (G : Walkable text w₀ frame top X S σ) (above : more ≤ frame) (a : Answer (Got FoundAll)) (w : List ℕ) (i p : ℕ) (L : Listing a w i p) where
    abbrev F : FirstType (from text p) L.trees
    F = first_of_list L.rounds (from text p) L.trees L.list.reads

    walkable-now : Walkable text w frame top X S L.state
    walkable-now = walkable_on more top text w₀ w L.kept frame top X S σ L.state G above (omega arith) L.holds

    walkable-next : Walkable text w frame (top + i) X (waiting S i) L.state
    walkable-next = walkable_waiting text w frame top i X S L.state walkable-now L.places

    -- room, one more type, and the others
    abbrev behindRoom : Bool → Answer Found → List ℕ → List Word → Answer (Got FoundAll)
    behindRoom b m vs us = (need b 34 name >>= λ _. m >>= λ x. found_all go S name (suc i) x.state (types_of F.others) >>= λ xs. good (record { types = x.type ∷ xs.types; state = xs.state })) >>= λ xs. got (with_before vs xs) us

    total-by : (b : Bool) → b ≡ leb (top + (i + 1)) most_entries → a ≡ behindRoom b (go (waiting S i) L.state F.first.value) (values_in w top i) (behind L.trees.rest)
    total-by b e =
        let n : entries S + suc i ≡ top + (i + 1) = omega (arith, G.scope.entries) in
        L.total ∙ ap (λ (ts : List TypeTree). left i L.state ts (values_in w top i) (behind L.trees.rest)) F.value ∙ ap (λ (c : Bool). behindRoom c (go (waiting S i) L.state F.first.value) (values_in w top i) (behind L.trees.rest)) (ap (λ (k : ℕ). leb k most_entries) n ∙ sym e)

    pub listing_full : (b : Bool) → b ≡ leb (top + (i + 1)) most_entries → b ≡ false → TypesAnswer text w top (Err (refusal_at Reason.TextLimit name)) a
    listing_full b e f = subst (TypesAnswer text w top (Err (refusal_at Reason.TextLimit name))) (sym (total-by false (sym f ∙ e))) refl

    pub listing-can : more ≤ most_nested → CanType text w p more frame (top + i)
    listing-can levels = record { walk = record { X = X; S = waiting S i; σ = L.state; walkable = walkable-next }; lexed = L.lexed; above = above; levels = levels }

    module _ (b : Bool) (is_b : b ≡ leb (top + (i + 1)) most_entries) (roomy : b ≡ true) (r : Result TypeEnd Why) (w₁ : List ℕ) (Z : TypeSays text w p more frame (top + i) r w₁) where
      abbrev m : Answer Found
      m = go (waiting S i) L.state F.first.value

      answers : TypeAnswers text w₁ r (m >>= λ y. got y F.first.rest)
      unfolding type_from
      answers = subst (λ (q : Answer (Got TypeTree)). TypeAnswers text w₁ r (q >>= λ t. go (waiting S i) L.state t.value >>= λ y. got y t.rest)) F.reads (Z.says X (waiting S i) L.state walkable-next)

      total-now : a ≡ behindRoom true m (values_in w top i) (behind L.trees.rest)
      total-now = total-by true (sym roomy ∙ is_b)

      refused-by : (bad : Why) (q : Answer Found) → TypeAnswers text w₁ (Err bad) (q >>= λ y. got y F.first.rest) → TypesAnswer text w₁ top (Err bad) (behindRoom true q (values_in w top i) (behind L.trees.rest))
      refused-by bad (good y) e = absurd e
      refused-by bad (refused why) e = e

      pub listing-refused : (bad : Why) → r ≡ Err bad → TypesAnswer text w₁ top (Err bad) a
      listing-refused bad e = subst (TypesAnswer text w₁ top (Err bad)) (sym total-now) (refused-by bad m (subst (λ (y : Result TypeEnd Why). TypeAnswers text w₁ y (m >>= λ y. got y F.first.rest)) e answers))

      there_by : (t : TypeEnd) (q : Answer Found) → TypeAnswers text w₁ (Ok t) (q >>= λ y. got y F.first.rest) → Lexed text t.end × (t.ty < 256)
      there_by t (good y) c = let few = c.state.types.ok.few in (c.rest.lexed, omega (arith, c.known))
      there_by t (refused why) c = absurd c

      -- the offset behind a type, and its number
      pub listing-there : (t : TypeEnd) → r ≡ Ok t → Lexed text t.end × (t.ty < 256)
      listing-there t e = there_by t m (subst (λ (y : Result TypeEnd Why). TypeAnswers text w₁ y (m >>= λ y. got y F.first.rest)) e answers)

      module _ (came : TypeEnd) (u : ℕ) (is-r : r ≡ Ok came) (is-ty : u ≡ came.ty) (w₂ : List ℕ) (stored : w₂ ≡ with_entry w₁ (top + i) 0 u) (v : Said) (s : Stands text came.end v) where
        abbrev ty : ℕ
        ty = came.ty

        abbrev end : ℕ
        end = came.end

        room-now : top + i < most_entries
        room-now = omega (arith, leb→le (top + (i + 1)) most_entries (subst T (sym roomy ∙ is_b) tt))

        long : making_size ≤ length w₁
        long = omega (arith, L.places.room, Z.walked.same)

        only : OnlyEntries (top + i) (top + i + 1) w₁ w₂
        only = subst (λ (x : List ℕ). OnlyEntries (top + i) (top + i + 1) w₁ x) (sym stored) (entry_only w₁ (top + i) 0 u room-now long)

        pub listing-walked : TypesWalked more top w₀ w₂
        listing-walked = types_walked_then more more more top top top w₀ w w₂ (omega arith) (omega arith) (omega arith) (omega arith) L.kept (types_walked_then more more more (top + i) top top w w₁ w₂ (omega arith) (omega arith) (omega arith) (omega arith) Z.walked (types_of_entries more top (top + i) (top + i + 1) w₁ w₂ (omega arith) (omega (arith, room-now)) only))

        state-now : (τ : State) → HoldsState w₁ τ → HoldsState w₂ τ
        state-now τ H = state_kept w₁ w₂ τ H only.same (λ j x y. only.below j (omega arith)) (only.above type_count_at (omega (arith, room-now))) (only.above node_count_at (omega (arith, room-now))) (only.above put_count_at (omega (arith, room-now)))

        value-now : value_at w₂ (top + i) ≡ ty
        value-now = subst (λ (x : List ℕ). value_at x (top + i) ≡ u) (sym stored) (entry_value w₁ (top + i) 0 u room-now long) ∙ is-ty

        same-values : values_in w₂ top i ≡ values_in w top i
        same-values = values_same w w₂ i top (top + i) (λ e q. only.below (scope_at + 2 * e + 1) (omega arith) ∙ Z.walked.entries (scope_at + 2 * e + 1) (omega arith) (omega arith)) (omega arith)

        values-now : values_in w₂ top (i + 1) ≡ values_in w top i ++ ty ∷ []
        values-now = ap (λ (j : ℕ). values_in w₂ top j) (add-one i) ∙ values_end w₂ i top ∙ ap (λ (ts : List ℕ). ts ++ value_at w₂ (top + i) ∷ []) same-values ∙ ap (λ (t : ℕ). values_in w top i ++ t ∷ []) value-now

        places-now : Places text w₂ 0 (top + (i + 1))
        places-now =
            let new : place_in w₂ (top + i) ≡ 0 = subst (λ (x : List ℕ). place_in x (top + i) ≡ 0) (sym stored) (entry_place w₁ (top + i) 0 u room-now long) in
            record {
              room = omega (arith, long, only.same);
              most = omega (arith, room-now);
              inside = λ e x y. elim (dec_le (top + i) e) [
                | no g ↦ omega (arith, only.below (scope_at + 2 * e) (omega arith), Z.walked.entries (scope_at + 2 * e) (omega arith) (omega arith), L.places.inside e x (omega arith))
                | yes g ↦ let z : e ≡ top + i = omega arith in omega (arith, ap (λ (j : ℕ). place_in w₂ j) z, new)
              ];
            }

        -- the type that came
        record Arrived (q : Answer Found) : Type 0 where
          found : Found
          is : q ≡ good found
          comes : TypeCame text w₁ ty end (record { value = found; rest = F.first.rest })

        arrived-by : (q : Answer Found) → TypeAnswers text w₁ (Ok came) (q >>= λ y. got y F.first.rest) → Arrived q
        arrived-by (good y) c = record { found = y; is = refl; comes = c }
        arrived-by (refused why) c = absurd c

        D : Arrived m
        D = arrived-by m (subst (λ (y : Result TypeEnd Why). TypeAnswers text w₁ y (m >>= λ y. got y F.first.rest)) is-r answers)

        words-now : F.first.rest ≡ from text end
        words-now = D.comes.rest.is

        grown : length L.state.table ≤ length D.found.state.table
        grown = omega (arith, L.holds.types.count, D.comes.state.types.count, Z.walked.more_types)

        known-now : AllBelow (length D.found.state.table) (values_in w₂ top (i + 1))
        known-now = subst (AllBelow (length D.found.state.table)) (sym values-now) (all_end (length D.found.state.table) (values_in w top i) ty (all_below_more (length L.state.table) (length D.found.state.table) grown (values_in w top i) L.known) D.comes.known)

        -- the others behind it
        total-next : a ≡ left (i + 1) D.found.state F.others (values_in w₂ top (i + 1)) (behind L.trees.rest)
        total-next =
            total-now
            ∙ ap (λ (q : Answer Found). behindRoom true q (values_in w top i) (behind L.trees.rest)) D.is
            ∙ joined_by (found_all go S name (suc i) D.found.state (types_of F.others))
            ∙ ap (λ (j : ℕ). left j D.found.state F.others (values_in w₂ top (i + 1)) (behind L.trees.rest)) (sym (add-one i))
          where
            joined_by : (n : Answer FoundAll) → ((n >>= λ xs. good (record { types = D.found.type ∷ xs.types; state = xs.state })) >>= λ xs. got (with_before (values_in w top i) xs) (behind L.trees.rest)) ≡ (n >>= λ xs. got (with_before (values_in w₂ top (i + 1)) xs) (behind L.trees.rest))
            joined_by (good xs) = ap (λ (ts : List ℕ). got (record { types = ts; state = xs.state }) (behind L.trees.rest)) (sym (append_assoc (values_in w top i) (D.found.type ∷ []) xs.types) ∙ ap (λ (t : ℕ). (values_in w top i ++ t ∷ []) ++ xs.types) (sym D.comes.type) ∙ ap (λ (vs : List ℕ). vs ++ xs.types) (sym values-now))
            joined_by (refused why) = refl

        pub listing-more : v.code ≡ 14 → Listing a w₂ (i + 1) v.end
        listing-more c =
            let o = s.onward (λ z. omega arith) in
            record {
              kept = listing-walked;
              state = D.found.state;
              holds = state-now D.found.state D.comes.state;
              places = places-now;
              known = known-now;
              lexed = o.lexed;
              rounds = F.rounds;
              trees = record { value = F.others; rest = L.trees.rest };
              list = record { reads = ap (λ (us : List Word). list_from read F.rounds us) (sym (ap behind words-now ∙ o.rest)) ∙ F.more (ap (is comma) words-now ∙ is_yes text end v s comma c); closed = L.list.closed };
              total = total-next;
            }

        pub listing-last : ¬ (v.code ≡ 14) → TypesAnswer text w₂ top (Ok (record { count = i + 1; end = v.end })) a
        listing-last c =
            let l = F.last (ap (is comma) words-now ∙ is_no text end v s comma c) in
            let here : L.trees.rest ≡ from text end = l.1 ∙ words-now in
            let o = s.onward (λ z. end-not z (sym (ap (is endSquare) here) ∙ L.list.closed)) in
            subst (TypesAnswer text w₂ top (Ok (record { count = i + 1; end = v.end }))) (sym (total-next ∙ ap (λ (ts : List TypeTree). left (i + 1) D.found.state ts (values_in w₂ top (i + 1)) (behind L.trees.rest)) l.0)) (record {
              types = sym (append-none (values_in w₂ top (i + 1)));
              known = subst (AllBelow (length D.found.state.table)) (sym (append-none (values_in w₂ top (i + 1)))) known-now;
              few = places-now.most;
              state = state-now D.found.state D.comes.state;
              rest = record { is = ap behind here ∙ o.rest; lexed = o.lexed };
            })
          where
            append-none : (ts : List ℕ) → ts ++ [] ≡ ts
            append-none [] = refl
            append-none (t ∷ ts) = ap (λ (us : List ℕ). t ∷ us) (append-none ts)

            end-not : v.code ≡ 0 → is endSquare (from text end) ≡ true → ⊥
            end-not z e = true≢false (sym e ∙ is_no text end v s endSquare (λ q. omega arith))

-- ---- the loop

module _ (text w₀ : List ℕ) (at more frame top name : ℕ) (C : CanTypeAll text w₀ at more frame top) where
  -- for every text, scope, state and list that there were
  abbrev pub Keeps : List ℕ → ℕ → ℕ → Type 0
  Keeps w i p = (X : Text) (S : Scope) (σ : State) → Walkable text w₀ frame top X S σ → (rounds : ℕ) (g : Got (List TypeTree)) → ListRead text at rounds g → Listing text w₀ more frame top name X S (found_all (λ R τ t. type_of X more R τ t) S name 0 σ (types_of g.value) >>= λ xs. got xs (behind g.rest)) w i p

  pub keeps_first : Keeps w₀ 0 at
  keeps_first = λ X S σ G rounds g R. listing-first text w₀ more frame top name X S at σ G C.can.lexed rounds g R

  module _ (w : List ℕ) (i p : ℕ) (K : Keeps w i p) where
    abbrev L : Listing text w₀ more frame top name C.can.walk.X C.can.walk.S (found_all (λ R τ t. type_of C.can.walk.X more R τ t) C.can.walk.S name 0 C.can.walk.σ (types_of C.trees.value) >>= λ xs. got xs (behind C.trees.rest)) w i p
    L = K C.can.walk.X C.can.walk.S C.can.walk.σ C.can.walk.walkable C.rounds C.trees C.list

    pub keeps_same : length w ≡ length w₀
    keeps_same = L.kept.same

    pub keeps-few : top + i ≤ most_entries
    keeps-few = L.places.most

    pub keeps-can : CanType text w p more frame (top + i)
    keeps-can = listing-can text w₀ more frame top name C.can.walk.X C.can.walk.S C.can.walk.σ C.can.walk.walkable C.can.above _ w i p L C.can.levels

    pub keeps-full : most_entries ≤ top + i → AllTypesSay text w₀ at more frame top name (Err (refusal_at Reason.TextLimit name)) w
    keeps-full f = record { walked = L.kept; says = λ X S σ G rounds g R. listing_full text w₀ more frame top name X S σ G C.can.above _ w i p (K X S σ G rounds g R) false (sym (lt-leb (top + (i + 1)) most_entries (omega arith))) refl }

    module _ (o : top + i < most_entries) (r : Result TypeEnd Why) (w₁ : List ℕ) (Z : TypeSays text w p more frame (top + i) r w₁) where
      room : true ≡ leb (top + (i + 1)) most_entries
      room = sym (le-leb (top + (i + 1)) most_entries (omega arith))

      pub keeps-long : making_size ≤ length w₁
      keeps-long = omega (arith, L.places.room, Z.walked.same)

      pub keeps-there : (t : TypeEnd) → r ≡ Ok t → Lexed text t.end × (t.ty < 256)
      keeps-there = listing-there text w₀ more frame top name C.can.walk.X C.can.walk.S C.can.walk.σ C.can.walk.walkable C.can.above _ w i p L true room refl r w₁ Z

      pub keeps-refused : (bad : Why) → r ≡ Err bad → AllTypesSay text w₀ at more frame top name (Err bad) w₁
      keeps-refused bad e = record { walked = types_walked_then more more more top (top + i) top w₀ w w₁ (omega arith) (omega arith) (omega arith) (omega arith) L.kept Z.walked; says = λ X S σ G rounds g R. listing-refused text w₀ more frame top name X S σ G C.can.above _ w i p (K X S σ G rounds g R) true room refl r w₁ Z bad e }

      module _ (came : TypeEnd) (u : ℕ) (is-r : r ≡ Ok came) (is-ty : u ≡ came.ty) (w₂ : List ℕ) (stored : w₂ ≡ with_entry w₁ (top + i) 0 u) (v : Said) (s : Stands text came.end v) where
        pub keeps-more : v.code ≡ 14 → Keeps w₂ (i + 1) v.end
        keeps-more c = λ X S σ G rounds g R. listing-more text w₀ more frame top name X S σ G C.can.above _ w i p (K X S σ G rounds g R) true room refl r w₁ Z came u is-r is-ty w₂ stored v s c

        pub keeps-last : ¬ (v.code ≡ 14) → AllTypesSay text w₀ at more frame top name (Ok (record { count = i + 1; end = v.end })) w₂
        keeps-last c = record { walked = listing-walked text w₀ more frame top name C.can.walk.X C.can.walk.S C.can.walk.σ C.can.walk.walkable C.can.above _ w i p L true room refl r w₁ Z came u is-r is-ty w₂ stored v s; says = λ X S σ G rounds g R. listing-last text w₀ more frame top name X S σ G C.can.above _ w i p (K X S σ G rounds g R) true room refl r w₁ Z came u is-r is-ty w₂ stored v s c }

-- ---- as a term wants them

-- [ type, type ], or nothing, by a test of the first word
abbrev arguments_if : List Word → Bool → Answer (Got TypeTrees)
arguments_if ws c = cond c (list_from read (length ws) (behind ws) >>= λ ts. expect endSquare ts.rest >>= λ after. got (types_of ts.value) after) (got no_types ws)

-- there are none
pub types-none : (text w : List ℕ) (at more frame top name : ℕ) (v : Said) → Marks text at v → CanType text w at more frame top → ¬ (v.code ≡ 17) → TypesSay text w at more frame top name (Ok (record { count = 0; end = at })) w
unfolding types_from
types-none text w at more frame top name v m C n = record {
  walked = types_walked_none more top w;
  says = λ X S σ G.
      let z : top ≡ top + 0 = omega arith in
      subst (λ (q : Answer (Got TypeTrees)). TypesAnswer text w top (Ok (record { count = 0; end = at })) (q >>= λ ts. found_all (λ R τ t. type_of X more R τ t) S name 0 σ ts.value >>= λ xs. got xs ts.rest)) (sym (ap (arguments_if (from text at)) (mark_no text at v square m.square n))) (record { types = refl; known = tt; few = omega (arith, G.scope.places.most); state = G.state; rest = record { is = refl; lexed = C.lexed } });
}

module _ (text w : List ℕ) (at more frame top name : ℕ) (b : ℕ) where
  rest-is : rest_of (arguments_at read (from text at)) ≡ group_end square endSquare (type_step most_nested false) (from text at)
  rest-is = group_rest read (type_step most_nested false) (λ us. refl) square endSquare types_of no_types (from text at)

  refuses-by : (q : Why) (m : Answer (Got TypeTrees)) → rest_of m ≡ refused (said_why q) → (k : Got TypeTrees → Answer (Got FoundAll)) → TypesAnswer text w top (Err q) (m >>= k)
  refuses-by q (good g) z k = absurd (refused≢good (sym z))
  refuses-by q (refused why) z k = same z
    where
      same : {p q : Refusal} → ◌≡◌ {A = Answer (List Word)} (refused p) (refused q) → p ≡ q
      same z = cc

  pub types_refused_there : (q : Why) → Ends text b (group_end square endSquare (type_step most_nested false) (from text at)) (Err q) → TypesSay text w at more frame top name (Err q) w
  unfolding types_from
  types_refused_there q E = record { walked = types_walked_none more top w; says = λ X S σ G. refuses-by q (arguments_at read (from text at)) (rest-is ∙ E) (λ ts. found_all (λ R τ t. type_of X more R τ t) S name 0 σ ts.value >>= λ xs. got xs ts.rest) }

  module _ (v : Said) (s : Stands text at v) where
    abbrev ws : List Word
    ws = from text at

    abbrev list : Answer (Got (List TypeTree))
    list = list_from read (length ws) (behind ws)

    -- the list, and the bracket behind it
    record Closed (m : Answer (Got (List TypeTree))) : Type 0 where
      trees : Got (List TypeTree)
      is-list : m ≡ good trees
      closes : is endSquare trees.rest ≡ true

    closed_by_lem : (us : List Word) (m : Answer (Got (List TypeTree))) → rest_of (m >>= λ ts. expect endSquare ts.rest >>= λ after. got (types_of ts.value) after) ≡ good us → Closed m
    closed_by_lem us (refused why) z = absurd (refused≢good z)
    closed_by_lem us (good g) z = by (is endSquare g.rest) refl z
      where
        by : (c : Bool) → is endSquare g.rest ≡ c → rest_of ((need c 32 (place g.rest) >>= λ _. good (behind g.rest)) >>= λ after. got (types_of g.value) after) ≡ good us → Closed (good g)
        by true c z = record { trees = g; is-list = refl; closes = c }
        by false c z = absurd (refused≢good z)

    module _ (C : CanType text w at more frame top) (end : ℕ) (E : Ends text b (group_end square endSquare (type_step most_nested false) (from text at)) (Ok end)) (c : v.code ≡ 17) where
      O : Closed list
      O = closed_by_lem (from text end) list (sym (ap (λ (q : Bool). rest_of (arguments_if ws q)) (is_yes text at v s square c)) ∙ rest-is ∙ E.is)

      behind-is : behind ws ≡ from text v.end
      behind-is = (s.onward (λ z. omega arith)).rest

      list-there : ListRead text v.end (length ws) O.trees
      list-there = record { reads = ap (λ (us : List Word). list_from read (length ws) us) (sym behind-is) ∙ O.is-list; closed = O.closes }

      pub types-can : CanTypeAll text w v.end more frame top
      types-can = record { can = record { walk = C.walk; lexed = (s.onward (λ z. omega arith)).lexed; above = C.above; levels = C.levels }; rounds = length ws; trees = O.trees; list = list-there }

      whole : got (types_of O.trees.value) (behind O.trees.rest) ≡ arguments_at read ws
      whole = sym (ap (arguments_if ws) (is_yes text at v s square c) ∙ ap (λ (m : Answer (Got (List TypeTree))). m >>= λ ts. expect endSquare ts.rest >>= λ after. got (types_of ts.value) after) O.is-list ∙ ap (λ (d : Bool). (need d 32 (place O.trees.rest) >>= λ _. good (behind O.trees.rest)) >>= λ after. got (types_of O.trees.value) after) O.closes)

      pub types-some : (r : Result TypesEnd Why) (w' : List ℕ) → AllTypesSay text w v.end more frame top name r w' → TypesSay text w at more frame top name r w'
      unfolding types_from
      types-some r w' Z = record { walked = Z.walked; says = λ X S σ G. subst (λ (q : Answer (Got TypeTrees)). TypesAnswer text w' top r (q >>= λ ts. found_all (λ R τ t. type_of X more R τ t) S name 0 σ ts.value >>= λ xs. got xs ts.rest)) whole (Z.says X S σ G (length ws) O.trees list-there) }
