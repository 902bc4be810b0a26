-- One pair taken apart: its halves are bound, and it waits. Assumes nothing.
use Prim.Native.Nat.{ℕ, ◌+◌, ◌≤◌, ◌<◌}
use mathlib.Core.Path.{◌≡◌, refl, sym, ap, ◌∙◌, subst}
use mathlib.Core.Bool.{cond}
use mathlib.Core.List.{List, []}
use native.Mathlib.Omega.{arith}
use lib.Dec.{eqb, ltb}
use lib.ListN.{length}
use Rattle.std.specs.Prelude.{Result, Ok, Err}
use Rattle.answers.specs.declared.Refusal.{Refusal}
use Rattle.calculus.specs.Answer.{Answer, good}
use Rattle.calculus.specs.Types.{TyRec, rec01, rec02, rec03, rec04, rec_at}
use Rattle.calculus.specs.Terms.{Term, var}
use Rattle.calculus.proofs.Answers.{good-inj, on-need}
use Rattle.notation_calculus.specs.Trees.{Bound}
use Rattle.notation_calculus.specs.Making.{State, Scope, bind, with_variables, most_entries, Made, counted, node, halves_of, rest}
use Rattle.sheet_theorems.specs.Laid.{Below}
use Rattle.words.specs.Next.{name_in}
use Rattle.words.specs.Lexed.{from}
use Rattle.words.proofs.PlaceLaws.{name-past}
use Rattle.making_memory.specs.Map.{node_count_at}
use Rattle.made_types.specs.Held.{kind_in, left_in_lem, right_in, HoldsState}
use Rattle.made_types.proofs.Sorts.{left_half_in, right_half_in}
use Rattle.made_nodes.specs.Nodes.{of_var}
use Rattle.made_nodes.specs.Held.{TermHeld, MadeIn}
use Rattle.made_nodes.specs.Adding.{no_sub, NodeSays}
use Rattle.made_nodes.specs.declared.Sub.{Sub}
use Rattle.made_nodes.proofs.Answers.{on-term, on-no-term}
use Rattle.scopes.specs.Frames.{HoldsScope}
use Rattle.walks.proofs.Kept.{scope_on_terms, term_on_terms, terms_of_made}
use Rattle.term_parts.specs.declared.halves.Half.{Half}
use Rattle.term_parts.specs.declared.names.TwoNames.{TwoNames}
use Rattle.term_parts.specs.Names.{bound_in, TwoSay}
use Rattle.term_parts.specs.Halves.{with_half, InHalves, PartsOnly}
use Rattle.term_parts.specs.Parts.{NameBound, parted_by, first_name, second_name, HalfWaits, CanTake, TakeSays, RestSays, CanTakeAt, TakeLastSays, RestAnswers, TakeRestSays}
use Rattle.term_parts.proofs.Stay.{half_above, half_put, half_state, parts_of_half, parts_of-entries, parts_of-made, parts_then, entries_state, half_same}

-- ---- the halves of a type

module _ (w : List ℕ) (v : Sub) (σ : State) (m : Made) (H : HoldsState w σ) (T : TermHeld w v m) where
  pub held-known : v.ty < length σ.table
  held-known = omega (arith, T.known, H.types.count)

  pub held-left : cond (eqb (kind_in w v.ty) 2) (left_in_lem w v.ty) 0 ≡ (halves_of (rec_at σ.table m.type)).left
  held-left = left_half_in w σ.table v.ty H.types held-known ∙ ap (λ (t : ℕ). (halves_of (rec_at σ.table t)).left) T.type

  pub held-right : cond (eqb (kind_in w v.ty) 2) (right_in w v.ty) 0 ≡ (halves_of (rec_at σ.table m.type)).right
  held-right = right_half_in w σ.table v.ty H.types held-known ∙ ap (λ (t : ℕ). (halves_of (rec_at σ.table t)).right) T.type

  halves-below : (n k : ℕ) (r : TyRec) → Below n r → n < k → ((halves_of r).left < k) × ((halves_of r).right < k)
  halves-below n k rec01 b h = (omega arith, omega arith)
  halves-below n k (rec02 a c) b h = (omega (arith, b.0), omega (arith, b.1))
  halves-below n k (rec03 a c) b h = (omega arith, omega arith)
  halves-below n k (rec04 a c) b h = (omega arith, omega arith)

  made-known : m.type < length σ.table
  made-known = subst (λ (t : ℕ). t < length σ.table) T.type held-known

  -- they are types too
  pub halves-known : ((halves_of (rec_at σ.table m.type)).left < length σ.table) × ((halves_of (rec_at σ.table m.type)).right < length σ.table)
  halves-known = halves-below m.type (length σ.table) (rec_at σ.table m.type) (H.types.ok.earlier m.type made-known) made-known

-- ---- one pair

module _ (w : List ℕ) (entry half place other : ℕ) (v : Sub) (C : CanTake w entry half place other v) where
  abbrev waiting_half : Half
  waiting_half = record { node = v.node; ty = v.ty; deep = v.deep; place = place }

  module _
      (left right : ℕ) (l : left ≡ cond (eqb (kind_in w v.ty) 2) (left_in_lem w v.ty) 0) (r : right ≡ cond (eqb (kind_in w v.ty) 2) (right_in w v.ty) 0)
      (w₁ : List ℕ) (A : NameBound w entry place left w₁) (w₂ : List ℕ) (B : NameBound w₁ (entry + 1) other right w₂) where
    room-now : InHalves w₂ half
    room-now = (omega (arith, C.room, A.only.same, B.only.same), C.halves)

    first-only : PartsOnly entry half w w₁
    first-only = parts_of-entries entry half entry (entry + 1) w w₁ (omega arith) (omega (arith, C.few)) A.only

    second-only : PartsOnly entry half w₁ w₂
    second-only = parts_of-entries entry half (entry + 1) (entry + 1 + 1) w₁ w₂ (omega arith) (omega (arith, C.few)) B.only

    put_only : (top : ℕ) → top ≤ most_entries → PartsOnly top half w₂ (with_half w₂ half waiting_half)
    put_only top h = parts_of_half w₂ half waiting_half room-now top h

    names-bound : (text : List ℕ) (frame : ℕ) (S : Scope) (m : Made) (x y : Bound) → HoldsScope text w frame entry S → HoldsState w m.state → TermHeld w v m → place ≤ length text → other ≤ length text → x.name ≡ name_in text place → y.name ≡ name_in text other → HoldsScope text w₂ frame (entry + 1 + 1) (with_variables S (parted_by m x y S.variables))
    names-bound text frame S m x y H K T pl ot nx ny =
        let ll : left ≡ (halves_of (rec_at m.state.table m.type)).left = l ∙ held-left w v m.state m K T in
        let rr : right ≡ (halves_of (rec_at m.state.table m.type)).right = r ∙ held-right w v m.state m K T in
        subst (λ (q : ℕ). HoldsScope text w₂ frame (entry + 1 + 1) (with_variables S (bind y q (bind x (halves_of (rec_at m.state.table m.type)).left S.variables)))) rr
        (subst (λ (q : ℕ). HoldsScope text w₂ frame (entry + 1 + 1) (with_variables S (bind y right (bind x q S.variables)))) ll
        (B.says text frame (with_variables S (bind x left S.variables)) y (A.says text frame S x H pl nx) ot ny))

    pub took : (w₃ : List ℕ) → w₃ ≡ with_half w₂ half waiting_half → TakeSays w entry half place other v w₃
    took w₃ is =
        let z : entry + 1 + 1 ≡ entry + 2 = omega arith in
        subst (TakeSays w entry half place other v) (sym is) (record {
          only = parts_then entry entry entry half half half w w₂ _ (omega arith) (omega arith) (omega arith) (omega arith) (parts_then entry entry entry half half half w w₁ w₂ (omega arith) (omega arith) (omega arith) (omega arith) first-only second-only) (put_only entry (omega (arith, C.few)));
          counted = half_above w₂ half waiting_half room-now node_count_at (omega (arith, C.halves)) ∙ B.only.above node_count_at (omega (arith, C.few)) ∙ A.only.above node_count_at (omega (arith, C.few));
          waits = half_put w₂ half waiting_half room-now;
          state = λ σ H. half_state w₂ half waiting_half room-now σ (entries_state (entry + 1) (entry + 1 + 1) w₁ w₂ (omega (arith, C.few)) B.only σ (entries_state entry (entry + 1) w w₁ (omega (arith, C.few)) A.only σ H));
          scope = λ text frame S m x y level H K T pl ot nx ny. scope_on_terms 0 (entry + 2) text w₂ _ (put_only (entry + 2) C.few).walked frame (entry + 2) _ (omega arith) level (omega arith) (subst (λ (q : ℕ). HoldsScope text w₂ frame q (with_variables S (parted_by m x y S.variables))) z (names-bound text frame S m x y H K T pl ot nx ny));
        })

-- ---- the rest of a pair

pub rest_says : (w : List ℕ) (place : ℕ) (v : Sub) (right : ℕ) → right ≡ cond (eqb (kind_in w v.ty) 2) (right_in w v.ty) 0 → (r : Result Sub Refusal) (w' : List ℕ) → NodeSays w (record { kind = 0x11; body = 0; left = 0; right = 0; place = place }) right 0 r w' → RestSays w place v r w'
rest_says w place v right e r w' N = record {
  only = N.only;
  says = λ σ m H T.
      let q : right ≡ (halves_of (rec_at σ.table m.type)).right = e ∙ held-right w v σ m H T in
      subst (λ (t : ℕ). MadeIn w' r (node place (var 0) t 0 [] σ)) q (N.says σ (var 0) [] H (subst (λ (t : ℕ). t < length σ.table) (sym q) (halves-known w v σ m H T).1) (no_sub of_var));
}

-- a node that was made is one more
node_counts : (at : ℕ) (e : Term) (t below : ℕ) (ps : List ℕ) (σ : State) (r : Made) → node at e t below ps σ ≡ good r → r.state ≡ counted σ
unfolding node
node_counts at e t below ps σ r h = on-need (ltb σ.nodes 2048) 34 at _ r h λ a h₁. on-need (ltb below 64) 34 at _ r h₁ λ b h₂. sym (ap (λ (m : Made). m.state) (good-inj h₂))

-- ---- for the names at an offset

rest_unnamed : (text : List ℕ) → [] ≡ name_in text (length text)
rest_unnamed text = sym (name-past text (length text) (omega arith))

module _ (text w : List ℕ) (at entry half : ℕ) (v : Sub) (C : CanTakeAt text w at entry half v) (t : TwoNames) (two : TwoSay text at t) where
  second_is : second_name (from text at) ≡ bound_in text t.second
  second_is = ap first_name two.rest ∙ two.second

  waits-so : (w' : List ℕ) → HalfWaits w' half v t.first → HalfWaits w' half v (first_name (from text at)).place
  waits-so w' h = subst (HalfWaits w' half v) (ap (λ (x : Bound). x.place) (sym two.first)) h

  name-so : (first_name (from text at)).name ≡ name_in text t.first
  name-so = ap (λ (x : Bound). x.name) two.first

  pub took-last : (w' : List ℕ) → TakeSays w entry half t.first t.second v w' → TakeLastSays text w at entry half v w'
  took-last w' K = record {
    only = K.only;
    counted = K.counted;
    waits = waits-so w' K.waits;
    state = K.state;
    scope = λ frame S m l H σ T. K.scope text frame S m (first_name (from text at)) (second_name (from text at)) l H σ T (omega (arith, two.inside)) (omega (arith, two.inside_too)) name-so (ap (λ (x : Bound). x.name) second_is);
  }

  module _ (w₁ : List ℕ) (K : TakeSays w entry half t.first (length text) v w₁) (r : Result Sub Refusal) (w₂ : List ℕ) (R : RestSays w₁ t.second v r w₂) where
    rest-only : PartsOnly entry half w w₂
    rest-only = parts_then entry entry entry half half half w w₁ w₂ (omega arith) (omega arith) (omega arith) (omega arith) K.only (parts_of-made entry half w₁ w₂ (omega (arith, C.few)) (omega (arith, C.halves)) R.only)

    rest-waits : HalfWaits w₂ half v (first_name (from text at)).place
    rest-waits = half_same w₁ w₂ half (λ j a b. R.only.above j (omega arith) (λ e. omega (arith, C.halves)) (λ e. omega (arith, C.halves))) ∙ waits-so w₁ K.waits

    module _ (frame : ℕ) (S : Scope) (m : Made) (l : frame < 82) (H : HoldsScope text w frame entry S) (σ : HoldsState w m.state) (T : TermHeld w v m) where
      abbrev restNode : Answer Made
      restNode = node (second_name (from text at)).place (var 0) (halves_of (rec_at m.state.table m.type)).right 0 [] m.state

      rest-made : MadeIn w₂ r restNode
      rest-made = subst (λ (p : ℕ). MadeIn w₂ r (node p (var 0) (halves_of (rec_at m.state.table m.type)).right 0 [] m.state)) (ap (λ (x : Bound). x.place) (sym second_is)) (R.says m.state m (K.state m.state σ) (term_on_terms 0 entry text w w₁ K.only.walked v m T))

      rest-scope : HoldsScope text w₂ frame (entry + 2) (with_variables S (parted_by m (first_name (from text at)) rest S.variables))
      rest-scope = scope_on_terms 0 (entry + 2) text w₁ w₂ (terms_of_made 0 (entry + 2) w₁ w₂ C.few R.only) frame (entry + 2) _ (omega arith) l (omega arith) (K.scope text frame S m (first_name (from text at)) rest l H σ T (omega (arith, two.inside)) (omega arith) name-so (rest_unnamed text))

      rest_good : (s : Sub) → r ≡ Ok s → (next : ℕ) → RestAnswers text w₂ frame (entry + 2) S (first_name (from text at)) m (Ok (record { next = next; sub = s })) restNode
      rest_good s i next = on-term w₂ s (λ (a : Answer Made). restNode ≡ a → RestAnswers text w₂ frame (entry + 2) S (first_name (from text at)) m (Ok (record { next = next; sub = s })) a) restNode (subst (λ (q : Result Sub Refusal). MadeIn w₂ q restNode) i rest-made) (λ q K' U e. record { scope = rest-scope; counts = node_counts _ (var 0) _ 0 [] m.state q e; state = K'; held = U }) refl

      rest-bad : (e : Refusal) → r ≡ Err e → RestAnswers text w₂ frame (entry + 2) S (first_name (from text at)) m (Err e) restNode
      rest-bad e i = on-no-term w₂ e (λ (a : Answer Made). RestAnswers text w₂ frame (entry + 2) S (first_name (from text at)) m (Err e) a) restNode (subst (λ (q : Result Sub Refusal). MadeIn w₂ q restNode) i rest-made) refl

    pub took-rest : (s : Sub) → r ≡ Ok s → TakeRestSays text w at entry half v (Ok (record { next = t.next; sub = s })) w₂
    took-rest s i = record { only = rest-only; waits = rest-waits; next = (two.rest, two.lexed); says = λ frame S m l H σ T. rest_good frame S m l H σ T s i t.next }

    pub took-none : (e : Refusal) → r ≡ Err e → TakeRestSays text w at entry half v (Err e) w₂
    took-none e i = record { only = rest-only; waits = rest-waits; next = tt; says = λ frame S m l H σ T. rest-bad frame S m l H σ T e i }
