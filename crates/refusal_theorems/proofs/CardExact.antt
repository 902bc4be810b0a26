-- The refusals of a call that may ask for the card's profile, as the public call has them. Assumes nothing.
use Prim.Native.Nat.{ℕ, ◌<◌, ◌≤◌}
use mathlib.Core.Path.{◌≡◌, refl, sym, ap, subst, ◌∙◌}
use mathlib.Core.Logic.{inl, inr, ◌↔◌}
use mathlib.Core.Bool.{Bool, true, false}
use mathlib.Core.List.{List, []}
use native.Mathlib.Omega.{arith}
use lib.Dec.{T, leb, leb→le}
use lib.ListN.{length}
use borrow.Author.Tests.{leb-false, le-leb, lt-leb}
use Rattle.calculus.specs.Answer.{Refusal, Answer, good, refused, numbered}
use Rattle.calculus.proofs.Answers.{refused≢good, good-inj, refused-inj}
use Rattle.calculus.specs.Types.{Ty}
use Rattle.calculus.specs.Read.{Sheet}
use Rattle.calculus.specs.Rules.{Typed}
use Rattle.calculus.specs.Net.{Net}
use Rattle.calculus.specs.Lean.{lean}
use Rattle.calculus.specs.Makers.{makers_of}
use Rattle.calculus.specs.Translate.{full, Wish, asked_bytes, said_of}
use Rattle.sheet_theorems.proofs.OneType.{one_type}
use Rattle.sheet_theorems.proofs.Judging.{Judged, value, refusal, Any, of_bind, of_require, weaker, of_refused}
use Rattle.export_calculus.specs.Card.{on_card}
use Rattle.export_calculus.specs.CardCall.{card_answer, card_call}
use Rattle.export_theorems.specs.Broken.{Breaks, Broken, root_type_lem, ring, unread}
use Rattle.export_theorems.proofs.Card.{root_of_lem, card_refused, card_exact}
use Rattle.refusal_theorems.specs.RefusedBy.{full_of, HasNetlist, wished_bytes}
use Rattle.refusal_theorems.specs.CardRefusedBy.{CardRefusedBy, on_little_memory, on_no_netlist, breaks_profile, on_little_room}
use Rattle.refusal_theorems.proofs.CallExact.{written_as, FullNetOf, full_or, full_refused, full_good, makers_so, wished, said_refused}

-- a broken rule is one refusal
broken_only : {τ : Ty} {m : Net} {why why' : Refusal} → Broken τ m why → Broken τ m why' → why ≡ why'
broken_only (root_type_lem f) (root_type_lem g) = refl
broken_only (root_type_lem f) (ring c l h) = absurd (f c)
broken_only (root_type_lem f) (unread c n u h) = absurd (f c)
broken_only (ring c l h) (root_type_lem g) = absurd (g c)
broken_only (ring {i = i} c l h) (ring {i = j} c' l' h') =
    let a = h j l' in
    let b = h' i l in
    let e : i ≡ j = omega arith in
    ap (numbered 28) e
broken_only (ring {i = i} c l h) (unread c' n u h') = absurd (n i l)
broken_only (unread c n u h) (root_type_lem g) = absurd (g c)
broken_only (unread c n u h) (ring {i = i} c' l h') = absurd (n i l)
broken_only (unread {o = o} c n u h) (unread {o = x} c' n' u' h') =
    let a = h x u' in
    let b = h' o u in
    let e : o ≡ x = omega arith in
    ap (numbered 29) e

module _ (s : List ℕ) (σ : Sheet) (q : HasNetlist s σ) where
  -- the root's type is the derivation's
  same-type : (m : Net) (e : full s ≡ good m) → (root_of_lem s m e).type ≡ q.type
  same-type m e =
      let r = root_of_lem s m e in
      let z : r.sheet ≡ σ = good-inj (sym r.reads ∙ (written_as s σ).1 q.written) in
      one_type (subst (λ (x : Sheet). Typed x.edition x.table [] x.term r.type) z r.typed) q.typed

  profile-breaks : (why : Refusal) → on_card true s (full_of σ) ≡ refused why → Broken q.type (lean (full_of σ)) why
  profile-breaks why h =
      let e = full_good s σ q in
      subst (λ (τ : Ty). Broken τ (lean (full_of σ)) why) (same-type (full_of σ) e) (card_refused s (full_of σ) e why h)

  breaks-refused : Breaks q.type (lean (full_of σ)) → (why : Refusal) × (on_card true s (full_of σ) ≡ refused why)
  breaks-refused b =
      let e = full_good s σ q in
      (card_exact s (full_of σ) e).1 (subst (λ (τ : Ty). Breaks τ (lean (full_of σ))) (sym (same-type (full_of σ) e)) b)

  refused-breaks : (why : Refusal) → on_card true s (full_of σ) ≡ refused why → Breaks q.type (lean (full_of σ))
  refused-breaks why h =
      let e = full_good s σ q in
      subst (λ (τ : Ty). Breaks τ (lean (full_of σ))) (same-type (full_of σ) e) ((card_exact s (full_of σ) e).0 (why, h))

  abbrev Against : Bool → Refusal → Type 0
  Against card why = T card × Broken q.type (lean (full_of σ)) why

  abbrev Keeps : Bool → Type 0
  Keeps card = T card → ¬ Breaks q.type (lean (full_of σ))

  card-or : (card : Bool) → Judged (Against card) (λ _. Keeps card) (on_card card s (full_of σ))
  card-or false = value (λ t. absurd t)
  card-or true = by (on_card true s (full_of σ)) refl
    where
      by : (a : Answer (Unit {0})) → on_card true s (full_of σ) ≡ a → Judged (Against true) (λ _. Keeps true) a
      by (good u) h = value (λ _ b. refused≢good (sym (breaks-refused b).1 ∙ h))
      by (refused why) h = refusal (tt, profile-breaks why h)

  breaks-of : {why : Refusal} → Broken q.type (lean (full_of σ)) why → Breaks q.type (lean (full_of σ))
  breaks-of (root_type_lem f) = inl f
  breaks-of (ring {i = i} c l h) = inr (inl (i, l))
  breaks-of (unread {o = o} c n u h) = inr (inr (o, u))

  card-broken : {why : Refusal} → Broken q.type (lean (full_of σ)) why → on_card true s (full_of σ) ≡ refused why
  card-broken {why} b =
      let (why', h) = breaks-refused (breaks-of b) in
      h ∙ ap (λ (w : Refusal). refused w) (broken_only (profile-breaks why' h) b)

  card-kept : (card : Bool) → Keeps card → on_card card s (full_of σ) ≡ good tt
  card-kept false k = refl
  card-kept true k = by (on_card true s (full_of σ)) refl
    where
      by : (a : Answer (Unit {0})) → on_card true s (full_of σ) ≡ a → a ≡ good tt
      by (good tt) h = refl
      by (refused why) h = absurd (k tt (refused-breaks why h))

module _ (card : Bool) (memory : ℕ) (w : Wish) (s : List ℕ) (room : ℕ) where
  card-answer-or : Judged (CardRefusedBy card memory w s room) Any (card_answer card memory w s room)
  unfolding card_answer
  card-answer-or =
      of_require (leb 32768 memory) (numbered 1 0) _ (λ f. on_little_memory (leb-false 32768 memory f)) λ e.
      let enough = leb→le 32768 memory e in
      of_bind (full s) _ (weaker (λ why u. on_no_netlist enough u) (full_or s)) λ m _ q.
      of_bind (on_card card s m) _ (asked m q enough) λ _ _ k.
      of_require (leb (length (asked_bytes w m (makers_of s))) room) (numbered 17 (length (asked_bytes w m (makers_of s)))) _ (λ f. short m q enough k (leb-false (length (asked_bytes w m (makers_of s))) room f)) λ _.
      value tt
    where
      asked : (m : Net) (q : FullNetOf s m) → 32768 ≤ memory → Judged (CardRefusedBy card memory w s room) (λ _. Keeps s q.sheet q.has card) (on_card card s m)
      asked m q e = rw q.net (weaker (λ why b. breaks_profile {σ = q.sheet} e q.has b.0 b.1) (card-or s q.sheet q.has card))

      short : (m : Net) (q : FullNetOf s m) → 32768 ≤ memory → Keeps s q.sheet q.has card → room < length (asked_bytes w m (makers_of s)) → CardRefusedBy card memory w s room (numbered 17 (length (asked_bytes w m (makers_of s))))
      short m q e k h = rw (wished memory w s room m q) (on_little_room {σ = q.sheet} e q.has k (rw (wished memory w s room m q) at h))

  card-answer-refused : {why : Refusal} → CardRefusedBy card memory w s room why → card_answer card memory w s room ≡ refused why
  unfolding card_answer
  card-answer-refused (on_little_memory h) = rw (lt-leb 32768 memory h)
  card-answer-refused (on_no_netlist h u) = simp (le-leb 32768 memory h, full_refused u)
  card-answer-refused (breaks_profile {σ = σ} h q t b) = simp (le-leb 32768 memory h, full_good s σ q, asked-for card t σ q b)
    where
      asked-for : (card : Bool) → T card → (σ : Sheet) (q : HasNetlist s σ) {why : Refusal} → Broken q.type (lean (full_of σ)) why → on_card card s (full_of σ) ≡ refused why
      asked-for true t σ q b = card-broken s σ q b
      asked-for false t σ q b = absurd t
  card-answer-refused (on_little_room {σ = σ} h q k l) =
      simp (le-leb 32768 memory h, full_good s σ q, card-kept s σ q card k, makers_so s σ q.written, lt-leb (length (wished_bytes w σ)) room l)

module _ (card : Bool) (w : Wish) (s out work : List ℕ) where
  -- the public call answers a refusal exactly when the sentences refuse
  pub card_refused_by_exact : (why : Refusal) → ((card_call card w s out work).said ≡ refused why) ↔ CardRefusedBy card (length work) w s (length out) why
  unfolding card_call
  card_refused_by_exact why =
      let a = card_answer card (length work) w s (length out) in (
        (λ h. of_refused a why (card-answer-or card (length work) w s (length out)) (said_refused a why h)),
        (λ r. ap said_of (card-answer-refused card (length work) w s (length out) r)),
      )

  -- at most one
  pub card_refused_by_only : (why why' : Refusal) → CardRefusedBy card (length work) w s (length out) why → CardRefusedBy card (length work) w s (length out) why' → why ≡ why'
  card_refused_by_only why why' r q = refused-inj (sym ((card_refused_by_exact why).1 r) ∙ (card_refused_by_exact why').1 q)
