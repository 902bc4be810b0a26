-- What `read_term` says of a term's end, by what the head of its record opens. Assumes nothing.
use Prim.Native.Nat.{ℕ, zero, suc, ◌+◌, ◌-◌, ◌≤◌, ◌<◌}
use mathlib.Core.Path.{◌≡◌, refl, sym, ap, subst, ◌∙◌}
use mathlib.Core.Bool.{◌||◌}
use mathlib.Core.List.{List}
use native.Mathlib.Omega.{arith}
use native.Mathlib.Decide.{dec_lt}
use lib.Dec.{ltb, leb, eqb, ltb→lt, leb→le}
use lib.ListN.{length, replicate, length-replicate}
use Rattle.calculus.specs.Answer.{Refusal, Answer, good, refused, ◌>>=◌}
use Rattle.calculus.proofs.Answers.{refused≢good, good-inj, refused-inj, on-bind, on-need}
use Rattle.calculus.specs.Terms.{Edition, Term, fun, app, lfun, lapp, pair, proj, fix, name}
use Rattle.calculus.specs.Read.{kind_of, NodeKind, k11, k12, k13, k14, k15, k16, k17, k18, k19, k1A, k1B, knows, node_body, node_typed, node_kind, byte, head_at, Got, got, node_of_kind, read_term}
use Rattle.calculus.specs.Types.{rec01}
use Rattle.sheet_theorems.proofs.Standing.{term_nonempty}
use Rattle.sheet_theorems.proofs.Laying.{termed}
use Rattle.sheet.specs.Said.{node_subs, headed, HeadSaid, opens_at, opens, End, end, spanned}

-- ---- a node with so many subterms

module _ (x y next n : ℕ) (go : ℕ → ℕ → Answer Got) where
  one : (mk : Term → Term) (m : Answer Got) → spanned (m >>= λ e. got (mk e.term) e.next e.count) ≡ spanned m
  unfolding spanned
  one mk (good g) = refl
  one mk (refused why) = refl

  two : (mk : Term → Term → Term) (m : Answer Got) → spanned (m >>= λ f. go f.next f.count >>= λ a. got (mk f.term a.term) a.next a.count) ≡ (spanned m >>= λ e. spanned (go e.at e.count))
  unfolding spanned
  two mk (good g) = one (mk g.term) (go g.next g.count)
  two mk (refused why) = refl

  no-subterm : (k : NodeKind) → node_subs k ≡ 0 → spanned (node_of_kind k x y next n go) ≡ end next n
  unfolding spanned
  no-subterm k11 h = refl
  no-subterm k12 h = refl
  no-subterm k13 h = absurd (omega arith)
  no-subterm k14 h = absurd (omega arith)
  no-subterm k15 h = absurd (omega arith)
  no-subterm k16 h = absurd (omega arith)
  no-subterm k17 h = absurd (omega arith)
  no-subterm k18 h = absurd (omega arith)
  no-subterm k19 h = absurd (omega arith)
  no-subterm k1A h = refl
  no-subterm k1B h = absurd (omega arith)

  one-subterm : (k : NodeKind) → node_subs k ≡ 1 → spanned (node_of_kind k x y next n go) ≡ spanned (go next n)
  one-subterm k11 h = absurd (omega arith)
  one-subterm k12 h = absurd (omega arith)
  one-subterm k13 h = one (fun x) (go next n)
  one-subterm k14 h = absurd (omega arith)
  one-subterm k15 h = one (lfun x) (go next n)
  one-subterm k16 h = absurd (omega arith)
  one-subterm k17 h = absurd (omega arith)
  one-subterm k18 h = absurd (omega arith)
  one-subterm k19 h = one (fix x) (go next n)
  one-subterm k1A h = absurd (omega arith)
  one-subterm k1B h = absurd (omega arith)

  two-subterms : (k : NodeKind) → 2 ≤ node_subs k → spanned (node_of_kind k x y next n go) ≡ (spanned (go next n) >>= λ e. spanned (go e.at e.count))
  two-subterms k11 h = absurd (omega arith)
  two-subterms k12 h = absurd (omega arith)
  two-subterms k13 h = absurd (omega arith)
  two-subterms k14 h = two app (go next n)
  two-subterms k15 h = absurd (omega arith)
  two-subterms k16 h = two lapp (go next n)
  two-subterms k17 h = two (pair x) (go next n)
  two-subterms k18 h = two proj (go next n)
  two-subterms k19 h = absurd (omega arith)
  two-subterms k1A h = absurd (omega arith)
  two-subterms k1B h = two name (go next n)

-- ---- what an opened record tells

headed_good : (at : ℕ) (m : Answer NodeKind) (p q : ℕ) → opens_at p q ≡ headed at m → (k : NodeKind) × (m ≡ good k) × (at + 1 + node_body k ≡ p) × (node_subs k ≡ q)
headed_good at (good k) p q e =
    let f = good-inj (sym e) in
    (k, refl, ap (λ (o : HeadSaid). o.next) f, ap (λ (o : HeadSaid). o.subterms) f)
headed_good at (refused why) p q e = absurd (refused≢good (sym e))

headed_bad : (at : ℕ) (m : Answer NodeKind) (why : Refusal) → ◌≡◌ {A = Answer HeadSaid} (refused why) (headed at m) → m ≡ refused why
headed_bad at (good k) why e = absurd (refused≢good e)
headed_bad at (refused that) why e = ap refused (sym (refused-inj e))

-- the count and the depth are within the limits, and the record within the sheet
pub record InLimits (more : ℕ) (s : List ℕ) (at n next : ℕ) : Type 0 where
  pub few : n < 2048
  pub deep : 0 < more
  pub past : at < next
  pub in_sheet : next ≤ length s

head_tells : (E : Edition) (more : ℕ) (s : List ℕ) (types at n : ℕ) (k : NodeKind) → head_at E more s types at n ≡ good k → InLimits more s at n (at + 1 + node_body k)
unfolding head_at
head_tells E more s types at n k e =
    on-need (ltb at (length s)) 3 at _ k e λ h₁ e₁.
    on-bind (node_kind (kind_of (byte s at)) at) _ k e₁ λ q h₂ e₂.
    on-need (knows E q) 4 at _ k e₂ λ h₀ e₀.
    on-need (leb (at + 1 + node_body q) (length s)) 3 at _ k e₀ λ h₃ e₃.
    on-need (ltb n 2048) 8 at _ k e₃ λ h₄ e₄.
    on-need (ltb 0 more) 8 at _ k e₄ λ h₅ e₅.
    on-need (eqb (node_typed q) 0 || ltb (byte s (at + node_typed q)) types) 5 at _ k e₅ λ h₆ e₆.
    subst (λ (k : NodeKind). InLimits more s at n (at + 1 + node_body k)) (good-inj e₆)
    (record { few = ltb→lt n 2048 h₄; deep = ltb→lt 0 more h₅; past = omega arith; in_sheet = leb→le _ _ h₃ })

module _ (E : Edition) (s : List ℕ) (types at n : ℕ) where
  read_step : (k : NodeKind) (m : ℕ) → 0 < m → head_at E m s types at n ≡ good k
      → read_term E m s types at n ≡ node_of_kind k (byte s (at + 1)) (byte s (at + 2)) (at + 1 + node_body k) (n + 1) (λ a c. read_term E (m - 1) s types a c)
  unfolding read_term
  read_step k zero h e = absurd (omega arith)
  read_step k (suc m) h e = let p : suc m - 1 ≡ m = omega arith in simp (e, p)

  read-bad : (why : Refusal) (m : ℕ) → head_at E m s types at n ≡ refused why → ◌≡◌ {A = Answer End} (refused why) (spanned (read_term E m s types at n))
  unfolding read_term spanned
  read-bad why zero h = simp h
  read-bad why (suc m) h = simp h

module _ (E : Edition) (more : ℕ) (s : List ℕ) (types at n : ℕ) where
  pub open_tells : {p q : ℕ} → opens_at p q ≡ opens E more s types at n → InLimits more s at n p
  unfolding opens
  open_tells {p} {q} e =
      let (k, h, i, j) = headed_good at (head_at E more s types at n) p q e in
      rw i at (head_tells E more s types at n k h)

  pub span_bad : {why : Refusal} → ◌≡◌ {A = Answer HeadSaid} (refused why) (opens E more s types at n) → ◌≡◌ {A = Answer End} (refused why) (spanned (read_term E more s types at n))
  unfolding opens
  span_bad {why} e = read-bad E s types at n why more (headed_bad at (head_at E more s types at n) why e)

  -- the node that a record opens
  opened-node : {p q : ℕ} → opens_at p q ≡ opens E more s types at n → (k : NodeKind) × (node_subs k ≡ q)
      × (read_term E more s types at n ≡ node_of_kind k (byte s (at + 1)) (byte s (at + 2)) p (n + 1) (λ a c. read_term E (more - 1) s types a c))
  unfolding opens
  opened-node {p} {q} e =
      let (k, h, i, j) = headed_good at (head_at E more s types at n) p q e in
      (k, j, read_step E s types at n k more (head_tells E more s types at n k h).deep h ∙ rw i)

  pub span_none : {p q : ℕ} → opens_at p q ≡ opens E more s types at n → q ≡ 0 → end p (n + 1) ≡ spanned (read_term E more s types at n)
  span_none e z =
      let (k, j, r) = opened-node e in
      sym (ap spanned r ∙ no-subterm _ _ _ _ _ k (j ∙ z))

  pub span_one : {p q : ℕ} → opens_at p q ≡ opens E more s types at n → q ≡ 1 → spanned (read_term E (more - 1) s types p (n + 1)) ≡ spanned (read_term E more s types at n)
  span_one e z =
      let (k, j, r) = opened-node e in
      sym (ap spanned r ∙ one-subterm _ _ _ _ _ k (j ∙ z))

  pub span-two : {p q : ℕ} → opens_at p q ≡ opens E more s types at n → ¬ (q ≡ 0) → ¬ (q ≡ 1)
      → (spanned (read_term E (more - 1) s types p (n + 1)) >>= λ e. spanned (read_term E (more - 1) s types e.at e.count)) ≡ spanned (read_term E more s types at n)
  span-two e x y =
      let (k, j, r) = opened-node e in
      sym (ap spanned r ∙ two-subterms _ _ _ _ _ k (omega arith))

  pub span_two_good : {p q b c : ℕ} → opens_at p q ≡ opens E more s types at n → ¬ (q ≡ 0) → ¬ (q ≡ 1)
      → end b c ≡ spanned (read_term E (more - 1) s types p (n + 1)) → spanned (read_term E (more - 1) s types b c) ≡ spanned (read_term E more s types at n)
  span_two_good e x y h = ap (λ (m : Answer End). m >>= λ e. spanned (read_term E (more - 1) s types e.at e.count)) h ∙ span-two e x y

  pub span_first_bad : {p q : ℕ} {why : Refusal} → opens_at p q ≡ opens E more s types at n → ¬ (q ≡ 0)
      → ◌≡◌ {A = Answer End} (refused why) (spanned (read_term E (more - 1) s types p (n + 1))) → ◌≡◌ {A = Answer End} (refused why) (spanned (read_term E more s types at n))
  span_first_bad {q = q} e x h = elim (dec_lt q 2) [
    | yes l ↦ h ∙ span_one e (omega arith)
    | no l ↦ ap (λ (m : Answer End). m >>= λ e. spanned (read_term E (more - 1) s types e.at e.count)) h ∙ span-two e x (λ z. omega arith)
  ]

-- a term ends behind its start
rises : (E : Edition) (more : ℕ) (s : List ℕ) (types at n : ℕ) (g : Got) → read_term E more s types at n ≡ good g → at < g.next
rises E more s types at n g e =
    let t = termed E (replicate types rec01) s more at n g (rw (length-replicate types rec01) e) in
    omega (arith, t.end, term_nonempty g.term)

span_good : (at b c : ℕ) (g : Got) → at < g.next → end b c ≡ end g.next g.count → at < b
span_good at b c g h e = let f : b ≡ g.next = ap (λ (x : End). x.at) (good-inj e) in omega arith

rises_by : (E : Edition) (more : ℕ) (s : List ℕ) (types at n b c : ℕ) (m : Answer Got) → read_term E more s types at n ≡ m → end b c ≡ spanned m → at < b
unfolding spanned
rises_by E more s types at n b c (good g) h e = span_good at b c g (rises E more s types at n g h) e
rises_by E more s types at n b c (refused why) h e = absurd (refused≢good (sym e))

pub span-rises : (E : Edition) (more : ℕ) (s : List ℕ) (types at n : ℕ) {b c : ℕ} → end b c ≡ spanned (read_term E more s types at n) → at < b
span-rises E more s types at n {b} {c} e = rises_by E more s types at n b c (read_term E more s types at n) refl e
