-- What `head_at` says, by the record that stands at an offset. Assumes nothing.
use Prim.Native.Nat.{ℕ, zero, suc, ◌+◌, ◌-◌, ◌≤◌, ◌<◌}
use mathlib.Core.Path.{◌≡◌, refl, sym, ap, ◌∙◌}
use mathlib.Core.Bool.{Bool, true, false, not, ◌||◌, cond}
use mathlib.Core.List.{List}
use native.Mathlib.Omega.{arith}
use native.Mathlib.Decide.{dec_lt}
use lib.Dec.{ltb, leb, eqb}
use lib.ListN.{length}
use borrow.Author.Tests.{lt-ltb, le-ltb, le-leb, lt-leb, leb-true, leb-false}
use Rattle.calculus.specs.Answer.{Refusal, Answer, good, refused, ◌>>=◌, refuse, need}
use Rattle.calculus.specs.Terms.{Edition}
use Rattle.calculus.specs.Read.{Kind, unknown, type, node, NodeKind, k11, k12, k13, k14, k15, k16, k17, k18, k19, k1A, k1B, knows, kind_of, node_body, node_typed, byte, head_at, read_term}
use Rattle.std.specs.declared.result.Result.TheVariants.{Ok, Err}
use Rattle.std.specs.declared.option.Option.{Option}
use Rattle.std.specs.declared.option.Option.TheVariants.{Some, None}
use Rattle.answers.specs.declared.Reason.{Reason}
use Rattle.answers.specs.declared.Refusal.{Refusal as Why}
use Rattle.answers.specs.Refusals.{said_why}
use Rattle.records.specs.Record.{no_record, shape_of, record_of_lem, record_at, body_at}
use Rattle.records.specs.declared.Form.{Form}
use Rattle.records.specs.declared.Node.{Node}
use Rattle.records.specs.declared.Shape.{Shape}
use Rattle.records.specs.declared.Shape.TheVariants as shape
use Rattle.records.specs.declared.Record.TheVariants as rec
use Rattle.records.proofs.Laws.{node-next}
use Rattle.records.specs.Editions.{known_rule}
use Rattle.sheet.specs.Said.{node_subs, opens_at, headed, opens, mistyped, limits_of_lem}
use Rattle.sheet.proofs.KindLaws.{WhatStands, kind_shape, record_kind, record_past, node_rule, node_as, node-here, body-at}

-- ---- no node's record

no_node_lem : {q : Node} {why : Why} → ◌≡◌ {A = WhatStands} (Ok (rec.Node q)) (Err why) → ⊥
no_node_lem e = let z : ◌≡◌ {A = ℕ} 0 1 = cc in omega arith

by_head : (E : Edition) (more : ℕ) (s : List ℕ) (types at n : ℕ) {why : Refusal} → head_at E more s types at n ≡ refused why → read_term E more s types at n ≡ refused why
unfolding read_term
by_head E zero s types at n e = simp e
by_head E (suc more) s types at n e = simp e

-- a node with a body is known in both editions
knows-long : (E : Edition) (k : NodeKind) → 0 < node_body k → knows E k ≡ true
knows-long E k11 h = refl
knows-long E k12 h = refl
knows-long E k13 h = refl
knows-long E k14 h = refl
knows-long E k15 h = refl
knows-long E k16 h = refl
knows-long E k17 h = refl
knows-long E k18 h = refl
knows-long E k19 h = refl
knows-long E k1A h = refl
knows-long E k1B h = absurd (omega arith)

module _ (E : Edition) (more : ℕ) (s : List ℕ) (types at n : ℕ) where
  refused-by : {A : Type 0} {why that : Why} → ◌≡◌ {A = WhatStands} (Err why) (Err that) → ◌≡◌ {A = Answer A} (refused (said_why why)) (refused (said_why that))
  refused-by {A} {why} {that} e = let a : why ≡ that = cc in ap {B = Answer A} (λ (x : Why). refused (said_why x)) a

  past_end : length s ≤ at → head_at E more s types at n ≡ refuse 3 at
  unfolding head_at
  past_end h = simp (le-ltb at (length s) h)

  cut-here : (k : NodeKind) → kind_of (byte s at) ≡ node k → at < length s → length s - (at + 1) < node_body k → head_at E more s types at n ≡ refuse 3 at
  unfolding head_at
  cut-here k e h c = simp (lt-ltb at (length s) h, e, knows-long E k (omega arith), lt-leb (at + 1 + node_body k) (length s) (omega arith))

  head-by : (k : Kind) {why : Why} → kind_of (byte s at) ≡ k → at < length s → record_of_lem true (kind_shape k) s at ≡ Err why → head_at E more s types at n ≡ refused (said_why why)
  unfolding head_at
  head-by unknown e h g = simp (lt-ltb at (length s) h, e) (refused-by g)
  head-by (type k) e h g = simp (lt-ltb at (length s) h, e) (refused-by g)
  head-by (node k) {why} e h g = by (leb (node_body k) (length s - (at + 1))) refl g
    where
      by : (t : Bool) → leb (node_body k) (length s - (at + 1)) ≡ t → cond t (Ok (rec.Node (node_as s at k))) (no_record Reason.CutShort at) ≡ Err why → head_at E more s types at n ≡ refused (said_why why)
      by true f g = absurd (no_node_lem g)
      by false f g = cut-here k e h (leb-false _ _ f) ∙ refused-by g

  -- the refusal of a record that is due is the reader's
  pub head_refused : {why : Why} → record_at true s at ≡ Err why → head_at E more s types at n ≡ refused (said_why why)
  head_refused e = elim (dec_lt at (length s)) [
    | yes h ↦ head-by (kind_of (byte s at)) refl h (sym (record_kind true s at _ h refl) ∙ e)
    | no h ↦ past_end (omega arith) ∙ refused-by (sym (record_past true s at (omega arith)) ∙ e)
  ]

  pub term_refused : {why : Why} → record_at true s at ≡ Err why → read_term E more s types at n ≡ refused (said_why why)
  term_refused e = by_head E more s types at n (head_refused e)

  pub opens_refused : {why : Why} → record_at true s at ≡ Err why → refused (said_why why) ≡ opens E more s types at n
  unfolding opens
  opens_refused e = sym (ap (headed at) (head_refused e))

-- ---- a whole record

not_lt : (a b : ℕ) → not (leb b a) ≡ ltb a b
not_lt a b = by (leb b a) refl
  where
    by : (t : Bool) → leb b a ≡ t → not t ≡ ltb a b
    by true e = sym (le-ltb a b (leb-true b a e))
    by false e = sym (lt-ltb a b (leb-false b a e))

typed_by : (s : List ℕ) (at types : ℕ) (k : NodeKind)
    → not (mistyped (node_rule k) (body_at s (at + 1) (node_body k) 0) (body_at s (at + 1) (node_body k) 1) types) ≡ (eqb (node_typed k) 0 || ltb (byte s (at + node_typed k)) types)
typed_by s at types k11 = refl
typed_by s at types k12 = refl
typed_by s at types k13 = let z : at + 1 + 0 ≡ at + 1 = omega arith in rw (body-at s (at + 1) 1 0 (omega arith), z) (not_lt (byte s (at + 1)) types)
typed_by s at types k14 = refl
typed_by s at types k15 = let z : at + 1 + 0 ≡ at + 1 = omega arith in rw (body-at s (at + 1) 1 0 (omega arith), z) (not_lt (byte s (at + 1)) types)
typed_by s at types k16 = refl
typed_by s at types k17 = let z : at + 1 + 0 ≡ at + 1 = omega arith in rw (body-at s (at + 1) 1 0 (omega arith), z) (not_lt (byte s (at + 1)) types)
typed_by s at types k18 = refl
typed_by s at types k19 = let z : at + 1 + 0 ≡ at + 1 = omega arith in rw (body-at s (at + 1) 1 0 (omega arith), z) (not_lt (byte s (at + 1)) types)
typed_by s at types k1A = let z : at + 1 + 1 ≡ at + 2 = omega arith in rw (body-at s (at + 1) 2 1 (omega arith), z) (not_lt (byte s (at + 2)) types)
typed_by s at types k1B = refl

known_by : (E : Edition) (k : NodeKind) → known_rule E (node_rule k) ≡ knows E k
known_by E k11 = refl
known_by E k12 = refl
known_by E k13 = refl
known_by E k14 = refl
known_by E k15 = refl
known_by E k16 = refl
known_by E k17 = refl
known_by E k18 = refl
known_by E k19 = refl
known_by E k1A = refl
known_by E k1B = refl

headed-chain : (z a b c : Bool) (at : ℕ) (k : NodeKind)
    → (need z 4 at >>= λ _. need a 8 at >>= λ _. need b 8 at >>= λ _. need c 5 at >>= λ _. opens_at (at + 1 + node_body k) (node_subs k))
    ≡ headed at (need z 4 at >>= λ _. need a 8 at >>= λ _. need b 8 at >>= λ _. need c 5 at >>= λ _. good k)
headed-chain false a b c at k = refl
headed-chain true false b c at k = refl
headed-chain true true false c at k = refl
headed-chain true true true false at k = refl
headed-chain true true true true at k = refl

limits-here : (E : Edition) (more : ℕ) (s : List ℕ) (types at n : ℕ) (r : Node) (k : NodeKind) → at < length s → kind_of (byte s at) ≡ node k → at + 1 + node_body k ≤ length s → r ≡ node_as s at k
    → limits_of_lem E r at n more types ≡ opens E more s types at n
unfolding opens head_at limits_of_lem
limits-here E more s types at n r k h is whole same =
    rw (lt-ltb at (length s) h, is, le-leb (at + 1 + node_body k) (length s) whole, same, known_by E k, typed_by s at types k)
    (headed-chain (knows E k) (ltb n 2048) (ltb 0 more) (eqb (node_typed k) 0 || ltb (byte s (at + node_typed k)) types) at k)

pub head_limits : (E : Edition) (more : ℕ) (s : List ℕ) (types at n : ℕ) (r : Node) → record_at true s at ≡ Ok (rec.Node r) → limits_of_lem E r at n more types ≡ opens E more s types at n
head_limits E more s types at n r e =
    let l = node-next true s at e in
    let h : at < length s = omega arith in
    let w = node-here s at h r e in limits-here E more s types at n r w.kind h w.kind_is w.whole w.same

-- ---- the limits, by the facts that the tests find one after the other

module _ (E : Edition) (r : Node) (at n more types : ℕ) where
  pub limit_known : known_rule E r.rule ≡ false → refuse 4 at ≡ limits_of_lem E r at n more types
  unfolding limits_of_lem
  limit_known u = simp u

  module _ (u : known_rule E r.rule ≡ true) where
    pub limit-count : 2048 ≤ n → refuse 8 at ≡ limits_of_lem E r at n more types
    unfolding limits_of_lem
    limit-count c = simp (u, le-ltb n 2048 c)

    module _ (c : n < 2048) where
      pub limit-depth : more ≡ 0 → refuse 8 at ≡ limits_of_lem E r at n more types
      unfolding limits_of_lem
      limit-depth d = simp (u, lt-ltb n 2048 c, d)

      module _ (d : ¬ (more ≡ 0)) where
        pub limit-type : mistyped r.rule r.first r.second types ≡ true → refuse 5 at ≡ limits_of_lem E r at n more types
        unfolding limits_of_lem
        limit-type t = simp (u, lt-ltb n 2048 c, lt-ltb 0 more (omega arith), t)

        pub limit-none : mistyped r.rule r.first r.second types ≡ false → opens_at r.next r.subterms ≡ limits_of_lem E r at n more types
        unfolding limits_of_lem
        limit-none t = simp (u, lt-ltb n 2048 c, lt-ltb 0 more (omega arith), t)

-- ---- no type stands inside the term

no_type : (s : List ℕ) (at : ℕ) (h : Option Shape) {f : Form} {next : ℕ} → record_of_lem true h s at ≡ Ok (rec.Type f next) → ⊥
no_type s at (Some (shape.Type n u)) e = let z : ◌≡◌ {A = ℕ} 0 1 = cc in omega arith
no_type s at (Some (shape.Node n m u)) {f} {next} e = by (leb n (length s - (at + 1))) _ e
  where
    by : (t : Bool) (q : Node) → cond t (Ok (rec.Node q)) (no_record Reason.CutShort at) ≡ Ok (rec.Type f next) → ⊥
    by true q e = let z : ◌≡◌ {A = ℕ} 0 1 = cc in omega arith
    by false q e = let z : ◌≡◌ {A = ℕ} 0 1 = cc in omega arith
no_type s at None e = let z : ◌≡◌ {A = ℕ} 0 1 = cc in omega arith

pub no_type-inside : (s : List ℕ) (at : ℕ) {f : Form} {next : ℕ} → record_at true s at ≡ Ok (rec.Type f next) → ⊥
unfolding record_at
no_type-inside s at {f} {next} e = by (leb (length s) at) e
  where
    by : (t : Bool) → cond t (no_record Reason.CutShort at) (record_of_lem true (shape_of (byte s at)) s at) ≡ Ok (rec.Type f next) → ⊥
    by true e = let z : ◌≡◌ {A = ℕ} 0 1 = cc in omega arith
    by false e = no_type s at (shape_of (byte s at)) e
