-- A term that stands in the memory, by the number of its subterms: its bytes are its record and those of its subterms. Assumes nothing.
use Prim.Native.Nat.{ℕ, zero, suc, ◌+◌, ◌*◌, ◌≤◌, ◌<◌}
use mathlib.Core.Path.{◌≡◌, refl, sym, ap, ◌∙◌}
use mathlib.Core.Bool.{Bool, true, false, cond}
use mathlib.Core.List.{List, [], ◌∷◌, ◌++◌, append-nil}
use native.Mathlib.Omega.{arith}
use lib.Dec.{eqb}
use lib.ListN.{length, length-append}
use Rattle.calculus.specs.Terms.{Term}
use Rattle.calculus.specs.Write.{term_bytes}
use Rattle.calculus.specs.Record.{All}
use Rattle.made_nodes.specs.Nodes.{NodeIn, NoSubterm, of_var, of_lvar, of_con, OneSubterm, of_fun, of_lfun, of_fix_lem, TwoSubterms, of_app, of_lapp, of_pair, of_proj, of_name, TermIn, leaf, one, two}
use Rattle.sheet_writer.specs.Bytes.{node_kind_in, node_body_in, node_left_in, node_right_in, node_place_in, body_bytes, subterm_count, record_of_kind, node_record, RecordLow}

-- ---- a kind's record and subterms

leaf_bytes : {kind body left : ℕ} {e : Term} → NoSubterm kind body left e → term_bytes e ≡ record_of_kind kind body left
leaf_bytes of_var = refl
leaf_bytes of_lvar = refl
leaf_bytes of_con = refl

leaf_count : {kind body left : ℕ} {e : Term} → NoSubterm kind body left e → subterm_count kind ≡ 0
leaf_count of_var = refl
leaf_count of_lvar = refl
leaf_count of_con = refl

one_bytes : {kind body : ℕ} {a e : Term} (left : ℕ) → OneSubterm kind body a e → term_bytes e ≡ record_of_kind kind body left ++ term_bytes a
one_bytes left of_fun = refl
one_bytes left of_lfun = refl
one_bytes left of_fix_lem = refl

one_count : {kind body : ℕ} {a e : Term} → OneSubterm kind body a e → subterm_count kind ≡ 1
one_count of_fun = refl
one_count of_lfun = refl
one_count of_fix_lem = refl

two_bytes : {kind body : ℕ} {a b e : Term} (left : ℕ) → TwoSubterms kind body a b e → term_bytes e ≡ record_of_kind kind body left ++ (term_bytes a ++ term_bytes b)
two_bytes left of_app = refl
two_bytes left of_lapp = refl
two_bytes left of_pair = refl
two_bytes left of_proj = refl
two_bytes left of_name = refl

two-count : {kind body : ℕ} {a b e : Term} → TwoSubterms kind body a b e → subterm_count kind ≡ 2
two-count of_app = refl
two-count of_lapp = refl
two-count of_pair = refl
two-count of_proj = refl
two-count of_name = refl

record_is : {w : List ℕ} {k kind body left right place : ℕ} → NodeIn w k kind body left right place → node_record w k ≡ record_of_kind kind body left
record_is n = rw (n.kind_is, n.body_is, n.left_is)

-- ---- the views

pub record LeafView (w : List ℕ) (k : ℕ) (e : Term) (ps : List ℕ) : Type 0 where
  pub bytes : term_bytes e ≡ node_record w k
  pub places : ps ≡ node_place_in w k ∷ []

pub record OneView (w : List ℕ) (k : ℕ) (e : Term) (ps : List ℕ) : Type 0 where
  pub sub : Term
  pub rest : List ℕ
  pub below : node_left_in w k < k
  pub stands : TermIn w (node_left_in w k) sub rest
  pub bytes : term_bytes e ≡ node_record w k ++ term_bytes sub
  pub places : ps ≡ node_place_in w k ∷ rest

pub record TwoView (w : List ℕ) (k : ℕ) (e : Term) (ps : List ℕ) : Type 0 where
  pub first : Term
  pub second : Term
  pub rest : List ℕ
  pub more : List ℕ
  pub below : node_left_in w k < k
  pub below_too : node_right_in w k < k
  pub stands : TermIn w (node_left_in w k) first rest
  pub stands_too : TermIn w (node_right_in w k) second more
  pub bytes : term_bytes e ≡ node_record w k ++ (term_bytes first ++ term_bytes second)
  pub places : ps ≡ node_place_in w k ∷ (rest ++ more)

counts : {w : List ℕ} {k kind body left right place c : ℕ} → NodeIn w k kind body left right place → subterm_count kind ≡ c → subterm_count (node_kind_in w k) ≡ c
counts n e = ap subterm_count n.kind_is ∙ e

pub view_leaf : {w : List ℕ} {k : ℕ} {e : Term} {ps : List ℕ} → TermIn w k e ps → subterm_count (node_kind_in w k) ≡ 0 → LeafView w k e ps
view_leaf (leaf n s) c = record { bytes = leaf_bytes s ∙ sym (record_is n); places = ap (λ (p : ℕ). p ∷ []) (sym n.place_is) }
view_leaf (one n s l t) c = absurd (omega (arith, c, counts n (one_count s)))
view_leaf (two n s l r t u) c = absurd (omega (arith, c, counts n (two-count s)))

pub view_one : {w : List ℕ} {k : ℕ} {e : Term} {ps : List ℕ} → TermIn w k e ps → subterm_count (node_kind_in w k) ≡ 1 → OneView w k e ps
view_one (leaf n s) c = absurd (omega (arith, c, counts n (leaf_count s)))
view_one {w} (one {left = l} {a = a} {ps = ps} n s b t) c = record {
  sub = a;
  rest = ps;
  below = rw n.left_is b;
  stands = rw n.left_is t;
  bytes = one_bytes l s ∙ ap (λ (x : List ℕ). x ++ term_bytes a) (sym (record_is n));
  places = ap (λ (p : ℕ). p ∷ ps) (sym n.place_is);
}
view_one (two n s l r t u) c = absurd (omega (arith, c, counts n (two-count s)))

pub view-two : {w : List ℕ} {k : ℕ} {e : Term} {ps : List ℕ} → TermIn w k e ps → (subterm_count (node_kind_in w k) ≡ 0 → ⊥) → (subterm_count (node_kind_in w k) ≡ 1 → ⊥) → TwoView w k e ps
view-two (leaf n s) c d = absurd (c (counts n (leaf_count s)))
view-two (one n s l t) c d = absurd (d (counts n (one_count s)))
view-two {w} (two {left = l} {a = a} {b = z} {ps = ps} {qs = qs} n s b r t u) c d = record {
  first = a;
  second = z;
  rest = ps;
  more = qs;
  below = rw n.left_is b;
  below_too = rw n.right_is r;
  stands = rw n.left_is t;
  stands_too = rw n.right_is u;
  bytes = two_bytes l s ∙ ap (λ (x : List ℕ). x ++ (term_bytes a ++ term_bytes z)) (sym (record_is n));
  places = ap (λ (p : ℕ). p ∷ (ps ++ qs)) (sym n.place_is);
}

-- ---- the first subterm, where there is one

pub record FirstView (w : List ℕ) (k : ℕ) (e : Term) (ps : List ℕ) : Type 0 where
  pub sub : Term
  pub rest : List ℕ
  pub behind : List ℕ
  pub more : List ℕ
  pub below : node_left_in w k < k
  pub stands : TermIn w (node_left_in w k) sub rest
  pub bytes : term_bytes e ≡ node_record w k ++ (term_bytes sub ++ behind)
  pub places : ps ≡ node_place_in w k ∷ (rest ++ more)

pub view_first : {w : List ℕ} {k : ℕ} {e : Term} {ps : List ℕ} → TermIn w k e ps → (subterm_count (node_kind_in w k) ≡ 0 → ⊥) → FirstView w k e ps
view_first (leaf n s) c = absurd (c (counts n (leaf_count s)))
view_first {w} {k} (one n s b t) c =
    let v = view_one (one n s b t) (counts n (one_count s)) in
    record {
      sub = v.sub;
      rest = v.rest;
      behind = [];
      more = [];
      below = v.below;
      stands = v.stands;
      bytes = v.bytes ∙ ap (λ (x : List ℕ). node_record w k ++ x) (sym (append-nil (term_bytes v.sub)));
      places = v.places ∙ ap (λ (x : List ℕ). node_place_in w k ∷ x) (sym (append-nil v.rest));
    }
view_first {w} {k} (two n s b r t u) c =
    let z : subterm_count (node_kind_in w k) ≡ 2 = counts n (two-count s) in
    let v = view-two (two n s b r t u) c (λ d. omega arith) in
    record { sub = v.first; rest = v.rest; behind = term_bytes v.second; more = v.more; below = v.below; stands = v.stands; bytes = v.bytes; places = v.places }

-- ---- lengths

cond_most : (b : Bool) (x y m : ℕ) → x ≤ m → y ≤ m → cond b x y ≤ m
cond_most true x y m h l = h
cond_most false x y m h l = l

pub body_most : (k : ℕ) → body_bytes k ≤ 2
body_most k =
    cond_most (eqb k 0x1A) 2 _ 2 (omega arith)
    (cond_most (eqb k 0x14) 0 _ 2 (omega arith) (cond_most (eqb k 0x16) 0 _ 2 (omega arith) (cond_most (eqb k 0x18) 0 _ 2 (omega arith) (cond_most (eqb k 0x1B) 0 1 2 (omega arith) (omega arith)))))

by_length : (n a b c : ℕ) → n ≤ 2 → length (cond (eqb n 0) (a ∷ []) (cond (eqb n 1) (a ∷ b ∷ []) (a ∷ b ∷ c ∷ []))) ≡ n + 1
by_length zero a b c h = refl
by_length (suc zero) a b c h = refl
by_length (suc (suc zero)) a b c h = refl
by_length (suc (suc (suc n))) a b c h = absurd (omega arith)

pub record_length : (w : List ℕ) (k : ℕ) → length (node_record w k) ≡ body_bytes (node_kind_in w k) + 1
record_length w k = by_length (body_bytes (node_kind_in w k)) (node_kind_in w k) (node_body_in w k) (node_left_in w k) (body_most (node_kind_in w k))

pub at_most_three : {w : List ℕ} {k : ℕ} {e : Term} {ps : List ℕ} → TermIn w k e ps → length (term_bytes e) ≤ 3 * length ps
at_most_three {w} {k} (leaf {kind = kind} {body = body} {left = l} n s) =
    let m = body_most kind in
    omega (arith, ap length (leaf_bytes s), by_length (body_bytes kind) kind body l m)
at_most_three {w} {k} (one {kind = kind} {body = body} {left = l} {a = a} {ps = ps} n s b t) =
    let m = body_most kind in
    let i = at_most_three t in
    omega (arith, ap length (one_bytes l s), length-append (record_of_kind kind body l) (term_bytes a), by_length (body_bytes kind) kind body l m)
at_most_three {w} {k} (two {kind = kind} {body = body} {left = l} {a = a} {b = z} {ps = ps} {qs = qs} n s b r t u) =
    let m = body_most kind in
    let i = at_most_three t in
    let j = at_most_three u in
    omega (arith, ap length (two_bytes l s), length-append (record_of_kind kind body l) (term_bytes a ++ term_bytes z), length-append (term_bytes a) (term_bytes z), by_length (body_bytes kind) kind body l m, length-append ps qs)

-- ---- bytes

pub all-front : {A : Type 0} (P : A → Type 0) (xs ys : List A) → All P (xs ++ ys) → All P xs
all-front P [] ys h = tt
all-front P (x ∷ xs) ys h = (h.0, all-front P xs ys h.1)

pub all_back : {A : Type 0} (P : A → Type 0) (xs ys : List A) → All P (xs ++ ys) → All P ys
all_back P [] ys h = h
all_back P (x ∷ xs) ys h = all_back P xs ys h.1

by_low : (n a b c : ℕ) → n ≤ 2 → All (λ (x : ℕ). x < 256) (cond (eqb n 0) (a ∷ []) (cond (eqb n 1) (a ∷ b ∷ []) (a ∷ b ∷ c ∷ []))) → (a < 256) × ((0 < n → b < 256) × (1 < n → c < 256))
by_low zero a b c m h = (h.0, ((λ l. absurd (omega arith)), λ l. absurd (omega arith)))
by_low (suc zero) a b c m h = (h.0, ((λ l. h.1.0), λ l. absurd (omega arith)))
by_low (suc (suc zero)) a b c m h = (h.0, ((λ l. h.1.0), λ l. h.1.1.0))
by_low (suc (suc (suc n))) a b c m h = absurd (omega arith)

pub record_low : (w : List ℕ) (k : ℕ) → All (λ (x : ℕ). x < 256) (node_record w k) → RecordLow w k
record_low w k h = let l = by_low (body_bytes (node_kind_in w k)) (node_kind_in w k) (node_body_in w k) (node_left_in w k) (body_most (node_kind_in w k)) h in record { kind = l.0; body = l.1.0; left = l.1.1 }

-- ---- the root, whatever it is

pub record RootView (w : List ℕ) (k : ℕ) (e : Term) (ps : List ℕ) : Type 0 where
  pub behind : List ℕ
  pub more : List ℕ
  pub bytes : term_bytes e ≡ node_record w k ++ behind
  pub places : ps ≡ node_place_in w k ∷ more

pub view-root : {w : List ℕ} {k : ℕ} {e : Term} {ps : List ℕ} → TermIn w k e ps → RootView w k e ps
view-root {w} {k} (leaf n s) = let v = view_leaf (leaf n s) (counts n (leaf_count s)) in record { behind = []; more = []; bytes = v.bytes ∙ sym (append-nil (node_record w k)); places = v.places }
view-root {w} {k} (one n s b t) = let v = view_one (one n s b t) (counts n (one_count s)) in record { behind = term_bytes v.sub; more = v.rest; bytes = v.bytes; places = v.places }
view-root {w} {k} (two n s b r t u) =
    let z : subterm_count (node_kind_in w k) ≡ 2 = counts n (two-count s) in
    let v = view-two (two n s b r t u) (λ d. omega arith) (λ d. omega arith) in
    record { behind = term_bytes v.first ++ term_bytes v.second; more = v.rest ++ v.more; bytes = v.bytes; places = v.places }
