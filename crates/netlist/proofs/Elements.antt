-- Laws of elements that their kinds tell: one more element, and the terminals that they take. Assumes nothing.
use mathlib.Core.Path.{◌≡◌, refl, ap, sym, ◌∙◌}
use mathlib.Core.Bool.{Bool, true, false, cond}
use mathlib.Core.List.{List, [], ◌∷◌, ◌++◌, append_assoc}
use Prim.Native.Nat.{ℕ, zero, suc, ◌+◌, ◌*◌, ◌≤◌, ◌<◌}
use native.Mathlib.Omega.{arith}
use native.Mathlib.Numerals.{add-one}
use lib.Dec.{eqb}
use lib.ListN.{length, get_or, take, drop, length-append}
use lib.Seq.{take-suc, take-add, length-take-le}
use Rattle.calculus.specs.Terms.{part_at}
use Rattle.calculus.specs.Net.{Element, point, part, element, item_bytes, element_bytes}
use Rattle.calculus.specs.Makers.{node_bytes, element_node_bytes}
use Rattle.circuit_theorems.specs.Formed.{Tiled}
use Rattle.calculus.specs.Record.{All}
use Rattle.laws.proofs.Tests.{by_eqb}
use Rattle.memory.specs.Map.{elements_from}
use Rattle.calculus.specs.NetRead.{Known}
use Rattle.netlist.specs.Elements.{after, after_all, element_size, node_size, element_record, element_records}
use Rattle.netlist.proofs.Records.{elements_append}

-- the element of kind k at n, and what comes behind it
kind-first : (k : ℕ) (ks : List ℕ) (n : ℕ) → elements_from (k ∷ ks) n ≡ elements_from (k ∷ []) n ++ elements_from ks (after k n)
kind-first k ks n = by (eqb k 7)
  where
    by : (b : Bool)
        → cond b (point n ∷ elements_from ks (n + 2)) (part k n ∷ elements_from ks (n + (part_at k).inputs + 1))
        ≡ cond b (point n ∷ []) (part k n ∷ []) ++ elements_from ks (cond b (n + 2) (n + (part_at k).inputs + 1))
    by true = refl
    by false = refl

pub kinds-append : (xs ys : List ℕ) (n : ℕ) → elements_from (xs ++ ys) n ≡ elements_from xs n ++ elements_from ys (after_all xs n)
kinds-append [] ys n = refl
kinds-append (k ∷ xs) ys n =
    kind-first k (xs ++ ys) n ∙ ap (λ (x : List Element). elements_from (k ∷ []) n ++ x) (kinds-append xs ys (after k n))
    ∙ sym (append_assoc (elements_from (k ∷ []) n) (elements_from xs (after k n)) (elements_from ys (after_all xs (after k n))))
    ∙ ap (λ (x : List Element). x ++ elements_from ys (after_all xs (after k n))) (sym (kind-first k xs n))

pub after-append : (xs ys : List ℕ) (n : ℕ) → after_all (xs ++ ys) n ≡ after_all ys (after_all xs n)
after-append [] ys n = refl
after-append (k ∷ xs) ys n = after-append xs ys (after k n)

pub after_more : (k n : ℕ) → n ≤ after k n
after_more k n = by (eqb k 7)
  where
    by : (b : Bool) → n ≤ cond b (n + 2) (n + (part_at k).inputs + 1)
    by true = omega arith
    by false = omega arith

pub after-rises : (xs : List ℕ) (n : ℕ) → n ≤ after_all xs n
after-rises [] n = omega arith
after-rises (k ∷ xs) n = omega (arith, after_more k n, after-rises xs (after k n))

-- the bytes of one record
pub kind-size : (k n : ℕ) → length (element_bytes (elements_from (k ∷ []) n)) ≡ element_size k
kind-size k n = by (eqb k 7)
  where
    by : (b : Bool) → length (element_bytes (cond b (point n ∷ []) (part k n ∷ []))) ≡ cond b 3 4
    by true = refl
    by false = refl

pub size_small : (k : ℕ) → element_size k ≤ 4
size_small k = by (eqb k 7)
  where
    by : (b : Bool) → cond b 3 4 ≤ 4
    by true = omega arith
    by false = omega arith

-- elements from terminal n on take those up to the next free one
pub kinds-tiled : (ks : List ℕ) (n : ℕ) → Tiled (elements_from ks n) n (after_all ks n)
kinds-tiled [] n = refl
kinds-tiled (k ∷ ks) n = by (eqb k 7) (kinds-tiled ks)
  where
    by : (b : Bool) → ((m : ℕ) → Tiled (elements_from ks m) m (after_all ks m))
        → Tiled (cond b (point n ∷ elements_from ks (n + 2)) (part k n ∷ elements_from ks (n + (part_at k).inputs + 1))) n (after_all ks (cond b (n + 2) (n + (part_at k).inputs + 1)))
    by true next = (refl, next (n + 2))
    by false next = (refl, next (n + (part_at k).inputs + 1))

-- kinds of known elements: a part's number, or 7
pub kinds-known : (ks : List ℕ) (n i : ℕ) → All Known (elements_from ks n) → i < length ks → get_or ks i 0 < 8
kinds-known [] n i a h = absurd (omega arith)
kinds-known (k ∷ ks) n zero a h =
    by_eqb (λ b. All Known (cond b (point n ∷ elements_from ks (n + 2)) (part k n ∷ elements_from ks (n + (part_at k).inputs + 1))) → k < 8) k 7
    (λ e a. omega arith) (λ d a. omega (arith, a.0)) a
kinds-known (k ∷ ks) n (suc i) a h =
    by_eqb (λ b. All Known (cond b (point n ∷ elements_from ks (n + 2)) (part k n ∷ elements_from ks (n + (part_at k).inputs + 1))) → get_or ks i 0 < 8) k 7
    (λ e a. kinds-known ks (n + 2) i a.1 (omega arith)) (λ d a. kinds-known ks (n + (part_at k).inputs + 1) i a.1 (omega arith)) a

-- ---- the first i of them

-- the bytes of the first i
abbrev pub first_bytes : List ℕ → ℕ → List ℕ
first_bytes ks i = element_bytes (elements_from (take i ks) 0)

-- the next free terminal behind the first i
abbrev pub first_after : List ℕ → ℕ → ℕ
first_after ks i = after_all (take i ks) 0

module _ (ks : List ℕ) (i : ℕ) where
  -- one more
  pub bytes-more : i < length ks → first_bytes ks (i + 1) ≡ first_bytes ks i ++ element_bytes (elements_from (get_or ks i 0 ∷ []) (first_after ks i))
  bytes-more h =
      rw (add-one i, take-suc ks i 0 h, kinds-append (take i ks) (get_or ks i 0 ∷ []) 0, elements_append (elements_from (take i ks) 0) (elements_from (get_or ks i 0 ∷ []) (first_after ks i)))

  pub length_more : i < length ks → length (first_bytes ks (i + 1)) ≡ length (first_bytes ks i) + element_size (get_or ks i 0)
  length_more h =
      ap length (bytes-more h) ∙ length-append (first_bytes ks i) (element_bytes (elements_from (get_or ks i 0 ∷ []) (first_after ks i)))
      ∙ ap (λ (x : ℕ). length (first_bytes ks i) + x) (kind-size (get_or ks i 0) (first_after ks i))

  pub after_one : i < length ks → first_after ks (i + 1) ≡ after (get_or ks i 0) (first_after ks i)
  after_one h = rw (add-one i, take-suc ks i 0 h, after-append (take i ks) (get_or ks i 0 ∷ []) 0)

  -- never more than all
  pub bytes-within : (d : ℕ) → length (first_bytes ks i) ≤ length (first_bytes ks (i + d))
  bytes-within d =
      let rest = elements_from (take d (drop i ks)) (first_after ks i) in
      rw (take-add i d ks, kinds-append (take i ks) (take d (drop i ks)) 0, elements_append (elements_from (take i ks) 0) rest, length-append (first_bytes ks i) (element_bytes rest))
      (omega arith)

  pub after-within : (d : ℕ) → first_after ks i ≤ first_after ks (i + d)
  after-within d = rw (take-add i d ks, after-append (take i ks) (take d (drop i ks)) 0) (after-rises (take d (drop i ks)) (first_after ks i))

-- ---- their records, plain or with nodes

-- all of them
pub records_are : (plain : Bool) (xs : List Element) (ks : List ℕ) → element_records plain xs ks ≡ cond plain (element_bytes xs) (element_node_bytes xs ks)
records_are true [] ks = refl
records_are true (x ∷ xs) ks = ap (λ (l : List ℕ). item_bytes (element x) ++ l) (records_are true xs (drop 1 ks))
records_are false [] ks = refl
records_are false (x ∷ xs) ks = ap (λ (l : List ℕ). node_bytes x (get_or ks 0 0) ++ l) (records_are false xs (drop 1 ks))

pub records-length : (plain : Bool) (xs : List Element) (ks : List ℕ) → length (element_records plain xs ks) ≡ length (element_bytes xs) + node_size plain (length xs)
records-length true [] ks = refl
records-length true (point i ∷ xs) ks = omega (arith, records-length true xs (drop 1 ks))
records-length true (part p i ∷ xs) ks = omega (arith, records-length true xs (drop 1 ks))
records-length false [] ks = refl
records-length false (point i ∷ xs) ks = omega (arith, records-length false xs (drop 1 ks))
records-length false (part p i ∷ xs) ks = omega (arith, records-length false xs (drop 1 ks))

pub records-append : (plain : Bool) (xs ys : List Element) (js ks : List ℕ) → length js ≡ length xs → element_records plain (xs ++ ys) (js ++ ks) ≡ element_records plain xs js ++ element_records plain ys ks
records-append plain [] ys [] ks h = refl
records-append plain [] ys (j ∷ js) ks h = absurd (omega arith)
records-append plain (x ∷ xs) ys [] ks h = absurd (omega arith)
records-append plain (x ∷ xs) ys (j ∷ js) ks h =
    ap (λ (l : List ℕ). element_record plain x j ++ l) (records-append plain xs ys js ks (omega arith))
    ∙ sym (append_assoc (element_record plain x j) (element_records plain xs js) (element_records plain ys ks))

pub kinds-length : (ks : List ℕ) (n : ℕ) → length (elements_from ks n) ≡ length ks
kinds-length [] n = refl
kinds-length (k ∷ ks) n = by (eqb k 7) (kinds-length ks)
  where
    by : (b : Bool) → ((m : ℕ) → length (elements_from ks m) ≡ length ks)
        → length (cond b (point n ∷ elements_from ks (n + 2)) (part k n ∷ elements_from ks (n + (part_at k).inputs + 1))) ≡ suc (length ks)
    by true next = ap suc (next (n + 2))
    by false next = ap suc (next (n + (part_at k).inputs + 1))

-- the bytes of node numbers
pub node-more : (plain : Bool) (i : ℕ) → node_size plain (i + 1) ≡ node_size plain i + node_size plain 1
node-more true i = refl
node-more false i = omega arith

pub node-within : (plain : Bool) (i n : ℕ) → i ≤ n → node_size plain i ≤ node_size plain n
node-within true i n h = omega arith
node-within false i n h = omega arith

pub node_small : (plain : Bool) (n : ℕ) → node_size plain n ≤ 2 * n
node_small true n = omega arith
node_small false n = omega arith

-- the records of the first i
abbrev pub first_records : Bool → List ℕ → List ℕ → ℕ → List ℕ
first_records plain ks js i = element_records plain (elements_from (take i ks) 0) (take i js)

module _ (plain : Bool) (ks js : List ℕ) (i : ℕ) where
  pub records-first : i ≤ length ks → length (first_records plain ks js i) ≡ length (first_bytes ks i) + node_size plain i
  records-first h =
      records-length plain (elements_from (take i ks) 0) (take i js)
      ∙ ap (λ (x : ℕ). length (first_bytes ks i) + node_size plain x) (kinds-length (take i ks) 0 ∙ length-take-le i ks h)

  -- one more
  pub records-more : i < length ks → i < length js
      → first_records plain ks js (i + 1) ≡ first_records plain ks js i ++ element_records plain (elements_from (get_or ks i 0 ∷ []) (first_after ks i)) (get_or js i 0 ∷ [])
  records-more h g =
      let l : length (take i js) ≡ length (elements_from (take i ks) 0) =
      length-take-le i js (omega arith) ∙ sym (kinds-length (take i ks) 0 ∙ length-take-le i ks (omega arith)) in
      rw (add-one i, take-suc ks i 0 h, take-suc js i 0 g, kinds-append (take i ks) (get_or ks i 0 ∷ []) 0)
      (records-append plain (elements_from (take i ks) 0) (elements_from (get_or ks i 0 ∷ []) (first_after ks i)) (take i js) (get_or js i 0 ∷ []) l)
