-- Text written one piece behind the other. Assumes nothing.
use mathlib.Core.Path.{◌≡◌, ap, ◌∙◌}
use mathlib.Core.List.{List, [], ◌∷◌, ◌++◌}
use Prim.Native.Nat.{ℕ, ◌+◌, ◌<◌}
use native.Mathlib.Omega.{arith}
use native.Mathlib.Numerals.{add-one}
use lib.ListN.{length, get_or, set, take, length-append}
use lib.Seq.{sets, length-sets, take-suc, length-take-le}
use Rattle.lines.specs.Wrote.{WroteText}
use Rattle.laws.proofs.Regions.{sets-append, written-more}

-- one byte behind what stands
pub store_more : (out bs : List ℕ) (from at v : ℕ) → at ≡ from + length bs → set (sets out from bs) at v ≡ sets out from (bs ++ (v ∷ []))
store_more out bs from at v h = rw h (sets-append bs (v ∷ []) out from)

-- one more byte of a word
pub word_more : (out word : List ℕ) (at i : ℕ) → i < length word
    → set (sets out at (take i word)) (at + i) (get_or word i 0) ≡ sets out at (take (i + 1) word)
word_more out word at i h =
    let l = length-take-le i word (omega arith) in
    rw (add-one i, take-suc word i 0 h) (store_more out (take i word) at (at + i) (get_or word i 0) (omega arith))

-- two pieces are one
pub wrote-two : {a b c xs ys : List ℕ} {at mid end : ℕ} → WroteText a at xs b mid → WroteText b mid ys c end → WroteText a at (xs ++ ys) c end
wrote-two {a} {b} {c} {xs} {ys} {at} {mid} {end} p q =
    let l = length-append xs ys in
    let o = p.offset in
    let e = q.offset in
    record { offset = omega arith; bytes = q.bytes ∙ rw p.bytes (written-more a xs ys at mid p.offset) }

pub wrote-length : {a b xs : List ℕ} {at end : ℕ} → WroteText a at xs b end → length b ≡ length a
wrote-length {a} {b} {xs} {at} p = ap length p.bytes ∙ length-sets a at xs
