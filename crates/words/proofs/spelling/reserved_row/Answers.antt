-- `words::reserved_row` meets its contract: of each length the bytes as one number tell the word. Assumes nothing.
use Prim.Native.Nat.{ℕ}
use mathlib.Core.Path.{◌≡◌, refl, ◌∙◌}
use mathlib.Core.Bool.{true}
use mathlib.Core.List.{[], ◌∷◌}
use lib.ListN.{drop}
use native.Mathlib.Omega.{arith}
use Rattle.notation_calculus.specs.Words.{reserved}
use Rattle.words.specs.Keys.{key_from}
use Rattle.words.proofs.KeyLaws.{row_named_lem, misses, off}
use Rattle.words.proofs.ReservedLaws.{word_told, word_missed, none_other}
use Rattle.words.proofs.spelling.reserved_row.Goals as goal

none2 : (k : ℕ) → ¬ (k ≡ 26990) → ¬ (k ≡ 28530) → misses k 2 reserved ≡ true
unfolding misses key_from reserved
none2 k n1 n2 = simp (off k 26990 n1, off k 28530 n2)

none3 : (k : ℕ) → ¬ (k ≡ 6714734) → ¬ (k ≡ 6711672) → ¬ (k ≡ 7103860) → ¬ (k ≡ 7497063) → ¬ (k ≡ 6385252) → ¬ (k ≡ 7892850) → ¬ (k ≡ 6909558) → ¬ (k ≡ 7302757) → misses k 3 reserved ≡ true
unfolding misses key_from reserved
none3 k n1 n2 n3 n4 n5 n6 n7 n8 = simp (off k 6714734 n1, off k 6711672 n2, off k 7103860 n3, off k 7497063 n4, off k 6385252 n5, off k 7892850 n6, off k 6909558 n7, off k 7302757 n8)

none4 : (k : ℕ) → ¬ (k ≡ 1954115685) → ¬ (k ≡ 2053468783) → misses k 4 reserved ≡ true
unfolding misses key_from reserved
none4 k n1 n2 = simp (off k 1954115685 n1, off k 2053468783 n2)

none5 : (k : ℕ) → ¬ (k ≡ 499850046565) → misses k 5 reserved ≡ true
unfolding misses key_from reserved
none5 k n1 = simp (off k 499850046565 n1)

none7 : (k : ℕ) → ¬ (k ≡ 28539376735186798) → misses k 7 reserved ≡ true
unfolding misses key_from reserved
none7 k n1 = simp (off k 28539376735186798 n1)

pub returns-in-26990 : goal.returns-in-26990
unfolding row_named_lem key_from reserved
returns-in-26990 c =
    let k = c.key2 in
    c.as_row.ensures ∙ word_told c.args.text.now c.args.at c.args.long 2 k.result (105 ∷ 110 ∷ []) c.requires c.in-2.is (λ i. omega (arith, c.type_inv.text i)) refl refl k.ensures.0 c.in-26990.is

pub returns-in-28530 : goal.returns-in-28530
unfolding row_named_lem key_from reserved
returns-in-28530 c =
    let k = c.key2 in
    c.as_row-in-28530.ensures ∙ word_told c.args.text.now c.args.at c.args.long 2 k.result (111 ∷ 114 ∷ []) c.requires c.in-2.is (λ i. omega (arith, c.type_inv.text i)) refl refl k.ensures.0 c.in-28530.is

pub returns-in_default-key2 : goal.returns-in_default-key2
returns-in_default-key2 c =
    let k = c.key2 in
    let r = c.in_default-key2.in_default-key2-own.rest in
    c.as_row-in_default-key2.ensures ∙ word_missed c.args.text.now c.args.at c.args.long 2 k.result c.requires c.in-2.is k.ensures.0 (none2 k.result r.0.1 r.1)

pub returns-in-6714734 : goal.returns-in-6714734
unfolding row_named_lem key_from reserved
returns-in-6714734 c =
    let k = c.key3 in
    c.as_row-in-6714734.ensures ∙ word_told c.args.text.now c.args.at c.args.long 3 k.result (102 ∷ 117 ∷ 110 ∷ []) c.requires c.in-3.is (λ i. omega (arith, c.type_inv.text i)) refl refl k.ensures.0 c.in-6714734.is

pub returns-in-6711672 : goal.returns-in-6711672
unfolding row_named_lem key_from reserved
returns-in-6711672 c =
    let k = c.key3 in
    c.as_row-in-6711672.ensures ∙ word_told c.args.text.now c.args.at c.args.long 3 k.result (102 ∷ 105 ∷ 120 ∷ []) c.requires c.in-3.is (λ i. omega (arith, c.type_inv.text i)) refl refl k.ensures.0 c.in-6711672.is

pub returns-in-7103860 : goal.returns-in-7103860
unfolding row_named_lem key_from reserved
returns-in-7103860 c =
    let k = c.key3 in
    c.as_row-in-7103860.ensures ∙ word_told c.args.text.now c.args.at c.args.long 3 k.result (108 ∷ 101 ∷ 116 ∷ []) c.requires c.in-3.is (λ i. omega (arith, c.type_inv.text i)) refl refl k.ensures.0 c.in-7103860.is

pub returns-in-7497063 : goal.returns-in-7497063
unfolding row_named_lem key_from reserved
returns-in-7497063 c =
    let k = c.key3 in
    c.as_row-in-7497063.ensures ∙ word_told c.args.text.now c.args.at c.args.long 3 k.result (114 ∷ 101 ∷ 103 ∷ []) c.requires c.in-3.is (λ i. omega (arith, c.type_inv.text i)) refl refl k.ensures.0 c.in-7497063.is

pub returns-in-6385252 : goal.returns-in-6385252
unfolding row_named_lem key_from reserved
returns-in-6385252 c =
    let k = c.key3 in
    c.as_row-in-6385252.ensures ∙ word_told c.args.text.now c.args.at c.args.long 3 k.result (97 ∷ 110 ∷ 100 ∷ []) c.requires c.in-3.is (λ i. omega (arith, c.type_inv.text i)) refl refl k.ensures.0 c.in-6385252.is

pub returns-in-7892850 : goal.returns-in-7892850
unfolding row_named_lem key_from reserved
returns-in-7892850 c =
    let k = c.key3 in
    c.as_row-in-7892850.ensures ∙ word_told c.args.text.now c.args.at c.args.long 3 k.result (120 ∷ 111 ∷ 114 ∷ []) c.requires c.in-3.is (λ i. omega (arith, c.type_inv.text i)) refl refl k.ensures.0 c.in-7892850.is

pub returns-in-6909558 : goal.returns-in-6909558
unfolding row_named_lem key_from reserved
returns-in-6909558 c =
    let k = c.key3 in
    c.as_row-in-6909558.ensures ∙ word_told c.args.text.now c.args.at c.args.long 3 k.result (105 ∷ 110 ∷ 118 ∷ []) c.requires c.in-3.is (λ i. omega (arith, c.type_inv.text i)) refl refl k.ensures.0 c.in-6909558.is

pub returns-in-7302757 : goal.returns-in-7302757
unfolding row_named_lem key_from reserved
returns-in-7302757 c =
    let k = c.key3 in
    c.as_row-in-7302757.ensures ∙ word_told c.args.text.now c.args.at c.args.long 3 k.result (111 ∷ 110 ∷ 101 ∷ []) c.requires c.in-3.is (λ i. omega (arith, c.type_inv.text i)) refl refl k.ensures.0 c.in-7302757.is

pub returns-in_default-key3 : goal.returns-in_default-key3
returns-in_default-key3 c =
    let k = c.key3 in
    let r = c.in_default-key3.in_default-key3-own.rest in
    c.as_row-in_default-key3.ensures ∙ word_missed c.args.text.now c.args.at c.args.long 3 k.result c.requires c.in-3.is k.ensures.0 (none3 k.result r.0.0.0.0.0.0.0.1 r.0.0.0.0.0.0.1 r.0.0.0.0.0.1 r.0.0.0.0.1 r.0.0.0.1 r.0.0.1 r.0.1 r.1)

pub returns-in-1954115685 : goal.returns-in-1954115685
unfolding row_named_lem key_from reserved
returns-in-1954115685 c =
    let k = c.key4 in
    c.as_row-in-1954115685.ensures ∙ word_told c.args.text.now c.args.at c.args.long 4 k.result (116 ∷ 121 ∷ 112 ∷ 101 ∷ []) c.requires c.in-4.is (λ i. omega (arith, c.type_inv.text i)) refl refl k.ensures.0 c.in-1954115685.is

pub returns-in-2053468783 : goal.returns-in-2053468783
unfolding row_named_lem key_from reserved
returns-in-2053468783 c =
    let k = c.key4 in
    c.as_row-in-2053468783.ensures ∙ word_told c.args.text.now c.args.at c.args.long 4 k.result (122 ∷ 101 ∷ 114 ∷ 111 ∷ []) c.requires c.in-4.is (λ i. omega (arith, c.type_inv.text i)) refl refl k.ensures.0 c.in-2053468783.is

pub returns-in_default-key4 : goal.returns-in_default-key4
returns-in_default-key4 c =
    let k = c.key4 in
    let r = c.in_default-key4.in_default-key4-own.rest in
    c.as_row-in_default-key4.ensures ∙ word_missed c.args.text.now c.args.at c.args.long 4 k.result c.requires c.in-4.is k.ensures.0 (none4 k.result r.0.1 r.1)

pub returns-in-499850046565 : goal.returns-in-499850046565
unfolding row_named_lem key_from reserved
returns-in-499850046565 c =
    let k = c.key5 in
    c.as_row-in-499850046565.ensures ∙ word_told c.args.text.now c.args.at c.args.long 5 k.result (116 ∷ 97 ∷ 98 ∷ 108 ∷ 101 ∷ []) c.requires c.in-5.is (λ i. omega (arith, c.type_inv.text i)) refl refl k.ensures.0 c.in-499850046565.is

pub returns-in_default-key5 : goal.returns-in_default-key5
returns-in_default-key5 c =
    let k = c.key5 in
    let r = c.in_default-key5.in_default-key5-own.rest in
    c.as_row-in_default-key5.ensures ∙ word_missed c.args.text.now c.args.at c.args.long 5 k.result c.requires c.in-5.is k.ensures.0 (none5 k.result r.1)

pub returns-in-28539376735186798 : goal.returns-in-28539376735186798
unfolding row_named_lem key_from reserved
returns-in-28539376735186798 c =
    let k = c.key7 in
    c.as_row-in-28539376735186798.ensures ∙ word_told c.args.text.now c.args.at c.args.long 7 k.result (101 ∷ 100 ∷ 105 ∷ 116 ∷ 105 ∷ 111 ∷ 110 ∷ []) c.requires c.in-7.is (λ i. omega (arith, c.type_inv.text i)) refl refl k.ensures.0 c.in-28539376735186798.is

pub returns-in_default-key7 : goal.returns-in_default-key7
returns-in_default-key7 c =
    let k = c.key7 in
    let r = c.in_default-key7.in_default-key7-own.rest in
    c.as_row-in_default-key7.ensures ∙ word_missed c.args.text.now c.args.at c.args.long 7 k.result c.requires c.in-7.is k.ensures.0 (none7 k.result r.1)

pub returns-in_default : goal.returns-in_default
returns-in_default c =
    let a = c.args in
    let r = c.in_default.in_default-own.rest in
    c.as_row-in_default.ensures ∙ none_other a.long (drop a.at a.text.now) r.0.0.0.0.1 r.0.0.0.1 r.0.0.1 r.0.1 r.1
