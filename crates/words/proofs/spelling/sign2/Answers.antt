-- `words::sign2` meets its contract: the bytes as one number tell the sign. Assumes nothing.
use Prim.Native.Nat.{ℕ}
use mathlib.Core.Path.{◌≡◌, refl, sym, ◌∙◌}
use mathlib.Core.Bool.{true}
use mathlib.Core.List.{[], ◌∷◌}
use native.Mathlib.Omega.{arith}
use Rattle.words.specs.Keys.{key_from}
use Rattle.words.specs.Tables.{two_signs}
use Rattle.words.proofs.KeyLaws.{row_named_lem, misses, key_row, key_none, off}
use Rattle.words.proofs.spelling.sign2.Goals as goal

none : (k : ℕ) → ¬ (k ≡ 11582) → ¬ (k ≡ 11631) → ¬ (k ≡ 52923) → ¬ (k ≡ 50071) → misses k 2 two_signs ≡ true
unfolding misses key_from two_signs
none k n1 n2 n3 n4 = simp (off k 11582 n1, off k 11631 n2, off k 52923 n3, off k 50071 n4)

pub returns-in-11582 : goal.returns-in-11582
unfolding row_named_lem key_from two_signs
returns-in-11582 c =
    let k = c.key2 in
    c.as_row.ensures ∙ sym (key_row c.args.text.now c.args.at 2 two_signs c.requires k.result (45 ∷ 62 ∷ []) (λ i. omega (arith, c.type_inv.text i)) refl refl k.ensures.0 c.in-11582.is)

pub returns-in-11631 : goal.returns-in-11631
unfolding row_named_lem key_from two_signs
returns-in-11631 c =
    let k = c.key2 in
    c.as_row-in-11631.ensures ∙ sym (key_row c.args.text.now c.args.at 2 two_signs c.requires k.result (45 ∷ 111 ∷ []) (λ i. omega (arith, c.type_inv.text i)) refl refl k.ensures.0 c.in-11631.is)

pub returns-in-52923 : goal.returns-in-52923
unfolding row_named_lem key_from two_signs
returns-in-52923 c =
    let k = c.key2 in
    c.as_row-in-52923.ensures ∙ sym (key_row c.args.text.now c.args.at 2 two_signs c.requires k.result (206 ∷ 187 ∷ []) (λ i. omega (arith, c.type_inv.text i)) refl refl k.ensures.0 c.in-52923.is)

pub returns-in-50071 : goal.returns-in-50071
unfolding row_named_lem key_from two_signs
returns-in-50071 c =
    let k = c.key2 in
    c.as_row-in-50071.ensures ∙ sym (key_row c.args.text.now c.args.at 2 two_signs c.requires k.result (195 ∷ 151 ∷ []) (λ i. omega (arith, c.type_inv.text i)) refl refl k.ensures.0 c.in-50071.is)

pub returns-in_default : goal.returns-in_default
returns-in_default c =
    let k = c.key2 in
    let r = c.in_default.in_default-own.rest in
    c.as_row-in_default.ensures ∙ sym (key_none c.args.text.now c.args.at 2 two_signs c.requires k.result k.ensures.0 (none k.result r.0.0.0.1 r.0.0.1 r.0.1 r.1))
