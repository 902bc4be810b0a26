-- `words::sign3` meets its contract: the bytes as one number tell the sign. Assumes nothing.
use Prim.Native.Nat.{ℕ}
use mathlib.Core.Path.{◌≡◌, refl, sym, ◌∙◌}
use mathlib.Core.Bool.{true}
use mathlib.Core.List.{[], ◌∷◌}
use native.Mathlib.Omega.{arith}
use Rattle.words.specs.Keys.{key_from}
use Rattle.words.specs.Tables.{three_signs}
use Rattle.words.proofs.KeyLaws.{row_named_lem, misses, key_row, key_none, off}
use Rattle.words.proofs.spelling.sign3.Goals as goal

none : (k : ℕ) → ¬ (k ≡ 14845586) → ¬ (k ≡ 14846648) → misses k 3 three_signs ≡ true
unfolding misses key_from three_signs
none k n1 n2 = simp (off k 14845586 n1, off k 14846648 n2)

pub returns-in-14845586 : goal.returns-in-14845586
unfolding row_named_lem key_from three_signs
returns-in-14845586 c =
    let k = c.key3 in
    c.as_row.ensures ∙ sym (key_row c.args.text.now c.args.at 3 three_signs c.requires k.result (226 ∷ 134 ∷ 146 ∷ []) (λ i. omega (arith, c.type_inv.text i)) refl refl k.ensures.0 c.in-14845586.is)

pub returns-in-14846648 : goal.returns-in-14846648
unfolding row_named_lem key_from three_signs
returns-in-14846648 c =
    let k = c.key3 in
    c.as_row-in-14846648.ensures ∙ sym (key_row c.args.text.now c.args.at 3 three_signs c.requires k.result (226 ∷ 138 ∷ 184 ∷ []) (λ i. omega (arith, c.type_inv.text i)) refl refl k.ensures.0 c.in-14846648.is)

pub returns-in_default : goal.returns-in_default
returns-in_default c =
    let k = c.key3 in
    let r = c.in_default.in_default-own.rest in
    c.as_row-in_default.ensures ∙ sym (key_none c.args.text.now c.args.at 3 three_signs c.requires k.result k.ensures.0 (none k.result r.0.1 r.1))
