-- The check by type numbers, as the code has it, is the definition's. Assumes nothing.
use Prim.Native.Nat.{ℕ, ◌<◌}
use mathlib.Core.Path.{◌≡◌, refl, sym, ap, subst, ◌∙◌}
use mathlib.Core.Bool.{Bool, true, false}
use mathlib.Core.List.{List, []}
use native.Mathlib.Omega.{arith}
use lib.ListN.{length}
use Rattle.calculus.specs.Answer.{Answer, good, ◌>>=◌}
use Rattle.calculus.proofs.Answers.{good-inj, on-bind}
use Rattle.calculus.specs.Types.{Ty, tree}
use Rattle.calculus.specs.Read.{Sheet, records_of, read_sheet}
use Rattle.calculus.specs.Walk.{Found, walk}
use Rattle.calculus.specs.Net.{Net}
use Rattle.calculus.specs.Lean.{lean}
use Rattle.sheet_theorems.proofs.Laying.{laid}
use Rattle.sheet_theorems.proofs.WalkKeeps.{walk_in}
use Rattle.export_calculus.specs.Card.{profiled, profile, root_type, on_card}
use Rattle.card.specs.Chains.{chain_in}
use Rattle.card.proofs.ChainLaws.{chain-is}
use Rattle.translator.specs.Made.{root_number}
use Rattle.translation.specs.Wished.{card_by}

root_type_lem : (s : List ℕ) (σ : Sheet) (r : Found) → read_sheet s ≡ good σ → walk σ.edition σ.table σ.term 0 [] ≡ good r → root_type s ≡ good (tree σ.table r.type)
unfolding root_type
root_type_lem s σ r h₁ h₂ = rw (h₁, h₂)

-- a sheet that is read and typed
typed_check : (s : List ℕ) (m : Net) (t : ℕ) (σ : Sheet) (r : Found) → read_sheet s ≡ good σ → walk σ.edition σ.table σ.term 0 [] ≡ good r → r.type ≡ t
    → profiled (chain_in (records_of s) 256 t) (lean m) ≡ on_card true s m
typed_check s m t σ r h₁ h₂ z =
    let l = laid s σ h₁ in
    let n : t < length σ.table = subst (λ (x : ℕ). x < length σ.table) z (walk_in σ.table l.table σ.edition σ.term 0 [] r l.ranged tt h₂) in
    let f = l.table.few in
    ap (λ (b : Bool). profiled b (lean m)) (chain-is (records_of s) σ l 256 t n (omega arith))
    ∙ sym (ap (λ (a : Answer Ty). a >>= λ τ. profile τ (lean m)) (root_type_lem s σ r h₁ h₂ ∙ ap (λ (x : ℕ). good (tree σ.table x)) z))

pub check-same : (card : Bool) (s : List ℕ) (m : Net) (t : ℕ) → root_number s ≡ good t → card_by card (chain_in (records_of s) 256 t) m ≡ on_card card s m
unfolding root_number
check-same false s m t e = refl
check-same true s m t e =
    on-bind (read_sheet s) _ t e λ σ h₁ e₁.
    on-bind (walk σ.edition σ.table σ.term 0 []) _ t e₁ λ r h₂ e₂.
    typed_check s m t σ r h₁ h₂ (good-inj e₂)
