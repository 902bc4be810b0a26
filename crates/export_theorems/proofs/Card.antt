-- For every accepted sheet: the card's check is the profile of its root's type and its lean netlist, it refuses exactly when one of the
-- three rules is broken, and the refusal's place is the lowest. Assumes nothing.
use Prim.Native.Nat.{ℕ}
use mathlib.Core.Path.{◌≡◌, sym, ap, ◌∙◌}
use mathlib.Core.Logic.{◌↔◌}
use mathlib.Core.Bool.{true}
use mathlib.Core.List.{List, []}
use Rattle.calculus.specs.Answer.{Refusal, Answer, good, refused, ◌>>=◌}
use Rattle.calculus.proofs.Answers.{on-bind}
use Rattle.calculus.specs.Types.{Ty, tree}
use Rattle.calculus.specs.Read.{Sheet, read_sheet}
use Rattle.calculus.specs.Walk.{walk}
use Rattle.calculus.specs.Rules.{Typed}
use Rattle.calculus.specs.Net.{Net}
use Rattle.calculus.specs.Lean.{lean}
use Rattle.calculus.specs.Translate.{full}
use Rattle.sheet_theorems.proofs.Sound.{sound}
use Rattle.sheet_theorems.proofs.Laying.{laid}
use Rattle.circuit_theorems.proofs.Main.{formed-lean}
use Rattle.export_calculus.specs.Card.{profile, root_type, on_card}
use Rattle.export_theorems.specs.Broken.{Breaks, Broken}
use Rattle.export_theorems.proofs.CardLaws.{profile-refused, profile-exact}

-- the sheet read, and its root's type
pub record Root (s : List ℕ) : Type 0 where
  pub sheet : Sheet
  pub reads : read_sheet s ≡ good sheet
  pub type : Ty
  pub typed : Typed sheet.edition sheet.table [] sheet.term type
  pub found : root_type s ≡ good type

pub root_of_lem : (s : List ℕ) (m : Net) → full s ≡ good m → Root s
unfolding full root_type
root_of_lem s m e =
    on-bind (read_sheet s) _ m e λ σ h₁ e₁.
    on-bind (walk σ.edition σ.table σ.term 0 []) _ m e₁ λ r h₂ e₂.
    let l = laid s σ h₁ in
    record {
      sheet = σ;
      reads = h₁;
      type = tree σ.table r.type;
      typed = sound σ.edition σ.table l.table σ.term l.ranged r h₂;
      found = rw (h₁, h₂);
    }

module _ (s : List ℕ) (m : Net) (e : full s ≡ good m) where
  pub check-is : on_card true s m ≡ profile (root_of_lem s m e).type (lean m)
  check-is = ap (λ (a : Answer Ty). a >>= λ τ. profile τ (lean m)) (root_of_lem s m e).found

  -- an accepted sheet that the check refuses breaks a rule, and the refusal is that rule's, at the lowest place
  pub card_refused : (why : Refusal) → on_card true s m ≡ refused why → Broken (root_of_lem s m e).type (lean m) why
  card_refused why h = profile-refused (lean m) (formed-lean s m e) (root_of_lem s m e).type why (sym check-is ∙ h)

  -- refused exactly when one of the three rules is broken
  pub card_exact : ((why : Refusal) × (on_card true s m ≡ refused why)) ↔ Breaks (root_of_lem s m e).type (lean m)
  card_exact =
      let x = profile-exact (lean m) (formed-lean s m e) (root_of_lem s m e).type in (
        (λ r. x.0 (r.0, sym check-is ∙ r.1)),
        (λ h. let r = x.1 h in (r.0, check-is ∙ r.1)),
      )
