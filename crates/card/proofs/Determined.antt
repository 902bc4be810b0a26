-- The contracts of the functions that others call determine what they answer and the memory that they leave: two results that one allows for a
-- call are equal. Assumes nothing.
use mathlib.Core.Path.{◌≡◌, refl, sym, ap, ◌∙◌}
use Rattle.std.specs.declared.result.Result.{Result as Judged}
use Rattle.std.specs.declared.result.Result.TheVariants.{Ok, Err}
use Rattle.answers.specs.declared.Refusal.{Refusal}
use Rattle.answers.proofs.Reasons.{same_why}
use Rattle.calculus.proofs.Answers.{refused≢good, refused-inj}
use Rattle.laws.proofs.OneResult.{Result, Results}
use Rattle.card.specs.Judged.{said_judged}
use Rattle.card.proofs.chain.is_chain.Kinds as is-chain
use Rattle.card.proofs.chain.is_chain.Reads as is-chain-reads
use Rattle.card.proofs.rings.lowest.Kinds as lowest
use Rattle.card.proofs.rings.lowest.Reads as lowest-reads
use Rattle.card.proofs.judge.Kinds as judge
use Rattle.card.proofs.judge.Reads as judge-reads

pub is_chain_determined : Result is-chain.ps is-chain.r is-chain-reads.Post
is_chain_determined κs a x y s t f g = f ∙ sym g

pub lowest-determined : Result lowest.ps lowest.r lowest-reads.Post
lowest-determined κs a x y s t f g = f ∙ sym g

one_judged : (x y : Judged (Unit {0}) Refusal) → said_judged x ≡ said_judged y → x ≡ y
one_judged (Ok a) (Ok b) e = refl
one_judged (Ok a) (Err q) e = absurd (refused≢good (sym e))
one_judged (Err p) (Ok b) e = absurd (refused≢good e)
one_judged (Err p) (Err q) e = ap {B = Judged (Unit {0}) Refusal} (λ (x : Refusal). Err x) (same_why p q (refused-inj e))

pub judge-determined : Results judge.ps judge.r judge-reads.Post (λ κs s. s.1.1.0.now)
judge-determined κs a x y s t f g = (one_judged x y (f.0 ∙ sym g.0), f.1 ∙ sym g.1)
