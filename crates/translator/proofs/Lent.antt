-- What a caller of `make` knows: the netlist that stands in the working memory, or the refusal. Assumes nothing.
use mathlib.Core.Path.{◌≡◌, refl, sym, ap, subst, ◌∙◌}
use mathlib.Core.Bool.{Bool, true, false}
use mathlib.Core.List.{List}
use lib.ListN.{length}
use Prim.Native.Nat.{ℕ}
use Rattle.calculus.specs.Answer.{Answer, good, refused, ◌>>=◌, need}
use Rattle.answers.specs.declared.Refusal.{Refusal}
use Rattle.answers.specs.Refusals.{said_why}
use Rattle.calculus.specs.Net.{Net}
use Rattle.calculus.specs.Makers.{makers_of}
use Rattle.memory.specs.Map.{makers_at, region, net_in}
use Rattle.translator.specs.Made.{lent, said_made, Standing, Named, root_number, RootTold, MakeLeaves}
use Rattle.std.specs.declared.result.Result.{Result}
use Rattle.std.specs.declared.result.Result.TheVariants.{Ok, Err}
use Rattle.translator.specs.declared.Made.{Made}

-- a call's answer is that of the netlist, once there is a full one
pub need-first : {B : Type 0} (t : Bool) (a : Answer Net) (f : Net → Answer B) → (need t 1 0 >>= λ _. a >>= f) ≡ ((need t 1 0 >>= λ _. a) >>= f)
need-first true a f = refl
need-first false a f = refl

module _ (plain : Bool) (r : Result Made Refusal) (s work after : List ℕ) (M : MakeLeaves plain r s work after) where
  pub net-stands : (m : Made) → r ≡ Ok m → Standing (Ok m) after
  net-stands m e = subst (λ (x : Result Made Refusal). Standing x after) e M.standing

  pub net-named : (m : Made) → r ≡ Ok m → plain ≡ false → region after makers_at m.counts.elements ≡ makers_of s
  net-named m e = subst (λ (x : Result Made Refusal). Named plain x s after) e M.named

  pub net-lent : (m : Made) → r ≡ Ok m → good (net_in after m.counts.elements m.counts.wires m.counts.pins) ≡ lent (length work) s
  net-lent m e = ap (λ (x : Result Made Refusal). said_made x after) (sym e) ∙ M.said

  pub net-root : (m : Made) → r ≡ Ok m → root_number s ≡ good m.root
  net-root m e = subst (λ (x : Result Made Refusal). RootTold x s) e M.root

  pub refusal-lent : (why : Refusal) → r ≡ Err why → refused (said_why why) ≡ lent (length work) s
  refusal-lent why e = ap (λ (x : Result Made Refusal). said_made x after) (sym e) ∙ M.said
