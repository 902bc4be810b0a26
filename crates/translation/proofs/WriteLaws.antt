-- What is answered for the netlist that is wished, and what the making of the lean one leaves of the working memory. Assumes nothing.
use Prim.Native.Nat.{ℕ}
use mathlib.Core.Path.{◌≡◌, refl, sym, ap₂, subst}
use mathlib.Core.Bool.{Bool}
use mathlib.Core.List.{List}
use native.Mathlib.Omega.{arith}
use lib.ListN.{length}
use Rattle.calculus.specs.Answer.{Answer, good, refused}
use Rattle.calculus.specs.Net.{Net}
use Rattle.calculus.specs.NetRead.{Known}
use Rattle.calculus.specs.Record.{All}
use Rattle.calculus.specs.Lean.{lean}
use Rattle.calculus.specs.Makers.{written}
use Rattle.calculus.specs.Translate.{Wish, asked, asked_makers, asked_bytes}
use Rattle.laws.proofs.Regions.{region_ext}
use Rattle.memory.specs.Map.{makers_at, region, net_in, Ready}
use Rattle.memory.proofs.NetStays.{net-same}
use Rattle.lean.specs.Layout.{Leant}
use Rattle.translator.specs.Made.{Keeps}
use Rattle.translator.proofs.Keeping.{above_keeps}
use Rattle.translator.specs.Said.{in_room, AnswerSays}
use Rattle.std.specs.declared.result.Result.{Result}
use Rattle.std.specs.declared.result.Result.TheVariants.{Err}
use Rattle.answers.specs.declared.Refusal.{Refusal}
use Rattle.answers.specs.Refusals.{said_why}
use Rattle.translation.specs.Wished.{on_pass}

-- the netlist that is wished
pub wished_says : (w : Wish) (lean : Bool) (out after : List ℕ) (r : Result ℕ Refusal) (m : Net) (ks : List ℕ) → w.lean ≡ lean → AnswerSays r out after (in_room (written w.plain (asked lean m) (asked_makers lean m ks)) (length out))
    → AnswerSays r out after (in_room (asked_bytes w m ks) (length out))
wished_says w lean out after r m ks e h = rw e h

-- the full netlist and its makers stay where the lean one is made
module _ (u v : List ℕ) (e k p end : ℕ) (r : Ready u e k p) (l : Leant u e k p v end) where
  made-makers : region v makers_at e ≡ region u makers_at e
  made-makers =
      let z = r.size in
      let f = r.few_elements in
      let s = l.around.size in
      region_ext makers_at e u v (omega arith) (omega arith) (λ j a b. l.around.above j (omega arith))

  made-net : net_in v e k p ≡ net_in u e k p
  made-net = net-same u e k p r v l.around.size l.around.below

  pub made-full : (plain : Bool) → written plain (net_in v e k p) (region v makers_at e) ≡ written plain (net_in u e k p) (region u makers_at e)
  made-full plain = ap₂ (λ (m : Net) (ks : List ℕ). written plain m ks) made-net made-makers

  pub made-known : All Known (net_in u e k p).elements → All Known (net_in v e k p).elements
  made-known a = subst (λ (m : Net). All Known m.elements) (sym made-net) a

  pub made_keeps : Keeps u v
  made_keeps = above_keeps u v r.size l.around.size (λ j h. l.around.above j (omega arith))

-- ---- the card's check

pub check_refused : (a : Answer (Unit {0})) (why : Refusal) (out : List ℕ) (bytes : Answer (List ℕ)) → refused (said_why why) ≡ a
    → AnswerSays (Err why) out out (on_pass a bytes)
check_refused a why out bytes e = rw (← e) (record { said = refl; wrote = refl })

pub check-passed : (a : Answer (Unit {0})) (r : Result ℕ Refusal) (out after : List ℕ) (bytes : Answer (List ℕ)) → good tt ≡ a
    → AnswerSays r out after bytes → AnswerSays r out after (on_pass a bytes)
check-passed a r out after bytes e h = rw (← e) h
