-- The contracts of the public functions determine what they answer: two results that one allows for a call are equal. Of the working
-- memory, `make` determines the netlist and what the clearing leaves. Assumes nothing.
use Prim.Native.Nat.{ℕ, ◌≤◌}
use mathlib.Core.Path.{◌≡◌, refl, sym, ap, ap₂, ◌∙◌}
use mathlib.Core.Bool.{Bool}
use mathlib.Core.List.{List}
use lib.ListN.{length, drop}
use contract.Lifetimes.{Lfts}
use denote.Triple.Clauses.{AtExit}
use borrow.Fn.Kinds.{Dens, res_t, ended_of}
use Rattle.calculus.specs.Translate.{work_of}
use Rattle.calculus.proofs.Answers.{refused≢good, good-inj, refused-inj}
use Rattle.memory.specs.Map.{net_in}
use Rattle.memory.proofs.Zeroed.{zeroed-later}
use Rattle.wiring.specs.Whole.{NetStands}
use Rattle.wiring.proofs.Determined.{one_netlist}
use Rattle.translator.specs.Made.{MakeLeaves}
use Rattle.std.specs.declared.result.Result.{Result}
use Rattle.std.specs.declared.result.Result.TheVariants.{Ok, Err}
use Rattle.wiring.specs.declared.Counts.{Counts}
use Rattle.answers.specs.declared.Refusal.{Refusal as Why}
use Rattle.answers.proofs.Reasons.{same_why}
use Rattle.translator.specs.declared.Made.{Made}
use Rattle.translator.proofs.Keeping.{work_large}
use Rattle.translator.proofs.make.Kinds as make
use Rattle.translator.proofs.make.Reads as make-reads

-- two memories that are cleared to the same are the same from number 32,768 on
same-later : (u v : List ℕ) → 32768 ≤ length u → 32768 ≤ length v → work_of u ≡ work_of v → drop 32768 v ≡ drop 32768 u
same-later u v h k e = sym (zeroed-later 32768 v) ∙ ap (drop 32768) (sym (work_large v k) ∙ sym e ∙ work_large u h) ∙ zeroed-later 32768 u

net_made : Counts → ℕ → Result Made Why
net_made c t = Ok (record { counts = c; root = t })

one_made : (plain : Bool) (s w u v : List ℕ) (x y : Result Made Why) → MakeLeaves plain x s w u → MakeLeaves plain y s w v → x ≡ y
unfolding net_made
one_made plain s w u v (Ok p) (Ok q) f g =
    let c = p.counts in
    let d = q.counts in
    let n : net_in v d.elements d.wires d.pins ≡ net_in u c.elements c.wires c.pins = good-inj (g.said ∙ sym f.said) in
    let a : NetStands (net_in u c.elements c.wires c.pins) c u u = record { net = refl; ready = f.standing.0; known = f.standing.1; later = refl } in
    let b : NetStands (net_in u c.elements c.wires c.pins) d u v =
    record { net = n; ready = g.standing.0; known = g.standing.1; later = same-later u v f.standing.0.size g.standing.0.size (f.keeps ∙ sym g.keeps) } in
    ap₂ net_made (one_netlist a b).0 (good-inj (sym f.root ∙ g.root))
one_made plain s w u v (Ok p) (Err why) f g = absurd (refused≢good (g.said ∙ sym f.said))
one_made plain s w u v (Err why) (Ok q) f g = absurd (refused≢good (f.said ∙ sym g.said))
one_made plain s w u v (Err why) (Err that) f g = ap {B = Result Made Why} (λ (x : Why). Err x) (same_why why that (refused-inj (f.said ∙ sym g.said)))

pub make-determined : (κs : Lfts 2) (a : Dens κs make.ps) (x y : (res_t make.r κs).Denot) (s t : AtExit (ended_of 2 make.ps make.r) κs)
    → make-reads.Post κs a x s → make-reads.Post κs a y t → x ≡ y
make-determined κs a x y s t f g = one_made _ _ _ _ _ x y f g
