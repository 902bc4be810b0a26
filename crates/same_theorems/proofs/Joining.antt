-- What two closed terms of one type make as one: both stand in it, their inputs are its inputs, and its output is 0 exactly where theirs are
-- the same. Assumes nothing.
use Prim.Native.Nat.{ℕ, zero, suc, ◌+◌, ◌<◌, ◌≤◌}
use mathlib.Core.Path.{◌≡◌, refl, sym, ap, ap₂, ◌∙◌, subst}
use mathlib.Core.Logic.{◌↔◌}
use mathlib.Core.Bool.{Bool, true, false, cond, xor}
use mathlib.Core.List.{List, [], ◌∷◌, ◌++◌, map, map-append, append-nil}
use native.Mathlib.Omega.{arith}
use lib.Dec.{T, eqb}
use lib.ListN.{length, take, drop}
use Rattle.laws.proofs.Parts.{map-take, map-drop}
use Rattle.laws.proofs.Tests.{and_both}
use Rattle.calculus.specs.Types.{Ty, bit, prod, arrow, lolli, size, sharable, Table}
use Rattle.calculus.specs.Terms.{Edition, Term, var, app}
use Rattle.calculus.specs.Net.{inp, out, number, Interface, turns, Element, point, part, Bound, Made, left_of, first_half, second_half, whole_of, made_proj, make, net_of}
use Rattle.calculus.specs.Record.{Stream, Bits, All, Among, here, there, Works, Joined, part_law}
use Rattle.sheet_theorems.specs.Laid.{TableOk, Ranged}
use Rattle.circuit_theorems.specs.Scope.{dirs}
use Rattle.circuit_theorems.proofs.Lists.{all_map, all_append, all_take, all_drop}
use Rattle.circuit_theorems.proofs.Outputs.{next_le}
use Rattle.linear_theorems.proofs.Meaning.{cut_stream, lines}
use Rattle.linear_theorems.proofs.Lines.{cut_at, lines-length, lines_cut}
use Rattle.linear_theorems.proofs.Below.{LowSide, LowEnv, env_up, Lows, lows, Agree, lines_keep, seat, seat-below, seat-at}
use Rattle.trace_calculus.specs.Trace.{registers, bit_byte_lem}
use Rattle.never_theorems.specs.Against.{read_at, MovesWhole, moved_by_lem}
use Rattle.never_theorems.proofs.Against.{inside_possible}
use Rattle.same_theorems.specs.Joint.{takes_bits, taken_types, shown_type, arrows_to, renumbered, applied_to, differing, joint_term}
use Rattle.same_theorems.proofs.Moved.{Scoped, further_by, moved_end, moved_wire, moved_made, closed_moved}
use Rattle.same_theorems.proofs.Gates.{side_row, Running, proj_runs, registers-append, gated, xor_gate, gate-made, gate_ranged, gate-runs, gated_side, gated-registers, bits_compared, one_out, Compared, halves_compared}
use Rattle.same_theorems.proofs.Playing.{plays_further, put_gate, put-below, put_first, put_second, put-third, xor_plays, PlayedOver, parted-low, halves_play, lay_in, in_sides_low, out_sides_low, binders_low, laid-sides}
use Rattle.same_theorems.proofs.Pins.{as_many_inputs}
use Rattle.same_theorems.proofs.Applying.{in_sides, out_sides, binders_of, body_from, made_funs, funs_made, funs_side, funs_registers, funs_run, funs_play, inputs_of, behind_inputs, BoundIn, AppliedAs, applied_so, bound_in_lem, bound_under}

-- ---- what stands d further, read there

row-further : (β : Bits) (d t : ℕ) (s : Interface) → side_row (read_at β (further_by d)) t s ≡ side_row β t (map (moved_end d) s)
row-further β d t [] = refl
row-further β d t (inp i ∷ s) = ap (λ (r : List ℕ). bit_byte_lem (β (i + d) t) ∷ r) (row-further β d t s)
row-further β d t (out o ∷ s) = ap (λ (r : List ℕ). bit_byte_lem (β (o + d) t) ∷ r) (row-further β d t s)

inputs-further : (θs : List Ty) (d : ℕ) (s : Interface) → inputs_of θs (map (moved_end d) s) ≡ map (moved_end d) (inputs_of θs s)
inputs-further [] d s = refl
inputs-further (θ ∷ θs) d s =
    ap₂ ◌++◌ (sym (map-take (moved_end d) (size θ) s)) (ap (inputs_of θs) (sym (map-drop (moved_end d) (size θ) s)) ∙ inputs-further θs d (drop (size θ) s))
    ∙ sym (map-append (moved_end d) (take (size θ) s) (inputs_of θs (drop (size θ) s)))

behind-further : (θs : List Ty) (d : ℕ) (s : Interface) → behind_inputs θs (map (moved_end d) s) ≡ map (moved_end d) (behind_inputs θs s)
behind-further [] d s = refl
behind-further (θ ∷ θs) d s = ap (behind_inputs θs) (sym (map-drop (moved_end d) (size θ) s)) ∙ behind-further θs d (drop (size θ) s)

registers-further : (d : ℕ) (es : List Element) → registers (map (moved_by_lem (further_by d)) es) ≡ map (further_by d) (registers es)
registers-further d [] = refl
registers-further d (point i ∷ es) = registers-further d es
registers-further d (part p i ∷ es) = by (eqb p 1) (registers-further d es)
  where
    by : (b : Bool) → registers (map (moved_by_lem (further_by d)) es) ≡ map (further_by d) (registers es)
        → cond b ((i + d) ∷ registers (map (moved_by_lem (further_by d)) es)) (registers (map (moved_by_lem (further_by d)) es)) ≡ map (further_by d) (cond b (i ∷ registers es) (registers es))
    by true e = ap (λ (r : List ℕ). (i + d) ∷ r) e
    by false e = e

moves_whole : (d : ℕ) (e : Element) → MovesWhole (further_by d) e
moves_whole d (point i) = omega arith
moves_whole d (part p i) = λ j l. omega arith

each_moved : {A B : Type 0} (f : A → B) (xs : List A) → All (λ x. Among (f x) (map f xs)) xs
each_moved f [] = tt
each_moved f (x ∷ xs) = (here, all_map (λ y. Among (f y) (map f xs)) (λ y. Among (f y) (map f (x ∷ xs))) (λ y h. there h) xs (each_moved f xs))

runs-further : (n d : ℕ) (β : Bits) (m : Made) → Running n β (moved_made d m) → Running n (read_at β (further_by d)) m
runs-further n d β m r =
    inside_possible (further_by d) (net_of m) (net_of (moved_made d m)) (record {
      elements = all_map (λ e. Among (moved_by_lem (further_by d) e) (map (moved_by_lem (further_by d)) m.elements)) (λ e. MovesWhole (further_by d) e × Among (moved_by_lem (further_by d) e) (map (moved_by_lem (further_by d)) m.elements))
          (λ e h. (moves_whole d e, h)) m.elements (each_moved (moved_by_lem (further_by d)) m.elements);
      wires = each_moved (moved_wire d) m.wires;
    }) n β r

-- from what is seen in n ticks, what is seen at a tick
lines-row : (n : ℕ) (β : Bits) (t : ℕ) → t < n → (s : Interface) → map (λ (w : Stream). bit_byte_lem (w t)) (lines n β s) ≡ side_row β t s
lines-row n β t l [] = refl
lines-row n β t l (x ∷ s) = ap₂ (λ (b : Bool) (r : List ℕ). bit_byte_lem b ∷ r) (cut_at n (β (number x)) t l) (lines-row n β t l s)

seen_row : (n : ℕ) (β : Bits) (t : ℕ) → t < n → (s s' : Interface) → lines n β s ≡ lines n β s' → side_row β t s ≡ side_row β t s'
seen_row n β t l s s' e = sym (lines-row n β t l s) ∙ ap (map (λ (w : Stream). bit_byte_lem (w t))) e ∙ lines-row n β t l s'

-- ---- the body

-- m compares x and y, which both stand in it
pub record ComparesBoth (x y m : Made) : Type 0 where
  pub output : ℕ
  pub side : m.side ≡ out output ∷ []
  pub registers_are : registers m.elements ≡ registers x.elements ++ registers y.elements
  pub first_runs : (n : ℕ) (β : Bits) → Running n β m → Running n β x
  pub second_runs : (n : ℕ) (β : Bits) → Running n β m → Running n β y
  pub off : (n : ℕ) (β : Bits) → Running n β m → (t : ℕ) → t < n → (β output t ≡ false) ↔ (side_row β t x.side ≡ side_row β t y.side)

bits_both : (E : Edition) (i : ℕ) (x y : Made) → dirs x.side ≡ turns false bit → dirs y.side ≡ turns false bit → ComparesBoth x y (gated E 4 i x y)
bits_both E i x y dx dy =
    let (u, eu) = one_out x.side dx in
    let (v, ev) = one_out y.side dy in
    record {
      output = i + 1 + 1;
      side = gated_side E 4 i x y;
      registers_are = gated-registers E 4 i x y refl;
      first_runs = λ n β r. (gate-runs E 4 i x y u v n β eu ev r).of_first;
      second_runs = λ n β r. (gate-runs E 4 i x y u v n β eu ev r).of_second;
      off = bits_compared i u v x.side y.side E x y eu ev refl refl;
    }

pairs_both : (x y g : Made) → Compared g x.side y.side → ComparesBoth x y (made_proj x (made_proj y g))
pairs_both x y g c = record {
  output = c.output;
  side = c.side;
  registers_are =
      registers-append x.elements (y.elements ++ g.elements)
      ∙ ap (λ (r : List ℕ). registers x.elements ++ r) (registers-append y.elements g.elements ∙ ap (λ (r : List ℕ). registers y.elements ++ r) c.no_registers ∙ append-nil (registers y.elements));
  first_runs = λ n β r. (proj_runs n β x (made_proj y g) r).0;
  second_runs = λ n β r. (proj_runs n β y g (proj_runs n β x (made_proj y g) r).1).0;
  off = λ n β r. c.off n β (proj_runs n β y g (proj_runs n β x (made_proj y g) r).1).1;
}

-- ---- two terms as one

-- what a record of m has of x, which stands d further in it, over the inputs s
pub record HalfRuns (θs : List Ty) (x : Made) (s : Interface) (n : ℕ) (β δ : Bits) : Type 0 where
  pub running : Running n δ x
  pub inputs : (t : ℕ) → t < n → side_row δ t (inputs_of θs x.side) ≡ side_row β t s

-- a record of m in which β and γ stand
pub record JointPlay (d d' : ℕ) (x y m : Made) (n : ℕ) (β γ : Bits) : Type 0 where
  pub bits : Bits
  pub running : Running n bits m
  pub first_bits : (z : ℕ) → z < x.next → bits (z + d) ≡ β z
  pub second_bits : (z : ℕ) → z < y.next → bits (z + d') ≡ γ z

pub record JointOf (θs : List Ty) (x y m : Made) : Type 0 where
  pub of_first : ℕ
  pub of_second : ℕ
  pub output : ℕ
  pub side : m.side ≡ in_sides θs 0 ++ out output ∷ []
  pub registers_are : registers m.elements ≡ map (further_by of_first) (registers x.elements) ++ map (further_by of_second) (registers y.elements)
  pub first_half_lem : (n : ℕ) (β : Bits) → Running n β m → HalfRuns θs x (in_sides θs 0) n β (read_at β (further_by of_first))
  pub second_half_lem : (n : ℕ) (β : Bits) → Running n β m → HalfRuns θs y (in_sides θs 0) n β (read_at β (further_by of_second))
  pub off : (n : ℕ) (β : Bits) → Running n β m → (t : ℕ) → t < n
      → (β output t ≡ false) ↔ (side_row (read_at β (further_by of_first)) t (behind_inputs θs x.side) ≡ side_row (read_at β (further_by of_second)) t (behind_inputs θs y.side))
  -- from records of both with the same inputs, one of m
  pub plays : (n : ℕ) (β γ : Bits) → Running n β x → Running n γ y → lines n β (inputs_of θs x.side) ≡ lines n γ (inputs_of θs y.side) → JointPlay of_first of_second x y m n β γ

half_runs : (θs : List Ty) (τ : Ty) (x a : Made) (d : ℕ) → AppliedAs θs 0 τ (moved_made d x) a → (n : ℕ) (β : Bits) → Running n β a → lines n β (in_sides θs 0) ≡ lines n β (out_sides θs 0)
    → HalfRuns θs x (in_sides θs 0) n β (read_at β (further_by d))
half_runs θs τ x a d h n β r e =
    let q = h.runs n β r in
    record {
      running = runs-further n d β x q.0;
      inputs = λ t l.
          row-further β d t (inputs_of θs x.side) ∙ ap (side_row β t) (sym (inputs-further θs d x.side))
          ∙ seen_row n β t l (inputs_of θs (map (moved_end d) x.side)) (in_sides θs 0) (q.1 ∙ sym e);
    }

behind-row : (θs : List Ty) (τ : Ty) (x a : Made) (d : ℕ) → AppliedAs θs 0 τ (moved_made d x) a → (β : Bits) (t : ℕ) → side_row β t a.side ≡ side_row (read_at β (further_by d)) t (behind_inputs θs x.side)
behind-row θs τ x a d h β t = ap (side_row β t) (h.side ∙ behind-further θs d x.side) ∙ sym (row-further β d t (behind_inputs θs x.side))

-- ---- setting bits

inputs-low : (b : ℕ) (θs : List Ty) (s : Interface) → LowSide b s → LowSide b (inputs_of θs s)
inputs-low b [] s a = tt
inputs-low b (θ ∷ θs) s a = all_append _ (take (size θ) s) (inputs_of θs (drop (size θ) s)) (all_take _ (size θ) s a) (inputs-low b θs (drop (size θ) s) (all_drop _ (size θ) s a))

pub behind-low : (b : ℕ) (θs : List Ty) (s : Interface) → LowSide b s → LowSide b (behind_inputs θs s)
behind-low b [] s a = a
behind-low b (θ ∷ θs) s a = behind-low b θs (drop (size θ) s) (all_drop _ (size θ) s a)

module _ (d b : ℕ) (δ β : Bits) (g : (z : ℕ) → z < b → δ (z + d) ≡ β z) where
  lines_as : (n : ℕ) (s : Interface) → LowSide b s → lines n δ (map (moved_end d) s) ≡ lines n β s
  lines_as n [] a = refl
  lines_as n (inp i ∷ s) a = ap₂ (λ (w : Stream) (r : List Stream). cut_stream n w ∷ r) (g i a.0) (lines_as n s a.1)
  lines_as n (out o ∷ s) a = ap₂ (λ (w : Stream) (r : List Stream). cut_stream n w ∷ r) (g o a.0) (lines_as n s a.1)

  pub row_as : (t : ℕ) (s : Interface) → LowSide b s → side_row (read_at δ (further_by d)) t s ≡ side_row β t s
  row_as t [] a = refl
  row_as t (inp i ∷ s) a = ap₂ (λ (w : Stream) (r : List ℕ). bit_byte_lem (w t) ∷ r) (g i a.0) (row_as t s a.1)
  row_as t (out o ∷ s) a = ap₂ (λ (w : Stream) (r : List ℕ). bit_byte_lem (w t) ∷ r) (g o a.0) (row_as t s a.1)

-- bits for the body of a function, over those of its points
record BodyPlay (d d' at n : ℕ) (x y a b m : Made) (β γ δ : Bits) : Type 0 where
  bits : Bits
  agree : Agree at bits δ
  first_bits : (z : ℕ) → z < x.next → bits (z + d) ≡ β z
  second_bits : (z : ℕ) → z < y.next → bits (z + d') ≡ γ z
  closes : Running n bits a → Running n bits b → Running n bits m

-- the bits of s set from d on
seat-here : (d : ℕ) (s β : Bits) (z : ℕ) → seat d s 0 β (z + d) ≡ s z
seat-here d s β z =
    let e : z + d ≡ d + z = omega arith in
    let f : 0 + z ≡ z = omega arith in
    ap (seat d s 0 β) e ∙ seat-at d s 0 β z ∙ ap s f

module _ (n : ℕ) (x y : Made) (β γ δ : Bits) where
  -- an xor of one bit of each, below both
  bits-body : (E : Edition) (at d' u v : ℕ) (a b : Made) → d' ≡ x.next + (at + 2 + 1) → a.side ≡ out (u + (at + 2 + 1)) ∷ [] → b.side ≡ out (v + d') ∷ [] → u < x.next → v < y.next
      → BodyPlay (at + 2 + 1) d' at n x y a b (gated E 4 at a b) β γ δ
  bits-body E at d' u v a b ed ea eb lu lv =
      let d = at + 2 + 1 in
      let o : Stream = λ t. xor (β u t) (γ v t) in
      let δ₁ = put_gate at (β u) (γ v) o δ in
      let δ₂ = seat d β 0 δ₁ in
      let δ₃ = seat d' γ 0 δ₂ in
      let low : Agree d δ₃ δ₁ = λ z l. seat-below d' γ 0 δ₂ z (omega arith) ∙ seat-below d β 0 δ₁ z l in
      let one : (z : ℕ) → z < x.next → δ₃ (z + d) ≡ β z = λ z l. seat-below d' γ 0 δ₂ (z + d) (omega arith) ∙ seat-here d β δ₁ z in
      let i₁ = low at (omega arith) ∙ put_first at (β u) (γ v) o δ in
      let i₂ = low (at + 1) (omega arith) ∙ put_second at (β u) (γ v) o δ in
      let i₃ = low (at + 2) (omega arith) ∙ put-third at (β u) (γ v) o δ in
      record {
        bits = δ₃;
        agree = λ z l. low z (omega arith) ∙ put-below at (β u) (γ v) o δ z l;
        first_bits = one;
        second_bits = λ z l. seat-here d' γ δ₂ z;
        closes = λ ra rb. xor_plays E at a b (u + d) (v + d') n δ₃ ea eb ra rb (record {
          first_bit = λ t w. ap (λ (z : Stream). z t) (one u lu ∙ sym i₁);
          second_bit = λ t w. ap (λ (z : Stream). z t) (seat-here d' γ δ₂ v ∙ sym i₂);
          output_bit = λ t w. ap (λ (z : Stream). z t) i₃ ∙ sym (ap₂ xor (ap (λ (z : Stream). z t) i₁) (ap (λ (z : Stream). z t) i₂));
        });
      }

  -- what compares the halves, above both
  pairs-body : (at d' : ℕ) (a b g : Made) → d' ≡ x.next + at → b.next ≡ y.next + d' → ((ρ : Bits) → PlayedOver n b.next ρ g) → BodyPlay at d' at n x y a b (made_proj a (made_proj b g)) β γ δ
  pairs-body at d' a b g ed eb play =
      let δ₁ = seat at β 0 δ in
      let δ₂ = seat d' γ 0 δ₁ in
      let p = play δ₂ in
      let ρ = p.bits in
      record {
        bits = ρ;
        agree = λ z l. p.agree z (omega arith) ∙ seat-below d' γ 0 δ₁ z (omega arith) ∙ seat-below at β 0 δ z l;
        first_bits = λ z l. p.agree (z + at) (omega arith) ∙ seat-below d' γ 0 δ₁ (z + at) (omega arith) ∙ seat-here at β δ z;
        second_bits = λ z l. p.agree (z + d') (omega arith) ∙ seat-here d' γ δ₁ z;
        closes = λ ra rb. record {
          elements = all_append (Works part_law n ρ) a.elements (b.elements ++ g.elements) ra.elements (all_append (Works part_law n ρ) b.elements g.elements rb.elements p.running.elements);
          wires = all_append (Joined n ρ) a.wires (b.wires ++ g.wires) ra.wires (all_append (Joined n ρ) b.wires g.wires rb.wires p.running.wires);
        };
      }

-- from what is applied and compared, and the function around it
module _ (θs : List Ty) (τ : Ty) (sh : T (sharable τ)) (x y a b m : Made) (d d' : ℕ) (h : AppliedAs θs 0 τ (moved_made d x) a) (h' : AppliedAs θs 0 τ (moved_made d' y) b) (c : ComparesBoth a b m) (lx : Lows x) (ly : Lows y)
    (ed : dirs x.side ≡ turns false (arrows_to θs τ)) (body : (n : ℕ) (β γ δ : Bits) → BodyPlay d d' (body_from θs 0) n x y a b m β γ δ) where
  joint-plays : (n : ℕ) (β γ : Bits) → Running n β x → Running n γ y → lines n β (inputs_of θs x.side) ≡ lines n γ (inputs_of θs y.side) → JointPlay d d' x y (made_funs θs 0 m) n β γ
  joint-plays n β γ rx ry e =
      let ws = lines n β (inputs_of θs x.side) in
      let dark : Bits = λ z t. false in
      let l = laid-sides n θs 0 ws dark (lines-length n β (inputs_of θs x.side) ∙ as_many_inputs τ sh θs x.side 0 ed) (lines_cut n β (inputs_of θs x.side)) in
      let p = body n β γ (lay_in θs 0 ws dark) in
      let δ = p.bits in
      let ins : lines n δ (in_sides θs 0) ≡ ws = lines_keep (body_from θs 0) δ (lay_in θs 0 ws dark) p.agree n (in_sides θs 0) (in_sides_low (body_from θs 0) θs 0 (omega arith)) ∙ l.0 in
      let outs : lines n δ (out_sides θs 0) ≡ ws = lines_keep (body_from θs 0) δ (lay_in θs 0 ws dark) p.agree n (out_sides θs 0) (out_sides_low (body_from θs 0) θs 0 (omega arith)) ∙ l.1 in
      let sx : lines n δ (inputs_of θs (map (moved_end d) x.side)) ≡ ws =
      ap (lines n δ) (inputs-further θs d x.side) ∙ lines_as d x.next δ β p.first_bits n (inputs_of θs x.side) (inputs-low x.next θs x.side lx.side) in
      let sy : lines n δ (inputs_of θs (map (moved_end d') y.side)) ≡ ws =
      ap (lines n δ) (inputs-further θs d' y.side) ∙ lines_as d' y.next δ γ p.second_bits n (inputs_of θs y.side) (inputs-low y.next θs y.side ly.side) ∙ sym e in
      let ra = h.plays n δ (plays_further n d δ β x p.first_bits lx rx) (sx ∙ sym outs) in
      let rb = h'.plays n δ (plays_further n d' δ γ y p.second_bits ly ry) (sy ∙ sym outs) in
      record { bits = δ; running = funs_play n δ θs 0 m (p.closes ra rb) (ins ∙ sym outs); first_bits = p.first_bits; second_bits = p.second_bits }

  joint-of : JointOf θs x y (made_funs θs 0 m)
  joint-of = record {
    of_first = d;
    of_second = d';
    output = c.output;
    side = funs_side θs 0 m ∙ ap (λ (s : Interface). in_sides θs 0 ++ s) c.side;
    registers_are =
        funs_registers θs 0 m ∙ c.registers_are
        ∙ ap₂ ◌++◌ (ap registers h.elements ∙ registers-further d x.elements) (ap registers h'.elements ∙ registers-further d' y.elements);
    first_half_lem = λ n β r. let q = funs_run n β θs 0 m r in half_runs θs τ x a d h n β (c.first_runs n β q.0) q.1;
    second_half_lem = λ n β r. let q = funs_run n β θs 0 m r in half_runs θs τ y b d' h' n β (c.second_runs n β q.0) q.1;
    off = λ n β r t l.
        let o = c.off n β (funs_run n β θs 0 m r).0 t l in
        let e = behind-row θs τ x a d h β t in
        let f = behind-row θs τ y b d' h' β t in
        ((λ z. sym e ∙ o.0 z ∙ f), (λ z. o.1 (e ∙ z ∙ sym f)));
    plays = joint-plays;
  }

dirs_moved : (d : ℕ) (s : Interface) → dirs (map (moved_end d) s) ≡ dirs s
dirs_moved d [] = refl
dirs_moved d (inp i ∷ s) = ap (λ (r : List Bool). true ∷ r) (dirs_moved d s)
dirs_moved d (out o ∷ s) = ap (λ (r : List Bool). false ∷ r) (dirs_moved d s)

-- the one output of a term that gives a bit
one_behind : (θs : List Ty) (x a : Made) (d : ℕ) → AppliedAs θs 0 bit (moved_made d x) a → Lows x → (u : ℕ) × (u < x.next) × (a.side ≡ out (u + d) ∷ [])
one_behind θs x a d h l =
    let e = h.side ∙ behind-further θs d x.side in
    let (u, eu) = one_out (behind_inputs θs x.side) (sym (dirs_moved d (behind_inputs θs x.side)) ∙ ap dirs (sym e) ∙ h.dirs) in
    (u, (subst (LowSide x.next) eu (behind-low x.next θs x.side l.side)).0, e ∙ ap (map (moved_end d)) eu)

-- ---- the term

pub arrows-taken : (τ : Ty) → arrows_to (taken_types τ) (shown_type τ) ≡ τ
arrows-taken bit = refl
arrows-taken (prod a b) = refl
arrows-taken (arrow a b) = ap (arrow a) (arrows-taken b)
arrows-taken (lolli a b) = refl

pub shown-sharable : (τ : Ty) → T (takes_bits τ) → T (sharable (shown_type τ))
shown-sharable bit h = tt
shown-sharable (prod a b) h = h
shown-sharable (arrow a b) h = shown-sharable b (and_both (sharable a) (takes_bits b) h).1
shown-sharable (lolli a b) h = absurd h

halved-low : (x : Made) (env : List Bound) (i : ℕ) → i ≤ x.next → LowSide x.next x.side → LowEnv i env → LowEnv x.next (second_half x ∷ first_half x ∷ env)
halved-low x env i up l a = let k = size (left_of x.type) in (all_drop _ k x.side l, (all_take _ k x.side l, env_up i x.next up env a))

-- a closed term of the type θs → θ
pub record ClosedOf (θs : List Ty) (θ : Ty) (Θ : Table) (e : Term) : Type 0 where
  pub scoped : Scoped 0 e
  pub type : (make Θ e [] 0).type ≡ arrows_to θs θ
  pub dirs : dirs (make Θ e [] 0).side ≡ turns false (arrows_to θs θ)

module _ (E : Edition) (Φ : Table) (ok : TableOk Φ) where
  applied-ranged : (k d : ℕ) (e : Term) → Ranged E Φ (applied_to e k d) → Ranged E Φ e
  applied-ranged zero d e r = r
  applied-ranged (suc k) d e r = (applied-ranged k d (app e (var (k + d))) r).0

  module _ (θs : List Ty) (θ : Ty) where
    applied-moved : (Θ : Table) (e : Term) → ClosedOf θs θ Θ e → (d at : ℕ) (env : List Bound) → BoundIn θs 0 d env → Ranged E Φ (applied_to (renumbered Θ Φ e) (length θs) d)
        → AppliedAs θs 0 θ (moved_made at (make Θ e [] 0)) (make Φ (applied_to (renumbered Θ Φ e) (length θs) d) env at)
    applied-moved Θ e c d at env v r =
        let q = closed_moved E Θ Φ ok e at env c.scoped (applied-ranged (length θs) d (renumbered Θ Φ e) r) in
        subst (λ (z : Made). AppliedAs θs 0 θ z (make Φ (applied_to (renumbered Θ Φ e) (length θs) d) env at)) q
        (applied_so Φ θs θ 0 d (renumbered Θ Φ e) env at v (ap (λ (z : Made). z.type) q ∙ c.type) (ap (λ (z : Made). dirs z.side) q ∙ dirs_moved at (make Θ e [] 0).side ∙ c.dirs))

  module _ (Θ Θ' : Table) (e e' : Term) where
    abbrev a : Term
    a = renumbered Θ Φ e

    abbrev b : Term
    b = renumbered Θ' Φ e'

    abbrev X : Made
    X = make Θ e [] 0

    abbrev Y : Made
    Y = make Θ' e' [] 0

    body-joint : (θs : List Ty) (θ : Ty) → T (sharable θ) → ClosedOf θs θ Θ e → ClosedOf θs θ Θ' e'
        → Ranged E Φ (differing E Φ θ (applied_to a (length θs) 0) (applied_to b (length θs)))
        → JointOf θs (make Θ e [] 0) (make Θ' e' [] 0) (made_funs θs 0 (make Φ (differing E Φ θ (applied_to a (length θs) 0) (applied_to b (length θs))) (binders_of θs 0 []) (body_from θs 0)))
    body-joint θs bit h c c' r =
        let n = length θs in
        let env = binders_of θs 0 [] in
        let i = body_from θs 0 in
        let x = make Φ (applied_to a n 0) env (i + 2 + 1) in
        let y = make Φ (applied_to b n 0) env x.next in
        let rs = gate_ranged Φ ok 4 xor_gate E (applied_to a n 0) (applied_to b n 0) r in
        let f = applied-moved θs bit Θ e c 0 (i + 2 + 1) env (bound_in_lem θs 0 []) rs.0 in
        let g = applied-moved θs bit Θ' e' c' 0 x.next env (bound_in_lem θs 0 []) rs.1 in
        let lX : Lows X = lows Θ e [] 0 tt in
        let lY : Lows Y = lows Θ' e' [] 0 tt in
        let u = one_behind θs X x (i + 2 + 1) f lX in
        let v = one_behind θs Y y x.next g lY in
        subst (λ (m : Made). JointOf θs (make Θ e [] 0) (make Θ' e' [] 0) (made_funs θs 0 m)) (sym (gate-made Φ ok 4 xor_gate E (applied_to a n 0) (applied_to b n 0) env i r))
        (joint-of θs bit tt X Y x y (gated E 4 i x y) (i + 2 + 1) x.next f g (bits_both E i x y f.dirs g.dirs) lX lY c.dirs
        (λ n β γ δ. bits-body n X Y β γ δ E i x.next u.0 v.0 x y f.next u.2 v.2 u.1 v.1))
    body-joint θs (prod θ₁ θ₂) h c c' r =
        let n = length θs in
        let env = binders_of θs 0 [] in
        let i = body_from θs 0 in
        let x = make Φ (applied_to a n 0) env i in
        let y = make Φ (applied_to b n 2) (second_half x ∷ first_half x ∷ env) x.next in
        let f = applied-moved θs (prod θ₁ θ₂) Θ e c 0 i env (bound_in_lem θs 0 []) r.0 in
        let g = applied-moved θs (prod θ₁ θ₂) Θ' e' c' 2 x.next (second_half x ∷ first_half x ∷ env) (bound_under θs 0 env (second_half x) (first_half x) (bound_in_lem θs 0 [])) r.1.0 in
        let q = halves_compared E Φ ok θ₁ θ₂ h x y env y.next (record { type = f.type; dirs = f.dirs }) (record { type = g.type; dirs = g.dirs }) r.1.1 in
        let low = binders_low θs 0 [] tt in
        let lx = lows Φ (applied_to a n 0) env i low in
        let upx = next_le Φ (applied_to a n 0) env i in
        let upy = next_le Φ (applied_to b n 2) (second_half x ∷ first_half x ∷ env) x.next in
        let env₂ = halved-low x env i upx lx.side low in
        let ly = lows Φ (applied_to b n 2) (second_half x ∷ first_half x ∷ env) x.next env₂ in
        let all-low = parted-low y.next x y env (env_up x.next y.next upy (whole_of x ∷ []) (lx.side, tt)).0 ly.side (env_up i y.next (omega arith) env low) in
        joint-of θs (prod θ₁ θ₂) h X Y x y _ i x.next f g (pairs_both x y _ q) (lows Θ e [] 0 tt) (lows Θ' e' [] 0 tt) c.dirs
        (λ n β γ δ. pairs-body n X Y β γ δ i x.next x y _ f.next g.next (λ ρ. halves_play E Φ ok n θ₁ θ₂ h x y env (record { type = f.type; dirs = f.dirs }) (record { type = g.type; dirs = g.dirs }) r.1.1 y.next all-low ρ))
    body-joint θs (arrow θ₁ θ₂) h c c' r = absurd h
    body-joint θs (lolli θ₁ θ₂) h c c' r = absurd h

    pub joint-made : (τ : Ty) → T (takes_bits τ) → ClosedOf (taken_types τ) (shown_type τ) Θ e → ClosedOf (taken_types τ) (shown_type τ) Θ' e' → Ranged E Φ (joint_term E Φ τ a b)
        → JointOf (taken_types τ) (make Θ e [] 0) (make Θ' e' [] 0) (make Φ (joint_term E Φ τ a b) [] 0)
    joint-made τ h c c' r =
        let θs = taken_types τ in
        let q = funs_made E Φ ok θs (differing E Φ (shown_type τ) (applied_to a (length θs) 0) (applied_to b (length θs))) [] 0 r in
        subst (λ (m : Made). JointOf θs (make Θ e [] 0) (make Θ' e' [] 0) m) (sym q.0) (body-joint θs (shown_type τ) (shown-sharable τ h) c c' q.1)
