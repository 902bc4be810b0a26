-- What lies below a terminal does not change where bits are set from there on. Assumes nothing.
use Prim.Native.Nat.{ℕ, zero, suc, ◌+◌, ◌*◌, ◌-◌, ◌<◌, ◌≤◌}
use mathlib.Core.Path.{◌≡◌, refl, sym, ap, ap₂, subst, ◌∙◌}
use mathlib.Core.Bool.{Bool, true, false, cond}
use mathlib.Core.List.{List, [], ◌∷◌}
use native.Mathlib.Omega.{arith}
use native.Mathlib.Nat.{add-zero}
use lib.Dec.{eqb, ltb}
use lib.ListN.{length}
use borrow.Author.Tests.{lt-ltb, le-ltb, eq-eqb, ne_eqb}
use Rattle.calculus.specs.Types.{Table}
use Rattle.calculus.specs.Terms.{Term, part_at}
use Rattle.calculus.specs.Net.{Terminal, inp, out, Interface, Element, point, part, Wire, in_side, out_side, part_side, Bound, Made, make}
use Rattle.calculus.specs.Record.{Stream, Bits, Law, All, streams, Works, Joined}
use Rattle.circuit_theorems.specs.Formed.{Tiled}
use Rattle.circuit_theorems.proofs.Lists.{all_map}
use Rattle.circuit_theorems.proofs.Terminals.{tiled-rising, rising-end}
use Rattle.circuit_theorems.proofs.Outputs.{EndHolds, Shows, BoundShows, tiled, next_le, names-below}
use Rattle.circuit_theorems.proofs.Bounds.{ElementBelow}
use Rattle.linear_theorems.specs.Marked.{Seen, PartsSeen}
use Rattle.linear_theorems.proofs.Meaning.{cut_stream, Cut, lines, Val, build}
use Rattle.linear_theorems.proofs.Heard.{vals, HeardRuns}

-- ---- a part moved to another place

-- the same streams from i on in β' as from j on in β
pub streams_moved : (k i j : ℕ) (β' β : Bits) → ((x : ℕ) → x < k → β' (i + x) ≡ β (j + x)) → streams k i β' ≡ streams k j β
streams_moved zero i j β' β h = refl
streams_moved (suc k) i j β' β h =
    ap₂ ◌∷◌ (ap β' (sym (add-zero i)) ∙ h 0 (omega arith) ∙ ap β (add-zero j))
    (streams_moved k (i + 1) (j + 1) β' β (λ x l. let p : i + 1 + x ≡ i + suc x = omega arith in let q : j + 1 + x ≡ j + suc x = omega arith in ap β' p ∙ h (suc x) (omega arith) ∙ ap β (sym q)))

pub part-lines : (n k i j : ℕ) (β' β : Bits) → ((x : ℕ) → x ≤ k → β' (i + x) ≡ β (j + x)) → lines n β' (part_side k i) ≡ lines n β (part_side k j)
part-lines n zero i j β' β h = ap (λ (w : Stream). cut_stream n w ∷ []) (ap β' (sym (add-zero i)) ∙ h 0 (omega arith) ∙ ap β (add-zero j))
part-lines n (suc k) i j β' β h =
    ap₂ ◌∷◌ (ap (cut_stream n) (ap β' (sym (add-zero i)) ∙ h 0 (omega arith) ∙ ap β (add-zero j)))
    (part-lines n k (i + 1) (j + 1) β' β (λ x l. let p : i + 1 + x ≡ i + suc x = omega arith in let q : j + 1 + x ≡ j + suc x = omega arith in ap β' p ∙ h (suc x) (omega arith) ∙ ap β (sym q)))

pub part_moved : (law : Law) (n p i j : ℕ) (β' β : Bits) → ((x : ℕ) → x ≤ (part_at p).inputs → β' (i + x) ≡ β (j + x)) → Works law n β (part p j) → Works law n β' (part p i)
part_moved law n p i j β' β h w =
    let k = (part_at p).inputs in
    subst (λ (xs : List Stream). law p n xs (β' (i + k))) (sym (streams_moved k i j β' β (λ x l. h x (omega arith)))) (subst (λ (y : Stream). law p n (streams k j β) y) (sym (h k (omega arith))) w)

-- ---- all terminals that a term names are below its next free one

abbrev pub LowSide : ℕ → Interface → Type 0
LowSide b s = Shows (λ x. x < b) (λ x. x < b) s

abbrev pub LowEnv : ℕ → List Bound → Type 0
LowEnv b env = All (BoundShows (λ x. x < b) (λ x. x < b)) env

low_up : (b c : ℕ) → b ≤ c → (x : Terminal) → EndHolds (λ x. x < b) (λ x. x < b) x → EndHolds (λ x. x < c) (λ x. x < c) x
low_up b c h (inp i) a = omega arith
low_up b c h (out o) a = omega arith

pub env_up : (b c : ℕ) → b ≤ c → (env : List Bound) → LowEnv b env → LowEnv c env
env_up b c h env a =
    all_map (BoundShows (λ x. x < b) (λ x. x < b)) (BoundShows (λ x. x < c) (λ x. x < c))
    (λ x q. all_map (EndHolds (λ x. x < b) (λ x. x < b)) (EndHolds (λ x. x < c) (λ x. x < c)) (low_up b c h) x.side q) env a

pub low_in : (b : ℕ) (ts : List Bool) (i : ℕ) → i + 2 * length ts ≤ b → LowSide b (in_side ts i)
low_in b [] i h = tt
low_in b (false ∷ ts) i h = (omega arith, low_in b ts (i + 2) (omega arith))
low_in b (true ∷ ts) i h = (omega arith, low_in b ts (i + 2) (omega arith))

pub low_out : (b : ℕ) (ts : List Bool) (i : ℕ) → i + 2 * length ts ≤ b → LowSide b (out_side ts i)
low_out b [] i h = tt
low_out b (false ∷ ts) i h = (omega arith, low_out b ts (i + 2) (omega arith))
low_out b (true ∷ ts) i h = (omega arith, low_out b ts (i + 2) (omega arith))

pub record Lows (m : Made) : Type 0 where
  pub elements : All (ElementBelow m.next) m.elements
  pub wires : All (λ w. (w.from < m.next) × (w.to < m.next)) m.wires
  pub side : LowSide m.next m.side

tiled-below : (es : List Element) (n e : ℕ) → Tiled es n e → All (ElementBelow e) es
tiled-below [] n e a = tt
tiled-below (point i ∷ es) n e a = (let p = a.0 in omega (arith, rising-end es (n + 2) e (tiled-rising es (n + 2) e a.1)), tiled-below es (n + 2) e a.1)
tiled-below (part p i ∷ es) n e a =
    let k = n + (part_at p).inputs + 1 in
    (let q = a.0 in omega (arith, rising-end es k e (tiled-rising es k e a.1)), tiled-below es k e a.1)

pub lows : (Θ : Table) (e : Term) (env : List Bound) (i : ℕ) → LowEnv i env → Lows (make Θ e env i)
lows Θ e env i a =
    let m = make Θ e env i in
    let r = names-below m.next Θ e env i (env_up i m.next (next_le Θ e env i) env a) (omega arith) in
    record { elements = tiled-below m.elements i m.next (tiled Θ e env i); wires = r.wires; side = r.side }

-- ---- bits that agree below b

abbrev pub Agree : ℕ → Bits → Bits → Type 0
Agree b β' β = (x : ℕ) → x < b → β' x ≡ β x

at_tick : {f g : Stream} → f ≡ g → (t : ℕ) → f t ≡ g t
at_tick e t = ap (λ (w : Stream). w t) e

module _ (b : ℕ) (β' β : Bits) (g : Agree b β' β) (n : ℕ) where
  pub lines_keep : (s : Interface) → LowSide b s → lines n β' s ≡ lines n β s
  lines_keep [] a = refl
  lines_keep (inp i ∷ s) a = ap₂ (λ (w : Stream) (r : List Stream). cut_stream n w ∷ r) (g i a.0) (lines_keep s a.1)
  lines_keep (out o ∷ s) a = ap₂ (λ (w : Stream) (r : List Stream). cut_stream n w ∷ r) (g o a.0) (lines_keep s a.1)

  pub vals-keep : (env : List Bound) → LowEnv b env → vals n β' env ≡ vals n β env
  vals-keep [] a = refl
  vals-keep (x ∷ env) a = ap₂ (λ (w : List Stream) (r : List Val). build x.type w ∷ r) (lines_keep x.side a.0) (vals-keep env a.1)

  pub works_keep : (law : Law) (es : List Element) → All (ElementBelow b) es → All (Works law n β) es → All (Works law n β') es
  works_keep law [] a w = tt
  works_keep law (point i ∷ es) a w =
      ((λ t l. at_tick (g i (let q = a.0 in omega arith)) t ∙ w.0 t l ∙ at_tick (sym (g (i + 1) a.0)) t), works_keep law es a.1 w.1)
  works_keep law (part p i ∷ es) a w = (part_moved law n p i i β' β (λ x h. g (i + x) (let q = a.0 in omega arith)) w.0, works_keep law es a.1 w.1)

  pub joined-keep : (ws : List Wire) → All (λ w. (w.from < b) × (w.to < b)) ws → All (Joined n β) ws → All (Joined n β') ws
  joined-keep [] a w = tt
  joined-keep (x ∷ ws) a w = ((λ t l. at_tick (g x.from a.0.0) t ∙ w.0 t l ∙ at_tick (sym (g x.to a.0.1)) t), joined-keep ws a.1 w.1)

  seen-keep : (ρ : Seen) (ks : List ℕ) (es : List Element) → All (ElementBelow b) es → PartsSeen n ρ β ks es → PartsSeen n ρ β' ks es
  seen-keep ρ ks [] a w = w
  seen-keep ρ ks (point i ∷ es) a w = seen-keep ρ ks es a.1 w
  seen-keep ρ [] (part p i ∷ es) a w = absurd w
  seen-keep ρ (k ∷ ks) (part p i ∷ es) a w =
      ((λ x h t l. w.0 x h t l ∙ at_tick (sym (g (i + x) (let q = a.0 in omega arith))) t), seen-keep ρ ks es a.1 w.1)

-- what runs goes on running
pub runs-keep : (law : Law) (n : ℕ) (ρ : Seen) (ks : List ℕ) (m : Made) (β' β : Bits) → Agree m.next β' β → Lows m → HeardRuns law n ρ β ks m → HeardRuns law n ρ β' ks m
runs-keep law n ρ ks m β' β g l r = record {
  works = works_keep m.next β' β g n law m.elements l.elements r.works;
  joined = joined-keep m.next β' β g n m.wires l.wires r.joined;
  seen = seen-keep m.next β' β g n ρ ks m.elements l.elements r.seen;
}

-- ---- streams laid onto points, from terminal i on

abbrev onto : ℕ → Stream → Bits → Bits
onto i w β x = cond (eqb x i) w (cond (eqb x (i + 1)) w (β x))

abbrev pub lay : List Stream → ℕ → Bits → Bits
lay [] i β = β
lay (w ∷ ws) i β = lay ws (i + 2) (onto i w β)

pub lay-below : (ws : List Stream) (i : ℕ) (β : Bits) → Agree i (lay ws i β) β
lay-below [] i β x h = refl
lay-below (w ∷ ws) i β x h = lay-below ws (i + 2) (onto i w β) x (omega arith) ∙ rw (ne_eqb x i (λ e. omega arith), ne_eqb x (i + 1) (λ e. omega arith))

lay-first : (ws : List Stream) (w : Stream) (i : ℕ) (β : Bits) → lay (w ∷ ws) i β i ≡ w
lay-first ws w i β = lay-below ws (i + 2) (onto i w β) i (omega arith) ∙ rw (eq-eqb i i refl)

lay-second : (ws : List Stream) (w : Stream) (i : ℕ) (β : Bits) → lay (w ∷ ws) i β (i + 1) ≡ w
lay-second ws w i β = lay-below ws (i + 2) (onto i w β) (i + 1) (omega arith) ∙ rw (ne_eqb (i + 1) i (λ e. omega arith), eq-eqb (i + 1) (i + 1) refl)

module _ (n : ℕ) where
  pub lay_in_lem : (ts : List Bool) (ws : List Stream) (i : ℕ) (β : Bits) → length ws ≡ length ts → All (Cut n) ws → lines n (lay ws i β) (in_side ts i) ≡ ws
  lay_in_lem [] [] i β e c = refl
  lay_in_lem [] (w ∷ ws) i β e c = absurd (omega arith)
  lay_in_lem (t ∷ ts) [] i β e c = absurd (omega arith)
  lay_in_lem (false ∷ ts) (w ∷ ws) i β e c = ap₂ ◌∷◌ (ap (cut_stream n) (lay-first ws w i β) ∙ c.0) (lay_in_lem ts ws (i + 2) (onto i w β) (omega arith) c.1)
  lay_in_lem (true ∷ ts) (w ∷ ws) i β e c = ap₂ ◌∷◌ (ap (cut_stream n) (lay-second ws w i β) ∙ c.0) (lay_in_lem ts ws (i + 2) (onto i w β) (omega arith) c.1)

  pub lay_out : (ts : List Bool) (ws : List Stream) (i : ℕ) (β : Bits) → length ws ≡ length ts → All (Cut n) ws → lines n (lay ws i β) (out_side ts i) ≡ ws
  lay_out [] [] i β e c = refl
  lay_out [] (w ∷ ws) i β e c = absurd (omega arith)
  lay_out (t ∷ ts) [] i β e c = absurd (omega arith)
  lay_out (false ∷ ts) (w ∷ ws) i β e c = ap₂ ◌∷◌ (ap (cut_stream n) (lay-second ws w i β) ∙ c.0) (lay_out ts ws (i + 2) (onto i w β) (omega arith) c.1)
  lay_out (true ∷ ts) (w ∷ ws) i β e c = ap₂ ◌∷◌ (ap (cut_stream n) (lay-first ws w i β) ∙ c.0) (lay_out ts ws (i + 2) (onto i w β) (omega arith) c.1)

-- ---- the bits that s has from j on, set from terminal i on

abbrev pub seat : ℕ → Bits → ℕ → Bits → Bits
seat i s j β x = cond (ltb x i) (β x) (s (j + (x - i)))

pub seat-below : (i : ℕ) (s : Bits) (j : ℕ) (β : Bits) → Agree i (seat i s j β) β
seat-below i s j β x h = rw (lt-ltb x i h)

pub seat-at : (i : ℕ) (s : Bits) (j : ℕ) (β : Bits) (x : ℕ) → seat i s j β (i + x) ≡ s (j + x)
seat-at i s j β x = let e : i + x - i ≡ x = omega arith in rw (le-ltb (i + x) i (omega arith), e)
