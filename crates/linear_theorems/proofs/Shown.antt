-- The possible records of a whole term's netlist, by marks: they are the values that the term can have; and the full and the lean
-- netlist have the same. Assumes nothing.
use Prim.Native.Nat.{ℕ, zero, suc, ◌+◌}
use mathlib.Core.Path.{◌≡◌, refl, sym, ap, ap₂, subst, ◌∙◌}
use mathlib.Core.Logic.{◌↔◌}
use mathlib.Core.Bool.{Bool, true, false, cond}
use mathlib.Core.List.{List, [], ◌∷◌, head-eq_of_cons-eq, tail-eq_of_cons-eq}
use native.Mathlib.Omega.{arith}
use lib.ListN.{length}
use Rattle.calculus.specs.Types.{Ty, size, Table}
use Rattle.calculus.specs.Terms.{first}
use Rattle.calculus.specs.Rules.{Typed}
use Rattle.calculus.specs.Net.{Net, Interface, number, Element, point, part, make, net_of}
use Rattle.calculus.specs.Lean.{kept, keep, lean}
use Rattle.calculus.specs.Record.{Stream, Bits, Law, All, PinsShow, PartShows}
use Rattle.circuit_theorems.specs.Formed.{Formed}
use Rattle.circuit_theorems.proofs.Drivers.{term_driven}
use Rattle.circuit_theorems.specs.Scope.{env_end}
use Rattle.circuit_theorems.proofs.Same.{same-records}
use Rattle.linear_theorems.specs.Marked.{Marked, plain, marks, Seen, PartsSeen, ByMarks}
use Rattle.linear_theorems.specs.PutIn.{PutIn}
use Rattle.linear_theorems.proofs.Meaning.{cut_stream, lines, Val, build, Means}
use Rattle.linear_theorems.proofs.PutTyped.{put_in_typed}
use Rattle.linear_theorems.proofs.PutMeans.{fit-end, put_in_means}
use Rattle.linear_theorems.proofs.Lines.{cut-same, same-cut, lines-length, side_length, build_inj}
use Rattle.linear_theorems.proofs.Heard.{hear}
use Rattle.linear_theorems.proofs.Played.{play}

-- ---- pins

-- what a record shows at so many pin positions, from position k on
abbrev pin_lines : ℕ → Bits → ℕ → ℕ → List Stream
pin_lines n γ k zero = []
pin_lines n γ k (suc l) = cut_stream n (γ k) ∷ pin_lines n γ (suc k) l

pin_length : (n : ℕ) (γ : Bits) (k l : ℕ) → length (pin_lines n γ k l) ≡ l
pin_length n γ k zero = refl
pin_length n γ k (suc l) = ap suc (pin_length n γ (suc k) l)

pins_heard : (n : ℕ) (γ β : Bits) (k : ℕ) (ps : Interface) → PinsShow n γ β k ps → lines n β ps ≡ pin_lines n γ k (length ps)
pins_heard n γ β k [] h = refl
pins_heard n γ β k (p ∷ ps) h = ap₂ ◌∷◌ (cut-same n (β (number p)) (γ k) (λ t l. sym (h.0 t l))) (pins_heard n γ β (suc k) ps h.1)

pins_played : (n : ℕ) (γ β : Bits) (k : ℕ) (ps : Interface) → lines n β ps ≡ pin_lines n γ k (length ps) → PinsShow n γ β k ps
pins_played n γ β k [] e = tt
pins_played n γ β k (p ∷ ps) e = (same-cut n (γ k) (β (number p)) (sym (head-eq_of_cons-eq e)), pins_played n γ β (suc k) ps (tail-eq_of_cons-eq e))

-- ---- parts

module _ (n : ℕ) (ρ : Seen) where
  seen-shown : (π β : Bits) (ks : List ℕ) (es : List Element) → PartsSeen n ρ π ks es → All (PartShows n π β) es → PartsSeen n ρ β ks es
  seen-shown π β ks [] a s = a
  seen-shown π β ks (point i ∷ es) a s = seen-shown π β ks es a s.1
  seen-shown π β [] (part p i ∷ es) a s = absurd a
  seen-shown π β (k ∷ ks) (part p i ∷ es) a s = ((λ x h t l. a.0 x h t l ∙ s.0 (i + x) (omega arith) (omega arith) t l), seen-shown π β ks es a.1 s.1)

  -- the lean netlist keeps all parts in their order
  seen-kept : (m : Net) (π : Bits) (ks : List ℕ) (es : List Element) → PartsSeen n ρ π ks es ↔ PartsSeen n ρ π ks (keep m es)
  seen-kept m π ks [] = ((λ a. a), (λ a. a))
  seen-kept m π ks (point i ∷ es) = through (kept m (point i)) (seen-kept m π ks es)
    where
      through : (b : Bool) → PartsSeen n ρ π ks es ↔ PartsSeen n ρ π ks (keep m es) → PartsSeen n ρ π ks es ↔ PartsSeen n ρ π ks (cond b (point i ∷ keep m es) (keep m es))
      through true h = h
      through false h = h
  seen-kept m π [] (part p i ∷ es) = ((λ a. absurd a), (λ a. absurd a))
  seen-kept m π (k ∷ ks) (part p i ∷ es) = let h = seen-kept m π ks es in ((λ a. (a.0, h.0 a.1)), (λ a. (a.0, h.1 a.1)))

shows-itself : (n : ℕ) (β : Bits) (es : List Element) → All (PartShows n β β) es
shows-itself n β [] = tt
shows-itself n β (point i ∷ es) = (tt, shows-itself n β es)
shows-itself n β (part p i ∷ es) = ((λ x lo hi t l. refl), shows-itself n β es)

-- ---- a whole term

module _ (law : Law) (Θ : Table) (n : ℕ) (γ : Bits) (ρ : Seen) where
  -- its meaning is what its netlist shows
  pub shown_means : {τ : Ty} (e : Marked) → Typed first Θ [] (plain e) τ → ByMarks law (net_of (make Θ (plain e) [] 0)) (marks e) n γ ρ ↔ Means law Θ n ρ e [] (build τ (pin_lines n γ 0 (size τ)))
  shown_means {τ} e d = (forth, back)
    where
      len : length (make Θ (plain e) [] 0).side ≡ size τ
      len = side_length τ false (make Θ (plain e) [] 0).side (term_driven d [] env_end 0).dirs

      forth : ByMarks law (net_of (make Θ (plain e) [] 0)) (marks e) n γ ρ → Means law Θ n ρ e [] (build τ (pin_lines n γ 0 (size τ)))
      forth s =
          let m = make Θ (plain e) [] 0 in
          let o = s.outside in
          subst (λ (v : Val). Means law Θ n ρ e [] v) (ap (build τ) (pins_heard n γ o.bits 0 m.side o.pins ∙ ap (pin_lines n γ 0) len))
          (hear law n ρ o.bits Θ e d [] env_end 0 (record { works = o.possible.elements; joined = o.possible.wires; seen = seen-shown n ρ s.terminals o.bits (marks e) m.elements s.parts o.parts }))

      back : Means law Θ n ρ e [] (build τ (pin_lines n γ 0 (size τ))) → ByMarks law (net_of (make Θ (plain e) [] 0)) (marks e) n γ ρ
      back v =
          let m = make Θ (plain e) [] 0 in
          let p = play law n ρ Θ e d [] env_end 0 tt (λ x t. false) (build τ (pin_lines n γ 0 (size τ))) v in
          record {
            terminals = p.bits;
            outside = record {
              bits = p.bits;
              possible = record { elements = p.runs.works; wires = p.runs.joined };
              pins = pins_played n γ p.bits 0 m.side (sym (build_inj τ (pin_lines n γ 0 (length m.side)) (lines n p.bits m.side) (pin_length n γ 0 (length m.side) ∙ len) (lines-length n p.bits m.side ∙ len) (ap (λ (l : ℕ). build τ (pin_lines n γ 0 l)) len ∙ p.value)));
              parts = shows-itself n p.bits m.elements;
            };
            parts = p.runs.seen;
          }

  -- with an argument put in, the possible records are the same
  pub same-shown : {τ : Ty} {e e' : Marked} → PutIn e e' → Typed first Θ [] (plain e) τ → ByMarks law (net_of (make Θ (plain e) [] 0)) (marks e) n γ ρ ↔ ByMarks law (net_of (make Θ (plain e') [] 0)) (marks e') n γ ρ
  same-shown {τ} {e} {e'} r d =
      let a = shown_means e d in
      let b = shown_means e' (put_in_typed r d) in
      let c = put_in_means law Θ n ρ r d [] fit-end (build τ (pin_lines n γ 0 (size τ))) in
      ((λ x. b.1 (c.0 (a.0 x))), (λ x. a.1 (c.1 (b.0 x))))

-- the full and the lean netlist have the same possible records by marks
pub lean-shown : (law : Law) (m : Net) → Formed m → (ks : List ℕ) (n : ℕ) (γ : Bits) (ρ : Seen) → ByMarks law m ks n γ ρ ↔ ByMarks law (lean m) ks n γ ρ
unfolding lean
lean-shown law m f ks n γ ρ = (
  (λ s. record { terminals = s.terminals; outside = (same-records law m f n γ s.terminals).0 s.outside; parts = (seen-kept n ρ m s.terminals ks m.elements).0 s.parts }),
  (λ s. record { terminals = s.terminals; outside = (same-records law m f n γ s.terminals).1 s.outside; parts = (seen-kept n ρ m s.terminals ks m.elements).1 s.parts }),
)
