-- What is seen at interfaces: laid out by types and taken apart again, and equal at the two ends of points and of wires. Assumes nothing.
use Prim.Native.Nat.{ℕ, ◌+◌, ◌<◌}
use mathlib.Core.Path.{◌≡◌, refl, sym, ap, ap₂, ◌∙◌, fun_ext}
use mathlib.Core.Bool.{Bool, true, false, not, cond, true≢false, false≢true}
use mathlib.Core.List.{List, [], ◌∷◌, ◌++◌, map, map-append, cons≢nil, nil≢cons, head-eq_of_cons-eq, tail-eq_of_cons-eq}
use native.Mathlib.Omega.{arith}
use lib.ListN.{length, take, drop, length-append, length-map, length-drop, take-append-drop}
use lib.Seq.{take_at, drop_at, length-take-le}
use lib.Dec.{ltb}
use borrow.Author.Tests.{lt-ltb, ltb-true}
use Rattle.laws.proofs.Parts.{map-take, map-drop}
use Rattle.calculus.specs.Types.{Ty, bit, prod, arrow, lolli, size}
use Rattle.calculus.specs.Net.{inp, out, number, Interface, turns, points, in_side, out_side, join}
use Rattle.calculus.specs.Record.{Stream, Bits, Law, All, Works, Joined}
use Rattle.circuit_theorems.proofs.Drivers.{turns-size}
use Rattle.circuit_theorems.specs.Scope.{dir, dirs}
use Rattle.circuit_theorems.proofs.Lists.{all_take, all_drop, all_append}
use Rattle.linear_theorems.proofs.Meaning.{cut_stream, Cut, lines, Val, leaf, node, Shaped, build}

-- ---- what is seen of a stream

by_tick : (F : Bool → Type 0) (b : Bool) → (b ≡ true → F true) → F false → F b
by_tick F true f g = f refl
by_tick F false f g = g

pub cut-same : (n : ℕ) (f g : Stream) → ((t : ℕ) → t < n → f t ≡ g t) → cut_stream n f ≡ cut_stream n g
cut-same n f g h = fun_ext (λ t. by_tick (λ b. cond b (f t) false ≡ cond b (g t) false) (ltb t n) (λ e. h t (ltb-true t n e)) refl)

pub cut_at : (n : ℕ) (f : Stream) (t : ℕ) → t < n → cut_stream n f t ≡ f t
cut_at n f t h = rw (lt-ltb t n h)

pub same-cut : (n : ℕ) (f g : Stream) → cut_stream n f ≡ cut_stream n g → (t : ℕ) → t < n → f t ≡ g t
same-cut n f g e t h = sym (cut_at n f t h) ∙ ap (λ (w : Stream). w t) e ∙ cut_at n g t h

pub cut-cut : (n : ℕ) (f : Stream) → Cut n (cut_stream n f)
cut-cut n f = cut-same n (cut_stream n f) f (cut_at n f)

dark-cut : (n : ℕ) → Cut n (λ t. false)
dark-cut n = fun_ext (λ t. by_tick (λ b. cond b false false ≡ false) (ltb t n) (λ e. refl) refl)

-- ---- what is seen at a list of terminals

module _ (n : ℕ) (β : Bits) where
  pub lines-append : (s t : Interface) → lines n β (s ++ t) ≡ lines n β s ++ lines n β t
  lines-append s t = map-append (λ x. cut_stream n (β (number x))) s t

  pub lines-take : (k : ℕ) (s : Interface) → lines n β (take k s) ≡ take k (lines n β s)
  lines-take k s = map-take (λ x. cut_stream n (β (number x))) k s

  pub lines-drop : (k : ℕ) (s : Interface) → lines n β (drop k s) ≡ drop k (lines n β s)
  lines-drop k s = map-drop (λ x. cut_stream n (β (number x))) k s

  pub lines-length : (s : Interface) → length (lines n β s) ≡ length s
  lines-length s = length-map s (λ x. cut_stream n (β (number x)))

  pub lines_cut : (s : Interface) → All (Cut n) (lines n β s)
  lines_cut [] = tt
  lines_cut (x ∷ s) = (cut-cut n (β (number x)), lines_cut s)

-- an interface has as many terminals as its type has bits
pub side_length : (τ : Ty) (o : Bool) (s : Interface) → dirs s ≡ turns o τ → length s ≡ size τ
side_length τ o s e = sym (length-map s dir) ∙ ap length e ∙ turns-size o τ

-- ---- values and lists of streams

abbrev pub flat : Val → List Stream
flat (leaf w) = w ∷ []
flat (node u v) = flat u ++ flat v

module _ (n : ℕ) where
  pub build_shaped : (τ : Ty) (ws : List Stream) → All (Cut n) ws → Shaped n τ (build τ ws)
  build_shaped bit [] c = dark-cut n
  build_shaped bit (w ∷ ws) c = c.0
  build_shaped (prod a b) ws c = (build_shaped a (take (size a) ws) (all_take (Cut n) (size a) ws c), build_shaped b (drop (size a) ws) (all_drop (Cut n) (size a) ws c))
  build_shaped (arrow a b) ws c = (build_shaped a (take (size a) ws) (all_take (Cut n) (size a) ws c), build_shaped b (drop (size a) ws) (all_drop (Cut n) (size a) ws c))
  build_shaped (lolli a b) ws c = (build_shaped a (take (size a) ws) (all_take (Cut n) (size a) ws c), build_shaped b (drop (size a) ws) (all_drop (Cut n) (size a) ws c))

  pub flat-cut : (τ : Ty) (v : Val) → Shaped n τ v → All (Cut n) (flat v)
  flat-cut bit (leaf w) h = (h, tt)
  flat-cut bit (node u v) h = absurd h
  flat-cut (prod a b) (leaf w) h = absurd h
  flat-cut (prod a b) (node u v) h = all_append (Cut n) (flat u) (flat v) (flat-cut a u h.0) (flat-cut b v h.1)
  flat-cut (arrow a b) (leaf w) h = absurd h
  flat-cut (arrow a b) (node u v) h = all_append (Cut n) (flat u) (flat v) (flat-cut a u h.0) (flat-cut b v h.1)
  flat-cut (lolli a b) (leaf w) h = absurd h
  flat-cut (lolli a b) (node u v) h = all_append (Cut n) (flat u) (flat v) (flat-cut a u h.0) (flat-cut b v h.1)

  flat-two : (a b : Ty) (u v : Val) → length (flat u) ≡ size a → length (flat v) ≡ size b → length (flat u ++ flat v) ≡ size a + size b
  flat-two a b u v p q = length-append (flat u) (flat v) ∙ ap₂ ◌+◌ p q

  pub flat-length : (τ : Ty) (v : Val) → Shaped n τ v → length (flat v) ≡ size τ
  flat-length bit (leaf w) h = refl
  flat-length bit (node u v) h = absurd h
  flat-length (prod a b) (leaf w) h = absurd h
  flat-length (prod a b) (node u v) h = flat-two a b u v (flat-length a u h.0) (flat-length b v h.1)
  flat-length (arrow a b) (leaf w) h = absurd h
  flat-length (arrow a b) (node u v) h = flat-two a b u v (flat-length a u h.0) (flat-length b v h.1)
  flat-length (lolli a b) (leaf w) h = absurd h
  flat-length (lolli a b) (node u v) h = flat-two a b u v (flat-length a u h.0) (flat-length b v h.1)

  build-two : (a b : Ty) (u v : Val) → Shaped n a u → build a (flat u) ≡ u → build b (flat v) ≡ v
      → node (build a (take (size a) (flat u ++ flat v))) (build b (drop (size a) (flat u ++ flat v))) ≡ node u v
  build-two a b u v h p q =
      ap₂ node (ap (build a) (take_at (flat u) (flat v) (size a) (flat-length a u h)) ∙ p) (ap (build b) (drop_at (flat u) (flat v) (size a) (flat-length a u h)) ∙ q)

  pub build-flat : (τ : Ty) (v : Val) → Shaped n τ v → build τ (flat v) ≡ v
  build-flat bit (leaf w) h = refl
  build-flat bit (node u v) h = absurd h
  build-flat (prod a b) (leaf w) h = absurd h
  build-flat (prod a b) (node u v) h = build-two a b u v h.0 (build-flat a u h.0) (build-flat b v h.1)
  build-flat (arrow a b) (leaf w) h = absurd h
  build-flat (arrow a b) (node u v) h = build-two a b u v h.0 (build-flat a u h.0) (build-flat b v h.1)
  build-flat (lolli a b) (leaf w) h = absurd h
  build-flat (lolli a b) (node u v) h = build-two a b u v h.0 (build-flat a u h.0) (build-flat b v h.1)

one_line : (ws : List Stream) → length ws ≡ 1 → flat (build bit ws) ≡ ws
one_line [] e = absurd (omega arith)
one_line (w ∷ []) e = refl
one_line (w ∷ x ∷ ws) e = absurd (omega arith)

flat-parts : (a b : Ty) (ws : List Stream) → length ws ≡ size a + size b
    → (length (take (size a) ws) ≡ size a → flat (build a (take (size a) ws)) ≡ take (size a) ws) → (length (drop (size a) ws) ≡ size b → flat (build b (drop (size a) ws)) ≡ drop (size a) ws)
    → flat (build a (take (size a) ws)) ++ flat (build b (drop (size a) ws)) ≡ ws
flat-parts a b ws e p q =
    ap₂ ◌++◌ (p (length-take-le (size a) ws (omega arith))) (q (let l = length-drop (size a) ws in omega arith)) ∙ take-append-drop (size a) ws

flat-build : (τ : Ty) (ws : List Stream) → length ws ≡ size τ → flat (build τ ws) ≡ ws
flat-build bit ws e = one_line ws e
flat-build (prod a b) ws e = flat-parts a b ws e (flat-build a (take (size a) ws)) (flat-build b (drop (size a) ws))
flat-build (arrow a b) ws e = flat-parts a b ws e (flat-build a (take (size a) ws)) (flat-build b (drop (size a) ws))
flat-build (lolli a b) ws e = flat-parts a b ws e (flat-build a (take (size a) ws)) (flat-build b (drop (size a) ws))

-- two lists of streams that make one value are one
pub build_inj : (τ : Ty) (ws xs : List Stream) → length ws ≡ size τ → length xs ≡ size τ → build τ ws ≡ build τ xs → ws ≡ xs
build_inj τ ws xs p q e = sym (flat-build τ ws p) ∙ ap flat e ∙ flat-build τ xs q

pub node-left : {u v x y : Val} → node u v ≡ node x y → u ≡ x
node-left e = cc

pub node-right : {u v x y : Val} → node u v ≡ node x y → v ≡ y
node-right e = cc

-- ---- points and wires

module _ (law : Law) (n : ℕ) (β : Bits) where
  -- both ends of each point are equal exactly when a binder's two interfaces show the same
  pub points-lines : (ts : List Bool) (i : ℕ) → All (Works law n β) (points ts i) → lines n β (in_side ts i) ≡ lines n β (out_side ts i)
  points-lines [] i a = refl
  points-lines (false ∷ ts) i a = ap₂ ◌∷◌ (cut-same n (β i) (β (i + 1)) a.0) (points-lines ts (i + 2) a.1)
  points-lines (true ∷ ts) i a = ap₂ ◌∷◌ (cut-same n (β (i + 1)) (β i) (λ t l. sym (a.0 t l))) (points-lines ts (i + 2) a.1)

  pub points_work : (ts : List Bool) (i : ℕ) → lines n β (in_side ts i) ≡ lines n β (out_side ts i) → All (Works law n β) (points ts i)
  points_work [] i e = tt
  points_work (false ∷ ts) i e = (same-cut n (β i) (β (i + 1)) (head-eq_of_cons-eq e), points_work ts (i + 2) (tail-eq_of_cons-eq e))
  points_work (true ∷ ts) i e = (same-cut n (β i) (β (i + 1)) (sym (head-eq_of_cons-eq e)), points_work ts (i + 2) (tail-eq_of_cons-eq e))

module _ (n : ℕ) (β : Bits) where
  -- .. and of each wire exactly when the two interfaces that are joined do
  pub join-lines : (a f : Interface) → dirs f ≡ map not (dirs a) → All (Joined n β) (join a f) → lines n β a ≡ lines n β f
  join-lines [] [] e h = refl
  join-lines [] (y ∷ f) e h = absurd (cons≢nil e)
  join-lines (x ∷ a) [] e h = absurd (nil≢cons e)
  join-lines (out o ∷ a) (inp j ∷ f) e h = ap₂ ◌∷◌ (cut-same n (β o) (β j) h.0) (join-lines a f (tail-eq_of_cons-eq e) h.1)
  join-lines (inp j ∷ a) (out o ∷ f) e h = ap₂ ◌∷◌ (cut-same n (β j) (β o) (λ t l. sym (h.0 t l))) (join-lines a f (tail-eq_of_cons-eq e) h.1)
  join-lines (out o ∷ a) (out p ∷ f) e h = absurd (false≢true (head-eq_of_cons-eq e))
  join-lines (inp j ∷ a) (inp k ∷ f) e h = absurd (true≢false (head-eq_of_cons-eq e))

  pub join_works : (a f : Interface) → lines n β a ≡ lines n β f → All (Joined n β) (join a f)
  join_works [] f e = tt
  join_works (x ∷ a) [] e = tt
  join_works (out o ∷ a) (inp j ∷ f) e = (same-cut n (β o) (β j) (head-eq_of_cons-eq e), join_works a f (tail-eq_of_cons-eq e))
  join_works (inp j ∷ a) (out o ∷ f) e = (same-cut n (β o) (β j) (sym (head-eq_of_cons-eq e)), join_works a f (tail-eq_of_cons-eq e))
  join_works (out o ∷ a) (out p ∷ f) e = join_works a f (tail-eq_of_cons-eq e)
  join_works (inp j ∷ a) (inp k ∷ f) e = join_works a f (tail-eq_of_cons-eq e)
