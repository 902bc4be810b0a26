-- A sheet that is read, walked and counted is accepted: what `make_net` asks for. Assumes nothing.
use Prim.Native.Nat.{ℕ, ◌≤◌}
use mathlib.Core.Path.{◌≡◌, refl}
use mathlib.Core.List.{List, []}
use borrow.Author.Tests.{le-leb}
use lib.Dec.{leb}
use lib.ListN.{length}
use Rattle.calculus.specs.Answer.{good}
use Rattle.calculus.specs.Read.{Sheet, read_sheet}
use Rattle.calculus.specs.Walk.{Found, walk}
use Rattle.calculus.specs.Net.{make, net_of}
use Rattle.calculus.specs.Translate.{full}
use Rattle.sheet_theorems.proofs.Going.{goes, passes}
use Rattle.memory.specs.Map.{memory_size}
use Rattle.wiring.specs.Whole.{Read, Accepted}

module _ (s : List ℕ) (σ : Sheet) (r : Found) (e : read_sheet s ≡ good σ) (g : walk σ.edition σ.table σ.term 0 [] ≡ good r) (few : (make σ.table σ.term [] 0).next ≤ 8192) where
  pub full_good : full s ≡ good (net_of (make σ.table σ.term [] 0))
  unfolding full
  full_good = goes (read_sheet s) σ _ e (goes (walk σ.edition σ.table σ.term 0 []) r _ g (passes (leb (make σ.table σ.term [] 0).next 8192) 16 0 _ (rw (le-leb _ 8192 few) tt) refl))

  pub accepted : {b sizes w : List ℕ} {at n : ℕ} (t : Read b sizes at n) → t.whole ≡ s → memory_size ≤ length w → Accepted b sizes w at
  accepted {n = n} t q h = record { nodes = n; read = t; net = net_of (make σ.table σ.term [] 0); is = rw q full_good; memory = h }
