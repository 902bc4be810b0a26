-- What `back` wrote, handed to `translate`: accepted, and its lean netlist has the same parts with the same drivers (document 02, L11). Assumes
-- nothing.
use Prim.Native.Nat.{ℕ, ◌≤◌}
use mathlib.Core.Path.{◌≡◌, refl, ap, ◌∙◌}
use mathlib.Core.Bool.{Bool, true}
use mathlib.Core.List.{List}
use native.Mathlib.Omega.{arith}
use lib.Dec.{leb}
use lib.ListN.{length, take, drop}
use lib.Seq.{take_at}
use borrow.Author.Tests.{le-leb}
use Rattle.calculus.specs.Answer.{Answer, good, refused}
use Rattle.calculus.proofs.Answers.{refused≢good, good-inj, on-bind, on-need}
use Rattle.calculus.specs.Net.{Net, net_bytes}
use Rattle.calculus.specs.Lean.{lean}
use Rattle.calculus.specs.NetRead.{read_net}
use Rattle.calculus.specs.Translate.{full, answer, said_of, out_of, call}
use Rattle.calculus.specs.Known.{lean_plain}
use Rattle.circuit_theorems.proofs.Bounds.{length_enough, lean_shorter}
use Rattle.circuit_theorems.proofs.Told.{bytes_tell}
use Rattle.foreign_calculus.specs.Foreign.{Bytes}
use Rattle.back_calculus.specs.Returned.{returned, back_answer, back_call}
use Rattle.back_calculus.specs.Promises.{TranslatesBack}
use Rattle.back_theorems.proofs.Main.{came-back, same_parts, same_drivers}

-- the bytes that a call of `back` wrote are the definition's sheet
pub record WroteSheet (told : Bool) (s out : List ℕ) (n : ℕ) (after : List ℕ) : Type 0 where
  pub sheet : List ℕ
  pub is : returned told s ≡ good sheet
  pub wrote : take n after ≡ sheet

answered : (memory : ℕ) (told : Bool) (s sheet : List ℕ) (room : ℕ) → back_answer memory told s room ≡ good sheet → returned told s ≡ good sheet
unfolding back_answer
answered memory told s sheet room e =
    on-need (leb 32768 memory) 1 0 _ sheet e λ _ e₁.
    on-bind (returned told s) _ sheet e₁ λ x h e₂.
    on-need (leb (length x) room) 17 (length x) _ sheet e₂ λ _ e₃.
    h ∙ e₃

pub wrote-sheet : (told : Bool) (s out work : List ℕ) (n : ℕ) → (back_call told s out work).said ≡ good n → WroteSheet told s out n (back_call told s out work).out
unfolding back_call
wrote-sheet told s out work n h = by (back_answer (length work) told s (length out)) refl h
  where
    by : (a : Answer (List ℕ)) → back_answer (length work) told s (length out) ≡ a → said_of a ≡ good n → WroteSheet told s out n (out_of a out)
    by (good sheet) e h = record { sheet = sheet; is = answered (length work) told s sheet (length out) e; wrote = take_at sheet (drop (length sheet) out) n (good-inj h) }
    by (refused why) e h = absurd (refused≢good h)

-- a sheet with a full netlist is accepted in plain kinds where 41,344 bytes are lent
module _ (sheet : List ℕ) (net : Net) (made : full sheet ≡ good net) (out work : List ℕ) (enough : 32768 ≤ length work) (room : 41344 ≤ length out) where
  answer-is : answer (length work) lean_plain sheet (length out) ≡ good (net_bytes (lean net))
  unfolding answer
  answer-is = rw (le-leb 32768 (length work) enough, made, le-leb (length (net_bytes (lean net))) (length out) (omega (arith, lean_shorter sheet net made, length_enough sheet net made))) refl

  said-is : (call lean_plain sheet out work).said ≡ good (length (net_bytes (lean net)))
  unfolding call
  said-is = ap said_of answer-is

  told_is : read_net (take (length (net_bytes (lean net))) (call lean_plain sheet out work).out) ≡ good (lean net)
  unfolding call
  told_is =
      ap (λ (a : Answer (List ℕ)). read_net (take (length (net_bytes (lean net))) (out_of a out))) answer-is
      ∙ ap read_net (take_at (net_bytes (lean net)) (drop (length (net_bytes (lean net))) out) (length (net_bytes (lean net))) refl) ∙ bytes_tell sheet net made true

-- what `back` wrote, handed to `translate`
pub back_translates : (told : Bool) (s out work : List ℕ) (n : ℕ) → Bytes s → (back_call told s out work).said ≡ good n → (m : Net) → read_net s ≡ good m
    → (out' work' : List ℕ) → 32768 ≤ length work' → 41344 ≤ length out' → TranslatesBack m (take n (back_call told s out work).out) out' work'
back_translates told s out work n b h m r out' work' enough room =
    let q = wrote-sheet told s out work n h in
    let c = came-back told s q.sheet b q.is m r in
    let e = c.accepted in
    rw q.wrote (record {
      count = length (net_bytes (lean c.net));
      said = said-is q.sheet c.net e out' work' enough room;
      net = lean c.net;
      told = told_is q.sheet c.net e out' work' enough room;
      same_parts = same_parts told s q.sheet b q.is m c.net r e;
      same_drivers = same_drivers told s q.sheet b q.is m c.net r e;
    })
