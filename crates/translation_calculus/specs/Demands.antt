-- The demands, as statements about what a call leaves. Assumes nothing.
use Rattle.std.specs.Prelude.{ℕ, ◌+◌, ◌≤◌, ◌<◌, ◌≡◌, ◌↔◌, ◌⊎◌, Bool, true, false, List, [], ◌++◌, length, get_or, take, drop}
use Rattle.calculus.specs.Answer.{Answer, good, refused, refuse}
use Rattle.calculus.specs.Types.{Ty}
use Rattle.calculus.specs.Read.{Sheet, read_sheet}
use Rattle.calculus.specs.Rules.{Typed}
use Rattle.calculus.specs.Net.{Net, make, net_of}
use Rattle.calculus.specs.Lean.{lean}
use Rattle.calculus.specs.Makers.{makers_of, drop_nodes}
use Rattle.calculus.specs.Record.{Bits, Law, part_law, Outside}
use Rattle.calculus.specs.Inputs.{made_at_lem, targets, ins}
use Rattle.calculus.specs.NetRead.{read_net}
use Rattle.calculus.specs.Translate.{full, Wish, asked, asked_bytes, Call}

-- ---- demand 1

-- the numbers of the refusals: 1 to 17, and 27 to 29 where the card's profile is asked for
abbrev pub RefusalNumber : Bool → ℕ → Type 0
RefusalNumber false k = (1 ≤ k) × (k ≤ 17)
RefusalNumber true k = ((1 ≤ k) × (k ≤ 17)) ⊎ ((27 ≤ k) × (k ≤ 29))

-- a success wrote bytes to the front of the output and left the rest; a refusal has one of these numbers and a place, and wrote nothing;
-- 17's place is the length needed, so more than the output has
abbrev pub Wrote : Bool → Answer ℕ → List ℕ → List ℕ → Type 0
Wrote card (good n) out after = (bytes : List ℕ) × (length bytes ≡ n) × (n ≤ length out) × (after ≡ bytes ++ drop n out)
Wrote card (refused why) out after = RefusalNumber card why.number × (why.place ≤ 57728) × (why.number ≡ 17 → length out < why.place) × (after ≡ out)

-- the first n numbers are 0, the later ones as they were
pub record Cleared (n : ℕ) (work after : List ℕ) : Type 0 where
  pub same_length : length after ≡ length work
  pub zeros : (i : ℕ) → i < n → get_or after i 0 ≡ 0
  pub later : drop n after ≡ drop n work

-- of a call with the card's profile asked for or not
pub record Demand1 (card : Bool) (w : Wish) (s out work : List ℕ) (c : Call) : Type 0 where
  pub wrote : Wrote card c.said out c.out
  -- too little working memory: refusal 1, and nothing is touched
  pub small : length work < 32768 → (c.said ≡ refuse 1 0) × (c.out ≡ out) × (c.work ≡ work)
  pub cleared : 32768 ≤ length work → Cleared 32768 work c.work

-- ---- demand 2

-- form, limits and room of a call that is to write the netlist of a sheet σ in n bytes
pub record Conditions (w : Wish) (s out work : List ℕ) (σ : Sheet) (n : ℕ) : Type 0 where
  pub memory : 32768 ≤ length work
  pub reads : read_sheet s ≡ good σ
  pub terminals : (make σ.table σ.term [] 0).next ≤ 8192
  pub needs : length (asked_bytes w (net_of (make σ.table σ.term [] 0)) (makers_of s)) ≡ n
  pub room : n ≤ length out

-- .. and Figure 2 has a derivation
pub record Derivable (w : Wish) (s out work : List ℕ) (n : ℕ) : Type 0 where
  pub sheet : Sheet
  pub conditions : Conditions w s out work sheet n
  pub type : Ty
  pub typed : Typed sheet.edition sheet.table [] sheet.term type

pub record Demand2 (w : Wish) (s out work : List ℕ) (c : Call) : Type 0 where
  -- accepted, with n bytes written, exactly when within form, limits and room there is a derivation
  pub accepted : (n : ℕ) → (c.said ≡ good n) ↔ Derivable w s out work n
  -- and the bytes written are the definition's
  pub bytes : (n : ℕ) → c.said ≡ good n → (σ : Sheet) → read_sheet s ≡ good σ
      → c.out ≡ asked_bytes w (net_of (make σ.table σ.term [] 0)) (makers_of s) ++ drop n out

-- ---- demand 3

-- each input has exactly one wire or stands exactly once among the pins, never both; none is made twice, and nothing else has either
pub record OneDriver (m : Net) : Type 0 where
  pub made_once : (i : ℕ) → made_at_lem m.elements i ≤ 1
  pub driven : (i : ℕ) → made_at_lem m.elements i ≡ 1 → targets m.wires i + ins m.pins i ≡ 1
  pub undriven : (i : ℕ) → made_at_lem m.elements i ≡ 0 → targets m.wires i + ins m.pins i ≡ 0

-- two netlists have the same possible records of pins and part terminals, for any number of ticks
abbrev pub SameRecords : Law → Net → Net → Type 0
SameRecords law m m' = (n : ℕ) (γ π : Bits) → Outside law m n γ π ↔ Outside law m' n γ π

-- the full netlist behind n bytes written: they are its own or those of its lean netlist, and read again, without node numbers, they tell it
pub record Circuit (w : Wish) (s out : List ℕ) (n : ℕ) (after : List ℕ) : Type 1 where
  pub net : Net
  pub of_sheet : full s ≡ good net
  pub needs : length (asked_bytes w net (makers_of s)) ≡ n
  pub wrote : after ≡ asked_bytes w net (makers_of s) ++ drop n out
  pub told : read_net (drop_nodes (take n after)) ≡ good (asked w.lean net)
  pub one : OneDriver net
  -- the lean netlist is the same circuit, for the parts' own law and over any other
  pub same : SameRecords part_law net (lean net)
  pub same_any : (law : Law) → SameRecords law net (lean net)

pub record Demand3 (w : Wish) (s out work : List ℕ) (c : Call) : Type 1 where
  pub circuit : (n : ℕ) → c.said ≡ good n → Circuit w s out n c.out
