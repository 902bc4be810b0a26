-- The whole translation, as a call has it (document 01, "Numbers of the refusals"; document 02, L6). Assumes nothing.
use Rattle.std.specs.Prelude.{ℕ, Bool, cond, List, [], ◌++◌, leb, length, drop, replicate}
use Rattle.calculus.specs.Answer.{Answer, good, refused, ◌>>=◌, need}
use Rattle.calculus.specs.Read.{read_sheet}
use Rattle.calculus.specs.Walk.{walk}
use Rattle.calculus.specs.Net.{Net, make, net_of}
use Rattle.calculus.specs.Lean.{lean}
use Rattle.calculus.specs.Makers.{makers_of, lean_makers, written}

-- the full netlist of a sheet, or refusal 2 to 16
unfoldable pub full : List ℕ → Answer Net
full s = do
  σ ← read_sheet s
  _ ← walk σ.edition σ.table σ.term 0 []
  let m = make σ.table σ.term [] 0 in do
    _ ← need (leb m.next 8192) 16 0
    good (net_of m)

-- what a caller wishes: the lean netlist or the full one; the plain kinds 21 and 22, or every element with its node (document 02, L6)
pub record Wish : Type 0 where
  pub lean : Bool
  pub plain : Bool

-- the netlist asked for: yes means lean
abbrev pub asked : Bool → Net → Net
asked wantLean m = cond wantLean (lean m) m

-- the nodes that made its elements, by those of the full one's
abbrev pub asked_makers : Bool → Net → List ℕ → List ℕ
asked_makers wantLean m ks = cond wantLean (lean_makers m ks) ks

-- its bytes, in the kinds asked for
abbrev pub asked_bytes : Wish → Net → List ℕ → List ℕ
asked_bytes w m ks = written w.plain (asked w.lean m) (asked_makers w.lean m ks)

-- the bytes that a call writes, or its refusal: 1, then 2 to 16, then 17
unfoldable pub answer : ℕ → Wish → List ℕ → ℕ → Answer (List ℕ)
answer memory w s room = do
  _ ← need (leb 32768 memory) 1 0
  m ← full s
  let out = asked_bytes w m (makers_of s) in do
    _ ← need (leb (length out) room) 17 (length out)
    good out

-- ---- what a call leaves

-- the first n numbers 0, the later ones as they were
unfoldable pub zeroed : ℕ → List ℕ → List ℕ
zeroed n w = replicate n 0 ++ drop n w

-- a success gives the number of bytes written
abbrev pub said_of : Answer (List ℕ) → Answer ℕ
said_of (good bytes) = good (length bytes)
said_of (refused why) = refused why

-- output bytes after those written stay; on a refusal all stay
abbrev pub out_of : Answer (List ℕ) → List ℕ → List ℕ
out_of (good bytes) out = bytes ++ drop (length bytes) out
out_of (refused why) out = out

-- refusal 1 changes none of the working memory; every other call clears the first 32,768
unfoldable pub work_of : List ℕ → List ℕ
work_of work = cond (leb 32768 (length work)) (zeroed 32768 work) work

pub record Call : Type 0 where
  pub said : Answer ℕ
  pub out : List ℕ
  pub work : List ℕ

-- a call: lent a sheet, an output and working memory, and told which netlist to write, and in which kinds
unfoldable pub call : Wish → List ℕ → List ℕ → List ℕ → Call
call w s out work =
    let a = answer (length work) w s (length out) in
    record { said = said_of a; out = out_of a out; work = work_of work }
