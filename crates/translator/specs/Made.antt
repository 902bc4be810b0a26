-- What the stages that every call begins with answer and leave: the full netlist in the working memory, or refusal 1 to 16 (document 01,
-- "Numbers of the refusals"). Assumes nothing.
use Rattle.std.specs.Prelude.{ℕ, ◌≡◌, Bool, false, Result, Ok, Err, List, [], leb, length}
use Rattle.calculus.specs.Answer.{Answer, good, refused, ◌>>=◌, need}
use Rattle.answers.specs.Refusals.{said_why}
use Rattle.calculus.specs.Net.{Net}
use Rattle.calculus.specs.Record.{All}
use Rattle.calculus.specs.Read.{read_sheet}
use Rattle.calculus.specs.Walk.{walk}
use Rattle.calculus.specs.Translate.{full, work_of}
use Rattle.calculus.specs.Makers.{makers_of}
use Rattle.memory.specs.Map.{makers_at, region, net_in, Ready}
use Rattle.calculus.specs.NetRead.{Known}
use Rattle.answers.specs.declared.Refusal.{Refusal}
use Rattle.translator.specs.declared.Made.{Made}

-- the full netlist of a sheet for a call that is lent so much working memory, or refusal 1, then 2 to 16
unfoldable pub lent : ℕ → List ℕ → Answer Net
lent memory s = do
  _ ← need (leb 32768 memory) 1 0
  full s

-- the netlist that stands in the working memory, or the refusal
abbrev pub said_made : Result Made Refusal → List ℕ → Answer Net
said_made (Ok m) work = good (net_in work m.counts.elements m.counts.wires m.counts.pins)
said_made (Err why) work = refused (said_why why)

-- what those who go on with that netlist ask for
abbrev pub Standing : Result Made Refusal → List ℕ → Type 0
Standing (Ok m) work = (Ready work m.counts.elements m.counts.wires m.counts.pins) × (All Known (net_in work m.counts.elements m.counts.wires m.counts.pins).elements)
Standing (Err why) work = Unit {0}

-- the nodes that made its elements, where plain kinds are not wished
abbrev pub Named : Bool → Result Made Refusal → List ℕ → List ℕ → Type 0
Named plain (Ok m) s work = plain ≡ false → region work makers_at m.counts.elements ≡ makers_of s
Named plain (Err why) s work = Unit {0}

-- the number of the root's type, where 2 to 15 do not refuse
unfoldable pub root_number : List ℕ → Answer ℕ
root_number s = do
  σ ← read_sheet s
  r ← walk σ.edition σ.table σ.term 0 []
  good r.type

-- .. stands beside the counts
abbrev pub RootTold : Result Made Refusal → List ℕ → Type 0
RootTold (Ok m) s = root_number s ≡ good m.root
RootTold (Err why) s = Unit {0}

-- cleared, the working memory is what it would have been before
abbrev pub Keeps : List ℕ → List ℕ → Type 0
Keeps work after = work_of after ≡ work_of work

pub record MakeLeaves (plain : Bool) (r : Result Made Refusal) (s work after : List ℕ) : Type 0 where
  pub said : said_made r after ≡ lent (length work) s
  pub standing : Standing r after
  pub named : Named plain r s after
  pub root : RootTold r s
  pub keeps : Keeps work after
