-- Programs that no caller wants (document 01, "How tight the contracts are"), as what a call of each leaves. Assumes nothing.
use Rattle.std.specs.Prelude.{ℕ, suc, ◌+◌, ◌≡◌, false, List, [], ◌∷◌, ◌++◌, length, drop}
use Rattle.calculus.specs.Answer.{Answer, good, refuse, refused}
use Rattle.calculus.specs.Translate.{Wish, work_of, Call, call}

abbrev pub Program : Type 0
Program = Wish → List ℕ → List ℕ → List ℕ → Call

-- it refuses all sheets, with whichever number and place
abbrev pub refuses_all : ℕ → ℕ → Program
refuses_all number place w s out work = record { said = refuse number place; out = out; work = work_of work }

-- it writes P1's netlist, in plain kinds, for all
abbrev pub writes_p1 : Program
writes_p1 w s out work =
    let bytes : List ℕ = 0x22 ∷ 0 ∷ 0 ∷ 0 ∷ 0x24 ∷ 0 ∷ 0 ∷ [] in
    record { said = good (length bytes); out = bytes ++ drop (length bytes) out; work = work_of work }

-- it writes nothing and reports success, with whichever length
abbrev pub writes_nothing : ℕ → Program
writes_nothing n w s out work = record { said = good n; out = out; work = work_of work }

-- it reports an invented length: k + 1 too many
abbrev pub longer : ℕ → Answer ℕ → Answer ℕ
longer k (good n) = good (n + suc k)
longer k (refused why) = refused why

abbrev pub invents_length : ℕ → Program
invents_length k w s out work = let c = call w s out work in record { said = longer k c.said; out = c.out; work = c.work }

-- its lean netlist copies the full one
abbrev pub lean_copies_full : Program
lean_copies_full w s out work = call (record { lean = false; plain = w.plain }) s out work

-- a program breaks the contract: on some input it leaves something else than a call
pub record BreaksContract (program : Program) : Type 0 where
  pub wish : Wish
  pub sheet : List ℕ
  pub out : List ℕ
  pub work : List ℕ
  pub differs : program wish sheet out work ≡ call wish sheet out work → ⊥
