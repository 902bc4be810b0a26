-- A refusal of the definitions tells the code's refusal. Assumes nothing.
use Prim.Native.Nat.{ℕ}
use mathlib.Core.Path.{◌≡◌, refl, sym, ap, ◌∙◌}
use mathlib.Core.List.{List, [], ◌∷◌}
use lib.ListN.{get_or}
use Rattle.calculus.specs.Answer.{Refusal}
use Rattle.answers.specs.Refusals.{reason_number, said_why}
use Rattle.answers.specs.declared.Reason.{Reason}
use Rattle.answers.specs.declared.Refusal.{Refusal as Why}

-- the reasons by their numbers; 0, 38 and 39 stand for nothing
reasons : List Reason
reasons =
    Reason.LittleMemory
    ∷ Reason.LittleMemory
    ∷ Reason.LongSheet
    ∷ Reason.CutShort
    ∷ Reason.UnknownKind
    ∷ Reason.UnknownType
    ∷ Reason.WrongSort
    ∷ Reason.RepeatedType
    ∷ Reason.PastLimit
    ∷ Reason.BytesBehind
    ∷ Reason.NotInScope
    ∷ Reason.OtherSort
    ∷ Reason.Misfit
    ∷ Reason.UsedAgain
    ∷ Reason.Unused
    ∷ Reason.UnknownPart
    ∷ Reason.ManyTerminals
    ∷ Reason.ShortOutput
    ∷ Reason.VerilogRing
    ∷ Reason.RingWithoutRegister
    ∷ Reason.WrongBits
    ∷ Reason.BrokenRecord
    ∷ Reason.WrongTerminal
    ∷ Reason.NotDrivenOnce
    ∷ Reason.WrongBatch
    ∷ Reason.PointBack
    ∷ Reason.WrongPartCount
    ∷ Reason.RootNoChain
    ∷ Reason.CardRing
    ∷ Reason.UnreadOutput
    ∷ Reason.LongText
    ∷ Reason.NoWord
    ∷ Reason.OtherWordDue
    ∷ Reason.UnknownName
    ∷ Reason.TextLimit
    ∷ Reason.WrongSide
    ∷ Reason.DefinedAbove
    ∷ Reason.ShortPlaces
    ∷ Reason.LittleMemory
    ∷ Reason.LittleMemory
    ∷ Reason.CanShow
    ∷ Reason.ManyRegisters
    ∷ Reason.ManyInputs
    ∷ Reason.WrongStarts
    ∷ Reason.NoSuchOutput
    ∷ Reason.ShortQueue
    ∷ []

reason_of : ℕ → Reason
reason_of n = get_or reasons n Reason.LittleMemory

told : (r : Reason) → reason_of (reason_number r) ≡ r
unfolding reason_of reasons
told Reason.LittleMemory = refl
told Reason.LongSheet = refl
told Reason.CutShort = refl
told Reason.UnknownKind = refl
told Reason.UnknownType = refl
told Reason.WrongSort = refl
told Reason.RepeatedType = refl
told Reason.PastLimit = refl
told Reason.BytesBehind = refl
told Reason.NotInScope = refl
told Reason.OtherSort = refl
told Reason.Misfit = refl
told Reason.UsedAgain = refl
told Reason.Unused = refl
told Reason.UnknownPart = refl
told Reason.ManyTerminals = refl
told Reason.ShortOutput = refl
told Reason.VerilogRing = refl
told Reason.RingWithoutRegister = refl
told Reason.WrongBits = refl
told Reason.BrokenRecord = refl
told Reason.WrongTerminal = refl
told Reason.NotDrivenOnce = refl
told Reason.WrongBatch = refl
told Reason.PointBack = refl
told Reason.WrongPartCount = refl
told Reason.RootNoChain = refl
told Reason.CardRing = refl
told Reason.UnreadOutput = refl
told Reason.LongText = refl
told Reason.NoWord = refl
told Reason.OtherWordDue = refl
told Reason.UnknownName = refl
told Reason.TextLimit = refl
told Reason.WrongSide = refl
told Reason.DefinedAbove = refl
told Reason.ShortPlaces = refl
told Reason.CanShow = refl
told Reason.ManyRegisters = refl
told Reason.ManyInputs = refl
told Reason.WrongStarts = refl
told Reason.NoSuchOutput = refl
told Reason.ShortQueue = refl

pub why_of : Refusal → Why
why_of r = record { reason = reason_of r.number; place = r.place; wanted = r.wanted; found = r.found }

pub why_told : (r : Why) → why_of (said_why r) ≡ r
unfolding why_of
why_told r = ap (λ (x : Reason). record { reason = x; place = r.place; wanted = r.wanted; found = r.found }) (told r.reason)

pub same_reason : (r q : Reason) → reason_number r ≡ reason_number q → r ≡ q
same_reason r q e = sym (told r) ∙ ap reason_of e ∙ told q

pub same_why : (r q : Why) → said_why r ≡ said_why q → r ≡ q
same_why r q e = sym (why_told r) ∙ ap why_of e ∙ why_told q
