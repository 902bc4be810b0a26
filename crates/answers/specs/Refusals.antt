-- A refusal of the code, in the terms of the definitions. Assumes nothing.
use Rattle.std.specs.Prelude.{ℕ}
use Rattle.calculus.specs.Answer.{Refusal}
use Rattle.answers.specs.declared.Reason.{Reason}
use Rattle.answers.specs.declared.Refusal.{Refusal as Why}

-- the number that documents and callers know a reason by
abbrev pub reason_number : Reason → ℕ
reason_number Reason.LittleMemory = 1
reason_number Reason.LongSheet = 2
reason_number Reason.CutShort = 3
reason_number Reason.UnknownKind = 4
reason_number Reason.UnknownType = 5
reason_number Reason.WrongSort = 6
reason_number Reason.RepeatedType = 7
reason_number Reason.PastLimit = 8
reason_number Reason.BytesBehind = 9
reason_number Reason.NotInScope = 10
reason_number Reason.OtherSort = 11
reason_number Reason.Misfit = 12
reason_number Reason.UsedAgain = 13
reason_number Reason.Unused = 14
reason_number Reason.UnknownPart = 15
reason_number Reason.ManyTerminals = 16
reason_number Reason.ShortOutput = 17
reason_number Reason.VerilogRing = 18
reason_number Reason.RingWithoutRegister = 19
reason_number Reason.WrongBits = 20
reason_number Reason.BrokenRecord = 21
reason_number Reason.WrongTerminal = 22
reason_number Reason.NotDrivenOnce = 23
reason_number Reason.WrongBatch = 24
reason_number Reason.PointBack = 25
reason_number Reason.WrongPartCount = 26
reason_number Reason.RootNoChain = 27
reason_number Reason.CardRing = 28
reason_number Reason.UnreadOutput = 29
reason_number Reason.LongText = 30
reason_number Reason.NoWord = 31
reason_number Reason.OtherWordDue = 32
reason_number Reason.UnknownName = 33
reason_number Reason.TextLimit = 34
reason_number Reason.WrongSide = 35
reason_number Reason.DefinedAbove = 36
reason_number Reason.ShortPlaces = 37
reason_number Reason.CanShow = 40
reason_number Reason.ManyRegisters = 41
reason_number Reason.ManyInputs = 42
reason_number Reason.WrongStarts = 43
reason_number Reason.NoSuchOutput = 44
reason_number Reason.ShortQueue = 45

-- a refusal that names no types
abbrev pub refusal_at : Reason → ℕ → Why
refusal_at reason place = record { reason = reason; place = place; wanted = 0; found = 0 }

abbrev pub said_why : Why → Refusal
said_why r = record { number = reason_number r.reason; place = r.place; wanted = r.wanted; found = r.found }
