-- `translator::make` meets its contract: the reader's verdict is the definition's. Assumes nothing.
use mathlib.Core.Path.{refl, sym, ap, subst, ◌∙◌}
use Rattle.answers.proofs.Passed.{passed}
use Rattle.std.specs.declared.result.Result.{Result}
use Rattle.answers.specs.declared.Refusal.{Refusal}
use Rattle.translator.specs.declared.Made.{Made}
use Rattle.translator.specs.Made.{MakeLeaves}
use Rattle.calculus.specs.Read.{edition_of}
use Rattle.records.specs.Editions.{edition_by}
use Rattle.sheet.proofs.ReadLaws.{edition_by_lem}
use Rattle.sheet.proofs.Told.{told, untold}
use Rattle.translator.proofs.StageLaws.{small_makes, unread_makes}
use Rattle.translator.proofs.make.Goals as goal

pub returns-then-work-lt32768 : goal.returns-then-work-lt32768
returns-then-work-lt32768 c =
    let a = c.args in
    rw c.at.ensures (small_makes a.plain a.sheet.now a.work.now c.if-work-lt32768.true)

pub checked-requires : goal.checked-requires
checked-requires c =
    let a = c.args in
    (c.if-work-lt32768.false, record { read = record { whole = a.sheet.now; behind = c.records_of.ensures.bytes; types = _; told = told a.sheet.now _ c.read.ensures c.in_ok-r.was }; count = refl; edition = ap edition_by c.is_second-second.ensures ∙ edition_by_lem (edition_of a.sheet.now) })

pub returns-in_err-r : goal.returns-in_err-r
returns-in_err-r c =
    let a = c.args in
    subst (λ (x : Result Made Refusal). MakeLeaves a.plain x a.sheet.now a.work.now a.work.now) (sym (passed _ c.from_residual.ensures.1))
    (unread_makes a.sheet.now a.work.now c.if-work-lt32768.false a.plain _ (untold a.sheet.now _ c.read.ensures c.in_err-r.was))

pub returns : goal.returns
returns c =
    let a = c.args in
    c.checked.ensures (record { read = record { whole = a.sheet.now; behind = c.records_of.ensures.bytes; types = _; told = told a.sheet.now _ c.read.ensures c.in_ok-r.was }; count = refl; edition = ap edition_by c.is_second-second.ensures ∙ edition_by_lem (edition_of a.sheet.now) })
