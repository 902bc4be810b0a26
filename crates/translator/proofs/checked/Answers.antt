-- `translator::checked` meets its contract: the walk's verdict is the definition's. Assumes nothing.
use mathlib.Core.Path.{sym, ap, subst, ◌∙◌}
use Rattle.answers.proofs.Passed.{passed}
use Rattle.std.specs.declared.result.Result.{Result}
use Rattle.answers.specs.declared.Refusal.{Refusal}
use Rattle.translator.specs.declared.Made.{Made}
use Rattle.translator.specs.Made.{MakeLeaves}
use Rattle.typing.specs.Answers.{said_typing}
use Rattle.translator.proofs.StageLaws.{check-reads, typed-found, untyped-makes}
use Rattle.translator.proofs.checked.Goals as goal

pub check-requires : goal.check-requires
check-requires c = check-reads c.requires.1

pub counted-requires : goal.counted-requires
counted-requires c =
    let p = c.requires.1 in
    let f = typed-found p.read.whole c.args.work.now c.requires.0 p.read.told.sheet p.read.told.is p.edition p.read.behind _ (sym c.check.ensures ∙ ap said_typing c.in_ok-root.was) in
    (c.requires.0, record { read = p.read; found = f.0; walked = f.1; root_is = f.2 })

pub returns-in_err-root : goal.returns-in_err-root
returns-in_err-root c =
    λ p. subst (λ (x : Result Made Refusal). MakeLeaves c.args.plain x p.read.whole c.args.work.now c.args.work.now) (sym (passed _ c.from_residual.ensures.1))
    (untyped-makes p.read.whole c.args.work.now c.requires.0 p.read.told.sheet p.read.told.is p.edition p.read.behind c.args.plain _ (sym c.check.ensures ∙ ap said_typing c.in_err-root.was))

pub returns : goal.returns
returns c =
    λ p.
    let f = typed-found p.read.whole c.args.work.now c.requires.0 p.read.told.sheet p.read.told.is p.edition p.read.behind _ (sym c.check.ensures ∙ ap said_typing c.in_ok-root.was) in
    c.counted.ensures (record { read = p.read; found = f.0; walked = f.1; root_is = f.2 })
