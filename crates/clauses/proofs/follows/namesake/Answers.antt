-- `clauses::namesake` meets its contract. Assumes nothing.
use mathlib.Core.Path.{◌∙◌}
use Rattle.words.specs.Next.{run_at}
use Rattle.words.proofs.NameLaws.{names-swap}
use Rattle.clauses.proofs.FollowLaws.{namesake_no, namesake-run}
use Rattle.clauses.proofs.follows.namesake.Goals as goal

pub returns-then-r-sort : goal.returns-then-r-sort
returns-then-r-sort c = namesake_no c.args.text.now c.args.r c.args.sort c.args.at c.if-r-sort.true

pub returns : goal.returns
returns c =
    let a = c.args in
    namesake-run a.text.now a.r a.sort a.at c.if-r-sort.false c.same_run.result (c.same_run.ensures ∙ names-swap (run_at a.text.now a.at) (run_at a.text.now a.r.name))
