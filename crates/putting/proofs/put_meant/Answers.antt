-- `putting::put_meant` meets its contract: the first row that is meant is the clause that Making finds. Assumes nothing.
use Rattle.putting.proofs.MeantLaws.{meant_ask, meant-place, meant-says}
use Rattle.putting.proofs.put_meant.Goals as goal

pub clause_for-k-requires : goal.clause_for-k-requires
clause_for-k-requires c = meant_ask c.args.text.now c.args.work.now c.args.q c.args.frame c.args.top c.args.into c.requires c.frame_at-f.result c.frame_at-f.ensures

pub placed-requires : goal.placed-requires
placed-requires c = meant-place c.args.text.now c.args.work.now c.args.q c.args.frame c.args.top c.args.into c.requires c.frame_at-f.result c.frame_at-f.ensures c.clause_for-k.result c.clause_for-k.ensures

pub returns : goal.returns
returns c = meant-says c.args.text.now c.args.work.now c.args.q c.args.frame c.args.top c.args.into c.requires c.frame_at-f.result c.frame_at-f.ensures c.clause_for-k.result c.clause_for-k.ensures c.placed.result c.placed.new.work c.placed.ensures
