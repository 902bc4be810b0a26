-- `putting::put_main` meets its contract: the first row of `main` is the clause that Making finds. Assumes nothing.
use Rattle.putting.proofs.MainLaws.{main_rows, main-place, main-says}
use Rattle.putting.proofs.put_main.Goals as goal

pub first_main-k-requires : goal.first_main-k-requires
first_main-k-requires c = main_rows c.args.text.now c.args.work.now c.args.into c.requires c.row_count-n.result c.row_count-n.ensures

pub placed-requires : goal.placed-requires
placed-requires c = main-place c.args.text.now c.args.work.now c.args.into c.requires c.row_count-n.result c.row_count-n.ensures c.first_main-k.result c.first_main-k.ensures

pub returns : goal.returns
returns c = main-says c.args.text.now c.args.work.now c.args.into c.requires c.row_count-n.result c.row_count-n.ensures c.first_main-k.result c.first_main-k.ensures c.args.place c.placed.result c.placed.new.work c.placed.ensures
