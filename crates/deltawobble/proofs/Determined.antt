-- Two results that the contract of a function for C allows for one call are equal: the answer, the output and the working memory.
-- Assumes nothing.
use mathlib.Core.Path.{◌≡◌, sym, ◌∙◌}
use contract.Lifetimes.{Lfts}
use denote.Triple.Clauses.{AtExit}
use borrow.Fn.Kinds.{Dens, res_t, ended_of}
use Rattle.laws.proofs.OneResult.{Results}
use Rattle.translator.proofs.SaidLaws.{SameResult}
use Rattle.deltawobble.proofs.deltawobble_translate.Kinds as c-translate
use Rattle.deltawobble.proofs.deltawobble_translate.Reads as c-translate-reads
use Rattle.deltawobble.proofs.deltawobble_batch.Kinds as c-batch
use Rattle.deltawobble.proofs.deltawobble_batch.Reads as c-batch-reads
use Rattle.deltawobble.proofs.deltawobble_check.Kinds as c-check
use Rattle.deltawobble.proofs.deltawobble_check.Reads as c-check-reads
use Rattle.deltawobble.proofs.deltawobble_run.Kinds as c-run
use Rattle.deltawobble.proofs.deltawobble_run.Reads as c-run-reads
use Rattle.deltawobble.proofs.deltawobble_lanes.Kinds as c-lanes
use Rattle.deltawobble.proofs.deltawobble_lanes.Reads as c-lanes-reads
use Rattle.deltawobble.proofs.deltawobble_never.Kinds as c-never
use Rattle.deltawobble.proofs.deltawobble_never.Reads as c-never-reads
use Rattle.deltawobble.proofs.deltawobble_verilog.Kinds as c-verilog
use Rattle.deltawobble.proofs.deltawobble_verilog.Reads as c-verilog-reads
use Rattle.deltawobble.proofs.deltawobble_back.Kinds as c-back
use Rattle.deltawobble.proofs.deltawobble_back.Reads as c-back-reads
use Rattle.deltawobble.proofs.deltawobble_make.Kinds as c-make
use Rattle.deltawobble.proofs.deltawobble_make.Reads as c-make-reads
use Rattle.deltawobble.proofs.deltawobble_stretch.Kinds as c-stretch
use Rattle.deltawobble.proofs.deltawobble_stretch.Reads as c-stretch-reads

pub determined_deltawobble_translate : (κs : Lfts 3) (a : Dens κs c-translate.ps) (x y : (res_t c-translate.r κs).Denot) (s t : AtExit (ended_of 3 c-translate.ps c-translate.r) κs)
    → c-translate-reads.Post κs a x s → c-translate-reads.Post κs a y t → SameResult x y s.1.0.now t.1.0.now s.1.1.0.now t.1.1.0.now
determined_deltawobble_translate κs a x y s t f g = record { answer = f.said ∙ sym g.said; out = f.wrote ∙ sym g.wrote; work = f.kept ∙ sym g.kept }

pub determined_deltawobble_batch : (κs : Lfts 5) (a : Dens κs c-batch.ps) (x y : (res_t c-batch.r κs).Denot) (s t : AtExit (ended_of 5 c-batch.ps c-batch.r) κs)
    → c-batch-reads.Post κs a x s → c-batch-reads.Post κs a y t
    → SameResult x y s.1.1.0.now t.1.1.0.now s.1.1.1.1.0.now t.1.1.1.1.0.now × (s.1.1.1.0.now ≡ t.1.1.1.0.now)
determined_deltawobble_batch κs a x y s t f g =
    (record { answer = f.said ∙ sym g.said; out = f.wrote ∙ sym g.wrote; work = f.kept ∙ sym g.kept }, f.stored ∙ sym g.stored)

pub determined_deltawobble_check : Results c-check.ps c-check.r c-check-reads.Post (λ κs s. s.1.0.now)
determined_deltawobble_check κs a x y s t f g = (f.said ∙ sym g.said, f.kept ∙ sym g.kept)

pub determined_deltawobble_run : (κs : Lfts 5) (a : Dens κs c-run.ps) (x y : (res_t c-run.r κs).Denot) (s t : AtExit (ended_of 5 c-run.ps c-run.r) κs)
    → c-run-reads.Post κs a x s → c-run-reads.Post κs a y t → SameResult x y s.1.1.1.0.now t.1.1.1.0.now s.1.1.1.1.0.now t.1.1.1.1.0.now
determined_deltawobble_run κs a x y s t f g = record { answer = f.said ∙ sym g.said; out = f.wrote ∙ sym g.wrote; work = f.kept ∙ sym g.kept }

pub determined_deltawobble_lanes : (κs : Lfts 5) (a : Dens κs c-lanes.ps) (x y : (res_t c-lanes.r κs).Denot) (s t : AtExit (ended_of 5 c-lanes.ps c-lanes.r) κs)
    → c-lanes-reads.Post κs a x s → c-lanes-reads.Post κs a y t
    → SameResult x y s.1.1.1.0.now t.1.1.1.0.now s.1.1.1.1.0.now t.1.1.1.1.0.now × (s.1.1.0.now ≡ t.1.1.0.now)
determined_deltawobble_lanes κs a x y s t f g =
    (record { answer = f.said ∙ sym g.said; out = f.wrote ∙ sym g.wrote; work = f.kept ∙ sym g.kept }, f.left ∙ sym g.left)

pub determined_deltawobble_never : (κs : Lfts 6) (a : Dens κs c-never.ps) (x y : (res_t c-never.r κs).Denot) (s t : AtExit (ended_of 6 c-never.ps c-never.r) κs)
    → c-never-reads.Post κs a x s → c-never-reads.Post κs a y t
    → SameResult x y s.1.1.1.1.0.now t.1.1.1.1.0.now s.1.1.1.1.1.0.now t.1.1.1.1.1.0.now
    × (s.1.1.0.now ≡ t.1.1.0.now) × (s.1.1.1.0.now ≡ t.1.1.1.0.now)
determined_deltawobble_never κs a x y s t f g = (
  record { answer = f.packs.said ∙ sym g.packs.said; out = f.packs.wrote ∙ sym g.packs.wrote; work = f.packs.kept ∙ sym g.packs.kept },
  f.left_trail ∙ sym g.left_trail,
  f.left_queue ∙ sym g.left_queue,
)

pub determined_deltawobble_verilog : (κs : Lfts 3) (a : Dens κs c-verilog.ps) (x y : (res_t c-verilog.r κs).Denot) (s t : AtExit (ended_of 3 c-verilog.ps c-verilog.r) κs)
    → c-verilog-reads.Post κs a x s → c-verilog-reads.Post κs a y t → SameResult x y s.1.0.now t.1.0.now s.1.1.0.now t.1.1.0.now
determined_deltawobble_verilog κs a x y s t f g = record { answer = f.said ∙ sym g.said; out = f.wrote ∙ sym g.wrote; work = f.kept ∙ sym g.kept }

pub determined_deltawobble_back : (κs : Lfts 3) (a : Dens κs c-back.ps) (x y : (res_t c-back.r κs).Denot) (s t : AtExit (ended_of 3 c-back.ps c-back.r) κs)
    → c-back-reads.Post κs a x s → c-back-reads.Post κs a y t → SameResult x y s.1.0.now t.1.0.now s.1.1.0.now t.1.1.0.now
determined_deltawobble_back κs a x y s t f g = record { answer = f.said ∙ sym g.said; out = f.wrote ∙ sym g.wrote; work = f.kept ∙ sym g.kept }

pub determined_deltawobble_make : (κs : Lfts 4) (a : Dens κs c-make.ps) (x y : (res_t c-make.r κs).Denot) (s t : AtExit (ended_of 4 c-make.ps c-make.r) κs)
    → c-make-reads.Post κs a x s → c-make-reads.Post κs a y t
    → SameResult x y s.1.0.now t.1.0.now s.1.1.1.0.now t.1.1.1.0.now × (s.1.1.0.now ≡ t.1.1.0.now)
determined_deltawobble_make κs a x y s t f g =
    (record { answer = f.said ∙ sym g.said; out = f.wrote ∙ sym g.wrote; work = f.kept ∙ sym g.kept }, f.told ∙ sym g.told)

pub determined_deltawobble_stretch : (κs : Lfts 1) (a : Dens κs c-stretch.ps) (x y : (res_t c-stretch.r κs).Denot) (s t : AtExit (ended_of 1 c-stretch.ps c-stretch.r) κs)
    → c-stretch-reads.Post κs a x s → c-stretch-reads.Post κs a y t → x ≡ y
determined_deltawobble_stretch κs a x y s t f g = f ∙ sym g
