-- `scopes::value_at` meets its contract: by the number's form, and by what its name means. Assumes nothing.
use native.Mathlib.Omega.{arith}
use Rattle.words.specs.Lexed.{from}
use Rattle.words.proofs.WordLaws.{not_yes, not_no}
use Rattle.scopes.proofs.ArgumentLaws.{value-plain, value-unknown, known-low, value-large, value-good}
use Rattle.scopes.proofs.arguments.value_at.Goals as goal

pub returns-then-not-k : goal.returns-then-not-k
returns-then-not-k c = value-plain c.args.text.now c.args.work.now c.args.f (from c.args.text.now c.args.at) c.number_at-k.result c.number_at-k.ensures (not_yes _ c.if-not-k.true)

pub returns-then-e-f : goal.returns-then-e-f
returns-then-e-f c = rw c.at.ensures (value-unknown c.args.text.now c.args.work.now c.args.f (from c.args.text.now c.args.at) c.number_at-k.result c.number_at-k.ensures ((not_no _ c.if-not-k.false)) c.requires.1.1 c.first_of-e.result c.first_of-e.ensures c.if-e-f.true)

pub value_of-v-requires : goal.value_of-v-requires
value_of-v-requires c = (omega (arith, (known-low c.args.text.now c.args.work.now c.args.f (from c.args.text.now c.args.at) c.number_at-k.result c.number_at-k.ensures ((not_no _ c.if-not-k.false)) c.requires.1.1 c.first_of-e.result c.first_of-e.ensures c.if-e-f.false), c.requires.1.1.places.most), c.requires.1.1.places.room)

pub returns-then-n-gt255 : goal.returns-then-n-gt255
returns-then-n-gt255 c = rw c.at-then-n-gt255.ensures (value-large c.args.text.now c.args.work.now c.args.f (from c.args.text.now c.args.at) c.number_at-k.result c.number_at-k.ensures ((not_no _ c.if-not-k.false)) c.requires.1.1 c.first_of-e.result c.first_of-e.ensures c.if-e-f.false c.value_of-v.result c.value_of-v.ensures.0 c.if-n-gt255.true)

pub returns : goal.returns
returns c = value-good c.args.text.now c.args.work.now c.args.f (from c.args.text.now c.args.at) c.number_at-k.result c.number_at-k.ensures ((not_no _ c.if-not-k.false)) c.requires.1.1 c.first_of-e.result c.first_of-e.ensures c.if-e-f.false c.value_of-v.result c.value_of-v.ensures.0 c.if-n-gt255.false
