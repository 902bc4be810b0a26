-- What the card's check answers. Assumes nothing.
use Rattle.std.specs.Prelude.{Result, Ok, Err}
use Rattle.calculus.specs.Answer.{Answer, good, refused}
use Rattle.answers.specs.Refusals.{said_why}
use Rattle.answers.specs.declared.Refusal.{Refusal}

abbrev pub said_judged : Result (Unit {0}) Refusal → Answer (Unit {0})
said_judged (Ok passes) = good tt
said_judged (Err why) = refused (said_why why)
