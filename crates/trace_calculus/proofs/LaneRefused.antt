-- Sixteen traces at once that are refused: state and output stay. Assumes nothing.
use Prim.Native.Nat.{ℕ}
use mathlib.Core.Path.{◌≡◌, refl, sym}
use mathlib.Core.List.{List}
use lib.ListN.{length}
use Rattle.calculus.specs.Answer.{Refusal, Answer, good, refused}
use Rattle.calculus.specs.Translate.{said_of, out_of}
use Rattle.calculus.proofs.Answers.{refused≢good}
use Rattle.trace_calculus.specs.Lanes.{LanesEnd, lanes_trace, outs, state_of, lanes_call}
use Rattle.trace_calculus.specs.LanesPromise.{LanesRefused}

state_stays_lem : (a : Answer LanesEnd) (state : List ℕ) (why : Refusal) → said_of (outs a) ≡ refused why → state_of a state ≡ state
state_stays_lem (good w) state why e = absurd (refused≢good (sym e))
state_stays_lem (refused other) state why e = refl

out_stays : (a : Answer LanesEnd) (output : List ℕ) (why : Refusal) → said_of (outs a) ≡ refused why → out_of (outs a) output ≡ output
out_stays (good w) output why e = absurd (refused≢good (sym e))
out_stays (refused other) output why e = refl

pub lanes_refused : (s bits state : List ℕ) (n : ℕ) (output work : List ℕ) → LanesRefused s bits state n output work
unfolding lanes_call
lanes_refused s bits state n output work = record {
  state_stays = λ why e. state_stays_lem (lanes_trace (length work) s n bits state (length output)) state why e;
  out_stays_lem = λ why e. out_stays (lanes_trace (length work) s n bits state (length output)) output why e;
}
