-- Sixteen traces at once, by what calls leave: each lane is a call of `run`, and a call goes on where the last one ended. Assumes nothing.
use Prim.Native.Nat.{ℕ, zero, suc, ◌+◌, ◌<◌}
use mathlib.Core.Path.{◌≡◌, refl, sym, ap, ap₂, ◌∙◌}
use mathlib.Core.List.{List, [], ◌∷◌, ◌++◌}
use native.Mathlib.Omega.{arith}
use lib.ListN.{length, drop, take, length-append}
use lib.Seq.{take-append_seam}
use Rattle.calculus.specs.Answer.{Answer, good, refused}
use Rattle.calculus.specs.Translate.{said_of, out_of}
use Rattle.calculus.proofs.Answers.{refused≢good, good-inj}
use Rattle.trace_calculus.specs.Trace.{trace, run_call}
use Rattle.trace_calculus.specs.Lanes.{lane, LanesEnd, lanes_trace, outs, state_of, LanesCall, lanes_call}
use Rattle.trace_calculus.specs.LanesPromise.{lane_out, LanesAreRuns, LanesCallsJoin}
use Rattle.trace_calculus.proofs.LaneBits.{lane-length, lane-append}
use Rattle.trace_theorems.proofs.LaneRuns.{lanes_exact}
use Rattle.trace_theorems.proofs.LaneJoin.{lanes_join}

lane-drop : (k n : ℕ) (xs : List ℕ) → lane k (drop n xs) ≡ drop n (lane k xs)
lane-drop k zero xs = refl
lane-drop k (suc n) [] = refl
lane-drop k (suc n) (x ∷ xs) = lane-drop k n xs

said-lane : (k : ℕ) (a : Answer LanesEnd) → said_of (outs a) ≡ said_of (lane_out k a)
said-lane k (good w) = ap good (sym (lane-length k w.out))
said-lane k (refused why) = refl

out_lane : (k : ℕ) (a : Answer LanesEnd) (output : List ℕ) → lane k (out_of (outs a) output) ≡ out_of (lane_out k a) (lane k output)
out_lane k (good w) output = lane-append k w.out (drop (length w.out) output) ∙ ap (λ (l : List ℕ). lane k w.out ++ l) (lane-drop k (length w.out) output ∙ ap (λ (n : ℕ). drop n (lane k output)) (sym (lane-length k w.out)))
out_lane k (refused why) output = refl

module _ (s bits state : List ℕ) (n : ℕ) (output work : List ℕ) (k : ℕ) (h : k < 16) where
  is-run : lane_out k (lanes_trace (length work) s n bits state (length output)) ≡ trace (length work) s n (lane k bits) (lane k state) (length (lane k output))
  is-run = (lanes_exact (length work) s n bits state (length output)).written k h ∙ ap (trace (length work) s n (lane k bits) (lane k state)) (sym (lane-length k output))

  pub lanes_are_runs : LanesAreRuns s bits state n output work k
  unfolding lanes_call run_call
  lanes_are_runs = record {
    said = said-lane k (lanes_trace (length work) s n bits state (length output)) ∙ ap said_of is-run;
    out = out_lane k (lanes_trace (length work) s n bits state (length output)) output ∙ ap (λ (a : Answer (List ℕ)). out_of a (lane k output)) is-run;
    cleared = refl;
  }

-- ---- a call that ended well

record EndedWell (a : Answer LanesEnd) (i : ℕ) : Type 0 where
  pub went : LanesEnd
  pub is : a ≡ good went
  pub count : length went.out ≡ i

ended_well : (a : Answer LanesEnd) (i : ℕ) → said_of (outs a) ≡ good i → EndedWell a i
ended_well (good w) i e = record { went = w; is = refl; count = good-inj e }
ended_well (refused why) i e = absurd (refused≢good e)

pub lanes_calls_join : (s : List ℕ) (n k : ℕ) (bits more state : List ℕ) → LanesCallsJoin s n k bits more state
unfolding lanes_call
lanes_calls_join s n k bits more state output output' output'' work work' work'' i j a b ea eb sa sb large enough = record {
  said = ap (λ (x : Answer LanesEnd). said_of (outs x)) joined ∙ ap good (length-append p.went.out q.went.out ∙ ap₂ ◌+◌ p.count q.count);
  out =
      ap (λ (x : Answer LanesEnd). out_of (outs x) output'') joined
      ∙ ap₂ (λ (xs : List ℕ) (m : ℕ). xs ++ drop m output'') (ap₂ ◌++◌ (sym first) (sym second)) (length-append p.went.out q.went.out ∙ ap₂ ◌+◌ p.count q.count);
  state = ap (λ (x : Answer LanesEnd). state_of x state) joined ∙ sym left;
}
  where
    A : Answer LanesEnd
    A = lanes_trace (length work) s n bits state (length output)

    B : Answer LanesEnd
    B = lanes_trace (length work') s k more a.state (length output')

    p : EndedWell A i
    p = ended_well (lanes_trace (length work) s n bits state (length output)) i (ap (λ (x : LanesCall). x.said) ea ∙ sa)

    q : EndedWell B j
    q = ended_well (lanes_trace (length work') s k more a.state (length output')) j (ap (λ (x : LanesCall). x.said) eb ∙ sb)

    a-state : a.state ≡ p.went.state
    a-state = ap (λ (x : LanesCall). x.state) (sym ea) ∙ ap (λ (x : Answer LanesEnd). state_of x state) p.is

    left : b.state ≡ q.went.state
    left = ap (λ (x : LanesCall). x.state) (sym eb) ∙ ap (λ (x : Answer LanesEnd). state_of x a.state) q.is

    first : take i a.out ≡ p.went.out
    first =
        ap₂ take (sym p.count) (ap (λ (x : LanesCall). x.out) (sym ea) ∙ ap (λ (x : Answer LanesEnd). out_of (outs x) output) p.is)
        ∙ take-append_seam p.went.out (drop (length p.went.out) output)

    second : take j b.out ≡ q.went.out
    second =
        ap₂ take (sym q.count) (ap (λ (x : LanesCall). x.out) (sym eb) ∙ ap (λ (x : Answer LanesEnd). out_of (outs x) output') q.is)
        ∙ take-append_seam q.went.out (drop (length q.went.out) output')

    joined : lanes_trace (length work'') s (n + k) (bits ++ more) state (length output'') ≡ good (record { out = p.went.out ++ q.went.out; state = q.went.state })
    joined =
        let c = p.count in
        let d = q.count in
        lanes_join s n k bits more state (length work) (length work') (length work'') (length output) (length output') (length output'') p.went q.went p.is
        (ap (λ (x : List ℕ). lanes_trace (length work') s k more x (length output')) (sym a-state) ∙ q.is) large (omega arith)
