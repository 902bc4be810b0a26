-- The three demands hold of what a call leaves. Assumes nothing.
use Prim.Native.Nat.{ℕ, ◌≤◌, ◌<◌}
use mathlib.Core.Path.{◌≡◌, refl, sym, ap, ap₂, subst, ◌∙◌}
use mathlib.Core.Logic.{inl, inr}
use mathlib.Core.Bool.{Bool, true, false}
use mathlib.Core.List.{List, [], ◌++◌}
use native.Mathlib.Omega.{arith}
use lib.Dec.{leb, leb→le}
use lib.ListN.{length, drop}
use lib.Seq.{take_at}
use borrow.Author.Tests.{lt-leb, le-leb}
use Rattle.calculus.specs.Answer.{Answer, good, refused, refuse}
use Rattle.calculus.proofs.Answers.{refused≢good, good-inj, on-bind, on-need}
use Rattle.calculus.specs.Read.{Sheet, read_sheet}
use Rattle.calculus.specs.Net.{Net, make, net_of}
use Rattle.calculus.specs.Makers.{makers_of, drop_nodes}
use Rattle.circuit_theorems.proofs.NodeBytes.{written-dropped}
use Rattle.calculus.specs.NetRead.{read_net}
use Rattle.calculus.specs.Translate.{full, Wish, asked, asked_makers, asked_bytes, answer, zeroed, said_of, out_of, work_of, call}
use Rattle.circuit_theorems.proofs.Main.{accepts, accepted_by, driven, undriven, made_once, same_circuit, same_circuit-parts}
use Rattle.circuit_theorems.proofs.Told.{bytes_tell}
use Rattle.memory.proofs.Zeroed.{zeroed-length, zeroed-zeros, zeroed-later}
use Rattle.translator.proofs.Keeping.{work_small}
use Rattle.translation_calculus.specs.Demands.{Wrote, Cleared, Demand1, Derivable, Demand2, OneDriver, Circuit, Demand3}
use Rattle.sheet_theorems.proofs.Judging.{Judged, value, refusal}
use Rattle.export_calculus.specs.CardCall.{card_answer, card_call}
use Rattle.translation.proofs.Places.{CallPlace, CallBytes, answer-places, CardPlace, card_answer_places}
use Rattle.translation.proofs.CardCall.{card_unasked}

-- ---- demand 1

-- a success went through each test
pub record Went (b : Wish) (s : List ℕ) (memory room : ℕ) (bytes : List ℕ) : Type 0 where
  pub memory_ok : 32768 ≤ memory
  pub net : Net
  pub made : full s ≡ good net
  pub is : asked_bytes b net (makers_of s) ≡ bytes
  pub fits : length bytes ≤ room

pub went : (b : Wish) (s : List ℕ) (memory room : ℕ) (bytes : List ℕ) → answer memory b s room ≡ good bytes → Went b s memory room bytes
unfolding answer
went b s memory room bytes e =
    on-need (leb 32768 memory) 1 0 _ bytes e λ h₁ e₁.
    on-bind (full s) _ bytes e₁ λ m h₂ e₂.
    on-need (leb (length (asked_bytes b m (makers_of s))) room) 17 (length (asked_bytes b m (makers_of s))) _ bytes e₂ λ h₃ e₃.
    record {
      memory_ok = leb→le 32768 memory h₁;
      net = m;
      made = h₂;
      is = good-inj e₃;
      fits = subst (λ (x : List ℕ). length x ≤ room) (good-inj e₃) (leb→le (length (asked_bytes b m (makers_of s))) room h₃);
    }

wrote : (s out : List ℕ) {a : Answer (List ℕ)} → Judged (CallPlace s (length out)) (CallBytes (length out)) a → Wrote false (said_of a) out (out_of a out)
wrote s out (value {a} h) = (a, refl, h.1, refl)
wrote s out (refusal h) = ((h.from, h.to), h.few, h.more, refl)

asked-wrote : (s out : List ℕ) {a : Answer (List ℕ)} → Judged (CardPlace s (length out)) (CallBytes (length out)) a → Wrote true (said_of a) out (out_of a out)
asked-wrote s out (value {a} h) = (a, refl, h.1, refl)
asked-wrote s out (refusal (inl h)) = (inl (h.from, h.to), h.few, h.more, refl)
asked-wrote s out (refusal (inr h)) = let f = h.from in (inr (h.from, h.to), omega (arith, h.low), (λ e. absurd (omega arith)), refl)

pub too_small : (b : Wish) (s : List ℕ) (memory room : ℕ) → memory < 32768 → answer memory b s room ≡ refuse 1 0
unfolding answer
too_small b s memory room h = rw (lt-leb 32768 memory h)

zeroed_clears : (n : ℕ) (work : List ℕ) → n ≤ length work → Cleared n work (zeroed n work)
zeroed_clears n work h = record { same_length = zeroed-length n work h; zeros = zeroed-zeros n work; later = zeroed-later n work }

work_clears : (work : List ℕ) → 32768 ≤ length work → Cleared 32768 work (work_of work)
unfolding work_of
work_clears work h = rw (le-leb 32768 (length work) h) (zeroed_clears 32768 work h)

-- every call begins with its memory
too_small_asked : (b : Wish) (s : List ℕ) (memory room : ℕ) → memory < 32768 → card_answer true memory b s room ≡ refuse 1 0
unfolding card_answer
too_small_asked b s memory room h = rw (lt-leb 32768 memory h)

call_1 : (b : Wish) (s out work : List ℕ) → Demand1 false b s out work (call b s out work)
unfolding call
call_1 b s out work = record {
  wrote = wrote s out (answer-places (length work) b s (length out));
  small = λ h. let e = too_small b s (length work) (length out) h in (ap said_of e, ap (λ (a : Answer (List ℕ)). out_of a out) e, work_small work h);
  cleared = λ h. work_clears work h;
}

-- demand 1 of the public call, with the card's profile asked for or not
pub demand_1 : (card : Bool) (b : Wish) (s out work : List ℕ) → Demand1 card b s out work (card_call card b s out work)
unfolding card_call
demand_1 false b s out work = subst (Demand1 false b s out work) (sym (card_unasked b s out work)) (call_1 b s out work)
demand_1 true b s out work = record {
  wrote = asked-wrote s out (card_answer_places true (length work) b s (length out));
  small = λ h. let e = too_small_asked b s (length work) (length out) h in (ap said_of e, ap (λ (a : Answer (List ℕ)). out_of a out) e, work_small work h);
  cleared = λ h. work_clears work h;
}

-- ---- demand 2

answer_of_lem : (b : Wish) (s : List ℕ) (memory room : ℕ) (m : Net) → 32768 ≤ memory → full s ≡ good m → length (asked_bytes b m (makers_of s)) ≤ room
    → answer memory b s room ≡ good (asked_bytes b m (makers_of s))
unfolding answer
answer_of_lem b s memory room m h e l = rw (le-leb 32768 memory h, e, le-leb (length (asked_bytes b m (makers_of s))) room l)

module _ (b : Wish) (s out work : List ℕ) where
  abbrev answered : Answer (List ℕ)
  answered = answer (length work) b s (length out)

  forth : (n : ℕ) (a : Answer (List ℕ)) → answered ≡ a → said_of a ≡ good n → Derivable b s out work n
  forth n (refused why) e h = absurd (refused≢good h)
  forth n (good bytes) e h =
      let w = went b s (length work) (length out) bytes e in
      let a = accepts s w.net w.made in
      let k : length bytes ≡ n = good-inj h in
      record {
        sheet = a.sheet;
        conditions = record {
          memory = w.memory_ok;
          reads = a.reads;
          terminals = a.few;
          needs = ap (λ (m : Net). length (asked_bytes b m (makers_of s))) a.is ∙ ap length w.is ∙ k;
          room = subst (λ (x : ℕ). x ≤ length out) k w.fits;
        };
        type = _;
        typed = a.typed;
      }

  back : (n : ℕ) → Derivable b s out work n → said_of answered ≡ good n
  back n d =
      let σ = d.sheet in
      let w = d.conditions in
      let m = net_of (make σ.table σ.term [] 0) in
      let e : answered ≡ good (asked_bytes b m (makers_of s)) =
      answer_of_lem b s (length work) (length out) m w.memory (accepted_by s σ d.type w.reads d.typed w.terminals) (subst (λ (x : ℕ). x ≤ length out) (sym w.needs) w.room) in
      ap said_of e ∙ ap good w.needs

  bytes_are : (n : ℕ) (a : Answer (List ℕ)) → answered ≡ a → said_of a ≡ good n → (σ : Sheet) → read_sheet s ≡ good σ
      → out_of a out ≡ asked_bytes b (net_of (make σ.table σ.term [] 0)) (makers_of s) ++ drop n out
  bytes_are n (refused why) e h σ r = absurd (refused≢good h)
  bytes_are n (good bytes) e h σ r =
      let w = went b s (length work) (length out) bytes e in
      let a = accepts s w.net w.made in
      let q : a.sheet ≡ σ = good-inj (sym a.reads ∙ r) in
      let k : length bytes ≡ n = good-inj h in
      let z : bytes ≡ asked_bytes b (net_of (make σ.table σ.term [] 0)) (makers_of s) =
      sym w.is ∙ ap (λ (m : Net). asked_bytes b m (makers_of s)) (sym a.is ∙ ap (λ (x : Sheet). net_of (make x.table x.term [] 0)) q) in
      subst (λ (x : List ℕ). bytes ++ drop (length bytes) out ≡ x ++ drop n out) z (ap (λ (j : ℕ). bytes ++ drop j out) k)

  pub demand_2 : Demand2 b s out work (call b s out work)
  unfolding call
  demand_2 = record {
    accepted = λ n. (forth n answered refl, back n);
    bytes = λ n h. bytes_are n answered refl h;
  }

-- ---- demand 3

one_driver : (s : List ℕ) (m : Net) → full s ≡ good m → OneDriver m
one_driver s m e = record {
  made_once = made_once s m e;
  driven = driven s m e;
  undriven = λ i h. let u = undriven s m e i h in omega (arith, u.0, u.1);
}

module _ (b : Wish) (s out work : List ℕ) where
  circuit-of : (n : ℕ) (a : Answer (List ℕ)) → answer (length work) b s (length out) ≡ a → said_of a ≡ good n → Circuit b s out n (out_of a out)
  circuit-of n (refused why) e h = absurd (refused≢good h)
  circuit-of n (good bytes) e h =
      let w = went b s (length work) (length out) bytes e in
      let k : length bytes ≡ n = good-inj h in
      record {
        net = w.net;
        of_sheet = w.made;
        needs = ap length w.is ∙ k;
        wrote = ap₂ (λ (x : List ℕ) (j : ℕ). x ++ drop j out) (sym w.is) k;
        told = ap (λ (x : List ℕ). read_net (drop_nodes x)) (take_at bytes (drop (length bytes) out) n k ∙ sym w.is) ∙ ap read_net (written-dropped b.plain (asked b.lean w.net) (asked_makers b.lean w.net (makers_of s))) ∙ bytes_tell s w.net w.made b.lean;
        one = one_driver s w.net w.made;
        same = same_circuit-parts s w.net w.made;
        same_any = λ law. same_circuit law s w.net w.made;
      }

  pub demand_3 : Demand3 b s out work (call b s out work)
  unfolding call
  demand_3 = record { circuit = λ n h. circuit-of n (answer (length work) b s (length out)) refl h }
