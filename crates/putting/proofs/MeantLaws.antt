-- The clause that a name means: the code finds the row that Making's `clause_for` finds, and the machine's `words_for` has the words of its
-- body. Assumes nothing.
use Prim.Native.Nat.{ℕ, zero, suc, ◌+◌, ◌≤◌, ◌<◌}
use mathlib.Core.Path.{◌≡◌, refl, sym, ap, ◌∙◌, subst}
use mathlib.Core.Bool.{Bool, true, false, cond}
use mathlib.Core.List.{List, []}
use native.Mathlib.Omega.{arith}
use lib.Dec.{eqb}
use lib.ListN.{length, get_or, take}
use borrow.Author.Tests.{eqb-true, eqb-false}
use Rattle.std.proofs.Common.{Result}
use Rattle.answers.specs.declared.Refusal.{Refusal}
use Rattle.putting.specs.declared.BodyAt.{BodyAt}
use Rattle.calculus.specs.Answer.{Answer, good}
use Rattle.calculus.specs.Record.{All}
use Rattle.notation_calculus.specs.Words.{Word}
use Rattle.notation_calculus.specs.Trees.{Clause, Text}
use Rattle.notation_calculus.specs.Making.{State, Scope, entries, Put, put_of, clause_for}
use Rattle.notation_machine.specs.Bodies.{number_for, words_for}
use Rattle.words.specs.Next.{run_at}
use Rattle.words.specs.Lexed.{from}
use Rattle.making_memory.specs.Map.{clause_count_at}
use Rattle.clauses.specs.declared.rows.Row.{Row}
use Rattle.clauses.specs.declared.meant.Asked.{Asked}
use Rattle.clauses.specs.Rows.{row_in, clause_of, HoldsRows}
use Rattle.clauses.specs.Follows.{row_namesake}
use Rattle.clauses.specs.Meant.{values_in, row_meant, first_meant, CanAsk}
use Rattle.clauses.proofs.TableLaws.{rows_there}
use Rattle.clauses.proofs.MeantLaws.{meant-other, meant-types, meant-numbers, meant-row, values_long, clause-found}
use Rattle.scopes.specs.declared.frames.Frame.{Frame}
use Rattle.scopes.specs.Frames.{frame_in, HoldsScope}
use Rattle.scopes.specs.Opened.{numbers_over}
use Rattle.walks.specs.Walkable.{row_bodies, Walkable}
use Rattle.putting.specs.Putting.{ClauseFound, CanPlace, PlacedSays, CanMean, MeantSays}
use Rattle.putting.specs.Main.{first_passing}
use Rattle.putting.proofs.ValueLaws.{body-at}
use Rattle.putting.proofs.FirstLaws.{first_passes, number-first}

-- ---- the row that is found

false_true : {C : Type 0} → ◌≡◌ {A = Bool} false true → C
false_true e = let z : ◌≡◌ {A = ℕ} 0 1 = cc in absurd (omega arith)

first_as : (text w : List ℕ) (q : Asked) (n k : ℕ) → first_meant text w q k n ≡ first_passing (λ (j : ℕ). row_meant text w q (row_in w j)) k n
first_as text w q zero k = refl
first_as text w q (suc n) k = ap (λ (j : ℕ). cond (row_meant text w q (row_in w k)) k j) (first_as text w q n (suc k))

-- a row that is meant has as many types and numbers as are asked for
pub meant-counts : (text w : List ℕ) (q : Asked) (r : Row) → row_meant text w q r ≡ true → (r.types ≡ q.types) × (r.numbers ≡ q.numbers)
meant-counts text w q r m = by (row_namesake text r q.sort q.name) (eqb r.types q.types) (eqb r.numbers q.numbers) refl refl refl
  where
    by : (a t n : Bool) → row_namesake text r q.sort q.name ≡ a → eqb r.types q.types ≡ t → eqb r.numbers q.numbers ≡ n → (r.types ≡ q.types) × (r.numbers ≡ q.numbers)
    by false t n e f g = false_true (meant-other text w q r e ∙ m)
    by true false n e f g = false_true (meant-types text w q r e (eqb-false _ _ f) ∙ m)
    by true true false e f g = false_true (meant-numbers text w q r e (eqb-true _ _ f) (eqb-false _ _ g) ∙ m)
    by true true true e f g = (eqb-true _ _ f, eqb-true _ _ g)

-- the first that is meant is meant
pub first-meant : (text w : List ℕ) (q : Asked) (seen : ℕ) → first_meant text w q 0 seen < seen → row_meant text w q (row_in w (first_meant text w q 0 seen)) ≡ true
first-meant text w q seen h =
    let e = first_as text w q seen 0 in
    ap (λ (j : ℕ). row_meant text w q (row_in w j)) e ∙ first_passes (λ (k : ℕ). row_meant text w q (row_in w k)) seen 0 (omega arith)

module _ (text w : List ℕ) (cs : List Clause) (H : HoldsRows text w cs) (q : Asked) (ts ns : List ℕ) (types : length ts ≡ q.types) (numbers : ns ≡ values_in w q.first q.numbers) where
  -- the code finds the number that the machine finds
  pub number-found : (seen : ℕ) → seen ≤ length cs → number_for (take seen cs) q.sort (run_at text q.name) (length ts) ns ≡ first_meant text w q 0 seen
  number-found seen h = number-first cs q.sort (run_at text q.name) (length ts) ns (λ (k : ℕ). row_meant text w q (row_in w k)) (meant-row text w cs H 0 q ts ns 0 types numbers) seen h ∙ sym (first_as text w q seen 0)

  -- .. and the words of its body
  pub words-found : (seen : ℕ) → seen ≤ length cs → first_meant text w q 0 seen < seen → words_for (row_bodies text w 0 (length cs)) (take seen cs) q.sort (run_at text q.name) (length ts) ns ≡ from text (row_in w (first_meant text w q 0 seen)).body
  words-found seen h l =
      let e : 0 + first_meant text w q 0 seen ≡ first_meant text w q 0 seen = omega arith in
      ap (λ (j : ℕ). get_or (row_bodies text w 0 (length cs)) j []) (number-found seen h) ∙ body-at text w (length cs) 0 (first_meant text w q 0 seen) (omega arith) ∙ ap (λ (j : ℕ). from text (row_in w j).body) e

-- ---- what the code asks and answers

module _ (text w : List ℕ) (q : Asked) (frame top into : ℕ) (P : CanMean text w q frame top into) (f : Frame) (F : f ≡ frame_in w frame) where
  abbrev W : Walkable text w frame top P.walk.X P.walk.S P.walk.σ
  W = P.walk.walkable

  seen-is : (S : Scope) → HoldsScope text w frame top S → f.seen ≡ S.seen
  seen-is S H = ap (λ (x : Frame). x.seen) F ∙ H.parameters.seen

  pub meant_ask : CanAsk text w q × (f.seen ≤ get_or w clause_count_at 0)
  meant_ask = (record { there = rows_there text w P.walk.X.clauses W.clauses.rows W.room; name = P.inside; entries = P.few }, omega (arith, seen-is P.walk.S W.scope, W.seen, W.clauses.rows.counted))

  module _ (k : ℕ) (is : k ≡ first_meant text w q 0 f.seen) where
    row_counts : k < f.seen → ((row_in w k).types ≡ q.types) × ((row_in w k).numbers ≡ q.numbers)
    row_counts h = meant-counts text w q (row_in w k) (ap (λ (j : ℕ). row_meant text w q (row_in w j)) is ∙ first-meant text w q f.seen (omega arith))

    pub meant-place : CanPlace text w k f.seen top into
    meant-place = record {
      room = W.room;
      opens = λ h.
          let n = row_counts h in
          record {
            short = W.short;
            clauses = P.walk.X.clauses;
            holds = W.clauses.rows;
            known = omega (arith, seen-is P.walk.S W.scope, W.seen);
            level = omega (arith, P.above, W.level);
            places = W.scope.places;
            few = omega (arith, P.few, P.first, n.0, n.1);
          };
    }

    module _ (X : Text) (S : Scope) (σ : State) (Y : Walkable text w frame top X S σ) (typed : All (λ (t : ℕ). t < length σ.table) (values_in w top q.types)) where
      abbrev cs : List Clause
      cs = X.clauses

      abbrev ts : List ℕ
      ts = values_in w top q.types

      abbrev ns : List ℕ
      ns = values_in w q.first q.numbers

      all_seen : f.seen ≤ length cs
      all_seen = omega (arith, seen-is S Y.scope, Y.seen)

      abbrev words : ℕ → List Word
      words seen = words_for (row_bodies text w 0 (length cs)) (take seen cs) q.sort (run_at text q.name) (length ts) ns

      abbrev answer : ℕ → ℕ → Answer Put
      answer under seen = clause_for under cs (take seen cs) 0 q.sort (run_at text q.name) ts ns q.name

      meant-here : ClauseFound text w k f.seen q.name top X σ (words f.seen) (answer top f.seen)
      meant-here =
          let chosen = clause-found text w cs Y.clauses.rows top q ts ns q.name (values_long w top q.types) refl f.seen all_seen in
          record {
            missing = λ h. chosen.1 (omega arith);
            found = λ h.
                let n = row_counts h in
                chosen.0 (omega arith)
                ∙ ap (λ (j : ℕ). good (put_of top cs (clause_of cs j) j ts ns)) (sym is)
                ∙ ap (λ (j : ℕ). good (put_of top cs (clause_of cs k) k (values_in w top j) ns)) (sym n.0)
                ∙ ap (λ (j : ℕ). good (put_of top cs (clause_of cs k) k (values_in w top (row_in w k).types) (values_in w j q.numbers))) (P.first ∙ ap (λ (j : ℕ). top + j) (sym n.0))
                ∙ ap (λ (j : ℕ). good (put_of top cs (clause_of cs k) k (values_in w top (row_in w k).types) (values_in w (numbers_over w k top) j))) (sym n.1);
            body = λ h. words-found text w cs Y.clauses.rows q ts ns (values_long w top q.types) refl f.seen all_seen (omega arith) ∙ ap (λ (j : ℕ). from text (row_in w j).body) (sym is);
            typed = λ h. subst (λ (j : ℕ). All (λ (t : ℕ). t < length σ.table) (values_in w top j)) (sym (row_counts h).0) typed;
            known = all_seen;
          }

      pub meant-found : ClauseFound text w k f.seen q.name top X σ (words S.seen) (answer (entries S) S.seen)
      meant-found =
          subst (λ (n : ℕ). ClauseFound text w k f.seen q.name top X σ (words S.seen) (answer n S.seen)) (sym Y.scope.entries)
          (subst (λ (n : ℕ). ClauseFound text w k f.seen q.name top X σ (words n) (answer top n)) (seen-is S Y.scope) meant-here)

    pub meant-says : (r : Result BodyAt Refusal) (w' : List ℕ) → PlacedSays text w k f.seen q.name top into r w' → MeantSays text w q frame top into r w'
    meant-says r w' p = record {
      walked = p.walked;
      says = λ X S σ Y typed. p.says X σ _ _ Y.clauses Y.state (meant-found X S σ Y typed);
    }
