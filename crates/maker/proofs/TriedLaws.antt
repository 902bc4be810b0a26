-- A definition is made and forgotten; a clause is judged; all clauses in their order. Assumes nothing.
use Prim.Native.Nat.{ℕ, suc, ◌+◌, ◌*◌, ◌≤◌, ◌<◌}
use mathlib.Core.Path.{◌≡◌, refl, sym, ap, ◌∙◌, subst}
use mathlib.Core.Bool.{Bool, true, false, cond}
use mathlib.Core.List.{List, [], ◌∷◌}
use native.Mathlib.Omega.{arith}
use native.Mathlib.Numerals.{add-one}
use lib.Dec.{leb}
use lib.ListN.{length, get_or, drop, length-set, drop_of_length-le}
use lib.Seq.{sets, drop-cons, get_or-set_same, get_or-set_other}
use Rattle.std.proofs.Common.{Result, Ok, Err}
use Rattle.answers.specs.declared.Reason.{Reason}
use Rattle.answers.specs.declared.Refusal.{Refusal}
use Rattle.answers.specs.Refusals.{refusal_at}
use Rattle.calculus.specs.Answer.{Answer, good, refused, refuse, ◌>>=◌, need}
use Rattle.notation_calculus.specs.Trees.{Clause, Text}
use Rattle.notation_calculus.specs.Making.{State, cost_of, most_puts, one_put}
use Rattle.notation_calculus.specs.Make.{is_judged, judged_body, judged_clause, judged_from}
use Rattle.making_memory.specs.Map.{frames_at, type_count_at, node_count_at, put_count_at, clause_count_at, second_at_lem, making_size}
use Rattle.made_types.specs.Held.{HoldsState}
use Rattle.made_types.specs.States.{Forgot}
use Rattle.made_types.proofs.Keeping.{types-kept}
use Rattle.clauses.specs.declared.rows.Row.{Row}
use Rattle.clauses.specs.Rows.{no_clause, clause_of, RowOf, row_in}
use Rattle.clauses.specs.Texts.{HoldsClauses}
use Rattle.scopes.specs.Puts.{row_cost, PutCounted}
use Rattle.scopes.proofs.KeepLaws.{rows-kept}
use Rattle.scopes.proofs.PutLaws.{cost_is}
use Rattle.maker.specs.Stages.{FarKept, TextStands, KnowsAbove, StageAnswers}
use Rattle.maker.specs.Judged.{row_judged, BodyRead, CanTry, TryMade, TryAnswers, TrySays, TriedAs, TriedSays, HasClause, JudgeSays, SomeText, JudgedSay}
use Rattle.maker.proofs.StageLaws.{far_none, far_then, framed_far, framed-knows, stage_passed, stage_refused, passed-with, refused_as}
use Rattle.maker.proofs.LineLaws.{bind_good, bind_refused}
use Rattle.maker.proofs.JudgedLaws.{judged_is}

-- ---- made and forgotten

clauses_still : (text w w' : List ℕ) (X : Text) → HoldsClauses text w X → ((j : ℕ) → ¬ (j ≡ type_count_at) → ¬ (j ≡ node_count_at) → ¬ (j ≡ put_count_at) → get_or w' j 0 ≡ get_or w j 0) → HoldsClauses text w' X
clauses_still text w w' X H same = record {
  rows = rows-kept text w w' X.clauses H.rows (λ j a b. same j (λ q. omega arith) (λ q. omega arith) (λ q. omega arith)) (same clause_count_at (λ q. omega arith) (λ q. omega arith) (λ q. omega arith));
  edition = same second_at_lem (λ q. omega arith) (λ q. omega arith) (λ q. omega arith) ∙ H.edition;
}

forgot_far : (w : List ℕ) (types nodes : ℕ) (w' : List ℕ) → Forgot w types nodes w' → FarKept w w'
forgot_far w types nodes w' F = record { same = F.same; far = λ j h. F.other j (λ q. omega arith) (λ q. omega arith) }

forgot-stands : (text w₀ w w' : List ℕ) (X : Text) (σ : State) (puts : ℕ) → HoldsState w₀ σ → TryMade text w X σ puts → Forgot w (get_or w₀ type_count_at 0) (get_or w₀ node_count_at 0) w' → TextStands text w' X (record { table = σ.table; nodes = σ.nodes; puts = puts })
forgot-stands text w₀ w w' X σ puts H M F = record {
  short = M.stands.short;
  room = omega (arith, M.stands.room, F.same);
  clauses = clauses_still text w w' X M.stands.clauses (λ j a b c. F.other j a b);
  state =
      subst (λ (n : ℕ). HoldsState w' (record { table = σ.table; nodes = σ.nodes; puts = n })) M.cost
      (subst (λ (n : ℕ). HoldsState w' (record { table = σ.table; nodes = n; puts = M.next.puts })) H.nodes
      (F.holds M.next σ.table M.stands.state M.begins H.types.count (omega (arith, H.nodes, M.nodes))));
}

module _ (text w : List ℕ) (at : ℕ) (sort : Bool) (w₁ : List ℕ) where
  pub tried_refused : (e : Refusal) → TrySays text w at sort (Err e) w₁ → TriedSays text w at sort (Err e) w₁
  tried_refused e T = record { kept = T.kept; says = λ X seen σ b K B. T.says X seen σ b K B }

  forgotten : (X : Text) (σ : State) (w₂ : List ℕ) (a : Answer ℕ) → HoldsState w σ → Forgot w₁ (get_or w type_count_at 0) (get_or w node_count_at 0) w₂ → TryAnswers text w₁ X σ (Ok tt) a → TriedAs text w₂ X σ (Ok tt) a
  forgotten X σ w₂ (good puts) H F M = forgot-stands text w w₁ w₂ X σ puts H M F
  forgotten X σ w₂ (refused why) H F M = M

  pub tried_passed : TrySays text w at sort (Ok tt) w₁ → (w₂ : List ℕ) → Forgot w₁ (get_or w type_count_at 0) (get_or w node_count_at 0) w₂ → TriedSays text w at sort (Ok tt) w₂
  tried_passed T w₂ F = record {
    kept = far_then w w₁ w₂ T.kept (forgot_far w₁ (get_or w type_count_at 0) (get_or w node_count_at 0) w₂ F);
    says = λ X seen σ b K B. forgotten X σ w₂ (judged_body X seen σ b) K.walkable.state F (T.says X seen σ b K B);
  }

-- ---- one clause

abbrev counted_state : State → ℕ → State
counted_state σ cost = record { table = σ.table; nodes = σ.nodes; puts = σ.puts + cost }

-- by whether it is judged, and whether its cost is no more than there may be
clause_skipped : (X : Text) (k : ℕ) (σ : State) (c : Clause) → is_judged c ≡ false → judged_clause X k σ c ≡ good σ
clause_skipped X k σ c e = cond-false (is_judged c) (one_put σ (cost_of c) c.head.place >>= λ σ₁. judged_body X k σ₁ c.body >>= λ n. good (record { table = σ.table; nodes = σ.nodes; puts = n })) (good σ) e
  where
    cond-false : (b : Bool) (x y : Answer State) → b ≡ false → cond b x y ≡ y
    cond-false b x y e = ap (λ (q : Bool). cond q x y) e

clause_tried : (X : Text) (k : ℕ) (σ : State) (c : Clause) → is_judged c ≡ true → judged_clause X k σ c ≡ (one_put σ (cost_of c) c.head.place >>= λ σ₁. judged_body X k σ₁ c.body >>= λ n. good (record { table = σ.table; nodes = σ.nodes; puts = n }))
clause_tried X k σ c e = cond-true (is_judged c) (one_put σ (cost_of c) c.head.place >>= λ σ₁. judged_body X k σ₁ c.body >>= λ n. good (record { table = σ.table; nodes = σ.nodes; puts = n })) (good σ) e
  where
    cond-true : (b : Bool) (x y : Answer State) → b ≡ true → cond b x y ≡ x
    cond-true b x y e = ap (λ (q : Bool). cond q x y) e

put_good : (σ : State) (cost at : ℕ) (b : Bool) → b ≡ leb (σ.puts + cost) most_puts → b ≡ true → one_put σ cost at ≡ good (counted_state σ cost)
put_good σ cost at b e f = ap (λ (t : Bool). need t 34 at >>= λ _. good (counted_state σ cost)) (sym e ∙ f)

put_bad : (σ : State) (cost at : ℕ) (b : Bool) → b ≡ leb (σ.puts + cost) most_puts → b ≡ false → one_put σ cost at ≡ refuse 34 at
put_bad σ cost at b e f = ap (λ (t : Bool). need t 34 at >>= λ _. good (counted_state σ cost)) (sym e ∙ f)

module _ (text w : List ℕ) (k : ℕ) (q : HasClause text w k) (r : Row) (is : r ≡ row_in w k) where
  pub judge-low : k < 256
  judge-low = omega (arith, q.there, q.stands.clauses.rows.few)

  row_of : (X : Text) (σ : State) → TextStands text w X σ → k < length X.clauses → RowOf text (clause_of X.clauses k) r
  row_of X σ S h = subst (RowOf text (clause_of X.clauses k)) (sym is) (S.clauses.rows.rows k h)

  pub judge-row : RowOf text (clause_of q.X.clauses k) r
  judge-row = row_of q.X q.σ q.stands q.there

  module _ (j : Bool) (says : j ≡ row_judged text r) where
    pub judge-skipped : j ≡ false → JudgeSays text w k (Ok tt) w
    judge-skipped e = record {
      kept = far_none w;
      says = λ X σ S h. stage_passed text w X σ (judged_clause X k σ (clause_of X.clauses k)) (clause_skipped X k σ (clause_of X.clauses k) (judged_is text (clause_of X.clauses k) r (row_of X σ S h) ∙ sym says ∙ e)) S;
    }

    module _ (yes' : j ≡ true) (cost : ℕ) (costs : cost ≡ row_cost text r) (w₁ : List ℕ) (b : Bool) (P : PutCounted w cost w₁ b) where
      cost-of : (X : Text) (σ : State) (S : TextStands text w X σ) (h : k < length X.clauses) → cost_of (clause_of X.clauses k) ≡ cost
      cost-of X σ S h = cost_is text (clause_of X.clauses k) r (row_of X σ S h) ∙ sym costs

      test_of : (X : Text) (σ : State) (S : TextStands text w X σ) (h : k < length X.clauses) → b ≡ leb (σ.puts + cost_of (clause_of X.clauses k)) most_puts
      test_of X σ S h = P.judged ∙ ap (λ (n : ℕ). leb (n + cost) most_puts) S.state.puts ∙ ap (λ (n : ℕ). leb (σ.puts + n) most_puts) (sym (cost-of X σ S h))

      tried-is : (X : Text) (σ : State) (S : TextStands text w X σ) (h : k < length X.clauses) → judged_clause X k σ (clause_of X.clauses k) ≡ (one_put σ (cost_of (clause_of X.clauses k)) (clause_of X.clauses k).head.place >>= λ σ₁. judged_body X k σ₁ (clause_of X.clauses k).body >>= λ n. good (record { table = σ.table; nodes = σ.nodes; puts = n }))
      tried-is X σ S h = clause_tried X k σ (clause_of X.clauses k) (judged_is text (clause_of X.clauses k) r (row_of X σ S h) ∙ sym says ∙ yes')

      pub judge-full : b ≡ false → JudgeSays text w k (Err (refusal_at Reason.TextLimit r.name)) w₁
      judge-full e = record {
        kept = subst (λ (v : List ℕ). FarKept w v) (sym (P.same e)) (far_none w);
        says = λ X σ S h.
            stage_refused text w₁ X (refusal_at Reason.TextLimit r.name) (judged_clause X k σ (clause_of X.clauses k))
            (tried-is X σ S h ∙ bind_refused (one_put σ (cost_of (clause_of X.clauses k)) (clause_of X.clauses k).head.place) (λ σ₁. judged_body X k σ₁ (clause_of X.clauses k).body >>= λ n. good (record { table = σ.table; nodes = σ.nodes; puts = n })) (refusal_at Reason.TextLimit r.name) (put_bad σ (cost_of (clause_of X.clauses k)) (clause_of X.clauses k).head.place b (test_of X σ S h) e ∙ ap (λ (n : ℕ). refuse 34 n) (row_of X σ S h).name_place));
      }

      module _ (f : b ≡ true) where
        total : ℕ
        total = get_or w put_count_at 0 + cost

        other : (i : ℕ) → ¬ (i ≡ put_count_at) → get_or w₁ i 0 ≡ get_or w i 0
        other i z = ap (λ (l : List ℕ). get_or l i 0) (P.counted f) ∙ get_or-set_other w put_count_at i (get_or w put_count_at 0 + cost) 0 z

        long_same : length w₁ ≡ length w
        long_same = ap (λ (l : List ℕ). length l) (P.counted f) ∙ length-set w put_count_at (get_or w put_count_at 0 + cost)

        put-far : FarKept w w₁
        put-far = record { same = long_same; far = λ i h. other i (λ z. omega arith) }

        put-stands : (X : Text) (σ : State) → TextStands text w X σ → TextStands text w₁ X (counted_state σ cost)
        put-stands X σ S = record {
          short = S.short;
          room = omega (arith, S.room, long_same);
          clauses = clauses_still text w w₁ X S.clauses (λ i a c d. other i d);
          state = record {
            types = types-kept w w₁ σ.table S.state.types long_same (λ i a c. other i (λ z. omega arith)) (other type_count_at (λ z. omega arith));
            nodes = other node_count_at (λ z. omega arith) ∙ S.state.nodes;
            few = S.state.few;
            puts = ap (λ (l : List ℕ). get_or l put_count_at 0) (P.counted f) ∙ get_or-set_same w put_count_at (get_or w put_count_at 0 + cost) 0 (omega (arith, S.room)) ∙ ap (λ (n : ℕ). n + cost) S.state.puts;
          };
        }

        pub judge-room : making_size ≤ length w₁
        judge-room = omega (arith, q.stands.room, long_same)

        module _ (w₂ : List ℕ) (known : w₂ ≡ sets w₁ (frames_at + 4 * 81) (k ∷ 0 ∷ 0 ∷ 0 ∷ [])) where
          knows : (X : Text) (σ : State) → TextStands text w X σ → k < length X.clauses → KnowsAbove text w₂ X k (counted_state σ cost)
          knows X σ S h = subst (λ (v : List ℕ). KnowsAbove text v X k (counted_state σ cost)) (sym known) (framed-knows w₁ k judge-room text X (counted_state σ cost) (put-stands X σ S) (omega arith))

          read_of : (X : Text) (σ : State) → TextStands text w X σ → k < length X.clauses → BodyRead text r.body r.sort (clause_of X.clauses k).body
          read_of X σ S h = let R = row_of X σ S h in record { lexed = R.body_lexed; rest = r.end; reads = R.body }

          pub judge-can : CanTry text w₂ r.body r.sort
          judge-can = record { X = q.X; seen = k; σ = counted_state q.σ cost; body = (clause_of q.X.clauses k).body; knows = knows q.X q.σ q.stands q.there; there = read_of q.X q.σ q.stands q.there }

          as-stage : (X : Text) (σ : State) (w₃ : List ℕ) (s : Result (Unit {0}) Refusal) (a : Answer ℕ) → TriedAs text w₃ X (counted_state σ cost) s a → StageAnswers text w₃ X s (a >>= λ n. good (record { table = σ.table; nodes = σ.nodes; puts = n }))
          as-stage X σ w₃ (Ok done) (good n) t = t
          as-stage X σ w₃ (Ok done) (refused why) t = t
          as-stage X σ w₃ (Err e) a t = stage_refused text w₃ X e (a >>= λ n. good (record { table = σ.table; nodes = σ.nodes; puts = n })) (bind_refused a (λ n. good (record { table = σ.table; nodes = σ.nodes; puts = n })) e t)

          clause-is : (X : Text) (σ : State) (S : TextStands text w X σ) (h : k < length X.clauses) → judged_clause X k σ (clause_of X.clauses k) ≡ (judged_body X k (counted_state σ cost) (clause_of X.clauses k).body >>= λ n. good (record { table = σ.table; nodes = σ.nodes; puts = n }))
          clause-is X σ S h =
              tried-is X σ S h
              ∙ bind_good (one_put σ (cost_of (clause_of X.clauses k)) (clause_of X.clauses k).head.place) (λ σ₁. judged_body X k σ₁ (clause_of X.clauses k).body >>= λ n. good (record { table = σ.table; nodes = σ.nodes; puts = n })) (counted_state σ cost) (put_good σ (cost_of (clause_of X.clauses k)) (clause_of X.clauses k).head.place b (test_of X σ S h) f ∙ ap (λ (n : ℕ). good (counted_state σ n)) (cost-of X σ S h))

          pub judge-says : (s : Result (Unit {0}) Refusal) (w₃ : List ℕ) → TriedSays text w₂ r.body r.sort s w₃ → JudgeSays text w k s w₃
          judge-says s w₃ T = record {
            kept = far_then w w₁ w₃ put-far (far_then w₁ w₂ w₃ (subst (λ (v : List ℕ). FarKept w₁ v) (sym known) (framed_far w₁ k judge-room)) T.kept);
            says = λ X σ S h. subst (StageAnswers text w₃ X s) (sym (clause-is X σ S h)) (as-stage X σ w₃ s (judged_body X k (counted_state σ cost) (clause_of X.clauses k).body) (T.says X k (counted_state σ cost) (clause_of X.clauses k).body (knows X σ S h) (read_of X σ S h)));
          }

-- ---- all clauses

pub record JudgedTo (text w : List ℕ) (X : Text) (σ : State) (k : ℕ) : Type 0 where
  pub next : State
  pub stands : TextStands text w X next
  pub low : k ≤ length X.clauses
  pub is : judged_from X 0 σ X.clauses ≡ judged_from X k next (drop k X.clauses)

pub record JudgedGoing (text w₀ w : List ℕ) (k : ℕ) : Type 0 where
  pub kept : FarKept w₀ w
  pub goes : (X : Text) (σ : State) → TextStands text w₀ X σ → JudgedTo text w X σ k

pub judged_first : (text w : List ℕ) → JudgedGoing text w w 0
judged_first text w = record { kept = far_none w; goes = λ X σ S. record { next = σ; stands = S; low = omega arith; is = refl } }

module _ (text w₀ : List ℕ) (q : SomeText text w₀) (n : ℕ) (counts : n ≡ get_or w₀ clause_count_at 0) (w : List ℕ) (k : ℕ) (G : JudgedGoing text w₀ w k) where
  here : JudgedTo text w q.X q.σ k
  here = G.goes q.X q.σ q.stands

  count-is : (X : Text) (σ : State) → TextStands text w₀ X σ → n ≡ length X.clauses
  count-is X σ S = counts ∙ S.clauses.rows.counted

  pub judged_low : n < 65536
  judged_low = omega (arith, count-is q.X q.σ q.stands, q.stands.clauses.rows.few)

  module _ (l : k < n) where
    pub judged-can : HasClause text w k
    judged-can = record { X = q.X; σ = here.next; stands = here.stands; there = omega (arith, count-is q.X q.σ q.stands) }

    module _ (w' : List ℕ) where
      pub judged-kept : {r : Result (Unit {0}) Refusal} → JudgeSays text w k r w' → FarKept w₀ w'
      judged-kept T = far_then w₀ w w' G.kept T.kept

      first-is : (X : Text) (σ : State) (S : TextStands text w₀ X σ) → judged_from X 0 σ X.clauses ≡ (judged_clause X k (G.goes X σ S).next (clause_of X.clauses k) >>= λ τ. judged_from X (suc k) τ (drop (suc k) X.clauses))
      first-is X σ S = (G.goes X σ S).is ∙ ap (λ (cs : List Clause). judged_from X k (G.goes X σ S).next cs) (drop-cons X.clauses k no_clause (omega (arith, count-is X σ S)))

      as-judged : {r : Result (Unit {0}) Refusal} → JudgeSays text w k r w' → (X : Text) (σ : State) (S : TextStands text w₀ X σ) → StageAnswers text w' X r (judged_clause X k (G.goes X σ S).next (clause_of X.clauses k))
      as-judged T X σ S = T.says X (G.goes X σ S).next (G.goes X σ S).stands (omega (arith, count-is X σ S))

      pub judged-more : JudgeSays text w k (Ok tt) w' → JudgedGoing text w₀ w' (k + 1)
      judged-more T = record {
        kept = judged-kept T;
        goes = λ X σ S.
            passed-with text w' X (judged_clause X k (G.goes X σ S).next (clause_of X.clauses k)) (as-judged T X σ S) λ τ f t. record {
              next = τ;
              stands = t;
              low = omega (arith, count-is X σ S);
              is = first-is X σ S ∙ bind_good (judged_clause X k (G.goes X σ S).next (clause_of X.clauses k)) (λ τ. judged_from X (suc k) τ (drop (suc k) X.clauses)) τ f ∙ ap (λ (i : ℕ). judged_from X i τ (drop i X.clauses)) (sym (add-one k));
            };
      }

      pub judged-refused : (e : Refusal) → JudgeSays text w k (Err e) w' → JudgedSay text w₀ (Err e) w'
      judged-refused e T = record {
        kept = judged-kept T;
        says = λ X σ S. stage_refused text w' X e (judged_from X 0 σ X.clauses) (first-is X σ S ∙ bind_refused (judged_clause X k (G.goes X σ S).next (clause_of X.clauses k)) (λ τ. judged_from X (suc k) τ (drop (suc k) X.clauses)) e (refused_as text w' X e (judged_clause X k (G.goes X σ S).next (clause_of X.clauses k)) (as-judged T X σ S)));
      }

  pub judged_done : n ≤ k → JudgedSay text w₀ (Ok tt) w
  judged_done h = record {
    kept = G.kept;
    says = λ X σ S.
        let g = G.goes X σ S in
        stage_passed text w X g.next (judged_from X 0 σ X.clauses) (g.is ∙ ap (λ (cs : List Clause). judged_from X k g.next cs) (drop_of_length-le X.clauses {i = k} (omega (arith, count-is X σ S)))) g.stands;
  }
