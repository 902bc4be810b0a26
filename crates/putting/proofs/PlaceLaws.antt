-- A clause is placed: its cost is counted, then its parameters are named and its frame is set. Assumes nothing.
use Prim.Native.Nat.{ℕ, suc, ◌+◌, ◌*◌, ◌≤◌, ◌<◌}
use mathlib.Core.Path.{◌≡◌, refl, sym, ap, ◌∙◌, subst}
use mathlib.Core.Bool.{Bool, true, false}
use mathlib.Core.List.{List}
use native.Mathlib.Omega.{arith}
use lib.Dec.{leb}
use lib.ListN.{length, get_or, set, length-set}
use lib.Seq.{get_or-set_same, get_or-set_other}
use Rattle.std.proofs.Common.{Ok, Err}
use Rattle.answers.specs.declared.Reason.{Reason}
use Rattle.answers.specs.Refusals.{refusal_at}
use Rattle.calculus.specs.Answer.{Answer, good, ◌>>=◌, need}
use Rattle.notation_calculus.specs.Words.{Word}
use Rattle.notation_calculus.specs.Trees.{Clause, Text}
use Rattle.notation_calculus.specs.Making.{State, most_entries, most_puts, cost_of, seen_by, Put, put_of}
use Rattle.words.specs.Lexed.{from, Lexed}
use Rattle.making_memory.specs.Map.{scope_at, type_count_at, node_count_at, put_count_at, clause_count_at}
use Rattle.made_types.specs.Held.{HoldsState}
use Rattle.made_types.proofs.Keeping.{types-kept, state_kept}
use Rattle.clauses.specs.declared.rows.Row.{Row}
use Rattle.clauses.specs.Rows.{row_in, clause_of, HoldsRows}
use Rattle.clauses.specs.Texts.{HoldsClauses}
use Rattle.clauses.specs.Meant.{values_in}
use Rattle.clauses.proofs.TableLaws.{row_same}
use Rattle.clauses.proofs.MeantLaws.{seen_found}
use Rattle.scopes.specs.Frames.{frame_in, HoldsScope}
use Rattle.scopes.specs.Opened.{numbers_over, variables_over, CanOpen, Opened}
use Rattle.scopes.specs.Puts.{row_cost, PutCounted}
use Rattle.scopes.proofs.KeepLaws.{rows-kept}
use Rattle.scopes.proofs.OpenLaws.{seen_small}
use Rattle.scopes.proofs.PutLaws.{cost_is}
use Rattle.walks.specs.Walked.{TypesWalked}
use Rattle.walks.proofs.Kept.{types_walked_none, types_walked_then, types_of_count, places-on, clauses_on}
use Rattle.putting.specs.Putting.{BodyThere, BodyAnswers, body_put, ClauseFound, CanPlace, PlacedSays}
use Rattle.putting.proofs.ValueLaws.{values_on, types_typed}

-- what `open` writes, a walk over types may write
pub types_of_opened : (text w : List ℕ) (k into top : ℕ) (w' : List ℕ) → into < 82 → top ≤ most_entries → Opened text w k into top w' → TypesWalked (suc into) top w w'
types_of_opened text w k into top w' level few o =
    let t : get_or w' type_count_at 0 ≡ get_or w type_count_at 0 = o.above type_count_at (omega arith) in
    record {
      same = o.same;
      nodes = λ j h. o.below j (omega arith);
      entries = λ j h l. o.below j l;
      middle = λ j h l. o.between j h (omega arith);
      frames = λ j h l. o.above j (omega arith);
      counts = λ j h l p. o.above j (omega arith);
      levels = λ j h l. o.above j (omega arith);
      scopes = λ j h. o.above j (omega arith);
      more_types = omega arith;
      few_types = λ h. omega arith;
    }

-- ---- the ways out

module _ (text w : List ℕ) (k seen place top into : ℕ) where
  -- no clause is meant
  pub placed_missing : seen ≤ k → PlacedSays text w k seen place top into (Err (refusal_at Reason.UnknownName place)) w
  placed_missing h = record {
    walked = types_walked_none (suc into) top w;
    says = λ X σ words m HC HS C. subst (λ (a : Answer Put). BodyAnswers text w X into (Err (refusal_at Reason.UnknownName place)) (body_put σ place words a)) (sym (C.missing h)) refl;
  }

  module _ (h : k < seen) (P : CanPlace text w k seen top into) where
    abbrev O : CanOpen text w k into top
    O = P.opens h

    pub placed_row : k < 256
    placed_row = omega (arith, O.known, O.holds.few)

    module _ (c : Row) (is : c ≡ row_in w k) where
      pub placed_end : Lexed text c.end
      placed_end = subst (λ (r : Row). Lexed text r.end) (sym is) (O.holds.rows k O.known).end_lexed

      pub placed-few : top + c.types + c.numbers ≤ most_entries
      placed-few = subst (λ (r : Row). top + r.types + r.numbers ≤ most_entries) (sym is) O.few

      module _ (cost : ℕ) (costs : cost ≡ row_cost text c) where
        cost-of : (X : Text) → HoldsClauses text w X → k < length X.clauses → cost_of (clause_of X.clauses k) ≡ cost
        cost-of X HC l = cost_is text (clause_of X.clauses k) (row_in w k) (HC.rows.rows k l) ∙ ap (row_cost text) (sym is) ∙ sym costs

        -- a clause that was found, by the judgement of its cost
        abbrev judged : State → List Word → Put → Bool → Answer BodyThere
        judged σ words p b = (need b 34 place >>= λ _. good (record { table = σ.table; nodes = σ.nodes; puts = σ.puts + p.cost })) >>= λ σ₁. good (record { scope = p.scope; state = σ₁; body = words })

        module _ (X : Text) (σ : State) (words : List Word) (m : Answer Put) (HC : HoldsClauses text w X) (HS : HoldsState w σ) (C : ClauseFound text w k seen place top X σ words m) where
          known : k < length X.clauses
          known = omega (arith, C.known)

          abbrev foundPut : Put
          foundPut = put_of top X.clauses (clause_of X.clauses k) k (values_in w top (row_in w k).types) (values_in w (numbers_over w k top) (row_in w k).numbers)

          judged_as : (b : Bool) → b ≡ leb (get_or w put_count_at 0 + cost) most_puts → body_put σ place words m ≡ judged σ words foundPut b
          judged_as b e =
              ap (body_put σ place words) (C.found h)
              ∙ ap (λ (n : ℕ). judged σ words foundPut (leb (σ.puts + n) most_puts)) (cost-of X HC known)
              ∙ ap (λ (n : ℕ). judged σ words foundPut (leb (n + cost) most_puts)) (sym HS.puts)
              ∙ ap (judged σ words foundPut) (sym e)

        module _ (w₁ : List ℕ) (b : Bool) (counted : PutCounted w cost w₁ b) where
          -- too much was put in
          pub placed-full : b ≡ false → PlacedSays text w k seen place top into (Err (refusal_at Reason.TextLimit place)) w₁
          placed-full e = record {
            walked = subst (TypesWalked (suc into) top w) (sym (counted.same e)) (types_walked_none (suc into) top w);
            says = λ X σ words m HC HS C. subst (BodyAnswers text w₁ X into (Err (refusal_at Reason.TextLimit place))) (sym (judged_as X σ words m HC HS C false (sym e ∙ counted.judged))) refl;
          }

          module _ (e : b ≡ true) where
            abbrev total : ℕ
            total = get_or w put_count_at 0 + cost

            w₁-is : w₁ ≡ set w put_count_at total
            w₁-is = counted.counted e

            other : (j : ℕ) → ¬ (j ≡ put_count_at) → get_or w₁ j 0 ≡ get_or w j 0
            other j q = ap (λ (l : List ℕ). get_or l j 0) w₁-is ∙ get_or-set_other w put_count_at j total 0 q

            long_same : length w₁ ≡ length w
            long_same = ap length w₁-is ∙ length-set w put_count_at total

            top-few : top ≤ most_entries
            top-few = omega (arith, placed-few)

            counting : TypesWalked (suc into) top w w₁
            counting = subst (TypesWalked (suc into) top w) (sym w₁-is) (types_of_count (suc into) top w total top-few)

            row_on : row_in w₁ k ≡ row_in w k
            row_on = row_same w w₁ k (λ j a g. other j (λ q. omega (arith, placed_row)))

            rows_on : (cs : List Clause) → HoldsRows text w cs → HoldsRows text w₁ cs
            rows_on cs H = rows-kept text w w₁ cs H (λ j a g. other j (λ q. omega arith)) (other clause_count_at (λ q. omega arith))

            pub placed-open : CanOpen text w₁ k into top
            placed-open = record {
              short = O.short;
              clauses = O.clauses;
              holds = rows_on O.clauses O.holds;
              known = O.known;
              level = O.level;
              places = places-on text w w₁ top (λ j a g. other j (λ q. omega (arith, top-few))) long_same O.places;
              few = subst (λ (r : Row). top + r.types + r.numbers ≤ most_entries) (sym row_on) O.few;
            }

            state-on : (σ : State) → HoldsState w σ → HoldsState w₁ (record { table = σ.table; nodes = σ.nodes; puts = σ.puts + cost })
            state-on σ H = record {
              types = types-kept w w₁ σ.table H.types long_same (λ j a g. other j (λ q. omega arith)) (other type_count_at (λ q. omega arith));
              nodes = other node_count_at (λ q. omega arith) ∙ H.nodes;
              few = H.few;
              puts = ap (λ (l : List ℕ). get_or l put_count_at 0) w₁-is ∙ get_or-set_same w put_count_at total 0 (omega (arith, P.room)) ∙ ap (λ (n : ℕ). n + cost) H.puts;
            }

            module _ (w₂ : List ℕ) (opened : Opened text w₁ k into top w₂) where
              opening : TypesWalked (suc into) top w₁ w₂
              opening = types_of_opened text w₁ k into top w₂ O.level top-few opened

              walked : TypesWalked (suc into) top w w₂
              walked = types_walked_then (suc into) (suc into) (suc into) top top top w w₁ w₂ (omega arith) (omega arith) (omega arith) (omega arith) counting opening

              state-there : (σ : State) → HoldsState w₁ σ → HoldsState w₂ σ
              state-there σ H = state_kept w₁ w₂ σ H opened.same (λ j a g. opened.below j (omega arith)) (opened.above type_count_at (omega (arith, O.level))) (opened.above node_count_at (omega (arith, O.level))) (opened.above put_count_at (omega (arith, O.level)))

              -- the arguments that wait are those that waited
              scope-by : (cs : List Clause) → HoldsRows text w cs → k < length cs → HoldsScope text w₂ into (top + c.types + c.numbers) (put_of top cs (clause_of cs k) k (values_in w top (row_in w k).types) (values_in w (numbers_over w k top) (row_in w k).numbers)).scope
              scope-by cs H l =
                  let low : (j : ℕ) → scope_at ≤ j → j < scope_at + 2 * most_entries → get_or w₁ j 0 ≡ get_or w j 0 = λ j a g. other j (λ q. omega arith) in
                  let scope : ℕ → List ℕ → List ℕ → Type 0 = λ n ts ns. HoldsScope text w₂ into n (put_of top cs (clause_of cs k) k ts ns).scope in
                  subst (λ (r : Row). scope (top + r.types + r.numbers) (values_in w top (row_in w k).types) (values_in w (top + (row_in w k).types) (row_in w k).numbers)) (sym is)
                  (subst (λ (ns : List ℕ). scope (variables_over w k top) (values_in w top (row_in w k).types) ns) (values_on w w₁ most_entries low (row_in w k).numbers (top + (row_in w k).types) (omega (arith, O.few)))
                  (subst (λ (ts : List ℕ). scope (variables_over w k top) ts (values_in w₁ (top + (row_in w k).types) (row_in w k).numbers)) (values_on w w₁ most_entries low (row_in w k).types top (omega (arith, O.few)))
                  (subst (λ (r : Row). scope (top + r.types + r.numbers) (values_in w₁ top r.types) (values_in w₁ (top + r.types) r.numbers)) row_on (opened.scope cs (rows_on cs H) l))))

              seen_few : (cs : List Clause) → HoldsRows text w cs → k < length cs → seen_by cs (clause_of cs k) k ≤ length cs
              seen_few cs H l = omega (arith, seen_found text w cs H k l, seen_small text w k (omega (arith, H.counted)), H.counted)

              -- the definition is put in
              pub placed-there : PlacedSays text w k seen place top into (Ok (record { body = c.body; top = top + c.types + c.numbers })) w₂
              placed-there = record {
                walked = walked;
                says = λ X σ words m HC HS C.
                    let l = known X σ words m HC HS C in
                    let cs = X.clauses in
                    subst (BodyAnswers text w₂ X into (Ok (record { body = c.body; top = top + c.types + c.numbers }))) (sym (judged_as X σ words m HC HS C true (sym e ∙ counted.judged))) (record {
                      walkable = record {
                        short = O.short;
                        room = omega (arith, P.room, walked.same);
                        level = O.level;
                        clauses = clauses_on (suc into) top text w w₂ walked X HC;
                        state = subst (λ (n : ℕ). HoldsState w₂ (record { table = σ.table; nodes = σ.nodes; puts = σ.puts + n })) (sym (cost-of X HC l)) (state-there _ (state-on σ HS));
                        scope = scope-by cs HC.rows l;
                        seen = seen_few cs HC.rows l;
                        types = types_typed (length σ.table) (clause_of cs k).types (values_in w top (row_in w k).types) (C.typed h);
                        variables = tt;
                      };
                      variables =
                          let v : (frame_in w₂ into).variables ≡ top + c.types + c.numbers = opened.variables ∙ ap (λ (r : Row). top + r.types + r.numbers) row_on ∙ sym (ap (λ (r : Row). top + r.types + r.numbers) is) in
                          omega (arith, v, (scope-by cs HC.rows l).entries);
                      body = record { is = C.body h ∙ ap (λ (r : Row). from text r.body) (sym is); lexed = subst (λ (r : Row). Lexed text r.body) (sym is) (O.holds.rows k O.known).body_lexed };
                    });
              }
