-- A definition put in: its numbers, then the clause that is meant. Assumes nothing.
use Prim.Native.Nat.{ℕ, suc, ◌+◌, ◌≤◌, ◌<◌}
use mathlib.Core.Path.{◌≡◌, refl, sym, ap, ◌∙◌, subst}
use mathlib.Core.Bool.{Bool, true, false}
use mathlib.Core.List.{List}
use native.Mathlib.Omega.{arith}
use lib.Dec.{leb}
use lib.ListN.{length, take}
use Rattle.std.proofs.Common.{Result, Ok, Err}
use Rattle.answers.specs.declared.Refusal.{Refusal}
use Rattle.walks.specs.declared.PutAt.{PutAt}
use Rattle.putting.specs.declared.NumbersEnd.{NumbersEnd}
use Rattle.putting.specs.declared.BodyAt.{BodyAt}
use Rattle.calculus.specs.Answer.{Answer, good, refused, ◌>>=◌, need}
use Rattle.calculus.specs.Record.{All}
use Rattle.notation_calculus.specs.Words.{Word}
use Rattle.notation_calculus.specs.Trees.{Number, Text}
use Rattle.notation_calculus.specs.Grammar.{Got, got, numbers_at}
use Rattle.notation_calculus.specs.Making.{State, Scope, entries, most_entries, most_puts, numbers_in, Put, clause_for, one_put}
use Rattle.notation_machine.specs.Bodies.{words_for}
use Rattle.words.specs.Next.{run_at}
use Rattle.words.specs.Lexed.{from}
use Rattle.making_memory.specs.Map.{type_count_at, node_count_at, put_count_at}
use Rattle.made_types.specs.Held.{HoldsState}
use Rattle.made_types.proofs.Keeping.{state_kept}
use Rattle.clauses.specs.declared.meant.Asked.{Asked}
use Rattle.clauses.specs.Meant.{values_in}
use Rattle.clauses.proofs.MeantLaws.{values_long}
use Rattle.scopes.specs.Frames.{HoldsScope}
use Rattle.walks.specs.Walkable.{row_bodies, Walkable}
use Rattle.walks.specs.Walked.{TypesWalked}
use Rattle.walks.specs.Says.{Offset, PutThere, put_from, PutAnswers, CanPut, PutSays}
use Rattle.walks.proofs.Kept.{types_walked_then, types_of_entries, walkable_on, bodies_on}
use Rattle.putting.specs.Putting.{numbers_for, NumbersAnswer, NumbersSay, BodyAnswers, body_put, CanMean, meant_put, MeantSays}
use Rattle.putting.proofs.ValueLaws.{values_on}

-- a body that was answered, or not, with the offset behind the name and its arguments
abbrev pub ended_at : Result BodyAt Refusal → ℕ → Result PutAt Refusal
ended_at (Ok q) end = Ok (record { body = q.body; end = end; top = q.top })
ended_at (Err e) end = Err e

-- .. with the words behind the name and its arguments
module _ (text w : List ℕ) (X : Text) (into end : ℕ) (us : List Word) (rest : Offset text end us) (σ : State) (at : ℕ) (words : List Word) where
  abbrev putting_by : Put → Bool → Answer PutThere
  putting_by p t = (need t 34 at >>= λ _. good (record { table = σ.table; nodes = σ.nodes; puts = σ.puts + p.cost })) >>= λ σ₁. good (record { scope = p.scope; state = σ₁; body = words; rest = us })

  ended_by : (b : Result BodyAt Refusal) (p : Put) (t : Bool) → BodyAnswers text w X into b ((need t 34 at >>= λ _. good (record { table = σ.table; nodes = σ.nodes; puts = σ.puts + p.cost })) >>= λ σ₁. good (record { scope = p.scope; state = σ₁; body = words })) → PutAnswers text w X into (ended_at b end) (putting_by p t)
  ended_by (Ok q) p true h = record { walkable = h.walkable; variables = h.variables; body = h.body; rest = rest }
  ended_by (Ok q) p false h = absurd h
  ended_by (Err e) p true h = absurd h
  ended_by (Err e) p false h = h

  put_ended : (b : Result BodyAt Refusal) (m : Answer Put) → BodyAnswers text w X into b (body_put σ at words m) → PutAnswers text w X into (ended_at b end) (m >>= λ p. one_put σ p.cost at >>= λ σ₁. good (record { scope = p.scope; state = σ₁; body = words; rest = us }))
  put_ended b (good p) h = ended_by b p (leb (σ.puts + p.cost) most_puts) h
  put_ended (Ok q) (refused why) h = absurd h
  put_ended (Err e) (refused why) h = h

-- numbers first, then what is made of them
numbers_then : {A : Type 0} (m : Answer (Got (List Number))) (f : List Number → Answer (List ℕ)) (go : List ℕ → List Word → Answer A) → (m >>= λ ks. f ks.value >>= λ ns. go ns ks.rest) ≡ ((m >>= λ ks. f ks.value >>= λ ns. got ns ks.rest) >>= λ g. go g.value g.rest)
numbers_then (good ks) f go = by (f ks.value)
  where
    by : (a : Answer (List ℕ)) → (a >>= λ ns. go ns ks.rest) ≡ ((a >>= λ ns. got ns ks.rest) >>= λ g. go g.value g.rest)
    by (good ns) = refl
    by (refused why) = refl
numbers_then (refused why) f go = refl

module _ (text w : List ℕ) (sort : Bool) (name at types frame top into : ℕ) (P : CanPut text w name at types frame top into) (taken : Result NumbersEnd Refusal) (w₁ : List ℕ) (N : NumbersSay text w name at types frame top taken w₁) where
  taking : (m : ℕ) → TypesWalked m top w w₁
  taking m = types_of_entries m top (top + types) most_entries w w₁ (omega arith) (omega arith) N.only

  state-on : (σ : State) → HoldsState w σ → HoldsState w₁ σ
  state-on σ H = state_kept w w₁ σ H N.only.same (λ j a b. N.only.below j (omega arith)) (N.only.above type_count_at (omega arith)) (N.only.above node_count_at (omega arith)) (N.only.above put_count_at (omega arith))

  still : (X : Text) (S : Scope) (σ : State) → Walkable text w frame top X S σ → Walkable text w₁ frame top X S σ
  still X S σ H = walkable_on 0 top text w w₁ (taking 0) frame top X S σ σ H (omega arith) (omega arith) (state-on σ H.state)

  same-types : values_in w₁ top types ≡ values_in w top types
  same-types = values_on w w₁ (top + types) (λ j a b. N.only.below j b) types top (omega arith)

  -- what is made of the numbers
  abbrev made_of : Text → Scope → State → List ℕ → List ℕ → List Word → Answer PutThere
  made_of X S σ ts ns us =
      clause_for (entries S) X.clauses (take S.seen X.clauses) 0 sort (run_at text name) ts ns name
      >>= λ p. one_put σ p.cost name
      >>= λ σ₁. good (record { scope = p.scope; state = σ₁; body = words_for (row_bodies text w 0 (length X.clauses)) (take S.seen X.clauses) sort (run_at text name) (length ts) ns; rest = us })

  abbrev whole_put : Text → Scope → State → Answer PutThere
  whole_put X S σ = put_from X (row_bodies text w 0 (length X.clauses)) sort S σ (record { name = run_at text name; place = name }) (values_in w top types) (from text at)

  put_as : (X : Text) (S : Scope) (σ : State) → whole_put X S σ ≡ (numbers_for S name types (from text at) >>= λ g. made_of X S σ (values_in w top types) g.value g.rest)
  unfolding put_from
  put_as X S σ =
      ap (λ (n : ℕ). numbers_at (from text at) >>= λ ks. numbers_in S name n ks.value >>= λ ns. made_of X S σ (values_in w top types) ns ks.rest) (values_long w top types)
      ∙ numbers_then (numbers_at (from text at)) (λ ks. numbers_in S name types ks) (λ ns us. made_of X S σ (values_in w top types) ns us)

  -- the numbers are refused
  refused_as : (X : Text) (e : Refusal) (a : Answer (Got (List ℕ))) (f : Got (List ℕ) → Answer PutThere) → NumbersAnswer text w₁ (top + types) (Err e) a → PutAnswers text w₁ X into (Err e) (a >>= f)
  refused_as X e (good g) f h = absurd h
  refused_as X e (refused why) f h = h

  pub put_refused : (e : Refusal) → taken ≡ Err e → PutSays text w sort name at types frame top into (Err e) w₁
  put_refused e is = record {
    walked = taking (suc into);
    says = λ X S σ H typed. subst (PutAnswers text w₁ X into (Err e)) (sym (put_as X S σ)) (refused_as X e (numbers_for S name types (from text at)) _ (subst (λ (r : Result NumbersEnd Refusal). NumbersAnswer text w₁ (top + types) r (numbers_for S name types (from text at))) is (N.says S H.scope)));
  }

  module _ (q : NumbersEnd) (is : taken ≡ Ok q) where
    abbrev asked : Asked
    asked = record { sort = sort; name = name; types = types; numbers = q.count; first = top + types }

    answered : (S : Scope) → HoldsScope text w frame top S → NumbersAnswer text w₁ (top + types) (Ok q) (numbers_for S name types (from text at))
    answered S H = subst (λ (r : Result NumbersEnd Refusal). NumbersAnswer text w₁ (top + types) r (numbers_for S name types (from text at))) is (N.says S H)

    few-by : (a : Answer (Got (List ℕ))) → NumbersAnswer text w₁ (top + types) (Ok q) a → top + types + q.count ≤ most_entries
    few-by (good g) h = h.few
    few-by (refused why) h = absurd h

    pub put_can : CanMean text w₁ asked frame top into
    put_can = record {
      walk = record { X = P.walk.X; S = P.walk.S; σ = P.walk.σ; walkable = still P.walk.X P.walk.S P.walk.σ P.walk.walkable };
      inside = P.inside;
      first = refl;
      few = few-by (numbers_for P.walk.S name types (from text at)) (answered P.walk.S P.walk.walkable.scope);
      above = P.above;
    }

    module _ (b : Result BodyAt Refusal) (w₂ : List ℕ) (M : MeantSays text w₁ asked frame top into b w₂) where
      -- the clause that is meant, over the memory as it was before the numbers
      meant-before : (X : Text) (S : Scope) (σ : State) → Walkable text w frame top X S σ → All (λ (t : ℕ). t < length σ.table) (values_in w top types) → BodyAnswers text w₂ X into b (meant_put X (row_bodies text w 0 (length X.clauses)) S σ asked (run_at text name) (values_in w top types) (values_in w₁ (top + types) q.count))
      meant-before X S σ H typed =
          let answer : List (List Word) → List ℕ → Type 0 = λ bodies ts. BodyAnswers text w₂ X into b (meant_put X bodies S σ asked (run_at text name) ts (values_in w₁ (top + types) q.count)) in
          subst (λ (bodies : List (List Word)). answer bodies (values_in w top types)) (bodies_on 0 top text w w₁ (taking 0) 0 (length X.clauses) (omega (arith, H.clauses.rows.few)))
          (subst (answer (row_bodies text w₁ 0 (length X.clauses))) same-types (M.says X S σ (still X S σ H) (subst (All (λ (t : ℕ). t < length σ.table)) (sym same-types) typed)))

      there_by : (X : Text) (S : Scope) (σ : State) (a : Answer (Got (List ℕ))) → NumbersAnswer text w₁ (top + types) (Ok q) a → BodyAnswers text w₂ X into b (meant_put X (row_bodies text w 0 (length X.clauses)) S σ asked (run_at text name) (values_in w top types) (values_in w₁ (top + types) q.count)) → PutAnswers text w₂ X into (ended_at b q.end) (a >>= λ g. made_of X S σ (values_in w top types) g.value g.rest)
      there_by X S σ (good g) h m =
          subst (λ (ns : List ℕ). PutAnswers text w₂ X into (ended_at b q.end) (made_of X S σ (values_in w top types) ns g.rest)) h.numbers
          (put_ended text w₂ X into q.end g.rest h.rest σ name _ b (clause_for (entries S) X.clauses (take S.seen X.clauses) 0 sort (run_at text name) (values_in w top types) (values_in w₁ (top + types) q.count) name) m)
      there_by X S σ (refused why) h m = absurd h

      pub put-there : (r : Result PutAt Refusal) → r ≡ ended_at b q.end → PutSays text w sort name at types frame top into r w₂
      put-there r e = record {
        walked = types_walked_then (suc into) (suc into) (suc into) top top top w w₁ w₂ (omega arith) (omega arith) (omega arith) (omega arith) (taking (suc into)) M.walked;
        says = λ X S σ H typed.
            subst (λ (x : Result PutAt Refusal). PutAnswers text w₂ X into x (whole_put X S σ)) (sym e)
            (subst (PutAnswers text w₂ X into (ended_at b q.end)) (sym (put_as X S σ))
            (there_by X S σ (numbers_for S name types (from text at)) (answered S H.scope) (meant-before X S σ H typed)));
      }
