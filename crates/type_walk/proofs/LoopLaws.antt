-- The loop of the walk: it holds a state of the machine whose run leads to what `type_from` gives, and the steps that may be left are no more
-- than the counter. Assumes nothing.
use Prim.Native.Nat.{ℕ, zero, suc, ◌+◌, ◌-◌, ◌≤◌, ◌<◌}
use mathlib.Core.Path.{◌≡◌, refl, sym, ap, subst}
use mathlib.Core.Bool.{true, false}
use mathlib.Core.List.{List, [], ◌∷◌}
use native.Mathlib.Omega.{arith}
use lib.ListN.{length}
use borrow.Author.Tests.{ltb-true, ltb-false}
use Rattle.std.proofs.Common.{Result, Ok, Err}
use Rattle.answers.specs.declared.Refusal.{Refusal as Why}
use Rattle.answers.specs.Refusals.{said_why}
use Rattle.type_walk.specs.declared.levels.Want.{Want}
use Rattle.calculus.specs.Answer.{Answer, good, refused, ◌>>=◌, Refusal}
use Rattle.calculus.proofs.Answers.{good-inj, refused≢good}
use Rattle.notation_calculus.specs.Words.{Word}
use Rattle.notation_calculus.specs.Trees.{TypeTree, Text}
use Rattle.notation_calculus.specs.Grammar.{most_nested, Got, got, type_at}
use Rattle.notation_calculus.specs.Making.{State, Found, Scope, type_of}
use Rattle.notation_theorems.proofs.Answering.{On, on_map}
use Rattle.notation_machine.specs.Walked.{walked}
use Rattle.notation_machine.specs.TypeMachine.{TypeLevel, Typing, wanted, came, type_move}
use Rattle.notation_machine.specs.TypeSteps.{type_steps, AllShort, Going}
use Rattle.notation_machine.specs.TypeFrom.{type_from}
use Rattle.notation_machine.proofs.Running.{runs-stay}
use Rattle.notation_machine.proofs.TypeFalls.{type_start, type_falls}
use Rattle.notation_machine.proofs.TypeFrom.{machine_type_from}
use Rattle.words.specs.Lexed.{from, Lexed}
use Rattle.grammar.specs.Ends.{rest_of, type_step, Ends}
use Rattle.made_types.specs.Held.{HoldsState}
use Rattle.walks.specs.Walkable.{row_bodies, Walkable}
use Rattle.walks.specs.Walked.{TypesWalked}
use Rattle.walks.specs.Says.{TypeAnswers, CanType, TypeSays}
use Rattle.walks.proofs.Kept.{types_walked_none, types_walked_then, bodies_on, rows-read, held-short, words-few}
use Rattle.type_walk.specs.declared.levels.Come.{Come}
use Rattle.type_walk.specs.declared.levels.Walking as code
use Rattle.type_walk.specs.declared.levels.Walking.TheVariants as walking
use Rattle.type_walk.specs.Holding.{LevelsHeld, Answered, Answers}
use Rattle.type_walk.specs.Moves.{found_in_lem, CanStep, Stepped}
use Rattle.type_walk.specs.Loop.{going_in, CanTypeAt}
use Rattle.type_walk.proofs.HoldLaws.{levels_within}

-- where the run of a machine leads that is started at some words
abbrev pub leads : Text → ℕ → Scope → State → List Word → Answer Typing
leads X more S σ ws = type_from X more S σ ws >>= λ x. good (came more x.value x.rest [])

-- ---- a state that goes on

pub record Goes (p : Answer Typing) : Type 0 where
  pub t : Typing
  pub is : p ≡ good t
  pub going : Going t

module _ (text w : List ℕ) (X : Text) (m₀ base : ℕ) where
  came-goes : (q : Come) (σ : State) (K : List TypeLevel) (p : Answer Typing) → LevelsHeld text w X σ m₀ base q.more q.top K → q.more < m₀ → p ≡ good (came q.more (found_in_lem q.ty σ) (from text q.at) K) → Goes p
  came-goes q σ [] p (e, b) l is = absurd (omega arith)
  came-goes q σ (x ∷ K) p h l is = record { t = came q.more (found_in_lem q.ty σ) (from text q.at) (x ∷ K); is = is; going = tt }

  goes : (s : code.Walking) (p : Answer Typing) → Answered text w X m₀ base s p → going_in s m₀ ≡ true → Goes p
  goes (walking.Wanted q) p H e = record { t = wanted q.more q.tight H.scope H.state (from text q.at) H.above; is = H.is; going = tt }
  goes (walking.Came q) p H e = came-goes q H.state H.above p H.levels (ltb-true q.more m₀ e) H.is

going_some : (most : ℕ) (t : Typing) → Going t → 1 ≤ type_steps most t
going_some most (wanted more tight S σ ws K) g = omega arith
going_some most (came more x ws []) g = absurd g
going_some most (came more x ws (l ∷ K)) g = omega arith

-- ---- what the loop keeps

pub record Walks (text w₀ : List ℕ) (X : Text) (a : Answer Typing) (more top : ℕ) (w : List ℕ) (s : code.Walking) (left : ℕ) : Type 0 where
  pub kept : TypesWalked more top w₀ w
  pub answer : Answer Typing
  pub held : Answered text w X more top s answer
  pub steps : ℕ
  pub runs : (answer >>= λ t. walked (type_move X (row_bodies text w₀ 0 (length X.clauses))) steps t) ≡ a
  pub few : On (λ (t : Typing). type_steps (length text + 1) t ≤ left) answer

-- the steps that a text of 65,535 bytes may take
abbrev pub most_steps : ℕ
most_steps = 4295032831

not_ended : (more : ℕ) (t : Typing) (m : Answer (Got Found)) → Going t → good t ≡ (m >>= λ x. good (came more x.value x.rest [])) → ⊥
not_ended more t (good x) g e = subst Going (good-inj e) g
not_ended more t (refused why) g e = refused≢good (sym e)

module _ (text w₀ : List ℕ) (at more frame top : ℕ) (C : CanTypeAt text w₀ at more frame top) (X : Text) (S : Scope) (σ : State) (G : Walkable text w₀ frame top X S σ) where
  abbrev bodies : List (List Word)
  bodies = row_bodies text w₀ 0 (length X.clauses)

  abbrev a : Answer Typing
  a = leads X more S σ (from text at)

  short : AllShort (length text + 1) bodies
  short = held-short text w₀ X.clauses G.clauses.rows

  pub walks_first : Walks text w₀ X a more top w₀ (walking.Wanted (record { more = more; tight = false; frame = frame; top = top; at = at })) most_steps
  walks_first =
      let m = machine_type_from X bodies (rows-read text w₀ X.clauses G.clauses.rows) most_nested more (from text at) C.tree (omega arith) C.reads S σ [] in
      let t = type_start (length text + 1) more false S σ (from text at) (words-few text at C.can.lexed) in
      let s = G.short in
      record {
        kept = types_walked_none more top w₀;
        answer = good (wanted more false S σ (from text at) []);
        held = record { scope = S; state = σ; above = []; is = refl; walkable = G; level = C.can.above; lexed = C.can.lexed; levels = (refl, omega arith) };
        steps = m.0;
        runs = m.1;
        few = omega (arith, t);
      }

  module _ (w : List ℕ) (s : code.Walking) (left : ℕ) (W : Walks text w₀ X a more top w s left) where
    module _ (on : going_in s more ≡ true) where
      abbrev now : Goes W.answer
      now = goes text w X more top s W.answer W.held on

      at-now : Answered text w X more top s (good now.t)
      at-now = subst (Answered text w X more top s) now.is W.held

      few-now : type_steps (length text + 1) now.t ≤ left
      few-now = subst (On (λ (t : Typing). type_steps (length text + 1) t ≤ left)) now.is W.few

      pub walks-can : CanStep text w s
      walks-can = record { X = X; m₀ = more; base = top; t = now.t; held = at-now; going = now.going }

      pub walks-left : 1 ≤ left
      walks-left = omega (arith, few-now, going_some (length text + 1) now.t now.going)

      run_on : (n : ℕ) → walked (type_move X bodies) n now.t ≡ a → (k : ℕ) × ((type_move X bodies now.t >>= λ t. walked (type_move X bodies) k t) ≡ a)
      run_on zero r = absurd (not_ended more now.t (type_from X more S σ (from text at)) now.going r)
      run_on (suc k) r = (k, r)

      pub walks-on : (w' : List ℕ) (x : Result code.Walking Why) (r : code.Walking) → x ≡ Ok r → Stepped text w s x w' → Walks text w₀ X a more top w' r (left - 1)
      walks-on w' x r i Z =
          let d = Z.says X more top now.t at-now now.going in
          let n = G.clauses.rows.few in
          let e : row_bodies text w 0 (length X.clauses) ≡ bodies = bodies_on more top text w₀ w W.kept 0 (length X.clauses) (omega arith) in
          let k = run_on W.steps (subst (λ (p : Answer Typing). (p >>= λ t. walked (type_move X bodies) W.steps t) ≡ a) now.is W.runs) in
          let f = few-now in
          record {
            kept = types_walked_then more more more top top top w₀ w w' (omega arith) (omega arith) (omega arith) (omega arith) W.kept d.0;
            answer = type_move X bodies now.t;
            held = subst (λ (b : List (List Word)). Answered text w' X more top r (type_move X b now.t)) e (subst (λ (y : Result code.Walking Why). Answers text w' X more top y (type_move X (row_bodies text w 0 (length X.clauses)) now.t)) i d.1);
            steps = k.0;
            runs = k.1;
            few = on_map (λ (t : Typing). type_steps (length text + 1) t < type_steps (length text + 1) now.t) (λ (t : Typing). type_steps (length text + 1) t ≤ left - 1) (type_move X bodies now.t) (type_falls X bodies (length text + 1) short now.t now.going) (λ t l. omega arith);
          }

      refused_ends : (w' : List ℕ) (q : Why) (m : Answer (Got Found)) → refused (said_why q) ≡ (m >>= λ x. good (came more x.value x.rest [])) → TypeAnswers text w' (Err q) m
      refused_ends w' q (good x) e = absurd (refused≢good e)
      refused_ends w' q (refused why) e = sym (refused-same e)
        where
          refused-same : {p q : Refusal} → ◌≡◌ {A = Answer Typing} (refused p) (refused q) → p ≡ q
          refused-same e = cc

      pub walks-refused : (w' : List ℕ) (x : Result code.Walking Why) (q : Why) → x ≡ Err q → Stepped text w s x w' → TypesWalked more top w₀ w' × TypeAnswers text w' (Err q) (type_from X more S σ (from text at))
      walks-refused w' x q i Z =
          let d = Z.says X more top now.t at-now now.going in
          let n = G.clauses.rows.few in
          let e : row_bodies text w 0 (length X.clauses) ≡ bodies = bodies_on more top text w₀ w W.kept 0 (length X.clauses) (omega arith) in
          let k = run_on W.steps (subst (λ (p : Answer Typing). (p >>= λ t. walked (type_move X bodies) W.steps t) ≡ a) now.is W.runs) in
          let r : type_move X bodies now.t ≡ refused (said_why q) = subst (λ (b : List (List Word)). type_move X b now.t ≡ refused (said_why q)) e (subst (λ (y : Result code.Walking Why). Answers text w' X more top y (type_move X (row_bodies text w 0 (length X.clauses)) now.t)) i d.1) in (
            types_walked_then more more more top top top w₀ w w' (omega arith) (omega arith) (omega arith) (omega arith) W.kept d.0,
            refused_ends w' q (type_from X more S σ (from text at)) (subst (λ (p : Answer Typing). (p >>= λ t. walked (type_move X bodies) k.0 t) ≡ a) r k.1),
          )

    -- a type came that no level waits for
    came-answers : (q : Come) (τ : State) (m : Answer (Got Found)) → q.ty < length τ.table → HoldsState w τ → Lexed text q.at → (m >>= λ x. good (came more x.value x.rest [])) ≡ good (came q.more (found_in_lem q.ty τ) (from text q.at) []) → TypeAnswers text w (Ok (record { ty = q.ty; end = q.at })) m
    came-answers q τ (good g) k H l e =
        let v : g.value ≡ found_in_lem q.ty τ = came-value (good-inj e) in
        let u : g.rest ≡ from text q.at = came-rest (good-inj e) in
        record {
          type = ap (λ (x : Found). x.type) (sym v);
          known = subst (λ (x : Found). q.ty < length x.state.table) (sym v) k;
          state = subst (λ (x : Found). HoldsState w x.state) (sym v) H;
          rest = record { is = u; lexed = l };
        }
      where
        came-value : {m n : ℕ} {x y : Found} {us vs : List Word} {K L : List TypeLevel} → came m x us K ≡ came n y vs L → x ≡ y
        came-value e = cc

        came-rest : {m n : ℕ} {x y : Found} {us vs : List Word} {K L : List TypeLevel} → came m x us K ≡ came n y vs L → us ≡ vs
        came-rest e = cc
    came-answers q τ (refused why) k H l e = absurd (refused≢good e)

    came-ends : (q : Come) (τ : State) (K : List TypeLevel) → LevelsHeld text w X τ more top q.more q.top K → ¬ (q.more < more) → q.ty < length τ.table → HoldsState w τ → Lexed text q.at → W.answer ≡ good (came q.more (found_in_lem q.ty τ) (from text q.at) K) → TypeAnswers text w (Ok (record { ty = q.ty; end = q.at })) (type_from X more S σ (from text at))
    came-ends q τ [] h n k H l e = came-answers q τ (type_from X more S σ (from text at)) k H l (runs-stay (type_move X bodies) W.steps (came q.more (found_in_lem q.ty τ) (from text q.at) []) a refl (subst (λ (p : Answer Typing). (p >>= λ t. walked (type_move X bodies) W.steps t) ≡ a) e W.runs))
    came-ends q τ (x ∷ K) h n k H l e = absurd (n (omega (arith, (levels_within text w X τ more top q.more q.top (x ∷ K) h).0)))

  ends_by : (w : List ℕ) (q : Come) (left : ℕ) (W : Walks text w₀ X a more top w (walking.Came q) left) → going_in (walking.Came q) more ≡ false → TypeAnswers text w (Ok (record { ty = q.ty; end = q.at })) (type_from X more S σ (from text at))
  ends_by w q left W e = let H = W.held in came-ends w (walking.Came q) left W q H.state H.above H.levels (λ l. omega (arith, ltb-false q.more more e)) H.known H.holds H.lexed H.is

  pub walks_end : (w : List ℕ) (s : code.Walking) (left : ℕ) → Walks text w₀ X a more top w s left → going_in s more ≡ false → (q : Come) → s ≡ walking.Came q → TypeAnswers text w (Ok (record { ty = q.ty; end = q.at })) (type_from X more S σ (from text at))
  walks_end w s left W e q i = ends_by w q left (subst (λ (y : code.Walking). Walks text w₀ X a more top w y left) i W) (subst (λ (y : code.Walking). going_in y more ≡ false) i e)

-- a type that is wanted goes on
pub never_wanted : (s : code.Walking) (more : ℕ) (q : Want) → s ≡ walking.Wanted q → going_in s more ≡ false → ⊥
never_wanted s more q i e = let z : true ≡ false = subst (λ (y : code.Walking). going_in y more ≡ false) i e in let n : ◌≡◌ {A = ℕ} 0 1 = cc in omega arith

-- ---- as a term wants it

module _ (text w : List ℕ) (at more frame top : ℕ) (b : ℕ) where
  refuses-by : (q : Why) (m : Answer (Got TypeTree)) → rest_of m ≡ refused (said_why q) → (k : Got TypeTree → Answer (Got Found)) → TypeAnswers text w (Err q) (m >>= k)
  refuses-by q (good g) z k = absurd (refused≢good (sym z))
  refuses-by q (refused why) z k = same z
    where
      same : {p q : Refusal} → ◌≡◌ {A = Answer (List Word)} (refused p) (refused q) → p ≡ q
      same z = cc

  pub type_refused : (q : Why) → Ends text b (type_step most_nested false (from text at)) (Err q) → TypeSays text w at more frame top (Err q) w
  unfolding type_from
  type_refused q E = record { walked = types_walked_none more top w; says = λ X S σ G. refuses-by q (type_at most_nested false (from text at)) E (λ t. type_of X more S σ t.value >>= λ x. got x t.rest) }

  reads-by : (us : List Word) (m : Answer (Got TypeTree)) → rest_of m ≡ good us → (g : Got TypeTree) × (m ≡ good g)
  reads-by us (good g) z = (g, refl)
  reads-by us (refused why) z = absurd (refused≢good z)

  pub type_read_there : CanType text w at more frame top → (end : ℕ) → Ends text b (type_step most_nested false (from text at)) (Ok end) → CanTypeAt text w at more frame top
  type_read_there C end E = let r = reads-by (from text end) (type_at most_nested false (from text at)) E.is in record { can = C; tree = r.0; reads = r.1 }
