-- The next state: a level that is done, an application that goes on, a term that is wanted below. Assumes nothing.
use Prim.Native.Nat.{ℕ, suc, ◌+◌, ◌-◌, ◌≤◌, ◌<◌}
use mathlib.Core.Path.{◌≡◌, refl, sym, ap, subst}
use mathlib.Core.List.{List, ◌∷◌}
use native.Mathlib.Omega.{arith}
use lib.ListN.{length, get_or}
use mathlib.Core.Bool.{cond}
use lib.Dec.{eqb}
use Rattle.std.specs.Prelude.{Option, None, Some, Result, Ok, Err}
use Rattle.answers.specs.declared.Refusal.{Refusal}
use Rattle.calculus.specs.Answer.{Answer, good, refused, ◌>>=◌}
use Rattle.calculus.specs.Types.{rec_at}
use Rattle.notation_calculus.specs.Trees.{Text}
use Rattle.notation_calculus.specs.Making.{State, Scope, Made, applied}
use Rattle.notation_machine.specs.TermMachine.{Function, none, some, Spine, TermWish, TermLevel, ask_term, term_done, applied_to, behind_atom, applying}
use Rattle.making_memory.specs.Map.{node_count_at, making_size}
use Rattle.made_types.specs.Held.{HoldsState}
use Rattle.made_nodes.specs.Held.{MadeIn, MadeOnly, Workable}
use Rattle.made_nodes.specs.Forms.{AppliedSays}
use Rattle.made_nodes.specs.declared.Sub.{Sub}
use Rattle.walk_levels.specs.declared.Level.{Level}
use Rattle.walk_levels.specs.declared.Around.{Around}
use Rattle.walk_levels.specs.Levels.{level_in, scope_in, pushed}
use Rattle.walk_levels.proofs.Pushing.{pushed_level, pushed_scope}
use Rattle.term_walk.specs.declared.Walk.{Walk}
use Rattle.term_walk.specs.declared.Phase.{Phase}
use Rattle.term_walk.specs.declared.Left.{Left}
use Rattle.term_walk.specs.Looks.{words_at, ReadableFrom}
use Rattle.term_walk.specs.Holding.{LevelWrites, FunctionHeld, LeftHeld, LeftIn, entries_of, halves_for, WishHeld, ScopeHeld, TermLevelHeld, TermLevelsHeld, HereHeld, TermCame}
use Rattle.term_walk.specs.Steps.{nothing_sub, function_flag, function_sub, part_level, done_step, applies_step, around_walk, CanAskTerm, Below, Asks, CanEnter, StepAnswers, term_here_with, BehindSays, HereNow, MadeNodes, MadeSays}
use Rattle.term_walk.proofs.HoldLaws.{stepped_none, stepped_made, stepped_pushed, wish_stays, levels-stay, here-now, pushed_state, pushed_scope-held, levels_within}

-- ---- by the code

module _ (h : Walk) (at : ℕ) (m : Result Sub Refusal) where
  pub done_refused : (z : Refusal) → m ≡ Err z → Err z ≡ done_step h m at
  done_refused z e = rw e

  pub done-made : (x : Sub) → m ≡ Ok x → Ok (record { phase = Phase.Came; more = h.more; frame = h.frame; top = h.top; waiting = h.waiting; place = 0; sub = x; at = at }) ≡ done_step h m at
  done-made x e = rw e

  pub applies_refused : (begins : ℕ) (z : Refusal) → m ≡ Err z → Err z ≡ applies_step h begins m at
  applies_refused begins z e = rw e

  pub applies_made : (begins : ℕ) (x : Sub) → m ≡ Ok x → Ok (record { phase = Phase.Applying; more = h.more; frame = h.frame; top = h.top; waiting = h.waiting; place = begins; sub = x; at = at }) ≡ applies_step h begins m at
  applies_made begins x e = rw e

-- ---- nodes

-- a term that was made above another has a node of its own
pub made-nodes : (waiting : ℕ) (w w' : List ℕ) (r : Result Sub Refusal) (a : Answer Made) → suc waiting ≤ get_or w node_count_at 0 → MadeOnly w w' → MadeIn w' r a → MadeNodes waiting r a
made-nodes waiting w w' (Ok x) (good m) h o (H, t) = omega (arith, o.more_nodes, H.nodes)
made-nodes waiting w w' (Ok x) (refused why) h o i = tt
made-nodes waiting w w' (Err e) a h o i = tt

-- ---- a level that is done, and an application

module _ (text : List ℕ) (X : Text) (most bottom : ℕ) (w : List ℕ) (h : Walk) (S : Scope) (K : List TermLevel) (k at : ℕ) (e : h.more ≡ suc k) (r : ReadableFrom text at) (g : HereNow text X most bottom w h S K) where
  pub done_says : (m : Result Sub Refusal) (a : Answer Made) → MadeIn w m a → MadeNodes h.waiting m a → StepAnswers text X most bottom w (done_step h m at) (a >>= λ x. good (term_done (term_here_with k S K) x (words_at text at)))
  done_says (Ok x) (good m) (H, t) few = let q = g.now m.state H in (refl, e, record { is = refl; readable = r }, record { S = S; here = record { scope = q.scope; few = q.few; levels = q.levels; nested = q.nested }; came = record { term = t; few = few } })
  done_says (Ok x) (refused why) i few = i
  done_says (Err e) (good m) i few = i
  done_says (Err e) (refused why) i few = i

  pub applies_says : (begins place : ℕ) → begins ≡ place → (m : Result Sub Refusal) (a : Answer Made) → MadeIn w m a → MadeNodes h.waiting m a → StepAnswers text X most bottom w (applies_step h begins m at) (a >>= λ x. good (applying k S place x (words_at text at) K))
  applies_says begins place b (Ok x) (good m) (H, t) few = let q = g.now m.state H in (refl, e, record { is = refl; readable = r }, b, record { scope = q.scope; few = q.few; levels = q.levels; nested = q.nested }, record { term = t; few = few })
  applies_says begins place b (Ok x) (refused why) i few = i
  applies_says begins place b (Err e) (good m) i few = i
  applies_says begins place b (Err e) (refused why) i few = i

-- ---- an atom that is there

-- the function so far has a type of the table
pub left_small : (w : List ℕ) (s : Left) (p : Spine) → Workable w → LeftHeld w s p → (y : Sub) → s.function ≡ Some y → y.ty < 256
left_small w s p W l y e = by p.function (subst (λ (g : Option Sub). FunctionHeld w g p.function) e l.function)
  where
    by : (f : Function) → FunctionHeld w (Some y) f → y.ty < 256
    by none t = absurd t
    by (some f) t = omega (arith, t.known, W.few)

-- a level keeps what stands left of an atom
pub left_again : (w : List ℕ) (s : Left) (p : Spine) (form count next : ℕ) → LeftHeld w s p → LeftIn w (part_level form s count next) p
left_again w s p form count next l = record { flag = few s.function; held = record { place = l.place; function = by s.function p.function l.function } }
  where
    few : (g : Option Sub) → function_flag g ≤ 1
    few None = omega arith
    few (Some f) = omega arith

    by : (g : Option Sub) (f : Function) → FunctionHeld w g f → FunctionHeld w (cond (eqb (function_flag g) 0) None (Some (record { node = (function_sub g).node; ty = (function_sub g).ty; deep = (function_sub g).deep }))) f
    by None f t = t
    by (Some x) f t = t

module _ (w : List ℕ) (h : Walk) (s : Left) (x : Sub) (at : ℕ) where
  pub behind-first : s.function ≡ None → (r : Result Walk Refusal) → r ≡ applies_step h s.place (Ok x) at → BehindSays w h s x at r w
  behind-first z r e = record { stepped = λ a b. stepped_none h.more h.top h.waiting w; says = λ text X most bottom k S K p m q rd g t l. rw e (by text X most bottom k S K p m q rd g t l p.function (subst (λ (y : Option Sub). FunctionHeld w y p.function) z l.function)) }
    where
      by : (text : List ℕ) (X : Text) (most bottom k : ℕ) (S : Scope) (K : List TermLevel) (p : Spine) (m : Made) → h.more ≡ suc k → ReadableFrom text at → HereHeld text X most bottom w h S m.state K → TermCame w x h.waiting m → LeftHeld w s p → (f : Function) → FunctionHeld w None f → StepAnswers text X most bottom w (applies_step h s.place (Ok x) at) (applied_to (term_here_with k S K) p.place f m (words_at text at))
      by text X most bottom k S K p m q rd g t l none y = applies_says text X most bottom w h S K k at q rd (here-now text X most bottom w w h S m.state K g (stepped_none h.more h.top h.waiting w)) s.place p.place l.place (Ok x) (good m) (g.scope.walkable.state, t.term) t.few
      by text X most bottom k S K p m q rd g t l (some f) y = absurd y

  pub behind-applied : (v : Sub) → s.function ≡ Some v → (y : Result Sub Refusal) (w' : List ℕ) → AppliedSays w s.place v x y w' → (r : Result Walk Refusal) → r ≡ applies_step h s.place y at → BehindSays w h s x at r w'
  behind-applied v z y w' A r e = record { stepped = λ a b. stepped_made h.more h.top h.waiting w w' a b A.only; says = λ text X most bottom k S K p m q rd g t l. rw e (by text X most bottom k S K p m q rd g t l p.function (subst (λ (u : Option Sub). FunctionHeld w u p.function) z l.function)) }
    where
      by : (text : List ℕ) (X : Text) (most bottom k : ℕ) (S : Scope) (K : List TermLevel) (p : Spine) (m : Made) → h.more ≡ suc k → ReadableFrom text at → HereHeld text X most bottom w h S m.state K → TermCame w x h.waiting m → LeftHeld w s p → (f : Function) → FunctionHeld w (Some v) f → StepAnswers text X most bottom w' (applies_step h s.place y at) (applied_to (term_here_with k S K) p.place f m (words_at text at))
      by text X most bottom k S K p m q rd g t l none c = absurd c
      by text X most bottom k S K p m q rd g t l (some f) F =
          let H = g.scope.walkable.state in
          let i = A.says f m H F t.term in
          let st = stepped_made h.more h.top h.waiting w w' g.scope.walkable.scope.places.most (omega (arith, g.few, H.few)) A.only in
          subst (λ (b : ℕ). StepAnswers text X most bottom w' (applies_step h s.place y at) (applied b (rec_at m.state.table f.type) f m >>= λ v. good (applying k S p.place v (words_at text at) K))) l.place
          (applies_says text X most bottom w' h S K k at q rd (here-now text X most bottom w w' h S m.state K g st) s.place p.place l.place y (applied s.place (rec_at m.state.table f.type) f m) i (made-nodes h.waiting w w' y _ (omega (arith, t.few, H.nodes)) A.only i))

module _ (w : List ℕ) (h : Walk) (s : Left) (x : Result Sub Refusal) (at : ℕ) where
  pub made_refused_lem : (z : Refusal) → x ≡ Err z → MadeSays w h s x at (Err z) w
  made_refused_lem z e = record { stepped = λ a b. stepped_none h.more h.top h.waiting w; says = λ text X most bottom k S K p' a c rd g i few l. by text X most bottom k S K p' a (subst (λ (y : Result Sub Refusal). MadeIn w y a) e i) }
    where
      by : (text : List ℕ) (X : Text) (most bottom k : ℕ) (S : Scope) (K : List TermLevel) (p' : Spine) (a : Answer Made) → MadeIn w (Err z) a → StepAnswers text X most bottom w (Err z) (a >>= λ m. behind_atom (term_here_with k S K) p' m (words_at text at))
      by text X most bottom k S K p' (good m) i = absurd i
      by text X most bottom k S K p' (refused why) i = i

  pub made-behind : (y : Sub) → x ≡ Ok y → (r : Result Walk Refusal) (w' : List ℕ) → BehindSays w h s y at r w' → MadeSays w h s x at r w'
  made-behind y e r w' B = record { stepped = B.stepped; says = λ text X most bottom k S K p a c rd g i few l. by text X most bottom k S K p a c rd g (subst (λ (z : Result Sub Refusal). MadeIn w z a) e i) (subst (λ (z : Result Sub Refusal). MadeNodes h.waiting z a) e few) l }
    where
      by : (text : List ℕ) (X : Text) (most bottom k : ℕ) (S : Scope) (K : List TermLevel) (p : Spine) (a : Answer Made) → h.more ≡ suc k → ReadableFrom text at → HereNow text X most bottom w h S K → MadeIn w (Ok y) a → MadeNodes h.waiting (Ok y) a → LeftHeld w s p → StepAnswers text X most bottom w' r (a >>= λ m. behind_atom (term_here_with k S K) p m (words_at text at))
      by text X most bottom k S K p (good m) c rd g (H, t) few l = B.says text X most bottom k S K p m c rd (g.now m.state H) (record { term = t; few = few }) l
      by text X most bottom k S K p (refused why) c rd g i few l = absurd i

-- ---- a term that is wanted below

pub below_by : (w : List ℕ) (h : Walk) (l : Level) (frame top waiting at : ℕ) (x : Sub) (w' : List ℕ) → w' ≡ pushed w h.more l (around_walk h) → x ≡ nothing_sub → Below w h l frame top waiting at (record { phase = Phase.Wanted; more = h.more - 1; frame = frame; top = top; waiting = waiting; place = 0; sub = x; at = at }) w'
below_by w h l frame top waiting at x w' m e = record { memory = m; state = ap (λ (y : Sub). record { phase = Phase.Wanted; more = h.more - 1; frame = frame; top = top; waiting = waiting; place = 0; sub = y; at = at }) e }

pub asks-below : (w : List ℕ) (h : Walk) (l : Level) (frame top waiting at : ℕ) (n : Walk) (w' : List ℕ) → Below w h l frame top waiting at n w' → Asks w h l frame top waiting at (Ok n) w'
asks-below w h l frame top waiting at n w' B = record { memory = B.memory; state = ap Ok B.state }

-- a level that is there can wait
pub can_ask : (text w : List ℕ) (h : Walk) → CanEnter text w h → (w₁ : List ℕ) → length w₁ ≡ length w → CanAskTerm w₁ h
can_ask text w h C w₁ e =
    let g = C.here in
    let W = g.scope.walkable in
    record { room = omega (arith, W.room); more = omega (arith, g.nested, (levels_within text C.X C.most C.bottom w C.σ h.more h.top h.waiting C.K g.levels).0); frame = W.level; top = W.scope.places.most; waiting = omega (arith, g.few, W.state.few); some = omega (arith, C.is) }

pub stepped_asks : (w : List ℕ) (h : Walk) (l : Level) (frame top waiting at : ℕ) (r : Result Walk Refusal) (w' : List ℕ) → CanAskTerm w h → Asks w h l frame top waiting at r w' → LevelWrites h.more h.top h.waiting w w'
stepped_asks w h l frame top waiting at r w' C A = subst (λ (v : List ℕ). LevelWrites h.more h.top h.waiting w v) (sym A.memory) (stepped_pushed h.more h.top h.waiting w l (around_walk h) (omega (arith, C.more)) C.room C.top C.waiting)

module _ (text : List ℕ) (X : Text) (most bottom : ℕ) (w : List ℕ) (h : Walk) (S : Scope) (σ : State) (K : List TermLevel) (k : ℕ) (e : h.more ≡ suc k) (g : HereHeld text X most bottom w h S σ K) where
  within-most : h.more ≤ most
  within-most = (levels_within text X most bottom w σ h.more h.top h.waiting K g.levels).0

  pub asked :
      (l : Level) (x : TermWish) (frame top waiting at : ℕ) (S' : Scope) → WishHeld text w h.top h.waiting l x → ScopeHeld text w X k frame top S' σ → h.top + entries_of x ≤ top → h.waiting + halves_for x ≤ waiting
      → waiting ≤ σ.nodes → ReadableFrom text at → (r : Result Walk Refusal) (w' : List ℕ) → Asks w h l frame top waiting at r w'
      → StepAnswers text X most bottom w' r (good (ask_term (term_here_with k S K) x S' σ (words_at text at)))
  asked l x frame top waiting at S' held scope entries halves few rd r w' A =
      subst (λ (v : List ℕ). StepAnswers text X most bottom v r (good (ask_term (term_here_with k S K) x S' σ (words_at text at)))) (sym A.memory) (
      subst (λ (q : Result Walk Refusal). StepAnswers text X most bottom v' q (good (ask_term (term_here_with k S K) x S' σ (words_at text at)))) (sym A.state) (
        refl,
        omega (arith, e),
        record { is = refl; readable = rd },
        record { scope = subst (λ (j : ℕ). ScopeHeld text v' X j frame top S' σ) one (pushed_scope-held w h.more l (around_walk h) room small text X k frame top S' σ scope); few = few; levels = subst (λ (j : ℕ). TermLevelsHeld text X most bottom v' σ j top waiting (record { wish = x; scope = S } ∷ K)) one (subst (λ (j : ℕ). TermLevelHeld text X most v' σ j top waiting (record { wish = x; scope = S })) e level, subst (λ (j : ℕ). TermLevelsHeld text X most bottom v' σ j (scope_in v' j).top (scope_in v' j).waiting K) e others); nested = g.nested },
      ))
    where
      H : HoldsState w σ
      H = g.scope.walkable.state

      room : making_size ≤ length w
      room = g.scope.walkable.room

      small : h.more < 82
      small = omega (arith, within-most, g.nested)

      one : k ≡ h.more - 1
      one = omega (arith, e)

      v' : List ℕ
      v' = pushed w h.more l (around_walk h)

      st : LevelWrites h.more top waiting w v'
      st = stepped_pushed h.more top waiting w l (around_walk h) small room scope.walkable.scope.places.most (omega (arith, few, H.few))

      H' : HoldsState v' σ
      H' = pushed_state w h.more l (around_walk h) room small σ H

      around : scope_in v' h.more ≡ around_walk h
      around = pushed_scope w h.more l (around_walk h) room small

      numbers : level_in v' h.more ≡ l
      numbers = pushed_level w h.more l (around_walk h) room small

      level : TermLevelHeld text X most v' σ h.more top waiting (record { wish = x; scope = S })
      level = record {
        within = within-most;
        scope = subst (λ (a : Around). ScopeHeld text v' X h.more a.frame a.top S σ) (sym around) (pushed_scope-held w h.more l (around_walk h) room small text X h.more h.frame h.top S σ g.scope);
        wish = subst (λ (a : Around). WishHeld text v' a.top a.waiting (level_in v' h.more) x) (sym around) (subst (λ (y : Level). WishHeld text v' h.top h.waiting y x) (sym numbers) (wish_stays h.more top waiting w v' st text h.top h.waiting l x entries halves held));
        entries = subst (λ (a : Around). a.top + entries_of x ≤ top) (sym around) entries;
        halves = subst (λ (a : Around). a.waiting + halves_for x ≤ waiting) (sym around) halves;
      }

      others : TermLevelsHeld text X most bottom v' σ h.more (scope_in v' h.more).top (scope_in v' h.more).waiting K
      others = subst (λ (a : Around). TermLevelsHeld text X most bottom v' σ h.more a.top a.waiting K) (sym around) (levels-stay h.more top waiting w v' st text X σ σ H' most bottom h.more h.top h.waiting K (omega (arith, g.nested)) (omega arith) (omega (arith, entries)) (omega (arith, halves)) g.levels)
