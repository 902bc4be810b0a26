-- The machine of types ends: each step leaves fewer steps to do. Assumes nothing.
use Prim.Native.Nat.{ℕ, zero, suc, ◌+◌, ◌*◌, ◌-◌, ◌≤◌, ◌<◌}
use mathlib.Core.Path.{◌≡◌, refl, sym, ap, subst, ◌∙◌}
use mathlib.Core.Bool.{Bool, true, false, ◌||◌, cond}
use mathlib.Core.List.{List, [], ◌∷◌}
use native.Mathlib.Omega.{arith}
use native.Mathlib.Nat.{add-mul, one-mul, mul-le-mul_right}
use lib.Dec.{T, eqb, leb, leb→le, ltb}
use lib.ListN.{length, get_or, take}
use Rattle.calculus.specs.Answer.{Answer, good, ◌>>=◌, need}
use Rattle.calculus.specs.Types.{TyRec, size, ty_of, tys_from}
use Rattle.calculus.specs.Read.{formed, repeated}
use Rattle.calculus.specs.Record.{All}
use Rattle.laws.proofs.Tests.{on_cond}
use Rattle.notation_calculus.specs.Words.{Name, same_name, Sign, sign_code, arrow, linear, times, round, endRound, comma, square, endSquare, curly, power, Token, sign, part, number, name, Word}
use Rattle.notation_calculus.specs.Trees.{Bound, Number, Form, product, Clause, Text}
use Rattle.notation_calculus.specs.Trees as Trees
use Rattle.notation_calculus.specs.Grammar.{Got, peek, behind, place, is_token, is, number_at, numbers_at}
use Rattle.notation_calculus.specs.Making.{most_puts, State, Found, Entry, Scope, lookup, form_of, listed, entries, room_for, number_of, numbers_in, Put, meant, clause_for, one_put, ones_of}
use Rattle.notation_theorems.proofs.Answering.{On, on_step, on_any, on_test, on_either, on_tests, on_map, on_good}
use Rattle.notation_theorems.proofs.Growing.{ones_keep}
use Rattle.notation_machine.specs.Bodies.{number_for, words_for, bodies_of}
use Rattle.notation_machine.specs.TypeMachine.{Wish, enclosed, argument, body, other, Typing, wanted, came, TypeHere, ask_type, type_done, ask_side, arrow_from, side_from, behind_side, ones_from, in_order_lem, ask_argument, type_put_in, type_named_at, type_entered, type_left, type_move}
use Rattle.notation_machine.specs.TypeSteps.{put_steps, wish_steps, level_steps, type_steps, AllShort, Going}
use Rattle.notation_machine.proofs.Behind.{Left, behind_fewer, number-left, numbers-left, bodies_of_keep}

-- ---- words

-- a word that stands there can be passed
pub sign_some : (s : Sign) (ws : List Word) → eqb (sign_code s) 0 ≡ false → T (is s ws) → length (behind ws) + 1 ≤ length ws
sign_some s [] e t = absurd (subst (λ (b : Bool). T b) e t)
sign_some s (w ∷ ws) e t = omega arith

pub behind_less : (ws : List Word) → length (behind ws) ≤ length ws
behind_less ws = behind_fewer (length ws) ws (omega arith)

-- ---- what is put in is paid for

pub paid : (d c k : ℕ) → 1 ≤ c → d * k + k ≤ (d + c) * k
paid d c k h = let m : 1 * k ≤ c * k = mul-le-mul_right k h in omega (arith, add-mul d c k, one-mul k)

pub put-paid : (most puts cost : ℕ) → puts + cost ≤ most_puts → 1 ≤ cost → put_steps most (puts + cost) + (2 * most + 2) ≤ put_steps most puts
unfolding put_steps
put-paid most puts cost h k = let e : most_puts - puts ≡ (most_puts - (puts + cost)) + cost = omega arith in rw e (paid (most_puts - (puts + cost)) cost (2 * most + 2) k)

pub clause_costs : (under : ℕ) (all cs : List Clause) (i : ℕ) (sort : Bool) (n : Name) (ts ns : List ℕ) (at : ℕ) → On (λ (p : Put). 1 ≤ p.cost) (clause_for under all cs i sort n ts ns at)
clause_costs under all [] i sort n ts ns at = tt
clause_costs under all (c ∷ cs) i sort n ts ns at = on_either (λ (p : Put). 1 ≤ p.cost) (meant c sort n (length ts) ns) _ _ (omega arith) (clause_costs under all cs (suc i) sort n ts ns at)

pub words-short : (most : ℕ) (bodies : List (List Word)) (i : ℕ) → AllShort most bodies → length (get_or bodies i []) ≤ most
words-short most [] i h = omega arith
words-short most (ws ∷ bodies) zero h = h.0
words-short most (ws ∷ bodies) (suc i) h = words-short most bodies i h.1

pub listed_puts : (σ : State) (r : TyRec) (at : ℕ) → On (λ (x : Found). x.state.puts ≡ σ.puts) (listed σ r at)
unfolding listed
listed_puts σ r at = on_either P (repeated σ.table r) _ _ refl (on_any P (need (formed σ.table r) 35 at) _ λ _. on_any P (need (leb (size (ty_of (tys_from [] σ.table) r)) 128) 34 at) _ λ _. on_any P (need (ltb (length σ.table) 256) 34 at) _ λ _. refl)
  where
    P : Found → Type 0
    P x = x.state.puts ≡ σ.puts

pub ones_puts : (at place n : ℕ) (σ : State) → On (λ (x : Found). x.state.puts ≡ σ.puts) (ones_of at place n σ)
ones_puts at place n σ = ones_keep (λ (ρ τ : State). τ.puts ≡ ρ.puts) (λ ρ. refl) (λ ρ τ υ d e. e ∙ d) listed_puts at place n σ

-- no body of a text has more words than the text
short-all : (most : ℕ) (bodies : List (List Word)) → All (λ (us : List Word). length us ≤ most) bodies → AllShort most bodies
short-all most [] h = tt
short-all most (ws ∷ bodies) h = (h.0, short-all most bodies h.1)

pub text-short : (ws : List Word) (bodies : List (List Word)) → bodies_of ws ≡ good bodies → AllShort (length ws) bodies
text-short ws bodies e = short-all (length ws) bodies (on_good (All (λ (us : List Word). length us ≤ length ws)) (bodies_of ws) bodies (bodies_of_keep (λ (us : List Word). length us ≤ length ws) (behind_fewer (length ws)) ws (omega arith)) e)

-- what a machine has to do when it starts
pub type_start : (most more : ℕ) (tight : Bool) (S : Scope) (σ : State) (ws : List Word) → length ws ≤ most → type_steps most (wanted more tight S σ ws []) ≤ 1 + 2 * most + most_puts * (2 * most + 2)
unfolding put_steps
type_start most more tight S σ ws h = let q : (most_puts - σ.puts) * (2 * most + 2) ≤ most_puts * (2 * most + 2) = mul-le-mul_right (2 * most + 2) (omega arith) in omega arith

-- ---- steps

module _ (X : Text) (bodies : List (List Word)) (most : ℕ) (short : AllShort most bodies) where
  -- what is left at a level, from these words on
  abbrev here : TypeHere → ℕ → List Word → ℕ
  here h puts ws = 2 * length ws + level_steps h.above + put_steps most puts

  -- the next state has at most n steps left
  abbrev Most : ℕ → Typing → Type 0
  Most n s = type_steps most s ≤ n

  ask-falls : (s : Sign) (h : TypeHere) (f : Form) (tight : Bool) (x : Found) (ws : List Word) → eqb (sign_code s) 0 ≡ false → T (is s ws) → Most (here h x.state.puts ws) (ask_side h f tight x ws)
  ask-falls s h f tight x ws e t = let k : length (behind ws) + 1 ≤ length ws = sign_some s ws e t in omega arith

  arrow-falls : (h : TypeHere) (x : Found) (ws : List Word) → Most (here h x.state.puts ws) (arrow_from h x ws)
  arrow-falls h x ws = on_cond (Most (here h x.state.puts ws)) h.tight (type_done h x ws) _ (λ _. omega arith) (on_cond (Most (here h x.state.puts ws)) (is arrow ws) (ask_side h Trees.arrow false x ws) _ (λ t. ask-falls arrow h Trees.arrow false x ws refl t) (on_cond (Most (here h x.state.puts ws)) (is linear ws) (ask_side h Trees.linear false x ws) (type_done h x ws) (λ t. ask-falls linear h Trees.linear false x ws refl t) (omega arith)))

  side-falls : (h : TypeHere) (x : Found) (ws : List Word) → Most (here h x.state.puts ws) (side_from h x ws)
  side-falls h x ws = on_cond (Most (here h x.state.puts ws)) (is times ws) (ask_side h product true x ws) (arrow_from h x ws) (λ t. ask-falls times h product true x ws refl t) (arrow-falls h x ws)

  behind-side-falls : (f : Form) (h : TypeHere) (x : Found) (ws : List Word) → Most (here h x.state.puts ws) (behind_side f h x ws)
  behind-side-falls product h x ws = arrow-falls h x ws
  behind-side-falls Trees.arrow h x ws = omega arith
  behind-side-falls Trees.linear h x ws = omega arith

  -- a definition is put in, and pays for its body
  put-falls : (h : TypeHere) (σ : State) (x : Bound) (ts : List ℕ) (ws : List Word) → On (Most (here h σ.puts ws)) (type_put_in X bodies h σ x ts ws)
  put-falls h σ x ts ws =
      on_step (Left (length ws)) Q (numbers_at ws) _ (numbers-left (length ws) ws (omega arith)) λ ks l.
      on_any Q (numbers_in h.scope x.place (length ts) ks.value) _ λ ns.
      on_step (λ (p : Put). 1 ≤ p.cost) Q (clause_for (entries h.scope) X.clauses (take h.scope.seen X.clauses) 0 true x.name ts ns x.place) _ (clause_costs (entries h.scope) X.clauses (take h.scope.seen X.clauses) 0 true x.name ts ns x.place) λ p c.
      paid-by ks ns p l c
    where
      Q : Typing → Type 0
      Q = Most (here h σ.puts ws)

      vs : List ℕ → List Word
      vs ns = words_for bodies (take h.scope.seen X.clauses) true x.name (length ts) ns

      paid-by : (ks : Got (List Number)) (ns : List ℕ) (p : Put) → length ks.rest ≤ length ws → 1 ≤ p.cost → On Q (one_put σ p.cost x.place >>= λ σ₁. good (ask_type h (body ks.rest) false p.scope σ₁ (vs ns)))
      paid-by ks ns p l c = by (leb (σ.puts + p.cost) most_puts) (leb→le (σ.puts + p.cost) most_puts)
        where
          by : (b : Bool) → (T b → σ.puts + p.cost ≤ most_puts) → On Q ((need b 34 x.place >>= λ _. good (record { table = σ.table; nodes = σ.nodes; puts = σ.puts + p.cost })) >>= λ σ₁. good (ask_type h (body ks.rest) false p.scope σ₁ (vs ns)))
          by true g =
              let q : length (vs ns) ≤ most = words-short most bodies (number_for (take h.scope.seen X.clauses) true x.name (length ts) ns) short in
              omega (arith, put-paid most σ.puts p.cost (g tt) c)
          by false g = tt

  ask-argument-falls : (s : Sign) (h : TypeHere) (σ : State) (x : Bound) (given : List ℕ) (ws : List Word) → eqb (sign_code s) 0 ≡ false → T (is s ws) → On (Most (here h σ.puts ws)) (ask_argument h σ x given (behind ws))
  ask-argument-falls s h σ x given ws e t = let k : length (behind ws) + 1 ≤ length ws = sign_some s ws e t in on_any (Most (here h σ.puts ws)) (room_for h.scope (suc (length given)) x.place) _ λ _. omega arith

  most-less : (m n : ℕ) (p : Answer Typing) → m ≤ n → On (Most m) p → On (Most n) p
  most-less m n p h o = on_map (Most m) (Most n) p o λ s k. omega arith

  named-falls : (h : TypeHere) (σ : State) (x : Bound) (ws : List Word) → On (Most (here h σ.puts ws)) (type_named_at X bodies h σ x ws)
  named-falls h σ x ws = on_either Q (is square ws || is curly ws) _ _ there (found h.scope.types 0)
    where
      Q : Typing → Type 0
      Q = Most (here h σ.puts ws)

      there : On Q (cond (is square ws) (ask_argument h σ x [] (behind ws)) (type_put_in X bodies h σ x [] ws))
      there = on_tests Q (is square ws) _ _ (λ t. ask-argument-falls square h σ x [] ws refl t) λ _. put-falls h σ x [] ws

      found : (Γ : List Entry) (i : ℕ) → On Q (lookup x.name Γ i (λ i v. good (side_from h (record { type = v; state = σ }) ws)) (cond (is square ws) (ask_argument h σ x [] (behind ws)) (type_put_in X bodies h σ x [] ws)))
      found [] i = there
      found (e ∷ es) i = on_either Q (same_name x.name e.name) _ _ (side-falls h (record { type = e.value; state = σ }) ws) (found es (suc i))

  ones-fall : (h : TypeHere) (σ : State) (ws : List Word) → On (Most (here h σ.puts ws)) (ones_from h σ ws)
  ones-fall h σ ws =
      on_either Q (is power ws) _ _ (
      on_step (Left (length ws)) Q (number_at (behind ws)) _ (number-left (length ws) (behind ws) (behind_less ws)) λ k l.
      on_any Q (number_of h.scope.numbers k.value) _ λ n.
      on_step (λ (x : Found). x.state.puts ≡ σ.puts) Q (ones_of (place ws) k.value.place n σ) (λ x. good (side_from h x k.rest)) (ones_puts (place ws) k.value.place n σ) λ x e.
      let q : here h x.state.puts k.rest ≡ here h σ.puts k.rest = ap (λ (p : ℕ). here h p k.rest) e in
      omega (arith, side-falls h x k.rest)) (side-falls h (record { type = 0; state = σ }) ws)
    where
      Q : Typing → Type 0
      Q = Most (here h σ.puts ws)

  -- fewer steps are left behind a step
  abbrev Falls : ℕ → Typing → Type 0
  Falls n s = type_steps most s < n

  fall-by : (m n : ℕ) (p : Answer Typing) → m < n → On (Most m) p → On (Falls n) p
  fall-by m n p h o = on_map (Most m) (Falls n) p o λ s k. omega arith

  fall-as : (m n : ℕ) (p : Answer Typing) → m ≤ n → On (Falls m) p → On (Falls n) p
  fall-as m n p h o = on_map (Falls m) (Falls n) p o λ s k. omega arith

  entered-falls : (h : TypeHere) (σ : State) (k : Token) (ws : List Word) → (peek ws).token ≡ k → On (Falls (1 + here h σ.puts ws)) (type_entered X bodies h σ k ws)
  entered-falls h σ (sign t) ws e = on_test (Falls (1 + here h σ.puts ws)) (is_token round (sign t)) 32 (place ws) _ λ r. let k : length (behind ws) + 1 ≤ length ws = sign_some round ws refl (subst (λ (o : Token). T (is_token round o)) (sym e) r) in omega arith
  entered-falls h σ (part p) ws e = tt
  entered-falls h σ (number n) ws e = fall-by (here h σ.puts (behind ws)) (1 + here h σ.puts ws) (type_entered X bodies h σ (number n) ws) (omega (arith, behind_less ws)) (ones-fall h σ (behind ws))
  entered-falls h σ (name n) ws e = fall-by (here h σ.puts (behind ws)) (1 + here h σ.puts ws) (type_entered X bodies h σ (name n) ws) (omega (arith, behind_less ws)) (named-falls h σ (record { name = n; place = place ws }) (behind ws))

  left-falls : (h : TypeHere) (w : Wish) (x : Found) (ws : List Word) → On (Falls (1 + wish_steps w + here h x.state.puts ws)) (type_left X bodies h w x ws)
  left-falls h enclosed x ws = on_test (Falls (1 + 0 + here h x.state.puts ws)) (is endRound ws) 32 (place ws) _ λ _. fall-by (here h x.state.puts (behind ws)) (1 + 0 + here h x.state.puts ws) (good (side_from h x (behind ws))) (omega (arith, behind_less ws)) (side-falls h x (behind ws))
  left-falls h (argument n given) x ws = fall-by (here h x.state.puts ws) (1 + 0 + here h x.state.puts ws) (type_left X bodies h (argument n given) x ws) (omega arith) (on_tests (Most (here h x.state.puts ws)) (is comma ws) (ask_argument h x.state n (x.type ∷ given) (behind ws)) (need (is endSquare ws) 32 (place ws) >>= λ _. type_put_in X bodies h x.state n (in_order_lem (x.type ∷ given) []) (behind ws)) (λ t. ask-argument-falls comma h x.state n (x.type ∷ given) ws refl t) λ _. on_test (Most (here h x.state.puts ws)) (is endSquare ws) 32 (place ws) _ λ _. most-less (here h x.state.puts (behind ws)) (here h x.state.puts ws) (type_put_in X bodies h x.state n (in_order_lem (x.type ∷ given) []) (behind ws)) (omega (arith, behind_less ws)) (put-falls h x.state n (in_order_lem (x.type ∷ given) []) (behind ws)))
  left-falls h (body us) x ws = fall-by (here h x.state.puts us) (1 + 2 * length us + here h x.state.puts ws) (good (side_from h x us)) (omega arith) (side-falls h x us)
  left-falls h (other f at t) x ws = on_step (λ (y : Found). y.state.puts ≡ x.state.puts) (Falls (1 + 0 + here h x.state.puts ws)) (listed x.state (form_of f t x.type) at) _ (listed_puts x.state (form_of f t x.type) at) λ y e. let q : here h y.state.puts ws ≡ here h x.state.puts ws = ap (λ (p : ℕ). here h p ws) e in omega (arith, behind-side-falls f h y ws)

  -- each step of a machine that goes on leaves fewer steps to do
  pub type_falls : (s : Typing) → Going s → On (λ (t : Typing). type_steps most t < type_steps most s) (type_move X bodies s)
  type_falls (wanted zero tight S σ ws K) g = tt
  type_falls (wanted (suc more) tight S σ ws K) g = fall-as (1 + here (record { more = more; tight = tight; scope = S; above = K }) σ.puts ws) (type_steps most (wanted (suc more) tight S σ ws K)) (type_move X bodies (wanted (suc more) tight S σ ws K)) (omega arith) (entered-falls (record { more = more; tight = tight; scope = S; above = K }) σ (peek ws).token ws refl)
  type_falls (came more x ws []) g = absurd g
  type_falls (came more x ws (l ∷ K)) g = fall-as (1 + wish_steps l.wish + here (record { more = more; tight = l.tight; scope = l.scope; above = K }) x.state.puts ws) (type_steps most (came more x ws (l ∷ K))) (type_move X bodies (came more x ws (l ∷ K))) (omega arith) (left-falls (record { more = more; tight = l.tight; scope = l.scope; above = K }) l.wish x ws)
