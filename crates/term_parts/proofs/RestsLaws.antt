-- A pair taken apart name by name. Assumes nothing.
use Prim.Native.Nat.{ℕ, zero, suc, ◌+◌, ◌*◌, ◌-◌, ◌≤◌, ◌<◌}
use mathlib.Core.Path.{◌≡◌, refl, sym, ap, ◌∙◌, subst}
use mathlib.Core.List.{List, [], ◌∷◌}
use native.Mathlib.Omega.{arith}
use lib.ListN.{length}
use Rattle.std.specs.Prelude.{Result, Ok, Err}
use Rattle.answers.specs.declared.Refusal.{Refusal}
use Rattle.answers.specs.declared.Reason.{Reason}
use Rattle.answers.specs.Refusals.{said_why, refusal_at}
use Rattle.calculus.specs.Answer.{Answer, good, refused, ◌>>=◌}
use Rattle.calculus.specs.Types.{rec_at}
use Rattle.calculus.specs.Terms.{var}
use Rattle.notation_calculus.specs.Words.{Word}
use Rattle.notation_calculus.specs.Trees.{Bound}
use Rattle.notation_calculus.specs.Grammar.{behind}
use Rattle.notation_machine.specs.Lists.{head_at}
use Rattle.notation_calculus.specs.Making.{State, Entry, Scope, with_variables, most_entries, Made, node, halves_of, rest}
use Rattle.notation_machine.specs.TermMachine.{Taken, Apart, apart_from}
use Rattle.words.specs.Lexed.{from}
use Rattle.made_types.specs.Held.{HoldsState}
use Rattle.made_nodes.specs.Held.{TermHeld}
use Rattle.made_nodes.specs.declared.Sub.{Sub}
use Rattle.clauses.specs.Groups.{rest_in_lem}
use Rattle.scopes.specs.Frames.{HoldsScope}
use Rattle.walks.specs.Walkable.{AllTyped}
use Rattle.walks.proofs.Kept.{term_on_terms}
use Rattle.term_parts.specs.declared.halves.Half.{Half}
use Rattle.term_parts.specs.declared.apart.RestEnd.{RestEnd}
use Rattle.term_parts.specs.declared.apart.RestEnd.{RestEnd}
use Rattle.term_parts.specs.Names.{names_by, AllNames, listed_names, NamesStand}
use Rattle.term_parts.specs.Halves.{half_in, sub_of, TakenIn, PartsOnly}
use Rattle.term_parts.specs.Parts.{parted_by, first_name, second_name, HalfWaits, CanTakeAt, TakeLastSays, RestHeld, RestAnswers, RestNames, TakeRestSays, CanApart, Parting, RestsAnswer, RestsSay, ApartAnswers, ApartSays}
use Rattle.term_parts.proofs.Stay.{parts_none, parts_then, halves-stay}
use Rattle.term_parts.proofs.ApartLaws.{halves-known}

-- ---- one more pair waits, and two more variables have types

module _ (text w w' : List ℕ) (top waiting i : ℕ) (o : PartsOnly top (waiting + i) w w') (s : Sub) (m : Made) (T : TermHeld w s m) (place : ℕ) (h : HalfWaits w' (waiting + i) s place) where
  pub taken_more : (ps : List Taken) → length ps ≡ i → TakenIn w waiting ps → TakenIn w' waiting (record { place = place; pair = m } ∷ ps)
  taken_more ps l K =
      let at : half_in w' (waiting + length ps) ≡ record { node = s.node; ty = s.ty; deep = s.deep; place = place } = ap (λ (k : ℕ). half_in w' (waiting + k)) l ∙ h in
      (ap (λ (q : Half). q.place) at, subst (λ (q : Half). TermHeld w' (sub_of q) m) (sym at) (term_on_terms 0 top text w w' o.walked s m T), halves-stay (λ (p : Taken). p.pair) (λ (p : Taken). p.place) w w' waiting ps (λ j a b. o.halves j a (omega arith)) (λ t q U. term_on_terms 0 top text w w' o.walked t q U) K)

pub typed_more : (w : List ℕ) (s : Sub) (m : Made) → HoldsState w m.state → TermHeld w s m → (x y : Bound) (Γ : List Entry) → AllTyped (length m.state.table) Γ → AllTyped (length m.state.table) (parted_by m x y Γ)
typed_more w s m H T x y Γ a = let k = halves-known w s m.state m H T in (k.1, (k.0, a))

-- ---- the names that are left

two_of : (n : ℕ) (ws : List Word) → 2 ≤ n → AllNames head_at behind n ws → AllNames head_at behind 2 ws
two_of zero ws h a = absurd (omega arith)
two_of (suc zero) ws h a = absurd (omega arith)
two_of (suc (suc n)) ws h a = (a.0, (a.1.0, tt))

-- ---- the loop

pub record RestsGoing (text w₀ : List ℕ) (at count top waiting : ℕ) (v : Sub) (w : List ℕ) (p i : ℕ) (s : Sub) : Type 0 where
  pub within : i + 2 ≤ count
  pub stand : NamesStand head_at behind text p (count - i)
  pub only : PartsOnly top waiting w₀ w
  pub says :
      (frame : ℕ) (S : Scope) (m : Made) → frame < 82 → HoldsScope text w₀ frame top S → HoldsState w₀ m.state → TermHeld w₀ v m
      → Parting text w frame top waiting i (count - i) p S s (apart_from S.variables (listed_names text at count) m [])

pub rests_none : (text w : List ℕ) (at count top waiting : ℕ) (v : Sub) → CanApart text w at count top waiting v → 2 ≤ count → RestsGoing text w at count top waiting v w at 0 v
rests_none text w at count top waiting v C h =
    let z : count - 0 ≡ count = omega arith in
    let y : top + 2 * 0 ≡ top = omega arith in
    record {
      within = omega arith;
      stand = subst (NamesStand head_at behind text at) (sym z) C.names;
      only = parts_none top waiting w;
      says = λ frame S m l H σ T. record {
        variables = S.variables;
        made = m;
        taken = [];
        going = ap (λ (k : ℕ). apart_from S.variables (listed_names text at k) m []) (sym z);
        scope = subst (λ (k : ℕ). HoldsScope text w frame k S) (sym y) H;
        state = σ;
        held = T;
        waits = tt;
        counted = refl;
        nodes = omega (arith, C.halves);
        typed = λ a. a;
      };
    }

module _ (text w : List ℕ) (frame top waiting i left at : ℕ) (S : Scope) (s : Sub) (answer : Answer Apart) (P : Parting text w frame top waiting i left at S s answer) where
  -- what a pair that is taken apart next asks
  pub parting_safe : NamesStand head_at behind text at 2 → length text ≤ 65535 → top + 2 * i + 2 ≤ most_entries → CanTakeAt text w at (top + 2 * i) (waiting + i) s
  parting_safe N short few = record {
    names = N;
    short = short;
    few = few;
    halves = omega (arith, P.nodes, P.state.nodes, P.state.few);
    room = P.state.types.room;
    type = omega (arith, P.held.known, P.state.types.count, P.state.types.ok.few);
  }

module _ (text w₀ : List ℕ) (at count top waiting : ℕ) (v : Sub) (C : CanApart text w₀ at count top waiting v) (w : List ℕ) (p i : ℕ) (s : Sub) (G : RestsGoing text w₀ at count top waiting v w p i s) where
  pub rests_can : CanTakeAt text w p (top + 2 * i) (waiting + i) s
  rests_can = parting_safe text w C.frame top waiting i (count - i) p C.S s _ (G.says C.frame C.S C.made C.level C.scope C.state C.held) (record { lexed = G.stand.lexed; all = two_of (count - i) (from text p) (omega (arith, G.within)) G.stand.all }) C.short (omega (arith, C.few, G.within))

  pub rests_done : ¬ (i + 2 < count) → RestsSay text w₀ at count top waiting v (Ok (record { next = p; sub = s })) w
  rests_done h =
      let z : count - i ≡ 2 = omega (arith, G.within) in
      let y : i ≡ count - 2 = omega (arith, G.within) in
      record {
        only = G.only;
        next = subst (NamesStand head_at behind text p) z G.stand;
        says = λ frame S m l H σ T. subst (λ (k : ℕ). Parting text w frame top waiting k 2 p S s (apart_from S.variables (listed_names text at count) m [])) y (subst (λ (k : ℕ). Parting text w frame top waiting i k p S s (apart_from S.variables (listed_names text at count) m [])) z (G.says frame S m l H σ T));
      }

  module _ (more : i + 2 < count) where
    abbrev later : ℕ
    later = count - i - 3

    left_is : count - i ≡ suc (suc (suc later))
    left_is = omega arith

    next_is : count - (i + 1) ≡ suc (suc later)
    next_is = omega arith

    abbrev ws : List Word
    ws = from text p

    abbrev others : List Word
    others = behind (rest_in_lem (head_at ws))

    -- what comes of the first name and of the rest
    module _ (frame : ℕ) (S : Scope) (answer : Answer Apart) (P : Parting text w frame top waiting i (count - i) p S s answer) where
      abbrev restNode : Answer Made
      restNode = node (second_name ws).place (var 0) (halves_of (rec_at P.made.state.table P.made.type)).right 0 [] P.made.state

      abbrev goes_on_lem : Made → Answer Apart
      goes_on_lem r = apart_from (parted_by P.made (first_name ws) rest P.variables) (names_by head_at behind (suc (suc later)) others) r (record { place = (first_name ws).place; pair = P.made } ∷ P.taken)

      going-is : answer ≡ (restNode >>= λ r. goes_on_lem r)
      going-is = P.going ∙ ap (λ (k : ℕ). apart_from P.variables (listed_names text p k) P.made P.taken) left_is

      module _ (w' : List ℕ) (o : PartsOnly (top + 2 * i) (waiting + i) w w') (h : HalfWaits w' (waiting + i) s (first_name ws).place) (next : ℕ) (on : others ≡ from text next) (q : Sub) where
        parting-good : (r : Made) → RestHeld text w' frame (top + 2 * i + 2) (with_variables S P.variables) q (first_name ws) P.made r → Parting text w' frame top waiting (i + 1) (count - (i + 1)) next S q (goes_on_lem r)
        parting-good r R =
            let y : top + 2 * i + 2 ≡ top + 2 * (i + 1) = omega arith in
            let n : r.state.nodes ≡ suc P.made.state.nodes = ap (λ (τ : State). τ.nodes) R.counts in
            record {
              variables = parted_by P.made (first_name ws) rest P.variables;
              made = r;
              taken = record { place = (first_name ws).place; pair = P.made } ∷ P.taken;
              going = ap (λ (us : List Word). apart_from (parted_by P.made (first_name ws) rest P.variables) (names_by head_at behind (suc (suc later)) us) r (record { place = (first_name ws).place; pair = P.made } ∷ P.taken)) on ∙ ap (λ (k : ℕ). apart_from (parted_by P.made (first_name ws) rest P.variables) (listed_names text next k) r (record { place = (first_name ws).place; pair = P.made } ∷ P.taken)) (sym next_is);
              scope = subst (λ (k : ℕ). HoldsScope text w' frame k (with_variables S (parted_by P.made (first_name ws) rest P.variables))) y R.scope;
              state = R.state;
              held = R.held;
              waits = taken_more text w w' (top + 2 * i) waiting i o s P.made P.held (first_name ws).place h P.taken P.counted P.waits;
              counted = omega (arith, P.counted);
              nodes = omega (arith, P.nodes, P.state.nodes, R.state.nodes, n);
              typed = λ a. subst (λ (τ : State). AllTyped (length τ.table) (parted_by P.made (first_name ws) rest P.variables)) (sym R.counts) (typed_more w s P.made P.state P.held (first_name ws) rest P.variables (P.typed (subst (λ (τ : State). AllTyped (length τ.table) S.variables) R.counts a)));
            }

        parting-on : (m : Answer Made) → RestAnswers text w' frame (top + 2 * i + 2) (with_variables S P.variables) (first_name ws) P.made (Ok (record { next = next; sub = q })) m → Parting text w' frame top waiting (i + 1) (count - (i + 1)) next S q (m >>= λ r. goes_on_lem r)
        parting-on (good r) R = parting-good r R
        parting-on (refused why) R = absurd R

      parting-bad : (w' : List ℕ) (z : Refusal) (m : Answer Made) → RestAnswers text w' frame (top + 2 * i + 2) (with_variables S P.variables) (first_name ws) P.made (Err z) m → (m >>= λ r. goes_on_lem r) ≡ refused (said_why z)
      parting-bad w' z (good r) R = absurd R
      parting-bad w' z (refused why) R = ap (λ y. refused y) R

    module _ (r : Result RestEnd Refusal) (w' : List ℕ) (R : TakeRestSays text w p (top + 2 * i) (waiting + i) s r w') where
      all-only : PartsOnly top waiting w₀ w'
      all-only = parts_then top (top + 2 * i) top waiting (waiting + i) waiting w₀ w w' (omega arith) (omega arith) (omega arith) (omega arith) G.only R.only

      pub rests-more : (next : ℕ) (q : Sub) → r ≡ Ok (record { next = next; sub = q }) → RestsGoing text w₀ at count top waiting v w' next (i + 1) q
      rests-more next q e =
          let N : RestNames text ws (Ok (record { next = next; sub = q })) = subst (RestNames text ws) e R.next in
          let all : AllNames head_at behind (suc (suc (suc later))) ws = subst (λ (k : ℕ). AllNames head_at behind k ws) left_is G.stand.all in
          record {
            within = omega arith;
            stand = record { lexed = N.1; all = subst (λ (k : ℕ). AllNames head_at behind k (from text next)) (sym next_is) (subst (AllNames head_at behind (suc (suc later))) N.0 all.1) };
            only = all-only;
            says = λ frame S m l H σ T.
                let P = G.says frame S m l H σ T in
                subst (Parting text w' frame top waiting (i + 1) (count - (i + 1)) next S q) (sym (going-is frame S _ P)) (parting-on frame S _ P w' R.only R.waits next N.0 q (restNode frame S _ P) (subst (λ (y : Result RestEnd Refusal). RestAnswers text w' frame (top + 2 * i + 2) (with_variables S P.variables) (first_name ws) P.made y (restNode frame S _ P)) e (R.says frame (with_variables S P.variables) P.made l P.scope P.state P.held)));
          }

      pub rests-ends : (z : Refusal) → r ≡ Err z → RestsSay text w₀ at count top waiting v (Err z) w'
      rests-ends z e = record {
        only = all-only;
        next = tt;
        says = λ frame S m l H σ T.
            let P = G.says frame S m l H σ T in
            going-is frame S _ P ∙ parting-bad frame S _ P w' z (restNode frame S _ P) (subst (λ (y : Result RestEnd Refusal). RestAnswers text w' frame (top + 2 * i + 2) (with_variables S P.variables) (first_name ws) P.made y (restNode frame S _ P)) e (R.says frame (with_variables S P.variables) P.made l P.scope P.state P.held));
      }

-- ---- all names

few-names : (text w : List ℕ) (frame waiting at count : ℕ) (S : Scope) (m : Made) → count < 2 → ApartAnswers text w frame waiting S (Err (refusal_at Reason.OtherWordDue 0)) (apart_from S.variables (listed_names text at count) m [])
few-names text w frame waiting at zero S m h = refl
few-names text w frame waiting at (suc zero) S m h = refl
few-names text w frame waiting at (suc (suc n)) S m h = absurd (omega arith)

pub apart-few : (text w : List ℕ) (at count top waiting : ℕ) (v : Sub) → count < 2 → ApartSays text w at count top waiting v (Err (refusal_at Reason.OtherWordDue 0)) w
apart-few text w at count top waiting v h = record { only = parts_none top waiting w; says = λ frame S m l H σ T. few-names text w frame waiting at count S m h }

module _ (text w₀ : List ℕ) (at count top waiting : ℕ) (v : Sub) (r : Result RestEnd Refusal) (w : List ℕ) (R : RestsSay text w₀ at count top waiting v r w) where
  pub apart_refused : (z : Refusal) → r ≡ Err z → ApartSays text w₀ at count top waiting v (Err z) w
  apart_refused z e = record {
    only = R.only;
    says = λ frame S m l H σ T. subst (ApartAnswers text w frame waiting S (Err z)) (sym (subst (λ (y : Result RestEnd Refusal). RestsAnswer text w frame top waiting (count - 2) S y (apart_from S.variables (listed_names text at count) m [])) e (R.says frame S m l H σ T))) refl;
  }

  module _ (p : ℕ) (s : Sub) (e : r ≡ Ok (record { next = p; sub = s })) where
    rests-now : RestsSay text w₀ at count top waiting v (Ok (record { next = p; sub = s })) w
    rests-now = subst (λ (y : Result RestEnd Refusal). RestsSay text w₀ at count top waiting v y w) e R

    pub last-can : CanApart text w₀ at count top waiting v → 2 ≤ count → CanTakeAt text w p (top + 2 * (count - 2)) (waiting + (count - 2)) s
    last-can C h = parting_safe text w C.frame top waiting (count - 2) 2 p C.S s _ (rests-now.says C.frame C.S C.made C.level C.scope C.state C.held) rests-now.next C.short (omega (arith, C.few))

    pub apart-last : (w' : List ℕ) → TakeLastSays text w p (top + 2 * (count - 2)) (waiting + (count - 2)) s w' → ApartSays text w₀ at count top waiting v (Ok (record { top = top + 2 * (count - 2) + 2; waiting = waiting + (count - 2) + 1 })) w'
    apart-last w' L = record {
      only = parts_then top (top + 2 * (count - 2)) top waiting (waiting + (count - 2)) waiting w₀ w w' (omega arith) (omega arith) (omega arith) (omega arith) R.only L.only;
      says = λ frame S m l H σ T.
          let P = rests-now.says frame S m l H σ T in
          subst (ApartAnswers text w' frame waiting S (Ok (record { top = top + 2 * (count - 2) + 2; waiting = waiting + (count - 2) + 1 }))) (sym P.going) (record {
            scope = L.scope frame (with_variables S P.variables) P.made l P.scope P.state P.held;
            state = L.state P.made.state P.state;
            taken = taken_more text w w' (top + 2 * (count - 2)) waiting (count - 2) L.only s P.made P.held (first_name (from text p)).place L.waits P.taken P.counted P.waits;
            counted = omega (arith, P.counted);
            fewer = omega (arith, P.nodes, L.counted);
            typed = λ a. typed_more w s P.made P.state P.held (first_name (from text p)) (second_name (from text p)) P.variables (P.typed a);
          });
    }
