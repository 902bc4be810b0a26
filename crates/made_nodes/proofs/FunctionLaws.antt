-- Functions of several names, from the last on. Assumes nothing.
use Prim.Native.Nat.{ℕ, zero, suc, ◌+◌, ◌*◌, ◌<◌, ◌≤◌}
use mathlib.Core.Path.{◌≡◌, refl, sym, ap, subst, ◌∙◌}
use mathlib.Core.List.{List, [], ◌∷◌}
use native.Mathlib.Omega.{arith}
use lib.ListN.{length, get_or, drop}
use lib.Seq.{drop-cons, drop-length}
use Rattle.std.proofs.Common.{Result, Ok, Err}
use Rattle.answers.specs.declared.Refusal.{Refusal}
use Rattle.answers.specs.Refusals.{said_why}
use Rattle.calculus.specs.Answer.{Answer, refused, ◌>>=◌}
use Rattle.calculus.specs.Answer.{Refusal as Why}
use Rattle.notation_calculus.specs.Trees.{Bound}
use Rattle.notation_calculus.specs.Making.{Made, function_of, functions_of, rest}
use Rattle.making_memory.specs.Map.{scope_at}
use Rattle.made_types.specs.Held.{HoldsState}
use Rattle.made_nodes.specs.Held.{TermHeld, MadeIn, MadeOnly}
use Rattle.made_nodes.specs.Forms.{NamesIn, FunctionSays, FunctionsSay}
use Rattle.made_nodes.specs.declared.Sub.{Sub}
use Rattle.made_nodes.proofs.Terms.{made-same, made_on}
use Rattle.made_nodes.proofs.Answers.{on-term, on-no-term}

-- where the functions of the later names are refused, all are
refused_on : (xs : List Bound) (left t : ℕ) (m : Made) (why : Why) → functions_of (drop left xs) t m ≡ refused why → functions_of xs t m ≡ refused why
refused_on xs zero t m why e = e
refused_on [] (suc left) t m why e = e
refused_on (x ∷ xs) (suc left) t m why e = rw (refused_on xs left t m why e)

-- the functions of the names from `left` on are made
pub record FunctionsGoing (w₀ : List ℕ) (from count t : ℕ) (e : Sub) (w : List ℕ) (f : Sub) (left : ℕ) : Type 0 where
  pub within : left ≤ count
  pub only : MadeOnly w₀ w
  pub small : f.ty < 256
  pub says :
      (xs : List Bound) (m : Made) → length xs ≡ count → NamesIn w₀ from xs → HoldsState w₀ m.state → TermHeld w₀ e m → t < length m.state.table
      → MadeIn w (Ok f) (functions_of (drop left xs) t m)

pub going_start : (w : List ℕ) (from count t : ℕ) (e : Sub) → e.ty < 256 → FunctionsGoing w from count t e w e count
going_start w from count t e small = record {
  within = omega arith;
  only = made-same w;
  small = small;
  says = λ xs m l N H h k. rw (← l, drop-length xs) (H, h);
}

module _ (w₀ : List ℕ) (from count t : ℕ) (e : Sub) (w : List ℕ) (f : Sub) (left next : ℕ) (G : FunctionsGoing w₀ from count t e w f left) (one : next + 1 ≡ left) where
  -- the next name's function, over those of the later names
  more : (place : ℕ) → place ≡ get_or w (scope_at + 2 * (from + next)) 0 → from + count ≤ 1024 → (r : Result Sub Refusal) (w' : List ℕ) → FunctionSays w place t f r w'
      → (xs : List Bound) (m : Made) → length xs ≡ count → NamesIn w₀ from xs → HoldsState w₀ m.state → TermHeld w₀ e m → t < length m.state.table
      → MadeIn w' r (functions_of (drop next xs) t m)
  more place p b r w' F xs m l N H h k =
      let i = G.within in
      let x : Bound = get_or xs next rest in
      let q : x.place ≡ place = sym (N next (omega arith)) ∙ sym (G.only.above (scope_at + 2 * (from + next)) (omega arith) (λ d. omega arith) (λ d. omega arith)) ∙ sym p in
      let n : suc next ≡ left = omega arith in
      let d : drop next xs ≡ x ∷ drop left xs = drop-cons xs next rest (omega arith) ∙ ap (λ (j : ℕ). x ∷ drop j xs) n in
      rw d (on-term w f (λ (a : Answer Made). MadeIn w' r (a >>= λ g. function_of x t g)) (functions_of (drop left xs) t m) (G.says xs m l N H h k)
      (λ g K j. let c = H.types.count in let c' = K.types.count in let o = G.only.more_types in F.says x g q K j (omega arith)))

  pub going_on :
      (place : ℕ) → place ≡ get_or w (scope_at + 2 * (from + next)) 0 → from + count ≤ 1024 → (s : Sub) (r : Result Sub Refusal) (w' : List ℕ) → r ≡ Ok s → FunctionSays w place t f r w'
      → FunctionsGoing w₀ from count t e w' s next
  going_on place p b s r w' i F =
      let h = G.within in
      record {
        within = omega arith;
        only = made_on w₀ w w' G.only F.only;
        small = rw i at F.small;
        says = λ xs m l N H h k. subst (λ (a : Result Sub Refusal). MadeIn w' a (functions_of (drop next xs) t m)) i (more place p b r w' F xs m l N H h k);
      }

  pub going_ends :
      (place : ℕ) → place ≡ get_or w (scope_at + 2 * (from + next)) 0 → from + count ≤ 1024 → (why : Refusal) (r : Result Sub Refusal) (w' : List ℕ) → r ≡ Err why → FunctionSays w place t f r w'
      → FunctionsSay w₀ from count t e (Err why) w'
  going_ends place p b why r w' i F = record {
    only = made_on w₀ w w' G.only F.only;
    small = tt;
    says = λ xs m l N H h k.
        on-no-term w' why (λ (a : Answer Made). functions_of (drop next xs) t m ≡ a → MadeIn w' (Err why) (functions_of xs t m)) (functions_of (drop next xs) t m)
        (subst (λ (a : Result Sub Refusal). MadeIn w' a (functions_of (drop next xs) t m)) i (more place p b r w' F xs m l N H h k))
        (λ z. rw (refused_on xs next t m (said_why why) z) refl) refl;
  }

pub going_done : (w₀ : List ℕ) (from count t : ℕ) (e : Sub) (w : List ℕ) (f : Sub) (left : ℕ) → FunctionsGoing w₀ from count t e w f left → left ≡ 0 → FunctionsSay w₀ from count t e (Ok f) w
going_done w₀ from count t e w f left G z = record {
  only = G.only;
  small = G.small;
  says = λ xs m l N H h k. subst (λ (n : ℕ). MadeIn w (Ok f) (functions_of (drop n xs) t m)) z (G.says xs m l N H h k);
}
