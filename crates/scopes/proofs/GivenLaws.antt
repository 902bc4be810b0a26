-- Numbers given one by one, each an entry more. Assumes nothing.
use Prim.Native.Nat.{ℕ, zero, suc, ◌+◌, ◌*◌, ◌-◌, ◌≤◌, ◌<◌}
use mathlib.Core.Path.{◌≡◌, refl, sym, ap, ◌∙◌, subst}
use mathlib.Core.Bool.{Bool, true, false}
use mathlib.Core.List.{List, [], ◌∷◌, ◌++◌}
use native.Mathlib.Omega.{arith}
use lib.Dec.{leb}
use lib.ListN.{length, get_or}
use borrow.Author.Tests.{le-leb, lt-leb}
use Rattle.calculus.specs.Answer.{Answer, good, refused, ◌>>=◌, need}
use Rattle.std.proofs.Common.{Ok, Err}
use Rattle.answers.specs.declared.Refusal.{Refusal as Why}
use Rattle.answers.specs.declared.Reason.TheVariants.{TextLimit}
use Rattle.answers.specs.Refusals.{refusal_at, said_why}
use Rattle.notation_calculus.specs.Words.{Word}
use Rattle.notation_calculus.specs.Trees.{Number}
use Rattle.notation_calculus.specs.Grammar.{Got, behind, number_at}
use Rattle.notation_calculus.specs.Making.{Entry, Scope, entries, number_of, numbers_in, most_entries}
use Rattle.words.specs.Lexed.{from}
use Rattle.making_memory.specs.Map.{scope_at}
use Rattle.clauses.specs.Groups.{value_in, rest_in_lem, list_in, Readable}
use Rattle.clauses.specs.Numbers.{no_number, NumberThere, numbers_from, NumbersThere}
use Rattle.clauses.specs.Meant.{values_in}
use Rattle.scopes.specs.declared.frames.Frame.{Frame}
use Rattle.scopes.specs.declared.arguments.Value.{Value}
use Rattle.scopes.specs.Entries.{with_entry, OnlyEntries}
use Rattle.scopes.specs.Arguments.{numbers_known, NumbersKnown, ValueIs, ValueRead, NumbersGiven, CanGive}
use Rattle.scopes.proofs.KeepLaws.{entry_value, entry_only, only_none, only_then, named-same}

-- ---- values that stand in the scope

values_same : (w w' : List ℕ) (n e top : ℕ) → e + n ≤ top → OnlyEntries top most_entries w w' → values_in w' e n ≡ values_in w e n
values_same w w' zero e top h o = refl
values_same w w' (suc n) e top h o = ap (λ (v : ℕ). v ∷ values_in w' (suc e) n) (o.below (scope_at + 2 * e + 1) (omega arith)) ∙ ap (λ (vs : List ℕ). get_or w (scope_at + 2 * e + 1) 0 ∷ vs) (values_same w w' n (suc e) top (omega arith) o)

values_more : (w : List ℕ) (n e : ℕ) → values_in w e (suc n) ≡ values_in w e n ++ get_or w (scope_at + 2 * (e + n) + 1) 0 ∷ []
values_more w zero e = let z : e + 0 ≡ e = omega arith in ap (λ (j : ℕ). get_or w (scope_at + 2 * j + 1) 0 ∷ []) (sym z)
values_more w (suc n) e = let z : suc e + n ≡ e + suc n = omega arith in ap (λ (vs : List ℕ). get_or w (scope_at + 2 * e + 1) 0 ∷ vs) (values_more w n (suc e) ∙ ap (λ (j : ℕ). values_in w (suc e) n ++ get_or w (scope_at + 2 * j + 1) 0 ∷ []) z)

-- ---- one number more

-- the values so far go before what is still to come
abbrev before : List ℕ → Answer (List ℕ) → Answer (List ℕ)
before vs m = m >>= λ ns. good (vs ++ ns)

before-none : (m : Answer (List ℕ)) → m ≡ before [] m
before-none (good ns) = refl
before-none (refused why) = refl

snoc_append : (vs : List ℕ) (v : ℕ) (ns : List ℕ) → vs ++ v ∷ ns ≡ (vs ++ v ∷ []) ++ ns
snoc_append [] v ns = refl
snoc_append (u ∷ vs) v ns = ap (λ (l : List ℕ). u ∷ l) (snoc_append vs v ns)

before_one : (vs : List ℕ) (v : ℕ) (m : Answer (List ℕ)) → before vs (m >>= λ ns. good (v ∷ ns)) ≡ before (vs ++ v ∷ []) m
before_one vs v (good ns) = ap good (snoc_append vs v ns)
before_one vs v (refused why) = refl

-- the first of the numbers that are left
step_is : (S : Scope) (name i : ℕ) (k : Number) (ks : List Number) (b : Bool) → leb (entries S + suc i) most_entries ≡ b → (m : Answer ℕ) → number_of S.numbers k ≡ m → numbers_in S name i (k ∷ ks) ≡ (need b 34 name >>= λ _. m >>= λ n. numbers_in S name (suc i) ks >>= λ ns. good (n ∷ ns))
step_is S name i k ks b e m f = ap (λ (x : Bool). need x 34 name >>= λ _. number_of S.numbers k >>= λ n. numbers_in S name (suc i) ks >>= λ ns. good (n ∷ ns)) e ∙ ap (λ (x : Answer ℕ). need b 34 name >>= λ _. x >>= λ n. numbers_in S name (suc i) ks >>= λ ns. good (n ∷ ns)) f

-- so many were given
pub record Giving (text w₀ : List ℕ) (f : Frame) (start n name top : ℕ) (w : List ℕ) (i p : ℕ) : Type 0 where
  pub most : i ≤ n
  pub there : NumbersThere text p (n - i)
  pub only : OnlyEntries top most_entries w₀ w
  pub few : top + i ≤ most_entries
  pub total : (S : Scope) (j : ℕ) → S.numbers ≡ numbers_known text w₀ f → entries S + j ≡ top → numbers_in S name j (numbers_from text start n) ≡ before (values_in w top i) (numbers_in S name (j + i) (numbers_from text p (n - i)))

module _ (text w₀ : List ℕ) (f : Frame) (start n name top : ℕ) (C : CanGive text w₀ f start n top) where
  pub giving_none : Giving text w₀ f start n name top w₀ 0 start
  giving_none =
      let z : n - 0 ≡ n = omega arith in
      record {
        most = omega arith;
        there = rw z C.there;
        only = only_none top most_entries w₀;
        few = omega (arith, C.few);
        total = λ S j e g. let y : j + 0 ≡ j = omega arith in before-none _ ∙ ap (λ (k : ℕ). before [] (numbers_in S name k (numbers_from text start n))) (sym y) ∙ ap (λ (k : ℕ). before [] (numbers_in S name (j + 0) (numbers_from text start k))) (sym z);
      }

  module _ (w : List ℕ) (i p : ℕ) (c : Giving text w₀ f start n name top w i p) where
    -- the number parameters stay
    known_same : numbers_known text w f ≡ numbers_known text w₀ f
    known_same = named-same text w₀ w top most_entries c.only (f.variables - f.numbers) f.numbers (omega (arith, C.known.ordered, C.below))

    pub giving-known : NumbersKnown text w f
    giving-known = record {
      places = record {
        room = omega (arith, C.known.places.room, c.only.same);
        most = C.known.places.most;
        inside = λ e a b. subst (λ (j : ℕ). j ≤ length text) (sym (c.only.below (scope_at + 2 * e) (omega (arith, C.below)))) (C.known.places.inside e a b);
      };
      ordered = C.known.ordered;
    }

    pub giving-done : n ≤ i → NumbersGiven text w₀ f start n name top w (Ok tt)
    giving-done h =
        let z : n - i ≡ 0 = omega arith in
        let y : i ≡ n = omega (arith, c.most) in
        record {
          only = c.only;
          says = (omega (arith, c.few), λ S j e g. c.total S j e g ∙ ap (λ (k : ℕ). before (values_in w top i) (numbers_in S name (j + i) (numbers_from text p k))) z ∙ ap good (append-none (values_in w top i)) ∙ ap (λ (k : ℕ). good (values_in w top k)) y);
        }
      where
        append-none : (vs : List ℕ) → vs ++ [] ≡ vs
        append-none [] = refl
        append-none (v ∷ vs) = ap (λ (l : List ℕ). v ∷ l) (append-none vs)

    module _ (more : i < n) where
      abbrev left : ℕ
      left = n - (i + 1)

      left_is : n - i ≡ suc left
      left_is = omega arith

      all_left : NumbersThere text p (suc left)
      all_left = subst (NumbersThere text p) left_is c.there

      abbrev firstNumber : Number
      firstNumber = value_in no_number (number_at (behind (from text p)))

      abbrev laterNumbers : List Number
      laterNumbers = list_in no_number number_at left (rest_in_lem (number_at (behind (from text p))))

      pub number-next : NumberThere (behind (from text p))
      number-next = all_left.readable.0

      -- the room in a scope, by the entries that there are
      full : (S : Scope) (j : ℕ) → entries S + j ≡ top → entries S + suc (j + i) ≡ top + i + 1
      full S j g = omega arith

      step-on : (S : Scope) (j : ℕ) → S.numbers ≡ numbers_known text w₀ f → (g : entries S + j ≡ top) → (b : Bool) → leb (top + i + 1) most_entries ≡ b → (m : Answer ℕ) → number_of (numbers_known text w f) firstNumber ≡ m → numbers_in S name j (numbers_from text start n) ≡ before (values_in w top i) (need b 34 name >>= λ _. m >>= λ v. numbers_in S name (suc (j + i)) laterNumbers >>= λ ns. good (v ∷ ns))
      step-on S j e g b h m q = c.total S j e g ∙ ap (λ (k : ℕ). before (values_in w top i) (numbers_in S name (j + i) (numbers_from text p k))) left_is ∙ ap (before (values_in w top i)) (step_is S name (j + i) firstNumber laterNumbers b (ap (λ (k : ℕ). leb k most_entries) (full S j g) ∙ h) m (ap (λ (Γ : List Entry). number_of Γ firstNumber) (e ∙ sym known_same) ∙ q))

      pub giving-full : most_entries < top + i + 1 → NumbersGiven text w₀ f start n name top w (Err (refusal_at TextLimit name))
      giving-full h = record {
        only = c.only;
        says = λ S j e g. step-on S j e g false (lt-leb (top + i + 1) most_entries h) (number_of (numbers_known text w f) firstNumber) refl;
      }

      module _ (room : top + i + 1 ≤ most_entries) (u : List Word) (ui : behind (from text p) ≡ u) (r : Value) (R : ValueRead text w f u r) where
        read_is : number_at (behind (from text p)) ≡ good (record { value = R.read; rest = from text r.end })
        read_is = ap number_at ui ∙ R.is

        first-is : firstNumber ≡ R.read
        first-is = ap (value_in no_number) read_is

        later-is : laterNumbers ≡ numbers_from text r.end left
        later-is = ap (λ (m : Answer (Got Number)). list_in no_number number_at left (rest_in_lem m)) read_is

        pub giving-bad : (why : Why) → r.value ≡ Err why → NumbersGiven text w₀ f start n name top w (Err why)
        giving-bad why e = let z = subst (ValueIs text w f R.read) e R.says in record {
          only = c.only;
          says = λ S j e g. step-on S j e g true (le-leb (top + i + 1) most_entries room) (refused (said_why why)) (ap (number_of (numbers_known text w f)) first-is ∙ z);
        }

        module _ (v : ℕ) (e : r.value ≡ Ok v) where
          z : ValueIs text w f R.read (Ok v)
          z = subst (ValueIs text w f R.read) e R.says

          pub giving-small : v ≤ 255
          giving-small = z.1

          abbrev w' : List ℕ
          w' = with_entry w (top + i) 0 v

          stored : OnlyEntries (top + i) (top + i + 1) w w'
          stored = entry_only w (top + i) 0 v (omega arith) giving-known.places.room

          values-now : values_in w top i ++ v ∷ [] ≡ values_in w' top (i + 1)
          values-now =
              let y : suc i ≡ i + 1 = omega arith in
              ap (λ (vs : List ℕ). vs ++ v ∷ []) (sym (values_same w w' i top (top + i) (omega arith) (only_then (top + i) (top + i + 1) (top + i) (top + i) (top + i) most_entries w w' w' (omega arith) (omega arith) (omega arith) (omega arith) stored (only_none (top + i) (top + i) w'))))
              ∙ ap (λ (x : ℕ). values_in w' top i ++ x ∷ []) (sym (entry_value w (top + i) 0 v (omega arith) giving-known.places.room))
              ∙ sym (values_more w' i top)
              ∙ ap (values_in w' top) y

          pub giving-more : Giving text w₀ f start n name top w' (i + 1) r.end
          giving-more = record {
            most = omega arith;
            there = record { lexed = R.lexed; readable = subst (λ (m : Answer (Got Number)). Readable no_number number_at left (rest_in_lem m)) read_is all_left.readable.1 };
            only = only_then top most_entries (top + i) (top + i + 1) top most_entries w₀ w w' (omega arith) (omega arith) (omega arith) (omega arith) c.only stored;
            few = omega arith;
            total = λ S j e g.
                let y : suc (j + i) ≡ j + (i + 1) = omega arith in
                step-on S j e g true (le-leb (top + i + 1) most_entries room) (good v) (ap (number_of (numbers_known text w f)) first-is ∙ z.0)
                ∙ before_one (values_in w top i) v (numbers_in S name (suc (j + i)) laterNumbers)
                ∙ ap (λ (vs : List ℕ). before vs (numbers_in S name (suc (j + i)) laterNumbers)) values-now
                ∙ ap (λ (k : ℕ). before (values_in w' top (i + 1)) (numbers_in S name k laterNumbers)) y
                ∙ ap (λ (l : List Number). before (values_in w' top (i + 1)) (numbers_in S name (j + (i + 1)) l)) later-is;
          }
