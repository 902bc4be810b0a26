-- Numbers as arguments: read by the grammar, worked out, and put behind the type arguments. Assumes nothing.
use Prim.Native.Nat.{ℕ, ◌+◌, ◌≤◌}
use mathlib.Core.Path.{◌≡◌, refl, sym, ap, ◌∙◌, subst}
use mathlib.Core.Bool.{Bool, cond}
use mathlib.Core.List.{List, []}
use native.Mathlib.Omega.{arith}
use lib.ListN.{length}
use Rattle.std.proofs.Common.{Ok, Err}
use Rattle.answers.specs.declared.Refusal.{Refusal}
use Rattle.answers.specs.Refusals.{said_why}
use Rattle.calculus.specs.Answer.{Answer, good, refused, ◌>>=◌}
use Rattle.calculus.proofs.Answers.{refused≢good, good-inj, refused-inj}
use Rattle.notation_calculus.specs.Words.{curly, endCurly, Word}
use Rattle.notation_calculus.specs.Trees.{Number}
use Rattle.notation_calculus.specs.Grammar.{Got, got, behind, expect, list_from, number_at, numbers_at}
use Rattle.notation_calculus.specs.Making.{Scope, entries, numbers_in, most_entries}
use Rattle.words.specs.Next.{Said}
use Rattle.words.specs.Lexed.{from}
use Rattle.words.specs.Marks.{Untold}
use Rattle.grammar.specs.Ends.{rest_of, Ends}
use Rattle.grammar.specs.Skips.{numbers_end}
use Rattle.grammar.proofs.EndLaws.{mark_no}
use Rattle.grammar.proofs.SkipLaws.{numbers-rest}
use Rattle.clauses.specs.declared.groups.Group.{Group}
use Rattle.clauses.specs.Groups.{Readable, GroupRead}
use Rattle.clauses.specs.Numbers.{no_number, numbers_from}
use Rattle.clauses.specs.Meant.{values_in}
use Rattle.clauses.proofs.ListLaws.{numbers_group}
use Rattle.scopes.specs.declared.frames.Frame.{Frame}
use Rattle.scopes.specs.Frames.{frame_in, HoldsScope}
use Rattle.scopes.specs.Arguments.{numbers_known, NumbersGiven, CanGive}
use Rattle.scopes.proofs.KeepLaws.{only_none}
use Rattle.walks.specs.Says.{CanPut}
use Rattle.putting.specs.Putting.{numbers_for, NumbersAnswer, NumbersSay}

-- { .. }, or nothing, by a test of the first word
abbrev numbers_if : List Word → Bool → Answer (Got (List Number))
numbers_if ws b = cond b (list_from number_at (length ws) (behind ws) >>= λ ns. expect endCurly ns.rest >>= λ after. got ns.value after) (got [] ws)

-- numbers were read up to some words
record ReadTo (ws us : List Word) : Type 0 where
  ks : List Number
  is : numbers_at ws ≡ got ks us

read_to : (ws us : List Word) (m : Answer (Got (List Number))) → numbers_at ws ≡ m → rest_of m ≡ good us → ReadTo ws us
read_to ws us (good g) e r = record { ks = g.value; is = e ∙ ap (λ (vs : List Word). got g.value vs) (good-inj r) }
read_to ws us (refused why) e r = absurd (refused≢good r)

-- .. or not
not_read : (text w : List ℕ) (first : ℕ) (e : Refusal) (f : Got (List Number) → Answer (Got (List ℕ))) (m : Answer (Got (List Number))) → rest_of m ≡ refused (said_why e) → NumbersAnswer text w first (Err e) (m >>= f)
not_read text w first e f (good g) h = absurd (refused≢good (sym h))
not_read text w first e f (refused why) h = refused-inj h

-- there are none
pub numbers-none : (text w : List ℕ) (name at types frame top into : ℕ) → CanPut text w name at types frame top into → (v : Said) → Untold text at v 19 → ¬ (v.code ≡ 19) → NumbersSay text w name at types frame top (Ok (record { count = 0; end = at })) w
numbers-none text w name at types frame top into P v u c = record {
  only = only_none (top + types) most_entries w;
  says = λ S H. subst (λ (q : Bool). NumbersAnswer text w (top + types) (Ok (record { count = 0; end = at })) (numbers_if (from text at) q >>= λ ks. numbers_in S name types ks.value >>= λ ns. got ns ks.rest)) (sym (mark_no text at v curly u c)) (record { numbers = refl; few = omega (arith, P.few); rest = record { is = refl; lexed = P.lexed } });
}

module _ (text w : List ℕ) (name at types frame top into : ℕ) (P : CanPut text w name at types frame top into) (b : ℕ) where
  pub numbers_refused : (q : Refusal) → Ends text b (numbers_end (from text at)) (Err q) → NumbersSay text w name at types frame top (Err q) w
  numbers_refused q E = record {
    only = only_none (top + types) most_entries w;
    says = λ S H. not_read text w (top + types) q (λ ks. numbers_in S name types ks.value >>= λ ns. got ns ks.rest) (numbers_at (from text at)) (numbers-rest (from text at) ∙ E);
  }

  module _ (end : ℕ) (E : Ends text b (numbers_end (from text at)) (Ok end)) (g : Group) (G : GroupRead text at 19 g) (f : Frame) (F : f ≡ frame_in w frame) where
    reads : ReadTo (from text at) (from text end)
    reads = read_to (from text at) (from text end) (numbers_at (from text at)) refl (numbers-rest (from text at) ∙ E.is)

    count-is : g.count ≡ length reads.ks
    count-is = G.counted ∙ (numbers_group (from text at) reads.ks (from text end) reads.is).count

    each-is : numbers_from text at g.count ≡ reads.ks
    each-is = ap (numbers_from text at) count-is ∙ (numbers_group (from text at) reads.ks (from text end) reads.is).each

    abbrev held : HoldsScope text w frame top P.walk.S
    held = P.walk.walkable.scope

    variables-low : f.variables ≤ top
    variables-low = omega (arith, ap (λ (x : Frame). x.variables) F, held.under, held.entries)

    pub numbers-can : CanGive text w f at g.count (top + types)
    numbers-can = record {
      there = record { lexed = P.lexed; readable = subst (λ (n : ℕ). Readable no_number number_at n (from text at)) (sym count-is) (numbers_group (from text at) reads.ks (from text end) reads.is).readable };
      known = record { places = record { room = held.places.room; most = omega (arith, variables-low, held.places.most); inside = λ j a c. held.places.inside j (omega arith) (omega (arith, variables-low)) }; ordered = subst (λ (x : Frame). x.numbers ≤ x.variables) (sym F) held.parameters.numbers_next };
      below = omega (arith, variables-low);
      few = P.few;
    }

    module _ (w' : List ℕ) where
      -- what is answered, where what was worked out is known
      given_by : (S : Scope) (m : Answer (List ℕ)) → numbers_in S name types (numbers_from text at g.count) ≡ m → numbers_for S name types (from text at) ≡ (m >>= λ ns. got ns (from text end))
      given_by S m h =
          ap (λ (a : Answer (Got (List Number))). a >>= λ ks. numbers_in S name types ks.value >>= λ ns. got ns ks.rest) reads.is
          ∙ ap (λ (ks : List Number). numbers_in S name types ks >>= λ ns. got ns (from text end)) (sym each-is)
          ∙ ap (λ (a : Answer (List ℕ)). a >>= λ ns. got ns (from text end)) h

      numbers_of : (S : Scope) → HoldsScope text w frame top S → S.numbers ≡ numbers_known text w f
      numbers_of S H = sym H.parameters.numbers ∙ ap (numbers_known text w) (sym F)

      entries-of : (S : Scope) → HoldsScope text w frame top S → entries S + types ≡ top + types
      entries-of S H = ap (λ (n : ℕ). n + types) H.entries

      pub numbers-bad : (q : Refusal) → NumbersGiven text w f at g.count name (top + types) w' (Err q) → NumbersSay text w name at types frame top (Err q) w'
      numbers-bad q N = record { only = N.only; says = λ S H. subst (NumbersAnswer text w' (top + types) (Err q)) (sym (given_by S (refused (said_why q)) (N.says S types (numbers_of S H) (entries-of S H)))) refl }

      pub numbers-good : (u : Unit {0}) → NumbersGiven text w f at g.count name (top + types) w' (Ok u) → NumbersSay text w name at types frame top (Ok (record { count = g.count; end = end })) w'
      numbers-good u N = record {
        only = N.only;
        says = λ S H. subst (NumbersAnswer text w' (top + types) (Ok (record { count = g.count; end = end }))) (sym (given_by S (good (values_in w' (top + types) g.count)) (N.says.1 S types (numbers_of S H) (entries-of S H)))) (record { numbers = refl; few = N.says.0; rest = record { is = refl; lexed = E.lexed } });
      }
