-- The value of a number, by its form and by what its name means. Assumes nothing.
use Prim.Native.Nat.{ℕ, ◌+◌, ◌-◌, ◌≤◌, ◌<◌}
use mathlib.Core.Path.{◌≡◌, sym, ap, ◌∙◌, subst}
use mathlib.Core.Bool.{Bool, true, false, cond}
use mathlib.Core.List.{List}
use native.Mathlib.Omega.{arith}
use lib.Dec.{leb}
use borrow.Author.Tests.{le-leb, lt-leb}
use Rattle.calculus.specs.Answer.{Answer, good, ◌>>=◌, refuse, need}
use Rattle.std.proofs.Common.{Ok, Err}
use Rattle.answers.specs.declared.Reason.TheVariants.{UnknownName, TextLimit}
use Rattle.answers.specs.Refusals.{refusal_at}
use Rattle.notation_calculus.specs.Words.{Name, Word}
use Rattle.notation_calculus.specs.Making.{lookup, number_of}
use Rattle.words.specs.Next.{run_at}
use Rattle.clauses.specs.declared.numbers.Num.{Num}
use Rattle.clauses.specs.Numbers.{NumberRead}
use Rattle.scopes.specs.declared.frames.Frame.{Frame}
use Rattle.scopes.specs.Entries.{value_at, first_named}
use Rattle.scopes.specs.Arguments.{numbers_known, NumbersKnown, ValueRead}
use Rattle.scopes.proofs.LookLaws.{FoundNamed, look-named}

module _ (text work : List ℕ) (f : Frame) (us : List Word) (k : Num) (x : NumberRead text us k) where
  abbrev limited : ℕ → ℕ → ℕ → Answer ℕ
  limited plus place n = need (leb (n + plus) 255) 34 place >>= λ _. good (n + plus)

  abbrev value_by : Bool → Name → ℕ → ℕ → Answer ℕ
  value_by b name plus place = cond b (lookup name (numbers_known text work f) 0 (λ i v. good v) (refuse 33 place) >>= limited plus place) (good plus)

  -- the value by what the code has read
  value-is : (b : Bool) → k.named ≡ b → number_of (numbers_known text work f) x.number ≡ value_by b x.number.name k.plus k.place
  value-is b e = ap (λ (c : Bool). value_by c x.number.name x.number.plus x.number.place) (x.is_open ∙ e) ∙ ap (λ (n : ℕ). value_by b x.number.name n x.number.place) x.plus ∙ ap (value_by b x.number.name k.plus) x.place

  pub value-plain : k.named ≡ false → ValueRead text work f us (record { value = Ok k.plus; end = k.end })
  value-plain e = record { read = x.number; is = x.is; lexed = x.lexed; says = (value-is false e, x.small) }

  module _ (e : k.named ≡ true) (K : NumbersKnown text work f) (r : ℕ) (first : r ≡ first_named text work k.place f.numbers (f.variables - f.numbers)) where
    abbrev place : ℕ
    place = k.place

    looked : FoundNamed text work place f.numbers (f.variables - f.numbers) r (λ v. good v) (refuse 33 place) (lookup (run_at text place) (numbers_known text work f) 0 (λ i v. good v) (refuse 33 place))
    looked = subst (λ (j : ℕ). FoundNamed text work place f.numbers (f.variables - f.numbers) j (λ v. good v) (refuse 33 place) (lookup (run_at text place) (numbers_known text work f) 0 (λ i v. good v) (refuse 33 place))) (sym first) (look-named text work place (x.some e) (f.variables - f.numbers) f.numbers 0 (λ v. good v) (refuse 33 place))

    value-named : (m : Answer ℕ) → lookup (run_at text place) (numbers_known text work f) 0 (λ i v. good v) (refuse 33 place) ≡ m → number_of (numbers_known text work f) x.number ≡ (m >>= limited k.plus place)
    value-named m h = value-is true e ∙ ap (λ (n : Name). value_by true n k.plus place) (x.name e) ∙ ap (λ (y : Answer ℕ). y >>= limited k.plus place) h

    pub value-unknown : r ≡ f.variables → ValueRead text work f us (record { value = Err (refusal_at UnknownName place); end = k.end })
    value-unknown q = record { read = x.number; is = x.is; lexed = x.lexed; says = value-named (refuse 33 place) (looked.none (omega (arith, K.ordered))) }

    module _ (q : ¬ (r ≡ f.variables)) where
      pub known-low : r < f.variables
      known-low = omega (arith, looked.most, K.ordered)

      module _ (v : ℕ) (value : v ≡ value_at work r) where
        found-value : lookup (run_at text place) (numbers_known text work f) 0 (λ i v. good v) (refuse 33 place) ≡ good v
        found-value = (looked.there (omega (arith, known-low, K.ordered))).1 ∙ ap (λ (n : ℕ). good n) (sym value)

        pub value-large : 255 < v + k.plus → ValueRead text work f us (record { value = Err (refusal_at TextLimit place); end = k.end })
        value-large h = record { read = x.number; is = x.is; lexed = x.lexed; says = value-named (good v) found-value ∙ ap (λ (b : Bool). need b 34 place >>= λ _. good (v + k.plus)) (lt-leb (v + k.plus) 255 h) }

        pub value-good : v + k.plus ≤ 255 → ValueRead text work f us (record { value = Ok (v + k.plus); end = k.end })
        value-good h = record { read = x.number; is = x.is; lexed = x.lexed; says = (value-named (good v) found-value ∙ ap (λ (b : Bool). need b 34 place >>= λ _. good (v + k.plus)) (le-leb (v + k.plus) 255 h), h) }
