-- What the walk's verdict says: a type number with the binders, or a refusal; and where a term ends. Assumes nothing.
use Rattle.std.specs.Prelude.{ℕ, ◌+◌, ◌≡◌, Result, Ok, Err, List}
use Rattle.calculus.specs.Answer.{Answer, refused, ◌>>=◌}
use Rattle.calculus.specs.Walk.{Stack, Found, found}
use Rattle.answers.specs.declared.Reason.{Reason}
use Rattle.answers.specs.declared.Refusal.{Refusal}
use Rattle.answers.specs.Refusals.{refusal_at, said_why}
use Rattle.records.specs.declared.Rule.{Rule}
use Rattle.binders.specs.Stacks.{Use, stack_of}
use Rattle.binders.specs.declared.Binders.{Binders}
use Rattle.typing.specs.declared.Fine.{Fine}
use Rattle.typing.specs.declared.Checked.{Checked}
use Rattle.typing.specs.Steps.{Types, halves_of}

abbrev pub Verdict : Type 0
Verdict = Result Fine Refusal

-- a type number, the offset past its term, and the nodes up to there
abbrev pub fine_at : ℕ → ℕ → ℕ → Verdict
fine_at t next count = Ok (record { ty = t; next = next; count = count })

abbrev pub said_verdict : Verdict → Stack → Answer Found
said_verdict (Ok f) st = found f.ty st
said_verdict (Err r) st = refused (said_why r)

-- a verdict, and the binders with their marks after it
pub record Held : Type 0 where
  pub verdict : Verdict
  pub binders : Binders

abbrev pub reached : Verdict → Binders → Held
reached v b = record { verdict = v; binders = b }

-- the binders with other marks
abbrev pub with_marks : Binders → List ℕ → Binders
with_marks b used = record { types = b.types; sorts = b.sorts; used = used; count = b.count }

-- what the code answers under the binders b: they are as before, but for the marks
abbrev pub held : Binders → Checked → Held
held b c = reached c.verdict (with_marks b c.used)

-- the binders with n in scope
abbrev pub at_count : Binders → ℕ → Binders
at_count b n = record { types = b.types; sorts = b.sorts; used = b.used; count = n }

unfoldable pub said : Held → Answer Found
said c = said_verdict c.verdict (stack_of c.binders)

-- 12, with the type number wanted and the one found
abbrev pub clash_of : ℕ → ℕ → ℕ → Refusal
clash_of node wanted found = record { reason = Reason.Misfit; place = node; wanted = wanted; found = found }

-- a verdict with its marks
abbrev pub checked : Verdict → List ℕ → Checked
checked v used = record { verdict = v; used = used }

-- the verdict on a variable, node n, that ends at `next`
abbrev pub settled_of : Use → ℕ → ℕ → Verdict
settled_of (Ok t) next n = fine_at t next (n + 1)
settled_of (Err why) next n = Err (refusal_at why n)

-- the binders on entering a second subterm, by the verdict on the first
abbrev pub halves : Types → Rule → Verdict → Stack → Stack
halves R u (Ok f) st = halves_of R u f.ty st
halves R u (Err r) st = st

-- a verdict that is fine has the offset past the term, and the nodes up to there
abbrev pub EndsAt : Verdict → ℕ → ℕ → Type 0
EndsAt (Ok f) next count = (f.next ≡ next) × (f.count ≡ count)
EndsAt (Err r) next count = Unit {0}

-- a verdict with its binders, and where its term ends
pub record HeldSays (c : Held) (a : Answer Found) (next count : ℕ) : Type 0 where
  pub answer : said c ≡ a
  pub ends : EndsAt c.verdict next count

-- the verdict w of a step after v, with the binders after each: its answer, and the same end
pub record FollowsOn (v : Verdict) (st : Stack) (w : Verdict) (out : Stack) (f : Found → Answer Found) : Type 0 where
  pub answer : said_verdict w out ≡ (said_verdict v st >>= f)
  pub ends : (next count : ℕ) → EndsAt v next count → EndsAt w next count

-- the same of verdicts that have their binders
pub record FollowsHeld (x c : Held) (f : Found → Answer Found) : Type 0 where
  pub answer : said c ≡ (said x >>= f)
  pub ends : (next count : ℕ) → EndsAt x.verdict next count → EndsAt c.verdict next count
