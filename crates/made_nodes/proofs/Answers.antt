-- What a definition answers where the code has answered. Assumes nothing.
use Prim.Native.Nat.{ℕ, ◌<◌}
use mathlib.Core.Path.{◌≡◌}
use mathlib.Core.List.{List}
use lib.ListN.{length}
use Rattle.std.proofs.Common.{Ok, Err}
use Rattle.answers.specs.declared.Refusal.{Refusal}
use Rattle.answers.specs.Refusals.{said_why}
use Rattle.calculus.specs.Answer.{Answer, good, refused}
use Rattle.notation_calculus.specs.Making.{Found, Made}
use Rattle.made_types.specs.Held.{HoldsState}
use Rattle.made_types.specs.Listing.{FoundIn}
use Rattle.made_nodes.specs.Held.{TermHeld, MadeIn}
use Rattle.made_nodes.specs.declared.Sub.{Sub}

pub on-type : (v : List ℕ) (k : ℕ) (P : Answer Found → Type 0) (a : Answer Found) → FoundIn v (Ok k) a → ((y : Found) → k ≡ y.type → k < length y.state.table → HoldsState v y.state → P (good y)) → P a
on-type v k P (good y) h f = f y h.0 h.1.0 h.1.1
on-type v k P (refused why) h f = absurd h

pub on-no-type : (v : List ℕ) (q : Refusal) (P : Answer Found → Type 0) (a : Answer Found) → FoundIn v (Err q) a → P (refused (said_why q)) → P a
on-no-type v q P (good y) h f = absurd h
on-no-type v q P (refused why) h f = rw h f

pub on-term : (v : List ℕ) (s : Sub) (P : Answer Made → Type 0) (a : Answer Made) → MadeIn v (Ok s) a → ((m : Made) → HoldsState v m.state → TermHeld v s m → P (good m)) → P a
on-term v s P (good m) h f = f m h.0 h.1
on-term v s P (refused why) h f = absurd h

pub on-no-term : (v : List ℕ) (q : Refusal) (P : Answer Made → Type 0) (a : Answer Made) → MadeIn v (Err q) a → P (refused (said_why q)) → P a
on-no-term v q P (good m) h f = absurd h
on-no-term v q P (refused why) h f = rw h f
