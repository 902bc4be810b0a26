-- Both runs of stores, one behind the other. Assumes nothing.
use Prim.Native.Nat.{ℕ, ◌+◌, ◌*◌}
use mathlib.Core.Path.{ap, ◌∙◌}
use mathlib.Core.List.{List}
use lib.Seq.{sets}
use Rattle.walk_levels.specs.Levels.{scopes_at, scope_numbers}
use Rattle.walk_levels.proofs.push.Goals as goal

pub returns : goal.returns
returns c = c.set_scope.ensures ∙ ap (λ (w : List ℕ). sets w (scopes_at + 4 * c.args.m) (scope_numbers c.args.s)) c.set_level.ensures
