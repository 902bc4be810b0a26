-- Types that a term wants: where the grammar reads them within some levels, they are those that `type_from` gives. Assumes nothing.
use Prim.Native.Nat.{ℕ, ◌≤◌}
use mathlib.Core.Path.{◌≡◌, sym, ap, ◌∙◌}
use mathlib.Core.Bool.{false}
use mathlib.Core.List.{List}
use Rattle.calculus.specs.Answer.{Answer, good, ◌>>=◌}
use Rattle.notation_calculus.specs.Words.{Word}
use Rattle.notation_calculus.specs.Trees.{TypeTree, TypeTrees, Text}
use Rattle.notation_calculus.specs.Grammar.{most_nested, Got, got, arguments_at, type_at}
use Rattle.notation_calculus.specs.Making.{State, Found, Scope, found_all, type_of}
use Rattle.notation_theorems.proofs.Answering.{On, on_map, on_good}
use Rattle.notation_machine.specs.Walked.{Runs}
use Rattle.notation_machine.specs.Bodies.{AllRead}
use Rattle.notation_machine.specs.TypeMachine.{TypeLevel, wanted, came, type_move}
use Rattle.notation_machine.specs.TypeFrom.{type_from, types_from}
use Rattle.notation_machine.proofs.Running.{bind-bind}
use Rattle.notation_machine.proofs.Behind.{type_levels, arguments_levels}
use Rattle.notation_machine.proofs.Types.{machine-types}

module _ (X : Text) (more : ℕ) where
  -- a tree that was read tells what `type_from` gives
  abbrev pub TypeRead : List Word → Got TypeTree → Type 0
  TypeRead ws t = (S : Scope) (σ : State) → type_from X more S σ ws ≡ (type_of X more S σ t.value >>= λ x. got x t.rest)

  abbrev pub TypesRead : List Word → Got TypeTrees → Type 0
  TypesRead ws ts = (S : Scope) (at : ℕ) (σ : State) → types_from X more S at σ ws ≡ (found_all (λ R τ t. type_of X more R τ t) S at 0 σ ts.value >>= λ xs. got xs ts.rest)

  pub type_read : (m : ℕ) → m ≤ most_nested → (ws : List Word) → On (TypeRead ws) (type_at m false ws)
  unfolding type_from
  type_read m h ws = on_map (λ (t : Got TypeTree). type_at most_nested false ws ≡ good t) (TypeRead ws) (type_at m false ws) (type_levels m most_nested h false ws) λ t e S σ. ap (λ (q : Answer (Got TypeTree)). q >>= λ t. type_of X more S σ t.value >>= λ x. got x t.rest) e

  pub types-read : (m : ℕ) → m ≤ most_nested → (ws : List Word) → On (TypesRead ws) (arguments_at (λ us. type_at m false us) ws)
  unfolding types_from
  types-read m h ws = on_map (λ (ts : Got TypeTrees). arguments_at (λ us. type_at most_nested false us) ws ≡ good ts) (TypesRead ws) (arguments_at (λ us. type_at m false us) ws) (arguments_levels m most_nested h ws) λ ts e S at σ. ap (λ (q : Answer (Got TypeTrees)). q >>= λ ts. found_all (λ R τ t. type_of X more R τ t) S at 0 σ ts.value >>= λ xs. got xs ts.rest) e

-- the machine of types, started at words that begin with a type, gives `type_from`
pub machine_type_from :
    (X : Text) (bodies : List (List Word)) → AllRead bodies X.clauses
    → (m more : ℕ) (ws : List Word) (g : Got TypeTree) → m ≤ most_nested → type_at m false ws ≡ good g
    → (S : Scope) (σ : State) (K : List TypeLevel) → (n : ℕ) × Runs (type_move X bodies) n (wanted more false S σ ws K) (type_from X more S σ ws >>= λ x. good (came more x.value x.rest K))
machine_type_from X bodies reads m more ws g h e S σ K =
    let (n, r) = machine-types X bodies reads m more false ws g e S σ K in
    let t = on_good (TypeRead X more ws) (type_at m false ws) g (type_read X more m h ws) e S σ in
    (n, r ∙ sym (ap (λ (q : Answer (Got Found)). q >>= λ x. good (came more x.value x.rest K)) t ∙ bind-bind (type_of X more S σ g.value) (λ x. got x g.rest) (λ x. good (came more x.value x.rest K))))
