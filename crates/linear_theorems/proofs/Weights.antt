-- Putting in an argument loses an application, a function and a variable, and nothing else: counted by any weight of nodes, so by nodes,
-- bytes, terminals and marks. By induction on the derivation, since the variable stands at one place only. Assumes nothing.
use Prim.Native.Nat.{ℕ, suc, ◌+◌, ◌*◌}
use mathlib.Core.Path.{◌≡◌, refl}
use native.Mathlib.Omega.{arith}
use lib.ListN.{length, length-append}
use Rattle.calculus.specs.Types.{Ty, size, Table, tree}
use Rattle.calculus.specs.Terms.{first, nodes, part_at}
use Rattle.calculus.specs.Net.{left_of}
use Rattle.calculus.specs.Inputs.{tally}
use Rattle.calculus.specs.Write.{term_bytes}
use Rattle.calculus.specs.Rules.{Ctx, once, away, Typed, Var, LVar, →I, →E, ⊸I, ⊸E, ×I, ×E, Fix, Con}
use Rattle.circuit_theorems.specs.Terminals.{terminal_count}
use Rattle.linear_theorems.specs.Marked.{Marked, mvar, mlvar, mfun, mapp, mlfun, mlapp, mpair, mproj, mfix, mcon, plain, marks, times}
use Rattle.linear_theorems.specs.PutIn.{raise, put, PutIn, put_here, in_fun, in_app_left, in_app_right, in_lfun, in_lapp_left, in_lapp_right, in_pair_left, in_pair_right, in_proj_left, in_proj_right, in_fix}
use Rattle.linear_theorems.proofs.Marks.{times-append}
use Rattle.linear_theorems.proofs.PutTyped.{Ins, ins_here, ins_there, other, itself, in_once, none-once, split_drop, split_take, by_first, by_second}

-- what a node adds, by its kind: a variable, an application or projection, a pair; a function or a fixed point by its type number, a
-- constant by its part and its mark
pub record Weight : Type 0 where
  pub var : ℕ
  pub two : ℕ
  pub pair : ℕ
  pub fun : ℕ → ℕ
  pub fix : ℕ → ℕ
  pub con : ℕ → ℕ → ℕ

-- the type number of the linear function that is applied
abbrev pub applied_type : {e e' : Marked} → PutIn e e' → ℕ
applied_type (put_here {t = t}) = t
applied_type (in_fun r) = applied_type r
applied_type (in_app_left r) = applied_type r
applied_type (in_app_right r) = applied_type r
applied_type (in_lfun r) = applied_type r
applied_type (in_lapp_left r) = applied_type r
applied_type (in_lapp_right r) = applied_type r
applied_type (in_pair_left r) = applied_type r
applied_type (in_pair_right r) = applied_type r
applied_type (in_proj_left r) = applied_type r
applied_type (in_proj_right r) = applied_type r
applied_type (in_fix r) = applied_type r

module _ (w : Weight) where
  abbrev pub weigh : Marked → ℕ
  weigh (mvar i) = w.var
  weigh (mlvar i) = w.var
  weigh (mfun t e) = w.fun t + weigh e
  weigh (mapp f a) = w.two + (weigh f + weigh a)
  weigh (mlfun t e) = w.fun t + weigh e
  weigh (mlapp f a) = w.two + (weigh f + weigh a)
  weigh (mpair t a b) = w.pair + (weigh a + weigh b)
  weigh (mproj a e) = w.two + (weigh a + weigh e)
  weigh (mfix t e) = w.fix t + weigh e
  weigh (mcon p t k) = w.con p k

  raise-weight : (c : ℕ) (e : Marked) → weigh (raise c e) ≡ weigh e
  raise-weight c (mvar i) = refl
  raise-weight c (mlvar i) = refl
  raise-weight c (mfun t e) = omega (arith, raise-weight (suc c) e)
  raise-weight c (mapp f a) = omega (arith, raise-weight c f, raise-weight c a)
  raise-weight c (mlfun t e) = omega (arith, raise-weight (suc c) e)
  raise-weight c (mlapp f a) = omega (arith, raise-weight c f, raise-weight c a)
  raise-weight c (mpair t a b) = omega (arith, raise-weight c a, raise-weight c b)
  raise-weight c (mproj a e) = omega (arith, raise-weight c a, raise-weight (suc (suc c)) e)
  raise-weight c (mfix t e) = omega (arith, raise-weight (suc c) e)
  raise-weight c (mcon p t k) = refl

  module _ {Θ : Table} where
    drop-weight : (e a : Marked) {j : ℕ} {Γ Γ⁺ : Ctx} {τ : Ty} → Ins j away Γ Γ⁺ → Typed first Θ Γ⁺ (plain e) τ → weigh (put j a e) ≡ weigh e
    drop-weight (mvar i) a p (Var x) = refl
    drop-weight (mlvar i) a p (LVar x) = rw (other p x)
    drop-weight (mfun t e) a p (→I q s d) = omega (arith, drop-weight e (raise 0 a) (ins_there p) d)
    drop-weight (mapp f b) a p (→E z s d c) = let h = split_drop p z in omega (arith, drop-weight f a h.ins_one d, drop-weight b a h.ins_two c)
    drop-weight (mlfun t e) a p (⊸I q s d) = omega (arith, drop-weight e (raise 0 a) (ins_there p) d)
    drop-weight (mlapp f b) a p (⊸E z s d c) = let h = split_drop p z in omega (arith, drop-weight f a h.ins_one d, drop-weight b a h.ins_two c)
    drop-weight (mpair t f b) a p (×I z q s₁ s₂ d c) = let h = split_drop p z in omega (arith, drop-weight f a h.ins_one d, drop-weight b a h.ins_two c)
    drop-weight (mproj f b) a p (×E z s₁ s₂ d c) = let h = split_drop p z in omega (arith, drop-weight f a h.ins_one d, drop-weight b (raise 0 (raise 0 a)) (ins_there (ins_there h.ins_two)) c)
    drop-weight (mfix t e) a p (Fix q s d) = omega (arith, drop-weight e (raise 0 a) (ins_there p) d)
    drop-weight (mcon x t k) a p (Con l q z) = refl

    put-weight : {j : ℕ} {κ τ : Ty} {Γ Γ⁺ : Ctx} (e a : Marked) → Ins j (once κ) Γ Γ⁺ → Typed first Θ Γ⁺ (plain e) τ → weigh (put j a e) + w.var ≡ weigh e + weigh a
    put-weight (mvar i) a p (Var x) = absurd (in_once p x)
    put-weight (mlvar i) a p (LVar x) = rw (itself p x).place (omega arith)
    put-weight (mfun t e) a p (→I q s d) = omega (arith, put-weight e (raise 0 a) (ins_there p) d, raise-weight 0 a)
    put-weight (mapp f b) a p (→E z s d c) =
        elim (split_take p z) [
          | by_first l r y ↦ omega (arith, put-weight f a l d, drop-weight b a r c)
          | by_second l r y ↦ omega (arith, drop-weight f a l d, put-weight b a r c)
        ]
    put-weight (mlfun t e) a p (⊸I q s d) = omega (arith, put-weight e (raise 0 a) (ins_there p) d, raise-weight 0 a)
    put-weight (mlapp f b) a p (⊸E z s d c) =
        elim (split_take p z) [
          | by_first l r y ↦ omega (arith, put-weight f a l d, drop-weight b a r c)
          | by_second l r y ↦ omega (arith, drop-weight f a l d, put-weight b a r c)
        ]
    put-weight (mpair t f b) a p (×I z q s₁ s₂ d c) =
        elim (split_take p z) [
          | by_first l r y ↦ omega (arith, put-weight f a l d, drop-weight b a r c)
          | by_second l r y ↦ omega (arith, drop-weight f a l d, put-weight b a r c)
        ]
    put-weight (mproj f b) a p (×E z s₁ s₂ d c) =
        elim (split_take p z) [
          | by_first l r y ↦ omega (arith, put-weight f a l d, drop-weight b (raise 0 (raise 0 a)) (ins_there (ins_there r)) c)
          | by_second l r y ↦ omega (arith, drop-weight f a l d, put-weight b (raise 0 (raise 0 a)) (ins_there (ins_there r)) c, raise-weight 0 a, raise-weight 0 (raise 0 a))
        ]
    put-weight (mfix t e) a p (Fix q s d) = omega (arith, put-weight e (raise 0 a) (ins_there p) d, raise-weight 0 a)
    put-weight (mcon x t k) a p (Con l q z) = absurd (none-once p z)

    put-in-weight : {Γ : Ctx} {τ : Ty} {e e' : Marked} (r : PutIn e e') → Typed first Θ Γ (plain e) τ → weigh e ≡ weigh e' + (w.two + w.fun (applied_type r) + w.var)
    put-in-weight (put_here {t = t} {e = e} {a = a}) (⊸E z _ (⊸I q s d) c) = omega (arith, put-weight e a ins_here d)
    put-in-weight (in_fun r) (→I q s d) = omega (arith, put-in-weight r d)
    put-in-weight (in_app_left r) (→E z s d c) = omega (arith, put-in-weight r d)
    put-in-weight (in_app_right r) (→E z s d c) = omega (arith, put-in-weight r c)
    put-in-weight (in_lfun r) (⊸I q s d) = omega (arith, put-in-weight r d)
    put-in-weight (in_lapp_left r) (⊸E z s d c) = omega (arith, put-in-weight r d)
    put-in-weight (in_lapp_right r) (⊸E z s d c) = omega (arith, put-in-weight r c)
    put-in-weight (in_pair_left r) (×I z q s₁ s₂ d c) = omega (arith, put-in-weight r d)
    put-in-weight (in_pair_right r) (×I z q s₁ s₂ d c) = omega (arith, put-in-weight r c)
    put-in-weight (in_proj_left r) (×E z s₁ s₂ d c) = omega (arith, put-in-weight r d)
    put-in-weight (in_proj_right r) (×E z s₁ s₂ d c) = omega (arith, put-in-weight r c)
    put-in-weight (in_fix r) (Fix q s d) = omega (arith, put-in-weight r d)

-- ---- four weights

abbrev by_nodes : Weight
by_nodes = record { var = 1; two = 1; pair = 1; fun = λ t. 1; fix = λ t. 1; con = λ p k. 1 }

nodes_weight : (e : Marked) → nodes (plain e) ≡ weigh by_nodes e
nodes_weight (mvar i) = refl
nodes_weight (mlvar i) = refl
nodes_weight (mfun t e) = omega (arith, nodes_weight e)
nodes_weight (mapp f a) = omega (arith, nodes_weight f, nodes_weight a)
nodes_weight (mlfun t e) = omega (arith, nodes_weight e)
nodes_weight (mlapp f a) = omega (arith, nodes_weight f, nodes_weight a)
nodes_weight (mpair t a b) = omega (arith, nodes_weight a, nodes_weight b)
nodes_weight (mproj a e) = omega (arith, nodes_weight a, nodes_weight e)
nodes_weight (mfix t e) = omega (arith, nodes_weight e)
nodes_weight (mcon p t k) = refl

pub raise-nodes : (c : ℕ) (e : Marked) → nodes (plain (raise c e)) ≡ nodes (plain e)
raise-nodes c e = omega (arith, nodes_weight (raise c e), raise-weight by_nodes c e, nodes_weight e)

abbrev by_bytes : Weight
by_bytes = record { var = 2; two = 1; pair = 2; fun = λ t. 2; fix = λ t. 2; con = λ p k. 3 }

bytes_weight : (e : Marked) → length (term_bytes (plain e)) ≡ weigh by_bytes e
bytes_weight (mvar i) = refl
bytes_weight (mlvar i) = refl
bytes_weight (mfun t e) = omega (arith, bytes_weight e)
bytes_weight (mapp f a) = omega (arith, bytes_weight f, bytes_weight a, length-append (term_bytes (plain f)) (term_bytes (plain a)))
bytes_weight (mlfun t e) = omega (arith, bytes_weight e)
bytes_weight (mlapp f a) = omega (arith, bytes_weight f, bytes_weight a, length-append (term_bytes (plain f)) (term_bytes (plain a)))
bytes_weight (mpair t a b) = omega (arith, bytes_weight a, bytes_weight b, length-append (term_bytes (plain a)) (term_bytes (plain b)))
bytes_weight (mproj a e) = omega (arith, bytes_weight a, bytes_weight e, length-append (term_bytes (plain a)) (term_bytes (plain e)))
bytes_weight (mfix t e) = omega (arith, bytes_weight e)
bytes_weight (mcon p t k) = refl

abbrev by_terminals : Table → Weight
by_terminals Θ = record { var = 0; two = 0; pair = 0; fun = λ t. 2 * size (left_of (tree Θ t)); fix = λ t. 2 * size (tree Θ t); con = λ p k. (part_at p).inputs + 1 }

terminals_weight : (Θ : Table) (e : Marked) → terminal_count Θ (plain e) ≡ weigh (by_terminals Θ) e
terminals_weight Θ (mvar i) = refl
terminals_weight Θ (mlvar i) = refl
terminals_weight Θ (mfun t e) = omega (arith, terminals_weight Θ e)
terminals_weight Θ (mapp f a) = omega (arith, terminals_weight Θ f, terminals_weight Θ a)
terminals_weight Θ (mlfun t e) = omega (arith, terminals_weight Θ e)
terminals_weight Θ (mlapp f a) = omega (arith, terminals_weight Θ f, terminals_weight Θ a)
terminals_weight Θ (mpair t a b) = omega (arith, terminals_weight Θ a, terminals_weight Θ b)
terminals_weight Θ (mproj a e) = omega (arith, terminals_weight Θ a, terminals_weight Θ e)
terminals_weight Θ (mfix t e) = omega (arith, terminals_weight Θ e)
terminals_weight Θ (mcon p t k) = refl

abbrev by_mark : ℕ → Weight
by_mark k = record { var = 0; two = 0; pair = 0; fun = λ t. 0; fix = λ t. 0; con = λ p x. tally k x }

marks_weight : (k : ℕ) (e : Marked) → times k (marks e) ≡ weigh (by_mark k) e
marks_weight k (mvar i) = refl
marks_weight k (mlvar i) = refl
marks_weight k (mfun t e) = omega (arith, marks_weight k e)
marks_weight k (mapp f a) = omega (arith, marks_weight k f, marks_weight k a, times-append k (marks f) (marks a))
marks_weight k (mlfun t e) = omega (arith, marks_weight k e)
marks_weight k (mlapp f a) = omega (arith, marks_weight k f, marks_weight k a, times-append k (marks f) (marks a))
marks_weight k (mpair t a b) = omega (arith, marks_weight k a, marks_weight k b, times-append k (marks a) (marks b))
marks_weight k (mproj a e) = omega (arith, marks_weight k a, marks_weight k e, times-append k (marks a) (marks e))
marks_weight k (mfix t e) = omega (arith, marks_weight k e)
marks_weight k (mcon p t x) = omega arith

module _ {Θ : Table} {Γ : Ctx} {τ : Ty} {e e' : Marked} (r : PutIn e e') (d : Typed first Θ Γ (plain e) τ) where
  pub fewer_nodes : nodes (plain e) ≡ nodes (plain e') + 3
  fewer_nodes = omega (arith, put-in-weight by_nodes r d, nodes_weight e, nodes_weight e')

  pub fewer_bytes : length (term_bytes (plain e)) ≡ length (term_bytes (plain e')) + 5
  fewer_bytes = omega (arith, put-in-weight by_bytes r d, bytes_weight e, bytes_weight e')

  pub fewer_terminals : terminal_count Θ (plain e) ≡ terminal_count Θ (plain e') + 2 * size (left_of (tree Θ (applied_type r)))
  fewer_terminals = omega (arith, put-in-weight (by_terminals Θ) r d, terminals_weight Θ e, terminals_weight Θ e')

  pub same_marks : (k : ℕ) → times k (marks e) ≡ times k (marks e')
  same_marks k = omega (arith, put-in-weight (by_mark k) r d, marks_weight k e, marks_weight k e')
