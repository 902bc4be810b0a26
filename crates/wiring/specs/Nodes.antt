-- A node with one subterm or two, as the walk meets it: its subterms with their types and binders, and what it makes of them. Assumes nothing.
use Rattle.std.specs.Prelude.{ℕ, suc, ◌+◌, ◌*◌, ◌<◌, ◌≡◌, ◌⊎◌, true, false, List, ◌∷◌, ◌++◌, length, get_or}
use Rattle.calculus.specs.Types.{Ty, bit, size, Table, tree}
use Rattle.calculus.specs.Terms.{Edition, Term}
use Rattle.calculus.specs.Write.{term_bytes}
use Rattle.sheet_theorems.specs.Laid.{Stands, Ranged, depth}
use Rattle.calculus.specs.Rules.{Ctx, Typed}
use Rattle.calculus.specs.Net.{turns, points, in_side, Bound, Made, left_of, right_of, binder, made_app, made_pair, first_half, second_half, whole_of, made_proj, made_fix, made_var, made_con, unbound, make}
use Rattle.records.specs.Heads.{node_of}
use Rattle.records.specs.Rules.{is_pair, is_projection, is_fixed_point, is_naming}
use Rattle.circuit_theorems.specs.Scope.{Env}
use Rattle.records.specs.TypeNumbers.{bound_in}
use Rattle.wiring.specs.Asks.{of_body}

-- a function of type τ that binds α, around its body
abbrev pub fun_of : Ty → Ty → ℕ → Made → Made
fun_of α τ n e = record {
  elements = points (turns false α) n ++ e.elements;
  wires = e.wires;
  type = τ;
  side = in_side (turns false α) n ++ e.side;
  next = e.next;
}

-- a term e of type τ at an offset of the sheet, over its binders, from terminal n on
module _ (E : Edition) (Θ : Table) (s : List ℕ) (at n : ℕ) (env : List Bound) (e : Term) (τ : Ty) where
  pub record Binding : Type 0 where
    pub body : Term
    pub bound : ℕ
    pub named : bound < length Θ
    pub context : Ctx
    pub type : Ty
    pub typed : Typed E Θ context body type
    pub fits : Env context (binder (tree Θ bound) n ∷ env)
    pub stands : Stands s (node_of e at).next body
    pub ranged : Ranged E Θ body
    pub deep : depth e ≡ suc (depth body)
    pub bytes : at + length (term_bytes e) ≡ (node_of e at).next + length (term_bytes body)
    pub number : bound_in s (node_of e at) ≡ bound
    pub first : (node_of e at).first < length Θ
    pub is-type : tree Θ (node_of e at).first ≡ τ
    -- a fixed point, or a function
    pub makes : ((is_fixed_point (node_of e at).rule ≡ true) × (type ≡ tree Θ bound) × (make Θ e env n ≡ made_fix (tree Θ bound) n (make Θ body (binder (tree Θ bound) n ∷ env) (n + 2 * size (tree Θ bound)))))
        ⊎ ((is_fixed_point (node_of e at).rule ≡ false) × (make Θ e env n ≡ fun_of (tree Θ bound) τ n (make Θ body (binder (tree Θ bound) n ∷ env) (n + 2 * size (tree Θ bound)))))

  module _ (x y : Made) (τ₁ : Ty) (env₂ : List Bound) (τ₂ : Ty) where
    pub record Applied : Type 0 where
      pub not_pair : is_pair (node_of e at).rule ≡ false
      pub not-proj : is_projection (node_of e at).rule ≡ false
      pub not_naming : is_naming (node_of e at).rule ≡ false
      pub not_body : of_body (node_of e at).rule ≡ false
      pub same : env₂ ≡ env
      pub arrow : τ₁ ≡ bit → ⊥
      pub left : left_of τ₁ ≡ τ₂
      pub right : right_of τ₁ ≡ τ
      pub turned : turns false τ₁ ≡ turns true τ₂ ++ turns false τ
      pub makes : make Θ e env n ≡ made_app x y

    pub record Paired : Type 0 where
      pub pair : is_pair (node_of e at).rule ≡ true
      pub not-proj : is_projection (node_of e at).rule ≡ false
      pub not_naming : is_naming (node_of e at).rule ≡ false
      pub not_body : of_body (node_of e at).rule ≡ false
      pub same : env₂ ≡ env
      pub first : (node_of e at).first < length Θ
      pub is-type : tree Θ (node_of e at).first ≡ τ
      pub makes : make Θ e env n ≡ made_pair τ x y

    -- the halves of the first are bound
    pub record Halved : Type 0 where
      pub proj : is_projection (node_of e at).rule ≡ true
      pub halves : env₂ ≡ second_half x ∷ first_half x ∷ env
      pub product : τ₁ ≡ bit → ⊥
      pub sum : size τ₁ ≡ size (left_of τ₁) + size (right_of τ₁)

    -- the whole first is bound
    pub record Unhalved : Type 0 where
      pub not-proj : is_projection (node_of e at).rule ≡ false
      pub naming : is_naming (node_of e at).rule ≡ true
      pub whole : env₂ ≡ whole_of x ∷ env

    pub record Projected : Type 0 where
      pub body : of_body (node_of e at).rule ≡ true
      pub same : τ₂ ≡ τ
      pub makes : make Θ e env n ≡ made_proj x y
      pub bound : Halved ⊎ Unhalved

  pub record Twofold : Type 0 where
    pub first : Term
    pub second : Term
    pub stands_first : Stands s (node_of e at).next first
    pub stands_second : Stands s ((node_of e at).next + length (term_bytes first)) second
    pub ranged-first : Ranged E Θ first
    pub ranged-second : Ranged E Θ second
    pub deep-first : depth first < depth e
    pub deep-second : depth second < depth e
    pub bytes : at + length (term_bytes e) ≡ (node_of e at).next + length (term_bytes first) + length (term_bytes second)
    pub context : Ctx
    pub type : Ty
    pub typed : Typed E Θ context first type
    pub fits : Env context env
    pub context₂ : Ctx
    pub type₂ : Ty
    pub env₂ : List Bound
    pub typed₂ : Typed E Θ context₂ second type₂
    pub fits₂ : Env context₂ env₂
    pub sort : Applied (make Θ first env n) (make Θ second env₂ (make Θ first env n).next) type env₂ type₂
        ⊎ (Paired (make Θ first env n) (make Θ second env₂ (make Θ first env n).next) type env₂ type₂
        ⊎ Projected (make Θ first env n) (make Θ second env₂ (make Θ first env n).next) type env₂ type₂)

  pub record Variable : Type 0 where
    pub bound : (node_of e at).first < length env
    pub makes : make Θ e env n ≡ made_var (get_or env (node_of e at).first unbound) n
    pub bytes : at + length (term_bytes e) ≡ (node_of e at).next
    pub shallow : depth e ≡ 1

  pub record Constant : Type 0 where
    pub known : (node_of e at).first < 7
    pub named : (node_of e at).second < length Θ
    pub is-type : tree Θ (node_of e at).second ≡ τ
    pub makes : make Θ e env n ≡ made_con (tree Θ (node_of e at).second) (node_of e at).first n
    pub bytes : at + length (term_bytes e) ≡ (node_of e at).next
    pub shallow : depth e ≡ 1
