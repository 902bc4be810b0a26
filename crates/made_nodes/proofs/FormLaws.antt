-- The nodes of each form: the answer is that of the definition. Assumes nothing.
use Prim.Native.Nat.{ℕ, ◌<◌}
use mathlib.Core.Path.{◌≡◌, refl, sym, ap, subst, ◌∙◌}
use mathlib.Core.Bool.{Bool, true, false, ◌&&◌, cond}
use mathlib.Core.List.{List, []}
use native.Mathlib.Omega.{arith}
use lib.Dec.{leb}
use lib.ListN.{length, get_or}
use borrow.Author.Tests.{eq-eqb, eqb-true}
use Rattle.std.proofs.Common.{Result, Ok, Err}
use Rattle.answers.specs.declared.Refusal.{Refusal}
use Rattle.calculus.specs.Answer.{Answer, ◌>>=◌}
use Rattle.calculus.specs.Types.{TyRec, rec01, rec02, rec03, rec04, rec_at}
use Rattle.calculus.specs.Terms.{Edition, is_second, Term, var, lvar, app, lfun, lapp, proj, con, part_at}
use Rattle.calculus.specs.Terms as Terms
use Rattle.sheet_theorems.specs.Laid.{Below}
use Rattle.notation_calculus.specs.Trees.{Bound}
use Rattle.notation_calculus.specs.Making.{State, Found, shares, listed, arrow_of, Made, node, over, variable, part_type, function_of, half_of, applied}
use Rattle.making_memory.specs.Map.{second_at_lem}
use Rattle.made_types.specs.Held.{kind_in, right_in, kind_number, right_number, HoldsState}
use Rattle.made_types.specs.Listing.{FoundIn}
use Rattle.made_types.proofs.Sorts.{shares_in}
use Rattle.made_nodes.specs.Nodes.{NoSubterm, of_var, of_lvar, of_con, OneSubterm, of_fun, of_lfun, of_fix_lem, TwoSubterms, of_app, of_lapp, of_pair, of_proj, of_name}
use Rattle.made_nodes.specs.Held.{TermHeld, MadeIn}
use Rattle.made_nodes.specs.Adding.{no_sub, NodeSays, UnderSays, OverSays}
use Rattle.made_nodes.specs.Forms.{ArrowSays, ProductSays, PartTypeSays, VariableSays, PartSays, FunctionSays, FixSays, NameAppliedSays, NamingSays, ProjectionSays, PairSays, AppliedSays}
use Rattle.made_nodes.specs.declared.Sub.{Sub}
use Rattle.made_nodes.proofs.Terms.{held_on, made_on, made-types}
use Rattle.made_nodes.proofs.Answers.{on-type, on-no-type, on-term, on-no-term}

-- a type that is held is known to the state
pub known_in : (w : List ℕ) (s : Sub) (m : Made) (σ : State) → TermHeld w s m → HoldsState w σ → s.ty < length σ.table
known_in w s m σ h H = let k = h.known in let c = H.types.count in omega arith

-- ---- leaves

variable-node : (b : Bool) (i l : ℕ) → NoSubterm (cond b 0x11 0x12) i l (cond b (var i) (lvar i))
variable-node true i l = of_var
variable-node false i l = of_lvar

pub variable_says :
    (w : List ℕ) (kind number ty place : ℕ) (r : Result Sub Refusal) (w' : List ℕ) → ty < 256 → kind ≡ cond (leb (kind_in w ty) 2) 0x11 0x12
    → NodeSays w (record { kind = kind; body = number; left = 0; right = 0; place = place }) ty 0 r w' → VariableSays w number ty place r w'
variable_says w kind number ty place r w' small e N = record {
  only = N.only;
  small = N.small small;
  says = λ σ H h.
      let f : kind ≡ cond (shares σ.table ty) 0x11 0x12 = e ∙ ap (λ (b : Bool). cond b 0x11 0x12) (shares_in w σ.table ty H.types h) in
      N.says σ (variable σ.table number ty) [] H h (no_sub (subst (λ (k : ℕ). NoSubterm k number 0 (variable σ.table number ty)) (sym f) (variable-node (shares σ.table ty) number 0)));
}

pub part_refused : (w : List ℕ) (inputs number place : ℕ) (why : Refusal) (x : Result ℕ Refusal) (w' : List ℕ) → inputs ≡ (part_at number).inputs → x ≡ Err why → PartTypeSays w inputs place x w' → PartSays w number place (Err why) w'
part_refused w inputs number place why x w' i e T = record {
  only = made-types w w' T.only;
  small = tt;
  says = λ E σ d H.
      on-no-type w' why (λ (a : Answer Found). MadeIn w' (Err why) (a >>= λ t. node place (con number t.type) t.type 0 [] t.state)) (part_type E (part_at number).inputs σ place) (subst (λ (j : ℕ). FoundIn w' (Err why) (part_type E j σ place)) i (rw e at (T.says E σ d H))) refl;
}

pub part-made :
    (w : List ℕ) (inputs number place k : ℕ) (x : Result ℕ Refusal) (v : List ℕ) (r : Result Sub Refusal) (w' : List ℕ) → inputs ≡ (part_at number).inputs → x ≡ Ok k → PartTypeSays w inputs place x v
    → NodeSays v (record { kind = 0x1A; body = number; left = k; right = 0; place = place }) k 0 r w' → PartSays w number place r w'
part-made w inputs number place k x v r w' i e T N = record {
  only = made_on w v w' (made-types w v T.only) N.only;
  small = N.small (rw e at T.small);
  says = λ E σ d H.
      on-type v k (λ (a : Answer Found). MadeIn w' r (a >>= λ t. node place (con number t.type) t.type 0 [] t.state)) (part_type E (part_at number).inputs σ place) (subst (λ (j : ℕ). FoundIn v (Ok k) (part_type E j σ place)) i (rw e at (T.says E σ d H)))
      (λ y f l K. rw (← f) (N.says y.state (con number k) [] K l (no_sub of_con)));
}

-- ---- binders

function_node : (b : Bool) (t : ℕ) (e : Term) → OneSubterm (cond b 0x13 0x15) t e (cond b (Terms.fun t e) (lfun t e))
function_node true t e = of_fun
function_node false t e = of_lfun

-- the arrow that a function's type is, as the definition names it
arrow_found : (w : List ℕ) (place t : ℕ) (e : Sub) (x : Result ℕ Refusal) (w' : List ℕ) (b : Bound) (m : Made) → ArrowSays w t e.ty place x w' → b.place ≡ place → HoldsState w m.state → TermHeld w e m → t < length m.state.table → FoundIn w' x (listed m.state (arrow_of m.state.table t m.type) b.place)
arrow_found w place t e x w' b m A p H h l = rw (p, ← h.type) (A.says m.state H l (known_in w e m m.state h H))

pub function_refused : (w : List ℕ) (place t : ℕ) (e : Sub) (why : Refusal) (x : Result ℕ Refusal) (w' : List ℕ) → x ≡ Err why → ArrowSays w t e.ty place x w' → FunctionSays w place t e (Err why) w'
function_refused w place t e why x w' i A = record {
  only = made-types w w' A.only;
  small = tt;
  says = λ b m q H h l.
      on-no-type w' why (λ (a : Answer Found). MadeIn w' (Err why) (a >>= λ y. node b.place (cond (shares m.state.table t) (Terms.fun y.type m.term) (lfun y.type m.term)) y.type m.deep m.places y.state))
      (listed m.state (arrow_of m.state.table t m.type) b.place) (rw i at (arrow_found w place t e x w' b m A q H h l)) refl;
}

pub function_made :
    (w : List ℕ) (place t kind : ℕ) (e : Sub) (k : ℕ) (x : Result ℕ Refusal) (v : List ℕ) (r : Result Sub Refusal) (w' : List ℕ) → kind ≡ cond (leb (kind_in w t) 2) 0x13 0x15
    → x ≡ Ok k → ArrowSays w t e.ty place x v → UnderSays v kind k place k e r w' → FunctionSays w place t e r w'
function_made w place t kind e k x v r w' c i A U = record {
  only = made_on w v w' (made-types w v A.only) U.only;
  small = U.small (rw i at A.small);
  says = λ b m q H h l.
      let f : kind ≡ cond (shares m.state.table t) 0x13 0x15 = c ∙ ap (λ (s : Bool). cond s 0x13 0x15) (shares_in w m.state.table t H.types l) in
      on-type v k (λ (a : Answer Found). MadeIn w' r (a >>= λ y. node b.place (cond (shares m.state.table t) (Terms.fun y.type m.term) (lfun y.type m.term)) y.type m.deep m.places y.state))
      (listed m.state (arrow_of m.state.table t m.type) b.place) (rw i at (arrow_found w place t e x v b m A q H h l))
      (λ y g j K. rw (q, ← g) (U.says y.state m (cond (shares m.state.table t) (Terms.fun k m.term) (lfun k m.term)) K (held_on w v e m h (made-types w v A.only)) j (subst (λ (d : ℕ). OneSubterm d k m.term (cond (shares m.state.table t) (Terms.fun k m.term) (lfun k m.term))) (sym f) (function_node (shares m.state.table t) k m.term))));
}

pub fix_says : (w : List ℕ) (place t : ℕ) (e : Sub) (r : Result Sub Refusal) (w' : List ℕ) → t < 256 → UnderSays w 0x19 t place t e r w' → FixSays w place t e r w'
fix_says w place t e r w' small U = record { only = U.only; small = U.small small; says = λ m H h l. U.says m.state m (Terms.fix t m.term) H h l of_fix_lem }

pub projection_says : (w : List ℕ) (place : ℕ) (v e : Sub) (r : Result Sub Refusal) (w' : List ℕ) → e.ty < 256 → OverSays w 0x18 0 place e.ty v e r w' → ProjectionSays w place v e r w'
projection_says w place v e r w' small O = record { only = O.only; small = O.small small; says = λ n m H g h. rw (← h.type) (O.says m.state n m proj H g h (known_in w e m m.state h H) of_proj) }

application-node : (b : Bool) (z : ℕ) (f a : Term) → TwoSubterms (cond b 0x14 0x16) z f a (cond b app lapp f a)
application-node true z f a = of_app
application-node false z f a = of_lapp

-- the function over a body, with the value's type as the definition names it
function_found : (w : List ℕ) (place : ℕ) (v e : Sub) (r : Result Sub Refusal) (w' : List ℕ) (b : Bound) (x m : Made) → FunctionSays w place v.ty e r w' → b.place ≡ place → HoldsState w m.state → TermHeld w v x → TermHeld w e m → MadeIn w' r (function_of b x.type m)
function_found w place v e r w' b x m F q H g h = rw (← g.type) (F.says b m q H h (known_in w v x m.state g H))

pub name_refused : (w : List ℕ) (place : ℕ) (v e : Sub) (why : Refusal) (r : Result Sub Refusal) (w' : List ℕ) → r ≡ Err why → FunctionSays w place v.ty e r w' → NameAppliedSays w place v e (Err why) w'
name_refused w place v e why r w' i F = record {
  only = F.only;
  small = tt;
  says = λ b x m q H g h.
      on-no-term w' why (λ (a : Answer Made). MadeIn w' (Err why) (a >>= λ f. over b.place (cond (shares m.state.table x.type) app lapp) m.type f x f.state)) (function_of b x.type m)
      (rw i at (function_found w place v e r w' b x m F q H g h)) refl;
}

pub name-made :
    (w : List ℕ) (place kind : ℕ) (v e s : Sub) (f : Result Sub Refusal) (u : List ℕ) (r : Result Sub Refusal) (w' : List ℕ) → e.ty < 256 → kind ≡ cond (leb (kind_in w v.ty) 2) 0x14 0x16
    → f ≡ Ok s → FunctionSays w place v.ty e f u → OverSays u kind 0 place e.ty s v r w' → NameAppliedSays w place v e r w'
name-made w place kind v e s f u r w' small c i F O = record {
  only = made_on w u w' F.only O.only;
  small = O.small small;
  says = λ b x m q H g h.
      let d : kind ≡ cond (shares m.state.table x.type) 0x14 0x16 = c ∙ ap (λ (y : Bool). cond y 0x14 0x16) (shares_in w m.state.table v.ty H.types (known_in w v x m.state g H)) ∙ ap (λ (t : ℕ). cond (shares m.state.table t) 0x14 0x16) g.type in
      on-term u s (λ (a : Answer Made). MadeIn w' r (a >>= λ y. over b.place (cond (shares m.state.table x.type) app lapp) m.type y x y.state)) (function_of b x.type m)
      (rw i at (function_found w place v e f u b x m F q H g h))
      (λ y K j.
      let h' = held_on w u e m h F.only in
      rw (q, ← h.type) (O.says y.state y x (cond (shares m.state.table x.type) app lapp) K j (held_on w u v x g F.only) (known_in u e m y.state h' K) (subst (λ (k : ℕ). TwoSubterms k 0 y.term x.term (cond (shares m.state.table x.type) app lapp y.term x.term)) (sym d) (application-node (shares m.state.table x.type) 0 y.term x.term))));
}

-- a name by the edition
pub naming_short :
    (w : List ℕ) (place : ℕ) (v e : Sub) (r : Result Sub Refusal) (w' : List ℕ) → e.ty < 256 → get_or w second_at_lem 0 ≡ 1 → leb (kind_in w v.ty) 2 ≡ true → OverSays w 0x1B 0 place e.ty v e r w'
    → NamingSays w place v e r w'
naming_short w place v e r w' small s c O = record {
  only = O.only;
  small = O.small small;
  says = λ E x n m d q H g h.
      let a : is_second E ≡ true = sym d ∙ eq-eqb (get_or w second_at_lem 0) 1 s in
      let b : shares m.state.table n.type ≡ true = sym (shares_in w m.state.table n.type H.types (rw (← g.type) (known_in w v n m.state g H))) ∙ ap (λ (t : ℕ). leb (kind_in w t) 2) (sym g.type) ∙ c in
      rw (a, b, q, ← h.type) (O.says m.state n m Terms.name H g h (known_in w e m m.state h H) of_name);
}

both_not : (a b : Bool) → (a ≡ true → b ≡ true → ⊥) → (a && b) ≡ false
both_not true true f = absurd (f refl refl)
both_not true false f = refl
both_not false b f = refl

pub naming_long :
    (w : List ℕ) (place : ℕ) (v e : Sub) (r : Result Sub Refusal) (w' : List ℕ) → (get_or w second_at_lem 0 ≡ 1 → leb (kind_in w v.ty) 2 ≡ true → ⊥) → NameAppliedSays w place v e r w'
    → NamingSays w place v e r w'
naming_long w place v e r w' not N = record {
  only = N.only;
  small = N.small;
  says = λ E x n m d q H g h.
      let c : (is_second E && shares m.state.table n.type) ≡ false = both_not (is_second E) (shares m.state.table n.type)
      (λ a b. not (eqb-true (get_or w second_at_lem 0) 1 (d ∙ a)) (ap (λ (t : ℕ). leb (kind_in w t) 2) g.type ∙ shares_in w m.state.table n.type H.types (rw (← g.type) (known_in w v n m.state g H)) ∙ b)) in
      rw c (N.says x n m q H g h);
}

-- ---- pairs and applications

-- the product of the halves, as the definition names it
product_found : (w : List ℕ) (place : ℕ) (a b : Sub) (x : Result ℕ Refusal) (w' : List ℕ) (f m : Made) → ProductSays w a.ty b.ty place x w' → HoldsState w m.state → TermHeld w a f → TermHeld w b m → FoundIn w' x (listed m.state (rec02 (half_of m.state.table f.type) (half_of m.state.table m.type)) place)
product_found w place a b x w' f m P H g h = rw (← g.type, ← h.type) (P.says m.state H (known_in w a f m.state g H) (known_in w b m m.state h H))

pub pair_refused : (w : List ℕ) (place : ℕ) (a b : Sub) (why : Refusal) (x : Result ℕ Refusal) (w' : List ℕ) → x ≡ Err why → ProductSays w a.ty b.ty place x w' → PairSays w place a b (Err why) w'
pair_refused w place a b why x w' i P = record {
  only = made-types w w' P.only;
  small = tt;
  says = λ f m H g h.
      on-no-type w' why (λ (y : Answer Found). MadeIn w' (Err why) (y >>= λ t. over place (Terms.pair t.type) t.type f m t.state))
      (listed m.state (rec02 (half_of m.state.table f.type) (half_of m.state.table m.type)) place) (rw i at (product_found w place a b x w' f m P H g h)) refl;
}

pub pair_made :
    (w : List ℕ) (place : ℕ) (a b : Sub) (k : ℕ) (x : Result ℕ Refusal) (v : List ℕ) (r : Result Sub Refusal) (w' : List ℕ) → x ≡ Ok k → ProductSays w a.ty b.ty place x v
    → OverSays v 0x17 k place k a b r w' → PairSays w place a b r w'
pair_made w place a b k x v r w' i P O = record {
  only = made_on w v w' (made-types w v P.only) O.only;
  small = O.small (rw i at P.small);
  says = λ f m H g h.
      let o = made-types w v P.only in
      on-type v k (λ (y : Answer Found). MadeIn w' r (y >>= λ t. over place (Terms.pair t.type) t.type f m t.state))
      (listed m.state (rec02 (half_of m.state.table f.type) (half_of m.state.table m.type)) place) (rw i at (product_found w place a b x v f m P H g h))
      (λ y e l K. rw (← e) (O.says y.state f m (Terms.pair k) K (held_on w v a f g o) (held_on w v b m h o) l of_pair));
}

-- by the function's type
right_below : (n : ℕ) (r : TyRec) → 2 < kind_number r → Below n r → right_number r < n
right_below n rec01 h b = absurd (omega arith)
right_below n (rec02 x y) h b = absurd (omega arith)
right_below n (rec03 x y) h b = b.1
right_below n (rec04 x y) h b = b.1

module _ (w' : List ℕ) (rr : Result Sub Refusal) (place : ℕ) (f a : Made) where
  by-arrow : (r : TyRec) → kind_number r ≡ 3 → MadeIn w' rr (over place app (right_number r) f a a.state) → MadeIn w' rr (applied place r f a)
  by-arrow rec01 e h = absurd (omega arith)
  by-arrow (rec02 x y) e h = absurd (omega arith)
  by-arrow (rec03 x y) e h = h
  by-arrow (rec04 x y) e h = absurd (omega arith)

  by-linear : (r : TyRec) → kind_number r ≡ 4 → MadeIn w' rr (over place lapp (right_number r) f a a.state) → MadeIn w' rr (applied place r f a)
  by-linear rec01 e h = absurd (omega arith)
  by-linear (rec02 x y) e h = absurd (omega arith)
  by-linear (rec03 x y) e h = absurd (omega arith)
  by-linear (rec04 x y) e h = h

  by-argument : (r : TyRec) → (kind_number r ≡ 3 → ⊥) → (kind_number r ≡ 4 → ⊥) → MadeIn w' rr (over place (cond (shares a.state.table a.type) app lapp) 0 f a a.state) → MadeIn w' rr (applied place r f a)
  by-argument rec01 d e h = h
  by-argument (rec02 x y) d e h = h
  by-argument (rec03 x y) d e h = absurd (d refl)
  by-argument (rec04 x y) d e h = absurd (e refl)

module _ (w : List ℕ) (place : ℕ) (f a : Sub) (r : Result Sub Refusal) (w' : List ℕ) where
  -- the kind of the function's type, and its right side
  kind-held : (n : Made) (σ : State) → TermHeld w f n → HoldsState w σ → kind_in w f.ty ≡ kind_number (rec_at σ.table n.type)
  kind-held n σ g H = H.types.kinds f.ty (known_in w f n σ g H) ∙ ap (λ (t : ℕ). kind_number (rec_at σ.table t)) g.type

  right-held : (n : Made) (σ : State) → TermHeld w f n → HoldsState w σ → right_in w f.ty ≡ right_number (rec_at σ.table n.type)
  right-held n σ g H = H.types.rights f.ty (known_in w f n σ g H) ∙ ap (λ (t : ℕ). right_number (rec_at σ.table t)) g.type

  right-known : (n : Made) (σ : State) → TermHeld w f n → HoldsState w σ → 2 < kind_in w f.ty → right_in w f.ty < length σ.table
  right-known n σ g H l =
      let k = known_in w f n σ g H in
      let t : n.type < length σ.table = rw (← g.type) k in
      let b = right_below n.type (rec_at σ.table n.type) (omega (arith, kind-held n σ g H)) (H.types.ok.earlier n.type t) in
      omega (arith, right-held n σ g H)

  pub applied_arrow : (to : ℕ) → kind_in w f.ty ≡ 3 → to ≡ right_in w f.ty → OverSays w 0x14 0 place to f a r w' → AppliedSays w place f a r w'
  applied_arrow to k e O = record {
    only = O.only;
    says = λ n m H g h.
        by-arrow w' r place n m (rec_at m.state.table n.type) (sym (kind-held n m.state g H) ∙ k)
        (rw (← right-held n m.state g H, ← e) (O.says m.state n m app H g h (rw e (right-known n m.state g H (omega arith))) of_app));
  }

  pub applied_linear : (to : ℕ) → kind_in w f.ty ≡ 4 → to ≡ right_in w f.ty → OverSays w 0x16 0 place to f a r w' → AppliedSays w place f a r w'
  applied_linear to k e O = record {
    only = O.only;
    says = λ n m H g h.
        by-linear w' r place n m (rec_at m.state.table n.type) (sym (kind-held n m.state g H) ∙ k)
        (rw (← right-held n m.state g H, ← e) (O.says m.state n m lapp H g h (rw e (right-known n m.state g H (omega arith))) of_lapp));
  }

  pub applied-other :
      (kind : ℕ) → (kind_in w f.ty ≡ 3 → ⊥) → (kind_in w f.ty ≡ 4 → ⊥) → kind ≡ cond (leb (kind_in w a.ty) 2) 0x14 0x16 → OverSays w kind 0 place 0 f a r w'
      → AppliedSays w place f a r w'
  applied-other kind x y c O = record {
    only = O.only;
    says = λ n m H g h.
        let d : kind ≡ cond (shares m.state.table m.type) 0x14 0x16 = c ∙ ap (λ (b : Bool). cond b 0x14 0x16) (shares_in w m.state.table a.ty H.types (known_in w a m m.state h H)) ∙ ap (λ (t : ℕ). cond (shares m.state.table t) 0x14 0x16) h.type in
        by-argument w' r place n m (rec_at m.state.table n.type) (λ e. x (kind-held n m.state g H ∙ e)) (λ e. y (kind-held n m.state g H ∙ e))
        (O.says m.state n m (cond (shares m.state.table m.type) app lapp) H g h H.types.some (subst (λ (k : ℕ). TwoSubterms k 0 n.term m.term (cond (shares m.state.table m.type) app lapp n.term m.term)) (sym d) (application-node (shares m.state.table m.type) 0 n.term m.term)));
  }

-- a test that failed did not pass
pub failed : (r b : Bool) → r ≡ b → r ≡ false → b ≡ true → ⊥
failed r true e f p = subst (λ (x : Bool). cond x (Unit {0}) ⊥) (sym e ∙ f) tt
failed r false e f p = subst (λ (x : Bool). cond x ⊥ (Unit {0})) p tt
