-- What stands at an offset, by the kind of its first byte. Assumes nothing.
use Prim.Native.Nat.{ℕ, ◌+◌, ◌-◌, ◌≤◌, ◌<◌}
use mathlib.Core.Path.{◌≡◌, refl, sym, ap, ◌∙◌}
use mathlib.Core.Bool.{Bool, true, false, cond}
use mathlib.Core.List.{List}
use native.Mathlib.Omega.{arith}
use borrow.Author.Tests.{leb-true, leb-false, le-leb, lt-leb}
use lib.Dec.{leb}
use lib.ListN.{length, drop, get_or-map}
use lib.Seq.{get_or-take, get_or-drop}
use Rattle.calculus.specs.Read.{Kind, unknown, type, node, TypeKind, k01, k02, k03, k04, NodeKind, k11, k12, k13, k14, k15, k16, k17, k18, k19, k1A, k1B, kinds, kind_of, byte, type_body, node_body, type_rec}
use Rattle.std.specs.declared.result.Result.{Result}
use Rattle.std.specs.declared.result.Result.TheVariants.{Ok, Err}
use Rattle.std.specs.declared.option.Option.{Option}
use Rattle.std.specs.declared.option.Option.TheVariants.{Some, None}
use Rattle.answers.specs.declared.Reason.{Reason}
use Rattle.answers.specs.declared.Refusal.{Refusal as Why}
use Rattle.records.specs.Forms.{said_form}
use Rattle.records.specs.Record.{no_record, shape_of, form_of, record_of_lem, record_at, body_at}
use Rattle.records.proofs.Laws.{type_next}
use Rattle.records.specs.declared.TypeRule.{TypeRule}
use Rattle.records.specs.declared.TypeRule.TheVariants as of_type
use Rattle.records.specs.declared.Rule.{Rule}
use Rattle.records.specs.declared.Rule.TheVariants as rule
use Rattle.records.specs.declared.Shape.{Shape}
use Rattle.records.specs.declared.Shape.TheVariants as shape
use Rattle.records.specs.declared.Form.{Form}
use Rattle.records.specs.declared.Node.{Node}
use Rattle.records.specs.declared.Record.{Record}
use Rattle.records.specs.declared.Record.TheVariants as rec
use Rattle.sheet.specs.Said.{node_subs}

-- ---- the shape of a kind

abbrev type_rule : TypeKind → TypeRule
type_rule k01 = of_type.Bit
type_rule k02 = of_type.Product
type_rule k03 = of_type.Arrow
type_rule k04 = of_type.Linear

abbrev pub node_rule : NodeKind → Rule
node_rule k11 = rule.Variable
node_rule k12 = rule.LinearVariable
node_rule k13 = rule.Function
node_rule k14 = rule.Application
node_rule k15 = rule.LinearFunction
node_rule k16 = rule.LinearApplication
node_rule k17 = rule.Pair
node_rule k18 = rule.Projection
node_rule k19 = rule.FixedPoint
node_rule k1A = rule.Constant
node_rule k1B = rule.Naming

abbrev pub kind_shape : Kind → Option Shape
kind_shape unknown = None
kind_shape (type k) = Some (shape.Type (type_body k) (type_rule k))
kind_shape (node k) = Some (shape.Node (node_body k) (node_subs k) (node_rule k))

pub shape-kind : (b : ℕ) → shape_of b ≡ kind_shape (kind_of b)
unfolding shape_of
shape-kind b = get_or-map kind_shape kinds b unknown

-- ---- the record of a kind

-- inside the sheet
pub record_kind : (term : Bool) (s : List ℕ) (at : ℕ) (k : Kind) → at < length s → kind_of (byte s at) ≡ k → record_at term s at ≡ record_of_lem term (kind_shape k) s at
unfolding record_at
record_kind term s at k h e = rw (lt-leb (length s) at h, shape-kind (byte s at), e)

-- past its end
pub record_past : (term : Bool) (s : List ℕ) (at : ℕ) → length s ≤ at → record_at term s at ≡ no_record Reason.CutShort at
unfolding record_at
record_past term s at h = rw (le-leb (length s) at h)

-- the record of a node of kind k at an offset
abbrev pub node_as : List ℕ → ℕ → NodeKind → Node
node_as s at k = record { rule = node_rule k; first = body_at s (at + 1) (node_body k) 0; second = body_at s (at + 1) (node_body k) 1; subterms = node_subs k; next = at + 1 + node_body k }

-- ---- type records

-- no whole type record
abbrev pub NoType : Result Record Why → Type 0
NoType (Ok (rec.Type f next)) = ⊥
NoType (Ok (rec.Node n)) = Unit {0}
NoType (Err why) = Unit {0}

-- a whole type record at an offset, of form f, up to `next`
pub record TypeHere (s : List ℕ) (at : ℕ) (f : Form) (next : ℕ) : Type 0 where
  pub kind : TypeKind
  pub kind_is : kind_of (byte s at) ≡ type kind
  pub whole : at + 1 + type_body kind ≤ length s
  pub past : next ≡ at + 1 + type_body kind
  pub said : said_form f ≡ type_rec kind (byte s (at + 1)) (byte s (at + 2))

pub body-at : (s : List ℕ) (from n j : ℕ) → j < n → body_at s from n j ≡ byte s (from + j)
body-at s from n j h = rw (get_or-take n (drop from s) j 0 h, get_or-drop from s j 0)

-- the form of a record of kind k
abbrev form_here : List ℕ → ℕ → TypeKind → Form
form_here s at k = form_of (type_rule k) (body_at s (at + 1) (type_body k) 0) (body_at s (at + 1) (type_body k) 1)

module _ (s : List ℕ) (at : ℕ) where
  first-number : body_at s (at + 1) 2 0 ≡ byte s (at + 1)
  first-number = let z : at + 1 + 0 ≡ at + 1 = omega arith in body-at s (at + 1) 2 0 (omega arith) ∙ ap (byte s) z

  second-number : body_at s (at + 1) 2 1 ≡ byte s (at + 2)
  second-number = let z : at + 1 + 1 ≡ at + 2 = omega arith in body-at s (at + 1) 2 1 (omega arith) ∙ ap (byte s) z

  -- .. has the two type numbers behind it
  numbers : (k : TypeKind) → said_form (form_here s at k) ≡ type_rec k (byte s (at + 1)) (byte s (at + 2))
  numbers k01 = refl
  numbers k02 = rw (first-number, second-number)
  numbers k03 = rw (first-number, second-number)
  numbers k04 = rw (first-number, second-number)

-- what stands at an offset
abbrev pub WhatStands : Type 0
WhatStands = Result Record Why

not_type : {why : Why} {f : Form} {next : ℕ} → ◌≡◌ {A = WhatStands} (Err why) (Ok (rec.Type f next)) → ⊥
not_type e = let z : ◌≡◌ {A = ℕ} 0 1 = cc in omega arith

node-not_type : {n : Node} {f : Form} {next : ℕ} → ◌≡◌ {A = WhatStands} (Ok (rec.Node n)) (Ok (rec.Type f next)) → ⊥
node-not_type e = let z : ◌≡◌ {A = ℕ} 0 1 = cc in omega arith

module _ (s : List ℕ) (at : ℕ) where
  type-of-test : (k : TypeKind) (t : Bool) (f : Form) (next : ℕ) → kind_of (byte s at) ≡ type k → leb (type_body k) (length s - (at + 1)) ≡ t → at < length s
      → cond t (Ok (rec.Type (form_here s at k) (at + 1 + type_body k))) (no_record Reason.CutShort at) ≡ Ok (rec.Type f next) → TypeHere s at f next
  type-of-test k true f next i w h e =
      let l : type_body k ≤ length s - (at + 1) = leb-true _ _ w in
      let q : form_here s at k ≡ f = cc in
      let p : at + 1 + type_body k ≡ next = cc in
      record { kind = k; kind_is = i; whole = omega arith; past = sym p; said = rw (← q) (numbers s at k) }
  type-of-test k false f next i w h e = absurd (not_type e)

  type-of-kind : (k : Kind) (f : Form) (next : ℕ) → kind_of (byte s at) ≡ k → at < length s → record_of_lem false (kind_shape k) s at ≡ Ok (rec.Type f next) → TypeHere s at f next
  type-of-kind unknown f next i h e = absurd (not_type e)
  type-of-kind (type k) f next i h e = type-of-test k _ f next i refl h e
  type-of-kind (node k) f next i h e = absurd (by (leb (node_body k) (length s - (at + 1))) _ e)
    where
      by : (t : Bool) (n : Node) → cond t (Ok (rec.Node n)) (no_record Reason.CutShort at) ≡ Ok (rec.Type f next) → ⊥
      by true n e = node-not_type e
      by false n e = not_type e

  pub type_here_lem : {f : Form} {next : ℕ} → record_at false s at ≡ Ok (rec.Type f next) → TypeHere s at f next
  type_here_lem {f} {next} e =
      let l = type_next false s at e in
      let h : at < length s = omega arith in
      type-of-kind (kind_of (byte s at)) f next refl h (sym (record_kind false s at _ h refl) ∙ e)

  -- where a type's kind byte stands and no whole record, it is cut short
  pub type_cut : (k : TypeKind) → at < length s → kind_of (byte s at) ≡ type k → {r : WhatStands} → r ≡ record_at false s at → NoType r
      → (r ≡ no_record Reason.CutShort at) × (length s < at + 1 + type_body k)
  type_cut k h i {r} e o = by (leb (type_body k) (length s - (at + 1))) refl (e ∙ record_kind false s at (type k) h i)
    where
      by : (t : Bool) → leb (type_body k) (length s - (at + 1)) ≡ t → r ≡ cond t (Ok (rec.Type (form_here s at k) (at + 1 + type_body k))) (no_record Reason.CutShort at)
          → (r ≡ no_record Reason.CutShort at) × (length s < at + 1 + type_body k)
      by true w e = absurd (rw e at o)
      by false w e = let l : length s - (at + 1) < type_body k = leb-false _ _ w in (e, omega arith)

-- ---- nodes' records

-- a whole node's record at an offset
pub record NodeHere (s : List ℕ) (at : ℕ) (r : Node) : Type 0 where
  pub kind : NodeKind
  pub kind_is : kind_of (byte s at) ≡ node kind
  pub whole : at + 1 + node_body kind ≤ length s
  pub same : r ≡ node_as s at kind

node_inj : {q r : Node} → ◌≡◌ {A = WhatStands} (Ok (rec.Node q)) (Ok (rec.Node r)) → q ≡ r
node_inj e = cc

refused_not_node : {why : Why} {r : Node} → ◌≡◌ {A = WhatStands} (Err why) (Ok (rec.Node r)) → ⊥
refused_not_node e = let z : ◌≡◌ {A = ℕ} 0 1 = cc in omega arith

module _ (s : List ℕ) (at : ℕ) (h : at < length s) where
  node-of-kind : (k : Kind) (r : Node) → kind_of (byte s at) ≡ k → record_of_lem true (kind_shape k) s at ≡ Ok (rec.Node r) → NodeHere s at r
  node-of-kind unknown r i e = absurd (refused_not_node e)
  node-of-kind (type k) r i e = absurd (refused_not_node e)
  node-of-kind (node k) r i e = by (leb (node_body k) (length s - (at + 1))) refl e
    where
      by : (t : Bool) → leb (node_body k) (length s - (at + 1)) ≡ t → cond t (Ok (rec.Node (node_as s at k))) (no_record Reason.CutShort at) ≡ Ok (rec.Node r) → NodeHere s at r
      by true f e = let l : node_body k ≤ length s - (at + 1) = leb-true _ _ f in record { kind = k; kind_is = i; whole = omega arith; same = sym (node_inj e) }
      by false f e = absurd (refused_not_node e)

  pub node-here : (r : Node) → record_at true s at ≡ Ok (rec.Node r) → NodeHere s at r
  node-here r e = node-of-kind (kind_of (byte s at)) r refl (sym (record_kind true s at _ h refl) ∙ e)
