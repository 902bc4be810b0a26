-- Laws of `record_at` for callers: where a record ends, and the record of a term that stands at an offset. Assumes nothing.
use mathlib.Core.Path.{◌≡◌, refl, ap, sym, ◌∙◌}
use mathlib.Core.List.{List, ◌∷◌}
use mathlib.Core.Bool.{Bool, true, false, cond}
use Prim.Native.Nat.{ℕ, suc, ◌+◌, ◌-◌, ◌≤◌, ◌<◌}
use native.Mathlib.Omega.{arith}
use borrow.Author.Tests.{leb-true, leb-false, lt-leb, le-leb}
use lib.ListN.{length, get_or, take, drop, length-drop}
use lib.Seq.{get_or-drop, drop-drop}
use lib.Dec.{leb}
use Rattle.calculus.specs.Terms.{Term, var, lvar, fun, app, lfun, lapp, pair, proj, fix, con, name}
use Rattle.sheet_theorems.specs.Laid.{Stands}
use Rattle.std.specs.declared.option.Option.{Option}
use Rattle.std.specs.declared.option.Option.TheVariants.{Some, None}
use Rattle.std.specs.declared.result.Result.{Result}
use Rattle.std.specs.declared.result.Result.TheVariants.{Ok, Err}
use Rattle.answers.specs.declared.Reason.{Reason}
use Rattle.answers.specs.declared.Refusal.{Refusal}
use Rattle.records.specs.Record.{no_record, shape_of, form_of, record_at, record_of_lem, body_at, node_in_lem, node_at}
use Rattle.records.specs.Heads.{node, node_of}
use Rattle.records.specs.declared.Rule.{Rule}
use Rattle.records.specs.declared.Form.{Form}
use Rattle.records.specs.declared.Node.{Node}
use Rattle.records.specs.declared.Shape.{Shape}
use Rattle.records.specs.declared.Shape.TheVariants as shape
use Rattle.records.specs.declared.Record.{Record}
use Rattle.records.specs.declared.Record.TheVariants as rec

-- where a record ends: past its start and within the sheet
abbrev pub Ends : List ℕ → ℕ → Result Record Refusal → Type 0
Ends s at (Ok (rec.Type f next)) = (at < next) × (next ≤ length s)
Ends s at (Ok (rec.Node r)) = (at < r.next) × (r.next ≤ length s)
Ends s at (Err why) = Unit

module _ (s : List ℕ) (at : ℕ) where
  of-fits : (n : ℕ) (t : Bool) (r : Result Record Refusal) → (n ≤ length s - (at + 1) → Ends s at r) → leb n (length s - (at + 1)) ≡ t
      → Ends s at (cond t r (no_record Reason.CutShort at))
  of-fits n true r f h = f (leb-true _ _ h)
  of-fits n false r f h = tt

  of-known : (term : Bool) (r : Result Record Refusal) → Ends s at r → Ends s at (cond term (no_record Reason.UnknownKind at) r)
  of-known true r h = tt
  of-known false r h = h

  of-shape : (term : Bool) (sh : Option Shape) → at < length s → Ends s at (record_of_lem term sh s at)
  of-shape term (Some (shape.Type n u)) lt =
      of-known term _ (of-fits n _ (Ok (rec.Type (form_of u (body_at s (at + 1) n 0) (body_at s (at + 1) n 1)) (at + 1 + n))) (λ h. omega arith) refl)
  of-shape term (Some (shape.Node n m u)) lt = of-fits n _ (Ok (rec.Node (node u (body_at s (at + 1) n 0) (body_at s (at + 1) n 1) m (at + 1 + n)))) (λ h. omega arith) refl
  of-shape term None lt = tt

  of_test : (term t : Bool) → leb (length s) at ≡ t → Ends s at (cond t (no_record Reason.CutShort at) (record_of_lem term (shape_of (get_or s at 0)) s at))
  of_test term true h = tt
  of_test term false h = of-shape term (shape_of (get_or s at 0)) (leb-false _ _ h)

-- a record ends past its start and within the sheet
pub ends : (term : Bool) (s : List ℕ) (at : ℕ) → Ends s at (record_at term s at)
unfolding record_at
ends term s at = of_test s at term (leb (length s) at) refl

pub node-next : (term : Bool) (s : List ℕ) (at : ℕ) {r : Node} → record_at term s at ≡ Ok (rec.Node r) → (at < r.next) × (r.next ≤ length s)
node-next term s at e = rw e at (ends term s at)

pub type_next : (term : Bool) (s : List ℕ) (at : ℕ) {f : Form} {next : ℕ} → record_at term s at ≡ Ok (rec.Type f next) → (at < next) × (next ≤ length s)
type_next term s at e = rw e at (ends term s at)

-- ---- the record of a term's first node

module _ (s : List ℕ) (at k : ℕ) (xs : List ℕ) (here : drop at s ≡ k ∷ xs) where
  first_byte : get_or s at 0 ≡ k
  first_byte = let e : at + 0 ≡ at = omega arith in sym (rw e at (get_or-drop at s 0 0)) ∙ ap (λ (l : List ℕ). get_or l 0 0) here

  behind : drop (at + 1) s ≡ xs
  behind = sym (drop-drop 1 at s) ∙ ap (drop 1) here

  within : suc (length xs) ≡ length s - at
  within = sym (ap length here) ∙ length-drop at s

  pub record_node : (term : Bool) (n m : ℕ) (u : Rule) → shape_of k ≡ Some (shape.Node n m u) → n ≤ length xs
      → record_at term s at ≡ Ok (rec.Node (node u (get_or (take n xs) 0 0) (get_or (take n xs) 1 0) m (at + 1 + n)))
  unfolding record_at
  record_node term n m u sh h = rw (lt-leb (length s) at (omega (arith, within)), first_byte, sh, le-leb n (length s - (at + 1)) (omega (arith, within)), behind)

-- the record at the offset of a term is its first node's
pub stands_record : (term : Bool) (s : List ℕ) (at : ℕ) (e : Term) → Stands s at e → record_at term s at ≡ Ok (rec.Node (node_of e at))
unfolding shape_of
stands_record term s at (var i) h = record_node s at 0x11 _ h.here term 1 0 _ refl (omega arith)
stands_record term s at (lvar i) h = record_node s at 0x12 _ h.here term 1 0 _ refl (omega arith)
stands_record term s at (fun t e) h = record_node s at 0x13 _ h.here term 1 1 _ refl (omega arith)
stands_record term s at (app f a) h = record_node s at 0x14 _ h.here term 0 2 _ refl (omega arith)
stands_record term s at (lfun t e) h = record_node s at 0x15 _ h.here term 1 1 _ refl (omega arith)
stands_record term s at (lapp f a) h = record_node s at 0x16 _ h.here term 0 2 _ refl (omega arith)
stands_record term s at (pair t a b) h = record_node s at 0x17 _ h.here term 1 2 _ refl (omega arith)
stands_record term s at (proj a e) h = record_node s at 0x18 _ h.here term 0 2 _ refl (omega arith)
stands_record term s at (fix t e) h = record_node s at 0x19 _ h.here term 1 1 _ refl (omega arith)
stands_record term s at (con p t) h = record_node s at 0x1A _ h.here term 2 0 _ refl (omega arith)
stands_record term s at (name a e) h = record_node s at 0x1B _ h.here term 0 2 _ refl (omega arith)

pub stands-node : (s : List ℕ) (at : ℕ) (e : Term) → Stands s at e → node_at s at ≡ node_of e at
unfolding node_at
stands-node s at e h = ap node_in_lem (stands_record true s at e h)

-- ---- a part of a list, from an offset to so many places behind it

pub part_byte : (s : List ℕ) (from n j : ℕ) → get_or (take (from + n - from) (drop from s)) j 0 ≡ get_or (take n (drop from s)) j 0
part_byte s from n j =
    let z : from + n - from ≡ n = omega arith in
    rw z refl
