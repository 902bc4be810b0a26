-- Where a node's stretch begins and ends, by the reader. Assumes nothing.
use Prim.Native.Nat.{ℕ, ◌+◌, ◌-◌, ◌≤◌, ◌<◌}
use mathlib.Core.Path.{◌≡◌, refl, sym, ap, ap₂, ◌∙◌}
use mathlib.Core.Bool.{Bool, true}
use mathlib.Core.List.{List}
use native.Mathlib.Omega.{arith}
use native.Mathlib.Numerals.{add-one}
use native.Mathlib.Decide.{dec_lt}
use lib.ListN.{length, get_or}
use Rattle.calculus.specs.Answer.{Refusal, Answer, good, refused}
use Rattle.calculus.proofs.Answers.{refused≢good, good-inj}
use Rattle.calculus.specs.Terms.{Edition, is_second, opening, nodes}
use Rattle.calculus.specs.Read.{Kind, read_term, Sheet, edition_of, read_sheet}
use Rattle.calculus.specs.Stretch.{term_start, nowhere, stretch_of}
use Rattle.sheet_theorems.specs.Subterms.{subterms, body_of, after_record, skip}
use Rattle.sheet_theorems.proofs.StretchHolds.{skip-next, stretch-holds, stretch-past, stretch_refused}
use Rattle.sheet_theorems.proofs.SubtermRead.{stretch-read}
use Rattle.std.specs.declared.result.Result.TheVariants.{Ok}
use Rattle.records.specs.Record.{record_at, node_at}
use Rattle.records.specs.declared.Node.{Node}
use Rattle.records.specs.declared.Record.TheVariants as rec
use Rattle.records.proofs.Laws.{node-next, stands_record, stands-node}
use Rattle.sheet.specs.Nodes.{NodesFrom}
use Rattle.sheet.specs.Said.{End, end, spanned}
use Rattle.sheet_theorems.proofs.Laying.{laid, opened}
use Rattle.sheet_theorems.proofs.Standing.{sheet-ends}
use Rattle.records.specs.Editions.{edition_by}
use Rattle.records.specs.Told.{Told}
use Rattle.sheet.proofs.ReadLaws.{edition_by_lem}
use Rattle.sheet.proofs.KindLaws.{NodeHere, node-here}

-- ---- one record further

after-here : (s : List ℕ) (at : ℕ) (r : Node) → NodeHere s at r → r.next ≡ after_record s at
after-here s at r w = ap (λ (x : Node). x.next) w.same ∙ ap (λ (k : Kind). at + 1 + body_of k) (sym w.kind_is)

-- the record of a node ends where the next begins
after-node : (s : List ℕ) (at : ℕ) (r : Node) → record_at true s at ≡ Ok (rec.Node r) → r.next ≡ after_record s at
after-node s at r e = let l = node-next true s at e in after-here s at r (node-here s at (omega arith) r e)

pub skip-more : (s : List ℕ) (start n k at : ℕ) {r : Node} → NodesFrom s start n → k < n → at ≡ skip s k start → r ≡ node_at s at → r.next ≡ skip s (k + 1) start
skip-more s start n k at f h e g =
    let w = f k h in
    let x = skip s k start in
    ap (λ (r : Node). r.next) (g ∙ ap (node_at s) e ∙ stands-node s x w.term w.stands) ∙ after-node s x _ (stands_record true s x w.term w.stands) ∙ sym (rw (add-one k) (skip-next s k start))

-- ---- the stretch of a node of a sheet that is read

module _ {s sizes : List ℕ} {types n start : ℕ} (t : Told s sizes types n start) where
  pub told_edition : {b : Bool} → b ≡ is_second (edition_of s) → edition_by b ≡ t.sheet.edition
  told_edition e = ap edition_by e ∙ edition_by_lem (edition_of s) ∙ sym (opened s t.sheet t.is).edition

  -- where the term begins in the whole sheet
  pub told-starts : {o : ℕ} → o ≡ length (opening (edition_of s)) → o + start ≡ term_start t.sheet
  told-starts e = rw (e, t.start_is, (opened s t.sheet t.is).edition)

  pub told-short : start ≤ 16384
  told-short = let l = laid s t.sheet t.is in omega (arith, t.start_is, sheet-ends l, l.short)

module _ {s sizes : List ℕ} {types n start : ℕ} (t : Told s sizes types n start) (k : ℕ) where
  pub told-past : n ≤ k → nowhere ≡ stretch_of s k
  told-past h = let e = t.nodes_are in sym (stretch-past s t.sheet k t.is (omega arith))

  module _ (h : k < n) {E : Edition} {from : ℕ} (is : E ≡ t.sheet.edition) (begins : from ≡ term_start t.sheet) where
    below : (i : ℕ) → i ≤ k → i < nodes t.sheet.term
    below i l = let e = t.nodes_are in omega arith

    -- the nodes up to it
    pub told-nodes : NodesFrom s from k
    told-nodes i l =
        let q = (stretch-holds s t.sheet i t.is (below i (omega arith))).node in
        record { term = get_or (subterms t.sheet.term) i t.sheet.term; stands = rw (begins, ← q.start) q.stands }

    start-there : (at : ℕ) → at ≡ skip s k from → at ≡ (stretch_of s k).start
    start-there at e = e ∙ rw begins (sym (stretch-holds s t.sheet k t.is (below k (omega arith))).node.start)

    there : (at : ℕ) → at ≡ skip s k from → spanned (read_term E 64 s types at 0) ≡ end (at + (stretch_of s k).size) (nodes (get_or (subterms t.sheet.term) k t.sheet.term))
    unfolding spanned
    there at e = rw (is, start-there at e, t.types_are, stretch-read s t.sheet k t.is (below k (omega arith)))

    -- the stretch, by its ends
    pub told-stretch : (at b c : ℕ) → at ≡ skip s k from → end b c ≡ spanned (read_term E 64 s types at 0) → (at ≤ b) × (record { start = at; size = b - at } ≡ stretch_of s k)
    told-stretch at b c e f =
        let g : b ≡ at + (stretch_of s k).size = ap (λ (x : End). x.at) (good-inj (f ∙ there at e)) in
        let z : b - at ≡ (stretch_of s k).size = omega arith in
        (omega arith, ap₂ (λ (x y : ℕ). record { start = x; size = y }) (start-there at e) z)

    pub told-read : (at : ℕ) (why : Refusal) → at ≡ skip s k from → refused why ≡ spanned (read_term E 64 s types at 0) → ⊥
    told-read at why e f = refused≢good (f ∙ there at e)

-- ---- within the sheet

within_by : (s : List ℕ) (k : ℕ) (a : Answer Sheet) → read_sheet s ≡ a → (stretch_of s k).start + (stretch_of s k).size ≤ length s
within_by s k (good σ) e = elim (dec_lt k (nodes σ.term)) [
  | yes h ↦ (stretch-holds s σ k e h).within
  | no h ↦ rw (stretch-past s σ k e (omega arith)) (omega arith)
]
within_by s k (refused why) e = rw (stretch_refused s why k e) (omega arith)

pub stretch-within : (s : List ℕ) (k : ℕ) → (stretch_of s k).start + (stretch_of s k).size ≤ length s
stretch-within s k = within_by s k (read_sheet s) refl
