-- What the full netlist of a sheet is, by what the stages of a call find one after the other. Assumes nothing.
use Prim.Native.Nat.{ℕ, ◌≤◌, ◌<◌}
use mathlib.Core.Path.{◌≡◌, refl, sym, ap, ◌∙◌}
use mathlib.Core.Bool.{Bool}
use mathlib.Core.List.{List, []}
use lib.ListN.{length}
use borrow.Author.Tests.{lt-leb, le-leb}
use Rattle.calculus.specs.Answer.{Refusal, Answer, good, refused, refuse, ◌>>=◌}
use Rattle.calculus.proofs.Answers.{refused≢good, good-inj, refused-inj, on-bind}
use Rattle.calculus.specs.Read.{Sheet, edition_of, records_of, read_sheet}
use Rattle.calculus.specs.Terms.{Edition}
use Rattle.calculus.specs.Walk.{Found, walk}
use Rattle.calculus.specs.Net.{Net, make, net_of}
use Rattle.calculus.specs.Translate.{full}
use Rattle.sheet_theorems.proofs.Laying.{opened, laid}
use Rattle.answers.specs.declared.Refusal.{Refusal as Why}
use Rattle.answers.specs.Refusals.{refusal_at, said_why}
use Rattle.records.specs.Editions.{edition_by}
use Rattle.typing.specs.Answers.{TermAt, type_of, check_of}
use Rattle.wiring.specs.Whole.{NetStands}
use Rattle.translator.specs.Stages.{ReadStage}
use Rattle.translator.specs.Made.{lent, Named, root_number, MakeLeaves}
use Rattle.std.specs.declared.result.Result.TheVariants.{Ok, Err}
use Rattle.answers.specs.declared.Reason.{Reason}
use Rattle.translator.specs.declared.Made.{Made}
use Rattle.translator.proofs.Keeping.{later_keeps}

-- ---- answers

-- with too little working memory
lent_small : (memory : ℕ) (s : List ℕ) → memory < 32768 → lent memory s ≡ refuse 1 0
unfolding lent
lent_small memory s h = rw (lt-leb 32768 memory h)

lent_enough : (memory : ℕ) (s : List ℕ) → 32768 ≤ memory → lent memory s ≡ full s
unfolding lent
lent_enough memory s h = rw (le-leb 32768 memory h)

pub small_makes : (plain : Bool) (s work : List ℕ) → length work < 32768 → MakeLeaves plain (Err (refusal_at Reason.LittleMemory 0)) s work work
small_makes plain s work h = record { said = sym (lent_small (length work) s h); standing = tt; named = tt; root = tt; keeps = refl }

-- a refusal leaves the working memory
refused_makes : (plain : Bool) (s work : List ℕ) (why : Why) → 32768 ≤ length work → full s ≡ refused (said_why why) → MakeLeaves plain (Err why) s work work
refused_makes plain s work why h e = record { said = sym (lent_enough (length work) s h ∙ e); standing = tt; named = tt; root = tt; keeps = refl }

-- a netlist that stands in it
pub net-makes : (plain : Bool) (s work after : List ℕ) (q : Made) (m : Net) → 32768 ≤ length work → full s ≡ good m → root_number s ≡ good q.root → NetStands m q.counts work after → Named plain (Ok q) s after → MakeLeaves plain (Ok q) s work after
net-makes plain s work after q m h e f S n = record {
  said = rw S.net (sym (lent_enough (length work) s h ∙ e));
  standing = (S.ready, S.known);
  named = n;
  root = f;
  keeps = later_keeps work after h S.ready.size S.later;
}

-- ---- stage by stage

module _ (s work : List ℕ) (enough : 32768 ≤ length work) where
  full-unread : (why : Refusal) → read_sheet s ≡ refused why → full s ≡ refused why
  unfolding full
  full-unread why e = rw e

  pub unread_makes : (plain : Bool) (why : Why) → read_sheet s ≡ refused (said_why why) → MakeLeaves plain (Err why) s work work
  unread_makes plain why e = refused_makes plain s work why enough (full-unread (said_why why) e)

  module _ (σ : Sheet) (read : read_sheet s ≡ good σ) {E : Edition} {b : List ℕ} (edition : E ≡ edition_of s) (behind : b ≡ records_of s) where
    check-is : check_of E b ≡ type_of σ
    unfolding check_of
    check-is = rw (edition, behind, (opened s σ read).records)

    untyped : (a : Answer Found) (why : Refusal) → a ≡ walk σ.edition σ.table σ.term 0 [] → (a >>= λ r. good r.type) ≡ refused why
        → walk σ.edition σ.table σ.term 0 [] ≡ refused why
    untyped (good r) why e h = absurd (refused≢good (sym h))
    untyped (refused k) why e h = sym e ∙ ap refused (refused-inj h)

    full-untyped : (why : Refusal) → check_of E b ≡ refused why → full s ≡ refused why
    unfolding full
    full-untyped why e =
        let w = untyped (walk σ.edition σ.table σ.term 0 []) why refl (sym check-is ∙ e) in
        rw (read, w)

    pub untyped-makes : (plain : Bool) (why : Why) → check_of E b ≡ refused (said_why why) → MakeLeaves plain (Err why) s work work
    untyped-makes plain why e = refused_makes plain s work why enough (full-untyped (said_why why) e)

    pub typed-found : (t : ℕ) → check_of E b ≡ good t → (r : Found) × (walk σ.edition σ.table σ.term 0 [] ≡ good r) × (r.type ≡ t)
    typed-found t e = on-bind (walk σ.edition σ.table σ.term 0 []) (λ r. good r.type) t (sym check-is ∙ e) λ r h k. (r, h, good-inj k)

  module _ (σ : Sheet) (read : read_sheet s ≡ good σ) (r : Found) (walked : walk σ.edition σ.table σ.term 0 [] ≡ good r) where
    full-many : 8192 < (make σ.table σ.term [] 0).next → full s ≡ refuse 16 0
    unfolding full
    full-many h = rw (read, walked, lt-leb (make σ.table σ.term [] 0).next 8192 h)

    pub many-makes : (plain : Bool) → 8192 < (make σ.table σ.term [] 0).next → MakeLeaves plain (Err (refusal_at Reason.ManyTerminals 0)) s work work
    many-makes plain h = refused_makes plain s work _ enough (full-many h)

    pub root-found : (t : ℕ) → r.type ≡ t → root_number s ≡ good t
    unfolding root_number
    root-found t e = rw (read, walked, e)

    pub full-few : (make σ.table σ.term [] 0).next ≤ 8192 → full s ≡ good (net_of (make σ.table σ.term [] 0))
    unfolding full
    full-few h = rw (read, walked, le-leb (make σ.table σ.term [] 0).next 8192 h)

-- what the walk asks for
pub check-reads : {b sizes : List ℕ} {types : ℕ} {second : Bool} {start nodes : ℕ} → ReadStage b sizes types second start nodes → TermAt b types (edition_by second) start
check-reads q =
    let t = q.read.told in
    let s = q.read.whole in
    record {
      sheet = t.sheet;
      short = rw q.read.behind (laid s t.sheet t.is).short;
      read = rw (q.edition, q.read.behind) (opened s t.sheet t.is).records;
      count = q.count ∙ t.types_are;
      start = t.start_is;
    }
