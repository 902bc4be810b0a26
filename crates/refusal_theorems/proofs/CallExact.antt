-- Every refusal of a call, 1 to 17: the call's are the sentences', there is at most one, and one exactly where nothing is written. Assumes
-- nothing.
use Prim.Native.Nat.{ℕ, ◌<◌, ◌≤◌}
use mathlib.Core.Path.{◌≡◌, refl, sym, ap, ◌∙◌}
use mathlib.Core.Logic.{◌⊎◌, inl, inr, ◌↔◌}
use mathlib.Core.List.{List, []}
use lib.Dec.{leb, leb→le}
use lib.ListN.{length}
use borrow.Author.Tests.{leb-false, le-leb, lt-leb}
use Rattle.calculus.specs.Answer.{Refusal, Answer, good, refused, numbered}
use Rattle.calculus.proofs.Answers.{refused≢good, good-inj, refused-inj}
use Rattle.calculus.specs.Types.{Ty}
use Rattle.calculus.specs.Read.{Sheet, read_sheet}
use Rattle.calculus.specs.Walk.{walk}
use Rattle.calculus.specs.Rules.{Typed}
use Rattle.calculus.specs.Net.{Net}
use Rattle.calculus.specs.Makers.{makers, makers_in, makers_of}
use Rattle.calculus.specs.Translate.{full, Wish, asked_bytes, answer, said_of, call}
use Rattle.sheet_theorems.proofs.SheetRead.{read-written}
use Rattle.sheet_theorems.proofs.Exact.{exact}
use Rattle.sheet_theorems.proofs.Judging.{Judged, value, refusal, of_bind, of_require, weaker, of_refused}
use Rattle.refusal_theorems.specs.Refuses.{Refuses}
use Rattle.refusal_theorems.specs.Unreadable.{Unreadable}
use Rattle.refusal_theorems.specs.RefusedBy.{WrittenAs, terminals_of, full_of, HasNetlist, NoNetlist, unreadable, untyped, many_terminals, wished_bytes, RefusedBy, little_memory, no_netlist, little_room, WritesBytes}
use Rattle.refusal_theorems.proofs.WalkExact.{refuses-exact, walk_or}
use Rattle.refusal_theorems.proofs.OneSheet.{one_sheet}
use Rattle.refusal_theorems.proofs.ReadExact.{unreadable_exact, unreadable_or, unreadable_read}

-- ---- 2 to 9: written or unreadable

-- a sheet is read as σ exactly when it is written so
pub written_as : (s : List ℕ) (σ : Sheet) → (read_sheet s ≡ good σ) ↔ WrittenAs s σ
written_as s σ = (
  (λ h. record { bytes = ((read-written s σ).0 h).0; readable = λ why u. refused≢good (sym (unreadable_read u) ∙ h) }),
  (λ w. by w (read_sheet s) refl),
)
  where
    by : WrittenAs s σ → (a : Answer Sheet) → read_sheet s ≡ a → read_sheet s ≡ good σ
    by w (good ρ) h = h ∙ ap good (one_sheet ρ σ (sym ((read-written s ρ).0 h).0 ∙ w.bytes))
    by w (refused why) h = absurd (w.readable why ((unreadable_exact s why).0 h))

pub written_or_unreadable : (s : List ℕ) → ((σ : Sheet) × WrittenAs s σ) ⊎ ((why : Refusal) × Unreadable s why)
written_or_unreadable s = by (read_sheet s) refl
  where
    by : (a : Answer Sheet) → read_sheet s ≡ a → ((σ : Sheet) × WrittenAs s σ) ⊎ ((why : Refusal) × Unreadable s why)
    by (good σ) h = inl (σ, (written_as s σ).0 h)
    by (refused why) h = inr (why, (unreadable_exact s why).0 h)

pub unreadable_unwritten : (s : List ℕ) (σ : Sheet) (why : Refusal) → WrittenAs s σ → Unreadable s why → ⊥
unreadable_unwritten s σ why a u = refused≢good (sym (unreadable_read u) ∙ (written_as s σ).1 a)

-- ---- 2 to 16

-- the sheet that a full netlist is of
pub record FullNetOf (s : List ℕ) (m : Net) : Type 0 where
  pub sheet : Sheet
  pub has : HasNetlist s sheet
  pub net : m ≡ full_of sheet

pub full_or : (s : List ℕ) → Judged (NoNetlist s) (FullNetOf s) (full s)
unfolding full
full_or s =
    of_bind (read_sheet s) _ (weaker (λ why u. unreadable u) (unreadable_or s)) λ σ h _.
    let a = (written_as s σ).0 h in
    of_bind (walk σ.edition σ.table σ.term 0 []) _ (weaker (λ why r. untyped {σ = σ} a r) (walk_or s σ h)) λ r k _.
    let (τ, d) = (exact s σ h).0 (r, k) in
    of_require (leb (terminals_of σ) 8192) (numbered 16 0) _ (λ f. many_terminals {σ = σ} {τ = τ} a d (leb-false (terminals_of σ) 8192 f)) λ f.
    value (record { sheet = σ; has = record { written = a; type = τ; typed = d; few = leb→le (terminals_of σ) 8192 f }; net = refl })

module _ (s : List ℕ) (σ : Sheet) (a : WrittenAs s σ) where
  reads : read_sheet s ≡ good σ
  reads = (written_as s σ).1 a

  pub makers_so : makers_of s ≡ makers σ.table σ.term 0
  unfolding makers_of
  makers_so = ap makers_in reads

  full-untyped : (why : Refusal) → Refuses σ.edition σ.table [] σ.term 0 why → full s ≡ refused why
  unfolding full
  full-untyped why r = simp (reads, (refuses-exact s σ reads why).1 r)

  full-many : (τ : Ty) → Typed σ.edition σ.table [] σ.term τ → 8192 < terminals_of σ → full s ≡ refused (numbered 16 0)
  unfolding full
  full-many τ d h =
      let (r, k) = (exact s σ reads).1 (τ, d) in
      simp (reads, k, lt-leb (terminals_of σ) 8192 h)

  full-few : (τ : Ty) → Typed σ.edition σ.table [] σ.term τ → terminals_of σ ≤ 8192 → full s ≡ good (full_of σ)
  unfolding full
  full-few τ d h =
      let (r, k) = (exact s σ reads).1 (τ, d) in
      simp (reads, k, le-leb (terminals_of σ) 8192 h)

full_unreadable : (s : List ℕ) (why : Refusal) → Unreadable s why → full s ≡ refused why
unfolding full
full_unreadable s why u = rw (unreadable_read u)

pub full_refused : {s : List ℕ} {why : Refusal} → NoNetlist s why → full s ≡ refused why
full_refused {s} {why} (unreadable u) = full_unreadable s why u
full_refused {s} {why} (untyped {σ = σ} a r) = full-untyped s σ a why r
full_refused {s} (many_terminals {σ = σ} {τ = τ} a d h) = full-many s σ a τ d h

pub full_good : (s : List ℕ) (σ : Sheet) → HasNetlist s σ → full s ≡ good (full_of σ)
full_good s σ h = full-few s σ h.written h.type h.typed h.few

-- 2 to 16, as every call on a sheet has them
pub no_netlist_exact : (s : List ℕ) (why : Refusal) → (full s ≡ refused why) ↔ NoNetlist s why
no_netlist_exact s why = ((λ h. of_refused (full s) why (full_or s) h), (λ u. full_refused u))

-- ---- the call

module _ (memory : ℕ) (w : Wish) (s : List ℕ) (room : ℕ) where
  pub wished : (m : Net) (q : FullNetOf s m) → asked_bytes w m (makers_of s) ≡ wished_bytes w q.sheet
  wished m q = ap (λ (x : Net). asked_bytes w x (makers_of s)) q.net ∙ ap (asked_bytes w (full_of q.sheet)) (makers_so s q.sheet q.has.written)

  short-of : (m : Net) → FullNetOf s m → 32768 ≤ memory → room < length (asked_bytes w m (makers_of s)) → RefusedBy memory w s room (numbered 17 (length (asked_bytes w m (makers_of s))))
  short-of m q e h = rw (wished m q) (little_room {σ = q.sheet} e q.has (rw (wished m q) at h))

  enough-for : (m : Net) → FullNetOf s m → 32768 ≤ memory → length (asked_bytes w m (makers_of s)) ≤ room → WritesBytes memory w s room (length (asked_bytes w m (makers_of s)))
  enough-for m q e h = record { sheet = q.sheet; has = q.has; enough = e; fits = rw (wished m q) at h; number = ap length (wished m q) }

  answer-or : Judged (RefusedBy memory w s room) (λ bytes. WritesBytes memory w s room (length bytes)) (answer memory w s room)
  unfolding answer
  answer-or =
      of_require (leb 32768 memory) (numbered 1 0) _ (λ f. little_memory (leb-false 32768 memory f)) λ e.
      let enough = leb→le 32768 memory e in
      of_bind (full s) _ (weaker (λ why u. no_netlist enough u) (full_or s)) λ m _ q.
      of_require (leb (length (asked_bytes w m (makers_of s))) room) (numbered 17 (length (asked_bytes w m (makers_of s)))) _ (λ f. short-of m q enough (leb-false (length (asked_bytes w m (makers_of s))) room f)) λ f.
      value (enough-for m q enough (leb→le (length (asked_bytes w m (makers_of s))) room f))

  answer-refused : {why : Refusal} → RefusedBy memory w s room why → answer memory w s room ≡ refused why
  unfolding answer
  answer-refused (little_memory h) = rw (lt-leb 32768 memory h)
  answer-refused (no_netlist h u) = simp (le-leb 32768 memory h, full_refused u)
  answer-refused (little_room {σ = σ} h a l) = simp (le-leb 32768 memory h, full_good s σ a, makers_so s σ a.written, lt-leb (length (wished_bytes w σ)) room l)

  answer_good : {n : ℕ} → WritesBytes memory w s room n → said_of (answer memory w s room) ≡ good n
  unfolding answer
  answer_good q =
      let σ = q.sheet in
      simp (le-leb 32768 memory q.enough, full_good s σ q.has, makers_so s σ q.has.written, le-leb (length (wished_bytes w σ)) room q.fits, q.number)

pub said_refused : (a : Answer (List ℕ)) (why : Refusal) → said_of a ≡ refused why → a ≡ refused why
said_refused (good bytes) why e = absurd (refused≢good (sym e))
said_refused (refused x) why e = ap (λ (w : Refusal). refused w) (refused-inj e)

said_good : (Q : ℕ → Type 0) {P : Refusal → Type 0} (a : Answer (List ℕ)) (n : ℕ) → Judged P (λ bytes. Q (length bytes)) a → said_of a ≡ good n → Q n
said_good Q (good bytes) n (value q) e = rw (good-inj e) at q
said_good Q (refused x) n (refusal p) e = absurd (refused≢good e)

module _ (w : Wish) (s out work : List ℕ) where
  -- a call answers a refusal exactly when the sentences refuse
  pub refused_by_exact : (why : Refusal) → ((call w s out work).said ≡ refused why) ↔ RefusedBy (length work) w s (length out) why
  unfolding call
  refused_by_exact why =
      let a = answer (length work) w s (length out) in (
        (λ h. of_refused a why (answer-or (length work) w s (length out)) (said_refused a why h)),
        (λ r. ap said_of (answer-refused (length work) w s (length out) r)),
      )

  -- .. and a number of bytes exactly when that many are to be written
  pub writes-exact : (n : ℕ) → ((call w s out work).said ≡ good n) ↔ WritesBytes (length work) w s (length out) n
  unfolding call
  writes-exact n = (
    (λ h. said_good (WritesBytes (length work) w s (length out)) (answer (length work) w s (length out)) n (answer-or (length work) w s (length out)) h),
    (λ q. answer_good (length work) w s (length out) q),
  )

  -- at most one refusal: number, place, and the two types of 12
  pub refused_by_only : (why why' : Refusal) → RefusedBy (length work) w s (length out) why → RefusedBy (length work) w s (length out) why' → why ≡ why'
  refused_by_only why why' r q = refused-inj (sym ((refused_by_exact why).1 r) ∙ (refused_by_exact why').1 q)

  -- never both
  pub refused_unwritten : (why : Refusal) (n : ℕ) → RefusedBy (length work) w s (length out) why → WritesBytes (length work) w s (length out) n → ⊥
  refused_unwritten why n r q = refused≢good (sym ((refused_by_exact why).1 r) ∙ (writes-exact n).1 q)

  -- and always one
  pub written_or_refused : ((n : ℕ) × WritesBytes (length work) w s (length out) n) ⊎ ((why : Refusal) × RefusedBy (length work) w s (length out) why)
  written_or_refused = by (call w s out work).said refl
    where
      by : (a : Answer ℕ) → (call w s out work).said ≡ a → ((n : ℕ) × WritesBytes (length work) w s (length out) n) ⊎ ((why : Refusal) × RefusedBy (length work) w s (length out) why)
      by (good n) h = inl (n, (writes-exact n).0 h)
      by (refused why) h = inr (why, (refused_by_exact why).0 h)
