-- What is read lies in its bytes as it is written out, within the limits. Assumes nothing.
use Prim.Native.Nat.{ℕ, zero, suc, ◌+◌, ◌≤◌, ◌<◌, max}
use mathlib.Core.Path.{◌≡◌, refl, sym, ap, ap₂, subst, ◌∙◌}
use mathlib.Core.Bool.{Bool, ◌||◌, cond}
use mathlib.Core.List.{List, [], ◌∷◌, ◌++◌, append_assoc, append-nil}
use native.Mathlib.Omega.{arith}
use native.Mathlib.Nat.{max-le}
use lib.Dec.{T, leb, eqb, ltb, leb→le, ltb→lt, eqb→eq}
use lib.ListN.{length, drop, length-append, length-drop}
use lib.Seq.{drop-length}
use Rattle.calculus.specs.Answer.{Answer, good, refused, ◌>>=◌}
use Rattle.calculus.proofs.Answers.{refused≢good, good-inj, on-bind, on-need}
use Rattle.calculus.specs.Types.{TyRec, rec01, rec02, rec03, rec04, Table}
use Rattle.calculus.specs.Terms.{Edition, first, second, opening, Term, fun, app, lfun, lapp, pair, proj, fix, name, nodes}
use Rattle.calculus.specs.Read.{Kind, unknown, type, node, TypeKind, k01, k02, k03, k04, NodeKind, k11, k12, k13, k14, k15, k16, k17, k18, k19, k1A, k1B, kind_of, knows, byte, type_body, type_rec, check_type, type_at, read_types, Got, got, node_body, node_typed, node_kind, head_at, node_of_kind, read_term, Sheet, read_records, edition_of, records_of, offset_by, read_sheet}
use Rattle.calculus.specs.Write.{rec_bytes, table_bytes, term_bytes, record_bytes, sheet_bytes}
use Rattle.sheet_theorems.specs.Laid.{TableOk, depth, Ranged, Laid}
use Rattle.laws.proofs.Tests.{by_eqb}
use Rattle.sheet_theorems.proofs.KindBytes.{type_byte_lem, node-byte}
use Rattle.sheet_theorems.proofs.Bytes.{front_one, front-two, front-three}
use Rattle.sheet_theorems.proofs.Tables.{checked, empty-ok}

-- ---- the table

-- the records of a table are the first bytes of the sheet, up to an offset
pub record TableListed (s : List ℕ) (Θ : Table) (at : ℕ) : Type 0 where
  pub ok : TableOk Θ
  pub end : at ≡ length (table_bytes Θ)
  pub bytes : s ≡ table_bytes Θ ++ drop at s

pub table_snoc : (Θ : Table) (r : TyRec) → table_bytes (Θ ++ r ∷ []) ≡ table_bytes Θ ++ rec_bytes r
table_snoc [] rec01 = refl
table_snoc [] (rec02 a b) = refl
table_snoc [] (rec03 a b) = refl
table_snoc [] (rec04 a b) = refl
table_snoc (q ∷ Θ) r = rw (table_snoc Θ r) (sym (append_assoc (rec_bytes q) (table_bytes Θ) (rec_bytes r)))

pub rec-length : (k : TypeKind) (a b : ℕ) → length (rec_bytes (type_rec k a b)) ≡ 1 + type_body k
rec-length k01 a b = refl
rec-length k02 a b = refl
rec-length k03 a b = refl
rec-length k04 a b = refl

-- a type record that is not cut short
pub type_front : (s : List ℕ) (at : ℕ) (k : TypeKind) → kind_of (byte s at) ≡ type k → at + 1 + type_body k ≤ length s
    → drop at s ≡ rec_bytes (type_rec k (byte s (at + 1)) (byte s (at + 2))) ++ drop (at + 1 + type_body k) s
type_front s at k01 e h = front_one s at _ (type_byte_lem (byte s at) k01 e) (omega arith) h
type_front s at k02 e h = front-three s at _ (type_byte_lem (byte s at) k02 e) (omega arith) h
type_front s at k03 e h = front-three s at _ (type_byte_lem (byte s at) k03 e) (omega arith) h
type_front s at k04 e h = front-three s at _ (type_byte_lem (byte s at) k04 e) (omega arith) h

pub listed_more : (s : List ℕ) (Θ : Table) (at : ℕ) (k : TypeKind) → TableListed s Θ at → kind_of (byte s at) ≡ type k → at + 1 + type_body k ≤ length s
    → TableOk (Θ ++ type_rec k (byte s (at + 1)) (byte s (at + 2)) ∷ [])
    → TableListed s (Θ ++ type_rec k (byte s (at + 1)) (byte s (at + 2)) ∷ []) (at + 1 + type_body k)
listed_more s Θ at k l e h ok =
    let q = type_rec k (byte s (at + 1)) (byte s (at + 2)) in
    record {
      ok = ok;
      end = rw table_snoc (omega (arith, length-append (table_bytes Θ) (rec_bytes q), rec-length k (byte s (at + 1)) (byte s (at + 2)), l.end));
      bytes = l.bytes ∙ ap (λ (x : List ℕ). table_bytes Θ ++ x) (type_front s at k e h) ∙ rw (table_snoc Θ q) (sym (append_assoc (table_bytes Θ) (rec_bytes q) _));
    }

module _ (s : List ℕ) where
  types-step : (k : Kind) (more : ℕ) (Θ : Table) (at : ℕ) (go : Table → ℕ → Answer (Table × ℕ)) (r : Table × ℕ) → kind_of (byte s at) ≡ k → length Θ + more ≤ 256 → TableListed s Θ at
      → ((Φ : Table) (next : ℕ) → length Φ ≡ length Θ + 1 → TableListed s Φ next → go Φ next ≡ good r → TableListed s r.0 r.1) → type_at k more s Θ at go ≡ good r → TableListed s r.0 r.1
  types-step unknown more Θ at go r ek room l rest e = subst (λ (x : Table × ℕ). TableListed s x.0 x.1) (good-inj e) l
  types-step (node k) more Θ at go r ek room l rest e = subst (λ (x : Table × ℕ). TableListed s x.0 x.1) (good-inj e) l
  types-step (type k) more Θ at go r ek room l rest e =
      let q = type_rec k (byte s (at + 1)) (byte s (at + 2)) in
      on-need (leb (at + 1 + type_body k) (length s)) 3 at _ r e λ h₁ e₁.
      on-need (ltb 0 more) 8 at _ r e₁ λ h₂ e₂.
      on-bind (check_type Θ q at) _ r e₂ λ u h₃ e₃.
      let h : 0 < more = ltb→lt 0 more h₂ in
      rest (Θ ++ q ∷ []) (at + 1 + type_body k) (length-append Θ (q ∷ [])) (listed_more s Θ at k l ek (leb→le _ _ h₁) (checked Θ q at u l.ok (omega arith) h₃)) e₃

  pub types-listed : (more : ℕ) (Θ : Table) (at : ℕ) (r : Table × ℕ) → length Θ + more ≤ 256 → TableListed s Θ at → read_types more s Θ at ≡ good r → TableListed s r.0 r.1
  unfolding read_types
  types-listed zero Θ at r room l e = types-step (kind_of (byte s at)) zero Θ at _ r refl room l (λ Φ next le l z. absurd (refused≢good z)) e
  types-listed (suc n) Θ at r room l e = types-step (kind_of (byte s at)) (suc n) Θ at _ r refl room l (λ Φ next le l z. types-listed n Φ next r (omega arith) l z) e

-- ---- the term

-- what a node's record is when it is read
pub record Headed (E : Edition) (k : NodeKind) (more : ℕ) (s : List ℕ) (types at n : ℕ) : Type 0 where
  pub kind : kind_of (byte s at) ≡ node k
  pub known : T (knows E k)
  pub body : at + 1 + node_body k ≤ length s
  pub few : n < 2048
  pub deep : 0 < more
  pub typed : T (eqb (node_typed k) 0 || ltb (byte s (at + node_typed k)) types)

kind_good : (q : Kind) (at : ℕ) (k : NodeKind) → node_kind q at ≡ good k → q ≡ node k
kind_good unknown at k e = absurd (refused≢good e)
kind_good (type q) at k e = absurd (refused≢good e)
kind_good (node q) at k e = ap node (good-inj e)

pub headed : (E : Edition) (k : NodeKind) (more : ℕ) (s : List ℕ) (types at n : ℕ) → head_at E more s types at n ≡ good k → Headed E k more s types at n
unfolding head_at
headed E k more s types at n e =
    on-need (ltb at (length s)) 3 at _ k e λ h₁ e₁.
    on-bind (node_kind (kind_of (byte s at)) at) _ k e₁ λ q h₂ e₂.
    on-need (knows E q) 4 at _ k e₂ λ h₃ e₃.
    on-need (leb (at + 1 + node_body q) (length s)) 3 at _ k e₃ λ h₄ e₄.
    on-need (ltb n 2048) 8 at _ k e₄ λ h₅ e₅.
    on-need (ltb 0 more) 8 at _ k e₅ λ h₆ e₆.
    on-need (eqb (node_typed q) 0 || ltb (byte s (at + node_typed q)) types) 5 at _ k e₆ λ h₇ e₇.
    subst (λ (k : NodeKind). Headed E k more s types at n) (good-inj e₇)
    (record { kind = kind_good _ at q h₂; known = h₃; body = leb→le _ _ h₄; few = ltb→lt n 2048 h₅; deep = ltb→lt 0 more h₆; typed = h₇ })

-- 1B is known in the second edition alone
pub knows_1_b : (E : Edition) → T (knows E k1B) → E ≡ second
knows_1_b first h = absurd h
knows_1_b second h = refl

-- what a term is when it is read, at an offset, with n nodes before it
pub record Termed (E : Edition) (Θ : Table) (s : List ℕ) (more at n : ℕ) (g : Got) : Type 0 where
  pub here : drop at s ≡ term_bytes g.term ++ drop g.next s
  pub end : g.next ≡ at + length (term_bytes g.term)
  pub within : g.next ≤ length s
  pub count : g.count ≡ n + nodes g.term
  pub few : g.count ≤ 2048
  pub deep : depth g.term ≤ more
  pub ranged : Ranged E Θ g.term

module _ (E : Edition) (Θ : Table) (s : List ℕ) (more at n : ℕ) (few : n < 2048) (go : ℕ → ℕ → Answer Got) (sub : (a c : ℕ) (g : Got) → go a c ≡ good g → Termed E Θ s more a c g) where
  -- a node without subterms
  none : (e : Term) (next : ℕ) (g : Got) → drop at s ≡ term_bytes e ++ drop next s → next ≡ at + length (term_bytes e) → next ≤ length s → nodes e ≡ 1 → depth e ≡ 1 → Ranged E Θ e
      → got e next (n + 1) ≡ good g → Termed E Θ s (suc more) at n g
  none e next g f a w c d r h =
      subst (λ (g : Got). Termed E Θ s (suc more) at n g) (good-inj h)
      (record { here = f; end = a; within = w; count = rw c; few = omega arith; deep = rw d (omega arith); ranged = r })

  -- with one, after the bytes `pre`
  one : (mk : Term → Term) (pre : List ℕ) (next : ℕ) (g : Got) → drop at s ≡ pre ++ drop next s → next ≡ at + length pre
      → ((e : Term) → term_bytes (mk e) ≡ pre ++ term_bytes e) → ((e : Term) → nodes (mk e) ≡ suc (nodes e)) → ((e : Term) → depth (mk e) ≡ suc (depth e)) → ((e : Term) → Ranged E Θ e → Ranged E Θ (mk e))
      → (go next (n + 1) >>= λ e. got (mk e.term) e.next e.count) ≡ good g → Termed E Θ s (suc more) at n g
  one mk pre next g f a b c d r h =
      on-bind (go next (n + 1)) _ g h λ e h₁ e₁.
      subst (λ (g : Got). Termed E Θ s (suc more) at n g) (good-inj e₁)
      (let t = sub next (n + 1) e h₁ in
      record {
        here = rw (b e.term, append_assoc pre (term_bytes e.term) (drop e.next s), ← t.here) f;
        end = rw (b e.term) (omega (arith, t.end, length-append pre (term_bytes e.term)));
        within = t.within;
        count = rw (c e.term) (omega (arith, t.count));
        few = t.few;
        deep = rw (d e.term) (omega (arith, t.deep));
        ranged = r e.term t.ranged;
      })

  two : (mk : Term → Term → Term) (pre : List ℕ) (next : ℕ) (g : Got) → drop at s ≡ pre ++ drop next s → next ≡ at + length pre
      → ((a b : Term) → term_bytes (mk a b) ≡ pre ++ (term_bytes a ++ term_bytes b)) → ((a b : Term) → nodes (mk a b) ≡ suc (nodes a + nodes b)) → ((a b : Term) → depth (mk a b) ≡ suc (max (depth a) (depth b)))
      → ((a b : Term) → Ranged E Θ a → Ranged E Θ b → Ranged E Θ (mk a b))
      → (go next (n + 1) >>= λ a. go a.next a.count >>= λ b. got (mk a.term b.term) b.next b.count) ≡ good g → Termed E Θ s (suc more) at n g
  two mk pre next g f a b c d r h =
      on-bind (go next (n + 1)) _ g h λ x h₁ e₁.
      on-bind (go x.next x.count) _ g e₁ λ y h₂ e₂.
      subst (λ (g : Got). Termed E Θ s (suc more) at n g) (good-inj e₂)
      (let t = sub next (n + 1) x h₁ in
      let u = sub x.next x.count y h₂ in
      record {
        here = rw (b x.term y.term, append_assoc pre (term_bytes x.term ++ term_bytes y.term) (drop y.next s), append_assoc (term_bytes x.term) (term_bytes y.term) (drop y.next s), ← u.here, ← t.here) f;
        end = rw (b x.term y.term) (omega (arith, t.end, u.end, length-append pre (term_bytes x.term ++ term_bytes y.term), length-append (term_bytes x.term) (term_bytes y.term)));
        within = u.within;
        count = rw (c x.term y.term) (omega (arith, t.count, u.count));
        few = u.few;
        deep = rw (d x.term y.term) (omega (arith, max-le t.deep u.deep));
        ranged = r x.term y.term t.ranged u.ranged;
      })

  node-termed : (k : NodeKind) (g : Got) → Headed E k (suc more) s (length Θ) at n → node_of_kind k (byte s (at + 1)) (byte s (at + 2)) (at + 1 + node_body k) (n + 1) go ≡ good g → Termed E Θ s (suc more) at n g
  node-termed k11 g q h = none _ _ g (front-two s at _ (node-byte (byte s at) k11 q.kind) (omega arith) q.body) (omega arith) q.body refl refl tt h
  node-termed k12 g q h = none _ _ g (front-two s at _ (node-byte (byte s at) k12 q.kind) (omega arith) q.body) (omega arith) q.body refl refl tt h
  node-termed k13 g q h = one (λ e. fun (byte s (at + 1)) e) (0x13 ∷ byte s (at + 1) ∷ []) _ g (front-two s at _ (node-byte (byte s at) k13 q.kind) (omega arith) q.body) (omega arith) (λ e. refl) (λ e. refl) (λ e. refl) (λ e r. (ltb→lt _ _ q.typed, r)) h
  node-termed k14 g q h = two app (0x14 ∷ []) _ g (front_one s at _ (node-byte (byte s at) k14 q.kind) (omega arith) q.body) (omega arith) (λ a b. refl) (λ a b. refl) (λ a b. refl) (λ a b r u. (r, u)) h
  node-termed k15 g q h = one (λ e. lfun (byte s (at + 1)) e) (0x15 ∷ byte s (at + 1) ∷ []) _ g (front-two s at _ (node-byte (byte s at) k15 q.kind) (omega arith) q.body) (omega arith) (λ e. refl) (λ e. refl) (λ e. refl) (λ e r. (ltb→lt _ _ q.typed, r)) h
  node-termed k16 g q h = two lapp (0x16 ∷ []) _ g (front_one s at _ (node-byte (byte s at) k16 q.kind) (omega arith) q.body) (omega arith) (λ a b. refl) (λ a b. refl) (λ a b. refl) (λ a b r u. (r, u)) h
  node-termed k17 g q h = two (λ a b. pair (byte s (at + 1)) a b) (0x17 ∷ byte s (at + 1) ∷ []) _ g (front-two s at _ (node-byte (byte s at) k17 q.kind) (omega arith) q.body) (omega arith) (λ a b. refl) (λ a b. refl) (λ a b. refl) (λ a b r u. (ltb→lt _ _ q.typed, r, u)) h
  node-termed k18 g q h = two proj (0x18 ∷ []) _ g (front_one s at _ (node-byte (byte s at) k18 q.kind) (omega arith) q.body) (omega arith) (λ a b. refl) (λ a b. refl) (λ a b. refl) (λ a b r u. (r, u)) h
  node-termed k19 g q h = one (λ e. fix (byte s (at + 1)) e) (0x19 ∷ byte s (at + 1) ∷ []) _ g (front-two s at _ (node-byte (byte s at) k19 q.kind) (omega arith) q.body) (omega arith) (λ e. refl) (λ e. refl) (λ e. refl) (λ e r. (ltb→lt _ _ q.typed, r)) h
  node-termed k1A g q h = none _ _ g (front-three s at _ (node-byte (byte s at) k1A q.kind) (omega arith) q.body) (omega arith) q.body refl refl (ltb→lt _ _ q.typed) h
  node-termed k1B g q h = two name (0x1B ∷ []) _ g (front_one s at _ (node-byte (byte s at) k1B q.kind) (omega arith) q.body) (omega arith) (λ a b. refl) (λ a b. refl) (λ a b. refl) (λ a b r u. (knows_1_b E q.known, r, u)) h

pub termed : (E : Edition) (Θ : Table) (s : List ℕ) (more at n : ℕ) (g : Got) → read_term E more s (length Θ) at n ≡ good g → Termed E Θ s more at n g
unfolding read_term
termed E Θ s zero at n g e = on-bind (head_at E zero s (length Θ) at n) _ g e λ k h₁ e₁. absurd (refused≢good e₁)
termed E Θ s (suc more) at n g e =
    on-bind (head_at E (suc more) s (length Θ) at n) _ g e λ k h₁ e₁.
    let q = headed E k (suc more) s (length Θ) at n h₁ in
    node-termed E Θ s more at n q.few (λ a c. read_term E more s (length Θ) a c) (λ a c g z. termed E Θ s more a c g z) k g q e₁

-- ---- the sheet

-- the records that are read
pub records-laid : (E : Edition) (s : List ℕ) (σ : Sheet) → length s ≤ 16384 → read_records E s ≡ good σ → Laid s σ
unfolding read_records record_bytes
records-laid E s σ short e =
    on-bind (read_types 256 s [] 0) _ σ e λ r h₁ e₁.
    on-bind (read_term E 64 s (length r.0) r.1 0) _ σ e₁ λ g h₂ e₂.
    on-need (eqb g.next (length s)) 9 g.next _ σ e₂ λ h₃ e₃.
    subst (λ (σ : Sheet). Laid s σ) (good-inj e₃)
    (let l = types-listed s 256 [] 0 r (omega arith) (record { ok = empty-ok; end = refl; bytes = refl }) h₁ in
    let t = termed E r.0 s 64 r.1 0 g h₂ in
    record {
      bytes = l.bytes ∙ ap (λ (x : List ℕ). table_bytes r.0 ++ x) (t.here ∙ rw (eqb→eq g.next (length s) h₃, drop-length s) (append-nil (term_bytes g.term)));
      short = short;
      table = l.ok;
      ranged = t.ranged;
      deep = t.deep;
      few = omega (arith, t.count, t.few);
    })

-- are of the edition that they are read in
pub records_edition : (E : Edition) (s : List ℕ) (σ : Sheet) → read_records E s ≡ good σ → σ.edition ≡ E
unfolding read_records
records_edition E s σ e =
    on-bind (read_types 256 s [] 0) _ σ e λ r h₁ e₁.
    on-bind (read_term E 64 s (length r.0) r.1 0) _ σ e₁ λ g h₂ e₂.
    on-need (eqb g.next (length s)) 9 g.next _ σ e₂ λ h₃ e₃.
    sym (ap (λ (σ : Sheet). σ.edition) (good-inj e₃))

-- any bytes are an opening, as the first byte tells it, and the records behind it
pub opens : (s : List ℕ) → s ≡ opening (edition_of s) ++ records_of s
unfolding edition_of records_of
opens [] = refl
opens (x ∷ s) = by_eqb (λ (t : Bool). x ∷ s ≡ opening (cond t second first) ++ drop (length (opening (cond t second first))) (x ∷ s)) x 0x31
    (λ e. ap (λ (b : ℕ). b ∷ s) e) (λ d. refl)

records-length : (s : List ℕ) → length (records_of s) ≤ length s
unfolding records_of
records-length s = omega (arith, length-drop (length (opening (edition_of s))) s)

offset_good : {A : Type 0} (n : ℕ) (m : Answer A) (a : A) → offset_by n m ≡ good a → m ≡ good a
offset_good n (good b) a e = e
offset_good n (refused why) a e = absurd (refused≢good e)

-- a sheet that is read: what the first byte tells, and its records behind the opening
pub record SheetOpened (s : List ℕ) (σ : Sheet) : Type 0 where
  pub short : length s ≤ 16384
  pub records : read_records (edition_of s) (records_of s) ≡ good σ
  pub edition : σ.edition ≡ edition_of s

pub opened : (s : List ℕ) (σ : Sheet) → read_sheet s ≡ good σ → SheetOpened s σ
unfolding read_sheet
opened s σ e =
    on-need (leb (length s) 16384) 2 0 _ σ e λ h₁ e₁.
    let r = offset_good (length (opening (edition_of s))) (read_records (edition_of s) (records_of s)) σ e₁ in
    record { short = leb→le _ _ h₁; records = r; edition = records_edition (edition_of s) (records_of s) σ r }

pub laid : (s : List ℕ) (σ : Sheet) → read_sheet s ≡ good σ → Laid (records_of s) σ
laid s σ e = let o = opened s σ e in records-laid (edition_of s) (records_of s) σ (omega (arith, o.short, records-length s)) o.records

pub sheet-bytes : (s : List ℕ) (σ : Sheet) → read_sheet s ≡ good σ → s ≡ sheet_bytes σ.edition σ.table σ.term
unfolding sheet_bytes
sheet-bytes s σ e = opens s ∙ ap₂ (λ (E : Edition) (r : List ℕ). opening E ++ r) (sym (opened s σ e).edition) (laid s σ e).bytes
