-- The types that nodes have: arrows, products, and the types of parts. Assumes nothing.
use Prim.Native.Nat.{ℕ, zero, suc, ◌<◌, ◌≤◌}
use mathlib.Core.Path.{◌≡◌, refl, sym, ap, subst, ◌∙◌}
use mathlib.Core.Bool.{Bool, true, false, cond}
use mathlib.Core.List.{List}
use native.Mathlib.Omega.{arith}
use lib.Dec.{leb}
use lib.ListN.{length, get_or}
use borrow.Author.Tests.{eq-eqb, ne_eqb}
use Rattle.std.proofs.Common.{Result, Ok, Err}
use Rattle.answers.specs.declared.Refusal.{Refusal}
use Rattle.calculus.specs.Answer.{Answer, ◌>>=◌}
use Rattle.calculus.specs.Types.{TyRec, rec02, rec03, rec04}
use Rattle.calculus.specs.Terms.{Edition, first, second, is_second}
use Rattle.sheet_theorems.specs.Laid.{Below}
use Rattle.notation_calculus.specs.Making.{State, Found, shares, listed, arrow_of, half_of, part_type}
use Rattle.making_memory.specs.Map.{second_at_lem}
use Rattle.made_types.specs.Held.{kind_in, HoldsState, TypesOnly}
use Rattle.made_types.specs.Listing.{kind_byte, rec_of_kind, Listable, FoundIn, ListedSays}
use Rattle.made_types.specs.declared.Kind.{Kind}
use Rattle.made_types.specs.declared.Record.{Record}
use Rattle.made_types.proofs.Sorts.{shares_in}
use Rattle.made_types.proofs.ListLaws.{types_same, types_on}
use Rattle.made_nodes.specs.Held.{Workable}
use Rattle.made_nodes.specs.Forms.{EditionIn, ArrowSays, ProductSays, GateSays, PartTypeSays}
use Rattle.made_nodes.proofs.Answers.{on-type, on-no-type}

pub listable : (w : List ℕ) (k : Kind) (a b : ℕ) → Workable w → 2 ≤ kind_byte k → a < 256 → b < 256 → Listable w (record { kind = k; left = a; right = b })
listable w k a b W low l r = record { room = W.room; count = W.few; form = low; left = l; right = r }

-- a choice of two numbers keeps what both have
pub chosen_range : (b : Bool) (k lo hi x y : ℕ) → k ≡ cond b x y → lo ≤ x → x ≤ hi → lo ≤ y → y ≤ hi → (lo ≤ k) × (k ≤ hi)
chosen_range true k lo hi x y e a b c d = (omega arith, omega arith)
chosen_range false k lo hi x y e a b c d = (omega arith, omega arith)

-- ---- arrows

pub arrow-form : (b : Bool) (k : Kind) → k ≡ cond b Kind.Arrow Kind.Linear → 2 ≤ kind_byte k
arrow-form true k e = rw e (omega arith)
arrow-form false k e = rw e (omega arith)

arrow_rec_lem : (b : Bool) (t to : ℕ) → rec_of_kind (kind_byte (cond b Kind.Arrow Kind.Linear)) t to ≡ cond b (rec03 t to) (rec04 t to)
arrow_rec_lem true t to = refl
arrow_rec_lem false t to = refl

arrow_below : (b : Bool) (n t to : ℕ) → t < n → to < n → Below n (cond b (rec03 t to) (rec04 t to))
arrow_below true n t to h l = (h, l)
arrow_below false n t to h l = (h, l)

pub arrow_says : (w : List ℕ) (t to place : ℕ) (k : Kind) (x : Result ℕ Refusal) (w' : List ℕ) → k ≡ cond (leb (kind_in w t) 2) Kind.Arrow Kind.Linear → ListedSays w (record { kind = k; left = t; right = to }) place x w' → ArrowSays w t to place x w'
arrow_says w t to place k x w' e L = record {
  only = L.only;
  small = L.small;
  says = λ σ H h l.
      let f : rec_of_kind (kind_byte k) t to ≡ arrow_of σ.table t to = ap (λ (b : Kind). rec_of_kind (kind_byte b) t to) (e ∙ ap (λ (b : Bool). cond b Kind.Arrow Kind.Linear) (shares_in w σ.table t H.types h)) ∙ arrow_rec_lem (shares σ.table t) t to in
      subst (λ (q : TyRec). FoundIn w' x (listed σ q place)) f
      (L.says σ H (subst (λ (q : TyRec). Below (length σ.table) q) (sym f) (arrow_below (shares σ.table t) (length σ.table) t to h l)));
}

-- ---- products

half_below : (b : Bool) (n t : ℕ) → t < n → cond b t 0 < n
half_below true n t h = h
half_below false n t h = omega arith

pub half_small : (b : Bool) (t r : ℕ) → r ≡ cond b t 0 → t < 256 → r < 256
half_small b t r e h = rw e (half_below b 256 t h)

pub product_says :
    (w : List ℕ) (a b place l r : ℕ) (x : Result ℕ Refusal) (w' : List ℕ) → l ≡ cond (leb (kind_in w a) 2) a 0 → r ≡ cond (leb (kind_in w b) 2) b 0
    → ListedSays w (record { kind = Kind.Product; left = l; right = r }) place x w' → ProductSays w a b place x w'
product_says w a b place l r x w' el er L = record {
  only = L.only;
  small = L.small;
  says = λ σ H ha hb.
      let f : l ≡ half_of σ.table a = el ∙ ap (λ (c : Bool). cond c a 0) (shares_in w σ.table a H.types ha) in
      let g : r ≡ half_of σ.table b = er ∙ ap (λ (c : Bool). cond c b 0) (shares_in w σ.table b H.types hb) in
      rw (← f, ← g) (L.says σ H (rw f (half_below (shares σ.table a) (length σ.table) a ha), rw g (half_below (shares σ.table b) (length σ.table) b hb)));
}

-- ---- parts

pub workable_types : (w w' : List ℕ) → Workable w → TypesOnly w w' → Workable w'
workable_types w w' W o = let r = W.room in let l = o.same in record { room = omega arith; few = o.few W.few }

some_in : (w : List ℕ) (σ : State) → HoldsState w σ → 0 < length σ.table
some_in w σ H = H.types.some

-- the first of two types is refused, or found and the second asked for
pub gate_refused :
    (w : List ℕ) (place : ℕ) (x : Result ℕ Refusal) (why : Refusal) (w' : List ℕ) → x ≡ Err why → ListedSays w (record { kind = Kind.Arrow; left = 0; right = 0 }) place x w'
    → GateSays first w place (Err why) w'
gate_refused w place x why w' e L = record {
  only = L.only;
  small = tt;
  says = λ σ H.
      let z = some_in w σ H in
      on-no-type w' why (λ (a : Answer Found). FoundIn w' (Err why) (a >>= λ y. listed y.state (rec03 0 y.type) place)) (listed σ (rec03 0 0) place) (rw e at (L.says σ H (z, z))) refl;
}

pub paired_refused :
    (w : List ℕ) (place : ℕ) (x : Result ℕ Refusal) (why : Refusal) (w' : List ℕ) → x ≡ Err why → ListedSays w (record { kind = Kind.Product; left = 0; right = 0 }) place x w'
    → GateSays second w place (Err why) w'
paired_refused w place x why w' e L = record {
  only = L.only;
  small = tt;
  says = λ σ H.
      let z = some_in w σ H in
      on-no-type w' why (λ (a : Answer Found). FoundIn w' (Err why) (a >>= λ y. listed y.state (rec03 y.type 0) place)) (listed σ (rec02 0 0) place) (rw e at (L.says σ H (z, z))) refl;
}

pub gate-found :
    (w : List ℕ) (place k : ℕ) (x : Result ℕ Refusal) (v : List ℕ) (r : Result ℕ Refusal) (w' : List ℕ) → x ≡ Ok k → ListedSays w (record { kind = Kind.Arrow; left = 0; right = 0 }) place x v
    → ListedSays v (record { kind = Kind.Arrow; left = 0; right = k }) place r w' → GateSays first w place r w'
gate-found w place k x v r w' e L M = record {
  only = types_on w v w' L.only M.only;
  small = M.small;
  says = λ σ H.
      let z = some_in w σ H in
      on-type v k (λ (a : Answer Found). FoundIn w' r (a >>= λ y. listed y.state (rec03 0 y.type) place)) (listed σ (rec03 0 0) place) (rw e at (L.says σ H (z, z)))
      (λ y f l K. rw (← f) (M.says y.state K (some_in v y.state K, l)));
}

pub paired-found :
    (w : List ℕ) (place k : ℕ) (x : Result ℕ Refusal) (v : List ℕ) (r : Result ℕ Refusal) (w' : List ℕ) → x ≡ Ok k → ListedSays w (record { kind = Kind.Product; left = 0; right = 0 }) place x v
    → ListedSays v (record { kind = Kind.Arrow; left = k; right = 0 }) place r w' → GateSays second w place r w'
paired-found w place k x v r w' e L M = record {
  only = types_on w v w' L.only M.only;
  small = M.small;
  says = λ σ H.
      let z = some_in w σ H in
      on-type v k (λ (a : Answer Found). FoundIn w' r (a >>= λ y. listed y.state (rec03 y.type 0) place)) (listed σ (rec02 0 0) place) (rw e at (L.says σ H (z, z)))
      (λ y f l K. rw (← f) (M.says y.state K (l, some_in v y.state K)));
}

pub small_of : (w : List ℕ) (r : Record) (place k : ℕ) (x : Result ℕ Refusal) (w' : List ℕ) → x ≡ Ok k → ListedSays w r place x w' → k < 256
small_of w r place k x w' e L = rw e at L.small

-- by the inputs, and then by the edition
pub part_none : (w : List ℕ) (inputs place : ℕ) → inputs ≡ 0 → PartTypeSays w inputs place (Ok 0) w
part_none w inputs place e = rw e (record { only = types_same w; small = omega arith; says = λ E σ e H. (refl, (some_in w σ H, H)) })

pub part-unary : (w : List ℕ) (inputs place : ℕ) (x : Result ℕ Refusal) (w' : List ℕ) → inputs ≡ 1 → ListedSays w (record { kind = Kind.Arrow; left = 0; right = 0 }) place x w' → PartTypeSays w inputs place x w'
part-unary w inputs place x w' e L = rw e (record { only = L.only; small = L.small; says = λ E σ d H. let z = some_in w σ H in L.says σ H (z, z) })

more-inputs : (E : Edition) (inputs place : ℕ) (σ : State) → (inputs ≡ 0 → ⊥) → (inputs ≡ 1 → ⊥) → part_type E 2 σ place ≡ part_type E inputs σ place
more-inputs E zero place σ a b = absurd (a refl)
more-inputs E (suc zero) place σ a b = absurd (b refl)
more-inputs first (suc (suc n)) place σ a b = refl
more-inputs second (suc (suc n)) place σ a b = refl

edition_first : (E : Edition) → is_second E ≡ false → E ≡ first
edition_first first e = refl
edition_first second e = let z : false ≡ true = sym e in absurd (off z)
  where
    off : false ≡ true → ⊥
    off p = subst (λ (b : Bool). cond b ⊥ (Unit {0})) p tt

edition_second : (E : Edition) → is_second E ≡ true → E ≡ second
edition_second second e = refl
edition_second first e = absurd (off e)
  where
    off : false ≡ true → ⊥
    off p = subst (λ (b : Bool). cond b ⊥ (Unit {0})) p tt

module _ (w : List ℕ) (inputs place : ℕ) (x : Result ℕ Refusal) (w' : List ℕ) (a : inputs ≡ 0 → ⊥) (b : inputs ≡ 1 → ⊥) where
  gate-is : (E : Edition) → GateSays E w place x w' → ((F : Edition) → EditionIn w F → F ≡ E) → PartTypeSays w inputs place x w'
  gate-is E G only = record {
    only = G.only;
    small = G.small;
    says = λ F σ d H. rw (only F d) (subst (λ (y : Answer Found). FoundIn w' x y) (more-inputs E inputs place σ a b) (G.says σ H));
  }

  pub part-paired : get_or w second_at_lem 0 ≡ 1 → GateSays second w place x w' → PartTypeSays w inputs place x w'
  part-paired e G = gate-is second G (λ F d. edition_second F (sym d ∙ eq-eqb (get_or w second_at_lem 0) 1 e))

  pub part-gate : (get_or w second_at_lem 0 ≡ 1 → ⊥) → GateSays first w place x w' → PartTypeSays w inputs place x w'
  part-gate e G = gate-is first G (λ F d. edition_first F (sym d ∙ ne_eqb (get_or w second_at_lem 0) 1 e))
