-- The types of a line one by one, and the items of a text: a line, a definition, the end. Assumes nothing.
use Prim.Native.Nat.{ℕ, zero, suc, ◌+◌, ◌*◌, ◌≤◌, ◌<◌}
use mathlib.Core.Path.{◌≡◌, refl, sym, ap, ◌∙◌, subst}
use mathlib.Core.Bool.{Bool, true, false, cond}
use mathlib.Core.List.{List, [], ◌∷◌}
use native.Mathlib.Omega.{arith}
use lib.ListN.{length}
use lib.Seq.{sets}
use Rattle.std.proofs.Common.{Result, Ok, Err}
use Rattle.answers.specs.declared.Refusal.{Refusal}
use Rattle.answers.specs.Refusals.{said_why}
use Rattle.calculus.specs.Answer.{Answer, good, refused, ◌>>=◌}
use Rattle.notation_calculus.specs.Words.{comma, Word}
use Rattle.notation_calculus.specs.Trees.{TypeTree, Text}
use Rattle.notation_calculus.specs.Grammar.{most_nested, Got, got, behind, is, list_from, type_at, lines_of}
use Rattle.notation_calculus.specs.Making.{State, Found, Scope, type_of}
use Rattle.notation_calculus.specs.Make.{above, lines_table}
use Rattle.notation_theorems.proofs.Answering.{On, on_is, on_good}
use Rattle.notation_machine.specs.TypeFrom.{type_from}
use Rattle.notation_machine.proofs.Behind.{type_left_lem}
use Rattle.words.specs.Next.{Said}
use Rattle.words.specs.Lexed.{from, Lexed, Stands}
use Rattle.grammar.proofs.EndLaws.{is_yes, is_no}
use Rattle.making_memory.specs.Map.{frames_at}
use Rattle.made_types.specs.Held.{HoldsState}
use Rattle.walks.specs.declared.TypeEnd.{TypeEnd}
use Rattle.walks.specs.Says.{Offset, TypeAnswers, CanType, TypeSays}
use Rattle.maker.specs.declared.lines.Typed as typed
use Rattle.maker.specs.declared.lines.Typed.TheVariants as typed-is
use Rattle.maker.specs.declared.lines.Went.{Went}
use Rattle.maker.specs.Stages.{FarKept, TextStands, KnowsAbove}
use Rattle.maker.specs.Lines.{types_line, LineThere, CanTypeOne, LineOn, LineDone, TypedAs, TypedSays, CanTypes, LineTypes, CanLine, LineSays}
use Rattle.maker.proofs.StageLaws.{far_none, far_types, far_then, stands_of, knows_on_types, framed_far, framed-knows}

pub bind_good : {A B : Type 0} (m : Answer A) (f : A → Answer B) (a : A) → m ≡ good a → (m >>= f) ≡ f a
bind_good m f a e = ap (λ (q : Answer _). q >>= f) e

pub bind_refused : {A B : Type 0} (m : Answer A) (f : A → Answer B) (e : Refusal) → m ≡ refused (said_why e) → (m >>= f) ≡ refused (said_why e)
bind_refused m f e h = ap (λ (q : Answer _). q >>= f) h

-- ---- a list of types, taken apart

true≢false : {C : Type 0} → ◌≡◌ {A = Bool} true false → C
true≢false e = let z : ◌≡◌ {A = ℕ} 0 1 = cc in absurd (omega arith)

-- its first type, and the comma and the others behind it
pub record LineHead (read : List Word → Answer (Got TypeTree)) (ws : List Word) (ts : List TypeTree) (us : List Word) : Type 0 where
  pub first : Got TypeTree
  pub reads : read ws ≡ good first
  pub others : List TypeTree
  pub all : ts ≡ first.value ∷ others
  pub last : is comma first.rest ≡ false → (others ≡ []) × (us ≡ first.rest)
  pub more : is comma first.rest ≡ true → (n : ℕ) × (list_from read n (behind first.rest) ≡ got others us)

module _ (read : List Word → Answer (Got TypeTree)) where
  abbrev Headed : List Word → Got (List TypeTree) → Type 0
  Headed ws g = LineHead read ws g.value g.rest

  heads-by : (n : ℕ) (ws : List Word) (t : Got TypeTree) → read ws ≡ good t → (b : Bool) → is comma t.rest ≡ b → On (Headed ws) (cond b (list_from read n (behind t.rest) >>= λ xs. got (t.value ∷ xs.value) xs.rest) (got (t.value ∷ []) t.rest))
  heads-by n ws t e true c = on_is (Headed ws) (list_from read n (behind t.rest)) (λ xs. got (t.value ∷ xs.value) xs.rest) λ xs f. record { first = t; reads = e; others = xs.value; all = refl; last = λ d. true≢false (sym c ∙ d); more = λ d. (n, f) }
  heads-by n ws t e false c = record { first = t; reads = e; others = []; all = refl; last = λ d. (refl, refl); more = λ d. true≢false (sym d ∙ c) }

  line-heads : (n : ℕ) (ws : List Word) → On (Headed ws) (list_from read n ws)
  line-heads zero ws = tt
  line-heads (suc n) ws = on_is (Headed ws) (read ws) (λ t. cond (is comma t.rest) (list_from read n (behind t.rest) >>= λ xs. got (t.value ∷ xs.value) xs.rest) (got (t.value ∷ []) t.rest)) λ t e. heads-by n ws t e (is comma t.rest) refl

  line-headed : (n : ℕ) (ws : List Word) (ts : List TypeTree) (us : List Word) → list_from read n ws ≡ got ts us → LineHead read ws ts us
  line-headed n ws ts us e = on_good (Headed ws) (list_from read n ws) (record { value = ts; rest = us }) (line-heads n ws) e

abbrev pub OwnHead : List Word → List TypeTree → List Word → Type 0
OwnHead ws ts us = LineHead (λ vs. type_at most_nested false vs) ws ts us

pub line_head : {text : List ℕ} {at : ℕ} {ts : List TypeTree} {us : List Word} → LineThere text at ts us → OwnHead (from text at) ts us
line_head {text} {at} {ts} {us} L = line-headed (λ vs. type_at most_nested false vs) L.rounds (from text at) ts us L.reads

-- ---- one type

-- the walk's answer, by what the definition works out
abbrev pub TypedBy : List ℕ → List ℕ → Answer Found → List Word → Result TypeEnd Refusal → Type 0
TypedBy text w m us (Ok t) = (x : Found) × ((m ≡ good x) × ((HoldsState w x.state) × (Offset text t.end us)))
TypedBy text w m us (Err e) = m ≡ refused (said_why e)

typed_by : (text w : List ℕ) (m : Answer Found) (us : List Word) (r : Result TypeEnd Refusal) → TypeAnswers text w r (m >>= λ x. got x us) → TypedBy text w m us r
typed_by text w (good x) us (Ok t) a = (x, (refl, (a.state, a.rest)))
typed_by text w (good x) us (Err e) a = absurd a
typed_by text w (refused why) us (Ok t) a = absurd a
typed_by text w (refused why) us (Err e) a = ap refused a

from-read : (q : Answer (Got TypeTree)) (f : TypeTree → Answer Found) (t : Got TypeTree) → q ≡ good t → (q >>= λ t. f t.value >>= λ x. got x t.rest) ≡ (f t.value >>= λ x. got x t.rest)
from-read q f t e = bind_good q (λ t. f t.value >>= λ x. got x t.rest) t e

type_from_is : (X : Text) (more : ℕ) (S : Scope) (σ : State) (ws : List Word) (t : Got TypeTree) → type_at most_nested false ws ≡ good t → type_from X more S σ ws ≡ (type_of X more S σ t.value >>= λ x. got x t.rest)
unfolding type_from
type_from_is X more S σ ws t e = from-read (type_at most_nested false ws) (λ t. type_of X more S σ t) t e

-- a type is worked out in the text's own scope
pub own_type : (text w : List ℕ) (at : ℕ) → Lexed text at → (X : Text) (seen : ℕ) (σ : State) → KnowsAbove text w X seen σ → CanType text w at 80 81 0
own_type text w at l X seen σ K = record { walk = record { X = X; S = above seen; σ = σ; walkable = K.walkable }; lexed = l; above = omega arith; levels = omega arith }

typed_more : (text w : List ℕ) (at more : ℕ) (r : Result TypeEnd Refusal) (w' : List ℕ) → TypeSays text w at more 81 0 r w' → (X : Text) (seen : ℕ) (σ : State) → KnowsAbove text w X seen σ → (t : Got TypeTree) → type_at most_nested false (from text at) ≡ good t → TypedBy text w' (type_of X more (above seen) σ t.value) t.rest r
typed_more text w at more r w' T X seen σ K t e = typed_by text w' (type_of X more (above seen) σ t.value) t.rest r (subst (λ (q : Answer (Got Found)). TypeAnswers text w' r q) (type_from_is X more (above seen) σ (from text at) t e) (T.says X (above seen) σ K.walkable))

pub own_typed : (text w : List ℕ) (at : ℕ) (r : Result TypeEnd Refusal) (w' : List ℕ) → TypeSays text w at 80 81 0 r w' → (X : Text) (seen : ℕ) (σ : State) → KnowsAbove text w X seen σ → (t : Got TypeTree) → type_at most_nested false (from text at) ≡ good t → TypedBy text w' (type_of X most_nested (above seen) σ t.value) t.rest r
own_typed text w at r w' T X seen σ K t e = typed_more text w at most_nested r w' T X seen σ K t e

-- a line's table goes on behind its first type
table-first : (X : Text) (seen : ℕ) (σ : State) (t : TypeTree) (ts : List TypeTree) (x : Found) → type_of X most_nested (above seen) σ t ≡ good x → lines_table X σ (lines_of seen (t ∷ ts)) ≡ lines_table X x.state (lines_of seen ts)
table-first X seen σ t ts x e = bind_good (type_of X most_nested (above seen) σ t) (λ x. lines_table X x.state (lines_of seen ts)) x e

table_refused : (X : Text) (seen : ℕ) (σ : State) (t : TypeTree) (ts : List TypeTree) (e : Refusal) → type_of X most_nested (above seen) σ t ≡ refused (said_why e) → lines_table X σ (lines_of seen (t ∷ ts)) ≡ refused (said_why e)
table_refused X seen σ t ts e h = bind_refused (type_of X most_nested (above seen) σ t) (λ x. lines_table X x.state (lines_of seen ts)) e h

module _ (text w : List ℕ) (at : ℕ) (w' : List ℕ) where
  one_far : (r : Result TypeEnd Refusal) → TypeSays text w at 80 81 0 r w' → FarKept w w'
  one_far r T = far_types 80 0 w w' (omega arith) T.walked

  module _ (X : Text) (seen : ℕ) (σ : State) (ts : List TypeTree) (us : List Word) (K : KnowsAbove text w X seen σ) (L : LineThere text at ts us) where
    head : OwnHead (from text at) ts us
    head = line_head L

    tables : (o : Answer State) → lines_table X σ (lines_of seen (head.first.value ∷ head.others)) ≡ o → lines_table X σ (lines_of seen ts) ≡ o
    tables o e = ap (λ (l : List TypeTree). lines_table X σ (lines_of seen l)) head.all ∙ e

    fewer : length head.first.rest ≤ length (from text at)
    fewer = on_good (λ (g : Got TypeTree). length g.rest ≤ length (from text at)) (type_at most_nested false (from text at)) head.first (type_left_lem (length (from text at)) most_nested false (from text at) (omega arith)) head.reads

    -- the type is refused
    one-refused : (e : Refusal) → TypeSays text w at 80 81 0 (Err e) w' → lines_table X σ (lines_of seen ts) ≡ refused (said_why e)
    one-refused e T = tables (refused (said_why e)) (table_refused X seen σ head.first.value head.others e (own_typed text w at (Err e) w' T X seen σ K head.first head.reads))

    module _ (t : TypeEnd) (T : TypeSays text w at 80 81 0 (Ok t) w') where
      typed_at : TypedBy text w' (type_of X most_nested (above seen) σ head.first.value) head.first.rest (Ok t)
      typed_at = own_typed text w at (Ok t) w' T X seen σ K head.first head.reads

      one-lexed : Lexed text t.end
      one-lexed = typed_at.1.1.1.lexed

      rest-is : head.first.rest ≡ from text t.end
      rest-is = typed_at.1.1.1.is

      one-knows : KnowsAbove text w' X seen typed_at.0.state
      one-knows = knows_on_types text w w' X seen σ typed_at.0.state T.walked K typed_at.1.1.0

      one_table : lines_table X σ (lines_of seen ts) ≡ lines_table X typed_at.0.state (lines_of seen head.others)
      one_table = tables _ (table-first X seen σ head.first.value head.others typed_at.0 typed_at.1.0)

      module _ (v : Said) (s : Stands text t.end v) where
        -- a comma stands behind it, and others
        one_more : v.code ≡ 14 → LineOn text w' X seen σ ts us (length (from text at)) v.end
        one_more c =
            let o = s.onward (λ z. omega arith) in
            let (n, m) = head.more (ap (λ (vs : List Word). is comma vs) rest-is ∙ is_yes text t.end v s comma c) in
            record {
              next = typed_at.0.state;
              others = head.others;
              knows = one-knows;
              there = record { lexed = o.lexed; rounds = n; reads = ap (λ (vs : List Word). types_line n vs) (sym (ap behind rest-is ∙ o.rest)) ∙ m };
              table = one_table;
              fewer = omega (arith, o.fewer, fewer, ap length rest-is);
            }

        -- none does
        one_last : ¬ (v.code ≡ 14) → LineDone text w' X seen σ ts us (length (from text at)) t.end
        one_last c =
            let (a, b) = head.last (ap (λ (vs : List Word). is comma vs) rest-is ∙ is_no text t.end v s comma c) in
            record {
              next = typed_at.0.state;
              knows = one-knows;
              rest = record { is = b ∙ rest-is; lexed = one-lexed };
              table = one_table ∙ ap (λ (l : List TypeTree). lines_table X typed_at.0.state (lines_of seen l)) a;
              fewer = omega (arith, fewer, ap length rest-is);
            }

  -- ---- the answers of `one_type`

  pub says_refused : (e : Refusal) → TypeSays text w at 80 81 0 (Err e) w' → TypedSays text w at (Err e) w'
  says_refused e T = record { kept = one_far (Err e) T; says = λ X seen σ ts us K L. one-refused X seen σ ts us K L e T }

  module _ (t : TypeEnd) (T : TypeSays text w at 80 81 0 (Ok t) w') (q : CanTypeOne text w at) where
    pub says-lexed : Lexed text t.end
    says-lexed = one-lexed q.X q.seen q.σ q.ts q.us q.knows q.there t T

    pub says-more : (v : Said) → Stands text t.end v → v.code ≡ 14 → TypedSays text w at (Ok (typed-is.More v.end)) w'
    says-more v s c = record { kept = one_far (Ok t) T; says = λ X seen σ ts us K L. one_more X seen σ ts us K L t T v s c }

    pub says_last : (v : Said) → Stands text t.end v → ¬ (v.code ≡ 14) → TypedSays text w at (Ok (typed-is.Last t.end)) w'
    says_last v s c = record { kept = one_far (Ok t) T; says = λ X seen σ ts us K L. one_last X seen σ ts us K L t T v s c }

-- ---- a line: the loop

pub record LineGoing (text w₀ : List ℕ) (start seen : ℕ) (w : List ℕ) (at : ℕ) : Type 0 where
  pub kept : FarKept w₀ w
  pub goes : (X : Text) (σ : State) (ts : List TypeTree) (us : List Word) → KnowsAbove text w₀ X seen σ → LineThere text start ts us → LineOn text w X seen σ ts us (length (from text start) + 1) at

pub line_first : (text w : List ℕ) (start seen : ℕ) → LineGoing text w start seen w start
line_first text w start seen = record {
  kept = far_none w;
  goes = λ X σ ts us K L. record { next = σ; others = ts; knows = K; there = L; table = refl; fewer = omega arith };
}

module _ (text w₀ : List ℕ) (start seen : ℕ) (q : CanTypes text w₀ start seen) (w : List ℕ) (at : ℕ) (G : LineGoing text w₀ start seen w at) where
  so_far : LineOn text w q.X seen q.σ q.ts q.us (length (from text start) + 1) at
  so_far = G.goes q.X q.σ q.ts q.us q.knows q.there

  pub line_can : CanTypeOne text w at
  line_can = record { X = q.X; seen = seen; σ = so_far.next; ts = so_far.others; us = q.us; knows = so_far.knows; there = so_far.there }

  pub line_refused : (e : Refusal) (w' : List ℕ) → TypedSays text w at (Err e) w' → LineTypes text w₀ start seen (Err e) w'
  line_refused e w' T = record {
    kept = far_then w₀ w w' G.kept T.kept;
    says = λ X σ ts us K L.
        let a = G.goes X σ ts us K L in
        a.table ∙ T.says X seen a.next a.others us a.knows a.there;
  }

  module _ (r : typed.Typed) (w' : List ℕ) (T : TypedSays text w at (Ok r) w') where
    pub line_kept : FarKept w₀ w'
    line_kept = far_then w₀ w w' G.kept T.kept

    as-typed : (r' : typed.Typed) → r ≡ r' → (X : Text) (σ : State) (ts : List TypeTree) (us : List Word) → KnowsAbove text w X seen σ → LineThere text at ts us → TypedAs text w' X seen σ ts us (length (from text at)) (Ok r')
    as-typed r' e X σ ts us K L = subst (λ (x : typed.Typed). TypedAs text w' X seen σ ts us (length (from text at)) (Ok x)) e (T.says X seen σ ts us K L)

    pub line-more : (next : ℕ) → r ≡ typed-is.More next → LineGoing text w₀ start seen w' next
    line-more next e = record {
      kept = line_kept;
      goes = λ X σ ts us K L.
          let a = G.goes X σ ts us K L in
          let b = as-typed (typed-is.More next) e X a.next a.others us a.knows a.there in
          record { next = b.next; others = b.others; knows = b.knows; there = b.there; table = a.table ∙ b.table; fewer = omega (arith, a.fewer, b.fewer) };
    }

    pub line-less : (next : ℕ) → r ≡ typed-is.More next → length (from text next) < length (from text at)
    line-less next e = (as-typed (typed-is.More next) e q.X so_far.next so_far.others q.us so_far.knows so_far.there).fewer

    pub line-last : (end : ℕ) → r ≡ typed-is.Last end → LineTypes text w₀ start seen (Ok (record { at = end; seen = seen })) w'
    line-last end e = record {
      kept = line_kept;
      says = λ X σ ts us K L.
          let a = G.goes X σ ts us K L in
          let b = as-typed (typed-is.Last end) e X a.next a.others us a.knows a.there in
          record { next = b.next; stands = stands_of b.knows; rest = b.rest; table = a.table ∙ b.table; fewer = omega (arith, a.fewer, b.fewer); same = refl };
    }

-- ---- a line in the text's own scope

module _ (text w₀ : List ℕ) (start seen : ℕ) (q : CanLine text w₀ start seen) where
  pub line_low : seen < 65536
  line_low = omega (arith, q.few, q.stands.clauses.rows.few)

  module _ (w : List ℕ) (e : w ≡ sets w₀ (frames_at + 4 * 81) (seen ∷ 0 ∷ 0 ∷ 0 ∷ [])) where
    line-knows : (X : Text) (σ : State) → TextStands text w₀ X σ → seen ≤ length X.clauses → KnowsAbove text w X seen σ
    line-knows X σ S h = subst (λ (v : List ℕ). KnowsAbove text v X seen σ) (sym e) (framed-knows w₀ seen q.stands.room text X σ S h)

    pub line-types : CanTypes text w start seen
    line-types = record { X = q.X; σ = q.σ; ts = q.ts; us = q.us; knows = line-knows q.X q.σ q.stands q.few; there = q.there }

    pub line-says : (r : Result Went Refusal) (w' : List ℕ) → LineTypes text w start seen r w' → LineSays text w₀ start seen r w'
    line-says r w' T = record {
      kept = far_then w₀ w w' (subst (λ (v : List ℕ). FarKept w₀ v) (sym e) (framed_far w₀ seen q.stands.room)) T.kept;
      says = λ X σ ts us S h L. T.says X σ ts us (line-knows X σ S h) L;
    }
