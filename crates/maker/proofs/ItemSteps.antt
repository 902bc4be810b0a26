-- The items of a text, read again one by one: what stands behind a line, behind a definition, and at the end. Assumes nothing.
use Prim.Native.Nat.{ℕ, zero, suc, ◌+◌, ◌≤◌, ◌<◌}
use mathlib.Core.Path.{◌≡◌, refl, sym, ap, ◌∙◌, subst}
use mathlib.Core.Bool.{Bool, true, false, cond}
use mathlib.Core.List.{List, [], ◌∷◌, ◌++◌, append_assoc, append-nil}
use native.Mathlib.Omega.{arith}
use lib.Dec.{ltb}
use lib.ListN.{length, drop, length-append}
use lib.Seq.{drop_at}
use Rattle.std.proofs.Common.{Option, Some, None, Result, Ok, Err, IsOk}
use Rattle.answers.specs.declared.Refusal.{Refusal}
use Rattle.answers.specs.Refusals.{said_why}
use Rattle.calculus.specs.Answer.{Answer, good, refused, ◌>>=◌, need}
use Rattle.calculus.proofs.Answers.{refused≢good, good-inj, on-bind}
use Rattle.notation_calculus.specs.Words.{ends, table, type, Word}
use Rattle.notation_calculus.specs.Trees.{TypeTree, Clause, Line, Text}
use Rattle.notation_calculus.specs.Grammar.{most_nested, most_clauses, Got, got, behind, is, Items, may_follow_all, with_clause, with_lines, lines_of, clause_at, type_body, term_body, items_from}
use Rattle.notation_calculus.specs.Making.{State, Found, Scope, type_of}
use Rattle.notation_calculus.specs.Make.{lines_table, above}
use Rattle.notation_theorems.proofs.Answering.{on_any, on_good}
use Rattle.words.specs.Next.{Said}
use Rattle.words.specs.Lexed.{from, Onward, Stands}
use Rattle.grammar.specs.Ends.{rest_of, type_step, term_step, Reaches, End, Ends}
use Rattle.grammar.specs.Skips.{list_end, clause_end, item_end}
use Rattle.grammar.proofs.EndLaws.{is_yes, is_no}
use Rattle.grammar.proofs.ItemLaws.{type_clause_rest, term_clause_rest}
use Rattle.maker.specs.declared.lines.Went.{Went}
use Rattle.maker.specs.Stages.{FarKept, TextStands}
use Rattle.maker.specs.Lines.{types_line, LineThere, CanLine, LineMade, LineAs, LineSays, ItemsLeft, CanItem, ItemOn, ItemAs, ItemSays, LinesSay}
use Rattle.maker.proofs.StageLaws.{far_none, far_then, stage_passed, stage_refused}
use Rattle.maker.proofs.LineLaws.{bind_good}

-- ---- one round of `items_from`, taken apart

true≢false : {C : Type 0} → ◌≡◌ {A = Bool} true false → C
true≢false e = let z : ◌≡◌ {A = ℕ} 0 1 = cc in absurd (omega arith)

-- by the first word: a and b say whether it is the end, and whether it is `table`
pub record RoundOf (a b : Bool) (L : Answer (Got (List TypeTree))) (C : Answer (Got Clause)) (f : Items → List Word → Answer (Got Items)) (done : Items) (g : Got Items) : Type 0 where
  pub line : a ≡ false → b ≡ true → (ts : Got (List TypeTree)) × ((L ≡ good ts) × (f (with_lines done ts.value) ts.rest ≡ good g))
  pub clause : a ≡ false → b ≡ false → (c : Got Clause) × ((C ≡ good c) × ((next : Items) × ((with_clause done c.value ≡ good next) × (f next c.rest ≡ good g))))

round_of : (a b : Bool) (stop : Answer (Got Items)) (L : Answer (Got (List TypeTree))) (C : Answer (Got Clause)) (f : Items → List Word → Answer (Got Items)) (done : Items) (g : Got Items)
    → cond a stop (cond b (L >>= λ ts. f (with_lines done ts.value) ts.rest) (C >>= λ c. with_clause done c.value >>= λ next. f next c.rest)) ≡ good g → RoundOf a b L C f done g
round_of true b stop L C f done g e = record { line = λ p. true≢false p; clause = λ p. true≢false p }
round_of false true stop L C f done g e = record {
  line = λ p q. on-bind L (λ ts. f (with_lines done ts.value) ts.rest) g e λ ts h k. (ts, (h, k));
  clause = λ p q. true≢false q;
}
round_of false false stop L C f done g e = record {
  line = λ p q. true≢false (sym q);
  clause = λ p q. on-bind C (λ c. with_clause done c.value >>= λ next. f next c.rest) g e λ c h k. on-bind (with_clause done c.value) (λ next. f next c.rest) g k λ next h₁ k₁. (c, (h, (next, (h₁, k₁))));
}

abbrev clauses_at : List Word → Answer (Got Clause)
clauses_at ws = cond (is type ws) (clause_at type_body (behind ws)) (clause_at term_body ws)

abbrev Round : ℕ → Items → List Word → Got Items → Type 0
Round n done ws g = RoundOf (is ends ws) (is table ws) (types_line (length ws) (behind ws)) (clauses_at ws) (λ d us. items_from n d us) done g

round_at : (n : ℕ) (done : Items) (ws : List Word) (g : Got Items) → items_from (suc n) done ws ≡ good g → Round n done ws g
round_at n done ws g e = round_of (is ends ws) (is table ws) (got done ws) (types_line (length ws) (behind ws)) (clauses_at ws) (λ d us. items_from n d us) done g e

items_stop : (n : ℕ) (done : Items) (ws : List Word) → is ends ws ≡ true → items_from n done ws ≡ got done ws
items_stop zero done ws e = refl
items_stop (suc n) done ws e = stop-by (is ends ws) _ _ e
  where
    stop-by : (a : Bool) (x y : Answer (Got Items)) → a ≡ true → cond a x y ≡ x
    stop-by true x y e = refl
    stop-by false x y e = true≢false (sym e)

-- a clause more
clause_more : (done : Items) (c : Clause) (next : Items) → with_clause done c ≡ good next → next ≡ record { clauses = done.clauses ++ c ∷ []; lines = done.lines }
clause_more done c next e = on_good (λ (x : Items). x ≡ record { clauses = done.clauses ++ c ∷ []; lines = done.lines }) (with_clause done c) next (on_any (λ (x : Items). x ≡ record { clauses = done.clauses ++ c ∷ []; lines = done.lines }) (need (ltb (length done.clauses) most_clauses) 34 c.head.place) _ λ _. on_any (λ (x : Items). x ≡ record { clauses = done.clauses ++ c ∷ []; lines = done.lines }) (need (may_follow_all done.clauses c) 36 c.head.place) _ λ _. refl) e

-- ---- items only grow

pub record ItemsGrow (done all : Items) : Type 0 where
  pub clauses : length done.clauses ≤ length all.clauses
  pub more : List Line
  pub lines : all.lines ≡ done.lines ++ more

grow_clause : (done : Items) (c : Clause) (next all : Items) → with_clause done c ≡ good next → ItemsGrow next all → ItemsGrow done all
grow_clause done c next all e G =
    let z = clause_more done c next e in
    record {
      clauses = omega (arith, G.clauses, ap (λ (i : Items). length i.clauses) z, length-append done.clauses (c ∷ []));
      more = G.more;
      lines = G.lines ∙ ap (λ (i : Items). i.lines ++ G.more) z;
    }

grow_line : (done : Items) (ts : List TypeTree) (all : Items) → ItemsGrow (with_lines done ts) all → ItemsGrow done all
grow_line done ts all G = record {
  clauses = G.clauses;
  more = lines_of (length done.clauses) ts ++ G.more;
  lines = G.lines ∙ append_assoc done.lines (lines_of (length done.clauses) ts) G.more;
}

grow_none : (done : Items) (ws : List Word) (g : Got Items) → got done ws ≡ good g → ItemsGrow done g.value
grow_none done ws g e =
    let z = good-inj e in
    record { clauses = omega (arith, ap (λ (x : Got Items). length x.value.clauses) z); more = []; lines = sym (ap (λ (x : Got Items). x.value.lines) z) ∙ sym (append-nil done.lines) }

grow_round : (n : ℕ) (done : Items) (ws : List Word) (g : Got Items) → items_from (suc n) done ws ≡ good g → ((d : Items) (us : List Word) → items_from n d us ≡ good g → ItemsGrow d g.value) → (a b : Bool) → is ends ws ≡ a → is table ws ≡ b → ItemsGrow done g.value
grow_round n done ws g e go true b p q = grow_none done ws g (sym (items_stop (suc n) done ws p) ∙ e)
grow_round n done ws g e go false true p q = let (ts, (h, k)) = (round_at n done ws g e).line p q in grow_line done ts.value g.value (go (with_lines done ts.value) ts.rest k)
grow_round n done ws g e go false false p q = let (c, (h, (next, (h₁, k₁)))) = (round_at n done ws g e).clause p q in grow_clause done c.value next g.value h₁ (go next c.rest k₁)

pub items_grow : (n : ℕ) (done : Items) (ws : List Word) (g : Got Items) → items_from n done ws ≡ good g → ItemsGrow done g.value
items_grow zero done ws g e = grow_none done ws g e
items_grow (suc n) done ws g e = grow_round n done ws g e (λ d us k. items_grow n d us g k) (is ends ws) (is table ws) refl refl

cancel : {A : Type 0} (l a b : List A) → l ++ a ≡ l ++ b → a ≡ b
cancel l a b e = sym (drop_at l a (length l) refl) ∙ ap (λ (m : List _). drop (length l) m) e ∙ drop_at l b (length l) refl

-- ---- lines in a row, whatever works a type out

module _ (go : Scope → State → TypeTree → Answer Found) where
  abbrev lines_by : State → List Line → Answer State
  lines_by σ [] = good σ
  lines_by σ (l ∷ ls) = go (above l.seen) σ l.type >>= λ t. lines_by t.state ls

  by_both : (σ : State) (ks ls : List Line) (τ : State) → lines_by σ ks ≡ good τ → lines_by σ (ks ++ ls) ≡ lines_by τ ls
  by_both σ [] ls τ e = ap (λ (s : State). lines_by s ls) (good-inj e)
  by_both σ (l ∷ ks) ls τ e = on-bind (go (above l.seen) σ l.type) (λ t. lines_by t.state ks) τ e λ t h k. bind_good (go (above l.seen) σ l.type) (λ t. lines_by t.state (ks ++ ls)) t h ∙ by_both t.state ks ls τ k

  refused_on : (z : Refusal) (m : Answer Found) (f g : Found → Answer State) → ((t : Found) → f t ≡ refused (said_why z) → g t ≡ refused (said_why z)) → (m >>= f) ≡ refused (said_why z) → (m >>= g) ≡ refused (said_why z)
  refused_on z (good t) f g k e = k t e
  refused_on z (refused why) f g k e = e

  by-stops : (σ : State) (ks ls : List Line) (z : Refusal) → lines_by σ ks ≡ refused (said_why z) → lines_by σ (ks ++ ls) ≡ refused (said_why z)
  by-stops σ [] ls z e = absurd (refused≢good (sym e))
  by-stops σ (l ∷ ks) ls z e = refused_on z (go (above l.seen) σ l.type) (λ t. lines_by t.state ks) (λ t. lines_by t.state (ks ++ ls)) (λ t h. by-stops t.state ks ls z h) e

  bind-same : (m : Answer Found) (f g : Found → Answer State) → ((t : Found) → f t ≡ g t) → (m >>= f) ≡ (m >>= g)
  bind-same (good t) f g k = k t
  bind-same (refused why) f g k = refl

own : Text → Scope → State → TypeTree → Answer Found
own X S τ t = type_of X most_nested S τ t

lines-own : (X : Text) (σ : State) (ls : List Line) → lines_table X σ ls ≡ lines_by (own X) σ ls
unfolding own
lines-own X σ [] = refl
lines-own X σ (l ∷ ls) = bind-same (own X) (own X (above l.seen) σ l.type) (λ t. lines_table X t.state ls) (λ t. lines_by (own X) t.state ls) (λ t. lines-own X t.state ls)

table-both : (X : Text) (σ : State) (ks ls : List Line) (τ : State) → lines_table X σ ks ≡ good τ → lines_table X σ (ks ++ ls) ≡ lines_table X τ ls
table-both X σ ks ls τ e = lines-own X σ (ks ++ ls) ∙ by_both (own X) σ ks ls τ (sym (lines-own X σ ks) ∙ e) ∙ sym (lines-own X τ ls)

table-stops : (X : Text) (σ : State) (ks ls : List Line) (z : Refusal) → lines_table X σ ks ≡ refused (said_why z) → lines_table X σ (ks ++ ls) ≡ refused (said_why z)
table-stops X σ ks ls z e = lines-own X σ (ks ++ ls) ∙ by-stops (own X) σ ks ls z (sym (lines-own X σ ks) ∙ e)

-- ---- where an item ends

rest_good : {A : Type 0} (m : Answer (Got A)) (g : Got A) → m ≡ good g → rest_of m ≡ good g.rest
rest_good m g e = ap rest_of e

clause_end_by : (a b : Bool) (L : Answer (List Word)) (t e : Answer (Got Clause)) (t' e' : Answer (List Word)) → rest_of t ≡ t' → rest_of e ≡ e' → a ≡ false → rest_of (cond b t e) ≡ cond a L (cond b t' e')
clause_end_by true b L t e t' e' p q z = true≢false z
clause_end_by false true L t e t' e' p q z = p
clause_end_by false false L t e t' e' p q z = q

-- of a definition that was read
clause_ends : (ws : List Word) (c : Got Clause) → is table ws ≡ false → clauses_at ws ≡ good c → item_end (type_step 80 false) (term_step 80) ws ≡ good c.rest
clause_ends ws c z e = sym (clause_end_by (is table ws) (is type ws) (list_end (type_step 80 false) (length ws) (behind ws)) (clause_at type_body (behind ws)) (clause_at term_body ws) (clause_end (type_step 80 false) (behind ws)) (clause_end (term_step 80) ws) (type_clause_rest (behind ws)) (term_clause_rest ws) z) ∙ rest_good (clauses_at ws) c e

-- what was read does not end in a refusal
ends_good : (text : List ℕ) (b : ℕ) (m : Answer (List Word)) (us : List Word) (r : End) → Ends text b m r → m ≡ good us → IsOk r
ends_good text b m us (Ok end) E e = refl
ends_good text b m us (Err why) E e = absurd (refused≢good (sym E ∙ e))

suc_of : (k n : ℕ) → k < n → (m : ℕ) × (n ≡ suc m)
suc_of k zero h = absurd (omega arith)
suc_of k (suc m) h = (m, refl)

-- ---- the item at an offset

module _ (text : List ℕ) (at seen : ℕ) (v : Said) (s : Stands text at v) where
  abbrev here : List Word
  here = from text at

  module _ (X : Text) (ls : List Line) (I : ItemsLeft text X at seen ls) where
    pub items-few : seen ≤ length X.clauses
    items-few = omega (arith, (items_grow I.rounds I.done here (record { value = record { clauses = X.clauses; lines = X.lines }; rest = I.stop }) I.total).clauses, I.count)

    pub ends-none : v.code ≡ 0 → ls ≡ []
    ends-none z =
        let e = good-inj (sym (items_stop I.rounds I.done here (is_yes text at v s ends z)) ∙ I.total) in
        cancel I.done.lines ls [] (sym I.split ∙ sym (ap (λ (g : Got Items). g.value.lines) e) ∙ sym (append-nil I.done.lines))

    module _ (z : ¬ (v.code ≡ 0)) where
      onward : Onward text at v.end
      onward = s.onward z

      pub rounds-left : (m : ℕ) × (I.rounds ≡ suc m)
      rounds-left = suc_of (length (from text v.end)) I.rounds (omega (arith, onward.fewer, I.enough))

      round : Round rounds-left.0 I.done here (record { value = record { clauses = X.clauses; lines = X.lines }; rest = I.stop })
      round = round_at rounds-left.0 I.done here _ (sym (ap (λ (k : ℕ). items_from k I.done here) rounds-left.1) ∙ I.total)

      -- a line
      module _ (t : v.code ≡ 7) where
        pub read-line : (ts : Got (List TypeTree)) × ((types_line (length here) (behind here) ≡ good ts) × (items_from rounds-left.0 (with_lines I.done ts.value) ts.rest ≡ got (record { clauses = X.clauses; lines = X.lines }) I.stop))
        read-line = round.line (is_no text at v s ends z) (is_yes text at v s table t)

        pub line-there : LineThere text v.end read-line.0.value read-line.0.rest
        line-there = record { lexed = onward.lexed; rounds = length here; reads = ap (λ (us : List Word). types_line (length here) us) (sym onward.rest) ∙ read-line.1.0 }

        grown : ItemsGrow (with_lines I.done read-line.0.value) (record { clauses = X.clauses; lines = X.lines })
        grown = items_grow rounds-left.0 (with_lines I.done read-line.0.value) read-line.0.rest _ read-line.1.1

        lines_are : ls ≡ lines_of seen read-line.0.value ++ grown.more
        lines_are = cancel I.done.lines ls (lines_of seen read-line.0.value ++ grown.more) (sym I.split ∙ grown.lines ∙ append_assoc I.done.lines (lines_of (length I.done.clauses) read-line.0.value) grown.more ∙ ap (λ (k : ℕ). I.done.lines ++ (lines_of k read-line.0.value ++ grown.more)) I.count)

        pub line-refuses : (σ : State) (e : Refusal) → lines_table X σ (lines_of seen read-line.0.value) ≡ refused (said_why e) → lines_table X σ ls ≡ refused (said_why e)
        line-refuses σ e h = ap (λ (l : List Line). lines_table X σ l) lines_are ∙ table-stops X σ (lines_of seen read-line.0.value) grown.more e h

        pub line_on : (w' : List ℕ) (σ : State) (end known : ℕ) → LineMade text w' X seen σ read-line.0.value read-line.0.rest (length (from text v.end)) end known → ItemOn text w' X σ ls (length here) end known
        line_on w' σ end known M = record {
          next = M.next;
          others = grown.more;
          stands = M.stands;
          left = record {
            lexed = M.rest.lexed;
            done = with_lines I.done read-line.0.value;
            rounds = rounds-left.0;
            enough = omega (arith, M.fewer, onward.fewer, I.enough, rounds-left.1);
            stop = I.stop;
            total = ap (λ (us : List Word). items_from rounds-left.0 (with_lines I.done read-line.0.value) us) (sym M.rest.is) ∙ read-line.1.1;
            count = I.count ∙ sym M.same;
            split = grown.lines;
          };
          table = ap (λ (l : List Line). lines_table X σ l) lines_are ∙ table-both X σ (lines_of seen read-line.0.value) grown.more M.next M.table;
          fewer = omega (arith, M.fewer, onward.fewer);
        }

      -- a definition
      module _ (t : ¬ (v.code ≡ 7)) where
        read-clause : (c : Got Clause) × ((clauses_at here ≡ good c) × ((next : Items) × ((with_clause I.done c.value ≡ good next) × (items_from rounds-left.0 next c.rest ≡ got (record { clauses = X.clauses; lines = X.lines }) I.stop))))
        read-clause = round.clause (is_no text at v s ends z) (is_no text at v s table t)

        ends_at : item_end (type_step 80 false) (term_step 80) here ≡ good read-clause.0.rest
        ends_at = clause_ends here read-clause.0 (is_no text at v s table t) read-clause.1.0

        pub clause-good : (r : End) → Ends text (length here) (item_end (type_step 80 false) (term_step 80) here) r → IsOk r
        clause-good r E = ends_good text (length here) _ read-clause.0.rest r E ends_at

        next_is : read-clause.1.1.0 ≡ record { clauses = I.done.clauses ++ read-clause.0.value ∷ []; lines = I.done.lines }
        next_is = clause_more I.done read-clause.0.value read-clause.1.1.0 read-clause.1.1.1.0

        module _ (end : ℕ) (E : Reaches text (length here) (item_end (type_step 80 false) (term_step 80) here) end) where
          rest-is : read-clause.0.rest ≡ from text end
          rest-is = good-inj (sym ends_at ∙ E.is)

          pub clause-on : (w : List ℕ) (σ : State) → TextStands text w X σ → ItemOn text w X σ ls (length here) end (seen + 1)
          clause-on w σ S = record {
            next = σ;
            others = ls;
            stands = S;
            left = record {
              lexed = E.lexed;
              done = read-clause.1.1.0;
              rounds = rounds-left.0;
              enough = omega (arith, E.fewer, I.enough, rounds-left.1);
              stop = I.stop;
              total = ap (λ (us : List Word). items_from rounds-left.0 read-clause.1.1.0 us) (sym rest-is) ∙ read-clause.1.1.1.1;
              count = omega (arith, ap (λ (i : Items). length i.clauses) next_is, length-append I.done.clauses (read-clause.0.value ∷ []), I.count);
              split = I.split ∙ sym (ap (λ (i : Items). i.lines ++ ls) next_is);
            };
            table = refl;
            fewer = E.fewer;
          }

-- ---- the answers of `item`

module _ (text w : List ℕ) (at seen : ℕ) (q : CanItem text w at seen) (v : Said) (s : Stands text at v) where
  pub item_few : seen ≤ 256
  item_few = omega (arith, items-few text at seen v s q.X q.ls q.left, q.stands.clauses.rows.few)

  pub item_ends : v.code ≡ 0 → ItemSays text w at seen (Ok None) w
  item_ends z = record { kept = far_none w; says = λ X σ ls S I. (S, ends-none text at seen v s X ls I z) }

  module _ (z : ¬ (v.code ≡ 0)) where
    pub item_line : v.code ≡ 7 → CanLine text w v.end seen
    item_line t = record {
      X = q.X;
      σ = q.σ;
      ts = (read-line text at seen v s q.X q.ls q.left z t).0.value;
      us = (read-line text at seen v s q.X q.ls q.left z t).0.rest;
      stands = q.stands;
      few = items-few text at seen v s q.X q.ls q.left;
      there = line-there text at seen v s q.X q.ls q.left z t;
    }

    -- what `line` answers, for whatever text, state and lines
    says_line : (t : v.code ≡ 7) (r : Result Went Refusal) (w' : List ℕ) → LineSays text w v.end seen r w' → (X : Text) (σ : State) (ls : List Line) → TextStands text w X σ → (I : ItemsLeft text X at seen ls) → LineAs text w' X seen σ (read-line text at seen v s X ls I z t).0.value (read-line text at seen v s X ls I z t).0.rest (length (from text v.end)) r
    says_line t r w' L X σ ls S I = L.says X σ (read-line text at seen v s X ls I z t).0.value (read-line text at seen v s X ls I z t).0.rest S (items-few text at seen v s X ls I) (line-there text at seen v s X ls I z t)

    pub item-says : v.code ≡ 7 → (past : Went) (w' : List ℕ) → LineSays text w v.end seen (Ok past) w' → ItemSays text w at seen (Ok (Some past)) w'
    item-says t past w' L = record {
      kept = L.kept;
      says = λ X σ ls S I. line_on text at seen v s X ls I z t w' σ past.at past.seen (says_line t (Ok past) w' L X σ ls S I);
    }

    pub item_refused : v.code ≡ 7 → (e : Refusal) (w' : List ℕ) → LineSays text w v.end seen (Err e) w' → ItemSays text w at seen (Err e) w'
    item_refused t e w' L = record {
      kept = L.kept;
      says = λ X σ ls S I. line-refuses text at seen v s X ls I z t σ e (says_line t (Err e) w' L X σ ls S I);
    }

    module _ (t : ¬ (v.code ≡ 7)) (r : End) (E : Ends text (length (from text at)) (item_end (type_step 80 false) (term_step 80) (from text at)) r) where
      pub item_good : IsOk r
      item_good = clause-good text at seen v s q.X q.ls q.left z t r E

      pub item-clause : (end : ℕ) → r ≡ Ok end → ItemSays text w at seen (Ok (Some (record { at = end; seen = seen + 1 }))) w
      item-clause end e = record { kept = far_none w; says = λ X σ ls S I. clause-on text at seen v s X ls I z t end (subst (Ends text (length (from text at)) (item_end (type_step 80 false) (term_step 80) (from text at))) e E) w σ S }

-- ---- all items: the loop

pub record ItemsGoing (text w₀ : List ℕ) (start above : ℕ) (w : List ℕ) (at seen : ℕ) : Type 0 where
  pub kept : FarKept w₀ w
  pub goes : (X : Text) (σ : State) (ls : List Line) → TextStands text w₀ X σ → ItemsLeft text X start above ls → ItemOn text w X σ ls (length (from text start) + 1) at seen

pub items_first : (text w : List ℕ) (start above : ℕ) → ItemsGoing text w start above w start above
items_first text w start above = record { kept = far_none w; goes = λ X σ ls S I. record { next = σ; others = ls; stands = S; left = I; table = refl; fewer = omega arith } }

module _ (text w₀ : List ℕ) (start above : ℕ) (q : CanItem text w₀ start above) (w : List ℕ) (at seen : ℕ) (G : ItemsGoing text w₀ start above w at seen) where
  so_far : ItemOn text w q.X q.σ q.ls (length (from text start) + 1) at seen
  so_far = G.goes q.X q.σ q.ls q.stands q.left

  pub items_can : CanItem text w at seen
  items_can = record { X = q.X; σ = so_far.next; ls = so_far.others; stands = so_far.stands; left = so_far.left }

  pub items_refused : (e : Refusal) (w' : List ℕ) → ItemSays text w at seen (Err e) w' → LinesSay text w₀ start above (Err e) w'
  items_refused e w' T = record {
    kept = far_then w₀ w w' G.kept T.kept;
    says = λ X σ ls S I.
        let a = G.goes X σ ls S I in
        stage_refused text w' X e (lines_table X σ ls) (a.table ∙ T.says X a.next a.others a.stands a.left);
  }

  module _ (r : Option Went) (w' : List ℕ) (T : ItemSays text w at seen (Ok r) w') where
    pub items_kept : FarKept w₀ w'
    items_kept = far_then w₀ w w' G.kept T.kept

    as-item : (r' : Option Went) → r ≡ r' → (X : Text) (σ : State) (ls : List Line) → TextStands text w X σ → ItemsLeft text X at seen ls → ItemAs text w' X σ ls (length (from text at)) (Ok r')
    as-item r' e X σ ls S I = subst (λ (x : Option Went). ItemAs text w' X σ ls (length (from text at)) (Ok x)) e (T.says X σ ls S I)

    pub items_more : (past : Went) → r ≡ Some past → ItemsGoing text w₀ start above w' past.at past.seen
    items_more past e = record {
      kept = items_kept;
      goes = λ X σ ls S I.
          let a = G.goes X σ ls S I in
          let b = as-item (Some past) e X a.next a.others a.stands a.left in
          record { next = b.next; others = b.others; stands = b.stands; left = b.left; table = a.table ∙ b.table; fewer = omega (arith, a.fewer, b.fewer) };
    }

    pub items-less : (past : Went) → r ≡ Some past → length (from text past.at) < length (from text at)
    items-less past e = (as-item (Some past) e q.X so_far.next so_far.others so_far.stands so_far.left).fewer

    pub items_end : r ≡ None → LinesSay text w₀ start above (Ok tt) w'
    items_end e = record {
      kept = items_kept;
      says = λ X σ ls S I.
          let a = G.goes X σ ls S I in
          let (b, z) = as-item None e X a.next a.others a.stands a.left in
          stage_passed text w' X a.next (lines_table X σ ls) (a.table ∙ ap (λ (l : List Line). lines_table X a.next l) z) b;
    }
