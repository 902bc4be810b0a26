-- Items one by one: a definition, a line, and the loop over them all. Assumes nothing.
use Prim.Native.Nat.{ℕ, zero, suc, ◌-◌, ◌≤◌, ◌<◌}
use mathlib.Core.Path.{◌≡◌, refl, sym, ap, ◌∙◌, subst}
use mathlib.Core.Bool.{Bool, true, false, not, ◌&&◌, cond}
use mathlib.Core.List.{List, [], ◌∷◌, ◌++◌}
use native.Mathlib.Omega.{arith}
use lib.Dec.{T, eqb, ltb}
use lib.ListN.{length}
use borrow.Author.Tests.{eq-eqb, ne_eqb}
use Rattle.calculus.specs.Answer.{Refusal, Answer, good, refused, ◌>>=◌, need}
use Rattle.calculus.proofs.Answers.{refused≢good, refused-inj, good-inj, on-bind}
use Rattle.laws.proofs.Tests.{and_both, not_true, false_not_T}
use Rattle.notation_calculus.specs.Words.{ends, table, type, Word}
use Rattle.notation_calculus.specs.Trees.{TypeTree, Clause}
use Rattle.notation_calculus.specs.Grammar.{most_nested, most_clauses, Got, got, behind, is, list_from, type_at, type_body, term_body, clause_at, Items, may_follow_all, with_clause, with_lines, items_from}
use Rattle.words.specs.Next.{Said}
use Rattle.words.specs.Lexed.{from, Lexed, Onward, Stands}
use Rattle.std.proofs.Common.{Result, Ok, Err, IsErrAnd}
use Rattle.answers.specs.declared.Reason.{Reason}
use Rattle.answers.specs.declared.Refusal.{Refusal as Why}
use Rattle.answers.specs.Refusals.{reason_number, refusal_at, said_why}
use Rattle.grammar.specs.Ends.{End, rest_of, type_step, term_step, Ends}
use Rattle.grammar.specs.Skips.{list_end, clause_end, item_end}
use Rattle.grammar.proofs.EndLaws.{is_yes, is_no, ends_as}
use Rattle.grammar.proofs.SkipLaws.{list_rest}
use Rattle.grammar.proofs.ItemLaws.{type_clause_rest, term_clause_rest}
use Rattle.clauses.specs.declared.rows.Row.{Row}
use Rattle.clauses.specs.Rows.{body_at, ClauseEnds, RowRead, ShortRow, HoldsRows}
use Rattle.clauses.specs.Cells.{CellsStored}
use Rattle.clauses.specs.Follows.{RowThere, RowsThere, RowAdded, with_row}
use Rattle.clauses.specs.Texts.{clause_item, line_item, item_of, OnlyRows, TableHeld, GrownTo, ReadsOn, Proceeds, ProceedsIn, SoFar, OnlyClauses, Defined, defines_by}
use Rattle.clauses.proofs.HeadLaws.{rest_back}
use Rattle.clauses.proofs.TableLaws.{row_there, short_row, rows_there, judged, with-row-kept, rows_more, kept-none, kept_then}

-- a refusal passed on
pub passed : {A : Type 0} {why : Why} (r : Result A Why) → IsErrAnd r (λ (x : Why). x ≡ why) → r ≡ Err why
passed {A} (Ok x) e = absurd e
passed {A} (Err x) e = ap {B = Result A Why} (λ (y : Why). Err y) e

-- a reader that leaves a refusal has refused
pub refused_back : {A : Type 0} (m : Answer (Got A)) (why : Refusal) → rest_of m ≡ refused why → m ≡ refused why
refused_back (good g) why e = absurd (refused≢good (sym e))
refused_back (refused why') why e = ap refused (refused-inj e)

-- ---- where a definition ends

module _ (text : List ℕ) (at : ℕ) (sort : Bool) (r : End) where
  pub clause_type : sort ≡ true → Ends text (length (from text at)) (clause_end (type_step 80 false) (from text at)) r → Ends text (length (from text at)) (rest_of (clause_at (body_at sort) (from text at))) r
  clause_type e d = ends_as text _ _ _ _ r (omega arith) (ap (λ (b : Bool). rest_of (clause_at (body_at b) (from text at))) e ∙ type_clause_rest (from text at)) d

  pub clause_term : sort ≡ false → Ends text (length (from text at)) (clause_end (term_step 80) (from text at)) r → Ends text (length (from text at)) (rest_of (clause_at (body_at sort) (from text at))) r
  clause_term e d = ends_as text _ _ _ _ r (omega arith) (ap (λ (b : Bool). rest_of (clause_at (body_at b) (from text at))) e ∙ term_clause_rest (from text at)) d

-- ---- a definition

module _ (text : List ℕ) (at : ℕ) (sort : Bool) (w : List ℕ) (l : Lexed text at) (T : TableHeld text w) where
  abbrev here : List Word
  here = from text at

  abbrev add_on : Items → Got Clause → Answer (Got Items)
  add_on items c = with_clause items c.value >>= λ next. got next c.rest

  pub definition_bad : (why : Why) → Ends text (length here) (rest_of (clause_at (body_at sort) here)) (Err why) → Proceeds text (length here) (clause_item sort here) w w (Err why)
  unfolding clause_item
  definition_bad why d = record {
    says = λ items H. ap (λ (m : Answer (Got Clause)). m >>= add_on items) (refused_back (clause_at (body_at sort) here) (said_why why) d);
    kept = kept-none w;
  }

  module _ (e : ℕ) (d : Ends text (length here) (rest_of (clause_at (body_at sort) here)) (Ok e)) where
    pub definition-ends : ClauseEnds text at sort e
    definition-ends = record { lexed = l; reads = d.is; past = d.lexed }

    module _ (r : Row) (R : RowRead text at sort e r) where
      pub definition-row : RowsThere text w × (RowThere text r × (ShortRow r × (length text ≤ 65535)))
      definition-row = (rows_there text w T.items.clauses T.holds T.room, (row_there text R.clause r R.row, (short_row text R.clause r R.row T.short, T.short)))

      item-is : (items : Items) → clause_item sort here items ≡ (with_clause items R.clause >>= λ next. got next (from text e))
      unfolding clause_item
      item-is items = ap (λ (m : Answer (Got Clause)). m >>= add_on items) R.is

      module _ (w' : List ℕ) where
        pub definition-refused : (reason : Reason) → RowAdded text w r w' (Err reason) → Proceeds text (length here) (clause_item sort here) w w' (Err (refusal_at reason r.name))
        definition-refused reason A = record {
          says = λ items H. item-is items ∙ ap (λ (m : Answer Items). m >>= λ next. got next (from text e)) ((judged text w items.clauses H R.clause r R.row items refl (reason_number reason) A.0).1 (λ y. absurd (omega (arith, y, A.1))));
          kept = subst (OnlyRows w) (sym A.2) (kept-none w);
        }

        module _ (A : RowAdded text w r w' (Ok tt)) where
          few-now : length T.items.clauses < most_clauses
          few-now = ((judged text w T.items.clauses T.holds R.clause r R.row T.items refl 0 A.0).0 refl).1

          grown-by : (items : Items) → HoldsRows text w items.clauses → GrownTo text (clause_item sort here items) w' e
          grown-by items H =
              let j = (judged text w items.clauses H R.clause r R.row items refl 0 A.0).0 refl in
              record {
                items = record { clauses = items.clauses ++ R.clause ∷ []; lines = items.lines };
                is = item-is items ∙ ap (λ (m : Answer Items). m >>= λ next. got next (from text e)) j.0;
                holds = rows_more w r (length items.clauses) H.counted j.1 T.room text w' (subst (λ (k : ℕ). CellsStored text (with_row w r) k r.numbered r.numbers w') H.counted A.1) items.clauses H refl R.clause R.row;
              }

          pub definition-grown : Proceeds text (length here) (clause_item sort here) w w' (Ok e)
          definition-grown = record {
            says = record { grows = grown-by; fewer = d.fewer; lexed = d.lexed };
            kept = with-row-kept w r (length T.items.clauses) T.holds.counted few-now T.room text w' (subst (λ (k : ℕ). CellsStored text (with_row w r) k r.numbered r.numbers w') T.holds.counted A.1);
          }

-- ---- an item by its first word

pub proceeds_as : (text : List ℕ) (b b' : ℕ) (m m' : Items → Answer (Got Items)) (w w' : List ℕ) (r : End) → b ≤ b' → ((items : Items) → m' items ≡ m items) → Proceeds text b m w w' r → Proceeds text b' m' w w' r
proceeds_as text b b' m m' w w' r h e p = record { says = by r p.says; kept = p.kept }
  where
    by : (r : End) → ReadsOn text b m w w' r → ReadsOn text b' m' w w' r
    by (Ok end) g = record {
      grows = λ items H. let x = g.grows items H in record { items = x.items; is = e items ∙ x.is; holds = x.holds };
      fewer = omega (arith, g.fewer);
      lexed = g.lexed;
    }
    by (Err why) g = λ items H. e items ∙ g items H

module _ (text : List ℕ) (at : ℕ) (v : Said) (s : Stands text at v) (w w' : List ℕ) (r : End) where
  abbrev now : List Word
  now = from text at

  abbrev item_by : Bool → Bool → Items → Answer (Got Items)
  item_by a b items = cond a (line_item now items) (cond b (clause_item true (behind now) items) (clause_item false now items))

  by_word : (a b : Bool) → is table now ≡ a → is type now ≡ b → (items : Items) → item_of now items ≡ item_by a b items
  unfolding item_of
  by_word a b e f items = ap (λ (x : Bool). item_by x (is type now) items) e ∙ ap (λ (x : Bool). item_by a x items) f

  pub type_onward : v.code ≡ 5 → Onward text at v.end
  type_onward e = s.onward (λ z. omega arith)

  pub item_type : ¬ (v.code ≡ 7) → (e : v.code ≡ 5) → Proceeds text (length (from text v.end)) (clause_item true (from text v.end)) w w' r → Proceeds text (length now) (item_of now) w w' r
  item_type a e p = proceeds_as text _ _ _ _ w w' r (omega (arith, (type_onward e).fewer)) (λ items. by_word false true (is_no text at v s table a) (is_yes text at v s type e) items ∙ ap (λ (us : List Word). clause_item true us items) (type_onward e).rest) p

  pub item_term : ¬ (v.code ≡ 7) → ¬ (v.code ≡ 5) → Proceeds text (length now) (clause_item false now) w w' r → Proceeds text (length now) (item_of now) w w' r
  item_term a e p = proceeds_as text _ _ _ _ w w' r (omega arith) (λ items. by_word false false (is_no text at v s table a) (is_no text at v s type e) items) p

abbrev line_on : Items → Got (List TypeTree) → Answer (Got Items)
line_on items ts = got (with_lines items ts.value) ts.rest

-- a line of types, whatever reads a type
line_proceeds : (text : List ℕ) (b : ℕ) (l : Answer (Got (List TypeTree))) (m : Items → Answer (Got Items)) (w : List ℕ) (r : End) → Ends text b (rest_of l) r → ((items : Items) → m items ≡ (l >>= line_on items)) → Proceeds text b m w w r
line_proceeds text b l m w r d e = record { says = by r d; kept = kept-none w }
  where
    by : (r : End) → Ends text b (rest_of l) r → ReadsOn text b m w w r
    by (Ok end) d = record {
      grows = λ items H. rest_back l _ d.is λ g h f. record {
        items = with_lines items g.value;
        is = e items ∙ ap (λ (x : Answer (Got (List TypeTree))). x >>= line_on items) h ∙ ap (λ (us : List Word). got (with_lines items g.value) us) f;
        holds = H;
      };
      fewer = d.fewer;
      lexed = d.lexed;
    }
    by (Err why) d = λ items H. e items ∙ ap (λ (x : Answer (Got (List TypeTree))). x >>= line_on items) (refused_back l (said_why why) d)

module _ (text : List ℕ) (at : ℕ) (v : Said) (s : Stands text at v) (w : List ℕ) (r : End) where
  abbrev line : List Word
  line = from text at

  line-is : v.code ≡ 7 → (items : Items) → item_of line items ≡ (list_from (λ us. type_at most_nested false us) (length line) (behind line) >>= line_on items)
  unfolding line_item
  line-is e items = by_word text at v s w w r true (is type line) (is_yes text at v s table e) refl items

  line-ends : v.code ≡ 7 → rest_of (list_from (λ us. type_at most_nested false us) (length line) (behind line)) ≡ item_end (type_step 80 false) (term_step 80) line
  line-ends e = list_rest (λ us. type_at most_nested false us) (type_step most_nested false) (λ us. refl) (length line) (behind line) ∙ sym (ap (λ (a : Bool). cond a (list_end (type_step 80 false) (length line) (behind line)) (cond (is type line) (clause_end (type_step 80 false) (behind line)) (clause_end (term_step 80) line))) (is_yes text at v s table e))

  pub item_line : v.code ≡ 7 → Ends text (length line) (item_end (type_step 80 false) (term_step 80) line) r → Proceeds text (length line) (item_of line) w w r
  item_line e d = line_proceeds text (length line) (list_from (λ us. type_at most_nested false us) (length line) (behind line)) (item_of line) w r (ends_as text _ _ _ _ r (omega arith) (line-ends e) d) (line-is e)

-- ---- all items

-- one round, over any readers
round_by : (f : Items → List Word → Answer (Got Items)) (items : Items) (a b : Bool) (l : Answer (Got (List TypeTree))) (t e : Answer (Got Clause)) → cond a (l >>= λ ts. f (with_lines items ts.value) ts.rest) (cond b t e >>= λ c. with_clause items c.value >>= λ next. f next c.rest) ≡ (cond a (l >>= λ ts. got (with_lines items ts.value) ts.rest) (cond b (t >>= λ c. with_clause items c.value >>= λ next. got next c.rest) (e >>= λ c. with_clause items c.value >>= λ next. got next c.rest)) >>= λ g. f g.value g.rest)
round_by f items true b (good ts) t e = refl
round_by f items true b (refused why) t e = refl
round_by f items false true l t e = one t
  where
    two : (m : Answer Items) (us : List Word) → (m >>= λ next. f next us) ≡ ((m >>= λ next. got next us) >>= λ g. f g.value g.rest)
    two (good next) us = refl
    two (refused why) us = refl

    one : (t : Answer (Got Clause)) → (t >>= λ c. with_clause items c.value >>= λ next. f next c.rest) ≡ ((t >>= λ c. with_clause items c.value >>= λ next. got next c.rest) >>= λ g. f g.value g.rest)
    one (good c) = two (with_clause items c.value) c.rest
    one (refused why) = refl
round_by f items false false l t e = one e
  where
    two : (m : Answer Items) (us : List Word) → (m >>= λ next. f next us) ≡ ((m >>= λ next. got next us) >>= λ g. f g.value g.rest)
    two (good next) us = refl
    two (refused why) us = refl

    one : (t : Answer (Got Clause)) → (t >>= λ c. with_clause items c.value >>= λ next. f next c.rest) ≡ ((t >>= λ c. with_clause items c.value >>= λ next. got next c.rest) >>= λ g. f g.value g.rest)
    one (good c) = two (with_clause items c.value) c.rest
    one (refused why) = refl

round_is : (n : ℕ) (items : Items) (ws : List Word) → is ends ws ≡ false → items_from (suc n) items ws ≡ (item_of ws items >>= λ g. items_from n g.value g.rest)
unfolding item_of line_item clause_item
round_is n items ws e = ap (λ (b : Bool). cond b (got items ws) (cond (is table ws) (list_from (λ us. type_at most_nested false us) (length ws) (behind ws) >>= λ ts. items_from n (with_lines items ts.value) ts.rest) (cond (is type ws) (clause_at type_body (behind ws)) (clause_at term_body ws) >>= λ c. with_clause items c.value >>= λ next. items_from n next c.rest))) e ∙ round_by (items_from n) items (is table ws) (is type ws) (list_from (λ us. type_at most_nested false us) (length ws) (behind ws)) (clause_at type_body (behind ws)) (clause_at term_body ws)

items_round : (n : ℕ) (items : Items) (ws : List Word) → is ends ws ≡ false → 0 < n → items_from n items ws ≡ (item_of ws items >>= λ g. items_from (n - 1) g.value g.rest)
items_round zero items ws e h = absurd (omega arith)
items_round (suc n) items ws e h = let q : suc n - 1 ≡ n = omega arith in round_is n items ws e ∙ ap (λ (k : ℕ). item_of ws items >>= λ g. items_from k g.value g.rest) (sym q)

items_end : (n : ℕ) (items : Items) (ws : List Word) → is ends ws ≡ true → items_from n items ws ≡ got items ws
items_end zero items ws e = refl
items_end (suc n) items ws e = ap (λ (b : Bool). cond b (got items ws) (cond (is table ws) (list_from (λ us. type_at most_nested false us) (length ws) (behind ws) >>= λ ts. items_from n (with_lines items ts.value) ts.rest) (cond (is type ws) (clause_at type_body (behind ws)) (clause_at term_body ws) >>= λ c. with_clause items c.value >>= λ next. items_from n next c.rest))) e

pub record ReadingItems (text : List ℕ) (w₀ : List ℕ) (start : ℕ) (w : List ℕ) (at : ℕ) (v : Said) : Type 0 where
  pub so_far : (n : ℕ) → length (from text start) ≤ n → (items : Items) → HoldsRows text w₀ items.clauses → SoFar text n items start w at
  pub low : length (from text at) ≤ length (from text start)
  pub lexed : Lexed text at
  pub stands : Stands text at v
  pub kept : OnlyRows w₀ w

pub reading-first : (text w : List ℕ) (start : ℕ) (v : Said) → Lexed text start → Stands text start v → ReadingItems text w start w start v
reading-first text w start v l s = record {
  so_far = λ n h items H. record { done = items; rounds = n; total = refl; enough = h; holds = H };
  low = omega arith;
  lexed = l;
  stands = s;
  kept = kept-none w;
}

module _ (text w₀ : List ℕ) (start : ℕ) (T : TableHeld text w₀) (w : List ℕ) (at : ℕ) (v : Said) (i : ReadingItems text w₀ start w at v) where
  pub reading-held : TableHeld text w
  reading-held =
      let s = i.so_far (length (from text start)) (omega arith) T.items T.holds in
      record { short = T.short; room = omega (arith, T.room, i.kept.same); items = s.done; holds = s.holds }

  pub reading-done : v.code ≡ 0 → ProceedsIn text start w₀ w (Ok at)
  reading-done z = λ n h. record {
    says = record {
      grows = λ items H. let s = i.so_far n h items H in record { items = s.done; is = s.total ∙ items_end s.rounds s.done (from text at) (is_yes text at v i.stands ends z); holds = s.holds };
      fewer = omega (arith, i.low);
      lexed = i.lexed;
    };
    kept = i.kept;
  }

  module _ (z : ¬ (v.code ≡ 0)) (w' : List ℕ) where
    some : 0 < length (from text at)
    some = omega (arith, (i.stands.onward z).fewer)

    round-on : (n : ℕ) (items : Items) → (s : SoFar text n items start w at) → items_from n items (from text start) ≡ (item_of (from text at) s.done >>= λ g. items_from (s.rounds - 1) g.value g.rest)
    round-on n items s = s.total ∙ items_round s.rounds s.done (from text at) (is_no text at v i.stands ends z) (omega (arith, some, s.enough))

    pub reading-bad : (why : Why) → Proceeds text (length (from text at)) (item_of (from text at)) w w' (Err why) → ProceedsIn text start w₀ w' (Err why)
    reading-bad why p = λ n h. record {
      says = λ items H. let s = i.so_far n h items H in round-on n items s ∙ ap (λ (m : Answer (Got Items)). m >>= λ g. items_from (s.rounds - 1) g.value g.rest) (p.says s.done s.holds);
      kept = kept_then w₀ w w' i.kept p.kept;
    }

    pub reading-more : (e : ℕ) → Proceeds text (length (from text at)) (item_of (from text at)) w w' (Ok e) → (v' : Said) → Stands text e v' → ReadingItems text w₀ start w' e v'
    reading-more e p v' t = record {
      so_far = λ n h items H.
          let s = i.so_far n h items H in
          let g = p.says.grows s.done s.holds in
          record {
            done = g.items;
            rounds = s.rounds - 1;
            total = round-on n items s ∙ ap (λ (m : Answer (Got Items)). m >>= λ x. items_from (s.rounds - 1) x.value x.rest) g.is;
            enough = omega (arith, p.says.fewer, s.enough);
            holds = g.holds;
          };
      low = omega (arith, p.says.fewer, i.low);
      lexed = p.says.lexed;
      stands = t;
      kept = kept_then w₀ w w' i.kept p.kept;
    }

-- ---- definitions alone

added_is : (a b : Bool) (at : ℕ) (made next : Items) → (need a 34 at >>= λ _. need b 36 at >>= λ _. good made) ≡ good next → next ≡ made
added_is true true at made next e = sym (good-inj e)
added_is true false at made next e = absurd (refused≢good e)
added_is false b at made next e = absurd (refused≢good e)

clause_lines : (sort : Bool) (ws : List Word) (items : Items) (g : Got Items) → clause_item sort ws items ≡ good g → g.value.lines ≡ items.lines
unfolding clause_item
clause_lines sort ws items g e =
    on-bind (clause_at (body_at sort) ws) _ g e λ c hc e₁.
    on-bind (with_clause items c.value) _ g e₁ λ next hn e₂.
    ap (λ (x : Got Items). x.value.lines) (sym (good-inj e₂)) ∙ ap (λ (x : Items). x.lines) (added_is (ltb (length items.clauses) most_clauses) (may_follow_all items.clauses c.value) c.value.head.place (record { clauses = items.clauses ++ c.value ∷ []; lines = items.lines }) next hn)

item_lines : (ws : List Word) (items : Items) (g : Got Items) → is table ws ≡ false → item_of ws items ≡ good g → g.value.lines ≡ items.lines
unfolding item_of
item_lines ws items g e h = by (is type ws) (sym (ap (λ (b : Bool). cond b (line_item ws items) (cond (is type ws) (clause_item true (behind ws) items) (clause_item false ws items))) e) ∙ h)
  where
    by : (b : Bool) → cond b (clause_item true (behind ws) items) (clause_item false ws items) ≡ good g → g.value.lines ≡ items.lines
    by true q = clause_lines true (behind ws) items g q
    by false q = clause_lines false ws items g q

pub defines_yes : (code : ℕ) → defines_by code ≡ true → ¬ (code ≡ 0) × ¬ (code ≡ 7)
unfolding defines_by
defines_yes code h =
    let (p, q) = and_both (not (eqb code 0)) (not (eqb code 7)) (subst (λ (b : Bool). T b) (sym h) tt) in
    ((λ e. false_not_T (eqb code 0) (not_true (eqb code 0) p) (subst (λ (b : Bool). T b) (sym (eq-eqb code 0 e)) tt)), (λ e. false_not_T (eqb code 7) (not_true (eqb code 7) q) (subst (λ (b : Bool). T b) (sym (eq-eqb code 7 e)) tt)))

pub defines_end : (code : ℕ) → code ≡ 0 → false ≡ defines_by code
unfolding defines_by
defines_end code e = sym (ap (λ (b : Bool). not b && not (eqb code 7)) (eq-eqb code 0 e))

pub defines_other : (code : ℕ) → ¬ (code ≡ 0) → not (eqb code 7) ≡ defines_by code
unfolding defines_by
defines_other code e = sym (ap (λ (b : Bool). not b && not (eqb code 7)) (ne_eqb code 0 e))

-- the loop over definitions: as over items, and no line is among them
pub record ReadingDefinitions (text : List ℕ) (w₀ : List ℕ) (start : ℕ) (w : List ℕ) (at : ℕ) (v : Said) : Type 0 where
  pub so_far : (n : ℕ) → length (from text start) ≤ n → (items : Items) → HoldsRows text w₀ items.clauses → OnlyClauses text n items start w at
  pub low : length (from text at) ≤ length (from text start)
  pub lexed : Lexed text at
  pub stands : Stands text at v
  pub kept : OnlyRows w₀ w

pub defining_first : (text w : List ℕ) (start : ℕ) (v : Said) → Lexed text start → Stands text start v → ReadingDefinitions text w start w start v
defining_first text w start v l s = record {
  so_far = λ n h items H. record { so_far = record { done = items; rounds = n; total = refl; enough = h; holds = H }; lines = refl };
  low = omega arith;
  lexed = l;
  stands = s;
  kept = kept-none w;
}

module _ (text w₀ : List ℕ) (start : ℕ) (T : TableHeld text w₀) (w : List ℕ) (at : ℕ) (v : Said) (i : ReadingDefinitions text w₀ start w at v) where
  as_items : ReadingItems text w₀ start w at v
  as_items = record { so_far = λ n h items H. (i.so_far n h items H).so_far; low = i.low; lexed = i.lexed; stands = i.stands; kept = i.kept }

  pub defining_held : TableHeld text w
  defining_held = reading-held text w₀ start T w at v as_items

  pub defining_done : Defined text start w₀ w (Ok at)
  defining_done = record { says = record { reaches = i.so_far; low = i.low; lexed = i.lexed }; kept = i.kept }

  module _ (d : defines_by v.code ≡ true) (w' : List ℕ) where
    pub defining-bad : (why : Why) → Proceeds text (length (from text at)) (item_of (from text at)) w w' (Err why) → Defined text start w₀ w' (Err why)
    defining-bad why p =
        let bad = reading-bad text w₀ start T w at v as_items (defines_yes v.code d).0 w' why p in
        record { says = λ n h items H. (bad n h).says items H; kept = (bad (length (from text start)) (omega arith)).kept }

    pub defining-more : (e : ℕ) → Proceeds text (length (from text at)) (item_of (from text at)) w w' (Ok e) → (v' : Said) → Stands text e v' → ReadingDefinitions text w₀ start w' e v'
    defining-more e p v' t = record {
      so_far = λ n h items H.
          let o = i.so_far n h items H in
          let s = o.so_far in
          let g = p.says.grows s.done s.holds in
          record {
            so_far = record {
              done = g.items;
              rounds = s.rounds - 1;
              total = round-on text w₀ start T w at v as_items (defines_yes v.code d).0 w' n items s ∙ ap (λ (m : Answer (Got Items)). m >>= λ x. items_from (s.rounds - 1) x.value x.rest) g.is;
              enough = omega (arith, p.says.fewer, s.enough);
              holds = g.holds;
            };
            lines = item_lines (from text at) s.done _ (is_no text at v i.stands table (defines_yes v.code d).1) g.is ∙ o.lines;
          };
      low = omega (arith, p.says.fewer, i.low);
      lexed = p.says.lexed;
      stands = t;
      kept = kept_then w₀ w w' i.kept p.kept;
    }
