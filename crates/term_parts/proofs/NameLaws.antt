-- Names read one by one: what the code finds is what the grammar reads. Assumes nothing.
use Prim.Native.Nat.{ℕ, zero, suc, ◌+◌, ◌-◌, ◌≤◌, ◌<◌}
use mathlib.Core.Path.{◌≡◌, refl, sym, ap, ◌∙◌, subst}
use mathlib.Core.Bool.{Bool, true, false, not, cond}
use mathlib.Core.List.{List, [], ◌∷◌}
use native.Mathlib.Omega.{arith}
use lib.ListN.{length, take, drop}
use Rattle.std.specs.Prelude.{IsOk, Result, Ok, Err}
use Rattle.answers.specs.declared.Refusal.{Refusal}
use Rattle.answers.specs.declared.Reason.{Reason}
use Rattle.answers.specs.Refusals.{said_why, refusal_at}
use Rattle.calculus.specs.Answer.{Refusal as Why, Answer, good, refused, refuse, ◌>>=◌}
use Rattle.calculus.proofs.Answers.{refused≢good}
use Rattle.notation_calculus.specs.Words.{comma, colon, Token, sign, part, number, name, Word, run}
use Rattle.notation_calculus.specs.Trees.{Bound}
use Rattle.notation_calculus.specs.Grammar.{Got, got, peek, behind, place, is, bound_name, name_at, list_from, names_from}
use Rattle.notation_machine.specs.Lists.{head_at}
use Rattle.words.specs.Tables.{token_code}
use Rattle.words.specs.Next.{Said, run_at}
use Rattle.words.specs.Lexed.{from, Lexed, Onward, Stands}
use Rattle.words.proofs.PlaceLaws.{name-plain}
use Rattle.clauses.specs.Groups.{value_in, rest_in_lem}
use Rattle.clauses.specs.Rows.{no_bound}
use Rattle.clauses.proofs.HeadLaws.{name-onward, name-some, place_inside}
use Rattle.walks.specs.Says.{bound_at}
use Rattle.term_parts.specs.declared.names.NameEnd.{NameEnd}
use Rattle.term_parts.specs.Names.{names_by, AllNames, spaced, NamesStand, ReadsName, NameSays, Further, HeadRead, HeadSays, NamesSay, TwoSay}

-- ---- one name

no_name : (ws : List Word) → ¬ (token_code (peek ws).token ≡ 24) → name_at ws ≡ refuse 32 (place ws)
no_name ws h = by (peek ws).token refl
  where
    by : (t : Token) → (peek ws).token ≡ t → (bound_name t (place ws) >>= λ n. got n (behind ws)) ≡ refuse 32 (place ws)
    by (sign t) e = refl
    by (part p) e = refl
    by (number n) e = refl
    by (name n) e = absurd (h (ap token_code e))

module _ (text : List ℕ) (at : ℕ) (w : Said) (s : Stands text at w) where
  pub name_there : w.code ≡ 24 → NameSays text at (Ok (record { place = w.place; end = w.end }))
  name_there z =
      let long : w.end - w.place ≡ run (drop w.place text) = omega (arith, s.whole z) in
      let reads : name_at (from text at) ≡ got (bound_at text w.place) (from text w.end) =
      ap (λ (t : Token). bound_name t (place (from text at)) >>= λ n. got n (behind (from text at))) (s.named z)
      ∙ ap (λ (k : ℕ). got (record { name = take k (drop w.place text); place = place (from text at) }) (behind (from text at))) long
      ∙ ap (λ (p : ℕ). got (record { name = run_at text w.place; place = p }) (behind (from text at))) (sym s.place)
      ∙ ap (λ (us : List Word). got (bound_at text w.place) us) (name-onward text at w s z).rest in
      record { reads = reads; plain = name-plain text w.place (name-some text at w s z); inside = place_inside text at w s z; onward = name-onward text at w s z }

  pub name_missing : ¬ (w.code ≡ 24) → NameSays text at (Err (refusal_at Reason.OtherWordDue w.place))
  name_missing h = no_name (from text at) (λ e. h (s.code ∙ e)) ∙ ap (refuse 32) (sym s.place)

-- ---- what a reader of names finds at an offset

pub record OneRead (one : List Word → Answer (Got Bound)) (text : List ℕ) (at : ℕ) (x : NameEnd) : Type 0 where
  pub reads : one (from text at) ≡ got (value_in no_bound (one (from text at))) (from text x.end)
  pub further : Further text at x.end

-- .. or a refusal
abbrev pub OneSays : (List Word → Answer (Got Bound)) → List ℕ → ℕ → Result NameEnd Refusal → Type 0
OneSays one text at (Ok x) = OneRead one text at x
OneSays one text at (Err e) = one (from text at) ≡ refused (said_why e)

value_read : (m : Answer (Got Bound)) (x : Bound) (us : List Word) → m ≡ got x us → m ≡ got (value_in no_bound m) us
value_read m x us e = e ∙ ap (λ (q : Answer (Got Bound)). got (value_in no_bound q) us) (sym e)

pub one_of_name : (text : List ℕ) (at : ℕ) (x : NameEnd) → ReadsName text at x → OneRead name_at text at x
one_of_name text at x N = let o = N.onward in record { reads = value_read (name_at (from text at)) _ _ N.reads; further = record { fewer = o.fewer; past = o.past; lexed = o.lexed } }

pub one_of_head : (text : List ℕ) (at : ℕ) (x : NameEnd) → HeadRead text at x → OneRead head_at text at x
one_of_head text at x H = record { reads = value_read (head_at (from text at)) _ _ H.reads; further = H.further }

-- where the grammar reads one, the code does
pub name_read : (text : List ℕ) (at : ℕ) (r : Result NameEnd Refusal) → NameSays text at r → (x : Bound) (us : List Word) → name_at (from text at) ≡ got x us → IsOk r
name_read text at (Ok y) N x us e = refl
name_read text at (Err why) N x us e = absurd (refused≢good (sym N ∙ e))

pub head_read : (text : List ℕ) (at : ℕ) (r : Result NameEnd Refusal) → HeadSays text at r → (x : Bound) (us : List Word) → head_at (from text at) ≡ got x us → IsOk r
head_read text at (Ok y) N x us e = refl
head_read text at (Err why) N x us e = absurd (refused≢good (sym N ∙ e))

-- ---- two names of a list

head_none : ¬ (head_at [] ≡ got (value_in no_bound (head_at [])) (rest_in_lem (head_at [])))
head_none e = refused≢good e

module _ (text : List ℕ) (at : ℕ) (S : NamesStand head_at behind text at 2) (x : NameEnd) (X : HeadRead text at x) where
  first_rest : rest_in_lem (head_at (from text at)) ≡ from text x.end
  first_rest = ap rest_in_lem X.reads

  module _ (c : Said) (s : Stands text x.end c) where
    pub comma-on : Onward text x.end c.end
    comma-on = s.onward (λ z. absurd (head_none (subst (λ (us : List Word). head_at us ≡ got (value_in no_bound (head_at us)) (rest_in_lem (head_at us))) (ap behind first_rest ∙ s.last z) S.all.1.0)))

    second_from : behind (rest_in_lem (head_at (from text at))) ≡ from text c.end
    second_from = ap behind first_rest ∙ comma-on.rest

    -- the second one is read too
    pub second-good : head_at (from text c.end) ≡ got (value_in no_bound (head_at (from text c.end))) (rest_in_lem (head_at (from text c.end)))
    second-good = subst (λ (us : List Word). head_at us ≡ got (value_in no_bound (head_at us)) (rest_in_lem (head_at us))) second_from S.all.1.0

    module _ (y : NameEnd) (Y : HeadRead text c.end y) where
      pub two-say : TwoSay text at (record { first = x.place; second = y.place; next = c.end })
      two-say = record {
        first = ap (value_in no_bound) X.reads;
        second = ap (value_in no_bound) Y.reads;
        rest = second_from;
        inside = X.inside;
        inside_too = Y.inside;
        lexed = comma-on.lexed;
      }

-- ---- names counted

-- what is left of the words behind a name that was read; one less than nothing where none was
abbrev pub left_names : List ℕ → Result NameEnd Refusal → ℕ
left_names text (Ok x) = length (from text x.end) + 1
left_names text (Err e) = 0

-- one name more leaves fewer words
pub names_less : (one : List Word → Answer (Got Bound)) (text : List ℕ) (x : Result NameEnd Refusal) (at : ℕ) (y : Result NameEnd Refusal) (n : NameEnd) → x ≡ Ok n → length (from text at) ≤ length (from text n.end) → OneSays one text at y → left_names text y < left_names text x
names_less one text x at (Ok m) n z h Y = rw z (omega (arith, Y.further.fewer))
names_less one text x at (Err e) n z h Y = rw z (omega arith)

bind-same : {A B : Type 0} (m : Answer A) (f g : A → Answer B) → ((x : A) → f x ≡ g x) → (m >>= f) ≡ (m >>= g)
bind-same (good x) f g e = e x
bind-same (refused why) f g e = refl

-- names that `read` reads, where each round reads one, `stops` says whether it is the last, and `next` goes on to the next one
module _
    (one : List Word → Answer (Got Bound)) (next : List Word → List Word) (read : ℕ → List Word → Answer (Got (List Bound))) (stops : List Word → Bool)
    (by_one : (n : ℕ) (ws : List Word) → read (suc n) ws ≡ (one ws >>= λ x. cond (stops x.rest) (got (x.value ∷ []) x.rest) (read n (next x.rest) >>= λ xs. got (x.value ∷ xs.value) xs.rest)))
    (text : List ℕ) where
  -- so many names were read up to an offset: what stands there decides
  pub record NamesGoing (at here count : ℕ) : Type 0 where
    pub low : count ≤ here
    pub lexed : Lexed text here
    pub reads : (j end : ℕ) → ((k : ℕ) → length (from text here) < k → read k (from text here) ≡ got (names_by one next j (from text here)) (from text end)) → (n : ℕ) → length (from text at) < n → read n (from text at) ≡ got (names_by one next (count + j) (from text at)) (from text end)
    pub all : (j : ℕ) → AllNames one next j (from text here) → AllNames one next (count + j) (from text at)
    pub refuses : (why : Why) → ((k : ℕ) → length (from text here) < k → read k (from text here) ≡ refused why) → (n : ℕ) → length (from text at) < n → read n (from text at) ≡ refused why
    pub start : Lexed text at

  pub going_none : (at : ℕ) → Lexed text at → NamesGoing at at 0
  going_none at l = record { low = omega arith; lexed = l; reads = λ j end h n b. h n b ∙ ap (λ (i : ℕ). got (names_by one next i (from text at)) (from text end)) (sym (none j)); all = λ j h. subst (λ (i : ℕ). AllNames one next i (from text at)) (sym (none j)) h; refuses = λ why h. h; start = l }
    where
      none : (j : ℕ) → 0 + j ≡ j
      none j = omega arith

  -- a round by what it finds
  round_is : (k : ℕ) (ws : List Word) → 0 < k → (m : Answer (Got Bound)) → one ws ≡ m → read k ws ≡ (m >>= λ x. cond (stops x.rest) (got (x.value ∷ []) x.rest) (read (k - 1) (next x.rest) >>= λ xs. got (x.value ∷ xs.value) xs.rest))
  round_is zero ws h m e = absurd (omega arith)
  round_is (suc k) ws h m e =
      let z : suc k - 1 ≡ k = omega arith in
      by_one k ws ∙ ap (λ (q : Answer (Got Bound)). q >>= λ x. cond (stops x.rest) (got (x.value ∷ []) x.rest) (read k (next x.rest) >>= λ xs. got (x.value ∷ xs.value) xs.rest)) e
      ∙ ap (λ (i : ℕ). m >>= λ x. cond (stops x.rest) (got (x.value ∷ []) x.rest) (read i (next x.rest) >>= λ xs. got (x.value ∷ xs.value) xs.rest)) (sym z)

  module _ (at here count : ℕ) (G : NamesGoing at here count) where
    abbrev ws : List Word
    ws = from text here

    pub going-refused : (e : Refusal) → one ws ≡ refused (said_why e) → NamesSay one next read text at (Err e)
    going-refused e h = G.refuses (said_why e) (λ k l. round_is k ws (omega arith) _ h)

    module _ (x : NameEnd) (X : OneRead one text here x) where
      abbrev end : ℕ
      end = x.end

      abbrev named : Bound
      named = value_in no_bound (one ws)

      pub going-low : count + 1 ≤ end
      going-low = omega (arith, G.low, X.further.past)

      pub going-inside : end ≤ length text
      going-inside = X.further.lexed.within

      round-here : (k : ℕ) → length ws < k → (b : Bool) → stops (from text end) ≡ b → read k ws ≡ cond b (got (named ∷ []) (from text end)) (read (k - 1) (next (from text end)) >>= λ xs. got (named ∷ xs.value) xs.rest)
      round-here k l b e = round_is k ws (omega arith) _ X.reads ∙ ap (λ (q : Bool). cond q (got (named ∷ []) (from text end)) (read (k - 1) (next (from text end)) >>= λ xs. got (named ∷ xs.value) xs.rest)) e

      -- the names from here on, by the others
      names-here : (j : ℕ) → names_by one next (suc j) ws ≡ named ∷ names_by one next j (next (from text end))
      names-here j = ap (λ (us : List Word). named ∷ names_by one next j (next us)) (ap rest_in_lem X.reads)

      all_here : (j : ℕ) → AllNames one next j (next (from text end)) → AllNames one next (suc j) ws
      all_here j a = subst (λ (m : Answer (Got Bound)). (m ≡ got (value_in no_bound m) (rest_in_lem m)) × AllNames one next j (next (rest_in_lem m))) (sym X.reads) (refl, a)

      pub going_done : stops (from text end) ≡ true → (n : ℕ) → n ≡ count + 1 → NamesSay one next read text at (Ok (record { count = n; end = end }))
      going_done e n f = record {
        reads = subst (λ (i : ℕ). (m : ℕ) → length (from text at) < m → read m (from text at) ≡ got (names_by one next i (from text at)) (from text end)) (sym f) (G.reads 1 end (λ k l. round-here k l true e ∙ ap (λ (xs : List Bound). got xs (from text end)) (sym (names-here 0))));
        stand = record { lexed = G.start; all = subst (λ (i : ℕ). AllNames one next i (from text at)) (sym f) (G.all 1 (all_here 0 tt)) };
        lexed = X.further.lexed;
        some = omega arith;
        few = omega (arith, going-low, going-inside);
      }

      -- .. goes on at another offset
      module _ (e : stops (from text end) ≡ false) (p : ℕ) (on : next (from text end) ≡ from text p) (fewer : length (from text p) ≤ length (from text end)) (low : end ≤ p) (lexed : Lexed text p) where
        round-on : (k : ℕ) → length ws < k → (m : Answer (Got (List Bound))) → read (k - 1) (from text p) ≡ m → read k ws ≡ (m >>= λ xs. got (named ∷ xs.value) xs.rest)
        round-on k l m h = round-here k l false e ∙ ap (λ (us : List Word). read (k - 1) us >>= λ xs. got (named ∷ xs.value) xs.rest) on ∙ ap (λ (q : Answer (Got (List Bound))). q >>= λ xs. got (named ∷ xs.value) xs.rest) h

        pub going_more : (n : ℕ) → n ≡ count + 1 → NamesGoing at p n
        going_more n f =
            let less = X.further.fewer in
            record {
              low = omega (arith, going-low);
              lexed = lexed;
              reads = λ j stop h. subst (λ (i : ℕ). (m : ℕ) → length (from text at) < m → read m (from text at) ≡ got (names_by one next i (from text at)) (from text stop)) (sym (moved j)) (G.reads (suc j) stop (λ k l. round-on k l _ (h (k - 1) (omega arith)) ∙ ap (λ (us : List Word). got (named ∷ names_by one next j us) (from text stop)) (sym on) ∙ ap (λ (xs : List Bound). got xs (from text stop)) (sym (names-here j))));
              all = λ j a. subst (λ (i : ℕ). AllNames one next i (from text at)) (sym (moved j)) (G.all (suc j) (all_here j (subst (AllNames one next j) (sym on) a)));
              refuses = λ why h. G.refuses why (λ k l. round-on k l _ (h (k - 1) (omega arith)));
              start = G.start;
            }
          where
            moved : (j : ℕ) → n + j ≡ count + suc j
            moved j = omega arith

-- ---- the two kinds of lists

pub spaced_by_one : (n : ℕ) (ws : List Word) → names_from (suc n) ws ≡ (name_at ws >>= λ x. cond (is colon x.rest) (got (x.value ∷ []) x.rest) (names_from n (spaced x.rest) >>= λ xs. got (x.value ∷ xs.value) xs.rest))
spaced_by_one n ws = refl

abbrev pub no_comma : List Word → Bool
no_comma ws = not (is comma ws)

pub listed_by_one : (n : ℕ) (ws : List Word) → list_from head_at (suc n) ws ≡ (head_at ws >>= λ x. cond (no_comma x.rest) (got (x.value ∷ []) x.rest) (list_from head_at n (behind x.rest) >>= λ xs. got (x.value ∷ xs.value) xs.rest))
listed_by_one n ws = bind-same (head_at ws) _ _ (λ x. turned (is comma x.rest) _ _)
  where
    turned : (b : Bool) (p q : Answer (Got (List Bound))) → cond b p q ≡ cond (not b) q p
    turned true p q = refl
    turned false p q = refl
