-- The sheet of a text in the memory, written; the call. Assumes nothing.
use Prim.Native.Nat.{ℕ, ◌≤◌, ◌<◌}
use mathlib.Core.Path.{◌≡◌, refl, sym, ap, ◌∙◌, subst}
use mathlib.Core.Bool.{Bool, true, false}
use mathlib.Core.List.{List, ◌++◌}
use native.Mathlib.Omega.{arith}
use borrow.Author.Tests.{le-leb, lt-leb}
use lib.Dec.{eqb, leb}
use lib.ListN.{length, get_or}
use Rattle.std.proofs.Common.{Result, Ok, Err}
use Rattle.answers.specs.declared.Reason.{Reason}
use Rattle.answers.specs.declared.Refusal.{Refusal}
use Rattle.answers.specs.Refusals.{refusal_at, said_why}
use Rattle.calculus.specs.Answer.{Answer, good, refused, ◌>>=◌, need}
use Rattle.calculus.specs.Terms.{is_second}
use Rattle.calculus.specs.Translate.{work_of}
use Rattle.notation_calculus.specs.Words.{Word, words}
use Rattle.notation_calculus.specs.Trees.{Line, Text}
use Rattle.notation_calculus.specs.Grammar.{text_of}
use Rattle.notation_calculus.specs.Making.{Made}
use Rattle.notation_calculus.specs.Make.{main_of, Placed, sheet_of, make, bytes_of, Written, make_answer, said_make, out_make, places_make, make_call}
use Rattle.words.specs.Lexed.{lexed, from, Lexed, Passed}
use Rattle.making_memory.specs.Map.{second_at_lem, making_size}
use Rattle.made_nodes.specs.declared.Sub.{Sub}
use Rattle.clauses.specs.declared.texts.Whole.{Whole}
use Rattle.clauses.specs.Rows.{flag_of}
use Rattle.clauses.specs.Texts.{TextHeld, TextRead}
use Rattle.sheet_writer.specs.Wrote.{SheetStands, sheet_answer, said_wrote, SheetWrote}
use Rattle.sheet_writer.proofs.MadeBytes.{made-stands}
use Rattle.translator.specs.Said.{said_answer}
use Rattle.translator.proofs.Keeping.{above_keeps}
use Rattle.maker.specs.Stages.{FarKept}
use Rattle.maker.specs.Made.{TextTerm, TextThere, CanText, TextMade, SheetHeld, SheetAnswers, SheetMade, MakeWrites, SheetLeft, RunLeft, called_make}
use Rattle.maker.proofs.StageLaws.{far_none, far_then}
use Rattle.maker.proofs.LineLaws.{bind_good, bind_refused}

-- ---- what was read and made

flag_is : (n : ℕ) (b : Bool) → n ≡ flag_of b → eqb n 1 ≡ b
flag_is n true e = ap (λ (k : ℕ). eqb k 1) e
flag_is n false e = ap (λ (k : ℕ). eqb k 1) e

sheet_of-is : (X : Text) → sheet_of X ≡ (main_of X >>= λ m. good (record { sheet = record { edition = X.edition; table = m.state.table; term = m.term }; places = m.places }))
unfolding sheet_of
sheet_of-is X = refl

sheet_by : (text w : List ℕ) (X : Text) (m : Answer Made) (t : Result Sub Refusal) → TextTerm text w X t m → SheetAnswers w t (m >>= λ m. good (record { sheet = record { edition = X.edition; table = m.state.table; term = m.term }; places = m.places }))
sheet_by text w X (good m) (Ok s) a = record { types = a.0.state.types; edition = flag_is (get_or w second_at_lem 0) (is_second X.edition) a.0.clauses.edition; term = a.1.term; few = a.1.few }
sheet_by text w X (good m) (Err e) a = a
sheet_by text w X (refused why) (Ok s) a = a
sheet_by text w X (refused why) (Err e) a = a

sheet_of_lem : (text w : List ℕ) (X : Text) (t : Result Sub Refusal) → TextTerm text w X t (main_of X) → SheetAnswers w t (sheet_of X)
sheet_of_lem text w X t a = subst (SheetAnswers w t) (sym (sheet_of-is X)) (sheet_by text w X (main_of X) t a)

-- ---- 30, then the words, then the clauses

abbrev behind_words : List Word → Answer Placed
behind_words ws = text_of ws >>= λ X. sheet_of X

make-is : (text : List ℕ) → make text ≡ (need (leb (length text) 65535) 30 0 >>= λ _. words text >>= λ ws. behind_words ws)
unfolding make
make-is text = refl

sheet_refused : (w : List ℕ) (e : Refusal) (m : Answer Placed) → m ≡ refused (said_why e) → SheetAnswers w (Err e) m
sheet_refused w e m h = subst (SheetAnswers w (Err e)) (sym h) refl

pub made-long : (text w : List ℕ) → 65535 < length text → SheetMade text w (Err (refusal_at Reason.LongText 0)) w
made-long text w h = record { kept = far_none w; says = sheet_refused w (refusal_at Reason.LongText 0) (make text) (make-is text ∙ ap (λ (b : Bool). need b 30 0 >>= λ _. words text >>= λ ws. behind_words ws) (lt-leb (length text) 65535 h)) }

module _ (text w : List ℕ) (h : length text ≤ 65535) where
  make-short : make text ≡ (words text >>= λ ws. behind_words ws)
  make-short = make-is text ∙ ap (λ (b : Bool). need b 30 0 >>= λ _. words text >>= λ ws. behind_words ws) (le-leb (length text) 65535 h)

  pub made-words : (e : Refusal) → Passed text (Err e) → SheetMade text w (Err e) w
  made-words e c = record { kept = far_none w; says = sheet_refused w e (make text) (make-short ∙ bind_refused (words text) (λ ws. behind_words ws) e c) }

  module _ (lexes : Lexed text 0) where
    words_are : words text ≡ good (from text 0)
    unfolding words lexed
    words_are = lexes.words

    make-read : make text ≡ behind_words (from text 0)
    make-read = make-short ∙ bind_good (words text) (λ ws. behind_words ws) (from text 0) words_are

    module _ (w₁ : List ℕ) where
      read-far : {r : Result Whole Refusal} → TextRead text w w₁ r → FarKept w w₁
      read-far T = record { same = T.kept.same; far = λ j g. T.kept.above j (omega arith) (λ q. omega arith) (λ q. omega arith) }

      pub made-clauses : (e : Refusal) → TextRead text w w₁ (Err e) → SheetMade text w (Err e) w₁
      made-clauses e T = record { kept = read-far T; says = sheet_refused w₁ e (make text) (make-read ∙ bind_refused (text_of (from text 0)) (λ X. sheet_of X) e T.says) }

      module _ (q : Whole) (T : TextRead text w w₁ (Ok q)) (room : making_size ≤ length w) where
        abbrev held : TextHeld text w₁ q
        held = T.says

        pub made-there : TextThere text w₁ q.items q.seen q.place held.X
        made-there = record {
          short = h;
          room = omega (arith, room, T.kept.same);
          clauses = held.holds;
          left = record {
            lexed = held.items_lexed;
            done = held.done;
            rounds = held.rounds;
            enough = held.enough;
            stop = from text held.stop;
            total = held.items;
            count = held.count;
            split = sym (ap (λ (ls : List Line). ls ++ held.X.lines) held.lines);
          };
          ends = held.end;
        }

        pub made-can : CanText text w₁ q.items q.seen q.place
        made-can = record { X = held.X; there = made-there }

        make-sheet : make text ≡ sheet_of held.X
        make-sheet = make-read ∙ bind_good (text_of (from text 0)) (λ X. sheet_of X) held.X held.is

        pub made-text : (t : Result Sub Refusal) (w₂ : List ℕ) → TextMade text w₁ q.items q.seen q.place t w₂ → SheetMade text w t w₂
        made-text t w₂ M = record { kept = far_then w w₁ w₂ (read-far T) M.kept; says = subst (SheetAnswers w₂ t) (sym make-sheet) (sheet_of_lem text w₂ held.X t (M.says held.X made-there)) }

-- ---- the sheet written

said_same : (r : Result ℕ Refusal) → said_answer r ≡ said_wrote r
said_same (Ok n) = refl
said_same (Err e) = refl

pub wrote-left : (w : List ℕ) (root : ℕ) (out places : List ℕ) (r : Result ℕ Refusal) (out' places' : List ℕ) → SheetWrote w root out places r out' places' → SheetLeft w root out places r out' places'
wrote-left w root out places r out' places' W = record {
  says = λ E Θ t ps i H T.
      let l = W.says E Θ t ps i H T in
      record { said = said_same r ∙ l.said; left = l.left; left_places = l.left_places };
}

-- ---- the call before it clears

abbrev written_of : ℕ → ℕ → Placed → Answer Written
written_of room roomPlaces m = need (leb (length (bytes_of m.sheet)) room) 17 (length (bytes_of m.sheet)) >>= λ _. need (leb (length m.places) roomPlaces) 37 (length m.places) >>= λ _. good (record { bytes = bytes_of m.sheet; places = m.places })

answer-is : (memory : ℕ) (text : List ℕ) (room roomPlaces : ℕ) → make_answer memory text room roomPlaces ≡ (need (leb 32768 memory) 1 0 >>= λ _. make text >>= λ m. written_of room roomPlaces m)
unfolding make_answer
answer-is memory text room roomPlaces = refl

sheet-written : (room roomPlaces : ℕ) (p : Placed) → written_of room roomPlaces p ≡ sheet_answer p.sheet.edition p.sheet.table p.sheet.term p.places room roomPlaces
unfolding sheet_answer
sheet-written room roomPlaces p = refl

writes_refused : (a : Answer Written) (out places : List ℕ) (e : Refusal) → a ≡ refused (said_why e) → MakeWrites a out places (Err e) out places
writes_refused a out places e h = subst (λ (q : Answer Written). MakeWrites q out places (Err e) out places) (sym h) (record { said = refl; left = refl; left_places = refl })

module _ (text out places w : List ℕ) where
  abbrev whole : Answer Written
  whole = make_answer (length w) text (length out) (length places)

  pub run_small : length w < 32768 → RunLeft text out places w (Err (refusal_at Reason.LittleMemory 0)) out places w
  run_small h = record { writes = writes_refused whole out places (refusal_at Reason.LittleMemory 0) (answer-is (length w) text (length out) (length places) ∙ ap (λ (b : Bool). need b 1 0 >>= λ _. make text >>= λ m. written_of (length out) (length places) m) (lt-leb 32768 (length w) h)); keeps = refl }

  module _ (h : 32768 ≤ length w) (w₁ : List ℕ) where
    whole_is : whole ≡ (make text >>= λ m. written_of (length out) (length places) m)
    whole_is = answer-is (length w) text (length out) (length places) ∙ ap (λ (b : Bool). need b 1 0 >>= λ _. make text >>= λ m. written_of (length out) (length places) m) (le-leb 32768 (length w) h)

    run-keeps : {t : Result Sub Refusal} → SheetMade text w t w₁ → work_of w₁ ≡ work_of w
    run-keeps S = above_keeps w w₁ h S.kept.same S.kept.far

    made-not : (z : Refusal) → (m : Answer Placed) → SheetAnswers w₁ (Err z) m → m ≡ refused (said_why z)
    made-not z (good m) a = absurd a
    made-not z (refused why) a = ap refused a

    pub run-refused : (e : Refusal) → SheetMade text w (Err e) w₁ → RunLeft text out places w (Err e) out places w₁
    run-refused e S = record {
      writes = writes_refused whole out places e (whole_is ∙ bind_refused (make text) (λ m. written_of (length out) (length places) m) e (made-not e (make text) S.says));
      keeps = run-keeps S;
    }

    made_at : {P : Type 0} (s : Sub) (m : Answer Placed) → SheetAnswers w₁ (Ok s) m → ((p : Placed) → m ≡ good p → SheetHeld w₁ s p → P) → P
    made_at s (good p) a k = k p refl a
    made_at s (refused why) a k = absurd a

    module _ (s : Sub) (S : SheetMade text w (Ok s) w₁) where
      at : {P : Type 0} → ((p : Placed) → make text ≡ good p → SheetHeld w₁ s p → P) → P
      at k = made_at s (make text) S.says k

      pub run-stands : (root : ℕ) → root ≡ s.node → SheetStands w₁ root
      run-stands root z = subst (SheetStands w₁) (sym z) (at λ p f H. made-stands text p f w₁ s.node H.types H.term H.few)

      pub run-written : (root : ℕ) → root ≡ s.node → (r : Result ℕ Refusal) (out' places' : List ℕ) → SheetLeft w₁ root out places r out' places' → RunLeft text out places w r out' places' w₁
      run-written root z r out' places' L = at λ p f H. record {
        writes = subst (λ (a : Answer Written). MakeWrites a out places r out' places') (sym (whole_is ∙ bind_good (make text) (λ m. written_of (length out) (length places) m) p f ∙ sheet-written (length out) (length places) p)) ((subst (λ (k : ℕ). SheetLeft w₁ k out places r out' places') z L).says p.sheet.edition p.sheet.table p.sheet.term p.places H.edition H.types H.term);
        keeps = run-keeps S;
      }

-- ---- the call

pub call-is : (text out places w : List ℕ) (r : Result ℕ Refusal) (out' places' w₁ w₂ : List ℕ) → RunLeft text out places w r out' places' w₁ → w₂ ≡ work_of w₁ → called_make r out' places' w₂ ≡ make_call text out places w
unfolding make_call
call-is text out places w r out' places' w₁ w₂ R e =
    let a = make_answer (length w) text (length out) (length places) in
    let W = R.writes in
    ap (λ (x : Answer ℕ). record { said = x; out = out'; places = places'; work = w₂ }) W.said
    ∙ ap (λ (x : List ℕ). record { said = said_make a; out = x; places = places'; work = w₂ }) W.left
    ∙ ap (λ (x : List ℕ). record { said = said_make a; out = out_make a out; places = x; work = w₂ }) W.left_places
    ∙ ap (λ (x : List ℕ). record { said = said_make a; out = out_make a out; places = places_make a places; work = x }) (e ∙ R.keeps)
