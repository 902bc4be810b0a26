-- `main` put in: the row that the code finds is the clause that Making finds, and its body is a term. Assumes nothing.
use Prim.Native.Nat.{ℕ, suc, ◌+◌, ◌≤◌, ◌<◌}
use mathlib.Core.Path.{◌≡◌, refl, sym, ap, ◌∙◌, subst}
use mathlib.Core.Bool.{Bool, true, false, not, ◌&&◌, cond}
use mathlib.Core.List.{List, [], ◌∷◌}
use native.Mathlib.Omega.{arith}
use lib.Dec.{eqb, leb}
use lib.ListN.{length, get_or, take}
use lib.Seq.{take-length}
use borrow.Author.Tests.{eq-eqb, ne_eqb, eqb-true}
use Rattle.std.proofs.Common.{Result, Ok, Err}
use Rattle.answers.specs.declared.Refusal.{Refusal}
use Rattle.answers.specs.Refusals.{said_why}
use Rattle.putting.specs.declared.BodyAt.{BodyAt}
use Rattle.calculus.specs.Answer.{Answer, good, refused, ◌>>=◌, refuse, need}
use Rattle.calculus.specs.Record.{All}
use Rattle.notation_calculus.specs.Words.{Name, Word, same_name}
use Rattle.notation_calculus.specs.Trees.{Number, TypeTree, no_types, Tree, Body, of_type, of_term, Clause, Text}
use Rattle.notation_calculus.specs.Grammar.{most_nested, Got, term_at, same_sort}
use Rattle.notation_calculus.specs.Making.{State, Found, Scope, fit_all, most_puts, meant, Put, put_of, clause_for, one_put, put_in}
use Rattle.notation_calculus.specs.Make.{above, main_name}
use Rattle.notation_machine.specs.Bodies.{number_for, words_for, AllRead}
use Rattle.notation_machine.proofs.Bodies.{BodyFound, body-found, read_take}
use Rattle.notation_theorems.proofs.Answering.{On}
use Rattle.words.specs.Next.{run_at}
use Rattle.words.specs.Lexed.{from}
use Rattle.making_memory.specs.Map.{clause_count_at}
use Rattle.made_types.specs.Held.{HoldsState}
use Rattle.clauses.specs.declared.rows.Row.{Row}
use Rattle.clauses.specs.Rows.{RowOf, row_in, clause_of}
use Rattle.clauses.specs.Texts.{HoldsClauses}
use Rattle.clauses.specs.Follows.{RowsThere}
use Rattle.clauses.specs.Meant.{values_in}
use Rattle.clauses.proofs.TableLaws.{rows_there}
use Rattle.scopes.specs.Opened.{numbers_over}
use Rattle.walks.specs.Walkable.{row_bodies}
use Rattle.walks.proofs.Kept.{rows-read}
use Rattle.putting.specs.Putting.{BodyThere, BodyCame, BodyAnswers, body_put, ClauseFound, CanPlace, PlacedSays}
use Rattle.putting.specs.Main.{row_main, first_main, CanMain, main_put, MainSays}
use Rattle.putting.proofs.ValueLaws.{body-at}
use Rattle.putting.proofs.FirstLaws.{first_passes, number-first}

-- ---- a row of `main` is a clause of `main`

no_sort : (b : Bool) → same_sort b false ≡ not b
no_sort true = refl
no_sort false = refl

no_numbers : (ks : List Number) (n : ℕ) → n ≡ length ks → fit_all ks [] ≡ eqb n 0
no_numbers [] n e = sym (eq-eqb n 0 e)
no_numbers (k ∷ ks) n e = sym (ne_eqb n 0 (λ z. absurd (omega arith)))

main_row : (text : List ℕ) (C : Clause) (r : Row) → RowOf text C r → meant C false main_name 0 [] ≡ row_main text r
main_row text C r R =
    ap (λ (b : Bool). (b && same_name C.head.name main_name) && eqb (length C.types) 0 && fit_all C.numbers []) (ap (λ (b : Bool). same_sort b false) R.sort ∙ no_sort r.sort)
    ∙ ap (λ (n : Name). (not r.sort && same_name n main_name) && eqb (length C.types) 0 && fit_all C.numbers []) R.name_is
    ∙ ap (λ (n : ℕ). (not r.sort && same_name (run_at text r.name) main_name) && eqb n 0 && fit_all C.numbers []) (sym R.type_count)
    ∙ ap (λ (b : Bool). (not r.sort && same_name (run_at text r.name) main_name) && eqb r.types 0 && b) (no_numbers C.numbers r.numbers R.number_count)

-- a row of `main` has no parameters
main_none : (text : List ℕ) (r : Row) → row_main text r ≡ true → (r.types ≡ 0) × (r.numbers ≡ 0)
main_none text r e = by (not r.sort && same_name (run_at text r.name) main_name) (eqb r.types 0) (eqb r.numbers 0) refl refl e
  where
    by : (a t n : Bool) → eqb r.types 0 ≡ t → eqb r.numbers 0 ≡ n → (a && t && n) ≡ true → (r.types ≡ 0) × (r.numbers ≡ 0)
    by true true true f g h = (eqb-true _ _ f, eqb-true _ _ g)
    by true true false f g h = let z : ◌≡◌ {A = ℕ} 0 1 = cc in absurd (omega arith)
    by true false n f g h = let z : ◌≡◌ {A = ℕ} 0 1 = cc in absurd (omega arith)
    by false t n f g h = let z : ◌≡◌ {A = ℕ} 0 1 = cc in absurd (omega arith)

-- ---- the clause that is meant, by its number

module _ (under : ℕ) (all : List Clause) (sort : Bool) (name : Name) (ts ns : List ℕ) (at : ℕ) where
  -- what is found at a number, or nothing
  abbrev Numbered : List Clause → ℕ → ℕ → Answer Put → Type 0
  Numbered cs i j m = (j < length cs → m ≡ good (put_of under all (clause_of cs j) (i + j) ts ns)) × (length cs ≤ j → m ≡ refuse 33 at)

  numbered-by : (b : Bool) (c : Clause) (cs : List Clause) (i j : ℕ) (m : Answer Put) → Numbered cs (suc i) j m → Numbered (c ∷ cs) i (cond b 0 (suc j)) (cond b (good (put_of under all c i ts ns)) m)
  numbered-by true c cs i j m h = ((λ l. let e : i ≡ i + 0 = omega arith in ap (λ (n : ℕ). good (put_of under all c n ts ns)) e), (λ l. absurd (omega arith)))
  numbered-by false c cs i j m h = ((λ l. let e : suc i + j ≡ i + suc j = omega arith in h.0 (omega arith) ∙ ap (λ (n : ℕ). good (put_of under all (clause_of cs j) n ts ns)) e), (λ l. h.1 (omega arith)))

  clause-numbered : (cs : List Clause) (i : ℕ) → Numbered cs i (number_for cs sort name (length ts) ns) (clause_for under all cs i sort name ts ns at)
  clause-numbered [] i = ((λ l. absurd (omega arith)), (λ l. refl))
  clause-numbered (c ∷ cs) i = numbered-by (meant c sort name (length ts) ns) c cs i (number_for cs sort name (length ts) ns) (clause_for under all cs (suc i) sort name ts ns at) (clause-numbered cs (suc i))

-- ---- what the code asks and answers

module _ (text w : List ℕ) (into : ℕ) (P : CanMain text w into) (n : ℕ) (counted : n ≡ get_or w clause_count_at 0) where
  pub main_rows : RowsThere text w × (n ≤ get_or w clause_count_at 0)
  main_rows = (rows_there text w P.X.clauses P.clauses.rows P.room, omega arith)

  abbrev is_main : ℕ → Bool
  is_main k = row_main text (row_in w k)

  module _ (k : ℕ) (is : k ≡ first_main text w n) where
    row-none : k < n → ((row_in w k).types ≡ 0) × ((row_in w k).numbers ≡ 0)
    row-none h = main_none text (row_in w k) (ap is_main is ∙ first_passes is_main n 0 (omega arith))

    pub main-place : CanPlace text w k n 0 into
    main-place = record {
      room = P.room;
      opens = λ h.
          let z = row-none h in
          record {
            short = P.short;
            clauses = P.X.clauses;
            holds = P.clauses.rows;
            known = omega (arith, P.clauses.rows.counted);
            level = P.level;
            places = record { room = P.room; most = omega arith; inside = λ e a b. absurd (omega arith) };
            few = omega (arith, z.0, z.1);
          };
    }

    module _ (place : ℕ) (X : Text) (σ : State) (H : HoldsClauses text w X) where
      abbrev cs : List Clause
      cs = X.clauses

      long : n ≡ length cs
      long = counted ∙ H.rows.counted

      number_is : number_for (take (length cs) cs) false main_name 0 [] ≡ k
      number_is = number-first cs false main_name 0 [] is_main (λ j l. main_row text (clause_of cs j) (row_in w j) (H.rows.rows j l)) (length cs) (omega arith) ∙ ap (first_main text w) (sym long) ∙ sym is

      chosen : Numbered 0 cs false main_name [] [] place cs 0 k (clause_for 0 cs (take (length cs) cs) 0 false main_name [] [] place)
      chosen =
          subst (λ (j : ℕ). Numbered 0 cs false main_name [] [] place cs 0 j (clause_for 0 cs (take (length cs) cs) 0 false main_name [] [] place)) number_is
          (subst (λ (xs : List Clause). Numbered 0 cs false main_name [] [] place cs 0 (number_for xs false main_name 0 []) (clause_for 0 cs xs 0 false main_name [] [] place)) (sym (take-length cs)) (clause-numbered 0 cs false main_name [] [] place cs 0))

      main_found : ClauseFound text w k n place 0 X σ (words_for (row_bodies text w 0 (length cs)) (take (length cs) cs) false main_name 0 []) (clause_for 0 cs (take (length cs) cs) 0 false main_name [] [] place)
      main_found = record {
        missing = λ h. chosen.1 (omega (arith, long));
        found = λ h.
            let z = row-none h in
            let e : 0 + k ≡ k = omega arith in
            chosen.0 (omega (arith, long))
            ∙ ap (λ (j : ℕ). good (put_of 0 cs (clause_of cs k) j [] [])) e
            ∙ ap (λ (j : ℕ). good (put_of 0 cs (clause_of cs k) k (values_in w 0 j) [])) (sym z.0)
            ∙ ap (λ (j : ℕ). good (put_of 0 cs (clause_of cs k) k (values_in w 0 (row_in w k).types) (values_in w (numbers_over w k 0) j))) (sym z.1);
        body = λ h.
            let e : 0 + k ≡ k = omega arith in
            ap (λ (j : ℕ). get_or (row_bodies text w 0 (length cs)) j []) number_is ∙ body-at text w (length cs) 0 k (omega (arith, long)) ∙ ap (λ (j : ℕ). from text (row_in w j).body) e;
        typed = λ h. subst (λ (j : ℕ). All (λ (t : ℕ). t < length σ.table) (values_in w 0 j)) (sym (row-none h).0) tt;
        known = omega (arith, long);
      }

    pub main-says : (place : ℕ) (r : Result BodyAt Refusal) (w' : List ℕ) → PlacedSays text w k n place 0 into r w' → MainSays text w into place r w'
    main-says place r w' p = record {
      walked = p.walked;
      says = λ X σ H HS e. subst (λ (at : ℕ). BodyAnswers text w' X into r (body_put σ at (words_for (row_bodies text w 0 (length X.clauses)) (take (length X.clauses) X.clauses) false main_name 0 []) (clause_for 0 X.clauses (take (length X.clauses) X.clauses) 0 false main_name [] [] at))) (sym e) (p.says X σ _ _ H HS (main_found place X σ H));
    }

-- ---- `main` as Make has it: what is put in is the body of a term

-- the body of `main` reads as a term, and putting `main` in goes on with it
pub record MainGoes {A : Type 0} (go : Scope → State → Body → Answer A) (whole : Answer A) (scope : Scope) (state : State) (ws : List Word) : Type 0 where
  pub tree : Got Tree
  pub reads : term_at most_nested ws ≡ good tree
  pub is : whole ≡ go scope state (of_term tree.value)

module _ {A : Type 0} (X : Text) (type_of : Scope → State → TypeTree → Answer Found) (go : Scope → State → Body → Answer A) (σ : State) where
  abbrev whole_main : Answer A
  whole_main = put_in X false (above (length X.clauses)) type_of go σ X.end main_name no_types []

  -- .. or it is refused
  abbrev MainIs : Answer BodyThere → Answer A → Type 0
  MainIs (good b) whole = MainGoes go whole b.scope b.state b.body
  MainIs (refused why) whole = whole ≡ refused why

  goes_by : (ws : List Word) (p : Put) (b : Body) (t : Bool) → p.body ≡ b → BodyFound false ws b → MainIs ((need t 34 X.end >>= λ _. good (record { table = σ.table; nodes = σ.nodes; puts = σ.puts + p.cost })) >>= λ σ₁. good (record { scope = p.scope; state = σ₁; body = ws })) ((need t 34 X.end >>= λ _. good (record { table = σ.table; nodes = σ.nodes; puts = σ.puts + p.cost })) >>= λ σ₁. go p.scope σ₁ p.body)
  goes_by ws p (of_type x) t e f = absurd f
  goes_by ws p (of_term x) true e f = record { tree = record { value = x; rest = f.0 }; reads = f.1; is = ap (go p.scope (record { table = σ.table; nodes = σ.nodes; puts = σ.puts + p.cost })) e }
  goes_by ws p (of_term x) false e f = refl

  is-by : (ws : List Word) (m : Answer Put) → On (λ (p : Put). BodyFound false ws p.body) m → MainIs (body_put σ X.end ws m) (m >>= λ p. one_put σ p.cost X.end >>= λ σ₁. go p.scope σ₁ p.body)
  is-by ws (good p) f = goes_by ws p p.body (leb (σ.puts + p.cost) most_puts) refl f
  is-by ws (refused why) f = refl

  pub main_goes : (bodies : List (List Word)) → AllRead bodies X.clauses → MainIs (main_put X bodies σ) whole_main
  main_goes bodies r = is-by (words_for bodies (take (length X.clauses) X.clauses) false main_name 0 []) (clause_for 0 X.clauses (take (length X.clauses) X.clauses) 0 false main_name [] [] X.end) (body-found 0 X.clauses false main_name [] [] X.end bodies (take (length X.clauses) X.clauses) 0 (read_take (length X.clauses) bodies X.clauses r))

  -- for the caller: what `put_main` answered, and what Make's sentence is then
  pub record MainThere (text w : List ℕ) (into start top : ℕ) : Type 0 where
    pub there : BodyThere
    pub came : BodyCame text w X into start top there
    pub goes : MainGoes go whole_main there.scope there.state (from text start)

  there_by : (text w : List ℕ) (into : ℕ) (q : BodyAt) (m : Answer BodyThere) → BodyAnswers text w X into (Ok q) m → MainIs m whole_main → MainThere text w into q.body q.top
  there_by text w into q (good b) a g = record { there = b; came = a; goes = subst (MainGoes go whole_main b.scope b.state) a.body.is g }
  there_by text w into q (refused why) a g = absurd a

  not-by : (text w : List ℕ) (into : ℕ) (e : Refusal) (m : Answer BodyThere) → BodyAnswers text w X into (Err e) m → MainIs m whole_main → whole_main ≡ refused (said_why e)
  not-by text w into e (good b) a g = absurd a
  not-by text w into e (refused why) a g = g ∙ ap refused a

  module _ (text w w' : List ℕ) (into place : ℕ) (H : HoldsClauses text w X) (HS : HoldsState w σ) (e : X.end ≡ place) where
    pub main-there : (q : BodyAt) → MainSays text w into place (Ok q) w' → MainThere text w' into q.body q.top
    main-there q s = there_by text w' into q (main_put X (row_bodies text w 0 (length X.clauses)) σ) (s.says X σ H HS e) (main_goes (row_bodies text w 0 (length X.clauses)) (rows-read text w X.clauses H.rows))

    pub main-not : (r : Refusal) → MainSays text w into place (Err r) w' → whole_main ≡ refused (said_why r)
    main-not r s = not-by text w' into r (main_put X (row_bodies text w 0 (length X.clauses)) σ) (s.says X σ H HS e) (main_goes (row_bodies text w 0 (length X.clauses)) (rows-read text w X.clauses H.rows))
