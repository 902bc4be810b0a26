-- What a call writes means what the text means; and the text alone decides it. Assumes nothing.
use Prim.Native.Nat.{ℕ}
use mathlib.Core.Path.{◌≡◌, refl, sym, ap, ◌∙◌}
use mathlib.Core.List.{List, ◌++◌}
use lib.Dec.{leb}
use lib.ListN.{length, drop}
use Rattle.std.proofs.Common.{Ok}
use Rattle.calculus.specs.Answer.{Answer, good, refused, ◌>>=◌, need}
use Rattle.calculus.specs.Read.{read_sheet}
use Rattle.calculus.proofs.Answers.{refused≢good, good-inj, on-need, on-bind}
use Rattle.notation_calculus.specs.Trees.{Text}
use Rattle.notation_calculus.specs.Make.{Placed, make, bytes_of, Written, make_answer, MakeCall, said_make, out_make, places_make, make_call}
use Rattle.notation_calculus.specs.Means.{full, Means}
use Rattle.notation_theorems.specs.Circuits.{Says}
use Rattle.notation_theorems.proofs.TermsMean.{make_means}
use Rattle.notation_theorems.proofs.Reading.{of_bytes, make-reads}
use Rattle.notation_theorems.proofs.TextCircuit.{text_decides}
use Rattle.maker.specs.Made.{called_make}

-- a text, what it says, and the sheet of the term that it means
pub record TextMeans (text : List ℕ) (p : Placed) : Type 0 where
  pub made : make text ≡ good p
  pub said : Text
  pub says : Says text said
  pub means : Means said (full p.sheet.table p.sheet.term)
  pub reads : read_sheet (bytes_of p.sheet) ≡ good p.sheet

text_means : (text : List ℕ) (p : Placed) → make text ≡ good p → TextMeans text p
text_means text p e = of_bytes (λ (q : Placed). q ≡ p → TextMeans text p) text p e (λ X says f z. record { made = e; said = X; says = says; means = make_means X p f; reads = make-reads text p e }) refl

-- the bytes of that sheet are written, and a place for each of its nodes
pub record CallMeans (text out places out' places' : List ℕ) (n : ℕ) : Type 0 where
  pub sheet : Placed
  pub means : TextMeans text sheet
  pub bytes : n ≡ length (bytes_of sheet.sheet)
  pub wrote : out' ≡ bytes_of sheet.sheet ++ drop (length (bytes_of sheet.sheet)) out
  pub told : places' ≡ sheet.places ++ drop (length sheet.places) places

-- what an accepted call has to write
pub answer-sheet : (memory : ℕ) (text : List ℕ) (room roomPlaces : ℕ) (v : Written) → make_answer memory text room roomPlaces ≡ good v → (p : Placed) × ((make text ≡ good p) × (v ≡ record { bytes = bytes_of p.sheet; places = p.places }))
unfolding make_answer
answer-sheet memory text room roomPlaces v e =
    let wrote : Placed → Written = λ p. record { bytes = bytes_of p.sheet; places = p.places } in
    let last : Placed → Answer Written = λ p. need (leb (length p.places) roomPlaces) 37 (length p.places) >>= λ _. good (wrote p) in
    let next : Placed → Answer Written = λ p. need (leb (length (bytes_of p.sheet)) room) 17 (length (bytes_of p.sheet)) >>= λ _. last p in
    on-need (leb 32768 memory) 1 0 (λ _. make text >>= next) v e λ _ e₁.
    on-bind (make text) next v e₁ λ p h e₂.
    on-need (leb (length (bytes_of p.sheet)) room) 17 (length (bytes_of p.sheet)) (λ _. last p) v e₂ λ _ e₃.
    on-need (leb (length p.places) roomPlaces) 37 (length p.places) (λ _. good (wrote p)) v e₃ λ _ e₄. (p, (h, sym (good-inj e₄)))

said_good : (a : Answer Written) (n : ℕ) → good n ≡ said_make a → (v : Written) × (a ≡ good v)
said_good (good v) n e = (v, refl)
said_good (refused why) n e = absurd (refused≢good (sym e))

module _ (text out places w out' places' w' : List ℕ) (n : ℕ) (c : called_make (Ok n) out' places' w' ≡ make_call text out places w) where
  abbrev whole : Answer Written
  whole = make_answer (length w) text (length out) (length places)

  said-is : good n ≡ said_make whole
  unfolding make_call
  said-is = ap (λ (x : MakeCall). x.said) c

  out-is : out' ≡ out_make whole out
  unfolding make_call
  out-is = ap (λ (x : MakeCall). x.out) c

  places_is : places' ≡ places_make whole places
  unfolding make_call
  places_is = ap (λ (x : MakeCall). x.places) c

  -- an accepted call has an answer of the definition
  pub call-written : (v : Written) × (whole ≡ good v)
  call-written = said_good whole n said-is

  -- an accepted call writes the sheet of the term that the text means
  pub call_means : CallMeans text out places out' places' n
  call_means =
      let (v, e) = call-written in
      let (p, (h, f)) = answer-sheet (length w) text (length out) (length places) v e in
      let is : whole ≡ good (record { bytes = bytes_of p.sheet; places = p.places }) = e ∙ ap good f in
      record {
        sheet = p;
        means = text_means text p h;
        bytes = good-inj (said-is ∙ ap said_make is);
        wrote = out-is ∙ ap (λ (a : Answer Written). out_make a out) is;
        told = places_is ∙ ap (λ (a : Answer Written). places_make a places) is;
      }

-- two accepted calls on one text, whatever each is lent, write the same bytes and places; so `translate` gives one netlist
pub call_decides :
    (text out places w out₁ places₁ w₁ : List ℕ) (n : ℕ) → called_make (Ok n) out₁ places₁ w₁ ≡ make_call text out places w
    → (out' places' w' out₂ places₂ w₂ : List ℕ) (m : ℕ) → called_make (Ok m) out₂ places₂ w₂ ≡ make_call text out' places' w'
    → (v : Written) × ((make_answer (length w) text (length out) (length places) ≡ good v) × (make_answer (length w') text (length out') (length places') ≡ good v))
call_decides text out places w out₁ places₁ w₁ n c out' places' w' out₂ places₂ w₂ m d =
    let (v, e) = call-written text out places w out₁ places₁ w₁ n c in
    let (u, f) = call-written text out' places' w' out₂ places₂ w₂ m d in
    let same = (text_decides text (length w) (length out) (length places) (length w') (length out') (length places') v u e f).0 in
    (v, (e, f ∙ ap good (sym same)))
