-- Two calls on one text give one sheet; and what `translate` writes of it is the netlist of the term that the text means. Assumes nothing.
use Prim.Native.Nat.{ℕ, ◌+◌, ◌*◌}
use mathlib.Core.Path.{◌≡◌, refl, sym, ap, subst, ◌∙◌}
use mathlib.Core.List.{List, [], ◌∷◌}
use lib.Dec.{leb}
use lib.ListN.{length}
use Rattle.calculus.specs.Answer.{Answer, good, ◌>>=◌, need}
use Rattle.calculus.proofs.Answers.{good-inj}
use Rattle.calculus.specs.Types.{Table, tree, size}
use Rattle.calculus.specs.Read.{Sheet, read_sheet}
use Rattle.calculus.specs.Terms.{Term, var, lvar, fun, app, lfun, lapp, pair, proj, fix, con, name}
use Rattle.calculus.specs.Walk.{walk}
use Rattle.calculus.specs.Net.{Net, left_of, binder, made_fun, made_app, made_pair, first_half, second_half, whole_of, made_proj, made_fix, net_of}
use Rattle.calculus.specs.Net as Net
use Rattle.calculus.specs.Translate as Translate
use Rattle.notation_calculus.specs.Trees.{Text}
use Rattle.notation_calculus.specs.Make.{Placed, make, bytes_of, Written, make_answer}
use Rattle.notation_calculus.specs.Means.{Full, full, Means}
use Rattle.notation_theorems.specs.Circuits.{make_full, circuit_of, Says}
use Rattle.notation_theorems.proofs.Answering.{On, on_any, on_is, on_good}
use Rattle.notation_theorems.proofs.TermsMean.{make_means}
use Rattle.notation_theorems.proofs.MeansOne.{means_one}
use Rattle.notation_theorems.proofs.Reading.{of_bytes, make-reads}

-- ---- the netlist of a sheet is that of its term with types

same-net : (Θ : Table) (e : Term) (env : List Net.Bound) (n : ℕ) → Net.make Θ e env n ≡ make_full (full Θ e) env n
same-net Θ (var i) env n = refl
same-net Θ (lvar i) env n = refl
same-net Θ (fun t e) env n = ap (λ (m : Net.Made). made_fun (tree Θ t) n m) (same-net Θ e (binder (left_of (tree Θ t)) n ∷ env) (n + 2 * size (left_of (tree Θ t))))
same-net Θ (lfun t e) env n = ap (λ (m : Net.Made). made_fun (tree Θ t) n m) (same-net Θ e (binder (left_of (tree Θ t)) n ∷ env) (n + 2 * size (left_of (tree Θ t))))
same-net Θ (fix t e) env n = ap (λ (m : Net.Made). made_fix (tree Θ t) n m) (same-net Θ e (binder (tree Θ t) n ∷ env) (n + 2 * size (tree Θ t)))
same-net Θ (app f a) env n = ap (λ (x : Net.Made). made_app x (Net.make Θ a env x.next)) (same-net Θ f env n) ∙ ap (λ (m : Net.Made). made_app (make_full (full Θ f) env n) m) (same-net Θ a env (make_full (full Θ f) env n).next)
same-net Θ (lapp f a) env n = ap (λ (x : Net.Made). made_app x (Net.make Θ a env x.next)) (same-net Θ f env n) ∙ ap (λ (m : Net.Made). made_app (make_full (full Θ f) env n) m) (same-net Θ a env (make_full (full Θ f) env n).next)
same-net Θ (pair t a b) env n = ap (λ (x : Net.Made). made_pair (tree Θ t) x (Net.make Θ b env x.next)) (same-net Θ a env n) ∙ ap (λ (m : Net.Made). made_pair (tree Θ t) (make_full (full Θ a) env n) m) (same-net Θ b env (make_full (full Θ a) env n).next)
same-net Θ (proj a e) env n =
    let y : Net.Made = make_full (full Θ a) env n in
    ap (λ (x : Net.Made). made_proj x (Net.make Θ e (second_half x ∷ first_half x ∷ env) x.next)) (same-net Θ a env n) ∙ ap (λ (m : Net.Made). made_proj y m) (same-net Θ e (second_half y ∷ first_half y ∷ env) y.next)
same-net Θ (name a e) env n =
    let y : Net.Made = make_full (full Θ a) env n in
    ap (λ (x : Net.Made). made_proj x (Net.make Θ e (whole_of x ∷ env) x.next)) (same-net Θ a env n) ∙ ap (λ (m : Net.Made). made_proj y m) (same-net Θ e (whole_of y ∷ env) y.next)
same-net Θ (con p t) env n = refl

net_of_lem : (s : List ℕ) (σ : Sheet) (m : Net) → read_sheet s ≡ good σ → Translate.full s ≡ good m → m ≡ circuit_of (full σ.table σ.term)
unfolding Translate.full
net_of_lem s σ m e f =
    let Q : Net → Type 0 = λ k. k ≡ circuit_of (full σ.table σ.term) in
    let made : Net.Made = Net.make σ.table σ.term [] 0 in
    let next : Sheet → Answer Net = λ τ. walk τ.edition τ.table τ.term 0 [] >>= λ _. need (leb (Net.make τ.table τ.term [] 0).next 8192) 16 0 >>= λ _. good (net_of (Net.make τ.table τ.term [] 0)) in
    on_good Q (Translate.full s) m (subst (λ (a : Answer Sheet). On Q (a >>= next)) (sym e) (on_any Q (walk σ.edition σ.table σ.term 0 []) (λ _. need (leb made.next 8192) 16 0 >>= λ _. good (net_of made)) λ _. on_any Q (need (leb made.next 8192) 16 0) (λ _. good (net_of made)) λ _. ap net_of (same-net σ.table σ.term [] 0))) f

-- ---- the theorems

-- the netlist that `translate` writes of the sheet is the circuit of every term that the text means (there is one: `make_means`, and no
-- other: `means_one`)
pub text_circuit : (text : List ℕ) (p : Placed) (m : Net) (X : Text) (e : Full) → make text ≡ good p → Translate.full (bytes_of p.sheet) ≡ good m → Says text X → Means X e → m ≡ circuit_of e
text_circuit text p m X e made written says means =
    of_bytes (λ (q : Placed). Translate.full (bytes_of q.sheet) ≡ good m → m ≡ circuit_of e) text p made (λ Y said is w.
    let same : Y ≡ X = good-inj (sym said ∙ says) in
    let one : full p.sheet.table p.sheet.term ≡ e = means_one X (full p.sheet.table p.sheet.term) e (subst (λ (Z : Text). Means Z (full p.sheet.table p.sheet.term)) same (make_means Y p is)) means in
    net_of_lem (bytes_of p.sheet) p.sheet m (make-reads text p made) w ∙ ap circuit_of one) written

-- what a call writes, whatever it is lent, is what the text's sheet says
abbrev OfText : List ℕ → Written → Type 0
OfText text w = (p : Placed) × (make text ≡ good p) × (w ≡ record { bytes = bytes_of p.sheet; places = p.places })

answer_of_lem : (memory : ℕ) (text : List ℕ) (room roomPlaces : ℕ) → On (OfText text) (make_answer memory text room roomPlaces)
unfolding make_answer
answer_of_lem memory text room roomPlaces =
    let Q : Written → Type 0 = OfText text in
    let wrote : Placed → Written = λ p. record { bytes = bytes_of p.sheet; places = p.places } in
    let behind : Placed → Answer Written = λ p. need (leb (length p.places) roomPlaces) 37 (length p.places) >>= λ _. good (wrote p) in
    let next : Placed → Answer Written = λ p. need (leb (length (bytes_of p.sheet)) room) 17 (length (bytes_of p.sheet)) >>= λ _. behind p in
    on_any Q (need (leb 32768 memory) 1 0) (λ _. make text >>= next) λ _.
    on_is Q (make text) next λ p e.
    on_any Q (need (leb (length (bytes_of p.sheet)) room) 17 (length (bytes_of p.sheet))) (λ _. behind p) λ _.
    on_any Q (need (leb (length p.places) roomPlaces) 37 (length p.places)) (λ _. good (wrote p)) λ _. (p, e, refl)

-- two calls on one text that write a sheet write the same bytes and the same places, so that `translate` gives one netlist
pub text_decides : (text : List ℕ) (memory room roomPlaces memory' room' roomPlaces' : ℕ) (v w : Written) → make_answer memory text room roomPlaces ≡ good v → make_answer memory' text room' roomPlaces' ≡ good w → (v ≡ w) × (Translate.full v.bytes ≡ Translate.full w.bytes)
text_decides text memory room roomPlaces memory' room' roomPlaces' v w a b =
    let (p, d, e) = on_good (OfText text) (make_answer memory text room roomPlaces) v (answer_of_lem memory text room roomPlaces) a in
    let (q, f, g) = on_good (OfText text) (make_answer memory' text room' roomPlaces') w (answer_of_lem memory' text room' roomPlaces') b in
    let same : v ≡ w = e ∙ ap (λ (r : Placed). record { bytes = bytes_of r.sheet; places = r.places }) (good-inj (sym d ∙ f)) ∙ sym g in
    (same, ap (λ (r : Written). Translate.full r.bytes) same)
