-- The netlist of a term with its types (document 01, "The netlist"): `make` of calculus, which looks at types alone and never at their
-- numbers. Assumes nothing.
use Rattle.std.specs.Prelude.{ℕ, ◌+◌, ◌*◌, ◌≡◌, List, [], ◌∷◌, get_or}
use Rattle.calculus.specs.Answer.{good, ◌>>=◌}
use Rattle.calculus.specs.Types.{size}
use Rattle.calculus.specs.Net.{Net, unbound, left_of, binder, made_var, made_fun, made_app, made_pair, first_half, second_half, whole_of, made_proj, made_fix, made_con, net_of}
use Rattle.calculus.specs.Net as Net
use Rattle.notation_calculus.specs.Words.{words}
use Rattle.notation_calculus.specs.Trees.{Text}
use Rattle.notation_calculus.specs.Grammar.{text_of}
use Rattle.notation_calculus.specs.Means.{Full, var, lvar, fun, lfun, fix, app, lapp, proj, name, pair, con}

abbrev pub make_full : Full → List Net.Bound → ℕ → Net.Made
make_full (var i) env n = made_var (get_or env i unbound) n
make_full (lvar i) env n = made_var (get_or env i unbound) n
make_full (fun τ e) env n = made_fun τ n (make_full e (binder (left_of τ) n ∷ env) (n + 2 * size (left_of τ)))
make_full (lfun τ e) env n = made_fun τ n (make_full e (binder (left_of τ) n ∷ env) (n + 2 * size (left_of τ)))
make_full (fix τ e) env n = made_fix τ n (make_full e (binder τ n ∷ env) (n + 2 * size τ))
make_full (app f a) env n =
    let x = make_full f env n in
    made_app x (make_full a env x.next)
make_full (lapp f a) env n =
    let x = make_full f env n in
    made_app x (make_full a env x.next)
make_full (proj a e) env n =
    let x = make_full a env n in
    made_proj x (make_full e (second_half x ∷ first_half x ∷ env) x.next)
make_full (name a e) env n =
    let x = make_full a env n in
    made_proj x (make_full e (whole_of x ∷ env) x.next)
make_full (pair τ a b) env n =
    let x = make_full a env n in
    made_pair τ x (make_full b env x.next)
make_full (con p τ) env n = made_con τ p n

abbrev pub circuit_of : Full → Net
circuit_of e = net_of (make_full e [] 0)

-- the bytes of a text have these definitions
abbrev pub Says : List ℕ → Text → Type 0
Says text X = (words text >>= text_of) ≡ good X
