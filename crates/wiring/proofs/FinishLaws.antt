-- After both subterms: the rest of an application's function, both parts of a pair, a projection's body. Assumes nothing.
use Prim.Native.Nat.{ℕ, ◌+◌, ◌-◌, ◌≤◌, ◌<◌}
use mathlib.Core.Path.{◌≡◌, refl, sym, ap, ap₂, ◌∙◌, subst}
use mathlib.Core.Logic.{⊎_elim}
use mathlib.Core.Bool.{Bool, true, false, not, cond, true≢false}
use mathlib.Core.List.{List, [], ◌∷◌, ◌++◌, map, map-append, append_assoc, append-nil}
use native.Mathlib.Omega.{arith}
use lib.ListN.{length, take, drop, length-append, length-map, length-drop, take-append-drop}
use lib.Seq.{sets, length-take-le}
use Rattle.calculus.specs.Types.{Ty, size, tree}
use Rattle.calculus.specs.Write.{term_bytes}
use Rattle.calculus.specs.Net.{turns, Interface, Wire, Made, left_of, right_of, join}
use Rattle.records.specs.Heads.{node_of}
use Rattle.records.specs.Forms.{rec_in}
use Rattle.records.specs.Rules.{is_pair, is_projection, is_naming}
use Rattle.records.specs.declared.Rule.{Rule}
use Rattle.records.specs.declared.Rule.TheVariants as rule
use Rattle.records.specs.contracts.Rule.{the_type}
use denote.Enum.Declared.{tag_of}
use types.Run.{OneOf, miss}
use Rattle.records.specs.declared.Node.{Node}
use Rattle.memory.specs.Map.{stack_at, region, code, kind_number}
use Rattle.circuit_theorems.specs.Drive.{drive_all}
use Rattle.circuit_theorems.proofs.Bounds.{join-length}
use Rattle.circuit_theorems.proofs.Drive.{drive_append}
use Rattle.circuit_theorems.proofs.Drivers.{dirs-left, opposite, turns-size}
use Rattle.circuit_theorems.specs.Scope.{dir, dirs}
use Rattle.wiring.specs.declared.walk.State.{State}
use Rattle.wiring.specs.declared.walk.Built.{Built}
use Rattle.records.specs.TypeNumbers.{right_no}
use Rattle.wiring.specs.Links.{links, Apart}
use Rattle.wiring.specs.Store.{Store, Holds, at_stack, at_binders, target, more_wires, with_made}
use Rattle.wiring.specs.Asks.{Asks, made_of, Leaves, Here, between_in, middle, of_body, applied_in, finished_in, finished, Finishable}
use Rattle.wiring.specs.Nodes.{Applied, Paired, Projected, Twofold}
use Rattle.wiring.proofs.StoreLaws.{cut_binders}
use Rattle.wiring.proofs.NodeLaws.{sided_at}
use Rattle.wiring.proofs.JoinLaws.{StackPart, wired-apart, wired-holds, moved_holds}
use Rattle.wiring.proofs.TwoLaws as two

-- the tags that are left where a match names a projection, 1B and a pair, and those of the first two
abbrev others : List ℕ
others = 0 ∷ 1 ∷ 2 ∷ 3 ∷ 4 ∷ 5 ∷ 8 ∷ 9 ∷ []

abbrev bodies : List ℕ
bodies = 7 ∷ 10 ∷ []

pub body_of : (u : Rule) → OneOf bodies (tag_of the_type u) → of_body u ≡ true
body_of rule.Variable o = absurd (miss bodies 0 tt o)
body_of rule.LinearVariable o = absurd (miss bodies 1 tt o)
body_of rule.Function o = absurd (miss bodies 2 tt o)
body_of rule.Application o = absurd (miss bodies 3 tt o)
body_of rule.LinearFunction o = absurd (miss bodies 4 tt o)
body_of rule.LinearApplication o = absurd (miss bodies 5 tt o)
body_of rule.Pair o = absurd (miss bodies 6 tt o)
body_of rule.Projection o = refl
body_of rule.FixedPoint o = absurd (miss bodies 8 tt o)
body_of rule.Constant o = absurd (miss bodies 9 tt o)
body_of rule.Naming o = refl

pub application : (u : Rule) → OneOf others (tag_of the_type u) → (of_body u ≡ false) × (is_pair u ≡ false)
application rule.Variable o = (refl, refl)
application rule.LinearVariable o = (refl, refl)
application rule.Function o = (refl, refl)
application rule.Application o = (refl, refl)
application rule.LinearFunction o = (refl, refl)
application rule.LinearApplication o = (refl, refl)
application rule.Pair o = absurd (miss others 6 tt o)
application rule.Projection o = absurd (miss others 7 tt o)
application rule.FixedPoint o = (refl, refl)
application rule.Constant o = (refl, refl)
application rule.Naming o = absurd (miss others 10 tt o)

-- .. and where a match names a projection and 1B
abbrev unbound : List ℕ
unbound = 0 ∷ 1 ∷ 2 ∷ 3 ∷ 4 ∷ 5 ∷ 6 ∷ 8 ∷ 9 ∷ []

pub binds_none : (u : Rule) → OneOf unbound (tag_of the_type u) → (is_projection u ≡ false) × (is_naming u ≡ false)
binds_none rule.Variable o = (refl, refl)
binds_none rule.LinearVariable o = (refl, refl)
binds_none rule.Function o = (refl, refl)
binds_none rule.Application o = (refl, refl)
binds_none rule.LinearFunction o = (refl, refl)
binds_none rule.LinearApplication o = (refl, refl)
binds_none rule.Pair o = (refl, refl)
binds_none rule.Projection o = absurd (miss unbound 7 tt o)
binds_none rule.FixedPoint o = (refl, refl)
binds_none rule.Constant o = (refl, refl)
binds_none rule.Naming o = absurd (miss unbound 10 tt o)

-- a list, then another, are one
more : {A : Type 0} (g : A → ℕ) (l : List ℕ) (a b : List A) → (l ++ map g a) ++ map g b ≡ l ++ map g (a ++ b)
more g l a b = append_assoc l (map g a) (map g b) ∙ ap (λ (r : List ℕ). l ++ r) (sym (map-append g a b))

-- two terms made one after the other, with one interface of both
both-made : {w : List ℕ} (m : Store) (x y : Made) (ws : List Wire) (τ : Ty) (side : Interface) (stack : List ℕ) (next : ℕ) → stack ≡ m.stack ++ map code side
    → Holds w (record { drivers = drive_all ws (drive_all y.wires (drive_all x.wires m.drivers)); targets = ((m.targets ++ map target x.wires) ++ map target y.wires) ++ map target ws; kinds = (m.kinds ++ map kind_number x.elements) ++ map kind_number y.elements; stack = stack; binders = m.binders; rest = m.rest })
    → Holds w (with_made m (record { elements = x.elements ++ y.elements; wires = (x.wires ++ y.wires) ++ ws; type = τ; side = side; next = next }))
both-made {w} m x y ws τ side stack next es H =
    let ed : drive_all ws (drive_all y.wires (drive_all x.wires m.drivers)) ≡ drive_all ((x.wires ++ y.wires) ++ ws) m.drivers =
    sym (drive_append (x.wires ++ y.wires) ws m.drivers ∙ ap (drive_all ws) (drive_append x.wires y.wires m.drivers)) in
    let et : ((m.targets ++ map target x.wires) ++ map target y.wires) ++ map target ws ≡ m.targets ++ map target ((x.wires ++ y.wires) ++ ws) =
    ap (λ (l : List ℕ). l ++ map target ws) (more target m.targets x.wires y.wires) ∙ more target m.targets (x.wires ++ y.wires) ws in
    subst (λ (z : Store). Holds w z)
    (ap₂ (λ (ds ts : List ℕ). record { drivers = ds; targets = ts; kinds = m.kinds ++ map kind_number (x.elements ++ y.elements); stack = m.stack ++ map code side; binders = m.binders; rest = m.rest }) ed et)
    (subst (λ (z : Store). Holds w z)
    (ap₂ (λ (ks ss : List ℕ). record { drivers = drive_all ws (drive_all y.wires (drive_all x.wires m.drivers)); targets = ((m.targets ++ map target x.wires) ++ map target y.wires) ++ map target ws; kinds = ks; stack = ss; binders = m.binders; rest = m.rest }) (more kind_number m.kinds x.elements y.elements) es)
    H)

no_wires : {w : List ℕ} (m : Store) → Holds w m → Holds w (more_wires m [])
no_wires {w} m H = subst (λ (l : List ℕ). Holds w (record { drivers = m.drivers; targets = l; kinds = m.kinds; stack = m.stack; binders = m.binders; rest = m.rest })) (sym (append-nil m.targets)) H

forget_by : (c d : Bool) (xs us vs ts : List ℕ) {v : List ℕ} (k : Store) → k.binders ≡ cond c ((xs ++ us) ++ vs) (cond d (xs ++ ts) xs) → Holds v k → Holds v (at_binders k xs)
forget_by true d xs us vs ts k e G = cut_binders G xs (us ++ vs) (e ∙ append_assoc xs us vs)
forget_by false true xs us vs ts k e G = cut_binders G xs ts e
forget_by false false xs us vs ts k e G = cut_binders G xs [] (e ∙ sym (append-nil xs))

module _ {s sizes w : List ℕ} {node : Node} {st : State} (q : Here s sizes w node st) (h2 : node.subterms ≡ 2)
    {f : Built} {w₁ : List ℕ} (L : Leaves (two.first-asks q h2) f w₁) {r : State} {w₂ : List ℕ} (er : r ≡ middle node st f) (ew : w₂ ≡ between_in s sizes w₁ node st f)
    {b : Built} {w₃ : List ℕ} (K : Leaves (two.second-asks q h2 L er ew) b w₃)
  where
    abbrev Q : Asks s sizes w q.at st
    Q = q.asks

    abbrev m : Store
    m = Q.store

    abbrev x : Made
    x = two.x q h2

    abbrev y : Made
    y = two.y q h2

    abbrev full : Store
    full = with_made (two.store₂ q h2 L) y

    abbrev T : Twofold Q.edition Q.table s q.at st.next Q.env Q.term Q.type
    T = two.both q h2

    H : Holds w₃ full
    H = two.second_holds q h2 L er ew K

    abbrev App : Type 0
    App = Applied Q.edition Q.table s q.at st.next Q.env Q.term Q.type x y T.type T.env₂ T.type₂

    abbrev Pair : Type 0
    Pair = Paired Q.edition Q.table s q.at st.next Q.env Q.term Q.type x y T.type T.env₂ T.type₂

    abbrev Proj : Type 0
    Proj = Projected Q.edition Q.table s q.at st.next Q.env Q.term Q.type x y T.type T.env₂ T.type₂

    len-f : f.len ≡ length x.side
    len-f = (two.first-left q h2 L).3

    len-b : b.len ≡ length y.side
    len-b = (two.second-left q h2 L er ew K).3

    -- the second's interface stands above the first's
    low-length : length (m.stack ++ map code x.side) ≡ st.top + f.len
    low-length = omega (arith, length-append m.stack (map code x.side), length-map x.side code, Q.top, len-f)

    whole_length : length ((m.stack ++ map code x.side) ++ map code y.side) ≡ st.top + f.len + b.len
    whole_length = omega (arith, length-append (m.stack ++ map code x.side) (map code y.side), length-map y.side code, low-length, len-b)

    abbrev second-part : StackPart full (m.stack ++ map code x.side) (map code y.side)
    second-part = record { above = []; stack_is = ap (λ (l : List ℕ). (m.stack ++ map code x.side) ++ l) (sym (append-nil (map code y.side))) }

    abbrev below-part : StackPart full m.stack []
    below-part = record { above = map code x.side ++ map code y.side; stack_is = append_assoc m.stack (map code x.side) (map code y.side) }

    -- binders of the halves are forgotten
    forget : {v : List ℕ} (k : Store) → k.binders ≡ two.binders₂ q h2 L → Holds v k → Holds v (at_binders k m.binders)
    forget k e G = forget_by (is_projection node.rule) (is_naming node.rule) m.binders _ _ _ k e G

    -- ---- a pair

    pair-holds : Pair → Holds w₃ (with_made m (made_of Q))
    pair-holds z =
        subst (λ (k : Made). Holds w₃ (with_made m k)) (sym z.makes)
        (subst (λ (ws : List Wire). Holds w₃ (with_made m (record { elements = x.elements ++ y.elements; wires = ws; type = Q.type; side = x.side ++ y.side; next = y.next }))) (append-nil (x.wires ++ y.wires))
        (both-made m x y [] Q.type (x.side ++ y.side) ((m.stack ++ map code x.side) ++ map code y.side) y.next (more code m.stack x.side y.side)
        (no_wires (at_binders full m.binders) (forget full refl H))))

    -- ---- a projection

    abbrev moved : List ℕ
    moved = sets w₃ (stack_at + st.top) (region w₃ (stack_at + st.top + f.len) b.len)

    proj-holds : Proj → Holds moved (with_made m (made_of Q))
    proj-holds z =
        let M : Holds moved (at_stack full (m.stack ++ map code y.side)) = moved_holds H second-part below-part (stack_at + st.top + f.len) (stack_at + st.top) b.len (omega (arith, low-length)) (omega (arith, Q.top)) (omega arith) (length-map y.side code ∙ sym len-b) in
        subst (λ (k : Made). Holds moved (with_made m k)) (sym z.makes)
        (subst (λ (ws : List Wire). Holds moved (with_made m (record { elements = x.elements ++ y.elements; wires = ws; type = y.type; side = y.side; next = y.next }))) (append-nil (x.wires ++ y.wires))
        (both-made m x y [] y.type y.side (m.stack ++ map code y.side) y.next refl
        (no_wires (at_stack (at_binders full m.binders) (m.stack ++ map code y.side)) (forget (at_stack full (m.stack ++ map code y.side)) refl M))))

    -- ---- an application

    module _ (z : App) where
      abbrev α : Ty
      α = left_of x.type

      abbrev start : Interface
      start = take (size α) x.side

      abbrev end : Interface
      end = drop (size α) x.side

      left_is : α ≡ T.type₂
      left_is = ap left_of (two.first_type q h2) ∙ z.left

      size_is : size α ≡ b.len
      size_is = ap size left_is ∙ sym (two.second-length q h2) ∙ sym len-b

      turned : dirs x.side ≡ turns true T.type₂ ++ turns false Q.type
      turned = two.first-dirs q h2 ∙ z.turned

      fits : b.len ≤ f.len
      fits = omega (arith, ap length turned, length-map x.side dir, length-append (turns true T.type₂) (turns false Q.type), turns-size true T.type₂, len-f, size_is, ap size left_is)

      start-length : length start ≡ b.len
      start-length = length-take-le (size α) x.side (omega (arith, fits, len-f, size_is)) ∙ size_is

      start-dirs : dirs start ≡ turns true α
      start-dirs = dirs-left true α (turns false Q.type) x.side (turned ∙ ap (λ (τ : Ty). turns true τ ++ turns false Q.type) (sym left_is))

      across : dirs start ≡ map not (dirs y.side)
      across = opposite α y.side start (two.second-dirs q h2 ∙ ap (turns false) (sym left_is)) start-dirs

      abbrev js : List Wire
      js = join y.side start

      app_wires : length (made_of Q).wires ≡ length x.wires + length y.wires + b.len
      app_wires = omega (arith, ap (λ (k : Made). length k.wires) z.makes, length-append (x.wires ++ y.wires) js, length-append x.wires y.wires, join-length y.side start across, len-b)

      wires-b : b.wires ≡ st.wires + length x.wires + length y.wires
      wires-b = (two.second-left q h2 L er ew K).6

      few : b.wires + b.len ≤ 5632
      few = omega (arith, Q.few_wires, app_wires, wires-b)

      wires-at : b.wires ≡ length full.targets
      wires-at = omega (arith, wires-b, Q.wires, length-append (m.targets ++ map target x.wires) (map target y.wires), length-append m.targets (map target x.wires), length-map x.wires target, length-map y.wires target)

      -- the function's interface: the start, wired, and the rest
      halves : map code x.side ≡ map code start ++ map code end
      halves = ap (map code) (sym (take-append-drop (size α) x.side)) ∙ map-append code start end

      whole : full.stack ≡ m.stack ++ (map code start ++ (map code end ++ map code y.side))
      whole = append_assoc m.stack (map code x.side) (map code y.side)
          ∙ ap (λ (l : List ℕ). m.stack ++ l) (ap (λ (l : List ℕ). l ++ map code y.side) halves ∙ append_assoc (map code start) (map code end) (map code y.side))

      abbrev start-part : StackPart full m.stack (map code start)
      start-part = record { above = map code end ++ map code y.side; stack_is = whole }

      pub app-apart : Apart w₃ (stack_at + st.top + f.len) (stack_at + st.top) b.len b.wires
      app-apart = wired-apart H y.side start second-part start-part (stack_at + st.top + f.len) (stack_at + st.top) b.len b.wires (omega (arith, low-length)) (omega (arith, Q.top)) (sym len-b) start-length wires-at few

      abbrev v : List ℕ
      v = links w₃ b.wires (region w₃ (stack_at + st.top + f.len) b.len) (region w₃ (stack_at + st.top) b.len)

      app-wired : Holds v (more_wires full js)
      app-wired = wired-holds H y.side start second-part start-part (stack_at + st.top + f.len) (stack_at + st.top) b.len b.wires (omega (arith, low-length)) (omega (arith, Q.top)) (sym len-b) start-length wires-at few across

      end-length : length end ≡ f.len - b.len
      end-length = omega (arith, length-drop (size α) x.side, len-f, size_is)

      app-moved : Holds (applied_in w₃ (stack_at + st.top) f.len b.len b.wires) (at_stack (more_wires full js) (m.stack ++ map code end))
      unfolding applied_in
      app-moved =
          let ep : StackPart (more_wires full js) (m.stack ++ map code start) (map code end) = record { above = map code y.side; stack_is = whole ∙ sym (append_assoc m.stack (map code start) (map code end ++ map code y.side)) } in
          let bp : StackPart (more_wires full js) m.stack [] = record { above = map code start ++ (map code end ++ map code y.side); stack_is = whole } in
          moved_holds app-wired ep bp (stack_at + st.top + b.len) (stack_at + st.top) (f.len - b.len)
          (omega (arith, length-append m.stack (map code start), length-map start code, start-length, Q.top)) (omega (arith, Q.top)) (omega arith) (length-map end code ∙ end-length)

      app-holds : Holds (applied_in w₃ (stack_at + st.top) f.len b.len b.wires) (with_made m (made_of Q))
      app-holds =
          let u = applied_in w₃ (stack_at + st.top) f.len b.len b.wires in
          subst (λ (k : Made). Holds u (with_made m k)) (sym z.makes)
          (both-made m x y js (right_of x.type) end (m.stack ++ map code end) y.next refl (forget (at_stack (more_wires full js) (m.stack ++ map code end)) refl app-moved))

    -- ---- all three

    rule_is : (f : Rule → Bool) → f node.rule ≡ f (node_of Q.term q.at).rule
    rule_is = two.rule_is q h2

    pub finish-ready : Finishable w₃ node st.top f b
    finish-ready = record {
      memory = H.size;
      small = (two.first_small q h2 L, omega (arith, len-b, two.second-length q h2, ap size (two.second-left q h2 L er ew K).2, Q.knows.ok.small b.ty), omega (arith, (two.second-left q h2 L er ew K).6, two.two_wires q h2, Q.few_wires));
      height = omega (arith, whole_length, H.stack.fits);
      apart = λ h₁ h₂. ⊎_elim (λ z. (fits z, app-apart z)) (⊎_elim (λ z. absurd (true≢false (sym (rule_is is_pair ∙ z.pair) ∙ h₂))) (λ z. absurd (true≢false (sym (rule_is of_body ∙ z.body) ∙ h₁)))) T.sort;
    }

    past_is : b.past ≡ q.at + length (term_bytes Q.term)
    past_is = omega (arith, (two.second-left q h2 L er ew K).0, (two.first-left q h2 L).0, T.bytes, two.next-at q h2)

    elements-is : b.elements ≡ st.elements + length (made_of Q).elements
    elements-is = omega (arith, (two.second-left q h2 L er ew K).5, two.two-count q h2)

    next_is : b.next ≡ (made_of Q).next
    next_is = (two.second-left q h2 L er ew K).4 ∙ sym (two.two-next q h2)

    pub finish-leaves : Leaves Q (finished s node f b) (finished_in w₃ node st.top f b)
    unfolding finished finished_in
    finish-leaves = ⊎_elim applied (⊎_elim paired projected) T.sort
      where
        applied : App → Leaves Q (finished s node f b) (finished_in w₃ node st.top f b)
        applied z =
            let e₁ = rule_is of_body ∙ z.not_body in
            let e₂ = rule_is is_pair ∙ z.not_pair in
            let S = sided_at Q.knows f.ty (two.first-left q h2 L).1 (λ k. z.arrow (sym (two.first-left q h2 L).2 ∙ k)) in
            let t = right_no (rec_in s f.ty) in
            let tn : t < length Q.table = omega (arith, S.right_below, (two.first-left q h2 L).1) in
            let tt' : tree Q.table t ≡ Q.type = sym S.right ∙ ap right_of (two.first-left q h2 L).2 ∙ z.right in
            record {
              holds = subst (λ (c : Bool). Holds (cond c moved (cond (is_pair node.rule) w₃ (applied_in w₃ (stack_at + st.top) f.len b.len b.wires))) (with_made m (made_of Q))) (sym e₁)
                  (subst (λ (c : Bool). Holds (cond c w₃ (applied_in w₃ (stack_at + st.top) f.len b.len b.wires)) (with_made m (made_of Q))) (sym e₂) (app-holds z));
              past = past_is;
              named = subst (λ (c : Bool). cond c b.ty (cond (is_pair node.rule) node.first t) < length Q.table) (sym e₁) (subst (λ (c : Bool). cond c node.first t < length Q.table) (sym e₂) tn);
              type = subst (λ (c : Bool). tree Q.table (cond c b.ty (cond (is_pair node.rule) node.first t)) ≡ Q.type) (sym e₁) (subst (λ (c : Bool). tree Q.table (cond c node.first t) ≡ Q.type) (sym e₂) tt');
              len = ap (λ (c : Bool). cond c b.len (cond (is_pair node.rule) (f.len + b.len) (f.len - b.len))) e₁ ∙ ap (λ (c : Bool). cond c (f.len + b.len) (f.len - b.len)) e₂ ∙ sym (end-length z) ∙ ap (λ (k : Made). length k.side) (sym z.makes);
              next = next_is;
              elements = elements-is;
              wires = ap (λ (c : Bool). cond c b.wires (cond (is_pair node.rule) b.wires (b.wires + b.len))) e₁ ∙ ap (λ (c : Bool). cond c b.wires (b.wires + b.len)) e₂ ∙ omega (arith, wires-b z, app_wires z);
            }

        paired : Pair → Leaves Q (finished s node f b) (finished_in w₃ node st.top f b)
        paired z =
            let e₂ = rule_is is_pair ∙ z.pair in
            let e₁ = rule_is of_body ∙ z.not_body in
            let t = right_no (rec_in s f.ty) in
            let en : node.first ≡ (node_of Q.term q.at).first = ap (λ (k : Node). k.first) q.node_is in
            let tn : node.first < length Q.table = subst (λ (k : ℕ). k < length Q.table) (sym en) z.first in
            let tt' : tree Q.table node.first ≡ Q.type = ap (tree Q.table) en ∙ z.is-type in
            record {
              holds = subst (λ (c : Bool). Holds (cond c moved (cond (is_pair node.rule) w₃ (applied_in w₃ (stack_at + st.top) f.len b.len b.wires))) (with_made m (made_of Q))) (sym e₁)
                  (subst (λ (c : Bool). Holds (cond c w₃ (applied_in w₃ (stack_at + st.top) f.len b.len b.wires)) (with_made m (made_of Q))) (sym e₂) (pair-holds z));
              past = past_is;
              named = subst (λ (c : Bool). cond c b.ty (cond (is_pair node.rule) node.first t) < length Q.table) (sym e₁) (subst (λ (c : Bool). cond c node.first t < length Q.table) (sym e₂) tn);
              type = subst (λ (c : Bool). tree Q.table (cond c b.ty (cond (is_pair node.rule) node.first t)) ≡ Q.type) (sym e₁) (subst (λ (c : Bool). tree Q.table (cond c node.first t) ≡ Q.type) (sym e₂) tt');
              len = ap (λ (c : Bool). cond c b.len (cond (is_pair node.rule) (f.len + b.len) (f.len - b.len))) e₁ ∙ ap (λ (c : Bool). cond c (f.len + b.len) (f.len - b.len)) e₂ ∙ omega (arith, len-f, len-b, length-append x.side y.side, ap (λ (k : Made). length k.side) z.makes);
              next = next_is;
              elements = elements-is;
              wires = ap (λ (c : Bool). cond c b.wires (cond (is_pair node.rule) b.wires (b.wires + b.len))) e₁ ∙ ap (λ (c : Bool). cond c b.wires (b.wires + b.len)) e₂ ∙ omega (arith, (two.second-left q h2 L er ew K).6, ap (λ (k : Made). length k.wires) z.makes, length-append x.wires y.wires);
            }

        projected : Proj → Leaves Q (finished s node f b) (finished_in w₃ node st.top f b)
        projected z =
            let e₁ = rule_is of_body ∙ z.body in
            let t = right_no (rec_in s f.ty) in
            record {
              holds = subst (λ (c : Bool). Holds (cond c moved (cond (is_pair node.rule) w₃ (applied_in w₃ (stack_at + st.top) f.len b.len b.wires))) (with_made m (made_of Q))) (sym e₁) (proj-holds z);
              past = past_is;
              named = subst (λ (c : Bool). cond c b.ty (cond (is_pair node.rule) node.first t) < length Q.table) (sym e₁) (two.second-left q h2 L er ew K).1;
              type = subst (λ (c : Bool). tree Q.table (cond c b.ty (cond (is_pair node.rule) node.first t)) ≡ Q.type) (sym e₁) ((two.second-left q h2 L er ew K).2 ∙ z.same);
              len = ap (λ (c : Bool). cond c b.len (cond (is_pair node.rule) (f.len + b.len) (f.len - b.len))) e₁ ∙ len-b ∙ ap (λ (k : Made). length k.side) (sym z.makes);
              next = next_is;
              elements = elements-is;
              wires = ap (λ (c : Bool). cond c b.wires (cond (is_pair node.rule) b.wires (b.wires + b.len))) e₁ ∙ omega (arith, (two.second-left q h2 L er ew K).6, ap (λ (k : Made). length k.wires) z.makes, length-append x.wires y.wires);
            }
