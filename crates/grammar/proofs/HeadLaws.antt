-- Groups in brackets, word by word, and where an atom begins. Assumes nothing.
use Prim.Native.Nat.{ℕ, zero, suc, ◌+◌, ◌-◌, ◌≤◌, ◌<◌}
use mathlib.Core.Path.{◌≡◌, refl, sym, ap, ◌∙◌}
use mathlib.Core.Bool.{Bool, true, false, not, ◌&&◌, ◌||◌, cond}
use mathlib.Core.List.{List, [], ◌∷◌}
use native.Mathlib.Omega.{arith}
use native.Mathlib.Decide.{ℕ_discrete}
use lib.Dec.{eqb}
use lib.ListN.{length}
use borrow.Author.Tests.{eq-eqb, ne_eqb, eqb-true, eqb-false}
use Rattle.notation_calculus.specs.Words.{equals, square, endSquare, curly, endCurly, round, Word}
use Rattle.notation_calculus.specs.Grammar.{peek, behind, is, is_name, is_part, is_head, behind_group, begins_atom}
use Rattle.words.specs.Tables.{token_code}
use Rattle.words.specs.Next.{Said}
use Rattle.words.specs.Lexed.{from, Lexed, Onward, Stands}
use Rattle.words.specs.Marks.{Marks}
use Rattle.grammar.specs.Skips.{opens_group, closes_group, depth_by, stops_by}
use Rattle.grammar.proofs.EndLaws.{token_is, is_no, name_no, part_no}
use Rattle.grammar.proofs.StepLaws.{code_not}

eqb_sym : (a b : ℕ) → eqb a b ≡ eqb b a
eqb_sym a b = elim (ℕ_discrete a b) [ yes e ↦ eq-eqb a b e ∙ sym (eq-eqb b a (sym e)) | no d ↦ ne_eqb a b d ∙ sym (ne_eqb b a (λ e. d (sym e))) ]

-- ---- the tests that the code makes

pub one_of : (a b c : ℕ) → c ≡ a → true ≡ (eqb a c || eqb b c)
one_of a b c e = sym (ap (λ (x : Bool). x || eqb b c) (eq-eqb a c (sym e)))

pub other_of : (a b c : ℕ) → ¬ (c ≡ a) → eqb c b ≡ (eqb a c || eqb b c)
other_of a b c e = eqb_sym c b ∙ sym (ap (λ (x : Bool). x || eqb b c) (ne_eqb a c (λ q. e (sym q))))

module _ (c deep : ℕ) where
  abbrev depth_of : Bool → Bool → ℕ
  depth_of o k = cond o (deep + 1) (cond k (deep - 1) deep)

  depth-of : (o k : Bool) → opens_group c ≡ o → closes_group c ≡ k → depth_by c deep ≡ depth_of o k
  depth-of o k e f = ap (λ (x : Bool). depth_of x (closes_group c)) e ∙ ap (depth_of o) f

  pub depth-opens : (o : Bool) → o ≡ opens_group c → o ≡ true → deep + 1 ≡ depth_by c deep
  depth-opens o e f = sym (depth-of true (closes_group c) (sym e ∙ f) refl)

  module _ (o : Bool) (e : o ≡ opens_group c) (f : o ≡ false) (k : Bool) (g : k ≡ closes_group c) where
    pub depth-closes : k ≡ true → deep - 1 ≡ depth_by c deep
    depth-closes h = sym (depth-of false true (sym e ∙ f) (sym g ∙ h))

    pub depth-closed : k ≡ true → deep ≡ 0 → 0 ≡ depth_by c deep
    depth-closed h z = let n : 0 ≡ deep - 1 = omega arith in n ∙ depth-closes h

    pub depth_same : k ≡ false → deep ≡ depth_by c deep
    depth_same h = sym (depth-of false false (sym e ∙ f) (sym g ∙ h))

  abbrev stops_of : Bool → Bool → Bool → Bool
  stops_of z d o = z || (d && not o)

  stops-of : (z d : Bool) → eqb c 0 ≡ z → eqb deep 0 ≡ d → stops_by c deep ≡ stops_of z d (opens_group c)
  stops-of z d e f = ap (λ (x : Bool). stops_of x (eqb deep 0) (opens_group c)) e ∙ ap (λ (x : Bool). stops_of z x (opens_group c)) f

  pub stops_end : c ≡ 0 → true ≡ stops_by c deep
  stops_end e = sym (stops-of true (eqb deep 0) (eq-eqb c 0 e) refl)

  pub stops-none : ¬ (c ≡ 0) → deep ≡ 0 → (o : Bool) → o ≡ opens_group c → not o ≡ stops_by c deep
  stops-none e f o g = ap not g ∙ sym (stops-of false true (ne_eqb c 0 e) (eq-eqb deep 0 f))

  pub stops-inside : ¬ (c ≡ 0) → ¬ (deep ≡ 0) → false ≡ stops_by c deep
  stops-inside e f = sym (stops-of false false (ne_eqb c 0 e) (ne_eqb deep 0 f))

-- ---- a word of a group

cons_is : (us : List Word) → 0 < length us → us ≡ peek us ∷ behind us
cons_is [] h = absurd (omega arith)
cons_is (u ∷ us) h = refl

opens-is : (w : Word) → (is square (w ∷ []) || is curly (w ∷ [])) ≡ opens_group (token_code w.token)
opens-is w = ap (λ (b : Bool). b || is curly (w ∷ [])) (token_is square w.token) ∙ ap (λ (b : Bool). eqb 17 (token_code w.token) || b) (token_is curly w.token)

closes_is : (w : Word) → (is endSquare (w ∷ []) || is endCurly (w ∷ [])) ≡ closes_group (token_code w.token)
closes_is w = ap (λ (b : Bool). b || is endCurly (w ∷ [])) (token_is endSquare w.token) ∙ ap (λ (b : Bool). eqb 18 (token_code w.token) || b) (token_is endCurly w.token)

-- behind a word, by what it opens and closes
abbrev pub onward : ℕ → Word → List Word → Bool → Bool → List Word
onward zero w ws o k = cond o (behind_group 1 ws) (w ∷ ws)
onward (suc d) w ws o k = cond o (behind_group (suc (suc d)) ws) (cond k (behind_group d ws) (behind_group (suc d) ws))

pub onward-is : (d : ℕ) (w : Word) (ws : List Word) → behind_group d (w ∷ ws) ≡ onward d w ws (opens_group (token_code w.token)) (closes_group (token_code w.token))
onward-is zero w ws = ap (λ (o : Bool). cond o (behind_group 1 ws) (w ∷ ws)) (opens-is w)
onward-is (suc d) w ws = ap (λ (o : Bool). cond o (behind_group (suc (suc d)) ws) (cond (is endSquare (w ∷ []) || is endCurly (w ∷ [])) (behind_group d ws) (behind_group (suc d) ws))) (opens-is w) ∙ ap (λ (k : Bool). cond (opens_group (token_code w.token)) (behind_group (suc (suc d)) ws) (cond k (behind_group d ws) (behind_group (suc d) ws))) (closes_is w)

onward-depth : (d : ℕ) (w : Word) (ws : List Word) (o k : Bool) → (eqb d 0 && not o) ≡ false → onward d w ws o k ≡ behind_group (cond o (d + 1) (cond k (d - 1) d)) ws
onward-depth zero w ws true k e = refl
onward-depth zero w ws false k e = let z : ◌≡◌ {A = ℕ} 0 1 = cc in absurd (omega arith)
onward-depth (suc d) w ws true k e = let n : suc (suc d) ≡ suc d + 1 = omega arith in ap (λ (j : ℕ). behind_group j ws) n
onward-depth (suc d) w ws false true e = let n : d ≡ suc d - 1 = omega arith in ap (λ (j : ℕ). behind_group j ws) n
onward-depth (suc d) w ws false false e = refl

or_none_lem : (a b : Bool) → (a || b) ≡ false → (a ≡ false) × (b ≡ false)
or_none_lem true b e = let z : ◌≡◌ {A = ℕ} 0 1 = cc in absurd (omega arith)
or_none_lem false b e = (refl, e)

or_some : (a b : Bool) → (a || b) ≡ true → a ≡ false → b ≡ true
or_some true b e f = let z : ◌≡◌ {A = ℕ} 0 1 = cc in absurd (omega arith)
or_some false b e f = e

module _ (text : List ℕ) (at : ℕ) (w : Said) (s : Stands text at w) (deep : ℕ) where
  abbrev first : Word
  first = peek (from text at)

  group_on : stops_by w.code deep ≡ false → behind_group deep (from text at) ≡ behind_group (depth_by w.code deep) (from text w.end)
  group_on e =
      let n = or_none_lem _ _ e in
      let o = s.onward (eqb-false w.code 0 n.0) in
      ap (behind_group deep) (cons_is (from text at) (omega (arith, o.fewer))) ∙ onward-is deep first (behind (from text at)) ∙ ap (λ (c : ℕ). onward deep first (behind (from text at)) (opens_group c) (closes_group c)) (sym s.code) ∙ onward-depth deep first (behind (from text at)) (opens_group w.code) (closes_group w.code) n.1 ∙ ap (behind_group (depth_by w.code deep)) o.rest

  equals-is : is equals (from text at) ≡ eqb w.code 13
  equals-is = token_is equals first.token ∙ ap (eqb 13) (sym s.code) ∙ eqb_sym 13 w.code

  last-by : (d : ℕ) (us : List Word) → token_code (peek us).token ≡ 0 → behind us ≡ [] → is equals (behind_group d us) ≡ false
  last-by zero [] e f = refl
  last-by (suc d) [] e f = refl
  last-by zero (u ∷ us) e f = ap (is equals) (onward-is zero u us ∙ ap (λ (c : ℕ). onward zero u us (opens_group c) (closes_group c)) e) ∙ token_is equals u.token ∙ ap (eqb 13) e
  last-by (suc d) (u ∷ us) e f = ap (is equals) (onward-is (suc d) u us ∙ ap (λ (c : ℕ). onward (suc d) u us (opens_group c) (closes_group c)) e ∙ ap (behind_group (suc d)) f)

  stop-by : (d : ℕ) (us : List Word) → 0 < length us → eqb d 0 ≡ true → opens_group (token_code (peek us).token) ≡ false → is equals (behind_group d us) ≡ is equals us
  stop-by d [] h e f = absurd (omega arith)
  stop-by zero (u ∷ us) h e f = ap (is equals) (onward-is zero u us ∙ ap (λ (o : Bool). cond o (behind_group 1 us) (u ∷ us)) f)
  stop-by (suc d) (u ∷ us) h e f = absurd (omega (arith, eqb-true (suc d) 0 e))

  and_both : (a b : Bool) → (a && b) ≡ true → (a ≡ true) × (b ≡ true)
  and_both true b e = (refl, e)
  and_both false b e = let z : ◌≡◌ {A = ℕ} 0 1 = cc in absurd (omega arith)

  not_yes : (b : Bool) → not b ≡ true → b ≡ false
  not_yes true e = sym e
  not_yes false e = refl

  group-stop : stops_by w.code deep ≡ true → eqb w.code 13 ≡ is equals (behind_group deep (from text at))
  group-stop e = by (eqb w.code 0) refl
    where
      by : (z : Bool) → eqb w.code 0 ≡ z → eqb w.code 13 ≡ is equals (behind_group deep (from text at))
      by true q =
          let z = eqb-true w.code 0 q in
          ap (λ (c : ℕ). eqb c 13) z ∙ sym (last-by deep (from text at) (sym s.code ∙ z) (s.last z))
      by false q =
          let b = and_both _ _ (or_some (eqb w.code 0) _ e q) in
          let o = s.onward (eqb-false w.code 0 q) in
          sym (stop-by deep (from text at) (omega (arith, o.fewer)) b.0 (ap opens_group (sym s.code) ∙ not_yes _ b.1) ∙ equals-is)

-- a loop over the words of groups
pub record Grouped (text : List ℕ) (start at deep : ℕ) (w : Said) : Type 0 where
  pub lexed : Lexed text at
  pub stands : Stands text at w
  pub low : deep ≤ at
  pub same : is equals (behind_group 0 (from text start)) ≡ is equals (behind_group deep (from text at))

pub groups_first : (text : List ℕ) (start : ℕ) (w : Said) → Lexed text start → Stands text start w → Grouped text start start 0 w
groups_first text start w l s = record { lexed = l; stands = s; low = omega arith; same = refl }

module _ (text : List ℕ) (start at deep : ℕ) (w : Said) (g : Grouped text start at deep w) (e : stops_by w.code deep ≡ false) where
  pub groups_on : Onward text at w.end
  groups_on = g.stands.onward (eqb-false w.code 0 (or_none_lem _ _ e).0)

  depth_low : (c d : ℕ) → depth_by c d ≤ d + 1
  depth_low c d = by (opens_group c) (closes_group c)
    where
      by : (o k : Bool) → cond o (d + 1) (cond k (d - 1) d) ≤ d + 1
      by true k = omega arith
      by false true = omega arith
      by false false = omega arith

  pub groups_turn : (d : ℕ) → d ≡ depth_by w.code deep → (v : Said) → Stands text w.end v → Grouped text start w.end d v
  groups_turn d h v s = record {
    lexed = groups_on.lexed;
    stands = s;
    low = omega (arith, h, depth_low w.code deep, groups_on.past, g.low);
    same = g.same ∙ ap (is equals) (group_on text at w g.stands deep e ∙ ap (λ (k : ℕ). behind_group k (from text w.end)) (sym h));
  }

pub groups_stop : (text : List ℕ) (start at deep : ℕ) (w : Said) → Grouped text start at deep w → stops_by w.code deep ≡ true → eqb w.code 13 ≡ is equals (behind_group 0 (from text start))
groups_stop text start at deep w g e = group-stop text at w g.stands deep e ∙ sym g.same

-- ---- the sign behind a name

pub heads_equals : (text : List ℕ) (at : ℕ) (w : Said) → Stands text at w → w.code ≡ 13 → true ≡ is equals (behind_group 0 (from text at))
heads_equals text at w s e = sym (eq-eqb w.code 13 e) ∙ group-stop text at w s 0 (ap (λ (c : ℕ). stops_by c 0) e)

pub heads-none : (us : List Word) → opens_group (token_code (peek us).token) ≡ false → ¬ (token_code (peek us).token ≡ 13) → false ≡ is equals (behind_group 0 us)
heads-none [] o e = refl
heads-none (u ∷ us) o e = sym (ap (is equals) (onward-is zero u us ∙ ap (λ (b : Bool). cond b (behind_group 1 us) (u ∷ us)) o) ∙ token_is equals u.token ∙ ne_eqb 13 (token_code u.token) (λ q. e (sym q)))

-- a word that opens no group as it was told opens none
pub opens-none : (text : List ℕ) (at : ℕ) (w : Said) → Marks text at w → opens_group w.code ≡ false → opens_group (token_code (peek (from text at)).token) ≡ false
opens-none text at w m e =
    let n = or_none_lem _ _ e in
    let c = token_code (peek (from text at)).token in
    let a = m.square (λ z. eqb-false 17 w.code n.0 (sym z)) in
    let b = m.curly (λ z. eqb-false 19 w.code n.1 (sym z)) in
    ap (λ (x : Bool). x || eqb 19 c) (ne_eqb 17 c (λ q. a (sym q))) ∙ ne_eqb 19 c (λ q. b (sym q))

-- ---- where an atom begins

module _ (text : List ℕ) (at : ℕ) (w : Said) (s : Stands text at w) where
  abbrev atom_of : Bool → Bool → Bool → Bool
  atom_of r p n = r || p || (n && not (is_head (from text at)))

  atom-of : (r p n : Bool) → is round (from text at) ≡ r → is_part (peek (from text at)).token ≡ p → is_name (peek (from text at)).token ≡ n → begins_atom (from text at) ≡ atom_of r p n
  atom-of r p n e f g = ap (λ (x : Bool). atom_of x (is_part (peek (from text at)).token) (is_name (peek (from text at)).token)) e ∙ ap (λ (x : Bool). atom_of r x (is_name (peek (from text at)).token)) f ∙ ap (atom_of r p) g

  module _ (d : ¬ (w.code ≡ 11)) where
    module _ (f : ¬ (w.code ≡ 22)) where
      pub begins-none : ¬ (w.code ≡ 24) → false ≡ begins_atom (from text at)
      begins-none e = sym (atom-of false false false (is_no text at w s round d) (part_no (peek (from text at)).token (code_not text at w s 22 f)) (name_no (peek (from text at)).token (code_not text at w s 24 e)))
