-- The row of a clause that the grammar has read: its offsets are those of the clause's parts. Assumes nothing.
use Prim.Native.Nat.{ℕ, ◌-◌, ◌<◌}
use mathlib.Core.Path.{◌≡◌, refl, sym, ap, ◌∙◌, subst}
use mathlib.Core.Bool.{Bool, true, false, not, ◌&&◌, ◌||◌, cond}
use mathlib.Core.List.{List}
use native.Mathlib.Omega.{arith}
use lib.ListN.{length, take, drop}
use Rattle.calculus.specs.Answer.{Answer, good, refused, ◌>>=◌}
use Rattle.calculus.proofs.Answers.{refused≢good, good-inj, on-bind, on-need}
use Rattle.laws.proofs.Tests.{T-is}
use Rattle.notation_calculus.specs.Words.{round, equals, Token, Name, name, Word, run}
use Rattle.notation_calculus.specs.Trees.{TypeTree, Tree, Body, of_type, of_term, Clause}
use Rattle.notation_calculus.specs.Grammar.{most_nested, Got, got, peek, behind, place, is_token, is, expect, is_name, is_part, behind_group, begins_atom, name_at, parameters_at, numbers_at, type_at, term_at, clause_at, is_type}
use Rattle.words.specs.Next.{Said, run_at}
use Rattle.words.specs.Lexed.{from, Lexed, Onward, Stands}
use Rattle.grammar.specs.Ends.{rest_of}
use Rattle.grammar.specs.Skips.{opens_group}
use Rattle.clauses.specs.declared.groups.Group.{Group}
use Rattle.clauses.specs.Groups.{code_at, GroupRead}
use Rattle.clauses.specs.Rows.{body_at, key_for, ClauseEnds, RowRead}
use Rattle.clauses.proofs.ListLaws.{is_code, skip_first, name-read, types_group, numbers_group}

-- what leaves words has read something
pub rest_back : {A C : Type 0} (m : Answer (Got A)) (ws : List Word) → rest_of m ≡ good ws → ((g : Got A) → m ≡ good g → g.rest ≡ ws → C) → C
rest_back (good g) ws e k = k g refl (good-inj e)
rest_back (refused why) ws e k = absurd (refused≢good e)

same-name : (a b : Name) → ◌≡◌ {A = Rattle.notation_calculus.specs.Words.Token} (name a) (name b) → a ≡ b
same-name a b e = cc

type_sort : (m : Answer (Got TypeTree)) (b : Got Body) → (m >>= λ t. got (of_type t.value) t.rest) ≡ good b → is_type b.value ≡ true
type_sort (good t) b e = ap (λ (g : Got Body). is_type g.value) (sym (good-inj e))
type_sort (refused why) b e = absurd (refused≢good e)

term_sort : (m : Answer (Got Tree)) (b : Got Body) → (m >>= λ t. got (of_term t.value) t.rest) ≡ good b → is_type b.value ≡ false
term_sort (good t) b e = ap (λ (g : Got Body). is_type g.value) (sym (good-inj e))
term_sort (refused why) b e = absurd (refused≢good e)

body_sort : (sort : Bool) (us : List Word) (b : Got Body) → body_at sort us ≡ good b → is_type b.value ≡ sort
body_sort true us b e = type_sort (type_at most_nested false us) b e
body_sort false us b e = term_sort (term_at most_nested us) b e

-- a name, its groups and `=` begin no atom
abbrev atom_by : Token → Bool → Bool
atom_by t b = is_token round t || is_part t || (is_name t && not (is_name t && b))

pub head_none : (ws us : List Word) (n : Name) → (peek ws).token ≡ name n → behind_group 0 (behind ws) ≡ behind_group 0 us → is equals us ≡ true → begins_atom ws ≡ false
head_none ws us n e f g =
    let here : behind_group 0 us ≡ us = skip_first us ∙ ap (λ (c : ℕ). cond (opens_group c) (behind_group 1 (behind us)) us) (is_code equals us g) in
    ap (λ (t : Token). atom_by t (is equals (behind_group 0 (behind ws)))) e ∙ ap (atom_by (name n)) (ap (is equals) (f ∙ here) ∙ g)

module _ (text : List ℕ) (at : ℕ) (w : Said) (s : Stands text at w) where
  -- a name that stands first, by its offsets
  pub spelled-here : (n : Name) → w.code ≡ 24 → (peek (from text at)).token ≡ name n → n ≡ run_at text w.place
  spelled-here n z e =
      let long : w.end - w.place ≡ run (drop w.place text) = omega (arith, s.whole z) in
      same-name n _ (sym e ∙ s.named z) ∙ ap (λ (k : ℕ). take k (drop w.place text)) long

  pub name-onward : w.code ≡ 24 → Onward text at w.end
  name-onward z = s.onward (λ q. omega arith)

  pub name-some : w.code ≡ 24 → 0 < run (drop w.place text)
  name-some z = omega (arith, s.long z, s.whole z)

  pub place_inside : w.code ≡ 24 → w.place < length text
  place_inside z = omega (arith, s.long z, (name-onward z).lexed.within)

  module _ (sort : Bool) (end : ℕ) (k : ClauseEnds text at sort end) where
    abbrev here : List Word
    here = from text at

    pub name-first : w.code ≡ 24
    name-first = rest_back (clause_at (body_at sort) here) _ k.reads λ g h r. on-bind (name_at here) _ g h λ x hx h₁. s.code ∙ (name-read here x hx).code

    module _ (gt gk : Group) (e : Said) (ht : GroupRead text w.end 17 gt) (hk : GroupRead text gt.end 19 gk) (se : Stands text gk.end e) (key : ℕ) (keyed : key ≡ key_for sort (run_at text w.place)) (stop : ℕ) (stops : Lexed text stop × (from text stop ≡ from text end)) where
      pub row_read : RowRead text at sort end (record { name = w.place; typed = w.end; numbered = gt.end; body = e.end; end = stop; sort = sort; key = key; types = gt.count; numbers = gk.count })
      row_read =
          rest_back (clause_at (body_at sort) here) _ k.reads λ g h r.
          on-bind (name_at here) _ g h λ x hx h₁.
          on-bind (parameters_at x.rest) _ g h₁ λ ts hts h₂.
          on-bind (numbers_at ts.rest) _ g h₂ λ ks hks h₃.
          on-bind (expect equals ks.rest) _ g h₃ λ us hus h₄.
          on-bind (body_at sort us) _ g h₄ λ b hb h₅.
          on-need (is equals ks.rest) 32 (place ks.rest) _ us hus λ te e₆.
          let nr = name-read here x hx in
          let z : w.code ≡ 24 = s.code ∙ nr.code in
          let o = name-onward z in
          let xr : x.rest ≡ from text w.end = nr.rest ∙ o.rest in
          let hts' : parameters_at (from text w.end) ≡ good ts = subst (λ (us : List Word). parameters_at us ≡ good ts) xr hts in
          let it = types_group (from text w.end) ts.value ts.rest hts' in
          let tr : ts.rest ≡ from text gt.end = sym it.past ∙ sym ht.past in
          let hks' : numbers_at (from text gt.end) ≡ good ks = subst (λ (us : List Word). numbers_at us ≡ good ks) tr hks in
          let ik = numbers_group (from text gt.end) ks.value ks.rest hks' in
          let kr : ks.rest ≡ from text gk.end = sym ik.past ∙ sym hk.past in
          let yes : is equals ks.rest ≡ true = T-is (is equals ks.rest) te in
          let equal : code_at ks.rest ≡ 13 = is_code equals ks.rest yes in
          let past : behind_group 0 (behind here) ≡ behind_group 0 ks.rest = ap (behind_group 0) o.rest ∙ it.skip ∙ ap (behind_group 0) tr ∙ ik.skip in
          let ze : e.code ≡ 13 = se.code ∙ ap code_at (sym kr) ∙ equal in
          let oe = se.onward (λ q. omega arith) in
          let ur : us ≡ from text e.end = sym (good-inj e₆) ∙ ap behind kr ∙ oe.rest in
          let br : b.rest ≡ from text end = ap (λ (q : Got Clause). q.rest) (good-inj h₅) ∙ r in
          let bs : b.rest ≡ from text stop = br ∙ sym stops.1 in
          let c : Clause = record { head = x.value; types = ts.value; numbers = ks.value; body = b.value; end = place b.rest } in
          record {
            clause = c;
            is = h ∙ sym h₅ ∙ ap (λ (us : List Word). got c us) br;
            row = record {
              name_place = nr.place ∙ sym s.place;
              name_is = spelled-here x.value.name z nr.token;
              name_inside = omega (arith, place_inside z);
              heads = ap begins_atom s.begins ∙ head_none here ks.rest x.value.name nr.token past yes;
              types_lexed = o.lexed;
              types = hts' ∙ ap (λ (us : List Word). got ts.value us) tr;
              numbers_lexed = ht.lexed;
              stop = gk.end;
              numbers = hks' ∙ ap (λ (us : List Word). got ks.value us) kr;
              equal = ap (λ (us : List Word). expect equals us) (sym kr) ∙ hus ∙ ap good ur;
              body_lexed = oe.lexed;
              body = ap (body_at sort) (sym ur) ∙ hb ∙ ap (λ (us : List Word). got b.value us) bs;
              end_lexed = stops.0;
              end = ap place bs;
              sort = body_sort sort us b hb;
              key = keyed;
              type_count = ht.counted ∙ it.count;
              number_count = hk.counted ∙ ik.count;
              few_types = ht.few;
              few_numbers = hk.few;
            };
          }
