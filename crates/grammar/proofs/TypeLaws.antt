-- One level of a type step by step. Assumes nothing.
use Prim.Native.Nat.{ℕ, suc, ◌+◌, ◌-◌}
use mathlib.Core.Path.{◌≡◌, refl, ap, ◌∙◌}
use mathlib.Core.Bool.{Bool, true, false, cond}
use mathlib.Core.List.{List}
use native.Mathlib.Omega.{arith}
use lib.ListN.{length}
use Rattle.calculus.specs.Answer.{Answer, good, ◌>>=◌}
use Rattle.notation_calculus.specs.Words.{times, endRound, square, endSquare, curly, endCurly, Word}
use Rattle.notation_calculus.specs.Grammar.{behind, is}
use Rattle.words.specs.Next.{Said}
use Rattle.words.specs.Lexed.{from, Onward, Stands}
use Rattle.std.proofs.Common.{Ok, Err}
use Rattle.answers.specs.declared.Refusal.{Refusal as Why}
use Rattle.answers.specs.declared.Reason.TheVariants.{TextLimit}
use Rattle.answers.specs.Refusals.{refusal_at}
use Rattle.grammar.specs.Ends.{End, Ends, type_step}
use Rattle.grammar.specs.Skips.{Step, expect_code, group_end, number_end, numbers_end, use_end, inside_end, type_atom_end, product_end, arrow_end, times_end}
use Rattle.grammar.proofs.EndLaws.{is_yes, is_no, ends_bad, ends_as, ends-stop, ends_then, ends-expect, step_is}
use Rattle.grammar.proofs.LoopLaws.{group_none}
use Rattle.grammar.proofs.SkipLaws.{type_by, type_none}

module _ (text : List ℕ) (at : ℕ) (w : Said) (s : Stands text at w) (read : Step) where
  abbrev here : List Word
  here = from text at

  on : (n : ℕ) → w.code ≡ suc n → Onward text at w.end
  on n e = s.onward (λ z. omega arith)

  product_is : w.code ≡ 10 → product_end read here ≡ read (from text w.end)
  product_is e = ap (λ (b : Bool). cond b (read (behind here)) (good here)) (is_yes text at w s times e) ∙ ap read (on 9 e).rest

  product-none : ¬ (w.code ≡ 10) → product_end read here ≡ good here
  product-none e = ap (λ (b : Bool). cond b (read (behind here)) (good here)) (is_no text at w s times e)

-- ---- a use, and a type in parentheses

-- behind a name: no types, no types and no numbers
module _ (read : Step) (ws : List Word) (none : is square ws ≡ false) where
  pub use_numbers : use_end read ws ≡ numbers_end ws
  use_numbers = ap (λ (m : Answer (List Word)). m >>= λ us. numbers_end us) (group_none ws square endSquare read none)

  pub use_none : is curly ws ≡ false → use_end read ws ≡ good ws
  use_none e = use_numbers ∙ group_none ws curly endCurly number_end e

module _ (text : List ℕ) (at : ℕ) (read : Step) where
  pub use_on : (p : ℕ) → Ends text (length (from text at) + 1) (group_end square endSquare read (from text at)) (Ok p) → (r : End) → Ends text (length (from text p) + 1) (numbers_end (from text p)) r → Ends text (length (from text at) + 1) (use_end read (from text at)) r
  use_on p e r u = ends_then text _ _ _ (group_end square endSquare read (from text at)) _ (λ us. numbers_end us) p r refl e (omega (arith, e.fewer)) u

  pub inside_on : (p : ℕ) → Ends text (length (from text at)) (read (from text at)) (Ok p) → (r : End) → Ends text (length (from text p)) (expect_code 12 (from text p)) r → Ends text (length (from text at)) (inside_end read (from text at)) r
  inside_on p e r u = ends-expect text endRound _ _ (read (from text at)) _ p r refl e (omega arith) u

-- ---- one level of a type

module _ (text : List ℕ) (at more : ℕ) (tight : Bool) where
  pub type_deep : more ≡ 0 → (w : Said) → Stands text at w → (why : Why) → why ≡ refusal_at TextLimit w.place → Ends text (length (from text at)) (type_step more tight (from text at)) (Err why)
  type_deep e w s why d = ends_bad text at w _ TextLimit why s d (type_none more tight (from text at) e)

  module _ (some : ¬ (more ≡ 0)) where
    abbrev arrowOn : Step
    arrowOn vs = cond tight (good vs) (arrow_end (type_step (more - 1) false) vs)

    abbrev productOn : Step
    productOn us = product_end (type_step (more - 1) true) us >>= λ vs. arrowOn vs

    pub type-stop : (why : Why) → Ends text (length (from text at)) (type_atom_end (type_step (more - 1) false) (from text at)) (Err why) → Ends text (length (from text at)) (type_step more tight (from text at)) (Err why)
    type-stop why first = ends-stop text _ _ productOn why (type_by more tight (from text at) some) first

    -- by the word behind the atom
    module _ (a : ℕ) (first : Ends text (length (from text at)) (type_atom_end (type_step (more - 1) false) (from text at)) (Ok a)) (w : Said) (s : Stands text a w) where
      abbrev behind_atom : List Word
      behind_atom = from text a

      level-is : (m : Answer (List Word)) → product_end (type_step (more - 1) true) behind_atom ≡ m → type_step more tight (from text at) ≡ (m >>= λ vs. arrowOn vs)
      level-is m e = step_is text _ _ _ productOn a (type_by more tight (from text at) some) first ∙ ap (λ (k : Answer (List Word)). k >>= λ vs. arrowOn vs) e

      pub type-times : w.code ≡ 10 → (r : End) → Ends text (length (from text w.end)) (times_end (type_step (more - 1)) tight (from text w.end)) r → Ends text (length (from text at)) (type_step more tight (from text at)) r
      type-times e r t =
          let o = s.onward (λ q. omega arith) in
          ends_as text _ _ _ _ r (omega (arith, o.fewer, first.fewer)) (level-is _ (product_is text a w s (type_step (more - 1) true) e)) t

      module _ (e : ¬ (w.code ≡ 10)) where
        arrow_is : type_step more tight (from text at) ≡ arrowOn behind_atom
        arrow_is = level-is _ (product-none text a w s (type_step (more - 1) true) e)

        pub type-tight : tight ≡ true → Ends text (length (from text at)) (type_step more tight (from text at)) (Ok a)
        type-tight f = record { is = arrow_is ∙ ap (λ (x : Bool). cond x (good behind_atom) (arrow_end (type_step (more - 1) false) behind_atom)) f; fewer = first.fewer; lexed = first.lexed }

        pub type-loose : tight ≡ false → (r : End) → Ends text (length behind_atom + 1) (arrow_end (type_step (more - 1) false) behind_atom) r → Ends text (length (from text at)) (type_step more tight (from text at)) r
        type-loose f r t = ends_as text _ _ _ _ r (omega (arith, first.fewer)) (arrow_is ∙ ap (λ (x : Bool). cond x (good behind_atom) (arrow_end (type_step (more - 1) false) behind_atom)) f) t

-- ---- behind the sign of a product

module _ (text : List ℕ) (at more : ℕ) (tight : Bool) where
  abbrev onward : Step
  onward vs = cond tight (good vs) (arrow_end (type_step more false) vs)

  module _ (b : ℕ) (first : Ends text (length (from text at)) (type_step more true (from text at)) (Ok b)) where
    times-is : (x : Bool) → tight ≡ x → times_end (type_step more) tight (from text at) ≡ cond x (good (from text b)) (arrow_end (type_step more false) (from text b))
    times-is x e = step_is text _ _ _ onward b refl first ∙ ap (λ (k : Bool). cond k (good (from text b)) (arrow_end (type_step more false) (from text b))) e

    pub times-tight : tight ≡ true → Ends text (length (from text at)) (times_end (type_step more) tight (from text at)) (Ok b)
    times-tight e = record { is = times-is true e; fewer = first.fewer; lexed = first.lexed }

    pub times-loose : tight ≡ false → (r : End) → Ends text (length (from text b) + 1) (arrow_end (type_step more false) (from text b)) r → Ends text (length (from text at)) (times_end (type_step more) tight (from text at)) r
    times-loose e r t = ends_as text _ _ _ _ r (omega (arith, first.fewer)) (times-is false e) t
