-- The lines of the definitions, piece by piece. Assumes nothing.
use mathlib.Core.Path.{◌≡◌, refl, ap, ap₂, sym, ◌∙◌}
use mathlib.Core.List.{List, [], ◌∷◌, ◌++◌, append-nil, append_assoc}
use Prim.Native.Nat.{ℕ, zero, suc, ◌+◌, ◌-◌, ◌≤◌}
use native.Mathlib.Omega.{arith}
use lib.ListN.{length, get_or, take, replicate, length-append}
use lib.Seq.{take-append_seam}
use Rattle.calculus.specs.Terms.{part_at}
use Rattle.calculus.specs.Listing.{Text, line, field, terminal_fields, names}
use Rattle.parts.specs.Table.{name_at, padded}
use Rattle.lines.specs.OneLine.{point_line, part_line, wired_line, pin_line, refused_line}
use Rattle.lines.specs.Figure.{figure, figures}
use Rattle.lines.proofs.Decimal.{figures_are}

field_is : (n : ℕ) → 32 ∷ figure n ≡ field n
unfolding figure
field_is n = refl

-- the end of a line behind a piece is the end of both
ended : (xs ys : Text) → xs ++ line ys ≡ line (xs ++ ys)
ended xs ys = sym (append_assoc xs ys (10 ∷ []))

pub point_text : (i : ℕ) → (112 ∷ 111 ∷ 105 ∷ 110 ∷ 116 ∷ []) ++ line (figures 2 i) ≡ point_line i
unfolding point_line
point_text i = ap (λ (x : Text). (112 ∷ 111 ∷ 105 ∷ 110 ∷ 116 ∷ []) ++ line x) (figures_are 2 i)

pub part-text : (p i : ℕ) → (112 ∷ 97 ∷ 114 ∷ 116 ∷ 32 ∷ []) ++ (get_or names p [] ++ line (figures ((part_at p).inputs + 1) i)) ≡ part_line p i
unfolding part_line
part-text p i =
    ap (λ (x : Text). (112 ∷ 97 ∷ 114 ∷ 116 ∷ 32 ∷ []) ++ x)
    (ap (λ (x : Text). get_or names p [] ++ line x) (figures_are ((part_at p).inputs + 1) i) ∙ ended (get_or names p []) (terminal_fields ((part_at p).inputs + 1) i))

-- two numbers, and the end of the line
two_fields : (m n : ℕ) → (32 ∷ figure m) ++ line (figures 1 n) ≡ line (field m ++ field n)
two_fields m n =
    ap (λ (x : Text). x ++ line (figures 1 n)) (field_is m) ∙ ap (λ (x : Text). field m ++ line x) (figures_are 1 n ∙ append-nil (field n)) ∙ ended (field m) (field n)

pub wire-text : (from to : ℕ) → (119 ∷ 105 ∷ 114 ∷ 101 ∷ []) ++ ((32 ∷ figure from) ++ line (figures 1 to)) ≡ wired_line from to
unfolding wired_line
wire-text from to = ap (λ (x : Text). (119 ∷ 105 ∷ 114 ∷ 101 ∷ []) ++ x) (two_fields from to)

pub pin_text : (n : ℕ) → (112 ∷ 105 ∷ 110 ∷ []) ++ line (figures 1 n) ≡ pin_line n
unfolding pin_line
pin_text n =
    ap (λ (x : Text). (112 ∷ 105 ∷ 110 ∷ []) ++ line x) (figures_are 1 n ∙ append-nil (field n))
    ∙ sym (append-nil (line (112 ∷ 105 ∷ 110 ∷ field n)))

pub refused_text_lem : (number place : ℕ)
    → (114 ∷ 101 ∷ 102 ∷ 117 ∷ 115 ∷ 101 ∷ 100 ∷ []) ++ ((32 ∷ figure number) ++ line (32 ∷ figure place)) ≡ refused_line number place
unfolding refused_line
refused_text_lem number place =
    ap (λ (x : Text). (114 ∷ 101 ∷ 102 ∷ 117 ∷ 115 ∷ 101 ∷ 100 ∷ []) ++ x)
    (ap₂ (λ (x y : Text). x ++ line y) (field_is number) (field_is place) ∙ ended (field number) (field place))

-- ---- the name of a part, as the table of parts has it

module _ (p n : ℕ) (letters : List ℕ) (e : letters ≡ padded (name_at p)) (f : n ≡ length (name_at p)) where
  pub name-taken : take n letters ≡ name_at p
  name-taken = rw (e, f) (take-append_seam (name_at p) (replicate (4 - length (name_at p)) 0))

  pub name-room : n ≤ length letters
  name-room = rw (e, f, length-append (name_at p) (replicate (4 - length (name_at p)) 0)) (omega arith)

pub name-short : (p : ℕ) → length (get_or names p []) ≤ 4
name-short zero = omega arith
name-short (suc zero) = omega arith
name-short (suc (suc zero)) = omega arith
name-short (suc (suc (suc zero))) = omega arith
name-short (suc (suc (suc (suc zero)))) = omega arith
name-short (suc (suc (suc (suc (suc zero))))) = omega arith
name-short (suc (suc (suc (suc (suc (suc zero)))))) = omega arith
name-short (suc (suc (suc (suc (suc (suc (suc p))))))) = omega arith
