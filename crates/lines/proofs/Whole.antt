-- Record by record, a netlist's bytes give its lines. Assumes nothing.
use mathlib.Core.Path.{◌≡◌, refl, ap, sym, ◌∙◌}
use mathlib.Core.List.{List, [], ◌∷◌, ◌++◌, append-nil, append_assoc}
use Prim.Native.Nat.{ℕ, suc, ◌+◌, ◌-◌, ◌/◌, ◌%◌, ◌≤◌, ◌<◌}
use native.Mathlib.Omega.{arith}
use lib.ListN.{length, get_or, drop, length-append, length-drop}
use lib.Seq.{get_or-drop, drop-drop, drop_at}
use Rattle.calculus.specs.Net.{Terminal, Interface, number, Element, point, part, Wire, Net, element_bytes, wire_bytes, pin_bytes, net_bytes}
use Rattle.calculus.specs.Listing.{Text, line, field, element_line, wire_line, element_lines, wire_lines, pin_lines, net_lines}
use Rattle.netlist.proofs.Bytes.{two_back}
use Rattle.netlist.proofs.Records.{elements_append, wires_append, pins_append}
use Rattle.lines.specs.OneLine.{point_line, part_line, wired_line, pin_line}
use Rattle.calculus.specs.NetRead.{two_at}
use Rattle.lines.specs.InBytes.{record_size, size_at, text_of, line_at, lines_from}
use Rattle.lines.proofs.Standing.{size-whole, line-some}

-- a number whose two bytes stand j bytes behind an offset
number_read : (s : List ℕ) (at j n : ℕ) → get_or (drop at s) j 0 ≡ n % 256 → get_or (drop at s) (suc j) 0 ≡ n / 256 → two_at s (at + j) ≡ n
number_read s at j n e f =
    let g : get_or s (at + j) 0 ≡ n % 256 = sym (get_or-drop at s j 0) ∙ e in
    let k : at + j + 1 ≡ at + suc j = omega arith in
    let h : get_or s (at + j + 1) 0 ≡ n / 256 = rw k (sym (get_or-drop at s (suc j) 0) ∙ f) in
    omega (arith, two_back n)

-- at an offset stands a record of n bytes with this line
pub record RecordAt (s : List ℕ) (at n : ℕ) (text : Text) : Type 0 where
  pub size : size_at s at ≡ n
  pub line : line_at s at ≡ text

-- by its kind, where it stands whole
read_by : (s : List ℕ) (at k : ℕ) (text : Text) → get_or s at 0 ≡ k → (record_size k ≡ 0 → ⊥) → at + record_size k ≤ length s → text_of k s at ≡ text → RecordAt s at (record_size k) text
read_by s at k text e some fits t =
    let n : record_size k ≡ size_at s at = rw (← e) (size-whole s at (rw e fits)) in
    record { size = sym n; line = sym (line-some s at (λ z. some (n ∙ z))) ∙ rw e t }

module _ (s : List ℕ) (at : ℕ) (r rest : List ℕ) (h : drop at s ≡ r ++ rest) where
  stands-whole : 0 < length r → at + length r ≤ length s
  stands-whole some = let l : length s - at ≡ length r + length rest = sym (length-drop at s) ∙ ap length h ∙ length-append r rest in omega arith

  byte-read : (j : ℕ) → get_or s (at + j) 0 ≡ get_or (r ++ rest) j 0
  byte-read j = sym (get_or-drop at s j 0) ∙ ap (λ (x : List ℕ). get_or x j 0) h

  first_read : get_or s at 0 ≡ get_or (r ++ rest) 0 0
  first_read = let e : at + 0 ≡ at = omega arith in rw e at (byte-read 0)

-- ---- one record

-- at an offset stand these bytes, then others
abbrev BytesAt : List ℕ → ℕ → List ℕ → List ℕ → Type 0
BytesAt s at r rest = drop at s ≡ r ++ rest

byte : {xs ys : List ℕ} → xs ≡ ys → (j : ℕ) → get_or xs j 0 ≡ get_or ys j 0
byte h j = ap (λ (x : List ℕ). get_or x j 0) h

pub element_read_lem : (e : Element) (s : List ℕ) (at : ℕ) (rest : List ℕ) → BytesAt s at (element_bytes (e ∷ [])) rest
    → RecordAt s at (length (element_bytes (e ∷ []))) (element_line e)
unfolding point_line part_line
element_read_lem (point i) s at rest h =
    let r = element_bytes (point i ∷ []) in
    read_by s at 0x21 (point_line i) (first_read s at r rest h) (λ z. omega arith) (stands-whole s at r rest h (omega arith))
    (ap point_line (number_read s at 1 i (byte h 1) (byte h 2)))
element_read_lem (part p i) s at rest h =
    let r = element_bytes (part p i ∷ []) in
    read_by s at 0x22 (part_line p i) (first_read s at r rest h) (λ z. omega arith) (stands-whole s at r rest h (omega arith))
    (rw (byte-read s at r rest h 1) (ap (part_line p) (number_read s at 2 i (byte h 2) (byte h 3))))

pub wire-read : (w : Wire) (s : List ℕ) (at : ℕ) (rest : List ℕ) → BytesAt s at (wire_bytes (w ∷ [])) rest
    → RecordAt s at (length (wire_bytes (w ∷ []))) (wire_line w)
unfolding wired_line
wire-read w s at rest h =
    let r = wire_bytes (w ∷ []) in
    read_by s at 0x23 (wired_line w.from w.to) (first_read s at r rest h) (λ z. omega arith) (stands-whole s at r rest h (omega arith))
    (rw (number_read s at 1 w.from (byte h 1) (byte h 2), number_read s at 3 w.to (byte h 3) (byte h 4)))

pub pin_read_lem : (t : Terminal) (s : List ℕ) (at : ℕ) (rest : List ℕ) → BytesAt s at (pin_bytes (t ∷ [])) rest
    → RecordAt s at (length (pin_bytes (t ∷ []))) (pin_lines (t ∷ []))
unfolding pin_line
pin_read_lem t s at rest h =
    let r = pin_bytes (t ∷ []) in
    read_by s at 0x24 (pin_line (number t)) (first_read s at r rest h) (λ z. omega arith) (stands-whole s at r rest h (omega arith))
    (ap pin_line (number_read s at 1 (number t) (byte h 1) (byte h 2)))

-- ---- records in a row

-- what is read behind a row of records, of which each has its bytes and its line
module _ {A : Type 0} (bytes text : A → List ℕ) (row lines : List A → List ℕ)
    (none : row [] ≡ []) (more : (x : A) (xs : List A) → row (x ∷ xs) ≡ bytes x ++ row xs)
    (empty : lines [] ≡ []) (longer : (x : A) (xs : List A) → lines (x ∷ xs) ≡ text x ++ lines xs)
    (reads : (x : A) (s : List ℕ) (at : ℕ) (rest : List ℕ) → BytesAt s at (bytes x) rest → RecordAt s at (length (bytes x)) (text x)) where
  row_read : (xs : List A) (s : List ℕ) (at : ℕ) (rest : List ℕ) (k : ℕ) → BytesAt s at (row xs) rest
      → lines_from (length xs + k) s at ≡ lines xs ++ lines_from k s (at + length (row xs))
  row_read [] s at rest k h =
      let e : 0 + k ≡ k = omega arith in
      let f : at + 0 ≡ at = omega arith in
      rw (e, none, empty, f)
  row_read (x ∷ xs) s at rest k h =
      let b = bytes x in
      let here : BytesAt s at b (row xs ++ rest) = h ∙ ap (λ (l : List ℕ). l ++ rest) (more x xs) ∙ append_assoc b (row xs) rest in
      let r = reads x s at (row xs ++ rest) here in
      let next : BytesAt s (at + length b) (row xs) rest = sym (drop-drop (length b) at s) ∙ ap (drop (length b)) here ∙ drop_at b (row xs ++ rest) (length b) refl in
      let e : suc (length xs) + k ≡ suc (length xs + k) = omega arith in
      let f : at + length b + length (row xs) ≡ at + length (b ++ row xs) = rw length-append (omega arith) in
      rw (e, r.size, r.line, row_read xs s (at + length b) rest k next, more x xs, longer x xs, f, append_assoc (text x) (lines xs) (lines_from k s (at + length (b ++ row xs))))

-- ---- a netlist

-- as many records as it has elements, wires and pins
abbrev pub records : Net → ℕ
records m = length m.elements + (length m.wires + (length m.pins + 0))

pub net-read : (m : Net) → lines_from (records m) (net_bytes m) 0 ≡ net_lines m
unfolding net_bytes net_lines
net-read m =
    let s = net_bytes m in
    let E = element_bytes m.elements in
    let W = wire_bytes m.wires in
    let P = pin_bytes m.pins in
    let a = 0 + length E in
    let atW : BytesAt s a W P = let e : 0 + length E ≡ length E = omega arith in rw e (drop_at E (W ++ P) (length E) refl) in
    let at_p : BytesAt s (a + length W) P [] = sym (drop-drop (length W) a s) ∙ ap (drop (length W)) atW ∙ drop_at W P (length W) refl ∙ sym (append-nil P) in
    let elements =
    row_read (λ e. element_bytes (e ∷ [])) element_line element_bytes element_lines refl (λ e es. elements_append (e ∷ []) es) refl (λ e es. refl) element_read_lem m.elements s 0 (W ++ P)
    (length m.wires + (length m.pins + 0)) refl in
    let wires =
    row_read (λ w. wire_bytes (w ∷ [])) wire_line wire_bytes wire_lines refl (λ w ws. wires_append (w ∷ []) ws) refl (λ w ws. refl) wire-read m.wires s a P (length m.pins + 0) atW in
    let pins =
    row_read (λ t. pin_bytes (t ∷ [])) (λ t. pin_lines (t ∷ [])) pin_bytes pin_lines refl (λ t ts. pins_append (t ∷ []) ts) refl (λ t ts. pin-first t ts) pin_read_lem m.pins s (a + length W) [] 0 at_p in
    elements ∙ ap (λ (x : Text). element_lines m.elements ++ x) (wires ∙ ap (λ (x : Text). wire_lines m.wires ++ x) (pins ∙ append-nil (pin_lines m.pins)))
  where
    pin-first : (t : Terminal) (ts : Interface) → pin_lines (t ∷ ts) ≡ pin_lines (t ∷ []) ++ pin_lines ts
    pin-first t ts = ap (λ (x : Text). x ++ pin_lines ts) (sym (append-nil (line (112 ∷ 105 ∷ 110 ∷ field (number t)))))
