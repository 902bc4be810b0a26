-- Each useless program breaks the contract on a sheet with a known result. Assumes nothing.
use Prim.Native.Nat.{ℕ, suc, ◌+◌}
use mathlib.Core.Path.{◌≡◌, refl, sym, ap, ◌∙◌}
use mathlib.Core.List.{List}
use native.Mathlib.Omega.{arith}
use lib.ListN.{length, replicate, get_or, length-replicate}
use Rattle.calculus.specs.Answer.{good}
use Rattle.calculus.specs.Net.{net_bytes}
use Rattle.calculus.specs.Read.{edition_of, records_of, read_sheet, read_records, read_types, read_term, head_at}
use Rattle.calculus.specs.Lean.{root, lean}
use Rattle.calculus.specs.Makers.{makers_of}
use Rattle.calculus.specs.Translate.{full, Wish, answer, said_of, out_of, Call, call}
use Rattle.calculus.specs.Known.{P1, P2, P3, full_plain, lean_plain}
use Rattle.calculus.specs.Useless.{refuses_all, writes_p1, writes_nothing, longer, invents_length, lean_copies_full, BreaksContract}
use Rattle.calculus.proofs.Answers.{refused≢good, good-inj}

-- a working memory of 32,768 numbers, and outputs of zeros
abbrev memory : List ℕ
memory = replicate 32768 0

abbrev zeros : ℕ → List ℕ
zeros n = replicate n 0

-- what a call with this memory says and leaves of the output
module _ (b : Wish) (s out : List ℕ) where
  says : (call b s out memory).said ≡ said_of (answer 32768 b s (length out))
  unfolding call
  says = ap (λ (n : ℕ). said_of (answer n b s (length out))) (length-replicate {A = ℕ} 32768 0)

  leaves : (call b s out memory).out ≡ out_of (answer 32768 b s (length out)) out
  unfolding call
  leaves = ap (λ (n : ℕ). out_of (answer n b s (length out)) out) (length-replicate {A = ℕ} 32768 0)

-- P1's netlist has 7 bytes, P2's 9, P3's 32, and P3's lean one 16
said-P1 : said_of (answer 32768 full_plain P1.sheet 7) ≡ good 7
unfolding answer full makers_of net_bytes edition_of records_of read_sheet read_records read_types read_term head_at
said-P1 = refl

said-P2 : said_of (answer 32768 full_plain P2.sheet 9) ≡ good 9
unfolding answer full makers_of net_bytes edition_of records_of read_sheet read_records read_types read_term head_at
said-P2 = refl

said-P3 : said_of (answer 32768 full_plain P3.sheet 32) ≡ good 32
unfolding answer full makers_of net_bytes edition_of records_of read_sheet read_records read_types read_term head_at
said-P3 = refl

lean-P3 : said_of (answer 32768 lean_plain P3.sheet 32) ≡ good 16
unfolding answer full makers_of net_bytes edition_of records_of read_sheet read_records read_types read_term head_at lean root
lean-P3 = refl

first-P1 : get_or (out_of (answer 32768 full_plain P1.sheet 7) (zeros 7)) 0 0 ≡ 0x22
unfolding answer full makers_of net_bytes edition_of records_of read_sheet read_records read_types read_term head_at
first-P1 = refl

said_of_lem : {c d : Call} → c ≡ d → c.said ≡ d.said
said_of_lem e = ap (λ (c : Call). c.said) e

out_of_lem : {c d : Call} → c ≡ d → c.out ≡ d.out
out_of_lem e = ap (λ (c : Call). c.out) e

-- ---- the four, and the fifth

pub refuses_all_breaks : (number place : ℕ) → BreaksContract (refuses_all number place)
refuses_all_breaks number place = record {
  wish = full_plain;
  sheet = P1.sheet;
  out = zeros 7;
  work = memory;
  differs = λ e. refused≢good (said_of_lem e ∙ says full_plain P1.sheet (zeros 7) ∙ said-P1);
}

pub writes_P1_breaks : BreaksContract writes_p1
writes_P1_breaks = record {
  wish = full_plain;
  sheet = P2.sheet;
  out = zeros 9;
  work = memory;
  differs = λ e. let h : ◌≡◌ {A = ℕ} 7 9 = good-inj (said_of_lem e ∙ says full_plain P2.sheet (zeros 9) ∙ said-P2) in omega arith;
}

pub writes_nothing_breaks : (n : ℕ) → BreaksContract (writes_nothing n)
writes_nothing_breaks n = record {
  wish = full_plain;
  sheet = P1.sheet;
  out = zeros 7;
  work = memory;
  differs = λ e.
      let h : ◌≡◌ {A = ℕ} 0 0x22 = ap (λ (out : List ℕ). get_or out 0 0) (out_of_lem e ∙ leaves full_plain P1.sheet (zeros 7)) ∙ first-P1 in
      omega arith;
}

pub invents_length_breaks : (k : ℕ) → BreaksContract (invents_length k)
invents_length_breaks k = record {
  wish = full_plain;
  sheet = P1.sheet;
  out = zeros 7;
  work = memory;
  differs = λ e.
      let f : (call full_plain P1.sheet (zeros 7) memory).said ≡ good 7 = says full_plain P1.sheet (zeros 7) ∙ said-P1 in
      let h : 7 + suc k ≡ 7 = good-inj (sym (ap (longer k) f) ∙ said_of_lem e ∙ f) in
      omega arith;
}

pub lean_copies_full_breaks : BreaksContract lean_copies_full
lean_copies_full_breaks = record {
  wish = lean_plain;
  sheet = P3.sheet;
  out = zeros 32;
  work = memory;
  differs = λ e.
      let f = says full_plain P3.sheet (zeros 32) ∙ said-P3 in
      let g = says lean_plain P3.sheet (zeros 32) ∙ lean-P3 in
      let h : ◌≡◌ {A = ℕ} 32 16 = good-inj (sym f ∙ said_of_lem e ∙ g) in
      omega arith;
}
