-- The useless programs do not meet demand 2 (document 01, "How tight the contracts are"). Assumes nothing.
use Prim.Native.Nat.{ℕ, suc, ◌+◌}
use mathlib.Core.Path.{◌≡◌, refl, sym, ap, ◌∙◌}
use mathlib.Core.List.{List}
use native.Mathlib.Omega.{arith}
use lib.ListN.{get_or, replicate}
use Rattle.calculus.specs.Answer.{good}
use Rattle.calculus.proofs.Answers.{refused≢good, good-inj}
use Rattle.calculus.specs.Read.{edition_of, records_of, read_sheet, read_records, read_types, read_term, head_at}
use Rattle.calculus.specs.Net.{net_bytes}
use Rattle.calculus.specs.Lean.{root, lean}
use Rattle.calculus.specs.Makers.{makers_of}
use Rattle.calculus.specs.Translate.{full, Wish, answer, Call, call}
use Rattle.calculus.specs.Known.{P1, P2, P3, full_plain, lean_plain}
use Rattle.calculus.specs.Useless.{refuses_all, writes_p1, writes_nothing, longer, invents_length, lean_copies_full}
use Rattle.translation_calculus.specs.Demands.{Demand2}
use Rattle.translation_calculus.specs.ShutOut.{ShutOut}
use Rattle.translation.proofs.Demands.{demand_2}

-- ---- what meets demand 2 says and writes what a call does, where that is accepted

module _ (w : Wish) (s out work : List ℕ) (c : Call) (d : Demand2 w s out work c) (n : ℕ) (h : (call w s out work).said ≡ good n) where
  pub says_the_same : c.said ≡ good n
  says_the_same = (d.accepted n).1 (((demand_2 w s out work).accepted n).0 h)

  pub writes_the_same : c.out ≡ (call w s out work).out
  writes_the_same =
      let e = ((demand_2 w s out work).accepted n).0 h in
      d.bytes n says_the_same e.sheet e.conditions.reads ∙ sym ((demand_2 w s out work).bytes n h e.sheet e.conditions.reads)

-- ---- P1, P2 and P3, with room for their netlists

abbrev zeros : ℕ → List ℕ
zeros n = replicate n 0

abbrev memory : List ℕ
memory = replicate 32768 0

said-P1 : (call full_plain P1.sheet (zeros 7) memory).said ≡ good 7
unfolding call answer full makers_of net_bytes edition_of records_of read_sheet read_records read_types read_term head_at
said-P1 = refl

first-P1 : get_or (call full_plain P1.sheet (zeros 7) memory).out 0 0 ≡ 0x22
unfolding call answer full makers_of net_bytes edition_of records_of read_sheet read_records read_types read_term head_at
first-P1 = refl

said-P2 : (call full_plain P2.sheet (zeros 9) memory).said ≡ good 9
unfolding call answer full makers_of net_bytes edition_of records_of read_sheet read_records read_types read_term head_at
said-P2 = refl

full-P3 : (call full_plain P3.sheet (zeros 32) memory).said ≡ good 32
unfolding call answer full makers_of net_bytes edition_of records_of read_sheet read_records read_types read_term head_at
full-P3 = refl

lean-P3 : (call lean_plain P3.sheet (zeros 32) memory).said ≡ good 16
unfolding call answer full makers_of net_bytes edition_of records_of read_sheet read_records read_types read_term head_at lean root
lean-P3 = refl

-- ---- the four, and the fifth

pub refuses_all_shut_out : (number place : ℕ) → ShutOut (refuses_all number place)
refuses_all_shut_out number place = record {
  wish = full_plain;
  sheet = P1.sheet;
  out = zeros 7;
  work = memory;
  shut = λ d. refused≢good (says_the_same full_plain P1.sheet (zeros 7) memory _ d 7 said-P1);
}

pub writes_P1_shut_out : ShutOut writes_p1
writes_P1_shut_out = record {
  wish = full_plain;
  sheet = P2.sheet;
  out = zeros 9;
  work = memory;
  shut = λ d. let h : ◌≡◌ {A = ℕ} 7 9 = good-inj (says_the_same full_plain P2.sheet (zeros 9) memory _ d 9 said-P2) in omega arith;
}

pub writes_nothing_shut_out : (n : ℕ) → ShutOut (writes_nothing n)
writes_nothing_shut_out n = record {
  wish = full_plain;
  sheet = P1.sheet;
  out = zeros 7;
  work = memory;
  shut = λ d.
      let h : ◌≡◌ {A = ℕ} 0 0x22 = ap (λ (out : List ℕ). get_or out 0 0) (writes_the_same full_plain P1.sheet (zeros 7) memory _ d 7 said-P1) ∙ first-P1 in
      omega arith;
}

pub invents_length_shut_out : (k : ℕ) → ShutOut (invents_length k)
invents_length_shut_out k = record {
  wish = full_plain;
  sheet = P1.sheet;
  out = zeros 7;
  work = memory;
  shut = λ d.
      let h : 7 + suc k ≡ 7 = good-inj (sym (ap (longer k) said-P1) ∙ says_the_same full_plain P1.sheet (zeros 7) memory _ d 7 said-P1) in
      omega arith;
}

pub lean_copies_full_shut_out : ShutOut lean_copies_full
lean_copies_full_shut_out = record {
  wish = lean_plain;
  sheet = P3.sheet;
  out = zeros 32;
  work = memory;
  shut = λ d. let h : ◌≡◌ {A = ℕ} 32 16 = good-inj (sym full-P3 ∙ says_the_same lean_plain P3.sheet (zeros 32) memory _ d 16 lean-P3) in omega arith;
}
