-- The kind decides which line it is. Assumes nothing.
use native.Mathlib.Omega.{arith}
use borrow.Author.Tests.{ne_eqb}
use mathlib.Core.Path.{◌≡◌, refl, sym, ◌∙◌}
use Rattle.lines.specs.InBytes.{size_at}
use Rattle.lines.proofs.Standing.{room, below, line-none, line-some}
use Rattle.lines.proofs.line_of.Goals as goal

pub returns-then-size_at-eq0 : goal.returns-then-size_at-eq0
returns-then-size_at-eq0 c =
    let a = c.args in
    rw (← line-none a.net.now a.at (sym c.size_at.ensures ∙ c.if-size_at-eq0.true)) record { offset = refl; bytes = refl }

pub bounds-net-at : goal.bounds-net-at
bounds-net-at c =
    let a = c.args in
    let some : size_at a.net.now a.at ≡ 0 → ⊥ = λ e. c.if-size_at-eq0.false (c.size_at.ensures ∙ e) in
    below a.net.now a.at some

pub bounds-net-at-in-34 : goal.bounds-net-at-in-34
bounds-net-at-in-34 c =
    let a = c.args in
    let some : size_at a.net.now a.at ≡ 0 → ⊥ = λ e. c.if-size_at-eq0.false (c.size_at.ensures ∙ e) in
    let r = room a.net.now a.at 0x22 some c.in-34.is in
    omega arith

pub number_at-requires : goal.number_at-requires
number_at-requires c =
    let a = c.args in
    let some : size_at a.net.now a.at ≡ 0 → ⊥ = λ e. c.if-size_at-eq0.false (c.size_at.ensures ∙ e) in
    let r = room a.net.now a.at 0x21 some c.in-33.is in
    omega arith

pub number_at-requires-in-34 : goal.number_at-requires-in-34
number_at-requires-in-34 c =
    let a = c.args in
    let some : size_at a.net.now a.at ≡ 0 → ⊥ = λ e. c.if-size_at-eq0.false (c.size_at.ensures ∙ e) in
    let r = room a.net.now a.at 0x22 some c.in-34.is in
    omega arith

pub number_at-requires-in-35 : goal.number_at-requires-in-35
number_at-requires-in-35 c =
    let a = c.args in
    let some : size_at a.net.now a.at ≡ 0 → ⊥ = λ e. c.if-size_at-eq0.false (c.size_at.ensures ∙ e) in
    let r = room a.net.now a.at 0x23 some c.in-35.is in
    omega arith

pub number_at-requires-in-35-2 : goal.number_at-requires-in-35-2
number_at-requires-in-35-2 c =
    let a = c.args in
    let some : size_at a.net.now a.at ≡ 0 → ⊥ = λ e. c.if-size_at-eq0.false (c.size_at.ensures ∙ e) in
    let r = room a.net.now a.at 0x23 some c.in-35.is in
    omega arith

pub number_at-requires-in-36 : goal.number_at-requires-in-36
number_at-requires-in-36 c =
    let a = c.args in
    let some : size_at a.net.now a.at ≡ 0 → ⊥ = λ e. c.if-size_at-eq0.false (c.size_at.ensures ∙ e) in
    let r = room a.net.now a.at 0x24 some c.in-36.is in
    omega arith

pub returns-in-33 : goal.returns-in-33
returns-in-33 c =
    let a = c.args in
    let some : size_at a.net.now a.at ≡ 0 → ⊥ = λ e. c.if-size_at-eq0.false (c.size_at.ensures ∙ e) in
    let line = line-some a.net.now a.at some in
    let kind = c.in-33.is in
    rw (← line, kind, ← c.number_at.ensures.0) c.point_line.ensures

pub returns-in-34 : goal.returns-in-34
returns-in-34 c =
    let a = c.args in
    let some : size_at a.net.now a.at ≡ 0 → ⊥ = λ e. c.if-size_at-eq0.false (c.size_at.ensures ∙ e) in
    let line = line-some a.net.now a.at some in
    let kind = c.in-34.is in
    rw (← line, kind, ← c.number_at-in-34.ensures.0) c.part_line.ensures

pub returns-in-35 : goal.returns-in-35
returns-in-35 c =
    let a = c.args in
    let some : size_at a.net.now a.at ≡ 0 → ⊥ = λ e. c.if-size_at-eq0.false (c.size_at.ensures ∙ e) in
    let line = line-some a.net.now a.at some in
    let kind = c.in-35.is in
    rw (← line, kind, ← c.number_at-in-35.ensures.0, ← c.number_at-in-35-2.ensures.0) c.wire_line.ensures

pub returns-in-36 : goal.returns-in-36
returns-in-36 c =
    let a = c.args in
    let some : size_at a.net.now a.at ≡ 0 → ⊥ = λ e. c.if-size_at-eq0.false (c.size_at.ensures ∙ e) in
    let line = line-some a.net.now a.at some in
    let kind = c.in-36.is in
    rw (← line, kind, ← c.number_at-in-36.ensures.0) c.pin_line.ensures

pub returns-in_default : goal.returns-in_default
returns-in_default c =
    let a = c.args in
    let some : size_at a.net.now a.at ≡ 0 → ⊥ = λ e. c.if-size_at-eq0.false (c.size_at.ensures ∙ e) in
    let line = line-some a.net.now a.at some in
    let r = c.in_default.in_default-own.rest in
    rw (← line, ne_eqb _ 0x21 r.0.0.0.1, ne_eqb _ 0x22 r.0.0.1, ne_eqb _ 0x23 r.0.1, ne_eqb _ 0x24 r.1) record { offset = refl; bytes = refl }
