-- `typing::walk` meets its contract, on whichever term stands at the offset: by the turns at its node. The falling number is the
-- bytes left. Assumes nothing.
use borrow.Author.Rules.{rules}
use native.Mathlib.Omega.{arith}
use mathlib.Core.Path.{◌≡◌, refl, sym, ap, ◌∙◌}
use mathlib.Core.List.{List}
use lib.ListN.{length, get_or, set, length-set}
use Rattle.calculus.specs.Types.{Table}
use Rattle.calculus.specs.Terms.{Edition, Term}
use Rattle.calculus.specs.Walk.{Stack}
use Rattle.records.specs.Forms.{rec_in}
use Rattle.binders.specs.declared.Binders.{Binders}
use Rattle.binders.specs.Stacks.{with_bit, stack_of, slot_of}
use Rattle.binders.proofs.Laws.{length_of, slot-low}
use Rattle.std.specs.declared.option.Option.TheVariants.{Some}
use Rattle.std.specs.declared.result.Result.TheVariants.{Err}
use Rattle.typing.specs.Verdicts.{reached, with_marks, held, at_count}
use Rattle.typing.specs.Walkable.{Walkable}
use Rattle.records.specs.Record.{node_at}
use Rattle.records.specs.declared.Node.{Node}
use Rattle.typing.specs.Verdicts.{Verdict, fine_at}
use Rattle.typing.specs.declared.Checked.{Checked}
use Rattle.typing.specs.declared.rules.Opening.{Opening}
use Rattle.typing.specs.declared.rules.Binding.{Binding}
use Rattle.typing.specs.declared.rules.Halves.{Halves}
use Rattle.typing.specs.Steps.{opening_of, binding_of, between_of, halves_in, closes_of}
use Rattle.typing.specs.Verdicts.{halves, FollowsOn}
use Rattle.typing.specs.Walkable.{Walked}
use Rattle.typing.proofs.VerdictLaws.{says_fine, says_refused, says_under, says_as, says_anyhow}
use Rattle.typing.proofs.StateLaws.{bound_to, enter-misfit, enter-opened, binds_few, binds_sort, halved_to, cleared_at, closes_few, in_scope_lem, follows_refused, follows_halves, bound_kept, halved-kept}
use Rattle.typing.proofs.WalkLaws.{first_subterm, second_of}
use Rattle.typing.proofs.Turns.{few_binders, few-nodes, as_many, Inside, InsideFine, First, Middle, Second, turn-leaf, turn-refused, turn-falls, turn-first, turn-held-one, turn-held-two, turn_one, turn-halfway, turn-falls-again, turn-second, turn_two}
use Prim.Native.Nat.{ℕ, ◌+◌, ◌≤◌, ◌<◌}
use Rattle.typing.proofs.+walk.Goals as goal
use Rattle.typing.proofs.+walk.Goals.{Start, After-bound-o, After-with_bit-own-2, After-closes}

-- ---- what is known, over plain values

-- a node with subterms has been read, and what it binds is stored
record Entered (s : List ℕ) (at : ℕ) (b : Binders) (n : Node) (o : Opening) (q : Binding) (ss us : List ℕ) : Type 0 where
  pub read : n ≡ node_at s at
  pub some : ¬ (n.subterms ≡ 0)
  pub opens : Some o ≡ opening_of n.rule n.first (rec_in s n.first)
  pub binds : q ≡ binding_of o
  pub long : length b.types ≡ 128
  pub sorts : ss ≡ with_bit b.sorts b.count q.sort
  pub marks : us ≡ with_bit b.used b.count 0

-- .. it has a second subterm, and what is bound between the two is stored
record Halved (s : List ℕ) (node : ℕ) (b own : Binders) (n : Node) (x : Checked) (v : Verdict) (u i j : ℕ) (q : Halves) (m : ℕ) (ss us : List ℕ) : Type 0 where
  pub two : ¬ (n.subterms ≡ 1)
  pub fine : v ≡ fine_at u i j
  pub between : (st : Stack) → FollowsOn x.verdict st v (halves (rec_in s) n.rule v st) (between_of (rec_in s) n.rule node)
  pub halved : q ≡ halves_in n.rule u (rec_in s u)
  pub closes : m ≡ closes_of n.rule
  pub sorts : ss ≡ cleared_at own.sorts b.count
  pub marks : us ≡ cleared_at x.used b.count

module _ {s : List ℕ} {l : ℕ} {E : Edition} {at node : ℕ} (b : Binders) {Θ : Table} {e : Term} (F : Walkable s l E at node Θ e (stack_of b)) where
  -- room for two binders more
  few : b.count ≤ 126
  few = omega (arith, few_binders F, length_of b)

  first_slot : b.count < 128
  first_slot = let f = few in omega arith

  second-slot : b.count + 1 < 128
  second-slot = let f = few in omega arith

  module _ {n : Node} {o : Opening} {q : Binding} {ss us : List ℕ} (h : Entered s at b n o q ss us) where
    abbrev inside : Inside s l E at node (stack_of b) Θ e
    inside = record {
      place = record { n = n; here = h.read; fits = F };
      i = reached (fine_at n.first n.next (node + 1)) (bound_to b q ss us);
      some = h.some;
      says = says_fine (bound_to b q ss us) _ _ n.first (enter-opened (rec_in s) _ _ _ h.opens h.binds b h.long first_slot h.sorts h.marks);
    }

    abbrev opened : InsideFine s l E at node (stack_of b) Θ e
    opened = record { inside = inside; t = _; start = _; count = _; fine = refl }

    module _ {x : Checked} (X : Walked s l E n.next (node + 1) (bound_to b q ss us) x) where
      abbrev first : First s l E at node (stack_of b) Θ e
      first = record { opened = opened; x = held (bound_to b q ss us) x; says = X Θ (first_subterm e) (turn-first opened) }

      long-own : length (set b.types b.count q.ty) ≡ 128
      long-own = let k = h.long in rw length-set k

      module _ {v : Verdict} {u i j : ℕ} {p : Halves} {m : ℕ} {ss' us' : List ℕ} (k : Halved s node b (bound_to b q ss us) n x v u i j p m ss' us') where
        abbrev middle : Middle s l E at node (stack_of b) Θ e
        middle = record {
          first = first;
          m = reached (fine_at u i j) (halved_to (with_marks (bound_to b q ss us) x.used) b.count p m ss' us');
          two = k.two;
          follows =
              follows_halves (rec_in s) n.rule (held (bound_to b q ss us) x) long-own b.count second-slot (turn-held-two first k.two (length_of b)) k.fine
              (k.between (in_scope_lem (with_marks (bound_to b q ss us) x.used) b.count)) k.halved k.closes k.sorts k.marks;
        }

        abbrev second : Second s l E at node (stack_of b) Θ e
        second = record { middle = middle; u = _; start = _; count = _; fine = refl }

-- ---- .. place by place

module _ (t : ℕ) where
  long : (c : Start t) → length c.args.b.types ≡ 128
  long c = search rules

  room : (c : Start t) → c.args.b.count + 1 < 128
  room c = second-slot c.args.b c.requires.fits

  near : (c : Start t) → c.args.b.count < 128
  near c = first_slot c.args.b c.requires.fits

  sort-few : (c : After-bound-o t) → c.bound-o.result.sort < 2
  sort-few c = binds_sort c.in-Some.opened c.bound-o.ensures

  entered : (c : After-with_bit-own-2 t) → length c.args.b.types ≡ 128
      → Entered c.args.s.now c.args.at c.args.b c.node_at-n.result c.in-Some.opened c.bound-o.result c.with_bit-own.result c.with_bit-own-2.result
  entered c l = record {
    read = c.node_at-n.ensures;
    some = c.if-n-eq0.false;
    opens = sym c.in-Some.is ∙ c.opens.ensures;
    binds = c.bound-o.ensures;
    long = l;
    sorts = c.with_bit-own.ensures;
    marks = c.with_bit-own-2.ensures;
  }

  -- the binders under which the first subterm is walked
  abbrev own : After-closes t → Binders
  own c = bound_to c.args.b c.bound-o.result c.with_bit-own.result c.with_bit-own-2.result

  -- .. and the second one
  abbrev own-two : After-closes t → Binders
  own-two c = halved_to (with_marks (own c) c.walk-x.result.used) c.args.b.count c.halves_of-q.result c.closes.result c.with_bit-own-3.result c.with_bit-own-4.result

  halved : (c : After-closes t)
      → Halved c.args.s.now c.args.node c.args.b (own c) c.node_at-n.result c.walk-x.result c.between-v.result c.in-Ok.f.ty c.in-Ok.f.next c.in-Ok.f.count c.halves_of-q.result c.closes.result c.with_bit-own-3.result c.with_bit-own-4.result
  halved c = record {
    two = c.if-n-eq1.false;
    fine = c.in-Ok.is;
    between = c.between-v.ensures;
    halved = c.halves_of-q.ensures;
    closes = c.closes.ensures;
    sorts = c.with_bit-own-3.ensures ∙ ap (λ (ws : List ℕ). with_bit ws (c.args.b.count + 1) 0) c.with_bit.ensures;
    marks = c.with_bit-own-4.ensures ∙ ap (λ (ws : List ℕ). with_bit ws (c.args.b.count + 1) 0) c.with_bit-2.ensures;
  }

-- ---- the goals

pub bounds-own-k : goal.bounds-own-k
bounds-own-k t c = slot-low _ _ c.slot-k.ensures (let f = near t ((goal.at.bounds-own-k t c).Start) in omega arith)

pub leaf-requires : goal.leaf-requires
leaf-requires t c = let F = c.requires.fits in let f = first_slot c.args.b F in (omega arith, few-nodes F, omega (arith, F.count, F.table.few))

pub returns-then-n-eq0 : goal.returns-then-n-eq0
returns-then-n-eq0 t c = λ Θ e F.
    let b = c.args.b in
    turn-leaf (record { n = c.node_at-n.result; here = c.node_at-n.ensures; fits = F }) c.if-n-eq0.true
    (c.leaf.ensures b (record {
      count = refl;
      type = ap (λ (k : ℕ). get_or b.types k 0) (c.slot-k.ensures ∙ ap (slot_of b.count) c.from.ensures);
      same_sorts = refl;
      same_marks = refl;
    }))

pub returns-in_default : goal.returns-in_default
returns-in_default t c = λ Θ e F.
    let b = c.args.b in
    says_as b c.answered.ensures
    (says_anyhow b _ refl
    (turn-refused
    (record {
      place = record { n = c.node_at-n.result; here = c.node_at-n.ensures; fits = F };
      i = reached (Err c.clash.result) b;
      some = c.if-n-eq0.false;
      says = says_refused b _ _ _ refl (rw c.clash.ensures (enter-misfit (rec_in c.args.s.now) _ _ _ _ (sym c.in_default.is ∙ c.opens.ensures)));
    })
    refl))

pub bounds-own-c : goal.bounds-own-c
bounds-own-c t c = near t ((goal.at.bounds-own-c t c).Start)

pub with_bit-own-requires : goal.with_bit-own-requires
with_bit-own-requires t c = (near t ((goal.at.with_bit-own-requires t c).Start), sort-few t c)

pub with_bit-own-requires-2 : goal.with_bit-own-requires-2
with_bit-own-requires-2 t c = (near t ((goal.at.with_bit-own-requires-2 t c).Start), omega arith)

pub overflow_add-own : goal.overflow_add-own
overflow_add-own t c = let f = near t ((goal.at.overflow_add-own t c).Start) in let o = binds_few c.in-Some.opened c.bound-o.ensures in search rules

pub overflow_add-node : goal.overflow_add-node
overflow_add-node t c = let f = few-nodes c.requires.fits in search rules

pub walk-x-requires : goal.walk-x-requires
walk-x-requires t c =
    let o = opened c.args.b c.requires.fits (entered t ((goal.at.walk-x-requires t c).After-with_bit-own-2) (long t ((goal.at.walk-x-requires t c).Start))) in
    (omega (arith, turn-falls o, c.decreases), record { table = c.requires.table; term = first_subterm c.requires.term; fits = turn-first o })

pub bit-requires : goal.bit-requires
bit-requires t c = near t ((goal.at.bit-requires t c).Start)

pub leave_one-requires : goal.leave_one-requires
leave_one-requires t c = near t ((goal.at.leave_one-requires t c).Start)

pub returns-then-n-eq1 : goal.returns-then-n-eq1
returns-then-n-eq1 t c = λ Θ e F.
    let b = c.args.b in
    let h = first c.args.b F (entered t ((goal.at.returns-then-n-eq1 t c).After-with_bit-own-2) (long t ((goal.at.returns-then-n-eq1 t c).Start))) c.walk-x.ensures in
    let own = bound_to b c.bound-o.result c.with_bit-own.result c.with_bit-own-2.result in
    let z = c.if-n-eq1.true in
    says_under (at_count own b.count) b c.leave_one.result (bound_kept b c.bound-o.result _ (sort-few t ((goal.at.returns-then-n-eq1 t c).After-bound-o)) c.with_bit-own.ensures)
    (turn_one h z (c.leave_one.ensures own c.bit.ensures (turn-held-one h z (length_of b))))

pub returns-in_default-v : goal.returns-in_default-v
returns-in_default-v t c = λ Θ e F.
    let b = c.args.b in
    let own = bound_to b c.bound-o.result c.with_bit-own.result c.with_bit-own-2.result in
    let told = c.in_default-v.is in
    says_as b c.answered-in_default-v.ensures
    (says_anyhow (with_marks own c.walk-x.result.used) _ told
    (turn-halfway
    (record {
      first = first c.args.b F (entered t ((goal.at.returns-in_default-v t c).After-with_bit-own-2) (long t ((goal.at.returns-in_default-v t c).Start))) c.walk-x.ensures;
      m = reached c.between-v.result (with_marks own c.walk-x.result.used);
      two = c.if-n-eq1.false;
      follows = follows_refused (rec_in c.args.s.now) _ (held own c.walk-x.result) told (c.between-v.ensures _);
    })
    told))

pub overflow_add-d : goal.overflow_add-d
overflow_add-d t c = let f = near t ((goal.at.overflow_add-d t c).Start) in search rules

pub bounds-own-c-2 : goal.bounds-own-c-2
bounds-own-c-2 t c = near t ((goal.at.bounds-own-c-2 t c).Start)

pub bounds-own-d : goal.bounds-own-d
bounds-own-d t c = room t ((goal.at.bounds-own-d t c).Start)

pub with_bit-requires : goal.with_bit-requires
with_bit-requires t c = (near t ((goal.at.with_bit-requires t c).Start), omega arith)

pub with_bit-own-requires-3 : goal.with_bit-own-requires-3
with_bit-own-requires-3 t c = (room t ((goal.at.with_bit-own-requires-3 t c).Start), omega arith)

pub with_bit-requires-2 : goal.with_bit-requires-2
with_bit-requires-2 t c = (near t ((goal.at.with_bit-requires-2 t c).Start), omega arith)

pub with_bit-own-requires-4 : goal.with_bit-own-requires-4
with_bit-own-requires-4 t c = (room t ((goal.at.with_bit-own-requires-4 t c).Start), omega arith)

pub overflow_add-own-2 : goal.overflow_add-own-2
overflow_add-own-2 t c = let f = near t ((goal.at.overflow_add-own-2 t c).Start) in let k = closes_few c.node_at-n.result.rule in let e = c.closes.ensures in search rules

pub walk-x-requires-2 : goal.walk-x-requires-2
walk-x-requires-2 t c =
    let h = second c.args.b c.requires.fits (entered t ((goal.at.walk-x-requires-2 t c).After-with_bit-own-2) (long t ((goal.at.walk-x-requires-2 t c).Start))) c.walk-x.ensures (halved t c) in
    (omega (arith, turn-falls-again h, c.decreases), record { table = c.requires.table; term = second_of c.requires.term; fits = turn-second h })

pub returns : goal.returns
returns t c = λ Θ e F.
    let k = (goal.at.returns t c).After-closes in
    let b = c.args.b in
    let two = own-two t k in
    let h = second c.args.b F (entered t ((goal.at.returns t c).After-with_bit-own-2) (long t ((goal.at.returns t c).Start))) c.walk-x.ensures (halved t k) in
    let Y = c.walk-x-2.ensures Θ (second_of e) (turn-second h) in
    says_under (at_count two b.count) b c.leave_two.result
    (halved-kept (own t k).types b.count _ (own t k).sorts _ (halved t k).sorts ∙ bound_kept b c.bound-o.result _ (sort-few t ((goal.at.returns t c).After-bound-o)) c.with_bit-own.ensures)
    (turn_two h (held two c.walk-x-2.result) _ Y
    (c.leave_two.ensures two b.count
    (as_many (turn-second h) (held two c.walk-x-2.result) Y (length_of two ∙ ap (λ (m : ℕ). b.count + m) c.closes.ensures))))
