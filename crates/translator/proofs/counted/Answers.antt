-- `translator::counted` meets its contract: the count is the definition's, and so is the netlist that stands in the memory.
-- Assumes nothing.
use mathlib.Core.Path.{sym, subst, ◌∙◌}
use mathlib.Core.Bool.{true≢false}
use mathlib.Core.List.{List}
use Prim.Native.Nat.{ℕ}
use Rattle.std.specs.declared.result.Result.TheVariants.{Ok}
use Rattle.translator.specs.Made.{MakeLeaves}
use Rattle.translator.proofs.StageLaws.{many-makes, full-few, root-found, net-makes}
use Rattle.translator.proofs.NameLaws.{nameable, named-stands, named-nodes}
use Rattle.translator.proofs.counted.Goals as goal

pub returns-then-count-gt8192 : goal.returns-then-count-gt8192
returns-then-count-gt8192 c =
    λ t.
    rw c.at.ensures
    (many-makes t.read.whole c.args.work.now c.requires.0 t.read.told.sheet t.read.told.is t.found t.walked c.args.plain (rw (c.count.ensures t.read) at c.if-count-gt8192.true))

pub make_net-counts-requires : goal.make_net-counts-requires
make_net-counts-requires c =
    let t = c.requires.1 in
    record {
      nodes = _;
      read = t.read;
      net = _;
      is = full-few t.read.whole c.args.work.now c.requires.0 t.read.told.sheet t.read.told.is t.found t.walked (rw (c.count.ensures t.read) at c.if-count-gt8192.false);
      memory = c.requires.0;
    }

pub returns-then-plain : goal.returns-then-plain
returns-then-plain c =
    λ t.
    let e = full-few t.read.whole c.args.work.now c.requires.0 t.read.told.sheet t.read.told.is t.found t.walked (rw (c.count.ensures t.read) at c.if-count-gt8192.false) in
    net-makes c.args.plain t.read.whole c.args.work.now _ (record { counts = c.make_net-counts.result; root = c.args.root }) _ c.requires.0 e (root-found t.read.whole c.args.work.now c.requires.0 t.read.told.sheet t.read.told.is t.found t.walked c.args.root t.root_is) (c.make_net-counts.ensures (record { nodes = _; read = t.read; net = _; is = e; memory = c.requires.0 }))
    (λ f. absurd (true≢false (sym c.if-plain.true ∙ f)))

pub name-requires : goal.name-requires
name-requires c =
    let t = c.requires.1 in
    let e = full-few t.read.whole c.args.work.now c.requires.0 t.read.told.sheet t.read.told.is t.found t.walked (rw (c.count.ensures t.read) at c.if-count-gt8192.false) in
    nameable t.read.whole _ e t.read.told.sheet t.read.told.is t.read t.read.told.is
    (c.make_net-counts.ensures (record { nodes = _; read = t.read; net = _; is = e; memory = c.requires.0 })).ready.size

pub returns : goal.returns
returns c =
    λ t.
    let a = c.args in
    let e = full-few t.read.whole a.work.now c.requires.0 t.read.told.sheet t.read.told.is t.found t.walked (rw (c.count.ensures t.read) at c.if-count-gt8192.false) in
    let S = c.make_net-counts.ensures (record { nodes = _; read = t.read; net = _; is = e; memory = c.requires.0 }) in
    let f = c.name.ensures (nameable t.read.whole _ e t.read.told.sheet t.read.told.is t.read t.read.told.is S.ready.size) in
    subst (λ (w : List ℕ). MakeLeaves a.plain (Ok (record { counts = c.make_net-counts.result; root = a.root })) t.read.whole a.work.now w) (sym f)
    (net-makes a.plain t.read.whole a.work.now _ (record { counts = c.make_net-counts.result; root = a.root }) _ c.requires.0 e (root-found t.read.whole a.work.now c.requires.0 t.read.told.sheet t.read.told.is t.found t.walked a.root t.root_is) (named-stands t.read.whole _ e t.read.told.sheet t.read.told.is c.make_net-counts.result a.work.now _ S)
    (λ _. named-nodes t.read.whole _ e t.read.told.sheet t.read.told.is c.make_net-counts.result a.work.now _ S))
