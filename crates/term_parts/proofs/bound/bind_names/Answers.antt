-- The invariant: so many names are bound, and those from p on are left. Assumes nothing.
use borrow.Author.Rules.{rules}
use Rattle.term_parts.proofs.BindLaws.{binding-none, binding-room, binding-small, binding-read, binding-more, binding-done}
use mathlib.Core.Path.{subst}
use Rattle.term_parts.specs.Names.{NameSays}
use native.Mathlib.Omega.{arith}
use Rattle.term_parts.proofs.bound.bind_names.Goals as goal

pub loop-i-init : goal.loop-i-init
loop-i-init c = binding-none c.args.text.now c.args.work.now c.args.at c.args.count c.args.top c.args.ty c.requires

pub name_at-requires : goal.name_at-requires
name_at-requires c = c.loop-i.invariant.stand.lexed

pub unwrap-x-requires : goal.unwrap-x-requires
unwrap-x-requires c = binding-read c.args.text.now c.args.work.now c.args.at c.args.count c.args.top c.args.ty c.requires c.loop-i.work c.loop-i.i c.loop-i.p c.loop-i.invariant c.loop-i-test.true c.name_at.result c.name_at.ensures

pub overflow_add-top : goal.overflow_add-top
overflow_add-top c = let f = c.requires.can.few in search rules

pub bind_name-requires : goal.bind_name-requires
bind_name-requires c = (omega (arith, c.requires.can.few), (binding-room c.args.text.now c.args.work.now c.args.at c.args.count c.args.top c.args.ty c.requires c.loop-i.work c.loop-i.i c.loop-i.p c.loop-i.invariant, binding-small c.args.text.now c.args.work.now c.args.at c.args.count c.args.top c.args.ty c.requires c.loop-i.work c.loop-i.i c.loop-i.p c.loop-i.invariant c.loop-i-test.true c.unwrap-x.result (subst (NameSays c.args.text.now c.loop-i.p) c.unwrap-x.ensures c.name_at.ensures)))

pub loop-i-preserved : goal.loop-i-preserved
loop-i-preserved c = binding-more c.args.text.now c.args.work.now c.args.at c.args.count c.args.top c.args.ty c.requires c.loop-i.work c.loop-i.i c.loop-i.p c.loop-i.invariant c.loop-i-test.true c.unwrap-x.result (subst (NameSays c.args.text.now c.loop-i.p) c.unwrap-x.ensures c.name_at.ensures) _ c.bind_name.ensures

pub shape_of-work : goal.shape_of-work
shape_of-work c = c.loop-i.invariant.only.same

pub returns : goal.returns
returns c = binding-done c.args.text.now c.args.work.now c.args.at c.args.count c.args.top c.args.ty c.requires c.loop-i.work c.loop-i.i c.loop-i.p c.loop-i.invariant c.loop-i-test.false
