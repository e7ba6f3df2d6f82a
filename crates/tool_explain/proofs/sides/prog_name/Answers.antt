use Rattle.std.proofs.Common.{ap}
use Rattle.std.proofs.lemmas.Bool.{both_ways}
use Rattle.while_lang.specs.Files.{FileParts}
use Rattle.tool_explain.proofs.SideNames.{none_more, first_named, not_listed}
use Rattle.tool_explain.proofs.sides.prog_name.Goals as goal

pub loop-named-preserved : goal.loop-named-preserved
loop-named-preserved c =
    none_more c.deref-named-items.result.now c.loop-named.named-index c.named-item.result c.loop-named-test.true c.named-item.is c.args.prog.now c.loop-named.invariant
    (λ e. both_ways c.same.result c.if-same.false (c.same.ensures.1 e))

pub returns-then-same-clause-named : goal.returns-then-same-clause-named
returns-then-same-clause-named c =
    first_named c.args.file.now c.file.inside.progs.items c.deref-named-items.result.now c.args.prog.now
    (ap (λ (f : FileParts). f.progs) c.file.view_is) (ap (λ (f : FileParts). f.prog_names) c.file.view_is) c.deref-named-items.ensures.value
    c.loop-named.named-index c.named-item.result c.as_slice.result.now c.loop-named-test.true c.named-item.is c.loop-named.invariant (c.same.ensures.0 c.if-same.true) c.as_slice.ensures

pub returns-clause-none : goal.returns-clause-none
returns-clause-none c none =
    not_listed c.args.file.now c.file.inside.progs.items c.deref-named-items.result.now c.args.prog.now
    (ap (λ (f : FileParts). f.progs) c.file.view_is) (ap (λ (f : FileParts). f.prog_names) c.file.view_is) c.deref-named-items.ensures.value
    c.loop-named.named-index c.loop-named-test.false c.loop-named.invariant
