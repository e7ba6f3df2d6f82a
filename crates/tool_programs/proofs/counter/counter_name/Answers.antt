use Rattle.std.proofs.Common.{◌+◌, string_bytes, subst, arith}
use Rattle.text_parser.specs.ScopeParts.{IsDeclared}
use Rattle.tool_programs.specs.Working.Counters.{pc_more, declared_here, undeclared_here, declared_more, tries_fall}
use Rattle.tool_programs.proofs.counter.counter_name.Goals as goal

pub loop-name-init : goal.loop-name-init
loop-name-init c = (0, c.in_ok-name.ensures.ok, λ k lt. absurd (omega (arith, lt)))

pub loop-name-preserved : goal.loop-name-preserved
loop-name-preserved c =
    let scope = c.args.scope.now in
    let name = string_bytes c.loop-name.name in
    let n = c.loop-name.invariant.0 in
    let here = declared_here scope name c.as_str.result.now c.find.result c.is_some.result c.as_str.ensures.value c.find.ensures.value c.is_some.ensures c.loop-name-test.true in (
      n + 1,
      pc_more n name (string_bytes c.push_str.new.self) c.loop-name.invariant.1 c.in_ok-push_str.ensures.bytes,
      declared_more scope n c.loop-name.invariant.2 (subst (IsDeclared scope) c.loop-name.invariant.1 here),
    )

pub loop-name-smaller : goal.loop-name-smaller
loop-name-smaller c =
    let scope = c.args.scope.now in
    let name = string_bytes c.loop-name.name in
    tries_fall scope name (string_bytes c.push_str.new.self)
    (declared_here scope name c.as_str.result.now c.find.result c.is_some.result c.as_str.ensures.value c.find.ensures.value c.is_some.ensures c.loop-name-test.true)
    c.in_ok-push_str.ensures.bytes

pub returns-clause-name : goal.returns-clause-name
returns-clause-name c = record {
  bars = c.loop-name.invariant.0;
  spelled = c.loop-name.invariant.1;
  is_new = undeclared_here c.args.scope.now (string_bytes c.loop-name.name) c.as_str.result.now c.find.result c.is_some.result c.as_str.ensures.value c.find.ensures.value c.is_some.ensures c.loop-name-test.false;
  fewest = c.loop-name.invariant.2;
}
