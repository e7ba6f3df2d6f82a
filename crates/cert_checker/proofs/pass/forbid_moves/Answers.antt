use Rattle.std.proofs.Common.{◌<◌, length, sym, ap, arith, subst}
use Rattle.std.proofs.lemmas.Result.{on_ok_weaker}
use Rattle.term_nodes.specs.NumberSets.{terms_of}
use Rattle.cert_checker.specs.NodeTables.{nodes_in}
use Rattle.cert_checker.specs.Targets.{AreAcceptances, set_leads_to}
use Rattle.cert_checker.proofs.GrowingTables.{tests_trans}
use Rattle.cert_checker.proofs.StepSets.{represent_kept}
use Rattle.cert_checker.proofs.pass.forbid_moves.Goals as goal

pub forbid_targets-requires : goal.forbid_targets-requires
forbid_targets-requires c = λ e h.
    let own : e.0 < length c.of_set.new.tables.terms = (c.in_ok-targets.ensures.targets.entries e h).0 in
    omega (arith, own, c.in_ok-outputs.ensures.count, ap length c.deref.ensures.value)

pub returns-clause-added : goal.returns-clause-added
returns-clause-added c =
    let mid = c.of_set.new.tables in
    let last = c.acceptances.new.tables in
    let entries = c.in_ok-targets.targets.entries in
    let leads = set_leads_to c.args.action (terms_of (nodes_in c.args.tables.now) c.args.shorts.now) in
    on_ok_weaker c.forbid_targets.result
    (λ made. record {
      entries = entries;
      outputs = c.deref.result.now;
      represent = represent_kept mid last c.acceptances.ensures.grows.grows.was c.acceptances.ensures.grows.grows entries leads c.in_ok-targets.ensures.targets;
      accept = subst (AreAcceptances last) (sym c.deref.ensures.value) c.in_ok-outputs.ensures.values;
      there = λ e h. let own : e.0 < length mid.terms = (c.in_ok-targets.ensures.targets.entries e h).0 in omega (arith, own, c.in_ok-outputs.ensures.count, ap length c.deref.ensures.value);
      pairs = made;
    })
    c.forbid_targets.ensures

pub returns-in_err-outputs-clause-grows : goal.returns-in_err-outputs-clause-grows
returns-in_err-outputs-clause-grows c = tests_trans c.args.tables.now c.of_set.new.tables c.acceptances.new.tables c.of_set.ensures.grows c.acceptances.ensures.grows

pub returns-clause-grows : goal.returns-clause-grows
returns-clause-grows c = tests_trans c.args.tables.now c.of_set.new.tables c.acceptances.new.tables c.of_set.ensures.grows c.acceptances.ensures.grows
