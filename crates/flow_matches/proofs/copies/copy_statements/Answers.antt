use Rattle.std.proofs.Common.{ap, ◌∙◌, true, map, take_all}
use Rattle.flow_model.specs.Polish.{statement_of}
use Rattle.flow_model.specs.WholeGraphs.{is_whole_statement}
use Rattle.flow_matches.specs.Working.WholeSides.{are_whole_statements}
use Rattle.flow_matches.proofs.MappedLists.{mapped_next}
use Rattle.flow_matches.proofs.WholeParts.{all_copied}
use Rattle.flow_matches.proofs.copies.copy_statements.Goals as goal

pub loop-statement-preserved : goal.loop-statement-preserved
loop-statement-preserved c =
    let xs = c.args.statements.now in
    let i = c.loop-statement.statement-index in
    let x = c.statement-item.result in
    let old = c.loop-statement.copies.items in
    let new = c.append.new.list.items in
    let copy = c.in_ok-copy_statement.field-0 in
    record {
      trees = mapped_next statement_of statement_of xs i x old new copy c.loop-statement-test.true c.loop-statement.invariant.trees c.in_ok-append.ensures (c.in_ok-copy_statement.ensures.tree ∙ ap statement_of c.statement-item.is);
      whole = all_copied is_whole_statement true xs i old new x copy c.loop-statement-test.true c.in_ok-append.ensures c.in_ok-copy_statement.ensures.whole c.statement-item.is c.loop-statement.invariant.whole;
    }

pub returns-clause-trees : goal.returns-clause-trees
returns-clause-trees c = c.loop-statement.invariant.trees ∙ ap (map statement_of) (take_all c.loop-statement.statement-index c.args.statements.now c.loop-statement-test.false)

pub returns-clause-whole : goal.returns-clause-whole
returns-clause-whole c = c.loop-statement.invariant.whole ∙ ap are_whole_statements (take_all c.loop-statement.statement-index c.args.statements.now c.loop-statement-test.false)
