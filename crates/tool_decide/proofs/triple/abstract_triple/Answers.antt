use Rattle.tool_decide.specs.Working.TextTriples.{simple_of_file}
use Rattle.tool_decide.proofs.triple.abstract_triple.Goals as goal

pub returns : goal.returns
returns c = simple_of_file c.args.file.now c.args.shown c.requires c.in_ok-task.task c.in_ok-task.ensures c.simple_triple.result c.simple_triple.ensures
