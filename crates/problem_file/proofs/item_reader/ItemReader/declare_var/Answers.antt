use Rattle.std.proofs.Common.{length}
use Rattle.problem_file.proofs.Numbering.{var_numbered}
use Rattle.problem_file.proofs.item_reader.ItemReader.declare_var.Goals as goal

pub invariant_of-self-2 : goal.invariant_of-self-2
invariant_of-self-2 c =
    let walk = c.args.self.now in
    record { numbered = var_numbered walk.scope walk.tests walk.actions walk.vars (length walk.progs.items) walk.numbered c.declare.new.self c.args.name.now.text.now c.in_ok-declare.ensures.ok }
