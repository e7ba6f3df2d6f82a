use Rattle.problem_file.proofs.Numbering.{test_numbered}
use Rattle.gkat_front.proofs.reader.GkatReader.declare_test.Goals as goal

pub invariant_of-self-2 : goal.invariant_of-self-2
invariant_of-self-2 c =
    let walk = c.args.self.now in
    record { numbered = test_numbered walk.scope walk.tests walk.actions 0 0 walk.numbered c.declare.new.self c.args.name.now.text.now c.in_ok-declare.ensures.ok }
