use Rattle.outline_rules.proofs.Exactness.{faults_are_first_lem}
use Rattle.outline_rules.proofs.note_laws.faults_are_first.Goals as goal

pub returns : goal.returns
returns c = faults_are_first_lem
