use Rattle.flow_ways.proofs.WaysAreRuns.{ways_are_runs}
use Rattle.flow_ways.proofs.laws.ways_are_runs.Goals as goal

pub returns : goal.returns
returns c I g sorts is_place k s o p = ways_are_runs I g sorts is_place k s o p
