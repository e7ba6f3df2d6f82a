use Rattle.tool_explain.proofs.PlacePaths.{places_lead}
use Rattle.tool_explain.proofs.laws.places_are_statements.Goals as goal

pub returns : goal.returns
returns c = places_lead
