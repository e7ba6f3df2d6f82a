use Rattle.tool_commands.proofs.StoreValues.{store_is}
use Rattle.kat_tool.proofs.laws.words_give_stores.Goals as goal

pub returns : goal.returns
returns c = store_is
