use Rattle.std.proofs.Common.{◌∙◌, ap}
use Rattle.while_lang.specs.FlowViews.{flows_tree}
use Rattle.tool_explain.specs.Working.Walks.{end_of}
use Rattle.tool_explain.proofs.Steps.{whole_end}
use Rattle.tool_explain.proofs.Ends.{place_same}
use Rattle.tool_explain.proofs.place.place_of.Goals as goal

pub returns : goal.returns
returns c =
    let x = c.args.string.now in
    let f = c.args.flows.now in
    let why = c.in_ok-stop.stop in
    let at = c.walk_list.new.cursor.at in
    let path = c.walk_list.new.path.items in
    c.place_at.ensures
    ∙ place_same x f why at path
    (whole_end x c.new-cursor.result.string.now c.new-path.result.items f c.deref.result.now c.new-cursor.result.at (end_of why at path)
    c.new-cursor.ensures.string c.new-path.ensures.items (ap flows_tree c.deref.ensures.value ∙ c.flows.view_is) c.new-cursor.ensures.start c.in_ok-stop.ensures.walked)
