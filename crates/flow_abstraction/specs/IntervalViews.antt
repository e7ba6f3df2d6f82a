-- The intervals of the program.
use Rattle.flow_forms.specs.Forms.{form_tree}
use Rattle.flow_problem.specs.FlowFacts.{Interval}
use Rattle.flow_abstraction.specs.declared.interval.Interval.{Interval as AnInterval}
use Rattle.flow_abstraction.specs.ArcViews.{arc_of}

abbrev pub interval_tree : AnInterval → Interval
interval_tree i = record { width = i.width; form = form_tree i.form; arc = arc_of i.arc }
