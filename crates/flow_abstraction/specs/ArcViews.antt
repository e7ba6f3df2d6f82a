-- The arcs of the program.
use Rattle.flow_problem.specs.FlowFacts.{Arc}
use Rattle.flow_abstraction.specs.declared.interval.arcs.Arc.{Arc as AnArc}
use Rattle.flow_abstraction.specs.declared.interval.arcs.Span.{Span}

abbrev pub arc_of : AnArc → Arc
arc_of a = record { start = a.start; size = a.size }

abbrev pub span_of : Span → Arc
span_of a = record { start = a.start; size = a.size }
