-- A flow file as definitions see it.
use Rattle.std.specs.Prelude.{List, map, Vec, string_bytes}
use Rattle.std.specs.declared.alloc.Global.{Global}
use Rattle.flow_model.specs.declared.graph.Block.{Block}
use Rattle.flow_model.specs.Graphs.{Graph}
use Rattle.flow_text.specs.Trees.{graph_of}
use Rattle.flow_text.specs.MatchViews.{matches_parts}
use Rattle.flow_text.specs.declared.reading.FlowFile.{FlowFile}
use Rattle.flow_text.specs.Checking.{FlowFileParts}

abbrev pub graphs_of : List (Vec Block Global) → List Graph
graphs_of gs = map (λ g. graph_of g.items) gs

abbrev pub file_parts : FlowFile → FlowFileParts
file_parts f = record { sorts = f.sorts.items; graphs = graphs_of f.graphs.items; before = f.before; after = f.after; matches = matches_parts f.matches.items; rounds = f.rounds; splits = f.splits; variable_names = map string_bytes f.variable_names.items; function_names = map string_bytes f.function_names.items }
