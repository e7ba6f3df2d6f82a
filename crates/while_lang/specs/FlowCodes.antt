-- A code of flows as trees of numbers. The logic distinguishes the values of a model by their codes.
use Rattle.std.specs.Prelude.{◌≡◌, refl}
use Rattle.std.proofs.Common.{ap}
use mathlib.Core.Path.{ap₂}
use base.Stored.{Gv, gnil, gnum, gcons}
use denote.Struct.Codes.{itself}
use Rattle.std.specs.Coded.{Coded, code_by}
use Rattle.kat_model.specs.Codes.{test_code, coded_as_test, test_of_code}
use Rattle.while_lang.specs.Flows.{FlowTree, empty, skip_then, abort_then, assert_then, act_then, branch_then, loop_then}

abbrev pub flow_code : FlowTree → Gv
flow_code empty = gnil
flow_code (skip_then rest) = gcons (gnum 0) (flow_code rest)
flow_code (abort_then rest) = gcons gnil (flow_code rest)
flow_code (assert_then b rest) = gcons (gcons gnil (test_code b)) (flow_code rest)
flow_code (act_then a rest) = gcons (gcons (gnum 0) (gnum a)) (flow_code rest)
flow_code (branch_then b f g rest) = gcons (gcons (gcons gnil (test_code b)) (gcons (flow_code f) (flow_code g))) (flow_code rest)
flow_code (loop_then b f rest) = gcons (gcons (gcons (gnum 0) (test_code b)) (flow_code f)) (flow_code rest)

abbrev pub coded_as_flow : Gv → FlowTree
coded_as_flow gnil = empty
coded_as_flow (gnum k) = empty
coded_as_flow (gcons gnil v) = abort_then (coded_as_flow v)
coded_as_flow (gcons (gnum k) v) = skip_then (coded_as_flow v)
coded_as_flow (gcons (gcons gnil b) v) = assert_then (coded_as_test b) (coded_as_flow v)
coded_as_flow (gcons (gcons (gnum k) (gnum a)) v) = act_then a (coded_as_flow v)
coded_as_flow (gcons (gcons (gcons gnil b) (gcons f g)) v) = branch_then (coded_as_test b) (coded_as_flow f) (coded_as_flow g) (coded_as_flow v)
coded_as_flow (gcons (gcons (gcons (gnum k) b) f) v) = loop_then (coded_as_test b) (coded_as_flow f) (coded_as_flow v)
coded_as_flow (gcons x v) = empty

pub flow_of_code : (f : FlowTree) → coded_as_flow (flow_code f) ≡ f
flow_of_code empty = refl
flow_of_code (skip_then rest) = ap skip_then (flow_of_code rest)
flow_of_code (abort_then rest) = ap abort_then (flow_of_code rest)
flow_of_code (assert_then b rest) = ap₂ assert_then (test_of_code b) (flow_of_code rest)
flow_of_code (act_then a rest) = ap (act_then a) (flow_of_code rest)
flow_of_code (branch_then b f g rest) = rw (test_of_code b, flow_of_code f, flow_of_code g, flow_of_code rest) refl
flow_of_code (loop_then b f rest) = rw (test_of_code b, flow_of_code f, flow_of_code rest) refl

abbrev pub coded_flow : Coded FlowTree
coded_flow = code_by Gv itself flow_code coded_as_flow flow_of_code
