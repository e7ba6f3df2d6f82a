-- The ways of the program.
use Rattle.std.specs.Prelude.{◌≡◌, ◌<◌, ℕ, ◌+◌, true, false, ◌++◌, map}
use Rattle.flow_model.specs.declared.sort.Sort.{Sort}
use Rattle.flow_forms.specs.Forms.{FlowFormTree, form_tree}
use Rattle.flow_ways.specs.CondTrees.{cond_tree}
use Rattle.flow_ways.specs.Ways.{WayEnd, at_place, at_return, Way}
use Rattle.flow_ways.specs.Outcomes.{Outcome}
use Rattle.flow_ways.specs.declared.way.SortedForm.{SortedForm}
use Rattle.flow_ways.specs.declared.way.WayEnd.{WayEnd as AWayEnd}
use Rattle.flow_ways.specs.declared.way.WayEnd.TheVariants.{AtPlace, AtReturn}
use Rattle.flow_ways.specs.declared.way.Way.{Way as AWay}
use Rattle.flow_ways.specs.declared.found.Found.{Found}
use Rattle.flow_ways.specs.declared.fault.WayFault.{WayFault}
use Rattle.flow_ways.specs.declared.fault.WayFault.TheVariants.{TooLarge, TooManyPaths}
use Rattle.flow_ways.specs.declared.limits.TheConstants.{MAX_WAYS}

abbrev pub sorted_form : SortedForm → Sort × FlowFormTree
sorted_form r = (r.sort, form_tree r.form)

abbrev pub end_tree : AWayEnd → WayEnd
end_tree (AtPlace k forms) = at_place k (map form_tree forms.items)
end_tree (AtReturn results) = at_return (map sorted_form results.items)

abbrev pub way_tree : AWay → Way
way_tree w = record { tests = map cond_tree w.tests.items; end = end_tree w.end }

-- all ways of an outcome are found
abbrev pub Adds : Outcome → Found → Found → Type 0
Adds o old new =
    (map way_tree new.ways.items ≡ map way_tree old.ways.items ++ o.ways) × (new.count ≡ old.count + o.count) × (o.fits ≡ true)

-- a fault has its reason: a form is too large, or the ways of an outcome are too many after those that were found before
abbrev pub HasReason : Outcome → ℕ → WayFault → Type 0
HasReason o count e = (e ≡ TooLarge → o.fits ≡ false) × (e ≡ TooManyPaths → MAX_WAYS < count + o.count)
