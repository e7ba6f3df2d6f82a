-- Faults of ways.
use Rattle.flow_forms.specs.declared.fault.FormFault.{FormFault}
use Rattle.flow_forms.specs.declared.fault.FormFault.TheVariants as form
use Rattle.flow_ways.specs.declared.fault.WayFault.{WayFault}
use Rattle.flow_ways.specs.declared.fault.WayFault.TheVariants.{NoMemory, TooLarge}

-- the fault of a form as one of ways
abbrev pub way_fault_of : FormFault → WayFault
way_fault_of form.NoMemory = NoMemory
way_fault_of form.TooLarge = TooLarge
