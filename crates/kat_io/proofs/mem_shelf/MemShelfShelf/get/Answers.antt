use Rattle.std.proofs.Common.{ap, sym, ◌∙◌, inl}
use Rattle.kat_io.specs.Shelves.{after_fault}
use Rattle.kat_io.proofs.Counted.{fault_counted}
use Rattle.kat_io.proofs.mem_shelf.MemShelfShelf.get.Goals as goal

pub returns-in-Some-2-clause-cause : goal.returns-in-Some-2-clause-cause
returns-in-Some-2-clause-cause c = fault_counted c.args.self.now c.fail.new.self c.args.name.now (c.fail.ensures.after ∙ ap (after_fault c.args.self.now) c.in_ok-copy.ensures.ok) c.fail.ensures.later

pub returns-in-Some-2-clause-state : goal.returns-in-Some-2-clause-state
returns-in-Some-2-clause-state c =
    (inl (rw (← c.self.view_is, ← c.deref.ensures.value) (sym c.contains-due.ensures.value ∙ c.if-not-due.false)), c.fail.ensures.after ∙ ap (after_fault c.args.self.now) c.in_ok-copy.ensures.ok)

pub returns-in-None-clause-cause : goal.returns-in-None-clause-cause
returns-in-None-clause-cause c = fault_counted c.args.self.now c.fail-in-None.new.self c.args.name.now (c.fail-in-None.ensures.after ∙ ap (after_fault c.args.self.now) c.in_ok-copy.ensures.ok) c.fail-in-None.ensures.later
