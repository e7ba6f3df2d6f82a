use Rattle.while_lang.specs.declared.outcome.Outcome.TheVariants.{Done, Stuck, More}
use Rattle.while_lang.proofs.Outcomes.{decided}
use Rattle.while_lang.proofs.runs.run.Goals as goal

pub returns-clause-done : goal.returns-clause-done
returns-clause-done c t =
    decided c.args.width c.args.prog.now c.args.store.now c.args.turns c.run_list.result c.run_list.new.store c.run_list.new.turns c.requires.concrete
    (rw (← c.prog.view_is, ← c.deref.ensures.value) c.run_list.ensures.ended) Done t

pub returns-clause-stuck : goal.returns-clause-stuck
returns-clause-stuck c t =
    decided c.args.width c.args.prog.now c.args.store.now c.args.turns c.run_list.result c.run_list.new.store c.run_list.new.turns c.requires.concrete
    (rw (← c.prog.view_is, ← c.deref.ensures.value) c.run_list.ensures.ended) Stuck t

pub returns-clause-more : goal.returns-clause-more
returns-clause-more c t =
    decided c.args.width c.args.prog.now c.args.store.now c.args.turns c.run_list.result c.run_list.new.store c.run_list.new.turns c.requires.concrete
    (rw (← c.prog.view_is, ← c.deref.ensures.value) c.run_list.ensures.ended) More t
