use Rattle.std.proofs.Common.{length, ◌≡◌, ℕ, List, Result, Ok, Err}
use Rattle.std.specs.Result.{OnOk, OnErr}
use Rattle.kat_model.specs.Trees.{kat_tree}
use Rattle.text_parser.specs.declared.fault.TextFault.{TextFault}
use Rattle.text_parser.specs.ScopeParts.{ScopeParts, Definition, defined}
use Rattle.problem_file.specs.Working.Numbers.{AreNumbered}
use Rattle.problem_file.proofs.Numbering.{term_numbered}
use Rattle.problem_file.proofs.making.ItemReaderItemReading.define.Goals as goal

numbered_still : {X : Type 0} (r : Result X TextFault) (w u : ScopeParts) (name : List ℕ) (d : Definition) (t a v p : ℕ) → AreNumbered w t a v p → OnOk r (u ≡ defined w name d) → OnErr r (u ≡ w) → AreNumbered u t a v p
numbered_still (Ok x) w u name d t a v p old ok err = term_numbered w t a v p old u name d ok
numbered_still (Err e) w u name d t a v p old ok err = rw err old

pub invariant_of-self : goal.invariant_of-self
invariant_of-self c =
    let reader = c.count.new.self in
    record { numbered = numbered_still c.define_term.result reader.scope c.define_term.new.self c.args.name.now.text.now (record { tree = kat_tree c.in_ok-tree.tree; nesting = c.args.term.measure.nesting }) reader.tests reader.actions reader.vars (length reader.progs.items) reader.numbered c.define_term.ensures.ok c.define_term.ensures.err }
