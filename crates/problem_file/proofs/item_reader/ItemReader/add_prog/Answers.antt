use Rattle.std.proofs.Common.{List, [], ◌∷◌, ◌++◌, length, ap, ◌∙◌}
use Rattle.while_lang.specs.declared.named.NamedProg.{NamedProg}
use Rattle.problem_file.proofs.Numbering.{added_numbered}
use Rattle.problem_file.proofs.item_reader.ItemReader.add_prog.Goals as goal

pub invariant_of-self-2 : goal.invariant_of-self-2
invariant_of-self-2 c =
    let reader = c.args.self.now in
    record {
      numbered = added_numbered reader.scope c.declare.new.self reader.tests reader.actions reader.vars c.len.result c.args.name.now.text.now reader.progs.items c.push_reserved.new.self.items c.args.named reader.numbered c.in_ok-declare.ensures.ok
          (c.len.ensures ∙ c.reserve.new.self.ok.0 ∙ ap length c.reserve.ensures.items)
          (c.push_reserved.ensures.items ∙ ap (λ (l : List NamedProg). l ++ c.args.named ∷ []) c.reserve.ensures.items);
    }
