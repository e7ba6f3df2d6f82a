use Rattle.std.proofs.Common.{◌++◌, ap, ◌∙◌}
use Rattle.std.specs.Fmt.{decimal}
use Rattle.certificate.proofs.Lines.{then_written}
use Rattle.tool_decide.proofs.bench.put_number.Goals as goal

pub returns : goal.returns
returns c =
    let before = c.extend_from_slice.new.self.items in
    then_written c.args.out.now.items before c.extend_from_slice-2.new.self.items c.args.word.now (decimal c.args.number) c.in_ok-extend_from_slice.ensures.items
    (c.in_ok-extend_from_slice-2.ensures.items ∙ ap (λ l. before ++ l) (c.as_bytes.ensures.value ∙ c.in_ok-format.ensures.ok))
