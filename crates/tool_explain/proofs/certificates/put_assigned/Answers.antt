use Rattle.std.proofs.Common.{codes}
use Rattle.std.proofs.lemmas.Result.{on_ok_weaker}
use Rattle.text_print.specs.Printing.{name_of}
use Rattle.tool_explain.specs.Certificates.{known_test, known_action}
use Rattle.tool_explain.proofs.Appending.{four_written}
use Rattle.tool_explain.proofs.certificates.put_assigned.Goals as goal

pub returns : goal.returns
returns c =
    let names = name_of c.args.scope.now in
    let shown = c.args.shown.now in
    on_ok_weaker c.put_known.result
    (four_written c.args.out.now.items c.put.new.out.items c.put_known_action.new.out.items c.put-2.new.out.items c.put_known.new.out.items
    (codes "known after ") (known_action names shown c.args.action) (codes ": ") (known_test names shown c.args.test)
    c.in_ok-put.ensures c.in_ok-put_known_action.ensures c.in_ok-put-2.ensures)
    c.put_known.ensures
