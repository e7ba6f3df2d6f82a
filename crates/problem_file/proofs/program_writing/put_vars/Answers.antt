use Rattle.std.proofs.Common.{arith}
use Rattle.std.specs.Prelude.{codes}
use Rattle.text_parser.specs.declared.meaning.Meaning.TheVariants.{Var}
use Rattle.text_print.specs.Printing.{name_of}
use Rattle.std.proofs.lemmas.Result.{on_ok_weaker}
use Rattle.problem_file.proofs.PlainWritten.{name_more, declaration_written}
use Rattle.problem_file.proofs.program_writing.put_vars.Goals as goal

pub loop-k-preserved : goal.loop-k-preserved
loop-k-preserved c =
    name_more (λ k. name_of c.args.scope.now (Var k)) c.put_name.new.out.items c.loop-k.out.items c.put-in-loop-k.new.out.items c.put_name-in-loop-k.new.out.items c.loop-k.k
    (omega arith) c.loop-k.invariant c.in_ok-put-3.ensures c.in_ok-put_name-2.ensures

pub returns : goal.returns
returns c =
    on_ok_weaker c.put-3.result
    (declaration_written (λ k. name_of c.args.scope.now (Var k)) (codes "var") c.args.out.now.items c.put.new.out.items c.put-2.new.out.items c.put_name.new.out.items c.loop-k.out.items c.put-3.new.out.items c.loop-k.k c.args.count
    (omega arith) (omega arith) c.in_ok-put.ensures c.in_ok-put-2.ensures c.in_ok-put_name.ensures c.loop-k.invariant)
    c.put-3.ensures
