use Rattle.std.proofs.Common.{◌≡◌, ◌++◌, subst, arith}
use Rattle.text_parser.specs.declared.meaning.Meaning.{Meaning}
use Rattle.text_print.specs.Printing.{name_of}
use Rattle.problem_file.proofs.PlainWritten.{name_more, declaration_written}
use Rattle.tool_programs.specs.Working.Kinds.{kind_word, kind_meaning}
use Rattle.tool_programs.proofs.gkat.put_names.Goals as goal

pub loop-k-preserved : goal.loop-k-preserved
loop-k-preserved c =
    name_more (λ k. name_of c.args.scope.now (kind_meaning c.args.kind k)) c.put_name.new.out.items c.loop-k.out.items c.put-in-loop-k.new.out.items c.put_name-in-loop-k.new.out.items c.loop-k.k
    (omega arith) c.loop-k.invariant c.in_ok-put-3.ensures
    (subst (λ (m : Meaning). c.put_name-in-loop-k.new.out.items ≡ c.put-in-loop-k.new.out.items ++ name_of c.args.scope.now m) c.meaning-in-loop-k.ensures c.in_ok-put_name-2.ensures)

pub returns : goal.returns
returns c =
    declaration_written (λ k. name_of c.args.scope.now (kind_meaning c.args.kind k)) (kind_word c.args.kind) c.args.out.now.items c.put.new.out.items c.put-2.new.out.items c.put_name.new.out.items c.loop-k.out.items c.put-3.new.out.items c.loop-k.k c.args.count
    (omega arith) (omega arith)
    (subst (λ w. c.put.new.out.items ≡ c.args.out.now.items ++ w) c.word.ensures c.in_ok-put.ensures)
    c.in_ok-put-2.ensures
    (subst (λ (m : Meaning). c.put_name.new.out.items ≡ c.put-2.new.out.items ++ name_of c.args.scope.now m) c.meaning.ensures c.in_ok-put_name.ensures)
    c.loop-k.invariant c.in_ok-put-4.ensures
