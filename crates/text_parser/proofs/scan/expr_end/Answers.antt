use Rattle.std.proofs.Common.{rules, drop}
use Rattle.text_parser.specs.Lexemes.{lexemes}
use Rattle.text_parser.specs.Parsed.{Expects}
use Rattle.text_parser.specs.Scans.{scan_expr}
use Rattle.text_parser.proofs.ScanFaults.{expr_faults, answers_fault}
use Rattle.text_parser.proofs.scan.expr_end.Goals as goal

pub returns-in_err-end-clause-fault : goal.returns-in_err-end-clause-fault
returns-in_err-end-clause-fault c =
    let ts = lexemes c.args.toks.now in
    let answers : Expects ts c.from_residual.result (scan_expr c.args.depth (drop c.args.from ts)) = search rules in
    answers_fault scan_expr expr_faults c.args.depth ts (drop c.args.from ts) c.from_residual.result answers
