use Rattle.std.proofs.Common.{rules, drop}
use Rattle.text_parser.specs.Lexemes.{lexemes}
use Rattle.text_parser.specs.Parsed.{Expects}
use Rattle.text_parser.specs.Scans.{scan_cond}
use Rattle.text_parser.proofs.ScanFaults.{cond_faults, answers_fault}
use Rattle.text_parser.proofs.scan.cond_end.Goals as goal

pub returns-in_err-end-clause-fault : goal.returns-in_err-end-clause-fault
returns-in_err-end-clause-fault c =
    let ts = lexemes c.args.toks.now in
    let answers : Expects ts c.from_residual.result (scan_cond c.args.depth (drop c.args.from ts)) = search rules in
    answers_fault scan_cond cond_faults c.args.depth ts (drop c.args.from ts) c.from_residual.result answers
