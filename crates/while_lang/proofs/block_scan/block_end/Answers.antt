use Rattle.std.proofs.Common.{rules, drop}
use Rattle.text_parser.specs.Lexemes.{lexemes}
use Rattle.text_parser.specs.Parsed.{Expects}
use Rattle.while_lang.specs.BlockScans.{scan_block}
use Rattle.while_lang.proofs.BlockScanFaults.{answers_block_fault}
use Rattle.while_lang.proofs.block_scan.block_end.Goals as goal

pub returns-in_err-end-clause-fault : goal.returns-in_err-end-clause-fault
returns-in_err-end-clause-fault c =
    let ts = lexemes c.args.toks.now in
    let answers : Expects ts c.from_residual.result (scan_block c.args.depth (drop c.args.from ts)) = search rules in
    answers_block_fault c.args.depth ts (drop c.args.from ts) c.from_residual.result answers
