use Rattle.std.proofs.Common.{sym}
use Rattle.text_print.proofs.NameOf.{name_is}
use Rattle.text_print.proofs.PrintedReadings.{term_reads, cond_reads, expr_reads}
use Rattle.text_print.proofs.laws.printed_reads_back.Goals as goal

pub returns-clause-terms : goal.returns-clause-terms
returns-clause-terms c w names e d is len size depth = term_reads w names e d is len size depth

pub returns-clause-conds : goal.returns-clause-conds
returns-clause-conds c w names b d compares is may len large size depth = cond_reads w names b d compares is may len large size depth

pub returns-clause-exprs : goal.returns-clause-exprs
returns-clause-exprs c w names e d is len size depth = expr_reads w names e d is len size depth

pub returns-clause-names : goal.returns-clause-names
returns-clause-names c w m name is = sym (name_is w m name is)
