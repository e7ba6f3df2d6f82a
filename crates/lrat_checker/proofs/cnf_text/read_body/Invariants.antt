use Rattle.std.proofs.Common.{◌≡◌, length}
use Rattle.lrat_checker.specs.Words.{read_from}
use Rattle.lrat_checker.specs.CnfTexts.{clause_format, clauses_from}
use Rattle.lrat_checker.specs.Working.ReadTexts.{left_of, last_of, clauses_read}
use Rattle.lrat_checker.proofs.cnf_text.read_body.Given as goal

abbrev pub invariant-words : goal.invariant-words
invariant-words l =
    read_from (clause_format l.fn.header.variables l.fn.header.count) (clauses_read l.draft) (left_of l.words) (last_of l.words) ≡ clauses_from (last_of l.initial.words) l.fn.header.variables l.fn.header.count (left_of l.initial.words)

abbrev pub decreases-words : goal.decreases-words
decreases-words l = length (left_of l.words)
