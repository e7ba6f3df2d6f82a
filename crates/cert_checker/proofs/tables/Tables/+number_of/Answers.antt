use Rattle.std.proofs.Common.{subst}
use Rattle.cert_checker.specs.NodeTables.{TablesGrow}
use Rattle.cert_checker.proofs.GrowingTables.{grows_trans}
use Rattle.cert_checker.proofs.TargetSets.{term_within}
use Rattle.cert_checker.proofs.tables.Tables.+number_of.Goals as goal
use Rattle.cert_checker.proofs.tables.Tables.+number_of.Goals.{in-Zero, in-One, in-Test+in_ok-number_of_test-in-Test, in-Act, in-Sum+in_ok-number_of-in-Sum+in_ok-number_of-in-Sum-2, in-Seq+in_ok-number_of-in-Seq+in_ok-number_of-in-Seq-2, in-Star+in_ok-number_of-in-Star}

pub returns-clause-grows : goal.returns-clause-grows
returns-clause-grows t c =
    let old = c.args.self.now in
    let new = c.term.new.self in
    elim c.match-term.branch [
      | in-Zero w ↦ subst (λ s. TablesGrow s new) w.self-is c.term.ensures.grows
      | in-One w ↦ subst (λ s. TablesGrow s new) w.self-is c.term.ensures.grows
      | in-Test+in_ok-number_of_test-in-Test w ↦ grows_trans old w.number_of_test.new.self new w.number_of_test.ensures.grows (subst (λ s. TablesGrow s new) w.self-is c.term.ensures.grows)
      | in-Act w ↦ subst (λ s. TablesGrow s new) w.self-is c.term.ensures.grows
      | in-Sum+in_ok-number_of-in-Sum+in_ok-number_of-in-Sum-2 w ↦ grows_trans old w.number_of.new.self new w.number_of.ensures.grows (grows_trans w.number_of.new.self w.number_of-in-Sum.new.self new w.number_of-in-Sum.ensures.grows (subst (λ s. TablesGrow s new) w.self-is c.term.ensures.grows))
      | in-Seq+in_ok-number_of-in-Seq+in_ok-number_of-in-Seq-2 w ↦ grows_trans old w.number_of-in-Seq.new.self new w.number_of-in-Seq.ensures.grows (grows_trans w.number_of-in-Seq.new.self w.number_of-in-Seq-2.new.self new w.number_of-in-Seq-2.ensures.grows (subst (λ s. TablesGrow s new) w.self-is c.term.ensures.grows))
      | in-Star+in_ok-number_of-in-Star w ↦ grows_trans old w.number_of-in-Star.new.self new w.number_of-in-Star.ensures.grows (subst (λ s. TablesGrow s new) w.self-is c.term.ensures.grows)
    ]

pub returns-in_err-number_of-in-Sum-2-clause-grows : goal.returns-in_err-number_of-in-Sum-2-clause-grows
returns-in_err-number_of-in-Sum-2-clause-grows t c = grows_trans c.args.self.now c.number_of.new.self c.number_of-in-Sum.new.self c.number_of.ensures.grows c.number_of-in-Sum.ensures.grows

pub returns-in_err-number_of-in-Seq-2-clause-grows : goal.returns-in_err-number_of-in-Seq-2-clause-grows
returns-in_err-number_of-in-Seq-2-clause-grows t c = grows_trans c.args.self.now c.number_of-in-Seq.new.self c.number_of-in-Seq-2.new.self c.number_of-in-Seq.ensures.grows c.number_of-in-Seq-2.ensures.grows

-- the node names only tests and terms of the tables
pub term-requires : goal.term-requires
term-requires t c =
    elim c.match-term.branch [
      | in-Zero w ↦ rw w.node-is tt
      | in-One w ↦ rw w.node-is tt
      | in-Test+in_ok-number_of_test-in-Test w ↦ rw (w.self-is, w.node-is) w.in_ok-number_of_test-in-Test.ensures.tree.0
      | in-Act w ↦ rw w.node-is tt
      | in-Sum+in_ok-number_of-in-Sum+in_ok-number_of-in-Sum-2 w ↦ rw (w.self-is, w.node-is) (term_within w.number_of.new.self w.number_of-in-Sum.new.self w.number_of-in-Sum.ensures.grows.was w.number_of-in-Sum.ensures.grows _ w.in_ok-number_of-in-Sum.ensures.is_term, w.in_ok-number_of-in-Sum-2.ensures.is_term)
      | in-Seq+in_ok-number_of-in-Seq+in_ok-number_of-in-Seq-2 w ↦ rw (w.self-is, w.node-is) (term_within w.number_of-in-Seq.new.self w.number_of-in-Seq-2.new.self w.number_of-in-Seq-2.ensures.grows.was w.number_of-in-Seq-2.ensures.grows _ w.in_ok-number_of-in-Seq.ensures.is_term, w.in_ok-number_of-in-Seq-2.ensures.is_term)
      | in-Star+in_ok-number_of-in-Star w ↦ rw (w.self-is, w.node-is) w.in_ok-number_of-in-Star.ensures.is_term
    ]
