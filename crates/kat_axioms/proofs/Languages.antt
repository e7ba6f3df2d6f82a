-- Sameness is equality of languages of guarded strings.
use Rattle.std.proofs.Common.{List, sym, subst}
use Rattle.kat_model.specs.Trees.{Term}
use Rattle.kat_model.specs.Problems.{ProblemParts}
use Rattle.kat_model.specs.Relations.{Same}
use Rattle.kat_model.specs.Closed.{closed_under, closed}
use Rattle.string_tables.proofs.Elimination.{refuted_differ}
use Rattle.kat_laws.proofs.Theories.{unrefuted_same}
use Rattle.kat_axioms.specs.Laws.{AcceptSameStrings, SameAcceptAlike}
use Rattle.kat_axioms.proofs.Completeness.{same_closed_alike}

closed_alike_same : (q : ProblemParts) → AcceptSameStrings q (closed q).left (closed q).right → Same q
closed_alike_same q alike = unrefuted_same q (λ x refutes. let d = refuted_differ q x refutes in d.1 (alike x d.0))

-- the sides, closed under these hypotheses, accept the same strings; under no hypotheses they are the sides themselves
abbrev AcceptSameUnder : ProblemParts → List Term → Type 0
AcceptSameUnder q hyps = AcceptSameStrings q (closed_under q.actions hyps q.left q.right).left (closed_under q.actions hyps q.left q.right).right

pub same_language : SameAcceptAlike
same_language q = record {
  closed_sides = (same_closed_alike q, closed_alike_same q);
  sides = λ none. (
    (λ same. subst (AcceptSameUnder q) none (same_closed_alike q same)),
    (λ alike. closed_alike_same q (subst (AcceptSameUnder q) (sym none) alike)),
  );
}
