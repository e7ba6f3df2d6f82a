-- A certificate of the pairs of a finished walk is concise, and a concise one has few pairs if both sides are guarded.
use Rattle.std.proofs.Common.{◌≡◌, ◌+◌, ◌*◌, ◌≤◌, ◌<◌, ℕ, List, [], length, sym, subst, arith}
use Rattle.kat_model.specs.Trees.{acts}
use Rattle.kat_model.specs.Problems.{ProblemParts}
use Rattle.kat_model.specs.Guarded.{IsGuarded}
use Rattle.kat_model.specs.Members.{Has}
use Rattle.kat_model.specs.Pairs.{up_to, AreAccepted, AllDiffer}
use Rattle.term_nodes.specs.declared.TestNode.TheVariants.{Prim}
use Rattle.term_nodes.specs.declared.TermNode.TheVariants.{Act}
use Rattle.certificate.specs.declared.nodes.Style.TheVariants.{UpTo}
use Rattle.certificate.specs.Certs.{CertParts}
use Rattle.certificate.specs.Accepted.{set_pairs, ShowsSame}
use Rattle.certificate.specs.Decisions.{HasNoRedundantPair, pair_limit, IsConcise}
use Rattle.walk_up_to.specs.Walks.{Entry, pairs_of, IsWalk}
use Rattle.walk_up_to.proofs.NoRedundancy.{guarded_few}
use Rattle.walk_up_to.proofs.Endings.{walk_accepted, walk_bounds}

pub concise_few : (q : ProblemParts) (c : CertParts) → IsConcise q c → q.hyps ≡ [] → IsGuarded q.left → IsGuarded q.right → length (set_pairs c) ≤ (acts q.left + 2) * (acts q.right + 2)
concise_few q c concise none left right =
    let accepted : AreAccepted up_to q (set_pairs c) = subst (λ s. ShowsSame s q c) concise.up_to concise.accepted.pairs in
    let first = accepted.first in
    subst (λ ps. length ps ≤ (acts q.left + 2) * (acts q.right + 2)) (sym first)
    (guarded_few q accepted.rest (subst (HasNoRedundantPair q) first concise.needed) none left right)

-- the certificate lists the pairs of a walk that has processed all of them
pub walk_concise : (q : ProblemParts) (es : List Entry) (c : CertParts) → IsWalk q es (length es) → c.style ≡ UpTo → set_pairs c ≡ pairs_of es → ((k : ℕ) → Has c.test_nodes (Prim k) → k < q.tests) → ((a : ℕ) → Has c.term_nodes (Act a) → a < q.actions) → IsConcise q c
walk_concise q es c walk style same tests actions = record {
  accepted = record {
    tests = tests;
    actions = actions;
    pairs = subst (λ s. ShowsSame s q c) (sym style) (subst (AreAccepted up_to q) (sym same) (walk_accepted q es (length es) walk (omega arith)));
  };
  up_to = style;
  differ = subst AllDiffer (sym same) (walk_bounds q es (length es) walk).differ;
  needed = subst (HasNoRedundantPair q) (sym same) walk.needed;
  bounded = subst (λ ps. length ps ≤ pair_limit q) (sym same) (walk_bounds q es (length es) walk).few;
}
