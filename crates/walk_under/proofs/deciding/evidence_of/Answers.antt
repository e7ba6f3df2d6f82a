use Rattle.std.proofs.Common.{List, sym, subst}
use Rattle.kat_model.specs.Degrees.{long_hyps, with_hyps}
use Rattle.certificate.specs.PairParts.{PairParts}
use Rattle.certificate.specs.declared.nodes.Style.TheVariants.{Under}
use Rattle.walk_pairs.specs.Numbering.{IsCertOf}
use Rattle.walk_pairs.specs.StoredPairs.{AreStoredPairs}
use Rattle.walk_under.specs.Working.Walking.{walk_context}
use Rattle.walk_under.proofs.UnderDecisions.{stored, certified}
use Rattle.walk_under.proofs.deciding.evidence_of.Goals as goal

pub merge-requires : goal.merge-requires
merge-requires c =
    let p = c.args.problem.now in
    let e = c.requires.ended in
    (walk_context e.counted (with_hyps p (long_hyps p)) c.args.store.now, e.under_way)

pub cert_of-requires : goal.cert_of-requires
cert_of-requires c =
    let e = c.requires.ended in
    let w = c.args.walk.now in
    let t = c.merge.new.store in
    let merged = c.in_ok-pairs.ensures in (
      w.diagrams.tests,
      subst (λ (ps : List PairParts). AreStoredPairs t Under w.diagrams.tests ps) (sym c.deref.ensures.value)
          (stored c.args.problem.now c.requires.within e.counted e.fewer c.args.store.now t merged.kept c.count.ensures.store w e.under_way c.in_ok-pairs.pairs.items merged.merged),
    )

pub returns-clause-decision : goal.returns-clause-decision
returns-clause-decision c =
    let e = c.requires.ended in
    let t = c.merge.new.store in
    let merged = c.in_ok-pairs.ensures in
    certified c.args.problem.now c.requires.within e.counted e.fewer c.args.store.now t merged.kept c.count.ensures.store c.args.walk.now e.under_way c.in_ok-pairs.pairs.items merged.merged
    c.in_ok-cert.cert (subst (λ (ps : List PairParts). IsCertOf t Under ps c.in_ok-cert.cert) c.deref.ensures.value c.in_ok-cert.ensures)
