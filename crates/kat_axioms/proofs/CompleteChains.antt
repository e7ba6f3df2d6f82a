-- Both sides are the same exactly where there is a chain.
use Rattle.chain_rules.proofs.Soundness.{chained_same}
use Rattle.kat_axioms.specs.Laws.{SameHaveChains}
use Rattle.kat_axioms.proofs.Chains.{proves_has_chain, has_chain_proves}
use Rattle.kat_axioms.proofs.Completeness.{same_proves}

pub axioms_complete : SameHaveChains
axioms_complete q is = record {
  chains = ((λ same. proves_has_chain q (same_proves q is same)), (λ h. chained_same q h.chain h.is));
  proves = (proves_has_chain q, has_chain_proves q);
}
