-- Sets with the same members are matched by the same pairs.
use Rattle.std.proofs.Common.{inl, inr, ⊎_elim, List, map, Option, Some, None}
use Rattle.kat_model.specs.Trees.{Term}
use Rattle.kat_model.specs.Members.{SameMembers}
use Rattle.kat_model.specs.Steps.{Atom}
use Rattle.kat_model.specs.Pairs.{SetPair, sat, BothUniversal, IsCongruent}
use Rattle.kat_model.specs.TestedPairs.{pairs_at}
use Rattle.kat_model.proofs.Lists.{same_members_sym, same_members_trans}
use Rattle.kat_model.proofs.Congruence.{sat_same}
use Rattle.term_nodes.specs.NodeLists.{NodeParts}
use Rattle.certificate.specs.declared.nodes.Style.{Style}
use Rattle.certificate.specs.declared.nodes.Style.TheVariants.{Plain, UpTo, Under}
use Rattle.certificate.specs.PairParts.{PairParts}
use Rattle.certificate.specs.Accepted.{tested_pair_of}
use Rattle.cert_checker.specs.Questions.{AreMatchedIn}

both_same : (universal : Option Term) (es fs gs hs : List Term) → SameMembers es gs → SameMembers fs hs → BothUniversal universal es fs → BothUniversal universal gs hs
both_same None es fs gs hs s u h = h
both_same (Some x) es fs gs hs s u h = ((s x).0 h.0, (u x).0 h.1)

congruent_same : (universal : Option Term) (ps : List SetPair) (es fs gs hs : List Term) → SameMembers es gs → SameMembers fs hs → IsCongruent universal ps es fs → IsCongruent universal ps gs hs
congruent_same universal ps es fs gs hs s u m =
    ⊎_elim
    (λ c. inl (same_members_trans (sat ps gs) (sat ps es) (sat ps hs) (same_members_sym (sat ps es) (sat ps gs) (sat_same ps es gs s)) (same_members_trans (sat ps es) (sat ps fs) (sat ps hs) c (sat_same ps fs hs u))))
    (λ b. inr (both_same universal (sat ps es) (sat ps fs) (sat ps gs) (sat ps hs) (sat_same ps es gs s) (sat_same ps fs hs u) b))
    m

-- sets with the same members are matched by the same pairs
pub matched_same : (nodes : NodeParts) (style : Style) (universal : Option Term) (ps : List PairParts) (es fs gs hs : List Term) (to : Atom) → SameMembers es gs → SameMembers fs hs → AreMatchedIn nodes style universal ps es fs to → AreMatchedIn nodes style universal ps gs hs to
matched_same nodes Plain universal ps es fs gs hs to s u m =
    ⊎_elim
    (λ l. inl (record {
      pair = l.pair;
      listed = l.listed;
      lefts = same_members_trans gs es l.pair.left (same_members_sym es gs s) l.lefts;
      rights = same_members_trans hs fs l.pair.right (same_members_sym fs hs u) l.rights;
    }))
    (λ b. inr (both_same universal es fs gs hs s u b))
    m
matched_same nodes UpTo universal ps es fs gs hs to s u m = congruent_same universal (pairs_at (map (tested_pair_of nodes) ps) to) es fs gs hs s u m
matched_same nodes Under universal ps es fs gs hs to s u m = congruent_same universal (pairs_at (map (tested_pair_of nodes) ps) to) es fs gs hs s u m
