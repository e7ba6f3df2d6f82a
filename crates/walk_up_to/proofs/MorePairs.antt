-- Sets that are congruent under some pairs are congruent under more.
use Rattle.std.proofs.Common.{ℕ, List, ◌++◌, Option}
use Rattle.kat_model.specs.Trees.{Term}
use Rattle.kat_model.specs.Members.{IsSubset}
use Rattle.kat_model.specs.Problems.{ProblemParts}
use Rattle.kat_model.specs.Closed.{closed}
use Rattle.kat_model.specs.Pairs.{SetPair, IsCongruent}
use Rattle.kat_model.proofs.Lists.{has_left}
use Rattle.kat_model.proofs.Congruence.{congruent_more}
use Rattle.walk_up_to.specs.Walks.{AreCongruentAfter, IsSettled}

pub congruent_front : (universal : Option Term) (ps qs : List SetPair) (es fs : List Term) → IsCongruent universal ps es fs → IsCongruent universal (ps ++ qs) es fs
congruent_front universal ps qs es fs c = congruent_more ps (ps ++ qs) (λ p h. has_left ps qs p h) universal es fs c

module _ (q : ProblemParts) (ps qs : List SetPair) (more : IsSubset ps qs) (p : SetPair) where
  pub congruent_after_more : (a : ℕ) → AreCongruentAfter q ps p a → AreCongruentAfter q qs p a
  congruent_after_more a c atom wide = congruent_more ps qs more (closed q).universal _ _ (c atom wide)

  pub settled_more : IsSettled q ps p → IsSettled q qs p
  settled_more s = record { outputs = s.outputs; steps = λ a h. congruent_after_more a (s.steps a h) }
