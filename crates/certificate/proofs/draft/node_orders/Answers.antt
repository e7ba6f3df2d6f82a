use Rattle.std.proofs.Common.{refl, ap}
use Rattle.std.specs.Ordering.{is_eq}
use Rattle.std.proofs.lemmas.Bool.{false≢true}
use Rattle.std.proofs.lemmas.Map.Lookups.{exact_unsigned}
use Rattle.term_nodes.specs.declared.TestNode.TheVariants.{False, True, Prim, Not, And, Or}
use Rattle.term_nodes.specs.declared.TermNode.TheVariants.{Zero, One, Test, Act, Sum, Seq, Star}
use Rattle.kat_model.proofs.Numbers.{nat_cmp-own}
use Rattle.certificate.proofs.KnownNodes.{two_exact, two_own}
use Rattle.certificate.proofs.draft.node_orders.Goals as goal

pub returns-clause-tests : goal.returns-clause-tests
returns-clause-tests c False False e = refl
returns-clause-tests c True True e = refl
returns-clause-tests c (Prim k) (Prim l) e = ap Prim (exact_unsigned k l e)
returns-clause-tests c (Not x) (Not y) e = ap Not (exact_unsigned x y e)
returns-clause-tests c (And w x) (And y z) e = two_exact And w x y z e
returns-clause-tests c (Or w x) (Or y z) e = two_exact Or w x y z e
returns-clause-tests c x y e = absurd (false≢true (ap is_eq e))

pub returns-clause-tests_own : goal.returns-clause-tests_own
returns-clause-tests_own c False = refl
returns-clause-tests_own c True = refl
returns-clause-tests_own c (Prim k) = nat_cmp-own k
returns-clause-tests_own c (Not x) = nat_cmp-own x
returns-clause-tests_own c (And x y) = two_own x y
returns-clause-tests_own c (Or x y) = two_own x y

pub returns-clause-terms : goal.returns-clause-terms
returns-clause-terms c Zero Zero e = refl
returns-clause-terms c One One e = refl
returns-clause-terms c (Test x) (Test y) e = ap Test (exact_unsigned x y e)
returns-clause-terms c (Act a) (Act b) e = ap Act (exact_unsigned a b e)
returns-clause-terms c (Sum w x) (Sum y z) e = two_exact Sum w x y z e
returns-clause-terms c (Seq w x) (Seq y z) e = two_exact Seq w x y z e
returns-clause-terms c (Star x) (Star y) e = ap Star (exact_unsigned x y e)
returns-clause-terms c x y e = absurd (false≢true (ap is_eq e))

pub returns-clause-terms_own : goal.returns-clause-terms_own
returns-clause-terms_own c Zero = refl
returns-clause-terms_own c One = refl
returns-clause-terms_own c (Test x) = nat_cmp-own x
returns-clause-terms_own c (Act a) = nat_cmp-own a
returns-clause-terms_own c (Sum x y) = two_own x y
returns-clause-terms_own c (Seq x y) = two_own x y
returns-clause-terms_own c (Star x) = nat_cmp-own x
