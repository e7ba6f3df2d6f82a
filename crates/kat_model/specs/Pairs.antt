-- Pairs of sets of terms that show that the sides of a problem are the same: a bisimulation (Hopcroft and Karp 1971),
-- or a bisimulation up to congruence (Bonchi and Pous 2013).
use Rattle.std.specs.Prelude.{◌≡◌, ◌⊎◌, ◌<◌, ℕ, zero as nought, suc, Bool, true, false, ◌&&◌, ◌||◌, eqb, if◌then◌else◌, List, [], ◌∷◌, ◌++◌, length, Option, Some, None}
use Rattle.std.specs.List.{list_any, list_all}
use Rattle.kat_model.specs.Trees.{TestTree, bottom, top, prim, complement, meet, join, Term, zero, one, test, act, sum, product, star}
use Rattle.kat_model.specs.Members.{Has, SameMembers}
use Rattle.kat_model.specs.Steps.{Atom, set_out, set_next}
use Rattle.kat_model.specs.Problems.{ProblemParts}
use Rattle.kat_model.specs.Closed.{closed}

-- whether two tests are the same tree; `same_term` compares two terms
abbrev pub same_test : TestTree → TestTree → Bool
same_test bottom bottom = true
same_test top top = true
same_test (prim k) (prim l) = eqb k l
same_test (complement b) (complement c) = same_test b c
same_test (meet b c) (meet d e) = same_test b d && same_test c e
same_test (join b c) (join d e) = same_test b d && same_test c e
same_test b c = false

abbrev pub same_term : Term → Term → Bool
same_term zero zero = true
same_term one one = true
same_term (test b) (test c) = same_test b c
same_term (act a) (act b) = eqb a b
same_term (sum e f) (sum g h) = same_term e g && same_term f h
same_term (product e f) (product g h) = same_term e g && same_term f h
same_term (star e) (star f) = same_term e f
same_term e f = false

-- whether the set contains the term
abbrev pub has_term : List Term → Term → Bool
has_term es e = list_any (λ x. same_term x e) es

-- whether the set contains all terms of another set
abbrev pub holds_all : List Term → List Term → Bool
holds_all es fs = list_all (has_term es) fs

-- two sets of terms that should accept the same strings
pub record SetPair : Type 0 where
  pub left : List Term
  pub right : List Term

-- a set, with both sets of the pair added if it contains all of one of them
abbrev pub with_pair : List Term → SetPair → List Term
with_pair es p = if holds_all es p.left || holds_all es p.right then es ++ p.left ++ p.right else es

-- a set after one round over the pairs, in order
abbrev pub round : List SetPair → List Term → List Term
round [] es = es
round (p ∷ ps) es = round ps (with_pair es p)

abbrev pub rounds : ℕ → List SetPair → List Term → List Term
rounds nought ps es = es
rounds (suc n) ps es = rounds n ps (round ps es)

-- the saturation of a set: the set after as many rounds as there are pairs
abbrev pub sat : List SetPair → List Term → List Term
sat ps es = rounds (length ps) ps es

-- there is a universal term, and both sets contain it
abbrev pub BothUniversal : Option Term → List Term → List Term → Type 0
BothUniversal None es fs = ⊥
BothUniversal (Some u) es fs = Has es u × Has fs u

-- some listed pair has the members of these sets
pub record IsListed (pairs : List SetPair) (es fs : List Term) : Type 0 where
  pub pair : SetPair
  pub listed : Has pairs pair
  pub lefts : SameMembers es pair.left
  pub rights : SameMembers fs pair.right

-- both sets have the same saturation, or both saturations contain the universal term
abbrev pub IsCongruent : Option Term → List SetPair → List Term → List Term → Type 0
IsCongruent universal pairs es fs = SameMembers (sat pairs es) (sat pairs fs) ⊎ BothUniversal universal (sat pairs es) (sat pairs fs)

-- how the listed pairs must match the next sets of a pair: as listed, or up to congruence
pub data Style : Type 0 where
  plain : Style
  up_to : Style

abbrev pub AreMatched : Style → Option Term → List SetPair → List Term → List Term → Type 0
AreMatched plain universal pairs es fs = IsListed pairs es fs ⊎ BothUniversal universal es fs
AreMatched up_to universal pairs es fs = IsCongruent universal pairs es fs

-- under each atom the sets of a pair accept alike, and after each action their next sets are matched
pub record IsBisimulation (style : Style) (tests actions : ℕ) (universal : Option Term) (pairs : List SetPair) : Type 0 where
  pub outputs : (p : SetPair) → Has pairs p → (atom : Atom) → length atom ≡ tests → set_out p.left atom ≡ set_out p.right atom
  pub steps : (p : SetPair) → Has pairs p → (atom : Atom) → length atom ≡ tests → (a : ℕ) → a < actions → AreMatched style universal pairs (set_next p.left atom a) (set_next p.right atom a)

-- the first pair is the closed sides, each as a singleton set, and the pairs are a bisimulation
pub record AreAccepted (style : Style) (q : ProblemParts) (pairs : List SetPair) : Type 0 where
  pub rest : List SetPair
  pub first : pairs ≡ record { left = (closed q).left ∷ []; right = (closed q).right ∷ [] } ∷ rest
  pub bisimulation : IsBisimulation style q.tests q.actions (closed q).universal pairs

-- no two pairs have the same sets
abbrev pub AllDiffer : List SetPair → Type 0
AllDiffer [] = Unit {0}
AllDiffer (p ∷ ps) = (IsListed ps p.left p.right → ⊥) × AllDiffer ps
