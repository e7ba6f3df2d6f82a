-- A string has only one finding: the first of the cases that holds, with its least numbers.
use Rattle.std.proofs.Common.{◌≡◌, ℕ, ◌⊎◌, ⊎_elim, Some, None, Bool, true, false, refl, sym, ◌∙◌, arith}
use Rattle.std.proofs.lemmas.Bool.{false_from_ne_true}
use Rattle.kat_model.specs.Trees.{Term}
use Rattle.kat_model.specs.Problems.{ProblemParts}
use Rattle.kat_model.specs.Strings.{GuardedString, accepts}
use Rattle.string_tables.specs.Tables.{RelatesEnds}
use Rattle.string_tables.specs.declared.finding.Finding.{Finding}
use Rattle.string_tables.specs.declared.finding.Finding.TheVariants.{Refutes as RefutesBy, Shape, HypBroken, EndsAgree}
use Rattle.string_tables.specs.Findings.{misfit, IsBefore, IsFirstBroken, Counts, IsFinding}
use Rattle.string_tables.proofs.Parts.{ends_by_acceptance}
use Rattle.string_tables.proofs.Ends.{keeps_unbroken}

-- two least triples are equal

cases_before : (g h i k j l : ℕ) → ((g ≡ h) × (i ≡ k) × (j ≡ l)) ⊎ (IsBefore g h i k j l ⊎ IsBefore h g k i l j)
cases_before g h i k j l = grind arith

one_broken : (q : ProblemParts) (x : GuardedString) (h i j g k l : ℕ) → IsFirstBroken q x h i j → IsFirstBroken q x g k l → HypBroken h i j ≡ HypBroken g k l
one_broken q x h i j g k l a b =
    ⊎_elim
    (λ e. λ n. HypBroken (e.0 n) (e.1 n) (e.2 n))
    (λ d. absurd (⊎_elim (λ p. b.first h i j p a.broken) (λ p. a.first g k l p b.broken) d))
    (cases_before h g i k j l)

-- the finding that the sides give, if they differ or agree

abbrev pub ends_of : Bool → Bool → Finding
ends_of true true = EndsAgree true
ends_of false false = EndsAgree false
ends_of true false = RefutesBy true
ends_of false true = RefutesBy false

abbrev pub ends_finding : ProblemParts → GuardedString → Finding
ends_finding q x = ends_of (accepts q.left x.first x.rest) (accepts q.right x.first x.rest)

module _ (x : GuardedString) (e : Term) where
  related : RelatesEnds x e → accepts e x.first x.rest ≡ true
  related r = (ends_by_acceptance x e).0 r

  unrelated : (RelatesEnds x e → ⊥) → accepts e x.first x.rest ≡ false
  unrelated n = false_from_ne_true _ (λ t. n ((ends_by_acceptance x e).1 t))

-- the three kinds of findings in their order

shape_is_first : (q : ProblemParts) (x : GuardedString) (k : ℕ) (f : Finding) → misfit q x ≡ Some k → IsFinding q x f → f ≡ Shape k
shape_is_first q x k (Shape l) m a = cc
shape_is_first q x k (HypBroken h i j) m a = absurd cc
shape_is_first q x k (EndsAgree true) m a = absurd cc
shape_is_first q x k (EndsAgree false) m a = absurd cc
shape_is_first q x k (RefutesBy true) m a = absurd cc
shape_is_first q x k (RefutesBy false) m a = absurd cc

broken_is_next : (q : ProblemParts) (x : GuardedString) (h i j : ℕ) (f : Finding) → misfit q x ≡ None → IsFirstBroken q x h i j → IsFinding q x f → f ≡ HypBroken h i j
broken_is_next q x h i j (Shape l) m b a = absurd cc
broken_is_next q x h i j (HypBroken g k l) m b a = one_broken q x g k l h i j a.1 b
broken_is_next q x h i j (EndsAgree true) m b a = absurd (keeps_unbroken q x h i j a.0.1 b.broken)
broken_is_next q x h i j (EndsAgree false) m b a = absurd (keeps_unbroken q x h i j a.0.1 b.broken)
broken_is_next q x h i j (RefutesBy true) m b a = absurd (keeps_unbroken q x h i j a.0.1 b.broken)
broken_is_next q x h i j (RefutesBy false) m b a = absurd (keeps_unbroken q x h i j a.0.1 b.broken)

ends_are_last : (q : ProblemParts) (x : GuardedString) (f : Finding) → Counts q x → IsFinding q x f → f ≡ ends_finding q x
ends_are_last q x (Shape l) c a = absurd cc
ends_are_last q x (HypBroken h i j) c a = absurd (keeps_unbroken q x h i j c.1 a.1.broken)
ends_are_last q x (EndsAgree true) c a = rw (related x q.left a.1, related x q.right a.2) refl
ends_are_last q x (EndsAgree false) c a = rw (unrelated x q.left a.1, unrelated x q.right a.2) refl
ends_are_last q x (RefutesBy true) c a = rw (related x q.left a.1, unrelated x q.right a.2) refl
ends_are_last q x (RefutesBy false) c a = rw (unrelated x q.left a.1, related x q.right a.2) refl

pub one_finding : (q : ProblemParts) (x : GuardedString) (f g : Finding) → IsFinding q x f → IsFinding q x g → f ≡ g
one_finding q x (Shape k) g a b = sym (shape_is_first q x k g a b)
one_finding q x (HypBroken h i j) g a b = sym (broken_is_next q x h i j g a.0 a.1 b)
one_finding q x (EndsAgree true) g a b = ends_are_last q x (EndsAgree true) a.0 a ∙ sym (ends_are_last q x g a.0 b)
one_finding q x (EndsAgree false) g a b = ends_are_last q x (EndsAgree false) a.0 a ∙ sym (ends_are_last q x g a.0 b)
one_finding q x (RefutesBy true) g a b = ends_are_last q x (RefutesBy true) a.0 a ∙ sym (ends_are_last q x g a.0 b)
one_finding q x (RefutesBy false) g a b = ends_are_last q x (RefutesBy false) a.0 a ∙ sym (ends_are_last q x g a.0 b)
