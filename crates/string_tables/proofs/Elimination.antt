-- Elimination of hypotheses: the closed sides differ on a string exactly when its table keeps the hypotheses and the
-- sides differ.
use Rattle.std.proofs.Common.{◌≢◌, ℕ, ◌↔◌, inl, inr, ⊎_elim, List, [], ◌∷◌, length, refl, sym, ◌∙◌, arith, Bool, true, false, ◌||◌}
use Rattle.std.specs.Bool.{IsTrue}
use Rattle.std.proofs.Math.Bool.{or-true, or-false}
use Rattle.std.proofs.lemmas.Bool.{false≢true}
use Rattle.kat_model.specs.Trees.{Term}
use Rattle.kat_model.specs.Balanced.{sum_of}
use Rattle.kat_model.specs.Problems.{ProblemParts}
use Rattle.kat_model.specs.Relations.{Keeps, frame_of}
use Rattle.kat_model.specs.Strings.{GuardedString, IsString, AreMoves, accepts}
use Rattle.kat_model.specs.Closed.{universal_of, inside, closed_under}
use Rattle.kat_model.proofs.Acceptance.{accepts-sum}
use Rattle.kat_model.proofs.BalancedSums.{sum_of_relates}
use Rattle.kat_model.proofs.Universal.{inside_universal_accepts}
use Rattle.kat_model.proofs.Sameness.{inside_relates_none}
use Rattle.string_tables.specs.Tables.{table_of, ExactlyOne, Refutes}
use Rattle.string_tables.specs.Laws.{ClosedDiffer}
use Rattle.string_tables.proofs.Parts.{ends_by_acceptance, relates_within}

-- exactly one of two Boolean values is true if and only if they differ

differ_exactly : (a b : Bool) → a ≢ b → ExactlyOne (IsTrue a) (IsTrue b)
differ_exactly true true ne = absurd (ne refl)
differ_exactly true false ne = inl (refl, false≢true)
differ_exactly false true ne = inr (false≢true, refl)
differ_exactly false false ne = absurd (ne refl)

exactly_differ : (a b : Bool) → ExactlyOne (IsTrue a) (IsTrue b) → a ≢ b
exactly_differ a b o e = ⊎_elim (λ p. p.1 (sym e ∙ p.0)) (λ p. p.0 (e ∙ p.1)) o

exactly_one_same : {A B C D : Type 0} → A ↔ C → B ↔ D → ExactlyOne A B → ExactlyOne C D
exactly_one_same f g o = ⊎_elim (λ p. inl (f.0 p.0, (λ d. p.1 (g.1 d)))) (λ p. inr ((λ c. p.0 (f.1 c)), g.0 p.1)) o

-- the terms differ on the string
abbrev pub DifferOn : Term → Term → GuardedString → Type 0
DifferOn e f x = accepts e x.first x.rest ≢ accepts f x.first x.rest

abbrev pub ClosedDifferOn : ℕ → List Term → Term → Term → GuardedString → Type 0
ClosedDifferOn actions hyps left right x = DifferOn (closed_under actions hyps left right).left (closed_under actions hyps left right).right x

-- a disjunct of both values hides a difference exactly when it is true

or_differ : (a b c : Bool) → (a || c) ≢ (b || c) → (IsTrue c → ⊥) × (a ≢ b)
or_differ a b true ne = absurd (ne (or-true a ∙ sym (or-true b)))
or_differ a b false ne = (false≢true, λ e. ne (or-false a ∙ e ∙ sym (or-false b)))

differ_or : (a b c : Bool) → a ≢ b → (IsTrue c → ⊥) → (a || c) ≢ (b || c)
differ_or a b true ne not = absurd (not refl)
differ_or a b false ne not = λ e. ne (sym (or-false a) ∙ e ∙ or-false b)

module _ (tests actions : ℕ) (hyps : List Term) (x : GuardedString) where
  -- the sum of the hypotheses, between two universal terms, accepts the string
  abbrev pub IsAround : Type 0
  IsAround = IsTrue (accepts (inside (universal_of actions) (sum_of hyps)) x.first x.rest)

  keeps_not_around : Keeps (table_of x) hyps → IsAround → ⊥
  keeps_not_around keeps a =
      let around = inside (universal_of actions) (sum_of hyps) in
      inside_relates_none (table_of x) hyps (universal_of actions) 0 (length x.rest) keeps ((ends_by_acceptance x around).1 a)

  not_around_keeps : AreMoves tests actions x.rest → (IsAround → ⊥) → Keeps (table_of x) hyps
  not_around_keeps are not h has i j li lj r =
      let s = sum_of_relates (frame_of (table_of x)) i j hyps h has r in
      let w = relates_within x (sum_of hyps) i j (omega arith) (omega arith) s in
      not (inside_universal_accepts tests actions (sum_of hyps) x.first x.rest are w)

-- without hypotheses, the closed sides are the sides

closed_differ : (tests actions : ℕ) (hyps : List Term) (left right : Term) (x : GuardedString) → AreMoves tests actions x.rest → ClosedDifferOn actions hyps left right x → Keeps (table_of x) hyps × DifferOn left right x
closed_differ tests actions [] left right x are ne = ((λ h has. absurd has), ne)
closed_differ tests actions (h ∷ hs) left right x are ne =
    let around = inside (universal_of actions) (sum_of (h ∷ hs)) in
    let d = or_differ _ _ _ (λ e. ne (accepts-sum left around x.first x.rest ∙ e ∙ sym (accepts-sum right around x.first x.rest))) in
    (not_around_keeps tests actions (h ∷ hs) x are d.0, d.1)

differ_closed : (tests actions : ℕ) (hyps : List Term) (left right : Term) (x : GuardedString) → Keeps (table_of x) hyps → DifferOn left right x → ClosedDifferOn actions hyps left right x
differ_closed tests actions [] left right x keeps ne = ne
differ_closed tests actions (h ∷ hs) left right x keeps ne =
    let around = inside (universal_of actions) (sum_of (h ∷ hs)) in
    let d = differ_or _ _ _ ne (keeps_not_around tests actions (h ∷ hs) x keeps) in
    λ e. d (sym (accepts-sum left around x.first x.rest) ∙ e ∙ accepts-sum right around x.first x.rest)

pub refuted_differ : (q : ProblemParts) (x : GuardedString) → Refutes q x → IsString q.tests q.actions x × ClosedDiffer q x
refuted_differ q x r =
    let ends = exactly_one_same (ends_by_acceptance x q.left) (ends_by_acceptance x q.right) r.differs in
    (r.fits, differ_closed q.tests q.actions q.hyps q.left q.right x r.keeps (exactly_differ _ _ ends))

pub differ_refuted : (q : ProblemParts) (x : GuardedString) → IsString q.tests q.actions x → ClosedDiffer q x → Refutes q x
differ_refuted q x fits ne =
    let d = closed_differ q.tests q.actions q.hyps q.left q.right x fits.rest ne in
    let l = ends_by_acceptance x q.left in
    let r = ends_by_acceptance x q.right in
    record { fits = fits; keeps = d.0; differs = exactly_one_same (l.1, l.0) (r.1, r.0) (differ_exactly _ _ d.1) }
