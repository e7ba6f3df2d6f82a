-- The finding in the table of a string is what the string shows.
use Rattle.std.proofs.Common.{◌≡◌, ◌≢◌, ◌↔◌, ℕ, inl, inr, ⊎_elim, Bool, true, false, refl, sym}
use Rattle.std.specs.Bool.{IsTrue}
use Rattle.std.proofs.lemmas.Bool.{false≢true, both_ways, true_from_ne_false}
use Rattle.kat_model.specs.Problems.{ProblemParts}
use Rattle.kat_model.specs.Relations.{Keeps}
use Rattle.kat_model.specs.Strings.{GuardedString}
use Rattle.string_tables.specs.Tables.{table_of, RelatesEnds, Refutes}
use Rattle.string_tables.specs.declared.finding.Finding.{Finding}
use Rattle.string_tables.specs.declared.finding.Finding.TheVariants.{Refutes as RefutesBy, Shape, HypBroken, EndsAgree}
use Rattle.string_tables.specs.Findings.{IsBroken, IsFirstBroken, Counts, IsFinding}
use Rattle.string_tables.specs.Working.Breaks.{BreaksFirst}
use Rattle.string_tables.proofs.Fitting.{no_misfit_is_string, string_has_no_misfit}
use Rattle.kat_model.proofs.Places.{has_at}

module _ (q : ProblemParts) (x : GuardedString) where
  pub broken_first : (h i j : ℕ) → BreaksFirst (table_of x) q.hyps h i j → IsFirstBroken q x h i j
  broken_first h i j f =
      let b = f.breaks in
      record {
        broken = record { hyp = b.term; is = b.is; from = b.from; to = b.to; relates = b.relates };
        first = λ g k l before c. f.first g k l before (record { term = c.hyp; is = c.is; from = c.from; to = c.to; relates = c.relates });
      }

  -- whether the sides relate the ends gives the finding

  pub agree_given : (l r : Bool) → Counts q x → IsTrue l ↔ RelatesEnds x q.left → IsTrue r ↔ RelatesEnds x q.right → l ≡ r → IsFinding q x (EndsAgree l)
  agree_given true r counts left right same = (counts, left.0 refl, right.0 (sym same))
  agree_given false r counts left right same = (counts, (λ h. false≢true (left.1 h)), (λ h. both_ways r (sym same) (right.1 h)))

  pub differ_given : (l r : Bool) → Counts q x → IsTrue l ↔ RelatesEnds x q.left → IsTrue r ↔ RelatesEnds x q.right → l ≢ r → IsFinding q x (RefutesBy l)
  differ_given true r counts left right differ = (counts, left.0 refl, (λ h. differ (sym (right.1 h))))
  differ_given false r counts left right differ = (counts, (λ h. false≢true (left.1 h)), right.0 (true_from_ne_false r (λ none. differ (sym none))))

  -- the finding `Refutes` shows a refutation, and no other finding does

  pub refuted_by : (b : Bool) → IsFinding q x (RefutesBy b) → Refutes q x
  refuted_by true f = record { fits = no_misfit_is_string q x f.0.0; keeps = f.0.1; differs = inl (f.1, f.2) }
  refuted_by false f = record { fits = no_misfit_is_string q x f.0.0; keeps = f.0.1; differs = inr (f.1, f.2) }

  -- a table that keeps the hypotheses breaks no hypothesis
  pub keeps_unbroken : (h i j : ℕ) → Keeps (table_of x) q.hyps → IsBroken q x h i j → ⊥
  keeps_unbroken h i j keeps b = keeps b.hyp (has_at q.hyps h b.hyp b.is) i j b.from b.to b.relates

  pub not_refuted : (f : Finding) → ((b : Bool) → f ≡ RefutesBy b → ⊥) → IsFinding q x f → Refutes q x → ⊥
  not_refuted (RefutesBy b) other f r = other b refl
  not_refuted (Shape k) other f r = let n = string_has_no_misfit q x r.fits in cc
  not_refuted (HypBroken h i j) other f r = keeps_unbroken h i j r.keeps f.1.broken
  not_refuted (EndsAgree true) other f r = ⊎_elim (λ p. p.1 f.2) (λ p. p.0 f.1) r.differs
  not_refuted (EndsAgree false) other f r = ⊎_elim (λ p. f.1 p.0) (λ p. f.2 p.1) r.differs
