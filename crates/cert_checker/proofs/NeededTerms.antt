-- Marks of the terms whose steps are computed, and the sets of tests that forbidden moves name.
use Rattle.std.proofs.Common.{◌≡◌, ◌<◌, ◌≤◌, ◌+◌, ℕ, ⊎_elim, List, ◌++◌, take, drop, length, slice_get, get_or, Bool, Some, arith, subst, sym, ap, ◌∙◌}
use Rattle.std.proofs.Math.Seq.{take-append_seam}
use Rattle.std.proofs.lemmas.Option.{slice_get_within, slice_get-get_or, get_or_from_slice_get}
use Rattle.kat_model.specs.Members.{Has}
use Rattle.kat_model.proofs.Numbers.{below_next}
use Rattle.kat_model.proofs.Places.{has_at, place_of_member}
use Rattle.certificate.specs.PairParts.{PairParts}
use Rattle.certificate.specs.Certs.{CertParts}
use Rattle.cert_checker.specs.NodeTables.{TableParts}
use Rattle.cert_checker.specs.Marks.{IsMarked, IsClosure}
use Rattle.cert_checker.specs.Passes.{AreNeeded}

-- the terms of the short hypotheses and of the first n pairs are marked
pub record AreGathered (numbers : List ℕ) (ps : List PairParts) (n : ℕ) (marks : List Bool) : Type 0 where
  pub shorts : (k : ℕ) → Has numbers k → IsMarked marks k
  pub left : (j : ℕ) (p : PairParts) (k : ℕ) → j < n → slice_get ps j ≡ Some p → Has p.left k → IsMarked marks k
  pub right : (j : ℕ) (p : PairParts) (k : ℕ) → j < n → slice_get ps j ≡ Some p → Has p.right k → IsMarked marks k

pub gathered_more : (shorts : List ℕ) (ps : List PairParts) (n : ℕ) (marks mid new : List Bool) (p : PairParts) → slice_get ps n ≡ Some p → AreGathered shorts ps n marks → ((k : ℕ) → IsMarked marks k → IsMarked mid k) → ((k : ℕ) → Has p.left k → IsMarked mid k)
    → ((k : ℕ) → IsMarked mid k → IsMarked new k) → ((k : ℕ) → Has p.right k → IsMarked new k) → AreGathered shorts ps (n + 1) new
gathered_more shorts ps n marks mid new p is g keep lefts keeps rights = record {
  shorts = λ k h. keeps k (keep k (g.shorts k h));
  left = λ j r k low at h. ⊎_elim (λ l. keeps k (keep k (g.left j r k l at h))) (λ e. keeps k (lefts k (subst (λ (z : PairParts). Has z.left k) (same j r at e) h))) (below_next j n low);
  right = λ j r k low at h. ⊎_elim (λ l. keeps k (keep k (g.right j r k l at h))) (λ e. rights k (subst (λ (z : PairParts). Has z.right k) (same j r at e) h)) (below_next j n low);
}
  where
    same : (j : ℕ) (r : PairParts) → slice_get ps j ≡ Some r → j ≡ n → r ≡ p
    same j r at e = let f : Some r ≡ Some p = sym at ∙ ap (slice_get ps) e ∙ is in cc

-- after all pairs were processed and the marks were closed, all needed terms are marked
pub gathered_ends : (t : TableParts) (c : CertParts) (shorts : List ℕ) (n : ℕ) (marks new : List Bool) → length c.pairs ≤ n → AreGathered shorts c.pairs n marks → IsClosure t marks new → AreNeeded t c shorts new
gathered_ends t c shorts n marks new all g made = record {
  closed = made.closed;
  left = λ p k m h. let at = place_of_member c.pairs p m in let low : at.0 < length c.pairs = slice_get_within c.pairs at.0 p at.1 in made.kept k (g.left at.0 p k (omega (arith, low, all)) at.1 h);
  right = λ p k m h. let at = place_of_member c.pairs p m in let low : at.0 < length c.pairs = slice_get_within c.pairs at.0 p at.1 in made.kept k (g.right at.0 p k (omega (arith, low, all)) at.1 h);
  shorts = λ k h. made.kept k (g.shorts k h);
}

-- a property of the element at each place holds for each member
pub each_member : {X : Type 0} (P : X → Type 0) (xs : List X) (d : X) → ((j : ℕ) → j < length xs → P (get_or xs j d)) → (x : X) → Has xs x → P x
each_member P xs d each x h = let at = place_of_member xs x h in subst P (get_or_from_slice_get xs at.0 x d at.1) (each at.0 (slice_get_within xs at.0 x at.1))

-- the element at a place is a member
pub member_at : {X : Type 0} (xs : List X) (i : ℕ) (d : X) → i < length xs → Has xs (get_or xs i d)
member_at xs i d low = has_at xs i (get_or xs i d) (slice_get-get_or xs i d low)

-- the marks after a slice of them was overwritten
pub written_back : (n : ℕ) (new marks : List Bool) → length new ≡ n → take n (new ++ drop (length new) marks) ≡ new
written_back n new marks e = ap (λ m. take m (new ++ drop (length new) marks)) (sym e) ∙ take-append_seam new (drop (length new) marks)
