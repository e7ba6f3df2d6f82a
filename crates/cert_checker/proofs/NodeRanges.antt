-- The first node whose number is out of range.
use Rattle.std.proofs.Common.{◌≡◌, ℕ, ◌<◌, ◌≤◌, List, length, Option, Some, None, arith, ap, ◌∙◌}
use Rattle.std.specs.Option.{MatchOption}
use Rattle.std.specs.List.{HoldsAt, AllWithin}
use Rattle.std.proofs.lemmas.Option.{slice_get_within, slice_get-get_or, get_or_from_slice_get}
use Rattle.kat_model.specs.Members.{Has}
use Rattle.kat_model.proofs.Places.{place_of_member}
use Rattle.cert_checker.specs.Ranges.{IsFirstOut}

module _ {N : Type 0} (make : ℕ → N) (n : ℕ) where
  -- the node has a number out of range; the node has no number out of range
  abbrev pub IsOut : N → Type 0
  IsOut x = (i : ℕ) × (x ≡ make i) × (n ≤ i)

  abbrev pub IsIn : N → Type 0
  IsIn x = (i : ℕ) → x ≡ make i → i < n

  -- if no node is out of range, all are in range; otherwise the result is the first node out of range
  pub first_given : (nodes : List N) (r : Option ℕ) → MatchOption r (AllWithin IsIn nodes 0 (length nodes)) (λ k. (k < length nodes) × HoldsAt IsOut nodes k × AllWithin IsIn nodes 0 k) → MatchOption r ((i : ℕ) → Has nodes (make i) → i < n) (λ k. IsFirstOut make n nodes k)
  first_given nodes None h = λ i m.
      let at = place_of_member nodes (make i) m in
      let low : at.0 < length nodes = slice_get_within nodes at.0 (make i) at.1 in
      h at.0 (make i) (omega arith) low i (get_or_from_slice_get nodes at.0 (make i) (make i) at.1)
  first_given nodes (Some k) h =
      let out = h.1 (make 0) in
      record {
        number = out.0;
        is = slice_get-get_or nodes k (make 0) h.0 ∙ ap Some out.1;
        out = out.2;
        first = λ j i low at. h.2 j (make i) (omega arith) low i (get_or_from_slice_get nodes j (make i) (make i) at);
      }
