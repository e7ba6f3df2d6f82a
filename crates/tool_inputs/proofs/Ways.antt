-- A reply with its cause: the possible statuses, each with what it implies.
use Rattle.std.proofs.Common.{◌≡◌, ◌⊎◌, ℕ, inl, inr, arith}

abbrev pub Ways : ℕ → (P0 P1 P2 P3 P4 : Type 0) → Type 0
Ways status P0 P1 P2 P3 P4 = ((status ≡ 0) × P0) ⊎ (((status ≡ 1) × P1) ⊎ (((status ≡ 2) × P2) ⊎ (((status ≡ 3) × P3) ⊎ ((status ≡ 4) × P4))))

module _ (status : ℕ) (P0 P1 P2 P3 P4 : Type 0) where
  pub at_zero : Ways status P0 P1 P2 P3 P4 → status ≡ 0 → P0
  at_zero (inl h) e = h.1
  at_zero (inr (inl h)) e = absurd (omega (arith, h.0, e))
  at_zero (inr (inr (inl h))) e = absurd (omega (arith, h.0, e))
  at_zero (inr (inr (inr (inl h)))) e = absurd (omega (arith, h.0, e))
  at_zero (inr (inr (inr (inr h)))) e = absurd (omega (arith, h.0, e))

  pub at_one : Ways status P0 P1 P2 P3 P4 → status ≡ 1 → P1
  at_one (inl h) e = absurd (omega (arith, h.0, e))
  at_one (inr (inl h)) e = h.1
  at_one (inr (inr (inl h))) e = absurd (omega (arith, h.0, e))
  at_one (inr (inr (inr (inl h)))) e = absurd (omega (arith, h.0, e))
  at_one (inr (inr (inr (inr h)))) e = absurd (omega (arith, h.0, e))

  pub at_two : Ways status P0 P1 P2 P3 P4 → status ≡ 2 → P2
  at_two (inl h) e = absurd (omega (arith, h.0, e))
  at_two (inr (inl h)) e = absurd (omega (arith, h.0, e))
  at_two (inr (inr (inl h))) e = h.1
  at_two (inr (inr (inr (inl h)))) e = absurd (omega (arith, h.0, e))
  at_two (inr (inr (inr (inr h)))) e = absurd (omega (arith, h.0, e))

  pub at_three : Ways status P0 P1 P2 P3 P4 → status ≡ 3 → P3
  at_three (inl h) e = absurd (omega (arith, h.0, e))
  at_three (inr (inl h)) e = absurd (omega (arith, h.0, e))
  at_three (inr (inr (inl h))) e = absurd (omega (arith, h.0, e))
  at_three (inr (inr (inr (inl h)))) e = h.1
  at_three (inr (inr (inr (inr h)))) e = absurd (omega (arith, h.0, e))
