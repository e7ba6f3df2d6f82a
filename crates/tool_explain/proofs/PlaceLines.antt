-- The line of a place, by whether the place is at the end of the string.
use Rattle.std.proofs.Common.{◌≡◌, ℕ, List, ◌++◌, codes, nat_eq, Bool, if◌then◌else◌, ap, inl, inr}
use Rattle.std.specs.Fmt.{decimal}
use Rattle.std.proofs.lemmas.Bool.Decides.{eqb_tells}
use Rattle.kat_report.specs.Paths.{path_text}
use Rattle.tool_explain.specs.Differences.{ended_line, blocked_line, at_action_line}

module _ {X : Type 0} (here there : X) (k last : ℕ) where
  at_last : k ≡ last → (if nat_eq k last then here else there) ≡ here
  at_last is = elim (eqb_tells k last) [
    | inl same ↦ ap (λ (b : Bool). if b then here else there) same.0
    | inr other ↦ absurd (other.1 is)
  ]

  before_last : (k ≡ last → ⊥) → (if nat_eq k last then here else there) ≡ there
  before_last apart = elim (eqb_tells k last) [
    | inl same ↦ absurd (apart same.1)
    | inr other ↦ ap (λ (b : Bool). if b then here else there) other.0
  ]

module _ (name : List ℕ) (last k : ℕ) where
  pub ended_last : k ≡ last → ended_line name last k ≡ name ++ codes " has ended\n"
  ended_last = at_last (name ++ codes " has ended\n") (name ++ codes " has ended too early, at " ++ decimal k ++ codes "\n") k last

  pub ended_early : (k ≡ last → ⊥) → ended_line name last k ≡ name ++ codes " has ended too early, at " ++ decimal k ++ codes "\n"
  ended_early = before_last (name ++ codes " has ended\n") (name ++ codes " has ended too early, at " ++ decimal k ++ codes "\n") k last

  pub action_last : (path : List ℕ) → k ≡ last → at_action_line name last k path ≡ name ++ codes " has more to do: it is at " ++ path_text path ++ codes "\n"
  action_last path = at_last (name ++ codes " has more to do: it is at " ++ path_text path ++ codes "\n") (blocked_line name k path) k last

  pub action_early : (path : List ℕ) → (k ≡ last → ⊥) → at_action_line name last k path ≡ blocked_line name k path
  action_early path = before_last (name ++ codes " has more to do: it is at " ++ path_text path ++ codes "\n") (blocked_line name k path) k last
