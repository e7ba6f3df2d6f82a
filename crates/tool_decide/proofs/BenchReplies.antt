-- The reply of `bench` is the line of its numbers, which are unique.
use Rattle.std.proofs.Common.{◌≡◌, ◌<◌, ℕ, zero, suc, ◌+◌, List, [], length, inl, inr, refl, sym, ap, subst, ◌∙◌, arith}
use Rattle.kat_model.specs.Problems.{ProblemParts}
use Rattle.kat_model.specs.Strings.{GuardedString}
use Rattle.kat_model.specs.Relations.{Same}
use Rattle.certificate.specs.Certs.{CertParts}
use Rattle.certificate.specs.declared.evidence.Evidence.{Evidence}
use Rattle.certificate.specs.declared.evidence.Evidence.TheVariants.{Equal, Different}
use Rattle.certificate.specs.Decisions.{IsShortest, IsDecision}
use Rattle.bench_problems.specs.Generator.{bench_problem}
use Rattle.tool_decide.specs.Bench.{IsTally, tally_line, PrintsTally, BenchReply}
use Rattle.tool_decide.specs.Working.Tallies.{IsTallied, HasFewest}
use Rattle.tool_inputs.specs.Steps.{ShelfUse}
use Rattle.tool_inputs.proofs.Steps.{small_status}
use Rattle.tool_inputs.proofs.FileReplies.{HasOneFileReply}

-- ---- an additional problem

-- a decision of a problem: both sides are the same, or a shortest string refutes it
pub decided_same : (q p : ProblemParts) (e : Evidence) (c : CertParts) → IsDecision q e → q ≡ p → e ≡ Equal c → Same p
decided_same q p e c decision is given = subst Same is (subst (IsDecision q) given decision).0

pub decided_fewest : (q p : ProblemParts) (e : Evidence) (x : GuardedString) (moves : ℕ) → IsDecision q e → q ≡ p → e ≡ Different x → moves ≡ length x.rest → HasFewest p moves
decided_fewest q p e x moves decision is given count =
    let d : IsDecision q (Different x) = subst (IsDecision q) given decision in
    subst (λ r. HasFewest r moves) is (d.0, (x, d.1, count))

pub none_tallied : IsTallied 0 0 0 0
none_tallied = record { is_tally = (refl, refl, refl); few_equal = omega arith; few_different = omega arith; few_moves = omega arith }

module _ (k e d m : ℕ) (before : IsTallied k e d m) where
  next_is : suc k ≡ k + 1
  next_is = omega arith

  pub equal_tallied : Same (bench_problem k) → IsTallied (k + 1) (e + 1) d m
  equal_tallied same =
      let few_e = before.few_equal in
      let few_d = before.few_different in
      let few_m = before.few_moves in
      record {
        is_tally = subst (λ n. IsTally n (e + 1) d m) next_is (inl (e, before.is_tally, same, refl));
        few_equal = omega (arith, few_e);
        few_different = omega (arith, few_d);
        few_moves = omega (arith, few_m);
      }

  pub different_tallied : (moves : ℕ) → moves < 18446744073709551616 → HasFewest (bench_problem k) moves → IsTallied (k + 1) e (d + 1) (m + moves)
  different_tallied moves small h =
      let few_e = before.few_equal in
      let few_d = before.few_different in
      let few_m = before.few_moves in
      record {
        is_tally = subst (λ n. IsTally n e (d + 1) (m + moves)) next_is (inr (d, m, h.1.0, before.is_tally, h.0, h.1.1, refl, ap (λ n. m + n) h.1.2));
        few_equal = omega (arith, few_e);
        few_different = omega (arith, few_d);
        few_moves = omega (arith, few_m, small);
      }

-- ---- the tally is unique

-- two shortest strings have equally many moves
same_moves : (q : ProblemParts) (x y : GuardedString) → IsShortest q x → IsShortest q y → length x.rest ≡ length y.rest
same_moves q x y s t = let less = s.fewest y t.refutes in let more = t.fewest x s.refutes in omega (arith, less, more)

-- the numbers for the first `k` problems are unique
one_tally : (k e d m f c n : ℕ) → IsTally k e d m → IsTally k f c n → (e ≡ f) × (d ≡ c) × (m ≡ n)
one_tally zero e d m f c n x y = (x.0 ∙ sym y.0, x.1 ∙ sym y.1, x.2 ∙ sym y.2)
one_tally (suc k) e d m f c n (inl (b, x, same, is)) (inl (a, y, other, was)) =
    let one = one_tally k b d m a c n x y in
    (is ∙ ap (λ z. z + 1) one.0 ∙ sym was, one.1, one.2)
one_tally (suc k) e d m f c n (inl (b, x, same, is)) (inr (a, w, s, y, differ, rest, was, so)) = absurd (differ same)
one_tally (suc k) e d m f c n (inr (b, v, s, x, differ, rest, is, so)) (inl (a, y, same, was)) = absurd (differ same)
one_tally (suc k) e d m f c n (inr (b, v, s, x, differ, shortest, is, so)) (inr (a, w, t, y, other, least, was, made)) =
    let one = one_tally k e b v f a w x y in
    let moves : length s.rest ≡ length t.rest = same_moves _ s t shortest least in
    let before = one.1 in
    let so_far = one.2 in
    (one.0, omega (arith, is, was, before), omega (arith, so, made, so_far, moves))

pub bench_reply : (count : ℕ) (output : List ℕ) → PrintsTally count output → BenchReply count 0 output
bench_reply count output prints = record {
  answers = refl;
  prints = prints;
  only = λ equal different moves is.
      let one = one_tally count prints.equal prints.different prints.moves equal different moves prints.is_tally is in
      prints.printed ∙ ap (λ e. tally_line count e prints.different prints.moves) one.0 ∙ ap (λ d. tally_line count equal d prints.moves) one.1 ∙ ap (λ m. tally_line count equal different m) one.2;
}

pub bench_one : (s : ShelfUse) (count : ℕ) → HasOneFileReply s [] (BenchReply count) ⊥
bench_one s count = record {
  small = λ status output r. inl (small_status status (inl r.answers));
  once = λ unfailed given a b o p x y. x.answers ∙ sym y.answers;
}
