-- Marks that are closed under the parts of terms, from the last term to the first.
use Rattle.std.proofs.Common.{◌≡◌, ◌⊎◌, inl, inr, ⊎_elim, ℕ, ◌-◌, ◌<◌, ◌≤◌, Bool, true, List, [], ◌∷◌, length, slice_get, set, Some, sym, ap, ◌∙◌, subst, arith}
use Rattle.std.proofs.lemmas.Bool.{cases_lt}
use Rattle.std.proofs.lemmas.List.{length-set}
use Rattle.std.proofs.lemmas.Option.{slice_get_within, same_Some}
use Rattle.kat_model.specs.Members.{Has}
use Rattle.kat_model.proofs.Places.{slice_get-append_left, slice_get-set_same, slice_get-set_kept, slice_get-set_cases}
use Rattle.term_nodes.specs.declared.TermNode.{TermNode}
use Rattle.term_nodes.specs.Nodes.{term_parts}
use Rattle.term_nodes.proofs.Parts.{IsOver-part}
use Rattle.cert_checker.specs.NodeTables.{TableParts, AreTables, TablesGrow}
use Rattle.cert_checker.specs.Marks.{IsMarked, IsPart, AreClosed, IsClosure}

-- ---- the marks of some numbers

-- the marks, with the numbers marked in addition
abbrev pub with_marks : List Bool → List ℕ → List Bool
with_marks marks [] = marks
with_marks marks (k ∷ ks) = with_marks (set marks k true) ks

marked_keep : (ks : List ℕ) (marks : List Bool) (j : ℕ) → IsMarked marks j → IsMarked (with_marks marks ks) j
marked_keep [] marks j m = m
marked_keep (k ∷ ks) marks j m = marked_keep ks (set marks k true) j (slice_get-set_kept marks k j true m)

marked_new : (ks : List ℕ) (marks : List Bool) (j : ℕ) → Has ks j → j < length marks → IsMarked (with_marks marks ks) j
marked_new [] marks j h low = absurd h
marked_new (k ∷ ks) marks j h low =
    ⊎_elim
    (λ same. marked_keep ks (set marks k true) j (subst (λ i. IsMarked (set marks k true) i) same (slice_get-set_same marks k true (subst (λ i. i < length marks) (sym same) low))))
    (λ rest. marked_new ks (set marks k true) j rest (subst (λ n. j < n) (sym (length-set marks k true)) low))
    h

marked_cases : (ks : List ℕ) (marks : List Bool) (j : ℕ) → IsMarked (with_marks marks ks) j → IsMarked marks j ⊎ Has ks j
marked_cases [] marks j m = inl m
marked_cases (k ∷ ks) marks j m =
    ⊎_elim
    (λ was. ⊎_elim (λ same. inr (inl (sym same))) inl (slice_get-set_cases marks k j true true was))
    (λ rest. inr (inr rest))
    (marked_cases ks (set marks k true) j m)

-- ---- the marks from some number on are closed

-- parts have lesser numbers
pub parts_before : (t : TableParts) → AreTables t → (k : ℕ) (node : TermNode ℕ ℕ) → slice_get t.terms k ≡ Some node → (j : ℕ) → Has (term_parts node) j → j < k
parts_before t are k node at = IsOver-part (length t.tests) k node (are.rules.terms_ordered k node at)

pub record IsClosing (t : TableParts) (from : ℕ) (old now : List Bool) : Type 0 where
  pub kept : (k : ℕ) → IsMarked old k → IsMarked now k
  pub closed : (k j : ℕ) → from ≤ k → IsMarked now k → IsPart t k j → IsMarked now j
  pub least : (j : ℕ) → IsMarked now j → IsMarked old j ⊎ ((k : ℕ) × IsMarked now k × IsPart t k j)

pub closing_begins : (t : TableParts) (from : ℕ) (marks : List Bool) → length marks ≤ from → IsClosing t from marks marks
closing_begins t from marks past = record {
  kept = λ k m. m;
  closed = λ k j le m part. let low : k < length marks = slice_get_within marks k true m in absurd (omega (arith, past, le, low));
  least = λ j m. inl m;
}

pub closing_ends : (t : TableParts) (from : ℕ) (old now : List Bool) → from ≤ 0 → IsClosing t from old now → IsClosure t old now
closing_ends t from old now none c = record {
  kept = c.kept;
  closed = λ k j m part. c.closed k j (omega (arith, none)) m part;
  least = c.least;
}

module _ (t : TableParts) (from : ℕ) (old now : List Bool) (above : 0 < from) (c : IsClosing t from old now) where
  here_or_later : (k : ℕ) → from - 1 ≤ k → (k ≡ from - 1) ⊎ (from ≤ k)
  here_or_later k le = ⊎_elim (λ low. inl (omega (arith, above, le, low))) (λ more. inr more) (cases_lt k from)

  -- the step for an unmarked term
  pub closing_past : (IsMarked now (from - 1) → ⊥) → IsClosing t (from - 1) old now
  closing_past other = record {
    kept = c.kept;
    closed = λ k j le m part. ⊎_elim (λ same. absurd (other (subst (IsMarked now) same m))) (λ more. c.closed k j more m part) (here_or_later k le);
    least = c.least;
  }

  -- the step for a marked term, which marks its parts
  pub closing_more : (node : TermNode ℕ ℕ) → slice_get t.terms (from - 1) ≡ Some node → IsMarked now (from - 1) → ((j : ℕ) → Has (term_parts node) j → j < from - 1) → IsClosing t (from - 1) old (with_marks now (term_parts node))
  closing_more node at own earlier = record {
    kept = λ k m. keep k (c.kept k m);
    closed = λ k j le m part.
        ⊎_elim
        (λ was. ⊎_elim (λ same. parts_marked k j same part) (λ more. keep j (c.closed k j more was part)) (here_or_later k le))
        (λ new. let low : k < from - 1 = earlier k new in absurd (omega (arith, le, low)))
        (marked_cases (term_parts node) now k m);
    least = λ j m.
        ⊎_elim
        (λ was. ⊎_elim inl (λ p. inr (p.0, keep p.0 p.1, p.2)) (c.least j was))
        (λ new. inr (from - 1, keep (from - 1) own, (node, at, new)))
        (marked_cases (term_parts node) now j m);
  }
    where
      keep : (k : ℕ) → IsMarked now k → IsMarked (with_marks now (term_parts node)) k
      keep k m = marked_keep (term_parts node) now k m

      parts_marked : (k j : ℕ) → k ≡ from - 1 → IsPart t k j → IsMarked (with_marks now (term_parts node)) j
      parts_marked k j same part =
          let one : part.0 ≡ node = same_Some part.0 node (sym part.1 ∙ ap (slice_get t.terms) same ∙ at) in
          let mine : Has (term_parts node) j = subst (λ n. Has (term_parts n) j) one part.2 in
          let low : j < from - 1 = earlier j mine in
          let there : from - 1 < length now = slice_get_within now (from - 1) true own in
          marked_new (term_parts node) now j mine (omega (arith, low, there))

-- ---- closed marks remain closed when tables grow

pub closed_kept : (old new : TableParts) → TablesGrow old new → (marks : List Bool) → length marks ≤ length old.terms → AreClosed old marks → AreClosed new marks
closed_kept old new grows marks low closed k j m part =
    let here : k < length marks = slice_get_within marks k true m in
    let there : k < length old.terms = omega (arith, here, low) in
    let front = grows.nodes.terms in
    closed k j m (part.0, sym (slice_get-append_left old.terms front.0 k there) ∙ ap (λ l. slice_get l k) (sym front.1) ∙ part.1, part.2)
