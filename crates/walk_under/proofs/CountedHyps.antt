-- The ids of the hypotheses that count, and the places of those that a string breaks, collected one hypothesis at a
-- time.
use Rattle.std.proofs.Common.{◌≡◌, ◌<◌, ◌≤◌, ◌+◌, inl, ⊎_elim, ℕ, Bool, true, false, List, [], ◌∷◌, ◌++◌, length, get_or, slice_get, slice_index_or, Some, sym, ap, ◌∙◌, subst, arith}
use Rattle.std.specs.Bool.{IsTrue}
use Rattle.std.proofs.lemmas.Bool.{both_ways}
use Rattle.std.proofs.lemmas.Option.{same_Some, slice_get_within, slice_get-get_or}
use Rattle.kat_model.specs.Trees.{kat_tree}
use Rattle.kat_model.specs.Members.{Has}
use Rattle.kat_model.specs.Strings.{GuardedString}
use Rattle.kat_model.proofs.Lists.{has_left, has_right, has_append}
use Rattle.kat_model.proofs.Numbers.{below_next}
use Rattle.kat_model.proofs.Places.{has_at}
use Rattle.goal_forms.specs.Broken.{IsBrokenBy}
use Rattle.walk_under.specs.Counting.{AreCounted, AreBroken}
use Rattle.walk_under.specs.declared.counting.ShortHyp.{ShortHyp}

-- of the first n hypotheses, those that count have their ids in the list
pub record AreCountedTo (hyps : List ShortHyp) (counts : List Bool) (ids : List ℕ) (n : ℕ) : Type 0 where
  pub there : (i : ℕ) (h : ShortHyp) → i < n → slice_get hyps i ≡ Some h → IsTrue (slice_index_or counts i false) → Has ids h.term
  pub back : (k : ℕ) → Has ids k → (h : ShortHyp) × Has hyps h × (h.term ≡ k)

-- of the first n hypotheses, those that do not count and that the string breaks have their places in the list
pub record AreBrokenTo (hyps : List ShortHyp) (counts : List Bool) (x : GuardedString) (places : List ℕ) (n : ℕ) : Type 0 where
  pub there : (i : ℕ) (h : ShortHyp) → i < n → slice_get hyps i ≡ Some h → slice_index_or counts i false ≡ false → IsBrokenBy (kat_tree h.hyp) x.first x.rest → Has places i
  pub back : (i : ℕ) → Has places i → (i < length counts) × (slice_index_or counts i true ≡ false)
  pub each : (i : ℕ) (h : ShortHyp) → Has places i → slice_get hyps i ≡ Some h → IsBrokenBy (kat_tree h.hyp) x.first x.rest

module _ (hyps : List ShortHyp) (n : ℕ) (x : ShortHyp) (lt : n < length hyps) (is : x ≡ get_or hyps n x) where
  at : slice_get hyps n ≡ Some x
  at = slice_get-get_or hyps n x lt ∙ ap Some (sym is)

  same_at : (i : ℕ) (h : ShortHyp) → i ≡ n → slice_get hyps i ≡ Some h → x ≡ h
  same_at i h e a = same_Some x h (sym at ∙ subst (λ j. slice_get hyps j ≡ Some h) e a)

  module _ (counts : List Bool) (ids : List ℕ) (so : AreCountedTo hyps counts ids n) where
    pub counted_more : (new : List ℕ) → new ≡ ids ++ x.term ∷ [] → AreCountedTo hyps counts new (n + 1)
    counted_more new e = record {
      there = λ i h l a t.
          subst (λ xs. Has xs h.term) (sym e)
          (⊎_elim
          (λ below. has_left ids (x.term ∷ []) h.term (so.there i h below a t))
          (λ here. has_right ids (x.term ∷ []) h.term (inl (ap (λ (z : ShortHyp). z.term) (same_at i h here a))))
          (below_next i n l));
      back = λ k h.
          ⊎_elim (so.back k) (λ last. ⊎_elim (λ same. (x, has_at hyps n x at, same)) (λ none. absurd none) last)
          (has_append ids (x.term ∷ []) k (subst (λ xs. Has xs k) e h));
    }

    pub counted_past : slice_index_or counts n false ≡ false → AreCountedTo hyps counts ids (n + 1)
    counted_past off = record {
      there = λ i h l a t.
          ⊎_elim
          (λ below. so.there i h below a t)
          (λ here. absurd (both_ways (slice_index_or counts n false) off (subst (λ j. IsTrue (slice_index_or counts j false)) here t)))
          (below_next i n l);
      back = so.back;
    }

  module _ (counts : List Bool) (s : GuardedString) (places : List ℕ) (so : AreBrokenTo hyps counts s places n) where
    pub broken_more : (new : List ℕ) → new ≡ places ++ n ∷ [] → n < length counts → slice_index_or counts n true ≡ false → IsBrokenBy (kat_tree x.hyp) s.first s.rest → AreBrokenTo hyps counts s new (n + 1)
    broken_more new e within off breaks = record {
      there = λ i h l a f b.
          subst (λ xs. Has xs i) (sym e)
          (⊎_elim
          (λ below. has_left places (n ∷ []) i (so.there i h below a f b))
          (λ here. has_right places (n ∷ []) i (inl (sym here)))
          (below_next i n l));
      back = λ i h.
          ⊎_elim (so.back i) (λ last. ⊎_elim (λ same. subst (λ j. (j < length counts) × (slice_index_or counts j true ≡ false)) same (within, off)) (λ none. absurd none) last)
          (has_append places (n ∷ []) i (subst (λ xs. Has xs i) e h));
      each = λ i h k a.
          ⊎_elim (λ old. so.each i h old a)
          (λ last. ⊎_elim (λ same. subst (λ (z : ShortHyp). IsBrokenBy (kat_tree z.hyp) s.first s.rest) (same_at i h (sym same) a) breaks) (λ none. absurd none) last)
          (has_append places (n ∷ []) i (subst (λ xs. Has xs i) e k));
    }

    -- a hypothesis that counts, or that the string does not break, adds no place
    pub broken_past : (slice_index_or counts n false ≡ false → IsBrokenBy (kat_tree x.hyp) s.first s.rest → ⊥) → AreBrokenTo hyps counts s places (n + 1)
    broken_past none = record {
      there = λ i h l a f b.
          ⊎_elim
          (λ below. so.there i h below a f b)
          (λ here. absurd (none (subst (λ j. slice_index_or counts j false ≡ false) here f) (subst (λ (z : ShortHyp). IsBrokenBy (kat_tree z.hyp) s.first s.rest) (sym (same_at i h here a)) b)))
          (below_next i n l);
      back = so.back;
      each = so.each;
    }

module _ (hyps : List ShortHyp) (counts : List Bool) where
  pub counted_none : AreCountedTo hyps counts [] 0
  counted_none = record { there = λ i h l a t. absurd (omega arith); back = λ k h. absurd h }

  pub counted_all : (ids : List ℕ) (n : ℕ) → AreCountedTo hyps counts ids n → length hyps ≤ n → AreCounted hyps counts ids
  counted_all ids n so past = record {
    there = λ i h a t. so.there i h (let l = slice_get_within hyps i h a in omega (arith, past, l)) a t;
    back = so.back;
  }

  pub broken_none : (s : GuardedString) → AreBrokenTo hyps counts s [] 0
  broken_none s = record { there = λ i h l a f b. absurd (omega arith); back = λ i h. absurd h; each = λ i h k a. absurd k }

  pub broken_all : (s : GuardedString) (places : List ℕ) (n : ℕ) → AreBrokenTo hyps counts s places n → length hyps ≤ n → AreBroken hyps counts s places
  broken_all s places n so past = record {
    there = λ i h a f b. so.there i h (let l = slice_get_within hyps i h a in omega (arith, past, l)) a f b;
    back = so.back;
    each = so.each;
  }
