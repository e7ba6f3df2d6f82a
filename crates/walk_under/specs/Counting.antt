-- The short hypotheses of a problem as the program stores them, and those that count in a walk.
use Rattle.std.specs.Prelude.{◌≡◌, ◌<◌, ℕ, suc, Bool, true, false, List, [], ◌∷◌, map, length, slice_get, slice_index_or, Some, IsTrue}
use Rattle.kat_model.specs.Trees.{Term, kat_tree}
use Rattle.kat_model.specs.Members.{Has}
use Rattle.kat_model.specs.Problems.{ProblemParts}
use Rattle.kat_model.specs.Strings.{GuardedString}
use Rattle.kat_model.specs.Degrees.{short_hyps}
use Rattle.term_nodes.specs.NodeLists.{NodeParts}
use Rattle.term_nodes.specs.NodeTrees.{tree_at}
use Rattle.partial_derivs.specs.Moves.{IsTermOf}
use Rattle.goal_forms.specs.Broken.{IsBrokenBy}
use Rattle.walk_under.specs.declared.counting.ShortHyp.{ShortHyp}

abbrev pub tree_of : ShortHyp → Term
tree_of h = kat_tree h.hyp

-- the hypotheses are the short ones of the problem in their order, with their ids
pub record AreShortHyps (q : ProblemParts) (store : NodeParts) (hyps : List ShortHyp) : Type 0 where
  pub trees : map (λ (h : ShortHyp). kat_tree h.hyp) hyps ≡ short_hyps q
  pub terms : (h : ShortHyp) → Has hyps h → IsTermOf store q.tests h.term × (tree_at store h.term ≡ kat_tree h.hyp)

-- the ids are those of hypotheses, and each hypothesis that counts is among them
pub record AreCounted (hyps : List ShortHyp) (counts : List Bool) (ids : List ℕ) : Type 0 where
  pub there : (i : ℕ) (h : ShortHyp) → slice_get hyps i ≡ Some h → IsTrue (slice_index_or counts i false) → Has ids h.term
  pub back : (k : ℕ) → Has ids k → (h : ShortHyp) × Has hyps h × (h.term ≡ k)

-- the places of the hypotheses that do not count and that the string breaks
pub record AreBroken (hyps : List ShortHyp) (counts : List Bool) (x : GuardedString) (places : List ℕ) : Type 0 where
  pub there : (i : ℕ) (h : ShortHyp) → slice_get hyps i ≡ Some h → slice_index_or counts i false ≡ false → IsBrokenBy (kat_tree h.hyp) x.first x.rest → Has places i
  pub back : (i : ℕ) → Has places i → (i < length counts) × (slice_index_or counts i true ≡ false)
  pub each : (i : ℕ) (h : ShortHyp) → Has places i → slice_get hyps i ≡ Some h → IsBrokenBy (kat_tree h.hyp) x.first x.rest

-- the number of hypotheses that do not count
abbrev pub uncounted : List Bool → ℕ
uncounted [] = 0
uncounted (true ∷ bs) = uncounted bs
uncounted (false ∷ bs) = suc (uncounted bs)

-- each hypothesis that counted still counts
abbrev pub StillCount : List Bool → List Bool → Type 0
StillCount before after = (i : ℕ) → slice_index_or before i false ≡ true → slice_index_or after i false ≡ true

-- the hypothesis at one of these places counts
abbrev pub CountsSome : List ℕ → List Bool → Type 0
CountsSome places counts = (i : ℕ) × Has places i × (slice_index_or counts i false ≡ true)
