-- The split of the hypotheses of a problem into those that count as short and the others.
use Rattle.std.proofs.Common.{◌↔◌, ◌⊎◌, ⊎_elim, List, [], ◌++◌}
use Rattle.std.proofs.lemmas.Bool.{cases_Bool, not_from_false}
use Rattle.kat_model.specs.Trees.{Term}
use Rattle.kat_model.specs.Members.{Has}
use Rattle.kat_model.specs.Problems.{ProblemParts}
use Rattle.kat_model.specs.Relations.{Table, Keeps}
use Rattle.kat_model.specs.Degrees.{is_short, is_long, short_hyps, long_hyps, AreSplit}
use Rattle.kat_model.proofs.Lists.{has_left, has_right, has_append}
use Rattle.kat_model.proofs.Filters.{has_filter, filter_has}

pub split_by_degree : (q : ProblemParts) → AreSplit q.hyps (short_hyps q) (long_hyps q)
split_by_degree q = record { all = λ h. (there h, back h); short = λ h k. (has_filter is_short q.hyps h k).1 }
  where
    there : (h : Term) → Has q.hyps h → Has (short_hyps q ++ long_hyps q) h
    there h k =
        ⊎_elim
        (λ s. has_left (short_hyps q) (long_hyps q) h (filter_has is_short q.hyps h k s))
        (λ s. has_right (short_hyps q) (long_hyps q) h (filter_has is_long q.hyps h k (not_from_false (is_short h) s)))
        (cases_Bool (is_short h))

    back : (h : Term) → Has (short_hyps q ++ long_hyps q) h → Has q.hyps h
    back h k =
        ⊎_elim (λ s. (has_filter is_short q.hyps h s).0) (λ l. (has_filter is_long q.hyps h l).0) (has_append (short_hyps q) (long_hyps q) h k)

-- no hypothesis counts as short
pub split_all_long : (hyps : List Term) → AreSplit hyps [] hyps
split_all_long hyps = record { all = λ h. ((λ k. k), (λ k. k)); short = λ h k. absurd k }

module _ (hyps shorts longs : List Term) (split : AreSplit hyps shorts longs) where
  pub split_short : (h : Term) → Has shorts h → Has hyps h
  split_short h k = (split.all h).1 (has_left shorts longs h k)

  pub split_long : (h : Term) → Has longs h → Has hyps h
  split_long h k = (split.all h).1 (has_right shorts longs h k)

  -- each hypothesis is in one of the two lists
  pub split_cases : (h : Term) → Has hyps h → Has shorts h ⊎ Has longs h
  split_cases h k = has_append shorts longs h ((split.all h).0 k)

  pub split_keeps : (t : Table) → Keeps t hyps ↔ (Keeps t shorts × Keeps t longs)
  split_keeps t = (
    (λ keeps. ((λ h k. keeps h (split_short h k)), (λ h k. keeps h (split_long h k)))),
    (λ both h k i j li lj r. ⊎_elim (λ s. both.0 h s i j li lj r) (λ l. both.1 h l i j li lj r) (split_cases h k)),
  )
