-- Pairs that are found by keys of their sets.
use Rattle.std.proofs.Common.{⊎_elim, ℕ, List, [], ◌∷◌, ◌++◌, length, slice_index_or, sym, subst}
use Rattle.kat_model.specs.Members.{Has}
use Rattle.kat_model.proofs.Places.{slice_get_last}
use Rattle.test_diagrams.specs.Functions.{DiagramsParts}
use Rattle.walk_regions.specs.Entries.{EntryParts}
use Rattle.walk_regions.specs.Filing.{key_of, KeepsLists, AreFiled, AreAlike}
use Rattle.walk_regions.specs.Listings.{IsFreshPart, AreLevelAtoms}
use Rattle.walk_regions.specs.Merging.{AreAtomsOf}

-- an additional pair, whose place is in the list under its key
pub filed_more : (es : List EntryParts) (e : EntryParts) (old new : List (List ℕ)) → KeepsLists old new → AreFiled es old → Has (slice_index_or new (key_of e.left e.right) []) (length es) → AreFiled (es ++ e ∷ []) new
filed_more es e old new keeps filed own k f at =
    ⊎_elim
    (λ before. keeps.members (key_of f.left f.right) k (filed k f before))
    (λ last. subst (λ (x : EntryParts). Has (slice_index_or new (key_of x.left x.right) []) k) last.1 (subst (Has (slice_index_or new (key_of e.left e.right) [])) (sym last.0) own))
    (slice_get_last es e k f at)

-- ---- what is computed of the pairs found holds of all pairs

pub fresh_all : (es found : List EntryParts) (left right : List ℕ) → AreAlike es left right found → (d : DiagramsParts) (whole id : ℕ) → IsFreshPart d found left right whole id → IsFreshPart d es left right whole id
fresh_all es found left right alike d whole id f = record {
  is_id = f.is_id;
  within = f.within;
  apart = λ e h l r. f.apart e (alike.all e h l r) l r;
  rest = λ atom fits t none. let r = f.rest atom fits t none in (r.0, alike.each r.0 r.1, r.2, r.3, r.4);
}

pub level_all : (es found : List EntryParts) (other : EntryParts) → AreAlike es other.left other.right found → (d : DiagramsParts) (id : ℕ) → AreLevelAtoms d found other id → AreLevelAtoms d es other id
level_all es found other alike d id a = record {
  is_id = a.is_id;
  there = λ atom fits h. let l = a.there atom fits h in record { entry = l.entry; member = alike.each l.entry l.member; is = l.is; holds = l.holds };
  back = λ atom fits l. a.back atom fits (record { entry = l.entry; member = alike.all l.entry l.member l.is.left l.is.right; is = l.is; holds = l.holds });
}

pub atoms_all : (es found : List EntryParts) (left right : List ℕ) → AreAlike es left right found → (c d : DiagramsParts) (id : ℕ) → AreAtomsOf c d found left right id → AreAtomsOf c d es left right id
atoms_all es found left right alike c d id a = record {
  is_id = a.is_id;
  there = λ atom fits h. let r = a.there atom fits h in record { entry = r.entry; member = alike.each r.entry r.member; left_is = r.left_is; right_is = r.right_is; holds = r.holds };
  back = λ atom fits r. a.back atom fits (record { entry = r.entry; member = alike.all r.entry r.member r.left_is r.right_is; left_is = r.left_is; right_is = r.right_is; holds = r.holds });
}
