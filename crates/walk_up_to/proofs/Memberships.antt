-- The members of listed pairs remain marked as more ids are marked.
use Rattle.std.proofs.Common.{⊎_elim, List, [], ◌∷◌, ◌++◌, subst, Bool}
use Rattle.kat_model.specs.Members.{Has}
use Rattle.kat_model.proofs.Lists.{has_append}
use Rattle.walk_up_to.specs.Listings.{IdEntry}
use Rattle.walk_up_to.specs.Marks.{AllMarked, Stays}

-- the marks have all members of the pairs
abbrev pub AreWithin : List IdEntry → List Bool → Type 0
AreWithin es marks = (e : IdEntry) → Has es e → AllMarked marks e.left × AllMarked marks e.right

pub within_more : (es : List IdEntry) (marks more : List Bool) → AreWithin es marks → Stays marks more → AreWithin es more
within_more es marks more w s e h = ((λ k m. s k ((w e h).0 k m)), (λ k m. s k ((w e h).1 k m)))

pub within_one : (es : List IdEntry) (p : IdEntry) (marks more : List Bool) → AreWithin es marks → Stays marks more → AllMarked more p.left → AllMarked more p.right → AreWithin (es ++ p ∷ []) more
within_one es p marks more w stays left right e h =
    ⊎_elim
    (within_more es marks more w stays e)
    (λ new. ⊎_elim
    (λ is. subst (λ q. AllMarked more q.left × AllMarked more q.right) is (left, right))
    absurd new)
    (has_append es (p ∷ []) e h)
