-- Places of a term (Baader and Nipkow, Term Rewriting and All That, 1998). A path descends from the whole term: 0 and 1
-- are the parts of a sum and of a product, and 0 is the body of a star.
use Rattle.std.specs.Prelude.{◌≡◌, ℕ, List, [], ◌∷◌, Option, Some, None}
use Rattle.std.proofs.Common.{zero as nought, suc}
use Rattle.kat_model.specs.Trees.{Term, sum, product, star}

-- the subterm at the place of the path; none if the path leaves the tree
abbrev pub subterm : List ℕ → Term → Option Term
subterm [] e = Some e
subterm (nought ∷ path) (sum e f) = subterm path e
subterm (suc nought ∷ path) (sum e f) = subterm path f
subterm (nought ∷ path) (product e f) = subterm path e
subterm (suc nought ∷ path) (product e f) = subterm path f
subterm (nought ∷ path) (star e) = subterm path e
subterm (k ∷ path) e = None

-- the path is a place of both trees, and they are equal outside it
abbrev pub AreEqualOutside : List ℕ → Term → Term → Type 0
AreEqualOutside [] e f = Unit {0}
AreEqualOutside (nought ∷ path) (sum e g) (sum f h) = AreEqualOutside path e f × (g ≡ h)
AreEqualOutside (suc nought ∷ path) (sum g e) (sum h f) = (g ≡ h) × AreEqualOutside path e f
AreEqualOutside (nought ∷ path) (product e g) (product f h) = AreEqualOutside path e f × (g ≡ h)
AreEqualOutside (suc nought ∷ path) (product g e) (product h f) = (g ≡ h) × AreEqualOutside path e f
AreEqualOutside (nought ∷ path) (star e) (star f) = AreEqualOutside path e f
AreEqualOutside (k ∷ path) e f = ⊥
