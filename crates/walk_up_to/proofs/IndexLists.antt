-- Lists of places as they grow, and the pairs in them.
use Rattle.std.proofs.Common.{◌≡◌, ℕ, inl, inr, ⊎_elim, List, [], ◌∷◌, ◌++◌, length, get_or, refl, sym, subst, Some, None}
use Rattle.kat_model.specs.Members.{Has}
use Rattle.kat_model.proofs.Lists.{has_left, has_right}
use Rattle.kat_model.proofs.Places.{slice_get_last}
use Rattle.walk_pairs.specs.declared.items.Side.{Side}
use Rattle.walk_pairs.specs.declared.items.Side.TheVariants.{Left, Right}
use Rattle.walk_up_to.specs.declared.pair.PairSide.{PairSide}
use Rattle.walk_up_to.specs.Listings.{IdEntry}
use Rattle.walk_up_to.specs.Indices.{IndexParts, IsListedUnder, KeepsPlaces, AreIndexed, pair_side_at}

-- ---- an additional set

pub pushed_has : (xs ys : List PairSide) (p : PairSide) → ys ≡ xs ++ p ∷ [] → Has ys p
pushed_has xs ys p is = subst (λ zs. Has zs p) (sym is) (has_right xs (p ∷ []) p (inl refl))

pub pushed_keeps : (xs ys : List PairSide) (p : PairSide) → ys ≡ xs ++ p ∷ [] → (k : PairSide) → Has xs k → Has ys k
pushed_keeps xs ys p is k h = subst (λ zs. Has zs k) (sym is) (has_left xs (p ∷ []) k h)

-- a set indexed under one of its members
pub represents_member : (x : IndexParts) (ids : List ℕ) (t w n k : ℕ) (side : Side) → Has ids t → Has ids w → n ≡ t → Has (get_or x.under n []) (pair_side_at k side (Some w)) → IsListedUnder x ids k side
represents_member x ids t w n k side member witness same h = inr (t, w, member, witness, subst (λ i. Has (get_or x.under i []) (pair_side_at k side (Some w))) same h)

-- ---- indices

represents_kept : (x y : IndexParts) (ids : List ℕ) (k : ℕ) (side : Side) → KeepsPlaces x y → IsListedUnder x ids k side → IsListedUnder y ids k side
represents_kept x y ids k side keeps s =
    ⊎_elim
    (λ none. inl (none.0, keeps.apart (pair_side_at k side None) none.1))
    (λ some. inr (some.0, some.1, some.2, some.3, keeps.under some.0 (pair_side_at k side (Some some.1)) some.4))
    s

pub indexed_kept : (x y : IndexParts) (ps : List IdEntry) → KeepsPlaces x y → AreIndexed x ps → AreIndexed y ps
indexed_kept x y ps keeps indexed k e at =
    let both = indexed k e at in
    (represents_kept x y e.left k Left keeps both.0, represents_kept x y e.right k Right keeps both.1)

-- an additional pair
pub indexed_more : (x y : IndexParts) (ps : List IdEntry) (p : IdEntry) → AreIndexed x ps → KeepsPlaces x y → IsListedUnder y p.left (length ps) Left → IsListedUnder y p.right (length ps) Right → AreIndexed y (ps ++ p ∷ [])
indexed_more x y ps p indexed keeps left right k e at =
    ⊎_elim
    (λ old. indexed_kept x y ps keeps indexed k e old)
    (λ new.
    subst (λ q. IsListedUnder y q.left k Left × IsListedUnder y q.right k Right) new.1
    (subst (λ i. IsListedUnder y p.left i Left × IsListedUnder y p.right i Right) (sym new.0) (left, right)))
    (slice_get_last ps p k e at)
