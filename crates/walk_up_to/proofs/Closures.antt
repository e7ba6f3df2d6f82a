-- The marks that pairs add, in any order: when no pair adds a mark, they are the marks after rounds over the pairs.
use Rattle.std.proofs.Common.{◌≡◌, ℕ, zero, suc, ◌+◌, ◌<◌, ◌≤◌, inl, inr, ⊎_elim, List, [], ◌∷◌, ◌++◌, length, get_or, set, slice_get, length-append, refl, sym, ap, ◌∙◌, subst, arith, Bool, true, false, not, ◌||◌, cond, Option, Some, None}
use mathlib.Core.Path.{ap₂}
use Rattle.std.proofs.lemmas.Bool.{true≢false, and_parts, not-true}
use Rattle.std.specs.Option.{option_map_or}
use Rattle.std.proofs.lemmas.Option.{same_Some, slice_get_within, slice_get-get_or}
use Rattle.std.proofs.Math.ListN.{length-set}
use Rattle.kat_model.specs.Members.{Has}
use Rattle.kat_model.proofs.Lists.{has_left, has_right}
use Rattle.kat_model.proofs.Places.{has_at, place_of_member, get_or-set_cases}
use Rattle.walk_pairs.specs.declared.items.Side.{Side}
use Rattle.walk_pairs.specs.declared.items.Side.TheVariants.{Left, Right}
use Rattle.walk_up_to.specs.declared.pair.PairSide.{PairSide}
use Rattle.walk_up_to.specs.Listings.{IdEntry, set_on, set_across}
use Rattle.walk_up_to.specs.Indices.{IndexParts, IsWitness, IsListedUnder, AreIndexed, pair_side_at}
use Rattle.walk_up_to.specs.Marks.{are_marked, with_marks, with_side_marked, with_pair_marked, round_marked, rounds_marked, are_reached, Stays, AreClosed, IsClosedAt, IsMade, MarkSetParts, AreAmong, IsMore, unmarked, ListedPairsParts}
use Rattle.walk_up_to.proofs.MarkSteps.{pair_stays, side_stays, all_stay, reached_stays}
use Rattle.walk_up_to.proofs.MarkEnds.{marked_held, held_same, all_rounds_closed}
use Rattle.walk_up_to.proofs.MarkedTerms.{length_with_pair, length_with_side}
use Rattle.walk_up_to.proofs.OutOfReach.{one_unmarked}
use Rattle.kat_model.proofs.Numbers.{below_next}
use Rattle.kat_model.proofs.Options.{same_bool}

-- ---- adding the same marks to a set and to a larger one

set_within : (m c : List Bool) (k : ℕ) → length m ≡ length c → Stays m c → (j : ℕ) → get_or (set m k true) j false ≡ true → get_or (set c k true) j false ≡ true
set_within [] c k l s j e = absurd (true≢false (sym e))
set_within (a ∷ m) [] k l s j e = absurd (omega (arith, l))
set_within (a ∷ m) (b ∷ c) zero l s zero e = refl
set_within (a ∷ m) (b ∷ c) zero l s (suc j) e = s (suc j) e
set_within (a ∷ m) (b ∷ c) (suc k) l s zero e = s zero e
set_within (a ∷ m) (b ∷ c) (suc k) l s (suc j) e = set_within m c k (omega (arith, l)) (λ i f. s (suc i) f) j e

marks_within : (ks : List ℕ) (m c : List Bool) → length m ≡ length c → Stays m c → Stays (with_marks m ks) (with_marks c ks)
marks_within [] m c l s = s
marks_within (k ∷ ks) m c l s = marks_within ks (set m k true) (set c k true) (length-set m k true ∙ l ∙ sym (length-set c k true)) (set_within m c k l s)

-- marks to which a pair adds nothing and that contain one of its sets contain the other
across_same : (c : List Bool) (p : IdEntry) → with_pair_marked c p ≡ c → (side : Side) → are_marked c (set_on side p) ≡ true → with_marks c (set_across side p) ≡ c
across_same c p q Left e = sym (ap (λ (x : Bool). cond x (with_marks c p.right) (cond (are_marked c p.right) (with_marks c p.left) c)) e) ∙ q
across_same c p q Right f = go (are_marked c p.left) refl
  where
    go : (x : Bool) → are_marked c p.left ≡ x → with_marks c p.left ≡ c
    go true e = held_same p.left c (marked_held c p.left e)
    go false e = sym (ap₂ (λ (x y : Bool). cond x (with_marks c p.right) (cond y (with_marks c p.left) c)) e f) ∙ q

-- a set of the pair adds only marks of `c` to a subset of `c`
side_within : (side : Side) (m c : List Bool) (p : IdEntry) → length m ≡ length c → with_pair_marked c p ≡ c → Stays m c → Stays (with_side_marked side m p) c
side_within side m c p l q s = go (are_marked m (set_on side p)) refl
  where
    go : (a : Bool) → are_marked m (set_on side p) ≡ a → Stays (cond a (with_marks m (set_across side p)) m) c
    go true e = subst (Stays (with_marks m (set_across side p))) (across_same c p q side (all_stay m c s (set_on side p) e)) (marks_within (set_across side p) m c l s)
    go false e = s

-- the pair adds only marks of `c` to a subset of `c`
pair_within : (m c : List Bool) (p : IdEntry) → length m ≡ length c → with_pair_marked c p ≡ c → Stays m c → Stays (with_pair_marked m p) c
pair_within m c p l q s = go (are_marked m p.left) refl
  where
    go : (a : Bool) → are_marked m p.left ≡ a → Stays (cond a (with_marks m p.right) (with_side_marked Right m p)) c
    go true e = subst (Stays (with_marks m p.right)) (across_same c p q Left (all_stay m c s p.left e)) (marks_within p.right m c l s)
    go false e = side_within Right m c p l q s

-- ---- the marks that pairs add

pub made_itself : (ps : List IdEntry) (m : List Bool) → IsMade ps m m
made_itself ps m = record { long = refl; keeps = λ j e. e; least = λ c l q s. s }

pub made_then : (ps : List IdEntry) (a b c : List Bool) → IsMade ps a b → IsMade ps b c → IsMade ps a c
made_then ps a b c x y = record {
  long = y.long ∙ x.long;
  keeps = λ j e. y.keeps j (x.keeps j e);
  least = λ d l q s. y.least d (l ∙ sym x.long) q (x.least d l q s);
}

made_pair : (ps : List IdEntry) (m : List Bool) (p : IdEntry) → Has ps p → IsMade ps m (with_pair_marked m p)
made_pair ps m p h = record {
  long = length_with_pair m p;
  keeps = pair_stays m p;
  least = λ c l q s. pair_within m c p (sym l) (q p h) s;
}

made_side : (ps : List IdEntry) (side : Side) (m : List Bool) (p : IdEntry) → Has ps p → IsMade ps m (with_side_marked side m p)
made_side ps side m p h = record {
  long = length_with_side side m p;
  keeps = side_stays side m p;
  least = λ c l q s. side_within side m c p (sym l) (q p h) s;
}

made_round : (all ps : List IdEntry) (m : List Bool) → ((p : IdEntry) → Has ps p → Has all p) → IsMade all m (round_marked ps m)
made_round all [] m among = made_itself all m
made_round all (p ∷ ps) m among =
    made_then all m (with_pair_marked m p) (round_marked ps (with_pair_marked m p)) (made_pair all m p (among p (inl refl)))
    (made_round all ps (with_pair_marked m p) (λ q h. among q (inr h)))

made_rounds : (n : ℕ) (ps : List IdEntry) (m : List Bool) → IsMade ps m (rounds_marked n ps m)
made_rounds zero ps m = made_itself ps m
made_rounds (suc n) ps m = made_then ps m (round_marked ps m) (rounds_marked n ps (round_marked ps m)) (made_round ps ps m (λ p h. h)) (made_rounds n ps (round_marked ps m))

-- the marks that pairs add are among those after rounds
made_among : (ps : List IdEntry) (m n : List Bool) → IsMade ps m n → Stays n (rounds_marked (length ps) ps m)
made_among ps m n made =
    let rounds = made_rounds (length ps) ps m in
    made.least (rounds_marked (length ps) ps m) rounds.long (all_rounds_closed ps m) rounds.keeps

-- targets that are reached are reached by rounds
pub reached_so : (ps : List IdEntry) (m n : List Bool) (universal : Option ℕ) (targets : List ℕ) → IsMade ps m n → are_reached universal targets n ≡ true
    → are_reached universal targets n ≡ are_reached universal targets (rounds_marked (length ps) ps m)
reached_so ps m n universal targets made e = e ∙ sym (reached_stays n (rounds_marked (length ps) ps m) (made_among ps m n made) universal targets e)

-- when no pair adds a mark, exactly these targets are reached
pub closed_so : (ps : List IdEntry) (m n : List Bool) (universal : Option ℕ) (targets : List ℕ) → IsMade ps m n → AreClosed ps n
    → are_reached universal targets n ≡ are_reached universal targets (rounds_marked (length ps) ps m)
closed_so ps m n universal targets made closed =
    same_bool (are_reached universal targets n) (are_reached universal targets (rounds_marked (length ps) ps m))
    (reached_stays n (rounds_marked (length ps) ps m) (made_among ps m n made) universal targets)
    (reached_stays (rounds_marked (length ps) ps m) n ((made_rounds (length ps) ps m).least n made.long closed made.keeps) universal targets)

-- ---- a set that grew or did not

pub more_itself : (a : MarkSetParts) → IsMore a a false
more_itself a = record { longer = omega arith; same = λ e. refl; fewer = λ e. absurd (true≢false (sym e)) }

pub more_then : (a b c : MarkSetParts) (x y : Bool) → IsMore a b x → IsMore b c y → IsMore a c (x || y)
more_then a b c true true first second = record {
  longer = omega (arith, first.longer, second.longer);
  same = λ e. absurd (true≢false e);
  fewer = λ e. omega (arith, first.fewer refl, second.fewer refl);
}
more_then a b c true false first second = record {
  longer = omega (arith, first.longer, second.longer);
  same = λ e. absurd (true≢false e);
  fewer = λ e. subst (λ (s : MarkSetParts). unmarked s.marks < unmarked a.marks) (sym (second.same refl)) (first.fewer refl);
}
more_then a b c false true first second = record {
  longer = omega (arith, first.longer, second.longer);
  same = λ e. absurd (true≢false e);
  fewer = λ e. subst (λ (s : MarkSetParts). unmarked c.marks < unmarked s.marks) (first.same refl) (second.fewer refl);
}
more_then a b c false false first second = record {
  longer = omega (arith, first.longer, second.longer);
  same = λ e. second.same refl ∙ first.same refl;
  fewer = λ e. absurd (true≢false (sym e));
}

-- an additional mark
fewer_set : (m : List Bool) (k : ℕ) → k < length m → get_or m k false ≡ false → unmarked (set m k true) < unmarked m
fewer_set [] k h e = absurd (omega arith)
fewer_set (b ∷ m) zero h e = let is : b ≡ false = e in subst (λ (x : Bool). 0 + unmarked m < cond x 0 1 + unmarked m) (sym is) (omega arith)
fewer_set (b ∷ m) (suc k) h e = let rest = fewer_set m k (omega (arith, h)) e in omega (arith, rest)

-- the set with an additional term
pub grown : (a : MarkSetParts) (marks : List Bool) (terms more : List ℕ) (k t : ℕ) → record { marks = marks; terms = terms } ≡ a → more ≡ terms ++ t ∷ [] → k < length marks → get_or marks k false ≡ false
    → IsMore a (record { marks = set marks k true; terms = more }) true
grown a marks terms more k t is added low off = record {
  longer = subst (λ (s : MarkSetParts). length s.terms ≤ length more) is (subst (λ ts. length terms ≤ length ts) (sym added) (omega (arith, length-append terms (t ∷ []))));
  same = λ e. absurd (true≢false e);
  fewer = λ e. subst (λ (s : MarkSetParts). unmarked (set marks k true) < unmarked s.marks) is (fewer_set marks k low off);
}

pub grown_among : (marks : List Bool) (terms more : List ℕ) (k t : ℕ) → AreAmong marks terms → more ≡ terms ++ t ∷ [] → k ≡ t → AreAmong (set marks k true) more
grown_among marks terms more k t among added same j e =
    subst (λ ts. Has ts j) (sym added)
    (⊎_elim
    (λ own. has_right terms (t ∷ []) j (inl (sym (own ∙ same))))
    (λ was. has_left terms (t ∷ []) j (among j was))
    (get_or-set_cases marks k j true true false e))

-- ---- one pair

pub at_read : {X : Type 0} (xs : List X) (i : ℕ) (x : X) → i < length xs → x ≡ get_or xs i x → slice_get xs i ≡ Some x
at_read xs i x low is = slice_get-get_or xs i x low ∙ ap Some (sym is)

pub made_at : (ps : List IdEntry) (s : PairSide) (p : IdEntry) (m n : List Bool) → slice_get ps s.place ≡ Some p → n ≡ with_side_marked s.side m p → IsMade ps m n
made_at ps s p m n at is = subst (IsMade ps m) (sym is) (made_side ps s.side m p (has_at ps s.place p at))

pub closed_at : (ps : List IdEntry) (s : PairSide) (p : IdEntry) (a b : MarkSetParts) (y : Bool) → slice_get ps s.place ≡ Some p → b.marks ≡ with_side_marked s.side a.marks p → IsMore a b y → y ≡ false → IsClosedAt ps b.marks s
closed_at ps s p a b y at is more f e there has =
    let same : b ≡ a = more.same f in
    let one : p ≡ e = same_Some p e (sym at ∙ there) in
    let was : with_side_marked s.side a.marks p ≡ a.marks = sym is ∙ ap (λ (n : MarkSetParts). n.marks) same in
    subst (λ (n : MarkSetParts). with_side_marked s.side n.marks e ≡ n.marks) (sym same) (subst (λ q. with_side_marked s.side a.marks q ≡ a.marks) one was)

-- a set with an unmarked member adds nothing
pub closed_out : (ps : List IdEntry) (s : PairSide) (m : List Bool) → option_map_or (λ w. not (get_or m w false)) s.witness false ≡ true → IsClosedAt ps m s
closed_out ps s m lacks e there has = go s.witness lacks has
  where
    go : (o : Option ℕ) → option_map_or (λ w. not (get_or m w false)) o false ≡ true → IsWitness o (set_on s.side e) → with_side_marked s.side m e ≡ m
    go None l h = absurd (true≢false (sym l))
    go (Some w) l h = ap (λ (b : Bool). cond b (with_marks m (set_across s.side e)) m) (one_unmarked m (set_on s.side e) w h (not-true (get_or m w false) l))

-- ---- the pairs of an index

-- if no set under a marked term and no empty set adds a mark, no pair does: a set under no marked term is not fully
-- marked
index_closed : (x : IndexParts) (ps : List IdEntry) (m : List Bool) (ids : List ℕ) → AreIndexed x ps → AreAmong m ids
    → ((s : PairSide) → Has x.apart s → IsClosedAt ps m s)
    → ((t : ℕ) (s : PairSide) → Has ids t → Has (get_or x.under t []) s → IsClosedAt ps m s)
    → AreClosed ps m
index_closed x ps m ids indexed among apart under p h = go (are_marked m p.left) (are_marked m p.right) refl refl
  where
    place : (k : ℕ) × (slice_get ps k ≡ Some p)
    place = place_of_member ps p h

    one_marked : (ks : List ℕ) (t : ℕ) → Has ks t → are_marked m ks ≡ true → get_or m t false ≡ true
    one_marked [] t h e = absurd h
    one_marked (k ∷ ks) t h e =
        let parts = and_parts (get_or m k false) (are_marked m ks) e in
        ⊎_elim (λ s. subst (λ j. get_or m j false ≡ true) s parts.0) (λ r. one_marked ks t r parts.1) h

    taken : (side : Side) → IsListedUnder x (set_on side p) place.0 side → are_marked m (set_on side p) ≡ true → with_marks m (set_across side p) ≡ m
    taken side represents e =
        sym (ap (λ (b : Bool). cond b (with_marks m (set_across side p)) m) e)
        ∙ ⊎_elim
        (λ none. apart (pair_side_at place.0 side None) none.1 p place.1 tt)
        (λ some. under some.0 (pair_side_at place.0 side (Some some.1)) (among some.0 (one_marked (set_on side p) some.0 some.2 e)) some.4 p place.1 some.3)
        represents

    go : (b c : Bool) → are_marked m p.left ≡ b → are_marked m p.right ≡ c → with_pair_marked m p ≡ m
    go true c e f = ap (λ (b : Bool). cond b (with_marks m p.right) (cond (are_marked m p.right) (with_marks m p.left) m)) e ∙ taken Left (indexed place.0 p place.1).0 e
    go false true e f = ap₂ (λ (b c : Bool). cond b (with_marks m p.right) (cond c (with_marks m p.left) m)) e f ∙ taken Right (indexed place.0 p place.1).1 f
    go false false e f = ap₂ (λ (b c : Bool). cond b (with_marks m p.right) (cond c (with_marks m p.left) m)) e f

-- ---- pairs applied one after the other

-- if neither the previous steps nor this one added a term, the property holds for all of them and the new set
pub all_next : (P : MarkSetParts → ℕ → Type 0) (a b : MarkSetParts) (i : ℕ) (x y z : Bool) → z ≡ (x || y) → IsMore a b y
    → (x ≡ false → (j : ℕ) → j < i → P a j) → (x ≡ false → y ≡ false → P b i) → z ≡ false → (j : ℕ) → j < i + 1 → P b j
all_next P a b i true y z e more before now f j h = absurd (true≢false (sym e ∙ f))
all_next P a b i false true z e more before now f j h = absurd (true≢false (sym e ∙ f))
all_next P a b i false false z e more before now f j h =
    ⊎_elim
    (λ l. subst (λ s. P s j) (sym (more.same refl)) (before refl j l))
    (λ s. subst (P b) (sym s) (now refl refl))
    (below_next j i h)

-- what holds at each place holds for each member
pub all_members : {X : Type 0} (P : X → Type 0) (xs : List X) (n : ℕ) → length xs ≤ n → ((j : ℕ) → j < n → (x : X) → slice_get xs j ≡ Some x → P x) → (x : X) → Has xs x → P x
all_members P xs n long each x h =
    let at = place_of_member xs x h in
    let within : at.0 < length xs = slice_get_within xs at.0 x at.1 in
    each at.0 (omega (arith, within, long)) x at.1

-- if neither the empty sets nor the sets under the marked terms add a term, no pair does
pub round_closed : (r : ListedPairsParts) (b c : MarkSetParts) (x y z : Bool) → z ≡ (x || y) → IsMore b c y → AreIndexed r.index r.pairs → AreAmong b.marks b.terms
    → (x ≡ false → (s : PairSide) → Has r.index.apart s → IsClosedAt r.pairs b.marks s)
    → (y ≡ false → (i : ℕ) → i < length b.terms → (t : ℕ) → slice_get b.terms i ≡ Some t → (s : PairSide) → Has (get_or r.index.under t []) s → IsClosedAt r.pairs c.marks s)
    → z ≡ false → AreClosed r.pairs c.marks
round_closed r b c true y z e more indexed among first second f = absurd (true≢false (sym e ∙ f))
round_closed r b c false true z e more indexed among first second f = absurd (true≢false (sym e ∙ f))
round_closed r b c false false z e more indexed among first second f =
    subst (λ (s : MarkSetParts). AreClosed r.pairs s.marks) (sym (more.same refl))
    (index_closed r.index r.pairs b.marks b.terms indexed among (first refl) (λ t k h u.
    let at = place_of_member b.terms t h in
    subst (λ (s : MarkSetParts). IsClosedAt r.pairs s.marks k) (more.same refl) (second refl at.0 (slice_get_within b.terms at.0 t at.1) t at.1 k u)))

-- if the last step added a term, the result is true
pub grew_last : (x y z : Bool) → z ≡ (x || y) → y ≡ true → z ≡ false → ⊥
grew_last true y z e f g = true≢false (sym e ∙ g)
grew_last false y z e f g = true≢false (sym f ∙ sym e ∙ g)
