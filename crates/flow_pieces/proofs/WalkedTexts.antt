-- The test of the same text: the pairs of blocks that the walk meets have the same text.
use Rattle.std.proofs.Common.{◌≡◌, ◌⊎◌, inl, inr, ⊎_elim, ℕ, zero, suc, ◌+◌, ◌*◌, Bool, true, false, not, ◌&&◌, ◌||◌, nat_eq, List, [], ◌∷◌, ◌++◌, length, filter, Option, Some, None, slice_get, is_some, if◌then◌else◌, refl, sym, ap, subst}
use Rattle.std.proofs.lemmas.Bool.{false≢true, and_parts, or_parts, eqb-true, eq-eqb}
use Rattle.std.proofs.lemmas.Option.{same_Some}
use Rattle.std.specs.Cmp.Lexicographic.{pointwise}
use Rattle.kat_model.specs.Members.{Has, IsSubset}
use Rattle.kat_model.proofs.Filters.{has_filter, filter_has}
use Rattle.kat_model.proofs.Lists.{has_left, has_right, has_any, any_has}
use Rattle.flow_model.specs.Graphs.{JumpTree, goto, branch, return, abort, Block, Pair}
use Rattle.flow_model.specs.Matches.{Match}
use Rattle.flow_pieces.specs.Pieces.{is_matched_before, is_matched_after}
use Rattle.flow_pieces.specs.PieceQuestions.{plain_match, LeadAlike, JumpAlike, AreAlike, HasSameText}
use Rattle.flow_pieces.specs.SameTrees.{is_same_expr, is_same_cond, is_same_statement}
use Rattle.flow_pieces.specs.SameTexts.{is_plain, are_matched_plainly, jump_pairs, block_pairs, has_pair, is_paired, pairs_from, walk_next, walk_pairs, pairs_walked, has_same_text}
use Rattle.flow_pieces.proofs.SameTrees.{lists_same, expr_same, cond_same, statement_same, parts_same}

abbrev Pairs : Type 0
Pairs = List (ℕ × ℕ)

false_of_not : (b : Bool) → not b ≡ true → b ≡ false
false_of_not true e = absurd (false≢true e)
false_of_not false e = refl

given_some : {X : Type 0} (b : Bool) (x y : X) → (if b then Some x else None) ≡ Some y → b ≡ true
given_some true x y e = refl
given_some false x y e = absurd cc

pair_there : (pairs : Pairs) (k l : ℕ) → has_pair pairs k l ≡ true → Has pairs (k, l)
pair_there pairs k l e =
    let found = has_any (λ q. nat_eq q.0 k && nat_eq q.1 l) pairs e in
    let q = found.0 in
    let numbers = and_parts (nat_eq q.0 k) (nat_eq q.1 l) found.2 in
    subst (λ i. Has pairs (i, l)) (eqb-true q.0 k numbers.0) (subst (λ j. Has pairs (q.0, j)) (eqb-true q.1 l numbers.1) found.1)

-- a match with no equation and no condition is the plain match of its blocks
plain_is : (m : Match) → is_plain m ≡ true → m ≡ plain_match m.before m.after
plain_is m e = sym (parts_same (plain_match m.before m.after) m e)

module _ (p : Pair) (ms : List Match) where
  abbrev AreMatched : ℕ → ℕ → Type 0
  AreMatched k l = (is_matched_before ms k ≡ true) × (is_matched_after ms l ≡ true) × Has ms (plain_match k l)

  plain_matched : (m : Match) → Has ms m → is_plain m ≡ true → AreMatched m.before m.after
  plain_matched m member plain = (
    any_has (λ d. nat_eq d.before m.before) ms m member (eq-eqb m.before m.before refl),
    any_has (λ d. nat_eq d.after m.after) ms m member (eq-eqb m.after m.after refl),
    subst (Has ms) (plain_is m plain) member,
  )

  matched_plainly : (k l : ℕ) → are_matched_plainly ms k l ≡ true → AreMatched k l
  matched_plainly k l e =
      let found = has_any (λ m. nat_eq m.before k && nat_eq m.after l && is_plain m) ms e in
      let m = found.0 in
      let tests = and_parts (nat_eq m.before k && nat_eq m.after l) (is_plain m) found.2 in
      let blocks = and_parts (nat_eq m.before k) (nat_eq m.after l) tests.0 in
      subst (λ i. AreMatched i l) (eqb-true m.before k blocks.0)
      (subst (λ j. AreMatched m.before j) (eqb-true m.after l blocks.1) (plain_matched m found.1 tests.1))

  -- ---- the walk

  -- the blocks of a pair have the same text, or are matched, and lead to pairs of the list
  abbrev LeadsInto : Pairs → ℕ × ℕ → Type 0
  LeadsInto all q = (next : Pairs) × (pairs_from p ms q.0 q.1 ≡ Some next) × IsSubset next all

  record IsClosed (met left all : Pairs) : Type 0 where
    pub done : IsSubset met all
    pub waiting : IsSubset left all
    pub next : (q : ℕ × ℕ) → Has all q → Has met q ⊎ LeadsInto all q

  -- walks of n steps are closed
  abbrev WalksClosed : ℕ → Pairs → Type 0
  WalksClosed n all = (met left : Pairs) → walk_pairs p ms n met left ≡ Some all → IsClosed met left all

  walk_closed : (n : ℕ) (done waiting all : Pairs) → walk_pairs p ms n done waiting ≡ Some all → IsClosed done waiting all
  walk_closed zero done waiting all e = absurd cc
  walk_closed (suc n) done [] all e =
      let same : done ≡ all = same_Some done all e in
      record {
        done = λ q h. subst (λ pairs. Has pairs q) same h;
        waiting = λ q h. absurd h;
        next = λ q h. inl (subst (λ pairs. Has pairs q) (sym same) h);
      }
  walk_closed (suc n) done ((k, l) ∷ rest) all e = by_pair (has_pair done k l) refl (λ met left q. walk_closed n met left all q) e
    where
      by_next : (o : Option Pairs) → pairs_from p ms k l ≡ o → WalksClosed n all → walk_next (walk_pairs p ms n) done k l rest o ≡ Some all → IsClosed done ((k, l) ∷ rest) all
      by_next None t closed q = absurd cc
      by_next (Some next) t closed q =
          let later = closed ((k, l) ∷ done) (next ++ rest) q in
          record {
            done = λ r h. later.done r (inr h);
            waiting = λ r h. ⊎_elim (λ same. later.done r (inl same)) (λ i. later.waiting r (has_right next rest r i)) h;
            next = λ r h. ⊎_elim
                (λ i. ⊎_elim (λ same. inr (subst (LeadsInto all) same (next, t, λ s j. later.waiting s (has_left next rest s j)))) inl i)
                inr (later.next r h);
          }

      by_partner : (b : Bool) → WalksClosed n all → (if b then None else walk_next (walk_pairs p ms n) done k l rest (pairs_from p ms k l)) ≡ Some all → IsClosed done ((k, l) ∷ rest) all
      by_partner true closed q = absurd cc
      by_partner false closed q = by_next (pairs_from p ms k l) refl closed q

      by_pair : (b : Bool) → has_pair done k l ≡ b → WalksClosed n all →
          (if b then walk_pairs p ms n done rest else if is_paired done k l then None else walk_next (walk_pairs p ms n) done k l rest (pairs_from p ms k l)) ≡ Some all → IsClosed done ((k, l) ∷ rest) all
      by_pair true t closed q =
          let later = closed done rest q in
          record {
            done = later.done;
            waiting = λ r h. ⊎_elim (λ same. subst (Has all) same (later.done (k, l) (pair_there done k l t))) (later.waiting r) h;
            next = later.next;
          }
      by_pair false t closed q = by_partner (is_paired done k l) closed q

  -- ---- blocks

  module _ (pairs next : Pairs) (leads : (k l : ℕ) → Has next (k, l) → LeadAlike ms pairs k l) where
    abbrev AreNext : Pairs → Type 0
    AreNext some = (k l : ℕ) → Has some (k, l) → LeadAlike ms pairs k l

    next_leads : (some : Pairs) → Some some ≡ Some next → AreNext some
    next_leads some e = subst AreNext (sym (same_Some some next e)) leads

    jumps_alike : (i j : JumpTree) → jump_pairs i j ≡ Some next → JumpAlike ms pairs i j
    jumps_alike (goto k) (goto l) e = next_leads ((k, l) ∷ []) e k l (inl refl)
    jumps_alike (branch b k k') (branch c l l') e = by_test (is_same_cond b c) refl e
      where
        by_test : (d : Bool) → is_same_cond b c ≡ d → (if d then Some ((k, l) ∷ (k', l') ∷ []) else None) ≡ Some next → (b ≡ c) × LeadAlike ms pairs k l × LeadAlike ms pairs k' l'
        by_test true t q = let there = next_leads ((k, l) ∷ (k', l') ∷ []) q in (cond_same b c t, there k l (inl refl), there k' l' (inr (inl refl)))
        by_test false t q = absurd cc
    jumps_alike (return es) (return fs) e = lists_same is_same_expr expr_same es fs (given_some (pointwise is_same_expr es fs) [] next e)
    jumps_alike abort abort e = tt
    jumps_alike _ _ e = absurd cc

    blocks_alike : (k l : ℕ) → block_pairs (slice_get p.before k) (slice_get p.after l) ≡ Some next → AreAlike p ms pairs k l
    blocks_alike k l e = by_blocks (slice_get p.before k) (slice_get p.after l) refl refl e
      where
        by_statements : (b c : Block) → slice_get p.before k ≡ Some b → slice_get p.after l ≡ Some c → (d : Bool) → pointwise is_same_statement b.statements c.statements ≡ d →
            (if d then jump_pairs b.jump c.jump else None) ≡ Some next → AreAlike p ms pairs k l
        by_statements b c s t true same q = record {
          before = b;
          after = c;
          block_before = s;
          block_after = t;
          statements = lists_same is_same_statement statement_same b.statements c.statements same;
          jumps = jumps_alike b.jump c.jump q;
        }
        by_statements b c s t false same q = absurd cc

        by_blocks : (o r : Option Block) → slice_get p.before k ≡ o → slice_get p.after l ≡ r → block_pairs o r ≡ Some next → AreAlike p ms pairs k l
        by_blocks None r s t q = absurd cc
        by_blocks (Some b) None s t q = absurd cc
        by_blocks (Some b) (Some c) s t q = by_statements b c s t (pointwise is_same_statement b.statements c.statements) refl q

  -- ---- the piece

  module _ (m : Match) (member : Has ms m) (plain : is_plain m ≡ true) where
    module _ (start all : Pairs) (first : block_pairs (slice_get p.before m.before) (slice_get p.after m.after) ≡ Some start) (closed : IsClosed ((m.before, m.after) ∷ []) start all) where
      abbrev is_open : ℕ × ℕ → Bool
      is_open q = not (is_matched_before ms q.0 || is_matched_after ms q.1)

      abbrev text_pairs : Pairs
      text_pairs = (m.before, m.after) ∷ filter is_open all

      -- each pair that was met is matched plainly, or has the same text
      leads : (k l : ℕ) → Has all (k, l) → LeadAlike ms text_pairs k l
      leads k l h = by_test (is_matched_before ms k || is_matched_after ms l) refl (closed.next (k, l) h)
        where
          by_test : (b : Bool) → (is_matched_before ms k || is_matched_after ms l) ≡ b → Has {X = ℕ × ℕ} ((m.before, m.after) ∷ []) (k, l) ⊎ LeadsInto all (k, l) → LeadAlike ms text_pairs k l
          by_test true t (inl (inl same)) = inl (subst (λ q. AreMatched q.0 q.1) same (plain_matched m member plain))
          by_test true t (inl (inr i)) = absurd i
          by_test true t (inr (next, e, into)) =
              inl (matched_plainly k l
              (given_some (are_matched_plainly ms k l) [] next
              (subst (λ b. (if b then (if are_matched_plainly ms k l then Some [] else None) else block_pairs (slice_get p.before k) (slice_get p.after l)) ≡ Some next) t e)))
          by_test false t o =
              let none = or_parts (is_matched_before ms k) (is_matched_after ms l) t in
              inr (none.0, none.1, inr (filter_has is_open all (k, l) h (ap not t)))

      first_alike : AreAlike p ms text_pairs m.before m.after
      first_alike = blocks_alike text_pairs start (λ k l h. leads k l (closed.waiting (k, l) h)) m.before m.after first

      all_alike : (k l : ℕ) → Has text_pairs (k, l) → AreAlike p ms text_pairs k l
      all_alike k l (inl same) = subst (λ q. AreAlike p ms text_pairs q.0 q.1) same first_alike
      all_alike k l (inr h) =
          let there = has_filter is_open all (k, l) h in
          by_next (false_of_not (is_matched_before ms k || is_matched_after ms l) there.1) (closed.next (k, l) there.0)
        where
          by_next : (is_matched_before ms k || is_matched_after ms l) ≡ false → Has {X = ℕ × ℕ} ((m.before, m.after) ∷ []) (k, l) ⊎ LeadsInto all (k, l) → AreAlike p ms text_pairs k l
          by_next t (inl (inl same)) = subst (λ q. AreAlike p ms text_pairs q.0 q.1) same first_alike
          by_next t (inl (inr i)) = absurd i
          by_next t (inr (next, e, into)) =
              blocks_alike text_pairs next (λ i j s. leads i j (into (i, j) s)) k l
              (subst (λ b. (if b then (if are_matched_plainly ms k l then Some [] else None) else block_pairs (slice_get p.before k) (slice_get p.after l)) ≡ Some next) t e)

    text_from : (o : Option Pairs) → block_pairs (slice_get p.before m.before) (slice_get p.after m.after) ≡ o → is_some (pairs_walked p ms m o) ≡ true → HasSameText p ms m
    text_from None e q = absurd (false≢true q)
    text_from (Some start) e q = by_walk (walk_pairs p ms (2 * length p.before + 4) ((m.before, m.after) ∷ []) start) refl q
      where
        by_walk : (o : Option Pairs) → walk_pairs p ms (2 * length p.before + 4) ((m.before, m.after) ∷ []) start ≡ o → is_some o ≡ true → HasSameText p ms m
        by_walk None w r = absurd (false≢true r)
        by_walk (Some all) w r =
            let closed = walk_closed (2 * length p.before + 4) ((m.before, m.after) ∷ []) start all w in
            record { plain = plain_is m plain; pairs = text_pairs start all e closed; first = inl refl; alike = all_alike start all e closed }

  -- a piece that passes the test has the same text
  pub text_is : (m : Match) → Has ms m → has_same_text p ms m ≡ true → HasSameText p ms m
  text_is m member e =
      let h = and_parts (is_plain m) (is_some (pairs_walked p ms m (block_pairs (slice_get p.before m.before) (slice_get p.after m.after)))) e in
      text_from m member h.0 (block_pairs (slice_get p.before m.before) (slice_get p.after m.after)) refl h.1
