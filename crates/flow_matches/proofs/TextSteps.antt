-- Steps of the walk of both graphs, by the tables of partners.
use Rattle.std.proofs.Common.{◌≡◌, ◌↔◌, ◌<◌, ℕ, suc, ◌+◌, ◌*◌, Bool, true, false, ◌&&◌, ◌||◌, nat_eq, if◌then◌else◌, List, [], ◌∷◌, ◌++◌, length, reverse, replicate, Option, Some, None, slice_get, unwrap_or, is_some, refl, sym, ap, ◌∙◌, subst, arith}
use Rattle.std.specs.Prelude.{Vec}
use Rattle.std.specs.declared.alloc.Global.{Global}
use Rattle.std.proofs.lemmas.Bool.{eqb-true, eqb-false, and_parts, false_from_ne_true}
use Rattle.std.proofs.lemmas.List.{length-map, append-nil, reverse-append}
use Rattle.std.proofs.lemmas.Option.{slice_get_within, same_Some}
use Rattle.kat_model.specs.Members.{Has}
use Rattle.kat_model.proofs.Lists.{has_any, has_map, map_has}
use Rattle.flow_model.specs.declared.sort.Sort.{Sort}
use Rattle.flow_model.specs.declared.graph.Block.{Block as ABlock}
use Rattle.flow_model.specs.declared.block_match.BlockMatch.{BlockMatch}
use Rattle.flow_model.specs.Graphs.{Block, Pair}
use Rattle.flow_model.specs.Polish.{block_of, graph_of}
use Rattle.flow_model.specs.Matches.{Match, match_of, matches_of}
use Rattle.flow_pieces.specs.Pieces.{is_matched_before, is_matched_after}
use Rattle.flow_pieces.specs.SameTexts.{is_plain, are_matched_plainly, block_pairs, has_pair, is_paired, pairs_from, walk_next, walk_pairs, pairs_walked, has_same_text}
use Rattle.flow_matches.specs.declared.text.TextWalk.{TextWalk}
use Rattle.flow_matches.specs.MatchViews.{pair_of}
use Rattle.flow_matches.specs.Tables.{AreInside}
use Rattle.flow_matches.specs.Working.TextWalks.{Pairs, waiting_of, HasMet, SamePartners, SameLengths, AddsPairs, Visits}
use Rattle.flow_matches.proofs.PartnerTables.{partner_there, no_partner, pair_has, has_met_pair, paired_first, paired_second, none_paired, nothing_there}

pub met_by : (old new : TextWalk) (met : Pairs) → SamePartners old new → HasMet old met → HasMet new met
met_by old new met same has = record {
  before = subst (λ table. (k l : ℕ) → (slice_get table k ≡ Some (Some l)) ↔ Has {X = ℕ × ℕ} met (k, l)) (sym same.before) has.before;
  after = subst (λ table. (k l : ℕ) → (slice_get table l ≡ Some (Some k)) ↔ Has {X = ℕ × ℕ} met (k, l)) (sym same.after) has.after;
}

pub lengths_by : (old mid new : TextWalk) → SameLengths old mid → SamePartners mid new → SameLengths old new
lengths_by old mid new long same = record {
  before = new.before.ok.0 ∙ ap length same.before ∙ sym mid.before.ok.0 ∙ long.before;
  after = new.after.ok.0 ∙ ap length same.after ∙ sym mid.after.ok.0 ∙ long.after;
}

module _ (p : Pair) (ms : List Match) where
  module _ (k l : ℕ) where
    abbrev by_pair : ℕ → Pairs → Pairs → Bool → Bool → Option Pairs
    by_pair n met waiting is_met is_clash =
        if is_met then walk_pairs p ms n met waiting
        else if is_clash then None
        else walk_next (walk_pairs p ms n) met k l waiting (pairs_from p ms k l)

    step_met : (n : ℕ) (met waiting : Pairs) → has_pair met k l ≡ true → walk_pairs p ms (suc n) met ((k, l) ∷ waiting) ≡ walk_pairs p ms n met waiting
    step_met n met waiting e = ap (λ b. by_pair n met waiting b (is_paired met k l)) e

    step_clash : (n : ℕ) (met waiting : Pairs) → has_pair met k l ≡ false → is_paired met k l ≡ true → walk_pairs p ms (suc n) met ((k, l) ∷ waiting) ≡ None
    step_clash n met waiting e f =
        ap (λ b. by_pair n met waiting b (is_paired met k l)) e ∙ ap (by_pair n met waiting false) f

    step_new : (n : ℕ) (met waiting : Pairs) → has_pair met k l ≡ false → is_paired met k l ≡ false → walk_pairs p ms (suc n) met ((k, l) ∷ waiting) ≡ walk_next (walk_pairs p ms n) met k l waiting (pairs_from p ms k l)
    step_new n met waiting e f =
        ap (λ b. by_pair n met waiting b (is_paired met k l)) e ∙ ap (by_pair n met waiting false) f

    -- the first block has a partner
    pub visits_partner : (walk : TextWalk) (other : ℕ) → unwrap_or (slice_get walk.before.items k) None ≡ Some other → (goes : Bool) → goes ≡ nat_eq other l → Visits p ms (k, l) goes walk walk
    visits_partner walk other there true is = λ n met has. (
      met,
      has,
      step_met n met (waiting_of walk)
          (has_met_pair met k l ((has.before k l).0 (partner_there (slice_get walk.before.items k) other there ∙ ap (λ j. Some (Some j)) (eqb-true other l (sym is))))),
    )
    visits_partner walk other there false is = λ n met has.
        step_clash n met (waiting_of walk) (false_from_ne_true (has_pair met k l) (differs met has))
        (paired_first met k l other ((has.before k other).0 (partner_there (slice_get walk.before.items k) other there)))
      where
        differs : (met : Pairs) → HasMet walk met → has_pair met k l ≡ true → ⊥
        differs met has e =
            eqb-false other l (sym is)
            (same_Some other l
            (same_Some (Some other) (Some l)
            (sym (partner_there (slice_get walk.before.items k) other there) ∙ (has.before k l).1 (pair_has met k l e))))

    -- the second block alone has a partner
    pub visits_taken : (walk : TextWalk) (other : ℕ) → unwrap_or (slice_get walk.before.items k) None ≡ None → unwrap_or (slice_get walk.after.items l) None ≡ Some other → Visits p ms (k, l) false walk walk
    visits_taken walk other free there = λ n met has.
        step_clash n met (waiting_of walk)
        (false_from_ne_true (has_pair met k l) (λ e. no_partner (slice_get walk.before.items k) l free ((has.before k l).1 (pair_has met k l e))))
        (paired_second met k l other ((has.after other l).0 (partner_there (slice_get walk.after.items l) other there)))

    -- none of the blocks has a partner
    module _ (old : TextWalk) (free_first : unwrap_or (slice_get old.before.items k) None ≡ None) (free_second : unwrap_or (slice_get old.after.items l) None ≡ None) where
      pub no_clash : (met : Pairs) → HasMet old met → is_paired met k l ≡ false
      no_clash met has =
          none_paired met k l
          (λ j h. no_partner (slice_get old.before.items k) j free_first ((has.before k j).1 h))
          (λ i h. no_partner (slice_get old.after.items l) i free_second ((has.after i l).1 h))

      not_met : (met : Pairs) → HasMet old met → has_pair met k l ≡ false
      not_met met has =
          false_from_ne_true (has_pair met k l) (λ e. no_partner (slice_get old.before.items k) l free_first ((has.before k l).1 (pair_has met k l e)))

      pub ends : pairs_from p ms k l ≡ None → (n : ℕ) (met : Pairs) → HasMet old met → walk_pairs p ms (suc n) met ((k, l) ∷ waiting_of old) ≡ None
      ends none n met has =
          step_new n met (waiting_of old) (not_met met has) (no_clash met has) ∙ ap (walk_next (walk_pairs p ms n) met k l (waiting_of old)) none

      pub continues : (next : Pairs) → pairs_from p ms k l ≡ Some next → (n : ℕ) (met : Pairs) → HasMet old met → walk_pairs p ms (suc n) met ((k, l) ∷ waiting_of old) ≡ walk_pairs p ms n ((k, l) ∷ met) (next ++ waiting_of old)
      continues next some n met has =
          step_new n met (waiting_of old) (not_met met has) (no_clash met has) ∙ ap (walk_next (walk_pairs p ms n) met k l (waiting_of old)) some

  -- ---- the loop over the pairs that wait

  -- the rest of the walk gives the answer
  abbrev pub Remains : Option Pairs → ℕ → TextWalk → Type 0
  Remains all n walk = (met : Pairs) × HasMet walk met × (walk_pairs p ms n met (waiting_of walk) ≡ all)

  module _ (all : Option Pairs) (n m : ℕ) (walk : TextWalk) (next : n ≡ suc m) (so_far : Remains all n walk) where
    opened : walk_pairs p ms (suc m) so_far.0 (waiting_of walk) ≡ all
    opened = sym (ap (λ i. walk_pairs p ms i so_far.0 (waiting_of walk)) next) ∙ so_far.2

    pub no_pair_waits : waiting_of walk ≡ [] → true ≡ is_some all
    no_pair_waits none = ap is_some (sym (ap (walk_pairs p ms (suc m) so_far.0) none) ∙ opened)

    module _ (mid : TextWalk) (same : SamePartners walk mid) (pair : ℕ × ℕ) (is : waiting_of walk ≡ pair ∷ waiting_of mid) (new : TextWalk) where
      met_there : HasMet mid so_far.0
      met_there = met_by walk mid so_far.0 same so_far.1

      popped : walk_pairs p ms (suc m) so_far.0 (pair ∷ waiting_of mid) ≡ all
      popped = sym (ap (walk_pairs p ms (suc m) so_far.0) is) ∙ opened

      pub pair_goes : Visits p ms pair true mid new → Remains all m new
      pair_goes visits = let v = visits m so_far.0 met_there in (v.0, v.1, sym v.2 ∙ popped)

      pub pair_ends : Visits p ms pair false mid new → false ≡ is_some all
      pair_ends visits = ap is_some (sym (visits m so_far.0 met_there) ∙ popped)

  pub no_steps : (all : Option Pairs) (n : ℕ) (walk : TextWalk) → n ≡ 0 → Remains all n walk → false ≡ is_some all
  no_steps all n walk none so_far = ap is_some (sym (ap (λ i. walk_pairs p ms i so_far.0 (waiting_of walk)) none) ∙ so_far.2)

-- the pair that waits last is the next one
pub next_waits : (old new : Pairs) (pair : ℕ × ℕ) → old ≡ new ++ pair ∷ [] → reverse old ≡ pair ∷ reverse new
next_waits old new pair e = ap reverse e ∙ reverse-append new (pair ∷ [])

-- blocks of both graphs that have pairs are there
module _ (before after : List ABlock) (k l : ℕ) where
  pub blocks_there : (next : Pairs) → block_pairs (slice_get (graph_of before) k) (slice_get (graph_of after) l) ≡ Some next → (k < length before) × (l < length after)
  blocks_there next e = by_blocks (slice_get (graph_of before) k) (slice_get (graph_of after) l) refl refl e
    where
      by_blocks : (o q : Option Block) → slice_get (graph_of before) k ≡ o → slice_get (graph_of after) l ≡ q → block_pairs o q ≡ Some next → (k < length before) × (l < length after)
      by_blocks (Some b) (Some c) first second f = (
        let within = slice_get_within (graph_of before) k b first in
            let long = length-map before block_of in
            omega (arith, within, long),
        let within = slice_get_within (graph_of after) l c second in
            let long = length-map after block_of in
            omega (arith, within, long),
      )
      by_blocks None q first second f = absurd cc
      by_blocks (Some b) None first second f = absurd cc

  pub matched_there : (ms : List BlockMatch) → AreInside before after ms → are_matched_plainly (matches_of ms) k l ≡ true → (k < length before) × (l < length after)
  matched_there ms inside e =
      let found = has_any (λ m. nat_eq m.before k && nat_eq m.after l && is_plain m) (matches_of ms) e in
      let one = has_map match_of ms found.0 found.1 in
      let tests = and_parts (nat_eq found.0.before k && nat_eq found.0.after l) (is_plain found.0) found.2 in
      let blocks = and_parts (nat_eq found.0.before k) (nat_eq found.0.after l) tests.0 in
      let first : one.0.before ≡ k = ap (λ (m : Match). m.before) one.2 ∙ eqb-true found.0.before k blocks.0 in
      let second : one.0.after ≡ l = ap (λ (m : Match). m.after) one.2 ∙ eqb-true found.0.after l blocks.1 in
      let first_below = inside.first one.0.before (map_has (λ m. m.before) ms one.0 one.1) in
      let second_below = inside.second one.0.after (map_has (λ m. m.after) ms one.0 one.1) in (omega (arith, first, first_below), omega (arith, second, second_below))

-- a pair of which no block has a partner
module _ (sorts : List Sort) (before after : List ABlock) (ms : List BlockMatch) (k l : ℕ) (old mid : TextWalk) (free_first : unwrap_or (slice_get old.before.items k) None ≡ None) (free_second : unwrap_or (slice_get old.after.items l) None ≡ None)
    (waits : mid.waiting ≡ old.waiting) (up : k < length before → l < length after → (met : Pairs) → HasMet old met → is_paired met k l ≡ false → HasMet mid ((k, l) ∷ met)) where
  abbrev p : Pair
  p = pair_of sorts before after

  abbrev matches : List Match
  matches = matches_of ms

  still_waiting : waiting_of mid ≡ waiting_of old
  still_waiting = ap (λ (w : Vec (ℕ × ℕ) Global). reverse w.items) waits

  goes_on : (next : Pairs) (new : TextWalk) → pairs_from p matches k l ≡ Some next → (k < length before) × (l < length after) → SamePartners mid new → waiting_of new ≡ next ++ waiting_of mid → Visits p matches (k, l) true old new
  goes_on next new some there same added = λ n met has. (
    (k, l) ∷ met,
    met_by mid new ((k, l) ∷ met) same (up there.0 there.1 met has (no_clash p matches k l old free_first free_second met has)),
    continues p matches k l old free_first free_second next some n met has ∙ ap (walk_pairs p matches n ((k, l) ∷ met)) (sym (added ∙ ap (λ ws. next ++ ws) still_waiting)),
  )

  stays : (is_matched_before matches k || is_matched_after matches l) ≡ true → (goes : Bool) → goes ≡ are_matched_plainly matches k l → pairs_from p matches k l ≡ (if goes then Some [] else None)
  stays matched goes is =
      ap (λ b. if b then (if are_matched_plainly matches k l then Some [] else None) else block_pairs (slice_get p.before k) (slice_get p.after l)) matched
      ∙ ap (λ b. if b then Some [] else None) (sym is)

  pub visits_matched : AreInside before after ms → (is_matched_before matches k || is_matched_after matches l) ≡ true → (goes : Bool) → goes ≡ are_matched_plainly matches k l → Visits p matches (k, l) goes old mid
  visits_matched inside matched true is =
      goes_on [] mid (stays matched true is) (matched_there before after k l ms inside (sym is)) (record { before = refl; after = refl }) refl
  visits_matched inside matched false is = ends p matches k l old free_first free_second (stays matched false is)

  pub visits_blocks : (is_matched_before matches k || is_matched_after matches l) ≡ false → (new : TextWalk) → SamePartners mid new → (goes : Bool) → AddsPairs goes (block_pairs (slice_get (graph_of before) k) (slice_get (graph_of after) l)) mid new → Visits p matches (k, l) goes old new
  visits_blocks unmatched new same goes adds = by_pairs goes (block_pairs (slice_get (graph_of before) k) (slice_get (graph_of after) l)) refl adds
    where
      leads : pairs_from p matches k l ≡ block_pairs (slice_get (graph_of before) k) (slice_get (graph_of after) l)
      leads =
          ap (λ b. if b then (if are_matched_plainly matches k l then Some [] else None) else block_pairs (slice_get p.before k) (slice_get p.after l)) unmatched

      by_pairs : (b : Bool) (o : Option Pairs) → block_pairs (slice_get (graph_of before) k) (slice_get (graph_of after) l) ≡ o → AddsPairs b o mid new → Visits p matches (k, l) b old new
      by_pairs true (Some next) e added = goes_on next new (leads ∙ e) (blocks_there before after k l next e) same added
      by_pairs false None e added = ends p matches k l old free_first free_second (leads ∙ e)
      by_pairs true None e added = absurd added
      by_pairs false (Some next) e added = absurd added

-- ---- the whole walk

pub nobody_met : (walk : TextWalk) (m n : ℕ) → walk.before.items ≡ replicate m None → walk.after.items ≡ replicate n None → HasMet walk []
nobody_met walk m n first second = record {
  before = λ k l. (λ e. nothing_there m k l (ap (λ table. slice_get table k) (sym first) ∙ e), λ h. absurd h);
  after = λ k l. (λ e. nothing_there n l k (ap (λ table. slice_get table l) (sym second) ∙ e), λ h. absurd h);
}

pub not_plain : (p : Pair) (ms : List Match) (m : Match) → is_plain m ≡ false → false ≡ has_same_text p ms m
not_plain p ms m fails =
    sym (ap (λ b. b && is_some (pairs_walked p ms m (block_pairs (slice_get p.before m.before) (slice_get p.after m.after)))) fails)

module _ (sorts : List Sort) (before after : List ABlock) (ms : List Match) (m : Match) (first new : TextWalk) (up : m.before < length before → m.after < length after → HasMet first ((m.before, m.after) ∷ [])) (none_waits : waiting_of first ≡ []) (same : SamePartners first new) (plain : is_plain m ≡ true) where
  abbrev here : Pair
  here = pair_of sorts before after

  abbrev own_pairs : Option Pairs
  own_pairs = block_pairs (slice_get (graph_of before) m.before) (slice_get (graph_of after) m.after)

  opened_text : has_same_text here ms m ≡ is_some (pairs_walked here ms m own_pairs)
  opened_text = ap (λ b. b && is_some (pairs_walked here ms m own_pairs)) plain

  pub text_differs : AddsPairs false own_pairs first new → false ≡ has_same_text here ms m
  text_differs adds = by_pairs own_pairs refl adds
    where
      by_pairs : (o : Option Pairs) → own_pairs ≡ o → AddsPairs false o first new → false ≡ has_same_text here ms m
      by_pairs None e added = sym (opened_text ∙ ap (λ q. is_some (pairs_walked here ms m q)) e)
      by_pairs (Some next) e added = absurd added

  pub text_walked : AddsPairs true own_pairs first new → (b : Bool) → ((met : Pairs) → HasMet new met → b ≡ is_some (walk_pairs here ms (2 * length before + 4) met (waiting_of new))) → b ≡ has_same_text here ms m
  text_walked adds b found = by_pairs own_pairs refl adds
    where
      by_pairs : (o : Option Pairs) → own_pairs ≡ o → AddsPairs true o first new → b ≡ has_same_text here ms m
      by_pairs None e added = absurd added
      by_pairs (Some next) e added =
          let there = blocks_there before after m.before m.after next e in
          let steps : 2 * length before + 4 ≡ 2 * length (graph_of before) + 4 = ap (λ n. 2 * n + 4) (sym (length-map before block_of)) in
          found ((m.before, m.after) ∷ []) (met_by first new ((m.before, m.after) ∷ []) same (up there.0 there.1))
          ∙ ap (λ ws. is_some (walk_pairs here ms (2 * length before + 4) ((m.before, m.after) ∷ []) ws)) (added ∙ ap (λ ws. next ++ ws) none_waits ∙ append-nil next)
          ∙ ap (λ n. is_some (walk_pairs here ms n ((m.before, m.after) ∷ []) next)) steps
          ∙ sym (opened_text ∙ ap (λ q. is_some (pairs_walked here ms m q)) e)
