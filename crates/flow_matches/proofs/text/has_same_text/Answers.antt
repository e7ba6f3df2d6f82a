use Rattle.std.proofs.Common.{◌≡◌, ◌+◌, ◌*◌, Bool, ℕ, List, [], length, reverse, slice_get, is_some, refl, sym, ap, ◌∙◌, subst, arith, rules, Vec}
use Rattle.std.specs.declared.alloc.Global.{Global}
use Rattle.std.proofs.lemmas.Result.{IfOk-weaker}
use Rattle.flow_model.specs.declared.sort.Sort.{Sort}
use Rattle.flow_model.specs.Polish.{graph_of}
use Rattle.flow_model.specs.Matches.{match_of, matches_of}
use Rattle.flow_pieces.specs.SameTexts.{block_pairs, walk_pairs, has_same_text}
use Rattle.flow_matches.specs.MatchViews.{match_at, pair_of}
use Rattle.flow_matches.specs.Working.TextWalks.{Pairs, waiting_of, HasMet, AddsPairs}
use Rattle.flow_matches.proofs.ChosenMatches.{match_is}
use Rattle.flow_matches.proofs.TextSteps.{nobody_met, not_plain, text_differs, text_walked}
use Rattle.flow_matches.proofs.text.has_same_text.Goals as goal

pub returns-then-not-is_plain : goal.returns-then-not-is_plain
returns-then-not-is_plain c = λ sorts.
    not_plain (pair_of sorts c.args.before.now c.args.after.now) (matches_of c.args.matches.now) (match_of c.index-matches-number.result) (sym c.is_plain.ensures ∙ c.if-not-is_plain.true) ∙ ap (has_same_text (pair_of sorts c.args.before.now c.args.after.now) (matches_of c.args.matches.now)) (sym (match_is c.args.matches.now c.args.number c.index-matches-number.result c.requires.number c.index-matches-number.is))

pub returns-then-not-branch : goal.returns-then-not-branch
returns-then-not-branch c = λ sorts.
    text_differs sorts c.args.before.now c.args.after.now (matches_of c.args.matches.now) (match_of c.index-matches-number.result) c.pair_up.new.walk c.push_blocks.new.walk
    (λ first second. c.pair_up.ensures.met (omega (arith, first, c.in_ok-vec.ensures.len)) (omega (arith, second, c.in_ok-vec-2.ensures.len)) [] (nobody_met (record { before = c.in_ok-vec.field-0; after = c.in_ok-vec-2.field-0; waiting = c.new.result }) (length c.args.before.now) (length c.args.after.now) (c.in_ok-vec.ensures.items_if_clones_equal (λ y e. search rules)) (c.in_ok-vec-2.ensures.items_if_clones_equal (λ y e. search rules))) refl)
    (ap (λ (v : Vec (ℕ × ℕ) Global). reverse v.items) c.pair_up.ensures.waiting ∙ ap reverse c.new.ensures.items)
    c.push_blocks.ensures.partners (sym c.is_plain.ensures ∙ c.if-not-is_plain.false)
    (subst (λ b. AddsPairs b (block_pairs (slice_get (graph_of c.args.before.now) c.index-matches-number.result.before) (slice_get (graph_of c.args.after.now) c.index-matches-number.result.after)) c.pair_up.new.walk c.push_blocks.new.walk) c.if-not-branch.true c.in_ok-push_blocks.ensures.pairs)
    ∙ ap (has_same_text (pair_of sorts c.args.before.now c.args.after.now) (matches_of c.args.matches.now)) (sym (match_is c.args.matches.now c.args.number c.index-matches-number.result c.requires.number c.index-matches-number.is))

pub visit_all-requires-clause-before : goal.visit_all-requires-clause-before
visit_all-requires-clause-before c =
    c.push_blocks.new.walk.before.ok.0 ∙ ap length c.push_blocks.ensures.partners.before ∙ sym c.pair_up.new.walk.before.ok.0 ∙ c.pair_up.ensures.lengths.before ∙ c.in_ok-vec.ensures.len

pub visit_all-requires-clause-after : goal.visit_all-requires-clause-after
visit_all-requires-clause-after c =
    c.push_blocks.new.walk.after.ok.0 ∙ ap length c.push_blocks.ensures.partners.after ∙ sym c.pair_up.new.walk.after.ok.0 ∙ c.pair_up.ensures.lengths.after ∙ c.in_ok-vec-2.ensures.len

pub returns : goal.returns
returns c =
    IfOk-weaker c.visit_all.result
    (λ (same : Bool). (sorts : List Sort) (met : Pairs) → HasMet c.push_blocks.new.walk met → same ≡ is_some (walk_pairs (pair_of sorts c.args.before.now c.args.after.now) (matches_of c.args.matches.now) (2 * length c.args.before.now + 4) met (waiting_of c.push_blocks.new.walk)))
    (λ (same : Bool). (sorts : List Sort) → same ≡ has_same_text (pair_of sorts c.args.before.now c.args.after.now) (matches_of c.args.matches.now) (match_at c.args.matches.now c.args.number))
    (λ same found sorts.
    text_walked sorts c.args.before.now c.args.after.now (matches_of c.args.matches.now) (match_of c.index-matches-number.result) c.pair_up.new.walk c.push_blocks.new.walk
    (λ first second. c.pair_up.ensures.met (omega (arith, first, c.in_ok-vec.ensures.len)) (omega (arith, second, c.in_ok-vec-2.ensures.len)) [] (nobody_met (record { before = c.in_ok-vec.field-0; after = c.in_ok-vec-2.field-0; waiting = c.new.result }) (length c.args.before.now) (length c.args.after.now) (c.in_ok-vec.ensures.items_if_clones_equal (λ y e. search rules)) (c.in_ok-vec-2.ensures.items_if_clones_equal (λ y e. search rules))) refl)
    (ap (λ (v : Vec (ℕ × ℕ) Global). reverse v.items) c.pair_up.ensures.waiting ∙ ap reverse c.new.ensures.items)
    c.push_blocks.ensures.partners (sym c.is_plain.ensures ∙ c.if-not-is_plain.false)
    (subst (λ b. AddsPairs b (block_pairs (slice_get (graph_of c.args.before.now) c.index-matches-number.result.before) (slice_get (graph_of c.args.after.now) c.index-matches-number.result.after)) c.pair_up.new.walk c.push_blocks.new.walk) c.if-not-branch.false c.in_ok-push_blocks.ensures.pairs)
    same (found sorts)
    ∙ ap (has_same_text (pair_of sorts c.args.before.now c.args.after.now) (matches_of c.args.matches.now)) (sym (match_is c.args.matches.now c.args.number c.index-matches-number.result c.requires.number c.index-matches-number.is)))
    c.visit_all.ensures
