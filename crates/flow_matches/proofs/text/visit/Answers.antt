use Rattle.std.proofs.Common.{Bool, false, List, nat_eq, None, unwrap_or, slice_get, slice_index_or, refl, sym, ap, ◌∙◌, arith}
use Rattle.std.proofs.lemmas.Bool.{false≢true, or_left, or_right, or_from}
use Rattle.std.proofs.lemmas.Result.{IfOk-weaker}
use Rattle.flow_model.specs.declared.sort.Sort.{Sort}
use Rattle.flow_model.specs.Polish.{graph_of}
use Rattle.flow_model.specs.Matches.{matches_of}
use Rattle.flow_pieces.specs.Pieces.{is_matched_before, is_matched_after}
use Rattle.flow_pieces.specs.SameTexts.{block_pairs}
use Rattle.flow_matches.specs.MatchViews.{pair_of}
use Rattle.flow_matches.specs.Working.TextWalks.{SameLengths, AddsPairs, Visits}
use Rattle.flow_matches.proofs.TextSteps.{lengths_by, visits_partner, visits_taken, visits_matched, visits_blocks}
use Rattle.flow_matches.proofs.text.visit.Goals.{then-has_mark, else-has_mark}
use Rattle.flow_matches.proofs.text.visit.Goals as goal

pub returns-in-Some-default-clause-visits : goal.returns-in-Some-default-clause-visits
returns-in-Some-default-clause-visits c = λ sorts.
    visits_partner (pair_of sorts c.args.before.now c.args.after.now) (matches_of c.args.matches.now) c.args.pair.0 c.args.pair.1 c.args.walk.now c.in-Some-default.other (ap (λ l. unwrap_or (slice_get l c.args.pair.0) None) (sym c.deref.ensures.value) ∙ sym c.partner.ensures ∙ c.in-Some-default.is-0) (nat_eq c.in-Some-default.other c.args.pair.1) refl

pub returns-in-None-Some-clause-visits : goal.returns-in-None-Some-clause-visits
returns-in-None-Some-clause-visits c = λ sorts.
    visits_taken (pair_of sorts c.args.before.now c.args.after.now) (matches_of c.args.matches.now) c.args.pair.0 c.args.pair.1 c.args.walk.now c.in-None-Some.field-0-1 (ap (λ l. unwrap_or (slice_get l c.args.pair.0) None) (sym c.deref.ensures.value) ∙ sym c.partner.ensures ∙ c.in-None-Some.is-0) (ap (λ l. unwrap_or (slice_get l c.args.pair.1) None) (sym c.deref-2.ensures.value) ∙ sym c.partner-2.ensures ∙ c.in-None-Some.is-1)

pub returns-then-has_mark-2-clause-lengths : goal.returns-then-has_mark-2-clause-lengths
returns-then-has_mark-2-clause-lengths c = c.pair_up.ensures.lengths

pub returns-then-has_mark-2-clause-visits : goal.returns-then-has_mark-2-clause-visits
returns-then-has_mark-2-clause-visits c = λ sorts.
    visits_matched sorts c.args.before.now c.args.after.now c.args.matches.now c.args.pair.0 c.args.pair.1 c.args.walk.now c.pair_up.new.walk (ap (λ l. unwrap_or (slice_get l c.args.pair.0) None) (sym c.deref.ensures.value) ∙ sym c.partner.ensures ∙ c.in-None-None.is-0) (ap (λ l. unwrap_or (slice_get l c.args.pair.1) None) (sym c.deref-2.ensures.value) ∙ sym c.partner-2.ensures ∙ c.in-None-None.is-1) c.pair_up.ensures.waiting
    (λ first second. c.pair_up.ensures.met (omega (arith, first, c.requires.before)) (omega (arith, second, c.requires.after)))
    c.requires.inside
    (elim c.if-has_mark.branch [
      | then-has_mark w ↦ or_left (is_matched_before (matches_of c.args.matches.now) c.args.pair.0) (is_matched_after (matches_of c.args.matches.now) c.args.pair.1) ((sym (c.has_mark.ensures ∙ ap (λ l. slice_index_or l c.args.pair.0 false) c.deref-in-None-None.ensures.value ∙ c.requires.marked.before c.args.pair.0)) ∙ w.if-has_mark.true)
      | else-has_mark w ↦ or_right (is_matched_before (matches_of c.args.matches.now) c.args.pair.0) (is_matched_after (matches_of c.args.matches.now) c.args.pair.1) ((sym (w.has_mark-else-has_mark.ensures ∙ ap (λ l. slice_index_or l c.args.pair.1 false) w.deref-else-has_mark.ensures.value ∙ c.requires.marked.after c.args.pair.1)) ∙ sym w.value-is ∙ c.if-has_mark-2.true)
    ])
    c.are_matched_plainly.result c.are_matched_plainly.ensures

pub returns-else-has_mark-2-clause-lengths : goal.returns-else-has_mark-2-clause-lengths
returns-else-has_mark-2-clause-lengths c =
    IfOk-weaker c.push_blocks.result (λ (goes : Bool). AddsPairs goes (block_pairs (slice_get (graph_of c.args.before.now) c.args.pair.0) (slice_get (graph_of c.args.after.now) c.args.pair.1)) c.pair_up.new.walk c.push_blocks.new.walk) (λ (goes : Bool). SameLengths c.args.walk.now c.push_blocks.new.walk)
    (λ goes adds. lengths_by c.args.walk.now c.pair_up.new.walk c.push_blocks.new.walk c.pair_up.ensures.lengths c.push_blocks.ensures.partners)
    c.push_blocks.ensures.pairs

pub returns-else-has_mark-2-clause-visits : goal.returns-else-has_mark-2-clause-visits
returns-else-has_mark-2-clause-visits c =
    IfOk-weaker c.push_blocks.result (λ (goes : Bool). AddsPairs goes (block_pairs (slice_get (graph_of c.args.before.now) c.args.pair.0) (slice_get (graph_of c.args.after.now) c.args.pair.1)) c.pair_up.new.walk c.push_blocks.new.walk) (λ (goes : Bool). (sorts : List Sort) → Visits (pair_of sorts c.args.before.now c.args.after.now) (matches_of c.args.matches.now) c.args.pair goes c.args.walk.now c.push_blocks.new.walk)
    (λ goes adds sorts.
    visits_blocks sorts c.args.before.now c.args.after.now c.args.matches.now c.args.pair.0 c.args.pair.1 c.args.walk.now c.pair_up.new.walk (ap (λ l. unwrap_or (slice_get l c.args.pair.0) None) (sym c.deref.ensures.value) ∙ sym c.partner.ensures ∙ c.in-None-None.is-0) (ap (λ l. unwrap_or (slice_get l c.args.pair.1) None) (sym c.deref-2.ensures.value) ∙ sym c.partner-2.ensures ∙ c.in-None-None.is-1) c.pair_up.ensures.waiting
    (λ first second. c.pair_up.ensures.met (omega (arith, first, c.requires.before)) (omega (arith, second, c.requires.after)))
    (elim c.if-has_mark.branch [
      | then-has_mark w ↦ absurd (false≢true (sym c.if-has_mark-2.false ∙ w.value-is ∙ w.if-has_mark.true))
      | else-has_mark w ↦ or_from (is_matched_before (matches_of c.args.matches.now) c.args.pair.0) (is_matched_after (matches_of c.args.matches.now) c.args.pair.1) ((sym (c.has_mark.ensures ∙ ap (λ l. slice_index_or l c.args.pair.0 false) c.deref-in-None-None.ensures.value ∙ c.requires.marked.before c.args.pair.0)) ∙ w.if-has_mark.false) ((sym (w.has_mark-else-has_mark.ensures ∙ ap (λ l. slice_index_or l c.args.pair.1 false) w.deref-else-has_mark.ensures.value ∙ c.requires.marked.after c.args.pair.1)) ∙ sym w.value-is ∙ c.if-has_mark-2.false)
    ])
    c.push_blocks.new.walk c.push_blocks.ensures.partners goes adds)
    c.push_blocks.ensures.pairs
