use Rattle.std.proofs.Common.{Bool, false, ◌&&◌, List, length, slice_index_or, sym, ap, ◌∙◌, subst, take_all}
use Rattle.std.specs.List.{filter}
use Rattle.kat_model.specs.Members.{Has}
use Rattle.std.proofs.lemmas.Bool.{and_from, and_left, and_right}
use Rattle.flow_model.specs.Matches.{Match, matches_of}
use Rattle.flow_matches.proofs.ChosenMatches.{below_pushed, candidate_kept, candidate_left}
use Rattle.flow_matches.proofs.exits.candidates.Goals.{then-has_mark+then-has_mark-2+in_ok-push, else-has_mark, else-has_mark-via-then-has_mark+else-has_mark-2, else-has_mark-via-else-has_mark}
use Rattle.flow_matches.proofs.exits.candidates.Goals as goal

abbrev both : List Bool → List Bool → Match → Bool
both first second d = slice_index_or first d.before false && slice_index_or second d.after false

pub loop-number-preserved : goal.loop-number-preserved
loop-number-preserved c =
    elim c.if-has_mark.branch [
      | then-has_mark+then-has_mark-2+in_ok-push w ↦ rw w.found-is (record {
        numbers = λ k h. below_pushed (length c.args.matches.now) c.loop-number.found.items c.loop-number.number c.loop-number.invariant.numbers c.loop-number-test.true k (subst (λ ks. Has ks k) w.in_ok-push.ensures.items h);
        matches =
            candidate_kept (both c.args.before.now.marks.items c.args.after.now.marks.items) c.args.matches.now c.loop-number.number c.loop-number-test.true c.index-matches-number.result c.index-matches-number.is
            c.loop-number.found.items c.loop-number.invariant.matches w.push.new.self.items w.in_ok-push.ensures.items
            (and_from (slice_index_or c.args.before.now.marks.items c.index-matches-number.result.before false) (slice_index_or c.args.after.now.marks.items c.index-matches-number.result.after false) (ap (λ l. slice_index_or l c.index-matches-number.result.before false) (sym c.deref.ensures.value) ∙ sym c.has_mark.ensures ∙ w.if-has_mark.true) (ap (λ l. slice_index_or l c.index-matches-number.result.after false) (sym w.deref-then-has_mark.ensures.value) ∙ sym w.has_mark-then-has_mark.ensures ∙ w.if-has_mark-2.true));
      })
      | else-has_mark w ↦ rw w.found-is (record {
        numbers = c.loop-number.invariant.numbers;
        matches =
            candidate_left (both c.args.before.now.marks.items c.args.after.now.marks.items) c.args.matches.now c.loop-number.number c.loop-number-test.true c.index-matches-number.result c.index-matches-number.is
            c.loop-number.found.items c.loop-number.invariant.matches
            (elim w.else-has_mark.branch [
              | else-has_mark-via-then-has_mark+else-has_mark-2 w' ↦ and_right (slice_index_or c.args.before.now.marks.items c.index-matches-number.result.before false) (slice_index_or c.args.after.now.marks.items c.index-matches-number.result.after false) (ap (λ l. slice_index_or l c.index-matches-number.result.after false) (sym w'.deref-then-has_mark.ensures.value) ∙ sym w'.has_mark-then-has_mark.ensures ∙ w'.if-has_mark-2.false)
              | else-has_mark-via-else-has_mark w' ↦ and_left (slice_index_or c.args.before.now.marks.items c.index-matches-number.result.before false) (slice_index_or c.args.after.now.marks.items c.index-matches-number.result.after false) (ap (λ l. slice_index_or l c.index-matches-number.result.before false) (sym c.deref.ensures.value) ∙ sym c.has_mark.ensures ∙ w'.if-has_mark.false)
            ]);
      })
    ]

pub returns-clause-matches : goal.returns-clause-matches
returns-clause-matches c =
    c.loop-number.invariant.matches ∙ ap (λ ds. filter (both c.args.before.now.marks.items c.args.after.now.marks.items) (matches_of ds)) (take_all c.loop-number.number c.args.matches.now c.loop-number-test.false)
