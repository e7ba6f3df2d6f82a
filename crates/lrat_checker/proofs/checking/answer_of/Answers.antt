use Rattle.std.proofs.Common.{◌≡◌, ◌+◌, ◌++◌, ◌∷◌, [], take, refl, sym, ap, subst, ◌∙◌, inl, inr}
use Rattle.std.proofs.lemmas.List.{take_more, take_all}
use Rattle.std.proofs.lemmas.Option.{slice_get_read}
use Rattle.lrat_checker.specs.Accepted.{given, after_lines, AreRight}
use Rattle.lrat_checker.specs.Working.KnownClauses.{Knows}
use Rattle.lrat_checker.specs.Working.Steps.{IsVerdict}
use Rattle.lrat_checker.proofs.LineSteps.{after_push, right_push}
use Rattle.lrat_checker.proofs.WholeProofs.{ends_in_empty, ends_otherwise}
use Rattle.lrat_checker.proofs.checking.answer_of.Goals as goal

pub returns-in-Some : goal.returns-in-Some
returns-in-Some c =
    let lines = c.args.lines.now in
    let place = c.loop-place.place in
    let line = c.index-lines-place.result in
    let state = after_lines (given c.args.clauses.now) (take place lines) in
    inl (
      place,
      refl,
      record {
        line = line;
        here = slice_get_read lines _ place line refl c.loop-place-test.true c.index-lines-place.is;
        earlier = c.loop-place.invariant.right;
        wrong = subst (λ v. IsVerdict state line v) c.in-Some.is (c.in_ok-line_reason.ensures state c.loop-place.invariant.knows);
      },
    )

pub loop-place-preserved : goal.loop-place-preserved
loop-place-preserved c =
    let clauses = c.args.clauses.now in
    let lines = c.args.lines.now in
    let place = c.loop-place.place in
    let line = c.index-lines-place.result in
    let state = after_lines (given clauses) (take place lines) in
    let next : take place lines ++ line ∷ [] ≡ take (place + 1) lines = ap (λ x. take place lines ++ x ∷ []) c.index-lines-place.is ∙ sym (take_more lines place line c.loop-place-test.true) in
    let right = subst (λ v. IsVerdict state line v) c.in-None.is (c.in_ok-line_reason.ensures state c.loop-place.invariant.knows) in
    record {
      knows = subst (λ ls. Knows c.apply.new.self (after_lines (given clauses) ls)) next (subst (λ s. Knows c.apply.new.self s) (sym (after_push (take place lines) (given clauses) line)) (c.in_ok-apply-in-None.ensures state c.loop-place.invariant.knows));
      right = subst (λ ls. AreRight (given clauses) ls) next (right_push (take place lines) (given clauses) line c.loop-place.invariant.right right);
    }

pub returns-then-ends_in_empty_clause : goal.returns-then-ends_in_empty_clause
returns-then-ends_in_empty_clause c = record {
  right = subst (λ ls. AreRight (given c.args.clauses.now) ls) (take_all c.loop-place.place c.args.lines.now c.loop-place-test.false) c.loop-place.invariant.right;
  empty = ends_in_empty c.args.lines.now c.ends_in_empty_clause.result c.ends_in_empty_clause.ensures c.if-ends_in_empty_clause.true;
}

pub returns : goal.returns
returns c =
    inr (
      refl,
      record {
        right = subst (λ ls. AreRight (given c.args.clauses.now) ls) (take_all c.loop-place.place c.args.lines.now c.loop-place-test.false) c.loop-place.invariant.right;
        not_empty = ends_otherwise c.args.lines.now c.ends_in_empty_clause.result c.ends_in_empty_clause.ensures c.if-ends_in_empty_clause.false;
        named = refl;
      },
    )
