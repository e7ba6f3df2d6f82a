use Rattle.std.proofs.Common.{Bool, false, ◌+◌, ◌&&◌, ◌∷◌, ◌++◌, [], ℕ, nat_eq, take, sym, ap, ◌∙◌}
use Rattle.std.specs.List.{list_any}
use Rattle.std.proofs.lemmas.Bool.{eq-eqb, ne_eqb, and_from, and_left, and_right}
use Rattle.std.proofs.lemmas.List.{map_more}
use Rattle.flow_model.specs.Matches.{Match, match_of, matches_of}
use Rattle.flow_pieces.specs.SameTexts.{is_plain}
use Rattle.flow_matches.proofs.ChosenMatches.{none_more, some_passes, of_all}
use Rattle.flow_matches.proofs.text.are_matched_plainly.Goals.{else-one-before-via-then-one-before+then-one-after+else-is_plain, else-one-before-via-then-one-before+else-one-after, else-one-before-via-else-one-before}
use Rattle.flow_matches.proofs.text.are_matched_plainly.Goals as goal

abbrev plainly : ℕ → ℕ → Match → Bool
plainly k l m = nat_eq m.before k && nat_eq m.after l && is_plain m

pub returns-then-is_plain : goal.returns-then-is_plain
returns-then-is_plain c =
    some_passes (plainly c.args.before c.args.after) match_of c.args.matches.now c.loop-one.one-index c.one-item.result c.loop-one-test.true (match_of c.one-item.result) (ap match_of (sym c.one-item.is))
    (and_from ((nat_eq c.one-item.result.before c.args.before) && (nat_eq c.one-item.result.after c.args.after)) (is_plain (match_of c.one-item.result)) (and_from (nat_eq c.one-item.result.before c.args.before) (nat_eq c.one-item.result.after c.args.after) (eq-eqb c.one-item.result.before c.args.before c.if-one-before.true) (eq-eqb c.one-item.result.after c.args.after c.if-one-after.true)) (sym c.is_plain.ensures ∙ c.if-is_plain.true))

pub loop-one-preserved : goal.loop-one-preserved
loop-one-preserved c =
    none_more (plainly c.args.before c.args.after) (matches_of (take c.loop-one.one-index c.args.matches.now)) (matches_of (take (c.loop-one.one-index + 1) c.args.matches.now)) (match_of c.one-item.result)
    (map_more match_of c.args.matches.now c.loop-one.one-index c.one-item.result c.loop-one-test.true ∙ ap (λ m. matches_of (take c.loop-one.one-index c.args.matches.now) ++ match_of m ∷ []) (sym c.one-item.is))
    c.loop-one.invariant
    (elim c.else-one-before.branch [
      | else-one-before-via-then-one-before+then-one-after+else-is_plain w ↦ and_right ((nat_eq c.one-item.result.before c.args.before) && (nat_eq c.one-item.result.after c.args.after)) (is_plain (match_of c.one-item.result)) (sym w.is_plain.ensures ∙ w.if-is_plain.false)
      | else-one-before-via-then-one-before+else-one-after w ↦ and_left ((nat_eq c.one-item.result.before c.args.before) && (nat_eq c.one-item.result.after c.args.after)) (is_plain (match_of c.one-item.result)) (and_right (nat_eq c.one-item.result.before c.args.before) (nat_eq c.one-item.result.after c.args.after) (ne_eqb c.one-item.result.after c.args.after w.if-one-after.false))
      | else-one-before-via-else-one-before w ↦ and_left ((nat_eq c.one-item.result.before c.args.before) && (nat_eq c.one-item.result.after c.args.after)) (is_plain (match_of c.one-item.result)) (and_left (nat_eq c.one-item.result.before c.args.before) (nat_eq c.one-item.result.after c.args.after) (ne_eqb c.one-item.result.before c.args.before w.if-one-before.false))
    ])

pub returns : goal.returns
returns c = of_all (λ ms. list_any (plainly c.args.before c.args.after) (matches_of ms)) c.args.matches.now c.loop-one.one-index false c.loop-one-test.false c.loop-one.invariant
