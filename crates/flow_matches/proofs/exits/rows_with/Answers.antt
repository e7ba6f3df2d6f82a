use Rattle.std.proofs.Common.{nat_eq, length, take, sym, ap, ◌∙◌, arith, take_all}
use Rattle.std.proofs.lemmas.Bool.{eq-eqb, ne_eqb}
use Rattle.flow_model.specs.Matches.{Match, match_of}
use Rattle.flow_pieces.specs.Exits.{rows_with}
use Rattle.flow_matches.specs.Working.ExitViews.{chosen}
use Rattle.flow_matches.proofs.MetBlocks.{collected_more, collected_kept}
use Rattle.flow_matches.proofs.ChosenMatches.{below_at, chosen_more}
use Rattle.flow_matches.proofs.exits.rows_with.Goals.{then-one-own+in_ok-push_new, else-one-own}
use Rattle.flow_matches.proofs.exits.rows_with.Goals as goal

pub bounds-matches-number : goal.bounds-matches-number
bounds-matches-number c = below_at (length c.args.matches.now) c.args.candidates.now c.loop-number.number-index c.requires c.loop-number-test.true

pub offset_bounds-matches-number : goal.offset_bounds-matches-number
offset_bounds-matches-number c =
    let low = below_at (length c.args.matches.now) c.args.candidates.now c.loop-number.number-index c.requires c.loop-number-test.true in
    omega (arith, low)

pub loop-number-preserved : goal.loop-number-preserved
loop-number-preserved c =
    elim c.if-one-own.branch [
      | then-one-own+in_ok-push_new w ↦ rw w.rows-is
          (collected_more (λ (d : Match). nat_eq d.after c.args.own.now.after) (λ (d : Match). d.before) (chosen c.args.matches.now (take c.loop-number.number-index c.args.candidates.now)) (match_of c.index-matches-number.result) c.loop-number.rows.items w.push_new.new.list.items
          c.loop-number.invariant (eq-eqb c.index-matches-number.result.after c.args.own.now.after w.if-one-own.true) w.in_ok-push_new.ensures
          ∙ ap (λ cs. rows_with cs (match_of c.args.own.now)) (sym (chosen_more c.args.matches.now c.args.candidates.now c.requires c.loop-number.number-index c.loop-number-test.true c.index-matches-number.result c.index-matches-number.is)))
      | else-one-own w ↦ rw w.rows-is
          (collected_kept (λ (d : Match). nat_eq d.after c.args.own.now.after) (λ (d : Match). d.before) (chosen c.args.matches.now (take c.loop-number.number-index c.args.candidates.now)) (match_of c.index-matches-number.result) c.loop-number.rows.items
          c.loop-number.invariant (ne_eqb c.index-matches-number.result.after c.args.own.now.after w.if-one-own.false)
          ∙ ap (λ cs. rows_with cs (match_of c.args.own.now)) (sym (chosen_more c.args.matches.now c.args.candidates.now c.requires c.loop-number.number-index c.loop-number-test.true c.index-matches-number.result c.index-matches-number.is)))
    ]

pub returns : goal.returns
returns c = c.loop-number.invariant ∙ ap (λ ks. rows_with (chosen c.args.matches.now ks) (match_of c.args.own.now)) (take_all c.loop-number.number-index c.args.candidates.now c.loop-number-test.false)
