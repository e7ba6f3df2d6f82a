use Rattle.std.proofs.Common.{Bool, false, ◌&&◌, ℕ, ◌+◌, nat_eq, length, take, sym, ◌∙◌, arith}
use Rattle.std.specs.List.{list_any}
use Rattle.std.proofs.lemmas.Bool.{eq-eqb, ne_eqb, and_from, and_left, and_right}
use Rattle.flow_model.specs.Matches.{Match, match_of}
use Rattle.flow_model.specs.declared.block_match.BlockMatch.{BlockMatch}
use Rattle.flow_matches.specs.declared.tables.MatchTables.{MatchTables}
use Rattle.flow_matches.specs.MatchViews.{match_at}
use Rattle.flow_matches.specs.Working.ExitViews.{chosen, noted_at, like_by}
use Rattle.flow_matches.proofs.ChosenMatches.{below_at, here, chosen_more, none_more, some_passes, of_all}
use Rattle.flow_matches.proofs.exits.has_like.Goals.{else-one-pair-via-then-one-pair+then-one-pair-2+else-are_like, else-one-pair-via-then-one-pair+else-one-pair-2, else-one-pair-via-else-one-pair}
use Rattle.flow_matches.proofs.exits.has_like.Goals as goal

abbrev like : MatchTables → ℕ → BlockMatch → ℕ → ℕ → Match → Bool
like tables n own k l d = nat_eq d.before k && nat_eq d.after l && like_by (noted_at tables n) (match_of own) d

pub bounds-matches-number : goal.bounds-matches-number
bounds-matches-number c = below_at (length c.args.matches.now) c.args.candidates.now c.loop-number.number-index c.requires c.loop-number-test.true

pub offset_bounds-matches-number : goal.offset_bounds-matches-number
offset_bounds-matches-number c =
    let low = below_at (length c.args.matches.now) c.args.candidates.now c.loop-number.number-index c.requires c.loop-number-test.true in
    omega (arith, low)

pub returns-then-are_like : goal.returns-then-are_like
returns-then-are_like c =
    some_passes (like c.args.tables.now c.args.variables c.args.own.now c.args.pair.0 c.args.pair.1) (match_at c.args.matches.now) c.args.candidates.now c.loop-number.number-index 0 c.loop-number-test.true (match_of c.index-matches-number.result) (here c.args.matches.now c.args.candidates.now c.requires c.loop-number.number-index c.loop-number-test.true c.index-matches-number.result c.index-matches-number.is)
    (and_from ((nat_eq c.index-matches-number.result.before c.args.pair.0) && (nat_eq c.index-matches-number.result.after c.args.pair.1)) (like_by (noted_at c.args.tables.now c.args.variables) (match_of c.args.own.now) (match_of c.index-matches-number.result)) (and_from (nat_eq c.index-matches-number.result.before c.args.pair.0) (nat_eq c.index-matches-number.result.after c.args.pair.1) (eq-eqb c.index-matches-number.result.before c.args.pair.0 c.if-one-pair.true) (eq-eqb c.index-matches-number.result.after c.args.pair.1 c.if-one-pair-2.true)) (sym c.are_like.ensures ∙ c.if-are_like.true))

pub loop-number-preserved : goal.loop-number-preserved
loop-number-preserved c =
    none_more (like c.args.tables.now c.args.variables c.args.own.now c.args.pair.0 c.args.pair.1) (chosen c.args.matches.now (take c.loop-number.number-index c.args.candidates.now)) (chosen c.args.matches.now (take (c.loop-number.number-index + 1) c.args.candidates.now)) (match_of c.index-matches-number.result) (chosen_more c.args.matches.now c.args.candidates.now c.requires c.loop-number.number-index c.loop-number-test.true c.index-matches-number.result c.index-matches-number.is) c.loop-number.invariant
    (elim c.else-one-pair.branch [
      | else-one-pair-via-then-one-pair+then-one-pair-2+else-are_like w ↦ and_right ((nat_eq c.index-matches-number.result.before c.args.pair.0) && (nat_eq c.index-matches-number.result.after c.args.pair.1)) (like_by (noted_at c.args.tables.now c.args.variables) (match_of c.args.own.now) (match_of c.index-matches-number.result)) (sym w.are_like.ensures ∙ w.if-are_like.false)
      | else-one-pair-via-then-one-pair+else-one-pair-2 w ↦ and_left ((nat_eq c.index-matches-number.result.before c.args.pair.0) && (nat_eq c.index-matches-number.result.after c.args.pair.1)) (like_by (noted_at c.args.tables.now c.args.variables) (match_of c.args.own.now) (match_of c.index-matches-number.result)) (and_right (nat_eq c.index-matches-number.result.before c.args.pair.0) (nat_eq c.index-matches-number.result.after c.args.pair.1) (ne_eqb c.index-matches-number.result.after c.args.pair.1 w.if-one-pair-2.false))
      | else-one-pair-via-else-one-pair w ↦ and_left ((nat_eq c.index-matches-number.result.before c.args.pair.0) && (nat_eq c.index-matches-number.result.after c.args.pair.1)) (like_by (noted_at c.args.tables.now c.args.variables) (match_of c.args.own.now) (match_of c.index-matches-number.result)) (and_left (nat_eq c.index-matches-number.result.before c.args.pair.0) (nat_eq c.index-matches-number.result.after c.args.pair.1) (ne_eqb c.index-matches-number.result.before c.args.pair.0 w.if-one-pair.false))
    ])

pub returns : goal.returns
returns c = of_all (λ ks. list_any (like c.args.tables.now c.args.variables c.args.own.now c.args.pair.0 c.args.pair.1) (chosen c.args.matches.now ks)) c.args.candidates.now c.loop-number.number-index false c.loop-number-test.false c.loop-number.invariant
