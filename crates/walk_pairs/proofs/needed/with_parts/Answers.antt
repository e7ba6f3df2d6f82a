use Rattle.std.proofs.Common.{ℕ, sym, subst}
use Rattle.std.proofs.lemmas.Bool.{false≢true}
use Rattle.term_nodes.specs.declared.TermNode.{TermNode}
use Rattle.term_nodes.specs.Nodes.{term_parts}
use Rattle.term_nodes.proofs.Parts.{IsOver-part}
use Rattle.kat_model.proofs.NumberKeys.{last_has, none_left}
use Rattle.walk_pairs.proofs.PartSets.{IsGathering, gathering_starts, gathering_goes_on, gathering_falls, gathering_ends}
use Rattle.walk_pairs.proofs.SortedKeys.{sorted_ascending}
use Rattle.walk_pairs.proofs.needed.with_parts.Goals as goal

pub loop-term-init : goal.loop-term-init
loop-term-init c =
    record {
      gathers = subst (IsGathering (TermNode ℕ ℕ) c.args.store.now.terms term_parts c.args.pending.keys c.args.pending.keys) (sym c.new-all.ensures.empty) (gathering_starts (TermNode ℕ ℕ) c.args.store.now.terms term_parts c.args.pending.keys c.requires);
      ordered = c.new-all.ensures.ordered;
    }

pub shape-requires : goal.shape-requires
shape-requires c = c.loop-term.invariant.gathers.pending_there c.in-Some.term (last_has c.loop-term.pending.keys c.pop_last.new.self.keys c.in-Some.term c.in-Some.ensures.removal)

pub loop-term-smaller : goal.loop-term-smaller
loop-term-smaller c =
    gathering_falls (TermNode ℕ ℕ) c.args.store.now.terms term_parts c.args.pending.keys c.loop-term.pending.keys c.pop_last.new.self.keys c.add_parts.new.set.keys c.loop-term.all.keys c.in-Some.term c.shape.result
    c.loop-term.invariant.gathers c.in-Some.ensures.removal c.in-Some.ensures.all_below c.shape.ensures.value (IsOver-part _ c.in-Some.term c.shape.result c.shape.ensures.parts) c.in_ok-add_parts.ensures

pub loop-term-preserved : goal.loop-term-preserved
loop-term-preserved c =
    record {
      gathers =
          gathering_goes_on (TermNode ℕ ℕ) c.args.store.now.terms term_parts c.args.pending.keys c.loop-term.pending.keys c.pop_last.new.self.keys c.add_parts.new.set.keys c.loop-term.all.keys c.in-Some.term c.shape.result
          c.loop-term.invariant.gathers c.in-Some.ensures.removal c.in-Some.ensures.all_below c.shape.ensures.value (IsOver-part _ c.in-Some.term c.shape.result c.shape.ensures.parts) c.in_ok-add_parts.ensures
          c.insert.new.self.keys c.in_ok-insert.ensures.keys;
      ordered = c.in_ok-insert.ensures.ordered;
    }

pub returns : goal.returns
returns c =
    let empty = none_left c.loop-term.pending.keys (λ h. absurd (false≢true (c.in_default.ensures.variant.1 h))) in
    gathering_ends (TermNode ℕ ℕ) c.args.store.now.terms term_parts c.args.pending.keys c.loop-term.all.keys (sorted_ascending c.loop-term.all.keys c.loop-term.invariant.ordered)
    (subst (λ p. IsGathering (TermNode ℕ ℕ) c.args.store.now.terms term_parts c.args.pending.keys p c.loop-term.all.keys) empty c.loop-term.invariant.gathers)
