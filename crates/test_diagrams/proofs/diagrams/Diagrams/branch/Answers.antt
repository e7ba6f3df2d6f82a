use Rattle.std.proofs.Common.{rules, refl, sym, ◌∙◌, subst}
use Rattle.std.specs.Prelude.{length}
use Rattle.std.proofs.lemmas.Bool.{eqb-false}
use Rattle.test_diagrams.specs.Functions.{DiagramsParts}
use Rattle.test_diagrams.specs.Reduced.{IsBranch, IsReduced}
use Rattle.kat_model.proofs.Places.{no_doubles}
use Rattle.test_diagrams.proofs.Results.{results_kept}
use Rattle.test_diagrams.proofs.Growth.{HasBranch, has_branch}
use Rattle.test_diagrams.proofs.diagrams.Diagrams.branch.Goals as goal

-- the new collection has the branch, whether it was added or found
grown : (c : goal.In_ok-index) → HasBranch (record { tests = c.self.inside.tests; nodes = c.self.inside.nodes.keys }) (record { tests = c.self.inside.tests; nodes = c.insert_full.new.self.keys }) c.args.test c.args.low c.args.high c.in_ok-index.index
grown c =
    let fits : IsBranch c.args.self.now (length c.args.self.now.nodes) c.args.test c.args.low c.args.high = record {
      in_range = c.requires.test;
      low_earlier = c.requires.low;
      high_earlier = c.requires.high;
      low_below = c.requires.low_below;
      high_below = c.requires.high_below;
      different = eqb-false _ _ (sym c.eq.ensures ∙ c.if-eq.false);
    } in
    has_branch _ _ _ _ _ _ c.self.invariant.reduced (subst (λ (d : DiagramsParts). IsBranch d (length d.nodes) c.args.test c.args.low c.args.high) (sym c.self.view_is) fits) refl _ c.in_ok-index.ensures.keys
    (no_doubles _ (λ x. search rules) _ c.in_ok-index.ensures.unique) (search rules)

pub returns-then-eq-clause-reduced : goal.returns-then-eq-clause-reduced
returns-then-eq-clause-reduced c = subst IsReduced c.self.view_is c.self.invariant.reduced

pub invariant_of-self-2 : goal.invariant_of-self-2
invariant_of-self-2 c = record { reduced = (grown c).reduced; results = results_kept _ _ (grown c).kept _ c.self.invariant.results }

pub returns-clause-function : goal.returns-clause-function
returns-clause-function c = rw (← c.self.view_is) (grown c).function

pub returns-clause-kept : goal.returns-clause-kept
returns-clause-kept c = rw (← c.self.view_is) (grown c).kept

pub returns-clause-reduced : goal.returns-clause-reduced
returns-clause-reduced c = (grown c).reduced
