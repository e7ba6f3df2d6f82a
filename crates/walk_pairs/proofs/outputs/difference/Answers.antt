use Rattle.std.proofs.Common.{ℕ, not, ◌&&◌, ◌||◌, ◌∙◌}
use mathlib.Core.Path.{ap₂}
use Rattle.std.proofs.lemmas.Result.{IfOk-weaker}
use Rattle.test_diagrams.specs.Functions.{DiagramsParts, value_of, IsDiagramId, IsDiagramOf, KeepsFunctions}
use Rattle.test_diagrams.proofs.Kept.{KeepsFunctions-trans}
use Rattle.walk_pairs.specs.Outputs.{one_of}
use Rattle.walk_pairs.proofs.outputs.difference.Goals as goal

-- either of two differences, each made in a later collection
either_difference : (b c d e : DiagramsParts) (x y only_x only_y id : ℕ) → KeepsFunctions b c → KeepsFunctions c d → KeepsFunctions d e → IsDiagramId b x → IsDiagramId b y
    → IsDiagramOf c only_x (λ atom. value_of b x atom && not (value_of b y atom)) → IsDiagramOf d only_y (λ atom. value_of c y atom && not (value_of c x atom))
    → IsDiagramOf e id (λ atom. value_of d only_x atom || value_of d only_y atom) → IsDiagramOf e id (λ atom. one_of (value_of b x atom) (value_of b y atom))
either_difference b c d e x y only_x only_y id bc cd de is_x is_y first second whole = record {
  in_range = whole.in_range;
  value = λ atom fits.
      whole.value atom fits
      ∙ ap₂ (λ p q. p || q)
      (cd.values only_x first.in_range atom ∙ first.value atom (fits ∙ de.tests ∙ cd.tests))
      (second.value atom (fits ∙ de.tests) ∙ ap₂ (λ p q. p && not q) (bc.values y is_y atom) (bc.values x is_x atom));
}

pub and_not-requires-clause-first : goal.and_not-requires-clause-first
and_not-requires-clause-first c = c.requires.first

pub and_not-requires-clause-second : goal.and_not-requires-clause-second
and_not-requires-clause-second c = c.requires.second

pub returns-in_err-only_a-clause-kept : goal.returns-in_err-only_a-clause-kept
returns-in_err-only_a-clause-kept c = c.in_err-only_a.ensures.kept

pub returns-in_err-only_a-clause-reduced : goal.returns-in_err-only_a-clause-reduced
returns-in_err-only_a-clause-reduced c = c.in_err-only_a.ensures.reduced

pub and_not-requires-2-clause-first : goal.and_not-requires-2-clause-first
and_not-requires-2-clause-first c = c.in_ok-only_a.ensures.kept.ids c.args.b c.requires.second

pub and_not-requires-2-clause-second : goal.and_not-requires-2-clause-second
and_not-requires-2-clause-second c = c.in_ok-only_a.ensures.kept.ids c.args.a c.requires.first

pub returns-in_err-only_b-clause-kept : goal.returns-in_err-only_b-clause-kept
returns-in_err-only_b-clause-kept c = KeepsFunctions-trans _ _ _ c.in_ok-only_a.ensures.kept c.in_err-only_b.ensures.kept

pub returns-in_err-only_b-clause-reduced : goal.returns-in_err-only_b-clause-reduced
returns-in_err-only_b-clause-reduced c = c.in_err-only_b.ensures.reduced

pub or-requires-clause-left : goal.or-requires-clause-left
or-requires-clause-left c = c.in_ok-only_b.ensures.kept.ids c.in_ok-only_a.only_a c.in_ok-only_a.ensures.function.in_range

pub or-requires-clause-right : goal.or-requires-clause-right
or-requires-clause-right c = c.in_ok-only_b.ensures.function.in_range

pub returns-clause-function : goal.returns-clause-function
returns-clause-function c =
    IfOk-weaker c.or.result _ _
    (λ id whole.
    either_difference c.args.diagrams.now c.and_not.new.diagrams c.and_not-2.new.diagrams c.or.new.self c.args.a c.args.b c.in_ok-only_a.only_a c.in_ok-only_b.only_b id c.in_ok-only_a.ensures.kept c.in_ok-only_b.ensures.kept c.or.ensures.kept c.requires.first c.requires.second
    c.in_ok-only_a.ensures.function c.in_ok-only_b.ensures.function whole)
    c.or.ensures.function

pub returns-clause-kept : goal.returns-clause-kept
returns-clause-kept c = KeepsFunctions-trans _ _ _ c.in_ok-only_a.ensures.kept (KeepsFunctions-trans _ _ _ c.in_ok-only_b.ensures.kept c.or.ensures.kept)

pub returns-clause-reduced : goal.returns-clause-reduced
returns-clause-reduced c = c.or.ensures.reduced
