use Rattle.std.proofs.Common.{◌≡◌, ◌≤◌, ℕ, List, [], map, length, None, sym, ap, ◌∙◌, subst, arith}
use Rattle.std.specs.Option.{option_map_or}
use Rattle.std.proofs.lemmas.List.{length-map}
use Rattle.kat_model.specs.Members.{Has}
use Rattle.certificate.specs.declared.nodes.Style.TheVariants.{UpTo}
use Rattle.certificate.specs.PairParts.{PairParts}
use Rattle.cert_checker.specs.NodeTables.{IsTest}
use Rattle.cert_checker.specs.Marks.{IsMarked}
use Rattle.cert_checker.specs.Targets.{AreSteps}
use Rattle.cert_checker.specs.Cases.{AreQueried}
use Rattle.cert_checker.specs.Passes.{PassParts, IsPass, AreForbidden, StepsOf}
use Rattle.cert_checker.proofs.Passes.{pass_with, pass_kept, steps_stay, passes_trans, grown}
use Rattle.cert_checker.proofs.CertPairs.{test_in_tables, listed_in}
use Rattle.cert_checker.proofs.pass.Pass.action_pass.Goals as goal

pub forbidden-requires-clause-pass : goal.forbidden-requires-clause-pass
forbidden-requires-clause-pass c = pass_with _ c.steps.new.tables c.steps.ensures.grows (subst IsPass (sym c.self.view_is) c.requires)

pub forbidden-requires-clause-steps : goal.forbidden-requires-clause-steps
forbidden-requires-clause-steps c =
    let t = c.steps.new.tables in
    let marks : c.deref-2.result.now ≡ c.self.inside.parts.needed_terms.items = c.deref-2.ensures.value in
    let made = map (λ e. e.entries) c.in_ok-steps.steps.items in
    let all : length made ≡ length c.self.inside.parts.needed_terms.items = length-map c.in_ok-steps.steps.items (λ e. e.entries) ∙ c.in_ok-steps.ensures.all ∙ ap length marks in
    let represent : StepsOf t c.args.action c.self.inside.parts.needed_terms.items made =
    record { steps = subst (λ m. AreSteps t c.args.action (IsMarked m) made) marks c.in_ok-steps.ensures.steps; count = all } in
    subst (λ l. StepsOf t c.args.action c.self.inside.parts.needed_terms.items (map (λ e. e.entries) l)) (sym c.deref-3.ensures.value) represent

pub begin_tests-requires : goal.begin_tests-requires
begin_tests-requires c =
    let p = c.forbidden.new.self in
    let grows = c.forbidden.ensures.grows in
    let tables : c.self-2.inside.tables ≡ p.tables = ap (λ (z : PassParts). z.tables) c.self-2.view_is in
    let fs = c.in_ok-forbidden.forbidden.items in
    let forbids = subst (λ (z : PassParts). AreForbidden p.tables z.cert z.problem c.args.action fs) (sym grows.same) c.in_ok-forbidden.ensures.forbidden in
    λ f h. subst (λ z. IsTest z f.0) (sym tables) (forbids.tests f (subst (λ (l : List (ℕ × ℕ)). Has l f) c.deref-4.ensures.value h)).0

pub end_tests-requires-clause-moves : goal.end_tests-requires-clause-moves
end_tests-requires-clause-moves c =
    let p = c.forbidden.new.self in
    let grows = c.forbidden.ensures.grows in
    let tables : c.self-2.inside.tables ≡ p.tables = ap (λ (z : PassParts). z.tables) c.self-2.view_is in
    let fs = c.in_ok-forbidden.forbidden.items in
    let forbids = subst (λ (z : PassParts). AreForbidden p.tables z.cert z.problem c.args.action fs) (sym grows.same) c.in_ok-forbidden.ensures.forbidden in
    λ f h. subst (λ z. IsTest z f.1) (sym tables) (forbids.tests f (subst (λ (l : List (ℕ × ℕ)). Has l f) c.deref-5.ensures.value h)).1

pub end_tests-requires-clause-pairs : goal.end_tests-requires-clause-pairs
end_tests-requires-clause-pairs c =
    let begun = pass_with _ c.steps.new.tables c.steps.ensures.grows (subst IsPass (sym c.self.view_is) c.requires) in
    let p = c.forbidden.new.self in
    let pass = pass_kept _ p c.forbidden.ensures.grows begun in
    let tables : c.self-2.inside.tables ≡ p.tables = ap (λ (z : PassParts). z.tables) c.self-2.view_is in
    let listed : c.pairs_for-pairs.result.now ≡ option_map_or (λ a. p.cert.pairs) c.args.action [] = c.pairs_for-pairs.ensures ∙ ap (λ (z : PassParts). option_map_or (λ a. z.cert.pairs) c.args.action []) c.self-2.view_is in
    λ r k h e.
    subst (λ z. IsTest z k) (sym tables)
    (test_in_tables p pass r (listed_in p pass c.args.action r (subst (λ (l : List PairParts). Has l r) listed h)) k e)

pub returns-clause-action_pass : goal.returns-clause-action_pass
returns-clause-action_pass c =
    let t = c.steps.new.tables in
    let marks : c.deref-2.result.now ≡ c.self.inside.parts.needed_terms.items = c.deref-2.ensures.value in
    let made = map (λ e. e.entries) c.in_ok-steps.steps.items in
    let all : length made ≡ length c.self.inside.parts.needed_terms.items = length-map c.in_ok-steps.steps.items (λ e. e.entries) ∙ c.in_ok-steps.ensures.all ∙ ap length marks in
    let represent : StepsOf t c.args.action c.self.inside.parts.needed_terms.items made =
    record { steps = subst (λ m. AreSteps t c.args.action (IsMarked m) made) marks c.in_ok-steps.ensures.steps; count = all } in
    let begun = pass_with _ c.steps.new.tables c.steps.ensures.grows (subst IsPass (sym c.self.view_is) c.requires) in
    let p = c.forbidden.new.self in
    let grows = c.forbidden.ensures.grows in
    let tables : c.self-2.inside.tables ≡ p.tables = ap (λ (z : PassParts). z.tables) c.self-2.view_is in
    let fs = c.in_ok-forbidden.forbidden.items in
    let forbids = subst (λ (z : PassParts). AreForbidden p.tables z.cert z.problem c.args.action fs) (sym grows.same) c.in_ok-forbidden.ensures.forbidden in
    let low : length c.self.inside.parts.needed_terms.items ≤ length t.terms = omega (arith, begun.marks, begun.there) in
    record {
      steps = subst (λ (z : PassParts). StepsOf p.tables c.args.action z.needed_terms made) (sym grows.same) (steps_stay t p.tables grows.tables c.args.action c.self.inside.parts.needed_terms.items made low represent);
      style = c.style_for.ensures ∙ ap (λ (z : PassParts). option_map_or (λ a. z.cert.style) c.args.action UpTo) c.self-2.view_is;
      pairs = c.pairs_for-pairs.ensures ∙ ap (λ (z : PassParts). option_map_or (λ a. z.cert.pairs) c.args.action []) c.self-2.view_is;
      index = ap (λ (z : PassParts). z.index) c.self-2.view_is;
      universal = c.universal_for.ensures ∙ ap (λ (z : PassParts). option_map_or (λ a. z.universal) c.args.action None) c.self-2.view_is;
      forbidden = forbids;
      begin = subst (λ z. AreQueried z c.in_ok-begin.begin.items) tables c.in_ok-begin.ensures.queried;
      end = subst (λ z. AreQueried z c.in_ok-end.end.items) tables c.in_ok-end.ensures.queried;
      by_moves = λ f h. (
        c.in_ok-begin.ensures.named f (subst (λ (l : List (ℕ × ℕ)). Has l f) (sym c.deref-4.ensures.value) h),
        c.in_ok-end.ensures.by_moves f (subst (λ (l : List (ℕ × ℕ)). Has l f) (sym c.deref-5.ensures.value) h),
      );
      by_pairs = c.in_ok-end.ensures.by_pairs;
    }

pub returns-in_err-steps-clause-grows : goal.returns-in_err-steps-clause-grows
returns-in_err-steps-clause-grows c = grown c.steps.new.tables c.self.view_is c.steps.ensures.grows

pub returns-clause-grows : goal.returns-clause-grows
returns-clause-grows c = passes_trans c.args.self.now _ c.forbidden.new.self (grown c.steps.new.tables c.self.view_is c.steps.ensures.grows) c.forbidden.ensures.grows

pub returns-in_err-forbidden-clause-grows : goal.returns-in_err-forbidden-clause-grows
returns-in_err-forbidden-clause-grows c = passes_trans c.args.self.now _ c.forbidden.new.self (grown c.steps.new.tables c.self.view_is c.steps.ensures.grows) c.forbidden.ensures.grows

pub returns-in_err-begin-clause-grows : goal.returns-in_err-begin-clause-grows
returns-in_err-begin-clause-grows c = passes_trans c.args.self.now _ c.forbidden.new.self (grown c.steps.new.tables c.self.view_is c.steps.ensures.grows) c.forbidden.ensures.grows

pub returns-in_err-end-clause-grows : goal.returns-in_err-end-clause-grows
returns-in_err-end-clause-grows c = passes_trans c.args.self.now _ c.forbidden.new.self (grown c.steps.new.tables c.self.view_is c.steps.ensures.grows) c.forbidden.ensures.grows
