use Rattle.std.proofs.Common.{◌≡◌, ◌≤◌, true, ℕ, List, [], ◌∷◌, ◌++◌, map, length, sym, ap, ◌∙◌, subst, arith}
use Rattle.std.proofs.lemmas.Bool.{eqb-true}
use Rattle.std.proofs.lemmas.List.{nil_from_length}
use Rattle.kat_model.specs.Members.{Has}
use Rattle.kat_model.specs.Trees.{Term}
use Rattle.kat_model.specs.Steps.{set_out}
use Rattle.term_nodes.specs.NumberSets.{terms_of}
use Rattle.cert_checker.specs.NodeTables.{TablesGrow, nodes_in}
use Rattle.cert_checker.specs.Marks.{IsMarked}
use Rattle.cert_checker.specs.Targets.{AreSteps, set_leads_to}
use Rattle.cert_checker.proofs.GrowingTables.{grows_trans}
use Rattle.cert_checker.proofs.StepLists.{all_step}
use Rattle.cert_checker.specs.Roots.{counted_short}
use Rattle.cert_checker.specs.Passes.{PassParts, IsPass, AddsMoves, AreForbidden}
use Rattle.cert_checker.proofs.ForbiddenMoves.{forbidden_without, forbidden_by, none_forbidden}
use Rattle.cert_checker.proofs.Passes.{values_stay, grown, passes_itself}
use Rattle.cert_checker.proofs.RootRanges.{terms_stay}
use Rattle.cert_checker.proofs.pass.Pass.forbidden.Goals as goal
use Rattle.cert_checker.proofs.pass.Pass.forbidden.Goals.{then-is_some+in_ok-push-2+in_ok-forbid_moves, else-is_some}

pub returns-then-is_empty-clause-grows : goal.returns-then-is_empty-clause-grows
returns-then-is_empty-clause-grows c = passes_itself c.args.self.now c.requires.pass

pub forbid_moves-requires-clause-steps : goal.forbid_moves-requires-clause-steps
forbid_moves-requires-clause-steps c =
    let pass = subst IsPass (sym c.self.view_is) c.requires.pass in
    let t = c.self.inside.tables in
    let list = map (λ e. e.entries) c.args.steps.now in
    let steps = subst (λ (z : PassParts). AreSteps z.tables c.args.action (IsMarked z.needed_terms) list) (sym c.self.view_is) c.requires.steps.steps in
    let count : length list ≡ length c.self.inside.parts.needed_terms.items = c.requires.steps.count ∙ sym (ap (λ (z : PassParts). length z.needed_terms) c.self.view_is) in
    let low : length list ≤ length t.terms = omega (arith, count, pass.marks, pass.there) in
    let grown_steps = all_step t c.constant.new.self c.constant.ensures.grows.grows.was c.constant.ensures.grows.grows c.args.action (IsMarked c.self.inside.parts.needed_terms.items) list low steps in
    λ k es h at. grown_steps k es (pass.needed_terms.shorts k (subst (λ (l : List ℕ). Has l k) c.deref.ensures.value h)) at

pub returns-then-is_empty-clause-forbidden : goal.returns-then-is_empty-clause-forbidden
returns-then-is_empty-clause-forbidden c =
    let pass = subst IsPass (sym c.self.view_is) c.requires.pass in
    let len : c.self.inside.parts.shorts.len ≡ 0 = eqb-true c.self.inside.parts.shorts.len 0 (sym c.is_empty.ensures ∙ c.if-is_empty.true) in
    let none : c.self.inside.parts.shorts.items ≡ [] = nil_from_length c.self.inside.parts.shorts.items (omega (arith, len, c.self.inside.parts.shorts.ok.0)) in
    let short : counted_short c.self.inside.cert.now.style c.self.inside.problem.now ≡ [] = sym pass.roots.shorts ∙ ap (terms_of (nodes_in c.self.inside.tables)) none in
    subst (λ (z : PassParts). AreForbidden z.tables z.cert z.problem c.args.action c.new-forbidden.result.items) c.self.view_is
    (subst (λ fs. AreForbidden c.self.inside.tables c.self.inside.cert.now c.self.inside.problem.now c.args.action fs) (sym c.new-forbidden.ensures.items) (none_forbidden c.self.inside.tables c.self.inside.cert.now c.self.inside.problem.now short c.args.action))

pub returns-clause-forbidden : goal.returns-clause-forbidden
returns-clause-forbidden c =
    let pass = subst IsPass (sym c.self.view_is) c.requires.pass in
    let old : PassParts = record { problem = c.self.inside.problem.now; cert = c.self.inside.cert.now; index = c.self.inside.index.now; tables = c.self.inside.tables; left = c.self.inside.parts.left; right = c.self.inside.parts.right; universal = c.self.inside.parts.universal; shorts = c.self.inside.parts.shorts.items; acceptance_tests = c.self.inside.parts.acceptance_tests.items; forbidden_atoms = c.self.inside.parts.forbidden_atoms; needed_terms = c.self.inside.parts.needed_terms.items } in
    let t = c.self.inside.tables in
    let first = c.constant.new.self in
    let begun = c.constant.ensures.grows.grows in
    let es = counted_short old.cert.style old.problem in
    let always = c.in_ok-always.always in
    let made : AreForbidden c.if-is_some.self.tables old.cert old.problem c.args.action c.if-is_some.forbidden.items = elim c.if-is_some.branch [
      | then-is_some+in_ok-push-2+in_ok-forbid_moves w ↦
          let last = w.forbid_moves.new.tables in
          let more : TablesGrow first last = w.forbid_moves.ensures.grows.grows in
          let fs = w.forbid_moves.new.forbidden.items in
          let shorts : terms_of (nodes_in first) w.deref.result.now ≡ es = ap (terms_of (nodes_in first)) w.deref.ensures.value ∙ terms_stay t first begun old.shorts pass.roots.shorts_there ∙ pass.roots.shorts in
          let begins : w.push-then-is_some.new.self.items ≡ (old.forbidden_atoms, always) ∷ (always, old.forbidden_atoms) ∷ [] =
          w.in_ok-push-2.ensures.items ∙ ap (λ (l : List (ℕ × ℕ)). l ++ (always, old.forbidden_atoms) ∷ []) (c.in_ok-push.ensures.items ∙ ap (λ (l : List (ℕ × ℕ)). l ++ (old.forbidden_atoms, always) ∷ []) c.new-forbidden.ensures.items) in
          let adds : AddsMoves last (set_leads_to c.args.action es) w.push-then-is_some.new.self.items fs =
          subst (λ (ts : List Term). AddsMoves last (set_leads_to c.args.action ts) w.push-then-is_some.new.self.items fs) shorts w.in_ok-forbid_moves.ensures.added in
          rw (w.self-is, w.forbidden-is)
          (forbidden_by last old.cert old.problem old.forbidden_atoms always (values_stay t last (grows_trans t first last begun more) (set_out es) old.forbidden_atoms pass.forbidden_atoms) (values_stay first last more (λ atom. true) always c.in_ok-always.ensures.values) c.args.action (sym c.is_some.ensures ∙ w.if-is_some.true) fs
          (subst (λ (l : List (ℕ × ℕ)). AddsMoves last (set_leads_to c.args.action es) l fs) begins adds))
      | else-is_some w ↦
          let list : c.push.new.self.items ≡ (old.forbidden_atoms, always) ∷ [] = c.in_ok-push.ensures.items ∙ ap (λ (l : List (ℕ × ℕ)). l ++ (old.forbidden_atoms, always) ∷ []) c.new-forbidden.ensures.items in
          rw (w.self-is, w.forbidden-is, list)
          (forbidden_without first old.cert old.problem old.forbidden_atoms always (values_stay t first begun (set_out es) old.forbidden_atoms pass.forbidden_atoms) c.in_ok-always.ensures.values c.args.action (sym c.is_some.ensures ∙ w.if-is_some.false))
    ] in
    subst (λ (z : PassParts). AreForbidden c.if-is_some.self.tables z.cert z.problem c.args.action c.if-is_some.forbidden.items) c.self.view_is made

pub returns-clause-grows : goal.returns-clause-grows
returns-clause-grows c =
    let t = c.self.inside.tables in
    let first = c.constant.new.self in
    let begun = c.constant.ensures.grows.grows in
    elim c.if-is_some.branch [
      | then-is_some+in_ok-push-2+in_ok-forbid_moves w ↦
          let last = w.forbid_moves.new.tables in
          rw w.self-is (grown last c.self.view_is (grows_trans t first last begun w.forbid_moves.ensures.grows.grows))
      | else-is_some w ↦ rw w.self-is (grown first c.self.view_is begun)
    ]

pub returns-in_err-always-clause-grows : goal.returns-in_err-always-clause-grows
returns-in_err-always-clause-grows c = grown c.constant.new.self c.self.view_is c.constant.ensures.grows.grows

pub returns-in_err-push-clause-grows : goal.returns-in_err-push-clause-grows
returns-in_err-push-clause-grows c = grown c.constant.new.self c.self.view_is c.constant.ensures.grows.grows

pub returns-in_err-push-2-clause-grows : goal.returns-in_err-push-2-clause-grows
returns-in_err-push-2-clause-grows c = grown c.constant.new.self c.self.view_is c.constant.ensures.grows.grows

pub returns-in_err-forbid_moves-clause-grows : goal.returns-in_err-forbid_moves-clause-grows
returns-in_err-forbid_moves-clause-grows c = grown c.forbid_moves.new.tables c.self.view_is (grows_trans c.self.inside.tables c.constant.new.self c.forbid_moves.new.tables c.constant.ensures.grows.grows c.forbid_moves.ensures.grows.grows)
