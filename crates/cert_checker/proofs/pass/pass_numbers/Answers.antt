use Rattle.std.proofs.Common.{◌≡◌, ℕ, List, length, sym, ap, ◌∙◌, subst, arith}
use mathlib.Core.Path.{ap₂}
use Rattle.kat_model.specs.Closed.{Closed}
use Rattle.kat_model.specs.Steps.{set_out}
use Rattle.term_nodes.specs.NumberSets.{are_below, terms_of}
use Rattle.cert_checker.specs.NodeTables.{TableParts, HasValues, nodes_in}
use Rattle.cert_checker.specs.Targets.{AreAcceptances}
use Rattle.cert_checker.proofs.GrowingTables.{grows_trans}
use Rattle.cert_checker.proofs.StepLists.{grows_longer}
use Rattle.cert_checker.specs.Roots.{AreClosedBelow, AreClosedNumbers, compared, counted_short}
use Rattle.cert_checker.specs.Passes.{AreNeeded, pass_of}
use Rattle.cert_checker.proofs.Passes.{pass_made}
use Rattle.cert_checker.proofs.RootRanges.{compared_below, roots_made}
use Rattle.cert_checker.proofs.pass.pass_numbers.Goals as goal

pub sides_in-requires-clause-below : goal.sides_in-requires-clause-below
sides_in-requires-clause-below c =
    let q = c.args.problem.now in
    let style = c.args.cert.now.style in
    let width : c.args.tables.now.width ≡ q.tests = ap (λ (z : TableParts). z.width) c.requires.nodes in
    let below = subst (λ n. AreClosedBelow n (compared style q)) (sym width) (compared_below style q c.requires.problem) in
    subst (AreClosedBelow c.args.tables.now.width) (sym c.requires.closed) below

pub short_hyps-requires-clause-tables : goal.short_hyps-requires-clause-tables
short_hyps-requires-clause-tables c = c.sides_in.ensures.grows.sound

pub short_hyps-requires-clause-width : goal.short_hyps-requires-clause-width
short_hyps-requires-clause-width c = sym (c.sides_in.ensures.grows.width ∙ ap (λ (z : TableParts). z.width) c.requires.nodes)

pub acceptance-requires-clause-tests : goal.acceptance-requires-clause-tests
acceptance-requires-clause-tests c = subst (AreAcceptances c.acceptances.new.tables) (sym c.deref.ensures.value) c.in_ok-acceptance_tests.ensures.values

pub acceptance-requires-clause-set : goal.acceptance-requires-clause-set
acceptance-requires-clause-set c =
    let count : length c.deref.result.now ≡ length c.short_hyps.new.tables.terms = ap length c.deref.ensures.value ∙ c.in_ok-acceptance_tests.ensures.count in
    ap₂ are_below count c.deref-2.ensures.value ∙ c.in_ok-shorts.ensures.there

pub acceptance-requires-clause-there : goal.acceptance-requires-clause-there
acceptance-requires-clause-there c = omega (arith, ap length c.deref.ensures.value, c.in_ok-acceptance_tests.ensures.count, ap length c.acceptances.ensures.grows.terms)

pub needed_terms-requires-clause-shorts : goal.needed_terms-requires-clause-shorts
needed_terms-requires-clause-shorts c =
    let n : length c.acceptance.new.tables.terms ≡ length c.short_hyps.new.tables.terms = ap length c.acceptance.ensures.grows.terms ∙ ap length c.acceptances.ensures.grows.terms in
    ap₂ are_below n c.deref-3.ensures.value ∙ c.in_ok-shorts.ensures.there

pub needed_terms-requires-clause-pairs : goal.needed_terms-requires-clause-pairs
needed_terms-requires-clause-pairs c =
    let first = c.args.tables.now in
    let second = c.short_hyps.new.tables in
    let n : length c.acceptance.new.tables.terms ≡ length second.terms = ap length c.acceptance.ensures.grows.terms ∙ ap length c.acceptances.ensures.grows.terms in
    let whole = grows_trans first c.sides_in.new.tables second c.sides_in.ensures.grows c.short_hyps.ensures.grows in
    omega (arith, n, grows_longer first second whole, ap (λ (z : TableParts). length z.terms) c.requires.nodes)

pub returns : goal.returns
returns c = λ index indexed.
    let q = c.args.problem.now in
    let cert = c.args.cert.now in
    let first = c.args.tables.now in
    let d = c.sides_in.new.tables in
    let second = c.short_hyps.new.tables in
    let third = c.acceptances.new.tables in
    let last = c.acceptance.new.tables in
    let n = c.in_ok-left in
    let ks = c.in_ok-shorts.shorts.items in
    let p = pass_of q cert index last (record { left = n.left; right = n.right; universal = n.universal; shorts = c.in_ok-shorts.shorts; acceptance_tests = c.in_ok-acceptance_tests.acceptance_tests; forbidden_atoms = c.in_ok-forbidden_atoms.forbidden_atoms; needed_terms = c.in_ok-needed_terms.needed_terms }) in
    let whole = grows_trans first d second c.sides_in.ensures.grows c.short_hyps.ensures.grows in
    let sides = subst (λ (z : Closed). AreClosedNumbers z d n.left n.right n.universal) c.requires.closed n.ensures.numbers in
    let shorts = c.in_ok-shorts.ensures.terms ∙ ap (λ z. counted_short z q) c.style.ensures.value in
    let roots = roots_made cert.style q d second n.left n.right n.universal ks c.short_hyps.ensures.grows sides shorts c.in_ok-shorts.ensures.there in
    let forbidden_atoms = subst (λ (l : List ℕ). HasValues last (set_out (terms_of (nodes_in third) l)) c.in_ok-forbidden_atoms.forbidden_atoms) c.deref-2.ensures.value c.in_ok-forbidden_atoms.ensures.values in
    let needed_terms = subst (λ (l : List ℕ). AreNeeded last cert l c.in_ok-needed_terms.needed_terms.items) c.deref-3.ensures.value c.in_ok-needed_terms.ensures.needed in
    let marks : length c.in_ok-needed_terms.needed_terms.items ≡ length c.in_ok-acceptance_tests.acceptance_tests.items = omega (arith, c.in_ok-needed_terms.ensures.count, c.in_ok-acceptance_tests.ensures.count, ap length c.acceptances.ensures.grows.terms, ap length c.acceptance.ensures.grows.terms) in
    pass_made p first second third c.requires.nodes whole c.acceptances.ensures.grows c.acceptance.ensures.grows roots c.in_ok-acceptance_tests.ensures.count
    c.requires.problem c.style.ensures.rules indexed c.in_ok-acceptance_tests.ensures.values forbidden_atoms marks needed_terms
