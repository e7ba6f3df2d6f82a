use Rattle.std.proofs.Common.{ℕ, ⊎_elim, List, length, refl, sym, ap, ◌∙◌, subst}
use Rattle.std.specs.Bool.{IsTrue}
use Rattle.std.proofs.lemmas.Result.{IfOk-weaker}
use Rattle.term_nodes.specs.NumberSets.{are_below, terms_of}
use Rattle.cert_checker.specs.NodeTables.{nodes_in}
use Rattle.cert_checker.proofs.GrowingTables.{grows_itself}
use Rattle.cert_checker.specs.Roots.{counted_short}
use Rattle.cert_checker.proofs.pass.short_hyps.Goals as goal

pub returns-in-Plain-clause-terms : goal.returns-in-Plain-clause-terms
returns-in-Plain-clause-terms c =
    let q = c.args.problem.now in
    ap (terms_of (nodes_in c.args.tables.now)) c.new.ensures.items ∙ ⊎_elim (λ e. ap (λ s. counted_short s q) (sym e)) (λ e. ap (λ s. counted_short s q) (sym e)) c.in-Plain.is

pub returns-in-Plain-clause-there : goal.returns-in-Plain-clause-there
returns-in-Plain-clause-there c = subst (λ (l : List ℕ). IsTrue (are_below (length c.args.tables.now.terms) l)) (sym c.new.ensures.items) refl

pub returns-in-Plain-clause-grows : goal.returns-in-Plain-clause-grows
returns-in-Plain-clause-grows c = grows_itself c.args.tables.now c.requires.tables

pub returns-in-Under-clause-terms : goal.returns-in-Under-clause-terms
returns-in-Under-clause-terms c = IfOk-weaker c.all_short.result _ _ (λ v e. e ∙ ap (λ s. counted_short s c.args.problem.now) (sym c.in-Under.is)) c.all_short.ensures.terms
