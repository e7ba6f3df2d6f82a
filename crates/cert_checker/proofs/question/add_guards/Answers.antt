use Rattle.std.proofs.Common.{ℕ, List, OnOk, ◌∙◌, subst}
use Rattle.std.specs.Map.Iter.{deref}
use Rattle.std.specs.Ordering.{nat_cmp, eq_by_cmp}
use Rattle.std.specs.Set.{IsUnion}
use Rattle.std.proofs.lemmas.Iterator.Adapters.{fact_from_extend}
use Rattle.std.proofs.lemmas.Iterator.Consumers.{YieldsList-from_rest}
use Rattle.cert_checker.proofs.QueriedTests.{guards_of, guards_added}
use Rattle.cert_checker.proofs.question.add_guards.Goals as goal

pub returns : goal.returns
returns c =
    let es = c.args.targets.now.entries in
    let Added : List ℕ → Type 0 = λ l. IsUnion (eq_by_cmp nat_cmp) c.args.tests.now.keys l c.extend.new.self.keys in
    let given : OnOk c.extend.result (Added (guards_of es)) =
    fact_from_extend (deref {X = ℕ}) c.extend.result c.extend.ensures.ran (λ it b. YieldsList-from_rest (guards_of es) (b ∙ c.values.ensures.rest)) (λ xs e h. subst Added e h.0) in
    let made = rw c.in_ok-extend.was at given in
    guards_added c.args.tests.now.keys c.extend.new.self.keys es made
