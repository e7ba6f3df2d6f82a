use Rattle.std.proofs.Common.{Some, None, sym, ap, ◌∙◌, subst}
use Rattle.std.specs.Option.{option_map}
use Rattle.kat_model.specs.Trees.{kat_tree}
use Rattle.kat_model.specs.Problems.{HasTestsBelow}
use Rattle.goal_forms.specs.ClosedTrees.{closed_trees}
use Rattle.cert_checker.proofs.GrowingTables.{grows_itself, grows_trans}
use Rattle.cert_checker.proofs.RootRanges.{universal_given, numbers_made}
use Rattle.cert_checker.proofs.pass.sides_in.Goals as goal

pub number_of-requires : goal.number_of-requires
number_of-requires c =
    c.requires.below.left

pub number_of-requires-2 : goal.number_of-requires-2
number_of-requires-2 c =
    subst (λ n. HasTestsBelow n (kat_tree c.args.closed.now.right)) (sym c.number_of.ensures.grows.width) c.requires.below.right

pub number_of-requires-in-Some : goal.number_of-requires-in-Some
number_of-requires-in-Some c =
    subst (λ n. HasTestsBelow n (kat_tree c.in-Some.term)) (sym (c.number_of-2.ensures.grows.width ∙ c.number_of.ensures.grows.width)) (c.requires.below.universal (kat_tree c.in-Some.term) (ap (option_map kat_tree) c.in-Some.is))

pub returns-in_err-right-clause-grows : goal.returns-in_err-right-clause-grows
returns-in_err-right-clause-grows c = grows_trans c.args.tables.now c.number_of.new.self c.number_of-2.new.self c.number_of.ensures.grows c.number_of-2.ensures.grows

pub returns-in_err-number_of-in-Some-clause-grows : goal.returns-in_err-number_of-in-Some-clause-grows
returns-in_err-number_of-in-Some-clause-grows c =
    grows_trans c.args.tables.now c.number_of.new.self c.number_of-in-Some.new.self c.number_of.ensures.grows
    (grows_trans c.number_of.new.self c.number_of-2.new.self c.number_of-in-Some.new.self c.number_of-2.ensures.grows c.number_of-in-Some.ensures.grows)

pub returns-in_ok-number_of-in-Some-clause-numbers : goal.returns-in_ok-number_of-in-Some-clause-numbers
returns-in_ok-number_of-in-Some-clause-numbers c =
    let last = c.number_of-in-Some.new.self in
    let found = c.in_ok-number_of-in-Some in
    let given = universal_given last found.field-0 (kat_tree c.in-Some.term) found.ensures.is_term found.ensures.tree in
    numbers_made (closed_trees c.args.closed.now) c.number_of.new.self c.number_of-2.new.self last c.in_ok-left.left c.in_ok-right.right (Some found.field-0) c.number_of-2.ensures.grows c.number_of-in-Some.ensures.grows c.in_ok-left.ensures.is_term c.in_ok-left.ensures.tree c.in_ok-right.ensures.is_term c.in_ok-right.ensures.tree
    (given.0, given.1 ∙ sym (ap (option_map kat_tree) c.in-Some.is))

pub returns-in-None-clause-numbers : goal.returns-in-None-clause-numbers
returns-in-None-clause-numbers c =
    let last = c.number_of-2.new.self in
    numbers_made (closed_trees c.args.closed.now) c.number_of.new.self last last c.in_ok-left.left c.in_ok-right.right None c.number_of-2.ensures.grows (grows_itself last c.number_of-2.ensures.grows.sound) c.in_ok-left.ensures.is_term c.in_ok-left.ensures.tree c.in_ok-right.ensures.is_term c.in_ok-right.ensures.tree
    ((λ u e. absurd cc), sym (ap (option_map kat_tree) c.in-None.is))

pub returns-in_ok-number_of-in-Some-clause-grows : goal.returns-in_ok-number_of-in-Some-clause-grows
returns-in_ok-number_of-in-Some-clause-grows c =
    grows_trans c.args.tables.now c.number_of.new.self c.number_of-in-Some.new.self c.number_of.ensures.grows
    (grows_trans c.number_of.new.self c.number_of-2.new.self c.number_of-in-Some.new.self c.number_of-2.ensures.grows c.number_of-in-Some.ensures.grows)

pub returns-in-None-clause-grows : goal.returns-in-None-clause-grows
returns-in-None-clause-grows c = grows_trans c.args.tables.now c.number_of.new.self c.number_of-2.new.self c.number_of.ensures.grows c.number_of-2.ensures.grows
