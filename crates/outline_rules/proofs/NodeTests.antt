-- The search finds the least node whose test is out of range.
use Rattle.std.proofs.Common.{◌≡◌, ℕ, ◌<◌, ◌≤◌, List, Bool, true, false, nat_lt, Option, Some, None, get_or, position, refl, sym, ap, ◌∙◌}
use Rattle.std.specs.Option.{IfSome, IfNone}
use Rattle.std.proofs.lemmas.Bool.{ltb-true, ltb-false, not-true, not-false}
use Rattle.std.proofs.lemmas.Option.{slice_get-get_or, get_or_from_slice_get}
use Rattle.std.proofs.lemmas.List.Quantifiers.{position-Some}
use Rattle.kat_model.proofs.Lists.{any_has}
use Rattle.line_format.proofs.Splits.{position_none}
use Rattle.outline_rules.specs.declared.notes.NoteNode.{NoteNode}
use Rattle.outline_rules.specs.declared.notes.NoteNode.TheVariants.{False, True, Branch}
use Rattle.outline_rules.specs.Follows.{HasTests}
use Rattle.outline_rules.specs.Reasons.{IsOutOfRange}
use Rattle.outline_rules.specs.Working.Sets.{tests_out}

-- a node whose test is out of range is a branch
branch_out : (tests : ℕ) (node : NoteNode) → tests_out tests node ≡ true → (test : ℕ) × (low : ℕ) × (high : ℕ) × (node ≡ Branch test low high) × (tests ≤ test)
branch_out tests False e = cc
branch_out tests True e = cc
branch_out tests (Branch test low high) e = (test, low, high, refl, ltb-false test tests (not-true (nat_lt test tests) e))

-- a branch that is not out of range is on a test of the problem
not_out : (tests test low high : ℕ) → tests_out tests (Branch test low high) ≡ false → test < tests
not_out tests test low high e = ltb-true test tests (not-false (nat_lt test tests) e)

pub out_least : (tests : ℕ) (nodes : List NoteNode) (k : ℕ) → position (tests_out tests) nodes ≡ Some k → IsOutOfRange tests nodes k
out_least tests nodes k e =
    let found = position-Some (tests_out tests) nodes k False e in
    let here = branch_out tests (get_or nodes k False) found.1 in
    record {
      test = here.0;
      low = here.1;
      high = here.2;
      node = slice_get-get_or nodes k False found.0 ∙ ap (λ (n : NoteNode). Some n) here.3;
      out = here.4;
      least = λ m test low high lt at.
          let is : get_or nodes m False ≡ Branch test low high = get_or_from_slice_get nodes m (Branch test low high) False at in
          not_out tests test low high (ap (tests_out tests) (sym is) ∙ found.2 m lt);
    }

pub out_none : (tests : ℕ) (nodes : List NoteNode) → None ≡ position (tests_out tests) nodes → HasTests tests nodes
out_none tests nodes none test low high has = by_value (tests_out tests (Branch test low high)) refl
  where
    by_value : (b : Bool) → tests_out tests (Branch test low high) ≡ b → test < tests
    by_value true e = let there = any_has (tests_out tests) nodes (Branch test low high) has e in let lacks = position_none (tests_out tests) nodes none in cc
    by_value false e = not_out tests test low high e

pub least_some : (tests : ℕ) (nodes : List NoteNode) (r : Option ℕ) → r ≡ position (tests_out tests) nodes → IfSome r (IsOutOfRange tests nodes)
least_some tests nodes None e = tt
least_some tests nodes (Some k) e = out_least tests nodes k (sym e)

pub none_out : (tests : ℕ) (nodes : List NoteNode) (r : Option ℕ) → r ≡ position (tests_out tests) nodes → IfNone r (HasTests tests nodes)
none_out tests nodes None e = out_none tests nodes e
none_out tests nodes (Some k) e = tt
