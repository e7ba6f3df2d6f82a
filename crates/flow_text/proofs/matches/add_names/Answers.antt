use Rattle.std.proofs.Common.{◌≡◌, ℕ, ◌+◌, ◌-◌, List, length, take, Err, sym, ap, subst, ◌∙◌, arith}
use Rattle.std.specs.BTreeMap.{get_by_text}
use Rattle.std.proofs.lemmas.List.{length-take-le}
use Rattle.std.proofs.lemmas.Result.{err_from_is_err_and}
use Rattle.text_parser.specs.declared.fault.TextFault.{TextFault}
use Rattle.text_parser.specs.TokenParts.{parts_of_token}
use Rattle.flow_syntax.specs.Syntax.{BlockSyntax}
use Rattle.flow_syntax.specs.SyntaxViews.{blocks_syntax}
use Rattle.flow_syntax.proofs.Stacked.{blocks_none}
use Rattle.flow_text.specs.Matches.{FileMatch}
use Rattle.flow_text.specs.MatchViews.{matches_parts}
use Rattle.flow_text.specs.Checking.{block_names, with_name, with_names}
use Rattle.flow_text.proofs.LastTaken.{kept, left_at, ended}
use Rattle.flow_text.proofs.ProgramResults.{fault_done}
use Rattle.flow_text.proofs.MatchSteps.{next_number, name_made, name_refused}
use Rattle.flow_text.proofs.matches.add_names.Goals as goal

pub each-preserved : goal.each-preserved
each-preserved c =
    let find = get_by_text c.args.after.now in
    let word = parts_of_token c.args.word.now in
    let made = matches_parts c.each.matches.items in
    let now = matches_parts c.add_name.new.matches.items in
    let rest = c.each.rest.now in
    let before = c.in-Some.field-0-1.now in
    let b = c.in-Some.block.now in
    let n = length c.args.blocks.now in
    let k = n - length rest in
    let left = take (length rest - 1) rest in
    let whole = with_names find word (matches_parts c.args.matches.now.items) (block_names 0 (blocks_syntax c.args.blocks.now)) in
    record {
      within = let short = length-take-le (length rest - 1) rest (omega arith) in omega (arith, short, c.each.invariant.within);
      named = subst (λ (j : ℕ). with_names find word now (block_names j (blocks_syntax left)) ≡ whole) (next_number n rest before b c.in-Some.ensures.cases.0 c.each.invariant.within)
          (kept (λ (m : List FileMatch × ℕ) (bs : List BlockSyntax). with_names find word m.0 (block_names m.1 bs)) blocks_syntax (made, k) (now, k + 1) rest before b whole c.in-Some.ensures.cases.0
          (name_made find word made now k before b (ap (with_name made word k) (sym c.number_of.ensures) ∙ c.in_ok-add_name.ensures)) c.each.invariant.named);
    }

pub returns-in_err-add_name : goal.returns-in_err-add_name
returns-in_err-add_name c =
    let find = get_by_text c.args.after.now in
    let word = parts_of_token c.args.word.now in
    let made = matches_parts c.each.matches.items in
    let now = matches_parts c.add_name.new.matches.items in
    let before = c.in-Some.field-0-1.now in
    let b = c.in-Some.block.now in
    let k = length c.args.blocks.now - length c.each.rest.now in
    let fault = c.in_err-add_name.field-0.0 in
    let whole = with_names find word (matches_parts c.args.matches.now.items) (block_names 0 (blocks_syntax c.args.blocks.now)) in
    let answer = err_from_is_err_and c.from_residual.result c.from_residual.ensures.1 in
    fault_done (List FileMatch) (List FileMatch) (Unit {0}) (Unit {0}) now now c.from_residual.result fault (with_name made word k c.number_of.result) whole (answer.1 ∙ ap (λ (f : TextFault). Err f) answer.2) c.in_err-add_name.ensures
    (λ fails. left_at (λ (m : List FileMatch × ℕ) (bs : List BlockSyntax). with_names find word m.0 (block_names m.1 bs)) blocks_syntax (made, k) c.each.rest.now before b whole (Err fault) c.in-Some.ensures.cases.0
    (name_refused find word made k before b fault (ap (with_name made word k) (sym c.number_of.ensures) ∙ fails)) c.each.invariant.named)

pub returns : goal.returns
returns c =
    let find = get_by_text c.args.after.now in
    let word = parts_of_token c.args.word.now in
    ended (λ (m : List FileMatch × ℕ) (bs : List BlockSyntax). with_names find word m.0 (block_names m.1 bs)) blocks_syntax (matches_parts c.each.matches.items, length c.args.blocks.now - length c.each.rest.now) c.each.rest.now (with_names find word (matches_parts c.args.matches.now.items) (block_names 0 (blocks_syntax c.args.blocks.now))) c.in_default.ensures.cases blocks_none c.each.invariant.named
