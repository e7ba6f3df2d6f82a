use Rattle.std.proofs.Common.{ℕ, List, map, Option, Err, sym, ap, ◌∙◌}
use Rattle.std.specs.Prelude.{Vec}
use Rattle.std.specs.declared.alloc.Global.{Global}
use Rattle.std.specs.BTreeMap.{get_by_text}
use Rattle.std.proofs.lemmas.Result.{err_from_is_err_and}
use Rattle.text_parser.specs.declared.fault.TextFault.{TextFault}
use Rattle.flow_text.specs.declared.matches.FileMatch.{FileMatch as AFileMatch}
use Rattle.flow_text.specs.Matches.{FileMatch}
use Rattle.flow_text.specs.Checking.{found, block_names, next_matches, matches_between}
use Rattle.flow_text.specs.MatchViews.{matches_parts}
use Rattle.flow_text.specs.KnownViews.{given_match_of}
use Rattle.flow_text.specs.ScopeViews.{scope_parts}
use Rattle.flow_syntax.specs.SyntaxViews.{blocks_syntax}
use Rattle.flow_text.proofs.ProgramResults.{fault_given}
use Rattle.flow_text.proofs.MatchSteps.{matches_turn, matches_fault, no_match}
use Rattle.flow_text.proofs.matches.matches_between.Goals as goal

pub loop-item-preserved : goal.loop-item-preserved
loop-item-preserved c =
    let s = scope_parts c.args.scope.now in
    let bs = blocks_syntax c.args.blocks.now in
    let cs = blocks_syntax c.args.others.now in
    let names = block_names 0 bs in
    let made = matches_parts c.loop-item.matches.items in
    let now = matches_parts c.add_matches.new.matches.items in
    let x = c.item-item.result in
    matches_turn s names (found names) (found (block_names 0 cs)) made now c.args.written.now c.loop-item.item-index x (matches_between s bs cs (map given_match_of c.args.written.now)) c.loop-item-test.true c.item-item.is
    (ap (λ (f : List ℕ → Option ℕ). next_matches s names f (found (block_names 0 cs)) made (given_match_of x)) (sym c.in_ok-first.ensures)
    ∙ ap (λ (f : List ℕ → Option ℕ). next_matches s names (get_by_text c.in_ok-first.first.numbers) f made (given_match_of x)) (sym c.in_ok-second.ensures)
    ∙ c.in_ok-add_matches.ensures)
    c.loop-item.invariant

pub returns-in_err-add_matches : goal.returns-in_err-add_matches
returns-in_err-add_matches c =
    let s = scope_parts c.args.scope.now in
    let bs = blocks_syntax c.args.blocks.now in
    let cs = blocks_syntax c.args.others.now in
    let names = block_names 0 bs in
    let made = matches_parts c.loop-item.matches.items in
    let now = matches_parts c.add_matches.new.matches.items in
    let x = c.item-item.result in
    let first = get_by_text c.in_ok-first.first.numbers in
    let second = get_by_text c.in_ok-second.second.numbers in
    let fault = c.in_err-add_matches.field-0.0 in
    let whole = matches_between s bs cs (map given_match_of c.args.written.now) in
    let answer = err_from_is_err_and c.from_residual-in_err-add_matches.result c.from_residual-in_err-add_matches.ensures.1 in
    fault_given (List FileMatch) (Unit {0}) (λ (v : Vec AFileMatch Global). matches_parts v.items) now c.from_residual-in_err-add_matches.result fault (next_matches s names first second made (given_match_of x)) whole (answer.1 ∙ ap (λ (f : TextFault). Err f) answer.2) c.in_err-add_matches.ensures
    (λ fails. matches_fault s names (found names) (found (block_names 0 cs)) made c.args.written.now c.loop-item.item-index x fault whole c.loop-item-test.true c.item-item.is c.loop-item.invariant
    (ap (λ (f : List ℕ → Option ℕ). next_matches s names f (found (block_names 0 cs)) made (given_match_of x)) (sym c.in_ok-first.ensures)
    ∙ ap (λ (f : List ℕ → Option ℕ). next_matches s names first f made (given_match_of x)) (sym c.in_ok-second.ensures) ∙ fails))

pub returns : goal.returns
returns c =
    let s = scope_parts c.args.scope.now in
    let bs = blocks_syntax c.args.blocks.now in
    let cs = blocks_syntax c.args.others.now in
    let names = block_names 0 bs in
    no_match s names (found names) (found (block_names 0 cs)) (matches_parts c.loop-item.matches.items) c.args.written.now c.loop-item.item-index (matches_between s bs cs (map given_match_of c.args.written.now)) c.loop-item-test.false c.loop-item.invariant
