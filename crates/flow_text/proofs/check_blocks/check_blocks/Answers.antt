use Rattle.std.proofs.Common.{◌≡◌, ◌-◌, Bor, List, [], ◌∷◌, ◌++◌, length, take, Err, sym, ap, subst, ◌∙◌, arith}
use Rattle.std.specs.Prelude.{Vec}
use Rattle.std.specs.declared.alloc.Global.{Global}
use Rattle.std.proofs.lemmas.Result.{err_from_is_err_and}
use Rattle.text_parser.specs.declared.fault.TextFault.{TextFault}
use Rattle.std.specs.BTreeMap.{get_by_text}
use Rattle.std.specs.Option.{option_map}
use Rattle.flow_model.specs.declared.sort.Sort.{Sort}
use Rattle.flow_model.specs.declared.graph.Block.{Block}
use Rattle.flow_text.specs.Trees.{block_of, graph_of}
use Rattle.flow_text.specs.Checking.{next_block, blocks_after}
use Rattle.flow_text.specs.ScopeViews.{sight_parts}
use Rattle.flow_syntax.specs.SyntaxViews.{block_syntax, blocks_syntax}
use Rattle.flow_syntax.proofs.Stacked.{blocks_none}
use Rattle.flow_text.proofs.LastTaken.{kept, left_at, ended}
use Rattle.flow_text.proofs.ProgramResults.{fault_seen}
use Rattle.flow_text.proofs.GraphSteps.{block_made, block_refused}
use Rattle.flow_text.proofs.check_blocks.check_blocks.Goals as goal

pub each-preserved : goal.each-preserved
each-preserved c =
    let s = sight_parts c.args.visible_names.now in
    let results = option_map (λ (r : Bor (List Sort)). r.now) c.args.results in
    let find = get_by_text c.args.names.now in
    let made = c.each.checked.items in
    let rest = c.each.rest.now in
    let before = c.in-Some.field-0-1.now in
    let next = made ++ c.in_ok-block.block ∷ [] in
    let whole = blocks_after s results find [] (blocks_syntax c.args.blocks.now) in
    let count : length made ≡ c.len.result = omega (arith, c.len.ensures, c.each.checked.ok.0) in
    subst (λ (l : List Block). blocks_after s results find (graph_of l) (blocks_syntax (take (length rest - 1) rest)) ≡ whole) (sym c.in_ok-append.ensures)
    (kept (blocks_after s results find) blocks_syntax (graph_of made) (graph_of next) rest before c.in-Some.block.now whole c.in-Some.ensures.cases.0
    (block_made s results find made c.len.result before c.in-Some.block.now c.in_ok-block.block count c.in_ok-block.ensures) c.each.invariant)

pub returns-in_err-block : goal.returns-in_err-block
returns-in_err-block c =
    let s = sight_parts c.args.visible_names.now in
    let results = option_map (λ (r : Bor (List Sort)). r.now) c.args.results in
    let find = get_by_text c.args.names.now in
    let made = c.each.checked.items in
    let before = c.in-Some.field-0-1.now in
    let fault = c.in_err-block.field-0.0 in
    let whole = blocks_after s results find [] (blocks_syntax c.args.blocks.now) in
    let count : length made ≡ c.len.result = omega (arith, c.len.ensures, c.each.checked.ok.0) in
    let answer = err_from_is_err_and c.from_residual.result c.from_residual.ensures.1 in
    fault_seen (λ (v : Vec Block Global). graph_of v.items) block_of c.from_residual.result fault (next_block s results find c.len.result (block_syntax c.in-Some.block.now)) whole (answer.1 ∙ ap (λ (f : TextFault). Err f) answer.2) c.in_err-block.ensures
    (λ fails. left_at (blocks_after s results find) blocks_syntax (graph_of made) c.each.rest.now before c.in-Some.block.now whole (Err fault) c.in-Some.ensures.cases.0
    (block_refused s results find made c.len.result before c.in-Some.block.now fault count fails) c.each.invariant)

pub returns : goal.returns
returns c =
    let s = sight_parts c.args.visible_names.now in
    let results = option_map (λ (r : Bor (List Sort)). r.now) c.args.results in
    let find = get_by_text c.args.names.now in
    ended (blocks_after s results find) blocks_syntax (graph_of c.each.checked.items) c.each.rest.now (blocks_after s results find [] (blocks_syntax c.args.blocks.now)) c.in_default.ensures.cases blocks_none c.each.invariant
