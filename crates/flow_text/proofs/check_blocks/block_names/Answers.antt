use Rattle.std.proofs.Common.{◌≡◌, ℕ, ◌+◌, ◌-◌, List, length, take, arith, subst, ap, ◌∙◌, take_all}
use mathlib.Core.Path.{fun_ext}
use Rattle.std.specs.BTreeMap.{get_by_text}
use Rattle.flow_text.specs.Checking.{found, block_names}
use Rattle.flow_syntax.specs.SyntaxViews.{blocks_syntax}
use Rattle.flow_text.proofs.BlockLists.{none_found, name_found}
use Rattle.flow_text.proofs.check_blocks.block_names.Goals as goal

pub loop-block-init : goal.loop-block-init
loop-block-init c = record {
  numbered = omega arith;
  known = λ text. none_found c.new.result (length c.args.blocks.now) text c.new.ensures.empty;
}

pub loop-block-preserved : goal.loop-block-preserved
loop-block-preserved c =
    let bs = c.args.blocks.now in
    let i = c.loop-block.block-index in
    let k : ℕ = c.loop-block.number - 1 in
    let back : c.loop-block.number ≡ k + 1 = omega (arith, c.loop-block.invariant.numbered, c.loop-block-test.true) in
    record {
      numbered = omega (arith, c.loop-block.invariant.numbered, c.loop-block-test.true);
      known = name_found bs i k c.block-item.result c.loop-block.names.numbers c.insert.new.self c.in_ok-name.name c.loop-block-test.true c.block-item.is c.in_ok-name.ensures.ok c.in_ok-insert.ensures.updates
          (subst (λ n. (text : List ℕ) → get_by_text c.loop-block.names.numbers text ≡ found (block_names n (blocks_syntax (take i bs))) text) back c.loop-block.invariant.known);
    }

pub returns : goal.returns
returns c =
    let bs = c.args.blocks.now in
    let none : c.loop-block.number ≡ 0 = omega (arith, c.loop-block.invariant.numbered) in
    fun_ext (λ (text : List ℕ).
    c.loop-block.invariant.known text ∙ ap (λ n. found (block_names n (blocks_syntax (take c.loop-block.block-index bs))) text) none
    ∙ ap (λ cs. found (block_names 0 (blocks_syntax cs)) text) (take_all c.loop-block.block-index bs (omega arith)))
