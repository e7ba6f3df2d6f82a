use Rattle.std.proofs.Common.{◌≡◌, ◌++◌, drop}
use Rattle.text_print.specs.Printing.{name_of}
use Rattle.while_lang.specs.ProgramViews.{list_tree}
use Rattle.while_lang.specs.BlockTexts.{stmts_text}
use Rattle.while_lang.proofs.print.+prints.Given as goal

-- the text so far and that of the remaining statements are the whole text
abbrev pub invariant-put_block-loop-stmt : goal.invariant-put_block-loop-stmt
invariant-put_block-loop-stmt l =
    l.out.items ++ stmts_text (name_of l.scope) (list_tree (drop l.stmt-index l.stmt-items)) ≡ l.initial.out.items ++ stmts_text (name_of l.scope) (list_tree l.stmt-items)
