use Rattle.std.proofs.Common.{◌≡◌, ◌++◌, ℕ, List, sym, ap, ◌∙◌, append_assoc, rules}
use Rattle.std.proofs.lemmas.Result.{on_ok_weaker}
use Rattle.std.specs.Prelude.{codes}
use Rattle.text_parser.specs.declared.meaning.Meaning.{Meaning}
use Rattle.text_print.specs.Printing.{name_of}
use Rattle.while_lang.specs.Programs.{ProgTree}
use Rattle.problem_file.specs.ProgramTexts.{prog_text}
use Rattle.while_lang.specs.BlockTexts.{block_text}
use Rattle.while_lang.proofs.PrintedPieces.{block_spelled}
use Rattle.problem_file.proofs.program_writing.put_prog.Goals as goal

joined : (out x name y block z : List ℕ) → out ++ x ++ name ++ y ++ block ++ z ≡ out ++ (x ++ name ++ y ++ block ++ z)
joined out x name y block z = simp append_assoc

prog_written : (names : Meaning → List ℕ) (name : List ℕ) (p : ProgTree) (out a b c d e bytes : List ℕ) → bytes ≡ name → a ≡ out ++ codes "prog " → b ≡ a ++ bytes → c ≡ b ++ codes " " → d ≡ c ++ block_text names p → e ≡ d ++ codes "\n" → e ≡ out ++ prog_text names name p
prog_written names name p out a b c d e bytes same h0 h1 h2 h3 h4 =
    let text : prog_text names name p ≡ codes "prog " ++ name ++ codes " " ++ block_text names p ++ codes "\n" = ap (λ (l : List ℕ). codes "prog " ++ name ++ codes " " ++ l ++ codes "\n") (block_spelled names p) in
    rw (h4, h3, h2, h1, h0, same) (joined out (codes "prog ") name (codes " ") (block_text names p) (codes "\n") ∙ ap (λ (l : List ℕ). out ++ l) (sym text))

pub returns : goal.returns
returns c =
    on_ok_weaker c.put-4.result
    (prog_written (name_of c.args.scope.now) c.args.name.now c.args.prog.now c.args.out.now.items c.put.new.out.items c.put-2.new.out.items c.put-3.new.out.items c.put_block.new.out.items c.put-4.new.out.items c.as_bytes.result.now
    (search rules) c.in_ok-put.ensures c.in_ok-put-2.ensures c.in_ok-put-3.ensures c.in_ok-put_block.ensures)
    c.put-4.ensures
