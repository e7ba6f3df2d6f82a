use Rattle.std.proofs.Common.{◌≡◌, ◌+◌, drop, refl, sym, subst}
use Rattle.text_parser.specs.declared.terminal.Keyword.TheVariants as word
use Rattle.text_parser.specs.Lexemes.{lexemes, text_at}
use Rattle.problem_file.specs.Working.Walks.{StepEnds}
use Rattle.problem_file.proofs.ItemParts.{test_seen, action_seen, var_seen, term_seen, prog_seen, hyp_seen, rounds_seen, width_seen, goal_seen}
use Rattle.problem_file.proofs.items.read_item.Goals as goal

pub returns-in_default-clause-value : goal.returns-in_default-clause-value
returns-in_default-clause-value g c = rw (c.syntax_fault_at.ensures, c.in_default.ensures.0) refl

pub returns-in-Keyword-Test-clause-value : goal.returns-in-Keyword-Test-clause-value
returns-in-Keyword-Test-clause-value g c =
    let all = lexemes c.args.toks.now in
    let k : c.in-Keyword-Test.field-0 ≡ word.Test = rw (c.in-Keyword-Test.is) at c.in-Keyword-Test.field-0-is in
    subst (λ m. StepEnds g.R.ItemReading.memory all c.read_declaration.result (g.R.ItemReading.state c.read_declaration.new.reading) m)
    (sym (test_seen g.R.ItemReading.actions (g.R.ItemReading.state c.args.reading.now) c.in-Some.at (text_at c.args.toks.now c.args.from) (drop c.args.from all) (drop (c.args.from + 1) all) c.in-Some.terminal c.in-Some.ensures.0 c.in-Keyword-Test.field-0 c.in-Keyword-Test.is k))
    c.read_declaration.ensures.value

pub returns-in-Keyword-Action-clause-value : goal.returns-in-Keyword-Action-clause-value
returns-in-Keyword-Action-clause-value g c =
    let all = lexemes c.args.toks.now in
    let k : c.in-Keyword-Action.field-0 ≡ word.Action = rw (c.in-Keyword-Action.is) at c.in-Keyword-Action.field-0-is in
    subst (λ m. StepEnds g.R.ItemReading.memory all c.read_declaration-in-Keyword-Action.result (g.R.ItemReading.state c.read_declaration-in-Keyword-Action.new.reading) m)
    (sym (action_seen g.R.ItemReading.actions (g.R.ItemReading.state c.args.reading.now) c.in-Some.at (text_at c.args.toks.now c.args.from) (drop c.args.from all) (drop (c.args.from + 1) all) c.in-Some.terminal c.in-Some.ensures.0 c.in-Keyword-Action.field-0 c.in-Keyword-Action.is k))
    c.read_declaration-in-Keyword-Action.ensures.value

pub returns-in-Keyword-Var-clause-value : goal.returns-in-Keyword-Var-clause-value
returns-in-Keyword-Var-clause-value g c =
    let all = lexemes c.args.toks.now in
    let k : c.in-Keyword-Var.field-0 ≡ word.Var = rw (c.in-Keyword-Var.is) at c.in-Keyword-Var.field-0-is in
    subst (λ m. StepEnds g.R.ItemReading.memory all c.read_declaration-in-Keyword-Var.result (g.R.ItemReading.state c.read_declaration-in-Keyword-Var.new.reading) m)
    (sym (var_seen g.R.ItemReading.actions (g.R.ItemReading.state c.args.reading.now) c.in-Some.at (text_at c.args.toks.now c.args.from) (drop c.args.from all) (drop (c.args.from + 1) all) c.in-Some.terminal c.in-Some.ensures.0 c.in-Keyword-Var.field-0 c.in-Keyword-Var.is k))
    c.read_declaration-in-Keyword-Var.ensures.value

pub returns-in-Keyword-Term-clause-value : goal.returns-in-Keyword-Term-clause-value
returns-in-Keyword-Term-clause-value g c =
    let all = lexemes c.args.toks.now in
    let k : c.in-Keyword-Term.field-0 ≡ word.Term = rw (c.in-Keyword-Term.is) at c.in-Keyword-Term.field-0-is in
    subst (λ m. StepEnds g.R.ItemReading.memory all c.read_definition.result (g.R.ItemReading.state c.read_definition.new.reading) m)
    (sym (term_seen g.R.ItemReading.actions (g.R.ItemReading.state c.args.reading.now) c.in-Some.at (text_at c.args.toks.now c.args.from) (drop c.args.from all) (drop (c.args.from + 1) all) c.in-Some.terminal c.in-Some.ensures.0 c.in-Keyword-Term.field-0 c.in-Keyword-Term.is k))
    c.read_definition.ensures.value

pub returns-in-Keyword-Prog-clause-value : goal.returns-in-Keyword-Prog-clause-value
returns-in-Keyword-Prog-clause-value g c =
    let all = lexemes c.args.toks.now in
    let k : c.in-Keyword-Prog.field-0 ≡ word.Prog = rw (c.in-Keyword-Prog.is) at c.in-Keyword-Prog.field-0-is in
    subst (λ m. StepEnds g.R.ItemReading.memory all c.read_prog.result (g.R.ItemReading.state c.read_prog.new.reading) m)
    (sym (prog_seen g.R.ItemReading.actions (g.R.ItemReading.state c.args.reading.now) c.in-Some.at (text_at c.args.toks.now c.args.from) (drop c.args.from all) (drop (c.args.from + 1) all) c.in-Some.terminal c.in-Some.ensures.0 c.in-Keyword-Prog.field-0 c.in-Keyword-Prog.is k))
    c.read_prog.ensures.value

pub returns-in-Keyword-Hyp-clause-value : goal.returns-in-Keyword-Hyp-clause-value
returns-in-Keyword-Hyp-clause-value g c =
    let all = lexemes c.args.toks.now in
    let k : c.in-Keyword-Hyp.field-0 ≡ word.Hyp = rw (c.in-Keyword-Hyp.is) at c.in-Keyword-Hyp.field-0-is in
    subst (λ m. StepEnds g.R.ItemReading.memory all c.read_hyp.result (g.R.ItemReading.state c.read_hyp.new.reading) m)
    (sym (hyp_seen g.R.ItemReading.actions (g.R.ItemReading.state c.args.reading.now) c.in-Some.at (text_at c.args.toks.now c.args.from) (drop c.args.from all) (drop (c.args.from + 1) all) c.in-Some.terminal c.in-Some.ensures.0 c.in-Keyword-Hyp.field-0 c.in-Keyword-Hyp.is k))
    c.read_hyp.ensures.value

pub returns-in-Keyword-Rounds-clause-value : goal.returns-in-Keyword-Rounds-clause-value
returns-in-Keyword-Rounds-clause-value g c =
    let all = lexemes c.args.toks.now in
    let k : c.in-Keyword-Rounds.field-0 ≡ word.Rounds = rw (c.in-Keyword-Rounds.is) at c.in-Keyword-Rounds.field-0-is in
    subst (λ m. StepEnds g.R.ItemReading.memory all c.read_setting.result (g.R.ItemReading.state c.read_setting.new.reading) m)
    (sym (rounds_seen g.R.ItemReading.actions (g.R.ItemReading.state c.args.reading.now) c.in-Some.at (text_at c.args.toks.now c.args.from) (drop c.args.from all) (drop (c.args.from + 1) all) c.in-Some.terminal c.in-Some.ensures.0 c.in-Keyword-Rounds.field-0 c.in-Keyword-Rounds.is k))
    c.read_setting.ensures.value

pub returns-in-Keyword-Width-clause-value : goal.returns-in-Keyword-Width-clause-value
returns-in-Keyword-Width-clause-value g c =
    let all = lexemes c.args.toks.now in
    let k : c.in-Keyword-Width.field-0 ≡ word.Width = rw (c.in-Keyword-Width.is) at c.in-Keyword-Width.field-0-is in
    subst (λ m. StepEnds g.R.ItemReading.memory all c.read_setting-in-Keyword-Width.result (g.R.ItemReading.state c.read_setting-in-Keyword-Width.new.reading) m)
    (sym (width_seen g.R.ItemReading.actions (g.R.ItemReading.state c.args.reading.now) c.in-Some.at (text_at c.args.toks.now c.args.from) (drop c.args.from all) (drop (c.args.from + 1) all) c.in-Some.terminal c.in-Some.ensures.0 c.in-Keyword-Width.field-0 c.in-Keyword-Width.is k))
    c.read_setting-in-Keyword-Width.ensures.value

pub returns-in-Keyword-Goal-clause-value : goal.returns-in-Keyword-Goal-clause-value
returns-in-Keyword-Goal-clause-value g c =
    let all = lexemes c.args.toks.now in
    let k : c.in-Keyword-Goal.field-0 ≡ word.Goal = rw (c.in-Keyword-Goal.is) at c.in-Keyword-Goal.field-0-is in
    subst (λ m. StepEnds g.R.ItemReading.memory all c.read_goal.result (g.R.ItemReading.state c.read_goal.new.reading) m)
    (sym (goal_seen g.R.ItemReading.actions (g.R.ItemReading.state c.args.reading.now) c.in-Some.at (text_at c.args.toks.now c.args.from) (drop c.args.from all) (drop (c.args.from + 1) all) c.in-Some.terminal c.in-Some.ensures.0 c.in-Keyword-Goal.field-0 c.in-Keyword-Goal.is k))
    c.read_goal.ensures.value
