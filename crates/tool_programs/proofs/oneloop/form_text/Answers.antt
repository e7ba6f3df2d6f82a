use Rattle.std.proofs.Common.{ℕ, ◌+◌, List, string_bytes, sym, ap, ◌∙◌, subst}
use Rattle.std.proofs.lemmas.Result.{IfOk-weaker}
use Rattle.text_parser.specs.declared.meaning.Meaning.TheVariants.{Var}
use Rattle.text_parser.specs.ScopeParts.{ScopeParts, IsIdentifier, IsUndeclared, declared}
use Rattle.text_print.specs.Printing.{name_of}
use Rattle.problem_file.specs.ProgramTexts.{one_program_text}
use Rattle.tool_programs.specs.Working.Counters.{counter_identifier}
use Rattle.tool_programs.proofs.oneloop.form_text.Goals as goal

pub declare-requires-clause-identifier : goal.declare-requires-clause-identifier
declare-requires-clause-identifier c = subst IsIdentifier (sym c.as_str.ensures.value) (counter_identifier _ _ c.in_ok-counter.ensures.name)

pub declare-requires-clause-undeclared : goal.declare-requires-clause-undeclared
declare-requires-clause-undeclared c = subst (IsUndeclared c.args.scope.now) (sym c.as_str.ensures.value) c.in_ok-counter.ensures.name.is_new

pub returns : goal.returns
returns c =
    IfOk-weaker c.one_program_text.result _ _
    (λ v e. (
      string_bytes c.in_ok-counter.counter,
      c.in_ok-counter.ensures.name,
      c.in_ok-counter.ensures.well_formed,
      e
          ∙ ap (λ (w : ScopeParts). one_program_text (name_of w) c.args.width (c.args.vars + 1) c.args.name.now c.args.form.now)
          (c.in_ok-declare.ensures ∙ ap (λ (n : List ℕ). declared c.args.scope.now n (Var c.args.vars)) c.as_str.ensures.value),
    ))
    c.one_program_text.ensures
