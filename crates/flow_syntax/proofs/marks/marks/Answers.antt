use Rattle.text_parser.specs.TokenParts.{parts_of_tokens}
use Rattle.flow_syntax.specs.Marks.{marks_of}
use Rattle.flow_syntax.proofs.MarkLists.{marks_turn, marks_ended}
use Rattle.flow_syntax.proofs.marks.marks.Goals as goal

pub tokens-preserved : goal.tokens-preserved
tokens-preserved c =
    marks_turn c.tokens.context c.context_after-context.result c.tokens.marks.items _ c.mark_at-mark.result c.tokens.rest.now c.in-Some.later.now c.in-Some.token.now (marks_of (parts_of_tokens c.args.toks.now))
    c.in-Some.ensures.cases.0 c.mark_at-mark.ensures c.in_ok-append.ensures c.context_after-context.ensures c.tokens.invariant

pub returns : goal.returns
returns c =
    marks_ended c.tokens.context c.tokens.marks.items c.tokens.rest.now (marks_of (parts_of_tokens c.args.toks.now)) c.in_default.ensures.cases c.tokens.invariant
