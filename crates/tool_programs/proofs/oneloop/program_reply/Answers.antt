use Rattle.std.proofs.Common.{◌<◌, inl, inr, refl, sym, ap, subst, rules}
use Rattle.kat_model.specs.declared.limits.TheConstants.{MAX_VARS}
use Rattle.text_parser.specs.declared.meaning.Meaning.TheVariants.{Var}
use Rattle.text_parser.specs.ScopeParts.{IsUnnamed}
use Rattle.while_lang.specs.Files.{FileParts}
use Rattle.tool_programs.specs.OneLoop.{HasNoForm, FormsFile}
use Rattle.tool_inputs.specs.Steps.{IsRefusal}
use Rattle.tool_inputs.specs.ReplySpecs.{RepliesWith}
use Rattle.tool_inputs.proofs.ReplySpecs.{RepliesWith-weaker}
use Rattle.tool_programs.specs.Working.NamedPrograms.{fit_concrete, named_below}
use Rattle.tool_programs.specs.Working.OneLoopReplies.{place_free, form_printed}
use Rattle.tool_programs.proofs.oneloop.program_reply.Goals as goal

pub form_of-requires-clause-concrete : goal.form_of-requires-clause-concrete
form_of-requires-clause-concrete c = fit_concrete c.args.file.now c.args.name.now c.in-Some.prog.now (sym c.in-Some.ensures)

pub form_of-requires-clause-variables : goal.form_of-requires-clause-variables
form_of-requires-clause-variables c = named_below c.args.file.now c.requires.numbered c.args.name.now c.in-Some.prog.now (sym c.in-Some.ensures)

pub form_of-requires-clause-within : goal.form_of-requires-clause-within
form_of-requires-clause-within c = c.requires.numbered.vars

pub form_text-requires-clause-unnamed : goal.form_text-requires-clause-unnamed
form_text-requires-clause-unnamed c = subst (λ (f : FileParts). IsUnnamed f.scope (Var f.vars)) (sym c.file.view_is) c.requires.unnamed

pub form_text-requires-clause-place : goal.form_text-requires-clause-place
form_text-requires-clause-place c =
    let place = place_free c.args.file.now c.in-Some.prog.now c.in_ok-form.ensures.0 c.requires.numbered.vars in
    subst (λ (f : FileParts). f.vars < MAX_VARS) (sym c.file.view_is) place

pub returns-in_err-form : goal.returns-in_err-form
returns-in_err-form c =
    let p = c.in-Some.prog.now in
    let r : RepliesWith (IsRefusal (HasNoForm c.args.file.now p)) c.from_residual.result = search rules in
    RepliesWith-weaker (IsRefusal (HasNoForm c.args.file.now p)) (FormsFile c.args.file.now c.args.name.now) (λ status output h. inr (p, sym c.in-Some.ensures, inl h)) c.from_residual.result r

pub returns : goal.returns
returns c =
    let p = c.in-Some.prog.now in
    inr (
      p,
      sym c.in-Some.ensures,
      inr (
        refl,
        c.in_ok-form.ensures.0,
        form_printed c.args.file.now c.file.inside.scope c.file.inside.vars c.file.inside.width c.args.name.now p c.in_ok-form.form c.in_ok-form_text.field-0.items
            (ap (λ (f : FileParts). f.scope) c.file.view_is) (ap (λ (f : FileParts). f.vars) c.file.view_is) (ap (λ (f : FileParts). f.width) c.file.view_is)
            c.in_ok-form.ensures.1 c.in_ok-form.ensures.2 c.in_ok-form_text.ensures,
      ),
    )
