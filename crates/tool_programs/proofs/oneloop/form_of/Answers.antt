use Rattle.std.proofs.Common.{◌≤◌, sym, subst}
use Rattle.kat_model.specs.declared.limits.TheConstants.{MAX_VARS}
use Rattle.one_loop.specs.Forms.{IsOneForm}
use Rattle.one_loop.specs.Sizes.{IsSmallForm}
use Rattle.while_lang.specs.Files.{FileParts}
use Rattle.tool_programs.specs.OneLoop.{HasForm, HasNoForm}
use Rattle.tool_inputs.specs.Steps.{IsRefusal}
use Rattle.tool_inputs.specs.ReplySpecs.{EndsWith}
use Rattle.tool_programs.specs.Working.OneLoopReplies.{has_form, fault_refused}
use Rattle.tool_programs.proofs.oneloop.form_of.Goals as goal

pub returns-in-Ok : goal.returns-in-Ok
returns-in-Ok c =
    subst (λ (f : FileParts). HasForm f c.args.prog.now × IsOneForm f.width c.args.prog.now c.in-Ok.form f.vars × IsSmallForm c.args.prog.now c.in-Ok.form) c.file.view_is
    (has_form _ c.args.prog.now c.one_loop.result c.one_loop.ensures.too_many_vars c.one_loop.ensures.too_many_statements c.in-Ok.form c.in-Ok.is (subst (λ (f : FileParts). f.vars ≤ MAX_VARS) (sym c.file.view_is) c.requires.within), c.in-Ok.ensures.form, c.in-Ok.ensures.small)

pub returns-in-Err : goal.returns-in-Err
returns-in-Err c =
    subst (λ (f : FileParts). EndsWith (IsRefusal (HasNoForm f c.args.prog.now)) c.fault_end.result) c.file.view_is
    (fault_refused _ c.args.prog.now c.one_loop.result c.one_loop.ensures.too_many_vars c.one_loop.ensures.too_many_statements c.in-Err.fault c.fault_end.result c.in-Err.is c.fault_end.ensures)
