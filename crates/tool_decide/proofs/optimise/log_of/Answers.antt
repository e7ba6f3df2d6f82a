use Rattle.std.proofs.Common.{◌≡◌, ap, subst}
use Rattle.while_lang.specs.Files.{FileParts}
use Rattle.text_parser.specs.ScopeParts.{ScopeParts}
use Rattle.tool_decide.specs.LogTexts.{optimised_text}
use Rattle.tool_decide.proofs.optimise.log_of.Goals as goal

pub returns : goal.returns
returns c =
    let o = c.in_ok-optimised.optimised in
    let e = c.in_ok-optimised.ensures in
    record {
      log = o.log.items;
      ended = o.ended;
      prog = o.prog;
      is_optimised = record { is_log = e.log; within = e.within; done = e.done; limit = e.limit; in_tables = e.kept_in_tables; from_stores = e.kept_from_stores };
      printed = subst (λ (w : ScopeParts). c.in_ok-text.text.items ≡ optimised_text w c.args.name.now o.log.items o.ended o.prog) (ap (λ (f : FileParts). f.scope) c.file.view_is) c.in_ok-text.ensures;
    }
