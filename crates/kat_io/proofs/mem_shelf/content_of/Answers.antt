use Rattle.std.proofs.Common.{sym, ap, ◌∙◌, Some, Vec, ℕ}
use Rattle.std.specs.Option.{option_map}
use Rattle.std.specs.declared.alloc.Global.{Global}
use Rattle.kat_io.proofs.Entries.{get-contents_of}
use Rattle.kat_io.proofs.mem_shelf.content_of.Goals as goal

pub returns-in-Some : goal.returns-in-Some
returns-in-Some c = ap Some c.as_slice.ensures.value ∙ ap (option_map (λ (v : Vec ℕ Global). v.items)) c.in-Some.ensures.value ∙ sym (get-contents_of c.args.files.now c.args.name.now)

pub returns-in-None : goal.returns-in-None
returns-in-None c = ap (option_map (λ (v : Vec ℕ Global). v.items)) c.in-None.ensures.value ∙ sym (get-contents_of c.args.files.now c.args.name.now)
