use Rattle.std.proofs.Common.{◌≡◌, map, ap, ◌∙◌}
use Rattle.text_parser.specs.ScopeParts.{ScopeParts, defined}
use Rattle.text_parser.specs.Definitions.{definition_of}
use Rattle.text_parser.proofs.ScopeLemmas.{world_pushed, defined_pushed, next_pushed}
use Rattle.text_parser.proofs.scope.Scope.define_term.Goals as goal

pub insert-requires-clause-unnamed : goal.insert-requires-clause-unnamed
insert-requires-clause-unnamed c =
    next_pushed c.self.inside.names c.self.inside.definitions.items c.len.result
    (c.len.ensures ∙ c.reserve.ensures.len ∙ c.self.inside.definitions.ok.0) c.self.invariant

pub returns-then-is_err-clause-err : goal.returns-then-is_err-clause-err
returns-then-is_err-clause-err c =
    let same : record { meanings = c.self.inside.names; terms = map definition_of c.reserve.new.self.items } ≡ c.args.self.now = rw (c.reserve.ensures.items) c.self.view_is in
    same

pub invariant_of-self-2 : goal.invariant_of-self-2
invariant_of-self-2 c =
    rw (c.in_ok-insert.ensures.ok, c.push_reserved.ensures.items, c.reserve.ensures.items)
    (world_pushed c.self.inside.names c.self.inside.definitions.items c.args.name.now.text.now c.new.result c.len.result
    (c.len.ensures ∙ c.reserve.ensures.len ∙ c.self.inside.definitions.ok.0) c.self.invariant (record { name = c.requires.name; no_keyword = c.requires.no_keyword }))

pub returns-clause-ok : goal.returns-clause-ok
returns-clause-ok c =
    let name = c.args.name.now.text.now in
    let more : record { meanings = c.insert.new.self; terms = map definition_of c.push_reserved.new.self.items } ≡ defined c.args.self.now name (definition_of c.new.result) =
    rw (c.in_ok-insert.ensures.ok, c.push_reserved.ensures.items, c.reserve.ensures.items)
    (defined_pushed c.self.inside.names c.self.inside.definitions.items name c.new.result c.len.result c.args.self.now
    (c.len.ensures ∙ c.reserve.ensures.len ∙ c.self.inside.definitions.ok.0) c.self.view_is) in
    more ∙ ap (defined c.args.self.now name) c.new.ensures
