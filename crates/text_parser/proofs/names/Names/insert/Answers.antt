use Rattle.std.proofs.Common.{◌≡◌, ap, ◌∙◌, subst}
use Rattle.std.specs.FinMap.{get, insert}
use Rattle.text_parser.specs.ScopeParts.{Meanings, meanings_of}
use Rattle.text_parser.specs.Working.Names.{text_of, AreInverse}
use Rattle.text_parser.proofs.MeaningEntries.{meanings_of-insert}
use Rattle.text_parser.proofs.Inverse.{inverse_more, inverse_same, inverse_none, insert_extends, text_extends, text_of-unchanged, text_of-removed}
use Rattle.text_parser.proofs.names.Names.insert.Goals as goal

pub invariant_of-self : goal.invariant_of-self
invariant_of-self c = inverse_same _ (text_of c.self.inside.texts) _ c.self.invariant (text_of-unchanged c.self.inside.texts c.insert.new.self c.in_err-insert.ensures.err)

pub invariant_of-self-in-Ok : goal.invariant_of-self-in-Ok
invariant_of-self-in-Ok c =
    let old = c.self.inside in
    let now = c.args.self.now in
    let name = c.args.name.now in
    let inverse = subst (λ (m : Meanings). AreInverse (get m) (text_of old.texts)) c.self.view_is c.self.invariant in
    let inserted : meanings_of c.insert-2.new.self.entries ≡ insert now name c.args.meaning = meanings_of-insert old.meanings c.insert-2.new.self c.in_ok-key.key c.args.meaning name c.in_ok-key.ensures.ok c.in-Ok.ensures.updates ∙ ap (λ (m : Meanings). insert m name c.args.meaning) c.self.view_is in
    rw inserted
    (inverse_more (get now) _ (text_of old.texts) _ name c.args.meaning inverse c.requires.new_name (inverse_none (get now) (text_of old.texts) c.args.meaning inverse c.requires.unnamed)
    (insert_extends now name c.args.meaning)
    (text_extends old.texts c.insert.new.self c.args.meaning c.in_ok-text.text name c.in_ok-text.ensures.ok c.in_ok-insert.ensures.updates))

pub invariant_of-self-in_default : goal.invariant_of-self-in_default
invariant_of-self-in_default c =
    let old = c.self.inside in
    let now = c.args.self.now in
    let inverse = subst (λ (m : Meanings). AreInverse (get m) (text_of old.texts)) c.self.view_is c.self.invariant in
    rw c.in_default.ensures.err
    (inverse_same (get (meanings_of old.meanings.entries)) (text_of old.texts) _ c.self.invariant
    (text_of-removed old.texts c.insert.new.self c.remove.new.self c.args.meaning c.in_ok-text.text (inverse_none (get now) (text_of old.texts) c.args.meaning inverse c.requires.unnamed) c.in_ok-insert.ensures.updates c.remove.ensures.updates))

pub returns-clause-ok : goal.returns-clause-ok
returns-clause-ok c =
    meanings_of-insert c.self.inside.meanings c.insert-2.new.self c.in_ok-key.key c.args.meaning c.args.name.now c.in_ok-key.ensures.ok c.in-Ok.ensures.updates
    ∙ ap (λ (m : Meanings). insert m c.args.name.now c.args.meaning) c.self.view_is
