use Rattle.std.proofs.Common.{◌+◌, length, take, sym, ap, ◌∙◌, subst, Ok}
use Rattle.piece_evidence.specs.Faults.{SectionsRead, reading}
use Rattle.piece_evidence.specs.Working.Drafts.{parts_in, place_at, Reads, IsRestAt}
use Rattle.piece_evidence.proofs.CutLines.{rest_after_line, section_ends, section_continues}
use Rattle.piece_evidence.proofs.draft.Draft.add_section_line.Goals as goal

pub end_section-requires : goal.end_section-requires
end_section-requires c = (rest_after_line c.args.self.now.begin.now c.args.line.now c.args.after.now c.args.self.now.length c.requires.rest).within

pub returns-then-ends-clause-read : goal.returns-then-ends-clause-read
returns-then-ends-clause-read c =
    let d = c.args.self.now in
    let ends = section_ends d.begin.now c.args.line.now c.args.after.now d.length c.requires.rest (parts_in d) d.piece (sym c.is_last-ends.ensures ∙ c.if-ends.true) in
    subst (λ (r : SectionsRead). Reads (Ok r) c.end_section.new.self c.end_section.result) (sym ends) c.end_section.ensures.read

pub returns-clause-read : goal.returns-clause-read
returns-clause-read c =
    let d = c.args.self.now in
    let length = d.length + (length c.args.line.now + 1) in
    let continues = section_continues d.begin.now c.args.line.now c.args.after.now d.length c.requires.rest (parts_in d) d.piece (sym c.is_last-ends.ensures ∙ c.if-ends.false) in
    ap (λ (r : SectionsRead). Ok r) (continues ∙ ap (λ stage. reading (parts_in d) (place_at stage d.piece (take length d.begin.now))) (sym c.requires.stage))

pub returns-clause-at : goal.returns-clause-at
returns-clause-at c =
    let d = c.args.self.now in
    subst (λ stage. IsRestAt stage d.begin.now (d.length + (length c.args.line.now + 1)) c.args.after.now) (sym c.requires.stage)
    (rest_after_line d.begin.now c.args.line.now c.args.after.now d.length c.requires.rest)
