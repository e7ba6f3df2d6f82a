use Rattle.std.proofs.Common.{◌≡◌, ◌<◌, ◌∙◌, ℕ, length, Some, slice_get, refl, sym, ap, arith}
use Rattle.std.proofs.lemmas.Option.{slice_get_read}
use Rattle.kat_model.proofs.Places.{has_at}
use Rattle.outline_rules.proofs.NodeSets.{note_set_some}
use Rattle.outline_rules.proofs.checking.note_set.Goals as goal

pub index-requires : goal.index-requires
index-requires c =
    let ns = c.args.notes.now in
    let k : ℕ = c.in-Some.node.now in
    let h = c.in-Some.ensures.lookup in
    let ts = c.notes.result.now in
    let at : slice_get ns.notes c.args.place ≡ Some k = ap (λ l. slice_get l c.args.place) (sym c.notes.ensures.value) ∙ slice_get_read ts (length ts) c.args.place k refl h.3.0 h.1 in
    let lt : k < length ns.nodes = c.notes.ensures.rules.notes k (has_at ns.notes c.args.place k at) in
    omega (arith, lt, c.requires.count, c.args.sets.now.nodes.ok.0)

pub returns-in-Some : goal.returns-in-Some
returns-in-Some c moment sets =
    let ns = c.args.notes.now in
    let k : ℕ = c.in-Some.node.now in
    let h = c.in-Some.ensures.lookup in
    let ts = c.notes.result.now in
    let at : slice_get ns.notes c.args.place ≡ Some k = ap (λ l. slice_get l c.args.place) (sym c.notes.ensures.value) ∙ slice_get_read ts (length ts) c.args.place k refl h.3.0 h.1 in
    let lt : k < length ns.nodes = c.notes.ensures.rules.notes k (has_at ns.notes c.args.place k at) in
    note_set_some c.args.diagrams.now moment ns c.args.sets.now.nodes.items c.args.place k c.index.result.now c.notes.ensures.rules sets at (omega (arith, lt, c.requires.count)) c.index.ensures
