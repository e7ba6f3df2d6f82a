use Rattle.std.proofs.Common.{◌≡◌, ◌<◌, List, Some, slice_get, sym, ap, ◌∙◌, arith}
use Rattle.std.proofs.lemmas.Bool.{false≢true}
use Rattle.std.proofs.lemmas.Option.{same_Some, slice_get-get_or, slice_get_past}
use Rattle.walk_regions.specs.Entries.{EntryParts}
use Rattle.walk_regions.proofs.merging.is_earlier.Goals as goal

pub returns-then-place-own : goal.returns-then-place-own
returns-then-place-own c = ((λ t. absurd (false≢true t)), (λ a. let before = a.before in absurd (omega (arith, before, c.if-place-own.true))))

pub returns-in-Some : goal.returns-in-Some
returns-in-Some c =
    let es : List EntryParts = c.args.entries.now in
    let e : EntryParts = c.in-Some.other.now in
    let own : EntryParts = c.args.entry.now in
    let found = c.in-Some.ensures.lookup in
    let at : slice_get es c.args.place ≡ Some e = slice_get-get_or es c.args.place e found.3.0 ∙ ap Some (sym found.1) in
    let left : c.as_slice.result.now ≡ own.left = c.as_slice.ensures ∙ ap (λ (x : EntryParts). x.left) c.entry.view_is in
    let right : c.as_slice-in-Some.result.now ≡ own.right = c.as_slice-in-Some.ensures ∙ ap (λ (x : EntryParts). x.right) c.entry.view_is in
    let earlier : c.args.place < c.args.own = omega (arith, c.if-place-own.false) in (
      (λ t. let same = c.has_sets.ensures.0 t in record { before = earlier; entry = e; at = at; left_is = same.0 ∙ left; right_is = same.1 ∙ right }),
      (λ a.
          let same : a.entry ≡ e = same_Some a.entry e (sym a.at ∙ at) in
          c.has_sets.ensures.1 (ap (λ (x : EntryParts). x.left) (sym same) ∙ a.left_is ∙ sym left, ap (λ (x : EntryParts). x.right) (sym same) ∙ a.right_is ∙ sym right)),
    )

pub returns-in-None : goal.returns-in-None
returns-in-None c = (
  (λ t. absurd (false≢true t)),
  (λ a. let none = sym a.at ∙ slice_get_past c.args.entries.now c.args.place c.in-None.ensures.lookup.3 in absurd cc),
)
