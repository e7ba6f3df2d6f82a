use Rattle.std.proofs.Common.{◌≡◌, ◌++◌, ⊎_elim, inl, inr, List, [], ◌∷◌, Some, slice_get, sym, ap, ◌∙◌, subst}
use Rattle.std.proofs.lemmas.Bool.{both_ways}
use Rattle.std.proofs.lemmas.Option.{none-some, same_Some, slice_get-get_or, slice_get_past}
use Rattle.kat_model.specs.Members.{Has}
use Rattle.kat_model.proofs.Lists.{has_left, has_right, has_pushed}
use Rattle.kat_model.proofs.Places.{has_at}
use Rattle.walk_regions.specs.Entries.{EntryParts}
use Rattle.walk_regions.proofs.listing.add_alike.Goals as goal

pub returns-in_default : goal.returns-in_default
returns-in_default c = record {
  kept = λ e h. h;
  added = λ e at l r. absurd (none-some e (sym (slice_get_past c.args.entries.now c.args.place c.in_default.ensures.lookup.3) ∙ at));
  each = λ e h. inl h;
}

pub returns-then-not-same : goal.returns-then-not-same
returns-then-not-same c =
    let es : List EntryParts = c.args.entries.now in
    let own : EntryParts = c.in-Some.entry.now in
    let found = c.in-Some.ensures.lookup in
    let here : slice_get es c.args.place ≡ Some own = slice_get-get_or es c.args.place own found.3.0 ∙ ap (λ (x : EntryParts). Some x) (sym found.1) in
    record {
      kept = λ e h. h;
      added = λ e at l r.
          let is : own ≡ e = same_Some own e (sym here ∙ at) in
          absurd (both_ways c.has_sets-same.result c.if-not-same.true (c.has_sets-same.ensures.1 (ap (λ (x : EntryParts). x.left) is ∙ l, ap (λ (x : EntryParts). x.right) is ∙ r)));
      each = λ e h. inl h;
    }

pub returns : goal.returns
returns c =
    let es : List EntryParts = c.args.entries.now in
    let own : EntryParts = c.in-Some.entry.now in
    let found = c.in-Some.ensures.lookup in
    let here : slice_get es c.args.place ≡ Some own = slice_get-get_or es c.args.place own found.3.0 ∙ ap (λ (x : EntryParts). Some x) (sym found.1) in
    let old : List EntryParts = c.args.list.now.items in
    let copy : EntryParts = c.in_ok-copy.copy in
    let copied : copy ≡ own = c.in_ok-copy.ensures in
    let items : c.append.new.list.items ≡ old ++ copy ∷ [] = c.in_ok-append.ensures in
    record {
      kept = λ e h. subst (λ (l : List EntryParts). Has l e) (sym items) (has_left old (copy ∷ []) e h);
      added = λ e at l r. subst (λ (xs : List EntryParts). Has xs e) (sym items) (has_right old (copy ∷ []) e (inl (copied ∙ same_Some own e (sym here ∙ at))));
      each = λ e h. ⊎_elim inl (λ s. inr (subst (Has es) (sym copied ∙ s) (has_at es c.args.place own here))) (has_pushed old copy e (subst (λ (l : List EntryParts). Has l e) items h));
    }
