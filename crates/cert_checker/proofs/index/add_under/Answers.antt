use Rattle.std.proofs.Common.{◌≡◌, ℕ, [], refl, Vec, Global}
use Rattle.std.specs.Prelude.{unwrap_or}
use Rattle.std.specs.Option.{option_map}
use Rattle.cert_checker.proofs.Indexed.{place_added, places_kept}
use Rattle.cert_checker.proofs.index.add_under.Goals as goal
use Rattle.cert_checker.proofs.index.add_under.Goals.{in-Some, in-None}

pub returns-clause-added : goal.returns-clause-added
returns-clause-added c =
    let start : c.match-remove.places.items ≡ unwrap_or (option_map (λ (v : Vec ℕ Global). v.items) c.remove.result) [] = elim c.match-remove.branch [
      | in-Some w ↦ rw (w.places-is, w.in-Some.is) refl
      | in-None w ↦ rw (w.places-is, w.in-None.is) w.new-places.ensures.items
    ] in
    place_added (λ (v : Vec ℕ Global). v.items) c.args.under.now.entries c.remove.new.self.entries c.insert.new.self.entries c.args.term c.args.place c.remove.result c.match-remove.places.items c.push.new.self c.remove.ensures.value start c.in_ok-push.ensures.items
    c.in_ok-insert.ensures.updates.1

pub returns-clause-kept : goal.returns-clause-kept
returns-clause-kept c =
    let start : c.match-remove.places.items ≡ unwrap_or (option_map (λ (v : Vec ℕ Global). v.items) c.remove.result) [] = elim c.match-remove.branch [
      | in-Some w ↦ rw (w.places-is, w.in-Some.is) refl
      | in-None w ↦ rw (w.places-is, w.in-None.is) w.new-places.ensures.items
    ] in
    places_kept (λ (v : Vec ℕ Global). v.items) c.args.under.now.entries c.remove.new.self.entries c.insert.new.self.entries c.args.term c.args.place c.remove.result c.match-remove.places.items c.push.new.self c.remove.ensures.value start c.in_ok-push.ensures.items
    c.in_ok-insert.ensures.updates.1 c.remove.ensures.updates.2 c.in_ok-insert.ensures.updates.2
