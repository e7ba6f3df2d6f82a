use Rattle.std.proofs.Common.{List, subst}
use Rattle.std.proofs.lemmas.Result.{IfOk-weaker}
use Rattle.kat_model.specs.Members.{Has}
use Rattle.walk_regions.specs.Entries.{EntryParts}
use Rattle.walk_regions.specs.Listings.{IsFreshPart}
use Rattle.walk_regions.proofs.Filing.{fresh_all}
use Rattle.walk_regions.proofs.listing.unlisted_part.Goals as goal

pub fresh_part-requires-clause-tests : goal.fresh_part-requires-clause-tests
fresh_part-requires-clause-tests c e h = c.requires.tests e (c.in_ok-alike.ensures.each e (subst (λ (l : List EntryParts). Has l e) c.deref.ensures.value h))

pub returns-clause-part : goal.returns-clause-part
returns-clause-part c =
    let d = c.fresh_part.new.diagrams in
    let left = c.args.left.now in
    let right = c.args.right.now in
    IfOk-weaker c.fresh_part.result _ _
    (λ id part. fresh_all c.args.entries.now.items c.in_ok-alike.alike.items left right c.in_ok-alike.ensures d c.args.within id
    (subst (λ (l : List EntryParts). IsFreshPart d l left right c.args.within id) c.deref.ensures.value part))
    c.fresh_part.ensures.part
