use Rattle.std.proofs.Common.{◌≡◌, ◌++◌, ◌∷◌, [], length, ap, ◌∙◌, subst, sym, arith}
use Rattle.std.proofs.lemmas.Result.{MatchResult-from_err}
use Rattle.walk_pairs.specs.declared.items.Side.TheVariants.{Left, Right}
use Rattle.walk_up_to.specs.Listings.{IdEntry}
use Rattle.walk_up_to.specs.Marks.{ListedPairsParts}
use Rattle.walk_up_to.specs.Indices.{IsListedUnder, AreIndexed}
use Rattle.walk_up_to.proofs.IndexLists.{indexed_kept, indexed_more}
use Rattle.walk_up_to.proofs.Memberships.{AreWithin, within_more, within_one}
use Rattle.walk_up_to.proofs.listed.ListedPairs.list.Goals as goal

pub returns-clause-members : goal.returns-clause-members
returns-clause-members c =
    let own : IdEntry = c.args.pair in
    let given = c.in_ok-note_pair.ensures in
    subst (λ es. AreWithin es c.note_pair.new.members.items) (sym c.in_ok-push.ensures.items)
    (within_one c.self.inside.pairs.items own c.self.inside.members.items c.note_pair.new.members.items c.self.invariant.0 given.marks given.noted.0 given.noted.1)

pub invariant_of-self-2 : goal.invariant_of-self-2
invariant_of-self-2 c =
    let own : IdEntry = c.args.pair in
    let given = c.in_ok-note_pair.ensures in
    let place : c.len-place.result ≡ length c.self.inside.pairs.items = omega (arith, c.len-place.ensures, c.self.inside.pairs.ok.0) in (
      subst (λ es. AreWithin es c.note_pair.new.members.items) (sym c.in_ok-push.ensures.items)
          (within_one c.self.inside.pairs.items own c.self.inside.members.items c.note_pair.new.members.items c.self.invariant.0 given.marks given.noted.0 given.noted.1),
      subst (λ es. AreIndexed c.note_pair.new.index es) (sym c.in_ok-push.ensures.items)
          (indexed_more c.self.inside.index c.note_pair.new.index c.self.inside.pairs.items own c.self.invariant.1 given.places
          (subst (λ k. IsListedUnder c.note_pair.new.index own.left k Left) place given.left)
          (subst (λ k. IsListedUnder c.note_pair.new.index own.right k Right) place given.right)),
    )

pub invariant_of-self : goal.invariant_of-self
invariant_of-self c = (within_more c.self.inside.pairs.items c.self.inside.members.items c.note_pair.new.members.items c.self.invariant.0 c.note_pair.ensures.marks, indexed_kept c.self.inside.index c.note_pair.new.index c.self.inside.pairs.items c.note_pair.ensures.places c.self.invariant.1)

pub returns-in_err-note_pair-clause-universal : goal.returns-in_err-note_pair-clause-universal
returns-in_err-note_pair-clause-universal c = ap (λ (r : ListedPairsParts). r.universal) c.self.view_is

pub returns-in_err-note_pair-clause-count : goal.returns-in_err-note_pair-clause-count
returns-in_err-note_pair-clause-count c = ap (λ (r : ListedPairsParts). r.count) c.self.view_is

pub returns-in_err-note_pair-clause-limit : goal.returns-in_err-note_pair-clause-limit
returns-in_err-note_pair-clause-limit c = ap (λ (r : ListedPairsParts). r.limit) c.self.view_is

pub returns-in_err-note_pair-clause-members : goal.returns-in_err-note_pair-clause-members
returns-in_err-note_pair-clause-members c = within_more c.self.inside.pairs.items c.self.inside.members.items c.note_pair.new.members.items c.self.invariant.0 c.note_pair.ensures.marks

pub returns-in_err-push-clause-universal : goal.returns-in_err-push-clause-universal
returns-in_err-push-clause-universal c = ap (λ (r : ListedPairsParts). r.universal) c.self.view_is

pub returns-in_err-push-clause-count : goal.returns-in_err-push-clause-count
returns-in_err-push-clause-count c = ap (λ (r : ListedPairsParts). r.count) c.self.view_is

pub returns-in_err-push-clause-limit : goal.returns-in_err-push-clause-limit
returns-in_err-push-clause-limit c = ap (λ (r : ListedPairsParts). r.limit) c.self.view_is

pub returns-clause-universal : goal.returns-clause-universal
returns-clause-universal c = ap (λ (r : ListedPairsParts). r.universal) c.self.view_is

pub returns-clause-count : goal.returns-clause-count
returns-clause-count c = ap (λ (r : ListedPairsParts). r.count) c.self.view_is

pub returns-clause-limit : goal.returns-clause-limit
returns-clause-limit c = ap (λ (r : ListedPairsParts). r.limit) c.self.view_is

pub returns-clause-pairs : goal.returns-clause-pairs
returns-clause-pairs c = let own : IdEntry = c.args.pair in c.in_ok-push.ensures.items ∙ ap (λ (r : ListedPairsParts). r.pairs ++ own ∷ []) c.self.view_is

pub returns-in_err-push-clause-members : goal.returns-in_err-push-clause-members
returns-in_err-push-clause-members c =
    within_more c.push.new.self.items c.self.inside.members.items c.note_pair.new.members.items
    (subst (λ es. AreWithin es c.self.inside.members.items) (sym c.in_err-push.ensures.items) c.self.invariant.0) c.note_pair.ensures.marks

pub invariant_of-self-in_err-push : goal.invariant_of-self-in_err-push
invariant_of-self-in_err-push c = (
  within_more c.push.new.self.items c.self.inside.members.items c.note_pair.new.members.items
      (subst (λ es. AreWithin es c.self.inside.members.items) (sym c.in_err-push.ensures.items) c.self.invariant.0) c.note_pair.ensures.marks,
  indexed_kept c.self.inside.index c.note_pair.new.index c.push.new.self.items c.note_pair.ensures.places
      (subst (AreIndexed c.self.inside.index) (sym c.in_err-push.ensures.items) c.self.invariant.1),
)

pub returns-in_err-push-clause-same : goal.returns-in_err-push-clause-same
returns-in_err-push-clause-same c =
    MatchResult-from_err c.from_residual-in_err-push.result _ _ c.from_residual-in_err-push.ensures.0 (λ _. c.in_err-push.ensures.items ∙ ap (λ (r : ListedPairsParts). r.pairs) c.self.view_is)
