use Rattle.std.proofs.Common.{◌≡◌, ◌<◌, length, map, Err, sym, ap, ◌∙◌, subst}
use Rattle.certificate.specs.declared.nodes.Style.TheVariants.{UpTo}
use Rattle.walk_up_to.specs.Listings.{AreTraced, untested_of}
use Rattle.walk_pairs.specs.StoredPairs.{AreStoredPairs}
use Rattle.walk_pairs.specs.Numbering.{IsCertOf}
use Rattle.walk_up_to.proofs.PassedOn.{passed_on, passed_cost, no_room_full, no_room_cost, not_stopped}
use Rattle.walk_up_to.proofs.PairLimits.{pairs_past}
use Rattle.walk_up_to.proofs.Decisions.{traced, stored, certified, difference_within, refuted}
use Rattle.walk_up_to.proofs.deciding.evidence_of.Goals as goal

pub string_to-requires-clause-traced : goal.string_to-requires-clause-traced
string_to-requires-clause-traced c =
    let found = rw c.in-Some.is at c.in_ok-difference.ensures.answer in
    subst AreTraced (sym c.pairs.ensures) (traced c.args.problem.now c.run-found.new.store c.run-found.new.self c.in-Some.difference.place found.0)

pub string_to-requires-clause-place : goal.string_to-requires-clause-place
string_to-requires-clause-place c =
    let found = rw c.in-Some.is at c.in_ok-difference.ensures.answer in
    let d = c.in-Some.difference in
    subst (λ ps. d.place < length ps) (sym c.pairs.ensures) (difference_within c.args.problem.now c.run-found.new.store c.run-found.new.self d.place d.atom.items found.0 found.1)

pub returns-in_ok-string-in-Some-clause-decision : goal.returns-in_ok-string-in-Some-clause-decision
returns-in_ok-string-in-Some-clause-decision c =
    let found = rw c.in-Some.is at c.in_ok-difference.ensures.answer in
    let d = c.in-Some.difference in
    refuted c.args.problem.now c.run-found.new.store c.run-found.new.self d.place d.atom.items found.0 found.1 c.pairs.result.now c.in_ok-string-in-Some.string c.pairs.ensures c.in_ok-string-in-Some.ensures c.args.walk.now.listed.limit

pub returns-in_err-difference-clause-past : goal.returns-in_err-difference-clause-past
returns-in_err-difference-clause-past c = λ is. pairs_past c.args.problem.now c.args.walk.now.listed.limit (c.in_err-difference.ensures.full (ap Err (passed_on c.from_residual.result c.in_err-difference.field-0.0 c.from_residual.ensures.1 is)))

pub cert_of-requires : goal.cert_of-requires
cert_of-requires c =
    let done = rw c.in-None.is at c.in_ok-difference.ensures.answer in
    let q = c.args.problem.now in
    let listed : c.deref.result.now ≡ map untested_of c.run-found.new.self.listed.pairs = c.deref.ensures.value ∙ c.in_ok-pairs-in-None.ensures ∙ ap (map untested_of) c.pairs-in-None.ensures in
    (q.tests, subst (AreStoredPairs c.run-found.new.store UpTo q.tests) (sym listed) (stored q c.run-found.new.store c.run-found.new.self (length c.run-found.new.self.listed.pairs) done))

pub returns-in_ok-cert-in-None-clause-decision : goal.returns-in_ok-cert-in-None-clause-decision
returns-in_ok-cert-in-None-clause-decision c =
    let done = rw c.in-None.is at c.in_ok-difference.ensures.answer in
    let listed : c.deref.result.now ≡ map untested_of c.run-found.new.self.listed.pairs = c.deref.ensures.value ∙ c.in_ok-pairs-in-None.ensures ∙ ap (map untested_of) c.pairs-in-None.ensures in
    certified c.args.problem.now c.run-found.new.store c.run-found.new.self c.in_ok-cert-in-None.cert c.args.walk.now.listed.limit c.in_ok-difference.ensures.limit c.requires.within done
    (subst (λ ps. IsCertOf c.run-found.new.store UpTo ps c.in_ok-cert-in-None.cert) listed c.in_ok-cert-in-None.ensures)

pub returns-in_ok-cert-in-None-clause-nodes : goal.returns-in_ok-cert-in-None-clause-nodes
returns-in_ok-cert-in-None-clause-nodes c = c.in_ok-cert-in-None.ensures.ids

pub returns-in_err-difference-clause-limited : goal.returns-in_err-difference-clause-limited
returns-in_err-difference-clause-limited c = λ is. c.in_err-difference.ensures.limited (ap Err (passed_cost c.from_residual.result c.in_err-difference.field-0.0 c.from_residual.ensures.1 is))

pub returns-in_err-difference-clause-kept : goal.returns-in_err-difference-clause-kept
returns-in_err-difference-clause-kept c = c.run-found.ensures.kept

pub returns-in_err-difference-clause-store : goal.returns-in_err-difference-clause-store
returns-in_err-difference-clause-store c = c.count.ensures.store

pub returns-in_err-string-in-Some-clause-past : goal.returns-in_err-string-in-Some-clause-past
returns-in_err-string-in-Some-clause-past c is = absurd (no_room_full c.from_residual-in_err-string-in-Some.result c.from_residual-in_err-string-in-Some.ensures.1 is)

pub returns-in_err-string-in-Some-clause-limited : goal.returns-in_err-string-in-Some-clause-limited
returns-in_err-string-in-Some-clause-limited c is = absurd (no_room_cost c.from_residual-in_err-string-in-Some.result c.from_residual-in_err-string-in-Some.ensures.1 is)

pub returns-in_err-string-in-Some-clause-kept : goal.returns-in_err-string-in-Some-clause-kept
returns-in_err-string-in-Some-clause-kept c = c.run-found.ensures.kept

pub returns-in_err-string-in-Some-clause-store : goal.returns-in_err-string-in-Some-clause-store
returns-in_err-string-in-Some-clause-store c = c.count.ensures.store

pub returns-in_err-pairs-in-None-clause-past : goal.returns-in_err-pairs-in-None-clause-past
returns-in_err-pairs-in-None-clause-past c is = absurd (no_room_full c.from_residual-in_err-pairs-in-None.result c.from_residual-in_err-pairs-in-None.ensures.1 is)

pub returns-in_err-pairs-in-None-clause-limited : goal.returns-in_err-pairs-in-None-clause-limited
returns-in_err-pairs-in-None-clause-limited c is = absurd (no_room_cost c.from_residual-in_err-pairs-in-None.result c.from_residual-in_err-pairs-in-None.ensures.1 is)

pub returns-in_err-pairs-in-None-clause-kept : goal.returns-in_err-pairs-in-None-clause-kept
returns-in_err-pairs-in-None-clause-kept c = c.run-found.ensures.kept

pub returns-in_err-pairs-in-None-clause-store : goal.returns-in_err-pairs-in-None-clause-store
returns-in_err-pairs-in-None-clause-store c = c.count.ensures.store

pub returns-in_err-cert-in-None-clause-past : goal.returns-in_err-cert-in-None-clause-past
returns-in_err-cert-in-None-clause-past c is = absurd (no_room_full c.from_residual-in_err-cert-in-None.result c.from_residual-in_err-cert-in-None.ensures.1 is)

pub returns-in_err-cert-in-None-clause-limited : goal.returns-in_err-cert-in-None-clause-limited
returns-in_err-cert-in-None-clause-limited c is = absurd (no_room_cost c.from_residual-in_err-cert-in-None.result c.from_residual-in_err-cert-in-None.ensures.1 is)

pub returns-in_err-cert-in-None-clause-kept : goal.returns-in_err-cert-in-None-clause-kept
returns-in_err-cert-in-None-clause-kept c = c.run-found.ensures.kept

pub returns-in_err-cert-in-None-clause-store : goal.returns-in_err-cert-in-None-clause-store
returns-in_err-cert-in-None-clause-store c = c.count.ensures.store

pub returns-in_ok-string-in-Some-clause-past : goal.returns-in_ok-string-in-Some-clause-past
returns-in_ok-string-in-Some-clause-past c is = absurd (not_stopped _ _ is)

pub returns-in_ok-string-in-Some-clause-limited : goal.returns-in_ok-string-in-Some-clause-limited
returns-in_ok-string-in-Some-clause-limited c is = absurd (not_stopped _ _ is)

pub returns-in_ok-string-in-Some-clause-kept : goal.returns-in_ok-string-in-Some-clause-kept
returns-in_ok-string-in-Some-clause-kept c = c.run-found.ensures.kept

pub returns-in_ok-string-in-Some-clause-store : goal.returns-in_ok-string-in-Some-clause-store
returns-in_ok-string-in-Some-clause-store c = c.count.ensures.store

pub returns-in_ok-cert-in-None-clause-past : goal.returns-in_ok-cert-in-None-clause-past
returns-in_ok-cert-in-None-clause-past c is = absurd (not_stopped _ _ is)

pub returns-in_ok-cert-in-None-clause-limited : goal.returns-in_ok-cert-in-None-clause-limited
returns-in_ok-cert-in-None-clause-limited c is = absurd (not_stopped _ _ is)

pub returns-in_ok-cert-in-None-clause-kept : goal.returns-in_ok-cert-in-None-clause-kept
returns-in_ok-cert-in-None-clause-kept c = c.run-found.ensures.kept

pub returns-in_ok-cert-in-None-clause-store : goal.returns-in_ok-cert-in-None-clause-store
returns-in_ok-cert-in-None-clause-store c = c.count.ensures.store
