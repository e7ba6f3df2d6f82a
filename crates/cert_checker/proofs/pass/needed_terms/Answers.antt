use Rattle.std.proofs.Common.{◌≡◌, ◌≤◌, ◌+◌, ℕ, List, Bool, Some, take, drop, ◌++◌, slice_get, length, sym, ap, ◌∙◌, subst, arith}
use Rattle.std.specs.Bool.{IsTrue}
use Rattle.kat_model.specs.Members.{Has}
use Rattle.kat_model.proofs.Places.{has_at}
use Rattle.term_nodes.specs.NumberSets.{are_below}
use Rattle.certificate.specs.PairParts.{PairParts}
use Rattle.cert_checker.specs.Marks.{IsMarked, IsClosure}
use Rattle.cert_checker.specs.Passes.{AreNeeded}
use Rattle.cert_checker.proofs.CertPairs.{pair_at}
use Rattle.term_nodes.proofs.Parts.{below_more}
use Rattle.cert_checker.proofs.NeededTerms.{AreGathered, gathered_more, gathered_ends, written_back}
use Rattle.cert_checker.proofs.pass.needed_terms.Goals as goal

pub loop-pair-init : goal.loop-pair-init
loop-pair-init c =
    let new = c.mark_all.new.marks in
    let same : length new ≡ c.in_ok-marks.marks.len = c.mark_all.ensures.count ∙ c.deref_mut.ensures.len in
    let back = written_back c.in_ok-marks.marks.len new c.in_ok-marks.marks.items same in
    record {
      count = subst (λ l. length l ≡ length c.args.tables.now.terms) (sym back) (omega (arith, same, c.in_ok-marks.ensures.len, c.term_count.ensures.value));
      gathered = subst (AreGathered c.args.shorts.now c.args.cert.now.pairs 0) (sym back)
          (record { shorts = c.mark_all.ensures.marked; left = λ j p k low. absurd (omega (arith, low)); right = λ j p k low. absurd (omega (arith, low)) });
    }

pub mark_all-requires-in-loop-pair : goal.mark_all-requires-in-loop-pair
mark_all-requires-in-loop-pair c =
    let cert = c.args.cert.now in
    let i = c.loop-pair.pair-index in
    let r = c.pair-item.result in
    let at : slice_get cert.pairs i ≡ Some r = pair_at cert.pairs c.pairs-pair-items.result.now i r c.pairs-pair-items.ensures.value (omega (arith, c.loop-pair-test.true)) c.pair-item.is in
    let set : c.as_slice.result.now ≡ r.left = c.as_slice.ensures ∙ ap (λ (z : PairParts). z.left) c.pair.view_is in
    let low : length cert.term_nodes ≤ length c.deref_mut-in-loop-pair.result.now = omega (arith, c.requires.pairs, c.loop-pair.invariant.count, ap length c.deref_mut-in-loop-pair.ensures.value) in
    subst (λ (l : List ℕ). IsTrue (are_below (length c.deref_mut-in-loop-pair.result.now) l)) (sym set) (below_more (length cert.term_nodes) (length c.deref_mut-in-loop-pair.result.now) r.left low (c.pairs-pair-items.ensures.rules.pairs r (has_at cert.pairs i r at)).left.there)

pub mark_all-requires-in-loop-pair-2 : goal.mark_all-requires-in-loop-pair-2
mark_all-requires-in-loop-pair-2 c =
    let cert = c.args.cert.now in
    let i = c.loop-pair.pair-index in
    let r = c.pair-item.result in
    let at : slice_get cert.pairs i ≡ Some r = pair_at cert.pairs c.pairs-pair-items.result.now i r c.pairs-pair-items.ensures.value (omega (arith, c.loop-pair-test.true)) c.pair-item.is in
    let set : c.as_slice-in-loop-pair.result.now ≡ r.right = c.as_slice-in-loop-pair.ensures ∙ ap (λ (z : PairParts). z.right) c.pair.view_is in
    let mid = c.mark_all-in-loop-pair.new.marks in
    let same : length mid ≡ c.loop-pair.marks.len = c.mark_all-in-loop-pair.ensures.count ∙ c.deref_mut-in-loop-pair.ensures.len in
    let two : c.deref_mut-in-loop-pair-2.result.now ≡ mid = c.deref_mut-in-loop-pair-2.ensures.value ∙ written_back c.loop-pair.marks.len mid c.loop-pair.marks.items same in
    let low : length cert.term_nodes ≤ length c.deref_mut-in-loop-pair-2.result.now = omega (arith, c.requires.pairs, c.loop-pair.invariant.count, ap length two, c.mark_all-in-loop-pair.ensures.count, ap length c.deref_mut-in-loop-pair.ensures.value) in
    subst (λ (l : List ℕ). IsTrue (are_below (length c.deref_mut-in-loop-pair-2.result.now) l)) (sym set) (below_more (length cert.term_nodes) (length c.deref_mut-in-loop-pair-2.result.now) r.right low (c.pairs-pair-items.ensures.rules.pairs r (has_at cert.pairs i r at)).right.there)

pub loop-pair-preserved : goal.loop-pair-preserved
loop-pair-preserved c =
    let cert = c.args.cert.now in
    let i = c.loop-pair.pair-index in
    let r = c.pair-item.result in
    let at : slice_get cert.pairs i ≡ Some r = pair_at cert.pairs c.pairs-pair-items.result.now i r c.pairs-pair-items.ensures.value (omega (arith, c.loop-pair-test.true)) c.pair-item.is in
    let lefts : c.as_slice.result.now ≡ r.left = c.as_slice.ensures ∙ ap (λ (z : PairParts). z.left) c.pair.view_is in
    let rights : c.as_slice-in-loop-pair.result.now ≡ r.right = c.as_slice-in-loop-pair.ensures ∙ ap (λ (z : PairParts). z.right) c.pair.view_is in
    let marks = c.loop-pair.marks.items in
    let n = c.loop-pair.marks.len in
    let mid = c.mark_all-in-loop-pair.new.marks in
    let new = c.mark_all-in-loop-pair-2.new.marks in
    let one : c.deref_mut-in-loop-pair.result.now ≡ marks = c.deref_mut-in-loop-pair.ensures.value in
    let same : length mid ≡ n = c.mark_all-in-loop-pair.ensures.count ∙ c.deref_mut-in-loop-pair.ensures.len in
    let two : c.deref_mut-in-loop-pair-2.result.now ≡ mid = c.deref_mut-in-loop-pair-2.ensures.value ∙ written_back n mid marks same in
    let last : length new ≡ n = c.mark_all-in-loop-pair-2.ensures.count ∙ ap length two ∙ same in
    let back = written_back n new (take n (mid ++ drop (length mid) marks)) last in
    record {
      count = subst (λ l. length l ≡ length c.args.tables.now.terms) (sym back) (omega (arith, last, same, c.mark_all-in-loop-pair.ensures.count, ap length one, c.loop-pair.invariant.count));
      gathered = subst (AreGathered c.args.shorts.now cert.pairs (i + 1)) (sym back)
          (gathered_more c.args.shorts.now cert.pairs i marks mid new r at c.loop-pair.invariant.gathered
          (λ k m. c.mark_all-in-loop-pair.ensures.kept k (subst (λ (l : List Bool). IsMarked l k) (sym one) m))
          (λ k h. c.mark_all-in-loop-pair.ensures.marked k (subst (λ (l : List ℕ). Has l k) (sym lefts) h))
          (λ k m. c.mark_all-in-loop-pair-2.ensures.kept k (subst (λ (l : List Bool). IsMarked l k) (sym two) m))
          (λ k h. c.mark_all-in-loop-pair-2.ensures.marked k (subst (λ (l : List ℕ). Has l k) (sym rights) h)));
    }

pub returns-clause-needed : goal.returns-clause-needed
returns-clause-needed c =
    let t = c.args.tables.now in
    let cert = c.args.cert.now in
    let marks = c.loop-pair.marks.items in
    let new = c.close_marks.new.marks in
    let same : length new ≡ c.loop-pair.marks.len = omega (arith, c.close_marks.auto.marks, c.deref_mut-2.ensures.len) in
    let made = subst (λ (l : List Bool). IsClosure t l new) c.deref_mut-2.ensures.value c.close_marks.ensures in
    subst (AreNeeded t cert c.args.shorts.now) (sym (written_back c.loop-pair.marks.len new marks same))
    (gathered_ends t cert c.args.shorts.now c.loop-pair.pair-index marks new (omega (arith, c.loop-pair-test.false, ap length c.pairs-pair-items.ensures.value)) c.loop-pair.invariant.gathered made)

-- ---- how many marks there are

pub mark_all-requires : goal.mark_all-requires
mark_all-requires c =
    let same : length c.args.tables.now.terms ≡ length c.deref_mut.result.now = omega (arith, c.deref_mut.ensures.len, c.in_ok-marks.ensures.len, c.term_count.ensures.value) in
    subst (λ n. IsTrue (are_below n c.args.shorts.now)) same c.requires.shorts

pub close_marks-requires : goal.close_marks-requires
close_marks-requires c = omega (arith, ap length c.deref_mut-2.ensures.value, c.loop-pair.invariant.count)

pub returns-clause-count : goal.returns-clause-count
returns-clause-count c =
    let new = c.close_marks.new.marks in
    let same : length new ≡ c.loop-pair.marks.len = omega (arith, c.close_marks.auto.marks, c.deref_mut-2.ensures.len) in
    let all : length new ≡ length c.args.tables.now.terms = omega (arith, c.close_marks.auto.marks, ap length c.deref_mut-2.ensures.value, c.loop-pair.invariant.count) in
    ap length (written_back c.loop-pair.marks.len new c.loop-pair.marks.items same) ∙ all
