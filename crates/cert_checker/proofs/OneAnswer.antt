-- Evidence has one answer: two first reasons are equal.
use Rattle.std.proofs.Common.{◌≡◌, ℕ, suc, ◌<◌, ◌⊎◌, inl, inr, ⊎_elim, [], length, refl, sym, ap, ◌∙◌, arith, subst, Some, None}
use Rattle.std.specs.Option.{MatchOption}
use Rattle.kat_model.specs.Strings.{GuardedString}
use Rattle.kat_model.specs.Problems.{ProblemParts}
use Rattle.certificate.specs.Certs.{CertParts, nodes_of, number_pairs}
use Rattle.kat_model.proofs.Places.{has_at}
use Rattle.kat_model.specs.Steps.{Atom}
use Rattle.kat_model.specs.Strings.{Move}
use Rattle.kat_model.specs.Members.{Has}
use Rattle.kat_model.specs.Relations.{Same}
use Rattle.kat_model.specs.Pairs.{plain, up_to}
use Rattle.kat_model.specs.Degrees.{short_hyps, long_hyps}
use Rattle.kat_model.specs.TestedPairs.{TestedPair}
use Rattle.kat_model.proofs.Lists.{has_map, map_has}
use Rattle.kat_model.proofs.Splits.{split_by_degree}
use Rattle.kat_model.proofs.Sameness.{accepted_same, accepted_under_same}
use Rattle.term_nodes.specs.NumberSets.{NumberPair, terms_of}
use Rattle.string_tables.proofs.Counterexamples.{refuted_not_same}
use Rattle.string_tables.specs.Tables.{Refutes}
use Rattle.string_tables.specs.Findings.{IsFinding}
use Rattle.string_tables.specs.declared.finding.Finding.{Finding}
use Rattle.string_tables.specs.declared.finding.Finding.TheVariants.{Refutes as FoundRefutes, Shape as FoundShape, HypBroken as FoundHypBroken, EndsAgree as FoundEndsAgree}
use Rattle.string_tables.proofs.Ends.{not_refuted, refuted_by}
use Rattle.string_tables.proofs.OneFinding.{one_finding}
use Rattle.term_nodes.specs.declared.TestNode.TheVariants.{Prim}
use Rattle.term_nodes.specs.declared.TermNode.TheVariants.{Act}
use Rattle.certificate.specs.declared.evidence.Evidence.{Evidence}
use Rattle.certificate.specs.declared.evidence.Evidence.TheVariants.{Equal, Different}
use Rattle.certificate.specs.declared.nodes.Style.{Style}
use Rattle.certificate.specs.declared.nodes.Style.TheVariants.{Plain, UpTo, Under}
use Rattle.certificate.specs.Accepted.{IsAccepted, ShowsSame, set_pairs, tested_pair_of, tested_pairs}
use Rattle.certificate.specs.PairParts.{only_sets}
use Rattle.cert_checker.specs.declared.answer.Reason.{Reason}
use Rattle.cert_checker.specs.declared.answer.Reason.TheVariants.{FirstPair, Output, Missing, MissingTo, Shape, HypBroken, EndsAgree, TestNode, TermNode}
use Rattle.cert_checker.specs.declared.answer.Answer.TheVariants.{Accepted, Rejected}
use Rattle.cert_checker.specs.Answers.{Shows, Turn, turn_of, IsEarlier, Begins, OutputsHold, StepHolds, MoveHolds, FailsBy, FailsFirstBy, IsFoundBy, finding_reason}
use Rattle.cert_checker.specs.AtomOrder.{IsLess}
use Rattle.cert_checker.specs.Laws.{ShownIsSo, HasOneAnswer}
use Rattle.cert_checker.proofs.LeastFailures.{less_total}

three_ways : (m n : ℕ) → (m < n) ⊎ ((m ≡ n) ⊎ (n < m))
three_ways m n = grind arith

-- two turns are equal, or one is earlier than the other
pub turns_total : (s t : Turn) → (s.stage ≡ t.stage → length s.atom ≡ length t.atom) → (s.stage ≡ t.stage → s.action ≡ t.action → length s.to ≡ length t.to) → IsEarlier s t ⊎ ((s ≡ t) ⊎ IsEarlier t s)
turns_total s t long far =
    ⊎_elim
    (λ l. inl (inl l))
    (λ r. ⊎_elim (λ stage. by_number stage (three_ways s.number t.number)) (λ l. inr (inr (inl l))) r)
    (three_ways s.stage t.stage)
  where
    by_to : s.stage ≡ t.stage → s.number ≡ t.number → s.atom ≡ t.atom → s.action ≡ t.action → (IsLess s.to t.to ⊎ ((s.to ≡ t.to) ⊎ IsLess t.to s.to)) → IsEarlier s t ⊎ ((s ≡ t) ⊎ IsEarlier t s)
    by_to stage number atom action h =
        ⊎_elim
        (λ l. inl (inr (stage, inr (number, inr (atom, inr (action, l))))))
        (λ r. ⊎_elim
        (λ to. inr (inl (λ i. record { stage = stage i; number = number i; atom = atom i; action = action i; to = to i })))
        (λ l. inr (inr (inr (sym stage, inr (sym number, inr (sym atom, inr (sym action, l)))))))
        r)
        h

    by_action : s.stage ≡ t.stage → s.number ≡ t.number → s.atom ≡ t.atom → ((s.action < t.action) ⊎ ((s.action ≡ t.action) ⊎ (t.action < s.action))) → IsEarlier s t ⊎ ((s ≡ t) ⊎ IsEarlier t s)
    by_action stage number atom h =
        ⊎_elim
        (λ l. inl (inr (stage, inr (number, inr (atom, inl l)))))
        (λ r. ⊎_elim
        (λ action. by_to stage number atom action (less_total s.to t.to (far stage action)))
        (λ l. inr (inr (inr (sym stage, inr (sym number, inr (sym atom, inl l))))))
        r)
        h

    by_atom : s.stage ≡ t.stage → s.number ≡ t.number → (IsLess s.atom t.atom ⊎ ((s.atom ≡ t.atom) ⊎ IsLess t.atom s.atom)) → IsEarlier s t ⊎ ((s ≡ t) ⊎ IsEarlier t s)
    by_atom stage number h =
        ⊎_elim
        (λ l. inl (inr (stage, inr (number, inl l))))
        (λ r. ⊎_elim (λ atom. by_action stage number atom (three_ways s.action t.action)) (λ l. inr (inr (inr (sym stage, inr (sym number, inl l))))) r)
        h

    by_number : s.stage ≡ t.stage → ((s.number < t.number) ⊎ ((s.number ≡ t.number) ⊎ (t.number < s.number))) → IsEarlier s t ⊎ ((s ≡ t) ⊎ IsEarlier t s)
    by_number stage h =
        ⊎_elim
        (λ l. inl (inr (stage, inl l)))
        (λ r. ⊎_elim (λ number. by_atom stage number (less_total s.atom t.atom (long stage))) (λ l. inr (inr (inr (sym stage, inl l)))) r)
        h

-- the length of the atom of a reason
atom_length : (q : ProblemParts) (c : CertParts) (r : Reason) → FailsBy q c r → ((turn_of r).stage < 3) × ((turn_of r).atom ≡ []) ⊎ ((turn_of r).stage ≡ 3) × (length (turn_of r).atom ≡ q.tests)
atom_length q c (TestNode k) f = inl (omega arith, refl)
atom_length q c (TermNode k) f = inl (omega arith, refl)
atom_length q c FirstPair f = inl (omega arith, refl)
atom_length q c (Output k atom) f = inr (refl, f.2)
atom_length q c (Missing k atom a) f = inr (refl, f.2)
atom_length q c (MissingTo k atom a to) f = inr (refl, f.2)
atom_length q c (Shape k) f = absurd f
atom_length q c (HypBroken h i j) f = absurd f
atom_length q c EndsAgree f = absurd f

pub same_length : (q : ProblemParts) (c : CertParts) (r s : Reason) → FailsBy q c r → FailsBy q c s → (turn_of r).stage ≡ (turn_of s).stage → length (turn_of r).atom ≡ length (turn_of s).atom
same_length q c r s f g e =
    ⊎_elim
    (λ a. ⊎_elim (λ b. ap length (a.1 ∙ sym b.1)) (λ b. absurd (omega (arith, a.0, b.0, e))) (atom_length q c s g))
    (λ a. ⊎_elim (λ b. absurd (omega (arith, a.0, b.0, e))) (λ b. a.1 ∙ sym b.1) (atom_length q c s g))
    (atom_length q c r f)

-- a certificate fails either by steps or by moves, depending on its style
no_step : (q : ProblemParts) (c : CertParts) (k l : ℕ) (a b : Atom) (m n : ℕ) (to : Atom) → FailsBy q c (Missing k a m) → FailsBy q c (MissingTo l b n to) → ⊥
no_step q c k l a b m n to f g = go c.style f.4 g.5
  where
    go : (s : Style) → (StepHolds s q c f.0 a m → ⊥) → (MoveHolds s q c g.0 b (record { act = n; atom = to }) → ⊥) → ⊥
    go Plain x y = y tt
    go UpTo x y = y tt
    go Under x y = x tt

-- the length of the atom that an action leads to
pub to_length : (q : ProblemParts) (c : CertParts) (r s : Reason) → FailsBy q c r → FailsBy q c s → (turn_of r).stage ≡ (turn_of s).stage → (turn_of r).action ≡ (turn_of s).action → length (turn_of r).to ≡ length (turn_of s).to
to_length q c (MissingTo k a m to) (MissingTo l b n also) f g e h = f.4 ∙ sym g.4
to_length q c (MissingTo k a m to) (Missing l b n) f g e h = absurd (no_step q c l k b a n m to g f)
to_length q c (Missing k a m) (MissingTo l b n to) f g e h = absurd (no_step q c k l a b m n to f g)
to_length q c (MissingTo k a m to) (Output l b) f g e h = absurd (omega (arith, h))
to_length q c (Output l b) (MissingTo k a m to) f g e h = absurd (omega (arith, h))
to_length q c (MissingTo k a m to) FirstPair f g e h = absurd (omega (arith, e))
to_length q c (MissingTo k a m to) (TestNode l) f g e h = absurd (omega (arith, e))
to_length q c (MissingTo k a m to) (TermNode l) f g e h = absurd (omega (arith, e))
to_length q c FirstPair (MissingTo k a m to) f g e h = absurd (omega (arith, e))
to_length q c (TestNode l) (MissingTo k a m to) f g e h = absurd (omega (arith, e))
to_length q c (TermNode l) (MissingTo k a m to) f g e h = absurd (omega (arith, e))
to_length q c (Shape k) s f g e h = absurd f
to_length q c (HypBroken i j k) s f g e h = absurd f
to_length q c EndsAgree s f g e h = absurd f
to_length q c r (Shape k) f g e h = absurd g
to_length q c r (HypBroken i j k) f g e h = absurd g
to_length q c r EndsAgree f g e h = absurd g
to_length q c r s f g e h = refl

-- reasons of a certificate with the same turn are equal
one_turn : (q : ProblemParts) (c : CertParts) (r s : Reason) → FailsBy q c r → FailsBy q c s → turn_of r ≡ turn_of s → r ≡ s
one_turn q c (TestNode k) (TestNode l) f g e = ap TestNode (ap (λ (t : Turn). t.number) e)
one_turn q c (TermNode k) (TermNode l) f g e = ap TermNode (ap (λ (t : Turn). t.number) e)
one_turn q c FirstPair FirstPair f g e = refl
one_turn q c (Output k a) (Output l b) f g e = λ i. Output (e i).number (e i).atom
one_turn q c (Missing k a m) (Missing l b n) f g e =
    let action : suc m ≡ suc n = ap (λ (t : Turn). t.action) e in
    let same : m ≡ n = omega (arith, action) in
    λ i. Missing (e i).number (e i).atom (same i)
one_turn q c (MissingTo k a m to) (MissingTo l b n also) f g e =
    let action : suc m ≡ suc n = ap (λ (t : Turn). t.action) e in
    let same : m ≡ n = omega (arith, action) in
    λ i. MissingTo (e i).number (e i).atom (same i) (e i).to
one_turn q c (MissingTo k a m to) (Missing l b n) f g e = absurd (no_step q c l k b a n m to g f)
one_turn q c (Missing k a m) (MissingTo l b n to) f g e = absurd (no_step q c k l a b m n to f g)
one_turn q c (Shape k) s f g e = absurd f
one_turn q c (HypBroken h i j) s f g e = absurd f
one_turn q c EndsAgree s f g e = absurd f
one_turn q c r (Shape k) f g e = absurd g
one_turn q c r (HypBroken h i j) f g e = absurd g
one_turn q c r EndsAgree f g e = absurd g
one_turn q c r s f g e =
    let stage : (turn_of r).stage ≡ (turn_of s).stage = ap (λ (t : Turn). t.stage) e in
    let action : (turn_of r).action ≡ (turn_of s).action = ap (λ (t : Turn). t.action) e in
    absurd cc

-- a certificate has at most one first reason
pub one_first : (q : ProblemParts) (c : CertParts) (r s : Reason) → FailsFirstBy q c r → FailsFirstBy q c s → r ≡ s
one_first q c r s f g =
    ⊎_elim
    (λ l. absurd (g.first r l f.fails))
    (λ k. ⊎_elim (λ e. one_turn q c r s f.fails g.fails e) (λ l. absurd (f.first s l g.fails)) k)
    (turns_total (turn_of r) (turn_of s) (same_length q c r s f.fails g.fails) (to_length q c r s f.fails g.fails))

-- ---- a failing certificate is not accepted

module _ (q : ProblemParts) (c : CertParts) where
  -- the sets of a pair under a test are a listed pair of sets
  among : (p : TestedPair) → Has (tested_pairs c) p → Has (set_pairs c) p.sets
  among p h =
      let m = has_map (tested_pair_of (nodes_of c)) c.pairs p h in
      subst (Has (set_pairs c)) (ap (λ (z : TestedPair). z.sets) m.2) (map_has (λ (n : NumberPair). record { left = terms_of (nodes_of c) n.left; right = terms_of (nodes_of c) n.right }) (number_pairs c) (only_sets m.0) (map_has only_sets c.pairs m.0 m.1))

  shown_begins : (s : Style) → ShowsSame s q c → Begins s q c
  shown_begins Plain a = (a.rest, a.first)
  shown_begins UpTo a = (a.rest, a.first)
  shown_begins Under a = (a.test, a.rest, a.first, a.holds)

  shown_outputs : (s : Style) → ShowsSame s q c → (p : TestedPair) → Has (tested_pairs c) p → (atom : Atom) → length atom ≡ q.tests → OutputsHold s q p atom
  shown_outputs Plain a p h atom l = a.bisimulation.outputs p.sets (among p h) atom l
  shown_outputs UpTo a p h atom l = a.bisimulation.outputs p.sets (among p h) atom l
  shown_outputs Under a p h atom l = a.bisimulation.outputs p h atom l

  shown_steps : (s : Style) → ShowsSame s q c → (p : TestedPair) → Has (tested_pairs c) p → (atom : Atom) → length atom ≡ q.tests → (m : ℕ) → m < q.actions → StepHolds s q c p atom m
  shown_steps Plain a p h atom l m low = a.bisimulation.steps p.sets (among p h) atom l m low
  shown_steps UpTo a p h atom l m low = a.bisimulation.steps p.sets (among p h) atom l m low
  shown_steps Under a p h atom l m low = tt

  shown_moves : (s : Style) → ShowsSame s q c → (p : TestedPair) → Has (tested_pairs c) p → (atom : Atom) → length atom ≡ q.tests → (m : Move) → m.act < q.actions → length m.atom ≡ q.tests → MoveHolds s q c p atom m
  shown_moves Plain a p h atom l m low wide = tt
  shown_moves UpTo a p h atom l m low wide = tt
  shown_moves Under a p h atom l m low wide = λ t allowed. a.bisimulation.steps p h atom l t m low wide allowed

  pub fails_not_accepted : (r : Reason) → FailsBy q c r → IsAccepted q c → ⊥
  fails_not_accepted (TestNode k) f a = let low : f.0 < q.tests = a.tests f.0 (has_at c.test_nodes k (Prim f.0) f.1) in absurd (omega (arith, f.2))
  fails_not_accepted (TermNode k) f a = let low : f.0 < q.actions = a.actions f.0 (has_at c.term_nodes k (Act f.0) f.1) in absurd (omega (arith, f.2))
  fails_not_accepted FirstPair f a = f (shown_begins c.style a.pairs)
  fails_not_accepted (Output k atom) f a = f.3 (shown_outputs c.style a.pairs f.0 (has_at (tested_pairs c) k f.0 f.1) atom f.2)
  fails_not_accepted (Missing k atom m) f a = f.4 (shown_steps c.style a.pairs f.0 (has_at (tested_pairs c) k f.0 f.1) atom f.2 m f.3)
  fails_not_accepted (MissingTo k atom m to) f a = f.5 (shown_moves c.style a.pairs f.0 (has_at (tested_pairs c) k f.0 f.1) atom f.2 (record { act = m; atom = to }) f.3 f.4)
  fails_not_accepted (Shape k) f a = f
  fails_not_accepted (HypBroken h i j) f a = f
  fails_not_accepted EndsAgree f a = f

pub found_not_shown : (q : ProblemParts) (e : Evidence) (r : Reason) → IsFoundBy q e r → Shows q e → ⊥
found_not_shown q (Equal c) r f a = fails_not_accepted q c r f.fails a
found_not_shown q (Different x) r (f, is, e) shown = not_refuted q x f (λ b g. let none : finding_reason f ≡ None = ap finding_reason g in absurd cc) is shown

pub one_answer : HasOneAnswer
one_answer q e Accepted Accepted h k = refl
one_answer q e Accepted (Rejected s) h k = absurd (k.0 h)
one_answer q e (Rejected r) Accepted h k = absurd (h.0 k)
one_answer q (Equal c) (Rejected r) (Rejected s) h k = ap Rejected (one_first q c r s h.1 k.1)
one_answer q (Different x) (Rejected r) (Rejected s) h k =
    let same : h.1.0 ≡ k.1.0 = one_finding q x h.1.0 k.1.0 h.1.1 k.1.1 in
    let reasons : Some r ≡ Some s = sym h.1.2 ∙ ap finding_reason same ∙ k.1.2 in
    let reason : r ≡ s = cc in
    ap Rejected reason

pub shown_so : ShownIsSo
shown_so q (Equal c) h = by_style c.style h.pairs
  where
    by_style : (s : Style) → ShowsSame s q c → Same q
    by_style Plain shown = accepted_same plain q (set_pairs c) shown
    by_style UpTo shown = accepted_same up_to q (set_pairs c) shown
    by_style Under shown = accepted_under_same q (short_hyps q) (long_hyps q) (tested_pairs c) (split_by_degree q) shown
shown_so q (Different x) h = refuted_not_same q x h

-- a string with a finding refutes the problem, or the finding has a reason
pub string_given : (q : ProblemParts) (x : GuardedString) (f : Finding) → IsFinding q x f → MatchOption (finding_reason f) (Refutes q x) (λ r. IsFoundBy q (Different x) r)
string_given q x (FoundRefutes b) is = refuted_by q x b is
string_given q x (FoundShape k) is = (FoundShape k, is, refl)
string_given q x (FoundHypBroken h i j) is = (FoundHypBroken h i j, is, refl)
string_given q x (FoundEndsAgree b) is = (FoundEndsAgree b, is, refl)
