-- The replies of `try` satisfy the statements on the goal.
use Rattle.std.proofs.Common.{◌≡◌, ◌⊎◌, ◌<◌, ℕ, List, ◌++◌, length, slice_get, Some, inl, inr, sym, ◌∙◌, subst, arith}
use Rattle.kat_model.specs.Stores.{Store}
use Rattle.kat_model.specs.Strings.{GuardedString}
use Rattle.string_tables.specs.Tables.{Refutes}
use Rattle.while_lang.specs.Files.{FileParts}
use Rattle.while_lang.specs.Ranges.{IsNumbered}
use Rattle.problem_file.specs.Reads.{Reads}
use Rattle.while_lang.specs.Concrete.{IsConcrete, IsStoreOf}
use Rattle.problem_file.proofs.NumberedStates.{are_in_ranges}
use Rattle.abstraction.specs.Abstracts.{AbstractParts}
use Rattle.certificate.specs.Certs.{CertParts}
use Rattle.certificate.specs.declared.evidence.Evidence.{Evidence}
use Rattle.certificate.specs.declared.evidence.Evidence.TheVariants.{Equal, Different}
use Rattle.store_trials.specs.RunEnds.{EndParts}
use Rattle.store_trials.specs.Following.{followers}
use Rattle.store_trials.specs.Trials.{IsFirstFalse, IsTrial}
use Rattle.store_trials.specs.declared.trials.Trial.{Trial}
use Rattle.store_trials.specs.declared.trials.Trial.TheVariants.{Fails, NoneFails}
use Rattle.store_trials.proofs.FalseGoals.{shown_false, concrete_goal}
use Rattle.store_trials.proofs.TrialFacts.{first_or_none}
use Rattle.tool_inputs.specs.EvidenceBytes.{Spells, IsNoEvidence}
use Rattle.tool_inputs.specs.Steps.{AbstractsFile, PosesFor}
use Rattle.tool_inputs.proofs.Steps.{OneStatus, reads_denoted, reads_faulty, abstracts_as, abstracts_once, abstracts_small, small_status, reads_spelled, reads_no_evidence, reads_evidence_once}
use Rattle.tool_inputs.proofs.FileReplies.{HasOneReply}
use Rattle.tool_try.specs.TryTexts.{trial_text, trial_status, not_concrete_line}
use Rattle.tool_try.specs.Try.{TakesFile, AreTrialStores, HasTried, TriesStores, TriesFile, TriesText, FindsStore, FindsNone, TrialHeadline, TryHeadline, TryReply}
use Rattle.tool_try.specs.TryWith.{TriesFollowing, TriesEvidence, TriesBytes, TriesTexts, TryWithHeadline, TryWithReply}
use Rattle.tool_try.specs.Questions.{IsConcreteText, DeclinesConcrete}
use Rattle.tool_try.specs.Working.TakenFiles.{takes_it, takes_not}
use Rattle.tool_try.specs.Working.Questions.{posed_text}
use Rattle.tool_try.specs.Working.TrialStores.{trial_store_of, follower_of, one_list}

-- ---- a trial on stores

module _ (f : FileParts) (turns : ℕ) (concrete : IsConcrete f) (numbered : IsNumbered f) (stores : List Store) (are : (s : Store) (i : ℕ) → slice_get stores i ≡ Some s → IsStoreOf f s) (status : ℕ) (output : List ℕ) where
  -- the two ways in which a trial ends
  trial_ways : HasTried f turns stores status output → ((status ≡ 1) × FindsStore f turns stores output) ⊎ ((status ≡ 0) × FindsNone f turns stores output)
  trial_ways tried = by tried.trial tried.is_trial tried.has_status tried.printed
    where
      by : (t : Trial) → IsTrial f.width turns f.goal stores t → status ≡ trial_status t → output ≡ trial_text f.scope (length stores) t → ((status ≡ 1) × FindsStore f turns stores output) ⊎ ((status ≡ 0) × FindsNone f turns stores output)
      by (Fails s ends) first is given =
          let store = are s first.position first.listed in
          inl (
            is,
            record {
              store = s;
              ends = ends;
              is_store = store;
              first = first;
              is_false = shown_false f s turns ends concrete numbered.goal store first.are_ends first.show_false;
              printed = given;
            },
          )
      by (NoneFails cut) none is given = inr (is, record { cut = cut; none = none; printed = given })

  trial_found : HasTried f turns stores status output → (s : Store) (ends : List EndParts) → IsFirstFalse f.width turns f.goal stores s ends → status ≡ 1
  trial_found tried s ends first = by (trial_ways tried)
    where
      by : ((status ≡ 1) × FindsStore f turns stores output) ⊎ ((status ≡ 0) × FindsNone f turns stores output) → status ≡ 1
      by (inl h) = h.0
      by (inr h) = absurd (first_or_none f.width turns f.goal (concrete_goal f concrete numbered.goal) stores s ends h.1.cut first h.1.none)

  pub tried_headline : HasTried f turns stores status output → TrialHeadline f turns stores status output
  tried_headline tried = by (trial_ways tried)
    where
      by : ((status ≡ 1) × FindsStore f turns stores output) ⊎ ((status ≡ 0) × FindsNone f turns stores output) → TrialHeadline f turns stores status output
      by (inl (one, found)) = record {
        answers = inr one;
        found = ((λ e. (found.store, found.ends, found.first)), (λ h. one));
        shown = λ e. found;
        none = λ e. absurd (omega (arith, e, one));
      }
      by (inr (nought, none)) = record {
        answers = inl nought;
        found = ((λ e. absurd (omega (arith, e, nought))), (λ h. trial_found tried h.0 h.1 h.2));
        shown = λ e. absurd (omega (arith, e, nought));
        none = λ e. none;
      }

-- ---- `try` FILE TURNS

module _ (f : FileParts) (turns : ℕ) (numbered : IsNumbered f) (status : ℕ) (output : List ℕ) where
  file_headline : TriesFile f turns status output → TryHeadline f turns status output
  file_headline (inl (none, (two, line))) = record {
    answers = inr (inr two);
    refused = ((λ e. none), (λ h. two));
    refused_line = λ e. line;
    tried = λ concrete. absurd (none concrete);
  }
  file_headline (inr (concrete, (stores, are, tried))) =
      let given : TrialHeadline f turns stores status output = tried_headline f turns concrete numbered stores (trial_store_of f stores are) status output tried in
      record {
        answers = below given.answers;
        refused = ((λ e. absurd (not_two given.answers e)), (λ h. absurd (h concrete)));
        refused_line = λ e. absurd (not_two given.answers e);
        tried = λ c. (stores, are, given);
      }
    where
      below : (status ≡ 0) ⊎ (status ≡ 1) → (status ≡ 0) ⊎ ((status ≡ 1) ⊎ (status ≡ 2))
      below (inl h) = inl h
      below (inr h) = inr (inl h)

      not_two : (status ≡ 0) ⊎ (status ≡ 1) → status ≡ 2 → ⊥
      not_two (inl h) e = omega (arith, h, e)
      not_two (inr h) e = omega (arith, h, e)

pub try_reply : (text : List ℕ) (turns : ℕ) (status : ℕ) (output : List ℕ) → TriesText text turns status output → TryReply text turns status output
try_reply text turns status output r = record {
  replies = r;
  headline = λ f reads. file_headline f turns (are_in_ranges text f reads) status output (reads_denoted text (λ g. TriesFile g turns) status output f reads r);
  declined = λ line fault. reads_faulty text (λ f. TriesFile f turns) status output line fault r;
}

text_small : (text : List ℕ) (turns : ℕ) (status : ℕ) (output : List ℕ) → TriesText text turns status output → status < 4
text_small text turns status output (inl r) = small_status status (inr (inr (inl r.0)))
text_small text turns status output (inr (f, reads, r)) = below (file_headline f turns (are_in_ranges text f reads) status output r).answers
  where
    below : (status ≡ 0) ⊎ ((status ≡ 1) ⊎ (status ≡ 2)) → status < 4
    below h = grind (arith, h)

-- ---- one status

module _ (f : FileParts) (turns : ℕ) (concrete : IsConcrete f) (numbered : IsNumbered f) (stores : List Store) (are : (s : Store) (i : ℕ) → slice_get stores i ≡ Some s → IsStoreOf f s) where
  tried_once : OneStatus (HasTried f turns stores)
  tried_once a b o p x y = by (trial_ways f turns concrete numbered stores are a o x) (trial_ways f turns concrete numbered stores are b p y)
    where
      by : ((a ≡ 1) × FindsStore f turns stores o) ⊎ ((a ≡ 0) × FindsNone f turns stores o) → ((b ≡ 1) × FindsStore f turns stores p) ⊎ ((b ≡ 0) × FindsNone f turns stores p) → a ≡ b
      by (inl g) (inl h) = g.0 ∙ sym h.0
      by (inl g) (inr h) = absurd (first_or_none f.width turns f.goal (concrete_goal f concrete numbered.goal) stores g.1.store g.1.ends h.1.cut g.1.first h.1.none)
      by (inr g) (inl h) = absurd (first_or_none f.width turns f.goal (concrete_goal f concrete numbered.goal) stores h.1.store h.1.ends g.1.cut h.1.first g.1.none)
      by (inr g) (inr h) = g.0 ∙ sym h.0

file_once : (f : FileParts) (turns : ℕ) → IsNumbered f → OneStatus (TriesFile f turns)
file_once f turns numbered a b o p (inl x) y = x.1.0 ∙ sym (takes_not (IsConcrete f) not_concrete_line (TriesStores f turns) b p x.0 y).0
file_once f turns numbered a b o p (inr (concrete, (stores, are, x))) y =
    let other : TriesStores f turns b p = takes_it (IsConcrete f) not_concrete_line (TriesStores f turns) b p concrete y in
    tried_once f turns concrete numbered stores (trial_store_of f stores are) a b o p x
    (subst (λ l. HasTried f turns l b p) (one_list f other.0 stores other.1 are) other.2)

text_once : (text : List ℕ) (turns : ℕ) → OneStatus (TriesText text turns)
text_once text turns a b o p (inl x) y = x.0 ∙ sym (reads_faulty text (λ f. TriesFile f turns) b p o x.1 y).0
text_once text turns a b o p (inr (f, reads, x)) y =
    file_once f turns (are_in_ranges text f reads) a b o p x (reads_denoted text (λ g. TriesFile g turns) b p f reads y)

pub try_one : (text : List ℕ) (turns : ℕ) → HasOneReply (TryReply text turns) ⊥
try_one text turns = record {
  small = λ status output r. inl (text_small text turns status output r.replies);
  once = λ a b o p x y. text_once text turns a b o p x.replies y.replies;
}

-- ---- `try` FILE TURNS EVIDENCE

module _ (turns : ℕ) (bytes : List ℕ) (f : FileParts) (a : AbstractParts) (concrete : IsConcrete f) (numbered : IsNumbered f) (status : ℕ) (output : List ℕ) where
  followed_headline : (x : GuardedString) (r : TriesFollowing f a turns x status output) → TrialHeadline f turns (followers a x r.stores ++ r.stores) status output
  followed_headline x r = tried_headline f turns concrete numbered (followers a x r.stores ++ r.stores) (follower_of f a x r.stores r.are_stores) status output r.tried

  -- the possible statuses, each with its cause
  abbrev Rejected : Type 0
  Rejected = ((c : CertParts) × Spells bytes (Equal c)) ⊎ ((x : GuardedString) × Spells bytes (Different x) × (Refutes a.problem x → ⊥))

  abbrev Tried : Type 0
  Tried = (x : GuardedString) × Spells bytes (Different x) × TriesFollowing f a turns x status output

  bytes_ways : TriesBytes turns f a bytes status output → Tried ⊎ (((status ≡ 2) × IsNoEvidence bytes output) ⊎ ((status ≡ 3) × Rejected))
  bytes_ways (inl r) = inr (inl r)
  bytes_ways (inr (Equal c, s, r)) = inr (inr (r.0, inl (c, s)))
  bytes_ways (inr (Different x, s, inl r)) = inr (inr (r.has_status, inr (x, s, r.fails)))
  bytes_ways (inr (Different x, s, inr r)) = inl (x, s, r)

  rejected_status : Rejected → TriesBytes turns f a bytes status output → status ≡ 3
  rejected_status (inl (c, s)) r = (reads_spelled bytes (TriesEvidence f a turns) status output (Equal c) s r).0
  rejected_status (inr (x, s, none)) r = by (reads_spelled bytes (TriesEvidence f a turns) status output (Different x) s r)
    where
      by : TriesEvidence f a turns (Different x) status output → status ≡ 3
      by (inl h) = h.has_status
      by (inr h) = absurd (none h.refutes)

  followed : (x : GuardedString) → Spells bytes (Different x) → Refutes a.problem x → TriesBytes turns f a bytes status output → TriesFollowing f a turns x status output
  followed x s refutes r = by (reads_spelled bytes (TriesEvidence f a turns) status output (Different x) s r)
    where
      by : TriesEvidence f a turns (Different x) status output → TriesFollowing f a turns x status output
      by (inl h) = absurd (h.fails refutes)
      by (inr h) = h

  with_headline : TriesBytes turns f a bytes status output → TryWithHeadline turns bytes f a status output
  with_headline r = by (bytes_ways r)
    where
      tried_so : (x : GuardedString) → Spells bytes (Different x) → Refutes a.problem x → (stores : List Store) × AreTrialStores f stores × TrialHeadline f turns (followers a x stores ++ stores) status output
      tried_so x s refutes = let h = followed x s refutes r in (h.stores, h.are_stores, followed_headline x h)

      small : (status ≡ 0) ⊎ (status ≡ 1) → (n : ℕ) → 1 < n → status ≡ n → ⊥
      small (inl h) n big e = omega (arith, h, big, e)
      small (inr h) n big e = omega (arith, h, big, e)

      first_two : (status ≡ 0) ⊎ (status ≡ 1) → (status ≡ 0) ⊎ ((status ≡ 1) ⊎ ((status ≡ 2) ⊎ (status ≡ 3)))
      first_two (inl h) = inl h
      first_two (inr h) = inr (inl h)

      by : Tried ⊎ (((status ≡ 2) × IsNoEvidence bytes output) ⊎ ((status ≡ 3) × Rejected)) → TryWithHeadline turns bytes f a status output
      by (inl (x, s, h)) =
          let given = (followed_headline x h).answers in
          record {
            answers = first_two given;
            faulty = ((λ e. absurd (small given 2 (omega arith) e)), (λ fault. reads_no_evidence bytes (TriesEvidence f a turns) status output fault.0 fault.1 r));
            rejected = ((λ e. absurd (small given 3 (omega arith) e)), (λ no. rejected_status no r));
            tried = tried_so;
          }
      by (inr (inl h)) = record {
        answers = inr (inr (inl h.0));
        faulty = ((λ e. (h.1.fault, h.1.first)), (λ fault. h.0));
        rejected = ((λ e. absurd (omega (arith, e, h.0))), (λ no. rejected_status no r));
        tried = tried_so;
      }
      by (inr (inr h)) = record {
        answers = inr (inr (inr h.0));
        faulty = ((λ e. absurd (omega (arith, e, h.0))), (λ fault. reads_no_evidence bytes (TriesEvidence f a turns) status output fault.0 fault.1 r));
        rejected = ((λ e. h.1), (λ no. h.0));
        tried = tried_so;
      }

with_steps : (turns : ℕ) (text bytes : List ℕ) (status : ℕ) (output : List ℕ) → TriesTexts turns text bytes status output → TryWithReply turns text bytes status output
with_steps turns text bytes status output r = record {
  replies = r;
  headline = λ f a reads concrete is.
      with_headline turns bytes f a concrete (are_in_ranges text f reads) status output
      (abstracts_as f (λ b. TriesBytes turns f b bytes) status output a is
      (takes_it (IsConcrete f) not_concrete_line (AbstractsFile f (λ b. TriesBytes turns f b bytes)) status output concrete
      (reads_denoted text (λ g. TakesFile (IsConcrete g) not_concrete_line (AbstractsFile g (λ b. TriesBytes turns g b bytes))) status output f reads r)));
  unfit = λ f reads none.
      takes_not (IsConcrete f) not_concrete_line (AbstractsFile f (λ a. TriesBytes turns f a bytes)) status output none
      (reads_denoted text (λ g. TakesFile (IsConcrete g) not_concrete_line (AbstractsFile g (λ a. TriesBytes turns g a bytes))) status output f reads r);
  declined = λ line fault. reads_faulty text (λ f. TakesFile (IsConcrete f) not_concrete_line (AbstractsFile f (λ a. TriesBytes turns f a bytes))) status output line fault r;
}

pub try_with_reply : (turns : ℕ) (text bytes : List ℕ) (status : ℕ) (output : List ℕ) → PosesFor (DeclinesConcrete text) (IsConcreteText text) (λ s. TriesBytes turns s.file s.shown bytes) status output → TryWithReply turns text bytes status output
try_with_reply turns text bytes status output posed = with_steps turns text bytes status output (posed_text text (λ f a. TriesBytes turns f a bytes) status output posed)

-- ---- one status

module _ (turns : ℕ) (f : FileParts) (a : AbstractParts) (concrete : IsConcrete f) (numbered : IsNumbered f) where
  evidence_once : (e : Evidence) → OneStatus (TriesEvidence f a turns e)
  evidence_once (Equal c) s t o p x y = x.0 ∙ sym y.0
  evidence_once (Different z) s t o p (inl x) (inl y) = x.has_status ∙ sym y.has_status
  evidence_once (Different z) s t o p (inl x) (inr y) = absurd (x.fails y.refutes)
  evidence_once (Different z) s t o p (inr x) (inl y) = absurd (y.fails x.refutes)
  evidence_once (Different z) s t o p (inr x) (inr y) =
      tried_once f turns concrete numbered (followers a z x.stores ++ x.stores) (follower_of f a z x.stores x.are_stores) s t o p x.tried
      (subst (λ l. HasTried f turns (followers a z l ++ l) t p) (one_list f y.stores x.stores y.are_stores x.are_stores) y.tried)

  with_bytes_once : (bytes : List ℕ) → OneStatus (TriesBytes turns f a bytes)
  with_bytes_once bytes = reads_evidence_once bytes (TriesEvidence f a turns) evidence_once

with_once : (turns : ℕ) (text bytes : List ℕ) → OneStatus (TriesTexts turns text bytes)
with_once turns text bytes a b o p (inl x) y =
    x.0 ∙ sym (reads_faulty text (λ f. TakesFile (IsConcrete f) not_concrete_line (AbstractsFile f (λ c. TriesBytes turns f c bytes))) b p o x.1 y).0
with_once turns text bytes a b o p (inr (f, reads, x)) y =
    taken_once x (reads_denoted text (λ g. TakesFile (IsConcrete g) not_concrete_line (AbstractsFile g (λ c. TriesBytes turns g c bytes))) b p f reads y)
  where
    taken_once : TakesFile (IsConcrete f) not_concrete_line (AbstractsFile f (λ c. TriesBytes turns f c bytes)) a o → TakesFile (IsConcrete f) not_concrete_line (AbstractsFile f (λ c. TriesBytes turns f c bytes)) b p → a ≡ b
    taken_once (inl z) w = z.1.0 ∙ sym (takes_not (IsConcrete f) not_concrete_line (AbstractsFile f (λ c. TriesBytes turns f c bytes)) b p z.0 w).0
    taken_once (inr (concrete, z)) w =
        abstracts_once f (λ c. TriesBytes turns f c bytes) (λ c. with_bytes_once turns f c concrete (are_in_ranges text f reads) bytes) a b o p z
        (takes_it (IsConcrete f) not_concrete_line (AbstractsFile f (λ c. TriesBytes turns f c bytes)) b p concrete w)

with_small : (turns : ℕ) (text bytes : List ℕ) (status : ℕ) (output : List ℕ) → TriesTexts turns text bytes status output → status < 4
with_small turns text bytes status output (inl r) = small_status status (inr (inr (inl r.0)))
with_small turns text bytes status output (inr (f, reads, inl r)) = small_status status (inr (inr (inl r.1.0)))
with_small turns text bytes status output (inr (f, reads, inr (concrete, r))) =
    abstracts_small f (λ c. TriesBytes turns f c bytes) (λ c s o h. small_status s (with_headline turns bytes f c concrete (are_in_ranges text f reads) s o h).answers) status output r

pub try_with_one : (turns : ℕ) (text bytes : List ℕ) → HasOneReply (TryWithReply turns text bytes) ⊥
try_with_one turns text bytes = record {
  small = λ status output r. inl (with_small turns text bytes status output r.replies);
  once = λ a b o p x y. with_once turns text bytes a b o p x.replies y.replies;
}
