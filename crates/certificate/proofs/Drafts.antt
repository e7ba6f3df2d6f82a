-- Drafts with an additional entry.
use Rattle.std.proofs.Common.{◌≡◌, ℕ, true, Some, None, refl, sym, subst}
use Rattle.kat_model.specs.Members.{Has, SameMembers}
use Rattle.term_nodes.specs.declared.TestNode.{TestNode}
use Rattle.term_nodes.specs.declared.TermNode.{TermNode}
use Rattle.certificate.specs.declared.entry.Entry.{Entry}
use Rattle.certificate.specs.declared.entry.Entry.TheVariants.{TestLine, TermLine, PairLine}
use Rattle.certificate.specs.declared.draft.Draft.{Draft}
use Rattle.certificate.specs.declared.evidence.EvidenceFault.TheVariants.{DoubleNode}
use Rattle.certificate.specs.Certs.{IsCert}
use Rattle.line_format.specs.NumberedLines.{fault_of}
use Rattle.line_format.proofs.KnownLines.{any_same, any_lacks}
use Rattle.line_format.proofs.LineTests.{Passes, passes_faultless, double_fault}
use Rattle.certificate.specs.Faults.{with_entry, entry_format}
use Rattle.term_nodes.specs.Nodes.{same_test_node, same_term_node}
use Rattle.term_nodes.specs.NumberSets.{are_ascending}
use Rattle.certificate.specs.PairParts.{PairParts}
use Rattle.certificate.specs.Working.Readings.{draft_parts, IsDraft, MayBeAdded}
use Rattle.certificate.proofs.Growth.{cert_grown, same_test_equal, test_same_itself, same_term_equal, term_same_itself}

module _ (d : Draft) (n : ℕ) where
  -- a known node is a duplicate
  pub test_double : (node : TestNode ℕ) → IsDraft d → MayBeAdded d (TestLine node) → Has d.known_tests.keys node → fault_of entry_format (draft_parts d) n (TestLine node) ≡ Some (DoubleNode n)
  test_double node draft may known =
      double_fault entry_format (draft_parts d) n (TestLine node) may.allowed may.narrow may.earlier (any_same same_test_node same_test_equal test_same_itself d.test_nodes.items node ((draft.tests node).0 known))

  pub term_double : (node : TermNode ℕ ℕ) → IsDraft d → MayBeAdded d (TermLine node) → Has d.known_terms.keys node → fault_of entry_format (draft_parts d) n (TermLine node) ≡ Some (DoubleNode n)
  term_double node draft may known =
      double_fault entry_format (draft_parts d) n (TermLine node) may.allowed may.narrow may.earlier (any_same same_term_node same_term_equal term_same_itself d.term_nodes.items node ((draft.terms node).0 known))

  -- a new node passes
  pub test_passes : (node : TestNode ℕ) → IsDraft d → MayBeAdded d (TestLine node) → (Has d.known_tests.keys node → ⊥) → Passes entry_format (draft_parts d) (TestLine node)
  test_passes node draft may new =
      record {
        allowed = may.allowed;
        narrow = may.narrow;
        earlier = may.earlier;
        new = any_lacks same_test_node same_test_equal test_same_itself d.test_nodes.items node (λ h. new ((draft.tests node).1 h));
        last = refl;
      }

  pub term_passes : (node : TermNode ℕ ℕ) → IsDraft d → MayBeAdded d (TermLine node) → (Has d.known_terms.keys node → ⊥) → Passes entry_format (draft_parts d) (TermLine node)
  term_passes node draft may new =
      record {
        allowed = may.allowed;
        narrow = may.narrow;
        earlier = may.earlier;
        new = any_lacks same_term_node same_term_equal term_same_itself d.term_nodes.items node (λ h. new ((draft.terms node).1 h));
        last = refl;
      }

  -- adding a passing entry to a draft gives a draft
  pub added : (e : Entry) (new : Draft) → IsDraft d → Passes entry_format (draft_parts d) e → draft_parts new ≡ with_entry (draft_parts d) e → SameMembers new.known_tests.keys new.test_nodes.items → SameMembers new.known_terms.keys new.term_nodes.items
      → IsDraft new × ((f : Entry) × (◌≡◌ {A = _} (Some e) (Some f)) × (fault_of entry_format (draft_parts d) n f ≡ None) × (draft_parts new ≡ with_entry (draft_parts d) f))
  added e new draft passes is tests terms = (
    record { cert = subst IsCert (sym is) (cert_grown (draft_parts d) e draft.cert passes); tests = tests; terms = terms },
    (e, refl, passes_faultless entry_format (draft_parts d) n e passes, is),
  )

  -- a pair of ascending sets passes
  pub pair_passes : (p : PairParts) → MayBeAdded d (PairLine p) → are_ascending p.left ≡ true → are_ascending p.right ≡ true → Passes entry_format (draft_parts d) (PairLine p)
  pair_passes p may left right =
      record { allowed = may.allowed; narrow = may.narrow; earlier = may.earlier; new = refl; last = rw (left, right) refl }
