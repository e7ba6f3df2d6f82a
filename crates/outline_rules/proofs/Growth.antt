-- Notes with an additional line that passes keep the rules.
use Rattle.std.proofs.Common.{◌≡◌, ℕ, ◌<◌, inl, ⊎_elim, List, [], ◌∷◌, length, true, nat_lt, refl, sym, subst, arith, ltb-true}
use Rattle.std.proofs.lemmas.Bool.{lt-ltb}
use Rattle.std.proofs.lemmas.List.{length_push}
use Rattle.kat_model.specs.Members.{Has}
use Rattle.kat_model.proofs.Lists.{has_pushed, no_doubles_pushed, has_all, all_has}
use Rattle.kat_model.proofs.Places.{slice_get_last}
use Rattle.line_format.proofs.KnownLines.{lacks_any}
use Rattle.line_format.proofs.LineTests.{Passes}
use Rattle.outline_rules.specs.declared.line.NoteLine.{NoteLine}
use Rattle.outline_rules.specs.declared.line.NoteLine.TheVariants.{Node, Note}
use Rattle.outline_rules.specs.NoteLists.{NotesParts, node_parts, AreNotes}
use Rattle.outline_rules.specs.Faults.{are_below, same_node, with_line, note_format}
use Rattle.outline_rules.proofs.KnownNodes.{same_node_equal, node_same_itself}

-- the test `are_below` is true exactly when all numbers are below the count
pub below_has : (n : ℕ) (ks : List ℕ) → are_below n ks ≡ true → (k : ℕ) → Has ks k → k < n
below_has n ks e k h = ltb-true k n (has_all (λ j. nat_lt j n) ks e k h)

pub has_below : (n : ℕ) (ks : List ℕ) → ((k : ℕ) → Has ks k → k < n) → are_below n ks ≡ true
has_below n ks each = all_has (λ j. nat_lt j n) ks (λ k h. lt-ltb k n (each k h))

pub notes_grown : (ns : NotesParts) (l : NoteLine) → AreNotes ns → Passes note_format ns l → AreNotes (with_line ns l)
notes_grown ns (Node n) are p =
    record {
      ordered = λ k node e part h.
          ⊎_elim
          (λ q. are.ordered k node q part h)
          (λ q. subst (λ i. part < i) (sym q.0) (below_has (length ns.nodes) (node_parts n) p.earlier part (subst (λ m. Has (node_parts m) part) (sym q.1) h)))
          (slice_get_last ns.nodes n k node e);
      once = no_doubles_pushed ns.nodes n are.once (lacks_any same_node same_node_equal node_same_itself ns.nodes n p.new);
      notes = λ k h. let low = are.notes k h in omega (arith, low, length_push ns.nodes n);
    }
notes_grown ns (Note k) are p =
    record {
      ordered = are.ordered;
      once = are.once;
      notes = λ j h. ⊎_elim (are.notes j) (λ e. subst (λ i. i < length ns.nodes) e (below_has (length ns.nodes) (k ∷ []) p.earlier k (inl refl))) (has_pushed ns.notes k j h);
    }
