-- Processing of a pair: the steps of its sets, an atom at which exactly one set accepts, and one action after the
-- other.
use Rattle.std.proofs.Common.{◌≡◌, ◌≢◌, ◌≤◌, ◌<◌, ◌+◌, inl, inr, ⊎_elim, ℕ, zero, suc, Bool, true, false, ◌&&◌, List, [], ◌∷◌, ◌++◌, slice_get, Some, refl, sym, ap, ◌∙◌, subst, arith}
use mathlib.Core.Path.{ap₂}
use Rattle.std.specs.Bool.{IsTrue}
use Rattle.std.specs.Option.{option_map}
use Rattle.std.proofs.lemmas.Option.{same_Some}
use Rattle.kat_model.specs.Trees.{Term}
use Rattle.kat_model.specs.Members.{Has}
use Rattle.kat_model.specs.Steps.{Atom, set_out, set_next}
use Rattle.kat_model.specs.Problems.{ProblemParts}
use Rattle.kat_model.proofs.Places.{has_at}
use Rattle.kat_model.proofs.Lists.{has_append}
use Rattle.term_nodes.specs.NodeLists.{NodeParts, AreNodes}
use Rattle.term_nodes.specs.NodeTrees.{tree_at}
use Rattle.term_nodes.specs.NumberSets.{terms_of}
use Rattle.test_diagrams.specs.Functions.{DiagramsParts, value_of, IsDiagramId, IsAtomOf, IsDiagramOf, KeepsFunctions}
use Rattle.test_diagrams.proofs.Kept.{KeepsFunctions-itself, KeepsFunctions-trans}
use Rattle.partial_derivs.specs.declared.moves.Steps.{Steps}
use Rattle.partial_derivs.specs.Moves.{IsTermOf, IsStepsOf, Keeps}
use Rattle.partial_derivs.specs.Tables.{AreRight}
use Rattle.partial_derivs.proofs.Kept.{IsTermOf-kept, IsStepsBy-kept, Keeps-functions}
use Rattle.walk_pairs.specs.Items.{AreItemsOf, AreLedTo}
use Rattle.walk_pairs.specs.declared.items.Item.{Item}
use Rattle.walk_pairs.proofs.NextSets.{next_of_ids, target_term}
use Rattle.walk_under.specs.TestedWalks.{TestedEntry, AreJoinedAfter, IsTaken, IsTestedWalk}
use Rattle.walk_regions.specs.Entries.{EntryParts}
use Rattle.walk_regions.specs.Allowance.{IsAllowance}
use Rattle.walk_regions.specs.declared.allowed.AllowedMoves.{AllowedMoves}
use Rattle.walk_under.specs.Working.IdEntries.{pair_of, entry_of, entries_of, IsIdEntry}
use Rattle.walk_pairs.specs.IdSets.{IsIdSet}
use Rattle.walk_under.specs.Working.Walking.{WalkContext, walk_context, IsUnderWay, IsAtSource, IsVisited, AreNextItems, IsTaking, IsTakenPair, HasStepped, IsDifference, Distinguish, AcceptAlike}
use Rattle.walk_regions.specs.declared.listing.Listing.{Listing}
use Rattle.walk_under.specs.declared.walk.TestedWorklist.{TestedWorklist}
use Rattle.walk_under.specs.declared.walk.StepSource.{StepSource}
use Rattle.walk_under.specs.declared.walk.TakenPair.{TakenPair}
use Rattle.walk_pairs.specs.declared.found.BothSteps.{BothSteps}
use Rattle.walk_under.proofs.WalkSteps.{first_entry, walk_takes}
use Rattle.walk_regions.proofs.Allowances.{allowance_kept}
use Rattle.walk_under.proofs.JoinedAt.{entry_at}
use Rattle.walk_under.proofs.Standing.{entries_same, id_entry_kept, under_way_kept}
use Rattle.walk_under.proofs.Visiting.{joined_grown}
use Rattle.walk_pairs.proofs.ClosedTerms.{universal_kept}

-- ---- levels

-- the level of an entry is at most its place
level_below : (shorts : List Term) (q : ProblemParts) (es : List TestedEntry) (done : ℕ) → IsTestedWalk shorts q es done → (n k : ℕ) (e : TestedEntry) → k < n → slice_get es k ≡ Some e → e.level ≤ k
level_below shorts q es done walk zero k e l at = absurd (omega arith)
level_below shorts q es done walk (suc n) zero e l at =
    subst (λ (x : TestedEntry). x.level ≤ 0) (same_Some (first_entry q walk.start) e (sym walk.first ∙ at)) (omega arith)
level_below shorts q es done walk (suc n) (suc k) e l at =
    let c = walk.origins k e at in
    let before = level_below shorts q es done walk n c.origin.place c.from (let m = c.earlier in omega arith) c.at in
    let m = c.earlier in
    let s = c.level in
    omega arith

pub level_within : (s : WalkContext) (w : TestedWorklist) (place : ℕ) (from : EntryParts) → IsUnderWay s w place → slice_get w.listing.entries.items place ≡ Some from → from.level ≤ place
level_within s w place from u at =
    level_below s.shorts s.problem (entries_of s.store w.diagrams w.listing.entries.items) place u.walk (suc place) place (entry_of s.store w.diagrams from) (omega arith) (entry_at s.store w.diagrams w.listing.entries.items place from at)

-- ---- a store that grows

module _ (s t : NodeParts) (c d : DiagramsParts) (kept : Keeps s t c d) where
  pub terms_kept : (ids : List ℕ) → IsIdSet s c.tests ids → terms_of t ids ≡ terms_of s ids
  terms_kept ids set = go ids set.there
    where
      go : (ks : List ℕ) → ((i : ℕ) → Has ks i → IsTermOf s c.tests i) → terms_of t ks ≡ terms_of s ks
      go [] there = refl
      go (k ∷ ks) there = ap₂ (λ (x : Term) (xs : List Term). x ∷ xs) (kept.trees.trees k (there k (inl refl)).is_id) (go ks (λ j h. there j (inr h)))

  pub set_kept : (ids : List ℕ) → IsIdSet s c.tests ids → IsIdSet t d.tests ids
  set_kept ids set = record { there = λ i h. IsTermOf-kept s t c d kept i (set.there i h); ascending = set.ascending }

  stored_same : (allowed : ℕ) (e : EntryParts) → IsIdEntry s c allowed e → entry_of t d e ≡ entry_of s d e
  stored_same allowed e is = ap₂ (λ l r. with_sets l r) (terms_kept e.left is.left) (terms_kept e.right is.right)
    where
      with_sets : List Term → List Term → TestedEntry
      with_sets l r = record { pair = record { left = l; right = r }; test = value_of d e.test; level = e.level; origin = (entry_of s d e).origin }

  stored_all : (allowed : ℕ) (es : List EntryParts) → ((e : EntryParts) → Has es e → IsIdEntry s c allowed e) → entries_of t d es ≡ entries_of s d es
  stored_all allowed [] are = refl
  stored_all allowed (e ∷ es) are = ap₂ (λ (x : TestedEntry) (xs : List TestedEntry). x ∷ xs) (stored_same allowed e (are e (inl refl))) (stored_all allowed es (λ f h. are f (inr h)))

pub under_way_stored : (shorts : List Term) (q : ProblemParts) (s t : NodeParts) (done : ℕ) (w x : TestedWorklist) → Keeps s t w.diagrams x.diagrams → AreNodes t → AreRight t x.diagrams x.derivatives → x.listing.entries.items ≡ w.listing.entries.items → x.listing.universal ≡ w.listing.universal → x.moves ≡ w.moves
    → IsUnderWay (walk_context shorts q s) w done → IsUnderWay (walk_context shorts q t) x done
under_way_stored shorts q s t done w x kept sound right entries universal moves u = record {
  sound = sound;
  tests = kept.functions.tests ∙ u.tests;
  allowance = subst (IsAllowance x.diagrams shorts q.actions) (sym moves) (allowance_kept w.diagrams x.diagrams kept.functions shorts q.actions w.moves u.allowance);
  right = right;
  entries = λ e h.
      let own = u.entries e (subst (λ (l : List EntryParts). Has l e) entries h) in
      let later = id_entry_kept s w.diagrams x.diagrams kept.functions w.moves.allowed e u.allowance.allowed.in_range own in
      subst (λ (m : AllowedMoves). IsIdEntry t x.diagrams m.allowed e) (sym moves)
      (record { left = set_kept s t w.diagrams x.diagrams kept e.left own.left; right = set_kept s t w.diagrams x.diagrams kept e.right own.right; test = later.test; within = later.within; region = later.region });
  universal = ap (option_map (tree_at t)) universal ∙ universal_kept s t kept.trees w.listing.universal u.universal_id ∙ u.universal;
  universal_id = λ i e. kept.trees.term_numbers i (u.universal_id i (sym universal ∙ e));
  walk =
      subst (λ es. IsTestedWalk shorts q es done)
      (sym (ap (entries_of t x.diagrams) entries
      ∙ stored_all s t w.diagrams x.diagrams kept w.moves.allowed w.listing.entries.items u.entries
      ∙ entries_same s w.diagrams x.diagrams kept.functions w.moves.allowed w.listing.entries.items u.entries))
      u.walk;
}

-- the steps of both sets, one after the other
pub steps_taken : (shorts : List Term) (q : ProblemParts) (s t u : NodeParts) (place : ℕ) (w x : TestedWorklist) (c : DiagramsParts) (e : EntryParts) (steps : BothSteps) → IsUnderWay (walk_context shorts q s) w place → slice_get w.listing.entries.items place ≡ Some e → Keeps s t w.diagrams c → Keeps t u c x.diagrams
    → IsUnderWay (walk_context shorts q u) x place → x.listing.entries.items ≡ w.listing.entries.items → IsStepsOf t c (terms_of s e.left) steps.left → IsStepsOf u x.diagrams (terms_of t e.right) steps.right → IsTaking (walk_context shorts q u) x place e steps
steps_taken shorts q s t u place w x c e steps way at first second later entries left right =
    let own = way.entries e (has_at w.listing.entries.items place e at) in
    let left_set = set_kept s t w.diagrams c first e.left own.left in
    let right_set = set_kept s t w.diagrams c first e.right own.right in
    record {
      under_way = later;
      at = ap (λ (l : List EntryParts). slice_get l place) entries ∙ at;
      left =
          subst (λ es. IsStepsOf u x.diagrams es steps.left) (sym (terms_kept t u c x.diagrams second e.left left_set))
          (IsStepsBy-kept t u c x.diagrams second (set_out (terms_of t e.left)) (set_next (terms_of t e.left)) steps.left
          (subst (λ es. IsStepsOf t c es steps.left) (sym (terms_kept s t w.diagrams c first e.left own.left)) left));
      right = subst (λ es. IsStepsOf u x.diagrams es steps.right) (sym (terms_kept t u c x.diagrams second e.right right_set)) right;
    }

-- ---- outputs

both_parts : (t a b : Bool) → ((t && a) ≡ (t && b) → ⊥) → (t ≡ true) × (a ≡ b → ⊥)
both_parts true a b ne = (refl, ne)
both_parts false a b ne = absurd (ne refl)

module _ (c₀ c₁ c₂ : DiagramsParts) (k₀ : KeepsFunctions c₀ c₁) (k₁ : KeepsFunctions c₁ c₂) (test left right : ℕ) (steps : BothSteps) (test_is : IsDiagramId c₀ test) (r_is : IsDiagramId c₀ steps.right.accepts)
    (on_left : IsDiagramOf c₁ left (λ a. value_of c₀ test a && value_of c₀ steps.left.accepts a)) (on_right : IsDiagramOf c₂ right (λ a. value_of c₁ test a && value_of c₁ steps.right.accepts a)) where
  left_value : (atom : Atom) → IsAtomOf c₀ atom → value_of c₂ left atom ≡ (value_of c₀ test atom && value_of c₀ steps.left.accepts atom)
  left_value atom fits = k₁.values left on_left.in_range atom ∙ on_left.value atom (fits ∙ sym k₀.tests)

  right_value : (atom : Atom) → IsAtomOf c₀ atom → value_of c₂ right atom ≡ (value_of c₀ test atom && value_of c₀ steps.right.accepts atom)
  right_value atom fits = on_right.value atom (fits ∙ sym k₀.tests ∙ sym k₁.tests) ∙ ap₂ (λ x y. x && y) (k₀.values test test_is atom) (k₀.values steps.right.accepts r_is atom)

  pub outputs_alike : left ≡ right → AcceptAlike c₀ test steps
  outputs_alike same atom fits there =
      drop_first (value_of c₀ test atom) (value_of c₀ steps.left.accepts atom) (value_of c₀ steps.right.accepts atom) there
      (sym (left_value atom fits) ∙ ap (λ i. value_of c₂ i atom) same ∙ right_value atom fits)
    where
      drop_first : (t a b : Bool) → t ≡ true → (t && a) ≡ (t && b) → a ≡ b
      drop_first true a b e f = f
      drop_first false a b e f = absurd cc

  pub outputs_apart : (atom : Atom) → IsAtomOf c₂ atom → value_of c₂ left atom ≢ value_of c₂ right atom → Distinguish c₀ test steps atom
  outputs_apart atom wide ne =
      let fits = wide ∙ k₁.tests ∙ k₀.tests in
      let both = both_parts (value_of c₀ test atom) (value_of c₀ steps.left.accepts atom) (value_of c₀ steps.right.accepts atom) (λ e. ne (left_value atom fits ∙ e ∙ sym (right_value atom fits))) in
      record { fits = fits; there = both.0; differ = both.1 }

pub is_difference : (s : WalkContext) (w x : TestedWorklist) (place : ℕ) (e : EntryParts) (steps : BothSteps) (test : ℕ) (atom : Atom) → KeepsFunctions w.diagrams x.diagrams → x.listing ≡ w.listing → IsTaking s w place e steps → test ≡ e.test → Distinguish w.diagrams test steps atom → IsDifference s x place atom
is_difference s w x place e steps test atom kept listing taking same apart = record {
  from = e;
  at = ap (λ (l : Listing). slice_get l.entries.items place) listing ∙ taking.at;
  fits = apart.fits ∙ sym kept.tests;
  there = kept.values e.test (taking.under_way.entries e (has_at w.listing.entries.items place e taking.at)).test atom ∙ ap (λ i. value_of w.diagrams i atom) (sym same) ∙ apart.there;
  differ = λ out. apart.differ (taking.left.accepts.value atom apart.fits ∙ out ∙ sym (taking.right.accepts.value atom apart.fits));
}

-- ---- the actions

pub items_next : (s : WalkContext) (w : TestedWorklist) (source : StepSource) (from : EntryParts) (left right : Steps) (items : List Item) → IsStepsOf s.store w.diagrams (terms_of s.store from.left) left → IsStepsOf s.store w.diagrams (terms_of s.store from.right) right
    → AreItemsOf w.diagrams left.moves.items right.moves.items source.act items → AreLedTo left.moves.items right.moves.items items → AreNextItems s w source from items
items_next s w source from left right items on_left on_right are led_items = record {
  are = are.are;
  targets = λ i h. ⊎_elim (target_term s.store w.diagrams.tests left.moves.items on_left.targets i.target) (target_term s.store w.diagrams.tests right.moves.items on_right.targets i.target) (led_items i h);
  lefts = λ atom fits. next_of_ids s.store w.diagrams source.act atom (terms_of s.store from.left) left _ on_left fits (are.lefts atom fits);
  rights = λ atom fits. next_of_ids s.store w.diagrams source.act atom (terms_of s.store from.right) right _ on_right fits (are.rights atom fits);
}

pub stepped_none : (s : WalkContext) (w : TestedWorklist) (taken_pair : TakenPair) (from : EntryParts) (steps : BothSteps) → IsTaking s w taken_pair.place from steps → IsTakenPair w taken_pair from → HasStepped s w w taken_pair from []
stepped_none s w taken_pair from steps t own = record { under_way = t.under_way; at = t.at; taken_pair = own; kept = KeepsFunctions-itself w.diagrams; joined = λ a h. absurd h }

module _ (s : WalkContext) (old mid : TestedWorklist) (taken_pair : TakenPair) (from : EntryParts) (acts : List ℕ) (m : HasStepped s old mid taken_pair from acts) (act : ℕ) (of_actions : act < s.problem.actions) where
  abbrev pub own_source : StepSource
  own_source = record { place = taken_pair.place; level = taken_pair.level; test = taken_pair.test; act = act }

  pub stepped_represents : IsAtSource s mid own_source from
  stepped_represents = record { under_way = m.under_way; at = m.at; level = m.taken_pair.level; atoms = m.taken_pair.atoms; of_actions = of_actions }

  pub stepped_more : (new : TestedWorklist) → IsDiagramId old.diagrams taken_pair.test → IsVisited s mid new own_source from (λ atom. IsTrue (value_of mid.diagrams taken_pair.test atom)) → HasStepped s old new taken_pair from (acts ++ act ∷ [])
  stepped_more new test_is v = record {
    under_way = v.represents.under_way;
    at = v.represents.at;
    taken_pair = record { level = v.represents.level; atoms = v.represents.atoms };
    kept = KeepsFunctions-trans old.diagrams mid.diagrams new.diagrams m.kept v.kept;
    joined = λ a h.
        ⊎_elim
        (λ o atom wide there after wide' allowed.
        joined_grown s own_source from mid new _ stepped_represents v after (set_next (terms_of s.store from.left) atom a) (set_next (terms_of s.store from.right) atom a) (m.joined a o atom wide there after wide' allowed))
        (λ l. ⊎_elim (λ e. subst (JoinedBy) e own) (λ x. absurd x) l)
        (has_append acts (act ∷ []) a h);
  }
    where
      JoinedBy : ℕ → Type 0
      JoinedBy a = AreJoinedAfter s.shorts s.problem (entries_of s.store new.diagrams new.listing.entries.items) (suc from.level) (pair_of s.store from) (value_of old.diagrams taken_pair.test) a

      own : AreJoinedAfter s.shorts s.problem (entries_of s.store new.diagrams new.listing.entries.items) (suc from.level) (pair_of s.store from) (value_of old.diagrams taken_pair.test) act
      own atom wide there after wide' allowed = v.joined atom wide (m.kept.values taken_pair.test test_is atom ∙ there) after wide' allowed

-- ---- an additional pair is processed

pub pair_taken : (s : WalkContext) (old new : TestedWorklist) (taken_pair : TakenPair) (from : EntryParts) (steps : BothSteps) (acts : List ℕ) (test : ℕ) → IsTaking s old taken_pair.place from steps → IsTakenPair old taken_pair from → test ≡ from.test → AcceptAlike old.diagrams test steps → ((a : ℕ) → a < s.problem.actions → Has acts a) → HasStepped s old new taken_pair from acts → IsUnderWay s new (taken_pair.place + 1)
pair_taken s old new taken_pair from steps acts test t is_taken_pair same alike all h = record {
  sound = h.under_way.sound;
  tests = h.under_way.tests;
  allowance = h.under_way.allowance;
  right = h.under_way.right;
  entries = h.under_way.entries;
  universal = h.under_way.universal;
  universal_id = h.under_way.universal_id;
  walk =
      subst (IsTestedWalk s.shorts s.problem (entries_of s.store new.diagrams new.listing.entries.items)) one_more
      (walk_takes s.shorts s.problem (entries_of s.store new.diagrams new.listing.entries.items) taken_pair.place h.under_way.walk (entry_of s.store new.diagrams from) (entry_at s.store new.diagrams new.listing.entries.items taken_pair.place from h.at) own);
}
  where
    one_more : suc taken_pair.place ≡ taken_pair.place + 1
    one_more = omega arith

    member : Has old.listing.entries.items from
    member = has_at old.listing.entries.items taken_pair.place from t.at

    test_is : IsDiagramId old.diagrams from.test
    test_is = (t.under_way.entries from member).test

    -- the atoms of the entry are atoms of the pair that is processed
    in_taken_pair : (atom : Atom) → IsAtomOf old.diagrams atom → IsTrue (value_of old.diagrams from.test atom) → IsTrue (value_of old.diagrams taken_pair.test atom)
    in_taken_pair atom fits there = is_taken_pair.atoms.back atom fits (record { entry = from; member = member; is = record { left = refl; right = refl; level = refl }; holds = there })

    was : (atom : Atom) → IsTrue (value_of new.diagrams from.test atom) → IsTrue (value_of old.diagrams from.test atom)
    was atom there = sym (h.kept.values from.test test_is atom) ∙ there

    own : IsTaken s.shorts s.problem (entries_of s.store new.diagrams new.listing.entries.items) (entry_of s.store new.diagrams from)
    own = record {
      outputs = λ atom wide there.
          let fits : IsAtomOf old.diagrams atom = wide ∙ sym t.under_way.tests in
          sym (t.left.accepts.value atom fits) ∙ alike atom fits (subst (λ i. IsTrue (value_of old.diagrams i atom)) (sym same) (was atom there)) ∙ t.right.accepts.value atom fits;
      steps = λ a l atom wide there after wide' allowed. h.joined a (all a l) atom wide (in_taken_pair atom (wide ∙ sym t.under_way.tests) (was atom there)) after wide' allowed;
    }

-- ---- when only diagrams are added

module _ (s : WalkContext) (w x : TestedWorklist) (place : ℕ) (e : EntryParts) (steps : BothSteps) (kept : KeepsFunctions w.diagrams x.diagrams) (t : IsTaking s w place e steps) where
  pub taking_later : x.listing ≡ w.listing → x.moves ≡ w.moves → x.derivatives ≡ w.derivatives → IsTaking s x place e steps
  taking_later listing moves derivatives = record {
    under_way =
        under_way_kept s place w x kept listing derivatives (ap (λ (m : AllowedMoves). m.allowed) moves)
        (subst (IsAllowance x.diagrams s.shorts s.problem.actions) (sym moves) (allowance_kept w.diagrams x.diagrams kept s.shorts s.problem.actions w.moves t.under_way.allowance)) t.under_way;
    at = ap (λ (l : Listing). slice_get l.entries.items place) listing ∙ t.at;
    left = IsStepsBy-kept s.store s.store w.diagrams x.diagrams (Keeps-functions s.store w.diagrams x.diagrams kept) (set_out (terms_of s.store e.left)) (set_next (terms_of s.store e.left)) steps.left t.left;
    right = IsStepsBy-kept s.store s.store w.diagrams x.diagrams (Keeps-functions s.store w.diagrams x.diagrams kept) (set_out (terms_of s.store e.right)) (set_next (terms_of s.store e.right)) steps.right t.right;
  }

  pub alike_later : (test : ℕ) → test ≡ e.test → AcceptAlike w.diagrams test steps → AcceptAlike x.diagrams test steps
  alike_later test same alike atom fits there =
      let test_is : IsDiagramId w.diagrams test = subst (IsDiagramId w.diagrams) (sym same) (t.under_way.entries e (has_at w.listing.entries.items place e t.at)).test in
      kept.values steps.left.accepts t.left.accepts.in_range atom
      ∙ alike atom (fits ∙ kept.tests) (sym (kept.values test test_is atom) ∙ there)
      ∙ sym (kept.values steps.right.accepts t.right.accepts.in_range atom)
