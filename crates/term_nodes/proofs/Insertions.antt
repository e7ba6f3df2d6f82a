-- Lists to which a node is added: the result of an insertion, and that it keeps the rules of lists of nodes.
use Rattle.std.proofs.Common.{◌≡◌, ◌⊎◌, ◌≤◌, inl, inr, ⊎_elim, ℕ, List, [], ◌∷◌, ◌++◌, length, Bool, true, false, if◌then◌else◌, Some, slice_get, refl, sym, subst, arith, length-append, Result, Ok, Err, IfOk, OnErr}
use Rattle.std.specs.List.{list_any, IsDistinct}
use Rattle.indexmap.specs.IndexSet.{insert_key}
use Rattle.kat_model.specs.Members.{Has, HasNoDoubles}
use Rattle.kat_model.proofs.Lists.{has_append}
use Rattle.kat_model.proofs.Places.{no_doubles, slice_get_last}
use Rattle.term_nodes.specs.declared.TestNode.{TestNode}
use Rattle.term_nodes.specs.declared.TermNode.{TermNode}
use Rattle.term_nodes.specs.Nodes.{IsTestOver, IsOver}
use Rattle.term_nodes.proofs.Parts.{IsOver-more}
use Rattle.term_nodes.specs.NodeLists.{NodeParts, AreNodes}

-- the list is unchanged, or x is new and appended
abbrev pub AddsLast : {X : Type 0} → List X → List X → X → Type 0
AddsLast old new x = (new ≡ old) ⊎ (new ≡ old ++ x ∷ [])

insert_key_adds : {X : Type 0} (eq : X → X → Bool) (xs : List X) (x : X) → AddsLast xs (insert_key eq xs x) x
insert_key_adds eq xs x =
    elim (list_any (eq x) xs) as (λ v. AddsLast xs (if v then xs else (xs ++ x ∷ [])) x) [ true ↦ inl refl | false ↦ inr refl ]

-- the effect of an insertion on the list, whether it succeeds or fails
pub insert_adds : {X T E : Type 0} (eq : X → X → Bool) (r : Result T E) (old new : List X) (x : X) → IfOk r (λ _. new ≡ insert_key eq old x) → OnErr r (new ≡ old) → AddsLast old new x
insert_adds eq (Ok t) old new x e same = subst (λ l. AddsLast old l x) (sym e) (insert_key_adds eq old x)
insert_adds eq (Err t) old new x e same = inl same

-- a property of the older nodes and of the new one holds for the node at each place
added_each : {X : Type 0} (P : ℕ → X → Type 0) (old new : List X) (x : X) → AddsLast old new x → ((i : ℕ) (y : X) → slice_get old i ≡ Some y → P i y) → P (length old) x → (i : ℕ) (y : X) → slice_get new i ≡ Some y → P i y
added_each {X} P old new x adds each last i y e =
    elim adds [
      | inl same ↦ each i y (subst (λ l. slice_get l i ≡ Some y) same e)
      | inr more ↦ elim (slice_get_last old x i y (subst (λ l. slice_get l i ≡ Some y) more e)) [
        | inl h ↦ each i y h
        | inr h ↦ subst (λ k. P k y) (sym h.0) (subst (P (length old)) h.1 last)
      ]
    ]

-- the members of a list with an additional one, and that no member occurs twice
pub has_pushed : {X : Type 0} (xs : List X) (x y : X) → Has (xs ++ x ∷ []) y → Has xs y ⊎ (x ≡ y)
has_pushed xs x y h = ⊎_elim inl (λ k. ⊎_elim inr absurd k) (has_append xs (x ∷ []) y h)

pub no_doubles_pushed : {X : Type 0} (xs : List X) (x : X) → HasNoDoubles xs → (Has xs x → ⊥) → HasNoDoubles (xs ++ x ∷ [])
no_doubles_pushed [] x none lacks = ((λ h. h), tt)
no_doubles_pushed (y ∷ xs) x none lacks = (
  (λ h. ⊎_elim none.0 (λ e. lacks (inl (sym e))) (has_pushed xs x y h)),
  no_doubles_pushed xs x none.1 (λ h. lacks (inr h)),
)

adds_longer : {X : Type 0} (old new : List X) (x : X) → AddsLast old new x → length old ≤ length new
adds_longer old new x adds =
    elim adds [
      | inl same ↦ rw same (omega arith)
      | inr more ↦ rw more (omega (arith, length-append old (x ∷ [])))
    ]

pub added_members : {X : Type 0} (P : X → Type 0) (old new : List X) (x : X) → AddsLast old new x → ((y : X) → Has old y → P y) → P x → (y : X) → Has new y → P y
added_members {X} P old new x adds each last y h =
    elim adds [
      | inl same ↦ each y (subst (λ l. Has l y) same h)
      | inr more ↦ ⊎_elim (each y) (λ e. subst P e last) (has_pushed old x y (subst (λ l. Has l y) more h))
    ]

pushed_longer : {X : Type 0} (old : List X) (x : X) → length old ≤ length (old ++ x ∷ [])
pushed_longer old x = omega (arith, length-append old (x ∷ []))

-- a new node after those that it names
pub test_pushed : (nodes : NodeParts) (node : TestNode ℕ) → AreNodes nodes → IsTestOver (length nodes.tests) node → (Has nodes.tests node → ⊥) → AreNodes (record { tests = nodes.tests ++ node ∷ []; terms = nodes.terms })
test_pushed nodes node is over new = record {
  tests_ordered = added_each IsTestOver nodes.tests (nodes.tests ++ node ∷ []) node (inr refl) is.tests_ordered over;
  terms_ordered = λ i y h. IsOver-more _ _ i i y (pushed_longer nodes.tests node) (omega arith) (is.terms_ordered i y h);
  tests_once = no_doubles_pushed nodes.tests node is.tests_once new;
  terms_once = is.terms_once;
}

pub term_pushed : (nodes : NodeParts) (node : TermNode ℕ ℕ) → AreNodes nodes → IsOver (length nodes.tests) (length nodes.terms) node → (Has nodes.terms node → ⊥) → AreNodes (record { tests = nodes.tests; terms = nodes.terms ++ node ∷ [] })
term_pushed nodes node is over new = record {
  tests_ordered = is.tests_ordered;
  terms_ordered = added_each (IsOver (length nodes.tests)) nodes.terms (nodes.terms ++ node ∷ []) node (inr refl) is.terms_ordered over;
  tests_once = is.tests_once;
  terms_once = no_doubles_pushed nodes.terms node is.terms_once new;
}

-- the nodes after the insertion of a test node that names only their tests, whether it succeeds or fails
pub test_inserted : {T E : Type 0} (eq : TestNode ℕ → TestNode ℕ → Bool) → ((x : TestNode ℕ) → eq x x ≡ true) → (r : Result T E) (nodes : NodeParts) (tests : List (TestNode ℕ)) (node : TestNode ℕ) → AreNodes nodes → IsTestOver (length nodes.tests) node → IsDistinct eq tests → IfOk r (λ _. tests ≡ insert_key eq nodes.tests node) → OnErr r (tests ≡ nodes.tests) → AreNodes (record { tests = tests; terms = nodes.terms })
test_inserted eq own r nodes tests node is over unique e same =
    let adds = insert_adds eq r nodes.tests tests node e same in
    record {
      tests_ordered = added_each IsTestOver nodes.tests tests node adds is.tests_ordered over;
      terms_ordered = λ i y h. IsOver-more _ _ i i y (adds_longer nodes.tests tests node adds) (omega arith) (is.terms_ordered i y h);
      tests_once = no_doubles eq own tests unique;
      terms_once = is.terms_once;
    }

-- and after the insertion of a term node
pub term_inserted : {T E : Type 0} (eq : TermNode ℕ ℕ → TermNode ℕ ℕ → Bool) → ((x : TermNode ℕ ℕ) → eq x x ≡ true) → (r : Result T E) (nodes : NodeParts) (terms : List (TermNode ℕ ℕ)) (node : TermNode ℕ ℕ) → AreNodes nodes → IsOver (length nodes.tests) (length nodes.terms) node → IsDistinct eq terms → IfOk r (λ _. terms ≡ insert_key eq nodes.terms node) → OnErr r (terms ≡ nodes.terms) → AreNodes (record { tests = nodes.tests; terms = terms })
term_inserted eq own r nodes terms node is over unique e same =
    let adds = insert_adds eq r nodes.terms terms node e same in
    record {
      tests_ordered = is.tests_ordered;
      terms_ordered = added_each (IsOver (length nodes.tests)) nodes.terms terms node adds is.terms_ordered over;
      tests_once = is.tests_once;
      terms_once = no_doubles eq own terms unique;
    }
