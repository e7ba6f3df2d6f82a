-- The checks of statements, from the lists that each step leaves.
use Rattle.std.proofs.Common.{◌≡◌, ◌+◌, ◌<◌, ℕ, suc, List, [], ◌∷◌, ◌++◌, length, drop, get_or, Result, Ok, Err, refl, sym, ap, ◌∙◌, append_assoc}
use Rattle.std.proofs.lemmas.List.{drop_more}
use Rattle.std.specs.Result.{IfOk, OnOk, result_and}
use Rattle.kat_model.specs.Trees.{TestTree, top, complement}
use Rattle.while_lang.specs.Flows.{FlowTree, FlowStmt, skip, abort, assert, act, branch, loop, with_stmt}
use Rattle.while_lang.specs.FlowViews.{flow_stmt, flows_tree}
use Rattle.while_lang.specs.declared.flow.Flow.{Flow}
use Rattle.outline_rules.specs.Places.{last_place}
use Rattle.outline_rules.specs.Follows.{Condition, implies, conditions_from}
use Rattle.outline_rules.specs.Working.Checks.{place_after, conditions_of_stmt}

branch_lists : {X : Type 0} (m f g : List X) (a b c d : X) → ((((m ++ (a ∷ f)) ++ (b ∷ g)) ++ (c ∷ [])) ++ (d ∷ [])) ≡ m ++ (a ∷ (f ++ (b ∷ (g ++ (c ∷ (d ∷ []))))))
branch_lists m f g a b c d = simp append_assoc

loop_lists : {X : Type 0} (m f : List X) (a b c d : X) → ((((m ++ (a ∷ [])) ++ (b ∷ f)) ++ (c ∷ [])) ++ (d ∷ [])) ≡ m ++ (a ∷ (b ∷ (f ++ (c ∷ (d ∷ [])))))
loop_lists m f a b c d = simp append_assoc

-- a block after the check of its first note
pub block_checked : (f tree : FlowTree) (n first : ℕ) (m0 m1 m2 : List Condition) (x : Condition) → tree ≡ f → first ≡ n → m1 ≡ m0 ++ x ∷ [] → m2 ≡ m1 ++ conditions_from tree first → m2 ≡ m0 ++ x ∷ conditions_from f n
block_checked f tree n first m0 m1 m2 x same place before after = rw (after, before, place, same) (append_assoc m0 (x ∷ []) (conditions_from f n))

pub branch_checked : (b : TestTree) (f g : FlowTree) (n first_end second_end : ℕ) (m0 m1 m2 m3 m4 : List Condition) → first_end ≡ last_place f (suc n) → second_end ≡ last_place g (suc first_end)
    → m1 ≡ m0 ++ implies n b (suc n) ∷ conditions_from f (suc n) → m2 ≡ m1 ++ implies n (complement b) (suc first_end) ∷ conditions_from g (suc first_end)
    → m3 ≡ m2 ++ implies first_end top (suc second_end) ∷ [] → m4 ≡ m3 ++ implies second_end top (suc second_end) ∷ [] → m4 ≡ m0 ++ conditions_of_stmt (branch b f g) n
branch_checked b f g n first_end second_end m0 m1 m2 m3 m4 p1 p2 e1 e2 e3 e4 =
    let k = last_place f (suc n) in
    let l = last_place g (suc k) in
    rw (e4, e3, e2, e1, p2, p1)
    (branch_lists m0 (conditions_from f (suc n)) (conditions_from g (suc k)) (implies n b (suc n)) (implies n (complement b) (suc k)) (implies k top (suc l)) (implies l top (suc l)))

pub loop_checked : (b : TestTree) (f : FlowTree) (n invariant body_end : ℕ) (m0 m1 m2 m3 m4 : List Condition) → invariant ≡ suc n → body_end ≡ last_place f (suc invariant)
    → m1 ≡ m0 ++ implies n top (suc n) ∷ [] → m2 ≡ m1 ++ implies invariant b (suc invariant) ∷ conditions_from f (suc invariant) → m3 ≡ m2 ++ implies body_end top invariant ∷ []
    → m4 ≡ m3 ++ implies invariant (complement b) (suc body_end) ∷ [] → m4 ≡ m0 ++ conditions_of_stmt (loop b f) n
loop_checked b f n invariant body_end m0 m1 m2 m3 m4 p1 p2 e1 e2 e3 e4 =
    let k = last_place f (suc (suc n)) in
    rw (e4, e3, e2, e1, p2, p1)
    (loop_lists m0 (conditions_from f (suc (suc n))) (implies n top (suc n)) (implies (suc n) b (suc (suc n))) (implies k top (suc n)) (implies (suc n) (complement b) (suc k)))

-- a place that is returned after a check was appended
pub and_place : {E : Type 0} (P : ℕ → Type 0) (to : ℕ) (made : Result (Unit {0}) E) (r : Result ℕ E) → r ≡ result_and made (Ok to) → P to → IfOk r P
and_place P to (Ok u) r is h = rw (is) h
and_place P to (Err e) r is h = rw (is) tt

pub and_checks : {E : Type 0} (Q : Type 0) (to : ℕ) (made : Result (Unit {0}) E) (r : Result ℕ E) → r ≡ result_and made (Ok to) → OnOk made Q → OnOk r Q
and_checks Q to (Ok u) r is h = rw (is) h
and_checks Q to (Err e) r is h = rw (is) tt

-- the value of the second of two steps, and what both leave
pub and_second : {A B E : Type 0} (P : B → Type 0) (first : Result A E) (second r : Result B E) → r ≡ result_and first second → IfOk second P → IfOk r P
and_second P (Ok x) second r is h = rw (is) h
and_second P (Err e) second r is h = rw (is) tt

pub and_both : {A B E P Q R : Type 0} (first : Result A E) (second r : Result B E) → r ≡ result_and first second → OnOk first P → OnOk second Q → (P → Q → R) → OnOk r R
and_both (Ok x) (Ok y) r is p q k = rw (is) (k p q)
and_both (Ok x) (Err e) r is p q k = rw (is) tt
and_both (Err e) second r is p q k = rw (is) tt

-- ---- lists of statements

place_of_first : (s : FlowStmt) (rest : FlowTree) (n : ℕ) → last_place (with_stmt s rest) n ≡ last_place rest (place_after s n)
place_of_first skip rest n = refl
place_of_first abort rest n = refl
place_of_first (assert b) rest n = refl
place_of_first (act a) rest n = refl
place_of_first (branch b f g) rest n = refl
place_of_first (loop b f) rest n = refl

branch_before : {X : Type 0} (f g rest : List X) (a b c d : X) → (a ∷ (f ++ (b ∷ (g ++ (c ∷ (d ∷ rest)))))) ≡ (a ∷ (f ++ (b ∷ (g ++ (c ∷ (d ∷ [])))))) ++ rest
branch_before f g rest a b c d = sym (simp append_assoc)

loop_before : {X : Type 0} (f rest : List X) (a b c d : X) → (a ∷ (b ∷ (f ++ (c ∷ (d ∷ rest))))) ≡ (a ∷ (b ∷ (f ++ (c ∷ (d ∷ []))))) ++ rest
loop_before f rest a b c d = sym (simp append_assoc)

conditions_of_first : (s : FlowStmt) (rest : FlowTree) (n : ℕ) → conditions_from (with_stmt s rest) n ≡ conditions_of_stmt s n ++ conditions_from rest (place_after s n)
conditions_of_first skip rest n = refl
conditions_of_first abort rest n = refl
conditions_of_first (assert b) rest n = refl
conditions_of_first (act a) rest n = refl
conditions_of_first (branch b f g) rest n = branch_before (conditions_from f (suc n)) _ (conditions_from rest (place_after (branch b f g) n)) _ _ _ _
conditions_of_first (loop b f) rest n = loop_before (conditions_from f (suc (suc n))) (conditions_from rest (place_after (loop b f) n)) _ _ _ _

module _ (items : List Flow) (i : ℕ) (x : Flow) (lt : i < length items) (is : x ≡ get_or items i x) where
  first_left : flows_tree (drop i items) ≡ with_stmt (flow_stmt x) (flows_tree (drop (i + 1) items))
  first_left = ap flows_tree (drop_more items i x lt) ∙ ap (λ (s : Flow). with_stmt (flow_stmt s) (flows_tree (drop (i + 1) items))) (sym is)

  pub place_more : (at next last : ℕ) → next ≡ place_after (flow_stmt x) at → last_place (flows_tree (drop i items)) at ≡ last → last_place (flows_tree (drop (i + 1) items)) next ≡ last
  place_more at next last e inv =
      let rest = flows_tree (drop (i + 1) items) in
      ap (last_place rest) e ∙ sym (place_of_first (flow_stmt x) rest at) ∙ ap (λ (f : FlowTree). last_place f at) (sym first_left) ∙ inv

  pub checks_more : (old new whole : List Condition) (at next : ℕ) → next ≡ place_after (flow_stmt x) at → new ≡ old ++ conditions_of_stmt (flow_stmt x) at → old ++ conditions_from (flows_tree (drop i items)) at ≡ whole
      → new ++ conditions_from (flows_tree (drop (i + 1) items)) next ≡ whole
  checks_more old new whole at next e pushed inv =
      let rest = flows_tree (drop (i + 1) items) in
      ap (λ (n : ℕ). new ++ conditions_from rest n) e
      ∙ ap (λ (l : List Condition). l ++ conditions_from rest (place_after (flow_stmt x) at)) pushed
      ∙ append_assoc old (conditions_of_stmt (flow_stmt x) at) (conditions_from rest (place_after (flow_stmt x) at))
      ∙ ap (λ (l : List Condition). old ++ l) (sym (conditions_of_first (flow_stmt x) rest at))
      ∙ ap (λ (f : FlowTree). old ++ conditions_from f at) (sym first_left)
      ∙ inv
