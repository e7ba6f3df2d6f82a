-- A program has ended after all of a string if and only if its term accepts the string.
use Rattle.std.proofs.Common.{◌≡◌, ◌↔◌, ◌⊎◌, ◌≤◌, ◌<◌, ◌+◌, ℕ, zero, suc, inl, inr, ⊎_elim, List, [], ◌∷◌, ◌++◌, length, refl, sym, ap, ◌∙◌, subst, Bool, true, false, ◌||◌, not, cond, append_assoc, arith}
use Rattle.std.specs.Bool.{IsTrue}
use Rattle.std.specs.List.{flat_map}
use Rattle.std.specs.Prelude.{nat_eq}
use Rattle.std.proofs.lemmas.Bool.{false≢true}
use Rattle.std.proofs.lemmas.List.{append-nil, length-append}
use Rattle.kat_model.specs.Trees.{TestTree, complement, Term, zero as nothing, one, test, act as action, sum, product, star}
use Rattle.kat_model.specs.Steps.{Atom, truth}
use Rattle.kat_model.specs.Strings.{Move, last_atom, accepts}
use Rattle.kat_model.specs.Balanced.{product_of}
use Rattle.kat_model.specs.Laws.{AcceptsEach}
use Rattle.kat_model.proofs.Acceptance.{accepts_one, accepts_test, accepts_act, act_accepts, accepts-sum, accepts-zero}
use Rattle.kat_model.proofs.Cuts.{last_atom-append, product_accepts, accepts_product, star_accepts_piece, accepts_star}
use Rattle.kat_model.proofs.BalancedTrees.{balanced_holds}
use Rattle.while_lang.specs.Flows.{FlowTree, FlowStmt, skip, abort, assert, act, branch, loop}
use Rattle.while_lang.specs.Flows as flow
use Rattle.while_lang.specs.Encoding.{branch_term, loop_term, stmt_terms, encoded}
use Rattle.tool_explain.specs.declared.place.Place.{Place}
use Rattle.tool_explain.specs.declared.place.Place.TheVariants.{Ended, Blocked, AtAction}
use Rattle.tool_explain.specs.Places.{PlacedTree, empty, skip_then, abort_then, assert_then, act_then, branch_then, loop_then, path_at, path_in, placed, followed_by, Front, over, blocked, acting, then_front, front, Walk, ended, stopped, at_end, at_move, walk, place_reached, place_of}
use Rattle.tool_explain.specs.Laws.{AcceptedStringsEnd}
use Rattle.tool_explain.specs.Working.Walks.{placed_stmt}
use Rattle.tool_explain.proofs.Composition.{then_walk, onward, walk_followed, front_followed, walk_onward, loop_passed, loop_stopped, loop_turned, loop_idles}

-- ---- strings in turn

-- which strings something accepts
abbrev Accepting : Type 1
Accepting = Atom → List Move → Type 0

-- a string of the first, and from its last atom one of the second
abbrev Seq : Accepting → Accepting → Accepting
Seq A B atom ms = (before : List Move) × (after : List Move) × (ms ≡ before ++ after) × A atom before × B (last_atom atom before) after

-- a string that a term accepts, and strings that terms accept in turn
abbrev Takes : Term → Accepting
Takes e atom ms = IsTrue (accepts e atom ms)

abbrev InTurn : List Term → Accepting
InTurn [] atom ms = ms ≡ []
InTurn (e ∷ es) atom ms = Seq (Takes e) (InTurn es) atom ms

turn_append : (es fs : List Term) (atom : Atom) (before after : List Move) → InTurn es atom before → InTurn fs (last_atom atom before) after → InTurn (es ++ fs) atom (before ++ after)
turn_append [] fs atom before after none h =
    subst (λ l. InTurn fs atom (l ++ after)) (sym none) (subst (λ l. InTurn fs (last_atom atom l) after) none h)
turn_append (e ∷ es) fs atom before after (b, m, whole, first, rest) h =
    let last : last_atom atom before ≡ last_atom (last_atom atom b) m = ap (last_atom atom) whole ∙ last_atom-append atom b m in
    (b, m ++ after, ap (λ l. l ++ after) whole ∙ append_assoc b m after, first, turn_append es fs (last_atom atom b) m after rest (subst (λ β. InTurn fs β after) last h))

turn_parts : (es fs : List Term) (atom : Atom) (ms : List Move) → InTurn (es ++ fs) atom ms → Seq (InTurn es) (InTurn fs) atom ms
turn_parts [] fs atom ms h = ([], ms, refl, refl, h)
turn_parts (e ∷ es) fs atom ms (b, m, whole, first, rest) =
    let parts = turn_parts es fs (last_atom atom b) m rest in (
      b ++ parts.0,
      parts.1,
      whole ∙ ap (λ l. b ++ l) parts.2 ∙ sym (append_assoc b parts.0 parts.1),
      (b, parts.0, refl, first, parts.3),
      subst (λ β. InTurn fs β parts.1) (sym (last_atom-append atom b parts.0)) parts.4,
    )

-- a balanced product accepts what its members accept in turn
abbrev IsProduct : List Term → Term → Type 0
IsProduct es e = (atom : Atom) (ms : List Move) → Takes e atom ms ↔ InTurn es atom ms

product_turn : (es : List Term) → IsProduct es (product_of es)
product_turn es = balanced_holds one product IsProduct none single two es
  where
    none : IsProduct [] one
    none atom ms = (accepts_one atom ms, λ e. subst (λ l. Takes one atom l) (sym e) refl)

    single : (e : Term) → IsProduct (e ∷ []) e
    single e atom ms = (
      (λ h. (ms, [], sym (append-nil ms), h, refl)),
      (λ h. subst (Takes e atom) (sym (h.2 ∙ ap (λ l. h.0 ++ l) h.4 ∙ append-nil h.0)) h.3),
    )

    two : (es fs : List Term) (a b : Term) → IsProduct es a → IsProduct fs b → IsProduct (es ++ fs) (product a b)
    two es fs a b p q atom ms = (
      (λ h. let c = accepts_product a b atom ms h in
          subst (InTurn (es ++ fs) atom) (sym c.whole)
          (turn_append es fs atom c.before c.after ((p atom c.before).0 c.first) ((q (last_atom atom c.before) c.after).0 c.second))),
      (λ h. let c = turn_parts es fs atom ms h in
          subst (Takes (product a b) atom) (sym c.2) (product_accepts a b atom c.0 c.1 ((p atom c.0).1 c.3) ((q (last_atom atom c.0) c.1).1 c.4))),
    )

-- ---- walks that end

-- a walk that ends has followed an accepted string, and each accepted string is followed
abbrev Sound : PlacedTree → Accepting → Type 0
Sound F A =
    (ms : List Move) (k : ℕ) (atom : Atom) (l : ℕ) (β : Atom) (left : List Move) → walk ms k atom F ≡ ended l β left
    → (before : List Move) × (ms ≡ before ++ left) × (β ≡ last_atom atom before) × A atom before

abbrev Complete : PlacedTree → Accepting → Type 0
Complete F A =
    (before left : List Move) (k : ℕ) (atom : Atom) → A atom before
    → (l : ℕ) × (walk (before ++ left) k atom F ≡ ended l (last_atom atom before) left)

-- the walk by what the program does under the atom
abbrev by_front : List Move → ℕ → Atom → Front → Walk
by_front [] k atom c = at_end c k atom
by_front (m ∷ ms) k atom c = at_move c k atom m ms (λ g. walk ms (suc k) m.atom g)

walk_by : (ms : List Move) (k : ℕ) (atom : Atom) (F : PlacedTree) → walk ms k atom F ≡ by_front ms k atom (front atom F)
walk_by [] k atom F = refl
walk_by (m ∷ ms) k atom F = refl

pub walk_same : (ms : List Move) (k : ℕ) (atom : Atom) (F G : PlacedTree) → front atom F ≡ front atom G → walk ms k atom F ≡ walk ms k atom G
walk_same ms k atom F G e = walk_by ms k atom F ∙ ap (by_front ms k atom) e ∙ sym (walk_by ms k atom G)

by_over : (ms : List Move) (k : ℕ) (atom : Atom) → by_front ms k atom over ≡ ended k atom ms
by_over [] k atom = refl
by_over (m ∷ ms) k atom = refl

by_blocked : (ms : List Move) (k : ℕ) (atom : Atom) (path : List ℕ) → by_front ms k atom (blocked path) ≡ stopped (Blocked k path)
by_blocked [] k atom path = refl
by_blocked (m ∷ ms) k atom path = refl

pub walk_over : (ms : List Move) (k : ℕ) (atom : Atom) (F : PlacedTree) → front atom F ≡ over → walk ms k atom F ≡ ended k atom ms
walk_over ms k atom F e = walk_by ms k atom F ∙ ap (by_front ms k atom) e ∙ by_over ms k atom

pub walk_blocked : (ms : List Move) (k : ℕ) (atom : Atom) (F : PlacedTree) (path : List ℕ) → front atom F ≡ blocked path → walk ms k atom F ≡ stopped (Blocked k path)
walk_blocked ms k atom F path e = walk_by ms k atom F ∙ ap (by_front ms k atom) e ∙ by_blocked ms k atom path

-- a walk counts the moves that it has followed
pub walk_counts : (ms : List Move) (k : ℕ) (atom : Atom) (F : PlacedTree) (j : ℕ) (β : Atom) (left : List Move) → walk ms k atom F ≡ ended j β left → j + length left ≡ k + length ms
walk_counts [] k atom F j β left e = go (front atom F) e
  where
    go : (c : Front) → at_end c k atom ≡ ended j β left → j + length left ≡ k + length {A = Move} []
    go over h = let place : k ≡ j = cc in let rest : [] ≡ left = cc in ap (λ n. n + length left) (sym place) ∙ ap (λ l. k + length l) (sym rest)
    go (blocked path) h = absurd cc
    go (acting path a g) h = absurd cc
walk_counts (m ∷ ms) k atom F j β left e = go (λ g. walk_counts ms (suc k) m.atom g j β left) (front atom F) e
  where
    went : ((g : PlacedTree) → walk ms (suc k) m.atom g ≡ ended j β left → j + length left ≡ suc k + length ms) → (t : Bool) (g : PlacedTree) (place : Place) → cond t (walk ms (suc k) m.atom g) (stopped place) ≡ ended j β left → j + length left ≡ k + length (m ∷ ms)
    went later true g place h = let so = later g h in omega (arith, so)
    went later false g place h = absurd cc

    go : ((g : PlacedTree) → walk ms (suc k) m.atom g ≡ ended j β left → j + length left ≡ suc k + length ms) → (c : Front) → at_move c k atom m ms (λ g. walk ms (suc k) m.atom g) ≡ ended j β left → j + length left ≡ k + length (m ∷ ms)
    go later over h = let place : k ≡ j = cc in let rest : m ∷ ms ≡ left = cc in ap (λ n. n + length left) (sym place) ∙ ap (λ l. k + length l) (sym rest)
    go later (blocked path) h = absurd cc
    go later (acting path a g) h = went later (nat_eq m.act a) g (AtAction k path) h

-- a walk that stops has not ended
pub stops_unended : (ms : List Move) (k : ℕ) (atom : Atom) (F : PlacedTree) (place : Place) (j : ℕ) → walk ms k atom F ≡ stopped place → place ≡ Ended j → ⊥
stops_unended [] k atom F place j e end = go (front atom F) (e ∙ ap stopped end)
  where
    go : (c : Front) → at_end c k atom ≡ stopped (Ended j) → ⊥
    go over h = absurd cc
    go (blocked path) h = absurd cc
    go (acting path a g) h = absurd cc
stops_unended (m ∷ ms) k atom F place j e end = go (λ g h. stops_unended ms (suc k) m.atom g (Ended j) j h refl) (front atom F) (e ∙ ap stopped end)
  where
    went : ((g : PlacedTree) → walk ms (suc k) m.atom g ≡ stopped (Ended j) → ⊥) → (t : Bool) (g : PlacedTree) (path : List ℕ) → cond t (walk ms (suc k) m.atom g) (stopped (AtAction k path)) ≡ stopped (Ended j) → ⊥
    went later true g path h = later g h
    went later false g path h = absurd cc

    go : ((g : PlacedTree) → walk ms (suc k) m.atom g ≡ stopped (Ended j) → ⊥) → (c : Front) → at_move c k atom m ms (λ g. walk ms (suc k) m.atom g) ≡ stopped (Ended j) → ⊥
    go later over h = absurd cc
    go later (blocked path) h = absurd cc
    go later (acting path a g) h = went later (nat_eq m.act a) g path h

no_moves : (ms : List Move) → length ms ≡ 0 → ms ≡ []
no_moves [] h = refl
no_moves (m ∷ ms) h = absurd (omega (arith, h))

-- where a walk ends at once
sound_over : (ms : List Move) (k : ℕ) (atom : Atom) (F : PlacedTree) (A : Accepting) → front atom F ≡ over → A atom [] → (l : ℕ) (β : Atom) (left : List Move) → walk ms k atom F ≡ ended l β left
    → (before : List Move) × (ms ≡ before ++ left) × (β ≡ last_atom atom before) × A atom before
sound_over ms k atom F A e a l β left h =
    let both : ended k atom ms ≡ ended l β left = sym (walk_over ms k atom F e) ∙ h in
    let rest : ms ≡ left = cc in
    let same : atom ≡ β = cc in
    ([], rest, sym same, a)

never_ends : {A : Type 0} (ms : List Move) (k : ℕ) (atom : Atom) (F : PlacedTree) (path : List ℕ) → front atom F ≡ blocked path → (l : ℕ) (β : Atom) (left : List Move) → walk ms k atom F ≡ ended l β left → A
never_ends ms k atom F path e l β left h = let both : stopped (Blocked k path) ≡ ended l β left = sym (walk_blocked ms k atom F path e) ∙ h in absurd cc

-- ---- programs in turn

module _ (F G : PlacedTree) (A B : Accepting) where
  sound_seq : Sound F A → Sound G B → Sound (followed_by F G) (Seq A B)
  sound_seq f g ms k atom l β left e = by (walk ms k atom F) refl (sym (walk_followed ms k atom F G) ∙ e)
    where
      by : (w : Walk) → walk ms k atom F ≡ w → then_walk w (onward G) ≡ ended l β left → (before : List Move) × (ms ≡ before ++ left) × (β ≡ last_atom atom before) × Seq A B atom before
      by (stopped place) is h = absurd cc
      by (ended j γ mid) is h =
          let x = f ms k atom j γ mid is in
          let y = g mid j γ l β left h in (
            x.0 ++ y.0,
            x.1 ∙ ap (λ r. x.0 ++ r) y.1 ∙ sym (append_assoc x.0 y.0 left),
            y.2 ∙ ap (λ δ. last_atom δ y.0) x.2 ∙ sym (last_atom-append atom x.0 y.0),
            (x.0, y.0, refl, x.3, subst (λ δ. B δ y.0) x.2 y.3),
          )

  complete_seq : Complete F A → Complete G B → Complete (followed_by F G) (Seq A B)
  complete_seq f g before left k atom (b, a, whole, first, second) =
      let x = f b (a ++ left) k atom first in
      let y = g a left x.0 (last_atom atom b) second in
      let string : before ++ left ≡ b ++ (a ++ left) = ap (λ r. r ++ left) whole ∙ append_assoc b a left in
      let last : last_atom (last_atom atom b) a ≡ last_atom atom before = sym (last_atom-append atom b a) ∙ ap (last_atom atom) (sym whole) in (
        y.0,
        ap (λ r. walk r k atom (followed_by F G)) string
            ∙ walk_followed (b ++ (a ++ left)) k atom F G
            ∙ ap (λ w. then_walk w (onward G)) x.1
            ∙ y.1
            ∙ ap (λ δ. ended y.0 δ left) last,
      )

pub followed_empty : (F : PlacedTree) → followed_by F empty ≡ F
followed_empty empty = refl
followed_empty (skip_then rest) = ap skip_then (followed_empty rest)
followed_empty (abort_then path rest) = ap (abort_then path) (followed_empty rest)
followed_empty (assert_then path b rest) = ap (assert_then path b) (followed_empty rest)
followed_empty (act_then path a rest) = ap (act_then path a) (followed_empty rest)
followed_empty (branch_then b f g rest) = ap (branch_then b f g) (followed_empty rest)
followed_empty (loop_then path b f rest) = ap (loop_then path b f) (followed_empty rest)

-- ---- statements

or_left : (x y : Bool) → IsTrue x → IsTrue (x || y)
or_left true y h = refl
or_left false y h = absurd (false≢true h)

or_right : (x y : Bool) → IsTrue y → IsTrue (x || y)
or_right true y h = refl
or_right false y h = h

or_cases : (x y : Bool) → IsTrue (x || y) → IsTrue x ⊎ IsTrue y
or_cases true y h = inl refl
or_cases false y h = inr h

sum_first : (e f : Term) (atom : Atom) (ms : List Move) → Takes e atom ms → Takes (sum e f) atom ms
sum_first e f atom ms h = subst IsTrue (sym (accepts-sum e f atom ms)) (or_left (accepts e atom ms) (accepts f atom ms) h)

sum_second : (e f : Term) (atom : Atom) (ms : List Move) → Takes f atom ms → Takes (sum e f) atom ms
sum_second e f atom ms h = subst IsTrue (sym (accepts-sum e f atom ms)) (or_right (accepts e atom ms) (accepts f atom ms) h)

sum_cases : (e f : Term) (atom : Atom) (ms : List Move) → Takes (sum e f) atom ms → Takes e atom ms ⊎ Takes f atom ms
sum_cases e f atom ms h = or_cases (accepts e atom ms) (accepts f atom ms) (subst IsTrue (accepts-sum e f atom ms) h)

-- a test before a term
after_test : (b : TestTree) (e : Term) (atom : Atom) (ms : List Move) → IsTrue (truth b atom) → Takes e atom ms → Takes (product (test b) e) atom ms
after_test b e atom ms on h = product_accepts (test b) e atom [] ms on h

of_tested : (b : TestTree) (e : Term) (atom : Atom) (ms : List Move) → Takes (product (test b) e) atom ms → IsTrue (truth b atom) × Takes e atom ms
of_tested b e atom ms h =
    let c = accepts_product (test b) e atom ms h in
    let t = accepts_test b atom c.before c.first in
    let rest : ms ≡ c.after = c.whole ∙ ap (λ l. l ++ c.after) t.0 in
    (t.1, subst (Takes e atom) (sym rest) (subst (λ l. Takes e (last_atom atom l) c.after) t.0 c.second))

not_true : (x : Bool) → x ≡ false → IsTrue (not x)
not_true true e = absurd cc
not_true false e = refl

true_not : (x : Bool) → IsTrue (not x) → x ≡ false
true_not true e = absurd (false≢true e)
true_not false e = refl

same_numbers : (m n : ℕ) → nat_eq m n ≡ true → m ≡ n
same_numbers m n h = grind (arith, h)

number_itself : (n : ℕ) → nat_eq n n ≡ true
number_itself n = grind arith

module _ (path : List ℕ) where
  sound_skip : Sound (placed_stmt path skip) (Takes one)
  sound_skip ms k atom l β left e = sound_over ms k atom (placed_stmt path skip) (Takes one) refl refl l β left e

  complete_skip : Complete (placed_stmt path skip) (Takes one)
  complete_skip before left k atom h =
      let none : before ≡ [] = accepts_one atom before h in
      (k, ap (λ r. walk (r ++ left) k atom (placed_stmt path skip)) none ∙ walk_over left k atom (placed_stmt path skip) refl ∙ ap (λ r. ended k (last_atom atom r) left) (sym none))

  sound_abort : Sound (placed_stmt path abort) (Takes nothing)
  sound_abort ms k atom l β left e = never_ends ms k atom (placed_stmt path abort) path refl l β left e

  complete_abort : Complete (placed_stmt path abort) (Takes nothing)
  complete_abort before left k atom h = absurd (false≢true (sym (accepts-zero atom before) ∙ h))

  module _ (b : TestTree) where
    assert_front : (atom : Atom) (t : Bool) → truth b atom ≡ t → front atom (placed_stmt path (assert b)) ≡ cond t over (blocked path)
    assert_front atom t e = ap (λ u. cond u over (blocked path)) e

    sound_assert : Sound (placed_stmt path (assert b)) (Takes (test b))
    sound_assert ms k atom l β left e = by (truth b atom) refl
      where
        by : (t : Bool) → truth b atom ≡ t → (before : List Move) × (ms ≡ before ++ left) × (β ≡ last_atom atom before) × Takes (test b) atom before
        by true on = sound_over ms k atom (placed_stmt path (assert b)) (Takes (test b)) (assert_front atom true on) on l β left e
        by false off = never_ends ms k atom (placed_stmt path (assert b)) path (assert_front atom false off) l β left e

    complete_assert : Complete (placed_stmt path (assert b)) (Takes (test b))
    complete_assert before left k atom h =
        let t = accepts_test b atom before h in
        (k, ap (λ r. walk (r ++ left) k atom (placed_stmt path (assert b))) t.0 ∙ walk_over left k atom (placed_stmt path (assert b)) (assert_front atom true t.1) ∙ ap (λ r. ended k (last_atom atom r) left) (sym t.0))

  module _ (a : ℕ) where
    sound_act : Sound (placed_stmt path (act a)) (Takes (action a))
    sound_act [] k atom l β left e = absurd cc
    sound_act (m ∷ ms) k atom l β left e = by (nat_eq m.act a) refl e
      where
        by : (t : Bool) → nat_eq m.act a ≡ t → cond t (walk ms (suc k) m.atom empty) (stopped (AtAction k path)) ≡ ended l β left
            → (before : List Move) × (m ∷ ms ≡ before ++ left) × (β ≡ last_atom atom before) × Takes (action a) atom before
        by false off h = absurd cc
        by true on h =
            let both : ended (suc k) m.atom ms ≡ ended l β left = sym (walk_over ms (suc k) m.atom empty refl) ∙ h in
            let rest : ms ≡ left = cc in
            let last : m.atom ≡ β = cc in
            let same : m.act ≡ a = same_numbers m.act a on in
            let move : record { act = a; atom = m.atom } ≡ m = λ i. record { act = sym same i; atom = m.atom } in
            (m ∷ [], ap (λ r. m ∷ r) rest, sym last, subst (λ v. Takes (action a) atom (v ∷ [])) move (act_accepts a atom m.atom))

    complete_act : Complete (placed_stmt path (act a)) (Takes (action a))
    complete_act before left k atom h =
        let c = accepts_act a atom before h in
        let F = placed_stmt path (act a) in
        let m : Move = record { act = a; atom = c.0 } in (
          suc k,
          ap (λ r. walk (r ++ left) k atom F) c.1
              ∙ ap (λ t. cond t (walk left (suc k) c.0 empty) (stopped (AtAction k path))) (number_itself a)
              ∙ walk_over left (suc k) c.0 empty refl
              ∙ ap (λ r. ended (suc k) (last_atom atom r) left) (sym c.1),
        )

  module _ (b : TestTree) (e d : Term) (F G : PlacedTree) where
    abbrev Branch : PlacedTree
    Branch = branch_then b F G empty

    pub branch_walk : (ms : List Move) (k : ℕ) (atom : Atom) (t : Bool) → truth b atom ≡ t → walk ms k atom Branch ≡ walk ms k atom (cond t F G)
    branch_walk ms k atom true on =
        walk_same ms k atom Branch (followed_by F empty) (ap (λ u. then_front (cond u (front atom F) (front atom G)) empty over) on ∙ sym (front_followed atom F empty))
        ∙ ap (λ H. walk ms k atom H) (followed_empty F)
    branch_walk ms k atom false off =
        walk_same ms k atom Branch (followed_by G empty) (ap (λ u. then_front (cond u (front atom F) (front atom G)) empty over) off ∙ sym (front_followed atom G empty))
        ∙ ap (λ H. walk ms k atom H) (followed_empty G)

    sound_branch : Sound F (Takes e) → Sound G (Takes d) → Sound Branch (Takes (branch_term b e d))
    sound_branch f g ms k atom l β left h = by (truth b atom) refl
      where
        by : (t : Bool) → truth b atom ≡ t → (before : List Move) × (ms ≡ before ++ left) × (β ≡ last_atom atom before) × Takes (branch_term b e d) atom before
        by true on =
            let x = f ms k atom l β left (sym (branch_walk ms k atom true on) ∙ h) in
            (x.0, x.1, x.2, sum_first (product (test b) e) (product (test (complement b)) d) atom x.0 (after_test b e atom x.0 on x.3))
        by false off =
            let x = g ms k atom l β left (sym (branch_walk ms k atom false off) ∙ h) in
            (x.0, x.1, x.2, sum_second (product (test b) e) (product (test (complement b)) d) atom x.0 (after_test (complement b) d atom x.0 (not_true (truth b atom) off) x.3))

    complete_branch : Complete F (Takes e) → Complete G (Takes d) → Complete Branch (Takes (branch_term b e d))
    complete_branch f g before left k atom h = ⊎_elim yes no (sum_cases (product (test b) e) (product (test (complement b)) d) atom before h)
      where
        yes : Takes (product (test b) e) atom before → (l : ℕ) × (walk (before ++ left) k atom Branch ≡ ended l (last_atom atom before) left)
        yes y = let t = of_tested b e atom before y in let x = f before left k atom t.1 in (x.0, branch_walk (before ++ left) k atom true t.0 ∙ x.1)

        no : Takes (product (test (complement b)) d) atom before → (l : ℕ) × (walk (before ++ left) k atom Branch ≡ ended l (last_atom atom before) left)
        no n = let t = of_tested (complement b) d atom before n in let x = g before left k atom t.1 in (x.0, branch_walk (before ++ left) k atom false (true_not (truth b atom) t.0) ∙ x.1)

  module _ (b : TestTree) (e : Term) (F : PlacedTree) where
    abbrev Loop : PlacedTree
    Loop = loop_then path b F empty

    abbrev turn : Term
    turn = product (test b) e

    left_at_once : (ms : List Move) (k : ℕ) (atom : Atom) → truth b atom ≡ false → walk ms k atom Loop ≡ ended k atom ms
    left_at_once ms k atom off = loop_passed path b F empty ms k atom off ∙ walk_over ms k atom empty refl

    -- a turn before a string of the loop
    with_turn : (atom : Atom) (before after : List Move) → Takes turn atom before → Takes (loop_term b e) (last_atom atom before) after → Takes (loop_term b e) atom (before ++ after)
    with_turn atom before after first rest =
        let c = accepts_product (star turn) (test (complement b)) (last_atom atom before) after rest in
        let string : before ++ after ≡ (before ++ c.before) ++ c.after = ap (λ r. before ++ r) c.whole ∙ sym (append_assoc before c.before c.after) in
        subst (Takes (loop_term b e) atom) (sym string)
        (product_accepts (star turn) (test (complement b)) atom (before ++ c.before) c.after (star_accepts_piece turn atom before c.before first c.first)
        (subst (λ δ. Takes (test (complement b)) δ c.after) (sym (last_atom-append atom before c.before)) c.second))

    abbrev Followed : List Move → Atom → Atom → List Move → Type 0
    Followed ms atom β left = (before : List Move) × (ms ≡ before ++ left) × (β ≡ last_atom atom before) × Takes (loop_term b e) atom before

    -- one turn of a walk that ends, where shorter walks of the loop are known
    abbrev Shorter : List Move → ℕ → Atom → List Move → Type 0
    Shorter ms l β left = (mid : List Move) (j : ℕ) (γ : Atom) → length mid < length ms → walk mid j γ Loop ≡ ended l β left → Followed mid γ β left

    sound_turn : Sound F (Takes e) → (ms : List Move) (k : ℕ) (atom : Atom) (l : ℕ) (β : Atom) (left : List Move) → Shorter ms l β left → walk ms k atom Loop ≡ ended l β left → Followed ms atom β left
    sound_turn f ms k atom l β left shorter h = by (truth b atom) refl
      where
        apart : (x y : ℕ) → x ≤ y → (y ≡ x) ⊎ (x < y)
        apart x y le = grind (arith, le)

        idle : truth b atom ≡ true → (j : ℕ) (γ : Atom) (mid : List Move) → walk ms k atom F ≡ ended j γ mid → j ≡ k → Followed ms atom β left
        idle on j γ mid is same =
            let both : stopped (Blocked k path) ≡ ended l β left = sym (loop_idles path b F empty ms k atom on γ mid (is ∙ ap (λ i. ended i γ mid) same)) ∙ h in
            absurd cc

        next : truth b atom ≡ true → (j : ℕ) (γ : Atom) (mid : List Move) → walk ms k atom F ≡ ended j γ mid → k < j → Followed ms atom β left
        next on j γ mid is later =
            let count = walk_counts ms k atom F j γ mid is in
            let x = f ms k atom j γ mid is in
            let y = shorter mid j γ (omega (arith, count, later)) (sym (loop_turned path b F empty ms k atom on j γ mid later is) ∙ h) in (
              x.0 ++ y.0,
              x.1 ∙ ap (λ r. x.0 ++ r) y.1 ∙ sym (append_assoc x.0 y.0 left),
              y.2 ∙ ap (λ δ. last_atom δ y.0) x.2 ∙ sym (last_atom-append atom x.0 y.0),
              with_turn atom x.0 y.0 (after_test b e atom x.0 on x.3) (subst (λ δ. Takes (loop_term b e) δ y.0) x.2 y.3),
            )

        converse : truth b atom ≡ true → (w : Walk) → walk ms k atom F ≡ w → Followed ms atom β left
        converse on (stopped place) is =
            let both : stopped place ≡ ended l β left = sym (loop_stopped path b F empty ms k atom on place is) ∙ h in absurd cc
        converse on (ended j γ mid) is = ⊎_elim (λ same. idle on j γ mid is same) (λ later. next on j γ mid is later) (apart k j (walk_onward ms k atom F j γ mid is))

        by : (t : Bool) → truth b atom ≡ t → Followed ms atom β left
        by false off =
            let both : ended k atom ms ≡ ended l β left = sym (left_at_once ms k atom off) ∙ h in
            let rest : ms ≡ left = cc in
            let same : atom ≡ β = cc in
            ([], rest, sym same, product_accepts (star turn) (test (complement b)) atom [] [] refl (not_true (truth b atom) off))
        by true on = converse on (walk ms k atom F) refl

    sound_within : (n : ℕ) → Sound F (Takes e) → (ms : List Move) (k : ℕ) (atom : Atom) (l : ℕ) (β : Atom) (left : List Move) → length ms ≤ n → walk ms k atom Loop ≡ ended l β left → Followed ms atom β left
    sound_within zero f ms k atom l β left few h = sound_turn f ms k atom l β left (λ mid j γ less e'. absurd (omega (arith, few, less))) h
    sound_within (suc n) f ms k atom l β left few h = sound_turn f ms k atom l β left (λ mid j γ less e'. sound_within n f mid j γ l β left (omega (arith, few, less)) e') h

    sound_loop : Sound F (Takes e) → Sound Loop (Takes (loop_term b e))
    sound_loop f ms k atom l β left h = sound_within (length ms) f ms k atom l β left (omega arith) h

    -- the turns of an accepted string, one by one
    complete_turns : Complete F (Takes e) → (ps : List (List Move)) (left : List Move) (k : ℕ) (atom : Atom) → AcceptsEach turn atom ps → truth b (last_atom atom (flat_map (λ p. p) ps)) ≡ false
        → (l : ℕ) × (walk (flat_map (λ p. p) ps ++ left) k atom Loop ≡ ended l (last_atom atom (flat_map (λ p. p) ps)) left)
    complete_turns f [] left k atom each off = (k, left_at_once left k atom off)
    complete_turns f (p ∷ ps) left k atom (first, each) off =
        let rest = flat_map (λ q. q) ps in
        let t = of_tested b e atom p first in
        let last = last_atom-append atom p rest in
        let ends : truth b (last_atom (last_atom atom p) rest) ≡ false = ap (truth b) (sym last) ∙ off in
        let x = f p (rest ++ left) k atom t.1 in
        let string = append_assoc p rest left in
        ⊎_elim
        (λ same.
        -- the turn takes no action, so it is empty
        let count = walk_counts (p ++ (rest ++ left)) k atom F x.0 (last_atom atom p) (rest ++ left) x.1 in
        let none : p ≡ [] = no_moves p (omega (arith, count, same, length-append p (rest ++ left))) in
        let y = complete_turns f ps left k (last_atom atom p) each ends in (
          y.0,
          ap (λ r. walk r k atom Loop) (string ∙ ap (λ r. r ++ (rest ++ left)) none)
              ∙ ap (λ r. walk (rest ++ left) k (last_atom atom r) Loop) (sym none)
              ∙ y.1 ∙ ap (λ δ. ended y.0 δ left) (sym last),
        ))
        (λ later.
        let y = complete_turns f ps left x.0 (last_atom atom p) each ends in (
          y.0,
          ap (λ r. walk r k atom Loop) string
              ∙ loop_turned path b F empty (p ++ (rest ++ left)) k atom t.0 x.0 (last_atom atom p) (rest ++ left) later x.1
              ∙ y.1 ∙ ap (λ δ. ended y.0 δ left) (sym last),
        ))
        (apart k x.0 (walk_onward (p ++ (rest ++ left)) k atom F x.0 (last_atom atom p) (rest ++ left) x.1))
      where
        apart : (x y : ℕ) → x ≤ y → (y ≡ x) ⊎ (x < y)
        apart x y le = grind (arith, le)

    complete_loop : Complete F (Takes e) → Complete Loop (Takes (loop_term b e))
    complete_loop f before left k atom h =
        let c = accepts_product (star turn) (test (complement b)) atom before h in
        let t = accepts_test (complement b) (last_atom atom c.before) c.after c.second in
        let s = accepts_star turn atom c.before c.first in
        let moves = flat_map (λ p. p) s.0 in
        let whole : before ≡ moves = c.whole ∙ ap (λ r. c.before ++ r) t.0 ∙ append-nil c.before ∙ s.1 in
        let off : truth b (last_atom atom moves) ≡ false = ap (λ r. truth b (last_atom atom r)) (sym s.1) ∙ true_not (truth b (last_atom atom c.before)) t.1 in
        let y = complete_turns f s.0 left k atom s.2 off in
        (y.0, ap (λ r. walk (r ++ left) k atom Loop) whole ∙ y.1 ∙ ap (λ r. ended y.0 (last_atom atom r) left) (sym whole))

-- ---- programs

-- the walk of a list ends after what its terms accept in turn, and so after what their product accepts
of_product : (F : PlacedTree) (es : List Term) → Sound F (InTurn es) → Sound F (Takes (product_of es))
of_product F es f ms k atom l β left h = let x = f ms k atom l β left h in (x.0, x.1, x.2, (product_turn es atom x.0).1 x.3)

to_product : (F : PlacedTree) (es : List Term) → Complete F (InTurn es) → Complete F (Takes (product_of es))
to_product F es f before left k atom h = f before left k atom ((product_turn es atom before).0 h)

sound_flow : (f : FlowTree) (base : List ℕ) (j : ℕ) → Sound (placed base j f) (InTurn (stmt_terms f))
sound_flow flow.empty base j = λ ms k atom l β left e. sound_over ms k atom empty (InTurn []) refl refl l β left e
sound_flow (flow.skip_then rest) base j = sound_seq (placed_stmt (path_at base j) skip) (placed base (suc j) rest) (Takes one) (InTurn (stmt_terms rest)) (sound_skip (path_at base j)) (sound_flow rest base (suc j))
sound_flow (flow.abort_then rest) base j = sound_seq (placed_stmt (path_at base j) abort) (placed base (suc j) rest) (Takes nothing) (InTurn (stmt_terms rest)) (sound_abort (path_at base j)) (sound_flow rest base (suc j))
sound_flow (flow.assert_then b rest) base j = sound_seq (placed_stmt (path_at base j) (assert b)) (placed base (suc j) rest) (Takes (test b)) (InTurn (stmt_terms rest)) (sound_assert (path_at base j) b) (sound_flow rest base (suc j))
sound_flow (flow.act_then a rest) base j = sound_seq (placed_stmt (path_at base j) (act a)) (placed base (suc j) rest) (Takes (action a)) (InTurn (stmt_terms rest)) (sound_act (path_at base j) a) (sound_flow rest base (suc j))
sound_flow (flow.branch_then b f g rest) base j =
    let path = path_at base j in
    let F = placed (path_in path 0) 0 f in
    let G = placed (path_in path 1) 0 g in
    sound_seq (placed_stmt path (branch b f g)) (placed base (suc j) rest) (Takes (branch_term b (encoded f) (encoded g))) (InTurn (stmt_terms rest))
    (sound_branch path b (encoded f) (encoded g) F G (of_product F (stmt_terms f) (sound_flow f (path_in path 0) 0)) (of_product G (stmt_terms g) (sound_flow g (path_in path 1) 0)))
    (sound_flow rest base (suc j))
sound_flow (flow.loop_then b f rest) base j =
    let path = path_at base j in
    let F = placed (path_in path 0) 0 f in
    sound_seq (placed_stmt path (loop b f)) (placed base (suc j) rest) (Takes (loop_term b (encoded f))) (InTurn (stmt_terms rest))
    (sound_loop path b (encoded f) F (of_product F (stmt_terms f) (sound_flow f (path_in path 0) 0)))
    (sound_flow rest base (suc j))

complete_flow : (f : FlowTree) (base : List ℕ) (j : ℕ) → Complete (placed base j f) (InTurn (stmt_terms f))
complete_flow flow.empty base j = λ before left k atom none.
    (k, ap (λ r. walk (r ++ left) k atom empty) none ∙ walk_over left k atom empty refl ∙ ap (λ r. ended k (last_atom atom r) left) (sym none))
complete_flow (flow.skip_then rest) base j = complete_seq (placed_stmt (path_at base j) skip) (placed base (suc j) rest) (Takes one) (InTurn (stmt_terms rest)) (complete_skip (path_at base j)) (complete_flow rest base (suc j))
complete_flow (flow.abort_then rest) base j = complete_seq (placed_stmt (path_at base j) abort) (placed base (suc j) rest) (Takes nothing) (InTurn (stmt_terms rest)) (complete_abort (path_at base j)) (complete_flow rest base (suc j))
complete_flow (flow.assert_then b rest) base j = complete_seq (placed_stmt (path_at base j) (assert b)) (placed base (suc j) rest) (Takes (test b)) (InTurn (stmt_terms rest)) (complete_assert (path_at base j) b) (complete_flow rest base (suc j))
complete_flow (flow.act_then a rest) base j = complete_seq (placed_stmt (path_at base j) (act a)) (placed base (suc j) rest) (Takes (action a)) (InTurn (stmt_terms rest)) (complete_act (path_at base j) a) (complete_flow rest base (suc j))
complete_flow (flow.branch_then b f g rest) base j =
    let path = path_at base j in
    let F = placed (path_in path 0) 0 f in
    let G = placed (path_in path 1) 0 g in
    complete_seq (placed_stmt path (branch b f g)) (placed base (suc j) rest) (Takes (branch_term b (encoded f) (encoded g))) (InTurn (stmt_terms rest))
    (complete_branch path b (encoded f) (encoded g) F G (to_product F (stmt_terms f) (complete_flow f (path_in path 0) 0)) (to_product G (stmt_terms g) (complete_flow g (path_in path 1) 0)))
    (complete_flow rest base (suc j))
complete_flow (flow.loop_then b f rest) base j =
    let path = path_at base j in
    let F = placed (path_in path 0) 0 f in
    complete_seq (placed_stmt path (loop b f)) (placed base (suc j) rest) (Takes (loop_term b (encoded f))) (InTurn (stmt_terms rest))
    (complete_loop path b (encoded f) F (to_product F (stmt_terms f) (complete_flow f (path_in path 0) 0)))
    (complete_flow rest base (suc j))

-- ---- the law

pub accepted_ends : AcceptedStringsEnd
accepted_ends f x = (there (walk x.rest 0 x.first F) refl, back)
  where
    F : PlacedTree
    F = placed [] 0 f

    there : (w : Walk) → walk x.rest 0 x.first F ≡ w → place_reached (walk x.rest 0 x.first F) ≡ Ended (length x.rest) → IsTrue (accepts (encoded f) x.first x.rest)
    there (stopped place) is h = absurd (stops_unended x.rest 0 x.first F place (length x.rest) is (sym (ap place_reached is) ∙ h))
    there (ended j β left) is h =
        let at : Ended j ≡ Ended (length x.rest) = sym (ap place_reached is) ∙ h in
        let whole : j ≡ length x.rest = cc in
        let count = walk_counts x.rest 0 x.first F j β left is in
        let none : left ≡ [] = no_moves left (omega (arith, count, whole)) in
        let s = of_product F (stmt_terms f) (sound_flow f [] 0) x.rest 0 x.first j β left is in
        subst (Takes (encoded f) x.first) (sym (s.1 ∙ ap (λ r. s.0 ++ r) none ∙ append-nil s.0)) s.3

    back : IsTrue (accepts (encoded f) x.first x.rest) → place_of f x ≡ Ended (length x.rest)
    back h =
        let c = to_product F (stmt_terms f) (complete_flow f [] 0) x.rest [] 0 x.first h in
        let ends : walk x.rest 0 x.first F ≡ ended c.0 (last_atom x.first x.rest) [] = ap (λ r. walk r 0 x.first F) (sym (append-nil x.rest)) ∙ c.1 in
        let count = walk_counts x.rest 0 x.first F c.0 (last_atom x.first x.rest) [] ends in
        let whole : c.0 ≡ length x.rest = omega (arith, count) in
        ap place_reached ends ∙ ap Ended whole
