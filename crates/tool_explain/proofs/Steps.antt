-- One step of the walk of the code: a statement of a list, a block, and a turn of a loop.
use Rattle.std.proofs.Common.{◌≡◌, ◌≤◌, ◌<◌, ◌+◌, ◌-◌, ℕ, List, [], ◌∷◌, ◌++◌, length, get_or, drop, Option, Some, None, refl, sym, ap, ◌∙◌, true, false, length-append, take_at, arith}
use Rattle.std.proofs.lemmas.List.{at_drop_more, at_drop_all}
use Rattle.kat_model.specs.Trees.{TestTree}
use Rattle.kat_model.specs.Steps.{truth}
use Rattle.kat_model.specs.Strings.{GuardedString}
use Rattle.while_lang.specs.Flows as flow
use Rattle.while_lang.specs.Flows.{FlowTree, FlowStmt, with_stmt}
use Rattle.while_lang.specs.FlowViews.{flow_stmt, flows_tree}
use Rattle.while_lang.specs.declared.flow.Flow.{Flow}
use Rattle.tool_explain.specs.declared.walking.Stop.{Stop}
use Rattle.tool_explain.specs.declared.walking.Stop.TheVariants as stop
use Rattle.tool_explain.specs.Places.{path_at, path_in, placed, empty, ended, stopped}
use Rattle.tool_explain.specs.Working.Walks.{atom_from, walk_from, End, over, halted, end_of, then_on, end_of_walk, loop_end, list_end, stmt_end, without_last}
use Rattle.tool_explain.proofs.Composition.{loop_passed, loop_stopped, loop_turned, loop_idles}
use Rattle.tool_explain.proofs.Accepted.{walk_over}
use Rattle.tool_explain.proofs.Ends.{place_halted, walk_of, list_same}

-- ---- paths

pub without_number : (base : List ℕ) (k : ℕ) → without_last (base ++ k ∷ []) ≡ base
without_number base k = take_at base (k ∷ []) (length (base ++ k ∷ []) - 1) (omega (arith, length-append base (k ∷ [])))

-- the path after a part that has ended
pub path_left : (base pushed inner path : List ℕ) (k : ℕ) → pushed ≡ base ++ k ∷ [] → inner ≡ pushed → path ≡ without_last inner → path ≡ base
path_left base pushed inner path k e f g = g ∙ ap without_last (f ∙ e) ∙ without_number base k

-- ---- lists

-- a first statement and the others
first_end : (x : GuardedString) (base : List ℕ) (j : ℕ) (s : FlowStmt) (rest : FlowTree) (k : ℕ) → list_end x base j (with_stmt s rest) k ≡ then_on (stmt_end x (path_at base j) s k) (list_end x base (j + 1) rest)
first_end x base j flow.skip rest k = refl
first_end x base j flow.abort rest k = refl
first_end x base j (flow.assert b) rest k = refl
first_end x base j (flow.act a) rest k = refl
first_end x base j (flow.branch b f g) rest k = refl
first_end x base j (flow.loop b f) rest k = refl

module _ (x : GuardedString) (base : List ℕ) (list : List Flow) (start j k : ℕ) where
  -- the statements from number j on remain, from position k
  abbrev pub Remains : Type 0
  Remains = list_end x base 0 (flows_tree list) start ≡ list_end x base j (flows_tree (drop j list)) k

  at_statement : (s : Flow) → j < length list → s ≡ get_or list j s → list_end x base j (flows_tree (drop j list)) k ≡ then_on (stmt_end x (path_at base j) (flow_stmt s) k) (list_end x base (j + 1) (flows_tree (drop (j + 1) list)))
  at_statement s lt is =
      at_drop_more (λ l. list_end x base j (flows_tree l) k) list j s lt
      ∙ ap (λ r. list_end x base j (with_stmt (flow_stmt r) (flows_tree (drop (j + 1) list))) k) (sym is)
      ∙ first_end x base j (flow_stmt s) (flows_tree (drop (j + 1) list)) k

  module _ (s : Flow) (y : GuardedString) (pushed path : List ℕ) (why : Option Stop) (l : ℕ) (lt : j < length list) (is : s ≡ get_or list j s) (same : y ≡ x) (at : pushed ≡ base ++ j ∷ []) (walked : end_of why l path ≡ stmt_end y pushed (flow_stmt s) k) (whole : Remains) where
    end_here : end_of why l path ≡ stmt_end x (path_at base j) (flow_stmt s) k
    end_here = walked ∙ ap (λ z. stmt_end z pushed (flow_stmt s) k) same ∙ ap (λ p. stmt_end x p (flow_stmt s) k) at

    -- a statement that ended
    pub list_continues : why ≡ None → list_end x base 0 (flows_tree list) start ≡ list_end x base (j + 1) (flows_tree (drop (j + 1) list)) l
    list_continues ends =
        let e : over l ≡ stmt_end x (path_at base j) (flow_stmt s) k = sym (ap (λ o. end_of o l path) ends) ∙ end_here in
        whole ∙ at_statement s lt is ∙ ap (λ c. then_on c (list_end x base (j + 1) (flows_tree (drop (j + 1) list)))) (sym e)

    -- a statement at which the walk stops
    pub list_stops : (reason : Stop) → why ≡ Some reason → halted reason l path ≡ list_end x base 0 (flows_tree list) start
    list_stops reason ends =
        let e : halted reason l path ≡ stmt_end x (path_at base j) (flow_stmt s) k = sym (ap (λ o. end_of o l path) ends) ∙ end_here in
        sym (whole ∙ at_statement s lt is ∙ ap (λ c. then_on c (list_end x base (j + 1) (flows_tree (drop (j + 1) list)))) (sym e))

  -- no statement is left
  pub list_over : length list ≤ j → Remains → over k ≡ list_end x base 0 (flows_tree list) start
  list_over past whole = sym (whole ∙ at_drop_all (λ l. list_end x base j (flows_tree l) k) list j past)

-- ---- blocks and loops

-- the end of a block of the statement at the path, from the string and the path during the walk
pub block_end : (x y : GuardedString) (path now inner : List ℕ) (block : ℕ) (f : FlowTree) (k l : ℕ) (why : Option Stop) → y ≡ x → now ≡ path → end_of why l inner ≡ list_end y (path_in now block) 0 f k
    → end_of why l inner ≡ list_end x (path_in path block) 0 f k
block_end x y path now inner block f k l why same back walked = walked ∙ ap (λ z. list_end z (path_in now block) 0 f k) same ∙ ap (λ p. list_end x (path_in p block) 0 f k) back

-- the end of a part that has ended, and of one at which the walk stops
pub part_over : (why : Option Stop) (l : ℕ) (path : List ℕ) (e : End) → why ≡ None → end_of why l path ≡ e → over l ≡ e
part_over why l path e ends is = sym (ap (λ o. end_of o l path) ends) ∙ is

pub part_halted : (why : Option Stop) (l : ℕ) (path : List ℕ) (e : End) (reason : Stop) → why ≡ Some reason → end_of why l path ≡ e → halted reason l path ≡ e
part_halted why l path e reason ends is = sym (ap (λ o. end_of o l path) ends) ∙ is

-- the end by the path after a part at which the walk stops
pub path_kept : (why : Option Stop) (l : ℕ) (path inner : List ℕ) (e : End) (reason : Stop) → why ≡ Some reason → end_of why l path ≡ end_of why l inner → halted reason l inner ≡ e → end_of (Some reason) l path ≡ e
path_kept why l path inner e reason ends kept is = sym (ap (λ o. end_of o l path) ends) ∙ kept ∙ ap (λ o. end_of o l inner) ends ∙ is

module _ (x : GuardedString) (path : List ℕ) (b : TestTree) (f : FlowTree) (k : ℕ) where
  -- a loop that is left
  pub loop_left : truth b (atom_from x k) ≡ false → loop_end x path b f k ≡ over k
  loop_left off =
      ap end_of_walk
      (loop_passed path b (placed (path_in path 0) 0 f) empty (drop k x.rest) k (atom_from x k) off ∙ walk_over (drop k x.rest) k (atom_from x k) empty refl)

  module _ (on : truth b (atom_from x k) ≡ true) where
    -- the walk of a turn that ended
    turn_over : (l : ℕ) → over l ≡ list_end x (path_in path 0) 0 f k → walk_from x k (placed (path_in path 0) 0 f) ≡ ended l (atom_from x l) (drop l x.rest)
    turn_over l e = sym (list_same x f (path_in path 0) 0 k) ∙ sym (ap (walk_of x) e)

    -- a turn that ended after an action
    pub turn_ended : (l : ℕ) → k < l → over l ≡ list_end x (path_in path 0) 0 f k → loop_end x path b f k ≡ loop_end x path b f l
    turn_ended l later e =
        ap end_of_walk (loop_turned path b (placed (path_in path 0) 0 f) empty (drop k x.rest) k (atom_from x k) on l (atom_from x l) (drop l x.rest) later (turn_over l e))

    -- a turn that ended without one
    pub turn_idle : over k ≡ list_end x (path_in path 0) 0 f k → loop_end x path b f k ≡ halted stop.Blocked k path
    turn_idle e = ap end_of_walk (loop_idles path b (placed (path_in path 0) 0 f) empty (drop k x.rest) k (atom_from x k) on (atom_from x k) (drop k x.rest) (turn_over k e))

    pub turn_repeats : (l : ℕ) (left : List ℕ) → l ≡ k → left ≡ path → over l ≡ list_end x (path_in path 0) 0 f k → halted stop.Blocked l left ≡ loop_end x path b f k
    turn_repeats l left same back e =
        ap (λ n. halted stop.Blocked n left) same ∙ ap (λ p. halted stop.Blocked k p) back ∙ sym (turn_idle (ap over (sym same) ∙ e))

    -- a turn in which the walk stops
    pub turn_stopped : (why : Stop) (l : ℕ) (inner : List ℕ) → halted why l inner ≡ list_end x (path_in path 0) 0 f k → loop_end x path b f k ≡ halted why l inner
    turn_stopped why l inner e =
        ap end_of_walk (loop_stopped path b (placed (path_in path 0) 0 f) empty (drop k x.rest) k (atom_from x k) on (place_halted why l inner) (sym (list_same x f (path_in path 0) 0 k) ∙ sym (ap (walk_of x) e)))
        ∙ again why
      where
        again : (w : Stop) → end_of_walk (stopped (place_halted w l inner)) ≡ halted w l inner
        again stop.Blocked = refl
        again stop.AtAction = refl

-- ---- the whole program

pub whole_end : (x y : GuardedString) (base : List ℕ) (f : FlowTree) (list : List Flow) (k : ℕ) (e : End) → y ≡ x → base ≡ [] → flows_tree list ≡ f → k ≡ 0 → e ≡ list_end y base 0 (flows_tree list) k → e ≡ list_end x [] 0 f 0
whole_end x y base f list k e string start tree first walked =
    walked
    ∙ ap (λ z. list_end z base 0 (flows_tree list) k) string
    ∙ ap (λ p. list_end x p 0 (flows_tree list) k) start
    ∙ ap (λ g. list_end x [] 0 g k) tree
    ∙ ap (λ n. list_end x [] 0 f n) first
