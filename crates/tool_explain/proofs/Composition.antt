-- The walk of two programs in turn, and of a loop, by the walks of their parts.
use Rattle.std.proofs.Common.{◌≡◌, ℕ, suc, ◌≤◌, ◌<◌, List, [], ◌∷◌, refl, sym, ap, ◌∙◌, Bool, true, false, cond, arith}
use Rattle.std.specs.Prelude.{nat_eq}
use Rattle.kat_model.specs.Trees.{TestTree}
use Rattle.kat_model.specs.Steps.{Atom, truth}
use Rattle.kat_model.specs.Strings.{Move}
use Rattle.while_lang.specs.Flows.{FlowTree, FlowStmt, skip, abort, assert, act, branch, loop, with_stmt}
use Rattle.tool_explain.specs.declared.place.Place.{Place}
use Rattle.tool_explain.specs.declared.place.Place.TheVariants.{Blocked, AtAction}
use Rattle.tool_explain.specs.Places.{PlacedTree, empty, skip_then, abort_then, assert_then, act_then, branch_then, loop_then, path_at, placed, followed_by, Front, over, blocked, acting, then_front, turn_front, front, Walk, ended, stopped, at_end, at_move, walk}
use Rattle.tool_explain.specs.Working.Walks.{placed_stmt}

-- ---- programs in turn

pub followed_assoc : (f g h : PlacedTree) → followed_by (followed_by f g) h ≡ followed_by f (followed_by g h)
followed_assoc empty g h = refl
followed_assoc (skip_then rest) g h = ap skip_then (followed_assoc rest g h)
followed_assoc (abort_then path rest) g h = ap (abort_then path) (followed_assoc rest g h)
followed_assoc (assert_then path b rest) g h = ap (assert_then path b) (followed_assoc rest g h)
followed_assoc (act_then path a rest) g h = ap (act_then path a) (followed_assoc rest g h)
followed_assoc (branch_then b f e rest) g h = ap (branch_then b f e) (followed_assoc rest g h)
followed_assoc (loop_then path b f rest) g h = ap (loop_then path b f) (followed_assoc rest g h)

-- under an atom: a statement that goes on if a test is true, a first part before a rest, and a turn of a loop
tested_front : (t : Bool) (x y : Front) (path : List ℕ) (g : PlacedTree) (next : Front) → x ≡ then_front y g next → cond t x (blocked path) ≡ then_front (cond t y (blocked path)) g next
tested_front true x y path g next e = e
tested_front false x y path g next e = refl

parts_front : (c x y : Front) (rest g : PlacedTree) (next : Front) → x ≡ then_front y g next → then_front c (followed_by rest g) x ≡ then_front (then_front c rest y) g next
parts_front over x y rest g next e = e
parts_front (blocked path) x y rest g next e = refl
parts_front (acting path a f) x y rest g next e = ap (acting path a) (sym (followed_assoc f rest g))

turn_followed : (c : Front) (path : List ℕ) (again g : PlacedTree) (next : Front) → turn_front c path (followed_by again g) ≡ then_front (turn_front c path again) g next
turn_followed over path again g next = refl
turn_followed (blocked inner) path again g next = refl
turn_followed (acting inner a f) path again g next = ap (acting inner a) (sym (followed_assoc f again g))

loop_front : (t : Bool) (c x y : Front) (path : List ℕ) (again g : PlacedTree) (next : Front) → x ≡ then_front y g next
    → cond t (turn_front c path (followed_by again g)) x ≡ then_front (cond t (turn_front c path again) y) g next
loop_front true c x y path again g next e = turn_followed c path again g next
loop_front false c x y path again g next e = e

pub front_followed : (atom : Atom) (f g : PlacedTree) → front atom (followed_by f g) ≡ then_front (front atom f) g (front atom g)
front_followed atom empty g = refl
front_followed atom (skip_then rest) g = front_followed atom rest g
front_followed atom (abort_then path rest) g = refl
front_followed atom (assert_then path b rest) g =
    tested_front (truth b atom) (front atom (followed_by rest g)) (front atom rest) path g (front atom g) (front_followed atom rest g)
front_followed atom (act_then path a rest) g = refl
front_followed atom (branch_then b f e rest) g =
    parts_front (cond (truth b atom) (front atom f) (front atom e)) (front atom (followed_by rest g)) (front atom rest) rest g (front atom g) (front_followed atom rest g)
front_followed atom (loop_then path b f rest) g =
    loop_front (truth b atom) (front atom f) (front atom (followed_by rest g)) (front atom rest) path (loop_then path b f rest) g (front atom g) (front_followed atom rest g)

-- a walk goes on where it ended
abbrev pub then_walk : Walk → (ℕ → Atom → List Move → Walk) → Walk
then_walk (ended k atom left) next = next k atom left
then_walk (stopped place) next = stopped place

-- the walk of a program from where another ended
abbrev pub onward : PlacedTree → ℕ → Atom → List Move → Walk
onward g k atom left = walk left k atom g

end_followed : (c : Front) (k : ℕ) (atom : Atom) (g : PlacedTree) → at_end (then_front c g (front atom g)) k atom ≡ then_walk (at_end c k atom) (onward g)
end_followed over k atom g = refl
end_followed (blocked path) k atom g = refl
end_followed (acting path a rest) k atom g = refl

-- the walk after an action, if it is the one of the move
acted : (t : Bool) (x y : Walk) (place : Place) (g : PlacedTree) → x ≡ then_walk y (onward g) → cond t x (stopped place) ≡ then_walk (cond t y (stopped place)) (onward g)
acted true x y place g e = e
acted false x y place g e = refl

move_followed : (c : Front) (k : ℕ) (atom : Atom) (m : Move) (ms : List Move) (g : PlacedTree)
    → ((rest : PlacedTree) → walk ms (suc k) m.atom (followed_by rest g) ≡ then_walk (walk ms (suc k) m.atom rest) (onward g))
    → at_move (then_front c g (front atom g)) k atom m ms (λ rest. walk ms (suc k) m.atom rest) ≡ then_walk (at_move c k atom m ms (λ rest. walk ms (suc k) m.atom rest)) (onward g)
move_followed over k atom m ms g so = refl
move_followed (blocked path) k atom m ms g so = refl
move_followed (acting path a rest) k atom m ms g so =
    acted (nat_eq m.act a) (walk ms (suc k) m.atom (followed_by rest g)) (walk ms (suc k) m.atom rest) (AtAction k path) g (so rest)

-- the walk of two programs in turn
pub walk_followed : (ms : List Move) (k : ℕ) (atom : Atom) (f g : PlacedTree) → walk ms k atom (followed_by f g) ≡ then_walk (walk ms k atom f) (onward g)
walk_followed [] k atom f g = ap (λ c. at_end c k atom) (front_followed atom f g) ∙ end_followed (front atom f) k atom g
walk_followed (m ∷ ms) k atom f g =
    ap (λ c. at_move c k atom m ms (λ rest. walk ms (suc k) m.atom rest)) (front_followed atom f g)
    ∙ move_followed (front atom f) k atom m ms g (λ rest. walk_followed ms (suc k) m.atom rest g)

-- the first statement of a list and the others
pub placed_split : (base : List ℕ) (j : ℕ) (s : FlowStmt) (rest : FlowTree) → placed base j (with_stmt s rest) ≡ followed_by (placed_stmt (path_at base j) s) (placed base (suc j) rest)
placed_split base j skip rest = refl
placed_split base j abort rest = refl
placed_split base j (assert b) rest = refl
placed_split base j (act a) rest = refl
placed_split base j (branch b f g) rest = refl
placed_split base j (loop b f) rest = refl

-- ---- positions

-- a walk does not go back
pub walk_onward : (ms : List Move) (k : ℕ) (atom : Atom) (f : PlacedTree) (j : ℕ) (after : Atom) (left : List Move) → walk ms k atom f ≡ ended j after left → k ≤ j
walk_onward [] k atom f j after left e = go (front atom f) e
  where
    go : (c : Front) → at_end c k atom ≡ ended j after left → k ≤ j
    go over h = let same : k ≡ j = cc in omega (arith, same)
    go (blocked path) h = absurd cc
    go (acting path a rest) h = absurd cc
walk_onward (m ∷ ms) k atom f j after left e = go (λ rest. walk_onward ms (suc k) m.atom rest j after left) (front atom f) e
  where
    went : ((rest : PlacedTree) → walk ms (suc k) m.atom rest ≡ ended j after left → suc k ≤ j) → (t : Bool) (rest : PlacedTree) (place : Place) → cond t (walk ms (suc k) m.atom rest) (stopped place) ≡ ended j after left → k ≤ j
    went later true rest place h = let past = later rest h in omega (arith, past)
    went later false rest place h = absurd cc

    go : ((rest : PlacedTree) → walk ms (suc k) m.atom rest ≡ ended j after left → suc k ≤ j) → (c : Front) → at_move c k atom m ms (λ rest. walk ms (suc k) m.atom rest) ≡ ended j after left → k ≤ j
    go later over h = let same : k ≡ j = cc in omega (arith, same)
    go later (blocked path) h = absurd cc
    go later (acting path a rest) h = went later (nat_eq m.act a) rest (AtAction k path) h

-- ---- loops

module _ (path : List ℕ) (b : TestTree) (body rest : PlacedTree) where
  abbrev again : PlacedTree
  again = loop_then path b body rest

  -- a loop whose test is false is left
  pub loop_passed : (ms : List Move) (k : ℕ) (atom : Atom) → truth b atom ≡ false → walk ms k atom again ≡ walk ms k atom rest
  loop_passed [] k atom e = ap (λ t. at_end (cond t (turn_front (front atom body) path again) (front atom rest)) k atom) e
  loop_passed (m ∷ ms) k atom e =
      ap (λ t. at_move (cond t (turn_front (front atom body) path again) (front atom rest)) k atom m ms (λ g. walk ms (suc k) m.atom g)) e

  -- a loop whose test is true does what its body does
  entered : (atom : Atom) → truth b atom ≡ true → front atom again ≡ turn_front (front atom body) path again
  entered atom e = ap (λ t. cond t (turn_front (front atom body) path again) (front atom rest)) e

  -- the walk of a turn
  abbrev turn_walk : List Move → ℕ → Atom → Front → Walk
  turn_walk [] k atom c = at_end (turn_front c path again) k atom
  turn_walk (m ∷ ms) k atom c = at_move (turn_front c path again) k atom m ms (λ g. walk ms (suc k) m.atom g)

  abbrev body_walk : List Move → ℕ → Atom → Front → Walk
  body_walk [] k atom c = at_end c k atom
  body_walk (m ∷ ms) k atom c = at_move c k atom m ms (λ g. walk ms (suc k) m.atom g)

  body_is : (ms : List Move) (k : ℕ) (atom : Atom) → walk ms k atom body ≡ body_walk ms k atom (front atom body)
  body_is [] k atom = refl
  body_is (m ∷ ms) k atom = refl

  turn_is : (ms : List Move) (k : ℕ) (atom : Atom) → truth b atom ≡ true → walk ms k atom again ≡ turn_walk ms k atom (front atom body)
  turn_is [] k atom e = ap (λ c. at_end c k atom) (entered atom e)
  turn_is (m ∷ ms) k atom e = ap (λ c. at_move c k atom m ms (λ g. walk ms (suc k) m.atom g)) (entered atom e)

  -- after an action, the rest of the body goes before the loop
  turn_acted : (t : Bool) (m : Move) (ms : List Move) (k : ℕ) (f : PlacedTree) (place : Place)
      → cond t (walk ms (suc k) m.atom (followed_by f again)) (stopped place) ≡ then_walk (cond t (walk ms (suc k) m.atom f) (stopped place)) (onward again)
  turn_acted true m ms k f place = walk_followed ms (suc k) m.atom f again
  turn_acted false m ms k f place = refl

  -- a body that takes an action, or is blocked: the walk of the turn is that of the body, and then of the loop
  turn_goes : (ms : List Move) (k : ℕ) (atom : Atom) (c : Front) → (c ≡ over → ⊥) → turn_walk ms k atom c ≡ then_walk (body_walk ms k atom c) (onward again)
  turn_goes ms k atom over active = absurd (active refl)
  turn_goes [] k atom (blocked inner) active = refl
  turn_goes (m ∷ ms) k atom (blocked inner) active = refl
  turn_goes [] k atom (acting inner a f) active = refl
  turn_goes (m ∷ ms) k atom (acting inner a f) active = turn_acted (nat_eq m.act a) m ms k f (AtAction k inner)

  -- a body that ends at once
  turn_idles : (ms : List Move) (k : ℕ) (atom : Atom) → turn_walk ms k atom over ≡ stopped (Blocked k path)
  turn_idles [] k atom = refl
  turn_idles (m ∷ ms) k atom = refl

  idle_at : (ms : List Move) (k : ℕ) (atom : Atom) → body_walk ms k atom over ≡ ended k atom ms
  idle_at [] k atom = refl
  idle_at (m ∷ ms) k atom = refl

  module _ (ms : List Move) (k : ℕ) (atom : Atom) (on : truth b atom ≡ true) where
    -- a turn that stops
    pub loop_stopped : (place : Place) → walk ms k atom body ≡ stopped place → walk ms k atom again ≡ stopped place
    loop_stopped place e = turn_is ms k atom on ∙ by (front atom body) (sym (body_is ms k atom) ∙ e)
      where
        by : (c : Front) → body_walk ms k atom c ≡ stopped place → turn_walk ms k atom c ≡ stopped place
        by over h = let none : ended k atom ms ≡ stopped place = sym (idle_at ms k atom) ∙ h in absurd cc
        by (blocked inner) h = turn_goes ms k atom (blocked inner) (λ same. absurd cc) ∙ ap (λ w. then_walk w (onward again)) h
        by (acting inner a f) h = turn_goes ms k atom (acting inner a f) (λ same. absurd cc) ∙ ap (λ w. then_walk w (onward again)) h

    -- a turn that took an action
    pub loop_turned : (j : ℕ) (after : Atom) (left : List Move) → k < j → walk ms k atom body ≡ ended j after left → walk ms k atom again ≡ walk left j after again
    loop_turned j after left later e = turn_is ms k atom on ∙ by (front atom body) (sym (body_is ms k atom) ∙ e)
      where
        by : (c : Front) → body_walk ms k atom c ≡ ended j after left → turn_walk ms k atom c ≡ walk left j after again
        by over h =
            let both : ended k atom ms ≡ ended j after left = sym (idle_at ms k atom) ∙ h in
            let same : k ≡ j = cc in
            absurd (omega (arith, later, same))
        by (blocked inner) h = turn_goes ms k atom (blocked inner) (λ same. absurd cc) ∙ ap (λ w. then_walk w (onward again)) h
        by (acting inner a f) h = turn_goes ms k atom (acting inner a f) (λ same. absurd cc) ∙ ap (λ w. then_walk w (onward again)) h

    -- a turn that took none
    pub loop_idles : (after : Atom) (left : List Move) → walk ms k atom body ≡ ended k after left → walk ms k atom again ≡ stopped (Blocked k path)
    loop_idles after left e = turn_is ms k atom on ∙ by ms (front atom body) (sym (body_is ms k atom) ∙ e)
      where
        -- an action leads past the position
        passed : (m : Move) (rs : List Move) (t : Bool) (f : PlacedTree) (place : Place) → cond t (walk rs (suc k) m.atom f) (stopped place) ≡ ended k after left → ⊥
        passed m rs true f place h = let later = walk_onward rs (suc k) m.atom f k after left h in omega (arith, later)
        passed m rs false f place h = absurd cc

        by : (rs : List Move) (c : Front) → body_walk rs k atom c ≡ ended k after left → turn_walk rs k atom c ≡ stopped (Blocked k path)
        by rs over h = turn_idles rs k atom
        by [] (blocked inner) h = absurd cc
        by (m ∷ rs) (blocked inner) h = absurd cc
        by [] (acting inner a f) h = absurd cc
        by (m ∷ rs) (acting inner a f) h = absurd (passed m rs (nat_eq m.act a) f (AtAction k inner) h)
