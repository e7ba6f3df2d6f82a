-- The universal term accepts every string over its actions, and any strings around another term.
use Rattle.std.proofs.Common.{◌≡◌, ℕ, zero, suc, ◌<◌, ◌⊎◌, inl, inr, ⊎_elim, List, [], ◌∷◌, ◌++◌, refl, sym, ap, ◌∙◌, subst, arith, true, append_assoc}
use Rattle.std.specs.Bool.{IsTrue}
use Rattle.kat_model.specs.Trees.{Term, one, act, product, star}
use Rattle.kat_model.specs.Members.{Has}
use Rattle.kat_model.specs.Steps.{Atom, dot, next}
use Rattle.kat_model.specs.Strings.{Move, last_atom, AreMoves, accepts}
use Rattle.kat_model.specs.Balanced.{sum_of}
use Rattle.kat_model.specs.Closed.{actions_below, universal_of, inside}
use Rattle.kat_model.specs.Laws.{IsWithin}
use Rattle.kat_model.proofs.Lists.{has_left, has_right, map_has, flat_map_has, next_act_has}
use Rattle.kat_model.proofs.Acceptance.{step_accepts}
use Rattle.kat_model.proofs.Cuts.{product_accepts, accepts_product}
use Rattle.kat_model.proofs.BalancedSums.{next-sum_of}

pub actions_below_has : (a n : ℕ) → a < n → Has (actions_below n) (act a)
actions_below_has a zero h = absurd (omega arith)
actions_below_has a (suc n) h = ⊎_elim (λ e. has_right (actions_below n) _ (act a) (inl (ap act (sym e)))) (λ l. has_left (actions_below n) _ (act a) (actions_below_has a n l)) (cases a n h)
  where
    cases : (a n : ℕ) → a < suc n → (a ≡ n) ⊎ (a < n)
    cases a n h = grind arith

-- each of its actions leads from the universal term to itself
pub next_universal_has : (actions : ℕ) (atom : Atom) (a : ℕ) → a < actions → Has (next (universal_of actions) atom a) (universal_of actions)
next_universal_has actions atom a h =
    let es = actions_below actions in
    let step : Has (next (sum_of es) atom a) one =
    rw (next-sum_of es atom a) (flat_map_has (λ e. next e atom a) es (act a) one (actions_below_has a actions h) (next_act_has atom a a refl)) in
    map_has (λ x. dot x (star (sum_of es))) (next (sum_of es) atom a) one step

pub accepts-universal : (tests actions : ℕ) (atom : Atom) (ms : List Move) → AreMoves tests actions ms → accepts (universal_of actions) atom ms ≡ true
accepts-universal tests actions atom [] are = refl
accepts-universal tests actions atom (m ∷ ms) are =
    step_accepts (universal_of actions) atom m ms (universal_of actions) (next_universal_has actions atom m.act (are m (inl refl)).0)
    (accepts-universal tests actions m.atom ms (λ n h. are n (inr h)))

module _ (tests actions : ℕ) where
  pub are_moves_left : (xs ys : List Move) → AreMoves tests actions (xs ++ ys) → AreMoves tests actions xs
  are_moves_left xs ys are m h = are m (has_left xs ys m h)

  pub are_moves_right : (xs ys : List Move) → AreMoves tests actions (xs ++ ys) → AreMoves tests actions ys
  are_moves_right xs ys are m h = are m (has_right xs ys m h)

-- a string that `inside` accepts has a part that the inner term accepts
pub accepts_inside : (u e : Term) (atom : Atom) (ms : List Move) → IsTrue (accepts (inside u e) atom ms) → IsWithin e atom ms
accepts_inside u e atom ms h =
    let c = accepts_product u (product e u) atom ms h in
    let d = accepts_product e u (last_atom atom c.before) c.after c.second in
    record {
      before = c.before;
      part = d.before;
      after = d.after;
      whole = c.whole ∙ ap (λ l. c.before ++ l) d.whole ∙ sym (append_assoc c.before d.before d.after);
      taken = d.first;
    }

pub inside_universal_accepts : (tests actions : ℕ) (e : Term) (atom : Atom) (ms : List Move) → AreMoves tests actions ms → IsWithin e atom ms → IsTrue (accepts (inside (universal_of actions) e) atom ms)
inside_universal_accepts tests actions e atom ms are w =
    let u = universal_of actions in
    let whole : ms ≡ w.before ++ (w.part ++ w.after) = w.whole ∙ append_assoc w.before w.part w.after in
    let all : AreMoves tests actions (w.before ++ (w.part ++ w.after)) = subst (AreMoves tests actions) whole are in
    let rest = are_moves_right tests actions w.before (w.part ++ w.after) all in
    let first = accepts-universal tests actions atom w.before (are_moves_left tests actions w.before (w.part ++ w.after) all) in
    let middle = last_atom atom w.before in
    let last = accepts-universal tests actions (last_atom middle w.part) w.after (are_moves_right tests actions w.part w.after rest) in
    rw whole (product_accepts u (product e u) atom w.before (w.part ++ w.after) first (product_accepts e u middle w.part w.after w.taken last))
