-- The loop over the points of a program is a form of the program.
use Rattle.std.proofs.Common.{◌≡◌, ℕ, ◌+◌, ◌<◌, ◌≤◌, ◌↔◌, List, [], ◌∷◌, ◌++◌, length, map, set, true, Some, refl, sym, ap, ◌∙◌, subst, arith}
use Rattle.std.specs.List.{All, slice_get}
use Rattle.std.proofs.lemmas.List.{same_from_push}
use Rattle.kat_model.specs.Expressions.{number}
use Rattle.kat_model.specs.Stores.{modulus, Store, IsStore, value}
use Rattle.kat_model.specs.declared.expression.Width.{Width}
use Rattle.while_lang.specs.Programs.{ProgTree, empty, loop_then, is_concrete, statements}
use Rattle.while_lang.specs.Runs.{condition, Leaves, Loops, Goes, Ends}
use Rattle.one_loop.specs.Variables.{HasVarsBelow}
use Rattle.one_loop.specs.Forms.{IsStoreOf, with_counter, IsOneForm}
use Rattle.one_loop.specs.Working.Machine.{Point, Halts, start_of, points_of}
use Rattle.one_loop.specs.Working.Blocks.{block_of, Chooses, is_going, loop_from, IsPointLoop}
use Rattle.one_loop.proofs.PointLists.{length_points}
use Rattle.one_loop.proofs.MachineRuns.{EndsFrom, machine_ends}
use Rattle.one_loop.proofs.TurnShapes.{IsPointWithin, points_within, start_within, blocks_are_turns, choice_is_turn, one_loop_only, form_is_concrete, form_variables}
use Rattle.one_loop.proofs.LoopTurns.{jumped, halts_turns, turns_halt}

-- the element at the end of a list
get_last : (s : Store) (v c : ℕ) → length s ≡ v → slice_get (with_counter s c) v ≡ Some c
get_last [] v c len = rw (← len) refl
get_last (x ∷ s) v c len = rw (← len) (get_last s (length s) c refl)

module _ (w : Width) (p : ProgTree) (v : ℕ) (concrete : is_concrete p ≡ true) (variables : HasVarsBelow v p) (fits : statements p < modulus w)
    (body : ProgTree) (choice : Chooses v 1 (map (block_of v) (points_of p 0 0)) body) where
  abbrev points : List Point
  points = points_of p 0 0

  within : All (IsPointWithin v (statements p)) points
  within = points_within v (statements p) p 0 0 concrete variables (omega arith) (omega arith)

  begun : start_of p 0 0 ≤ statements p
  begun = start_within (statements p) p 0 0 (omega arith) (omega arith)

  -- the form starts at the first point, whatever the counter is
  begins : (s : Store) (c : ℕ) → length s ≡ v → set (with_counter s c) v (value w (with_counter s c) (number (start_of p 0 0))) ≡ with_counter s (start_of p 0 0)
  begins s c len = jumped w v (statements p) fits s c (start_of p 0 0) len begun

  form_goes : (s t : Store) (c : ℕ) → length s ≡ v → Ends w p s t → Ends w (loop_from v (start_of p 0 0) body) (with_counter s c) (with_counter t 0)
  form_goes s t c len ends =
      let steps = (machine_ends w p s t).0 ends in
      let turns = halts_turns w v (statements p) fits points (length_points p 0 0) within body choice steps.0 (start_of p 0 0) s t len steps.1 in (
        turns.0,
        subst (λ u. Goes w (loop_then (is_going v) body empty) u turns.0 (with_counter t 0)) (sym (begins s c len))
            (turns.0, 0, with_counter t 0, (steps.0, turns.1), (refl, refl), omega arith),
      )

  form_came : (s u : Store) (c : ℕ) → length s ≡ v → Ends w (loop_from v (start_of p 0 0) body) (with_counter s c) u → (t : Store) × (u ≡ with_counter t 0) × Ends w p s t × (length t ≡ v)
  form_came s u c len (k, goes) = by_parts (subst (λ x. Goes w (loop_then (is_going v) body empty) x k u) (begins s c len) goes)
    where
      by_parts : Goes w (loop_then (is_going v) body empty) (with_counter s (start_of p 0 0)) k u → (t : Store) × (u ≡ with_counter t 0) × Ends w p s t × (length t ≡ v)
      by_parts (i, j, r, (n, turns), (none, stays), e) =
          let halts = turns_halt w v (statements p) fits points (length_points p 0 0) within body choice n (start_of p 0 0) s i r len begun turns in
          (halts.0, stays ∙ halts.1, (machine_ends w p s halts.0).1 (n, halts.2), halts.3)

pub one_form : (w : Width) (p q : ProgTree) (v : ℕ) → is_concrete p ≡ true → HasVarsBelow v p → statements p < modulus w → IsPointLoop v p q → IsOneForm w p q v
one_form w p q v concrete variables fits (body, choice, is) =
    let start = start_of p 0 0 in
    let within = points_within v (statements p) p 0 0 concrete variables (omega arith) (omega arith) in
    let turn = choice_is_turn v 1 (map (block_of v) (points_of p 0 0)) body choice (blocks_are_turns v (statements p) (points_of p 0 0) within) in
    subst (λ x. IsOneForm w p x v) (sym is) (record {
      single = one_loop_only v start body turn;
      concrete = form_is_concrete v start body turn;
      variables = form_variables v start body turn;
      ends = λ s t c from to number. (
        (λ ends. form_goes w p v concrete variables fits body choice s t c from.0 ends),
        (λ ends.
            let came = form_came w p v concrete variables fits body choice s (with_counter t 0) c from.0 ends in
            let same : t ≡ came.0 = (same_from_push t came.0 0 0 came.1).0 in
            subst (λ u. Ends w p s u) (sym same) came.2),
      );
      counter = λ s u c from number ends.
          let came = form_came w p v concrete variables fits body choice s u c from.0 ends in
          ap (λ x. slice_get x v) came.1 ∙ get_last came.0 v 0 came.3;
    })
