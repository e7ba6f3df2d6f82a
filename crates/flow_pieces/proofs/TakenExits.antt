-- Where both sides of a piece return the same, they stop alike, with related states.
use Rattle.std.proofs.Common.{◌≡◌, ◌⊎◌, inl, inr, ⊎_elim, ℕ, suc, ◌+◌, ◌%◌, ◌<◌, ◌≤◌, Bool, true, false, nat_eq, List, [], ◌∷◌, ◌++◌, length, map, slice_index_or, if◌then◌else◌, refl, sym, ◌∙◌, ap, subst, arith}
use Rattle.std.specs.List.{list_any}
use Rattle.std.proofs.lemmas.Bool.{and_parts, eqb-true, eq-eqb}
use Rattle.std.proofs.lemmas.List.{append_assoc}
use Rattle.std.proofs.Math.Nat.{mod-eq_of_lt}
use Rattle.kat_model.specs.Members.{Has}
use Rattle.kat_model.specs.Stores.{modulus}
use Rattle.kat_model.specs.declared.expression.Width.TheVariants.{W32}
use Rattle.kat_model.proofs.Filters.{filter_has}
use Rattle.kat_model.proofs.Lists.{any_has}
use Rattle.flow_model.specs.Sorts.{State, IsState}
use Rattle.flow_model.specs.Expressions.{ExprTree, variable}
use Rattle.flow_model.specs.Conditions.{CondTree}
use Rattle.flow_model.specs.Graphs.{Pair}
use Rattle.flow_model.specs.Interpretations.{Interpretation, value, holds}
use Rattle.flow_ways.specs.Stops.{Stop, came_to, returned, stuck, unfinished}
use Rattle.flow_places.proofs.Walked.{among_has}
use Rattle.flow_model.specs.Matches.{Equation, Match}
use Rattle.flow_pieces.specs.Matches.{is_shared, Relates}
use Rattle.flow_pieces.specs.Pieces.{AreRelatedAt}
use Rattle.flow_pieces.specs.PieceGraphs.{Leave, Exit, equations_hold, shared_variables, live_equations, results_before, results_after, lost_before_mark, lost_after_mark, leaves_from, has_block, leave_before, leave_after, side_before, side_after}
use Rattle.flow_pieces.specs.PieceQuestions.{matched_at, IsExit}
use Rattle.flow_pieces.proofs.Followed.{AreStops}
use Rattle.flow_pieces.proofs.SideRuns.{taken, Gives}
use Rattle.flow_pieces.proofs.SortedStates.{IsStateAt}

-- ---- the exit that is taken

-- the exit has the number, in a list whose first exit has number i
abbrev IsNumbered : ℕ → List Exit → ℕ → Exit → Type 0
IsNumbered i [] n e = ⊥
IsNumbered i (x ∷ xs) n e = ((i ≡ n) × (x ≡ e)) ⊎ IsNumbered (suc i) xs n e

number_within : (i : ℕ) (xs : List Exit) (n : ℕ) (e : Exit) → IsNumbered i xs n e → (i ≤ n) × (n < i + length xs)
number_within i [] n e h = absurd h
number_within i (x ∷ xs) n e (inl (at, same)) = (omega (arith, at), omega (arith, at))
number_within i (x ∷ xs) n e (inr h) = let later = number_within (suc i) xs n e h in (omega (arith, later.0), omega (arith, later.1))

numbered_has : (i : ℕ) (xs : List Exit) (n : ℕ) (e : Exit) → IsNumbered i xs n e → Has xs e
numbered_has i [] n e h = absurd h
numbered_has i (x ∷ xs) n e (inl (at, same)) = inl same
numbered_has i (x ∷ xs) n e (inr h) = inr (numbered_has (suc i) xs n e h)

one_exit : (i : ℕ) (xs : List Exit) (n : ℕ) (e f : Exit) → IsNumbered i xs n e → IsNumbered i xs n f → e ≡ f
one_exit i [] n e f h k = absurd h
one_exit i (x ∷ xs) n e f (inl (at, same)) (inl (there, other)) = sym same ∙ other
one_exit i (x ∷ xs) n e f (inl (at, same)) (inr k) = absurd (let later = number_within (suc i) xs n f k in omega (arith, at, later.0))
one_exit i (x ∷ xs) n e f (inr h) (inl (there, other)) = absurd (let later = number_within (suc i) xs n e h in omega (arith, there, later.0))
one_exit i (x ∷ xs) n e f (inr h) (inr k) = one_exit (suc i) xs n e f h k

-- the results are those of an exit that has the block and whose condition holds
record IsTaken (I : Interpretation) (s : State) (leave : ℕ → Exit → Leave) (has : Exit → Bool) (i : ℕ) (xs : List Exit) (results : List ExprTree) : Type 0 where
  pub number : ℕ
  pub exit : Exit
  pub numbered : IsNumbered i xs number exit
  pub there : has exit ≡ true
  pub passes : holds I s (leave number exit).condition ≡ true
  pub same : results ≡ (leave number exit).results

module _ (I : Interpretation) (s : State) (leave : ℕ → Exit → Leave) (has : Exit → Bool) (otherwise : List ExprTree) where
  abbrev Took : ℕ → List Exit → List ExprTree → Type 0
  Took i xs results = (results ≡ otherwise) ⊎ IsTaken I s leave has i xs results

  took_later : (i : ℕ) (x : Exit) (xs : List Exit) (results : List ExprTree) → Took (suc i) xs results → Took i (x ∷ xs) results
  took_later i x xs results (inl e) = inl e
  took_later i x xs results (inr h) = inr (record { number = h.number; exit = h.exit; numbered = inr h.numbered; there = h.there; passes = h.passes; same = h.same })

  took : (i : ℕ) (xs : List Exit) → Took i xs (taken I s (leaves_from leave has i xs) otherwise)
  took i [] = inl refl
  took i (x ∷ xs) = by_block (has x) refl (took (suc i) xs)
    where
      by_truth : has x ≡ true → (c : Bool) → holds I s (leave i x).condition ≡ c → Took (suc i) xs (taken I s (leaves_from leave has (suc i) xs) otherwise) →
          Took i (x ∷ xs) (if c then (leave i x).results else taken I s (leaves_from leave has (suc i) xs) otherwise)
      by_truth t true e later = inr (record { number = i; exit = x; numbered = inl (refl, refl); there = t; passes = e; same = refl })
      by_truth t false e later = took_later i x xs (taken I s (leaves_from leave has (suc i) xs) otherwise) later

      by_block : (b : Bool) → has x ≡ b → Took (suc i) xs (taken I s (leaves_from leave has (suc i) xs) otherwise) →
          Took i (x ∷ xs) (taken I s (if b then leave i x ∷ leaves_from leave has (suc i) xs else leaves_from leave has (suc i) xs) otherwise)
      by_block true t later = by_truth t (holds I s (leave i x).condition) refl later
      by_block false t later = took_later i x xs (taken I s (leaves_from leave has (suc i) xs) otherwise) later

-- ---- equal results

-- equal lists that begin with the values of two expressions of each element
prefixes_same : {X : Type 0} (I : Interpretation) (s t : State) (f g : X → ExprTree) (xs : List X) (es fs : List ExprTree) → map (value I s) (map f xs ++ es) ≡ map (value I t) (map g xs ++ fs) →
    ((x : X) → Has xs x → value I s (f x) ≡ value I t (g x)) × (map (value I s) es ≡ map (value I t) fs)
prefixes_same I s t f g [] es fs e = ((λ x h. absurd h), e)
prefixes_same I s t f g (x ∷ xs) es fs e =
    let here : value I s (f x) ≡ value I t (g x) = cc in
    let rest : map (value I s) (map f xs ++ es) ≡ map (value I t) (map g xs ++ fs) = cc in
    let later = prefixes_same I s t f g xs es fs rest in (
      (λ y h. ⊎_elim (λ q. subst (λ z. value I s (f z) ≡ value I t (g z)) q here) (λ m. later.0 y m) h),
      later.1,
    )

maps_same : {X : Type 0} (I : Interpretation) (s t : State) (f g : X → ExprTree) (xs : List X) → map (value I s) (map f xs) ≡ map (value I t) (map g xs) → (x : X) → Has xs x → value I s (f x) ≡ value I t (g x)
maps_same I s t f g [] e x h = absurd h
maps_same I s t f g (y ∷ xs) e x h =
    let here : value I s (f y) ≡ value I t (g y) = cc in
    let rest : map (value I s) (map f xs) ≡ map (value I t) (map g xs) = cc in
    ⊎_elim (λ q. subst (λ z. value I s (f z) ≡ value I t (g z)) q here) (λ m. maps_same I s t f g xs rest x m) h

-- the equations hold, and the condition
all_hold : (I : Interpretation) (s : State) (qs : List Equation) (b : CondTree) → holds I s (equations_hold qs b) ≡ true →
    ((q : Equation) → Has qs q → slice_index_or s q.variable 0 ≡ value I s q.expression) × (holds I s b ≡ true)
all_hold I s [] b e = ((λ q h. absurd h), e)
all_hold I s (q ∷ qs) b e =
    let both = and_parts (nat_eq (slice_index_or s q.variable 0) (value I s q.expression)) (holds I s (equations_hold qs b)) e in
    let later = all_hold I s qs b both.1 in (
      (λ r h. ⊎_elim (λ same. subst (λ z. slice_index_or s z.variable 0 ≡ value I s z.expression) same (eqb-true (slice_index_or s q.variable 0) (value I s q.expression) both.0)) (λ m. later.0 r m) h),
      later.1,
    )

-- states with equal results at an exit are related by the match of both blocks
exit_relates : (I : Interpretation) (p : Pair) (ms : List Match) (e : Exit) → IsExit p ms e → (k l : ℕ) → Has e.columns l → (s t : State) → IsState p.sorts s → IsState p.sorts t →
    holds I s (equations_hold e.match.keeping e.match.condition) ≡ true → map (value I s) (results_before e) ≡ map (value I t) (results_after e) → Relates I p (matched_at k l e.match) s t
exit_relates I p ms e is k l column s t state other passes same = record {
  before_state = state;
  after_state = other;
  forth = λ q h live. sym (second.0 q (filter_has (λ r. list_any (λ x. nat_eq x r.variable) e.live) e.match.forth q h (any_has (λ x. nat_eq x q.variable) e.live q.variable (is.live l q.variable column live) (eq-eqb q.variable q.variable refl))));
  back = λ q h live. maps_same I s t (λ r. variable r.variable) (λ r. r.expression) e.match.back second.1 q h;
  shared = λ x h live. sym (first.0 x (filter_has (is_shared e.match) e.live x (is.live l x column live) h));
  keeping = kept.0;
  condition = kept.1;
}
  where
    kept : ((q : Equation) → Has e.match.keeping q → slice_index_or s q.variable 0 ≡ value I s q.expression) × (holds I s e.match.condition ≡ true)
    kept = all_hold I s e.match.keeping e.match.condition passes

    first : ((x : ℕ) → Has (shared_variables e) x → slice_index_or s x 0 ≡ slice_index_or t x 0) × (map (value I s) (map (λ q. q.expression) (live_equations e) ++ map (λ q. variable q.variable) e.match.back) ≡ map (value I t) (map (λ q. variable q.variable) (live_equations e) ++ map (λ q. q.expression) e.match.back))
    first =
        prefixes_same I s t variable variable (shared_variables e)
        (map (λ q. q.expression) (live_equations e) ++ map (λ q. variable q.variable) e.match.back) (map (λ q. variable q.variable) (live_equations e) ++ map (λ q. q.expression) e.match.back)
        (ap (map (value I s)) (sym (append_assoc (map variable (shared_variables e)) (map (λ q. q.expression) (live_equations e)) (map (λ q. variable q.variable) e.match.back)))
        ∙ (same ∙ ap (map (value I t)) (append_assoc (map variable (shared_variables e)) (map (λ q. variable q.variable) (live_equations e)) (map (λ q. q.expression) e.match.back))))

    second : ((q : Equation) → Has (live_equations e) q → value I s q.expression ≡ slice_index_or t q.variable 0) × (map (value I s) (map (λ q. variable q.variable) e.match.back) ≡ map (value I t) (map (λ q. q.expression) e.match.back))
    second =
        prefixes_same I s t (λ q. q.expression) (λ q. variable q.variable) (live_equations e) (map (λ q. variable q.variable) e.match.back) (map (λ q. q.expression) e.match.back) first.1

-- ---- equal returns

mark_number : (n : ℕ) → n < modulus W32 → n % modulus W32 ≡ n
mark_number n lt = mod-eq_of_lt lt

module _ (I : Interpretation) (p : Pair) (ms : List Match) (m : Match) (exits : List Exit) (are : (e : Exit) → Has exits e → IsExit p ms e) (marked : length exits + 3 < modulus W32) where
  abbrev LeftBefore : ℕ → State → List ExprTree → Type 0
  LeftBefore k s results = Took I s leave_before (λ e. has_block e.rows k) (lost_before_mark ∷ []) 0 exits results

  abbrev LeftAfter : ℕ → State → List ExprTree → Type 0
  LeftAfter k s results = Took I s leave_after (λ e. has_block e.columns k) (lost_after_mark ∷ []) 0 exits results

  -- the mark of an exit is no other mark
  exit_number : (n : ℕ) (e : Exit) → IsNumbered 0 exits n e → (3 + n) % modulus W32 ≡ 3 + n
  exit_number n e h = let within = number_within 0 exits n e h in mark_number (3 + n) (omega (arith, within.1, marked))

  heads_same : (a b : ℕ) (xs ys : List ℕ) → (a ∷ xs) ≡ (b ∷ ys) → a ≡ b
  heads_same a b xs ys e = cc

  tails_same : (a b : ℕ) (xs ys : List ℕ) → (a ∷ xs) ≡ (b ∷ ys) → xs ≡ ys
  tails_same a b xs ys e = cc

  left_alike : (k l : ℕ) (s t : State) (es fs : List ExprTree) → IsState p.sorts s → IsState p.sorts t → LeftBefore k s es → LeftAfter l t fs → map (value I s) es ≡ map (value I t) fs → AreRelatedAt I p ms k l s t
  left_alike k l s t es fs is other (inl a) (inl b) same =
      let lists : map (value I s) (lost_before_mark ∷ []) ≡ map (value I t) (lost_after_mark ∷ []) = ap (map (value I s)) (sym a) ∙ (same ∙ ap (map (value I t)) b) in
      let marks : 1 ≡ 2 = heads_same 1 2 [] [] lists in
      absurd (omega (arith, marks))
  left_alike k l s t es fs is other (inl a) (inr b) same =
      let lists : map (value I s) (lost_before_mark ∷ []) ≡ map (value I t) (leave_after b.number b.exit).results = ap (map (value I s)) (sym a) ∙ (same ∙ ap (map (value I t)) b.same) in
      let marks : 1 ≡ (3 + b.number) % modulus W32 = heads_same 1 ((3 + b.number) % modulus W32) [] (map (value I t) (results_after b.exit)) lists in
      let third : 1 ≡ 3 + b.number = marks ∙ exit_number b.number b.exit b.numbered in
      absurd (omega (arith, third))
  left_alike k l s t es fs is other (inr a) (inl b) same =
      let lists : map (value I s) (leave_before a.number a.exit).results ≡ map (value I t) (lost_after_mark ∷ []) = ap (map (value I s)) (sym a.same) ∙ (same ∙ ap (map (value I t)) b) in
      let marks : (3 + a.number) % modulus W32 ≡ 2 = heads_same ((3 + a.number) % modulus W32) 2 (map (value I s) (results_before a.exit)) [] lists in
      let third : 3 + a.number ≡ 2 = sym (exit_number a.number a.exit a.numbered) ∙ marks in
      absurd (omega (arith, third))
  left_alike k l s t es fs is other (inr a) (inr b) same =
      let lists : map (value I s) (leave_before a.number a.exit).results ≡ map (value I t) (leave_after b.number b.exit).results = ap (map (value I s)) (sym a.same) ∙ (same ∙ ap (map (value I t)) b.same) in
      let marks : (3 + a.number) % modulus W32 ≡ (3 + b.number) % modulus W32 = heads_same ((3 + a.number) % modulus W32) ((3 + b.number) % modulus W32) (map (value I s) (results_before a.exit)) (map (value I t) (results_after b.exit)) lists in
      let thirds : 3 + a.number ≡ 3 + b.number = sym (exit_number a.number a.exit a.numbered) ∙ (marks ∙ exit_number b.number b.exit b.numbered) in
      let one : a.number ≡ b.number = omega (arith, thirds) in
      let exit : b.exit ≡ a.exit = one_exit 0 exits b.number b.exit a.exit b.numbered (subst (λ n. IsNumbered 0 exits n a.exit) one a.numbered) in
      let column : Has a.exit.columns l = subst (λ e. Has e.columns l) exit (among_has b.exit.columns l b.there) in
      let results : map (value I s) (results_before a.exit) ≡ map (value I t) (results_after a.exit) =
      subst (λ e. map (value I s) (results_before a.exit) ≡ map (value I t) (results_after e)) exit
      (tails_same ((3 + a.number) % modulus W32) ((3 + b.number) % modulus W32) (map (value I s) (results_before a.exit)) (map (value I t) (results_after b.exit)) lists) in
      let its = are a.exit (numbered_has 0 exits a.number a.exit a.numbered) in
      (matched_at k l a.exit.match, its.matched k l (among_has a.exit.rows k a.there) column, refl, refl, exit_relates I p ms a.exit its k l column s t is other a.passes results)

  -- a mark is that of a return if and only if the run returned
  no_return_before : (k : ℕ) (s : State) (es : List ExprTree) (ws : List ℕ) → LeftBefore k s es → map (value I s) es ≡ (0 % modulus W32) ∷ ws → ⊥
  no_return_before k s es ws (inl a) same =
      let marks : 1 ≡ 0 = heads_same 1 0 [] ws (ap (map (value I s)) (sym a) ∙ same) in absurd (omega (arith, marks))
  no_return_before k s es ws (inr a) same =
      let marks : (3 + a.number) % modulus W32 ≡ 0 = heads_same ((3 + a.number) % modulus W32) 0 (map (value I s) (results_before a.exit)) ws (ap (map (value I s)) (sym a.same) ∙ same) in
      let third : 3 + a.number ≡ 0 = sym (exit_number a.number a.exit a.numbered) ∙ marks in
      absurd (omega (arith, third))

  no_return_after : (k : ℕ) (s : State) (es : List ExprTree) (ws : List ℕ) → LeftAfter k s es → map (value I s) es ≡ (0 % modulus W32) ∷ ws → ⊥
  no_return_after k s es ws (inl a) same =
      let marks : 2 ≡ 0 = heads_same 2 0 [] ws (ap (map (value I s)) (sym a) ∙ same) in absurd (omega (arith, marks))
  no_return_after k s es ws (inr a) same =
      let marks : (3 + a.number) % modulus W32 ≡ 0 = heads_same ((3 + a.number) % modulus W32) 0 (map (value I s) (results_after a.exit)) ws (ap (map (value I s)) (sym a.same) ∙ same) in
      let third : 3 + a.number ≡ 0 = sym (exit_number a.number a.exit a.numbered) ∙ marks in
      absurd (omega (arith, third))

  -- stops that give one list are alike
  pub given_alike : (vs : List ℕ) (a b : Stop) → IsStateAt p.sorts a → IsStateAt p.sorts b → Gives I (side_before p ms m exits) a vs → Gives I (side_after p ms m exits) b vs → AreStops (AreRelatedAt I p ms) a b
  given_alike vs (came_to k s) (came_to l t) i j h g =
      left_alike k l s t (taken I s ((side_before p ms m exits).leaves k) (lost_before_mark ∷ [])) (taken I t ((side_after p ms m exits).leaves l) (lost_after_mark ∷ [])) i j
      (took I s leave_before (λ e. has_block e.rows k) (lost_before_mark ∷ []) 0 exits) (took I t leave_after (λ e. has_block e.columns l) (lost_after_mark ∷ []) 0 exits) (h ∙ sym g)
  given_alike vs (came_to k s) (returned ws) i j h g =
      absurd (no_return_before k s (taken I s ((side_before p ms m exits).leaves k) (lost_before_mark ∷ [])) ws (took I s leave_before (λ e. has_block e.rows k) (lost_before_mark ∷ []) 0 exits) (h ∙ sym g))
  given_alike vs (came_to k s) stuck i j h g = absurd g
  given_alike vs (came_to k s) unfinished i j h g = absurd g
  given_alike vs (returned us) (came_to l t) i j h g =
      absurd (no_return_after l t (taken I t ((side_after p ms m exits).leaves l) (lost_after_mark ∷ [])) us (took I t leave_after (λ e. has_block e.columns l) (lost_after_mark ∷ []) 0 exits) (g ∙ sym h))
  given_alike vs (returned us) (returned ws) i j h g = tails_same (0 % modulus W32) (0 % modulus W32) us ws (h ∙ sym g)
  given_alike vs (returned us) stuck i j h g = absurd g
  given_alike vs (returned us) unfinished i j h g = absurd g
  given_alike vs stuck b i j h g = absurd h
  given_alike vs unfinished b i j h g = absurd h
