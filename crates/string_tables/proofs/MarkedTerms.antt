-- Terms with marks: the terms that remain after the marked actions, whether one of them accepts an atom, and how a move
-- changes them.
use Rattle.std.proofs.Common.{◌≡◌, ℕ, List, [], ◌∷◌, ◌++◌, map, Bool, true, false, cond, ◌&&◌, ◌||◌, eqb, refl, sym, ap, ◌∙◌}
use mathlib.Core.Path.{ap₂}
use Rattle.std.specs.List.{list_any}
use Rattle.std.proofs.Math.Bool.{or-false}
use Rattle.std.proofs.lemmas.Bool.{and_right, both_ways}
use Rattle.std.proofs.lemmas.List.Folds.{list_any-append}
use Rattle.kat_model.specs.Trees.{Term, zero, one, test, act, sum, product, star}
use Rattle.kat_model.specs.Steps.{Atom, dot, out, next, set_out}
use Rattle.kat_model.proofs.Acceptance.{accepts-dot}
use Rattle.kat_model.proofs.Reach.{next-dot}
use Rattle.string_tables.specs.Working.Marks.{MarkTree, nowhere, here, both, is_nowhere, is_here, left, right, joined, reached, moved}
use Rattle.string_tables.proofs.Images.{and_over_or, or_exchange}

-- laws of `and` and `or`

and_true : (a : Bool) → (a && true) ≡ a
and_true true = refl
and_true false = refl

and_assoc : (a b c : Bool) → ((a && b) && c) ≡ (a && (b && c))
and_assoc true b c = refl
and_assoc false b c = refl

or_and_over : (a b c : Bool) → ((a || b) && c) ≡ ((a && c) || (b && c))
or_and_over true b true = refl
or_and_over true true false = refl
or_and_over true false false = refl
or_and_over false b c = refl

or_rotate : (a b c : Bool) → (a || (b || c)) ≡ ((b || a) || c)
or_rotate true true c = refl
or_rotate true false c = refl
or_rotate false true c = refl
or_rotate false false c = refl

or_last : (a b c : Bool) → (a || (b || c)) ≡ ((a || c) || b)
or_last true b c = refl
or_last false true true = refl
or_last false true false = refl
or_last false false true = refl
or_last false false false = refl

or_regroup : (a b c d e : Bool) → ((a || b) || (c || (d || e))) ≡ (((a || d) || c) || (b || e))
or_regroup true b c d e = refl
or_regroup false true c true e = refl
or_regroup false true true false e = refl
or_regroup false true false false e = refl
or_regroup false false true true e = refl
or_regroup false false true false e = refl
or_regroup false false false true e = refl
or_regroup false false false false e = refl

-- a start of the first part of a product, which may be passed to the second part
through_both : (o p s f : Bool) → ((o || (s && p)) && f) ≡ ((o && f) || (s && (p && f)))
through_both o p s f = or_and_over o (s && p) f ∙ ap (λ b. (o && f) || b) (and_assoc s p f)

either_part : (a e b f s : Bool) → ((a || (s && e)) || (b || (s && f))) ≡ ((a || b) || (s && (e || f)))
either_part a e b f s = or_exchange a (s && e) b (s && f) ∙ ap (λ c. (a || b) || c) (sym (and_over_or s e f))

second_part : (o p b f s : Bool) → (b || ((o || (s && p)) && f)) ≡ (((o && f) || b) || (s && (p && f)))
second_part o p b f s = ap (λ c. b || c) (through_both o p s f) ∙ or_rotate b (o && f) (s && (p && f))

both_parts : (a e o p b f s : Bool) → ((a || (s && e)) || (b || ((o || (s && p)) && f))) ≡ (((a || (o && f)) || b) || (s && (e || (p && f))))
both_parts a e o p b f s =
    ap (λ c. (a || (s && e)) || (b || c)) (through_both o p s f)
    ∙ or_regroup a (s && e) b (o && f) (s && (p && f))
    ∙ ap (λ c. ((a || (o && f)) || b) || c) (sym (and_over_or s e (p && f)))

repeated : (a e o s : Bool) → (a || ((s || (o || false)) && e)) ≡ ((a || (o && e)) || (s && e))
repeated a e o s = ap (λ c. a || ((s || c) && e)) (or-false o) ∙ ap (λ c. a || c) (or_and_over s o e) ∙ or_last a (s && e) (o && e)

repeated_end : (o s : Bool) → (s || (o || false)) ≡ ((o && true) || (s && true))
repeated_end true true = refl
repeated_end true false = refl
repeated_end false true = refl
repeated_end false false = refl

-- `list_any` of mapped lists, of a disjunction, of a conjunction with a constant, and of a list that may be empty

module _ {X Y : Type 0} (p : Y → Bool) (f : X → Y) where
  any_map : (xs : List X) → list_any p (map f xs) ≡ list_any (λ x. p (f x)) xs
  any_map [] = refl
  any_map (x ∷ xs) = ap (λ b. p (f x) || b) (any_map xs)

module _ {X : Type 0} where
  any_same : (p q : X → Bool) (xs : List X) → ((x : X) → p x ≡ q x) → list_any p xs ≡ list_any q xs
  any_same p q [] same = refl
  any_same p q (x ∷ xs) same = ap₂ ◌||◌ (same x) (any_same p q xs same)

  any_or : (p q : X → Bool) (xs : List X) → list_any (λ x. p x || q x) xs ≡ (list_any p xs || list_any q xs)
  any_or p q [] = refl
  any_or p q (x ∷ xs) = ap (λ b. (p x || q x) || b) (any_or p q xs) ∙ or_exchange (p x) (q x) (list_any p xs) (list_any q xs)

  any_and : (p : X → Bool) (c : Bool) (xs : List X) → list_any (λ x. p x && c) xs ≡ (list_any p xs && c)
  any_and p c [] = refl
  any_and p c (x ∷ xs) = ap (λ b. (p x && c) || b) (any_and p c xs) ∙ sym (or_and_over (p x) (list_any p xs) c)

  any_cond : (p : X → Bool) (c : Bool) (xs : List X) → list_any p (cond c xs []) ≡ (c && list_any p xs)
  any_cond p true xs = refl
  any_cond p false xs = refl

-- the marks of the parts after a step

left_joined : (l r : MarkTree) → left (joined l r) ≡ l
left_joined nowhere nowhere = refl
left_joined nowhere here = refl
left_joined nowhere (both a b) = refl
left_joined here r = refl
left_joined (both a b) r = refl

right_joined : (l r : MarkTree) → right (joined l r) ≡ r
right_joined nowhere nowhere = refl
right_joined nowhere here = refl
right_joined nowhere (both a b) = refl
right_joined here r = refl
right_joined (both a b) r = refl

here_given : (b : Bool) → is_here (cond b here nowhere) ≡ b
here_given true = refl
here_given false = refl

-- the terms that remain after the marked actions
abbrev pub marked : Term → MarkTree → List Term
marked zero marks = []
marked one marks = []
marked (test b) marks = []
marked (act a) marks = cond (is_here marks) (one ∷ []) []
marked (sum e f) marks = marked e (left marks) ++ marked f (right marks)
marked (product e f) marks = map (λ x. dot x f) (marked e (left marks)) ++ marked f (right marks)
marked (star e) marks = map (λ x. dot x (star e)) (marked e marks)

-- the end of the term is reached if a remaining term accepts the atom or, at its beginning, the term does

module _ (atom : Atom) where
  out_after : (f : Term) (es : List Term) → set_out (map (λ x. dot x f) es) atom ≡ (set_out es atom && out f atom)
  out_after f es =
      any_map (λ x. out x atom) (λ x. dot x f) es
      ∙ any_same _ (λ x. out x atom && out f atom) es (λ x. accepts-dot x f atom [])
      ∙ any_and (λ x. out x atom) (out f atom) es

  pub reached_given : (e : Term) (marks : MarkTree) (begins : Bool) → reached e marks begins atom ≡ (set_out (marked e marks) atom || (begins && out e atom))
  reached_given zero marks begins = sym (and_right begins false refl)
  reached_given one marks begins = sym (and_true begins)
  reached_given (test b) marks begins = refl
  reached_given (act a) marks begins =
      let m = is_here marks in
      sym (ap₂ ◌||◌ (any_cond (λ x. out x atom) m (one ∷ []) ∙ and_true m) (and_right begins false refl) ∙ or-false m)
  reached_given (sum e f) marks begins =
      ap₂ ◌||◌ (reached_given e (left marks) begins) (reached_given f (right marks) begins)
      ∙ either_part (set_out (marked e (left marks)) atom) (out e atom) (set_out (marked f (right marks)) atom) (out f atom) begins
      ∙ ap (λ b. b || (begins && (out e atom || out f atom))) (sym (list_any-append (λ x. out x atom) (marked e (left marks)) (marked f (right marks))))
  reached_given (product e f) marks begins =
      let first = set_out (marked e (left marks)) atom in
      let second = set_out (marked f (right marks)) atom in
      reached_given f (right marks) (reached e (left marks) begins atom)
      ∙ ap (λ b. second || (b && out f atom)) (reached_given e (left marks) begins)
      ∙ second_part first (out e atom) second (out f atom) begins
      ∙ ap (λ b. (b || second) || (begins && (out e atom && out f atom))) (sym (out_after f (marked e (left marks))))
      ∙ ap (λ b. b || (begins && (out e atom && out f atom))) (sym (list_any-append (λ x. out x atom) (map (λ x. dot x f) (marked e (left marks))) (marked f (right marks))))
  reached_given (star e) marks begins =
      ap (λ b. begins || b) (reached_given e marks false)
      ∙ repeated_end (set_out (marked e marks) atom) begins
      ∙ ap (λ b. b || (begins && true)) (sym (out_after (star e) (marked e marks)))

-- a move leads to the next terms of the remaining terms and, at its beginning, of the term

module _ (atom : Atom) (a : ℕ) where
  -- some next term of a set passes the test
  abbrev pub some_next : (Term → Bool) → List Term → Bool
  some_next p es = list_any (λ x. list_any p (next x atom a)) es

  next_after : (p : Term → Bool) (f x : Term) → list_any p (next (dot x f) atom a) ≡ (list_any (λ y. p (dot y f)) (next x atom a) || (out x atom && list_any p (next f atom a)))
  next_after p f x =
      ap (list_any p) (next-dot x f atom a)
      ∙ list_any-append p (map (λ y. dot y f) (next x atom a)) (cond (out x atom) (next f atom a) [])
      ∙ ap₂ ◌||◌ (any_map p (λ y. dot y f) (next x atom a)) (any_cond p (out x atom) (next f atom a))

  some_after : (p : Term → Bool) (f : Term) (es : List Term) → some_next p (map (λ x. dot x f) es) ≡ (some_next (λ y. p (dot y f)) es || (set_out es atom && list_any p (next f atom a)))
  some_after p f es =
      any_map (λ x. list_any p (next x atom a)) (λ x. dot x f) es
      ∙ any_same _ (λ x. list_any (λ y. p (dot y f)) (next x atom a) || (out x atom && list_any p (next f atom a))) es (next_after p f)
      ∙ any_or (λ x. list_any (λ y. p (dot y f)) (next x atom a)) (λ x. out x atom && list_any p (next f atom a)) es
      ∙ ap (λ b. some_next (λ y. p (dot y f)) es || b) (any_and (λ x. out x atom) (list_any p (next f atom a)) es)

  pub moved_given : (e : Term) (p : Term → Bool) (marks : MarkTree) (begins : Bool) → list_any p (marked e (moved e marks begins atom a)) ≡ (some_next p (marked e marks) || (begins && list_any p (next e atom a)))
  moved_given zero p marks begins = sym (and_right begins false refl)
  moved_given one p marks begins = sym (and_right begins false refl)
  moved_given (test b) p marks begins = sym (and_right begins false refl)
  moved_given (act b) p marks begins =
      let m = is_here marks in
      let is = begins && eqb a b in
      let none : some_next p (cond m (one ∷ []) []) ≡ false = any_cond (λ x. list_any p (next x atom a)) m (one ∷ []) ∙ and_right m false refl in
      ap (λ c. list_any p (cond c (one ∷ []) [])) (here_given is)
      ∙ any_cond p is (one ∷ [])
      ∙ and_assoc begins (eqb a b) (list_any p (one ∷ []))
      ∙ ap (λ c. begins && c) (sym (any_cond p (eqb a b) (one ∷ [])))
      ∙ ap (λ c. c || (begins && list_any p (cond (eqb a b) (one ∷ []) []))) (sym none)
  moved_given (sum e f) p marks begins =
      let m = left marks in
      let n = right marks in
      let first = moved e m begins atom a in
      let second = moved f n begins atom a in
      list_any-append p (marked e (left (joined first second))) (marked f (right (joined first second)))
      ∙ ap₂ ◌||◌ (ap (λ t. list_any p (marked e t)) (left_joined first second) ∙ moved_given e p m begins) (ap (λ t. list_any p (marked f t)) (right_joined first second) ∙ moved_given f p n begins)
      ∙ either_part (some_next p (marked e m)) (list_any p (next e atom a)) (some_next p (marked f n)) (list_any p (next f atom a)) begins
      ∙ ap₂ (λ b c. b || (begins && c)) (sym (list_any-append (λ x. list_any p (next x atom a)) (marked e m) (marked f n))) (sym (list_any-append p (next e atom a) (next f atom a)))
  moved_given (product e f) p marks begins =
      let m = left marks in
      let n = right marks in
      let q : Term → Bool = λ y. p (dot y f) in
      let between = reached e m begins atom in
      let first = moved e m begins atom a in
      let second = moved f n between atom a in
      let later = list_any p (next f atom a) in
      list_any-append p (map (λ y. dot y f) (marked e (left (joined first second)))) (marked f (right (joined first second)))
      ∙ ap₂ ◌||◌ (any_map p (λ y. dot y f) _ ∙ ap (λ t. list_any q (marked e t)) (left_joined first second) ∙ moved_given e q m begins)
      (ap (λ t. list_any p (marked f t)) (right_joined first second) ∙ moved_given f p n between ∙ ap (λ b. some_next p (marked f n) || (b && later)) (reached_given atom e m begins))
      ∙ both_parts (some_next q (marked e m)) (list_any q (next e atom a)) (set_out (marked e m) atom) (out e atom) (some_next p (marked f n)) later begins
      ∙ ap₂ (λ b c. (b || some_next p (marked f n)) || (begins && c)) (sym (some_after p f (marked e m))) (sym (list_any-append p (map (λ y. dot y f) (next e atom a)) (cond (out e atom) (next f atom a) []) ∙ ap₂ ◌||◌ (any_map p (λ y. dot y f) (next e atom a)) (any_cond p (out e atom) (next f atom a))))
      ∙ ap (λ b. b || (begins && list_any p (next (product e f) atom a))) (sym (list_any-append (λ x. list_any p (next x atom a)) (map (λ y. dot y f) (marked e m)) (marked f n)))
  moved_given (star e) p marks begins =
      let q : Term → Bool = λ y. p (dot y (star e)) in
      let again = begins || reached e marks false atom in
      let onward = any_map p (λ y. dot y (star e)) (next e atom a) in
      any_map p (λ y. dot y (star e)) _
      ∙ moved_given e q marks again
      ∙ ap (λ b. some_next q (marked e marks) || ((begins || b) && list_any q (next e atom a))) (reached_given atom e marks false)
      ∙ repeated (some_next q (marked e marks)) (list_any q (next e atom a)) (set_out (marked e marks) atom) begins
      ∙ ap₂ (λ b c. (some_next q (marked e marks) || (set_out (marked e marks) atom && b)) || (begins && c)) (sym onward) (sym onward)
      ∙ ap (λ b. b || (begins && list_any p (next (star e) atom a))) (sym (some_after p (star e) (marked e marks)))

-- without a mark no term remains

pub none_marked : (e : Term) (p : Term → Bool) → list_any p (marked e nowhere) ≡ false
none_marked zero p = refl
none_marked one p = refl
none_marked (test b) p = refl
none_marked (act a) p = refl
none_marked (sum e f) p = list_any-append p (marked e nowhere) (marked f nowhere) ∙ ap₂ ◌||◌ (none_marked e p) (none_marked f p)
none_marked (product e f) p =
    list_any-append p (map (λ x. dot x f) (marked e nowhere)) (marked f nowhere)
    ∙ ap₂ ◌||◌ (any_map p (λ x. dot x f) (marked e nowhere) ∙ none_marked e (λ x. p (dot x f))) (none_marked f p)
none_marked (star e) p = any_map p (λ x. dot x (star e)) (marked e nowhere) ∙ none_marked e (λ x. p (dot x (star e)))

-- a term without a mark that does not begin is left as it is, and its end is not reached

module _ (atom : Atom) where
  nothing_reached : (e : Term) → reached e nowhere false atom ≡ false
  nothing_reached zero = refl
  nothing_reached one = refl
  nothing_reached (test b) = refl
  nothing_reached (act a) = refl
  nothing_reached (sum e f) = ap₂ ◌||◌ (nothing_reached e) (nothing_reached f)
  nothing_reached (product e f) = ap (λ b. reached f nowhere b atom) (nothing_reached e) ∙ nothing_reached f
  nothing_reached (star e) = nothing_reached e

  nothing_moved : (e : Term) (a : ℕ) → moved e nowhere false atom a ≡ nowhere
  nothing_moved zero a = refl
  nothing_moved one a = refl
  nothing_moved (test b) a = refl
  nothing_moved (act b) a = refl
  nothing_moved (sum e f) a = ap₂ joined (nothing_moved e a) (nothing_moved f a)
  nothing_moved (product e f) a = ap₂ joined (nothing_moved e a) (ap (λ b. moved f nowhere b atom a) (nothing_reached e) ∙ nothing_moved f a)
  nothing_moved (star e) a = ap (λ b. moved e nowhere b atom a) (nothing_reached e) ∙ nothing_moved e a

  pub rests : (e : Term) (marks : MarkTree) (begins : Bool) → begins ≡ false → is_nowhere marks ≡ true → false ≡ reached e marks begins atom
  rests e nowhere begins idle none = sym (ap (λ b. reached e nowhere b atom) idle ∙ nothing_reached e)
  rests e here begins idle none = absurd (both_ways false refl none)
  rests e (both l r) begins idle none = absurd (both_ways false refl none)

  pub stays : (e : Term) (marks : MarkTree) (begins : Bool) (a : ℕ) → begins ≡ false → is_nowhere marks ≡ true → marks ≡ moved e marks begins atom a
  stays e nowhere begins a idle none = sym (ap (λ b. moved e nowhere b atom a) idle ∙ nothing_moved e a)
  stays e here begins a idle none = absurd (both_ways false refl none)
  stays e (both l r) begins a idle none = absurd (both_ways false refl none)
