-- If a proof is accepted, no assignment satisfies the clauses: each added clause is true under every assignment that
-- satisfies the clauses at hand.
use Rattle.std.proofs.Common.{◌≡◌, ℕ, zero, suc, ◌==◌, ◌⊎◌, inl, inr, ⊎_elim, List, [], ◌∷◌, ◌++◌, refl, sym, subst, ◌∙◌, Bool, true, false, not, cond, if◌then◌else◌, Option, None, Some, slice_get}
use Rattle.std.specs.List.{list_any}
use Rattle.kat_model.specs.Members.{Has}
use Rattle.kat_model.proofs.Lists.{has_pushed}
use Rattle.lrat_checker.specs.Literals.{Assignment, opposite, Holds, SatisfiesClause, Satisfies}
use Rattle.lrat_checker.specs.Propagation.{Entry, absent, deleted, present, IsUnit, LeadsToConflict}
use Rattle.lrat_checker.specs.Accepted.{Clauses, entry_of, numbered, given, erased, after_line, AreRight, last_clause}
use Rattle.lrat_checker.specs.Laws.{AcceptedAreUnsatisfiable}
use Rattle.lrat_checker.specs.declared.literal.Literal.{Literal}
use Rattle.lrat_checker.specs.declared.proof.Line.{Line}
use Rattle.lrat_checker.specs.declared.proof.Line.TheVariants.{Addition, Deletion}

no_opposite : (b : Bool) → b ≡ not b → ⊥
no_opposite true e = cc
no_opposite false e = cc

member_of : (clauses : List (List Literal)) (n : ℕ) (clause : List Literal) → slice_get clauses n ≡ Some clause → Has clauses clause
member_of [] n clause e = cc
member_of (c ∷ cs) zero clause e = inl cc
member_of (c ∷ cs) (suc n) clause e = inr (member_of cs n clause e)

present_some : (o : Option (List Literal)) (clause : List Literal) → entry_of o ≡ present clause → o ≡ Some clause
present_some None clause e = cc
present_some (Some c) clause e = cc

never_erased : (entry : Entry) (clause : List Literal) → erased entry ≡ present clause → ⊥
never_erased absent clause e = cc
never_erased deleted clause e = cc
never_erased (present c) clause e = cc

same_or_not : (x y : Bool) → (x ≡ y) ⊎ (x ≡ y → ⊥)
same_or_not true true = inl refl
same_or_not false false = inl refl
same_or_not true false = inr (λ e. cc)
same_or_not false true = inr (λ e. cc)

module _ (a : Assignment) where
  -- each clause at hand is true
  abbrev SatisfiesKnown : (ℕ → Entry) → Type 0
  SatisfiesKnown known = (n : ℕ) (clause : List Literal) → known n ≡ present clause → SatisfiesClause a clause

  -- none of the literals is true
  abbrev AreFalse : List Literal → Type 0
  AreFalse ls = (l : Literal) → Has ls l → Holds a l → ⊥

  with_first : (l : Literal) (ls : List Literal) → Holds a l ⊎ (Holds a l → ⊥) → SatisfiesClause a ls ⊎ AreFalse ls → SatisfiesClause a (l ∷ ls) ⊎ AreFalse (l ∷ ls)
  with_first l ls first rest =
      ⊎_elim
      (λ t. inl (l, inl refl, t))
      (λ miss. ⊎_elim (λ s. inl (s.0, inr s.1, s.2)) (λ none. inr (λ m h t. ⊎_elim (λ e. miss (subst (λ k. Holds a k) (sym e) t)) (λ k. none m k t) h)) rest)
      first

  -- either some literal is true, or none is
  some_or_none : (ls : List Literal) → SatisfiesClause a ls ⊎ AreFalse ls
  some_or_none [] = inr (λ l h t. h)
  some_or_none (l ∷ ls) = with_first l ls (same_or_not (a l.variable) l.positive) (some_or_none ls)

  -- the opposite of the one literal that may be true is false
  unit_holds : (falses clause : List Literal) (l : Literal) → AreFalse falses → SatisfiesClause a clause → IsUnit falses clause l → Holds a l
  unit_holds falses clause l none s unit =
      ⊎_elim (λ e. subst (λ k. Holds a k) e s.2) (λ h. absurd (none s.0 h s.2)) (unit.others s.0 s.1)

  more_false : (falses : List Literal) (l : Literal) → AreFalse falses → Holds a l → AreFalse (falses ++ opposite l ∷ [])
  more_false falses l none holds m h t =
      ⊎_elim (λ k. none m k t) (λ e. no_opposite l.positive (sym holds ∙ subst (λ k. Holds a k) (sym e) t)) (has_pushed falses (opposite l) m h)

  -- if the clauses at hand are true, unit propagation from false literals leads to no conflict
  no_conflict : (known : ℕ → Entry) → SatisfiesKnown known → (hints : List ℕ) (falses : List Literal) → AreFalse falses → LeadsToConflict known falses hints → ⊥
  no_conflict known sat [] falses none h = h
  no_conflict known sat (hint ∷ hints) falses none h =
      let s = sat hint h.0 h.1 in
      ⊎_elim
      (λ falsified. none s.0 (falsified s.0 s.1) s.2)
      (λ u. no_conflict known sat hints (falses ++ opposite u.0 ∷ []) (more_false falses u.0 none (unit_holds falses h.0 u.0 none s u.1)) u.2)
      h.2

  follows : (known : ℕ → Entry) → SatisfiesKnown known → (clause : List Literal) (hints : List ℕ) → LeadsToConflict known clause hints → SatisfiesClause a clause
  follows known sat clause hints h =
      ⊎_elim (λ s. s) (λ none. absurd (no_conflict known sat hints clause none h)) (some_or_none clause)

  added_holds : (known : ℕ → Entry) (id : ℕ) (clause : List Literal) → SatisfiesKnown known → SatisfiesClause a clause → SatisfiesKnown (λ n. if id == n then present clause else known n)
  added_holds known id clause sat s n other e = by_test (id == n) e
    where
      by_test : (b : Bool) → cond b (present clause) (known n) ≡ present other → SatisfiesClause a other
      by_test true f = let same : clause ≡ other = cc in subst (λ c. SatisfiesClause a c) same s
      by_test false f = sat n other f

  deleted_hold : (known : ℕ → Entry) (ids : List ℕ) → SatisfiesKnown known → SatisfiesKnown (λ n. if list_any (λ id. id == n) ids then erased (known n) else known n)
  deleted_hold known ids sat n other e = by_test (list_any (λ id. id == n) ids) e
    where
      by_test : (b : Bool) → cond b (erased (known n)) (known n) ≡ present other → SatisfiesClause a other
      by_test true f = absurd (never_erased (known n) other f)
      by_test false f = sat n other f

  -- if all lines are right, the last clause is true
  last_holds : (lines : List Line) (c : Clauses) (last : Option (List Literal)) → SatisfiesKnown c.known → ((clause : List Literal) → last ≡ Some clause → SatisfiesClause a clause) → AreRight c lines → (clause : List Literal) → last_clause last lines ≡ Some clause → SatisfiesClause a clause
  last_holds [] c last sat now right clause e = now clause e
  last_holds (Addition id new hints resolvents ∷ lines) c last sat now right clause e =
      let s = follows c.known sat new hints right.0.1 in
      last_holds lines (after_line c (Addition id new hints resolvents)) (Some new) (added_holds c.known id new sat s) (λ other f. let same : new ≡ other = cc in subst (λ k. SatisfiesClause a k) same s) right.1 clause e
  last_holds (Deletion ids ∷ lines) c last sat now right clause e =
      last_holds lines (after_line c (Deletion ids)) last (deleted_hold c.known ids sat) now right.1 clause e

  given_hold : (clauses : List (List Literal)) → Satisfies a clauses → SatisfiesKnown (numbered clauses)
  given_hold clauses sat zero clause e = cc
  given_hold clauses sat (suc n) clause e = sat clause (member_of clauses n clause (present_some (slice_get clauses n) clause e))

pub accepted_unsatisfiable : AcceptedAreUnsatisfiable
accepted_unsatisfiable clauses lines accepted a sat =
    let s = last_holds a lines (given clauses) None (given_hold a clauses sat) (λ clause e. cc) accepted.right [] accepted.empty in
    s.1
