-- The meaning of programs as relations on any kind of states.
use Rattle.std.proofs.Common.{◌≡◌, ℕ, ◌⊎◌, inl, inr, ⊎_elim, ◌↔◌, List, [], ◌∷◌, ◌++◌, refl, sym, subst, Bool, true, false, not}
use Rattle.kat_model.specs.Expressions.{ExprTree, CondTree, always, negation}
use Rattle.kat_model.specs.Relations.{Along}
use Rattle.while_lang.specs.Programs.{ProgTree, empty, skip_then, abort_then, assert_then, act_then, assign_then, branch_then, loop_then, StmtTree, skip, abort, assert, act, assign, branch, loop, prog_of, stmts_of}
use Rattle.while_lang.proofs.ProgramLists.{stmts_of-prog_of}
use Rattle.optimiser_steps.specs.Statements.{single}

-- states, the conditions that hold in them, and the states to which actions and assignments lead
pub record Machine (S : Type 0) : Type 1 where
  pub IsState : S → Type 0
  pub holds : CondTree → S → Bool
  pub Acts : ℕ → S → S → Type 0
  pub Sets : ℕ → ExprTree → S → S → Type 0
  pub of_always : (i : S) → holds always i ≡ true
  pub of_negation : (b : CondTree) (i : S) → holds (negation b) i ≡ not (holds b i)

module _ {S : Type 0} (m : Machine S) where
  -- ---- relations on states

  abbrev pub Then : (S → S → Type 0) → (S → S → Type 0) → S → S → Type 0
  Then R Q i j = (k : S) × m.IsState k × R i k × Q k j

  abbrev pub Stays : S → S → Type 0
  Stays i j = i ≡ j

  abbrev pub Passes : CondTree → S → S → Type 0
  Passes b i j = (i ≡ j) × (m.holds b i ≡ true)

  -- the condition has the given truth value, and the relation leads on
  abbrev pub Where : CondTree → Bool → (S → S → Type 0) → S → S → Type 0
  Where b v R i j = (m.holds b i ≡ v) × R i j

  abbrev pub Chooses : CondTree → (S → S → Type 0) → (S → S → Type 0) → S → S → Type 0
  Chooses b R Q i j = Where b true R i j ⊎ Where b false Q i j

  abbrev pub Repeats : CondTree → (S → S → Type 0) → S → S → Type 0
  Repeats b R i j = (ks : List S) × Along m.IsState (Where b true R) i ks j × (m.holds b j ≡ false)

  -- ---- programs

  -- the program leads from one state to another
  abbrev pub Leads : ProgTree → S → S → Type 0
  Leads empty = Stays
  Leads (skip_then rest) = Then Stays (Leads rest)
  Leads (abort_then rest) = Then (λ i j. ⊥) (Leads rest)
  Leads (assert_then b rest) = Then (Passes b) (Leads rest)
  Leads (act_then a rest) = Then (m.Acts a) (Leads rest)
  Leads (assign_then x e rest) = Then (m.Sets x e) (Leads rest)
  Leads (branch_then b p q rest) = Then (Chooses b (Leads p) (Leads q)) (Leads rest)
  Leads (loop_then b p rest) = Then (Repeats b (Leads p)) (Leads rest)

  -- a statement leads from one state to another; the same for a list of statements
  abbrev pub Does : StmtTree → S → S → Type 0
  Does skip = Stays
  Does abort = λ i j. ⊥
  Does (assert b) = Passes b
  Does (act a) = m.Acts a
  Does (assign x e) = m.Sets x e
  Does (branch b p q) = Chooses b (Leads p) (Leads q)
  Does (loop b p) = Repeats b (Leads p)

  abbrev pub Follow : List StmtTree → S → S → Type 0
  Follow [] = Stays
  Follow (s ∷ ss) = Then (Does s) (Follow ss)

  -- ---- relations that relate the same states

  -- both relations agree from one state; the same from every state
  abbrev pub AlikeAt : S → (S → S → Type 0) → (S → S → Type 0) → Type 0
  AlikeAt i R Q = (j : S) → m.IsState j → R i j ↔ Q i j

  abbrev pub Alike : (S → S → Type 0) → (S → S → Type 0) → Type 0
  Alike R Q = (i : S) → m.IsState i → AlikeAt i R Q

  pub at_same : (i : S) (R : S → S → Type 0) → AlikeAt i R R
  at_same i R j sj = ((λ r. r), (λ r. r))

  pub at_back : (i : S) (R Q : S → S → Type 0) → AlikeAt i R Q → AlikeAt i Q R
  at_back i R Q a j sj = ((a j sj).1, (a j sj).0)

  pub at_through : (i : S) (R Q P : S → S → Type 0) → AlikeAt i R Q → AlikeAt i Q P → AlikeAt i R P
  at_through i R Q P a b j sj = ((λ r. (b j sj).0 ((a j sj).0 r)), (λ r. (a j sj).1 ((b j sj).1 r)))

  pub same : (R : S → S → Type 0) → Alike R R
  same R i si = at_same i R

  pub back : (R Q : S → S → Type 0) → Alike R Q → Alike Q R
  back R Q a i si = at_back i R Q (a i si)

  pub through : (R Q P : S → S → Type 0) → Alike R Q → Alike Q P → Alike R P
  through R Q P a b i si = at_through i R Q P (a i si) (b i si)

  -- ---- composition

  pub then_at : (i : S) (R R' Q Q' : S → S → Type 0) → AlikeAt i R R' → Alike Q Q' → AlikeAt i (Then R Q) (Then R' Q')
  then_at i R R' Q Q' a b j sj = (
    (λ r. (r.0, r.1, (a r.0 r.1).0 r.2, (b r.0 r.1 j sj).0 r.3)),
    (λ r. (r.0, r.1, (a r.0 r.1).1 r.2, (b r.0 r.1 j sj).1 r.3)),
  )

  pub then_alike : (R R' Q Q' : S → S → Type 0) → Alike R R' → Alike Q Q' → Alike (Then R Q) (Then R' Q')
  then_alike R R' Q Q' a b i si = then_at i R R' Q Q' (a i si) b

  -- the second relation may use that the first one led to its state
  pub then_after : (R Q Q' : S → S → Type 0) → ((i k : S) → m.IsState i → m.IsState k → R i k → AlikeAt k Q Q') → Alike (Then R Q) (Then R Q')
  then_after R Q Q' each i si j sj = (
    (λ r. (r.0, r.1, r.2, (each i r.0 si r.1 r.2 j sj).0 r.3)),
    (λ r. (r.0, r.1, r.2, (each i r.0 si r.1 r.2 j sj).1 r.3)),
  )

  pub then_assoc : (P R Q : S → S → Type 0) → Alike (Then (Then P R) Q) (Then P (Then R Q))
  then_assoc P R Q i si j sj = (
    (λ r. (r.2.0, r.2.1, r.2.2, (r.0, r.1, r.2.3, r.3))),
    (λ r. (r.3.0, r.3.1, (r.0, r.1, r.2, r.3.2), r.3.3)),
  )

  pub stays_then_at : (i : S) → m.IsState i → (R : S → S → Type 0) → AlikeAt i (Then Stays R) R
  stays_then_at i si R j sj = ((λ r. subst (λ k. R k j) (sym r.2) r.3), (λ r. (i, si, refl, r)))

  pub stays_then : (R : S → S → Type 0) → Alike (Then Stays R) R
  stays_then R i si = stays_then_at i si R

  pub then_stays : (R : S → S → Type 0) → Alike (Then R Stays) R
  then_stays R i si j sj = ((λ r. subst (λ k. R i k) r.3 r.2), (λ r. (j, sj, r, refl)))

  pub never_then : (R Q : S → S → Type 0) → Alike (Then (λ i j. ⊥) R) (Then (λ i j. ⊥) Q)
  never_then R Q i si j sj = ((λ r. absurd r.2), (λ r. absurd r.2))

  -- ---- choices and loops

  pub chooses_alike : (b : CondTree) (R R' Q Q' : S → S → Type 0) → Alike R R' → Alike Q Q' → Alike (Chooses b R Q) (Chooses b R' Q')
  chooses_alike b R R' Q Q' a c i si j sj = (
    (λ r. ⊎_elim {C = Chooses b R' Q' i j} (λ h. inl (h.0, (a i si j sj).0 h.1)) (λ h. inr (h.0, (c i si j sj).0 h.1)) r),
    (λ r. ⊎_elim {C = Chooses b R Q i j} (λ h. inl (h.0, (a i si j sj).1 h.1)) (λ h. inr (h.0, (c i si j sj).1 h.1)) r),
  )

  -- if the states satisfy an invariant, a path of one relation is a path of another
  pub along_kept : (I : S → Type 0) (R R' : S → S → Type 0) → ((i k : S) → m.IsState i → m.IsState k → I i → R i k → R' i k × I k) →
      (ks : List S) (i j : S) → m.IsState i → I i → Along m.IsState R i ks j → Along m.IsState R' i ks j
  along_kept I R R' each [] i j si h a = a
  along_kept I R R' each (k ∷ ks) i j si h a =
      let first = each i k si a.0 h a.1 in
      (a.0, first.0, along_kept I R R' each ks k j a.0 first.1 a.2)

  along_each : (R R' : S → S → Type 0) → ((i k : S) → m.IsState i → m.IsState k → R i k → R' i k) → (ks : List S) (i j : S) → m.IsState i → Along m.IsState R i ks j → Along m.IsState R' i ks j
  along_each R R' each ks i j si = along_kept (λ s. Unit {0}) R R' (λ l k sl sk u r. (each l k sl sk r, tt)) ks i j si tt

  pub repeats_alike : (b : CondTree) (R R' : S → S → Type 0) → Alike R R' → Alike (Repeats b R) (Repeats b R')
  repeats_alike b R R' a i si j sj = (
    (λ r. (r.0, along_each (Where b true R) (Where b true R') (λ l k sl sk h. (h.0, (a l sl k sk).0 h.1)) r.0 i j si r.1, r.2)),
    (λ r. (r.0, along_each (Where b true R') (Where b true R) (λ l k sl sk h. (h.0, (a l sl k sk).1 h.1)) r.0 i j si r.1, r.2)),
  )

  -- if the condition fails, a loop is not entered
  pub along_none : (b : CondTree) (R : S → S → Type 0) (ks : List S) (i j : S) → m.holds b i ≡ false → Along m.IsState (Where b true R) i ks j → i ≡ j
  along_none b R [] i j h a = a
  along_none b R (k ∷ ks) i j h a = absurd (let holds : m.holds b i ≡ true = a.1.0 in cc)

  -- ---- lists of statements

  pub follow_append : (xs ys : List StmtTree) → Alike (Follow (xs ++ ys)) (Then (Follow xs) (Follow ys))
  follow_append [] ys = back (Then Stays (Follow ys)) (Follow ys) (stays_then (Follow ys))
  follow_append (x ∷ xs) ys =
      through (Then (Does x) (Follow (xs ++ ys))) (Then (Does x) (Then (Follow xs) (Follow ys))) (Then (Then (Does x) (Follow xs)) (Follow ys))
      (then_alike (Does x) (Does x) (Follow (xs ++ ys)) (Then (Follow xs) (Follow ys)) (same (Does x)) (follow_append xs ys))
      (back (Then (Then (Does x) (Follow xs)) (Follow ys)) (Then (Does x) (Then (Follow xs) (Follow ys))) (then_assoc (Does x) (Follow xs) (Follow ys)))

  -- lists with a common prefix agree if their rests agree
  pub follow_front : (xs ys zs : List StmtTree) → Alike (Follow ys) (Follow zs) → Alike (Follow (xs ++ ys)) (Follow (xs ++ zs))
  follow_front [] ys zs a = a
  follow_front (x ∷ xs) ys zs a = then_alike (Does x) (Does x) (Follow (xs ++ ys)) (Follow (xs ++ zs)) (same (Does x)) (follow_front xs ys zs a)

  -- a program does the same as its statements in sequence
  pub leads_follow : (p : ProgTree) → Alike (Leads p) (Follow (stmts_of p))
  leads_follow empty = same Stays
  leads_follow (skip_then rest) = then_alike Stays Stays (Leads rest) (Follow (stmts_of rest)) (same Stays) (leads_follow rest)
  leads_follow (abort_then rest) = then_alike (λ i j. ⊥) (λ i j. ⊥) (Leads rest) (Follow (stmts_of rest)) (same (λ i j. ⊥)) (leads_follow rest)
  leads_follow (assert_then b rest) = then_alike (Passes b) (Passes b) (Leads rest) (Follow (stmts_of rest)) (same (Passes b)) (leads_follow rest)
  leads_follow (act_then a rest) = then_alike (m.Acts a) (m.Acts a) (Leads rest) (Follow (stmts_of rest)) (same (m.Acts a)) (leads_follow rest)
  leads_follow (assign_then x e rest) = then_alike (m.Sets x e) (m.Sets x e) (Leads rest) (Follow (stmts_of rest)) (same (m.Sets x e)) (leads_follow rest)
  leads_follow (branch_then b p q rest) =
      let R = Chooses b (Leads p) (Leads q) in
      then_alike R R (Leads rest) (Follow (stmts_of rest)) (same R) (leads_follow rest)
  leads_follow (loop_then b p rest) =
      let R = Repeats b (Leads p) in
      then_alike R R (Leads rest) (Follow (stmts_of rest)) (same R) (leads_follow rest)

  pub leads-prog_of : (ss : List StmtTree) → Alike (Leads (prog_of ss)) (Follow ss)
  leads-prog_of ss = subst (λ ts. Alike (Leads (prog_of ss)) (Follow ts)) (stmts_of-prog_of ss) (leads_follow (prog_of ss))

  pub leads-single : (s : StmtTree) → Alike (Leads (single s)) (Does s)
  leads-single s = through (Leads (single s)) (Then (Does s) Stays) (Does s) (leads-prog_of (s ∷ [])) (then_stays (Does s))

  -- programs agree if their statements do
  pub follow_leads : (p q : ProgTree) → Alike (Follow (stmts_of p)) (Follow (stmts_of q)) → Alike (Leads p) (Leads q)
  follow_leads p q a =
      through (Leads p) (Follow (stmts_of q)) (Leads q)
      (through (Leads p) (Follow (stmts_of p)) (Follow (stmts_of q)) (leads_follow p) a)
      (back (Leads q) (Follow (stmts_of q)) (leads_follow q))

  pub leads_stmts : (p q : ProgTree) → Alike (Leads p) (Leads q) → Alike (Follow (stmts_of p)) (Follow (stmts_of q))
  leads_stmts p q a =
      through (Follow (stmts_of p)) (Leads q) (Follow (stmts_of q))
      (through (Follow (stmts_of p)) (Leads p) (Leads q) (back (Leads p) (Follow (stmts_of p)) (leads_follow p)) a)
      (leads_follow q)
