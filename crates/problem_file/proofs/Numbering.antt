-- The numbers that names stand for, as declarations are added.
use Rattle.std.proofs.Common.{◌≡◌, ◌<◌, ◌≤◌, ◌+◌, ℕ, List, [], ◌∷◌, ◌++◌, ⊎_elim, ◌⊎◌, inl, inr, sym, ap, subst, ◌∙◌, length, length-append, arith}
use Rattle.std.specs.Ordering.{nat_cmp}
use Rattle.std.specs.Cmp.Lexicographic.{slice_cmp}
use Rattle.std.specs.FinMap.{get, insert, get-empty}
use Rattle.std.proofs.lemmas.Option.{none-some, same_Some}
use Rattle.text_parser.specs.declared.meaning.Meaning.{Meaning}
use Rattle.text_parser.specs.declared.meaning.Meaning.TheVariants.{Test, Action, Var, Term, Prog}
use Rattle.text_parser.specs.ScopeParts.{Definition, ScopeParts, Means, empty_scope, declared, defined}
use Rattle.text_parser.proofs.Inverse.{insert_extends}
use Rattle.problem_file.specs.Working.Numbers.{AreNumbered}

-- ---- bounds

pub same_bound : (n : ℕ) → n ≤ n
same_bound n = omega arith

pub next_bound : (n : ℕ) → n ≤ n + 1
next_bound n = omega arith

below_more : (k n m : ℕ) → k < n → n ≤ m → k < m
below_more k n m lt le = omega arith

last_below : (n k : ℕ) → n ≡ k → k < n + 1
last_below n k same = omega arith

-- ---- names

-- after a declaration, a name stands for the new meaning or for its earlier meaning
pub new_or_old : (w : ScopeParts) (name : List ℕ) (m : Meaning) (a : List ℕ) (x : Meaning) → Means (declared w name m) a x → (m ≡ x) ⊎ Means w a x
new_or_old w name m a x e =
    let more = insert_extends w.meanings name m in
    ⊎_elim
    (λ (p : a ≡ name). inl (same_Some m x (sym more.here ∙ ap (get (insert w.meanings name m)) (sym p) ∙ e)))
    (λ (q : get (insert w.meanings name m) a ≡ get w.meanings a). inr (sym q ∙ e))
    (more.others a)

same_test : (i k : ℕ) → Test i ≡ Test k → i ≡ k
same_test i k e = cc

same_action : (i k : ℕ) → Action i ≡ Action k → i ≡ k
same_action i k e = cc

pub same_var : (i k : ℕ) → Var i ≡ Var k → i ≡ k
same_var i k e = cc

same_prog : (i k : ℕ) → Prog i ≡ Prog k → i ≡ k
same_prog i k e = cc

no_name : (name : List ℕ) (m : Meaning) → Means empty_scope name m → ⊥
no_name name m e = none-some m (sym (get-empty (slice_cmp nat_cmp) name) ∙ e)

pub empty_numbered : AreNumbered empty_scope 0 0 0 0
empty_numbered = record {
  named_tests = λ name k e. absurd (no_name name (Test k) e);
  named_actions = λ name k e. absurd (no_name name (Action k) e);
  named_vars = λ name k e. absurd (no_name name (Var k) e);
  named_progs = λ name k e. absurd (no_name name (Prog k) e);
}

module _ (w : ScopeParts) (t a v p : ℕ) (numbered : AreNumbered w t a v p) where
  -- an additional name keeps the numbers below the bounds, if the bounds do not shrink and the new number is below its
  -- bound
  still_numbered : (u : ScopeParts) (name : List ℕ) (m : Meaning) (s b x q : ℕ) → u ≡ declared w name m → t ≤ s → a ≤ b → v ≤ x → p ≤ q →
      ((k : ℕ) → m ≡ Test k → k < s) → ((k : ℕ) → m ≡ Action k → k < b) → ((k : ℕ) → m ≡ Var k → k < x) → ((k : ℕ) → m ≡ Prog k → k < q) → AreNumbered u s b x q
  still_numbered u name m s b x q same mt ma mv mp test action var prog = rw same (record {
    named_tests = λ n k e. ⊎_elim (λ h. test k h) (λ old. below_more k t s (numbered.named_tests n k old) mt) (new_or_old w name m n (Test k) e);
    named_actions = λ n k e. ⊎_elim (λ h. action k h) (λ old. below_more k a b (numbered.named_actions n k old) ma) (new_or_old w name m n (Action k) e);
    named_vars = λ n k e. ⊎_elim (λ h. var k h) (λ old. below_more k v x (numbered.named_vars n k old) mv) (new_or_old w name m n (Var k) e);
    named_progs = λ n k e. ⊎_elim (λ h. prog k h) (λ old. below_more k p q (numbered.named_progs n k old) mp) (new_or_old w name m n (Prog k) e);
  })

  pub test_numbered : (u : ScopeParts) (name : List ℕ) → u ≡ declared w name (Test t) → AreNumbered u (t + 1) a v p
  test_numbered u name same = still_numbered u name (Test t) (t + 1) a v p same (next_bound t) (same_bound a) (same_bound v) (same_bound p)
      (λ k h. last_below t k (same_test t k h)) (λ k h. absurd cc) (λ k h. absurd cc) (λ k h. absurd cc)

  pub action_numbered : (u : ScopeParts) (name : List ℕ) → u ≡ declared w name (Action a) → AreNumbered u t (a + 1) v p
  action_numbered u name same = still_numbered u name (Action a) t (a + 1) v p same (same_bound t) (next_bound a) (same_bound v) (same_bound p)
      (λ k h. absurd cc) (λ k h. last_below a k (same_action a k h)) (λ k h. absurd cc) (λ k h. absurd cc)

  pub var_numbered : (u : ScopeParts) (name : List ℕ) → u ≡ declared w name (Var v) → AreNumbered u t a (v + 1) p
  var_numbered u name same = still_numbered u name (Var v) t a (v + 1) p same (same_bound t) (same_bound a) (next_bound v) (same_bound p)
      (λ k h. absurd cc) (λ k h. absurd cc) (λ k h. last_below v k (same_var v k h)) (λ k h. absurd cc)

  pub prog_numbered : (u : ScopeParts) (name : List ℕ) → u ≡ declared w name (Prog p) → AreNumbered u t a v (p + 1)
  prog_numbered u name same = still_numbered u name (Prog p) t a v (p + 1) same (same_bound t) (same_bound a) (same_bound v) (next_bound p)
      (λ k h. absurd cc) (λ k h. absurd cc) (λ k h. absurd cc) (λ k h. last_below p k (same_prog p k h))

  pub term_numbered : (u : ScopeParts) (name : List ℕ) (d : Definition) → u ≡ defined w name d → AreNumbered u t a v p
  term_numbered u name d same = rw same (record {
    named_tests = λ n k e. ⊎_elim (λ h. absurd cc) (λ old. numbered.named_tests n k old) (new_or_old w name (Term (length w.terms)) n (Test k) e);
    named_actions = λ n k e. ⊎_elim (λ h. absurd cc) (λ old. numbered.named_actions n k old) (new_or_old w name (Term (length w.terms)) n (Action k) e);
    named_vars = λ n k e. ⊎_elim (λ h. absurd cc) (λ old. numbered.named_vars n k old) (new_or_old w name (Term (length w.terms)) n (Var k) e);
    named_progs = λ n k e. ⊎_elim (λ h. absurd cc) (λ old. numbered.named_progs n k old) (new_or_old w name (Term (length w.terms)) n (Prog k) e);
  })

-- an additional program at the end of the list, under the next number
pub added_numbered : {X : Type 0} (w u : ScopeParts) (t a v n : ℕ) (name : List ℕ) (old new : List X) (x : X) → AreNumbered w t a v (length old) → u ≡ declared w name (Prog n) → n ≡ length old → new ≡ old ++ x ∷ [] → AreNumbered u t a v (length new)
added_numbered w u t a v n name old new x numbered same count more =
    let e : u ≡ declared w name (Prog (length old)) = rw (← count) same in
    let long : length new ≡ length old + 1 = omega (arith, ap length more, length-append old (x ∷ [])) in
    subst (AreNumbered u t a v) (sym long) (prog_numbered w t a v (length old) numbered u name e)
