-- The forms of the nodes of a certificate, and how they depend on the numbers in them.
use Rattle.std.proofs.Common.{◌≡◌, ℕ, ◌⊎◌, inl, inr, ⊎_elim, List, [], ◌∷◌, map, length, Bool, true, false, cond, Some, None, refl, sym, ap, ◌∙◌, arith, codes}
use Rattle.std.specs.List.{list_all}
use Rattle.std.specs.Option.{option_map, option_and_then}
use Rattle.std.specs.Str.{bytes_eq}
use Rattle.kat_model.proofs.Options.{some_of_conds}
use Rattle.line_format.proofs.LineSteps.{named}
use Rattle.line_format.proofs.NumberForms.{wide_form}
use Rattle.term_nodes.specs.declared.TestNode.{TestNode}
use Rattle.term_nodes.specs.declared.TestNode.TheVariants.{False, True, Prim, Not, And, Or}
use Rattle.term_nodes.specs.declared.TermNode.{TermNode}
use Rattle.term_nodes.specs.declared.TermNode.TheVariants.{Zero, One, Test, Act, Sum, Seq, Star}
use Rattle.line_format.specs.Numerals.{is_numeral, value_of, numbers_of}
use Rattle.line_format.specs.Readings.{HasNumbers}
use Rattle.line_format.specs.declared.numerals.Numbers.{Numbers}
use Rattle.certificate.specs.declared.entry.Entry.{Entry}
use Rattle.certificate.specs.declared.entry.Entry.TheVariants.{TestLine, TermLine}
use Rattle.certificate.specs.declared.entry.Section.TheVariants.{Tests, Terms}
use Rattle.certificate.specs.Texts.{test_name, test_numbers, term_name, term_numbers, entry_numbers}
use Rattle.certificate.specs.Forms.{test_node_of, term_node_of}
use Rattle.certificate.specs.Faults.{is_wide, section_of}

three_forms : {N : Type 0} (b c d : Bool) (x y z n : N) → cond b (Some x) (cond c (Some y) (cond d (Some z) None)) ≡ Some n → ((b ≡ true) × (x ≡ n)) ⊎ (((c ≡ true) × (y ≡ n)) ⊎ ((d ≡ true) × (z ≡ n)))
three_forms true c d x y z n e = inl (refl, cc)
three_forms false true d x y z n e = inr (inl (refl, cc))
three_forms false false true x y z n e = inr (inr (refl, cc))
three_forms false false false x y z n e = cc

some_of_two : {N : Type 0} (b c : Bool) (x y : N) → (b ≡ true) ⊎ (c ≡ true) → (n : N) × (cond b (Some x) (cond c (Some y) None) ≡ Some n)
some_of_two true c x y h = (x, refl)
some_of_two false true x y h = (y, refl)
some_of_two false false x y h = ⊎_elim (λ p. cc) (λ p. cc) h

some_of_three : {N : Type 0} (b c d : Bool) (x y z : N) → (b ≡ true) ⊎ ((c ≡ true) ⊎ (d ≡ true)) → (n : N) × (cond b (Some x) (cond c (Some y) (cond d (Some z) None)) ≡ Some n)
some_of_three true c d x y z h = (x, refl)
some_of_three false true d x y z h = (y, refl)
some_of_three false false true x y z h = (z, refl)
some_of_three false false false x y z h = ⊎_elim (λ p. cc) (λ q. ⊎_elim (λ p. cc) (λ p. cc) q) h

-- a node has the name and the numbers from which it was read
test_two : (name v w : List ℕ) (ks : List ℕ) (x y n : TestNode ℕ) → test_name x ≡ v → test_name y ≡ w → ks ≡ test_numbers x → ks ≡ test_numbers y → cond (bytes_eq name v) (Some x) (cond (bytes_eq name w) (Some y) None) ≡ Some n → (name ≡ test_name n) × (ks ≡ test_numbers n)
test_two name v w ks x y n nx ny kx ky e =
    ⊎_elim
    (λ p. (named name v p.0 ∙ sym nx ∙ ap test_name p.1, kx ∙ ap test_numbers p.1))
    (λ p. (named name w p.0 ∙ sym ny ∙ ap test_name p.1, ky ∙ ap test_numbers p.1))
    (some_of_conds (bytes_eq name v) (bytes_eq name w) x y n e)

pub test_node_given : (name ks : List ℕ) (n : TestNode ℕ) → test_node_of name ks ≡ Some n → (name ≡ test_name n) × (ks ≡ test_numbers n)
test_node_given name [] n e = test_two name _ _ [] False True n refl refl refl refl e
test_node_given name (x ∷ []) n e = test_two name _ _ (x ∷ []) (Prim x) (Not x) n refl refl refl refl e
test_node_given name (x ∷ y ∷ []) n e = test_two name _ _ (x ∷ y ∷ []) (And x y) (Or x y) n refl refl refl refl e
test_node_given name (x ∷ y ∷ z ∷ ks) n e = cc

pub test_node_made : (n : TestNode ℕ) → test_node_of (test_name n) (test_numbers n) ≡ Some n
test_node_made False = refl
test_node_made True = refl
test_node_made (Prim k) = refl
test_node_made (Not x) = refl
test_node_made (And x y) = refl
test_node_made (Or x y) = refl

term_two : (name v w : List ℕ) (ks : List ℕ) (x y n : TermNode ℕ ℕ) → term_name x ≡ v → term_name y ≡ w → ks ≡ term_numbers x → ks ≡ term_numbers y → cond (bytes_eq name v) (Some x) (cond (bytes_eq name w) (Some y) None) ≡ Some n → (name ≡ term_name n) × (ks ≡ term_numbers n)
term_two name v w ks x y n nx ny kx ky e =
    ⊎_elim
    (λ p. (named name v p.0 ∙ sym nx ∙ ap term_name p.1, kx ∙ ap term_numbers p.1))
    (λ p. (named name w p.0 ∙ sym ny ∙ ap term_name p.1, ky ∙ ap term_numbers p.1))
    (some_of_conds (bytes_eq name v) (bytes_eq name w) x y n e)

term_three : (name u v w : List ℕ) (ks : List ℕ) (x y z n : TermNode ℕ ℕ) → term_name x ≡ u → term_name y ≡ v → term_name z ≡ w → ks ≡ term_numbers x → ks ≡ term_numbers y → ks ≡ term_numbers z → cond (bytes_eq name u) (Some x) (cond (bytes_eq name v) (Some y) (cond (bytes_eq name w) (Some z) None)) ≡ Some n → (name ≡ term_name n) × (ks ≡ term_numbers n)
term_three name u v w ks x y z n nx ny nz kx ky kz e =
    ⊎_elim
    (λ p. (named name u p.0 ∙ sym nx ∙ ap term_name p.1, kx ∙ ap term_numbers p.1))
    (λ q. ⊎_elim
    (λ p. (named name v p.0 ∙ sym ny ∙ ap term_name p.1, ky ∙ ap term_numbers p.1))
    (λ p. (named name w p.0 ∙ sym nz ∙ ap term_name p.1, kz ∙ ap term_numbers p.1))
    q)
    (three_forms (bytes_eq name u) (bytes_eq name v) (bytes_eq name w) x y z n e)

pub term_node_given : (name ks : List ℕ) (n : TermNode ℕ ℕ) → term_node_of name ks ≡ Some n → (name ≡ term_name n) × (ks ≡ term_numbers n)
term_node_given name [] n e = term_two name _ _ [] Zero One n refl refl refl refl e
term_node_given name (x ∷ []) n e = term_three name _ _ _ (x ∷ []) (Test x) (Act x) (Star x) n refl refl refl refl refl refl e
term_node_given name (x ∷ y ∷ []) n e = term_two name _ _ (x ∷ y ∷ []) (Sum x y) (Seq x y) n refl refl refl refl e
term_node_given name (x ∷ y ∷ z ∷ ks) n e = cc

pub term_node_made : (n : TermNode ℕ ℕ) → term_node_of (term_name n) (term_numbers n) ≡ Some n
term_node_made Zero = refl
term_node_made One = refl
term_node_made (Test x) = refl
term_node_made (Act a) = refl
term_node_made (Sum x y) = refl
term_node_made (Seq x y) = refl
term_node_made (Star x) = refl

-- whether a name and numbers form a node depends only on the name and the number of numbers
of_two : {N : Type 0} (b c : Bool) (w x y z n : N) → cond b (Some w) (cond c (Some x) None) ≡ Some n → (m : N) × (cond b (Some y) (cond c (Some z) None) ≡ Some m)
of_two b c w x y z n e = some_of_two b c y z (⊎_elim (λ p. inl p.0) (λ p. inr p.0) (some_of_conds b c w x n e))

of_three : {N : Type 0} (b c d : Bool) (u v w x y z n : N) → cond b (Some u) (cond c (Some v) (cond d (Some w) None)) ≡ Some n → (m : N) × (cond b (Some x) (cond c (Some y) (cond d (Some z) None)) ≡ Some m)
of_three b c d u v w x y z n e =
    some_of_three b c d x y z (⊎_elim (λ p. inl p.0) (λ q. inr (⊎_elim (λ p. inl p.0) (λ p. inr p.0) q)) (three_forms b c d u v w n e))

pub test_node_same : (name xs ys : List ℕ) (n : TestNode ℕ) → length xs ≡ length ys → test_node_of name xs ≡ Some n → (m : TestNode ℕ) × (test_node_of name ys ≡ Some m)
test_node_same name [] [] n h e = (n, e)
test_node_same name [] (y ∷ ys) n h e = absurd (omega arith)
test_node_same name (x ∷ xs) [] n h e = absurd (omega arith)
test_node_same name (x ∷ []) (y ∷ []) n h e = of_two (bytes_eq name (codes "prim")) (bytes_eq name (codes "not")) (Prim x) (Not x) (Prim y) (Not y) n e
test_node_same name (x ∷ []) (y ∷ z ∷ ys) n h e = absurd (omega arith)
test_node_same name (x ∷ w ∷ xs) (y ∷ []) n h e = absurd (omega arith)
test_node_same name (w ∷ x ∷ []) (y ∷ z ∷ []) n h e = of_two (bytes_eq name (codes "and")) (bytes_eq name (codes "or")) (And w x) (Or w x) (And y z) (Or y z) n e
test_node_same name (w ∷ x ∷ []) (y ∷ z ∷ k ∷ ys) n h e = absurd (omega arith)
test_node_same name (w ∷ x ∷ k ∷ xs) ys n h e = cc

pub term_node_same : (name xs ys : List ℕ) (n : TermNode ℕ ℕ) → length xs ≡ length ys → term_node_of name xs ≡ Some n → (m : TermNode ℕ ℕ) × (term_node_of name ys ≡ Some m)
term_node_same name [] [] n h e = (n, e)
term_node_same name [] (y ∷ ys) n h e = absurd (omega arith)
term_node_same name (x ∷ xs) [] n h e = absurd (omega arith)
term_node_same name (x ∷ []) (y ∷ []) n h e =
    of_three (bytes_eq name (codes "test")) (bytes_eq name (codes "act")) (bytes_eq name (codes "star")) (Test x) (Act x) (Star x) (Test y) (Act y) (Star y) n e
term_node_same name (x ∷ []) (y ∷ z ∷ ys) n h e = absurd (omega arith)
term_node_same name (x ∷ w ∷ xs) (y ∷ []) n h e = absurd (omega arith)
term_node_same name (w ∷ x ∷ []) (y ∷ z ∷ []) n h e = of_two (bytes_eq name (codes "sum")) (bytes_eq name (codes "seq")) (Sum w x) (Seq w x) (Sum y z) (Seq y z) n e
term_node_same name (w ∷ x ∷ []) (y ∷ z ∷ k ∷ ys) n h e = absurd (omega arith)
term_node_same name (w ∷ x ∷ k ∷ xs) ys n h e = cc

pub test_line_given : (name : List ℕ) (ks : List ℕ) (n : TestNode ℕ) → test_node_of name ks ≡ Some n → (ks ≡ entry_numbers (TestLine n)) × (section_of (TestLine n) ≡ Tests)
test_line_given name ks n e = ((test_node_given name ks n e).1, refl)

pub term_line_given : (name : List ℕ) (ks : List ℕ) (n : TermNode ℕ ℕ) → term_node_of name ks ≡ Some n → (ks ≡ entry_numbers (TermLine n)) × (section_of (TermLine n) ≡ Terms)
term_line_given name ks n e = ((term_node_given name ks n e).1, refl)

pub wide_test : (name : List ℕ) (ws : List (List ℕ)) (v : Numbers) (n : TestNode ℕ) → list_all is_numeral ws ≡ true → HasNumbers (map value_of ws) v → test_node_of name v.values.items ≡ Some n → v.wide ≡ true → (e : Entry) × (option_map TestLine (option_and_then (test_node_of name) (numbers_of ws)) ≡ Some e) × (is_wide e ≡ true) × (section_of e ≡ Tests)
wide_test name = wide_form entry_numbers section_of (test_node_of name) TestLine Tests (test_node_same name) (test_line_given name)

pub wide_term : (name : List ℕ) (ws : List (List ℕ)) (v : Numbers) (n : TermNode ℕ ℕ) → list_all is_numeral ws ≡ true → HasNumbers (map value_of ws) v → term_node_of name v.values.items ≡ Some n → v.wide ≡ true → (e : Entry) × (option_map TermLine (option_and_then (term_node_of name) (numbers_of ws)) ≡ Some e) × (is_wide e ≡ true) × (section_of e ≡ Terms)
wide_term name = wide_form entry_numbers section_of (term_node_of name) TermLine Terms (term_node_same name) (term_line_given name)
