-- Conditions, statements, jumps and blocks of whole items are sorted where they have no fault.
use Rattle.std.proofs.Common.{◌≡◌, ℕ, zero, suc, ◌+◌, List, [], ◌∷◌, ◌++◌, take, length, length-append, false, nat_eq, Option, Some, None, Ok, slice_get, refl, sym, ◌∙◌, ap, subst, arith, append_assoc}
use Rattle.std.proofs.lemmas.Bool.Decides.{nat_tests}
use Rattle.std.proofs.lemmas.List.{append-nil, length-map}
use Rattle.kat_model.specs.declared.expression.Rel.{Rel}
use Rattle.kat_model.specs.declared.expression.Rel.TheVariants.{Eq, Ne}
use Rattle.text_parser.specs.TokenParts.{TokenParts, bytes_of}
use Rattle.text_parser.specs.Parsed.{◌>>=◌}
use Rattle.flow_model.specs.declared.sort.Sort.{Sort}
use Rattle.flow_model.specs.declared.sort.Sort.TheVariants.{Number, Opaque}
use Rattle.flow_model.specs.Expressions.{ExprTree}
use Rattle.flow_model.specs.Conditions as condition
use Rattle.flow_model.specs.Conditions.{CondTree}
use Rattle.flow_model.specs.Polish.{first_cond, other_conds, CondPart, a_condition, a_negation, a_conjunction, a_disjunction, with_part, conds_of}
use Rattle.flow_model.specs.Graphs as model
use Rattle.flow_model.specs.Graphs.{StatementTree, Block, Graph}
use Rattle.flow_forms.specs.Expressions.{sort_of, IsSorted}
use Rattle.flow_ways.specs.Conditions.{MayCompare, IsSortedCond}
use Rattle.flow_ways.specs.Sorted.{AreSorted, AreAssigned, AreSortedStatements, IsSortedJump, IsSortedBlock, IsSortedGraph}
use Rattle.flow_syntax.specs.Syntax.{ExprSyntax, CondNodeSyntax, always, never, compared, compared_signed, negation, both, either, CondSyntax, StatementSyntax, assign, claim, JumpSyntax, goto, branch, return, abort, BlockSyntax, a_block}
use Rattle.flow_syntax.proofs.WholeSyntax.{ArePolish, AreAllPolish, IsWholeNode, condition_count, AreWholeConds, IsWholeCond, AreWholeStatements, IsWholeJump, AreWholeBlocks}
use Rattle.flow_text.specs.declared.meaning.Meaning.{Meaning}
use Rattle.flow_text.specs.declared.meaning.Meaning.TheVariants.{Variable}
use Rattle.flow_text.specs.Trees.{only_cond}
use Rattle.flow_text.specs.Scopes.{ScopeParts, meaning_in}
use Rattle.flow_text.specs.Resolving.{sort_of_sides, rel_named, signed_rel_named, relation_on, width_of_sort, comparison_of, signed_comparison_of, expression_of, part_of, parts_after, condition_of}
use Rattle.flow_text.specs.Checking.{is_set, target_of, target_meant, next_target, targets_after, expressions_after, expressions_of, firsts, seconds, assigned, statements_after, found, block_names, block_or_fault, returned, jump_of, may_have_block, with_mark, block_of, next_block, blocks_after, graph_of}
use Rattle.flow_laws.proofs.Holding.{Holds, any_holds, then_holds, if_holds, weakened}
use Rattle.flow_laws.proofs.SortedNodes.{IsAt, expression_good}

-- ---- conditions

abbrev pub IsPart : List Sort → CondPart → Type 0
IsPart sorts (a_condition b) = IsSortedCond sorts b
IsPart sorts a_negation = Unit {0}
IsPart sorts a_conjunction = Unit {0}
IsPart sorts a_disjunction = Unit {0}

abbrev pub AreParts : List Sort → List CondPart → Type 0
AreParts sorts [] = Unit {0}
AreParts sorts (p ∷ ps) = IsPart sorts p × AreParts sorts ps

abbrev pub AreConds : List Sort → List CondTree → Type 0
AreConds sorts [] = Unit {0}
AreConds sorts (b ∷ bs) = IsSortedCond sorts b × AreConds sorts bs

-- a part that takes `n` conditions, and makes one of them
abbrev Takes : ℕ → CondPart → Type 0
Takes n p = (m : ℕ) (bs : List CondTree) → length bs ≡ n + m → length (with_part p bs) ≡ suc m

abbrev IsPartOf : List Sort → ℕ → CondPart → Type 0
IsPartOf sorts n p = IsPart sorts p × Takes n p

-- the parts before, and those of `n` conditions
abbrev ArePartsOf : List Sort → List CondPart → ℕ → List CondPart → Type 0
ArePartsOf sorts before n out = (new : List CondPart) × (out ≡ before ++ new) × AreParts sorts new × (length (conds_of new) ≡ n)

condition_takes : (b : CondTree) → Takes 0 (a_condition b)
condition_takes b m bs e = omega (arith, e)

negation_takes : Takes 1 a_negation
negation_takes m [] e = absurd (omega (arith, e))
negation_takes m (b ∷ bs) e = omega (arith, e)

conjunction_takes : Takes 2 a_conjunction
conjunction_takes m [] e = absurd (omega (arith, e))
conjunction_takes m (b ∷ []) e = absurd (omega (arith, e))
conjunction_takes m (b ∷ c ∷ bs) e = omega (arith, e)

disjunction_takes : Takes 2 a_disjunction
disjunction_takes m [] e = absurd (omega (arith, e))
disjunction_takes m (b ∷ []) e = absurd (omega (arith, e))
disjunction_takes m (b ∷ c ∷ bs) e = omega (arith, e)

first_sorted : (sorts : List Sort) (bs : List CondTree) → AreConds sorts bs → IsSortedCond sorts (first_cond bs)
first_sorted sorts [] h = tt
first_sorted sorts (b ∷ bs) h = h.0

others_sorted : (sorts : List Sort) (bs : List CondTree) → AreConds sorts bs → AreConds sorts (other_conds bs)
others_sorted sorts [] h = tt
others_sorted sorts (b ∷ bs) h = h.1

two_sorted : (sorts : List Sort) (bs : List CondTree) → AreConds sorts bs → IsSortedCond sorts (first_cond bs) × IsSortedCond sorts (first_cond (other_conds bs))
two_sorted sorts bs h = (first_sorted sorts bs h, first_sorted sorts (other_conds bs) (others_sorted sorts bs h))

conds_sorted : (sorts : List Sort) (ps : List CondPart) → AreParts sorts ps → AreConds sorts (conds_of ps)
conds_sorted sorts [] h = tt
conds_sorted sorts (a_condition b ∷ ps) h = (h.0, conds_sorted sorts ps h.1)
conds_sorted sorts (a_negation ∷ ps) h = let k = conds_sorted sorts ps h.1 in (first_sorted sorts (conds_of ps) k, others_sorted sorts (conds_of ps) k)
conds_sorted sorts (a_conjunction ∷ ps) h =
    let k = conds_sorted sorts ps h.1 in (two_sorted sorts (conds_of ps) k, others_sorted sorts (other_conds (conds_of ps)) (others_sorted sorts (conds_of ps) k))
conds_sorted sorts (a_disjunction ∷ ps) h =
    let k = conds_sorted sorts ps h.1 in (two_sorted sorts (conds_of ps) k, others_sorted sorts (other_conds (conds_of ps)) (others_sorted sorts (conds_of ps) k))

only_sorted : (sorts : List Sort) (bs : List CondTree) → length bs ≡ 1 → AreConds sorts bs → IsSortedCond sorts (only_cond bs)
only_sorted sorts [] e h = absurd (omega (arith, e))
only_sorted sorts (b ∷ []) e h = h.0
only_sorted sorts (b ∷ c ∷ bs) e h = absurd (omega (arith, e))

relation_good : (sort : Sort) (t : TokenParts) (rel : Rel) → Holds (MayCompare sort) (relation_on sort t rel)
relation_good (Number w) t rel = tt
relation_good (Opaque k) t Eq = tt
relation_good (Opaque k) t Ne = tt
relation_good (Opaque k) t rel = tt

-- ---- assignments

abbrev pub IsTarget : List Sort → ℕ × Sort → Type 0
IsTarget sorts x = slice_get sorts x.0 ≡ Some x.1

abbrev AreTargets : List Sort → List (ℕ × Sort) → Type 0
AreTargets sorts [] = Unit {0}
AreTargets sorts (x ∷ xs) = IsTarget sorts x × AreTargets sorts xs

-- targets, of this number
abbrev TargetsOf : List Sort → ℕ → List (ℕ × Sort) → Type 0
TargetsOf sorts n xs = AreTargets sorts xs × (length xs ≡ n)

targets_more : (sorts : List Sort) (xs : List (ℕ × Sort)) (x : ℕ × Sort) → AreTargets sorts xs → IsTarget sorts x → AreTargets sorts (xs ++ x ∷ [])
targets_more sorts [] x h k = (k, tt)
targets_more sorts (y ∷ ys) x h k = (h.0, targets_more sorts ys x h.1 k)

-- expressions of these sorts, one for each
abbrev HaveSorts : List Sort → List Sort → List ExprTree → Type 0
HaveSorts sorts [] [] = Unit {0}
HaveSorts sorts (sort ∷ expected) (e ∷ es) = IsSorted sorts false e × (sort_of sorts e ≡ sort) × HaveSorts sorts expected es
HaveSorts sorts expected es = ⊥

abbrev AreValues : List Sort → List ExprTree → List Sort → List ExprTree → Type 0
AreValues sorts before expected out = (new : List ExprTree) × (out ≡ before ++ new) × HaveSorts sorts expected new

values_sorted : (sorts expected : List Sort) (es : List ExprTree) → HaveSorts sorts expected es → AreSorted sorts es
values_sorted sorts [] [] h = tt
values_sorted sorts (sort ∷ expected) (e ∷ es) h = (h.0, values_sorted sorts expected es h.2)
values_sorted sorts expected es h = absurd h

assigned_sorted : (sorts : List Sort) (xs : List (ℕ × Sort)) (es : List ExprTree) → AreTargets sorts xs → HaveSorts sorts (seconds xs) es → AreAssigned sorts (firsts xs) es
assigned_sorted sorts [] [] t v = tt
assigned_sorted sorts [] (e ∷ es) t v = absurd v
assigned_sorted sorts (x ∷ xs) [] t v = absurd v
assigned_sorted sorts (x ∷ xs) (e ∷ es) t v = (t.0 ∙ ap (λ (i : Sort). Some i) (sym v.1), v.0, assigned_sorted sorts xs es t.1 v.2)

-- ---- statements and blocks

abbrev IsStatement : List Sort → StatementTree → Type 0
IsStatement sorts x = AreSortedStatements sorts (x ∷ [])

statements_more : (sorts : List Sort) (xs : List StatementTree) (x : StatementTree) → AreSortedStatements sorts xs → IsStatement sorts x → AreSortedStatements sorts (xs ++ x ∷ [])
statements_more sorts [] x h k = k
statements_more sorts (model.assign targets es ∷ xs) x h k = (h.0, statements_more sorts xs x h.1 k)
statements_more sorts (model.claim b ∷ xs) x h k = (h.0, statements_more sorts xs x h.1 k)

-- a sorted graph of this number of blocks
abbrev pub GraphOf : List Sort → ℕ → Graph → Type 0
GraphOf sorts n g = IsSortedGraph sorts g × (length g ≡ n)

graph_more : (sorts : List Sort) (g : Graph) (b : Block) → IsSortedGraph sorts g → IsSortedBlock sorts b → IsSortedGraph sorts (g ++ b ∷ [])
graph_more sorts [] b h k = (k, tt)
graph_more sorts (c ∷ cs) b h k = (h.0, graph_more sorts cs b h.1 k)

-- a variable that was declared before has the sort that it had
pub taken_declared : (n : ℕ) (vars : List Sort) (k : ℕ) (sort : Sort) → slice_get (take n vars) k ≡ Some sort → slice_get vars k ≡ Some sort
taken_declared zero vars k sort e = absurd cc
taken_declared (suc n) [] k sort e = e
taken_declared (suc n) (x ∷ xs) zero sort e = e
taken_declared (suc n) (x ∷ xs) (suc k) sort e = taken_declared n xs k sort e

module _ (s : ScopeParts) (sorts : List Sort) (declared : (k : ℕ) (sort : Sort) → slice_get s.variables k ≡ Some sort → slice_get sorts k ≡ Some sort) where
  comparison_good : (sort : Sort) (relation : TokenParts) (e f : ExprSyntax) → ArePolish 1 e → ArePolish 1 f → Holds (IsPartOf sorts 0) (comparison_of s sort relation e f)
  comparison_good sort relation e f h k =
      then_holds (IsAt sorts sort) (IsPartOf sorts 0) (expression_of s sort e) _ (expression_good s sorts declared sort e h) (λ x a.
      then_holds (MayCompare sort) (IsPartOf sorts 0) (relation_on sort relation (rel_named (bytes_of relation))) _ (relation_good sort relation (rel_named (bytes_of relation))) (λ rel may.
      then_holds (IsAt sorts sort) (IsPartOf sorts 0) (expression_of s sort f) (λ y. Ok (a_condition (condition.compared rel x y))) (expression_good s sorts declared sort f k) (λ y b.
      ((a.0, b.0, b.1 ∙ sym a.1, subst (λ i. MayCompare i rel) (sym a.1) may), condition_takes (condition.compared rel x y)))))

  signed_good : (sort : Sort) (word : TokenParts) (e f : ExprSyntax) → ArePolish 1 e → ArePolish 1 f → Holds (IsPartOf sorts 0) (signed_comparison_of s sort word e f)
  signed_good sort word e f h k =
      then_holds (λ w. Unit {0}) (IsPartOf sorts 0) (width_of_sort sort word) _ (any_holds (width_of_sort sort word)) (λ w u.
      then_holds (IsAt sorts (Number w)) (IsPartOf sorts 0) (expression_of s (Number w) e) _ (expression_good s sorts declared (Number w) e h) (λ x a.
      then_holds (IsAt sorts (Number w)) (IsPartOf sorts 0) (expression_of s (Number w) f) (λ y. Ok (a_condition (condition.compared_signed (signed_rel_named (bytes_of word)) w x y))) (expression_good s sorts declared (Number w) f k) (λ y b.
      ((a.0, b.0, a.1, b.1), condition_takes (condition.compared_signed (signed_rel_named (bytes_of word)) w x y)))))

  part_good : (n : CondNodeSyntax) → IsWholeNode n → Holds (IsPartOf sorts (condition_count n)) (part_of s n)
  part_good always h = (tt, condition_takes condition.always)
  part_good never h = (tt, condition_takes condition.never)
  part_good (compared relation e f) h = comparison_good (sort_of_sides s e f) relation e f h.0 h.1
  part_good (compared_signed word e f) h = signed_good (sort_of_sides s e f) word e f h.0 h.1
  part_good negation h = (tt, negation_takes)
  part_good both h = (tt, conjunction_takes)
  part_good either h = (tt, disjunction_takes)

  parts_good : (ns : CondSyntax) (n : ℕ) (before : List CondPart) → AreWholeConds n ns → Holds (ArePartsOf sorts before n) (parts_after s before ns)
  parts_good [] zero before h = ([], sym (append-nil before), tt, refl)
  parts_good [] (suc n) before h = absurd h
  parts_good (x ∷ ns) zero before h = absurd h
  parts_good (x ∷ ns) (suc n) before h =
      then_holds (IsPartOf sorts (condition_count x)) (ArePartsOf sorts before (suc n)) (part_of s x) (λ p. parts_after s (before ++ p ∷ []) ns) (part_good x h.0) (λ p a.
      weakened (ArePartsOf sorts (before ++ p ∷ []) (condition_count x + n)) (ArePartsOf sorts before (suc n)) (parts_after s (before ++ p ∷ []) ns)
      (parts_good ns (condition_count x + n) (before ++ p ∷ []) h.1)
      (λ out made. (p ∷ made.0, made.1 ∙ append_assoc before (p ∷ []) made.0, (a.0, made.2), a.1 n (conds_of made.0) made.3)))

  pub condition_good : (b : CondSyntax) → IsWholeCond b → Holds (IsSortedCond sorts) (condition_of s b)
  condition_good b h =
      then_holds (ArePartsOf sorts [] 1) (IsSortedCond sorts) (parts_after s [] b) (λ ps. Ok (only_cond (conds_of ps))) (parts_good b 1 [] h)
      (λ ps a. subst (λ qs. IsSortedCond sorts (only_cond (conds_of qs))) (sym a.1) (only_sorted sorts (conds_of a.0) a.3 (conds_sorted sorts a.0 a.2)))

  -- ---- assignments

  target_good : (before : List (ℕ × Sort)) (t : TokenParts) (k : ℕ) (o : Option Sort) → slice_get s.variables k ≡ o → Holds (IsTarget sorts) (target_of before t k o)
  target_good before t k None e = tt
  target_good before t k (Some sort) e = let h : Holds (IsTarget sorts) (Ok (k, sort)) = declared k sort e in if_holds (IsTarget sorts) (is_set before k) _ (Ok (k, sort)) (λ again. tt) h

  pub meant_good : (before : List (ℕ × Sort)) (t : TokenParts) (m : Option Meaning) → Holds (IsTarget sorts) (target_meant s before t m)
  meant_good before t None = tt
  meant_good before t (Some (Variable k)) = target_good before t k (slice_get s.variables k) refl
  meant_good before t (Some other) = tt

  targets_good : (n : ℕ) (ts : List TokenParts) (before : List (ℕ × Sort)) → length before + length ts ≡ n → AreTargets sorts before → Holds (TargetsOf sorts n) (targets_after s before ts)
  targets_good n [] before e h = (h, omega arith)
  targets_good n (t ∷ ts) before e h =
      then_holds (IsTarget sorts) (TargetsOf sorts n) (next_target s before t) (λ x. targets_after s (before ++ x ∷ []) ts) (meant_good before t (meaning_in s t)) (λ x a.
      targets_good n ts (before ++ x ∷ []) (let more = length-append before (x ∷ []) in omega (arith, e, more)) (targets_more sorts before x h a))

  values_good : (expected : List Sort) (es : List ExprSyntax) (before : List ExprTree) → length expected ≡ length es → AreAllPolish es → Holds (AreValues sorts before expected) (expressions_after s before expected es)
  values_good [] [] before e h = ([], sym (append-nil before), tt)
  values_good [] (x ∷ xs) before e h = absurd (omega (arith, e))
  values_good (sort ∷ expected) [] before e h = absurd (omega (arith, e))
  values_good (sort ∷ expected) (x ∷ xs) before e h =
      then_holds (IsAt sorts sort) (AreValues sorts before (sort ∷ expected)) (expression_of s sort x) (λ y. expressions_after s (before ++ y ∷ []) expected xs) (expression_good s sorts declared sort x h.0) (λ y a.
      weakened (AreValues sorts (before ++ y ∷ []) expected) (AreValues sorts before (sort ∷ expected)) (expressions_after s (before ++ y ∷ []) expected xs)
      (values_good expected xs (before ++ y ∷ []) (omega (arith, e)) h.1)
      (λ out v. (y ∷ v.0, v.1 ∙ append_assoc before (y ∷ []) v.0, (a.0, a.1, v.2))))

  assigned_good : (targets : List TokenParts) (becomes : TokenParts) (es : List ExprSyntax) → AreAllPolish es → Holds (IsStatement sorts) (assigned s targets becomes es)
  assigned_good targets becomes es h =
      then_holds (TargetsOf sorts (length targets)) (IsStatement sorts) (targets_after s [] targets) _ (targets_good (length targets) targets [] (omega arith) tt) (λ xs a.
      if_holds (IsStatement sorts) (nat_eq (length targets) (length es)) (expressions_of s (seconds xs) es >>= λ vs. Ok (model.assign (firsts xs) vs)) _
      (λ same.
      let counted : length targets ≡ length es = grind (arith, nat_tests) in
      then_holds (AreValues sorts [] (seconds xs)) (IsStatement sorts) (expressions_of s (seconds xs) es) (λ vs. Ok (model.assign (firsts xs) vs))
      (values_good (seconds xs) es [] (length-map xs (λ x. x.1) ∙ a.1 ∙ counted) h)
      (λ vs v. (subst (AreAssigned sorts (firsts xs)) (sym v.1) (assigned_sorted sorts xs v.0 a.0 v.2), tt)))
      tt)

  statements_good : (xs : List StatementSyntax) (before : List StatementTree) → AreWholeStatements xs → AreSortedStatements sorts before → Holds (AreSortedStatements sorts) (statements_after s before xs)
  statements_good [] before h k = k
  statements_good (assign targets becomes es ∷ xs) before h k =
      then_holds (IsStatement sorts) (AreSortedStatements sorts) (assigned s targets becomes es) (λ y. statements_after s (before ++ y ∷ []) xs) (assigned_good targets becomes es h.0)
      (λ y a. statements_good xs (before ++ y ∷ []) h.1 (statements_more sorts before y k a))
  statements_good (claim b ∷ xs) before h k =
      then_holds (IsStatement sorts) (AreSortedStatements sorts) (condition_of s b >>= λ x. Ok (model.claim x)) (λ y. statements_after s (before ++ y ∷ []) xs)
      (then_holds (IsSortedCond sorts) (IsStatement sorts) (condition_of s b) (λ x. Ok (model.claim x)) (condition_good b h.0) (λ x a. (a, tt)))
      (λ y a. statements_good xs (before ++ y ∷ []) h.1 (statements_more sorts before y k a))

  -- ---- jumps and blocks

  returned_good : (results : Option (List Sort)) (word : TokenParts) (es : List ExprSyntax) → AreAllPolish es → Holds (IsSortedJump sorts) (returned s results word es)
  returned_good None word es h = tt
  returned_good (Some expected) word es h =
      if_holds (IsSortedJump sorts) (nat_eq (length expected) (length es)) (expressions_of s expected es >>= λ vs. Ok (model.return vs)) _
      (λ same.
      let counted : length expected ≡ length es = grind (arith, nat_tests) in
      then_holds (AreValues sorts [] expected) (IsSortedJump sorts) (expressions_of s expected es) (λ vs. Ok (model.return vs)) (values_good expected es [] counted h)
      (λ vs v. subst (AreSorted sorts) (sym v.1) (values_sorted sorts expected v.0 v.2)))
      tt

  module _ (results : Option (List Sort)) (find : List ℕ → Option ℕ) where
    jump_good : (j : JumpSyntax) → IsWholeJump j → Holds (IsSortedJump sorts) (jump_of s results find j)
    jump_good (goto t) h = then_holds (λ k. Unit {0}) (IsSortedJump sorts) (block_or_fault t (find (bytes_of t))) (λ l. Ok (model.goto l)) (any_holds (block_or_fault t (find (bytes_of t)))) (λ l u. tt)
    jump_good (branch b t u) h =
        then_holds (IsSortedCond sorts) (IsSortedJump sorts) (condition_of s b) _ (condition_good b h) (λ x a.
        then_holds (λ k. Unit {0}) (IsSortedJump sorts) (block_or_fault t (find (bytes_of t))) _ (any_holds (block_or_fault t (find (bytes_of t)))) (λ k v.
        then_holds (λ l. Unit {0}) (IsSortedJump sorts) (block_or_fault u (find (bytes_of u))) (λ l. Ok (model.branch x k l)) (any_holds (block_or_fault u (find (bytes_of u)))) (λ l w. a)))
    jump_good (return word es) h = returned_good results word es h
    jump_good abort h = tt

    blocks_good : (n : ℕ) (bs : List BlockSyntax) (before : Graph) → length before + length bs ≡ n → AreWholeBlocks bs → IsSortedGraph sorts before → Holds (GraphOf sorts n) (blocks_after s results find before bs)
    blocks_good n [] before e h k = (k, omega arith)
    blocks_good n (a_block is_cut name statements jump ∷ bs) before e h k =
        let b = a_block is_cut name statements jump in
        then_holds (IsSortedBlock sorts) (GraphOf sorts n) (next_block s results find (length before) b) (λ x. blocks_after s results find (before ++ x ∷ []) bs)
        (then_holds (λ u. Unit {0}) (IsSortedBlock sorts) (may_have_block (length before) name (find (bytes_of name))) (λ u. block_of s results find b) (any_holds (may_have_block (length before) name (find (bytes_of name)))) (λ u v.
        then_holds (AreSortedStatements sorts) (IsSortedBlock sorts) (statements_after s [] statements) (λ xs. jump_of s results find jump >>= λ j. Ok (with_mark is_cut xs j)) (statements_good statements [] h.0 tt) (λ xs a.
        then_holds (IsSortedJump sorts) (IsSortedBlock sorts) (jump_of s results find jump) (λ j. Ok (with_mark is_cut xs j)) (jump_good jump h.1) (λ j c. (a, c)))))
        (λ x a. blocks_good n bs (before ++ x ∷ []) (let more = length-append before (x ∷ []) in omega (arith, e, more)) h.2 (graph_more sorts before x k a))

  pub graph_good : (results : Option (List Sort)) (bs : List BlockSyntax) → AreWholeBlocks bs → Holds (GraphOf sorts (length bs)) (graph_of s results bs)
  graph_good results bs h = blocks_good results (found (block_names 0 bs)) (length bs) bs [] (omega arith) h tt
