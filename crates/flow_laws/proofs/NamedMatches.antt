-- The names of a match are the variables that its equations give and that its equations and its condition read.
use Rattle.std.proofs.Common.{◌≡◌, ◌≤◌, ℕ, zero, suc, ◌+◌, List, [], ◌∷◌, ◌++◌, length, append_assoc, Bool, false, ◌&&◌, ◌||◌, Option, None, Ok, refl, sym, ◌∙◌, ap, subst, arith}
use Rattle.std.specs.List.{list_any}
use Rattle.std.proofs.lemmas.List.{append-nil}
use Rattle.std.proofs.lemmas.List.Folds.{list_any-append}
use Rattle.std.proofs.Math.Bool.{or-false, or_assoc, and-false, and-or_distrib_left}
use Rattle.text_parser.specs.TokenParts.{TokenParts, bytes_of}
use Rattle.flow_model.specs.declared.sort.Sort.{Sort}
use Rattle.flow_model.specs.declared.sort.Sort.TheVariants.{Number}
use Rattle.flow_model.specs.Expressions.{ExprTree}
use Rattle.flow_model.specs.Conditions as condition
use Rattle.flow_model.specs.Conditions.{CondTree}
use Rattle.flow_model.specs.Polish.{CondPart, a_condition, with_part, conds_of}
use Rattle.flow_model.specs.Matches.{Equation}
use Rattle.flow_ways.specs.Liveness.{reads, cond_reads}
use Rattle.flow_pieces.specs.Matches.{gives, equations_read}
use Rattle.flow_syntax.specs.Syntax.{ExprSyntax, CondNodeSyntax, always, never, compared, compared_signed, negation, both, either, CondSyntax, EquationSyntax, BlockMatchSyntax, two_blocks}
use Rattle.flow_syntax.proofs.WholeSyntax.{ArePolish, IsWholeNode, condition_count, AreWholeConds, IsWholeOrNone, AreWholeEquations, IsWholeMatch}
use Rattle.flow_text.specs.declared.match_names.MatchPart.{MatchPart}
use Rattle.flow_text.specs.declared.match_names.MatchPart.TheVariants.{Where, Back, Keeping, If}
use Rattle.flow_text.specs.Matches.{MatchName, FileMatch}
use Rattle.flow_text.specs.MatchNames.{names_of_expression, names_of_equations, names_of_cond_node, names_of_condition, names_of_match}
use Rattle.flow_text.specs.Trees.{only_cond}
use Rattle.flow_text.specs.Scopes.{ScopeParts}
use Rattle.flow_text.specs.Resolving.{sort_of_sides, rel_named, signed_rel_named, relation_on, width_of_sort, comparison_of, signed_comparison_of, expression_of, part_of, parts_after}
use Rattle.flow_text.specs.Checking.{equations_after, condition_or_always, rounds_given, file_match, resolved_match}
use Rattle.flow_laws.specs.MatchNames.{is_same_part, is_set_in, is_read_in, NamesAreRead}
use Rattle.flow_laws.proofs.Holding.{Holds, any_holds, then_holds, weakened, all_hold}
use Rattle.flow_laws.proofs.TreeReads.{any_cond_reads, taken, part_reads, parts_read, part_size, only_cond_reads}
use Rattle.flow_laws.proofs.NamedReads.{none_set, IsReadAs, expression_read, AreEquations, equations_named}

-- ---- conditions

module _ (s : ScopeParts) (p : MatchPart) (x : ℕ) where
  abbrev here : Bool
  here = is_same_part If p

  abbrev some_set : List MatchName → Bool
  some_set ns = list_any (is_set_in p x) ns

  abbrev some_read : List MatchName → Bool
  some_read ns = list_any (is_read_in p x) ns

  -- ---- conditions set nothing

  none_set_by : (e f : ExprSyntax) → some_set (names_of_expression s If e ++ names_of_expression s If f) ≡ false
  none_set_by e f =
      list_any-append (is_set_in p x) (names_of_expression s If e) (names_of_expression s If f)
      ∙ ap (λ b. b || some_set (names_of_expression s If f)) (none_set s p If x e) ∙ none_set s p If x f

  none_set_at : (n : CondNodeSyntax) → some_set (names_of_cond_node s n) ≡ false
  none_set_at always = refl
  none_set_at never = refl
  none_set_at (compared relation e f) = none_set_by e f
  none_set_at (compared_signed word e f) = none_set_by e f
  none_set_at negation = refl
  none_set_at both = refl
  none_set_at either = refl

  condition_sets : (ns : CondSyntax) → some_set (names_of_condition s ns) ≡ false
  condition_sets [] = refl
  condition_sets (n ∷ ns) =
      list_any-append (is_set_in p x) (names_of_cond_node s n) (names_of_condition s ns) ∙ ap (λ b. b || some_set (names_of_condition s ns)) (none_set_at n) ∙ condition_sets ns

  -- ---- what they read

  -- a part that takes this number of conditions, and reads what the names read
  abbrev IsPart : ℕ → List MatchName → CondPart → Type 0
  IsPart count names c = (taken c ≡ count) × ((here && part_reads x c) ≡ some_read names)

  sides_read : (e f : ExprSyntax) (a b : ExprTree) → IsReadAs s p If x (names_of_expression s If e) a → IsReadAs s p If x (names_of_expression s If f) b → (here && (reads x a || reads x b)) ≡ some_read (names_of_expression s If e ++ names_of_expression s If f)
  sides_read e f a b h k =
      and-or_distrib_left here (reads x a) (reads x b) ∙ ap (λ c. c || (here && reads x b)) h ∙ ap (λ c. some_read (names_of_expression s If e) || c) k
      ∙ sym (list_any-append (is_read_in p x) (names_of_expression s If e) (names_of_expression s If f))

  comparison_named : (sort : Sort) (relation : TokenParts) (e f : ExprSyntax) → ArePolish 1 e → ArePolish 1 f → Holds (IsPart 0 (names_of_expression s If e ++ names_of_expression s If f)) (comparison_of s sort relation e f)
  comparison_named sort relation e f h k =
      let names = names_of_expression s If e ++ names_of_expression s If f in
      then_holds (IsReadAs s p If x (names_of_expression s If e)) (IsPart 0 names) (expression_of s sort e) _ (expression_read s p If x sort e h) (λ a left.
      then_holds (λ rel. Unit {0}) (IsPart 0 names) (relation_on sort relation (rel_named (bytes_of relation))) _ (any_holds (relation_on sort relation (rel_named (bytes_of relation)))) (λ rel u.
      then_holds (IsReadAs s p If x (names_of_expression s If f)) (IsPart 0 names) (expression_of s sort f) (λ b. Ok (a_condition (condition.compared rel a b))) (expression_read s p If x sort f k) (λ b right.
      (refl, sides_read e f a b left right))))

  signed_named : (sort : Sort) (word : TokenParts) (e f : ExprSyntax) → ArePolish 1 e → ArePolish 1 f → Holds (IsPart 0 (names_of_expression s If e ++ names_of_expression s If f)) (signed_comparison_of s sort word e f)
  signed_named sort word e f h k =
      let names = names_of_expression s If e ++ names_of_expression s If f in
      then_holds (λ w. Unit {0}) (IsPart 0 names) (width_of_sort sort word) _ (any_holds (width_of_sort sort word)) (λ w u.
      then_holds (IsReadAs s p If x (names_of_expression s If e)) (IsPart 0 names) (expression_of s (Number w) e) _ (expression_read s p If x (Number w) e h) (λ a left.
      then_holds (IsReadAs s p If x (names_of_expression s If f)) (IsPart 0 names) (expression_of s (Number w) f) (λ b. Ok (a_condition (condition.compared_signed (signed_rel_named (bytes_of word)) w a b))) (expression_read s p If x (Number w) f k) (λ b right.
      (refl, sides_read e f a b left right))))

  part_named : (n : CondNodeSyntax) → IsWholeNode n → Holds (IsPart (condition_count n) (names_of_cond_node s n)) (part_of s n)
  part_named always h = (refl, and-false here)
  part_named never h = (refl, and-false here)
  part_named (compared relation e f) h = comparison_named (sort_of_sides s e f) relation e f h.0 h.1
  part_named (compared_signed word e f) h = signed_named (sort_of_sides s e f) word e f h.0 h.1
  part_named negation h = (refl, and-false here)
  part_named both h = (refl, and-false here)
  part_named either h = (refl, and-false here)

  -- the parts before, and those of `n` conditions, which read what the names read
  abbrev AreParts : List CondPart → ℕ → List MatchName → List CondPart → Type 0
  AreParts before n names out =
      (new : List CondPart) × (out ≡ before ++ new) × (length (conds_of new) ≡ n) × ((here && any_cond_reads x (conds_of new)) ≡ some_read names)

  more_read : (n : CondNodeSyntax) (ns : CondSyntax) (c : CondPart) (bs : List CondTree) → taken c ≤ length bs → (here && part_reads x c) ≡ some_read (names_of_cond_node s n) → (here && any_cond_reads x bs) ≡ some_read (names_of_condition s ns) → (here && any_cond_reads x (with_part c bs)) ≡ some_read (names_of_condition s (n ∷ ns))
  more_read n ns c bs long e f =
      ap (λ b. here && b) (parts_read x c bs long) ∙ and-or_distrib_left here (part_reads x c) (any_cond_reads x bs) ∙ ap (λ b. b || (here && any_cond_reads x bs)) e
      ∙ ap (λ b. some_read (names_of_cond_node s n) || b) f ∙ sym (list_any-append (is_read_in p x) (names_of_cond_node s n) (names_of_condition s ns))

  parts_named : (ns : CondSyntax) (n : ℕ) (before : List CondPart) → AreWholeConds n ns → Holds (AreParts before n (names_of_condition s ns)) (parts_after s before ns)
  parts_named [] zero before h = ([], sym (append-nil before), refl, and-false here)
  parts_named [] (suc n) before h = absurd h
  parts_named (m ∷ ns) zero before h = absurd h
  parts_named (m ∷ ns) (suc n) before h =
      then_holds (IsPart (condition_count m) (names_of_cond_node s m)) (AreParts before (suc n) (names_of_condition s (m ∷ ns))) (part_of s m) (λ c. parts_after s (before ++ c ∷ []) ns) (part_named m h.0) (λ c a.
      weakened (AreParts (before ++ c ∷ []) (condition_count m + n) (names_of_condition s ns)) (AreParts before (suc n) (names_of_condition s (m ∷ ns))) (parts_after s (before ++ c ∷ []) ns) (parts_named ns (condition_count m + n) (before ++ c ∷ []) h.1) (λ out made.
      let count : taken c ≡ condition_count m = a.0 in
      let size : length (conds_of made.0) ≡ taken c + n = omega (arith, count, made.2) in (
        c ∷ made.0,
        made.1 ∙ append_assoc before (c ∷ []) made.0,
        part_size c (conds_of made.0) n size,
        more_read m ns c (conds_of made.0) (omega (arith, size)) a.1 made.3,
      )))

  abbrev IsCondition : List MatchName → CondTree → Type 0
  IsCondition names b = (here && cond_reads x b) ≡ some_read names

  condition_named : (b : CondSyntax) → IsWholeOrNone b → Holds (IsCondition (names_of_condition s b)) (condition_or_always s b)
  condition_named [] h = and-false here
  condition_named (n ∷ ns) h =
      then_holds (AreParts [] 1 (names_of_condition s (n ∷ ns))) (IsCondition (names_of_condition s (n ∷ ns))) (parts_after s [] (n ∷ ns)) (λ ps. Ok (only_cond (conds_of ps))) (parts_named (n ∷ ns) 1 [] h) (λ out made.
      subst (λ ps. IsCondition (names_of_condition s (n ∷ ns)) (only_cond (conds_of ps))) (sym made.1) (ap (λ b. here && b) (sym (only_cond_reads x (conds_of made.0) made.2)) ∙ made.3))

-- ---- matches

-- what some names of four parts are, one part after the other
any_of_four : (f : MatchName → Bool) (es fs gs hs : List MatchName) (a b c d : Bool) → a ≡ list_any f es → b ≡ list_any f fs → c ≡ list_any f gs → d ≡ list_any f hs → list_any f (((es ++ fs) ++ gs) ++ hs) ≡ (a || (b || (c || d)))
any_of_four f es fs gs hs a b c d h k l m =
    let last = list_any-append f ((es ++ fs) ++ gs) hs in
    let third = list_any-append f (es ++ fs) gs in
    let second = list_any-append f es fs in
    let outer = or_assoc (a || b) c d in
    let inner = or_assoc a b (c || d) in
    cc

module _ (s : ScopeParts) (x : ℕ) where
  -- equations that give and read what the names of the part `q` set and read
  abbrev AreOf : MatchPart → List MatchName → List Equation → Type 0
  AreOf q names es = (p : MatchPart) → AreEquations s p q x [] names es

  part_equations : (q : MatchPart) (qs : List EquationSyntax) → AreWholeEquations qs → Holds (AreOf q (names_of_equations s q qs)) (equations_after s [] qs)
  part_equations q qs h = all_hold (λ p. AreEquations s p q x [] (names_of_equations s q qs)) (equations_after s [] qs) (λ p. equations_named s p q x qs [] h)

  abbrev IsConditionOf : List MatchName → CondTree → Type 0
  IsConditionOf names b = (p : MatchPart) → IsCondition s p x names b

  part_condition : (b : CondSyntax) → IsWholeOrNone b → Holds (IsConditionOf (names_of_condition s b)) (condition_or_always s b)
  part_condition b h = all_hold (λ p. IsCondition s p x (names_of_condition s b)) (condition_or_always s b) (λ p. condition_named s p x b h)

  match_read : (m : BlockMatchSyntax) (blocks : ℕ × ℕ) (f g k : List Equation) (c : CondTree) (n : Option ℕ) (at : ℕ) → AreOf Where (names_of_equations s Where m.forth) f → AreOf Back (names_of_equations s Back m.back) g → AreOf Keeping (names_of_equations s Keeping m.keeping) k → IsConditionOf (names_of_condition s m.condition) c → NamesAreRead (file_match blocks f g k c n m.splits at (names_of_match s m)) x
  match_read m blocks f g k c n at forth back keeping given =
      let W = names_of_equations s Where m.forth in
      let B = names_of_equations s Back m.back in
      let K = names_of_equations s Keeping m.keeping in
      let C = names_of_condition s m.condition in
      record {
        where_sets = any_of_four (is_set_in Where x) W B K C (gives f x) false false false (forth Where).0 (back Where).0 (keeping Where).0 (sym (condition_sets s Where x m.condition)) ∙ or-false (gives f x);
        where_reads = any_of_four (is_read_in Where x) W B K C (equations_read f x) false false false (forth Where).1 (back Where).1 (keeping Where).1 (given Where) ∙ or-false (equations_read f x);
        back_sets = any_of_four (is_set_in Back x) W B K C false (gives g x) false false (forth Back).0 (back Back).0 (keeping Back).0 (sym (condition_sets s Back x m.condition)) ∙ or-false (gives g x);
        back_reads = any_of_four (is_read_in Back x) W B K C false (equations_read g x) false false (forth Back).1 (back Back).1 (keeping Back).1 (given Back) ∙ or-false (equations_read g x);
        keeping_sets = any_of_four (is_set_in Keeping x) W B K C false false (gives k x) false (forth Keeping).0 (back Keeping).0 (keeping Keeping).0 (sym (condition_sets s Keeping x m.condition)) ∙ or-false (gives k x);
        keeping_reads = any_of_four (is_read_in Keeping x) W B K C false false (equations_read k x) false (forth Keeping).1 (back Keeping).1 (keeping Keeping).1 (given Keeping) ∙ or-false (equations_read k x);
        condition_sets = any_of_four (is_set_in If x) W B K C false false false false (forth If).0 (back If).0 (keeping If).0 (sym (condition_sets s If x m.condition));
        condition_reads = any_of_four (is_read_in If x) W B K C false false false (cond_reads x c) (forth If).1 (back If).1 (keeping If).1 (given If);
      }

  match_named : (blocks : ℕ × ℕ) (at : ℕ) (m : BlockMatchSyntax) → IsWholeMatch (two_blocks m) → Holds (λ (y : FileMatch). NamesAreRead y x) (resolved_match s blocks at m)
  match_named blocks at m h =
      then_holds (AreOf Where (names_of_equations s Where m.forth)) (λ (y : FileMatch). NamesAreRead y x) (equations_after s [] m.forth) _ (part_equations Where m.forth h.0) (λ f forth.
      then_holds (AreOf Back (names_of_equations s Back m.back)) (λ (y : FileMatch). NamesAreRead y x) (equations_after s [] m.back) _ (part_equations Back m.back h.1) (λ g back.
      then_holds (AreOf Keeping (names_of_equations s Keeping m.keeping)) (λ (y : FileMatch). NamesAreRead y x) (equations_after s [] m.keeping) _ (part_equations Keeping m.keeping h.2) (λ k keeping.
      then_holds (IsConditionOf (names_of_condition s m.condition)) (λ (y : FileMatch). NamesAreRead y x) (condition_or_always s m.condition) _ (part_condition m.condition h.3) (λ c given.
      then_holds (λ n. Unit {0}) (λ (y : FileMatch). NamesAreRead y x) (rounds_given m.rounds) (λ n. Ok (file_match blocks f g k c n m.splits at (names_of_match s m))) (any_holds (rounds_given m.rounds)) (λ n u.
      match_read m blocks f g k c n at forth back keeping given)))))

abbrev pub AreNamesRead : FileMatch → Type 0
AreNamesRead m = (x : ℕ) → NamesAreRead m x

pub names_read : (s : ScopeParts) (blocks : ℕ × ℕ) (at : ℕ) (m : BlockMatchSyntax) → IsWholeMatch (two_blocks m) → Holds AreNamesRead (resolved_match s blocks at m)
names_read s blocks at m h = all_hold (λ x y. NamesAreRead y x) (resolved_match s blocks at m) (λ x. match_named s x blocks at m h)

-- a match that says no more than its blocks names nothing
pub plain_named : (blocks : ℕ × ℕ) (at : ℕ) → AreNamesRead (file_match blocks [] [] [] condition.always None false at [])
plain_named blocks at x = record { where_sets = refl; where_reads = refl; back_sets = refl; back_reads = refl; keeping_sets = refl; keeping_reads = refl; condition_sets = refl; condition_reads = refl }
