-- What tokens spell is whole: each production keeps it.
use Rattle.std.proofs.Common.{◌≡◌, ◌<◌, ℕ, zero, suc, List, [], ◌∷◌, ◌++◌, length, map, nat_eq, if◌then◌else◌, Some, slice_get, subst, lit<, refl}
use Rattle.text_parser.specs.TokenParts.{TokenParts}
use Rattle.flow_syntax.specs.declared.rule.Part.{Part}
use Rattle.flow_syntax.specs.declared.rule.Part.TheVariants.{Token, Opening, Closing, Phrase}
use Rattle.flow_syntax.specs.declared.rule.Start.{Start}
use Rattle.flow_syntax.specs.Rules.{rule_parts}
use Rattle.flow_syntax.specs.Values.{values}
use Rattle.flow_syntax.proofs.Leftmost.{derivation_leftmost}
use Rattle.flow_syntax.proofs.KeptValues.{started, Keeps, values_fit}
use Rattle.flow_syntax.specs.declared.phrase.TheConstants.{FILE, FIRST_BLOCK, MORE_BLOCKS, BODY, RESULTS, CONDITION, MORE_CONJUNCTIONS, CONJUNCTION, MORE_LITERALS, LITERAL, EXPRESSION, MORE_SUMMANDS, PRODUCT, MORE_FACTORS, FACTOR, CALL, ARGUMENTS, MORE_EXPRESSIONS, MATCHED, WHERE_EQUATIONS, BACK_EQUATIONS, KEEPING_EQUATIONS, EQUATIONS, MORE_EQUATIONS, MATCH_CONDITION}
use Rattle.flow_syntax.specs.declared.terminal.TheConstants.{WHERE, BACK, KEEPING}
use Rattle.flow_syntax.specs.Marks.{marks_of}
use Rattle.flow_syntax.specs.Syntax.{both, either, ItemSyntax}
use Rattle.flow_syntax.specs.Actions.{ValueSyntax, first, rest, second, third, fourth, fifth, token_in, expr_in, exprs_in, operators_in, operands_in, cond_in, statements_in, jump_in, blocks_in, equations_in, match_in, items_in, done}
use Rattle.flow_syntax.specs.Productions.{Production, rules_of, rules, productions, listed_actions, act, actions, file_rules, names_rules, more_names_rules, sort_name_rules, parameters_rules, more_sorts_rules, first_block_rules, more_blocks_rules, body_rules, results_rules, condition_rules, more_conjunctions_rules, conjunction_rules, more_literals_rules, literal_rules, relation_rules, continues_rules, expression_rules, more_summands_rules, product_rules, more_factors_rules, factor_rules, call_rules, arguments_rules, more_expressions_rules, matched_rules, given_equations_rules, equations_rules, more_equations_rules, match_condition_rules, match_rounds_rules, match_split_rules}
use Rattle.flow_syntax.specs.Spelling.{AreSpelled}
use Rattle.flow_syntax.proofs.GrammarExamples.{rules_listed}
use Rattle.flow_syntax.proofs.MarkLists.{marks_length}
use Rattle.flow_syntax.proofs.WholeSyntax.{ArePolish, AreAllPolish, IsWholeCond, IsWholeOrNone, AreWholeStatements, IsWholeJump, AreWholeBlocks, AreWholeEquations, IsWholeMatch, AreWholeItems, whole_or_none, join_polish, operations_polish, call_polish, linked_whole, more_whole, graph_whole}

-- what the value of a phrase is
data Shape : Type 0 where
  a_value : Shape
  an_expr : Shape
  some_exprs : Shape
  some_operations : Shape
  a_cond : Shape
  cond_or_none : Shape
  a_body : Shape
  first_blocks : Shape
  other_blocks : Shape
  some_equations : Shape
  some_match : Shape
  some_items : Shape

abbrev shape_of : ℕ → Shape
shape_of n =
    if nat_eq n FILE then some_items
    else if nat_eq n FIRST_BLOCK then first_blocks
    else if nat_eq n MORE_BLOCKS then other_blocks
    else if nat_eq n BODY then a_body
    else if nat_eq n RESULTS then some_exprs
    else if nat_eq n CONDITION then a_cond
    else if nat_eq n MORE_CONJUNCTIONS then cond_or_none
    else if nat_eq n CONJUNCTION then a_cond
    else if nat_eq n MORE_LITERALS then cond_or_none
    else if nat_eq n LITERAL then a_cond
    else if nat_eq n EXPRESSION then an_expr
    else if nat_eq n MORE_SUMMANDS then some_operations
    else if nat_eq n PRODUCT then an_expr
    else if nat_eq n MORE_FACTORS then some_operations
    else if nat_eq n FACTOR then an_expr
    else if nat_eq n CALL then some_exprs
    else if nat_eq n ARGUMENTS then some_exprs
    else if nat_eq n MORE_EXPRESSIONS then some_exprs
    else if nat_eq n MATCHED then some_match
    else if nat_eq n WHERE_EQUATIONS then some_equations
    else if nat_eq n BACK_EQUATIONS then some_equations
    else if nat_eq n KEEPING_EQUATIONS then some_equations
    else if nat_eq n EQUATIONS then some_equations
    else if nat_eq n MORE_EQUATIONS then some_equations
    else if nat_eq n MATCH_CONDITION then cond_or_none
    else a_value

abbrev HasShape : Shape → ValueSyntax → Type 0
HasShape a_value v = Unit {0}
HasShape an_expr v = ArePolish 1 (expr_in v)
HasShape some_exprs v = AreAllPolish (exprs_in v)
HasShape some_operations v = ArePolish (length (operators_in v)) (operands_in v)
HasShape a_cond v = IsWholeCond (cond_in v)
HasShape cond_or_none v = IsWholeOrNone (cond_in v)
HasShape a_body v = AreWholeStatements (statements_in v) × IsWholeJump (jump_in v)
HasShape first_blocks v = (0 < length (blocks_in v)) × AreWholeBlocks (blocks_in v)
HasShape other_blocks v = AreWholeBlocks (blocks_in v)
HasShape some_equations v = AreWholeEquations (equations_in v)
HasShape some_match v = IsWholeMatch (match_in v)
HasShape some_items v = AreWholeItems (items_in v)

-- the values at the front of the stack are those of the parts
abbrev AreOf : List Part → List ValueSyntax → Type 0
AreOf [] vs = Unit {0}
AreOf (Token t ∷ ps) vs = AreOf ps (rest vs)
AreOf (Opening t ∷ ps) vs = AreOf ps (rest vs)
AreOf (Closing ∷ ps) vs = AreOf ps vs
AreOf (Phrase n ∷ ps) vs = HasShape (shape_of n) (first vs) × AreOf ps (rest vs)

abbrev IsKept : Production → Type 0
IsKept (rule_parts n start parts, a) = (ps : List Part) (vs : List ValueSyntax) → AreOf (started start (parts ++ ps)) vs → AreOf (Phrase n ∷ ps) (done a vs)

abbrev AreKept : List Production → Type 0
AreKept [] = Unit {0}
AreKept (p ∷ ps) = IsKept p × AreKept ps

kept-append : (ps qs : List Production) → AreKept ps → AreKept qs → AreKept (ps ++ qs)
kept-append [] qs h k = k
kept-append (p ∷ ps) qs h k = (h.0, kept-append ps qs h.1 k)

-- lists of productions, each kept, one after the other
abbrev and_kept : (x : (ps : List Production) × AreKept ps) (qs : List Production) → AreKept qs → (ps : List Production) × AreKept ps
and_kept x qs k = (x.0 ++ qs, kept-append x.0 qs x.1 k)

-- ---- the productions of each phrase

file_kept : AreKept file_rules
file_kept = (
  (λ ps vs h. ((tt, h.1.0), h.1.1)),
  (
    (λ ps vs h. ((tt, h.1.1.0), h.1.1.1)),
    (
      (λ ps vs h. ((tt, h.1.1.0), h.1.1.1)),
      (
        (λ ps vs h. ((graph_whole (blocks_in (fourth vs)) (blocks_in (fifth vs)) h.0.0 h.0.1 h.1.0, h.1.1.0), h.1.1.1)),
        (
          (λ ps vs h. ((tt, h.0), h.1)),
          (
            (λ ps vs h. ((tt, h.0), h.1)),
            (
              (λ ps vs h. ((tt, h.0), h.1)),
              (
                (λ ps vs h. ((h.0, h.1.0), h.1.1)),
                ((λ ps vs h. (tt, h)), tt),
              ),
            ),
          ),
        ),
      ),
    ),
  ),
)

names_kept : AreKept names_rules
names_kept =
    ((λ ps vs h. h), tt)

more_names_kept : AreKept more_names_rules
more_names_kept = (
  (λ ps vs h. h),
  ((λ ps vs h. (tt, h)), tt),
)

sort_name_kept : AreKept sort_name_rules
sort_name_kept = (
  (λ ps vs h. (tt, h)),
  (
    (λ ps vs h. (tt, h)),
    (
      (λ ps vs h. (tt, h)),
      (
        (λ ps vs h. (tt, h)),
        ((λ ps vs h. (tt, h)), tt),
      ),
    ),
  ),
)

parameters_kept : AreKept parameters_rules
parameters_kept = (
  (λ ps vs h. (tt, h)),
  ((λ ps vs h. (tt, h.1.1)), tt),
)

more_sorts_kept : AreKept more_sorts_rules
more_sorts_kept = (
  (λ ps vs h. (tt, h.1.1)),
  ((λ ps vs h. (tt, h)), tt),
)

first_block_kept : AreKept first_block_rules
first_block_kept = (
  (λ ps vs h. ((lit< tt, (h.0.0, h.0.1, tt)), h.1)),
  ((λ ps vs h. ((lit< tt, (h.0.0, h.0.1, tt)), h.1)), tt),
)

more_blocks_kept : AreKept more_blocks_rules
more_blocks_kept = (
  (λ ps vs h. ((h.0.0, h.0.1, h.1.0), h.1.1)),
  (
    (λ ps vs h. ((h.0.0, h.0.1, h.1.0), h.1.1)),
    ((λ ps vs h. (tt, h)), tt),
  ),
)

body_kept : AreKept body_rules
body_kept = (
  (λ ps vs h. ((((h.1.0, h.1.1.0), h.1.1.1.0.0), h.1.1.1.0.1), h.1.1.1.1)),
  (
    (λ ps vs h. (((h.0, h.1.0.0), h.1.0.1), h.1.1)),
    (
      (λ ps vs h. ((tt, tt), h)),
      (
        (λ ps vs h. ((tt, h.0), h.1)),
        (
          (λ ps vs h. ((tt, h.0), h.1)),
          ((λ ps vs h. ((tt, tt), h)), tt),
        ),
      ),
    ),
  ),
)

results_kept : AreKept results_rules
results_kept = (
  (λ ps vs h. (tt, h)),
  ((λ ps vs h. ((h.0, h.1.0), h.1.1)), tt),
)

condition_kept : AreKept condition_rules
condition_kept =
    ((λ ps vs h. (linked_whole either (cond_in (first vs)) (cond_in (second vs)) tt refl h.0 h.1.0, h.1.1)), tt)

more_conjunctions_kept : AreKept more_conjunctions_rules
more_conjunctions_kept = (
  (λ ps vs h. (more_whole either (cond_in (second vs)) (cond_in (third vs)) tt refl h.0 h.1.0, h.1.1)),
  ((λ ps vs h. (tt, h)), tt),
)

conjunction_kept : AreKept conjunction_rules
conjunction_kept =
    ((λ ps vs h. (linked_whole both (cond_in (first vs)) (cond_in (second vs)) tt refl h.0 h.1.0, h.1.1)), tt)

more_literals_kept : AreKept more_literals_rules
more_literals_kept = (
  (λ ps vs h. (more_whole both (cond_in (second vs)) (cond_in (third vs)) tt refl h.0 h.1.0, h.1.1)),
  ((λ ps vs h. (tt, h)), tt),
)

literal_kept : AreKept literal_rules
literal_kept = (
  (λ ps vs h. ((tt, h.0), h.1)),
  (
    (λ ps vs h. ((tt, tt), h)),
    (
      (λ ps vs h. ((tt, tt), h)),
      (
        (λ ps vs h. h),
        (
          (λ ps vs h. (((h.0, h.1.0), tt), h.1.1)),
          (
            (λ ps vs h. (((h.0, h.1.0), tt), h.1.1)),
            (
              (λ ps vs h. (((h.0, h.1.0), tt), h.1.1)),
              (
                (λ ps vs h. (((h.0, h.1.0), tt), h.1.1)),
                ((λ ps vs h. (((h.0, h.1.1.0), tt), h.1.1.1)), tt),
              ),
            ),
          ),
        ),
      ),
    ),
  ),
)

relation_kept : AreKept relation_rules
relation_kept = (
  (λ ps vs h. (tt, h)),
  (
    (λ ps vs h. (tt, h)),
    (
      (λ ps vs h. (tt, h)),
      (
        (λ ps vs h. (tt, h)),
        (
          (λ ps vs h. (tt, h)),
          ((λ ps vs h. (tt, h)), tt),
        ),
      ),
    ),
  ),
)

continues_kept : AreKept continues_rules
continues_kept = (
  (λ ps vs h. (tt, h)),
  (
    (λ ps vs h. (tt, h)),
    (
      (λ ps vs h. (tt, h)),
      (
        (λ ps vs h. (tt, h)),
        (
          (λ ps vs h. (tt, h)),
          (
            (λ ps vs h. (tt, h)),
            (
              (λ ps vs h. (tt, h)),
              (
                (λ ps vs h. (tt, h)),
                ((λ ps vs h. (tt, h)), tt),
              ),
            ),
          ),
        ),
      ),
    ),
  ),
)

expression_kept : AreKept expression_rules
expression_kept =
    ((λ ps vs h. (join_polish (operators_in (second vs)) (expr_in (first vs)) (operands_in (second vs)) h.0 h.1.0, h.1.1)), tt)

more_summands_kept : AreKept more_summands_rules
more_summands_kept = (
  (λ ps vs h. (operations_polish (length (operators_in (third vs))) (expr_in (second vs)) (operands_in (third vs)) h.0 h.1.0, h.1.1)),
  (
    (λ ps vs h. (operations_polish (length (operators_in (third vs))) (expr_in (second vs)) (operands_in (third vs)) h.0 h.1.0, h.1.1)),
    ((λ ps vs h. (tt, h)), tt),
  ),
)

product_kept : AreKept product_rules
product_kept =
    ((λ ps vs h. (join_polish (operators_in (second vs)) (expr_in (first vs)) (operands_in (second vs)) h.0 h.1.0, h.1.1)), tt)

more_factors_kept : AreKept more_factors_rules
more_factors_kept = (
  (λ ps vs h. (operations_polish (length (operators_in (third vs))) (expr_in (second vs)) (operands_in (third vs)) h.0 h.1.0, h.1.1)),
  ((λ ps vs h. (tt, h)), tt),
)

factor_kept : AreKept factor_rules
factor_kept = (
  (λ ps vs h. (tt, h)),
  (
    (λ ps vs h. (call_polish (token_in (first vs)) (second vs) h.0, h.1)),
    (
      (λ ps vs h. h),
      (
        (λ ps vs h. h),
        (
          (λ ps vs h. h),
          (
            (λ ps vs h. h),
            (
              (λ ps vs h. h),
              (
                (λ ps vs h. h),
                (
                  (λ ps vs h. h),
                  (
                    (λ ps vs h. h),
                    ((λ ps vs h. h), tt),
                  ),
                ),
              ),
            ),
          ),
        ),
      ),
    ),
  ),
)

call_kept : AreKept call_rules
call_kept = (
  (λ ps vs h. h),
  ((λ ps vs h. (tt, h)), tt),
)

arguments_kept : AreKept arguments_rules
arguments_kept = (
  (λ ps vs h. (tt, h)),
  ((λ ps vs h. ((h.0, h.1.0), h.1.1)), tt),
)

more_expressions_kept : AreKept more_expressions_rules
more_expressions_kept = (
  (λ ps vs h. ((h.0, h.1.0), h.1.1)),
  ((λ ps vs h. (tt, h)), tt),
)

matched_kept : AreKept matched_rules
matched_kept = (
  (λ ps vs h. (tt, h)),
  ((λ ps vs h. ((h.0, h.1.0, h.1.1.0, h.1.1.1.0), h.1.1.1.1.1.1)), tt),
)

where_kept : AreKept (given_equations_rules WHERE_EQUATIONS WHERE)
where_kept = (
  (λ ps vs h. h),
  ((λ ps vs h. (tt, h)), tt),
)

back_kept : AreKept (given_equations_rules BACK_EQUATIONS BACK)
back_kept = (
  (λ ps vs h. h),
  ((λ ps vs h. (tt, h)), tt),
)

keeping_kept : AreKept (given_equations_rules KEEPING_EQUATIONS KEEPING)
keeping_kept = (
  (λ ps vs h. h),
  ((λ ps vs h. (tt, h)), tt),
)

equations_kept : AreKept equations_rules
equations_kept =
    ((λ ps vs h. ((h.0, h.1.0), h.1.1)), tt)

more_equations_kept : AreKept more_equations_rules
more_equations_kept = (
  (λ ps vs h. ((h.0, h.1.0), h.1.1)),
  ((λ ps vs h. (tt, h)), tt),
)

match_condition_kept : AreKept match_condition_rules
match_condition_kept = (
  (λ ps vs h. (whole_or_none (cond_in (second vs)) h.0, h.1)),
  ((λ ps vs h. (tt, h)), tt),
)

match_rounds_kept : AreKept match_rounds_rules
match_rounds_kept = (
  (λ ps vs h. (tt, h)),
  ((λ ps vs h. (tt, h)), tt),
)

match_split_kept : AreKept match_split_rules
match_split_kept = (
  (λ ps vs h. (tt, h)),
  ((λ ps vs h. (tt, h)), tt),
)

all_kept : AreKept productions
unfolding productions
all_kept =
    (and_kept (and_kept (and_kept (and_kept (and_kept (and_kept (and_kept (and_kept (and_kept (and_kept (and_kept (and_kept (and_kept (and_kept (and_kept (and_kept (and_kept (and_kept (and_kept (and_kept (and_kept (and_kept (and_kept (and_kept (and_kept (and_kept (and_kept (and_kept (and_kept (and_kept (and_kept (and_kept (and_kept (file_rules, file_kept) names_rules names_kept) more_names_rules more_names_kept) sort_name_rules sort_name_kept) parameters_rules parameters_kept) more_sorts_rules more_sorts_kept) first_block_rules first_block_kept) more_blocks_rules more_blocks_kept) body_rules body_kept) results_rules results_kept) condition_rules condition_kept) more_conjunctions_rules more_conjunctions_kept) conjunction_rules conjunction_kept) more_literals_rules more_literals_kept) literal_rules literal_kept) relation_rules relation_kept) continues_rules continues_kept) expression_rules expression_kept) more_summands_rules more_summands_kept) product_rules product_kept) more_factors_rules more_factors_kept) factor_rules factor_kept) call_rules call_kept) arguments_rules arguments_kept) more_expressions_rules more_expressions_kept) matched_rules matched_kept) (given_equations_rules WHERE_EQUATIONS WHERE) where_kept) (given_equations_rules BACK_EQUATIONS BACK) back_kept) (given_equations_rules KEEPING_EQUATIONS KEEPING) keeping_kept) equations_rules equations_kept) more_equations_rules more_equations_kept) match_condition_rules match_condition_kept) match_rounds_rules match_rounds_kept) match_split_rules match_split_kept).1

-- ---- a rule by its number

kept_at : (prods : List Production) (k n : ℕ) (start : Start) (parts : List Part) → AreKept prods → slice_get (rules_of prods) k ≡ Some (rule_parts n start parts) → (ps : List Part) (vs : List ValueSyntax) → AreOf (started start (parts ++ ps)) vs → AreOf (Phrase n ∷ ps) (act (slice_get (map (λ p. p.1) prods) k) vs)
kept_at [] k n start parts kept e ps vs h = absurd cc
kept_at ((rule_parts m s qs, a) ∷ prods) zero n start parts kept e ps vs h =
    let same : rule_parts m s qs ≡ rule_parts n start parts = cc in subst (λ r. IsKept (r, a)) same kept.0 ps vs h
kept_at (p ∷ prods) (suc k) n start parts kept e ps vs h = kept_at prods k n start parts kept.1 e ps vs h

rule_kept : (k n : ℕ) (start : Start) (parts ps : List Part) (vs : List ValueSyntax) → slice_get rules k ≡ Some (rule_parts n start parts) → AreOf (started start (parts ++ ps)) vs → AreOf (Phrase n ∷ ps) (actions.apply k vs)
unfolding listed_actions
rule_kept k n start parts ps vs e h =
    kept_at productions k n start parts all_kept (subst (λ rs. slice_get rs k ≡ Some (rule_parts n start parts)) rules_listed e) ps vs h

grammar_keeps : Keeps rules actions AreOf
grammar_keeps = record { nothing = tt; token = λ t ps x vs h. h; opening = λ t ps x vs h. h; closing = λ ps vs h. h; rule = rule_kept }

pub spelled_whole : (tokens : List TokenParts) (end : ℕ) (is : List ItemSyntax) → AreSpelled tokens end is → AreWholeItems is
spelled_whole tokens end is s =
    let leftmost = derivation_leftmost rules FILE (marks_of tokens) end s.steps s.derived in
    let fits : AreOf (Phrase FILE ∷ []) (values actions s.steps tokens) = values_fit rules actions AreOf grammar_keeps (Phrase FILE ∷ []) s.steps (marks_of tokens) tokens (marks_length tokens) leftmost in
    subst AreWholeItems s.value fits.0
