-- Conditions of a plain text are read.
use Rattle.std.proofs.Common.{◌≡◌, ◌≤◌, ◌<◌, ◌+◌, ◌^◌, ℕ, List, [], ◌∷◌, ◌++◌, length, max, true, false, nat_eq, nat_lt, Some, slice_get, refl, sym, ap, ◌∙◌, arith}
use Rattle.std.proofs.lemmas.Option.{slice_get_within}
use Rattle.std.specs.Prelude.{codes}
use Rattle.kat_model.specs.declared.limits.TheConstants.{MAX_OPEN}
use Rattle.kat_model.specs.declared.expression.Rel.{Rel}
use Rattle.kat_model.specs.declared.expression.Rel.TheVariants.{Eq, Ne, Lt, Le, Gt, Ge}
use Rattle.kat_model.specs.declared.expression.Width.{Width}
use Rattle.text_parser.specs.declared.token.Kind.{Kind}
use Rattle.text_parser.specs.declared.token.Kind.TheVariants.{Name, Number, Symbol}
use Rattle.text_parser.specs.TokenParts.{token_parts}
use Rattle.text_parser.specs.Pieces.{Piece, lexeme, word, symbol, gap, spelled, EndsBefore}
use Rattle.text_print.specs.Printing.{relation_text}
use Rattle.text_print.proofs.Separate.{EndsWords, blank_ends, round_ends, open_alone, close_alone}
use Rattle.flow_model.specs.declared.sort.Sort.{Sort}
use Rattle.flow_model.specs.declared.sort.Sort.TheVariants.{Number as NumberSort}
use Rattle.flow_model.specs.Expressions.{ExprTree, number, variable, plus, minus, times, converted, applied, no_arguments, argument}
use Rattle.flow_model.specs.Conditions.{CondTree, always, never, compared, compared_signed, negation, both, either}
use Rattle.flow_syntax.specs.declared.rule.Mark.{Mark}
use Rattle.flow_syntax.specs.declared.rule.TheConstants.{NUMBER, WIDE_NUMBER, OPEN_ROUND, CLOSE_ROUND}
use Rattle.flow_syntax.specs.declared.rule.Part.TheVariants.{Token, Opening, Closing, Phrase}
use Rattle.flow_syntax.specs.declared.rule.Start.TheVariants.{Take, Group, Otherwise}
use Rattle.flow_syntax.specs.declared.phrase.TheConstants.{CONDITION, MORE_CONJUNCTIONS, CONJUNCTION, MORE_LITERALS, LITERAL, RELATION, CONTINUES, EXPRESSION}
use Rattle.flow_syntax.specs.declared.terminal.TheConstants.{NAME, COMMA, SEMICOLON, GOTO, PLUS, MINUS, STAR, AND, OR, EQ, NE, LT, LE, GT, GE}
use Rattle.flow_syntax.specs.Syntax as syntax
use Rattle.flow_syntax.specs.Syntax.{CondNodeSyntax, CondSyntax}
use Rattle.flow_syntax.specs.Actions.{token, expr, cond, linked}
use Rattle.flow_syntax.specs.Rules.{rule_parts, first_terminal, index_after_matching, chosen}
use Rattle.flow_syntax.specs.Productions.{rules, productions, listed_actions, act}
use Rattle.flow_plain.specs.PlainGraphs.{Declared, signed_text}
use Rattle.flow_plain.specs.PrintableGraphs.{Wanted, one_of, HasSorts, HasSides, expression_levels, condition_levels}
use Rattle.flow_plain.proofs.Steps.{marks_at, Reads, Follows, IsRule, IsWord, word_follows, gap_follows, gap_read, token_read, opening_read, closing_read, only_read, apply_read, apply_by, shift_read, open_read, group_read}
use Rattle.flow_plain.proofs.PlainRules as rule
use Rattle.flow_plain.proofs.PlainWords.{conversion_terminal, conversion_word, relation_number, relation_word, variable_word, function_word, number_word}
use Rattle.flow_plain.proofs.PlainPieces.{spaced_pieces, expr_pieces, expr_end, expr_syntax, cond_pieces, cond_end, cond_syntax}
use Rattle.flow_plain.proofs.ExprReads.{EndsSum, ends_factor, ends_sum, close_word, open_word, comma_word, close_ends, comma_ends, comma_stops, Parts, Values, Comparing, conversion_compares, modulus_small, apart_wants, few_open, expression_read, factor_reads}
use Rattle.flow_plain.proofs.Skipped.{Skips, IsFlat, relation_flat, spaced_matched, spaced_inside, plus_word, minus_word, star_word, and_word, or_word, bang_word, true_word, false_word, signed_number, signed_word, expr_skips, cond_skips}

-- ---- what may follow a literal, and a condition

pub data EndsLiteral : ℕ → Type 0 where
  by_close : EndsLiteral CLOSE_ROUND
  by_semicolon : EndsLiteral SEMICOLON
  by_goto : EndsLiteral GOTO
  by_and : EndsLiteral AND
  by_or : EndsLiteral OR

pub record EndsCond (x : ℕ) : Type 0 where
  pub literal : EndsLiteral x
  pub wide : nat_eq x WIDE_NUMBER ≡ false
  pub no_and : nat_eq x AND ≡ false
  pub no_or : nat_eq x OR ≡ false

pub semicolon_ends_cond : EndsCond SEMICOLON
semicolon_ends_cond = record { literal = by_semicolon; wide = refl; no_and = refl; no_or = refl }

pub goto_ends_cond : EndsCond GOTO
goto_ends_cond = record { literal = by_goto; wide = refl; no_and = refl; no_or = refl }

literal_not_wide : {x : ℕ} → EndsLiteral x → nat_eq x WIDE_NUMBER ≡ false
literal_not_wide by_close = refl
literal_not_wide by_semicolon = refl
literal_not_wide by_goto = refl
literal_not_wide by_and = refl
literal_not_wide by_or = refl

first_is : (x at : ℕ) (ps : List Piece) → nat_eq x WIDE_NUMBER ≡ false → Follows x at ps → first_terminal (marks_at at ps) ≡ x
first_is x at ps wide f = ap first_terminal f.are ∙ narrow where
  narrow : first_terminal (record { terminal = x; at = f.place } ∷ f.others) ≡ x
  narrow = rw wide refl

abbrev Choice : ℕ → List Mark → Type 0
Choice at ms = chosen rules LITERAL (record { terminal = OPEN_ROUND; at = at } ∷ ms) ≡ Some (43, rule_parts LITERAL (Group CONTINUES) (Phrase CONDITION ∷ Token CLOSE_ROUND ∷ Closing ∷ []))

-- a parenthesis that no operation follows is a condition
group_chosen : {x : ℕ} (at : ℕ) (ms : List Mark) → EndsLiteral x → first_terminal (index_after_matching 0 ms) ≡ x → Choice at ms
unfolding rules
group_chosen at ms by_close e = rw e refl
group_chosen at ms by_semicolon e = rw e refl
group_chosen at ms by_goto e = rw e refl
group_chosen at ms by_and e = rw e refl
group_chosen at ms by_or e = rw e refl

group_action : (vs : Values) → act (slice_get listed_actions 43) vs ≡ rule.by_enclosed_cond vs
unfolding productions listed_actions
group_action vs = refl

abbrev Compares : List Mark → Type 0
Compares ms = chosen rules LITERAL ms ≡ Some (48, rule_parts LITERAL Otherwise (Phrase EXPRESSION ∷ Phrase RELATION ∷ Phrase EXPRESSION ∷ []))

-- one before a relation is an expression
compare_chosen : (r : Rel) (at : ℕ) (ms : List Mark) → first_terminal (index_after_matching 0 ms) ≡ relation_number r → Compares (record { terminal = OPEN_ROUND; at = at } ∷ ms)
unfolding rules
compare_chosen Eq at ms e = rw e refl
compare_chosen Ne at ms e = rw e refl
compare_chosen Lt at ms e = rw e refl
compare_chosen Le at ms e = rw e refl
compare_chosen Gt at ms e = rw e refl
compare_chosen Ge at ms e = rw e refl

compare_action : (vs : Values) → act (slice_get listed_actions 48) vs ≡ rule.by_compare vs
unfolding productions listed_actions
compare_action vs = refl

compares_by : (kind : Kind) (bytes : List ℕ) (x at : ℕ) (ps : List Piece) → IsWord kind bytes x → Comparing x → Compares (marks_at at (lexeme kind bytes ∷ ps))
compares_by kind bytes x at ps w is =
    ap (λ (t : ℕ). chosen rules LITERAL (record { terminal = t; at = at } ∷ marks_at (at + length bytes) ps)) w.terminal ∙ is.chosen at (marks_at (at + length bytes) ps)

relation_ends : (r : Rel) → EndsSum (relation_number r)
relation_ends Eq = ends_sum EQ (ends_factor EQ refl refl) refl refl refl
relation_ends Ne = ends_sum NE (ends_factor NE refl refl) refl refl refl
relation_ends Lt = ends_sum LT (ends_factor LT refl refl) refl refl refl
relation_ends Le = ends_sum LE (ends_factor LE refl refl) refl refl refl
relation_ends Gt = ends_sum GT (ends_factor GT refl refl) refl refl refl
relation_ends Ge = ends_sum GE (ends_factor GE refl refl) refl refl refl

relation_read : {d at : ℕ} {parts : Parts} {ps : List Piece} {vs : Values} (r : Rel) → Reads d parts (at + length (relation_text r)) (gap 32 ∷ ps) vs → Reads d (Phrase RELATION ∷ parts) at (symbol (relation_text r) ∷ gap 32 ∷ ps) (token (token_parts Symbol at (relation_text r)) ∷ vs)
relation_read Eq h = shift_read rule.eq_rule (relation_word Eq) refl refl h
relation_read Ne h = shift_read rule.ne_rule (relation_word Ne) refl refl h
relation_read Lt h = shift_read rule.lt_rule (relation_word Lt) refl refl h
relation_read Le h = shift_read rule.le_rule (relation_word Le) refl refl h
relation_read Gt h = shift_read rule.gt_rule (relation_word Gt) refl refl h
relation_read Ge h = shift_read rule.ge_rule (relation_word Ge) refl refl h

-- ---- joined conditions

-- a condition has a node
record IsSome (b : CondSyntax) : Type 0 where
  node : CondNodeSyntax
  others : CondSyntax
  are : b ≡ node ∷ others

some_cond : (b : CondTree) (at : ℕ) → IsSome (cond_syntax b at)
some_cond always at = record { node = _; others = _; are = refl }
some_cond never at = record { node = _; others = _; are = refl }
some_cond (compared rel e f) at = record { node = _; others = _; are = refl }
some_cond (compared_signed rel w e f) at = record { node = _; others = _; are = refl }
some_cond (negation b) at = record { node = _; others = _; are = refl }
some_cond (both b c) at = record { node = _; others = _; are = refl }
some_cond (either b c) at = record { node = _; others = _; are = refl }

linked_some : (node : CondNodeSyntax) (x : CondSyntax) (c : CondTree) (at : ℕ) (us : Values) → cond (linked node x (cond_syntax c at)) ∷ us ≡ cond (node ∷ (x ++ cond_syntax c at)) ∷ us
linked_some node x c at us =
    let some = some_cond c at in
    ap (λ (l : CondSyntax). cond (linked node x l) ∷ us) some.are ∙ sym (ap (λ (l : CondSyntax). cond (node ∷ (x ++ l)) ∷ us) some.are)

-- the condition is read as a literal
abbrev pub LiteralReads : CondTree → Type 0
LiteralReads b =
    (d at x : ℕ) (rest : Parts) (ps : List Piece) (vs : Values) → d + condition_levels b ≤ MAX_OPEN → EndsLiteral x → Follows x (cond_end b at) ps → EndsWords ps → Reads d rest (cond_end b at) ps vs
    → Reads d (Phrase LITERAL ∷ rest) at (cond_pieces b ps) (cond (cond_syntax b at) ∷ vs)

pub condition_read : (b : CondTree) → LiteralReads b → (d at x : ℕ) (rest : Parts) (ps : List Piece) (vs : Values) → d + condition_levels b ≤ MAX_OPEN → EndsCond x → Follows x (cond_end b at) ps → EndsWords ps → Reads d rest (cond_end b at) ps vs
    → Reads d (Phrase CONDITION ∷ rest) at (cond_pieces b ps) (cond (cond_syntax b at) ∷ vs)
condition_read b reads d at x rest ps vs levels ends follows stops r =
    only_read rule.condition_rule refl
    (only_read rule.conjunction_rule refl
    (reads d at x (Phrase MORE_LITERALS ∷ Phrase MORE_CONJUNCTIONS ∷ rest) ps (cond [] ∷ cond [] ∷ vs) levels ends.literal follows stops
    (apply_read (rule.no_and_rule x ends.wide ends.no_and) follows refl (apply_read (rule.no_or_rule x ends.wide ends.no_or) follows refl r))))

-- a condition in parentheses
enclosed_read : (pieces : List Piece → List Piece) (end : ℕ) (b : CondSyntax) (d at x : ℕ) (rest : Parts) (ps : List Piece) (vs : Values) → nat_lt d MAX_OPEN ≡ true → EndsLiteral x → Follows x (end + 1) ps → index_after_matching 0 (marks_at (at + 1) (pieces (symbol (codes ")") ∷ ps))) ≡ marks_at (end + 1) ps
    → Reads d rest (end + 1) ps vs
    → (Reads (d + 1) (Token CLOSE_ROUND ∷ Closing ∷ rest) end (symbol (codes ")") ∷ ps) (token (token_parts Symbol end (codes ")")) ∷ vs) → Reads (d + 1) (Phrase CONDITION ∷ Token CLOSE_ROUND ∷ Closing ∷ rest) (at + 1) (pieces (symbol (codes ")") ∷ ps)) (cond b ∷ token (token_parts Symbol end (codes ")")) ∷ vs))
    → Reads d (Phrase LITERAL ∷ rest) at (symbol (codes "(") ∷ pieces (symbol (codes ")") ∷ ps)) (cond b ∷ vs)
enclosed_read pieces end b d at x rest ps vs few ends follows matched r inner =
    let after = ap first_terminal matched ∙ first_is x (end + 1) ps (literal_not_wide ends) follows in
    group_read few (group_chosen at (marks_at (at + 1) (pieces (symbol (codes ")") ∷ ps))) ends after) group_action open_word (open_alone (spelled (pieces (symbol (codes ")") ∷ ps)))) refl
    (inner (token_read close_word (close_alone (spelled ps)) (closing_read r)))

-- ---- literals

no_follower : (b : CondTree) (ps : List Piece) → EndsBefore Symbol (codes "!") (spelled (cond_pieces b ps))
no_follower always ps = refl
no_follower never ps = refl
no_follower (compared rel e f) ps = refl
no_follower (compared_signed Eq w e f) ps = refl
no_follower (compared_signed Ne w e f) ps = refl
no_follower (compared_signed Lt w e f) ps = refl
no_follower (compared_signed Le w e f) ps = refl
no_follower (compared_signed Gt w e f) ps = refl
no_follower (compared_signed Ge w e f) ps = refl
no_follower (negation b) ps = refl
no_follower (both b c) ps = refl
no_follower (either b c) ps = refl

negation_read : (b : CondTree) → LiteralReads b → LiteralReads (negation b)
negation_read b inner d at x rest ps vs levels ends follows stops r =
    open_read (few_open d (condition_levels b) levels) rule.bang_rule bang_word (no_follower b ps) refl
    (inner (d + 1) (at + 1) x (Closing ∷ rest) ps vs (omega (arith, levels)) ends follows stops (closing_read r))

both_read : (b c : CondTree) → LiteralReads b → LiteralReads c → Skips (cond_pieces b) (cond_end b) → Skips (cond_pieces c) (cond_end c) → LiteralReads (both b c)
both_read b c left right skip_left skip_right d at x rest ps vs levels ends follows stops r =
    let a = cond_end b (at + 1) in
    let next = a + 1 + 2 + 1 in
    let last = cond_end c next in
    let closing = symbol (codes ")") ∷ ps in
    let us : Values = token (token_parts Symbol last (codes ")")) ∷ vs in
    let after = gap 32 ∷ symbol (codes "&&") ∷ gap 32 ∷ cond_pieces c closing in
    enclosed_read (spaced_inside (codes "&&") (cond_pieces b) (cond_pieces c)) last (cond_syntax (both b c) at) d at x rest ps vs (few_open d (max (condition_levels b) (condition_levels c)) levels) ends follows
    (spaced_matched (codes "&&") AND and_word (refl, refl) (cond_pieces b) (cond_pieces c) (cond_end b) (cond_end c) skip_left skip_right (at + 1) ps) r
    (λ h.
    let none : Reads (d + 1) (Phrase MORE_CONJUNCTIONS ∷ Token CLOSE_ROUND ∷ Closing ∷ rest) last closing (cond [] ∷ us) = apply_read (rule.no_or_rule CLOSE_ROUND refl refl) (word_follows close_word) refl h in
    let ended : Reads (d + 1) (Phrase MORE_LITERALS ∷ Phrase MORE_CONJUNCTIONS ∷ Token CLOSE_ROUND ∷ Closing ∷ rest) last closing (cond [] ∷ cond [] ∷ us) = apply_read (rule.no_and_rule CLOSE_ROUND refl refl) (word_follows close_word) refl none in
    let second = right (d + 1) next CLOSE_ROUND (Phrase MORE_LITERALS ∷ Phrase MORE_CONJUNCTIONS ∷ Token CLOSE_ROUND ∷ Closing ∷ rest) closing (cond [] ∷ cond [] ∷ us) (omega (arith, levels)) by_close (word_follows close_word) (round_ends ps) ended in
    let more : Reads (d + 1) (Phrase MORE_LITERALS ∷ Phrase MORE_CONJUNCTIONS ∷ Token CLOSE_ROUND ∷ Closing ∷ rest) a after (cond (cond_syntax c next) ∷ cond [] ∷ us) = gap_read refl (shift_read rule.and_rule and_word refl refl (gap_read refl second)) in
    let first = left (d + 1) (at + 1) AND (Phrase MORE_LITERALS ∷ Phrase MORE_CONJUNCTIONS ∷ Token CLOSE_ROUND ∷ Closing ∷ rest) after (cond (cond_syntax c next) ∷ cond [] ∷ us) (omega (arith, levels)) by_and (gap_follows (word_follows and_word)) (blank_ends _) more in
    only_read rule.condition_rule refl (only_read rule.conjunction_rule (linked_some syntax.both (cond_syntax b (at + 1)) c next (cond [] ∷ us)) first))

either_read : (b c : CondTree) → LiteralReads b → LiteralReads c → Skips (cond_pieces b) (cond_end b) → Skips (cond_pieces c) (cond_end c) → LiteralReads (either b c)
either_read b c left right skip_left skip_right d at x rest ps vs levels ends follows stops r =
    let a = cond_end b (at + 1) in
    let next = a + 1 + 2 + 1 in
    let last = cond_end c next in
    let closing = symbol (codes ")") ∷ ps in
    let us : Values = token (token_parts Symbol last (codes ")")) ∷ vs in
    let after = gap 32 ∷ symbol (codes "||") ∷ gap 32 ∷ cond_pieces c closing in
    enclosed_read (spaced_inside (codes "||") (cond_pieces b) (cond_pieces c)) last (cond_syntax (either b c) at) d at x rest ps vs (few_open d (max (condition_levels b) (condition_levels c)) levels) ends follows
    (spaced_matched (codes "||") OR or_word (refl, refl) (cond_pieces b) (cond_pieces c) (cond_end b) (cond_end c) skip_left skip_right (at + 1) ps) r
    (λ h.
    let none : Reads (d + 1) (Phrase MORE_CONJUNCTIONS ∷ Token CLOSE_ROUND ∷ Closing ∷ rest) last closing (cond [] ∷ us) = apply_read (rule.no_or_rule CLOSE_ROUND refl refl) (word_follows close_word) refl h in
    let ended : Reads (d + 1) (Phrase MORE_LITERALS ∷ Phrase MORE_CONJUNCTIONS ∷ Token CLOSE_ROUND ∷ Closing ∷ rest) last closing (cond [] ∷ cond [] ∷ us) = apply_read (rule.no_and_rule CLOSE_ROUND refl refl) (word_follows close_word) refl none in
    let second = right (d + 1) next CLOSE_ROUND (Phrase MORE_LITERALS ∷ Phrase MORE_CONJUNCTIONS ∷ Token CLOSE_ROUND ∷ Closing ∷ rest) closing (cond [] ∷ cond [] ∷ us) (omega (arith, levels)) by_close (word_follows close_word) (round_ends ps) ended in
    let conjoined : Reads (d + 1) (Phrase CONJUNCTION ∷ Phrase MORE_CONJUNCTIONS ∷ Token CLOSE_ROUND ∷ Closing ∷ rest) next (cond_pieces c closing) (cond (cond_syntax c next) ∷ cond [] ∷ us) = only_read rule.conjunction_rule refl second in
    let more : Reads (d + 1) (Phrase MORE_CONJUNCTIONS ∷ Token CLOSE_ROUND ∷ Closing ∷ rest) a after (cond (cond_syntax c next) ∷ us) = gap_read refl (shift_read rule.or_rule or_word refl refl (gap_read refl conjoined)) in
    let stopped : Reads (d + 1) (Phrase MORE_LITERALS ∷ Phrase MORE_CONJUNCTIONS ∷ Token CLOSE_ROUND ∷ Closing ∷ rest) a after (cond [] ∷ cond (cond_syntax c next) ∷ us) = apply_read (rule.no_and_rule OR refl refl) (gap_follows (word_follows or_word)) refl more in
    let first = left (d + 1) (at + 1) OR (Phrase MORE_LITERALS ∷ Phrase MORE_CONJUNCTIONS ∷ Token CLOSE_ROUND ∷ Closing ∷ rest) after (cond [] ∷ cond (cond_syntax c next) ∷ us) (omega (arith, levels)) by_or (gap_follows (word_follows or_word)) (blank_ends _) stopped in
    only_read rule.condition_rule (linked_some syntax.either (cond_syntax b (at + 1)) c next us) (only_read rule.conjunction_rule refl first))

abbrev signed_rule_number : Rel → ℕ
signed_rule_number Eq = 0
signed_rule_number Ne = 0
signed_rule_number Lt = 44
signed_rule_number Le = 45
signed_rule_number Gt = 46
signed_rule_number Ge = 47

signed_rule : (r : Rel) → (r ≡ Eq → ⊥) → (r ≡ Ne → ⊥) → IsRule LITERAL (signed_number r) (signed_rule_number r) (Take (signed_number r)) (Opening OPEN_ROUND ∷ Phrase EXPRESSION ∷ Token COMMA ∷ Phrase EXPRESSION ∷ Token CLOSE_ROUND ∷ Closing ∷ []) rule.by_compare_signed
signed_rule Eq a b = absurd (a refl)
signed_rule Ne a b = absurd (b refl)
signed_rule Lt a b = rule.slt_rule
signed_rule Le a b = rule.sle_rule
signed_rule Gt a b = rule.sgt_rule
signed_rule Ge a b = rule.sge_rule

module _ (d : Declared) (sorts : List Sort) (few : length sorts ≤ 2 ^ 64) (small : length d.functions ≤ 2 ^ 64) where
  by_operation : (between : List ℕ) (k : ℕ) → IsWord Symbol between k → IsFlat k → (e f : ExprTree) (v w : Wanted) (r : Rel) (at : ℕ) (ps : List Piece) → HasSorts d sorts v e → HasSorts d sorts w f → Compares (marks_at at (spaced_pieces between (expr_pieces e) (expr_pieces f) (gap 32 ∷ symbol (relation_text r) ∷ ps)))
  by_operation between k word flat e f v w r at ps left right =
      let qs = gap 32 ∷ symbol (relation_text r) ∷ ps in
      let matched = spaced_matched between k word flat (expr_pieces e) (expr_pieces f) (expr_end e) (expr_end f) (expr_skips d sorts few small e v left) (expr_skips d sorts few small f w right) (at + 1) qs in
      compare_chosen r at (marks_at (at + 1) (spaced_inside between (expr_pieces e) (expr_pieces f) (symbol (codes ")") ∷ qs)))
      (ap first_terminal matched ∙ first_is (relation_number r) (expr_end f (expr_end e (at + 1) + 1 + length between + 1) + 1) qs (relation_ends r).factor.wide (gap_follows (word_follows (relation_word r))))

  -- an expression before a relation begins a comparison
  compares : (e : ExprTree) (s : Sort) (r : Rel) (at : ℕ) (ps : List Piece) → HasSorts d sorts (one_of s) e → Compares (marks_at at (expr_pieces e (gap 32 ∷ symbol (relation_text r) ∷ ps)))
  compares (number v n) s r at ps h =
      let low : n < 2 ^ 64 = omega (arith, h.1, modulus_small v) in compares_by Number _ NUMBER at (gap 32 ∷ symbol (relation_text r) ∷ ps) (number_word n low) rule.compare_number_rule
  compares (variable k) s r at ps h = compares_by Name _ NAME at (gap 32 ∷ symbol (relation_text r) ∷ ps) (variable_word k (omega (arith, slice_get_within sorts k h.0 h.2, few))) rule.compare_name_rule
  compares (plus v e f) s r at ps h = by_operation (codes "+") PLUS plus_word (refl, refl) e f (one_of s) (one_of s) r at ps h.1 h.2
  compares (minus v e f) s r at ps h = by_operation (codes "-") MINUS minus_word (refl, refl) e f (one_of s) (one_of s) r at ps h.1 h.2
  compares (times v e f) s r at ps h = by_operation (codes "*") STAR star_word (refl, refl) e f (one_of s) (one_of s) r at ps h.1 h.2
  compares (converted signed from to e) s r at ps h = compares_by Name _ (conversion_terminal signed to) at (symbol (codes "(") ∷ expr_pieces e (symbol (codes ")") ∷ gap 32 ∷ symbol (relation_text r) ∷ ps)) (conversion_word signed to) (conversion_compares signed to)
  compares (applied f result args) s r at ps h = compares_by Name _ NAME at (symbol (codes "(") ∷ expr_pieces args (symbol (codes ")") ∷ gap 32 ∷ symbol (relation_text r) ∷ ps)) (function_word f (omega (arith, slice_get_within d.functions f _ h.2, small))) rule.compare_name_rule
  compares no_arguments s r at ps h = apart_wants s [] h
  compares (argument e rest) s r at ps h = apart_wants s (h.0 ∷ h.1) h.2

  compare_read : (e f : ExprTree) (s : Sort) (r : Rel) → HasSorts d sorts (one_of s) e → HasSorts d sorts (one_of s) f → (o at x : ℕ) (rest : Parts) (ps : List Piece) (vs : Values) → o + max (expression_levels e) (expression_levels f) ≤ MAX_OPEN → Reads o rest (expr_end f (expr_end e at + 1 + length (relation_text r) + 1)) (symbol (codes ")") ∷ ps) vs
      → Reads o (Phrase LITERAL ∷ rest) at (expr_pieces e (gap 32 ∷ symbol (relation_text r) ∷ gap 32 ∷ expr_pieces f (symbol (codes ")") ∷ ps)))
      (cond (syntax.compared (token_parts Symbol (expr_end e at + 1) (relation_text r)) (expr_syntax e at) (expr_syntax f (expr_end e at + 1 + length (relation_text r) + 1)) ∷ []) ∷ vs)
  compare_read e f s r left right o at x rest ps vs levels h =
      let a = expr_end e at in
      let next = a + 1 + length (relation_text r) + 1 in
      let closing = symbol (codes ")") ∷ ps in
      let second = expression_read f (factor_reads d sorts few small f s right) o next CLOSE_ROUND rest closing vs (omega (arith, levels)) close_ends (word_follows close_word) (round_ends ps) h in
      let related : Reads o (Phrase RELATION ∷ Phrase EXPRESSION ∷ rest) a (gap 32 ∷ symbol (relation_text r) ∷ gap 32 ∷ expr_pieces f closing) (token (token_parts Symbol (a + 1) (relation_text r)) ∷ expr (expr_syntax f next) ∷ vs) = gap_read refl (relation_read r (gap_read refl second)) in
      let first = expression_read e (factor_reads d sorts few small e s left) o at (relation_number r) (Phrase RELATION ∷ Phrase EXPRESSION ∷ rest) (gap 32 ∷ symbol (relation_text r) ∷ gap 32 ∷ expr_pieces f closing) (token (token_parts Symbol (a + 1) (relation_text r)) ∷ expr (expr_syntax f next) ∷ vs) (omega (arith, levels)) (relation_ends r) (gap_follows (word_follows (relation_word r))) (blank_ends _) related in
      apply_by LITERAL 48 (Phrase EXPRESSION ∷ Phrase RELATION ∷ Phrase EXPRESSION ∷ []) rule.by_compare (compares e s r at (gap 32 ∷ expr_pieces f closing) left) compare_action refl first

  compared_read : (e f : ExprTree) (s : Sort) (r : Rel) → HasSorts d sorts (one_of s) e → HasSorts d sorts (one_of s) f → LiteralReads (compared r e f)
  compared_read e f s r left right o at x rest ps vs levels ends follows stops h =
      let end = expr_end f (expr_end e (at + 1) + 1 + length (relation_text r) + 1) in
      let us : Values = token (token_parts Symbol end (codes ")")) ∷ vs in
      enclosed_read (spaced_inside (relation_text r) (expr_pieces e) (expr_pieces f)) end (cond_syntax (compared r e f) at) o at x rest ps vs (few_open o (max (expression_levels e) (expression_levels f)) levels) ends follows
      (spaced_matched (relation_text r) (relation_number r) (relation_word r) (relation_flat r) (expr_pieces e) (expr_pieces f) (expr_end e) (expr_end f) (expr_skips d sorts few small e (one_of s) left) (expr_skips d sorts few small f (one_of s) right) (at + 1) ps) h
      (λ g.
      only_read rule.condition_rule refl
      (only_read rule.conjunction_rule refl
      (compare_read e f s r left right (o + 1) (at + 1) x (Phrase MORE_LITERALS ∷ Phrase MORE_CONJUNCTIONS ∷ Token CLOSE_ROUND ∷ Closing ∷ rest) ps (cond [] ∷ cond [] ∷ us) (omega (arith, levels))
      (apply_read (rule.no_and_rule CLOSE_ROUND refl refl) (word_follows close_word) refl (apply_read (rule.no_or_rule CLOSE_ROUND refl refl) (word_follows close_word) refl g)))))

  signed_read : (e f : ExprTree) (w : Width) (r : Rel) → (r ≡ Eq → ⊥) → (r ≡ Ne → ⊥) → HasSorts d sorts (one_of (NumberSort w)) e → HasSorts d sorts (one_of (NumberSort w)) f → LiteralReads (compared_signed r w e f)
  signed_read e f w r no_eq no_ne left right o at x rest ps vs levels ends follows stops h =
      let begin = at + length (signed_text r) + 1 in
      let a = expr_end e begin in
      let next = a + 1 + 1 in
      let end = expr_end f next in
      let closing = symbol (codes ")") ∷ ps in
      let us : Values = token (token_parts Symbol end (codes ")")) ∷ vs in
      let closed : Reads (o + 1) (Token CLOSE_ROUND ∷ Closing ∷ rest) end closing us = token_read close_word (close_alone (spelled ps)) (closing_read h) in
      let second = expression_read f (factor_reads d sorts few small f (NumberSort w) right) (o + 1) next CLOSE_ROUND (Token CLOSE_ROUND ∷ Closing ∷ rest) closing us (omega (arith, levels)) close_ends (word_follows close_word) (round_ends ps) closed in
      let after = symbol (codes ",") ∷ gap 32 ∷ expr_pieces f closing in
      let comma : Reads (o + 1) (Token COMMA ∷ Phrase EXPRESSION ∷ Token CLOSE_ROUND ∷ Closing ∷ rest) a after (token (token_parts Symbol a (codes ",")) ∷ expr (expr_syntax f next) ∷ us) = token_read comma_word refl (gap_read refl second) in
      let first = expression_read e (factor_reads d sorts few small e (NumberSort w) left) (o + 1) begin COMMA (Token COMMA ∷ Phrase EXPRESSION ∷ Token CLOSE_ROUND ∷ Closing ∷ rest) after (token (token_parts Symbol a (codes ",")) ∷ expr (expr_syntax f next) ∷ us) (omega (arith, levels)) comma_ends (word_follows comma_word) (comma_stops _) comma in
      shift_read (signed_rule r no_eq no_ne) (signed_word r no_eq no_ne) refl refl (opening_read (few_open o (max (expression_levels e) (expression_levels f)) levels) open_word (open_alone _) first)

  pub literal_reads : (b : CondTree) → HasSides d sorts b → LiteralReads b
  literal_reads always h = λ o at x rest ps vs levels ends follows stops r. shift_read rule.true_rule true_word (stops.name (codes "true")) refl r
  literal_reads never h = λ o at x rest ps vs levels ends follows stops r. shift_read rule.false_rule false_word (stops.name (codes "false")) refl r
  literal_reads (compared rel e f) h = compared_read e f h.0 rel h.1.1 h.1.2
  literal_reads (compared_signed rel w e f) h = signed_read e f w rel h.1 h.2 h.0.1 h.0.2
  literal_reads (negation b) h = negation_read b (literal_reads b h)
  literal_reads (both b c) h = both_read b c (literal_reads b h.0) (literal_reads c h.1) (cond_skips d sorts few small b h.0) (cond_skips d sorts few small c h.1)
  literal_reads (either b c) h = either_read b c (literal_reads b h.0) (literal_reads c h.1) (cond_skips d sorts few small b h.0) (cond_skips d sorts few small c h.1)
