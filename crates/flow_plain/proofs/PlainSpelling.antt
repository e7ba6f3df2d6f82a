-- The pieces of a plain text spell it.
use Rattle.std.proofs.Common.{◌≡◌, ◌+◌, ℕ, zero, suc, List, [], ◌∷◌, ◌++◌, map, Bool, true, false, Option, Some, None, refl, sym, ap, ◌∙◌, append_assoc}
use Rattle.std.specs.Prelude.{codes, flat_map}
use Rattle.std.specs.Fmt.{decimal}
use Rattle.kat_model.specs.declared.expression.Rel.{Rel}
use Rattle.text_parser.specs.Pieces.{Piece, word, numeral, symbol, gap, spelled}
use Rattle.text_print.specs.Printing.{relation_text}
use Rattle.flow_model.specs.declared.sort.Sort.{Sort}
use Rattle.flow_model.specs.declared.sort.Sort.TheVariants.{Opaque}
use Rattle.flow_model.specs.Expressions.{ExprTree, number, variable, plus, minus, times, converted, applied, no_arguments, argument}
use Rattle.flow_model.specs.Conditions.{CondTree, always, never, compared, compared_signed, negation, both, either}
use Rattle.flow_model.specs.Graphs.{StatementTree, assign, claim, JumpTree, goto, branch, return, abort, Block, Graph, Pair}
use Rattle.flow_text.specs.Scopes.{FunctionParts, function_parts}
use Rattle.flow_plain.specs.PlainGraphs.{Declared, sort_text, conversion_text, variable_name, function_name, block_name, more_listed, listed, comma_before, expression_text, signed_text, condition_text, statement_text, jump_text, cut_text, block_text, blocks_text, graph_text, function_text, sorts_text, functions_text, variables_text, rounds_text, split_text, graphs_text}
use Rattle.flow_plain.specs.PrintableGraphs.{IsPlainStatement, AreStatements, AreBlocks, ArePlainGraphs}
use Rattle.flow_plain.proofs.PlainPieces.{comma_pieces, spaced_pieces, expr_pieces, cond_pieces, more_names, more_exprs, statement_pieces, statements_pieces, jump_pieces, cut_pieces, block_pieces, blocks_pieces, graph_pieces, sorts_pieces, parameters_pieces, function_pieces, functions_pieces, variables_pieces, goal_pieces, split_pieces, rounds_pieces, ending_pieces, asked_pieces, graphs_pieces}

-- the pieces spell the text before what follows
record Spells (pieces : List Piece → List Piece) (text : List ℕ) : Type 0 where
  spell : (ps : List Piece) → spelled (pieces ps) ≡ text ++ spelled ps

fixed : (pieces : List Piece → List Piece) (text : List ℕ) → ((ps : List Piece) → spelled (pieces ps) ≡ text ++ spelled ps) → Spells pieces text
fixed pieces text h = record { spell = h }

joined : (f g : List Piece → List Piece) (a b : List ℕ) → Spells f a → Spells g b → Spells (λ ps. f (g ps)) (a ++ b)
joined f g a b x y = record { spell = λ ps. x.spell (g ps) ∙ ap (λ (l : List ℕ). a ++ l) (y.spell ps) ∙ sym (append_assoc a b (spelled ps)) }

empty_spells : Spells (λ ps. ps) []
empty_spells = record { spell = λ ps. refl }

word_spells : (bytes : List ℕ) → Spells (λ ps. word bytes ∷ ps) bytes
word_spells bytes = record { spell = λ ps. refl }

-- two texts, three texts, ..
module _ (f g h : List Piece → List Piece) (a b c : List ℕ) (x : Spells f a) (y : Spells g b) (z : Spells h c) where
  three : Spells (λ ps. f (g (h ps))) (a ++ b ++ c)
  three = joined (λ ps. f (g ps)) h (a ++ b) c (joined f g a b x y) z

module _ (f g h i : List Piece → List Piece) (a b c e : List ℕ) (x : Spells f a) (y : Spells g b) (z : Spells h c) (w : Spells i e) where
  four : Spells (λ ps. f (g (h (i ps)))) (a ++ b ++ c ++ e)
  four = joined (λ ps. f (g (h ps))) i (a ++ b ++ c) e (three f g h a b c x y z) w

module _ (f g h i j : List Piece → List Piece) (a b c e k : List ℕ) (x : Spells f a) (y : Spells g b) (z : Spells h c) (w : Spells i e) (v : Spells j k) where
  five : Spells (λ ps. f (g (h (i (j ps))))) (a ++ b ++ c ++ e ++ k)
  five = joined (λ ps. f (g (h (i ps)))) j (a ++ b ++ c ++ e) k (four f g h i a b c e x y z w) v

-- ---- fixed texts

abbrev opening : List Piece → List Piece
opening ps = symbol (codes "(") ∷ ps

abbrev closing : List Piece → List Piece
closing ps = symbol (codes ")") ∷ ps

abbrev comma : List Piece → List Piece
comma ps = symbol (codes ",") ∷ gap 32 ∷ ps

abbrev ending : List Piece → List Piece
ending ps = symbol (codes ";") ∷ gap 32 ∷ ps

opening_spells : Spells opening (codes "(")
opening_spells = record { spell = λ ps. refl }

closing_spells : Spells closing (codes ")")
closing_spells = record { spell = λ ps. refl }

comma_spells : Spells comma (codes ", ")
comma_spells = record { spell = λ ps. refl }

ending_spells : Spells ending (codes "; ")
ending_spells = record { spell = λ ps. refl }

-- ---- expressions

comma_before_spells : (e : ExprTree) → Spells (comma_pieces e) (comma_before e)
comma_before_spells no_arguments = empty_spells
comma_before_spells (argument e rest) = comma_spells
comma_before_spells (number w n) = comma_spells
comma_before_spells (variable k) = comma_spells
comma_before_spells (plus w e f) = comma_spells
comma_before_spells (minus w e f) = comma_spells
comma_before_spells (times w e f) = comma_spells
comma_before_spells (converted signed from to e) = comma_spells
comma_before_spells (applied f result args) = comma_spells

spaced_spells : (between text : List ℕ) (f g : List Piece → List Piece) (a b : List ℕ) → ((ps : List Piece) → spelled (gap 32 ∷ symbol between ∷ gap 32 ∷ ps) ≡ text ++ spelled ps) → Spells f a → Spells g b → Spells (spaced_pieces between f g) (codes "(" ++ a ++ text ++ b ++ codes ")")
spaced_spells between text f g a b middle x y = five opening f (λ ps. gap 32 ∷ symbol between ∷ gap 32 ∷ ps) g closing (codes "(") a text b (codes ")") opening_spells x (record { spell = middle }) y closing_spells

enclosed_spells : (bytes : List ℕ) (f : List Piece → List Piece) (a : List ℕ) → Spells f a → Spells (λ ps. word bytes ∷ symbol (codes "(") ∷ f (symbol (codes ")") ∷ ps)) (bytes ++ codes "(" ++ a ++ codes ")")
enclosed_spells bytes f a x = four (λ ps. word bytes ∷ ps) opening f closing bytes (codes "(") a (codes ")") (word_spells bytes) opening_spells x closing_spells

expr_spells : (e : ExprTree) → Spells (expr_pieces e) (expression_text e)
expr_spells (number w n) = record { spell = λ ps. refl }
expr_spells (variable k) = record { spell = λ ps. refl }
expr_spells (plus w e f) = spaced_spells (codes "+") (codes " + ") (expr_pieces e) (expr_pieces f) (expression_text e) (expression_text f) (λ ps. refl) (expr_spells e) (expr_spells f)
expr_spells (minus w e f) = spaced_spells (codes "-") (codes " - ") (expr_pieces e) (expr_pieces f) (expression_text e) (expression_text f) (λ ps. refl) (expr_spells e) (expr_spells f)
expr_spells (times w e f) = spaced_spells (codes "*") (codes " * ") (expr_pieces e) (expr_pieces f) (expression_text e) (expression_text f) (λ ps. refl) (expr_spells e) (expr_spells f)
expr_spells (converted signed from to e) = enclosed_spells (conversion_text signed to) (expr_pieces e) (expression_text e) (expr_spells e)
expr_spells (applied f result args) = enclosed_spells (function_name f) (expr_pieces args) (expression_text args) (expr_spells args)
expr_spells no_arguments = empty_spells
expr_spells (argument e rest) = three (expr_pieces e) (comma_pieces rest) (expr_pieces rest) (expression_text e) (comma_before rest) (expression_text rest) (expr_spells e) (comma_before_spells rest) (expr_spells rest)

more_exprs_spell : (es : List ExprTree) → Spells (more_exprs es) (more_listed (map expression_text es))
more_exprs_spell [] = empty_spells
more_exprs_spell (e ∷ es) = three comma (expr_pieces e) (more_exprs es) (codes ", ") (expression_text e) (more_listed (map expression_text es)) comma_spells (expr_spells e) (more_exprs_spell es)

more_names_spell : (xs : List (List ℕ)) → Spells (more_names xs) (more_listed xs)
more_names_spell [] = empty_spells
more_names_spell (x ∷ xs) = three comma (λ ps. word x ∷ ps) (more_names xs) (codes ", ") x (more_listed xs) comma_spells (word_spells x) (more_names_spell xs)

exprs_spell : (e : ExprTree) (es : List ExprTree) → Spells (λ ps. expr_pieces e (more_exprs es ps)) (listed (map expression_text (e ∷ es)))
exprs_spell e es = joined (expr_pieces e) (more_exprs es) (expression_text e) (more_listed (map expression_text es)) (expr_spells e) (more_exprs_spell es)

-- ---- conditions

relation_middle : (r : Rel) (ps : List Piece) → spelled (gap 32 ∷ symbol (relation_text r) ∷ gap 32 ∷ ps) ≡ (codes " " ++ relation_text r ++ codes " ") ++ spelled ps
relation_middle r ps = ap (λ (l : List ℕ). 32 ∷ l) (sym (append_assoc (relation_text r) (codes " ") (spelled ps)))

relation_regrouped : (o x s r t y c : List ℕ) → o ++ x ++ (s ++ r ++ t) ++ y ++ c ≡ o ++ x ++ s ++ r ++ t ++ y ++ c
relation_regrouped o x s r t y c = simp append_assoc

retexted : (f : List Piece → List Piece) (a b : List ℕ) → a ≡ b → Spells f a → Spells f b
retexted f a b e x = record { spell = λ ps. x.spell ps ∙ ap (λ (l : List ℕ). l ++ spelled ps) e }

signed_regrouped : (w o x s y c : List ℕ) → w ++ o ++ (x ++ s ++ y) ++ c ≡ w ++ o ++ x ++ s ++ y ++ c
signed_regrouped w o x s y c = simp append_assoc

cond_spells : (b : CondTree) → Spells (cond_pieces b) (condition_text b)
cond_spells always = word_spells (codes "true")
cond_spells never = word_spells (codes "false")
cond_spells (compared rel e f) =
    retexted (cond_pieces (compared rel e f)) _ _ (relation_regrouped (codes "(") (expression_text e) (codes " ") (relation_text rel) (codes " ") (expression_text f) (codes ")"))
    (spaced_spells (relation_text rel) (codes " " ++ relation_text rel ++ codes " ") (expr_pieces e) (expr_pieces f) (expression_text e) (expression_text f) (relation_middle rel) (expr_spells e) (expr_spells f))
cond_spells (compared_signed rel w e f) =
    retexted (cond_pieces (compared_signed rel w e f)) _ _ (signed_regrouped (signed_text rel) (codes "(") (expression_text e) (codes ", ") (expression_text f) (codes ")"))
    (enclosed_spells (signed_text rel) (λ ps. expr_pieces e (comma (expr_pieces f ps))) (expression_text e ++ codes ", " ++ expression_text f) (three (expr_pieces e) comma (expr_pieces f) (expression_text e) (codes ", ") (expression_text f) (expr_spells e) comma_spells (expr_spells f)))
cond_spells (negation b) = joined (λ ps. symbol (codes "!") ∷ ps) (cond_pieces b) (codes "!") (condition_text b) (fixed _ _ (λ ps. refl)) (cond_spells b)
cond_spells (both b c) = spaced_spells (codes "&&") (codes " && ") (cond_pieces b) (cond_pieces c) (condition_text b) (condition_text c) (λ ps. refl) (cond_spells b) (cond_spells c)
cond_spells (either b c) = spaced_spells (codes "||") (codes " || ") (cond_pieces b) (cond_pieces c) (condition_text b) (condition_text c) (λ ps. refl) (cond_spells b) (cond_spells c)

-- ---- statements and jumps

targets_spell : (k : ℕ) (ks : List ℕ) → Spells (λ ps. word (variable_name k) ∷ more_names (map variable_name ks) ps) (listed (map variable_name (k ∷ ks)))
targets_spell k ks = joined (λ ps. word (variable_name k) ∷ ps) (more_names (map variable_name ks)) (variable_name k) (more_listed (map variable_name ks)) (word_spells (variable_name k)) (more_names_spell (map variable_name ks))

abbrev becoming : List Piece → List Piece
becoming ps = gap 32 ∷ symbol (codes ":=") ∷ gap 32 ∷ ps

module _ (d : Declared) (sorts : List Sort) where
  statement_spells : (x : StatementTree) → IsPlainStatement d sorts x → Spells (statement_pieces x) (statement_text x)
  statement_spells (assign [] es) h = absurd (h.0 refl)
  statement_spells (assign (k ∷ ks) []) h = absurd h.2
  statement_spells (assign (k ∷ ks) (e ∷ es)) h =
      four (λ ps. word (variable_name k) ∷ more_names (map variable_name ks) ps) becoming (λ ps. expr_pieces e (more_exprs es ps)) ending (listed (map variable_name (k ∷ ks))) (codes " := ") (listed (map expression_text (e ∷ es))) (codes "; ")
      (targets_spell k ks) (fixed becoming (codes " := ") (λ ps. refl)) (exprs_spell e es) ending_spells
  statement_spells (claim b) h =
      three (λ ps. word (codes "assert") ∷ gap 32 ∷ ps) (cond_pieces b) ending (codes "assert ") (condition_text b) (codes "; ") (fixed _ _ (λ ps. refl)) (cond_spells b) ending_spells

  statements_spell : (xs : List StatementTree) → AreStatements d sorts xs → Spells (statements_pieces xs) (flat_map statement_text xs)
  statements_spell [] h = empty_spells
  statements_spell (x ∷ xs) h = joined (statement_pieces x) (statements_pieces xs) (statement_text x) (flat_map statement_text xs) (statement_spells x h.0) (statements_spell xs h.1)

abbrev going : List Piece → List Piece
going ps = gap 32 ∷ word (codes "goto") ∷ gap 32 ∷ ps

abbrev otherwise : List Piece → List Piece
otherwise ps = gap 32 ∷ word (codes "else") ∷ gap 32 ∷ ps

branch_spells : (b : CondTree) (k l : ℕ) → Spells (jump_pieces (branch b k l)) ((codes "if " ++ condition_text b ++ codes " goto " ++ block_name k ++ codes " else ") ++ (block_name l ++ codes "; "))
branch_spells b k l =
    joined (λ ps. word (codes "if") ∷ gap 32 ∷ cond_pieces b (going (word (block_name k) ∷ otherwise ps))) (λ ps. word (block_name l) ∷ ending ps) (codes "if " ++ condition_text b ++ codes " goto " ++ block_name k ++ codes " else ") (block_name l ++ codes "; ")
    (five (λ ps. word (codes "if") ∷ gap 32 ∷ ps) (cond_pieces b) going (λ ps. word (block_name k) ∷ ps) otherwise (codes "if ") (condition_text b) (codes " goto ") (block_name k) (codes " else ") (fixed _ _ (λ ps. refl)) (cond_spells b) (fixed going (codes " goto ") (λ ps. refl)) (word_spells (block_name k)) (fixed otherwise (codes " else ") (λ ps. refl)))
    (joined (λ ps. word (block_name l) ∷ ps) ending (block_name l) (codes "; ") (word_spells (block_name l)) ending_spells)

jump_spells : (j : JumpTree) → Spells (jump_pieces j) (jump_text j)
jump_spells (goto k) = three (λ ps. word (codes "goto") ∷ gap 32 ∷ ps) (λ ps. word (block_name k) ∷ ps) ending (codes "goto ") (block_name k) (codes "; ") (fixed _ _ (λ ps. refl)) (word_spells (block_name k)) ending_spells
jump_spells (branch b k l) = retexted (jump_pieces (branch b k l)) _ _ (sym (append_assoc (codes "if " ++ condition_text b ++ codes " goto " ++ block_name k ++ codes " else ") (block_name l) (codes "; "))) (branch_spells b k l)
jump_spells (return []) = fixed _ _ (λ ps. refl)
jump_spells (return (e ∷ es)) = three (λ ps. word (codes "return") ∷ gap 32 ∷ ps) (λ ps. expr_pieces e (more_exprs es ps)) ending (codes "return ") (listed (map expression_text (e ∷ es))) (codes "; ") (fixed _ _ (λ ps. refl)) (exprs_spell e es) ending_spells
jump_spells abort = fixed _ _ (λ ps. refl)

-- ---- blocks and items

cut_spells : (cut : Bool) → Spells (cut_pieces cut) (cut_text cut)
cut_spells true = fixed _ _ (λ ps. refl)
cut_spells false = empty_spells

abbrev indented : List Piece → List Piece
indented ps = gap 32 ∷ gap 32 ∷ ps

abbrev block_begin : List Piece → List Piece
block_begin ps = word (codes "block") ∷ gap 32 ∷ ps

abbrev curly : List Piece → List Piece
curly ps = gap 32 ∷ symbol (codes "{") ∷ gap 32 ∷ ps

abbrev curly_line : List Piece → List Piece
curly_line ps = gap 32 ∷ symbol (codes "{") ∷ gap 10 ∷ ps

abbrev closed_line : List Piece → List Piece
closed_line ps = symbol (codes "}") ∷ gap 10 ∷ ps

abbrev end_line : List Piece → List Piece
end_line ps = symbol (codes ";") ∷ gap 10 ∷ ps

end_line_spells : Spells end_line (codes ";\n")
end_line_spells = fixed end_line (codes ";\n") (λ ps. refl)

module _ (d : Declared) (sorts : List Sort) where
  block_spells : (k : ℕ) (b : Block) → AreStatements d sorts b.statements → Spells (block_pieces k b) (block_text k b)
  block_spells k b h =
      let head = five indented (cut_pieces b.is_cut) block_begin (λ ps. word (block_name k) ∷ ps) curly (codes "  ") (cut_text b.is_cut) (codes "block ") (block_name k) (codes " { ") (fixed indented (codes "  ") (λ ps. refl)) (cut_spells b.is_cut) (fixed block_begin (codes "block ") (λ ps. refl)) (word_spells (block_name k)) (fixed curly (codes " { ") (λ ps. refl)) in
      four (λ ps. indented (cut_pieces b.is_cut (block_begin (word (block_name k) ∷ curly ps)))) (statements_pieces b.statements) (jump_pieces b.jump) closed_line (codes "  " ++ cut_text b.is_cut ++ codes "block " ++ block_name k ++ codes " { ") (flat_map statement_text b.statements) (jump_text b.jump) (codes "}\n")
      head (statements_spell d sorts b.statements h) (jump_spells b.jump) (fixed closed_line (codes "}\n") (λ ps. refl))

  blocks_spell : (k n : ℕ) (results : List Sort) (bs : Graph) → AreBlocks d sorts n results bs → Spells (blocks_pieces k bs) (blocks_text k bs)
  blocks_spell k n results [] h = empty_spells
  blocks_spell k n results (b ∷ bs) h = joined (block_pieces k b) (blocks_pieces (k + 1) bs) (block_text k b) (blocks_text (k + 1) bs) (block_spells k b h.0) (blocks_spell (k + 1) n results bs h.2)

  graph_spells : (name : List ℕ) (n : ℕ) (results : List Sort) (g : Graph) → AreBlocks d sorts n results g → Spells (graph_pieces name g) (graph_text name g)
  graph_spells name n results g h =
      five (λ ps. word (codes "graph") ∷ gap 32 ∷ ps) (λ ps. word name ∷ ps) curly_line (blocks_pieces 0 g) closed_line (codes "graph ") name (codes " {\n") (blocks_text 0 g) (codes "}\n")
      (fixed _ _ (λ ps. refl)) (word_spells name) (fixed curly_line (codes " {\n") (λ ps. refl)) (blocks_spell 0 n results g h) (fixed closed_line (codes "}\n") (λ ps. refl))

sorts_spell : (k n : ℕ) → Spells (sorts_pieces k n) (sorts_text k n)
sorts_spell k zero = empty_spells
sorts_spell k (suc n) =
    four (λ ps. word (codes "sort") ∷ gap 32 ∷ ps) (λ ps. word (sort_text (Opaque k)) ∷ ps) end_line (sorts_pieces (k + 1) n) (codes "sort ") (sort_text (Opaque k)) (codes ";\n") (sorts_text (k + 1) n)
    (fixed _ _ (λ ps. refl)) (word_spells (sort_text (Opaque k))) end_line_spells (sorts_spell (k + 1) n)

parameters_spell : (ss : List Sort) → Spells (parameters_pieces ss) (listed (map sort_text ss) ++ codes ")")
parameters_spell [] = closing_spells
parameters_spell (s ∷ ss) = three (λ ps. word (sort_text s) ∷ ps) (more_names (map sort_text ss)) closing (sort_text s) (more_listed (map sort_text ss)) (codes ")") (word_spells (sort_text s)) (more_names_spell (map sort_text ss)) closing_spells

function_regrouped : (a r s f o ps c e : List ℕ) → a ++ r ++ s ++ f ++ o ++ ((ps ++ c) ++ e) ≡ a ++ r ++ s ++ f ++ o ++ ps ++ (c ++ e)
function_regrouped a r s f o ps c e = simp append_assoc

function_spells : (k : ℕ) (f : FunctionParts) → Spells (function_pieces k f) (function_text k f)
function_spells k (function_parts result parameters) =
    retexted (function_pieces k (function_parts result parameters)) _ _ (function_regrouped (codes "fun ") (sort_text result) (codes " ") (function_name k) (codes "(") (listed (map sort_text parameters)) (codes ")") (codes ";\n"))
    (joined (λ ps. word (codes "fun") ∷ gap 32 ∷ word (sort_text result) ∷ gap 32 ∷ word (function_name k) ∷ opening ps) (λ ps. parameters_pieces parameters (end_line ps)) (codes "fun " ++ sort_text result ++ codes " " ++ function_name k ++ codes "(") ((listed (map sort_text parameters) ++ codes ")") ++ codes ";\n")
    (five (λ ps. word (codes "fun") ∷ gap 32 ∷ ps) (λ ps. word (sort_text result) ∷ ps) (λ ps. gap 32 ∷ ps) (λ ps. word (function_name k) ∷ ps) opening (codes "fun ") (sort_text result) (codes " ") (function_name k) (codes "(") (fixed _ _ (λ ps. refl)) (word_spells (sort_text result)) (fixed _ _ (λ ps. refl)) (word_spells (function_name k)) opening_spells)
    (joined (parameters_pieces parameters) end_line (listed (map sort_text parameters) ++ codes ")") (codes ";\n") (parameters_spell parameters) end_line_spells))

functions_spell : (k : ℕ) (fs : List FunctionParts) → Spells (functions_pieces k fs) (functions_text k fs)
functions_spell k [] = empty_spells
functions_spell k (f ∷ fs) = joined (function_pieces k f) (functions_pieces (k + 1) fs) (function_text k f) (functions_text (k + 1) fs) (function_spells k f) (functions_spell (k + 1) fs)

variables_spell : (k : ℕ) (ss : List Sort) → Spells (variables_pieces k ss) (variables_text k ss)
variables_spell k [] = empty_spells
variables_spell k (s ∷ ss) =
    joined (λ ps. word (codes "var") ∷ gap 32 ∷ word (sort_text s) ∷ gap 32 ∷ word (variable_name k) ∷ end_line ps) (variables_pieces (k + 1) ss) (codes "var " ++ sort_text s ++ codes " " ++ variable_name k ++ codes ";\n") (variables_text (k + 1) ss)
    (five (λ ps. word (codes "var") ∷ gap 32 ∷ ps) (λ ps. word (sort_text s) ∷ ps) (λ ps. gap 32 ∷ ps) (λ ps. word (variable_name k) ∷ ps) end_line (codes "var ") (sort_text s) (codes " ") (variable_name k) (codes ";\n") (fixed _ _ (λ ps. refl)) (word_spells (sort_text s)) (fixed _ _ (λ ps. refl)) (word_spells (variable_name k)) end_line_spells)
    (variables_spell (k + 1) ss)

rounds_spell : (o : Option ℕ) → Spells (rounds_pieces o) (rounds_text o)
rounds_spell None = empty_spells
rounds_spell (Some n) =
    three (λ ps. word (codes "rounds") ∷ gap 32 ∷ ps) (λ ps. numeral (decimal n) ∷ ps) end_line (codes "rounds ") (decimal n) (codes ";\n") (fixed _ _ (λ ps. refl)) (fixed _ _ (λ ps. refl)) end_line_spells

split_spells : (splits : Bool) → Spells (split_pieces splits) (split_text splits)
split_spells true = fixed _ _ (λ ps. refl)
split_spells false = empty_spells

asked_spells : (d : Declared) → spelled (ending_pieces d) ≡ rounds_text d.rounds ++ (split_text d.splits ++ codes "equal before, after;\n")
asked_spells d =
    (rounds_spell d.rounds).spell (split_pieces d.splits goal_pieces)
    ∙ ap (λ (l : List ℕ). rounds_text d.rounds ++ l) ((split_spells d.splits).spell goal_pieces)

graphs_regrouped : (a b c e f g h i : List ℕ) → a ++ (b ++ (c ++ (e ++ (f ++ (g ++ (h ++ i)))))) ≡ a ++ b ++ c ++ e ++ f ++ g ++ h ++ i
graphs_regrouped a b c e f g h i = simp append_assoc

-- the pieces spell the plain text
pub graphs_spell : (d : Declared) (p : Pair) → ArePlainGraphs d p → spelled (graphs_pieces d p) ≡ graphs_text d p
graphs_spell d p plain =
    let goal : List ℕ = codes "equal before, after;\n" in
    let first = graph_text (codes "before") p.before in
    let second = graph_text (codes "after") p.after in
    let vs = variables_text 0 p.sorts in
    let fs = functions_text 0 d.functions in
    (sorts_spell 0 d.sorts).spell (functions_pieces 0 d.functions (variables_pieces 0 p.sorts (asked_pieces d p.before p.after)))
    ∙ ap (λ (l : List ℕ). sorts_text 0 d.sorts ++ l)
    ((functions_spell 0 d.functions).spell (variables_pieces 0 p.sorts (asked_pieces d p.before p.after))
    ∙ ap (λ (l : List ℕ). fs ++ l)
    ((variables_spell 0 p.sorts).spell (asked_pieces d p.before p.after)
    ∙ ap (λ (l : List ℕ). vs ++ l)
    ((graph_spells d p.sorts (codes "before") _ _ p.before plain.before.blocks).spell (graph_pieces (codes "after") p.after (ending_pieces d))
    ∙ ap (λ (l : List ℕ). first ++ l) ((graph_spells d p.sorts (codes "after") _ _ p.after plain.after.blocks).spell (ending_pieces d) ∙ ap (λ (l : List ℕ). second ++ l) (asked_spells d)))))
    ∙ graphs_regrouped (sorts_text 0 d.sorts) fs vs first second (rounds_text d.rounds) (split_text d.splits) goal
