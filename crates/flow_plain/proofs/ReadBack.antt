-- The plainest text of two graphs is read as these graphs.
use Rattle.std.proofs.Common.{◌≡◌, ◌≤◌, ◌+◌, ◌^◌, ℕ, List, [], ◌∷◌, length, Bool, true, false, Option, Some, None, Result, Ok, refl, sym, ap, ◌∙◌, subst, arith}
use Rattle.std.proofs.lemmas.List.{take_all}
use Rattle.std.proofs.lemmas.Bool.{le-ltb, lt-ltb}
use Rattle.std.specs.Prelude.{codes}
use Rattle.std.specs.Fmt.{decimal}
use Rattle.std.specs.FinMap.{get-empty}
use Rattle.std.specs.Ordering.{nat_cmp}
use Rattle.std.specs.Cmp.Lexicographic.{slice_cmp}
use Rattle.kat_model.specs.declared.limits.TheConstants.{MAX_ROUNDS}
use Rattle.text_parser.specs.declared.fault.TextFault.{TextFault}
use Rattle.text_parser.specs.declared.token.Kind.TheVariants.{Name}
use Rattle.text_parser.specs.declared.lexer.TheConstants.{MAX_LEN}
use Rattle.text_parser.specs.TokenParts.{TokenParts, token_parts}
use Rattle.text_parser.specs.Pieces.{spelled, parts_from}
use Rattle.text_parser.specs.Parsed.{◌>>=◌}
use Rattle.text_parser.specs.Lex.{Lexes}
use Rattle.text_parser.proofs.Printed.{printed}
use Rattle.flow_model.specs.declared.sort.Sort.{Sort}
use Rattle.flow_model.specs.Graphs.{Graph, Pair}
use Rattle.flow_syntax.specs.declared.rule.Mark.{Mark}
use Rattle.flow_syntax.specs.declared.rule.Part.TheVariants.{Phrase}
use Rattle.flow_syntax.specs.declared.phrase.TheConstants.{FILE}
use Rattle.flow_syntax.specs.Syntax.{BlockSyntax, ItemSyntax}
use Rattle.flow_syntax.specs.Moves.{state}
use Rattle.flow_syntax.specs.Derivations.{LeadsTo}
use Rattle.flow_syntax.specs.Productions.{rules}
use Rattle.flow_syntax.specs.Actions.{ValueSyntax, first, items_in}
use Rattle.flow_text.specs.declared.meaning.Meaning.TheVariants.{SortName, Function, Variable, GraphName}
use Rattle.flow_text.specs.declared.meaning.Meaning.{Meaning}
use Rattle.flow_text.specs.Scopes.{ScopeParts, no_names, counts_of, scope_before, with_graph, if_declared}
use Rattle.flow_text.specs.DeclaredNames.{variable_names, function_names}
use Rattle.flow_text.specs.Checking.{GraphSyntax, a_graph, Known, nothing_known, in_scope, items_known, FlowFileParts, rounds_or_one, with_goal, shared_sorts, known_sorts, with_all_results, graphs_after}
use Rattle.flow_text.specs.Texts.{Spells}
use Rattle.flow_plain.specs.PlainGraphs.{Declared, graphs_text}
use Rattle.flow_plain.specs.PrintableGraphs.{AreFew, ArePlainGraphs, graph_size, with_blocks, results_of}
use Rattle.flow_plain.specs.Laws.{PlainGraphsReadBack}
use Rattle.flow_plain.proofs.PlainWords.{number_spelled}
use Rattle.flow_plain.proofs.PlainPieces.{graph_begin, graph_end, goal_syntax, split_syntax, rounds_syntax, asked_syntax, functions_syntax, variables_syntax, graphs_pieces, graphs_syntax, blocks_syntax}
use Rattle.flow_plain.proofs.PlainSpelling.{graphs_spell}
use Rattle.flow_plain.proofs.FileReads.{graphs_read}
use Rattle.flow_plain.proofs.ResolvedExprs.{IsScope}
use Rattle.flow_plain.proofs.ResolvedGraphs.{graph_resolved, all_filled}
use Rattle.flow_plain.proofs.SizedGraphs.{graph_counted, blocks_shown}
use Rattle.flow_plain.proofs.DeclaredScope.{Goes, name_of, Means, Declares, sorts_go, functions_go, variables_go, add_graph, graph_means, graph_meant_is, scope_is}

-- ---- the text is these items

plain_spells : (d : Declared) (p : Pair) → ArePlainGraphs d p → Spells (graphs_text d p) (graphs_syntax d p)
plain_spells d p plain =
    let ps = graphs_pieces d p in
    let text = graphs_spell d p plain in
    let read = graphs_read d p plain in
    let short : length (spelled ps) ≤ MAX_LEN = subst (λ (l : List ℕ). length l ≤ MAX_LEN) (sym text) plain.short in
    let tokens = parts_from 0 ps in
    record {
      tokens = tokens;
      lexed = subst (λ (l : List ℕ). Lexes l tokens) text (printed ps read.separate short);
      spelled = record {
        steps = read.steps;
        derived = record {
          last = state 0 [] [];
          leads = subst (λ (ms : List Mark). LeadsTo rules (length (graphs_text d p)) (state 0 (Phrase FILE ∷ []) ms) read.steps (state 0 [] [])) (sym read.outside.0) (read.leads (length (graphs_text d p)));
          ends = refl;
        };
        value = ap (λ (vs : List ValueSyntax). items_in (first vs)) read.value;
      };
    }

-- ---- the items are the graphs

nothing_means : Means no_names
nothing_means m low = get-empty (slice_cmp nat_cmp) (name_of m) ∙ none m where
  none : (m : Meaning) → None ≡ if_declared no_names (Some m)
  none (SortName k) = rw (le-ltb k 0 (omega arith)) refl
  none (Function k) = rw (le-ltb k 0 (omega arith)) refl
  none (Variable k) = rw (le-ltb k 0 (omega arith)) refl
  none (GraphName k) = rw (le-ltb k 0 (omega arith)) refl

-- the file of two graphs
abbrev plain_file : Declared → List Sort → Graph → Graph → List (List ℕ) → List (List ℕ) → FlowFileParts
plain_file d sorts g h vs fs = record { sorts = sorts; graphs = g ∷ h ∷ []; before = 0; after = 1; matches = []; rounds = rounds_or_one d.rounds; splits = d.splits; variable_names = vs; function_names = fs }

module _ (d : Declared) (p : Pair) (plain : ArePlainGraphs d p) (s : ScopeParts) (declares : Declares d.sorts d.functions p.sorts s) (at : ℕ) where
  few : length p.sorts ≤ 2 ^ 64
  few = let h = plain.few_variables in omega (arith, h)

  small : length d.functions ≤ 2 ^ 64
  small = let h = plain.few_functions in omega (arith, h)

  abbrev results : List Sort
  results = results_of p.sorts p.before p.after

  -- the scopes after the first graph, and after both
  abbrev next : ℕ
  next = graph_end (codes "before") p.before at

  abbrev t : TokenParts
  t = token_parts Name (at + 5 + 1) (codes "before")

  abbrev u : TokenParts
  u = token_parts Name (next + 5 + 1) (codes "after")

  abbrev second : ScopeParts
  second = with_graph s t 0

  abbrev last : ScopeParts
  last = with_graph second u 1

  second_means : Means second
  second_means = graph_means s 0 (at + 5 + 1) declares.graphs (omega arith) declares.means

  last_means : Means last
  last_means = graph_means second 1 (next + 5 + 1) refl (omega arith) second_means

  is_scope : (w : ScopeParts) → Means w → w.variables ≡ p.sorts → w.functions ≡ d.functions → IsScope d p.sorts w
  is_scope w means vs fs = scope_is d p.sorts w w few small means refl vs fs vs fs

  -- the scope of a graph when all is known
  past_scope : (w : ScopeParts) → w.variables ≡ p.sorts → w.functions ≡ d.functions → IsScope d p.sorts (scope_before last (counts_of w))
  past_scope w vs fs =
      scope_is d p.sorts (scope_before last (counts_of w)) last few small last_means refl declares.variables declares.functions
      (take_all (length w.variables) s.variables (rw (vs, declares.variables) (omega arith)) ∙ declares.variables)
      (take_all (length w.functions) s.functions (rw (fs, declares.functions) (omega arith)) ∙ declares.functions)

  abbrev bs : List BlockSyntax
  bs = blocks_syntax 0 p.before (graph_begin (codes "before") at)

  abbrev cs : List BlockSyntax
  cs = blocks_syntax 0 p.after (graph_begin (codes "after") next)

  abbrev written : List GraphSyntax
  written = a_graph (counts_of s) bs ∷ a_graph (counts_of second) cs ∷ []

  -- what is known of the graphs, and of what follows them
  abbrev with_ending : Option ℕ → Bool → Option (ℕ × ℕ) → Known
  with_ending rounds splits goal = record { scope = last; graphs = written; matches = []; rounds = rounds; splits = splits; goal = goal; nodes = 0 + graph_size p.before + graph_size p.after }

  abbrev all_known : Known
  all_known = with_ending d.rounds d.splits (Some (0, 1))

  goal_is_known : (rounds : Option ℕ) (splits : Bool) (place : ℕ) → items_known (with_ending rounds splits None) (goal_syntax place ∷ []) ≡ Ok (with_ending rounds splits (Some (0, 1)))
  goal_is_known rounds splits place = rw (graph_meant_is last 0 (omega arith) (omega arith) last_means, graph_meant_is last 1 (omega arith) (omega arith) last_means) refl

  split_is_known : (rounds : Option ℕ) (splits : Bool) (place : ℕ) → items_known (with_ending rounds false None) (split_syntax splits place) ≡ Ok (with_ending rounds splits (Some (0, 1)))
  split_is_known rounds false place = goal_is_known rounds false place
  split_is_known rounds true place = goal_is_known rounds true (place + 5 + 1 + 1)

  ending_known : (rounds : Option ℕ) → AreFew rounds → (splits : Bool) (place : ℕ) → items_known (with_ending None false None) (rounds_syntax splits rounds place) ≡ Ok (with_ending rounds splits (Some (0, 1)))
  ending_known None few_rounds splits place = split_is_known None splits place
  ending_known (Some n) few_rounds splits place =
      rw (number_spelled n (omega (arith, few_rounds)), lt-ltb n (MAX_ROUNDS + 1) (omega (arith, few_rounds))) (split_is_known (Some n) splits (place + 6 + 1 + length (decimal n) + 1 + 1))

  known : items_known (in_scope nothing_known s) (asked_syntax d p.before p.after at) ≡ Ok all_known
  known =
      let room = plain.small in
      let first_scope = is_scope s declares.means declares.variables declares.functions in
      let second_scope = is_scope second second_means declares.variables declares.functions in
      rw (
        add_graph s 0 (at + 5 + 1) declares.graphs (omega arith) declares.means,
        graph_resolved d p.sorts few small s first_scope None results p.before (graph_begin (codes "before") at) tt plain.before.few plain.before.blocks,
        graph_counted d p.sorts results p.before 0 (graph_begin (codes "before") at) plain.before (omega (arith, room)),
        add_graph second 1 (next + 5 + 1) refl (omega arith) second_means,
        graph_resolved d p.sorts few small second second_scope None results p.after (graph_begin (codes "after") next) tt plain.after.few plain.after.blocks,
        graph_counted d p.sorts results p.after (0 + graph_size p.before) (graph_begin (codes "after") next) plain.after (omega (arith, room)),
      ) (ending_known d.rounds plain.rounds d.splits (graph_end (codes "after") p.after next))

  shared : shared_sorts last (0, 1) written ≡ results
  shared =
      let n = graph_begin (codes "before") at in
      let m = graph_begin (codes "after") next in
      ap known_sorts
      (ap (λ o. with_all_results (scope_before last (counts_of second)) o cs) (blocks_shown d p.sorts few small (scope_before last (counts_of s)) (past_scope s declares.variables declares.functions) None (length p.before) results 0 p.before n plain.before.blocks)
      ∙ blocks_shown d p.sorts few small (scope_before last (counts_of second)) (past_scope second declares.variables declares.functions) (with_blocks p.sorts None p.before) (length p.after) results 0 p.after m plain.after.blocks)

  made : graphs_after last (0, 1) (shared_sorts last (0, 1) written) [] written ≡ Ok (p.before ∷ p.after ∷ [])
  made =
      rw (
        shared,
        graph_resolved d p.sorts few small (scope_before last (counts_of s)) (past_scope s declares.variables declares.functions) (Some results) results p.before (graph_begin (codes "before") at) refl plain.before.few plain.before.blocks,
        graph_resolved d p.sorts few small (scope_before last (counts_of second)) (past_scope second declares.variables declares.functions) (Some results) results p.after (graph_begin (codes "after") next) refl plain.after.few plain.after.blocks,
        all_filled results p.before,
        all_filled results p.after,
      ) refl

  filed : (vs fs : List (List ℕ)) → with_goal vs fs all_known (Some (0, 1)) ≡ Ok (plain_file d last.variables p.before p.after vs fs)
  filed vs fs = ap (λ (m : Result (List Graph) TextFault). m >>= λ gs. Ok (record { sorts = last.variables; graphs = gs; before = 0; after = 1; matches = []; rounds = rounds_or_one d.rounds; splits = d.splits; variable_names = vs; function_names = fs })) made

-- ---- the declarations

-- items after those that lead to them
follows : (k : Known) (is : List ItemSyntax) (middle others : ℕ → List ItemSyntax) (P Q : ScopeParts → Type 0) → Goes k is middle P → ((s : ScopeParts) (at : ℕ) → P s → Goes (in_scope k s) (middle at) others Q) → Goes k is others Q
follows k is middle others P Q first more =
    let last = more first.scope first.place first.holds in
    record { place = last.place; scope = last.scope; goes = first.goes ∙ last.goes; holds = last.holds }

declarations : (d : Declared) (p : Pair) → ArePlainGraphs d p → Goes nothing_known (graphs_syntax d p) (asked_syntax d p.before p.after) (Declares d.sorts d.functions p.sorts)
declarations d p plain =
    let sorts = plain.sorts in
    let functions = plain.few_functions in
    let variables = plain.few_variables in
    let asked = asked_syntax d p.before p.after in
    let after_functions = variables_syntax asked 0 p.sorts in
    let after_sorts = functions_syntax after_functions 0 d.functions in
    let none_more : 0 + d.sorts ≡ d.sorts = omega arith in
    follows nothing_known (graphs_syntax d p) after_sorts asked (Declares (0 + d.sorts) [] []) (Declares d.sorts d.functions p.sorts)
    (sorts_go after_sorts d.sorts 0 nothing_known (omega (arith, sorts)) (record { means = nothing_means; sorts = refl; functions = refl; variables = refl; graphs = refl }))
    (λ s at h. follows (in_scope nothing_known s) (after_sorts at) after_functions asked (Declares d.sorts d.functions []) (Declares d.sorts d.functions p.sorts)
    (functions_go after_functions d.sorts [] d.functions 0 at (in_scope nothing_known s) refl sorts (omega (arith, functions)) plain.functions (subst (λ (n : ℕ). Declares n [] [] s) none_more h))
    (λ t place g. variables_go asked d.sorts d.functions [] p.sorts 0 place (in_scope nothing_known t) refl sorts (omega (arith, variables)) plain.variables g))

pub read_back : PlainGraphsReadBack
read_back d p plain =
    let c = declarations d p plain in
    let is = graphs_syntax d p in
    let vs = variable_names is in
    let fs = function_names is in
    let all : items_known nothing_known is ≡ Ok (all_known d p plain c.scope c.holds c.place) = c.goes ∙ known d p plain c.scope c.holds c.place in (
      plain_file d (c.scope).variables p.before p.after vs fs,
      record {
        spelled = is;
        spells = plain_spells d p plain;
        file = ap (λ (m : Result Known TextFault). m >>= λ k. with_goal vs fs k k.goal) all ∙ filed d p plain c.scope c.holds c.place vs fs;
      },
      record { graphs = ap (λ l. record { sorts = l; before = p.before; after = p.after }) c.holds.variables; rounds = refl; splits = refl; matches = refl },
    )
