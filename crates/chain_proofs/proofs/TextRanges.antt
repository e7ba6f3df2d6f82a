-- The terms of a chain that a text spells are in range.
use Rattle.std.proofs.Common.{◌≡◌, ℕ, zero, suc, ◌+◌, List, [], ◌∷◌, false, Option, None, Some, Result, Ok, Err, refl, sym, ap, subst, ◌∙◌, arith, slice_get, IfOk}
use Rattle.std.proofs.lemmas.Option.{slice_get_past, none-some}
use Rattle.kat_model.specs.Trees.{Term}
use Rattle.kat_model.specs.Problems.{IsInRange}
use Rattle.text_parser.specs.declared.fault.TextFault.{TextFault}
use Rattle.text_parser.specs.Parsed.{◌>>=◌, place_of}
use Rattle.text_parser.specs.Actions.{context}
use Rattle.text_parser.specs.Phrases.{term, Phrase, yield_before}
use Rattle.text_parser.specs.Folds.{fold}
use Rattle.text_parser.proofs.ParserSoundness.{bind_ok}
use Rattle.text_parser.specs.declared.meaning.Meaning.TheVariants.{Test, Action}
use Rattle.text_parser.specs.ScopeParts.{ScopeParts, Definition}
use Rattle.text_parser.specs.Measuring.{extents}
use Rattle.text_parser.specs.Building.{trees}
use Rattle.while_lang.specs.Blocks.{enter}
use Rattle.problem_file.specs.Working.Numbers.{AreNumbered}
use Rattle.problem_file.proofs.Numbering.{empty_numbered, test_numbered, action_numbered}
use Rattle.problem_file.proofs.InRanges.{DefinedInRange, term_in}
use Rattle.problem_file.proofs.Results.{same_ok}
use Rattle.problem_file.specs.Questions.{plain_name}
use Rattle.chain_rules.specs.declared.chain.Axiom.{Axiom}
use Rattle.chain_rules.specs.Chains.{ChainTree, alone, equal_by, equal_by_inner}
use Rattle.chain_rules.specs.ChainViews.{with_line}
use Rattle.chain_rules.specs.Chained.{HasTermsInRange}
use Rattle.chain_proofs.specs.ChainMaking.{total_with, extended, making_chain}
use Rattle.chain_proofs.specs.ChainPhrases.{Lines, no_lines, plain_line, line_around, ChainPhrase}
use Rattle.chain_proofs.specs.ChainFolds.{fold_rule, sized_fold, fold_lines, fold_chain, chain_of}
use Rattle.problem_file.specs.NumberedScopes.{tests_scope, numbered_scope}
use Rattle.chain_proofs.specs.Reads.{Reads, Answers}

-- ---- the scope of a proof

one_more : (n : ℕ) → n + 1 ≡ suc n
one_more n = omega arith

tests_numbered : (tests : ℕ) → AreNumbered (tests_scope tests) tests 0 0 0
tests_numbered zero = empty_numbered
tests_numbered (suc k) =
    subst (λ (n : ℕ). AreNumbered (tests_scope (suc k)) n 0 0 0) (one_more k)
    (test_numbered (tests_scope k) k 0 0 0 (tests_numbered k) (tests_scope (suc k)) (plain_name (Test k)) refl)

names_numbered : (tests actions : ℕ) → AreNumbered (numbered_scope tests actions) tests actions 0 0
names_numbered tests zero = tests_numbered tests
names_numbered tests (suc a) =
    subst (λ (n : ℕ). AreNumbered (numbered_scope tests (suc a)) tests n 0 0) (one_more a)
    (action_numbered (numbered_scope tests a) tests a 0 0 (names_numbered tests a) (numbered_scope tests (suc a)) (plain_name (Action a)) refl)

no_tests_terms : (tests : ℕ) → (tests_scope tests).terms ≡ []
no_tests_terms zero = refl
no_tests_terms (suc k) = no_tests_terms k

no_terms : (tests actions : ℕ) → (numbered_scope tests actions).terms ≡ []
no_terms tests zero = no_tests_terms tests
no_terms tests (suc a) = no_terms tests a

none_defined : (tests actions : ℕ) → DefinedInRange (numbered_scope tests actions) tests actions
none_defined tests actions i d e =
    let none : slice_get [] i ≡ None = slice_get_past [] i (omega arith) in
    absurd (none-some d (sym none ∙ ap (λ (ds : List Definition). slice_get ds i) (sym (no_terms tests actions)) ∙ e))

-- ---- chains

module _ (tests actions : ℕ) where
  abbrev w : ScopeParts
  w = numbered_scope tests actions

  abbrev Good : ChainTree → Type 0
  Good c = HasTermsInRange tests actions c

  abbrev GoodInner : Option ChainTree → Type 0
  GoodInner None = Unit {0}
  GoodInner (Some c) = Good c

  with_line_good : (e : Term) (rule : Axiom) (path : List ℕ) (inner : Option ChainTree) (rest : ChainTree) → IsInRange tests actions e → GoodInner inner → Good rest → Good (with_line e rule path inner rest)
  with_line_good e rule path None rest a b c = (a, c)
  with_line_good e rule path (Some i) rest a b c = (a, b, c)

  extended_good : (c : ChainTree) (f : Term) (rule : Axiom) (path : List ℕ) (inner : Option ChainTree) → Good c → IsInRange tests actions f → GoodInner inner → Good (extended c f rule path inner)
  extended_good (alone e) f rule path inner h t i = with_line_good e rule path inner (alone f) h i t
  extended_good (equal_by e r p rest) f rule path inner h t i = (h.0, extended_good rest f rule path inner h.1 t i)
  extended_good (equal_by_inner e r p c rest) f rule path inner h t i = (h.0, h.1, extended_good rest f rule path inner h.2 t i)

  term_good : (d total : ℕ) (p : Phrase term) (x : Term × ℕ) → sized_fold w d total p ≡ Ok x → IsInRange tests actions x.0
  term_good d total p x e =
      let c = context d false false in
      let a = bind_ok (fold (extents w) c p (λ m. m)) _ x e in
      let b = bind_ok (total_with (place_of (yield_before p [])) total (a.0).nodes) _ x a.2 in
      let t = bind_ok (fold (trees w) c p (λ e. e ∷ [])) (λ e. Ok (e, b.0)) x b.2 in
      let same : (t.0, b.0) ≡ x = same_ok (t.0, b.0) x t.2 in
      subst (λ (y : Term × ℕ). IsInRange tests actions y.0) same (term_in tests actions 0 w 0 (names_numbered tests actions) (none_defined tests actions) c p t.0 t.1)

  lines_good : (ls : Lines) (d : ℕ) (v : ChainTree) (total : ℕ) (y : ChainTree × ℕ) → Good v → fold_lines (making_chain w) (sized_fold w) d v total ls ≡ Ok y → Good y.0
  lines_good no_lines d v total y h e = subst (λ (x : ChainTree × ℕ). Good x.0) (same_ok (v, total) y e) h
  lines_good (plain_line equals p by r end rest) d v total y h e =
      let c = bind_ok (sized_fold w d total p >>= λ x. fold_rule (making_chain w) r >>= λ q. Ok (extended v x.0 q.rule q.path None, x.1)) _ y e in
      let x = bind_ok (sized_fold w d total p) _ c.0 c.1 in
      let q = bind_ok (fold_rule (making_chain w) r) _ c.0 x.2 in
      let made : (extended v (x.0).0 (q.0).rule (q.0).path None, (x.0).1) ≡ c.0 = same_ok _ c.0 q.2 in
      let good : Good (c.0).0 = subst (λ (z : ChainTree × ℕ). Good z.0) made (extended_good v (x.0).0 (q.0).rule (q.0).path None h (term_good d total p x.0 x.1) tt) in
      lines_good rest d (c.0).0 (c.0).1 y good c.2
  lines_good (line_around equals p by r opening first inner closing end rest) d v total y h e =
      let c = bind_ok _ _ y e in
      let x = bind_ok (sized_fold w d total p) _ c.0 c.1 in
      let q = bind_ok (fold_rule (making_chain w) r) _ c.0 x.2 in
      let n = bind_ok (enter d opening.at) _ c.0 q.2 in
      let i = bind_ok (sized_fold w n.0 (x.0).1 first >>= λ a. fold_lines (making_chain w) (sized_fold w) n.0 (alone a.0) a.1 inner) _ c.0 n.2 in
      let a = bind_ok (sized_fold w n.0 (x.0).1 first) _ i.0 i.1 in
      let within : Good (i.0).0 = lines_good inner n.0 (alone (a.0).0) (a.0).1 i.0 (term_good n.0 (x.0).1 first a.0 a.1) a.2 in
      let made : (extended v (x.0).0 (q.0).rule (q.0).path (Some (i.0).0), (i.0).1) ≡ c.0 = same_ok _ c.0 i.2 in
      let good : Good (c.0).0 = subst (λ (z : ChainTree × ℕ). Good z.0) made (extended_good v (x.0).0 (q.0).rule (q.0).path (Some (i.0).0) h (term_good d total p x.0 x.1) within) in
      lines_good rest d (c.0).0 (c.0).1 y good c.2

  chain_good : (p : ChainPhrase) (c : ChainTree) → chain_of w p ≡ Ok c → Good c
  chain_good p c e =
      let y = bind_ok (fold_chain (making_chain w) (sized_fold w) 0 0 p) (λ x. Ok x.0) c e in
      let a = bind_ok (sized_fold w 0 0 p.first) _ y.0 y.1 in
      let good = lines_good p.lines 0 (alone (a.0).0) (a.0).1 y.0 (term_good 0 0 p.first a.0 a.1) a.2 in
      subst Good (same_ok (y.0).0 c y.2) good

  pub reads_in_range : (bytes : List ℕ) (c : ChainTree) → Reads tests actions bytes c → Good c
  reads_in_range bytes c x = chain_good (x.spells).phrase c x.chain

  -- the same for an answer
  pub answered_in_range : (bytes : List ℕ) (r : Result ChainTree TextFault) → Answers tests actions bytes r → IfOk r Good
  answered_in_range bytes (Ok c) h = reads_in_range bytes c h
  answered_in_range bytes (Err e) h = tt
