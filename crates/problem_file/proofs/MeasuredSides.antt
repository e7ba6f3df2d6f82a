-- The measures and trees of blocks and of the sides of goals whose syntax is correct.
use Rattle.std.proofs.Common.{◌≡◌, ℕ, ◌≤◌, List, [], false, Result, Ok, Err, Option, Some, None, refl, sym, ap, subst, ◌∙◌, arith}
use Rattle.std.specs.Option.{option_map, option_and_then}
use Rattle.kat_model.specs.declared.limits.TheConstants.{MAX_TERM_NODES, MAX_EXPR_NODES}
use Rattle.kat_model.specs.Trees.{Term}
use Rattle.text_parser.specs.declared.fault.TextFault.{TextFault}
use Rattle.text_parser.specs.Lexemes.{Lexeme}
use Rattle.text_parser.specs.Parsed.{◌>>=◌, before, change}
use Rattle.text_parser.specs.Actions.{context}
use Rattle.text_parser.specs.Phrases.{term, prod, star, unit, Leaf, Phrase, one_prod, more_prods, one_star, more_stars, bare, starred, zero_unit, one_unit, name_unit, not_unit, square_unit, round_unit, yield_before, MeetsLookahead, IsWithinLimits}
use Rattle.text_parser.specs.Ends.{Ends}
use Rattle.text_parser.specs.Folds.{fold}
use Rattle.text_parser.proofs.ParserSoundness.{bind_ok}
use Rattle.text_parser.specs.declared.extent.Extent.{Extent}
use Rattle.text_parser.specs.declared.meaning.Meaning.{Meaning}
use Rattle.text_parser.specs.declared.meaning.Meaning.TheVariants.{Test, Action, Var, Term as TermName, Prog}
use Rattle.text_parser.specs.ScopeParts.{ScopeParts, meaning}
use Rattle.text_parser.specs.Measuring.{extents}
use Rattle.text_parser.specs.Sound.{IsTermName, IsSound}
use Rattle.while_lang.specs.Programs.{ProgTree, StmtTree, prog_of as prog_with}
use Rattle.while_lang.specs.ProgramSizes.{prog_size, largest_in}
use Rattle.while_lang.specs.NamedProgs.{ProgParts}
use Rattle.while_lang.specs.BlockPhrases.{block, BlockPhrase, block_before, BlockObeys, BlockFits}
use Rattle.while_lang.specs.BlockFolds.{fold_block}
use Rattle.while_lang.specs.BlockBuilding.{block_trees}
use Rattle.while_lang.specs.BlockMeasuring.{extent, block_extents}
use Rattle.while_lang.specs.BlockSound.{block_nesting}
use Rattle.while_lang.specs.BlockLaws.{AreLimited}
use Rattle.while_lang.proofs.BlockCompleteness.{parsed as block_parsed}
use Rattle.while_lang.proofs.BlockNestings.{sound_measured}
use Rattle.while_lang.proofs.BlockMeasures.{measures_of_trees}
use Rattle.while_lang.specs.Files.{SideTree, term_side, prog_side, prog_meant, prog_named}
use Rattle.problem_file.specs.Files.{State}
use Rattle.problem_file.specs.ItemActions.{Measurement}
use Rattle.problem_file.specs.Phrases.{lone_leaf}
use Rattle.problem_file.specs.Folds.{fold_term, fold_prog, named_else, fold_side}
use Rattle.problem_file.specs.Making.{built_term, built_block, program_or, built_side, program_extent, making}
use Rattle.problem_file.specs.Sound.{IsBlock, named_by, IsSide, side_size, grown}
use Rattle.problem_file.proofs.Results.{ok_of, same_ok}
use Rattle.problem_file.proofs.PhraseFronts.{text_of, lone_term}
use Rattle.problem_file.proofs.BlockLevels.{block_fits}
use Rattle.problem_file.proofs.MeasuredPhrases.{ok_value, is_ok_of, one_ok, given_few, few_given, TermWalk, term_is, term_walked, term_walks, tree_there}

-- ---- blocks

-- the block is measured and built, and is not too large
pub record BlockWalk (w : ScopeParts) (ps : List ProgParts) (p : BlockPhrase block) (m : Extent) (tree : ProgTree) : Type 0 where
  pub measured : fold_block (block_extents w ps) 0 p (extent 0 0) ≡ Ok m
  pub is_block : IsBlock w ps p tree
  pub nodes : m.nodes ≡ prog_size tree
  pub deep : m.nesting ≡ block_nesting w ps p

abbrev built_prog : ScopeParts → List ProgParts → BlockPhrase block → Result ProgTree TextFault
built_prog w ps p = fold_block (block_trees w ps) 0 p [] >>= λ ss. Ok (prog_with ss)

pub block_walked : (w : ScopeParts) (ps : List ProgParts) (p : BlockPhrase block) (m : Extent) → AreLimited ps → BlockFits 0 p → fold_block (block_extents w ps) 0 p (extent 0 0) ≡ Ok m → m.nodes ≤ MAX_TERM_NODES → (tree : ProgTree) × BlockWalk w ps p m tree
block_walked w ps p m limited fits e few =
    let x = measures_of_trees w ps 0 p m limited e in
    let sound = ((sound_measured w ps 0 p).0 (is_ok_of (fold_block (block_extents w ps) 0 p (extent 0 0)) m e)).0 in
    let h = given_few (largest_in x.tree) (prog_size x.tree) m.nodes x.nodes few in (
      x.tree,
      record {
        measured = e;
        is_block = record { sound = sound; built = x.built; narrow = h.0; small = h.1 };
        nodes = h.2;
        deep = omega (arith, x.levels, block_fits w ps 0 p sound fits (omega arith));
      },
    )

pub block_walks : (w : ScopeParts) (ps : List ProgParts) (p : BlockPhrase block) (tree : ProgTree) → AreLimited ps → BlockFits 0 p → IsBlock w ps p tree → (m : Extent) × BlockWalk w ps p m tree
block_walks w ps p tree limited fits h =
    let m = ok_value (fold_block (block_extents w ps) 0 p (extent 0 0)) ((sound_measured w ps 0 p).1 (h.sound, fits)) in
    let x = measures_of_trees w ps 0 p m.0 limited m.1 in
    let same : x.tree ≡ tree = one_ok (built_prog w ps p) x.tree tree x.built h.built in
    let narrow : largest_in x.tree ≤ MAX_EXPR_NODES = subst (λ q. largest_in q ≤ MAX_EXPR_NODES) (sym same) h.narrow in
    let small : prog_size x.tree ≤ MAX_TERM_NODES = subst (λ q. prog_size q ≤ MAX_TERM_NODES) (sym same) h.small in (
      m.0,
      record {
        measured = m.1;
        is_block = h;
        nodes = few_given (largest_in x.tree) (prog_size x.tree) (m.0).nodes x.nodes narrow small ∙ ap prog_size same;
        deep = omega (arith, x.levels, block_fits w ps 0 p h.sound fits (omega arith));
      },
    )

-- the block among the tokens

prog_there : (ts : List Lexeme) (r : Result (List StmtTree) TextFault) (tree : ProgTree) → (r >>= λ ss. Ok (prog_with ss)) ≡ Ok tree → change prog_with (before ts r) ≡ Ok (tree, ts)
prog_there ts (Ok ss) tree e = ap (λ q. Ok (q, ts)) (same_ok (prog_with ss) tree e)
prog_there ts (Err x) tree e = absurd cc

pub block_tree_there : (s : State) (p : BlockPhrase block) (ts : List Lexeme) (tree : ProgTree) → BlockObeys p ts → built_prog s.world s.progs p ≡ Ok tree → built_block s (block_before p ts) ≡ Ok (tree, ts)
block_tree_there s p ts tree obeys e = ap (change prog_with) (block_parsed (block_trees s.world s.progs) p 0 [] ts obeys) ∙ prog_there ts (fold_block (block_trees s.world s.progs) 0 p []) tree e

prog_measure_ok : {V : Type 0} (r : Result Extent TextFault) (f : Extent → Measurement Extent) (k : Measurement Extent → Result V TextFault) (y : V) → ((r >>= λ m. Ok (f m)) >>= k) ≡ Ok y → (m : Extent) × (r ≡ Ok m) × (k (f m) ≡ Ok y)
prog_measure_ok (Ok m) f k y h = (m, refl, h)
prog_measure_ok (Err x) f k y h = absurd cc

pub after_block : (s : State) {V : Type 0} (p : BlockPhrase block) (ts : List Lexeme) (k : Measurement Extent → Result V TextFault) (y : V) → (fold_prog making s p ts >>= k) ≡ Ok y →
    (m : Extent) × (fold_block (block_extents s.world s.progs) 0 p (extent 0 0) ≡ Ok m) × (k (record { measure = m; tokens = block_before p ts }) ≡ Ok y)
after_block s p ts k y e = prog_measure_ok (fold_block (block_extents s.world s.progs) 0 p (extent 0 0)) (λ m. record { measure = m; tokens = block_before p ts }) k y e

-- ---- sides

-- a term that is a single name is sound if the name is
sound_unit : (w : ScopeParts) (u : Phrase unit) (l : Leaf) → lone_leaf u ≡ Some l → IsSound w (context 0 false false) u → IsTermName w (context 0 false false) (meaning w l.text)
sound_unit w (name_unit k) l e h = let same : k ≡ l = cc in subst (λ (x : Leaf). IsTermName w (context 0 false false) (meaning w x.text)) same h
sound_unit w (zero_unit k) l e h = absurd cc
sound_unit w (one_unit k) l e h = absurd cc
sound_unit w (not_unit k u) l e h = absurd cc
sound_unit w (square_unit k c r) l e h = absurd cc
sound_unit w (round_unit k t r) l e h = absurd cc

sound_star : (w : ScopeParts) (s : Phrase star) (l : Leaf) → lone_leaf s ≡ Some l → IsSound w (context 0 false false) s → IsTermName w (context 0 false false) (meaning w l.text)
sound_star w (bare u) l e h = sound_unit w u l e h
sound_star w (starred u k) l e h = absurd cc

sound_prod : (w : ScopeParts) (p : Phrase prod) (l : Leaf) → lone_leaf p ≡ Some l → IsSound w (context 0 false false) p → IsTermName w (context 0 false false) (meaning w l.text)
sound_prod w (one_star s) l e h = sound_star w s l e h
sound_prod w (more_stars s k p) l e h = absurd cc

sound_term : (w : ScopeParts) (p : Phrase term) (l : Leaf) → lone_leaf p ≡ Some l → IsSound w (context 0 false false) p → IsTermName w (context 0 false false) (meaning w l.text)
sound_term w (one_prod p) l e h = sound_prod w p l e h
sound_term w (more_prods p k t) l e h = absurd cc

-- a name in a term is not the name of a program
no_prog : (w : ScopeParts) (ps : List ProgParts) (o : Option Meaning) → IsTermName w (context 0 false false) o → prog_meant ps o ≡ None
no_prog w ps None h = refl
no_prog w ps (Some (Test k)) h = refl
no_prog w ps (Some (Action a)) h = refl
no_prog w ps (Some (Var k)) h = refl
no_prog w ps (Some (TermName i)) h = refl
no_prog w ps (Some (Prog i)) h = absurd h

term_names_none : (s : State) (p : Phrase term) (o : Option Leaf) → lone_leaf p ≡ o → IsSound s.world (context 0 false false) p → option_and_then (λ l. prog_named s.world s.progs l.text) o ≡ None
term_names_none s p None e h = refl
term_names_none s p (Some l) e h = no_prog s.world s.progs (meaning s.world l.text) (sound_term s.world p l e h)

-- the extent of the program that a phrase names: mapping it before or after the lookup gives the same
measured_name : (s : State) (o : Option Leaf) → option_and_then (λ l. option_map program_extent (prog_named s.world s.progs l.text)) o ≡ option_map program_extent (option_and_then (λ l. prog_named s.world s.progs l.text) o)
measured_name s None = refl
measured_name s (Some l) = refl

read_name : (s : State) (o : Option Leaf) → option_and_then (prog_named s.world s.progs) (text_of o) ≡ option_and_then (λ l. prog_named s.world s.progs l.text) o
read_name s None = refl
read_name s (Some l) = refl

-- the side of a goal is measured and built, and is not too large
pub record SideWalk (s : State) (p : Phrase term) (ts : List Lexeme) (m : Extent) (side : SideTree) : Type 0 where
  pub measured : fold_side making s p ts ≡ Ok (record { measure = m; tokens = yield_before p ts })
  pub is_side : IsSide s p side
  pub nodes : m.nodes ≡ side_size side
  pub small : side_size side ≤ MAX_TERM_NODES
  pub built : (k : ℕ) → built_side (grown s k) (yield_before p ts) ≡ Ok side

module _ (s : State) (p : Phrase term) (ts : List Lexeme) (ends : Ends term ts) (obeys : MeetsLookahead p ts) (fits : IsWithinLimits 0 p) where
  -- the measure, by cases on whether the phrase names a program
  measured_as : (o : Option ProgParts) → named_by s p ≡ o → fold_side making s p ts ≡ named_else (yield_before p ts) (option_map program_extent o) (fold_term making s p ts)
  measured_as o e = ap (λ x. named_else (yield_before p ts) x (fold_term making s p ts)) (measured_name s (lone_leaf p) ∙ ap (option_map program_extent) e)

  built_as : (k : ℕ) (o : Option ProgParts) → named_by s p ≡ o → built_side (grown s k) (yield_before p ts) ≡ program_or o (built_term (grown s k) (yield_before p ts))
  built_as k o e = ap (λ x. program_or x (built_term (grown s k) (yield_before p ts))) (ap (option_and_then (prog_named s.world s.progs)) (lone_term p ts ends) ∙ read_name s (lone_leaf p) ∙ e)

  prog_walk : (d : ProgParts) → named_by s p ≡ Some d → prog_size d.tree ≤ MAX_TERM_NODES → SideWalk s p ts (program_extent d) (prog_side d.tree)
  prog_walk d e small = record {
    measured = measured_as (Some d) e;
    is_side = record { parts = d; named = e; same = refl; small = small };
    nodes = omega (arith, small);
    small = small;
    built = λ k. built_as k (Some d) e;
  }

  term_walk : (m : Extent) (tree : Term) → named_by s p ≡ None → TermWalk s.world p m tree → SideWalk s p ts m (term_side tree)
  term_walk m tree e w = record {
    measured = measured_as None e ∙ ap (λ r. r >>= λ x. Ok (record { measure = x; tokens = yield_before p ts })) w.measured;
    is_side = term_is s.world p m tree w;
    nodes = w.nodes;
    small = w.small;
    built = λ k. built_as k None e ∙ ap (λ r. r >>= λ x. Ok (term_side x.0)) (tree_there (grown s k) p ts tree ends obeys w.built);
  }

  pub side_walks : (side : SideTree) → IsSide s p side → (m : Extent) × SideWalk s p ts m side
  side_walks (term_side e) h = let w = term_walks s.world p e fits h in (w.0, term_walk w.0 e (term_names_none s p (lone_leaf p) refl h.sound) w.1)
  side_walks (prog_side q) h = (program_extent h.parts, subst (λ t. SideWalk s p ts (program_extent h.parts) (prog_side t)) (sym h.same) (prog_walk h.parts h.named (subst (λ t. prog_size t ≤ MAX_TERM_NODES) h.same h.small)))

  by_name : (o : Option ProgParts) → named_by s p ≡ o → (x : Measurement Extent) → fold_side making s p ts ≡ Ok x → (x.measure).nodes ≤ MAX_TERM_NODES → (side : SideTree) × SideWalk s p ts x.measure side
  by_name (Some d) e x h few =
      let given : ok_of (record { measure = program_extent d; tokens = yield_before p ts }) ≡ Ok x = sym (measured_as (Some d) e) ∙ h in
      let same = same_ok (record { measure = program_extent d; tokens = yield_before p ts }) x given in
      let n : (program_extent d).nodes ≤ MAX_TERM_NODES = subst (λ (y : Measurement Extent). (y.measure).nodes ≤ MAX_TERM_NODES) (sym same) few in
      (prog_side d.tree, subst (λ (y : Measurement Extent). SideWalk s p ts y.measure (prog_side d.tree)) same (prog_walk d e (omega (arith, n))))
  by_name None e x h few =
      let a = bind_ok (fold (extents s.world) (context 0 false false) p (λ m. m)) (λ m. Ok (record { measure = m; tokens = yield_before p ts })) x (sym (measured_as None e) ∙ h) in
      let same = same_ok (record { measure = a.0; tokens = yield_before p ts }) x a.2 in
      let n : (a.0).nodes ≤ MAX_TERM_NODES = subst (λ (y : Measurement Extent). (y.measure).nodes ≤ MAX_TERM_NODES) (sym same) few in
      let w = term_walked s.world p a.0 fits a.1 n in
      (term_side w.0, subst (λ (y : Measurement Extent). SideWalk s p ts y.measure (term_side w.0)) same (term_walk a.0 w.0 e w.1))

  pub side_walked : (x : Measurement Extent) → fold_side making s p ts ≡ Ok x → (x.measure).nodes ≤ MAX_TERM_NODES → (side : SideTree) × SideWalk s p ts x.measure side
  side_walked x h few = by_name (named_by s p) refl x h few

  -- the side built at the tokens of its measure
  pub side_built : (x : Measurement Extent) (side : SideTree) (k : ℕ) → fold_side making s p ts ≡ Ok x → SideWalk s p ts x.measure side → built_side (grown s k) x.tokens ≡ Ok side
  side_built x side k h w =
      let same = same_ok x (record { measure = x.measure; tokens = yield_before p ts }) (sym h ∙ w.measured) in
      ap (λ (y : Measurement Extent). built_side (grown s k) y.tokens) same ∙ w.built k
