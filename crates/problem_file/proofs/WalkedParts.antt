-- If the syntax is correct, a definition, a program or a hypothesis passes its checks exactly when it makes some state,
-- and the result is that state.
use Rattle.std.proofs.Common.{◌≡◌, ℕ, ◌+◌, ◌≤◌, List, [], false, Result, Ok, refl, sym, ap, subst, ◌∙◌, arith}
use Rattle.kat_model.specs.declared.limits.TheConstants.{MAX_TERM_NODES}
use Rattle.kat_model.specs.Trees.{Term, test_size, term_size}
use Rattle.kat_model.specs.Expressions.{CondTree, test_without_comparisons}
use Rattle.text_parser.specs.declared.fault.TextFault.{TextFault}
use Rattle.text_parser.specs.declared.terminal.Terminal.TheVariants.{Separator}
use Rattle.text_parser.specs.declared.terminal.Separator.TheVariants.{CurlyClose}
use Rattle.text_parser.specs.Lexemes.{Lexeme}
use Rattle.text_parser.specs.Parsed.{◌>>=◌}
use Rattle.text_parser.specs.Actions.{context}
use Rattle.text_parser.specs.Phrases.{term, Leaf, Phrase, cons_token, yield_before, MeetsLookahead, IsWithinLimits}
use Rattle.text_parser.specs.Ends.{Ends}
use Rattle.text_parser.specs.Folds.{fold}
use Rattle.text_parser.proofs.ParserSoundness.{bind_ok}
use Rattle.text_parser.specs.declared.extent.Extent.{Extent}
use Rattle.text_parser.specs.Measuring.{extents}
use Rattle.text_parser.specs.Sizes.{cond_size}
use Rattle.while_lang.specs.ProgramSizes.{prog_size}
use Rattle.while_lang.specs.BlockPhrases.{block, BlockPhrase, block_before, BlockObeys, BlockFits}
use Rattle.while_lang.specs.BlockLaws.{AreLimited}
use Rattle.problem_file.specs.declared.item_reading.Declared.{Declared}
use Rattle.problem_file.specs.Files.{State, width_of, define, add_prog, state_hyp, triple_term, check_new}
use Rattle.problem_file.specs.Numbers.{check_numbers}
use Rattle.problem_file.specs.ItemActions.{TripleMeasurement}
use Rattle.problem_file.specs.Making.{built_term, built_block, built_triple, count, begin_hyp, define_term, define_prog, state_zero, state_triple, declare, making}
use Rattle.problem_file.specs.Phrases.{Names, one_name, more_names, TriplePhrase, braced_onto, prog_onto, TripleObeys, TripleFits}
use Rattle.problem_file.specs.Folds.{fold_names, fold_term, fold_prog, fold_triple, fold_program}
use Rattle.problem_file.specs.Sound.{EachName, grown, HasRoom, Defines, DefinesProg, States, StatesTriple}
use Rattle.problem_file.proofs.Results.{ok_of, same_ok, known}
use Rattle.problem_file.proofs.MeasuredPhrases.{TermWalk, term_is, term_walked, term_walks, CondWalk, cond_is, cond_walked, cond_walks, tree_there, cond_tree_there, after_term, after_cond}
use Rattle.problem_file.proofs.MeasuredSides.{block_walked, block_walks, block_tree_there, after_block}
use Rattle.problem_file.proofs.WalkSteps.{new_there, new_passed, hyp_there, hyp_passed, numbers_there, numbers_passed, count_there, count_passed}

-- ---- names

pub names_there : (what : Declared) (P : State → Leaf → State → Type 0) → ((s : State) (l : Leaf) (t : State) → P s l t → declare what s l.at l.text ≡ Ok t) → (ns : Names) (s t : State) → EachName P s ns t → fold_names (declare what) s ns ≡ Ok t
names_there what P there (one_name l) s t h = there s l t h
names_there what P there (more_names l c ns) s t h = rw (there s l h.0 h.1) (names_there what P there ns h.0 t h.2)

pub names_walked : (what : Declared) (P : State → Leaf → State → Type 0) → ((s : State) (l : Leaf) (t : State) → declare what s l.at l.text ≡ Ok t → P s l t) → (ns : Names) (s t : State) → fold_names (declare what) s ns ≡ Ok t → EachName P s ns t
names_walked what P walked (one_name l) s t e = walked s l t e
names_walked what P walked (more_names l c ns) s t e =
    let a = bind_ok (declare what s l.at l.text) (λ u. fold_names (declare what) u ns) t e in
    (a.0, walked s l a.0 a.1, names_walked what P walked ns a.0 t a.2)

-- ---- definitions

pub definition_there : (s t : State) (at : ℕ) (name : Leaf) (p : Phrase term) (ts : List Lexeme) → Ends term ts → MeetsLookahead p ts → IsWithinLimits 0 p → Defines s name p t → (check_new s name.at name.text >>= λ u. fold_term making s p ts >>= define_term s at name.text) ≡ Ok t
definition_there s t at name p ts ends obeys fits h =
    let x = term_walks s.world p h.tree fits h.is_term in
    let w = x.1 in
    let few : (x.0).nodes ≤ MAX_TERM_NODES = omega (arith, w.nodes, w.small) in
    let room : HasRoom s (x.0).nodes = subst (HasRoom s) (sym w.nodes) h.room in
    rw (new_there s name.at name.text h.new, w.measured, count_there s at (x.0).nodes few room, tree_there (grown s (x.0).nodes) p ts h.tree ends obeys w.built, w.nodes, w.deep, h.made) refl

pub definition_walked : (s t : State) (at : ℕ) (name : Leaf) (p : Phrase term) (ts : List Lexeme) → Ends term ts → MeetsLookahead p ts → IsWithinLimits 0 p → (check_new s name.at name.text >>= λ u. fold_term making s p ts >>= define_term s at name.text) ≡ Ok t → Defines s name p t
definition_walked s t at name p ts ends obeys fits h =
    let a = bind_ok (check_new s name.at name.text) (λ u. fold_term making s p ts >>= define_term s at name.text) t h in
    let b = after_term s p ts (define_term s at name.text) t a.2 in
    let n = (b.0).nodes in
    let made = λ (v : State). built_term v (yield_before p ts) >>= λ x. Ok (define v name.text x.0 (b.0).nesting) in
    let c = bind_ok (count s at n) made t b.2 in
    let d = count_passed s c.0 at n c.1 in
    let x = term_walked s.world p b.0 fits b.1 d.0 in
    let w = x.1 in
    let g : made (grown s n) ≡ Ok t = subst (λ v. made v ≡ Ok t) (sym d.2) c.2 in
    let f : ok_of (define (grown s n) name.text x.0 (b.0).nesting) ≡ Ok t = known (built_term (grown s n) (yield_before p ts)) (x.0, ts) (λ x. Ok (define (grown s n) name.text x.0 (b.0).nesting)) (Ok t) (tree_there (grown s n) p ts x.0 ends obeys w.built) g in
    record {
      new = new_passed s name.at name.text a.0 a.1;
      tree = x.0;
      is_term = term_is s.world p b.0 x.0 w;
      room = subst (HasRoom s) w.nodes d.1;
      made = sym (same_ok _ t f) ∙ (ap (λ k. define (grown s k) name.text x.0 (b.0).nesting) w.nodes ∙ ap (λ k. define (grown s (term_size x.0)) name.text x.0 k) w.deep);
    }

-- ---- programs

pub program_there : (s t : State) (at : ℕ) (name : Leaf) (p : BlockPhrase block) (ts : List Lexeme) → AreLimited s.progs → BlockObeys p ts → BlockFits 0 p → DefinesProg s name p t → fold_program making s at name p ts ≡ Ok t
program_there s t at name p ts limited obeys fits h =
    let x = block_walks s.world s.progs p h.tree limited fits h.is_block in
    let w = x.1 in
    let few : (x.0).nodes ≤ MAX_TERM_NODES = omega (arith, w.nodes, h.is_block.small) in
    let room : HasRoom s (x.0).nodes = subst (HasRoom s) (sym w.nodes) h.room in
    rw (new_there s name.at name.text h.new, w.measured, numbers_there (width_of s) (prog_onto name p []) h.numbers, count_there s at (x.0).nodes few room, block_tree_there (grown s (x.0).nodes) p ts h.tree obeys h.is_block.built, w.nodes, w.deep, h.made) refl

pub program_walked : (s t : State) (at : ℕ) (name : Leaf) (p : BlockPhrase block) (ts : List Lexeme) → AreLimited s.progs → BlockObeys p ts → BlockFits 0 p → fold_program making s at name p ts ≡ Ok t → DefinesProg s name p t
program_walked s t at name p ts limited obeys fits h =
    let own = prog_onto name p [] in
    let a = bind_ok (check_new s name.at name.text) (λ u. fold_prog making s p ts >>= λ m. check_numbers (width_of s) own >>= λ v. define_prog s at name.text m) t h in
    let b = after_block s p ts (λ m. check_numbers (width_of s) own >>= λ v. define_prog s at name.text m) t a.2 in
    let n = (b.0).nodes in
    let z = bind_ok (check_numbers (width_of s) own) (λ v. define_prog s at name.text (record { measure = b.0; tokens = block_before p ts })) t b.2 in
    let made = λ (v : State). built_block v (block_before p ts) >>= λ x. Ok (add_prog v name.text x.0 (b.0).nesting) in
    let c = bind_ok (count s at n) made t z.2 in
    let d = count_passed s c.0 at n c.1 in
    let x = block_walked s.world s.progs p b.0 limited fits b.1 d.0 in
    let w = x.1 in
    let g : made (grown s n) ≡ Ok t = subst (λ v. made v ≡ Ok t) (sym d.2) c.2 in
    let f : ok_of (add_prog (grown s n) name.text x.0 (b.0).nesting) ≡ Ok t = known (built_block (grown s n) (block_before p ts)) (x.0, ts) (λ x. Ok (add_prog (grown s n) name.text x.0 (b.0).nesting)) (Ok t) (block_tree_there (grown s n) p ts x.0 obeys w.is_block.built) g in
    record {
      new = new_passed s name.at name.text a.0 a.1;
      tree = x.0;
      is_block = w.is_block;
      numbers = numbers_passed (width_of s) own z.0 z.1;
      room = subst (HasRoom s) w.nodes d.1;
      made = sym (same_ok _ t f) ∙ (ap (λ k. add_prog (grown s k) name.text x.0 (b.0).nesting) w.nodes ∙ ap (λ k. add_prog (grown s (prog_size x.0)) name.text x.0 k) w.deep);
    }

-- ---- hypotheses

pub zero_there : (s t : State) (at : ℕ) (p : Phrase term) (ts : List Lexeme) → Ends term ts → MeetsLookahead p ts → IsWithinLimits 0 p → States s p t → (begin_hyp s at >>= λ u. fold_term making s p ts >>= state_zero s at) ≡ Ok t
zero_there s t at p ts ends obeys fits h =
    let x = term_walks s.world p h.tree fits h.is_term in
    let w = x.1 in
    let few : (x.0).nodes ≤ MAX_TERM_NODES = omega (arith, w.nodes, w.small) in
    let room : HasRoom s (x.0).nodes = subst (HasRoom s) (sym w.nodes) h.room in
    rw (hyp_there s at h.few, w.measured, count_there s at (x.0).nodes few room, tree_there (grown s (x.0).nodes) p ts h.tree ends obeys w.built, w.nodes, h.made) refl

pub zero_walked : (s t : State) (at : ℕ) (p : Phrase term) (ts : List Lexeme) → Ends term ts → MeetsLookahead p ts → IsWithinLimits 0 p → (begin_hyp s at >>= λ u. fold_term making s p ts >>= state_zero s at) ≡ Ok t → States s p t
zero_walked s t at p ts ends obeys fits h =
    let a = bind_ok (begin_hyp s at) (λ u. fold_term making s p ts >>= state_zero s at) t h in
    let b = after_term s p ts (state_zero s at) t a.2 in
    let n = (b.0).nodes in
    let made = λ (v : State). built_term v (yield_before p ts) >>= λ x. Ok (state_hyp v x.0) in
    let c = bind_ok (count s at n) made t b.2 in
    let d = count_passed s c.0 at n c.1 in
    let x = term_walked s.world p b.0 fits b.1 d.0 in
    let w = x.1 in
    let g : made (grown s n) ≡ Ok t = subst (λ v. made v ≡ Ok t) (sym d.2) c.2 in
    let f : ok_of (state_hyp (grown s n) x.0) ≡ Ok t = known (built_term (grown s n) (yield_before p ts)) (x.0, ts) (λ x. Ok (state_hyp (grown s n) x.0)) (Ok t) (tree_there (grown s n) p ts x.0 ends obeys w.built) g in
    record {
      few = hyp_passed s at a.0 a.1;
      tree = x.0;
      is_term = term_is s.world p b.0 x.0 w;
      room = subst (HasRoom s) w.nodes d.1;
      made = sym (same_ok _ t f) ∙ ap (λ k. state_hyp (grown s k) x.0) w.nodes;
    }

-- ---- triples

-- the phrases of a triple with these measures and their tokens
abbrev pub triple_at : TriplePhrase → List Lexeme → Extent → Extent → Extent → TripleMeasurement Extent
triple_at x ts m n o = record {
  pre = record { measure = m; tokens = yield_before (x.pre).inner (cons_token (Separator CurlyClose) (x.pre).right (yield_before x.body (braced_onto x.post ts))) };
  body = record { measure = n; tokens = yield_before x.body (braced_onto x.post ts) };
  post = record { measure = o; tokens = yield_before (x.post).inner (cons_token (Separator CurlyClose) (x.post).right ts) };
}

-- the measured and built phrases of a stated triple
pub record TripleWalk (s : State) (x : TriplePhrase) (m n o : Extent) (pre : CondTree) (body : Term) (post : CondTree) : Type 0 where
  pub is_pre : CondWalk s.world false (x.pre).inner m pre
  pub is_body : TermWalk s.world x.body n body
  pub is_post : CondWalk s.world false (x.post).inner o post

module _ (s : State) where
  triple_there : (x : TriplePhrase) (ts : List Lexeme) (m n o : Extent) (pre : CondTree) (body : Term) (post : CondTree) → TripleWalk s x m n o pre body post → fold_triple making s false x ts ≡ Ok (triple_at x ts m n o)
  triple_there x ts m n o pre body post w = rw ((w.is_pre).measured, (w.is_body).measured, (w.is_post).measured) refl

  triple_built : (k : ℕ) (x : TriplePhrase) (ts : List Lexeme) (m n o : Extent) (pre : CondTree) (body : Term) (post : CondTree) → TripleObeys x ts → TripleWalk s x m n o pre body post → built_triple (grown s k) (triple_at x ts m n o) ≡ Ok (pre, body, post)
  triple_built k x ts m n o pre body post obeys w =
      let first = cond_tree_there (grown s k) false (x.pre).inner (cons_token (Separator CurlyClose) (x.pre).right (yield_before x.body (braced_onto x.post ts))) pre refl obeys.0 (w.is_pre).built in
      let inner = tree_there (grown s k) x.body (braced_onto x.post ts) body refl obeys.1 (w.is_body).built in
      let last = cond_tree_there (grown s k) false (x.post).inner (cons_token (Separator CurlyClose) (x.post).right ts) post refl obeys.2 (w.is_post).built in
      rw (first, inner, last) refl

  after_triple : {V : Type 0} (x : TriplePhrase) (ts : List Lexeme) (k : TripleMeasurement Extent → Result V TextFault) (y : V) → (fold_triple making s false x ts >>= k) ≡ Ok y
      → (m : Extent) × (n : Extent) × (o : Extent) × (fold (extents s.world) (context 1 false false) (x.pre).inner (λ m. m) ≡ Ok m) × (fold (extents s.world) (context 0 false false) x.body (λ m. m) ≡ Ok n) × (fold (extents s.world) (context 1 false false) (x.post).inner (λ m. m) ≡ Ok o) × (k (triple_at x ts m n o) ≡ Ok y)
  after_triple x ts k y e =
      let z = bind_ok (fold_triple making s false x ts) k y e in
      let a = after_cond s false (x.pre).inner (cons_token (Separator CurlyClose) (x.pre).right (yield_before x.body (braced_onto x.post ts))) _ z.0 z.1 in
      let b = after_term s x.body (braced_onto x.post ts) _ z.0 a.2 in
      let c = after_cond s false (x.post).inner (cons_token (Separator CurlyClose) (x.post).right ts) _ z.0 b.2 in
      (a.0, b.0, c.0, a.1, b.1, c.1, subst (λ v. k v ≡ Ok y) (sym (same_ok (triple_at x ts a.0 b.0 c.0) z.0 c.2)) z.2)

-- the size of a stated triple is the size of its term
triple_size : (pre : CondTree) (body : Term) (post : CondTree) → test_size (test_without_comparisons pre) ≡ cond_size pre → test_size (test_without_comparisons post) ≡ cond_size post → term_size (triple_term pre body post) ≡ cond_size pre + term_size body + cond_size post + 5
triple_size pre body post e f = omega (arith, e, f)

pub triple_hyp_there : (s t : State) (at : ℕ) (x : TriplePhrase) (ts : List Lexeme) → TripleObeys x ts → TripleFits x → StatesTriple s x t → (begin_hyp s at >>= λ u. fold_triple making s false x ts >>= state_triple s at) ≡ Ok t
triple_hyp_there s t at x ts obeys fits h =
    let m = cond_walks s.world false (x.pre).inner h.pre fits.0 h.is_pre in
    let n = term_walks s.world x.body h.body fits.1 h.is_body in
    let o = cond_walks s.world false (x.post).inner h.post fits.2 h.is_post in
    let w : TripleWalk s x m.0 n.0 o.0 h.pre h.body h.post = record { is_pre = m.1; is_body = n.1; is_post = o.1 } in
    let size = triple_size h.pre h.body h.post ((m.1).as_test refl) ((o.1).as_test refl) in
    let sum = (m.0).nodes + (n.0).nodes + (o.0).nodes + 5 in
    let count : (m.0).nodes + (n.0).nodes + (o.0).nodes + 5 ≡ term_size (triple_term h.pre h.body h.post) = omega (arith, size, (m.1).nodes, (n.1).nodes, (o.1).nodes) in
    let few : (m.0).nodes + (n.0).nodes + (o.0).nodes + 5 ≤ MAX_TERM_NODES = omega (arith, count, h.small) in
    let room : HasRoom s ((m.0).nodes + (n.0).nodes + (o.0).nodes + 5) = subst (HasRoom s) (sym count) h.room in
    rw (hyp_there s at h.few, triple_there s x ts m.0 n.0 o.0 h.pre h.body h.post w, count_there s at sum few room, triple_built s sum x ts m.0 n.0 o.0 h.pre h.body h.post obeys w, count, h.made) refl

pub triple_hyp_walked : (s t : State) (at : ℕ) (x : TriplePhrase) (ts : List Lexeme) → TripleObeys x ts → TripleFits x → (begin_hyp s at >>= λ u. fold_triple making s false x ts >>= state_triple s at) ≡ Ok t → StatesTriple s x t
triple_hyp_walked s t at x ts obeys fits h =
    let a = bind_ok (begin_hyp s at) (λ u. fold_triple making s false x ts >>= state_triple s at) t h in
    let b = after_triple s x ts (state_triple s at) t a.2 in
    let m = b.0 in
    let n = b.1 in
    let o = b.2 in
    let sum = m.nodes + n.nodes + o.nodes + 5 in
    let made = λ (v : State). built_triple v (triple_at x ts m n o) >>= λ z. Ok (state_hyp v (triple_term z.0 z.1 z.2)) in
    let c = bind_ok (count s at sum) made t b.6 in
    let d = count_passed s c.0 at sum c.1 in
    let u = cond_walked s.world false (x.pre).inner m b.3 (omega (arith, d.0)) in
    let v = term_walked s.world x.body n fits.1 b.4 (omega (arith, d.0)) in
    let q = cond_walked s.world false (x.post).inner o b.5 (omega (arith, d.0)) in
    let w : TripleWalk s x m n o u.0 v.0 q.0 = record { is_pre = u.1; is_body = v.1; is_post = q.1 } in
    let g : made (grown s sum) ≡ Ok t = subst (λ z. made z ≡ Ok t) (sym d.2) c.2 in
    let f : ok_of (state_hyp (grown s sum) (triple_term u.0 v.0 q.0)) ≡ Ok t = known (built_triple (grown s sum) (triple_at x ts m n o)) (u.0, v.0, q.0) (λ z. Ok (state_hyp (grown s sum) (triple_term z.0 z.1 z.2))) (Ok t) (triple_built s sum x ts m n o u.0 v.0 q.0 obeys w) g in
    let size = triple_size u.0 v.0 q.0 ((u.1).as_test refl) ((q.1).as_test refl) in
    let count : sum ≡ term_size (triple_term u.0 v.0 q.0) = omega (arith, size, (u.1).nodes, (v.1).nodes, (q.1).nodes) in
    record {
      few = hyp_passed s at a.0 a.1;
      pre = u.0;
      body = v.0;
      post = q.0;
      is_pre = cond_is s.world false (x.pre).inner m u.0 u.1;
      is_body = term_is s.world x.body n v.0 v.1;
      is_post = cond_is s.world false (x.post).inner o q.0 q.1;
      small = omega (arith, count, d.0);
      room = subst (HasRoom s) count d.1;
      made = sym (same_ok _ t f) ∙ ap (λ k. state_hyp (grown s k) (triple_term u.0 v.0 q.0)) count;
    }
