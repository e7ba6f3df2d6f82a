-- If the syntax is correct, an item passes its checks exactly when it makes some state, and the result is that state.
use Rattle.std.proofs.Common.{◌≡◌, ℕ, ◌+◌, ◌≤◌, ◌<◌, List, [], ◌∷◌, ◌++◌, length, ⊎_elim, true, false, Ok, refl, sym, ap, subst, ◌∙◌, arith}
use Rattle.kat_model.specs.declared.limits.TheConstants.{MAX_EXPR_NODES}
use Rattle.kat_model.specs.Expressions.{CondTree}
use Rattle.kat_model.proofs.Places.{slice_get_last}
use Rattle.text_parser.specs.declared.terminal.Terminal.TheVariants.{Separator, Zero}
use Rattle.text_parser.specs.declared.terminal.Separator.TheVariants.{Comma, CurlyClose, Equals}
use Rattle.text_parser.specs.Lexemes.{Lexeme}
use Rattle.text_parser.specs.Parsed.{◌>>=◌}
use Rattle.text_parser.specs.Phrases.{term, Leaf, Phrase, cons_token, yield_before, IsWithinLimits}
use Rattle.text_parser.specs.Actions.{context}
use Rattle.text_parser.specs.Folds.{fold}
use Rattle.text_parser.proofs.ParserSoundness.{bind_ok}
use Rattle.text_parser.specs.Measuring.{extents}
use Rattle.text_parser.specs.declared.extent.Extent.{Extent}
use Rattle.text_parser.specs.Sizes.{cond_size}
use Rattle.while_lang.specs.ProgramSizes.{largest_in}
use Rattle.while_lang.specs.NamedProgs.{ProgParts}
use Rattle.while_lang.specs.BlockSound.{block_nesting}
use Rattle.while_lang.specs.BlockLaws.{AreLimited}
use Rattle.problem_file.specs.declared.item_reading.Declared.TheVariants as what
use Rattle.problem_file.specs.declared.item_reading.Comparison.{Comparison}
use Rattle.problem_file.specs.declared.item_reading.Comparison.TheVariants.{Equal, Below}
use Rattle.while_lang.specs.Files.{SideTree, triple}
use Rattle.problem_file.specs.Files.{State, most_goals, width_of, state_goal}
use Rattle.problem_file.specs.Numbers.{AreNarrow, check_numbers}
use Rattle.problem_file.specs.ItemActions.{Measurement, SidesMeasurement, TripleMeasurement}
use Rattle.problem_file.specs.Making.{built_cond, built_side, built_goal, count_sides, count_parts, begin_goal, compared, pose_sides, pose_triple, making}
use Rattle.problem_file.specs.Phrases.{Names, one_name, more_names, TriplePhrase, Body, tests, actions, variables, definition, program, hypothesis, hyp_triple, rounds, width, goal_equal, goal_below, goal_triple, Item}
use Rattle.problem_file.specs.Phrases.{braced_onto, triple_onto, sides_onto, ended, spelled, TripleObeys, SidesObey, BodyObeys, ItemsObey, TripleFits, BodyFits, ItemsFit}
use Rattle.problem_file.specs.Folds.{fold_side, fold_triple, fold_sides, fold_comparison, fold_triple_goal, fold_body, fold_item, fold_items}
use Rattle.problem_file.specs.Sound.{EachName, DeclaresTest, DeclaresAction, DeclaresVar, side_size, grown, HasRoom, PosesSides, PosesTriple, Makes, MakeAll}
use Rattle.problem_file.specs.Laws.{ItemsAreMade}
use Rattle.problem_file.proofs.Results.{ok_of, same_ok, known}
use Rattle.problem_file.proofs.FoldedItems.{items_folded}
use Rattle.problem_file.proofs.MeasuredPhrases.{cond_is, cond_walked, cond_walks, cond_tree_there, after_cond}
use Rattle.problem_file.proofs.MeasuredSides.{side_walked, side_walks, side_built}
use Rattle.problem_file.proofs.WalkSteps.{test_there, action_there, var_there, test_declared, action_declared, var_declared, goal_there, goal_passed, rounds_there, rounds_set, width_there, width_set, numbers_there, numbers_passed, sides_there, sides_passed, parts_there, parts_passed}
use Rattle.problem_file.proofs.WalkedParts.{names_there, names_walked, definition_there, definition_walked, program_there, program_walked, zero_there, zero_walked, triple_hyp_there, triple_hyp_walked}

-- ---- goals

sides_posed : (c : Comparison) (s t : State) (at : ℕ) (p : Phrase term) (l : Leaf) (q : Phrase term) (e : Leaf) (ts : List Lexeme) → SidesObey p l q (ended e ts) → IsWithinLimits 0 p × IsWithinLimits 0 q → PosesSides (compared c) s p l q e t → fold_comparison making c s at p l q e ts ≡ Ok t
sides_posed c s t at p l q e ts obey fits h =
    let us = ended e ts in
    let after = cons_token (Separator Comma) l (yield_before q us) in
    let own = sides_onto p l q (ended e []) in
    let m = side_walks s p after refl obey.0 fits.0 h.left h.is_left in
    let n = side_walks s q us refl obey.1 fits.1 h.right h.is_right in
    let sides : SidesMeasurement Extent = record { left = record { measure = m.0; tokens = yield_before p after }; right = record { measure = n.0; tokens = yield_before q us } } in
    let sum = (m.0).nodes + (n.0).nodes in
    let count : (m.0).nodes + (n.0).nodes ≡ side_size h.left + side_size h.right = omega (arith, (m.1).nodes, (n.1).nodes) in
    let room : HasRoom s ((m.0).nodes + (n.0).nodes) = subst (HasRoom s) (sym count) h.room in
    rw (goal_there s at h.few, (m.1).measured, (n.1).measured, numbers_there (width_of s) own h.numbers, sides_there s at sides (omega (arith, (m.1).nodes, (m.1).small)) (omega (arith, (n.1).nodes, (n.1).small)) room, (m.1).built sum, (n.1).built sum, count, h.made) refl

sides_walked : (c : Comparison) (s t : State) (at : ℕ) (p : Phrase term) (l : Leaf) (q : Phrase term) (e : Leaf) (ts : List Lexeme) → SidesObey p l q (ended e ts) → IsWithinLimits 0 p × IsWithinLimits 0 q → fold_comparison making c s at p l q e ts ≡ Ok t → PosesSides (compared c) s p l q e t
sides_walked c s t at p l q e ts obey fits h =
    let us = ended e ts in
    let after = cons_token (Separator Comma) l (yield_before q us) in
    let own = sides_onto p l q (ended e []) in
    let poses = λ (m : SidesMeasurement Extent). check_numbers (width_of s) own >>= λ v. pose_sides c s at m in
    let a = bind_ok (begin_goal s at) (λ u. fold_sides making s p l q us >>= poses) t h in
    let z = bind_ok (fold_sides making s p l q us) poses t a.2 in
    let x = bind_ok (fold_side making s p after) (λ m. fold_side making s q us >>= λ n. Ok (record { left = m; right = n })) z.0 z.1 in
    let y = bind_ok (fold_side making s q us) (λ n. Ok (record { left = x.0; right = n })) z.0 x.2 in
    let r = bind_ok (check_numbers (width_of s) own) (λ v. pose_sides c s at z.0) t z.2 in
    let sides : SidesMeasurement Extent = record { left = x.0; right = y.0 } in
    let posed : pose_sides c s at sides ≡ Ok t = subst (λ v. pose_sides c s at v ≡ Ok t) (sym (same_ok sides z.0 y.2)) r.2 in
    let sum = ((x.0).measure).nodes + ((y.0).measure).nodes in
    let made = λ (v : State). built_side v (x.0).tokens >>= λ f. built_side v (y.0).tokens >>= λ g. Ok (state_goal v (compared c f g)) in
    let b = bind_ok (count_sides s at sides) made t posed in
    let d = sides_passed s b.0 at sides b.1 in
    let u = side_walked s p after refl obey.0 fits.0 x.0 x.1 d.0 in
    let v = side_walked s q us refl obey.1 fits.1 y.0 y.1 d.1 in
    let first : built_side (grown s sum) (x.0).tokens ≡ Ok u.0 = side_built s p after refl obey.0 fits.0 x.0 u.0 sum x.1 u.1 in
    let second : built_side (grown s sum) (y.0).tokens ≡ Ok v.0 = side_built s q us refl obey.1 fits.1 y.0 v.0 sum y.1 v.1 in
    let g : made (grown s sum) ≡ Ok t = subst (λ z. made z ≡ Ok t) (sym d.3) b.2 in
    let k = known (built_side (grown s sum) (x.0).tokens) u.0 (λ f. built_side (grown s sum) (y.0).tokens >>= λ g. Ok (state_goal (grown s sum) (compared c f g))) (Ok t) first g in
    let f : ok_of (state_goal (grown s sum) (compared c u.0 v.0)) ≡ Ok t = known (built_side (grown s sum) (y.0).tokens) v.0 (λ g. Ok (state_goal (grown s sum) (compared c u.0 g))) (Ok t) second k in
    let count : sum ≡ side_size u.0 + side_size v.0 = omega (arith, (u.1).nodes, (v.1).nodes) in
    record {
      few = goal_passed s at a.0 a.1;
      left = u.0;
      right = v.0;
      is_left = (u.1).is_side;
      is_right = (v.1).is_side;
      numbers = numbers_passed (width_of s) own r.0 r.1;
      room = subst (HasRoom s) count d.2;
      made = sym (same_ok _ t f) ∙ ap (λ z. state_goal (grown s z) (compared c u.0 v.0)) count;
    }

-- the phrases of a triple with these measures and their tokens; the middle measure has its tokens already
abbrev goal_at : TriplePhrase → List Lexeme → Extent → Measurement Extent → Extent → TripleMeasurement Extent
goal_at x ts m n o = record {
  pre = record { measure = m; tokens = yield_before (x.pre).inner (cons_token (Separator CurlyClose) (x.pre).right (yield_before x.body (braced_onto x.post ts))) };
  body = n;
  post = record { measure = o; tokens = yield_before (x.post).inner (cons_token (Separator CurlyClose) (x.post).right ts) };
}

-- the goal built from its three phrases
goal_built : (s : State) (m : TripleMeasurement Extent) (x : CondTree × List Lexeme) (y : SideTree) (z : CondTree × List Lexeme) → built_cond s true (m.pre).tokens ≡ Ok x → built_side s (m.body).tokens ≡ Ok y → built_cond s true (m.post).tokens ≡ Ok z → built_goal s m ≡ Ok (triple x.0 y z.0)
goal_built s m x y z e f g =
    ap (λ r. r >>= λ x. built_side s (m.body).tokens >>= λ y. built_cond s true (m.post).tokens >>= λ z. Ok (triple x.0 y z.0)) e
    ∙ ap (λ r. r >>= λ y. built_cond s true (m.post).tokens >>= λ z. Ok (triple x.0 y z.0)) f
    ∙ ap (λ r. r >>= λ z. Ok (triple x.0 y z.0)) g

triple_posed : (s t : State) (at : ℕ) (x : TriplePhrase) (e : Leaf) (ts : List Lexeme) → TripleObeys x (ended e ts) → TripleFits x → PosesTriple s x e t → fold_triple_goal making s at x e ts ≡ Ok t
triple_posed s t at x e ts obeys fits h =
    let us = ended e ts in
    let after = braced_onto x.post us in
    let own = triple_onto x (ended e []) in
    let m = cond_walks s.world true (x.pre).inner h.pre fits.0 h.is_pre in
    let n = side_walks s x.body after refl obeys.1 fits.1 h.body h.is_body in
    let o = cond_walks s.world true (x.post).inner h.post fits.2 h.is_post in
    let parts = goal_at x us m.0 (record { measure = n.0; tokens = yield_before x.body after }) o.0 in
    let sum = (m.0).nodes + (n.0).nodes + (o.0).nodes in
    let count : (m.0).nodes + (n.0).nodes + (o.0).nodes ≡ cond_size h.pre + side_size h.body + cond_size h.post = omega (arith, (m.1).nodes, (n.1).nodes, (o.1).nodes) in
    let room : HasRoom s ((m.0).nodes + (n.0).nodes + (o.0).nodes) = subst (HasRoom s) (sym count) h.room in
    let first = cond_tree_there (grown s sum) true (x.pre).inner (cons_token (Separator CurlyClose) (x.pre).right (yield_before x.body after)) h.pre refl obeys.0 (m.1).built in
    let last = cond_tree_there (grown s sum) true (x.post).inner (cons_token (Separator CurlyClose) (x.post).right us) h.post refl obeys.2 (o.1).built in
    rw (goal_there s at h.few, (m.1).measured, (n.1).measured, (o.1).measured, numbers_there (width_of s) own h.numbers, parts_there s at parts (omega (arith, (m.1).nodes, (m.1).small)) (omega (arith, (n.1).nodes, (n.1).small)) (omega (arith, (o.1).nodes, (o.1).small)) room, first, (n.1).built sum, last, count, h.made) refl

-- a triple with these measures, stated as a goal
triple_measured : (s t : State) (at : ℕ) (x : TriplePhrase) (e : Leaf) (us : List Lexeme) → TripleObeys x us → TripleFits x → (p : Extent) (q : Measurement Extent) (r : Extent) →
    fold (extents s.world) (context 1 false true) (x.pre).inner (λ m. m) ≡ Ok p → fold_side making s x.body (braced_onto x.post us) ≡ Ok q → fold (extents s.world) (context 1 false true) (x.post).inner (λ m. m) ≡ Ok r →
    length s.goals < most_goals s.limit → AreNarrow (width_of s) (triple_onto x (ended e [])) → pose_triple s at (goal_at x us p q r) ≡ Ok t → PosesTriple s x e t
triple_measured s t at x e us obeys fits p q r pre body post few numbers posed =
    let after = braced_onto x.post us in
    let parts = goal_at x us p q r in
    let made = λ (v : State). built_goal v parts >>= λ g. Ok (state_goal v g) in
    let b = bind_ok (count_parts s at parts) made t posed in
    let d = parts_passed s b.0 at parts b.1 in
    let u = cond_walked s.world true (x.pre).inner p pre d.0 in
    let v = side_walked s x.body after refl obeys.1 fits.1 q body d.1 in
    let w = cond_walked s.world true (x.post).inner r post d.2 in
    let sum = p.nodes + (q.measure).nodes + r.nodes in
    let rest = cons_token (Separator CurlyClose) (x.pre).right (yield_before x.body after) in
    let first = cond_tree_there (grown s sum) true (x.pre).inner rest u.0 refl obeys.0 (u.1).built in
    let inner : built_side (grown s sum) q.tokens ≡ Ok v.0 = side_built s x.body after refl obeys.1 fits.1 q v.0 sum body v.1 in
    let last = cond_tree_there (grown s sum) true (x.post).inner (cons_token (Separator CurlyClose) (x.post).right us) w.0 refl obeys.2 (w.1).built in
    let whole : built_goal (grown s sum) parts ≡ Ok (triple u.0 v.0 w.0) = goal_built (grown s sum) parts (u.0, rest) v.0 (w.0, cons_token (Separator CurlyClose) (x.post).right us) first inner last in
    let g : made (grown s sum) ≡ Ok t = subst (λ z. made z ≡ Ok t) (sym d.4) b.2 in
    let f : ok_of (state_goal (grown s sum) (triple u.0 v.0 w.0)) ≡ Ok t = known (built_goal (grown s sum) parts) (triple u.0 v.0 w.0) (λ g. Ok (state_goal (grown s sum) g)) (Ok t) whole g in
    let count : sum ≡ cond_size u.0 + side_size v.0 + cond_size w.0 = omega (arith, (u.1).nodes, (v.1).nodes, (w.1).nodes) in
    record {
      few = few;
      pre = u.0;
      body = v.0;
      post = w.0;
      is_pre = cond_is s.world true (x.pre).inner p u.0 u.1;
      is_body = (v.1).is_side;
      is_post = cond_is s.world true (x.post).inner r w.0 w.1;
      numbers = numbers;
      room = subst (HasRoom s) count d.3;
      made = sym (same_ok _ t f) ∙ ap (λ k. state_goal (grown s k) (triple u.0 v.0 w.0)) count;
    }

triple_walked : (s t : State) (at : ℕ) (x : TriplePhrase) (e : Leaf) (ts : List Lexeme) → TripleObeys x (ended e ts) → TripleFits x → fold_triple_goal making s at x e ts ≡ Ok t → PosesTriple s x e t
triple_walked s t at x e ts obeys fits h =
    let us = ended e ts in
    let own = triple_onto x (ended e []) in
    let poses = λ (m : TripleMeasurement Extent). check_numbers (width_of s) own >>= λ v. pose_triple s at m in
    let a = bind_ok (begin_goal s at) (λ u. fold_triple making s true x us >>= poses) t h in
    let z = bind_ok (fold_triple making s true x us) poses t a.2 in
    let p = after_cond s true (x.pre).inner (cons_token (Separator CurlyClose) (x.pre).right (yield_before x.body (braced_onto x.post us))) _ z.0 z.1 in
    let q = bind_ok (fold_side making s x.body (braced_onto x.post us)) _ z.0 p.2 in
    let r = after_cond s true (x.post).inner (cons_token (Separator CurlyClose) (x.post).right us) _ z.0 q.2 in
    let i = bind_ok (check_numbers (width_of s) own) (λ v. pose_triple s at z.0) t z.2 in
    let posed : pose_triple s at (goal_at x us p.0 q.0 r.0) ≡ Ok t = subst (λ v. pose_triple s at v ≡ Ok t) (sym (same_ok (goal_at x us p.0 q.0 r.0) z.0 r.2)) i.2 in
    triple_measured s t at x e us obeys fits p.0 q.0 r.0 p.1 q.1 r.1 (goal_passed s at a.0 a.1) (numbers_passed (width_of s) own i.0 i.1) posed

-- ---- the expressions of programs stay small

names_limited : (each : State → Leaf → State → Type 0) → ((s : State) (l : Leaf) (t : State) → each s l t → t.progs ≡ s.progs) → (ns : Names) (s t : State) → EachName each s ns t → t.progs ≡ s.progs
names_limited each same (one_name l) s t h = same s l t h
names_limited each same (more_names l c ns) s t h = names_limited each same ns h.0 t h.2 ∙ same s l h.0 h.1

-- an additional program
prog_limited : (ps : List ProgParts) (d : ProgParts) → AreLimited ps → largest_in d.tree ≤ MAX_EXPR_NODES → AreLimited (ps ++ d ∷ [])
prog_limited ps d old new i p e = ⊎_elim (λ h. old i p h) (λ h. subst (λ (q : ProgParts). largest_in q.tree ≤ MAX_EXPR_NODES) h.1 new) (slice_get_last ps d i p e)

abbrev progs_of : State → List ProgParts
progs_of s = s.progs

body_limited : (b : Body) (s t : State) → Makes s b t → AreLimited s.progs → AreLimited t.progs
body_limited (tests ns e) s t h old = subst AreLimited (sym (names_limited DeclaresTest (λ s l t made. ap progs_of made.2) ns s t h)) old
body_limited (actions ns e) s t h old = subst AreLimited (sym (names_limited DeclaresAction (λ s l t made. ap progs_of made.2) ns s t h)) old
body_limited (variables ns e) s t h old = subst AreLimited (sym (names_limited DeclaresVar (λ s l t made. ap progs_of made.2) ns s t h)) old
body_limited (definition name q p e) s t h old = subst AreLimited (sym (ap progs_of h.made)) old
body_limited (program name b) s t h old =
    let d : ProgParts = record { tree = h.tree; nesting = block_nesting s.world s.progs b } in
    subst AreLimited (sym (ap progs_of h.made)) (prog_limited s.progs d old h.is_block.narrow)
body_limited (hypothesis p q z e) s t h old = subst AreLimited (sym (ap progs_of h.made)) old
body_limited (hyp_triple l x e) s t h old = subst AreLimited (sym (ap progs_of h.made)) old
body_limited (rounds n e) s t h old = subst AreLimited (sym (ap progs_of h.made)) old
body_limited (width n e) s t h old = subst AreLimited (sym (ap progs_of h.made)) old
body_limited (goal_equal l p c q e) s t h old = subst AreLimited (sym (ap progs_of h.made)) old
body_limited (goal_below l p c q e) s t h old = subst AreLimited (sym (ap progs_of h.made)) old
body_limited (goal_triple l x e) s t h old = subst AreLimited (sym (ap progs_of h.made)) old

-- ---- any item

body_there : (b : Body) (s t : State) (at : ℕ) (ts : List Lexeme) → AreLimited s.progs → BodyObeys b ts → BodyFits b → Makes s b t → fold_body making s at b ts ≡ Ok t
body_there (tests ns e) s t at ts limited obeys fits h = names_there what.Test _ test_there ns s t h
body_there (actions ns e) s t at ts limited obeys fits h = names_there what.Action _ action_there ns s t h
body_there (variables ns e) s t at ts limited obeys fits h = names_there what.Var _ var_there ns s t h
body_there (definition name q p e) s t at ts limited obeys fits h = definition_there s t at name p (ended e ts) refl obeys fits h
body_there (program name b) s t at ts limited obeys fits h = program_there s t at name b ts limited obeys fits h
body_there (hypothesis p q z e) s t at ts limited obeys fits h = zero_there s t at p (cons_token (Separator Equals) q (cons_token Zero z (ended e ts))) refl obeys fits h
body_there (hyp_triple l x e) s t at ts limited obeys fits h = triple_hyp_there s t at x (ended e ts) obeys fits h
body_there (rounds n e) s t at ts limited obeys fits h = rounds_there s at n t h
body_there (width n e) s t at ts limited obeys fits h = width_there s at n t h
body_there (goal_equal l p c q e) s t at ts limited obeys fits h = sides_posed Equal s t at p c q e ts obeys fits h
body_there (goal_below l p c q e) s t at ts limited obeys fits h = sides_posed Below s t at p c q e ts obeys fits h
body_there (goal_triple l x e) s t at ts limited obeys fits h = triple_posed s t at x e ts obeys fits h

body_walked : (b : Body) (s t : State) (at : ℕ) (ts : List Lexeme) → AreLimited s.progs → BodyObeys b ts → BodyFits b → fold_body making s at b ts ≡ Ok t → Makes s b t
body_walked (tests ns e) s t at ts limited obeys fits h = names_walked what.Test _ test_declared ns s t h
body_walked (actions ns e) s t at ts limited obeys fits h = names_walked what.Action _ action_declared ns s t h
body_walked (variables ns e) s t at ts limited obeys fits h = names_walked what.Var _ var_declared ns s t h
body_walked (definition name q p e) s t at ts limited obeys fits h = definition_walked s t at name p (ended e ts) refl obeys fits h
body_walked (program name b) s t at ts limited obeys fits h = program_walked s t at name b ts limited obeys fits h
body_walked (hypothesis p q z e) s t at ts limited obeys fits h = zero_walked s t at p (cons_token (Separator Equals) q (cons_token Zero z (ended e ts))) refl obeys fits h
body_walked (hyp_triple l x e) s t at ts limited obeys fits h = triple_hyp_walked s t at x (ended e ts) obeys fits h
body_walked (rounds n e) s t at ts limited obeys fits h = rounds_set s at n t h
body_walked (width n e) s t at ts limited obeys fits h = width_set s at n t h
body_walked (goal_equal l p c q e) s t at ts limited obeys fits h = sides_walked Equal s t at p c q e ts obeys fits h
body_walked (goal_below l p c q e) s t at ts limited obeys fits h = sides_walked Below s t at p c q e ts obeys fits h
body_walked (goal_triple l x e) s t at ts limited obeys fits h = triple_walked s t at x e ts obeys fits h

-- ---- all items

all_there : (is : List Item) (s t : State) → AreLimited s.progs → ItemsObey is → ItemsFit is → MakeAll s is t → fold_items making s is ≡ Ok t
all_there [] s t limited obey fit h = ap Ok (sym h)
all_there (i ∷ is) s t limited obey fit h = rw (body_there i.body s h.0 (i.keyword).at (spelled is) limited obey.0 fit.0 h.1) (all_there is h.0 t (body_limited i.body s h.0 h.1 limited) obey.1 fit.1 h.2)

all_walked : (is : List Item) (s t : State) → AreLimited s.progs → ItemsObey is → ItemsFit is → fold_items making s is ≡ Ok t → MakeAll s is t
all_walked [] s t limited obey fit e = sym (same_ok s t e)
all_walked (i ∷ is) s t limited obey fit e =
    let a = bind_ok (fold_item making s i (spelled is)) (λ u. fold_items making u is) t e in
    let made = body_walked i.body s a.0 (i.keyword).at (spelled is) limited obey.0 fit.0 a.1 in
    (a.0, made, all_walked is a.0 t (body_limited i.body s a.0 made limited) obey.1 fit.1 a.2)

pub items_are_made : ItemsAreMade
items_are_made s t items ts limited spells =
    let folded = items_folded making s items ts spells.file in (
      (λ e. all_walked items s t limited spells.file.obey spells.fit (sym folded ∙ e)),
      (λ h. folded ∙ all_there items s t limited spells.file.obey spells.fit h),
    )
