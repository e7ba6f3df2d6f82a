-- Reading the tokens of items with any actions gives the fold of the actions over the items.
use Rattle.std.proofs.Common.{◌≡◌, ℕ, zero, suc, ◌≤◌, List, [], ◌∷◌, length, drop, Bool, true, false, cond as if_true, Result, Ok, Err, Option, Some, None, refl, ap, ◌∙◌, arith}
use Rattle.std.specs.Option.{option_and_then}
use Rattle.text_parser.specs.declared.fault.TextFault.{TextFault}
use Rattle.text_parser.specs.declared.terminal.Terminal.TheVariants.{Keyword, Separator, Zero}
use Rattle.text_parser.specs.declared.terminal.Separator.TheVariants.{Comma, Semicolon, CurlyClose, Equals}
use Rattle.text_parser.specs.Lexemes.{Lexeme, is_terminal}
use Rattle.text_parser.specs.Parsed.{Parsed, ◌>>=◌, before, change, then_expects}
use Rattle.text_parser.specs.Actions.{context}
use Rattle.text_parser.specs.Phrases.{term, cond, Leaf, Phrase, cons_token, yield_before, MeetsLookahead}
use Rattle.text_parser.specs.Ends.{Ends}
use Rattle.text_parser.specs.Folds.{fold}
use Rattle.text_parser.proofs.ParserCompleteness.{then_rest, checked, changed, closed, term_parsed, cond_parsed}
use Rattle.text_parser.proofs.Longest.{longest}
use Rattle.while_lang.specs.BlockPhrases.{block, BlockPhrase, block_before, BlockObeys}
use Rattle.while_lang.specs.BlockFolds.{fold_block}
use Rattle.while_lang.proofs.BlockCompleteness.{parsed as block_parsed}
use Rattle.problem_file.specs.declared.item_reading.Declared.TheVariants as what
use Rattle.problem_file.specs.declared.item_reading.Setting.{Setting}
use Rattle.problem_file.specs.declared.item_reading.Setting.TheVariants as setting
use Rattle.problem_file.specs.declared.item_reading.Comparison.{Comparison}
use Rattle.problem_file.specs.declared.item_reading.Comparison.TheVariants.{Equal, Below}
use Rattle.problem_file.specs.Numbers.{until}
use Rattle.problem_file.specs.ItemActions.{Measurement, ItemActions}
use Rattle.problem_file.specs.Items.{at_number, lone_name, term_by, cond_by, block_by, named_or, side_by, braced_by, middle_by, triple_by, then_do, then_pose, prog_by, zero_by, setting_by, sides_by, comparison_by, triple_goal_by, item_by, items_within, items_by}
use Rattle.problem_file.specs.Phrases.{Numeral, zero_number, one_number, other_number, wide_number, Braced, TriplePhrase}
use Rattle.problem_file.specs.Phrases.{Body, tests, actions, variables, definition, program, hypothesis, hyp_triple, rounds, width, goal_equal, goal_below, goal_triple, Item}
use Rattle.problem_file.specs.Phrases.{word_of, lone_leaf, numeral_onto, braced_onto, triple_onto, ended, sides_onto, prog_onto, body_onto, spelled, BracedObeys, TripleObeys, SidesObey, BodyObeys, ItemsObey, IsFile}
use Rattle.problem_file.specs.Folds.{numeral_leaf, numeral_value, fold_setting, fold_term, fold_cond, fold_prog, named_else, fold_side, fold_braced, fold_middle, fold_triple, fold_sides, fold_comparison, fold_triple_goal, fold_program, fold_body, fold_item, fold_items}
use Rattle.problem_file.proofs.NameWalks.{declaration_folded}
use Rattle.problem_file.proofs.PhraseFronts.{no_triple, items_long, lone_term, lone_rest, text_of}
use Rattle.problem_file.proofs.Appends.{until_prog, until_sides, until_triple}

-- ---- steps

-- the result of a part's tokens, then the result of the rest
step : {V W : Type 0} (m : Parsed V) (ts us : List Lexeme) (v : Result V TextFault) (k : V × List Lexeme → Parsed W) (l : V → Result W TextFault) → m ≡ before ts v → ((x : V) → k (x, ts) ≡ before us (l x)) → (m >>= k) ≡ before us (v >>= l)
step m ts us v k l e h = ap (λ r. r >>= k) e ∙ then_rest ts us v k l h

done : {S M : Type 0} (f : M → Result S TextFault) (m : Parsed M) (end : Leaf) (ts : List Lexeme) (v : Result M TextFault) → m ≡ before (ended end ts) v → then_do f m ≡ before ts (v >>= f)
done {S} f m end ts v e = ap (then_do f) e ∙ by_value v where
  by_value : (r : Result _ TextFault) → then_do f (before (ended end ts) r) ≡ before ts (r >>= f)
  by_value (Ok x) = refl
  by_value (Err x) = refl

-- the same if the numbers of the item are checked first
posed : {S X M : Type 0} (g : ItemActions S X) (s : S) (us own : List Lexeme) (f : M → Result S TextFault) (m : Parsed M) (end : Leaf) (ts : List Lexeme) (v : Result M TextFault) → until us ts ≡ own → m ≡ before (ended end ts) v →
    then_pose g s us f m ≡ before ts (v >>= λ x. g.check_numbers s own >>= λ u. f x)
posed {S} {X} {M} g s us own f m end ts v h e = ap (then_pose g s us f) e ∙ by_value v where
  look : (r : Result (Unit {0}) TextFault) (x : M) → (r >>= λ u. before ts (f x)) ≡ before ts (r >>= λ u. f x)
  look (Ok u) x = refl
  look (Err d) x = refl

  by_value : (r : Result M TextFault) → then_pose g s us f (before (ended end ts) r) ≡ before ts (r >>= λ x. g.check_numbers s own >>= λ u. f x)
  by_value (Ok x) = rw (h) (look (g.check_numbers s own) x)
  by_value (Err d) = refl

-- ---- numbers

-- the action at a number, and the tokens after it
number_folded : {S : Type 0} (f : ℕ → ℕ → Result S TextFault) (n : Numeral) (ts : List Lexeme) → at_number f (numeral_onto n ts) ≡ before ts (numeral_value n >>= λ v. f (numeral_leaf n).at v)
number_folded f (zero_number l) ts = refl
number_folded f (one_number l) ts = refl
number_folded f (other_number l n) ts = refl
number_folded f (wide_number l) ts = refl

module _ {S X : Type 0} (g : ItemActions S X) where
  -- ---- parts of items

  term_folded : (s : S) (p : Phrase term) (ts : List Lexeme) → Ends term ts → MeetsLookahead p ts → term_by g s (yield_before p ts) ≡ before ts (fold_term g s p ts)
  term_folded s p ts ends obeys =
      let c = context 0 false false in
      let measured : X → Measurement X = λ m. record { measure = m; tokens = yield_before p ts } in
      ap (change measured) (term_parsed (g.phrases s) p c ts obeys (longest p ts ends)) ∙ changed ts measured (fold (g.phrases s) c p (g.phrases s).one_of)

  cond_folded : (s : S) (compares : Bool) (p : Phrase cond) (ts : List Lexeme) → Ends cond ts → MeetsLookahead p ts → cond_by g s compares (yield_before p ts) ≡ before ts (fold_cond g s compares p ts)
  cond_folded s compares p ts ends obeys =
      let c = context 1 false compares in
      let measured : X → Measurement X = λ m. record { measure = m; tokens = yield_before p ts } in
      ap (change measured) (cond_parsed (g.phrases s) p c ts obeys (longest p ts ends)) ∙ changed ts measured (fold (g.phrases s) c p (g.phrases s).conds.one_of)

  block_folded : (s : S) (b : BlockPhrase block) (ts : List Lexeme) → BlockObeys b ts → block_by g s (block_before b ts) ≡ before ts (fold_prog g s b ts)
  block_folded s b ts obeys =
      let measured : X → Measurement X = λ m. record { measure = m; tokens = block_before b ts } in
      ap (change measured) (block_parsed (g.blocks s) b 0 (g.blocks s).none ts obeys) ∙ changed ts measured (fold_block (g.blocks s) 0 b (g.blocks s).none)

  -- a side is the program that it names, or its term
  named_folded : (us ts : List Lexeme) (o : Option X) (m : Parsed (Measurement X)) (r : Result (Measurement X) TextFault) → ((x : X) → o ≡ Some x → drop 1 us ≡ ts) → m ≡ before ts r → named_or us o m ≡ before ts (named_else us o r)
  named_folded us ts (Some x) m r rest e = ap (λ vs. Ok (record { measure = x; tokens = us }, vs)) (rest x refl)
  named_folded us ts None m r rest e = e

  -- the tokens after a lone name are the tokens after the term
  alone_rest : (s : S) (p : Phrase term) (ts : List Lexeme) (o : Option Leaf) → lone_leaf p ≡ o → (x : X) → option_and_then (g.program s) (text_of o) ≡ Some x → drop 1 (yield_before p ts) ≡ ts
  alone_rest s p ts (Some l) e x h = lone_rest p ts l e
  alone_rest s p ts None e x h = absurd cc

  -- the lookup by the text of the name
  by_text : (s : S) (o : Option Leaf) → option_and_then (g.program s) (text_of o) ≡ option_and_then (λ l. g.program s l.text) o
  by_text s (Some l) = refl
  by_text s None = refl

  side_folded : (s : S) (p : Phrase term) (ts : List Lexeme) → Ends term ts → MeetsLookahead p ts → side_by g s (yield_before p ts) ≡ before ts (fold_side g s p ts)
  side_folded s p ts ends obeys =
      let us = yield_before p ts in
      let found : option_and_then (g.program s) (lone_name us) ≡ option_and_then (g.program s) (text_of (lone_leaf p)) = ap (option_and_then (g.program s)) (lone_term p ts ends) in
      ap (λ o. named_or us o (term_by g s us)) found
      ∙ named_folded us ts (option_and_then (g.program s) (text_of (lone_leaf p))) (term_by g s us) (fold_term g s p ts) (alone_rest s p ts (lone_leaf p) refl) (term_folded s p ts ends obeys)
      ∙ ap (λ o. before ts (named_else us o (fold_term g s p ts))) (by_text s (lone_leaf p))

  middle_folded : (s : S) (in_goal : Bool) (p : Phrase term) (ts : List Lexeme) → Ends term ts → MeetsLookahead p ts → middle_by g s in_goal (yield_before p ts) ≡ before ts (fold_middle g s in_goal p ts)
  middle_folded s true p ts ends obeys = side_folded s p ts ends obeys
  middle_folded s false p ts ends obeys = term_folded s p ts ends obeys

  braced_folded : (s : S) (compares : Bool) (b : Braced) (ts : List Lexeme) → BracedObeys b ts → braced_by g s compares (braced_onto b ts) ≡ before ts (fold_braced g s compares b ts)
  braced_folded s compares b ts obeys = ap (then_expects (is_terminal (Separator CurlyClose))) (cond_folded s compares b.inner (cons_token (Separator CurlyClose) b.right ts) refl obeys) ∙ closed (Separator CurlyClose) b.right ts (fold_braced g s compares b ts) refl

  triple_folded : (s : S) (compares : Bool) (x : TriplePhrase) (ts : List Lexeme) → TripleObeys x ts → triple_by g s compares (triple_onto x ts) ≡ before ts (fold_triple g s compares x ts)
  triple_folded s compares x ts obeys =
      let after = braced_onto x.post ts in
      step (braced_by g s compares (triple_onto x ts)) (yield_before x.body after) ts (fold_braced g s compares x.pre (yield_before x.body after)) _ _ (braced_folded s compares x.pre (yield_before x.body after) obeys.0)
      (λ m. step (middle_by g s compares (yield_before x.body after)) after ts (fold_middle g s compares x.body after) _ _ (middle_folded s compares x.body after refl obeys.1)
      (λ n. step (braced_by g s compares after) ts ts (fold_braced g s compares x.post ts) _ _ (braced_folded s compares x.post ts obeys.2) (λ o. refl)))

  sides_folded : (s : S) (p : Phrase term) (c : Leaf) (q : Phrase term) (ts : List Lexeme) → Ends term ts → SidesObey p c q ts → sides_by g s (sides_onto p c q ts) ≡ before ts (fold_sides g s p c q ts)
  sides_folded s p c q ts ends obey =
      let after = cons_token (Separator Comma) c (yield_before q ts) in
      step (then_expects (is_terminal (Separator Comma)) (side_by g s (yield_before p after))) (yield_before q ts) ts (fold_side g s p after) _ _ (ap (then_expects (is_terminal (Separator Comma))) (side_folded s p after refl obey.0) ∙ closed (Separator Comma) c (yield_before q ts) (fold_side g s p after) refl)
      (λ m. step (side_by g s (yield_before q ts)) ts ts (fold_side g s q ts) _ _ (side_folded s q ts ends obey.1) (λ n. refl))

  -- ---- items

  zero_folded : (s : S) (at : ℕ) (p : Phrase term) (q z end : Leaf) (ts : List Lexeme) → MeetsLookahead p (cons_token (Separator Equals) q (cons_token Zero z (ended end ts))) → zero_by g s at (yield_before p (cons_token (Separator Equals) q (cons_token Zero z (ended end ts)))) ≡ before ts (fold_term g s p (cons_token (Separator Equals) q (cons_token Zero z (ended end ts))) >>= g.state_zero s at)
  zero_folded s at p q z end ts obeys =
      let after = cons_token Zero z (ended end ts) in
      let v = fold_term g s p (cons_token (Separator Equals) q after) in
      done (g.state_zero s at) _ end ts v (
      ap (λ m. then_expects (is_terminal Zero) (then_expects (is_terminal (Separator Equals)) m)) (term_folded s p (cons_token (Separator Equals) q after) refl obeys)
      ∙ ap (then_expects (is_terminal Zero)) (closed (Separator Equals) q after v refl)
      ∙ closed Zero z (ended end ts) v refl)

  definition_folded : (s : S) (at : ℕ) (name : Leaf) (p : Phrase term) (end : Leaf) (ts : List Lexeme) → MeetsLookahead p (ended end ts) → (then_expects (is_terminal (Separator Semicolon)) (term_by g s (yield_before p (ended end ts))) >>= λ x. before x.1 (g.define s at name.text x.0)) ≡ before ts (fold_term g s p (ended end ts) >>= g.define s at name.text)
  definition_folded s at name p end ts obeys =
      let v = fold_term g s p (ended end ts) in
      step (then_expects (is_terminal (Separator Semicolon)) (term_by g s (yield_before p (ended end ts)))) ts ts v (λ x. before x.1 (g.define s at name.text x.0)) (g.define s at name.text) (
      ap (then_expects (is_terminal (Separator Semicolon))) (term_folded s p (ended end ts) refl obeys)
      ∙ closed (Separator Semicolon) end ts v refl)
      (λ m. refl)

  setting_folded : (what : Setting) (s : S) (at : ℕ) (n : Numeral) (e : Leaf) (ts : List Lexeme) → setting_by g what s at (numeral_onto n (ended e ts)) ≡ before ts (fold_setting g what s at n)
  setting_folded what s at n e ts = checked ts (g.begin_setting what s at) _ _
      (λ u. ap (then_expects (is_terminal (Separator Semicolon))) (number_folded (g.set what s) n (ended e ts)) ∙ closed (Separator Semicolon) e ts (numeral_value n >>= λ v. g.set what s (numeral_leaf n).at v) refl)

  prog_folded : (s : S) (at : ℕ) (name : Leaf) (b : BlockPhrase block) (ts : List Lexeme) → BlockObeys b ts → prog_by g s at (prog_onto name b ts) ≡ before ts (fold_program g s at name b ts)
  prog_folded s at name b ts obeys =
      let own = prog_onto name b [] in
      checked ts (g.check_new s name.at name.text) _ _ (λ u.
      step (block_by g s (block_before b ts)) ts ts (fold_prog g s b ts) _ _ (block_folded s b ts obeys)
      (λ m. rw (until_prog name b ts) (checked ts (g.check_numbers s own) _ _ (λ v. refl))))

  comparison_folded : (c : Comparison) (s : S) (at : ℕ) (p : Phrase term) (l : Leaf) (q : Phrase term) (e : Leaf) (ts : List Lexeme) → SidesObey p l q (ended e ts) →
      (g.begin_goal s at >>= λ u. comparison_by g c s at (sides_onto p l q (ended e ts))) ≡ before ts (fold_comparison g c s at p l q e ts)
  comparison_folded c s at p l q e ts obey =
      checked ts (g.begin_goal s at) _ _ (λ u.
      posed g s (sides_onto p l q (ended e ts)) (sides_onto p l q (ended e [])) (g.pose_sides c s at) (sides_by g s (sides_onto p l q (ended e ts))) e ts (fold_sides g s p l q (ended e ts)) (until_sides p l q e ts) (sides_folded s p l q (ended e ts) refl obey))

  triple_goal_folded : (s : S) (at : ℕ) (x : TriplePhrase) (e : Leaf) (ts : List Lexeme) → TripleObeys x (ended e ts) →
      (g.begin_goal s at >>= λ u. triple_goal_by g s at (triple_onto x (ended e ts))) ≡ before ts (fold_triple_goal g s at x e ts)
  triple_goal_folded s at x e ts obeys =
      checked ts (g.begin_goal s at) _ _ (λ u.
      posed g s (triple_onto x (ended e ts)) (triple_onto x (ended e [])) (g.pose_triple s at) (triple_by g s true (triple_onto x (ended e ts))) e ts (fold_triple g s true x (ended e ts)) (until_triple x e ts) (triple_folded s true x (ended e ts) obeys))

  body_folded : (b : Body) (s : S) (at : ℕ) (text : List ℕ) (ts : List Lexeme) → BodyObeys b ts → item_by g s (cons_token (Keyword (word_of b)) (record { at = at; text = text }) (body_onto b ts)) ≡ before ts (fold_body g s at b ts)
  body_folded (tests ns e) s at text ts obeys = declaration_folded (g.declare what.Test) ns s e ts
  body_folded (actions ns e) s at text ts obeys = declaration_folded (g.declare what.Action) ns s e ts
  body_folded (variables ns e) s at text ts obeys = declaration_folded (g.declare what.Var) ns s e ts
  body_folded (definition name q p e) s at text ts obeys = checked ts (g.check_new s name.at name.text) _ _ (λ u. definition_folded s at name p e ts obeys)
  body_folded (program name b) s at text ts obeys = prog_folded s at name b ts obeys
  body_folded (hypothesis p q z e) s at text ts obeys =
      let after = cons_token (Separator Equals) q (cons_token Zero z (ended e ts)) in
      checked ts (g.begin_hyp s at) _ _ (λ u.
      ap (λ b. if_true b (then_do (g.state_triple s at) (triple_by g s false (drop 1 (yield_before p after)))) (zero_by g s at (yield_before p after))) (no_triple p after)
      ∙ zero_folded s at p q z e ts obeys)
  body_folded (hyp_triple l x e) s at text ts obeys = checked ts (g.begin_hyp s at) _ _ (λ u. done (g.state_triple s at) (triple_by g s false (triple_onto x (ended e ts))) e ts (fold_triple g s false x (ended e ts)) (triple_folded s false x (ended e ts) obeys))
  body_folded (rounds n e) s at text ts obeys = setting_folded setting.Rounds s at n e ts
  body_folded (width n e) s at text ts obeys = setting_folded setting.Width s at n e ts
  body_folded (goal_equal l p c q e) s at text ts obeys = comparison_folded Equal s at p c q e ts obeys
  body_folded (goal_below l p c q e) s at text ts obeys = comparison_folded Below s at p c q e ts obeys
  body_folded (goal_triple l x e) s at text ts obeys = triple_goal_folded s at x e ts obeys

  then_items : (is : List Item) (n : ℕ) (r : Result S TextFault) → ((t : S) → items_within (item_by g) n t (spelled is) ≡ fold_items g t is) → (before (spelled is) r >>= λ x. items_within (item_by g) n x.0 x.1) ≡ (r >>= λ t. fold_items g t is)
  then_items is n (Ok t) h = h t
  then_items is n (Err e) h = refl

  within_folded : (is : List Item) (s : S) (n : ℕ) → ItemsObey is → length is ≤ n → items_within (item_by g) (suc n) s (spelled is) ≡ fold_items g s is
  within_folded [] s n obey le = refl
  within_folded (i ∷ is) s zero obey le = absurd (omega (arith, le))
  within_folded (i ∷ is) s (suc n) obey le =
      ap (λ m. m >>= λ x. items_within (item_by g) (suc n) x.0 x.1) (body_folded i.body s (i.keyword).at (i.keyword).text (spelled is) obey.0)
      ∙ then_items is (suc n) (fold_item g s i (spelled is)) (λ t. within_folded is t n obey.1 (omega (arith, le)))

  pub items_folded : (s : S) (is : List Item) (ts : List Lexeme) → IsFile is ts → items_by g s ts ≡ fold_items g s is
  items_folded s is ts file = ap (items_by g s) file.spells ∙ within_folded is s (length (spelled is)) file.obey (items_long is)
