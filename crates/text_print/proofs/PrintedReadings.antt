-- A text printed within the limits reads back as the same tree.
use Rattle.std.proofs.Common.{◌≡◌, ◌≤◌, ◌+◌, ℕ, List, [], ◌∷◌, length, Bool, true, false, Result, Ok, refl, sym, ap, ◌∙◌, arith}
use Rattle.std.proofs.lemmas.Bool.{le-ltb}
use Rattle.kat_model.specs.declared.limits.TheConstants.{MAX_TERM_NODES, MAX_EXPR_NODES, MAX_OPEN}
use Rattle.kat_model.specs.Trees.{Term, term_size}
use Rattle.kat_model.specs.Expressions.{ExprTree, CondTree, has_comparison}
use Rattle.text_parser.specs.declared.fault.TextFault.{TextFault}
use Rattle.text_parser.specs.declared.lexer.TheConstants.{MAX_LEN}
use Rattle.text_parser.specs.Pieces.{spelled}
use Rattle.text_parser.proofs.Printed.{printed}
use Rattle.text_parser.specs.Parsed.{Parsed, before, place_of}
use Rattle.text_parser.specs.Actions.{context}
use Rattle.text_parser.specs.Exprs.{parse_expr, sums}
use Rattle.text_parser.specs.Conds.{parse_cond, disjunction}
use Rattle.text_parser.specs.Terms.{parse_term, choice}
use Rattle.text_parser.specs.Phrases.{term, cond, expr, Phrase, one_prod, one_star, one_conj, one_lit, one_mul, one_fac, yield_before, MeetsLookahead, IsWithinLimits}
use Rattle.text_parser.specs.Folds.{fold}
use Rattle.text_parser.proofs.ParserCompleteness.{term_parsed, cond_parsed, expr_parsed}
use Rattle.text_parser.proofs.Longest.{longest}
use Rattle.text_parser.specs.declared.meaning.Meaning.{Meaning}
use Rattle.text_parser.specs.declared.extent.Extent.{Extent}
use Rattle.text_parser.specs.Sizes.{expr_size, cond_size, largest_expr}
use Rattle.text_parser.specs.ScopeParts.{ScopeParts}
use Rattle.text_parser.specs.Building.{trees, cond_trees, expr_trees}
use Rattle.text_parser.specs.Measuring.{extents, cond_extents, expr_extents}
use Rattle.text_parser.specs.Readings.{within, phrased, term_at, cond_at, expr_at}
use Rattle.text_parser.specs.Sound.{IsSound, nesting}
use Rattle.text_parser.specs.Laws.{cond_nodes}
use Rattle.text_print.specs.Laws.{ReadsBack}
use Rattle.text_print.specs.Printing.{expr_pieces, cond_pieces, term_pieces, ExprIsNamed, CondIsNamed, TermIsNamed, expr_nesting, cond_nesting, term_nesting}
use Rattle.text_parser.proofs.Measured.{term_decided, cond_decided, expr_decided, term_measured, cond_measured, expr_measured, ok_value}
use Rattle.text_print.proofs.Separate.{nothing_ends, expr_separate, cond_separate, term_separate}
use Rattle.text_print.proofs.PrintedExprs.{expr_back}
use Rattle.text_print.proofs.PrintedConds.{cond_back}
use Rattle.text_print.proofs.PrintedTerms.{term_back}

finished : {V : Type 0} (limit at : ℕ) (m : Extent) (t : V) (n : ℕ) → m.nodes ≤ limit → m.nesting ≡ n → phrased (within limit at (Ok (m, []))) (Ok (t, [])) ≡ Ok (record { tree = t; nesting = n; rest = [] })
finished limit at m t n le e = rw (le-ltb limit m.nodes le, e) refl

pub read_as : {V : Type 0} (limit at : ℕ) (a : Parsed Extent) (b : Parsed V) (m : Extent) (t : V) (n : ℕ) → a ≡ Ok (m, []) → b ≡ Ok (t, []) → m.nodes ≤ limit → m.nesting ≡ n → phrased (within limit at a) b ≡ Ok (record { tree = t; nesting = n; rest = [] })
read_as limit at a b m t n e f le g =
    ap (λ (s : Parsed Extent). phrased (within limit at s) b) e
    ∙ ap (λ (s : Parsed _). phrased (within limit at (Ok (m, []))) s) f
    ∙ finished limit at m t n le g

pub inside_ok : {V : Type 0} (x y : V) (r : Result V TextFault) → r ≡ Ok x → r ≡ Ok y → x ≡ y
inside_ok x y r e f = let same : ◌≡◌ {A = Result _ TextFault} (Ok x) (Ok y) = sym e ∙ f in cc

few_nodes : (b : CondTree) → largest_expr b ≤ MAX_EXPR_NODES → cond_size b ≤ MAX_TERM_NODES → cond_nodes b ≤ MAX_TERM_NODES
few_nodes b large size = rw (le-ltb MAX_EXPR_NODES (largest_expr b) large) (omega arith)

module _ (w : ScopeParts) where
  read_term : (d : ℕ) (p : Phrase term) (e : Term) (n : ℕ) → MeetsLookahead p [] → fold (trees w) (context d false false) p (λ x. x ∷ []) ≡ Ok e → IsSound w (context d false false) p → IsWithinLimits d p → nesting w p ≡ n → d + n ≤ MAX_OPEN → term_size e ≤ MAX_TERM_NODES → term_at w d (yield_before p []) ≡ Ok (record { tree = e; nesting = n; rest = [] })
  read_term d p e n obeys built sound fits deep within_depth size =
      let c = context d false false in
      let m = ok_value (fold (extents w) c p (λ x. x)) ((term_decided w c p).1 (sound, fits)) in
      let k = term_measured w c p m.0 refl m.1 in
      let same : k.tree ≡ e = inside_ok k.tree e (fold (trees w) c p (λ x. x ∷ [])) k.built built in
      read_as MAX_TERM_NODES (place_of (yield_before p [])) (parse_term (extents w) choice c (yield_before p [])) (parse_term (trees w) choice c (yield_before p [])) m.0 e n
      (term_parsed (extents w) p c [] obeys (longest p [] refl) ∙ ap (before []) m.1)
      (term_parsed (trees w) p c [] obeys (longest p [] refl) ∙ ap (before []) built)
      (omega (arith, k.nodes, ap term_size same, size))
      (omega (arith, k.levels, deep, within_depth))

  read_cond : (d : ℕ) (compares : Bool) (p : Phrase cond) (b : CondTree) (n : ℕ) → MeetsLookahead p [] → fold (trees w) (context d false compares) p (λ x. x ∷ []) ≡ Ok b → IsSound w (context d false compares) p → IsWithinLimits d p → nesting w p ≡ n → d + n ≤ MAX_OPEN → largest_expr b ≤ MAX_EXPR_NODES → cond_size b ≤ MAX_TERM_NODES → cond_at w d compares (yield_before p []) ≡ Ok (record { tree = b; nesting = n; rest = [] })
  read_cond d compares p b n obeys built sound fits deep within_depth large size =
      let c = context d false compares in
      let m = ok_value (fold (extents w) c p (λ x. x)) ((cond_decided w c p).1 (sound, fits)) in
      let k = cond_measured w c p m.0 m.1 in
      let same : k.tree ≡ b = inside_ok k.tree b (fold (trees w) c p (λ x. x ∷ [])) k.built built in
      read_as MAX_TERM_NODES (place_of (yield_before p [])) (parse_cond (cond_extents w) disjunction c (yield_before p [])) (parse_cond (cond_trees w) disjunction c (yield_before p [])) m.0 b n
      (cond_parsed (extents w) p c [] obeys (longest p [] refl) ∙ ap (before []) m.1)
      (cond_parsed (trees w) p c [] obeys (longest p [] refl) ∙ ap (before []) built)
      (let few = few_nodes b large size in let given : (m.0).nodes ≡ cond_nodes b = k.nodes ∙ ap cond_nodes same in omega (arith, given, few))
      (omega (arith, k.levels, deep, within_depth))

  read_expr : (d : ℕ) (p : Phrase expr) (e : ExprTree) (n : ℕ) → MeetsLookahead p [] → fold (trees w) (context d false true) p (λ x. x) ≡ Ok e → IsSound w (context d false true) p → IsWithinLimits d p → nesting w p ≡ n → d + n ≤ MAX_OPEN → expr_size e ≤ MAX_EXPR_NODES → expr_at w d (yield_before p []) ≡ Ok (record { tree = e; nesting = n; rest = [] })
  read_expr d p e n obeys built sound fits deep within_depth size =
      let c = context d false true in
      let m = ok_value (fold (extents w) c p (λ x. x)) ((expr_decided w c p).1 (sound, fits)) in
      let k = expr_measured w c p m.0 m.1 in
      let same : k.tree ≡ e = inside_ok k.tree e (fold (trees w) c p (λ x. x)) k.built built in
      read_as MAX_EXPR_NODES (place_of (yield_before p [])) (parse_expr (expr_extents w) sums c (yield_before p [])) (parse_expr (expr_trees w) sums c (yield_before p [])) m.0 e n
      (expr_parsed (extents w) p c [] obeys (longest p [] refl) ∙ ap (before []) m.1)
      (expr_parsed (trees w) p c [] obeys (longest p [] refl) ∙ ap (before []) built)
      (omega (arith, k.nodes, ap expr_size same, size))
      (omega (arith, k.levels, deep, within_depth))

  module _ (names : Meaning → List ℕ) where
    pub term_reads : (e : Term) (d : ℕ) → TermIsNamed w names e → length (spelled (term_pieces names e [])) ≤ MAX_LEN → term_size e ≤ MAX_TERM_NODES → d + term_nesting e ≤ MAX_OPEN → ReadsBack (term_pieces names e []) (term_at w d) e (term_nesting e)
    term_reads e d is len size depth =
        let s = (term_back w names e is).0 0 [] in
        let p = one_prod (one_star s.phrase) in
        let built = s.holds.tree (context d false false) depth in
        record {
          lexes = printed (term_pieces names e []) (term_separate w names e is [] nothing_ends tt) len;
          reads = ap (term_at w d) s.spelled ∙ read_term d p e (term_nesting e) s.obeys (rw built refl) (s.holds.sound (context d false false) refl) (s.holds.fits d depth) s.holds.deep depth size;
        }

    pub cond_reads : (b : CondTree) (d : ℕ) (compares : Bool) → CondIsNamed w names b → (has_comparison b ≡ true → compares ≡ true) → length (spelled (cond_pieces names b [])) ≤ MAX_LEN → largest_expr b ≤ MAX_EXPR_NODES → cond_size b ≤ MAX_TERM_NODES → d + cond_nesting b ≤ MAX_OPEN → ReadsBack (cond_pieces names b []) (cond_at w d compares) b (cond_nesting b)
    cond_reads b d compares is may len large size depth =
        let s = cond_back w names b is 0 [] (λ n. refl) in
        let p = one_conj (one_lit s.phrase) in
        let built = s.holds.tree (context d false compares) depth in
        record {
          lexes = printed (cond_pieces names b []) (cond_separate w names b is [] nothing_ends tt) len;
          reads = ap (cond_at w d compares) s.spelled ∙ read_cond d compares p b (cond_nesting b) s.obeys (rw built refl) (s.holds.sound (context d false compares) may) (s.holds.fits d depth) s.holds.deep depth large size;
        }

    pub expr_reads : (e : ExprTree) (d : ℕ) → ExprIsNamed w names e → length (spelled (expr_pieces names e [])) ≤ MAX_LEN → expr_size e ≤ MAX_EXPR_NODES → d + expr_nesting e ≤ MAX_OPEN → ReadsBack (expr_pieces names e []) (expr_at w d) e (expr_nesting e)
    expr_reads e d is len size depth =
        let s = expr_back w names e is 0 [] in
        let p = one_mul (one_fac s.phrase) in
        let built = s.holds.tree (context d false true) depth in
        record {
          lexes = printed (expr_pieces names e []) (expr_separate w names e is [] nothing_ends tt) len;
          reads = ap (expr_at w d) s.spelled ∙ read_expr d p e (expr_nesting e) s.obeys (rw built refl) (s.holds.sound (context d false true) refl) (s.holds.fits d depth) s.holds.deep depth size;
        }
