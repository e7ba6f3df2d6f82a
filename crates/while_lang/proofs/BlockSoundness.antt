-- The tokens that the block parser reads are a block.
use Rattle.std.proofs.Common.{◌≡◌, ℕ, zero, suc, ◌+◌, ◌<◌, List, [], ◌∷◌, Bool, true, false, cond as if_true, nat_lt, Result, Ok, Err, refl, ap, sym, subst, ◌∙◌, drop}
use Rattle.std.proofs.lemmas.Bool.{ltb-true}
use Rattle.kat_model.specs.declared.limits.TheConstants.{MAX_OPEN}
use Rattle.text_parser.specs.declared.fault.TextFault.{TextFault}
use Rattle.text_parser.specs.declared.fault.TextFault.TheVariants.{TooDeep}
use Rattle.text_parser.specs.declared.terminal.Terminal.TheVariants.{Name, Keyword, Separator}
use Rattle.text_parser.specs.declared.terminal.Keyword.TheVariants as word
use Rattle.text_parser.specs.declared.terminal.Separator.TheVariants.{Semicolon, CurlyOpen, CurlyClose, Becomes}
use Rattle.text_parser.specs.Lexemes.{Lexeme, lexeme, heads, is_terminal}
use Rattle.text_parser.specs.Parsed.{Parsed, ◌>>=◌, before, change, expects, place_of}
use Rattle.text_parser.specs.Actions.{context}
use Rattle.text_parser.specs.Exprs.{sums}
use Rattle.text_parser.specs.Conds.{disjunction}
use Rattle.text_parser.specs.Phrases.{cond, expr, Leaf, Phrase, cons_token, yield_before, MeetsLookahead, IsWithinLimits, IsPhrase}
use Rattle.text_parser.proofs.TerminalEquality.{expects_ok}
use Rattle.text_parser.proofs.ParserSoundness.{leaf, bind_ok, chosen, changed_ok, before_ok, expected_ok, terminal_headed, expr_found, cond_found}
use Rattle.while_lang.specs.BlockActions.{BlockActions}
use Rattle.while_lang.specs.Blocks.{enter, BlockAim, block as block_aim, stmts_after, stmt_after, branch_after, BlockParser, cond_by, expr_by, then_semicolon, block_by, stmts_by, assign_by, named_by, loop_by, stmt_by, else_by, branch_by}
use Rattle.while_lang.specs.Blocks.{blocks_by, block_within, parse_block}
use Rattle.while_lang.specs.BlockPhrases.{BlockSymbol, block, stmts, stmt, branch, braced, no_stmts, more_stmts, skip_stmt, abort_stmt, assert_stmt, name_stmt, assign_stmt, if_stmt, while_stmt}
use Rattle.while_lang.specs.BlockPhrases.{no_else, else_block, else_if, block_before, IsBlockPhrase}
use Rattle.while_lang.proofs.BlockCompleteness.{close}

pub enter_ok : (d e at : ℕ) → enter d at ≡ Ok e → (d < MAX_OPEN) × (e ≡ d + 1)
enter_ok d e at h = by_depth (nat_lt d MAX_OPEN) refl h where
  number_of : Result ℕ TextFault → ℕ
  number_of (Ok n) = n
  number_of (Err x) = 0

  by_depth : (b : Bool) → nat_lt d MAX_OPEN ≡ b → if_true b (Ok (d + 1)) (Err (TooDeep at)) ≡ Ok e → (d < MAX_OPEN) × (e ≡ d + 1)
  by_depth true lt k = (ltb-true d MAX_OPEN lt, sym (ap number_of k))
  by_depth false lt k = absurd cc

abbrev pub rest_of : {V : Type 0} → Parsed V → List Lexeme
rest_of (Ok x) = x.1
rest_of (Err e) = []

-- a value, then the semicolon
semicolon_ok : {V W : Type 0} (f : V → W) (m : Parsed V) (w : W) (rest : List Lexeme) → change f (then_semicolon m) ≡ Ok (w, rest) → (v : V) × (l : Leaf) × (m ≡ Ok (v, cons_token (Separator Semicolon) l rest))
semicolon_ok f m w rest e =
    let a = changed_ok f (then_semicolon m) w rest e in
    let b = expected_ok (Separator Semicolon) m (a.0, rest) a.1 in
    (a.0, b.0, b.1)

-- a phrase one level deeper
inner : (x : BlockSymbol) (d e : ℕ) (ts rest : List Lexeme) → e ≡ d + 1 → IsBlockPhrase x e ts rest → IsBlockPhrase x (d + 1) ts rest
inner x d e ts rest same p = subst (λ (n : ℕ). IsBlockPhrase x n ts rest) same p

-- a statement followed by statements is a list of statements
more_found : (d : ℕ) (ts mid rest : List Lexeme) → IsBlockPhrase stmt d ts mid → IsBlockPhrase stmts d mid rest → IsBlockPhrase stmts d ts rest
more_found d ts mid rest p q =
    let k : IsBlockPhrase stmt d ts (block_before q.phrase rest) = subst (IsBlockPhrase stmt d ts) q.spelled p in
    record { phrase = more_stmts k.phrase q.phrase; spelled = k.spelled; obeys = (k.obeys, q.obeys); fits = (k.fits, q.fits) }

-- a condition before a block
abbrev CondBefore : ℕ → List Lexeme → List Lexeme → Type 0
CondBefore d ts us = (b : Phrase cond) × (ts ≡ yield_before b us) × MeetsLookahead b us × IsWithinLimits d b

cond_before : (d : ℕ) (ts mid us : List Lexeme) → mid ≡ us → IsPhrase cond d ts mid → CondBefore d ts us
cond_before d ts mid us same p = let k : IsPhrase cond d ts us = subst (IsPhrase cond d ts) same p in (k.phrase, k.spelled, k.obeys, k.fits)

-- the rest of an `if` after its first block
pub data Second (d : ℕ) (ts rest : List Lexeme) : Type 0 where
  none_there : (same : ts ≡ rest) → Second d ts rest
  block_there : (l : Leaf) → (us : List Lexeme) → (spelled : ts ≡ cons_token (Keyword word.Else) l us) → (q : IsBlockPhrase block d us rest) → Second d ts rest
  if_there : (l i : Leaf) → (us : List Lexeme) → (spelled : ts ≡ cons_token (Keyword word.Else) l (cons_token (Keyword word.If) i us)) → (lt : d < MAX_OPEN) → (r : IsBlockPhrase branch (d + 1) us rest) → Second d ts rest

branch_found : (d : ℕ) (ts mid us rest : List Lexeme) → IsPhrase cond d ts mid → IsBlockPhrase block d mid us → Second d us rest → IsBlockPhrase branch d ts rest
branch_found d ts mid us rest b p (none_there same) =
    let k : IsBlockPhrase block d mid rest = subst (IsBlockPhrase block d mid) same p in
    let c = cond_before d ts mid (block_before k.phrase rest) k.spelled b in
    record { phrase = no_else c.0 k.phrase; spelled = c.1; obeys = (c.2, k.obeys); fits = (c.3, k.fits) }
branch_found d ts mid us rest b p (block_there l vs spelled q) =
    let e : us ≡ cons_token (Keyword word.Else) l (block_before q.phrase rest) = spelled ∙ ap (cons_token (Keyword word.Else) l) q.spelled in
    let k : IsBlockPhrase block d mid (cons_token (Keyword word.Else) l (block_before q.phrase rest)) = subst (IsBlockPhrase block d mid) e p in
    let c = cond_before d ts mid (block_before k.phrase (cons_token (Keyword word.Else) l (block_before q.phrase rest))) k.spelled b in
    record { phrase = else_block c.0 k.phrase l q.phrase; spelled = c.1; obeys = (c.2, k.obeys, q.obeys); fits = (c.3, k.fits, q.fits) }
branch_found d ts mid us rest b p (if_there l i vs spelled lt r) =
    let e : us ≡ cons_token (Keyword word.Else) l (cons_token (Keyword word.If) i (block_before r.phrase rest)) =
    spelled ∙ ap (λ (x : List Lexeme). cons_token (Keyword word.Else) l (cons_token (Keyword word.If) i x)) r.spelled in
    let k : IsBlockPhrase block d mid (cons_token (Keyword word.Else) l (cons_token (Keyword word.If) i (block_before r.phrase rest))) = subst (IsBlockPhrase block d mid) e p in
    let c = cond_before d ts mid (block_before k.phrase (cons_token (Keyword word.Else) l (cons_token (Keyword word.If) i (block_before r.phrase rest)))) k.spelled b in
    record { phrase = else_if c.0 k.phrase l i r.phrase; spelled = c.1; obeys = (c.2, k.obeys, r.obeys); fits = (c.3, k.fits, lt, r.fits) }

module _ {E B L T M S : Type 0} (g : BlockActions E B L T M S) where
  abbrev pub Found : BlockAim S → ℕ → List Lexeme → List Lexeme → Type 0
  Found block_aim d ts rest = IsBlockPhrase block d ts rest
  Found (stmts_after v) d ts rest = (r : Leaf) × IsBlockPhrase stmts d ts (close r rest)
  Found (stmt_after v) d ts rest = IsBlockPhrase stmt d ts rest
  Found (branch_after v) d ts rest = IsBlockPhrase branch d ts rest

  abbrev pub Finds : BlockParser S → Type 0
  Finds f = (x : BlockAim S) (d : ℕ) (ts : List Lexeme) (y : S × List Lexeme) → f x d ts ≡ Ok y → Found x d ts y.1

  cond_is : (d : ℕ) (ts rest : List Lexeme) (b : B) → cond_by g d ts ≡ Ok (b, rest) → IsPhrase cond d ts rest
  cond_is d ts rest b e = cond_found g.phrases.conds disjunction (context d false true) ts (b, rest) e

  expr_is : (d : ℕ) (ts rest : List Lexeme) (v : E) → expr_by g d ts ≡ Ok (v, rest) → IsPhrase expr d ts rest
  expr_is d ts rest v e = expr_found g.phrases.conds.exprs sums (context d false true) ts (v, rest) e

  block_finds : (f : BlockParser S) → Finds f → (d : ℕ) (ts : List Lexeme) (y : S × List Lexeme) → block_by g f d ts ≡ Ok y → IsBlockPhrase block d ts y.1
  block_finds f s d ts y e =
      let a = bind_ok (expects (is_terminal (Separator CurlyOpen)) ts) (λ us. enter d (place_of ts) >>= λ n. change g.braced (f (stmts_after g.none) n us)) y e in
      let w = expects_ok (Separator CurlyOpen) ts a.0 a.1 in
      let b = bind_ok (enter d (place_of ts)) (λ n. change g.braced (f (stmts_after g.none) n a.0)) y a.2 in
      let n = enter_ok d b.0 (place_of ts) b.1 in
      let k = changed_ok g.braced (f (stmts_after g.none) b.0 a.0) y.0 y.1 b.2 in
      let h = s (stmts_after g.none) b.0 a.0 (k.0, y.1) k.1 in
      let p = inner stmts d b.0 a.0 (close h.0 y.1) n.1 h.1 in
      record {
        phrase = braced w.0 p.phrase h.0;
        spelled = w.1 ∙ ap (cons_token (Separator CurlyOpen) w.0) p.spelled;
        obeys = p.obeys;
        fits = (n.0, p.fits);
      }

  stmts_finds : (f : BlockParser S) → Finds f → (v : S) (d : ℕ) (ts : List Lexeme) (y : S × List Lexeme) → stmts_by g f v d ts ≡ Ok y → (r : Leaf) × IsBlockPhrase stmts d ts (close r y.1)
  stmts_finds f s v d ts y e =
      chosen (heads (is_terminal (Separator CurlyClose)) ts) (Ok (v, drop 1 ts)) (f (stmt_after v) d ts >>= λ x. f (stmts_after x.0) d x.1) y
      (λ h k. let w = terminal_headed (Separator CurlyClose) ts h in
      let same : drop 1 ts ≡ y.1 = ap rest_of k in
      (w.0, record { phrase = no_stmts; spelled = w.1 ∙ ap (close w.0) same; obeys = tt; fits = tt }))
      (λ h k. let a = bind_ok (f (stmt_after v) d ts) (λ x. f (stmts_after x.0) d x.1) y k in
      let q = s (stmts_after a.0.0) d a.0.1 y a.2 in
      (q.0, more_found d ts a.0.1 (close q.0 y.1) (s (stmt_after v) d ts a.0 a.1) q.1))
      e

  assign_finds : (v : S) (d at : ℕ) (name : List ℕ) (ts us : List Lexeme) (becomes : Leaf) (y : S × List Lexeme) → ts ≡ cons_token (Separator Becomes) becomes us → assign_by g v d at name us ≡ Ok y → IsBlockPhrase stmt d (lexeme Name at name ∷ ts) y.1
  assign_finds v d at name ts us becomes y same e =
      let a = bind_ok (g.target at name) (λ u. change (g.assign v name) (then_semicolon (expr_by g d us))) y e in
      let k = semicolon_ok (g.assign v name) (expr_by g d us) y.0 y.1 a.2 in
      let p = expr_is d us (cons_token (Separator Semicolon) k.1 y.1) k.0 k.2 in
      record {
        phrase = assign_stmt (leaf at name) becomes p.phrase k.1;
        spelled = ap (λ (x : List Lexeme). lexeme Name at name ∷ x) (same ∙ ap (cons_token (Separator Becomes) becomes) p.spelled);
        obeys = p.obeys;
        fits = p.fits;
      }

  named_finds : (v : S) (d at : ℕ) (name : List ℕ) (ts : List Lexeme) (y : S × List Lexeme) → named_by g v d at name ts ≡ Ok y → IsBlockPhrase stmt d (lexeme Name at name ∷ ts) y.1
  named_finds v d at name ts y e =
      chosen (heads (is_terminal (Separator Becomes)) ts) (assign_by g v d at name (drop 1 ts)) (then_semicolon (before ts (g.named d at name v))) y
      (λ h k. let w = terminal_headed (Separator Becomes) ts h in assign_finds v d at name ts (drop 1 ts) w.0 y w.1 k)
      (λ h k. let w = expected_ok (Separator Semicolon) (before ts (g.named d at name v)) y k in
      let same : ts ≡ cons_token (Separator Semicolon) w.0 y.1 = before_ok ts (g.named d at name v) y.0 (cons_token (Separator Semicolon) w.0 y.1) w.1 in
      record { phrase = name_stmt (leaf at name) w.0; spelled = ap (λ (x : List Lexeme). lexeme Name at name ∷ x) same; obeys = tt; fits = tt })
      e

  loop_finds : (f : BlockParser S) → Finds f → (v : S) (d at : ℕ) (text : List ℕ) (ts : List Lexeme) (y : S × List Lexeme) → loop_by g f v d ts ≡ Ok y → IsBlockPhrase stmt d (lexeme (Keyword word.While) at text ∷ ts) y.1
  loop_finds f s v d at text ts y e =
      let a = bind_ok (cond_by g d ts) (λ b. change (g.turn v b.0) (f block_aim d b.1)) y e in
      let k = changed_ok (g.turn v a.0.0) (f block_aim d a.0.1) y.0 y.1 a.2 in
      let p = s block_aim d a.0.1 (k.0, y.1) k.1 in
      let c = cond_before d ts a.0.1 (block_before p.phrase y.1) p.spelled (cond_is d ts a.0.1 a.0.0 a.1) in
      record {
        phrase = while_stmt (leaf at text) c.0 p.phrase;
        spelled = ap (λ (x : List Lexeme). lexeme (Keyword word.While) at text ∷ x) c.1;
        obeys = (c.2, p.obeys);
        fits = (c.3, p.fits);
      }

  stmt_finds : (f : BlockParser S) → Finds f → (v : S) (d : ℕ) (ts : List Lexeme) (y : S × List Lexeme) → stmt_by g f v d ts ≡ Ok y → IsBlockPhrase stmt d ts y.1
  stmt_finds f s v d [] y e = absurd cc
  stmt_finds f s v d (lexeme (Keyword word.Skip) at text ∷ ts) y e =
      let w = expected_ok (Separator Semicolon) (Ok (g.skip v, ts)) y e in
      record { phrase = skip_stmt (leaf at text) w.0; spelled = ap (λ (x : List Lexeme). lexeme (Keyword word.Skip) at text ∷ x) (ap rest_of w.1); obeys = tt; fits = tt }
  stmt_finds f s v d (lexeme (Keyword word.Abort) at text ∷ ts) y e =
      let w = expected_ok (Separator Semicolon) (Ok (g.abort v, ts)) y e in
      record { phrase = abort_stmt (leaf at text) w.0; spelled = ap (λ (x : List Lexeme). lexeme (Keyword word.Abort) at text ∷ x) (ap rest_of w.1); obeys = tt; fits = tt }
  stmt_finds f s v d (lexeme (Keyword word.Assert) at text ∷ ts) y e =
      let k = semicolon_ok (g.assert v) (cond_by g d ts) y.0 y.1 e in
      let p = cond_is d ts (cons_token (Separator Semicolon) k.1 y.1) k.0 k.2 in
      record { phrase = assert_stmt (leaf at text) p.phrase k.1; spelled = ap (λ (x : List Lexeme). lexeme (Keyword word.Assert) at text ∷ x) p.spelled; obeys = p.obeys; fits = p.fits }
  stmt_finds f s v d (lexeme (Keyword word.If) at text ∷ ts) y e =
      let p = s (branch_after v) d ts y e in
      record { phrase = if_stmt (leaf at text) p.phrase; spelled = ap (λ (x : List Lexeme). lexeme (Keyword word.If) at text ∷ x) p.spelled; obeys = p.obeys; fits = p.fits }
  stmt_finds f s v d (lexeme (Keyword word.While) at text ∷ ts) y e = loop_finds f s v d at text ts y e
  stmt_finds f s v d (lexeme Name at text ∷ ts) y e = named_finds v d at text ts y e
  stmt_finds f s v d (lexeme _ at text ∷ ts) y e = absurd cc

  second_finds : (f : BlockParser S) → Finds f → (d : ℕ) (ts rest : List Lexeme) (v : S) → else_by g f d ts ≡ Ok (v, rest) → Second d ts rest
  second_finds f s d ts rest v e =
      chosen (heads (is_terminal (Keyword word.Else)) ts) _ (Ok (g.none, ts)) (v, rest)
      (λ h k. let w = terminal_headed (Keyword word.Else) ts h in
      chosen (heads (is_terminal (Keyword word.If)) (drop 1 ts)) (enter d (place_of (drop 1 ts)) >>= λ n. change g.chained (f (branch_after g.none) n (drop 1 (drop 1 ts)))) (f block_aim d (drop 1 ts)) (v, rest)
      (λ i j. let u = terminal_headed (Keyword word.If) (drop 1 ts) i in
      let b = bind_ok (enter d (place_of (drop 1 ts))) (λ n. change g.chained (f (branch_after g.none) n (drop 1 (drop 1 ts)))) (v, rest) j in
      let n = enter_ok d b.0 (place_of (drop 1 ts)) b.1 in
      let c = changed_ok g.chained (f (branch_after g.none) b.0 (drop 1 (drop 1 ts))) v rest b.2 in
      if_there w.0 u.0 (drop 1 (drop 1 ts)) (w.1 ∙ ap (cons_token (Keyword word.Else) w.0) u.1) n.0
      (inner branch d b.0 (drop 1 (drop 1 ts)) rest n.1 (s (branch_after g.none) b.0 (drop 1 (drop 1 ts)) (c.0, rest) c.1)))
      (λ i j. block_there w.0 (drop 1 ts) w.1 (s block_aim d (drop 1 ts) (v, rest) j))
      k)
      (λ h k. none_there (ap rest_of k))
      e

  branch_finds : (f : BlockParser S) → Finds f → (v : S) (d : ℕ) (ts : List Lexeme) (y : S × List Lexeme) → branch_by g f v d ts ≡ Ok y → IsBlockPhrase branch d ts y.1
  branch_finds f s v d ts y e =
      let a = bind_ok (cond_by g d ts) (λ b. f block_aim d b.1 >>= λ p. change (g.branch v b.0 p.0) (else_by g f d p.1)) y e in
      let b = bind_ok (f block_aim d a.0.1) (λ p. change (g.branch v a.0.0 p.0) (else_by g f d p.1)) y a.2 in
      let k = changed_ok (g.branch v a.0.0 b.0.0) (else_by g f d b.0.1) y.0 y.1 b.2 in
      branch_found d ts a.0.1 b.0.1 y.1 (cond_is d ts a.0.1 a.0.0 a.1) (s block_aim d a.0.1 b.0 b.1) (second_finds f s d b.0.1 y.1 k.0 k.1)

  finds : (f : BlockParser S) → Finds f → Finds (blocks_by g f)
  finds f s block_aim d ts y e = block_finds f s d ts y e
  finds f s (stmts_after v) d ts y e = stmts_finds f s v d ts y e
  finds f s (stmt_after v) d ts y e = stmt_finds f s v d ts y e
  finds f s (branch_after v) d ts y e = branch_finds f s v d ts y e

  within_finds : (n : ℕ) → Finds (block_within g n)
  unfolding block_within
  within_finds zero x d ts y e = absurd cc
  within_finds (suc n) x d ts y e = finds (block_within g n) (within_finds n) x d ts y e

  pub block_found : Finds (parse_block g)
  unfolding parse_block
  block_found x d ts y e = within_finds _ x d ts y e
