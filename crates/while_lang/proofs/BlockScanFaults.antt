-- The syntax check of blocks reports only syntax faults, each at a token or after the last.
use Rattle.std.proofs.Common.{◌≡◌, ℕ, zero, suc, ◌+◌, ◌*◌, ◌<◌, List, [], ◌∷◌, length, Bool, true, false, cond as if_true, nat_lt, ◌||◌, Result, Ok, Err, inl, inr, refl, sym, ap, subst, arith, drop, length-drop}
use Rattle.std.specs.Prelude.{IfErr}
use Rattle.std.proofs.lemmas.Bool.{or_right}
use Rattle.kat_model.specs.declared.limits.TheConstants.{MAX_OPEN}
use Rattle.text_parser.specs.declared.fault.TextFault.{TextFault}
use Rattle.text_parser.specs.declared.fault.TextFault.TheVariants.{Syntax, TooDeep, NumberTooWide}
use Rattle.text_parser.specs.declared.terminal.Terminal.{Terminal}
use Rattle.text_parser.specs.declared.terminal.Terminal.TheVariants.{RoundClose, SquareClose, Star, Plus, Dot, And, Or, Compares, Name, Keyword, Separator}
use Rattle.text_parser.specs.declared.terminal.Keyword.TheVariants as word
use Rattle.text_parser.specs.declared.terminal.Separator.TheVariants.{Semicolon, CurlyOpen, CurlyClose, Becomes}
use Rattle.text_parser.specs.Lexemes.{Lexeme, lexeme, heads, is_terminal}
use Rattle.text_parser.specs.Parsed.{Parsed, ◌>>=◌, change, expects, place_of, Expects}
use Rattle.text_parser.specs.Actions.{context}
use Rattle.text_parser.specs.Exprs.{sums}
use Rattle.text_parser.specs.Conds.{disjunction}
use Rattle.text_parser.specs.Scans.{scanning_exprs, scanning_conds}
use Rattle.text_parser.specs.Phrases.{Symbol, Leaf, Phrase, one_prod, more_prods, one_star, more_stars, bare, starred, zero_unit, one_unit, name_unit, not_unit, square_unit, round_unit, one_conj, more_conjs, one_lit, more_lits, true_lit, false_lit, name_lit, not_lit, round_lit, relation_lit, one_mul, more_muls, one_fac, more_facs, zero_fac, one_fac_number, number_fac, wide_fac, name_fac, round_fac, cons_token, sum_terminal, yield_before}
use Rattle.text_parser.specs.Faults.{opens, is_wide, OccursAt, IsSyntaxFault}
use Rattle.text_parser.proofs.TerminalEquality.{terminal_is}
use Rattle.text_parser.proofs.ParserSoundness.{leaf, terminal_headed, expr_found, cond_found}
use Rattle.text_parser.proofs.ScanFaults.{cond_faults, expr_faults}
use Rattle.text_parser.proofs.Within.{Within, headed}
use Rattle.while_lang.specs.Blocks.{enter, BlockAim, block, stmts_after, stmt_after, branch_after, BlockParser, cond_by, expr_by, then_semicolon, block_by, stmts_by, assign_by, named_by, loop_by, stmt_by, else_by, branch_by}
use Rattle.while_lang.specs.Blocks.{blocks_by, steps, block_within, parse_block}
use Rattle.while_lang.specs.BlockScans.{scanning_blocks, scan_block}
use Rattle.while_lang.specs.BlockFaults.{opens_block, IsBlockFault, AnswersBlockFaults}
use Rattle.while_lang.proofs.BlockSteps.{IsShort, cond_short, within_short}

-- ---- tokens that occur in others

-- each token of `us` occurs in `ts`
abbrev Holds : List Lexeme → List Lexeme → Type 0
Holds ts us = (p : Terminal → Bool) (at : ℕ) → OccursAt p at us → OccursAt p at ts

holds_later : (ts : List Lexeme) → Holds ts (drop 1 ts)
holds_later [] p at h = h
holds_later (lexeme s place text ∷ ts) p at h = inr h

holds_yield : {x : Symbol} (f : Phrase x) (ts : List Lexeme) → Holds (yield_before f ts) ts
holds_yield (one_prod f) ts p at h = holds_yield f ts p at h
holds_yield (more_prods f l g) ts p at h = holds_yield f (cons_token Plus l (yield_before g ts)) p at (inr (holds_yield g ts p at h))
holds_yield (one_star f) ts p at h = holds_yield f ts p at h
holds_yield (more_stars f l g) ts p at h = holds_yield f (cons_token Dot l (yield_before g ts)) p at (inr (holds_yield g ts p at h))
holds_yield (bare f) ts p at h = holds_yield f ts p at h
holds_yield (starred f l) ts p at h = holds_yield f (cons_token Star l ts) p at (inr h)
holds_yield (zero_unit l) ts p at h = inr h
holds_yield (one_unit l) ts p at h = inr h
holds_yield (name_unit l) ts p at h = inr h
holds_yield (not_unit l f) ts p at h = inr (holds_yield f ts p at h)
holds_yield (square_unit l f r) ts p at h = inr (holds_yield f (cons_token SquareClose r ts) p at (inr h))
holds_yield (round_unit l f r) ts p at h = inr (holds_yield f (cons_token RoundClose r ts) p at (inr h))
holds_yield (one_conj f) ts p at h = holds_yield f ts p at h
holds_yield (more_conjs f l g) ts p at h = holds_yield f (cons_token Or l (yield_before g ts)) p at (inr (holds_yield g ts p at h))
holds_yield (one_lit f) ts p at h = holds_yield f ts p at h
holds_yield (more_lits f l g) ts p at h = holds_yield f (cons_token And l (yield_before g ts)) p at (inr (holds_yield g ts p at h))
holds_yield (true_lit l) ts p at h = inr h
holds_yield (false_lit l) ts p at h = inr h
holds_yield (name_lit l) ts p at h = inr h
holds_yield (not_lit l f) ts p at h = inr (holds_yield f ts p at h)
holds_yield (round_lit l f r) ts p at h = inr (holds_yield f (cons_token RoundClose r ts) p at (inr h))
holds_yield (relation_lit f l r g) ts p at h = holds_yield f (cons_token (Compares r) l (yield_before g ts)) p at (inr (holds_yield g ts p at h))
holds_yield (one_mul f) ts p at h = holds_yield f ts p at h
holds_yield (more_muls f l minus g) ts p at h = holds_yield f (cons_token (sum_terminal minus) l (yield_before g ts)) p at (inr (holds_yield g ts p at h))
holds_yield (one_fac f) ts p at h = holds_yield f ts p at h
holds_yield (more_facs f l g) ts p at h = holds_yield f (cons_token Star l (yield_before g ts)) p at (inr (holds_yield g ts p at h))
holds_yield (zero_fac l) ts p at h = inr h
holds_yield (one_fac_number l) ts p at h = inr h
holds_yield (number_fac l n) ts p at h = inr h
holds_yield (wide_fac l) ts p at h = inr h
holds_yield (name_fac l) ts p at h = inr h
holds_yield (round_fac l f r) ts p at h = inr (holds_yield f (cons_token RoundClose r ts) p at (inr h))

-- the tokens after a phrase occur among all tokens
holds_before : {x : Symbol} (f : Phrase x) (ts us : List Lexeme) → ts ≡ yield_before f us → Holds ts us
holds_before f ts us e p at h = subst (OccursAt p at) (sym e) (holds_yield f us p at h)

-- ---- faults

represents_wider : (ts : List Lexeme) (at : ℕ) → OccursAt opens at ts → OccursAt opens_block at ts
represents_wider [] at h = h
represents_wider (lexeme s place text ∷ ts) at (inl h) =
    inl (or_right (is_terminal (Separator CurlyOpen) s) (is_terminal (Keyword word.If) s || opens s) (or_right (is_terminal (Keyword word.If) s) (opens s) h.0), h.1)
represents_wider (lexeme s place text ∷ ts) at (inr h) = inr (represents_wider ts at h)

-- a syntax fault of a condition or an expression is one of the block
widened : (ts : List Lexeme) (e : TextFault) → IsSyntaxFault ts e → IsBlockFault ts e
widened ts (Syntax at) h = h
widened ts (TooDeep at) h = represents_wider ts at h
widened ts (NumberTooWide at) h = h
widened ts _ h = h

lift_fault : (ts us : List Lexeme) → Holds ts us → (e : TextFault) → IsBlockFault us e → IsBlockFault ts e
lift_fault ts us k (Syntax at) (inl h) = inl h
lift_fault ts us k (Syntax at) (inr h) = inr (k (λ s. true) at h)
lift_fault ts us k (TooDeep at) h = k opens_block at h
lift_fault ts us k (NumberTooWide at) h = k is_wide at h
lift_fault ts us k _ h = h

-- the remaining tokens occur in `ts`, or the fault is a syntax fault of `ts`
abbrev Sound : {V : Type 0} → List Lexeme → Parsed V → Type 0
Sound ts (Ok x) = Holds ts x.1
Sound ts (Err e) = IsBlockFault ts e

-- what is sound for some of the tokens is sound for all tokens
lift : {V : Type 0} (ts us : List Lexeme) → Holds ts us → (s : Parsed V) → Sound us s → Sound ts s
lift ts us k (Ok x) h = λ p at i. k p at (h p at i)
lift ts us k (Err e) h = lift_fault ts us k e h

bind_sound : {V W : Type 0} (n : ℕ) (ts : List Lexeme) (s : Parsed V) (k : V × List Lexeme → Parsed W) → Within n s → Sound ts s → ((x : V × List Lexeme) → length x.1 < n → Sound x.1 (k x)) → Sound ts (s >>= k)
bind_sound n ts (Ok x) k w h g = lift ts x.1 h (k x) (g x w)
bind_sound n ts (Err e) k w h g = h

if_sound : {V : Type 0} (ts : List Lexeme) (b : Bool) (x y : Parsed V) → (b ≡ true → Sound ts x) → (b ≡ false → Sound ts y) → Sound ts (if_true b x y)
if_sound ts true x y p q = p refl
if_sound ts false x y p q = q refl

change_sound : {V W : Type 0} (ts : List Lexeme) (f : V → W) (s : Parsed V) → Sound ts s → Sound ts (change f s)
change_sound ts f (Ok x) h = h
change_sound ts f (Err e) h = h

-- one token, then the rest
expected_then : {V : Type 0} (s : Terminal) (ts : List Lexeme) (k : List Lexeme → Parsed V) → ((l : Leaf) (us : List Lexeme) → ts ≡ cons_token s l us → Sound ts (k us)) → Sound ts (expects (is_terminal s) ts >>= k)
expected_then s [] k h = inl refl
expected_then {V} s (lexeme x at text ∷ ts) k h = by_terminal (is_terminal s x) refl where
  by_terminal : (b : Bool) → is_terminal s x ≡ b → Sound {V = V} (lexeme x at text ∷ ts) (if_true b (Ok ts) (Err (Syntax at)) >>= k)
  by_terminal true e = h (leaf at text) ts (rw (terminal_is s x e) refl)
  by_terminal false e = inr (inl (refl, refl))

semicolon_sound : {V : Type 0} (ts : List Lexeme) (s : Parsed V) → Sound ts s → Sound ts (then_semicolon s)
semicolon_sound ts (Ok x) h =
    lift ts x.1 h (expects (is_terminal (Separator Semicolon)) x.1 >>= λ r. Ok (x.0, r))
    (expected_then (Separator Semicolon) x.1 (λ r. Ok (x.0, r)) (λ l us e p at i. subst (OccursAt p at) (sym e) (inr i)))
semicolon_sound ts (Err e) h = h

entered_sound : {V : Type 0} (ts : List Lexeme) (d at : ℕ) (k : ℕ → Parsed V) → OccursAt opens_block at ts → ((e : ℕ) → Sound ts (k e)) → Sound ts (enter d at >>= k)
entered_sound ts d at k h g = elim (nat_lt d MAX_OPEN) as (λ b. Sound ts (if_true b (Ok (d + 1)) (Err (TooDeep at)) >>= k)) [ true ↦ g (d + 1) | false ↦ h ]

-- ---- parts of statements

cond_sound : (d : ℕ) (ts : List Lexeme) → Sound ts (cond_by scanning_blocks d ts)
cond_sound d ts = by_result (cond_by scanning_blocks d ts) refl where
  by_result : (r : Parsed (Unit {0})) → cond_by scanning_blocks d ts ≡ r → Sound ts r
  by_result (Ok x) e = let f = cond_found scanning_conds disjunction (context d false true) ts x e in holds_before f.phrase ts x.1 f.spelled
  by_result (Err x) e = widened ts x (cond_faults d ts x (ap (λ (m : Parsed (Unit {0})). m >>= λ y. Ok y.1) e))

expr_sound : (d : ℕ) (ts : List Lexeme) → Sound ts (expr_by scanning_blocks d ts)
expr_sound d ts = by_result (expr_by scanning_blocks d ts) refl where
  by_result : (r : Parsed (Unit {0})) → expr_by scanning_blocks d ts ≡ r → Sound ts r
  by_result (Ok x) e = let f = expr_found scanning_exprs sums (context d false true) ts x e in holds_before f.phrase ts x.1 f.spelled
  by_result (Err x) e = widened ts x (expr_faults d ts x (ap (λ (m : Parsed (Unit {0})). m >>= λ y. Ok y.1) e))

assign_sound : (d at : ℕ) (name : List ℕ) (ts : List Lexeme) → Sound ts (assign_by scanning_blocks tt d at name ts)
assign_sound d at name ts = change_sound ts (λ e. tt) (then_semicolon (expr_by scanning_blocks d ts)) (semicolon_sound ts (expr_by scanning_blocks d ts) (expr_sound d ts))

named_sound : (d at : ℕ) (name : List ℕ) (ts : List Lexeme) → Sound ts (named_by scanning_blocks tt d at name ts)
named_sound d at name ts =
    if_sound ts (heads (is_terminal (Separator Becomes)) ts) (assign_by scanning_blocks tt d at name (drop 1 ts)) (then_semicolon (Ok (tt, ts)))
    (λ h. lift ts (drop 1 ts) (holds_later ts) (assign_by scanning_blocks tt d at name (drop 1 ts)) (assign_sound d at name (drop 1 ts)))
    (λ h. semicolon_sound ts (Ok (tt, ts)) (λ p place i. i))

-- ---- statements and blocks

abbrev Below : BlockParser (Unit {0}) → ℕ → Type 0
Below f n = (x : BlockAim (Unit {0})) (d : ℕ) (ts : List Lexeme) → steps x ts < n → Sound ts (f x d ts)

block_sound : (f : BlockParser (Unit {0})) (d : ℕ) (ts : List Lexeme) → Below f (2 * length ts) → Sound ts (block_by scanning_blocks f d ts)
block_sound f d ts a =
    expected_then (Separator CurlyOpen) ts (λ us. enter d (place_of ts) >>= λ e. change scanning_blocks.braced (f (stmts_after tt) e us))
    (λ l us e. entered_sound ts d (place_of ts) (λ n. change scanning_blocks.braced (f (stmts_after tt) n us))
    (subst (λ (ws : List Lexeme). OccursAt opens_block (place_of ws) ws) (sym e) (inl (refl, refl)))
    (λ n. lift ts us (λ p at h. subst (OccursAt p at) (sym e) (inr h)) (change scanning_blocks.braced (f (stmts_after tt) n us))
    (change_sound us scanning_blocks.braced (f (stmts_after tt) n us) (a (stmts_after tt) n us (omega (arith, ap length e))))))

stmts_sound : (f : BlockParser (Unit {0})) → IsShort f → (v : Unit {0}) (d : ℕ) (ts : List Lexeme) → Below f (2 * length ts + 1) → Sound ts (stmts_by scanning_blocks f v d ts)
stmts_sound f s v d ts a =
    if_sound ts (heads (is_terminal (Separator CurlyClose)) ts) (Ok (v, drop 1 ts)) (f (stmt_after v) d ts >>= λ x. f (stmts_after x.0) d x.1)
    (λ h. holds_later ts)
    (λ h. bind_sound (length ts) ts (f (stmt_after v) d ts) (λ x. f (stmts_after x.0) d x.1) (s (stmt_after v) d ts) (a (stmt_after v) d ts (omega arith)) (λ x lt. a (stmts_after x.0) d x.1 (omega arith)))

loop_sound : (f : BlockParser (Unit {0})) (v : Unit {0}) (d : ℕ) (ts : List Lexeme) → Below f (2 * length ts) → Sound ts (loop_by scanning_blocks f v d ts)
loop_sound f v d ts a =
    bind_sound (length ts) ts (cond_by scanning_blocks d ts) (λ b. change (scanning_blocks.turn v b.0) (f block d b.1)) (cond_short scanning_blocks d ts) (cond_sound d ts)
    (λ b lt. change_sound b.1 (scanning_blocks.turn v b.0) (f block d b.1) (a block d b.1 (omega arith)))

-- the rest after the first token of a statement
next_sound : (s : Terminal) (at : ℕ) (text : List ℕ) (ts : List Lexeme) (r : Parsed (Unit {0})) → Sound ts r → Sound (lexeme s at text ∷ ts) r
next_sound s at text ts r h = lift (lexeme s at text ∷ ts) ts (λ p place i. inr i) r h

stmt_sound : (f : BlockParser (Unit {0})) (v : Unit {0}) (d : ℕ) (ts : List Lexeme) → Below f (2 * length ts) → Sound ts (stmt_by scanning_blocks f v d ts)
stmt_sound f v d [] a = inl refl
stmt_sound f v d (lexeme (Keyword word.Skip) at text ∷ ts) a = next_sound (Keyword word.Skip) at text ts (then_semicolon (Ok (tt, ts))) (semicolon_sound ts (Ok (tt, ts)) (λ p place i. i))
stmt_sound f v d (lexeme (Keyword word.Abort) at text ∷ ts) a = next_sound (Keyword word.Abort) at text ts (then_semicolon (Ok (tt, ts))) (semicolon_sound ts (Ok (tt, ts)) (λ p place i. i))
stmt_sound f v d (lexeme (Keyword word.Assert) at text ∷ ts) a =
    next_sound (Keyword word.Assert) at text ts (change (scanning_blocks.assert v) (then_semicolon (cond_by scanning_blocks d ts)))
    (change_sound ts (scanning_blocks.assert v) (then_semicolon (cond_by scanning_blocks d ts)) (semicolon_sound ts (cond_by scanning_blocks d ts) (cond_sound d ts)))
stmt_sound f v d (lexeme (Keyword word.If) at text ∷ ts) a = next_sound (Keyword word.If) at text ts (f (branch_after v) d ts) (a (branch_after v) d ts (omega arith))
stmt_sound f v d (lexeme (Keyword word.While) at text ∷ ts) a = next_sound (Keyword word.While) at text ts (loop_by scanning_blocks f v d ts) (loop_sound f v d ts (λ x e us lt. a x e us (omega arith)))
stmt_sound f v d (lexeme Name at text ∷ ts) a = next_sound Name at text ts (named_by scanning_blocks v d at text ts) (named_sound d at text ts)
stmt_sound f v d (lexeme _ at text ∷ ts) a = inr (inl (refl, refl))

chained_sound : (f : BlockParser (Unit {0})) (d : ℕ) (ts : List Lexeme) → heads (is_terminal (Keyword word.If)) (drop 1 ts) ≡ true → Below f (2 * length ts) → Sound ts (enter d (place_of (drop 1 ts)) >>= λ e. change scanning_blocks.chained (f (branch_after tt) e (drop 1 (drop 1 ts))))
chained_sound f d ts h a =
    let w = terminal_headed (Keyword word.If) (drop 1 ts) h in
    let lt = headed (is_terminal (Keyword word.If)) (drop 1 ts) h in
    let us = drop 1 (drop 1 ts) in
    entered_sound ts d (place_of (drop 1 ts)) (λ e. change scanning_blocks.chained (f (branch_after tt) e us))
    (holds_later ts opens_block (place_of (drop 1 ts)) (subst (λ (ws : List Lexeme). OccursAt opens_block (place_of ws) ws) (sym w.1) (inl (refl, refl))))
    (λ e. lift ts us (λ p at i. holds_later ts p at (holds_later (drop 1 ts) p at i)) (change scanning_blocks.chained (f (branch_after tt) e us))
    (change_sound us scanning_blocks.chained (f (branch_after tt) e us) (a (branch_after tt) e us (omega (arith, lt, length-drop 1 ts)))))

else_sound : (f : BlockParser (Unit {0})) (d : ℕ) (ts : List Lexeme) → Below f (2 * length ts) → Sound ts (else_by scanning_blocks f d ts)
else_sound f d ts a =
    if_sound ts (heads (is_terminal (Keyword word.Else)) ts) _ (Ok (tt, ts))
    (λ h. let lt = headed (is_terminal (Keyword word.Else)) ts h in
    if_sound ts (heads (is_terminal (Keyword word.If)) (drop 1 ts)) (enter d (place_of (drop 1 ts)) >>= λ e. change scanning_blocks.chained (f (branch_after tt) e (drop 1 (drop 1 ts)))) (f block d (drop 1 ts))
    (λ i. chained_sound f d ts i a)
    (λ i. lift ts (drop 1 ts) (holds_later ts) (f block d (drop 1 ts)) (a block d (drop 1 ts) (omega (arith, lt)))))
    (λ h p at i. i)

branch_sound : (f : BlockParser (Unit {0})) → IsShort f → (v : Unit {0}) (d : ℕ) (ts : List Lexeme) → Below f (2 * length ts) → Sound ts (branch_by scanning_blocks f v d ts)
branch_sound f s v d ts a =
    bind_sound (length ts) ts (cond_by scanning_blocks d ts) (λ b. f block d b.1 >>= λ p. change (scanning_blocks.branch v b.0 p.0) (else_by scanning_blocks f d p.1)) (cond_short scanning_blocks d ts) (cond_sound d ts)
    (λ b lt. bind_sound (length b.1) b.1 (f block d b.1) (λ p. change (scanning_blocks.branch v b.0 p.0) (else_by scanning_blocks f d p.1)) (s block d b.1) (a block d b.1 (omega arith))
    (λ p le. change_sound p.1 (scanning_blocks.branch v b.0 p.0) (else_by scanning_blocks f d p.1) (else_sound f d p.1 (λ x e us less. a x e us (omega arith)))))

blocks_sound : (f : BlockParser (Unit {0})) → IsShort f → (x : BlockAim (Unit {0})) (d : ℕ) (ts : List Lexeme) → Below f (steps x ts) → Sound ts (blocks_by scanning_blocks f x d ts)
blocks_sound f s block d ts a = block_sound f d ts (λ x e us lt. a x e us (omega arith))
blocks_sound f s (stmts_after v) d ts a = stmts_sound f s v d ts (λ x e us lt. a x e us (omega arith))
blocks_sound f s (stmt_after v) d ts a = stmt_sound f v d ts (λ x e us lt. a x e us (omega arith))
blocks_sound f s (branch_after v) d ts a = branch_sound f s v d ts (λ x e us lt. a x e us (omega arith))

within_sound : (n : ℕ) → Below (block_within scanning_blocks n) n
unfolding block_within
within_sound zero x d ts lt = absurd (omega arith)
within_sound (suc n) x d ts lt = blocks_sound (block_within scanning_blocks n) (within_short scanning_blocks n) x d ts (λ y e us le. within_sound n y e us (omega arith))

scan_sound : (x : BlockAim (Unit {0})) (d : ℕ) (ts : List Lexeme) → Sound ts (parse_block scanning_blocks x d ts)
unfolding parse_block
scan_sound x d ts = within_sound (suc (steps x ts)) x d ts (omega arith)

-- ---- the call

fault_of : {V : Type 0} (ts : List Lexeme) (s : Parsed V) (e : TextFault) → Sound ts s → (s >>= λ x. Ok x.1) ≡ Err e → IsBlockFault ts e
fault_of ts (Ok x) e h same = absurd cc
fault_of ts (Err f) e h same = let is : f ≡ e = cc in subst (IsBlockFault ts) is h

block_faults : AnswersBlockFaults
block_faults d ts e same = fault_of ts (parse_block scanning_blocks block d ts) e (scan_sound block d ts) same

-- a call with the result of the syntax check reports only syntax faults
pub answers_block_fault : (d : ℕ) (all ts : List Lexeme) (r : Result ℕ TextFault) → Expects all r (scan_block d ts) → IfErr r (λ e. IsBlockFault ts e)
answers_block_fault d all ts (Ok i) h = tt
answers_block_fault d all ts (Err e) h = block_faults d ts e h
