-- The equation of the block parser, without a number of steps.
use Rattle.std.proofs.Common.{◌≡◌, ℕ, zero, suc, ◌+◌, ◌*◌, ◌<◌, ◌≤◌, List, [], ◌∷◌, length, Bool, true, false, cond, Ok, Err, refl, ap, ◌∙◌, arith, drop, length-drop}
use Rattle.text_parser.specs.declared.fault.TextFault.TheVariants.{Syntax}
use Rattle.text_parser.specs.declared.terminal.Terminal.{Terminal}
use Rattle.text_parser.specs.declared.terminal.Terminal.TheVariants.{Name, Keyword, Separator}
use Rattle.text_parser.specs.declared.terminal.Keyword.TheVariants as word
use Rattle.text_parser.specs.declared.terminal.Separator.TheVariants.{Semicolon, CurlyOpen, CurlyClose, Becomes}
use Rattle.text_parser.specs.Lexemes.{Lexeme, lexeme, heads, is_terminal}
use Rattle.text_parser.specs.Parsed.{Parsed, ◌>>=◌, before, change, expects, place_of}
use Rattle.text_parser.specs.Actions.{context}
use Rattle.text_parser.specs.Exprs.{sums}
use Rattle.text_parser.specs.Conds.{disjunction}
use Rattle.text_parser.proofs.Within.{Within, bind_within, if_within, weaken, before_within, enter_within, change_within, then_expects_within, headed, bind_same, if_same, else_same, enter_same}
use Rattle.text_parser.proofs.ExprSteps.{expr_read_short}
use Rattle.text_parser.proofs.CondSteps.{cond_read_short}
use Rattle.while_lang.specs.BlockActions.{BlockActions}
use Rattle.while_lang.specs.Blocks.{enter, BlockAim, block, stmts_after, stmt_after, branch_after, BlockParser, cond_by, expr_by, then_semicolon, block_by, stmts_by, assign_by, named_by, loop_by, stmt_by, else_by, branch_by}
use Rattle.while_lang.specs.Blocks.{blocks_by, steps, block_within, parse_block}

-- ---- parsers consume tokens

abbrev pub IsShort : {S : Type 0} → BlockParser S → Type 0
IsShort {S} f = (x : BlockAim S) (d : ℕ) (ts : List Lexeme) → Within (length ts) (f x d ts)

pub cond_short : {E B L T M S : Type 0} (g : BlockActions E B L T M S) (d : ℕ) (ts : List Lexeme) → Within (length ts) (cond_by g d ts)
cond_short g d ts = weaken (length ts + 0) (length ts) (cond_by g d ts) (omega arith) (cond_read_short g.phrases.conds disjunction (context d false true) ts)

pub expr_short : {E B L T M S : Type 0} (g : BlockActions E B L T M S) (d : ℕ) (ts : List Lexeme) → Within (length ts) (expr_by g d ts)
expr_short g d ts = weaken (length ts + 0) (length ts) (expr_by g d ts) (omega arith) (expr_read_short g.phrases.conds.exprs sums (context d false true) ts)

-- one token, then the rest
pub expected_within : {V : Type 0} (p : Terminal → Bool) (n : ℕ) (ts : List Lexeme) (k : List Lexeme → Parsed V) → ((us : List Lexeme) → length us < length ts → Within n (k us)) → Within n (expects p ts >>= k)
expected_within p n [] k h = tt
expected_within p n (lexeme s at text ∷ ts) k h = elim (p s) as (λ b. Within n (cond b (Ok ts) (Err (Syntax at)) >>= k)) [ true ↦ h ts (omega arith) | false ↦ tt ]

block_short : {E B L T M S : Type 0} (g : BlockActions E B L T M S) (f : BlockParser S) → IsShort f → (d : ℕ) (ts : List Lexeme) → Within (length ts) (block_by g f d ts)
block_short g f s d ts =
    expected_within (is_terminal (Separator CurlyOpen)) (length ts) ts (λ a. enter d (place_of ts) >>= λ e. change g.braced (f (stmts_after g.none) e a))
    (λ a lt. enter_within (length ts) (enter d (place_of ts)) (λ e. change g.braced (f (stmts_after g.none) e a))
    (λ e. change_within (length ts) g.braced (f (stmts_after g.none) e a) (weaken (length a) (length ts) (f (stmts_after g.none) e a) (omega arith) (s (stmts_after g.none) e a))))

stmts_short : {E B L T M S : Type 0} (g : BlockActions E B L T M S) (f : BlockParser S) → IsShort f → (v : S) (d : ℕ) (ts : List Lexeme) → Within (length ts) (stmts_by g f v d ts)
stmts_short g f s v d ts =
    if_within (length ts) (heads (is_terminal (Separator CurlyClose)) ts) (Ok (v, drop 1 ts)) (f (stmt_after v) d ts >>= λ x. f (stmts_after x.0) d x.1)
    (λ h. headed (is_terminal (Separator CurlyClose)) ts h)
    (λ h. bind_within (length ts) (length ts) (f (stmt_after v) d ts) (λ x. f (stmts_after x.0) d x.1) (s (stmt_after v) d ts)
    (λ x lt. weaken (length x.1) (length ts) (f (stmts_after x.0) d x.1) (omega arith) (s (stmts_after x.0) d x.1)))

assign_short : {E B L T M S : Type 0} (g : BlockActions E B L T M S) (v : S) (d at : ℕ) (name : List ℕ) (ts : List Lexeme) (n : ℕ) → length ts ≤ n → Within n (assign_by g v d at name ts)
assign_short g v d at name ts n le =
    enter_within n (g.target at name) (λ u. change (g.assign v name) (then_semicolon (expr_by g d ts)))
    (λ u. change_within n (g.assign v name) (then_semicolon (expr_by g d ts)) (then_expects_within (is_terminal (Separator Semicolon)) n (expr_by g d ts) (weaken (length ts) n (expr_by g d ts) le (expr_short g d ts))))

pub named_short : {E B L T M S : Type 0} (g : BlockActions E B L T M S) (v : S) (d at : ℕ) (name : List ℕ) (ts : List Lexeme) → Within (suc (length ts)) (named_by g v d at name ts)
named_short g v d at name ts =
    if_within (suc (length ts)) (heads (is_terminal (Separator Becomes)) ts) (assign_by g v d at name (drop 1 ts)) (then_semicolon (before ts (g.named d at name v)))
    (λ h. assign_short g v d at name (drop 1 ts) (suc (length ts)) (omega (arith, length-drop 1 ts)))
    (λ h. then_expects_within (is_terminal (Separator Semicolon)) (suc (length ts)) (before ts (g.named d at name v)) (before_within (suc (length ts)) ts (g.named d at name v) (omega arith)))

loop_short : {E B L T M S : Type 0} (g : BlockActions E B L T M S) (f : BlockParser S) → IsShort f → (v : S) (d : ℕ) (ts : List Lexeme) (n : ℕ) → length ts ≤ n → Within n (loop_by g f v d ts)
loop_short g f s v d ts n le =
    bind_within (length ts) n (cond_by g d ts) (λ b. change (g.turn v b.0) (f block d b.1)) (cond_short g d ts)
    (λ b lt. change_within n (g.turn v b.0) (f block d b.1) (weaken (length b.1) n (f block d b.1) (omega arith) (s block d b.1)))

stmt_short : {E B L T M S : Type 0} (g : BlockActions E B L T M S) (f : BlockParser S) → IsShort f → (v : S) (d : ℕ) (ts : List Lexeme) → Within (length ts) (stmt_by g f v d ts)
stmt_short g f s v d [] = tt
stmt_short g f s v d (lexeme (Keyword word.Skip) at text ∷ ts) = then_expects_within (is_terminal (Separator Semicolon)) (suc (length ts)) (Ok (g.skip v, ts)) (omega arith)
stmt_short g f s v d (lexeme (Keyword word.Abort) at text ∷ ts) = then_expects_within (is_terminal (Separator Semicolon)) (suc (length ts)) (Ok (g.abort v, ts)) (omega arith)
stmt_short g f s v d (lexeme (Keyword word.Assert) at text ∷ ts) =
    change_within (suc (length ts)) (g.assert v) (then_semicolon (cond_by g d ts))
    (then_expects_within (is_terminal (Separator Semicolon)) (suc (length ts)) (cond_by g d ts) (weaken (length ts) (suc (length ts)) (cond_by g d ts) (omega arith) (cond_short g d ts)))
stmt_short g f s v d (lexeme (Keyword word.If) at text ∷ ts) = weaken (length ts) (suc (length ts)) (f (branch_after v) d ts) (omega arith) (s (branch_after v) d ts)
stmt_short g f s v d (lexeme (Keyword word.While) at text ∷ ts) = loop_short g f s v d ts (suc (length ts)) (omega arith)
stmt_short g f s v d (lexeme Name at text ∷ ts) = named_short g v d at text ts
stmt_short g f s v d (lexeme _ at text ∷ ts) = tt

-- without a second block all tokens remain
else_short : {E B L T M S : Type 0} (g : BlockActions E B L T M S) (f : BlockParser S) → IsShort f → (d : ℕ) (ts : List Lexeme) → Within (length ts + 1) (else_by g f d ts)
else_short g f s d ts =
    if_within (length ts + 1) (heads (is_terminal (Keyword word.Else)) ts) _ (Ok (g.none, ts))
    (λ h. if_within (length ts + 1) (heads (is_terminal (Keyword word.If)) (drop 1 ts)) (enter d (place_of (drop 1 ts)) >>= λ e. change g.chained (f (branch_after g.none) e (drop 1 (drop 1 ts)))) (f block d (drop 1 ts))
    (λ k. enter_within (length ts + 1) (enter d (place_of (drop 1 ts))) (λ e. change g.chained (f (branch_after g.none) e (drop 1 (drop 1 ts))))
    (λ e. change_within (length ts + 1) g.chained (f (branch_after g.none) e (drop 1 (drop 1 ts)))
    (weaken (length (drop 1 (drop 1 ts))) (length ts + 1) (f (branch_after g.none) e (drop 1 (drop 1 ts))) (omega (arith, length-drop 1 (drop 1 ts), length-drop 1 ts)) (s (branch_after g.none) e (drop 1 (drop 1 ts))))))
    (λ k. weaken (length (drop 1 ts)) (length ts + 1) (f block d (drop 1 ts)) (omega (arith, length-drop 1 ts)) (s block d (drop 1 ts))))
    (λ h. omega arith)

branch_short : {E B L T M S : Type 0} (g : BlockActions E B L T M S) (f : BlockParser S) → IsShort f → (v : S) (d : ℕ) (ts : List Lexeme) → Within (length ts) (branch_by g f v d ts)
branch_short g f s v d ts =
    bind_within (length ts) (length ts) (cond_by g d ts) (λ b. f block d b.1 >>= λ p. change (g.branch v b.0 p.0) (else_by g f d p.1)) (cond_short g d ts)
    (λ b lt. bind_within (length b.1) (length ts) (f block d b.1) (λ p. change (g.branch v b.0 p.0) (else_by g f d p.1)) (s block d b.1)
    (λ p le. change_within (length ts) (g.branch v b.0 p.0) (else_by g f d p.1) (weaken (length p.1 + 1) (length ts) (else_by g f d p.1) (omega arith) (else_short g f s d p.1))))

blocks_short : {E B L T M S : Type 0} (g : BlockActions E B L T M S) (f : BlockParser S) → IsShort f → IsShort (blocks_by g f)
blocks_short g f s block d ts = block_short g f s d ts
blocks_short g f s (stmts_after v) d ts = stmts_short g f s v d ts
blocks_short g f s (stmt_after v) d ts = stmt_short g f s v d ts
blocks_short g f s (branch_after v) d ts = branch_short g f s v d ts

pub within_short : {E B L T M S : Type 0} (g : BlockActions E B L T M S) (n : ℕ) → IsShort (block_within g n)
unfolding block_within
within_short g zero x d ts = tt
within_short g (suc n) x d ts = blocks_short g (block_within g n) (within_short g n) x d ts

-- ---- parsers that agree on fewer tokens agree

abbrev Same : {S : Type 0} → BlockParser S → BlockParser S → ℕ → Type 0
Same {S} f h n = (x : BlockAim S) (d : ℕ) (ts : List Lexeme) → steps x ts < n → f x d ts ≡ h x d ts

pub expected_same : {V : Type 0} (p : Terminal → Bool) (ts : List Lexeme) (k l : List Lexeme → Parsed V) → ((us : List Lexeme) → length us < length ts → k us ≡ l us) → (expects p ts >>= k) ≡ (expects p ts >>= l)
expected_same p [] k l h = refl
expected_same p (lexeme s at text ∷ ts) k l h = elim (p s) as (λ b. (cond b (Ok ts) (Err (Syntax at)) >>= k) ≡ (cond b (Ok ts) (Err (Syntax at)) >>= l)) [ true ↦ h ts (omega arith) | false ↦ refl ]

block_same : {E B L T M S : Type 0} (g : BlockActions E B L T M S) (f h : BlockParser S) (d : ℕ) (ts : List Lexeme) → Same f h (2 * length ts) → block_by g f d ts ≡ block_by g h d ts
block_same g f h d ts a =
    expected_same (is_terminal (Separator CurlyOpen)) ts _ _
    (λ us lt. enter_same (enter d (place_of ts)) _ _ (λ e. ap (change g.braced) (a (stmts_after g.none) e us (omega arith))))

stmts_same : {E B L T M S : Type 0} (g : BlockActions E B L T M S) (f h : BlockParser S) → IsShort f → (v : S) (d : ℕ) (ts : List Lexeme) → Same f h (2 * length ts + 1) → stmts_by g f v d ts ≡ stmts_by g h v d ts
stmts_same g f h s v d ts a =
    else_same (heads (is_terminal (Separator CurlyClose)) ts) (Ok (v, drop 1 ts)) _ _
    (bind_same (length ts) (f (stmt_after v) d ts) (h (stmt_after v) d ts) (λ x. f (stmts_after x.0) d x.1) (λ x. h (stmts_after x.0) d x.1)
    (a (stmt_after v) d ts (omega arith)) (s (stmt_after v) d ts) (λ x lt. a (stmts_after x.0) d x.1 (omega arith)))

loop_same : {E B L T M S : Type 0} (g : BlockActions E B L T M S) (f h : BlockParser S) (v : S) (d : ℕ) (ts : List Lexeme) → Same f h (2 * length ts) → loop_by g f v d ts ≡ loop_by g h v d ts
loop_same g f h v d ts a =
    bind_same (length ts) (cond_by g d ts) (cond_by g d ts) (λ b. change (g.turn v b.0) (f block d b.1)) (λ b. change (g.turn v b.0) (h block d b.1)) refl (cond_short g d ts)
    (λ b lt. ap (change (g.turn v b.0)) (a block d b.1 (omega arith)))

stmt_same : {E B L T M S : Type 0} (g : BlockActions E B L T M S) (f h : BlockParser S) (v : S) (d : ℕ) (ts : List Lexeme) → Same f h (2 * length ts) → stmt_by g f v d ts ≡ stmt_by g h v d ts
stmt_same g f h v d [] a = refl
stmt_same g f h v d (lexeme (Keyword word.Skip) at text ∷ ts) a = refl
stmt_same g f h v d (lexeme (Keyword word.Abort) at text ∷ ts) a = refl
stmt_same g f h v d (lexeme (Keyword word.Assert) at text ∷ ts) a = refl
stmt_same g f h v d (lexeme (Keyword word.If) at text ∷ ts) a = a (branch_after v) d ts (omega arith)
stmt_same g f h v d (lexeme (Keyword word.While) at text ∷ ts) a = loop_same g f h v d ts (λ x e us lt. a x e us (omega arith))
stmt_same g f h v d (lexeme Name at text ∷ ts) a = refl
stmt_same g f h v d (lexeme _ at text ∷ ts) a = refl

else_by_same : {E B L T M S : Type 0} (g : BlockActions E B L T M S) (f h : BlockParser S) (d : ℕ) (ts : List Lexeme) → Same f h (2 * length ts) → else_by g f d ts ≡ else_by g h d ts
else_by_same g f h d ts a =
    if_same (heads (is_terminal (Keyword word.Else)) ts) _ (Ok (g.none, ts)) _
    (λ k. let lt = headed (is_terminal (Keyword word.Else)) ts k in
    if_same (heads (is_terminal (Keyword word.If)) (drop 1 ts)) _ _ _
    (λ l. enter_same (enter d (place_of (drop 1 ts))) _ _ (λ e. ap (change g.chained) (a (branch_after g.none) e (drop 1 (drop 1 ts)) (omega (arith, length-drop 1 (drop 1 ts), lt)))))
    ∙ else_same (heads (is_terminal (Keyword word.If)) (drop 1 ts)) _ _ _ (a block d (drop 1 ts) (omega (arith, lt))))

branch_same : {E B L T M S : Type 0} (g : BlockActions E B L T M S) (f h : BlockParser S) → IsShort f → (v : S) (d : ℕ) (ts : List Lexeme) → Same f h (2 * length ts) → branch_by g f v d ts ≡ branch_by g h v d ts
branch_same g f h s v d ts a =
    bind_same (length ts) (cond_by g d ts) (cond_by g d ts) (λ b. f block d b.1 >>= λ p. change (g.branch v b.0 p.0) (else_by g f d p.1)) (λ b. h block d b.1 >>= λ p. change (g.branch v b.0 p.0) (else_by g h d p.1)) refl (cond_short g d ts)
    (λ b lt. bind_same (length b.1) (f block d b.1) (h block d b.1) (λ p. change (g.branch v b.0 p.0) (else_by g f d p.1)) (λ p. change (g.branch v b.0 p.0) (else_by g h d p.1)) (a block d b.1 (omega arith)) (s block d b.1)
    (λ p le. ap (change (g.branch v b.0 p.0)) (else_by_same g f h d p.1 (λ x e us less. a x e us (omega arith)))))

blocks_same : {E B L T M S : Type 0} (g : BlockActions E B L T M S) (f h : BlockParser S) → IsShort f → (x : BlockAim S) (d : ℕ) (ts : List Lexeme) → Same f h (steps x ts) → blocks_by g f x d ts ≡ blocks_by g h x d ts
blocks_same g f h s block d ts a = block_same g f h d ts (λ x e us lt. a x e us (omega arith))
blocks_same g f h s (stmts_after v) d ts a = stmts_same g f h s v d ts (λ x e us lt. a x e us (omega arith))
blocks_same g f h s (stmt_after v) d ts a = stmt_same g f h v d ts (λ x e us lt. a x e us (omega arith))
blocks_same g f h s (branch_after v) d ts a = branch_same g f h s v d ts (λ x e us lt. a x e us (omega arith))

enough : {E B L T M S : Type 0} (g : BlockActions E B L T M S) (n m : ℕ) (x : BlockAim S) (d : ℕ) (ts : List Lexeme) → steps x ts < n → steps x ts < m → block_within g n x d ts ≡ block_within g m x d ts
unfolding block_within
enough g zero m x d ts p q = absurd (omega arith)
enough g (suc n) zero x d ts p q = absurd (omega arith)
enough g (suc n) (suc m) x d ts p q = blocks_same g (block_within g n) (block_within g m) (within_short g n) x d ts (λ y e us lt. enough g n m y e us (omega arith) (omega arith))

pub block_step : {E B L T M S : Type 0} (g : BlockActions E B L T M S) (x : BlockAim S) (d : ℕ) (ts : List Lexeme) → parse_block g x d ts ≡ blocks_by g (parse_block g) x d ts
unfolding parse_block block_within
block_step g x d ts = blocks_same g (block_within g (steps x ts)) (parse_block g) (within_short g (steps x ts)) x d ts (λ y e us lt. enough g (steps x ts) (suc (steps y us)) y e us lt (omega arith))

-- the equation at each aim, for searches that shall not unfold the aims inside it
pub block_aim_step : {E B L T M S : Type 0} (g : BlockActions E B L T M S) (d : ℕ) (ts : List Lexeme) → parse_block g block d ts ≡ block_by g (parse_block g) d ts
block_aim_step g d ts = block_step g block d ts

pub stmts_after_step : {E B L T M S : Type 0} (g : BlockActions E B L T M S) (s : S) (d : ℕ) (ts : List Lexeme) → parse_block g (stmts_after s) d ts ≡ stmts_by g (parse_block g) s d ts
stmts_after_step g s d ts = block_step g (stmts_after s) d ts

pub stmt_after_step : {E B L T M S : Type 0} (g : BlockActions E B L T M S) (s : S) (d : ℕ) (ts : List Lexeme) → parse_block g (stmt_after s) d ts ≡ stmt_by g (parse_block g) s d ts
stmt_after_step g s d ts = block_step g (stmt_after s) d ts

pub branch_after_step : {E B L T M S : Type 0} (g : BlockActions E B L T M S) (s : S) (d : ℕ) (ts : List Lexeme) → parse_block g (branch_after s) d ts ≡ branch_by g (parse_block g) s d ts
branch_after_step g s d ts = block_step g (branch_after s) d ts

-- the parser consumes at least one token
pub block_read_short : {E B L T M S : Type 0} (g : BlockActions E B L T M S) → IsShort (parse_block g)
unfolding parse_block
block_read_short g x d ts = within_short g (suc (steps x ts)) x d ts
