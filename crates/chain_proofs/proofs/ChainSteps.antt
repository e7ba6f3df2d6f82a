-- The equation of reading a chain, without the bound on steps.
use Rattle.std.proofs.Common.{◌≡◌, ℕ, zero, suc, ◌+◌, ◌<◌, List, [], ◌∷◌, length, Bool, true, false, cond, if◌then◌else◌, None, Some, Ok, Err, refl, ap, arith, drop, length-drop}
use Rattle.text_parser.specs.declared.fault.TextFault.TheVariants.{Syntax}
use Rattle.text_parser.specs.declared.terminal.Terminal.TheVariants.{Dot, Separator}
use Rattle.text_parser.specs.declared.terminal.Separator.TheVariants.{Semicolon, CurlyOpen, CurlyClose, Equals}
use Rattle.text_parser.specs.Lexemes.{Lexeme, heads, is_terminal}
use Rattle.text_parser.specs.Parsed.{Parsed, ◌>>=◌, change, then_expects, place_of}
use Rattle.text_parser.proofs.Within.{Within, bind_within, if_within, weaken, enter_within, change_within, then_expects_within, headed, bind_same, if_same, enter_same}
use Rattle.chain_proofs.specs.ChainActions.{ChainActions}
use Rattle.while_lang.specs.Blocks.{enter}
use Rattle.while_lang.proofs.BlockSteps.{expected_within, expected_same}
use Rattle.problem_file.specs.Items.{number_at}
use Rattle.chain_proofs.specs.ChainWalks.{is_word, expects_word, rule_name, has_number, argument, parts_by, path_by, rule_by, ChainAim, whole_chain, lines_after, ChainParser, braces_by, inner_by, line_by, chain_by, chain_within, parse_chain}

-- ---- reading consumes at least one token, unless the phrase may be empty

abbrev pub bound : {Z V : Type 0} → ChainAim Z V → ℕ → ℕ
bound (whole_chain z) n = n
bound (lines_after v z) n = n + 1

abbrev pub IsShort : {Z V : Type 0} → ChainParser Z V → Type 0
IsShort {Z} {V} f = (x : ChainAim Z V) (d : ℕ) (ts : List Lexeme) → Within (bound x (length ts)) (f x d ts)

-- a word, and the continuation after it
pub tail_shorter : (w : List ℕ) (ts : List Lexeme) → is_word w ts ≡ true → length (drop 1 ts) < length ts
tail_shorter w [] e = absurd cc
tail_shorter w (x ∷ ts) e = omega arith

word_within : {V : Type 0} (w : List ℕ) (n : ℕ) (ts : List Lexeme) (k : List Lexeme → Parsed V) → ((us : List Lexeme) → length us < length ts → Within n (k us)) → Within n (expects_word w ts >>= k)
word_within w n ts k h = by_test (is_word w ts) refl where
  by_test : (b : Bool) → is_word w ts ≡ b → Within n (cond b (Ok (drop 1 ts)) (Err (Syntax (place_of ts))) >>= k)
  by_test true e = h (drop 1 ts) (tail_shorter w ts e)
  by_test false e = tt

argument_short : (name : List ℕ) (ts : List Lexeme) → Within (length ts + 1) (argument name ts)
argument_short name ts =
    if_within (length ts + 1) (has_number name) (number_at ts >>= λ n. Ok (n, drop 1 ts)) (Ok (0, ts))
    (λ h. enter_within (length ts + 1) (number_at ts) (λ n. Ok (n, drop 1 ts)) (λ n. omega (arith, length-drop 1 ts)))
    (λ h. omega arith)

parts_short : {Z T R P V : Type 0} (g : ChainActions Z T R P V) (p : P) (ts : List Lexeme) → Within (length ts + 1) (parts_by g p ts)
unfolding parts_by
parts_short g p [] = omega arith
parts_short g p (x ∷ []) =
    if_within (length (x ∷ []) + 1) (heads (is_terminal Dot) (x ∷ [])) _ (Ok (p, x ∷ [])) (λ h. tt) (λ h. omega arith)
parts_short g p (x ∷ y ∷ ts) =
    if_within (length (x ∷ y ∷ ts) + 1) (heads (is_terminal Dot) (x ∷ y ∷ ts)) (number_at (y ∷ ts) >>= λ n. parts_by g (g.part p n) ts) (Ok (p, x ∷ y ∷ ts))
    (λ h. enter_within (length (x ∷ y ∷ ts) + 1) (number_at (y ∷ ts)) (λ n. parts_by g (g.part p n) ts)
    (λ n. weaken (length ts + 1) (length (x ∷ y ∷ ts) + 1) (parts_by g (g.part p n) ts) (omega arith) (parts_short g (g.part p n) ts)))
    (λ h. omega arith)

path_short : {Z T R P V : Type 0} (g : ChainActions Z T R P V) (ts : List Lexeme) → Within (length ts + 1) (path_by g ts)
path_short g ts =
    if_within (length ts + 1) (is_word _ ts) (number_at (drop 1 ts) >>= λ n. parts_by g (g.part g.whole n) (drop 2 ts)) (Ok (g.whole, ts))
    (λ h. enter_within (length ts + 1) (number_at (drop 1 ts)) (λ n. parts_by g (g.part g.whole n) (drop 2 ts))
    (λ n. weaken (length (drop 2 ts) + 1) (length ts + 1) (parts_by g (g.part g.whole n) (drop 2 ts)) (omega (arith, length-drop 2 ts)) (parts_short g (g.part g.whole n) (drop 2 ts))))
    (λ h. omega arith)

pub rule_short : {Z T R P V : Type 0} (g : ChainActions Z T R P V) (ts : List Lexeme) → Within (length ts) (rule_by g ts)
rule_short g [] = tt
rule_short g (x ∷ ts) =
    enter_within (length (x ∷ ts)) (rule_name (x ∷ ts)) _
    (λ w. bind_within (length ts + 1) (length (x ∷ ts)) (argument w.1 ts) _ (argument_short w.1 ts)
    (λ n lt. enter_within (length (x ∷ ts)) (g.rule w.0 w.1 n.0) _
    (λ r. change_within (length (x ∷ ts)) _ (path_by g n.1) (weaken (length n.1 + 1) (length (x ∷ ts)) (path_by g n.1) (omega arith) (path_short g n.1)))))

braces_short : {Z V : Type 0} (f : ChainParser Z V) → IsShort f → (z : Z) (d : ℕ) (ts : List Lexeme) → Within (length ts) (braces_by f z d ts)
braces_short f s z d ts =
    expected_within (is_terminal (Separator CurlyOpen)) (length ts) ts (λ a. enter d (place_of ts) >>= λ e. then_expects (is_terminal (Separator CurlyClose)) (f (whole_chain z) e a))
    (λ a lt. enter_within (length ts) (enter d (place_of ts)) (λ e. then_expects (is_terminal (Separator CurlyClose)) (f (whole_chain z) e a))
    (λ e. then_expects_within (is_terminal (Separator CurlyClose)) (length ts) (f (whole_chain z) e a) (weaken (length a) (length ts) (f (whole_chain z) e a) (omega arith) (s (whole_chain z) e a))))

pub inner_short : {Z V : Type 0} (f : ChainParser Z V) → IsShort f → (b : Bool) (z : Z) (d : ℕ) (ts : List Lexeme) → Within (length ts + 1) (inner_by f b z d ts)
inner_short f s b z d ts =
    if_within (length ts + 1) b (change (λ x. (Some x.0, x.1)) (braces_by f z d ts)) (Ok ((None, z), ts))
    (λ h. change_within (length ts + 1) (λ x. (Some x.0, x.1)) (braces_by f z d ts) (weaken (length ts) (length ts + 1) (braces_by f z d ts) (omega arith) (braces_short f s z d ts)))
    (λ h. omega arith)

pub line_short : {Z T R P V : Type 0} (g : ChainActions Z T R P V) (f : ChainParser Z V) → IsShort f → (v : V) (z : Z) (d : ℕ) (ts : List Lexeme) → Within (length ts) (line_by g f v z d ts)
line_short g f s v z d ts =
    bind_within (length ts) (length ts) (g.term d z ts) _ (g.shorter d z ts)
    (λ t lt. word_within _ (length ts) t.1 _
    (λ b less. bind_within (length b) (length ts) (rule_by g b) _ (rule_short g b)
    (λ r fewer. bind_within (length r.1 + 1) (length ts) (inner_by f (r.0).inner (t.0).1 d r.1) _ (inner_short f s (r.0).inner (t.0).1 d r.1)
    (λ i le. then_expects_within (is_terminal (Separator Semicolon)) (length ts) (Ok ((g.line v (t.0).0 (r.0).rule (r.0).path (i.0).0, (i.0).1), i.1)) (omega arith)))))

chain_short : {Z T R P V : Type 0} (g : ChainActions Z T R P V) (f : ChainParser Z V) → IsShort f → IsShort (chain_by g f)
chain_short g f s (whole_chain z) d ts =
    bind_within (length ts) (length ts) (g.term d z ts) (λ t. f (lines_after (g.first (t.0).0) (t.0).1) d t.1) (g.shorter d z ts)
    (λ t lt. weaken (length t.1 + 1) (length ts) (f (lines_after (g.first (t.0).0) (t.0).1) d t.1) (omega arith) (s (lines_after (g.first (t.0).0) (t.0).1) d t.1))
chain_short g f s (lines_after v z) d ts =
    if_within (length ts + 1) (heads (is_terminal (Separator Equals)) ts) (line_by g f v z d (drop 1 ts) >>= λ x. f (lines_after (x.0).0 (x.0).1) d x.1) (Ok ((v, z), ts))
    (λ h. bind_within (length (drop 1 ts)) (length ts + 1) (line_by g f v z d (drop 1 ts)) (λ x. f (lines_after (x.0).0 (x.0).1) d x.1) (line_short g f s v z d (drop 1 ts))
    (λ x lt. weaken (length x.1 + 1) (length ts + 1) (f (lines_after (x.0).0 (x.0).1) d x.1) (omega (arith, length-drop 1 ts)) (s (lines_after (x.0).0 (x.0).1) d x.1)))
    (λ h. omega arith)

pub within_short : {Z T R P V : Type 0} (g : ChainActions Z T R P V) (n : ℕ) → IsShort (chain_within g n)
unfolding chain_within
within_short g zero x d ts = tt
within_short g (suc n) x d ts = chain_short g (chain_within g n) (within_short g n) x d ts

-- ---- readers that agree on fewer tokens agree

abbrev Same : {Z V : Type 0} → ChainParser Z V → ChainParser Z V → ℕ → Type 0
Same {Z} {V} f h n = (x : ChainAim Z V) (d : ℕ) (ts : List Lexeme) → length ts < n → f x d ts ≡ h x d ts

word_same : {V : Type 0} (w : List ℕ) (ts : List Lexeme) (k l : List Lexeme → Parsed V) → ((us : List Lexeme) → length us < length ts → k us ≡ l us) → (expects_word w ts >>= k) ≡ (expects_word w ts >>= l)
word_same w ts k l h = by_test (is_word w ts) refl where
  by_test : (b : Bool) → is_word w ts ≡ b → (cond b (Ok (drop 1 ts)) (Err (Syntax (place_of ts))) >>= k) ≡ (cond b (Ok (drop 1 ts)) (Err (Syntax (place_of ts))) >>= l)
  by_test true e = h (drop 1 ts) (tail_shorter w ts e)
  by_test false e = refl

braces_same : {Z V : Type 0} (f h : ChainParser Z V) (z : Z) (d : ℕ) (ts : List Lexeme) → Same f h (length ts) → braces_by f z d ts ≡ braces_by h z d ts
braces_same f h z d ts a =
    expected_same (is_terminal (Separator CurlyOpen)) ts _ _
    (λ us lt. enter_same (enter d (place_of ts)) _ _ (λ e. ap (then_expects (is_terminal (Separator CurlyClose))) (a (whole_chain z) e us lt)))

inner_same : {Z V : Type 0} (f h : ChainParser Z V) (b : Bool) (z : Z) (d : ℕ) (ts : List Lexeme) → Same f h (length ts) → inner_by f b z d ts ≡ inner_by h b z d ts
inner_same f h b z d ts a = if_same b _ (Ok ((None, z), ts)) _ (λ e. ap (change (λ x. (Some x.0, x.1))) (braces_same f h z d ts a))

line_same : {Z T R P V : Type 0} (g : ChainActions Z T R P V) (f h : ChainParser Z V) → IsShort f → (v : V) (z : Z) (d : ℕ) (ts : List Lexeme) → Same f h (length ts) → line_by g f v z d ts ≡ line_by g h v z d ts
line_same g f h s v z d ts a =
    bind_same (length ts) (g.term d z ts) (g.term d z ts) _ _ refl (g.shorter d z ts)
    (λ t lt. word_same _ t.1 _ _
    (λ b less. bind_same (length b) (rule_by g b) (rule_by g b) _ _ refl (rule_short g b)
    (λ r fewer. bind_same (length r.1 + 1) (inner_by f (r.0).inner (t.0).1 d r.1) (inner_by h (r.0).inner (t.0).1 d r.1) _ _
    (inner_same f h (r.0).inner (t.0).1 d r.1 (λ x e us le. a x e us (omega arith))) (inner_short f s (r.0).inner (t.0).1 d r.1) (λ i le. refl))))

chain_same : {Z T R P V : Type 0} (g : ChainActions Z T R P V) (f h : ChainParser Z V) → IsShort f → (x : ChainAim Z V) (d : ℕ) (ts : List Lexeme) → Same f h (length ts) → chain_by g f x d ts ≡ chain_by g h x d ts
chain_same g f h s (whole_chain z) d ts a =
    bind_same (length ts) (g.term d z ts) (g.term d z ts) _ _ refl (g.shorter d z ts) (λ t lt. a (lines_after (g.first (t.0).0) (t.0).1) d t.1 lt)
chain_same g f h s (lines_after v z) d ts a =
    if_same (heads (is_terminal (Separator Equals)) ts) _ (Ok ((v, z), ts)) _
    (λ e. let lt = headed (is_terminal (Separator Equals)) ts e in
    bind_same (length (drop 1 ts)) (line_by g f v z d (drop 1 ts)) (line_by g h v z d (drop 1 ts)) (λ x. f (lines_after (x.0).0 (x.0).1) d x.1) (λ x. h (lines_after (x.0).0 (x.0).1) d x.1)
    (line_same g f h s v z d (drop 1 ts) (λ x e us less. a x e us (omega (arith, lt)))) (line_short g f s v z d (drop 1 ts)) (λ x less. a (lines_after (x.0).0 (x.0).1) d x.1 (omega (arith, lt))))

enough : {Z T R P V : Type 0} (g : ChainActions Z T R P V) (n m : ℕ) (x : ChainAim Z V) (d : ℕ) (ts : List Lexeme) → length ts < n → length ts < m → chain_within g n x d ts ≡ chain_within g m x d ts
unfolding chain_within
enough g zero m x d ts p q = absurd (omega arith)
enough g (suc n) zero x d ts p q = absurd (omega arith)
enough g (suc n) (suc m) x d ts p q = chain_same g (chain_within g n) (chain_within g m) (within_short g n) x d ts (λ y e us lt. enough g n m y e us (omega arith) (omega arith))

pub chain_step : {Z T R P V : Type 0} (g : ChainActions Z T R P V) (x : ChainAim Z V) (d : ℕ) (ts : List Lexeme) → parse_chain g x d ts ≡ chain_by g (parse_chain g) x d ts
unfolding parse_chain chain_within
chain_step g x d ts = chain_same g (chain_within g (length ts)) (parse_chain g) (within_short g (length ts)) x d ts (λ y e us lt. enough g (length ts) (suc (length us)) y e us lt (omega arith))

-- the equation at each aim, for searches that shall not unfold the aims inside it
pub whole_chain_step : {Z T R P V : Type 0} (g : ChainActions Z T R P V) (z : Z) (d : ℕ) (ts : List Lexeme) → parse_chain g (whole_chain z) d ts ≡ (g.term d z ts >>= λ t. parse_chain g (lines_after (g.first (t.0).0) (t.0).1) d t.1)
whole_chain_step g z d ts = chain_step g (whole_chain z) d ts

pub lines_after_step : {Z T R P V : Type 0} (g : ChainActions Z T R P V) (v : V) (z : Z) (d : ℕ) (ts : List Lexeme) → parse_chain g (lines_after v z) d ts ≡ (if heads (is_terminal (Separator Equals)) ts then (line_by g (parse_chain g) v z d (drop 1 ts) >>= λ x. parse_chain g (lines_after (x.0).0 (x.0).1) d x.1) else Ok ((v, z), ts))
lines_after_step g v z d ts = chain_step g (lines_after v z) d ts

-- reading consumes tokens
pub chain_read_short : {Z T R P V : Type 0} (g : ChainActions Z T R P V) → IsShort (parse_chain g)
unfolding parse_chain
chain_read_short g x d ts = within_short g (suc (length ts)) x d ts
