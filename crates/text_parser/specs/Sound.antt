-- The phrases that are allowed in a scope, and their nesting with defined names expanded.
use Rattle.std.specs.Prelude.{◌≡◌, ◌≤◌, ◌+◌, ℕ, max, true, false, slice_get, Option, Some, None}
use Rattle.kat_model.specs.declared.limits.TheConstants.{MAX_OPEN}
use Rattle.kat_model.specs.Trees.{is_test}
use Rattle.text_parser.specs.declared.reading.Context.{Context}
use Rattle.text_parser.specs.Actions.{context}
use Rattle.text_parser.specs.Phrases.{Symbol, Phrase, one_prod, more_prods, one_star, more_stars, bare, starred, name_unit, not_unit, square_unit, round_unit, one_conj, more_conjs, one_lit, more_lits, name_lit, not_lit, round_lit, relation_lit, one_mul, more_muls, one_fac, more_facs, zero_fac, one_fac_number, number_fac, name_fac, round_fac}
use Rattle.text_parser.specs.declared.meaning.Meaning.{Meaning}
use Rattle.text_parser.specs.declared.meaning.Meaning.TheVariants.{Test, Action, Var, Term as TermName}
use Rattle.text_parser.specs.ScopeParts.{Definition, ScopeParts, meaning}

-- the context inside a parenthesis or a bracket
abbrev pub inside : Context → Context
inside c = context (c.depth + 1) c.negated c.compares

-- the context in the operand of a `!`
abbrev pub inside_not : Context → Context
inside_not c = context (c.depth + 1) true c.compares

-- a defined term is allowed here: it is a test if a `!` encloses it, and it is not too deep
abbrev pub IsUsable : Context → Option Definition → Type 0
IsUsable c None = Unit {0}
IsUsable c (Some d) = (c.negated ≡ true → is_test d.tree ≡ true) × (c.depth + d.nesting ≤ MAX_OPEN)

-- a name in a term denotes a test, an action outside of every `!`, or a term that is allowed here
abbrev pub IsTermName : ScopeParts → Context → Option Meaning → Type 0
IsTermName w c (Some (Test k)) = Unit {0}
IsTermName w c (Some (Action a)) = c.negated ≡ false
IsTermName w c (Some (TermName i)) = IsUsable c (slice_get w.terms i)
IsTermName w c _ = ⊥

-- a name that is a condition denotes a test
abbrev pub IsCondName : Option Meaning → Type 0
IsCondName (Some (Test k)) = Unit {0}
IsCondName _ = ⊥

-- a name in an expression denotes a variable
abbrev pub IsExprName : Option Meaning → Type 0
IsExprName (Some (Var k)) = Unit {0}
IsExprName _ = ⊥

-- each name is declared, of the right sort and not too deep, each number is where comparisons are allowed, and no star
-- is under a `!`
abbrev pub IsSound : ScopeParts → Context → {x : Symbol} → Phrase x → Type 0
IsSound w c (one_prod p) = IsSound w c p
IsSound w c (more_prods p l t) = IsSound w c p × IsSound w c t
IsSound w c (one_star s) = IsSound w c s
IsSound w c (more_stars s l p) = IsSound w c s × IsSound w c p
IsSound w c (bare u) = IsSound w c u
IsSound w c (starred u l) = (c.negated ≡ false) × IsSound w c u
IsSound w c (name_unit l) = IsTermName w c (meaning w l.text)
IsSound w c (not_unit l u) = IsSound w (inside_not c) u
IsSound w c (square_unit l b r) = IsSound w (inside c) b
IsSound w c (round_unit l t r) = IsSound w (inside c) t
IsSound w c (one_conj b) = IsSound w c b
IsSound w c (more_conjs b l d) = IsSound w c b × IsSound w c d
IsSound w c (one_lit x) = IsSound w c x
IsSound w c (more_lits x l b) = IsSound w c x × IsSound w c b
IsSound w c (name_lit l) = IsCondName (meaning w l.text)
IsSound w c (not_lit l x) = IsSound w (inside_not c) x
IsSound w c (round_lit l b r) = IsSound w (inside c) b
IsSound w c (relation_lit e l r f) = IsSound w c e × IsSound w c f
IsSound w c (one_mul m) = IsSound w c m
IsSound w c (more_muls m l minus e) = IsSound w c m × IsSound w c e
IsSound w c (one_fac x) = IsSound w c x
IsSound w c (more_facs x l m) = IsSound w c x × IsSound w c m
IsSound w c (zero_fac l) = c.compares ≡ true
IsSound w c (one_fac_number l) = c.compares ≡ true
IsSound w c (number_fac l n) = c.compares ≡ true
IsSound w c (name_fac l) = (c.compares ≡ true) × IsExprName (meaning w l.text)
IsSound w c (round_fac l e r) = IsSound w (inside c) e
IsSound w c _ = Unit {0}

-- the nesting of a defined term
abbrev pub defined_nesting : Option Definition → ℕ
defined_nesting None = 0
defined_nesting (Some d) = d.nesting

-- the nesting of a name
abbrev pub name_nesting : ScopeParts → Option Meaning → ℕ
name_nesting w (Some (TermName i)) = defined_nesting (slice_get w.terms i)
name_nesting w _ = 0

-- the maximum number of constructs open at one place, with defined names expanded
abbrev pub nesting : ScopeParts → {x : Symbol} → Phrase x → ℕ
nesting w (one_prod p) = nesting w p
nesting w (more_prods p l t) = max (nesting w p) (nesting w t)
nesting w (one_star s) = nesting w s
nesting w (more_stars s l p) = max (nesting w s) (nesting w p)
nesting w (bare u) = nesting w u
nesting w (starred u l) = nesting w u
nesting w (name_unit l) = name_nesting w (meaning w l.text)
nesting w (not_unit l u) = nesting w u + 1
nesting w (square_unit l b r) = nesting w b + 1
nesting w (round_unit l t r) = nesting w t + 1
nesting w (one_conj b) = nesting w b
nesting w (more_conjs b l d) = max (nesting w b) (nesting w d)
nesting w (one_lit x) = nesting w x
nesting w (more_lits x l b) = max (nesting w x) (nesting w b)
nesting w (not_lit l x) = nesting w x + 1
nesting w (round_lit l b r) = nesting w b + 1
nesting w (relation_lit e l r f) = max (nesting w e) (nesting w f)
nesting w (one_mul m) = nesting w m
nesting w (more_muls m l minus e) = max (nesting w m) (nesting w e)
nesting w (one_fac x) = nesting w x
nesting w (more_facs x l m) = max (nesting w x) (nesting w m)
nesting w (round_fac l e r) = nesting w e + 1
nesting w _ = 0
