-- A phrase that is well scoped and within the depth limit is not too deep after its names are expanded.
use Rattle.std.proofs.Common.{ℕ, ◌+◌, ◌<◌, ◌≤◌, max, slice_get, Option, Some, None, arith}
use Rattle.kat_model.specs.declared.limits.TheConstants.{MAX_OPEN}
use Rattle.text_parser.specs.declared.reading.Context.{Context}
use Rattle.text_parser.specs.Phrases.{Symbol, Phrase, one_prod, more_prods, one_star, more_stars, bare, starred, zero_unit, one_unit, name_unit, not_unit, square_unit, round_unit, one_conj, more_conjs, one_lit, more_lits, true_lit, false_lit, name_lit, not_lit, round_lit, relation_lit, one_mul, more_muls, one_fac, more_facs, zero_fac, one_fac_number, number_fac, wide_fac, name_fac, round_fac, IsWithinLimits}
use Rattle.text_parser.specs.declared.meaning.Meaning.{Meaning}
use Rattle.text_parser.specs.declared.meaning.Meaning.TheVariants.{Test, Action, Var, Term as TermName, Prog}
use Rattle.text_parser.specs.ScopeParts.{Definition, ScopeParts, meaning}
use Rattle.text_parser.specs.Sound.{inside, inside_not, IsUsable, IsTermName, IsSound, defined_nesting, name_nesting, nesting}

used_fits : (c : Context) (o : Option Definition) → IsUsable c o → c.depth ≤ MAX_OPEN → c.depth + defined_nesting o ≤ MAX_OPEN
used_fits c None sound le = omega (arith, le)
used_fits c (Some d) sound le = sound.1

name_fits : (w : ScopeParts) (c : Context) (o : Option Meaning) → IsTermName w c o → c.depth ≤ MAX_OPEN → c.depth + name_nesting w o ≤ MAX_OPEN
name_fits w c None sound le = absurd sound
name_fits w c (Some (Test k)) sound le = omega (arith, le)
name_fits w c (Some (Action a)) sound le = omega (arith, le)
name_fits w c (Some (Var k)) sound le = absurd sound
name_fits w c (Some (TermName i)) sound le = used_fits c (slice_get w.terms i) sound le
name_fits w c (Some (Prog i)) sound le = absurd sound

pub most : (d m n : ℕ) → d + m ≤ MAX_OPEN → d + n ≤ MAX_OPEN → d + max m n ≤ MAX_OPEN
most d m n h k = omega (arith, h, k)

pub deeper : (d n : ℕ) → d + 1 + n ≤ MAX_OPEN → d + (n + 1) ≤ MAX_OPEN
deeper d n h = omega (arith, h)

pub flat : (d : ℕ) → d ≤ MAX_OPEN → d + 0 ≤ MAX_OPEN
flat d le = omega (arith, le)

pub next : (d : ℕ) → d < MAX_OPEN → d + 1 ≤ MAX_OPEN
next d lt = omega (arith, lt)

pub nesting_fits : (w : ScopeParts) (c : Context) {x : Symbol} (p : Phrase x) → IsSound w c p → IsWithinLimits c.depth p → c.depth ≤ MAX_OPEN → c.depth + nesting w p ≤ MAX_OPEN
nesting_fits w c (one_prod p) s f le = nesting_fits w c p s f le
nesting_fits w c (more_prods p l t) s f le = most c.depth (nesting w p) (nesting w t) (nesting_fits w c p s.0 f.0 le) (nesting_fits w c t s.1 f.1 le)
nesting_fits w c (one_star p) s f le = nesting_fits w c p s f le
nesting_fits w c (more_stars p l t) s f le = most c.depth (nesting w p) (nesting w t) (nesting_fits w c p s.0 f.0 le) (nesting_fits w c t s.1 f.1 le)
nesting_fits w c (bare u) s f le = nesting_fits w c u s f le
nesting_fits w c (starred u l) s f le = nesting_fits w c u s.1 f le
nesting_fits w c (zero_unit l) s f le = flat c.depth le
nesting_fits w c (one_unit l) s f le = flat c.depth le
nesting_fits w c (name_unit l) s f le = name_fits w c (meaning w l.text) s le
nesting_fits w c (not_unit l u) s f le = deeper c.depth (nesting w u) (nesting_fits w (inside_not c) u s f.1 (next c.depth f.0))
nesting_fits w c (square_unit l b r) s f le = deeper c.depth (nesting w b) (nesting_fits w (inside c) b s f.1 (next c.depth f.0))
nesting_fits w c (round_unit l t r) s f le = deeper c.depth (nesting w t) (nesting_fits w (inside c) t s f.1 (next c.depth f.0))
nesting_fits w c (one_conj b) s f le = nesting_fits w c b s f le
nesting_fits w c (more_conjs b l d) s f le = most c.depth (nesting w b) (nesting w d) (nesting_fits w c b s.0 f.0 le) (nesting_fits w c d s.1 f.1 le)
nesting_fits w c (one_lit x) s f le = nesting_fits w c x s f le
nesting_fits w c (more_lits x l b) s f le = most c.depth (nesting w x) (nesting w b) (nesting_fits w c x s.0 f.0 le) (nesting_fits w c b s.1 f.1 le)
nesting_fits w c (true_lit l) s f le = flat c.depth le
nesting_fits w c (false_lit l) s f le = flat c.depth le
nesting_fits w c (name_lit l) s f le = flat c.depth le
nesting_fits w c (not_lit l x) s f le = deeper c.depth (nesting w x) (nesting_fits w (inside_not c) x s f.1 (next c.depth f.0))
nesting_fits w c (round_lit l b r) s f le = deeper c.depth (nesting w b) (nesting_fits w (inside c) b s f.1 (next c.depth f.0))
nesting_fits w c (relation_lit e l r g) s f le = most c.depth (nesting w e) (nesting w g) (nesting_fits w c e s.0 f.0 le) (nesting_fits w c g s.1 f.1 le)
nesting_fits w c (one_mul m) s f le = nesting_fits w c m s f le
nesting_fits w c (more_muls m l minus e) s f le = most c.depth (nesting w m) (nesting w e) (nesting_fits w c m s.0 f.0 le) (nesting_fits w c e s.1 f.1 le)
nesting_fits w c (one_fac x) s f le = nesting_fits w c x s f le
nesting_fits w c (more_facs x l m) s f le = most c.depth (nesting w x) (nesting w m) (nesting_fits w c x s.0 f.0 le) (nesting_fits w c m s.1 f.1 le)
nesting_fits w c (zero_fac l) s f le = flat c.depth le
nesting_fits w c (one_fac_number l) s f le = flat c.depth le
nesting_fits w c (number_fac l n) s f le = flat c.depth le
nesting_fits w c (wide_fac l) s f le = absurd f
nesting_fits w c (name_fac l) s f le = flat c.depth le
nesting_fits w c (round_fac l e r) s f le = deeper c.depth (nesting w e) (nesting_fits w (inside c) e s f.1 (next c.depth f.0))
