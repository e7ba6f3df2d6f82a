-- Equations and matches resolved, one more.
use Rattle.std.proofs.Common.{◌≡◌, ◌<◌, ◌≤◌, ℕ, zero, suc, ◌+◌, ◌-◌, List, [], ◌∷◌, ◌++◌, length, length-append, take, drop, get_or, map, true, false, ◌&&◌, ◌||◌, Option, Result, Ok, Err, slice_get, nat_eq, refl, sym, ap, ◌∙◌, arith}
use Rattle.std.proofs.lemmas.Bool.{eqb-true}
use Rattle.std.specs.List.{list_any}
use Rattle.std.proofs.lemmas.List.{map-append, length-map, length-reverse, nil_from_length, drop_more, drop_all}
use Rattle.text_parser.specs.declared.fault.TextFault.{TextFault}
use Rattle.text_parser.specs.TokenParts.{TokenParts}
use Rattle.text_parser.specs.Parsed.{◌>>=◌}
use Rattle.flow_model.specs.Conditions.{always}
use Rattle.flow_syntax.specs.declared.written.CondNode.{CondNode}
use Rattle.flow_syntax.specs.declared.written.Equation.{Equation as Written}
use Rattle.flow_syntax.specs.declared.written.Block.{Block}
use Rattle.flow_syntax.specs.SyntaxViews.{cond_syntax, equation_syntax, equations_syntax, blocks_syntax}
use Rattle.flow_syntax.specs.Syntax.{CondSyntax}
use Rattle.flow_syntax.proofs.Stacked.{cond_none, equations_push, blocks_push}
use Rattle.flow_model.specs.declared.block_match.Equation.{Equation}
use Rattle.flow_text.specs.declared.matches.FileMatch.{FileMatch as AFileMatch}
use Rattle.flow_text.specs.declared.known.WrittenMatch.{WrittenMatch}
use Rattle.flow_text.specs.declared.known.WrittenGraph.{WrittenGraph}
use Rattle.flow_model.specs.Matches as parts
use Rattle.flow_text.specs.Matches.{FileMatch}
use Rattle.flow_text.specs.MatchViews.{equation_parts, equations_of, match_parts}
use Rattle.flow_text.specs.KnownViews.{graph_syntax, given_match_of}
use Rattle.flow_text.specs.Scopes.{ScopeParts}
use Rattle.flow_text.specs.Resolving.{condition_of}
use Rattle.flow_text.specs.Checking.{block_names, next_equation, equations_after, condition_or_always, with_name, with_names, next_matches, matches_after, blocks_or_none}
use Rattle.flow_text.proofs.LastTaken.{before_last}

-- ---- what is there already

pub given_seen : (k : ℕ) (qs : List Equation) → list_any (λ (q : parts.Equation). nat_eq q.variable k) (map equation_parts qs) ≡ list_any (λ (q : Equation). nat_eq q.variable k) qs
given_seen k [] = refl
given_seen k (q ∷ qs) = ap (λ b. nat_eq q.variable k || b) (given_seen k qs)

pub matched_seen : (k l : ℕ) (ms : List AFileMatch) → list_any (λ (m : FileMatch). nat_eq m.blocks.before k && nat_eq m.blocks.after l) (map match_parts ms) ≡ list_any (λ (m : AFileMatch). nat_eq m.blocks.before k && nat_eq m.blocks.after l) ms
matched_seen k l [] = refl
matched_seen k l (m ∷ ms) = ap (λ b. (nat_eq m.blocks.before k && nat_eq m.blocks.after l) || b) (matched_seen k l ms)

-- ---- equations

equation_first : (s : ScopeParts) (made : List parts.Equation) (before : List Written) (q : Written) → equations_after s made (equations_syntax (before ++ q ∷ [])) ≡ (next_equation s made (equation_syntax q) >>= λ x. equations_after s (made ++ x ∷ []) (equations_syntax before))
equation_first s made before q = ap (equations_after s made) (equations_push before q)

pub equation_made : (s : ScopeParts) (made : List Equation) (before : List Written) (q : Written) (x : Equation) → next_equation s (equations_of made) (equation_syntax q) ≡ Ok (equation_parts x) → equations_after s (equations_of made) (equations_syntax (before ++ q ∷ [])) ≡ equations_after s (equations_of (made ++ x ∷ [])) (equations_syntax before)
equation_made s made before q x e =
    equation_first s (equations_of made) before q ∙ ap (λ (m : Result parts.Equation TextFault). m >>= λ y. equations_after s (equations_of made ++ y ∷ []) (equations_syntax before)) e
    ∙ ap (λ qs. equations_after s qs (equations_syntax before)) (sym (map-append equation_parts made (x ∷ [])))

pub equation_refused : (s : ScopeParts) (made : List parts.Equation) (before : List Written) (q : Written) (fault : TextFault) → next_equation s made (equation_syntax q) ≡ Err fault → equations_after s made (equations_syntax (before ++ q ∷ [])) ≡ Err fault
equation_refused s made before q fault e = equation_first s made before q ∙ ap (λ (m : Result parts.Equation TextFault). m >>= λ y. equations_after s (made ++ y ∷ []) (equations_syntax before)) e

-- ---- conditions

cond_length : (ns : List CondNode) → length (cond_syntax ns) ≡ length ns
unfolding cond_syntax
cond_length ns = length-map _ _ ∙ length-reverse ns

pub no_condition : (s : ScopeParts) (ns : List CondNode) → nat_eq (length ns) 0 ≡ true → condition_or_always s (cond_syntax ns) ≡ Ok always
no_condition s ns e = ap (condition_or_always s) (ap cond_syntax (nil_from_length ns (eqb-true (length ns) 0 e)) ∙ cond_none)

given_condition : (s : ScopeParts) (b : CondSyntax) → nat_eq (length b) 0 ≡ false → condition_or_always s b ≡ condition_of s b
given_condition s [] e = absurd cc
given_condition s (n ∷ ns) e = refl

pub some_condition : (s : ScopeParts) (ns : List CondNode) → nat_eq (length ns) 0 ≡ false → condition_or_always s (cond_syntax ns) ≡ condition_of s (cond_syntax ns)
some_condition s ns e = given_condition s (cond_syntax ns) (ap (λ n. nat_eq n 0) (cond_length ns) ∙ e)

-- ---- blocks of the same name

-- the number of the next block is that of those done
pub next_number : (n : ℕ) (rest before : List Block) (b : Block) → rest ≡ before ++ b ∷ [] → length rest ≤ n → n - length rest + 1 ≡ n - length (take (length rest - 1) rest)
next_number n rest before b is within =
    let long : length rest ≡ length before + 1 = ap length is ∙ length-append before (b ∷ []) in
    let left : length (take (length rest - 1) rest) ≡ length before = ap length (before_last rest before b is) in
    omega (arith, long, left, within)

module _ (find : List ℕ → Option ℕ) (word : TokenParts) where
  name_first : (made : List FileMatch) (k : ℕ) (before : List Block) (b : Block) → with_names find word made (block_names k (blocks_syntax (before ++ b ∷ []))) ≡ (with_name made word k (find b.name.text.now) >>= λ ms. with_names find word ms (block_names (k + 1) (blocks_syntax before)))
  name_first made k before b = ap (λ bs. with_names find word made (block_names k bs)) (blocks_push before b)

  pub name_made : (made now : List FileMatch) (k : ℕ) (before : List Block) (b : Block) → with_name made word k (find b.name.text.now) ≡ Ok now → with_names find word made (block_names k (blocks_syntax (before ++ b ∷ []))) ≡ with_names find word now (block_names (k + 1) (blocks_syntax before))
  name_made made now k before b e = name_first made k before b ∙ ap (λ (m : Result (List FileMatch) TextFault). m >>= λ ms. with_names find word ms (block_names (k + 1) (blocks_syntax before))) e

  pub name_refused : (made : List FileMatch) (k : ℕ) (before : List Block) (b : Block) (fault : TextFault) → with_name made word k (find b.name.text.now) ≡ Err fault → with_names find word made (block_names k (blocks_syntax (before ++ b ∷ []))) ≡ Err fault
  name_refused made k before b fault e = name_first made k before b ∙ ap (λ (m : Result (List FileMatch) TextFault). m >>= λ ms. with_names find word ms (block_names (k + 1) (blocks_syntax before))) e

-- ---- items

module _ (s : ScopeParts) (names : List (List ℕ × ℕ)) (first second : List ℕ → Option ℕ) where
  -- a turn of the loop, at match `i`
  pub matches_turn : (made now : List FileMatch) (xs : List WrittenMatch) (i : ℕ) (x : WrittenMatch) (whole : Result (List FileMatch) TextFault) → i < length xs → x ≡ get_or xs i x → next_matches s names first second made (given_match_of x) ≡ Ok now → matches_after s names first second made (map given_match_of (drop i xs)) ≡ whole → matches_after s names first second now (map given_match_of (drop (i + 1) xs)) ≡ whole
  matches_turn made now xs i x whole lt is given invariant =
      sym (ap (λ (m : Result (List FileMatch) TextFault). m >>= λ ms. matches_after s names first second ms (map given_match_of (drop (i + 1) xs))) given)
      ∙ ap (λ y. matches_after s names first second made (given_match_of y ∷ map given_match_of (drop (i + 1) xs))) is
      ∙ sym (ap (λ l. matches_after s names first second made (map given_match_of l)) (drop_more xs i x lt)) ∙ invariant

  pub matches_fault : (made : List FileMatch) (xs : List WrittenMatch) (i : ℕ) (x : WrittenMatch) (fault : TextFault) (whole : Result (List FileMatch) TextFault) → i < length xs → x ≡ get_or xs i x → matches_after s names first second made (map given_match_of (drop i xs)) ≡ whole → next_matches s names first second made (given_match_of x) ≡ Err fault → whole ≡ Err fault
  matches_fault made xs i x fault whole lt is invariant given =
      sym invariant ∙ ap (λ l. matches_after s names first second made (map given_match_of l)) (drop_more xs i x lt)
      ∙ sym (ap (λ y. matches_after s names first second made (given_match_of y ∷ map given_match_of (drop (i + 1) xs))) is)
      ∙ ap (λ (m : Result (List FileMatch) TextFault). m >>= λ ms. matches_after s names first second ms (map given_match_of (drop (i + 1) xs))) given

  pub no_match : (made : List FileMatch) (xs : List WrittenMatch) (i : ℕ) (whole : Result (List FileMatch) TextFault) → length xs ≤ i → matches_after s names first second made (map given_match_of (drop i xs)) ≡ whole → whole ≡ Ok made
  no_match made xs i whole past invariant = sym invariant ∙ ap (λ l. matches_after s names first second made (map given_match_of l)) (drop_all i xs past)

-- ---- graphs

pub no_blocks_at : (graphs : List WrittenGraph) (k : ℕ) → length graphs ≤ k → [] ≡ blocks_or_none (slice_get (map graph_syntax graphs) k)
no_blocks_at [] k h = refl
no_blocks_at (g ∷ gs) zero h = absurd (omega (arith, h))
no_blocks_at (g ∷ gs) (suc k) h = no_blocks_at gs k (omega (arith, h))
