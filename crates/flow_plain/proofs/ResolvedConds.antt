-- Conditions of a plain text are resolved to their trees.
use Rattle.std.proofs.Common.{◌≡◌, ◌≤◌, ◌+◌, ◌^◌, ℕ, List, [], ◌∷◌, ◌++◌, length, Result, Ok, refl, sym, ap, ◌∙◌, append_assoc, ⊎_elim}
use Rattle.std.proofs.lemmas.List.{append-nil}
use Rattle.kat_model.specs.declared.expression.Rel.{Rel}
use Rattle.kat_model.specs.declared.expression.Rel.TheVariants.{Eq, Ne, Lt, Le, Gt, Ge}
use Rattle.kat_model.specs.declared.expression.Width.{Width}
use Rattle.text_parser.specs.declared.fault.TextFault.{TextFault}
use Rattle.text_parser.specs.declared.token.Kind.TheVariants.{Symbol}
use Rattle.text_parser.specs.TokenParts.{TokenParts, token_parts}
use Rattle.text_parser.specs.Parsed.{◌>>=◌}
use Rattle.text_print.specs.Printing.{relation_text}
use Rattle.flow_model.specs.declared.sort.Sort.{Sort}
use Rattle.flow_model.specs.declared.sort.Sort.TheVariants.{Number as NumberSort, Opaque}
use Rattle.flow_model.specs.Expressions.{ExprTree}
use Rattle.flow_model.specs.Conditions.{CondTree, always, never, compared, compared_signed, negation, both, either}
use Rattle.flow_model.specs.Polish.{CondPart, a_condition, a_negation, a_conjunction, a_disjunction, with_part, conds_of}
use Rattle.flow_syntax.specs.Syntax.{CondSyntax}
use Rattle.flow_syntax.specs.Actions.{first_of, first_name}
use Rattle.flow_text.specs.Trees.{only_cond}
use Rattle.flow_text.specs.Scopes.{ScopeParts}
use Rattle.flow_text.specs.Resolving.{sort_or_u64, sort_of_sides, rel_named, signed_rel_named, relation_on, parts_after, condition_of}
use Rattle.flow_text.specs.Checking.{first_sort}
use Rattle.flow_plain.specs.PlainGraphs.{Declared, signed_text}
use Rattle.flow_plain.specs.PrintableGraphs.{shown_sort, MayCompare, AreSides, HasSides}
use Rattle.flow_plain.proofs.PlainPieces.{expr_end, expr_syntax, cond_end, cond_syntax}
use Rattle.flow_plain.proofs.ResolvedExprs.{IsScope, shown_is, first_shows, shows, expression_resolved}

-- the tree as parts in Polish notation
abbrev cond_parts : CondTree → List CondPart
cond_parts always = a_condition always ∷ []
cond_parts never = a_condition never ∷ []
cond_parts (compared rel e f) = a_condition (compared rel e f) ∷ []
cond_parts (compared_signed rel w e f) = a_condition (compared_signed rel w e f) ∷ []
cond_parts (negation b) = a_negation ∷ cond_parts b
cond_parts (both b c) = a_conjunction ∷ (cond_parts b ++ cond_parts c)
cond_parts (either b c) = a_disjunction ∷ (cond_parts b ++ cond_parts c)

cond_back : (b : CondTree) (ps : List CondPart) → conds_of (cond_parts b ++ ps) ≡ b ∷ conds_of ps
cond_back always ps = refl
cond_back never ps = refl
cond_back (compared rel e f) ps = refl
cond_back (compared_signed rel w e f) ps = refl
cond_back (negation b) ps = ap (with_part a_negation) (cond_back b ps)
cond_back (both b c) ps =
    ap (λ (l : List CondPart). with_part a_conjunction (conds_of l)) (append_assoc (cond_parts b) (cond_parts c) ps)
    ∙ ap (with_part a_conjunction) (cond_back b (cond_parts c ++ ps) ∙ ap (λ (bs : List CondTree). b ∷ bs) (cond_back c ps))
cond_back (either b c) ps =
    ap (λ (l : List CondPart). with_part a_disjunction (conds_of l)) (append_assoc (cond_parts b) (cond_parts c) ps)
    ∙ ap (with_part a_disjunction) (cond_back b (cond_parts c ++ ps) ∙ ap (λ (bs : List CondTree). b ∷ bs) (cond_back c ps))

one_cond_back : (b : CondTree) → only_cond (conds_of (cond_parts b)) ≡ b
one_cond_back b = ap (λ (l : List CondPart). only_cond (conds_of l)) (sym (append-nil (cond_parts b))) ∙ ap only_cond (cond_back b [])

relation_back : (r : Rel) → rel_named (relation_text r) ≡ r
relation_back Eq = refl
relation_back Ne = refl
relation_back Lt = refl
relation_back Le = refl
relation_back Gt = refl
relation_back Ge = refl

signed_back : (r : Rel) → (r ≡ Eq → ⊥) → (r ≡ Ne → ⊥) → signed_rel_named (signed_text r) ≡ r
signed_back Eq a b = absurd (a refl)
signed_back Ne a b = absurd (b refl)
signed_back Lt a b = refl
signed_back Le a b = refl
signed_back Gt a b = refl
signed_back Ge a b = refl

may_compare : (s : Sort) (t : TokenParts) (r : Rel) → MayCompare s r → relation_on s t r ≡ Ok r
may_compare (NumberSort w) t r h = refl
may_compare (Opaque k) t r h = ⊎_elim (λ (e : r ≡ Eq). rw e refl) (λ (e : r ≡ Ne). rw e refl) h

module _ (d : Declared) (sorts : List Sort) (few : length sorts ≤ 2 ^ 64) (small : length d.functions ≤ 2 ^ 64) (s : ScopeParts) (scope : IsScope d sorts s) where
  sides_resolved : (e f : ExprTree) (sort : Sort) (at next : ℕ) → AreSides d sorts sort e f → sort_of_sides s (expr_syntax e at) (expr_syntax f next) ≡ sort
  sides_resolved e f sort at next h =
      ap sort_or_u64
      (shown_is d sorts few small s scope (first_of (first_name (expr_syntax e at)) (first_name (expr_syntax f next))) (first_sort (shown_sort sorts e) (shown_sort sorts f))
      (first_shows d sorts few small s scope (first_name (expr_syntax e at)) (first_name (expr_syntax f next)) (shown_sort sorts e) (shown_sort sorts f) (shows d sorts few small s scope e sort at h.1) (shows d sorts few small s scope f sort next h.2)))
      ∙ h.0

  abbrev PartsResolve : CondTree → Type 0
  PartsResolve b = (at : ℕ) (before : List CondPart) (rest : CondSyntax) → parts_after s before (cond_syntax b at ++ rest) ≡ parts_after s (before ++ cond_parts b) rest

  compared_resolves : (rel : Rel) (e f : ExprTree) (sort : Sort) → AreSides d sorts sort e f → MayCompare sort rel → PartsResolve (compared rel e f)
  compared_resolves rel e f sort h may at before rest =
      let next = expr_end e (at + 1) + 1 + length (relation_text rel) + 1 in
      let t = token_parts Symbol (expr_end e (at + 1) + 1) (relation_text rel) in
      rw (sides_resolved e f sort (at + 1) next h, expression_resolved d sorts few small s scope e sort (at + 1) h.1, relation_back rel, may_compare sort t rel may, expression_resolved d sorts few small s scope f sort next h.2) refl

  signed_resolves : (rel : Rel) (w : Width) (e f : ExprTree) → AreSides d sorts (NumberSort w) e f → (rel ≡ Eq → ⊥) → (rel ≡ Ne → ⊥) → PartsResolve (compared_signed rel w e f)
  signed_resolves rel w e f h no_eq no_ne at before rest =
      let begin = at + length (signed_text rel) + 1 in
      let next = expr_end e begin + 1 + 1 in
      rw (sides_resolved e f (NumberSort w) begin next h, expression_resolved d sorts few small s scope e (NumberSort w) begin h.1, expression_resolved d sorts few small s scope f (NumberSort w) next h.2, signed_back rel no_eq no_ne) refl

  two_resolve : (part : CondPart) (b c : CondTree) → PartsResolve b → PartsResolve c → (at next : ℕ) (before : List CondPart) (rest : CondSyntax) → parts_after s (before ++ part ∷ []) ((cond_syntax b at ++ cond_syntax c next) ++ rest) ≡ parts_after s (before ++ (part ∷ (cond_parts b ++ cond_parts c))) rest
  two_resolve part b c left right at next before rest =
      ap (parts_after s (before ++ part ∷ [])) (append_assoc (cond_syntax b at) (cond_syntax c next) rest) ∙ left at (before ++ part ∷ []) (cond_syntax c next ++ rest)
      ∙ right next ((before ++ part ∷ []) ++ cond_parts b) rest
      ∙ ap (λ (l : List CondPart). parts_after s l rest) (grouped before (part ∷ []) (cond_parts b) (cond_parts c)) where
        grouped : (a b c e : List CondPart) → (a ++ b) ++ c ++ e ≡ a ++ (b ++ (c ++ e))
        grouped a b c e = simp append_assoc

  parts_resolve : (b : CondTree) → HasSides d sorts b → PartsResolve b
  parts_resolve always h = λ at before rest. refl
  parts_resolve never h = λ at before rest. refl
  parts_resolve (compared rel e f) h = compared_resolves rel e f h.0 h.1 h.2
  parts_resolve (compared_signed rel w e f) h = signed_resolves rel w e f h.0 h.1 h.2
  parts_resolve (negation b) h = λ at before rest.
      parts_resolve b h (at + 1) (before ++ a_negation ∷ []) rest ∙ ap (λ (l : List CondPart). parts_after s l rest) (append_assoc before (a_negation ∷ []) (cond_parts b))
  parts_resolve (both b c) h = λ at before rest. two_resolve a_conjunction b c (parts_resolve b h.0) (parts_resolve c h.1) (at + 1) (cond_end b (at + 1) + 1 + 2 + 1) before rest
  parts_resolve (either b c) h = λ at before rest. two_resolve a_disjunction b c (parts_resolve b h.0) (parts_resolve c h.1) (at + 1) (cond_end b (at + 1) + 1 + 2 + 1) before rest

  -- a condition is resolved to its tree
  pub condition_resolved : (b : CondTree) (at : ℕ) → HasSides d sorts b → condition_of s (cond_syntax b at) ≡ Ok b
  condition_resolved b at h =
      let found : parts_after s [] (cond_syntax b at) ≡ Ok (cond_parts b) = ap (parts_after s []) (sym (append-nil (cond_syntax b at))) ∙ parts_resolve b h at [] [] in
      ap (λ (m : Result (List CondPart) TextFault). m >>= λ ps. Ok (only_cond (conds_of ps))) found ∙ ap Ok (one_cond_back b)
