-- The counter's name is an identifier, and the search for it ends.
use Rattle.std.proofs.Common.{◌≡◌, ◌≤◌, ◌<◌, ◌+◌, ◌-◌, ℕ, zero, suc, List, [], ◌∷◌, ◌++◌, length, Bool, true, false, cond, Option, Some, None, refl, sym, ap, ◌∙◌, subst, inl, inr, arith, append_assoc, length-append, below_more}
use Rattle.std.proofs.lemmas.Bool.{cases_Bool, true≢false, false≢true}
use Rattle.std.proofs.lemmas.List.{replicate-append-replicate}
use Rattle.std.proofs.lemmas.List.Sums.{sum_by-cons}
use Rattle.std.proofs.lemmas.Option.{none-some}
use Rattle.std.specs.Prelude.{codes, replicate}
use Rattle.std.specs.Cmp.{Equal-is}
use Rattle.std.specs.Cmp.Derive.{both_true}
use Rattle.std.specs.Cmp.Lexicographic.{slice_cmp}
use Rattle.std.specs.FinMap.{find, entries, get-entries, nat_cmp-IsAntisymmetric, slice_cmp-IsAntisymmetric}
use Rattle.std.specs.List.{list_all, sum_by}
use Rattle.std.specs.Option.{is_some}
use Rattle.std.specs.Ordering.{nat_cmp, eq_by_cmp}
use Rattle.text_parser.proofs.PrintedWords.{continues_word, word_is_name}
use Rattle.text_parser.specs.declared.meaning.Meaning.{Meaning}
use Rattle.text_parser.specs.ScopeParts.{ScopeParts, meaning, Means, IsDeclared, IsUndeclared, IsIdentifier}
use Rattle.tool_programs.specs.OneLoop.{pc_name, IsCounterName}

-- ---- it is an identifier

bars_continue : (n : ℕ) → list_all continues_word (replicate n 95) ≡ true
bars_continue zero = refl
bars_continue (suc n) = bars_continue n

pub pc_identifier : (n : ℕ) → IsIdentifier (pc_name n)
pc_identifier n = record { name = word_is_name (pc_name n) (both_true refl (both_true refl (bars_continue n))); no_keyword = refl }

pub counter_identifier : (w : ScopeParts) (name : List ℕ) → IsCounterName w name → IsIdentifier name
counter_identifier w name h = subst IsIdentifier (sym h.spelled) (pc_identifier h.bars)

-- ---- an additional `_`

pub pc_more : (n : ℕ) (name longer : List ℕ) → name ≡ pc_name n → longer ≡ name ++ codes "_" → longer ≡ pc_name (n + 1)
pc_more n name longer e more = more ∙ ap (λ (l : List ℕ). l ++ codes "_") e ∙ append_assoc (codes "pc") (replicate n 95) (codes "_") ∙ ap (λ (l : List ℕ). codes "pc" ++ l) (replicate-append-replicate n 1 95)

-- ---- the search ends

-- the sum of the lengths of all names
abbrev pub all_lengths : ScopeParts → ℕ
all_lengths w = sum_by (λ e. length e.0) (entries w.meanings)

-- a name that is found is not longer than this sum
module _ (name : List ℕ) (m : Meaning) where
  found_within : (es : List (List ℕ × Meaning)) → find (slice_cmp nat_cmp) name es ≡ Some m → length name ≤ sum_by (λ e. length e.0) es
  found_within [] e = absurd (none-some m e)
  found_within (x ∷ es) e =
      elim (cases_Bool (eq_by_cmp (slice_cmp nat_cmp) name x.0)) [
        | inl q ↦
            let same : name ≡ x.0 = slice_cmp-IsAntisymmetric nat_cmp-IsAntisymmetric name x.0 ((Equal-is (slice_cmp nat_cmp name x.0)).0 q) in
            let lengths : length name ≡ length x.0 = ap (λ (l : List ℕ). length l) same in
            let total = sum_by-cons (λ (e : List ℕ × Meaning). length e.0) x es in
            omega (arith, lengths, total)
        | inr q ↦
            let rest : find (slice_cmp nat_cmp) name es ≡ Some m = subst (λ (b : Bool). cond b (Some x.1) (find (slice_cmp nat_cmp) name es) ≡ Some m) q e in
            let within : length name ≤ sum_by (λ e. length e.0) es = found_within es rest in
            let total = sum_by-cons (λ (e : List ℕ × Meaning). length e.0) x es in
            omega (arith, within, total)
      ]

pub declared_within : (w : ScopeParts) (name : List ℕ) (m : Meaning) → Means w name m → length name ≤ all_lengths w
declared_within w name m h = found_within name m (entries w.meanings) (sym (get-entries w.meanings name) ∙ h)

-- ---- the lookup of a name

some_of : (o : Option Meaning) → is_some o ≡ true → (m : Meaning) × (o ≡ Some m)
some_of None e = absurd (false≢true e)
some_of (Some m) e = (m, refl)

none_of : (o : Option Meaning) → is_some o ≡ false → o ≡ None
none_of None e = refl
none_of (Some m) e = absurd (true≢false e)

-- the result of looking up the text of a name, and whether there is one
module _ (w : ScopeParts) (name text : List ℕ) (found : Option Meaning) (there : Bool) (same : text ≡ name) (is_found : found ≡ meaning w text) (is_there : there ≡ is_some found) where
  tested : is_some (meaning w name) ≡ there
  tested = ap (λ (x : List ℕ). is_some (meaning w x)) (sym same) ∙ ap is_some (sym is_found) ∙ sym is_there

  pub declared_here : there ≡ true → IsDeclared w name
  declared_here e = tested ∙ e

  pub undeclared_here : there ≡ false → IsUndeclared w name
  undeclared_here e = none_of (meaning w name) (tested ∙ e)

pub declared_more : (w : ScopeParts) (n : ℕ) → ((k : ℕ) → k < n → IsDeclared w (pc_name k)) → IsDeclared w (pc_name n) → (k : ℕ) → k < n + 1 → IsDeclared w (pc_name k)
declared_more w n below here = below_more (λ k. IsDeclared w (pc_name k)) n below here

-- if a name is declared, an additional `_` leaves fewer names to try
pub tries_fall : (w : ScopeParts) (name longer : List ℕ) → IsDeclared w name → longer ≡ name ++ codes "_" → suc (all_lengths w) - length longer < suc (all_lengths w) - length name
tries_fall w name longer there more =
    let some = some_of (meaning w name) there in
    let within : length name ≤ all_lengths w = declared_within w name some.0 some.1 in
    let count : length longer ≡ length name + 1 = ap (λ (l : List ℕ). length l) more ∙ length-append name (codes "_") in
    fall (all_lengths w) (length name) (length longer) within count
  where
    fall : (n k j : ℕ) → k ≤ n → j ≡ k + 1 → suc n - j < suc n - k
    fall n k j le e = omega (arith, le, e)
