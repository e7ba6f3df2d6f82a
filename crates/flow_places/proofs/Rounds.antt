-- One round of the elimination of places.
use Rattle.std.proofs.Common.{◌≡◌, ℕ, suc, ◌-◌, ◌<◌, ◌≤◌, ◌&&◌, nat_le, Bool, false, List, [], ◌∷◌, length, refl, sym, ◌∙◌, ap, arith}
use Rattle.std.proofs.lemmas.Bool.{le-leb, lt-leb, and_left}
use Rattle.std.proofs.lemmas.List.{length-map}
use Rattle.kat_model.specs.Trees.{Term}
use Rattle.kat_model.specs.Problems.{counted}
use Rattle.kat_model.specs.declared.limits.TheConstants.{MAX_TERM_NODES}
use Rattle.flow_places.specs.Rows.{TermRow, row_without, rows_without, rows_term, rows_fit, rows_size}

pub rounds_left : (rows : List TermRow) (n : ℕ) → length rows ≡ suc n → length (rows_without rows) ≡ n
rounds_left [] n h = absurd (omega (arith, h))
rounds_left (last ∷ rows) n h = length-map rows (row_without last) ∙ omega (arith, h)

one_round : (n : ℕ) → 1 < n → n - 1 ≡ suc (n - 1 - 1)
one_round n h = omega arith

pub term_after : (rows : List TermRow) (n m : ℕ) → 1 < n → m ≡ n - 1 → rows_term (n - 1) rows ≡ rows_term (m - 1) (rows_without rows)
term_after rows n m h e = ap (λ k. rows_term k rows) (one_round n h ∙ ap (λ k. suc (k - 1)) (sym e))

fit_round : (rows : List TermRow) (n m : ℕ) → 1 < n → m ≡ n - 1 → rows_fit (n - 1) rows ≡ (nat_le (rows_size (rows_without rows)) MAX_TERM_NODES && rows_fit (m - 1) (rows_without rows))
fit_round rows n m h e = ap (λ k. rows_fit k rows) (one_round n h ∙ ap (λ k. suc (k - 1)) (sym e))

pub fit_after : (rows : List TermRow) (n m size : ℕ) → 1 < n → m ≡ n - 1 → size ≡ counted (rows_size (rows_without rows)) → size ≤ MAX_TERM_NODES → rows_fit (n - 1) rows ≡ rows_fit (m - 1) (rows_without rows)
fit_after rows n m size h e s le =
    let small : rows_size (rows_without rows) ≤ MAX_TERM_NODES = omega (arith, s, le) in
    fit_round rows n m h e ∙ ap (λ b. b && rows_fit (m - 1) (rows_without rows)) (le-leb (rows_size (rows_without rows)) MAX_TERM_NODES small)

pub unfit_after : (rows : List TermRow) (n size : ℕ) → 1 < n → size ≡ counted (rows_size (rows_without rows)) → MAX_TERM_NODES < size → rows_fit (n - 1) rows ≡ false
unfit_after rows n size h s lt =
    let large : MAX_TERM_NODES < rows_size (rows_without rows) = omega (arith, s, lt) in
    fit_round rows n (n - 1) h refl ∙ and_left (nat_le (rows_size (rows_without rows)) MAX_TERM_NODES) (rows_fit (n - 1 - 1) (rows_without rows)) (lt-leb (rows_size (rows_without rows)) MAX_TERM_NODES large)

-- what is kept by one round
pub record IsKept (m : ℕ) (new : List TermRow) (e : Term) (b : Bool) : Type 0 where
  pub term : rows_term (m - 1) new ≡ e
  pub fits : rows_fit (m - 1) new ≡ b

pub round_keeps : (old new : List TermRow) (n m size : ℕ) (e : Term) (b : Bool) → 1 < n → length old ≡ n → length new ≡ m → new ≡ rows_without old →
    size ≡ counted (rows_size (rows_without old)) → size ≤ MAX_TERM_NODES → rows_term (n - 1) old ≡ e → rows_fit (n - 1) old ≡ b → IsKept m new e b
round_keeps old new n m size e b h lo ln same s le p q =
    let before : length old ≡ suc (n - 1) = omega (arith, lo, h) in
    let count : m ≡ n - 1 = sym ln ∙ ap length same ∙ rounds_left old (n - 1) before in
    record {
      term = ap (λ xs. rows_term (m - 1) xs) same ∙ sym (term_after old n m h count) ∙ p;
      fits = ap (λ xs. rows_fit (m - 1) xs) same ∙ sym (fit_after old n m size h count s le) ∙ q;
    }
