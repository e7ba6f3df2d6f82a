-- The table of a string with an additional move at its end.
use Rattle.std.proofs.Common.{◌≡◌, ℕ, suc, ◌+◌, ◌<◌, List, [], ◌∷◌, ◌++◌, take, map, length, refl, sym, ap, ◌∙◌, arith, get_or}
use Rattle.std.proofs.lemmas.List.{take_more, length-take-le, map-append}
use Rattle.kat_model.specs.Relations.{Step}
use Rattle.kat_model.specs.Steps.{Atom}
use Rattle.kat_model.specs.Strings.{Move}
use Rattle.string_tables.specs.Tables.{steps_from}
use Rattle.string_tables.proofs.Positions.{step_at}

pub steps_from-append : (k : ℕ) (ms : List Move) (m : Move) → steps_from k (ms ++ m ∷ []) ≡ steps_from k ms ++ step_at (k + length ms) m ∷ []
steps_from-append k [] m = let e : k ≡ k + 0 = omega arith in ap (λ n. step_at n m ∷ []) e
steps_from-append k (n ∷ ms) m =
    let e : suc k + length ms ≡ k + suc (length ms) = omega arith in
    ap (λ l. step_at k n ∷ l) (steps_from-append (suc k) ms m ∙ ap (λ i. steps_from (suc k) ms ++ step_at i m ∷ []) e)

-- the result of a loop over the moves, after the move at i

pub steps_from_pushed : (ms : List Move) (i : ℕ) (m : Move) (steps more : List Step) → i < length ms → m ≡ get_or ms i m → steps ≡ steps_from 0 (take i ms) → more ≡ steps ++ (record { from = i; act = m.act; to = i + 1 }) ∷ [] → more ≡ steps_from 0 (take (i + 1) ms)
steps_from_pushed ms i m steps more lt is was pushed =
    let taken = take_more ms i m lt ∙ ap (λ n. take i ms ++ n ∷ []) (sym is) in
    let count : 0 + length (take i ms) ≡ i = omega (arith, length-take-le i ms) in
    let to : i + 1 ≡ suc i = omega arith in
    let appended = steps_from-append 0 (take i ms) m in
    rw (pushed, was, taken, to, appended, count) refl

pub atoms_pushed : (ms : List Move) (i : ℕ) (m : Move) (first : Atom) (atoms more : List Atom) → i < length ms → m ≡ get_or ms i m → atoms ≡ first ∷ map (λ n. n.atom) (take i ms) → more ≡ atoms ++ m.atom ∷ [] → more ≡ first ∷ map (λ n. n.atom) (take (i + 1) ms)
atoms_pushed ms i m first atoms more lt is was pushed =
    let taken = take_more ms i m lt ∙ ap (λ n. take i ms ++ n ∷ []) (sym is) in
    let appended = map-append (λ (n : Move). n.atom) (take i ms) (m ∷ []) in
    rw (pushed, was, taken, appended) refl
