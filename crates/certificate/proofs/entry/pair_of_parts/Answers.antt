use Rattle.std.proofs.Common.{◌≡◌, ℕ, List, map, length, ap, arith}
use Rattle.std.specs.Borrow.{Bor}
use Rattle.std.specs.Option.{option_map}
use Rattle.std.proofs.lemmas.List.{length-map}
use Rattle.line_format.specs.Numerals.{numbers_of}
use Rattle.line_format.specs.Readings.{texts}
use Rattle.certificate.specs.declared.entry.Entry.TheVariants.{PairLine}
use Rattle.certificate.proofs.PairForms.{pair_count}
use Rattle.certificate.proofs.entry.pair_of_parts.Goals.{in_default-via-then-parts-lt2, in_default-via-else-parts-lt2+else-parts-lt3+else-parts-lt4}
use Rattle.certificate.proofs.entry.pair_of_parts.Goals as goal

pub returns-in_default : goal.returns-in_default
returns-in_default c =
    let parts = c.args.parts.now in
    let count = length-map parts (λ (part : Bor (List (Bor (List ℕ)))). numbers_of (texts part.now)) in
    let other : (length parts ≡ 2 → ⊥) × (length parts ≡ 3 → ⊥) =
    elim c.in_default.branch [
      | in_default-via-then-parts-lt2 w ↦ ((λ e. grind (arith, e)), (λ e. grind (arith, e)))
      | in_default-via-else-parts-lt2+else-parts-lt3+else-parts-lt4 w ↦ ((λ e. grind (arith, e)), (λ e. grind (arith, e)))
    ] in
    ap (option_map PairLine)
    (pair_count (map (λ (part : Bor (List (Bor (List ℕ)))). numbers_of (texts part.now)) parts) (λ e. other.0 (omega (arith, count, e))) (λ e. other.1 (omega (arith, count, e))))
