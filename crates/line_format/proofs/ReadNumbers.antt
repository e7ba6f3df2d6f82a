-- The numbers that were read from words.
use Rattle.std.proofs.Common.{◌≡◌, ℕ, ◌≤◌, List, map, take, length, false, ap, ◌∙◌, arith}
use Rattle.std.specs.Borrow.{Bor}
use Rattle.std.specs.List.{list_any}
use Rattle.std.proofs.lemmas.List.{take_all, length-map}
use Rattle.line_format.specs.Numerals.{value_of, too_wide}
use Rattle.line_format.specs.Readings.{texts, HasNumbers}
use Rattle.line_format.specs.declared.numerals.Numbers.{Numbers}

-- after all words are read, the numbers are the values of the words
pub numbers_given : (ws : List (Bor (List ℕ))) (i : ℕ) (v : Numbers) → length ws ≤ i → i ≤ length ws → length v.values.items ≡ i → v.wide ≡ list_any too_wide (map value_of (texts (take i ws))) → (v.wide ≡ false → v.values.items ≡ map value_of (texts (take i ws))) → HasNumbers (map value_of (texts ws)) v
numbers_given ws i v past within count wide values =
    let all : take i ws ≡ ws = take_all i ws past in
    record {
      count = omega (arith, count, length-map (texts ws) value_of, length-map ws (λ (w : Bor (List ℕ)). w.now));
      wide = wide ∙ ap (λ l. list_any too_wide (map value_of (texts l))) all;
      values = λ e. values e ∙ ap (λ l. map value_of (texts l)) all;
    }
