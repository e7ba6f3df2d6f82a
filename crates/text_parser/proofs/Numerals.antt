-- Digits with the value that they spell are numerals of std's model.
use Rattle.std.proofs.Common.{◌≡◌, true, rules}
use Rattle.std.specs.List.{list_all}
use Rattle.std.specs.Char.{is_ascii_digit}
use Rattle.std.proofs.lemmas.Str.Parse.{IsNumeralModel, numerals_by_fold}
use Rattle.text_parser.specs.Terminals.{value_from}

pub digits_are_numerals : IsNumeralModel (λ ds. list_all is_ascii_digit ds ≡ true) (value_from 0)
digits_are_numerals = numerals_by_fold _ (search rules) value_from (search rules)
