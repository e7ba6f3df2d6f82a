-- The file that bytes denote is the result of both passes over their tokens.
use Rattle.std.proofs.Common.{◌≡◌, ℕ, List, map, Result, Ok, sym, ap, ◌∙◌}
use Rattle.text_parser.specs.declared.fault.TextFault.{TextFault}
use Rattle.text_parser.specs.TokenParts.{TokenParts}
use Rattle.text_parser.specs.Lex.{Lexes}
use Rattle.text_parser.specs.Lexemes.{lexeme_of}
use Rattle.text_parser.specs.Parsed.{◌>>=◌}
use Rattle.text_parser.proofs.ParserSoundness.{bind_ok}
use Rattle.gkat_front.specs.Files.{GkatFileParts, file_of}
use Rattle.gkat_front.specs.FileFolds.{file_made}
use Rattle.gkat_front.specs.Making.{scan_file, parse_items, tested}
use Rattle.gkat_front.specs.Reads.{Reads}
use Rattle.gkat_front.proofs.ScannedTexts.{texts_are_scanned}
use Rattle.gkat_front.proofs.MadeTexts.{texts_are_made}

pub read_given : (bytes : List ℕ) (ms : List TokenParts) (f : GkatFileParts) → Lexes bytes ms → tested (map lexeme_of ms) ≡ Ok f → Reads bytes f
read_given bytes ms f lexes e =
    let ts = map lexeme_of ms in
    let a = bind_ok (scan_file ts) (λ u. parse_items ts >>= file_of) f e in
    let x = (texts_are_scanned ts).0 a.1 in
    let made = texts_are_made x.0 (x.1).obey in
    let file : file_made x.0 ≡ Ok f = ap (λ m. m >>= file_of) (sym made ∙ ap parse_items (sym (x.1).spells)) ∙ a.2 in
    record { parts_of_tokens = ms; lexes = lexes; items = x.0; spells = x.1; file = file }

pub tests_pass : (bytes : List ℕ) (f : GkatFileParts) (x : Reads bytes f) → tested (map lexeme_of x.parts_of_tokens) ≡ Ok f
tests_pass bytes f x =
    let ts = map lexeme_of x.parts_of_tokens in
    let scanned : scan_file ts ≡ Ok tt = (texts_are_scanned ts).1 (x.items, x.spells) in
    let made : parse_items ts >>= file_of ≡ Ok f = ap (λ m. m >>= file_of) (ap parse_items (x.spells).spells ∙ texts_are_made x.items (x.spells).obey) ∙ x.file in
    ap (λ (m : Result (Unit {0}) TextFault). m >>= λ u. parse_items ts >>= file_of) scanned ∙ made
