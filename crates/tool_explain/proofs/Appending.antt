-- Texts that grow by appending.
use Rattle.std.proofs.Common.{◌≡◌, ℕ, List, ◌++◌, sym, ap, ◌∙◌, append_assoc}
use Rattle.certificate.proofs.Lines.{then_written}

-- the output after four steps
pub four_written : (out first second third last a b c d : List ℕ) → first ≡ out ++ a → second ≡ first ++ b → third ≡ second ++ c → last ≡ third ++ d → last ≡ out ++ (a ++ b ++ c ++ d)
four_written out first second third last a b c d ea eb ec = then_written out third last (a ++ b ++ c) d (then_written out second third (a ++ b) c (then_written out first second a b ea eb) ec)

-- the output after a text, a second text with a number directly after it, and an end
pub numbered_written : (out first second last a text number end : List ℕ) → first ≡ out ++ a → second ≡ first ++ (text ++ number) → last ≡ second ++ end → last ≡ out ++ (a ++ text ++ number ++ end)
numbered_written out first second last a text number end ea eb =
    then_written out second last (a ++ text ++ number) end (then_written out first second a (text ++ number) ea eb ∙ ap (λ (l : List ℕ). out ++ l) (sym (append_assoc a text number)))
