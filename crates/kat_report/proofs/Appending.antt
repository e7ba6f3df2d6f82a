-- Texts that grow by appending.
use Rattle.std.proofs.Common.{◌≡◌, ℕ, List, ◌++◌, sym, ap, ◌∙◌, append_assoc}
use Rattle.certificate.proofs.Lines.{then_written}

-- appending two parts at once
pub two_put : (out old new a b c : List ℕ) → old ≡ out ++ a → new ≡ old ++ (b ++ c) → new ≡ out ++ (a ++ b ++ c)
two_put out old new a b c was put = then_written out old new a (b ++ c) was put ∙ ap (λ l. out ++ l) (sym (append_assoc a b c))
