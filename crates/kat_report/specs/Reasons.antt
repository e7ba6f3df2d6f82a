-- The lines with the reasons why evidence is rejected.
use Rattle.std.specs.Prelude.{ℕ, List, [], ◌∷◌, ◌++◌, codes}
use Rattle.std.specs.Fmt.{decimal}
use Rattle.kat_model.specs.Steps.{Atom}
use Rattle.certificate.specs.Texts.{atom_bits}
use Rattle.cert_checker.specs.declared.answer.Reason.{Reason}
use Rattle.cert_checker.specs.declared.answer.Reason.TheVariants.{FirstPair, Output, Missing, MissingTo, Shape, HypBroken, EndsAgree, TestNode, TermNode}

-- one `0` or `1` for each test, or a dash if there are no tests
abbrev pub atom_text : Atom → List ℕ
atom_text [] = codes "-"
atom_text (b ∷ bs) = atom_bits (b ∷ bs)

-- the word and the numbers of the reason
abbrev pub reason_text : Reason → List ℕ
reason_text FirstPair = codes "FirstPair"
reason_text (Output k atom) = codes "Output pair " ++ decimal k ++ codes " atom " ++ atom_text atom
reason_text (Missing k atom a) = codes "Missing pair " ++ decimal k ++ codes " atom " ++ atom_text atom ++ codes " action " ++ decimal a
reason_text (MissingTo k atom a to) =
    codes "Missing pair " ++ decimal k ++ codes " atom " ++ atom_text atom ++ codes " action " ++ decimal a ++ codes " to " ++ atom_text to
reason_text (Shape k) = codes "Shape " ++ decimal k
reason_text (HypBroken h i j) = codes "HypBroken hyp " ++ decimal h ++ codes " from " ++ decimal i ++ codes " to " ++ decimal j
reason_text EndsAgree = codes "EndsAgree"
reason_text (TestNode k) = codes "TestNode " ++ decimal k
reason_text (TermNode k) = codes "TermNode " ++ decimal k

-- `rejected: `, the reason, and a line feed
abbrev pub reason_line : Reason → List ℕ
reason_line r = codes "rejected: " ++ reason_text r ++ 10 ∷ []

-- for a certificate where a string is required
abbrev pub no_string_line : List ℕ
no_string_line = codes "rejected: NotAString\n"
