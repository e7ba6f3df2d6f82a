-- The marks of the first tokens of a text, and of those that are left.
use Rattle.std.proofs.Common.{◌≡◌, ◌-◌, suc, List, [], ◌∷◌, ◌++◌, length, take, drop, refl, sym, ap, ◌∙◌, take_all, arith}
use Rattle.std.proofs.lemmas.List.{append_assoc, append-nil, nil_from_length}
use Rattle.text_parser.specs.declared.token.Token.{Token}
use Rattle.text_parser.specs.TokenParts.{TokenParts, parts_of_token, parts_of_tokens}
use Rattle.flow_syntax.specs.declared.rule.Mark.{Mark}
use Rattle.flow_syntax.specs.declared.marks.Context.{Context}
use Rattle.flow_syntax.specs.declared.marks.Context.TheVariants.{Beginning}
use Rattle.flow_syntax.specs.Marks.{terminal_at, context_after, mark_at, marks_from, marks_of}

from_length : (c : Context) (ts : List TokenParts) → length (marks_from c ts) ≡ length ts
from_length c [] = refl
from_length c (t ∷ ts) = ap suc (from_length (context_after c (terminal_at c t ts)) ts)

pub marks_length : (ts : List TokenParts) → length (marks_of ts) ≡ length ts
marks_length ts = from_length Beginning ts

without_first : (rest later : List Token) (t : Token) → rest ≡ t ∷ later → take (length rest - 1) (drop 1 rest) ≡ later
without_first rest later t is = ap (λ (l : List Token). take (length l - 1) (drop 1 l)) is ∙ take_all (length (t ∷ later) - 1) later (omega arith)

-- the marks so far, and those of the tokens that are left, with another token
pub marks_turn : (c d : Context) (made now : List Mark) (m : Mark) (rest later : List Token) (t : Token) (whole : List Mark) → rest ≡ t ∷ later → m ≡ mark_at c (parts_of_token t) (parts_of_tokens later) → now ≡ made ++ m ∷ [] → d ≡ context_after c m.terminal → made ++ marks_from c (parts_of_tokens rest) ≡ whole → now ++ marks_from d (parts_of_tokens (take (length rest - 1) (drop 1 rest))) ≡ whole
marks_turn c d made now m rest later t whole is marked added next invariant =
    ap (λ (l : List Token). now ++ marks_from d (parts_of_tokens l)) (without_first rest later t is)
    ∙ ap (λ l. l ++ marks_from d (parts_of_tokens later)) added ∙ append_assoc made (m ∷ []) (marks_from d (parts_of_tokens later))
    ∙ ap (λ e. made ++ m ∷ marks_from e (parts_of_tokens later)) next
    ∙ ap (λ (x : Mark). made ++ x ∷ marks_from (context_after c x.terminal) (parts_of_tokens later)) marked
    ∙ sym (ap (λ (l : List Token). made ++ marks_from c (parts_of_tokens l)) is) ∙ invariant

pub marks_ended : (c : Context) (made : List Mark) (rest : List Token) (whole : List Mark) → length rest ≡ 0 → made ++ marks_from c (parts_of_tokens rest) ≡ whole → made ≡ whole
marks_ended c made rest whole none invariant =
    sym (append-nil made) ∙ sym (ap (λ (l : List Token). made ++ marks_from c (parts_of_tokens l)) (nil_from_length rest none)) ∙ invariant
