-- The semantic actions of the block parser. Actions may reject a part; the other faults of a block are its syntax, its
-- depth and numbers that are too wide.
use Rattle.std.specs.Prelude.{ℕ, List, Result}
use Rattle.text_parser.specs.declared.fault.TextFault.{TextFault}
use Rattle.text_parser.specs.Actions.{Actions}

-- `S` is the result for the statements of a block so far, which each action on statements takes. The numbers of `named`
-- are the number of open constructs and the place of the name; the number of `target` is the place of the name.
pub record BlockActions (E B L T M S : Type 0) : Type 0 where
  pub phrases : Actions E B L T M
  pub none : S
  pub skip : S → S
  pub abort : S → S
  pub assert : S → B → S
  pub named : ℕ → ℕ → List ℕ → S → Result S TextFault
  pub target : ℕ → List ℕ → Result (Unit {0}) TextFault
  pub assign : S → List ℕ → E → S
  pub branch : S → B → S → S → S
  pub turn : S → B → S → S
  pub braced : S → S
  pub chained : S → S
