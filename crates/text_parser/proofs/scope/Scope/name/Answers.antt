use Rattle.std.proofs.Common.{subst}
use Rattle.std.specs.Option.{IfNone}
use Rattle.std.proofs.lemmas.Option.{IfSome_then}
use Rattle.text_parser.specs.ScopeParts.{ScopeParts, IsNameOf, IsUnnamed}
use Rattle.text_parser.proofs.scope.Scope.name.Goals as goal

pub returns-clause-named : goal.returns-clause-named
returns-clause-named c =
    IfSome_then c.name.result c.name.ensures.means (λ text means. subst (λ (w : ScopeParts). IsNameOf w text.now c.args.meaning) c.self.view_is (record {
      means = means;
      identifier = c.self.invariant.identifiers text.now c.args.meaning means;
      only = λ other e. c.self.invariant.one_name text.now other c.args.meaning means e;
    }))

pub returns-clause-unnamed : goal.returns-clause-unnamed
returns-clause-unnamed c = subst (λ (w : ScopeParts). IfNone c.name.result (IsUnnamed w c.args.meaning)) c.self.view_is c.name.ensures.none
