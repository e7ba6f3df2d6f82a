use Rattle.std.proofs.Common.{◌<◌, ◌+◌}
use Rattle.std.specs.Option.{option_map}
use Rattle.cert_checker.specs.Working.Places.{IsFirstOf, place_reason}
use Rattle.cert_checker.specs.Passes.{IsPass, PassGrows}
use Rattle.cert_checker.proofs.places.first_place.Given as goal

abbrev pub invariant-loop-action : goal.invariant-loop-action
invariant-loop-action l = record {
  pass : IsPass l.pass;
  grows : PassGrows l.fn.pass l.pass;
  place : IsFirstOf l.fn.pass.problem l.fn.pass.cert (λ n. n < l.action + 1) (option_map (place_reason l.fn.pass.cert.style) l.place);
}
