use Rattle.std.proofs.Common.{◌≡◌, ℕ, List, map, rules, tests}
use Rattle.std.specs.Borrow.{Bor}
use Rattle.std.specs.List.{slice_split}
use Rattle.std.proofs.lemmas.Result.{IfOk-at_ok}
use Rattle.std.proofs.lemmas.Iterator.Consumers.{map_from_collect}
use Rattle.std.proofs.lemmas.Iterator.Splits.{YieldsList-from_slice_split}
use Rattle.certificate.specs.Forms.{is_bar}
use Rattle.certificate.proofs.PairForms.{parts_texts}
use Rattle.certificate.proofs.entry.between_bars.Goals as goal

pub returns : goal.returns
returns c =
    parts_texts _ c.args.words.now
    (IfOk-at_ok (λ v. map (λ (part : Bor (List (Bor (List ℕ)))). part.now) v.items ≡ slice_split (λ (w : Bor (List ℕ)). is_bar w.now) c.args.words.now) c.in_ok-collect.was
    (map_from_collect _ c.collect.ensures.ran
    (YieldsList-from_slice_split _ (λ (w : Bor (List ℕ)). is_bar w.now) c.args.words.now c.split.ensures.rest c.split.ensures.done c.split.ensures.closure (λ x r q k. search (rules, tests)))))
