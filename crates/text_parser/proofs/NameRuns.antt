-- The run of characters that continue a name.
use Rattle.std.proofs.Common.{◌≡◌, ◌≤◌, ℕ, List, length, drop, take, Bool, true, not, sym, arith, subst}
use Rattle.std.proofs.lemmas.Bool.{not-true}
use Rattle.std.specs.Str.{NoCharPasses, IsCharBoundary}
use Rattle.std.specs.Str.Pattern.{HasCharAt}
use Rattle.std.proofs.Math.Seq.{take-length}
use Rattle.std.proofs.lemmas.Str.{IsCharBoundary-end}
use Rattle.unicode_ident.specs.Ident.{is_xid_continue}
use Rattle.text_parser.specs.Working.Fronts.{IsNameLen}

abbrev pub ends_run : ℕ → Bool
ends_run c = not (is_xid_continue c)

-- the run ends at the first character that the search found
pub run_to : (bytes : List ℕ) (n to : ℕ) → n ≤ length bytes → IsCharBoundary bytes n → NoCharPasses ends_run (take n bytes) × ((c : ℕ) × (ends_run c ≡ true) × HasCharAt c bytes n to) → IsNameLen bytes n
run_to bytes n to within cut (run, (c, ends, here)) =
    record { within = within; cut = cut; run = run; ends = λ _. (c, drop to bytes, here.split, not-true _ ends) }

-- without such a character the whole text is the run
pub run_whole : (bytes : List ℕ) → NoCharPasses ends_run bytes → IsNameLen bytes (length bytes)
run_whole bytes run = record {
  within = omega arith;
  cut = IsCharBoundary-end bytes;
  run = subst (NoCharPasses ends_run) (sym (take-length bytes)) run;
  ends = λ less. absurd (omega (arith, less));
}
