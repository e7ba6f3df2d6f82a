use Rattle.std.proofs.Common.{◌≡◌}
use Rattle.lrat_checker.specs.Working.WordLists.{words_left, last_left, room}
use Rattle.lrat_checker.proofs.words.next_word.Given as goal

abbrev pub invariant-loop-word : goal.invariant-loop-word
invariant-loop-word l = record {
  words : words_left l.words.number l.words.line.now l.words.after ≡ words_left l.initial.words.number l.initial.words.line.now l.initial.words.after;
  last : last_left l.words.number l.words.after ≡ last_left l.initial.words.number l.initial.words.after;
}

abbrev pub decreases-loop-word : goal.decreases-loop-word
decreases-loop-word l = room l.words.after
