use Rattle.walk_under.proofs.walk.TestedWorklist.merge.Goals as goal

pub merged_pairs-requires : goal.merged_pairs-requires
merged_pairs-requires c = record { tests = λ e h. (c.requires.1.entries e h).test }
