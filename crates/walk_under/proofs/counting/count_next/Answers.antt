use Rattle.walk_under.proofs.counting.count_next.Goals as goal

pub count_like-requires-clause-place : goal.count_like-requires-clause-place
count_like-requires-clause-place c = (c.requires.broken c.next_place-place.result c.next_place-place.ensures).0

pub count_like-requires-clause-uncounted : goal.count_like-requires-clause-uncounted
count_like-requires-clause-uncounted c = (c.requires.broken c.next_place-place.result c.next_place-place.ensures).1

pub returns-clause-some : goal.returns-clause-some
returns-clause-some c = (c.next_place-place.result, c.next_place-place.ensures, c.count_like.ensures.place)
