-- Values along a list, each computed from all earlier ones: course-of-values recursion.
use Rattle.std.specs.Prelude.{List, [], ◌∷◌, ◌++◌}

-- the values so far, followed by the values of these elements
abbrev pub continued : {X Y : Type 0} → (List Y → X → Y) → List Y → List X → List Y
continued step values [] = values
continued step values (x ∷ xs) = continued step (values ++ step values x ∷ []) xs

-- the values of all elements, in order
abbrev pub course_of_values : {X Y : Type 0} → (List Y → X → Y) → List X → List Y
course_of_values step xs = continued step [] xs
