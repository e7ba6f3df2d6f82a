-- The state of a sink in memory: its room, the bytes taken, the calls that must fail, and the counts so far.
use Rattle.std.specs.Prelude.{ℕ, ◌-◌, Bool, ◌==◌, ◌&&◌, ◌||◌, not, if◌then◌else◌, List, ◌++◌, length, take, min, Result, Ok, Err}
use Rattle.std.specs.List.{list_any}
use Rattle.kat_io.specs.declared.outside.Failed.{Failed}
use Rattle.kat_io.specs.Outside.{one_more}

pub record SinkState : Type 0 where
  pub room : ℕ
  pub most : ℕ
  pub taken : List ℕ
  pub schedule : List ℕ
  pub calls : ℕ
  pub faults : ℕ

-- whether the call of this number must fail
abbrev pub is_due : List ℕ → ℕ → Bool
is_due schedule call = list_any (λ due. due == call) schedule

abbrev pub room_left : SinkState → ℕ
room_left s = s.room - length s.taken

-- a put fails if its call is due, or if the piece is not empty and there is no room
abbrev pub put_fails : SinkState → List ℕ → Bool
put_fails s piece = is_due s.schedule s.calls || (room_left s == 0 && not (length piece == 0))

-- the number of bytes that a put takes unless it fails
abbrev pub count_taken : SinkState → List ℕ → ℕ
count_taken s piece = min (min (length piece) s.most) (room_left s)

-- the result of a put
abbrev pub put_gives : SinkState → List ℕ → Result ℕ Failed
put_gives s piece = if put_fails s piece then Err (record {}) else Ok (count_taken s piece)

-- the state after a put
abbrev pub after_put : SinkState → List ℕ → SinkState
after_put s piece =
    if put_fails s piece then record s { calls = one_more s.calls; faults = one_more s.faults }
    else record s { calls = one_more s.calls; taken = s.taken ++ take (count_taken s piece) piece }
