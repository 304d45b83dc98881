-- A case in numbered places: its numbers, and where its slices start and end.
use Rattle.std.specs.Prelude.{ℕ, ◌+◌, ◌-◌, Bool, false, not, eqb, get_or, set, replicate}
use Rattle.replay_slots.specs.declared.case.Case.{Case}

-- a case of which nothing is read
abbrev pub nothing : Case
nothing = record { short = false; numbers = replicate 16 0; starts = replicate 32 0; ends = replicate 32 0 }

-- number k, and whether it is not 0
abbrev pub number_of : Case → ℕ → ℕ
number_of case k = get_or case.numbers k 0

abbrev pub flag_of : Case → ℕ → Bool
flag_of case k = not (eqb (number_of case k) 0)

-- where the slice at place k starts, and where it ends
abbrev pub start_of : Case → ℕ → ℕ
start_of case k = get_or case.starts k 0

abbrev pub end_of : Case → ℕ → ℕ
end_of case k = get_or case.ends k 0

-- how many cells slice k of those that may change has, which are at the places from 16 on
abbrev pub length_of : Case → ℕ → ℕ
length_of case k = end_of case (16 + k) - start_of case (16 + k)

-- the case with number k, and with a slice at place k; where there is no such place, the case as it is
abbrev pub numbered : Case → ℕ → ℕ → Case
numbered case k value =
    record { short = case.short; numbers = set case.numbers k value; starts = case.starts; ends = case.ends }

abbrev pub placed : Case → ℕ → ℕ → ℕ → Case
placed case k start end =
    record { short = case.short; numbers = case.numbers; starts = set case.starts k start; ends = set case.ends k end }
