-- What a list of operations says of a name, and of a place.
use Rattle.std.specs.Prelude.{ℕ, List, ◌∷◌, Bool, Option, find, map, slice_get, unwrap_or}
use Rattle.std.specs.Borrow.{Bor}
use Rattle.std.specs.Str.{bytes_eq}
use Rattle.std.specs.Option.{option_map}
use Rattle.replay_calls.specs.declared.operations.Operation.{Operation}
use Rattle.replay_calls.specs.declared.operations.Operation.TheVariants.{ReduceFile}
use Rattle.replay_calls.specs.declared.operations.Found.{Found}

-- an operation in a list: its name, the kinds of its parameters, and which it is
abbrev pub Entry : Type 0
Entry = Bor (List ℕ) × Bor (List ℕ) × Operation

-- whether an entry has a name
abbrev pub has_name : List ℕ → Entry → Bool
has_name name (listed, kinds, operation) = bytes_eq listed.now name

-- what an entry says beside its name
abbrev pub said_by : Entry → Operation × List ℕ
said_by (listed, kinds, operation) = (operation, kinds.now)

-- an operation and its kinds
abbrev pub found : Found → Operation × List ℕ
found f = (f.operation, f.kinds.now)

-- the first operation in a list with a name, and its kinds
abbrev pub find_in : List Entry → List ℕ → Option (Operation × List ℕ)
find_in entries name = option_map said_by (find (has_name name) entries)

-- an operation in a constant list, whose references are known by what they hold
abbrev pub Listed : Type 0
Listed = record { now : List ℕ } × record { now : List ℕ } × Operation

-- an entry as a constant list has it
abbrev pub held : Entry → Listed
held (listed, kinds, operation) = (record { now = listed.now }, record { now = kinds.now }, operation)

-- the first operation in a constant list with a name, and its kinds
abbrev pub find_listed : List Listed → List ℕ → Option (Operation × List ℕ)
find_listed entries name =
    option_map (λ (listed, kinds, operation). (operation, kinds.now)) (find (λ (listed, kinds, operation). bytes_eq listed.now name) entries)

-- the operation at a place of a list, counted from 1; what is no place of it means `reduce_file`
abbrev pub operation_at : {A : Type 0} → List (A × A × Operation) → ℕ → Operation
operation_at entries number = unwrap_or (slice_get (ReduceFile ∷ map (λ (name, kinds, operation). operation) entries) number) ReduceFile
