-- How the program ends.
use Rattle.std.specs.Prelude.{◌≡◌, ℕ, ◌≤◌, ◌<◌, List, ◌++◌, length, codes, ⊤, Option, Some, None, IsSome, IfSome}
use Rattle.std.specs.Prelude.{IsUtf8}
use Rattle.std.specs.Io.KnownBytes.{Keeps, Appends}
use Rattle.md_engine.specs.declared.configuration.ParseOptions.{ParseOptions}
use Rattle.md_program.specs.Sets.{options_of, set_asked_for}
use Rattle.md_program.specs.declared.body.TheConstants.{MOST}
use Rattle.md_program.specs.declared.failure.Failure.{Failure}
use Rattle.md_program.specs.declared.failure.Failure.TheVariants.{UnknownArgument, NotUtf8, TooLong, OutOfMemory}
use Rattle.md_program.specs.declared.failure.Failure.TheVariants.{ReadFailed, WriteFailed}
use Rattle.md_program.specs.declared.set.Set.{Set}

-- the status after a failure
abbrev pub failed_status : Failure → ℕ
failed_status UnknownArgument = 2
failed_status NotUtf8 = 2
failed_status TooLong = 2
failed_status OutOfMemory = 3
failed_status ReadFailed = 4
failed_status WriteFailed = 4

-- what is said of a failure, after the program's name
abbrev pub reason : Failure → List ℕ
reason UnknownArgument = codes ": unknown argument\n"
reason NotUtf8 = codes ": not UTF-8\n"
reason TooLong = codes ": too long\n"
reason OutOfMemory = codes ": out of memory\n"
reason ReadFailed = codes ": read failed\n"
reason WriteFailed = codes ": write failed\n"

-- the line on the standard error after a failure of the program of this name
abbrev pub message : List ℕ → Failure → List ℕ
message name failure = name ++ reason failure

-- the known bytes of a writer have grown by a beginning of bs
abbrev pub AppendsBeginning : Option (List ℕ) → Option (List ℕ) → List ℕ → Type 0
AppendsBeginning old new bs = (front : List ℕ) × (back : List ℕ) × (bs ≡ front ++ back) × Appends old new front

-- a reader whose bytes may be known had these and no more, and they are not too many
pub record Gives (input : Option (List ℕ)) (bytes : List ℕ) : Type 0 where
  pub all : IfSome input (λ known. bytes ≡ known)
  pub size : length bytes ≤ MOST

-- how reading a whole input can fail: only a long one is too long
abbrev pub FailsRead : Option (List ℕ) → Failure → Type 0
FailsRead input OutOfMemory = ⊤
FailsRead input ReadFailed = ⊤
FailsRead input TooLong = IfSome input (λ known. MOST < length known)
FailsRead input UnknownArgument = ⊥
FailsRead input NotUtf8 = ⊥
FailsRead input WriteFailed = ⊥

-- the input, whose bytes may be known, was a text, and these bytes are what is printed of it under a set
pub record Shows (prints : List ℕ → ParseOptions → List ℕ → Type 0) (input : Option (List ℕ)) (set : Set)
    (bytes : List ℕ) : Type 0 where
  pub text : List ℕ
  pub read : Gives input text
  pub utf8 : IsUtf8 text
  pub shown : prints text (options_of set) bytes

-- the arguments ask for a set, and these bytes are shown under it
pub record Prints (shows : Set → List ℕ → Type 0) (asked : Option Set) (bytes : List ℕ) : Type 0 where
  pub set : Set
  pub known : asked ≡ Some set
  pub shown : shows set bytes

-- why the program stops before it writes: `input` and `left` are what it could read before and after
abbrev pub Stops : Option Set → Option (List ℕ) → Option (List ℕ) → Failure → Type 0
Stops asked input left UnknownArgument = (asked ≡ None) × Keeps input left
Stops asked input left NotUtf8 = IsSome asked × IfSome input (λ known. ¬ IsUtf8 known)
Stops asked input left TooLong = IsSome asked × IfSome input (λ known. MOST < length known)
Stops asked input left OutOfMemory = IsSome asked
Stops asked input left ReadFailed = IsSome asked
Stops asked input left WriteFailed = ⊥

-- what the program has read and written, by how it ended: `input` and `left` are what it could read before and after,
-- `held` and `holds` what the output held before and after
abbrev pub Ran : (Set → List ℕ → Type 0) → Option Set → Option (List ℕ) → Option (List ℕ) → Option (List ℕ) →
    Option (List ℕ) → Option Failure → Type 0
Ran shows asked input left held holds None = (bytes : List ℕ) × Prints shows asked bytes × Appends held holds bytes
Ran shows asked input left held holds (Some WriteFailed) =
    (bytes : List ℕ) × Prints shows asked bytes × AppendsBeginning held holds bytes
Ran shows asked input left held holds (Some failure) = Stops asked input left failure × Keeps held holds

-- the status that the program ends with
abbrev pub status : Option Failure → ℕ
status None = 0
status (Some failure) = failed_status failure

-- what the program of this name says on the standard error: a write there may fail
abbrev pub Reports : List ℕ → Option (List ℕ) → Option (List ℕ) → Option Failure → Type 0
Reports name said says None = Keeps said says
Reports name said says (Some failure) = AppendsBeginning said says (message name failure)

-- a run of the program of this name with these arguments: what it may print of a text, the bytes that its input, output
-- and standard error are known to have before and after, and its status
pub record Runs (name : List ℕ) (prints : List ℕ → ParseOptions → List ℕ → Type 0) (args : List (List ℕ))
    (input left held holds said says : Option (List ℕ)) (ended : ℕ) : Type 0 where
  pub failure : Option Failure
  pub ending : ended ≡ status failure
  pub reporting : Reports name said says failure
  pub running : Ran (Shows prints input) (set_asked_for args) input left held holds failure
