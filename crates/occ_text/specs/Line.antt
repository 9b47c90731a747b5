-- The lines of a text, one after another (our own choice: a line ends at a line feed and has at most 8,192 bytes before it).
use Rattle.std.specs.Prelude.{◌≡◌, ◌≢◌, ◌<◌, ◌≤◌, ◌+◌, ◌-◌, ◌^◌, ◌⊎◌, ℕ, Bool, true, List, [], ◌∷◌, ◌++◌, Option, Result, Ok, Err, IfSome, All, length}
use Rattle.std.specs.List.{flat_map}
use Rattle.std.specs.Io.KnownBytes.{Consumes, Keeps, IsAtEnd}
use Rattle.occ_text.specs.declared.input.Next.{Next}
use Rattle.occ_text.specs.declared.input.Next.TheVariants.{Line, End}
use Rattle.occ_text.specs.declared.input.Piece.{Piece}
use Rattle.occ_text.specs.declared.input.Piece.TheVariants.{Whole, Part, Long, Nothing}
use Rattle.occ_text.specs.declared.faults.ReadFailed.{ReadFailed}
use Rattle.occ_text.specs.declared.faults.LineFault.{LineFault}
use Rattle.occ_text.specs.declared.faults.LineFault.TheVariants.{Read, TooManyLines, Malformed}
use Rattle.occ_text.specs.declared.faults.ReadFault.{ReadFault}
use Rattle.occ_text.specs.declared.faults.ReadFault.TheVariants as faults
use Rattle.occ_text.specs.Faults.{read_fault}

-- a text is its lines, each with one line feed behind it (our own choice)
abbrev pub lines_text : List (List ℕ) → List ℕ
lines_text lines = flat_map (λ line. line ++ 10 ∷ []) lines

-- an input without where it lies in memory: what was read and not yet taken, the last line taken, how many lines were taken, and whether the reader failed
pub record Source : Type 0 where
  pub unread : List ℕ
  pub line : List ℕ
  pub number : ℕ
  pub failed : Bool

-- the reader failed, and all that it gave before is taken
pub record HasFailed (input : Source) : Type 0 where
  pub failed : input.failed ≡ true
  pub emptied : input.unread ≡ []

-- no byte is a line feed
abbrev pub HasNoFeed : List ℕ → Type 0
HasNoFeed bytes = All (λ byte. byte ≢ 10) bytes

-- what may stand before a line feed
pub record IsLine (bytes : List ℕ) : Type 0 where
  pub no_feed : HasNoFeed bytes
  pub short : length bytes ≤ 8192

-- no line stands at the front: more than 8,192 bytes come with no line feed, or the text ends in a rest without one
pub record BeginsNoLine (bytes : List ℕ) : Type 0 where
  pub front : List ℕ
  pub rest : List ℕ
  pub parts : bytes ≡ front ++ rest
  pub no_feed : HasNoFeed front
  pub long_or_torn : (8192 < length front) ⊎ ((0 < length front) × (rest ≡ []))

-- what the next line is, by the outcome, where `before` and `after` are the bytes still to come
abbrev pub LineGives : Result Next LineFault → Option (List ℕ) → Option (List ℕ) → Source → Source → Type 0
LineGives (Ok Line) before after old new = Consumes before after (new.line ++ 10 ∷ []) × IsLine new.line × (new.number ≡ old.number + 1)
LineGives (Ok End) before after old new = IsAtEnd before × Keeps before after × (new.number ≡ old.number) × (old.number < 2 ^ 64 - 1)
LineGives (Err (Malformed line)) before after old new = IfSome before BeginsNoLine × (line ≡ old.number + 1) × (new.number ≡ old.number)
-- a read failed: what is lost is a part of a line
LineGives (Err Read) before after old new = (part : List ℕ) × IsLine part × Consumes before after part × (new.number ≡ old.number)
-- the next line has no number
LineGives (Err TooManyLines) before after old new = Keeps before after × (old.number ≡ 2 ^ 64 - 1) × (new.number ≡ old.number)

-- what is taken of the unread bytes for a line, at least one of them
abbrev pub TakesPiece : Piece → Source → Source → Type 0
TakesPiece Whole old new = (piece : List ℕ) × (old.unread ≡ piece ++ 10 ∷ new.unread) × HasNoFeed piece × (new.line ≡ old.line ++ piece) × (length new.line ≤ 8192)
TakesPiece Part old new = (new.unread ≡ []) × HasNoFeed old.unread × (new.line ≡ old.line ++ old.unread) × (length new.line ≤ 8192)
TakesPiece Long old new = (piece : List ℕ) × (rest : List ℕ) × (old.unread ≡ piece ++ rest) × HasNoFeed piece × (8192 < length (old.line ++ piece))
TakesPiece Nothing old new = ⊥

-- what the next piece of a line is, by the outcome
abbrev pub PieceGives : Result Piece ReadFailed → Option (List ℕ) → Option (List ℕ) → Source → Source → Type 0
PieceGives (Ok Whole) before after old new = (piece : List ℕ) × Consumes before after (piece ++ 10 ∷ []) × HasNoFeed piece × (new.line ≡ old.line ++ piece) × (length new.line ≤ 8192)
PieceGives (Ok Part) before after old new = (piece : List ℕ) × Consumes before after piece × HasNoFeed piece × (0 < length piece) × (new.line ≡ old.line ++ piece) × (length new.line ≤ 8192)
PieceGives (Ok Long) before after old new = (piece : List ℕ) × (rest : Option (List ℕ)) × Consumes before rest piece × HasNoFeed piece × (8192 < length (old.line ++ piece))
PieceGives (Ok Nothing) before after old new = Keeps before after × IsAtEnd after × (new.line ≡ old.line)
PieceGives (Err failed) before after old new = Keeps before after × (new.line ≡ old.line)

-- what all pieces of a line are together, by the outcome
abbrev pub GatherGives : Result Piece ReadFailed → Option (List ℕ) → Option (List ℕ) → List ℕ → Type 0
GatherGives (Ok Whole) before after line = Consumes before after (line ++ 10 ∷ []) × IsLine line
GatherGives (Ok Part) before after line = ⊥
GatherGives (Ok Long) before after line = (front : List ℕ) × (rest : Option (List ℕ)) × Consumes before rest front × HasNoFeed front × (8192 < length front)
GatherGives (Ok Nothing) before after line = Consumes before after line × IsAtEnd after × IsLine line
GatherGives (Err failed) before after line = Consumes before after line × IsLine line

-- ---- taking the line that has to stand next

-- what stands next is no line of a kind: the text is at its end, or no line stands there, or another one
pub data CannotStand (IsKind : List ℕ → Type 0) (rest : Option (List ℕ)) : Type 0 where
  AtEnd : IsAtEnd rest → CannotStand IsKind rest
  NoLine : IfSome rest BeginsNoLine → CannotStand IsKind rest
  OtherLine : (line : List ℕ) (after : Option (List ℕ)) → Consumes rest after (line ++ 10 ∷ []) → IsLine line → (IsKind line → ⊥) → CannotStand IsKind rest

-- no line of a kind is taken, behind so many lines: another one stands there, or none, or the read failed amid it, or it has no number
abbrev pub NoneTaken : (List ℕ → Type 0) → ReadFault → Option (List ℕ) → Option (List ℕ) → ℕ → Type 0
NoneTaken IsKind (faults.Malformed n) before after taken = CannotStand IsKind before × (n ≡ taken + 1)
NoneTaken IsKind faults.Read before after taken = (part : List ℕ) × IsLine part × Consumes before after part
NoneTaken IsKind faults.TooManyLines before after taken = taken ≡ 2 ^ 64 - 1
NoneTaken IsKind faults.Memory before after taken = Unit {0}

-- any line is taken
abbrev pub LineTaken : {X : Type 0} → Result X LineFault → Option (List ℕ) → Option (List ℕ) → Source → Source → Type 0
LineTaken (Ok x) before after old new = Consumes before after (new.line ++ 10 ∷ []) × (new.number ≡ old.number + 1) × IsLine new.line
LineTaken (Err fault) before after old new = NoneTaken (λ line. Unit {0}) (read_fault fault) before after old.number

-- a line is one of a grammar
abbrev pub IsSpelled : {Y : Type 0} → (Y → List ℕ) → (Y → Type 0) → List ℕ → Type 0
IsSpelled spell fits line = (y : _) × fits y × (line ≡ spell y)

-- a line of a grammar is taken, where first and last are how many lines were taken before and after
abbrev pub Taken : {X Y : Type 0} (view : X → Y) (spell : Y → List ℕ) (fits : Y → Type 0) → Result X ReadFault → Option (List ℕ) → Option (List ℕ) → ℕ → ℕ → Type 0
Taken view spell fits (Ok x) before after first last = Consumes before after (spell (view x) ++ 10 ∷ []) × fits (view x) × (last ≡ first + 1)
Taken view spell fits (Err fault) before after first last = NoneTaken (IsSpelled spell fits) fault before after first
