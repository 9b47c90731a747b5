-- Languages of texts: which lines may stand at a place of a text, and where each leads. A text is malformed at the first line that can't stand, and what taking its lines leaves is told by its outcome.
use Rattle.std.specs.Prelude.{◌≡◌, ◌^◌, ◌-◌, ◌+◌, ℕ, List, [], ◌∷◌, length, Option, Result, Ok, Err, IfSome}
use Rattle.std.specs.Io.KnownBytes.{Consumes, Keeps, IsAtEnd, prepend_known}
use Rattle.occ_text.specs.declared.faults.ReadFault.{ReadFault}
use Rattle.occ_text.specs.declared.faults.ReadFault.TheVariants as faults
use Rattle.occ_text.specs.Headers.{Within, count_text}
use Rattle.occ_text.specs.Line.{Source, IsLine, CannotStand, lines_text}

-- ---- which lines may stand

-- the lines that may stand at a place: what each tells, how it is spelled, which fit, and where each leads
pub record Grammar (Place : Type 0) : Type 1 where
  pub Told : Type 0
  pub spell : Told → List ℕ
  pub fits : Told → Type 0
  pub to : Told → Place

abbrev pub lines_of : {Place Y : Type 0} → (Y → List ℕ) → (Y → Type 0) → (Y → Place) → Grammar Place
lines_of {Y = Y} spell fits to = record { Told = Y; spell = spell; fits = fits; to = to }

abbrev pub counts_of : {Place : Type 0} → List ℕ → ℕ → ℕ → (ℕ → Place) → Grammar Place
counts_of word least most to = lines_of (count_text word) (Within least most) to

-- the places of a text, the lines that may stand at each, and where a text may end
pub record Language : Type 1 where
  pub Place : Type 0
  pub grammar : Place → Grammar Place
  pub MayEnd : Place → Type 0

-- ---- places in a text

-- a position in a text: what is left of it, where that is known, and how many lines stand before it
pub record Position : Type 0 where
  pub left : Option (List ℕ)
  pub number : ℕ

abbrev pub point : Option (List ℕ) → ℕ → Position
point left number = record { left = left; number = number }

-- the beginning of a text
abbrev pub start : Option (List ℕ) → Position
start text = point text 0

-- where an input is, of whose reader so much is still to come
abbrev pub position_of : Source → Option (List ℕ) → Position
position_of input coming = point (prepend_known input.unread coming) input.number

-- nothing was taken
abbrev pub Stays : Position → Position → Type 0
Stays before after = Keeps before.left after.left × (after.number ≡ before.number)

-- ---- what taking lines leaves

module _ (language : Language) where
  abbrev pub Leads : language.Place → List ℕ → language.Place → Type 0
  Leads place line next = let g = language.grammar place in (told : g.Told) × g.fits told × (line ≡ g.spell told) × (next ≡ g.to told)

  -- a line that leads on from a place
  abbrev pub LeadsOn : language.Place → List ℕ → Type 0
  LeadsOn place line = (next : language.Place) × Leads place line next

  -- some lines lead from a place to another one
  abbrev pub LeadOn : language.Place → List (List ℕ) → language.Place → Type 0
  LeadOn from [] to = to ≡ from
  LeadOn from (line ∷ lines) to = (next : language.Place) × Leads from line next × LeadOn next lines to

  -- where the text is known, it doesn't end where it may end
  abbrev pub Unended : Option (List ℕ) → language.Place → Type 0
  Unended rest place = IfSome rest (λ bytes. bytes ≡ [] → language.MayEnd place → ⊥)

  -- these lines were taken, and lead from a place to another one
  pub record Took (from to : language.Place) (before after : Position) (lines : List (List ℕ)) : Type 0 where
    pub taken : Consumes before.left after.left (lines_text lines)
    pub leads : LeadOn from lines to
    pub number : after.number ≡ before.number + length lines

  -- some lines lead from a place to another one, at which no line of the language stands next, so that the text is malformed at it
  pub record Stopped (from : language.Place) (before : Position) (number : ℕ) : Type 0 where
    pub place : language.Place
    pub rest : Position
    pub lines : List (List ℕ)
    pub took : Took from place before rest lines
    pub stuck : CannotStand (LeadsOn place) rest.left
    pub unended : Unended rest.left place
    pub here : number ≡ rest.number + 1

  -- a read failed behind some lines that lead on and a part of another
  pub record Torn (from : language.Place) (before : Position) (after : Option (List ℕ)) : Type 0 where
    pub place : language.Place
    pub rest : Position
    pub lines : List (List ℕ)
    pub took : Took from place before rest lines
    pub part : List ℕ
    pub lost : Consumes rest.left after part
    pub torn : IsLine part

  -- all lines that have a number of 64 bits lead from a place to another one
  pub record Uncounted (from : language.Place) (before : Position) : Type 0 where
    pub place : language.Place
    pub rest : Position
    pub lines : List (List ℕ)
    pub took : Took from place before rest lines
    pub here : rest.number ≡ 2 ^ 64 - 1

  -- what is left of a text where its lines aren't taken from a place on
  abbrev pub FailsFrom : ReadFault → language.Place → Position → Option (List ℕ) → Type 0
  FailsFrom (faults.Malformed number) from before after = Stopped from before number
  FailsFrom faults.Read from before after = Torn from before after
  FailsFrom faults.TooManyLines from before after = Uncounted from before
  FailsFrom faults.Memory from before after = Unit {0}

  -- the same where the lines before lead to a place of a kind
  abbrev pub FailsAt : (language.Place → Type 0) → ReadFault → language.Place → Position → Option (List ℕ) → Type 0
  FailsAt IsKind (faults.Malformed number) from before after = (stopped : Stopped from before number) × IsKind stopped.place
  FailsAt IsKind faults.Read from before after = (torn : Torn from before after) × IsKind torn.place
  FailsAt IsKind faults.TooManyLines from before after = (uncounted : Uncounted from before) × IsKind uncounted.place
  FailsAt IsKind faults.Memory from before after = Unit {0}

  -- what taking lines from a place leaves, by its outcome: the lines of what was read, which fits
  abbrev pub TakesFrom : {X : Type 0} → Result X ReadFault → language.Place → (X → language.Place) → (X → List (List ℕ)) → (X → Type 0) → Position → Position → Type 0
  TakesFrom (Ok x) from to lines fits before after = Took from (to x) before after (lines x) × fits x
  TakesFrom (Err fault) from to lines fits before after = FailsFrom fault from before after.left

  -- lines lead from a place to another one, where a text may end, and there the text ends
  pub record Ended (from : language.Place) (before : Position) : Type 0 where
    pub place : language.Place
    pub rest : Position
    pub lines : List (List ℕ)
    pub took : Took from place before rest lines
    pub may : language.MayEnd place
    pub whole : IsAtEnd rest.left

  -- what taking all lines of a text from a place on leaves, by its outcome
  abbrev pub EndsFrom : {X : Type 0} → Result X ReadFault → language.Place → Position → Option (List ℕ) → Type 0
  EndsFrom (Ok x) from before after = Ended from before
  EndsFrom (Err fault) from before after = FailsFrom fault from before after
