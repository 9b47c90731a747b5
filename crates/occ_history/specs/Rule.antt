-- The rule of a story: what holds between any two steps (our own choice).
use Rattle.std.specs.Prelude.{◌≡◌, ◌≢◌, ℕ, ◌+◌, ◌<◌, ◌≤◌, Bool, true, false, ◌||◌, List, [], ◌∷◌}
use mathlib.Core.Option.{some}
use mathlib.Core.List.{IsPrefix}
use lib.ListN.{get_elem?}
use Rattle.atomic_table.specs.Table.{State, Me}
use Rattle.atomic_table.specs.Seated.{TableId}
use Rattle.occ_model.specs.Event.{Event}
use Rattle.occ_history.specs.History.{Party, Nobody, Session, FrontView, StoryView, absent, session_of, is_of, IsHere, IsWhole}

-- what one knows who has a part in a story
pub data Known : Type 0 where
  -- the keeper's: the whole history
  Keeps : StoryView → Known
  -- a front's
  Sees : FrontView → Known
  -- the keeper's, and a front's that is shown to it
  Shows : StoryView → FrontView → Known
  -- two fronts side by side
  Compares : FrontView → FrontView → Known
  -- a pass that was taken in by another
  Spent : Known

abbrev pub unwritten : StoryView
unwritten = record { log = []; sessions = 0 }

-- the story once the next session has a front
abbrev pub one_more : StoryView → StoryView
one_more story = record story { sessions = story.sessions + 1 }

abbrev pub next_front : StoryView → FrontView
next_front story = record { party = Session (story.sessions + 1); seen = story.log }

abbrev pub visitor : StoryView → FrontView
visitor story = record { party = Nobody; seen = story.log }

abbrev pub kept_by : Known → StoryView
kept_by (Keeps story) = story
kept_by (Sees front) = unwritten
kept_by (Shows story front) = story
kept_by (Compares one two) = unwritten
kept_by Spent = unwritten

abbrev pub front_by : Known → FrontView
front_by (Keeps story) = absent
front_by (Sees front) = front
front_by (Shows story front) = front
front_by (Compares one two) = one
front_by Spent = absent

abbrev pub other_by : Known → FrontView
other_by (Keeps story) = absent
other_by (Sees front) = absent
other_by (Shows story front) = absent
other_by (Compares one two) = two
other_by Spent = absent

-- A front has seen a beginning of the history, with all events of its own, and is that of a session that the story knows.
pub record IsOf (story : StoryView) (front : FrontView) : Type 0 where
  pub begins : IsPrefix front.seen story.log
  pub whole : IsWhole front story.log
  pub within : (event : Event) → is_of front.party event ≡ true → (0 < session_of event) × (session_of event ≤ story.sessions)

-- no event is both parties' own
pub record AreApart (one two : Party) : Type 0 where
  pub first : (event : Event) → is_of one event ≡ true → is_of two event ≡ false
  pub second : (event : Event) → is_of two event ≡ true → is_of one event ≡ false

-- what is known is so
abbrev pub IsTrue : StoryView → Known → Type 0
IsTrue story (Keeps kept) = kept ≡ story
IsTrue story (Sees front) = IsOf story front
IsTrue story (Shows kept front) = (kept ≡ story) × IsOf story front
IsTrue story (Compares one two) = IsOf story one × IsOf story two × AreApart one.party two.party
IsTrue story Spent = Unit {0}

abbrev pub keeps_it : Known → Bool
keeps_it (Keeps story) = true
keeps_it (Sees front) = false
keeps_it (Shows story front) = true
keeps_it (Compares one two) = false
keeps_it Spent = false

-- whose events are known in full
abbrev pub owns : Known → Event → Bool
owns (Keeps story) event = false
owns (Sees front) event = is_of front.party event
owns (Shows story front) event = is_of front.party event
owns (Compares one two) event = is_of one.party event || is_of two.party event
owns Spent event = false

-- one keeper at most, and no event is two parties' own
pub record IsApart (these those : Known) : Type 0 where
  pub keeper : keeps_it these ≡ true → keeps_it those ≡ false
  pub parties : (event : Event) → owns these event ≡ true → owns those event ≡ false

pub record AreRuled (story : StoryView) (views : List Known) : Type 0 where
  pub true_of : (seat : ℕ) (known : Known) → get_elem? views seat ≡ some known → IsTrue story known
  pub apart : (one two : ℕ) (these those : Known) → one ≢ two → get_elem? views one ≡ some these → get_elem? views two ≡ some those → IsApart these those

abbrev pub Ruled : State (Unit {0}) Known → Type 0
Ruled state = (story : StoryView) × AreRuled story state.views

-- what a badge knows, if it is one
abbrev pub seen_by : List Known → FrontView
seen_by [] = absent
seen_by (known ∷ others) = front_by known

-- it is none, or that of a front of this story
abbrev pub IsFront : TableId → TableId → List Known → Type 0
IsFront story table [] = Unit {0}
IsFront story table (known ∷ others) =
    (table ≡ story) × (others ≡ []) × (known ≡ Sees (front_by known)) × IsHere (front_by known).party

-- the pass of a front of this story
abbrev pub IsPassOf : TableId → FrontView → TableId → Me (Unit {0}) Known → Type 0
IsPassOf story front table me = (table ≡ story) × (me ≡ (Sees front, [])) × IsHere front.party

-- the keeper's pass of this story, beside its word
abbrev pub IsKept : TableId → StoryView → TableId → TableId → Me (Unit {0}) Known → Type 0
IsKept story kept shelf table me = (table ≡ story) × (shelf ≡ story) × (shelf.words ≡ 1) × (me ≡ (Keeps kept, []))
