-- Objects in their order, in which a range is found by a search.
use Rattle.std.specs.Prelude.{◌≡◌, ℕ, Bool, ◌&&◌, ◌||◌, ◌==◌, not, nat_lt, List, Option, IsSorted}
use Rattle.std.specs.List.{list_any}
use Rattle.std.specs.Ordering.{on}
use Rattle.occ_types.specs.declared.objects.Object as code_object
use Rattle.occ_types.specs.Key.{Key}
use Rattle.occ_types.specs.Object.{Object, object_cmp}
use Rattle.occ_types.specs.Question.{Question, One, Span, asks, is_from}
use Rattle.occ_types.specs.PlainData.{object_of}
use Rattle.occ_model.specs.State.{Write, meets_question}

-- whether an object stands before a range of a table
abbrev pub stands_before : ℕ → Option Key → Object → Bool
stands_before table lower object = nat_lt object.0 table || ((object.0 == table) && not (is_from lower object.1))

-- a question for a range of a table from a lower end on
abbrev pub IsRangeFrom : ℕ → Option Key → Question → Type 0
IsRangeFrom table lower (One other key) = ⊥
IsRangeFrom table lower (Span other end upper) = (other ≡ table) × (end ≡ lower)

module _ {Z : Type 0} where
  -- objects in their order, of which a question asks for some where it asks for some of those that are written
  pub record FindsRanges (objects : List (code_object.Object Z)) (writes : List Write) : Type 0 where
    pub sorted : IsSorted (on object_of object_cmp) objects
    pub same : (question : Question) → list_any (λ o. asks question (object_of o)) objects ≡ meets_question writes question
