-- The rows that are kept while others take their places, the first two of them without a list.
use Rattle.std.specs.Prelude.{◌==◌, ◌<◌, List, ◌++◌, Option, None, Some, Bool, false, option_to_list, vec_len, vec_capacity}
use Rattle.std.specs.Borrow.{Bor}
use Rattle.occ_types.specs.declared.objects.Object as code_object
use Rattle.occ_types.specs.Row.{Row}
use Rattle.occ_book.specs.declared.kept_rows.KeptRows as code

module _ {Z : Type 0} where
  -- all that is kept, the oldest first
  abbrev pub all_kept : code.KeptRows Z → List (Bor (code_object.Object Z) × Option Row)
  all_kept kept = option_to_list kept.first ++ option_to_list kept.second ++ kept.more.items

  -- one more is kept without the list
  abbrev pub is_short : code.KeptRows Z → Bool
  is_short kept = elim kept.second [ None ↦ vec_len kept.more == 0 | Some row ↦ false ]

  -- one more is kept in the list, which has room for it
  abbrev pub HasRoom : code.KeptRows Z → Type 0
  HasRoom kept = vec_len kept.more < vec_capacity kept.more
